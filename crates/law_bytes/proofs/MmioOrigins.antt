-- A trusted write that is stored in the memory of an interface came on the stream of its lock, or on one between
-- devices that it is bound to. In the first case it was sealed at the host's port by a trusted send: it was sealed, its
-- direction is the host's, a host's port sets T as it is asked, and answers and responses seal completions alone.
use Rattle.law_sealing.proofs.Terms.{◌≡◌, ◌⊎◌, inl, inr, ℕ, ◌+◌, ◌<◌, ◌≤◌, ◌==◌, ◌&&◌, ◌||◌, zero, suc, Bool, true}
use Rattle.law_sealing.proofs.Terms.{false, List, [], ◌∷◌, ◌++◌, length, slice_get, nat_le, nat_lt, not, Option, Some}
use Rattle.law_sealing.proofs.Terms.{refl, ap, sym, subst, ◌∙◌, arith, nat_tests, if◌then◌else◌}
use Rattle.law_sealing.proofs.Terms.{cases_Bool, eqb-true, is_some, Plan, SubStream, History, Event, Send, Verdict}
use Rattle.law_sealing.proofs.Terms.{Sealed, Accepted, UnitName, Effect, SealedPacket, Packet, Prefix, PortName}
use Rattle.law_sealing.proofs.Terms.{SubKind, Cpl, received_in, sent_packets, accepted_packets, CauseLaw}
use Rattle.law_sealing.proofs.Terms.{DrawFacts, SealedList, sealed_packets, KeyName, sent_bytes, sending_port}
use Rattle.law_sealing.proofs.Terms.{sealing_is, sealed_by_sealing, FitsPacket, read_of}
use Rattle.std.specs.Prelude.{find}
use Rattle.std.specs.Option.{option_map}
use Rattle.std.proofs.lemmas.Bool.{true≢false}
use Rattle.std.proofs.lemmas.List.{length-take-le}
use Rattle.ide_types.specs.Ports.{host_port, device_port}
use Rattle.ide_types.specs.Sub.{sent_direction, received_direction}
use Rattle.ide_types.specs.declared.direction.Direction.{Direction}
use Rattle.ide_types.specs.declared.direction.Direction.TheVariants.{Downstream, Upstream}
use Rattle.ide_types.specs.declared.port.Side.{Side}
use Rattle.ide_types.specs.declared.port.Side.TheVariants.{Host, Device}
use Rattle.ide_types.specs.Ends.{hop_end, line_has, own_has_id}
use Rattle.ide_types.specs.Fits.{FitsPlan}
use Rattle.spec_keys.specs.Keys.{Keys, key_in, on_in, no_keys}
use Rattle.spec_keys.specs.Operations.{Begun, StreamOperations}
use Rattle.spec_keys.specs.History.{begun_of_draw, place_keys}
unfoldable use Rattle.spec_keys.specs.History.{manager}
use Rattle.spec_keys.proofs.Owners.{owner}
use Rattle.ide_types.specs.declared.binding.Binding.{Binding}
use Rattle.interface_state.specs.declared.states.Lock.{Lock}
use Rattle.interface_state.specs.declared.states.TdiState.{TdiState}
use Rattle.interface_state.specs.declared.states.TdiState.TheVariants as tdi
use Rattle.interface_state.specs.Machine.{DeviceTdi, all_bindings, own_binding, bound_link_stream, lock_of}
use Rattle.interface_state.specs.Bindings.{floor_on, binds, is_binding_on}
use Rattle.spec_interfaces.specs.Sites.{Site, site_at}
use Rattle.spec_interfaces.specs.Devices.{is_run, runs_at, interface_at}
use Rattle.spec_interfaces.specs.Floors.{posted_receiver, device_floor}
use Rattle.spec_interfaces.specs.Cause.{SealFits, t_at, owner_read, owners_link}
use Rattle.spec_interfaces.proofs.Locks.{lock_stands}
use Rattle.spec_interfaces.proofs.OnLinks.{number_on_link}
use Rattle.law_key_facts.proofs.Unplanned.{unplanned_keys}
use Rattle.spec_links.proofs.Terms.{Access}
use Rattle.spec_links.proofs.Ends.{own_port, stream_is_there}
use Rattle.spec_links.specs.Plan.{stream_plan}
use Rattle.spec_links.specs.Hops.{leaving_end}
use Rattle.spec_links.specs.Ports.{port_of, goes_to_hop}
unfoldable use Rattle.spec_links.specs.Ports.{sealing_end}
use Rattle.spec_links.specs.History.{prefix_of, no_packet}
use Rattle.spec_links.specs.Memory.{unit_ended}
use Rattle.law_sealing.proofs.OfPlans.{streams_fit}
use Rattle.law_sealing.proofs.Sums.{in_parts}
use Rattle.law_sealing.proofs.Places.{place_among, placed}
use Rattle.law_sealing.proofs.Sealings.{AllOf, IsSyncOf, live_at, from_at, all_of_sealing}
use Rattle.law_verdicts.proofs.{accepted_known, all_get, bound_secure, cause_at, draws, get_less, interface_cause}
use Rattle.law_verdicts.proofs.{keeps_floors, bind_origin_law, read_law, sent_at}
use Rattle.law_verdicts.specs.{CameFrom, Carries}
use Rattle.law_delivery.specs.NoForgeryUnder.{UnitIsUnforged}
use Rattle.law_delivery.proofs.EachForgery.{of_pairs}
use Rattle.law_bytes.specs.LocalLaws.{LocalMmioOriginLaw}
use Rattle.law_bytes.specs.MmioOrigin.{WasAsked, CameOnBinding, StoresAsked, is_send}
use Rattle.law_memory.specs.Bindings.{is_sent_by_device}
use Rattle.spec_links.proofs.SealingIs.{sealing_manager}
use Rattle.law_key_facts.proofs.SealedKeys.{all_owned}
use Rattle.law_bytes.proofs.SealedBy.{IsAmong, sealed_by, sealed_before, among_these}
use Rattle.law_bytes.proofs.ByteOrigins.{sealed_port, host_device, less_is}
use Rattle.law_bytes.proofs.Posted.{sub_posted, no_response, not_completed}
use Rattle.law_bytes.proofs.Taken.{is_taken}
use Rattle.law_bytes.proofs.NoOtherRun.{no_other_run, no_other_since, made_by}
use Rattle.law_bytes.proofs.PeerEnds.{is_between}
use Rattle.law_bytes.proofs.BindFloors.{bound_floor}
use Rattle.script_events.specs.declared.event.AccessEvent.TheVariants as ae
use Rattle.script_events.specs.declared.event.Event.TheVariants.{Forward}

-- ---- no answer seals it

all_sync : (plan : Plan) (port : PortName) (stream : ℕ) (live : SubKind → Option KeyName) (from : ℕ) (class : SubKind)
    (xs : SealedList) (ds : List SealedPacket) (i : ℕ) (d : SealedPacket) → AllOf plan port stream live from class xs ds
    → slice_get ds i ≡ Some d → d.sync ≡ true → IsSyncOf d
all_sync plan port stream live from class xs [] i d all is = absurd cc
all_sync plan port stream live from class xs (y ∷ ds) zero d all is =
    let same : y ≡ d = cc (is) in subst (λ (z : SealedPacket). z.sync ≡ true → IsSyncOf z) same all.0.sync
all_sync plan port stream live from class xs (y ∷ ds) (suc i) d all is =
    all_sync plan port stream live from class (xs ++ (y, no_packet) ∷ []) ds i d (all.1 no_packet) is

no_answer : (plan : Plan) → DrawFacts plan → (h : History) (link : ℕ) (ds : List SealedPacket) (d : SealedPacket)
    → CauseLaw plan ((Access (ae.Answer link), Sealed ds) ∷ h) → IsAmong ds d → d.t ≡ true → (d.sub ≡ Cpl → ⊥) → ⊥
no_answer plan facts h link ds d cause among trusted request =
    let e = Access (ae.Answer link) in
    let sealing = sealing_is plan h e ds cause.0 in
    let t = sealing.sending in
    let all = all_of_sealing plan facts h cause.1 (sending_port plan h e) (sent_bytes plan h e) ds sealing in
    let sync = all_sync plan t.port t.stream (live_at plan h t.port t.stream) (from_at plan h t.port t.stream) t.class
    (sealed_packets plan h) ds among.index d all among.listed in
    let answered = (read_law plan facts ((e, Sealed ds) ∷ h) cause).0 in
    let carries = all_get (Carries h link answered.of.interface) ds among.index d answered.packets among.listed in
    elim (cases_Bool d.sync) [
      | inl is ↦ true≢false (sym trusted ∙ (sync is).t)
      | inr is ↦ request (carries.sub_is is)
    ]

-- ---- one packet

at_host_end : (q : PortName) (link : ℕ) → q.line ≡ link → sent_direction q.side ≡ 0 → q ≡ host_port link
at_host_end q link same direction =
    let is_host : q.side ≡ Host = by q.side direction in λ i. record { side = is_host i; line = same i }
  where
    by : (side : Side) → sent_direction side ≡ 0 → side ≡ Host
    by Host is = refl
    by Device is = absurd cc

-- a link's port is no end of a stream between devices
no_peer : (l links : ℕ) → nat_lt l 8 ≡ true → (nat_le 24 l && not (nat_lt l links)) ≡ false
no_peer l links low = grind (arith, nat_tests, low)

host_t : (plan : Plan) (h : History) (l : ℕ) (owner : Option Site) (stream : ℕ) (asked : Bool) → nat_lt l 8 ≡ true
    → t_at plan h (host_port l) owner stream asked ≡ asked
host_t plan h l owner stream asked low = rw (no_peer l (length plan.links) low) refl

pub unsynced : (sync t : Bool) → (if sync then false else t) ≡ true → t ≡ true
unsynced sync t is = grind (arith, is)

-- there T is as it was asked
asked_so : (plan : Plan) (h : History) (bytes : List ℕ) (asked : Bool) (d : SealedPacket) (l : ℕ)
    → nat_lt l 8 ≡ true → d.port ≡ host_port l → SealFits plan h bytes asked d → d.t ≡ true → asked ≡ true
asked_so plan h bytes asked d l low end fit trusted =
    let owner = owner_read plan (owners_link plan d.port) (read_of bytes) in
    sym (host_t plan h l owner d.stream asked low)
    ∙ (ap (λ (q : PortName). t_at plan h q owner d.stream asked) (sym end)
    ∙ unsynced d.sync _ (sym fit.t_is ∙ trusted))

below_eight : (m n : ℕ) → n ≤ 8 → nat_lt m n ≡ true → nat_lt m 8 ≡ true
below_eight m n most less = grind (arith, nat_tests, most, less)

low_link : (plan : Plan) → FitsPlan plan → (x : Site) → site_at plan x.number ≡ Some x → nat_lt x.link 8 ≡ true
low_link plan fits x known = below_eight x.link (length plan.links) fits.links_most (number_on_link plan x known)

-- a switch seals at no port of a link
from_switch : (link : ℕ) (way : Direction) (l : ℕ) → nat_lt l 8 ≡ true → leaving_end link way ≡ host_port l → ⊥
from_switch link Upstream l low is = host_device (sym (ap (λ (q : PortName). q.side) is))
from_switch link Downstream l low is =
    let there : 16 + link ≡ l = ap (λ (q : PortName). q.line) is in
    absurd (omega (arith, there, less_is l 8 low))

-- what is sealed at the host's end of a link was given to that port
given_there : (plan : Plan) → FitsPlan plan → (x : Site) → site_at plan x.number ≡ Some x → (q : PortName)
    (bytes : List ℕ) → sealing_end plan q bytes ≡ host_port x.link → q ≡ host_port x.link
unfolding sealing_end
given_there plan fits x known q bytes is = by (goes_to_hop plan q bytes) is
  where
    by_side : (side : Side) (link : ℕ) → hop_end side link ≡ host_port x.link → ⊥
    by_side Device link is = host_device (sym (ap (λ (r : PortName). r.side) is))
    by_side Host link is =
        let there : 8 + link ≡ x.link = ap (λ (r : PortName). r.line) is in
        absurd (omega (arith, there, less_is x.link 8 (low_link plan fits x known)))

    by : (b : Bool) → (if b then hop_end q.side q.line else q) ≡ host_port x.link → q ≡ host_port x.link
    by false is = is
    by true is = absurd (by_side q.side q.line is)

-- a request with T that was sealed at the host's end of a link was asked for
module _ (plan : Plan) (whole : FitsPlan plan) (h : History) (x : Site) (known : site_at plan x.number ≡ Some x)
    (cause : CauseLaw plan h) (place : ℕ) (y : SealedPacket × Packet)
    (at : slice_get (sealed_packets plan h) place ≡ Some y) (end : y.0.port ≡ host_port x.link)
    (trusted : y.0.t ≡ true) (request : y.0.sub ≡ Cpl → ⊥) where
  record IsAsked : Type 0 where
    bytes : List ℕ
    more : Bool
    ds : List SealedPacket
    older : History
    came : CameFrom ((Send (host_port x.link) bytes more true, Sealed ds) ∷ older) h
    from : length (sealed_packets plan older) ≤ place
    until : place < length (sealed_packets plan ((Send (host_port x.link) bytes more true, Sealed ds) ∷ older))
    among : IsAmong ds y.0
    begun : Begun
    made : begun_of_draw (manager older).begun y.0.draw ≡ Some begun

  by_event : (ev : Event) (ds : List SealedPacket) (older : History) → CameFrom ((ev, Sealed ds) ∷ older) h
      → length (sealed_packets plan older) ≤ place → place < length (sealed_packets plan ((ev, Sealed ds) ∷ older))
      → IsAmong ds y.0 → CauseLaw plan ((ev, Sealed ds) ∷ older) → IsAsked
  by_event (Send q bytes more asked) ds older came from until among law =
      let sealed = sealed_port plan older (Send q bytes more asked) ds y.0 among law.0 in
      let fit = all_get (SealFits plan older bytes asked) ds among.index y.0
      (interface_cause plan ((Send q bytes more asked, Sealed ds) ∷ older) law).0 among.listed in
      let is = asked_so plan older bytes asked y.0 x.link (low_link plan whole x known) end fit trusted in
      let port : q ≡ host_port x.link = given_there plan whole x known q bytes (sym sealed ∙ end) in
      record {
        bytes = bytes;
        more = more;
        ds = ds;
        older = older;
        came = subst (λ (r : PortName). CameFrom ((Send r bytes more true, Sealed ds) ∷ older) h) port
            (subst (λ (b : Bool). CameFrom ((Send q bytes more b, Sealed ds) ∷ older) h) is came);
        from = from;
        until = subst (λ (r : PortName). place < length
            (sealed_packets plan ((Send r bytes more true, Sealed ds) ∷ older)))
            port (subst (λ (b : Bool). place < length (sealed_packets plan ((Send q bytes more b, Sealed ds) ∷ older)))
            is
            until);
        among = among;
        begun = owner y.0.port.line y.0.stream y.0.k;
        made = made_by plan older (Send q bytes more asked) ds among.index y.0 law.0 among.listed;
      }
  by_event (Access (ae.Answer l)) ds older came from until among law =
      absurd (no_answer plan (draws plan) older l ds y.0 law among trusted request)
  by_event (Access (ae.Respond l)) ds older came from until among law =
      absurd (no_response plan older l ds y.0 law among trusted request)
  by_event (Forward l d) ds older came from until among law =
      absurd (from_switch l d x.link (low_link plan whole x known)
      (sym (sealed_port plan older (Forward l d) ds y.0 among law.0) ∙ end))
  by_event ev ds older came from until among law = absurd (true≢false (sym (sealed_by_sealing plan older ev ds law.0)))

  is_asked : IsAsked
  is_asked =
      let by = sealed_by plan h place y at in
      by_event by.event by.ds by.older by.came by.from by.until by.among
      (cause_at plan by.came.since ((by.event, Sealed by.ds) ∷ by.older) h by.came.is cause)

-- ---- on the stream of the lock

run_binds : (floor : ℕ) (t : DeviceTdi) → is_run t.state ≡ true → (l : Lock) × (lock_of t.state ≡ Some l)
    × (all_bindings floor t ≡ record { stream = l.stream; floor = floor } ∷ t.bindings)
run_binds floor t runs = by t.state t.bindings runs
  where
    by : (s : TdiState) (bs : List Binding) → is_run s ≡ true → (l : Lock) × (lock_of s ≡ Some l)
        × (own_binding floor (bound_link_stream s) ++ bs ≡ record { stream = l.stream; floor = floor } ∷ bs)
    by tdi.ConfigUnlocked bs runs = absurd (true≢false (sym runs))
    by (tdi.ConfigLocked lock nonce) bs runs = absurd (true≢false (sym runs))
    by (tdi.Run lock) bs runs = (lock, refl, refl)
    by tdi.Error bs runs = absurd (true≢false (sym runs))

-- the lock's stream with the device's floor, or a stream between devices
pub record OnLock (plan : Plan) (h : History) (x : Site) (stream draw : ℕ) : Type 0 where
  pub stream_is : stream ≡ x.plan.stream
  pub least : device_floor plan h x ≤ draw

pub floor_some : (stream floor : ℕ) (bs : List Binding) → floor_on stream bs ≡ Some floor → binds stream bs ≡ true
floor_some stream floor [] is = absurd cc
floor_some stream floor (b ∷ bs) is = by (b.stream == stream) (floor_some stream floor bs) is
  where
    by : (c : Bool) → (floor_on stream bs ≡ Some floor → binds stream bs ≡ true)
        → option_map (λ (z : Binding). z.floor) (if c then Some b else find (is_binding_on stream) bs) ≡ Some floor
        → (c || binds stream bs) ≡ true
    by true later is = refl
    by false later is = later is

pub bound_on : (plan : Plan) (h : History) (x : Site) (stream draw floor : ℕ) → runs_at plan h x ≡ true
    → floor_on stream (all_bindings (device_floor plan h x) (interface_at plan h x)) ≡ Some floor → floor ≤ draw
    → OnLock plan h x stream draw ⊎ (floor_on stream (interface_at plan h x).bindings ≡ Some floor)
bound_on plan h x stream draw floor runs is le =
    let own = run_binds (device_floor plan h x) (interface_at plan h x) runs in
    let same : own.0.stream ≡ x.plan.stream = ap (λ (l : Lock). l.stream) (lock_stands plan h x own.0 own.1) in
    by own.0.stream same (own.0.stream == stream) refl
    (subst (λ (bs : List Binding). floor_on stream bs ≡ Some floor) own.2 is)
  where
    by : (s : ℕ) → s ≡ x.plan.stream → (b : Bool) → (s == stream) ≡ b
        → option_map (λ (z : Binding). z.floor) (if s == stream
        then Some (record { stream = s; floor = device_floor plan h x })
        else find (is_binding_on stream) (interface_at plan h x).bindings) ≡ Some floor
        → OnLock plan h x stream draw ⊎ (floor_on stream (interface_at plan h x).bindings ≡ Some floor)
    by s same true at is =
        let floor_is : device_floor plan h x ≡ floor = let here = rw at at is in cc (here) in
        inl (record { stream_is = sym (eqb-true s stream at) ∙ same; least = omega (arith, floor_is, le) })
    by s same false at is = inr (rw at at is)

-- the stream of an interface in RUN is one of its link
pub own_there : (plan : Plan) → FitsPlan plan → (h : History) → CauseLaw plan h → (x : Site) → site_at plan x.number
    ≡ Some x → runs_at plan h x ≡ true → own_has_id (slice_get plan.links x.link) x.plan.stream ≡ true
own_there plan fits h cause x known runs =
    let start = keeps_floors plan h cause x.number x known runs in
    let law = (cause_at plan start.since ((start.event, start.verdict) ∷ start.older) h start.came cause).1 in
    by (line_has plan x.link x.plan.stream) (low_link plan fits x known) refl
    (stream_is_there plan x.link x.plan.stream) start.older law start.set
    start.on
  where
    off : (set : Bool) (floor : ℕ) → on_in (key_in no_keys set) ≡ Some floor → ⊥
    off true floor is = absurd cc
    off false floor is = absurd cc

    by : (b : Bool) → nat_lt x.link 8 ≡ true → line_has plan x.link x.plan.stream ≡ b
        → is_some (stream_plan plan x.link x.plan.stream) ≡ line_has plan x.link x.plan.stream → (g : History)
        → CauseLaw plan g → (set : Bool) → on_in (key_in (place_keys g (posted_receiver x)) set)
        ≡ Some (device_floor plan h x) → own_has_id (slice_get plan.links x.link) x.plan.stream ≡ true
    by true low has is g law set on = rw low at has
    by false low has is g law set on =
        absurd (off set (device_floor plan h x)
        (subst (λ (ks : Keys). on_in (key_in ks set) ≡ Some (device_floor plan h x))
        (unplanned_keys plan g law (posted_receiver x) (is ∙ has)) on))

-- ---- packet n of a unit

-- on the stream of the lock it was asked for
pub was_asked : (plan : Plan) → FitsPlan plan → (h : History) (e : Event) (end : PortName) (unit : UnitName)
    (effects : List Effect) (x : Site) (n : ℕ) (p : Packet) → CauseLaw plan ((e, Accepted end unit effects) ∷ h)
    → UnitIsUnforged plan h e (Accepted end unit effects) → site_at plan x.number ≡ Some x
    → slice_get (unit_ended plan h e end unit) n ≡ Some p → p.prefix.t ≡ true → runs_at plan h x ≡ true
    → (FitsPacket p → p.prefix.sub ≡ Cpl → ⊥) → end ≡ device_port x.link → device_floor plan h x ≤ unit.draw
    → WasAsked plan h x (received_in end unit) unit.draw
    (length (accepted_packets plan h (received_in end unit) unit.draw) + n) p
was_asked plan whole h e end unit effects x n p cause forged known stands trusted runs request there least =
    let s = received_in end unit in
    let m = length (accepted_packets plan h s unit.draw) + n in
    let at = sent_at plan (streams_fit plan whole) (draws plan) h e end unit effects cause forged n p stands in
    let among = place_among (sealed_packets plan h) s unit.draw m p at in
    let names = in_parts s unit.draw among.sealed among.under in
    let of = placed plan (streams_fit plan whole) (draws plan) h cause.1 among.place among.sealed among.stands in
    let prefix : p.prefix ≡ prefix_of among.sealed.0 = ap (λ (q : Packet). q.prefix) (sym among.packet) ∙ of.prefix in
    let host = at_host_end among.sealed.0.port x.link
    (ap (λ (t : SubStream). t.line) names.2 ∙ ap (λ (q : PortName). q.line) there)
    (ap (λ (t : SubStream). t.direction) names.2 ∙ ap (λ (q : PortName). received_direction q.side) there) in
    let asked = is_asked plan whole h x known cause.1 among.place among.sealed among.stands host
    (sym (ap (λ (f : Prefix). f.t) prefix) ∙ trusted)
    (λ is. request (subst FitsPacket among.packet of.fits) (ap (λ (f : Prefix). f.sub) prefix ∙ is)) in
    let less = get_less (sent_packets plan h s unit.draw) m p at in
    let from_floor : device_floor plan h x ≤ among.sealed.0.draw = omega (arith, least, names.1) in
    record {
      place = among.place;
      stands = record {
        sealed = among.sealed;
        stands = among.stands;
        under = among.under;
        number = sym (ap length among.before ∙ length-take-le m (sent_packets plan h s unit.draw)
            (omega (arith, less)));
      };
      same = among.packet;
      bytes = asked.bytes;
      more = asked.more;
      ds = asked.ds;
      older = asked.older;
      came = asked.came;
      from = asked.from;
      until = asked.until;
      index = asked.among.index;
      listed = asked.among.listed;
      no_other_run = no_other_run plan whole h cause.1 x known runs asked.older among.sealed.0.draw asked.begun
          asked.made from_floor;
    }

-- ---- on a stream between devices

-- a packet that was sealed by a pair is there after it
pub sealed_then : (plan : Plan) (h g : History) (e : Event) (ds : List SealedPacket) (k : ℕ)
    (y : SealedPacket × Packet) → CameFrom ((e, Sealed ds) ∷ g) h → slice_get (sealed_packets plan h) k ≡ Some y
    → k < length (sealed_packets plan ((e, Sealed ds) ∷ g))
    → slice_get (sealed_packets plan ((e, Sealed ds) ∷ g)) k ≡ Some y
sealed_then plan h g e ds k y came at less =
    sealed_before plan came.since ((e, Sealed ds) ∷ g) k y
    (subst (λ (z : History). slice_get (sealed_packets plan z) k ≡ Some y) (sym came.is) at) less

-- the draw of a packet that was sealed by a pair was made before it
pub bound_made : (plan : Plan) (h g : History) (e : Event) (ds : List SealedPacket) (k : ℕ)
    (y : SealedPacket × Packet) → CauseLaw plan h → CameFrom ((e, Sealed ds) ∷ g) h
    → slice_get (sealed_packets plan h) k ≡ Some y → k < length (sealed_packets plan ((e, Sealed ds) ∷ g))
    → begun_of_draw (manager g).begun y.0.draw ≡ Some (owner y.0.port.line y.0.stream y.0.k)
bound_made plan h g e ds k y cause came at less =
    let there = cause_at plan came.since ((e, Sealed ds) ∷ g) h came.is cause in
    ap (λ (m : StreamOperations). begun_of_draw m.begun y.0.draw)
    (sym (sealing_manager g e (Sealed ds) (sealed_by_sealing plan g e ds there.0)))
    ∙ all_owned plan ((e, Sealed ds) ∷ g) there k y (sealed_then plan h g e ds k y came at less)

-- a request with T that was sealed by a device is of a send
sent_by : (plan : Plan) (h : History) (e : Event) (ds : List SealedPacket) (d : SealedPacket)
    → CauseLaw plan ((e, Sealed ds) ∷ h) → is_sent_by_device e ≡ true → IsAmong ds d → d.t ≡ true
    → (d.sub ≡ Cpl → ⊥) → is_send e ≡ true
sent_by plan h (Send port bytes more trusted) ds d cause own among has_t request = refl
sent_by plan h (Access (ae.Respond link)) ds d cause own among has_t request =
    absurd (no_response plan h link ds d cause among has_t request)
sent_by plan h e ds d cause own among has_t request = absurd cc

pub on_binding : (plan : Plan) → FitsPlan plan → (h : History) (e : Event) (end : PortName) (unit : UnitName)
    (effects : List Effect) (x : Site) (n : ℕ) (p : Packet) (floor : ℕ)
    → CauseLaw plan ((e, Accepted end unit effects) ∷ h) → UnitIsUnforged plan h e (Accepted end unit effects)
    → site_at plan x.number ≡ Some x → slice_get (unit_ended plan h e end unit) n ≡ Some p → p.prefix.t ≡ true
    → runs_at plan h x ≡ true → port_of plan end ≡ device_port x.link → (FitsPacket p → p.prefix.sub ≡ Cpl → ⊥)
    → floor_on unit.stream (interface_at plan h x).bindings ≡ Some floor → floor ≤ unit.draw
    → CameOnBinding plan h x end unit (length (accepted_packets plan h (received_in end unit) unit.draw) + n) p
on_binding plan whole h e end unit effects x n p floor cause forged known stands trusted runs at request is least =
    let bound = floor_some unit.stream floor (interface_at plan h x).bindings is in
    let secure = bound_secure plan h cause.1 x unit.stream bound in
    let between = is_between plan whole x.link unit.stream secure.end end secure.at_device at
    (accepted_known plan h e end unit effects cause.0) in
    let from = (bind_origin_law plan whole ((e, Accepted end unit effects) ∷ h) cause).0 forged between n p
    stands trusted in
    let was = from.was in
    let names = in_parts (received_in end unit) unit.draw was.stands.sealed was.stands.under in
    let made = bound_made plan h was.older was.event was.packets was.place was.stands.sealed cause.1 was.came
    was.stands.stands was.until in
    let first = bound_floor plan h cause.1 x known unit.stream floor is in
    let law = cause_at plan was.came.since ((was.event, Sealed was.packets) ∷ was.older) h was.came.is cause.1 in
    let among = among_these plan was.older was.event was.packets was.place was.stands.sealed
    (sealed_then plan h was.older was.event was.packets was.place was.stands.sealed was.came was.stands.stands
    was.until) was.from in
    let of = placed plan (streams_fit plan whole) (draws plan) h cause.1 was.place was.stands.sealed was.stands.stands
    in
    let prefix : p.prefix ≡ prefix_of was.stands.sealed.0 = ap (λ (q : Packet). q.prefix) (sym from.same) ∙ of.prefix in
    record {
      runs = runs;
      between = between;
      bound = bound;
      from = from;
      sent = sent_by plan was.older was.event was.packets was.stands.sealed.0 law was.sent among
          (sym (ap (λ (f : Prefix). f.t) prefix) ∙ trusted)
          (λ is. request (subst FitsPacket from.same of.fits) (ap (λ (f : Prefix). f.sub) prefix ∙ is));
      no_other_run = no_other_since plan h cause.1 x known first.older first.came first.same_lock was.older
          was.stands.sealed.0.draw _ made (omega (arith, first.needs, least, names.1));
    }

-- ---- packet n of a unit

asked_at : (plan : Plan) → FitsPlan plan → (h : History) (e : Event) (end : PortName) (unit : UnitName)
    (effects : List Effect) → CauseLaw plan ((e, Accepted end unit effects) ∷ h)
    → UnitIsUnforged plan h e (Accepted end unit effects) → StoresAsked plan h e (Accepted end unit effects)
asked_at plan whole h e end unit effects cause forged x bar n w p known stored stands trusted =
    let taken = is_taken plan h e end unit effects x bar n w p cause.0 known stored stands trusted in
    let there = accepted_known plan h e end unit effects cause.0 in
    let request : FitsPacket p → p.prefix.sub ≡ Cpl → ⊥ =
    λ fits. not_completed p.prefix.sub
    (sub_posted p fits trusted taken.head taken.reads taken.span taken.writes) in
    elim (bound_on plan h x unit.stream unit.draw taken.floor taken.runs taken.bound taken.from_floor) [
      | inl own ↦
          let has : own_has_id (slice_get plan.links (port_of plan end).line) unit.stream ≡ true =
          (λ i. own_has_id (slice_get plan.links (taken.at_port i).line) (own.stream_is i))
          ∙ own_there plan whole h cause.1 x known taken.runs in
          let at : end ≡ device_port x.link = sym (own_port plan whole end unit.stream there has) ∙ taken.at_port in
          inl (record {
            runs = taken.runs;
            end_is = at;
            stream_is = own.stream_is;
            was_asked = was_asked plan whole h e end unit effects x n p cause forged known stands trusted taken.runs
                request at own.least;
          })
      | inr bound ↦
          inr (on_binding plan whole h e end unit effects x n p taken.floor cause forged known stands trusted taken.runs
          taken.at_port request bound taken.from_floor)
    ]

stores_asked : (plan : Plan) → FitsPlan plan → (h : History) (e : Event) (w : Verdict)
    → CauseLaw plan ((e, w) ∷ h) → UnitIsUnforged plan h e w → StoresAsked plan h e w
stores_asked plan fits h e (Accepted end unit effects) cause forged =
    asked_at plan fits h e end unit effects cause forged
stores_asked plan fits h e w cause forged = tt

pub mmio_origin : (plan : Plan) → FitsPlan plan → (h : History) → CauseLaw plan h → LocalMmioOriginLaw plan h
mmio_origin plan fits h cause = of_pairs UnitIsUnforged StoresAsked plan (stores_asked plan fits) h cause
