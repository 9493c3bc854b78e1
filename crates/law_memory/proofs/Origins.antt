-- Each admitted write was sealed while its interface was in the very RUN, under the very lock, that it is admitted for.
-- It is a packet that was got, so packet m of what was got is packet m of what was sealed, with its header and its T.
-- It has T since the device's port sealed it for that interface. While the manager's view is Running, each such packet
-- of a draw from the floor on was sealed in RUN under the present lock.
use Rattle.spec_links.specs.Plan.{has_stream, key_plan}
use Rattle.spec_links.specs.Due.{due}
use Rattle.spec_links.proofs.Causes.{accepted_by}
use Rattle.ide_types.specs.Fits.{FitsPlan}
use Rattle.ide_types.specs.Ends.{own_has_id}
use Rattle.spec_links.specs.Ports.{at_switch, port_of}
use Rattle.spec_links.proofs.Ends.{own_port}
use Rattle.law_memory.proofs.OwnStreams.{own_stream}
use Rattle.law_sealing.proofs.Terms.{◌≡◌, ℕ, ◌+◌, ◌≤◌, ◌==◌, ◌&&◌, zero, suc, Bool, true, false, not, List, [], ◌∷◌}
use Rattle.law_sealing.proofs.Terms.{◌++◌, length, take, drop, slice_get, Option, Some, None, Result, Ok, Err, refl, ap}
use Rattle.law_sealing.proofs.Terms.{◌<◌, sym, ◌∙◌, arith, nat_tests, if◌then◌else◌, Plan, SubStream, History, Event}
use Rattle.law_sealing.proofs.Terms.{Send, Verdict, Sealed, Accepted, UnitName, Effect, SealedPacket, Packet, Prefix}
use Rattle.law_sealing.proofs.Terms.{PortName, is_sync_packet, is_same-refl, received_in, sent_packets, CauseLaw}
use Rattle.law_sealing.proofs.Terms.{DrawFacts, StreamsFit, read_of, sub_stream_of}
use Rattle.law_sealing.proofs.Terms.{sealed_same, eqb-refl, is_some}
unfoldable use Rattle.law_sealing.proofs.Terms.{accepted_packets, sealed_packets, packet_of}
use Rattle.std.proofs.lemmas.List.{length-take-le}
use Rattle.std.proofs.lemmas.Option.{same_Some}
use Rattle.std.specs.Option.{option_and_then, option_map}
use Rattle.ide_types.specs.Sub.{sent_direction, received_direction}
use Rattle.ide_types.specs.declared.port.Side.{Side}
use Rattle.ide_types.specs.declared.port.Side.TheVariants.{Device}
use Rattle.ide_types.specs.declared.binding.Binding.{Binding}
use Rattle.ide_types.specs.declared.plan.Region.{Region}
use Rattle.tlp_layout.specs.declared.head.HeadView.{HeadView}
use Rattle.tlp_layout.specs.declared.fault.TlpFault.{TlpFault}
use Rattle.tlp_layout.specs.Reading.{read_head_of}
use Rattle.std.proofs.Common.{subst}
use Rattle.trusted_memory.specs.declared.span.Span.{Span}
use Rattle.trusted_memory.specs.Spans.{span_of}
use Rattle.trusted_memory.specs.Writes.{Write, memory_write}
use Rattle.spec_links.specs.History.{head_in}
unfoldable use Rattle.spec_links.specs.History.{sub_stream_packets}
use Rattle.trusted_memory.specs.Admitted.{is_on_bound, if_placed}
use Rattle.spec_links.specs.Memory.{requester_bound, payload_write, write_if_admitted, admitted_each, unit_ended}
use Rattle.spec_links.specs.Memory.{plain_of}
use Rattle.law_key_facts.proofs.Given.{key_cause}
use Rattle.law_sealing.proofs.Bounds.{prefix_is}
use Rattle.law_sealing.proofs.Places.{place_among}
use Rattle.law_sealing.proofs.Fronts.{at_front}
use Rattle.law_sealing.proofs.Sums.{in_parts}
use Rattle.law_delivery.specs.NoForgeryUnder.{UnitIsUnforged}
use Rattle.law_delivery.proofs.EachForgery.{of_pairs}
use Rattle.law_delivery.proofs.Prefixes.{got_begins}
use Rattle.law_memory.specs.LocalLaws.{LocalOriginLaw}
use Rattle.spec_interfaces.specs.Terms.{Running, View}
use Rattle.spec_interfaces.specs.Sites.{Site, site_at, site_of_requester}
unfoldable use Rattle.spec_interfaces.specs.Sites.{sites}
use Rattle.spec_interfaces.specs.Views.{view_at, floor_at, bound_if, granted_to, grant_at}
use Rattle.spec_interfaces.specs.Devices.{locks_accepted}
use Rattle.spec_interfaces.specs.Cause.{SealFits, owner_id, owner_site, owner_read}
use Rattle.spec_interfaces.specs.Laws.{IsTrusted, InRun}
use Rattle.spec_interfaces.proofs.Views.{views_hold}
use Rattle.law_memory.specs.Origin.{IsFrom, AreFrom}
use Rattle.law_memory.proofs.Causes.{interface_cause}
use Rattle.spec_interfaces.proofs.OnLinks.{number_on_link}
use Rattle.law_memory.proofs.Found.{get_less, all_get, get_behind, IsNew, sealing_of, cause_before, trusted_before}
use Rattle.law_memory.proofs.Found.{found_by_number, head_is, head_of, not_synced}
use Rattle.law_memory.proofs.Responses.{by_send}
use Rattle.law_reads.proofs.Requesters.{requester_meets}

-- ---- what it means that a write is admitted

record Bound (stream draw : ℕ) (o : Option Binding) : Type 0 where
  bound : Binding
  is : o ≡ Some bound
  stream_is : bound.stream ≡ stream
  floor : bound.floor ≤ draw

bound_means : (stream draw : ℕ) (o : Option Binding) → is_on_bound stream draw o ≡ true → Bound stream draw o
bound_means stream draw None e = absurd cc
bound_means stream draw (Some b) e = record
    { bound = b; is = refl; stream_is = grind (arith, nat_tests); floor = grind (arith, nat_tests) }

-- of a write at a host's port
pub record Admitted (plan : Plan) (h : History) (port : PortName) (unit : UnitName) (p : Packet) : Type 0 where
  pub head : HeadView
  pub reads : read_head_of p.head ≡ Ok head
  pub host : (sent_direction port.side == 0) ≡ true
  pub trusted : p.prefix.t ≡ true
  pub request : is_some (span_of head) ≡ true
  pub bound : is_on_bound unit.stream unit.draw (requester_bound (grant_at plan h) port head) ≡ true

-- its header is of a memory request
write_spans : (regions : List Region) (a : Bool) (head : HeadView) (payload : List ℕ) (w : Write)
    → if_placed regions a (memory_write head payload) ≡ Some w → is_some (span_of head) ≡ true
write_spans regions a head payload w is = by head.has_payload (span_of head) is
  where
    by : (b : Bool) (o : Option Span) → if_placed regions a (option_map (λ s. record { span = s; payload = payload })
        (if b then o else None)) ≡ Some w → is_some o ≡ true
    by true (Some s) is = refl
    by true None is = absurd cc
    by false o is = absurd cc

placed_means : (regions : List Region) (a : Bool) (o : Option Write) (w : Write) → if_placed regions a o ≡ Some w → a
    ≡ true
placed_means regions a None w e = absurd cc
placed_means regions true (Some z) w e = refl
placed_means regions false (Some z) w e = absurd cc

both : (a b : Bool) → (a && b) ≡ true → (a ≡ true) × (b ≡ true)
both true b e = (refl, e)
both false b e = absurd cc

pub admitted_means : (plan : Plan) (h : History) (port : PortName) (unit : UnitName) (p : Packet) (payload : List ℕ)
    (w : Write) → write_if_admitted plan (grant_at plan h) port unit p payload ≡ Some w → Admitted plan h port unit p
admitted_means plan h port unit p payload w is = by (not (is_sync_packet p)) (at_switch plan port)
    (sent_direction port.side == 0) refl (read_head_of p.head) refl is
  where
    by : (a c b : Bool) → (sent_direction port.side == 0) ≡ b → (r : Result HeadView TlpFault) → read_head_of p.head ≡ r
        → (if a && (not c && b) then payload_write plan (grant_at plan h) port unit p.prefix.t payload r else None)
        ≡ Some w → Admitted plan h port unit p
    by false c b host r reads is = absurd cc
    by true true b host r reads is = absurd cc
    by true false false host r reads is = absurd cc
    by true false true host (Err f) reads is = absurd cc
    by true false true host (Ok head) reads is =
        let tests = both p.prefix.t _ (placed_means plan.memory _ (memory_write head payload) w is) in
        record {
          head = head;
          reads = reads;
          host = host;
          trusted = tests.0;
          request = write_spans plan.memory _ head payload w is;
          bound = tests.1;
        }

-- the interface that it is admitted for
pub record For (plan : Plan) (h : History) (link stream draw : ℕ) (head : HeadView) : Type 0 where
  pub site : Site
  pub known : site_at plan site.number ≡ Some site
  pub own : FitsPlan plan → own_has_id (slice_get plan.links site.link) site.plan.stream ≡ true
  pub link_is : site.link ≡ link
  pub owns : owner_site plan link head ≡ Some site
  pub requester : owner_id head ≡ Some site.plan.requester
  pub view : view_at h site ≡ Running
  pub stream_is : site.plan.stream ≡ stream
  pub floor : floor_at h site ≤ draw

record Granted (h : History) (o : Option Site) (b : Binding) : Type 0 where
  site : Site
  is : o ≡ Some site
  view : view_at h site ≡ Running
  bound : b ≡ record { stream = site.plan.stream; floor = floor_at h site }

pub if_bound : (view : View) (stream floor : ℕ) (b : Binding) → bound_if view stream floor ≡ Some b → (view ≡ Running)
    × (b ≡ record { stream = stream; floor = floor })
if_bound Running stream floor b e = (refl, sym (same_Some _ b e))
if_bound view stream floor b e = absurd cc

granted_means : (h : History) (o : Option Site) (b : Binding) → granted_to h o ≡ Some b → Granted h o b
granted_means h None b e = absurd cc
granted_means h (Some x) b e =
    let is = if_bound (view_at h x) x.plan.stream (floor_at h x) b e in record
    { site = x; is = refl; view = is.0; bound = is.1 }

-- of the requester
pub owner_means : (plan : Plan) (h : History) (link stream draw : ℕ) (head : HeadView) (o : Option ℕ) → owner_id head
    ≡ o → is_on_bound stream draw (option_and_then (grant_at plan h link) o) ≡ true → For plan h link stream draw head
owner_means plan h link stream draw head None named e = absurd cc
owner_means plan h link stream draw head (Some rid) named e =
    let b = bound_means stream draw (grant_at plan h link rid) e in
    let g = granted_means h (site_of_requester plan link rid) b.bound b.is in
    let meets = requester_meets plan link rid g.site g.is in
    record {
      site = g.site;
      known = found_by_number plan (λ x. (x.link == link) && (x.plan.requester == rid)) g.site g.is;
      own = λ fits. own_stream plan fits link rid g.site g.is;
      link_is = meets.0;
      owns = ap (option_and_then (site_of_requester plan link)) named ∙ g.is;
      requester = named ∙ ap (λ (r : ℕ). Some r) (sym meets.1);
      view = g.view;
      stream_is = ap (λ (c : Binding). c.stream) (sym g.bound) ∙ b.stream_is;
      floor =
          let f : b.bound.floor ≡ floor_at h g.site = ap (λ (c : Binding). c.floor) g.bound in
          omega (arith, f, b.floor);
    }

-- what is admitted at the port of an end came at the port itself, on a stream of its link
pub at_port : (plan : Plan) → FitsPlan plan → (h : History) (port : PortName) (unit : UnitName) (p : Packet)
    → has_stream plan port unit.stream ≡ true → Admitted plan h (port_of plan port) unit p → Admitted plan h port unit p
at_port plan fits h port unit p known adm =
    let q = port_of plan port in
    let for = owner_means plan h q.line unit.stream unit.draw adm.head (owner_id adm.head) refl adm.bound in
    let own : own_has_id (slice_get plan.links q.line) unit.stream ≡ true =
    subst (λ (l : ℕ). own_has_id (slice_get plan.links l) unit.stream ≡ true) for.link_is
    (subst (λ (n : ℕ). own_has_id (slice_get plan.links for.site.link) n ≡ true) for.stream_is (for.own fits)) in
    subst (λ (r : PortName). Admitted plan h r unit p) (own_port plan fits port unit.stream known own) adm

-- an accepted unit is of a stream of its end
pub accepted_known : (plan : Plan) (h : History) (e : Event) (port : PortName) (unit : UnitName) (effects : List Effect)
    → Accepted port unit effects ≡ due plan h e → has_stream plan port unit.stream ≡ true
accepted_known plan h e port unit effects is =
    let by = accepted_by plan h e port unit effects is in
    subst (λ (n : ℕ). has_stream plan port n ≡ true) (sym (ap (λ (u : UnitName). u.stream) by.passed.named))
    by.passed.known

-- ---- packet n of a unit

record Each (plan : Plan) (h : History) (port : PortName) (unit : UnitName) (ps : List Packet) (n : ℕ)
    (o : Option Write) : Type 0 where
  packet : Packet
  payload : List ℕ
  stands : slice_get ps n ≡ Some packet
  is : write_if_admitted plan (grant_at plan h) port unit packet payload ≡ o

each_at : (plan : Plan) (h : History) (port : PortName) (unit : UnitName) (plain : List ℕ) (ps : List Packet) (n : ℕ)
    (o : Option Write)
    → slice_get (admitted_each plan (grant_at plan h) port unit plain ps) n ≡ Some o → Each plan h port unit ps n o
each_at plan h port unit plain [] n o is = absurd cc
each_at plan h port unit plain (p ∷ ps) zero o is = record
    { packet = p; payload = take (length p.body) plain; stands = refl; is = cc (is) }
each_at plan h port unit plain (p ∷ ps) (suc n) o is =
    let rest = each_at plan h port unit (drop (length p.body) plain) ps n o is in
    record { packet = rest.packet; payload = rest.payload; stands = rest.stands; is = rest.is }

-- ---- the packet was sealed for the interface

-- an end with the line of a host's port and the direction that this receives is the far one
pub at_device_end : (p : PortName) (side : Side) (link : ℕ) → p.line ≡ link → sent_direction p.side
    ≡ received_direction side → (sent_direction side == 0) ≡ true
    → p ≡ record { side = Device; line = link }
at_device_end p side link same direction host =
    let is_device : p.side ≡ Device = by p.side side direction host in
    λ i. record { side = is_device i; line = same i }
  where
    by : (a b : Side) → sent_direction a ≡ received_direction b → (sent_direction b == 0) ≡ true → a ≡ Device
    by a b one two = grind (arith, nat_tests)

-- ---- packet m of what was got is packet m of what was sealed

pub got_next : (plan : Plan) (h : History) (e : Event) (port : PortName) (unit : UnitName) (effects : List Effect)
    → accepted_packets plan ((e, Accepted port unit effects) ∷ h) (received_in port unit) unit.draw
    ≡ accepted_packets plan h (received_in port unit) unit.draw ++ unit_ended plan h e port unit
unfolding accepted_packets
got_next plan h e port unit effects = rw (is_same-refl (received_in port unit), eqb-refl unit.draw) refl

pub sent_at : (plan : Plan) → StreamsFit plan → DrawFacts plan → (h : History) (e : Event) (port : PortName)
    (unit : UnitName) (effects : List Effect)
    → CauseLaw plan ((e, Accepted port unit effects) ∷ h) → UnitIsUnforged plan h e (Accepted port unit effects)
    → (n : ℕ) (p : Packet) → slice_get (unit_ended plan h e port unit) n ≡ Some p
    → slice_get (sent_packets plan h (received_in port unit) unit.draw)
    (length (accepted_packets plan h (received_in port unit) unit.draw) + n) ≡ Some p
sent_at plan fits facts h e port unit effects cause forged n p is =
    let s = received_in port unit in
    let m = length (accepted_packets plan h s unit.draw) + n in
    let begins = got_begins plan fits facts ((e, Accepted port unit effects) ∷ h) cause s unit.draw forged in
    let here : slice_get (accepted_packets plan ((e, Accepted port unit effects) ∷ h) s unit.draw) m ≡ Some p =
    ap (λ (ps : List Packet). slice_get ps m) (got_next plan h e port unit effects) ∙
    (get_behind (accepted_packets plan h s unit.draw) (unit_ended plan h e port unit) n ∙ is) in
    let there = (at_front (accepted_packets plan ((e, Accepted port unit effects) ∷ h) s unit.draw) begins.0 m p here).0
    in
    ap (λ (xs : List (SealedPacket × Packet)). slice_get (sub_stream_packets xs s unit.draw) m)
    (sym (sealed_same plan h e (Accepted port unit effects) refl))
    ∙ (ap (λ (ps : List Packet). slice_get ps m) (sym begins.1) ∙ there)

-- ---- one packet

-- the packet that was sealed at a pair, as one of a sub-stream and draw, is the interface's
pub trusted_there : (plan : Plan) (h : History) (port : PortName) (unit : UnitName) (p : Packet)
    (adm : Admitted plan h port unit p) (for : For plan h port.line unit.stream unit.draw adm.head) (d : SealedPacket)
    (q : Packet) (older : History) (bytes : List ℕ) (trusted : Bool) (ds : List SealedPacket) → q ≡ p → sub_stream_of d
    ≡ received_in port unit → IsNew plan bytes ds d q → SealFits plan older bytes trusted d
    → IsTrusted plan for.site bytes d
trusted_there plan h port unit p adm for d q older bytes trusted ds same stream new fit =
    let prefix = ap (λ (r : Packet). r.prefix) new.packet ∙ prefix_is plan new.ahead bytes d new.unfinished in
    let has_t : d.t ≡ true = sym (ap (λ (f : Prefix). f.t) prefix) ∙
    (ap (λ (r : Packet). r.prefix.t) same ∙ adm.trusted) in
    let sync : d.sync ≡ false = not_synced d.sync _ (sym fit.t_is ∙ has_t) in
    let head : p.head ≡ head_in (read_of bytes) = ap (λ (r : Packet). r.head) (sym same) ∙
    (ap (λ (r : Packet). r.head) new.packet ∙ head_is plan new.ahead bytes d new.unfinished sync) in
    let tlp = head_of bytes adm.head (read_of bytes) refl (ap (λ (bs : List ℕ). read_head_of bs) (sym head) ∙ adm.reads)
    in
    let port_is = at_device_end d.port port.side port.line (ap (λ (s : SubStream). s.line) stream)
    (ap (λ (s : SubStream). s.direction) stream) adm.host in
    record {
      at_device = port_is ∙ ap (λ (l : ℕ). record { side = Device; line = l }) (sym for.link_is);
      on_stream = ap (λ (s : SubStream). s.stream) stream ∙ sym for.stream_is;
      has_t = has_t;
      owned = ap (owner_read plan for.site.link) tlp.1 ∙ ((λ i. owner_site plan (for.link_is i) (tlp.2 i)) ∙ for.owns);
    }

some_same : (p q : Packet) → Some p ≡ Some q → p ≡ q
some_same p q e = cc (e)

-- packet n of the unit, if it is admitted
pub origin_of : (plan : Plan) → FitsPlan plan → StreamsFit plan → DrawFacts plan
    → (h : History) (e : Event) (port : PortName) (unit : UnitName) (effects : List Effect)
    → CauseLaw plan ((e, Accepted port unit effects) ∷ h) → UnitIsUnforged plan h e (Accepted port unit effects)
    → (n : ℕ) (p : Packet) → Admitted plan h port unit p → slice_get (unit_ended plan h e port unit) n ≡ Some p
    → IsFrom plan h port unit p (length (accepted_packets plan h (received_in port unit) unit.draw) + n)
origin_of plan whole fits facts h e port unit effects cause forged n p adm stands =
    let s = received_in port unit in
    let m = length (accepted_packets plan h s unit.draw) + n in
    let for = owner_means plan h port.line unit.stream unit.draw adm.head (owner_id adm.head) refl adm.bound in
    let x = for.site in
    let at = sent_at plan fits facts h e port unit effects cause forged n p stands in
    let among = place_among (sealed_packets plan h) s unit.draw m p at in
    let names = in_parts s unit.draw among.sealed among.under in
    let d = among.sealed.0 in
    let device = at_device_end d.port port.side port.line (ap (λ (t : SubStream). t.line) names.2)
    (ap (λ (t : SubStream). t.direction) names.2) adm.host in
    let below = number_on_link plan x for.known in
    let same : d.port.line ≡ x.link = ap (λ (q : PortName). q.line) device ∙ sym for.link_is in
    let on_link : d.port.line < length plan.links = grind (arith, nat_tests, below, same) in
    let sealing = sealing_of plan whole h cause.1 among.place d among.sealed.1 (ap (λ (q : PortName). q.side) device)
    on_link
    among.stands in
    let seal = by_send plan h cause.1 among.place d among.sealed.1 adm.head sealing
    (ap (λ (r : Packet). r.prefix.t) among.packet ∙ adm.trusted)
    (ap (λ (r : Packet). read_head_of r.head) among.packet ∙ adm.reads) adm.request in
    let known = interface_cause plan h cause.1 in
    let fit = all_get (SealFits plan seal.older seal.bytes seal.trusted) seal.ds seal.new.index d
    (cause_before plan ((Send seal.port seal.bytes seal.more seal.trusted, Sealed seal.ds) ∷ seal.older) h seal.came
    known).0 seal.new.listed in
    let is_trusted = trusted_there plan h port unit p adm for d among.sealed.1 seal.older seal.bytes
    seal.trusted seal.ds among.packet names.2 seal.new fit in
    let runs = (views_hold plan (key_plan plan) h (key_cause plan h cause.1) known x for.known).running for.view in
    let since = trusted_before plan x (λ g d. floor_at h x ≤ d.draw → InRun plan x (locks_accepted plan h x) g)
    ((Send seal.port seal.bytes seal.more seal.trusted, Sealed seal.ds) ∷ seal.older) h seal.came runs.since in
    let there = all_get (λ (y : SealedPacket). IsTrusted plan x seal.bytes y → floor_at h x ≤ y.draw
    → InRun plan x (locks_accepted plan h x) seal.older) seal.ds seal.new.index d since.0 seal.new.listed in
    let in_run = there is_trusted (omega (arith, for.floor, names.1)) in
    let less = get_less (sent_packets plan h s unit.draw) m p at in
    record {
      interface = x;
      known = for.known;
      link = for.link_is;
      head = adm.head;
      reads = adm.reads;
      requester = for.requester;
      stream = for.stream_is;
      view = for.view;
      floor = for.floor;
      origin = record {
        place = among.place;
        stands = record {
          sealed = among.sealed;
          stands = among.stands;
          under = among.under;
          number = sym (ap length among.before ∙ length-take-le m (sent_packets plan h s unit.draw)
              (omega (arith, less)));
        };
        event = Send seal.port seal.bytes seal.more seal.trusted;
        verdict = Sealed seal.ds;
        older = seal.older;
        came = seal.came;
        from = seal.from;
        until = seal.until;
        runs = in_run.runs;
        same_lock = in_run.same_lock;
      };
      same = among.packet;
    }

origin_at : (plan : Plan) → FitsPlan plan → StreamsFit plan → DrawFacts plan
    → (h : History) (e : Event) (port : PortName) (unit : UnitName) (effects : List Effect)
    → CauseLaw plan ((e, Accepted port unit effects) ∷ h) → UnitIsUnforged plan h e (Accepted port unit effects)
    → AreFrom plan h e (Accepted port unit effects)
origin_at plan whole fits facts h e port unit effects cause forged n w p is stands =
    let q = port_of plan port in
    let each = each_at plan h q unit (plain_of plan port unit (unit_ended plan h e port unit))
    (unit_ended plan h e port unit) n (Some w) is in
    let same : each.packet ≡ p = some_same each.packet p (sym each.stands ∙ stands) in
    let adm = at_port plan whole h port unit p (accepted_known plan h e port unit effects cause.0)
    (subst (Admitted plan h q unit) same (admitted_means plan h q unit each.packet each.payload w each.is)) in
    origin_of plan whole fits facts h e port unit effects cause forged n p adm stands

-- ---- the law

are_from : (plan : Plan) → FitsPlan plan → StreamsFit plan → DrawFacts plan → (h : History) (e : Event) (w : Verdict)
    → CauseLaw plan ((e, w) ∷ h) → UnitIsUnforged plan h e w → AreFrom plan h e w
are_from plan whole fits facts h e (Accepted port unit effects) cause forged = origin_at plan whole fits facts h e port
    unit effects
    cause forged
are_from plan whole fits facts h e w cause forged = tt

pub origin_law : (plan : Plan) → FitsPlan plan → StreamsFit plan → DrawFacts plan → (h : History)
    → CauseLaw plan h → LocalOriginLaw plan h
origin_law plan whole fits facts h cause =
    of_pairs UnitIsUnforged AreFrom plan (are_from plan whole fits facts) h cause
