-- What an interface sealed with T: it was in RUN, and since then its lock stands and the manager has it started, or the
-- halt that ended it made the draw too small for its next start.
use Rattle.law_sealing.proofs.Terms.{◌≡◌, inl, inr, ℕ, ◌+◌, ◌≤◌, ◌==◌, ◌&&◌, Bool, true, false}
use Rattle.law_sealing.proofs.Terms.{List, [], ◌∷◌, ◌++◌, length, slice_get, not, Option, Some, refl, ap, sym}
use Rattle.law_sealing.proofs.Terms.{subst, ◌∙◌, arith, nat_tests, if◌then◌else◌, append_assoc}
use Rattle.law_sealing.proofs.Terms.{Plan, PortName, History, Event, Send, Verdict, Sealed, SealedPacket, CauseLaw}
use Rattle.law_sealing.proofs.Terms.{sending_port, sent_bytes, sealing_is, all_live, sub_stream_of}
use Rattle.law_sealing.proofs.Terms.{read_of}
use Rattle.std.specs.Prelude.{◌-◌, nat_le, nat_lt}
use Rattle.std.proofs.lemmas.Bool.{and_parts, true≢false}
use Rattle.std.proofs.lemmas.Option.{same_Some}
use Rattle.ide_types.specs.Lines.{is_link_line, peer_line}
use Rattle.ide_types.specs.Ports.{device_port}
use Rattle.ide_types.specs.Ends.{line_has, port_beside_end}
use Rattle.ide_types.specs.Fits.{FitsPlan}
unfoldable use Rattle.spec_interfaces.specs.Peers.{peer_end}
use Rattle.spec_keys.specs.Keys.{on_in}
use Rattle.spec_keys.specs.Operations.{Begun}
use Rattle.spec_keys.specs.History.{begun_of_draw, manager, draws, op_of}
use Rattle.spec_keys.proofs.Owners.{owner}
use Rattle.law_key_facts.proofs.Given.{key_cause}
use Rattle.law_key_facts.proofs.SealedKeys.{live_on}
use Rattle.law_key_facts.proofs.Unplanned.{on_at}
use Rattle.spec_links.specs.Plan.{key_plan}
use Rattle.spec_links.specs.History.{place_in_sub_stream}
unfoldable use Rattle.spec_links.specs.Ports.{port_of}
unfoldable use Rattle.spec_links.proofs.Terms.{bytes_by}
use Rattle.spec_interfaces.specs.Terms.{InterfaceEvent, View, Unlocked, Locked, Running, Doubt, Broken}
use Rattle.spec_interfaces.specs.Sites.{Site, site_at}
use Rattle.spec_interfaces.specs.Cause.{SealFits, t_at, is_peer, owners_link, owner_read}
use Rattle.spec_interfaces.specs.Devices.{runs_at, is_bound_at, locks_accepted, sets_t, interface_at}
unfoldable use Rattle.spec_interfaces.specs.Views.{managed_view}
use Rattle.spec_interfaces.specs.Views.{Managed, stream_draw, on_lock, on_report, on_start, on_halt}
use Rattle.spec_interfaces.specs.Views.{on_state, on_bind, on_operation, number_in, is_number, stop_breaks, view_broken}
use Rattle.spec_interfaces.proofs.OnLinks.{number_on_link}
use Rattle.law_memory.proofs.Causes.{interface_cause}
use Rattle.law_memory.specs.Bindings.{is_sent_by_device}
use Rattle.law_memory.proofs.BoundPackets.{at_device, owner_of}
use Rattle.law_memory.proofs.Found.{all_get}
use Rattle.law_memory.proofs.Packets.{IsOf}
use Rattle.law_memory.proofs.ResponseOwners.{end_of, response_owner}
use Rattle.law_memory.proofs.Responses.{responded, response_packets, response_sending, trusted_response}
use Rattle.law_locks.proofs.OneLock.{fronts}
use Rattle.law_memory.proofs.Found.{cause_at}
use Rattle.law_locks.proofs.Runs.{Since, later}
use Rattle.law_bytes.specs.NoOtherRun.{IsInNoOtherRun}
use Rattle.law_bytes.proofs.NoOtherRun.{made_by, no_other_since}
use Rattle.law_bytes.proofs.BindFloors.{bound_floor}
use Rattle.law_bytes.proofs.NoOtherRun.{live_of, stands_there}
use Rattle.law_bytes.proofs.PeerEnds.{found_there}
use Rattle.law_bindings.specs.OneLock.{SealedTrusted, IsAtPeer, IsAtDevice, FitsView, OneLockPerPeerKey}
use Rattle.law_bindings.proofs.Calls.{binds_has}
use Rattle.law_bindings.proofs.Floors.{bound_under, same_end}
use Rattle.law_locks.proofs.AllLaws.{own_number}
use Rattle.script_events.specs.declared.event.Event.TheVariants as event
use Rattle.script_events.specs.declared.event.AccessEvent.TheVariants as ae
use Rattle.script_events.specs.declared.event.InterfaceEvent.TheVariants as ie
use Rattle.event_verdicts.specs.declared.verdict.Verdict.TheVariants as v
use Rattle.law_bindings.proofs.OnlyDraw.{on_is_draw}
use Rattle.law_bytes.proofs.MmioOrigins.{unsynced}

-- ---- the end at a device of a stream between devices

pub record IsBetween (plan : Plan) (link id : ℕ) (e : PortName) : Type 0 where
  pub late : nat_le 24 e.line ≡ true
  pub is_peer : is_peer plan e ≡ true
  pub has : line_has plan e.line id ≡ true
  pub port : port_beside_end plan.peers e ≡ device_port link
  pub link_is : owners_link plan e ≡ link
  pub off_link : is_link_line e.line ≡ false

pub is_between : (plan : Plan) → FitsPlan plan → (link id : ℕ) (e : PortName)
    → peer_end plan.peers 0 link id ≡ Some e → IsBetween plan link id e
is_between plan fits link id e is =
    let at = found_there plan.peers 0 link id e is in
    let line : e.line ≡ 24 + at.place = at.line ∙ ap peer_line (omega arith) in
    let a : nat_lt e.line 8 ≡ false = grind (arith, nat_tests, line) in
    let b : nat_lt e.line 16 ≡ false = grind (arith, nat_tests, line) in
    let c : nat_lt e.line 24 ≡ false = grind (arith, nat_tests, line) in
    let place : e.line - 24 ≡ at.place = omega (arith, line) in
    let port : port_beside_end plan.peers e ≡ device_port link =
    rw (a, b, c, place, at.stands) (ap device_port at.meets) in
    let most = fits.links_most in
    let peer : is_peer plan e ≡ true = grind (arith, nat_tests, line, most) in
    record {
      late = grind (arith, nat_tests, line);
      is_peer = peer;
      has = rw (a, b, c, place, at.stands) at.has;
      port = port;
      link_is = rw peer (ap (λ (q : PortName). q.line) port);
      off_link = a;
    }

-- ---- what is sealed with T

link_end : (m n : ℕ) → nat_lt m n ≡ true → (nat_le 24 m && not (nat_lt m n)) ≡ false
link_end m n less = grind (arith, less)

link_t : (plan : Plan) (h : History) (x : Site) (stream : ℕ) (asked : Bool) (o : Option Site)
    → site_at plan x.number ≡ Some x → o ≡ Some x → t_at plan h (device_port x.link) o stream asked ≡ true
    → runs_at plan h x ≡ true
link_t plan h x stream asked o known owner is =
    let off = link_end x.link (length plan.links) (number_on_link plan x known) in
    let t : sets_t plan h x.link stream (Some x) ≡ true =
    subst (λ (z : Option Site). sets_t plan h x.link stream z ≡ true) owner (rw off at is) in
    (and_parts (runs_at plan h x) (x.plan.stream == stream) t).0

record RanBound (plan : Plan) (h : History) (x : Site) (stream : ℕ) : Type 0 where
  runs : runs_at plan h x ≡ true
  bound : is_bound_at plan h x stream ≡ true

-- at the device's port of the link
ran_at_link : (plan : Plan) → FitsPlan plan → (h : History) (x : Site) → site_at plan x.number ≡ Some x → (e : Event)
    (ds : List SealedPacket) (i : ℕ) (d : SealedPacket) → is_sent_by_device e ≡ true
    → CauseLaw plan ((e, Sealed ds) ∷ h) → slice_get ds i ≡ Some d → d.t ≡ true
    → owner_read plan x.link (read_of (sent_bytes plan h e)) ≡ Some x → d.port ≡ device_port x.link
    → runs_at plan h x ≡ true
unfolding bytes_by port_of
ran_at_link plan fits h x known (Send port bytes more trusted) ds i d sent cause at has_t owned there =
    let fit = all_get (SealFits plan h bytes trusted) ds i d
    (interface_cause plan ((Send port bytes more trusted, Sealed ds) ∷ h) cause).0 at in
    let off = link_end x.link (length plan.links) (number_on_link plan x known) in
    let link : owners_link plan (device_port x.link) ≡ x.link = rw off refl in
    let links : owners_link plan d.port ≡ x.link = ap (owners_link plan) there ∙ link in
    let t = subst (λ (q : PortName). t_at plan h q (owner_read plan (owners_link plan d.port) (read_of bytes)) d.stream
    trusted ≡ true) there (unsynced d.sync _ (sym fit.t_is ∙ has_t)) in
    link_t plan h x d.stream trusted _ known (ap (λ (l : ℕ). owner_read plan l (read_of bytes)) links ∙ owned) t
ran_at_link plan fits h x known (event.Access (ae.Respond link)) ds i d sent cause at has_t owned there =
    let is = responded plan h link ds cause.0 in
    let of = all_get (IsOf (response_sending is.read.came is.tlp)) ds i d (response_packets plan h link ds is) at in
    let trusted = unsynced d.sync is.read.came.trusted (sym of.t_is ∙ has_t) in
    let end : port_of plan (device_port x.link) ≡ device_port link =
    ap (port_of plan) (sym there ∙ of.port_is) ∙ end_of plan h link ds cause.1 is in
    let line : x.link ≡ link = ap (λ (q : PortName). q.line) (rw (number_on_link plan x known) at end) in
    let owner = response_owner plan fits h link ds cause.1 is in
    let both = sym owner
    ∙ (ap (λ (l : ℕ). owner_read plan l (read_of (sent_bytes plan h (event.Access (ae.Respond link))))) (sym line)
    ∙ owned) in
    ap (λ (y : Site). runs_at plan h y) (sym (same_Some is.interface x both))
    ∙ (trusted_response plan h link ds is trusted).runs
ran_at_link plan fits h x known e ds i d sent cause at has_t owned there = absurd cc

module _ (plan : Plan) (h : History) (cause : CauseLaw plan h) (x : Site) (known : site_at plan x.number ≡ Some x)
  where
    law_at : (a : SealedTrusted plan h x) → CauseLaw plan ((a.event, Sealed a.packets) ∷ a.older)
    law_at a = cause_at plan a.since ((a.event, Sealed a.packets) ∷ a.older) h a.came cause

    made_at : (a : SealedTrusted plan h x) → begun_of_draw (manager a.older).begun a.packet.draw
        ≡ Some (owner a.packet.port.line a.packet.stream a.packet.k)
    made_at a = made_by plan a.older a.event a.packets a.number a.packet (law_at a).0 a.listed

    at_peer : FitsPlan plan → (a : SealedTrusted plan h x) → IsAtPeer plan h x a
        → RanBound plan a.older x a.packet.stream
    at_peer fits a there =
        let between = is_between plan fits x.link a.packet.stream a.packet.port there in
        let device = at_device plan fits a.packet.port a.packet.stream between.late between.has in
        let owner = owner_of plan fits a.older a.event a.packets a.number a.packet a.sent (law_at a) a.listed
        device.is_peer device.not_own a.has_t in
        let both = sym owner.owns
        ∙ (ap (λ (l : ℕ). owner_read plan l (read_of (sent_bytes plan a.older a.event))) between.link_is ∙ a.owned) in
        let same : owner.interface ≡ x = same_Some owner.interface x both in
        record {
          runs = ap (λ (y : Site). runs_at plan a.older y) (sym same) ∙ owner.runs;
          bound = ap (λ (y : Site). is_bound_at plan a.older y a.packet.stream) (sym same) ∙ owner.bound;
        }

    at_its_device : FitsPlan plan → (a : SealedTrusted plan h x) → IsAtDevice plan h x a → runs_at plan a.older x ≡ true
    at_its_device fits a (inl link) =
        ran_at_link plan fits a.older x known a.event a.packets a.number a.packet a.sent (law_at a) a.listed a.has_t
        a.owned link
    at_its_device fits a (inr peer) = (at_peer fits a peer).runs

-- ---- what the view says of it

-- a view that is Locked was not started
abbrev IsUnstarted : Managed → Type 0
IsUnstarted m = m.view ≡ Locked → m.started ≡ false

lock_rests : (m : Managed) (w : Verdict) → IsUnstarted m → IsUnstarted (on_lock m w)
lock_rests m w rests = λ is. grind (arith, is, rests)

report_rests : (m : Managed) (w : Verdict) → IsUnstarted m → IsUnstarted (on_report m w)
report_rests m w rests = λ is. grind (arith, is, rests)

start_rests : (m : Managed) (w : Verdict) → IsUnstarted m → IsUnstarted (on_start m w)
start_rests m w rests = λ is. grind (arith, is, rests)

halt_rests : (drawn : ℕ) (m : Managed) (w : Verdict) → IsUnstarted m → IsUnstarted (on_halt drawn m w)
halt_rests drawn m w rests = λ is. grind (arith, is, rests)

state_rests : (m : Managed) (w : Verdict) → IsUnstarted m → IsUnstarted (on_state m w)
state_rests m w rests = λ is. grind (arith, is, rests)

bind_rests : (line : ℕ) (m : Managed) (w : Verdict) → IsUnstarted m → IsUnstarted (on_bind line m w)
bind_rests line m w rests = λ is. grind (arith, is, rests)

operation_rests : (drawn : ℕ) (e : InterfaceEvent) (w : Verdict) (m : Managed) → IsUnstarted m
    → IsUnstarted (on_operation drawn e w m)
operation_rests drawn (ie.Lock i loss) w m rests = lock_rests m w rests
operation_rests drawn (ie.Report i loss) w m rests = report_rests m w rests
operation_rests drawn (ie.Start i loss) w m rests = start_rests m w rests
operation_rests drawn (ie.Halt i loss) w m rests = halt_rests drawn m w rests
operation_rests drawn (ie.State i loss) w m rests = state_rests m w rests
operation_rests drawn (ie.Bind i line stream loss) w m rests = bind_rests line m w rests
operation_rests drawn e w m rests = rests

broken_rests : (b : Bool) (m : Managed) → IsUnstarted m
    → IsUnstarted (if b then record m { view = view_broken m.view } else m)
broken_rests true m rests = λ is. absurd (by m.view is)
  where
    by : (view : View) → view_broken view ≡ Locked → ⊥
    by Unlocked is = absurd cc
    by Locked is = absurd cc
    by Running is = absurd cc
    by Doubt is = absurd cc
    by Broken is = absurd cc
broken_rests false m rests = rests

own_rests : (b : Bool) (m n : Managed) → IsUnstarted n → IsUnstarted m → IsUnstarted (if b then n else m)
own_rests true m n one two = one
own_rests false m n one two = two

unstarted : (h : History) (x : Site) → IsUnstarted (managed_view h x)
unfolding managed_view
unstarted [] x = λ is. refl
unstarted ((event.Interface e, w) ∷ h) x =
    own_rests (is_number (number_in e) x.number) (managed_view h x) (on_operation (draws h) e w (managed_view h x))
    (operation_rests (draws h) e w (managed_view h x) (unstarted h x)) (unstarted h x)
unstarted ((event.Stop line stream loss, w) ∷ h) x =
    broken_rests (stop_breaks (op_of h) (draws h) x line stream w (managed_view h x)) (managed_view h x)
    (unstarted h x)
unstarted ((event.Reset link ends, v.Reset l) ∷ h) x = broken_rests (link == x.link) (managed_view h x) (unstarted h x)
unstarted ((e, w) ∷ h) x = unstarted h x

-- what it sealed in RUN, under the locks of then
pub since_then : (plan : Plan) (since k : History) (x : Site) (j : ℕ) (b : Begun) → site_at plan x.number ≡ Some x
    → CauseLaw plan (since ++ k) → CauseLaw plan k → runs_at plan k x ≡ true
    → begun_of_draw (manager k).begun j ≡ Some b → Since plan (locks_accepted plan k x) j (since ++ k) x
since_then plan since k x j b known cause before runs made =
    (later plan (locks_accepted plan k x) j b since k x known (interface_cause plan (since ++ k) cause)
    (record { made = made; since = inl (refl, stands_there plan k x known before runs) })).since

not_both : (b : Bool) → b ≡ true → b ≡ false → ⊥
not_both b one two = true≢false (sym one ∙ two)

pub fits_view : (plan : Plan) (h : History) (x : Site) (older : History) (j : ℕ) → runs_at plan older x ≡ true
    → Since plan (locks_accepted plan older x) j h x → FitsView plan h x older j
fits_view plan h x older j runs (inl same) = record {
  ran = runs;
  unlocked = λ is. absurd (same.1.locked is);
  locked = λ is. absurd (not_both (managed_view h x).started same.1.started (unstarted h x is));
  unstarted = λ is. absurd (not_both (managed_view h x).started same.1.started is);
  running = λ is least. sym same.0;
}
fits_view plan h x older j runs (inr past) = record {
  ran = runs;
  unlocked = λ is. past.needs;
  locked = λ is. past.needs;
  unstarted = λ is. past.needs;
  running = λ is least. let less = past.needs in absurd (omega (arith, less, least));
}

pub all_fit_view : (plan : Plan) → FitsPlan plan → (h : History) → CauseLaw plan h → (x : Site)
    → site_at plan x.number ≡ Some x → (a : SealedTrusted plan h x) → IsAtDevice plan h x a
    → FitsView plan h x a.older a.packet.draw
all_fit_view plan fits h cause x known a there =
    let pair : Event × Verdict = (a.event, Sealed a.packets) in
    let runs = at_its_device plan h cause x known fits a there in
    let is : (a.since ++ pair ∷ []) ++ a.older ≡ h = append_assoc a.since (pair ∷ []) a.older ∙ a.came in
    fits_view plan h x a.older a.packet.draw runs
    (subst (λ (g : History). Since plan (locks_accepted plan a.older x) a.packet.draw g x) is
    (since_then plan (a.since ++ pair ∷ []) a.older x a.packet.draw _ known (subst (CauseLaw plan) (sym is) cause)
    (law_at plan h cause x known a).1 runs (made_at plan h cause x known a)))

-- ---- what is sealed on a stream between devices

-- it is sealed under the draw of the stream
pub sealed_draw : (plan : Plan) (g : History) (e : Event) (ds : List SealedPacket) (i : ℕ) (d : SealedPacket)
    → CauseLaw plan ((e, Sealed ds) ∷ g) → slice_get ds i ≡ Some d → is_link_line d.port.line ≡ false
    → d.draw ≡ stream_draw g d.port.line d.stream
sealed_draw plan g e ds i d cause is off =
    let sealing = sealing_is plan g e ds cause.0 in
    let port = sealing.sending.port in
    let live = live_of plan g port sealing.sending.stream ds i d
    (all_live plan g (sending_port plan g e) (sent_bytes plan g e) ds sealing) is in
    let here = on_at g port (sub_stream_of d) d.k d.draw (live_on plan g port sealing.sending.stream d live) in
    (on_is_draw (key_plan plan) g (key_cause plan g cause.1) (place_in_sub_stream port (sub_stream_of d) here.sends) off
    d.k d.draw (ap on_in here.on)).0

-- an interface that is bound to a stream was in no RUN but this lock's since the draw of the stream was made
pub none_since_bound : (plan : Plan) (h : History) → CauseLaw plan h → (x : Site) → site_at plan x.number ≡ Some x
    → (stream : ℕ) → is_bound_at plan h x stream ≡ true → (end : PortName)
    → peer_end plan.peers 0 x.link stream ≡ Some end → (g : History) (j : ℕ) (b : Begun)
    → begun_of_draw (manager g).begun j ≡ Some b → stream_draw h end.line stream ≤ j → IsInNoOtherRun plan g h x
none_since_bound plan h cause x known stream is end at g j b made least =
    let floor = binds_has stream (interface_at plan h x).bindings is in
    let under = bound_under plan h cause x stream floor.0 floor.1 in
    let first = bound_floor plan h cause x known stream floor.0 floor.1 in
    let same = same_end under.end end (peer_end plan.peers 0 x.link stream) under.at_device at in
    let draw : stream_draw h end.line stream ≡ floor.0 =
    ap (λ (q : PortName). stream_draw h q.line stream) (sym same) ∙ under.draw_is in
    no_other_since plan h cause x known first.older first.came first.same_lock g j b made
    (omega (arith, first.needs, draw, least))

module _ (plan : Plan) (fits : FitsPlan plan) (h : History) (cause : CauseLaw plan h) (x : Site)
    (known : site_at plan x.number ≡ Some x) where
  earlier : (a b : SealedTrusted plan h x) → IsAtPeer plan h x a → IsAtPeer plan h x b → a.packet.draw ≡ b.packet.draw
      → (since : History) → since ++ a.older ≡ b.older
      → locks_accepted plan a.older x ≡ locks_accepted plan b.older x
  earlier a b at_a at_b same since is =
      let ran = at_peer plan h cause x known fits a at_a in
      let runs = at_peer plan h cause x known fits b at_b in
      let law = law_at plan h cause x known b in
      let between = is_between plan fits x.link b.packet.stream b.packet.port at_b in
      let draw = sealed_draw plan b.older b.event b.packets b.number b.packet law
      b.listed
      between.off_link in
      none_since_bound plan b.older law.1 x known b.packet.stream runs.bound b.packet.port at_b a.older a.packet.draw _
      (made_at plan h cause x known a) (omega (arith, draw, same)) a.older (record { since = []; is = refl })
      (record { since = since; is = is }) ran.runs

  one_lock_sealed : (a b : SealedTrusted plan h x) → IsAtPeer plan h x a → IsAtPeer plan h x b
      → a.packet.draw ≡ b.packet.draw → locks_accepted plan a.older x ≡ locks_accepted plan b.older x
  one_lock_sealed a b at_a at_b same =
      elim (fronts (a.since ++ (a.event, Sealed a.packets) ∷ [])
      (b.since ++ (b.event, Sealed b.packets) ∷ []) a.older b.older
      (append_assoc a.since _ a.older ∙ (a.came ∙ (sym b.came ∙ sym (append_assoc b.since _ b.older))))) [
        | inl s ↦ sym (earlier b a at_b at_a (sym same) s.0 s.1)
        | inr s ↦ earlier a b at_a at_b same s.0 s.1
      ]

pub one_lock_per_peer_key : (plan : Plan) → FitsPlan plan → (h : History) → CauseLaw plan h → OneLockPerPeerKey plan h
one_lock_per_peer_key plan fits h cause i x at a b at_a at_b same =
    one_lock_sealed plan fits h cause x (own_number plan i x at) a b at_a at_b same
