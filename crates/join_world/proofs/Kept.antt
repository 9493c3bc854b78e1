-- Events that leave what stands beside the ports as it is. No stream leaves Secure at them, so the machine's interfaces
-- rest, and so do the draws, and memory, to which no arrival brings a write.
use Rattle.std.proofs.Common.{◌≡◌, ℕ, ◌≤◌, Bool, true, false, List, [], length, Option, Some, None, refl, ap, sym}
use Rattle.std.proofs.Common.{◌∙◌, subst, arith, inr}
use Rattle.std.specs.Prelude.{not, if◌then◌else◌, nat_lt, slice_get}
use Rattle.ide_types.specs.declared.direction.Direction.{Direction}
use Rattle.ide_types.specs.declared.port.PortName.{PortName}
use Rattle.ide_types.specs.Fits.{FitsPlan}
use Rattle.ide_types.specs.declared.plan.Plan.{Plan}
use Rattle.script_events.specs.declared.event.Event.{Event}
use Rattle.script_events.specs.declared.event.Event.TheVariants.{Access, Absent, Send, Dump, Forward, Reset, Status}
use Rattle.script_events.specs.declared.event.Event.TheVariants.{Interface}
use Rattle.script_events.specs.declared.event.AccessEvent.TheVariants as ae
use Rattle.script_events.specs.declared.event.InterfaceEvent.{InterfaceEvent}
use Rattle.script_events.specs.declared.event.InterfaceEvent.TheVariants as ie
use Rattle.event_verdicts.specs.declared.verdict.Verdict.{Verdict}
use Rattle.event_verdicts.specs.declared.verdict.Verdict.TheVariants as v
use Rattle.spec_keys.specs.Operations.{StreamStage}
use Rattle.interface_host.specs.Views.{HostTdi}
use Rattle.trusted_memory.specs.{Write, IsLeftBy, newest_first}
use Rattle.spec_interfaces.specs.Sites.{Site, sites}
use Rattle.spec_interfaces.specs.Devices.{next_interface}
use Rattle.spec_interfaces.specs.Views.{managed_after, is_number, number_in}
use Rattle.machine_whole.specs.Interfaces.{Face, around_of, grant_of}
use Rattle.join_interfaces.specs.Faces.{IsManaged}
use Rattle.spec_links.specs.History.{ArrivedBytes}
use Rattle.spec_links.specs.Memory.{Grants}
use Rattle.machine_ports.specs.Machine.{BesidePorts, LinkState, Stepped, status_found}
unfoldable use Rattle.machine_ports.specs.Machine.{find_op, step_of}
use Rattle.machine_whole.specs.Machine.{Whole, whole_streams, arrival_of, draw_after, written_after}
use Rattle.machine_whole.specs.Machine.{beside_of, whole_after}
use Rattle.whole_links.specs.{AreLinks, InterfacesView, Links, links_state, BesideStays, writes_by}
use Rattle.join_interfaces.specs.Says.{AreSecureStill, says_by_ports}
use Rattle.join_interfaces.proofs.Settled.{leaves_none, stays_is}
use Rattle.join_interfaces.proofs.Sends.{StaySecure, answer_kept, forward_kept, response_kept, says_kept, sends_kept}
use Rattle.join_world.specs.Whole.{AreDrawn, IsBeside}
use Rattle.join_world.proofs.Rests.{Rests, rests_of_packets, rests_at_view, rests_at_memory, rests_elsewhere}
use Rattle.join_world.proofs.Rests.{is_of_packets, is_of_peer, draw_of_packets, rests_unasked}
use Rattle.std.proofs.lemmas.Bool.Decides.{nat_tests}
use Rattle.join_world.proofs.Follows.{OnlyLeaves, IsManagedAfter, beside_led}

-- ---- an interface

only_rests : (plan : Plan) (w : Whole) (e : Event) (verdict : Verdict) (new : LinkState) (x : Site) (f : Face)
    → AreSecureStill (says_by_ports plan w.links x.link) (says_by_ports plan new x.link)
    → Rests e verdict x → OnlyLeaves plan w e verdict new x f
only_rests plan w e verdict new x f stays rests =
    let a = around_of plan (whole_streams plan w) w.faces.used x f in
    let before = says_by_ports plan w.links x.link in
    let after = says_by_ports plan new x.link in
    record {
      next =
          ap (λ (b : Bool). next_interface a b x e verdict f.tdi) (leaves_none before after x.plan f.tdi.bindings stays)
          ∙ rests.next a f.tdi
          ∙ stays_is before after x.plan f.tdi stays;
      none = rests.none a f.tdi;
    }

-- the same manager keeps it if the machine keeps the same of it
pub managed_kept : (plan : Plan) (w : Whole) (e : Event) (verdict : Verdict) (m m' : InterfacesView) (i : ℕ) (x : Site)
    (interface : HostTdi) (f : Face) → m' ≡ m → slice_get m.interfaces i ≡ Some interface
    → draw_after (whole_streams plan w).op w.links.draws e verdict w.draw ≡ w.draw
    → managed_after (whole_streams plan w).op w.links.draws x e verdict f.managed ≡ f.managed
    → IsManaged (w.draw x.link x.plan.stream) x interface f.managed → IsManagedAfter plan w e verdict m' i x f
managed_kept plan w e verdict m m' i x interface f keeper is draw kept managed = record {
  interface = interface;
  interface_is = ap (λ (n : InterfacesView). slice_get n.interfaces i) keeper ∙ is;
  managed = subst
      (λ (d : ℕ → ℕ → ℕ). IsManaged (d x.link x.plan.stream) x interface
      (managed_after (whole_streams plan w).op w.links.draws x e verdict f.managed)) (sym draw)
      (subst (λ n. IsManaged (w.draw x.link x.plan.stream) x interface n) (sym kept) managed);
}

-- ---- memory

-- the writes are those that the arrival brings
pub written_is : (plan : Plan) (w : Whole) (e : Event) (verdict : Verdict) → written_after plan w e verdict
    ≡ newest_first (writes_by plan (grant_of plan w.faces) w.links (arrival_of plan w.links e) verdict) w.written
written_is plan w e (v.Accepted port unit effects) = refl
written_is plan w e verdict = refl

none_brought : (plan : Plan) (grants : Grants) (st : LinkState) (verdict : Verdict)
    → writes_by plan grants st None verdict ≡ []
none_brought plan grants st (v.Accepted port unit effects) = refl
none_brought plan grants st verdict = refl

pub written_kept : (plan : Plan) (w : Whole) (e : Event) (verdict : Verdict) → arrival_of plan w.links e ≡ None
    → written_after plan w e verdict ≡ w.written
written_kept plan w e verdict none =
    written_is plan w e verdict
    ∙ ap (λ (o : Option ArrivedBytes). newest_first (writes_by plan (grant_of plan w.faces) w.links o verdict)
    w.written)
    none
    ∙ ap (λ (os : List (Option Write)). newest_first os w.written)
    (none_brought plan (grant_of plan w.faces) w.links verdict)

-- ---- all of them

-- no stream left Secure, and the event rests at each interface, draw and byte
pub record IsStill (plan : Plan) (w : Whole) (e : Event) (verdict : Verdict) (new : LinkState) : Type 0 where
  pub stays : (link : ℕ) → AreSecureStill (says_by_ports plan w.links link) (says_by_ports plan new link)
  pub rests : (i : ℕ) (x : Site) → slice_get (sites plan) i ≡ Some x → Rests e verdict x
  pub draw : draw_after (whole_streams plan w).op w.links.draws e verdict w.draw ≡ w.draw
  pub written : written_after plan w e verdict ≡ w.written

pub kept_beside : (plan : Plan) (w : Whole) (e : Event) (verdict : Verdict) (new : LinkState) (old after : Links)
    → FitsPlan plan → IsBeside plan old.ends.links old.keeper.interfaces old.trusted.contents w
    → length after.ends.links ≡ length old.ends.links → BesideStays old after → IsStill plan w e verdict new
    → IsBeside plan after.ends.links after.keeper.interfaces after.trusted.contents (whole_after plan w e verdict new)
kept_beside plan w e verdict new old after fits b many sides still =
    beside_led plan w e verdict new old.ends.links after.ends.links old.keeper.interfaces after.keeper.interfaces
    old.trusted.contents after.trusted.contents fits b (record {
      many = many;
      led = λ link l l' at at'. inr (sides.devices link l l' at at', still.stays link);
      only = λ i x f at there. only_rests plan w e verdict new x f (still.stays x.link) (still.rests i x at);
      portion = ap (λ (m : InterfacesView). m.portion) sides.keeper;
      interfaces = ap (λ (m : InterfacesView). length m.interfaces) sides.keeper;
      managed = λ i x interface f at is there managed.
          managed_kept plan w e verdict old.keeper.interfaces after.keeper.interfaces i x interface f sides.keeper is
          still.draw ((still.rests i x at).managed (whole_streams plan w).op w.links.draws f.managed) managed;
      regions = ap (λ m. m.regions) sides.contents ∙ b.regions;
      written = subst (λ m. IsLeftBy m (written_after plan w e verdict)) (sym sides.contents)
          (subst (IsLeftBy old.trusted.contents) (sym still.written) b.written);
    })

-- ports, interfaces, draws and memory are a state of the machine
pub record IsState (plan : Plan) (s : Links) (w : Whole) : Type 0 where
  pub links : w.links ≡ links_state plan s
  pub beside : IsBeside plan s.ends.links s.keeper.interfaces s.trusted.contents w
  pub drawn : AreDrawn plan s.keeper.peer_draws w.draw

-- the links before and after an event, and the state of the machine before it
pub record AreBoth (plan : Plan) (old new : Links) (w : Whole) : Type 0 where
  pub links : AreLinks plan old.ends old.keeper.keys
  pub links_after : AreLinks plan new.ends new.keeper.keys
  pub whole : IsState plan old w

-- ---- events that leave the ports as they are

pub interface_step : (plan : Plan) (w : Whole) (st : LinkState) (e : InterfaceEvent) (verdict : Verdict)
    → ◌≡◌ {A = Stepped} (verdict, st) (step_of plan (beside_of plan w) w.links (Interface e))
    → (verdict ≡ (beside_of plan w).answer e) × (st ≡ w.links)
unfolding step_of
interface_step plan w st e verdict is = (ap (λ (s : Stepped). s.0) is, ap (λ (s : Stepped). s.1) is)

abbrev leaves_ports : Plan → Event → Bool
leaves_ports plan (Dump n) = true
leaves_ports plan (Status line stream) = true
leaves_ports plan (Interface e) = true
leaves_ports plan (Access (ae.Mmio interface bar offset len)) = true
leaves_ports plan (Reset link ends) = not (nat_lt link (length plan.links))
leaves_ports plan Absent = true
leaves_ports plan e = false

status_kept : (plan : Plan) (st : LinkState) (line stream : ℕ) (o : Option StreamStage)
    → (status_found plan st line stream o).1 ≡ st
status_kept plan st line stream None = refl
status_kept plan st line stream (Some q) = refl

past_kept : (b : Bool) (r : Stepped) (w : Verdict) (st : LinkState) → not b ≡ true → (if b then r else (w, st)).1 ≡ st
past_kept true r w st is = absurd cc
past_kept false r w st is = refl

ports_kept : (plan : Plan) (beside : BesidePorts) (st : LinkState) (e : Event) → leaves_ports plan e ≡ true
    → (step_of plan beside st e).1 ≡ st
unfolding step_of
ports_kept plan beside st (Dump n) is = refl
ports_kept plan beside st (Status line stream) is = status_kept plan st line stream (find_op plan st line stream)
ports_kept plan beside st (Interface e) is = refl
ports_kept plan beside st (Access (ae.Mmio interface bar offset len)) is = refl
ports_kept plan beside st (Reset link ends) is = past_kept (nat_lt link (length plan.links)) _ _ st is
ports_kept plan beside st Absent is = refl
ports_kept plan beside st e is = absurd cc

stays_there : (plan : Plan) (beside : BesidePorts) (st new : LinkState) (e : Event) (verdict : Verdict)
    → leaves_ports plan e ≡ true → ◌≡◌ {A = Stepped} (verdict, new) (step_of plan beside st e) → StaySecure plan st new
stays_there plan beside st new e verdict is step = subst (StaySecure plan st)
    (sym (ap (λ (r : Stepped). r.1) step ∙ ports_kept plan beside st e is)) (λ end stream secure. secure)

past_verdict : (b : Bool) (r : Stepped) (w : Verdict) (st : LinkState) → not b ≡ true → (if b then r else (w, st)).0 ≡ w
past_verdict true r w st is = absurd cc
past_verdict false r w st is = refl

absent_verdict : (plan : Plan) (beside : BesidePorts) (st : LinkState) (link : ℕ) (ends : List PortName)
    → leaves_ports plan (Reset link ends) ≡ true → (step_of plan beside st (Reset link ends)).0 ≡ v.Nothing
unfolding step_of
absent_verdict plan beside st link ends is = past_verdict (nat_lt link (length plan.links)) _ _ st is

not_there : (link n : ℕ) → n ≤ link → not (nat_lt link n) ≡ true
not_there link n le = grind (arith, nat_tests)

module _ (plan : Plan) (old new : Links) (w : Whole) (verdict : Verdict) (beside : BesidePorts)
    (both : AreBoth plan old new w) (sides : BesideStays old new) where
  still_beside : (e : Event) → IsStill plan w e verdict (links_state plan new)
      → IsBeside plan new.ends.links new.keeper.interfaces new.trusted.contents
      (whole_after plan w e verdict (links_state plan new))
  still_beside e still = kept_beside plan w e verdict (links_state plan new) old new both.links.fits both.whole.beside
      (both.links_after.many ∙ sym both.links.many) sides still

  -- the state of the machine after it is one in which every stream is Secure still
  stays_in : (e : Event) → (verdict, links_state plan new) ≡ step_of plan beside w.links e
      → StaySecure plan w.links (step_of plan beside w.links e).1 → (link : ℕ)
      → AreSecureStill (says_by_ports plan w.links link) (says_by_ports plan (links_state plan new) link)
  stays_in e step stays = says_kept plan w.links (links_state plan new)
      (subst (StaySecure plan w.links) (sym (ap (λ (r : Stepped). r.1) step)) stays)

  -- one that may seal packets
  sealing_beside : (e : Event) → (verdict, links_state plan new) ≡ step_of plan beside w.links e
      → StaySecure plan w.links (step_of plan beside w.links e).1 → is_of_packets e verdict ≡ true
      → arrival_of plan w.links e ≡ None → IsBeside plan new.ends.links new.keeper.interfaces new.trusted.contents
      (whole_after plan w e verdict (links_state plan new))
  sealing_beside e step stays packets none =
      still_beside e (record {
        stays = stays_in e step stays;
        rests = λ i x at. rests_of_packets e verdict x packets;
        draw = draw_of_packets (whole_streams plan w).op w.links.draws e verdict w.draw packets;
        written = written_kept plan w e verdict none;
      })

  pub send_beside : (port : PortName) (bytes : List ℕ) (more trusted : Bool)
      → (verdict, links_state plan new) ≡ step_of plan beside w.links (Send port bytes more trusted)
      → IsBeside plan new.ends.links new.keeper.interfaces new.trusted.contents
      (whole_after plan w (Send port bytes more trusted) verdict (links_state plan new))
  send_beside port bytes more trusted step = sealing_beside (Send port bytes more trusted) step
      (sends_kept plan beside w.links port bytes more trusted) refl refl

  pub answer_beside : (link : ℕ)
      → (verdict, links_state plan new) ≡ step_of plan beside w.links (Access (ae.Answer link))
      → IsBeside plan new.ends.links new.keeper.interfaces new.trusted.contents
      (whole_after plan w (Access (ae.Answer link)) verdict (links_state plan new))
  answer_beside link step =
      sealing_beside (Access (ae.Answer link)) step (answer_kept plan beside w.links link) refl refl

  pub response_beside : (link : ℕ)
      → (verdict, links_state plan new) ≡ step_of plan beside w.links (Access (ae.Respond link))
      → IsBeside plan new.ends.links new.keeper.interfaces new.trusted.contents
      (whole_after plan w (Access (ae.Respond link)) verdict (links_state plan new))
  response_beside link step =
      sealing_beside (Access (ae.Respond link)) step (response_kept plan beside w.links link) refl refl

  pub forward_beside : (link : ℕ) (d : Direction) → (verdict, links_state plan new)
      ≡ step_of plan beside w.links (Forward link d) → IsBeside plan new.ends.links new.keeper.interfaces
      new.trusted.contents (whole_after plan w (Forward link d) verdict (links_state plan new))
  forward_beside link d step = sealing_beside (Forward link d) step (forward_kept plan beside w.links link d) refl refl

  -- an event that leaves the ports as they are
  pub leaving_beside : (e : Event) → leaves_ports plan e ≡ true → (verdict, links_state plan new)
      ≡ step_of plan beside w.links e → ((i : ℕ) (x : Site) → slice_get (sites plan) i ≡ Some x → Rests e verdict x)
      → draw_after (whole_streams plan w).op w.links.draws e verdict w.draw ≡ w.draw → arrival_of plan w.links e ≡ None
      → IsBeside plan new.ends.links new.keeper.interfaces new.trusted.contents
      (whole_after plan w e verdict (links_state plan new))
  leaving_beside e leaving step rests draw none =
      still_beside e (record {
        stays = says_kept plan w.links (links_state plan new)
            (stays_there plan beside w.links (links_state plan new) e verdict leaving step);
        rests = rests;
        draw = draw;
        written = written_kept plan w e verdict none;
      })

  pub dump_beside : (n : ℕ) → (verdict, links_state plan new) ≡ step_of plan beside w.links (Dump n)
      → IsBeside plan new.ends.links new.keeper.interfaces new.trusted.contents
      (whole_after plan w (Dump n) verdict (links_state plan new))
  dump_beside n step = leaving_beside (Dump n) refl step (λ i x at. rests_of_packets (Dump n) verdict x refl) refl refl

  pub status_beside : (link stream : ℕ) → (verdict, links_state plan new)
      ≡ step_of plan beside w.links (Status link stream) → IsBeside plan new.ends.links new.keeper.interfaces
      new.trusted.contents (whole_after plan w (Status link stream) verdict (links_state plan new))
  status_beside link stream step = leaving_beside (Status link stream) refl step
      (λ i x at. rests_of_packets (Status link stream) verdict x refl) refl refl

  pub mmio_beside : (interface bar offset len : ℕ)
      → (verdict, links_state plan new) ≡ step_of plan beside w.links (Access (ae.Mmio interface bar offset len))
      → IsBeside plan new.ends.links new.keeper.interfaces new.trusted.contents
      (whole_after plan w (Access (ae.Mmio interface bar offset len)) verdict (links_state plan new))
  mmio_beside interface bar offset len step =
      let e = Access (ae.Mmio interface bar offset len) in
      leaving_beside e refl step (λ i x at. rests_of_packets e verdict x refl) refl refl

  pub view_beside : (i : ℕ) → (verdict, links_state plan new) ≡ step_of plan beside w.links (Interface (ie.View i))
      → IsBeside plan new.ends.links new.keeper.interfaces new.trusted.contents
      (whole_after plan w (Interface (ie.View i)) verdict (links_state plan new))
  view_beside i step = leaving_beside (Interface (ie.View i)) refl step (λ j x at. rests_at_view i verdict x) refl refl

  pub memory_beside : (at len : ℕ)
      → (verdict, links_state plan new) ≡ step_of plan beside w.links (Interface (ie.Memory at len))
      → IsBeside plan new.ends.links new.keeper.interfaces new.trusted.contents
      (whole_after plan w (Interface (ie.Memory at len)) verdict (links_state plan new))
  memory_beside at len step =
      leaving_beside (Interface (ie.Memory at len)) refl step (λ j x is. rests_at_memory at len verdict x) refl refl

  -- an event on an interface that is not there
  pub elsewhere_beside : (e : InterfaceEvent)
      → (verdict, links_state plan new) ≡ step_of plan beside w.links (Interface e)
      → ((i : ℕ) (x : Site) → slice_get (sites plan) i ≡ Some x → is_number (number_in e) x.number ≡ false)
      → IsBeside plan new.ends.links new.keeper.interfaces new.trusted.contents
      (whole_after plan w (Interface e) verdict (links_state plan new))
  elsewhere_beside e step other =
      leaving_beside (Interface e) refl step (λ i x at. rests_elsewhere e verdict x (other i x at)) refl refl

  -- a bind or an unbind that gives nothing
  pub unasked_beside : (e : InterfaceEvent) → is_of_peer e ≡ true → verdict ≡ v.Nothing
      → (verdict, links_state plan new) ≡ step_of plan beside w.links (Interface e)
      → IsBeside plan new.ends.links new.keeper.interfaces new.trusted.contents
      (whole_after plan w (Interface e) verdict (links_state plan new))
  unasked_beside e peer nothing step = leaving_beside (Interface e) refl step
      (λ i x at. subst (λ (u : Verdict). Rests (Interface e) u x) (sym nothing) (rests_unasked e x peer)) refl refl

  -- what the topology does not have
  pub nothing_beside : (verdict, links_state plan new) ≡ step_of plan beside w.links Absent
      → IsBeside plan new.ends.links new.keeper.interfaces new.trusted.contents
      (whole_after plan w Absent verdict (links_state plan new))
  nothing_beside step = leaving_beside Absent refl step (λ i x at. rests_of_packets Absent verdict x refl) refl refl

  -- a reset of a link that is not there
  pub absent_beside : (link : ℕ) (ends : List PortName) → length old.ends.links ≤ link → (verdict, links_state plan new)
      ≡ step_of plan beside w.links (Reset link ends) → IsBeside plan new.ends.links new.keeper.interfaces
      new.trusted.contents (whole_after plan w (Reset link ends) verdict (links_state plan new))
  absent_beside link ends past step =
      let absent = not_there link (length plan.links) (omega (arith, past, both.links.many)) in
      let nothing : verdict ≡ v.Nothing =
      ap (λ (r : Stepped). r.0) step ∙ absent_verdict plan beside w.links link ends absent in
      let packets : is_of_packets (Reset link ends) verdict ≡ true = ap (is_of_packets (Reset link ends)) nothing in
      leaving_beside (Reset link ends) absent step (λ i x at. rests_of_packets (Reset link ends) verdict x packets)
      (draw_of_packets (whole_streams plan w).op w.links.draws (Reset link ends) verdict w.draw packets) refl
