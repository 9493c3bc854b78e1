-- Whatever event comes, what stands beside the ports is afterwards what the whole machine keeps, and so are the draws
-- of streams between devices: by the family of the event.
use Rattle.std.proofs.Common.{◌≡◌, ℕ, List, refl, sym, subst, ⊎_elim}
use Rattle.std.proofs.lemmas.Bool.{cases_Bool, cases_lt}
use Rattle.ide_types.specs.declared.plan.Plan.{Plan}
use Rattle.script_events.specs.declared.event.Event.{Event}
use Rattle.script_events.specs.declared.event.Event.TheVariants as event
use Rattle.script_events.specs.declared.event.InterfaceEvent.{InterfaceEvent}
use Rattle.script_events.specs.declared.event.InterfaceEvent.TheVariants as ie
use Rattle.script_events.specs.declared.event.AccessEvent.TheVariants as ae
use Rattle.event_verdicts.specs.declared.verdict.Verdict.{Verdict}
use Rattle.spec_keys.specs.History.{History}
use Rattle.machine_ports.specs.Machine.{Stepped, step_of}
use Rattle.machine_ports.specs.Stands.{PortsStandFor}
use Rattle.machine_whole.specs.Machine.{Whole, beside_of, draw_after, whole_after, whole_streams}
use Rattle.join_interfaces.specs.Joined.{InterfaceOperationsJoin}
use Rattle.interface_host.specs.declared.operation.InterfaceOperation.TheVariants as op
use Rattle.join_accesses.specs.{grants_in, has_peer_in, Links, links_state, managed_peer_stream, BesideAfter}
use Rattle.join_accesses.specs.{BesideInterface, BesideBinding, AreDrawn, IsBeside}
use Rattle.interface_host.specs.declared.operation.InterfaceOperation.{InterfaceOperation}
use Rattle.script_events.specs.declared.event.Loss.{Loss}
use Rattle.std.specs.Prelude.{Option}
use Rattle.machine_whole.specs.Interfaces.{grant_of}
use Rattle.join_accesses.proofs.{grant_is, AreBoth, answer_beside, response_beside, mmio_beside, send_beside}
use Rattle.join_accesses.proofs.{dump_beside, status_beside}
use Rattle.join_accesses.proofs.{view_beside, memory_beside, forward_beside, nothing_beside}
use Rattle.world.proofs.Arrives.{arrives_beside}
use Rattle.world.proofs.Calls.{write_beside, flr_beside, firmware_beside}
use Rattle.world.proofs.Asks.{asked_beside, bind_beside, unbind_beside}
use Rattle.world.proofs.Resets.{reset_beside}
use Rattle.world.proofs.Operates.{establish_beside, refresh_beside, stop_beside, establish_drawn, refresh_drawn}
use Rattle.world.proofs.Operates.{stop_drawn}

-- an event between two states of all links, which is a step of the machine
pub record Turn (plan : Plan) (old new : Links) (w : Whole) (e : Event) (verdict : Verdict) : Type 0 where
  pub both : AreBoth plan old new w
  pub history : History
  pub stands : PortsStandFor plan (links_state plan old) history
  pub regions : new.trusted.contents.regions ≡ old.trusted.contents.regions
  pub step : ◌≡◌ {A = Stepped} (verdict, links_state plan new) (step_of plan (beside_of plan w) w.links e)

abbrev pub IsAfter : Plan → Links → Whole → Event → Verdict → Type 0
IsAfter plan new w e verdict = IsBeside plan new.ends.links new.keeper.interfaces new.trusted.contents
    (whole_after plan w e verdict (links_state plan new))

grants_are : (plan : Plan) (old new : Links) (w : Whole) → AreBoth plan old new w
    → grants_in old.keeper.interfaces ≡ grant_of plan w.faces
grants_are plan old new w both = λ i link requester.
    grant_is plan old.ends.links old.keeper.interfaces old.trusted.contents w both.whole.beside both.links.fits
    both.links.many link requester i

module _ (plan : Plan) (old new : Links) (w : Whole) (verdict : Verdict) (join : InterfaceOperationsJoin) where
  interface_after : (e : InterfaceEvent) → Turn plan old new w (event.Interface e) verdict → BesideInterface e old new
      → IsAfter plan new w (event.Interface e) verdict
  interface_after (ie.Lock i loss) t sides =
      asked_beside plan old new w verdict t.both join i op.Lock loss sides (λ x at. tt) t.step
  interface_after (ie.Report i loss) t sides =
      asked_beside plan old new w verdict t.both join i op.Report loss sides (λ x at. tt) t.step
  interface_after (ie.Start i loss) t sides =
      asked_beside plan old new w verdict t.both join i op.Start loss sides (λ x at. tt) t.step
  interface_after (ie.Halt i loss) t sides =
      asked_beside plan old new w verdict t.both join i op.Halt loss sides (λ x at. tt) t.step
  interface_after (ie.State i loss) t sides =
      asked_beside plan old new w verdict t.both join i op.State loss sides (λ x at. tt) t.step
  interface_after (ie.Bind i line stream loss) t sides =
      bind_beside plan old new w verdict t.both join i line stream loss sides t.step
  interface_after (ie.Unbind i line stream loss) t sides =
      unbind_beside plan old new w verdict t.both join i line stream loss sides t.step
  interface_after (ie.View i) t sides = view_beside plan old new w verdict (beside_of plan w) t.both sides i t.step
  interface_after (ie.Write i register value) t sides =
      write_beside plan old new w verdict t.both i register value sides t.step
  interface_after (ie.Flr i) t sides = flr_beside plan old new w verdict t.both i sides t.step
  interface_after (ie.Firmware i) t sides = firmware_beside plan old new w verdict t.both i sides t.step
  interface_after (ie.Memory at len) t sides =
      memory_beside plan old new w verdict (beside_of plan w) t.both sides at len t.step

  pub beside_after : (e : Event) → Turn plan old new w e verdict → BesideAfter plan e verdict old new
      → IsAfter plan new w e verdict
  beside_after (event.Send port bytes more trusted) t sides =
      send_beside plan old new w verdict (beside_of plan w) t.both sides port bytes more trusted t.step
  beside_after (event.Pass n) t sides = arrives_beside plan old new w t.history (event.Pass n) verdict refl t.both
      t.stands (grants_are plan old new w t.both) t.regions sides
  beside_after (event.Alter n at mask) t sides = arrives_beside plan old new w t.history (event.Alter n at mask) verdict
      refl t.both t.stands (grants_are plan old new w t.both) t.regions sides
  beside_after (event.Cut n len) t sides = arrives_beside plan old new w t.history (event.Cut n len) verdict refl t.both
      t.stands (grants_are plan old new w t.both) t.regions sides
  beside_after (event.Arrive port bytes) t sides = arrives_beside plan old new w t.history (event.Arrive port bytes)
      verdict refl t.both t.stands (grants_are plan old new w t.both) t.regions sides
  beside_after (event.Dump n) t sides = dump_beside plan old new w verdict (beside_of plan w) t.both sides n t.step
  beside_after (event.Establish line stream loss) t sides =
      establish_beside plan old new w verdict t.both line stream loss sides t.step
  beside_after (event.Refresh line stream loss) t sides =
      refresh_beside plan old new w verdict t.both line stream loss sides t.step
  beside_after (event.Stop line stream loss) t sides =
      stop_beside plan old new w verdict t.both line stream loss sides t.step
  beside_after (event.Reset link ends) t sides = reset_beside plan old new w t.both link ends sides verdict t.step
  beside_after (event.Status line stream) t sides =
      status_beside plan old new w verdict (beside_of plan w) t.both sides line stream t.step
  beside_after (event.Interface e) t sides = interface_after e t sides
  beside_after (event.Access (ae.Answer link)) t sides =
      answer_beside plan old new w verdict (beside_of plan w) t.both sides link t.step
  beside_after (event.Access (ae.Respond link)) t sides =
      response_beside plan old new w verdict (beside_of plan w) t.both sides link t.step
  beside_after (event.Access (ae.Mmio interface bar offset len)) t sides =
      mmio_beside plan old new w verdict (beside_of plan w) t.both sides interface bar offset len t.step
  beside_after (event.Forward link d) t sides =
      forward_beside plan old new w verdict (beside_of plan w) t.both sides link d t.step
  beside_after event.Absent t sides = nothing_beside plan old new w verdict (beside_of plan w) t.both sides t.step

  -- ---- the draws of streams between devices

  abbrev pub AreDrawnAfter : Event → Type 0
  AreDrawnAfter e =
      AreDrawn plan new.keeper.peer_draws (draw_after (whole_streams plan w).op w.links.draws e verdict w.draw)

  same_drawn : AreBoth plan old new w → new.keeper.peer_draws ≡ old.keeper.peer_draws
      → AreDrawn plan new.keeper.peer_draws w.draw
  same_drawn both same = subst (λ (ns : List ℕ). AreDrawn plan ns w.draw) (sym same) both.whole.drawn

  peer_same : (i line stream : ℕ) (o : InterfaceOperation) (loss : Option Loss)
      → BesideBinding i line stream o loss old new → new.keeper.peer_draws ≡ old.keeper.peer_draws
  peer_same i line stream o loss sides = ⊎_elim
      (λ few.
      ⊎_elim (λ has. (sides.asked few has).peer_draws) (λ none. (sides.absent none).peer_draws)
      (cases_Bool (has_peer_in old.keeper old.ends i line stream)))
      (λ late. (sides.late late).peer_draws) (cases_lt stream 256)

  interface_drawn : (e : InterfaceEvent) → AreBoth plan old new w → BesideInterface e old new
      → AreDrawn plan new.keeper.peer_draws w.draw
  interface_drawn (ie.Lock i loss) both sides = same_drawn both sides.peer_draws
  interface_drawn (ie.Report i loss) both sides = same_drawn both sides.peer_draws
  interface_drawn (ie.Start i loss) both sides = same_drawn both sides.peer_draws
  interface_drawn (ie.Halt i loss) both sides = same_drawn both sides.peer_draws
  interface_drawn (ie.State i loss) both sides = same_drawn both sides.peer_draws
  interface_drawn (ie.Bind i line stream loss) both sides =
      same_drawn both (peer_same i line stream (op.Bind (managed_peer_stream old.keeper line stream)) loss sides)
  interface_drawn (ie.Unbind i line stream loss) both sides =
      same_drawn both (peer_same i line stream (op.Unbind (managed_peer_stream old.keeper line stream)) loss sides)
  interface_drawn (ie.View i) both sides = same_drawn both sides.peer_draws
  interface_drawn (ie.Write i register value) both sides = same_drawn both sides.peer_draws
  interface_drawn (ie.Flr i) both sides = same_drawn both sides.peer_draws
  interface_drawn (ie.Firmware i) both sides = same_drawn both sides.peer_draws
  interface_drawn (ie.Memory at len) both sides = same_drawn both sides.peer_draws

  pub drawn_after : (e : Event) → Turn plan old new w e verdict → BesideAfter plan e verdict old new → AreDrawnAfter e
  drawn_after (event.Send port bytes more trusted) t sides = same_drawn t.both sides.peer_draws
  drawn_after (event.Pass n) t sides = same_drawn t.both sides.peer_draws
  drawn_after (event.Alter n at mask) t sides = same_drawn t.both sides.peer_draws
  drawn_after (event.Cut n len) t sides = same_drawn t.both sides.peer_draws
  drawn_after (event.Arrive port bytes) t sides = same_drawn t.both sides.peer_draws
  drawn_after (event.Dump n) t sides = same_drawn t.both sides.peer_draws
  drawn_after (event.Establish line stream loss) t sides =
      establish_drawn plan old new w verdict t.both line stream loss sides t.step
  drawn_after (event.Refresh line stream loss) t sides =
      refresh_drawn plan old new w verdict t.both line stream loss sides t.step
  drawn_after (event.Stop line stream loss) t sides = stop_drawn plan old new w verdict t.both line stream loss sides
  drawn_after (event.Reset link ends) t sides = same_drawn t.both sides.peer_draws
  drawn_after (event.Status line stream) t sides = same_drawn t.both sides.peer_draws
  drawn_after (event.Interface e) t sides = interface_drawn e t.both sides
  drawn_after (event.Access e) t sides = same_drawn t.both sides.peer_draws
  drawn_after (event.Forward link d) t sides = same_drawn t.both sides.peer_draws
  drawn_after event.Absent t sides = same_drawn t.both sides.peer_draws
