-- Each step gives the verdict that is due, and its state stands for the history with it.
use Rattle.machine_operations.proofs.Terms.{◌≡◌, ℕ, Bool, true, false, Option, Some, None, List, [], ◌∷◌, length, refl}
use Rattle.machine_operations.proofs.Terms.{ap, sym, ◌∙◌, subst, arith, if◌then◌else◌, is_some, nat_lt, Device, due}
use Rattle.machine_operations.proofs.Terms.{Establish, establish_found, establish_on, Event, facts, find_op}
use Rattle.machine_operations.proofs.Terms.{found_by_id, History, Host, is_of_packets, is_quiet, IsNoOperation, key_due}
use Rattle.machine_operations.proofs.Terms.{key_plan, LinkState, Loss, StreamOperations, manager, nat_tests}
use Rattle.machine_operations.proofs.Terms.{none_of_packets}
use Rattle.machine_operations.proofs.Terms.{StreamStage, op_at, op_of, stepped_operation, operated_manager, operates}
use Rattle.machine_operations.proofs.Terms.{Operation, Plan, ports_of, quiet, reach_of, Refresh, refresh_found}
use Rattle.machine_operations.proofs.Terms.{refresh_on, Reset, reset_state, Side, slice_index_or, PortsStandFor, Status}
use Rattle.machine_operations.proofs.Terms.{machine_status, status_found, step_of, Stepped, Steps, StepStands, Stop}
use Rattle.machine_operations.proofs.Terms.{stop_found, stop_on, stream_plan, streams_of, Verdict, work_done, work_of}
use Rattle.script_events.specs.declared.event.Event.TheVariants.{Interface, Access, Absent}
use Rattle.script_events.specs.declared.event.AccessEvent.TheVariants as ae
use Rattle.machine_ports.specs.{mmio_due}
use Rattle.script_events.specs.declared.event.InterfaceEvent.{InterfaceEvent}
use Rattle.machine_ports.proofs.{interface_due_quiet, mmio_quiet}
use Rattle.machine_ports.specs.Stands.{beside_at}
use Rattle.event_verdicts.specs.declared.verdict.Operation.TheVariants as op
use Rattle.event_verdicts.specs.declared.verdict.Verdict.TheVariants as v
use Rattle.machine_ports.proofs.Steps.{none_status, packets_stand}
use Rattle.machine_operations.proofs.Operates.{event_of_operation, asked_work}
use Rattle.machine_operations.proofs.Kept.{Kept, step_kept}
use Rattle.machine_operations.proofs.Managed.{ops_worked, draws_worked}
use Rattle.machine_operations.proofs.Views.{ports_is}
use Rattle.machine_operations.proofs.Statuses.{status_is}
use Rattle.machine_operations.proofs.Resets.{reset_stands, reset_nothing}
use Rattle.machine_operations.proofs.Worked.{asked_stands}
use Rattle.ide_types.specs.Lines.{is_link_line}
use Rattle.ide_types.specs.declared.port.PortName.{PortName}
use Rattle.spec_keys.specs.Operations.{op_after_reset}
use Rattle.spec_keys.specs.Places.{is_line_reset}

abbrev AllStep : Plan → History → Event → Stepped → Type 0
AllStep plan h e r = (r.0 ≡ due plan h e) × PortsStandFor plan r.1 ((e, r.0) ∷ h)

-- ---- events that are no operations

uncut : (ends : List PortName) (line : ℕ) (q : StreamStage) → is_line_reset ends line ≡ false
    → op_after_reset ends line q ≡ q
uncut ends line q none = rw none refl

manager_same : (h : History) (e : Event) (x : Verdict) → IsNoOperation e → manager ((e, x) ∷ h) ≡ manager h
unfolding manager operates
manager_same h (Establish l s lose) x still = absurd (grind (arith, nat_tests, still l s))
manager_same h (Refresh l s lose) x still = absurd (grind (arith, nat_tests, still l s))
manager_same h (Stop l s lose) x still = absurd (grind (arith, nat_tests, still l s))
manager_same h (Reset l ends) (v.Reset k) still =
    let same : (a s : ℕ) → op_after_reset ends a ((manager h).ops a s) ≡ (manager h).ops a s =
    λ a s. uncut ends a ((manager h).ops a s) (still a s) in
    λ i. record { ops = λ a s. same a s i; begun = (manager h).begun }
manager_same h _ x still = refl

abbrev ops_of : Plan → ℕ → ℕ → StreamOperations → Option StreamStage
ops_of plan l s m = if is_some (stream_plan plan l s) then Some (m.ops l s) else None

plain : (plan : Plan) (st : LinkState) (h : History) (e : Event) (r : Stepped) → IsNoOperation e
    → PortsStandFor plan st h → Steps plan h e r → Kept st r → AllStep plan h e r
unfolding find_op
plain plan st h e r still stands step kept = (
  step.0,
  record {
    ports_stand = step.1;
    ops_is = λ l s.
        ap (λ (zs : List (List StreamStage)). found_by_id (streams_of plan l) (slice_index_or zs l []) s) kept.0
        ∙ (stands.ops_is l s ∙ ap (ops_of plan l s) (sym (manager_same h e r.0 still)));
    draws_is = kept.1 ∙ (stands.draws_is ∙ ap (λ (m : StreamOperations). length m.begun)
        (sym (manager_same h e r.0 still)));
  },
)

-- ---- operations

manager_asked : (h : History) (o : Operation) (line stream : ℕ) (lose : Option Loss) (x : Verdict)
    → operated_manager (manager h) o line stream (reach_of o x)
    ≡ manager ((event_of_operation o line stream lose, x) ∷ h)
unfolding manager
manager_asked h op.Establish line stream lose x = refl
manager_asked h op.Refresh line stream lose x = refl
manager_asked h op.Stop line stream lose x = refl

module _ (plan : Plan) (st : LinkState) (h : History) (stands : PortsStandFor plan st h) (line stream : ℕ) where
  -- the manager knows an operation exactly of the streams of the plan
  known : (q : StreamStage) → find_op plan st line stream ≡ Some q → (is_some (stream_plan plan line stream) ≡ true)
      × (q ≡ op_of h line stream)
  known q found = let is : Some q ≡ op_at plan h line stream = sym found ∙ stands.ops_is line stream in grind arith

  unknown : find_op plan st line stream ≡ None → is_some (stream_plan plan line stream) ≡ false
  unknown found = let is : None ≡ op_at plan h line stream = sym found ∙ stands.ops_is line stream in grind arith

  -- the state and the history after an operation that is due, and after one of a stream that the plan does not have
  does : (o : Operation) (lose : Option Loss) (q : StreamStage) (x : Verdict) → find_op plan st line stream ≡ Some q → x
      ≡ due plan h (event_of_operation o line stream lose)
      → AllStep plan h (event_of_operation o line stream lose) (stepped_operation plan st o line stream q x)
  does o lose q x found is =
      let w_is : work_of o q st.draws ≡ asked_work h o line stream = λ i. work_of o ((known q found).1 i)
      (stands.draws_is i) in
      let after = manager_asked h o line stream lose x in (
        is,
        subst (λ w. PortsStandFor plan (work_done plan st line stream w (reach_of o x))
            ((event_of_operation o line stream lose, x) ∷ h))
            (sym w_is) (record {
              ports_stand = asked_stands plan st h o line stream lose x stands.ports_stand is;
              ops_is = λ l s. ops_worked plan st h o line stream (reach_of o x) stands.ops_is (ap is_some found) l s ∙
                  ap
                  (ops_of plan l s) after;
              draws_is = draws_worked plan st h o line stream (reach_of o x) stands.draws_is ∙ ap
                  (λ (m : StreamOperations). length m.begun) after;
            }),
      )

  does_nothing : (o : Operation) (lose : Option Loss) → v.Nothing ≡ due plan h (event_of_operation o line stream lose)
      → AllStep plan h (event_of_operation o line stream lose) (v.Nothing, st)
  does_nothing o lose is =
      let after = manager_asked h o line stream lose v.Nothing in (
        is,
        record {
          ports_stand = asked_stands plan st h o line stream lose v.Nothing stands.ports_stand is;
          ops_is = λ l s. stands.ops_is l s ∙ ap (ops_of plan l s) after;
          draws_is = stands.draws_is ∙ ap (λ (m : StreamOperations). length m.begun) after;
        },
      )

  establishes : (lose : Option Loss) (o : Option StreamStage) → find_op plan st line stream ≡ o
      → AllStep plan h (Establish line stream lose) (establish_found plan st line stream lose o)
  unfolding due key_due
  establishes lose None is = does_nothing op.Establish lose (rw (unknown is) refl)
  establishes lose (Some q) is =
      let know = known q is in
      does op.Establish lose q (establish_on (key_plan plan) q st.draws (ports_of plan st) line stream lose) is
      ((λ i. establish_on (key_plan plan) (know.1 i) (stands.draws_is i) (ports_is plan st h stands.ports_stand i) line
      stream lose) ∙ sym (rw know.0 refl))

  refreshes_there : (lose : Option Loss) → is_link_line line ≡ true → (o : Option StreamStage)
      → find_op plan st line stream ≡ o
      → AllStep plan h (Refresh line stream lose) (refresh_found plan st line stream lose o)
  unfolding due key_due
  refreshes_there lose kind None is = does_nothing op.Refresh lose (rw (kind, unknown is) refl)
  refreshes_there lose kind (Some q) is =
      let know = known q is in
      let host = status_is plan st h stands.ports_stand Host line stream know.0 in
      let ports = ports_is plan st h stands.ports_stand in
      does op.Refresh lose q
      (refresh_on (key_plan plan) q st.draws (ports_of plan st) (machine_status plan st Host line stream) line stream
      lose) is
      ((λ i. refresh_on (key_plan plan) (know.1 i) (stands.draws_is i) (ports i) (host i) line stream lose) ∙ sym
      (rw (kind, know.0) refl))

  refreshes : (lose : Option Loss) (kind : Bool) → is_link_line line ≡ kind → AllStep plan h (Refresh line stream lose)
      (if kind then refresh_found plan st line stream lose (find_op plan st line stream) else (v.Nothing, st))
  unfolding due key_due
  refreshes lose true kind = refreshes_there lose kind (find_op plan st line stream) refl
  refreshes lose false kind = does_nothing op.Refresh lose (rw kind refl)

  stops : (lose : Option Loss) (o : Option StreamStage) → find_op plan st line stream ≡ o
      → AllStep plan h (Stop line stream lose) (stop_found plan st line stream lose o)
  unfolding due key_due
  stops lose None is = does_nothing op.Stop lose (rw (unknown is) refl)
  stops lose (Some q) is =
      let know = known q is in
      does op.Stop lose q (stop_on q st.draws (ports_of plan st) line stream lose) is
      ((λ i. stop_on (know.1 i) (stands.draws_is i) (ports_is plan st h stands.ports_stand i) line stream lose) ∙ sym
      (rw know.0 refl))

  -- a status
  tells : (x : Verdict) → is_quiet x ≡ true → x ≡ due plan h (Status line stream)
      → AllStep plan h (Status line stream) (x, st)
  tells x none is =
      plain plan st h (Status line stream) (x, st) (none_status line stream) stands
      (quiet plan (facts plan) st h (Status line stream) x stands.ports_stand none is (none_status line stream))
      (refl, refl)

  told : (o : Option StreamStage) → find_op plan st line stream ≡ o → AllStep plan h (Status line stream)
      (status_found plan st line stream o)
  unfolding due
  told None is = tells v.Nothing refl (rw (unknown is) refl)
  told (Some q) is =
      let planned = (known q is).0 in
      let there = λ (side : Side). status_is plan st h stands.ports_stand side line stream planned in
      tells (v.Status line stream (machine_status plan st Host line stream) (machine_status plan st Device line stream))
      refl
      ((λ i. v.Status line stream (there Host i) (there Device i)) ∙ sym (rw planned refl))

-- ---- a reset

due_reset : (plan : Plan) (h : History) (link : ℕ) (ends : List PortName) →
    (if nat_lt link (length plan.links) then v.Reset link else v.Nothing) ≡ due plan h (Reset link ends)
unfolding due key_due
due_reset plan h link ends = refl

resets : (plan : Plan) (st : LinkState) (h : History) (link : ℕ) (ends : List PortName) → PortsStandFor plan st h
    → AllStep plan h (Reset link ends)
    (if nat_lt link (length plan.links) then (v.Reset link, reset_state plan st ends) else (v.Nothing, st))
resets plan st h link ends stands = by_has (nat_lt link (length plan.links)) (due_reset plan h link ends)
  where
    by_has : (b : Bool) → (if b then v.Reset link else v.Nothing) ≡ due plan h (Reset link ends)
        → AllStep plan h (Reset link ends) (if b then (v.Reset link, reset_state plan st ends) else (v.Nothing, st))
    by_has true is = (is, reset_stands plan st h link ends stands is)
    by_has false is = (is, reset_nothing plan st h link ends stands is)

-- ---- all events

packets_step : (plan : Plan) (st : LinkState) (h : History) (e : Event) → is_of_packets e ≡ true
    → PortsStandFor plan st h → AllStep plan h e (step_of plan (beside_at plan h) st e)
packets_step plan st h e is stands = plain plan st h e (step_of plan (beside_at plan h) st e) (none_of_packets e is)
    stands (packets_stand plan (facts plan) st h e is stands.ports_stand) (step_kept plan (beside_at plan h) st e is)

no_interface : (e : InterfaceEvent) → IsNoOperation (Interface e)
unfolding operates
no_interface e line stream = refl

asks : (plan : Plan) (st : LinkState) (h : History) (e : InterfaceEvent) → PortsStandFor plan st h
    → AllStep plan h (Interface e) (due plan h (Interface e), st)
asks plan st h e stands =
    plain plan st h (Interface e) (due plan h (Interface e), st) (no_interface e) stands
    (quiet plan (facts plan) st h (Interface e) (due plan h (Interface e)) stands.ports_stand
    (interface_due_quiet plan h e) refl (no_interface e)) (refl, refl)

no_mmio : (i bar offset len : ℕ) → IsNoOperation (Access (ae.Mmio i bar offset len))
unfolding operates
no_mmio i bar offset len line stream = refl

shows : (plan : Plan) (st : LinkState) (h : History) (i bar offset len : ℕ) → PortsStandFor plan st h
    → AllStep plan h (Access (ae.Mmio i bar offset len)) (mmio_due plan h i bar offset len, st)
unfolding due
shows plan st h i bar offset len stands =
    let e = Access (ae.Mmio i bar offset len) in
    plain plan st h e (mmio_due plan h i bar offset len, st) (no_mmio i bar offset len) stands
    (quiet plan (facts plan) st h e (mmio_due plan h i bar offset len) stands.ports_stand
    (mmio_quiet plan h i bar offset len) refl (no_mmio i bar offset len)) (refl, refl)

no_absent : IsNoOperation Absent
unfolding operates
no_absent line stream = refl

absent : (plan : Plan) (st : LinkState) (h : History) → PortsStandFor plan st h → AllStep plan h Absent (v.Nothing, st)
unfolding due
absent plan st h stands = plain plan st h Absent (v.Nothing, st) no_absent stands
    (quiet plan (facts plan) st h Absent v.Nothing stands.ports_stand refl refl no_absent) (refl, refl)

pub steps : StepStands
unfolding step_of
steps plan st h (Establish line stream lose) stands = establishes plan st h stands line stream lose
    (find_op plan st line stream) refl
steps plan st h (Refresh line stream lose) stands = refreshes plan st h stands line stream lose (is_link_line line) refl
steps plan st h (Stop line stream lose) stands = stops plan st h stands line stream lose (find_op plan st line stream)
    refl
steps plan st h (Status line stream) stands = told plan st h stands line stream (find_op plan st line stream) refl
steps plan st h (Reset link ends) stands = resets plan st h link ends stands
steps plan st h Absent stands = absent plan st h stands
steps plan st h (Interface e) stands = asks plan st h e stands
steps plan st h (Access (ae.Mmio i bar offset len)) stands = shows plan st h i bar offset len stands
steps plan st h e stands = packets_step plan st h e refl stands
