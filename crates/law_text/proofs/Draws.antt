-- Draws are few: no more than the events.
use Rattle.std.proofs.Common.{◌≡◌, ℕ, suc, ◌+◌, ◌<◌, ◌≤◌, Bool, true, false, List, [], ◌∷◌, length, Option, Some, None}
use Rattle.std.proofs.Common.{refl, arith}
use Rattle.std.specs.Prelude.{if◌then◌else◌, ◌&&◌}
use Rattle.ide_types.specs.declared.port.PortName.{PortName}
use Rattle.script_events.specs.declared.event.Event.{Event}
use Rattle.script_events.specs.declared.event.Event.TheVariants as event
use Rattle.event_verdicts.specs.declared.verdict.Operation.{Operation}
use Rattle.event_verdicts.specs.declared.verdict.Operation.TheVariants as op
use Rattle.event_verdicts.specs.declared.verdict.Verdict.{Verdict}
use Rattle.event_verdicts.specs.declared.verdict.Verdict.TheVariants as v
use Rattle.spec_keys.specs.Keys.{Keyed, Off, Loaded, On, key_in, on_in}
use Rattle.spec_keys.specs.Operations.{StreamStage, Idle, Establishing, Up, Refreshing, Stopping, Work, Reach}
use Rattle.spec_keys.specs.Operations.{StreamOperations, Begun, work_of, reach_of, manager_after_operation}
use Rattle.spec_keys.specs.Operations.{manager_after, makes_draw, begun_after_work}
use Rattle.spec_keys.specs.History.{History, op_of, draws, manager}
use Rattle.spec_keys.proofs.Owners.{begun_below, manager_owned, owner}
use Rattle.spec_links.specs.Plan.{SubStream}
use Rattle.spec_links.specs.History.{port_keys}
use Rattle.law_key_facts.proofs.SealedKeys.{on_is_owned}

-- ---- draws that were made

one_more : (bs : List Begun) (line stream : ℕ) (w : Work) → length (begun_after_work bs line stream w) ≤ length bs + 1
one_more bs line stream w = by_test (w.begins && makes_draw w.operation)
  where
    by_test : (b : Bool) → length (if b then record { line = line; stream = stream; set = w.set } ∷ bs else bs) ≤ length
        bs + 1
    by_test true = omega arith
    by_test false = omega arith

one_operation : (m : StreamOperations) (o : Operation) (line stream : ℕ) (r : Option Reach) (n : ℕ) → length m.begun ≤ n
    → length (manager_after_operation m o line stream r).begun ≤ suc n
one_operation m o line stream None n few = omega (arith, few)
one_operation m o line stream (Some r) n few = omega
    (arith, few, one_more m.begun line stream (work_of o (m.ops line stream) (length m.begun)))

one_event : (m : StreamOperations) (e : Event) (verdict : Verdict) (n : ℕ) → length m.begun ≤ n
    → length (manager_after m e verdict).begun ≤ suc n
one_event m (event.Establish line stream loss) verdict n few = one_operation m op.Establish line stream
    (reach_of op.Establish verdict) n few
one_event m (event.Refresh line stream loss) verdict n few = one_operation m op.Refresh line stream
    (reach_of op.Refresh verdict) n few
one_event m (event.Stop line stream loss) verdict n few = one_operation m op.Stop line stream (reach_of op.Stop verdict)
    n few
one_event m (event.Reset link ends) (v.Reset l) n few = omega (arith, few)
one_event m (event.Reset link ends) _ n few = omega (arith, few)
one_event m _ verdict n few = omega (arith, few)

pub few_draws : (h : History) → draws h ≤ length h
unfolding manager
few_draws [] = omega arith
few_draws ((e, verdict) ∷ h) = one_event (manager h) e verdict (length h) (few_draws h)

-- ---- draws in use

pub on_is : (a : Keyed) (j : ℕ) → on_in a ≡ Some j → a ≡ On j
on_is Off j is = absurd cc
on_is (Loaded i) j is = absurd cc
on_is (On i) j is = cc

pub on_below : (h : History) (port : PortName) (s : SubStream) (k : Bool) (j : ℕ) → key_in (port_keys h port s) k ≡ On j
    → j < length h
on_below h port s k j on =
    let below : j < draws h = begun_below (manager h).begun j (owner s.line s.stream k) (on_is_owned h port s k j on) in
    omega (arith, below, few_draws h)

-- the draw of a stream's state, or none
abbrev pub op_draw : StreamStage → ℕ
op_draw Idle = 0
op_draw (Establishing j n) = j
op_draw (Up set j) = j
op_draw (Refreshing set j n) = j
op_draw (Stopping n) = 0

op_below : (h : History) (line stream : ℕ) (q : StreamStage) → op_of h line stream ≡ q → op_draw q ≤ draws h
op_below h line stream Idle is = omega arith
op_below h line stream (Establishing j n) is =
    let below : j < draws h = begun_below (manager h).begun j (owner line stream false)
    (rw is at (manager_owned h line stream)) in
    omega (arith, below)
op_below h line stream (Up set j) is =
    let below : j < draws h = begun_below (manager h).begun j (owner line stream set)
    (rw is at (manager_owned h line stream)) in
    omega (arith, below)
op_below h line stream (Refreshing set j n) is =
    let below : j < draws h = begun_below (manager h).begun j (owner line stream set)
    (rw is at (manager_owned h line stream)) in
    omega (arith, below)
op_below h line stream (Stopping n) is = omega arith

work_below : (o : Operation) (q : StreamStage) (next : ℕ) → op_draw q ≤ next → (work_of o q next).draw ≤ next
work_below op.Establish (Establishing j n) next le = le
work_below op.Establish Idle next le = omega arith
work_below op.Establish (Up set j) next le = omega arith
work_below op.Establish (Refreshing set j n) next le = omega arith
work_below op.Establish (Stopping n) next le = omega arith
work_below op.Refresh (Refreshing set j n) next le = le
work_below op.Refresh (Up set j) next le = omega arith
work_below op.Refresh Idle next le = omega arith
work_below op.Refresh (Establishing j n) next le = omega arith
work_below op.Refresh (Stopping n) next le = omega arith
work_below op.Stop (Stopping n) next le = omega arith
work_below op.Stop Idle next le = omega arith
work_below op.Stop (Establishing j n) next le = omega arith
work_below op.Stop (Up set j) next le = omega arith
work_below op.Stop (Refreshing set j n) next le = omega arith

-- the draw of an operation at an event
pub few_work : (h : History) (o : Operation) (line stream : ℕ)
    → (work_of o (op_of h line stream) (draws h)).draw ≤ length h
few_work h o line stream = omega (
  arith,
  work_below o (op_of h line stream) (draws h) (op_below h line stream (op_of h line stream) refl),
  few_draws
      h,
)
