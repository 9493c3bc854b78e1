-- An operation begins with a draw only if the pool has one, so draws are never more than the pool has.
use Rattle.law_sealing.proofs.Terms.{◌≡◌, ℕ, ◌<◌, ◌≤◌, Bool, true, false, [], ◌∷◌, length, Option, Some, None, inl, inr}
use Rattle.law_sealing.proofs.Terms.{◌⊎◌, refl, sym, subst, arith, ap, ◌∙◌, and_parts, ◌&&◌, if◌then◌else◌, nat_lt}
use Rattle.law_sealing.proofs.Terms.{nat_tests, History, Verdict, Pr, Npr, Cpl}
use Rattle.ide_types.specs.declared.status.StreamStatus.{StreamStatus}
use Rattle.ide_types.specs.declared.status.StreamStatus.TheVariants.{Secure}
use Rattle.event_verdicts.specs.declared.verdict.Operation.{Operation}
use Rattle.script_events.specs.declared.event.Event.TheVariants as event
use Rattle.event_verdicts.specs.declared.verdict.Operation.TheVariants as op
use Rattle.event_verdicts.specs.declared.verdict.Verdict.TheVariants as v
use Rattle.spec_keys.specs.Places.{KeyPlan}
use Rattle.spec_keys.specs.Operations.{StreamStage, Idle, Establishing, Up, Refreshing, Work, Reach, StreamOperations}
use Rattle.spec_keys.specs.Operations.{work_of, reach_of, makes_draw, manager_after_operation}
use Rattle.spec_keys.specs.Due.{PortView, ports_at, begun_if_pool_has, may_establish, may_refresh, unless_open}
use Rattle.spec_keys.specs.Due.{if_secure, has_refresh, is_live_sender}
unfoldable use Rattle.spec_keys.specs.Due.{key_due}
use Rattle.spec_keys.specs.History.{draws}
unfoldable use Rattle.spec_keys.specs.History.{manager}
use Rattle.spec_keys.specs.Laws.{KeyCauseLaw}
use Rattle.spec_keys.proofs.Owners.{work_is}

-- the pool has a next draw, or the operation went nowhere
abbrev Finds : ℕ → ℕ → Option Reach → Type 0
Finds pool next r = (next < pool) ⊎ (r ≡ None)

-- of the verdict of an operation
abbrev FindsBy : ℕ → ℕ → Operation → Verdict → Type 0
FindsBy pool next o w = Finds pool next (reach_of o w)

if_finds : (pool next : ℕ) (o : Operation) (b : Bool) (refused w : Verdict) → reach_of o refused ≡ None
    → FindsBy pool next o w → FindsBy pool next o (if b then refused else w)
if_finds pool next o true refused w none finds = inr none
if_finds pool next o false refused w none finds = finds

planned_finds : (pool next : ℕ) (o : Operation) (b : Bool) (w : Verdict) → FindsBy pool next o w
    → FindsBy pool next o (if b then w else v.Nothing)
planned_finds pool next o true w finds = finds
planned_finds pool next o false w finds = inr refl

drawn_finds : (kp : KeyPlan) (next : ℕ) (o : Operation) (w : Verdict)
    → FindsBy kp.pool next o (begun_if_pool_has kp next w)
drawn_finds kp next o w = by_pool (nat_lt next kp.pool) refl
  where
    by_pool : (b : Bool) → nat_lt next kp.pool ≡ b → FindsBy kp.pool next o (if b then w else v.RefusedPoolEmpty next)
    by_pool true is = inl (grind (arith, nat_tests))
    by_pool false is = inr refl

establish_finds : (kp : KeyPlan) (line next : ℕ) (o : StreamStage) (w : Verdict)
    → (work_of op.Establish o next).begins ≡ true → FindsBy kp.pool next op.Establish (may_establish kp line next o w)
establish_finds kp line next Idle w begins = drawn_finds kp next op.Establish w
establish_finds kp line next (Establishing j n) w begins = absurd cc
establish_finds kp line next _ w begins = inr refl

open_finds : (pool next : ℕ) (ports : PortView) (line stream : ℕ) (set : Bool) (w : Verdict)
    → FindsBy pool next op.Refresh w → FindsBy pool next op.Refresh (unless_open ports line stream set w)
open_finds pool next ports line stream set w finds =
    if_finds pool next op.Refresh (is_live_sender ports line stream set Pr) (v.RefusedUnitOpen Pr) _ refl
    (if_finds pool next op.Refresh (is_live_sender ports line stream set Npr) (v.RefusedUnitOpen Npr) _ refl
    (if_finds pool next op.Refresh (is_live_sender ports line stream set Cpl) (v.RefusedUnitOpen Cpl) w refl finds))

secure_finds : (pool next : ℕ) (status : StreamStatus) (w : Verdict) → FindsBy pool next op.Refresh w
    → FindsBy pool next op.Refresh (if_secure status w)
secure_finds pool next Secure w finds = finds
secure_finds pool next _ w finds = inr refl

refresh_finds : (kp : KeyPlan) (next : ℕ) (o : StreamStage) (host : StreamStatus) (ports : PortView) (line stream : ℕ)
    (set : Bool) (w : Verdict) → (work_of op.Refresh o next).begins ≡ true
    → FindsBy kp.pool next op.Refresh (may_refresh kp line next o host (unless_open ports line stream set) w)
refresh_finds kp next (Up current j) host ports line stream set w begins = secure_finds kp.pool next host _
    (open_finds kp.pool next ports line stream set _ (drawn_finds kp next op.Refresh w))
refresh_finds kp next (Refreshing current j n) host ports line stream set w begins = absurd cc
refresh_finds kp next _ host ports line stream set w begins = inr refl

begun_within : (pool : ℕ) (m : StreamOperations) (o : Operation) (line stream : ℕ) (r : Option Reach)
    → length m.begun ≤ pool
    → ((work_of o (m.ops line stream) (length m.begun)).begins ≡ true → makes_draw o ≡ true
    → Finds pool (length m.begun) r) → length (manager_after_operation m o line stream r).begun ≤ pool
begun_within pool m o line stream None within finds = within
begun_within pool m o line stream (Some r) within finds = by_test (w.begins && makes_draw w.operation) refl
  where
    w : Work
    w = work_of o (m.ops line stream) (length m.begun)

    by_test : (b : Bool) → (w.begins && makes_draw w.operation) ≡ b
        → length (if b then record { line = line; stream = stream; set = w.set } ∷ m.begun else m.begun) ≤ pool
    by_test false none = within
    by_test true is =
        let tests = and_parts w.begins (makes_draw w.operation) is in
        let makes = ap makes_draw (sym (work_is o (m.ops line stream) (length m.begun))) ∙ tests.1 in
        elim (finds tests.0 makes) [ inl less ↦ omega (arith, less) | inr none ↦ absurd cc ]

pub draws_within : (kp : KeyPlan) (h : History) → KeyCauseLaw kp h → draws h ≤ kp.pool
unfolding manager key_due
draws_within kp [] cause = omega arith
draws_within kp ((event.Establish line stream loss, w) ∷ h) cause =
    begun_within kp.pool (manager h) op.Establish line stream (reach_of op.Establish w) (draws_within kp h cause.2)
    (λ begins makes. subst (FindsBy kp.pool (draws h) op.Establish) (sym cause.0)
    (planned_finds kp.pool (draws h) op.Establish (kp.has_stream line stream) _
    (establish_finds kp line (draws h) ((manager h).ops line stream) _ begins)))
draws_within kp ((event.Refresh line stream loss, w) ∷ h) cause =
    begun_within kp.pool (manager h) op.Refresh line stream (reach_of op.Refresh w) (draws_within kp h cause.2)
    (λ begins makes. subst (FindsBy kp.pool (draws h) op.Refresh) (sym cause.0)
    (planned_finds kp.pool (draws h) op.Refresh (has_refresh kp line stream) _
    (refresh_finds kp (draws h) ((manager h).ops line stream) _ (ports_at h) line stream _ _ begins)))
draws_within kp ((event.Stop line stream loss, w) ∷ h) cause = begun_within kp.pool (manager h) op.Stop line stream
    (reach_of op.Stop w) (draws_within kp h cause.2) (λ begins makes. absurd cc)
draws_within kp ((event.Reset link ends, v.Reset l) ∷ h) cause = draws_within kp h cause.2
draws_within kp ((event.Reset link ends, _) ∷ h) cause = draws_within kp h cause.2
draws_within kp ((e, w) ∷ h) cause = draws_within kp h cause.2
