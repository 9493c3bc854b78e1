-- The tables of causes say what the rules do.
use Rattle.std.proofs.Common.{◌≡◌, ℕ, Bool, true, false, Option, Some, None, Result, refl, arith, nat_le, not, ◌&&◌}
use Rattle.std.proofs.Common.{◌||◌}
use Rattle.std.specs.Prelude.{is_some, if◌then◌else◌, Ok, Err, [], ◌∷◌}
use Rattle.std.specs.Option.{option_or}
use Rattle.trusted_memory.specs.declared.span.Span.{Span}
use Rattle.trusted_memory.specs.Spans.{crosses}
use Rattle.trusted_memory.specs.declared.queue.ReadArrival.{ReadArrival}
use Rattle.trusted_memory.specs.declared.queue.ReadTarget.{ReadTarget}
use Rattle.interface_state.specs.Bindings.{floor_on}
use Rattle.guarded_memory.specs.declared.claims.Claim.{Claim}
use Rattle.guarded_memory.specs.Statuses.{is_open_range, is_config_unlocked, is_in_run}
use Rattle.guarded_memory.specs.Causes.{floor_cause}
use Rattle.guarded_memory.specs.DeviceReads.{device_read_cause, judged_claim, claimed_target, is_same_target}
use Rattle.guarded_memory.specs.DeviceReads.{claim_unless}
use Rattle.guarded_memory.specs.Laws.{is_from_floor}
use Rattle.event_verdicts.specs.declared.verdict.BlockCause.{BlockCause}
use Rattle.event_verdicts.specs.declared.verdict.BlockCause.TheVariants as cause
use Rattle.law_device_reads.specs.Exact.{first_holding, arrival_causes, drop_causes}

by_tests : (x a b r l : Bool) (f : Option ℕ) (t : Bool) (draw : ℕ)
    → first_holding ((x, cause.Crosses) ∷ (not t && not (a || b), cause.NotTrusted) ∷ (t && not r, cause.NotRunning)
    ∷ (t && not (is_some f), cause.WrongStream) ∷ (t && not (is_from_floor f draw), cause.Stale) ∷ (l, cause.Full) ∷ [])
    ≡ option_or (if x then Some cause.Crosses else (if t then (if r then floor_cause f draw else Some cause.NotRunning)
    else (if a || b then None else Some cause.NotTrusted))) (if l then Some cause.Full else None)
by_tests x a b r l None true draw = grind arith
by_tests x a b r l None false draw = grind arith
by_tests x a b r l (Some n) true draw = grind arith
by_tests x a b r l (Some n) false draw = grind arith

pub arrivals_are : (c : Claim) (s : Span) (t : Bool) (stream draw waiting : ℕ)
    → first_holding (arrival_causes c s t stream draw waiting) ≡ device_read_cause c s t stream draw waiting
arrivals_are c s true stream draw waiting = by_tests (crosses s) (is_open_range c.range)
    (is_config_unlocked c.status.state) (is_in_run c.status.state) (nat_le 64 waiting) (floor_on stream c.status.bound)
    true draw
arrivals_are c s false stream draw waiting = by_tests (crosses s) (is_open_range c.range)
    (is_config_unlocked c.status.state) (is_in_run c.status.state) (nat_le 64 waiting) (floor_on stream c.status.bound)
    false draw

-- ---- as they are answered

abbrev pub dropped_for : Result Claim BlockCause → Option BlockCause
dropped_for (Ok c) = None
dropped_for (Err cause) = Some cause

by_drop_tests : (c : Claim) (same a b r : Bool) (f : Option ℕ) (t : Bool) (draw : ℕ)
    → dropped_for (if same then claim_unless (if t then (if r then floor_cause f draw else Some cause.NotRunning)
    else (if a || b then None else Some cause.NotTrusted)) c else Err cause.Moved)
    ≡ first_holding ((not same, cause.Moved) ∷ (not t && not (a || b), cause.NotTrusted)
    ∷ (t && not r, cause.NotRunning)
    ∷ (t && not (is_some f), cause.WrongStream) ∷ (t && not (is_from_floor f draw), cause.Stale) ∷ [])
by_drop_tests c same a b r None true draw = grind arith
by_drop_tests c same a b r None false draw = grind arith
by_drop_tests c same a b r (Some n) true draw = grind arith
by_drop_tests c same a b r (Some n) false draw = grind arith

drops_of : (c : Claim) (target : ReadTarget) (came : ReadArrival) (t : Bool) → came.trusted ≡ t
    → dropped_for (judged_claim (Some c) target came) ≡ first_holding (drop_causes (Some c) target came)
drops_of c target came true is = rw is (by_drop_tests c (is_same_target (claimed_target c) target)
    (is_open_range c.range) (is_config_unlocked c.status.state) (is_in_run c.status.state)
    (floor_on came.stream c.status.bound) true came.draw)
drops_of c target came false is = rw is (by_drop_tests c (is_same_target (claimed_target c) target)
    (is_open_range c.range) (is_config_unlocked c.status.state) (is_in_run c.status.state)
    (floor_on came.stream c.status.bound) false came.draw)

pub drops_are : (o : Option Claim) (target : ReadTarget) (came : ReadArrival)
    → dropped_for (judged_claim o target came) ≡ first_holding (drop_causes o target came)
drops_are None target came = refl
drops_are (Some c) target came = drops_of c target came came.trusted refl
