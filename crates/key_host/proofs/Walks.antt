-- The walk through the exchanges of an operation gives the verdict that is due.
use Rattle.std.proofs.Common.{◌≡◌, ℕ, suc, zero, ◌+◌, ◌-◌, ◌<◌, ◌≤◌, ◌==◌, Bool, true, false, Option, Some, None, refl}
use Rattle.std.proofs.Common.{ap, sym, ◌∙◌, subst, arith}
use Rattle.std.specs.Prelude.{nat_lt, unwrap_or, option_map, IsSome, if◌then◌else◌}
use Rattle.std.specs.Option.{option_or}
use Rattle.script_events.specs.declared.event.Loss.{Loss}
use Rattle.script_events.specs.declared.event.Lost.{Lost as LostPart}
use Rattle.script_events.specs.declared.event.Lost.TheVariants.{Request, Reply}
use Rattle.event_verdicts.specs.declared.verdict.Operation.{Operation}
use Rattle.event_verdicts.specs.declared.verdict.Operation.TheVariants as op
use Rattle.event_verdicts.specs.declared.verdict.Verdict.{Verdict}
use Rattle.event_verdicts.specs.declared.verdict.Verdict.TheVariants as v
use Rattle.ide_types.proofs.KeySets.{one_of_set}
use Rattle.spec_keys.specs.Operations.{StreamStage, Up, Refreshing, Work, new_work, last_exchange_of, new_reach}
use Rattle.spec_keys.specs.Operations.{reach_of, whole, op_at_exchange, op_ended}
use Rattle.ide_types.specs.Lines.{is_hosted}
use Rattle.spec_keys.specs.Due.{PortView, refusal_at, lost_message, lost_at, cut_at, first_from, finished_verdict}
use Rattle.spec_keys.specs.Due.{stays}
use Rattle.spec_keys.proofs.Tests.{lt-true, lt-false, same-true, different-false}
use Rattle.key_host.specs.declared.judge.Judged.{Judged}
use Rattle.key_host.specs.declared.judge.Judged.TheVariants.{Expected}
use Rattle.key_host.specs.declared.operation.StreamOutcome.{StreamOutcome}
use Rattle.key_host.specs.declared.operation.StreamOutcome.TheVariants as outcome
use Rattle.key_host.specs.declared.stage.NextExchange.{NextExchange}
use Rattle.key_host.specs.Streams.{StreamView, asked_exchange, asked_of_unfinished, work_asked, outcome_of}
use Rattle.key_host.specs.Streams.{taken_stream, stream_acknowledged, shown_at_end}
use Rattle.key_host.specs.Walk.{answers, exchange_judged, Walked, outcome_if_asked, stream_after, walk_after_outcome}
use Rattle.key_host.specs.Walk.{walk, verdict_of, op_if_reached, NoBadReply}

-- an establish is in set 0; a stop has no set and no draw of its own
unfoldable pub WorkFits : Operation → Bool → ℕ → Type 0
WorkFits op.Establish set draw = set ≡ false
WorkFits op.Refresh set draw = Unit {0}
WorkFits op.Stop set draw = (set ≡ false) × (draw ≡ 0)

standing_asked : (o : Operation) (set : Bool) (draw f : ℕ) (b : Bool) (n : ℕ) → WorkFits o set draw
    → asked_of_unfinished (op_at_exchange (new_work o set draw f b) n) ≡ Some (asked_exchange o set draw n)
unfolding WorkFits
standing_asked op.Establish set draw f b n fits = ap (λ k. Some (asked_exchange op.Establish k draw n)) (sym fits)
standing_asked op.Refresh set draw f b n fits = refl
standing_asked op.Stop set draw f b n fits = ap (λ k. Some (asked_exchange op.Stop k 0 n)) (sym fits.0) ∙ ap
    (λ j. Some (asked_exchange op.Stop set j n)) (sym fits.1)

-- the verdict at which the operation stays, or else that of its end
abbrev pub ends_as : ℕ → ℕ → Work → Option Verdict → Verdict
ends_as line id w rest = unwrap_or rest (finished_verdict line id w)

-- what the rest of a walk gives
pub record Comes (o : Operation) (set : Bool) (draw f : ℕ) (b : Bool) (line id : ℕ) (loss : Option Loss)
    (before : StreamStage)
    (rest : Option Verdict) (x : Walked) : Type 0 where
  pub verdict_is : verdict_of o line id loss x.outcome ≡ Some (ends_as line id (new_work o set draw f b) rest)
  pub op_is : x.stream.op ≡ op_if_reached (is_hosted line) before (new_work o set draw f b)
      (reach_of o (ends_as line id (new_work o set draw f b) rest))

-- how an exchange is cut off
record CutShort (o : Operation) (verdict : Verdict) (n : ℕ) : Type 0 where
  carried : ℕ
  says : reach_of o verdict ≡ Some (new_reach carried n)

cut_lost : (o : Operation) (l : LostPart) (n : ℕ) → CutShort o (lost_at l n) n
cut_lost o Request n = record { carried = n; says = refl }
cut_lost o Reply n = record { carried = n + 1; says = refl }

cut_refused : (o : Operation) (status n : ℕ) → CutShort o (v.RefusedDevice n status) n
cut_refused o status n = record { carried = n + 1; says = refl }

manager_after_reply : {A : Type 0} (b : Bool) (x y : A) → b ≡ true → (if b then x else y) ≡ x
manager_after_reply true x y e = refl
manager_after_reply false x y e = absurd cc

not_taken : {A : Type 0} (b : Bool) (x y : A) → b ≡ false → (if b then x else y) ≡ y
not_taken true x y e = absurd cc
not_taken false x y e = refl

-- if it is cut off, the operation stays
stays_there : (line : ℕ) (o : Operation) (set : Bool) (draw f : ℕ) (b : Bool) (verdict : Verdict) (before : StreamStage)
    (n : ℕ)
    → n ≤ last_exchange_of (is_hosted line) o → CutShort o verdict n
    → op_if_reached (is_hosted line) before (new_work o set draw f b) (reach_of o verdict)
    ≡ op_at_exchange (new_work o set draw f b) n
stays_there line o set draw f b verdict before n le cut =
    ap (op_if_reached (is_hosted line) before (new_work o set draw f b)) cut.says
    ∙ not_taken (nat_lt (last_exchange_of (is_hosted line) o) n) (op_ended (new_work o set draw f b))
    (op_at_exchange (new_work o set draw f b) n)
    (lt-false (last_exchange_of (is_hosted line) o) n le)

ended_as : (o : Operation) (set : Bool) (draw n f : ℕ) (b : Bool) → op_ended (work_asked (asked_exchange o set draw n))
    ≡ op_ended (new_work o set draw f b)
ended_as op.Establish set draw n f b = ap (λ k. Up k draw) (one_of_set set)
ended_as op.Refresh set draw n f b = ap (λ k. Up k draw) (one_of_set set)
ended_as op.Stop set draw n f b = refl

standing_as : (o : Operation) (set : Bool) (draw n f : ℕ) (b : Bool) (k : ℕ)
    → op_at_exchange (work_asked (asked_exchange o set draw n)) k ≡ op_at_exchange (new_work o set draw f b) k
standing_as op.Establish set draw n f b k = refl
standing_as op.Refresh set draw n f b k = ap (λ s. Refreshing s draw k) (one_of_set set)
standing_as op.Stop set draw n f b k = refl

shows_done : (o : Operation) (set : Bool) (draw n f : ℕ) (b : Bool) (line id : ℕ) (loss : Option Loss)
    → verdict_of o line id loss (outcome.Done (shown_at_end (asked_exchange o set draw n)))
    ≡ Some (finished_verdict line id (new_work o set draw f b))
shows_done op.Establish set draw n f b line id loss = refl
shows_done op.Refresh set draw n f b line id loss = refl
shows_done op.Stop set draw n f b line id loss = refl

done_says : (o : Operation) (set : Bool) (draw f : ℕ) (b : Bool) (line id : ℕ)
    → reach_of o (finished_verdict line id (new_work o set draw f b)) ≡ Some (whole line o)
done_says op.Establish set draw f b line id = refl
done_says op.Refresh set draw f b line id = refl
done_says op.Stop set draw f b line id = refl

-- what an answer makes of the walk
abbrev answered_by : ℕ → NextExchange → Judged → (ℕ → Judged) → ℕ → StreamView → Walked
answered_by line a j carried more s = walk_after_outcome (outcome_of (is_hosted line) a j)
    (taken_stream (is_hosted line) a j s)
    (walk (is_hosted line) more carried (taken_stream (is_hosted line) a j s))

-- an exchange that is lost or refused, or else what is given
cuts : (o : Operation) (set : Bool) (draw f : ℕ) (b : Bool) (line id : ℕ) (loss : Option Loss) (before : StreamStage)
    (carried : ℕ → Judged) (more n : ℕ) (s : StreamView) (rest : Option Verdict)
    → n ≤ last_exchange_of (is_hosted line) o → s.op ≡ op_at_exchange (new_work o set draw f b) n
    → Comes o set draw f b line id loss before rest
    (answered_by line (asked_exchange o set draw n) Expected carried more s)
    → (lost : Option LostPart) (status : Option ℕ) → lost_message loss n ≡ lost
    → Comes o set draw f b line id loss before (option_or (cut_at lost status n) rest)
    (answered_by line (asked_exchange o set draw n) (exchange_judged lost status) carried more s)
cuts o set draw f b line id loss before carried more n s rest le at goes (Some lost) status e = record {
  verdict_is = ap (option_map (λ (l : LostPart). lost_at l n)) e;
  op_is = at ∙ sym (stays_there line o set draw f b (lost_at lost n) before n le (cut_lost o lost n));
}
cuts o set draw f b line id loss before carried more n s rest le at goes None (Some status) e = record {
  verdict_is = refl;
  op_is = at ∙ sym (stays_there line o set draw f b (v.RefusedDevice n status) before n le (cut_refused o status n));
}
cuts o set draw f b line id loss before carried more n s rest le at goes None None e = goes

-- after the last exchange
ends : (o : Operation) (set : Bool) (draw f : ℕ) (b : Bool) (line id : ℕ) (loss : Option Loss) (before : StreamStage)
    (carried : ℕ → Judged) (n : ℕ) (s : StreamView) → n ≡ last_exchange_of (is_hosted line) o
    → Comes o set draw f b line id loss before None
    (answered_by line (asked_exchange o set draw n) Expected carried zero s)
ends o set draw f b line id loss before carried n s same =
    let test : (n == last_exchange_of (is_hosted line) o) ≡ true = subst (λ (z : ℕ). (n == z) ≡ true) same (same-true n)
    in
    let less : nat_lt (last_exchange_of (is_hosted line) o) (n + 1)
    ≡ true = lt-true (last_exchange_of (is_hosted line) o) (n + 1)
    (omega (arith, same)) in
    let end : nat_lt (last_exchange_of (is_hosted line) o) (last_exchange_of (is_hosted line) o + 1)
    ≡ true = lt-true (last_exchange_of (is_hosted line) o) (last_exchange_of (is_hosted line) o + 1) (omega arith) in
    let by_end : op_if_reached (is_hosted line) before (new_work o set draw f b)
    (reach_of o (finished_verdict line id (new_work o set draw f b)))
    ≡ op_ended (new_work o set draw f b) =
    ap (op_if_reached (is_hosted line) before (new_work o set draw f b)) (done_says o set draw f b line id) ∙
    manager_after_reply
    (nat_lt (last_exchange_of (is_hosted line) o) (last_exchange_of (is_hosted line) o + 1))
    (op_ended (new_work o set draw f b))
    (op_at_exchange (new_work o set draw f b) (last_exchange_of (is_hosted line) o + 1)) end in
    let now : (stream_acknowledged (is_hosted line) (asked_exchange o set draw n) s).op
    ≡ op_ended (new_work o set draw f b) =
    manager_after_reply (nat_lt (last_exchange_of (is_hosted line) o) (n + 1))
    (op_ended (work_asked (asked_exchange o set draw n)))
    (op_at_exchange (work_asked (asked_exchange o set draw n)) (n + 1)) less ∙ ended_as o set draw n f b in
    subst (λ (t : Bool). Comes o set draw f b line id loss before None
    (walk_after_outcome (if t then outcome.Done (shown_at_end (asked_exchange o set draw n)) else outcome.Next)
    (stream_acknowledged (is_hosted line) (asked_exchange o set draw n) s)
    (walk (is_hosted line) zero carried (stream_acknowledged (is_hosted line) (asked_exchange o set draw n) s))))
    (sym test)
    (record { verdict_is = shows_done o set draw n f b line id loss; op_is = now ∙ sym by_end })

-- after another one the walk goes on
goes_on : (o : Operation) (set : Bool) (draw f : ℕ) (b : Bool) (line id : ℕ) (loss : Option Loss) (before : StreamStage)
    (carried : ℕ → Judged) (more n : ℕ) (s : StreamView) (rest : Option Verdict)
    → n < last_exchange_of (is_hosted line) o → Comes o set draw f b line id loss before rest
    (walk (is_hosted line) more carried (stream_acknowledged (is_hosted line) (asked_exchange o set draw n) s))
    → Comes o set draw f b line id loss before rest
    (answered_by line (asked_exchange o set draw n) Expected carried more s)
goes_on o set draw f b line id loss before carried more n s rest lt comes =
    let test : (n == last_exchange_of (is_hosted line) o) ≡ false = different-false n
    (last_exchange_of (is_hosted line) o) lt in
    subst (λ (t : Bool). Comes o set draw f b line id loss before rest
    (walk_after_outcome (if t then outcome.Done (shown_at_end (asked_exchange o set draw n)) else outcome.Next)
    (stream_acknowledged (is_hosted line) (asked_exchange o set draw n) s)
    (walk (is_hosted line) more carried (stream_acknowledged (is_hosted line) (asked_exchange o set draw n) s))))
    (sym test)
    comes

next_standing : (line : ℕ) (o : Operation) (set : Bool) (draw f : ℕ) (b : Bool) (n : ℕ) (s : StreamView)
    → n < last_exchange_of (is_hosted line) o
    → (stream_acknowledged (is_hosted line) (asked_exchange o set draw n) s).op
    ≡ op_at_exchange (new_work o set draw f b) (n + 1)
next_standing line o set draw f b n s lt =
    not_taken (nat_lt (last_exchange_of (is_hosted line) o) (n + 1))
    (op_ended (work_asked (asked_exchange o set draw n)))
    (op_at_exchange (work_asked (asked_exchange o set draw n)) (n + 1))
    (lt-false (last_exchange_of (is_hosted line) o) (n + 1) (omega (arith, lt)))
    ∙ standing_as o set draw n f b (n + 1)

-- by how many exchanges are left: at each the walk ends in a loss or a refusal or goes on to the next, and the last
-- ends it
walk_is : (o : Operation) (set : Bool) (draw f : ℕ) (b : Bool) → WorkFits o set draw
    → (line id : ℕ) (loss : Option Loss) (refusal : ℕ → Option ℕ) (before : StreamStage) (more n : ℕ) (s : StreamView)
    → n + more
    ≡ last_exchange_of (is_hosted line) o
    → s.op ≡ op_at_exchange (new_work o set draw f b) n → Comes o set draw f b line id loss before
    (first_from (λ x. cut_at (lost_message loss x) (refusal x) x) n (suc more))
    (walk (is_hosted line) (suc more) (answers loss refusal) s)
walk_is o set draw f b fits line id loss refusal before zero n s count at =
    let le : n ≤ last_exchange_of (is_hosted line) o = omega (arith, count) in
    let same : n ≡ last_exchange_of (is_hosted line) o = omega (arith, count) in
    subst (λ (q : Option NextExchange). Comes o set draw f b line id loss before
    (first_from (λ x. cut_at (lost_message loss x) (refusal x) x) n (suc zero))
    (walk_after_outcome (outcome_if_asked (is_hosted line) q (answers loss refusal))
    (stream_after (is_hosted line) q (answers loss refusal) s)
    (walk (is_hosted line) zero (answers loss refusal) (stream_after (is_hosted line) q (answers loss refusal) s))))
    (sym (ap asked_of_unfinished at ∙ standing_asked o set draw f b n fits))
    (cuts o set draw f b line id loss before (answers loss refusal) zero n s None le at
    (ends o set draw f b line id loss before (answers loss refusal) n s same) (lost_message loss n) (refusal n) refl)
walk_is o set draw f b fits line id loss refusal before (suc more) n s count at =
    let lt : n < last_exchange_of (is_hosted line) o = omega (arith, count) in
    let le : n ≤ last_exchange_of (is_hosted line) o = omega (arith, count) in
    let on : (n + 1) + more ≡ last_exchange_of (is_hosted line) o = omega (arith, count) in
    let rest = walk_is o set draw f b fits line id loss refusal before more (n + 1)
    (stream_acknowledged (is_hosted line) (asked_exchange o set draw n) s) on (next_standing line o set draw f b n s lt)
    in
    subst (λ (q : Option NextExchange). Comes o set draw f b line id loss before
    (first_from (λ x. cut_at (lost_message loss x) (refusal x) x) n (suc (suc more)))
    (walk_after_outcome (outcome_if_asked (is_hosted line) q (answers loss refusal))
    (stream_after (is_hosted line) q (answers loss refusal) s)
    (walk (is_hosted line) (suc more) (answers loss refusal)
    (stream_after (is_hosted line) q (answers loss refusal) s))))
    (sym (ap asked_of_unfinished at ∙ standing_asked o set draw f b n fits))
    (cuts o set draw f b line id loss before (answers loss refusal) (suc more) n s
    (first_from (λ x. cut_at (lost_message loss x) (refusal x) x) (n + 1) (suc more)) le at
    (goes_on o set draw f b line id loss before (answers loss refusal) (suc more) n s
    (first_from (λ x. cut_at (lost_message loss x) (refusal x) x) (n + 1) (suc more)) lt rest) (lost_message loss n)
    (refusal n)
    refl)

-- from the first exchange of an event on
pub walk_comes : (o : Operation) (set : Bool) (draw f : ℕ) (b : Bool) → WorkFits o set draw
    → (ports : PortView) (line id : ℕ) (loss : Option Loss) (before : StreamStage) (s : StreamView)
    → f ≤ last_exchange_of (is_hosted line) o → s.op
    ≡ op_at_exchange (new_work o set draw f b) f
    → Comes o set draw f b line id loss before (stays ports line id loss (new_work o set draw f b))
    (walk (is_hosted line) (last_exchange_of (is_hosted line) o + 1 - f) (answers loss (refusal_at ports o set line id))
    s)
walk_comes o set draw f b fits ports line id loss before s le at =
    let count : f + (last_exchange_of (is_hosted line) o - f)
    ≡ last_exchange_of (is_hosted line) o = omega (arith, le) in
    let more : suc (last_exchange_of (is_hosted line) o - f) ≡ last_exchange_of (is_hosted line) o + 1 - f = omega
    (arith, le) in
    subst (λ (k : ℕ). Comes o set draw f b line id loss before
    (first_from (λ x. cut_at (lost_message loss x) (refusal_at ports o set line id x) x) f k)
    (walk (is_hosted line) k (answers loss (refusal_at ports o set line id)) s)) more
    (walk_is o set draw f b fits line id loss (refusal_at ports o set line id) before
    (last_exchange_of (is_hosted line) o - f) f s count
    at)

-- ---- an outcome with a verdict

some_lost : (n : ℕ) (lost : Option LostPart) (verdict : Verdict)
    → option_map (λ (l : LostPart). lost_at l n) lost ≡ Some verdict → IsSome lost
some_lost n None verdict is = absurd cc
some_lost n (Some lost) verdict is = refl

-- if a reply was bad, or an exchange was lost but no message of it, there is no verdict
pub no_bad_reply : (o : Operation) (line stream : ℕ) (loss : Option Loss) (x : StreamOutcome) (verdict : Verdict)
    → verdict_of o line stream loss x ≡ Some verdict → NoBadReply loss x
no_bad_reply o line stream loss x verdict is = grind (arith, some_lost)
