-- Operations on streams at the machine: which have a verdict, whether an establish drew, and that a stop always tells
-- how far it came.
use Rattle.std.proofs.Common.{◌≡◌, ◌⊎◌, inl, inr, ℕ, ◌==◌, ◌&&◌, Bool, true, false, Option, Some, None, refl, ap, sym}
use Rattle.std.proofs.Common.{◌∙◌, arith}
use Rattle.std.specs.Prelude.{not, is_some, if◌then◌else◌}
use Rattle.std.proofs.lemmas.Bool.Decides.{nat_tests}
use Rattle.ide_types.specs.Lines.{is_link_line}
use Rattle.ide_types.specs.declared.plan.Plan.{Plan}
use Rattle.script_events.specs.declared.event.Event.TheVariants as event
use Rattle.script_events.specs.declared.event.Loss.{Loss}
use Rattle.event_verdicts.specs.declared.verdict.Operation.TheVariants as op
use Rattle.event_verdicts.specs.declared.verdict.Verdict.{Verdict}
use Rattle.event_verdicts.specs.declared.verdict.Verdict.TheVariants as v
use Rattle.spec_keys.specs.Operations.{StreamStage, Work, Reach, work_of, reach_of}
use Rattle.spec_keys.specs.History.{begins_keyed}
use Rattle.spec_keys.specs.Due.{PortView, finished_verdict, stop_on}
use Rattle.spec_keys.proofs.Performs.{is_cut, performed_is}
use Rattle.machine_ports.specs.Machine.{BesidePorts, LinkState, Stepped, work_done, draws_after, ports_of}
use Rattle.machine_ports.specs.Machine.{establish_found, refresh_found, stop_found}
unfoldable use Rattle.machine_ports.specs.Machine.{find_op, step_of}

-- ---- an operation at the machine

pub establish_done : (plan : Plan) (beside : BesidePorts) (st after : LinkState) (line stream : ℕ) (loss : Option Loss)
    (q : StreamStage)
    (verdict : Verdict) → find_op plan st line stream ≡ Some q
    → ◌≡◌ {A = Stepped} (verdict, after) (step_of plan beside st (event.Establish line stream loss))
    → after ≡ work_done plan st line stream (work_of op.Establish q st.draws) (reach_of op.Establish verdict)
unfolding step_of
establish_done plan beside st after line stream loss q verdict found is =
    let step = is ∙ ap (establish_found plan st line stream loss) found in
    ap (λ (s : Stepped). s.1) step
    ∙ ap (λ (u : Verdict). work_done plan st line stream (work_of op.Establish q st.draws) (reach_of op.Establish u))
    (sym (ap (λ (s : Stepped). s.0) step))

pub establish_nothing : (plan : Plan) (beside : BesidePorts) (st after : LinkState) (line stream : ℕ)
    (loss : Option Loss)
    (verdict : Verdict) → find_op plan st line stream ≡ None
    → ◌≡◌ {A = Stepped} (verdict, after) (step_of plan beside st (event.Establish line stream loss))
    → verdict ≡ v.Nothing
unfolding step_of
establish_nothing plan beside st after line stream loss verdict found is =
    ap (λ (s : Stepped). s.0) (is ∙ ap (establish_found plan st line stream loss) found)

either_nothing : (b : Bool) (r : Stepped) (st : LinkState) → r.0 ≡ v.Nothing
    → (if b then r else (v.Nothing, st)).0 ≡ v.Nothing
either_nothing true r st is = is
either_nothing false r st is = refl

pub refresh_nothing : (plan : Plan) (beside : BesidePorts) (st after : LinkState) (line stream : ℕ) (loss : Option Loss)
    (verdict : Verdict) → find_op plan st line stream ≡ None
    → ◌≡◌ {A = Stepped} (verdict, after) (step_of plan beside st (event.Refresh line stream loss)) → verdict ≡ v.Nothing
unfolding step_of
refresh_nothing plan beside st after line stream loss verdict found is =
    ap (λ (s : Stepped). s.0) is
    ∙ either_nothing (is_link_line line) (refresh_found plan st line stream loss (find_op plan st line stream)) st
    (ap (λ (o : Option StreamStage). (refresh_found plan st line stream loss o).0) found)

-- only the streams of links are refreshed
pub none_refreshed : (plan : Plan) (beside : BesidePorts) (st after : LinkState) (line stream : ℕ) (loss : Option Loss)
    (verdict : Verdict) → is_link_line line ≡ false
    → ◌≡◌ {A = Stepped} (verdict, after) (step_of plan beside st (event.Refresh line stream loss)) → verdict ≡ v.Nothing
unfolding step_of
none_refreshed plan beside st after line stream loss verdict none is =
    ap (λ (s : Stepped). s.0) is
    ∙ ap (λ (b : Bool). (if b then refresh_found plan st line stream loss (find_op plan st line stream)
    else (v.Nothing, st)).0) none

pub stop_nothing : (plan : Plan) (beside : BesidePorts) (st after : LinkState) (line stream : ℕ) (loss : Option Loss)
    (verdict : Verdict) → find_op plan st line stream ≡ None
    → ◌≡◌ {A = Stepped} (verdict, after) (step_of plan beside st (event.Stop line stream loss)) → verdict ≡ v.Nothing
unfolding step_of
stop_nothing plan beside st after line stream loss verdict found is =
    ap (λ (s : Stepped). s.0) (is ∙ ap (stop_found plan st line stream loss) found)

pub stop_verdict : (plan : Plan) (beside : BesidePorts) (st after : LinkState) (line stream : ℕ) (loss : Option Loss)
    (q : StreamStage)
    (verdict : Verdict) → find_op plan st line stream ≡ Some q
    → ◌≡◌ {A = Stepped} (verdict, after) (step_of plan beside st (event.Stop line stream loss))
    → verdict ≡ stop_on q st.draws (ports_of plan st) line stream loss
unfolding step_of
stop_verdict plan beside st after line stream loss q verdict found is =
    ap (λ (s : Stepped). s.0) (is ∙ ap (stop_found plan st line stream loss) found)

-- ---- which operations begin

-- so many draws were made after it
draws_done : (plan : Plan) (st : LinkState) (line stream : ℕ) (w : Work) (r : Option Reach)
    → (work_done plan st line stream w r).draws ≡ (if is_some r then draws_after st.draws w else st.draws)
draws_done plan st line stream w None = refl
draws_done plan st line stream w (Some r) = refl

-- a draw was made if an establish began
drew_by : (q : StreamStage) (next : ℕ) (b : Bool)
    → not ((if b then draws_after next (work_of op.Establish q next) else next) == next)
    ≡ ((work_of op.Establish q next).begins && b)
drew_by q next b = grind (arith, nat_tests)

pub drew_is : (plan : Plan) (st after : LinkState) (line stream : ℕ) (q : StreamStage) (verdict : Verdict)
    → after ≡ work_done plan st line stream (work_of op.Establish q st.draws) (reach_of op.Establish verdict)
    → not (after.draws == st.draws) ≡ begins_keyed q st.draws verdict
drew_is plan st after line stream q verdict is =
    ap (λ (n : ℕ). not (n == st.draws))
    (ap (λ (s : LinkState). s.draws) is
    ∙ draws_done plan st line stream (work_of op.Establish q st.draws) (reach_of op.Establish verdict))
    ∙ drew_by q st.draws (is_some (reach_of op.Establish verdict))

pub and_never : (b : Bool) → (b && false) ≡ false
and_never true = refl
and_never false = refl

pub and_always : (a b : Bool) → b ≡ true → (a && b) ≡ a
and_always a b is = grind arith

pub begins_stop : (q : StreamStage) (a b : ℕ) → (work_of op.Stop q a).begins ≡ (work_of op.Stop q b).begins
begins_stop q a b = grind arith

-- a stop always tells how far it came
cut_reaches : (x : Verdict) → is_cut x ≡ true → is_some (reach_of op.Stop x) ≡ true
cut_reaches x cut = grind arith

done_reaches : (line stream : ℕ) (w : Work) → is_some (reach_of op.Stop (finished_verdict line stream w)) ≡ true
done_reaches line stream w = grind arith

stop_comes : (line stream : ℕ) (w : Work) (x : Verdict) → (x ≡ finished_verdict line stream w) ⊎ (is_cut x ≡ true)
    → is_some (reach_of op.Stop x) ≡ true
stop_comes line stream w x (inl ended) = ap (λ (y : Verdict). is_some (reach_of op.Stop y)) ended
    ∙ done_reaches line stream w
stop_comes line stream w x (inr cut) = cut_reaches x cut

pub stop_reaches : (q : StreamStage) (next : ℕ) (ports : PortView) (line stream : ℕ) (loss : Option Loss)
    → is_some (reach_of op.Stop (stop_on q next ports line stream loss)) ≡ true
stop_reaches q next ports line stream loss =
    let w = work_of op.Stop q next in
    stop_comes line stream w _ (performed_is ports line stream loss w)
