-- The verdicts of operations fit.
use Rattle.std.proofs.Common.{◌≡◌, ℕ, ◌<◌, ◌≤◌, ◌^◌, Bool, true, false, length, Option}
use Rattle.std.proofs.Common.{Some, None, refl, sym, ◌∙◌, subst, arith, inl, inr}
use Rattle.std.specs.Prelude.{if◌then◌else◌, ◌&&◌, nat_lt, is_some, List}
use Rattle.std.proofs.lemmas.Bool.Decides.{nat_tests}
use Rattle.ide_types.specs.declared.status.StreamStatus.{StreamStatus}
use Rattle.ide_types.specs.declared.status.StreamStatus.TheVariants as status
use Rattle.ide_types.specs.declared.port.Side.TheVariants.{Host}
use Rattle.ide_types.specs.declared.sub.SubKind.TheVariants.{Pr, Npr, Cpl}
use Rattle.ide_types.specs.declared.plan.Plan.{Plan}
use Rattle.ide_types.specs.Fits.{FitsPlan}
use Rattle.ide_types.specs.Lines.{is_hosted}
use Rattle.ide_types.specs.Ends.{line_has}
use Rattle.ide_types.proofs.EndsFound.{few_lines}
use Rattle.spec_links.proofs.Ends.{stream_is_there}
use Rattle.ide_types.specs.declared.port.PortName.{PortName}
use Rattle.script_events.specs.declared.event.Event.TheVariants as event
use Rattle.script_events.specs.declared.event.Loss.{Loss}
use Rattle.script_events.specs.declared.event.Lost.{Lost}
use Rattle.script_events.specs.declared.event.Lost.TheVariants.{Request, Reply}
use Rattle.event_verdicts.specs.declared.verdict.Operation.{Operation}
use Rattle.event_verdicts.specs.declared.verdict.Operation.TheVariants as op
use Rattle.event_verdicts.specs.declared.verdict.Verdict.{Verdict}
use Rattle.event_verdicts.specs.declared.verdict.Verdict.TheVariants as v
use Rattle.event_verdicts.specs.Apart.{Fits}
use Rattle.spec_keys.specs.Keys.{refuses, refusal_if, refused_status}
use Rattle.spec_keys.specs.Places.{KeyPlan}
use Rattle.spec_keys.specs.Operations.{StreamStage, Idle, Establishing, Up, Refreshing, Stopping, Work, work_of}
use Rattle.spec_keys.specs.Operations.{last_exchange_of}
use Rattle.spec_keys.specs.History.{History, op_of, draws, place_keys, history_status}
use Rattle.spec_keys.specs.Due.{PortView, ports_at, refusal_at, lost_message, lost_at, cut_at, finished_verdict}
use Rattle.spec_keys.specs.Due.{operation_verdict, is_live_sender, unless_open, if_secure, may_establish, may_refresh}
use Rattle.spec_keys.specs.Due.{key_due}
use Rattle.spec_keys.proofs.Performs.{performed_stays, refusal_of_place}
use Rattle.spec_links.specs.Plan.{key_plan, stream_plan, has_link}
use Rattle.spec_links.specs.Due.{due}
use Rattle.law_sealing.proofs.Bounds.{id_byte}
use Rattle.law_sealing.proofs.OfPlans.{streams_fit}
use Rattle.law_text.proofs.Draws.{few_draws, few_work}

-- ---- links and streams of a plan

-- a line of the plan has the stream
pub record FitsStream (plan : Plan) (line stream : ℕ) : Type 0 where
  pub there : line_has plan line stream ≡ true
  pub link_fits : line < 2 ^ 64
  pub stream_fits : stream < 2 ^ 64

pub stream_fits : (plan : Plan) → FitsPlan plan → (line stream : ℕ) → is_some (stream_plan plan line stream) ≡ true
    → FitsStream plan line stream
stream_fits plan fits line stream is =
    let there = sym (stream_is_there plan line stream) ∙ is in
    record {
      there = there;
      link_fits = few_lines plan fits line stream there;
      stream_fits = omega (arith, id_byte plan (streams_fit plan fits) line stream is);
    }

-- ---- an operation that goes on

pub fits_if : (plan : Plan) (b : Bool) (x y : Verdict) → Fits plan x → Fits plan y → Fits plan (if b then x else y)
fits_if plan true x y one two = one
fits_if plan false x y one two = two

same_number : (m n : ℕ) → Some m ≡ Some n → m ≡ n
same_number m n is = cc

same_verdict : (x y : Verdict) → Some x ≡ Some y → x ≡ y
same_verdict x y is = cc

last_few : (hosted : Bool) (o : Operation) → last_exchange_of hosted o ≤ 24
last_few true op.Establish = omega arith
last_few true op.Refresh = omega arith
last_few true op.Stop = omega arith
last_few false o = omega arith

pub lost_fits : (plan : Plan) (lost : Lost) (n : ℕ) → n < 2 ^ 64 → Fits plan (lost_at lost n)
lost_fits plan Request n few = few
lost_fits plan Reply n few = few

-- the status of a refusal has room
refused_fits : (b : Bool) (status : ℕ) → refusal_if b ≡ Some status → status < 2 ^ 64
refused_fits true status is = let same = same_number refused_status status is in omega (arith, same)
refused_fits false status is = absurd cc

refusal_fits : (h : History) (o : Operation) (set : Bool) (line stream n status : ℕ)
    → refusal_at (ports_at h) o set line stream n ≡ Some status → status < 2 ^ 64
refusal_fits h o set line stream n status is =
    let at = refusal_of_place (ports_at h) o set line stream n status is in
    refused_fits (refuses at.0.sends (place_keys h at.0) set) status at.1

cut_fits : (plan : Plan) (lost : Option Lost) (refusal : Option ℕ) (n : ℕ) (x : Verdict) → n < 2 ^ 64
    → ((status : ℕ) → refusal ≡ Some status → status < 2 ^ 64) → cut_at lost refusal n ≡ Some x → Fits plan x
cut_fits plan (Some lost) refusal n x few room is = subst (Fits plan) (same_verdict (lost_at lost n) x is)
    (lost_fits plan lost n few)
cut_fits plan None (Some status) n x few room is =
    subst (Fits plan) (same_verdict (v.RefusedDevice n status) x is) (few, room status refl)
cut_fits plan None None n x few room is = absurd cc

done_fits : (plan : Plan) (line stream : ℕ) (w : Work) (o : Operation) → w.operation ≡ o → FitsStream plan line stream
    → w.draw < 2 ^ 64 → Fits plan (finished_verdict line stream w)
done_fits plan line stream w op.Establish is at draw = rw is ((at.there, at.stream_fits), draw)
done_fits plan line stream w op.Refresh is at draw = rw is (at.link_fits, at.stream_fits, draw)
done_fits plan line stream w op.Stop is at draw = rw is (at.there, at.stream_fits)

-- the verdict is that of its end, or of an exchange at which it stays
performed_fits : (plan : Plan) (h : History) (line stream : ℕ) (loss : Option Loss) (w : Work)
    → FitsStream plan line stream → w.draw < 2 ^ 64 → Fits plan (operation_verdict (ports_at h) line stream loss w)
performed_fits plan h line stream loss w at draw = elim (performed_stays (ports_at h) line stream loss w) [
  | inl ended ↦ subst (Fits plan) (sym ended) (done_fits plan line stream w w.operation refl at draw)
  | inr stays ↦
      let below : stays.exchange < 25 = omega (arith, stays.at_most, last_few (is_hosted line) w.operation) in
      cut_fits plan (lost_message loss stays.exchange)
      (refusal_at (ports_at h) w.operation w.set line stream stays.exchange)
      stays.exchange _ (omega (arith, below)) (refusal_fits h w.operation w.set line stream stays.exchange) stays.gives
]

-- ---- refusals at the beginning

begun_fits : (plan : Plan) (kp : KeyPlan) (next : ℕ) (x : Verdict) → next < 2 ^ 64 → Fits plan x
    → Fits plan (if nat_lt next kp.pool then x else v.RefusedPoolEmpty next)
begun_fits plan kp next x few fits = fits_if plan (nat_lt next kp.pool) x (v.RefusedPoolEmpty next) fits few

establish_fits : (plan : Plan) (kp : KeyPlan) (k : ℕ) (q : StreamStage) (next : ℕ) (x : Verdict) → next < 2 ^ 64
    → Fits plan x → Fits plan (may_establish kp k next q x)
establish_fits plan kp k Idle next x few fits = begun_fits plan kp next x few fits
establish_fits plan kp k (Establishing j n) next x few fits = fits
establish_fits plan kp k (Up set j) next x few fits = tt
establish_fits plan kp k (Refreshing set j n) next x few fits = tt
establish_fits plan kp k (Stopping n) next x few fits = tt

pub secure_fits : (plan : Plan) (s : StreamStatus) (x : Verdict) → Fits plan x → Fits plan (if_secure s x)
secure_fits plan status.Secure x fits = fits
secure_fits plan status.Idle x fits = tt
secure_fits plan status.Partial x fits = tt
secure_fits plan status.Insecure x fits = tt

open_fits : (plan : Plan) (ports : PortView) (line stream : ℕ) (set : Bool) (x : Verdict) → Fits plan x
    → Fits plan (unless_open ports line stream set x)
open_fits plan ports line stream set x fits =
    fits_if plan (is_live_sender ports line stream set Pr) (v.RefusedUnitOpen Pr) _ tt
    (fits_if plan (is_live_sender ports line stream set Npr) (v.RefusedUnitOpen Npr) _ tt
    (fits_if plan (is_live_sender ports line stream set Cpl) (v.RefusedUnitOpen Cpl) x tt fits))

refresh_fits : (plan : Plan) (kp : KeyPlan) (q : StreamStage) (next : ℕ) (host : StreamStatus) (ports : PortView)
    (line stream : ℕ) (set : Bool) (x : Verdict) → next < 2 ^ 64 → Fits plan x
    → Fits plan (may_refresh kp line next q host (unless_open ports line stream set) x)
refresh_fits plan kp Idle next host ports line stream set x few fits = tt
refresh_fits plan kp (Establishing j n) next host ports line stream set x few fits = tt
refresh_fits plan kp (Up k j) next host ports line stream set x few fits = secure_fits plan host _
    (open_fits plan ports line stream set _ (begun_fits plan kp next x few fits))
refresh_fits plan kp (Refreshing k j n) next host ports line stream set x few fits = fits
refresh_fits plan kp (Stopping n) next host ports line stream set x few fits = tt

-- ---- events

-- a verdict that is due if the plan has the stream
where_known : (plan : Plan) → FitsPlan plan → (line stream : ℕ) (x : Verdict)
    → (FitsStream plan line stream → Fits plan x)
    → Fits plan (if is_some (stream_plan plan line stream) then x else v.Nothing)
where_known plan fits line stream x each = by_test (is_some (stream_plan plan line stream)) refl
  where
    by_test : (b : Bool) → is_some (stream_plan plan line stream) ≡ b → Fits plan (if b then x else v.Nothing)
    by_test true is = each (stream_fits plan fits line stream is)
    by_test false is = tt

-- of an operation that links alone have
on_link : (plan : Plan) → FitsPlan plan → (line stream : ℕ) (x : Verdict) → (FitsStream plan line stream → Fits plan x)
    → (b : Bool) → Fits plan (if b && is_some (stream_plan plan line stream) then x else v.Nothing)
on_link plan fits line stream x each true = where_known plan fits line stream x each
on_link plan fits line stream x each false = tt

draws_fit : (h : History) → length h < 2 ^ 28 → draws h < 2 ^ 64
draws_fit h few = omega (arith, few, few_draws h)

work_fits : (h : History) → length h < 2 ^ 28 → (o : Operation) (line stream : ℕ)
    → (work_of o (op_of h line stream) (draws h)).draw < 2 ^ 64
work_fits h few o line stream = omega (arith, few, few_work h o line stream)

pub establish_due_fits : (plan : Plan) → FitsPlan plan → (h : History) → length h < 2 ^ 28
    → (line stream : ℕ) (lose : Option Loss) → Fits plan (due plan h (event.Establish line stream lose))
unfolding due key_due
establish_due_fits plan fits h few line stream lose = where_known plan fits line stream _ (λ at.
    establish_fits plan (key_plan plan) line (op_of h line stream) (draws h) _ (draws_fit h few)
    (performed_fits plan h line stream lose (work_of op.Establish (op_of h line stream) (draws h)) at
    (work_fits h few op.Establish line stream)))

pub refresh_due_fits : (plan : Plan) → FitsPlan plan → (h : History) → length h < 2 ^ 28
    → (line stream : ℕ) (lose : Option Loss) → Fits plan (due plan h (event.Refresh line stream lose))
unfolding due key_due
refresh_due_fits plan fits h few line stream lose = on_link plan fits line stream _ (λ at.
    refresh_fits plan (key_plan plan) (op_of h line stream) (draws h) (history_status h Host line stream) (ports_at h)
    line
    stream
    (work_of op.Refresh (op_of h line stream) (draws h)).set _ (draws_fit h few)
    (performed_fits plan h line stream lose (work_of op.Refresh (op_of h line stream) (draws h)) at
    (work_fits h few op.Refresh line stream))) (nat_lt line 8)

pub stop_due_fits : (plan : Plan) → FitsPlan plan → (h : History) → length h < 2 ^ 28
    → (line stream : ℕ) (lose : Option Loss) → Fits plan (due plan h (event.Stop line stream lose))
unfolding due key_due
stop_due_fits plan fits h few line stream lose = where_known plan fits line stream _ (λ at.
    performed_fits plan h line stream lose (work_of op.Stop (op_of h line stream) (draws h)) at
    (work_fits h few op.Stop line stream))

pub reset_due_fits : (plan : Plan) → FitsPlan plan → (h : History) (link : ℕ)
    (ends : List PortName) → Fits plan (due plan h (event.Reset link ends))
unfolding due key_due
reset_due_fits plan fits h link ends = by_test (has_link plan link) refl
  where
    by_test : (b : Bool) → has_link plan link ≡ b → Fits plan (if b then v.Reset link else v.Nothing)
    by_test true is = let less : link < length plan.links = grind (arith, nat_tests) in omega
        (arith, less, fits.links_most)
    by_test false is = tt

pub status_due_fits : (plan : Plan) → FitsPlan plan → (h : History) (line stream : ℕ)
    → Fits plan (due plan h (event.Status line stream))
unfolding due
status_due_fits plan fits h line stream = where_known plan fits line stream _ (λ at. (at.link_fits, at.stream_fits))
