-- Establishes and stops of which nothing is lost.
use Rattle.spec_keys.proofs.Terms.{◌≡◌, ℕ, suc, zero, ◌+◌, ◌==◌, Bool, true, false, Option, None, arith, refl, ap, ◌∙◌}
use Rattle.spec_keys.proofs.Terms.{List, [], ◌++◌, if◌then◌else◌, unwrap_or, Work, Verdict, PortView, Side, Host}
use Rattle.spec_keys.proofs.Terms.{Device, KeyPlace, key_place_at, first_from, first_status, cut_at, refusal_at}
use Rattle.spec_keys.proofs.Terms.{operation_verdict, finished_verdict, told_places, places_of, program_exchange}
use Rattle.spec_keys.proofs.Terms.{is_hosted, Pr, Npr, Cpl, StreamStage, Idle, Establishing, Up, Refreshing, work_of}
use Rattle.spec_keys.proofs.Terms.{stop_on, establish_on, Keys, draw_of_keyed, key_in, refuses, refusal_if, KeyPlan}
use Rattle.spec_keys.proofs.Terms.{History, KeyCauseLaw, op_of, ports_at, place_keys, draws, ◌<◌, Stopping, ◌≤◌, ◌&&◌}
use Rattle.spec_keys.proofs.Terms.{is_local, is_host, from_at, new_work, moments}
use Rattle.spec_keys.proofs.Tests.{lt-true, true-same}
use Rattle.spec_keys.proofs.Fits.{establish_goes_on, establish_takes, exchanges_establish, last_at}
use Rattle.law_keys.proofs.States.{in_state, keys_follow_operations}
use Rattle.event_verdicts.specs.declared.verdict.Operation.TheVariants as op
use Rattle.event_verdicts.specs.declared.verdict.Verdict.TheVariants as v

-- ---- no exchange stays

first_none : (cut : ℕ → Option Verdict) (n c : ℕ) → ((m : ℕ) → n ≤ m → cut m ≡ None) → first_from cut n c ≡ None
first_none cut n zero none = refl
first_none cut n (suc c) none =
    rw (none n (omega arith)) (first_none cut (n + 1) c (λ m le. none m (omega arith)))

pub ended : (ports : PortView) (line stream : ℕ) (w : Work)
    → ((n : ℕ) → w.first ≤ n → refusal_at ports w.operation w.set line stream n ≡ None)
    → operation_verdict ports line stream None w ≡ finished_verdict line stream w
ended ports line stream w free =
    ap (λ (o : Option Verdict). unwrap_or o (finished_verdict line stream w))
    (first_none (λ n. cut_at None (refusal_at ports w.operation w.set line stream n) n) w.first _
    (λ n le. rw (free n le) refl))

-- ---- no place refuses its key

-- so of each place of a stream that is keyed by messages
abbrev pub OfTold : (KeyPlace → Option ℕ) → ℕ → ℕ → Type 0
OfTold status line stream =
    (p : KeyPlace) → p.line ≡ line → p.stream ≡ stream → is_local p ≡ false → status p ≡ None

none_of_six : (status : KeyPlace → Option ℕ) (side : Side) (line stream : ℕ) (ps : List KeyPlace)
    → (is_host side && is_hosted line) ≡ false → OfTold status line stream → first_status status ps ≡ None
    → first_status status (places_of side line stream ++ ps) ≡ None
none_of_six status side line stream ps told none rest =
    rw (
      none (key_place_at side line stream false Pr) refl refl told,
      none (key_place_at side line stream false Npr) refl refl told,
      none (key_place_at side line stream false Cpl) refl refl told,
      none (key_place_at side line stream true Pr) refl refl told,
      none (key_place_at side line stream true Npr) refl refl told,
      none (key_place_at side line stream true Cpl) refl refl told,
    ) rest

pub none_told : (hosted : Bool) (status : KeyPlace → Option ℕ) (line stream : ℕ) → is_hosted line ≡ hosted
    → OfTold status line stream → first_status status (told_places hosted line stream) ≡ None
none_told true status line stream hosted none = none_of_six status Device line stream [] refl none refl
none_told false status line stream hosted none =
    none_of_six status Host line stream (places_of Device line stream) hosted none
    (none_of_six status Device line stream [] refl none refl)

pub if_none : (b : Bool) (o : Option ℕ) → (b ≡ true → o ≡ None) → (if b then o else None) ≡ None
if_none true o is = is refl
if_none false o is = refl

pub establish_free : (ports : PortView) (set : Bool) (line stream n : ℕ)
    → ((p : KeyPlace) → p.line ≡ line → p.stream ≡ stream → is_local p ≡ false → program_exchange op.Establish p ≡ n
    → ports.refusal p set ≡ None)
    → refusal_at ports op.Establish set line stream n ≡ None
establish_free ports set line stream n none =
    none_told (is_hosted line) (λ p. if program_exchange op.Establish p == n then ports.refusal p set else None) line
    stream refl (λ p l s told. if_none (program_exchange op.Establish p == n) (ports.refusal p set)
    (λ is. none p l s told (true-same (program_exchange op.Establish p) n is)))

-- ---- the two operations, by the state of the stream

pub stop_ends : (q : StreamStage) (next : ℕ) (ports : PortView) (line stream : ℕ)
    → stop_on q next ports line stream None ≡ v.Stopped line stream
stop_ends Idle next ports line stream = ended ports line stream (work_of op.Stop Idle next) (λ n le. refl)
stop_ends (Establishing j m) next ports line stream =
    ended ports line stream (work_of op.Stop (Establishing j m) next) (λ n le. refl)
stop_ends (Up k j) next ports line stream = ended ports line stream (work_of op.Stop (Up k j) next) (λ n le. refl)
stop_ends (Refreshing k j m) next ports line stream =
    ended ports line stream (work_of op.Stop (Refreshing k j m) next) (λ n le. refl)
stop_ends (Stopping m) next ports line stream =
    ended ports line stream (work_of op.Stop (Stopping m) next) (λ n le. refl)

off_takes : (sends : Bool) (ks : Keys) (set : Bool) → draw_of_keyed (key_in ks set) ≡ None
    → refuses sends ks set ≡ false
off_takes sends ks set none = grind arith

-- of a stream that has no keys each place takes one
idle_free : (plan : KeyPlan) (h : History) → KeyCauseLaw plan h → (line stream : ℕ) → op_of h line stream ≡ Idle
    → (p : KeyPlace) → p.line ≡ line → p.stream ≡ stream → (ports_at h).refusal p false ≡ None
idle_free plan h cause line stream idle p l s =
    let at : op_of h p.line p.stream ≡ Idle = (λ i. op_of h (l i) (s i)) ∙ idle in
    ap refusal_if (off_takes p.sends (place_keys h p) false ((keys_follow_operations plan h cause).idle p at false))

-- of a stream that is being established each place whose KEY_PROG was not acknowledged does
again_free : (plan : KeyPlan) (h : History) → KeyCauseLaw plan h → (line stream j first : ℕ)
    → op_of h line stream ≡ Establishing j first → (p : KeyPlace) → p.line ≡ line → p.stream ≡ stream
    → is_local p ≡ false → first ≤ program_exchange op.Establish p → (ports_at h).refusal p false ≡ None
again_free plan h cause line stream j first is p l s told le =
    let at = in_state plan h cause p (Establishing j first) ((λ i. op_of h (l i) (s i)) ∙ is) in
    let numbers = exchanges_establish p in
    let order = numbers.in_order in
    let reach = numbers.in_reach in
    ap refusal_if (establish_takes p (moments h p) j first false
    (record { carried = last_at p op.Establish + 1; acknowledged = last_at p op.Establish + 1 })
    (establish_goes_on p (moments h p) (draws h) j first at) (from_told p j first told le)
    (omega (arith, order, reach)))
  where
    from_told : (p : KeyPlace) (j first : ℕ) → is_local p ≡ false → first ≤ program_exchange op.Establish p
        → from_at (new_work op.Establish false j first false) p ≤ program_exchange op.Establish p
    from_told p j first told le = grind arith

pub establish_ends : (plan : KeyPlan) (h : History) → KeyCauseLaw plan h → (line stream : ℕ)
    → op_of h line stream ≡ Idle → draws h < plan.pool
    → establish_on plan (op_of h line stream) (draws h) (ports_at h) line stream None
    ≡ v.Established line stream (draws h)
establish_ends plan h cause line stream idle left =
    rw (idle, lt-true (draws h) plan.pool left)
    (ended (ports_at h) line stream (work_of op.Establish Idle (draws h))
    (λ n le. establish_free (ports_at h) false line stream n
    (λ p l s told at. idle_free plan h cause line stream idle p l s)))

pub establish_goes_to_end : (plan : KeyPlan) (h : History) → KeyCauseLaw plan h → (line stream j first : ℕ)
    → op_of h line stream ≡ Establishing j first
    → establish_on plan (op_of h line stream) (draws h) (ports_at h) line stream None ≡ v.Established line stream j
establish_goes_to_end plan h cause line stream j first is =
    rw is (ended (ports_at h) line stream (work_of op.Establish (Establishing j first) (draws h))
    (λ n le. establish_free (ports_at h) false line stream n
    (λ p l s told at. again_free plan h cause line stream j first is p l s told (omega (arith, at, le)))))
