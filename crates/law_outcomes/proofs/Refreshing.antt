-- A refresh of which nothing is lost, and whose keys no device refuses.
use Rattle.spec_keys.proofs.Terms.{◌≡◌, ℕ, ◌<◌, ◌≤◌, Bool, true, false, None, List, refl, ap, sym, subst, ◌∙◌}
use Rattle.spec_keys.proofs.Terms.{arith, nat_tests, not, SubKind, Pr, Npr, Cpl, Side, Host, Touch, Keys, KeyPlan}
use Rattle.spec_keys.proofs.Terms.{KeyPlace, History, KeyCauseLaw, PortView, refuses, slot_of, is_live_draw, new_work}
use Rattle.spec_keys.proofs.Terms.{work_of, Up, Refreshing, op_of, draws, moments, place_keys, ports_at, refusal_at}
use Rattle.spec_keys.proofs.Terms.{refusal_if, refresh_on, program_exchange, is_local, is_hosted, history_status}
use Rattle.spec_keys.proofs.Terms.{from_at, if◌then◌else◌, ◌==◌}
use Rattle.spec_keys.proofs.Shapes.{Marks, marks, Shape, keys_of, Sound}
use Rattle.spec_keys.proofs.Stages.{Rising}
use Rattle.spec_keys.proofs.Fits.{place, refresh_begins, refresh_goes_on}
use Rattle.spec_keys.proofs.Tests.{lt-true, true-same}
use Rattle.spec_keys.specs.History.{history_slot}
use Rattle.law_keys.proofs.States.{in_state}
use Rattle.law_outcomes.proofs.Keying.{ended, if_none, none_told}
use Rattle.event_verdicts.specs.declared.verdict.Operation.TheVariants as op
use Rattle.event_verdicts.specs.declared.verdict.Verdict.TheVariants as v
use Rattle.ide_types.specs.declared.status.StreamStatus.TheVariants as status

-- a sender takes a key in a set that is not Live
sender_takes : (ks : Keys) (set : Bool) → is_live_draw (slot_of true ks set) ≡ false → refuses true ks set ≡ false
sender_takes ks set dead = grind (arith, nat_tests)

-- a receiver takes the key of a newer draw
receiver_takes : (k : Bool) (j a b n : ℕ) (u : Marks) (sh : Shape) (ts : List Touch) → n ≤ a → Sound false ts sh
    → Rising true k j a b n u sh → refuses false (keys_of sh) k ≡ false
receiver_takes k j a b n u sh ts le sound rising = grind (arith, nat_tests)

from_first : (p : KeyPlace) (k : Bool) (j n : ℕ) (begins : Bool) → is_local p ≡ false
    → from_at (new_work op.Refresh k j n begins) p ≡ n
from_first p k j n begins told = grind arith

begin_free : (plan : KeyPlan) (h : History) → KeyCauseLaw plan h → (side : Side) (line stream : ℕ) (sends : Bool)
    (u : SubKind) (set : Bool) (j : ℕ) → op_of h line stream ≡ Up set j
    → is_local (place side line stream sends u) ≡ false
    → is_live_draw (history_slot h (place side line stream true u) (not set)) ≡ false
    → 1 ≤ program_exchange op.Refresh (place side line stream sends u)
    → (ports_at h).refusal (place side line stream sends u) (not set) ≡ None
begin_free plan h cause side line stream true u set j up told dead le =
    ap refusal_if (sender_takes (place_keys h (place side line stream true u)) (not set) dead)
begin_free plan h cause side line stream false u set j up told dead le =
    let p = place side line stream false u in
    let at = refresh_begins p (moments h p) (draws h) set j (in_state plan h cause p (Up set j) up) in
    let first = from_first p (not set) (draws h) 1 true told in
    let free : refuses false (place_keys h p) (not set) ≡ false =
    rw at.is.are (receiver_takes (not set) (draws h) _ _ _ (marks (moments h p)) at.shape (moments h p)
    (omega (arith, first, le)) at.is.sound at.fits) in
    ap refusal_if free

-- a place whose KEY_PROG was not acknowledged, if it sends, has no Live key in the set
abbrev pub IsFree : History → Bool → ℕ → Side → SubKind → (line stream : ℕ) → Type 0
IsFree h set first side u line stream =
    first ≤ program_exchange op.Refresh (place side line stream true u)
    → is_live_draw (history_slot h (place side line stream true u) set) ≡ false

again_free : (plan : KeyPlan) (h : History) → KeyCauseLaw plan h → (side : Side) (line stream : ℕ) (sends : Bool)
    (u : SubKind) (set : Bool) (j n : ℕ) → op_of h line stream ≡ Refreshing set j n
    → is_local (place side line stream sends u) ≡ false → IsFree h set n side u line stream
    → n ≤ program_exchange op.Refresh (place side line stream sends u)
    → (ports_at h).refusal (place side line stream sends u) set ≡ None
again_free plan h cause side line stream true u set j n up told dead le =
    ap refusal_if (sender_takes (place_keys h (place side line stream true u)) set (dead le))
again_free plan h cause side line stream false u set j n up told dead le =
    let p = place side line stream false u in
    let at = refresh_goes_on p (moments h p) (draws h) set j n (in_state plan h cause p (Refreshing set j n) up) in
    let first = from_first p set j n false told in
    let free : refuses false (place_keys h p) set ≡ false =
    rw at.is.are (receiver_takes set j _ _ _ (marks (moments h p)) at.shape (moments h p)
    (omega (arith, first, le)) at.is.sound at.fits) in
    ap refusal_if free

-- ---- the operation

refresh_free : (ports : PortView) (set : Bool) (line stream n : ℕ)
    → ((p : KeyPlace) → p.line ≡ line → p.stream ≡ stream → is_local p ≡ false → program_exchange op.Refresh p ≡ n
    → ports.refusal p set ≡ None)
    → refusal_at ports op.Refresh set line stream n ≡ None
refresh_free ports set line stream n none =
    none_told (is_hosted line) (λ p. if program_exchange op.Refresh p == n then ports.refusal p set else None) line
    stream refl (λ p l s told. if_none (program_exchange op.Refresh p == n) (ports.refusal p set)
    (λ is. none p l s told (true-same (program_exchange op.Refresh p) n is)))

pub refresh_begun : (plan : KeyPlan) (h : History) → KeyCauseLaw plan h → (line stream : ℕ) (set : Bool) (j : ℕ)
    → op_of h line stream ≡ Up set j → draws h < plan.pool
    → history_status h Host line stream ≡ status.Secure
    → ((side : Side) (u : SubKind)
    → is_live_draw (history_slot h (place side line stream true u) (not set)) ≡ false)
    → refresh_on plan (op_of h line stream) (draws h) (ports_at h) (history_status h Host line stream) line stream None
    ≡ v.Refreshed line stream (draws h)
refresh_begun plan h cause line stream set j up left secure dead =
    rw (up, secure, dead Host Pr, dead Host Npr, dead Host Cpl, lt-true (draws h) plan.pool left)
    (ended (ports_at h) line stream (work_of op.Refresh (Up set j) (draws h))
    (λ n le. refresh_free (ports_at h) (not set) line stream n (λ p l s told at. begin_free plan h cause p.side p.line
    p.stream p.sends p.sub set j ((λ i. op_of h (l i) (s i)) ∙ up) told
    ((λ i. is_live_draw (history_slot h (place p.side (l i) (s i) true p.sub) (not set))) ∙ dead p.side p.sub)
    (omega (arith, at, le)))))

pub refresh_goes_to_end : (plan : KeyPlan) (h : History) → KeyCauseLaw plan h → (line stream : ℕ) (set : Bool)
    (j first : ℕ) → op_of h line stream ≡ Refreshing set j first
    → ((side : Side) (u : SubKind) → IsFree h set first side u line stream)
    → refresh_on plan (op_of h line stream) (draws h) (ports_at h) (history_status h Host line stream) line stream None
    ≡ v.Refreshed line stream j
refresh_goes_to_end plan h cause line stream set j first up dead =
    rw up (ended (ports_at h) line stream (work_of op.Refresh (Refreshing set j first) (draws h))
    (λ n le. refresh_free (ports_at h) set line stream n (λ p l s told at. again_free plan h cause p.side p.line
    p.stream p.sends p.sub set j first ((λ i. op_of h (l i) (s i)) ∙ up) told
    (subst (λ (a : ℕ). IsFree h set first p.side p.sub a p.stream) (sym l)
    (subst (λ (b : ℕ). IsFree h set first p.side p.sub line b) (sym s) (dead p.side p.sub)))
    (omega (arith, at, le)))))
