-- A byte of a guarded range changes only by an admitted write.
use Rattle.std.proofs.Common.{◌≡◌, ℕ, Bool, true, false, cond, not, ◌&&◌, eqb, ltb, leb, List, Option, Some, None}
use Rattle.std.proofs.Common.{unwrap_or, is_some, refl, sym, ap, ◌∙◌, subst, inl, inr, arith}
use Rattle.std.specs.Prelude.{slice_get}
use Rattle.std.specs.Option.{option_map_or}
use Rattle.std.proofs.lemmas.Bool.{and_parts, cases_Bool, eqb-true, true≢false}
use Rattle.std.proofs.lemmas.Bool.Decides.{nat_tests}
use Rattle.ide_types.specs.declared.interface.BarPlan.{BarPlan}
use Rattle.interface_state.specs.Bindings.{floor_on}
use Rattle.trusted_memory.specs.Spans.{crosses}
use Rattle.trusted_memory.specs.Writes.{Write}
use Rattle.guarded_memory.specs.declared.status.InterfaceState.{InterfaceState}
use Rattle.guarded_memory.specs.declared.status.InterfaceState.TheVariants as state
use Rattle.guarded_memory.specs.declared.status.InterfaceStatus.{InterfaceStatus}
use Rattle.guarded_memory.specs.declared.claims.Claim.{Claim}
use Rattle.event_verdicts.specs.declared.verdict.BlockCause.{BlockCause}
use Rattle.event_verdicts.specs.declared.verdict.BlockCause.TheVariants as cause
use Rattle.guarded_memory.specs.Statuses.{is_open_range, has_open_range, is_config_unlocked, is_in_run}
use Rattle.guarded_memory.specs.Statuses.{is_locked_or_run}
use Rattle.guarded_memory.specs.Claims.{claim_of}
use Rattle.guarded_memory.specs.Causes.{floor_cause, access_cause, mmio_cause}
use Rattle.guarded_memory.specs.Happenings.{contents_if_happened}
use Rattle.guarded_memory.specs.Stored.{stored_unless, stored_by_claim}
use Rattle.guarded_memory.specs.Laws.{is_guarded, is_from_floor, is_admitted, GuardedBytesStay}
use Rattle.guarded_memory.proofs.Claimed.{IsClaimed, claimed}

none_is_not : (c : BlockCause) → Some c ≡ None → ⊥
none_is_not c e = true≢false (ap (λ (o : Option BlockCause). is_some o) e)

-- ---- what blocks nothing

not_crossing : (t : Bool) (o : Option BlockCause) → cond t (Some cause.Crosses) o ≡ None → o ≡ None
not_crossing true o e = absurd (none_is_not cause.Crosses e)
not_crossing false o e = e

running : (t : Bool) (o : Option BlockCause) → cond t o (Some cause.NotRunning) ≡ None → (t ≡ true) × (o ≡ None)
running true o e = (refl, e)
running false o e = absurd (none_is_not cause.NotRunning e)

not_stale : (less le : Bool) → le ≡ not less → cond less (Some cause.Stale) None ≡ None → le ≡ true
not_stale true le is e = absurd (none_is_not cause.Stale e)
not_stale false le is e = is

le_not_less : (m n : ℕ) → leb m n ≡ not (ltb n m)
le_not_less m n = grind (arith, nat_tests)

from_floor : (o : Option ℕ) (draw : ℕ) → floor_cause o draw ≡ None → is_from_floor o draw ≡ true
from_floor None draw e = absurd (none_is_not cause.WrongStream e)
from_floor (Some floor) draw e = not_stale (ltb draw floor) (leb floor draw) (le_not_less floor draw) e

not_unlocked : (s : InterfaceState) → is_locked_or_run s ≡ true → is_config_unlocked s ≡ false
not_unlocked state.ConfigUnlocked e = absurd (true≢false (sym e))
not_unlocked state.ConfigLocked e = refl
not_unlocked state.Run e = refl
not_unlocked state.Error e = refl

accessed : (x : InterfaceStatus) (range : BarPlan) (t : Bool) (stream draw : ℕ) → is_locked_or_run x.state ≡ true
    → is_open_range range ≡ false → access_cause x range t stream draw ≡ None → is_admitted x t stream draw ≡ true
accessed x range true stream draw held shut e =
    let r = running (is_in_run x.state) (floor_cause (floor_on stream x.bound) draw) e in
    rw (r.0, from_floor (floor_on stream x.bound) draw r.1) refl
accessed x range false stream draw held shut e =
    absurd (none_is_not cause.NotTrusted (rw (shut, not_unlocked x.state held) at e))

-- ---- the claim

opened : (o : Option BarPlan) (range : BarPlan) → o ≡ Some range → option_map_or is_open_range o false
    ≡ is_open_range range
opened o range e = ap (λ (p : Option BarPlan). option_map_or is_open_range p false) e

is_false : (p : Bool) → not p ≡ true → p ≡ false
is_false true e = absurd (true≢false (sym e))
is_false false e = refl

not_guarded : (xs : List InterfaceStatus) (w : Write) (c : Claim) (t : Bool) (stream draw i b : ℕ) (x : InterfaceStatus)
    → IsClaimed xs w.span c → mmio_cause c.status c.range w.span t stream draw ≡ None
    → (eqb c.interface i && eqb c.bar b) ≡ true → slice_get xs i ≡ Some x → is_guarded x b ≡ true
    → is_admitted x t stream draw ≡ true
not_guarded xs w c t stream draw i b x is none placed there guarded =
    let places = and_parts (eqb c.interface i) (eqb c.bar b) placed in
    let interface = eqb-true c.interface i places.0 in
    let bar = eqb-true c.bar b places.1 in
    let same : c.status ≡ x =
    ap (λ (o : Option InterfaceStatus). unwrap_or o c.status)
    (sym is.interface ∙ ap (λ (k : ℕ). slice_get xs k) interface ∙ there) in
    let parts = and_parts (is_locked_or_run x.state) (not (has_open_range x.bars b)) guarded in
    let held : is_locked_or_run c.status.state ≡ true = ap (λ (y : InterfaceStatus). is_locked_or_run y.state) same ∙
    parts.0
    in
    let shut_there : has_open_range c.status.bars c.bar ≡ false =
    (λ k. has_open_range (same k).bars (bar k)) ∙ is_false (has_open_range x.bars b) parts.1 in
    let shut : is_open_range c.range ≡ false =
    sym (opened (slice_get c.status.bars c.bar) c.range is.bar) ∙ shut_there in
    let access = not_crossing (crosses w.span) (access_cause c.status c.range t stream draw) none in
    subst (λ (y : InterfaceStatus). is_admitted y t stream draw ≡ true) same
    (accessed c.status c.range t stream draw held shut access)

by_cause : (xs : List InterfaceStatus) (w : Write) (c : Claim) (t : Bool) (stream draw : ℕ) (old : ℕ → ℕ → ℕ → ℕ)
    (i b a : ℕ) (x : InterfaceStatus) (o : Option BlockCause)
    → IsClaimed xs w.span c → mmio_cause c.status c.range w.span t stream draw ≡ o
    → slice_get xs i ≡ Some x → is_guarded x b ≡ true → is_admitted x t stream draw ≡ false
    → contents_if_happened (stored_unless o c w) old i b a ≡ old i b a
by_cause xs w c t stream draw old i b a x (Some y) is blocked there guarded other = refl
by_cause xs w c t stream draw old i b a x None is none there guarded other =
    elim (cases_Bool (eqb c.interface i && eqb c.bar b)) [
      | inl e ↦
          absurd (true≢false (sym (not_guarded xs w c t stream draw i b x is none e there guarded) ∙ other))
      | inr e ↦ rw e refl
    ]

by_claim : (xs : List InterfaceStatus) (w : Write) (t : Bool) (stream draw : ℕ) (old : ℕ → ℕ → ℕ → ℕ)
    (i b a : ℕ) (x : InterfaceStatus) (o : Option Claim) → claim_of xs w.span ≡ o
    → slice_get xs i ≡ Some x → is_guarded x b ≡ true → is_admitted x t stream draw ≡ false
    → contents_if_happened (stored_by_claim o w t stream draw) old i b a ≡ old i b a
by_claim xs w t stream draw old i b a x None is there guarded other = refl
by_claim xs w t stream draw old i b a x (Some c) is there guarded other = by_cause xs w c t stream draw old i b a x
    (mmio_cause c.status c.range w.span t stream draw) (claimed xs w.span c is) refl there guarded other

pub stays : GuardedBytesStay
stays xs t stream draw None old i b a x there guarded other = refl
stays xs t stream draw (Some w) old i b a x there guarded other =
    by_claim xs w t stream draw old i b a x (claim_of xs w.span) refl there guarded other
