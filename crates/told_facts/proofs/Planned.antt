-- An interface of a number, as it is laid out.
use Rattle.std.proofs.Common.{◌≡◌, ℕ, suc, zero, ◌+◌, ◌-◌, ◌<◌, ◌≤◌, List, [], ◌∷◌, ◌++◌, length, refl, sym, ap, ◌∙◌}
use Rattle.std.proofs.Common.{arith, Bool, Some, true, false, ⊎_elim, drop, if◌then◌else◌}
use Rattle.std.proofs.lemmas.Bool.{cases_lt, le-ltb, lt-ltb}
use Rattle.std.proofs.lemmas.List.{drop_more}
use Rattle.std.proofs.lemmas.Option.{none-some, same_Some}
use Rattle.std.specs.List.{slice_index_or}
use Rattle.std.specs.Prelude.{nat_lt, slice_get}
use Rattle.ide_types.specs.declared.interface.InterfacePlan.{InterfacePlan}
use Rattle.ide_types.specs.declared.plan.LinkPlan.{LinkPlan}
use Rattle.ide_types.specs.declared.plan.Plan.{Plan}
use Rattle.spec_interfaces.specs.Sites.{Site, sites_of_links, sites_of_plans}
unfoldable use Rattle.spec_interfaces.specs.Sites.{sites}
use Rattle.told_facts.specs.Exchanges.{interface_planned}

ahead : {A : Type 0} (xs ys : List A) (i : ℕ) → i < length xs → slice_get (xs ++ ys) i ≡ slice_get xs i
ahead [] ys i lt = absurd (omega (arith, lt))
ahead (x ∷ xs) ys zero lt = refl
ahead (x ∷ xs) ys (suc i) lt = ahead xs ys i (omega (arith, lt))

behind : {A : Type 0} (xs ys : List A) (i k : ℕ) → i ≡ length xs + k → slice_get (xs ++ ys) i ≡ slice_get ys k
behind [] ys i k is = ap (slice_get ys) (omega (arith, is))
behind (x ∷ xs) ys zero k is = absurd (omega (arith, is))
behind (x ∷ xs) ys (suc i) k is = behind xs ys i k (omega (arith, is))

many : (number link : ℕ) (ps : List InterfacePlan) → length (sites_of_plans number link ps) ≡ length ps
many number link [] = refl
many number link (p ∷ ps) = ap suc (many (number + 1) link ps)

-- on one link
on_link : (number link : ℕ) (ps : List InterfacePlan) (i : ℕ) (x : Site)
    → slice_get (sites_of_plans number link ps) i ≡ Some x → slice_get ps i ≡ Some x.plan
on_link number link [] i x is = absurd (none-some x is)
on_link number link (p ∷ ps) zero x is =
    ap (λ (y : Site). Some y.plan) (same_Some (record { number = number; link = link; plan = p }) x is)
on_link number link (p ∷ ps) (suc i) x is = on_link (number + 1) link ps i x is

on_links : (number link : ℕ) (ls : List LinkPlan) (i : ℕ) (x : Site)
    → slice_get (sites_of_links number link ls) i ≡ Some x → interface_planned ls i ≡ Some x.plan
on_links number link [] i x is = absurd (none-some x is)
on_links number link (l ∷ ls) i x is = ⊎_elim here
    (λ le. later le (on_links (number + length l.interfaces) (link + 1) ls (i - length l.interfaces) x (past le)))
    (cases_lt i (length l.interfaces))
  where
    here : i < length l.interfaces → interface_planned (l ∷ ls) i ≡ Some x.plan
    here lt =
        let within : nat_lt i (length l.interfaces) ≡ true = lt-ltb i (length l.interfaces) lt in
        rw within (on_link number link l.interfaces i x
        (sym (ahead (sites_of_plans number link l.interfaces)
        (sites_of_links (number + length l.interfaces) (link + 1) ls) i
        (omega (arith, lt, many number link l.interfaces)))
        ∙ is))

    past : length l.interfaces ≤ i
        → slice_get (sites_of_links (number + length l.interfaces) (link + 1) ls) (i - length l.interfaces) ≡ Some x
    past le =
        sym (behind (sites_of_plans number link l.interfaces)
        (sites_of_links (number + length l.interfaces) (link + 1) ls) i (i - length l.interfaces)
        (omega (arith, le, many number link l.interfaces)))
        ∙ is

    later : length l.interfaces ≤ i → interface_planned ls (i - length l.interfaces) ≡ Some x.plan
        → interface_planned (l ∷ ls) i ≡ Some x.plan
    later le found =
        let beyond : nat_lt i (length l.interfaces) ≡ false = le-ltb i (length l.interfaces) le in
        rw beyond found

pub planned : (plan : Plan) (i : ℕ) (x : Site) → slice_get (sites plan) i ≡ Some x
    → interface_planned plan.links i ≡ Some x.plan
unfolding sites
planned plan i x is = on_links 0 0 plan.links i x is

-- on the link at a place
pub planned_here : (ls : List LinkPlan) (k i : ℕ) (l : LinkPlan) → k < length ls → l ≡ slice_index_or ls k l
    → i < length l.interfaces → interface_planned (drop k ls) i ≡ slice_get l.interfaces i
planned_here ls k i l lt is within =
    let inside : nat_lt i (length l.interfaces) ≡ true = lt-ltb i (length l.interfaces) within in
    ap (λ (xs : List LinkPlan). interface_planned xs i)
    (drop_more ls k l lt ∙ ap (λ (z : LinkPlan). z ∷ drop (k + 1) ls) (sym is))
    ∙ ap (λ (b : Bool). if b then slice_get l.interfaces i
    else interface_planned (drop (k + 1) ls) (i - length l.interfaces)) inside
