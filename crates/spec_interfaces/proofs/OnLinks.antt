-- Interfaces are on links of the plan.
use Rattle.std.proofs.Common.{◌≡◌, ℕ, ◌+◌, ◌≤◌, ◌==◌, ◌&&◌, ◌∷◌, ◌++◌, Bool, true, false, List, [], length, Option}
use Rattle.std.proofs.Common.{Some, None, Result, Ok, Err, if◌then◌else◌, subst, arith}
use Rattle.std.proofs.lemmas.Bool.Decides.{nat_tests}
use Rattle.std.specs.Prelude.{find, nat_lt}
use Rattle.std.specs.Option.{option_and_then}
use Rattle.spec_interfaces.specs.Terms.{AllByRecursion, Plan}
use Rattle.ide_types.specs.declared.interface.InterfacePlan.{InterfacePlan}
use Rattle.ide_types.specs.declared.plan.LinkPlan.{LinkPlan}
use Rattle.spec_interfaces.specs.Sites.{Site, site_at, site_of_requester, sites_of_links, sites_of_plans}
unfoldable use Rattle.spec_interfaces.specs.Sites.{sites}
use Rattle.spec_interfaces.specs.Cause.{owner_id, owner_read}
use Rattle.tlp_layout.specs.declared.tlp.Tlp.{Tlp}
use Rattle.tlp_layout.specs.declared.fault.TlpFault.{TlpFault}
use Rattle.tlp_layout.specs.Tlp.{header}

abbrev IsBelow : ℕ → Site → Type 0
IsBelow n x = nat_lt x.link n ≡ true

all_behind : (n : ℕ) (xs ys : List Site) → AllByRecursion (IsBelow n) xs → AllByRecursion (IsBelow n) ys
    → AllByRecursion (IsBelow n) (xs ++ ys)
all_behind n [] ys one two = two
all_behind n (x ∷ xs) ys one two = (one.0, all_behind n xs ys one.1 two)

on_one : (n number link : ℕ) (ps : List InterfacePlan) → nat_lt link n ≡ true
    → AllByRecursion (IsBelow n) (sites_of_plans number link ps)
on_one n number link [] less = tt
on_one n number link (p ∷ ps) less = (less, on_one n (number + 1) link ps less)

on_all : (n number link : ℕ) (ls : List LinkPlan) → link + length ls ≤ n
    → AllByRecursion (IsBelow n) (sites_of_links number link ls)
on_all n number link [] le = tt
on_all n number link (l ∷ ls) le =
    let less : nat_lt link n ≡ true = grind (arith, nat_tests) in
    all_behind n (sites_of_plans number link l.interfaces) _ (on_one n number link l.interfaces less)
    (on_all n (number + length l.interfaces) (link + 1) ls (omega (arith, le)))

found_below : (n : ℕ) (test : Site → Bool) (xs : List Site) (x : Site) → AllByRecursion (IsBelow n) xs
    → find test xs ≡ Some x → nat_lt x.link n ≡ true
found_below n test [] x all is = absurd cc
found_below n test (y ∷ ys) x all is = by (test y) is (found_below n test ys x all.1)
  where
    by : (b : Bool) → (if b then Some y else find test ys) ≡ Some x
        → (find test ys ≡ Some x → nat_lt x.link n ≡ true) → nat_lt x.link n ≡ true
    by true is more = let same : y ≡ x = cc (is) in subst (IsBelow n) same all.0
    by false is more = more is

pub number_on_link : (plan : Plan) (x : Site) → site_at plan x.number ≡ Some x
    → nat_lt x.link (length plan.links) ≡ true
unfolding sites
number_on_link plan x known = found_below (length plan.links) (λ y. y.number == x.number) (sites plan) x
    (on_all (length plan.links) 0 0 plan.links (omega arith)) known

with_on_link : (plan : Plan) (link : ℕ) (o : Option ℕ) (x : Site)
    → option_and_then (site_of_requester plan link) o ≡ Some x → nat_lt x.link (length plan.links) ≡ true
unfolding sites
with_on_link plan link None x is = absurd cc
with_on_link plan link (Some rid) x is = found_below (length plan.links)
    (λ y. (y.link == link) && (y.plan.requester == rid)) (sites plan) x
    (on_all (length plan.links) 0 0 plan.links (omega arith)) is

-- the owner of a TLP is on a link
pub owner_on_link : (plan : Plan) (link : ℕ) (r : Result Tlp TlpFault) (x : Site) → owner_read plan link r ≡ Some x
    → nat_lt x.link (length plan.links) ≡ true
owner_on_link plan link (Ok t) x is = with_on_link plan link (owner_id (header t)) x is
owner_on_link plan link (Err f) x is = absurd cc
