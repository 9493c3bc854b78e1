-- What a sound topology says of each interface; so the stream that it is bound to is one of its link, and what is
-- admitted or queued for it came on the link.
use Rattle.law_sealing.proofs.Terms.{◌≡◌, ℕ, ◌+◌, ◌==◌, ◌&&◌, suc, Bool, true, false, List, [], ◌∷◌, ◌++◌, length}
use Rattle.law_sealing.proofs.Terms.{Option, Some, refl, ap, subst, ◌∙◌, arith, if◌then◌else◌, All, AllByRecursion}
use Rattle.law_sealing.proofs.Terms.{Plan}
use Rattle.std.specs.Prelude.{find, filter, slice_get, AllPairs, ◌||◌}
use Rattle.std.proofs.Common.{◌≢◌, zero, sym, inl, inr}
use Rattle.std.proofs.lemmas.Bool.{cases_Bool}
use Rattle.std.proofs.lemmas.Bool.Decides.{nat_tests}
use Rattle.std.proofs.lemmas.Option.{get_or_from_slice_get, slice_get_within}
use Rattle.spec_links.proofs.Tests.{eqb-refl}
use Rattle.spec_interfaces.specs.Floors.{interfaces_before, site_on}
use Rattle.spec_interfaces.proofs.Floors.{planned_on, sites_of_is}
use Rattle.ide_types.specs.declared.stream.StreamPlan.{StreamPlan}
use Rattle.ide_types.specs.declared.interface.InterfacePlan.{InterfacePlan}
use Rattle.ide_types.specs.declared.plan.LinkPlan.{LinkPlan}
use Rattle.ide_types.specs.Plans.{has_selective, has_stream_id, is_selective}
use Rattle.ide_types.specs.Fits.{FitsPlan, FitsLink, FitsInterface}
use Rattle.ide_types.specs.Ends.{own_has_id}
use Rattle.spec_interfaces.specs.Sites.{Site, site_of_requester, sites_of_plans, sites_of_links}
unfoldable use Rattle.spec_interfaces.specs.Sites.{sites}

-- ---- what fits of each interface

-- its link is one of the plan, with whose streams it fits
pub record IsPlanned (links : List LinkPlan) (x : Site) : Type 0 where
  pub link : LinkPlan
  pub at : slice_get links x.link ≡ Some link
  pub fits : FitsInterface link.streams x.plan

all_behind : {A : Type 0} (P : A → Type 0) (xs ys : List A) → AllByRecursion P xs → AllByRecursion P ys
    → AllByRecursion P (xs ++ ys)
all_behind P [] ys one two = two
all_behind P (x ∷ xs) ys one two = (one.0, all_behind P xs ys one.1 two)

on_one : (links : List LinkPlan) (l : LinkPlan) (number link : ℕ) (ps : List InterfacePlan) → slice_get links link
    ≡ Some l → All (FitsInterface l.streams) ps → AllByRecursion (IsPlanned links) (sites_of_plans number link ps)
on_one links l number link [] at each = tt
on_one links l number link (p ∷ ps) at each = (
  record { link = l; at = at; fits = each 0 p (omega arith) },
  on_one links l (number + 1) link ps at (λ k d lt. each (suc k) d (omega arith)),
)

on_all : (links : List LinkPlan) (ls : List LinkPlan) (number link : ℕ)
    → ((i : ℕ) (l : LinkPlan) → slice_get ls i ≡ Some l → slice_get links (link + i) ≡ Some l) → All FitsLink ls
    → AllByRecursion (IsPlanned links) (sites_of_links number link ls)
on_all links [] number link at each = tt
on_all links (l ∷ ls) number link at each =
    all_behind (IsPlanned links) (sites_of_plans number link l.interfaces) _
    (on_one links l number link l.interfaces (first (at 0 l refl)) (each 0 l (omega arith)).each_interface)
    (on_all links ls (number + length l.interfaces) (link + 1) (λ i k is. next i k (at (suc i) k is))
    (λ k d lt. each (suc k) d (omega arith)))
  where
    first : slice_get links (link + 0) ≡ Some l → slice_get links link ≡ Some l
    first is = let e : link + 0 ≡ link = omega arith in subst (λ (n : ℕ). slice_get links n ≡ Some l) e is

    next : (i : ℕ) (k : LinkPlan) → slice_get links (link + suc i) ≡ Some k → slice_get links (link + 1 + i) ≡ Some k
    next i k is = let e : link + suc i ≡ link + 1 + i = omega arith in
        subst (λ (n : ℕ). slice_get links n ≡ Some k) e is

found_all : {A : Type 0} (P : A → Type 0) (test : A → Bool) (xs : List A) (x : A) → AllByRecursion P xs
    → find test xs ≡ Some x → P x
found_all P test [] x all is = absurd cc
found_all P test (y ∷ ys) x all is = by (test y) is (found_all P test ys x all.1)
  where
    by : (b : Bool) → (if b then Some y else find test ys) ≡ Some x → (find test ys ≡ Some x → P x) → P x
    by true is more = let same : y ≡ x = cc (is) in subst P same all.0
    by false is more = more is

pub found_planned : (plan : Plan) → FitsPlan plan → (test : Site → Bool) (x : Site) → find test (sites plan) ≡ Some x
    → IsPlanned plan.links x
unfolding sites
found_planned plan fits test x is =
    found_all (IsPlanned plan.links) test (sites plan) x
    (on_all plan.links plan.links 0 0 (λ j l at. at_same j l at) fits.each_link) is
  where
    at_same : (j : ℕ) (l : LinkPlan) → slice_get plan.links j ≡ Some l → slice_get plan.links (0 + j) ≡ Some l
    at_same j l at = let e : j ≡ 0 + j = omega arith in subst (λ (n : ℕ). slice_get plan.links n ≡ Some l) e at

-- ---- its stream

own_selective : (id : ℕ) (ss : List StreamPlan) → has_selective id ss ≡ true → has_stream_id ss id ≡ true
own_selective id [] is = absurd cc
own_selective id (s ∷ ss) is = by (is_selective s.selector) (s.id == id) (has_selective id ss) (own_selective id ss) is
  where
    by : (a b c : Bool) → (c ≡ true → has_stream_id ss id ≡ true) → ((a && b) || c) ≡ true
        → (b || has_stream_id ss id) ≡ true
    by a true c more is = refl
    by true false c more is = more is
    by false false c more is = more is

pub own_stream : (plan : Plan) → FitsPlan plan → (link requester : ℕ) (x : Site)
    → site_of_requester plan link requester ≡ Some x → own_has_id (slice_get plan.links x.link) x.plan.stream ≡ true
own_stream plan fits link requester x is =
    let own = found_planned plan fits (λ y. (y.link == link) && (y.plan.requester == requester)) x is in
    ap (λ (o : Option LinkPlan). own_has_id o x.plan.stream) own.at
    ∙ own_selective x.plan.stream own.link.streams own.fits.stream

-- ---- the one with a requester ID

find_both : {A : Type 0} (p q : A → Bool) (xs : List A) → find (λ x. p x && q x) xs ≡ find q (filter p xs)
find_both p q [] = refl
find_both p q (x ∷ xs) = elim (cases_Bool (p x)) [
  | inl is ↦ rw is (ap (λ o. if q x then Some x else o) (find_both p q xs))
  | inr is ↦ rw is (find_both p q xs)
]

plan_at : (number link : ℕ) (ps : List InterfacePlan) (k : ℕ) (x : Site)
    → slice_get (sites_of_plans number link ps) k ≡ Some x → slice_get ps k ≡ Some x.plan
plan_at number link [] k x is = absurd cc
plan_at number link (p ∷ ps) zero x is =
    let same : record { number = number; link = link; plan = p } ≡ x = cc (is) in ap (λ (y : Site). Some y.plan) same
plan_at number link (p ∷ ps) (suc k) x is = plan_at (number + 1) link ps k x is

abbrev RequestersDiffer : List InterfacePlan → Type 0
RequestersDiffer ps = AllPairs (λ i j. i.requester ≢ j.requester) ps

other_number : (m n : ℕ) → m ≢ n → (m == n) ≡ false
other_number m n other = grind (arith, nat_tests, other)

first_with : (number link : ℕ) (ps : List InterfacePlan) → RequestersDiffer ps → (k : ℕ) (x : Site)
    → slice_get (sites_of_plans number link ps) k ≡ Some x
    → find (λ y. y.plan.requester == x.plan.requester) (sites_of_plans number link ps) ≡ Some x
first_with number link [] differ k x is = absurd cc
first_with number link (p ∷ ps) differ zero x is =
    let same : record { number = number; link = link; plan = p } ≡ x = cc (is) in
    let here : (p.requester == x.plan.requester) ≡ true =
    subst (λ (y : Site). (p.requester == y.plan.requester) ≡ true) same (eqb-refl p.requester) in
    rw here (ap Some same)
first_with number link (p ∷ ps) differ (suc k) x is =
    let at = plan_at (number + 1) link ps k x is in
    let other = subst (λ (q : InterfacePlan). p.requester ≢ q.requester) (get_or_from_slice_get ps k x.plan p at)
    (differ 0 (suc k) p (omega arith) (omega (arith, slice_get_within ps k x.plan at))) in
    rw (other_number p.requester x.plan.requester other)
    (first_with (number + 1) link ps (λ i j d less within. differ (suc i) (suc j) d (omega arith) (omega arith)) k x is)

planned_apart : (ls : List LinkPlan) → All FitsLink ls → (link : ℕ) → RequestersDiffer (planned_on ls link)
planned_apart [] each link = λ i j d less within. absurd (omega (arith, within))
planned_apart (l ∷ ls) each zero = (each 0 l (omega arith)).requesters_differ
planned_apart (l ∷ ls) each (suc link) = planned_apart ls (λ k d less. each (suc k) d (omega arith)) link

pub requested : (plan : Plan) → FitsPlan plan → (link place : ℕ) (x : Site) → site_on plan link place ≡ Some x
    → site_of_requester plan link x.plan.requester ≡ Some x
requested plan fits link place x is =
    let there = ap (λ (xs : List Site). slice_get xs place) (sym (sites_of_is plan link)) ∙ is in
    find_both (λ (y : Site). y.link == link) (λ (y : Site). y.plan.requester == x.plan.requester) (sites plan)
    ∙ ap (find (λ (y : Site). y.plan.requester == x.plan.requester)) (sites_of_is plan link)
    ∙ first_with (interfaces_before plan.links link) link (planned_on plan.links link)
    (planned_apart plan.links fits.each_link link) place x there
