-- The interfaces of a link by their places.
use Rattle.std.proofs.Common.{◌≡◌, ◌≢◌, ℕ, ◌+◌, ◌-◌, ◌<◌, ◌==◌, ◌∷◌, ◌++◌, zero, suc, Bool, true, false, List, [], Some}
use Rattle.std.proofs.Common.{None, length, refl, sym, ap, ◌∙◌, arith, inl, inr}
use Rattle.std.specs.Prelude.{find, filter, slice_get}
use Rattle.std.specs.Option.{option_map}
use Rattle.std.proofs.lemmas.Bool.{cases_Bool, eqb-true}
use Rattle.std.proofs.lemmas.Bool.Decides.{nat_tests}
use Rattle.std.proofs.lemmas.Option.{slice_get-map}
use Rattle.spec_interfaces.specs.Terms.{Plan, LinkPlan, InterfacePlan, History}
use Rattle.spec_interfaces.specs.Sites.{Site, sites_of_plans, sites_of_links, site_at}
unfoldable use Rattle.spec_interfaces.specs.Sites.{sites}
use Rattle.spec_interfaces.specs.Floors.{link_sites, interfaces_before, place_of, device_status, history_statuses}

some_is : {A : Type 0} (x y : A) → Some x ≡ Some y → x ≡ y
some_is x y is = cc

none_is_not : {A : Type 0} (x : A) → None ≡ Some x → ⊥
none_is_not x is = absurd cc

-- ---- lists

-- what a find gives is an element that passes the test
pub record IsFound {A : Type 0} (test : A → Bool) (xs : List A) (x : A) : Type 0 where
  pub place : ℕ
  pub stands : slice_get xs place ≡ Some x
  pub passes : test x ≡ true

pub found : {A : Type 0} (test : A → Bool) (xs : List A) (x : A) → find test xs ≡ Some x → IsFound test xs x
found test [] x is = absurd (none_is_not x is)
found test (y ∷ ys) x is =
    elim (cases_Bool (test y)) [
      | inl passes ↦
          let same = some_is y x (rw passes at is) in
          record { place = 0; stands = ap Some same; passes = ap test (sym same) ∙ passes }
      | inr fails ↦
          let later = found test ys x (rw fails at is) in
          record { place = suc later.place; stands = later.stands; passes = later.passes }
    ]

-- an element that passes is among those that do
record IsKept {A : Type 0} (test : A → Bool) (xs : List A) (x : A) : Type 0 where
  place : ℕ
  stands : slice_get (filter test xs) place ≡ Some x

kept : {A : Type 0} (test : A → Bool) (xs : List A) (x : A) (n : ℕ) → slice_get xs n ≡ Some x → test x ≡ true
    → IsKept test xs x
kept test [] x n is passes = absurd (none_is_not x is)
kept test (y ∷ ys) x zero is passes =
    let same = some_is y x is in
    let first : test y ≡ true = ap test same ∙ passes in
    record { place = 0; stands = rw first (ap Some same) }
kept test (y ∷ ys) x (suc n) is passes =
    let later = kept test ys x n is passes in
    elim (cases_Bool (test y)) [
      | inl first ↦ record { place = suc later.place; stands = rw first later.stands }
      | inr first ↦ record { place = later.place; stands = rw first later.stands }
    ]

filter-append : {A : Type 0} (test : A → Bool) (xs ys : List A) → filter test (xs ++ ys)
    ≡ filter test xs ++ filter test ys
filter-append test [] ys = refl
filter-append test (x ∷ xs) ys =
    elim (cases_Bool (test x)) [
      | inl is ↦ rw is (ap (λ zs. x ∷ zs) (filter-append test xs ys))
      | inr is ↦ rw is (filter-append test xs ys)
    ]

append-none : {A : Type 0} (xs : List A) → xs ++ [] ≡ xs
append-none [] = refl
append-none (x ∷ xs) = ap (λ zs. x ∷ zs) (append-none xs)

-- ---- the interfaces of a link

abbrev is_on : ℕ → Site → Bool
is_on link y = y.link == link

same_link : (link : ℕ) → (link == link) ≡ true
same_link link = grind (arith, nat_tests)

other_link : (l link : ℕ) → l ≢ link → (l == link) ≡ false
other_link l link other = grind (arith, nat_tests, other)

all_on : (number link : ℕ) (ps : List InterfacePlan) → filter (is_on link) (sites_of_plans number link ps)
    ≡ sites_of_plans number link ps
all_on number link [] = refl
all_on number link (p ∷ ps) = rw (same_link link)
    (ap (λ xs. record { number = number; link = link; plan = p } ∷ xs) (all_on (number + 1) link ps))

none_on : (number l link : ℕ) (ps : List InterfacePlan) → l ≢ link → filter (is_on link) (sites_of_plans number l ps)
    ≡ []
none_on number l link [] other = refl
none_on number l link (p ∷ ps) other = rw (other_link l link other) (none_on (number + 1) l link ps other)

none_from : (number l link : ℕ) (ls : List LinkPlan) → link < l → filter (is_on link) (sites_of_links number l ls) ≡ []
none_from number l link [] less = refl
none_from number l link (x ∷ xs) less =
    filter-append (is_on link) (sites_of_plans number l x.interfaces)
    (sites_of_links (number + length x.interfaces) (l + 1) xs)
    ∙ rw (none_on number l link x.interfaces (λ e. absurd (omega (arith, less, e))))
    (none_from (number + length x.interfaces) (l + 1) link xs (omega (arith, less)))

-- what is laid out on it
abbrev pub planned_on : List LinkPlan → ℕ → List InterfacePlan
planned_on [] link = []
planned_on (l ∷ ls) zero = l.interfaces
planned_on (l ∷ ls) (suc link) = planned_on ls link

of_from : (number l on : ℕ) (ls : List LinkPlan) → filter (is_on (l + on)) (sites_of_links number l ls)
    ≡ sites_of_plans (number + interfaces_before ls on) (l + on) (planned_on ls on)
of_from number l on [] = refl
of_from number l zero (x ∷ xs) =
    let e : l + 0 ≡ l = omega arith in
    let n : number + 0 ≡ number = omega arith in
    rw (e, n) (filter-append (is_on l) (sites_of_plans number l x.interfaces)
    (sites_of_links (number + length x.interfaces) (l + 1) xs)
    ∙ rw (all_on number l x.interfaces, none_from (number + length x.interfaces) (l + 1) l xs (omega arith))
    (append-none (sites_of_plans number l x.interfaces)))
of_from number l (suc on) (x ∷ xs) =
    let e : (l + 1) + on ≡ l + suc on = omega arith in
    let n : (number + length x.interfaces) + interfaces_before xs on
    ≡ number + (length x.interfaces + interfaces_before xs on) = omega arith in
    filter-append (is_on (l + suc on)) (sites_of_plans number l x.interfaces)
    (sites_of_links (number + length x.interfaces) (l + 1) xs)
    ∙ rw (none_on number l (l + suc on) x.interfaces (λ d. absurd (omega (arith, d))))
    (rw (e, n) at (of_from (number + length x.interfaces) (l + 1) on xs))

pub sites_of_is : (plan : Plan) (link : ℕ) → link_sites plan link
    ≡ sites_of_plans (interfaces_before plan.links link) link (planned_on plan.links link)
unfolding sites
sites_of_is plan link =
    let l : 0 + link ≡ link = omega arith in
    let n : 0 + interfaces_before plan.links link ≡ interfaces_before plan.links link = omega arith in
    rw (l, n) at (of_from 0 0 link plan.links)

-- ---- places

record IsAt (number link place : ℕ) (x : Site) : Type 0 where
  number_is : x.number ≡ number + place
  link_is : x.link ≡ link

at_place : (number link : ℕ) (ps : List InterfacePlan) (place : ℕ) (x : Site)
    → slice_get (sites_of_plans number link ps) place ≡ Some x → IsAt number link place x
at_place number link [] place x is = absurd (none_is_not x is)
at_place number link (p ∷ ps) zero x is =
    let same = some_is (record { number = number; link = link; plan = p }) x is in
    record {
      number_is = ap (λ (y : Site). y.number) (sym same) ∙ omega arith;
      link_is = ap (λ (y : Site). y.link) (sym same);
    }
at_place number link (p ∷ ps) (suc place) x is =
    let later = at_place (number + 1) link ps place x is in
    record { number_is = omega (arith, later.number_is); link_is = later.link_is }

-- the interface at a place of a link has that link, and its number is that of the place
pub record IsPlacedOn (plan : Plan) (link place : ℕ) (x : Site) : Type 0 where
  pub link_is : x.link ≡ link
  pub place_is : place_of plan x ≡ place
  pub number_is : x.number ≡ interfaces_before plan.links link + place

pub placed_on : (plan : Plan) (link place : ℕ) (x : Site) → slice_get (link_sites plan link) place ≡ Some x
    → IsPlacedOn plan link place x
placed_on plan link place x is =
    let at = at_place (interfaces_before plan.links link) link (planned_on plan.links link) place x
    (ap (λ (xs : List Site). slice_get xs place) (sym (sites_of_is plan link)) ∙ is) in
    record {
      link_is = at.link_is;
      place_is = ap (λ (l : ℕ). x.number - interfaces_before plan.links l) at.link_is ∙ omega (arith, at.number_is);
      number_is = at.number_is;
    }

pub number_at : (plan : Plan) (i : ℕ) (x : Site) → site_at plan i ≡ Some x → x.number ≡ i
number_at plan i x is = eqb-true x.number i (found (λ y. y.number == i) (sites plan) x is).passes

pub site_placed : (plan : Plan) (i : ℕ) (x : Site) → site_at plan i ≡ Some x
    → slice_get (link_sites plan x.link) (place_of plan x) ≡ Some x
site_placed plan i x is =
    let at = found (λ y. y.number == i) (sites plan) x is in
    let among = kept (is_on x.link) (sites plan) x at.place at.stands (same_link x.link) in
    ap (slice_get (link_sites plan x.link)) (placed_on plan x.link among.place x among.stands).place_is ∙ among.stands

-- two interfaces of a link have two places
pub places_apart : (plan : Plan) (i j : ℕ) (x y : Site) → site_at plan i ≡ Some x → site_at plan j ≡ Some y
    → x.link ≡ y.link → place_of plan x ≡ place_of plan y → i ≡ j
places_apart plan i j x y first second link place =
    let a = placed_on plan x.link (place_of plan x) x (site_placed plan i x first) in
    let b = placed_on plan y.link (place_of plan y) y (site_placed plan j y second) in
    let same : interfaces_before plan.links x.link ≡ interfaces_before plan.links y.link =
    ap (interfaces_before plan.links) link in
    omega (arith, number_at plan i x first, number_at plan j y second, a.number_is, b.number_is, same, place)

-- how it stands
pub standing_placed : (plan : Plan) (h : History) (i : ℕ) (x : Site) → site_at plan i ≡ Some x
    → slice_get (history_statuses plan h x.link) (place_of plan x) ≡ Some (device_status plan h x)
standing_placed plan h i x is = slice_get-map (device_status plan h) (link_sites plan x.link) (place_of plan x)
    ∙ ap (option_map (device_status plan h)) (site_placed plan i x is)
