-- Device interfaces by number. The sites of a plan stand link by link, so that a site's number is its place in their
-- list, and counts the interfaces on earlier links and the earlier ones on its own (`site_planned`). What is looked for
-- among sites, with what is kept of them, is the first that passes the test (`face_first`).
use Rattle.std.proofs.Common.{◌≡◌, ℕ, suc, zero, ◌+◌, ◌-◌, ◌<◌, ◌≤◌, ◌==◌, Bool, true, false, List, [], ◌∷◌, ◌++◌}
use Rattle.std.proofs.Common.{length, refl, sym, ap, ◌∙◌, subst, arith, Some, None, inl, inr, ◌⊎◌, ⊎_elim}
use Rattle.std.proofs.lemmas.Bool.{cases_lt, cases_order, cases_Bool, eq-eqb, ne_eqb, lt-ltb, le-ltb}
use Rattle.std.proofs.lemmas.List.{length-append}
use Rattle.std.proofs.lemmas.List.Sums.{position_or_len_is, sum_by-cons}
use Rattle.std.proofs.lemmas.Option.{none-some, same_Some, slice_get_within, slice_get-get_or, get_or_from_slice_get}
use Rattle.std.specs.List.{position, position_or_len, slice_index_or}
use Rattle.std.specs.Prelude.{All, AllPairs, slice_get, nat_lt, if◌then◌else◌, sum_by}
use Rattle.ide_types.specs.Fits.{FitsInterface, FitsLink, FitsPlan}
use Rattle.ide_types.proofs.Limits.{few_interfaces}
use Rattle.ide_types.specs.declared.interface.InterfacePlan.{InterfacePlan}
use Rattle.ide_types.specs.declared.plan.LinkPlan.{LinkPlan}
use Rattle.ide_types.specs.declared.plan.Plan.{Plan}
use Rattle.spec_interfaces.specs.Floors.{interfaces_before}
use Rattle.spec_interfaces.specs.Sites.{Site, sites_of_plans, sites_of_links}
unfoldable use Rattle.spec_interfaces.specs.Sites.{sites}
use Rattle.machine_whole.specs.Interfaces.{Face, find_face}

-- ---- lists

pub get_there : {A : Type 0} (xs : List A) (i : ℕ) → i < length xs → (x : A) × (slice_get xs i ≡ Some x)
get_there [] i lt = absurd (omega (arith, lt))
get_there (x ∷ xs) zero lt = (x, refl)
get_there (x ∷ xs) (suc i) lt = get_there xs i (omega (arith, lt))

get_ahead : {A : Type 0} (xs ys : List A) (i : ℕ) → i < length xs → slice_get (xs ++ ys) i ≡ slice_get xs i
get_ahead [] ys i lt = absurd (omega (arith, lt))
get_ahead (x ∷ xs) ys zero lt = refl
get_ahead (x ∷ xs) ys (suc i) lt = get_ahead xs ys i (omega (arith, lt))

get_behind : {A : Type 0} (xs ys : List A) (i k : ℕ) → i ≡ length xs + k → slice_get (xs ++ ys) i ≡ slice_get ys k
get_behind [] ys i k is = ap (slice_get ys) (omega (arith, is))
get_behind (x ∷ xs) ys zero k is = absurd (omega (arith, is))
get_behind (x ∷ xs) ys (suc i) k is = get_behind xs ys i k (omega (arith, is))

pub all_at : {A : Type 0} (P : A → Type 0) (xs : List A) (i : ℕ) (x : A) → All P xs → slice_get xs i ≡ Some x → P x
all_at P xs i x all is = subst P (get_or_from_slice_get xs i x x is) (all i x (slice_get_within xs i x is))

pub pair_at : {A : Type 0} (R : A → A → Type 0) (xs : List A) (i j : ℕ) (x y : A) → AllPairs R xs → i < j
    → slice_get xs i ≡ Some x → slice_get xs j ≡ Some y → R x y
pair_at R xs i j x y all lt first second =
    subst (λ z. R z y) (get_or_from_slice_get xs i x x first)
    (subst (λ z. R (slice_index_or xs i x) z) (get_or_from_slice_get xs j y x second)
    (all i j x lt (slice_get_within xs j y second)))

-- the first place that passes, and none
pub position_at : {A : Type 0} (p : A → Bool) (xs : List A) (i : ℕ) (x : A) → slice_get xs i ≡ Some x → p x ≡ true
    → ((k : ℕ) (y : A) → k < i → slice_get xs k ≡ Some y → p y ≡ false) → position p xs ≡ Some i
position_at p xs i x is passes before =
    let within = slice_get_within xs i x is in
    let first : position_or_len p xs ≡ i =
    position_or_len_is p xs i x (omega (arith, within))
    (λ k lt. before k (slice_index_or xs k x) lt (slice_get-get_or xs k x (omega (arith, lt, within))))
    (λ lt. ap p (get_or_from_slice_get xs i x x is) ∙ passes) in
    ap (λ (n : ℕ). if nat_lt n (length xs) then Some n else None) first
    ∙ rw (lt-ltb i (length xs) within) refl

pub position_none : {A : Type 0} (p : A → Bool) (xs : List A)
    → ((k : ℕ) (y : A) → slice_get xs k ≡ Some y → p y ≡ false) → position p xs ≡ None
position_none p [] fails = refl
position_none p (x ∷ xs) fails =
    let last : position_or_len p (x ∷ xs) ≡ length (x ∷ xs) =
    position_or_len_is p (x ∷ xs) (length (x ∷ xs)) x (omega arith)
    (λ k lt. fails k (slice_index_or (x ∷ xs) k x) (slice_get-get_or (x ∷ xs) k x lt))
    (λ lt. absurd (omega (arith, lt))) in
    ap (λ (n : ℕ). if nat_lt n (length (x ∷ xs)) then Some n else None) last
    ∙ rw (le-ltb (length (x ∷ xs)) (length (x ∷ xs)) (omega arith)) refl

-- ---- the sites of one link

record IsOn (number link i : ℕ) (ps : List InterfacePlan) (x : Site) : Type 0 where
  number_is : x.number ≡ number + i
  link_is : x.link ≡ link
  plan_is : slice_get ps i ≡ Some x.plan

on_read : (number link : ℕ) (ps : List InterfacePlan) (i : ℕ) (x : Site)
    → slice_get (sites_of_plans number link ps) i ≡ Some x → IsOn number link i ps x
on_read number link [] i x is = absurd (none-some x is)
on_read number link (p ∷ ps) zero x is =
    let same = same_Some (record { number = number; link = link; plan = p }) x is in record {
      number_is = omega (arith, ap (λ (y : Site). y.number) same);
      link_is = ap (λ (y : Site). y.link) (sym same);
      plan_is = ap (λ (y : Site). Some y.plan) same;
    }
on_read number link (p ∷ ps) (suc i) x is =
    let r = on_read (number + 1) link ps i x is in
    record { number_is = omega (arith, r.number_is); link_is = r.link_is; plan_is = r.plan_is }

on_many : (number link : ℕ) (ps : List InterfacePlan) → length (sites_of_plans number link ps) ≡ length ps
on_many number link [] = refl
on_many number link (p ∷ ps) = ap suc (on_many (number + 1) link ps)

-- ---- the sites of all links

record IsFrom (number link i : ℕ) (ls : List LinkPlan) (x : Site) : Type 0 where
  number_is : x.number ≡ number + i
  on : ℕ
  link_is : x.link ≡ link + on
  laid_out : LinkPlan
  links_are : slice_get ls on ≡ Some laid_out
  place : ℕ
  plan_is : slice_get laid_out.interfaces place ≡ Some x.plan
  place_is : i ≡ interfaces_before ls on + place

from_read : (number link : ℕ) (ls : List LinkPlan) (i : ℕ) (x : Site)
    → slice_get (sites_of_links number link ls) i ≡ Some x → IsFrom number link i ls x
from_read number link [] i x is = absurd (none-some x is)
from_read number link (l ∷ ls) i x is =
    ⊎_elim here (λ le. later le (from_read (number + length l.interfaces) (link + 1) ls (i - length l.interfaces) x
    (behind le))) (cases_lt i (length l.interfaces))
  where
    here : i < length l.interfaces → IsFrom number link i (l ∷ ls) x
    here lt =
        let r = on_read number link l.interfaces i x
        (sym (get_ahead (sites_of_plans number link l.interfaces) _ i
        (omega (arith, lt, on_many number link l.interfaces)))
        ∙ is) in record {
          number_is = r.number_is;
          on = 0;
          link_is = omega (arith, r.link_is);
          laid_out = l;
          links_are = refl;
          place = i;
          plan_is = r.plan_is;
          place_is = omega arith;
        }

    behind : length l.interfaces ≤ i
        → slice_get (sites_of_links (number + length l.interfaces) (link + 1) ls) (i - length l.interfaces) ≡ Some x
    behind le =
        sym (get_behind (sites_of_plans number link l.interfaces) _ i (i - length l.interfaces)
        (omega (arith, le, on_many number link l.interfaces))) ∙ is

    later : length l.interfaces ≤ i → IsFrom (number + length l.interfaces) (link + 1) (i - length l.interfaces) ls x
        → IsFrom number link i (l ∷ ls) x
    later le r = record {
      number_is = omega (arith, r.number_is, le);
      on = suc r.on;
      link_is = omega (arith, r.link_is);
      laid_out = r.laid_out;
      links_are = r.links_are;
      place = r.place;
      plan_is = r.plan_is;
      place_is = omega (arith, r.place_is, le);
    }

from_many : (number link : ℕ) (ls : List LinkPlan) → length (sites_of_links number link ls)
    ≡ sum_by (λ l. length l.interfaces) ls
from_many number link [] = refl
from_many number link (l ∷ ls) =
    length-append (sites_of_plans number link l.interfaces)
    (sites_of_links (number + length l.interfaces) (link + 1) ls)
    ∙ (λ i. on_many number link l.interfaces i + from_many (number + length l.interfaces) (link + 1) ls i)
    ∙ sym (sum_by-cons (λ (k : LinkPlan). length k.interfaces) l ls)

-- ---- the sites of a plan

-- a site by its number: its link, its place there, and that it is within the bounds
pub record IsPlanned (plan : Plan) (i : ℕ) (x : Site) : Type 0 where
  pub number_is : x.number ≡ i
  pub laid_out : LinkPlan
  pub links_are : slice_get plan.links x.link ≡ Some laid_out
  pub place : ℕ
  pub plan_is : slice_get laid_out.interfaces place ≡ Some x.plan
  pub place_is : i ≡ interfaces_before plan.links x.link + place
  pub fits : FitsLink laid_out
  pub interface_fits : FitsInterface laid_out.streams x.plan

pub site_numbered : (plan : Plan) (i : ℕ) (x : Site) → slice_get (sites plan) i ≡ Some x → x.number ≡ i
unfolding sites
site_numbered plan i x is = let r = from_read 0 0 plan.links i x is in omega (arith, r.number_is)

pub site_planned : (plan : Plan) (i : ℕ) (x : Site) → FitsPlan plan → slice_get (sites plan) i ≡ Some x
    → IsPlanned plan i x
unfolding sites
site_planned plan i x fits is =
    let r = from_read 0 0 plan.links i x is in
    let on : r.on ≡ x.link = omega (arith, r.link_is) in
    let links_are = ap (slice_get plan.links) (sym on) ∙ r.links_are in
    let fitting = all_at FitsLink plan.links x.link r.laid_out fits.each_link links_are in
    record {
      number_is = omega (arith, r.number_is);
      laid_out = r.laid_out;
      links_are = links_are;
      place = r.place;
      plan_is = r.plan_is;
      place_is = r.place_is ∙ ap (λ n. interfaces_before plan.links n + r.place) on;
      fits = fitting;
      interface_fits =
          all_at (FitsInterface r.laid_out.streams) r.laid_out.interfaces r.place x.plan fitting.each_interface
          r.plan_is;
    }

pub sites_many : (plan : Plan) → length (sites plan) ≡ sum_by (λ l. length l.interfaces) plan.links
unfolding sites
sites_many plan = from_many 0 0 plan.links

pub sites_few : (plan : Plan) → FitsPlan plan → length (sites plan) ≤ 64
sites_few plan fits = omega (arith, sites_many plan, few_interfaces plan fits)

-- ---- two sites

requesters_apart : (ps : List InterfacePlan) (i j : ℕ) (p q : InterfacePlan)
    → AllPairs (λ i j. i.requester ≡ j.requester → ⊥) ps → slice_get ps i ≡ Some p → slice_get ps j ≡ Some q
    → p.requester ≡ q.requester → i ≡ j
requesters_apart ps i j p q apart first second same =
    let R : InterfacePlan → InterfacePlan → Type 0 = λ a b. a.requester ≡ b.requester → ⊥ in
    ⊎_elim (λ is. is)
    (⊎_elim (λ lt. absurd (pair_at R ps i j p q apart lt first second same))
    (λ gt. absurd (pair_at R ps j i q p apart gt second first (sym same))))
    (cases_order i j)

-- the requesters of a link differ
pub site_apart : (plan : Plan) (i j : ℕ) (x y : Site) → FitsPlan plan → slice_get (sites plan) i ≡ Some x
    → slice_get (sites plan) j ≡ Some y → x.link ≡ y.link → x.plan.requester ≡ y.plan.requester → i ≡ j
site_apart plan i j x y fits first second link requester =
    let a = site_planned plan i x fits first in
    let b = site_planned plan j y fits second in
    let layouts : b.laid_out ≡ a.laid_out =
    same_Some b.laid_out a.laid_out (sym b.links_are ∙ ap (slice_get plan.links) (sym link) ∙ a.links_are) in
    let there : slice_get a.laid_out.interfaces b.place ≡ Some y.plan =
    ap (λ (l : LinkPlan). slice_get l.interfaces b.place) (sym layouts) ∙ b.plan_is in
    let place = requesters_apart a.laid_out.interfaces a.place b.place x.plan y.plan a.fits.requesters_differ a.plan_is
    there requester in
    omega (arith, a.place_is, b.place_is, place, ap (interfaces_before plan.links) link)

-- ---- what is looked for

pub face_first : (test : Site → Bool) (xs : List Site) (fs : List Face) (i : ℕ) (x : Site) (f : Face)
    → slice_get xs i ≡ Some x → slice_get fs i ≡ Some f → test x ≡ true
    → ((k : ℕ) (y : Site) → k < i → slice_get xs k ≡ Some y → test y ≡ false) → find_face test xs fs ≡ Some (x, f)
face_first test [] fs i x f is kept passes before = absurd (none-some x is)
face_first test (y ∷ xs) [] i x f is kept passes before = absurd (none-some f kept)
face_first test (y ∷ xs) (g ∷ fs) zero x f is kept passes before =
    let here : test y ≡ true = ap test (same_Some y x is) ∙ passes in
    rw here (λ j. Some (same_Some y x is j, same_Some g f kept j))
face_first test (y ∷ xs) (g ∷ fs) (suc i) x f is kept passes before =
    let here : test y ≡ false = before 0 y (omega arith) refl in
    rw here (face_first test xs fs i x f is kept passes (λ k z lt at. before (suc k) z (omega (arith, lt)) at))

pub face_nowhere : (test : Site → Bool) (xs : List Site) (fs : List Face)
    → ((k : ℕ) (y : Site) → slice_get xs k ≡ Some y → test y ≡ false) → find_face test xs fs ≡ None
face_nowhere test [] fs fails = refl
face_nowhere test (y ∷ xs) [] fails = refl
face_nowhere test (y ∷ xs) (g ∷ fs) fails =
    let here : test y ≡ false = fails 0 y refl in
    rw here (face_nowhere test xs fs (λ k z at. fails (suc k) z at))

-- by number
pub face_found : (plan : Plan) (fs : List Face) (i : ℕ) (x : Site) (f : Face) → slice_get (sites plan) i ≡ Some x
    → slice_get fs i ≡ Some f → find_face (λ y. y.number == i) (sites plan) fs ≡ Some (x, f)
face_found plan fs i x f is kept =
    face_first (λ y. y.number == i) (sites plan) fs i x f is kept (eq-eqb x.number i (site_numbered plan i x is))
    (λ k y lt at. ne_eqb y.number i (λ same. absurd (omega (arith, lt, same, site_numbered plan k y at))))

pub face_absent : (plan : Plan) (fs : List Face) (i : ℕ) → length (sites plan) ≤ i
    → find_face (λ y. y.number == i) (sites plan) fs ≡ None
face_absent plan fs i le =
    face_nowhere (λ y. y.number == i) (sites plan) fs
    (λ k y at. ne_eqb y.number i
    (λ same. absurd (omega (arith, le, same, site_numbered plan k y at, slice_get_within (sites plan) k y at))))

-- ---- a site that passes a test, or none does

pub record IsSomeSite (test : Site → Bool) (xs : List Site) : Type 0 where
  pub place : ℕ
  pub site : Site
  pub site_is : slice_get xs place ≡ Some site
  pub passes : test site ≡ true

pub site_or_none : (test : Site → Bool) (xs : List Site)
    → IsSomeSite test xs ⊎ ((k : ℕ) (y : Site) → slice_get xs k ≡ Some y → test y ≡ false)
site_or_none test [] = inr (λ k y at. absurd (none-some y at))
site_or_none test (x ∷ xs) = ⊎_elim here (λ is_not. later is_not (site_or_none test xs)) (cases_Bool (test x))
  where
    here : test x ≡ true
        → IsSomeSite test (x ∷ xs) ⊎ ((k : ℕ) (y : Site) → slice_get (x ∷ xs) k ≡ Some y → test y ≡ false)
    here is = inl (record { place = 0; site = x; site_is = refl; passes = is })

    fails : test x ≡ false → ((k : ℕ) (y : Site) → slice_get xs k ≡ Some y → test y ≡ false) → (k : ℕ) (y : Site)
        → slice_get (x ∷ xs) k ≡ Some y → test y ≡ false
    fails is_not none zero y at = ap test (sym (same_Some x y at)) ∙ is_not
    fails is_not none (suc k) y at = none k y at

    later : test x ≡ false → IsSomeSite test xs ⊎ ((k : ℕ) (y : Site) → slice_get xs k ≡ Some y → test y ≡ false)
        → IsSomeSite test (x ∷ xs) ⊎ ((k : ℕ) (y : Site) → slice_get (x ∷ xs) k ≡ Some y → test y ≡ false)
    later is_not (inl r) = inl (record { place = suc r.place; site = r.site; site_is = r.site_is; passes = r.passes })
    later is_not (inr none) = inr (fails is_not none)
