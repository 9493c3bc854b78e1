-- What is kept of the interfaces of one link stands together in the list of all interfaces, as the sites of a plan
-- stand link by link (`on_link_is`). An interface that changes there changes at its place on its link
-- (`on_link_set`).
use Rattle.std.proofs.Common.{◌≡◌, ℕ, ◌+◌, ◌-◌, ◌<◌, ◌≤◌, ◌==◌, ◌∷◌, ◌++◌, zero, suc, true, false, List, [], length}
use Rattle.std.proofs.Common.{refl, sym, ap, ◌∙◌, arith, None, ⊎_elim, ◌⊎◌}
use Rattle.std.proofs.lemmas.Bool.{eq-eqb, ne_eqb}
use Rattle.std.proofs.lemmas.Option.{none-some, same_Some}
use Rattle.std.proofs.lemmas.List.{drop-set-lt, take-set-le, drop-set-add, length-set}
use Rattle.std.proofs.Math.Seq.{take-set-lt}
use Rattle.std.specs.Prelude.{drop, take, slice_get, slice_set}
use Rattle.ide_types.specs.declared.interface.InterfacePlan.{InterfacePlan}
use Rattle.ide_types.specs.declared.plan.LinkPlan.{LinkPlan}
use Rattle.ide_types.specs.declared.plan.Plan.{Plan}
use Rattle.spec_interfaces.specs.Floors.{interfaces_before}
use Rattle.spec_interfaces.specs.Sites.{Site, sites_of_plans, sites_of_links}
unfoldable use Rattle.spec_interfaces.specs.Sites.{sites}
use Rattle.spec_interfaces.proofs.Floors.{planned_on}
use Rattle.join_world.specs.Accesses.{on_link}

-- ---- lists

-- lists with the same items are the same
pub list_same : {A : Type 0} (xs ys : List A) → ((k : ℕ) → slice_get xs k ≡ slice_get ys k) → xs ≡ ys
list_same [] [] same = refl
list_same [] (y ∷ ys) same = absurd (none-some y (same 0))
list_same (x ∷ xs) [] same = absurd (none-some x (sym (same 0)))
list_same (x ∷ xs) (y ∷ ys) same = λ i. same_Some x y (same 0) i ∷ list_same xs ys (λ k. same (suc k)) i

pub get_drop : {A : Type 0} (n : ℕ) (xs : List A) (k : ℕ) → slice_get (drop n xs) k ≡ slice_get xs (n + k)
get_drop zero xs k = let same : k ≡ 0 + k = omega arith in ap (slice_get xs) same
get_drop (suc n) [] k = refl
get_drop (suc n) (x ∷ xs) k =
    let next : suc (n + k) ≡ suc n + k = omega arith in get_drop n xs k ∙ ap (slice_get (x ∷ xs)) next

pub get_take : {A : Type 0} (n : ℕ) (xs : List A) (k : ℕ) → k < n → slice_get (take n xs) k ≡ slice_get xs k
get_take zero xs k lt = absurd (omega (arith, lt))
get_take (suc n) [] k lt = refl
get_take (suc n) (x ∷ xs) zero lt = refl
get_take (suc n) (x ∷ xs) (suc k) lt = get_take n xs k (omega (arith, lt))

pub get_past : {A : Type 0} (n : ℕ) (xs : List A) (k : ℕ) → n ≤ k → slice_get (take n xs) k ≡ None
get_past zero xs k le = refl
get_past (suc n) [] k le = refl
get_past (suc n) (x ∷ xs) zero le = absurd (omega (arith, le))
get_past (suc n) (x ∷ xs) (suc k) le = get_past n xs k (omega (arith, le))

-- ---- the interfaces of a link

on_other : {A : Type 0} (number l link : ℕ) (ps : List InterfacePlan) (rest : List Site) (ys : List A)
    → (l == link) ≡ false → length ps ≤ length ys
    → on_link link (sites_of_plans number l ps ++ rest) ys ≡ on_link link rest (drop (length ps) ys)
on_other number l link [] rest ys other le = refl
on_other number l link (p ∷ ps) rest [] other le = absurd (omega (arith, le))
on_other number l link (p ∷ ps) rest (y ∷ ys) other le =
    rw other (on_other (number + 1) l link ps rest ys other (omega (arith, le)))

on_mine : {A : Type 0} (number link : ℕ) (ps : List InterfacePlan) (rest : List Site) (ys : List A)
    → (link == link) ≡ true → length ps ≤ length ys → on_link link (sites_of_plans number link ps ++ rest) ys
    ≡ take (length ps) ys ++ on_link link rest (drop (length ps) ys)
on_mine number link [] rest ys mine le = refl
on_mine number link (p ∷ ps) rest [] mine le = absurd (omega (arith, le))
on_mine number link (p ∷ ps) rest (y ∷ ys) mine le =
    rw mine (ap (λ zs. y ∷ zs) (on_mine (number + 1) link ps rest ys mine (omega (arith, le))))

abbrev laid_in_all : List LinkPlan → ℕ
laid_in_all [] = 0
laid_in_all (l ∷ ls) = length l.interfaces + laid_in_all ls

length_drop : {A : Type 0} (n : ℕ) (xs : List A) → length (drop n xs) ≡ length xs - n
length_drop zero xs = omega arith
length_drop (suc n) [] = omega arith
length_drop (suc n) (x ∷ xs) = length_drop n xs ∙ omega arith

-- of later links nothing is on it
none_later : {A : Type 0} (number l link : ℕ) (ls : List LinkPlan) (ys : List A) → link < l
    → laid_in_all ls ≤ length ys → on_link link (sites_of_links number l ls) ys ≡ []
none_later number l link [] ys less le = refl
none_later number l link (x ∷ ls) ys less le =
    on_other number l link x.interfaces (sites_of_links (number + length x.interfaces) (l + 1) ls) ys
    (ne_eqb l link (λ e. absurd (omega (arith, less, e)))) (omega (arith, le))
    ∙ none_later (number + length x.interfaces) (l + 1) link ls (drop (length x.interfaces) ys) (omega (arith, less))
    (omega (arith, le, length_drop (length x.interfaces) ys))

append_none : {A : Type 0} (xs : List A) → xs ++ [] ≡ xs
append_none [] = refl
append_none (x ∷ xs) = ap (λ ys. x ∷ ys) (append_none xs)

drop_none : {A : Type 0} (n : ℕ) → drop {A = A} n [] ≡ []
drop_none zero = refl
drop_none (suc n) = refl

drop_drop : {A : Type 0} (m n : ℕ) (xs : List A) → drop n (drop m xs) ≡ drop (m + n) xs
drop_drop zero n xs = let same : n ≡ 0 + n = omega arith in ap (λ (k : ℕ). drop k xs) same
drop_drop (suc m) n [] = drop_none n ∙ sym (drop_none (suc m + n))
drop_drop (suc m) n (x ∷ xs) =
    let next : suc (m + n) ≡ suc m + n = omega arith in drop_drop m n xs ∙ ap (λ (k : ℕ). drop k (x ∷ xs)) next

from_link : {A : Type 0} (number l on : ℕ) (ls : List LinkPlan) (ys : List A) → laid_in_all ls ≤ length ys
    → on_link (l + on) (sites_of_links number l ls) ys
    ≡ take (length (planned_on ls on)) (drop (interfaces_before ls on) ys)
from_link number l on [] ys le = refl
from_link number l zero (x ∷ ls) ys le =
    let here : l + 0 ≡ l = omega arith in
    ap (λ (k : ℕ). on_link k (sites_of_links number l (x ∷ ls)) ys) here
    ∙ (on_mine number l x.interfaces (sites_of_links (number + length x.interfaces) (l + 1) ls) ys
    (eq-eqb l l refl) (omega (arith, le))
    ∙ (ap (λ zs. take (length x.interfaces) ys ++ zs)
    (none_later (number + length x.interfaces) (l + 1) l ls (drop (length x.interfaces) ys) (omega arith)
    (omega (arith, le, length_drop (length x.interfaces) ys)))
    ∙ append_none (take (length x.interfaces) ys)))
from_link number l (suc on) (x ∷ ls) ys le =
    let there : l + suc on ≡ (l + 1) + on = omega arith in
    ap (λ (k : ℕ). on_link k (sites_of_links number l (x ∷ ls)) ys) there
    ∙ (on_other number l ((l + 1) + on) x.interfaces (sites_of_links (number + length x.interfaces) (l + 1) ls) ys
    (ne_eqb l ((l + 1) + on) (λ e. absurd (omega (arith, e)))) (omega (arith, le))
    ∙ (from_link (number + length x.interfaces) (l + 1) on ls (drop (length x.interfaces) ys)
    (omega (arith, le, length_drop (length x.interfaces) ys))
    ∙ ap (take (length (planned_on ls on))) (drop_drop (length x.interfaces) (interfaces_before ls on) ys)))

sites_all : (number l : ℕ) (ls : List LinkPlan) → length (sites_of_links number l ls) ≡ laid_in_all ls
sites_all number l [] = refl
sites_all number l (x ∷ ls) =
    many number x.interfaces
    ∙ ap (λ (n : ℕ). length x.interfaces + n) (sites_all (number + length x.interfaces) (l + 1) ls)
  where
    many : (n : ℕ) (ps : List InterfacePlan)
        → length (sites_of_plans n l ps ++ sites_of_links (number + length x.interfaces) (l + 1) ls)
        ≡ length ps + length (sites_of_links (number + length x.interfaces) (l + 1) ls)
    many n [] = omega arith
    many n (p ∷ ps) = omega (arith, many (n + 1) ps)

pub on_link_is : {A : Type 0} (plan : Plan) (link : ℕ) (ys : List A) → length ys ≡ length (sites plan)
    → on_link link (sites plan) ys
    ≡ take (length (planned_on plan.links link)) (drop (interfaces_before plan.links link) ys)
unfolding sites
on_link_is plan link ys many =
    let same : link ≡ 0 + link = omega arith in
    ap (λ (k : ℕ). on_link k (sites_of_links 0 0 plan.links) ys) same
    ∙ from_link 0 0 link plan.links ys (omega (arith, many, sites_all 0 0 plan.links))

-- the k-th of a link
pub on_link_at : {A : Type 0} (plan : Plan) (link k : ℕ) (ys : List A) → length ys ≡ length (sites plan)
    → k < length (planned_on plan.links link)
    → slice_get (on_link link (sites plan) ys) k ≡ slice_get ys (interfaces_before plan.links link + k)
on_link_at plan link k ys many lt =
    ap (λ zs. slice_get zs k) (on_link_is plan link ys many)
    ∙ (get_take (length (planned_on plan.links link)) (drop (interfaces_before plan.links link) ys) k lt
    ∙ get_drop (interfaces_before plan.links link) ys k)

pub on_link_past : {A : Type 0} (plan : Plan) (link k : ℕ) (ys : List A) → length ys ≡ length (sites plan)
    → length (planned_on plan.links link) ≤ k → slice_get (on_link link (sites plan) ys) k ≡ None
on_link_past plan link k ys many le = ap (λ zs. slice_get zs k) (on_link_is plan link ys many)
    ∙ get_past (length (planned_on plan.links link)) (drop (interfaces_before plan.links link) ys) k le

-- ---- one is changed

pub on_link_set : {A : Type 0} (plan : Plan) (link place : ℕ) (ys : List A) (y : A) → length ys ≡ length (sites plan)
    → place < length (planned_on plan.links link) → on_link link (sites plan)
    (slice_set ys (interfaces_before plan.links link + place) y) ≡ slice_set (on_link link (sites plan) ys) place y
on_link_set plan link place ys y many lt =
    let b = interfaces_before plan.links link in
    let n = length (planned_on plan.links link) in
    on_link_is plan link (slice_set ys (b + place) y) (length-set ys (b + place) y ∙ many)
    ∙ (ap (take n) (drop-set-add b ys place y)
    ∙ (take-set-lt n (drop b ys) place y lt ∙ ap (λ zs. slice_set zs place y) (sym (on_link_is plan link ys many))))

-- of another link
pub on_link_other : {A : Type 0} (plan : Plan) (link i : ℕ) (ys : List A) (y : A) → length ys ≡ length (sites plan)
    → (i < interfaces_before plan.links link)
    ⊎ (interfaces_before plan.links link + length (planned_on plan.links link) ≤ i)
    → on_link link (sites plan) (slice_set ys i y) ≡ on_link link (sites plan) ys
on_link_other plan link i ys y many outside =
    let b = interfaces_before plan.links link in
    let n = length (planned_on plan.links link) in
    on_link_is plan link (slice_set ys i y) (length-set ys i y ∙ many)
    ∙ (⊎_elim (λ lt. ap (take n) (drop-set-lt b ys i y lt))
    (λ le.
    let behind : i ≡ b + (i - b) = omega (arith, le) in
    ap (λ (k : ℕ). take n (drop b (slice_set ys k y))) behind
    ∙ (ap (take n) (drop-set-add b ys (i - b) y) ∙ take-set-le n (drop b ys) (i - b) y (omega (arith, le)))) outside
    ∙ sym (on_link_is plan link ys many))
