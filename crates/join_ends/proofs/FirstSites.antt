-- Interface number `i` stands at the place of the same link at which the topology lists it, since the lists of sites,
-- of the manager and of the devices are made link by link in one order.
use Rattle.std.proofs.Common.{◌≡◌, ℕ, suc, zero, ◌+◌, ◌-◌, ◌<◌, ◌≤◌, List, [], ◌∷◌, ◌++◌, length, map, refl, ap, sym}
use Rattle.std.proofs.Common.{◌∙◌, arith, inl, inr, Some, Option, length-append}
use Rattle.std.specs.Prelude.{slice_get, nat_lt, if◌then◌else◌}
use Rattle.std.specs.List.{slice_index_or}
use Rattle.std.specs.Option.{option_map}
use Rattle.std.proofs.lemmas.List.{length-map}
use Rattle.std.proofs.lemmas.Bool.{cases_lt}
use Rattle.std.proofs.lemmas.Bool.Decides.{nat_tests}
use Rattle.std.proofs.lemmas.Option.{none-some, same_Some, slice_get-map}
use Rattle.ide_types.specs.declared.plan.LinkPlan.{LinkPlan}
use Rattle.ide_types.specs.declared.interface.InterfacePlan.{InterfacePlan}
use Rattle.spec_interfaces.specs.Sites.{Site, sites_of_plans, sites_of_links}
use Rattle.interface_state.specs.Machine.{new_device_interface}
use Rattle.interface_host.specs.Views.{new_interface}
use Rattle.interface_host.specs.Managers.{new_interfaces, interfaces_from}
use Rattle.all_ends.specs.{LinkEnds, new_ends}
use Rattle.all_ends.specs.Requester.{requester_of}
use Rattle.all_ends.specs.Ends.{ends_from}
use Rattle.all_ends.specs.Places.{place_on_links}

-- ---- lists that are made link by link

get_left : {A : Type 0} (xs ys : List A) (i : ℕ) → i < length xs → slice_get (xs ++ ys) i ≡ slice_get xs i
get_left [] ys i less = absurd (omega arith)
get_left (x ∷ xs) ys zero less = refl
get_left (x ∷ xs) ys (suc i) less = get_left xs ys i (omega arith)

get_right : {A : Type 0} (xs ys : List A) (i : ℕ) → length xs ≤ i → slice_get (xs ++ ys) i
    ≡ slice_get ys (i - length xs)
get_right [] ys i least = let same : i ≡ i - 0 = omega arith in ap (slice_get ys) same
get_right (x ∷ xs) ys zero least = absurd (omega arith)
get_right (x ∷ xs) ys (suc i) least =
    let same : i - length xs ≡ suc i - suc (length xs) = omega arith in
    get_right xs ys i (omega arith) ∙ ap (slice_get ys) same

-- ---- an interface at its place

-- interface number `i` of these links, the first of which has this number
pub record IsListed (limit link : ℕ) (ls : List LinkPlan) (i : ℕ) (x : Site) : Type 0 where
  pub ends : LinkEnds
  pub k : ℕ
  pub plan : LinkPlan
  pub place : ℕ
  pub link_is : link + k ≡ x.link
  pub ends_are : slice_get (ends_from limit link ls) k ≡ Some ends
  pub device_is : ends.device.interfaces.interfaces ≡ map new_device_interface plan.interfaces
  pub located_is : place_on_links link i (ends_from limit link ls) ≡ Some (x.link, place)
  pub plan_is : slice_get plan.interfaces place ≡ Some x.plan
  pub interface_is : slice_get (interfaces_from link ls) i ≡ Some (new_interface x.link x.plan)

site_on : (number link : ℕ) (ps : List InterfacePlan) (i : ℕ) (x : Site) → slice_get (sites_of_plans number link ps) i
    ≡ Some x → (x.link ≡ link) × (slice_get ps i ≡ Some x.plan)
site_on number link [] i x is = absurd (none-some x is)
site_on number link (p ∷ ps) zero x is =
    let same = same_Some _ x is in (sym (ap (λ (y : Site). y.link) same), ap (λ (y : Site). Some y.plan) same)
site_on number link (p ∷ ps) (suc i) x is = site_on (number + 1) link ps i x is

pub many_on : (number link : ℕ) (ps : List InterfacePlan) → length (sites_of_plans number link ps) ≡ length ps
many_on number link [] = refl
many_on number link (p ∷ ps) = ap suc (many_on (number + 1) link ps)

located_in : (n i link : ℕ) (rest : Option (ℕ × ℕ)) → i < n → (if nat_lt i n then Some (link, i) else rest)
    ≡ Some (link, i)
located_in n i link rest less = grind (arith, nat_tests)

located_past : (n i : ℕ) (here rest : Option (ℕ × ℕ)) → n ≤ i → (if nat_lt i n then here else rest) ≡ rest
located_past n i here rest least = grind (arith, nat_tests)

listed_here : (limit number link : ℕ) (l : LinkPlan) (ls : List LinkPlan) (i : ℕ) (x : Site) → i < length l.interfaces
    → slice_get (sites_of_links number link (l ∷ ls)) i ≡ Some x → IsListed limit link (l ∷ ls) i x
listed_here limit number link l ls i x less is =
    let many = length-map l.interfaces new_device_interface in
    let managed = length-map l.interfaces (new_interface link) in
    let counted = many_on number link l.interfaces in
    let at = site_on number link l.interfaces i x
    (sym (get_left (sites_of_plans number link l.interfaces) _ i (omega arith))
    ∙ is) in
    let there : i < length (map new_device_interface l.interfaces) = omega arith in
    record {
      ends = new_ends link l.streams limit (requester_of l.interfaces) l.interfaces l.nonces;
      k = 0;
      plan = l;
      place = i;
      link_is = omega (arith, at.0);
      ends_are = refl;
      device_is = refl;
      located_is = located_in (length (map new_device_interface l.interfaces)) i link _ there
          ∙ ap (λ (n : ℕ). Some (n, i)) (sym at.0);
      plan_is = at.1;
      interface_is = get_left (new_interfaces link l.interfaces) (interfaces_from (link + 1) ls) i (omega arith)
          ∙ (slice_get-map (new_interface link) l.interfaces i
          ∙ (ap (option_map (new_interface link)) at.1 ∙ ap (λ (n : ℕ). Some (new_interface n x.plan)) (sym at.0)));
    }

listed_later : (limit number link : ℕ) (l : LinkPlan) (ls : List LinkPlan) (i : ℕ) (x : Site) → length l.interfaces ≤ i
    → IsListed limit (link + 1) ls (i - length l.interfaces) x → IsListed limit link (l ∷ ls) i x
listed_later limit number link l ls i x least r =
    let many = length-map l.interfaces new_device_interface in
    let managed = length-map l.interfaces (new_interface link) in
    let past : length (map new_device_interface l.interfaces) ≤ i = omega arith in
    let left : i - length (map new_device_interface l.interfaces) ≡ i - length l.interfaces = omega arith in
    let left' : i - length (new_interfaces link l.interfaces) ≡ i - length l.interfaces = omega arith in
    record {
      ends = r.ends;
      k = suc r.k;
      plan = r.plan;
      place = r.place;
      link_is = omega (arith, r.link_is);
      ends_are = r.ends_are;
      device_is = r.device_is;
      located_is = located_past (length (map new_device_interface l.interfaces)) i _ _ past
          ∙ (ap (λ (n : ℕ). place_on_links (link + 1) n (ends_from limit (link + 1) ls)) left ∙ r.located_is);
      plan_is = r.plan_is;
      interface_is = get_right (new_interfaces link l.interfaces) (interfaces_from (link + 1) ls) i (omega arith)
          ∙ (ap (slice_get (interfaces_from (link + 1) ls)) left' ∙ r.interface_is);
    }

pub listed : (limit number link : ℕ) (ls : List LinkPlan) (i : ℕ) (x : Site)
    → slice_get (sites_of_links number link ls) i ≡ Some x → IsListed limit link ls i x
listed limit number link [] i x is = absurd (none-some x is)
listed limit number link (l ∷ ls) i x is = elim (cases_lt i (length l.interfaces)) [
  | inl less ↦ listed_here limit number link l ls i x less is
  | inr least ↦
      let counted = many_on number link l.interfaces in
      let left : i - length (sites_of_plans number link l.interfaces) ≡ i - length l.interfaces = omega arith in
      listed_later limit number link l ls i x least
      (listed limit (number + length l.interfaces) (link + 1) ls (i - length l.interfaces) x
      (ap (slice_get (sites_of_links (number + length l.interfaces) (link + 1) ls)) (sym left)
      ∙ (sym (get_right (sites_of_plans number link l.interfaces) _ i (omega arith)) ∙ is)))
]

-- ---- devices

pub device_at : (limit link : ℕ) (ls : List LinkPlan) (k : ℕ) (l : LinkEnds) → slice_get (ends_from limit link ls) k
    ≡ Some l → (p : LinkPlan) × (slice_get ls k ≡ Some p) × (l ≡ new_ends (link + k) p.streams limit
    (requester_of p.interfaces) p.interfaces p.nonces)
device_at limit link [] k l is = absurd (none-some l is)
device_at limit link (p ∷ ps) zero l is =
    let same : link ≡ link + 0 = omega arith in (
      p,
      refl,
      sym (same_Some _ l is) ∙ ap (λ (n : ℕ). new_ends n p.streams limit (requester_of p.interfaces) p.interfaces
          p.nonces) same,
    )
device_at limit link (p ∷ ps) (suc k) l is =
    let r = device_at limit (link + 1) ps k l is in
    let same : (link + 1) + k ≡ link + suc k = omega arith in (
      r.0,
      r.1,
      r.2 ∙ ap (λ (n : ℕ). new_ends n r.0.streams limit (requester_of r.0.interfaces) r.0.interfaces r.0.nonces) same,
    )

pub nonces_at : (ls : List LinkPlan) (k : ℕ) (p : LinkPlan) → slice_get ls k ≡ Some p
    → slice_index_or (map (λ (l : LinkPlan). l.nonces) ls) k [] ≡ p.nonces
nonces_at [] k p is = absurd (none-some p is)
nonces_at (l ∷ ls) zero p is = ap (λ (q : LinkPlan). q.nonces) (same_Some l p is)
nonces_at (l ∷ ls) (suc k) p is = nonces_at ls k p is

pub managed_many : (number link : ℕ) (ls : List LinkPlan) → length (interfaces_from link ls)
    ≡ length (sites_of_links number link ls)
managed_many number link [] = refl
managed_many number link (l ∷ ls) =
    let left = length-append (new_interfaces link l.interfaces) (interfaces_from (link + 1) ls) in
    let right = length-append (sites_of_plans number link l.interfaces)
    (sites_of_links (number + length l.interfaces) (link + 1) ls) in
    let one = length-map l.interfaces (new_interface link) in
    let other = many_on number link l.interfaces in
    let rest = managed_many (number + length l.interfaces) (link + 1) ls in
    omega arith
