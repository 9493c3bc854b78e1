-- Device interfaces have few numbers, and what the plan lays out of them fits: their information and the nonces of
-- their links are bytes.
use Rattle.std.proofs.Common.{◌≡◌, ℕ, zero, suc, ◌+◌, ◌<◌, ◌≤◌, ◌==◌, ◌^◌, Bool, true, false, List, [], ◌∷◌, ◌++◌}
use Rattle.std.proofs.Common.{length, map, Some, slice_get, if◌then◌else◌, subst, arith}
use Rattle.std.specs.Prelude.{filter, find, sum_by}
use Rattle.std.specs.List.{AllByRecursion, slice_index_or}
use Rattle.std.proofs.lemmas.List.Elements.{recursion_from_All}
use Rattle.std.proofs.lemmas.List.Sums.{sum_by-cons}
use Rattle.hex.specs.Hex.{IsBytes}
use Rattle.ide_types.proofs.Cells.{all_bytes}
use Rattle.ide_types.specs.declared.plan.Plan.{Plan}
use Rattle.ide_types.specs.declared.plan.LinkPlan.{LinkPlan}
use Rattle.ide_types.specs.declared.interface.InterfacePlan.{InterfacePlan}
use Rattle.ide_types.specs.declared.stream.StreamPlan.{StreamPlan}
use Rattle.ide_types.specs.Fits.{AreBytes, IsKey, FitsInterface, FitsLink, FitsPlan}
use Rattle.ide_types.proofs.Limits.{few_interfaces}
use Rattle.interface_state.specs.Held.{FitsTdi}
use Rattle.spec_interfaces.specs.Sites.{Site, sites_of_plans, sites_of_links, site_at, nonce_behind}
use Rattle.spec_interfaces.specs.Floors.{site_on}
unfoldable use Rattle.spec_interfaces.specs.Sites.{sites}

-- ---- numbers, and what is laid out

pub record SiteFits (x : Site) : Type 0 where
  pub number : x.number < 2 ^ 64
  pub requester : x.plan.requester < 2 ^ 16
  pub tdi : FitsTdi x.plan
  pub info : AreBytes x.plan.info

abbrev AllFit : List Site → Type 0
AllFit xs = AllByRecursion SiteFits xs

one_fits : (streams : List StreamPlan) (number link : ℕ) (p : InterfacePlan) → number ≤ 64 → FitsInterface streams p
    → SiteFits (record { number = number; link = link; plan = p })
one_fits streams number link p few fits = record {
  number = omega (arith, few);
  requester = omega (arith, fits.requester);
  tdi = record { bars = fits.bars; each_bar = fits.each_bar; info = fits.info };
  info = fits.info_bytes;
}

on_fits : (streams : List StreamPlan) (number link : ℕ) (ps : List InterfacePlan) (xs : List Site)
    → number + length ps ≤ 64 → AllByRecursion (FitsInterface streams) ps → AllFit xs
    → AllFit (sites_of_plans number link ps ++ xs)
on_fits streams number link [] xs few fits rest = rest
on_fits streams number link (p ∷ ps) xs few fits rest = (
  one_fits streams number link p (omega (arith, few)) fits.0,
  on_fits streams (number + 1) link ps xs
      (omega (arith, few)) fits.1 rest,
)

from_fits : (number link : ℕ) (ls : List LinkPlan) → number + sum_by (λ l. length l.interfaces) ls ≤ 64
    → AllByRecursion FitsLink ls → AllFit (sites_of_links number link ls)
from_fits number link [] few fits = tt
from_fits number link (l ∷ ls) few fits =
    let sum = sum_by-cons (λ (l : LinkPlan). length l.interfaces) l ls in
    on_fits l.streams number link l.interfaces _ (omega (arith, few, sum))
    (recursion_from_All (FitsInterface l.streams) l.interfaces fits.0.each_interface)
    (from_fits (number + length l.interfaces) (link + 1) ls (omega (arith, few, sum)) fits.1)

sites_fit : (plan : Plan) → FitsPlan plan → AllFit (sites plan)
unfolding sites
sites_fit plan fits = from_fits 0 0 plan.links (omega (arith, few_interfaces plan fits))
    (recursion_from_All FitsLink plan.links fits.each_link)

found_fits : (test : Site → Bool) (xs : List Site) (x : Site) → AllFit xs → find test xs ≡ Some x → SiteFits x
found_fits test [] x all is = absurd cc
found_fits test (y ∷ xs) x all is = by (found_fits test xs x all.1) (test y) is
  where
    by : (find test xs ≡ Some x → SiteFits x) → (b : Bool) → (if b then Some y else find test xs) ≡ Some x → SiteFits x
    by later true is = let same : y ≡ x = cc in subst SiteFits same all.0
    by later false is = later is

pub site_fits : (plan : Plan) → FitsPlan plan → (i : ℕ) (x : Site) → site_at plan i ≡ Some x → SiteFits x
site_fits plan fits i x is = found_fits (λ y. y.number == i) (sites plan) x (sites_fit plan fits) is

pub found_site_fits : (plan : Plan) → FitsPlan plan → (test : Site → Bool) (x : Site) → find test (sites plan) ≡ Some x
    → SiteFits x
found_site_fits plan fits test x is = found_fits test (sites plan) x (sites_fit plan fits) is

kept_fits : (test : Site → Bool) (xs : List Site) (n : ℕ) (x : Site) → AllFit xs
    → slice_get (filter test xs) n ≡ Some x → SiteFits x
kept_fits test [] n x all is = absurd cc
kept_fits test (y ∷ xs) n x all is = by (λ m later. kept_fits test xs m x all.1 later) (test y) n is
  where
    by : ((m : ℕ) → slice_get (filter test xs) m ≡ Some x → SiteFits x) → (b : Bool) (n : ℕ)
        → slice_get (if b then y ∷ filter test xs else filter test xs) n ≡ Some x → SiteFits x
    by later true zero is = let same : y ≡ x = cc (is) in subst SiteFits same all.0
    by later true (suc n) is = later n is
    by later false n is = later n is

pub site_on_fits : (plan : Plan) → FitsPlan plan → (link place : ℕ) (x : Site) → site_on plan link place ≡ Some x
    → SiteFits x
site_on_fits plan fits link place x is = kept_fits (λ y. y.link == link) (sites plan) place x (sites_fit plan fits) is

-- ---- nonces

key_at : (keys : List (List ℕ)) (i : ℕ) (key : List ℕ) → AllByRecursion IsKey keys → slice_get keys i ≡ Some key
    → IsBytes key
key_at [] i key all is = absurd cc
key_at (k ∷ keys) zero key all is = let same : k ≡ key = cc in subst IsBytes same (all_bytes k all.0.1)
key_at (k ∷ keys) (suc i) key all is = key_at keys i key all.1 is

nonce_at : (ls : List LinkPlan) (link used : ℕ) (nonce : List ℕ) → AllByRecursion FitsLink ls
    → slice_get (slice_index_or (map (λ (l : LinkPlan). l.nonces) ls) link []) used ≡ Some nonce → IsBytes nonce
nonce_at [] link used nonce all is = absurd cc
nonce_at (l ∷ ls) zero used nonce all is = key_at l.nonces used nonce
    (recursion_from_All IsKey l.nonces all.0.each_nonce) is
nonce_at (l ∷ ls) (suc link) used nonce all is = nonce_at ls link used nonce all.1 is

pub nonce_bytes : (plan : Plan) → FitsPlan plan → (link used : ℕ) (nonce : List ℕ) → nonce_behind plan link used
    ≡ Some nonce → IsBytes nonce
nonce_bytes plan fits link used nonce is = nonce_at plan.links link used nonce
    (recursion_from_All FitsLink plan.links fits.each_link) is
