-- Device interfaces by their numbers.
use Rattle.std.specs.Prelude.{ℕ, ◌+◌, ◌==◌, ◌&&◌, List, [], ◌∷◌, ◌++◌, length, map, find, slice_get, Option}
use Rattle.spec_interfaces.specs.Terms.{slice_index_or, Plan, LinkPlan, InterfacePlan}

-- an interface: its number over all links in the topology's order, its link, and what the topology lays out of it
pub record Site : Type 0 where
  pub number : ℕ
  pub link : ℕ
  pub plan : InterfacePlan

abbrev pub sites_of_plans : ℕ → ℕ → List InterfacePlan → List Site
sites_of_plans number link [] = []
sites_of_plans number link (p ∷ ps) = record { number = number; link = link; plan = p }
    ∷ sites_of_plans (number + 1) link ps

abbrev pub sites_of_links : ℕ → ℕ → List LinkPlan → List Site
sites_of_links number link [] = []
sites_of_links number link (l ∷ ls) =
    sites_of_plans number link l.interfaces ++ sites_of_links (number + length l.interfaces) (link + 1) ls

unfoldable pub sites : Plan → List Site
sites plan = sites_of_links 0 0 plan.links

-- the interface of a number
abbrev pub site_at : Plan → ℕ → Option Site
site_at plan i = find (λ x. x.number == i) (sites plan)

-- the interface of a link that has a requester ID
abbrev pub site_of_requester : Plan → ℕ → ℕ → Option Site
site_of_requester plan link requester = find (λ x. (x.link == link) && (x.plan.requester == requester)) (sites plan)

-- the nonces that the device of a link gives, in order
abbrev pub nonces_of : Plan → ℕ → List (List ℕ)
nonces_of plan link = slice_index_or (map (λ (l : LinkPlan). l.nonces) plan.links) link []

-- the one that comes after so many
abbrev pub nonce_behind : Plan → ℕ → ℕ → Option (List ℕ)
nonce_behind plan link used = slice_get (nonces_of plan link) used
