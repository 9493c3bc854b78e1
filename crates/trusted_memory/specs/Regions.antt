-- Which bytes regions of memory hold (this profile).
use Rattle.std.specs.Prelude.{ℕ, ◌+◌, ◌&&◌, nat_lt, nat_le, Bool, List}
use Rattle.std.specs.List.{list_any}
use Rattle.ide_types.specs.declared.plan.Region.{Region}

-- the byte at an address
abbrev pub is_inside : Region → ℕ → Bool
is_inside r a = nat_le r.base a && nat_lt a (r.base + r.size)

abbrev pub in_region : List Region → ℕ → Bool
in_region regions a = list_any (λ r. is_inside r a) regions

-- the byte at an address, and all n bytes from there on
abbrev pub holds_all : Region → ℕ → ℕ → Bool
holds_all r at n = is_inside r at && nat_le (at + n) (r.base + r.size)

-- one region holds them all
abbrev pub in_one_region : List Region → ℕ → ℕ → Bool
in_one_region regions at n = list_any (λ r. holds_all r at n) regions
