-- The number of an interface over all links: how many are on the links before its own, and its place there.
use Rattle.all_ends.proofs.Terms.{ℕ, ◌+◌, Option}
use Rattle.std.specs.Option.{option_map, option_and_then}
use Rattle.all_ends.specs.Places.{small_number}

-- behind so many others, if it has room in 8 bits
abbrev pub behind : ℕ → Option ℕ → Option ℕ
behind before o = option_and_then small_number (option_map (λ (n : ℕ). before + n) o)
