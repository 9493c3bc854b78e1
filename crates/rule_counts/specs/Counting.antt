-- Counts of rules, by their places.
use Rattle.std.specs.Prelude.{ℕ, suc, ◌+◌, ◌-◌, ◌^◌, List, [], ◌∷◌, if◌then◌else◌, min, nat_eq, slice_index, slice_set}
use Rattle.std.specs.Cmp.Lexicographic.{pointwise}
use Rattle.ide_types.specs.{Text}
use Rattle.rule_counts.specs.Names.{answering_rules}

-- the place of a rule, from 0, or how many there are
abbrev pub place_in : List Text → Text → ℕ
place_in [] rule = 0
place_in (name ∷ names) rule = if pointwise nat_eq name rule then 0 else suc (place_in names rule)

-- one more, up to the last value of a count
abbrev pub one_more : ℕ → ℕ
one_more n = min (n + 1) (2 ^ 64 - 1)

-- the rule is counted once more
abbrev pub counted : Text → List ℕ → List ℕ
counted rule counts =
    slice_set counts (place_in answering_rules rule) (one_more (slice_index counts (place_in answering_rules rule)))

-- and so is each of these
abbrev pub counted_all : List Text → List ℕ → List ℕ
counted_all [] counts = counts
counted_all (rule ∷ rules) counts = counted_all rules (counted rule counts)
