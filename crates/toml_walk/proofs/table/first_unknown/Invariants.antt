use Rattle.std.proofs.Common.{◌≡◌, map, string_bytes}
use Rattle.std.specs.BTreeMap.{keys}
use Rattle.toml_walk.specs.Walk.{unknown_in}
use Rattle.toml_walk.proofs.table.first_unknown.Given as goal

abbrev pub invariant-loop-key : goal.invariant-loop-key
invariant-loop-key l = unknown_in (map (λ s. s.now) l.known) (map string_bytes l.key-iterator)
    ≡ unknown_in (map (λ s. s.now) l.known) (map string_bytes (keys l.table))
