use Rattle.std.proofs.Common.{◌≡◌, map, drop}
use Rattle.toml_walk.specs.Walk.{is_known}
use Rattle.toml_walk.proofs.table.is_in.Given as goal

abbrev pub invariant-loop-name : goal.invariant-loop-name
invariant-loop-name l = is_known (map (λ s. s.now) (drop l.name-index l.known)) l.key
    ≡ is_known (map (λ s. s.now) l.known) l.key
