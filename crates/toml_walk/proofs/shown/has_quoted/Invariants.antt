use Rattle.std.proofs.Common.{◌≡◌, drop}
use Rattle.std.specs.List.{list_any}
use Rattle.toml_walk.specs.Shown.{is_quoted_byte}
use Rattle.toml_walk.proofs.shown.has_quoted.Given as goal

abbrev pub invariant-loop-b : goal.invariant-loop-b
invariant-loop-b l = list_any is_quoted_byte (drop l.b-index l.key) ≡ list_any is_quoted_byte l.key
