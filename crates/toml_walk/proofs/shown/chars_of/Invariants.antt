use Rattle.std.proofs.Common.{◌≡◌, flat_map}
use Rattle.toml_walk.specs.Shown.{shown_char}
use Rattle.toml_walk.proofs.shown.chars_of.Given as goal

abbrev pub invariant-loop-c : goal.invariant-loop-c
invariant-loop-c l = l.text.items ≡ flat_map shown_char l.yielded
