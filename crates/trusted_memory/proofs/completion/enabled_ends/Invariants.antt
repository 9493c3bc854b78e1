use Rattle.std.proofs.Common.{◌≡◌, filter}
use Rattle.std.specs.List.{range_with_len}
use Rattle.trusted_memory.specs.Spans.{is_enabled}
use Rattle.trusted_memory.specs.Completions.{first_and_last}
use Rattle.trusted_memory.proofs.Places.{Within}
use Rattle.trusted_memory.proofs.completion.enabled_ends.Given as goal

abbrev pub invariant-loop-i : goal.invariant-loop-i
invariant-loop-i l = record {
  ends : l.ends ≡ first_and_last (filter (is_enabled l.span) (range_with_len 0 l.i));
  within : Within l.i l.ends;
}
