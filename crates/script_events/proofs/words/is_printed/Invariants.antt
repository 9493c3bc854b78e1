use Rattle.std.proofs.Common.{◌≡◌, ◌&&◌, drop}
use Rattle.std.specs.List.{list_all}
use Rattle.ide_types.specs.Names.{is_printable}
use Rattle.script_events.proofs.words.is_printed.Given as goal

-- what is left decides with what was seen
abbrev pub invariant-loop-byte : goal.invariant-loop-byte
invariant-loop-byte l = (l.printed && list_all is_printable (drop l.byte-index l.line)) ≡ list_all is_printable l.line
