use Rattle.std.proofs.Common.{◌≡◌, drop}
use Rattle.ide_types.specs.Ends.{interface_link}
use Rattle.history_events.proofs.streams.interface_link.Given as goal

-- among the links that are left, by what is left of its number
abbrev pub invariant-loop-i : goal.invariant-loop-i
invariant-loop-i l = interface_link (drop l.i l.links) l.i l.left ≡ interface_link l.links 0 l.interface
