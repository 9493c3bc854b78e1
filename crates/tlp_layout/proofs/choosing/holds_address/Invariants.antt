use Rattle.std.proofs.Common.{◌≡◌, false, take}
use Rattle.tlp_layout.specs.Choice.{holds_address}
use Rattle.tlp_layout.proofs.choosing.holds_address.Given as goal

abbrev pub invariant-loop-range : goal.invariant-loop-range
invariant-loop-range l = holds_address (take l.range-index l.ranges) l.address ≡ false
