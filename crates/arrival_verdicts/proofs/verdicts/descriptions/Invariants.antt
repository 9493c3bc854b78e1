use Rattle.std.proofs.Common.{◌≡◌, ◌+◌, ◌++◌, length, drop}
use Rattle.ide_port.specs.{numbered_from}
use Rattle.arrival_verdicts.proofs.verdicts.descriptions.Given as goal

abbrev pub invariant-loop-packet : goal.invariant-loop-packet
invariant-loop-packet l =
    (numbered_from l.end l.initial.number l.packets ≡ l.list
    ++ numbered_from l.end l.number (drop l.packet-index l.packets))
    × (length l.list ≡ l.packet-index) × (l.number ≡ l.initial.number + l.packet-index)
