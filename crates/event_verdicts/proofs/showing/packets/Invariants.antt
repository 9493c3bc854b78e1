use Rattle.std.proofs.Common.{◌≡◌, ◌++◌, drop, length, map}
use Rattle.event_verdicts.specs.Shown.{shown_packet}
use Rattle.event_verdicts.proofs.showing.packets.Given as goal

-- the packets so far and those that are left
abbrev pub invariant-loop-sealed : goal.invariant-loop-sealed
invariant-loop-sealed l =
    (l.all ++ map (shown_packet l.peers) (drop l.sealed-index l.sealed) ≡ map (shown_packet l.peers) l.sealed)
    × (length l.all ≡ l.sealed-index)
