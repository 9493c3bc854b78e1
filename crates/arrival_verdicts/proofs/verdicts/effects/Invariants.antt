use Rattle.std.proofs.Common.{◌≡◌, ◌≤◌, ◌+◌, ◌*◌, ◌++◌, length, drop, List}
use Rattle.event_verdicts.specs.declared.verdict.Effect.{Effect}
use Rattle.trusted_memory.specs.{MemoryContents}
use Rattle.trusted_memory.specs.declared.queue.WaitingRead.{WaitingRead}
use Rattle.guarded_memory.specs.{GuardedMemory}
use Rattle.link_stores.specs.{device_statuses, other_reads, reads_on}
use Rattle.arrival_verdicts.specs.Verdicts.{grants_in, UnitCame}
use Rattle.arrival_verdicts.proofs.verdicts.effects.Given as goal

-- what the packets behind these make of what stands now, the whole unit makes of what stood
abbrev pub invariant-loop-i : goal.invariant-loop-i
invariant-loop-i l =
    let regions = l.initial.memory.contents.regions in
    let grants = grants_in l.at.manager.now in
    let xs = device_statuses l.initial.access.floors l.at.interfaces.now in
    ((es : List Effect) (ws : List WaitingRead) (m : MemoryContents) (g : GuardedMemory)
    → UnitCame regions grants xs l.at.end l.at.port l.unit (drop l.i l.packets) (reads_on l.at.port.side l.access)
    l.memory.contents l.access.guarded es ws m g
    → UnitCame regions grants xs l.at.end l.at.port l.unit l.packets (reads_on l.at.port.side l.initial.access)
    l.initial.memory.contents l.initial.access.guarded (l.list ++ es) ws m g)
    × (length l.list ≡ l.i)
    × (l.memory.contents.regions ≡ regions)
    × (l.access.floors ≡ l.initial.access.floors)
    × (l.access.guarded.sizes ≡ l.initial.access.guarded.sizes)
    × (l.initial.memory.spare ≤ l.memory.spare + l.i)
    × (l.initial.access.guarded.spare ≤ l.access.guarded.spare + 2 * l.i)
    × (l.access.carried ≡ l.initial.access.carried)
    × (other_reads l.at.port.side l.access ≡ other_reads l.at.port.side l.initial.access)
