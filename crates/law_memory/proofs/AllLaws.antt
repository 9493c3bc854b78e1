-- The laws of interfaces and of trusted memory.
use Rattle.law_memory.specs.Statements.{InterfacesHaveCauses, RunLawHolds, MemoryLawHolds, ReadLawHolds}
use Rattle.law_memory.specs.LocalLaws.{LocalBindOriginLawHolds, LocalOriginLawHolds, LocalReadOriginLawHolds}
use Rattle.spec_interfaces.proofs.RunLaws.{interface_run_law as runs}
use Rattle.law_key_facts.proofs.Draws.{draws}
use Rattle.law_sealing.proofs.OfPlans.{streams_fit}
use Rattle.law_memory.proofs.BoundPackets.{bind_origin_law as bound_local}
use Rattle.law_memory.proofs.Causes.{interface_cause}
use Rattle.law_memory.proofs.Memory.{memory_law as in_memory}
use Rattle.law_memory.proofs.Origins.{origin_law as from_local}
use Rattle.law_memory.proofs.OfReads.{read_law as reads_hold}
use Rattle.law_memory.proofs.QueuedReads.{read_origins}

pub interfaces_have_causes : InterfacesHaveCauses
interfaces_have_causes = interface_cause

pub run_law : RunLawHolds
run_law plan h cause = runs plan h (interface_cause plan h cause)

pub memory_law : MemoryLawHolds
memory_law plan h cause = in_memory plan h cause

pub read_law : ReadLawHolds
read_law plan h cause = reads_hold plan (draws plan) h cause

-- ---- each of the unit that it is of

pub origin_law : LocalOriginLawHolds
origin_law plan fits h cause = from_local plan fits (streams_fit plan fits) (draws plan) h cause

pub read_origin_law : LocalReadOriginLawHolds
read_origin_law plan fits h cause = read_origins plan fits (streams_fit plan fits) (draws plan) h cause

pub bind_origin_law : LocalBindOriginLawHolds
bind_origin_law plan fits h cause = bound_local plan fits (streams_fit plan fits) (draws plan) h cause
