-- The laws of interfaces and memory, of every history in which each verdict is the one that is due.
use Rattle.ide_types.specs.declared.plan.Plan.{Plan}
use Rattle.spec_keys.specs.History.{History}
use Rattle.spec_links.specs.Cause.{CauseLaw}
use Rattle.spec_interfaces.specs.Cause.{InterfaceCause}
use Rattle.spec_interfaces.specs.Laws.{RunLaw}
use Rattle.law_memory.specs.Origin.{MemoryLaw}
use Rattle.law_memory.specs.ReadLaws.{ReadLaw}

abbrev pub InterfacesHaveCauses : Type 0
InterfacesHaveCauses = (plan : Plan) (h : History) → CauseLaw plan h → InterfaceCause plan h

abbrev pub RunLawHolds : Type 0
RunLawHolds = (plan : Plan) (h : History) → CauseLaw plan h → RunLaw plan h

abbrev pub MemoryLawHolds : Type 0
MemoryLawHolds = (plan : Plan) (h : History) → CauseLaw plan h → MemoryLaw plan h

abbrev pub ReadLawHolds : Type 0
ReadLawHolds = (plan : Plan) (h : History) → CauseLaw plan h → ReadLaw plan h
