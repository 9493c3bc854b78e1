-- The laws of origin, each supposing that no tag was forged of just the sub-stream and draw under which its packet
-- came.
use Rattle.ide_types.specs.declared.plan.Plan.{Plan}
use Rattle.ide_types.specs.Fits.{FitsPlan}
use Rattle.spec_keys.specs.History.{History}
use Rattle.spec_links.specs.Cause.{CauseLaw}
use Rattle.law_delivery.specs.NoForgeryUnder.{UnitIsUnforged, EachPairIf}
use Rattle.law_memory.specs.Bindings.{AreBound}
use Rattle.law_memory.specs.Origin.{AreFrom}
use Rattle.law_memory.specs.ReadLaws.{QueuedFrom}

-- each admitted write
abbrev pub LocalOriginLaw : Plan → History → Type 0
LocalOriginLaw plan h = EachPairIf UnitIsUnforged AreFrom plan h

-- each read that is queued at a host's port
abbrev pub LocalReadOriginLaw : Plan → History → Type 0
LocalReadOriginLaw plan h = EachPairIf UnitIsUnforged QueuedFrom plan h

-- each accepted packet with T on a stream between devices
abbrev pub LocalBindOriginLaw : Plan → History → Type 0
LocalBindOriginLaw plan h = EachPairIf UnitIsUnforged AreBound plan h

abbrev pub LocalOriginLawHolds : Type 0
LocalOriginLawHolds = (plan : Plan) → FitsPlan plan → (h : History) → CauseLaw plan h → LocalOriginLaw plan h

abbrev pub LocalReadOriginLawHolds : Type 0
LocalReadOriginLawHolds = (plan : Plan) → FitsPlan plan → (h : History) → CauseLaw plan h → LocalReadOriginLaw plan h

abbrev pub LocalBindOriginLawHolds : Type 0
LocalBindOriginLawHolds = (plan : Plan) → FitsPlan plan → (h : History) → CauseLaw plan h → LocalBindOriginLaw plan h
