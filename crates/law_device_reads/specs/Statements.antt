-- The laws of reads of devices' memory, of every history in which each verdict is the one that is due.
use Rattle.ide_types.specs.declared.plan.Plan.{Plan}
use Rattle.ide_types.specs.Fits.{FitsPlan}
use Rattle.spec_keys.specs.History.{History}
use Rattle.spec_links.specs.Cause.{CauseLaw}
use Rattle.law_device_reads.specs.DeviceReads.{DeviceReadLaw}
use Rattle.law_device_reads.specs.Exact.{DeviceEffectLaw, RespondLaw}
use Rattle.law_device_reads.specs.Exposure.{ExposureLaw}
use Rattle.law_device_reads.specs.Origins.{DeviceReadOriginLaw, ResponseOriginLaw}

abbrev pub DeviceReadLawHolds : Type 0
DeviceReadLawHolds = (plan : Plan) → FitsPlan plan → (h : History) → CauseLaw plan h → DeviceReadLaw plan h

abbrev pub DeviceEffectLawHolds : Type 0
DeviceEffectLawHolds = (plan : Plan) → FitsPlan plan → (h : History) → CauseLaw plan h → DeviceEffectLaw plan h

abbrev pub RespondLawHolds : Type 0
RespondLawHolds = (plan : Plan) → FitsPlan plan → (h : History) → CauseLaw plan h → RespondLaw plan h

abbrev pub ExposureLawHolds : Type 0
ExposureLawHolds = (plan : Plan) → FitsPlan plan → (h : History) → CauseLaw plan h → ExposureLaw plan h

-- which suppose no forgery in the sub-streams that they name
abbrev pub DeviceReadOriginLawHolds : Type 0
DeviceReadOriginLawHolds = (plan : Plan) → FitsPlan plan → (h : History) → CauseLaw plan h → DeviceReadOriginLaw plan h

abbrev pub ResponseOriginLawHolds : Type 0
ResponseOriginLawHolds = (plan : Plan) → FitsPlan plan → (h : History) → CauseLaw plan h → ResponseOriginLaw plan h
