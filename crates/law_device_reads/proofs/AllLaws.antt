-- The laws of reads of devices' memory.
use Rattle.law_device_reads.specs.Statements.{DeviceReadLawHolds, DeviceEffectLawHolds, RespondLawHolds}
use Rattle.law_device_reads.specs.Statements.{ExposureLawHolds, DeviceReadOriginLawHolds, ResponseOriginLawHolds}
use Rattle.law_device_reads.proofs.Effects.{device_effect_law as effects}
use Rattle.law_device_reads.proofs.Responses.{device_read_law as reads}
use Rattle.law_device_reads.proofs.Exact.{respond_law as responds}
use Rattle.law_device_reads.proofs.Exposed.{exposure_law as exposes}
use Rattle.law_device_reads.proofs.Asked.{device_read_origin_law as asked}
use Rattle.law_device_reads.proofs.Brought.{response_origin_law as brought}

pub device_read_law : DeviceReadLawHolds
device_read_law plan fits h cause = reads plan h cause

pub device_effect_law : DeviceEffectLawHolds
device_effect_law plan fits h cause = effects plan h cause

pub respond_law : RespondLawHolds
respond_law plan fits h cause = responds plan fits h cause

pub exposure_law : ExposureLawHolds
exposure_law plan fits h cause = exposes plan fits h cause

pub device_read_origin_law : DeviceReadOriginLawHolds
device_read_origin_law plan fits h cause = asked plan fits h cause

pub response_origin_law : ResponseOriginLawHolds
response_origin_law plan fits h cause = brought plan fits h cause
