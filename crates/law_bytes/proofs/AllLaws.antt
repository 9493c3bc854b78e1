-- The laws of bytes.
use Rattle.law_bytes.specs.Statements.{KeyStreamFreshHolds}
use Rattle.law_bytes.specs.LocalLaws.{LocalByteOriginHolds, LocalMmioOriginHolds}
use Rattle.law_bytes.proofs.Ranges.{keystream_fresh as fresh}
use Rattle.law_bytes.proofs.Shown.{byte_origin as sent}
use Rattle.law_bytes.proofs.MmioOrigins.{mmio_origin}

pub keystream_fresh : KeyStreamFreshHolds
keystream_fresh plan fits h cause = fresh plan fits h cause

pub byte_origin : LocalByteOriginHolds
byte_origin plan fits h cause = sent plan fits h cause

pub mmio_origin_law : LocalMmioOriginHolds
mmio_origin_law plan fits h cause = mmio_origin plan fits h cause
