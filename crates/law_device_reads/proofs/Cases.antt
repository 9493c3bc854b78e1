-- The worked cases, computed.
use Rattle.std.proofs.Common.{refl}
use Rattle.law_device_reads.specs.Cases.{ArrivalCases, AnswerCases}

pub arrivals : ArrivalCases
arrivals = (refl, refl, refl, refl, refl, refl, refl, refl, refl, refl)

pub answers : AnswerCases
answers = (refl, refl, refl, refl, refl, refl)
