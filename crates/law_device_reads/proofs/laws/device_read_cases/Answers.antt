use Rattle.law_device_reads.proofs.Cases.{arrivals, answers}
use Rattle.law_device_reads.proofs.laws.device_read_cases.Goals as goal

pub returns-clause-arrivals : goal.returns-clause-arrivals
returns-clause-arrivals c = arrivals

pub returns-clause-answers : goal.returns-clause-answers
returns-clause-answers c = answers
