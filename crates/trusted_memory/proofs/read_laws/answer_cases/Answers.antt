use Rattle.std.proofs.Common.{refl}
use Rattle.trusted_memory.specs.Writes.{byte_last_written}
use Rattle.trusted_memory.specs.Completions.{completion_bytes}
use Rattle.trusted_memory.proofs.read_laws.answer_cases.Goals as goal

pub returns-clause-answers : goal.returns-clause-answers
unfolding completion_bytes byte_last_written
returns-clause-answers c = (refl, refl, refl, refl)

pub returns-clause-tables : goal.returns-clause-tables
returns-clause-tables c = (refl, refl, refl)
