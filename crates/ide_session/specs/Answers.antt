-- The number of each answer.
use Rattle.std.specs.Prelude.{ℕ, ◌≡◌}
use Rattle.ide_session.specs.declared.answer.Answer.{Answer}
use Rattle.ide_session.specs.declared.answer.Answer.TheVariants.{Done, Topology, Script, Memory, TooLong, Room, Closed}
use Rattle.ide_session.specs.declared.answer.Answer.TheVariants.{Open, Absent}

abbrev pub answer_code_of : Answer → ℕ
answer_code_of Done = 0
answer_code_of Topology = 3
answer_code_of Script = 4
answer_code_of Memory = 7
answer_code_of TooLong = 8
answer_code_of Room = 9
answer_code_of Closed = 10
answer_code_of Open = 11
answer_code_of Absent = 12

-- a call ended with the number of an answer, and what that answer says is so
pub record AnswersWithCode (Came : Answer → Type 0) (code : ℕ) : Type 0 where
  pub answer : Answer
  pub code_is : code ≡ answer_code_of answer
  pub came : Came answer
