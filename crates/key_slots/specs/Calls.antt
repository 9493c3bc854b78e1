-- What key management asks of the two key slots of a sub-stream. A key set is said by whether it is set 1.
use Rattle.std.specs.Prelude.{ℕ, Bool, List}

-- KEY_PROG puts a key into the slot, under the draw that it came from; GO takes it into use; STOP empties the slot
pub data KeyCall : Type 0 where
  Program : (set : Bool) (key : List ℕ) (draw : ℕ) → KeyCall
  Go : (set : Bool) → KeyCall
  Stop : (set : Bool) → KeyCall
