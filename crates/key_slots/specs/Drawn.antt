-- A key with the number of the draw that it came from.
use Rattle.std.specs.Prelude.{ℕ, List}

pub record DrawnKey : Type 0 where
  pub key : List ℕ
  pub draw : ℕ
