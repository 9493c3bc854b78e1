-- What a unit becomes when its bodies were lent for writing.
use Rattle.std.specs.Prelude.{ℕ, List}
use Rattle.std.specs.Borrow.{Lends, MutBor, Fml, Array, u8}
use Rattle.ide_prefix.specs.CollectedUnits.{Collected, with_bodies}
use Rattle.ide_prefix.specs.contracts.unit_buf.UnitBuf.{the_row}

-- the unit ends with its bodies overwritten by the bytes that `body` holds last
abbrev pub LendsBody : MutBor Collected → MutBor (List ℕ) → Fml
LendsBody unit body = Lends the_row (Array u8 0) unit body (with_bodies unit.now)
