-- Key sets by number, and by whether they are set 1.
use Rattle.std.specs.Prelude.{ℕ, ◌==◌, Bool, true, false}
use Rattle.ide_types.specs.declared.key_set.KeySet.{KeySet}
use Rattle.ide_types.specs.declared.key_set.KeySet.TheVariants.{Zero, One}

abbrev pub set_number : KeySet → ℕ
set_number Zero = 0
set_number One = 1

-- key set 1
abbrev pub is_one : KeySet → Bool
is_one set = set_number set == 1

-- the key set that a K bit names
abbrev pub key_set : Bool → KeySet
key_set false = Zero
key_set true = One
