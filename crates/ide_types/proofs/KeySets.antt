-- A key set and its K bit say the same.
use Rattle.std.proofs.Common.{◌≡◌, Bool, true, false, refl}
use Rattle.ide_types.specs.declared.key_set.KeySet.{KeySet}
use Rattle.ide_types.specs.declared.key_set.KeySet.TheVariants.{Zero, One}
use Rattle.ide_types.specs.KeySets.{is_one, key_set}

pub one_of_set : (k : Bool) → is_one (key_set k) ≡ k
one_of_set false = refl
one_of_set true = refl

pub set_of_one : (set : KeySet) → key_set (is_one set) ≡ set
set_of_one Zero = refl
set_of_one One = refl
