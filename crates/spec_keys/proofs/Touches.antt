-- Touches that come when they may: a KEY_PROG for a set that has no newer key than the other, a GO whose key is kept, a
-- use of a key that is Live or On.
use Rattle.spec_keys.proofs.Terms.{◌≡◌, ℕ, Bool, true, false, List, [], ◌∷◌, not, Touch, Program, Go, Seal, Accept}
use Rattle.spec_keys.proofs.Terms.{UseFits}
use Rattle.spec_keys.proofs.Shapes.{Shape, Bare, Waiting, Alone, Following, Both, IsAt}

-- set k may be programmed in such a shape
pub data Programs (k : Bool) : Shape → Type 0 where
  bare_programs : Programs k Bare
  waiting_programs : (j : ℕ) → Programs k (Waiting k j)
  other_programs : (i : ℕ) → Programs k (Alone (not k) i)
  following_programs : (i j : ℕ) → Programs k (Following k i j)
  older_programs : (e i : ℕ) → Programs k (Both (not k) e i)

-- draw j in set k may get its GO in such a shape
pub data Goes (k : Bool) (j : ℕ) : Shape → Type 0 where
  waiting_goes : Goes k j (Waiting k j)
  alone_goes : Goes k j (Alone k j)
  following_goes : (i : ℕ) → Goes k j (Following k i j)
  both_goes : (i : ℕ) → Goes k j (Both k i j)

abbrev pub TouchFits : Bool → List Touch → Shape → Touch → Type 0
TouchFits s ts sh (Program k j) = Programs k sh
TouchFits s ts sh (Go k j) = Goes k j sh
TouchFits s ts sh (Seal j m) = (s ≡ true) × UseFits s ts (Seal j m)
TouchFits s ts sh (Accept j) = (s ≡ false) × UseFits s ts (Accept j)
TouchFits s ts sh _ = Unit {0}

pub record Comes (s : Bool) (ts : List Touch) (t : Touch) : Type 0 where
  pub shape : Shape
  pub is : IsAt s ts shape
  pub may : TouchFits s ts shape t

-- each of these touches, in order
abbrev pub AllCome : Bool → List Touch → List Touch → Type 0
AllCome s ts [] = Unit {0}
AllCome s ts (t ∷ more) = Comes s ts t × AllCome s (t ∷ ts) more
