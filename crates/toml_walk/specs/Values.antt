-- Numbers, truth values and texts.
use Rattle.std.specs.Prelude.{◌*◌, ℕ, ℤ, pos, negsuc, Bool, nat_le, List, [], ◌∷◌, length, Option, None, Result, Ok}
use Rattle.std.specs.Prelude.{Err, if◌then◌else◌}
use Rattle.std.specs.Result.{result_ok}
use Rattle.hex.specs.Hex.{decode_of, decode_sized}
use Rattle.toml.specs.Data.{Data, as_integer, as_bool, as_str}
use Rattle.toml_walk.specs.declared.bounds.Bounds.{Bounds}
use Rattle.toml_walk.specs.declared.fault.PlanFault.{PlanFault}
use Rattle.toml_walk.specs.declared.fault.KeyFault.TheVariants.{Kind, Range, Limit}
use Rattle.toml_walk.specs.Fault.{◌>>=◌, refused, or_fault}
use Rattle.toml_walk.specs.Paths.{Path, Place}
use Rattle.toml_walk.specs.Bounds.{admits}
use Rattle.toml_walk.specs.Walk.{Text, Reader, values_of}

-- any number
abbrev pub integer : Reader ℤ
integer path d = or_fault (as_integer d) (refused path Kind)

abbrev pub bounded_number : Bounds → Path → ℤ → Result ℕ PlanFault
bounded_number b path (pos n) = if admits b n then Ok n else Err (refused path (Range (pos n)))
bounded_number b path (negsuc n) = Err (refused path (Range (negsuc n)))

-- a number within bounds
abbrev pub number : Bounds → Reader ℕ
number b path d = do
  z ← integer path d
  bounded_number b path z

-- true or false
abbrev pub truth : Reader Bool
truth path d = or_fault (as_bool d) (refused path Kind)

abbrev pub text : Reader Text
text path d = or_fault (as_str d) (refused path Kind)

-- a fault of a text: its length in bytes
abbrev pub or_length : {A : Type 0} → Path → Text → Option A → Result A PlanFault
or_length path t found = or_fault found (refused path (Range (pos (length t))))

-- the 32 bytes of 64 hex digits
abbrev pub key_bytes : Reader (List ℕ)
key_bytes path d = do
  t ← text path d
  or_length path t (result_ok (decode_sized t 32))

-- the bytes of an even number of hex digits, up to so many bytes
abbrev pub hex_bytes : ℕ → Reader (List ℕ)
hex_bytes most path d = do
  t ← text path d
  if nat_le (length t) (2 * most) then or_length path t (result_ok (decode_of t)) else or_length path t None

-- two numbers, each within bounds of its own
abbrev pub both : Bounds → Bounds → Path → Data → Data → Result (ℕ × ℕ) PlanFault
both first last path d e = do
  m ← number first (Place 0 ∷ path) d
  n ← number last (Place 1 ∷ path) e
  Ok (m, n)

-- a list of two numbers: more are Limit, fewer are Range, and so are two if none are allowed
abbrev pub two_in_list : Bool → Bounds → Bounds → Path → List Data → Result (ℕ × ℕ) PlanFault
two_in_list allowed first last path [] = Err (refused path (Range (pos 0)))
two_in_list allowed first last path (d ∷ []) = Err (refused path (Range (pos 1)))
two_in_list allowed first last path (d ∷ e ∷ []) = if allowed then both first last path d e else
    Err (refused path (Range (pos 2)))
two_in_list allowed first last path (d ∷ e ∷ f ∷ ds) = Err (refused path Limit)

abbrev pub two : Bool → Bounds → Bounds → Reader (ℕ × ℕ)
two allowed first last path d = do
  ds ← values_of path d
  two_in_list allowed first last path ds
