-- Which numbers a key takes.
use Rattle.std.specs.Prelude.{ℕ, ◌+◌, ◌%◌, ◌==◌, ◌&&◌, ◌||◌, nat_le, Bool, true}
use Rattle.toml_walk.specs.declared.bounds.Form.{Form}
use Rattle.toml_walk.specs.declared.bounds.Form.TheVariants.{Any, Pages, Mebibytes, LastOfMebibyte, UnitMode}
use Rattle.toml_walk.specs.declared.bounds.Bounds.{Bounds}

-- the greatest number that TOML has
abbrev pub greatest : ℕ
greatest = 9223372036854775807

-- from the least to the most of them
abbrev pub within : ℕ → ℕ → Bounds
within least most = record { least = least; most = most; form = Any }

-- the same, of a form
abbrev pub bounds_of_form : ℕ → ℕ → Form → Bounds
bounds_of_form least most form = record { least = least; most = most; form = form }

abbrev pub has_form : Form → ℕ → Bool
has_form Any n = true
has_form Pages n = n % 4096 == 0
has_form Mebibytes n = n % 1048576 == 0
has_form LastOfMebibyte n = (n + 1) % 1048576 == 0
has_form UnitMode n = (n == 1 || n == 2) || (n == 4 || n == 8)

-- the number is one of them
abbrev pub admits : Bounds → ℕ → Bool
admits b n = nat_le b.least n && (nat_le n b.most && has_form b.form n)
