-- The streams that interfaces are bound to (TDISP, PCI Express Base 6.0 chapter 11, in this profile).
use Rattle.std.specs.Prelude.{ℕ, ◌==◌, Bool}
use Rattle.ide_types.specs.declared.binding.Binding.{Binding}

abbrev pub is_binding_on : ℕ → Binding → Bool
is_binding_on stream b = b.stream == stream
