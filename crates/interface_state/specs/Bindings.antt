-- The streams between two devices that an interface is bound to (TDISP, PCI Express Base 6.0 chapter 11, in this
-- profile).
use Rattle.std.specs.Prelude.{ℕ, not, Bool, List, filter, find, Option}
use Rattle.std.specs.List.{list_any}
use Rattle.std.specs.Option.{option_map}
use Rattle.ide_types.specs.declared.binding.Binding.{Binding}
pub use Rattle.ide_types.specs.Bindings.{is_binding_on}

-- a binding to the stream is among them
abbrev pub binds : ℕ → List Binding → Bool
binds stream bs = list_any (is_binding_on stream) bs

-- without those to the stream
abbrev pub without : ℕ → List Binding → List Binding
without stream bs = filter (λ b. not (is_binding_on stream b)) bs

-- the least draw under which writes on the stream are admitted, if one of them is to it
abbrev pub floor_on : ℕ → List Binding → Option ℕ
floor_on stream bs = option_map (λ b. b.floor) (find (is_binding_on stream) bs)
