-- The floor on a stream, by the bindings of an interface.
use Rattle.std.proofs.Common.{◌≡◌, ℕ, ◌==◌, ◌||◌, ◌⊎◌, inl, inr, Bool, true, false, List, [], ◌∷◌, ◌++◌, Option, Some}
use Rattle.std.proofs.Common.{None, if◌then◌else◌, refl, sym, ap}
use Rattle.std.specs.Prelude.{find}
use Rattle.std.specs.Option.{option_map}
use Rattle.std.proofs.lemmas.Bool.{eqb-true}
use Rattle.ide_types.specs.declared.binding.Binding.{Binding}
use Rattle.interface_state.specs.Bindings.{floor_on, binds, is_binding_on}
use Rattle.interface_state.specs.Machine.{own_binding}

-- by whether a binding is to the stream
abbrev pub floor_or : Bool → Binding → Option Binding → Option ℕ
floor_or here b o = option_map (λ (z : Binding). z.floor) (if here then Some b else o)

pub floor_some : (stream floor : ℕ) (bs : List Binding) → floor_on stream bs ≡ Some floor → binds stream bs ≡ true
floor_some stream floor [] is = absurd cc
floor_some stream floor (b ∷ bs) is = by (b.stream == stream) (floor_some stream floor bs) is
  where
    by : (c : Bool) → (floor_on stream bs ≡ Some floor → binds stream bs ≡ true)
        → floor_or c b (find (is_binding_on stream) bs) ≡ Some floor → (c || binds stream bs) ≡ true
    by true later is = refl
    by false later is = later is

pub both_floors : (stream floor : ℕ) (cs bs : List Binding) → floor_on stream (cs ++ bs) ≡ Some floor
    → (floor_on stream cs ≡ Some floor) ⊎ (floor_on stream bs ≡ Some floor)
both_floors stream floor [] bs is = inr is
both_floors stream floor (a ∷ cs) bs is = by (a.stream == stream) (both_floors stream floor cs bs) is
  where
    by : (c : Bool) → (floor_on stream (cs ++ bs) ≡ Some floor
        → (floor_on stream cs ≡ Some floor) ⊎ (floor_on stream bs ≡ Some floor))
        → floor_or c a (find (is_binding_on stream) (cs ++ bs)) ≡ Some floor
        → (floor_or c a (find (is_binding_on stream) cs) ≡ Some floor) ⊎ (floor_on stream bs ≡ Some floor)
    by true later is = inl is
    by false later is = later is

-- of the stream of a link
pub own_floor : (stream floor own : ℕ) (o : Option ℕ) → floor_on stream (own_binding own o) ≡ Some floor
    → (o ≡ Some stream) × (floor ≡ own)
own_floor stream floor own None is = absurd cc
own_floor stream floor own (Some s) is = by (s == stream) refl is
  where
    by : (c : Bool) → (s == stream) ≡ c → floor_or c (record { stream = s; floor = own }) None ≡ Some floor
        → (Some s ≡ Some stream) × (floor ≡ own)
    by true at is = (ap Some (eqb-true s stream at), sym (cc (is)))
    by false at is = absurd cc
