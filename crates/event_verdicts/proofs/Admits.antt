-- What it means that the binding of an interface admits something.
use Rattle.std.proofs.Common.{◌≡◌, ℕ, Bool, true, false, not, nat_lt, if◌then◌else◌, Option, Some, None, refl}
use Rattle.ide_types.specs.declared.binding.Binding.{Binding}
use Rattle.event_verdicts.specs.Terms.{WrongStream, Stale}
use Rattle.event_verdicts.specs.Causes.{is_stream, binding_cause}

pub record Admits (b : Binding) (taken : Option ℕ) (draw : ℕ) : Type 0 where
  pub stream : is_stream b.stream taken ≡ true
  pub fresh : nat_lt draw b.floor ≡ false

pub binding_admits : (b : Binding) (taken : Option ℕ) (draw : ℕ) → binding_cause b taken draw ≡ None
    → Admits b taken draw
binding_admits b taken draw is = by (is_stream b.stream taken) (nat_lt draw b.floor) refl refl is
  where
    by : (on older : Bool) → is_stream b.stream taken ≡ on → nat_lt draw b.floor ≡ older
        → (if not on then Some WrongStream else if older then Some Stale else None) ≡ None → Admits b taken draw
    by false older s f is = absurd cc
    by true true s f is = absurd cc
    by true false s f is = record { stream = s; fresh = f }
