-- What a verdict sees of the effects of a unit, and that an arrival without a unit has none.
use Rattle.std.proofs.Common.{◌≡◌, ℕ, List, [], refl}
use Rattle.ide_types.specs.declared.port.PortName.{PortName}
use Rattle.ide_port.specs.declared.answer.Arrival.{Arrival}
use Rattle.ide_port.specs.declared.answer.Arrival.TheVariants as came
use Rattle.event_verdicts.specs.declared.verdict.Effect.{Effect}
use Rattle.event_verdicts.specs.declared.verdict.UnitName.{UnitName}
use Rattle.arrival_verdicts.specs.Verdicts.{arrival_verdict, of_unit}

pub with_unit : (end port : PortName) (a : Arrival) (f : UnitName → List Effect)
    → arrival_verdict end port a (λ unit. of_unit a f) ≡ arrival_verdict end port a f
with_unit end port (came.Malformed fault) f = refl
with_unit end port came.Plain f = refl
with_unit end port (came.Unknown stream) f = refl
with_unit end port (came.Insecure stream) f = refl
with_unit end port (came.NotKeyed stream sub) f = refl
with_unit end port (came.Fail stream sub cause) f = refl
with_unit end port (came.Held unit) f = refl
with_unit end port (came.Accepted unit count) f = refl

pub no_unit : {A : Type 0} (a : Arrival) (f : UnitName → List A)
    → ((unit : UnitName) (count : ℕ) → a ≡ came.Accepted unit count → ⊥) → of_unit a f ≡ []
no_unit (came.Malformed fault) f none = refl
no_unit came.Plain f none = refl
no_unit (came.Unknown stream) f none = refl
no_unit (came.Insecure stream) f none = refl
no_unit (came.NotKeyed stream sub) f none = refl
no_unit (came.Fail stream sub cause) f none = refl
no_unit (came.Held unit) f none = refl
no_unit (came.Accepted unit count) f none = absurd (none unit count refl)
