-- The first fault of a walk, and what a call that gives one promises.
use Rattle.std.specs.Prelude.{◌≡◌, Option, Some, None, Result, Ok, Err}
use Rattle.toml_walk.specs.declared.fault.KeyFault.{KeyFault}
use Rattle.toml_walk.specs.declared.fault.PlanFault.{PlanFault}
use Rattle.toml_walk.specs.declared.fault.PlanFault.TheVariants.{At}
use Rattle.toml_walk.specs.declared.fault.PlanError.{PlanError}
use Rattle.toml_walk.specs.declared.fault.PlanError.TheVariants as errors
use Rattle.toml_walk.specs.Paths.{Path, path_text}

-- the next reading, of the value that was read; the first fault ends a walk
infixl 10 ◌>>=◌
abbrev pub ◌>>=◌ : {A B : Type 0} → Result A PlanFault → (A → Result B PlanFault) → Result B PlanFault
(Ok x) >>= f = f x
(Err e) >>= f = Err e

-- the error is the fault that was due, or want of memory
abbrev pub Fails : {Y : Type 0} → PlanError → Result Y PlanFault → Type 0
Fails errors.Memory due = Unit {0}
Fails (errors.Fault f) due = due ≡ Err f

-- the answer is the value that was due, or the fault that was due, or want of memory
abbrev pub Gives : {X Y : Type 0} → (X → Y) → Result X PlanError → Result Y PlanFault → Type 0
Gives view (Ok x) due = due ≡ Ok (view x)
Gives view (Err e) due = Fails e due

-- the fault of the key at a path
abbrev pub refused : Path → KeyFault → PlanFault
refused path fault = At (path_text path) fault

-- the error is this fault, or want of memory
abbrev pub Tells : PlanError → PlanFault → Type 0
Tells errors.Memory due = Unit {0}
Tells (errors.Fault f) due = due ≡ f

-- the value, or the fault if there is none
abbrev pub or_fault : {A : Type 0} → Option A → PlanFault → Result A PlanFault
or_fault None f = Err f
or_fault (Some x) f = Ok x
