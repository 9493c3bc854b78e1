-- What one reading gives, another gives as well, up to a relation on what is given.
use Rattle.std.proofs.Common.{◌≡◌, refl, subst, ℕ, ◌+◌, List, [], ◌∷◌, Option, Some, None, Result, Ok, Err}
use Rattle.toml.specs.Data.{Data, Members, as_table}
use Rattle.toml_walk.specs.declared.fault.PlanFault.{PlanFault}
use Rattle.toml_walk.specs.declared.fault.KeyFault.TheVariants.{Kind}
use Rattle.toml_walk.specs.declared.list.CountRange.{CountRange}
use Rattle.toml_walk.specs.Fault.{◌>>=◌, refused, or_fault}
use Rattle.toml_walk.specs.Paths.{Path, Place}
use Rattle.toml_walk.specs.Walk.{Reader, values_of, within_span, each, list, table, found_or}

abbrev result_of : {A : Type 0} → A → Result A PlanFault
result_of x = Ok x

pub record Carries {A B : Type 0} (R : A → B → Type 0) (a : Result A PlanFault) (b : Result B PlanFault) : Type 0 where
  pub given : (x : A) → a ≡ Ok x → (y : B) × (b ≡ Ok y) × R x y

abbrev pub Same : {A : Type 0} → A → A → Type 0
Same x y = x ≡ y

pub gives : {A B : Type 0} (R : A → B → Type 0) (x : A) (y : B) → R x y → Carries R (Ok x) (Ok y)
gives {A} R x y r = record { given = λ z e. (y, refl, subst (λ (w : A). R w y) (same_ok x z e) r) }
  where
    same_ok : (x z : A) → result_of x ≡ result_of z → x ≡ z
    same_ok x z e = cc

pub next : {A B C D : Type 0} (R : A → B → Type 0) (S : C → D → Type 0) (a : Result A PlanFault)
    (b : Result B PlanFault) (f : A → Result C PlanFault) (g : B → Result D PlanFault)
    → Carries R a b → ((x : A) (y : B) → R x y → Carries S (f x) (g y)) → Carries S (a >>= f) (b >>= g)
next R S (Ok x) b f g h k =
    let (y, e, r) = h.given x refl in
    rw e (k x y r)
next R S (Err z) b f g h k = record { given = λ x e. absurd cc }

-- the same first step
pub then : {A C D : Type 0} (S : C → D → Type 0) (a : Result A PlanFault) (f : A → Result C PlanFault)
    (g : A → Result D PlanFault) → ((x : A) → Carries S (f x) (g x)) → Carries S (a >>= f) (a >>= g)
then S (Ok x) f g k = k x
then S (Err z) f g k = record { given = λ x e. absurd cc }

pub itself : {A : Type 0} (a : Result A PlanFault) → Carries Same a a
itself a = record { given = λ x e. (x, e, refl) }

-- the same value, read in two ways
abbrev pub Extends : {A : Type 0} → Reader A → Reader A → Type 0
Extends r s = (path : Path) (d : Data) → Carries Same (r path d) (s path d)

each_extends : {A : Type 0} (r s : Reader A) → Extends r s → (path : Path) (i : ℕ) (ds : List Data)
    → Carries Same (each r path i ds) (each s path i ds)
each_extends r s h path i [] = itself _
each_extends {A} r s h path i (d ∷ ds) =
    next Same Same (r (Place i ∷ path) d) (s (Place i ∷ path) d) _ _ (h (Place i ∷ path) d) (λ x y e.
    next Same Same (each r path (i + 1) ds) (each s path (i + 1) ds) _ _ (each_extends r s h path (i + 1) ds)
    (λ xs ys es.
    gives Same (x ∷ xs) (y ∷ ys) cc))

pub list_extends : {A : Type 0} (span : CountRange) (r s : Reader A) → Extends r s → Extends (list span r) (list span s)
list_extends span r s h path d = then Same (values_of path d) _ _
    (λ ds. then Same (within_span span path ds) _ _ (λ cs. each_extends r s h path 0 cs))

pub table_extends : {A : Type 0} (r s : Path → Members → Result A PlanFault)
    → ((t : Path) (ms : Members) → Carries Same (r t ms) (s t ms)) → Extends (table r) (table s)
table_extends r s h path d = then Same (or_fault (as_table d) (refused path Kind)) _ _ (λ ms. h _ ms)

pub found_extends : {A : Type 0} (path : Path) (default : A) (r s : Reader A) (o : Option Data) → Extends r s
    → Carries Same (found_or path default r o) (found_or path default s o)
found_extends path default r s None h = itself _
found_extends path default r s (Some d) h = h path d
