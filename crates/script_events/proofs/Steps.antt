-- Words that are read one after the other.
use Rattle.std.proofs.Common.{true, false, ◌≡◌, Bool, Option, Some, None, Result, Ok, Err, refl, sym, subst}
use Rattle.std.specs.Prelude.{if◌then◌else◌}
use Rattle.std.specs.Option.{ok_or, unwrap_or, option_map}
use Rattle.std.specs.Str.{bytes_eq}
use Rattle.std.proofs.lemmas.Slice.Eq.{bytes_eq-Decides}
use Rattle.ide_types.specs.Names.{Text}
use Rattle.script_events.specs.Terms.{LineFault}
use Rattle.script_events.specs.Parse.{◌>>=◌}

pub err_ok : {A : Type 0} (f : LineFault) (a : A) → ◌≡◌ {A = Result A LineFault} (Err f) (Ok a) → ⊥
err_ok f a e = cc

pub ok_err : {A : Type 0} (a : A) (f : LineFault) → ◌≡◌ {A = Result A LineFault} (Ok a) (Err f) → ⊥
ok_err a f e = cc

pub ok_ok : {A : Type 0} (a b : A) → ◌≡◌ {A = Result A LineFault} (Ok a) (Ok b) → a ≡ b
ok_ok a b e = cc

pub err_err : {A : Type 0} (f g : LineFault) → ◌≡◌ {A = Result A LineFault} (Err f) (Err g) → f ≡ g
err_err f g e = cc

pub some_some : {A : Type 0} (a b : A) → Some a ≡ Some b → a ≡ b
some_some a b e = cc

pub none_some : {A : Type 0} (a : A) → None ≡ Some a → ⊥
none_some a e = cc

pub false_true : false ≡ true → ⊥
false_true e = cc

pub same_text : (a b : Text) → bytes_eq a b ≡ true → a ≡ b
same_text a b e = (bytes_eq-Decides a b).0 e

-- a step that gave a value, and what it goes on with
pub next_of : {A B : Type 0} (x : Option A) (f : LineFault) (g : A → Result B LineFault) (b : B) → (ok_or x f >>= g)
    ≡ Ok b → (a : A) × (x ≡ Some a) × (g a ≡ Ok b)
next_of None f g b e = absurd (err_ok f b e)
next_of (Some a) f g b e = (a, refl, e)

pub next_result : {A B : Type 0} (x : Result A LineFault) (g : A → Result B LineFault) (b : B) → (x >>= g) ≡ Ok b
    → (a : A) × (x ≡ Ok a) × (g a ≡ Ok b)
next_result (Err f) g b e = absurd (err_ok f b e)
next_result (Ok a) g b e = (a, refl, e)

-- what is said of an answer holds after one test of the first word, if it does in both cases
pub tested : {A : Type 0} (P : Text → A → Type 0) (first word : Text) (x : A) (y : Option A) (z : A)
    → P word x → P first (unwrap_or y z) → P first (unwrap_or (if bytes_eq first word then Some x else y) z)
tested P first word x y z this others = by_test (bytes_eq first word) refl
  where
    by_test : (b : Bool) → bytes_eq first word ≡ b → P first (unwrap_or (if b then Some x else y) z)
    by_test true same = subst (λ w. P w x) (sym (same_text first word same)) this
    by_test false other = others

pub tested_last : {A : Type 0} (P : Text → A → Type 0) (first word : Text) (x y : A) → P word x → P first y
    → P first (if bytes_eq first word then x else y)
tested_last P first word x y this others = by_test (bytes_eq first word) refl
  where
    by_test : (b : Bool) → bytes_eq first word ≡ b → P first (if b then x else y)
    by_test true same = subst (λ w. P w x) (sym (same_text first word same)) this
    by_test false other = others

-- of a family of answers, each of which is made another
pub tested_family : {A B : Type 0} (P : Text → B → Type 0) (make : A → B) (first word : Text) (x : A) (y : Option A)
    (z : B)
    → P word (make x) → P first (unwrap_or (option_map make y) z)
    → P first (unwrap_or (option_map make (if bytes_eq first word then Some x else y)) z)
tested_family P make first word x y z this others = by_test (bytes_eq first word) refl
  where
    by_test : (b : Bool) → bytes_eq first word ≡ b → P first (unwrap_or (option_map make (if b then Some x else y)) z)
    by_test true same = subst (λ w. P w (make x)) (sym (same_text first word same)) this
    by_test false other = others
