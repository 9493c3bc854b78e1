-- What is known of a value that was read.
use Rattle.std.proofs.Common.{◌≡◌, ◌∙◌, sym, ap, refl, ℕ, ℤ, pos, negsuc, ◌+◌, ◌*◌, ◌≤◌, ◌<◌, ◌&&◌, ◌||◌, not, nat_le}
use Rattle.std.proofs.Common.{nat_lt, List, [], ◌∷◌, length, Bool, true, false, Option, Some, None, Result, Ok, Err}
use Rattle.std.proofs.Common.{cond, subst, arith}
use Rattle.std.specs.Prelude.{IfSome}
use Rattle.std.specs.List.{All}
use Rattle.std.specs.Result.{result_ok}
use Rattle.std.proofs.lemmas.Bool.{leb-true, ltb-false}
use Rattle.std.proofs.lemmas.List.Elements.{All-nil, All-cons, All-from_get_or}
use Rattle.hex.specs.Hex.{decode_of, decode_sized, IsBytes}
use Rattle.hex.specs.declared.error.FromHexError.{FromHexError}
use Rattle.hex.proofs.HexLemmas.{decode_of-ok, decode_sized-ok, decode_sized-twice}
use Rattle.toml.specs.Data.{Data, Members, get_member, as_table}
use Rattle.toml_walk.specs.declared.bounds.Bounds.{Bounds}
use Rattle.toml_walk.specs.declared.list.CountRange.{CountRange}
use Rattle.toml_walk.specs.declared.fault.PlanFault.{PlanFault}
use Rattle.toml_walk.specs.declared.fault.KeyFault.TheVariants.{Range, Limit}
use Rattle.toml_walk.specs.Fault.{◌>>=◌, refused, or_fault}
use Rattle.toml_walk.specs.Paths.{Path, Place}
use Rattle.toml_walk.specs.Bounds.{admits, has_form}
use Rattle.toml_walk.specs.Walk.{Text, Reader, required_value, found_or, optional, table, values_of, is_past}
use Rattle.toml_walk.specs.Walk.{within_span, each, list, given_value}
use Rattle.toml_walk.specs.Values.{integer, bounded_number, number, text, or_length, key_bytes, hex_bytes, both}
use Rattle.toml_walk.specs.Values.{two_in_list, two}

-- what a reading gives, if it gives a value
pub record Holds {A : Type 0} (P : A → Type 0) (r : Result A PlanFault) : Type 0 where
  pub given : (x : A) → r ≡ Ok x → P x

pub ok_same : {A : Type 0} (x y : A) → let l : Result A PlanFault = Ok x in let r : Result A PlanFault = Ok y in l ≡ r
    → x ≡ y
ok_same {A} x y e = ap (λ (r : Result A PlanFault). elim r [ Ok z ↦ z | Err f ↦ x ]) e

pub gives : {A : Type 0} (P : A → Type 0) (x : A) → P x → Holds P (Ok x)
gives P x p = record { given = λ y e. subst P (ok_same x y e) p }

pub faulty : {A : Type 0} (P : A → Type 0) (f : PlanFault) → Holds P (Err f)
faulty P f = record { given = λ y e. absurd (let no : ⊥ = cc in no) }

pub anything : {A : Type 0} (r : Result A PlanFault) → Holds (λ _. Unit {0}) r
anything r = record { given = λ y e. tt }

-- one reading after another
pub next : {A B : Type 0} (Q : A → Type 0) (P : B → Type 0) (r : Result A PlanFault) (f : A → Result B PlanFault)
    → Holds Q r → ((x : A) → Q x → Holds P (f x)) → Holds P (r >>= f)
next Q P (Ok x) f q h = h x (q.given x refl)
next Q P (Err e) f q h = faulty P e

pub weaker : {A : Type 0} (P Q : A → Type 0) (r : Result A PlanFault) → Holds P r → ((x : A) → P x → Q x) → Holds Q r
weaker P Q r h w = record { given = λ x e. w x (h.given x e) }

-- a value that is given if a test holds
pub checked : {A : Type 0} (P : A → Type 0) (b : Bool) (x : A) (f : PlanFault) → (b ≡ true → P x)
    → Holds P (cond b (Ok x) (Err f))
checked P true x f h = gives P x (h refl)
checked P false x f h = faulty P f

pub both_true : (a b : Bool) → (a && b) ≡ true → (a ≡ true) × (b ≡ true)
both_true true b h = (refl, h)
both_true false b h = cc

-- a number is within its bounds
pub record Admitted (b : Bounds) (n : ℕ) : Type 0 where
  pub least : b.least ≤ n
  pub most : n ≤ b.most
  pub form : has_form b.form n ≡ true

pub admitted : (b : Bounds) (n : ℕ) → admits b n ≡ true → Admitted b n
admitted b n h =
    let low = both_true (nat_le b.least n) _ h in
    let high = both_true (nat_le n b.most) _ low.1 in
    record { least = leb-true _ _ low.0; most = leb-true _ _ high.0; form = high.1 }

bounded_holds : (b : Bounds) (path : Path) (z : ℤ) → Holds (Admitted b) (bounded_number b path z)
bounded_holds b path (pos n) = checked (Admitted b) (admits b n) n _ (admitted b n)
bounded_holds b path (negsuc n) = faulty (Admitted b) _

pub number_holds : (b : Bounds) (path : Path) (d : Data) → Holds (Admitted b) (number b path d)
number_holds b path d = next (λ _. Unit {0}) (Admitted b) (integer path d) (bounded_number b path) (anything _)
    (λ z _. bounded_holds b path z)

or_fault_holds : {A : Type 0} (P : A → Type 0) (o : Option A) (f : PlanFault) → ((x : A) → o ≡ Some x → P x)
    → Holds P (or_fault o f)
or_fault_holds P None f h = faulty P f
or_fault_holds P (Some x) f h = gives P x (h x refl)

spelled : (r : Result (List ℕ) FromHexError) (bytes : List ℕ) → result_ok r ≡ Some bytes → r ≡ Ok bytes
spelled (Ok x) bytes e = ap (λ (o : Option (List ℕ)). elim o [ Some y ↦ Ok y | None ↦ Ok x ]) e
spelled (Err f) bytes e = cc

all_bytes : (bytes : List ℕ) → IsBytes bytes → All (λ b. b < 256) bytes
all_bytes bytes h = All-from_get_or (λ b. b < 256) bytes 0 (λ i _. h i)

-- 32 bytes
pub key_holds : (path : Path) (d : Data) → Holds (λ key. (length key ≡ 32) × All (λ b. b < 256) key) (key_bytes path d)
key_holds path d = next (λ _. Unit {0}) _ (text path d) (λ t. or_length path t (result_ok (decode_sized t 32)))
    (anything _)
    (λ t _. or_fault_holds _ _ _ (λ key e.
    let sized = spelled (decode_sized t 32) key e in
    let long = decode_sized-ok t 32 key sized in
    let ok = decode_of-ok t key (sym (decode_sized-twice t 32 long) ∙ sized) in
    (omega (arith, ok.2, long), all_bytes key ok.3)))

short_holds : (most : ℕ) (path : Path) (t : Text) (b : Bool) → nat_le (length t) (2 * most) ≡ b
    → Holds (λ bytes. (length bytes ≤ most) × All (λ c. c < 256) bytes)
    (cond b (or_length path t (result_ok (decode_of t))) (or_length path t None))
short_holds most path t true h = or_fault_holds _ (result_ok (decode_of t)) _ (λ bytes e.
    let ok = decode_of-ok t bytes (spelled (decode_of t) bytes e) in
    let short = leb-true (length t) (2 * most) h in
    (omega (arith, ok.2, short), all_bytes bytes ok.3))
short_holds most path t false h = faulty _ _

-- up to so many bytes
pub hex_holds : (most : ℕ) (path : Path) (d : Data) → Holds (λ bytes. (length bytes ≤ most) × All (λ b. b < 256) bytes)
    (hex_bytes most path d)
hex_holds most path d = next (λ _. Unit {0}) _ (text path d)
    (λ t. cond (nat_le (length t) (2 * most)) (or_length path t (result_ok (decode_of t))) (or_length path t None))
    (anything _)
    (λ t _. short_holds most path t (nat_le (length t) (2 * most)) refl)

-- a key's value, and its default
pub required_holds : {A : Type 0} (P : A → Type 0) (t : Path) (ms : Members) (name : Text) (read : Reader A)
    → ((path : Path) (d : Data) → Holds P (read path d)) → Holds P (required_value t ms name read)
required_holds P t ms name read h = next (λ _. Unit {0}) P (or_fault (get_member name ms) _) (λ d. read _ d)
    (anything _) (λ d _. h _ d)

found_holds : {A : Type 0} (P : A → Type 0) (path : Path) (default : A) (read : Reader A) (o : Option Data) → P default
    → ((path : Path) (d : Data) → Holds P (read path d)) → Holds P (found_or path default read o)
found_holds P path default read None p h = gives P default p
found_holds P path default read (Some d) p h = h path d

pub optional_holds : {A : Type 0} (P : A → Type 0) (t : Path) (ms : Members) (name : Text) (default : A)
    (read : Reader A) → P default → ((path : Path) (d : Data) → Holds P (read path d))
    → Holds P (optional t ms name default read)
optional_holds P t ms name default read p h = found_holds P _ default read (get_member name ms) p h

pub given_holds : {A : Type 0} (P : A → Type 0) (read : Reader A) → ((path : Path) (d : Data) → Holds P (read path d))
    → (path : Path) (d : Data) → Holds (λ (o : Option A). IfSome o P) (given_value read path d)
given_holds {A} P read h path d = next P (λ (o : Option A). IfSome o P) (read path d) (λ x. Ok (Some x)) (h path d)
    (λ x p. gives (λ (o : Option A). IfSome o P) (Some x) p)

pub table_holds : {A : Type 0} (P : A → Type 0) (keys : Path → Members → Result A PlanFault)
    → ((t : Path) (ms : Members) → Holds P (keys t ms)) → (path : Path) (d : Data) → Holds P (table keys path d)
table_holds P keys h path d = next (λ _. Unit {0}) P (or_fault (as_table d) _) (λ ms. keys _ ms) (anything _)
    (λ ms _. h _ ms)

-- the elements of a list
pub record Listed {A : Type 0} (span : CountRange) (P : A → Type 0) (xs : List A) : Type 0 where
  pub least : span.least ≤ length xs
  pub most : is_past span.most (length xs) ≡ false
  pub each : All P xs

each_holds : {A : Type 0} (P : A → Type 0) (one : Reader A) → ((path : Path) (d : Data) → Holds P (one path d))
    → (path : Path) (i : ℕ) (ds : List Data) → Holds (λ xs. (length xs ≡ length ds) × All P xs) (each one path i ds)
each_holds P one h path i [] = gives _ [] (refl, All-nil P)
each_holds {A} P one h path i (d ∷ ds) =
    next P _ (one (Place i ∷ path) d) (λ x. each one path (i + 1) ds >>= λ xs. Ok (x ∷ xs)) (h (Place i ∷ path) d)
    (λ x p.
    next (λ (xs : List A). (length xs ≡ length ds) × All P xs) _ (each one path (i + 1) ds) (λ xs. Ok (x ∷ xs))
    (each_holds P one h path (i + 1) ds) (λ xs ps.
    gives _ (x ∷ xs) (grind (arith, ps.0), All-cons P x xs p ps.1)))

neither : (a b : Bool) → (a || b) ≡ false → a ≡ false
neither true b h = cc
neither false b h = refl

counted_holds : (span : CountRange) (path : Path) (ds : List Data) (past few : Bool) → is_past span.most (length ds)
    ≡ past
    → (nat_lt (length ds) span.least || (not span.allowed && nat_lt 0 (length ds))) ≡ few
    → Holds (λ (es : List Data). (span.least ≤ length es) × (is_past span.most (length es) ≡ false))
    (cond past (Err (refused path Limit)) (cond few (Err (refused path (Range (pos (length ds))))) (Ok ds)))
counted_holds span path ds true few p f = faulty _ _
counted_holds span path ds false true p f = faulty _ _
counted_holds span path ds false false p f = gives _ ds (ltb-false (length ds) span.least (neither _ _ f), p)

pub list_holds : {A : Type 0} (span : CountRange) (P : A → Type 0) (one : Reader A)
    → ((path : Path) (d : Data) → Holds P (one path d)) → (path : Path) (d : Data)
    → Holds (Listed span P) (list span one path d)
list_holds {A} span P one h path d =
    next (λ _. Unit {0}) (Listed span P) (values_of path d)
    (λ ds. within_span span path ds >>= λ cs. each one path 0 cs) (anything _) (λ ds _.
    next (λ (es : List Data). (span.least ≤ length es) × (is_past span.most (length es) ≡ false)) (Listed span P)
    (within_span span path ds) (λ cs. each one path 0 cs)
    (counted_holds span path ds (is_past span.most (length ds)) _ refl refl) (λ cs q.
    weaker _ (Listed span P) (each one path 0 cs) (each_holds P one h path 0 cs) (λ xs r.
    record { least = rw r.0 q.0; most = rw r.0 q.1; each = r.1 })))

both_holds : (first last : Bounds) (path : Path) (d e : Data)
    → Holds (λ (p : ℕ × ℕ). Admitted first p.0 × Admitted last p.1) (both first last path d e)
both_holds first last path d e =
    next (Admitted first) _ (number first (Place 0 ∷ path) d) (λ m. number last (Place 1 ∷ path) e >>= λ n. Ok (m, n))
    (number_holds first _ d) (λ m p.
    next (Admitted last) _ (number last (Place 1 ∷ path) e) (λ n. Ok (m, n)) (number_holds last _ e)
    (λ n q. gives _ (m, n) (p, q)))

two_in_holds : (allowed : Bool) (first last : Bounds) (path : Path) (ds : List Data)
    → Holds (λ (p : ℕ × ℕ). Admitted first p.0 × Admitted last p.1) (two_in_list allowed first last path ds)
two_in_holds allowed first last path [] = faulty _ _
two_in_holds allowed first last path (d ∷ []) = faulty _ _
two_in_holds true first last path (d ∷ e ∷ []) = both_holds first last path d e
two_in_holds false first last path (d ∷ e ∷ []) = faulty _ _
two_in_holds allowed first last path (d ∷ e ∷ f ∷ ds) = faulty _ _

-- two numbers, each within its bounds
pub two_holds : (allowed : Bool) (first last : Bounds) (path : Path) (d : Data)
    → Holds (λ (p : ℕ × ℕ). Admitted first p.0 × Admitted last p.1) (two allowed first last path d)
two_holds allowed first last path d = next (λ _. Unit {0}) _ (values_of path d)
    (λ ds. two_in_list allowed first last path ds) (anything _) (λ ds _. two_in_holds allowed first last path ds)
