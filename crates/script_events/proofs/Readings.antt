-- Words that are read from the left, each by its test in the table: a reading that ends in a fault ends at the first
-- word that does not meet its test.
use Rattle.std.proofs.Common.{true, false, ◌≡◌, ◌↔◌, ℕ, List, [], ◌∷◌, Bool, Option, Some, None, Result, Ok, Err, refl}
use Rattle.std.proofs.Common.{sym, ◌∙◌, ap, subst, inl, inr, codes}
use Rattle.std.specs.Prelude.{if◌then◌else◌, is_some}
use Rattle.std.specs.Option.{ok_or, unwrap_or, option_map}
use Rattle.std.specs.Str.{bytes_eq}
use Rattle.ide_types.specs.Names.{Text}
use Rattle.script_events.specs.Terms.{ScriptEvent, Loss, LineFault}
use Rattle.script_events.specs.Terms.fault
use Rattle.script_events.specs.Words.{number_of_word, lost_of_word}
use Rattle.script_events.specs.Parts.{
  ◌>>=◌,
  lost_exchange_in,
  one_number_in,
  two_numbers_in,
  WordTest,
  Row,
  number_test,
}
use Rattle.script_events.specs.Parts.{loss_in, number_and_loss, operation_in, lost_test, word_test, number_tests}
use Rattle.script_events.specs.Parts.{two_number_tests, asked_tests, operation_tests}
use Rattle.script_events.specs.Faults.{FirstOff, RowFault, TableFault}
use Rattle.script_events.proofs.Steps.{ok_err, err_err, false_true}

-- ---- one way: a reading that ends in a fault ends in the first

-- the reading of these words ends in a fault exactly if that is the first off these tests
abbrev pub Reads : {A : Type 0} → List WordTest → List Text → Result A LineFault → Type 0
Reads places words answer = (f : LineFault) → (answer ≡ Err f) ↔ FirstOff places words f

-- all words are spelled
pub end_reads : {A : Type 0} (x : A) → Reads [] [] (Ok x)
end_reads x f = (ok_err x f, λ off. absurd off)

-- a word that does not meet its test
pub off_reads : {A : Type 0} (p : WordTest) (w : Text) (ps : List WordTest) (ws : List Text) → p.is_spelled w ≡ false
    → Reads {A = A} (p ∷ ps) (w ∷ ws) (Err p.fault)
off_reads p w ps ws is f = (
  λ e. inl (is, err_err p.fault f e),
  λ off. elim off [
    | inl here ↦ ap Err here.1
    | inr on ↦ absurd (false_true (sym is ∙ on.0))
  ],
)

-- a word that meets its test, and what follows
pub on_reads : {A : Type 0} (p : WordTest) (w : Text) (ps : List WordTest) (ws : List Text)
    (answer : Result A LineFault)
    → p.is_spelled w ≡ true → Reads ps ws answer → Reads (p ∷ ps) (w ∷ ws) answer
on_reads p w ps ws answer is later f = (
  λ e. inr (is, (later f).0 e),
  λ off. elim off [
    | inl here ↦ absurd (false_true (sym here.0 ∙ is))
    | inr on ↦ (later f).1 on.1
  ],
)

-- a word that is read if it meets its test, and what follows
pub step_reads : {A B : Type 0} (p : WordTest) (o : Option A) (w : Text) (ps : List WordTest) (ws : List Text)
    (k : A → Result B LineFault)
    → p.is_spelled w ≡ is_some o → ((x : A) → o ≡ Some x → Reads ps ws (k x))
    → Reads (p ∷ ps) (w ∷ ws) (ok_or o p.fault >>= k)
step_reads p None w ps ws k is later = off_reads p w ps ws is
step_reads p (Some x) w ps ws k is later = on_reads p w ps ws (k x) is (later x refl)

-- the last word
pub last_reads : {A : Type 0} (p : WordTest) (o : Option A) (w : Text) → p.is_spelled w ≡ is_some o
    → Reads (p ∷ []) (w ∷ []) (ok_or o p.fault)
last_reads p None w is = off_reads p w [] [] is
last_reads p (Some x) w is = on_reads p w [] [] (Ok x) is (end_reads x)

-- ---- the words after the first

-- the reading of the words ends in a fault exactly if that is the first off the event's tests
abbrev pub RowReads : {A : Type 0} → Option (List WordTest) → List Text → Result A LineFault → Type 0
RowReads places words answer = (f : LineFault) → (answer ≡ Err f) ↔ RowFault places words f

pub miscounted : {A : Type 0} (words : List Text) → RowReads {A = A} None words (Err fault.Count)
miscounted words f = (err_err fault.Count f, ap Err)

-- an event is made of what was read
pub made_reads : {A E : Type 0} (places : Option (List WordTest)) (words : List Text) (x : Result A LineFault)
    (event : A → E)
    → RowReads places words x → RowReads places words (x >>= λ a. Ok (event a))
made_reads places words (Ok a) event each f =
    (λ e. absurd (ok_err (event a) f e), λ off. absurd (ok_err a f ((each f).1 off)))
made_reads places words (Err g) event each f =
    (λ e. (each f).0 (ap Err (err_err g f e)), λ off. ap Err (err_err g f ((each f).1 off)))

pub one_number : (ws : List Text) → RowReads (number_tests ws) ws (one_number_in ws)
one_number [] = miscounted []
one_number (n ∷ []) = last_reads number_test (number_of_word n) n refl
one_number (n ∷ x ∷ ws) = miscounted (n ∷ x ∷ ws)

pub two_numbers : (ws : List Text) → RowReads (two_number_tests ws) ws (two_numbers_in ws)
two_numbers [] = miscounted []
two_numbers (m ∷ []) = miscounted (m ∷ [])
two_numbers (m ∷ n ∷ []) =
    step_reads number_test (number_of_word m) m (number_test ∷ []) (n ∷ [])
    (λ x. ok_or (number_of_word n) fault.Number >>= λ y. Ok (x, y)) refl (λ x is.
    step_reads number_test (number_of_word n) n [] [] (λ y. Ok (x, y)) refl (λ y too. end_reads (x, y)))
two_numbers (m ∷ n ∷ x ∷ ws) = miscounted (m ∷ n ∷ x ∷ ws)

-- a word that is to be this one, and what follows
pub word_reads : {A B : Type 0} (word w : Text) (ps : List WordTest) (ws : List Text) (rest : Result A LineFault)
    (k : A → Result B LineFault)
    → Reads ps ws (rest >>= k) → Reads (word_test word ∷ ps) (w ∷ ws)
    ((if bytes_eq w word then rest else Err fault.Word) >>= k)
word_reads word w ps ws rest k later = by_test (bytes_eq w word) refl
  where
    by_test : (b : Bool) → bytes_eq w word ≡ b → Reads (word_test word ∷ ps) (w ∷ ws)
        ((if b then rest else Err fault.Word) >>= k)
    by_test false is = off_reads (word_test word) w ps ws is
    by_test true is = on_reads (word_test word) w ps ws (rest >>= k) is later

-- one bind after another is one
pub associated : {A B C : Type 0} (x : Option A) (c : LineFault) (g : A → Result B LineFault)
    (k : B → Result C LineFault) → ((ok_or x c >>= g) >>= k) ≡ (ok_or x c >>= λ a. g a >>= k)
associated None c g k = refl
associated (Some a) c g k = refl

pub reads_same : {A : Type 0} (ps : List WordTest) (ws : List Text) (x y : Result A LineFault) → x ≡ y → Reads ps ws y
    → Reads ps ws x
reads_same ps ws x y same reads = subst (λ z. Reads ps ws z) (sym same) reads

pub lost : {A : Type 0} (n w : Text) (k : Option Loss → A) → Reads (number_test ∷ lost_test ∷ []) (n ∷ w ∷ [])
    (lost_exchange_in n w >>= λ z. Ok (k z))
lost n w k =
    let made : ℕ → Result (Option Loss) LineFault = λ i. ok_or (lost_of_word w) fault.Word >>= λ o. Ok
    (Some (record { exchange = i; lost = o })) in
    reads_same (number_test ∷ lost_test ∷ []) (n ∷ w ∷ []) _ _
    (associated (number_of_word n) fault.Number made (λ z. Ok (k z)))
    (step_reads number_test (number_of_word n) n (lost_test ∷ []) (w ∷ []) (λ i. made i >>= λ z. Ok (k z)) refl (λ i is.
    reads_same (lost_test ∷ []) (w ∷ []) _ _
    (associated (lost_of_word w) fault.Word (λ o. Ok (Some (record { exchange = i; lost = o }))) (λ z. Ok (k z)))
    (step_reads lost_test (lost_of_word w) w [] [] (λ o. Ok (k (Some (record { exchange = i; lost = o })))) refl
    (λ o too. end_reads (k (Some (record { exchange = i; lost = o })))))))

-- ---- numbers, and what is lost

pub operation : (ws : List Text) → RowReads (operation_tests ws) ws (operation_in ws)
operation [] = miscounted []
operation (l ∷ []) = miscounted (l ∷ [])
operation (l ∷ s ∷ []) =
    step_reads number_test (number_of_word l) l (number_test ∷ []) (s ∷ [])
    (λ x. ok_or (number_of_word s) fault.Number >>= λ y. Ok (x, y, None)) refl (λ x is.
    step_reads number_test (number_of_word s) s [] [] (λ y. Ok (x, y, None)) refl (λ y too. end_reads (x, y, None)))
operation (l ∷ s ∷ a ∷ []) = miscounted (l ∷ s ∷ a ∷ [])
operation (l ∷ s ∷ a ∷ n ∷ []) = miscounted (l ∷ s ∷ a ∷ n ∷ [])
operation (l ∷ s ∷ a ∷ n ∷ w ∷ []) =
    step_reads number_test (number_of_word l) l (number_test ∷ word_test (codes "lose") ∷ number_test ∷ lost_test ∷ [])
    (s ∷ a ∷ n ∷ w ∷ [])
    (λ x. ok_or (number_of_word s) fault.Number >>= λ y. loss_in (a ∷ n ∷ w ∷ []) >>= λ z. Ok (x, y, z)) refl (λ x is.
    step_reads number_test (number_of_word s) s (word_test (codes "lose") ∷ number_test ∷ lost_test ∷ [])
    (a ∷ n ∷ w ∷ [])
    (λ y. loss_in (a ∷ n ∷ w ∷ []) >>= λ z. Ok (x, y, z)) refl (λ y too.
    word_reads (codes "lose") a (number_test ∷ lost_test ∷ []) (n ∷ w ∷ []) (lost_exchange_in n w) (λ z. Ok (x, y, z))
    (lost n w (λ z. (x, y, z)))))
operation (l ∷ s ∷ a ∷ n ∷ w ∷ v ∷ ws) = miscounted (l ∷ s ∷ a ∷ n ∷ w ∷ v ∷ ws)

pub asked : (ws : List Text) → RowReads (asked_tests ws) ws (number_and_loss ws)
asked [] = miscounted []
asked (i ∷ []) = step_reads number_test (number_of_word i) i [] [] (λ x. Ok (x, None)) refl
    (λ x is. end_reads (x, None))
asked (i ∷ a ∷ []) = miscounted (i ∷ a ∷ [])
asked (i ∷ a ∷ n ∷ []) = miscounted (i ∷ a ∷ n ∷ [])
asked (i ∷ a ∷ n ∷ w ∷ []) =
    step_reads number_test (number_of_word i) i (word_test (codes "lose") ∷ number_test ∷ lost_test ∷ [])
    (a ∷ n ∷ w ∷ [])
    (λ x. loss_in (a ∷ n ∷ w ∷ []) >>= λ z. Ok (x, z)) refl (λ x is.
    word_reads (codes "lose") a (number_test ∷ lost_test ∷ []) (n ∷ w ∷ []) (lost_exchange_in n w) (λ z. Ok (x, z))
    (lost n w (λ z. (x, z))))
asked (i ∷ a ∷ n ∷ w ∷ v ∷ ws) = miscounted (i ∷ a ∷ n ∷ w ∷ v ∷ ws)

-- ---- the table

abbrev pub TableReads : List Row → List Text → Text → Result ScriptEvent LineFault → Type 0
TableReads rows rest first answer = (f : LineFault) → (answer ≡ Err f) ↔ TableFault rows first rest f

pub row_reads : (word : Text) (places : List Text → Option (List WordTest)) (rows : List Row) (rest : List Text)
    (first : Text) (x : Result ScriptEvent LineFault) (y : Option (Result ScriptEvent LineFault))
    (z : Result ScriptEvent LineFault)
    → RowReads (places rest) rest x → TableReads rows rest first (unwrap_or y z)
    → TableReads ((word, places) ∷ rows) rest first (unwrap_or (if bytes_eq first word then Some x else y) z)
row_reads word places rows rest first x y z this others = by_test (bytes_eq first word) refl
  where
    by_test : (b : Bool) → bytes_eq first word ≡ b → TableReads ((word, places) ∷ rows) rest first
        (unwrap_or (if b then Some x else y) z)
    by_test true is f = (
      λ e. inl (is, (this f).0 e),
      λ off. elim off [
        | inl here ↦ (this f).1 here.1
        | inr on ↦ absurd (false_true (sym on.0 ∙ is))
      ],
    )
    by_test false is f = (
      λ e. inr (is, (others f).0 e),
      λ off. elim off [
        | inl here ↦ absurd (false_true (sym is ∙ here.0))
        | inr on ↦ (others f).1 on.1
      ],
    )

pub last_row : (word : Text) (places : List Text → Option (List WordTest)) (rows : List Row) (rest : List Text)
    (first : Text) (x y : Result ScriptEvent LineFault)
    → RowReads (places rest) rest x → TableReads rows rest first y
    → TableReads ((word, places) ∷ rows) rest first (if bytes_eq first word then x else y)
last_row word places rows rest first x y this others = by_test (bytes_eq first word) refl
  where
    by_test : (b : Bool) → bytes_eq first word ≡ b → TableReads ((word, places) ∷ rows) rest first (if b then x else y)
    by_test true is f = (
      λ e. inl (is, (this f).0 e),
      λ off. elim off [
        | inl here ↦ (this f).1 here.1
        | inr on ↦ absurd (false_true (sym on.0 ∙ is))
      ],
    )
    by_test false is f = (
      λ e. inr (is, (others f).0 e),
      λ off. elim off [
        | inl here ↦ absurd (false_true (sym is ∙ here.0))
        | inr on ↦ (others f).1 on.1
      ],
    )

pub no_row : (rest : List Text) (first : Text) → TableReads [] rest first (Err fault.Word)
no_row rest first f = (err_err fault.Word f, ap Err)

-- a row of a family of events, each of which is made an event
pub family_row : {E : Type 0} (make : Result E LineFault → Result ScriptEvent LineFault) (word : Text)
    (places : List Text → Option (List WordTest)) (rows : List Row) (rest : List Text) (first : Text)
    (x : Result E LineFault) (y : Option (Result E LineFault)) (z : Result ScriptEvent LineFault)
    → RowReads (places rest) rest (make x) → TableReads rows rest first (unwrap_or (option_map make y) z)
    → TableReads ((word, places) ∷ rows) rest first
    (unwrap_or (option_map make (if bytes_eq first word then Some x else y)) z)
family_row make word places rows rest first x y z this others = by_test (bytes_eq first word) refl
  where
    by_test : (b : Bool) → bytes_eq first word ≡ b → TableReads ((word, places) ∷ rows) rest first
        (unwrap_or (option_map make (if b then Some x else y)) z)
    by_test true is f = (
      λ e. inl (is, (this f).0 e),
      λ off. elim off [
        | inl here ↦ (this f).1 here.1
        | inr on ↦ absurd (false_true (sym on.0 ∙ is))
      ],
    )
    by_test false is f = (
      λ e. inr (is, (others f).0 e),
      λ off. elim off [
        | inl here ↦ absurd (false_true (sym is ∙ here.0))
        | inr on ↦ (others f).1 on.1
      ],
    )
