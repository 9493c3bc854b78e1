-- Parts of lines that several families of events have: numbers and what is lost, as they are read, as they are spelled,
-- and as the table of faults tests them.
use Rattle.std.specs.Prelude.{◌≡◌, ℕ, Bool, true, false, List, [], ◌∷◌, Option, Some, None, is_some, Result, Ok, Err}
use Rattle.std.specs.Prelude.{◌&&◌, nat_le, not, if◌then◌else◌, codes}
use Rattle.std.specs.Option.{ok_or, option_and_then}
use Rattle.std.specs.Str.{bytes_eq}
use Rattle.ide_types.specs.Names.{Text}
use Rattle.script_events.specs.Terms.{Loss, LineFault, Word, Count, Number, Hex}
use Rattle.script_events.specs.Words.{number_of_word, bytes_in, lost_of_word}

-- ---- as they are read

-- a word after the other: the first fault from the left
infixl 10 ◌>>=◌
abbrev pub ◌>>=◌ : {A B : Type 0} → Result A LineFault → (A → Result B LineFault) → Result B LineFault
(Ok x) >>= f = f x
(Err e) >>= f = Err e

abbrev pub lost_exchange_in : Text → Text → Result (Option Loss) LineFault
lost_exchange_in n w = do
  exchange ← ok_or (number_of_word n) Number
  lost ← ok_or (lost_of_word w) Word
  Ok (Some (record { exchange = exchange; lost = lost }))

-- nothing, or lose, the number of an exchange, and what is lost of it
abbrev pub loss_in : List Text → Result (Option Loss) LineFault
loss_in [] = Ok None
loss_in (l ∷ n ∷ w ∷ []) = if bytes_eq l (codes "lose") then lost_exchange_in n w else Err Word
loss_in _ = Err Count

-- whether so many words may say what is lost
abbrev pub is_loss_long : List Text → Bool
is_loss_long [] = true
is_loss_long (l ∷ n ∷ w ∷ []) = true
is_loss_long _ = false

abbrev pub one_number_in : List Text → Result ℕ LineFault
one_number_in (n ∷ []) = ok_or (number_of_word n) Number
one_number_in _ = Err Count

abbrev pub two_numbers_in : List Text → Result (ℕ × ℕ) LineFault
two_numbers_in (m ∷ n ∷ []) = do
  first ← ok_or (number_of_word m) Number
  second ← ok_or (number_of_word n) Number
  Ok (first, second)
two_numbers_in _ = Err Count

-- a number, and what is lost
abbrev pub number_and_loss : List Text → Result (ℕ × Option Loss) LineFault
number_and_loss (n ∷ rest) =
    if not (is_loss_long rest) then Err Count
    else do
      number ← ok_or (number_of_word n) Number
      lose ← loss_in rest
      Ok (number, lose)
number_and_loss _ = Err Count

-- two numbers, and what is lost
abbrev pub operation_in : List Text → Result (ℕ × ℕ × Option Loss) LineFault
operation_in (m ∷ n ∷ rest) =
    if not (is_loss_long rest) then Err Count
    else do
      first ← ok_or (number_of_word m) Number
      second ← ok_or (number_of_word n) Number
      lose ← loss_in rest
      Ok (first, second, lose)
operation_in _ = Err Count

-- how many bytes are shown: 1 to 256
abbrev pub length_in : Text → Option ℕ
length_in w = option_and_then (λ n. if nat_le 1 n && nat_le n 256 then Some n else None) (number_of_word w)

-- ---- as they are spelled

-- a word that spells a value
abbrev pub WordOf : {A : Type 0} → (Text → Option A) → A → Type 0
WordOf reading value = (w : Text) × (reading w ≡ Some value)

-- the words that say what is lost
abbrev pub LossSpelledBy : Option Loss → List Text → Type 0
LossSpelledBy None words = words ≡ []
LossSpelledBy (Some loss) words =
    (n : WordOf number_of_word loss.exchange) × (w : WordOf lost_of_word loss.lost)
    × (words ≡ codes "lose" ∷ n.0 ∷ w.0 ∷ [])

abbrev pub OneSpelledBy : Text → ℕ → List Text → Type 0
OneSpelledBy first number words = (n : WordOf number_of_word number) × (words ≡ first ∷ n.0 ∷ [])

abbrev pub TwoSpelledBy : Text → ℕ → ℕ → List Text → Type 0
TwoSpelledBy first one two words = (m : WordOf number_of_word one) × (n : WordOf number_of_word two)
    × (words ≡ first ∷ m.0 ∷ n.0 ∷ [])

abbrev pub AskedSpelledBy : Text → ℕ → Option Loss → List Text → Type 0
AskedSpelledBy first number lose words =
    (n : WordOf number_of_word number) × (rest : List Text) × LossSpelledBy lose rest × (words ≡ first ∷ n.0 ∷ rest)

abbrev pub OperationSpelledBy : Text → ℕ → ℕ → Option Loss → List Text → Type 0
OperationSpelledBy first one two lose words =
    (m : WordOf number_of_word one) × (n : WordOf number_of_word two) × (rest : List Text) × LossSpelledBy lose rest
    × (words ≡ first ∷ m.0 ∷ n.0 ∷ rest)

-- ---- as the table tests them

-- a test of a word, and the fault if the word does not meet it
pub record WordTest : Type 0 where
  pub is_spelled : Text → Bool
  pub fault : LineFault

abbrev pub number_test : WordTest
number_test = record { is_spelled = λ w. is_some (number_of_word w); fault = Number }

abbrev pub bytes_test : WordTest
bytes_test = record { is_spelled = λ w. is_some (bytes_in w); fault = Hex }

abbrev pub lost_test : WordTest
lost_test = record { is_spelled = λ w. is_some (lost_of_word w); fault = Word }

abbrev pub length_test : WordTest
length_test = record { is_spelled = λ w. is_some (length_in w); fault = Number }

-- this very word
abbrev pub word_test : Text → WordTest
word_test word = record { is_spelled = λ w. bytes_eq w word; fault = Word }

-- A row of the table: an event's word, and the tests of the words after it, by how many stand there; nothing if it may
-- not have so many.
abbrev pub Row : Type 0
Row = Text × (List Text → Option (List WordTest))

abbrev pub number_tests : List Text → Option (List WordTest)
number_tests (n ∷ []) = Some (number_test ∷ [])
number_tests _ = None

abbrev pub two_number_tests : List Text → Option (List WordTest)
two_number_tests (m ∷ n ∷ []) = Some (number_test ∷ number_test ∷ [])
two_number_tests _ = None

abbrev pub asked_tests : List Text → Option (List WordTest)
asked_tests (n ∷ []) = Some (number_test ∷ [])
asked_tests (n ∷ a ∷ e ∷ w ∷ []) = Some (number_test ∷ word_test (codes "lose") ∷ number_test ∷ lost_test ∷ [])
asked_tests _ = None

abbrev pub operation_tests : List Text → Option (List WordTest)
operation_tests (m ∷ n ∷ []) = Some (number_test ∷ number_test ∷ [])
operation_tests (m ∷ n ∷ a ∷ e ∷ w ∷ []) = Some (number_test ∷ number_test ∷ word_test (codes "lose") ∷ number_test
    ∷ lost_test ∷ [])
operation_tests _ = None
