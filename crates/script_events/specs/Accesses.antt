-- Lines of reads that wait and of guarded memory: as they are read, as they are spelled, and the rows of the table of
-- faults.
use Rattle.std.specs.Prelude.{◌≡◌, ◌≤◌, List, [], ◌∷◌, Option, Some, None, Result, Ok, Err, if◌then◌else◌, codes}
use Rattle.std.specs.Option.{ok_or}
use Rattle.std.specs.Str.{bytes_eq}
use Rattle.ide_types.specs.Names.{Text}
use Rattle.script_events.specs.Terms.{AccessEvent, LineFault, Count, Number}
use Rattle.script_events.specs.Terms.ae
use Rattle.script_events.specs.Words.{number_of_word}
use Rattle.script_events.specs.Parts.{◌>>=◌, one_number_in, WordOf, OneSpelledBy, WordTest, Row, number_test}
use Rattle.script_events.specs.Parts.{number_tests, length_in, length_test}

-- ---- as they are read

abbrev pub mmio_in : List Text → Result AccessEvent LineFault
mmio_in (i ∷ b ∷ o ∷ l ∷ []) = do
  interface ← ok_or (number_of_word i) Number
  bar ← ok_or (number_of_word b) Number
  offset ← ok_or (number_of_word o) Number
  len ← ok_or (length_in l) Number
  Ok (ae.Mmio interface bar offset len)
mmio_in _ = Err Count

-- an event on a read that waits or on guarded memory; nothing if the first word is none of these events
abbrev pub access_event_by_word : Text → List Text → Option (Result AccessEvent LineFault)
access_event_by_word first rest =
    if bytes_eq first (codes "answer") then Some (one_number_in rest >>= λ n. Ok (ae.Answer n))
    else if bytes_eq first (codes "respond") then Some (one_number_in rest >>= λ n. Ok (ae.Respond n))
    else if bytes_eq first (codes "mmio") then Some (mmio_in rest)
    else None

-- ---- as they are spelled

-- the words spell the event: 1 to 256 bytes are shown
abbrev pub AccessSpelledBy : AccessEvent → List Text → Type 0
AccessSpelledBy (ae.Answer link) words = OneSpelledBy (codes "answer") link words
AccessSpelledBy (ae.Respond link) words = OneSpelledBy (codes "respond") link words
AccessSpelledBy (ae.Mmio interface bar offset len) words =
    (i : WordOf number_of_word interface) × (b : WordOf number_of_word bar) × (o : WordOf number_of_word offset)
    × (l : WordOf number_of_word len) × (1 ≤ len) × (len ≤ 256)
    × (words ≡ codes "mmio" ∷ i.0 ∷ b.0 ∷ o.0 ∷ l.0 ∷ [])

-- 1 to 256 bytes are shown
abbrev pub IsAllowedAccess : AccessEvent → Type 0
IsAllowedAccess (ae.Answer link) = Unit {0}
IsAllowedAccess (ae.Respond link) = Unit {0}
IsAllowedAccess (ae.Mmio interface bar offset len) = (1 ≤ len) × (len ≤ 256)

-- ---- the rows of the table

abbrev pub mmio_tests : List Text → Option (List WordTest)
mmio_tests (i ∷ b ∷ o ∷ l ∷ []) = Some (number_test ∷ number_test ∷ number_test ∷ length_test ∷ [])
mmio_tests _ = None

-- before the rows of other events
abbrev pub access_rows : List Row → List Row
access_rows others =
    (codes "answer", number_tests) ∷ (codes "respond", number_tests) ∷ (codes "mmio", mmio_tests) ∷ others
