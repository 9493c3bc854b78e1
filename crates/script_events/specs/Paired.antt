-- Lines of streams between two devices and of hops: as they are read, as they are spelled, and the rows of the table of
-- faults.
use Rattle.std.specs.Prelude.{◌≡◌, ℕ, nat_lt, Bool, true, false, List, [], ◌∷◌, length, Option, Some, None}
use Rattle.std.specs.Prelude.{is_some, Result, Ok, Err, if◌then◌else◌, codes}
use Rattle.std.specs.Option.{ok_or}
use Rattle.std.specs.Str.{bytes_eq}
use Rattle.ide_types.specs.declared.port.Side.{Side}
use Rattle.ide_types.specs.declared.port.Side.TheVariants.{Host, Device}
use Rattle.ide_types.specs.Names.{Text}
use Rattle.script_events.specs.Terms.{ScriptEvent, PeerSend, PeerEvent, HopEvent, LineFault, Word, Count, Number, Hex}
use Rattle.script_events.specs.Terms.pe
use Rattle.script_events.specs.Terms.he
use Rattle.script_events.specs.Words.{number_of_word, bytes_in}
use Rattle.script_events.specs.Parts.{◌>>=◌, number_and_loss, operation_in, two_numbers_in, WordOf, AskedSpelledBy}
use Rattle.script_events.specs.Parts.{
  OperationSpelledBy,
  TwoSpelledBy,
  WordTest,
  Row,
  number_test,
  bytes_test,
  word_test,
}
use Rattle.script_events.specs.Parts.{asked_tests, operation_tests, two_number_tests}

-- ---- as they are read

-- the device of the first link of a stream, or of the second
abbrev pub side_of_word : Text → Option Side
side_of_word w =
    if bytes_eq w (codes "a") then Some Host
    else if bytes_eq w (codes "b") then Some Device
    else None

-- whether more stands there, which may
abbrev pub more_in : List Text → Result Bool LineFault
more_in [] = Ok false
more_in (m ∷ []) = if bytes_eq m (codes "more") then Ok true else Err Word
more_in _ = Err Count

abbrev pub peer_send_in : List Text → Result ScriptEvent LineFault
peer_send_in (p ∷ s ∷ w ∷ marks) =
    if nat_lt 1 (length marks) then Err Count
    else do
      peer ← ok_or (number_of_word p) Number
      side ← ok_or (side_of_word s) Word
      bytes ← ok_or (bytes_in w) Hex
      more ← more_in marks
      Ok (PeerSend peer side bytes more)
peer_send_in _ = Err Count

-- an event on a stream between devices; nothing if the first word is none of these events
abbrev pub peer_event_of : Text → List Text → Option (Result PeerEvent LineFault)
peer_event_of first rest =
    if bytes_eq first (codes "pestablish") then Some (number_and_loss rest >>= λ a. Ok (pe.Establish a.0 a.1))
    else if bytes_eq first (codes "pstop") then Some (number_and_loss rest >>= λ a. Ok (pe.Stop a.0 a.1))
    else if bytes_eq first (codes "bind") then Some (operation_in rest >>= λ o. Ok (pe.Bind o.0 o.1 o.2))
    else if bytes_eq first (codes "unbind") then Some (operation_in rest >>= λ o. Ok (pe.Unbind o.0 o.1 o.2))
    else None

-- an event on a hop; nothing if the first word is none of these events
abbrev pub hop_event_of : Text → List Text → Option (Result HopEvent LineFault)
hop_event_of first rest =
    if bytes_eq first (codes "hestablish") then Some (operation_in rest >>= λ o. Ok (he.Establish o.0 o.1 o.2))
    else if bytes_eq first (codes "hstop") then Some (operation_in rest >>= λ o. Ok (he.Stop o.0 o.1 o.2))
    else if bytes_eq first (codes "forward") then Some (two_numbers_in rest >>= λ n. Ok (he.Forward n.0 n.1))
    else None

-- ---- as they are spelled

abbrev pub side_letter : Side → Text
side_letter Host = codes "a"
side_letter Device = codes "b"

abbrev pub more_words : Bool → List Text
more_words false = []
more_words true = codes "more" ∷ []

abbrev pub PeerSendSpelledBy : ℕ → Side → List ℕ → Bool → List Text → Type 0
PeerSendSpelledBy peer side bytes more words =
    (p : WordOf number_of_word peer) × (b : WordOf bytes_in bytes)
    × (words ≡ codes "psend" ∷ p.0 ∷ side_letter side ∷ b.0 ∷ more_words more)

abbrev pub PeerSpelledBy : PeerEvent → List Text → Type 0
PeerSpelledBy (pe.Establish peer lose) words = AskedSpelledBy (codes "pestablish") peer lose words
PeerSpelledBy (pe.Stop peer lose) words = AskedSpelledBy (codes "pstop") peer lose words
PeerSpelledBy (pe.Bind interface peer lose) words = OperationSpelledBy (codes "bind") interface peer lose words
PeerSpelledBy (pe.Unbind interface peer lose) words = OperationSpelledBy (codes "unbind") interface peer lose words

abbrev pub HopSpelledBy : HopEvent → List Text → Type 0
HopSpelledBy (he.Establish link segment lose) words = OperationSpelledBy (codes "hestablish") link segment lose words
HopSpelledBy (he.Stop link segment lose) words = OperationSpelledBy (codes "hstop") link segment lose words
HopSpelledBy (he.Forward link direction) words = TwoSpelledBy (codes "forward") link direction words

-- ---- the rows of the table

abbrev pub side_test : WordTest
side_test = record { is_spelled = λ w. is_some (side_of_word w); fault = Word }

abbrev pub peer_send_tests : List Text → Option (List WordTest)
peer_send_tests (p ∷ s ∷ w ∷ []) = Some (number_test ∷ side_test ∷ bytes_test ∷ [])
peer_send_tests (p ∷ s ∷ w ∷ m ∷ []) = Some (number_test ∷ side_test ∷ bytes_test ∷ word_test (codes "more") ∷ [])
peer_send_tests _ = None

-- before the rows of other events
abbrev pub peer_rows : List Row → List Row
peer_rows others =
    (codes "pestablish", asked_tests) ∷ (codes "pstop", asked_tests) ∷ (codes "bind", operation_tests)
    ∷ (codes "unbind", operation_tests) ∷ others

abbrev pub hop_rows : List Row → List Row
hop_rows others =
    (codes "hestablish", operation_tests) ∷ (codes "hstop", operation_tests) ∷ (codes "forward", two_number_tests)
    ∷ others
