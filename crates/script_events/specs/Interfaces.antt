-- Lines of device interfaces and of trusted memory: as they are read, as they are spelled, and the rows of the table of
-- faults.
use Rattle.std.specs.Prelude.{◌≡◌, ◌<◌, ◌≤◌, ◌+◌, ◌-◌, ◌^◌, ◌==◌, ◌&&◌, ℕ, nat_le, nat_lt, true, List, [], ◌∷◌, ◌++◌}
use Rattle.std.specs.Prelude.{Option, Some, None, is_some, Result, Ok, Err, if◌then◌else◌, codes}
use Rattle.std.specs.Option.{ok_or, option_and_then, option_map}
use Rattle.std.specs.Str.{bytes_eq}
use Rattle.ide_types.specs.Names.{Text}
use Rattle.ide_types.specs.Lines.{is_peer_line}
use Rattle.ide_types.specs.declared.register.Register.{Register}
use Rattle.ide_types.specs.declared.register.Register.TheVariants.{Command, CacheLine, Msix, Lnr, Tph, Pasid, Ats, Bar}
use Rattle.ide_types.specs.RegisterNames.{width_of, IsAmongSix}
use Rattle.script_events.specs.Terms.{InterfaceEvent, LineFault, Word, Count, Number}
use Rattle.script_events.specs.Terms.ie
use Rattle.script_events.specs.Words.{number_of_word}
use Rattle.script_events.specs.Parts.{◌>>=◌, number_and_loss, one_number_in, WordOf, AskedSpelledBy, OneSpelledBy}
use Rattle.script_events.specs.Parts.{WordTest, Row, number_test, asked_tests, number_tests, length_in, length_test}

-- ---- words

-- the word of a register: of a BAR bar and its digit
abbrev pub register_word : Register → Text
register_word Command = codes "command"
register_word CacheLine = codes "cacheline"
register_word Msix = codes "msix"
register_word Lnr = codes "lnr"
register_word Tph = codes "tph"
register_word Pasid = codes "pasid"
register_word Ats = codes "ats"
register_word (Bar n) = codes "bar" ++ (n + 48) ∷ []

-- the number of a BAR that a digit writes: 0 to 5
abbrev pub bar_number : ℕ → Option ℕ
bar_number b = if nat_le 48 b && nat_le b 53 then Some (b - 48) else None

-- bar, and that digit
abbrev pub bar_in : Text → Option Register
bar_in (b ∷ a ∷ r ∷ digit ∷ []) = if b == 98 && a == 97 && r == 114 then option_map Bar (bar_number digit) else None
bar_in _ = None

unfoldable pub register_in : Text → Option Register
register_in w =
    if bytes_eq w (codes "command") then Some Command
    else if bytes_eq w (codes "cacheline") then Some CacheLine
    else if bytes_eq w (codes "msix") then Some Msix
    else if bytes_eq w (codes "lnr") then Some Lnr
    else if bytes_eq w (codes "tph") then Some Tph
    else if bytes_eq w (codes "pasid") then Some Pasid
    else if bytes_eq w (codes "ats") then Some Ats
    else bar_in w

-- a number that the register has room for
abbrev pub register_value_in : Register → Text → Option ℕ
register_value_in register w =
    option_and_then (λ n. if nat_lt n (2 ^ width_of register) then Some n else None) (number_of_word w)

-- ---- as they are read

abbrev pub write_event_in : List Text → Result InterfaceEvent LineFault
write_event_in (i ∷ r ∷ w ∷ []) = do
  interface ← ok_or (number_of_word i) Number
  register ← ok_or (register_in r) Word
  value ← ok_or (register_value_in register w) Number
  Ok (ie.Write interface register value)
write_event_in _ = Err Count

abbrev pub memory_in : List Text → Result InterfaceEvent LineFault
memory_in (a ∷ l ∷ []) = do
  address ← ok_or (number_of_word a) Number
  len ← ok_or (length_in l) Number
  Ok (ie.Memory address len)
memory_in _ = Err Count

-- what the manager does to an interface; nothing if the first word is none of these events
abbrev pub asking_event_of : Text → List Text → Option (Result InterfaceEvent LineFault)
asking_event_of first rest =
    if bytes_eq first (codes "lock") then Some (number_and_loss rest >>= λ a. Ok (ie.Lock a.0 a.1))
    else if bytes_eq first (codes "report") then Some (number_and_loss rest >>= λ a. Ok (ie.Report a.0 a.1))
    else if bytes_eq first (codes "start") then Some (number_and_loss rest >>= λ a. Ok (ie.Start a.0 a.1))
    else if bytes_eq first (codes "halt") then Some (number_and_loss rest >>= λ a. Ok (ie.Halt a.0 a.1))
    else if bytes_eq first (codes "state") then Some (number_and_loss rest >>= λ a. Ok (ie.State a.0 a.1))
    else None

-- an event on an interface or on memory; nothing if the first word is none of these events
abbrev pub interface_event_by_word : Text → List Text → Option (Result InterfaceEvent LineFault)
interface_event_by_word first rest =
    if bytes_eq first (codes "view") then Some (one_number_in rest >>= λ n. Ok (ie.View n))
    else if bytes_eq first (codes "write") then Some (write_event_in rest)
    else if bytes_eq first (codes "flr") then Some (one_number_in rest >>= λ n. Ok (ie.Flr n))
    else if bytes_eq first (codes "firmware") then Some (one_number_in rest >>= λ n. Ok (ie.Firmware n))
    else if bytes_eq first (codes "memory") then Some (memory_in rest)
    else asking_event_of first rest

-- ---- as they are spelled

-- the words spell the event: a value has room in its register, and 1 to 256 bytes are shown; bindings have words of
-- their own, which name a stream between devices by its number
abbrev pub InterfaceSpelledBy : InterfaceEvent → List Text → Type 0
InterfaceSpelledBy (ie.Lock interface lose) words = AskedSpelledBy (codes "lock") interface lose words
InterfaceSpelledBy (ie.Report interface lose) words = AskedSpelledBy (codes "report") interface lose words
InterfaceSpelledBy (ie.Start interface lose) words = AskedSpelledBy (codes "start") interface lose words
InterfaceSpelledBy (ie.Halt interface lose) words = AskedSpelledBy (codes "halt") interface lose words
InterfaceSpelledBy (ie.State interface lose) words = AskedSpelledBy (codes "state") interface lose words
InterfaceSpelledBy (ie.Bind interface line stream lose) words = ⊥
InterfaceSpelledBy (ie.Unbind interface line stream lose) words = ⊥
InterfaceSpelledBy (ie.View interface) words = OneSpelledBy (codes "view") interface words
InterfaceSpelledBy (ie.Write interface register value) words =
    (i : WordOf number_of_word interface) × (w : WordOf number_of_word value) × IsAmongSix register
    × (value < 2 ^ width_of register) × (words ≡ codes "write" ∷ i.0 ∷ register_word register ∷ w.0 ∷ [])
InterfaceSpelledBy (ie.Flr interface) words = OneSpelledBy (codes "flr") interface words
InterfaceSpelledBy (ie.Firmware interface) words = OneSpelledBy (codes "firmware") interface words
InterfaceSpelledBy (ie.Memory address len) words =
    (a : WordOf number_of_word address) × (l : WordOf number_of_word len) × (1 ≤ len) × (len ≤ 256)
    × (words ≡ codes "memory" ∷ a.0 ∷ l.0 ∷ [])

-- A value that is written has room in its register, which is one that an interface may have, 1 to 256 bytes of memory
-- are shown, and a binding is to a stream between devices.
abbrev pub IsAllowedInterface : InterfaceEvent → Type 0
IsAllowedInterface (ie.Bind interface line stream lose) = is_peer_line line ≡ true
IsAllowedInterface (ie.Unbind interface line stream lose) = is_peer_line line ≡ true
IsAllowedInterface (ie.Write interface register value) = IsAmongSix register × (value < 2 ^ width_of register)
IsAllowedInterface (ie.Memory address len) = (1 ≤ len) × (len ≤ 256)
IsAllowedInterface _ = Unit {0}

-- ---- the rows of the table

abbrev pub register_test : WordTest
register_test = record { is_spelled = λ w. is_some (register_in w); fault = Word }

-- a number that the register of that word has room for
abbrev pub value_test : Text → WordTest
value_test register =
    record {
      is_spelled = λ w. is_some (option_and_then (λ r. register_value_in r w) (register_in register));
      fault = Number;
    }

abbrev pub write_tests : List Text → Option (List WordTest)
write_tests (i ∷ r ∷ w ∷ []) = Some (number_test ∷ register_test ∷ value_test r ∷ [])
write_tests _ = None

abbrev pub memory_tests : List Text → Option (List WordTest)
memory_tests (a ∷ l ∷ []) = Some (number_test ∷ length_test ∷ [])
memory_tests _ = None

-- before the rows of other events
abbrev pub interface_rows : List Row → List Row
interface_rows others =
    (codes "view", number_tests) ∷ (codes "write", write_tests) ∷ (codes "flr", number_tests)
    ∷ (codes "firmware", number_tests) ∷ (codes "memory", memory_tests)
    ∷ (codes "lock", asked_tests) ∷ (codes "report", asked_tests) ∷ (codes "start", asked_tests)
    ∷ (codes "halt", asked_tests) ∷ (codes "state", asked_tests) ∷ others
