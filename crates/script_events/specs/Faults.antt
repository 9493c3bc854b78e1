-- The first fault of a line: by the table of events, the first word from the left that is not what stands in its place.
use Rattle.std.specs.Prelude.{◌≡◌, ◌<◌, ◌≤◌, ◌↔◌, ◌⊎◌, ◌&&◌, ◌||◌, Bool, true, false, List, [], ◌∷◌, length, Option}
use Rattle.std.specs.Prelude.{Some, None, is_some, Err, codes}
use Rattle.std.specs.List.{list_all}
use Rattle.std.specs.Option.{option_map_or}
use Rattle.std.specs.Str.{bytes_eq}
use Rattle.ide_types.specs.declared.port.Side.{Side}
use Rattle.ide_types.specs.declared.port.Side.TheVariants.{Host, Device}
use Rattle.ide_types.specs.declared.port.PortName.{PortName}
use Rattle.ide_types.specs.Names.{Text, is_printable}
use Rattle.script_events.specs.Terms.{LineFault, Word, Count, Hex, TooLong, NotAscii}
use Rattle.script_events.specs.Words.{line_limit, words_in, mask_in, port_of_word, any_port_of_word}
pub use Rattle.script_events.specs.Parts.{WordTest, number_test, lost_test, word_test, Row, number_tests}
pub use Rattle.script_events.specs.Parts.{two_number_tests, operation_tests, bytes_test}
use Rattle.script_events.specs.Interfaces.{interface_rows}
use Rattle.script_events.specs.Accesses.{access_rows}
use Rattle.script_events.specs.Paired.{peer_send_tests, peer_rows, hop_rows}
use Rattle.script_events.specs.Parse.{is_comment, line_meaning}

-- ---- what a word after the first has to be

abbrev pub mask_test : WordTest
mask_test = record { is_spelled = λ w. is_some (mask_in w); fault = Hex }

abbrev pub port_test : WordTest
port_test = record { is_spelled = λ w. is_some (port_of_word w); fault = Word }

abbrev pub is_host_side : Side → Bool
is_host_side Host = true
is_host_side Device = false

abbrev pub any_port_test : WordTest
any_port_test = record { is_spelled = λ w. is_some (any_port_of_word w); fault = Word }

-- trusted, after a host's port
abbrev pub is_trusted_at : Text → Text → Bool
is_trusted_at port w = bytes_eq w (codes "trusted") && option_map_or (λ (p : PortName). is_host_side p.side)
    (port_of_word port) false

abbrev pub trusted_test : Text → WordTest
trusted_test port = record { is_spelled = is_trusted_at port; fault = Word }

-- more, or after a host's port trusted
abbrev pub mark_test : Text → WordTest
mark_test port = record { is_spelled = λ w. bytes_eq w (codes "more") || is_trusted_at port w; fault = Word }

-- ---- the table

abbrev pub send_tests : List Text → Option (List WordTest)
send_tests (p ∷ w ∷ []) = Some (port_test ∷ bytes_test ∷ [])
send_tests (p ∷ w ∷ m ∷ []) = Some (port_test ∷ bytes_test ∷ mark_test p ∷ [])
send_tests (p ∷ w ∷ m ∷ t ∷ []) = Some (port_test ∷ bytes_test ∷ word_test (codes "more") ∷ trusted_test p ∷ [])
send_tests _ = None

abbrev pub arrive_tests : List Text → Option (List WordTest)
arrive_tests (p ∷ w ∷ []) = Some (any_port_test ∷ bytes_test ∷ [])
arrive_tests _ = None

abbrev pub alter_tests : List Text → Option (List WordTest)
alter_tests (n ∷ a ∷ h ∷ []) = Some (number_test ∷ number_test ∷ mask_test ∷ [])
alter_tests _ = None

abbrev pub byte_rows : List Row
byte_rows = (codes "send", send_tests) ∷ (codes "psend", peer_send_tests) ∷ (codes "arrive", arrive_tests) ∷ []

-- the events by their first word
abbrev pub event_table : List Row
event_table =
    (codes "establish", operation_tests) ∷ (codes "refresh", operation_tests) ∷ (codes "stop", operation_tests)
    ∷ (codes "reset", number_tests) ∷ (codes "status", two_number_tests)
    ∷ (codes "pass", number_tests) ∷ (codes "alter", alter_tests) ∷ (codes "cut", two_number_tests) ∷ (
      codes "dump",
      number_tests,
    )
    ∷ interface_rows (access_rows (peer_rows (hop_rows byte_rows)))

-- ---- the first fault

-- the first word that does not meet its test, from the left
abbrev pub FirstOff : List WordTest → List Text → LineFault → Type 0
FirstOff (p ∷ ps) (w ∷ ws) fault =
    ((p.is_spelled w ≡ false) × (p.fault ≡ fault)) ⊎ ((p.is_spelled w ≡ true) × FirstOff ps ws fault)
FirstOff _ _ fault = ⊥

-- by the tests of an event: the number of words is another, or a word does not meet its test
abbrev pub RowFault : Option (List WordTest) → List Text → LineFault → Type 0
RowFault None words fault = Count ≡ fault
RowFault (Some tests) words fault = FirstOff tests words fault

-- the first row with that first word decides; a word of no row is none of an event's
abbrev pub TableFault : List Row → Text → List Text → LineFault → Type 0
TableFault [] first rest fault = Word ≡ fault
TableFault (row ∷ rows) first rest fault =
    ((bytes_eq first row.0 ≡ true) × RowFault (row.1 rest) rest fault) ⊎ ((bytes_eq first row.0 ≡ false)
    × TableFault rows first rest fault)

abbrev pub WordsFault : List Text → LineFault → Type 0
WordsFault [] fault = ⊥
WordsFault (first ∷ rest) fault = TableFault event_table first rest fault

-- The first fault of a line, by the order of causes: its length, its bytes, its words. A comment has none after its
-- length.
abbrev pub FirstFault : Text → LineFault → Type 0
FirstFault line fault =
    ((line_limit < length line) × (TooLong ≡ fault))
    ⊎ ((length line ≤ line_limit) × (is_comment line ≡ false) × (list_all is_printable line ≡ false)
    × (NotAscii ≡ fault))
    ⊎ ((length line ≤ line_limit) × (is_comment line ≡ false) × (list_all is_printable line ≡ true)
    × WordsFault (words_in line) fault)

-- a line's fault is its first
abbrev pub FaultsAreFirst : Type 0
FaultsAreFirst = (line : Text) (fault : LineFault) → (line_meaning line ≡ Err fault) ↔ FirstFault line fault
