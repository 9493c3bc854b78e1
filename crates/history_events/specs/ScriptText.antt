-- The script of generated events: the line that spells each event.
use Rattle.std.specs.Prelude.{ℕ, Bool, false, List, [], ◌∷◌, ◌++◌, Option, Some, None, if◌then◌else◌, flat_map, codes}
use Rattle.std.specs.Fmt.{decimal, digits}
use Rattle.hex.specs.Hex.{encode_lower}
use Rattle.ide_types.specs.declared.port.PortName.{PortName}
use Rattle.ide_types.specs.Names.{Text, joined_words, port_word}
use Rattle.script_events.specs.declared.event.Event.{Event}
use Rattle.script_events.specs.declared.event.Event.TheVariants as event
use Rattle.script_events.specs.declared.event.InterfaceEvent.{InterfaceEvent}
use Rattle.script_events.specs.declared.event.InterfaceEvent.TheVariants as ie
use Rattle.script_events.specs.declared.event.Loss.{Loss}
use Rattle.history_events.specs.GeneratedEvents.{generated_events}

-- an operation on a stream, or on an interface, in which nothing is lost; if something is, there is no line
abbrev pub operation_line : Text → ℕ → ℕ → Option Loss → Text
operation_line word link stream None = word ++ joined_words (decimal link ∷ decimal stream ∷ [])
operation_line word link stream (Some loss) = []

abbrev pub asked_line : Text → ℕ → Option Loss → Text
asked_line word interface None = word ++ joined_words (decimal interface ∷ [])
asked_line word interface (Some loss) = []

abbrev pub interface_line : InterfaceEvent → Text
interface_line (ie.Lock interface lose) = asked_line (codes "lock") interface lose
interface_line (ie.Report interface lose) = asked_line (codes "report") interface lose
interface_line (ie.Start interface lose) = asked_line (codes "start") interface lose
interface_line (ie.Halt interface lose) = asked_line (codes "halt") interface lose
interface_line (ie.Memory address len) =
    codes "memory" ++ joined_words ((codes "0x" ++ digits 16 false address) ∷ decimal len ∷ [])
interface_line _ = []

-- a TLP of its own unit, without T
abbrev pub send_line : PortName → List ℕ → (more trusted : Bool) → Text
send_line port bytes more trusted =
    if more then [] else if trusted then [] else codes "send" ++ joined_words (port_word port ∷ encode_lower bytes ∷ [])

-- the line that spells an event of a form that is generated, with its line feed; of another form there is none
abbrev pub event_spelling : Event → Text
event_spelling (event.Establish link stream lose) = operation_line (codes "establish") link stream lose
event_spelling (event.Refresh link stream lose) = operation_line (codes "refresh") link stream lose
event_spelling (event.Stop link stream lose) = operation_line (codes "stop") link stream lose
event_spelling (event.Send port bytes more trusted) = send_line port bytes more trusted
event_spelling (event.Pass packet) = codes "pass" ++ joined_words (decimal packet ∷ [])
event_spelling (event.Alter packet at mask) =
    codes "alter" ++ joined_words (decimal packet ∷ decimal at ∷ encode_lower (mask ∷ []) ∷ [])
event_spelling (event.Cut packet len) = codes "cut" ++ joined_words (decimal packet ∷ decimal len ∷ [])
event_spelling (event.Interface e) = interface_line e
event_spelling _ = []

-- the script of all events of a seed and a number of rounds
unfoldable pub generated_script : (seed count : ℕ) → Text
generated_script seed count = flat_map event_spelling (generated_events seed count)
