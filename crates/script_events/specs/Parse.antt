-- The event that a line spells, or its first fault, word by word.
use Rattle.std.specs.Prelude.{◌≡◌, ◌==◌, ◌&&◌, ◌||◌, nat_lt, Bool, true, false, not, List, [], ◌∷◌, length, Option}
use Rattle.std.specs.Prelude.{Some, None, Result, Ok, Err, if◌then◌else◌, codes}
use Rattle.std.specs.List.{list_all}
use Rattle.std.specs.Option.{ok_or, unwrap_or, option_map}
use Rattle.std.specs.Str.{bytes_eq}
use Rattle.ide_types.specs.declared.port.Side.{Side}
use Rattle.ide_types.specs.declared.port.Side.TheVariants.{Host, Device}
use Rattle.ide_types.specs.Names.{Text, is_printable}
use Rattle.script_events.specs.Terms.{
  ScriptEvent,
  Establish,
  Refresh,
  Stop,
  Send,
  Pass,
  Alter,
  Cut,
  Arrive,
  Dump,
  Reset,
}
use Rattle.script_events.specs.Terms.{Status, Interface, InterfaceEvent, Access, AccessEvent, Peer, PeerEvent, Hop}
use Rattle.script_events.specs.Terms.{HopEvent, LineFault, Word, Count, Number, Hex, TooLong, NotAscii, LineError}
use Rattle.script_events.specs.Terms.error
use Rattle.script_events.specs.Words.{line_limit, words_in, number_of_word, mask_in, bytes_in, port_of_word}
use Rattle.script_events.specs.Words.{any_port_of_word}
pub use Rattle.script_events.specs.Parts.{◌>>=◌, lost_exchange_in, loss_in, is_loss_long, one_number_in, two_numbers_in}
pub use Rattle.script_events.specs.Parts.{operation_in}
use Rattle.script_events.specs.Interfaces.{interface_event_by_word}
use Rattle.script_events.specs.Accesses.{access_event_by_word}
use Rattle.script_events.specs.Paired.{peer_send_in, peer_event_of, hop_event_of}

-- ---- the words after the first

-- more, and then at a host's port trusted: whether each stands there
abbrev pub marks_in : Side → List Text → Option (Bool × Bool)
marks_in side [] = Some (false, false)
marks_in Host (a ∷ []) =
    if bytes_eq a (codes "more") then Some (true, false)
    else if bytes_eq a (codes "trusted") then Some (false, true)
    else None
marks_in Device (a ∷ []) = if bytes_eq a (codes "more") then Some (true, false) else None
marks_in Host (a ∷ b ∷ []) = if bytes_eq a (codes "more") && bytes_eq b (codes "trusted") then Some (
  true,
  true,
) else None
marks_in _ _ = None

abbrev pub send_in : List Text → Result ScriptEvent LineFault
send_in (p ∷ w ∷ marks) =
    if nat_lt 2 (length marks) then Err Count
    else do
      port ← ok_or (port_of_word p) Word
      bytes ← ok_or (bytes_in w) Hex
      m ← ok_or (marks_in port.side marks) Word
      Ok (Send port bytes m.0 m.1)
send_in _ = Err Count

abbrev pub alter_in : List Text → Result ScriptEvent LineFault
alter_in (n ∷ a ∷ h ∷ []) = do
  packet ← ok_or (number_of_word n) Number
  at ← ok_or (number_of_word a) Number
  mask ← ok_or (mask_in h) Hex
  Ok (Alter packet at mask)
alter_in _ = Err Count

abbrev pub arrive_in : List Text → Result ScriptEvent LineFault
arrive_in (p ∷ w ∷ []) = do
  port ← ok_or (any_port_of_word p) Word
  bytes ← ok_or (bytes_in w) Hex
  Ok (Arrive port bytes)
arrive_in _ = Err Count

-- ---- lines

-- an event that names packets; nothing if the first word is none of these events
abbrev pub packet_event_of : Text → List Text → Option (Result ScriptEvent LineFault)
packet_event_of first rest =
    if bytes_eq first (codes "pass") then Some (one_number_in rest >>= λ n. Ok (Pass n))
    else if bytes_eq first (codes "alter") then Some (alter_in rest)
    else if bytes_eq first (codes "cut") then Some (two_numbers_in rest >>= λ n. Ok (Cut n.0 n.1))
    else if bytes_eq first (codes "dump") then Some (one_number_in rest >>= λ n. Ok (Dump n))
    else None

-- an event that names links, streams and packets, and holds no bytes
abbrev pub naming_event_of : Text → List Text → Option (Result ScriptEvent LineFault)
naming_event_of first rest =
    if bytes_eq first (codes "establish") then Some (operation_in rest >>= λ o. Ok (Establish o.0 o.1 o.2))
    else if bytes_eq first (codes "refresh") then Some (operation_in rest >>= λ o. Ok (Refresh o.0 o.1 o.2))
    else if bytes_eq first (codes "stop") then Some (operation_in rest >>= λ o. Ok (Stop o.0 o.1 o.2))
    else if bytes_eq first (codes "reset") then Some (one_number_in rest >>= λ n. Ok (Reset n))
    else if bytes_eq first (codes "status") then Some (two_numbers_in rest >>= λ n. Ok (Status n.0 n.1))
    else packet_event_of first rest

-- an event that holds bytes
abbrev pub bytes_event_in : Text → List Text → Result ScriptEvent LineFault
bytes_event_in first rest =
    if bytes_eq first (codes "send") then send_in rest
    else if bytes_eq first (codes "psend") then peer_send_in rest
    else if bytes_eq first (codes "arrive") then arrive_in rest
    else Err Word

-- an event on an interface or on memory, as an event
abbrev pub made_interface : Result InterfaceEvent LineFault → Result ScriptEvent LineFault
made_interface answer = answer >>= λ e. Ok (Interface e)

abbrev pub made_access : Result AccessEvent LineFault → Result ScriptEvent LineFault
made_access answer = answer >>= λ e. Ok (Access e)

abbrev pub made_peer : Result PeerEvent LineFault → Result ScriptEvent LineFault
made_peer answer = answer >>= λ e. Ok (Peer e)

abbrev pub made_hop : Result HopEvent LineFault → Result ScriptEvent LineFault
made_hop answer = answer >>= λ e. Ok (Hop e)

-- an event on a hop, or one that holds bytes
abbrev pub parsed_hop_event : Text → List Text → Result ScriptEvent LineFault
parsed_hop_event first rest = unwrap_or (option_map made_hop (hop_event_of first rest)) (bytes_event_in first rest)

-- an event on a stream between devices, or one of these
abbrev pub parsed_peer_event : Text → List Text → Result ScriptEvent LineFault
parsed_peer_event first rest = unwrap_or (option_map made_peer (peer_event_of first rest)) (parsed_hop_event first rest)

-- an event on a trusted read or on guarded memory, or one of these
abbrev pub access_event_in : Text → List Text → Result ScriptEvent LineFault
access_event_in first rest = unwrap_or (option_map made_access (access_event_by_word first rest))
    (parsed_peer_event first rest)

-- an event on an interface or on memory, or one of these
abbrev pub interface_event_in : Text → List Text → Result ScriptEvent LineFault
interface_event_in first rest =
    unwrap_or (option_map made_interface (interface_event_by_word first rest)) (access_event_in first rest)

abbrev pub event_by_first_word : Text → List Text → Result ScriptEvent LineFault
event_by_first_word first rest = unwrap_or (naming_event_of first rest) (interface_event_in first rest)

-- no words are no event
abbrev pub event_in : List Text → Result (Option ScriptEvent) LineFault
event_in [] = Ok None
event_in (first ∷ rest) = do
  event ← event_by_first_word first rest
  Ok (Some event)

abbrev pub is_comment : Text → Bool
is_comment [] = false
is_comment (b ∷ bs) = b == 35

-- the event, none on a comment and on a line of spaces, or the first fault
abbrev pub line_meaning : Text → Result (Option ScriptEvent) LineFault
line_meaning line =
    if nat_lt line_limit (length line) then Err TooLong
    else if is_comment line then Ok None
    else if not (list_all is_printable line) then Err NotAscii
    else event_in (words_in line)

-- ---- answers

-- the error is want of memory, or the fault that is due
abbrev pub IsErrorOf : {A : Type 0} → Result A LineFault → LineError → Type 0
IsErrorOf due error.Memory = Unit {0}
IsErrorOf due (error.Fault f) = due ≡ Err f

-- the answer is the one that is due, but for want of memory
abbrev pub IsLineAnswer : {A : Type 0} → Result A LineFault → Result A LineError → Type 0
IsLineAnswer due (Ok x) = due ≡ Ok x
IsLineAnswer due (Err e) = IsErrorOf due e

-- the answer is the one that is due
abbrev pub line_answer : {A : Type 0} → Result A LineFault → Result A LineError
line_answer (Ok x) = Ok x
line_answer (Err f) = Err (error.Fault f)

-- the line begins with the word of an event that holds bytes
abbrev pub begins_bytes : List Text → Bool
begins_bytes [] = false
begins_bytes (first ∷ rest) =
    bytes_eq first (codes "send") || bytes_eq first (codes "psend") || bytes_eq first (codes "arrive")
