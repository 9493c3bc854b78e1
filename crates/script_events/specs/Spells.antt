-- Which lines spell an event, said by the event.
use Rattle.std.specs.Prelude.{◌≡◌, ◌<◌, ◌≤◌, ◌^◌, ◌==◌, ◌↔◌, ◌⊎◌, Bool, true, false, List, [], ◌∷◌, length}
use Rattle.std.specs.Prelude.{Some, None, Ok, codes}
use Rattle.std.specs.List.{list_all}
use Rattle.ide_types.specs.declared.port.Side.TheVariants.{Host}
use Rattle.ide_types.specs.Names.{Text, is_printable}
use Rattle.ide_types.specs.Lines.{is_port}
use Rattle.script_events.specs.Terms.{ScriptEvent, Establish, Refresh, Stop, Send, PeerSend, Pass, Alter, Cut, Arrive}
use Rattle.script_events.specs.Terms.{Dump, Reset, Status, Interface, Access, Peer, Hop}
use Rattle.script_events.specs.Words.{line_limit, words_in, number_of_word, mask_in, bytes_in, port_of_word}
use Rattle.script_events.specs.Words.{any_port_of_word}
pub use Rattle.script_events.specs.Parts.{WordOf, LossSpelledBy, OneSpelledBy, TwoSpelledBy, OperationSpelledBy}
use Rattle.script_events.specs.Interfaces.{InterfaceSpelledBy, IsAllowedInterface}
use Rattle.script_events.specs.Accesses.{AccessSpelledBy, IsAllowedAccess}
use Rattle.script_events.specs.Paired.{PeerSendSpelledBy, PeerSpelledBy, HopSpelledBy}
pub use Rattle.script_events.specs.Allowed.{IsAllowed}
use Rattle.script_events.specs.Parse.{is_comment, line_meaning}

abbrev pub mark_words : Bool → Bool → List Text
mark_words false false = []
mark_words true false = codes "more" ∷ []
mark_words false true = codes "trusted" ∷ []
mark_words true true = codes "more" ∷ codes "trusted" ∷ []

-- the words spell the event; trusted stands at a host's port alone
abbrev pub SpelledBy : ScriptEvent → List Text → Type 0
SpelledBy (Establish link stream lose) words = OperationSpelledBy (codes "establish") link stream lose words
SpelledBy (Refresh link stream lose) words = OperationSpelledBy (codes "refresh") link stream lose words
SpelledBy (Stop link stream lose) words = OperationSpelledBy (codes "stop") link stream lose words
SpelledBy (Send port bytes more trusted) words =
    (p : WordOf port_of_word port) × (b : WordOf bytes_in bytes) × (words ≡ codes "send" ∷ p.0 ∷ b.0
    ∷ mark_words more trusted) × (trusted ≡ true → port.side ≡ Host)
SpelledBy (PeerSend peer side bytes more) words = PeerSendSpelledBy peer side bytes more words
SpelledBy (Pass packet) words = OneSpelledBy (codes "pass") packet words
SpelledBy (Alter packet at mask) words =
    (n : WordOf number_of_word packet) × (a : WordOf number_of_word at) × (h : WordOf mask_in mask)
    × (words ≡ codes "alter" ∷ n.0 ∷ a.0 ∷ h.0 ∷ [])
SpelledBy (Cut packet len) words = TwoSpelledBy (codes "cut") packet len words
SpelledBy (Arrive port bytes) words = (p : WordOf any_port_of_word port) × (b : WordOf bytes_in bytes)
    × (words ≡ codes "arrive" ∷ p.0 ∷ b.0 ∷ [])
SpelledBy (Dump packet) words = OneSpelledBy (codes "dump") packet words
SpelledBy (Reset link) words = OneSpelledBy (codes "reset") link words
SpelledBy (Status link stream) words = TwoSpelledBy (codes "status") link stream words
SpelledBy (Interface event) words = InterfaceSpelledBy event words
SpelledBy (Access event) words = AccessSpelledBy event words
SpelledBy (Peer event) words = PeerSpelledBy event words
SpelledBy (Hop event) words = HopSpelledBy event words

-- the line spells the event
pub record SpellsEvent (event : ScriptEvent) (line : Text) : Type 0 where
  pub short_enough : length line ≤ line_limit
  pub no_comment : is_comment line ≡ false
  pub printable : list_all is_printable line ≡ true
  pub words : SpelledBy event (words_in line)

-- a line means an event if it spells it
abbrev pub MeaningIsSpelling : Type 0
MeaningIsSpelling = (line : Text) (event : ScriptEvent) → (line_meaning line ≡ Ok (Some event)) ↔ SpellsEvent event line

-- at most 20,000 bytes, a comment or spaces alone
abbrev pub IsSkipped : Text → Type 0
IsSkipped line = (length line ≤ line_limit) × ((is_comment line ≡ true) ⊎ (list_all (λ b. b == 32) line ≡ true))

-- a line means no event if it is skipped
abbrev pub NothingIsSkipped : Type 0
NothingIsSkipped = (line : Text) → (line_meaning line ≡ Ok None) ↔ IsSkipped line

-- A host's or a device's port sends, trusted is asked of a host's port alone, bytes arrive at a port of a host, a
-- device or a switch, and a place in the event's bytes has at most 64 bits. A value has room in its register, and 1 to
-- 256 bytes are shown.
abbrev pub IsAllowedInScript : ScriptEvent → Type 0
IsAllowedInScript (Send port bytes more trusted) = (port.line < 8) × (trusted ≡ true → port.side ≡ Host)
    × (length bytes < 2 ^ 64)
IsAllowedInScript (PeerSend peer side bytes more) = length bytes < 2 ^ 64
IsAllowedInScript (Arrive port bytes) = (is_port port ≡ true) × (length bytes < 2 ^ 64)
IsAllowedInScript (Interface event) = IsAllowedInterface event
IsAllowedInScript (Access event) = IsAllowedAccess event
IsAllowedInScript _ = Unit {0}

abbrev pub SpelledAreAllowed : Type 0
SpelledAreAllowed = (line : Text) (event : ScriptEvent) → SpellsEvent event line → IsAllowedInScript event
