-- The words of the verdicts of events on device interfaces and on trusted memory.
use Rattle.std.specs.Prelude.{◌≡◌, ◌<◌, ◌-◌, ◌^◌, true, List, [], ◌∷◌, codes}
use Rattle.std.specs.Fmt.{decimal}
use Rattle.hex.specs.Hex.{encode_lower, IsBytes}
use Rattle.ide_types.specs.Names.{Text}
use Rattle.ide_types.specs.Lines.{is_peer_line}
use Rattle.ide_types.specs.ViewNames.{view_word}
use Rattle.ide_types.specs.declared.verdict.InterfaceVerdict.{InterfaceVerdict}
use Rattle.ide_types.specs.declared.verdict.InterfaceVerdict.TheVariants as iv
use Rattle.event_verdicts.specs.Words.{bytes_word}

abbrev pub interface_words : InterfaceVerdict → List Text
interface_words (iv.Locked interface nonce) = codes "locked" ∷ decimal interface ∷ encode_lower nonce ∷ []
interface_words (iv.Reported interface report) = codes "reported" ∷ decimal interface ∷ bytes_word report ∷ []
interface_words (iv.Started interface draw) = codes "started" ∷ decimal interface ∷ codes "draw" ∷ decimal draw ∷ []
interface_words (iv.Halted interface needs) = codes "halted" ∷ decimal interface ∷ codes "needs" ∷ decimal needs ∷ []
interface_words (iv.Bound interface line) = codes "bound" ∷ decimal interface ∷ decimal (line - 24) ∷ []
interface_words (iv.Unbound interface line) = codes "unbound" ∷ decimal interface ∷ decimal (line - 24) ∷ []
interface_words (iv.State interface state) = codes "state" ∷ decimal interface ∷ decimal state ∷ []
interface_words (iv.View interface view) = codes "view" ∷ decimal interface ∷ view_word view ∷ []
interface_words (iv.Written interface state) = codes "written" ∷ decimal interface ∷ decimal state ∷ []
interface_words (iv.Flr interface state) = codes "flr" ∷ decimal interface ∷ decimal state ∷ []
interface_words (iv.Firmware interface state) = codes "firmware" ∷ decimal interface ∷ decimal state ∷ []
interface_words (iv.Memory bytes) = codes "memory" ∷ bytes_word bytes ∷ []
interface_words (iv.RefusedWrongState view) = codes "refused" ∷ codes "wrongstate" ∷ view_word view ∷ []
interface_words iv.RefusedNotReported = codes "refused" ∷ codes "notreported" ∷ []
interface_words (iv.RefusedRefreshFirst draw needed) = codes "refused" ∷ codes "refreshfirst" ∷ decimal draw
    ∷ decimal needed ∷ []

-- of an operation that its manager refused
abbrev pub IsInterfaceRefusal : InterfaceVerdict → Type 0
IsInterfaceRefusal (iv.RefusedWrongState view) = Unit {0}
IsInterfaceRefusal iv.RefusedNotReported = Unit {0}
IsInterfaceRefusal (iv.RefusedRefreshFirst draw needed) = Unit {0}
IsInterfaceRefusal _ = ⊥

-- shows bytes: of a nonce, of a report or of memory
abbrev pub ShowsBytes : InterfaceVerdict → Type 0
ShowsBytes (iv.Locked interface nonce) = Unit {0}
ShowsBytes (iv.Reported interface report) = Unit {0}
ShowsBytes (iv.Memory bytes) = Unit {0}
ShowsBytes _ = ⊥

-- each number has at most 64 bits, and each byte 8; what an interface is bound to is a stream between devices
abbrev pub FitsInterfaceVerdict : InterfaceVerdict → Type 0
FitsInterfaceVerdict (iv.Locked interface nonce) = (interface < 2 ^ 64) × IsBytes nonce
FitsInterfaceVerdict (iv.Reported interface report) = (interface < 2 ^ 64) × IsBytes report
FitsInterfaceVerdict (iv.Started interface draw) = (interface < 2 ^ 64) × (draw < 2 ^ 64)
FitsInterfaceVerdict (iv.Halted interface needs) = (interface < 2 ^ 64) × (needs < 2 ^ 64)
FitsInterfaceVerdict (iv.Bound interface line) = (interface < 2 ^ 64) × (is_peer_line line ≡ true)
FitsInterfaceVerdict (iv.Unbound interface line) = (interface < 2 ^ 64) × (is_peer_line line ≡ true)
FitsInterfaceVerdict (iv.State interface state) = (interface < 2 ^ 64) × (state < 2 ^ 64)
FitsInterfaceVerdict (iv.View interface view) = interface < 2 ^ 64
FitsInterfaceVerdict (iv.Written interface state) = (interface < 2 ^ 64) × (state < 2 ^ 64)
FitsInterfaceVerdict (iv.Flr interface state) = (interface < 2 ^ 64) × (state < 2 ^ 64)
FitsInterfaceVerdict (iv.Firmware interface state) = (interface < 2 ^ 64) × (state < 2 ^ 64)
FitsInterfaceVerdict (iv.Memory bytes) = IsBytes bytes
FitsInterfaceVerdict (iv.RefusedWrongState view) = Unit {0}
FitsInterfaceVerdict iv.RefusedNotReported = Unit {0}
FitsInterfaceVerdict (iv.RefusedRefreshFirst draw needed) = (draw < 2 ^ 64) × (needed < 2 ^ 64)
