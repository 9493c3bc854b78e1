-- Verdicts by their lines.
use Rattle.std.specs.Prelude.{ℕ, ◌≡◌, ◌<◌, ◌^◌, true, List, [], ◌∷◌, ◌++◌}
use Rattle.hex.specs.Hex.{IsBytes}
use Rattle.ide_types.specs.declared.port.PortName.{PortName}
use Rattle.ide_types.specs.Lines.{is_port}
use Rattle.ide_types.specs.declared.plan.Plan.{Plan}
use Rattle.ide_types.specs.Fits.{FitsPlan}
use Rattle.ide_types.specs.Ends.{line_has}
use Rattle.event_verdicts.specs.Terms.{SealedPacket, UnitName, Verdict, Nothing, Malformed, Plain, RefusedInsecure}
use Rattle.event_verdicts.specs.Terms.{
  RefusedNoKey,
  RefusedUnfinished,
  RefusedWorn,
  Sealed,
  Unknown,
  Insecure,
  NotKeyed,
}
use Rattle.event_verdicts.specs.Terms.{Fail, Held, Accepted, Established, Refreshed, Stopped, LostRequest, LostReply}
use Rattle.event_verdicts.specs.Terms.{RefusedNotIdle, RefusedNotSecure, RefusedPoolEmpty, RefusedDevice, RefusedBusy}
use Rattle.event_verdicts.specs.Terms.{RefusedUnitOpen, Packet, Reset, Status, Interface, Access, Through}
use Rattle.event_verdicts.specs.InterfaceLines.{FitsInterfaceVerdict}
use Rattle.event_verdicts.specs.AccessLines.{FitsAccessVerdict}
use Rattle.event_verdicts.specs.Lines.{line_of}
use Rattle.event_verdicts.specs.Shown.{verdict_by_ports}

-- ---- Each number has at most 64 bits, as those of every type here have, and each byte 8. A line of the topology has
-- the stream, and where none is looked up a port is named.

abbrev pub FitsLineStream : Plan → ℕ → ℕ → Type 0
FitsLineStream plan line stream = (line_has plan line stream ≡ true) × (stream < 2 ^ 64)

abbrev pub FitsUnit : Plan → PortName → UnitName → Type 0
FitsUnit plan port u = FitsLineStream plan port.line u.stream × (u.draw < 2 ^ 64) × (u.unit < 2 ^ 64)

abbrev pub FitsSealed : Plan → SealedPacket → Type 0
FitsSealed plan p =
    (p.number < 2 ^ 64) × FitsLineStream plan p.port.line p.stream × (p.draw < 2 ^ 64) × (p.unit < 2 ^ 64)
    × (p.posted < 2 ^ 64)

abbrev pub FitPackets : Plan → List SealedPacket → Type 0
FitPackets plan [] = Unit {0}
FitPackets plan (p ∷ ps) = FitsSealed plan p × FitPackets plan ps

abbrev pub FitsKeyed : ℕ → ℕ → ℕ → Type 0
FitsKeyed line stream draw = (line < 2 ^ 64) × (stream < 2 ^ 64) × (draw < 2 ^ 64)

abbrev pub Fits : Plan → Verdict → Type 0
Fits plan Nothing = Unit {0}
Fits plan (Malformed port word place) = (is_port port ≡ true) × (place < 2 ^ 64)
Fits plan (Plain port) = is_port port ≡ true
Fits plan RefusedInsecure = Unit {0}
Fits plan (RefusedNoKey sub) = Unit {0}
Fits plan RefusedUnfinished = Unit {0}
Fits plan (RefusedWorn sub units) = units < 2 ^ 64
Fits plan (Sealed packets) = FitPackets plan packets
Fits plan (Unknown port stream) = (is_port port ≡ true) × (stream < 2 ^ 64)
Fits plan (Insecure port stream) = FitsLineStream plan port.line stream
Fits plan (NotKeyed port stream sub) = FitsLineStream plan port.line stream
Fits plan (Fail port stream sub cause) = FitsLineStream plan port.line stream
Fits plan (Held port unit) = FitsUnit plan port unit
Fits plan (Accepted port unit effects) = FitsUnit plan port unit
Fits plan (Established line stream draw) = FitsLineStream plan line stream × (draw < 2 ^ 64)
Fits plan (Refreshed line stream draw) = FitsKeyed line stream draw
Fits plan (Stopped line stream) = FitsLineStream plan line stream
Fits plan (LostRequest exchange) = exchange < 2 ^ 64
Fits plan (LostReply exchange) = exchange < 2 ^ 64
Fits plan RefusedNotIdle = Unit {0}
Fits plan (RefusedNotSecure status) = Unit {0}
Fits plan (RefusedPoolEmpty draws) = draws < 2 ^ 64
Fits plan (RefusedDevice exchange code) = (exchange < 2 ^ 64) × (code < 2 ^ 64)
Fits plan (RefusedBusy kind operation) = Unit {0}
Fits plan (RefusedUnitOpen sub) = Unit {0}
Fits plan (Packet packet bytes) = (packet < 2 ^ 64) × IsBytes bytes
Fits plan (Reset link) = link < 2 ^ 64
Fits plan (Status line stream host device) = (line < 2 ^ 64) × (stream < 2 ^ 64)
Fits plan (Interface verdict) = FitsInterfaceVerdict verdict
Fits plan (Access verdict) = FitsAccessVerdict verdict
Fits plan (Through port) = is_port port ≡ true

-- Texts that are equal, and begin with the lines of two verdicts of one topology as they are shown, begin with one
-- verdict of one number, and go on alike.
abbrev pub LinesApart : Type 0
LinesApart =
    (plan : Plan) → FitsPlan plan → (m n : ℕ) (v w : Verdict) (xs ys : List ℕ) → m < 2 ^ 64 → n < 2 ^ 64 → Fits plan v
    → Fits plan w → line_of m (verdict_by_ports plan.peers v) ++ xs ≡ line_of n (verdict_by_ports plan.peers w) ++ ys
    → (m ≡ n) × (v ≡ w) × (xs ≡ ys)
