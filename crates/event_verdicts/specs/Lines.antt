-- The line of each verdict.
use Rattle.std.specs.Prelude.{ℕ, ◌-◌, nat_lt, Bool, true, false, List, [], ◌∷◌, ◌++◌, if◌then◌else◌, codes}
use Rattle.std.specs.Fmt.{decimal}
use Rattle.ide_types.specs.Names.{Text, joined_words, port_word, substream_word, fail_word, fault_word, status_word}
use Rattle.ide_types.specs.Names.{kind_word}
use Rattle.event_verdicts.specs.Terms.{Effect, SealedPacket, UnitName, Totals, Verdict, Nothing, Malformed, Plain}
use Rattle.event_verdicts.specs.Terms.{RefusedInsecure, RefusedNoKey, RefusedUnfinished, RefusedWorn, Sealed, Unknown}
use Rattle.event_verdicts.specs.Terms.{Insecure, NotKeyed, Fail, Held, Accepted, Established, Refreshed, Stopped}
use Rattle.event_verdicts.specs.Terms.{LostRequest, LostReply, RefusedNotIdle, RefusedNotSecure, RefusedPoolEmpty}
use Rattle.event_verdicts.specs.Terms.{RefusedDevice, RefusedBusy, RefusedUnitOpen, Packet, Reset, Status, Interface}
use Rattle.event_verdicts.specs.Terms.{Access, Through}
pub use Rattle.event_verdicts.specs.Words.{block_word, effect_word, operation_word, bytes_word, bit_of}
use Rattle.event_verdicts.specs.InterfaceLines.{interface_words}
use Rattle.event_verdicts.specs.AccessLines.{access_words}

-- ---- parts of a line, each before the words that follow it

abbrev pub unit_words : UnitName → List Text → List Text
unit_words u after = decimal u.stream ∷ substream_word u.sub ∷ codes "draw" ∷ decimal u.draw ∷ codes "unit"
    ∷ decimal u.unit ∷ after

abbrev pub sync_words : Bool → List Text → List Text
sync_words true after = codes "sync" ∷ after
sync_words false after = after

abbrev pub sealed_words : SealedPacket → List Text → List Text
sealed_words p after =
    decimal p.number ∷ port_word p.port ∷ decimal p.stream ∷ substream_word p.sub ∷ codes "draw" ∷ decimal p.draw
    ∷ codes "unit" ∷ decimal p.unit
    ∷ (codes "m" ++ decimal (bit_of p.m)) ∷ (codes "k" ++ decimal (bit_of p.k)) ∷ (codes "t" ++ decimal (bit_of p.t))
    ∷ (codes "p" ++ decimal p.posted) ∷ sync_words p.sync after

abbrev pub more_packets_words : List SealedPacket → List Text
more_packets_words [] = []
more_packets_words (p ∷ ps) = codes ";" ∷ sealed_words p (more_packets_words ps)

-- packets, and a semicolon between each two
abbrev pub packets_words : List SealedPacket → List Text
packets_words [] = []
packets_words (p ∷ ps) = sealed_words p (more_packets_words ps)

abbrev pub effects_words : List Effect → List Text
effects_words [] = []
effects_words (e ∷ es) = effect_word e ∷ effects_words es

-- ---- lines

-- the end of an operation on the stream of a line: its word, the line, and what follows. A hop's stream is named by its
-- link and the segment, a stream between devices by its number.
abbrev pub ended_words : Text → ℕ → ℕ → List Text → List Text
ended_words word line stream after =
    if nat_lt line 8 then word ∷ decimal line ∷ decimal stream ∷ after
    else if nat_lt line 16 then (codes "h" ++ word) ∷ decimal (line - 8) ∷ codes "0" ∷ after
    else if nat_lt line 24 then (codes "h" ++ word) ∷ decimal (line - 16) ∷ codes "1" ∷ after
    else (codes "p" ++ word) ∷ decimal (line - 24) ∷ after

abbrev pub keyed_words : Text → ℕ → ℕ → ℕ → List Text
keyed_words word line stream draw = word ∷ decimal line ∷ decimal stream ∷ codes "draw" ∷ decimal draw ∷ []

abbrev pub verdict_words : Verdict → List Text
verdict_words Nothing = codes "none" ∷ []
verdict_words (Malformed port word place) = codes "malformed" ∷ port_word port ∷ fault_word word ∷ decimal place ∷ []
verdict_words (Plain port) = codes "plain" ∷ port_word port ∷ []
verdict_words RefusedInsecure = codes "refused" ∷ codes "insecure" ∷ []
verdict_words (RefusedNoKey sub) = codes "refused" ∷ codes "nokey" ∷ substream_word sub ∷ []
verdict_words RefusedUnfinished = codes "refused" ∷ codes "unfinished" ∷ []
verdict_words (RefusedWorn sub units) = codes "refused" ∷ codes "worn" ∷ substream_word sub ∷ decimal units ∷ []
verdict_words (Sealed packets) = codes "sealed" ∷ packets_words packets
verdict_words (Unknown port stream) = codes "unknown" ∷ port_word port ∷ decimal stream ∷ []
verdict_words (Insecure port stream) = codes "insecure" ∷ port_word port ∷ decimal stream ∷ []
verdict_words (NotKeyed port stream sub) = codes "notkeyed" ∷ port_word port ∷ decimal stream ∷ substream_word sub ∷ []
verdict_words (Fail port stream sub cause) = codes "fail" ∷ port_word port ∷ decimal stream ∷ substream_word sub
    ∷ fail_word cause ∷ []
verdict_words (Held port unit) = codes "held" ∷ port_word port ∷ unit_words unit []
verdict_words (Accepted port unit effects) = codes "accepted" ∷ port_word port ∷ unit_words unit (effects_words effects)
verdict_words (Established line stream draw) =
    ended_words (codes "established") line stream (codes "draw" ∷ decimal draw ∷ [])
verdict_words (Refreshed line stream draw) = keyed_words (codes "refreshed") line stream draw
verdict_words (Stopped line stream) = ended_words (codes "stopped") line stream []
verdict_words (LostRequest exchange) = codes "lost" ∷ codes "request" ∷ decimal exchange ∷ []
verdict_words (LostReply exchange) = codes "lost" ∷ codes "reply" ∷ decimal exchange ∷ []
verdict_words RefusedNotIdle = codes "refused" ∷ codes "notidle" ∷ []
verdict_words (RefusedNotSecure status) = codes "refused" ∷ codes "notsecure" ∷ status_word status ∷ []
verdict_words (RefusedPoolEmpty draws) = codes "refused" ∷ codes "poolempty" ∷ decimal draws ∷ []
verdict_words (RefusedDevice exchange code) = codes "refused" ∷ codes "devicerefused" ∷ decimal exchange
    ∷ decimal code ∷ []
verdict_words (RefusedBusy kind operation) = codes "refused" ∷ codes "busy"
    ∷ (kind_word kind ++ operation_word operation) ∷ []
verdict_words (RefusedUnitOpen sub) = codes "refused" ∷ codes "unitopen" ∷ substream_word sub ∷ []
verdict_words (Packet packet bytes) = codes "packet" ∷ decimal packet ∷ bytes_word bytes ∷ []
verdict_words (Reset link) = codes "reset" ∷ decimal link ∷ []
verdict_words (Status line stream host device) =
    codes "status" ∷ decimal line ∷ decimal stream ∷ status_word host ∷ status_word device ∷ []
verdict_words (Interface verdict) = interface_words verdict
verdict_words (Access verdict) = access_words verdict
verdict_words (Through port) = codes "through" ∷ port_word port ∷ []

-- of a send that was refused
abbrev pub IsSendRefusal : Verdict → Type 0
IsSendRefusal RefusedInsecure = Unit {0}
IsSendRefusal (RefusedNoKey sub) = Unit {0}
IsSendRefusal RefusedUnfinished = Unit {0}
IsSendRefusal (RefusedWorn sub units) = Unit {0}
IsSendRefusal _ = ⊥

-- of bytes that arrived, and are neither malformed nor plain
abbrev pub IsArrival : Verdict → Type 0
IsArrival (Unknown port stream) = Unit {0}
IsArrival (Insecure port stream) = Unit {0}
IsArrival (NotKeyed port stream sub) = Unit {0}
IsArrival (Fail port stream sub cause) = Unit {0}
IsArrival (Held port unit) = Unit {0}
IsArrival (Accepted port unit effects) = Unit {0}
IsArrival (Through port) = Unit {0}
IsArrival _ = ⊥

-- of an operation on a stream that was refused at its beginning or by the device
abbrev pub IsOperationRefusal : Verdict → Type 0
IsOperationRefusal RefusedNotIdle = Unit {0}
IsOperationRefusal (RefusedNotSecure status) = Unit {0}
IsOperationRefusal (RefusedPoolEmpty draws) = Unit {0}
IsOperationRefusal (RefusedDevice exchange code) = Unit {0}
IsOperationRefusal (RefusedBusy kind operation) = Unit {0}
IsOperationRefusal (RefusedUnitOpen sub) = Unit {0}
IsOperationRefusal _ = ⊥

-- of an operation on a stream that ended or lost a message
abbrev pub IsOutcome : Verdict → Type 0
IsOutcome (Established line stream draw) = Unit {0}
IsOutcome (Refreshed line stream draw) = Unit {0}
IsOutcome (Stopped line stream) = Unit {0}
IsOutcome (LostRequest exchange) = Unit {0}
IsOutcome (LostReply exchange) = Unit {0}
IsOutcome _ = ⊥

-- a verdict's line after its event's number
abbrev pub line_of : ℕ → Verdict → Text
line_of number v = decimal number ++ joined_words (verdict_words v)

abbrev pub totals_words : Totals → List Text
totals_words t = codes "sealed" ∷ decimal t.sealed ∷ codes "accepted" ∷ decimal t.accepted ∷ codes "failed"
    ∷ decimal t.failed ∷ codes "blocked" ∷ decimal t.blocked ∷ []

-- the last line of a run that was read to its end
abbrev pub totals_line_of : Totals → Text
totals_line_of t = codes "total" ++ joined_words (totals_words t)
