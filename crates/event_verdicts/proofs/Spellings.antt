-- Two verdicts with one line are equal: no word of a line has a space in it, so a line gives its words back, and its
-- words the verdict (see Readings).
use Rattle.std.proofs.Common.{rules, true, false, ◌≡◌, ◌<◌, ◌-◌, ◌^◌, ℕ, List, [], ◌∷◌, ◌++◌, Bool, map, sym, ap, ◌∙◌}
use Rattle.std.proofs.Common.{arith, codes}
use Rattle.std.specs.Prelude.{if◌then◌else◌}
use Rattle.std.specs.Fmt.{decimal}
use Rattle.std.proofs.lemmas.Fmt.{decimal_injective}
use Rattle.ide_types.specs.declared.sub.SubKind.{SubKind}
use Rattle.ide_types.specs.declared.sub.SubKind.TheVariants.{Pr, Npr, Cpl}
use Rattle.ide_types.specs.declared.sub.FailCause.{FailCause}
use Rattle.ide_types.specs.declared.port.Side.{Side}
use Rattle.ide_types.specs.declared.port.Side.TheVariants.{Host, Device}
use Rattle.ide_types.specs.declared.port.PortName.{PortName}
use Rattle.ide_types.specs.declared.line.LineKind.{LineKind}
use Rattle.ide_types.specs.declared.line.LineKind.TheVariants as kind
use Rattle.ide_types.specs.Lines.{is_port}
use Rattle.ide_types.specs.Names.{kind_word}
use Rattle.ide_types.specs.declared.plan.Plan.{Plan}
use Rattle.ide_types.specs.Fits.{FitsPlan}
use Rattle.ide_types.specs.Ends.{port_beside_end}
use Rattle.ide_types.proofs.EndsFound.{port_is_one, few_lines, few_ports}
use Rattle.event_verdicts.specs.Shown.{shown_packet, verdict_by_ports}
use Rattle.ide_types.specs.declared.fault_word.FaultWord.{FaultWord}
use Rattle.ide_types.specs.declared.status.StreamStatus.{StreamStatus}
use Rattle.ide_types.specs.declared.sub.FailCause.TheVariants as fail
use Rattle.ide_types.specs.declared.fault_word.FaultWord.TheVariants as fault
use Rattle.event_verdicts.specs.Terms.{Effect, Sync, Delivered, Applied, Queued, Stored, Waiting, Blocked, SealedPacket}
use Rattle.event_verdicts.specs.Terms.{UnitName, Verdict, Nothing, Malformed, Plain, RefusedInsecure, RefusedNoKey}
use Rattle.event_verdicts.specs.Terms.{RefusedUnfinished, RefusedWorn, Sealed, Unknown, Insecure, NotKeyed, Fail, Held}
use Rattle.event_verdicts.specs.Terms.{
  Accepted,
  Established,
  Refreshed,
  Stopped,
  LostRequest,
  LostReply,
  RefusedNotIdle,
}
use Rattle.event_verdicts.specs.Terms.{RefusedNotSecure, RefusedPoolEmpty, RefusedDevice, RefusedBusy, RefusedUnitOpen}
use Rattle.event_verdicts.specs.Terms.{Packet, Reset, Status, Interface, Access, Through, Operation}
use Rattle.ide_types.specs.declared.status.StreamStatus.TheVariants as status
use Rattle.event_verdicts.specs.Terms.operation
use Rattle.ide_types.specs.Names.{Text, side_word, port_word, substream_word, fail_word, fault_word, status_word}
use Rattle.event_verdicts.specs.Lines.{effect_word, operation_word, keyed_words, bit_of, unit_words, sync_words}
use Rattle.event_verdicts.specs.Lines.{sealed_words, more_packets_words, packets_words, effects_words, verdict_words}
use Rattle.event_verdicts.specs.Apart.{LinesApart, Fits, FitsKeyed, FitsLineStream, FitsUnit, FitsSealed, FitPackets}
use Rattle.event_verdicts.proofs.Joins.{IsWord, AreWords, line_apart}
use Rattle.event_verdicts.proofs.WordSpellings.{decimal_word, bytes_are_word}
use Rattle.event_verdicts.proofs.InterfaceSpellings.{interface_is_words}
use Rattle.event_verdicts.proofs.AccessSpellings.{block_is_word, access_is_words}
use Rattle.event_verdicts.proofs.Readings.{verdict, verdict_back}

letter_word : (c n : ℕ) → 32 < c → n < 2 ^ 64 → IsWord (c ∷ decimal n)
letter_word c n above h = let w = decimal_word n h in search rules

port_by_tests : (s : Side) (l : ℕ) (a b : Bool) → l < 2 ^ 64 → IsWord (if a then codes "u" ++ decimal (l - 8) else if b
    then codes "w" ++ decimal (l - 16) else side_word s ++ decimal l)
port_by_tests s l true b h = letter_word 117 (l - 8) (omega arith) (omega (arith, h))
port_by_tests s l false true h = letter_word 119 (l - 16) (omega arith) (omega (arith, h))
port_by_tests Host l false false h = letter_word 104 l (omega arith) h
port_by_tests Device l false false h = letter_word 100 l (omega arith) h

port_is_word : (p : PortName) → is_port p ≡ true → IsWord (port_word p)
port_is_word p h = port_by_tests p.side p.line _ _ (few_ports p h)

end_is_word : (plan : Plan) → FitsPlan plan → (p : PortName) (s : ℕ) → FitsLineStream plan p.line s
    → IsWord (port_word (port_beside_end plan.peers p))
end_is_word plan fits p s h = port_is_word (port_beside_end plan.peers p) (port_is_one plan fits p s h.0)

bit_word : (c : ℕ) (b : Bool) → 32 < c → IsWord (c ∷ decimal (bit_of b))
bit_word c true h = let w = decimal_word 1 (omega arith) in search rules
bit_word c false h = let w = decimal_word 0 (omega arith) in search rules

sub_is_word : (s : SubKind) → IsWord (substream_word s)
sub_is_word Pr = search rules
sub_is_word Npr = search rules
sub_is_word Cpl = search rules

fail_is_word : (c : FailCause) → IsWord (fail_word c)
fail_is_word fail.Key = search rules
fail_is_word fail.Unit = search rules
fail_is_word fail.Tag = search rules
fail_is_word fail.Order = search rules

fault_is_word : (w : FaultWord) → IsWord (fault_word w)
fault_is_word fault.Short = search rules
fault_is_word fault.Reserved = search rules
fault_is_word fault.SubStream = search rules
fault_is_word fault.Class = search rules
fault_is_word fault.Kind = search rules
fault_is_word fault.Bit = search rules
fault_is_word fault.Length = search rules
fault_is_word fault.Sync = search rules
fault_is_word fault.Trailing = search rules

status_is_word : (s : StreamStatus) → IsWord (status_word s)
status_is_word status.Idle = search rules
status_is_word status.Partial = search rules
status_is_word status.Secure = search rules
status_is_word status.Insecure = search rules

operation_is_word : (o : Operation) → IsWord (operation_word o)
operation_is_word operation.Establish = search rules
operation_is_word operation.Refresh = search rules
operation_is_word operation.Stop = search rules

busy_is_word : (k : LineKind) (o : Operation) → IsWord (kind_word k ++ operation_word o)
busy_is_word kind.Link o = operation_is_word o
busy_is_word kind.Hop o = let w = operation_is_word o in search rules
busy_is_word kind.Peer o = let w = operation_is_word o in search rules

effect_is_word : (e : Effect) → IsWord (effect_word e)
effect_is_word Sync = search rules
effect_is_word Delivered = search rules
effect_is_word Applied = search rules
effect_is_word Queued = search rules
effect_is_word Stored = search rules
effect_is_word Waiting = search rules
effect_is_word (Blocked cause) = let w = block_is_word cause in search rules

effects_are_words : (es : List Effect) → AreWords (effects_words es)
effects_are_words [] = tt
effects_are_words (e ∷ es) = (effect_is_word e, effects_are_words es)

unit_is_words : (plan : Plan) (p : PortName) (u : UnitName) (after : List Text) → FitsUnit plan p u → AreWords after
    → AreWords (unit_words u after)
unit_is_words plan p u after h later =
    let stream = decimal_word u.stream h.0.1 in
    let sub = sub_is_word u.sub in
    let draw = decimal_word u.draw h.1 in
    let unit = decimal_word u.unit h.2 in
    search rules

sync_is_words : (b : Bool) (after : List Text) → AreWords after → AreWords (sync_words b after)
sync_is_words true after later = search rules
sync_is_words false after later = later

packet_is_words : (plan : Plan) → FitsPlan plan → (p : SealedPacket) (after : List Text) → FitsSealed plan p
    → AreWords after → AreWords (sealed_words (shown_packet plan.peers p) after)
packet_is_words plan fits p after h later =
    let number = decimal_word p.number h.0 in
    let port = end_is_word plan fits p.port p.stream h.1 in
    let stream = decimal_word p.stream h.1.1 in
    let sub = sub_is_word p.sub in
    let draw = decimal_word p.draw h.2 in
    let unit = decimal_word p.unit h.3 in
    let m = bit_word 109 p.m (omega arith) in
    let k = bit_word 107 p.k (omega arith) in
    let t = bit_word 116 p.t (omega arith) in
    let posted = decimal_word p.posted h.4 in
    let sync = sync_is_words p.sync after later in
    search rules

more_packets_are_words : (plan : Plan) → FitsPlan plan → (ps : List SealedPacket) → FitPackets plan ps
    → AreWords (more_packets_words (map (shown_packet plan.peers) ps))
more_packets_are_words plan fits [] h = tt
more_packets_are_words plan fits (p ∷ ps) h =
    let these = packet_is_words plan fits p (more_packets_words (map (shown_packet plan.peers) ps)) h.0
    (more_packets_are_words plan fits ps h.1) in search rules

packets_are_words : (plan : Plan) → FitsPlan plan → (ps : List SealedPacket) → FitPackets plan ps
    → AreWords (packets_words (map (shown_packet plan.peers) ps))
packets_are_words plan fits [] h = tt
packets_are_words plan fits (p ∷ ps) h = packet_is_words plan fits p
    (more_packets_words (map (shown_packet plan.peers) ps)) h.0 (more_packets_are_words plan fits ps h.1)

-- with the letter of each kind of line the word is one
ended_are_words : (word : Text) (line stream : ℕ) (after : List Text) (a b c : Bool) → IsWord word → line < 2 ^ 64
    → stream < 2 ^ 64 → AreWords after → AreWords (if a then word ∷ decimal line ∷ decimal stream ∷ after
    else if b then (codes "h" ++ word) ∷ decimal (line - 8) ∷ codes "0" ∷ after
    else if c then (codes "h" ++ word) ∷ decimal (line - 16) ∷ codes "1" ∷ after
    else (codes "p" ++ word) ∷ decimal (line - 24) ∷ after)
ended_are_words word line stream after true b c w l s later =
    let n = decimal_word line l in let m = decimal_word stream s in search rules
ended_are_words word line stream after false true c w l s later =
    let n = decimal_word (line - 8) (omega (arith, l)) in search rules
ended_are_words word line stream after false false true w l s later =
    let n = decimal_word (line - 16) (omega (arith, l)) in search rules
ended_are_words word line stream after false false false w l s later =
    let n = decimal_word (line - 24) (omega (arith, l)) in search rules

keyed_is_words : (word : Text) (line stream draw : ℕ) → IsWord word → FitsKeyed line stream draw
    → AreWords (keyed_words word line stream draw)
keyed_is_words word line stream draw w h =
    let a = decimal_word line h.0 in let b = decimal_word stream h.1 in let c = decimal_word draw h.2 in search rules

verdict_is_words : (plan : Plan) → FitsPlan plan → (v : Verdict) → Fits plan v
    → AreWords (verdict_words (verdict_by_ports plan.peers v))
verdict_is_words plan fits Nothing h = search rules
verdict_is_words plan fits (Malformed p w n) h = let a = port_is_word p h.0 in let b = fault_is_word w in let c =
    decimal_word n
    h.1 in search rules
verdict_is_words plan fits (Plain p) h = let a = port_is_word p h in search rules
verdict_is_words plan fits RefusedInsecure h = search rules
verdict_is_words plan fits (RefusedNoKey s) h = let a = sub_is_word s in search rules
verdict_is_words plan fits RefusedUnfinished h = search rules
verdict_is_words plan fits (RefusedWorn s n) h = let a = sub_is_word s in let b = decimal_word n h in search rules
verdict_is_words plan fits (Sealed ps) h = let a = packets_are_words plan fits ps h in search rules
verdict_is_words plan fits (Unknown p n) h = let a = port_is_word p h.0 in let b = decimal_word n h.1 in search rules
verdict_is_words plan fits (Insecure p n) h = let a = end_is_word plan fits p n h in let b = decimal_word n h.1 in
    search rules
verdict_is_words plan fits (NotKeyed p n s) h = let a = end_is_word plan fits p n h in let b = decimal_word n h.1 in let
    c = sub_is_word s
    in search rules
verdict_is_words plan fits (Fail p n s c) h =
    let a = end_is_word plan fits p n h in let b = decimal_word n h.1 in let d = sub_is_word s in let e = fail_is_word c
    in
    search rules
verdict_is_words plan fits (Held p u) h = let a = end_is_word plan fits p u.stream h.0 in let b = unit_is_words plan p u
    [] h tt in search rules
verdict_is_words plan fits (Accepted p u es) h = let a = end_is_word plan fits p u.stream h.0 in
    let b = unit_is_words plan p u (effects_words es) h (effects_are_words es) in search rules
verdict_is_words plan fits (Established l s j) h =
    let d = decimal_word j h.1 in
    ended_are_words (codes "established") l s (codes "draw" ∷ decimal j ∷ []) _ _ _ (search rules)
    (few_lines plan fits l s h.0.0) h.0.1 (search rules)
verdict_is_words plan fits (Refreshed l s j) h = keyed_is_words (codes "refreshed") l s j (search rules) h
verdict_is_words plan fits (Stopped l s) h =
    ended_are_words (codes "stopped") l s [] _ _ _ (search rules) (few_lines plan fits l s h.0) h.1 tt
verdict_is_words plan fits (LostRequest n) h = let a = decimal_word n h in search rules
verdict_is_words plan fits (LostReply n) h = let a = decimal_word n h in search rules
verdict_is_words plan fits RefusedNotIdle h = search rules
verdict_is_words plan fits (RefusedNotSecure s) h = let a = status_is_word s in search rules
verdict_is_words plan fits (RefusedPoolEmpty n) h = let a = decimal_word n h in search rules
verdict_is_words plan fits (RefusedDevice n c) h = let a = decimal_word n h.0 in let b = decimal_word c h.1 in search
    rules
verdict_is_words plan fits (RefusedBusy k o) h = let a = busy_is_word k o in search rules
verdict_is_words plan fits (RefusedUnitOpen s) h = let a = sub_is_word s in search rules
verdict_is_words plan fits (Reset l) h = let a = decimal_word l h in search rules
verdict_is_words plan fits (Status l s a b) h =
    let c = decimal_word l h.0 in let d = decimal_word s h.1 in let e = status_is_word a in let f = status_is_word b in
    search rules
verdict_is_words plan fits (Packet n bs) h = let a = decimal_word n h.0 in let b = bytes_are_word bs h.1 in search rules
verdict_is_words plan fits (Interface verdict) h = interface_is_words verdict h
verdict_is_words plan fits (Access verdict) h = access_is_words verdict h
verdict_is_words plan fits (Through p) h = let a = port_is_word p h in search rules

pub lines_apart : LinesApart
lines_apart plan fits m n v w xs ys hm hn fv fw e =
    let parts = line_apart (decimal m) (decimal n) (verdict_words (verdict_by_ports plan.peers v))
    (verdict_words (verdict_by_ports plan.peers w)) xs ys (decimal_word m hm) (decimal_word n hn)
    (verdict_is_words plan fits v fv)
    (verdict_is_words plan fits w fw) e in (
      decimal_injective m n hm hn parts.0,
      sym (verdict_back plan fits v fv) ∙ ap (verdict plan) parts.1 ∙ verdict_back plan fits w fw,
      parts.2,
    )
