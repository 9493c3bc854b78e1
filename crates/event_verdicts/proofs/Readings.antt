-- Each verdict is read back from its words: the first words say which it is, and each field stands alone in a word or
-- after a letter. That what is read is the verdict is one line of proof for each kind.
use Rattle.std.proofs.Common.{zero, suc, true, false, nat_le, nat_lt, ◌&&◌, ◌||◌, ◌==◌, slice_index, ◌≡◌, ◌<◌, ◌≤◌, ◌+◌}
use Rattle.std.proofs.Common.{◌-◌, ◌^◌, ℕ, List, [], ◌∷◌, ◌++◌, Bool, Option, Some, None, length, drop, map, refl}
use Rattle.std.proofs.Common.{ap, ap₂, ◌∙◌, arith, codes, inl, inr}
use Rattle.std.specs.Prelude.{if◌then◌else◌, slice_get}
use Rattle.std.proofs.lemmas.List.{length-map}
use Rattle.std.proofs.lemmas.Bool.{cases_Bool, ltb-true, ltb-false, leb-true, eqb-true, and_parts}
use Rattle.std.specs.Fmt.{decimal}
use Rattle.std.specs.Str.{bytes_eq}
use Rattle.ide_types.specs.declared.sub.SubKind.{SubKind}
use Rattle.ide_types.specs.declared.sub.SubKind.TheVariants.{Pr, Npr, Cpl}
use Rattle.ide_types.specs.declared.sub.FailCause.{FailCause}
use Rattle.ide_types.specs.declared.port.Side.{Side}
use Rattle.ide_types.specs.declared.port.Side.TheVariants.{Host, Device}
use Rattle.ide_types.specs.declared.port.PortName.{PortName}
use Rattle.ide_types.specs.declared.line.LineKind.{LineKind}
use Rattle.ide_types.specs.declared.line.LineKind.TheVariants as kind
use Rattle.ide_types.specs.Ports.{host_port, device_port}
use Rattle.ide_types.specs.Lines.{is_port, is_switch_side, is_near_hop_line, is_far_hop_line, is_peer_line}
use Rattle.ide_types.specs.declared.plan.HopPlan.{HopPlan}
use Rattle.ide_types.specs.declared.plan.PeerPlan.{PeerPlan}
use Rattle.ide_types.specs.declared.plan.Plan.{Plan}
use Rattle.ide_types.specs.Fits.{FitsPlan}
use Rattle.ide_types.specs.Plans.{hop_has_id}
use Rattle.ide_types.specs.Ends.{link_hop, peer_has_id, own_has_id, line_has, port_beside_end, end_at_port}
use Rattle.ide_types.proofs.EndsFound.{end_found, port_is_one, few_lines}
use Rattle.ide_types.specs.declared.fault_word.FaultWord.{FaultWord}
use Rattle.ide_types.specs.declared.status.StreamStatus.{StreamStatus}
use Rattle.ide_types.specs.declared.sub.FailCause.TheVariants as fail
use Rattle.ide_types.specs.declared.fault_word.FaultWord.TheVariants as fault
use Rattle.event_verdicts.specs.Terms.{NotTrusted, NotRunning, WrongStream, Stale, Outside, Crosses, Full, Effect, Sync}
use Rattle.event_verdicts.specs.Terms.{Moved, Delivered, Applied, Queued, Stored, Waiting, Blocked, SealedPacket}
use Rattle.event_verdicts.specs.Terms.{UnitName}
use Rattle.event_verdicts.specs.Terms.{Verdict, Nothing, Malformed, Plain, RefusedInsecure, RefusedNoKey}
use Rattle.event_verdicts.specs.Terms.{RefusedUnfinished, RefusedWorn, Sealed, Unknown, Insecure, NotKeyed, Fail, Held}
use Rattle.event_verdicts.specs.Terms.{
  Accepted,
  Established,
  Refreshed,
  Stopped,
  LostRequest,
  LostReply,
  RefusedNotIdle,
}
use Rattle.event_verdicts.specs.Terms.{RefusedNotSecure, RefusedPoolEmpty, RefusedDevice, RefusedBusy, RefusedUnitOpen}
use Rattle.event_verdicts.specs.Terms.{Packet, Reset, Status, Interface, Access, Through, Operation}
use Rattle.event_verdicts.specs.Terms.av
use Rattle.ide_types.specs.declared.status.StreamStatus.TheVariants as status
use Rattle.event_verdicts.specs.Terms.operation
use Rattle.ide_types.specs.Names.{Text, port_word, substream_word, fail_word, fault_word, status_word, kind_word}
use Rattle.event_verdicts.specs.Shown.{shown_packet, verdict_by_ports}
use Rattle.event_verdicts.specs.Lines.{effect_word, operation_word, bit_of, unit_words, sync_words, sealed_words}
use Rattle.event_verdicts.specs.Lines.{more_packets_words, packets_words, effects_words, verdict_words}
use Rattle.ide_types.specs.declared.verdict.InterfaceVerdict.TheVariants as iv
use Rattle.event_verdicts.proofs.WordReadings.{word_at, number, bytes, number_back, bytes_back, pairs_back}
use Rattle.event_verdicts.proofs.InterfaceReadings.{view_back, interface_refusal, interface_by}
use Rattle.event_verdicts.proofs.AccessReadings.{block_named, block_back, begins_access, access_by}
use Rattle.event_verdicts.specs.Apart.{Fits, FitsLineStream, FitsUnit, FitsSealed, FitPackets}

-- ---- words and what they stand for

abbrev port_by : ℕ → ℕ → PortName
port_by letter link =
    if letter == 104 then host_port link
    else if letter == 100 then device_port link
    else if letter == 117 then device_port (8 + link)
    else host_port (16 + link)

abbrev port : Text → PortName
port w = port_by (slice_index w 0) (number (drop 1 w))

-- the end of the line that has the stream at the port
abbrev end : Plan → Text → Text → PortName
end plan p s = end_at_port plan (port p) (number s)

abbrev bit : Text → Bool
bit w = number (drop 1 w) == 1

abbrev sub : Text → SubKind
sub w = if bytes_eq w (codes "pr") then Pr else if bytes_eq w (codes "npr") then Npr else Cpl

abbrev fail_cause : Text → FailCause
fail_cause w = if bytes_eq w (codes "key") then fail.Key else if bytes_eq w (codes "unit") then fail.Unit else if
    bytes_eq w (codes "tag") then fail.Tag else fail.Order

abbrev fault_named : Text → FaultWord
fault_named w =
    if bytes_eq w (codes "short") then fault.Short
    else if bytes_eq w (codes "reserved") then fault.Reserved
    else if bytes_eq w (codes "substream") then fault.SubStream
    else if bytes_eq w (codes "class") then fault.Class
    else if bytes_eq w (codes "kind") then fault.Kind
    else if bytes_eq w (codes "bit") then fault.Bit
    else if bytes_eq w (codes "length") then fault.Length
    else if bytes_eq w (codes "sync") then fault.Sync
    else fault.Trailing

abbrev status_named : Text → StreamStatus
status_named w =
    if bytes_eq w (codes "idle") then status.Idle
    else if bytes_eq w (codes "partial") then status.Partial
    else if bytes_eq w (codes "secure") then status.Secure
    else status.Insecure

abbrev operation_named : Text → Operation
operation_named w = if bytes_eq w (codes "establish") then operation.Establish else if bytes_eq w (codes "refresh")
    then operation.Refresh else operation.Stop

-- an operation on a stream, by the letter before its word
abbrev busy_named : Text → Verdict
busy_named w =
    if slice_index w 0 == 104 then RefusedBusy kind.Hop (operation_named (drop 1 w))
    else if slice_index w 0 == 112 then RefusedBusy kind.Peer (operation_named (drop 1 w))
    else RefusedBusy kind.Link (operation_named w)

-- the stream of a hop, and of a stream between devices
abbrev hop_id : Option HopPlan → ℕ
hop_id None = 0
hop_id (Some o) = o.id

abbrev peer_id : Option PeerPlan → ℕ
peer_id None = 0
peer_id (Some p) = p.id

abbrev hop_stream : Plan → List Text → ℕ
hop_stream plan ws = hop_id (link_hop (slice_get plan.links (number (word_at ws 0))))

abbrev peer_stream : Plan → List Text → ℕ
peer_stream plan ws = peer_id (slice_get plan.peers (number (word_at ws 0)))

-- the line of a hop, by its link and the segment
abbrev hop_line : List Text → ℕ
hop_line ws = if bytes_eq (word_at ws 1) (codes "0") then 8 + number (word_at ws 0) else 16 + number (word_at ws 0)

abbrev effect : Text → Effect
effect w =
    if bytes_eq w (codes "sync") then Sync
    else if bytes_eq w (codes "delivered") then Delivered
    else if bytes_eq w (codes "applied") then Applied
    else if bytes_eq w (codes "queued") then Queued
    else if bytes_eq w (codes "stored") then Stored
    else if bytes_eq w (codes "waiting") then Waiting
    else Blocked (block_named (drop 8 w))

abbrev effects : List Text → List Effect
effects [] = []
effects (w ∷ ws) = effect w ∷ effects ws

abbrev unit : List Text → UnitName
unit ws = record {
  stream = number (word_at ws 0);
  sub = sub (word_at ws 1);
  draw = number (word_at ws 3);
  unit = number
      (word_at ws 5);
}

abbrev packet : Plan → List Text → SealedPacket
packet plan ws = record {
  number = number (word_at ws 0);
  port = end plan (word_at ws 1) (word_at ws 2);
  stream = number (word_at ws 2);
  sub = sub (word_at ws 3);
  draw = number (word_at ws 5);
  unit = number (word_at ws 7);
  m = bit (word_at ws 8);
  k = bit (word_at ws 9);
  t = bit (word_at ws 10);
  posted = number (drop 1 (word_at ws 11));
  sync = bytes_eq (word_at ws 12) (codes "sync");
}

-- the words after a packet's, and after the semicolon there
abbrev behind : List Text → List Text
behind ws = if bytes_eq (word_at ws 12) (codes "sync") then drop 14 ws else drop 13 ws

-- so many packets at most
abbrev packets : Plan → ℕ → List Text → List SealedPacket
packets plan zero ws = []
packets plan (suc n) [] = []
packets plan (suc n) (w ∷ ws) = packet plan (w ∷ ws) ∷ packets plan n (behind (w ∷ ws))

abbrev refusal : List Text → Verdict
refusal ws =
    if bytes_eq (word_at ws 0) (codes "insecure") then RefusedInsecure
    else if bytes_eq (word_at ws 0) (codes "nokey") then RefusedNoKey (sub (word_at ws 1))
    else if bytes_eq (word_at ws 0) (codes "unfinished") then RefusedUnfinished
    else if bytes_eq (word_at ws 0) (codes "worn") then RefusedWorn (sub (word_at ws 1)) (number (word_at ws 2))
    else if bytes_eq (word_at ws 0) (codes "notidle") then RefusedNotIdle
    else if bytes_eq (word_at ws 0) (codes "notsecure") then RefusedNotSecure (status_named (word_at ws 1))
    else if bytes_eq (word_at ws 0) (codes "poolempty") then RefusedPoolEmpty (number (word_at ws 1))
    else if bytes_eq (word_at ws 0) (codes "devicerefused") then RefusedDevice (number (word_at ws 1))
    (number (word_at ws 2))
    else if bytes_eq (word_at ws 0) (codes "busy") then busy_named (word_at ws 1)
    else if bytes_eq (word_at ws 0) (codes "unitopen") then RefusedUnitOpen (sub (word_at ws 1))
    else Interface (interface_refusal ws)

abbrev loss : List Text → Verdict
loss ws = if bytes_eq (word_at ws 0) (codes "request") then LostRequest (number (word_at ws 1)) else LostReply
    (number (word_at ws 1))

abbrev verdict_by : Plan → Text → List Text → Verdict
verdict_by plan first ws =
    if bytes_eq first (codes "none") then Nothing
    else if bytes_eq first (codes "malformed") then Malformed (port (word_at ws 0)) (fault_named (word_at ws 1))
    (number (word_at ws 2))
    else if bytes_eq first (codes "plain") then Plain (port (word_at ws 0))
    else if bytes_eq first (codes "refused") then refusal ws
    else if bytes_eq first (codes "sealed") then Sealed (packets plan (length ws) ws)
    else if bytes_eq first (codes "unknown") then Unknown (port (word_at ws 0)) (number (word_at ws 1))
    else if bytes_eq first (codes "insecure") then Insecure (end plan (word_at ws 0) (word_at ws 1))
    (number (word_at ws 1))
    else if bytes_eq first (codes "notkeyed") then NotKeyed (end plan (word_at ws 0) (word_at ws 1))
    (number (word_at ws 1)) (sub (word_at ws 2))
    else if bytes_eq first (codes "fail") then Fail (end plan (word_at ws 0) (word_at ws 1)) (number (word_at ws 1))
    (sub (word_at ws 2)) (fail_cause (word_at ws 3))
    else if bytes_eq first (codes "held") then Held (end plan (word_at ws 0) (word_at ws 1)) (unit (drop 1 ws))
    else if bytes_eq first (codes "accepted") then Accepted (end plan (word_at ws 0) (word_at ws 1)) (unit (drop 1 ws))
    (effects (drop 7 ws))
    else if bytes_eq first (codes "established") then Established (number (word_at ws 0)) (number (word_at ws 1))
    (number (word_at ws 3))
    else if bytes_eq first (codes "hestablished") then Established (hop_line ws) (hop_stream plan ws)
    (number (word_at ws 3))
    else if bytes_eq first (codes "pestablished") then Established (24 + number (word_at ws 0)) (peer_stream plan ws)
    (number (word_at ws 2))
    else if bytes_eq first (codes "refreshed") then Refreshed (number (word_at ws 0)) (number (word_at ws 1))
    (number (word_at ws 3))
    else if bytes_eq first (codes "stopped") then Stopped (number (word_at ws 0)) (number (word_at ws 1))
    else if bytes_eq first (codes "hstopped") then Stopped (hop_line ws) (hop_stream plan ws)
    else if bytes_eq first (codes "pstopped") then Stopped (24 + number (word_at ws 0)) (peer_stream plan ws)
    else if bytes_eq first (codes "lost") then loss ws
    else if bytes_eq first (codes "reset") then Reset (number (word_at ws 0))
    else if bytes_eq first (codes "status") then Status (number (word_at ws 0)) (number (word_at ws 1))
    (status_named (word_at ws 2)) (status_named (word_at ws 3))
    else if bytes_eq first (codes "packet") then Packet (number (word_at ws 0)) (bytes (word_at ws 1))
    else if bytes_eq first (codes "through") then Through (port (word_at ws 0))
    else if begins_access first then Access (access_by first ws)
    else Interface (interface_by first ws)

abbrev pub verdict : Plan → List Text → Verdict
verdict plan [] = Nothing
verdict plan (first ∷ ws) = verdict_by plan first ws

-- ---- each is what was written

beyond : (a b : ℕ) → b < a → nat_le a b ≡ false
beyond a b h = elim (cases_Bool (nat_le a b)) [
  | inl le ↦ absurd (omega (arith, leb-true a b le, h))
  | inr other ↦ other
]

side_back : (s : Side) (l : ℕ) → l < 8 → port (port_word (record { side = s; line = l }))
    ≡ record { side = s; line = l }
side_back Host l h = rw (beyond 8 l h, beyond 16 l (omega (arith, h))) (rw (number_back l (omega (arith, h))) refl)
side_back Device l h = rw (beyond 8 l h, beyond 16 l (omega (arith, h))) (rw (number_back l (omega (arith, h))) refl)

-- the port of a switch towards the device, and the one towards the host
lower_back : (l : ℕ) → is_far_hop_line l ≡ true → port (port_word (host_port l)) ≡ host_port l
lower_back l h =
    let parts = and_parts (nat_le 16 l) (nat_lt l 24) h in
    let least = leb-true 16 l parts.0 in
    let near : is_near_hop_line l ≡ false = off (nat_le 8 l) (nat_lt l 16) (not_below l 16 least) in
    let back : 16 + (l - 16) ≡ l = omega (arith, least) in
    rw (near, h) (rw (number_back (l - 16) (omega (arith, ltb-true l 24 parts.1)), back) refl)
  where
    off : (a b : Bool) → b ≡ false → (a && b) ≡ false
    off true b e = e
    off false b e = refl

    not_below : (a b : ℕ) → b ≤ a → nat_lt a b ≡ false
    not_below a b h = elim (cases_Bool (nat_lt a b)) [
      | inl lt ↦ absurd (omega (arith, ltb-true a b lt, h))
      | inr other ↦ other
    ]

upper_back : (l : ℕ) → is_near_hop_line l ≡ true → port (port_word (device_port l)) ≡ device_port l
upper_back l h =
    let parts = and_parts (nat_le 8 l) (nat_lt l 16) h in
    let back : 8 + (l - 8) ≡ l = omega (arith, leb-true 8 l parts.0) in
    rw h (rw (number_back (l - 8) (omega (arith, ltb-true l 16 parts.1)), back) refl)

port_by_test : (s : Side) (l : ℕ) (low : Bool) → nat_lt l 8 ≡ low → (low || is_switch_side s l) ≡ true
    → port (port_word (record { side = s; line = l })) ≡ record { side = s; line = l }
port_by_test s l true is h = side_back s l (ltb-true l 8 is)
port_by_test Host l false is h = lower_back l h
port_by_test Device l false is h = upper_back l h

port_back : (p : PortName) → is_port p ≡ true → port (port_word p) ≡ p
port_back p h = port_by_test p.side p.line (nat_lt p.line 8) refl h

-- the end that is read of a port's word and a stream's is the end
end_back : (plan : Plan) → FitsPlan plan → (p : PortName) (s : ℕ) → FitsLineStream plan p.line s
    → end plan (port_word (port_beside_end plan.peers p)) (decimal s) ≡ p
end_back plan fits p s h =
    rw (port_back (port_beside_end plan.peers p) (port_is_one plan fits p s h.0), number_back s h.1)
    (end_found plan fits p s h.0)

bit_back : (c : ℕ) (b : Bool) → bit (c ∷ decimal (bit_of b)) ≡ b
bit_back c true = rw (number_back 1 (omega arith)) refl
bit_back c false = rw (number_back 0 (omega arith)) refl

sub_back : (s : SubKind) → sub (substream_word s) ≡ s
sub_back Pr = refl
sub_back Npr = refl
sub_back Cpl = refl

fail_back : (c : FailCause) → fail_cause (fail_word c) ≡ c
fail_back fail.Key = refl
fail_back fail.Unit = refl
fail_back fail.Tag = refl
fail_back fail.Order = refl

fault_back : (w : FaultWord) → fault_named (fault_word w) ≡ w
fault_back fault.Short = refl
fault_back fault.Reserved = refl
fault_back fault.SubStream = refl
fault_back fault.Class = refl
fault_back fault.Kind = refl
fault_back fault.Bit = refl
fault_back fault.Length = refl
fault_back fault.Sync = refl
fault_back fault.Trailing = refl

status_back : (s : StreamStatus) → status_named (status_word s) ≡ s
status_back status.Idle = refl
status_back status.Partial = refl
status_back status.Secure = refl
status_back status.Insecure = refl

busy_back : (k : LineKind) (o : Operation) → busy_named (kind_word k ++ operation_word o) ≡ RefusedBusy k o
busy_back kind.Link operation.Establish = refl
busy_back kind.Link operation.Refresh = refl
busy_back kind.Link operation.Stop = refl
busy_back kind.Hop operation.Establish = refl
busy_back kind.Hop operation.Refresh = refl
busy_back kind.Hop operation.Stop = refl
busy_back kind.Peer operation.Establish = refl
busy_back kind.Peer operation.Refresh = refl
busy_back kind.Peer operation.Stop = refl

effect_back : (e : Effect) → effect (effect_word e) ≡ e
effect_back Sync = refl
effect_back Delivered = refl
effect_back Applied = refl
effect_back Queued = refl
effect_back Stored = refl
effect_back Waiting = refl
effect_back (Blocked NotTrusted) = refl
effect_back (Blocked NotRunning) = refl
effect_back (Blocked WrongStream) = refl
effect_back (Blocked Stale) = refl
effect_back (Blocked Outside) = refl
effect_back (Blocked Crosses) = refl
effect_back (Blocked Full) = refl
effect_back (Blocked Moved) = refl

effects_back : (es : List Effect) → effects (effects_words es) ≡ es
effects_back [] = refl
effects_back (e ∷ es) = ap₂ (λ (x : Effect) (xs : List Effect). x ∷ xs) (effect_back e) (effects_back es)

unit_back : (plan : Plan) (p : PortName) (u : UnitName) (after : List Text) → FitsUnit plan p u
    → unit (unit_words u after) ≡ u
unit_back plan p u after h =
    rw (number_back u.stream h.0.1, number_back u.draw h.1, number_back u.unit h.2, sub_back u.sub) refl

sync_back : (b : Bool) (ps : List SealedPacket) → bytes_eq (word_at (sync_words b (more_packets_words ps)) 0)
    (codes "sync") ≡ b
sync_back true ps = refl
sync_back false [] = refl
sync_back false (p ∷ ps) = refl

packet_back : (plan : Plan) → FitsPlan plan → (p : SealedPacket) (ps : List SealedPacket) → FitsSealed plan p
    → packet plan (sealed_words (shown_packet plan.peers p) (more_packets_words ps)) ≡ p
packet_back plan fits p ps h =
    rw (
      number_back p.number h.0,
      end_back plan fits p.port p.stream h.1,
      number_back p.stream h.1.1,
      sub_back p.sub,
      number_back p.draw h.2,
      number_back p.unit h.3,
      bit_back 109 p.m,
      bit_back 107 p.k,
      bit_back 116 p.t,
      number_back p.posted h.4,
      sync_back p.sync ps,
    ) refl

rest_back : (b : Bool) (ps : List SealedPacket)
    → (if bytes_eq (word_at (sync_words b (more_packets_words ps)) 0) (codes "sync") then drop 2
    (sync_words b (more_packets_words ps)) else drop 1 (sync_words b (more_packets_words ps))) ≡ packets_words ps
rest_back true [] = refl
rest_back true (p ∷ ps) = refl
rest_back false [] = refl
rest_back false (p ∷ ps) = refl

behind_back : (p : SealedPacket) (ps : List SealedPacket) → behind (sealed_words p (more_packets_words ps))
    ≡ packets_words ps
behind_back p ps = rest_back p.sync ps

packets_back : (plan : Plan) → FitsPlan plan → (n : ℕ) (ps : List SealedPacket) → length ps ≤ n → FitPackets plan ps
    → packets plan n (packets_words (map (shown_packet plan.peers) ps)) ≡ ps
packets_back plan fits zero [] le h = refl
packets_back plan fits zero (p ∷ ps) le h = absurd (omega arith)
packets_back plan fits (suc n) [] le h = refl
packets_back plan fits (suc n) (p ∷ ps) le h =
    ap₂ (λ (x : SealedPacket) (xs : List SealedPacket). x ∷ xs)
    (packet_back plan fits p (map (shown_packet plan.peers) ps) h.0)
    (ap (packets plan n) (behind_back (shown_packet plan.peers p) (map (shown_packet plan.peers) ps))
    ∙ packets_back plan fits n ps (omega arith) h.1)

sync_long : (b : Bool) (ws : List Text) → length ws ≤ length (sync_words b ws)
sync_long true ws = omega arith
sync_long false ws = omega arith

more_long : (ps : List SealedPacket) → length ps ≤ length (more_packets_words ps)
more_long [] = omega arith
more_long (p ∷ ps) = omega (arith, more_long ps, sync_long p.sync (more_packets_words ps))

packets_long : (ps : List SealedPacket) → length ps ≤ length (packets_words ps)
packets_long [] = omega arith
packets_long (p ∷ ps) = omega (arith, more_long ps, sync_long p.sync (more_packets_words ps))

-- as many packets are shown
all_long : (plan : Plan) (ps : List SealedPacket) → length ps
    ≤ length (packets_words (map (shown_packet plan.peers) ps))
all_long plan ps = omega
    (arith, length-map ps (shown_packet plan.peers), packets_long (map (shown_packet plan.peers) ps))

-- ---- the ends of operations

hop_is : (o : Option HopPlan) (id : ℕ) → hop_has_id o id ≡ true → hop_id o ≡ id
hop_is None id h = absurd (let never : ⊥ = cc in never)
hop_is (Some o) id h = eqb-true o.id id h

peer_is : (x : Option PeerPlan) (id : ℕ) → peer_has_id x id ≡ true → peer_id x ≡ id
peer_is None id h = absurd (let never : ⊥ = cc in never)
peer_is (Some p) id h = eqb-true p.id id h

-- the line has the stream, by what the line is
abbrev HasBy : Plan → ℕ → ℕ → Bool → Bool → Bool → Type 0
HasBy plan line id a b c =
    (if a then own_has_id (slice_get plan.links line) id
    else if b then hop_has_id (link_hop (slice_get plan.links (line - 8))) id
    else if c then hop_has_id (link_hop (slice_get plan.links (line - 16))) id
    else peer_has_id (slice_get plan.peers (line - 24)) id) ≡ true

has_by : (plan : Plan) (line id : ℕ) → line_has plan line id ≡ true
    → HasBy plan line id (nat_lt line 8) (nat_lt line 16) (nat_lt line 24)
has_by plan line id h = h

established_by : (plan : Plan) (line id draw : ℕ) (a b c : Bool) → nat_lt line 8 ≡ a → nat_lt line 16 ≡ b
    → nat_lt line 24 ≡ c → HasBy plan line id a b c → line < 2 ^ 64 → id < 2 ^ 64 → draw < 2 ^ 64
    → verdict plan (verdict_words (Established line id draw)) ≡ Established line id draw
established_by plan line id draw true b c x y z has l s d =
    rw x (rw (number_back line l, number_back id s, number_back draw d) refl)
established_by plan line id draw false true c x y z has l s d =
    let back : 8 + (line - 8) ≡ line = omega (arith, ltb-false line 8 x) in
    rw (x, y) (rw (number_back (line - 8) (omega (arith, l)), number_back draw d, hop_is _ id has, back) refl)
established_by plan line id draw false false true x y z has l s d =
    let back : 16 + (line - 16) ≡ line = omega (arith, ltb-false line 16 y) in
    rw (x, y, z) (rw (number_back (line - 16) (omega (arith, l)), number_back draw d, hop_is _ id has, back) refl)
established_by plan line id draw false false false x y z has l s d =
    let back : 24 + (line - 24) ≡ line = omega (arith, ltb-false line 24 z) in
    rw (x, y, z) (rw (number_back (line - 24) (omega (arith, l)), number_back draw d, peer_is _ id has, back) refl)

stopped_by : (plan : Plan) (line id : ℕ) (a b c : Bool) → nat_lt line 8 ≡ a → nat_lt line 16 ≡ b
    → nat_lt line 24 ≡ c → HasBy plan line id a b c → line < 2 ^ 64 → id < 2 ^ 64
    → verdict plan (verdict_words (Stopped line id)) ≡ Stopped line id
stopped_by plan line id true b c x y z has l s = rw x (rw (number_back line l, number_back id s) refl)
stopped_by plan line id false true c x y z has l s =
    let back : 8 + (line - 8) ≡ line = omega (arith, ltb-false line 8 x) in
    rw (x, y) (rw (number_back (line - 8) (omega (arith, l)), hop_is _ id has, back) refl)
stopped_by plan line id false false true x y z has l s =
    let back : 16 + (line - 16) ≡ line = omega (arith, ltb-false line 16 y) in
    rw (x, y, z) (rw (number_back (line - 16) (omega (arith, l)), hop_is _ id has, back) refl)
stopped_by plan line id false false false x y z has l s =
    let back : 24 + (line - 24) ≡ line = omega (arith, ltb-false line 24 z) in
    rw (x, y, z) (rw (number_back (line - 24) (omega (arith, l)), peer_is _ id has, back) refl)

pub few_peers : (line : ℕ) → is_peer_line line ≡ true → line - 24 < 2 ^ 64
few_peers line h = omega (arith, ltb-true line 32 (and_parts (nat_le 24 line) (nat_lt line 32) h).1)

peer_line_back : (line : ℕ) → is_peer_line line ≡ true → 24 + (line - 24) ≡ line
peer_line_back line h = omega (arith, leb-true 24 line (and_parts (nat_le 24 line) (nat_lt line 32) h).0)

pub verdict_back : (plan : Plan) → FitsPlan plan → (v : Verdict) → Fits plan v
    → verdict plan (verdict_words (verdict_by_ports plan.peers v)) ≡ v
verdict_back plan fits Nothing h = refl
verdict_back plan fits (Malformed p w n) h = rw (number_back n h.1, fault_back w, port_back p h.0) refl
verdict_back plan fits (Plain p) h = rw (port_back p h) refl
verdict_back plan fits RefusedInsecure h = refl
verdict_back plan fits (RefusedNoKey s) h = rw (sub_back s) refl
verdict_back plan fits RefusedUnfinished h = refl
verdict_back plan fits (RefusedWorn s n) h = rw (sub_back s, number_back n h) refl
verdict_back plan fits (Sealed ps) h = rw
    (packets_back plan fits (length (packets_words (map (shown_packet plan.peers) ps))) ps (all_long plan ps) h) refl
verdict_back plan fits (Unknown p n) h = rw (port_back p h.0, number_back n h.1) refl
verdict_back plan fits (Insecure p n) h = rw (end_back plan fits p n h, number_back n h.1) refl
verdict_back plan fits (NotKeyed p n s) h = rw (end_back plan fits p n h, number_back n h.1, sub_back s) refl
verdict_back plan fits (Fail p n s c) h = rw (end_back plan fits p n h, number_back n h.1, sub_back s, fail_back c) refl
verdict_back plan fits (Held p u) h = rw (end_back plan fits p u.stream h.0, unit_back plan p u [] h) refl
verdict_back plan fits (Accepted p u es) h = rw
    (end_back plan fits p u.stream h.0, unit_back plan p u (effects_words es) h, effects_back es) refl
verdict_back plan fits (Established l s j) h = established_by plan l s j _ _ _ refl refl refl (has_by plan l s h.0.0)
    (few_lines plan fits l s h.0.0) h.0.1 h.1
verdict_back plan fits (Refreshed l s j) h = rw (number_back l h.0, number_back s h.1, number_back j h.2) refl
verdict_back plan fits (Stopped l s) h = stopped_by plan l s _ _ _ refl refl refl (has_by plan l s h.0)
    (few_lines plan fits l s h.0) h.1
verdict_back plan fits (LostRequest n) h = rw (number_back n h) refl
verdict_back plan fits (LostReply n) h = rw (number_back n h) refl
verdict_back plan fits RefusedNotIdle h = refl
verdict_back plan fits (RefusedNotSecure s) h = rw (status_back s) refl
verdict_back plan fits (RefusedPoolEmpty n) h = rw (number_back n h) refl
verdict_back plan fits (RefusedDevice n c) h = rw (number_back n h.0, number_back c h.1) refl
verdict_back plan fits (RefusedBusy k o) h = rw (busy_back k o) refl
verdict_back plan fits (RefusedUnitOpen s) h = rw (sub_back s) refl
verdict_back plan fits (Reset l) h = rw (number_back l h) refl
verdict_back plan fits (Status l s a b) h = rw (number_back l h.0, number_back s h.1, status_back a, status_back b) refl
verdict_back plan fits (Interface (iv.Locked i nonce)) h = rw (number_back i h.0, pairs_back nonce h.1) refl
verdict_back plan fits (Interface (iv.Reported i report)) h = rw (number_back i h.0, bytes_back report h.1) refl
verdict_back plan fits (Interface (iv.Started i j)) h = rw (number_back i h.0, number_back j h.1) refl
verdict_back plan fits (Interface (iv.Halted i n)) h = rw (number_back i h.0, number_back n h.1) refl
verdict_back plan fits (Interface (iv.Bound i l)) h = rw
    (number_back i h.0, number_back (l - 24) (few_peers l h.1), peer_line_back l h.1) refl
verdict_back plan fits (Interface (iv.Unbound i l)) h = rw
    (number_back i h.0, number_back (l - 24) (few_peers l h.1), peer_line_back l h.1) refl
verdict_back plan fits (Interface (iv.State i s)) h = rw (number_back i h.0, number_back s h.1) refl
verdict_back plan fits (Interface (iv.View i v)) h = rw (number_back i h, view_back v) refl
verdict_back plan fits (Interface (iv.Written i s)) h = rw (number_back i h.0, number_back s h.1) refl
verdict_back plan fits (Interface (iv.Flr i s)) h = rw (number_back i h.0, number_back s h.1) refl
verdict_back plan fits (Interface (iv.Firmware i s)) h = rw (number_back i h.0, number_back s h.1) refl
verdict_back plan fits (Interface (iv.Memory bs)) h = rw (bytes_back bs h) refl
verdict_back plan fits (Interface (iv.RefusedWrongState v)) h = rw (view_back v) refl
verdict_back plan fits (Interface iv.RefusedNotReported) h = refl
verdict_back plan fits (Interface (iv.RefusedRefreshFirst j n)) h = rw (number_back j h.0, number_back n h.1) refl
verdict_back plan fits (Access (av.Empty l)) h = rw (number_back l h) refl
verdict_back plan fits (Access (av.Dropped i c)) h = rw (number_back i h, block_back c) refl
verdict_back plan fits (Access (av.Mmio bs)) h = rw (bytes_back bs h) refl
verdict_back plan fits (Packet n bs) h = rw (number_back n h.0, bytes_back bs h.1) refl
verdict_back plan fits (Through p) h = rw (port_back p h) refl
