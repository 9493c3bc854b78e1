-- What happened: filters of a history, which is a list of events with their verdicts, the newest first.
use Rattle.std.specs.Prelude.{if◌then◌else◌, ◌&&◌, ◌++◌, ◌+◌, ◌==◌, ◌||◌, ◌∷◌, Bool, Err, List, None, Ok, Option}
use Rattle.std.specs.Prelude.{Result, Some, [], false, filter, length, map, nat_le, not, sum_by, true, ℕ}
use Rattle.spec_links.specs.Terms.{after_last, list_any, sub_bits, PortName, Plan, Event, SealedPacket, Verdict}
use Rattle.spec_links.specs.Terms.{Accepted, Held, Sealed, read_of, body, header, TlpFault, Tlp, iv_of, Packet}
use Rattle.spec_links.specs.Terms.{sync_head, authenticated_bytes, encrypted_bytes, masked_bytes, tag_of, History, base}
use Rattle.spec_links.specs.Terms.{failed_there, fails_there, keeps_live, place_keys, Keyed, Keys, Off, On, key_in}
use Rattle.spec_links.specs.Terms.{no_keys, on_in, unless_below, KeyPlace, received_direction, sent_direction}
use Rattle.ide_types.specs.declared.sub.SubKind.TheVariants.{Pr, Npr, Cpl}
use Rattle.tlp_layout.specs.Head.{head_bytes}
use Rattle.spec_links.specs.Plan.{SubStream, is_same, is_same_port, lane_out, lane_in, key_of, is_closed}
use Rattle.spec_links.specs.Units.{open_unit}
pub use Rattle.spec_stream.specs.Sending.{KeyName, prefix_of, total_ahead}
pub use Rattle.spec_links.specs.Packets.{sub_stream_of, SealedList, ArrivedBytes, packet_by_number, arrival_at_partner}
pub use Rattle.spec_links.specs.Packets.{altered_arrival, shortened_arrival, arrived_in, no_packet, cut_packet}
pub use Rattle.spec_links.specs.Packets.{arrival_packet, received_in, is_received_under}
use Rattle.spec_links.specs.Sent.{port_by}
unfoldable pub use Rattle.spec_links.specs.Sent.{bytes_by}

-- ---- what was sealed

-- the header in clear: of a sync packet, or of the TLP that was sent
abbrev pub head_in : Result Tlp TlpFault → List ℕ
head_in (Ok tlp) = head_bytes (header tlp)
head_in (Err f) = []

abbrev pub payload_in : Result Tlp TlpFault → List ℕ
payload_in (Ok tlp) = body tlp
payload_in (Err f) = []

-- the packet before its tag: its body is its part of the unit's ciphertext, after the bodies of the packets before it
abbrev pub untagged_packet : Plan → List ℕ → SealedPacket → List Packet → Packet
untagged_packet plan bytes d unfinished = record {
  prefix = prefix_of d;
  head = if d.sync then sync_head else head_in (read_of bytes);
  body =
      masked_bytes (key_of plan d.draw (sub_stream_of d)) (iv_of d.sub d.unit) (length (encrypted_bytes unfinished))
      (if d.sync then [] else payload_in (read_of bytes));
  tag = [];
}

unfoldable pub ahead_of_unit : Plan → SubStream → ℕ → ℕ → List ℕ
ahead_of_unit plan s unit total = total_ahead (is_closed plan s.line s.stream) unit total

-- the tag of a unit
abbrev pub unit_tag : Plan → List ℕ → SealedPacket → List Packet → List ℕ
unit_tag plan ahead d unit =
    tag_of (key_of plan d.draw (sub_stream_of d)) (iv_of d.sub d.unit) (ahead ++ authenticated_bytes unit)
    (encrypted_bytes unit)

-- the packet that was sealed for these bytes, after the packets before it in its unit
unfoldable pub packet_of : Plan → List ℕ → List ℕ → SealedPacket → List Packet → Packet
packet_of plan ahead bytes d unfinished =
    let p = untagged_packet plan bytes d unfinished in
    record p { tag = if d.m then unit_tag plan ahead d (unfinished ++ p ∷ []) else [] }

-- whether a sealed packet is of this sub-stream and draw
abbrev pub is_sealed_under : SubStream → ℕ → SealedPacket × Packet → Bool
is_sealed_under s j x = is_same (sub_stream_of x.0) s && (x.0.draw == j)

-- the packets of a sub-stream under a draw, in order
unfoldable pub sub_stream_packets : SealedList → SubStream → ℕ → List Packet
sub_stream_packets xs s j = map (λ (x : SealedPacket × Packet). x.1) (filter (is_sealed_under s j) xs)

-- the packets of one event after those before
abbrev pub with_sealed : Plan → (SealedPacket → List ℕ) → List ℕ → List SealedPacket → SealedList → SealedList
with_sealed plan ahead bytes [] before = before
with_sealed plan ahead bytes (d ∷ ds) before =
    with_sealed plan ahead bytes ds
    (before ++ (d, packet_of plan (ahead d) bytes d (open_unit (sub_stream_packets before (sub_stream_of d) d.draw)))
    ∷ [])

-- whether a sealed packet is of the sub-stream, and of a draw from this one on
abbrev pub is_sealed_from_draw : SubStream → ℕ → SealedPacket × Packet → Bool
is_sealed_from_draw s from x = is_same (sub_stream_of x.0) s && nat_le from x.0.draw

-- ends a unit there
abbrev pub ends_unit_since : SubStream → ℕ → SealedPacket × Packet → Bool
ends_unit_since s from x = is_sealed_from_draw s from x && x.1.prefix.m

-- the total of a sender: the units of a sub-stream that were finished under all draws from this one on
unfoldable pub total_in : SealedList → SubStream → ℕ → ℕ
total_in xs s from = length (filter (ends_unit_since s from) xs)

abbrev pub ahead_of_packet : Plan → SealedList → (ℕ → ℕ → ℕ) → SealedPacket → List ℕ
ahead_of_packet plan xs from d = let s = sub_stream_of d in ahead_of_unit plan s d.unit
    (total_in xs s (from s.line s.stream))

-- all packets that were sealed, in order: packet N stands at place N - 1
unfoldable pub sealed_packets : Plan → History → SealedList
sealed_packets plan [] = []
sealed_packets plan ((e, Sealed ds) ∷ h) =
    with_sealed plan (ahead_of_packet plan (sealed_packets plan h) (base h))
    (bytes_by plan (sealed_packets plan h) h e) ds
    (sealed_packets plan h)
sealed_packets plan (_ ∷ h) = sealed_packets plan h

-- the bytes that a sealed verdict of this event seals
abbrev pub sent_bytes : Plan → History → Event → List ℕ
sent_bytes plan h e = bytes_by plan (sealed_packets plan h) h e

-- the end that seals them
abbrev pub sending_port : Plan → History → Event → PortName
sending_port plan h e = port_by plan (sealed_packets plan h) h e

-- the packets that were sealed in a sub-stream under a draw, in order
abbrev pub sent_packets : Plan → History → SubStream → ℕ → List Packet
sent_packets plan h s j = sub_stream_packets (sealed_packets plan h) s j

abbrev pub is_of_unit : SubStream → ℕ → ℕ → SealedPacket → Bool
is_of_unit s j n d = is_same (sub_stream_of d) s && (d.draw == j) && (d.unit == n)

-- what came before the unit of this number
unfoldable pub ahead_sent : Plan → History → SubStream → ℕ → ℕ → List ℕ
ahead_sent plan [] s j n = []
ahead_sent plan ((e, Sealed ds) ∷ h) s j n =
    if list_any (is_of_unit s j n) ds then ahead_of_unit plan s n (total_in (sealed_packets plan h) s
    (base h s.line s.stream)) else ahead_sent plan h s j n
ahead_sent plan (_ ∷ h) s j n = ahead_sent plan h s j n

-- ---- what arrived

-- what an event brings, and where; nothing if a packet or byte that it names does not exist
unfoldable pub arrival_of_event : Plan → History → Event → Option ArrivedBytes
arrival_of_event plan h e = arrived_in plan (sealed_packets plan h) e

-- the packet that an event brings
abbrev pub arrived_packet : Plan → History → Event → Packet
arrived_packet plan h e = arrival_packet (arrival_of_event plan h e)

-- the packets that were held for unit n, in order
unfoldable pub packets_in_hold : Plan → History → SubStream → ℕ → ℕ → List Packet
packets_in_hold plan [] s j n = []
packets_in_hold plan ((e, Held port unit) ∷ h) s j n =
    if is_received_under s j port unit && (unit.unit == n) then packets_in_hold plan h s j n ++ arrived_packet plan h e
    ∷ []
    else packets_in_hold plan h s j n
packets_in_hold plan (_ ∷ h) s j n = packets_in_hold plan h s j n

-- the packets of accepted units, in order
unfoldable pub accepted_packets : Plan → History → SubStream → ℕ → List Packet
accepted_packets plan [] s j = []
accepted_packets plan ((e, Accepted port unit effects) ∷ h) s j =
    if is_received_under s j port unit then accepted_packets plan h s j ++
    (packets_in_hold plan h s j unit.unit ++ arrived_packet plan h e ∷ [])
    else accepted_packets plan h s j
accepted_packets plan (_ ∷ h) s j = accepted_packets plan h s j

-- how many units were accepted
unfoldable pub units_got : History → SubStream → ℕ → ℕ
units_got [] s j = 0
units_got ((e, Accepted port unit effects) ∷ h) s j =
    if is_received_under s j port unit then units_got h s j + 1 else units_got h s j
units_got (_ ∷ h) s j = units_got h s j

-- the draws of the accepted units of a sub-stream, the newest first
unfoldable pub draws_got : History → SubStream → List ℕ
draws_got [] s = []
draws_got ((e, Accepted port unit effects) ∷ h) s =
    if is_same (received_in port unit) s then unit.draw ∷ draws_got h s else draws_got h s
draws_got (_ ∷ h) s = draws_got h s

-- the packets that are held for the next unit
abbrev pub pending_packets : Plan → History → SubStream → ℕ → List Packet
pending_packets plan h s j = packets_in_hold plan h s j (units_got h s j + 1)

-- ---- keys

-- the draw in the set waits for the unit of a lesser one to end
abbrev pub waits : Bool → ℕ → Keyed → Bool
waits false j (On i) = not (nat_le j i)
waits true j (On i) = nat_le i j
waits k j _ = false

-- a unit under the lesser of two draws that are On has ended at their sender
abbrev pub ended_keys : Keyed → Keyed → Keys
ended_keys (On i) (On j) =
    if nat_le i j then record { first = Off; second = On j } else record { first = On i; second = Off }
ended_keys a b = record { first = a; second = b }

-- a sealed packet ends a unit of the sub-stream at the port
abbrev pub ends_port_unit : PortName → SubStream → SealedPacket → Bool
ends_port_unit port s d = is_same_port d.port port && is_same (sub_stream_of d) s && d.m

abbrev pub after_ends : PortName → SubStream → List SealedPacket → Keys → Keys
after_ends port s [] keys = keys
after_ends port s (d ∷ ds) keys =
    after_ends port s ds (if ends_port_unit port s d then ended_keys keys.first keys.second else keys)

-- a unit of draw j was accepted: a smaller draw is On no more
abbrev pub accepted_keys : ℕ → Keys → Keys
accepted_keys j keys = record { first = unless_below j keys.first; second = unless_below j keys.second }

-- a port's place in a sub-stream, of which it is the sender or the receiver
abbrev pub place_in_sub_stream : PortName → SubStream → Bool → KeyPlace
place_in_sub_stream port s sends
    = record { side = port.side; line = s.line; stream = s.stream; sends = sends; sub = s.sub }

abbrev pub sends_it : PortName → SubStream → Bool
sends_it port s = (port.line == s.line) && (sent_direction port.side == s.direction)

abbrev pub receives_it : PortName → SubStream → Bool
receives_it port s = (port.line == s.line) && (received_direction port.side == s.direction)

abbrev pub keys_by_role : History → PortName → SubStream → Bool → Bool → Keys
keys_by_role h port s true receives = place_keys h (place_in_sub_stream port s true)
keys_by_role h port s false true = place_keys h (place_in_sub_stream port s false)
keys_by_role h port s false false = no_keys

-- The keys of a port in a sub-stream. A port that neither sends nor receives it has none.
unfoldable pub port_keys : History → PortName → SubStream → Keys
port_keys h port s = keys_by_role h port s (sends_it port s) (receives_it port s)

-- the draw that is On in the key set that K names
abbrev pub on_draw : History → PortName → SubStream → Bool → Option ℕ
on_draw h port s k = on_in (key_in (port_keys h port s) k)

-- the key that a sender seals under: the lesser of the draws that are On
abbrev pub lesser : Keyed → Keyed → Option KeyName
lesser (On i) (On j) = Some (if nat_le i j then record { k = false; draw = i } else record { k = true; draw = j })
lesser (On i) _ = Some (record { k = false; draw = i })
lesser _ (On j) = Some (record { k = true; draw = j })
lesser _ _ = None

abbrev pub live_key : History → PortName → SubStream → Option KeyName
live_key h port s = lesser (port_keys h port s).first (port_keys h port s).second

-- whether a port has a Live key of a sub-stream, of any of the three that it seals, and of any that it receives
abbrev pub is_keyed : History → PortName → SubStream → Bool
is_keyed h port s = keeps_live (port_keys h port s)

unfoldable pub has_live_out : History → PortName → ℕ → Bool
has_live_out h port stream =
    is_keyed h port (lane_out port stream Pr) || is_keyed h port (lane_out port stream Npr)
    || is_keyed h port (lane_out port stream Cpl)

unfoldable pub has_live_in : History → PortName → ℕ → Bool
has_live_in h port stream =
    is_keyed h port (lane_in port stream Pr) || is_keyed h port (lane_in port stream Npr)
    || is_keyed h port (lane_in port stream Cpl)

abbrev pub has_live_key : History → PortName → ℕ → Bool
has_live_key h port stream = has_live_out h port stream || has_live_in h port stream

-- whether the verdict says that an arrival failed on the stream at the port
abbrev pub fails_at : PortName → ℕ → Verdict → Bool
fails_at port stream v = fails_there port.side port.line stream v

-- whether an arrival failed at the port, and since then the port always had a Live key on the stream
abbrev pub has_failed : History → PortName → ℕ → Bool
has_failed h port stream = failed_there h port.side port.line stream

-- ---- counts

abbrev pub posted_lane : SubStream → SubStream
posted_lane s = record s { sub = Pr }

-- how many posted packets were sealed in its direction since the last packet of the sub-stream, of draws from this one
-- on
unfoldable pub posted_since_last : SealedList → SubStream → ℕ → ℕ
posted_since_last xs s from = length (filter (is_sealed_from_draw (posted_lane s) from)
    (after_last (is_sealed_from_draw s from) xs))

abbrev pub posted_count : Plan → History → SubStream → ℕ
posted_count plan h s = posted_since_last (sealed_packets plan h) s (base h s.line s.stream)

-- the packets of accepted units of draws from this one on
unfoldable pub got_since : Plan → History → SubStream → ℕ → List Packet
got_since plan [] s from = []
got_since plan ((e, Accepted port unit effects) ∷ h) s from =
    if is_same (received_in port unit) s && nat_le from unit.draw
    then got_since plan h s from ++ (packets_in_hold plan h s unit.draw unit.unit ++ arrived_packet plan h e ∷ [])
    else got_since plan h s from
got_since plan (_ ∷ h) s from = got_since plan h s from

-- whether the posted counts of all packets of a non-posted or completion sub-stream, this unit among them, sum to no
-- more than the posted packets that were got
unfoldable pub meets_counts : Plan → History → SubStream → List Packet → Bool
meets_counts plan h s unit =
    (sub_bits s.sub == 0)
    || nat_le (sum_by (λ (p : Packet). p.prefix.posted) (got_since plan h s (base h s.line s.stream) ++ unit))
    (length (got_since plan h (posted_lane s) (base h s.line s.stream)))

-- the total of a receiver: the units that were accepted of all draws from this one on
unfoldable pub units_since : History → SubStream → ℕ → ℕ
units_since [] s from = 0
units_since ((e, Accepted port unit effects) ∷ h) s from =
    if is_same (received_in port unit) s && nat_le from unit.draw then units_since h s from + 1
    else units_since h s from
units_since (_ ∷ h) s from = units_since h s from

-- what has to come before a unit that ends now
abbrev pub ahead_due : Plan → History → SubStream → ℕ → List ℕ
ahead_due plan h s n = ahead_of_unit plan s n (units_since h s (base h s.line s.stream))
