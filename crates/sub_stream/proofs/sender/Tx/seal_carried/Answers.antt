use Rattle.std.proofs.Common.{◌≡◌, ℕ, ◌+◌, ◌-◌, Bool, false, List, [], ◌∷◌, ◌++◌, if◌then◌else◌, length, Option, Some}
use Rattle.std.proofs.Common.{refl, sym, ap, ◌∙◌, arith, length-append}
use Rattle.ide_prefix.specs.declared.packet.Prefix.{Prefix}
use Rattle.ide_prefix.specs.Packet.{Packet, packet_bytes}
use Rattle.spec_stream.specs.Stream.{LiveKey, live_sender, sealed_slots}
use Rattle.sub_stream.specs.Gathered.{Gathered, lent_totals}
use Rattle.sub_stream.specs.Masked.{masked_packet, packet_with_tag}
use Rattle.sub_stream.specs.Seen.{sender_slots_seen, live_key_seen}
use Rattle.sub_stream.specs.Senders.{Sender, Content, Sealing, ready_of, carried_content, key_in_use, ends, sealing_of}
use Rattle.sub_stream.specs.Senders.{sealing_by_key, tagged_packet, sender_ahead}
use Rattle.sub_stream.proofs.Sealed.{IsReady, ready-is, packet-tagged, slots-sealed, ahead-sealed, sender-sealed}
use Rattle.sub_stream.proofs.sender.Tx.seal_carried.Goals as goal

-- the sender as it was, the key that it seals under, and what it seals
tx : goal.After-len → Sender
tx c = record {
  stream = c.self.inside.stream;
  sub = c.self.inside.sub;
  aggregation = c.self.inside.aggregation;
  limit = c.self.inside.limit;
  ahead = c.self.inside.unit.ahead;
  slots = sender_slots_seen c.self.inside.slots c.self.inside.units c.self.inside.unit.packets;
}

ready : (c : goal.After-len) → IsReady c.self.inside.slots c.self.inside.units c.self.inside.limit
    c.self.inside.unit.packets c.args.key
ready c = ready-is c.self.inside.slots c.self.inside.units c.self.inside.limit c.self.inside.unit.packets c.args.key
    (ap ready_of c.self.view_is ∙ c.requires.ready)

key : goal.After-len → Bool × LiveKey
key c = (
  c.args.key.k,
  live_key_seen c.self.inside.units c.self.inside.unit.packets
      (record { key = c.cipher_of-cipher.result.now; draw = c.args.key.draw }),
)

live : (c : goal.After-len) → live_sender (tx c).slots ≡ Some (key c)
unfolding tx key
live c =
    (ready c).seen
    ∙ (λ i. Some (
      c.args.key.k,
      live_key_seen c.self.inside.units c.self.inside.unit.packets
          (record {
            key = sym (c.cipher_of-cipher.ensures (ready c).held (ready c).is_held) i;
            draw = sym (ready c).draw
                i;
          }),
    ))

prefix : goal.After-len → Prefix
prefix c = record {
  m = c.is_last-m.result;
  k = c.args.key.k;
  t = c.args.carried.now.t;
  sub = c.self.inside.sub;
  stream = c.self.inside.stream;
  posted = c.args.carried.now.posted;
}

total : goal.After-len → List ℕ
total c = lent_totals c.args.total

content : goal.After-len → Content
content c = carried_content c.args.carried.now

unit : goal.After-len → Gathered
unit c = c.begin_where_empty.new.unit

sealing : (c : goal.After-len) → sealing_of c.args.self.now (total c) (content c) c.args.more
    ≡ sealing_by_key (tx c) (total c) (key c) (content c) c.is_last-m.result
unfolding tx key total content
sealing c =
    ap (λ (s : Sender). sealing_of s (total c) (content c) c.args.more) (sym c.self.view_is)
    ∙ ap (λ (o : Option (Bool × LiveKey)). sealing_by_key (tx c) (total c) (key_in_use o) (content c)
    (ends (tx c) (key_in_use o).1 c.args.more)) (live c)
    ∙ ap (sealing_by_key (tx c) (total c) (key c) (content c)) (sym c.is_last-m.ensures)

packet : (c : goal.After-len) → Packet
packet c = packet_with_tag c.is_last-m.result c.cipher_of-cipher.result.now c.unit_iv-iv.result (unit c)
    (masked_packet c.cipher_of-cipher.result.now c.unit_iv-iv.result (unit c).packets (prefix c)
    c.args.carried.now.head.now
    c.args.carried.now.payload.now)

packet_is : (c : goal.After-len) → packet c ≡ tagged_packet (tx c) (total c) (key c) (content c) c.is_last-m.result
unfolding tx key prefix total content unit packet
packet_is c =
    packet-tagged (tx c) (total c) (key c) (content c) c.is_last-m.result (unit c) (prefix c) c.unit_iv-iv.result
    (ap (λ (u : Gathered). u.packets) c.begin_where_empty.ensures)
    (ap (λ (u : Gathered). u.ahead) c.begin_where_empty.ensures)
    c.requires.head c.requires.payload refl c.unit_iv-iv.ensures

bytes : (c : goal.After-len) → c.append_packet.new.out.items ≡ c.args.out.now.items ++ packet_bytes (packet c)
unfolding prefix unit packet
bytes c = c.append_packet.ensures.items

pub returns-clause-bytes : goal.returns-clause-bytes
unfolding total content
returns-clause-bytes c = bytes c ∙ ap (λ p. c.args.out.now.items ++ packet_bytes p) (packet_is c)
    ∙ ap (λ (s : Sealing). c.args.out.now.items ++ packet_bytes s.packet) (sym (sealing c))

pub returns-clause-answer : goal.returns-clause-answer
unfolding tx key total content
returns-clause-answer c =
    let n : c.len.result - c.len-start.result ≡ length (packet_bytes (packet c)) =
    omega (
      arith,
      ap length (bytes c),
      length-append c.args.out.now.items (packet_bytes (packet c)),
      c.len.ensures,
      c.len-start.ensures,
      c.append_packet.new.out.ok.0,
      c.args.out.now.ok.0,
    ) in
    ap (λ (l : ℕ). record (sealing_by_key (tx c) (total c) (key c) (content c) c.is_last-m.result).description
    { length = l }) (n ∙ ap (λ p. length (packet_bytes p)) (packet_is c))
    ∙ ap (λ (s : Sealing). s.description) (sym (sealing c))

-- the packet before its tag is the last of a unit that goes on
open_packets : (c : goal.After-len) → List Packet
open_packets c = c.self.inside.unit.packets ++ masked_packet c.cipher_of-cipher.result.now c.unit_iv-iv.result
    (unit c).packets
    (prefix c) c.args.carried.now.head.now c.args.carried.now.payload.now ∷ []

more_packets : (c : goal.After-len) → c.is_last-m.result ≡ false → c.append_packet.new.unit.packets ≡ open_packets c
unfolding prefix unit open_packets
more_packets c e =
    ap (λ (u : Gathered). u.packets) (c.append_packet.ensures.unit e)
    ∙ ap (λ ps. ps ++ masked_packet c.cipher_of-cipher.result.now c.unit_iv-iv.result (unit c).packets (prefix c)
    c.args.carried.now.head.now c.args.carried.now.payload.now ∷ [])
    (ap (λ (u : Gathered). u.packets) c.begin_where_empty.ensures)

slots : (c : goal.After-len) → sender_slots_seen c.end_unit.new.slots c.end_unit.new.units c.end_unit.new.unit.packets
    ≡ sealed_slots c.is_last-m.result (packet c)
    (sender_slots_seen c.self.inside.slots c.self.inside.units c.self.inside.unit.packets)
unfolding prefix unit packet open_packets
slots c = slots-sealed c.is_last-m.result c.self.inside.slots c.self.inside.units c.self.inside.unit.packets
    c.append_packet.new.unit.packets _ _ (unit c) _ _ refl (more_packets c) c.end_unit.ensures.slots

ahead : (c : goal.After-len) → c.end_unit.new.unit.ahead ≡
    (if c.is_last-m.result then [] else sender_ahead (tx c) (key c).1 (total c))
unfolding tx key total
ahead c =
    ahead-sealed c.is_last-m.result c.append_packet.new.unit c.end_unit.new.unit _ c.end_unit.ensures.unit
    (λ e.
    ap (λ (u : Gathered). u.ahead) (c.append_packet.ensures.unit e)
    ∙ ap (λ (u : Gathered). u.ahead) c.begin_where_empty.ensures)

pub returns-clause-sender : goal.returns-clause-sender
unfolding tx total content
returns-clause-sender c =
    (λ i. record (tx c) { ahead = ahead c i; slots = slots c i })
    ∙ ap (λ p. record (tx c) {
      ahead = (if c.is_last-m.result then [] else sender_ahead (tx c) (key c).1 (total c));
      slots = sealed_slots
          c.is_last-m.result p (tx c).slots;
    }) (packet_is c)
    ∙ ap (λ (s : Sealing). s.sender) (sym (sealing c))

pub invariant_of-self : goal.invariant_of-self
unfolding open_packets key
invariant_of-self c =
    let count : c.is_last-m.result ≡ false → length c.append_packet.new.unit.packets
    ≡ length c.self.inside.unit.packets + 1 =
    λ e. ap length (more_packets c e) ∙ length-append c.self.inside.unit.packets _ in
    sender-sealed _ _ _ _ _ _ _ _ _ c.is_last-m.result c.args.more c.args.key c.self.invariant (ready c)
    c.is_last-m.ensures count
    (c.append_packet.ensures.aggregation ∙ ap (λ (u : Gathered). u.aggregation) c.begin_where_empty.ensures)
    c.end_unit.ensures.unit c.end_unit.ensures.sender c.end_unit.ensures.live c.end_unit.ensures.one_live
    c.end_unit.ensures.units
