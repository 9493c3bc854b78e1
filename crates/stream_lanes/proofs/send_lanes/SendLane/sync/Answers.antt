use Rattle.std.proofs.Common.{◌≡◌, ◌+◌, ◌++◌, true, false, if◌then◌else◌, [], ℕ, List, length, Ok, sym, ap, ◌∙◌}
use Rattle.std.proofs.Common.{subst, refl, arith, length-append, ◌≤◌}
use Rattle.ide_prefix.specs.Packet.{Packet, packet_bytes, sync_head}
use Rattle.spec_stream.specs.Sending.{total_ahead}
use Rattle.spec_stream.specs.Stream.{live_sender, sealed_slots}
use Rattle.sub_stream.specs.{Sender, Sealing, Content, sync_content, ready_of, sealing_of}
use Rattle.sub_stream.specs.Gathered.{lent_totals}
use Rattle.sub_stream.specs.declared.answer.MeasuredPacket.{MeasuredPacket}
use Rattle.stream_lanes.specs.Lanes.{
  SendEnd,
  IsSendLane,
  ready_end,
  sync_said,
  packet_said,
  sealed_end,
  measured_packet,
}
use Rattle.stream_lanes.proofs.Sealing.{view, sealing-is, sealed-kept, sync-short, sync-same}
use Rattle.stream_lanes.proofs.send_lanes.SendLane.sync.Goals as goal

end : goal.After-count → SendEnd
end c = view c.self.inside.tx c.self.inside.closed c.self.inside.posted c.self.inside.total

ready : (c : goal.After-count) → ready_of c.self.inside.tx ≡ Ok c.args.key
ready c = ap ready_end c.self.view_is ∙ c.requires.ready

content : goal.After-count → Content
content c = sync_content c.self.inside.posted

with_sealed : goal.After-count → Packet → Sealing
with_sealed c p = record {
  description = measured_packet (sync_said (end c)) p;
  packet = p;
  sender = record c.self.inside.tx { ahead = []; slots = sealed_slots true p c.self.inside.tx.slots };
}

sealing_so : (c : goal.After-count) → sealing_of c.self.inside.tx (lent_totals c.lent_total-lent.result) (content c)
    false
    ≡ with_sealed c (packet_said (end c) sync_head [] (sync_said (end c)))
unfolding with_sealed content end
sealing_so c =
    sealing-is c.self.inside.tx c.self.inside.closed c.self.inside.posted c.self.inside.total
    (lent_totals c.lent_total-lent.result) (content c) false c.args.key
    c.self.invariant (ready c)
    (c.lent_total-lent.ensures ∙ ap (λ (b : List ℕ). if c.self.inside.closed then b else [])
    c.to_be_bytes-total.ensures)
    refl

sealed : goal.After-count → Sealing
sealed c = with_sealed c (packet_said (end c) [] [] (sync_said (end c)))

right : (c : goal.After-count) → sealing_of c.self.inside.tx (lent_totals c.lent_total-lent.result) (content c) false
    ≡ sealed c
unfolding sealed end
right c =
    sealing_so c
    ∙ ap (with_sealed c)
    (sync-same (total_ahead c.self.inside.closed (sync_said (end c)).unit c.self.inside.total)
    (live_sender c.self.inside.tx.slots) (sync_said (end c)) sync_head [] [] [] refl)

packet_is : (c : goal.After-count) → c.sync-packet.result ≡ measured_packet (sync_said (end c))
    (packet_said (end c) [] [] (sync_said (end c)))
unfolding sealed with_sealed end content
packet_is c = c.sync-packet.ensures.answer ∙ ap (λ (s : Sealing). s.description) (right c)

pub returns-clause-answer : goal.returns-clause-answer
unfolding end
returns-clause-answer c = packet_is c ∙ ap
    (λ (e : SendEnd). measured_packet (sync_said e) (packet_said e [] [] (sync_said e))) c.self.view_is

pub returns-clause-bytes : goal.returns-clause-bytes
unfolding sealed with_sealed end content
returns-clause-bytes c =
    c.sync-packet.ensures.bytes
    ∙ ap (λ (s : Sealing). c.args.out.now.items ++ packet_bytes s.packet) (right c)
    ∙ ap (λ (e : SendEnd). c.args.out.now.items ++ packet_bytes (packet_said e [] [] (sync_said e))) c.self.view_is

sender_is : (c : goal.After-count) → c.sync-packet.new.self ≡ (sealed c).sender
unfolding content
sender_is c = c.sync-packet.ensures.sender ∙ ap (λ (s : Sealing). s.sender) (right c)

total_is : (c : goal.After-count) → c.count.new.total ≡
    (if (sync_said (end c)).m then c.self.inside.total + 1 else c.self.inside.total)
unfolding end
total_is c = c.count.ensures.total ∙ ap
    (λ (p : MeasuredPacket). if p.m then c.self.inside.total + 1 else c.self.inside.total) (packet_is c)

pub returns-clause-lane : goal.returns-clause-lane
unfolding sealed with_sealed end content
returns-clause-lane c = (λ i. view (sender_is c i) c.self.inside.closed (c.count.ensures.posted i) (total_is c i))
    ∙ ap (λ (e : SendEnd). sealed_end e [] [] (sync_said e)) c.self.view_is

pub invariant_of-self : goal.invariant_of-self
unfolding sealed with_sealed end content
invariant_of-self c =
    let Kept : Sender × ℕ × ℕ → Type 0 = λ y. IsSendLane y.0 c.self.inside.closed y.1 y.2 in
    subst Kept (λ i. (sym (sender_is c) i, sym c.count.ensures.posted i, sym (total_is c) i))
    (sealed-kept c.self.inside.tx c.self.inside.closed c.self.inside.posted c.self.inside.total
    false (sealed c).packet _ c.args.key c.self.invariant (ready c) refl)

bytes_are : (c : goal.After-count) → c.sync-packet.new.out.items ≡ c.args.out.now.items
    ++ packet_bytes (packet_said (end c) [] [] (sync_said (end c)))
unfolding sealed with_sealed end content
bytes_are c = c.sync-packet.ensures.bytes ∙ ap (λ (s : Sealing). c.args.out.now.items ++ packet_bytes s.packet)
    (right c)

pub returns-clause-len : goal.returns-clause-len
returns-clause-len c =
    let more = packet_bytes (packet_said (end c) [] [] (sync_said (end c))) in
    let size : length c.sync-packet.new.out.items ≡ length c.args.out.now.items + length more = ap length (bytes_are c)
    ∙
    length-append c.args.out.now.items more in
    let few : length more ≤ 28 = sync-short (end c) in
    omega (arith, size, few, c.sync-packet.new.out.ok.0, c.args.out.now.ok.0)
