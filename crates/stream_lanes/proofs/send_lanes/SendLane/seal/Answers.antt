use Rattle.std.proofs.Common.{◌≡◌, ◌+◌, ◌++◌, if◌then◌else◌, [], ℕ, List, Ok, sym, ap, ◌∙◌, subst, refl}
use Rattle.ide_prefix.specs.Packet.{packet_bytes}
use Rattle.sub_stream.specs.{Sender, Sealing, Content, tlp_content, ready_of, sealing_of}
use Rattle.sub_stream.specs.Gathered.{lent_totals}
use Rattle.sub_stream.specs.declared.answer.MeasuredPacket.{MeasuredPacket}
use Rattle.stream_lanes.specs.Lanes.{SendEnd, IsSendLane, ready_end, tlp_said, packet_said, sealed_end, measured_packet}
use Rattle.stream_lanes.proofs.Sealing.{view, sealing_right, sealing-is, sealed-kept}
use Rattle.stream_lanes.proofs.send_lanes.SendLane.seal.Goals as goal

end : goal.After-count → SendEnd
end c = view c.self.inside.tx c.self.inside.closed c.self.inside.posted c.self.inside.total

ready : (c : goal.After-count) → ready_of c.self.inside.tx ≡ Ok c.args.key
ready c = ap ready_end c.self.view_is ∙ c.requires.ready

content : goal.After-count → Content
content c = tlp_content c.args.head.now c.args.payload.now c.self.inside.posted c.args.t

sealed : goal.After-count → Sealing
sealed c = sealing_right c.self.inside.tx c.self.inside.closed c.self.inside.posted c.self.inside.total (content c)
    c.args.more

right : (c : goal.After-count)
    → sealing_of c.self.inside.tx (lent_totals c.lent_total-lent.result) (content c) c.args.more ≡ sealed c
unfolding sealed content
right c =
    sealing-is c.self.inside.tx c.self.inside.closed c.self.inside.posted c.self.inside.total
    (lent_totals c.lent_total-lent.result) (content c) c.args.more c.args.key
    c.self.invariant (ready c)
    (c.lent_total-lent.ensures ∙ ap (λ (b : List ℕ). if c.self.inside.closed then b else [])
    c.to_be_bytes-total.ensures)
    refl

packet_is : (c : goal.After-count) → c.seal-packet.result ≡ measured_packet (tlp_said (end c) c.args.more c.args.t)
    (packet_said (end c) c.args.head.now c.args.payload.now (tlp_said (end c) c.args.more c.args.t))
unfolding sealed content end
packet_is c = c.seal-packet.ensures.answer ∙ ap (λ (s : Sealing). s.description) (right c)

pub returns-clause-answer : goal.returns-clause-answer
unfolding end
returns-clause-answer c =
    packet_is c
    ∙ ap (λ (e : SendEnd). measured_packet (tlp_said e c.args.more c.args.t)
    (packet_said e c.args.head.now c.args.payload.now (tlp_said e c.args.more c.args.t))) c.self.view_is

pub returns-clause-bytes : goal.returns-clause-bytes
unfolding sealed content end
returns-clause-bytes c =
    c.seal-packet.ensures.bytes
    ∙ ap (λ (s : Sealing). c.args.out.now.items ++ packet_bytes s.packet) (right c)
    ∙ ap (λ (e : SendEnd). c.args.out.now.items ++ packet_bytes
    (packet_said e c.args.head.now c.args.payload.now (tlp_said e c.args.more c.args.t))) c.self.view_is

sender_is : (c : goal.After-count) → c.seal-packet.new.self ≡ (sealed c).sender
unfolding content
sender_is c = c.seal-packet.ensures.sender ∙ ap (λ (s : Sealing). s.sender) (right c)

total_is : (c : goal.After-count) → c.count.new.total ≡
    (if (tlp_said (end c) c.args.more c.args.t).m then c.self.inside.total + 1 else c.self.inside.total)
unfolding end
total_is c = c.count.ensures.total ∙ ap
    (λ (p : MeasuredPacket). if p.m then c.self.inside.total + 1 else c.self.inside.total) (packet_is c)

pub returns-clause-lane : goal.returns-clause-lane
unfolding sealed content end
returns-clause-lane c =
    (λ i. view (sender_is c i) c.self.inside.closed (c.count.ensures.posted i) (total_is c i))
    ∙ ap (λ (e : SendEnd). sealed_end e c.args.head.now c.args.payload.now (tlp_said e c.args.more c.args.t))
    c.self.view_is

pub invariant_of-self : goal.invariant_of-self
unfolding sealed content end
invariant_of-self c =
    let Kept : Sender × ℕ × ℕ → Type 0 = λ y. IsSendLane y.0 c.self.inside.closed y.1 y.2 in
    subst Kept (λ i. (sym (sender_is c) i, sym c.count.ensures.posted i, sym (total_is c) i))
    (sealed-kept c.self.inside.tx c.self.inside.closed c.self.inside.posted c.self.inside.total
    c.args.more (sealed c).packet _ c.args.key c.self.invariant (ready c) refl)
