use Rattle.std.proofs.Common.{◌≡◌, ◌≤◌, ◌^◌, ◌++◌, ◌∷◌, [], ℕ, List, Ok, is_some, IfSome, sym, ap, ◌∙◌, subst}
use Rattle.ide_types.specs.declared.sub.SubKind.TheVariants.{Npr, Cpl}
use Rattle.ide_prefix.specs.Packet.{packet_bytes}
use Rattle.sub_stream.specs.declared.answer.MeasuredPacket.{MeasuredPacket}
use Rattle.stream_lanes.specs.Sends.{IsSealed}
use Rattle.stream_lanes.specs.Lanes.{SendEnd, SendEnds, send_end_at, ready_end, tlp_said, packet_said_at_ends}
use Rattle.stream_lanes.specs.Lanes.{sealed_ends, measured_packet, ends_after_sync, sync_packets, sync_bytes}
use Rattle.stream_lanes.proofs.Sent.{end-cpl, end-kept, all_said, all_bytes, all_ends, sent-right}
use Rattle.stream_lanes.proofs.send_lanes.SendLanes.seal_with_syncs.Goals as goal

pub sync_npr-requires-clause-few : goal.sync_npr-requires-clause-few
sync_npr-requires-clause-few c = c.requires.few Npr

pub sync_cpl-requires-clause-ready : goal.sync_cpl-requires-clause-ready
sync_cpl-requires-clause-ready c =
    subst (λ (e : SendEnd). IfSome c.args.keys.cpl (λ k. ready_end e ≡ Ok k))
    (sym (ap (λ (x : SendEnds). send_end_at x Cpl) c.sync_npr.ensures.lanes
    ∙ end-cpl (is_some c.args.keys.npr) c.args.self.now))
    c.requires.keys.cpl.ready

pub sync_cpl-requires-clause-few : goal.sync_cpl-requires-clause-few
sync_cpl-requires-clause-few c =
    subst (λ (e : SendEnd). e.kept.total ≤ 2 ^ 40)
    (sym (ap (λ (x : SendEnds). send_end_at x Cpl) c.sync_npr.ensures.lanes
    ∙ end-cpl (is_some c.args.keys.npr) c.args.self.now))
    (c.requires.few Cpl)

pub seal-packet-requires-clause-ready : goal.seal-packet-requires-clause-ready
seal-packet-requires-clause-ready c =
    ap (λ (y : SendEnds). ready_end (send_end_at y c.args.sub))
    (c.sync_cpl.ensures.lanes ∙ ap (ends_after_sync (is_some c.args.keys.cpl) Cpl) c.sync_npr.ensures.lanes)
    ∙ ap ready_end (end-kept c.args.self.now c.args.sub (is_some c.args.keys.npr) (is_some c.args.keys.cpl)
    c.requires.keys.npr.needed c.requires.keys.cpl.needed)
    ∙ c.requires.keys.own

pub returns-clause-sent : goal.returns-clause-sent
returns-clause-sent c s number stream class goes trusted =
    let x = c.args.self.now in
    let b = is_some c.args.keys.npr in
    let d = is_some c.args.keys.cpl in
    let first = c.sync_npr.ensures.lanes in
    let second : c.sync_cpl.new.self ≡ ends_after_sync d Cpl (ends_after_sync b Npr x) = c.sync_cpl.ensures.lanes ∙ ap
    (ends_after_sync d Cpl)
    first in
    let described_packet : c.push.new.self ≡ all_said x c.args.sub b d c.args.head.now c.args.payload.now c.args.more
    c.args.t =
    c.push.ensures
    ∙ (λ i. c.sync_cpl.ensures.sealed i ++ c.seal-packet.ensures.answer i ∷ [])
    ∙ (λ i. (c.sync_npr.ensures.sealed i ++ sync_packets d Cpl (first i))
    ++ measured_packet (tlp_said (send_end_at (second i) c.args.sub) c.args.more c.args.t)
    (packet_said_at_ends (second i) c.args.head.now c.args.payload.now
    (tlp_said (send_end_at (second i) c.args.sub) c.args.more c.args.t)) ∷ [])
    ∙ (λ i. (c.new-sealed.ensures i ++ sync_packets b Npr x ++ sync_packets d Cpl (ends_after_sync b Npr x))
    ++ measured_packet (tlp_said (send_end_at (ends_after_sync d Cpl (ends_after_sync b Npr x)) c.args.sub) c.args.more
    c.args.t)
    (packet_said_at_ends (ends_after_sync d Cpl (ends_after_sync b Npr x))
    c.args.head.now c.args.payload.now
    (tlp_said (send_end_at (ends_after_sync d Cpl (ends_after_sync b Npr x)) c.args.sub) c.args.more c.args.t)) ∷ []) in
    let bytes : c.seal-packet.new.out.items ≡ all_bytes x c.args.sub b d c.args.head.now c.args.payload.now c.args.more
    c.args.t c.args.out.now.items =
    c.seal-packet.ensures.bytes
    ∙ (λ i. c.sync_cpl.ensures.bytes i ++ packet_bytes
    (packet_said_at_ends (second i) c.args.head.now c.args.payload.now
    (tlp_said (send_end_at (second i) c.args.sub) c.args.more c.args.t)))
    ∙ (λ i. (c.sync_npr.ensures.bytes i ++ sync_bytes d Cpl (first i))
    ++ packet_bytes (packet_said_at_ends (ends_after_sync d Cpl (ends_after_sync b Npr x)) c.args.head.now
    c.args.payload.now
    (tlp_said (send_end_at (ends_after_sync d Cpl (ends_after_sync b Npr x)) c.args.sub) c.args.more
    c.args.t))) in
    let ends : c.seal-packet.new.self ≡ all_ends x c.args.sub b d c.args.head.now c.args.payload.now c.args.more
    c.args.t =
    c.seal-packet.ensures.lanes
    ∙ (λ i. sealed_ends (second i) c.args.head.now c.args.payload.now
    (tlp_said (send_end_at (second i) c.args.sub) c.args.more c.args.t)) in
    subst (λ (y : List MeasuredPacket × List ℕ × SendEnds). IsSealed x c.args.head.now c.args.payload.now s number y.0
    c.args.out.now.items y.1 y.2) (λ i. (sym described_packet i, sym bytes i, sym ends i))
    (sent-right x c.args.head.now c.args.payload.now s number c.args.sub b d c.args.more c.args.t c.args.out.now.items
    c.requires.keys.npr.needed c.requires.keys.cpl.needed stream class goes trusted)
