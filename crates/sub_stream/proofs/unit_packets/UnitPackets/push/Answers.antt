use Rattle.std.proofs.Common.{◌≡◌, ◌<◌, ◌++◌, length, ap, arith}
use Rattle.ide_prefix.specs.Packet.{prefix_bytes}
use Rattle.sub_stream.proofs.Views.{has_place, gathered-added, view-added}
use Rattle.sub_stream.proofs.unit_packets.UnitPackets.push.Goals as goal

place : (c : goal.After-add) → length c.self.inside.buf.packets < c.self.inside.buf.aggregation
place c = has_place _ _ _ _ c.self.invariant c.self.view_is c.requires.room

clear : (c : goal.After-add) → c.write_prefix.result ++ c.args.head.now
    ≡ prefix_bytes c.args.prefix.now ++ c.args.head.now
clear c = ap (λ x. x ++ c.args.head.now) c.write_prefix.ensures

pub invariant_of-self : goal.invariant_of-self
invariant_of-self c =
    rw c.posted_in_prefix.ensures.value
    (gathered-added _ _ _ _ _ _ _ _ _ c.self.invariant (place c) c.count-i.ensures.count
    (omega (arith, c.posted_in_prefix.ensures.value, c.posted_in_prefix.ensures.small)) (clear c) c.add.ensures.unit)

pub returns : goal.returns
returns c = view-added _ _ _ _ _ _ _ _ _ _ c.self.invariant c.self.view_is (place c) c.count-i.ensures.count (clear c)
    c.add.ensures.unit
