use Rattle.std.proofs.Common.{◌<◌, length, arith}
use Rattle.ide_prefix.proofs.Views.{count_of, packet_at, lies_within}
use Rattle.ide_prefix.proofs.unit_buf.UnitBuf.packet.Goals as goal

pub start_of-start-requires : goal.start_of-start-requires
start_of-start-requires c = rw c.as_slice.ensures.value
    (omega (arith, c.requires, count_of _ _ _ _ c.self.inside.ends.items c.args.self.now c.self.view_is))

pub end_of-ends-requires : goal.end_of-ends-requires
end_of-ends-requires c = rw c.as_slice-2.ensures.value
    (omega (arith, c.requires, count_of _ _ _ _ c.self.inside.ends.items c.args.self.now c.self.view_is))

pub packet_between-requires : goal.packet_between-requires
packet_between-requires c =
    let less : c.args.i < length c.self.inside.ends.items = omega
    (arith, c.requires, count_of _ _ _ _ c.self.inside.ends.items c.args.self.now c.self.view_is) in
    let start = c.start_of-start.ensures in
    let end = c.end_of-ends.ensures in
    rw (c.deref.ensures.value, c.deref-2.ensures.value)
    (lies_within c.self.inside.ahead _ _ c.self.inside.ends.items c.args.i _ _ c.self.invariant.rising less
    (rw c.as_slice.ensures.value at start) (rw c.as_slice-2.ensures.value at end))

pub returns : goal.returns
returns c =
    let less : c.args.i < length c.self.inside.ends.items = omega
    (arith, c.requires, count_of _ _ _ _ c.self.inside.ends.items c.args.self.now c.self.view_is) in
    let start = c.start_of-start.ensures in
    let end = c.end_of-ends.ensures in
    rw (c.packet_between.ensures.head, c.packet_between.ensures.body, c.deref.ensures.value, c.deref-2.ensures.value)
    (packet_at _ c.self.inside.ahead _ _ c.self.inside.ends.items c.args.i _ _ c.args.self.now c.self.view_is less
    (rw c.as_slice.ensures.value at start) (rw c.as_slice-2.ensures.value at end))
