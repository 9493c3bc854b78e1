use Rattle.std.proofs.Common.{◌≡◌, ◌∙◌, ◌∷◌, length, Some, ap, sym, arith}
use Rattle.std.specs.Prelude.{slice_index, slice_range}
use Rattle.ide_types.specs.declared.port.PortName.{PortName}
use Rattle.all_ends.specs.Packets.{KeptPackets}
use Rattle.all_ends.proofs.Endings.{at_place, lies_at, found_at}
use Rattle.all_ends.proofs.packets.Packets.at.Goals as goal

pub start_of-start-requires : goal.start_of-start-requires
start_of-start-requires c =
    let it = lies_at c.self.inside.ports.items c.self.inside.ends.items c.self.inside.bytes.items
    c.args.self.now.packets c.args.i
    (ap (λ (k : KeptPackets). k.packets) c.self.view_is) c.self.invariant c.requires in
    rw c.deref.ensures.value it.end

pub index-end-requires : goal.index-end-requires
index-end-requires c =
    let it = lies_at c.self.inside.ports.items c.self.inside.ends.items c.self.inside.bytes.items
    c.args.self.now.packets c.args.i
    (ap (λ (k : KeptPackets). k.packets) c.self.view_is) c.self.invariant c.requires in
    omega (arith, it.end, c.self.inside.ends.ok.0)

pub index-requires : goal.index-requires
index-requires c =
    let it = lies_at c.self.inside.ports.items c.self.inside.ends.items c.self.inside.bytes.items
    c.args.self.now.packets c.args.i
    (ap (λ (k : KeptPackets). k.packets) c.self.view_is) c.self.invariant c.requires in
    omega (arith, it.port, c.self.inside.ports.ok.0)

pub part-requires-clause-low : goal.part-requires-clause-low
part-requires-clause-low c =
    let it = lies_at c.self.inside.ports.items c.self.inside.ends.items c.self.inside.bytes.items
    c.args.self.now.packets c.args.i
    (ap (λ (k : KeptPackets). k.packets) c.self.view_is) c.self.invariant c.requires in
    let start : c.start_of-start.result ≡ slice_index (0 ∷ c.self.inside.ends.items) c.args.i =
    rw c.deref.ensures.value at c.start_of-start.ensures in
    let end = at_place c.self.inside.ends.items c.args.i c.index-end.result.now it.end c.index-end.ensures in
    omega (arith, start, end, it.low)

pub part-requires-clause-high : goal.part-requires-clause-high
part-requires-clause-high c =
    let it = lies_at c.self.inside.ports.items c.self.inside.ends.items c.self.inside.bytes.items
    c.args.self.now.packets c.args.i
    (ap (λ (k : KeptPackets). k.packets) c.self.view_is) c.self.invariant c.requires in
    let end = at_place c.self.inside.ends.items c.args.i c.index-end.result.now it.end c.index-end.ensures in
    rw (c.deref-2.ensures.value, end) it.high

pub returns : goal.returns
returns c =
    let it = lies_at c.self.inside.ports.items c.self.inside.ends.items c.self.inside.bytes.items
    c.args.self.now.packets c.args.i
    (ap (λ (k : KeptPackets). k.packets) c.self.view_is) c.self.invariant c.requires in
    let start : c.start_of-start.result ≡ slice_index (0 ∷ c.self.inside.ends.items) c.args.i =
    rw c.deref.ensures.value at c.start_of-start.ensures in
    let end = at_place c.self.inside.ends.items c.args.i c.index-end.result.now it.end c.index-end.ensures in
    rw (← c.self.view_is, c.part.ensures, c.deref-2.ensures.value, start, end)
    (found_at 0 c.self.inside.ports.items c.self.inside.ends.items c.self.inside.bytes.items
    (length c.self.inside.bytes.items) c.args.i c.index.result.now c.self.invariant it.port
    ∙ ap (λ (p : PortName). Some (record {
      port = p;
      bytes = slice_range c.self.inside.bytes.items (slice_index (0 ∷ c.self.inside.ends.items) c.args.i)
          (slice_index c.self.inside.ends.items c.args.i);
    })) (sym c.index.ensures))
