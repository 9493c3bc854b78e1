use Rattle.std.proofs.Common.{rules, ◌≡◌, ◌++◌, length, arith, length-append}
use Rattle.all_ends.proofs.Endings.{kept_and_cut, all_end_there}
use Rattle.all_ends.proofs.packets.Packets.keep.Goals as goal

pub invariant_of-self : goal.invariant_of-self
invariant_of-self c =
    let grown : c.extend_from_slice.new.self.items ≡ c.self.inside.bytes.items
    ++ c.args.bytes.now = rw c.unwrap.ensures at c.extend_from_slice.ensures.items in
    let start : c.len-start.result ≡ length c.self.inside.bytes.items = search rules in
    rw (grown, c.add_ends.ensures.ports, c.add_ends.ensures.ends, start)
    (all_end_there 0 c.self.inside.ports.items c.self.inside.ends.items c.args.port c.args.packets.now
    (length c.self.inside.bytes.items) (length (c.self.inside.bytes.items ++ c.args.bytes.now)) c.self.invariant
    (omega (arith, c.requires.lengths, length-append c.self.inside.bytes.items c.args.bytes.now)))

pub returns : goal.returns
returns c =
    let grown : c.extend_from_slice.new.self.items ≡ c.self.inside.bytes.items
    ++ c.args.bytes.now = rw c.unwrap.ensures at c.extend_from_slice.ensures.items in
    let start : c.len-start.result ≡ length c.self.inside.bytes.items = search rules in
    rw (grown, c.add_ends.ensures.ports, c.add_ends.ensures.ends, start, ← c.self.view_is)
    (kept_and_cut 0 c.self.inside.ports.items c.self.inside.ends.items c.args.port c.args.packets.now
    c.self.inside.bytes.items c.args.bytes.now c.self.invariant)
