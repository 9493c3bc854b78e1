use Rattle.std.proofs.Common.{arith}
use Rattle.sub_stream.proofs.Tlps.{place, read_there}
use Rattle.sub_stream.proofs.received.ReceivedPackets.packet.Goals as goal

pub offset_bounds-self-inside-i : goal.offset_bounds-self-inside-i
offset_bounds-self-inside-i c =
    let here = place _ _ _ _ c.self.invariant c.self.view_is c.requires in
    omega (arith, here)

pub bounds-self-inside-i : goal.bounds-self-inside-i
bounds-self-inside-i c = place _ _ _ _ c.self.invariant c.self.view_is c.requires

pub returns-clause-tlp : goal.returns-clause-tlp
returns-clause-tlp c = read_there _ _ _ _ _ c.self.invariant c.packet.ensures
