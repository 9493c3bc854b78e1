use Rattle.std.proofs.Common.{rules, ◌≡◌, ◌∙◌, length, sym}
use Rattle.all_ends.proofs.Endings.{as_many_packets}
use Rattle.all_ends.proofs.packets.Packets.count.Goals as goal

pub returns-clause-value : goal.returns-clause-value
returns-clause-value c =
    let many : c.len.result ≡ length c.self.inside.ports.items = search rules in
    rw (← c.self.view_is)
    (many ∙ sym (as_many_packets 0 c.self.inside.ports.items c.self.inside.ends.items c.self.inside.bytes.items
    (length c.self.inside.bytes.items) c.self.invariant))
