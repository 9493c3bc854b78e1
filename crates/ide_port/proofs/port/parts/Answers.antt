use Rattle.ide_port.proofs.Terms.{viewed_tlp}
use Rattle.ide_port.proofs.Parts.{parts_of}
use Rattle.ide_port.proofs.port.parts.Goals as goal

pub split_at-requires : goal.split_at-requires
split_at-requires c = rw (c.size.ensures, c.head.ensures)
    (parts_of c.args.bytes.now (viewed_tlp c.args.tlp.now) c.requires).within

pub returns-clause-head : goal.returns-clause-head
returns-clause-head c = rw (c.split_at.ensures.front, c.size.ensures, c.head.ensures)
    (parts_of c.args.bytes.now (viewed_tlp c.args.tlp.now) c.requires).head

pub returns-clause-payload : goal.returns-clause-payload
returns-clause-payload c = rw (c.split_at.ensures.back, c.size.ensures, c.head.ensures)
    (parts_of c.args.bytes.now (viewed_tlp c.args.tlp.now) c.requires).rest

pub returns-clause-payload_short : goal.returns-clause-payload_short
returns-clause-payload_short c =
    let p = parts_of c.args.bytes.now (viewed_tlp c.args.tlp.now) c.requires in
    rw (c.split_at.ensures.back, c.size.ensures, c.head.ensures, p.rest) p.short
