use Rattle.std.proofs.Common.{sym}
use Rattle.ide_why.proofs.Reading.{interface_made}
use Rattle.ide_why.proofs.reader.Reader.device.Goals as goal

pub link-requires : goal.link-requires
link-requires c = c.in-Some.ensures.there.link_there

pub interface-requires-in-Some : goal.interface-requires-in-Some
interface-requires-in-Some c = c.in-Some.ensures.there.place_there c.link.result.now c.link.ensures

pub returns-in-Some : goal.returns-in-Some
returns-in-Some c =
    interface_made c.args.self.now.links.now c.args.number c.in-Some.link c.in-Some.place c.link.result.now
    c.interface-in-Some.result.now (sym c.in-Some.ensures.place) c.link.ensures c.interface-in-Some.ensures
