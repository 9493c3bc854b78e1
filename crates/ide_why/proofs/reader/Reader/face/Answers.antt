use Rattle.std.proofs.Common.{sym}
use Rattle.ide_why.proofs.Reading.{face_made}
use Rattle.ide_why.proofs.reader.Reader.face.Goals as goal

pub link-requires : goal.link-requires
link-requires c = c.in-Some.ensures.there.link_there

pub state-requires : goal.state-requires
state-requires c = c.in-Some.ensures.there.place_there c.link.result.now c.link.ensures

pub returns-in-Some : goal.returns-in-Some
returns-in-Some c =
    face_made c.args.self.now.links.now c.args.number c.in-Some.link c.in-Some.place c.state.result c.link.result.now
    c.facts.result (sym c.in-Some.ensures.place) c.link.ensures c.state.ensures
    (rw c.manager-manager.ensures at c.facts.ensures)
