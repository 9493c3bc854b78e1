use Rattle.std.proofs.Common.{refl}
use Rattle.std.specs.Prelude.{slice_get}
use Rattle.link_ends.proofs.InterfaceRefused.{begin_refused}
use Rattle.link_ends.proofs.InterfaceWalks.{begun_walks}
use Rattle.link_ends.proofs.interface_keeper.InterfaceKeeper.operate.Goals as goal

pub returns-in-Err-clause-operated : goal.returns-in-Err-clause-operated
returns-in-Err-clause-operated g c =
    let live = g.P.PeerStreams.live c.args.peers.now in
    rw (← c.self.view_is)
    (begin_refused (slice_get c.self.inside.interfaces.interfaces c.args.interface) c.args.interface c.args.draws
    c.args.op c.args.status live c.args.device.now.port c.args.loss c.self.inside.interfaces c.begin.new.self
    c.args.device.now.interfaces c.in-Err.refusal c.in-Err.ensures.answer c.begin.ensures.manager)

pub returns-in-Ok-clause-operated : goal.returns-in-Ok-clause-operated
returns-in-Ok-clause-operated g c =
    let live = g.P.PeerStreams.live c.args.peers.now in
    rw (← c.self.view_is)
    (begun_walks (slice_get c.self.inside.interfaces.interfaces c.args.interface) _ c.args.interface c.args.draws
    c.args.op c.args.status c.args.loss live c.args.device.now.port c.self.inside.interfaces c.begin.new.self
    c.args.device.now.interfaces _ refl c.in-Ok.ensures.answer c.begin.ensures.manager c.walk.ensures.walk)
