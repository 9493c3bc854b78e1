use Rattle.std.proofs.Common.{◌≡◌, ◌-◌, suc, sym, true, refl, ap, subst, ◌∙◌, arith}
use Rattle.std.specs.Prelude.{is_some}
use Rattle.interface_host.specs.Managers.{current_interface}
use Rattle.interface_ends.specs.Keepers.{manager_walk}
use Rattle.link_ends.specs.DeviceEnds.{DeviceEnd}
use Rattle.link_ends.specs.InterfaceKeepers.{ended_with}
use Rattle.link_ends.proofs.InterfaceWalks.{walks_on, walks_out, idle_walk, no_walk, said_now, says_next}
use Rattle.link_ends.proofs.interface_keeper.InterfaceKeeper.+walk.Goals as goal

pub returns-then-more-eq0-clause-walk : goal.returns-then-more-eq0-clause-walk
returns-then-more-eq0-clause-walk g t c = λ said says.
    no_walk said c.args.loss c.args.self.now c.args.device.now.interfaces c.args.more c.if-more-eq0.true

pub returns-then-not-is_asking-clause-walk : goal.returns-then-not-is_asking-clause-walk
returns-then-not-is_asking-clause-walk g t c = λ said says.
    rw (← c.self.view_is)
    (idle_walk c.args.more said c.args.loss c.self.inside.interfaces c.args.device.now.interfaces
    (sym c.is_asking.ensures ∙ c.if-not-is_asking.true))

pub returns-in-Next-clause-walk : goal.returns-in-Next-clause-walk
returns-in-Next-clause-walk g t c = λ said says.
    let live = g.P.PeerStreams.live c.args.peers.now in
    let m = c.args.self.now in
    let d = c.args.device.now.interfaces in
    let e = ended_with c.exchange.result c.exchange.new.self c.exchange.new.device.interfaces in
    let next : suc (c.args.more - 1) ≡ c.args.more = omega arith in
    let asks : is_some (current_interface m) ≡ true = rw (← c.self.view_is)
    (sym c.is_asking.ensures ∙ c.if-not-is_asking.false) in
    let came = said_now (current_interface m) live c.args.device.now.port said c.args.loss m d e says
    c.exchange.ensures.exchange in
    let now = says_next (current_interface m) live c.args.device.now.port c.exchange.new.device.port said c.args.loss m
    d e refl asks (ap (λ (k : DeviceEnd). k.port) c.exchange.ensures.device) says came c.in-Next.is in
    subst (λ n. ended_with c.walk.result c.walk.new.self c.walk.new.device.interfaces
    ≡ manager_walk n said c.args.loss m d) next
    (walks_on _ said c.args.loss m d e _ (current_interface m) refl asks came c.in-Next.is
    (c.walk.ensures.walk said now))

pub returns-in_default-clause-walk : goal.returns-in_default-clause-walk
returns-in_default-clause-walk g t c = λ said says.
    let live = g.P.PeerStreams.live c.args.peers.now in
    let m = c.args.self.now in
    let d = c.args.device.now.interfaces in
    let e = ended_with c.exchange.result c.exchange.new.self c.exchange.new.device.interfaces in
    let next : suc (c.args.more - 1) ≡ c.args.more = omega arith in
    let asks : is_some (current_interface m) ≡ true = rw (← c.self.view_is)
    (sym c.is_asking.ensures ∙ c.if-not-is_asking.false) in
    let came = said_now (current_interface m) live c.args.device.now.port said c.args.loss m d e says
    c.exchange.ensures.exchange in
    subst (λ n. e ≡ manager_walk n said c.args.loss m d) next
    (walks_out _ said c.args.loss m d e (current_interface m) refl asks came c.in_default.not-Next)
