use Rattle.std.proofs.Common.{◌≡◌, ◌∙◌, ℕ, Bool, true, List, sym, ap, arith}
use Rattle.ide_types.specs.declared.plan.PeerPlan.{PeerPlan}
use Rattle.spec_interfaces.specs.Peers.{has_peer}
use Rattle.world.proofs.{peer_line_is}
use Rattle.ide_why.proofs.reader.Reader.peer_stream.Goals as goal

-- what was found among the peers that are kept is one of the plan's
planned : (kept peers : List PeerPlan) (link line stream : ℕ) (found : Bool) → kept ≡ peers
    → found ≡ has_peer kept link line stream → found ≡ true → has_peer peers link line stream ≡ true
planned kept peers link line stream found same is has =
    ap (λ (ps : List PeerPlan). has_peer ps link line stream) (sym same) ∙ (sym is ∙ has)

pub overflow_cast-result : goal.overflow_cast-result
overflow_cast-result c =
    let links = c.requires.links in
    let r = peer_line_is c.args.self.now.plan.now c.args.link c.args.line c.args.stream links.fits
    (planned _ _ _ _ _ c.has_peer.result links.peers_are c.has_peer.ensures c.if-has_peer.true) in
    omega (arith, r.id_most)
