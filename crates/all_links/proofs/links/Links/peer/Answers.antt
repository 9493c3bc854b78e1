use Rattle.all_links.proofs.Terms.{ℕ, ap, sym, ◌∙◌, ◌≡◌, true, false, Option, Some, None, if◌then◌else◌, Bool, nat_lt}
use Rattle.all_links.proofs.Terms.{refl}
use Rattle.std.proofs.Common.{◌&&◌}
use Rattle.interface_host.specs.declared.operation.PeerStream.{PeerStream}
use Rattle.all_links.specs.Interfaces.{has_peer_if_there, managed_peer_stream}
use Rattle.all_links.proofs.links.Links.peer.Goals as goal

none_of : (b : Bool) (peer : PeerStream) → b ≡ false → None ≡ (if b then Some peer else None)
none_of b peer is = ap (λ (x : Bool). if x then Some peer else None) (sym is)

no_more : (a b : Bool) → b ≡ false → (a && b) ≡ false
no_more true b is = is
no_more false b is = refl

pub returns-in-None : goal.returns-in-None
returns-in-None c =
    let s = c.args.self.now in
    none_of _ (managed_peer_stream s.keeper c.args.line c.args.stream)
    (no_more (nat_lt c.args.stream 256) _
    (ap (λ (o : Option (ℕ × ℕ)). has_peer_if_there s.ends c.args.line c.args.stream o) c.in-None.is))

pub returns-else-has_peer : goal.returns-else-has_peer
returns-else-has_peer c =
    let s = c.args.self.now in
    none_of _ (managed_peer_stream s.keeper c.args.line c.args.stream)
    (no_more (nat_lt c.args.stream 256) _
    (ap (λ (o : Option (ℕ × ℕ)). has_peer_if_there s.ends c.args.line c.args.stream o) c.in-Some.is
    ∙ sym c.has_peer.ensures ∙ c.if-has_peer.false))
