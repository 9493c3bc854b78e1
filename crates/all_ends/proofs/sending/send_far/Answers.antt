use Rattle.all_ends.proofs.Terms.{ℕ, ap, sym, subst, pair_port, Side}
use Rattle.ide_port.specs.{IsSentAtPort, Trusting}
use Rattle.all_ends.specs.Ends.{far_hop_trust}
use Rattle.all_ends.proofs.sending.send_far.Goals as goal

pub returns-in-Host-clause-sent : goal.returns-in-Host-clause-sent
returns-in-Host-clause-sent c =
    subst (λ (t : Trusting). (number : ℕ) → IsSentAtPort (pair_port c.args.side c.args.ends.now) c.args.tlp.now
    c.args.more t number c.send_pair.result (pair_port c.args.side c.send_pair.new.ends) c.send_pair.new.out)
    (sym (ap (λ (s : Side). far_hop_trust s c.args.trusted) c.in-Host.is)) c.send_pair.ensures.sent

pub returns-in-Device-clause-sent : goal.returns-in-Device-clause-sent
returns-in-Device-clause-sent c =
    subst (λ (t : Trusting). (number : ℕ) → IsSentAtPort (pair_port c.args.side c.args.ends.now) c.args.tlp.now
    c.args.more t number c.send_pair-in-Device.result (pair_port c.args.side c.send_pair-in-Device.new.ends)
    c.send_pair-in-Device.new.out)
    (sym (ap (λ (s : Side). far_hop_trust s c.args.trusted) c.in-Device.is)) c.send_pair-in-Device.ensures.sent
