use Rattle.all_ends.proofs.Terms.{ℕ, ap, sym, subst, option_map, pair_port}
use Rattle.ide_port.specs.{IsSentAtPort, Trusting}
use Rattle.all_ends.specs.Ends.{bound_trust}
use Rattle.all_ends.proofs.sending.send_peer.Goals as goal

pub returns-in-None-clause-sent : goal.returns-in-None-clause-sent
returns-in-None-clause-sent c =
    subst (λ (t : Trusting). (number : ℕ) → IsSentAtPort (pair_port c.args.side c.args.ends.now) c.args.tlp.now
    c.args.more t number c.send_pair.result (pair_port c.args.side c.send_pair.new.ends) c.send_pair.new.out)
    (sym (ap (λ o. bound_trust (option_map (λ d. d.now) o)) c.in-None.is)) c.send_pair.ensures.sent

pub returns-in-Some-clause-sent : goal.returns-in-Some-clause-sent
returns-in-Some-clause-sent c =
    subst (λ (t : Trusting). (number : ℕ) → IsSentAtPort (pair_port c.args.side c.args.ends.now) c.args.tlp.now
    c.args.more t number c.send_pair-in-Some.result (pair_port c.args.side c.send_pair-in-Some.new.ends)
    c.send_pair-in-Some.new.out)
    (sym (ap (λ o. bound_trust (option_map (λ d. d.now) o)) c.in-Some.is)) c.send_pair-in-Some.ensures.sent
