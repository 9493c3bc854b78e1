use Rattle.all_links.proofs.Terms.{ap, sym, subst, Links, SendsAtEnd, EndsView, lengths_sent, Sent}
use Rattle.all_links.proofs.Finds.{few_units}
use Rattle.all_links.proofs.Sends.{by_line, seals, sealed_length, sent_keeps}
use Rattle.all_links.proofs.links.Links.seal.Goals as goal

pub send-sent-requires-clause-few : goal.send-sent-requires-clause-few
send-sent-requires-clause-few c = few_units c.args.self.now.ends c.args.self.now.packets.packets c.args.self.now.steps
    c.requires.steps c.requires.bounded

pub keep_sent-requires-clause-lengths : goal.keep_sent-requires-clause-lengths
keep_sent-requires-clause-lengths c = λ ps is.
    sealed_length c.args.self.now.ends c.send-sent.new.self c.args.end
    (by_line c.args.self.now.ends c.args.end c.args.tlp.now c.args.more c.args.trusted) c.send-sent.result c.send-sent.new.out ps c.requires.here c.send-sent.ensures
    (ap (λ (a : Sent). lengths_sent a) (sym is))

pub returns-clause-ends : goal.returns-clause-ends
returns-clause-ends c =
    let old : Links = c.args.self.now in
    let is = c.keep_sent.ensures.links in
    seals c.args.plan.now old c.keep_sent.new.self c.args.end c.args.tlp.now c.args.more c.args.trusted
    c.send-sent.result
    c.send-sent.new.out c.keep_sent.result c.requires.bounded c.requires.here
    (subst (λ (w : EndsView). SendsAtEnd old.ends c.args.end c.args.tlp.now c.args.more c.args.trusted
    c.send-sent.result w
    c.send-sent.new.out)
    (sym (ap (λ (s : Links). s.ends) is)) c.send-sent.ensures)
    c.keep_sent.ensures.verdict (ap (λ (s : Links). s.keeper.keys) is) (ap (λ (s : Links). s.steps) is)
    c.keep_sent.ensures.packets (ap (λ (s : Links). s.trusted) is)

pub returns-clause-sides : goal.returns-clause-sides
returns-clause-sides c =
    let old : Links = c.args.self.now in
    let is = c.keep_sent.ensures.links in
    sent_keeps old c.keep_sent.new.self c.args.end
    (by_line old.ends c.args.end c.args.tlp.now c.args.more c.args.trusted) c.send-sent.result
    c.send-sent.new.out c.requires.here
    (subst (λ (w : EndsView). SendsAtEnd old.ends c.args.end c.args.tlp.now c.args.more c.args.trusted
    c.send-sent.result w
    c.send-sent.new.out)
    (sym (ap (λ (s : Links). s.ends) is)) c.send-sent.ensures)
    (ap (λ (s : Links). s.keeper) is) (ap (λ (s : Links). s.trusted) is)
