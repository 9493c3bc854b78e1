use Rattle.all_links.proofs.Terms.{ap, sym, subst, Links, EndsView, lengths_sent, Sent}
use Rattle.line_arrivals.specs.{SealsAtEnd, step_on_stream}
use Rattle.all_links.proofs.Finds.{few_units}
use Rattle.all_links.proofs.Sends.{completes, end_has, sealed_length, sent_keeps}
use Rattle.all_links.proofs.links.Links.seal_completion.Goals as goal

pub complete-sent-requires-clause-here : goal.complete-sent-requires-clause-here
complete-sent-requires-clause-here c = end_has c.args.self.now.ends c.args.end c.args.stream c.requires.here

pub complete-sent-requires-clause-few : goal.complete-sent-requires-clause-few
complete-sent-requires-clause-few c = few_units c.args.self.now.ends c.args.self.now.packets.packets
    c.args.self.now.steps c.requires.steps c.requires.bounded

pub keep_sent-requires-clause-lengths : goal.keep_sent-requires-clause-lengths
keep_sent-requires-clause-lengths c = λ ps is.
    let old : Links = c.args.self.now in
    sealed_length old.ends c.complete-sent.new.self c.args.end
    (step_on_stream c.args.tlp.now c.args.stream c.args.trusted) c.complete-sent.result c.complete-sent.new.out ps
    (end_has old.ends c.args.end c.args.stream c.requires.here) c.complete-sent.ensures
    (ap (λ (a : Sent). lengths_sent a) (sym is))

pub returns-clause-ends : goal.returns-clause-ends
returns-clause-ends c = λ floor.
    let old : Links = c.args.self.now in
    let is = c.keep_sent.ensures.links in
    completes c.args.plan.now old c.keep_sent.new.self
    (record {
      end = c.args.end;
      stream = c.args.stream;
      trusted = c.args.trusted;
      floor = floor;
      bytes = c.args.tlp.now;
    }) c.complete-sent.result c.complete-sent.new.out c.keep_sent.result c.requires.bounded c.requires.here
    (subst (λ (w : EndsView). SealsAtEnd old.ends c.args.end c.args.tlp.now c.args.stream c.args.trusted
    c.complete-sent.result w c.complete-sent.new.out)
    (sym (ap (λ (s : Links). s.ends) is)) c.complete-sent.ensures)
    c.keep_sent.ensures.verdict (ap (λ (s : Links). s.keeper.keys) is) (ap (λ (s : Links). s.steps) is)
    c.keep_sent.ensures.packets (ap (λ (s : Links). s.trusted) is)

pub returns-clause-sides : goal.returns-clause-sides
returns-clause-sides c =
    let old : Links = c.args.self.now in
    let is = c.keep_sent.ensures.links in
    sent_keeps old c.keep_sent.new.self c.args.end (step_on_stream c.args.tlp.now c.args.stream c.args.trusted)
    c.complete-sent.result c.complete-sent.new.out (end_has old.ends c.args.end c.args.stream c.requires.here)
    (subst (λ (w : EndsView). SealsAtEnd old.ends c.args.end c.args.tlp.now c.args.stream c.args.trusted
    c.complete-sent.result w c.complete-sent.new.out)
    (sym (ap (λ (s : Links). s.ends) is)) c.complete-sent.ensures)
    (ap (λ (s : Links). s.keeper) is) (ap (λ (s : Links). s.trusted) is)
