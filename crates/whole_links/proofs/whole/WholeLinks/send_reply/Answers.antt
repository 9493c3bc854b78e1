use Rattle.std.proofs.Common.{ℕ, List, sym, refl, subst}
use Rattle.machine_ports.specs.Replies.{ReadCompletion}
use Rattle.all_links.specs.Links.{EndsSealingOrStays}
use Rattle.all_links.proofs.BesideAfter.{keeps_all}
use Rattle.whole_links.specs.declared.reply.Reply.{Reply}
use Rattle.whole_links.proofs.Answers.{answer_older, answer_sent_or}
use Rattle.whole_links.proofs.whole.WholeLinks.send_reply.Goals as goal

abbrev completion_of : Reply → List ℕ → ReadCompletion
completion_of x bytes =
    record { end = x.end; stream = x.stream; trusted = x.trusted; floor = x.floor; bytes = bytes }

pub returns-in-Some-clause-ends : goal.returns-in-Some-clause-ends
returns-in-Some-clause-ends c =
    answer_older c.args.plan.now c.args.side c.args.link (completion_of c.args.reply.now c.args.bytes.now)
    c.in-Some.draw c.requires.due (sym c.in-Some.ensures) c.only.ensures.value c.only.ensures.links refl
    c.requires.bounded

pub returns-in-None-clause-ends : goal.returns-in-None-clause-ends
returns-in-None-clause-ends c =
    let x : Reply = c.args.reply.now in
    answer_sent_or c.args.plan.now c.complete.result c.args.self.now
    (record { links = c.complete.new.self; accesses = c.args.self.now.accesses }) c.args.side c.args.link
    (completion_of x c.args.bytes.now) c.requires.due (sym c.in-None.ensures)
    (subst (λ (bytes : List ℕ). EndsSealingOrStays c.args.plan.now c.complete.result c.args.self.now.links
    c.complete.new.self (completion_of x bytes)) c.written-tlp.ensures (c.complete.ensures.ends x.floor))
    refl c.requires.bounded

pub returns-in-Some-clause-sides : goal.returns-in-Some-clause-sides
returns-in-Some-clause-sides c = keeps_all c.only.ensures.links
