use Rattle.std.proofs.Common.{◌≡◌, ℕ, ◌∙◌, List, [], refl, ap, sym, subst}
use Rattle.std.proofs.lemmas.List.{length-set}
use Rattle.std.specs.Prelude.{length}
use Rattle.ide_types.specs.declared.port.PortName.{PortName}
use Rattle.trusted_memory.specs.declared.queue.WaitingRead.{WaitingRead}
use Rattle.link_stores.specs.declared.link.LinkAccesses.{LinkAccesses}
use Rattle.whole_links.specs.Accesses.{reads_after_event, AccessesAfter}
use Rattle.ide_types.specs.declared.plan.Plan.{Plan}
use Rattle.ide_types.specs.declared.port.Side.{Side}
use Rattle.ide_types.specs.declared.port.Side.TheVariants.{Host, Device}
use Rattle.event_verdicts.specs.declared.verdict.Verdict.{Verdict}
use Rattle.whole_links.specs.Besides.{answer_event}
use Rattle.all_links.specs.Accesses.{same_floors, nothing_happens, same_carried, AccessesTurn}
use Rattle.all_links.proofs.BesideAfter.{keeps_all}
use Rattle.whole_links.specs.declared.whole.WholeLinks.{WholeLinks}
use Rattle.whole_links.specs.Whole.{WholeEnds}
use Rattle.whole_links.proofs.Ends.{whole_noted}
use Rattle.whole_links.proofs.Answers.{answer_nowhere}
use Rattle.whole_links.proofs.Accesses.{answer_keeps, answer_takes}
use Rattle.whole_links.proofs.whole.WholeLinks.answer_read.Goals.{then-takes_read, else-takes_read}
use Rattle.whole_links.proofs.whole.WholeLinks.answer_read.Goals as goal

pub returns-then-not-has_link-clause-ends : goal.returns-then-not-has_link-clause-ends
returns-then-not-has_link-clause-ends c = answer_nowhere c.args.plan.now c.args.side c.args.link
    c.if-not-has_link.ensures c.only.ensures.value c.only.ensures.links refl c.requires.bounded

pub returns-then-not-has_link-clause-sides : goal.returns-then-not-has_link-clause-sides
returns-then-not-has_link-clause-sides c = keeps_all c.only.ensures.links

pub returns-clause-ends : goal.returns-clause-ends
returns-clause-ends c =
    let mid : WholeLinks = c.answered.new.self in
    let finish = λ (new : WholeLinks) (is : c.if-takes_read.self ≡ new) (links : new.links ≡ mid.links)
    (many : length new.accesses ≡ length mid.accesses).
    subst (λ (s : WholeLinks). WholeEnds c.args.plan.now c.in_ok-verdict.verdict c.args.self.now s
    (answer_event c.args.side c.args.link)) (sym is)
    (whole_noted c.args.plan.now c.args.self.now mid new c.in_ok-verdict.ensures.ends links many) in
    elim c.if-takes_read.branch [
      | then-takes_read w ↦ finish _ w.self-is refl (length-set mid.accesses c.args.link _)
      | else-takes_read w ↦ finish _ w.self-is refl refl
    ]

as_after : (plan : Plan) (side : Side) (link : ℕ) (verdict : Verdict) (old new : WholeLinks)
    → AccessesTurn (reads_after_event plan (answer_event side link) verdict) same_floors nothing_happens same_carried
    old.accesses new.accesses → AccessesAfter plan (answer_event side link) verdict old new
as_after plan Host link verdict old new turn = turn
as_after plan Device link verdict old new turn = turn

pub returns-clause-accesses : goal.returns-clause-accesses
returns-clause-accesses c =
    as_after c.args.plan.now c.args.side c.args.link c.in_ok-verdict.verdict c.args.self.now c.if-takes_read.self (
    let mid : WholeLinks = c.answered.new.self in
    let reads : PortName → List WaitingRead → List WaitingRead =
    reads_after_event c.args.plan.now (answer_event c.args.side c.args.link) c.in_ok-verdict.verdict in
    let finish = λ (new : WholeLinks) (is : c.if-takes_read.self ≡ new)
    (turn : AccessesTurn reads same_floors nothing_happens same_carried mid.accesses new.accesses).
    subst (λ (s : WholeLinks). AccessesTurn reads same_floors nothing_happens same_carried c.args.self.now.accesses
    s.accesses)
    (sym is)
    (subst (λ (xs : List LinkAccesses). AccessesTurn reads same_floors nothing_happens same_carried xs new.accesses)
    c.in_ok-verdict.ensures.accesses turn) in
    elim c.if-takes_read.branch [
      | then-takes_read w ↦
          finish _ w.self-is
          (answer_takes c.args.plan.now mid.accesses c.args.side c.args.link w.at_mut.result.now
          w.remove_first.new.self c.in_ok-verdict.verdict w.at_mut.ensures.value w.remove_first.ensures
          (sym c.takes_read.ensures ∙ w.if-takes_read.true))
      | else-takes_read w ↦
          finish _ w.self-is
          (answer_keeps c.args.plan.now mid.accesses c.args.side c.args.link c.in_ok-verdict.verdict
          (sym c.takes_read.ensures ∙ w.if-takes_read.false) c.in_ok-verdict.ensures.kind)
    ])
