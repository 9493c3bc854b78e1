use Rattle.std.proofs.Common.{◌≡◌, ℕ, ◌∙◌, List, refl, ap, sym, subst}
use Rattle.std.proofs.lemmas.List.{length-set}
use Rattle.std.specs.Prelude.{length}
use Rattle.ide_types.specs.declared.direction.Direction.{Direction}
use Rattle.hop_queues.specs.declared.queue.HopTlp.{HopTlp}
use Rattle.hop_queues.specs.declared.queues.HopQueues.{HopQueues}
use Rattle.script_events.specs.declared.event.Event.TheVariants.{Forward}
use Rattle.link_stores.specs.declared.link.LinkAccesses.{LinkAccesses}
use Rattle.all_links.specs.Accesses.{same_reads, same_floors, nothing_happens, AccessesTurn}
use Rattle.whole_links.specs.declared.whole.WholeLinks.{WholeLinks}
use Rattle.whole_links.specs.Accesses.{carried_after_event}
use Rattle.whole_links.specs.Whole.{WholeEnds}
use Rattle.whole_links.proofs.Ends.{whole_noted}
use Rattle.whole_links.proofs.Forwards.{forward_nowhere, forward_unkept}
use Rattle.whole_links.proofs.Accesses.{forward_keeps, forward_takes}
use Rattle.whole_links.proofs.whole.WholeLinks.forward.Goals.{then-is_sealed, else-is_sealed}
use Rattle.whole_links.proofs.whole.WholeLinks.forward.Goals as goal

pub returns-then-not-has_hop-clause-ends : goal.returns-then-not-has_hop-clause-ends
returns-then-not-has_hop-clause-ends c = forward_nowhere c.args.plan.now c.args.link c.args.direction
    (sym c.has_hop.ensures ∙ c.if-not-has_hop.true) c.only.ensures.value c.only.ensures.links refl c.requires.bounded

pub returns-then-not-has_link-clause-ends : goal.returns-then-not-has_link-clause-ends
returns-then-not-has_link-clause-ends c =
    forward_unkept c.args.plan.now c.args.link c.args.direction (sym c.has_hop.ensures ∙ c.if-not-has_hop.false)
    (sym c.has_link.ensures ∙ c.if-not-has_link.true) c.only-then-not-has_link.ensures.value
    c.only-then-not-has_link.ensures.links refl c.requires.bounded

pub returns-clause-ends : goal.returns-clause-ends
returns-clause-ends c =
    let mid : WholeLinks = c.forwarded.new.self in
    let finish = λ (new : WholeLinks) (is : c.if-is_sealed.self ≡ new) (links : new.links ≡ mid.links)
    (many : length new.accesses ≡ length mid.accesses).
    subst (λ (s : WholeLinks). WholeEnds c.args.plan.now c.in_ok-verdict.verdict c.args.self.now s
    (Forward c.args.link c.args.direction)) (sym is)
    (whole_noted c.args.plan.now c.args.self.now mid new c.in_ok-verdict.ensures.ends links many) in
    elim c.if-is_sealed.branch [
      | then-is_sealed w ↦ finish _ w.self-is refl (length-set mid.accesses c.args.link _)
      | else-is_sealed w ↦ finish _ w.self-is refl refl
    ]

pub returns-clause-accesses : goal.returns-clause-accesses
returns-clause-accesses c =
    let mid : WholeLinks = c.forwarded.new.self in
    let carried : ℕ → Direction → List HopTlp → List HopTlp =
    carried_after_event (Forward c.args.link c.args.direction) c.in_ok-verdict.verdict in
    let finish = λ (new : WholeLinks) (is : c.if-is_sealed.self ≡ new)
    (turn : AccessesTurn same_reads same_floors nothing_happens carried mid.accesses new.accesses).
    subst (λ (s : WholeLinks). AccessesTurn same_reads same_floors nothing_happens carried c.args.self.now.accesses
    s.accesses)
    (sym is)
    (subst (λ (xs : List LinkAccesses). AccessesTurn same_reads same_floors nothing_happens carried xs new.accesses)
    c.in_ok-verdict.ensures.accesses turn) in
    elim c.if-is_sealed.branch [
      | then-is_sealed w ↦
          let a : LinkAccesses = w.at_mut.result.now in
          finish _ w.self-is
          (forward_takes mid.accesses c.args.link c.args.direction a (record a { carried = w.remove_first.new.self })
          c.in_ok-verdict.verdict w.at_mut.ensures.value
          (ap (λ (q : HopQueues). record a { carried = q }) w.remove_first.ensures)
          (sym c.is_sealed.ensures ∙ w.if-is_sealed.true))
      | else-is_sealed w ↦
          finish _ w.self-is
          (forward_keeps mid.accesses c.args.link c.args.direction c.in_ok-verdict.verdict
          (sym c.is_sealed.ensures ∙ w.if-is_sealed.false) c.in_ok-verdict.ensures.kind)
    ]
