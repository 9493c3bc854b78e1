use Rattle.std.proofs.Common.{refl, subst, sym, List, ℕ}
use Rattle.ide_types.specs.declared.port.PortName.{PortName}
use Rattle.script_events.specs.declared.event.Event.{Event}
use Rattle.script_events.specs.declared.event.Event.TheVariants.{Send, Reset, Absent}
use Rattle.all_links.specs.Links.{EndsIfAnswered}
use Rattle.all_links.specs.States.{links_state}
use Rattle.whole_links.specs.Accesses.{AccessesAfter}
use Rattle.whole_links.specs.Whole.{WholeEnds}
use Rattle.whole_links.proofs.Ends.{absent_step, ends_of, err_stays, nothing_ends}
use Rattle.whole_links.proofs.whole.WholeLinks.answer.Goals as goal

pub returns-in_ok-send-in-Send-clause-ends : goal.returns-in_ok-send-in-Send-clause-ends
returns-in_ok-send-in-Send-clause-ends c =
    let e = c.in-Send in
    ends_of c.args.plan.now c.args.self.now _ (Send e.port e.bytes e.more e.trusted) c.send.new.self e.is
    (subst (λ (bs : List ℕ). EndsIfAnswered c.args.plan.now c.in_ok-send-in-Send.field-0 c.args.self.now.links
    c.send.new.self (Send e.port bs e.more e.trusted)) c.as_slice-bytes.ensures c.in_ok-send-in-Send.ensures.ends)
    c.requires.bounded.whole refl refl

pub returns-in_ok-dump-in-Dump-clause-ends : goal.returns-in_ok-dump-in-Dump-clause-ends
returns-in_ok-dump-in-Dump-clause-ends c = ends_of c.args.plan.now c.args.self.now _ _ c.dump.new.self c.in-Dump.is
    (c.in_ok-dump-in-Dump.ensures.ends c.args.plan.now) c.requires.bounded.whole refl refl

pub returns-in-Status-clause-ends : goal.returns-in-Status-clause-ends
returns-in-Status-clause-ends c = ends_of c.args.plan.now c.args.self.now _ _ c.status.new.self c.in-Status.is
    (c.status.ensures.ends c.args.plan.now) c.requires.bounded.whole refl refl

pub returns-in_err-dump-in-Dump-clause-ends : goal.returns-in_err-dump-in-Dump-clause-ends
returns-in_err-dump-in-Dump-clause-ends c =
    err_stays c.args.plan.now c.from_residual-in_err-dump-in-Dump.result c.args.self.now
    (record { links = c.dump.new.self; accesses = c.args.self.now.accesses }) c.args.event.now
    c.from_residual-in_err-dump-in-Dump.ensures.0 (c.in_err-dump-in-Dump.ensures.ends c.args.plan.now) refl

pub returns-in-Reset-clause-ends : goal.returns-in-Reset-clause-ends
returns-in-Reset-clause-ends c =
    let e = c.in-Reset in
    subst (λ (x : Event). WholeEnds c.args.plan.now c.reset.result c.args.self.now c.reset.new.self x) (sym e.is)
    (subst (λ (ps : List PortName). WholeEnds c.args.plan.now c.reset.result c.args.self.now c.reset.new.self
    (Reset e.link ps)) c.as_slice.ensures (c.reset.ensures.ends c.args.plan.now))

pub returns-in-Reset-clause-accesses : goal.returns-in-Reset-clause-accesses
returns-in-Reset-clause-accesses c =
    let e = c.in-Reset in
    subst (λ (x : Event). AccessesAfter c.args.plan.now x c.reset.result c.args.self.now c.reset.new.self) (sym e.is)
    (subst (λ (ps : List PortName). AccessesAfter c.args.plan.now (Reset e.link ps) c.reset.result c.args.self.now
    c.reset.new.self) c.as_slice.ensures (c.reset.ensures.accesses c.args.plan.now))

pub returns-in-Absent-clause-ends : goal.returns-in-Absent-clause-ends
returns-in-Absent-clause-ends c =
    subst (λ (x : Event). WholeEnds c.args.plan.now c.only.result c.args.self.now
    (record { links = c.only.new.self; accesses = c.args.self.now.accesses }) x) (sym c.in-Absent.is)
    (nothing_ends c.args.plan.now Absent
    (λ b. absent_step c.args.plan.now b (links_state c.args.plan.now c.args.self.now.links)) c.only.ensures.value
    c.only.ensures.links refl c.requires.bounded)
