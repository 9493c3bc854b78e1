use Rattle.std.proofs.Common.{refl, subst, sym}
use Rattle.std.specs.Prelude.{Option}
use Rattle.script_events.specs.declared.event.Event.TheVariants.{Interface}
use Rattle.script_events.specs.declared.event.InterfaceEvent.TheVariants.{Start}
use Rattle.event_verdicts.specs.declared.verdict.Verdict.{Verdict}
use Rattle.whole_links.specs.Whole.{WholeEndsOrHasNone}
use Rattle.whole_links.proofs.Ends.{any_plan, bounded_with, ends_noted}
use Rattle.whole_links.proofs.whole.WholeLinks.start.Goals as goal

pub returns-clause-ends : goal.returns-clause-ends
returns-clause-ends c =
    λ plan. ends_noted plan c.args.self.now c.note_start.new.self c.operate_interface.new.self
    (c.in_ok-verdict.ensures.ends plan (Start c.args.interface c.args.loss) refl) c.requires.bounded
    c.note_start.ensures.links c.note_start.ensures.accesses.many

pub note_start-requires : goal.note_start-requires
note_start-requires c =
    record {
      bounded = bounded_with c.args.self.now c.operate_interface.new.self
          (c.in_ok-verdict.ensures.ends any_plan (Start c.args.interface c.args.loss) refl)
          c.requires.bounded.whole;
      here = sym c.in_ok-verdict.ensures.place;
    }

pub returns-in_err-verdict-clause-ends : goal.returns-in_err-verdict-clause-ends
returns-in_err-verdict-clause-ends c = λ plan.
    subst (λ (o : Option Verdict). WholeEndsOrHasNone plan o c.args.self.now
    (record { links = c.operate_interface.new.self; accesses = c.args.self.now.accesses })
    (Interface (Start c.args.interface c.args.loss))) (sym c.from_residual.ensures)
    (c.in_err-verdict.ensures.ends plan (Start c.args.interface c.args.loss) refl)
