use Rattle.std.proofs.Common.{refl, subst, sym}
use Rattle.std.specs.Prelude.{Option}
use Rattle.script_events.specs.declared.event.Event.TheVariants.{Interface}
use Rattle.script_events.specs.declared.event.InterfaceEvent.TheVariants.{Halt}
use Rattle.event_verdicts.specs.declared.verdict.Verdict.{Verdict}
use Rattle.whole_links.specs.Whole.{WholeEndsOrHasNone}
use Rattle.whole_links.proofs.Ends.{any_plan, bounded_with, ends_noted}
use Rattle.whole_links.proofs.whole.WholeLinks.halt.Goals as goal

pub returns-clause-ends : goal.returns-clause-ends
returns-clause-ends c =
    λ plan. ends_noted plan c.args.self.now c.note_halt.new.self c.operate_interface.new.self
    (c.in_ok-verdict.ensures.ends plan (Halt c.args.interface c.args.loss) refl) c.requires.bounded
    c.note_halt.ensures.links c.note_halt.ensures.accesses.many

pub note_halt-requires : goal.note_halt-requires
note_halt-requires c =
    record {
      bounded = bounded_with c.args.self.now c.operate_interface.new.self
          (c.in_ok-verdict.ensures.ends any_plan (Halt c.args.interface c.args.loss) refl)
          c.requires.bounded.whole;
      here = sym c.in_ok-verdict.ensures.place;
    }

pub returns-in_err-verdict-clause-ends : goal.returns-in_err-verdict-clause-ends
returns-in_err-verdict-clause-ends c = λ plan.
    subst (λ (o : Option Verdict). WholeEndsOrHasNone plan o c.args.self.now
    (record { links = c.operate_interface.new.self; accesses = c.args.self.now.accesses })
    (Interface (Halt c.args.interface c.args.loss))) (sym c.from_residual.ensures)
    (c.in_err-verdict.ensures.ends plan (Halt c.args.interface c.args.loss) refl)
