use Rattle.std.proofs.Common.{refl, subst, sym}
use Rattle.std.specs.Prelude.{Ok, Some}
use Rattle.script_events.specs.declared.event.Event.TheVariants.{Interface}
use Rattle.script_events.specs.declared.event.InterfaceEvent.{InterfaceEvent}
use Rattle.whole_links.specs.Whole.{WholeEnds}
use Rattle.whole_links.proofs.Ends.{ends_as_or, err_stays}
use Rattle.whole_links.proofs.Accesses.{quiet_or}
use Rattle.whole_links.proofs.whole.WholeLinks.ask.Goals as goal

pub returns-in-Lock-clause-ends : goal.returns-in-Lock-clause-ends
returns-in-Lock-clause-ends c = λ plan.
    ends_as_or plan (Ok c.lock.result) c.args.self.now _ c.args.event.now _ c.in-Lock.is (c.lock.ensures.ends plan)
    c.requires.bounded.whole refl

pub returns-in-Lock-clause-accesses : goal.returns-in-Lock-clause-accesses
returns-in-Lock-clause-accesses c =
    quiet_or (Ok c.lock.result) c.args.event.now _ c.args.self.now _ c.in-Lock.is (λ verdict. refl)

pub returns-in-Report-clause-ends : goal.returns-in-Report-clause-ends
returns-in-Report-clause-ends c = λ plan.
    ends_as_or plan c.report.result c.args.self.now _ c.args.event.now _ c.in-Report.is (c.report.ensures.ends plan)
    c.requires.bounded.whole refl

pub returns-in-Report-clause-accesses : goal.returns-in-Report-clause-accesses
returns-in-Report-clause-accesses c =
    quiet_or c.report.result c.args.event.now _ c.args.self.now _ c.in-Report.is (λ verdict. refl)

pub returns-in-State-clause-ends : goal.returns-in-State-clause-ends
returns-in-State-clause-ends c = λ plan.
    ends_as_or plan (Ok c.state.result) c.args.self.now _ c.args.event.now _ c.in-State.is (c.state.ensures.ends plan)
    c.requires.bounded.whole refl

pub returns-in-State-clause-accesses : goal.returns-in-State-clause-accesses
returns-in-State-clause-accesses c =
    quiet_or (Ok c.state.result) c.args.event.now _ c.args.self.now _ c.in-State.is (λ verdict. refl)

pub returns-in-Bind-clause-ends : goal.returns-in-Bind-clause-ends
returns-in-Bind-clause-ends c = λ plan.
    ends_as_or plan (Ok c.bind.result) c.args.self.now _ c.args.event.now _ c.in-Bind.is (c.bind.ensures.ends plan)
    c.requires.bounded.whole refl

pub returns-in-Bind-clause-accesses : goal.returns-in-Bind-clause-accesses
returns-in-Bind-clause-accesses c =
    quiet_or (Ok c.bind.result) c.args.event.now _ c.args.self.now _ c.in-Bind.is (λ verdict. refl)

pub returns-in-Unbind-clause-ends : goal.returns-in-Unbind-clause-ends
returns-in-Unbind-clause-ends c = λ plan.
    ends_as_or plan (Ok c.unbind.result) c.args.self.now _ c.args.event.now _ c.in-Unbind.is
    (c.unbind.ensures.ends plan)
    c.requires.bounded.whole refl

pub returns-in-Unbind-clause-accesses : goal.returns-in-Unbind-clause-accesses
returns-in-Unbind-clause-accesses c =
    quiet_or (Ok c.unbind.result) c.args.event.now _ c.args.self.now _ c.in-Unbind.is (λ verdict. refl)

pub returns-in-View-clause-ends : goal.returns-in-View-clause-ends
returns-in-View-clause-ends c = λ plan.
    ends_as_or plan (Ok (Some c.view.result)) c.args.self.now _ c.args.event.now _ c.in-View.is
    (c.view.ensures.ends plan)
    c.requires.bounded.whole refl

pub returns-in-View-clause-accesses : goal.returns-in-View-clause-accesses
returns-in-View-clause-accesses c =
    quiet_or (Ok (Some c.view.result)) c.args.event.now _ c.args.self.now _ c.in-View.is (λ verdict. refl)

pub returns-in-Write-clause-ends : goal.returns-in-Write-clause-ends
returns-in-Write-clause-ends c = λ plan.
    ends_as_or plan (Ok (Some c.write.result)) c.args.self.now _ c.args.event.now _ c.in-Write.is
    (c.write.ensures.ends plan)
    c.requires.bounded.whole refl

pub returns-in-Write-clause-accesses : goal.returns-in-Write-clause-accesses
returns-in-Write-clause-accesses c =
    quiet_or (Ok (Some c.write.result)) c.args.event.now _ c.args.self.now _ c.in-Write.is (λ verdict. refl)

pub returns-in-Firmware-clause-ends : goal.returns-in-Firmware-clause-ends
returns-in-Firmware-clause-ends c = λ plan.
    ends_as_or plan (Ok (Some c.firmware.result)) c.args.self.now _ c.args.event.now _ c.in-Firmware.is
    (c.firmware.ensures.ends plan)
    c.requires.bounded.whole refl

pub returns-in-Firmware-clause-accesses : goal.returns-in-Firmware-clause-accesses
returns-in-Firmware-clause-accesses c =
    quiet_or (Ok (Some c.firmware.result)) c.args.event.now _ c.args.self.now _ c.in-Firmware.is (λ verdict. refl)

pub returns-in-Flr-clause-ends : goal.returns-in-Flr-clause-ends
returns-in-Flr-clause-ends c = λ plan.
    subst (λ (e : InterfaceEvent). WholeEnds plan c.flr.result c.args.self.now c.flr.new.self (Interface e))
    (sym c.in-Flr.is) (c.flr.ensures.ends plan)

pub returns-in_ok-memory-in-Memory-clause-ends : goal.returns-in_ok-memory-in-Memory-clause-ends
returns-in_ok-memory-in-Memory-clause-ends c = λ plan.
    ends_as_or plan (Ok (Some c.in_ok-memory-in-Memory.field-0)) c.args.self.now _ c.args.event.now _ c.in-Memory.is
    (c.in_ok-memory-in-Memory.ensures.ends plan) c.requires.bounded.whole refl

pub returns-in_ok-memory-in-Memory-clause-accesses : goal.returns-in_ok-memory-in-Memory-clause-accesses
returns-in_ok-memory-in-Memory-clause-accesses c = quiet_or (Ok (Some c.in_ok-memory-in-Memory.field-0))
    c.args.event.now _ c.args.self.now _ c.in-Memory.is (λ verdict. refl)

pub returns-in_err-memory-in-Memory-clause-ends : goal.returns-in_err-memory-in-Memory-clause-ends
returns-in_err-memory-in-Memory-clause-ends c = λ plan.
    err_stays plan c.from_residual.result c.args.self.now
    (record { links = c.memory.new.self; accesses = c.args.self.now.accesses }) (Interface c.args.event.now)
    c.from_residual.ensures.0 (c.in_err-memory-in-Memory.ensures.ends plan) refl
