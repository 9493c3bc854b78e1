-- A halt is refused by nobody: either its one exchange is lost, or the interface is unlocked at both ends.
use Rattle.std.proofs.Common.{◌≡◌, ℕ, ◌+◌, false, [], Option, Some, None, refl, sym, subst}
use Rattle.std.specs.Prelude.{slice_set}
use Rattle.ide_types.specs.declared.status.StreamStatus.{StreamStatus}
use Rattle.ide_types.specs.declared.verdict.InterfaceVerdict.TheVariants as iv
use Rattle.script_events.specs.declared.event.Loss.{Loss}
use Rattle.script_events.specs.declared.event.Lost.{Lost}
use Rattle.script_events.specs.declared.event.Lost.TheVariants.{Request, Reply}
use Rattle.event_verdicts.specs.declared.verdict.Verdict.{Verdict}
use Rattle.event_verdicts.specs.declared.verdict.Verdict.TheVariants as v
use Rattle.spec_interfaces.specs.Sites.{Site}
use Rattle.spec_interfaces.specs.Views.{Managed, needs_then, on_halt}
use Rattle.spec_interfaces.specs.Devices.{interface_if_called}
use Rattle.spec_interfaces.specs.Exchanges.{carries}
use Rattle.spec_interfaces.specs.Due.{AskedState, halt_due}
use Rattle.interface_state.specs.Machine.{DeviceTdi, StopInterface, interface_after_call}
use Rattle.interface_host.specs.declared.operation.InterfaceOperation.TheVariants as op
use Rattle.interface_host.specs.declared.step.Step.TheVariants as step
use Rattle.interface_host.specs.Judging.{Passed}
use Rattle.interface_host.specs.Views.{Seen, IsUnlocked, IsDoubt, halt_outcome, needs_after, taken_interface}
use Rattle.interface_ends.specs.declared.said.StreamSaid.{StreamSaid}
use Rattle.interface_ends.specs.Replies.{DeviceTdis, NamedTdi, next_nonce}
use Rattle.spec_keys.specs.Due.{lost_message}
use Rattle.interface_ends.specs.Operations.{judgment_if_carried, interfaces_after_request, stated_once, stated_alone}
use Rattle.interface_ends.specs.Operations.{at_step}
use Rattle.join_interfaces.specs.Verdicts.{outcome_verdict}
use Rattle.join_interfaces.specs.Faces.{IsManaged}
use Rattle.join_interfaces.proofs.Losses.{by_loss, once_lost, cut}
use Rattle.join_interfaces.proofs.Comes.{PeersRead, host_of, managed_as_seen, managed_of, no_key, stands, device_with}
use Rattle.join_interfaces.proofs.Comes.{Comes, same_device, left_device, no_more}

-- the verdict if nothing is lost
abbrev verdict_of_halt : Site → ℕ → Managed → Verdict
verdict_of_halt x draws m = v.Interface (iv.Halted x.number (needs_then m draws))

halt_verdict : (x : Site) (draws : ℕ) (m : Managed) (loss : Option Loss) (l : Option Lost) → lost_message loss 1 ≡ l
    → outcome_verdict x.number loss []
    (halt_outcome 1 (needs_after step.Halt draws (judgment_if_carried l Passed) m.started m.needs)
    (judgment_if_carried l Passed))
    ≡ Some (by_loss l 1 (verdict_of_halt x draws m))
halt_verdict x draws m loss None is = refl
halt_verdict x draws m loss (Some k) is = cut loss 1 k is

halt_device : (x : Site) (draws : ℕ) (m : Managed) (d : DeviceTdis) (place : ℕ) (tdi : DeviceTdi) (l : Option Lost)
    → slice_set d.interfaces place tdi ≡ d.interfaces
    → interfaces_after_request l d (device_with d place (interface_after_call tdi StopInterface) d.used)
    ≡ device_with d place (interface_if_called (carries (by_loss l 1 (verdict_of_halt x draws m)) 1) StopInterface tdi)
    (d.used + 0)
halt_device x draws m d place tdi None same = same_device d place _ _ _ _ refl (no_more d.used)
halt_device x draws m d place tdi (Some Request) same = left_device d place tdi _ false same refl refl
halt_device x draws m d place tdi (Some Reply) same = same_device d place _ _ _ _ refl (no_more d.used)

halt_managed : (x : Site) (draw draws : ℕ) (seen : Seen) (m : Managed) (l : Option Lost)
    → IsManaged draw x (taken_interface step.Halt draws (judgment_if_carried l Passed) (host_of x draw seen m))
    (on_halt draws (managed_as_seen seen m) (by_loss l 1 (verdict_of_halt x draws (managed_as_seen seen m))))
halt_managed x draw draws seen m None = managed_of x draw IsUnlocked _ refl no_key
halt_managed x draw draws seen m (Some Request) = managed_of x draw IsDoubt _ refl no_key
halt_managed x draw draws seen m (Some Reply) = managed_of x draw IsDoubt _ refl no_key

module _ (x : Site) (draw drawn portion place : ℕ) (said : StreamSaid) (ps : PeersRead) (loss : Option Loss)
    (d : DeviceTdis) (tdi : DeviceTdi)
    (m : Managed) (seen : Seen) (host : StreamStatus) where
  abbrev state_asked : AskedState
  state_asked = stands x said ps (next_nonce d) tdi (managed_as_seen seen m) host draw drawn

  abbrev there : NamedTdi
  there = record { place = place; tdi = tdi }

  asked : (l : Option Lost) → lost_message loss 1 ≡ l → slice_set d.interfaces place tdi ≡ d.interfaces
      → Comes x state_asked place op.Halt loss d (by_loss l 1 (verdict_of_halt x drawn (managed_as_seen seen m)))
      (stated_once portion drawn said l there (at_step step.Halt (host_of x draw seen m) d))
  asked l is same = record {
    verdict = halt_verdict x drawn (managed_as_seen seen m) loss l is;
    device = halt_device x drawn (managed_as_seen seen m) d place tdi l same;
    managed = halt_managed x draw drawn seen m l;
  }

  pub halt_comes : slice_set d.interfaces place tdi ≡ d.interfaces
      → Comes x state_asked place op.Halt loss d (halt_due x state_asked loss)
      (stated_alone step.Halt portion drawn said loss (host_of x draw seen m) d there)
  halt_comes same =
      subst (λ w. Comes x state_asked place op.Halt loss d w
      (stated_alone step.Halt portion drawn said loss (host_of x draw seen m) d there))
      (sym (once_lost loss (verdict_of_halt x drawn (managed_as_seen seen m)))) (asked (lost_message loss 1) refl same)
