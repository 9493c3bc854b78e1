-- A question for the state changes no device; a view that wants another state than the one that is told is broken.
use Rattle.std.proofs.Common.{◌≡◌, ℕ, ◌+◌, ◌==◌, Bool, true, false, List, [], Option, Some, None, refl, sym, subst}
use Rattle.std.specs.Prelude.{slice_set, if◌then◌else◌}
use Rattle.ide_types.specs.declared.status.StreamStatus.{StreamStatus}
use Rattle.ide_types.specs.Fits.{IsKey}
use Rattle.ide_types.specs.declared.verdict.InterfaceVerdict.TheVariants as iv
use Rattle.ide_types.specs.declared.view.View.TheVariants.{Locked, Running, Broken}
use Rattle.script_events.specs.declared.event.Loss.{Loss}
use Rattle.script_events.specs.declared.event.Lost.{Lost}
use Rattle.script_events.specs.declared.event.Lost.TheVariants.{Request, Reply}
use Rattle.event_verdicts.specs.declared.verdict.Verdict.{Verdict}
use Rattle.event_verdicts.specs.declared.verdict.Verdict.TheVariants as v
use Rattle.spec_interfaces.specs.Sites.{Site}
use Rattle.spec_interfaces.specs.Views.{Managed, on_state}
use Rattle.spec_interfaces.specs.Due.{AskedState, state_due}
use Rattle.interface_state.specs.Machine.{DeviceTdi, state_code}
use Rattle.interface_host.specs.declared.operation.InterfaceOperation.TheVariants as op
use Rattle.interface_host.specs.declared.step.Step.TheVariants as step
use Rattle.interface_host.specs.Judging.{State}
use Rattle.interface_host.specs.Views.{Seen, IsUnlocked, IsLocked, IsRunning, IsDoubt, IsBroken, nonce_of}
use Rattle.interface_host.specs.Views.{state_outcome, taken_interface}
use Rattle.interface_ends.specs.declared.said.StreamSaid.{StreamSaid}
use Rattle.interface_ends.specs.Replies.{DeviceTdis, NamedTdi, next_nonce}
use Rattle.spec_keys.specs.Due.{lost_message}
use Rattle.interface_ends.specs.Operations.{judgment_if_carried, interfaces_after_request, stated_once, stated_alone}
use Rattle.interface_ends.specs.Operations.{at_step}
use Rattle.join_interfaces.specs.Verdicts.{outcome_verdict}
use Rattle.join_interfaces.specs.Faces.{IsManaged}
use Rattle.join_interfaces.proofs.Losses.{by_loss, once_lost, cut}
use Rattle.join_interfaces.proofs.Comes.{PeersRead, host_of, laid, managed_as_seen, told_seen, managed_of, no_key}
use Rattle.join_interfaces.proofs.Comes.{stands, device_with, Comes, same_device, left_device, no_more}

-- the verdict if nothing is lost
abbrev told_state : Site → ℕ → Verdict
told_state x code = v.Interface (iv.State x.number code)

state_verdict : (x : Site) (code : ℕ) (loss : Option Loss) (l : Option Lost) → lost_message loss 1 ≡ l
    → outcome_verdict x.number loss [] (state_outcome 1 (judgment_if_carried l (State code)))
    ≡ Some (by_loss l 1 (told_state x code))
state_verdict x code loss None is = refl
state_verdict x code loss (Some k) is = cut loss 1 k is

state_device : (d : DeviceTdis) (place : ℕ) (tdi : DeviceTdi) (l : Option Lost)
    → slice_set d.interfaces place tdi ≡ d.interfaces
    → interfaces_after_request l d (device_with d place tdi d.used) ≡ device_with d place tdi (d.used + 0)
state_device d place tdi None same = same_device d place _ _ _ _ refl (no_more d.used)
state_device d place tdi (Some Request) same = left_device d place tdi _ false same refl refl
state_device d place tdi (Some Reply) same = same_device d place _ _ _ _ refl (no_more d.used)

locked_told : (x : Site) (draw : ℕ) (nonce : List ℕ) (reported : Bool) (m : Managed) (b : Bool) → IsKey nonce
    → IsManaged draw x (laid x draw m.needs m.started (if b then IsLocked nonce reported else IsBroken) m.asked)
    (record m { view = if b then Locked else Broken; nonce = nonce; reported = reported })
locked_told x draw nonce reported m true key = managed_of x draw (IsLocked nonce reported) _ (refl, refl, refl) key
locked_told x draw nonce reported m false key = managed_of x draw IsBroken _ refl no_key

running_told : (x : Site) (draw floor : ℕ) (m : Managed) (b : Bool)
    → IsManaged draw x (laid x draw m.needs m.started (if b then IsRunning floor else IsBroken) m.asked)
    (record m { view = if b then Running else Broken; floor = floor })
running_told x draw floor m true = managed_of x draw (IsRunning floor) _ (refl, refl) no_key
running_told x draw floor m false = managed_of x draw IsBroken _ refl no_key

state_managed : (x : Site) (draw draws code : ℕ) (seen : Seen) (m : Managed) (l : Option Lost) → IsKey (nonce_of seen)
    → IsManaged draw x (taken_interface step.State draws (judgment_if_carried l (State code)) (host_of x draw seen m))
    (on_state (managed_as_seen seen m) (by_loss l 1 (told_state x code)))
state_managed x draw draws code seen m (Some Request) key = managed_of x draw seen _ (told_seen seen m) key
state_managed x draw draws code seen m (Some Reply) key = managed_of x draw seen _ (told_seen seen m) key
state_managed x draw draws code IsUnlocked m None key = managed_of x draw IsUnlocked _ refl no_key
state_managed x draw draws code (IsLocked nonce reported) m None key =
    locked_told x draw nonce reported m (code == 1) key
state_managed x draw draws code (IsRunning floor) m None key = running_told x draw floor m (code == 2)
state_managed x draw draws code IsDoubt m None key = managed_of x draw IsDoubt _ refl no_key
state_managed x draw draws code IsBroken m None key = managed_of x draw IsBroken _ refl no_key

module _ (x : Site) (draw drawn portion place : ℕ) (said : StreamSaid) (ps : PeersRead) (loss : Option Loss)
    (d : DeviceTdis) (tdi : DeviceTdi)
    (m : Managed) (seen : Seen) (host : StreamStatus) where
  abbrev state_asked : AskedState
  state_asked = stands x said ps (next_nonce d) tdi (managed_as_seen seen m) host draw drawn

  abbrev there : NamedTdi
  there = record { place = place; tdi = tdi }

  asked : (l : Option Lost) → lost_message loss 1 ≡ l → slice_set d.interfaces place tdi ≡ d.interfaces
      → IsKey (nonce_of seen)
      → Comes x state_asked place op.State loss d (by_loss l 1 (told_state x (state_code tdi.state)))
      (stated_once portion drawn said l there (at_step step.State (host_of x draw seen m) d))
  asked l is same key = record {
    verdict = state_verdict x (state_code tdi.state) loss l is;
    device = state_device d place tdi l same;
    managed = state_managed x draw drawn (state_code tdi.state) seen m l key;
  }

  pub state_comes : slice_set d.interfaces place tdi ≡ d.interfaces → IsKey (nonce_of seen)
      → Comes x state_asked place op.State loss d (state_due x state_asked loss)
      (stated_alone step.State portion drawn said loss (host_of x draw seen m) d there)
  state_comes same key =
      subst (λ w. Comes x state_asked place op.State loss d w
      (stated_alone step.State portion drawn said loss (host_of x draw seen m) d there))
      (sym (once_lost loss (told_state x (state_code tdi.state)))) (asked (lost_message loss 1) refl same key)
