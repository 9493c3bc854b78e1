-- A start: what is refused before START_INTERFACE changes nothing; the exchange makes of both ends what the machine
-- makes of them, case by case of the loss and of the device's answer.
use Rattle.std.proofs.Common.{◌≡◌, ℕ, ◌+◌, Bool, true, false, List, [], Option, Some, None, Result, Ok, Err}
use Rattle.std.proofs.Common.{refl, ap, sym, subst}
use Rattle.std.specs.Prelude.{slice_set, nat_lt, if◌then◌else◌}
use Rattle.ide_types.specs.declared.status.StreamStatus.{StreamStatus}
use Rattle.ide_types.specs.declared.status.StreamStatus.TheVariants as status
use Rattle.ide_types.specs.Fits.{IsKey}
use Rattle.ide_types.specs.declared.verdict.InterfaceVerdict.TheVariants as iv
use Rattle.script_events.specs.declared.event.Loss.{Loss}
use Rattle.script_events.specs.declared.event.Lost.{Lost}
use Rattle.script_events.specs.declared.event.Lost.TheVariants.{Request, Reply}
use Rattle.event_verdicts.specs.declared.verdict.Verdict.{Verdict}
use Rattle.event_verdicts.specs.declared.verdict.Verdict.TheVariants as v
use Rattle.spec_interfaces.specs.Sites.{Site}
use Rattle.spec_interfaces.specs.Views.{Managed, on_start}
use Rattle.spec_interfaces.specs.Devices.{interface_if_called}
use Rattle.spec_interfaces.specs.Exchanges.{carries}
use Rattle.spec_interfaces.specs.Due.{AskedState, started_as, start_due, unless_lost as due_unless_lost}
use Rattle.interface_state.specs.Machine.{DeviceTdi, Call, StartInterface, interface_after_call, start_answer}
use Rattle.interface_host.specs.declared.operation.InterfaceOperation.TheVariants as op
use Rattle.interface_host.specs.declared.operation.InterfaceOutcome.TheVariants as outcome
use Rattle.interface_host.specs.declared.operation.InterfaceRefusal.{InterfaceRefusal}
use Rattle.interface_host.specs.declared.operation.InterfaceRefusal.TheVariants as refusal
use Rattle.interface_host.specs.declared.step.Step.TheVariants as step
use Rattle.interface_host.specs.Steps.{Read}
use Rattle.interface_host.specs.Views.{Seen, IsUnlocked, IsLocked, IsRunning, IsDoubt, IsBroken, nonce_of}
use Rattle.interface_host.specs.Views.{start_outcome, start_refusal, taken_interface}
use Rattle.interface_ends.specs.declared.said.StreamSaid.{StreamSaid}
use Rattle.interface_ends.specs.Replies.{DeviceTdis, NamedTdi, next_nonce}
use Rattle.interface_ends.specs.Exchanges.{start_judged}
use Rattle.spec_keys.specs.Due.{lost_message}
use Rattle.interface_ends.specs.Operations.{judgment_if_carried, interfaces_after_request, stated_once, stated_alone}
use Rattle.interface_ends.specs.Operations.{at_step}
use Rattle.join_interfaces.specs.Verdicts.{outcome_verdict}
use Rattle.join_interfaces.specs.Faces.{IsManaged}
use Rattle.join_interfaces.proofs.Losses.{by_loss, once_lost, cut}
use Rattle.join_interfaces.proofs.Comes.{PeersRead, host_of, managed_as_seen, told_seen, managed_of, no_key, stands}
use Rattle.join_interfaces.proofs.Comes.{device_with, Comes, begun_walk, refused_walk, same_device, left_device}
use Rattle.join_interfaces.proofs.Comes.{no_more, quiet}

-- ---- the exchange, by what the device answers

start_verdict : (x : Site) (draw : ℕ) (loss : Option Loss) (l : Option Lost) (r : Result (Unit {0}) ℕ)
    → lost_message loss 1 ≡ l
    → outcome_verdict x.number loss [] (start_outcome 1 draw (judgment_if_carried l (start_judged r)))
    ≡ Some (by_loss l 1 (started_as x draw r))
start_verdict x draw loss None (Ok done) is = refl
start_verdict x draw loss None (Err code) is = refl
start_verdict x draw loss (Some k) r is = cut loss 1 k is

start_device : (x : Site) (draw : ℕ) (d : DeviceTdis) (place : ℕ) (tdi : DeviceTdi) (call : Call) (l : Option Lost)
    (r : Result (Unit {0}) ℕ) → slice_set d.interfaces place tdi ≡ d.interfaces
    → interfaces_after_request l d (device_with d place (interface_after_call tdi call) d.used)
    ≡ device_with d place (interface_if_called (carries (by_loss l 1 (started_as x draw r)) 1) call tdi) (d.used + 0)
start_device x draw d place tdi call None (Ok done) same = same_device d place _ _ _ _ refl (no_more d.used)
start_device x draw d place tdi call None (Err code) same = same_device d place _ _ _ _ refl (no_more d.used)
start_device x draw d place tdi call (Some Request) r same = left_device d place tdi _ false same refl refl
start_device x draw d place tdi call (Some Reply) r same = same_device d place _ _ _ _ refl (no_more d.used)

start_managed : (x : Site) (draw draws : ℕ) (nonce : List ℕ) (m : Managed) (l : Option Lost) (r : Result (Unit {0}) ℕ)
    → IsManaged draw x
    (taken_interface step.Start draws (judgment_if_carried l (start_judged r)) (host_of x draw (IsLocked nonce true) m))
    (on_start (managed_as_seen (IsLocked nonce true) m) (by_loss l 1 (started_as x draw r)))
start_managed x draw draws nonce m None (Ok done) = managed_of x draw (IsRunning draw) _ (refl, refl) no_key
start_managed x draw draws nonce m None (Err code) = managed_of x draw IsBroken _ refl no_key
start_managed x draw draws nonce m (Some Request) r = managed_of x draw IsDoubt _ refl no_key
start_managed x draw draws nonce m (Some Reply) r = managed_of x draw IsDoubt _ refl no_key

-- ---- the operation

module _ (x : Site) (draw drawn portion place : ℕ) (said : StreamSaid) (ps : PeersRead) (loss : Option Loss)
    (d : DeviceTdis) (tdi : DeviceTdi)
    (m : Managed) (read : Read) where
  abbrev state_asked : Seen → StreamStatus → AskedState
  state_asked seen host = stands x said ps (next_nonce d) tdi (managed_as_seen seen m) host draw drawn

  abbrev there : NamedTdi
  there = record { place = place; tdi = tdi }

  asked : (nonce : List ℕ) (l : Option Lost) → lost_message loss 1 ≡ l → slice_set d.interfaces place tdi ≡ d.interfaces
      → Comes x (state_asked (IsLocked nonce true) status.Secure) place op.Start loss d
      (by_loss l 1 (started_as x draw (start_answer tdi.state nonce)))
      (stated_once portion drawn said l there (at_step step.Start (host_of x draw (IsLocked nonce true) m) d))
  asked nonce l is same =
      let r = start_answer tdi.state nonce in
      record {
        verdict = start_verdict x draw loss l r is;
        device = start_device x draw d place tdi (StartInterface nonce) l r same;
        managed = start_managed x draw drawn nonce m l r;
      }

  refused : (seen : Seen) (host : StreamStatus) (due : Verdict) (r : InterfaceRefusal)
      → slice_set d.interfaces place tdi ≡ d.interfaces → IsKey (nonce_of seen) → carries due 1 ≡ false
      → on_start (managed_as_seen seen m) due ≡ managed_as_seen seen m
      → outcome_verdict x.number loss [] (outcome.Refused r) ≡ Some due
      → Comes x (state_asked seen host) place op.Start loss d due (refused_walk r (host_of x draw seen m) read d)
  refused seen host due r same key none kept is =
      quiet x (state_asked seen host) place op.Start loss d due _ _ _ same
      (ap (λ b. interface_if_called b (StartInterface (managed_as_seen seen m).nonce) tdi) none) refl kept
      (managed_of x draw seen _ (told_seen seen m) key) is

  -- if its stream was keyed since
  fresh : (nonce : List ℕ) (stale : Bool) → slice_set d.interfaces place tdi ≡ d.interfaces → IsKey nonce
      → Comes x (state_asked (IsLocked nonce true) status.Secure) place op.Start loss d
      (if stale then v.Interface (iv.RefusedRefreshFirst draw m.needs)
      else due_unless_lost loss 1 (started_as x draw (start_answer tdi.state nonce)))
      (begun_walk (if stale then Some (refusal.RefreshFirst draw m.needs) else None)
      (host_of x draw (IsLocked nonce true) m) read d
      (stated_alone step.Start portion drawn said loss (host_of x draw (IsLocked nonce true) m) d there))
  fresh nonce true same key = refused (IsLocked nonce true) status.Secure _ _ same key refl refl refl
  fresh nonce false same key =
      subst (λ w. Comes x (state_asked (IsLocked nonce true) status.Secure) place op.Start loss d w
      (stated_alone step.Start portion drawn said loss (host_of x draw (IsLocked nonce true) m) d there))
      (sym (once_lost loss (started_as x draw (start_answer tdi.state nonce))))
      (asked nonce (lost_message loss 1) refl same)

  pub start_comes : (seen : Seen) (host : StreamStatus) → slice_set d.interfaces place tdi ≡ d.interfaces
      → IsKey (nonce_of seen)
      → Comes x (state_asked seen host) place op.Start loss d (start_due x (state_asked seen host) loss)
      (begun_walk (start_refusal host draw (managed_as_seen seen m).needs seen) (host_of x draw seen m) read d
      (stated_alone step.Start portion drawn said loss (host_of x draw seen m) d there))
  start_comes (IsLocked nonce true) status.Secure same key = fresh nonce (nat_lt draw m.needs) same key
  start_comes (IsLocked nonce true) status.Idle same key =
      refused (IsLocked nonce true) status.Idle _ _ same key refl refl refl
  start_comes (IsLocked nonce true) status.Partial same key =
      refused (IsLocked nonce true) status.Partial _ _ same key refl refl refl
  start_comes (IsLocked nonce true) status.Insecure same key =
      refused (IsLocked nonce true) status.Insecure _ _ same key refl refl refl
  start_comes (IsLocked nonce false) host same key = refused (IsLocked nonce false) host _ _ same key refl refl refl
  start_comes IsUnlocked host same key = refused IsUnlocked host _ _ same key refl refl refl
  start_comes (IsRunning floor) host same key = refused (IsRunning floor) host _ _ same key refl refl refl
  start_comes IsDoubt host same key = refused IsDoubt host _ _ same key refl refl refl
  start_comes IsBroken host same key = refused IsBroken host _ _ same key refl refl refl
