-- A lock: what is lost or refused before LOCK_INTERFACE changes nothing; the third exchange makes of both ends what the
-- machine makes of them, case by case of the loss and of the device's answer.
use Rattle.std.proofs.Common.{◌≡◌, ℕ, ◌+◌, ◌<◌, ◌==◌, ◌&&◌, Bool, true, false, List, [], Option, Some, None, Result, Ok}
use Rattle.std.proofs.Common.{Err, refl, ap, sym, subst, arith}
use Rattle.std.specs.Prelude.{slice_set, IfSome, not, if◌then◌else◌, is_ok}
use Rattle.spec_keys.proofs.Tests.{same-true}
use Rattle.ide_types.specs.declared.status.StreamStatus.{StreamStatus}
use Rattle.ide_types.specs.declared.status.StreamStatus.TheVariants as status
use Rattle.ide_types.specs.Fits.{IsKey}
use Rattle.script_events.specs.declared.event.Loss.{Loss}
use Rattle.script_events.specs.declared.event.Lost.{Lost}
use Rattle.script_events.specs.declared.event.Lost.TheVariants.{Request, Reply}
use Rattle.event_verdicts.specs.declared.verdict.Verdict.{Verdict}
use Rattle.spec_keys.specs.Due.{lost_message, lost_at}
use Rattle.spec_interfaces.specs.Sites.{Site}
use Rattle.spec_interfaces.specs.Views.{Managed, on_lock}
use Rattle.spec_interfaces.specs.Devices.{interface_if_called, one_if, lock_call}
use Rattle.spec_interfaces.specs.Exchanges.{carries}
use Rattle.spec_interfaces.specs.Due.{AskedState, verdict_of_lock, lock_due}
use Rattle.interface_state.specs.declared.states.Lock.{Lock}
use Rattle.interface_state.specs.Machine.{DeviceTdi, Call, interface_after_call, interface_after_lock, new_lock}
use Rattle.interface_state.specs.Machine.{lock_answer, nonce_answer, is_unlocked, are_lock_flags, is_page, error_code}
use Rattle.interface_state.specs.declared.error_codes.ErrorCode.TheVariants.{InvalidRequest, InvalidInterfaceState}
use Rattle.interface_state.specs.declared.error_codes.ErrorCode.TheVariants.{InvalidDeviceConfiguration}
use Rattle.interface_state.specs.Bars.{bars_of, any_overlap}
use Rattle.interface_host.specs.declared.operation.InterfaceOperation.TheVariants as op
use Rattle.interface_host.specs.declared.operation.InterfaceOutcome.TheVariants as outcome
use Rattle.interface_host.specs.declared.operation.InterfaceRefusal.{InterfaceRefusal}
use Rattle.interface_host.specs.declared.step.Step.TheVariants as step
use Rattle.interface_host.specs.Steps.{Read}
use Rattle.interface_host.specs.Views.{Seen, IsUnlocked, IsLocked, IsRunning, IsDoubt, IsBroken, nonce_of}
use Rattle.interface_host.specs.Views.{lock_outcome, lock_refusal, taken_interface}
use Rattle.interface_ends.specs.declared.said.StreamSaid.{StreamSaid}
use Rattle.interface_ends.specs.Replies.{DeviceTdis, NamedTdi, next_nonce, used_after}
use Rattle.interface_ends.specs.Exchanges.{nonce_due}
use Rattle.interface_ends.specs.Operations.{judgment_if_carried, interfaces_after_request, walked_unless_lost}
use Rattle.interface_ends.specs.Operations.{lost_early, stated_once, at_step, stated_lock}
use Rattle.join_interfaces.specs.Verdicts.{outcome_verdict}
use Rattle.join_interfaces.specs.Faces.{IsManaged}
use Rattle.join_interfaces.proofs.Losses.{by_loss, thrice_lost, cut, early_carries, early_kept}
use Rattle.join_interfaces.proofs.Comes.{PeersRead, host_of, managed_as_seen, told_seen, managed_of, no_key, stands}
use Rattle.join_interfaces.proofs.Comes.{device_with, Comes, begun_walk, refused_walk, same_device, left_device, quiet}
use Rattle.join_interfaces.proofs.Comes.{no_lock}

-- ---- the third exchange, by what the device answers

lock_verdict : (x : Site) (loss : Option Loss) (l : Option Lost) (r : Result (List ℕ) ℕ) → lost_message loss 3 ≡ l
    → outcome_verdict x.number loss [] (lock_outcome 3 (judgment_if_carried l (nonce_due r)))
    ≡ Some (by_loss l 3 (verdict_of_lock x r))
lock_verdict x loss None (Ok nonce) is = refl
lock_verdict x loss None (Err code) is = refl
lock_verdict x loss (Some k) r is = cut loss 3 k is

-- a nonce that is given
given : (u n : ℕ) (b : Bool) → (if b then u + 1 else u) ≡ u + one_if ((n == n) && true && b)
given u n true = rw (same-true n) refl
given u n false = rw (same-true n) (omega arith)

none_given : (n : ℕ) (b : Bool) → ((n == n) && false && b) ≡ false
none_given n b = rw (same-true n) refl

lock_device : (x : Site) (d : DeviceTdis) (place : ℕ) (tdi : DeviceTdi) (lock : Lock) (call : Call) (l : Option Lost)
    (r : Result (List ℕ) ℕ) → slice_set d.interfaces place tdi ≡ d.interfaces
    → interface_after_call tdi call ≡ interface_after_lock tdi lock r
    → interfaces_after_request l d (device_with d place (interface_after_lock tdi lock r) (used_after (is_ok r) d.used))
    ≡ device_with d place (interface_if_called (carries (by_loss l 3 (verdict_of_lock x r)) 3) call tdi)
    (d.used + one_if ((x.number == x.number) && carries (by_loss l 3 (verdict_of_lock x r)) 3 && is_ok r))
lock_device x d place tdi lock call None (Ok nonce) same after =
    same_device d place _ _ _ _ (sym after) (given d.used x.number true)
lock_device x d place tdi lock call None (Err code) same after =
    same_device d place _ _ _ _ (sym after) (given d.used x.number false)
lock_device x d place tdi lock call (Some Request) r same after =
    left_device d place tdi _ _ same refl (none_given x.number (is_ok r))
lock_device x d place tdi lock call (Some Reply) (Ok nonce) same after =
    same_device d place _ _ _ _ (sym after) (given d.used x.number true)
lock_device x d place tdi lock call (Some Reply) (Err code) same after =
    same_device d place _ _ _ _ (sym after) (given d.used x.number false)

abbrev GivesKey : Result (List ℕ) ℕ → Type 0
GivesKey (Ok nonce) = IsKey nonce
GivesKey (Err code) = Unit {0}

lock_managed : (x : Site) (draw draws : ℕ) (m : Managed) (l : Option Lost) (r : Result (List ℕ) ℕ) → GivesKey r
    → IsManaged draw x
    (taken_interface step.Lock draws (judgment_if_carried l (nonce_due r)) (host_of x draw IsUnlocked m))
    (on_lock (managed_as_seen IsUnlocked m) (by_loss l 3 (verdict_of_lock x r)))
lock_managed x draw draws m None (Ok nonce) key = managed_of x draw (IsLocked nonce false) _ (refl, refl, refl) key
lock_managed x draw draws m None (Err code) key = managed_of x draw IsUnlocked _ refl no_key
lock_managed x draw draws m (Some Request) r key = managed_of x draw IsDoubt _ refl no_key
lock_managed x draw draws m (Some Reply) r key = managed_of x draw IsDoubt _ refl no_key

-- ---- the device's answer

if_key : (a b c : Bool) (j k l : ℕ) (r : Result (List ℕ) ℕ) → GivesKey r
    → GivesKey (if a then Err j else if b then Err k else if c then Err l else r)
if_key true b c j k l r key = tt
if_key false true c j k l r key = tt
if_key false false true j k l r key = tt
if_key false false false j k l r key = key

drawn_key : (next : Option (List ℕ)) → IfSome next IsKey → GivesKey (nonce_answer next)
drawn_key None key = tt
drawn_key (Some nonce) key = key

answer_key : (tdi : DeviceTdi) (flags offset : ℕ) (secure : Bool) (next : Option (List ℕ)) → IfSome next IsKey
    → GivesKey (lock_answer tdi flags offset secure next)
answer_key tdi flags offset secure next key =
    if_key (not (is_unlocked tdi.state)) (not (are_lock_flags flags && is_page offset))
    (not (secure && not (any_overlap (bars_of tdi.plan tdi.registers)))) (error_code InvalidInterfaceState)
    (error_code InvalidRequest) (error_code InvalidDeviceConfiguration) (nonce_answer next) (drawn_key next key)

-- ---- all exchanges

module _ (x : Site) (draw drawn portion place : ℕ) (said : StreamSaid) (ps : PeersRead) (loss : Option Loss)
    (d : DeviceTdis) (tdi : DeviceTdi)
    (m : Managed) (read : Read) where
  abbrev state_asked : Seen → StreamStatus → AskedState
  state_asked seen host = stands x said ps (next_nonce d) tdi (managed_as_seen seen m) host draw drawn

  abbrev there : NamedTdi
  there = record { place = place; tdi = tdi }

  third : (l : Option Lost) → lost_message loss 3 ≡ l → slice_set d.interfaces place tdi ≡ d.interfaces
      → IfSome (next_nonce d) IsKey
      → Comes x (state_asked IsUnlocked status.Secure) place op.Lock loss d
      (by_loss l 3 (verdict_of_lock x (lock_answer tdi x.plan.flags x.plan.offset said.secure (next_nonce d))))
      (stated_once portion drawn said l there (at_step step.Lock (host_of x draw IsUnlocked m) d))
  third l is same key =
      let r = lock_answer tdi x.plan.flags x.plan.offset said.secure (next_nonce d) in
      record {
        verdict = lock_verdict x loss l r is;
        device = lock_device x d place tdi (new_lock tdi x.plan.flags x.plan.stream x.plan.offset)
            (lock_call (state_asked IsUnlocked status.Secure).around x) l r same refl;
        managed = lock_managed x draw drawn m l r
            (answer_key tdi x.plan.flags x.plan.offset said.secure (next_nonce d) key);
      }

  -- a loss of one of the first two
  early : (k : Lost) (n : ℕ) → n < 3 → lost_message loss n ≡ Some k → slice_set d.interfaces place tdi ≡ d.interfaces
      → Comes x (state_asked IsUnlocked status.Secure) place op.Lock loss d (lost_at k n)
      (lost_early n (host_of x draw IsUnlocked m) d)
  early k n lt is same =
      let none = early_carries k n lt in
      quiet x (state_asked IsUnlocked status.Secure) place op.Lock loss d (lost_at k n) _ _ _ same
      (ap (λ b. interface_if_called b (lock_call (state_asked IsUnlocked status.Secure).around x) tdi) none)
      (no_lock x (state_asked IsUnlocked status.Secure) loss (lost_at k n) none)
      (early_kept k n (managed_as_seen IsUnlocked m) lt) (managed_of x draw IsUnlocked _ refl no_key) (cut loss n k is)

  -- none is refused before them
  begun : (a b : Option Lost) → lost_message loss 1 ≡ a → lost_message loss 2 ≡ b
      → slice_set d.interfaces place tdi ≡ d.interfaces → IfSome (next_nonce d) IsKey
      → Comes x (state_asked IsUnlocked status.Secure) place op.Lock loss d
      (by_loss a 1 (by_loss b 2 (by_loss (lost_message loss 3) 3
      (verdict_of_lock x (lock_answer tdi x.plan.flags x.plan.offset said.secure (next_nonce d))))))
      (walked_unless_lost a (lost_early 1 (host_of x draw IsUnlocked m) d)
      (walked_unless_lost b (lost_early 2 (host_of x draw IsUnlocked m) d)
      (stated_once portion drawn said (lost_message loss 3) there (at_step step.Lock (host_of x draw IsUnlocked m) d))))
  begun (Some k) b first second same key = early k 1 (omega arith) first same
  begun None (Some k) first second same key = early k 2 (omega arith) second same
  begun None None first second same key = third (lost_message loss 3) refl same key

  -- a refusal
  refused : (seen : Seen) (host : StreamStatus) (due : Verdict) (r : InterfaceRefusal)
      → slice_set d.interfaces place tdi ≡ d.interfaces → IsKey (nonce_of seen) → carries due 3 ≡ false
      → on_lock (managed_as_seen seen m) due ≡ managed_as_seen seen m
      → outcome_verdict x.number loss [] (outcome.Refused r) ≡ Some due
      → Comes x (state_asked seen host) place op.Lock loss d due (refused_walk r (host_of x draw seen m) read d)
  refused seen host due r same key none kept is =
      quiet x (state_asked seen host) place op.Lock loss d due _ _ _ same
      (ap (λ b. interface_if_called b (lock_call (state_asked seen host).around x) tdi) none)
      (no_lock x (state_asked seen host) loss due none) kept (managed_of x draw seen _ (told_seen seen m) key) is

  pub lock_comes : (seen : Seen) (host : StreamStatus) → slice_set d.interfaces place tdi ≡ d.interfaces
      → IfSome (next_nonce d) IsKey → IsKey (nonce_of seen)
      → Comes x (state_asked seen host) place op.Lock loss d (lock_due x (state_asked seen host) loss)
      (begun_walk (lock_refusal host seen) (host_of x draw seen m) read d
      (stated_lock portion drawn said loss (host_of x draw seen m) d there))
  lock_comes IsUnlocked status.Secure same key held =
      let due = thrice_lost loss (verdict_of_lock x (lock_answer tdi x.plan.flags x.plan.offset said.secure
      (next_nonce d))) in
      subst (λ w. Comes x (state_asked IsUnlocked status.Secure) place op.Lock loss d w
      (stated_lock portion drawn said loss (host_of x draw IsUnlocked m) d there)) (sym due)
      (begun (lost_message loss 1) (lost_message loss 2) refl refl same key)
  lock_comes IsUnlocked status.Idle same key held = refused IsUnlocked status.Idle _ _ same held refl refl refl
  lock_comes IsUnlocked status.Partial same key held = refused IsUnlocked status.Partial _ _ same held refl refl refl
  lock_comes IsUnlocked status.Insecure same key held = refused IsUnlocked status.Insecure _ _ same held refl refl refl
  lock_comes (IsLocked nonce reported) host same key held =
      refused (IsLocked nonce reported) host _ _ same held refl refl refl
  lock_comes (IsRunning floor) host same key held = refused (IsRunning floor) host _ _ same held refl refl refl
  lock_comes IsDoubt host same key held = refused IsDoubt host _ _ same held refl refl refl
  lock_comes IsBroken host same key held = refused IsBroken host _ _ same held refl refl refl
