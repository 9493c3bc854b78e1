-- A binding to a stream between devices, and its end: what is refused before the exchange changes nothing; the exchange
-- makes of both ends what the machine makes of them, case by case of the loss and of the device's answer.
use Rattle.std.proofs.Common.{◌≡◌, ℕ, ◌+◌, Bool, true, false, List, [], Option, Some, None, Result, Ok, Err}
use Rattle.std.proofs.Common.{refl, ap, sym, subst}
use Rattle.std.specs.Prelude.{slice_set, nat_lt, if◌then◌else◌}
use Rattle.ide_types.specs.declared.status.StreamStatus.{StreamStatus}
use Rattle.ide_types.specs.declared.status.StreamStatus.TheVariants as status
use Rattle.ide_types.specs.Fits.{IsKey}
use Rattle.ide_types.specs.declared.verdict.InterfaceVerdict.TheVariants as iv
use Rattle.script_events.specs.declared.event.Loss.{Loss}
use Rattle.script_events.specs.declared.event.Lost.{Lost}
use Rattle.script_events.specs.declared.event.Lost.TheVariants.{Request, Reply}
use Rattle.event_verdicts.specs.declared.verdict.Verdict.{Verdict}
use Rattle.event_verdicts.specs.declared.verdict.Verdict.TheVariants as v
use Rattle.spec_interfaces.specs.Sites.{Site}
use Rattle.spec_interfaces.specs.Views.{Managed, on_bind, peer_of}
use Rattle.spec_interfaces.specs.Devices.{interface_if_called}
use Rattle.spec_interfaces.specs.Exchanges.{carries}
use Rattle.spec_interfaces.specs.Due.{AskedState, verdict_of_bind, unbound_as, bind_due, unbind_due, op_status}
use Rattle.spec_interfaces.specs.Due.{if_fresh, unless_lost as due_unless_lost}
use Rattle.interface_state.specs.Machine.{DeviceTdi, Call, BindStream, UnbindStream, interface_after_call, bind_answer}
use Rattle.interface_state.specs.Machine.{unbind_answer}
use Rattle.interface_host.specs.declared.operation.InterfaceOperation.TheVariants as op
use Rattle.interface_host.specs.declared.operation.PeerStream.{PeerStream}
use Rattle.interface_host.specs.declared.operation.InterfaceOutcome.TheVariants as outcome
use Rattle.interface_host.specs.declared.operation.InterfaceRefusal.{InterfaceRefusal}
use Rattle.interface_host.specs.declared.operation.InterfaceRefusal.TheVariants as refusal
use Rattle.interface_host.specs.declared.step.Step.TheVariants as step
use Rattle.interface_host.specs.Steps.{Read}
use Rattle.interface_host.specs.Judging.{JudgedAnswer}
use Rattle.interface_host.specs.Views.{Seen, IsUnlocked, IsLocked, IsRunning, IsDoubt, IsBroken, nonce_of, bind_outcome}
use Rattle.interface_host.specs.Views.{unbind_outcome, bind_refusal, report_refusal, taken_interface}
use Rattle.interface_host.specs.Views.{interface_unless_secure, key_refusal, peer_number}
use Rattle.interface_ends.specs.declared.said.StreamSaid.{StreamSaid}
use Rattle.interface_ends.specs.Replies.{DeviceTdis, NamedTdi, next_nonce}
use Rattle.interface_ends.specs.Exchanges.{bind_judged, unbind_judged}
use Rattle.spec_keys.specs.Due.{lost_message, if_secure}
use Rattle.interface_ends.specs.Operations.{judgment_if_carried, interfaces_after_request, stated_once, stated_alone}
use Rattle.interface_ends.specs.Operations.{at_step}
use Rattle.join_interfaces.specs.Verdicts.{outcome_verdict}
use Rattle.join_interfaces.specs.Faces.{SeenAs, IsManaged}
use Rattle.join_interfaces.proofs.Losses.{by_loss, once_lost, cut}
use Rattle.join_interfaces.proofs.Comes.{PeersRead, laid, host_of, managed_as_seen, told_seen, managed_of, stands}
use Rattle.join_interfaces.proofs.Comes.{device_with}
use Rattle.join_interfaces.proofs.Comes.{Comes, begun_walk, refused_walk, same_device, left_device, no_more, quiet}

-- ---- the exchange of bind, by what the device answers

bind_verdict : (x : Site) (line : ℕ) (loss : Option Loss) (l : Option Lost) (r : Result ℕ ℕ) → lost_message loss 1 ≡ l
    → outcome_verdict x.number loss [] (bind_outcome 1 line (judgment_if_carried l (bind_judged r)))
    ≡ Some (by_loss l 1 (verdict_of_bind x line r))
bind_verdict x line loss None (Ok draw) is = refl
bind_verdict x line loss None (Err code) is = refl
bind_verdict x line loss (Some k) r is = cut loss 1 k is

bind_device : (x : Site) (line : ℕ) (d : DeviceTdis) (place : ℕ) (tdi : DeviceTdi) (call : Call) (l : Option Lost)
    (r : Result ℕ ℕ) → slice_set d.interfaces place tdi ≡ d.interfaces
    → interfaces_after_request l d (device_with d place (interface_after_call tdi call) d.used)
    ≡ device_with d place (interface_if_called (carries (by_loss l 1 (verdict_of_bind x line r)) 1) call tdi)
    (d.used + 0)
bind_device x line d place tdi call None (Ok draw) same = same_device d place _ _ _ _ refl (no_more d.used)
bind_device x line d place tdi call None (Err code) same = same_device d place _ _ _ _ refl (no_more d.used)
bind_device x line d place tdi call (Some Request) r same = left_device d place tdi _ false same refl refl
bind_device x line d place tdi call (Some Reply) r same = same_device d place _ _ _ _ refl (no_more d.used)

seen_asked : (seen : Seen) (m : Managed) (bs : List Bool) → SeenAs seen m → SeenAs seen (record m { asked = bs })
seen_asked IsUnlocked m bs e = e
seen_asked (IsLocked nonce reported) m bs e = e
seen_asked (IsRunning floor) m bs e = e
seen_asked IsDoubt m bs e = e
seen_asked IsBroken m bs e = e

bound_told : (x : Site) (draw line : ℕ) (seen : Seen) (m : Managed) → SeenAs seen m → IsKey (nonce_of seen)
    → IsManaged draw x (laid x draw m.needs m.started seen (slice_set m.asked (peer_number line) true))
    (record m { asked = slice_set m.asked (peer_of line) true })
bound_told x draw line seen m is key =
    managed_of x draw seen (record m { asked = slice_set m.asked (peer_of line) true })
    (seen_asked seen m (slice_set m.asked (peer_of line) true) is) key

bind_managed : (x : Site) (draw draws : ℕ) (peer : PeerStream) (seen : Seen) (m : Managed) (j : JudgedAnswer)
    (l : Option Lost) (r : Result ℕ ℕ) → IsKey (nonce_of seen)
    → IsManaged draw x (taken_interface (step.Bind peer) draws j (host_of x draw seen m))
    (on_bind peer.line (managed_as_seen seen m) (by_loss l 1 (verdict_of_bind x peer.line r)))
bind_managed x draw draws peer seen m j None (Ok k) key =
    bound_told x draw peer.line seen (managed_as_seen seen m) (told_seen seen m) key
bind_managed x draw draws peer seen m j None (Err code) key =
    bound_told x draw peer.line seen (managed_as_seen seen m) (told_seen seen m) key
bind_managed x draw draws peer seen m j (Some Request) r key =
    bound_told x draw peer.line seen (managed_as_seen seen m) (told_seen seen m) key
bind_managed x draw draws peer seen m j (Some Reply) r key =
    bound_told x draw peer.line seen (managed_as_seen seen m) (told_seen seen m) key

-- ---- bind

module _ (x : Site) (draw drawn portion place : ℕ) (said : StreamSaid) (ps : PeersRead) (loss : Option Loss)
    (d : DeviceTdis) (tdi : DeviceTdi) (m : Managed) (read : Read) (host : StreamStatus) (peer : PeerStream)
    (draw_is : peer.draw ≡ ps.draw peer.line peer.id) (live_is : said.live ≡ ps.live peer.id)
    (same : slice_set d.interfaces place tdi ≡ d.interfaces) where
  abbrev state_asked : Seen → AskedState
  state_asked seen = stands x said ps (next_nonce d) tdi (managed_as_seen seen m) host draw drawn

  abbrev there : NamedTdi
  there = record { place = place; tdi = tdi }

  abbrev answered : Result ℕ ℕ
  answered = bind_answer tdi peer.id (ps.live peer.id)

  asked : (seen : Seen) (l : Option Lost) → lost_message loss 1 ≡ l → IsKey (nonce_of seen)
      → Comes x (state_asked seen) place (op.Bind peer) loss d (by_loss l 1 (verdict_of_bind x peer.line answered))
      (stated_once portion drawn said l there (at_step (step.Bind peer) (host_of x draw seen m) d))
  asked seen l is key = record {
    verdict = subst (λ (k : Option ℕ). outcome_verdict x.number loss []
        (bind_outcome 1 peer.line (judgment_if_carried l (bind_judged (bind_answer tdi peer.id k))))
        ≡ Some (by_loss l 1 (verdict_of_bind x peer.line answered))) (sym live_is)
        (bind_verdict x peer.line loss l answered is);
    device = subst (λ (k : Option ℕ). interfaces_after_request l d
        (device_with d place (interface_after_call tdi (BindStream peer.id k)) d.used)
        ≡ device_with d place
        (interface_if_called (carries (by_loss l 1 (verdict_of_bind x peer.line answered)) 1)
        (BindStream peer.id (ps.live peer.id)) tdi) (d.used + 0)) (sym live_is)
        (bind_device x peer.line d place tdi (BindStream peer.id (ps.live peer.id)) l answered same);
    managed = bind_managed x draw drawn peer seen m
        (judgment_if_carried l (bind_judged (bind_answer tdi peer.id said.live))) l
        answered key;
  }

  refused : (seen : Seen) (due : Verdict) (r : InterfaceRefusal) → IsKey (nonce_of seen) → carries due 1 ≡ false
      → on_bind peer.line (managed_as_seen seen m) due ≡ managed_as_seen seen m
      → outcome_verdict x.number loss [] (outcome.Refused r) ≡ Some due
      → Comes x (state_asked seen) place (op.Bind peer) loss d due (refused_walk r (host_of x draw seen m) read d)
  refused seen due r key none kept is =
      quiet x (state_asked seen) place (op.Bind peer) loss d due _ _ _ same
      (ap (λ b. interface_if_called b (BindStream peer.id (ps.live peer.id)) tdi) none) refl kept
      (managed_of x draw seen _ (told_seen seen m) key) is

  -- if the stream was keyed since
  fresh : (seen : Seen) (stale : Bool) → IsKey (nonce_of seen) → Comes x (state_asked seen) place (op.Bind peer) loss d
      (if stale then v.Interface (iv.RefusedRefreshFirst (ps.draw peer.line peer.id) (managed_as_seen seen m).needs)
      else due_unless_lost loss 1 (verdict_of_bind x peer.line answered))
      (begun_walk (if stale then Some
      (refusal.RefreshFirst (ps.draw peer.line peer.id) (managed_as_seen seen m).needs) else None)
      (host_of x draw seen m) read d
      (stated_alone (step.Bind peer) portion drawn said loss (host_of x draw seen m) d there))
  fresh seen true key = refused seen _ _ key refl refl refl
  fresh seen false key =
      subst (λ w. Comes x (state_asked seen) place (op.Bind peer) loss d w
      (stated_alone (step.Bind peer) portion drawn said loss (host_of x draw seen m) d there))
      (sym (once_lost loss (verdict_of_bind x peer.line answered))) (asked seen (lost_message loss 1) refl key)

  -- of a view that allows it
  abbrev Allowed : Seen → StreamStatus → Type 0
  Allowed seen up = Comes x (state_asked seen) place (op.Bind peer) loss d
      (if_secure up
      (if_fresh (ps.draw peer.line peer.id) (managed_as_seen seen m).needs
      (due_unless_lost loss 1 (verdict_of_bind x peer.line answered))))
      (begun_walk (interface_unless_secure up
      (key_refusal (ps.draw peer.line peer.id) (managed_as_seen seen m).needs))
      (host_of x draw seen m) read d
      (stated_alone (step.Bind peer) portion drawn said loss (host_of x draw seen m) d there))

  allowed : (seen : Seen) (up : StreamStatus) → IsKey (nonce_of seen) → Allowed seen up
  allowed seen status.Secure key = fresh seen (nat_lt (ps.draw peer.line peer.id) (managed_as_seen seen m).needs) key
  allowed seen status.Idle key = refused seen _ _ key refl refl refl
  allowed seen status.Partial key = refused seen _ _ key refl refl refl
  allowed seen status.Insecure key = refused seen _ _ key refl refl refl

  by_view : (seen : Seen) → IsKey (nonce_of seen) → Comes x (state_asked seen) place (op.Bind peer) loss d
      (bind_due x (state_asked seen) peer.line peer.id loss)
      (begun_walk (bind_refusal (op_status (ps.op peer.line peer.id))
      (ps.draw peer.line peer.id) (managed_as_seen seen m).needs seen) (host_of x draw seen m) read d
      (stated_alone (step.Bind peer) portion drawn said loss (host_of x draw seen m) d there))
  by_view (IsLocked nonce reported) key = allowed (IsLocked nonce reported) (op_status (ps.op peer.line peer.id)) key
  by_view (IsRunning floor) key = allowed (IsRunning floor) (op_status (ps.op peer.line peer.id)) key
  by_view IsUnlocked key = refused IsUnlocked _ _ key refl refl refl
  by_view IsDoubt key = refused IsDoubt _ _ key refl refl refl
  by_view IsBroken key = refused IsBroken _ _ key refl refl refl

  pub bind_comes : (seen : Seen) → IsKey (nonce_of seen) → Comes x (state_asked seen) place (op.Bind peer) loss d
      (bind_due x (state_asked seen) peer.line peer.id loss)
      (begun_walk (bind_refusal (op_status (ps.op peer.line peer.id)) peer.draw (managed_as_seen seen m).needs seen)
      (host_of x draw seen m) read d
      (stated_alone (step.Bind peer) portion drawn said loss (host_of x draw seen m) d there))
  bind_comes seen key =
      subst (λ (k : ℕ). Comes x (state_asked seen) place (op.Bind peer) loss d
      (bind_due x (state_asked seen) peer.line peer.id loss)
      (begun_walk (bind_refusal (op_status (ps.op peer.line peer.id)) k (managed_as_seen seen m).needs seen)
      (host_of x draw seen m) read d
      (stated_alone (step.Bind peer) portion drawn said loss (host_of x draw seen m) d there))) (sym draw_is)
      (by_view seen key)

-- ---- unbind

unbind_verdict : (x : Site) (line : ℕ) (loss : Option Loss) (l : Option Lost) (r : Result (Unit {0}) ℕ)
    → lost_message loss 1 ≡ l
    → outcome_verdict x.number loss [] (unbind_outcome 1 line (judgment_if_carried l (unbind_judged r)))
    ≡ Some (by_loss l 1 (unbound_as x line r))
unbind_verdict x line loss None (Ok done) is = refl
unbind_verdict x line loss None (Err code) is = refl
unbind_verdict x line loss (Some k) r is = cut loss 1 k is

unbind_device : (x : Site) (line : ℕ) (d : DeviceTdis) (place : ℕ) (tdi : DeviceTdi) (call : Call) (l : Option Lost)
    (r : Result (Unit {0}) ℕ) → slice_set d.interfaces place tdi ≡ d.interfaces
    → interfaces_after_request l d (device_with d place (interface_after_call tdi call) d.used)
    ≡ device_with d place (interface_if_called (carries (by_loss l 1 (unbound_as x line r)) 1) call tdi) (d.used + 0)
unbind_device x line d place tdi call None (Ok done) same = same_device d place _ _ _ _ refl (no_more d.used)
unbind_device x line d place tdi call None (Err code) same = same_device d place _ _ _ _ refl (no_more d.used)
unbind_device x line d place tdi call (Some Request) r same = left_device d place tdi _ false same refl refl
unbind_device x line d place tdi call (Some Reply) r same = same_device d place _ _ _ _ refl (no_more d.used)

module _ (x : Site) (draw drawn portion place : ℕ) (said : StreamSaid) (ps : PeersRead) (loss : Option Loss)
    (d : DeviceTdis) (tdi : DeviceTdi) (m : Managed) (read : Read) (host : StreamStatus) (peer : PeerStream)
    (same : slice_set d.interfaces place tdi ≡ d.interfaces) where
  abbrev standing_of : Seen → AskedState
  standing_of seen = stands x said ps (next_nonce d) tdi (managed_as_seen seen m) host draw drawn

  abbrev at_place : NamedTdi
  at_place = record { place = place; tdi = tdi }

  carried_out : (seen : Seen) → IsKey (nonce_of seen) → Comes x (standing_of seen) place (op.Unbind peer) loss d
      (due_unless_lost loss 1 (unbound_as x peer.line (unbind_answer tdi peer.id)))
      (stated_alone (step.Unbind peer) portion drawn said loss (host_of x draw seen m) d at_place)
  carried_out seen key =
      let l = lost_message loss 1 in
      let r = unbind_answer tdi peer.id in
      subst (λ w. Comes x (standing_of seen) place (op.Unbind peer) loss d w
      (stated_alone (step.Unbind peer) portion drawn said loss (host_of x draw seen m) d at_place))
      (sym (once_lost loss (unbound_as x peer.line r)))
      (record {
        verdict = unbind_verdict x peer.line loss l r refl;
        device = unbind_device x peer.line d place tdi (UnbindStream peer.id) l r same;
        managed = managed_of x draw seen _ (told_seen seen m) key;
      })

  not_begun : (seen : Seen) (due : Verdict) (r : InterfaceRefusal) → IsKey (nonce_of seen) → carries due 1 ≡ false
      → outcome_verdict x.number loss [] (outcome.Refused r) ≡ Some due
      → Comes x (standing_of seen) place (op.Unbind peer) loss d due (refused_walk r (host_of x draw seen m) read d)
  not_begun seen due r key none is =
      quiet x (standing_of seen) place (op.Unbind peer) loss d due _ _ _ same
      (ap (λ b. interface_if_called b (UnbindStream peer.id) tdi) none) refl refl
      (managed_of x draw seen _ (told_seen seen m) key) is

  pub unbind_comes : (seen : Seen) → IsKey (nonce_of seen) → Comes x (standing_of seen) place (op.Unbind peer) loss d
      (unbind_due x (standing_of seen) peer.line peer.id loss)
      (begun_walk (report_refusal seen) (host_of x draw seen m) read d
      (stated_alone (step.Unbind peer) portion drawn said loss (host_of x draw seen m) d at_place))
  unbind_comes (IsLocked nonce reported) key = carried_out (IsLocked nonce reported) key
  unbind_comes (IsRunning floor) key = carried_out (IsRunning floor) key
  unbind_comes IsUnlocked key = not_begun IsUnlocked _ _ key refl refl
  unbind_comes IsDoubt key = not_begun IsDoubt _ _ key refl refl
  unbind_comes IsBroken key = not_begun IsBroken _ _ key refl refl
