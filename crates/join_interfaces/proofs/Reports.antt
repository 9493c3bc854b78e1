-- A report: what is refused before its first portion, by the device, or is lost, changes nothing; a report that is read
-- whole is the one that the lock kept.
use Rattle.std.proofs.Common.{◌≡◌, ℕ, ◌+◌, true, false, List, length, Option, Some, None, refl, ap, sym, subst, ◌∙◌}
use Rattle.std.specs.Prelude.{slice_set}
use Rattle.std.specs.Option.{option_map}
use Rattle.std.proofs.lemmas.Option.{none-some, same_Some}
use Rattle.ide_types.specs.declared.status.StreamStatus.{StreamStatus}
use Rattle.ide_types.specs.declared.plan.Plan.{Plan}
use Rattle.ide_types.specs.Fits.{IsKey}
use Rattle.ide_types.specs.declared.verdict.InterfaceVerdict.TheVariants as iv
use Rattle.script_events.specs.declared.event.Loss.{Loss}
use Rattle.script_events.specs.declared.event.Lost.{Lost}
use Rattle.script_events.specs.declared.event.Lost.TheVariants.{Request, Reply}
use Rattle.event_verdicts.specs.declared.verdict.Verdict.{Verdict}
use Rattle.event_verdicts.specs.declared.verdict.Verdict.TheVariants as v
use Rattle.spec_keys.specs.Due.{lost_message, lost_at}
use Rattle.spec_interfaces.specs.Sites.{Site}
use Rattle.spec_interfaces.specs.Views.{Managed, on_report}
use Rattle.spec_interfaces.specs.Due.{AskedState, report_verdict, report_due, portions}
use Rattle.interface_state.specs.Kept.{kept_report}
use Rattle.interface_state.specs.Machine.{DeviceTdi, lock_of, portion_of}
use Rattle.interface_host.specs.declared.operation.InterfaceOperation.TheVariants as op
use Rattle.interface_host.specs.declared.operation.InterfaceOutcome.TheVariants as outcome
use Rattle.interface_host.specs.declared.operation.InterfaceRefusal.{InterfaceRefusal}
use Rattle.interface_host.specs.declared.step.Step.TheVariants as step
use Rattle.interface_host.specs.Judging.{Refused}
use Rattle.interface_host.specs.Steps.{Read}
use Rattle.interface_host.specs.Managers.{nothing_read, report_after_reply}
use Rattle.interface_host.specs.Views.{Seen, IsUnlocked, IsLocked, IsRunning, IsDoubt, IsBroken, nonce_of}
use Rattle.interface_host.specs.Views.{reported_view, report_outcome, report_refusal, taken_interface}
use Rattle.interface_ends.specs.declared.said.StreamSaid.{StreamSaid}
use Rattle.interface_ends.specs.Replies.{DeviceTdis, NamedTdi, next_nonce}
use Rattle.interface_ends.specs.Exchanges.{portion_due}
use Rattle.interface_ends.specs.Operations.{WalkedInterface, judgment_if_carried, interfaces_after_request}
use Rattle.interface_ends.specs.Operations.{stated_alone}
use Rattle.interface_ends.specs.Reports.{lost_exchange_within, read_outcome, read_interface, ReportIsRead}
use Rattle.join_interfaces.specs.Verdicts.{outcome_verdict}
use Rattle.join_interfaces.specs.Faces.{SeenAs, IsManaged}
use Rattle.join_interfaces.proofs.Losses.{by_loss, by_number, once_lost, number_lost, cut}
use Rattle.join_interfaces.proofs.Comes.{PeersRead, host_of, managed_as_seen, told_seen, managed_of, stands}
use Rattle.join_interfaces.proofs.Comes.{device_with, Comes}
use Rattle.join_interfaces.proofs.Comes.{begun_walk, refused_walk, same_device, left_device, no_more, quiet}

-- ---- the device is in no lock

none_verdict : (x : Site) (loss : Option Loss) (bytes : List ℕ) (l : Option Lost) → lost_message loss 1 ≡ l
    → outcome_verdict x.number loss bytes (report_outcome 1 (judgment_if_carried l (Refused 4)))
    ≡ Some (by_loss l 1 (v.RefusedDevice 1 4))
none_verdict x loss bytes None is = refl
none_verdict x loss bytes (Some k) is = cut loss 1 k is

none_managed : (x : Site) (draw draws : ℕ) (seen : Seen) (m : Managed) (l : Option Lost) → IsKey (nonce_of seen)
    → IsManaged draw x (taken_interface step.Report draws (judgment_if_carried l (Refused 4)) (host_of x draw seen m))
    (on_report (managed_as_seen seen m) (by_loss l 1 (v.RefusedDevice 1 4)))
none_managed x draw draws seen m None key = managed_of x draw seen _ (told_seen seen m) key
none_managed x draw draws seen m (Some Request) key = managed_of x draw seen _ (told_seen seen m) key
none_managed x draw draws seen m (Some Reply) key = managed_of x draw seen _ (told_seen seen m) key

none_device : (d : DeviceTdis) (place : ℕ) (tdi : DeviceTdi) (l : Option Lost)
    → slice_set d.interfaces place tdi ≡ d.interfaces
    → interfaces_after_request l d (device_with d place tdi d.used) ≡ device_with d place tdi (d.used + 0)
none_device d place tdi None same = same_device d place _ _ _ _ refl (no_more d.used)
none_device d place tdi (Some Request) same = left_device d place tdi _ false same refl refl
none_device d place tdi (Some Reply) same = same_device d place _ _ _ _ refl (no_more d.used)

-- ---- the device is in a lock

-- what the manager keeps
seen_reported : (seen : Seen) (m : Managed)
    → SeenAs (reported_view seen) (record (managed_as_seen seen m) { reported = true })
seen_reported IsUnlocked m = refl
seen_reported (IsLocked nonce is_reported) m = (refl, refl, refl)
seen_reported (IsRunning floor) m = (refl, refl)
seen_reported IsDoubt m = refl
seen_reported IsBroken m = refl

key_reported : (seen : Seen) → IsKey (nonce_of seen) → IsKey (nonce_of (reported_view seen))
key_reported IsUnlocked key = key
key_reported (IsLocked nonce is_reported) key = key
key_reported (IsRunning floor) key = key
key_reported IsDoubt key = key
key_reported IsBroken key = key

lost_kept : (l : Option Lost) (n : ℕ) (m : Managed) (due : Verdict) → Some due ≡ option_map (λ k. lost_at k n) l
    → on_report m due ≡ m
lost_kept None n m due is = absurd (none-some due (sym is))
lost_kept (Some Request) n m due is = subst (λ w. on_report m w ≡ m) (same_Some (v.LostRequest n) due (sym is)) refl
lost_kept (Some Reply) n m due is = subst (λ w. on_report m w ≡ m) (same_Some (v.LostReply n) due (sym is)) refl

read_verdict : (x : Site) (loss : Option Loss) (report bytes : List ℕ) (lost : Option ℕ)
    → (lost ≡ None → bytes ≡ report) → outcome_verdict x.number loss bytes (read_outcome lost)
    ≡ by_number loss lost (v.Interface (iv.Reported x.number report))
read_verdict x loss report bytes None is = ap (λ k. Some (v.Interface (iv.Reported x.number k))) (is refl)
read_verdict x loss report bytes (Some n) is = refl

read_managed : (x : Site) (draw : ℕ) (seen : Seen) (m : Managed) (loss : Option Loss) (report : List ℕ)
    (lost : Option ℕ) (due : Verdict) → IsKey (nonce_of seen)
    → Some due ≡ by_number loss lost (v.Interface (iv.Reported x.number report))
    → IsManaged draw x (read_interface lost (host_of x draw seen m)) (on_report (managed_as_seen seen m) due)
read_managed x draw seen m loss report None due key is =
    subst (λ w. IsManaged draw x (read_interface None (host_of x draw seen m)) (on_report (managed_as_seen seen m) w))
    (same_Some (v.Interface (iv.Reported x.number report)) due (sym is))
    (managed_of x draw (reported_view seen) _ (seen_reported seen m) (key_reported seen key))
read_managed x draw seen m loss report (Some n) due key is =
    subst (λ k. IsManaged draw x (host_of x draw seen m) k)
    (sym (lost_kept (lost_message loss n) n (managed_as_seen seen m) due is))
    (managed_of x draw seen _ (told_seen seen m) key)

-- ---- the operation

module _ (x : Site) (plan : Plan) (draw drawn portion place : ℕ) (said : StreamSaid) (ps : PeersRead)
    (loss : Option Loss) (d : DeviceTdis)
    (tdi : DeviceTdi) (m : Managed) (read : Read) where
  abbrev state_asked : Seen → StreamStatus → AskedState
  state_asked seen host = stands x said ps (next_nonce d) tdi (managed_as_seen seen m) host draw drawn

  abbrev there : NamedTdi
  there = record { place = place; tdi = tdi }

  -- what the exchanges give, by the report that the lock kept
  abbrev pub IsWalk : Seen → Option (List ℕ) → WalkedInterface → Type 0
  IsWalk seen None w = w ≡ stated_alone step.Report portion drawn said loss (host_of x draw seen m) d there
  IsWalk seen (Some report) w = ReportIsRead (lost_exchange_within loss 1 (portions plan.portion (length report)))
      report (host_of x draw seen m) d w

  -- no report: the device answers so
  unread : (seen : Seen) (host : StreamStatus) → slice_set d.interfaces place tdi ≡ d.interfaces
      → IsKey (nonce_of seen) → option_map (kept_report tdi.plan) (lock_of tdi.state) ≡ None
      → Comes x (state_asked seen host) place op.Report loss d (by_loss (lost_message loss 1) 1 (v.RefusedDevice 1 4))
      (stated_alone step.Report portion drawn said loss (host_of x draw seen m) d there)
  unread seen host same key is =
      let l = lost_message loss 1 in
      let judged : portion_due (portion_of (option_map (kept_report tdi.plan) (lock_of tdi.state)) 0 portion)
      ≡ Refused 4 = ap (λ k. portion_due (portion_of k 0 portion)) is in
      record {
        verdict = ap (λ j. outcome_verdict x.number loss
            (report_after_reply (judgment_if_carried l j) nothing_read).bytes
            (report_outcome 1 (judgment_if_carried l j))) judged ∙ none_verdict x loss _ l refl;
        device = none_device d place tdi l same;
        managed = subst (λ j. IsManaged draw x
            (taken_interface step.Report drawn (judgment_if_carried l j) (host_of x draw seen m))
            (on_report (managed_as_seen seen m) (by_loss l 1 (v.RefusedDevice 1 4)))) (sym judged)
            (none_managed x draw drawn seen m l key);
      }

  walked : (seen : Seen) (host : StreamStatus) (o : Option (List ℕ)) (w : WalkedInterface)
      → slice_set d.interfaces place tdi ≡ d.interfaces → IsKey (nonce_of seen)
      → option_map (kept_report tdi.plan) (lock_of tdi.state) ≡ o → IsWalk seen o w
      → Comes x (state_asked seen host) place op.Report loss d (report_verdict plan x loss o) w
  walked seen host None w same key is walk =
      subst (λ k. Comes x (state_asked seen host) place op.Report loss d (report_verdict plan x loss None) k) (sym walk)
      (subst (λ k. Comes x (state_asked seen host) place op.Report loss d k
      (stated_alone step.Report portion drawn said loss (host_of x draw seen m) d there))
      (sym (once_lost loss (v.RefusedDevice 1 4))) (unread seen host same key is))
  walked seen host (Some report) w same key is walk =
      let lost = lost_exchange_within loss 1 (portions plan.portion (length report)) in
      let done = v.Interface (iv.Reported x.number report) in
      let due = report_verdict plan x loss (Some report) in
      let due_is : Some due ≡ by_number loss lost done
      = number_lost loss (portions plan.portion (length report)) done in
      record {
        verdict = ap (outcome_verdict x.number loss w.read.bytes) walk.outcome_is
            ∙ read_verdict x loss report w.read.bytes lost walk.report_is ∙ sym due_is;
        device = walk.device_is ∙ left_device d place tdi _ false same refl refl;
        managed = subst (λ j. IsManaged draw x j (on_report (managed_as_seen seen m) due))
            (sym walk.interface_is) (read_managed x draw seen m loss report lost due key due_is);
      }

  refused : (seen : Seen) (host : StreamStatus) (due : Verdict) (r : InterfaceRefusal)
      → slice_set d.interfaces place tdi ≡ d.interfaces → IsKey (nonce_of seen)
      → on_report (managed_as_seen seen m) due ≡ managed_as_seen seen m
      → outcome_verdict x.number loss read.bytes (outcome.Refused r) ≡ Some due
      → Comes x (state_asked seen host) place op.Report loss d due (refused_walk r (host_of x draw seen m) read d)
  refused seen host due r same key kept is = quiet x (state_asked seen host) place op.Report loss d due _ _ _ same refl
      refl kept (managed_of x draw seen _ (told_seen seen m) key) is

  pub report_comes : (seen : Seen) (host : StreamStatus) (w : WalkedInterface) → slice_set d.interfaces place tdi
      ≡ d.interfaces
      → IsKey (nonce_of seen) → tdi.plan ≡ x.plan
      → IsWalk seen (option_map (kept_report tdi.plan) (lock_of tdi.state)) w
      → Comes x (state_asked seen host) place op.Report loss d (report_due plan x (state_asked seen host) loss)
      (begun_walk (report_refusal seen) (host_of x draw seen m) read d w)
  report_comes IsUnlocked host w same key layout walk = refused IsUnlocked host _ _ same key refl refl
  report_comes (IsLocked nonce is_reported) host w same key layout walk =
      subst (λ p. Comes x (state_asked (IsLocked nonce is_reported) host) place op.Report loss d
      (report_verdict plan x loss (option_map (kept_report p) (lock_of tdi.state))) w) layout
      (walked (IsLocked nonce is_reported) host _ w same key refl walk)
  report_comes (IsRunning floor) host w same key layout walk =
      subst (λ p. Comes x (state_asked (IsRunning floor) host) place op.Report loss d
      (report_verdict plan x loss (option_map (kept_report p) (lock_of tdi.state))) w) layout
      (walked (IsRunning floor) host _ w same key refl walk)
  report_comes IsDoubt host w same key layout walk = refused IsDoubt host _ _ same key refl refl
  report_comes IsBroken host w same key layout walk = refused IsBroken host _ _ same key refl refl
