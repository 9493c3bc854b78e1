-- An outcome that has a verdict is of no bad reply, and a session is lost only if a message is.
use Rattle.std.proofs.Common.{◌≡◌, ℕ, List, Option, Some, None, refl}
use Rattle.std.specs.Prelude.{IsSome}
use Rattle.std.specs.Option.{option_map}
use Rattle.std.proofs.lemmas.Option.{none-some}
use Rattle.script_events.specs.declared.event.Loss.{Loss}
use Rattle.script_events.specs.declared.event.Lost.{Lost}
use Rattle.event_verdicts.specs.declared.verdict.Verdict.{Verdict}
use Rattle.spec_keys.specs.Due.{lost_message, lost_at}
use Rattle.interface_host.specs.declared.operation.InterfaceOutcome.{InterfaceOutcome}
use Rattle.interface_host.specs.declared.operation.InterfaceOutcome.TheVariants as outcome
use Rattle.interface_host.specs.declared.operation.InterfaceRefusal.{InterfaceRefusal}
use Rattle.interface_host.specs.declared.operation.InterfaceRefusal.TheVariants as refusal
use Rattle.join_interfaces.specs.Verdicts.{outcome_verdict, refused_as, NoBadInterfaceReply}

loses : (l : Option Lost) (n : ℕ) (w : Verdict) → option_map (λ k. lost_at k n) l ≡ Some w → IsSome l
loses None n w is = absurd (none-some w is)
loses (Some k) n w is = refl

refused_no_bad_reply : (loss : Option Loss) (r : InterfaceRefusal) (w : Verdict) → refused_as loss r ≡ Some w
    → NoBadInterfaceReply loss (outcome.Refused r)
refused_no_bad_reply loss (refusal.WrongState view) w is = tt
refused_no_bad_reply loss refusal.NotReported w is = tt
refused_no_bad_reply loss (refusal.NotSecure status) w is = tt
refused_no_bad_reply loss (refusal.RefreshFirst draw needed) w is = tt
refused_no_bad_reply loss (refusal.SessionLost n) w is = loses (lost_message loss n) n w is
refused_no_bad_reply loss (refusal.DeviceRefused n code) w is = tt
refused_no_bad_reply loss (refusal.BadReply n) w is = absurd (none-some w is)

pub no_bad_reply : (i : ℕ) (loss : Option Loss) (report : List ℕ) (o : InterfaceOutcome) (w : Verdict)
    → outcome_verdict i loss report o ≡ Some w → NoBadInterfaceReply loss o
no_bad_reply i loss report outcome.Next w is = tt
no_bad_reply i loss report (outcome.Done shown) w is = tt
no_bad_reply i loss report (outcome.Refused r) w is = refused_no_bad_reply loss r w is

pub answered_no_bad_reply : (i : ℕ) (loss : Option Loss) (report : List ℕ) (o : InterfaceOutcome)
    → IsSome (outcome_verdict i loss report o) → NoBadInterfaceReply loss o
answered_no_bad_reply i loss report o some = by (outcome_verdict i loss report o) refl some
  where
    by : (due : Option Verdict) → outcome_verdict i loss report o ≡ due → IsSome due → NoBadInterfaceReply loss o
    by None is some = absurd cc
    by (Some w) is some = no_bad_reply i loss report o w is
