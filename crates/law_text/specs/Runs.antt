-- The history of a list of events, its text and its totals.
use Rattle.std.specs.Prelude.{ℕ, ◌+◌, Bool, true, false, List, [], ◌∷◌, ◌++◌, length, count_by, sum_by}
use Rattle.ide_types.specs.declared.plan.Plan.{Plan}
use Rattle.script_events.specs.declared.event.Event.{Event}
use Rattle.event_verdicts.specs.declared.verdict.Verdict.{Verdict}
use Rattle.event_verdicts.specs.declared.verdict.Verdict.TheVariants.{Sealed, Fail, Accepted}
use Rattle.event_verdicts.specs.declared.verdict.Effect.{Effect}
use Rattle.event_verdicts.specs.declared.verdict.Effect.TheVariants.{Blocked}
use Rattle.event_verdicts.specs.declared.verdict.Totals.{Totals}
use Rattle.event_verdicts.specs.Lines.{line_of}
use Rattle.event_verdicts.specs.Shown.{verdict_by_ports}
use Rattle.spec_keys.specs.History.{History}
use Rattle.spec_links.specs.Due.{due}

-- a history with one more event and the verdict that is due
abbrev pub history_with_event : Plan → History → Event → History
history_with_event plan h event = (event, due plan h event) ∷ h

-- the history of events in order, each with the verdict that is due
abbrev pub history_on : Plan → History → List Event → History
history_on plan h [] = h
history_on plan h (event ∷ events) = history_on plan (history_with_event plan h event) events

-- the verdict lines of events in order, numbered on
abbrev pub text_on : Plan → History → List Event → List ℕ
text_on plan h [] = []
text_on plan h (event ∷ events) = line_of (length h + 1) (verdict_by_ports plan.peers (due plan h event))
    ++ text_on plan (history_with_event plan h event) events

-- ---- totals

abbrev pub sealed_count : Verdict → ℕ
sealed_count (Sealed packets) = length packets
sealed_count _ = 0

abbrev pub accepted_in : Verdict → ℕ
accepted_in (Accepted port unit effects) = length effects
accepted_in _ = 0

abbrev pub failed_in : Verdict → ℕ
failed_in (Fail port stream sub cause) = 1
failed_in _ = 0

abbrev pub is_blocked : Effect → Bool
is_blocked (Blocked cause) = true
is_blocked _ = false

abbrev pub blocked_in : Verdict → ℕ
blocked_in (Accepted port unit effects) = count_by is_blocked effects
blocked_in _ = 0

-- packets sealed, packets of accepted units, fail verdicts and blocked effects
abbrev pub totals_of : History → Totals
totals_of h = record {
  sealed = sum_by (λ (x : Event × Verdict). sealed_count x.1) h;
  accepted = sum_by (λ (x : Event × Verdict). accepted_in x.1) h;
  failed = sum_by (λ (x : Event × Verdict). failed_in x.1) h;
  blocked = sum_by (λ (x : Event × Verdict). blocked_in x.1) h;
}
