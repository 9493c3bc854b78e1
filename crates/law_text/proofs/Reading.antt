-- A history that is read from the text of events is the one that is due.
use Rattle.std.proofs.Common.{◌≡◌, ℕ, ◌+◌, ◌<◌, ◌^◌, List, [], ◌∷◌, ◌++◌, length, refl, ap, sym, ◌∙◌, subst, arith}
use Rattle.std.proofs.Common.{append_assoc, length-append}
use Rattle.std.specs.List.{AllByRecursion}
use Rattle.std.proofs.lemmas.List.{append-nil}
use Rattle.ide_types.specs.declared.plan.Plan.{Plan}
use Rattle.ide_types.specs.Fits.{FitsPlan}
use Rattle.script_events.specs.declared.event.Event.{Event}
use Rattle.script_events.specs.Spells.{IsAllowed}
use Rattle.event_verdicts.specs.declared.verdict.Verdict.{Verdict}
use Rattle.event_verdicts.specs.Lines.{line_of}
use Rattle.event_verdicts.specs.Shown.{verdict_by_ports}
use Rattle.event_verdicts.proofs.Spellings.{lines_apart}
use Rattle.spec_keys.specs.History.{History}
use Rattle.spec_links.specs.Due.{due}
use Rattle.spec_links.specs.Cause.{CauseLaw}
use Rattle.law_text.specs.Runs.{history_with_event, history_on, text_on}
use Rattle.law_text.specs.Telling.{events_told, lines_told, VerdictsFit, AreAllowed}
use Rattle.law_text.specs.Statements.{LinesTell, AreTold}
use Rattle.law_text.proofs.Fitting.{due_fits}

-- the events before one, and that one
allowed_behind : (es : List Event) (e : Event) (later : List Event) → AllByRecursion IsAllowed (es ++ e ∷ later)
    → IsAllowed e
allowed_behind [] e later each = each.0
allowed_behind (d ∷ es) e later each = allowed_behind es e later each.1

pub length-events : (h : History) → length (events_told h) ≡ length h
length-events [] = refl
length-events ((e, v) ∷ h) = omega (arith, length-append (events_told h) (e ∷ []), length-events h)

-- each verdict is the one that is due, and what is left is the text of the later events
record Tells (plan : Plan) (h : History) (later : List Event) (rest last : List ℕ) : Type 0 where
  cause : CauseLaw plan h
  left : rest ≡ text_on plan h later ++ last

one_more : (plan : Plan) (h : History) (e : Event) (v : Verdict) (later : List Event) (rest last : List ℕ) → v
    ≡ due plan h e → rest ≡ text_on plan (history_with_event plan h e) later ++ last → CauseLaw plan h
    → Tells plan ((e, v) ∷ h) later rest last
one_more plan h e v later rest last same left cause = record {
  cause = (same, cause);
  left = left ∙ ap (λ (w : Verdict). text_on plan ((e, w) ∷ h) later ++ last) (sym same);
}

tells : (plan : Plan) → FitsPlan plan → (h : History) (later : List Event) (rest last : List ℕ)
    → AreAllowed (events_told h ++ later) → VerdictsFit plan h
    → lines_told plan h ++ rest ≡ text_on plan [] (events_told h ++ later) ++ last → Tells plan h later rest last
tells plan plan_fits [] later rest last events fits same = record { cause = tt; left = same }
tells plan plan_fits ((e, v) ∷ h) later rest last events fits same =
    let line = line_of (length h + 1) (verdict_by_ports plan.peers v) in
    let order : (events_told h ++ e ∷ []) ++ later ≡ events_told h
    ++ (e ∷ later) = append_assoc (events_told h) (e ∷ []) later in
    let all = subst AreAllowed order events in
    let text = sym (append_assoc (lines_told plan h) line rest) ∙
    (same ∙ ap (λ (es : List Event). text_on plan [] es ++ last) order) in
    let before = tells plan plan_fits h (e ∷ later) (line ++ rest) last all fits.1 text in
    let few : length h < 2 ^ 28 = omega (arith, all.few, length-append (events_told h) (e ∷ later), length-events h) in
    let due_line = line_of (length h + 1) (verdict_by_ports plan.peers (due plan h e)) in
    let lines = before.left ∙ append_assoc due_line (text_on plan (history_with_event plan h e) later) last in
    let number : length h + 1 < 2 ^ 64 = omega (arith, few) in
    let apart = lines_apart plan plan_fits (length h + 1) (length h + 1) v (due plan h e) rest
    (text_on plan (history_with_event plan h e) later ++ last) number number fits.0
    (due_fits plan plan_fits h before.cause few e (allowed_behind (events_told h) e later all.each)) lines in
    one_more plan h e v later rest last apart.1 apart.2 before.cause

pub lines_tell : LinesTell
lines_tell plan plan_fits h later rest last events fits same =
    (tells plan plan_fits h later rest last events fits same).cause

-- ---- the history that is due

due_events : (plan : Plan) (h : History) (es : List Event) → events_told (history_on plan h es) ≡ events_told h ++ es
due_events plan h [] = sym (append-nil (events_told h))
due_events plan h (e ∷ es) = due_events plan (history_with_event plan h e) es ∙ append_assoc (events_told h) (e ∷ []) es

due_lines : (plan : Plan) (h : History) (es : List Event) → lines_told plan (history_on plan h es) ≡ lines_told plan h
    ++ text_on plan h es
due_lines plan h [] = sym (append-nil (lines_told plan h))
due_lines plan h (e ∷ es) = due_lines plan (history_with_event plan h e) es ∙ append_assoc (lines_told plan h)
    (line_of (length h + 1) (verdict_by_ports plan.peers (due plan h e)))
    (text_on plan (history_with_event plan h e) es)

due_verdicts : (plan : Plan) → FitsPlan plan → (h : History) (es : List Event) → CauseLaw plan h → VerdictsFit plan h
    → length h + length es < 2 ^ 28 → AllByRecursion IsAllowed es → VerdictsFit plan (history_on plan h es)
due_verdicts plan plan_fits h [] cause fits few each = fits
due_verdicts plan plan_fits h (e ∷ es) cause fits few each = due_verdicts plan plan_fits (history_with_event plan h e)
    es (refl, cause) (due_fits plan plan_fits h cause (omega (arith, few)) e each.0, fits) (omega (arith, few)) each.1

pub are_told : AreTold
are_told plan plan_fits events allowed = record {
  events_are = due_events plan [] events;
  verdicts_fit = due_verdicts plan plan_fits [] events tt tt (omega (arith, allowed.few)) allowed.each;
  lines_are = due_lines plan [] events;
}
