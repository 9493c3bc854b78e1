-- A history whose lines, with those of the packets that it sealed, are read from the text of events is the one that is
-- due; and texts of events and of a history by the lines of verdicts alone.
use Rattle.std.proofs.Common.{◌≡◌, ℕ, ◌+◌, ◌<◌, ◌^◌, List, [], ◌∷◌, ◌++◌, Bool, true, false, length, refl, ap, sym, ◌∙◌}
use Rattle.std.proofs.Common.{subst, arith, append_assoc, length-append}
use Rattle.std.specs.List.{AllByRecursion}
use Rattle.std.proofs.lemmas.List.{append-nil, append_cancel_left}
use Rattle.ide_types.specs.declared.plan.Plan.{Plan}
use Rattle.ide_types.specs.Fits.{FitsPlan}
use Rattle.script_events.specs.declared.event.Event.{Event}
use Rattle.script_events.specs.Spells.{IsAllowed}
use Rattle.event_verdicts.specs.declared.verdict.Verdict.{Verdict}
use Rattle.event_verdicts.proofs.Spellings.{lines_apart}
use Rattle.spec_keys.specs.History.{History}
use Rattle.spec_links.specs.Due.{due}
use Rattle.spec_links.specs.Cause.{CauseLaw}
use Rattle.law_text.specs.Runs.{history_with_event, history_on, text_on}
use Rattle.law_text.specs.Telling.{events_told, lines_told, VerdictsFit, AreAllowed}
use Rattle.law_text.specs.Statements.{DueFits}
use Rattle.law_text.proofs.Fitting.{due_fits}
use Rattle.law_text.proofs.Reading.{length-events}
use Rattle.file_runs.specs.Gain.{Text}
use Rattle.script_runs.specs.Packets.{packets_text, sealed_lines}
use Rattle.script_runs.specs.Texts.{texts_on, texts_told}
use Rattle.script_runs.specs.Works.{EventText, verdict_line}

-- ---- the lines of verdicts alone

pub lines_of_history : (plan : Plan) (h : History) → texts_told verdict_line plan h ≡ lines_told plan h
lines_of_history plan [] = refl
lines_of_history plan (x ∷ h) = ap (λ (t : Text). t ++ verdict_line plan h x) (lines_of_history plan h)

-- ---- the texts of the history that is due

pub due_texts : (text : EventText) (plan : Plan) (h : History) (es : List Event)
    → texts_told text plan (history_on plan h es) ≡ texts_told text plan h ++ texts_on text plan h es
due_texts text plan h [] = sym (append-nil (texts_told text plan h))
due_texts text plan h (e ∷ es) =
    due_texts text plan (history_with_event plan h e) es
    ∙ append_assoc (texts_told text plan h) (text plan h (e, due plan h e))
    (texts_on text plan (history_with_event plan h e) es)

-- ---- with the lines of packets

-- the events before one, and that one
allowed_behind : (es : List Event) (e : Event) (later : List Event) → AllByRecursion IsAllowed (es ++ e ∷ later)
    → IsAllowed e
allowed_behind [] e later each = each.0
allowed_behind (d ∷ es) e later each = allowed_behind es e later each.1

-- each verdict is the one that is due, and what is left is the text of the later events
record Tells (plan : Plan) (h : History) (later : List Event) (rest last : Text) : Type 0 where
  cause : CauseLaw plan h
  left : rest ≡ texts_on packets_text plan h later ++ last

-- the packets of two equal verdicts have the same lines
packets_left : (plan : Plan) (h : History) (e : Event) (v w : Verdict) (rest after : Text) → v ≡ w
    → sealed_lines plan ((e, v) ∷ h) v ++ rest ≡ sealed_lines plan ((e, w) ∷ h) w ++ after → rest ≡ after
packets_left plan h e v w rest after same lines =
    append_cancel_left (sealed_lines plan ((e, w) ∷ h) w) rest after
    (ap (λ (x : Verdict). sealed_lines plan ((e, x) ∷ h) x ++ rest) (sym same) ∙ lines)

one_more : (plan : Plan) (h : History) (e : Event) (v : Verdict) (later : List Event) (rest last : Text) → v
    ≡ due plan h e → rest ≡ texts_on packets_text plan (history_with_event plan h e) later ++ last → CauseLaw plan h
    → Tells plan ((e, v) ∷ h) later rest last
one_more plan h e v later rest last same left cause = record {
  cause = (same, cause);
  left = left ∙ ap (λ (w : Verdict). texts_on packets_text plan ((e, w) ∷ h) later ++ last) (sym same);
}

tells : (plan : Plan) → FitsPlan plan → (h : History) (later : List Event) (rest last : Text)
    → AreAllowed (events_told h ++ later) → VerdictsFit plan h
    → texts_told packets_text plan h ++ rest ≡ texts_on packets_text plan [] (events_told h ++ later) ++ last
    → Tells plan h later rest last
tells plan plan_fits [] later rest last events fits same = record { cause = tt; left = same }
tells plan plan_fits ((e, v) ∷ h) later rest last events fits same =
    let line = verdict_line plan h (e, v) in
    let packets = sealed_lines plan ((e, v) ∷ h) v in
    let order : (events_told h ++ e ∷ []) ++ later ≡ events_told h
    ++ (e ∷ later) = append_assoc (events_told h) (e ∷ []) later in
    let all = subst AreAllowed order events in
    let text = sym (append_assoc (texts_told packets_text plan h) (line ++ packets) rest) ∙
    (same ∙ ap (λ (es : List Event). texts_on packets_text plan [] es ++ last) order) in
    let before = tells plan plan_fits h (e ∷ later) ((line ++ packets) ++ rest) last all fits.1 text in
    let few : length h < 2 ^ 28 = omega (arith, all.few, length-append (events_told h) (e ∷ later), length-events h) in
    let w = due plan h e in
    let due_line = verdict_line plan h (e, w) in
    let due_packets = sealed_lines plan ((e, w) ∷ h) w in
    let after = texts_on packets_text plan (history_with_event plan h e) later in
    let lines = sym (append_assoc line packets rest) ∙ before.left
    ∙ append_assoc (due_line ++ due_packets) after last ∙ append_assoc due_line due_packets (after ++ last) in
    let number : length h + 1 < 2 ^ 64 = omega (arith, few) in
    let apart = lines_apart plan plan_fits (length h + 1) (length h + 1) v w (packets ++ rest)
    (due_packets ++ (after ++ last)) number number fits.0
    (due_fits plan plan_fits h before.cause few e (allowed_behind (events_told h) e later all.each)) lines in
    one_more plan h e v later rest last apart.1
    (packets_left plan h e v w rest (after ++ last) apart.1 apart.2) before.cause

pub packets_tell : (plan : Plan) → FitsPlan plan → (h : History) (later : List Event) (rest last : Text)
    → AreAllowed (events_told h ++ later) → VerdictsFit plan h
    → texts_told packets_text plan h ++ rest ≡ texts_on packets_text plan [] (events_told h ++ later) ++ last
    → CauseLaw plan h
packets_tell plan plan_fits h later rest last events fits same =
    (tells plan plan_fits h later rest last events fits same).cause
