-- A line of a script that is too long gives nothing, and what is written for a line is whole lines: if all events are
-- run, and if their packets are shown.
use Rattle.std.specs.Prelude.{ℕ, ◌≡◌, nat_lt, true, List, [], ◌∷◌, ◌++◌, length, Option, Some, None, Result, Ok, Err}
use Rattle.std.specs.Prelude.{◌+◌, IfOk, codes, refl}
use Rattle.std.specs.Fmt.{decimal}
use Rattle.std.proofs.Common.{inl, inr, ap, ◌∙◌, sym, subst, append_assoc}
use Rattle.std.proofs.lemmas.List.{append-nil}
use Rattle.ide_types.specs.Names.{joined_words}
use Rattle.ide_types.specs.declared.plan.Plan.{Plan}
use Rattle.spec_keys.specs.History.{History}
use Rattle.spec_links.specs.Due.{due}
use Rattle.event_verdicts.specs.Lines.{bytes_word, verdict_words}
use Rattle.event_verdicts.specs.Shown.{verdict_by_ports}
use Rattle.history_events.specs.{event_of}
use Rattle.script_events.specs.declared.event.Event.{Event}
use Rattle.script_events.specs.declared.script.ScriptEvent.{ScriptEvent}
use Rattle.event_verdicts.specs.declared.verdict.SealedPacket.{SealedPacket}
use Rattle.event_verdicts.specs.declared.verdict.Verdict.{Verdict}
use Rattle.event_verdicts.specs.declared.verdict.Verdict.TheVariants as v
use Rattle.script_events.specs.declared.fault.LineFault.{LineFault}
use Rattle.script_events.specs.declared.fault.LineFault.TheVariants.{TooLong}
use Rattle.script_events.specs.Words.{line_limit}
use Rattle.script_events.specs.Parse.{line_meaning}
use Rattle.file_runs.specs.Gain.{Text}
use Rattle.file_runs.specs.Outcome.{IsWholeLines}
use Rattle.script_runs.specs.Packets.{bytes_numbered, packet_line_if_there, packet_lines, packets_line, packets_text}
use Rattle.script_runs.specs.Packets.{sealed_lines}
use Rattle.script_runs.specs.Works.{ScriptPast, by_meaning, meaning_ran, ran_line, verdict_line}

-- words that are joined end with a line feed
ends_line : (words : List Text) → (lines : Text) × (joined_words words ≡ lines ++ 10 ∷ [])
ends_line [] = ([], refl)
ends_line (w ∷ words) =
    let later = ends_line words in (
      32 ∷ (w ++ later.0),
      ap (λ (t : Text). 32 ∷ (w ++ t)) later.1 ∙ ap (λ (t : Text). 32 ∷ t)
          (sym (append_assoc w later.0 (10 ∷ []))),
    )

pub whole_line : (front : Text) (words : List Text) → IsWholeLines (front ++ joined_words words)
whole_line front words =
    let later = ends_line words in
    inr (front ++ later.0, ap (λ (t : Text). front ++ t) later.1 ∙ sym (append_assoc front later.0 (10 ∷ [])))

pub long_event : (r : ScriptPast) (n : ℕ) (line : Text) → nat_lt line_limit (length line) ≡ true
    → ran_line r n line ≡ Err TooLong
long_event r n line long = rw long refl

event_lines : (r : ScriptPast) (m : Result (Option ScriptEvent) LineFault)
    → IfOk (by_meaning r m) (λ came. IsWholeLines came.1)
event_lines r (Err fault) = tt
event_lines r (Ok None) = inl refl
event_lines r (Ok (Some e)) = whole_line _ _

pub whole_event : (r : ScriptPast) (n : ℕ) (line : Text) → IfOk (ran_line r n line) (λ came. IsWholeLines came.1)
whole_event r n line = event_lines r (line_meaning line)

-- ---- events with their packets

-- whole lines before whole lines
pub both_whole : (a b : Text) → IsWholeLines a → IsWholeLines b → IsWholeLines (a ++ b)
both_whole a b first (inl none) = subst (λ (t : Text). IsWholeLines (a ++ t)) (sym none)
    (subst IsWholeLines (sym (append-nil a)) first)
both_whole a b first (inr (lines, is)) =
    inr (a ++ lines, ap (λ (t : Text). a ++ t) is ∙ sym (append_assoc a lines (10 ∷ [])))

one_packet_whole : (n : ℕ) (bytes : Option Text) → IsWholeLines (packet_line_if_there n bytes)
one_packet_whole n None = inl refl
one_packet_whole n (Some bytes) = whole_line (decimal n) (codes "bytes" ∷ bytes_word bytes ∷ [])

packets_whole : (plan : Plan) (h : History) (ds : List SealedPacket) → IsWholeLines (packet_lines plan h ds)
packets_whole plan h [] = inl refl
packets_whole plan h (d ∷ ds) =
    both_whole (packet_line_if_there d.number (bytes_numbered plan h d.number)) (packet_lines plan h ds)
    (one_packet_whole d.number (bytes_numbered plan h d.number)) (packets_whole plan h ds)

sealed_whole : (plan : Plan) (h : History) (w : Verdict) → IsWholeLines (sealed_lines plan h w)
sealed_whole plan h (v.Sealed ds) = packets_whole plan h ds
sealed_whole plan h w = inl refl

packets_text_whole : (plan : Plan) (h : History) (x : Event × Verdict) → IsWholeLines (packets_text plan h x)
packets_text_whole plan h x =
    both_whole (verdict_line plan h x) (sealed_lines plan (x ∷ h) x.1)
    (whole_line (decimal (length h + 1)) (verdict_words (verdict_by_ports plan.peers x.1)))
    (sealed_whole plan (x ∷ h) x.1)

pub long_packets : (r : ScriptPast) (n : ℕ) (line : Text) → nat_lt line_limit (length line) ≡ true
    → packets_line r n line ≡ Err TooLong
long_packets r n line long = rw long refl

meaning_packets : (r : ScriptPast) (m : Result (Option ScriptEvent) LineFault)
    → IfOk (meaning_ran packets_text r m) (λ came. IsWholeLines came.1)
meaning_packets r (Err fault) = tt
meaning_packets r (Ok None) = inl refl
meaning_packets r (Ok (Some e)) =
    let x = event_of r.plan e in packets_text_whole r.plan r.history (x, due r.plan r.history x)

pub whole_packets : (r : ScriptPast) (n : ℕ) (line : Text)
    → IfOk (packets_line r n line) (λ came. IsWholeLines came.1)
whole_packets r n line = meaning_packets r (line_meaning line)
