-- A line of a script that is too long gives nothing, and what is written for a line is whole lines: if one event is
-- told, and if the rules of each are.
use Rattle.std.specs.Prelude.{ℕ, ◌≡◌, ◌==◌, ◌+◌, nat_lt, Bool, true, false, List, [], ◌∷◌, ◌++◌, length, Option, Some}
use Rattle.std.specs.Prelude.{None, Result, Ok, Err, IfOk, codes, if◌then◌else◌, refl}
use Rattle.std.specs.Fmt.{decimal}
use Rattle.std.proofs.Common.{inl}
use Rattle.hex.specs.Hex.{encode_lower}
use Rattle.rule_counts.specs.Told.{rules_told}
use Rattle.ide_types.specs.declared.port.PortName.{PortName}
use Rattle.ide_types.specs.declared.sub.SubKind.{SubKind}
use Rattle.ide_types.specs.declared.plan.Plan.{Plan}
use Rattle.told_facts.specs.declared.fact.Answer.{Answer}
use Rattle.told_facts.specs.declared.fact.Fact.{Fact}
use Rattle.told_facts.specs.{fact_word}
use Rattle.told_facts.specs.declared.fact.Fact.TheVariants as fact
use Rattle.told_facts.specs.declared.told.Fate.{Fate}
use Rattle.told_facts.specs.declared.told.Fate.TheVariants as fate
use Rattle.told_facts.specs.Told.{answered_reply, exchange_lines, fact_lines, fate_of, lost_line, message_line}
use Rattle.told_facts.specs.Told.{refusing_reply, reply_line, request_line}
use Rattle.why_facts.specs.{effect_rule_of, rule_of, why_text_of}
use Rattle.why_facts.specs.Lines.{effect_lines, facts_text, rule_line, rules_text}
use Rattle.ide_why.specs.{facts_due}
use Rattle.spec_keys.specs.History.{History}
use Rattle.spec_links.specs.Due.{due}
use Rattle.event_verdicts.specs.Lines.{line_of}
use Rattle.event_verdicts.specs.Shown.{verdict_by_ports}
use Rattle.history_events.specs.{event_of}
use Rattle.script_events.specs.declared.event.Event.{Event}
use Rattle.script_events.specs.declared.script.ScriptEvent.{ScriptEvent}
use Rattle.event_verdicts.specs.declared.verdict.Effect.{Effect}
use Rattle.event_verdicts.specs.declared.verdict.Verdict.{Verdict}
use Rattle.event_verdicts.specs.declared.verdict.Verdict.TheVariants as v
use Rattle.script_events.specs.declared.fault.LineFault.{LineFault}
use Rattle.script_events.specs.declared.fault.LineFault.TheVariants.{TooLong}
use Rattle.script_events.specs.Words.{line_limit}
use Rattle.script_events.specs.Parse.{line_meaning}
use Rattle.file_runs.specs.Gain.{Text}
use Rattle.file_runs.specs.Outcome.{IsWholeLines}
use Rattle.script_runs.specs.LineLaws.{both_whole, whole_line}
use Rattle.ide_runs.specs.Cover.{CoverPast, cover_by_meaning, cover_line, event_rules_line, if_shown}
use Rattle.ide_runs.specs.Why.{WhyPast, event_told, why_by_meaning, why_line, why_past_with}

-- ---- an event that is told

request_whole : (n : ℕ) (bytes : List ℕ) → IsWholeLines (request_line n bytes)
request_whole n bytes = by (length bytes == 0)
  where
    by : (b : Bool) → IsWholeLines (if b then [] else message_line n (codes "request") bytes)
    by true = inl refl
    by false = whole_line [] (codes "exchange" ∷ decimal n ∷ codes "request" ∷ encode_lower bytes ∷ [])

reply_whole : (n : ℕ) (bytes : List ℕ) → IsWholeLines (reply_line n bytes)
reply_whole n bytes = whole_line [] (codes "exchange" ∷ decimal n ∷ codes "reply" ∷ encode_lower bytes ∷ [])

lost_whole : (n : ℕ) (kind : Text) → IsWholeLines (lost_line n kind)
lost_whole n kind = whole_line [] (codes "exchange" ∷ decimal n ∷ codes "lost" ∷ kind ∷ [])

exchange_whole : (w : Verdict) (n : ℕ) (request : List ℕ) (a : Answer) (became : Fate)
    → IsWholeLines (exchange_lines w n request a became)
exchange_whole w n request a fate.NotCome = inl refl
exchange_whole w n request a fate.RequestLost = lost_whole n (codes "request")
exchange_whole w n request a fate.ReplyLost =
    both_whole (request_line n request) (lost_line n (codes "reply")) (request_whole n request)
    (lost_whole n (codes "reply"))
exchange_whole w n request a (fate.Refused code) =
    both_whole (request_line n request) (reply_line n (refusing_reply code a)) (request_whole n request)
    (reply_whole n (refusing_reply code a))
exchange_whole w n request a fate.Answered =
    both_whole (request_line n request) (reply_line n (answered_reply w a)) (request_whole n request)
    (reply_whole n (answered_reply w a))

fact_whole : (w : Verdict) (x : Fact) → IsWholeLines (fact_lines w x)
fact_whole w (fact.Stream x) = whole_line [] (fact_word (fact.Stream x) ∷ [])
fact_whole w (fact.Operation x) = whole_line [] (fact_word (fact.Operation x) ∷ [])
fact_whole w (fact.Interface x) = whole_line [] (fact_word (fact.Interface x) ∷ [])
fact_whole w (fact.Exchange n request a) = exchange_whole w n request a (fate_of w n)

facts_whole : (w : Verdict) (xs : List Fact) → IsWholeLines (facts_text w xs)
facts_whole w [] = inl refl
facts_whole w (x ∷ xs) = both_whole (fact_lines w x) (facts_text w xs) (fact_whole w x) (facts_whole w xs)

rule_whole : (rule : Text) → IsWholeLines (rule_line rule)
rule_whole rule = whole_line [] (codes "rule" ∷ rule ∷ [])

effects_whole : (port : PortName) (sub : SubKind) (es : List Effect) → IsWholeLines (effect_lines port sub es)
effects_whole port sub [] = inl refl
effects_whole port sub (e ∷ es) =
    both_whole (rule_line (effect_rule_of port sub e)) (effect_lines port sub es)
    (rule_whole (effect_rule_of port sub e)) (effects_whole port sub es)

rules_whole : (w : Verdict) → IsWholeLines (rules_text w)
rules_whole (v.Accepted port unit effects) = effects_whole port unit.sub effects
rules_whole w = inl refl

event_whole : (front : Text) (e : Event) (w : Verdict) (xs : List Fact) → IsWholeLines front
    → IsWholeLines (front ++ why_text_of e w xs)
event_whole front e w xs first =
    both_whole front (why_text_of e w xs) first
    (both_whole (rule_line (rule_of e w xs) ++ rules_text w) (facts_text w xs)
    (both_whole (rule_line (rule_of e w xs)) (rules_text w) (rule_whole (rule_of e w xs)) (rules_whole w))
    (facts_whole w xs))

told_whole : (plan : Plan) (h : History) (e : Event) → IsWholeLines (event_told plan h e)
told_whole plan h e =
    event_whole (line_of (length h + 1) (verdict_by_ports plan.peers (due plan h e))) e (due plan h e)
    (facts_due plan h e)
    (whole_line _ _)

abbrev pick : {A : Type 0} → (before behind : Bool) → (x y z : A) → Text → A × Text
pick before behind x y z text = if before then (x, []) else if behind then (y, []) else (z, text)

one_whole : {A : Type 0} (before behind : Bool) (x y z : A) (text : Text) → IsWholeLines text
    → IsWholeLines (pick before behind x y z text).1
one_whole true behind x y z text whole = inl refl
one_whole false true x y z text whole = inl refl
one_whole false false x y z text whole = whole

pub long_told : (p : WhyPast) (n : ℕ) (line : Text) → nat_lt line_limit (length line) ≡ true
    → why_line p n line ≡ Err TooLong
long_told p n line long = rw long refl

meaning_whole : (p : WhyPast) (m : Result (Option ScriptEvent) LineFault)
    → IfOk (why_by_meaning p m) (λ came. IsWholeLines came.1)
meaning_whole p (Err fault) = tt
meaning_whole p (Ok None) = inl refl
meaning_whole p (Ok (Some e)) =
    let x = event_of p.script.plan e in
    let h = p.script.history in
    one_whole (nat_lt (length h + 1) p.number) (nat_lt p.number (length h + 1)) (why_past_with p x) p
    (why_past_with p x) (event_told p.script.plan h x) (told_whole p.script.plan h x)

pub whole_told : (p : WhyPast) (n : ℕ) (line : Text) → IfOk (why_line p n line) (λ came. IsWholeLines came.1)
whole_told p n line = meaning_whole p (line_meaning line)

-- ---- an event whose rules are told

pub long_covered : (p : CoverPast) (n : ℕ) (line : Text) → nat_lt line_limit (length line) ≡ true
    → cover_line p n line ≡ Err TooLong
long_covered p n line long = rw long refl

if_shown_whole : (events : Bool) (text : Text) → IsWholeLines text → IsWholeLines (if_shown events text)
if_shown_whole true text whole = whole
if_shown_whole false text whole = inl refl

covered_whole : (p : CoverPast) (m : Result (Option ScriptEvent) LineFault)
    → IfOk (cover_by_meaning p m) (λ came. IsWholeLines came.1)
covered_whole p (Err fault) = tt
covered_whole p (Ok None) = inl refl
covered_whole p (Ok (Some e)) =
    let x = event_of p.script.plan e in
    let h = p.script.history in
    if_shown_whole p.events (event_rules_line p.script.plan h x)
    (whole_line (decimal (length h + 1)) (rules_told p.script.plan h x))

pub whole_covered : (p : CoverPast) (n : ℕ) (line : Text) → IfOk (cover_line p n line) (λ came. IsWholeLines came.1)
whole_covered p n line = covered_whole p (line_meaning line)
