-- One event of a script is told: line by line the text and the end are those that are due.
use Rattle.std.proofs.Common.{◌≡◌, ◌∙◌, ℕ, ◌+◌, ◌<◌, ◌≤◌, ◌==◌, Bool, true, false, List, [], ◌∷◌, length, Option, Some}
use Rattle.std.proofs.Common.{◌++◌, None, Result, Ok, Err, refl, sym, ap, arith, length-append}
use Rattle.std.specs.Prelude.{nat_lt, if◌then◌else◌}
use Rattle.std.proofs.lemmas.Bool.{lt-ltb, le-ltb}
use Rattle.std.proofs.lemmas.List.{length-map}
use Rattle.std.proofs.lemmas.Bool.Decides.{nat_tests}
use Rattle.ide_types.specs.declared.plan.Plan.{Plan}
use Rattle.script_events.specs.declared.event.Event.{Event}
use Rattle.script_events.specs.declared.script.ScriptEvent.{ScriptEvent}
use Rattle.script_events.specs.declared.fault.LineFault.{LineFault}
use Rattle.script_events.specs.Parse.{line_meaning}
use Rattle.spec_keys.specs.History.{History}
use Rattle.history_events.specs.{event_of}
use Rattle.law_text.specs.Runs.{history_on, history_with_event}
use Rattle.ide_why.specs.{IsNewWorld, WorldView}
use Rattle.file_runs.specs.declared.ends.End.TheVariants as end
use Rattle.file_runs.specs.Gain.{Text}
use Rattle.file_runs.specs.Gathering.{GoesOn, ended_text}
use Rattle.file_runs.specs.Lines.{after, cut_text, file_due, go_on, is_over, process, unended_due}
use Rattle.file_runs.specs.Outcome.{Due}
use Rattle.file_runs.specs.Pieces.{pieces}
use Rattle.script_runs.specs.Reads.{ScriptGoesOn}
use Rattle.script_runs.specs.Script.{AtEnd, AtLimit, Refused, Script, ScriptEnd, run_end, events_on, script_of_pieces}
use Rattle.script_runs.specs.Script.{script_ended, unended_line, with_line}
use Rattle.ide_runs.specs.Why.{FollowsWhy, WhyPast, event_told, told_event_due, told_due, no_event_line, left_line}
use Rattle.ide_runs.specs.Why.{told_last, numbered_event_text, told_so_far, why_by_meaning, why_closing, why_line}
use Rattle.script_runs.proofs.Scripts.{follows_nothing}

-- ---- what is kept follows the past

-- the first world follows no events
pub tells_nothing : (n : ℕ) (plan : Plan) (world : WorldView) → IsNewWorld plan world → FollowsWhy (record {
  number = n;
  running = record { world = world; totals = record { sealed = 0; accepted = 0; failed = 0; blocked = 0 } };
}) (record { number = n; script = record { plan = plan; history = [] } })
tells_nothing n plan world new = record { number_is = refl; follows = follows_nothing plan world new }

-- ---- the lines

past_of : ℕ → Plan → History → WhyPast
past_of n plan h = record { number = n; script = record { plan = plan; history = h } }

-- no event after the one that is told gives a text
none_behind : (n : ℕ) (plan : Plan) (h : History) (events : List Event) → n ≤ length h
    → numbered_event_text n plan h events ≡ []
none_behind n plan h [] le = refl
none_behind n plan h (e ∷ events) le =
    let before : nat_lt (length h + 1) n ≡ false = le-ltb (length h + 1) n (omega (arith, le)) in
    let behind : nat_lt n (length h + 1) ≡ true = lt-ltb n (length h + 1) (omega (arith, le)) in
    rw (before, behind) refl

-- then the end is the same, however many there are
same_last : (n : ℕ) (stop : ScriptEnd) (a b : ℕ) → n ≤ a → n ≤ b → told_last n stop a ≡ told_last n stop b
same_last n AtEnd a b first second =
    let one : nat_lt a n ≡ false = le-ltb a n first in
    let two : nat_lt b n ≡ false = le-ltb b n second in
    rw (one, two) refl
same_last n (Refused line fault) a b first second = refl
same_last n AtLimit a b first second = refl

-- an event before what comes later
one_event : (n m : ℕ) (plan : Plan) (h : History) (e : ScriptEvent) (later : WhyPast → Due) (script : Script)
    → ((g : History) → later (past_of n plan g) ≡ told_event_due n plan g script) → (before behind : Bool)
    → nat_lt (length h + 1) n ≡ before → nat_lt n (length h + 1) ≡ behind
    → go_on m (why_by_meaning (past_of n plan h) (Ok (Some e))) later
    ≡ told_event_due n plan h (with_line m (Ok (Some e)) script)
unfolding past_of
one_event n m plan h e later script rest true behind is other =
    let x = event_of plan e in
    let g = history_with_event plan h x in
    let count : length g + length script.events ≡ length h + length (e ∷ script.events) = omega arith in
    rw (is, rest g) (ap (λ (k : ℕ). after (numbered_event_text n plan g (events_on plan script))
    (told_last n script.ending k)) count)
one_event n m plan h e later script rest false true is other =
    let le : n ≤ length h = grind (arith, nat_tests) in
    let none = none_behind n plan h (events_on plan script) le in
    let last = same_last n script.ending (length h + length script.events) (length h + length (e ∷ script.events))
    (omega (arith, le)) (omega (arith, le)) in
    rw (is, other, rest h, none) last
one_event n m plan h e later script rest false false is other =
    let x = event_of plan e in
    let g = history_with_event plan h x in
    let le : n ≤ length h + 1 = grind (arith, nat_tests) in
    let there : n ≤ length g = omega (arith, le) in
    let none = none_behind n plan g (events_on plan script) there in
    let last = same_last n script.ending (length g + length script.events) (length h + length (e ∷ script.events))
    (omega (arith, le)) (omega (arith, le)) in
    rw (is, other, rest g, none) (ap (after (event_told plan h x)) last)

-- a line before what comes later
one_line : (n m : ℕ) (plan : Plan) (h : History) (meaning : Result (Option ScriptEvent) LineFault)
    (later : WhyPast → Due) (script : Script)
    → ((g : History) → later (past_of n plan g) ≡ told_event_due n plan g script)
    → go_on m (why_by_meaning (past_of n plan h) meaning) later ≡ told_event_due n plan h (with_line m meaning script)
unfolding past_of
one_line n m plan h (Err fault) later script rest = refl
one_line n m plan h (Ok None) later script rest = rest h
one_line n m plan h (Ok (Some e)) later script rest =
    one_event n m plan h e later script rest (nat_lt (length h + 1) n) (nat_lt n (length h + 1)) refl refl

unended_is : (n m : ℕ) (plan : Plan) (piece : Text) (h : History) (b : Bool) → nat_lt 20000 (length piece) ≡ b
    → unended_due m piece ≡ told_event_due n plan h (unended_line m piece)
unended_is n m plan piece h true is = rw is refl
unended_is n m plan piece h false is = rw is refl

at_end : (n : ℕ) (plan : Plan) (h : History) → why_closing (past_of n plan h)
    ≡ told_event_due n plan h (script_ended AtEnd)
unfolding past_of
at_end n plan h =
    let count : length h ≡ length h + 0 = omega arith in
    ap (λ (k : ℕ). told_last n AtEnd k) count

last_piece : (n : ℕ) (plan : Plan) (over : Bool) (m : ℕ) (h : History) (piece : Text) (b : Bool)
    → (length piece == 0) ≡ b → process why_line why_closing over m (past_of n plan h) (piece ∷ [])
    ≡ told_event_due n plan h (script_of_pieces over m (piece ∷ []))
unfolding past_of
last_piece n plan true m h piece b is = unended_is n m plan piece h (nat_lt 20000 (length piece)) refl
last_piece n plan false m h piece true is = rw is (at_end n plan h)
last_piece n plan false m h piece false is =
    rw is (one_line n m plan h (line_meaning piece) why_closing (script_ended AtEnd) (λ g. at_end n plan g))

lines_told : (n : ℕ) (plan : Plan) (over : Bool) (m : ℕ) (h : History) (pieces : List Text)
    → process why_line why_closing over m (past_of n plan h) pieces
    ≡ told_event_due n plan h (script_of_pieces over m pieces)
unfolding past_of
lines_told n plan over m h [] = at_end n plan h
lines_told n plan over m h (piece ∷ []) = last_piece n plan over m h piece (length piece == 0) refl
lines_told n plan over m h (piece ∷ next ∷ rest) =
    one_line n m plan h (line_meaning piece) (λ t. process why_line why_closing over (m + 1) t (next ∷ rest))
    (script_of_pieces over (m + 1) (next ∷ rest)) (λ g. lines_told n plan over (m + 1) g (next ∷ rest))

-- a script's file on the world of a plan
pub file_told : (n : ℕ) (plan : Plan) (file : Text)
    → file_due why_line why_closing (record { number = n; script = record { plan = plan; history = [] } }) file
    ≡ told_due n plan file
unfolding past_of
file_told n plan file = lines_told n plan (is_over file) 1 [] (pieces (cut_text file))

-- the lines of it that ended in some bytes
pub ended_told : (n : ℕ) (plan : Plan) (bytes : Text)
    → ended_text why_line why_closing (record { number = n; script = record { plan = plan; history = [] } }) bytes
    ≡ told_so_far n plan bytes
unfolding past_of
ended_told n plan bytes = ap (λ (d : Due). d.1) (lines_told n plan true 1 [] (pieces bytes))

abbrev none_or_done : Bool → Text → Due
none_or_done b line = if b then (end.NoEvent, line) else (end.Done, [])

by_event : (b : Bool) (line : Text) → (none_or_done b line).0 ≡ end.TooLong → ⊥
by_event true line is = absurd cc
by_event false line is = absurd cc

ends_as_script : (n : ℕ) (stop : ScriptEnd) (events : ℕ) → (told_last n stop events).0 ≡ end.TooLong
    → run_end stop ≡ end.TooLong
ends_as_script n AtEnd events is = absurd (by_event (nat_lt events n) (no_event_line n events) is)
ends_as_script n (Refused line fault) events is = is
ends_as_script n AtLimit events is = is

-- if no line ends the run of those bytes, none ends the script
pub told_goes_on : (n : ℕ) (plan : Plan) (bytes : Text)
    → GoesOn why_line why_closing (record { number = n; script = record { plan = plan; history = [] } }) bytes
    → ScriptGoesOn plan bytes
unfolding past_of
told_goes_on n plan bytes goes_on =
    let script = script_of_pieces true 1 (pieces bytes) in
    ends_as_script n script.ending (0 + length script.events)
    (sym (ap (λ (d : Due). d.0) (lines_told n plan true 1 [] (pieces bytes))) ∙ goes_on)

-- ---- the event that is told

-- of the events after a history it is the one at its number
told_at : (n : ℕ) (plan : Plan) (h : History) (before later : List Event) (e : Event) → n ≡ length h + length before + 1
    → numbered_event_text n plan h (before ++ e ∷ later) ≡ event_told plan (history_on plan h before) e
told_at n plan h [] later e is =
    let before : nat_lt (length h + 1) n ≡ false = le-ltb (length h + 1) n (omega (arith, is)) in
    let behind : nat_lt n (length h + 1) ≡ false = le-ltb n (length h + 1) (omega (arith, is)) in
    rw (before, behind) refl
told_at n plan h (x ∷ before) later e is =
    let less : nat_lt (length h + 1) n ≡ true = lt-ltb (length h + 1) n (omega (arith, is)) in
    rw less (told_at n plan (history_with_event plan h x) before later e (omega (arith, is)))

-- of fewer events it is none
told_nowhere : (n : ℕ) (plan : Plan) (h : History) (events : List Event) → length h + length events < n
    → numbered_event_text n plan h events ≡ []
told_nowhere n plan h [] few = refl
told_nowhere n plan h (e ∷ events) few =
    let less : nat_lt (length h + 1) n ≡ true = lt-ltb (length h + 1) n (omega (arith, few)) in
    rw less (told_nowhere n plan (history_with_event plan h e) events (omega (arith, few)))

last_there : (n : ℕ) (stop : ScriptEnd) (events : ℕ) → n ≤ events
    → told_last n stop events ≡ (run_end stop, left_line stop)
last_there n AtEnd events le = let test : nat_lt events n ≡ false = le-ltb events n le in rw test refl
last_there n (Refused line fault) events le = refl
last_there n AtLimit events le = refl

so_many : (plan : Plan) (script : Script) → length (events_on plan script) ≡ length script.events
so_many plan script = length-map script.events (event_of plan)

-- the end and the text of a script that has the event
pub told_event : (n : ℕ) (plan : Plan) (script : Script) (h : History) (e : Event) (before later : List Event)
    → before ++ e ∷ later ≡ events_on plan script → n ≡ length before + 1 → h ≡ history_on plan [] before
    → told_event_due n plan [] script ≡ (run_end script.ending, event_told plan h e ++ left_line script.ending)
told_event n plan script h e before later events_are number_is history_is =
    let many : n ≤ 0 + length script.events = omega
    (arith, number_is, so_many plan script, ap length events_are, length-append before (e ∷ later)) in
    let text : numbered_event_text n plan [] (events_on plan script) ≡ event_told plan h e =
    ap (numbered_event_text n plan []) (sym events_are)
    ∙ told_at n plan [] before later e (omega (arith, number_is))
    ∙ ap (λ (g : History). event_told plan g e) (sym history_is) in
    ap (after (numbered_event_text n plan [] (events_on plan script)))
    (last_there n script.ending (0 + length script.events) many)
    ∙ ap (λ (t : Text). (run_end script.ending, t ++ left_line script.ending)) text

-- and of one that was read to its end and has not
pub told_none : (n : ℕ) (plan : Plan) (script : Script) → length (events_on plan script) < n → script.ending ≡ AtEnd
    → told_event_due n plan [] script ≡ (end.NoEvent, no_event_line n (length (events_on plan script)))
told_none n plan script few stop =
    let none = told_nowhere n plan [] (events_on plan script) (omega (arith, few)) in
    let count : 0 + length script.events ≡ length (events_on plan script) = omega (arith, so_many plan script) in
    let less : nat_lt (length (events_on plan script)) n ≡ true = lt-ltb (length (events_on plan script)) n few in
    rw (none, stop, count, less) refl
