-- The script of generated events runs on their topology as these events.
use Rattle.std.proofs.Common.{◌≡◌, refl, sym, ap, ap₂, ◌∙◌, subst, ℕ, ◌+◌, ◌≤◌, ◌==◌, nat_lt, Bool, true, false, List}
use Rattle.std.proofs.Common.{[], ◌∷◌, ◌++◌, length, map, take, Option, Some, None, Result, Ok, cond, arith}
use Rattle.std.specs.List.{slice_index_or}
use Rattle.std.proofs.lemmas.Bool.Decides.{nat_tests}
use Rattle.std.proofs.lemmas.List.{take_all}
use Rattle.std.proofs.lemmas.Option.{same_Some}
use Rattle.cli_files.specs.Outside.{Contents}
use Rattle.cli_words.specs.Words.{CommandRequest, command_asked}
use Rattle.history_events.specs.GeneratedEvents.{generated_events}
use Rattle.history_events.specs.GeneratedTopology.{the_plan}
use Rattle.history_events.specs.TextLaws.{Spells}
use Rattle.history_events.specs.ScriptText.{generated_script}
use Rattle.history_events.specs.TopologyText.{generated_topology}
use Rattle.history_events.proofs.TextEvents.{script_short, script_spells}
use Rattle.history_events.proofs.Whole.{topology_read, topology_short}
use Rattle.script_events.specs.declared.event.Event.{Event}
use Rattle.script_events.specs.declared.script.ScriptEvent.{ScriptEvent}
use Rattle.script_events.specs.Parse.{line_meaning}
use Rattle.file_runs.specs.declared.ends.End.{End}
use Rattle.file_runs.specs.declared.ends.Fault.{Fault}
use Rattle.file_runs.specs.Gain.{Text}
use Rattle.file_runs.specs.Lines.{cut_text, is_over}
use Rattle.file_runs.specs.Outcome.{Due, EndsDue, EndsToldOrBlind}
use Rattle.file_runs.specs.Pieces.{pieces}
use Rattle.script_runs.specs.declared.topologies.Loaded.TheVariants.{Sound}
use Rattle.script_runs.specs.Script.{AtEnd, Script, run_due, script_of_pieces, script_of, with_line}
use Rattle.script_runs.specs.Topologies.{loaded_topology}
use Rattle.ide_cli.specs.GeneratedRuns.{RunsGenerated, generated_run_due}
use Rattle.ide_cli.specs.Meaning.{CallRan, command_task}
use Rattle.ide_cli.specs.Seen.{CallSeen}

-- ---- the script

abbrev whole : List ScriptEvent → Script
whole asks = record { events = asks; ending = AtEnd }

-- a line before those that end
line_first : (n : ℕ) (line : Text) (lines : List Text) → script_of_pieces false n (line ∷ (lines ++ [] ∷ []))
    ≡ with_line n (line_meaning line) (script_of_pieces false (n + 1) (lines ++ [] ∷ []))
line_first n line [] = refl
line_first n line (next ∷ lines) = refl

lines_read : (n : ℕ) (lines : List Text) (asks : List ScriptEvent)
    → map line_meaning lines ≡ map (λ e. Ok (Some e)) asks → script_of_pieces false n (lines ++ [] ∷ []) ≡ whole asks
lines_read n [] [] same = refl
lines_read n [] (ask ∷ asks) same = absurd cc
lines_read n (line ∷ lines) [] same = absurd cc
lines_read n (line ∷ lines) (ask ∷ asks) same =
    let first : line_meaning line ≡ Ok (Some ask) = cc in
    let rest : map line_meaning lines ≡ map (λ e. Ok (Some e)) asks = cc in
    line_first n line lines ∙ rw (first, lines_read (n + 1) lines asks rest) refl

not_less : (m n : ℕ) → n ≤ m → nat_lt m n ≡ false
not_less m n le = grind (arith, nat_tests)

within : (file : Text) → length file ≤ 16777216 → is_over file ≡ false
within file few = not_less 16777216 (length file) few

not_cut : (file : Text) → length file ≤ 16777216 → cut_text file ≡ file
not_cut file few = by_test (slice_index_or file 16777216 10 == 10)
  where
    by_test : (b : Bool) → cond b (take 16777216 file) (take 16777217 file) ≡ file
    by_test true = take_all 16777216 file few
    by_test false = take_all 16777217 file (omega (arith, few))

script_is : (file : Text) (events : List Event) (s : Spells file events) → length file ≤ 16777216
    → script_of file ≡ whole s.asks
script_is file events s few =
    ap₂ (λ (over : Bool) (text : Text). script_of_pieces over 1 (pieces text)) (within file few) (not_cut file few)
    ∙ (ap (λ (ps : List Text). script_of_pieces false 1 ps) s.cut ∙ lines_read 1 s.lines s.asks s.meanings)

-- ---- and the topology

loads : loaded_topology generated_topology ≡ Sound the_plan
loads = rw (not_less 1048576 (length generated_topology) topology_short, topology_read) refl

-- ---- together

pub generated_runs : (seed count : ℕ) → count ≤ 100000
    → run_due (Some generated_topology) (Some (generated_script seed count)) ≡ Some (generated_run_due seed count)
generated_runs seed count few =
    let s = script_spells seed count few in
    let is = script_is (generated_script seed count) (generated_events seed count) s (script_short seed count few) in
    rw (loads, is, s.are_events) refl

-- ---- in a call

-- the same text is due by another function, which gives it of what is told
ends_by : (told : Option Contents) (contents : Contents) (due other : Contents → Option Due) (read write quiet : Type 0)
    (gained : Text → Type 0) (r : Result End Fault) → told ≡ Some contents → due contents ≡ other contents
    → EndsToldOrBlind told due read write quiet gained r → EndsToldOrBlind told other read write quiet gained r
ends_by None contents due other read write quiet gained r is same ends = absurd cc
ends_by (Some c) contents due other read write quiet gained r is same ends =
    let at = same_Some c contents is in
    let here : due c ≡ other c = subst (λ (x : Contents). due x ≡ other x) (sym at) same in
    subst (λ (d : Option Due). EndsDue d read write quiet gained r) here ends

pub runs_generated : (call : CallSeen) → CallRan call → RunsGenerated call
runs_generated call ran contents topology script seed count told asks is_topology is_script few =
    let answered = ran.due_outcome in
    let due = (command_task (command_asked call.words)).due answered.written in
    let same : due contents ≡ Some (generated_run_due seed count) =
    ap (λ (a : Option CommandRequest). (command_task a).due answered.written contents) asks
    ∙ (ap₂ run_due is_topology is_script ∙ generated_runs seed count few) in
    ends_by call.shelf_before.contents contents due (λ c. Some (generated_run_due seed count)) _ _ _ _ call.outcome told
    same answered.ran
