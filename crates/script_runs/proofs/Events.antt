-- The events of a script are few, and each is one that a line may spell; so are those of a history that they come to.
use Rattle.std.proofs.Common.{◌≡◌, ℕ, suc, ◌+◌, ◌≤◌, ◌==◌, List, [], ◌∷◌, length, map, take, length-take, Bool, true}
use Rattle.std.proofs.Common.{false, Option, Some, None, Result, Ok, Err, refl, arith}
use Rattle.std.specs.Prelude.{if◌then◌else◌, IfOk}
use Rattle.std.specs.List.{AllByRecursion, slice_index_or}
use Rattle.std.proofs.lemmas.List.{length-map}
use Rattle.std.proofs.lemmas.List.Sums.{count_by-le-length}
use Rattle.std.proofs.lemmas.List.Splits.{length-slice_split}
use Rattle.file_runs.specs.Pieces.{pieces}
use Rattle.ide_types.specs.declared.plan.Plan.{Plan}
use Rattle.ide_types.specs.Fits.{FitsPlan}
use Rattle.script_events.specs.declared.script.ScriptEvent.{ScriptEvent}
use Rattle.script_events.specs.declared.fault.LineFault.{LineFault}
use Rattle.script_events.specs.declared.fault.LineError.{LineError}
use Rattle.script_events.specs.Parse.{line_meaning, IsLineAnswer}
use Rattle.script_events.specs.Spells.{IsAllowed, IsAllowedInScript}
use Rattle.script_events.proofs.Meanings.{meaning_is_spelling}
use Rattle.script_events.proofs.Sizes.{spelled_are_allowed}
use Rattle.history_events.specs.{event_of}
use Rattle.history_events.proofs.Allowed.{events_are_allowed}
use Rattle.law_text.specs.Telling.{AreAllowed}
use Rattle.file_runs.specs.Gain.{Text}
use Rattle.file_runs.specs.Lines.{bytes_for_lines, cut_text, file_limit, is_over}
use Rattle.script_runs.specs.Works.{MayAsk}
use Rattle.script_runs.specs.Script.{Script, AtEnd, events_on, script_ended, with_line, unended_line, script_of_pieces}
use Rattle.script_runs.specs.Script.{script_of}

pub line_allowed : (line : Text) (e : ScriptEvent) → line_meaning line ≡ Ok (Some e) → IsAllowedInScript e
line_allowed line e is = spelled_are_allowed line e ((meaning_is_spelling line e).0 is)

record IsSmall (n : ℕ) (script : Script) : Type 0 where
  few : length script.events ≤ n
  each : AllByRecursion IsAllowedInScript script.events

with_line_small : (n k : ℕ) (m : Result (Option ScriptEvent) LineFault) (later : Script)
    → ((e : ScriptEvent) → m ≡ Ok (Some e) → IsAllowedInScript e) → IsSmall k later
    → IsSmall (suc k) (with_line n m later)
with_line_small n k (Err f) later allowed small = record { few = omega arith; each = tt }
with_line_small n k (Ok None) later allowed small = record { few = omega (arith, small.few); each = small.each }
with_line_small n k (Ok (Some e)) later allowed small = record
    { few = omega (arith, small.few); each = (allowed e refl, small.each) }

none_small : (k : ℕ) → IsSmall k (script_ended AtEnd)
none_small k = record { few = omega arith; each = tt }

script_small : (over : Bool) (n : ℕ) (parts : List Text) → IsSmall (length parts) (script_of_pieces over n parts)
script_small over n [] = none_small 0
script_small over n (piece ∷ []) = last over (length piece == 0)
  where
    last : (o none : Bool) → IsSmall 1
        (if o then unended_line n piece else if none then script_ended AtEnd else with_line n (line_meaning piece)
        (script_ended AtEnd))
    last true none = record { few = omega arith; each = tt }
    last false true = none_small 1
    last false false = with_line_small n 0 (line_meaning piece) (script_ended AtEnd) (line_allowed piece) (none_small 0)
script_small over n (piece ∷ next ∷ rest) = with_line_small n (length (next ∷ rest)) (line_meaning piece)
    (script_of_pieces over (n + 1) (next ∷ rest)) (line_allowed piece) (script_small over (n + 1) (next ∷ rest))

cut_small : (limit : ℕ) (file : Text) → length (bytes_for_lines limit file) ≤ limit + 1
cut_small limit file = by_test (slice_index_or file limit 10 == 10)
  where
    by_test : (b : Bool) → length (if b then take limit file else take (limit + 1) file) ≤ limit + 1
    by_test true = omega (arith, length-take limit file)
    by_test false = omega (arith, length-take (limit + 1) file)

few_pieces : (text : Text) → length (pieces text) ≤ length text + 1
few_pieces text = omega (arith, length-slice_split (λ b. b == 10) text, count_by-le-length (λ b. b == 10) text)

-- in a topology
allowed_on : (plan : Plan) → FitsPlan plan → (events : List ScriptEvent) → AllByRecursion IsAllowedInScript events
    → AllByRecursion IsAllowed (map (event_of plan) events)
allowed_on plan fits [] each = tt
allowed_on plan fits (e ∷ events) each = (events_are_allowed plan fits e each.0, allowed_on plan fits events each.1)

pub events_allowed : (plan : Plan) → FitsPlan plan → (file : Text) → AreAllowed (events_on plan (script_of file))
events_allowed plan fits file =
    let small = script_small (is_over file) 1 (pieces (cut_text file)) in
    let size : length (cut_text file) ≤ 16777217 = cut_small file_limit file in
    let events = (script_of file).events in
    record {
      few = omega (arith, length-map events (event_of plan), small.few, few_pieces (cut_text file), size);
      each = allowed_on plan fits events small.each;
    }

-- of a line that was read
pub allowed_of : (line : Text) (r : Result (Option ScriptEvent) LineError) → IsLineAnswer (line_meaning line) r
    → IfOk r MayAsk
allowed_of line (Ok None) gives = tt
allowed_of line (Ok (Some e)) gives = line_allowed line e gives
allowed_of line (Err e) gives = tt
