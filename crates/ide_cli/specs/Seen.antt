-- What is seen of a call from outside: its words, what its shelf and its sink show before and after, and how it ends.
use Rattle.std.specs.Prelude.{List, map, Result, String, Vec, string_bytes}
use Rattle.std.proofs.Common.{Global}
use Rattle.cli_files.specs.Outside.{ShelfSeen, SinkSeen}
use Rattle.file_runs.specs.Gain.{Text}
use Rattle.file_runs.specs.declared.ends.End.{End}
use Rattle.file_runs.specs.declared.ends.Fault.{Fault}

pub record CallSeen : Type 0 where
  pub words : List Text
  pub shelf_before : ShelfSeen
  pub shelf_after : ShelfSeen
  pub sink_before : SinkSeen
  pub sink_after : SinkSeen
  pub outcome : Result End Fault

-- of a call with these words, by what can be seen of its shelf and of its sink
abbrev pub call_seen : {S O : Type 0} → (S → ShelfSeen) → (O → SinkSeen) → List (String Global) → (shelf shelf_now : S)
    → (sink sink_now : O) → Result End Fault → CallSeen
call_seen of_shelf of_sink words shelf shelf_now sink sink_now outcome = record {
  words = map string_bytes words;
  shelf_before = of_shelf shelf;
  shelf_after = of_shelf shelf_now;
  sink_before = of_sink sink;
  sink_after = of_sink sink_now;
  outcome = outcome;
}

-- of the program
abbrev pub run_seen : {S O : Type 0} → (S → ShelfSeen) → (O → SinkSeen) → Vec (String Global) Global
    → (shelf shelf_now : S) → (sink sink_now : O) → Result End Fault → CallSeen
run_seen of_shelf of_sink words shelf shelf_now sink sink_now outcome =
    call_seen of_shelf of_sink words.items shelf shelf_now sink sink_now outcome

-- the bytes of the words
abbrev pub said_words : Vec (String Global) Global → List Text
said_words words = map string_bytes words.items
