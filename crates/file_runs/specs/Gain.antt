-- What a sink has gained.
use Rattle.std.specs.Prelude.{ℕ, ◌≡◌, ◌++◌, Option, Result, Ok, Err, option_map}
pub use Rattle.ide_types.specs.{Text}
use Rattle.cli_files.specs.Outside.{SinkErrCause}
use Rattle.cli_files.specs.declared.sink.SinkFault.{SinkFault}

-- the sink holds this text more, if it tells what it holds
abbrev pub HasGained : Option Text → Option Text → Text → Type 0
HasGained before now text = now ≡ option_map (λ held. held ++ text) before

-- a prefix of the text
abbrev pub IsFront : Text → Text → Type 0
IsFront front text = (rest : Text) × (front ++ rest ≡ text)

-- the sink gained some prefix of the text
abbrev pub GainedFront : Option Text → Option Text → Text → Type 0
GainedFront before now text = (front : Text) × IsFront front text × HasGained before now front

-- the sink gained at least this text
abbrev pub GainedMore : Option Text → Option Text → Text → Type 0
GainedMore before now text = (more : Text) × HasGained before now (text ++ more)

-- all of a text was written, or a prefix of it
abbrev pub WritesAll : Option Text → Option Text → Text → Result (Unit {0}) SinkFault → Type 0
WritesAll before now text (Ok u) = HasGained before now text
WritesAll before now text (Err e) = GainedFront before now text

abbrev pub WriteCause : ℕ → ℕ → Result (Unit {0}) SinkFault → Type 0
WriteCause before now (Ok u) = now ≡ before
WriteCause before now (Err e) = SinkErrCause before now e
