-- The program's command, and the text of an argument.
use Rattle.std.proofs.Common.{◌≡◌, true, refl}
use Rattle.clap.specs.Words.{is_simple_and_free, first_value, first_of, rows_of, Text}
use Rattle.clap.specs.declared.parser.matches.Found.{Found}
use Rattle.clap.proofs.WalkLemmas.{first_value-rows}
use Rattle.cli_words.specs.Ide.{ide_app}

pub ide_is_simple : is_simple_and_free ide_app ≡ true
ide_is_simple = refl

pub first_text : (f : Found) (id : Text) → first_value f id ≡ first_of id (rows_of f)
first_text f id = first_value-rows f id
