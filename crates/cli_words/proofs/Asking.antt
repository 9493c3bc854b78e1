-- What words ask for, by what `clap` made of them.
use Rattle.std.proofs.Common.{◌≡◌, ◌≢◌, ◌⊎◌, ◌∷◌, List, [], Bool, true, false, Option, Some, None, refl, ap, subst}
use Rattle.std.proofs.Common.{arith, inl, inr}
use Rattle.std.proofs.lemmas.Bool.Decides.{nat_tests}
use Rattle.clap.specs.Kinds.{HasKind, Kinds}
use Rattle.clap.specs.Values.{kind_of}
use Rattle.clap.specs.Walk.{is_empty}
use Rattle.clap.specs.Words.{App, HasMatchesOf, Row, Text, fault_of, is_simple, is_simple_and_free}
use Rattle.clap.specs.Words.{subcommand_of, subcommand_rows_of}
use Rattle.clap.specs.declared.error.Error.{Error}
use Rattle.clap.specs.declared.error.kind.ErrorKind.TheVariants as kind
use Rattle.clap.specs.declared.parser.matches.ArgMatches.{ArgMatches}
use Rattle.cli_words.specs.Ide.{ide_app}
use Rattle.cli_words.specs.Words.{CommandRequest, command_asked, subcommand_asked, asks_both}
use Rattle.cli_words.proofs.App.{ide_is_simple}
use Rattle.cli_words.proofs.Forms.{refused_anyway, taken}

simple : is_simple ide_app ≡ true
simple = refl

-- the subcommand that was met
pub met_is : (a : App) (words : List Text) (m : ArgMatches) → a ≡ ide_app → HasMatchesOf a words m
    → subcommand_rows_of m ≡ subcommand_of ide_app words
met_is a words m is matches = (subst (λ (x : App). HasMatchesOf x words m) is matches simple).1

-- no fault was found
pub none_found : (a : App) (words : List Text) → a ≡ ide_app → (is_simple_and_free a ≡ true → fault_of a words ≡ [])
    → fault_of ide_app words ≡ []
none_found a words is passes =
    (subst (λ (x : App). is_simple_and_free x ≡ true → fault_of x words ≡ []) is passes) ide_is_simple

some_kind : (kinds : Kinds) (e : Error) → HasKind kinds e → kind_of e ≢ kind.OutOfMemory → is_empty kinds ≡ false
some_kind [] e (inl is) other = absurd (other is)
some_kind [] e (inr none) other = absurd none
some_kind (k ∷ ks) e has other = grind (arith, nat_tests)

-- one was
pub some_found : (a : App) (words : List Text) (e : Error) → a ≡ ide_app
    → (is_simple_and_free a ≡ true → HasKind (fault_of a words) e) → kind_of e ≢ kind.OutOfMemory
    → is_empty (fault_of ide_app words) ≡ false
some_found a words e is fails other = some_kind (fault_of ide_app words) e
    ((subst (λ (x : App). is_simple_and_free x ≡ true → HasKind (fault_of x words) e) is fails) ide_is_simple) other

-- ---- what is asked for then

pub asks_met : (words : List Text) (met : Option (Text × List Row)) → fault_of ide_app words ≡ []
    → met ≡ subcommand_of ide_app words → asks_both met ≡ false → command_asked words ≡ Some (subcommand_asked met)
asks_met words met passes is one =
    taken words (subcommand_asked met) passes
    (subst (λ (m : Option (Text × List Row)). ◌≡◌ {A = CommandRequest × Bool} (subcommand_asked m, asks_both m)
    (subcommand_asked met, false)) is
    (ap (λ (b : Bool). (subcommand_asked met, b)) one))

pub asks_two : (words : List Text) (met : Option (Text × List Row)) → met ≡ subcommand_of ide_app words
    → asks_both met ≡ true → command_asked words ≡ None
asks_two words met is two = refused_anyway words (is_empty (fault_of ide_app words))
    (asks_both (subcommand_of ide_app words)) (subst (λ (m : Option (Text × List Row)). asks_both m ≡ true) is two)

pub asks_nothing : (words : List Text) → is_empty (fault_of ide_app words) ≡ false → command_asked words ≡ None
asks_nothing words faulty = rw faulty refl
