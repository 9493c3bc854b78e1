-- Words that ask for generated events, for their script or for their topology name 1 to 100,000 rounds; those that ask
-- why an event got its verdict name an event from 1 to 67,108,864.
use Rattle.std.proofs.Common.{◌≡◌, ◌≤◌, ℕ, List, Bool, true, false, Option, Some, None, refl}
use Rattle.std.proofs.Common.{codes, if◌then◌else◌, subst, lit≤}
use Rattle.std.specs.Str.{bytes_eq}
use Rattle.std.specs.Str.Parse.{digits_value, without_leading_plus}
use Rattle.clap.specs.Words.{Row, Text, subcommand_of}
use Rattle.clap.specs.ValueTests.{is_unsigned_in}
use Rattle.clap.specs.declared.builder.value_parser.ValueParser.TheVariants as vp
use Rattle.clap.proofs.ValueTestLemmas.{accepts-Accepts}
use Rattle.cli_words.specs.Ide.{ide_app}
use Rattle.cli_words.specs.Words.{CommandRequest, command_asked, asked_by_name, subcommand_asked, generate}
use Rattle.cli_words.specs.Words.{generate_script, generate_topology, generation_asked, is_refused, is_flag_given}
use Rattle.cli_words.specs.Words.{number_of, why, text_of}

Within : (most n : ℕ) → Type 0
Within most n = (1 ≤ n) × (n ≤ most)

Few : ℕ → Type 0
Few count = Within 100000 count

-- the number of rounds that is asked for, if any is, is 1 to 100,000, and that of an event 1 to 67,108,864
FewIn : CommandRequest → Type 0
FewIn (why topology script n) = Within 67108864 n
FewIn (generate seed count) = Few count
FewIn (generate_script seed count) = Few count
FewIn (generate_topology seed count) = Few count
FewIn _ = Unit {0}

by_test : (most : ℕ) (text : Text) (b : Bool) → 1 ≤ most → is_unsigned_in 1 most text ≡ b
    → Within most (if b then digits_value 10 (without_leading_plus text) else 1)
unfolding Within
by_test most text true some passes = let h = accepts-Accepts false (vp.Unsigned 1 most) text passes in (h.2, h.3)
by_test most text false some passes = (lit≤ tt, some)

number_within : (most : ℕ) (text : Text) → 1 ≤ most → Within most (number_of 1 most text)
number_within most text some = by_test most text (is_unsigned_in 1 most text) some refl

few_choice : (b : Bool) (x y : CommandRequest) → FewIn x → FewIn y → FewIn (if b then x else y)
few_choice true x y first second = first
few_choice false x y first second = second

few_generation : (rows : List Row) → FewIn (generation_asked rows)
unfolding FewIn Few
few_generation rows =
    let few = number_within 100000 (text_of (codes "COUNT") rows) (lit≤ tt) in
    few_choice (is_flag_given (codes "script") rows) _ _ few
    (few_choice (is_flag_given (codes "topology") rows) _ _ few few)

few_by : (name : Text) (rows : List Row) → FewIn (asked_by_name name rows)
unfolding FewIn
few_by name rows =
    few_choice (bytes_eq name (codes "run")) _ _ (few_choice (is_flag_given (codes "packets") rows) _ _ tt tt)
    (few_choice (bytes_eq name (codes "judge")) _ _ (few_choice (is_flag_given (codes "all") rows) _ _ tt tt)
    (few_choice (bytes_eq name (codes "why")) _ _ (number_within 67108864 (text_of (codes "N") rows) (lit≤ tt))
    (few_choice (bytes_eq name (codes "cover")) _ _ (few_choice (is_flag_given (codes "events") rows) _ _ tt tt)
    (few_choice (bytes_eq name (codes "check")) _ _ (few_choice (is_flag_given (codes "migrate") rows) _ _ tt tt)
    (few_choice (bytes_eq name (codes "generate")) _ _ (few_generation rows) tt)))))

few_of : (met : Option (Text × List Row)) → FewIn (subcommand_asked met)
unfolding FewIn
few_of None = tt
few_of (Some p) = few_by p.0 p.1

few_asked : (refused : Bool) (words : List Text) (request : CommandRequest)
    → (if refused then None else Some (subcommand_asked (subcommand_of ide_app words))) ≡ Some request → FewIn request
few_asked true words request asks = absurd cc
few_asked false words request asks =
    let same : subcommand_asked (subcommand_of ide_app words) ≡ request = cc in
    subst FewIn same (few_of (subcommand_of ide_app words))

pub few_rounds : (words : List Text) (seed count : ℕ) → command_asked words ≡ Some (generate seed count)
    → (1 ≤ count) × (count ≤ 100000)
unfolding Within Few FewIn
few_rounds words seed count asks = few_asked (is_refused words) words (generate seed count) asks

pub few_script_rounds : (words : List Text) (seed count : ℕ) → command_asked words ≡ Some (generate_script seed count)
    → (1 ≤ count) × (count ≤ 100000)
unfolding Within Few FewIn
few_script_rounds words seed count asks = few_asked (is_refused words) words (generate_script seed count) asks

pub few_topology_rounds : (words : List Text) (seed count : ℕ)
    → command_asked words ≡ Some (generate_topology seed count) → (1 ≤ count) × (count ≤ 100000)
unfolding Within Few FewIn
few_topology_rounds words seed count asks = few_asked (is_refused words) words (generate_topology seed count) asks

pub named_event : (words : List Text) (topology script : Text) (n : ℕ)
    → command_asked words ≡ Some (why topology script n) → (1 ≤ n) × (n ≤ 67108864)
unfolding Within FewIn
named_event words topology script n asks = few_asked (is_refused words) words (why topology script n) asks
