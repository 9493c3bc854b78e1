-- What the words of a command line ask for.
use Rattle.std.specs.Prelude.{◌≡◌, ◌==◌, ◌≤◌, ◌&&◌, ℕ, List, [], ◌∷◌, Bool, true, false, Option, Some, None, codes}
use Rattle.std.specs.Prelude.{unwrap_or, if◌then◌else◌}
use Rattle.std.specs.Str.{bytes_eq}
use Rattle.std.specs.Str.Parse.{digits_value, without_leading_plus}
use Rattle.clap.specs.Words.{Row, Text, fault_of, first_of, subcommand_of}
use Rattle.clap.specs.ValueTests.{is_unsigned_in}
use Rattle.clap.specs.Walk.{is_empty}
use Rattle.cli_words.specs.Ide.{ide_app}
use Rattle.cli_words.specs.declared.Request.{Request}
use Rattle.cli_words.specs.declared.Request.TheVariants.{Run, RunPackets, Judge, JudgeAll, Why, Cover}
use Rattle.cli_words.specs.declared.Request.TheVariants.{CoverEvents, Check, Migrate, Show, Generate, GenerateScript}
use Rattle.cli_words.specs.declared.Request.TheVariants.{GenerateTopology}
use Rattle.cli_words.specs.declared.WordsError.{WordsError}
use Rattle.cli_words.specs.declared.WordsError.TheVariants.{Usage, Memory}

-- a request by the bytes of its names, and by its numbers
pub data CommandRequest : Type 0 where
  run : (topology script : Text) → CommandRequest
  run_packets : (topology script : Text) → CommandRequest
  judge : (topology script verdicts : Text) → CommandRequest
  judge_all : (topology script verdicts : Text) → CommandRequest
  why : (topology script : Text) (n : ℕ) → CommandRequest
  cover : (topology script : Text) → CommandRequest
  cover_events : (topology script : Text) → CommandRequest
  check : (topology : Text) → CommandRequest
  migrate : (topology : Text) → CommandRequest
  show : (packets : Text) → CommandRequest
  generate : (seed count : ℕ) → CommandRequest
  generate_script : (seed count : ℕ) → CommandRequest
  generate_topology : (seed count : ℕ) → CommandRequest

-- the argument's text; `clap` gives each required one, and if there were none it would be the empty text
abbrev pub text_of : Text → List Row → Text
text_of id rows = unwrap_or (first_of id rows) []

-- the flag is given
abbrev pub is_flag_given : Text → List Row → Bool
is_flag_given id rows = bytes_eq (text_of id rows) (codes "true")

-- a script is run; its packets are shown if the flag is given
abbrev pub run_asked : List Row → CommandRequest
run_asked rows =
    if is_flag_given (codes "packets") rows
    then run_packets (text_of (codes "TOPOLOGY") rows) (text_of (codes "SCRIPT") rows)
    else run (text_of (codes "TOPOLOGY") rows) (text_of (codes "SCRIPT") rows)

-- a text is judged; all lines that differ are named if the flag is given
abbrev pub judge_asked : List Row → CommandRequest
judge_asked rows =
    if is_flag_given (codes "all") rows
    then judge_all (text_of (codes "TOPOLOGY") rows) (text_of (codes "SCRIPT") rows) (text_of (codes "VERDICTS") rows)
    else judge (text_of (codes "TOPOLOGY") rows) (text_of (codes "SCRIPT") rows) (text_of (codes "VERDICTS") rows)

-- rules are counted; the rule of each event is told if the flag is given
abbrev pub cover_asked : List Row → CommandRequest
cover_asked rows =
    if is_flag_given (codes "events") rows
    then cover_events (text_of (codes "TOPOLOGY") rows) (text_of (codes "SCRIPT") rows)
    else cover (text_of (codes "TOPOLOGY") rows) (text_of (codes "SCRIPT") rows)

-- a topology is checked, or migrated if the flag is given
abbrev pub check_asked : List Row → CommandRequest
check_asked rows =
    if is_flag_given (codes "migrate") rows then migrate (text_of (codes "TOPOLOGY") rows)
    else check (text_of (codes "TOPOLOGY") rows)

-- The number that a text writes in decimal digits. `clap` lets no text through whose number is not between these, and
-- of such a text it would be the least.
abbrev pub number_of : (least most : ℕ) → Text → ℕ
number_of least most text =
    if is_unsigned_in least most text then digits_value 10 (without_leading_plus text) else least

abbrev pub seed_of : List Row → ℕ
seed_of rows = number_of 0 4294967295 (text_of (codes "SEED") rows)

abbrev pub count_of : List Row → ℕ
count_of rows = number_of 1 100000 (text_of (codes "COUNT") rows)

-- the totals of generated events, or their script, or their topology
abbrev pub generation_asked : List Row → CommandRequest
generation_asked rows =
    if is_flag_given (codes "script") rows then generate_script (seed_of rows) (count_of rows)
    else if is_flag_given (codes "topology") rows then generate_topology (seed_of rows) (count_of rows)
    else generate (seed_of rows) (count_of rows)

-- the event of this number is explained
abbrev pub why_asked : List Row → CommandRequest
why_asked rows = why (text_of (codes "TOPOLOGY") rows) (text_of (codes "SCRIPT") rows)
    (number_of 1 67108864 (text_of (codes "N") rows))

abbrev pub asked_by_name : Text → List Row → CommandRequest
asked_by_name name rows =
    if bytes_eq name (codes "run") then run_asked rows
    else if bytes_eq name (codes "judge") then judge_asked rows
    else if bytes_eq name (codes "why") then why_asked rows
    else if bytes_eq name (codes "cover") then cover_asked rows
    else if bytes_eq name (codes "check") then check_asked rows
    else if bytes_eq name (codes "generate") then generation_asked rows
    else show (text_of (codes "PACKETS") rows)

-- what a subcommand and its arguments ask for; `clap` gives one, since it is required
abbrev pub subcommand_asked : Option (Text × List Row) → CommandRequest
subcommand_asked None = show []
subcommand_asked (Some p) = asked_by_name p.0 p.1

-- both flags of `generate` are given, and so two texts are asked for
abbrev pub asks_both : Option (Text × List Row) → Bool
asks_both None = false
asks_both (Some p) = is_flag_given (codes "script") p.1 && is_flag_given (codes "topology") p.1

-- `clap` refuses the words, or they ask for two texts
abbrev pub is_refused : List Text → Bool
is_refused words = if is_empty (fault_of ide_app words) then asks_both (subcommand_of ide_app words) else true

-- what the words ask for, the first being the program's name; nothing if they are refused
abbrev pub command_asked : List Text → Option CommandRequest
command_asked words = if is_refused words then None else Some (subcommand_asked (subcommand_of ide_app words))

abbrev pub view : Request → CommandRequest
view (Run topology script) = run topology.now script.now
view (RunPackets topology script) = run_packets topology.now script.now
view (Judge topology script verdicts) = judge topology.now script.now verdicts.now
view (JudgeAll topology script verdicts) = judge_all topology.now script.now verdicts.now
view (Why topology script n) = why topology.now script.now n
view (Cover topology script) = cover topology.now script.now
view (CoverEvents topology script) = cover_events topology.now script.now
view (Check topology) = check topology.now
view (Migrate topology) = migrate topology.now
view (Show packets) = show packets.now
view (Generate seed count) = generate seed count
view (GenerateScript seed count) = generate_script seed count
view (GenerateTopology seed count) = generate_topology seed count

-- 1 to 100,000 rounds are asked for
abbrev pub HasFewRounds : Request → Type 0
HasFewRounds (Generate seed count) = (1 ≤ count) × (count ≤ 100000)
HasFewRounds (GenerateScript seed count) = (1 ≤ count) × (count ≤ 100000)
HasFewRounds (GenerateTopology seed count) = (1 ≤ count) × (count ≤ 100000)
HasFewRounds _ = Unit {0}

-- the number of an event is 1 to 67,108,864
abbrev pub NamesEvent : Request → Type 0
NamesEvent (Why topology script n) = (1 ≤ n) × (n ≤ 67108864)
NamesEvent _ = Unit {0}

-- `Usage` comes only if the words ask for nothing, and want of memory is free
abbrev pub Refuses : Option CommandRequest → WordsError → Type 0
Refuses asked Usage = asked ≡ None
Refuses asked Memory = Unit {0}

-- a text that is not empty and does not begin with '-'
abbrev pub IsName : Text → Type 0
IsName [] = ⊥
IsName (x ∷ xs) = (x == 45) ≡ false
