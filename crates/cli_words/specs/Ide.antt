-- The command of the program, in the terms of `clap`.
use Rattle.std.specs.Prelude.{ℕ, true, Some, codes}
use Rattle.clap.specs.Words.{App, Rule, Text, new_app, new_rule, with_rule, with_subcommand}
use Rattle.clap.specs.Simple.{on_top}
use Rattle.clap.specs.declared.builder.action.ArgAction.TheVariants.{SetTrue}
use Rattle.clap.specs.declared.builder.value_parser.ValueParser.TheVariants.{Unsigned}

-- a required argument of any text
abbrev pub name_rule : Text → Rule
name_rule id = record (new_rule id) { required = true }

-- a flag by its long name, which is `true` if it is given
abbrev pub flag_rule : Text → Rule
flag_rule id = record (new_rule id) { long = Some id; action = Some SetTrue }

-- the topology and the script, and whether packets are shown
abbrev pub run_app : App
run_app = with_rule (with_rule (with_rule (new_app (codes "run")) (name_rule (codes "TOPOLOGY")))
    (name_rule (codes "SCRIPT"))) (flag_rule (codes "packets"))

-- the topology, the script, the lines that are to be judged, and whether all that differ are named
abbrev pub judge_app : App
judge_app = with_rule (with_rule (with_rule (with_rule (new_app (codes "judge")) (name_rule (codes "TOPOLOGY")))
    (name_rule (codes "SCRIPT"))) (name_rule (codes "VERDICTS"))) (flag_rule (codes "all"))

-- a required number between these, in decimal digits
abbrev pub number_rule : Text → (least most : ℕ) → Rule
number_rule id least most = record (new_rule id) { required = true; parser = Some (Unsigned least most) }

-- the topology, the script, and the number of an event
abbrev pub why_app : App
why_app = with_rule (with_rule (with_rule (new_app (codes "why")) (name_rule (codes "TOPOLOGY")))
    (name_rule (codes "SCRIPT"))) (number_rule (codes "N") 1 67108864)

-- the topology and the script, and whether the rule of each event is told
abbrev pub cover_app : App
cover_app = with_rule (with_rule (with_rule (new_app (codes "cover")) (name_rule (codes "TOPOLOGY")))
    (name_rule (codes "SCRIPT"))) (flag_rule (codes "events"))

abbrev pub check_app : App
check_app = with_rule (with_rule (new_app (codes "check")) (name_rule (codes "TOPOLOGY"))) (flag_rule (codes "migrate"))

abbrev pub show_app : App
show_app = with_rule (new_app (codes "show")) (name_rule (codes "PACKETS"))

-- the seed is of 32 bits, and the rounds are 1 to 100,000
abbrev pub numbers_app : App
numbers_app = with_rule (with_rule (new_app (codes "generate")) (number_rule (codes "SEED") 0 4294967295))
    (number_rule (codes "COUNT") 1 100000)

-- the script of the events or their topology is asked for in place of their totals
abbrev pub generate_app : App
generate_app = with_rule (with_rule numbers_app (flag_rule (codes "script"))) (flag_rule (codes "topology"))

-- a subcommand must be given, and neither help nor a version is offered
abbrev pub top_app : App
top_app = on_top (λ s. record s {
  disable_help_flag = true;
  disable_help_subcommand = true;
  subcommand_required = true;
}) (new_app (codes "ide"))

-- the program with the subcommands that tell verdicts of a script
abbrev pub scripts_app : App
scripts_app = with_subcommand (with_subcommand (with_subcommand top_app run_app.top) judge_app.top) why_app.top

-- the program with all subcommands that read a topology
abbrev pub topologies_app : App
topologies_app = with_subcommand (with_subcommand scripts_app cover_app.top) check_app.top

abbrev pub ide_app : App
ide_app = with_subcommand (with_subcommand topologies_app show_app.top) generate_app.top
