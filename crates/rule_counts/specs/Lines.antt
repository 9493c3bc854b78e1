-- The lines that tell of rules.
use Rattle.std.specs.Prelude.{ℕ, ◌+◌, List, [], ◌∷◌, ◌++◌, length, codes}
use Rattle.std.specs.List.{flat_map}
use Rattle.std.specs.Fmt.{decimal}
use Rattle.ide_types.specs.{Text, joined_words}
use Rattle.ide_types.specs.declared.plan.Plan.{Plan}
use Rattle.script_events.specs.declared.event.Event.{Event}
use Rattle.spec_keys.specs.History.{History}
use Rattle.rule_counts.specs.Names.{answering_rules}
use Rattle.rule_counts.specs.Told.{rules_told}
unfoldable use Rattle.rule_counts.specs.Told.{rule_count}
unfoldable use Rattle.rule_counts.specs.Forged.{forged_count}
use Rattle.rule_counts.specs.Coverage.{CoverageView}

-- `rule NAME COUNT`
abbrev pub rule_count_line : Text → ℕ → Text
rule_count_line rule count = codes "rule" ++ joined_words (rule ∷ decimal count ∷ [])

-- `forged F`
abbrev pub forged_line : ℕ → Text
forged_line count = codes "forged" ++ joined_words (decimal count ∷ [])

-- a line for each rule that can answer, in the order of docs/RULES.md, with how often it did in a history, and the line
-- of the forgeries there
abbrev pub counts_text : Plan → History → Text
counts_text plan h =
    flat_map (λ (rule : Text). rule_count_line rule (rule_count plan h rule)) answering_rules
    ++ forged_line (forged_count plan h)

-- `N RULE ..`
abbrev pub told_line : ℕ → List Text → Text
told_line number rules = decimal number ++ joined_words rules

-- the line of an event that comes after a history: its number, and the rules that are told of it
abbrev pub event_rules_line : Plan → History → Event → Text
event_rules_line plan h e = told_line (length h + 1) (rules_told plan h e)

-- ---- by what is counted

-- a line for each rule that has a count
abbrev pub count_lines : List Text → List ℕ → Text
count_lines [] counts = []
count_lines (rule ∷ rules) [] = []
count_lines (rule ∷ rules) (count ∷ counts) = rule_count_line rule count ++ count_lines rules counts

abbrev pub counts_shown : CoverageView → Text
counts_shown c = count_lines answering_rules c.counts ++ forged_line c.forged
