use Rattle.std.proofs.Common.{rules, ◌≡◌, ◌+◌, ◌==◌, ◌∷◌, ℕ, take, drop, Some, None, ◌∙◌, List}
use Rattle.script_events.proofs.Cuts.{cut_at, uncut}
use Rattle.script_events.proofs.words.split_at_byte.Goals as goal
use Rattle.memchr.specs.Find.{IsFirstByte}

pub returns-in-Some-clause-parts : goal.returns-in-Some-clause-parts
returns-in-Some-clause-parts c =
    let before : c.split_at.result.0.now ≡ take c.in-Some.end c.args.bytes.now = search rules in
    let after : c.split_at-in-Some.result.1.now ≡ drop (c.in-Some.end + 1) c.args.bytes.now = search rules in
    rw (before, after) (cut_at c.args.value c.args.bytes.now c.in-Some.end (search rules))

pub returns-in-None-clause-parts : goal.returns-in-None-clause-parts
returns-in-None-clause-parts c = uncut c.args.value c.args.bytes.now (search rules)
