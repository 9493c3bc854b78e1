use Rattle.std.proofs.Common.{◌≡◌, ◌++◌, ◌∙◌, [], ap, drop, map, sym}
use Rattle.std.proofs.lemmas.List.{append-nil}
use Rattle.std.specs.Prelude.{string_bytes}
use Rattle.ide_types.specs.{Text}
use Rattle.rule_counts.specs.Lines.{count_lines}
use Rattle.rule_counts.proofs.Steps.{no_counts, none_left}
use Rattle.rule_counts.proofs.lines.push_counts.Goals as goal

pub returns-then-i-counts : goal.returns-then-i-counts
returns-then-i-counts c =
    let text = string_bytes c.loop-i.text in
    let names = map (λ s. s.now) (drop c.loop-i.i c.args.names.now) in
    let none : drop c.loop-i.i c.args.counts.now ≡ [] = none_left c.args.counts.now c.loop-i.i c.if-i-counts.true in
    sym (append-nil text)
    ∙ (ap (λ (t : Text). text ++ t) (sym (no_counts names) ∙ ap (count_lines names) (sym none)) ∙ c.loop-i.invariant)
