use Rattle.std.proofs.Common.{rules, ◌≡◌, ◌∙◌, length, map, sym}
use Rattle.std.proofs.lemmas.List.{length-map}
use Rattle.script_events.proofs.FirstWords.{all_stand}
use Rattle.script_events.proofs.words.push_word.Goals as goal

pub returns-then-is_full : goal.returns-then-is_full
returns-then-is_full c =
    let full : length c.args.words.now.items ≡ 7 = search rules in
    sym (all_stand 7 (map (λ w. w.now) c.args.words.now.items) _
    (length-map c.args.words.now.items (λ w. w.now) ∙ full))
