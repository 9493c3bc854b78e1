use Rattle.std.proofs.Common.{◌≡◌, ◌++◌, map, take, length}
use Rattle.script_events.specs.Words.{words_in}
use Rattle.script_events.proofs.words.words_of.Given as goal

-- the first words so far, and those that come
abbrev pub invariant-loop-word : goal.invariant-loop-word
invariant-loop-word l = take 7 (map (λ w. w.now) l.words.items ++ words_in l.rest) ≡ take 7 (words_in l.initial.rest)

abbrev pub decreases-loop-word : goal.decreases-loop-word
decreases-loop-word l = length l.rest
