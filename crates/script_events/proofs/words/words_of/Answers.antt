use Rattle.std.proofs.Common.{◌≡◌, ◌==◌, ◌∷◌, ◌∙◌, [], map}
use Rattle.std.specs.List.{slice_split}
use Rattle.script_events.proofs.FirstWords.{more_words, last_word}
use Rattle.script_events.proofs.words.words_of.Goals as goal

pub returns : goal.returns
returns c =
    let is : slice_split (λ b. b == 32) c.loop-word.rest.now ≡ c.loop-word.rest.now ∷ [] =
    rw c.in_default.is at c.split_at_byte.ensures.parts in
    c.push_word-2.ensures ∙ last_word (map (λ w. w.now) c.loop-word.words.items) c.loop-word.rest.now is
    ∙ c.loop-word.invariant

pub loop-word-preserved : goal.loop-word-preserved
loop-word-preserved c =
    let is : slice_split (λ b. b == 32) c.loop-word.rest.now
    ≡ c.in-Some.word.now ∷ slice_split (λ b. b == 32) c.in-Some.after.now =
    rw c.in-Some.is at c.split_at_byte.ensures.parts in
    rw c.push_word.ensures
    (more_words (map (λ w. w.now) c.loop-word.words.items) c.in-Some.word.now c.loop-word.rest.now c.in-Some.after.now
    is
    ∙ c.loop-word.invariant)
