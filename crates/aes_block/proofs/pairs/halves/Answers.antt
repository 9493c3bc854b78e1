use Rattle.std.proofs.Common.{List, ℕ, ap, ◌++◌, ◌∙◌}
use lib.Lanes.{pick_l}
use Rattle.aes_block.proofs.Halves.{lower_places, upper_places, lower-is, upper-is}
use Rattle.aes_block.proofs.pairs.halves.Goals as goal

pub returns : goal.returns
returns c = λ a b la lb e. (
  ap (λ (v : List ℕ). pick_l 0 (v ++ v) lower_places) e ∙ lower-is a b la lb,
  ap (λ (v : List ℕ). pick_l 0 (v ++ v) upper_places) e ∙ upper-is a b la lb,
)
