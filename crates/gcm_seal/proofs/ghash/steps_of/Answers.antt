use Rattle.std.proofs.Common.{ap, ◌∙◌}
use Rattle.std.specs.Int.{w128, to_be_bytes}
use Rattle.gcm_seal.specs.Inside.{step_x}
use Rattle.gcm_seal.proofs.ghash.steps_of.Goals as goal

pub returns : goal.returns
returns c =
    let x1 = c.times_x-x.ensures in
    let x2 = c.times_x-x2.ensures ∙ ap step_x x1 in
    let x3 = c.times_x-x3.ensures ∙ ap step_x x2 in (
      c.vector_of.ensures,
      c.vector_of-2.ensures ∙ ap (to_be_bytes w128) x1,
      c.vector_of-3.ensures ∙ ap (to_be_bytes w128) x2,
      c.vector_of-4.ensures ∙ ap (to_be_bytes w128) x3,
    )
