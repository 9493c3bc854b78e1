use Rattle.std.proofs.Common.{ℕ, ap, ◌∙◌}
use Rattle.std.specs.Prelude.{Option}
use Rattle.whole_links.specs.Besides.{draw_below}
use Rattle.whole_links.proofs.whole.WholeLinks.older_draw.Goals as goal

pub returns : goal.returns
returns c = c.draw_below.ensures
    ∙ ap (λ (o : Option ℕ). draw_below o c.args.reply.now.floor) c.sealing_draw-draw.ensures
