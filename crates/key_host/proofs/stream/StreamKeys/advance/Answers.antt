use Rattle.std.proofs.Common.{ap, sym, ◌∙◌}
use Rattle.key_host.specs.Streams.{StreamView, asked_of_unfinished}
use Rattle.key_host.proofs.KeptKeys.{advances}
use Rattle.key_host.proofs.stream.StreamKeys.advance.Goals as goal
use Rattle.key_host.proofs.stream.StreamKeys.advance.Goals.{then-is_last, else-is_last}

pub invariant_of-self : goal.invariant_of-self
invariant_of-self c = elim c.if-is_last.branch [
  | then-is_last w ↦ rw (w.self-is, ← c.is_hosted-hosted.ensures) w.ended-self-inside.ensures.holds
  | else-is_last w ↦
      rw (w.self-is, ← c.is_hosted-hosted.ensures)
      (advances c.is_hosted-hosted.result c.self.inside.stage w.advanced-self-inside.result c.args.asked
      (rw c.is_hosted-hosted.ensures c.self.invariant)
      (ap (λ (s : StreamView). asked_of_unfinished s.op) c.self.view_is ∙ c.requires)
      (sym c.is_last.ensures ∙ w.if-is_last.false)
      (rw (← c.replace-stage.ensures.value) w.advanced-self-inside.ensures.op)
      (rw (← c.replace-stage.ensures.value, ← w.wire.ensures, ← w.exchange.ensures.exchange)
      w.advanced-self-inside.ensures.keys))
]
