use Rattle.std.proofs.Common.{◌∙◌, sym}
use Rattle.history_events.proofs.NumberedKeys.{next_key}
use Rattle.history_events.proofs.keys.numbered_keys.Goals as goal

pub loop-n-preserved : goal.loop-n-preserved
loop-n-preserved c = c.in_ok-push.ensures.items ∙ rw (c.loop-n.invariant, c.key_numbered.ensures)
    (sym (next_key c.loop-n.n))
