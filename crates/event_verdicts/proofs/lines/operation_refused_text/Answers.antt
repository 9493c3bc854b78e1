use Rattle.std.proofs.Common.{append_assoc, [], ◌∷◌}
use Rattle.ide_types.specs.Names.{kind_word}
use Rattle.event_verdicts.specs.Words.{operation_word}
use Rattle.event_verdicts.proofs.lines.operation_refused_text.Goals as goal

pub returns-in-RefusedBusy : goal.returns-in-RefusedBusy
returns-in-RefusedBusy c =
    rw (
      c.in-RefusedBusy.is,
      append_assoc (kind_word c.in-RefusedBusy.kind) (operation_word c.in-RefusedBusy.operation)
          (10 ∷ []),
    )
    c.format-in-RefusedBusy.ensures.ok
