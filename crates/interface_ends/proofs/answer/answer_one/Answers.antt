use Rattle.std.proofs.Common.{refl}
use Rattle.interface_ends.proofs.answer.answer_one.Goals as goal

pub returns-in-LockInterface-clause-reply : goal.returns-in-LockInterface-clause-reply
returns-in-LockInterface-clause-reply c =
    rw (
      c.append-in-LockInterface.ensures.items,
      c.locked.ensures.reply,
      c.lock-answer.ensures.answer,
      c.as_ref.ensures.value,
      c.in-LockInterface.is,
    ) refl
