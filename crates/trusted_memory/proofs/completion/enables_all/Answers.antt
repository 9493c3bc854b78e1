use Rattle.std.proofs.Common.{◌≤◌, arith}
use Rattle.std.proofs.lemmas.Bool.{eqb-true}
use Rattle.trusted_memory.proofs.Full.{all_enabled}
use Rattle.trusted_memory.proofs.completion.enables_all.Goals as goal

pub returns-else-span-ne15 : goal.returns-else-span-ne15
returns-else-span-ne15 c last =
    let some : 1 ≤ c.args.span.length = omega (arith, c.if-span-eq0.false) in
    (some, λ i. all_enabled c.args.span i c.if-span-ne15.false (eqb-true c.args.span.last_be 15 last))
