use Rattle.std.proofs.Common.{◌+◌, ◌*◌, leb, arith}
use Rattle.std.proofs.lemmas.Bool.{and_parts, leb-true}
use Rattle.guarded_memory.proofs.claimed_memory.offset_in.Goals as goal

pub returns-clause-within : goal.returns-clause-within
returns-clause-within c =
    let held = and_parts (leb c.args.base c.args.at) _ c.requires in
    let high = leb-true (c.args.at + c.args.count) (c.args.base + 4096 * c.args.pages) held.1 in
    omega (arith, high, c.ranges.pages.fits)
