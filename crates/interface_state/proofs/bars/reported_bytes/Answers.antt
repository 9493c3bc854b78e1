use Rattle.std.proofs.Common.{◌≡◌, ◌*◌, List, ℕ, length, ap, ◌∙◌, arith}
use Rattle.tdisp_codec.specs.Ranges.{ranges_in}
use Rattle.interface_state.specs.Bars.{reported_ranges}
use Rattle.tdisp_codec.proofs.RangeBytes.{length-ranges}
use Rattle.interface_state.proofs.BarRanges.{reported_all, ranges_fit}
use Rattle.interface_state.proofs.bars.reported_bytes.Goals as goal

pub returns-clause-whole : goal.returns-clause-whole
returns-clause-whole c =
    let all = reported_all c.args.offset c.loop-i.i c.args.bars.now c.loop-i.out.items c.loop-i.invariant
    (omega (arith, c.loop-i-test.false)) in
    let long : length c.loop-i.out.items ≡ 16 * length (reported_ranges c.args.offset c.args.bars.now) = ap length all ∙
    length-ranges (reported_ranges c.args.offset c.args.bars.now) in
    omega (arith, long)

pub returns-clause-short : goal.returns-clause-short
returns-clause-short c = omega (arith, c.loop-i.invariant.room, c.requires.count)

pub returns-clause-ranges : goal.returns-clause-ranges
returns-clause-ranges c =
    let all = reported_all c.args.offset c.loop-i.i c.args.bars.now c.loop-i.out.items c.loop-i.invariant
    (omega (arith, c.loop-i-test.false)) in
    let fits = ranges_fit c.args.offset c.args.bars.now c.requires.count c.requires.fits in
    ap (λ (x : List ℕ). ranges_in x) all ∙ c.ranges_again.ensures (reported_ranges c.args.offset c.args.bars.now) fits
