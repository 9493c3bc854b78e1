use Rattle.std.proofs.Common.{◌≡◌, ℕ, true, refl, sym, arith, below_more, get_or, length}
use Rattle.std.proofs.lemmas.Bool.{eq-eqb}
use Rattle.ide_prefix.specs.Causes.{fits_early}
use Rattle.ide_prefix.proofs.cutting.early.Goals as goal

pub loop-place-preserved : goal.loop-place-preserved
loop-place-preserved c = record {
  within = omega arith;
  fits = below_more (λ (i : ℕ). fits_early i c.args.bytes.now (get_or c.args.bytes.now i 0) ≡ true) _
      c.loop-place.invariant.fits (sym c.if-not-allows_early.ensures);
}

pub returns-then-place-bytes-clause-goes_off : goal.returns-then-place-bytes-clause-goes_off
returns-then-place-bytes-clause-goes_off c =
    let past = c.if-place-bytes.true in
    let within = c.loop-place.invariant.within in
    let all : c.loop-place.place ≡ length c.args.bytes.now = omega arith in (
      c.loop-place.place,
      record {
        within = within;
        early = c.loop-place-test.true;
        cause = rw (eq-eqb c.loop-place.place (length c.args.bytes.now) all) refl;
        before = c.loop-place.invariant.fits;
        off = λ less. absurd (omega arith);
      },
    )
