use Rattle.gcm_seal.proofs.Moves.{moved-joined, high-is}
use Rattle.gcm_seal.proofs.ghash.moved.Goals as goal

pub returns-clause-sum : goal.returns-clause-sum
returns-clause-sum c = λ none.
    moved-joined c.args.low c.args.high c.args.next c.fits-low.0 c.fits-high.0 c.fits-next.0 none

pub returns-clause-high : goal.returns-clause-high
returns-clause-high c = high-is c.args.low c.fits-low.0 c.args.high c.fits-high.0
