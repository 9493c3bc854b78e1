use Rattle.std.proofs.Common.{arith}
use Rattle.cli_words.proofs.Numbers.{number_is_read, nothing_is_read}
use Rattle.cli_words.proofs.number_of.Goals as goal

pub returns-in-Err-clause-number : goal.returns-in-Err-clause-number
returns-in-Err-clause-number c = nothing_is_read c.args.least c.args.most c.args.text.now
    (omega (arith, c.ranges.most.fits)) c.in-Err.ensures.value.0

pub returns-clause-number : goal.returns-clause-number
returns-clause-number c = number_is_read c.args.least c.args.most c.args.text.now c.in-Ok.number c.in-Ok.ensures.value.0
    (omega (arith, c.if-number-least.false)) (omega (arith, c.if-most-number.false))
