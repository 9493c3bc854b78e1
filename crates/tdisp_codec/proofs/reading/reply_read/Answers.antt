use Rattle.std.proofs.Common.{◌+◌, length, sym, ap, arith, length-drop}
use Rattle.tdisp_codec.proofs.Messages.{none_long}
use Rattle.tdisp_codec.proofs.reading.reply_read.Goals as goal

pub reply-requires : goal.reply-requires
reply-requires c =
    let long = none_long c.is_reply.result (17 + c.reply_size.result) c.args.bytes.now (sym c.in-None.ensures) in
    omega (arith, long, c.reply_size.ensures.value, ap length c.behind-body.ensures, length-drop 17 c.args.bytes.now)
