use Rattle.std.proofs.Common.{◌+◌, length, sym, ap, arith, length-drop}
use Rattle.tdisp_codec.proofs.Messages.{none_long}
use Rattle.tdisp_codec.proofs.reading.request_read.Goals as goal

pub request-requires : goal.request-requires
request-requires c =
    let long = none_long c.is_request.result (17 + c.request_size.result) c.args.bytes.now (sym c.in-None.ensures) in
    omega (
      arith,
      long,
      c.request_size.ensures.value,
      ap length c.behind-in-None.ensures,
      length-drop 17
          c.args.bytes.now,
    )
