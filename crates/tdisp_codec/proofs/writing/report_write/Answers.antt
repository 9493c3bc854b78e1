use Rattle.std.proofs.Common.{◌/◌, ◌∙◌, List, ◌++◌, length, ℕ, arith, ap}
use Rattle.byteorder.specs.Endian.{little_bytes}
use Rattle.tdisp_codec.proofs.Reports.{front_bytes, view_spelled, joined}
use Rattle.tdisp_codec.proofs.writing.report_write.Goals as goal

pub append-requires : goal.append-requires
append-requires c = omega (arith, c.requires.room, ap length c.as_bytes-ranges.ensures.bytes)

pub append32-requires : goal.append32-requires
append32-requires c = omega (arith, c.requires.room, ap length c.as_bytes-ranges.ensures.bytes)

pub append-requires-2 : goal.append-requires-2
append-requires-2 c = omega (arith, c.requires.room, ap length c.as_bytes-ranges.ensures.bytes)

pub returns-clause-items : goal.returns-clause-items
returns-clause-items c =
    let view = c.args.report.now in
    let flat = c.as_bytes-ranges.ensures.spelled ∙ c.as_bytes-ranges.ensures.bytes in
    joined c.args.out.now.items (front_bytes view (length view.ranges.bytes.now / 16)) view.ranges.bytes.now
    (little_bytes 4 (length view.device.now)) view.device.now
    c.append_front.new.out.items c.append.new.out.items c.append32.new.out.items c.append-2.new.out.items
    c.append_front.ensures.items
    (c.append.ensures.items ∙ ap (λ (x : List ℕ). c.append_front.new.out.items ++ x)
    c.as_bytes-ranges.ensures.bytes) c.append32.ensures.items c.append-2.ensures.items
    ∙ ap (λ (x : List ℕ). c.args.out.now.items ++ x) (view_spelled view flat)
