use Rattle.std.proofs.Common.{◌≡◌, ◌≤◌, length, ap, ◌∙◌, arith}
use Rattle.trusted_memory.specs.Memory.{bytes_from}
use Rattle.trusted_memory.proofs.Seen.{is_bytes_from}
use Rattle.guarded_memory.specs.Contents.{mmio_byte}
use Rattle.guarded_memory.proofs.guarded.Guarded.copy_bytes.Goals as goal

pub returns : goal.returns
returns c =
    let long : length c.loop-i.buf ≡ length c.args.buf.now = omega arith in
    let all : length c.loop-i.buf ≤ c.loop-i.i = omega arith in
    is_bytes_from (mmio_byte c.args.self.now c.args.interface c.args.bar) c.args.offset c.loop-i.buf
    (λ k less. c.loop-i.invariant k (omega arith))
    ∙ ap (bytes_from (mmio_byte c.args.self.now c.args.interface c.args.bar) c.args.offset) long
