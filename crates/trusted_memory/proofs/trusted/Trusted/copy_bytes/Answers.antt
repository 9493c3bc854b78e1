use Rattle.std.proofs.Common.{◌≡◌, ◌≤◌, length, ap, ◌∙◌, arith}
use Rattle.trusted_memory.specs.Memory.{byte_at, bytes_from}
use Rattle.trusted_memory.proofs.Seen.{is_bytes_from}
use Rattle.trusted_memory.proofs.trusted.Trusted.copy_bytes.Goals as goal

pub returns : goal.returns
returns c =
    let long : length c.loop-i.buf ≡ length c.args.buf.now = omega arith in
    let all : length c.loop-i.buf ≤ c.loop-i.i = omega arith in
    is_bytes_from (byte_at c.args.self.now.contents) c.args.at c.loop-i.buf
    (λ k less. c.loop-i.invariant k (omega arith))
    ∙ ap (bytes_from (byte_at c.args.self.now.contents) c.args.at) long
