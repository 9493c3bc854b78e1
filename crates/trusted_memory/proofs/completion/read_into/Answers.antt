use Rattle.std.proofs.Common.{◌≡◌, length, ap, ◌∙◌, arith}
use Rattle.trusted_memory.specs.Spans.{span_byte_count}
use Rattle.trusted_memory.specs.Memory.{bytes_from}
use Rattle.trusted_memory.proofs.Shown.{read_bytes-shown}
use Rattle.trusted_memory.proofs.completion.read_into.Goals as goal

pub returns : goal.returns
returns g c =
    let byte = g.M.ShownMemory.byte c.args.memory.now in
    let s = c.args.span in
    let copied = c.show.ensures ∙ ap (bytes_from byte s.address) c.requires.long in
    let long : length c.clear_others.new.bytes ≡ span_byte_count s = omega arith in
    read_bytes-shown byte s c.show.new.buf c.clear_others.new.bytes copied long
    (λ k less. c.clear_others.ensures k (omega arith))
