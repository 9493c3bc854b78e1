use Rattle.trusted_memory.proofs.Spelled.{reads_if_small, read_bytes_small}
use Rattle.trusted_memory.proofs.read_laws.completions_are_read.Goals as goal

pub returns : goal.returns
returns c completer byte read little fits small = reads_if_small completer byte read little fits (read_bytes_small
    byte read small)
