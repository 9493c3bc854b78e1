use Rattle.std.proofs.Common.{ℕ, ◌++◌, List, ap}
use Rattle.tlp_layout.specs.Head.{head_bytes}
use Rattle.trusted_memory.specs.Completions.{completion_head, completion_bytes}
use Rattle.trusted_memory.proofs.Shown.{read_bytes-same}
use Rattle.trusted_memory.proofs.read_laws.completions_show_enabled_bytes.Goals as goal

pub returns : goal.returns
unfolding completion_bytes
returns c completer byte other read same =
    ap (λ (s : List ℕ). head_bytes (completion_head completer read) ++ s) (read_bytes-same byte other read.span same)
