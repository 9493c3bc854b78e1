use Rattle.std.proofs.Common.{◌-◌}
use Rattle.aes_block.specs.Aes.{round_words, rounds}
use Rattle.aes_block.specs.Nibbles.{IsCoded}
use Rattle.aes_block.proofs.Aes256.output.Given as goal

abbrev pub invariant-rounds : goal.invariant-rounds
invariant-rounds l = IsCoded (rounds (round_words l.self-inside.key) l.fn.block (l.n - 1)) l.s
