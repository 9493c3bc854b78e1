use Rattle.std.proofs.Common.{◌-◌}
use Rattle.aes_block.specs.Aes.{round_words, rounds}
use Rattle.aes_block.specs.Nibbles.{AreCoded}
use Rattle.aes_block.proofs.Aes256.output_four.Given as goal

abbrev pub invariant-rounds : goal.invariant-rounds
invariant-rounds l =
    let ws = round_words l.self-inside.key in
    record {
      front : AreCoded (rounds ws l.fn.a (l.n - 1)) (rounds ws l.fn.b (l.n - 1)) l.s;
      back : AreCoded (rounds ws l.fn.c (l.n - 1)) (rounds ws l.fn.d (l.n - 1)) l.t;
    }
