use Rattle.std.proofs.Common.{◌≡◌, ◌-◌, take, length}
use Rattle.aes_block.specs.Aes.{key_words, expansion}
use Rattle.aes_block.proofs.expanded.Given as goal

abbrev pub invariant-load : goal.invariant-load
invariant-load l = record {
  long : length l.words ≡ 60;
  loaded : take l.i l.words ≡ key_words l.key l.i;
}

abbrev pub invariant-expand : goal.invariant-expand
invariant-expand l = record {
  long : length l.words ≡ 60;
  expanded : take l.i l.words ≡ expansion l.key (l.i - 8);
}
