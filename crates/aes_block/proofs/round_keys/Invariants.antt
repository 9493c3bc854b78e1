use Rattle.std.proofs.Common.{◌≡◌, ◌<◌, ℕ, length, map}
use Rattle.aes_block.specs.Aes.{round_key}
use Rattle.aes_block.specs.Inside.{spread}
use Rattle.aes_block.specs.Nibbles.{bytes_at, code, key_code}
use Rattle.aes_block.proofs.round_keys.Given as goal

abbrev pub invariant-keys : goal.invariant-keys
invariant-keys l = record {
  long : length l.keys ≡ 15;
  first : bytes_at l.keys 0 ≡ map code (spread (round_key l.words 0));
  made : (k : ℕ) → 0 < k → k < l.n → bytes_at l.keys k ≡ map key_code (spread (round_key l.words k));
}
