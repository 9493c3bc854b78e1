-- The round words and the hash keys of keys of the pool, computed once.
use Rattle.std.proofs.Common.{◌≡◌, List, [], ◌∷◌, refl}
use Rattle.case_runs.specs.InterfaceCases.{small_key}
use Rattle.aes_block.specs.Aes.{Word, round_words, key_words, temp, expansion, sub_word, sbox, add_round_key}
use Rattle.aes_block.specs.Aes.{shift_rows, mix_columns, mixed_byte}
use Rattle.gcm_seal.specs.Gcm.{BlockNumber, hash_key}
use Rattle.case_runs.proofs.Cipher.{hash_key_is}

abbrev pub words_0 : List Word
words_0 =
    0x00000000 ∷ 0x00000000 ∷ 0x00000000 ∷ 0x00000000 ∷ 0x00000000 ∷ 0x00000000 ∷ 0x00000000 ∷ 0x00000000 ∷
    0x62636363 ∷ 0x62636363 ∷ 0x62636363 ∷ 0x62636363 ∷ 0xaafbfbfb ∷ 0xaafbfbfb ∷ 0xaafbfbfb ∷ 0xaafbfbfb ∷
    0x6f6c6ccf ∷ 0x0d0f0fac ∷ 0x6f6c6ccf ∷ 0x0d0f0fac ∷ 0x7d8d8d6a ∷ 0xd7767691 ∷ 0x7d8d8d6a ∷ 0xd7767691 ∷
    0x5354edc1 ∷ 0x5e5be26d ∷ 0x31378ea2 ∷ 0x3c38810e ∷ 0x968a81c1 ∷ 0x41fcf750 ∷ 0x3c717a3a ∷ 0xeb070cab ∷
    0x9eaa8f28 ∷ 0xc0f16d45 ∷ 0xf1c6e3e7 ∷ 0xcdfe62e9 ∷ 0x2b312bdf ∷ 0x6acddc8f ∷ 0x56bca6b5 ∷ 0xbdbbaa1e ∷
    0x6406fd52 ∷ 0xa4f79017 ∷ 0x553173f0 ∷ 0x98cf1119 ∷ 0x6dbba90b ∷ 0x07767584 ∷ 0x51cad331 ∷ 0xec71792f ∷
    0xe7b0e89c ∷ 0x4347788b ∷ 0x16760b7b ∷ 0x8eb91a62 ∷ 0x74ed0ba1 ∷ 0x739b7e25 ∷ 0x2251ad14 ∷ 0xce20d43b ∷
    0x10f80a17 ∷ 0x53bf729c ∷ 0x45c979e7 ∷ 0xcb706385 ∷ []

pub words_0_are : round_words (small_key 0) ≡ words_0
unfolding key_words temp expansion sub_word sbox
words_0_are = refl

abbrev pub hash_0 : BlockNumber
hash_0 = 0xdc95c078a2408989ad48a21492842087

pub hash_0_is : hash_key (small_key 0) ≡ hash_0
unfolding add_round_key shift_rows mix_columns mixed_byte
hash_0_is = hash_key_is _ words_0_are
