-- The round words and the hash keys of keys of the pool, computed once.
use Rattle.std.proofs.Common.{◌≡◌, List, [], ◌∷◌, refl}
use Rattle.case_runs.specs.InterfaceCases.{small_key}
use Rattle.aes_block.specs.Aes.{Word, round_words, key_words, temp, expansion, sub_word, sbox, add_round_key}
use Rattle.aes_block.specs.Aes.{shift_rows, mix_columns, mixed_byte}
use Rattle.gcm_seal.specs.Gcm.{BlockNumber, hash_key}
use Rattle.case_runs.proofs.Cipher.{hash_key_is}

abbrev pub words_3 : List Word
words_3 =
    0x00000000 ∷ 0x00000000 ∷ 0x00000000 ∷ 0x00000000 ∷ 0x00000000 ∷ 0x00000000 ∷ 0x00000000 ∷ 0x00000003 ∷
    0x62637b63 ∷ 0x62637b63 ∷ 0x62637b63 ∷ 0x62637b63 ∷ 0xaafb21fb ∷ 0xaafb21fb ∷ 0xaafb21fb ∷ 0xaafb21f8 ∷
    0x6f9e3acf ∷ 0x0dfd41ac ∷ 0x6f9e3acf ∷ 0x0dfd41ac ∷ 0x7dafa26a ∷ 0xd7548391 ∷ 0x7dafa26a ∷ 0xd7548392 ∷
    0x4b7275c1 ∷ 0x468f346d ∷ 0x29110ea2 ∷ 0x24ec4f0e ∷ 0x4b6126c1 ∷ 0x9c35a550 ∷ 0xe19a073a ∷ 0x36ce84a8 ∷
    0xc82db7c4 ∷ 0x8ea283a9 ∷ 0xa7b38d0b ∷ 0x835fc205 ∷ 0xa7ae03aa ∷ 0x3b9ba6fa ∷ 0xda01a1c0 ∷ 0xeccf2568 ∷
    0x5212f20a ∷ 0xdcb071a3 ∷ 0x7b03fca8 ∷ 0xf85c3ead ∷ 0xe6e4b13f ∷ 0xdd7f17c5 ∷ 0x077eb605 ∷ 0xebb1936d ∷
    0xbacecee3 ∷ 0x667ebf40 ∷ 0x1d7d43e8 ∷ 0xe5217d45 ∷ 0x3f194e51 ∷ 0xe2665994 ∷ 0xe518ef91 ∷ 0x0ea97cfc ∷
    0x29de7e48 ∷ 0x4fa0c108 ∷ 0x52dd82e0 ∷ 0xb7fcffa5 ∷ []

pub words_3_are : round_words (small_key 3) ≡ words_3
unfolding key_words temp expansion sub_word sbox
words_3_are = refl

abbrev pub hash_3 : BlockNumber
hash_3 = 0xbf701e7f51c292f1cc242a991578eb2a

pub hash_3_is : hash_key (small_key 3) ≡ hash_3
unfolding add_round_key shift_rows mix_columns mixed_byte
hash_3_is = hash_key_is _ words_3_are

abbrev pub words_4 : List Word
words_4 =
    0x00000000 ∷ 0x00000000 ∷ 0x00000000 ∷ 0x00000000 ∷ 0x00000000 ∷ 0x00000000 ∷ 0x00000000 ∷ 0x00000004 ∷
    0x6263f263 ∷ 0x6263f263 ∷ 0x6263f263 ∷ 0x6263f263 ∷ 0xaafb89fb ∷ 0xaafb89fb ∷ 0xaafb89fb ∷ 0xaafb89ff ∷
    0x6fc4e4cf ∷ 0x0da716ac ∷ 0x6fc4e4cf ∷ 0x0da716ac ∷ 0x7da7ce6a ∷ 0xd75c4791 ∷ 0x7da7ce6a ∷ 0xd75c4795 ∷
    0x2164cec1 ∷ 0x2cc3d86d ∷ 0x43073ca2 ∷ 0x4ea02a0e ∷ 0x52472bc1 ∷ 0x851b6c50 ∷ 0xf8bca23a ∷ 0x2fe0e5af ∷
    0xc8bdb7d4 ∷ 0xe47e6fb9 ∷ 0xa779531b ∷ 0xe9d97915 ∷ 0x4c729d98 ∷ 0xc969f1c8 ∷ 0x31d553f2 ∷ 0x1e35b65d ∷
    0x4ef3fba6 ∷ 0xaa8d941f ∷ 0x0df4c704 ∷ 0xe42dbe11 ∷ 0x25aa331a ∷ 0xecc3c2d2 ∷ 0xdd169120 ∷ 0xc323277d ∷
    0x483f0488 ∷ 0xe2b29097 ∷ 0xef465793 ∷ 0x0b6be982 ∷ 0x0ed52d09 ∷ 0xe216efdb ∷ 0x3f007efb ∷ 0xfc235986 ∷
    0x2ef44038 ∷ 0xcc46d0af ∷ 0x2300873c ∷ 0x286b6ebe ∷ []

pub words_4_are : round_words (small_key 4) ≡ words_4
unfolding key_words temp expansion sub_word sbox
words_4_are = refl

abbrev pub hash_4 : BlockNumber
hash_4 = 0x119eaebcc165d0bd02c0d35dc82ef992

pub hash_4_is : hash_key (small_key 4) ≡ hash_4
unfolding add_round_key shift_rows mix_columns mixed_byte
hash_4_is = hash_key_is _ words_4_are

abbrev pub words_9 : List Word
words_9 =
    0x00000000 ∷ 0x00000000 ∷ 0x00000000 ∷ 0x00000000 ∷ 0x00000000 ∷ 0x00000000 ∷ 0x00000000 ∷ 0x00000009 ∷
    0x62630163 ∷ 0x62630163 ∷ 0x62630163 ∷ 0x62630163 ∷ 0xaafb7cfb ∷ 0xaafb7cfb ∷ 0xaafb7cfb ∷ 0xaafb7cf2 ∷
    0x6f7388cf ∷ 0x0d1089ac ∷ 0x6f7388cf ∷ 0x0d1089ac ∷ 0x7d31db6a ∷ 0xd7caa791 ∷ 0x7d31db6a ∷ 0xd7caa798 ∷
    0x1f2fcec1 ∷ 0x123f476d ∷ 0x7d4ccfa2 ∷ 0x705c460e ∷ 0x2c7b81c1 ∷ 0xfbb12650 ∷ 0x8680fd3a ∷ 0x514a5aa2 ∷
    0xc191f410 ∷ 0xd3aeb37d ∷ 0xaee27cdf ∷ 0xdebe3ad1 ∷ 0x31d501ff ∷ 0xca6427af ∷ 0x4ce4da95 ∷ 0x1dae8037 ∷
    0x355c6eb4 ∷ 0xe6f2ddc9 ∷ 0x4810a116 ∷ 0x96ae9bc7 ∷ 0xa1311539 ∷ 0x6b553296 ∷ 0x27b1e803 ∷ 0x3a1f6834 ∷
    0xd5197634 ∷ 0x33ebabfd ∷ 0x7bfb0aeb ∷ 0xed55912c ∷ 0xf4cd9448 ∷ 0x9f98a6de ∷ 0xb8294edd ∷ 0x823626e9 ∷
    0x90ee6827 ∷ 0xa305c3da ∷ 0xd8fec931 ∷ 0x35ab581d ∷ []

pub words_9_are : round_words (small_key 9) ≡ words_9
unfolding key_words temp expansion sub_word sbox
words_9_are = refl

abbrev pub hash_9 : BlockNumber
hash_9 = 0x65ebe6fc3292ab5c0f7db3bf9921b614

pub hash_9_is : hash_key (small_key 9) ≡ hash_9
unfolding add_round_key shift_rows mix_columns mixed_byte
hash_9_is = hash_key_is _ words_9_are
