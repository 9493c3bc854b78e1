-- The definitions on test cases 13, 14 and 16 of the GCM specification, the tags cut to 12 bytes.
use Rattle.std.proofs.Common.{◌≡◌, ◌/◌, [], ◌∷◌, length, take, replicate, bit_xor, ap, ◌∙◌}
use Rattle.std.specs.Int.{w128, from_be_bytes, to_be_bytes}
use Rattle.aes_block.specs.Aes.{Key, Block, key_words, mixed_byte, shift_rows, mix_columns, add_round_key, aes}
use Rattle.aes_block.proofs.LookedUp.{looked_up_aes, looked_up_cipher, looked_up_expansion, looked_up_rounds}
use Rattle.aes_block.proofs.LookedUp.{looked_up_next, looked_up_temp, looked_up_word, looked_up_bytes, aes-looked_up}
use Rattle.gcm_seal.specs.Polynomials.{bits}
use Rattle.gcm_seal.specs.Gcm.{Bytes, Iv, Tag, BlockNumber, seal_of, ciphertext_of, tag_of, ghash, hash_key, blocks}
use Rattle.gcm_seal.specs.Gcm.{hash_input, first_counter, counter, combined_bytes, masked_bytes, key_stream}

-- the tag, of the hash subkey and the cipher's output at the first counter block
tag_from : (key : Key) (iv : Iv) (a c : Bytes) (h : BlockNumber) (mask : Block)
    → hash_key key ≡ h → aes key (first_counter iv) ≡ mask
    → tag_of key iv a c ≡ take 12 (to_be_bytes w128 (bit_xor
    (ghash h (blocks (hash_input a c) (length (hash_input a c) / 16))) (from_be_bytes w128 mask)))
unfolding tag_of
tag_from key iv a c h mask hash first =
    let s = hash_input a c in
    λ i. take 12 (to_be_bytes w128 (bit_xor (ghash (hash i) (blocks s (length s / 16))) (from_be_bytes w128 (first i))))

-- under the key of zeros, the hash subkey and the cipher's outputs at the first two counter blocks
zero_hash_key : hash_key (replicate 32 0) ≡ 0xdc95c078a2408989ad48a21492842087
unfolding hash_key looked_up_aes looked_up_cipher looked_up_expansion looked_up_rounds looked_up_next looked_up_temp
    looked_up_word looked_up_bytes add_round_key mixed_byte mix_columns shift_rows key_words
zero_hash_key = ap (from_be_bytes w128) (aes-looked_up (replicate 32 0) (replicate 16 0))

zero_first : aes (replicate 32 0) (first_counter (replicate 12 0))
    ≡ (0x53 ∷ 0x0f ∷ 0x8a ∷ 0xfb ∷ 0xc7 ∷ 0x45 ∷ 0x36 ∷ 0xb9 ∷ 0xa9 ∷ 0x63 ∷ 0xb4 ∷ 0xf1 ∷ 0xc4 ∷ 0xcb ∷ 0x73 ∷ 0x8b
    ∷ [])
unfolding looked_up_aes looked_up_cipher looked_up_expansion looked_up_rounds looked_up_next looked_up_temp
    looked_up_word looked_up_bytes add_round_key mixed_byte mix_columns shift_rows key_words
zero_first = aes-looked_up (replicate 32 0) (first_counter (replicate 12 0))

zero_second : aes (replicate 32 0) (counter (replicate 12 0) 1)
    ≡ (0xce ∷ 0xa7 ∷ 0x40 ∷ 0x3d ∷ 0x4d ∷ 0x60 ∷ 0x6b ∷ 0x6e ∷ 0x07 ∷ 0x4e ∷ 0xc5 ∷ 0xd3 ∷ 0xba ∷ 0xf3 ∷ 0x9d ∷ 0x18
    ∷ [])
unfolding counter looked_up_aes looked_up_cipher looked_up_expansion looked_up_rounds looked_up_next looked_up_temp
    looked_up_word looked_up_bytes add_round_key mixed_byte mix_columns shift_rows key_words
zero_second = aes-looked_up (replicate 32 0) (counter (replicate 12 0) 1)

-- the empty plaintext
pub empty-example : seal_of (replicate 32 0) (replicate 12 0) [] []
    ≡ ([], (0x53 ∷ 0x0f ∷ 0x8a ∷ 0xfb ∷ 0xc7 ∷ 0x45 ∷ 0x36 ∷ 0xb9 ∷ 0xa9 ∷ 0x63 ∷ 0xb4 ∷ 0xf1 ∷ []))
unfolding seal_of ciphertext_of ghash blocks masked_bytes key_stream bits
empty-example = ap (λ (t : Tag). ([], t))
    (tag_from (replicate 32 0) (replicate 12 0) [] [] _ _ zero_hash_key zero_first)

-- a plaintext of one block
pub block-example : seal_of (replicate 32 0) (replicate 12 0) [] (replicate 16 0) ≡ (
  (0xce ∷ 0xa7 ∷ 0x40 ∷ 0x3d ∷ 0x4d ∷ 0x60 ∷ 0x6b ∷ 0x6e ∷ 0x07 ∷ 0x4e ∷ 0xc5 ∷ 0xd3 ∷ 0xba ∷ 0xf3 ∷ 0x9d ∷ 0x18 ∷ []),
  (0xd0 ∷ 0xd1 ∷ 0xc8 ∷ 0xa7 ∷ 0x99 ∷ 0x99 ∷ 0x6b ∷ 0xf0 ∷ 0x26 ∷ 0x5b ∷ 0x98 ∷ 0xb5 ∷ []),
)
unfolding seal_of ciphertext_of ghash blocks masked_bytes key_stream bits
block-example =
    let key = replicate 32 0 in
    let iv = replicate 12 0 in
    (λ i. let c = combined_bytes (replicate 16 0) (zero_second i) in (c, tag_of key iv [] c))
    ∙ ap (λ (t : Tag). (
      0xce ∷ 0xa7 ∷ 0x40 ∷ 0x3d ∷ 0x4d ∷ 0x60 ∷ 0x6b ∷ 0x6e ∷ 0x07 ∷ 0x4e ∷ 0xc5 ∷ 0xd3 ∷ 0xba ∷ 0xf3
          ∷ 0x9d ∷ 0x18 ∷ [],
      t,
    )) (tag_from key iv [] _ _ _ zero_hash_key zero_first)

-- the key and the initialization vector of case 16; under that key, the hash subkey and the cipher's output at the first
-- counter block
case_key : Key
case_key =
    0xfe ∷ 0xff ∷ 0xe9 ∷ 0x92 ∷ 0x86 ∷ 0x65 ∷ 0x73 ∷ 0x1c ∷ 0x6d ∷ 0x6a ∷ 0x8f ∷ 0x94 ∷ 0x67 ∷ 0x30 ∷ 0x83 ∷ 0x08 ∷
    0xfe ∷ 0xff ∷ 0xe9 ∷ 0x92 ∷ 0x86 ∷ 0x65 ∷ 0x73 ∷ 0x1c ∷ 0x6d ∷ 0x6a ∷ 0x8f ∷ 0x94 ∷ 0x67 ∷ 0x30 ∷ 0x83 ∷ 0x08 ∷ []

case_iv : Iv
case_iv = 0xca ∷ 0xfe ∷ 0xba ∷ 0xbe ∷ 0xfa ∷ 0xce ∷ 0xdb ∷ 0xad ∷ 0xde ∷ 0xca ∷ 0xf8 ∷ 0x88 ∷ []

case_hash_key : hash_key case_key ≡ 0xacbef20579b4b8ebce889bac8732dad7
unfolding case_key hash_key looked_up_aes looked_up_cipher looked_up_expansion looked_up_rounds looked_up_next
    looked_up_temp looked_up_word looked_up_bytes add_round_key mixed_byte mix_columns shift_rows key_words
case_hash_key = ap (from_be_bytes w128) (aes-looked_up case_key (replicate 16 0))

case_first : aes case_key (first_counter case_iv)
    ≡ (0xfd ∷ 0x2c ∷ 0xaa ∷ 0x16 ∷ 0xa5 ∷ 0x83 ∷ 0x2e ∷ 0x76 ∷ 0xaa ∷ 0x13 ∷ 0x2c ∷ 0x14 ∷ 0x53 ∷ 0xee ∷ 0xda ∷ 0x7e
    ∷ [])
unfolding case_key case_iv looked_up_aes looked_up_cipher looked_up_expansion looked_up_rounds looked_up_next
    looked_up_temp looked_up_word looked_up_bytes add_round_key mixed_byte mix_columns shift_rows key_words
case_first = aes-looked_up case_key (first_counter case_iv)

-- additional data, and a ciphertext that ends inside a block
pub long-example : tag_of
    (0xfe ∷ 0xff ∷ 0xe9 ∷ 0x92 ∷ 0x86 ∷ 0x65 ∷ 0x73 ∷ 0x1c ∷ 0x6d ∷ 0x6a ∷ 0x8f ∷ 0x94 ∷ 0x67 ∷ 0x30 ∷ 0x83 ∷ 0x08
    ∷ 0xfe ∷ 0xff ∷ 0xe9 ∷ 0x92 ∷ 0x86 ∷ 0x65 ∷ 0x73 ∷ 0x1c ∷ 0x6d ∷ 0x6a ∷ 0x8f ∷ 0x94 ∷ 0x67 ∷ 0x30
    ∷ 0x83 ∷ 0x08 ∷ []) (0xca ∷ 0xfe ∷ 0xba ∷ 0xbe ∷ 0xfa ∷ 0xce ∷ 0xdb ∷ 0xad ∷ 0xde ∷ 0xca ∷ 0xf8 ∷ 0x88 ∷ [])
    (0xfe ∷ 0xed ∷ 0xfa ∷ 0xce ∷ 0xde ∷ 0xad ∷ 0xbe ∷ 0xef ∷ 0xfe ∷ 0xed ∷ 0xfa ∷ 0xce ∷ 0xde ∷ 0xad ∷ 0xbe ∷ 0xef
    ∷ 0xab ∷ 0xad
    ∷ 0xda ∷ 0xd2 ∷ []) (0x52 ∷ 0x2d ∷ 0xc1 ∷ 0xf0 ∷ 0x99 ∷ 0x56 ∷ 0x7d ∷ 0x07 ∷ 0xf4 ∷ 0x7f ∷ 0x37 ∷ 0xa3 ∷ 0x2a ∷ 0x84
    ∷ 0x42 ∷ 0x7d ∷ 0x64 ∷ 0x3a ∷ 0x8c ∷ 0xdc ∷ 0xbf ∷ 0xe5 ∷ 0xc0 ∷ 0xc9 ∷ 0x75 ∷ 0x98 ∷ 0xa2 ∷ 0xbd ∷ 0x25 ∷ 0x55
    ∷ 0xd1
    ∷ 0xaa ∷ 0x8c ∷ 0xb0 ∷ 0x8e ∷ 0x48 ∷ 0x59 ∷ 0x0d ∷ 0xbb ∷ 0x3d ∷ 0xa7 ∷ 0xb0 ∷ 0x8b ∷ 0x10 ∷ 0x56 ∷ 0x82 ∷ 0x88
    ∷ 0x38 ∷ 0xc5 ∷ 0xf6 ∷ 0x1e ∷ 0x63 ∷ 0x93 ∷ 0xba ∷ 0x7a ∷ 0x0a ∷ 0xbc ∷ 0xc9 ∷ 0xf6 ∷ 0x62 ∷ [])
    ≡ (0x76 ∷ 0xfc ∷ 0x6e ∷ 0xce ∷ 0x0f ∷ 0x4e ∷ 0x17 ∷ 0x68 ∷ 0xcd ∷ 0xdf ∷ 0x88 ∷ 0x53 ∷ [])
unfolding ghash blocks bits case_key case_iv
long-example = tag_from case_key case_iv _ _ _ _ case_hash_key case_first
