-- The packets of the cases as the cipher makes them. Each body and each tag is computed once, here.
use Rattle.std.proofs.Common.{◌≡◌, ℕ, [], ◌∷◌, ◌++◌, List, Bool, true, false, refl, ap, ◌∙◌}
use Rattle.std.specs.Prelude.{take}
use Rattle.case_runs.specs.InterfaceCases.{write_tlp, small_key}
use Rattle.aes_block.specs.Aes.{mixed_byte, shift_rows, mix_columns, add_round_key}
use Rattle.gcm_seal.specs.Polynomials.{bits}
use Rattle.gcm_seal.specs.Gcm.{counter, masked_bytes, blocks, ghash, tag_of}
use Rattle.ide_prefix.specs.Iv.{iv_of}
use Rattle.ide_prefix.specs.Packet.{Packet, prefix_bytes}
use Rattle.ide_prefix.specs.declared.packet.Prefix.{Prefix}
use Rattle.ide_types.specs.declared.sub.SubKind.{SubKind}
use Rattle.ide_types.specs.declared.sub.SubKind.TheVariants.{Pr, Npr}
use Rattle.spec_links.specs.History.{packet_of}
use Rattle.case_runs.proofs.Cipher.{masked_is, tag_is}
use Rattle.case_runs.proofs.Keys.{words_3_are, words_4_are, words_9_are, hash_3_is, hash_4_is, hash_9_is}
use Rattle.case_runs.specs.ScriptCases.{plan, read_tlp, packet}
use Rattle.case_runs.proofs.Literals.{due_on_literals}

-- the prefix of a packet of stream 5
abbrev pub prefix : Bool → Bool → Bool → SubKind → ℕ → Prefix
prefix m k t sub posted = record { m = m; k = k; t = t; sub = sub; stream = 5; posted = posted }

abbrev pub payload : List ℕ
payload = 0x11 ∷ 0x22 ∷ 0x33 ∷ 0x44 ∷ []

-- what is in clear of a write, and of a read
abbrev pub write_clear : Bool → Bool → List ℕ
write_clear k t = prefix_bytes (prefix true k t Pr 0) ++ take 12 write_tlp

abbrev pub read_clear : Bool → ℕ → List ℕ
read_clear m posted = prefix_bytes (prefix m false false Npr posted) ++ read_tlp

abbrev pub write_packet : Bool → Bool → List ℕ → List ℕ → Packet
write_packet k t body tag = record { prefix = prefix true k t Pr 0; head = take 12 write_tlp; body = body; tag = tag }

abbrev pub asking_packet : Bool → ℕ → List ℕ → Packet
asking_packet m posted tag = record { prefix = prefix m false false Npr posted; head = read_tlp; body = []; tag = tag }

-- ---- bodies and tags

-- of the writes of units 1, 2 and 3 under draw 0
abbrev pub body_1 : List ℕ
body_1 = 0x20 ∷ 0x12 ∷ 0x7a ∷ 0x47 ∷ []

pub body_1_is : masked_bytes (small_key 3) (iv_of Pr 1) 0 payload ≡ body_1
unfolding counter add_round_key shift_rows mix_columns mixed_byte
body_1_is = masked_is _ _ _ _ words_3_are

abbrev pub body_2 : List ℕ
body_2 = 0xa1 ∷ 0x7e ∷ 0xd0 ∷ 0x43 ∷ []

pub body_2_is : masked_bytes (small_key 3) (iv_of Pr 2) 0 payload ≡ body_2
unfolding counter add_round_key shift_rows mix_columns mixed_byte
body_2_is = masked_is _ _ _ _ words_3_are

abbrev pub body_3 : List ℕ
body_3 = 0x8f ∷ 0x73 ∷ 0xcd ∷ 0x99 ∷ []

pub body_3_is : masked_bytes (small_key 3) (iv_of Pr 3) 0 payload ≡ body_3
unfolding counter add_round_key shift_rows mix_columns mixed_byte
body_3_is = masked_is _ _ _ _ words_3_are

abbrev pub tag_1 : List ℕ
tag_1 = 0xf2 ∷ 0x34 ∷ 0x6b ∷ 0x47 ∷ 0x5b ∷ 0x1c ∷ 0x35 ∷ 0x8c ∷ 0xb9 ∷ 0x87 ∷ 0x81 ∷ 0x34 ∷ []

pub tag_1_is : tag_of (small_key 3) (iv_of Pr 1) (write_clear false false) body_1 ≡ tag_1
unfolding ghash blocks bits add_round_key shift_rows mix_columns mixed_byte
tag_1_is = tag_is _ _ _ _ words_3_are hash_3_is

abbrev pub tag_2 : List ℕ
tag_2 = 0x7c ∷ 0x94 ∷ 0x49 ∷ 0x4d ∷ 0x85 ∷ 0x32 ∷ 0x74 ∷ 0x6c ∷ 0x28 ∷ 0x8e ∷ 0x25 ∷ 0xd1 ∷ []

pub tag_2_is : tag_of (small_key 3) (iv_of Pr 2) (write_clear false false) body_2 ≡ tag_2
unfolding ghash blocks bits add_round_key shift_rows mix_columns mixed_byte
tag_2_is = tag_is _ _ _ _ words_3_are hash_3_is

abbrev pub tag_3 : List ℕ
tag_3 = 0x83 ∷ 0xef ∷ 0x22 ∷ 0x57 ∷ 0x49 ∷ 0x5b ∷ 0x0c ∷ 0xcd ∷ 0xa2 ∷ 0x8e ∷ 0x71 ∷ 0x7a ∷ []

pub tag_3_is : tag_of (small_key 3) (iv_of Pr 3) (write_clear false false) body_3 ≡ tag_3
unfolding ghash blocks bits add_round_key shift_rows mix_columns mixed_byte
tag_3_is = tag_is _ _ _ _ words_3_are hash_3_is

-- of the write of unit 1 under draw 1, on an open stream, and on a closed one after one unit
abbrev pub newer_body : List ℕ
newer_body = 0xc8 ∷ 0x92 ∷ 0x27 ∷ 0xe7 ∷ []

pub newer_body_is : masked_bytes (small_key 9) (iv_of Pr 1) 0 payload ≡ newer_body
unfolding counter add_round_key shift_rows mix_columns mixed_byte
newer_body_is = masked_is _ _ _ _ words_9_are

abbrev pub newer_tag : List ℕ
newer_tag = 0x27 ∷ 0x47 ∷ 0x42 ∷ 0x0d ∷ 0x3d ∷ 0x4b ∷ 0x86 ∷ 0x9f ∷ 0x04 ∷ 0x0a ∷ 0xca ∷ 0x88 ∷ []

pub newer_tag_is : tag_of (small_key 9) (iv_of Pr 1) (write_clear true false) newer_body ≡ newer_tag
unfolding ghash blocks bits add_round_key shift_rows mix_columns mixed_byte
newer_tag_is = tag_is _ _ _ _ words_9_are hash_9_is

abbrev pub closed_tag : List ℕ
closed_tag = 0x97 ∷ 0x5b ∷ 0xb0 ∷ 0xfd ∷ 0x35 ∷ 0xe0 ∷ 0x36 ∷ 0x46 ∷ 0x86 ∷ 0x8a ∷ 0xaa ∷ 0xa1 ∷ []

pub closed_tag_is : tag_of (small_key 9) (iv_of Pr 1) (0 ∷ 0 ∷ 0 ∷ 0 ∷ 0 ∷ 0 ∷ 0 ∷ 1 ∷ write_clear true false)
    newer_body ≡ closed_tag
unfolding ghash blocks bits add_round_key shift_rows mix_columns mixed_byte
closed_tag_is = tag_is _ _ _ _ words_9_are hash_9_is

-- of a read after one write, and of a unit of two reads
abbrev pub read_tag : List ℕ
read_tag = 0xea ∷ 0x87 ∷ 0x11 ∷ 0x98 ∷ 0x56 ∷ 0x2d ∷ 0x2c ∷ 0xd4 ∷ 0xed ∷ 0xe5 ∷ 0x91 ∷ 0xe5 ∷ []

pub read_tag_is : tag_of (small_key 4) (iv_of Npr 1) (read_clear true 1) [] ≡ read_tag
unfolding ghash blocks bits add_round_key shift_rows mix_columns mixed_byte
read_tag_is = tag_is _ _ _ _ words_4_are hash_4_is

abbrev pub reads_tag : List ℕ
reads_tag = 0x35 ∷ 0xd1 ∷ 0xff ∷ 0x91 ∷ 0x9e ∷ 0xd6 ∷ 0x01 ∷ 0x3e ∷ 0xd5 ∷ 0xb8 ∷ 0x9c ∷ 0x3e ∷ []

pub reads_tag_is : tag_of (small_key 4) (iv_of Npr 1) (read_clear false 0 ++ read_clear true 0) [] ≡ reads_tag
unfolding ghash blocks bits add_round_key shift_rows mix_columns mixed_byte
reads_tag_is = tag_is _ _ _ _ words_4_are hash_4_is

-- what a receiver compares when it fails: of the first write as unit 2, of that with T, of the third as unit 2, and of
-- the first under draw 1 on a closed stream after no unit
abbrev pub repeated_tag : List ℕ
repeated_tag = 0x16 ∷ 0xe0 ∷ 0xd3 ∷ 0x52 ∷ 0x8a ∷ 0x65 ∷ 0xc1 ∷ 0x3c ∷ 0x65 ∷ 0x02 ∷ 0x7b ∷ 0xf7 ∷ []

pub repeated_tag_is : tag_of (small_key 3) (iv_of Pr 2) (write_clear false false) body_1 ≡ repeated_tag
unfolding ghash blocks bits add_round_key shift_rows mix_columns mixed_byte
repeated_tag_is = tag_is _ _ _ _ words_3_are hash_3_is

abbrev pub trusted_tag : List ℕ
trusted_tag = 0x83 ∷ 0x3d ∷ 0x23 ∷ 0x27 ∷ 0x94 ∷ 0x32 ∷ 0x00 ∷ 0x69 ∷ 0x67 ∷ 0x15 ∷ 0x4c ∷ 0x30 ∷ []

pub trusted_tag_is : tag_of (small_key 3) (iv_of Pr 1) (write_clear false true) body_1 ≡ trusted_tag
unfolding ghash blocks bits add_round_key shift_rows mix_columns mixed_byte
trusted_tag_is = tag_is _ _ _ _ words_3_are hash_3_is

abbrev pub missing_tag : List ℕ
missing_tag = 0xa4 ∷ 0x94 ∷ 0x9d ∷ 0x4d ∷ 0x00 ∷ 0xc8 ∷ 0xd5 ∷ 0xe9 ∷ 0xf2 ∷ 0x38 ∷ 0x78 ∷ 0x14 ∷ []

pub missing_tag_is : tag_of (small_key 3) (iv_of Pr 2) (write_clear false false) body_3 ≡ missing_tag
unfolding ghash blocks bits add_round_key shift_rows mix_columns mixed_byte
missing_tag_is = tag_is _ _ _ _ words_3_are hash_3_is

abbrev pub empty_tag : List ℕ
empty_tag = 0x72 ∷ 0x0f ∷ 0x3d ∷ 0x83 ∷ 0x88 ∷ 0x31 ∷ 0xac ∷ 0xb2 ∷ 0xcc ∷ 0x10 ∷ 0x13 ∷ 0xff ∷ []

pub empty_tag_is : tag_of (small_key 9) (iv_of Pr 1) (0 ∷ 0 ∷ 0 ∷ 0 ∷ 0 ∷ 0 ∷ 0 ∷ 0 ∷ write_clear true false) newer_body
    ≡ empty_tag
unfolding ghash blocks bits add_round_key shift_rows mix_columns mixed_byte
empty_tag_is = tag_is _ _ _ _ words_9_are hash_9_is

-- ---- packets

-- the writes under draw 0, and the first under draw 1
abbrev pub write_1 : Packet
write_1 = write_packet false false body_1 tag_1

abbrev pub write_2 : Packet
write_2 = write_packet false false body_2 tag_2

abbrev pub write_3 : Packet
write_3 = write_packet false false body_3 tag_3

abbrev pub newer_write : Packet
newer_write = write_packet true false newer_body newer_tag

abbrev pub closed_write : Packet
closed_write = write_packet true false newer_body closed_tag

-- the first write with T set on the way, and with K set
abbrev pub trusted_write : Packet
trusted_write = write_packet false true body_1 tag_1

abbrev pub rekeyed_write : Packet
rekeyed_write = write_packet true false body_1 tag_1

-- a read after one write, and two reads of one unit
abbrev pub read_behind : Packet
read_behind = asking_packet true 1 read_tag

abbrev pub first_read : Packet
first_read = asking_packet false 0 []

abbrev pub second_read : Packet
second_read = asking_packet true 0 reads_tag

-- what is sealed is each of them
pub write_1_is : packet_of (plan 1 false) [] write_tlp (packet 1 Pr 0 1 true 0) [] ≡ write_1
unfolding due_on_literals
write_1_is =
    ap (λ (b : List ℕ). write_packet false false b
    (tag_of (small_key 3) (iv_of Pr 1) (write_clear false false) (b ++ [])))
    body_1_is
    ∙ ap (write_packet false false body_1) tag_1_is

pub write_2_is : packet_of (plan 1 false) [] write_tlp (packet 2 Pr 0 2 true 0) [] ≡ write_2
unfolding due_on_literals
write_2_is =
    ap (λ (b : List ℕ). write_packet false false b
    (tag_of (small_key 3) (iv_of Pr 2) (write_clear false false) (b ++ [])))
    body_2_is
    ∙ ap (write_packet false false body_2) tag_2_is

pub write_3_is : packet_of (plan 1 false) [] write_tlp (packet 3 Pr 0 3 true 0) [] ≡ write_3
unfolding due_on_literals
write_3_is =
    ap (λ (b : List ℕ). write_packet false false b
    (tag_of (small_key 3) (iv_of Pr 3) (write_clear false false) (b ++ [])))
    body_3_is
    ∙ ap (write_packet false false body_3) tag_3_is

pub newer_2_is : packet_of (plan 1 false) [] write_tlp (packet 2 Pr 1 1 true 0) [] ≡ newer_write
unfolding due_on_literals
newer_2_is =
    ap (λ (b : List ℕ). write_packet true false b
    (tag_of (small_key 9) (iv_of Pr 1) (write_clear true false) (b ++ [])))
    newer_body_is
    ∙ ap (write_packet true false newer_body) newer_tag_is

pub newer_3_is : packet_of (plan 1 false) [] write_tlp (packet 3 Pr 1 1 true 0) [] ≡ newer_write
unfolding due_on_literals
newer_3_is =
    ap (λ (b : List ℕ). write_packet true false b
    (tag_of (small_key 9) (iv_of Pr 1) (write_clear true false) (b ++ [])))
    newer_body_is
    ∙ ap (write_packet true false newer_body) newer_tag_is

pub closed_2_is : packet_of (plan 1 true) (0 ∷ 0 ∷ 0 ∷ 0 ∷ 0 ∷ 0 ∷ 0 ∷ 1 ∷ []) write_tlp (packet 2 Pr 1 1 true 0) []
    ≡ closed_write
unfolding due_on_literals
closed_2_is =
    ap (λ (b : List ℕ). write_packet true false b
    (tag_of (small_key 9) (iv_of Pr 1) (0 ∷ 0 ∷ 0 ∷ 0 ∷ 0 ∷ 0 ∷ 0 ∷ 1 ∷ write_clear true false) (b ++ [])))
    newer_body_is
    ∙ ap (write_packet true false newer_body) closed_tag_is

pub read_behind_is : packet_of (plan 1 false) [] read_tlp (packet 2 Npr 0 1 true 1) [] ≡ read_behind
unfolding due_on_literals masked_bytes
read_behind_is = ap (asking_packet true 1) read_tag_is

pub first_read_is : packet_of (plan 2 false) [] read_tlp (packet 1 Npr 0 1 false 0) [] ≡ first_read
unfolding due_on_literals masked_bytes
first_read_is = refl

pub second_read_is : packet_of (plan 2 false) [] read_tlp (packet 2 Npr 0 1 true 0) (first_read ∷ []) ≡ second_read
unfolding due_on_literals masked_bytes
second_read_is = ap (asking_packet true 0) reads_tag_is
