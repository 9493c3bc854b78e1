-- Sealing and opening: lengths and bytes, what masking twice gives, and when a tag verifies.
use Rattle.std.proofs.Common.{◌≡◌, ℕ, ◌+◌, ◌-◌, ◌%◌, ◌<◌, true, List, ◌++◌, length, bit_xor, slice_index, refl, sym, ap}
use Rattle.std.proofs.Common.{◌∙◌, arith, inl, inr, length-append}
use Rattle.std.specs.Prelude.{All}
use Rattle.std.specs.Int.{w128, to_be_bytes}
use Rattle.std.proofs.lemmas.Bool.{cases_lt}
use Rattle.std.proofs.lemmas.Nat.{xor_lt}
use Rattle.std.proofs.lemmas.List.{get_or_append_left, get_or-append_right}
use Rattle.std.proofs.lemmas.List.Elements.{All-get_or, All-from_get_or, All-take}
use Rattle.std.proofs.lemmas.Slice.Eq.{bytes_eq-Decides}
use lib.Bits.{xor_assoc, xor_self, xor_zero_r}
use Rattle.aes_block.proofs.Blocks.{IsByte, aes-bytes, at-byte, bytes-high_first}
use Rattle.gcm_seal.specs.Gcm.{masked_bytes, tag_of, open_of, verifies}
use Rattle.gcm_seal.proofs.Strings.{masked_bytes-at, masked_from, stream_byte}
pub use Rattle.gcm_seal.proofs.Strings.{length-masked_bytes}

-- ---- the key stream over pieces

pub masked_bytes-masked_bytes : (key iv : List ℕ) (n : ℕ) (xs : List ℕ)
    → masked_bytes key iv n (masked_bytes key iv n xs) ≡ xs
masked_bytes-masked_bytes key iv n xs =
    let once = masked_bytes key iv n xs in
    let long : length once ≡ length xs = length-masked_bytes key iv n xs in
    sym (masked_from key iv n once xs (sym long) (λ i lt.
    let within : i < length xs = omega (arith, long) in
    let x : ℕ = slice_index xs i in
    let k : ℕ = stream_byte key iv (n + i) in
    sym (ap (λ (y : ℕ). bit_xor y k) (masked_bytes-at key iv n xs i within) ∙ xor_assoc x k k ∙ ap (bit_xor x)
    (xor_self k) ∙
    xor_zero_r x)))

-- the masked string of two pieces
pub masked_bytes-append : (key iv : List ℕ) (n : ℕ) (xs ys : List ℕ)
    → masked_bytes key iv n (xs ++ ys) ≡ masked_bytes key iv n xs ++ masked_bytes key iv (n + length xs) ys
masked_bytes-append key iv n xs ys =
    let a = masked_bytes key iv n xs in
    let b = masked_bytes key iv (n + length xs) ys in
    let la : length a ≡ length xs = length-masked_bytes key iv n xs in
    let lb : length b ≡ length ys = length-masked_bytes key iv (n + length xs) ys in
    let all : length (a ++ b) ≡ length (xs ++ ys) = omega (arith, length-append a b, length-append xs ys, la, lb) in
    sym (masked_from key iv n (xs ++ ys) (a ++ b) all (λ i lt.
    elim (cases_lt i (length xs)) [
      | inl front ↦
          get_or_append_left a b 0 i (omega (arith, la))
          ∙ masked_bytes-at key iv n xs i front
          ∙ sym (ap (λ (x : ℕ). bit_xor x (stream_byte key iv (n + i))) (get_or_append_left xs ys 0 i front))
      | inr back ↦
          let place : n + length xs + (i - length xs) ≡ n + i = omega arith in
          let within : i - length xs < length ys = omega (arith, length-append xs ys) in
          get_or-append_right a b (length xs) i 0 la back
          ∙ masked_bytes-at key iv (n + length xs) ys (i - length xs) within
          ∙ rw place (sym (ap (λ (x : ℕ). bit_xor x (stream_byte key iv (n + i)))
          (get_or-append_right xs ys (length xs) i 0 refl back)))
    ]))

-- ---- lengths and bytes

stream_byte-byte : (key iv : List ℕ) (k : ℕ) → IsByte (stream_byte key iv k)
stream_byte-byte key iv k = at-byte _ (k % 16) (aes-bytes key _)

pub masked-bytes : (key iv : List ℕ) (n : ℕ) (xs : List ℕ) → All IsByte xs → All IsByte (masked_bytes key iv n xs)
masked-bytes key iv n xs h =
    All-from_get_or IsByte (masked_bytes key iv n xs) 0 (λ i lt.
    let within : i < length xs = omega (arith, length-masked_bytes key iv n xs) in
    rw (masked_bytes-at key iv n xs i within)
    (xor_lt 8 (slice_index xs i) (stream_byte key iv (n + i)) (All-get_or IsByte xs i 0 within h)
    (stream_byte-byte key iv (n + i))))

pub length-open_of : (key iv c : List ℕ) → length (open_of key iv c) ≡ length c
unfolding open_of
length-open_of key iv c = length-masked_bytes key iv 0 c

pub length-tag_of : (key iv a c : List ℕ) → length (tag_of key iv a c) ≡ 12
unfolding tag_of
length-tag_of key iv a c = refl

pub tag_of-bytes : (key iv a c : List ℕ) → All IsByte (tag_of key iv a c)
unfolding tag_of
tag_of-bytes key iv a c = All-take IsByte 12 (to_be_bytes w128 _) (bytes-high_first 16 _)

-- ---- tags

pub verifies-tag : (key iv a c t : List ℕ) → verifies key iv a c t ≡ true → t ≡ tag_of key iv a c
unfolding verifies
verifies-tag key iv a c t e = (bytes_eq-Decides t (tag_of key iv a c)).0 e

pub tag-verifies : (key iv a c t : List ℕ) → t ≡ tag_of key iv a c → verifies key iv a c t ≡ true
unfolding verifies
tag-verifies key iv a c t e = (bytes_eq-Decides t (tag_of key iv a c)).1 e
