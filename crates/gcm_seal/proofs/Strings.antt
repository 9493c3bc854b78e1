-- Blocks, counters and masks as lists of bytes: a masked string is combined byte by byte with the key stream, and the
-- blocks that are hashed are those that the code reads. The key stream goes by induction on its blocks, so that byte k
-- is byte k % 16 of one encrypted counter block; a block is fixed by its 16 bytes, so neither zeros after a string nor
-- whole blocks before it change one.
use Rattle.std.proofs.Common.{replicate, append_assoc, append-nil, slice_range, ◌≡◌, ℕ, zero, suc, ◌+◌, ◌-◌, ◌*◌, ◌/◌}
use Rattle.std.proofs.Common.{◌%◌, ◌^◌, ◌<◌, ◌≤◌, List, [], ◌∷◌, ◌++◌, length, take, drop, bit_xor, slice_index, refl}
use Rattle.std.proofs.Common.{sym, ap, ◌∙◌, arith, inl, inr, lit<}
use Rattle.std.proofs.lemmas.List.{get_or-take, get_or-replicate, get_or_past, length-replicate, get_or_append_left}
use Rattle.std.proofs.lemmas.List.{get_or-append_right, get_or-drop, length-append, length-drop, drop_all, take_all}
use Rattle.std.proofs.lemmas.List.{take-append-le, drop-append-le}
use Rattle.std.proofs.lemmas.Bool.{cases_lt}
use Rattle.std.proofs.lemmas.Grind.{same_number_lists, div_ceil_times}
use Rattle.std.proofs.lemmas.Nat.{from_be_bytes-to_be_bytes_4, from_be_bytes-to_be_bytes_8}
use Rattle.std.specs.Int.{div_ceil, w32, w64, w128, from_be_bytes, to_be_bytes}
use Rattle.aes_block.specs.Aes.{aes}
use Rattle.aes_block.proofs.Blocks.{length-aes}
use lib.Lanes.{zip2}
use Rattle.gcm_seal.specs.Gcm.{counter, masked_bytes, combined_bytes, key_stream, padding_zeros, hash_input, block}
use Rattle.gcm_seal.specs.Gcm.{blocks}
use Rattle.gcm_seal.specs.Inside.{padded_block, padded_blocks}

-- two strings with the same first 16 bytes spell the same block
pub number_same : (a b : List ℕ) → ((k : ℕ) → k < 16 → slice_index a k ≡ slice_index b k) → from_be_bytes w128 a
    ≡ from_be_bytes w128 b
number_same a b h =
    rw (
      h 0 (lit< tt),
      h 1 (lit< tt),
      h 2 (lit< tt),
      h 3 (lit< tt),
      h 4 (lit< tt),
      h 5 (lit< tt),
      h 6 (lit< tt),
      h 7 (lit< tt),
      h 8 (lit< tt),
      h 9 (lit< tt),
      h 10 (lit< tt),
      h 11 (lit< tt),
      h 12 (lit< tt),
      h 13 (lit< tt),
      h 14 (lit< tt),
      h 15 (lit< tt),
    ) refl

-- the counter blocks count up in the last 4 bytes
pub counter-at : (iv : List ℕ) (n : ℕ) → length iv ≡ 12 → n + 1 < 2 ^ 32 → counter iv n ≡ iv ++ to_be_bytes w32 (n + 1)
unfolding counter
counter-at iv zero e lt = refl
counter-at iv (suc n) e lt =
    let next : (n + 1 + 1) % 2 ^ 32 ≡ suc n + 1 = omega arith in
    rw (
      counter-at iv n e (omega arith),
      front iv (to_be_bytes w32 (n + 1)) e,
      back iv (to_be_bytes w32 (n + 1)) e,
      from_be_bytes-to_be_bytes_4 (n + 1) (omega arith),
      next,
    )
    refl where
      front : (iv bs : List ℕ) → length iv ≡ 12 → take 12 (iv ++ bs) ≡ iv
      front iv bs e = take-append-le 12 iv bs (omega arith) ∙ take_all 12 iv (omega arith)

      back : (iv bs : List ℕ) → length iv ≡ 12 → drop 12 (iv ++ bs) ≡ bs
      back iv bs e = drop-append-le 12 iv bs (omega arith) ∙ rw (drop_all 12 iv (omega arith)) refl

-- byte k of the key stream
abbrev pub stream_byte : List ℕ → List ℕ → ℕ → ℕ
stream_byte key iv k = slice_index (aes key (counter iv (k / 16 + 1))) (k % 16)

length-stream : (key iv : List ℕ) (n : ℕ) → length (key_stream key iv n) ≡ 16 * n
unfolding key_stream
length-stream key iv zero = refl
length-stream key iv (suc n) = length-append (key_stream key iv n) (aes key (counter iv (suc n)))
    ∙ omega (arith, length-stream key iv n, length-aes key (counter iv (suc n)))

stream-at : (key iv : List ℕ) (n k : ℕ) → k < 16 * n → slice_index (key_stream key iv n) k ≡ stream_byte key iv k
unfolding key_stream
stream-at key iv zero k lt = absurd (omega arith)
stream-at key iv (suc n) k lt =
    let before = key_stream key iv n in
    let last = aes key (counter iv (suc n)) in
    let len = length-stream key iv n in
    elim (cases_lt k (16 * n)) [
      | inl old ↦ get_or_append_left before last 0 k (omega (arith, len)) ∙ stream-at key iv n k old
      | inr new ↦
          let number : k / 16 + 1 ≡ suc n = omega arith in
          let place : k - 16 * n ≡ k % 16 = omega arith in
          get_or-append_right before last (16 * n) k 0 len new ∙ rw (number, place) refl
    ]

pub length-combined_bytes : (xs ks : List ℕ) → length (combined_bytes xs ks) ≡ length xs
length-combined_bytes [] ks = refl
length-combined_bytes (x ∷ xs) [] = refl
length-combined_bytes (x ∷ xs) (k ∷ ks) = ap suc (length-combined_bytes xs ks)

pub combined_bytes-at : (xs ks : List ℕ) (i : ℕ) → i < length xs → length xs ≤ length ks
    → slice_index (combined_bytes xs ks) i ≡ bit_xor (slice_index xs i) (slice_index ks i)
combined_bytes-at [] ks i lt le = absurd (omega arith)
combined_bytes-at (x ∷ xs) [] i lt le = absurd (omega arith)
combined_bytes-at (x ∷ xs) (k ∷ ks) zero lt le = refl
combined_bytes-at (x ∷ xs) (k ∷ ks) (suc i) lt le = combined_bytes-at xs ks i (omega arith) (omega arith)

pub length-masked_bytes : (key iv : List ℕ) (n : ℕ) (xs : List ℕ) → length (masked_bytes key iv n xs) ≡ length xs
unfolding masked_bytes
length-masked_bytes key iv n xs = length-combined_bytes xs (drop n (key_stream key iv (div_ceil (n + length xs) 16)))

-- strings of one length, combined lane by lane
pub zip2-combined_bytes : (xs ks : List ℕ) → length xs ≡ length ks → zip2 bit_xor xs ks ≡ combined_bytes xs ks
zip2-combined_bytes [] ks e = refl
zip2-combined_bytes (x ∷ xs) [] e = absurd (omega (arith, e))
zip2-combined_bytes (x ∷ xs) (k ∷ ks) e = ap (λ (l : List ℕ). bit_xor x k ∷ l)
    (zip2-combined_bytes xs ks (omega (arith, e)))

-- byte i of a masked string
pub masked_bytes-at : (key iv : List ℕ) (n : ℕ) (xs : List ℕ) (i : ℕ) → i < length xs
    → slice_index (masked_bytes key iv n xs) i ≡ bit_xor (slice_index xs i) (stream_byte key iv (n + i))
unfolding masked_bytes
masked_bytes-at key iv n xs i lt =
    let m : ℕ = div_ceil (n + length xs) 16 in
    let ks = drop n (key_stream key iv m) in
    let enough = div_ceil_times (n + length xs) 16 (lit< tt) in
    let long : length xs ≤ length ks = omega
    (arith, length-drop n (key_stream key iv m), length-stream key iv m, enough) in
    let within : n + i < 16 * m = omega (arith, enough) in
    combined_bytes-at xs ks i lt long
    ∙ ap (bit_xor (slice_index xs i)) (get_or-drop n (key_stream key iv m) i 0 ∙ stream-at key iv m (n + i) within)

-- a buffer with each byte combined is the masked string
pub masked_from : (key iv : List ℕ) (n : ℕ) (xs ys : List ℕ) → length ys ≡ length xs
    → ((i : ℕ) → i < length xs → slice_index ys i ≡ bit_xor (slice_index xs i) (stream_byte key iv (n + i)))
    → ys ≡ masked_bytes key iv n xs
masked_from key iv n xs ys len each =
    same_number_lists ys (masked_bytes key iv n xs) (len ∙ sym (length-masked_bytes key iv n xs))
    (λ i lt.
    let within : i < length xs = omega (arith, len) in
    each i within ∙ sym (masked_bytes-at key iv n xs i within))

-- bytes that lie within block n of the plaintext, from its byte skip on
pub masked_bytes-within : (key iv : List ℕ) (n skip : ℕ) (xs : List ℕ) → skip + length xs ≤ 16
    → combined_bytes xs (drop skip (aes key (counter iv (n + 1)))) ≡ masked_bytes key iv (16 * n + skip) xs
masked_bytes-within key iv n skip xs le =
    let out = aes key (counter iv (n + 1)) in
    let long : length xs ≤ length (drop skip out) = omega
    (arith, length-drop skip out, length-aes key (counter iv (n + 1))) in
    masked_from key iv (16 * n + skip) xs (combined_bytes xs (drop skip out)) (length-combined_bytes xs (drop skip out))
    (λ i lt.
    let block : (16 * n + skip + i) / 16 ≡ n = omega arith in
    let place : (16 * n + skip + i) % 16 ≡ skip + i = omega arith in
    combined_bytes-at xs (drop skip out) i lt long ∙ rw (block, place)
    (ap (bit_xor (slice_index xs i)) (get_or-drop skip out i 0)))

pub masked_bytes-none : (key iv : List ℕ) (n : ℕ) (xs : List ℕ) → length xs ≡ 0 → xs ≡ masked_bytes key iv n xs
masked_bytes-none key iv n xs none = masked_from key iv n xs xs refl (λ i lt. absurd (omega (arith, none)))

-- ---- blocks

-- zeros after a string change no byte that is read
at-padded : (s : List ℕ) (n j : ℕ) → slice_index (s ++ replicate n 0) j ≡ slice_index s j
at-padded s n j = elim (cases_lt j (length s)) [
  | inl within ↦ get_or_append_left s (replicate n 0) 0 j within
  | inr past ↦
      get_or-append_right s (replicate n 0) (length s) j 0 refl past
      ∙ elim (cases_lt (j - length s) n) [
        | inl more ↦ get_or-replicate n (j - length s) 0 0 more ∙ sym (get_or_past s j 0 past)
        | inr beyond ↦
            get_or_past (replicate n 0) (j - length s) 0 (omega (arith, length-replicate {A = ℕ} n 0))
            ∙ sym (get_or_past s j 0 past)
      ]
]

at-block : (s : List ℕ) (i k : ℕ) → k < 16 → slice_index (slice_range s (16 * i) (16 * i + 16)) k
    ≡ slice_index s (16 * i + k)
at-block s i k lt = get_or-take (16 * i + 16 - 16 * i) (drop (16 * i) s) k 0 (omega arith) ∙ get_or-drop (16 * i) s k 0

block-padded : (s : List ℕ) (n i : ℕ) → padded_block s i ≡ block (s ++ replicate n 0) i
block-padded s n i = number_same (drop (16 * i) s) (slice_range (s ++ replicate n 0) (16 * i) (16 * i + 16))
    (λ k lt. get_or-drop (16 * i) s k 0 ∙ sym (at-block (s ++ replicate n 0) i k lt ∙ at-padded s n (16 * i + k)))

blocks-padded : (s : List ℕ) (n m : ℕ) → padded_blocks s m ≡ blocks (s ++ replicate n 0) m
unfolding padded_blocks blocks
blocks-padded s n zero = refl
blocks-padded s n (suc m) = rw (blocks-padded s n m, block-padded s n m) refl

block-front : (p q : List ℕ) (i : ℕ) → 16 * i + 16 ≤ length p → block (p ++ q) i ≡ block p i
block-front p q i le = number_same (slice_range (p ++ q) (16 * i) (16 * i + 16)) (slice_range p (16 * i) (16 * i + 16))
    (λ k lt. at-block (p ++ q) i k lt ∙ get_or_append_left p q 0 (16 * i + k) (omega arith) ∙ sym (at-block p i k lt))

blocks-front : (p q : List ℕ) (m : ℕ) → 16 * m ≤ length p → blocks (p ++ q) m ≡ blocks p m
unfolding blocks
blocks-front p q zero le = refl
blocks-front p q (suc m) le = rw (blocks-front p q m (omega arith), block-front p q m (omega arith)) refl

block-back : (p q : List ℕ) (m i : ℕ) → length p ≡ 16 * m → block (p ++ q) (m + i) ≡ block q i
block-back p q m i e =
    number_same (slice_range (p ++ q) (16 * (m + i)) (16 * (m + i) + 16)) (slice_range q (16 * i) (16 * i + 16))
    (λ k lt.
    let place : 16 * (m + i) + k - 16 * m ≡ 16 * i + k = omega arith in
    at-block (p ++ q) (m + i) k lt
    ∙ get_or-append_right p q (16 * m) (16 * (m + i) + k) 0 e (omega arith)
    ∙ ap (slice_index q) place
    ∙ sym (at-block q i k lt))

blocks-append : (p q : List ℕ) (m n : ℕ) → length p ≡ 16 * m → blocks (p ++ q) (m + n) ≡ blocks p m ++ blocks q n
unfolding blocks
blocks-append p q m zero e =
    let whole : m + 0 ≡ m = omega arith in
    rw whole (blocks-front p q m (omega arith) ∙ sym (append-nil (blocks p m)))
blocks-append p q m (suc n) e =
    let next : m + suc n ≡ suc (m + n) = omega arith in
    rw (next, blocks-append p q m n e, block-back p q m n e) (append_assoc (blocks p m) (blocks q n) (block q n ∷ []))

-- two numbers of 64 bits spell one block
lengths-block : (x y : ℕ) → x < 2 ^ 64 → y < 2 ^ 64 → blocks (to_be_bytes w64 x ++ to_be_bytes w64 y) 1
    ≡ (x * 2 ^ 64 + y) ∷ []
unfolding blocks
lengths-block x y hx hy =
    let whole : from_be_bytes w128 (to_be_bytes w64 x ++ to_be_bytes w64 y)
    ≡ from_be_bytes w64 (to_be_bytes w64 x) * 2 ^ 64 + from_be_bytes w64 (to_be_bytes w64 y) = omega arith in
    ap (λ (b : ℕ). b ∷ []) (whole ∙ rw (from_be_bytes-to_be_bytes_8 x hx, from_be_bytes-to_be_bytes_8 y hy) refl)

length-padded : (s : List ℕ) → length (s ++ padding_zeros s) ≡ 16 * div_ceil (length s) 16
length-padded s =
    length-append s (padding_zeros s)
    ∙ omega (
      arith,
      length-replicate {A = ℕ} (16 * div_ceil (length s) 16 - length s) 0,
      div_ceil_times (length s) 16
          (lit< tt),
    )

-- the blocks that are hashed, as the code reads them
pub hashed_blocks : (a c : List ℕ) → 8 * length a < 2 ^ 64 → 8 * length c < 2 ^ 64
    → blocks (hash_input a c) (length (hash_input a c) / 16) ≡ padded_blocks a (div_ceil (length a) 16)
    ++ padded_blocks c (div_ceil (length c) 16) ++ (8 * length a * 2 ^ 64 + 8 * length c) ∷ []
hashed_blocks a c ha hc =
    let m : ℕ = div_ceil (length a) 16 in
    let n : ℕ = div_ceil (length c) 16 in
    let p : List ℕ = a ++ padding_zeros a in
    let q : List ℕ = c ++ padding_zeros c in
    let t : List ℕ = to_be_bytes w64 (8 * length a) ++ to_be_bytes w64 (8 * length c) in
    let lp = length-padded a in
    let lq = length-padded c in
    let lpq : length (p ++ q) ≡ 16 * (m + n) = omega (arith, length-append p q, lp, lq) in
    let count : length (hash_input a c) / 16 ≡ m + n + 1 = omega (arith, length-append (p ++ q) t, lpq) in
    ap (blocks (hash_input a c)) count
    ∙ blocks-append (p ++ q) t (m + n) 1 lpq
    ∙ rw (
      blocks-append p q m n lp,
      lengths-block (8 * length a) (8 * length c) ha hc,
      blocks-padded a (16 * m - length a) m,
      blocks-padded c (16 * n - length c) n,
    ) refl
