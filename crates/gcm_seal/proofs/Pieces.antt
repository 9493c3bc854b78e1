-- A buffer that is masked piece by piece.
use Rattle.std.proofs.Common.{◌≡◌, ℕ, ◌+◌, ◌-◌, ◌*◌, ◌/◌, ◌%◌, ◌≤◌, ◌<◌, refl, min, inl, inr, length-append}
use Rattle.std.proofs.Common.{length-drop, List, [], ◌++◌, length, take, drop, sym, ap, ◌∙◌, arith, length-take}
use Rattle.std.proofs.Common.{append-nil, append_assoc}
use Rattle.std.proofs.lemmas.Bool.{cases_lt}
use Rattle.std.proofs.Math.Seq.{take-add}
use Rattle.std.proofs.lemmas.List.{take_at, drop_at, drop-drop, take_all, drop_all}
use Rattle.gcm_seal.specs.Gcm.{masked_bytes, combined_bytes, counter}
use Rattle.aes_block.specs.Aes.{aes}
use Rattle.gcm_seal.proofs.Strings.{length-masked_bytes, masked_bytes-none, masked_bytes-within}
use Rattle.gcm_seal.proofs.Sealing.{masked_bytes-append}

-- the first k bytes of xs are masked, from byte n of the plaintext on
abbrev pub front_masked : List ℕ → List ℕ → ℕ → ℕ → List ℕ → List ℕ
front_masked key iv n k xs = masked_bytes key iv n (take k xs) ++ drop k xs

length-front : (key iv : List ℕ) (n k : ℕ) (xs : List ℕ) → k ≤ length xs → length (masked_bytes key iv n (take k xs))
    ≡ k
length-front key iv n k xs le = length-masked_bytes key iv n (take k xs) ∙ omega (arith, length-take k xs)

-- what is left of it
pub left-front : (key iv : List ℕ) (n k : ℕ) (xs now : List ℕ) → k ≤ length xs → now ≡ front_masked key iv n k xs
    → drop k now ≡ drop k xs
left-front key iv n k xs now le e =
    ap (drop k) e ∙ drop_at (masked_bytes key iv n (take k xs)) (drop k xs) k (length-front key iv n k xs le)

-- the next j bytes
pub front-next : (key iv : List ℕ) (n k j : ℕ) (xs now ys : List ℕ) → k ≤ length xs → now ≡ front_masked key iv n k xs
    → ys ≡ masked_bytes key iv (n + k) (take j (drop k now))
    → take k now ++ (ys ++ drop j (drop k now)) ≡ front_masked key iv n (k + j) xs
front-next key iv n k j xs now ys le e masks =
    let m = masked_bytes key iv n (take k xs) in
    let long = length-front key iv n k xs le in
    let count : length (take k xs) ≡ k = omega (arith, length-take k xs) in
    let front : take k now ≡ m = ap (take k) e ∙ take_at m (drop k xs) k long in
    let left = left-front key iv n k xs now le e in
    let next : ys ≡ masked_bytes key iv (n + length (take k xs)) (take j (drop k xs)) =
    masks ∙ (λ i. masked_bytes key iv (n + sym count i) (take j (left i))) in
    let both : m ++ masked_bytes key iv (n + length (take k xs)) (take j (drop k xs))
    ≡ masked_bytes key iv n (take (k + j) xs) =
    sym (ap (masked_bytes key iv n) (take-add k j xs) ∙ masked_bytes-append key iv n (take k xs) (take j (drop k xs)))
    in
    (λ i. front i ++ (next i ++ drop j (left i)))
    ∙ sym (append_assoc m (masked_bytes key iv (n + length (take k xs)) (take j (drop k xs))) (drop j (drop k xs)))
    ∙ (λ i. both i ++ drop-drop j k xs i)

pub front-none : (key iv : List ℕ) (n : ℕ) (xs : List ℕ) → xs ≡ front_masked key iv n 0 xs
front-none key iv n xs =
    let none : masked_bytes key iv n (take 0 xs) ≡ [] = drop-none (masked_bytes key iv n (take 0 xs))
    (length-masked_bytes key iv n (take 0 xs)) in
    ap (λ (r : List ℕ). r ++ xs) (sym none) where
      drop-none : (ys : List ℕ) → length ys ≡ 0 → ys ≡ []
      drop-none ys e = sym (take_all 0 ys (omega (arith, e)))

pub front-whole : (key iv : List ℕ) (n k : ℕ) (xs now : List ℕ) → length xs ≤ k → now ≡ front_masked key iv n k xs → now
    ≡ masked_bytes key iv n xs
front-whole key iv n k xs now le e =
    e ∙ (λ i. masked_bytes key iv n (take_all k xs le i) ++ drop_all k xs le i) ∙ append-nil (masked_bytes key iv n xs)

-- no bytes are left, whatever place is named
masked_bytes-same : (key iv : List ℕ) (m n : ℕ) (xs : List ℕ) → length xs ≡ 0 → masked_bytes key iv m xs
    ≡ masked_bytes key iv n xs
masked_bytes-same key iv m n xs none = sym (masked_bytes-none key iv m xs none) ∙ masked_bytes-none key iv n xs none

-- the first f bytes, and then all that are left, which stand at place m if there are any
pub two_parts : (key iv : List ℕ) (n m f : ℕ) (xs ys zs : List ℕ) → f ≤ length xs → (f < length xs → m ≡ n + f)
    → ys ≡ masked_bytes key iv n (take f xs)
    → zs ≡ masked_bytes key iv m (take (length (ys ++ drop f xs) - f) (drop f (ys ++ drop f xs)))
    → take f (ys ++ drop f xs) ++ (zs ++ drop (length (ys ++ drop f xs) - f) (drop f (ys ++ drop f xs)))
    ≡ masked_bytes key iv n xs
two_parts key iv n m f xs ys zs le at ey ez =
    let now = ys ++ drop f xs in
    let j : ℕ = length now - f in
    let held : now ≡ front_masked key iv n f xs = λ i. ey i ++ drop f xs in
    let long : length now ≡ length xs = ap (λ (l : List ℕ). length l) held ∙ length-append
    (masked_bytes key iv n (take f xs))
    (drop f xs) ∙ omega (arith, length-front key iv n f xs le, length-drop f xs) in
    let rest = take j (drop f now) in
    let count : length rest ≡ length xs - f = omega (arith, length-take j (drop f now), length-drop f now, long) in
    let next : zs ≡ masked_bytes key iv (n + f) rest =
    ez
    ∙ elim (cases_lt f (length xs)) [
      | inl more ↦ ap (λ (n : ℕ). masked_bytes key iv n rest) (at more)
      | inr done ↦ masked_bytes-same key iv m (n + f) rest (omega (arith, count))
    ] in
    front-whole key iv n (f + j) xs _ (omega (arith, long)) (front-next key iv n f j xs now zs le held next)

-- the first f bytes, up to the end of their block, and then all that are left
pub two_pieces : (key iv : List ℕ) (from f : ℕ) (xs ys zs : List ℕ) → f ≡ min ((16 - from % 16) % 16) (length xs)
    → ys ≡ masked_bytes key iv (16 * (from / 16) + from % 16) (take f xs)
    → zs ≡ masked_bytes key iv (16 * ((from + 15) / 16))
    (take (length (ys ++ drop f xs) - f) (drop f (ys ++ drop f xs)))
    → take f (ys ++ drop f xs) ++ (zs ++ drop (length (ys ++ drop f xs) - f) (drop f (ys ++ drop f xs)))
    ≡ masked_bytes key iv from xs
two_pieces key iv from f xs ys zs ef ey ez =
    let place : 16 * (from / 16) + from % 16 ≡ from = omega arith in
    two_parts key iv from (16 * ((from + 15) / 16)) f xs ys zs (omega (arith, ef)) (λ more. omega (arith, ef, more))
    (ey ∙ ap (λ (n : ℕ). masked_bytes key iv n (take f xs)) place) ez

-- the first 16 bytes and 16 more, each combined with a block of the key stream
pub two_blocks : (key iv : List ℕ) (block : ℕ) (xs ys zs out more : List ℕ) → length xs ≡ 32
    → out ≡ aes key (counter iv (block + 1)) → more ≡ aes key (counter iv (block + 1 + 1))
    → ys ≡ combined_bytes (take 16 xs) out
    → zs ≡ combined_bytes (take (length (ys ++ drop 16 xs) - 16) (drop 16 (ys ++ drop 16 xs))) more
    → take 16 (ys ++ drop 16 xs) ++ (zs ++ drop (length (ys ++ drop 16 xs) - 16) (drop 16 (ys ++ drop 16 xs)))
    ≡ masked_bytes key iv (16 * block) xs
two_blocks key iv block xs ys zs out more long eo em ey ez =
    let now = ys ++ drop 16 xs in
    let front = take 16 xs in
    let rest = take (length now - 16) (drop 16 now) in
    let first : 16 * block + 0 ≡ 16 * block = omega arith in
    let second : 16 * (block + 1) + 0 ≡ 16 * block + 16 = omega arith in
    let short : 0 + length front ≤ 16 = omega (arith, length-take 16 xs) in
    let masks : ys ≡ masked_bytes key iv (16 * block) front =
    ey ∙ ap (combined_bytes front) eo ∙ masked_bytes-within key iv block 0 front short ∙ ap
    (λ (n : ℕ). masked_bytes key iv n front) first
    in
    let size : length now ≡ 32 =
    length-append ys (drop 16 xs)
    ∙ omega (
      arith,
      ap (λ (l : List ℕ). length l) masks ∙ length-masked_bytes key iv (16 * block) front,
      length-take 16 xs,
      length-drop 16 xs,
      long,
    ) in
    let fits : 0 + length rest ≤ 16 = omega
    (arith, length-take (length now - 16) (drop 16 now), length-drop 16 now, size) in
    two_parts key iv (16 * block) (16 * block + 16) 16 xs ys zs (omega (arith, long)) (λ more. refl) masks
    (ez ∙ ap (combined_bytes rest) em ∙ masked_bytes-within key iv (block + 1) 0 rest fits ∙ ap
    (λ (n : ℕ). masked_bytes key iv n rest)
    second)
