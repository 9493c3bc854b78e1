-- Two blocks at once, in the halves of a vector: each half is as one block is.
use Rattle.std.proofs.Common.{◌≡◌, ℕ, suc, ◌+◌, ◌-◌, ◌*◌, ◌/◌, ◌<◌, ◌≤◌, cond, Bool, true, false, T, leb, bit_xor}
use Rattle.std.proofs.Common.{List, [], ◌∷◌, ◌++◌, map, length, get_or, refl, sym, ap, ◌∙◌, arith, w8, inl, inr}
use Rattle.std.specs.Prelude.{◌||◌}
use Rattle.std.proofs.lemmas.Bool.{cases_lt}
use Rattle.std.proofs.lemmas.List.{get_or_append_left, get_or-append_right, map-append, length-map}
use Rattle.std.proofs.lemmas.Simd.{swz_l, SwzOk, SwzOk-from_Each1, length-zip2}
use Rattle.std.proofs.Math.Facts.{ltb_yes}
use lib.Dec.{ltb}
use lib.Lanes.{Each1, zip2, pick_l}
use Rattle.aes_block.specs.Aes.{add_round_key, shift_rows, sub_bytes}
use Rattle.aes_block.specs.Inside.{after_round, spread}
use Rattle.aes_block.specs.Nibbles.{IsVector, code, entry_of, is_lookup_place, key_code, last_key, last_of, once_of}
use Rattle.aes_block.specs.Nibbles.{twice_of}
use Rattle.aes_block.proofs.Places.{of_16}
use Rattle.aes_block.proofs.Codes.{places0, places1, places2, places3, bytes_at_places, round_of, round-lanes}
use Rattle.aes_block.proofs.Codes.{last-lanes, first-lanes}

-- what holds of any two lists of 16 elements
pub of_two : (P : List ℕ → List ℕ → Type 0)
    → ((a b c d e f g h i j k l m n o p q r s t u v w x y z aa bb cc dd ee ff : ℕ)
    → P (a ∷ b ∷ c ∷ d ∷ e ∷ f ∷ g ∷ h ∷ i ∷ j ∷ k ∷ l ∷ m ∷ n ∷ o ∷ p ∷ [])
    (q ∷ r ∷ s ∷ t ∷ u ∷ v ∷ w ∷ x ∷ y ∷ z ∷ aa ∷ bb ∷ cc ∷ dd ∷ ee ∷ ff ∷ []))
    → (v w : List ℕ) → length v ≡ 16 → length w ≡ 16 → P v w
of_two P each v w lv lw =
    of_16 (λ v. (w : List ℕ) → length w ≡ 16 → P v w)
    (λ a b c d e f g h i j k l m n o p. of_16 (P (a ∷ b ∷ c ∷ d ∷ e ∷ f ∷ g ∷ h ∷ i ∷ j ∷ k ∷ l ∷ m ∷ n ∷ o ∷ p ∷ []))
    (each a b c d e f g h i j k l m n o p)) v lv w lw

-- ---- parts of vectors

abbrev all_places : List ℕ
all_places =
    0 ∷ 1 ∷ 2 ∷ 3 ∷ 4 ∷ 5 ∷ 6 ∷ 7 ∷ 8 ∷ 9 ∷ 10 ∷ 11 ∷ 12 ∷ 13 ∷ 14 ∷ 15 ∷ 16 ∷ 17 ∷ 18 ∷ 19 ∷ 20 ∷ 21 ∷ 22 ∷ 23
    ∷ 24 ∷ 25 ∷ 26 ∷ 27 ∷ 28 ∷ 29 ∷ 30 ∷ 31 ∷ []

pub joined-is : (a b : List ℕ) → length a ≡ 16 → length b ≡ 16 → pick_l 0 (a ++ b) all_places ≡ a ++ b
joined-is = of_two (λ a b. pick_l 0 (a ++ b) all_places ≡ a ++ b)
    (λ a b c d e f g h i j k l m n o p q r s t u v w x y z aa bb cc dd ee ff. refl)

abbrev pub lower_places : List ℕ
lower_places = 0 ∷ 1 ∷ 2 ∷ 3 ∷ 4 ∷ 5 ∷ 6 ∷ 7 ∷ 8 ∷ 9 ∷ 10 ∷ 11 ∷ 12 ∷ 13 ∷ 14 ∷ 15 ∷ []

abbrev pub upper_places : List ℕ
upper_places = 16 ∷ 17 ∷ 18 ∷ 19 ∷ 20 ∷ 21 ∷ 22 ∷ 23 ∷ 24 ∷ 25 ∷ 26 ∷ 27 ∷ 28 ∷ 29 ∷ 30 ∷ 31 ∷ []

pub lower-is : (a b : List ℕ) → length a ≡ 16 → length b ≡ 16 → pick_l 0 ((a ++ b) ++ (a ++ b)) lower_places ≡ a
lower-is = of_two (λ a b. pick_l 0 ((a ++ b) ++ (a ++ b)) lower_places ≡ a)
    (λ a b c d e f g h i j k l m n o p q r s t u v w x y z aa bb cc dd ee ff. refl)

pub upper-is : (a b : List ℕ) → length a ≡ 16 → length b ≡ 16 → pick_l 0 ((a ++ b) ++ (a ++ b)) upper_places ≡ b
upper-is = of_two (λ a b. pick_l 0 ((a ++ b) ++ (a ++ b)) upper_places ≡ b)
    (λ a b c d e f g h i j k l m n o p q r s t u v w x y z aa bb cc dd ee ff. refl)

pub zip2-append : (f : ℕ → ℕ → ℕ) (a b c d : List ℕ) → length a ≡ length c
    → zip2 f (a ++ b) (c ++ d) ≡ zip2 f a c ++ zip2 f b d
zip2-append f [] b [] d e = refl
zip2-append f [] b (y ∷ c) d e = absurd (omega (arith, e))
zip2-append f (x ∷ a) b [] d e = absurd (omega (arith, e))
zip2-append f (x ∷ a) b (y ∷ c) d e = ap (λ l. f x y ∷ l) (zip2-append f a b c d (omega (arith, e)))

-- ---- look-ups

-- what a look-up within the lower half gives, and within the upper
pub lower-entry : (a b : List ℕ) (i j : ℕ) → length a ≡ 16 → i < 16 → T (is_lookup_place j)
    → cond (leb 128 j) 0 (get_or (a ++ b) (16 * (i / 16) + j) 0) ≡ entry_of a j
lower-entry a b i j la li place = go (leb 128 j) place where
  go : (high : Bool) → T (high || ltb j 16)
      → cond high 0 (get_or (a ++ b) (16 * (i / 16) + j) 0) ≡ cond high 0 (get_or a j 0)
  go true t = refl
  go false t =
      let lj : j < 16 = ltb_yes t in
      let at : 16 * (i / 16) + j ≡ j = omega arith in
      ap (λ (k : ℕ). get_or (a ++ b) k 0) at ∙ get_or_append_left a b 0 j (omega (arith, la))

pub upper-entry : (a b : List ℕ) (i j : ℕ) → length a ≡ 16 → 16 ≤ i → i < 32
    → cond (leb 128 j) 0 (get_or (a ++ b) (16 * (i / 16) + j) 0) ≡ entry_of b j
upper-entry a b i j la le li =
    let at : 16 * (i / 16) + j ≡ 16 + j = omega arith in
    let back : 16 + j - 16 ≡ j = omega arith in
    ap (λ (k : ℕ). cond (leb 128 j) 0 (get_or (a ++ b) k 0)) at
    ∙ ap (cond (leb 128 j) 0) (get_or-append_right a b 16 (16 + j) 0 la (omega arith))
    ∙ ap (λ (k : ℕ). cond (leb 128 j) 0 (get_or b k 0)) back

pub looked_twice : (t at : List ℕ) → length t ≡ 16 → length at ≡ 32 → Each1 (λ j. T (is_lookup_place j)) at
    → swz_l w8 16 (t ++ t) 0 at ≡ map (entry_of t) at
looked_twice t at lt la places = go 0 at (omega (arith, la)) places where
  go : (i : ℕ) (at : List ℕ) → i + length at ≡ 32 → Each1 (λ j. T (is_lookup_place j)) at
      → swz_l w8 16 (t ++ t) i at ≡ map (entry_of t) at
  go i [] e places = refl
  go i (j ∷ at) e places =
      let first : cond (leb 128 j) 0 (get_or (t ++ t) (16 * (i / 16) + j) 0) ≡ entry_of t j =
      elim (cases_lt i 16) [
        | inl low ↦ lower-entry t t i j lt low places.0
        | inr high ↦ upper-entry t t i j lt high (omega (arith, e))
      ] in
      λ k. first k ∷ go (suc i) at (omega (arith, e)) places.1 k

pub may_look_twice : (at : List ℕ) → length at ≡ 32 → Each1 (λ j. T (is_lookup_place j)) at → SwzOk w8 16 32 0 at
may_look_twice at long places = SwzOk-from_Each1 w8 16 2 32 0 at refl (omega arith) places

-- ---- rounds

by-rows0 : (v w : List ℕ) → length v ≡ 16 → length w ≡ 16
    → bytes_at_places (v ++ w) (places0 ++ places0) ≡ bytes_at_places v places0 ++ bytes_at_places w places0
by-rows0 = of_two (λ v w. bytes_at_places (v ++ w) (places0 ++ places0) ≡ bytes_at_places v places0
    ++ bytes_at_places w places0)
    (λ a b c d e f g h i j k l m n o p q r s t u v w x y z aa bb cc dd ee ff. refl)

by-rows1 : (v w : List ℕ) → length v ≡ 16 → length w ≡ 16
    → bytes_at_places (v ++ w) (places1 ++ places1) ≡ bytes_at_places v places1 ++ bytes_at_places w places1
by-rows1 = of_two (λ v w. bytes_at_places (v ++ w) (places1 ++ places1) ≡ bytes_at_places v places1
    ++ bytes_at_places w places1)
    (λ a b c d e f g h i j k l m n o p q r s t u v w x y z aa bb cc dd ee ff. refl)

by-rows2 : (v w : List ℕ) → length v ≡ 16 → length w ≡ 16
    → bytes_at_places (v ++ w) (places2 ++ places2) ≡ bytes_at_places v places2 ++ bytes_at_places w places2
by-rows2 = of_two (λ v w. bytes_at_places (v ++ w) (places2 ++ places2) ≡ bytes_at_places v places2
    ++ bytes_at_places w places2)
    (λ a b c d e f g h i j k l m n o p q r s t u v w x y z aa bb cc dd ee ff. refl)

by-rows3 : (v w : List ℕ) → length v ≡ 16 → length w ≡ 16
    → bytes_at_places (v ++ w) (places3 ++ places3) ≡ bytes_at_places v places3 ++ bytes_at_places w places3
by-rows3 = of_two (λ v w. bytes_at_places (v ++ w) (places3 ++ places3) ≡ bytes_at_places v places3
    ++ bytes_at_places w places3)
    (λ a b c d e f g h i j k l m n o p q r s t u v w x y z aa bb cc dd ee ff. refl)

-- what a round computes
abbrev pub two_of : List ℕ → List ℕ → List ℕ → List ℕ
two_of once twice k =
    zip2 bit_xor
    (zip2 bit_xor (bytes_at_places twice (places0 ++ places0))
    (bytes_at_places (zip2 bit_xor once twice) (places1 ++ places1)))
    (zip2 bit_xor (zip2 bit_xor (bytes_at_places once (places2 ++ places2)) (bytes_at_places once (places3 ++ places3)))
    k)

halves-of : (a b c d k l : List ℕ) → length a ≡ 16 → length b ≡ 16 → length c ≡ 16 → length d ≡ 16 → length k ≡ 16
    → two_of (a ++ b) (c ++ d) (k ++ l) ≡ round_of a c k ++ round_of b d l
halves-of a b c d k l la lb lc ld lk =
    let x : List ℕ = zip2 bit_xor a c in
    let y : List ℕ = zip2 bit_xor b d in
    let lx : length x ≡ 16 = length-zip2 bit_xor a c (la ∙ sym lc) ∙ la in
    let ly : length y ≡ 16 = length-zip2 bit_xor b d (lb ∙ sym ld) ∙ lb in
    let c0 : List ℕ = bytes_at_places c places0 in
    let d0 : List ℕ = bytes_at_places d places0 in
    let x1 : List ℕ = bytes_at_places x places1 in
    let y1 : List ℕ = bytes_at_places y places1 in
    let a2 : List ℕ = bytes_at_places a places2 in
    let b2 : List ℕ = bytes_at_places b places2 in
    let a3 : List ℕ = bytes_at_places a places3 in
    let b3 : List ℕ = bytes_at_places b places3 in
    let p : List ℕ = zip2 bit_xor c0 x1 in
    let q : List ℕ = zip2 bit_xor d0 y1 in
    let u : List ℕ = zip2 bit_xor a2 a3 in
    let v : List ℕ = zip2 bit_xor b2 b3 in
    let lu : 16 ≡ length (zip2 bit_xor u k) = sym (length-zip2 bit_xor u k (sym lk)) in
    (λ i. zip2 bit_xor
    (zip2 bit_xor (by-rows0 c d lc ld i) (bytes_at_places (zip2-append bit_xor a b c d (la ∙ sym lc) i)
    (places1 ++ places1)))
    (zip2 bit_xor (zip2 bit_xor (by-rows2 a b la lb i) (by-rows3 a b la lb i)) (k ++ l)))
    ∙ (λ i. zip2 bit_xor (zip2 bit_xor (c0 ++ d0) (by-rows1 x y lx ly i))
    (zip2 bit_xor (zip2-append bit_xor a2 b2 a3 b3 refl i) (k ++ l)))
    ∙ (λ i. zip2 bit_xor (zip2-append bit_xor c0 d0 x1 y1 refl i) (zip2-append bit_xor u v k l (sym lk) i))
    ∙ zip2-append bit_xor p q (zip2 bit_xor u k) (zip2 bit_xor v l) lu

length-spread : (w : List ℕ) → length (spread w) ≡ 16
unfolding spread
length-spread w = refl

mapped : (f g : ℕ → ℕ) (s : List ℕ) → length s ≡ 16 → length (map f (map g s)) ≡ 16
mapped f g s e = length-map (map g s) f ∙ length-map s g ∙ e

pub first-two : (w s t : List ℕ) → IsVector s → IsVector t
    → zip2 bit_xor (map code s ++ map code t) (map code (spread w) ++ map code (spread w))
    ≡ map code (add_round_key w s) ++ map code (add_round_key w t)
first-two w s t fs ft =
    let k : List ℕ = map code (spread w) in
    zip2-append bit_xor (map code s) (map code t) k k
    (length-map s code ∙ fs.0 ∙ sym (length-map (spread w) code ∙ length-spread w))
    ∙ (λ i. first-lanes w s fs i ++ first-lanes w t ft i)

pub round-two : (w s t : List ℕ) → IsVector s → IsVector t
    → two_of (map once_of (map code s) ++ map once_of (map code t))
    (map twice_of (map code s) ++ map twice_of (map code t))
    (map key_code (spread w) ++ map key_code (spread w))
    ≡ map code (after_round w s) ++ map code (after_round w t)
round-two w s t fs ft =
    let k : List ℕ = map key_code (spread w) in
    halves-of (map once_of (map code s)) (map once_of (map code t)) (map twice_of (map code s))
    (map twice_of (map code t)) k k (mapped once_of code s fs.0) (mapped once_of code t ft.0)
    (mapped twice_of code s fs.0) (mapped twice_of code t ft.0)
    (length-map (spread w) key_code ∙ length-spread w)
    ∙ (λ i. round-lanes w s fs i ++ round-lanes w t ft i)

pub last-two : (w s t : List ℕ) → IsVector s → IsVector t
    → zip2 bit_xor (bytes_at_places (map last_of (map code s) ++ map last_of (map code t)) (places0 ++ places0))
    (map last_key (spread w) ++ map last_key (spread w))
    ≡ add_round_key w (shift_rows (sub_bytes s)) ++ add_round_key w (shift_rows (sub_bytes t))
last-two w s t fs ft =
    let k : List ℕ = map last_key (spread w) in
    let x : List ℕ = map last_of (map code s) in
    let y : List ℕ = map last_of (map code t) in
    ap (λ (l : List ℕ). zip2 bit_xor l (k ++ k))
    (by-rows0 x y (mapped last_of code s fs.0) (mapped last_of code t ft.0))
    ∙ zip2-append bit_xor (bytes_at_places x places0) (bytes_at_places y places0) k k
    (sym (length-map (spread w) last_key ∙ length-spread w))
    ∙ (λ i. last-lanes w s fs i ++ last-lanes w t ft i)

-- a function of each lane, of two halves
pub map-two : (f : ℕ → ℕ) (v r a b : List ℕ) → r ≡ map f v → v ≡ a ++ b → r ≡ map f a ++ map f b
map-two f v r a b er ev = er ∙ ap (map f) ev ∙ map-append f a b
