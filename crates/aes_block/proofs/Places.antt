-- Look-ups of 4 bits, byte by byte and lane by lane.
use Rattle.std.proofs.Common.{◌≡◌, ℕ, zero, suc, ◌+◌, ◌/◌, ◌^◌, ◌*◌, ◌<◌, ◌==◌, cond, Bool, true, false, true≢false, T}
use Rattle.std.proofs.Common.{leb, bit_and, bit_xor, slice_index, List, [], ◌∷◌, map, length, get_or, replicate, ◌∙◌}
use Rattle.std.proofs.Common.{refl, sym, ap, arith, w8, Fits, eqb-true}
use Rattle.std.proofs.lemmas.List.{get_or-map, length-map, ext_get_or}
use Rattle.std.proofs.lemmas.Simd.{zip2_splat, swz_l, SwzOk, SwzOk-from_Each1, length-swz_l, get_or-swz_l, map-map}
use lib.Lanes.{zip2, Each1}
use Rattle.aes_block.specs.Aes.{sbox, sub_bytes}
use Rattle.aes_block.specs.Nibbles.{IsVector, entry_of, is_lookup_place, low, high, nibble_sum, code, first_place}
use Rattle.aes_block.specs.Nibbles.{second_place, first_part, second_part, last_of}
use Rattle.aes_block.proofs.Entries.{SBOX, all_below, all_below_at, SBOX-sbox}

pub lane_fits : (v : List ℕ) (i : ℕ) → Each1 (Fits w8) v → get_or v i 0 < 256
lane_fits [] i h = omega arith
lane_fits (x ∷ xs) zero h = h.0.fits
lane_fits (x ∷ xs) (suc i) h = lane_fits xs i h.1

pub holds : (b : Bool) → b ≡ true → T b
holds true e = tt
holds false e = absurd (true≢false (sym e))

-- a test of all bytes holds of each lane of f
pub placed : (f : ℕ → ℕ) (v js : List ℕ) → Each1 (Fits w8) v → js ≡ map f v
    → all_below (λ x. is_lookup_place (f x)) 256 ≡ true → Each1 (λ j. T (is_lookup_place j)) js
placed f v js fits e test =
    rw e (go v fits)
  where
    go : (v : List ℕ) → Each1 (Fits w8) v → Each1 (λ j. T (is_lookup_place j)) (map f v)
    go [] h = tt
    go (x ∷ xs) h = (
      holds (is_lookup_place (f x)) (all_below_at (λ x. is_lookup_place (f x)) 256 x test h.0.fits),
      go
          xs h.1,
    )

-- what holds of each list of 16 elements
pub of_16 : (P : List ℕ → Type 0) →
    ((a b c d e f g h i j k l m n o p : ℕ) → P (a ∷ b ∷ c ∷ d ∷ e ∷ f ∷ g ∷ h ∷ i ∷ j ∷ k ∷ l ∷ m ∷ n ∷ o ∷ p ∷ []))
    → (v : List ℕ) → length v ≡ 16 → P v
of_16 P each [] long = absurd (omega (arith, long))
of_16 P each (a ∷ []) long = absurd (omega (arith, long))
of_16 P each (a ∷ b ∷ []) long = absurd (omega (arith, long))
of_16 P each (a ∷ b ∷ c ∷ []) long = absurd (omega (arith, long))
of_16 P each (a ∷ b ∷ c ∷ d ∷ []) long = absurd (omega (arith, long))
of_16 P each (a ∷ b ∷ c ∷ d ∷ e ∷ []) long = absurd (omega (arith, long))
of_16 P each (a ∷ b ∷ c ∷ d ∷ e ∷ f ∷ []) long = absurd (omega (arith, long))
of_16 P each (a ∷ b ∷ c ∷ d ∷ e ∷ f ∷ g ∷ []) long = absurd (omega (arith, long))
of_16 P each (a ∷ b ∷ c ∷ d ∷ e ∷ f ∷ g ∷ h ∷ []) long = absurd (omega (arith, long))
of_16 P each (a ∷ b ∷ c ∷ d ∷ e ∷ f ∷ g ∷ h ∷ i ∷ []) long = absurd (omega (arith, long))
of_16 P each (a ∷ b ∷ c ∷ d ∷ e ∷ f ∷ g ∷ h ∷ i ∷ j ∷ []) long = absurd (omega (arith, long))
of_16 P each (a ∷ b ∷ c ∷ d ∷ e ∷ f ∷ g ∷ h ∷ i ∷ j ∷ k ∷ []) long = absurd (omega (arith, long))
of_16 P each (a ∷ b ∷ c ∷ d ∷ e ∷ f ∷ g ∷ h ∷ i ∷ j ∷ k ∷ l ∷ []) long = absurd (omega (arith, long))
of_16 P each (a ∷ b ∷ c ∷ d ∷ e ∷ f ∷ g ∷ h ∷ i ∷ j ∷ k ∷ l ∷ m ∷ []) long = absurd (omega (arith, long))
of_16 P each (a ∷ b ∷ c ∷ d ∷ e ∷ f ∷ g ∷ h ∷ i ∷ j ∷ k ∷ l ∷ m ∷ n ∷ []) long = absurd (omega (arith, long))
of_16 P each (a ∷ b ∷ c ∷ d ∷ e ∷ f ∷ g ∷ h ∷ i ∷ j ∷ k ∷ l ∷ m ∷ n ∷ o ∷ []) long = absurd (omega (arith, long))
of_16 P each (a ∷ b ∷ c ∷ d ∷ e ∷ f ∷ g ∷ h ∷ i ∷ j ∷ k ∷ l ∷ m ∷ n ∷ o ∷ p ∷ []) long = each a b c d e f g h i j k l m
    n o p
of_16 P each (a ∷ b ∷ c ∷ d ∷ e ∷ f ∷ g ∷ h ∷ i ∷ j ∷ k ∷ l ∷ m ∷ n ∷ o ∷ p ∷ q ∷ more) long = absurd
    (omega (arith, long))

pub low_map : {n : ℕ} (v : List ℕ) → length v ≡ n → zip2 bit_and v (replicate n 15) ≡ map low v
low_map {n} v long = zip2_splat bit_and v n 15 long

pub high_map : {n : ℕ} (v : List ℕ) → length v ≡ n → zip2 (λ a b. a / 2 ^ b) v (replicate n 4) ≡ map high v
high_map {n} v long = zip2_splat (λ a b. a / 2 ^ b) v n 4 long

-- one function of each lane after another
pub after : (f g : ℕ → ℕ) (v at r : List ℕ) → r ≡ map f at → at ≡ map g v → r ≡ map (λ x. f (g x)) v
after f g v at r e h = e ∙ ap (map f) h ∙ map-map f g v

-- what the look-up in a vector gives
pub looked : (t at : List ℕ) → length at ≡ 16 → swz_l w8 16 t 0 at ≡ map (entry_of t) at
looked t at long =
    ext_get_or 0 _ _ (length-swz_l w8 16 t 0 at ∙ sym (length-map at (entry_of t))) (λ i h.
    let within : i < length at = omega (arith, length-swz_l w8 16 t 0 at) in
    let j = get_or at i 0 in
    let first : 16 * ((0 + i) / 16) + j ≡ j = omega (arith, long) in
    get_or-swz_l w8 16 t 0 at i within
    ∙ ap (λ q. cond (leb 128 j) 0 (get_or t q 0)) first
    ∙ sym (get_or-map (entry_of t) at i 0 0 within))

pub may_look : (at : List ℕ) → length at ≡ 16 → Each1 (λ j. T (is_lookup_place j)) at → SwzOk w8 16 16 0 at
may_look at long places = SwzOk-from_Each1 w8 16 1 16 0 at refl (omega arith) places

pub low_place : all_below (λ x. is_lookup_place (low x)) 256 ≡ true
low_place = refl

pub high_place : all_below (λ x. is_lookup_place (high x)) 256 ≡ true
high_place = refl

pub both_place : all_below (λ x. is_lookup_place (nibble_sum x)) 256 ≡ true
both_place = refl

pub first_place_place : all_below (λ x. is_lookup_place (first_place x)) 256 ≡ true
first_place_place = refl

pub second_place_place : all_below (λ x. is_lookup_place (second_place x)) 256 ≡ true
second_place_place = refl

pub first_part_place : all_below (λ x. is_lookup_place (first_part x)) 256 ≡ true
unfolding first_part
first_part_place = refl

pub second_part_place : all_below (λ x. is_lookup_place (second_part x)) 256 ≡ true
unfolding second_part
second_part_place = refl

-- the S-box by codes is the S-box
last_test : all_below (λ x. bit_xor (last_of (code x)) 0x63 == slice_index SBOX x) 256 ≡ true
unfolding last_of first_part second_part code
last_test = refl

pub sbox_of_code : (x : ℕ) → x < 256 → bit_xor (last_of (code x)) 0x63 ≡ sbox x
sbox_of_code x lt =
    eqb-true (bit_xor (last_of (code x)) 0x63) (slice_index SBOX x)
    (all_below_at (λ x. bit_xor (last_of (code x)) 0x63 == slice_index SBOX x) 256 x last_test lt)
    ∙ SBOX-sbox x lt

-- the same function of each byte
pub same_map : (f g : ℕ → ℕ) → ((x : ℕ) → x < 256 → f x ≡ g x) → (v : List ℕ) → Each1 (Fits w8) v → map f v ≡ map g v
same_map f g e [] h = refl
same_map f g e (x ∷ xs) h = ap (λ y. y ∷ map f xs) (e x h.0.fits) ∙ ap (λ ys. g x ∷ ys) (same_map f g e xs h.1)

pub sub_bytes-map : (v : List ℕ) → length v ≡ 16 → map sbox v ≡ sub_bytes v
unfolding sub_bytes
sub_bytes-map v e = of_16 (λ v. map sbox v ≡ sub_bytes v) (λ a b c d e f g h i j k l m n o p. refl) v e

pub sub_bytes_by_codes : (v : List ℕ) → IsVector v → map (λ x. bit_xor (last_of (code x)) 0x63) v ≡ sub_bytes v
sub_bytes_by_codes v fits = same_map (λ x. bit_xor (last_of (code x)) 0x63) sbox sbox_of_code v fits.1 ∙ sub_bytes-map v
    fits.0
