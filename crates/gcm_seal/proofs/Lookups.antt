-- Look-ups of 4 bits: a byte of a product with a byte is the sum of two entries, and a table of 16 entries has the sums
-- of one byte of a block, of x, of x² and of x³ times it.
use Rattle.std.proofs.Common.{◌≡◌, ℕ, zero, suc, ◌+◌, ◌*◌, ◌/◌, ◌%◌, ◌^◌, ◌<◌, ◌≤◌, ◌==◌, Bool, true, false, List, []}
use Rattle.std.proofs.Common.{◌∷◌, ◌++◌, Fits, subst, length, T, map, replicate, cond, leb, bit_and, bit_xor}
use Rattle.std.proofs.Common.{slice_index, get_or, refl, sym, ap, ◌∙◌, arith, eqb-true, w8, ◌⊎◌, inl, inr}
use Rattle.std.specs.Prelude.{◌||◌}
use Rattle.std.specs.Int.{w128, byte_at, bytes_high_first, to_be_bytes}
use Rattle.std.proofs.lemmas.Bool.{lt-leb, le-leb, lt-ltb, or_left, or_right}
use Rattle.std.proofs.lemmas.Nat.{and_mask, xor_shr, xor_mod}
use Rattle.std.proofs.lemmas.Simd.{swz_l, SwzOk, zip2_splat, zip2_of_maps, length-zip2, get_or-zip2, map-map}
use lib.Bits.{xor_assoc, xor_self, xor_shifted, xor_zero_l}
use lib.Dec.{ltb}
use lib.Lanes.{Each1, zip2, pick_l}
use Rattle.aes_block.specs.Nibbles.{IsVector, entry_of, is_lookup_place, low, high}
use Rattle.aes_block.proofs.Entries.{all_below, all_below_at}
use Rattle.std.proofs.lemmas.List.{get_or-map, length-map, length-append}
use Rattle.aes_block.proofs.Places.{holds, looked, may_look, placed, after, low_map, high_map, low_place, high_place}
use Rattle.aes_block.proofs.Places.{same_map}
use Rattle.aes_block.proofs.Halves.{lower-entry, upper-entry, lower-is, lower_places, upper-is, upper_places}
use Rattle.aes_block.proofs.Halves.{may_look_twice, zip2-append}
use Rattle.gcm_seal.specs.Polynomials.{bits}
use Rattle.gcm_seal.specs.Inside.{step_x, act, raised_block, byte_of, byte_product, AreSteps, IsTable, IsRow}
use Rattle.gcm_seal.specs.declared.ghash.Row.{Row}
use Rattle.gcm_seal.specs.declared.ghash.Steps.{Steps}
use Rattle.gcm_seal.proofs.Moves.{byte_at-is}
use Rattle.gcm_seal.proofs.Places.{split, bits-low, act-four}
use Rattle.gcm_seal.proofs.Ring.{term}

-- ---- bytes of a sum

byte_at-xor : (k a b : ℕ) → byte_at k (bit_xor a b) ≡ bit_xor (byte_at k a) (byte_at k b)
byte_at-xor k a b =
    byte_at-is k (bit_xor a b)
    ∙ ap (λ (x : ℕ). x % 2 ^ 8) (xor_shr a b (8 * k))
    ∙ xor_mod (a / 2 ^ (8 * k)) (b / 2 ^ (8 * k)) 8
    ∙ (λ i. bit_xor (sym (byte_at-is k a) i) (sym (byte_at-is k b) i))

pub byte_of-xor : (j a b : ℕ) → byte_of j (bit_xor a b) ≡ bit_xor (byte_of j a) (byte_of j b)
byte_of-xor j a b = go 16 j where
  go : (k j : ℕ) → slice_index (bytes_high_first k (bit_xor a b)) j
      ≡ bit_xor (slice_index (bytes_high_first k a) j) (slice_index (bytes_high_first k b) j)
  go zero j = refl
  go (suc k) zero = byte_at-xor k a b
  go (suc k) (suc j) = go k j

byte_of-term : (j : ℕ) (t : Bool) (a : ℕ) → byte_of j (term t a) ≡ term t (byte_of j a)
byte_of-term j true a = refl
byte_of-term j false a = byte_of-none j where
  byte_of-none : (j : ℕ) → byte_of j 0 ≡ 0
  byte_of-none j = byte_of-xor j 0 0 ∙ xor_self (byte_of j 0)

-- ---- a look-up by each half of a byte

entry_below : (t : List ℕ) (n : ℕ) → n < 16 → entry_of t n ≡ slice_index t n
entry_below t n lt = ap (λ (b : Bool). cond b 0 (get_or t n 0)) (lt-leb 128 n (omega arith))

halves : (h j : ℕ) (row : Row) → IsRow h j row → (x : ℕ) → x < 256
    → bit_xor (entry_of row.upper (high x)) (entry_of row.lower (low x)) ≡ byte_product h j x
halves h j row is x lt =
    let n : ℕ = x / 16 in
    let m : ℕ = x % 16 in
    let low_is : low x ≡ m = and_mask x 4 in
    let top : entry_of row.upper n ≡ byte_of j (act (bits 4 n) h) =
    entry_below row.upper n (omega arith) ∙ is.0 n (omega arith) in
    let bottom : entry_of row.lower (low x) ≡ byte_of j (act (bits 4 x) (raised_block 4 h)) =
    ap (entry_of row.lower) low_is
    ∙ entry_below row.lower m (omega arith)
    ∙ is.1 m (omega arith)
    ∙ ap (λ (p : List Bool). byte_of j (act p (raised_block 4 h))) (bits-low x) in
    (λ i. bit_xor (top i) (bottom i))
    ∙ sym (ap (byte_of j) (split 4 4 x h) ∙ byte_of-xor j (act (bits 4 n) h) (act (bits 4 x) (raised_block 4 h)))

pub high_may : (v : List ℕ) → IsVector v → SwzOk w8 16 16 0 (zip2 (λ a b. a / 2 ^ b) v (replicate 16 4))
high_may v fits = may_look _ (length-zip2 (λ a b. a / 2 ^ b) v (replicate 16 4) fits.0 ∙ fits.0)
    (placed high v _ fits.1 (high_map v fits.0) high_place)

pub low_may : (v : List ℕ) → IsVector v → SwzOk w8 16 16 0 (zip2 bit_and v (replicate 16 15))
low_may v fits = may_look _ (length-zip2 bit_and v (replicate 16 15) fits.0 ∙ fits.0)
    (placed low v _ fits.1 (low_map v fits.0) low_place)

pub products : (h j : ℕ) (row : Row) (v : List ℕ) → IsVector v → IsRow h j row
    → zip2 bit_xor (swz_l w8 16 row.upper 0 (zip2 (λ a b. a / 2 ^ b) v (replicate 16 4)))
    (swz_l w8 16 row.lower 0 (zip2 bit_and v (replicate 16 15)))
    ≡ map (byte_product h j) v
products h j row v fits is =
    zip2_of_maps bit_xor (λ x. entry_of row.upper (high x)) (λ x. entry_of row.lower (low x)) v
    (after (entry_of row.upper) high v _ _
    (looked row.upper _ (length-zip2 (λ a b. a / 2 ^ b) v (replicate 16 4) fits.0 ∙ fits.0)) (high_map v fits.0))
    (after (entry_of row.lower) low v _ _
    (looked row.lower _ (length-zip2 bit_and v (replicate 16 15) fits.0 ∙ fits.0)) (low_map v fits.0))
    ∙ same_map (λ x. bit_xor (entry_of row.upper (high x)) (entry_of row.lower (low x))) (byte_product h j)
    (halves h j row is) v fits.1

-- ---- the same of two blocks

-- what look-ups in both halves of a vector give
swz-halves : (a b x y : List ℕ) → length a ≡ 16 → length x ≡ 16 → length y ≡ 16 → Each1 (λ j. T (is_lookup_place j)) x
    → swz_l w8 16 (a ++ b) 0 (x ++ y) ≡ map (entry_of a) x ++ map (entry_of b) y
swz-halves a b x y la lx ly places = lower 0 x (omega (arith, lx)) places where
  upper : (i : ℕ) (y : List ℕ) → 16 ≤ i → i + length y ≡ 32 → swz_l w8 16 (a ++ b) i y ≡ map (entry_of b) y
  upper i [] le e = refl
  upper i (j ∷ js) le e =
      λ k. upper-entry a b i j la le (omega (arith, e)) k ∷ upper (suc i) js (omega arith) (omega (arith, e)) k

  lower : (i : ℕ) (x : List ℕ) → i + length x ≡ 16 → Each1 (λ j. T (is_lookup_place j)) x
      → swz_l w8 16 (a ++ b) i (x ++ y) ≡ map (entry_of a) x ++ map (entry_of b) y
  lower i [] e places = upper i y (omega (arith, e)) (omega (arith, e, ly))
  lower i (j ∷ js) e places =
      λ k. lower-entry a b i j la (omega (arith, e)) places.0 k ∷ lower (suc i) js (omega (arith, e)) places.1 k

-- places below 16 in both halves
low_two : (x y : List ℕ) → IsVector x → IsVector y → zip2 bit_and (x ++ y) (replicate 32 15) ≡ map low x ++ map low y
low_two x y fx fy = zip2-append bit_and x y (replicate 16 15) (replicate 16 15) fx.0
    ∙ (λ i. low_map x fx.0 i ++ low_map y fy.0 i)

high_two : (x y : List ℕ) → IsVector x → IsVector y
    → zip2 (λ a b. a / 2 ^ b) (x ++ y) (replicate 32 4) ≡ map high x ++ map high y
high_two x y fx fy = zip2-append (λ a b. a / 2 ^ b) x y (replicate 16 4) (replicate 16 4) fx.0
    ∙ (λ i. high_map x fx.0 i ++ high_map y fy.0 i)

pub high_may_two : (v : List ℕ) → length v ≡ 32 → Each1 (Fits w8) v
    → SwzOk w8 16 32 0 (zip2 (λ a b. a / 2 ^ b) v (replicate 32 4))
high_may_two v long fits = may_look_twice _ (length-zip2 (λ a b. a / 2 ^ b) v (replicate 32 4) long ∙ long)
    (placed high v _ fits (high_map v long) high_place)

pub low_may_two : (v : List ℕ) → length v ≡ 32 → Each1 (Fits w8) v → SwzOk w8 16 32 0 (zip2 bit_and v (replicate 32 15))
low_may_two v long fits = may_look_twice _ (length-zip2 bit_and v (replicate 32 15) long ∙ long)
    (placed low v _ fits (low_map v long) low_place)

-- a byte of the products with a block, from a row
by-row : (h j : ℕ) (row : Row) (v : List ℕ) → IsVector v → IsRow h j row
    → zip2 bit_xor (map (entry_of row.upper) (map high v)) (map (entry_of row.lower) (map low v))
    ≡ map (byte_product h j) v
by-row h j row v fits is =
    zip2_of_maps bit_xor (λ x. entry_of row.upper (high x)) (λ x. entry_of row.lower (low x)) v
    (map-map (entry_of row.upper) high v) (map-map (entry_of row.lower) low v)
    ∙ same_map (λ x. bit_xor (entry_of row.upper (high x)) (entry_of row.lower (low x))) (byte_product h j)
    (halves h j row is) v fits.1

-- p and q are the rows' tables side by side, and v has the blocks x and y
pub products_two : (g h j : ℕ) (a b : Row) (v p q x y : List ℕ) → IsVector x → IsVector y → v ≡ x ++ y
    → length a.upper ≡ 16 → length a.lower ≡ 16
    → p ≡ a.upper ++ b.upper → q ≡ a.lower ++ b.lower → IsRow g j a → IsRow h j b
    → zip2 bit_xor (swz_l w8 16 p 0 (zip2 (λ a b. a / 2 ^ b) v (replicate 32 4)))
    (swz_l w8 16 q 0 (zip2 bit_and v (replicate 32 15)))
    ≡ map (byte_product g j) x ++ map (byte_product h j) y
products_two g h j a b v p q x y fx fy ev lu ll ep eq ia ib =
    let mapped : (f : ℕ → ℕ) (v : List ℕ) → length v ≡ 16 → length (map f v) ≡ 16 =
    λ f v e. length-map v f ∙ e in
    let ups : swz_l w8 16 p 0 (zip2 (λ a b. a / 2 ^ b) v (replicate 32 4))
    ≡ map (entry_of a.upper) (map high x) ++ map (entry_of b.upper) (map high y) =
    (λ i. swz_l w8 16 (ep i) 0 (zip2 (λ a b. a / 2 ^ b) (ev i) (replicate 32 4)))
    ∙ ap (swz_l w8 16 (a.upper ++ b.upper) 0) (high_two x y fx fy)
    ∙ swz-halves a.upper b.upper (map high x) (map high y) lu (mapped high x fx.0) (mapped high y fy.0)
    (placed high x (map high x) fx.1 refl high_place) in
    let downs : swz_l w8 16 q 0 (zip2 bit_and v (replicate 32 15))
    ≡ map (entry_of a.lower) (map low x) ++ map (entry_of b.lower) (map low y) =
    (λ i. swz_l w8 16 (eq i) 0 (zip2 bit_and (ev i) (replicate 32 15)))
    ∙ ap (swz_l w8 16 (a.lower ++ b.lower) 0) (low_two x y fx fy)
    ∙ swz-halves a.lower b.lower (map low x) (map low y) ll (mapped low x fx.0) (mapped low y fy.0)
    (placed low x (map low x) fx.1 refl low_place) in
    (λ i. zip2 bit_xor (ups i) (downs i))
    ∙ zip2-append bit_xor (map (entry_of a.upper) (map high x)) (map (entry_of b.upper) (map high y))
    (map (entry_of a.lower) (map low x)) (map (entry_of b.lower) (map low y))
    (length-map (map high x) (entry_of a.upper) ∙ length-map x high
    ∙ sym (length-map (map low x) (entry_of a.lower) ∙ length-map x low))
    ∙ (λ i. by-row g j a x fx ia i ++ by-row h j b y fy ib i)

-- the sum of two vectors by halves
pub sum-halves : (v w a b c d : List ℕ) → length a ≡ length c → v ≡ a ++ b → w ≡ c ++ d
    → zip2 bit_xor v w ≡ zip2 bit_xor a c ++ zip2 bit_xor b d
sum-halves v w a b c d e ev ew = (λ i. zip2 bit_xor (ev i) (ew i)) ∙ zip2-append bit_xor a b c d e

-- the sum of the halves of a vector
pub halves-sum : (v a b : List ℕ) → length a ≡ 16 → length b ≡ 16 → v ≡ a ++ b
    → zip2 bit_xor (pick_l 0 (v ++ v) lower_places) (pick_l 0 (v ++ v) upper_places) ≡ zip2 bit_xor a b
halves-sum v a b la lb e = (λ i. zip2 bit_xor (pick_l 0 (e i ++ e i) lower_places) (pick_l 0 (e i ++ e i) upper_places))
    ∙ (λ i. zip2 bit_xor (lower-is a b la lb i) (upper-is a b la lb i))

-- ---- tables

-- entry j if `unset` is 0, and 0 if it is 128
abbrev pub entry_picked : List ℕ → ℕ → ℕ → ℕ
entry_picked v j s = entry_of v (bit_xor s j)

picked-set : (v : List ℕ) (j : ℕ) → j < 16 → entry_picked v j 0 ≡ slice_index v j
picked-set v j lt = ap (entry_of v) (xor_zero_l j) ∙ entry_below v j lt

picked-unset : (v : List ℕ) (j : ℕ) → j < 16 → entry_picked v j 128 ≡ 0
picked-unset v j lt = ap (entry_of v) (xor_shifted 1 7 j (omega arith))
    ∙ ap (λ (b : Bool). cond b 0 (get_or v (128 + j) 0)) (le-leb 128 (128 + j) (omega arith))

-- the places of both halves
places_two : (unset : List ℕ) (j : ℕ) → length unset ≡ 16
    → zip2 bit_xor (unset ++ unset) (replicate 32 j) ≡ map (λ s. bit_xor s j) unset ++ map (λ s. bit_xor s j) unset
places_two unset j long = zip2-append bit_xor unset unset (replicate 16 j) (replicate 16 j) long
    ∙ (λ i. zip2_splat bit_xor unset 16 j long i ++ zip2_splat bit_xor unset 16 j long i)

either : (a b : Bool) → T (a || b) → (a ≡ true) ⊎ (b ≡ true)
either true b t = inl refl
either false true t = inr refl
either false false t = absurd t

may_pick : (unset : List ℕ) (j : ℕ) → j < 16 → Each1 (λ s. T (s == 0 || s == 128)) unset
    → Each1 (λ j. T (is_lookup_place j)) (map (λ s. bit_xor s j) unset)
may_pick unset j lt each =
    go unset each
  where
    place : (s : ℕ) → T (s == 0 || s == 128) → T (is_lookup_place (bit_xor s j))
    place s t = elim (either (s == 0) (s == 128) t) [
      | inl none ↦
          let e : s ≡ 0 = eqb-true s 0 none in
          rw (e, xor_zero_l j) (holds _ (or_right (leb 128 j) (ltb j 16) (lt-ltb j 16 lt)))
      | inr high ↦
          let e : s ≡ 128 = eqb-true s 128 high in
          let n : ℕ = 128 + j in
          rw (e, xor_shifted 1 7 j (omega arith))
          (holds _ (or_left (leb 128 n) (ltb n 16) (le-leb 128 n (omega arith))))
    ]

    go : (l : List ℕ) → Each1 (λ s. T (s == 0 || s == 128)) l
        → Each1 (λ j. T (is_lookup_place j)) (map (λ s. bit_xor s j) l)
    go [] h = tt
    go (s ∷ l) h = (place s h.0, go l h.1)

Each1-append : (P : ℕ → Type 0) (a b : List ℕ) → Each1 P a → Each1 P b → Each1 P (a ++ b)
Each1-append P [] b ha hb = hb
Each1-append P (x ∷ a) b ha hb = (ha.0, Each1-append P a b ha.1 hb)

pub may_pick_two : (u unset : List ℕ) (j : ℕ) → u ≡ unset ++ unset → length unset ≡ 16 → j < 16
    → Each1 (λ s. T (s == 0 || s == 128)) unset → SwzOk w8 16 32 0 (zip2 bit_xor u (replicate 32 j))
may_pick_two u unset j eu long lt each =
    let at : List ℕ = map (λ s. bit_xor s j) unset in
    let both : zip2 bit_xor u (replicate 32 j) ≡ at ++ at =
    (λ i. zip2 bit_xor (eu i) (replicate 32 j)) ∙ places_two unset j long in
    let la : length at ≡ 16 = length-map unset (λ s. bit_xor s j) ∙ long in
    let places = may_pick unset j lt each in
    rw both
    (may_look_twice (at ++ at) (omega (arith, la, length-append at at))
    (Each1-append (λ j. T (is_lookup_place j)) at at places places))

-- the entries of v and of w that are chosen
pub picked_two : (v w t u unset : List ℕ) (j : ℕ) → length v ≡ 16 → t ≡ v ++ w → u ≡ unset ++ unset → length unset ≡ 16
    → j < 16 → Each1 (λ s. T (s == 0 || s == 128)) unset
    → swz_l w8 16 t 0 (zip2 bit_xor u (replicate 32 j)) ≡ map (entry_picked v j) unset ++ map (entry_picked w j) unset
picked_two v w t u unset j lv et eu long lt each =
    let at : List ℕ = map (λ s. bit_xor s j) unset in
    let la : length at ≡ 16 = length-map unset (λ s. bit_xor s j) ∙ long in
    (λ i. swz_l w8 16 (et i) 0 (((λ k. zip2 bit_xor (eu k) (replicate 32 j)) ∙ places_two unset j long) i))
    ∙ swz-halves v w at at lv la la (may_pick unset j lt each)
    ∙ (λ i. map-map (entry_of v) (λ s. bit_xor s j) unset i ++ map-map (entry_of w) (λ s. bit_xor s j) unset i)

lanes-sum : (p q r t : List ℕ) (n : ℕ) → length p ≡ 16 → length q ≡ 16 → length r ≡ 16 → length t ≡ 16 → n < 16
    → slice_index (zip2 bit_xor (zip2 bit_xor p q) (zip2 bit_xor r t)) n
    ≡ bit_xor (bit_xor (slice_index p n) (slice_index q n)) (bit_xor (slice_index r n) (slice_index t n))
lanes-sum p q r t n lp lq lr lt ln =
    let lpq = length-zip2 bit_xor p q (lp ∙ sym lq) in
    let lrt = length-zip2 bit_xor r t (lr ∙ sym lt) in
    get_or-zip2 bit_xor (zip2 bit_xor p q) (zip2 bit_xor r t) n 0 0 0 (omega (arith, lpq)) (omega (arith, lrt))
    ∙ (λ i. bit_xor (get_or-zip2 bit_xor p q n 0 0 0 (omega arith) (omega arith) i)
    (get_or-zip2 bit_xor r t n 0 0 0 (omega arith) (omega arith) i))

-- byte j of the multiple of b by a polynomial of four terms
sum-of-bytes : (p q r t : Bool) (b j : ℕ) → bit_xor (bit_xor (term p (byte_of j b)) (term q (byte_of j (step_x b))))
    (bit_xor (term r (byte_of j (step_x (step_x b)))) (term t (byte_of j (step_x (step_x (step_x b))))))
    ≡ byte_of j (act (p ∷ q ∷ r ∷ t ∷ []) b)
sum-of-bytes p q r t b j =
    let x1 : ℕ = step_x b in
    let x2 : ℕ = step_x x1 in
    let x3 : ℕ = step_x x2 in
    let c : ℕ = bit_xor (term r x2) (term t x3) in
    xor_assoc (term p (byte_of j b)) (term q (byte_of j x1)) (bit_xor (term r (byte_of j x2)) (term t (byte_of j x3)))
    ∙ sym (ap (byte_of j) (act-four p q r t b)
    ∙ byte_of-xor j (term p b) (bit_xor (term q x1) c)
    ∙ (λ i. bit_xor (byte_of-term j p b i) ((byte_of-xor j (term q x1) c
    ∙ (λ k. bit_xor (byte_of-term j q x1 k) ((byte_of-xor j (term r x2) (term t x3)
    ∙ (λ l. bit_xor (byte_of-term j r x2 l) (byte_of-term j t x3 l))) k))) i)))

-- the lanes of a table, where the numbers from 0 to 15 have a bit and where not
abbrev eight : List ℕ
eight = 128 ∷ 128 ∷ 128 ∷ 128 ∷ 128 ∷ 128 ∷ 128 ∷ 128 ∷ 0 ∷ 0 ∷ 0 ∷ 0 ∷ 0 ∷ 0 ∷ 0 ∷ 0 ∷ []

abbrev four : List ℕ
four = 128 ∷ 128 ∷ 128 ∷ 128 ∷ 0 ∷ 0 ∷ 0 ∷ 0 ∷ 128 ∷ 128 ∷ 128 ∷ 128 ∷ 0 ∷ 0 ∷ 0 ∷ 0 ∷ []

abbrev two : List ℕ
two = 128 ∷ 128 ∷ 0 ∷ 0 ∷ 128 ∷ 128 ∷ 0 ∷ 0 ∷ 128 ∷ 128 ∷ 0 ∷ 0 ∷ 128 ∷ 128 ∷ 0 ∷ 0 ∷ []

abbrev one : List ℕ
one = 128 ∷ 0 ∷ 128 ∷ 0 ∷ 128 ∷ 0 ∷ 128 ∷ 0 ∷ 128 ∷ 0 ∷ 128 ∷ 0 ∷ 128 ∷ 0 ∷ 128 ∷ 0 ∷ []

-- the bit of 2ᵏ in n
abbrev has : ℕ → ℕ → Bool
has k n = n / 2 ^ k % 2 == 1

-- a lane of the lists above is 0 if the bit is set, and else 128
abbrev tells : List ℕ → ℕ → ℕ → Bool
tells unset k n = slice_index unset n == cond (has k n) 0 128

lane_of : (v unset : List ℕ) (j k n : ℕ) → j < 16 → n < 16 → length unset ≡ 16 → all_below (tells unset k) 16 ≡ true
    → slice_index (map (entry_picked v j) unset) n ≡ term (has k n) (slice_index v j)
lane_of v unset j k n lj ln long test =
    get_or-map (entry_picked v j) unset n 0 0 (omega (arith, long))
    ∙ ap (entry_picked v j) (eqb-true (slice_index unset n) (cond (has k n) 0 128)
    (all_below_at (tells unset k) 16 n test ln))
    ∙ go (has k n)
  where
    go : (b : Bool) → entry_picked v j (cond b 0 128) ≡ term b (slice_index v j)
    go true = picked-set v j lj
    go false = picked-unset v j lj

table-is : (b : ℕ) (s : Steps) (j : ℕ) → AreSteps b s → j < 16 → (p q r t : List ℕ)
    → p ≡ map (entry_picked s.once j) eight → q ≡ map (entry_picked s.by_x j) four → r
    ≡ map (entry_picked s.by_x2 j) two
    → t ≡ map (entry_picked s.by_x3 j) one → IsTable b j (zip2 bit_xor (zip2 bit_xor p q) (zip2 bit_xor r t))
unfolding bits
table-is b s j are lj p q r t ep eq er et n ln =
    let x1 : ℕ = step_x b in
    let x2 : ℕ = step_x x1 in
    let x3 : ℕ = step_x x2 in
    let at : (k x : ℕ) → ℕ = λ k x. term (has k n) (byte_of j x) in
    let lane : (v unset l : List ℕ) (k x : ℕ) → length unset ≡ 16 → all_below (tells unset k) 16 ≡ true
    → v ≡ to_be_bytes w128 x → l ≡ map (entry_picked v j) unset → slice_index l n ≡ at k x =
    λ v unset l k x long test ev el.
    ap (λ (l : List ℕ). slice_index l n) el
    ∙ lane_of v unset j k n lj ln long test
    ∙ ap (λ (v : List ℕ). term (has k n) (slice_index v j)) ev in
    let lp : length p ≡ 16 = ap (λ (l : List ℕ). length l) ep in
    let lq : length q ≡ 16 = ap (λ (l : List ℕ). length l) eq in
    let lr : length r ≡ 16 = ap (λ (l : List ℕ). length l) er in
    let lt : length t ≡ 16 = ap (λ (l : List ℕ). length l) et in
    lanes-sum p q r t n lp lq lr lt ln
    ∙ (λ i. bit_xor (bit_xor (lane s.once eight p 3 b refl refl are.0 ep i)
    (lane s.by_x four q 2 x1 refl refl are.1 eq i))
    (bit_xor (lane s.by_x2 two r 1 x2 refl refl are.2 er i) (lane s.by_x3 one t 0 x3 refl refl are.3 et i)))
    ∙ sum-of-bytes (has 3 n) (has 2 n) (has 1 n) (has 0 n) b j

-- the tables of two blocks, made side by side
pub row-is : (b c : ℕ) (s t : Steps) (j : ℕ) (k l m n : List ℕ) → AreSteps b s → AreSteps c t → j < 16
    → k ≡ map (entry_picked s.once j) eight ++ map (entry_picked t.once j) eight
    → l ≡ map (entry_picked s.by_x j) four ++ map (entry_picked t.by_x j) four
    → m ≡ map (entry_picked s.by_x2 j) two ++ map (entry_picked t.by_x2 j) two
    → n ≡ map (entry_picked s.by_x3 j) one ++ map (entry_picked t.by_x3 j) one
    → (v : List ℕ) → v ≡ zip2 bit_xor (zip2 bit_xor k l) (zip2 bit_xor m n)
    → IsTable b j (pick_l 0 (v ++ v) lower_places) × IsTable c j (pick_l 0 (v ++ v) upper_places)
row-is b c s t j k l m n bs ct lt ek el em en v ev =
    let ks : List ℕ = map (entry_picked s.once j) eight in
    let kt : List ℕ = map (entry_picked t.once j) eight in
    let ls : List ℕ = map (entry_picked s.by_x j) four in
    let l2 : List ℕ = map (entry_picked t.by_x j) four in
    let ms : List ℕ = map (entry_picked s.by_x2 j) two in
    let mt : List ℕ = map (entry_picked t.by_x2 j) two in
    let ns : List ℕ = map (entry_picked s.by_x3 j) one in
    let nt : List ℕ = map (entry_picked t.by_x3 j) one in
    let up : List ℕ = zip2 bit_xor (zip2 bit_xor ks ls) (zip2 bit_xor ms ns) in
    let down : List ℕ = zip2 bit_xor (zip2 bit_xor kt l2) (zip2 bit_xor mt nt) in
    let both : v ≡ up ++ down =
    ev
    ∙ sum-halves (zip2 bit_xor k l) (zip2 bit_xor m n) (zip2 bit_xor ks ls) (zip2 bit_xor kt l2) (zip2 bit_xor ms ns)
    (zip2 bit_xor mt nt) refl (sum-halves k l ks kt ls l2 refl ek el) (sum-halves m n ms mt ns nt refl em en) in
    let at : (places : List ℕ) → pick_l 0 (v ++ v) places ≡ pick_l 0 ((up ++ down) ++ (up ++ down)) places =
    λ places i. pick_l 0 (both i ++ both i) places in (
      subst (IsTable b j) (sym (at lower_places ∙ lower-is up down refl refl))
          (table-is b s j bs lt ks ls ms ns refl refl
          refl refl),
      subst (IsTable c j) (sym (at upper_places ∙ upper-is up down refl refl)) (table-is c t j ct lt kt l2 mt nt refl
          refl refl refl),
    )
