-- Headers and TLPs as grammars: which byte may follow a prefix. The bytes after byte 0 are judged each by its place
-- alone, so what walks is known place by place, and a byte that may come next is always at hand: 0, or the Length that
-- is asked.
use Rattle.std.proofs.Common.{◌≡◌, ℕ, zero, suc, ◌<◌, ◌≤◌, Bool, true, false, cond, eqb, ltb, bit_and, ◌&&◌, IsTrue}
use Rattle.std.proofs.Common.{List, [], ◌∷◌, length, get_or, take, Option, Some, None, is_some, refl, ap, inl, inr}
use Rattle.std.proofs.Common.{arith, length-take, get_or-take}
use Rattle.std.proofs.lemmas.Bool.{cases_lt, ltb-true, lt-ltb, le-ltb, ne_eqb, and_parts, and_from, cases_eq, eq-eqb}
use Rattle.std.proofs.lemmas.Nat.{and_comm}
use Rattle.ide_types.proofs.Fronts.{Fitting}
use Rattle.tlp_layout.specs.{Layout, may_follow, rest_size, whole_size, is_wide, head_size, layout_of_byte}
use Rattle.tlp_layout.specs.{reserved_bits, is_allowed_byte, body_size}
use Rattle.tlp_layout.specs.Terms.layouts
pub use Rattle.tlp_layout.proofs.Heads.{head_size_at_least}

-- ---- sizes

pub head_size_at_most : (b : ℕ) → head_size b ≤ 16
head_size_at_most b = elim (is_wide b) as (λ (w : Bool). cond w 16 12 ≤ 16) [ true ↦ omega arith | false ↦ omega arith ]

-- a payload has 4,096 bytes at most
pub body_at_most : (p : Bool) (n : ℕ) → n < 1024 → body_size p n ≤ 4096
body_at_most true n lt = elim (cases_eq n 0)
    [ inl e ↦ rw (eq-eqb _ _ e) (omega arith) | inr ne ↦ rw (ne_eqb _ _ ne) (omega arith) ]
body_at_most false n lt = omega arith

pub rest_front : (i : ℕ) (s : List ℕ) → 4 ≤ i → rest_size (take i s) ≡ rest_size s
rest_front i s le =
    let l0 : 0 < i = omega arith in
    let l2 : 2 < i = omega arith in
    let l3 : 3 < i = omega arith in
    rw (get_or-take i s 0 0 l0, get_or-take i s 2 0 l2, get_or-take i s 3 0 l3) refl

pub whole_front : (i : ℕ) (s : List ℕ) → 4 ≤ i → whole_size (take i s) ≡ whole_size s
whole_front i s le = omega (arith, rest_front i s le, ap head_size (get_or-take i s 0 0 (omega arith)))

-- ---- each byte fits after those before it

-- what is known of bytes that walk
pub record IsWalked (k : Layout) (s : List ℕ) (n : ℕ) : Type 0 where
  pub fit : (i : ℕ) → i < n → get_or s i 0 < 256
  pub kind : layout_of_byte (get_or s 0 0) ≡ Some k
  pub agrees : (i : ℕ) → 0 < i → i < n → i < head_size (get_or s 0 0)
      → is_allowed_byte k (head_size (get_or s 0 0)) i (get_or s i 0) ≡ true

-- after byte 0 of a layout, what may follow a prefix goes by its place
follow_is : (k : Layout) (s : List ℕ) → layout_of_byte (get_or s 0 0) ≡ Some k → (i b : ℕ) → 0 < i → i ≤ length s
    → may_follow (take i s) b ≡
    (ltb b 256 && cond (ltb i (head_size (get_or s 0 0))) (is_allowed_byte k (head_size (get_or s 0 0)) i b) true)
follow_is k s kind zero b pos le = absurd (omega arith)
follow_is k s kind (suc i) b pos le =
    let long : length (take (suc i) s) ≡ suc i = omega (arith, length-take (suc i) s) in
    let first : get_or (take (suc i) s) 0 0 ≡ get_or s 0 0 = get_or-take (suc i) s 0 0 (omega arith) in
    rw (long, first, kind) refl

pub fits_from : (k : Layout) (s : List ℕ) (n : ℕ) → IsWalked k s n → n ≤ length s → Fitting may_follow s n
fits_from k s n w le zero lt = and_from _ _ (lt-ltb _ _ (w.fit 0 lt)) (rw w.kind refl)
fits_from k s n w le (suc i) lt = rw (follow_is k s w.kind (suc i) (get_or s (suc i) 0) (omega arith) (omega arith))
    (and_from _ _ (lt-ltb _ _ (w.fit (suc i) lt)) (
    elim (cases_lt (suc i) (head_size (get_or s 0 0))) [
      | inl less ↦ rw (lt-ltb _ _ less) (w.agrees (suc i) (omega arith) lt less)
      | inr past ↦ rw (le-ltb _ _ past) refl
    ]))

-- and the other way round
some_of : (o : Option Layout) → is_some o ≡ true → (k : Layout) × (o ≡ Some k)
some_of None e = absurd cc
some_of (Some k) e = (k, refl)

pub agrees_there : (k : Layout) (s : List ℕ) → layout_of_byte (get_or s 0 0) ≡ Some k → (i : ℕ) → i < length s → 0 < i
    → i < head_size (get_or s 0 0) → IsTrue (may_follow (take i s) (get_or s i 0))
    → is_allowed_byte k (head_size (get_or s 0 0)) i (get_or s i 0) ≡ true
agrees_there k s kind i lt pos less f =
    let there = rw (follow_is k s kind i (get_or s i 0) pos (omega arith), lt-ltb _ _ less) at f in
    (and_parts (ltb (get_or s i 0) 256) (is_allowed_byte k (head_size (get_or s 0 0)) i (get_or s i 0)) there).1

pub walked_in : (s : List ℕ) → 0 < length s → Fitting may_follow s (length s) → (k : Layout) × IsWalked k s (length s)
walked_in s pos f =
    let sk = some_of (layout_of_byte (get_or s 0 0))
    ((and_parts (ltb (get_or s 0 0) 256) (is_some (layout_of_byte (get_or s 0 0))) (f 0 pos)).1) in (
      sk.0,
      record {
        fit = λ i lt. ltb-true _ _ ((and_parts _ _ (f i lt)).0);
        kind = sk.1;
        agrees = λ i p lt less.
            agrees_there sk.0 s sk.1 i lt p less (f i lt);
      },
    )

-- ---- one byte more

zero_clear : (m : ℕ) → eqb (bit_and m 0) 0 ≡ true
zero_clear m = rw and_comm refl

-- a byte that may stand at a place
next_allowed : (k : Layout) (size i : ℕ) → (b : ℕ) × (b < 256) × (is_allowed_byte k size i b ≡ true)
next_allowed layouts.Config size i = elim (cases_eq i 3) [
  | inl e ↦ (1, omega arith, rw e refl)
  | inr ne ↦ (0, omega arith, and_from _ _ (zero_clear (reserved_bits layouts.Config size i)) (rw (ne_eqb i 3 ne) refl))
]
next_allowed layouts.Memory size i = (
  0,
  omega arith,
  and_from _ _ (zero_clear (reserved_bits layouts.Memory size i))
      refl,
)
next_allowed layouts.Message size i = (
  0,
  omega arith,
  and_from _ _ (zero_clear (reserved_bits layouts.Message size i))
      refl,
)
next_allowed layouts.Completion size i =
    (0, omega arith, and_from _ _ (zero_clear (reserved_bits layouts.Completion size i)) refl)

pub next_fits : (s : List ℕ) → Fitting may_follow s (length s) → (b : ℕ) × IsTrue (may_follow s b)
next_fits [] f = (0, refl)
next_fits (b ∷ bs) f =
    let k = walked_in (b ∷ bs) (omega arith) f in
    let n = next_allowed k.0 (head_size b) (suc (length bs)) in
    elim (cases_lt (suc (length bs)) (head_size b)) [
      | inl less ↦ (n.0, and_from _ _ (lt-ltb _ _ n.1) (rw (lt-ltb _ _ less, k.1.kind) n.2))
      | inr past ↦ (0, rw (le-ltb _ _ past) refl)
    ]
