-- What is read of regions whose bytes are those of a function of addresses.
use Rattle.std.proofs.Common.{◌≡◌, ℕ, zero, suc, ◌+◌, ◌-◌, ◌^◌, ◌<◌, ◌≤◌, Bool, true, false, cond, List, [], ◌∷◌}
use Rattle.std.proofs.Common.{length, map, get_or, replicate, All, refl, sym, ap, ◌∙◌, inl, inr, arith}
use Rattle.std.proofs.lemmas.Bool.{cases_Bool, true≢false}
use Rattle.std.proofs.lemmas.Bool.Decides.{nat_tests}
use Rattle.std.proofs.lemmas.List.{ext_get_or}
use Rattle.std.proofs.lemmas.List.Elements.{All-head, All-tail}
use Rattle.ide_types.specs.declared.plan.Region.{Region}
use Rattle.ide_types.specs.Fits.{FitsRegion}
use Rattle.trusted_memory.specs.Regions.{is_inside, in_region, holds_all, in_one_region}
use Rattle.trusted_memory.specs.Memory.{new_memory, byte_in_regions, byte_at, bytes_from}
use Rattle.trusted_memory.specs.Pages.{contents_seen, memory_seen}

pub length-bytes_from : (f : ℕ → ℕ) (at n : ℕ) → length (bytes_from f at n) ≡ n
length-bytes_from f at zero = refl
length-bytes_from f at (suc n) = ap (λ (k : ℕ). suc k) (length-bytes_from f (at + 1) n)

pub get_or-bytes_from : (f : ℕ → ℕ) (at n k : ℕ) → k < n → get_or (bytes_from f at n) k 0 ≡ f (at + k)
get_or-bytes_from f at zero k less = absurd (omega arith)
get_or-bytes_from f at (suc n) zero less = let e : at ≡ at + 0 = omega arith in ap f e
get_or-bytes_from f at (suc n) (suc k) less =
    let e : (at + 1) + k ≡ at + suc k = omega arith in get_or-bytes_from f (at + 1) n k (omega arith) ∙ ap f e

-- a list of bytes is what its places say
pub is_bytes_from : (f : ℕ → ℕ) (at : ℕ) (s : List ℕ) → ((k : ℕ) → k < length s → get_or s k 0 ≡ f (at + k)) → s
    ≡ bytes_from f at (length s)
is_bytes_from f at s h = ext_get_or 0 s (bytes_from f at (length s)) (sym (length-bytes_from f at (length s)))
    (λ k less. h k less ∙ sym (get_or-bytes_from f at (length s) k less))

pub bytes_from-zero : (at n : ℕ) → bytes_from (λ _. 0) at n ≡ replicate n 0
bytes_from-zero at zero = refl
bytes_from-zero at (suc n) = ap (λ (s : List ℕ). 0 ∷ s) (bytes_from-zero (at + 1) n)

cond_same : (b : Bool) (n : ℕ) → cond b n n ≡ n
cond_same true n = refl
cond_same false n = refl

-- ---- regions

pub inside_low : (r : Region) (a : ℕ) → is_inside r a ≡ true → r.base ≤ a
inside_low r a e = grind (arith, nat_tests)

pub inside_high : (r : Region) (a : ℕ) → is_inside r a ≡ true → a < r.base + r.size
inside_high r a e = grind (arith, nat_tests)

inside : (f : ℕ → ℕ) (r : Region) (a : ℕ) → is_inside r a ≡ true → get_or (bytes_from f r.base r.size) (a - r.base) 0
    ≡ f a
inside f r a e =
    let low = inside_low r a e in
    let high = inside_high r a e in
    let same : r.base + (a - r.base) ≡ a = omega arith in
    get_or-bytes_from f r.base r.size (a - r.base) (omega arith) ∙ ap f same

pub byte_in_regions-seen : (f : ℕ → ℕ) (rs : List Region) (a : ℕ)
    → byte_in_regions rs (map (λ r. bytes_from f r.base r.size) rs) a ≡ cond (in_region rs a) (f a) 0
byte_in_regions-seen f [] a = refl
byte_in_regions-seen f (r ∷ rs) a = elim (cases_Bool (is_inside r a)) [
  | inl e ↦ rw e (inside f r a e)
  | inr e ↦ rw e (byte_in_regions-seen f rs a)
]

-- ---- bytes of one region

holds_inside : (r : Region) (at n a : ℕ) → holds_all r at n ≡ true → at ≤ a → a < at + n → is_inside r a ≡ true
holds_inside r at n a h low high = grind (arith, nat_tests)

pub each_in_region : (rs : List Region) (at n a : ℕ) → in_one_region rs at n ≡ true → at ≤ a → a < at + n
    → in_region rs a ≡ true
each_in_region [] at n a h low high = absurd (true≢false (sym h))
each_in_region (r ∷ rs) at n a h low high = elim (cases_Bool (holds_all r at n)) [
  | inl e ↦ rw (holds_inside r at n a e low high) refl
  | inr e ↦ elim (cases_Bool (is_inside r a)) [
    | inl i ↦ rw i refl
    | inr o ↦ rw o (each_in_region rs at n a (rw e at h) low high)
  ]
]

-- so none has a byte from there on
pub none_high : (rs : List Region) (a : ℕ) → All FitsRegion rs → 2 ^ 63 ≤ a → in_region rs a ≡ false
none_high [] a fit high = refl
none_high (r ∷ rs) a fit high = elim (cases_Bool (is_inside r a)) [
  | inl e ↦
      let fits = All-head FitsRegion r rs fit in
      let most : r.base + r.size ≤ 2 ^ 63 = fits.most in
      absurd (omega (arith, inside_high r a e))
  | inr e ↦ rw e (none_high rs a (All-tail FitsRegion r rs fit) high)
]

-- ---- at first

pub new_is_seen : (rs : List Region) → memory_seen rs [] 0 ≡ new_memory rs
new_is_seen rs i = record {
  contents = record { regions = rs; bytes = map (λ r. bytes_from-zero r.base r.size i) rs };
  pages = [];
  spare = 0;
}

pub byte_at-new : (rs : List Region) (a : ℕ) → byte_at (contents_seen rs []) a ≡ 0
byte_at-new rs a = byte_in_regions-seen (λ _. 0) rs a ∙ cond_same (in_region rs a) 0
