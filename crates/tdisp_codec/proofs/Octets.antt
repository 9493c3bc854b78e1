-- Bytes one by one, and numbers in them.
use Rattle.std.proofs.Common.{inl, inr, subst, ◌≢◌, ◌≡◌, ℕ, zero, suc, ◌+◌, ◌%◌, ◌^◌, ◌<◌, ◌≤◌, List, [], ◌∷◌, ◌++◌}
use Rattle.std.proofs.Common.{length, get_or, take, drop, replicate, refl, sym, ap, ◌∙◌, arith, add-one, length-take}
use Rattle.std.proofs.Common.{get_or-drop, get_or-take, take_at, take_all}
use Rattle.std.specs.Prelude.{All}
use Rattle.std.specs.List.{AllByRecursion}
use Rattle.std.proofs.lemmas.List.{drop_more, length-replicate}
use Rattle.std.proofs.lemmas.Bool.{cases_eq}
use Rattle.std.proofs.lemmas.List.Elements.{All-append, All-cons, All-from_recursion, All-from_get_or}
use Rattle.std.proofs.lemmas.Nat.{le_bytes_2, le_bytes_4, le_bytes_8}
use Rattle.byteorder.specs.Endian.{little_bytes, little_number}
use Rattle.byteorder.specs.Numbers.{little_from-lt}
use Rattle.ide_types.proofs.Cells.{IsBytes, cells, drop_cells, all_bytes}
use Rattle.tdisp_codec.specs.Messages.{IsIgnored}

abbrev pub IsByte : ℕ → Type 0
IsByte b = b < 256

pub length-cells : (n i : ℕ) (s : List ℕ) → length (cells n i s) ≡ n
length-cells zero i s = refl
length-cells (suc n) i s = ap suc (length-cells n (suc i) s)

pub cells_octets : (n i : ℕ) (s : List ℕ) → IsBytes s → IsBytes (cells n i s)
cells_octets zero i s f j = omega arith
cells_octets (suc n) i s f zero = f i
cells_octets (suc n) i s f (suc j) = cells_octets n (suc i) s f j

pub drop_octets : (k : ℕ) (s : List ℕ) → IsBytes s → IsBytes (drop k s)
drop_octets k s f i = rw (get_or-drop k s i 0) (f (k + i))

pub all_of : (s : List ℕ) → IsBytes s → All IsByte s
all_of s f = All-from_get_or IsByte s 0 (λ i lt. f i)

cells-drop : (n k i : ℕ) (s : List ℕ) → cells n i (drop k s) ≡ cells n (k + i) s
cells-drop zero k i s = refl
cells-drop (suc n) k i s =
    let e = get_or-drop k s i 0 in
    let next : k + suc i ≡ suc (k + i) = omega arith in
    let rest : cells n (suc i) (drop k s) ≡ cells n (suc (k + i)) s = cells-drop n k (suc i) s ∙ ap
    (λ (j : ℕ). cells n j s) next in
    rw (e, rest) refl

cells_behind : (n k : ℕ) (s : List ℕ) → cells n 0 (drop k s) ≡ cells n k s
cells_behind n k s = cells-drop n k 0 s ∙ ap (λ (j : ℕ). cells n j s) (omega arith)

-- the first bytes one by one, and the rest
pub drop_split_cells : (n i : ℕ) (s : List ℕ) → i + n ≤ length s → drop i s ≡ cells n i s ++ drop (i + n) s
drop_split_cells zero i s le = ap (λ (j : ℕ). drop j s) (omega arith)
drop_split_cells (suc n) i s le =
    let one : drop i s ≡ get_or s i 0 ∷ drop (suc i) s = drop_more s i 0 (omega arith) ∙ rw add-one refl in
    let end : suc i + n ≡ i + suc n = omega arith in
    let rest : drop (suc i) s ≡ cells n (suc i) s ++ drop (i + suc n) s = drop_split_cells n (suc i) s (omega arith) ∙
    ap (λ (j : ℕ). cells n (suc i) s ++ drop j s) end in
    one ∙ ap (λ (r : List ℕ). get_or s i 0 ∷ r) rest

pub take_cells : (n i : ℕ) (s : List ℕ) → i + n ≤ length s → take n (drop i s) ≡ cells n i s
take_cells n i s le = rw (drop_split_cells n i s le) (take_at (cells n i s) (drop (i + n) s) n (length-cells n i s))

pub list_cells : (n : ℕ) (s : List ℕ) → length s ≡ n → s ≡ cells n 0 s
list_cells n s e = drop_cells n 0 s (omega arith)

-- ---- numbers and their bytes, for which byteorder has no law: std's, one a width

pub number_2 : (k : ℕ) (s : List ℕ) → IsBytes s → little_bytes 2 (little_number 2 (drop k s)) ≡ cells 2 k s
number_2 k s f = le_bytes_2 (cells 2 0 (drop k s)) _ refl (cells_octets 2 0 _ (drop_octets k s f)) (omega arith) ∙
    cells_behind 2 k s

pub number_4 : (k : ℕ) (s : List ℕ) → IsBytes s → little_bytes 4 (little_number 4 (drop k s)) ≡ cells 4 k s
number_4 k s f = le_bytes_4 (cells 4 0 (drop k s)) _ refl (cells_octets 4 0 _ (drop_octets k s f)) (omega arith) ∙
    cells_behind 4 k s

pub number_8 : (k : ℕ) (s : List ℕ) → IsBytes s → little_bytes 8 (little_number 8 (drop k s)) ≡ cells 8 k s
number_8 k s f = le_bytes_8 (cells 8 0 (drop k s)) _ refl (cells_octets 8 0 _ (drop_octets k s f)) (omega arith) ∙
    cells_behind 8 k s

pub below_2 : (k : ℕ) (s : List ℕ) → IsBytes s → little_number 2 (drop k s) < 2 ^ 16
below_2 k s f = little_from-lt 0 2 (drop k s) (drop_octets k s f)

pub below_4 : (k : ℕ) (s : List ℕ) → IsBytes s → little_number 4 (drop k s) < 2 ^ 32
below_4 k s f = little_from-lt 0 4 (drop k s) (drop_octets k s f)

pub below_8 : (k : ℕ) (s : List ℕ) → IsBytes s → little_number 8 (drop k s) < 2 ^ 64
below_8 k s f = little_from-lt 0 8 (drop k s) (drop_octets k s f)

-- ---- bytes of numbers, and reserved bytes

-- all of these are bytes: as a record, from which the lists of a joined one are known
pub record AreOctets (s : List ℕ) : Type 0 where
  pub all : All IsByte s

pub are_bytes : {s : List ℕ} → AreOctets s → IsBytes s
are_bytes {s} p = all_bytes s p.all

pub octets : (s : List ℕ) → All IsByte s → AreOctets s
octets s all = record { all = all }

pub joins : {a b : List ℕ} → AreOctets a → AreOctets b → AreOctets (a ++ b)
joins {a} {b} p q = record { all = All-append IsByte a b p.all q.all }

pub leads : (k : ℕ) {b : List ℕ} → k < 256 → AreOctets b → AreOctets (k ∷ b)
leads k {b} less p = record { all = All-cons IsByte k b less p.all }

pub no_bytes : AreOctets []
no_bytes = record { all = All-from_recursion IsByte [] tt }

number_byte : (n : ℕ) {b : List ℕ} → AreOctets b → AreOctets (n % 256 ∷ b)
number_byte n p = leads (n % 256) (omega arith) p

pub two_bytes : (n : ℕ) → AreOctets (little_bytes 2 n)
two_bytes n = number_byte _ (number_byte _ no_bytes)

pub four_bytes : (n : ℕ) → AreOctets (little_bytes 4 n)
four_bytes n = number_byte _ (number_byte _ (number_byte _ (number_byte _ no_bytes)))

pub eight_bytes : (n : ℕ) → AreOctets (little_bytes 8 n)
eight_bytes n = number_byte _
    (number_byte _ (number_byte _
    (number_byte _ (number_byte _ (number_byte _ (number_byte _ (number_byte _ no_bytes)))))))

pub zero_bytes_by : (n : ℕ) → AllByRecursion IsByte (replicate n 0)
zero_bytes_by zero = tt
zero_bytes_by (suc n) = (omega arith, zero_bytes_by n)

abbrev pub ignored_bytes : (n i : ℕ) (s : List ℕ) → IsBytes s → IsIgnored n
ignored_bytes n i s f = record
    { bytes = cells n i s; long = length-cells n i s; octets = all_of (cells n i s) (cells_octets n i s f) }

pub take_long : (n : ℕ) (s : List ℕ) → length s ≡ n → take n s ≡ s
take_long n s long = take_all n s (omega arith)

pub nonce_fits : (s : List ℕ) → IsBytes s → length s ≡ 32 → (length (take 32 s) ≡ 32) × All IsByte (take 32 s)
nonce_fits s f long = let all = take_long 32 s long in rw all (long, all_of s f)

-- one value among several is as a value of its own, or another
pub at_value : (P : ℕ → Type 0) (n k : ℕ) → P k → (n ≢ k → P n) → P n
at_value P n k here other = elim (cases_eq n k) [
  | inl e ↦ subst P (sym e) here
  | inr no' ↦ other no'
]

-- zeros in reserved places
abbrev pub zeros : (n : ℕ) → IsIgnored n
zeros n = record {
  bytes = replicate n 0;
  long = length-replicate n 0;
  octets = All-from_recursion IsByte
      (replicate n 0) (zero_bytes_by n);
}

-- equal bytes are equal numbers
pub same_2 : (s t : List ℕ) → get_or s 0 0 ≡ get_or t 0 0 → get_or s 1 0 ≡ get_or t 1 0 → little_number 2 s
    ≡ little_number 2 t
same_2 s t a b = omega arith

pub same_4 : (k : ℕ) (s t : List ℕ) → ((i : ℕ) → k ≤ i → i < k + 4 → get_or s i 0 ≡ get_or t i 0)
    → little_number 4 (drop k s) ≡ little_number 4 (drop k t)
same_4 k s t agree =
    let at : (j : ℕ) → j < 4 → get_or (drop k s) j 0 ≡ get_or (drop k t) j 0 = λ j lt. get_or-drop k s j 0 ∙ agree
    (k + j) (omega arith) (omega arith) ∙ sym (get_or-drop k t j 0) in
    let a = at 0 (omega arith) in
    let b = at 1 (omega arith) in
    let c = at 2 (omega arith) in
    let d = at 3 (omega arith) in
    omega arith

pub all_taken : (n : ℕ) (s : List ℕ) → IsBytes s → All IsByte (take n s)
all_taken n s f = All-from_get_or IsByte (take n s) 0
    (λ i lt. let here : i < n = omega (arith, length-take n s) in rw (get_or-take n s i 0 here) (f i))
