-- Ranges and their bytes.
use Rattle.std.proofs.Common.{◌≡◌, ℕ, zero, suc, ◌+◌, ◌*◌, ◌/◌, ◌%◌, List, [], ◌∷◌, ◌++◌, length, drop, refl}
use Rattle.std.proofs.Common.{sym, ap, ◌∙◌, arith, length-append, length-drop}
use Rattle.std.specs.Prelude.{All}
use Rattle.std.specs.List.{flat_map, AllByRecursion}
use Rattle.std.proofs.lemmas.List.{nil_from_length}
use Rattle.std.proofs.lemmas.List.Elements.{All-from_recursion}
use Rattle.byteorder.specs.Endian.{little_bytes}
use Rattle.byteorder.specs.Numbers.{little_number-reads_back}
use Rattle.ide_types.proofs.Cells.{IsBytes, cells}
use Rattle.tdisp_codec.specs.declared.report.ReportRange.{ReportRange}
use Rattle.tdisp_codec.specs.Ranges.{range_bytes, FitsRange, range_from, first_ranges, ranges_in}
use Rattle.tdisp_codec.proofs.Octets.{AreOctets, joins, drop_octets, drop_split_cells, number_2, number_4, number_8}
use Rattle.tdisp_codec.proofs.Octets.{below_2, below_4, below_8, two_bytes, four_bytes, eight_bytes, no_bytes}

pub length-first_ranges : (n : ℕ) (s : List ℕ) → length (first_ranges n s) ≡ n
unfolding first_ranges
length-first_ranges zero s = refl
length-first_ranges (suc n) s = ap suc (length-first_ranges n (drop 16 s))

-- ---- from ranges to bytes, and back

range_again : (r : ReportRange) (rest : List ℕ) → FitsRange r → range_from (range_bytes r ++ rest) ≡ r
range_again r rest f =
    let a = little_number-reads_back 8 r.first_page
    (little_bytes 4 r.pages ++ (little_bytes 2 r.attributes ++ (little_bytes 2 r.id ++ rest))) f.first_page in
    let b = little_number-reads_back 4 r.pages (little_bytes 2 r.attributes ++ (little_bytes 2 r.id ++ rest)) f.pages in
    let c = little_number-reads_back 2 r.attributes (little_bytes 2 r.id ++ rest) f.attributes in
    let d = little_number-reads_back 2 r.id rest f.id in
    let all : range_from (range_bytes r ++ rest) ≡ record
    { first_page = r.first_page; pages = r.pages; attributes = r.attributes; id = r.id } = cc in
    all

pub length-ranges : (rs : List ReportRange) → length (flat_map range_bytes rs) ≡ 16 * length rs
length-ranges [] = refl
length-ranges (r ∷ rs) = let e = length-ranges rs in omega
    (arith, length-append (range_bytes r) (flat_map range_bytes rs))

pub ranges_first : (rs : List ReportRange) → All FitsRange rs → first_ranges (length rs) (flat_map range_bytes rs) ≡ rs
unfolding first_ranges
ranges_first [] f = refl
ranges_first (r ∷ rs) f =
    let one : range_from (range_bytes r ++ flat_map range_bytes rs)
    ≡ r = range_again r (flat_map range_bytes rs) (f 0 r (omega arith)) in
    let rest : first_ranges (length rs) (flat_map range_bytes rs)
    ≡ rs = ranges_first rs (λ i d lt. f (suc i) d (omega arith)) in
    ap (λ (x : ReportRange). x ∷ first_ranges (length rs) (flat_map range_bytes rs)) one ∙ ap
    (λ (x : List ReportRange). r ∷ x) rest

-- ---- from bytes to ranges, and back

range_back : (s : List ℕ) → IsBytes s → range_bytes (range_from s) ≡ cells 16 0 s
range_back s f = cc (number_8 0 s f, number_4 8 s f, number_2 12 s f, number_2 14 s f)

pub range_fits : (s : List ℕ) → IsBytes s → FitsRange (range_from s)
range_fits s f = record
    { first_page = below_8 0 s f; pages = below_4 8 s f; attributes = below_2 12 s f; id = below_2 14 s f }

pub first_back : (n : ℕ) (s : List ℕ) → IsBytes s → length s ≡ 16 * n → flat_map range_bytes (first_ranges n s) ≡ s
unfolding first_ranges
first_back zero s f long = sym (nil_from_length s (omega arith))
first_back (suc n) s f long =
    let one : range_bytes (range_from s) ≡ cells 16 0 s = range_back s f in
    let rest : flat_map range_bytes (first_ranges n (drop 16 s))
    ≡ drop 16 s = first_back n (drop 16 s) (drop_octets 16 s f) (omega (arith, length-drop 16 s)) in
    ap (λ (x : List ℕ). x ++ flat_map range_bytes (first_ranges n (drop 16 s))) one ∙ ap
    (λ (x : List ℕ). cells 16 0 s ++ x) rest ∙ sym (drop_split_cells 16 0 s (omega arith))

fits_by : (n : ℕ) (s : List ℕ) → IsBytes s → AllByRecursion FitsRange (first_ranges n s)
unfolding first_ranges
fits_by zero s f = tt
fits_by (suc n) s f = (range_fits s f, fits_by n (drop 16 s) (drop_octets 16 s f))

pub first_fit : (n : ℕ) (s : List ℕ) → IsBytes s → All FitsRange (first_ranges n s)
first_fit n s f = All-from_recursion FitsRange (first_ranges n s) (fits_by n s f)

pub range_octets : (rs : List ReportRange) → AreOctets (flat_map range_bytes rs)
range_octets [] = no_bytes
range_octets (r ∷ rs) = joins
    (joins (eight_bytes r.first_page) (joins (four_bytes r.pages) (joins (two_bytes r.attributes) (two_bytes r.id))))
    (range_octets rs)

pub ranges_again : (rs : List ReportRange) → All FitsRange rs → ranges_in (flat_map range_bytes rs) ≡ rs
ranges_again rs f =
    let n : length (flat_map range_bytes rs) / 16 ≡ length rs = omega (arith, length-ranges rs) in
    ap (λ (k : ℕ). first_ranges k (flat_map range_bytes rs)) n ∙ ranges_first rs f

pub ranges_back : (s : List ℕ) → IsBytes s → length s % 16 ≡ 0 → flat_map range_bytes (ranges_in s) ≡ s
ranges_back s f whole = first_back (length s / 16) s f (omega arith)
