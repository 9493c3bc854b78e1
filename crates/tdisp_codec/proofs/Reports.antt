-- Bytes spell a report exactly if they are read as it, and go off where the reader says.
use Rattle.std.proofs.Common.{◌≡◌, ℕ, ◌+◌, ◌*◌, ◌/◌, ◌^◌, ◌<◌, Bool, true, List, [], ◌∷◌, ◌++◌, length, take, drop}
use Rattle.std.proofs.Common.{refl, sym, ap, subst, ◌∙◌, arith, append_assoc, length-append, length-drop, length-take}
use Rattle.std.proofs.Common.{take-append-drop, take_at}
use Rattle.std.specs.List.{flat_map}
use Rattle.std.proofs.lemmas.Bool.{eq-eqb, ne_eqb}
use Rattle.std.proofs.lemmas.List.{drop_at, drop-drop}
use Rattle.byteorder.specs.Endian.{little_bytes, little_number}
use Rattle.byteorder.specs.Numbers.{little_number-reads_back}
use Rattle.ide_types.proofs.Cells.{IsBytes, cells, all_bytes}
use Rattle.tdisp_codec.specs.declared.report.ReportView.{ReportView}
use Rattle.tdisp_codec.specs.Messages.{length_fault}
use Rattle.tdisp_codec.specs.Ranges.{range_bytes, ranges_in}
use Rattle.tdisp_codec.specs.Reports.{Report, report_shown, report_bytes, report_spelling, FitsReport, SpellsReport}
use Rattle.tdisp_codec.specs.Reports.{range_count, device_place, report_size, report_in, report_fault_at}
use Rattle.tdisp_codec.proofs.Octets.{are_bytes, octets, joins, list_cells, drop_split_cells, drop_octets, all_of}
use Rattle.tdisp_codec.proofs.Octets.{number_2, number_4, below_2, below_4, two_bytes, four_bytes, ignored_bytes, zeros}
use Rattle.tdisp_codec.proofs.Octets.{same_4, all_taken}
use Rattle.tdisp_codec.proofs.Shapes.{IsSized, IsShaped, judged_length, IsReader}
use Rattle.tdisp_codec.proofs.RangeBytes.{length-first_ranges, length-ranges, range_octets, ranges_again, ranges_back}
use Rattle.tdisp_codec.proofs.RangeBytes.{first_fit}

abbrev any : ℕ → ℕ → Bool
any place b = true

-- ---- from a report to bytes, and what is read of them

-- after the first 16 bytes
abbrev rest_bytes : Report → List ℕ
rest_bytes r = flat_map range_bytes r.ranges ++ (little_bytes 4 (length r.device) ++ r.device)

record IsRead (r : Report) (s : List ℕ) : Type 0 where
  info : little_number 2 s ≡ r.info
  msix : little_number 2 (drop 4 s) ≡ r.msix
  lnr : little_number 2 (drop 6 s) ≡ r.lnr
  tph : little_number 4 (drop 8 s) ≡ r.tph
  count : range_count s ≡ length r.ranges
  rest : drop 16 s ≡ rest_bytes r
  long : length s ≡ 16 + length (rest_bytes r)

-- with the two reserved bytes written out each number stands at its own place, and is read back from its bytes
front_read : (r : Report) (s : List ℕ) → SpellsReport r s → IsRead r s
front_read r s p =
    let f = p.fits in
    let x = p.reserved.bytes in
    let one : x ≡ cells 2 0 x = list_cells 2 x p.reserved.long in
    let whole : s ≡ report_bytes (cells 2 0 x) r = p.spelled ∙ ap (λ (y : List ℕ). report_bytes y r) one in
    let d = little_bytes 4 (length r.ranges) ++ rest_bytes r in
    let c = little_bytes 4 r.tph ++ d in
    let b = little_bytes 2 r.lnr ++ c in
    let a = little_bytes 2 r.msix ++ b in
    subst (IsRead r) (sym whole) (record {
      info = little_number-reads_back 2 r.info (cells 2 0 x ++ a) f.info;
      msix = little_number-reads_back 2 r.msix b f.msix;
      lnr = little_number-reads_back 2 r.lnr c f.lnr;
      tph = little_number-reads_back 4 r.tph d f.tph;
      count = little_number-reads_back 4 (length r.ranges) (rest_bytes r) f.counted.ranges;
      rest = refl;
      long = omega arith;
    })

-- each field's bytes are bytes, and a report is its fields joined
report_octets : (r : Report) (s : List ℕ) → SpellsReport r s → IsBytes s
report_octets r s p =
    let rest = joins (range_octets r.ranges) (joins (four_bytes (length r.device)) (octets r.device p.fits.device)) in
    let behind = joins (two_bytes r.lnr) (joins (four_bytes r.tph) (joins (four_bytes (length r.ranges)) rest)) in
    let whole = joins (two_bytes r.info)
    (joins (octets p.reserved.bytes p.reserved.octets) (joins (two_bytes r.msix) behind)) in
    rw p.spelled (are_bytes whole)

-- the count of ranges is read first; it says where the length of the device information stands, and that says where the
-- report ends
shape_of : (r : Report) (s : List ℕ) → SpellsReport r s → IsShaped any report_size s × (report_in s ≡ r)
shape_of r s p =
    let m = front_read r s p in
    let bytes = flat_map range_bytes r.ranges in
    let tail = little_bytes 4 (length r.device) ++ r.device in
    let n = length r.ranges in
    let long : length bytes ≡ 16 * n = length-ranges r.ranges in
    let counted : 16 * range_count s ≡ 16 * n = ap (λ (k : ℕ). 16 * k) m.count in
    let place : device_place s ≡ 16 + 16 * n = ap (λ (k : ℕ). 16 + k) counted in
    let behind : drop (device_place s) s ≡ tail =
    ap (λ (k : ℕ). drop k s) place ∙ sym (drop-drop (16 * n) 16 s) ∙ ap (λ (t : List ℕ). drop (16 * n) t) m.rest ∙
    drop_at bytes tail (16 * n) long in
    let size : little_number 4 (drop (device_place s) s) ≡ length r.device = ap (λ (t : List ℕ). little_number 4 t)
    behind ∙ little_number-reads_back 4 (length r.device) r.device p.fits.counted.device in
    let last : drop (device_place s + 4) s ≡ r.device = sym (drop-drop 4 (device_place s) s) ∙ ap
    (λ (t : List ℕ). drop 4 t) behind in
    let taken : take (16 * range_count s) (drop 16 s) ≡ bytes =
    ap (λ (k : ℕ). take k (drop 16 s)) counted ∙ ap (λ (t : List ℕ). take (16 * n) t) m.rest ∙ take_at bytes tail
    (16 * n) long in
    let ranges : ranges_in (take (16 * range_count s) (drop 16 s))
    ≡ r.ranges = ap (λ (t : List ℕ). ranges_in t) taken ∙ ranges_again r.ranges p.fits.ranges in
    let same : report_in s ≡ record
    { info = r.info; msix = r.msix; lnr = r.lnr; tph = r.tph; ranges = r.ranges; device = r.device } = cc in (
      record {
        octets = report_octets r s p;
        fitting = λ i lt. refl;
        long = let l = m.long in omega (arith, length-append bytes tail);
      },
      same,
    )

-- ---- from bytes to a report

-- the bytes are cut at the places that the counts say, and each part is the spelling of what is read of it
spells_of : (s : List ℕ) → IsShaped any report_size s → SpellsReport (report_in s) s
spells_of s shape =
    let f = shape.octets in
    let long = shape.long in
    let n = range_count s in
    let place = device_place s in
    let bytes = take (16 * n) (drop 16 s) in
    let device = drop (place + 4) s in
    let taken : length bytes ≡ 16 * n = omega (arith, length-take (16 * n) (drop 16 s), length-drop 16 s) in
    let octets : IsBytes bytes = all_bytes bytes (all_taken (16 * n) (drop 16 s) (drop_octets 16 s f)) in
    let counted : length (ranges_in bytes) ≡ n = length-first_ranges (length bytes / 16) bytes ∙ omega arith in
    let sized : length device ≡ little_number 4 (drop place s) = omega (arith, length-drop (place + 4) s) in
    let small : n < 2 ^ 32 = below_4 12 s f in
    let few : little_number 4 (drop place s) < 2 ^ 32 = below_4 place s f in
    let d : little_bytes 4 (length device) ≡ cells 4 place s = ap (λ (k : ℕ). little_bytes 4 k) sized ∙ number_4 place s
    f in
    let end : drop place s ≡ little_bytes 4 (length device) ++ device = drop_split_cells 4 place s (omega arith) ∙ ap
    (λ (x : List ℕ). x ++ device) (sym d) in
    let behind : drop (16 * n) (drop 16 s) ≡ drop place s = drop-drop (16 * n) 16 s in
    let middle : bytes ≡ flat_map range_bytes (ranges_in bytes) = sym (ranges_back bytes octets (omega arith)) in
    let rest : drop 16 s ≡ flat_map range_bytes (ranges_in bytes) ++ (little_bytes 4 (length device) ++ device) =
    sym (take-append-drop (16 * n) (drop 16 s)) ∙ ap (λ (x : List ℕ). bytes ++ x) (behind ∙ end) ∙ ap
    (λ (x : List ℕ). x ++ (little_bytes 4 (length device) ++ device)) middle in
    let whole : cells 16 0 s ++ drop 16 s ≡ report_bytes (cells 2 2 s) (report_in s) =
    rw (counted, rest) (cc (number_2 0 s f, number_2 4 s f, number_2 6 s f, number_4 8 s f, number_4 12 s f)) in
    record {
      fits = record {
        info = below_2 0 s f;
        msix = below_2 4 s f;
        lnr = below_2 6 s f;
        tph = below_4 8 s f;
        ranges = first_fit (length bytes / 16) bytes octets;
        device = all_of device (drop_octets (place + 4) s f);
        counted = record { ranges = omega arith; device = omega arith };
      };
      reserved = ignored_bytes 2 2 s f;
      spelled = drop_split_cells 16 0 s (omega arith) ∙ whole;
    }

-- ---- the grammar

-- both counts lie within the length that they say, so bytes that agree up to there have one length
sized : IsSized any [] report_size
sized = record {
  octets = λ i. omega arith;
  early = λ i. refl;
  more = λ s. omega arith;
  same = λ s t agree.
      let count : range_count s ≡ range_count t = same_4 12 s t (λ i ge lt. agree i (omega arith)) in
      let place : device_place s ≡ device_place t = ap (λ (k : ℕ). 16 + 16 * k) count in
      let size : little_number 4 (drop (device_place s) s) ≡ little_number 4 (drop (device_place s) t) = same_4
      (device_place s) s t (λ i ge lt. agree i (omega arith)) in
      let moved : little_number 4 (drop (device_place s) t) ≡ little_number 4 (drop (device_place t) t) = ap
      (λ (k : ℕ). little_number 4 (drop k t)) place in
      omega arith;
}

-- a report has no first byte that could be wrong: it is too short, too long or whole
pub reader : IsReader SpellsReport report_in any report_size report_fault_at (λ s. length_fault (report_size s) s)
reader = record {
  head = [];
  sized = sized;
  shape_of = shape_of;
  spells_of = spells_of;
  judged = λ s octets. judged_length any report_size report_fault_at s octets (λ i lt. refl)
      (rw (eq-eqb (length s) (length s) refl) refl)
      (λ lt. rw (ne_eqb (report_size s) (length s) (λ e. omega arith)) refl);
}

pub written_spells : (r : Report) → FitsReport r → SpellsReport r (report_spelling r)
written_spells r f = record { fits = f; reserved = zeros 2; spelled = refl }

-- ---- a view as it is written

abbrev pub front_bytes : ReportView → ℕ → List ℕ
front_bytes view count =
    little_bytes 2 view.info ++
    (0 ∷ (0 ∷ (little_bytes 2 view.msix ++
    (little_bytes 2 view.lnr ++ (little_bytes 4 view.tph ++ little_bytes 4 count)))))

pub view_spelled : (view : ReportView) → flat_map range_bytes (ranges_in view.ranges.bytes.now) ≡ view.ranges.bytes.now
    → front_bytes view (length view.ranges.bytes.now / 16) ++
    (view.ranges.bytes.now ++ (little_bytes 4 (length view.device.now) ++ view.device.now))
    ≡ report_spelling (report_shown view)
view_spelled view flat =
    let bytes = view.ranges.bytes.now in
    let tail = little_bytes 4 (length view.device.now) ++ view.device.now in
    let count : length bytes / 16 ≡ length (ranges_in bytes) = sym (length-first_ranges (length bytes / 16) bytes) in
    ap (λ (k : ℕ). front_bytes view k ++ (bytes ++ tail)) count ∙ ap
    (λ (x : List ℕ). front_bytes view (length (ranges_in bytes)) ++ (x ++ tail)) (sym flat)

pub joined : (out front ranges size device a b c d : List ℕ) → a ≡ out ++ front → b ≡ a ++ ranges → c ≡ b ++ size → d
    ≡ c ++ device → d ≡ out ++ (front ++ (ranges ++ (size ++ device)))
joined out front ranges size device a b c d e f g h = h ∙ ap (λ (x : List ℕ). x ++ device)
    (g ∙ ap (λ (x : List ℕ). x ++ size) (f ∙ ap (λ (x : List ℕ). x ++ ranges) e)) ∙ simp append_assoc
