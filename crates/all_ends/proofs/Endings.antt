-- Packets that stand joined, by where they end.
use Rattle.std.proofs.Common.{◌≡◌, ℕ, zero, suc, ◌+◌, ◌-◌, ◌≤◌, ◌<◌, List, [], ◌∷◌, ◌++◌, length, take, drop, get_or}
use Rattle.std.proofs.Common.{Some, refl, ap, sym, ◌∙◌, arith, length-drop}
use Rattle.std.specs.Prelude.{map, slice_range, slice_index, sum_by}
use Rattle.std.specs.List.{slice_get}
use Rattle.std.proofs.Math.Seq.{drop-append_seam}
use Rattle.std.proofs.lemmas.List.{drop-drop, drop-append-le, take-append-le}
use Rattle.std.proofs.lemmas.List.Sums.{sum_by-cons}
use Rattle.ide_types.specs.declared.port.PortName.{PortName}
use Rattle.machine_ports.specs.Machine.{LinkPacket}
use Rattle.sub_stream.specs.declared.answer.MeasuredPacket.{MeasuredPacket}
use Rattle.all_ends.specs.Cuts.{cut_packets}
use Rattle.all_ends.specs.Packets.{packets_ending, EndThere, packet_ends_from, port_for_each}

abbrev pub lengths_of : List MeasuredPacket → List ℕ
lengths_of ps = map (λ (p : MeasuredPacket). p.length) ps

abbrev pub ports_of : PortName → List MeasuredPacket → List PortName
ports_of port ps = port_for_each port (lengths_of ps)

-- ---- they lie within the bytes

pub none_past : (start : ℕ) (ports : List PortName) (ends : List ℕ) (n : ℕ) → EndThere start ports ends n → start ≤ n
none_past start [] [] n is = omega (arith, is)
none_past start [] (e ∷ es) n is = absurd is
none_past start (p ∷ ps) [] n is = absurd is
none_past start (p ∷ ps) (e ∷ es) n is =
    let rest = none_past e ps es n is.1 in
    omega (arith, is.0, rest)

pub as_many : (start : ℕ) (ports : List PortName) (ends : List ℕ) (n : ℕ) → EndThere start ports ends n
    → length ends ≡ length ports
as_many start [] [] n is = refl
as_many start [] (e ∷ es) n is = absurd is
as_many start (p ∷ ps) [] n is = absurd is
as_many start (p ∷ ps) (e ∷ es) n is = ap suc (as_many e ps es n is.1)

pub as_many_packets : (start : ℕ) (ports : List PortName) (ends bytes : List ℕ) (n : ℕ) → EndThere start ports ends n
    → length (packets_ending start ports ends bytes) ≡ length ports
as_many_packets start [] [] bytes n is = refl
as_many_packets start [] (e ∷ es) bytes n is = absurd is
as_many_packets start (p ∷ ps) [] bytes n is = absurd is
as_many_packets start (p ∷ ps) (e ∷ es) bytes n is = ap suc (as_many_packets e ps es bytes n is.1)

-- ---- one of them

pub at_place : (xs : List ℕ) (i r : ℕ) → i < length xs → r ≡ get_or xs i r → r ≡ slice_index xs i
at_place [] i r less is = absurd (omega arith)
at_place (x ∷ xs) zero r less is = is
at_place (x ∷ xs) (suc i) r less is = at_place xs i r (omega arith) is

pub stands_within : (start : ℕ) (ports : List PortName) (ends : List ℕ) (n i : ℕ) → EndThere start ports ends n
    → i < length ends → (slice_index (start ∷ ends) i ≤ slice_index ends i) × (slice_index ends i ≤ n)
stands_within start [] [] n i is less = absurd (omega arith)
stands_within start [] (e ∷ es) n i is less = absurd is
stands_within start (p ∷ ps) [] n i is less = absurd is
stands_within start (p ∷ ps) (e ∷ es) n zero is less = (is.0, none_past e ps es n is.1)
stands_within start (p ∷ ps) (e ∷ es) n (suc i) is less = stands_within e ps es n i is.1 (omega arith)

-- there is a port and an end at place i, and its packet lies within n bytes
pub record LiesAt (ports : List PortName) (ends : List ℕ) (n i : ℕ) : Type 0 where
  pub port : i < length ports
  pub end : i < length ends
  pub low : slice_index (0 ∷ ends) i ≤ slice_index ends i
  pub high : slice_index ends i ≤ n

pub lies_at : (ports : List PortName) (ends bytes : List ℕ) (packets : List LinkPacket) (i : ℕ)
    → packets_ending 0 ports ends bytes ≡ packets → EndThere 0 ports ends (length bytes) → i < length packets
    → LiesAt ports ends (length bytes) i
lies_at ports ends bytes packets i same is less =
    let long = as_many_packets 0 ports ends bytes (length bytes) is in
    let many = as_many 0 ports ends (length bytes) is in
    let end : i < length ends = omega (arith, less, long, many, ap length same) in
    let within = stands_within 0 ports ends (length bytes) i is end in
    record { port = omega (arith, end, many); end = end; low = within.0; high = within.1 }

pub found_at : (start : ℕ) (ports : List PortName) (ends bytes : List ℕ) (n i : ℕ) (d : PortName)
    → EndThere start ports ends n → i < length ports → slice_get (packets_ending start ports ends bytes) i
    ≡ Some (record {
      port = get_or ports i d;
      bytes = slice_range bytes (slice_index (start ∷ ends) i) (slice_index ends i);
    })
found_at start [] [] bytes n i d is less = absurd (omega arith)
found_at start [] (e ∷ es) bytes n i d is less = absurd is
found_at start (p ∷ ps) [] bytes n i d is less = absurd is
found_at start (p ∷ ps) (e ∷ es) bytes n zero d is less = refl
found_at start (p ∷ ps) (e ∷ es) bytes n (suc i) d is less = found_at e ps es bytes n i d is.1 (omega arith)

-- ---- more of them

cut_at : (start n : ℕ) (all : List ℕ) → slice_range all start (start + n) ≡ take n (drop start all)
cut_at start n all = let e : start + n - start ≡ n = omega arith in rw e refl

-- packets whose ends follow from their lengths are cut where they begin
cuts_from : (port : PortName) (ps : List MeasuredPacket) (start : ℕ) (all : List ℕ)
    → packets_ending start (ports_of port ps) (packet_ends_from start (lengths_of ps)) all
    ≡ cut_packets port (lengths_of ps) (drop start all)
cuts_from port [] start all = refl
cuts_from port (p ∷ ps) start all =
    let rest = cuts_from port ps (start + p.length) all ∙ ap (λ (b : List ℕ). cut_packets port (lengths_of ps) b)
    (sym (drop-drop p.length start all)) in
    (λ i. record { port = port; bytes = cut_at start p.length all i } ∷ rest i)

-- older packets do not see bytes that come later
kept_part : (start e : ℕ) (old more : List ℕ) → start ≤ e → e ≤ length old
    → slice_range (old ++ more) start e ≡ slice_range old start e
kept_part start e old more low high =
    let front : drop start (old ++ more) ≡ drop start old ++ more = drop-append-le start old more (omega arith) in
    ap (λ (b : List ℕ). take (e - start) b) front
    ∙ take-append-le (e - start) (drop start old) more (omega (arith, length-drop start old))

pub kept_and_cut : (start : ℕ) (ports : List PortName) (ends : List ℕ) (port : PortName) (ps : List MeasuredPacket)
    (old more : List ℕ) → EndThere start ports ends (length old)
    → packets_ending start (ports ++ ports_of port ps) (ends ++ packet_ends_from (length old) (lengths_of ps))
    (old ++ more) ≡ packets_ending start ports ends old ++ cut_packets port (lengths_of ps) more
kept_and_cut start [] [] port ps old more is =
    ap (λ (s : ℕ). packets_ending s (ports_of port ps) (packet_ends_from (length old) (lengths_of ps)) (old ++ more)) is
    ∙ cuts_from port ps (length old) (old ++ more)
    ∙ ap (λ (b : List ℕ). cut_packets port (lengths_of ps) b) (drop-append_seam old more)
kept_and_cut start [] (e ∷ es) port ps old more is = absurd is
kept_and_cut start (q ∷ qs) [] port ps old more is = absurd is
kept_and_cut start (q ∷ qs) (e ∷ es) port ps old more is =
    let part = kept_part start e old more is.0 (none_past e qs es (length old) is.1) in
    let rest = kept_and_cut e qs es port ps old more is.1 in
    (λ i. record { port = q; bytes = part i } ∷ rest i)

ends_fit : (port : PortName) (ps : List MeasuredPacket) (start n : ℕ)
    → start + sum_by (λ (p : MeasuredPacket). p.length) ps ≡ n
    → EndThere start (ports_of port ps) (packet_ends_from start (lengths_of ps)) n
ends_fit port [] start n is = omega (arith, is)
ends_fit port (p ∷ ps) start n is =
    let sums : sum_by (λ (p : MeasuredPacket). p.length) (p ∷ ps)
    ≡ p.length + sum_by (λ (p : MeasuredPacket). p.length) ps = sum_by-cons (λ (p : MeasuredPacket). p.length) p ps in
    (omega arith, ends_fit port ps (start + p.length) n (omega arith))

pub all_end_there : (start : ℕ) (ports : List PortName) (ends : List ℕ) (port : PortName) (ps : List MeasuredPacket)
    (m n : ℕ) → EndThere start ports ends m → m + sum_by (λ (p : MeasuredPacket). p.length) ps ≡ n
    → EndThere start (ports ++ ports_of port ps) (ends ++ packet_ends_from m (lengths_of ps)) n
all_end_there start [] [] port ps m n is sum = rw is (ends_fit port ps m n sum)
all_end_there start [] (e ∷ es) port ps m n is sum = absurd is
all_end_there start (q ∷ qs) [] port ps m n is sum = absurd is
all_end_there start (q ∷ qs) (e ∷ es) port ps m n is sum = (is.0, all_end_there e qs es port ps m n is.1 sum)
