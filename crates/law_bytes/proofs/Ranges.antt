-- The ranges of key stream that mask payloads do not meet, nor the block that masks the tag.
use Rattle.law_sealing.proofs.Terms.{◌≡◌, ℕ, ◌+◌, ◌*◌, ◌≤◌, ◌<◌, inl, inr, zero, suc, Bool, true, false, List, [], ◌∷◌}
use Rattle.law_sealing.proofs.Terms.{◌++◌, length, length-append, slice_get, take, Some, refl, ap, sym, subst, ◌∙◌}
use Rattle.law_sealing.proofs.Terms.{arith, if◌then◌else◌, cases_Bool, Plan, SubStream, History, SealedPacket, Packet}
use Rattle.law_sealing.proofs.Terms.{SealedList, sealed_packets, open_unit, sub_stream_packets, sub_stream_of}
use Rattle.law_sealing.proofs.Terms.{is_sealed_under, CauseLaw, same_stream, sub_stream_packets-snoc, open_unit-more}
use Rattle.law_sealing.proofs.Terms.{open_unit-end, encrypted_bytes, flat_map-append, append-nil, FitsPacket, body_size}
use Rattle.law_sealing.proofs.Terms.{aggregation_of, StreamsFit, Prefix, is_same-refl, eqb-refl, nat_tests, sent_bytes}
use Rattle.std.specs.Prelude.{◌-◌, ◌/◌, ◌^◌, ◌≢◌}
unfoldable use Rattle.law_sealing.proofs.Terms.{packet_of}
use Rattle.std.specs.Int.{w32, to_be_bytes, from_be_bytes}
use Rattle.std.proofs.lemmas.Nat.{from_be_bytes-to_be_bytes_4}
use Rattle.gcm_seal.specs.Gcm.{counter, masked_bytes}
use Rattle.gcm_seal.proofs.Strings.{counter-at}
use Rattle.ide_types.specs.Fits.{FitsPlan}
use Rattle.law_sealing.proofs.Sums.{in_parts, next_taken}
use Rattle.spec_links.specs.Numbers.{AreOfOneUnit, key_used, iv_used}
use Rattle.law_verdicts.proofs.{draws}
use Rattle.law_sealing.proofs.OfPlans.{streams_fit}
use Rattle.law_sealing.proofs.Places.{Placed, placed}
use Rattle.law_sealing.proofs.Numbers.{numbers_fresh}
use Rattle.law_bytes.specs.KeyStream.{offset_at, payload_for, IsMasked, KeyStreamFresh}
use Rattle.law_bytes.proofs.SealedBy.{sealed_by}

-- ---- each body

pub body_of : (plan : Plan) (ahead bytes : List ℕ) (d : SealedPacket) (unfinished : List Packet)
    → (packet_of plan ahead bytes d unfinished).body
    ≡ masked_bytes (key_used plan d) (iv_used d) (length (encrypted_bytes unfinished)) (payload_for bytes d)
unfolding packet_of
body_of plan ahead bytes d unfinished = refl

range_of : (plan : Plan) (h : History) (i : ℕ) (x : SealedPacket × Packet)
    → slice_get (sealed_packets plan h) i ≡ Some x → IsMasked plan h i x
range_of plan h i x at =
    let by = sealed_by plan h i x at in
    record {
      event = by.event;
      ds = by.ds;
      older = by.older;
      came = by.came;
      from = by.from;
      until = by.until;
      masks = ap (λ (p : Packet). p.body) by.for.packet
          ∙ body_of plan by.for.ahead (sent_bytes plan by.older by.event) x.0 _;
    }

-- ---- from one packet to the next

-- how many bytes of the open unit of a sub-stream and draw were sealed before a place
abbrev sealed_to : SealedList → SubStream → ℕ → ℕ → ℕ
sealed_to xs s j n = length (encrypted_bytes (open_unit (sub_stream_packets (take n xs) s j)))

encrypted_more : (ps : List Packet) (p : Packet) → length (encrypted_bytes (ps ++ p ∷ [])) ≡ length (encrypted_bytes ps)
    + length p.body
encrypted_more ps p = rw (flat_map-append, append-nil) (length-append (encrypted_bytes ps) p.body)

next_sent : (xs : SealedList) (s : SubStream) (j n : ℕ) (z : SealedPacket × Packet) → slice_get xs n ≡ Some z
    → sub_stream_packets (take (suc n) xs) s j
    ≡ (if is_sealed_under s j z then sub_stream_packets (take n xs) s j ++ z.1 ∷ []
    else sub_stream_packets (take n xs) s j)
next_sent xs s j n z at = ap (λ (ys : SealedList). sub_stream_packets ys s j) (next_taken xs n z at)
    ∙ sub_stream_packets-snoc (take n xs) z s j

-- a packet that ends no unit joins the open one
joins : (xs : SealedList) (s : SubStream) (j n : ℕ) (z : SealedPacket × Packet) → slice_get xs n ≡ Some z
    → is_sealed_under s j z ≡ true → z.1.prefix.m ≡ false
    → sealed_to xs s j (suc n) ≡ sealed_to xs s j n + length z.1.body
joins xs s j n z at under m =
    let next = next_sent xs s j n z at ∙ ap
    (λ (b : Bool). if b then sub_stream_packets (take n xs) s j ++ z.1 ∷ [] else sub_stream_packets (take n xs) s j)
    under in
    ap (λ (ps : List Packet). length (encrypted_bytes (open_unit ps))) next
    ∙ (ap (λ (ps : List Packet). length (encrypted_bytes ps))
    (open_unit-more (sub_stream_packets (take n xs) s j) z.1 m)
    ∙ encrypted_more (open_unit (sub_stream_packets (take n xs) s j)) z.1)

passes : (xs : SealedList) (s : SubStream) (j n : ℕ) (z : SealedPacket × Packet) → slice_get xs n ≡ Some z
    → is_sealed_under s j z ≡ false → sealed_to xs s j (suc n) ≡ sealed_to xs s j n
passes xs s j n z at off =
    let next = next_sent xs s j n z at ∙ ap
    (λ (b : Bool). if b then sub_stream_packets (take n xs) s j ++ z.1 ∷ [] else sub_stream_packets (take n xs) s j) off
    in
    ap (λ (ps : List Packet). length (encrypted_bytes (open_unit ps))) next

-- so it never falls while none ends a unit
grows : (xs : SealedList) (s : SubStream) (j n : ℕ) (z : SealedPacket × Packet) → slice_get xs n ≡ Some z
    → (is_sealed_under s j z ≡ true → z.1.prefix.m ≡ false) → sealed_to xs s j n ≤ sealed_to xs s j (suc n)
grows xs s j n z at goes_on = elim (cases_Bool (is_sealed_under s j z)) [
  | inl under ↦ omega (arith, joins xs s j n z at under (goes_on under))
  | inr off ↦ omega (arith, passes xs s j n z at off)
]

record Element (xs : SealedList) (n : ℕ) : Type 0 where
  element : SealedPacket × Packet
  stands : slice_get xs n ≡ Some element

element_at : (xs : SealedList) (n : ℕ) → n < length xs → Element xs n
element_at [] n less = absurd (omega (arith, less))
element_at (x ∷ xs) zero less = record { element = x; stands = refl }
element_at (x ∷ xs) (suc n) less =
    let later = element_at xs n (omega (arith, less)) in record { element = later.element; stands = later.stands }

get_less : (xs : SealedList) (n : ℕ) (x : SealedPacket × Packet) → slice_get xs n ≡ Some x → n < length xs
get_less [] n x is = absurd cc
get_less (y ∷ xs) zero x is = omega arith
get_less (y ∷ xs) (suc n) x is = let rest = get_less xs n x is in omega (arith, rest)

grows_to : (xs : SealedList) (s : SubStream) (j i more : ℕ) → i + more ≤ length xs
    → ((n : ℕ) (z : SealedPacket × Packet) → i ≤ n → n < i + more → slice_get xs n ≡ Some z → is_sealed_under s j z
    ≡ true → z.1.prefix.m ≡ false) → sealed_to xs s j i ≤ sealed_to xs s j (i + more)
grows_to xs s j i zero le goes_on = let same : i + 0 ≡ i = omega arith in rw same (omega arith)
grows_to xs s j i (suc more) le goes_on =
    let here = element_at xs (i + more) (omega (arith, le)) in
    let one = grows xs s j (i + more) here.element here.stands
    (λ under. goes_on (i + more) here.element (omega arith) (omega arith) here.stands under) in
    let before = grows_to xs s j i more (omega (arith, le))
    (λ n z from until at under. goes_on n z from (omega (arith, until)) at under) in
    let same : i + suc more ≡ suc (i + more) = omega arith in
    rw same (omega (arith, one, before))

under_itself : (x : SealedPacket × Packet) → is_sealed_under (sub_stream_of x.0) x.0.draw x ≡ true
under_itself x = rw (is_same-refl (sub_stream_of x.0), eqb-refl x.0.draw) refl

apart_at : (plan : Plan) (xs : SealedList) (i k : ℕ) (x y : SealedPacket × Packet) → i < k → slice_get xs i ≡ Some x
    → slice_get xs k ≡ Some y → AreOfOneUnit xs i k x.0 y.0 → offset_at xs i x.0 + length x.1.body ≤ offset_at xs k y.0
apart_at plan xs i k x y less at also one =
    let s = sub_stream_of x.0 in
    let j = x.0.draw in
    let first = joins xs s j i x at (under_itself x) (one.no_end i x (omega arith) less at (under_itself x)) in
    let size = get_less xs k y also in
    let more = k - suc i in
    let there : suc i + more ≡ k = omega (arith, less) in
    let rest = grows_to xs s j (suc i) more (omega (arith, there, size))
    (λ n z from until at under. one.no_end n z (omega (arith, from)) (omega (arith, until, there)) at under) in
    let same = same_stream (sub_stream_of x.0) (sub_stream_of y.0) one.sub_stream in
    let end : sealed_to xs s j (suc i + more) ≡ offset_at xs k y.0 =
    (λ l. sealed_to xs (same l) (one.draw l) (there l)) in
    omega (arith, first, rest, end)

-- ---- how many there are

aggregation_eight : (plan : Plan) → StreamsFit plan → (line stream : ℕ) → aggregation_of plan line stream ≤ 8
aggregation_eight plan fits line stream = grind (arith, fits.eight line stream)

size_most : (has : Bool) (n : ℕ) → n < 1024 → body_size has n ≤ 4096
size_most has n less = grind (arith, nat_tests, less)

body_most : (p : Packet) → FitsPacket p → length p.body ≤ 4096
body_most p fits = elim fits.carries [
  | inl carried ↦
      let most = size_most carried.head.has_payload carried.head.lead.length carried.spells.fits.lead.length in
      omega (arith, most, carried.size)
  | inr sync ↦ omega (arith, ap length sync.body)
]

-- an open unit has at most seven packets, each of at most 4096 bytes
record IsShort (us : List Packet) : Type 0 where
  few : length us ≤ 7
  bytes : length (encrypted_bytes us) ≤ 4096 * length us

none_short : IsShort (open_unit [])
unfolding open_unit
none_short = record { few = omega arith; bytes = omega arith }

short_joins : (ps : List Packet) (p : Packet) → FitsPacket p → p.prefix.m ≡ false → length (open_unit ps) + 1 ≤ 7
    → IsShort (open_unit ps) → IsShort (open_unit (ps ++ p ∷ []))
short_joins ps p fits m room short =
    let size = length-append (open_unit ps) (p ∷ []) in
    let more = encrypted_more (open_unit ps) p in
    let one = body_most p fits in
    subst IsShort (sym (open_unit-more ps p m)) (record {
      few = omega (arith, size, room);
      bytes = omega (arith, size, more, one, short.bytes);
    })

short_ends : (ps : List Packet) (p : Packet) → p.prefix.m ≡ true → IsShort (open_unit (ps ++ p ∷ []))
short_ends ps p m = subst IsShort (sym (open_unit-end ps p m)) (record { few = omega arith; bytes = omega arith })

short_next : (plan : Plan) → StreamsFit plan → (xs : SealedList) → Placed plan xs → (s : SubStream) (j n : ℕ)
    (z : SealedPacket × Packet) → slice_get xs n ≡ Some z → IsShort (open_unit (sub_stream_packets (take n xs) s j))
    → IsShort (open_unit (sub_stream_packets (take (suc n) xs) s j))
short_next plan fits xs all s j n z at short =
    subst (λ (ps : List Packet). IsShort (open_unit ps)) (sym (next_sent xs s j n z at))
    (elim (cases_Bool (is_sealed_under s j z)) [
      | inl under ↦ rw under (elim (cases_Bool z.1.prefix.m) [
        | inl ends ↦ short_ends (sub_stream_packets (take n xs) s j) z.1 ends
        | inr more ↦
            let of = all n z at in
            let names = in_parts s j z under in
            let m : z.0.m ≡ false = sym (ap (λ (f : Prefix). f.m) of.prefix) ∙ more in
            let same : length (open_unit (sub_stream_packets (take n xs) (sub_stream_of z.0) z.0.draw))
            ≡ length (open_unit (sub_stream_packets (take n xs) s j)) =
            (λ l. length (open_unit (sub_stream_packets (take n xs) (names.2 l) (names.1 l)))) in
            let room = of.room m in
            let eight = aggregation_eight plan fits z.0.port.line z.0.stream in
            short_joins (sub_stream_packets (take n xs) s j) z.1 of.fits more (omega (arith, same, room, eight)) short
      ])
      | inr off ↦ rw off short
    ])

sent_none : (s : SubStream) (j : ℕ) → sub_stream_packets [] s j ≡ []
unfolding sub_stream_packets
sent_none s j = refl

short_at : (plan : Plan) → StreamsFit plan → (xs : SealedList) → Placed plan xs → (s : SubStream) (j n : ℕ)
    → n ≤ length xs → IsShort (open_unit (sub_stream_packets (take n xs) s j))
short_at plan fits xs all s j zero le =
    subst (λ (ps : List Packet). IsShort (open_unit ps)) (sym (sent_none s j)) none_short
short_at plan fits xs all s j (suc n) le =
    let here = element_at xs n (omega (arith, le)) in
    short_next plan fits xs all s j n here.element here.stands (short_at plan fits xs all s j n (omega (arith, le)))

-- ---- counters

same_end : (iv a b : List ℕ) → iv ++ a ≡ iv ++ b → a ≡ b
same_end [] a b is = is
same_end (x ∷ iv) a b is = same_end iv a b (cc (is))

apart_from : (iv : List ℕ) (n b : ℕ) → length iv ≡ 12 → n + 1 < 2 ^ 32 → b < n → counter iv n ≢ counter iv b
apart_from iv n b size less before is =
    let few : b + 1 < 2 ^ 32 = omega (arith, less, before) in
    let ends : to_be_bytes w32 (n + 1) ≡ to_be_bytes w32 (b + 1) =
    same_end iv (to_be_bytes w32 (n + 1)) (to_be_bytes w32 (b + 1))
    (sym (counter-at iv n size less) ∙ (is ∙ counter-at iv b size few)) in
    let one : n + 1 ≡ b + 1 = sym (from_be_bytes-to_be_bytes_4 (n + 1) less)
    ∙ (ap (from_be_bytes w32) ends ∙ from_be_bytes-to_be_bytes_4 (b + 1) few) in
    absurd (omega (arith, one, before))

no_wrap_at : (plan : Plan) → FitsPlan plan → (h : History) → CauseLaw plan h → (i : ℕ) (x : SealedPacket × Packet)
    → slice_get (sealed_packets plan h) i ≡ Some x → (n b : ℕ)
    → n < offset_at (sealed_packets plan h) i x.0 + length x.1.body → b < suc (n / 16)
    → counter (iv_used x.0) (suc (n / 16)) ≢ counter (iv_used x.0) b
no_wrap_at plan fits h cause i x at n b less before =
    let xs = sealed_packets plan h in
    let all = placed plan (streams_fit plan fits) (draws plan) h cause in
    let size = get_less xs i x at in
    let short = short_at plan (streams_fit plan fits) xs all (sub_stream_of x.0) x.0.draw i (omega (arith, size)) in
    let body = body_most x.1 (all i x at).fits in
    let few : n < 32768 = omega (arith, less, short.few, short.bytes, body) in
    apart_from (iv_used x.0) (suc (n / 16)) b refl (omega (arith, few)) before

-- ---- the law

pub keystream_fresh : (plan : Plan) → FitsPlan plan → (h : History) → CauseLaw plan h → KeyStreamFresh plan h
keystream_fresh plan fits h cause = record {
  range = range_of plan h;
  apart = λ i k x y less at also key iv. apart_at plan (sealed_packets plan h) i k x y less at also
      ((numbers_fresh plan fits h cause).fresh i k x y less at also key iv);
  no_wrap = no_wrap_at plan fits h cause;
}
