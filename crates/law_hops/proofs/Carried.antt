-- What was accepted in a sub-stream under a draw is, TLP by TLP with T, a prefix of what was sealed in it: by bytes
-- that is the law of deliveries, and T is in the packets, of which those that were got are a prefix of those that were
-- sealed.
use Rattle.law_sealing.proofs.Terms.{◌≡◌, ℕ, ◌==◌, Bool, true, false, List, [], ◌∷◌, ◌++◌, length, Ok, refl, ap}
use Rattle.law_sealing.proofs.Terms.{sym, ◌∙◌, arith, inl, inr, if◌then◌else◌, cases_Bool, AllByRecursion, map, filter}
use Rattle.law_sealing.proofs.Terms.{drop, take, append-nil, append_assoc, eqb-true, map-append, and_parts, Plan}
use Rattle.law_sealing.proofs.Terms.{History, base, Sealed, Accepted, PortName, SealedPacket, SubKind, SubStream}
use Rattle.law_sealing.proofs.Terms.{Packet, is_sync_packet, Tlp, header, body, read_of, class_of, CauseLaw, IsPrefixOf}
use Rattle.law_sealing.proofs.Terms.{DrawFacts, is_received_under, is_same, same_stream, received_in, arrived_packet}
use Rattle.law_sealing.proofs.Terms.{open_unit, sent_packets, sent_bytes, sub_stream_of, is_sealed_under, SealedList}
use Rattle.law_sealing.proofs.Terms.{with_sealed, sub_stream_packets-snoc, ahead_of_packet, sealing_is, sending_port}
use Rattle.law_sealing.proofs.Terms.{KeyName, Option}
unfoldable use Rattle.law_sealing.proofs.Terms.{packets_in_hold, accepted_packets, sealed_packets, sub_stream_packets}
unfoldable use Rattle.law_sealing.proofs.Terms.{packet_of}
use Rattle.spec_links.specs.Delivered.{is_tlp_under_draw, opened_tlps, with_payloads}
unfoldable use Rattle.spec_links.specs.Delivered.{tlps_sent, tlps_got}
use Rattle.spec_links.specs.Hops.{HopTlp, tlps_with}
use Rattle.spec_links.specs.HopLaws.{sealed_tlp}
use Rattle.spec_links.specs.Memory.{unit_ended}
use Rattle.law_sealing.proofs.Sealings.{AllOf, IsSyncOf, live_at, from_at, all_of_sealing}
use Rattle.law_delivery.proofs.Deliveries.{carries_tlp, carried_by, tlp_with}
use Rattle.law_reads.proofs.Taken.{tlps_of}

-- ---- what is accepted and what is sealed, with T

unfoldable pub hop_got : Plan → History → SubStream → ℕ → List HopTlp
hop_got plan [] s j = []
hop_got plan ((e, Accepted port unit effects) ∷ h) s j = if is_received_under s j port unit then hop_got plan h s j
    ++ tlps_of plan port unit (unit_ended plan h e port unit) else hop_got plan h s j
hop_got plan (_ ∷ h) s j = hop_got plan h s j

unfoldable pub hop_sent : Plan → History → SubStream → ℕ → List HopTlp
hop_sent plan [] s j = []
hop_sent plan ((e, Sealed ds) ∷ h) s j =
    hop_sent plan h s j ++ map (sealed_tlp (sent_bytes plan h e)) (filter (is_tlp_under_draw s j) ds)
hop_sent plan (_ ∷ h) s j = hop_sent plan h s j

-- ---- their bytes

abbrev pub bytes_in : List HopTlp → List (List ℕ)
bytes_in xs = map (λ (x : HopTlp). x.bytes) xs

bytes_with : (plain : List ℕ) (ps : List Packet) → bytes_in (tlps_with plain ps) ≡ with_payloads plain ps
bytes_with plain [] = refl
bytes_with plain (p ∷ ps) =
    let later = bytes_with (drop (length p.body) plain) ps in elim (cases_Bool (is_sync_packet p)) [
      | inl sync ↦ rw sync later
      | inr carries ↦ rw carries (ap (λ (bs : List (List ℕ)). (p.head ++ take (length p.body) plain) ∷ bs) later)
    ]

pub bytes_got : (plan : Plan) (h : History) (s : SubStream) (j : ℕ)
    → bytes_in (hop_got plan h s j) ≡ tlps_got plan h s j
unfolding hop_got tlps_got
bytes_got plan [] s j = refl
bytes_got plan ((e, Accepted port unit effects) ∷ h) s j =
    let before = bytes_got plan h s j in elim (cases_Bool (is_received_under s j port unit)) [
      | inl is ↦
          let tests = and_parts (is_same (received_in port unit) s) (unit.draw == j) is in
          let stream = same_stream (received_in port unit) s tests.0 in
          let draw = eqb-true unit.draw j tests.1 in
          let new = tlps_of plan port unit (unit_ended plan h e port unit) in
          let one : bytes_in new ≡ opened_tlps plan s j unit.unit
          (packets_in_hold plan h s j unit.unit ++ arrived_packet plan h e ∷ [])
          = bytes_with _ (unit_ended plan h e port unit) ∙ (λ i. opened_tlps plan (stream i) (draw i) unit.unit
          (packets_in_hold plan h (stream i) (draw i) unit.unit ++ arrived_packet plan h e ∷ [])) in
          rw is (map-append (λ (x : HopTlp). x.bytes) (hop_got plan h s j) new ∙ (λ i. before i ++ one i))
      | inr other ↦ rw other before
    ]
bytes_got plan (_ ∷ h) s j = bytes_got plan h s j

bytes_sealed : (bytes : List ℕ) (ds : List SealedPacket) → bytes_in (map (sealed_tlp bytes) ds)
    ≡ map (λ (d : SealedPacket). bytes) ds
bytes_sealed bytes [] = refl
bytes_sealed bytes (d ∷ ds) = ap (λ (bs : List (List ℕ)). bytes ∷ bs) (bytes_sealed bytes ds)

pub bytes_sent : (plan : Plan) (h : History) (s : SubStream) (j : ℕ) → bytes_in (hop_sent plan h s j)
    ≡ tlps_sent plan h s j
unfolding hop_sent tlps_sent
bytes_sent plan [] s j = refl
bytes_sent plan ((e, Sealed ds) ∷ h) s j =
    let before = bytes_sent plan h s j in
    let new = bytes_sealed (sent_bytes plan h e) (filter (is_tlp_under_draw s j) ds) in
    map-append (λ (x : HopTlp). x.bytes) (hop_sent plan h s j) _ ∙ (λ i. before i ++ new i)
bytes_sent plan (_ ∷ h) s j = bytes_sent plan h s j

-- ---- their T

abbrev pub flags_in : List HopTlp → List Bool
flags_in xs = map (λ (x : HopTlp). x.t) xs

-- of packets that carry TLPs
abbrev pub flags : List Packet → List Bool
flags [] = []
flags (p ∷ ps) = if is_sync_packet p then flags ps else p.prefix.t ∷ flags ps

pub flags-append : (ps qs : List Packet) → flags (ps ++ qs) ≡ flags ps ++ flags qs
flags-append [] qs = refl
flags-append (p ∷ ps) qs = let later = flags-append ps qs in elim (cases_Bool (is_sync_packet p)) [
  | inl sync ↦ rw sync later
  | inr carries ↦ rw carries (ap (λ (ts : List Bool). p.prefix.t ∷ ts) later)
]

flags_with : (plain : List ℕ) (ps : List Packet) → flags_in (tlps_with plain ps) ≡ flags ps
flags_with plain [] = refl
flags_with plain (p ∷ ps) =
    let later = flags_with (drop (length p.body) plain) ps in elim (cases_Bool (is_sync_packet p)) [
      | inl sync ↦ rw sync later
      | inr carries ↦ rw carries (ap (λ (ts : List Bool). p.prefix.t ∷ ts) later)
    ]

pub flags_got : (plan : Plan) (h : History) (s : SubStream) (j : ℕ) → flags_in (hop_got plan h s j)
    ≡ flags (accepted_packets plan h s j)
unfolding hop_got accepted_packets
flags_got plan [] s j = refl
flags_got plan ((e, Accepted port unit effects) ∷ h) s j =
    let before = flags_got plan h s j in elim (cases_Bool (is_received_under s j port unit)) [
      | inl is ↦
          let tests = and_parts (is_same (received_in port unit) s) (unit.draw == j) is in
          let stream = same_stream (received_in port unit) s tests.0 in
          let draw = eqb-true unit.draw j tests.1 in
          let new = tlps_of plan port unit (unit_ended plan h e port unit) in
          let u = packets_in_hold plan h s j unit.unit ++ arrived_packet plan h e ∷ [] in
          let one : flags_in new ≡ flags u = flags_with _ (unit_ended plan h e port unit)
          ∙ (λ i. flags (packets_in_hold plan h (stream i) (draw i) unit.unit ++ arrived_packet plan h e ∷ [])) in
          rw is (map-append (λ (x : HopTlp). x.t) (hop_got plan h s j) new
          ∙ ((λ i. before i ++ one i) ∙ sym (flags-append (accepted_packets plan h s j) u)))
      | inr other ↦ rw other before
    ]
flags_got plan (_ ∷ h) s j = flags_got plan h s j

-- a packet that is sealed is a sync packet as its verdict says
pub sync_same : (p : Packet) (payload bytes : List ℕ) (sync : Bool)
    → tlp_with p payload ≡ (if sync then [] else bytes ∷ []) → is_sync_packet p ≡ sync
sync_same p payload bytes sync is = by (is_sync_packet p) sync is
  where
    by : (a b : Bool) → (if a then [] else (p.head ++ payload) ∷ []) ≡ (if b then [] else bytes ∷ []) → a ≡ b
    by true true is = refl
    by false false is = refl
    by true false is = absurd cc
    by false true is = absurd cc

flags_more : (plan : Plan) (xs : SealedList) (s : SubStream) (j : ℕ) (d : SealedPacket) (ahead bytes : List ℕ) (t : Tlp)
    → read_of bytes ≡ Ok t → (d.sync ≡ false → class_of (header t) ≡ d.sub) → (d.sync ≡ true → IsSyncOf d)
    → (before : List Bool) → flags (sub_stream_packets xs s j) ≡ before
    → flags (sub_stream_packets
    (xs ++ (d, packet_of plan ahead bytes d (open_unit (sub_stream_packets xs (sub_stream_of d) d.draw))) ∷ []) s j)
    ≡ before ++ map (λ (d : SealedPacket). d.t) (filter (is_tlp_under_draw s j) (d ∷ []))
unfolding packet_of
flags_more plan xs s j d ahead bytes t reads class is_sync before same =
    ap flags (sub_stream_packets-snoc xs (d, p) s j) ∙ elim (cases_Bool (is_sealed_under s j (d, p))) [
      | inl here ↦ rw here (flags-append (sub_stream_packets xs s j) (p ∷ []) ∙ (λ i. same i ++ one here i))
      | inr off ↦ rw off (same ∙ (sym (append-nil before) ∙ ap (λ (later : List Bool). before ++ later) (grind
          (arith, off))))
    ]
  where
    p : Packet
    p = packet_of plan ahead bytes d (open_unit (sub_stream_packets xs (sub_stream_of d) d.draw))

    sync : is_sync_packet p ≡ d.sync
    sync = sync_same p (carried_by d (body t)) bytes d.sync
        (carries_tlp plan ahead bytes d (open_unit (sub_stream_packets xs (sub_stream_of d) d.draw)) t reads class
        is_sync).1

    one : is_sealed_under s j (d, p) ≡ true → flags (p ∷ []) ≡ map (λ (d : SealedPacket). d.t) (filter
        (is_tlp_under_draw s j) (d ∷ []))
    one here = grind (arith, here, sync)

flags-cons : (s : SubStream) (j : ℕ) (d : SealedPacket) (ds : List SealedPacket)
    → map (λ (d : SealedPacket). d.t) (filter (is_tlp_under_draw s j) (d ∷ []))
    ++ map (λ (d : SealedPacket). d.t) (filter (is_tlp_under_draw s j) ds)
    ≡ map (λ (d : SealedPacket). d.t) (filter (is_tlp_under_draw s j) (d ∷ ds))
flags-cons s j d ds = grind arith

flags_by : (plan : Plan) (port : PortName) (stream : ℕ) (live : SubKind → Option KeyName) (from : ℕ) (class : SubKind)
    (ahead : SealedPacket → List ℕ) (bytes : List ℕ) (t : Tlp) → read_of bytes ≡ Ok t → class ≡ class_of (header t)
    → (s : SubStream) (j : ℕ) (ds : List SealedPacket) (xs : SealedList) → AllOf plan port stream live from class xs ds
    → (before : List Bool) → flags (sub_stream_packets xs s j) ≡ before
    → flags (sub_stream_packets (with_sealed plan ahead bytes ds xs) s j) ≡ before
    ++ map (λ (d : SealedPacket). d.t) (filter (is_tlp_under_draw s j) ds)
flags_by plan port stream live from class ahead bytes t reads is_class s j [] xs all before same = same ∙ sym
    (append-nil before)
flags_by plan port stream live from class ahead bytes t reads is_class s j (d ∷ ds) xs all before same =
    let of = all.0 in
    let p = packet_of plan (ahead d) bytes d (open_unit (sub_stream_packets xs (sub_stream_of d) d.draw)) in
    let first = map (λ (d : SealedPacket). d.t) (filter (is_tlp_under_draw s j) (d ∷ [])) in
    let one = flags_more plan xs s j d (ahead d) bytes t reads (λ no_sync. sym is_class ∙ of.class_is no_sync) of.sync
    before same in
    flags_by plan port stream live from class ahead bytes t reads is_class s j ds (xs ++ (d, p) ∷ []) (all.1 p)
    (before ++ first) one
    ∙ (append_assoc before first (map (λ (d : SealedPacket). d.t) (filter (is_tlp_under_draw s j) ds)) ∙ ap
    (λ (later : List Bool). before ++ later) (flags-cons s j d ds))

flags_sealed : (bytes : List ℕ) (ds : List SealedPacket) → flags_in (map (sealed_tlp bytes) ds)
    ≡ map (λ (d : SealedPacket). d.t) ds
flags_sealed bytes [] = refl
flags_sealed bytes (d ∷ ds) = ap (λ (ts : List Bool). d.t ∷ ts) (flags_sealed bytes ds)

pub flags_sent : (plan : Plan) → DrawFacts plan → (h : History) → CauseLaw plan h → (s : SubStream) (j : ℕ)
    → flags_in (hop_sent plan h s j) ≡ flags (sent_packets plan h s j)
unfolding sealed_packets sub_stream_packets hop_sent
flags_sent plan facts [] cause s j = refl
flags_sent plan facts ((e, Sealed ds) ∷ h) cause s j =
    let is = sealing_is plan h e ds cause.0 in
    let from = is.sending in
    let before = flags_sent plan facts h cause.1 s j in
    let new = flags_sealed (sent_bytes plan h e) (filter (is_tlp_under_draw s j) ds) in
    map-append (λ (x : HopTlp). x.t) (hop_sent plan h s j) _ ∙ ((λ i. before i ++ new i)
    ∙ sym (flags_by plan from.port from.stream (live_at plan h from.port from.stream)
    (from_at plan h from.port from.stream)
    from.class (ahead_of_packet plan (sealed_packets plan h) (base h)) (sent_bytes plan h e) is.tlp is.reads is.class s
    j ds (sealed_packets plan h)
    (all_of_sealing plan facts h cause.1 (sending_port plan h e) (sent_bytes plan h e) ds is) (flags
    (sent_packets plan h s j)) refl))
flags_sent plan facts (_ ∷ h) cause s j = flags_sent plan facts h cause.1 s j

-- ---- both, in one sub-stream

abbrev pub InSub : SubKind → List HopTlp → Type 0
InSub u xs = AllByRecursion (λ (x : HopTlp). x.sub ≡ u) xs

same_tlp : (x y : HopTlp) → x.sub ≡ y.sub → x.bytes ≡ y.bytes → x.t ≡ y.t → x ≡ y
same_tlp x y sub bytes t = λ i. record { sub = sub i; bytes = bytes i; t = t i }

pub both_begin : (u : SubKind) (xs ys : List HopTlp) → InSub u xs → InSub u ys → IsPrefixOf (bytes_in xs) (bytes_in ys)
    → IsPrefixOf (flags_in xs) (flags_in ys) → IsPrefixOf xs ys
both_begin u [] ys one two bytes ts = (ys, refl)
both_begin u (x ∷ xs) [] one two bytes ts = absurd (let is = bytes.1 in cc)
both_begin u (x ∷ xs) (y ∷ ys) one two bytes ts =
    let bytes_is = bytes.1 in
    let ts_is = ts.1 in
    let first : x.bytes ≡ y.bytes = cc (bytes_is) in
    let later : bytes_in xs ++ bytes.0 ≡ bytes_in ys = cc (bytes_is) in
    let first_t : x.t ≡ y.t = cc (ts_is) in
    let later_t : flags_in xs ++ ts.0 ≡ flags_in ys = cc (ts_is) in
    let rest = both_begin u xs ys one.1 two.1 (bytes.0, later) (ts.0, later_t) in
    let same = same_tlp x y (one.0 ∙ sym two.0) first first_t in
    (rest.0, (λ i. same i ∷ rest.1 i))
