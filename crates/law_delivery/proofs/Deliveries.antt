-- What is delivered is a prefix of what was sent. What was sealed, opened unit by unit, is what was sent, by induction
-- on the history: a packet joins the open unit, and its payload comes back since it was masked at its place in the
-- unit's plaintext, and masking twice changes nothing. What was got, opened, is what was delivered; and what was got is
-- finished units that begin what was sealed.
use Rattle.law_sealing.proofs.Terms.{◌≡◌, ◌≤◌, ℕ, suc, ◌+◌, true, false, List, [], ◌∷◌, ◌++◌, length, drop, Ok, Option}
use Rattle.law_sealing.proofs.Terms.{refl, ap, sym, ◌∙◌, subst, arith, append_assoc, length-append, length-drop, inl}
use Rattle.law_sealing.proofs.Terms.{inr, if◌then◌else◌, ◌==◌, map, filter, slice_index, and_parts, cases_Bool}
use Rattle.law_sealing.proofs.Terms.{eqb-true, append-nil, drop-append-le, take-append-le, take_all, flat_map-append}
use Rattle.law_sealing.proofs.Terms.{SubKind, PortName, Plan, SubStream, is_same, key_of, units, units_finished}
use Rattle.law_sealing.proofs.Terms.{open_unit, History, base, is_sealed_under, ahead_of_packet, SealedList, KeyName}
use Rattle.law_sealing.proofs.Terms.{with_sealed, sealed_packets, sent_packets, sub_stream_packets, sub_stream_of}
use Rattle.law_sealing.proofs.Terms.{packet_of, arrived_packet, received_in, is_received_under, packets_in_hold}
use Rattle.law_sealing.proofs.Terms.{accepted_packets, units_got, CauseLaw, IsPrefixOf, units-append}
use Rattle.law_sealing.proofs.Terms.{units-end, units-more, open_unit-end, open_unit-more, accepted_by}
use Rattle.law_sealing.proofs.Terms.{packet_that_came, numbered, DrawFacts, same_stream, sub_stream_packets-snoc}
use Rattle.law_sealing.proofs.Terms.{sealing_is, StreamsFit, Sealed, Accepted, SealedPacket, Tlp, header, body, read_of}
use Rattle.law_sealing.proofs.Terms.{read_spells_tlp, Packet, is_sync_packet, begins_sync, iv_of, encrypted_bytes}
use Rattle.law_sealing.proofs.Terms.{masked_bytes, open_of, length-masked_bytes, length-open_of}
use Rattle.law_sealing.proofs.Terms.{masked_bytes-masked_bytes, masked_bytes-append, SpellsHead, head_bytes, class_of}
use Rattle.law_sealing.proofs.Terms.{layout_of, not_sync, lane_is, sent_bytes, sending_port}
use Rattle.spec_links.specs.Delivered.{is_tlp_under_draw, tlps_sent, tlps_got, opened_tlps, with_payloads}
use Rattle.law_delivery.specs.LocalLaws.{LocalDeliveryLaw}
use Rattle.law_delivery.proofs.Received.{held_front}
use Rattle.tlp_layout.specs.declared.head.HeadView.{HeadView}
use Rattle.tlp_layout.proofs.Heads.{IsRight, kept}
use Rattle.ide_prefix.proofs.Grammar.{sync_begins}
use Rattle.law_sealing.proofs.Below.{is_read}
use Rattle.law_sealing.proofs.Sums.{in_parts}
use Rattle.law_sealing.proofs.Sealings.{AllOf, IsSyncOf, live_at, from_at, all_of_sealing}
use Rattle.law_delivery.proofs.Prefixes.{got_begins}
use Rattle.law_delivery.proofs.GotUnits.{got_units, one_unit}

-- ---- units with their numbers

-- the TLPs of units, numbered on
abbrev opened_units : Plan → SubStream → ℕ → ℕ → List (List Packet) → List (List ℕ)
opened_units plan s j n [] = []
opened_units plan s j n (u ∷ us) = opened_tlps plan s j n u ++ opened_units plan s j (n + 1) us

opened_units-append : (plan : Plan) (s : SubStream) (j n : ℕ) (us vs : List (List Packet))
    → opened_units plan s j n (us ++ vs) ≡ opened_units plan s j n us ++ opened_units plan s j (n + length us) vs
opened_units-append plan s j n [] vs = let same : n ≡ n + 0 = omega arith in ap (λ k. opened_units plan s j k vs) same
opened_units-append plan s j n (u ∷ us) vs =
    let number : n + 1 + length us ≡ n + suc (length us) = omega arith in
    rw (opened_units-append plan s j (n + 1) us vs, number, append_assoc) refl

opened_units-snoc : (plan : Plan) (s : SubStream) (j : ℕ) (us : List (List Packet)) (u : List Packet)
    → opened_units plan s j 1 (us ++ u ∷ []) ≡ opened_units plan s j 1 us ++ opened_tlps plan s j (length us + 1) u
opened_units-snoc plan s j us u =
    let number : 1 + length us ≡ length us + 1 = omega arith in
    rw (opened_units-append plan s j 1 us (u ∷ []), append-nil (opened_tlps plan s j (1 + length us) u), number) refl

-- the TLPs of all packets of a sub-stream under a draw, those of an open unit too
abbrev opened_all : Plan → SubStream → ℕ → List Packet → List (List ℕ)
opened_all plan s j ps = opened_units plan s j 1 (units ps) ++ opened_tlps plan s j (length (units ps) + 1)
    (open_unit ps)

-- one more packet joins the open unit
opened_all-snoc : (plan : Plan) (s : SubStream) (j : ℕ) (ps : List Packet) (p : Packet)
    → opened_all plan s j (ps ++ p ∷ []) ≡ opened_units plan s j 1 (units ps)
    ++ opened_tlps plan s j (length (units ps) + 1) (open_unit ps ++ p ∷ [])
opened_all-snoc plan s j ps p = elim (cases_Bool p.prefix.m) [
  | inl ends ↦ rw (units-end ps p ends, open_unit-end ps p ends)
      (append-nil _ ∙ opened_units-snoc plan s j (units ps) (open_unit ps ++ p ∷ []))
  | inr more ↦ rw (units-more ps p more, open_unit-more ps p more) refl
]

-- ---- a unit that gains a packet

with_payloads-append : (xs ys : List ℕ) (ps qs : List Packet) → length xs ≡ length (encrypted_bytes ps)
    → with_payloads (xs ++ ys) (ps ++ qs) ≡ with_payloads xs ps ++ with_payloads ys qs
with_payloads-append [] ys [] qs same = refl
with_payloads-append (x ∷ xs) ys [] qs same = absurd (omega arith)
with_payloads-append xs ys (p ∷ ps) qs same =
    let n = length p.body in
    let sizes : length xs ≡ n + length (encrypted_bytes ps) = omega
    (arith, same, length-append p.body (encrypted_bytes ps)) in
    let fits : n ≤ length xs = omega (arith, sizes) in
    let behind : length (drop n xs) ≡ length (encrypted_bytes ps) = omega (arith, sizes, length-drop n xs) in
    let later = with_payloads-append (drop n xs) ys ps qs behind in
    rw (drop-append-le n xs ys fits, take-append-le n xs ys fits) (grind (arith, later))

-- the TLP of a packet with this payload
abbrev pub tlp_with : Packet → List ℕ → List (List ℕ)
tlp_with p payload = if is_sync_packet p then [] else (p.head ++ payload) ∷ []

-- the plaintext of a unit that gains a packet
plain-snoc : (key iv : List ℕ) (unfinished : List Packet) (p : Packet) (payload : List ℕ) → p.body
    ≡ masked_bytes key iv (length (encrypted_bytes unfinished)) payload
    → open_of key iv (encrypted_bytes (unfinished ++ p ∷ [])) ≡ open_of key iv (encrypted_bytes unfinished) ++ payload
unfolding open_of
plain-snoc key iv unfinished p payload sealed =
    let first : 0 + length (encrypted_bytes unfinished) ≡ length (encrypted_bytes unfinished) = omega arith in
    rw (flat_map-append, append-nil, masked_bytes-append, first, sealed, masked_bytes-masked_bytes) refl

opened-snoc : (plan : Plan) (s : SubStream) (j n : ℕ) (unfinished : List Packet) (p : Packet) (payload : List ℕ)
    → p.body ≡ masked_bytes (key_of plan j s) (iv_of s.sub n) (length (encrypted_bytes unfinished)) payload
    → opened_tlps plan s j n (unfinished ++ p ∷ []) ≡ opened_tlps plan s j n unfinished ++ tlp_with p payload
opened-snoc plan s j n unfinished p payload sealed =
    let key = key_of plan j s in
    let iv = iv_of s.sub n in
    let plain = open_of key iv (encrypted_bytes unfinished) in
    let size = ap length sealed ∙ length-masked_bytes key iv (length (encrypted_bytes unfinished)) payload in
    ap (λ (bs : List ℕ). with_payloads bs (unfinished ++ p ∷ [])) (plain-snoc key iv unfinished p payload sealed)
    ∙ (with_payloads-append plain payload unfinished (p ∷ []) (length-open_of key iv (encrypted_bytes unfinished))
    ∙ ap (λ later. opened_tlps plan s j n unfinished ++ later)
    (rw (take_all (length p.body) payload (omega (arith, size))) refl))

-- ---- what was sealed, opened, is what was sent

-- what is sealed for a send carries, of its own sub-stream, a TLP or nothing
abbrev pub carried_by : SealedPacket → List ℕ → List ℕ
carried_by d payload = if d.sync then [] else payload

-- a header of its class begins no sync packet
head_plain : (head : HeadView) (bytes : List ℕ) (sub : SubKind) → SpellsHead head bytes → class_of head ≡ sub
    → begins_sync sub (slice_index bytes 0) ≡ false
head_plain head bytes sub spells class =
    let right = subst (IsRight (layout_of head.fields)) (sym spells.spelled) (kept head spells.fits) in
    not_sync sub head (slice_index bytes 0) right.kind class

-- its packet has the header, and the payload in the ciphertext
pub carries_tlp : (plan : Plan) (ahead bytes : List ℕ) (d : SealedPacket) (unfinished : List Packet) (t : Tlp)
    → read_of bytes ≡ Ok t → (d.sync ≡ false → class_of (header t) ≡ d.sub) → (d.sync ≡ true → IsSyncOf d)
    → ((packet_of plan ahead bytes d unfinished).body ≡ masked_bytes (key_of plan d.draw (sub_stream_of d))
    (iv_of d.sub d.unit) (length (encrypted_bytes unfinished)) (carried_by d (body t)))
    × (tlp_with (packet_of plan ahead bytes d unfinished) (carried_by d (body t)) ≡ (if d.sync then [] else bytes ∷ []))
unfolding packet_of
carries_tlp plan ahead bytes d unfinished t reads class is_sync = elim (cases_Bool d.sync) [
  | inl sync ↦ (rw sync refl, rw (sync, sync_begins d.sub (is_sync sync).sub) refl)
  | inr no_sync ↦
      let plain = head_plain (header t) (head_bytes (header t)) d.sub (is_read bytes t reads).head (class no_sync) in (
        rw (no_sync, reads) refl,
        rw (no_sync, reads, plain)
            (ap (λ (bs : List ℕ). bs ∷ []) (sym ((read_spells_tlp t bytes).1 reads).spelled)),
      )
]

-- one more packet
opened_more : (plan : Plan) (xs : SealedList) (s : SubStream) (j : ℕ) (d : SealedPacket) (ahead bytes : List ℕ)
    (t : Tlp) → read_of bytes ≡ Ok t → (d.sync ≡ false → class_of (header t) ≡ d.sub) → (d.sync ≡ true → IsSyncOf d)
    → d.unit ≡ length (units (sub_stream_packets xs (sub_stream_of d) d.draw)) + 1 → (before : List (List ℕ))
    → opened_all plan s j (sub_stream_packets xs s j) ≡ before → opened_all plan s j
    (sub_stream_packets (xs ++
    (d, packet_of plan ahead bytes d (open_unit (sub_stream_packets xs (sub_stream_of d) d.draw))) ∷ []) s j)
    ≡ before ++ map (λ (d : SealedPacket). bytes) (filter (is_tlp_under_draw s j) (d ∷ []))
opened_more plan xs s j d ahead bytes t reads class is_sync unit before same =
    ap (opened_all plan s j) (sub_stream_packets-snoc xs (d, p) s j) ∙ elim (cases_Bool (is_sealed_under s j (d, p))) [
      | inl here ↦ let names = in_parts s j (d, p) here in rw here
          (joins names.2 names.1 ∙ ap (λ later. before ++ later) (grind (arith, here)))
      | inr off ↦ rw off (same ∙ (sym (append-nil before) ∙ ap (λ later. before ++ later) (grind (arith, off))))
    ]
  where
    p : Packet
    p = packet_of plan ahead bytes d (open_unit (sub_stream_packets xs (sub_stream_of d) d.draw))

    joins : sub_stream_of d ≡ s → d.draw ≡ j → opened_all plan s j (sub_stream_packets xs s j ++ p ∷ []) ≡ before
        ++ (if d.sync then [] else bytes ∷ [])
    joins stream draw =
        let unfinished = open_unit (sub_stream_packets xs s j) in
        let n = length (units (sub_stream_packets xs s j)) + 1 in
        let here : sub_stream_packets xs (sub_stream_of d) d.draw
        ≡ sub_stream_packets xs s j = λ i. sub_stream_packets xs (stream i) (draw i) in
        let number : d.unit ≡ n = unit ∙ ap (λ (ps : List Packet). length (units ps) + 1) here in
        let known = carries_tlp plan ahead bytes d (open_unit (sub_stream_packets xs (sub_stream_of d) d.draw)) t reads
        class
        is_sync in
        let payload = carried_by d (body t) in
        let sealed : p.body ≡ masked_bytes (key_of plan j s) (iv_of s.sub n) (length (encrypted_bytes unfinished))
        payload =
        cc (known.0, draw, stream, ap (λ (t : SubStream). t.sub) stream, number, here) in
        rw (
          opened_all-snoc plan s j (sub_stream_packets xs s j) p,
          opened-snoc plan s j n unfinished p payload sealed,
          known.1,
          ←
              append_assoc,
        )
        (ap (λ unfinished. unfinished ++ (if d.sync then [] else bytes ∷ [])) same)

-- those of one send
carried-cons : (s : SubStream) (j : ℕ) (bytes : List ℕ) (d : SealedPacket) (ds : List SealedPacket)
    → map (λ (d : SealedPacket). bytes) (filter (is_tlp_under_draw s j) (d ∷ []))
    ++ map (λ (d : SealedPacket). bytes) (filter (is_tlp_under_draw s j) ds)
    ≡ map (λ (d : SealedPacket). bytes) (filter (is_tlp_under_draw s j) (d ∷ ds))
carried-cons s j bytes d ds = grind arith

opened_by : (plan : Plan) (port : PortName) (stream : ℕ) (live : SubKind → Option KeyName) (from : ℕ) (class : SubKind)
    (ahead : SealedPacket → List ℕ) (bytes : List ℕ) (t : Tlp) → read_of bytes ≡ Ok t → class ≡ class_of (header t)
    → (s : SubStream) (j : ℕ) (ds : List SealedPacket) (xs : SealedList) → AllOf plan port stream live from class xs ds
    → (before : List (List ℕ)) → opened_all plan s j (sub_stream_packets xs s j) ≡ before
    → opened_all plan s j (sub_stream_packets (with_sealed plan ahead bytes ds xs) s j) ≡ before
    ++ map (λ (d : SealedPacket). bytes) (filter (is_tlp_under_draw s j) ds)
opened_by plan port stream live from class ahead bytes t reads is_class s j [] xs all before same = same ∙ sym
    (append-nil before)
opened_by plan port stream live from class ahead bytes t reads is_class s j (d ∷ ds) xs all before same =
    let of = all.0 in
    let unfinished = open_unit (sub_stream_packets xs (sub_stream_of d) d.draw) in
    let p = packet_of plan (ahead d) bytes d unfinished in
    let unit : d.unit ≡ length (units (sub_stream_packets xs (sub_stream_of d) d.draw)) + 1 = rw
    (lane_is port stream d of.port_is of.stream_is) of.unit in
    let first = map (λ (d : SealedPacket). bytes) (filter (is_tlp_under_draw s j) (d ∷ [])) in
    let one = opened_more plan xs s j d (ahead d) bytes t reads (λ no_sync. sym is_class ∙ of.class_is no_sync) of.sync
    unit before same in
    opened_by plan port stream live from class ahead bytes t reads is_class s j ds (xs ++ (d, p) ∷ []) (all.1 p)
    (before ++ first) one
    ∙ (append_assoc before first (map (λ (d : SealedPacket). bytes) (filter (is_tlp_under_draw s j) ds)) ∙ ap
    (λ later. before ++ later) (carried-cons s j bytes d ds))

all_opened : (plan : Plan) → DrawFacts plan → (h : History) → CauseLaw plan h → (s : SubStream) (j : ℕ)
    → opened_all plan s j (sent_packets plan h s j) ≡ tlps_sent plan h s j
unfolding sealed_packets sub_stream_packets units open_unit tlps_sent
all_opened plan facts [] cause s j = refl
all_opened plan facts ((e, Sealed ds) ∷ h) cause s j =
    let is = sealing_is plan h e ds cause.0 in
    let from = is.sending in
    opened_by plan from.port from.stream (live_at plan h from.port from.stream) (from_at plan h from.port from.stream)
    from.class (ahead_of_packet plan (sealed_packets plan h) (base h)) (sent_bytes plan h e) is.tlp is.reads is.class s
    j
    ds (sealed_packets plan h)
    (all_of_sealing plan facts h cause.1 (sending_port plan h e) (sent_bytes plan h e) ds is) (tlps_sent plan h s j)
    (all_opened plan facts h cause.1 s j)
all_opened plan facts (_ ∷ h) cause s j = all_opened plan facts h cause.1 s j

-- ---- what was got, opened, is what was delivered

got_opened : (plan : Plan) (h : History) → CauseLaw plan h → (s : SubStream) (j : ℕ) → tlps_got plan h s j
    ≡ opened_units plan s j 1 (units (accepted_packets plan h s j))
unfolding tlps_got accepted_packets units
got_opened plan [] cause s j = refl
got_opened plan ((e, Accepted port unit effects) ∷ h) cause s j =
    let by = accepted_by plan h e port unit effects cause.0 in
    let same = got_opened plan h cause.1 s j in
    elim (cases_Bool (is_received_under s j port unit)) [
      | inl is ↦
          let tests = and_parts (is_same (received_in port unit) s) (unit.draw == j) is in
          let place : units_got h (received_in port unit) unit.draw ≡ units_got h s j =
          λ i. units_got h (same_stream (received_in port unit) s tests.0 i) (eqb-true unit.draw j tests.1 i) in
          let are = got_units plan h cause.1 s j in
          let n : unit.unit ≡ length (units (accepted_packets plan h s j)) + 1 = omega
          (arith, numbered plan h port by.packet unit by.passed, place, are.count) in
          let m = ap (λ (p : Packet). p.prefix.m) (packet_that_came plan h e port by.packet by.came) ∙ by.ends in
          let one = one_unit (accepted_packets plan h s j) (packets_in_hold plan h s j unit.unit)
          (arrived_packet plan h e) are.none
          (held_front plan h cause.1 s j unit.unit) m in
          let u = packets_in_hold plan h s j unit.unit ++ arrived_packet plan h e ∷ [] in
          rw (is, one, opened_units-snoc, ← n) (ap (λ unfinished. unfinished ++ opened_tlps plan s j unit.unit u) same)
      | inr other ↦ rw other same
    ]
got_opened plan (_ ∷ h) cause s j = got_opened plan h cause.1 s j

-- ---- the law

delivered : (plan : Plan) (s : SubStream) (j : ℕ) (ps qs : List Packet) → open_unit ps ≡ [] → IsPrefixOf ps qs
    → IsPrefixOf (opened_units plan s j 1 (units ps)) (opened_all plan s j qs)
delivered plan s j ps qs none begins =
    let us = units ps in
    let vs = units_finished [] begins.0 in
    let last = opened_tlps plan s j (length (units qs) + 1) (open_unit qs) in
    let all : units qs ≡ us ++ vs = ap units (sym begins.1) ∙
    (units-append ps begins.0 ∙ ap (λ unfinished. us ++ units_finished unfinished begins.0) none) in
    let unfinished = opened_units plan s j 1 us in
    let back = opened_units plan s j (1 + length us) vs in (
      back ++ last,
      sym (append_assoc unfinished back last) ∙ ap (λ all. all ++ last)
          (sym (ap (opened_units plan s j 1) all ∙ opened_units-append plan s j 1 us vs)),
    )

pub delivery_law : (plan : Plan) → StreamsFit plan → DrawFacts plan → (h : History) → CauseLaw plan h
    → LocalDeliveryLaw plan h
delivery_law plan fits facts h cause s j forged =
    let begins = delivered plan s j (accepted_packets plan h s j) (sent_packets plan h s j)
    (got_units plan h cause s j).none
    (got_begins plan fits facts h cause s j forged) in
    subst (λ all. IsPrefixOf (tlps_got plan h s j) all) (all_opened plan facts h cause s j)
    (subst (λ unfinished. IsPrefixOf unfinished (opened_all plan s j (sent_packets plan h s j)))
    (sym (got_opened plan h cause s j))
    begins)

-- if all was got, and no unit is open, all was delivered
pub whole_delivered : (plan : Plan) → DrawFacts plan → (h : History) → CauseLaw plan h → (s : SubStream) (j : ℕ)
    → accepted_packets plan h s j ≡ sent_packets plan h s j → open_unit (sent_packets plan h s j) ≡ []
    → tlps_got plan h s j ≡ tlps_sent plan h s j
whole_delivered plan facts h cause s j whole none =
    let us = units (sent_packets plan h s j) in
    let last : opened_all plan s j (sent_packets plan h s j) ≡ opened_units plan s j 1 us =
    ap (λ (ps : List Packet). opened_units plan s j 1 us ++ opened_tlps plan s j (length us + 1) ps) none
    ∙ append-nil (opened_units plan s j 1 us) in
    got_opened plan h cause s j ∙ (ap (λ (ps : List Packet). opened_units plan s j 1 (units ps)) whole
    ∙ (sym last ∙ all_opened plan facts h cause s j))
