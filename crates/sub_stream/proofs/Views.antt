-- What each call makes of the packets that are seen.
use Rattle.std.proofs.Common.{◌≡◌, ℕ, ◌+◌, ◌<◌, true, List, [], ◌∷◌, ◌++◌, length, map, refl, sym, ap, ◌∙◌, subst}
use Rattle.std.proofs.Common.{arith, length-append}
use Rattle.std.proofs.Math.ListN.{set}
use Rattle.std.proofs.lemmas.Bool.{lt-ltb}
use Rattle.std.proofs.lemmas.List.{length-set, map-append}
use Rattle.std.proofs.lemmas.List.Sums.{sum_by-append}
use Rattle.gcm_seal.specs.Gcm.{masked_bytes}
use Rattle.gcm_seal.proofs.Sealing.{length-masked_bytes}
use Rattle.ide_prefix.specs.declared.packet.Prefix.{Prefix}
use Rattle.ide_prefix.specs.Packet.{Packet, prefix_bytes}
use Rattle.spec_stream.specs.Stream.{posted_sum}
use Rattle.ide_prefix.specs.{Collected, unit_with_packet as with_parts, has_room, packets_with_bodies}
use Rattle.ide_prefix.specs.{with_bodies, body_of}
use Rattle.sub_stream.specs.Gathered.{Gathered, packets_of_prefixes, parts_of, opened_packets, with_packet, IsGathered}
use Rattle.sub_stream.proofs.Packets.{length-packets_of_prefixes, packets-added, length-packets_with_bodies}
use Rattle.sub_stream.proofs.Packets.{posted-packets_with_bodies, parts-packets_with_bodies}
use Rattle.sub_stream.proofs.Packets.{opened_packets-packets_with_bodies, overwritten_bytes-all}

-- the packets that are seen of these fields
abbrev pub view : List Prefix → Collected → Gathered
view ps buf = record { aggregation = buf.aggregation; ahead = buf.ahead; packets = packets_of_prefixes buf.packets ps }

-- ---- decrypted

abbrev pub masked_bodies : List ℕ → List ℕ → Collected → Collected
masked_bodies key iv buf = with_bodies buf (masked_bytes key iv 0 (body_of buf))

packets_with_bodies-masked_bytes : (key iv : List ℕ) (buf : Collected) → masked_bodies key iv buf
    ≡ record buf { packets = packets_with_bodies buf.packets (masked_bytes key iv 0 (body_of buf)) }
packets_with_bodies-masked_bytes key iv buf =
    ap (λ x. record buf { packets = packets_with_bodies buf.packets x })
    (overwritten_bytes-all (body_of buf) (masked_bytes key iv 0 (body_of buf))
    (length-masked_bytes key iv 0 (body_of buf)))

pub gathered-masked_bytes : (key iv : List ℕ) (ps : List Prefix) (n : ℕ) (buf new : Collected) → IsGathered ps n buf
    → new ≡ masked_bodies key iv buf → IsGathered ps n new
gathered-masked_bytes key iv ps n buf new g is =
    let bytes = masked_bytes key iv 0 (body_of buf) in
    let P : Collected → Type 0 = λ x. IsGathered ps n x in
    let fine : P (record buf { packets = packets_with_bodies buf.packets bytes }) = record {
      places = g.places;
      small_aggregation = g.small_aggregation;
      fits = omega (arith, length-packets_with_bodies buf.packets bytes, g.fits);
      parts = parts-packets_with_bodies buf.packets ps bytes g.parts;
      sum = g.sum ∙ sym (posted-packets_with_bodies buf.packets ps bytes);
      few = omega (arith, length-packets_with_bodies buf.packets bytes, g.few);
    } in
    subst P (sym (is ∙ packets_with_bodies-masked_bytes key iv buf)) fine

pub view-masked_bytes : (key iv : List ℕ) (ps : List Prefix) (buf new : Collected) (old : Gathered) → view ps buf ≡ old
    → new ≡ masked_bodies key iv buf → view ps new ≡ record old { packets = opened_packets key iv old.packets }
view-masked_bytes key iv ps buf new old was is =
    ap (view ps) (is ∙ packets_with_bodies-masked_bytes key iv buf)
    ∙ ap (λ x. record { aggregation = buf.aggregation; ahead = buf.ahead; packets = x })
    (opened_packets-packets_with_bodies key iv 0 buf.packets ps)
    ∙ ap (λ (u : Gathered). record u { packets = opened_packets key iv u.packets }) was

-- ---- one more

pub has_place : (ps : List Prefix) (n : ℕ) (buf : Collected) (old : Gathered) → IsGathered ps n buf → view ps buf ≡ old
    → length old.packets < old.aggregation → length buf.packets < buf.aggregation
has_place ps n buf old g was lt =
    let count : length (packets_of_prefixes buf.packets ps) ≡ length old.packets = ap
    (λ (u : Gathered). length u.packets) was in
    let aggregation : buf.aggregation ≡ old.aggregation = ap (λ (u : Gathered). u.aggregation) was in
    omega (arith, count, aggregation, length-packets_of_prefixes buf.packets ps g.parts, lt)

added : (buf new : Collected) (head body : List ℕ) → length buf.packets < buf.aggregation
    → new ≡ with_parts buf head body → new ≡ record buf { packets = buf.packets ++ (head, body) ∷ [] }
added buf new head body lt is =
    let room : has_room buf ≡ true = lt-ltb (length buf.packets) buf.aggregation lt in
    rw (is, room) refl

pub gathered-added : (ps : List Prefix) (n i : ℕ) (buf new : Collected) (p : Prefix) (h b head : List ℕ)
    → IsGathered ps n buf → length buf.packets < buf.aggregation → i ≡ length buf.packets → p.posted < 256
    → head ≡ prefix_bytes p ++ h → new ≡ with_parts buf head b → IsGathered (set ps i p) (n + p.posted) new
gathered-added ps n i buf new p h b head g lt at small clear is =
    let room : length buf.packets < length ps = omega (arith, lt, g.places, g.small_aggregation) in
    let xs = buf.packets ++ (prefix_bytes p ++ h, b) ∷ [] in
    let q : Packet = record { prefix = p; head = h; body = b; tag = [] } in
    let packets : packets_of_prefixes xs (set ps (length buf.packets) p) ≡ packets_of_prefixes buf.packets ps ++ q
    ∷ [] = packets-added buf.packets ps p h b room in
    let more : length xs ≡ length buf.packets + 1 = length-append buf.packets ((prefix_bytes p ++ h, b) ∷ []) in
    let P : Collected → Type 0 = λ x. IsGathered (set ps (length buf.packets) p) (n + p.posted) x in
    let fine : P (record buf { packets = xs }) = record {
      places = length-set ps (length buf.packets) p ∙ g.places;
      small_aggregation = g.small_aggregation;
      fits = omega (arith, more, lt);
      parts = ap (map parts_of) packets ∙ map-append parts_of (packets_of_prefixes buf.packets ps) (q ∷ []) ∙ ap
          (λ x. x ++ parts_of q ∷ []) g.parts;
      sum = ap (λ x. x + p.posted) g.sum ∙
          (let e : posted_sum (packets_of_prefixes buf.packets ps) + p.posted
          ≡ posted_sum (packets_of_prefixes buf.packets ps) + posted_sum (q ∷ []) = omega arith in e)
          ∙ sym (sum_by-append (λ (x : Packet). x.prefix.posted) (packets_of_prefixes buf.packets ps) (q ∷ [])) ∙ ap
          posted_sum
          (sym packets);
      few = omega (arith, more, g.few, small);
    } in
    let here : new ≡ record buf { packets = xs } = rw clear at (added buf new head b lt is) in
    rw at (subst P (sym here) fine)

pub view-added : (ps : List Prefix) (n i : ℕ) (buf new : Collected) (old : Gathered) (p : Prefix) (h b head : List ℕ)
    → IsGathered ps n buf → view ps buf ≡ old → length buf.packets < buf.aggregation → i ≡ length buf.packets
    → head ≡ prefix_bytes p ++ h → new ≡ with_parts buf head b
    → view (set ps i p) new ≡ with_packet old (record { prefix = p; head = h; body = b; tag = [] })
view-added ps n i buf new old p h b head g was lt at clear is =
    let room : length buf.packets < length ps = omega (arith, lt, g.places, g.small_aggregation) in
    let q : Packet = record { prefix = p; head = h; body = b; tag = [] } in
    let here : new ≡ record buf { packets = buf.packets ++ (prefix_bytes p ++ h, b) ∷ [] } = rw clear at
    (added buf new head b lt is) in
    rw at
    (ap (view (set ps (length buf.packets) p)) here
    ∙ ap (λ x. record { aggregation = buf.aggregation; ahead = buf.ahead; packets = x })
    (packets-added buf.packets ps p h b room)
    ∙ ap (λ (u : Gathered). with_packet u q) was)
