-- Whether a tag that verifies is forged is decided by what is noted of seals and by the world before the event.
use Rattle.std.proofs.Common.{◌≡◌, ℕ, ◌+◌, ◌-◌, ◌≤◌, ◌==◌, ◌&&◌, Bool, true, false, List, [], ◌∷◌, ◌++◌, length}
use Rattle.std.proofs.Common.{map, refl, sym, ap, ◌∙◌, subst, arith, Option, Some, None}
use Rattle.std.proofs.lemmas.Bool.{and_parts, leb-true, ne_eqb}
use Rattle.std.proofs.lemmas.List.{nil_from_length}
use Rattle.std.specs.Bool.{Decides, one_answer}
use Rattle.std.specs.List.{AllByRecursion}
use Rattle.std.proofs.lemmas.Option.{none-some}
use Rattle.std.specs.Option.{option_map, option_map_or}
use Rattle.std.specs.Prelude.{count_by, if◌then◌else◌, nat_eq, not, slice_get}
use Rattle.std.specs.Cmp.Lexicographic.{bytes_decides, pointwise}
use Rattle.ide_types.specs.Fits.{FitsPlan}
use Rattle.ide_types.specs.declared.port.PortName.{PortName}
use Rattle.ide_types.specs.declared.sub.SubKind.{SubKind}
use Rattle.ide_types.specs.declared.sub.SubKind.TheVariants.{Pr, Npr, Cpl}
use Rattle.ide_types.specs.declared.plan.Plan.{Plan}
use Rattle.event_verdicts.specs.declared.verdict.SealedPacket.{SealedPacket}
use Rattle.ide_prefix.specs.{authenticated_bytes, encrypted_bytes, packet_without_tag}
use Rattle.ide_prefix.specs.declared.packet.Prefix.{Prefix}
use Rattle.ide_prefix.specs.Packet.{FitsPacket, Packet}
use Rattle.law_sealing.proofs.{draws}
use Rattle.law_sealing.proofs.Below.{cut_fits, same_packets}
use Rattle.law_sealing.proofs.FirstFronts.{sum_sent}
use Rattle.law_sealing.proofs.Fronts.{first_sealed}
use Rattle.law_sealing.proofs.OfPlans.{streams_fit}
use Rattle.law_sealing.proofs.Places.{placed, sent_fits}
use Rattle.law_sealing.proofs.Sums.{all_at}
use Rattle.law_delivery.proofs.Prefixes.{last_tag-snoc}
use Rattle.law_delivery.proofs.Received.{held_fits, held_front}
use Rattle.machine_ports.proofs.Answers.{at_each, key_for, live_is, on_live}
use Rattle.machine_ports.specs.Machine.{LinkPacket, LinkState, kept_packet}
use Rattle.machine_ports.specs.Stands.{StreamsAndPacketsStand, rx_state_due}
unfoldable use Rattle.machine_ports.specs.Machine.{find}
unfoldable use Rattle.machine_ports.specs.Stands.{stream_state_due}
use Rattle.spec_keys.specs.History.{History, base}
use Rattle.spec_keys.specs.Keys.{Keyed, Loaded, Off, On, key_in, on_in}
use Rattle.spec_links.specs.Cause.{CauseLaw}
use Rattle.spec_links.specs.Laws.{last_tag}
use Rattle.spec_links.specs.Plan.{SubStream, has_stream, is_closed, lane_in}
use Rattle.spec_links.specs.Units.{units}
use Rattle.spec_links.specs.History.{ArrivedBytes, SealedList, ahead_due, ahead_sent}
use Rattle.spec_links.specs.History.{pending_packets, port_keys, received_in, sealed_packets}
use Rattle.spec_links.specs.History.{sent_packets, units_got, units_since}
unfoldable use Rattle.spec_links.specs.History.{ahead_of_unit}
use Rattle.spec_links.specs.Due.{Ending, receiving_sub_stream, unit_packets_ended}
use Rattle.spec_links.proofs.Causes.{numbered, received_there}
use Rattle.spec_links.proofs.UnitLemmas.{All-snoc, EndsInM, EndsInM-snoc, unit_at, units_all, units_end}
use Rattle.spec_stream.specs.Stream.{LaneSlot, Empty, Programmed, Armed, Live, LiveKey, LaneSlots, RxSub, StreamState}
use Rattle.spec_stream.specs.Stream.{at_sub, live_in, slot_in_set}
use Rattle.sub_stream.specs.Facts.{held_packets, lane_seen, receiver_facts, set_facts, slot_facts, stream_facts}
use Rattle.ide_port.specs.{Found, PortEnd, found_facts, found_stream}
use Rattle.ide_port.specs.Facts.{held_by, held_of_found}
use Rattle.why_facts.specs.{set_seen}
use Rattle.world.specs.{AreLinks, WholeLinks, WorldStandsFor, links_state, port_on, world_of}
use Rattle.world.proofs.{closed_at, end_found, none_found, port_is}
use Rattle.rule_counts.specs.Forged.{is_partners, is_same_ahead, is_unit_ended, partner_unit, was_sealed}
use Rattle.rule_counts.specs.Seals.{AreSeals, SealsView, base_after}
use Rattle.rule_counts.specs.Units.{ends_between, is_same_front, is_unit_after}
use Rattle.rule_counts.specs.Unsealed.{kept_packets, unsealed_arrival, unsealed_if_there}
use Rattle.rule_counts.specs.Unsealed.{unsealed_packet, unsealed_seen, unsealed_under}
use Rattle.rule_counts.proofs.Fronts.{ahead_is, ended_below}
use Rattle.rule_counts.proofs.UnitsAfter.{AreDescribed, found_decides}
use Rattle.rule_counts.proofs.Verified.{IsEnding}

-- ---- two units that are alike

no_tag : (p : Packet) → FitsPacket p → p.prefix.m ≡ false → p.tag ≡ []
no_tag p fits m = nil_from_length p.tag (fits.tag_size ∙ ap (λ (b : Bool). if b then 12 else 0) m)

same_packet : (p q : Packet) → packet_without_tag p ≡ packet_without_tag q → p.tag ≡ q.tag → p ≡ q
same_packet p q same tag =
    let prefix = ap (λ (r : Packet). r.prefix) same in
    let head = ap (λ (r : Packet). r.head) same in
    let body = ap (λ (r : Packet). r.body) same in
    λ i. record { prefix = prefix i; head = head i; body = body i; tag = tag i }

-- packets without M have no tags, so that the last tag is all that the rest leaves open
same_unit : (x y : List Packet) → AllByRecursion FitsPacket x → AllByRecursion FitsPacket y → EndsInM x → EndsInM y
    → map packet_without_tag x ≡ map packet_without_tag y → last_tag x ≡ last_tag y → x ≡ y
same_unit [] [] fx fy mx my same tag = refl
same_unit (p ∷ []) (q ∷ []) fx fy mx my same tag = ap (λ r. r ∷ []) (same_packet p q (cc) tag)
same_unit (p ∷ r ∷ x) (q ∷ s ∷ y) fx fy mx my same tag =
    let first = same_packet p q (cc) (no_tag p fx.0 mx.0 ∙ sym (no_tag q fy.0 my.0)) in
    let rest = same_unit (r ∷ x) (s ∷ y) fx.1 fy.1 mx.1 my.1 (cc) tag in
    cc (first, rest)
same_unit x y fx fy mx my same tag = absurd cc

both_same : (a b c d : Bool) → a ≡ c → (a ≡ true → b ≡ d) → (a && b) ≡ (c && d)
both_same true b c d same so = ap (λ (k : Bool). k && b) same ∙ ap (λ (k : Bool). c && k) (so refl)
both_same false b c d same so = ap (λ (k : Bool). k && d) same

some_packet : (ps : List Packet) (n : ℕ) (u : List Packet) → slice_get (units ps) n ≡ Some u → 1 ≤ length ps
unfolding units
some_packet [] n u is = absurd cc
some_packet (p ∷ ps) n u is = omega arith

-- ---- a unit that ends

module _ (plan : Plan) (fits : FitsPlan plan) (h : History) (cause : CauseLaw plan h) (a : ArrivedBytes) (x : Ending)
    (is : IsEnding plan h a x)
  where
    abbrev s : SubStream
    s = received_in a.port x.unit

    abbrev j : ℕ
    j = x.unit.draw

    abbrev n : ℕ
    n = units_got h s j

    abbrev xs : SealedList
    xs = sealed_packets plan h

    abbrev ended : List Packet
    ended = unit_packets_ended plan h a.port x

    number : x.unit.unit ≡ n + 1
    number = numbered plan h a.port x.packet x.unit is.passed

    all_described : AreDescribed xs
    all_described = all_at (λ (y : SealedPacket × Packet). y.0.m ≡ y.1.prefix.m) xs
        (λ i y at. sym (ap (λ (f : Prefix). f.m)
        (placed plan (streams_fit plan fits) (draws plan) h cause i y at).prefix))

    all_fit : AllByRecursion FitsPacket ended
    all_fit = All-snoc FitsPacket (pending_packets plan h s j) x.packet (held_fits plan h cause s j (n + 1))
        (cut_fits a.bytes x.packet is.cut)

    is_unit : EndsInM ended
    is_unit = EndsInM-snoc (pending_packets plan h s j) x.packet (held_front plan h cause s j (n + 1)) is.ends

    all_sent : AllByRecursion FitsPacket (sent_packets plan h s j)
    all_sent = sent_fits plan (streams_fit plan fits) (draws plan) h cause s j

    abbrev us : List (List Packet)
    us = units (sent_packets plan h s j)

    -- ---- the partner's unit

    partner_is : partner_unit plan h a.port x ≡ slice_get us n
    partner_is =
        let zero_not : (x.unit.unit == 0) ≡ false = ne_eqb x.unit.unit 0 (λ none. omega (arith, number, none)) in
        let one : x.unit.unit - 1 ≡ n = omega (arith, number) in
        rw (zero_not, one) refl

    alike : (u : List Packet) → slice_get us n ≡ Some u → is_unit_ended plan h a.port x u ≡ true → u ≡ ended
    alike u at is_so =
        let last = and_parts (pointwise nat_eq (authenticated_bytes u) (authenticated_bytes ended)
        && pointwise nat_eq (encrypted_bytes u) (encrypted_bytes ended)) (pointwise nat_eq (last_tag u) x.packet.tag)
        is_so in
        let first = and_parts (pointwise nat_eq (authenticated_bytes u) (authenticated_bytes ended))
        (pointwise nat_eq (encrypted_bytes u) (encrypted_bytes ended)) last.0 in
        let u_fits = unit_at (AllByRecursion FitsPacket) us n u
        (units_all FitsPacket (sent_packets plan h s j) all_sent) at in
        same_unit u ended u_fits all_fit (unit_at EndsInM us n u (units_end (sent_packets plan h s j)) at) is_unit
        (same_packets u ended u_fits all_fit ((bytes_decides _ _).0 first.0) ((bytes_decides _ _).0 first.1))
        ((bytes_decides _ _).0 last.1 ∙ sym (last_tag-snoc (pending_packets plan h s j) x.packet))

    partners_by : (o : Option (List Packet)) → slice_get us n ≡ o
        → Decides (is_partners plan h a.port x o) (o ≡ Some ended)
    partners_by None at = (λ no. absurd cc, λ no. absurd cc)
    partners_by (Some u) at = (
      λ so. ap Some (alike u at so),
      λ same. subst (λ (r : List Packet). is_unit_ended plan h a.port x r ≡ true) (sym (of_some u ended same)) itself,
    )
      where
        of_some : (u r : List Packet) → Some u ≡ Some r → u ≡ r
        of_some u r same = cc

        itself : is_unit_ended plan h a.port x ended ≡ true
        itself = rw (
          (bytes_decides (authenticated_bytes ended) (authenticated_bytes ended)).1 refl,
          (bytes_decides (encrypted_bytes ended) (encrypted_bytes ended)).1 refl,
          (bytes_decides (last_tag ended) x.packet.tag).1 (last_tag-snoc (pending_packets plan h s j) x.packet),
        ) refl

    partners_decide : Decides (is_partners plan h a.port x (partner_unit plan h a.port x)) (slice_get us n ≡ Some ended)
    partners_decide = subst (λ (o : Option (List Packet)). Decides (is_partners plan h a.port x o)
        (slice_get us n ≡ Some ended)) (sym partner_is) (partners_by (slice_get us n) refl)

    -- ---- what came ahead of it

    on_of : (k : Keyed) (i : ℕ) → on_in k ≡ Some i → k ≡ On i
    on_of Off i on = absurd cc
    on_of (Loaded d) i on = absurd cc
    on_of (On d) i on = cc

    abbrev at : SubStream
    at = receiving_sub_stream a.port x.packet

    there : s ≡ at
    there = received_there plan h a.port x.packet x.unit is.passed

    up : base h s.line s.stream ≤ j
    up =
        let on = on_of (key_in (port_keys h a.port at) x.packet.prefix.k) j is.passed.live in
        let least = leb-true (base h at.line at.stream) j
        ((draws plan).from_base h cause a.port at x.packet.prefix.k j on) in
        subst (λ (t : SubStream). base h t.line t.stream ≤ j) (sym there) least

    front_is : slice_get us n ≡ Some ended
        → is_same_front (is_closed plan s.line s.stream) n (sum_sent plan h s (base h s.line s.stream) j)
        (units_since h s (base h s.line s.stream)) ≡ is_same_ahead plan h a.port x
    unfolding ahead_of_unit
    front_is finished =
        let sealed = (first_sealed plan h s j (some_packet (sent_packets plan h s j) n ended finished)).0 in
        let sent = ahead_is plan (streams_fit plan fits) (draws plan) h cause s j n sealed up in
        (λ i. pointwise nat_eq (sym sent i) (ahead_due plan h s (n + 1)))
        ∙ (λ i. pointwise nat_eq (ahead_sent plan h s j (sym number i)) (ahead_due plan h s (sym number i)))

    -- ---- by what is noted and kept

    -- of a sub-stream, how its unit is looked up
    looked_up : SealsView → List LinkPacket → SubStream → Bool
    looked_up seals kept t =
        is_unit_after t j (units_got h t j) (pending_packets plan h t j ++ x.packet ∷ []) seals.packets kept
        && is_same_front (is_closed plan t.line t.stream) (units_got h t j)
        (count_by (ends_between t (base_after 0 seals.bases t.line t.stream) j) seals.packets)
        (units_since h t (base h t.line t.stream))

    found_is : (seals : SealsView) (kept : List LinkPacket) → AreSeals plan seals h
        → kept ≡ map (λ (y : SealedPacket × Packet). kept_packet y.0.port y.1) xs
        → looked_up seals kept s ≡ was_sealed plan h a.port x
    unfolding looked_up
    found_is seals kept are kept_are =
        let ends = (λ i. count_by (ends_between s (are.bases_are s.line s.stream i) j) (are.packets_are i))
        ∙ ended_below plan h s (base h s.line s.stream) j all_described in
        let found = found_decides s j xs all_described all_sent n ended all_fit in
        (λ i. is_unit_after s j n ended (are.packets_are i) (kept_are i)
        && is_same_front (is_closed plan s.line s.stream) n (ends i) (units_since h s (base h s.line s.stream)))
        ∙ both_same _ _ _ _ (one_answer _ _ found partners_decide) (λ so. front_is (found.0 so))

-- ---- by the world

receiver_of : (closed : Bool) (x : StreamState) (u : SubKind)
    → (lane_seen (stream_facts closed x) u).receiver ≡ receiver_facts (at_sub x.rx u)
receiver_of closed x Pr = refl
receiver_of closed x Npr = refl
receiver_of closed x Cpl = refl

set_of : (k : Bool) (slots : LaneSlots) → set_seen k (set_facts slots) ≡ slot_facts (slot_in_set slots k)
set_of true slots = refl
set_of false slots = refl

live_of : (sl : LaneSlot) (l : LiveKey) → live_in sl ≡ Some l → sl ≡ Live l
live_of Empty l is = absurd cc
live_of (Programmed draw key) l is = absurd cc
live_of (Armed draw key) l is = absurd cc
live_of (Live y) l is = cc

-- what a port shows of a stream that it has
facts_found : (closed : Bool) (o : Option Found) (x : StreamState) → option_map (λ (f : Found). f.state) o ≡ Some x
    → ((f : Found) → o ≡ Some f → closed ≡ f.plan.closed) → option_map found_facts o ≡ Some (stream_facts closed x)
facts_found closed None x is same = absurd cc
facts_found closed (Some f) x is same =
    let state : f.state ≡ x = cc in
    λ i. Some (stream_facts (sym (same f refl) i) (state i))

held_found : (u : SubKind) (k : Bool) (o : Option Found) (x : StreamState)
    → option_map (λ (f : Found). f.state) o ≡ Some x → option_map_or (held_of_found u k) o [] ≡ held_by u k x
held_found u k None x is = absurd cc
held_found u k (Some f) x is = let state : f.state ≡ x = cc in ap (held_by u k) state

module _ (plan : Plan) (fits : FitsPlan plan) (s : WholeLinks) (links : AreLinks plan s.links.ends s.links.keeper.keys)
    (h : History) (stood : WorldStandsFor (world_of plan s) h) (seals : SealsView) (are : AreSeals plan seals h)
  where
    stands : StreamsAndPacketsStand plan stood.whole.links h
    stands = stood.stands.links.ports_stand

    kept_are : kept_packets s
        ≡ map (λ (y : SealedPacket × Packet). kept_packet y.0.port y.1) (sealed_packets plan h)
    kept_are = ap (λ (st : LinkState). st.packets) (sym stood.is.links) ∙ stands.packets

    found_there : (port : PortName) (stream : ℕ) → has_stream plan port stream ≡ true
        → find plan (links_state plan s.links) port stream ≡ Some (stream_state_due plan h port stream)
    found_there port stream known =
        ap (λ (st : LinkState). find plan st port stream) (sym stood.is.links)
        ∙ (stands.streams port stream
        ∙ ap (λ (b : Bool). if b then Some (stream_state_due plan h port stream) else None) known)

    module _ (a : ArrivedBytes) (x : Ending) (is : IsEnding plan h a x) where
      abbrev p : Packet
      p = x.packet

      abbrev lane : SubStream
      lane = lane_in a.port p.prefix.stream p.prefix.sub

      abbrev closed_there : Bool
      closed_there = is_closed plan a.port.line p.prefix.stream

      abbrev rx : RxSub
      rx = rx_state_due plan h a.port lane

      abbrev key : LiveKey
      key = key_for plan h lane x.unit.draw

      slot_is : slot_in_set rx.slots p.prefix.k ≡ Live key
      slot_is = live_of _ key (live_is plan h a.port lane p.prefix.k is.passed.secure
          ∙ ap (option_map (key_for plan h lane)) is.passed.live)

      total_is : rx.total ≡ units_since h lane (base h lane.line lane.stream)
      total_is =
          ap (λ (b : Bool). if b then units_since h lane (base h lane.line lane.stream) else 0)
          (on_live plan h a.port p.prefix.stream p.prefix.sub p.prefix.k x.unit.draw is.passed.live)

      by_receiver : RxSub → Bool
      by_receiver r =
          unsealed_under seals (kept_packets s) a.port p.prefix.stream p.prefix.sub closed_there
          (receiver_facts r).total
          (held_packets (slot_in_set r.slots p.prefix.k) ++ p ∷ []) (set_seen p.prefix.k (receiver_facts r).sets)

      by_slot : ℕ → LaneSlot → Bool
      by_slot total sl =
          unsealed_under seals (kept_packets s) a.port p.prefix.stream p.prefix.sub closed_there total
          (held_packets sl ++ p ∷ []) (slot_facts sl)

      abbrev state : StreamState
      state = stream_state_due plan h a.port p.prefix.stream

      live_found : unsealed_seen seals (kept_packets s) a.port p (held_by p.prefix.sub p.prefix.k state)
          (Some (stream_facts closed_there state)) ≡ not (was_sealed plan h a.port x)
      unfolding stream_state_due by_receiver by_slot looked_up
      live_found =
          (λ i. unsealed_under seals (kept_packets s) a.port p.prefix.stream p.prefix.sub closed_there
          (receiver_of closed_there state p.prefix.sub i).total
          (held_packets (slot_in_set (at_sub state.rx p.prefix.sub).slots p.prefix.k) ++ p ∷ [])
          (set_seen p.prefix.k (receiver_of closed_there state p.prefix.sub i).sets))
          ∙ (ap by_receiver (at_each (λ (u : SubKind). rx_state_due plan h a.port (lane_in a.port p.prefix.stream u))
          p.prefix.sub)
          ∙ ((λ i. unsealed_under seals (kept_packets s) a.port p.prefix.stream p.prefix.sub closed_there rx.total
          (held_packets (slot_in_set rx.slots p.prefix.k) ++ p ∷ []) (set_of p.prefix.k rx.slots i))
          ∙ ((λ i. by_slot (total_is i) (slot_is i))
          ∙ (ap (λ (t : SubStream). not (looked_up plan fits h stands.cause a x is seals (kept_packets s) t))
          (sym (there plan fits h stands.cause a x is))
          ∙ ap not (found_is plan fits h stands.cause a x is seals (kept_packets s) are kept_are)))))

      by_port : (o : Option PortEnd) → port_on s.links.ends a.port ≡ o
          → unsealed_if_there seals (kept_packets s) a.port p o ≡ not (was_sealed plan h a.port x)
      by_port None at =
          absurd (none-some state (sym (none_found plan s.links.ends s.links.keeper.keys s.links.packets.packets a.port
          p.prefix.stream links at) ∙ found_there a.port p.prefix.stream is.passed.known))
      by_port (Some e) at =
          let found : option_map (λ (f : Found). f.state) (found_stream e.plans e.states p.prefix.stream) ≡ Some state =
          sym (end_found plan s.links.ends s.links.keeper.keys s.links.packets.packets a.port e p.prefix.stream links
          at)
          ∙ found_there a.port p.prefix.stream is.passed.known in
          let facts = facts_found closed_there (found_stream e.plans e.states p.prefix.stream) state found
          (λ f there. closed_at plan a.port e p.prefix.stream f
          (port_is plan s.links.ends s.links.keeper.keys links a.port e at) there) in
          let held = held_found p.prefix.sub p.prefix.k (found_stream e.plans e.states p.prefix.stream) state found in
          (λ i. unsealed_seen seals (kept_packets s) a.port p (held i) (facts i)) ∙ live_found

      pub arrival_found : unsealed_arrival seals s (Some a) ≡ not (was_sealed plan h a.port x)
      arrival_found = ap (unsealed_packet seals s a.port) is.cut ∙ by_port (port_on s.links.ends a.port) refl
