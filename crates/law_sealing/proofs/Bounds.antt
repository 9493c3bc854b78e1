-- An open unit has room for its last packet, and no posted count passes 255. Both go by induction on the history, and
-- in a send packet by packet. The hard case is a posted packet within a unit, which is why a third bound goes along.
-- The packets still to come in an open posted unit are counted beforehand, and when such a unit begins there is room
-- for all of it, or the count is 0. When keys or Base change, what is new is empty.
use Rattle.law_sealing.proofs.Terms.{◌≡◌, ℕ, ◌+◌, ◌<◌, ◌≤◌, ◌==◌, true, false, List, [], ◌∷◌, ◌++◌, length, Option}
use Rattle.law_sealing.proofs.Terms.{Some, inl, inr, ◌⊎◌, refl, ap, sym, ◌∙◌, arith, length-append, if◌then◌else◌, ◌&&◌}
use Rattle.law_sealing.proofs.Terms.{nat_le, is_some, after_last, and_parts, cases_Bool, eqb-true, leb-true, nat_tests}
use Rattle.law_sealing.proofs.Terms.{SubKind, Pr, PortName, Event, Verdict, SealedPacket, Packet, Prefix, Plan}
use Rattle.law_sealing.proofs.Terms.{SubStream, lane_out, aggregation_of, stream_plan, is_same, is_same_port, open_unit}
use Rattle.law_sealing.proofs.Terms.{History, base, ahead_of_packet, SealedList, KeyName, sealed_packets, with_sealed}
use Rattle.law_sealing.proofs.Terms.{packet_of, prefix_of, sub_stream_packets, posted_since_last, posted_lane}
use Rattle.law_sealing.proofs.Terms.{is_sealed_from_draw, sub_stream_of, is_posted, CauseLaw, DrawFacts, NoneFrom}
use Rattle.law_sealing.proofs.Terms.{is_same_sub, same_sub, same_stream, same_port, open_unit-snoc}
use Rattle.law_sealing.proofs.Terms.{sub_stream_packets-snoc, posted-own, posted-more, sent_elsewhere, posted_elsewhere}
use Rattle.law_sealing.proofs.Terms.{any_out, is_out, in_lane, sealing_is, StreamsFit, Sealed, sent_bytes, sending_port}
use Rattle.law_sealing.proofs.Sums.{at_dropped, none_filtered}
use Rattle.law_sealing.proofs.Sealings.{IsOf, AllOf, live_at, from_at, all_of_sealing}

-- ---- of the plan

pub aggregation_one : (plan : Plan) → StreamsFit plan → (line stream : ℕ) → 1 ≤ aggregation_of plan line stream
aggregation_one plan fits line stream = grind (arith, fits.one line stream)

aggregation_eight : (plan : Plan) → StreamsFit plan → (line stream : ℕ) → aggregation_of plan line stream ≤ 8
aggregation_eight plan fits line stream = grind (arith, fits.eight line stream)

pub id_byte : (plan : Plan) → StreamsFit plan → (line stream : ℕ) → is_some (stream_plan plan line stream) ≡ true
    → stream < 256
id_byte plan fits line stream is = grind (arith, fits.id line stream)

-- ---- of one stream at the port that seals

abbrev pub open_count : PortName → ℕ → SealedList → SubKind → ℕ → ℕ
open_count port stream xs u j = length (open_unit (sub_stream_packets xs (lane_out port stream u) j))

pub record Bounds (plan : Plan) (port : PortName) (stream : ℕ) (live : SubKind → Option KeyName) (from : ℕ)
    (xs : SealedList) : Type 0 where
  pub room : (u : SubKind) (key : KeyName) → live u ≡ Some key
      → open_count port stream xs u key.draw < aggregation_of plan port.line stream
  pub count : (u : SubKind) → is_posted u ≡ false → posted_since_last xs (lane_out port stream u) from ≤ 255
  -- the packets that are still to come in the open unit are counted beforehand
  pub open_room : (u : SubKind) → is_posted u ≡ false → (key : KeyName) → live Pr ≡ Some key
      → (open_count port stream xs Pr key.draw ≡ 0) ⊎
      (posted_since_last xs (lane_out port stream u) from + aggregation_of plan port.line stream ≤ 255
      + open_count port stream
      xs Pr
      key.draw)

pub prefix_is : (plan : Plan) (ahead bytes : List ℕ) (d : SealedPacket) (unfinished : List Packet)
    → (packet_of plan ahead bytes d unfinished).prefix ≡ prefix_of d
unfolding packet_of
prefix_is plan ahead bytes d unfinished = refl

module _ (plan : Plan) (fits : StreamsFit plan) (port : PortName) (stream : ℕ) (live : SubKind → Option KeyName)
    (from : ℕ) (class : SubKind) where
  abbrev lane : SubKind → SubStream
  lane u = lane_out port stream u

  abbrev unfinished : SealedList → SubKind → ℕ → ℕ
  unfinished xs u j = open_count port stream xs u j

  abbrev count : SealedList → SubKind → ℕ
  count xs u = posted_since_last xs (lane u) from

  abbrev aggregation : ℕ
  aggregation = aggregation_of plan port.line stream

  same_draw : (xs : SealedList) (d : SealedPacket) → IsOf plan port stream live from class xs d
      → (u : SubKind) (key : KeyName) → live u ≡ Some key → is_same_sub d.sub u ≡ true → d.draw ≡ key.draw
  same_draw xs d of u key is here = cc (ap live (same_sub d.sub u here), of.live_is)

  -- what one packet does to an open unit
  unfinished-one : (xs : SealedList) (d : SealedPacket) (p : Packet) → IsOf plan port stream live from class xs d
      → p.prefix.m ≡ d.m
      → (u : SubKind) (key : KeyName) → live u ≡ Some key → unfinished (xs ++ (d, p) ∷ []) u key.draw
      ≡ (if is_same_sub d.sub u then (if d.m then 0 else unfinished xs u key.draw + 1) else unfinished xs u key.draw)
  unfinished-one xs d p of m u key is =
      let ps = sub_stream_packets xs (lane u) key.draw in
      let here = in_lane port stream d u of.port_is of.stream_is in
      let grown = length-append (open_unit ps) (p ∷ []) in
      grind (
        arith,
        nat_tests,
        sub_stream_packets-snoc xs (d, p) (lane u) key.draw,
        open_unit-snoc ps p,
        m,
        here,
        same_draw xs d of
            u key is,
        grown,
      )

  -- what one packet does to a posted count
  posted-one : (xs : SealedList) (d : SealedPacket) (p : Packet) → IsOf plan port stream live from class xs d
      → (u : SubKind)
      → count (xs ++ (d, p) ∷ []) u ≡
      (if is_same_sub d.sub u then 0 else if is_posted d.sub then count xs u + 1 else count xs u)
  posted-one xs d p of u =
      let here = in_lane port stream d u of.port_is of.stream_is in
      let posted = in_lane port stream d Pr of.port_is of.stream_is in
      grind (arith, here, posted, of.counts, posted-own xs (d, p) (lane u) from, posted-more xs (d, p) (lane u) from)

  -- a posted packet has room in each count
  has_room : (xs : SealedList) (d : SealedPacket) → IsOf plan port stream live from class xs d
      → Bounds plan port stream live from xs → (u : SubKind) → is_posted u ≡ false → (key : KeyName)
      → live Pr ≡ Some key → is_posted d.sub ≡ true → count xs u + aggregation ≤ 255 + unfinished xs Pr key.draw
  has_room xs d of bounds u other key is posted =
      let clear : unfinished xs Pr key.draw ≡ 0 → (count xs u + aggregation ≤ 255) ⊎ (count xs u ≡ 0) =
      λ empty. of.clear posted (rw (same_sub d.sub Pr posted, same_draw xs d of Pr key is posted) empty) u other in
      grind (arith, clear, bounds.open_room u other key is, aggregation_eight plan fits port.line stream)

  pub one_bounded : (xs : SealedList) (d : SealedPacket) (p : Packet) → IsOf plan port stream live from class xs d
      → p.prefix.m ≡ d.m → Bounds plan port stream live from xs → Bounds plan port stream live from (xs ++ (d, p) ∷ [])
  one_bounded xs d p of m bounds = record {
    room = λ u key is.
        let one = unfinished-one xs d p of m u key is in
        grind (arith, nat_tests, one, bounds.room u key is, aggregation_one plan fits port.line stream, more u key is);
    count = λ u other. grind (arith, posted-one xs d p of u, bounds.count u other, posted_room u other);
    open_room = λ u other key is.
        let one = unfinished-one xs d p of m Pr key is in
        let room = has_room xs d of bounds u other key is in
        grind (
          arith,
          posted-one xs d p of u,
          one,
          room,
          bounds.open_room u other key is,
          aggregation_eight plan fits port.line
              stream,
        );
  }
    where
      more : (u : SubKind) (key : KeyName) → live u ≡ Some key → is_same_sub d.sub u ≡ true → d.m ≡ false
          → (unfinished xs u key.draw + 1 == aggregation) ≡ false
      more u key is here not_m = rw (← same_draw xs d of u key is here, ← same_sub d.sub u here) (of.more not_m)

      posted_room : (u : SubKind) → is_posted u ≡ false → is_posted d.sub ≡ true → count xs u < 255
      posted_room u other posted =
          let live_is = ap live (sym (same_sub d.sub Pr posted)) ∙ of.live_is in
          omega (arith, has_room xs d of bounds u other _ live_is posted, bounds.room Pr _ live_is)

  all_bounded : (ahead : SealedPacket → List ℕ) (bytes : List ℕ) (ds : List SealedPacket) (xs : SealedList)
      → AllOf plan port stream live from class xs ds
      → Bounds plan port stream live from xs → Bounds plan port stream live from (with_sealed plan ahead bytes ds xs)
  all_bounded ahead bytes [] xs all bounds = bounds
  all_bounded ahead bytes (d ∷ ds) xs all bounds =
      let p = packet_of plan (ahead d) bytes d (open_unit (sub_stream_packets xs (sub_stream_of d) d.draw)) in
      let m = ap (λ (f : Prefix). f.m) (prefix_is plan (ahead d) bytes d _) in
      all_bounded ahead bytes ds (xs ++ (d, p) ∷ []) (all.1 p) (one_bounded xs d p all.0 m bounds)

-- ---- of a stream at another port, or of another stream

all_out : (plan : Plan) (p port : PortName) (t stream : ℕ) (live : SubKind → Option KeyName) (from : ℕ)
    (class : SubKind) (xs : SealedList) (ds : List SealedPacket) → AllOf plan p t live from class xs ds
    → (is_same_port p port && (t == stream)) ≡ false → any_out port stream ds ≡ false
all_out plan p port t stream live from class xs [] all other = refl
all_out plan p port t stream live from class xs (d ∷ ds) all other =
    let one : is_out port stream d ≡ false = (λ i. is_same_port (all.0.port_is i) port && (all.0.stream_is i == stream))
    ∙ other in
    let none : Packet = record {
      prefix = record { m = false; k = false; t = false; sub = Pr; stream = 0; posted = 0 };
      head = [];
      body = [];
      tag = [];
    } in
    rw one (all_out plan p port t stream live from class (xs ++ (d, none) ∷ []) ds (all.1 none) other)

-- ---- when keys and Base change

none_from : (plan : Plan) (h : History) (port : PortName) (stream : ℕ) (u : SubKind) (from : ℕ)
    → NoneFrom plan h port.line stream from
    → posted_since_last (sealed_packets plan h) (lane_out port stream u) from ≡ 0
unfolding posted_since_last
none_from plan h port stream u from none =
    ap length (none_filtered (is_sealed_from_draw (posted_lane s) from)
    (after_last (is_sealed_from_draw s from) (sealed_packets plan h))
    (λ i x is here.
    let at = at_dropped (sealed_packets plan h) _ i x is in
    let parts = and_parts (is_same (sub_stream_of x.0) (posted_lane s)) (nat_le from x.0.draw) here in
    let same = same_stream (sub_stream_of x.0) (posted_lane s) parts.0 in
    omega (
      arith,
      none at.0 x at.2 (ap (λ (t : SubStream). t.line) same) (ap (λ (t : SubStream). t.stream) same),
      leb-true from x.0.draw parts.1,
    )))
  where
    s : SubStream
    s = lane_out port stream u

-- each open unit stays or is empty, and so with the counts
moved : (plan : Plan) → StreamsFit plan → (port : PortName) (stream : ℕ) (live later : SubKind → Option KeyName)
    (from next : ℕ) (xs ys : SealedList)
    → ((u : SubKind) (key : KeyName) → later u ≡ Some key
    → ((live u ≡ Some key) × (open_count port stream ys u key.draw ≡ open_count port stream xs u key.draw))
    ⊎ (open_count port stream ys u key.draw ≡ 0))
    → ((u : SubKind) → let s = lane_out port stream u in (posted_since_last ys s next ≡ posted_since_last xs s from)
    ⊎ (posted_since_last ys s next ≡ 0))
    → Bounds plan port stream live from xs → Bounds plan port stream later next ys
moved plan fits port stream live later from next xs ys fronts counts bounds = record {
  room = λ u key is. grind (arith, fronts u key is, bounds.room u key, aggregation_one plan fits port.line stream);
  count = λ u other. grind (arith, counts u, bounds.count u other);
  open_room = λ u other key is. grind
      (arith, fronts Pr key is, counts u, bounds.open_room u other key, aggregation_eight plan fits port.line stream);
}

keys_change : (plan : Plan) → StreamsFit plan → DrawFacts plan → (h : History) (e : Event) (w : Verdict)
    → CauseLaw plan ((e, w) ∷ h) → (port : PortName) (stream : ℕ)
    → Bounds plan port stream (live_at plan h port stream) (from_at plan h port stream)
    (sealed_packets plan ((e, w) ∷ h))
    → Bounds plan port stream (live_at plan ((e, w) ∷ h) port stream) (from_at plan ((e, w) ∷ h) port stream)
    (sealed_packets plan ((e, w) ∷ h))
unfolding open_unit
keys_change plan fits facts h e w law port stream = moved plan fits port stream _ _ _ _ ys ys fronts counts
  where
    ys : SealedList
    ys = sealed_packets plan ((e, w) ∷ h)

    fronts : (u : SubKind) (key : KeyName) → live_at plan ((e, w) ∷ h) port stream u ≡ Some key
        → let unfinished = open_count port stream ys u key.draw in
        ((live_at plan h port stream u ≡ Some key) × (unfinished ≡ unfinished)) ⊎ (unfinished ≡ 0)
    fronts u key is = elim (facts.fresh h e w law port stream u key is) [
      | inl before ↦ inl (before, refl)
      | inr none ↦ inr (ap (λ (ps : List Packet). length (open_unit ps)) none)
    ]

    counts : (u : SubKind) → let now = posted_since_last ys (lane_out port stream u)
        (base ((e, w) ∷ h) port.line stream) in
        (now ≡ posted_since_last ys (lane_out port stream u) (base h port.line stream)) ⊎ (now ≡ 0)
    counts u = elim (facts.base_fresh h e w law port.line stream) [
      | inl same ↦ inl (ap (posted_since_last ys (lane_out port stream u)) same)
      | inr none ↦ inr (none_from plan ((e, w) ∷ h) port stream u _ none)
    ]

-- ---- of every history

sealing_bounded : (plan : Plan) → StreamsFit plan → DrawFacts plan → (h : History)
    (e : Event) (ds : List SealedPacket) → CauseLaw plan ((e, Sealed ds) ∷ h)
    → (port : PortName) (stream : ℕ)
    → Bounds plan port stream (live_at plan h port stream) (from_at plan h port stream) (sealed_packets plan h)
    → Bounds plan port stream (live_at plan h port stream) (from_at plan h port stream)
    (sealed_packets plan ((e, Sealed ds) ∷ h))
unfolding sealed_packets
sealing_bounded plan fits facts h e ds law port stream before =
    let is = sealing_is plan h e ds law.0 in
    let s = is.sending in
    let all = all_of_sealing plan facts h law.1 (sending_port plan h e) (sent_bytes plan h e) ds is in
    let xs = sealed_packets plan h in
    let ahead = ahead_of_packet plan xs (base h) in
    elim (cases_Bool (is_same_port s.port port && (s.stream == stream))) [
      | inl here ↦
          let tests = and_parts (is_same_port s.port port) (s.stream == stream) here in
          let same = rw (same_port s.port port tests.0, eqb-true s.stream stream tests.1) at all in
          all_bounded plan fits port stream (live_at plan h port stream) (from_at plan h port stream) s.class ahead
          (sent_bytes plan h e) ds xs same before
      | inr other ↦
          let out = all_out plan s.port port s.stream stream _ _ s.class xs ds all other in
          let unfinished = λ (u : SubKind) (j : ℕ). ap (λ (ps : List Packet). length (open_unit ps))
          (sent_elsewhere plan ahead (sent_bytes plan h e) ds xs port stream u j out) in
          moved plan fits port stream _ _ _ _ xs (with_sealed plan ahead (sent_bytes plan h e) ds xs)
          (λ u key is. inl (is, unfinished u key.draw))
          (λ u. inl (posted_elsewhere plan ahead (sent_bytes plan h e) ds xs port stream u (from_at plan h port stream)
          out)) before
    ]

pub bounded : (plan : Plan) → StreamsFit plan → DrawFacts plan → (h : History) → CauseLaw plan h
    → (port : PortName) (stream : ℕ) → Bounds plan port stream (live_at plan h port stream) (from_at plan h port stream)
    (sealed_packets plan h)
unfolding sealed_packets sub_stream_packets open_unit posted_since_last
bounded plan fits facts [] law port stream = record {
  room = λ u key is. aggregation_one plan fits port.line stream;
  count = λ u other. omega arith;
  open_room = λ u other key is. inl refl;
}
bounded plan fits facts ((e, Sealed ds) ∷ h) law port stream = keys_change plan fits facts h e (Sealed ds) law port
    stream (sealing_bounded plan fits facts h e ds law port stream (bounded plan fits facts h law.1 port stream))
bounded plan fits facts ((e, w) ∷ h) law port stream = keys_change plan fits facts h e w law port stream
    (bounded plan fits facts h law.1 port stream)
