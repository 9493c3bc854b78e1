-- Each packet that was sealed, with its place among those of its sub-stream and draw: it has a spelling, the number of
-- its unit, and room in it. By induction on the history, and in a send packet by packet, since the list grows only at
-- its end and each packet is described by what was sealed before it; the posted count fits its byte by Bounds. Packet m
-- of a sub-stream and draw is then found in the list of all.
use Rattle.law_sealing.proofs.Terms.{◌≡◌, ℕ, zero, suc, ◌+◌, ◌<◌, Bool, true, false, List, [], ◌∷◌, ◌++◌, length}
use Rattle.law_sealing.proofs.Terms.{Option, Some, Ok, take, refl, ap, sym, ◌∙◌, subst, arith, inl, inr, ◌⊎◌}
use Rattle.law_sealing.proofs.Terms.{if◌then◌else◌, slice_get, filter, map, All, AllByRecursion, cases_Bool, nat_tests}
use Rattle.law_sealing.proofs.Terms.{nil_from_length, All-nil, SubKind, PortName, Sealed, SealedPacket, Tlp, class_of}
use Rattle.law_sealing.proofs.Terms.{header, body, read_of, Prefix, Packet, FitsPrefix, FitsPacket, length-masked_bytes}
use Rattle.law_sealing.proofs.Terms.{masked-bytes, length-tag_of, tag_of-bytes, Plan, SubStream, lane_out}
use Rattle.law_sealing.proofs.Terms.{aggregation_of, units, open_unit, History, base, ahead_of_packet, SealedList}
use Rattle.law_sealing.proofs.Terms.{KeyName, sealed_packets, with_sealed, sent_packets, sub_stream_packets}
use Rattle.law_sealing.proofs.Terms.{is_sealed_under, sub_stream_of, prefix_of, packet_of, untagged_packet, unit_tag}
use Rattle.law_sealing.proofs.Terms.{port_keys, is_posted, CauseLaw, DrawFacts, on_live, lane_is, sealing_is}
use Rattle.law_sealing.proofs.Terms.{StreamsFit, sent_bytes, sending_port}
use Rattle.law_sealing.proofs.Sums.{all_at, in_parts}
use Rattle.law_sealing.proofs.Below.{is_read}
use Rattle.law_sealing.proofs.Sealings.{IsOf, AllOf, IsSyncOf, live_at, from_at, all_of_sealing}
use Rattle.law_sealing.proofs.Bounds.{Bounds, bounded, one_bounded, id_byte, prefix_is}

-- ---- places of a list that gains an element

pub last_place : {A : Type 0} (xs : List A) (x y : A) (i : ℕ) → slice_get (xs ++ x ∷ []) i ≡ Some y
    → ((slice_get xs i ≡ Some y) × (take i (xs ++ x ∷ []) ≡ take i xs)) ⊎ ((y ≡ x) × (take i (xs ++ x ∷ []) ≡ xs))
last_place [] x y zero is = inr (cc, refl)
last_place [] x y (suc i) is = absurd cc
last_place (z ∷ xs) x y zero is = inl (is, refl)
last_place (z ∷ xs) x y (suc i) is = elim (last_place xs x y i is)
    [ inl p ↦ inl (p.0, ap (λ zs. z ∷ zs) p.1) | inr p ↦ inr (p.0, ap (λ zs. z ∷ zs) p.1) ]

-- ---- what is sent

-- packet m of a sub-stream and draw among all that were sealed
pub record PlaceAmong (xs : SealedList) (s : SubStream) (j m : ℕ) (p : Packet) : Type 0 where
  pub sealed : SealedPacket × Packet
  pub place : ℕ
  pub stands : slice_get xs place ≡ Some sealed
  pub packet : sealed.1 ≡ p
  pub under : is_sealed_under s j sealed ≡ true
  pub listed : slice_get (filter (is_sealed_under s j) xs) m ≡ Some sealed
  pub before : sub_stream_packets (take place xs) s j ≡ take m (sub_stream_packets xs s j)

pub place_among : (xs : SealedList) (s : SubStream) (j m : ℕ) (p : Packet)
    → slice_get (sub_stream_packets xs s j) m ≡ Some p → PlaceAmong xs s j m p
unfolding sub_stream_packets
place_among [] s j m p is = absurd cc
place_among (x ∷ xs) s j m p is = by_test (is_sealed_under s j x) refl m is (place_among xs s j)
  where
    by_test : (b : Bool) → is_sealed_under s j x ≡ b → (m : ℕ) → slice_get
        (map (λ (y : SealedPacket × Packet). y.1)
        (if b then x ∷ filter (is_sealed_under s j) xs else filter (is_sealed_under s j) xs)) m ≡ Some p
        → ((m : ℕ) (p : Packet) → slice_get (sub_stream_packets xs s j) m ≡ Some p → PlaceAmong xs s j m p)
        → PlaceAmong (x ∷ xs) s j m p
    by_test true here zero is more = record
        { sealed = x; place = 0; stands = refl; packet = cc; under = here; listed = rw here refl; before = refl }
    by_test true here (suc m) is more = let rest = more m p is in record {
      sealed = rest.sealed;
      place = suc rest.place;
      stands = rest.stands;
      packet = rest.packet;
      under = rest.under;
      listed = rw here rest.listed;
      before = rw here (ap (λ ps. x.1 ∷ ps) rest.before);
    }
    by_test false here m is more = let rest = more m p is in record {
      sealed = rest.sealed;
      place = suc rest.place;
      stands = rest.stands;
      packet = rest.packet;
      under = rest.under;
      listed = rw here rest.listed;
      before = rw here rest.before;
    }

-- ---- the packets

-- its spelling
packet_fits : (plan : Plan) (ahead bytes : List ℕ) (d : SealedPacket) (unfinished : List Packet) (t : Tlp)
    → read_of bytes ≡ Ok t → (d.sync ≡ false → class_of (header t) ≡ d.sub) → (d.sync ≡ true → IsSyncOf d)
    → FitsPrefix (prefix_of d) → FitsPacket (packet_of plan ahead bytes d unfinished)
unfolding packet_of
packet_fits plan ahead bytes d unfinished t reads class is_sync fits = elim (cases_Bool d.sync) [
  | inl sync ↦
      let is = is_sync sync in
      record {
        prefix = fits;
        carries = inr (record {
          head = rw sync refl;
          body = rw sync (nil_from_length _ (length-masked_bytes _ _ _ []));
          sub = is.sub;
          m = is.m;
          t = is.t;
        });
        body = rw sync (masked-bytes _ _ _ [] (All-nil _));
        tag = tag_fits d.m;
        tag_size = size_fits d.m;
      }
  | inr no_sync ↦
      let read = is_read bytes t reads in
      record {
        prefix = fits;
        carries = inl (record {
          head = header t;
          spells = rw (no_sync, reads) read.head;
          class = class no_sync;
          size = rw (length-masked_bytes, no_sync, reads) read.size;
        });
        body = rw (no_sync, reads) (masked-bytes _ _ _ (body t) read.bytes);
        tag = tag_fits d.m;
        tag_size = size_fits d.m;
      }
]
  where
    tag_fits : (m : Bool) → All (λ b. b < 256)
        (if m then unit_tag plan ahead d (unfinished ++ untagged_packet plan bytes d unfinished ∷ []) else [])
    tag_fits true = tag_of-bytes _ _ _ _
    tag_fits false = All-nil _

    size_fits : (m : Bool) → length
        (if m then unit_tag plan ahead d (unfinished ++ untagged_packet plan bytes d unfinished ∷ []) else [])
        ≡ (if m then 12 else 0)
    size_fits true = length-tag_of _ _ _ _
    size_fits false = refl

-- a packet that was sealed after those before it
pub record IsPlaced (plan : Plan) (before : SealedList) (x : SealedPacket × Packet) : Type 0 where
  pub fits : FitsPacket x.1
  pub prefix : x.1.prefix ≡ prefix_of x.0
  pub unit : x.0.unit ≡ length (units (sub_stream_packets before (sub_stream_of x.0) x.0.draw)) + 1
  pub room : x.0.m ≡ false → length (open_unit (sub_stream_packets before (sub_stream_of x.0) x.0.draw)) + 1 <
      aggregation_of
      plan
      x.0.port.line x.0.stream

-- each packet that was sealed is placed
abbrev pub Placed : Plan → SealedList → Type 0
Placed plan xs = (i : ℕ) (x : SealedPacket × Packet) → slice_get xs i ≡ Some x → IsPlaced plan (take i xs) x

-- it is of the unit after those that were sealed before it
pub unit_is : (plan : Plan) (ys : SealedList) → Placed plan ys → (i : ℕ) (x : SealedPacket × Packet) → slice_get ys i
    ≡ Some x → (s : SubStream) (j : ℕ)
    → sub_stream_of x.0 ≡ s → x.0.draw ≡ j → x.0.unit ≡ length (units (sub_stream_packets (take i ys) s j)) + 1
unit_is plan ys places i x at s j stream draw = rw (← stream, ← draw) (places i x at).unit

placed-snoc : (plan : Plan) (xs : SealedList) (x : SealedPacket × Packet) → Placed plan xs → IsPlaced plan xs x
    → Placed plan (xs ++ x ∷ [])
placed-snoc plan xs x before placed i y is = elim (last_place xs x y i is) [
  | inl p ↦ subst (λ ys. IsPlaced plan ys y) (sym p.1) (before i y p.0)
  | inr p ↦ rw (p.0, p.1) placed
]

-- the packets of a send on a stream with an ID of one byte
module _
    (plan : Plan) (fits : StreamsFit plan) (port : PortName) (stream : ℕ) (live : SubKind → Option KeyName) (from : ℕ)
    (class : SubKind)
    (id : (u : SubKind) (key : KeyName) → live u ≡ Some key → stream < 256) (bytes : List ℕ) (t : Tlp)
    (reads : read_of bytes ≡ Ok t)
    (is_class : class ≡ class_of (header t)) where
  next_placed : (xs : SealedList) (d : SealedPacket) → IsOf plan port stream live from class xs d
      → Bounds plan port stream live from xs → (ahead : List ℕ)
      → IsPlaced plan xs (d, packet_of plan ahead bytes d (open_unit (sub_stream_packets xs (sub_stream_of d) d.draw)))
  next_placed xs d of bounds ahead = record {
    fits = packet_fits plan ahead bytes d _ t reads (λ no_sync. sym is_class ∙ of.class_is no_sync) of.sync (record {
      stream = omega (arith, of.stream_is, id d.sub _ of.live_is);
      posted = grind (arith, of.none, of.posted, bounds.count d.sub);
      none = λ e. of.none (ap is_posted e);
    });
    prefix = prefix_is plan ahead bytes d _;
    unit = rw (lane_is port stream d of.port_is of.stream_is) of.unit;
    room = λ not_m. rw (of.port_is, of.stream_is)
        (grind (arith, nat_tests, bounds.room d.sub _ of.live_is, of.more not_m));
  }

  all_placed : (ahead : SealedPacket → List ℕ) (ds : List SealedPacket) (xs : SealedList)
      → AllOf plan port stream live from class xs ds
      → Bounds plan port stream live from xs → Placed plan xs → Placed plan (with_sealed plan ahead bytes ds xs)
  all_placed ahead [] xs all bounds placed = placed
  all_placed ahead (d ∷ ds) xs all bounds placed =
      let p = packet_of plan (ahead d) bytes d (open_unit (sub_stream_packets xs (sub_stream_of d) d.draw)) in
      let m = ap (λ (f : Prefix). f.m) (prefix_is plan (ahead d) bytes d _) in
      all_placed ahead ds (xs ++ (d, p) ∷ []) (all.1 p)
      (one_bounded plan fits port stream live from class xs d p all.0 m bounds)
      (placed-snoc plan xs (d, p) placed (next_placed xs d all.0 bounds (ahead d)))

pub placed : (plan : Plan) → StreamsFit plan → DrawFacts plan → (h : History) → CauseLaw plan h
    → Placed plan (sealed_packets plan h)
unfolding sealed_packets
placed plan fits facts [] law i x is = absurd cc
placed plan fits facts ((e, Sealed ds) ∷ h) law i x at =
    let is = sealing_is plan h e ds law.0 in
    let s = is.sending in
    let all = all_of_sealing plan facts h law.1 (sending_port plan h e) (sent_bytes plan h e) ds is in
    let bounds = bounded plan fits facts h law.1 s.port s.stream in
    all_placed plan fits s.port s.stream (live_at plan h s.port s.stream) (from_at plan h s.port s.stream) s.class
    (id s.port s.stream) (sent_bytes plan h e) is.tlp
    is.reads is.class (ahead_of_packet plan (sealed_packets plan h) (base h)) ds (sealed_packets plan h) all bounds
    (placed plan fits facts h law.1) i x at
  where
    id : (port : PortName) (stream : ℕ) (u : SubKind) (key : KeyName) → live_at plan h port stream u ≡ Some key
        → stream < 256
    id port stream u key live =
        let keys = port_keys h port (lane_out port stream u) in
        let on = on_live keys.first keys.second key live in
        id_byte plan fits port.line stream (facts.known h law.1 port (lane_out port stream u) key.k key.draw on)
placed plan fits facts ((e, w) ∷ h) law i x is = placed plan fits facts h law.1 i x is

-- ---- in a sub-stream, under a draw

-- what is known of packet m
pub record SentPlace (plan : Plan) (h : History) (s : SubStream) (j m : ℕ) (p : Packet) : Type 0 where
  pub description : SealedPacket
  pub place : ℕ
  pub stands : slice_get (sealed_packets plan h) place ≡ Some (description, p)
  pub before : sub_stream_packets (take place (sealed_packets plan h)) s j ≡ take m (sent_packets plan h s j)
  pub unit : description.unit ≡ length (units (take m (sent_packets plan h s j))) + 1
  pub stream : sub_stream_of description ≡ s
  pub draw : description.draw ≡ j
  pub prefix : p.prefix ≡ prefix_of description
  pub fits : FitsPacket p
  pub room : p.prefix.m ≡ false → length (open_unit (take m (sent_packets plan h s j))) + 1 < aggregation_of plan s.line
      s.stream

pub sent_place : (plan : Plan) → StreamsFit plan → DrawFacts plan → (h : History) → CauseLaw plan h
    → (s : SubStream) (j m : ℕ) (p : Packet) → slice_get (sent_packets plan h s j) m ≡ Some p → SentPlace plan h s j m p
sent_place plan fits facts h cause s j m p is =
    let among = place_among (sealed_packets plan h) s j m p is in
    let d = among.sealed.0 in
    let placed = placed plan fits facts h cause among.place among.sealed among.stands in
    let names = in_parts s j among.sealed among.under in
    let before : sub_stream_packets (take among.place (sealed_packets plan h)) (sub_stream_of d) d.draw
    ≡ take m (sent_packets plan h s j) = rw (names.1, names.2) among.before in
    let prefix = ap (λ (q : Packet). q.prefix) (sym among.packet) ∙ placed.prefix in
    record {
      description = d;
      place = among.place;
      stands = among.stands ∙ ap (λ (q : Packet). Some (d, q)) among.packet;
      before = among.before;
      unit = rw before at placed.unit;
      stream = names.2;
      draw = names.1;
      prefix = prefix;
      fits = subst FitsPacket among.packet placed.fits;
      room = λ more.
          let less = placed.room (sym (ap (λ (q : Prefix). q.m) prefix) ∙ more) in
          subst (λ (t : SubStream). length (open_unit (take m (sent_packets plan h s j)))
          + 1 < aggregation_of plan t.line
          t.stream)
          names.2 (rw before at less);
    }

-- all packets that were sealed have a spelling
pub sent_fits : (plan : Plan) → StreamsFit plan → DrawFacts plan → (h : History) → CauseLaw plan h
    → (s : SubStream) (j : ℕ) → AllByRecursion FitsPacket (sent_packets plan h s j)
sent_fits plan fits facts h cause s j = all_at FitsPacket (sent_packets plan h s j)
    (λ m p is. (sent_place plan fits facts h cause s j m p is).fits)
