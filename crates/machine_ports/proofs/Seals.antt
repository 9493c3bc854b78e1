-- What the packets of one send do to the senders of a stream: they are the packets of the history, and the senders
-- stand for the list with them. It goes by induction on the packets, each of a sub-stream of its own, so that the later
-- ones still fit. In its sub-stream the unit of the Live key goes on; if it ends, a draw that waits, under which
-- nothing was sealed, becomes Live (the hard case). In the others at most the posted count rises.
use Rattle.machine_ports.proofs.Terms.{◌≡◌, ℕ, ◌+◌, ◌==◌, Bool, true, false, List, [], ◌∷◌, ◌++◌, map, Option, Some, Ok}
use Rattle.machine_ports.proofs.Terms.{refl, ap, sym, ◌∙◌, subst, arith, length-append, append_assoc, if◌then◌else◌}
use Rattle.machine_ports.proofs.Terms.{not, ◌&&◌, nat_le, after_ends, append-nil, AreOther, at_sub, body, counted_unit}
use Rattle.machine_ports.proofs.Terms.{each_sub, ended_keys, ended_slots, ends_port_unit, eqb-refl, total_ahead}
use Rattle.machine_ports.proofs.Terms.{gone_on, head_bytes, header, in_lane, is_sealed_from_draw, is_same, is_same_port}
use Rattle.machine_ports.proofs.Terms.{is_same_port-refl, is_same_sub, kept_packet, key_in, key_of, Keys, lane_is}
use Rattle.machine_ports.proofs.Terms.{lane_out, lesser, Live, live_sender, LiveKey, map-append, nat_tests, On}
use Rattle.machine_ports.proofs.Terms.{open_unit, Packet, packet_of, packet_under, Plan, PortName, posted-more}
use Rattle.machine_ports.proofs.Terms.{posted-own, posted-same, posted_since_last, posted_lane, Pr, read_of, same_sub}
use Rattle.machine_ports.proofs.Terms.{sealed_all, sealed_slots, sealed_sub, SealedList, SealedPacket, sealing_key}
use Rattle.machine_ports.proofs.Terms.{sent-same, sub_stream_packets, sub_stream_packets-snoc, LaneSlot, LaneSlots}
use Rattle.machine_ports.proofs.Terms.{sub_bits, sub_stream_of, SubKind, SubStream, Three, Tlp, total-same, total-snoc}
use Rattle.machine_ports.proofs.Terms.{total_in, tx_slots, TxSub, units, waits, with_sealed}
use Rattle.spec_links.proofs.UnitLemmas.{units-end, units-more, open_unit-end, open_unit-more}
use Rattle.machine_ports.proofs.Frames.{each_same, tx_is, tx_slots_same}
use Rattle.machine_ports.proofs.Changes.{kept_all}
use Rattle.machine_ports.proofs.Answers.{at_each}
use Rattle.machine_ports.proofs.Lanes.{sealer, live_sender_is}

-- ---- the senders that stand for a list of sealed packets, with the keys of their places

abbrev pub tx_at : Plan → PortName → ℕ → ℕ → SealedList → (SubKind → Keys) → SubKind → TxSub
tx_at plan port stream from xs keys u = record {
  slots = tx_slots plan xs (lane_out port stream u) (keys u);
  posted = posted_since_last xs (lane_out port stream u) from;
  total = total_in xs (lane_out port stream u) from;
}

-- the packet's sub-stream has its key, and what is known of the keys there
pub record Fits (closed : Bool) (ahead : SealedPacket → List ℕ) (port : PortName) (stream from : ℕ) (xs : SealedList)
    (keys : SubKind → Keys) (d : SealedPacket) : Type 0 where
  pub port_is : d.port ≡ port
  pub stream_is : d.stream ≡ stream
  pub live : lesser (keys d.sub).first (keys d.sub).second ≡ Some (record { k = d.k; draw = d.draw })
  pub counts : nat_le from d.draw ≡ true
  pub apart : (i j : ℕ) → (keys d.sub).first ≡ On i → (keys d.sub).second ≡ On j → (i == j) ≡ false
  pub unused : (k : Bool) (j : ℕ) → key_in (keys d.sub) k ≡ On j → waits k j (key_in (keys d.sub) (not k)) ≡ true
      → sub_stream_packets xs (lane_out port stream d.sub) j ≡ []
  pub unfinished : ahead d ≡ total_ahead closed d.unit (total_in xs (lane_out port stream d.sub) from)

-- ---- the slots

sent_own : (xs : SealedList) (d : SealedPacket) (p : Packet) (s : SubStream) (j : ℕ) → is_same (sub_stream_of d) s
    ≡ true → (d.draw == j) ≡ true → sub_stream_packets (xs ++ (d, p) ∷ []) s j ≡ sub_stream_packets xs s j ++ p ∷ []
sent_own xs d p s j here draw = sub_stream_packets-snoc xs (d, p) s j ∙ rw (here, draw) refl

sent_other : (xs : SealedList) (d : SealedPacket) (p : Packet) (s : SubStream) (j : ℕ) → is_same (sub_stream_of d) s
    ≡ true → (d.draw == j) ≡ false → sub_stream_packets (xs ++ (d, p) ∷ []) s j ≡ sub_stream_packets xs s j
sent_other xs d p s j here draw = sub_stream_packets-snoc xs (d, p) s j ∙ rw (here, draw) refl

key_ended : (plan : Plan) (xs : SealedList) (d : SealedPacket) (p : Packet) (s : SubStream)
    → is_same (sub_stream_of d) s ≡ true → p.prefix.m ≡ true → counted_unit (Live (sealing_key plan xs s d.draw))
    ≡ Live (sealing_key plan (xs ++ (d, p) ∷ []) s d.draw)
key_ended plan xs d p s here m =
    rw (
      sent_own xs d p s d.draw here (eqb-refl d.draw),
      units-end (sub_stream_packets xs s d.draw) p m,
      open_unit-end
          (sub_stream_packets xs s d.draw) p m,
      length-append (units (sub_stream_packets xs s d.draw))
          ((open_unit (sub_stream_packets xs s d.draw) ++ p ∷ []) ∷ []),
    ) refl

key_more : (plan : Plan) (xs : SealedList) (d : SealedPacket) (p : Packet) (s : SubStream) → is_same (sub_stream_of d) s
    ≡ true → p.prefix.m ≡ false → gone_on p (Live (sealing_key plan xs s d.draw))
    ≡ Live (sealing_key plan (xs ++ (d, p) ∷ []) s d.draw)
key_more plan xs d p s here m =
    rw (
      sent_own xs d p s d.draw here (eqb-refl d.draw),
      units-more (sub_stream_packets xs s d.draw) p m,
      open_unit-more
          (sub_stream_packets xs s d.draw) p m,
    ) refl

-- the key of another draw, under which nothing was sealed
key_begins : (plan : Plan) (xs : SealedList) (d : SealedPacket) (p : Packet) (s : SubStream) (j : ℕ)
    → is_same (sub_stream_of d) s ≡ true → (d.draw == j) ≡ false → sub_stream_packets xs s j ≡ []
    → Live (record { draw = j; key = key_of plan j s; units = 0; packets = [] })
    ≡ Live (sealing_key plan (xs ++ (d, p) ∷ []) s j)
unfolding units open_unit
key_begins plan xs d p s j here other none = rw (sent_other xs d p s j here other, none) refl

abbrev record_slots : LaneSlot → LaneSlot → LaneSlots
record_slots x y = record { first = x; second = y }

-- the draw that waits beside the Live one
other_waits : (ks : Keys) (k : Bool) (n j : ℕ) → lesser ks.first ks.second ≡ Some (record { k = k; draw = n })
    → key_in ks (not k) ≡ On j → waits (not k) j (key_in ks (not (not k))) ≡ true
other_waits ks k n j live on = grind (arith, nat_tests)

other_apart : (ks : Keys) (k : Bool) (n j : ℕ) → lesser ks.first ks.second ≡ Some (record { k = k; draw = n })
    → key_in ks (not k) ≡ On j → ((i j : ℕ) → ks.first ≡ On i → ks.second ≡ On j → (i == j) ≡ false) → (n == j) ≡ false
other_apart ks k n j live on apart = grind (arith, nat_tests, apart)

-- its unit ends
slots_ended : (plan : Plan) (xs ys : SealedList) (s : SubStream) (k : Bool) (n : ℕ) (ks : Keys)
    → lesser ks.first ks.second ≡ Some (record { k = k; draw = n })
    → counted_unit (Live (sealing_key plan xs s n)) ≡ Live (sealing_key plan ys s n)
    → ((j : ℕ) → key_in ks (not k) ≡ On j → Live (record { draw = j; key = key_of plan j s; units = 0; packets = [] })
    ≡ Live (sealing_key plan ys s j))
    → ended_slots (tx_slots plan xs s ks) ≡ tx_slots plan ys s (ended_keys ks.first ks.second)
slots_ended plan xs ys s k n ks live counts begins = grind (arith, nat_tests, begins)

-- its unit goes on
slots_more : (plan : Plan) (xs ys : SealedList) (s : SubStream) (k : Bool) (n : ℕ) (ks : Keys) (p : Packet)
    → lesser ks.first ks.second ≡ Some (record { k = k; draw = n })
    → gone_on p (Live (sealing_key plan xs s n)) ≡ Live (sealing_key plan ys s n)
    → let slots = tx_slots plan xs s ks in record_slots (gone_on p slots.first) (gone_on p slots.second)
    ≡ tx_slots plan ys s ks
slots_more plan xs ys s k n ks p live more = grind (arith, nat_tests)

-- ---- one packet

abbrev pub after_one : PortName → ℕ → SealedPacket → (SubKind → Keys) → SubKind → Keys
after_one port stream d keys u = if ends_port_unit port (lane_out port stream u) d then ended_keys (keys u).first
    (keys u).second else keys u

if_true : {A : Type 0} (b : Bool) (x y : A) → b ≡ true → (if b then x else y) ≡ x
if_true b x y is = rw is refl

if_false : {A : Type 0} (b : Bool) (x y : A) → b ≡ false → (if b then x else y) ≡ y
if_false b x y is = rw is refl

prefix_is : (plan : Plan) (unfinished : List ℕ) (bytes : List ℕ) (d : SealedPacket) (unit : List Packet)
    → (packet_of plan unfinished bytes d unit).prefix.m ≡ d.m
unfolding packet_of
prefix_is plan unfinished bytes d unit = refl

pub record IsSealed (plan : Plan) (ahead : SealedPacket → List ℕ) (port : PortName) (stream from : ℕ) (bytes : List ℕ)
    (xs : SealedList) (keys : SubKind → Keys) (ds : List SealedPacket) (r : List Packet × Three TxSub) : Type 0 where
  pub packets : kept_all xs ++ map (kept_packet port) r.0 ≡ kept_all (with_sealed plan ahead bytes ds xs)
  pub senders : r.1 ≡ each_sub
      (tx_at plan port stream from (with_sealed plan ahead bytes ds xs)
      (λ u. after_ends port (lane_out port stream u) ds (keys u)))

-- all fit, each in a sub-stream of its own
abbrev pub AllFit : Bool → (SealedPacket → List ℕ) → PortName → ℕ → ℕ → SealedList → (SubKind → Keys)
    → List SealedPacket → Type 0
AllFit closed ahead port stream from xs keys [] = Unit {0}
AllFit closed ahead port stream from xs keys (d ∷ ds) = Fits closed ahead port stream from xs keys d × AreOther d.sub ds
    × AllFit closed ahead port stream from xs keys ds

-- ---- the packets of one send, by where its stream's senders stand

module _ (plan : Plan) (closed : Bool) (ahead : SealedPacket → List ℕ) (port : PortName) (stream from : ℕ) where
  sealed_slots_is : (xs : SealedList) (keys : SubKind → Keys) (d : SealedPacket) (p : Packet)
      → Fits closed ahead port stream from xs keys d
      → let s = lane_out port stream d.sub in let ks = keys d.sub in is_same (sub_stream_of d) s ≡ true → (b : Bool)
      → p.prefix.m ≡ b
      → sealed_slots b p (tx_slots plan xs s ks) ≡ tx_slots plan (xs ++ (d, p) ∷ []) s
      (if b then ended_keys ks.first ks.second else ks)
  sealed_slots_is xs keys d p fits here true m =
      let s = lane_out port stream d.sub in
      slots_ended plan xs (xs ++ (d, p) ∷ []) s d.k d.draw (keys d.sub) fits.live (key_ended plan xs d p s here m)
      (λ j on. key_begins plan xs d p s j here (other_apart (keys d.sub) d.k d.draw j fits.live on fits.apart)
      (fits.unused (not d.k) j on (other_waits (keys d.sub) d.k d.draw j fits.live on)))
  sealed_slots_is xs keys d p fits here false m =
      let s = lane_out port stream d.sub in
      slots_more plan xs (xs ++ (d, p) ∷ []) s d.k d.draw (keys d.sub) p fits.live (key_more plan xs d p s here m)

  one_sub : (xs : SealedList) (keys : SubKind → Keys) (d : SealedPacket) (p : Packet)
      → Fits closed ahead port stream from xs keys d → p.prefix.m ≡ d.m → (u : SubKind)
      → sealed_sub d p u (tx_at plan port stream from xs keys u)
      ≡ tx_at plan port stream from (xs ++ (d, p) ∷ []) (after_one port stream d keys) u
  one_sub xs keys d p fits m u = by_test (is_same_sub d.sub u) refl
    where
      ys : SealedList
      ys = xs ++ (d, p) ∷ []

      old : SubKind → TxSub
      old = tx_at plan port stream from xs keys

      new : SubKind → TxSub
      new = tx_at plan port stream from ys (after_one port stream d keys)

      Sealed : SubKind → Type 0
      Sealed x = sealed_sub d p x (old x) ≡ new x

      in_place : (x : SubKind) → is_same (sub_stream_of d) (lane_out port stream x) ≡ is_same_sub d.sub x
      in_place x = in_lane port stream d x fits.port_is fits.stream_is

      own : Sealed d.sub
      own =
          let s = lane_out port stream d.sub in
          let here : is_same (sub_stream_of d) s ≡ true = in_place d.sub ∙ eqb-refl (sub_bits d.sub) in
          let ends : ends_port_unit port s d ≡ d.m = ap
          (λ (q : PortName). is_same_port q port && is_same (sub_stream_of d) s && d.m) fits.port_is
          ∙ rw (is_same_port-refl port, here) refl in
          let inside : is_sealed_from_draw s from (d, p) ≡ true = rw (here, fits.counts) refl in
          if_true _ _ _ (eqb-refl (sub_bits d.sub)) ∙ tx_is _ _
          (sealed_slots_is xs keys d p fits here d.m m
          ∙ ap (λ (b : Bool). tx_slots plan ys s
          (if b then ended_keys (keys d.sub).first (keys d.sub).second else keys d.sub)) (sym ends))
          (sym (posted-own xs (d, p) s from inside))
          (sym (total-snoc xs (d, p) s from ∙ ap
          (λ (b : Bool). if b then total_in xs s from + 1 else total_in xs s from)
          (ap (λ (b : Bool). b && p.prefix.m) inside ∙ m)))

      other : is_same_sub d.sub u ≡ false → (b : Bool) → is_same_sub d.sub Pr ≡ b
          → (if b then record (old u) { posted = posted_since_last xs (lane_out port stream u) from + 1 } else old u)
          ≡ new u
      other off b posted =
          let s = lane_out port stream u in
          let out : is_same (sub_stream_of d) s ≡ false = in_place u ∙ off in
          let none : ends_port_unit port s d ≡ false = grind (arith, out) in
          let slots : tx_slots plan xs s (keys u) ≡ tx_slots plan ys s (after_one port stream d keys u) =
          rw none (sym (tx_slots_same plan ys xs s (keys u) (λ j. sent-same xs (d, p) s j out))) in
          by_posted b posted slots (rw out refl) (sym (total-same xs (d, p) s from out))
        where
          by_posted : (b : Bool) → is_same_sub d.sub Pr ≡ b → let s = lane_out port stream u in
              tx_slots plan xs s (keys u) ≡ tx_slots plan ys s (after_one port stream d keys u)
              → is_sealed_from_draw s from (d, p) ≡ false → total_in xs s from ≡ total_in ys s from
              → (if b then record (old u) { posted = posted_since_last xs s from + 1 } else old u) ≡ new u
          by_posted true is slots out total =
              let counted_unit : is_sealed_from_draw (posted_lane (lane_out port stream u)) from (d, p)
              ≡ true = rw (in_place Pr, is, fits.counts) refl in
              tx_is _ _ slots (sym (posted-more xs (d, p) (lane_out port stream u) from out ∙ rw counted_unit refl))
              total
          by_posted false is slots out total =
              let none : is_sealed_from_draw (posted_lane (lane_out port stream u)) from (d, p) ≡ false =
              rw (in_place Pr, is) refl in
              tx_is _ _ slots (sym (posted-same xs (d, p) (lane_out port stream u) from out none)) total

      by_test : (b : Bool) → is_same_sub d.sub u ≡ b → Sealed u
      by_test true same = subst Sealed (same_sub d.sub u same) own
      by_test false off = if_false _ _ _ off ∙ other off (is_same_sub d.sub Pr) refl

  -- the packet that the machine makes is the one that was sealed
  next_packet : (xs : SealedList) (keys : SubKind → Keys) (d : SealedPacket) (bytes : List ℕ) (t : Tlp)
      → Fits closed ahead port stream from xs keys d
      → read_of bytes ≡ Ok t → let tx = tx_at plan port stream from xs keys d.sub in
      packet_under (total_ahead closed d.unit tx.total) (live_sender tx.slots) d (head_bytes (header t)) (body t)
      ≡ packet_of plan (ahead d) bytes d (open_unit (sub_stream_packets xs (sub_stream_of d) d.draw))
  unfolding packet_of
  next_packet xs keys d bytes t fits reads =
      let tx = tx_at plan port stream from xs keys d.sub in
      ap (λ (f : List ℕ). packet_under f (live_sender tx.slots) d (head_bytes (header t)) (body t))
      (sym fits.unfinished)
      ∙ (ap (λ (o : Option (Bool × LiveKey)). packet_under (ahead d) o d (head_bytes (header t)) (body t))
      (live_sender_is plan xs (lane_out port stream d.sub) (keys d.sub) ∙ ap
      (sealer plan xs (lane_out port stream d.sub)) fits.live)
      ∙ (ap (λ (r : SubStream). packet_under (ahead d) (Some (d.k, sealing_key plan xs r d.draw)) d
      (head_bytes (header t)) (body t))
      (sym (lane_is port stream d fits.port_is fits.stream_is)) ∙ rw reads refl))

  -- what fits still fits after a packet of another sub-stream
  fits_still : (xs : SealedList) (keys : SubKind → Keys) (d x : SealedPacket) (p : Packet)
      → Fits closed ahead port stream from xs keys d
      → Fits closed ahead port stream from xs keys x → is_same_sub d.sub x.sub ≡ false
      → Fits closed ahead port stream from (xs ++ (d, p) ∷ []) (after_one port stream d keys) x
  fits_still xs keys d x p one fits other =
      let s = lane_out port stream x.sub in
      let off : is_same (sub_stream_of d) s ≡ false = in_lane port stream d x.sub one.port_is one.stream_is ∙ other in
      let none : ends_port_unit port s d ≡ false = grind (arith, off) in
      let stays : after_one port stream d keys x.sub ≡ keys x.sub = rw none refl in
      record {
        port_is = fits.port_is;
        stream_is = fits.stream_is;
        live = ap (λ (k : Keys). lesser k.first k.second) stays ∙ fits.live;
        counts = fits.counts;
        apart = rw (← stays) at fits.apart;
        unused = λ k j on waiting. sent-same xs (d, p) s j off
            ∙ fits.unused k j (ap (λ (y : Keys). key_in y k) (sym stays) ∙ on)
            (ap (λ (y : Keys). waits k j (key_in y (not k))) (sym stays) ∙ waiting);
        unfinished = fits.unfinished ∙ ap (total_ahead closed x.unit) (sym (total-same xs (d, p) s from off));
      }

  all_fit_still : (xs : SealedList) (keys : SubKind → Keys) (d : SealedPacket) (p : Packet) (ds : List SealedPacket)
      → Fits closed ahead port stream from xs keys d
      → AreOther d.sub ds → AllFit closed ahead port stream from xs keys ds
      → AllFit closed ahead port stream from (xs ++ (d, p) ∷ []) (after_one port stream d keys) ds
  all_fit_still xs keys d p [] one others all = tt
  all_fit_still xs keys d p (x ∷ ds) one others all =
      (fits_still xs keys d x p one all.0 others.0, all.1, all_fit_still xs keys d p ds one others.1 all.2)

  pub all_sealed : (bytes : List ℕ) (t : Tlp) → read_of bytes ≡ Ok t
      → (ds : List SealedPacket) (xs : SealedList) (keys : SubKind → Keys)
      → AllFit closed ahead port stream from xs keys ds
      → IsSealed plan ahead port stream from bytes xs keys ds
      (sealed_all closed (head_bytes (header t)) (body t) ds (each_sub (tx_at plan port stream from xs keys)))
  all_sealed bytes t reads [] xs keys all = record { packets = append-nil (kept_all xs); senders = refl }
  all_sealed bytes t reads (d ∷ ds) xs keys all =
      let old : SubKind → TxSub = tx_at plan port stream from xs keys in
      let unit = open_unit (sub_stream_packets xs (sub_stream_of d) d.draw) in
      let p = packet_of plan (ahead d) bytes d unit in
      let ys = xs ++ (d, p) ∷ [] in
      let made = packet_under (total_ahead closed d.unit (at_sub (each_sub old) d.sub).total)
      (live_sender (at_sub (each_sub old) d.sub).slots) d
      (head_bytes (header t)) (body t) in
      let same : made ≡ p =
      ap (λ (x : TxSub). packet_under (total_ahead closed d.unit x.total) (live_sender x.slots) d
      (head_bytes (header t))
      (body t)) (at_each old d.sub)
      ∙ next_packet xs keys d bytes t all.0 reads in
      let new : each_sub (λ u. sealed_sub d made u (at_sub (each_sub old) u))
      ≡ each_sub (tx_at plan port stream from ys (after_one port stream d keys)) =
      each_same _ _ (λ u. (λ i. sealed_sub d (same i) u (at_each old u i)) ∙ one_sub xs keys d p all.0
      (prefix_is plan (ahead d) bytes d unit) u) in
      let rest = all_sealed bytes t reads ds ys (after_one port stream d keys)
      (all_fit_still xs keys d p ds all.0 all.1 all.2) in
      let more = subst (λ (y : Three TxSub). IsSealed plan ahead port stream from bytes ys
      (after_one port stream d keys) ds
      (sealed_all closed (head_bytes (header t)) (body t) ds y)) (sym new) rest in
      let others = map (kept_packet port) (sealed_all closed (head_bytes (header t)) (body t) ds
      (each_sub (λ u. sealed_sub d made u (at_sub (each_sub old) u)))).0 in
      record {
        packets =
            (λ i. kept_all xs ++ (kept_packet (sym all.0.port_is i) (same i) ∷ others))
            ∙ (sym (append_assoc (kept_all xs) (kept_packet d.port p ∷ []) others)
            ∙ (ap (λ ks. ks ++ others)
            (sym (map-append (λ (x : SealedPacket × Packet). kept_packet x.0.port x.1) xs ((d, p) ∷ []))) ∙
            more.packets));
        senders = more.senders;
      }
