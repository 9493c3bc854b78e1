-- The unit of each packet is at most the last that its key may seal. A unit begins only if the key is not worn, so one
-- that is open began when fewer were finished; by induction on the history, and in a send packet by packet.
use Rattle.law_sealing.proofs.Terms.{◌≡◌, ℕ, ◌<◌, ◌≤◌, ◌==◌, Bool, true, false, List, [], ◌∷◌, ◌++◌, length, Option}
use Rattle.law_sealing.proofs.Terms.{Some, inl, inr, ◌⊎◌, refl, sym, ◌∙◌, subst, arith, nat_tests, slice_get}
use Rattle.law_sealing.proofs.Terms.{length-append, if◌then◌else◌, SubKind, PortName, Sealed, SealedPacket, Packet}
use Rattle.law_sealing.proofs.Terms.{Plan, SubStream, lane_out, units, open_unit, History, base, ahead_of_packet}
use Rattle.law_sealing.proofs.Terms.{SealedList, KeyName, sealed_packets, with_sealed, sub_stream_packets}
use Rattle.law_sealing.proofs.Terms.{is_sealed_under, sub_stream_of, packet_of, CauseLaw, DrawFacts, lane_is}
use Rattle.law_sealing.proofs.Terms.{sealing_is, sending_port, sent_bytes, sub_stream_packets-snoc, units-end}
use Rattle.law_sealing.proofs.Terms.{units-more, open_unit-end}
use Rattle.law_sealing.proofs.Sums.{in_parts}
use Rattle.law_sealing.proofs.Sealings.{IsOf, AllOf, live_at, from_at, all_of_sealing}
use Rattle.law_sealing.proofs.Places.{last_place}

-- the next packet's unit is one that the key may seal, if it is not worn
record Lasts (limit : ℕ) (ps : List Packet) : Type 0 where
  finished : length (units ps) ≤ limit
  opened : (length (open_unit ps) ≡ 0) ⊎ (length (units ps) < limit)

-- if the key is not worn there is one unit more
room : (limit : ℕ) (ps : List Packet) → Lasts limit ps
    → (length (open_unit ps) ≡ 0 → (length (units ps) == limit) ≡ false) → length (units ps) < limit
room limit ps lasts unworn = elim lasts.opened [
  | inl empty ↦ let other = unworn empty in grind (arith, nat_tests, lasts.finished)
  | inr less ↦ less
]

next_lasts : (limit : ℕ) (ps : List Packet) (p : Packet) → length (units ps) < limit → Lasts limit (ps ++ p ∷ [])
next_lasts limit ps p less = by_end p.prefix.m refl
  where
    by_end : (b : Bool) → p.prefix.m ≡ b → Lasts limit (ps ++ p ∷ [])
    by_end true m =
        let grown = length-append (units ps) ((open_unit ps ++ p ∷ []) ∷ []) in
        record {
          finished = rw (units-end ps p m) (omega (arith, grown, less));
          opened = inl (rw (open_unit-end ps p m) refl);
        }
    by_end false m = record {
      finished = rw (units-more ps p m) (omega (arith, less));
      opened = inr (rw (units-more ps p m) less);
    }

-- of each sub-stream and draw, and each packet's number is of a unit that its key may seal
pub record Unworn (limit : ℕ) (xs : SealedList) : Type 0 where
  lasts : (s : SubStream) (j : ℕ) → Lasts limit (sub_stream_packets xs s j)
  pub numbers : (i : ℕ) (x : SealedPacket × Packet) → slice_get xs i ≡ Some x → x.0.unit ≤ limit

module _ (plan : Plan) (port : PortName) (stream : ℕ) (live : SubKind → Option KeyName) (from : ℕ) (class : SubKind)
  where
    one_lasts : (xs : SealedList) (d : SealedPacket) (p : Packet) → IsOf plan port stream live from class xs d
        → Unworn plan.units_per_key xs → Unworn plan.units_per_key (xs ++ (d, p) ∷ [])
    one_lasts xs d p of before = record {
      lasts = λ s j. subst (Lasts plan.units_per_key) (sym (sub_stream_packets-snoc xs (d, p) s j))
          (by_test s j (is_sealed_under s j (d, p)) refl);
      numbers = λ i x at. elim (last_place xs (d, p) x i at) [
        | inl old ↦ before.numbers i x old.0
        | inr new ↦ rw new.0 (omega (arith, of.unit, less))
      ];
    }
      where
        here : List Packet
        here = sub_stream_packets xs (lane_out port stream d.sub) d.draw

        less : length (units here) < plan.units_per_key
        less = room plan.units_per_key here (before.lasts (lane_out port stream d.sub) d.draw) of.unworn

        by_test : (s : SubStream) (j : ℕ) (b : Bool) → is_sealed_under s j (d, p) ≡ b
            → Lasts plan.units_per_key (if b then sub_stream_packets xs s j ++ p ∷ [] else sub_stream_packets xs s j)
        by_test s j false other = before.lasts s j
        by_test s j true under =
            let names = in_parts s j (d, p) under in
            let lane = sym (lane_is port stream d of.port_is of.stream_is) ∙ names.2 in
            let same : here ≡ sub_stream_packets xs s j = λ i. sub_stream_packets xs (lane i) (names.1 i) in
            next_lasts plan.units_per_key (sub_stream_packets xs s j) p
            (subst (λ (ps : List Packet). length (units ps) < plan.units_per_key) same less)

    all_last : (ahead : SealedPacket → List ℕ) (bytes : List ℕ) (ds : List SealedPacket) (xs : SealedList)
        → AllOf plan port stream live from class xs ds → Unworn plan.units_per_key xs
        → Unworn plan.units_per_key (with_sealed plan ahead bytes ds xs)
    all_last ahead bytes [] xs all before = before
    all_last ahead bytes (d ∷ ds) xs all before =
        let p = packet_of plan (ahead d) bytes d (open_unit (sub_stream_packets xs (sub_stream_of d) d.draw)) in
        all_last ahead bytes ds (xs ++ (d, p) ∷ []) (all.1 p) (one_lasts xs d p all.0 before)

pub unworn : (plan : Plan) → DrawFacts plan → (h : History) → CauseLaw plan h
    → Unworn plan.units_per_key (sealed_packets plan h)
unfolding sealed_packets sub_stream_packets units open_unit
unworn plan facts [] law = record {
  lasts = λ s j. record { finished = omega arith; opened = inl refl };
  numbers = λ i x at. absurd cc;
}
unworn plan facts ((e, Sealed ds) ∷ h) law =
    let is = sealing_is plan h e ds law.0 in
    let s = is.sending in
    all_last plan s.port s.stream (live_at plan h s.port s.stream) (from_at plan h s.port s.stream) s.class
    (ahead_of_packet plan (sealed_packets plan h) (base h)) (sent_bytes plan h e) ds (sealed_packets plan h)
    (all_of_sealing plan facts h law.1 (sending_port plan h e) (sent_bytes plan h e) ds is) (unworn plan facts h law.1)
unworn plan facts ((e, w) ∷ h) law = unworn plan facts h law.1
