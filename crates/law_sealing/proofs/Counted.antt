-- Each packet that is not posted carries the number of posted packets after the last one of its sub-stream.
use Rattle.law_sealing.proofs.Terms.{◌≡◌, ◌≢◌, ℕ, ◌≤◌, true, List, [], ◌∷◌, ◌++◌, Option, Some, slice_get, take, ap}
use Rattle.law_sealing.proofs.Terms.{sym, ◌∙◌, inl, inr, AllByRecursion, ne_eqb, sub_bits, SubKind, PortName, Event}
use Rattle.law_sealing.proofs.Terms.{Verdict, Sealed, SealedPacket, Prefix, Packet, Plan, SubStream, is_same, lane_out}
use Rattle.law_sealing.proofs.Terms.{open_unit, History, base, ahead_of_packet, SealedList, KeyName, sealed_packets}
use Rattle.law_sealing.proofs.Terms.{sub_stream_packets, with_sealed, packet_of, sub_stream_of, posted_since_last}
use Rattle.law_sealing.proofs.Terms.{CauseLaw, DrawFacts, BaseStays, same_stream, sealing_is, sent_bytes, sending_port}
use Rattle.law_sealing.proofs.Sealings.{AllOf, live_at, from_at, all_of_sealing}
use Rattle.law_sealing.proofs.Places.{last_place}
use Rattle.law_sealing.proofs.Bounds.{prefix_is}

-- each packet of the sub-stream, of a draw from this one on, carries their number
abbrev pub IsCounted : ℕ → SubStream → SealedList → Type 0
IsCounted from s xs = (i : ℕ) (x : SealedPacket × Packet) → slice_get xs i ≡ Some x → is_same (sub_stream_of x.0) s
    ≡ true → from ≤ x.0.draw → x.1.prefix.posted ≡ posted_since_last (take i xs) s from

counted-snoc : (from : ℕ) (s : SubStream) (xs : SealedList) (x : SealedPacket × Packet) → IsCounted from s xs
    → (is_same (sub_stream_of x.0) s ≡ true → from ≤ x.0.draw → x.1.prefix.posted ≡ posted_since_last xs s from)
    → IsCounted from s (xs ++ x ∷ [])
counted-snoc from s xs x before here i y is in_y up = elim (last_place xs x y i is) [
  | inl p ↦ rw p.1 (before i y p.0 in_y up)
  | inr p ↦ rw (p.0, p.1) (here (rw p.0 at in_y) (rw p.0 at up))
]

-- Base is this if a packet of the list is of the sub-stream and of a draw from it on
abbrev Stays : Plan → History → ℕ → SubStream → List SealedPacket → Type 0
Stays plan h from s ds = AllByRecursion
    (λ (d : SealedPacket). is_same (sub_stream_of d) s ≡ true → from ≤ d.draw → base h s.line s.stream ≡ from) ds

-- the packets of one send
all_counted : (plan : Plan) (h : History) (port : PortName) (stream : ℕ) (live : SubKind → Option KeyName)
    (class : SubKind) (ahead : SealedPacket → List ℕ) (bytes : List ℕ) (from : ℕ) (s : SubStream) → sub_bits s.sub ≢ 0
    → (ds : List SealedPacket) (xs : SealedList) → AllOf plan port stream live (from_at plan h port stream) class xs ds
    → Stays plan h from s ds → IsCounted from s xs → IsCounted from s (with_sealed plan ahead bytes ds xs)
all_counted plan h port stream live class ahead bytes from s other [] xs all stays counted = counted
all_counted plan h port stream live class ahead bytes from s other (d ∷ ds) xs all stays counted =
    let unfinished = open_unit (sub_stream_packets xs (sub_stream_of d) d.draw) in
    let p = packet_of plan (ahead d) bytes d unfinished in
    let posted : p.prefix.posted ≡ d.posted = ap (λ (f : Prefix). f.posted)
    (prefix_is plan (ahead d) bytes d unfinished) in
    all_counted plan h port stream live class ahead bytes from s other ds (xs ++ (d, p) ∷ []) (all.1 p) stays.1
    (counted-snoc from s xs (d, p) counted (λ here up. posted ∙ says here (stays.0 here up)))
  where
    says : is_same (sub_stream_of d) s ≡ true → base h s.line s.stream ≡ from → d.posted ≡ posted_since_last xs s from
    says here is =
        let of = all.0 in
        let lane : lane_out port stream d.sub ≡ s = sym (λ i. lane_out (of.port_is i) (of.stream_is i) d.sub) ∙
        same_stream (sub_stream_of d) s here in
        let sub : d.sub ≡ s.sub = ap (λ (t : SubStream). t.sub) lane in
        let from_is : from_at plan h port stream ≡ from = ap (λ (t : SubStream). base h t.line t.stream) lane ∙ is in
        of.posted (ne_eqb (sub_bits d.sub) 0 (λ zero_is. other (sym (ap sub_bits sub) ∙ zero_is))) ∙
        (λ i. posted_since_last xs (lane i) (from_is i))

later_stays : (plan : Plan) (s : SubStream) (from : ℕ) (e : Event) (w : Verdict) (h : History)
    → BaseStays plan s from ((e, w) ∷ h) → BaseStays plan s from h
later_stays plan s from e (Sealed ds) h stays = stays.1
later_stays plan s from e _ h stays = stays

pub counted : (plan : Plan) → DrawFacts plan → (h : History) → CauseLaw plan h → (s : SubStream) (from : ℕ)
    → sub_bits s.sub ≢ 0 → BaseStays plan s from h → IsCounted from s (sealed_packets plan h)
unfolding sealed_packets
counted plan facts [] cause s from other stays = λ i x is. absurd cc
counted plan facts ((e, Sealed ds) ∷ h) cause s from other stays =
    let is = sealing_is plan h e ds cause.0 in
    let t = is.sending in
    all_counted plan h t.port t.stream (live_at plan h t.port t.stream) t.class
    (ahead_of_packet plan (sealed_packets plan h) (base h)) (sent_bytes plan h e) from s other ds
    (sealed_packets plan h)
    (all_of_sealing plan facts h cause.1 (sending_port plan h e) (sent_bytes plan h e) ds is) stays.0
    (counted plan facts h cause.1 s from other stays.1)
counted plan facts ((e, w) ∷ h) cause s from other stays = counted plan facts h cause.1 s from other
    (later_stays plan s from e w h stays)
