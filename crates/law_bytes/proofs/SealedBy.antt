-- Each packet that was sealed, with the pair that sealed it and the bytes that it was sealed for.
use Rattle.law_sealing.proofs.Terms.{◌≡◌, ℕ, ◌≤◌, ◌<◌, ◌⊎◌, inl, inr, zero, suc, List, [], ◌∷◌, ◌++◌, length}
use Rattle.law_sealing.proofs.Terms.{length-append, slice_get, take, Some, refl, ap, sym, subst, ◌∙◌, arith, Plan}
use Rattle.law_sealing.proofs.Terms.{History, Event, Verdict, Sealed, SealedPacket, Packet, SealedList, with_sealed}
use Rattle.law_sealing.proofs.Terms.{ahead_of_packet, open_unit, sub_stream_packets, sub_stream_of, base, sent_bytes}
unfoldable use Rattle.law_sealing.proofs.Terms.{sealed_packets, packet_of}
use Rattle.law_sealing.proofs.Places.{last_place}
use Rattle.law_verdicts.specs.{CameFrom}
use Rattle.law_verdicts.proofs.{get_less}

-- a packet of these bytes, after those before it
pub record IsSealedFor (plan : Plan) (before : SealedList) (bytes : List ℕ) (x : SealedPacket × Packet) : Type 0 where
  pub ahead : List ℕ
  pub packet : x.1 ≡ packet_of plan ahead bytes x.0 (open_unit (sub_stream_packets before (sub_stream_of x.0) x.0.draw))

-- it is one of these
pub record IsAmong (ds : List SealedPacket) (d : SealedPacket) : Type 0 where
  pub index : ℕ
  pub listed : slice_get ds index ≡ Some d

with_each : (plan : Plan) (ahead : SealedPacket → List ℕ) (bytes : List ℕ) (ds : List SealedPacket) (xs : SealedList)
    (k : ℕ) (x : SealedPacket × Packet) → slice_get (with_sealed plan ahead bytes ds xs) k ≡ Some x
    → ((slice_get xs k ≡ Some x) × (take k (with_sealed plan ahead bytes ds xs) ≡ take k xs))
    ⊎ (IsAmong ds x.0 × IsSealedFor plan (take k (with_sealed plan ahead bytes ds xs)) bytes x × (length xs ≤ k))
with_each plan ahead bytes [] xs k x is = inl (is, refl)
with_each plan ahead bytes (d ∷ ds) xs k x is =
    let unfinished = open_unit (sub_stream_packets xs (sub_stream_of d) d.draw) in
    let p = packet_of plan (ahead d) bytes d unfinished in
    let all = with_sealed plan ahead bytes ds (xs ++ (d, p) ∷ []) in
    elim (with_each plan ahead bytes ds (xs ++ (d, p) ∷ []) k x is) [
      | inl before ↦ elim (last_place xs (d, p) x k before.0) [
        | inl older ↦ inl (older.0, before.1 ∙ older.1)
        | inr here ↦
            let front : take k all ≡ xs = before.1 ∙ here.1 in
            inr (
              subst (λ (y : SealedPacket × Packet). IsAmong (d ∷ ds) y.0) (sym here.0)
                  (record { index = 0; listed = refl }),
              subst (λ (y : SealedPacket × Packet). IsSealedFor plan (take k all) bytes y) (sym here.0)
                  (subst (λ (ys : SealedList). IsSealedFor plan ys bytes (d, p)) (sym front)
                  (record { ahead = ahead d; packet = refl })),
              behind xs (d, p) k x before.0 (here.1),
            )
      ]
      | inr new ↦ inr (
        record { index = suc new.0.index; listed = new.0.listed },
        new.1,
        (let le = new.2 in omega (arith, le, length-append xs ((d, p) ∷ []))),
      )
    ]
  where
    behind : (xs : SealedList) (y : SealedPacket × Packet) (k : ℕ) (x : SealedPacket × Packet)
        → slice_get (xs ++ y ∷ []) k ≡ Some x → take k (xs ++ y ∷ []) ≡ xs → length xs ≤ k
    behind [] y k x at is = omega arith
    behind (z ∷ xs) y zero x at is = absurd cc
    behind (z ∷ xs) y (suc k) x at is = let le = behind xs y k x at (cc (is)) in omega (arith, le)

-- the pair that sealed it
pub record SealedBy (plan : Plan) (h : History) (k : ℕ) (x : SealedPacket × Packet) : Type 0 where
  pub event : Event
  pub ds : List SealedPacket
  pub older : History
  pub came : CameFrom ((event, Sealed ds) ∷ older) h
  pub from : length (sealed_packets plan older) ≤ k
  pub until : k < length (sealed_packets plan ((event, Sealed ds) ∷ older))
  pub among : IsAmong ds x.0
  pub for : IsSealedFor plan (take k (sealed_packets plan h)) (sent_bytes plan older event) x

sealed_later : (plan : Plan) (h : History) (pair : Event × Verdict) (k : ℕ) (x : SealedPacket × Packet)
    → take k (sealed_packets plan (pair ∷ h)) ≡ take k (sealed_packets plan h) → SealedBy plan h k x
    → SealedBy plan (pair ∷ h) k x
sealed_later plan h pair k x front at = record {
  event = at.event;
  ds = at.ds;
  older = at.older;
  came = record { since = pair ∷ at.came.since; is = ap (λ (g : History). pair ∷ g) at.came.is };
  from = at.from;
  until = at.until;
  among = at.among;
  for = subst (λ (ys : SealedList). IsSealedFor plan ys (sent_bytes plan at.older at.event) x) (sym front) at.for;
}

pub sealed_by : (plan : Plan) (h : History) (k : ℕ) (x : SealedPacket × Packet)
    → slice_get (sealed_packets plan h) k ≡ Some x → SealedBy plan h k x
unfolding sealed_packets
sealed_by plan [] k x is = absurd cc
sealed_by plan ((e, Sealed ds) ∷ h) k x is =
    elim (with_each plan (ahead_of_packet plan (sealed_packets plan h) (base h)) (sent_bytes plan h e) ds
    (sealed_packets plan h) k x is) [
      | inl older ↦ sealed_later plan h (e, Sealed ds) k x older.1 (sealed_by plan h k x older.0)
      | inr new ↦ record {
        event = e;
        ds = ds;
        older = h;
        came = record { since = []; is = refl };
        from = new.2;
        until = get_less (sealed_packets plan ((e, Sealed ds) ∷ h)) k x is;
        among = new.0;
        for = new.1;
      }
    ]
sealed_by plan (pair ∷ h) k x is = sealed_later plan h pair k x refl (sealed_by plan h k x is)

-- one that is not older is one of the pair's
pub among_these : (plan : Plan) (h : History) (e : Event) (ds : List SealedPacket) (k : ℕ) (x : SealedPacket × Packet)
    → slice_get (sealed_packets plan ((e, Sealed ds) ∷ h)) k ≡ Some x → length (sealed_packets plan h) ≤ k
    → IsAmong ds x.0
unfolding sealed_packets
among_these plan h e ds k x is from =
    elim (with_each plan (ahead_of_packet plan (sealed_packets plan h) (base h)) (sent_bytes plan h e) ds
    (sealed_packets plan h) k x is) [
      | inl older ↦ let less = get_less (sealed_packets plan h) k x older.0 in absurd (omega (arith, less, from))
      | inr new ↦ new.0
    ]

-- ---- what was sealed is among all that are sealed later

with_longer : (plan : Plan) (ahead : SealedPacket → List ℕ) (bytes : List ℕ) (ds : List SealedPacket) (xs : SealedList)
    → length xs ≤ length (with_sealed plan ahead bytes ds xs)
with_longer plan ahead bytes [] xs = omega arith
with_longer plan ahead bytes (d ∷ ds) xs =
    let p = packet_of plan (ahead d) bytes d (open_unit (sub_stream_packets xs (sub_stream_of d) d.draw)) in
    let more = with_longer plan ahead bytes ds (xs ++ (d, p) ∷ []) in
    omega (arith, more, length-append xs ((d, p) ∷ []))

sealed_longer : (plan : Plan) (since g : History)
    → length (sealed_packets plan g) ≤ length (sealed_packets plan (since ++ g))
unfolding sealed_packets
sealed_longer plan [] g = omega arith
sealed_longer plan ((e, Sealed ds) ∷ since) g =
    let h = since ++ g in
    let before = sealed_longer plan since g in
    let more = with_longer plan (ahead_of_packet plan (sealed_packets plan h) (base h)) (sent_bytes plan h e) ds
    (sealed_packets plan h) in
    omega (arith, before, more)
sealed_longer plan (pair ∷ since) g = sealed_longer plan since g

pub sealed_before : (plan : Plan) (since g : History) (k : ℕ) (x : SealedPacket × Packet)
    → slice_get (sealed_packets plan (since ++ g)) k ≡ Some x → k < length (sealed_packets plan g)
    → slice_get (sealed_packets plan g) k ≡ Some x
unfolding sealed_packets
sealed_before plan [] g k x is less = is
sealed_before plan ((e, Sealed ds) ∷ since) g k x is less =
    let h = since ++ g in
    elim (with_each plan (ahead_of_packet plan (sealed_packets plan h) (base h)) (sent_bytes plan h e) ds
    (sealed_packets plan h) k x is) [
      | inl older ↦ sealed_before plan since g k x older.0 less
      | inr new ↦ let longer = sealed_longer plan since g in absurd (omega (arith, less, longer, new.2))
    ]
sealed_before plan (pair ∷ since) g k x is less = sealed_before plan since g k x is less
