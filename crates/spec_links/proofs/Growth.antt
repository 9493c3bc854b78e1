-- The list of sealed packets grows only at its end, so a packet keeps its place.
use Rattle.spec_links.proofs.Terms.{◌≡◌, ℕ, zero, suc, ◌<◌, List, [], ◌∷◌, ◌++◌, length, slice_get, Some, sym, ◌∙◌}
use Rattle.spec_links.proofs.Terms.{arith, append_assoc, append-nil, Event, Verdict, Sealed, SealedPacket, Packet}
use Rattle.spec_links.proofs.Terms.{Plan, History, base, open_unit, SealedList, sealed_packets, with_sealed}
use Rattle.spec_links.proofs.Terms.{packet_of, sub_stream_packets, sub_stream_of, ahead_of_packet, sent_bytes}

pub with_grows : (plan : Plan) (ahead : SealedPacket → List ℕ) (bytes : List ℕ) (ds : List SealedPacket)
    (xs : SealedList) → (rest : SealedList) × (xs ++ rest ≡ with_sealed plan ahead bytes ds xs)
with_grows plan ahead bytes [] xs = ([], append-nil xs)
with_grows plan ahead bytes (d ∷ ds) xs =
    let x : SealedPacket × Packet =
    (d, packet_of plan (ahead d) bytes d (open_unit (sub_stream_packets xs (sub_stream_of d) d.draw))) in
    let more = with_grows plan ahead bytes ds (xs ++ x ∷ []) in
    (x ∷ more.0, sym (append_assoc xs (x ∷ []) more.0) ∙ more.1)

pub packets_grow : (plan : Plan) (h : History) (e : Event) (w : Verdict) → (rest : SealedList)
    × (sealed_packets plan h ++ rest ≡ sealed_packets plan ((e, w) ∷ h))
unfolding sealed_packets
packets_grow plan h e (Sealed ds) = with_grows plan (ahead_of_packet plan (sealed_packets plan h) (base h))
    (sent_bytes plan h e) ds (sealed_packets plan h)
packets_grow plan h e w = ([], append-nil (sealed_packets plan h))

pub at_front : {A : Type 0} (xs ys : List A) (i : ℕ) (x : A) → slice_get xs i ≡ Some x
    → (slice_get (xs ++ ys) i ≡ Some x) × (i < length xs)
at_front [] ys i x is = absurd cc
at_front (z ∷ xs) ys zero x is = (is, omega arith)
at_front (z ∷ xs) ys (suc i) x is = let rest = at_front xs ys i x is in (rest.0, omega (arith, rest.1))
