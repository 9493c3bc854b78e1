-- No total passes 8 bytes in a history that may be written.
use Rattle.law_sealing.proofs.Terms.{◌≡◌, ℕ, ◌+◌, ◌*◌, ◌≤◌, Bool, List, [], ◌∷◌, ◌++◌, length, filter, arith}
use Rattle.law_sealing.proofs.Terms.{length-append, PortName, SealedPacket, Packet, Plan, open_unit, History, base}
use Rattle.law_sealing.proofs.Terms.{SealedList, sealed_packets, with_sealed, packet_of, sub_stream_packets}
use Rattle.law_sealing.proofs.Terms.{sub_stream_of, ahead_of_packet, total_in, ends_unit_since, lanes_at, CauseLaw}
use Rattle.law_sealing.proofs.Terms.{TotalsFit, listed_seals, sealed_by_is, IsSealing, sealing_is, Sealed, sent_bytes}
use Rattle.law_sealing.proofs.Terms.{sending_port}

three_sealed : (plan : Plan) (h : History) (port : PortName) (bytes : List ℕ) (ds : List SealedPacket)
    → IsSealing plan h port bytes ds → length ds ≤ 3
unfolding listed_seals
three_sealed plan h port bytes ds is = rw
    (is.list, sealed_by_is (lanes_at plan h is.sending.port is.sending.stream) is.sending is.number) (grind arith)

sealed_length : (plan : Plan) (ahead : SealedPacket → List ℕ) (bytes : List ℕ) (ds : List SealedPacket)
    (xs : SealedList) → length (with_sealed plan ahead bytes ds xs) ≡ length xs + length ds
sealed_length plan ahead bytes [] xs = omega arith
sealed_length plan ahead bytes (d ∷ ds) xs =
    let x : SealedPacket × Packet =
    (d, packet_of plan (ahead d) bytes d (open_unit (sub_stream_packets xs (sub_stream_of d) d.draw))) in
    let rest = sealed_length plan ahead bytes ds (xs ++ x ∷ []) in
    omega (arith, rest, length-append xs (x ∷ []))

pub sealed_few : (plan : Plan) (h : History) → CauseLaw plan h → length (sealed_packets plan h) ≤ 3 * length h
unfolding sealed_packets
sealed_few plan [] law = omega arith
sealed_few plan ((e, Sealed ds) ∷ h) law =
    let rest = sealed_few plan h law.1 in
    let three = three_sealed plan h (sending_port plan h e) (sent_bytes plan h e) ds (sealing_is plan h e ds law.0) in
    let all = sealed_length plan (ahead_of_packet plan (sealed_packets plan h) (base h)) (sent_bytes plan h e) ds
    (sealed_packets plan h) in
    omega (arith, rest, three, all)
sealed_few plan ((e, w) ∷ h) law = let rest = sealed_few plan h law.1 in omega (arith, rest)

pub filter_few : {A : Type 0} (q : A → Bool) (xs : List A) → length (filter q xs) ≤ length xs
filter_few q [] = omega arith
filter_few q (x ∷ xs) = grind (arith, filter_few q xs)

pub totals_fit : (plan : Plan) (h : History) → CauseLaw plan h → length h ≤ 4294967296 → TotalsFit plan h
unfolding total_in
totals_fit plan [] law short = tt
totals_fit plan ((e, w) ∷ h) law short = (
  λ s from. omega (arith, filter_few (ends_unit_since s from) (sealed_packets plan h), sealed_few plan h law.1, short),
  totals_fit plan h law.1 (omega (arith, short)),
)
