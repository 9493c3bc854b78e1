-- What one send seals has at most 4,184 bytes.
use Rattle.ide_port.proofs.Terms.{◌≡◌, ℕ, ◌+◌, ◌≤◌, true, false, List, [], ◌∷◌, ◌++◌, length, Option, Some, None, arith}
use Rattle.ide_port.proofs.Terms.{length-append, if◌then◌else◌, SubKind, Packet, packet_bytes, sync_head, Verdict}
use Rattle.ide_port.proofs.Terms.{Sending, Lanes, described_seal, needs_sync, sync_before, ends_unit, sets_trusted}
use Rattle.ide_port.proofs.Terms.{total_ahead, sealed_with_syncs, LiveKey, Three, TxSub, at_sub, live_sender}
use Rattle.ide_port.proofs.Terms.{untagged_under, tagged_under, packet_under, sealed_one, sealed_all, StreamEnd}
use Rattle.ide_port.proofs.Terms.{joined_packets, packets_sent, lanes_in, unless_verdict, packets_and_senders}
use Rattle.ide_port.proofs.Terms.{sending_refusal, Result, SendRefusal}
use Rattle.std.proofs.Common.{Bool}
use Rattle.gcm_seal.specs.Gcm.{masked_bytes, tag_of}
use Rattle.gcm_seal.proofs.Sealing.{length-masked_bytes, length-tag_of}
use Rattle.ide_types.specs.declared.sub.SubKind.TheVariants.{Npr, Cpl}
use Rattle.ide_prefix.specs.Iv.{iv_of}
use Rattle.ide_prefix.specs.Units.{authenticated_bytes, encrypted_bytes}
use Rattle.event_verdicts.specs.declared.verdict.SealedPacket.{SealedPacket}
use Rattle.sub_stream.specs.declared.answer.MeasuredPacket.{MeasuredPacket}
use Rattle.ide_port.specs.StreamSends.{IsSent}

tag_length : (m : Bool) (key iv a c : List ℕ) → length (if m then tag_of key iv a c else []) ≤ 12
tag_length m key iv a c = grind (arith, length-tag_of key iv a c)

-- how many bytes a packet of a description has at most
abbrev room_of : SealedPacket → ℕ
room_of d = if d.sync then 28 else 4128

bytes_length : (p : Packet) → length (packet_bytes p) ≡ 4 + (length p.head + (length p.body + length p.tag))
bytes_length p = omega (arith, length-append p.head (p.body ++ p.tag), length-append p.body p.tag)

parts_length : (sync : Bool) (key iv : List ℕ) (n : ℕ) (head payload : List ℕ) → length head ≤ 16
    → length payload ≤ 4096
    → length (if sync then sync_head else head) + length (masked_bytes key iv n (if sync then [] else payload)) + 16 ≤
    (if sync then 28 else 4128)
parts_length true key iv n head payload h b = omega (arith, length-masked_bytes key iv n [])
parts_length false key iv n head payload h b = omega (arith, length-masked_bytes key iv n payload, h, b)

packet_length : (ahead : List ℕ) (o : Option (Bool × LiveKey)) (d : SealedPacket) (head payload : List ℕ)
    → length head ≤ 16 → length payload ≤ 4096 → length (packet_bytes (packet_under ahead o d head payload)) ≤ room_of d
packet_length ahead None d head payload h b =
    omega (
      arith,
      bytes_length (untagged_under [] [] d head payload),
      parts_length d.sync [] (iv_of d.sub d.unit)
          (length (encrypted_bytes [])) head payload h b,
    )
packet_length ahead (Some x) d head payload h b =
    let p = untagged_under x.1.key x.1.packets d head payload in
    omega (
      arith,
      bytes_length (tagged_under ahead x.1.key x.1.packets d p),
      parts_length d.sync x.1.key (iv_of d.sub d.unit) (length (encrypted_bytes x.1.packets)) head payload h b,
      tag_length d.m x.1.key (iv_of d.sub d.unit) (ahead ++ authenticated_bytes (x.1.packets ++ p ∷ []))
          (encrypted_bytes (x.1.packets ++ p ∷ [])),
    )

room_all : List SealedPacket → ℕ
room_all [] = 0
room_all (d ∷ ds) = room_of d + room_all ds

all_length : (closed : Bool) (head payload : List ℕ) (ds : List SealedPacket) (tx : Three TxSub) → length head ≤ 16
    → length payload ≤ 4096 → length (joined_packets (sealed_all closed head payload ds tx).0) ≤ room_all ds
unfolding room_all
all_length closed head payload [] tx h b = omega arith
all_length closed head payload (d ∷ ds) tx h b =
    let x = at_sub tx d.sub in
    let one = sealed_one closed head payload d tx in
    let rest = all_length closed head payload ds one.1 h b in
    omega (
      arith,
      length-append (packet_bytes one.0) (joined_packets (sealed_all closed head payload ds one.1).0),
      rest,
      packet_length (total_ahead closed d.unit x.total) (live_sender x.slots) d head payload h b,
    )

room_append : (xs ys : List SealedPacket) → room_all (xs ++ ys) ≡ room_all xs + room_all ys
unfolding room_all
room_append [] ys = omega arith
room_append (x ∷ xs) ys = omega (arith, room_append xs ys)

sync_room : (b : Bool) (x : Lanes) (s : Sending) (u : SubKind) (number : ℕ)
    → room_all (if b then described_seal x s u number true false true ∷ [] else []) ≤ 28
unfolding room_all
sync_room b x s u number = grind arith

sealed_room : (x : Lanes) (s : Sending) (number : ℕ) → room_all (sealed_with_syncs x s number) ≤ 4184
unfolding room_all
sealed_room x s number =
    let first = sync_before x s Npr number in
    let second = sync_before x s Cpl (number + length first) in
    let last = described_seal x s s.class (number + length first + length second) (ends_unit x s)
    (sets_trusted s.port s.trusted) false in
    omega (
      arith,
      room_append (first ++ second) (last ∷ []),
      room_append first second,
      sync_room (needs_sync x s.class Npr) x s Npr number,
      sync_room (needs_sync x s.class Cpl) x s Cpl (number + length first),
    )

unless_length : (o : Option Verdict) (ps : List Packet) (n : ℕ) → length (joined_packets ps) ≤ n
    → length (joined_packets (unless_verdict o [] ps)) ≤ n
unless_length o ps n le = grind arith

sent-length : (e : StreamEnd) (head payload : List ℕ) (s : Sending) (number : ℕ) → length head ≤ 16
    → length payload ≤ 4096 → length (joined_packets (packets_sent e head payload s number)) ≤ 4184
sent-length e head payload s number h b =
    unless_length (sending_refusal e s) (packets_and_senders e head payload s number).0 4184
    (omega (
      arith,
      all_length e.closed head payload (sealed_with_syncs (lanes_in e) s number) e.state.tx h b,
      sealed_room
          (lanes_in e) s number,
    ))

-- what a send of a stream leaves in a buffer without bytes
pub buffer-length : (x y : StreamEnd) (head payload : List ℕ) (s : Sending) (number : ℕ)
    (answer : Result (List MeasuredPacket) SendRefusal) (before out : List ℕ)
    → IsSent x head payload s number answer before out y → before ≡ [] → length head ≤ 16 → length payload ≤ 4096
    → length out ≤ 4184
buffer-length x y head payload s number answer before out sent none h b =
    let bytes : out ≡ joined_packets (packets_sent x head payload s number) = rw none at sent.bytes in
    rw bytes (sent-length x head payload s number h b)
