-- No byte of key stream is used twice (SP 800-38D sections 6.5, 7.1 and 8).
use Rattle.std.specs.Prelude.{◌≡◌, ◌≢◌, ◌<◌, ◌≤◌, ◌+◌, ◌/◌, ◌∷◌, ℕ, suc, List, [], Some, length, slice_get, take}
use Rattle.std.specs.Prelude.{if◌then◌else◌}
use Rattle.gcm_seal.specs.Gcm.{counter, masked_bytes}
use Rattle.spec_links.specs.Terms.{Plan, Event, Sealed, SealedPacket, Packet, History, encrypted_bytes, read_of}
use Rattle.spec_links.specs.Units.{open_unit}
use Rattle.spec_links.specs.History.{SealedList, sealed_packets, sent_bytes, sub_stream_packets, sub_stream_of}
use Rattle.spec_links.specs.History.{payload_in}
use Rattle.spec_links.specs.Numbers.{key_used, iv_used}
use Rattle.law_verdicts.specs.{CameFrom}

-- where the payload of the packet at a place begins in the plaintext of its unit: behind those of the unit's packets
-- that were sealed before it
abbrev pub offset_at : SealedList → ℕ → SealedPacket → ℕ
offset_at xs place d = length
    (encrypted_bytes (open_unit (sub_stream_packets (take place xs) (sub_stream_of d) d.draw)))

-- the plaintext of a packet that is sealed for these bytes: the payload of their TLP, of a sync packet none
abbrev pub payload_for : List ℕ → SealedPacket → List ℕ
payload_for bytes d = if d.sync then [] else payload_in (read_of bytes)

-- The pair that sealed the packet at a place; the packet's body is the payload that was sealed there, masked by the key
-- stream from the packet's offset on.
pub record IsMasked (plan : Plan) (h : History) (place : ℕ) (x : SealedPacket × Packet) : Type 0 where
  pub event : Event
  pub ds : List SealedPacket
  pub older : History
  pub came : CameFrom ((event, Sealed ds) ∷ older) h
  pub from : length (sealed_packets plan older) ≤ place
  pub until : place < length (sealed_packets plan ((event, Sealed ds) ∷ older))
  pub masks : x.1.body ≡ masked_bytes (key_used plan x.0) (iv_used x.0) (offset_at (sealed_packets plan h) place x.0)
      (payload_for (sent_bytes plan older event) x.0)

pub record KeyStreamFresh (plan : Plan) (h : History) : Type 0 where
  -- each packet masks its payload by as many bytes of key stream, from its offset on
  pub range : (i : ℕ) (x : SealedPacket × Packet) → slice_get (sealed_packets plan h) i ≡ Some x → IsMasked plan h i x
  -- of two packets under one key with one IV the later one's range begins where the earlier one's ends, or behind it
  pub apart : (i k : ℕ) (x y : SealedPacket × Packet) → i < k → slice_get (sealed_packets plan h) i ≡ Some x
      → slice_get (sealed_packets plan h) k ≡ Some y → key_used plan x.0 ≡ key_used plan y.0 → iv_used x.0 ≡ iv_used y.0
      → offset_at (sealed_packets plan h) i x.0 + length x.1.body ≤ offset_at (sealed_packets plan h) k y.0
  -- byte n of key stream is of the counter block n / 16 + 1 increments behind the first one, which masks the tag: it is
  -- none of those before it
  pub no_wrap : (i : ℕ) (x : SealedPacket × Packet) → slice_get (sealed_packets plan h) i ≡ Some x
      → (n b : ℕ) → n < offset_at (sealed_packets plan h) i x.0 + length x.1.body → b < suc (n / 16)
      → counter (iv_used x.0) (suc (n / 16)) ≢ counter (iv_used x.0) b
