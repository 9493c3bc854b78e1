-- No key is used twice with one IV (SP 800-38D section 8): keys are fixed by a draw and a sub-stream, IVs by the number
-- of a unit, and no two units have all of them.
use Rattle.std.specs.Prelude.{◌+◌, ◌<◌, ◌≡◌, ◌≤◌, List, Some, false, filter, length, slice_get, take, true, ℕ}
use Rattle.spec_links.specs.Terms.{Plan, SealedPacket, Packet, iv_of, History}
use Rattle.spec_links.specs.Plan.{SubStream, is_same, key_of}
use Rattle.spec_links.specs.Units.{units}
use Rattle.spec_links.specs.History.{SealedList, is_sealed_under, sealed_packets, sent_packets, sub_stream_of}

-- the packets of a sub-stream under a draw with what their verdicts say of them, in order
abbrev pub sealed_of_draw : Plan → History → SubStream → ℕ → SealedList
sealed_of_draw plan h s j = filter (is_sealed_under s j) (sealed_packets plan h)

-- the key that a packet was sealed under, and its IV
abbrev pub key_used : Plan → SealedPacket → List ℕ
key_used plan d = key_of plan d.draw (sub_stream_of d)

abbrev pub iv_used : SealedPacket → List ℕ
iv_used d = iv_of d.sub d.unit

-- The packets at two places of all that were sealed are of one unit: of one sub-stream, under one draw, with one
-- number, and no packet of that sub-stream and draw from the first of them on, before the second, ends a unit.
pub record AreOfOneUnit (xs : SealedList) (i k : ℕ) (d e : SealedPacket) : Type 0 where
  pub sub_stream : is_same (sub_stream_of d) (sub_stream_of e) ≡ true
  pub draw : d.draw ≡ e.draw
  pub unit : d.unit ≡ e.unit
  pub no_end : (n : ℕ) (x : SealedPacket × Packet) → i ≤ n → n < k → slice_get xs n ≡ Some x
      → is_sealed_under (sub_stream_of d) d.draw x ≡ true → x.1.prefix.m ≡ false

pub record NumbersFresh (plan : Plan) (h : History) : Type 0 where
  -- the number of a packet's unit is one more than the units that were finished before it in its sub-stream and draw
  pub counted : (s : SubStream) (j place : ℕ) (x : SealedPacket × Packet)
      → slice_get (sealed_of_draw plan h s j) place ≡ Some x
      → x.0.unit ≡ length (units (take place (sent_packets plan h s j))) + 1
  -- two packets under one key with one IV are of one unit
  pub fresh : (i k : ℕ) (x y : SealedPacket × Packet) → i < k → slice_get (sealed_packets plan h) i ≡ Some x
      → slice_get (sealed_packets plan h) k ≡ Some y → key_used plan x.0 ≡ key_used plan y.0 → iv_used x.0 ≡ iv_used y.0
      → AreOfOneUnit (sealed_packets plan h) i k x.0 y.0
