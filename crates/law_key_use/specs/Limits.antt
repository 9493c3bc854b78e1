-- How many units a key seals, and how many packets a unit has.
use Rattle.std.specs.Prelude.{◌≡◌, ◌≢◌, ◌≤◌, ◌<◌, ℕ, Some, List, [], length, slice_get}
use Rattle.spec_links.specs.Terms.{AllByRecursion, Plan, SealedPacket, Packet, History}
use Rattle.spec_links.specs.Plan.{SubStream, aggregation_of}
use Rattle.spec_links.specs.Units.{units, open_unit}
use Rattle.spec_links.specs.History.{sealed_packets, sent_packets, accepted_packets, pending_packets, sub_stream_of}
use Rattle.spec_links.specs.Numbers.{key_used}

-- it has at most as many packets as the mode of its stream says
abbrev pub IsWithinMode : Plan → SubStream → List Packet → Type 0
IsWithinMode plan s unit = length unit ≤ aggregation_of plan s.line s.stream

pub record KeyLimits (plan : Plan) (h : History) : Type 0 where
  -- what was sealed under the same bytes of a key is of one sub-stream and draw
  pub one_key : (i k : ℕ) (x y : SealedPacket × Packet) → slice_get (sealed_packets plan h) i ≡ Some x
      → slice_get (sealed_packets plan h) k ≡ Some y → key_used plan x.0 ≡ key_used plan y.0
      → (sub_stream_of x.0 ≡ sub_stream_of y.0) × (x.0.draw ≡ y.0.draw)
  -- no more units are finished under a draw than a key may seal
  pub finished : (s : SubStream) (j : ℕ) → length (units (sent_packets plan h s j)) ≤ plan.units_per_key
  -- one that is open is within that number too: it began when fewer were finished
  pub opened : (s : SubStream) (j : ℕ) → open_unit (sent_packets plan h s j) ≢ []
      → length (units (sent_packets plan h s j)) < plan.units_per_key
  -- so is the number that each packet's verdict gives its unit
  pub numbered : (place : ℕ) (x : SealedPacket × Packet) → slice_get (sealed_packets plan h) place ≡ Some x
      → x.0.unit ≤ plan.units_per_key
  -- no unit that was sealed or accepted has too many packets, and one that is open or held has room for another
  pub sealed : (s : SubStream) (j : ℕ) → AllByRecursion (IsWithinMode plan s) (units (sent_packets plan h s j))
  pub open_has_room : (s : SubStream) (j : ℕ)
      → length (open_unit (sent_packets plan h s j)) < aggregation_of plan s.line s.stream
  pub accepted : (s : SubStream) (j : ℕ) → AllByRecursion (IsWithinMode plan s) (units (accepted_packets plan h s j))
  pub held_has_room : (s : SubStream) (j : ℕ)
      → length (pending_packets plan h s j) < aggregation_of plan s.line s.stream
