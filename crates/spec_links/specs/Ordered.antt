-- Non-posted packets and completions are accepted after the posted packets that were sealed before them.
use Rattle.std.specs.Prelude.{◌<◌, ◌∷◌, ◌≡◌, ◌≢◌, ◌≤◌, Some, false, length, slice_get, take, true, ℕ}
use Rattle.spec_links.specs.Terms.{AllByRecursion, sub_bits, Plan, Event, SealedPacket, Verdict, Accepted, Packet}
use Rattle.spec_links.specs.Terms.{History, base}
use Rattle.spec_links.specs.Plan.{SubStream, is_closed}
use Rattle.spec_links.specs.History.{SealedList, sealed_packets, sent_packets, sub_stream_packets, is_sealed_under}
use Rattle.spec_links.specs.History.{accepted_packets, draws_got, received_in, posted_lane}

-- the packet at this place of all that were sealed is packet m, from 0, of its sub-stream and draw
pub record IsPacketAtPlace (xs : SealedList) (s : SubStream) (j m place : ℕ) : Type 0 where
  pub sealed : SealedPacket × Packet
  pub stands : slice_get xs place ≡ Some sealed
  pub under : is_sealed_under s j sealed ≡ true
  pub number : m ≡ length (sub_stream_packets (take place xs) s j)

-- From Base on nothing of an overtaken key is missing: in the sub-stream below this draw, and in the posted one below
-- each draw that had a unit accepted.
pub record NoneMissing (plan : Plan) (h : History) (s : SubStream) (j : ℕ) : Type 0 where
  pub own : (i : ℕ) → base h s.line s.stream ≤ i → i < j → accepted_packets plan h s i ≡ sent_packets plan h s i
  pub posted : AllByRecursion (λ (k : ℕ). (i : ℕ) → base h s.line s.stream ≤ i → i < k
      → accepted_packets plan h (posted_lane s) i ≡ sent_packets plan h (posted_lane s) i) (draws_got h (posted_lane s))

-- If a unit of a non-posted or completion sub-stream is accepted, and on an open stream nothing of an overtaken key is
-- missing, this holds: each posted packet, of a draw from Base on, that was sealed before a packet of the unit, or of
-- one before it under its draw, had been accepted.
abbrev pub BehindPosted : Plan → History → Event → Verdict → Type 0
BehindPosted plan h e (Accepted port unit effects) =
    (m place : ℕ) → sub_bits unit.sub ≢ 0
    → (is_closed plan port.line unit.stream ≡ false → NoneMissing plan h (received_in port unit) unit.draw)
    → m < length (accepted_packets plan ((e, Accepted port unit effects) ∷ h) (received_in port unit) unit.draw)
    → IsPacketAtPlace (sealed_packets plan h) (received_in port unit) unit.draw m place
    → (j n earlier : ℕ) → base h port.line unit.stream ≤ j → earlier < place
    → IsPacketAtPlace (sealed_packets plan h) (posted_lane (received_in port unit)) j n earlier
    → n < length (accepted_packets plan h (posted_lane (received_in port unit)) j)
BehindPosted plan h e _ = Unit {0}
