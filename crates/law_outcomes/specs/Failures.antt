-- Why an arrival fails: the first check that fails, each said by what was accepted and is held.
use Rattle.std.specs.Prelude.{◌≡◌, ℕ, ◌+◌, ◌==◌, ◌&&◌, ◌||◌, ◌∷◌, ◌++◌, nat_lt, nat_le, not, Bool, true, false, sum_by}
use Rattle.std.specs.Prelude.{if◌then◌else◌, List, [], length, Option, Some, None, is_some, Result, Ok}
use Rattle.std.specs.Option.{option_map}
use Rattle.std.specs.Int.{w64, to_be_bytes}
use Rattle.std.specs.Str.{bytes_eq}
use Rattle.spec_keys.specs.Places.{KeyPlace, received_direction}
use Rattle.spec_keys.specs.History.{History, base, draw_on_at, failed_there}
use Rattle.spec_links.specs.Terms.{PortName, Plan, Event, SubKind, Verdict, Fail, Packet, PacketFault, CutValue}
use Rattle.spec_links.specs.Terms.{IdePacket, cut_of, tag_of, iv_of, authenticated_bytes, encrypted_bytes, sub_bits}
use Rattle.spec_links.specs.Plan.{SubStream, aggregation_of, is_closed, key_of, has_stream}
use Rattle.spec_links.specs.Ports.{goes_through}
use Rattle.spec_links.specs.History.{ArrivedBytes, arrival_of_event, pending_packets, units_got, units_since, got_since}
use Rattle.spec_links.specs.History.{posted_lane}
use Rattle.law_locks.specs.Fronts.{AtPairs}
use Rattle.law_outcomes.specs.Blocks.{first_holding}
use Rattle.ide_types.specs.declared.sub.FailCause.{FailCause}
use Rattle.ide_types.specs.declared.sub.FailCause.TheVariants as fail

-- ---- what an arriving packet meets

-- its sub-stream, and the place at which its port keeps the keys of that
abbrev pub lane_of : PortName → Packet → SubStream
lane_of port p = record {
  line = port.line;
  stream = p.prefix.stream;
  direction = received_direction port.side;
  sub = p.prefix.sub;
}

abbrev pub receiver_of : PortName → Packet → KeyPlace
receiver_of port p = record {
  side = port.side;
  line = port.line;
  stream = p.prefix.stream;
  sends = false;
  sub = p.prefix.sub;
}

-- how many packets are held under a draw, if there is one
abbrev pub held_count : Plan → History → SubStream → Option ℕ → ℕ
held_count plan h s None = 0
held_count plan h s (Some j) = length (pending_packets plan h s j)

-- ---- the checks of a packet under a draw

-- the unit that it ends
abbrev pub unit_with : Plan → History → SubStream → ℕ → Packet → List Packet
unit_with plan h s j p = pending_packets plan h s j ++ p ∷ []

-- what goes ahead of it: on a closed stream, of the first unit under the draw, how many were accepted since the stream
-- was last established
abbrev pub total_before : Plan → History → SubStream → ℕ → List ℕ
total_before plan h s j =
    if is_closed plan s.line s.stream && (units_got h s j + 1 == 1)
    then to_be_bytes w64 (units_since h s (base h s.line s.stream)) else []

-- its tag is that of the unit, at the counter of the next unit under the draw (SP 800-38D section 7.2)
abbrev pub has_tag : Plan → History → SubStream → ℕ → Packet → Bool
has_tag plan h s j p =
    bytes_eq p.tag (tag_of (key_of plan j s) (iv_of s.sub (units_got h s j + 1))
    (total_before plan h s j ++ authenticated_bytes (unit_with plan h s j p))
    (encrypted_bytes (unit_with plan h s j p)))

-- the posted counts of the packets that were got since the stream was last established
abbrev pub counts_got : Plan → History → SubStream → ℕ
counts_got plan h s = sum_by (λ (p : Packet). p.prefix.posted) (got_since plan h s (base h s.line s.stream))

-- with those of its unit they sum to no more than the posted packets that were got; of the posted sub-stream itself
-- nothing is asked
abbrev pub has_counts : Plan → History → SubStream → ℕ → Packet → Bool
has_counts plan h s j p =
    (sub_bits s.sub == 0)
    || nat_le (counts_got plan h s + sum_by (λ (q : Packet). q.prefix.posted) (unit_with plan h s j p))
    (length (got_since plan h (posted_lane s) (base h s.line s.stream)))

-- By the draw that is Live in the key set that K names, if there is one, and by that in the other: none in the one that
-- it names; packets of the other set are held, or it has no M and its unit has room for its last packet alone; with M,
-- another tag; with M, counts that are not met.
abbrev pub failing_checks : Plan → History → SubStream → Packet → (named other : Option ℕ) → List (Bool × FailCause)
failing_checks plan h s p None other = (true, fail.Key) ∷ []
failing_checks plan h s p (Some j) other =
    (nat_lt 0 (held_count plan h s other), fail.Unit)
    ∷ (not p.prefix.m && nat_le (aggregation_of plan s.line s.stream) (held_count plan h s (Some j) + 1), fail.Unit)
    ∷ (p.prefix.m && not (has_tag plan h s j p), fail.Tag)
    ∷ (p.prefix.m && not (has_counts plan h s j p), fail.Order) ∷ []

-- ---- a failure, by the end, the stream and the sub-stream that it is of

pub record Failure : Type 0 where
  pub port : PortName
  pub stream : ℕ
  pub sub : SubKind
  pub cause : FailCause

abbrev pub failure_in : Verdict → Option Failure
failure_in (Fail port stream sub cause) =
    Some (record { port = port; stream = stream; sub = sub; cause = cause })
failure_in w = None

abbrev pub failure_at : PortName → Packet → FailCause → Failure
failure_at port p cause =
    record { port = port; stream = p.prefix.stream; sub = p.prefix.sub; cause = cause }

-- the end has the stream, no failure stands there, and one of the two key sets has a Live key
abbrev pub is_checked : Plan → History → PortName → Packet → Bool
is_checked plan h port p =
    (has_stream plan port p.prefix.stream && not (failed_there h port.side port.line p.prefix.stream))
    && (is_some (draw_on_at h (receiver_of port p) p.prefix.k)
    || is_some (draw_on_at h (receiver_of port p) (not p.prefix.k)))

abbrev pub failure_of_packet : Plan → History → PortName → Packet → Option Failure
failure_of_packet plan h port p =
    if is_checked plan h port p
    then option_map (failure_at port p)
    (first_holding (failing_checks plan h (lane_of port p) p (draw_on_at h (receiver_of port p) p.prefix.k)
    (draw_on_at h (receiver_of port p) (not p.prefix.k))))
    else None

-- of bytes that are a packet
abbrev pub failure_of_bytes : Plan → History → PortName → Result CutValue PacketFault → Option Failure
failure_of_bytes plan h port (Ok (IdePacket p)) = failure_of_packet plan h port p
failure_of_bytes plan h port r = None

-- of an event that brings bytes, which no switch passes on unread
abbrev pub failure_due : Plan → History → Option ArrivedBytes → Option Failure
failure_due plan h None = None
failure_due plan h (Some a) =
    if goes_through plan a.port a.bytes then None else failure_of_bytes plan h a.port (cut_of a.bytes)

-- ---- the law

-- exactly so fails what arrives, and nothing else
abbrev pub FailsByCheck : Plan → History → Event → Verdict → Type 0
FailsByCheck plan h e w = failure_in w ≡ failure_due plan h (arrival_of_event plan h e)

abbrev pub FailLaw : Plan → History → Type 0
FailLaw plan h = AtPairs (FailsByCheck plan) h
