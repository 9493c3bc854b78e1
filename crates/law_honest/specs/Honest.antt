-- An honest link: since a stream was established, all that comes to a port of it is what the port at the other end of
-- the line sealed, each packet once, unaltered, and in the order of sealing over the three sub-streams.
use Rattle.std.specs.Prelude.{if◌then◌else◌, ◌&&◌, ◌++◌, ◌+◌, ◌==◌, ◌∷◌, ◌≡◌, ◌≤◌, ◌⊎◌, Bool, None, Ok, Option}
use Rattle.std.specs.Prelude.{Result, Some, [], false, filter, is_none, is_some, length, nat_le, option_map}
use Rattle.std.specs.Prelude.{slice_get, true, ℕ}
use Rattle.spec_links.specs.Terms.{PortName, Plan, Event, SealedPacket, SubKind, Verdict, Packet, CutValue, IdePacket}
use Rattle.spec_links.specs.Terms.{PacketFault, cut_of, History, base}
use Rattle.ide_types.specs.declared.port.Side.{Side}
use Rattle.spec_keys.specs.Operations.{Idle, Up, reach_of}
use Rattle.spec_keys.specs.History.{op_of}
use Rattle.script_events.specs.declared.event.Loss.{Loss}
use Rattle.script_events.specs.declared.event.Event.TheVariants as event
use Rattle.event_verdicts.specs.declared.verdict.Operation.TheVariants as op
use Rattle.event_verdicts.specs.declared.verdict.Verdict.TheVariants as v
use Rattle.spec_links.specs.Plan.{is_same_port, lane_out, partner}
use Rattle.spec_links.specs.History.{SealedList, ArrivedBytes, sealed_packets, arrival_of_event, accepted_packets}
use Rattle.spec_links.specs.History.{pending_packets, sent_packets, sub_stream_of, has_failed}
use Rattle.spec_links.specs.KeyFacts.{operates}
use Rattle.spec_links.specs.Laws.{IsTaken, NotForged}
use Rattle.spec_links.specs.Units.{open_unit}
use Rattle.spec_links.specs.Delivered.{tlps_got, tlps_sent}

-- ---- what is sealed

-- a sealed packet is of this port and stream, of any sub-stream, and of a draw from this one on
abbrev pub is_sealed_at : PortName → ℕ → ℕ → SealedPacket × Packet → Bool
is_sealed_at port stream from x = is_same_port x.0.port port && (x.0.stream == stream) && nat_le from x.0.draw

-- what a port sealed on a stream, in order, under the draws since the stream was last established
abbrev pub sealed_at : Plan → History → PortName → ℕ → SealedList
sealed_at plan h port stream = filter (is_sealed_at port stream (base h port.line stream)) (sealed_packets plan h)

-- ---- what comes

-- the packet that bytes are, if it is of the stream
abbrev pub packet_of_stream : ℕ → Result CutValue PacketFault → Option Packet
packet_of_stream stream (Ok (IdePacket p)) = if p.prefix.stream == stream then Some p else None
packet_of_stream stream _ = None

abbrev pub packet_for : PortName → ℕ → Option ArrivedBytes → Option Packet
packet_for port stream None = None
packet_for port stream (Some a) = if is_same_port a.port port then packet_of_stream stream (cut_of a.bytes) else None

-- the packet of a stream that an event brings to a port, if it brings one
unfoldable pub packet_coming : Plan → History → Event → PortName → ℕ → Option Packet
packet_coming plan h e port stream = packet_for port stream (arrival_of_event plan h e)

-- how many packets of a stream came to a port in the pairs since a history
unfoldable pub came_since : Plan → History → History → PortName → ℕ → ℕ
came_since plan start [] port stream = 0
came_since plan start ((e, verdict) ∷ since) port stream =
    if is_some (packet_coming plan (since ++ start) e port stream) then came_since plan start since port stream + 1
    else came_since plan start since port stream

-- ---- the link

-- The stream was just established, as the sender at this port has it: its draw is that of its last establish, nothing
-- was sealed under draws from it on, nothing was held or accepted under them at the other end, and the stream has not
-- failed there.
pub record IsFresh (plan : Plan) (h : History) (port : PortName) (stream : ℕ) : Type 0 where
  pub set : Bool
  pub up : op_of h port.line stream ≡ Up set (base h port.line stream)
  pub none_sealed : sealed_at plan h port stream ≡ []
  pub none_accepted : (u : SubKind) (j : ℕ) → base h port.line stream ≤ j
      → accepted_packets plan h (lane_out port stream u) j ≡ []
  pub none_held : (u : SubKind) (j : ℕ) → base h port.line stream ≤ j
      → pending_packets plan h (lane_out port stream u) j ≡ []
  pub secure : has_failed h (partner port) stream ≡ false

-- the packet that comes next, after so many
abbrev pub next_sealed : Plan → History → PortName → ℕ → ℕ → Option Packet
next_sealed plan h port stream n =
    option_map (λ (x : SealedPacket × Packet). x.1) (slice_get (sealed_at plan h port stream) n)

-- the operation was refused as it began, or named no stream: it reached no exchange
abbrev pub reaches_none : Event → Verdict → Bool
reaches_none (event.Establish line stream lose) verdict = is_none (reach_of op.Establish verdict)
reaches_none (event.Refresh line stream lose) verdict = is_none (reach_of op.Refresh verdict)
reaches_none (event.Stop line stream lose) verdict = is_none (reach_of op.Stop verdict)
reaches_none e verdict = false

-- no operation and no reset touches the stream
abbrev pub LeavesStream : Event → Verdict → ℕ → ℕ → Type 0
LeavesStream e verdict line stream = (operates e line stream ≡ false) ⊎ (reaches_none e verdict ≡ true)

-- The stream is refreshed by an operation that begins and ends at this event, when all that has not come yet is of the
-- current draw.
pub record RefreshesBehind (plan : Plan) (h : History) (e : Event) (verdict : Verdict) (port : PortName) (stream n : ℕ)
    : Type 0 where
  pub loss : Option Loss
  pub asked : e ≡ event.Refresh port.line stream loss
  pub line : ℕ
  pub id : ℕ
  pub new_draw : ℕ
  pub done : verdict ≡ v.Refreshed line id new_draw
  pub set : Bool
  pub draw : ℕ
  pub up : op_of h port.line stream ≡ Up set draw
  pub behind : (place : ℕ) (x : SealedPacket × Packet) → n ≤ place
      → slice_get (sealed_at plan h port stream) place ≡ Some x → x.0.draw ≡ draw

-- In the pairs since a history no reset and no operation touches the stream but for such refreshes, and each packet of
-- it that comes to the other end is the next of those that were sealed at this port.
abbrev pub IsHonest : Plan → History → History → PortName → ℕ → Type 0
IsHonest plan start [] port stream = Unit {0}
IsHonest plan start ((e, verdict) ∷ since) port stream =
    (LeavesStream e verdict port.line stream ⊎ RefreshesBehind plan (since ++ start) e verdict port stream
    (came_since plan start since (partner port) stream))
    × ((p : Packet) → packet_coming plan (since ++ start) e (partner port) stream ≡ Some p
    → next_sealed plan (since ++ start) port stream (came_since plan start since (partner port) stream) ≡ Some p)
    × IsHonest plan start since port stream

-- ---- what is claimed

-- Each packet of the stream that comes to the other end is held, or ends its unit and is accepted, as one of the
-- sub-stream and the draw under which it was sealed, and is no forgery.
abbrev pub AllTaken : Plan → History → History → PortName → ℕ → Type 0
AllTaken plan start [] port stream = Unit {0}
AllTaken plan start ((e, verdict) ∷ since) port stream =
    ((p : Packet) (x : SealedPacket × Packet) → packet_coming plan (since ++ start) e (partner port) stream ≡ Some p
    → slice_get (sealed_at plan (since ++ start) port stream) (came_since plan start since (partner port) stream)
    ≡ Some x
    → IsTaken plan (since ++ start) (sub_stream_of x.0) x.0.draw (partner port) p verdict
    × NotForged plan (since ++ start) e)
    × AllTaken plan start since port stream

-- From a fresh establish on an honest link takes all that comes, and the stream does not fail.
abbrev pub HonestLaw : Plan → History → Type 0
HonestLaw plan h =
    (start since : History) (port : PortName) (stream : ℕ) → since ++ start ≡ h → IsFresh plan start port stream
    → IsHonest plan start since port stream
    → AllTaken plan start since port stream × (has_failed h (partner port) stream ≡ false)

-- all that was sealed came
abbrev pub AllCame : Plan → History → History → PortName → ℕ → Type 0
AllCame plan start since port stream =
    came_since plan start since (partner port) stream ≡ length (sealed_at plan (since ++ start) port stream)

-- What was accepted of a sub-stream under a draw, with what is held for its next unit, is what was sealed; if no unit
-- is open, what was accepted alone, and the TLPs that were delivered are those that were sent.
abbrev pub AllDelivered : Plan → History → PortName → ℕ → SubKind → Type 0
AllDelivered plan h port stream u =
    let s = lane_out port stream u in
    (j : ℕ) → base h port.line stream ≤ j
    → (accepted_packets plan h s j ++ pending_packets plan h s j ≡ sent_packets plan h s j)
    × (open_unit (sent_packets plan h s j) ≡ []
    → (accepted_packets plan h s j ≡ sent_packets plan h s j) × (tlps_got plan h s j ≡ tlps_sent plan h s j))

-- And once all came that was sealed, all was delivered.
abbrev pub HonestDeliveryLaw : Plan → History → Type 0
HonestDeliveryLaw plan h =
    (start since : History) (port : PortName) (stream : ℕ) → since ++ start ≡ h → IsFresh plan start port stream
    → IsHonest plan start since port stream → AllCame plan start since port stream → (u : SubKind)
    → AllDelivered plan h port stream u

-- ---- where it begins, and what a pass brings

-- An establish of an idle stream that ends at the event at which it begins leaves the stream fresh, at both ends.
abbrev pub LeavesFresh : Plan → History → Event → Verdict → Type 0
LeavesFresh plan h (event.Establish line stream lose) (v.Established l t j) =
    op_of h line stream ≡ Idle → (side : Side)
    → IsFresh plan ((event.Establish line stream lose, v.Established l t j) ∷ h) (record { side = side; line = line })
    stream
LeavesFresh plan h e verdict = Unit {0}

abbrev pub FreshLaw : Plan → History → Type 0
FreshLaw plan [] = Unit {0}
FreshLaw plan ((e, verdict) ∷ h) = LeavesFresh plan h e verdict × FreshLaw plan h

-- A pass brings the packet that it names to the other end of the line on which it was sealed.
abbrev pub PassLaw : Plan → History → Type 0
PassLaw plan h =
    (place : ℕ) (x : SealedPacket × Packet) → slice_get (sealed_packets plan h) place ≡ Some x
    → packet_coming plan h (event.Pass (place + 1)) (partner x.0.port) x.0.stream ≡ Some x.1
