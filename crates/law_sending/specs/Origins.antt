-- Where what a sealed packet carries comes from. Nothing else leaves a port in packets; so bytes of trusted memory
-- leave only in the completion of a read that the manager grants, and bytes of a device's memory only in that of a read
-- that an interface of it claims.
use Rattle.std.specs.Prelude.{◌≡◌, ◌≤◌, ◌-◌, ◌++◌, ℕ, ◌∷◌, true, false, List, [], Some, Ok, slice_get}
use Rattle.spec_links.specs.Terms.{AllByRecursion, Plan, PortName, Event, Access, SealedPacket, Verdict, History}
use Rattle.spec_links.specs.Terms.{Packet}
use Rattle.spec_links.specs.Terms.{Tlp, header, read_of, byte_last_written, masked_bytes, iv_of}
use Rattle.spec_links.specs.Terms.{sync_head, host_completer, ReadArrival, ReadTarget, Site, WaitingRead, site_on}
use Rattle.spec_links.specs.Plan.{key_of}
use Rattle.spec_links.specs.History.{packet_by_number, sealed_packets, sub_stream_of}
use Rattle.spec_links.specs.Hops.{HopTlp, leaving_end}
use Rattle.spec_links.specs.Guarded.{link_happenings}
use Rattle.spec_links.specs.Memory.{queued_reads, writes}
use Rattle.spec_links.specs.Sent.{reads_taken}
use Rattle.tlp_layout.specs.Head.{head_bytes}
use Rattle.trusted_memory.specs.Completions.{completion_head, read_bytes}
use Rattle.ide_types.specs.Ports.{host_port, device_port}
use Rattle.ide_types.specs.declared.interface.BarPlan.{BarPlan}
use Rattle.interface_state.specs.Bars.{bars_of}
use Rattle.interface_state.specs.Bindings.{floor_on}
use Rattle.interface_state.specs.Machine.{all_bindings}
use Rattle.spec_interfaces.specs.{byte_shown}
use Rattle.spec_interfaces.specs.Devices.{interface_at, runs_at}
use Rattle.spec_interfaces.specs.Floors.{device_floor}
use Rattle.ide_types.specs.declared.direction.Direction.{Direction}
use Rattle.spec_interfaces.specs.Terms.{Running}
use Rattle.spec_interfaces.specs.Views.{view_at, floor_at}
use Rattle.law_memory.specs.ReadLaws.{IsOldest}
use Rattle.law_locks.specs.Fronts.{AtPairs}
use Rattle.law_mmio.specs.Numbers.{IsLastByte}
use Rattle.law_sending.specs.Choice.{GoesOnStream}
use Rattle.law_sending.specs.Trust.{IsFirstWaiting}
use Rattle.ide_types.specs.Ends.{link_hop}
use Rattle.ide_types.specs.declared.plan.HopPlan.{HopPlan}
use Rattle.script_events.specs.declared.event.Event.TheVariants as event
use Rattle.script_events.specs.declared.event.AccessEvent.TheVariants as ae
use Rattle.event_verdicts.specs.declared.verdict.Verdict.TheVariants as v

-- ---- what a packet carries

-- the TLP of these bytes: its header in clear, and behind it the payload, masked under the packet's key and unit
pub record CarriesTlp (plan : Plan) (d : SealedPacket) (packet : Packet) (tlp : List ℕ) : Type 0 where
  pub payload : List ℕ
  pub tlp_is : packet.head ++ payload ≡ tlp
  pub offset : ℕ
  pub body_is : packet.body
      ≡ masked_bytes (key_of plan d.draw (sub_stream_of d)) (iv_of d.sub d.unit) offset payload

-- a sync packet carries none
pub record CarriesNothing (packet : Packet) : Type 0 where
  pub head : packet.head ≡ sync_head
  pub body : packet.body ≡ []

-- ---- where a TLP comes from

-- it is the TLP that a `send` or a `psend` was given, and goes out where that goes
pub record WasGiven (plan : Plan) (end : PortName) (bytes : List ℕ) (d : SealedPacket) (tlp : List ℕ) : Type 0 where
  pub given : tlp ≡ bytes
  pub read : Tlp
  pub reads : read_of bytes ≡ Ok read
  pub goes : GoesOnStream plan end (header read) d.port d.stream

-- it was accepted at the switch of the link since its last reset, and goes out behind it
pub record WasAccepted (plan : Plan) (h : History) (link : ℕ) (way : Direction) (d : SealedPacket) (tlp : List ℕ)
    : Type 0 where
  pub first : HopTlp
  pub waits : IsFirstWaiting plan h link way first
  pub came : tlp ≡ first.bytes
  pub at : d.port ≡ leaving_end link way

-- It is the completion of the oldest read that was queued on the link and waits: a header by the read alone, and behind
-- it the bytes that the read enables, as they stand in trusted memory (at each address the byte that the newest write
-- that names it has for it), and 0 for the others. The view of the read's interface is Running; the completion goes out
-- at the host's port of the link, with T, on the interface's bound stream, and the read came and the completion goes
-- under draws from the interface's floor on.
pub record CompletesRead (plan : Plan) (h : History) (link : ℕ) (d : SealedPacket) (tlp : List ℕ) : Type 0 where
  pub of : IsOldest plan h link
  pub completion : tlp ≡ head_bytes (completion_head host_completer of.read.read)
      ++ read_bytes (byte_last_written (writes plan h)) of.read.read.span
  pub stands : (address : ℕ) → IsLastByte (writes plan h) address (byte_last_written (writes plan h) address)
  pub runs : view_at h of.interface ≡ Running
  pub at : d.port ≡ host_port link
  pub stream : d.stream ≡ of.interface.plan.stream
  pub trusted : d.t ≡ true
  pub read_floor : floor_at h of.interface ≤ of.read.came.draw
  pub floor : floor_at h of.interface ≤ d.draw

-- The interface is in RUN, and bound to the stream with a floor that is no more than the draws of the read and of the
-- packet.
pub record IsBoundFor (plan : Plan) (h : History) (x : Site) (came : ReadArrival) (d : SealedPacket) : Type 0 where
  pub runs : runs_at plan h x ≡ true
  pub floor : ℕ
  pub bound : floor_on came.stream (all_bindings (device_floor plan h x) (interface_at plan h x)) ≡ Some floor
  pub read_floor : floor ≤ came.draw
  pub packet_floor : floor ≤ d.draw

-- It is the completion of the oldest read that was queued at the device of the link and waits, by the interface that
-- claimed it, with the bytes that are shown now in the range of its BAR, and 0 for those that the read does not enable.
-- It goes out at the end and on the stream on which the read came, with T as the read had it; with T from an interface
-- that is bound there.
pub record CompletesDeviceRead (plan : Plan) (h : History) (link : ℕ) (d : SealedPacket) (tlp : List ℕ) : Type 0 where
  pub read : WaitingRead
  pub oldest : slice_get (queued_reads plan h (device_port link)) (reads_taken h (device_port link)) ≡ Some read
  pub target : ReadTarget
  pub of_target : read.target ≡ Some target
  pub interface : Site
  pub known : site_on plan link target.interface ≡ Some interface
  pub range : BarPlan
  pub stands : slice_get (bars_of interface.plan (interface_at plan h interface).registers) target.bar ≡ Some range
  pub completion : tlp ≡ head_bytes (completion_head interface.plan.requester read.read)
      ++ read_bytes (λ a. byte_shown (link_happenings plan h link) target.interface target.bar (a - range.base))
      read.read.span
  pub at : d.port ≡ read.came.end
  pub stream : d.stream ≡ read.came.stream
  pub t_is : d.t ≡ read.came.trusted
  pub bound : read.came.trusted ≡ true → IsBoundFor plan h interface read.came d

-- by the event that sealed the packet; no other seals
abbrev pub ComesFrom : Plan → History → Event → SealedPacket → List ℕ → Type 0
ComesFrom plan h (event.Send end bytes more trusted) d tlp = WasGiven plan end bytes d tlp
ComesFrom plan h (event.Forward link way) d tlp = WasAccepted plan h link way d tlp
ComesFrom plan h (Access (ae.Answer link)) d tlp = CompletesRead plan h link d tlp
ComesFrom plan h (Access (ae.Respond link)) d tlp = CompletesDeviceRead plan h link d tlp
ComesFrom plan h e d tlp = ⊥

-- where the packets of an event are sealed: those of a send where the TLP goes (`IsSentAsChosen`), of a forward behind
-- the switch on the hop's stream, of an answer at the host's port of the link, of a response at the end and on the
-- stream on which its read came; no other event seals any
abbrev pub IsSealedAt : Plan → History → Event → SealedPacket → Type 0
IsSealedAt plan h (event.Send end bytes more trusted) d = Unit {0}
IsSealedAt plan h (event.Forward link way) d =
    (d.port ≡ leaving_end link way) ×
    ((hop : HopPlan) → link_hop (slice_get plan.links link) ≡ Some hop → d.stream ≡ hop.id)
IsSealedAt plan h (Access (ae.Answer link)) d = d.port ≡ host_port link
IsSealedAt plan h (Access (ae.Respond link)) d =
    (r : WaitingRead) → slice_get (queued_reads plan h (device_port link)) (reads_taken h (device_port link)) ≡ Some r
    → (d.port ≡ r.came.end) × (d.stream ≡ r.came.stream)
IsSealedAt plan h e d = ⊥

-- ---- the law

pub record CarriesFrom (plan : Plan) (h : History) (e : Event) (d : SealedPacket) (packet : Packet) : Type 0 where
  pub tlp : List ℕ
  pub carries : CarriesTlp plan d packet tlp
  pub comes : ComesFrom plan h e d tlp

-- the packet of this description, which a dump of its number shows
pub record HasSource (plan : Plan) (h : History) (e : Event) (ds : List SealedPacket) (d : SealedPacket) : Type 0 where
  pub packet : Packet
  pub shown : packet_by_number (sealed_packets plan ((e, v.Sealed ds) ∷ h)) d.number ≡ Some (d, packet)
  pub at : IsSealedAt plan h e d
  pub sync : d.sync ≡ true → CarriesNothing packet
  pub carries : d.sync ≡ false → CarriesFrom plan h e d packet

abbrev pub HaveSources : Plan → History → Event → Verdict → Type 0
HaveSources plan h e (v.Sealed ds) = AllByRecursion (HasSource plan h e ds) ds
HaveSources plan h e w = Unit {0}

-- each packet that is sealed
abbrev pub SealedComesFrom : Plan → History → Type 0
SealedComesFrom plan h = AtPairs (HaveSources plan) h
