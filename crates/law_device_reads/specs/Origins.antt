-- Where trusted reads of devices come from, and what their completions bring to the host.
use Rattle.std.specs.Prelude.{ℕ, ◌≡◌, ◌⊎◌, ◌+◌, ◌++◌, ◌<◌, ◌≤◌, ◌∷◌, true, [], List, length, slice_get, take, drop}
use Rattle.std.specs.Prelude.{Some, Ok}
use Rattle.ide_types.specs.Ports.{host_port, device_port}
use Rattle.ide_types.specs.declared.sub.SubKind.TheVariants.{Cpl}
use Rattle.spec_links.specs.Terms.{PortName, Plan, Event, Access, UnitName, Verdict, Accepted, Sealed, SealedPacket}
use Rattle.spec_links.specs.Terms.{Packet, History, MemReadView, ReadTarget, memory_read, read_head_of, encrypted_bytes}
use Rattle.spec_links.specs.Terms.{completion_bytes, history_statuses, target_of, Site, site_on}
use Rattle.spec_links.specs.Plan.{SubStream, has_link}
use Rattle.spec_links.specs.Ports.{port_of}
use Rattle.spec_links.specs.History.{sealed_packets, accepted_packets, received_in}
use Rattle.spec_links.specs.Memory.{unit_ended, plain_of}
use Rattle.spec_links.specs.Ordered.{IsPacketAtPlace}
use Rattle.spec_interfaces.specs.Sites.{site_at}
use Rattle.spec_interfaces.specs.Devices.{runs_at}
use Rattle.tlp_layout.specs.declared.head.HeadView.{HeadView}
use Rattle.script_events.specs.declared.event.AccessEvent.TheVariants as ae
use Rattle.event_verdicts.specs.declared.verdict.Effect.TheVariants.{Queued}
use Rattle.law_delivery.specs.NoForgeryUnder.{UnitIsUnforged}
use Rattle.law_memory.specs.Origin.{CameFrom}
use Rattle.law_bytes.specs.MmioOrigin.{CameOnLock, CameOnBinding}
use Rattle.law_bytes.specs.NoOtherRun.{IsInNoOtherRun}
use Rattle.law_device_reads.specs.Oldest.{IsOldestAtDevice, WasQueued}
use Rattle.law_device_reads.specs.DeviceReads.{IsResponse}

-- the place of packet n of a unit among all that were accepted in its sub-stream under its draw
abbrev pub place_got : Plan → History → PortName → UnitName → ℕ → ℕ
place_got plan h end unit n = length (accepted_packets plan h (received_in end unit) unit.draw) + n

-- ---- where they come from

-- Packet n of a unit was given to a trusted send at the host's port of the interface's link, and came on the stream of
-- its lock; or it was given to a send at another device, whose owner was in RUN and bound to the stream, as the
-- interface is. Since before that the interface was in no other RUN.
abbrev pub CameFromHost : Plan → History → Site → PortName → UnitName → ℕ → Packet → Type 0
CameFromHost plan h x end unit n p = CameOnLock plan h x end unit (place_got plan h end unit n) p

abbrev pub CameFromPeer : Plan → History → Site → PortName → UnitName → ℕ → Packet → Type 0
CameFromPeer plan h x end unit n p = CameOnBinding plan h x end unit (place_got plan h end unit n) p

-- A read with T is of an interface of the link, and came for it in the one way or the other.
pub record IsAskedFor (plan : Plan) (h : History) (link : ℕ) (end : PortName) (unit : UnitName) (n : ℕ) (p : Packet)
    : Type 0 where
  pub head : HeadView
  pub reads : read_head_of p.head ≡ Ok head
  pub read : MemReadView
  pub is_read : memory_read head ≡ Some read
  pub target : ReadTarget
  pub claimed : target_of (history_statuses plan h link) read.span ≡ Some target
  pub interface : Site
  pub known : site_on plan link target.interface ≡ Some interface
  pub numbered : site_at plan interface.number ≡ Some interface
  pub link_is : interface.link ≡ link
  pub asked : CameFromHost plan h interface end unit n p ⊎ CameFromPeer plan h interface end unit n p

-- each read with T that a device queues, if no tag of its sub-stream was forged under its draw
abbrev pub QueuesAsked : Plan → History → Event → Verdict → Type 0
QueuesAsked plan h e (Accepted end unit effects) =
    (link n : ℕ) (p : Packet) → port_of plan end ≡ device_port link → has_link plan link ≡ true
    → slice_get (unit_ended plan h e end unit) n ≡ Some p → slice_get effects n ≡ Some Queued → p.prefix.t ≡ true
    → UnitIsUnforged plan h e (Accepted end unit effects) → IsAskedFor plan h link end unit n p
QueuesAsked plan h e w = Unit {0}

-- ---- until they are answered

-- the read that a pair queued was sent, and since before that the interface was in no other RUN than now
abbrev pub WasSentInRun : (plan : Plan) (h : History) (link : ℕ) (of : IsOldestAtDevice plan h link)
    → WasQueued plan h link of.read → Type 0
WasSentInRun plan h link of q =
    ((from : CameFromHost plan q.older of.interface q.end q.unit q.number q.packet)
    × IsInNoOtherRun plan from.was_asked.older h of.interface)
    ⊎ ((from : CameFromPeer plan q.older of.interface q.end q.unit q.number q.packet)
    × IsInNoOtherRun plan from.from.was.older h of.interface)

-- The interface of the oldest read that waits is in RUN, and since before the read was queued it was in no other; nor
-- was it since before the read was sent, if no tag of its sub-stream was forged under its draw until it was queued.
pub record IsAnsweredInRun (plan : Plan) (h : History) (link : ℕ) (of : IsOldestAtDevice plan h link) : Type 0 where
  pub runs : runs_at plan h of.interface ≡ true
  pub queued : WasQueued plan h link of.read
  pub no_other_run : IsInNoOtherRun plan queued.older h of.interface
  pub sent : UnitIsUnforged plan queued.older queued.event (Accepted queued.end queued.unit queued.effects)
      → WasSentInRun plan h link of queued

-- each read with T whose completion is sealed
abbrev pub AnswersInRun : Plan → History → Event → Verdict → Type 0
AnswersInRun plan h (Access (ae.Respond link)) (Sealed ds) =
    (is : IsResponse plan h link ds) → is.of.read.came.trusted ≡ true → IsAnsweredInRun plan h link is.of
AnswersInRun plan h e w = Unit {0}

abbrev pub DeviceReadOriginLaw : Plan → History → Type 0
DeviceReadOriginLaw plan [] = Unit {0}
DeviceReadOriginLaw plan ((e, w) ∷ h) =
    QueuesAsked plan h e w × AnswersInRun plan h e w × DeviceReadOriginLaw plan h

-- ---- what they bring

-- packet m, from 0, of what was sealed in a sub-stream under a draw was sealed by a response of the interface
pub record WasResponded (plan : Plan) (h : History) (x : Site) (s : SubStream) (j m : ℕ) : Type 0 where
  pub place : ℕ
  pub stands : IsPacketAtPlace (sealed_packets plan h) s j m place
  pub ds : List SealedPacket
  pub older : History
  pub came : CameFrom ((Access (ae.Respond x.link), Sealed ds) ∷ older) h
  pub from : length (sealed_packets plan older) ≤ place
  pub until : place < length (sealed_packets plan ((Access (ae.Respond x.link), Sealed ds) ∷ older))
  pub response : IsResponse plan older x.link ds
  pub by_interface : response.of.interface ≡ x

-- the plaintext of packet n of a unit
abbrev pub payload_at : Plan → PortName → UnitName → List Packet → ℕ → Packet → List ℕ
payload_at plan end unit ps n p =
    take (length p.body) (drop (length (encrypted_bytes (take n ps))) (plain_of plan end unit ps))

-- it is that packet; its TLP is the completion with the bytes that were shown then; the interface was in RUN, and in no
-- other since the read was sent
pub record BringsShown (plan : Plan) (h : History) (e : Event) (end : PortName) (unit : UnitName) (x : Site) (n : ℕ)
    (p : Packet) (was : WasResponded plan h x (received_in end unit) unit.draw (place_got plan h end unit n)) : Type 0
  where
    pub same : was.stands.sealed.1 ≡ p
    pub runs : runs_at plan was.older x ≡ true
    pub in_run : IsAnsweredInRun plan was.older x.link was.response.of
    pub tlp : p.head ++ payload_at plan end unit (unit_ended plan h e end unit) n p
        ≡ completion_bytes x.plan.requester was.response.shows.byte was.response.of.read.read

-- A packet with T that the host's port accepts on the stream of an interface's lock, and that is at the place of one
-- that a response of the interface sealed, if no tag of its sub-stream was forged under its draw.
abbrev pub AcceptsShown : Plan → History → Event → Verdict → Type 0
AcceptsShown plan h e (Accepted end unit effects) =
    (x : Site) (n : ℕ) (p : Packet) → end ≡ host_port x.link → unit.stream ≡ x.plan.stream → unit.sub ≡ Cpl
    → slice_get (unit_ended plan h e end unit) n ≡ Some p → p.prefix.t ≡ true
    → (was : WasResponded plan h x (received_in end unit) unit.draw (place_got plan h end unit n))
    → UnitIsUnforged plan h e (Accepted end unit effects) → BringsShown plan h e end unit x n p was
AcceptsShown plan h e w = Unit {0}

abbrev pub ResponseOriginLaw : Plan → History → Type 0
ResponseOriginLaw plan [] = Unit {0}
ResponseOriginLaw plan ((e, w) ∷ h) = AcceptsShown plan h e w × ResponseOriginLaw plan h
