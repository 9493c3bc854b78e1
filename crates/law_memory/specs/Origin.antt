-- Trusted memory, and the origin of what stands in it.
use Rattle.std.specs.Prelude.{ℕ, ◌+◌, ◌<◌, ◌≤◌, ◌≡◌, ◌++◌, ◌∷◌, true, [], length, map, Some, Ok, slice_get, is_some}
use Rattle.spec_links.specs.Terms.{PortName, Plan, Event, Verdict, Accepted, UnitName, Packet, History, read_head_of}
use Rattle.spec_links.specs.Terms.{owner_id}
use Rattle.spec_links.specs.Plan.{SubStream}
use Rattle.spec_links.specs.History.{sealed_packets, accepted_packets, received_in}
use Rattle.spec_links.specs.Memory.{writes, unit_ended, accepted_unit_writes}
use Rattle.spec_links.specs.Ordered.{IsPacketAtPlace}
use Rattle.trusted_memory.specs.Writes.{Write}
use Rattle.trusted_memory.specs.Causes.{is_applied}
use Rattle.spec_interfaces.specs.Sites.{Site, site_at}
use Rattle.spec_interfaces.specs.Terms.{Running}
use Rattle.spec_interfaces.specs.Views.{view_at, floor_at}
use Rattle.tlp_layout.specs.declared.head.HeadView.{HeadView}
use Rattle.spec_interfaces.specs.Devices.{runs_at, locks_accepted}
use Rattle.law_mmio.specs.Numbers.{ShowsByte}
use Rattle.event_verdicts.specs.declared.verdict.Verdict.TheVariants as v
use Rattle.script_events.specs.declared.event.Event.TheVariants as event
use Rattle.script_events.specs.declared.event.InterfaceEvent.TheVariants as ie
use Rattle.ide_types.specs.declared.verdict.InterfaceVerdict.TheVariants as iv

-- ---- memory

-- at a memory verdict byte k is that of the last admitted write that names it, at its address less the write's own; if
-- none does it is 0
abbrev pub ShowsWrites : Plan → History → Event → Verdict → Type 0
ShowsWrites plan h (event.Interface (ie.Memory at len)) (v.Interface (iv.Memory bytes)) =
    (length bytes ≡ len) × ((k : ℕ) → k < len → ShowsByte (writes plan h) (at + k) (slice_get bytes k))
ShowsWrites plan h e w = Unit {0}

-- at an accepted verdict exactly the packets whose writes are admitted are applied
abbrev pub AppliesAdmitted : Plan → History → Event → Verdict → Type 0
AppliesAdmitted plan h e (Accepted port unit effects) =
    map is_applied effects ≡ map is_some (accepted_unit_writes plan h e port unit)
AppliesAdmitted plan h e w = Unit {0}

abbrev pub MemoryLaw : Plan → History → Type 0
MemoryLaw plan [] = Unit {0}
MemoryLaw plan ((e, w) ∷ h) = AppliesAdmitted plan h e w × ShowsWrites plan h e w × MemoryLaw plan h

-- ---- origin

-- the one history is what the other came from
pub record CameFrom (g h : History) : Type 0 where
  pub since : History
  pub is : since ++ g ≡ h

-- Packet m, from 0, of what was sealed in a sub-stream under a draw was sealed at a pair before which the interface was
-- in RUN, under as many locks as it has now.
pub record HasOrigin (plan : Plan) (h : History) (x : Site) (s : SubStream) (j m : ℕ) : Type 0 where
  pub place : ℕ
  pub stands : IsPacketAtPlace (sealed_packets plan h) s j m place
  pub event : Event
  pub verdict : Verdict
  pub older : History
  pub came : CameFrom ((event, verdict) ∷ older) h
  pub from : length (sealed_packets plan older) ≤ place
  pub until : place < length (sealed_packets plan ((event, verdict) ∷ older))
  pub runs : runs_at plan older x ≡ true
  pub same_lock : locks_accepted plan older x ≡ locks_accepted plan h x

-- A packet of an accepted unit was sealed by the interface that it is admitted for: that of its requester ID. It is
-- packet m, from 0, of what was got in its sub-stream under its draw.
pub record IsFrom (plan : Plan) (h : History) (port : PortName) (unit : UnitName) (p : Packet) (m : ℕ) : Type 0 where
  pub interface : Site
  pub known : site_at plan interface.number ≡ Some interface
  pub link : interface.link ≡ port.line
  pub head : HeadView
  pub reads : read_head_of p.head ≡ Ok head
  pub requester : owner_id head ≡ Some interface.plan.requester
  pub stream : interface.plan.stream ≡ unit.stream
  pub view : view_at h interface ≡ Running
  pub floor : floor_at h interface ≤ unit.draw
  pub origin : HasOrigin plan h interface (received_in port unit) unit.draw m
  pub same : origin.stands.sealed.1 ≡ p

-- Packet n of an accepted unit is the one after those got and those before it in the unit.
abbrev pub AreFrom : Plan → History → Event → Verdict → Type 0
AreFrom plan h e (Accepted port unit effects) =
    (n : ℕ) (w : Write) (p : Packet) → slice_get (accepted_unit_writes plan h e port unit) n ≡ Some (Some w)
    → slice_get (unit_ended plan h e port unit) n ≡ Some p
    → IsFrom plan h port unit p (length (accepted_packets plan h (received_in port unit) unit.draw) + n)
AreFrom plan h e w = Unit {0}
