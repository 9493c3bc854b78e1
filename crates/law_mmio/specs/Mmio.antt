-- What is shown of the memory of interfaces, and what a lock guards of it (PCI Express Base 6.0 chapter 11, in this
-- profile).
use Rattle.std.specs.Prelude.{◌+◌, ◌<◌, ◌≡◌, ◌≢◌, ◌≤◌, ◌∷◌, ◌++◌, Bool, true, false, List, Some, [], length, slice_get}
use Rattle.std.specs.Prelude.{ℕ}
use Rattle.spec_links.specs.Ports.{port_of}
use Rattle.spec_links.specs.Terms.{PortName, Plan, Event, Effect, UnitName, Verdict, Accepted, Packet, History, Write}
use Rattle.spec_links.specs.Memory.{unit_ended}
use Rattle.spec_keys.specs.History.{draw_on_at}
use Rattle.spec_interfaces.specs.Sites.{Site, site_at}
use Rattle.spec_interfaces.specs.Devices.{interface_at, runs_at, locks_accepted}
use Rattle.spec_interfaces.specs.Floors.{posted_receiver, draw_at_device, device_floor}
use Rattle.spec_interfaces.specs.Laws.{IsLocked}
use Rattle.interface_state.specs.Machine.{all_bindings}
use Rattle.interface_state.specs.Bindings.{floor_on}
use Rattle.trusted_memory.specs.Spans.{enables}
use Rattle.guarded_memory.specs.Statuses.{has_open_range}
use Rattle.law_mmio.specs.Stored.{stores, stored_byte, writes_since_zero}
use Rattle.law_mmio.specs.Numbers.{ShowsByte}
use Rattle.ide_types.specs.Ports.{device_port}
use Rattle.script_events.specs.declared.event.Event.TheVariants as event
use Rattle.script_events.specs.declared.event.AccessEvent.TheVariants as ae
use Rattle.event_verdicts.specs.declared.verdict.Effect.TheVariants as effect
use Rattle.event_verdicts.specs.declared.verdict.Verdict.TheVariants as v
use Rattle.event_verdicts.specs.declared.access.AccessVerdict.TheVariants as access

-- ---- what is shown

-- the bytes of the range of a BAR of an interface, from an offset on: each is that of the last stored write that names
-- it, since the range was last set to 0, at its offset less the write's own
pub record ShowsRange (plan : Plan) (h : History) (i bar offset len : ℕ) (bytes : List ℕ) : Type 0 where
  pub interface : Site
  pub known : site_at plan i ≡ Some interface
  pub as_many : length bytes ≡ len
  pub shown : (k : ℕ) → k < len
      → ShowsByte (writes_since_zero plan h interface bar) (offset + k) (slice_get bytes k)

-- at a verdict that shows them, they are those that the stored writes left
abbrev pub ShowsStored : Plan → History → Event → Verdict → Type 0
ShowsStored plan h (event.Access (ae.Mmio i bar offset len)) (v.Access (access.Mmio bytes)) =
    ShowsRange plan h i bar offset len bytes
ShowsStored plan h e w = Unit {0}

-- ---- what is guarded

-- The pair ends a unit at an end at the device's port, and stores a write that enables the byte: the write of a packet
-- of the unit with the effect `stored`. It has T, the interface is in RUN, and the unit came on a stream that the
-- interface is bound to, under a draw from its floor there on.
pub record IsStoredInRun (plan : Plan) (h : History) (e : Event) (w : Verdict) (x : Site) (bar offset : ℕ) : Type 0
  where
    pub unit : UnitName
    pub effects : List Effect
    pub end : PortName
    pub at_device : port_of plan end ≡ device_port x.link
    pub accepted : w ≡ Accepted end unit effects
    pub number : ℕ
    pub packet : Packet
    pub is_packet : slice_get (unit_ended plan h e end unit) number ≡ Some packet
    pub effect_is : slice_get effects number ≡ Some effect.Stored
    pub write : Write
    pub is_write : slice_get (stores plan h e w x bar) number ≡ Some (Some write)
    pub enabled : enables write.span offset ≡ true
    pub trusted : packet.prefix.t ≡ true
    pub runs : runs_at plan h x ≡ true
    pub floor : ℕ
    pub bound : floor_on unit.stream (all_bindings (device_floor plan h x) (interface_at plan h x)) ≡ Some floor
    pub from_floor : floor ≤ unit.draw

-- in CONFIG_LOCKED and RUN, before the pair and after it, a byte of a range that is not open changes so alone
abbrev pub GuardsBytes : Plan → History → Event → Verdict → Type 0
GuardsBytes plan h e w = (i : ℕ) (x : Site) (bar offset : ℕ) → site_at plan i ≡ Some x
    → IsLocked plan h x → IsLocked plan ((e, w) ∷ h) x → has_open_range x.plan.bars bar ≡ false
    → stored_byte plan ((e, w) ∷ h) x bar offset ≢ stored_byte plan h x bar offset
    → IsStoredInRun plan h e w x bar offset

-- ---- the floor

-- A pair brought the interface into the RUN that it is in, under the lock that stands, and before that pair its floor
-- was the greatest draw that was On where the device receives posted requests on its stream.
pub record IsStartedUnder (plan : Plan) (h : History) (x : Site) (floor : ℕ) : Type 0 where
  pub event : Event
  pub verdict : Verdict
  pub older : History
  pub since : History
  pub came : since ++ (event, verdict) ∷ older ≡ h
  pub rested : runs_at plan older x ≡ false
  pub runs : runs_at plan ((event, verdict) ∷ older) x ≡ true
  pub same_lock : locks_accepted plan older x ≡ locks_accepted plan h x
  pub greatest : draw_at_device older x ≡ floor
  pub set : Bool
  pub on : draw_on_at older (posted_receiver x) set ≡ Some floor

-- of each interface in RUN
abbrev pub KeepsFloors : Plan → History → Type 0
KeepsFloors plan h = (i : ℕ) (x : Site) → site_at plan i ≡ Some x → runs_at plan h x ≡ true
    → IsStartedUnder plan h x (device_floor plan h x)

-- ---- the law

abbrev pub MmioLaw : Plan → History → Type 0
MmioLaw plan [] = Unit {0}
MmioLaw plan ((e, w) ∷ h) =
    ShowsStored plan h e w × GuardsBytes plan h e w × KeepsFloors plan ((e, w) ∷ h) × MmioLaw plan h
