-- What the interfaces of a history obey.
use Rattle.std.specs.Prelude.{◌≡◌, ℕ, ◌<◌, ◌≤◌, ◌∷◌, ◌⊎◌, true, false, if◌then◌else◌, List, [], Some}
use Rattle.spec_interfaces.specs.Terms.{AllByRecursion, Device, Plan, Unlocked, Locked, Running, Event, PortName}
use Rattle.spec_interfaces.specs.Terms.{InterfaceEvent, Verdict, SealedPacket, History, listed_registers, has_bit}
use Rattle.spec_interfaces.specs.Terms.{changes_listed, interface_report_bytes, state_code}
use Rattle.spec_interfaces.specs.Sites.{Site, site_at}
use Rattle.spec_interfaces.specs.Views.{managed_view, view_at, floor_at, needs_at}
use Rattle.spec_interfaces.specs.Devices.{interface_at, locks_accepted, runs_at, is_bound_at, peer_t, registers_locked}
use Rattle.spec_interfaces.specs.Cause.{InterfaceCause, owner_read}
use Rattle.spec_keys.specs.Laws.{KeyCauseLaw}
use Rattle.spec_keys.specs.Places.{KeyPlan}
use Rattle.tlp_layout.specs.Reading.{read_of}
use Rattle.script_events.specs.declared.event.Event.TheVariants as event
use Rattle.script_events.specs.declared.event.InterfaceEvent.TheVariants as ie
use Rattle.event_verdicts.specs.declared.verdict.Verdict.TheVariants as v
use Rattle.ide_types.specs.declared.verdict.InterfaceVerdict.TheVariants as iv

-- ---- registers

-- locked or in RUN
abbrev pub IsLocked : Plan → History → Site → Type 0
IsLocked plan h x = (state_code (interface_at plan h x).state ≡ 1) ⊎ (state_code (interface_at plan h x).state ≡ 2)

-- in RUN, and locked, the listed registers are those that were reported
abbrev pub KeepsReported : Plan → History → Site → Type 0
KeepsReported plan h x = IsLocked plan h x → listed_registers x.plan.flags (interface_at plan h x).registers
    ≡ listed_registers x.plan.flags (registers_locked plan h x)

-- a report is that of the registers as they stood at the lock, under the flags and the offset of the topology
abbrev pub ShowsReport : Plan → History → Site → InterfaceEvent → Verdict → Type 0
ShowsReport plan h x (ie.Report i loss) (v.Interface (iv.Reported n report)) =
    report ≡ interface_report_bytes x.plan (registers_locked plan h x) x.plan.flags x.plan.offset
ShowsReport plan h x e w = Unit {0}

-- a listed change, a level reset, and a firmware update that flag 0 forbids, show state 3
abbrev pub ShowsError : Plan → History → Site → InterfaceEvent → Verdict → Type 0
ShowsError plan h x (ie.Write i register value) (v.Interface (iv.Written n state)) =
    IsLocked plan h x → changes_listed x.plan.flags (interface_at plan h x).registers register value ≡ true → state ≡ 3
ShowsError plan h x (ie.Flr i) (v.Interface (iv.Flr n state)) = IsLocked plan h x → state ≡ 3
ShowsError plan h x (ie.Firmware i) (v.Interface (iv.Firmware n state)) =
    IsLocked plan h x → has_bit 0 x.plan.flags ≡ true → state ≡ 3
ShowsError plan h x e w = Unit {0}

-- at each pair
abbrev pub ShownAt : Plan → History → Event → Verdict → Type 0
ShownAt plan h (event.Interface (ie.Report i loss)) w =
    (x : Site) → site_at plan i ≡ Some x → ShowsReport plan h x (ie.Report i loss) w
ShownAt plan h (event.Interface (ie.Write i register value)) w =
    (x : Site) → site_at plan i ≡ Some x → ShowsError plan h x (ie.Write i register value) w
ShownAt plan h (event.Interface (ie.Flr i)) w = (x : Site) → site_at plan i ≡ Some x → ShowsError plan h x (ie.Flr i) w
ShownAt plan h (event.Interface (ie.Firmware i)) w =
    (x : Site) → site_at plan i ≡ Some x → ShowsError plan h x (ie.Firmware i) w
ShownAt plan h e w = Unit {0}

abbrev pub RunLaw : Plan → History → Type 0
RunLaw plan [] = Unit {0}
RunLaw plan ((e, w) ∷ h) =
    ((i : ℕ) (x : Site) → site_at plan i ≡ Some x → KeepsReported plan ((e, w) ∷ h) x)
    × ShownAt plan h e w
    × RunLaw plan h

-- ---- bindings

-- an interface is bound to streams between devices in CONFIG_LOCKED and RUN alone
abbrev pub BindLaw : Plan → History → Type 0
BindLaw plan h = (x : Site) (stream : ℕ) → is_bound_at plan h x stream ≡ true → IsLocked plan h x

abbrev pub BindLawHolds : Type 0
BindLawHolds = (plan : Plan) (h : History) → BindLaw plan h

-- The owner of the TLP of these bytes, among the interfaces of the link, is in RUN and bound to the stream between
-- devices.
pub record OwnerIsBound (plan : Plan) (h : History) (link stream : ℕ) (bytes : List ℕ) : Type 0 where
  pub interface : Site
  pub owns : owner_read plan link (read_of bytes) ≡ Some interface
  pub runs : runs_at plan h interface ≡ true
  pub bound : is_bound_at plan h interface stream ≡ true

-- of a packet that was sealed for a TLP of these bytes, at an end at the device of the link, of a stream between
-- devices
abbrev pub PeerSealFits : Plan → History → ℕ → List ℕ → SealedPacket → Type 0
PeerSealFits plan h link bytes d =
    d.t ≡ (if d.sync then false else peer_t plan h (owner_read plan link (read_of bytes)) d.stream)

-- a packet with T on a stream between devices is sealed while its owner is in RUN and bound to that stream
abbrev pub PeerSealsBound : Type 0
PeerSealsBound = (plan : Plan) (h : History) (link : ℕ) (bytes : List ℕ) (d : SealedPacket)
    → PeerSealFits plan h link bytes d → d.t ≡ true → OwnerIsBound plan h link d.stream bytes

-- ---- trusted packets

-- the packet has T, and its device's port sealed it on the bound stream, with the interface as its owner
pub record IsTrusted (plan : Plan) (x : Site) (bytes : List ℕ) (d : SealedPacket) : Type 0 where
  pub at_device : d.port ≡ record { side = Device; line = x.link }
  pub on_stream : d.stream ≡ x.plan.stream
  pub has_t : d.t ≡ true
  pub owned : owner_read plan x.link (read_of bytes) ≡ Some x

-- of each such packet, and of the pairs before it
abbrev pub OfTrusted : Plan → Site → (History → SealedPacket → Type 0) → History → Type 0
OfTrusted plan x P [] = Unit {0}
OfTrusted plan x P ((event.Send port bytes more trusted, v.Sealed ds) ∷ h) =
    AllByRecursion (λ d. IsTrusted plan x bytes d → P h d) ds × OfTrusted plan x P h
OfTrusted plan x P (_ ∷ h) = OfTrusted plan x P h

-- it does not run, and each such packet is of a draw below the one that it needs
pub record IsAtRest (plan : Plan) (h : History) (x : Site) : Type 0 where
  pub rests : runs_at plan h x ≡ false
  pub below : OfTrusted plan x (λ g d. d.draw < needs_at h x) h

-- it was sealed in RUN, under this many locks
pub record InRun (plan : Plan) (x : Site) (locks : ℕ) (g : History) : Type 0 where
  pub runs : runs_at plan g x ≡ true
  pub same_lock : locks_accepted plan g x ≡ locks

-- a START was asked, and each such packet of a draw from the floor on was sealed in RUN under the present lock
pub record IsRunning (plan : Plan) (h : History) (x : Site) : Type 0 where
  pub was_started : (managed_view h x).started ≡ true
  pub since : OfTrusted plan x (λ g d. floor_at h x ≤ d.draw → InRun plan x (locks_accepted plan h x) g) h

-- what the manager's view says of the device and of what it sealed
pub record ViewHolds (plan : Plan) (h : History) (x : Site) : Type 0 where
  pub unlocked : view_at h x ≡ Unlocked → IsAtRest plan h x
  pub locked : view_at h x ≡ Locked → IsAtRest plan h x
  pub unstarted : (managed_view h x).started ≡ false → IsAtRest plan h x
  pub running : view_at h x ≡ Running → IsRunning plan h x

abbrev pub InterfaceRunLawHolds : Type 0
InterfaceRunLawHolds = (plan : Plan) (h : History) → InterfaceCause plan h → RunLaw plan h

abbrev pub ViewsHold : Type 0
ViewsHold = (plan : Plan) (kp : KeyPlan) (h : History) → KeyCauseLaw kp h → InterfaceCause plan h
    → (x : Site) → site_at plan x.number ≡ Some x → ViewHolds plan h x
