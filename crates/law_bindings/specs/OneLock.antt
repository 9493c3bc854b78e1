-- Each key serves one lock of an interface, also beside the manager's grants: of what an interface seals with T, and of
-- what is stored with T in its memory.
use Rattle.std.specs.Prelude.{◌≡◌, ◌⊎◌, ◌<◌, ◌≤◌, ◌++◌, ◌∷◌, ℕ, true, false, List, Some, slice_get}
use Rattle.ide_types.specs.Ports.{device_port}
use Rattle.spec_links.specs.History.{sent_bytes}
use Rattle.spec_links.specs.Terms.{PortName, Plan, Event, Effect, UnitName, Accepted, Sealed, SealedPacket}
use Rattle.spec_links.specs.Terms.{Packet}
use Rattle.spec_links.specs.Terms.{History, Write, read_of}
use Rattle.spec_links.specs.Memory.{unit_ended}
use Rattle.spec_interfaces.specs.Terms.{Unlocked, Locked, Running}
use Rattle.spec_interfaces.specs.Cause.{owner_read}
use Rattle.spec_interfaces.specs.Sites.{Site, site_at}
use Rattle.spec_interfaces.specs.Peers.{peer_end}
use Rattle.spec_interfaces.specs.Views.{managed_view, view_at, needs_at}
use Rattle.spec_interfaces.specs.Devices.{locks_accepted, runs_at}
use Rattle.law_locks.specs.Fronts.{AtEach}
use Rattle.law_memory.specs.Bindings.{is_sent_by_device}
use Rattle.law_mmio.specs.Stored.{stores}

-- ---- what is sealed

-- a send, or a response to a read, sealed a packet with T, whose TLP the interface owns, at this end of its device
pub record SealedTrusted (plan : Plan) (h : History) (x : Site) : Type 0 where
  pub event : Event
  pub sent : is_sent_by_device event ≡ true
  pub packets : List SealedPacket
  pub older : History
  pub since : History
  pub came : since ++ (event, Sealed packets) ∷ older ≡ h
  pub number : ℕ
  pub packet : SealedPacket
  pub listed : slice_get packets number ≡ Some packet
  pub has_t : packet.t ≡ true
  pub owned : owner_read plan x.link (read_of (sent_bytes plan older event)) ≡ Some x

-- it was sealed at the device's port of the link, or at the device's end of a stream between devices
abbrev pub IsAtLink : (plan : Plan) (h : History) (x : Site) → SealedTrusted plan h x → Type 0
IsAtLink plan h x a = a.packet.port ≡ device_port x.link

abbrev pub IsAtPeer : (plan : Plan) (h : History) (x : Site) → SealedTrusted plan h x → Type 0
IsAtPeer plan h x a = peer_end plan.peers 0 x.link a.packet.stream ≡ Some a.packet.port

abbrev pub IsAtDevice : (plan : Plan) (h : History) (x : Site) → SealedTrusted plan h x → Type 0
IsAtDevice plan h x a = IsAtLink plan h x a ⊎ IsAtPeer plan h x a

-- What the view says of such a packet: it was sealed in RUN; while the interface rests its draw is below the one that
-- the interface needs; and while the view is Running a draw that is not was of this lock.
pub record FitsView (plan : Plan) (h : History) (x : Site) (older : History) (draw : ℕ) : Type 0 where
  pub ran : runs_at plan older x ≡ true
  pub unlocked : view_at h x ≡ Unlocked → draw < needs_at h x
  pub locked : view_at h x ≡ Locked → draw < needs_at h x
  pub unstarted : (managed_view h x).started ≡ false → draw < needs_at h x
  pub running : view_at h x ≡ Running → needs_at h x ≤ draw → locks_accepted plan older x ≡ locks_accepted plan h x

abbrev pub AllFitView : Plan → History → Type 0
AllFitView plan h = (i : ℕ) (x : Site) → site_at plan i ≡ Some x → (a : SealedTrusted plan h x)
    → IsAtDevice plan h x a → FitsView plan h x a.older a.packet.draw

abbrev pub TrustedOnAllStreams : Plan → History → Type 0
TrustedOnAllStreams plan h = AtEach (AllFitView plan) h

-- two packets with T that an interface seals on streams between devices under one draw are sealed under one lock
abbrev pub OneLockPerPeerKey : Plan → History → Type 0
OneLockPerPeerKey plan h = (i : ℕ) (x : Site) → site_at plan i ≡ Some x → (a b : SealedTrusted plan h x)
    → IsAtPeer plan h x a → IsAtPeer plan h x b → a.packet.draw ≡ b.packet.draw
    → locks_accepted plan a.older x ≡ locks_accepted plan b.older x

-- ---- what is stored

-- a pair of the history stored the write of a packet with T in a BAR of the interface
pub record StoredTrusted (plan : Plan) (h : History) (x : Site) : Type 0 where
  pub event : Event
  pub port : PortName
  pub unit : UnitName
  pub effects : List Effect
  pub older : History
  pub since : History
  pub came : since ++ (event, Accepted port unit effects) ∷ older ≡ h
  pub bar : ℕ
  pub number : ℕ
  pub write : Write
  pub stored : slice_get (stores plan older event (Accepted port unit effects) x bar) number ≡ Some (Some write)
  pub packet : Packet
  pub stands : slice_get (unit_ended plan older event port unit) number ≡ Some packet
  pub has_t : packet.prefix.t ≡ true

-- two such writes under one draw are stored under one lock
abbrev pub OneLockPerStoredKey : Plan → History → Type 0
OneLockPerStoredKey plan h = (i : ℕ) (x : Site) → site_at plan i ≡ Some x → (a b : StoredTrusted plan h x)
    → a.unit.draw ≡ b.unit.draw → locks_accepted plan a.older x ≡ locks_accepted plan b.older x
