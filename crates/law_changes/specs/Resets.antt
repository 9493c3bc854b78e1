-- What a reset of a link leaves: nothing at the ends that it clears, and all the rest.
use Rattle.std.specs.Prelude.{◌≡◌, ◌≤◌, ◌⊎◌, ◌-◌, ◌==◌, ◌&&◌, ◌||◌, ◌∷◌, Bool, true, false, [], Option, None, Some}
use Rattle.std.specs.Prelude.{slice_get, ℕ}
use Rattle.ide_types.specs.declared.port.Side.{Side}
use Rattle.ide_types.specs.declared.plan.PeerPlan.{PeerPlan}
use Rattle.ide_types.specs.declared.direction.Direction.{Direction}
use Rattle.ide_types.specs.Lines.{near_hop_line, far_hop_line}
use Rattle.ide_types.specs.Ends.{peer_link, reset_ends}
use Rattle.spec_keys.specs.Places.{KeyPlace, is_between_devices}
use Rattle.spec_keys.specs.Keys.{no_keys}
use Rattle.spec_keys.specs.Operations.{Idle, Stopping}
use Rattle.spec_keys.specs.History.{op_of, draws}
use Rattle.spec_links.specs.Terms.{PortName, SubKind, Plan, Event, Verdict, Reset, History, Site, place_keys}
use Rattle.spec_links.specs.Terms.{failed_there}
use Rattle.spec_links.specs.Plan.{lane_in}
use Rattle.spec_links.specs.History.{sealed_packets, pending_packets}
use Rattle.spec_links.specs.Hops.{has_hop}
use Rattle.spec_links.specs.Memory.{waiting_reads, hop_waiting, writes}
use Rattle.spec_interfaces.specs.Terms.{Unlocked, Broken, ConfigUnlocked, planned_registers}
use Rattle.spec_interfaces.specs.Views.{view_at}
use Rattle.spec_interfaces.specs.Devices.{interface_at}
use Rattle.law_mmio.specs.Stored.{stored_byte}
use Rattle.law_locks.specs.Fronts.{AtPairs}
use Rattle.event_verdicts.specs.declared.verdict.Verdict.TheVariants as v

-- ---- the ends

-- this end of a stream between devices is at the device of the link
abbrev pub ends_at_device : Option PeerPlan → ℕ → Side → Bool
ends_at_device None link side = false
ends_at_device (Some p) link side = peer_link side p == link

abbrev pub is_peer_end : Plan → ℕ → PortName → Bool
is_peer_end plan link end =
    is_between_devices end.line && ends_at_device (slice_get plan.peers (end.line - 24)) link end.side

-- of a segment of the link's hop
abbrev pub is_hop_end : Plan → ℕ → PortName → Bool
is_hop_end plan link end =
    has_hop plan link && ((end.line == near_hop_line link) || (end.line == far_hop_line link))

-- It is an end of the link, or of a segment of its hop, or the one at its device of a stream between two devices.
abbrev pub is_of_link : Plan → ℕ → PortName → Bool
is_of_link plan link end = (end.line == link) || (is_hop_end plan link end || is_peer_end plan link end)

abbrev pub end_of_place : KeyPlace → PortName
end_of_place p = record { side = p.side; line = p.line }

-- ---- what is left there

-- At these ends no key set keeps anything and no failure stands; nothing is held there, of any draw that is kept or is
-- given later.
pub record AreClear (plan : Plan) (h : History) (link : ℕ) : Type 0 where
  pub keys : (p : KeyPlace) → is_of_link plan link (end_of_place p) ≡ true → place_keys h p ≡ no_keys
  pub failures : (end : PortName) (stream : ℕ) → is_of_link plan link end ≡ true
      → failed_there h end.side end.line stream ≡ false
  pub held : (end : PortName) (stream : ℕ) (u : SubKind) (j : ℕ) → is_of_link plan link end ≡ true → draws h ≤ j
      → pending_packets plan h (lane_in end stream u) j ≡ []

-- The streams of the link and of its hop have no keys for the manager; one between its device and another is to be
-- stopped from the first exchange on.
pub record AreDropped (plan : Plan) (h : History) (link : ℕ) : Type 0 where
  pub own : (stream : ℕ) → op_of h link stream ≡ Idle
  pub near : (stream : ℕ) → has_hop plan link ≡ true → op_of h (near_hop_line link) stream ≡ Idle
  pub far : (stream : ℕ) → has_hop plan link ≡ true → op_of h (far_hop_line link) stream ≡ Idle
  pub peers : (end : PortName) (stream : ℕ) → is_peer_end plan link end ≡ true → op_of h end.line stream ≡ Stopping 1

-- An interface of the link is in CONFIG_UNLOCKED, bound to nothing, with the topology's registers; each byte of each
-- of its ranges, open or not, is 0; and the manager's view of it is Unlocked or Broken.
pub record IsAsNew (plan : Plan) (h : History) (x : Site) : Type 0 where
  pub unlocked : (interface_at plan h x).state ≡ ConfigUnlocked
  pub unbound : (interface_at plan h x).bindings ≡ []
  pub registers : (interface_at plan h x).registers ≡ planned_registers x.plan
  pub bytes : (bar offset : ℕ) → stored_byte plan h x bar offset ≡ 0
  pub view : (view_at h x ≡ Unlocked) ⊎ (view_at h x ≡ Broken)

-- ---- what is left elsewhere

-- All other ends are as they were, with their keys and failures, and all other streams for the manager; so is what was
-- sealed, how many draws were made, what stands in trusted memory, and which reads wait at the ports of other links.
pub record IsLeft (plan : Plan) (h after : History) (link : ℕ) : Type 0 where
  pub keys : (p : KeyPlace) → is_of_link plan link (end_of_place p) ≡ false → place_keys after p ≡ place_keys h p
  pub failures : (end : PortName) (stream : ℕ) → is_of_link plan link end ≡ false
      → failed_there after end.side end.line stream ≡ failed_there h end.side end.line stream
  pub operations : (line stream : ℕ) → ((side : Side) → is_of_link plan link (record { side = side; line = line })
      ≡ false) → op_of after line stream ≡ op_of h line stream
  pub sealed : sealed_packets plan after ≡ sealed_packets plan h
  pub made : draws after ≡ draws h
  pub memory : writes plan after ≡ writes plan h
  pub reads : (port : PortName) → (port.line == link) ≡ false → waiting_reads plan after port ≡ waiting_reads plan h port

-- ---- the law

pub record Clears (plan : Plan) (h after : History) (link : ℕ) : Type 0 where
  pub ends : AreClear plan after link
  pub streams : AreDropped plan after link
  -- no read waits at a port of the link, and nothing at its switch
  pub reads : (port : PortName) → port.line ≡ link → waiting_reads plan after port ≡ []
  pub switch : (d : Direction) → has_hop plan link ≡ true → hop_waiting plan after link d ≡ []
  pub interfaces : (x : Site) → x.link ≡ link → IsAsNew plan after x
  pub rest : IsLeft plan h after link

abbrev pub ResetsLink : Plan → History → Event → Verdict → Type 0
ResetsLink plan h (Reset link ends) (v.Reset l) =
    ends ≡ reset_ends plan link → Clears plan h ((Reset link ends, v.Reset l) ∷ h) link
ResetsLink plan h e w = Unit {0}

-- at each reset of a link, which names the ends that the topology has there
abbrev pub ResetLaw : Plan → History → Type 0
ResetLaw plan h = AtPairs (ResetsLink plan) h
