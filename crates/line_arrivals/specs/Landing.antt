-- What bytes that arrive at the port of an end make of the ends of all lines, and of what stands beside them.
use Rattle.std.specs.Prelude.{ℕ, ◌≡◌, ◌+◌, true, List, [], length, slice_get, slice_set, Option, Some}
use Rattle.ide_types.specs.declared.direction.Direction.{Direction}
use Rattle.ide_types.specs.declared.port.PortName.{PortName}
use Rattle.ide_types.specs.declared.plan.Plan.{Plan}
use Rattle.script_events.specs.declared.event.Event.{Event}
use Rattle.event_verdicts.specs.declared.verdict.Verdict.{Verdict}
use Rattle.spec_keys.specs.History.{History}
use Rattle.spec_links.specs.Plan.{has_port}
use Rattle.spec_links.specs.Ports.{port_of}
use Rattle.spec_links.specs.Packets.{arrival_at}
use Rattle.spec_links.specs.History.{ArrivedBytes}
use Rattle.spec_links.specs.Memory.{effects_under_policy}
use Rattle.spec_links.specs.Guarded.{asked_happens, happens_by_packets}
use Rattle.join_interfaces.specs.{BesidePorts, LinkPacket, stepped_arrival, PortsStandFor, unit_tlps}
use Rattle.join_interfaces.specs.{waiting_reads_after, unit_in}
use Rattle.join_arrivals.specs.{carried_next, KeeperView, grants_in, writes_by, InterfacesView, EndsView, WaitsAtEnd}
use Rattle.join_arrivals.specs.{AreLinks, IsBounded, state_of}
use Rattle.trusted_memory.specs.{MemoryContents, Leads}
use Rattle.hop_queues.specs.declared.queues.HopQueues.{HopQueues}
use Rattle.hop_queues.specs.{all_roomy}
use Rattle.link_stores.specs.declared.link.LinkAccesses.{LinkAccesses}
use Rattle.join_arrivals.specs.Accesses.{AccessesTurn, policy_in, same_floors}
use Rattle.line_arrivals.specs.Follows.{AllFollow}

-- ---- at a switch

-- There was room for the TLPs that came to the switch of this link's hop.
pub record ComesToSwitch (old : EndsView) (end : PortName) (bytes : List ℕ) (link : ℕ) (direction : Direction)
    (verdict : Verdict) (xs : List LinkAccesses) (new : EndsView) (ys : List LinkAccesses) (a : LinkAccesses) : Type 0
  where
    pub queues : HopQueues
    pub accesses_are : ys ≡ slice_set xs link (record a { carried = queues })
    pub waits : WaitsAtEnd old end bytes direction verdict (all_roomy a.carried) new queues

abbrev pub ComesTo : EndsView → PortName → List ℕ → ℕ → Direction → Verdict → List LinkAccesses → EndsView
    → List LinkAccesses → Type 0
ComesTo old end bytes link direction verdict xs new ys =
    (a : LinkAccesses) → slice_get xs link ≡ Some a → ComesToSwitch old end bytes link direction verdict xs new ys a

-- ---- anywhere

-- what is read of an event that is none on an interface
abbrev pub IsQuiet : Plan → Event → Type 0
IsQuiet plan e = (w : Verdict) (k : ℕ) → asked_happens plan e w k ≡ []

abbrev pub arrival_on : Plan → PortName → List ℕ → Option ArrivedBytes
arrival_on plan end bytes = Some (arrival_at plan end bytes)

-- effects are by what the manager says, by the reads that wait and by how the devices' interfaces stand
abbrev pub HasEffects : Plan → InterfacesView → EndsView → List LinkAccesses → BesidePorts → Type 0
HasEffects plan m old xs b = b.effects ≡ (λ port. effects_under_policy plan (policy_in m old xs) (port_of plan port))

-- if the ends are those of the plan, and stand for some history
pub record LandsIfStanding (plan : Plan) (m : InterfacesView) (end : PortName) (bytes : List ℕ) (verdict : Verdict)
    (old : EndsView) (c : MemoryContents) (xs : List LinkAccesses) (new : EndsView) (d : MemoryContents)
    (ys : List LinkAccesses) (k : KeeperView) (packets : List LinkPacket) : Type 0 where
  pub links : AreLinks plan new k
  pub follows : AllFollow old new
  pub steps : (b : BesidePorts) → c.regions ≡ plan.memory → HasEffects plan m old xs b
      → (verdict, state_of plan new k packets)
      ≡ stepped_arrival plan b (state_of plan old k packets) (arrival_on plan end bytes)
  pub leads : c.regions ≡ plan.memory → Leads c (writes_by plan (grants_in m) (state_of plan old k packets)
      (arrival_on plan end bytes) verdict) d
  pub turn : (e : Event) → IsQuiet plan e
      → let ps = unit_in plan (state_of plan old k packets) (arrival_on plan end bytes) in
      let statuses = (policy_in m old xs).statuses in
      AccessesTurn (waiting_reads_after plan statuses ps e verdict) same_floors
      (λ link. happens_by_packets plan statuses ps e verdict link)
      (carried_next (unit_tlps plan ps verdict) e verdict) xs ys

-- bytes that arrive at the port of an end
pub record Lands (plan : Plan) (m : InterfacesView) (end : PortName) (bytes : List ℕ) (verdict : Verdict)
    (old : EndsView) (c : MemoryContents) (xs : List LinkAccesses) (new : EndsView) (d : MemoryContents)
    (ys : List LinkAccesses) : Type 0 where
  pub bounded : (packets : List LinkPacket) (steps : ℕ) → IsBounded old packets steps
      → IsBounded new packets (steps + 1)
  pub many : length new.links ≡ length old.links
  pub accesses_many : length ys ≡ length xs
  pub regions : d.regions ≡ c.regions
  pub stands : (k : KeeperView) (packets : List LinkPacket) (h : History) → AreLinks plan old k
      → PortsStandFor plan (state_of plan old k packets) h → has_port plan end ≡ true
      → LandsIfStanding plan m end bytes verdict old c xs new d ys k packets
