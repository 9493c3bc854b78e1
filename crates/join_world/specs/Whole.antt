-- What is kept of links, interfaces and memory is a state of the whole machine.
use Rattle.std.specs.Prelude.{ℕ, ◌≡◌, true, is_some, List, length, slice_get, Some, IfSome}
use Rattle.std.specs.List.{slice_index_or}
use Rattle.ide_types.specs.Lines.{peer_line}
use Rattle.ide_types.specs.declared.plan.Plan.{Plan}
use Rattle.ide_types.specs.declared.plan.LinkPlan.{LinkPlan}
use Rattle.ide_types.specs.declared.plan.PeerPlan.{PeerPlan}
use Rattle.spec_interfaces.specs.Peers.{live_by_id}
use Rattle.spec_interfaces.specs.Sites.{Site, sites, nonces_of}
use Rattle.machine_whole.specs.Interfaces.{Face}
use Rattle.machine_whole.specs.Machine.{Whole, machine_secure, live_draw_at_end}
use Rattle.interface_state.specs.Machine.{DeviceTdi, bound_link_stream}
use Rattle.interface_state.specs.Bindings.{binds}
use Rattle.interface_state.specs.Held.{IsBound}
use Rattle.interface_host.specs.Views.{HostTdi}
use Rattle.join_interfaces.specs.Faces.{IsFace}
use Rattle.trusted_memory.specs.{MemoryContents, IsLeftBy}
use Rattle.whole_links.specs.{InterfacesView, LinkEnds, place_on_links}

-- Interface number `i` at the manager and at the device of its link: they keep of it what the machine keeps. A lock
-- stands only while its stream is Secure at the device's port, and a binding only while the stream between devices is
-- Secure at the device's end of it.
pub record IsPlaced (plan : Plan) (ends : List LinkEnds) (m : InterfacesView) (w : Whole) (i : ℕ) (x : Site) : Type 0
  where
    pub link_ends : LinkEnds
    pub ends_are : slice_get ends x.link ≡ Some link_ends
    pub place : ℕ
    pub located_is : place_on_links 0 i ends ≡ Some (x.link, place)
    pub tdi : DeviceTdi
    pub tdi_is : slice_get link_ends.device.interfaces.interfaces place ≡ Some tdi
    pub interface : HostTdi
    pub interface_is : slice_get m.interfaces i ≡ Some interface
    pub face : Face
    pub face_is : slice_get w.faces.list i ≡ Some face
    pub keeps : IsFace (w.draw x.link x.plan.stream) x interface tdi face
    pub secure : IfSome (bound_link_stream tdi.state) (λ stream. machine_secure plan w.links x.link stream ≡ true)
    pub bound : (stream : ℕ) → binds stream tdi.bindings ≡ true
        → is_some (live_by_id (live_draw_at_end plan w.links) plan.peers x.link stream) ≡ true
    pub held : IsBound tdi.state tdi.bindings

-- the device of a link gives the nonces of the topology in their order, and has the link's interfaces
pub record IsDevice (plan : Plan) (w : Whole) (link : ℕ) (l : LinkEnds) : Type 0 where
  pub nonces : l.device.interfaces.nonces ≡ nonces_of plan link
  pub used : l.device.interfaces.used ≡ w.faces.used link
  pub many : (p : LinkPlan) → slice_get plan.links link ≡ Some p
      → length l.device.interfaces.interfaces ≡ length p.interfaces

-- Each interface of the topology stands at its place, and there are no others; memory holds what the admitted writes
-- left.
pub record IsBeside (plan : Plan) (ends : List LinkEnds) (m : InterfacesView) (memory : MemoryContents) (w : Whole) :
    Type 0
  where
    pub portion : m.portion ≡ plan.portion
    pub managed : length m.interfaces ≡ length (sites plan)
    pub faced : length w.faces.list ≡ length (sites plan)
    pub devices : (link : ℕ) (l : LinkEnds) → slice_get ends link ≡ Some l → IsDevice plan w link l
    pub placed : (i : ℕ) (x : Site) → slice_get (sites plan) i ≡ Some x → IsPlaced plan ends m w i x
    pub regions : memory.regions ≡ plan.memory
    pub written : IsLeftBy memory w.written

-- the draw that the manager has of each stream between devices, by its number, is that of the stream
pub record AreDrawn (plan : Plan) (draws : List ℕ) (draw : ℕ → ℕ → ℕ) : Type 0 where
  pub many : length draws ≡ 8
  pub each : (p : ℕ) (q : PeerPlan) → slice_get plan.peers p ≡ Some q
      → slice_index_or draws p 0 ≡ draw (peer_line p) q.id
