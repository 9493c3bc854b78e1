-- What is kept stands for the whole history.
use Rattle.std.specs.Prelude.{ℕ, ◌≡◌, ◌∷◌, [], map}
use Rattle.ide_types.specs.declared.plan.Plan.{Plan}
use Rattle.ide_types.specs.declared.port.PortName.{PortName}
use Rattle.script_events.specs.declared.event.Event.{Event}
use Rattle.spec_keys.specs.History.{History}
use Rattle.spec_interfaces.specs.Views.{stream_draw}
use Rattle.machine_whole.specs.InterfacesStand.{FacesStandFor}
use Rattle.ide_types.specs.declared.direction.Direction.{Direction}
use Rattle.spec_links.specs.Memory.{writes, waiting_reads, hop_waiting}
use Rattle.spec_links.specs.Guarded.{link_happenings}
use Rattle.spec_interfaces.specs.Sites.{sites}
use Rattle.spec_interfaces.specs.Floors.{device_floor}
use Rattle.machine_whole.specs.Accesses.{AccessState}
use Rattle.spec_links.specs.Due.{due}
use Rattle.machine_operations.specs.{PortsStandFor}
use Rattle.machine_whole.specs.Machine.{Whole, new_whole, whole_step}

pub record AccessesStandFor (plan : Plan) (a : AccessState) (h : History) : Type 0 where
  pub waiting : (port : PortName) → a.waiting port ≡ waiting_reads plan h port
  pub floors : a.floors ≡ map (device_floor plan h) (sites plan)
  pub happened : (link : ℕ) → a.happened link ≡ link_happenings plan h link
  pub carried : (link : ℕ) (d : Direction) → a.carried link d ≡ hop_waiting plan h link d

pub record WholeStandsFor (plan : Plan) (w : Whole) (h : History) : Type 0 where
  pub links : PortsStandFor plan w.links h
  pub faces : FacesStandFor plan w.faces h
  pub draw : w.draw ≡ stream_draw h
  pub written : w.written ≡ writes plan h
  pub accesses : AccessesStandFor plan w.accesses h

abbrev pub WholeBegins : Type 0
WholeBegins = (plan : Plan) → WholeStandsFor plan (new_whole plan) []

abbrev pub WholeSteps : Type 0
WholeSteps =
    (plan : Plan) (w : Whole) (h : History) (e : Event) → WholeStandsFor plan w h
    → ((whole_step plan w e).0 ≡ due plan h e) × WholeStandsFor plan (whole_step plan w e).1
    ((e, (whole_step plan w e).0) ∷ h)
