-- An interface that is seen is one of the machine.
use Rattle.std.specs.Prelude.{ℕ, ◌≡◌, Option, Some, None}
use Rattle.ide_types.specs.declared.interface.InterfacePlan.{InterfacePlan}
use Rattle.machine_whole.specs.Interfaces.{Face}
use Rattle.spec_interfaces.specs.Sites.{Site}
use Rattle.spec_interfaces.specs.Views.{bound_if}
use Rattle.interface_state.specs.{DeviceTdi, state_code}
use Rattle.why_facts.specs.Forms.{reported_facts}
use Rattle.why_facts.specs.declared.appends.faces.FaceSeen.{FaceSeen}
use Rattle.why_facts.specs.{grant_seen, reported_seen}

-- it is this interface, of which the machine keeps this; `draw` is that of its stream, and `tdis` and `plans` are the
-- interfaces at devices and as they are laid out, by their numbers
pub record IsFaceSeen (draw : ℕ → ℕ → ℕ) (tdis : ℕ → Option DeviceTdi) (plans : ℕ → Option InterfacePlan)
    (y : Site × Face) (f : FaceSeen) : Type 0
  where
    pub number : f.number ≡ y.0.number
    pub state : f.state ≡ state_code y.1.tdi.state
    pub link : f.manager.link ≡ y.0.link
    pub stream : f.manager.stream ≡ y.0.plan.stream
    pub view : f.manager.view ≡ y.1.managed.view
    pub needs : f.manager.needs ≡ y.1.managed.needs
    pub started : f.manager.started ≡ y.1.managed.started
    pub draw_is : f.manager.draw ≡ draw y.0.link y.0.plan.stream
    pub bound : grant_seen f ≡ bound_if y.1.managed.view y.0.plan.stream y.1.managed.floor
    pub tdi : tdis f.number ≡ Some y.1.tdi
    pub reported : reported_seen f.manager.reported ≡ reported_facts y.1.managed.view y.1.managed.reported
    pub laid_out : plans f.number ≡ Some y.0.plan

-- the interface that is looked for, or none
abbrev pub AreFacesSeen : (ℕ → ℕ → ℕ) → (ℕ → Option DeviceTdi) → (ℕ → Option InterfacePlan) → Option (Site × Face)
    → Option FaceSeen → Type 0
AreFacesSeen draw tdis plans None None = Unit {0}
AreFacesSeen draw tdis plans (Some y) (Some f) = IsFaceSeen draw tdis plans y f
AreFacesSeen draw tdis plans _ _ = ⊥
