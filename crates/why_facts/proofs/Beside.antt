-- The facts of resets, and of what is shown of the memory of interfaces.
use Rattle.std.proofs.Common.{◌≡◌, ℕ, ◌==◌, ◌∷◌, ◌++◌, List, [], Option, Some, None, refl, ap, ◌∙◌}
use Rattle.std.specs.Option.{option_map}
use Rattle.ide_types.specs.declared.port.PortName.{PortName}
use Rattle.ide_types.specs.declared.plan.Plan.{Plan}
use Rattle.ide_types.specs.declared.stream.StreamPlan.{StreamPlan}
use Rattle.spec_keys.specs.History.{History}
use Rattle.spec_links.specs.Plan.{streams_of}
use Rattle.spec_interfaces.specs.Sites.{Site, sites, site_at}
use Rattle.machine_whole.specs.Interfaces.{Face, find_face}
use Rattle.machine_whole.specs.InterfacesStand.{face_at}
use Rattle.machine_whole.specs.Machine.{Whole}
use Rattle.machine_whole.specs.Stands.{WholeStandsFor}
use Rattle.machine_whole.proofs.Streams.{status_all}
use Rattle.why_facts.specs.Forms.{clears_fact}
use Rattle.why_facts.specs.Due.{cleared_due, reset_facts_due, bar_facts_due}
use Rattle.why_facts.specs.Kept.{cleared_in, reset_facts_in, shown_in}
use Rattle.why_facts.proofs.Operations.{status_is}
use Rattle.why_facts.proofs.Sites.{found_is, with_face}

-- ---- resets

cleared_is : (plan : Plan) (w : Whole) (h : History) → WholeStandsFor plan w h → (end : PortName) (ss : List StreamPlan)
    → cleared_in plan w end ss ≡ cleared_due plan h end ss
cleared_is plan w h stands end [] = refl
cleared_is plan w h stands end (s ∷ ss) = λ i.
    clears_fact plan end s.id (status_all plan w.links h stands.links.ports_stand end.side end.line s.id i)
    ∷ (status_is plan w h stands end.line s.id i ++ cleared_is plan w h stands end ss i)

pub reset_is : (plan : Plan) (w : Whole) (h : History) → WholeStandsFor plan w h → (es : List PortName)
    → reset_facts_in plan w es ≡ reset_facts_due plan h es
reset_is plan w h stands [] = refl
reset_is plan w h stands (e ∷ es) = λ i.
    cleared_is plan w h stands e (streams_of plan e.line) i ++ reset_is plan w h stands es i

-- ---- what is shown

shown_by : (plan : Plan) (h : History) (bar : ℕ) (o : Option Site)
    → shown_in bar (option_map (with_face plan h) o) ≡ bar_facts_due plan h bar o
shown_by plan h bar None = refl
shown_by plan h bar (Some x) = refl

pub shown_is : (plan : Plan) (w : Whole) (h : History) → WholeStandsFor plan w h → (interface bar : ℕ)
    → shown_in bar (find_face (λ x. x.number == interface) (sites plan) w.faces.list)
    ≡ bar_facts_due plan h bar (site_at plan interface)
shown_is plan w h stands interface bar =
    ap (λ (fs : List Face). shown_in bar (find_face (λ x. x.number == interface) (sites plan) fs)) stands.faces.faces
    ∙ (ap (shown_in bar) (found_is (λ x. x.number == interface) (face_at plan h) (sites plan))
    ∙ shown_by plan h bar (site_at plan interface))
