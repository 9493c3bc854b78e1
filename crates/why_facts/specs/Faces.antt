-- An interface, by what is seen of it at its device and at the manager.
use Rattle.std.specs.Prelude.{Bool, List, [], ◌∷◌, Option, Some, None}
use Rattle.ide_types.specs.declared.binding.Binding.{Binding}
use Rattle.interface_host.specs.Views.{grant_by}
use Rattle.told_facts.specs.declared.fact.Fact.{Fact}
use Rattle.told_facts.specs.declared.fact.InterfaceFact.TheVariants as face
use Rattle.told_facts.specs.declared.fact.Fact.TheVariants as fact
use Rattle.why_facts.specs.Forms.{bound_facts, interface_fact}
use Rattle.why_facts.specs.declared.appends.faces.FaceSeen.{FaceSeen}

abbrev pub grant_seen : FaceSeen → Option Binding
grant_seen f = grant_by f.manager.stream f.manager.floor

abbrev pub face_seen : FaceSeen → List Fact
face_seen f =
    interface_fact f.number f.state
    ∷ fact.Interface (face.View f.manager.view)
    ∷ fact.Interface (face.Needs f.manager.needs)
    ∷ bound_facts (grant_seen f)

abbrev pub reported_seen : Option Bool → List Fact
reported_seen None = []
reported_seen (Some reported) = fact.Interface (face.Reported reported) ∷ []
