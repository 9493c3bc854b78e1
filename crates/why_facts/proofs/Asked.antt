-- The facts of events on interfaces.
use Rattle.std.proofs.Common.{◌≡◌, ℕ, ◌==◌, ◌++◌, Bool, true, false, List, [], map, Option, Some, None}
use Rattle.std.proofs.Common.{if◌then◌else◌, is_some, refl, ap, ◌∙◌}
use Rattle.std.specs.Option.{option_map}
use Rattle.ide_types.specs.declared.plan.Plan.{Plan}
use Rattle.script_events.specs.declared.event.InterfaceEvent.{InterfaceEvent}
use Rattle.script_events.specs.declared.event.InterfaceEvent.TheVariants as ie
use Rattle.spec_keys.specs.History.{History}
use Rattle.spec_interfaces.specs.Peers.{has_peer}
use Rattle.spec_interfaces.specs.Sites.{Site, sites, site_at}
use Rattle.spec_interfaces.specs.Devices.{used_at}
use Rattle.machine_whole.specs.Interfaces.{Face, Streams, asked_state_of_face, find_face}
use Rattle.machine_whole.specs.InterfacesStand.{face_at, streams_at}
use Rattle.spec_links.specs.Plan.{stream_plan}
use Rattle.machine_whole.specs.Machine.{Whole, whole_streams}
use Rattle.machine_whole.specs.Stands.{WholeStandsFor}
use Rattle.machine_whole.proofs.Streams.{peer_planned, seen_at, streams_are}
use Rattle.told_facts.specs.declared.fact.Fact.{Fact}
use Rattle.told_facts.specs.Exchanges.{interface_exchanges}
use Rattle.why_facts.specs.Forms.{asked_besides, asked_facts, bind_facts, face_facts, reported_facts}
use Rattle.why_facts.specs.Due.{asked_facts_due, asked_site_due}
use Rattle.why_facts.specs.Kept.{asked_face, asked_facts_in_state}
use Rattle.why_facts.proofs.Sites.{found_is, with_face}

-- the manager's state is read of a stream that the plan has, and of no other
besides_same : (plan : Plan) (h : History) (used : ℕ → ℕ) (x : Site) (f : Face) (e : InterfaceEvent)
    → asked_besides plan x (asked_state_of_face plan (seen_at plan h) used x f) e
    ≡ asked_besides plan x (asked_state_of_face plan (streams_at h) used x f) e
besides_same plan h used x f (ie.Lock i loss) = refl
besides_same plan h used x f (ie.Start i loss) = refl
besides_same plan h used x f (ie.Halt i loss) = refl
besides_same plan h used x f (ie.Bind i line stream loss) =
    by (has_peer plan.peers x.link line stream) (λ is. peer_planned plan x.link line stream is)
  where
    by : (b : Bool) → (b ≡ true → is_some (stream_plan plan line stream) ≡ true)
        → (if b then bind_facts (asked_state_of_face plan (seen_at plan h) used x f) line stream else [])
        ≡ (if b then bind_facts (asked_state_of_face plan (streams_at h) used x f) line stream else [])
    by true known = rw (known refl) refl
    by false known = refl
besides_same plan h used x f (ie.Unbind i line stream loss) = refl
besides_same plan h used x f e = refl

-- what is said of an interface, by what is read of the streams, and by how many nonces were given
abbrev facts_said : Plan → Streams → (ℕ → ℕ) → InterfaceEvent → Option (Site × Face) → List Fact
facts_said plan s used e None = []
facts_said plan s used e (Some y) = asked_facts plan y.0 (asked_state_of_face plan s used y.0 y.1) e

face_is : (plan : Plan) (w : Whole) (e : InterfaceEvent) (o : Option (Site × Face))
    → asked_face plan w e o ≡ facts_said plan (whole_streams plan w) w.faces.used e o
face_is plan w e None = refl
face_is plan w e (Some y) = refl

said_same : (plan : Plan) (h : History) (used : ℕ → ℕ) (e : InterfaceEvent) (o : Option (Site × Face))
    → facts_said plan (seen_at plan h) used e o ≡ facts_said plan (streams_at h) used e o
said_same plan h used e None = refl
said_same plan h used e (Some y) = ap
    (λ (xs : List Fact). face_facts y.0 y.1.tdi y.1.managed
    ++ reported_facts y.1.managed.view y.1.managed.reported ++ xs
    ++ interface_exchanges plan y.0.link y.0.plan y.1.tdi e)
    (besides_same plan h used y.0 y.1 e)

site_is : (plan : Plan) (h : History) (used : ℕ → ℕ) (e : InterfaceEvent) (o : Option Site) → used ≡ used_at plan h
    → facts_said plan (streams_at h) used e (option_map (with_face plan h) o) ≡ asked_site_due plan h e o
site_is plan h used e None same = refl
site_is plan h used e (Some x) same =
    ap (λ (n : ℕ → ℕ). facts_said plan (streams_at h) n e (Some (with_face plan h x))) same

pub asked_is : (plan : Plan) (w : Whole) (h : History) → WholeStandsFor plan w h → (e : InterfaceEvent) (o : Option ℕ)
    → asked_facts_in_state plan w e o ≡ asked_facts_due plan h e o
asked_is plan w h stands e None = refl
asked_is plan w h stands e (Some i) =
    face_is plan w e (find_face (λ x. x.number == i) (sites plan) w.faces.list)
    ∙ ((λ j. facts_said plan (streams_are plan w h stands.links stands.draw j) w.faces.used e
    (find_face (λ x. x.number == i) (sites plan) (stands.faces.faces j)))
    ∙ (said_same plan h w.faces.used e (find_face (λ x. x.number == i) (sites plan) (map (face_at plan h) (sites plan)))
    ∙ (ap (facts_said plan (streams_at h) w.faces.used e) (found_is (λ x. x.number == i) (face_at plan h) (sites plan))
    ∙ site_is plan h w.faces.used e (site_at plan i) stands.faces.used)))
