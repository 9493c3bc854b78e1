-- The facts of operations on streams.
use Rattle.std.proofs.Common.{◌≡◌, ℕ, ◌∷◌, Bool, true, false, List, [], Option, Some, None, is_some}
use Rattle.std.proofs.Common.{if◌then◌else◌, refl, ap, ◌∙◌}
use Rattle.ide_types.specs.{is_link_line}
use Rattle.ide_types.specs.declared.port.Side.TheVariants.{Host}
use Rattle.ide_types.specs.declared.plan.Plan.{Plan}
use Rattle.spec_keys.specs.Operations.{StreamStage}
use Rattle.spec_keys.specs.History.{History, draws, op_of, history_status}
use Rattle.spec_links.specs.Plan.{stream_plan}
use Rattle.machine_operations.specs.{find_op, ports_of, machine_status}
use Rattle.spec_keys.specs.Due.{ports_at}
use Rattle.machine_operations.proofs.Views.{ports_is}
use Rattle.machine_whole.specs.Machine.{Whole}
use Rattle.machine_whole.specs.Stands.{WholeStandsFor}
use Rattle.machine_whole.proofs.Streams.{status_all}
use Rattle.told_facts.specs.declared.fact.Fact.{Fact}
use Rattle.why_facts.specs.Forms.{establish_facts, manager_fact, refresh_facts, stop_facts}
use Rattle.why_facts.specs.Due.{if_stream}
use Rattle.why_facts.specs.Kept.{if_found}

-- of a stream that the plan has, by what is the same of the manager's state of it
of_op : (plan : Plan) (w : Whole) (h : History) → WholeStandsFor plan w h
    → (line stream : ℕ) (facts : StreamStage → List Fact) (due : List Fact) → facts (op_of h line stream) ≡ due
    → if_found (find_op plan w.links line stream) facts ≡ if_stream plan line stream due
of_op plan w h stands line stream facts due same =
    ap (λ (o : Option StreamStage). if_found o facts) (stands.links.ops_is line stream)
    ∙ by (is_some (stream_plan plan line stream))
  where
    by : (b : Bool) → if_found (if b then Some (op_of h line stream) else None) facts ≡ (if b then due else [])
    by true = same
    by false = refl

ports_are : (plan : Plan) (w : Whole) (h : History) → WholeStandsFor plan w h → ports_of plan w.links ≡ ports_at h
ports_are plan w h stands = ports_is plan w.links h stands.links.ports_stand

pub establish_is : (plan : Plan) (w : Whole) (h : History) → WholeStandsFor plan w h → (line stream : ℕ)
    → if_found (find_op plan w.links line stream)
    (λ q. establish_facts plan (ports_of plan w.links) line stream q w.links.draws)
    ≡ if_stream plan line stream (establish_facts plan (ports_at h) line stream (op_of h line stream) (draws h))
establish_is plan w h stands line stream = of_op plan w h stands line stream _ _
    (λ i. establish_facts plan (ports_are plan w h stands i) line stream (op_of h line stream)
    (stands.links.draws_is i))

pub refresh_is : (plan : Plan) (w : Whole) (h : History) → WholeStandsFor plan w h → (line stream : ℕ)
    → (if is_link_line line then if_found (find_op plan w.links line stream)
    (λ q. refresh_facts plan (ports_of plan w.links) line stream q w.links.draws
    (machine_status plan w.links Host line stream)) else [])
    ≡ (if is_link_line line then if_stream plan line stream
    (refresh_facts plan (ports_at h) line stream (op_of h line stream) (draws h) (history_status h Host line stream))
    else [])
refresh_is plan w h stands line stream = ap (λ (xs : List Fact). if is_link_line line then xs else [])
    (of_op plan w h stands line stream _ _
    (λ i. refresh_facts plan (ports_are plan w h stands i) line stream (op_of h line stream)
    (stands.links.draws_is i) (status_all plan w.links h stands.links.ports_stand Host line stream i)))

pub stop_is : (plan : Plan) (w : Whole) (h : History) → WholeStandsFor plan w h → (line stream : ℕ)
    → if_found (find_op plan w.links line stream)
    (λ q. stop_facts plan (ports_of plan w.links) line stream q w.links.draws)
    ≡ if_stream plan line stream (stop_facts plan (ports_at h) line stream (op_of h line stream) (draws h))
stop_is plan w h stands line stream = of_op plan w h stands line stream _ _
    (λ i. stop_facts plan (ports_are plan w h stands i) line stream (op_of h line stream) (stands.links.draws_is i))

pub status_is : (plan : Plan) (w : Whole) (h : History) → WholeStandsFor plan w h → (line stream : ℕ)
    → if_found (find_op plan w.links line stream) (λ q. manager_fact q ∷ [])
    ≡ if_stream plan line stream (manager_fact (op_of h line stream) ∷ [])
status_is plan w h stands line stream = of_op plan w h stands line stream _ _ refl
