-- A topology that is loaded meets every bound and rule.
use Rattle.std.proofs.Common.{◌≡◌, length, Bool, true, false, Option, Some, None, Result, Ok, Err}
use Rattle.std.specs.Prelude.{nat_lt, if◌then◌else◌}
use Rattle.toml.specs.Data.{Members}
use Rattle.ide_types.specs.declared.plan.Plan.{Plan}
use Rattle.ide_types.specs.Fits.{FitsPlan}
use Rattle.toml_walk.specs.declared.fault.PlanFault.{PlanFault}
use Rattle.topology.specs.Meaning.{document, plan_of, plan_of_document}
use Rattle.topology.proofs.PlanFits.{given_fits}
use Rattle.file_runs.specs.Gain.{Text}
use Rattle.script_runs.specs.declared.topologies.Loaded.TheVariants.{Sound, Long}
use Rattle.script_runs.specs.Loading.{topology_limit}
use Rattle.script_runs.specs.Topologies.{by_plan, loaded_topology}

of_document : (d : Option Members) (plan : Plan) → plan_of_document d ≡ Ok plan → FitsPlan plan
of_document None plan is = absurd cc
of_document (Some ms) plan is = given_fits ms (Ok plan) is

of_result : (r : Result Plan PlanFault) (plan : Plan) → by_plan r ≡ Sound plan → r ≡ Ok plan
of_result (Ok p) plan is = cc
of_result (Err f) plan is = absurd cc

pub loaded_fits : (bytes : Text) (plan : Plan) → loaded_topology bytes ≡ Sound plan → FitsPlan plan
loaded_fits bytes plan is = by_size (nat_lt topology_limit (length bytes)) is
  where
    by_size : (b : Bool) → (if b then Long else by_plan (plan_of bytes)) ≡ Sound plan → FitsPlan plan
    by_size true is = absurd cc
    by_size false is = of_document (document bytes) plan (of_result (plan_of bytes) plan is)
