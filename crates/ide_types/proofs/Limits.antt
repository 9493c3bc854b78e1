-- A topology of any version has at most 64 interfaces.
use Rattle.std.proofs.Common.{◌≤◌, ◌==◌, ℕ, Bool, true, false, length, if◌then◌else◌, arith}
use Rattle.std.specs.Prelude.{sum_by}
use Rattle.ide_types.specs.declared.plan.LinkPlan.{LinkPlan}
use Rattle.ide_types.specs.declared.plan.Plan.{Plan}
use Rattle.ide_types.specs.Fits.{FitsPlan}

by_version : (newer : Bool) (n : ℕ) → n ≤ (if newer then 64 else 32) → n ≤ 64
by_version true n few = few
by_version false n few = omega (arith, few)

pub few_interfaces : (plan : Plan) → FitsPlan plan → sum_by (λ (l : LinkPlan). length l.interfaces) plan.links ≤ 64
few_interfaces plan fits = by_version (plan.version == 2) _ fits.interfaces_most
