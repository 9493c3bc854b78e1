use Rattle.std.proofs.Common.{subst, sym}
use Rattle.ide_types.specs.declared.plan.Plan.{Plan}
use Rattle.ide_types.specs.Fits.{FitsPlan}
use Rattle.join_accesses.specs.{IsNewWorld, world_of}
use Rattle.world.proofs.First.{first_is, first_world}
use Rattle.world.proofs.world.World.make.Goals as goal

pub invariant_of-result : goal.invariant_of-result
invariant_of-result c = first_world c.new-plan.result c.in_ok-links.links c.whole_begins.ensures
    (subst (λ (p : Plan). FitsPlan p) (sym c.new-plan.ensures) c.requires) c.in_ok-links.ensures

pub returns : goal.returns
returns c = subst (λ (p : Plan). IsNewWorld p (world_of c.new-plan.result c.in_ok-links.links)) c.new-plan.ensures
    (first_is c.new-plan.result c.in_ok-links.links c.whole_begins.ensures
    (subst (λ (p : Plan). FitsPlan p) (sym c.new-plan.ensures) c.requires) c.in_ok-links.ensures)
