-- What is taken of a plan: its streams have IDs of one byte and units of at most eight packets.
use Rattle.std.specs.Prelude.{ℕ, ◌≡◌, ◌<◌, ◌≤◌, Some}
use Rattle.ide_types.specs.declared.plan.Plan.{Plan}
use Rattle.ide_types.specs.declared.stream.StreamPlan.{StreamPlan}
use Rattle.spec_links.specs.Plan.{stream_plan}

pub record StreamsFit (plan : Plan) : Type 0 where
  pub id : (line stream : ℕ) (s : StreamPlan) → stream_plan plan line stream ≡ Some s → stream < 256
  pub one : (line stream : ℕ) (s : StreamPlan) → stream_plan plan line stream ≡ Some s → 1 ≤ s.aggregation
  pub eight : (line stream : ℕ) (s : StreamPlan) → stream_plan plan line stream ≡ Some s → s.aggregation ≤ 8
