-- Reads that wait are answered in order.
use Rattle.ide_types.specs.declared.plan.Plan.{Plan}
use Rattle.spec_keys.specs.History.{History}
use Rattle.spec_links.specs.Cause.{CauseLaw}
pub use Rattle.spec_links.specs.Queues.{TakesFirst, FewWait}

abbrev pub ReadsInOrder : Type 0
ReadsInOrder = (plan : Plan) (h : History) → CauseLaw plan h → TakesFirst plan h × FewWait plan h
