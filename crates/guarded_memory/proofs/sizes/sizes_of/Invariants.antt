use Rattle.std.proofs.Common.{◌≡◌, map, take}
use Rattle.guarded_memory.specs.Contents.{page_counts}
use Rattle.guarded_memory.proofs.sizes.sizes_of.Given as goal

abbrev pub invariant-loop-plan : goal.invariant-loop-plan
invariant-loop-plan l = l.sizes.items ≡ map page_counts (take l.plan-index l.interfaces)
