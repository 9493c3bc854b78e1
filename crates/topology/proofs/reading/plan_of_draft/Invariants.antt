use Rattle.std.proofs.Common.{◌≡◌, map}
use Rattle.topology.specs.Meaning.{link_of}
use Rattle.topology.proofs.reading.plan_of_draft.Given as goal

abbrev pub invariant-loop-draft : goal.invariant-loop-draft
invariant-loop-draft l = l.all.items ≡ map link_of l.yielded
