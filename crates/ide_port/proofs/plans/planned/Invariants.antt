use Rattle.ide_port.proofs.Terms.{◌≡◌, take, new_stream_ends}
use Rattle.ide_port.proofs.plans.planned.Given as goal

abbrev pub invariant-loop-plan : goal.invariant-loop-plan
invariant-loop-plan l = l.streams.items ≡ new_stream_ends l.side l.limit (take l.plan-index l.plans)
