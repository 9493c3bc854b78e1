-- TLPs that wait at a switch in both directions.
use Rattle.std.specs.Prelude.{true}
use Rattle.ide_types.specs.declared.direction.Direction.{Direction}
use Rattle.ide_types.specs.declared.direction.Direction.TheVariants.{Downstream, Upstream}
use Rattle.hop_queues.specs.declared.queues.HopQueues.{HopQueues}
use Rattle.hop_queues.specs.Waiting.{WaitingTlps}

abbrev pub queue_of : HopQueues → Direction → WaitingTlps
queue_of q Downstream = q.downstream
queue_of q Upstream = q.upstream

abbrev pub with_queue : HopQueues → Direction → WaitingTlps → HopQueues
with_queue q Downstream w = record q { downstream = w }
with_queue q Upstream w = record q { upstream = w }

abbrev pub all_roomy : HopQueues → HopQueues
all_roomy q = record {
  downstream = record q.downstream { has_room = true };
  upstream = record q.upstream { has_room = true };
}
