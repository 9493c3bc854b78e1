pub mod Waiting
pub mod Directions
-- what clauses and crates above cite
pub use Rattle.hop_queues.specs.declared.queue.HopTlp.{HopTlp}
pub use Rattle.hop_queues.specs.declared.queues.HopQueues.{HopQueues}
pub use Rattle.hop_queues.specs.Waiting.{most_bytes, WaitingTlps}
pub use Rattle.hop_queues.specs.Directions.{queue_of, with_queue, all_roomy}
