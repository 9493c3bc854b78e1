pub mod Calls
pub mod Touches
pub mod Walks
pub mod Joined
-- what crates above cite
pub use Rattle.join_keys.specs.Walks.{StreamEnds, shown_stream, port_called, judged_bytes, Exchanged, exchange_outcome}
pub use Rattle.join_keys.specs.Walks.{ends_after_exchange, WalkedEnds, walk_on, begun_ends, event_walk}
pub use Rattle.join_keys.specs.Joined.{host_of, KeysKept, IsJoined, OperationsJoin}
pub use Rattle.join_keys.specs.Calls.{StreamCall, all_called, stream_call, all_called_at_side, lane_call, lane_key}
pub use Rattle.join_keys.specs.Calls.{exchange_call, exchanges_called}
pub use Rattle.join_keys.specs.Touches.{IsSound, host_calls, device_calls, IsReached, CallsAreTouches}
pub mod Paired
pub use Rattle.spec_links.specs.Plan.{with_id}
pub use Rattle.machine_operations.specs.{changed_by_id, found_by_id, port_at}
