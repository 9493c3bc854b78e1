pub mod Ends
pub mod Keepers
pub mod PairKeepers
pub mod Hosts
pub mod DeviceEnds
pub mod InterfaceKeepers
pub mod LineEnds
-- what clauses and crates above cite
pub use Rattle.link_ends.specs.DeviceEnds.{secure_or_live, DeviceEnd, new_device, secure_at, settled_device}
pub use Rattle.link_ends.specs.DeviceEnds.{reply_given, after_call, asked_device, device_trusting, peer_trusting}
pub use Rattle.link_ends.specs.declared.pair.PairEnds.{PairEnds}
pub use Rattle.join_keys.specs.Joined.{IsJoined, KeysKept, OperationsJoin, draws_by, host_of, pool_by, touched_by}
pub use Rattle.join_keys.specs.Joined.{verdict_due}
pub use Rattle.join_keys.specs.Paired.{PairKeysKeptIn}
pub use Rattle.join_keys.specs.Walks.{StreamEnds, WalkedEnds, begun_ends, event_walk, walk_on}
pub use Rattle.ide_types.specs.Ports.{device_port}
pub use Rattle.link_ends.specs.LineEnds.{own_direction, at_end, call_at_end, shown_end, unfinished_end, called_line_end}
pub use Rattle.link_ends.specs.LineEnds.{line_end_after, answered_end, end_reply, new_pair, line_end_in, with_end}
pub use Rattle.link_ends.specs.LineEnds.{reset_line_end, reset_pair}
