pub mod Turns
-- what clauses and crates above cite
pub use Rattle.all_ends.specs.{EndsView, InterfacesView, IsAtBothEnds, IsJoined, IsOperated, IsWalked, KeeperView}
pub use Rattle.all_ends.specs.{KeysKept, LinkEnds, Operates, OperationsJoin, PairEnds, StreamEnds, WalkedEnds}
pub use Rattle.all_ends.specs.{begun_ends, ends_found, event_walk, host_of, pool_by, unit_in, verdict_due}
pub use Rattle.all_ends.specs.{waiting_reads_after, walk_on, with_port_on, unit_tlps, port_in, IsAtBoth, IsPairOperated}
pub use Rattle.all_ends.specs.{IsPairWalked, PairOperates, pair_found, arrival_verdict, effects_from, grants_in}
pub use Rattle.all_ends.specs.{of_unit, packet_write, secure_or_live, switched_each, unit_waits, unit_writes, writes_by}
pub use Rattle.all_ends.specs.AllEnds.{Arrives, ArrivesAtEnd, Comes, Leaves, OperatesAt, OperatesByPlace}
pub use Rattle.all_ends.specs.AllEnds.{OperatesOnLink, OperatesOnNear, OperatesOnPair, link_statuses, WaitsAtEnd}
pub use Rattle.all_ends.specs.AllEnds.{settled_by_side}
pub use Rattle.all_ends.specs.Ends.{line_place, pair_port, port_at_place, port_on, settled_place, live_at_port, live_of}
pub use Rattle.all_ends.specs.Ends.{peer_live}
pub use Rattle.all_ends.specs.States.{AreLinks, IsBounded, IsLink, IsPair, IsPort, KeptBy, StreamKept, name_of, rows_of}
pub use Rattle.all_ends.specs.States.{EndsUnitsAtMost, state_of}
pub use Rattle.all_ends.specs.declared.places.LinePlace.{LinePlace}
pub use Rattle.all_ends.specs.declared.places.LinePlace.TheVariants.{Link, Near, Pair}
pub use Rattle.law_reads.specs.Waiting.{waiting_next}
