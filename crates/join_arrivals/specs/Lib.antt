pub mod Events
pub mod Accesses
pub mod Few
pub mod Ways
-- what clauses and crates above cite
pub use Rattle.join_ends.specs.Turns.{AccessesTurn, AreLeftBy, carried_next, same_floors}
pub use Rattle.join_arrivals.specs.Ways.{way_of}
pub use Rattle.join_ends.specs.{InterfacesView, KeeperView, LinkEnds, arrival_verdict, effects_from, grants_in, of_unit}
pub use Rattle.join_ends.specs.{packet_write, secure_or_live, switched_each, unit_waits, unit_writes, writes_by}
pub use Rattle.join_ends.specs.{EndsUnitsAtMost, WaitsAtEnd, settled_by_side, EndsView, live_at_port, live_of}
pub use Rattle.join_ends.specs.{peer_live, port_on, AreLinks, IsBounded, state_of, LinePlace, Link, Near, Pair}
pub use Rattle.arrival_verdicts.specs.Verdicts.{claimed_effect, head_effect, packet_effect, packet_stored}
