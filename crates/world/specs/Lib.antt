-- what clauses and crates above cite
pub use Rattle.join_accesses.specs.{WorldView, WorldStandsFor, IsNewWorld, IsStep, AreLinks, IsPlaced, IsWorld}
pub use Rattle.join_accesses.specs.{LinkEnds, WholeLinks, carried_on_link, interface_named, links_state, peer_live}
pub use Rattle.join_accesses.specs.{place_on_links, port_on, reads_at, statuses_of_ends, stream_named}
pub use Rattle.join_accesses.specs.{interface_of_ends, world_of}
