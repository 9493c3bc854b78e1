pub mod Managers
pub mod Sends
pub mod Operated
pub mod Streams
pub mod Resets
pub mod Located
pub mod FirstRows
pub mod FirstStreams
pub mod FirstEnds
pub mod FirstSites
pub mod Turns
-- what proofs above cite
pub use Rattle.all_ends.proofs.{IsNamed, found_id, is_asked, named_stands, own_tlps, switch_admits_none, unit_agrees}
pub use Rattle.all_ends.proofs.{waits_open, writes_agree}
pub use Rattle.all_ends.proofs.ByPlace.{by_place, changed_is, each_set, set_there, seen_same, there}
pub use Rattle.all_ends.proofs.Finds.{IsWired, closed_at, find_at, aggregation_at, port_is, put_at, state_kept, wired}
pub use Rattle.all_ends.proofs.Kept.{Grows, Keeps, KeepsEnds, KeepsPair, grows_then, keeper_kept, links_grow}
pub use Rattle.all_ends.proofs.Kept.{links_kept, near_grow, near_kept, pairs_grow, pairs_kept, place_grows, place_kept}
pub use Rattle.all_ends.proofs.Kept.{place_rows, bounded_then, end_grows, end_kept, settled_grows, settled_kept}
pub use Rattle.all_ends.proofs.Kept.{settled_rows, stays_all}
pub use Rattle.all_ends.proofs.Terms.{AreLinks, BesidePorts, Bool, Device, EndsView, Host, LinkEnds, LinkPacket}
pub use Rattle.all_ends.proofs.Terms.{LinkState, List, None, Option, Packet, PairEnds, Plan, PortEnd, PortName, Side}
pub use Rattle.all_ends.proofs.Terms.{Some, UnitName, [], ap, append-nil, arith, changed_at, false, if◌then◌else◌}
pub use Rattle.all_ends.proofs.Terms.{length, length-set, line_place, peer_live, map, nat_tests, none-some, option_map}
pub use Rattle.all_ends.proofs.Terms.{pair_port, port_at_place, port_in, port_on, refl, rows_of, same_Some}
pub use Rattle.all_ends.proofs.Terms.{settled_ends, settled_link, slice_get, slice_set, state_of, subst, suc, sym}
pub use Rattle.all_ends.proofs.Terms.{take_step, true, with_pair_port, with_port, with_port_at_place, with_port_on}
pub use Rattle.all_ends.proofs.Terms.{zero, ℕ, ◌++◌, ◌+◌, ◌-◌, ◌<◌, ◌==◌, ◌∙◌, ◌∷◌, ◌≡◌, ◌≤◌}
