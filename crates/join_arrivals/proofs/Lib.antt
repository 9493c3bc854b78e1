pub mod Arrivals
pub mod Accesses
mod Told
pub mod Operations
pub mod Held
pub mod Units
pub mod Known
pub mod Routes
pub mod Switched
-- what proofs above cite
pub use Rattle.join_ends.proofs.Turns.{reads_same, rests_all, turn_at}
pub use Rattle.join_arrivals.proofs.Known.{sealed_there}
pub use Rattle.join_arrivals.proofs.Routes.{Apart, Between, FarHop, IsApart, IsOnWay, LineIs, NearHop, OfLink, OnWay}
pub use Rattle.join_arrivals.proofs.Routes.{StandsAt, between_port, far_port, hop_aggregation, line_of, near_port}
pub use Rattle.join_arrivals.proofs.Routes.{port_own, reached_there, sealing_there, stands_at}
pub use Rattle.join_arrivals.proofs.Switched.{few_queued, queued_behind, switched_few, switched_opens, switched_reads}
pub use Rattle.join_ends.proofs.Located.{is_located}
pub use Rattle.join_ends.proofs.Resets.{keeper_reset, links_reset, reset_grows, state_reset}
pub use Rattle.join_ends.proofs.Sends.{at_port, cut_joined, lengths_join, sealed_on, send_keeps, sends_as}
pub use Rattle.join_ends.proofs.Sends.{on_id, seal_is_send, seals_as, state_after_send, sent_at_port}
pub use Rattle.join_ends.proofs.Streams.{IsName, at_side, end_found, name_is, none_found, op_is, planned, some_op}
pub use Rattle.join_ends.proofs.Streams.{unnamed}
pub use Rattle.join_ends.proofs.{own_tlps, switch_admits_none, unit_agrees, waits_open, writes_agree, seen_same, there}
pub use Rattle.join_ends.proofs.{closed_at, port_is, wired, Grows, Keeps, bounded_then, end_grows, end_kept, grows_then}
pub use Rattle.join_ends.proofs.{settled_grows, settled_kept, settled_rows, stays_all, AreLinks, BesidePorts, Bool}
pub use Rattle.join_ends.proofs.{Device, EndsView, Host, LinkEnds, LinkPacket, LinkState, List, None, Option, Packet}
pub use Rattle.join_ends.proofs.{PairEnds, Plan, PortEnd, PortName, Side, Some, UnitName, [], ap, append-nil, arith}
pub use Rattle.join_ends.proofs.{changed_at, false, if◌then◌else◌, length, length-set, line_place, peer_live, map}
pub use Rattle.join_ends.proofs.{nat_tests, none-some, option_map, pair_port, port_at_place, port_in, port_on, refl}
pub use Rattle.join_ends.proofs.{rows_of, same_Some, settled_ends, settled_link, slice_get, slice_set, state_of, subst}
pub use Rattle.join_ends.proofs.{suc, sym, take_step, true, with_pair_port, with_port, with_port_at_place, with_port_on}
pub use Rattle.join_ends.proofs.{zero, ℕ, ◌++◌, ◌+◌, ◌-◌, ◌<◌, ◌==◌, ◌∙◌, ◌∷◌, ◌≡◌, ◌≤◌}
pub use Rattle.arrival_verdicts.proofs.Writes.{IsEndOf, IsTaken, OpensAs, taken_is}
