pub mod Verdicts
pub mod Switches
pub mod Writes
-- what clauses and crates above cite
pub use Rattle.arrival_verdicts.specs.Verdicts.{end_sent_verdict, grants_in, effects_from, packet_write, packet_stored}
pub use Rattle.arrival_verdicts.specs.Verdicts.{of_unit, unit_writes, arrival_verdict}
pub use Rattle.arrival_verdicts.specs.Switches.{switched_each, tlps_in, unit_waits, queues_after_offer, all_offered}
pub use Rattle.arrival_verdicts.specs.Writes.{writes_by}
pub use Rattle.ide_port.specs.{Found, PortEnd, found_stream, take_step}
pub use Rattle.ide_port.specs.Arrivals.{TakeStep, packet_step, port_arrival}
pub use Rattle.ide_port.specs.{joined_packets, numbered_from, opened_if_accepted, packet_lengths, new_sending}
pub use Rattle.spec_links.specs.Admission.{Grants}
pub use Rattle.spec_links.specs.Plan.{behind_near, has_stream, hop_by_link, hop_streams, in_eight, is_closed}
pub use Rattle.spec_links.specs.Plan.{lone_stream, aggregation_of, streams_of, with_id}
pub use Rattle.spec_links.specs.Sent.{reads_by, targets_at}
pub use Rattle.machine_whole.specs.Accesses.{unit_tlps, waiting_reads_after}
pub use Rattle.machine_whole.specs.Machine.{arrival_of, live_draw_at_end, unit_in}
unfoldable pub use Rattle.spec_links.specs.Plan.{streams_by_line, stream_plan}
