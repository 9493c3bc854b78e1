pub mod Terms
pub mod Plan
pub mod Ports
pub mod Units
pub mod Packets
pub mod Admission
pub mod Ended
pub mod Happens
pub mod Hops
pub mod Sent
pub mod History
pub mod Memory
pub mod Guarded
pub mod Queues
pub mod Due
pub mod Cause
pub mod KeyFacts
pub mod Laws
pub mod Delivered
pub mod HopLaws
pub mod Ordered
pub mod Numbers
pub use Rattle.spec_keys.specs.History.{base, history_status}
pub use Rattle.spec_links.specs.Plan.{SubStream, is_same, lane_out, lane_in, streams_of, has_link, has_port}
pub use Rattle.spec_links.specs.Plan.{has_stream, aggregation_of, is_closed, key_of}
pub use Rattle.spec_links.specs.Units.{units, open_unit}
pub use Rattle.spec_links.specs.History.{sealed_packets, sent_bytes, sent_packets, arrival_of_event, accepted_packets}
pub use Rattle.spec_links.specs.History.{packets_in_hold, pending_packets, units_got, draws_got, port_keys, on_draw}
pub use Rattle.spec_links.specs.History.{live_key, has_failed, posted_count, meets_counts, total_in, units_since}
pub use Rattle.spec_links.specs.History.{total_ahead, ahead_sent, ahead_due}
pub use Rattle.spec_links.specs.Due.{due}
pub use Rattle.spec_links.specs.Memory.{Policy, policy_at, writes, queued_reads, waiting_reads, effects_of}
pub use Rattle.spec_links.specs.Memory.{ContentsFollow, accepted_tlps, hop_waiting}
pub use Rattle.spec_links.specs.History.{sending_port}
pub use Rattle.spec_links.specs.Sent.{answering_port, answers_at}
unfoldable pub use Rattle.spec_links.specs.Sent.{reads_taken, bytes_by}
pub use Rattle.spec_links.specs.Sent.{port_by}
pub use Rattle.spec_links.specs.Queues.{TakesFirst, FewWait}
pub use Rattle.spec_links.specs.Cause.{CauseLaw, OneHistory}
pub use Rattle.spec_links.specs.Laws.{NoForgery, DrawsNeverFall, TotalsFit, WholeLaw, OrderIsNoForgery}
pub use Rattle.spec_links.specs.Delivered.{tlps_sent, tlps_got}
pub use Rattle.spec_links.specs.Numbers.{NumbersFresh}
pub use Rattle.spec_links.specs.Hops.{HopTlp, has_hop, first_end, entering_end, leaving_end, last_end}
unfoldable pub use Rattle.spec_links.specs.Hops.{accepted_tlps_in_list, forwarded_count}
unfoldable pub use Rattle.spec_links.specs.HopLaws.{tlps_since_reset, draws_since}
pub use Rattle.spec_links.specs.HopLaws.{OneDraw}
pub use Rattle.spec_interfaces.specs.Cause.{owner_id}
pub use Rattle.spec_interfaces.specs.Devices.{devices}
pub use Rattle.spec_interfaces.specs.Sites.{Site, site_of_requester}
pub use Rattle.spec_interfaces.specs.Views.{grant_at, granted_to}
pub use Rattle.trusted_memory.specs.declared.queue.WaitingRead.{WaitingRead}
pub use Rattle.trusted_memory.specs.declared.queue.ReadArrival.{ReadArrival}
pub use Rattle.trusted_memory.specs.declared.queue.ReadTarget.{ReadTarget}
unfoldable pub use Rattle.spec_interfaces.specs.Sites.{sites}
unfoldable pub use Rattle.trusted_memory.specs.Completions.{completion_bytes}
