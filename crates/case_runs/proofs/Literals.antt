-- What a case unfolds to compute the verdict that is due after a history whose events are literals. The cipher stays
-- folded.
use Rattle.std.specs.Prelude.{⊤}
use Rattle.ide_types.specs.Walks.{whole_reading, walk_length, walked_from}
use Rattle.gcm_seal.specs.Gcm.{verifies}
use Rattle.tlp_layout.specs.Reading.{read_head_of, read_of}
use Rattle.ide_prefix.specs.Reading.{cut_of}
use Rattle.spec_keys.specs.Due.{key_due}
use Rattle.spec_keys.specs.History.{base, failed_there, manager, moments}
use Rattle.spec_keys.specs.Keys.{is_open, keys}
use Rattle.spec_interfaces.specs.Devices.{devices}
use Rattle.spec_interfaces.specs.Due.{interface_verdict_due}
use Rattle.spec_interfaces.specs.Floors.{device_floor}
use Rattle.spec_interfaces.specs.Peers.{peer_end}
use Rattle.spec_interfaces.specs.Sites.{sites}
use Rattle.spec_interfaces.specs.Views.{managed_view, stream_draw}
use Rattle.trusted_memory.specs.Writes.{byte_last_written}
use Rattle.trusted_memory.specs.Completions.{completion_bytes}
use Rattle.tlp_layout.specs.Choice.{choice_of}
use Rattle.tlp_layout.specs.Outgoing.{outgoing_of}
use Rattle.spec_links.specs.Due.{before_tag, due, is_verified, t_sealed}
use Rattle.spec_links.specs.Guarded.{link_happenings}
use Rattle.spec_links.specs.Happens.{happenings_in_list}
use Rattle.spec_links.specs.History.{ahead_of_unit, arrival_of_event, got_since, has_live_in, has_live_out}
use Rattle.spec_links.specs.History.{packets_in_hold, port_keys, meets_counts, packet_of, posted_since_last}
use Rattle.spec_links.specs.History.{sealed_packets, sub_stream_packets, total_in, units_got, units_since}
use Rattle.spec_links.specs.Memory.{writes}
use Rattle.spec_links.specs.Hops.{accepted_tlps_in_list, forwarded_count}
use Rattle.spec_links.specs.Plan.{key_of, stream_plan, streams_by_line}
use Rattle.spec_links.specs.Ports.{goes_through, id_in, port_of, end_reached, sealing_end}
use Rattle.spec_links.specs.Sent.{bytes_by, packets_held, queued_in, reads_taken, writes_in_list}
use Rattle.spec_links.specs.Units.{open_unit, units}

unfoldable pub due_on_literals : ⊤
unfolding whole_reading walk_length walked_from verifies read_head_of read_of cut_of key_due base failed_there manager
    moments is_open keys devices interface_verdict_due device_floor peer_end sites managed_view stream_draw
    byte_last_written
    completion_bytes choice_of outgoing_of before_tag due is_verified link_happenings happenings_in_list ahead_of_unit
    arrival_of_event
    got_since
    has_live_in has_live_out packets_in_hold port_keys meets_counts packet_of posted_since_last sealed_packets
    sub_stream_packets total_in units_got
    units_since writes key_of stream_plan bytes_by packets_held queued_in reads_taken writes_in_list open_unit units
    t_sealed accepted_tlps_in_list forwarded_count streams_by_line goes_through id_in port_of end_reached sealing_end
due_on_literals = tt
