-- The worked cases by computation.
use Rattle.machine_operations.proofs.Terms.{◌≡◌, [], refl, base, due, failed_there, find, find_op, first_state}
use Rattle.machine_operations.proofs.Terms.{has_live_in, has_live_out, is_open, key_due, keys, port_keys, manager}
use Rattle.machine_operations.proofs.Terms.{moments, open_unit, packet_of, posted_since_last, with_stream_state, put_op}
use Rattle.machine_operations.proofs.Terms.{read_of, sealed_packets, sub_stream_packets, step_of, stream_plan}
use Rattle.machine_operations.proofs.Terms.{streams_by_line, units}
unfoldable use Rattle.machine_ports.specs.{sealing_end, t_sealed}
use Rattle.ide_types.specs.Walks.{walked_from, walk_length, whole_reading}
use Rattle.tlp_layout.specs.Choice.{choice_of}
use Rattle.tlp_layout.specs.Outgoing.{outgoing_of}
use Rattle.spec_interfaces.specs.Devices.{devices}
use Rattle.spec_interfaces.specs.Sites.{sites}
use Rattle.machine_operations.specs.Cases.{port_plan, held_up, held_up_verdicts, lost_on_the_way, lost_verdicts}
use Rattle.machine_operations.specs.Cases.{port_verdicts_on, answers_on, WorkedCases}

held_up_due : port_verdicts_on [] held_up ≡ held_up_verdicts
unfolding due devices sites key_due manager moments keys is_open failed_there base read_of whole_reading walk_length
    walked_from outgoing_of choice_of port_keys has_live_out has_live_in stream_plan sub_stream_packets sealed_packets
    packet_of
    units open_unit posted_since_last streams_by_line sealing_end t_sealed
held_up_due = refl

held_up_done : answers_on (first_state port_plan) held_up ≡ held_up_verdicts
unfolding step_of find with_stream_state find_op put_op read_of whole_reading walk_length walked_from outgoing_of
    choice_of stream_plan
    streams_by_line sealing_end
held_up_done = refl

lost_due : port_verdicts_on [] lost_on_the_way ≡ lost_verdicts
unfolding due key_due manager moments keys is_open failed_there stream_plan streams_by_line
lost_due = refl

lost_done : answers_on (first_state port_plan) lost_on_the_way ≡ lost_verdicts
unfolding step_of find with_stream_state find_op put_op stream_plan streams_by_line
lost_done = refl

pub work_touches : WorkedCases
work_touches = (held_up_due, held_up_done, lost_due, lost_done)
