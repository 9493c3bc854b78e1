-- What the proofs of this crate name from other modules.
pub use Rattle.ide_types.specs.declared.plan.Plan.{Plan}
pub use Rattle.ide_port.specs.{PortEnd, SendStep, lengths_sent, sent_verdict}
pub use Rattle.ide_port.specs.declared.answer.Sent.{Sent}
pub use Rattle.ide_types.specs.declared.port.PortName.{PortName}
pub use Rattle.ide_types.specs.declared.port.Side.{Side}
pub use Rattle.ide_types.specs.declared.port.Side.TheVariants.{Device, Host}
pub use Rattle.ide_types.specs.declared.status.StreamStatus.{StreamStatus}
pub use Rattle.spec_keys.proofs.Tests.{true-lt}
pub use Rattle.spec_keys.specs.History.{History}
pub use Rattle.spec_keys.specs.Operations.{StreamStage, work_of}
pub use Rattle.line_arrivals.specs.{OperatesAt, ResetsAt, SendsAtEnd, both_of, statuses_of, told_by_line, drawn_on_line}
pub use Rattle.line_arrivals.specs.{EndsView, peer_live, port_on, trusting_on, with_port_on, stream_named, AreLinks}
pub use Rattle.line_arrivals.specs.{IsBounded, ports_in, state_of, port_in, KeeperView, LinkEnds, InterfacesView}
pub use Rattle.all_links.specs.Events.{operation_event}
pub use Rattle.all_links.specs.States.{links_state}
pub use Rattle.all_links.specs.Links.{Ends, StepEndsBy, EndsIfSo, EndsOrHasNone, EndsSending, EndsIfAnswered}
pub use Rattle.all_links.specs.Links.{HasNoVerdict, StandsForSome}
pub use Rattle.all_links.specs.Besides.{HasAnswerOfLinks, answer_of_links, beside_in}
pub use Rattle.all_links.specs.declared.links.Links.{Links}
pub use Rattle.script_events.specs.declared.event.Event.TheVariants.{Interface, Dump, Reset, Send, Status}
pub use Rattle.trusted_memory.specs.{MemoryContents}
pub use Rattle.ide_types.specs.declared.plan.Region.{Region}
pub use Rattle.spec_links.specs.Plan.{has_port}
pub use Rattle.machine_ports.specs.Machine.{BesidePorts, LinkPacket, LinkState, Stepped, stepped_bytes, kept_packet}
pub use Rattle.machine_ports.specs.Machine.{reset_state, machine_status, status_found}
pub use Rattle.spec_stream.specs.Stream.{StreamState}
unfoldable pub use Rattle.machine_ports.specs.Machine.{step_of}
pub use Rattle.machine_ports.specs.Stands.{PortsStandFor}
pub use Rattle.event_verdicts.specs.declared.verdict.Verdict.{Verdict}
pub use Rattle.join_keys.specs.Joined.{OperationsJoin}
pub use Rattle.std.proofs.Common.{Bool, List, [], ap, arith, drop, false, length, refl, subst, suc, sym, take, true}
pub use Rattle.std.proofs.Common.{zero, ℕ, ◌++◌, ◌+◌, ◌-◌, ◌<◌, ◌==◌, ◌∙◌, ◌∷◌, ◌≡◌, ◌≤◌}
pub use Rattle.std.proofs.Math.Seq.{take-append_seam}
pub use Rattle.std.proofs.lemmas.Bool.Decides.{nat_tests}
pub use Rattle.std.proofs.lemmas.List.{append-nil, length-set}
pub use Rattle.std.proofs.lemmas.Option.{none-some, same_Some, slice_get_within}
pub use Rattle.std.specs.Option.{option_and_then}
pub use Rattle.std.specs.Prelude.{IfSome, IsSome, None, Option, Result, Some, if◌then◌else◌, is_some, map, nat_le}
pub use Rattle.std.specs.Prelude.{nat_lt, not, option_map, slice_get, slice_set, sum_by, vec_len}
pub use Rattle.sub_stream.specs.declared.answer.MeasuredPacket.{MeasuredPacket}
pub use Rattle.key_host.specs.Managers.{ManagerView, Named, named_stream}
