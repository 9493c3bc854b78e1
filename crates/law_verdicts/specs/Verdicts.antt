-- What single verdicts obey, by the pairs before them.
use Rattle.std.specs.Prelude.{◌≡◌, ℕ, ◌&&◌, ◌*◌, Bool, true, false, not, Option, None, Some, is_some, slice_index}
use Rattle.std.specs.Option.{option_map_or}
use Rattle.ide_types.specs.Lines.{is_link_line, is_hosted}
use Rattle.ide_types.specs.RegisterNames.{has_register}
use Rattle.spec_interfaces.specs.Sites.{Site, site_at}
use Rattle.spec_interfaces.specs.Peers.{has_peer}
use Rattle.spec_interfaces.specs.Views.{number_in}
use Rattle.spec_interfaces.specs.{fits_range, page_counts}
use Rattle.spec_links.specs.Terms.{AllByRecursion, Plan, PortName, Event, InterfaceEvent, SealedPacket, Verdict}
use Rattle.spec_links.specs.Terms.{History, in_one_region}
use Rattle.spec_links.specs.Plan.{has_link, has_port, stream_plan}
use Rattle.spec_links.specs.Ports.{may_send}
use Rattle.spec_links.specs.Hops.{has_hop}
use Rattle.spec_links.specs.History.{has_failed, arrival_of_event, packet_by_number, sealed_packets}
use Rattle.spec_keys.specs.Places.{is_host}
use Rattle.law_locks.specs.Fronts.{AtPairs}
use Rattle.script_events.specs.declared.event.Event.TheVariants as event
use Rattle.script_events.specs.declared.event.InterfaceEvent.TheVariants as ie
use Rattle.script_events.specs.declared.event.AccessEvent.TheVariants as ae
use Rattle.event_verdicts.specs.declared.verdict.Verdict.TheVariants as v

-- ---- failed streams

-- a verdict of a packet is of a stream that is not failed at the packet's port
abbrev pub IsOfWhole : History → Event → Verdict → Type 0
IsOfWhole h e (v.Sealed ds) = AllByRecursion (λ (d : SealedPacket). has_failed h d.port d.stream ≡ false) ds
IsOfWhole h e (v.Held port unit) = has_failed h port unit.stream ≡ false
IsOfWhole h e (v.Accepted port unit effects) = has_failed h port unit.stream ≡ false
IsOfWhole h e (v.Fail port stream sub cause) = has_failed h port stream ≡ false
IsOfWhole h e w = Unit {0}

abbrev pub FailedLaw : Plan → History → Type 0
FailedLaw plan h = AtPairs IsOfWhole h

-- ---- T

-- the event asks a host's port for T: a trusted send, and an answer
abbrev pub asks_trust : Event → Bool
asks_trust (event.Send port bytes more trusted) = trusted
asks_trust (event.Access (ae.Answer link)) = true
asks_trust e = false

-- a host's port has the near end of each link, and of the segment of its hop that is towards it
abbrev pub is_at_host : PortName → Bool
is_at_host end = is_host end.side && is_hosted end.line

-- ---- names

-- what an event on an interface names beside it: a stream between its device and another, or a register
abbrev pub has_named : Plan → InterfaceEvent → Site → Bool
has_named plan (ie.Bind i line stream loss) x = has_peer plan.peers x.link line stream
has_named plan (ie.Unbind i line stream loss) x = has_peer plan.peers x.link line stream
has_named plan (ie.Write i register value) x = has_register x.plan register
has_named plan e x = true

-- the topology has the interface of this number, and that
abbrev pub is_named_at : Plan → InterfaceEvent → Option ℕ → Bool
is_named_at plan e None = false
is_named_at plan e (Some i) = option_map_or (has_named plan e) (site_at plan i) false

-- so of an event on an interface; of bytes of trusted memory, one region has them all
abbrev pub is_interface_named : Plan → InterfaceEvent → Bool
is_interface_named plan (ie.Memory at len) = in_one_region plan.memory at len
is_interface_named plan e = is_named_at plan e (number_in e)

-- the range of a BAR of an interface has the bytes
abbrev pub range_named : (bar offset len : ℕ) → Site → Bool
range_named bar offset len x = fits_range (4096 * slice_index (page_counts x.plan) bar) offset len

-- All that an event names exists: the topology has its line with the stream, its link, hop, port, interface or bytes;
-- and the packet was sealed, with the byte in it.
abbrev pub names_exist : Plan → History → Event → Bool
names_exist plan h (event.Establish line stream loss) = is_some (stream_plan plan line stream)
names_exist plan h (event.Refresh line stream loss) = is_link_line line && is_some (stream_plan plan line stream)
names_exist plan h (event.Stop line stream loss) = is_some (stream_plan plan line stream)
names_exist plan h (event.Status line stream) = is_some (stream_plan plan line stream)
names_exist plan h (event.Reset link ends) = has_link plan link
names_exist plan h (event.Interface e) = is_interface_named plan e
names_exist plan h (event.Access (ae.Answer link)) = has_link plan link
names_exist plan h (event.Access (ae.Respond link)) = has_link plan link
names_exist plan h (event.Access (ae.Mmio i bar offset len)) =
    option_map_or (range_named bar offset len) (site_at plan i) false
names_exist plan h (event.Forward link d) = has_hop plan link
names_exist plan h (event.Send port bytes more trusted) = may_send plan port
names_exist plan h (event.Dump n) = is_some (packet_by_number (sealed_packets plan h) n)
names_exist plan h (event.Pass n) = is_some (arrival_of_event plan h (event.Pass n))
names_exist plan h (event.Alter n at mask) = is_some (arrival_of_event plan h (event.Alter n at mask))
names_exist plan h (event.Cut n len) = is_some (arrival_of_event plan h (event.Cut n len))
names_exist plan h (event.Arrive port bytes) = has_port plan port
names_exist plan h event.Absent = false

abbrev pub is_none_at_all : Verdict → Bool
is_none_at_all v.Nothing = true
is_none_at_all w = false

-- the verdict is `none` exactly if something that the event names does not exist
abbrev pub IsNoneExactly : Plan → History → Event → Verdict → Type 0
IsNoneExactly plan h e w = is_none_at_all w ≡ not (names_exist plan h e)

abbrev pub NamedLaw : Plan → History → Type 0
NamedLaw plan h = AtPairs (IsNoneExactly plan) h
