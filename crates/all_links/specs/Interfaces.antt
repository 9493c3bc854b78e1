-- What events on interfaces and on trusted memory give.
pub use Rattle.line_arrivals.specs.Interfaces.{interface_named, ended_on_link, ended_if_there, ended_in, verdict_in}
pub use Rattle.line_arrivals.specs.Interfaces.{device_interfaces, interface_of_ends, named_device_interface, written_as}
pub use Rattle.line_arrivals.specs.Interfaces.{flr_as, firmware_as, managed_peer_stream, has_peer_if_there, has_peer_in}
pub use Rattle.line_arrivals.specs.Interfaces.{peer_verdict_in, viewed_as, interface_seen_at, memory_verdict}
pub use Rattle.line_arrivals.specs.Interfaces.{verdict_at_ends}
