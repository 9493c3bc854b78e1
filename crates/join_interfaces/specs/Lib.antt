pub mod Verdicts
pub mod Faces
pub mod Joined
pub mod Says
-- what clauses and crates above cite
pub use Rattle.machine_ports.specs.Machine.{BesidePorts, LinkPacket, stepped_arrival, stepped_cut}
pub use Rattle.machine_ports.specs.Stands.{PortsStandFor}
pub use Rattle.machine_whole.specs.Accesses.{unit_tlps, waiting_reads_after}
pub use Rattle.machine_whole.specs.Machine.{unit_in}
