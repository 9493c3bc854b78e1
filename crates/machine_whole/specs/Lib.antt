pub mod Accesses
pub mod Machine
pub mod Stands
pub mod Interfaces
pub mod InterfacesStand
pub use Rattle.machine_operations.specs.{LinkState, PortsStandFor, receiving_key, rx_slot, rx_slots}
pub use Rattle.machine_operations.specs.Points.{StreamPoints}
unfoldable pub use Rattle.machine_operations.specs.{stream_state_due, find}
