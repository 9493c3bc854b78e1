pub mod Terms
pub mod SlotTouches
pub mod Operations
pub mod OperationSteps
pub mod Runs
pub mod Operates
pub mod Views
pub mod Worked
pub mod Managed
pub mod Kept
pub mod Statuses
pub mod AllSteps
pub mod Resets
pub mod Cases
pub mod Points
pub use Rattle.machine_ports.proofs.{facts, key_cause, InOrder, in_order, keys_into, keys_out, unplanned_keys}
pub use Rattle.machine_ports.proofs.Answers.{Says, answer_is, packet_due, says, taken_at}
pub use Rattle.machine_ports.proofs.Changes.{kept_is}
pub use Rattle.machine_ports.proofs.Frames.{failed_live}
pub use Rattle.machine_ports.proofs.Numbers.{of_numbered}
