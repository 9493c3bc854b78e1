pub mod Terms
pub mod Sites
pub mod Peers
pub mod Exchanges
pub mod Views
pub mod Devices
pub mod Due
pub mod Cause
pub mod Laws
pub mod Floors
pub use Rattle.guarded_memory.specs.Causes.{mmio_effect}
pub use Rattle.guarded_memory.specs.Claims.{claim_of}
pub use Rattle.guarded_memory.specs.DeviceReads.{claimed_byte, device_request_effect, judged_claim, least_draw}
pub use Rattle.guarded_memory.specs.DeviceReads.{target_of}
pub use Rattle.guarded_memory.specs.declared.claims.Claim.{Claim}
pub use Rattle.guarded_memory.specs.Contents.{fits_range, page_counts}
pub use Rattle.guarded_memory.specs.Happenings.{AllReset, Happened, InterfaceReset, InterfaceStopped, byte_shown}
pub use Rattle.guarded_memory.specs.Happenings.{newest_happened}
pub use Rattle.guarded_memory.specs.Statuses.{interface_status}
pub use Rattle.guarded_memory.specs.Stored.{write_happened}
pub use Rattle.guarded_memory.specs.declared.status.InterfaceStatus.{InterfaceStatus}
