pub mod Statuses
pub mod Claims
pub mod Causes
pub mod Happenings
pub mod Stored
pub mod Contents
pub mod DeviceReads
pub mod Laws
pub mod Cases
-- what clauses and crates above cite
pub use Rattle.guarded_memory.specs.declared.status.InterfaceState.{InterfaceState}
pub use Rattle.guarded_memory.specs.declared.status.InterfaceStatus.{InterfaceStatus}
pub use Rattle.guarded_memory.specs.declared.claims.Claim.{Claim}
pub use Rattle.guarded_memory.specs.Statuses.{is_open_range, has_open_range, is_config_unlocked, is_in_run}
pub use Rattle.guarded_memory.specs.Statuses.{is_locked_or_run, state_of_interface, interface_status}
pub use Rattle.guarded_memory.specs.Claims.{holds_bytes, holds_span, first_passing, holding_bar, claimed_bar, new_claim}
pub use Rattle.guarded_memory.specs.Claims.{first_claim_from, claim_of}
pub use Rattle.guarded_memory.specs.Causes.{untrusted_cause, floor_cause, trusted_cause, access_cause, mmio_cause}
pub use Rattle.guarded_memory.specs.Causes.{cause_effect, is_stored, claim_effect, mmio_effect}
pub use Rattle.guarded_memory.specs.DeviceReads.{device_read_cause, claimed_read_effect, effect_by_device_read}
pub use Rattle.guarded_memory.specs.DeviceReads.{device_request_effect, claimed_target, target_of, is_same_target}
pub use Rattle.guarded_memory.specs.DeviceReads.{claim_unless, judged_claim, least_draw, claimed_byte}
pub use Rattle.guarded_memory.specs.Happenings.{Happened, WriteStored, InterfaceReset, AllReset, InterfaceStopped}
pub use Rattle.guarded_memory.specs.Happenings.{clears, stored_write, writes_since, byte_shown, contents_after}
pub use Rattle.guarded_memory.specs.Happenings.{contents_if_happened, newest_happened}
pub use Rattle.guarded_memory.specs.Stored.{with_address, write_from_base, stored_unless, stored_by_claim}
pub use Rattle.guarded_memory.specs.Stored.{write_happened}
pub use Rattle.guarded_memory.specs.Contents.{GuardedMemory, page_count, page_counts, range_size, fits_range}
pub use Rattle.guarded_memory.specs.Contents.{has_bytes, new_guarded, mmio_byte, IsMmioLeftBy, MmioLeads}
pub use Rattle.guarded_memory.specs.Laws.{is_guarded, is_from_floor, is_admitted, GuardedBytesStay}
pub use Rattle.guarded_memory.specs.Cases.{ClosedCases, OpenCases, UnclaimedCases, CrossingCases, StoredCases}
pub use Rattle.guarded_memory.specs.Cases.{ClearedCases}
