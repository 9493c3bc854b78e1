-- What a TLP that was delivered made happen (this profile).
use Rattle.std.specs.Prelude.{ℕ, ◌-◌, Bool, List, Option, Some, None}
use Rattle.trusted_memory.specs.Writes.{Write}
use Rattle.guarded_memory.specs.declared.status.InterfaceStatus.{InterfaceStatus}
use Rattle.guarded_memory.specs.declared.claims.Claim.{Claim}
use Rattle.event_verdicts.specs.declared.verdict.BlockCause.{BlockCause}
use Rattle.guarded_memory.specs.Claims.{claim_of}
use Rattle.guarded_memory.specs.Causes.{mmio_cause}
use Rattle.guarded_memory.specs.Happenings.{Happened, WriteStored}

-- the write with another address
abbrev pub with_address : ℕ → Write → Write
with_address address w = record w { span = record w.span { address = address } }

-- the write with its offset from a base for its address
abbrev pub write_from_base : ℕ → Write → Write
write_from_base base w = with_address (w.span.address - base) w

-- a claimed write is stored if nothing blocks it
abbrev pub stored_unless : Option BlockCause → Claim → Write → Option Happened
stored_unless None c w = Some (WriteStored c.interface c.bar (write_from_base c.range.base w))
stored_unless (Some cause) c w = None

abbrev pub stored_by_claim : Option Claim → Write → Bool → ℕ → ℕ → Option Happened
stored_by_claim None w t stream draw = None
stored_by_claim (Some c) w t stream draw = stored_unless (mmio_cause c.status c.range w.span t stream draw) c w

-- by the memory write that a TLP is, if it is one
abbrev pub write_happened : List InterfaceStatus → Bool → ℕ → ℕ → Option Write → Option Happened
write_happened xs t stream draw None = None
write_happened xs t stream draw (Some w) = stored_by_claim (claim_of xs w.span) w t stream draw
