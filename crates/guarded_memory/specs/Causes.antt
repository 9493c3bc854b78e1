-- Why a claimed write is blocked, the first cause that holds (this profile). The causes speak of the bytes that it
-- names, of T, and of the stream and the draw that its packet came under, and of no payload.
use Rattle.std.specs.Prelude.{ℕ, ◌||◌, Bool, true, false, if◌then◌else◌, List, Option, Some, None}
use Rattle.ide_types.specs.declared.interface.BarPlan.{BarPlan}
use Rattle.trusted_memory.specs.declared.span.Span.{Span}
use Rattle.trusted_memory.specs.Spans.{crosses}
use Rattle.guarded_memory.specs.declared.status.InterfaceState.{InterfaceState}
use Rattle.guarded_memory.specs.declared.status.InterfaceStatus.{InterfaceStatus}
use Rattle.guarded_memory.specs.declared.claims.Claim.{Claim}
use Rattle.event_verdicts.specs.declared.verdict.BlockCause.{BlockCause}
use Rattle.event_verdicts.specs.declared.verdict.BlockCause.TheVariants.{Crosses, NotTrusted, NotRunning, WrongStream}
use Rattle.event_verdicts.specs.Causes.{stale_cause}
use Rattle.event_verdicts.specs.declared.verdict.Effect.{Effect}
use Rattle.event_verdicts.specs.declared.verdict.Effect.TheVariants.{Delivered, Stored, Blocked}
use Rattle.interface_state.specs.Bindings.{floor_on}
use Rattle.guarded_memory.specs.Statuses.{is_open_range, is_config_unlocked, is_in_run}
use Rattle.guarded_memory.specs.Claims.{claim_of}

-- of a write that is not trusted: the range is not open, and the interface is not in CONFIG_UNLOCKED
abbrev pub untrusted_cause : InterfaceState → BarPlan → Option BlockCause
untrusted_cause state range = if is_open_range range || is_config_unlocked state then None else Some NotTrusted

-- it came on a stream that has no floor, since the interface is not bound to it; its draw is less than the floor
abbrev pub floor_cause : Option ℕ → ℕ → Option BlockCause
floor_cause None draw = Some WrongStream
floor_cause (Some floor) draw = stale_cause floor draw

-- of a trusted write: the interface is not in RUN; else by stream and draw
abbrev pub trusted_cause : InterfaceStatus → ℕ → ℕ → Option BlockCause
trusted_cause x stream draw = if is_in_run x.state then floor_cause (floor_on stream x.bound) draw else Some NotRunning

abbrev pub access_cause : InterfaceStatus → BarPlan → Bool → ℕ → ℕ → Option BlockCause
access_cause x range true stream draw = trusted_cause x stream draw
access_cause x range false stream draw = untrusted_cause x.state range

-- its bytes cross a 4 KiB boundary of addresses; else by T
abbrev pub mmio_cause : InterfaceStatus → BarPlan → Span → Bool → ℕ → ℕ → Option BlockCause
mmio_cause x range s t stream draw = if crosses s then Some Crosses else access_cause x range t stream draw

-- ---- effects

abbrev pub cause_effect : Option BlockCause → Effect
cause_effect None = Stored
cause_effect (Some cause) = Blocked cause

abbrev pub is_stored : Effect → Bool
is_stored Stored = true
is_stored effect = false

-- of a memory write that is claimed by this, or by none
abbrev pub claim_effect : Option Claim → Span → Bool → ℕ → ℕ → Effect
claim_effect None s t stream draw = Delivered
claim_effect (Some c) s t stream draw = cause_effect (mmio_cause c.status c.range s t stream draw)

-- of a TLP at a device's port: of a memory write by the bytes that it names, else it is delivered
abbrev pub mmio_effect : List InterfaceStatus → Bool → ℕ → ℕ → Option Span → Effect
mmio_effect xs t stream draw None = Delivered
mmio_effect xs t stream draw (Some s) = claim_effect (claim_of xs s) s t stream draw
