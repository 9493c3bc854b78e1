-- Memory reads at a device's port: what becomes of one that is claimed, and whether one that waits is answered (this
-- profile).
use Rattle.std.specs.Prelude.{ℕ, ◌-◌, ◌==◌, ◌&&◌, Bool, if◌then◌else◌, List, Option, Some, None, Result, Ok, Err}
use Rattle.std.specs.Prelude.{unwrap_or}
use Rattle.std.specs.Option.{option_or, option_map}
use Rattle.tlp_layout.specs.declared.head.HeadView.{HeadView}
use Rattle.trusted_memory.specs.declared.span.Span.{Span}
use Rattle.trusted_memory.specs.Spans.{write_span}
use Rattle.trusted_memory.specs.declared.read.MemReadView.{MemReadView}
use Rattle.trusted_memory.specs.declared.queue.ReadArrival.{ReadArrival}
use Rattle.trusted_memory.specs.declared.queue.ReadTarget.{ReadTarget}
use Rattle.trusted_memory.specs.Requests.{memory_read}
use Rattle.trusted_memory.specs.Waiting.{full_cause, read_effect}
use Rattle.interface_state.specs.Bindings.{floor_on}
use Rattle.guarded_memory.specs.declared.status.InterfaceStatus.{InterfaceStatus}
use Rattle.guarded_memory.specs.declared.claims.Claim.{Claim}
use Rattle.guarded_memory.specs.Claims.{claim_of}
use Rattle.guarded_memory.specs.Causes.{access_cause, mmio_cause, mmio_effect}
use Rattle.event_verdicts.specs.declared.verdict.BlockCause.{BlockCause}
use Rattle.event_verdicts.specs.declared.verdict.BlockCause.TheVariants.{Moved}
use Rattle.event_verdicts.specs.declared.verdict.Effect.{Effect}
use Rattle.event_verdicts.specs.declared.verdict.Effect.TheVariants.{Delivered}

-- ---- as it arrives

-- of a claimed read of these bytes while so many reads wait: what blocks a write to the same bytes, and only then that
-- no more may wait
abbrev pub device_read_cause : Claim → Span → Bool → ℕ → ℕ → ℕ → Option BlockCause
device_read_cause c s t stream draw waiting =
    option_or (mmio_cause c.status c.range s t stream draw) (full_cause waiting)

-- of a read that is claimed by this, or by none: if the device answers no reads of the interface, it is delivered
abbrev pub claimed_read_effect : Option Claim → Span → Bool → ℕ → ℕ → ℕ → Effect
claimed_read_effect None s t stream draw waiting = Delivered
claimed_read_effect (Some c) s t stream draw waiting =
    if c.status.reads then read_effect (device_read_cause c s t stream draw waiting) else Delivered

-- of a TLP that is this memory read, or of one that is none
abbrev pub effect_by_device_read : List InterfaceStatus → Bool → ℕ → ℕ → ℕ → Option MemReadView → Effect → Effect
effect_by_device_read xs t stream draw waiting None other = other
effect_by_device_read xs t stream draw waiting (Some r) other =
    claimed_read_effect (claim_of xs r.span) r.span t stream draw waiting

-- of a TLP of this header at a device's port, while so many reads wait
abbrev pub device_request_effect : List InterfaceStatus → Bool → ℕ → ℕ → ℕ → HeadView → Effect
device_request_effect xs t stream draw waiting head =
    effect_by_device_read xs t stream draw waiting (memory_read head) (mmio_effect xs t stream draw (write_span head))

-- ---- what it is of

abbrev pub claimed_target : Claim → ReadTarget
claimed_target c = record { interface = c.interface; bar = c.bar }

abbrev pub target_of : List InterfaceStatus → Span → Option ReadTarget
target_of xs s = option_map claimed_target (claim_of xs s)

abbrev pub is_same_target : ReadTarget → ReadTarget → Bool
is_same_target a b = (a.interface == b.interface) && (a.bar == b.bar)

-- ---- as it is answered

abbrev pub claim_unless : Option BlockCause → Claim → Result Claim BlockCause
claim_unless None c = Ok c
claim_unless (Some cause) c = Err cause

-- the claim under which a read of this interface and BAR is answered that came so and is now claimed by this, or by
-- none; or why it is dropped: they claim it no more, or what then blocks a write to the same bytes
abbrev pub judged_claim : Option Claim → ReadTarget → ReadArrival → Result Claim BlockCause
judged_claim None target came = Err Moved
judged_claim (Some c) target came =
    if is_same_target (claimed_target c) target
    then claim_unless (access_cause c.status c.range came.trusted came.stream came.draw) c
    else Err Moved

-- the least draw that its completion may have: of a trusted one the floor on its stream
abbrev pub least_draw : Claim → ReadArrival → ℕ
least_draw c came = if came.trusted then unwrap_or (floor_on came.stream c.status.bound) 0 else 0

-- the byte at an address, by interface, BAR and offset
abbrev pub claimed_byte : (ℕ → ℕ → ℕ → ℕ) → Claim → ℕ → ℕ
claimed_byte byte c a = byte c.interface c.bar (a - c.range.base)
