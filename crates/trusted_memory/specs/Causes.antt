-- Why a memory request at a host's port is blocked, the first cause that holds (this profile). The causes speak of the
-- bytes that it names and of its grant, and of no payload.
use Rattle.std.specs.Prelude.{ℕ, not, Bool, true, false, if◌then◌else◌, List, Option, Some, None}
use Rattle.std.specs.Option.{option_or}
use Rattle.ide_types.specs.declared.binding.Binding.{Binding}
use Rattle.ide_types.specs.declared.plan.Region.{Region}
use Rattle.event_verdicts.specs.declared.verdict.BlockCause.{BlockCause}
use Rattle.event_verdicts.specs.declared.verdict.BlockCause.TheVariants.{NotTrusted, NotRunning, Outside, Crosses}
use Rattle.event_verdicts.specs.declared.verdict.Effect.{Effect}
use Rattle.event_verdicts.specs.declared.verdict.Effect.TheVariants.{Applied, Blocked, Delivered}
use Rattle.event_verdicts.specs.Causes.{binding_cause}
use Rattle.trusted_memory.specs.declared.grant.Grant.{Grant}
use Rattle.trusted_memory.specs.declared.span.Span.{Span}
use Rattle.trusted_memory.specs.Spans.{span_byte_count, crosses}
use Rattle.trusted_memory.specs.Regions.{in_one_region}

-- the requester is no running interface; else by its binding, of the packet's stream and draw
abbrev pub grant_cause : Option Binding → ℕ → ℕ → Option BlockCause
grant_cause None stream draw = Some NotRunning
grant_cause (Some bound) stream draw = binding_cause bound (Some stream) draw

-- the bytes of all double words are not in one region; they cross a 4 KiB boundary
abbrev pub place_cause : List Region → Span → Option BlockCause
place_cause regions s =
    if not (in_one_region regions s.address (span_byte_count s)) then Some Outside
    else if crosses s then Some Crosses
    else None

-- T is clear; else what the grant says; else where the bytes lie
abbrev pub block_cause : List Region → Span → Bool → Grant → Option BlockCause
block_cause regions s false grant = Some NotTrusted
block_cause regions s true grant = option_or (grant_cause grant.bound grant.stream grant.draw) (place_cause regions s)

-- ---- effects

abbrev pub block_effect : Option BlockCause → Effect
block_effect None = Applied
block_effect (Some cause) = Blocked cause

abbrev pub is_applied : Effect → Bool
is_applied Applied = true
is_applied _ = false

-- of a TLP at a host's port: of a memory write by the bytes that it names, else it is delivered
abbrev pub write_effect : List Region → Bool → Grant → Option Span → Effect
write_effect regions t grant None = Delivered
write_effect regions t grant (Some s) = block_effect (block_cause regions s t grant)
