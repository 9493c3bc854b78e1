-- Which reads wait at a port for their answer, and the effects of requests at a host's port (this profile).
use Rattle.std.specs.Prelude.{ℕ, ◌≤◌, nat_le, Bool, true, if◌then◌else◌, List, [], ◌∷◌, ◌++◌, length, All, Option, Some}
use Rattle.std.specs.Prelude.{None}
use Rattle.std.specs.Option.{option_or}
use Rattle.ide_types.specs.declared.plan.Region.{Region}
use Rattle.event_verdicts.specs.declared.verdict.BlockCause.{BlockCause}
use Rattle.event_verdicts.specs.declared.verdict.BlockCause.TheVariants.{Full}
use Rattle.event_verdicts.specs.declared.verdict.Effect.{Effect}
use Rattle.event_verdicts.specs.declared.verdict.Effect.TheVariants.{Queued, Blocked, Delivered}
use Rattle.tlp_layout.specs.declared.head.HeadView.{HeadView}
use Rattle.trusted_memory.specs.declared.grant.Grant.{Grant}
use Rattle.trusted_memory.specs.declared.span.Span.{Span}
use Rattle.trusted_memory.specs.Spans.{write_span}
use Rattle.trusted_memory.specs.Causes.{block_cause, write_effect}
use Rattle.trusted_memory.specs.declared.queue.WaitingRead.{WaitingRead}
use Rattle.trusted_memory.specs.declared.read.MemReadView.{MemReadView}
use Rattle.trusted_memory.specs.Requests.{memory_read, FitsRead}

-- so many reads may wait at a port
abbrev pub most_waiting : ℕ
most_waiting = 64

abbrev pub full_cause : ℕ → Option BlockCause
full_cause waiting = if nat_le most_waiting waiting then Some Full else None

-- of a trusted read of these bytes while so many reads wait: what blocks a trusted write to the same bytes, and only
-- then that no more may wait
abbrev pub read_cause : List Region → Span → Grant → ℕ → Option BlockCause
read_cause regions s grant waiting = option_or (block_cause regions s true grant) (full_cause waiting)

-- it waits if nothing blocks it
abbrev pub read_effect : Option BlockCause → Effect
read_effect None = Queued
read_effect (Some cause) = Blocked cause

-- ---- at a host's port, while so many reads wait

-- of a TLP that is this memory read, by its T; or of one that is none
abbrev pub effect_by_read : List Region → Bool → Grant → ℕ → Option MemReadView → Effect → Effect
effect_by_read regions t grant waiting None other = other
effect_by_read regions t grant waiting (Some r) other =
    if t then read_effect (read_cause regions r.span grant waiting) else Delivered

-- of a TLP of this header
abbrev pub request_effect : List Region → Bool → Grant → ℕ → HeadView → Effect
request_effect regions t grant waiting head =
    effect_by_read regions t grant waiting (memory_read head) (write_effect regions t grant (write_span head))

-- the reads that wait, oldest first, after this effect of one
abbrev pub waiting_after : Effect → WaitingRead → List WaitingRead → List WaitingRead
waiting_after Queued w ws = ws ++ w ∷ []
waiting_after effect w ws = ws

-- no more wait than may, there is room for as many, and each can be completed as far as its fields go
pub record AreKept (waiting : List WaitingRead) (room : ℕ) : Type 0 where
  pub few : length waiting ≤ most_waiting
  pub roomy : most_waiting ≤ room
  pub fit : All (λ w. FitsRead w.read) waiting
