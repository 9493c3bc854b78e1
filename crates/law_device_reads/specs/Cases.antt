-- Worked cases: what becomes of a read of four bytes from 40000000h on, and whether one that waits is answered.
use Rattle.std.specs.Prelude.{◌≡◌, ℕ, Bool, true, false, List, [], ◌∷◌, Ok, Err, Result}
use Rattle.ide_types.specs.Ports.{device_port}
use Rattle.ide_types.specs.declared.interface.BarPlan.{BarPlan}
use Rattle.trusted_memory.specs.declared.span.Span.{Span}
use Rattle.trusted_memory.specs.declared.queue.ReadArrival.{ReadArrival}
use Rattle.guarded_memory.specs.declared.status.InterfaceState.{InterfaceState}
use Rattle.guarded_memory.specs.declared.status.InterfaceState.TheVariants.{ConfigUnlocked, ConfigLocked, Run, Error}
use Rattle.guarded_memory.specs.declared.status.InterfaceStatus.{InterfaceStatus}
use Rattle.guarded_memory.specs.declared.claims.Claim.{Claim}
use Rattle.guarded_memory.specs.Cases.{case_status, case_bars, case_range}
use Rattle.guarded_memory.specs.Claims.{claim_of}
use Rattle.guarded_memory.specs.DeviceReads.{claimed_read_effect, judged_claim, least_draw}
use Rattle.event_verdicts.specs.declared.verdict.BlockCause.{BlockCause}
use Rattle.event_verdicts.specs.declared.verdict.BlockCause.TheVariants.{NotTrusted, NotRunning, WrongStream, Stale}
use Rattle.event_verdicts.specs.declared.verdict.BlockCause.TheVariants.{Full, Moved}
use Rattle.event_verdicts.specs.declared.verdict.Effect.{Effect}
use Rattle.event_verdicts.specs.declared.verdict.Effect.TheVariants.{Delivered, Queued, Blocked}

abbrev pub case_span : Span
case_span = record { address = 0x40000000; first_be = 15; last_be = 0; length = 1 }

-- an interface whose device answers reads of these ranges
abbrev pub answering : InterfaceState → List BarPlan → List InterfaceStatus
answering state bars = record (case_status state bars) { reads = true } ∷ []

abbrev pub HasReadEffect : List InterfaceStatus → Bool → ℕ → ℕ → ℕ → Effect → Type 0
HasReadEffect xs t stream draw waiting effect =
    claimed_read_effect (claim_of xs case_span) case_span t stream draw waiting ≡ effect

abbrev pub ArrivalCases : Type 0
ArrivalCases =
    HasReadEffect (answering Run (case_bars 0)) true 5 1 63 Queued
    × HasReadEffect (answering Run (case_bars 0)) true 5 1 64 (Blocked Full)
    × HasReadEffect (answering Run (case_bars 0)) true 5 0 64 (Blocked Stale)
    × HasReadEffect (answering Run (case_bars 0)) true 6 1 0 (Blocked WrongStream)
    × HasReadEffect (answering ConfigLocked (case_bars 0)) true 5 1 0 (Blocked NotRunning)
    × HasReadEffect (answering Run (case_bars 0)) false 5 1 0 (Blocked NotTrusted)
    × HasReadEffect (answering Run (case_bars 4)) false 6 0 0 Queued
    × HasReadEffect (answering ConfigUnlocked (case_bars 0)) false 6 0 0 Queued
    × HasReadEffect (case_status Run (case_bars 0) ∷ []) true 5 1 0 Delivered
    × HasReadEffect (answering Run (case_range 0x40000001 1 0 ∷ [])) true 5 1 0 Delivered

-- a read with T on stream 5 under draw 1, and one without
abbrev pub case_arrival : Bool → ReadArrival
case_arrival t = record { end = device_port 0; stream = 5; draw = 1; trusted = t }

abbrev pub IsDroppedFor : List InterfaceStatus → ℕ → Bool → BlockCause → Type 0
IsDroppedFor xs bar t cause =
    judged_claim (claim_of xs case_span) (record { interface = 0; bar = bar }) (case_arrival t) ≡ Err cause

abbrev pub least_of : Result Claim BlockCause → ReadArrival → Result ℕ BlockCause
least_of (Ok c) came = Ok (least_draw c came)
least_of (Err cause) came = Err cause

-- under this floor
abbrev pub IsKept : List InterfaceStatus → Bool → ℕ → Type 0
IsKept xs t least =
    least_of (judged_claim (claim_of xs case_span) (record { interface = 0; bar = 0 }) (case_arrival t)) (case_arrival
    t)
    ≡ Ok least

abbrev pub AnswerCases : Type 0
AnswerCases =
    IsKept (answering Run (case_bars 0)) true 1
    × IsKept (answering ConfigUnlocked (case_bars 0)) false 0
    × IsDroppedFor (answering Run (case_bars 0)) 1 true Moved
    × IsDroppedFor [] 0 true Moved
    × IsDroppedFor (answering ConfigLocked (case_bars 0)) 0 false NotTrusted
    × IsDroppedFor (answering Error (case_bars 0)) 0 true NotRunning
