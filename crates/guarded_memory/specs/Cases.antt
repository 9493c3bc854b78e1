-- Worked cases: what becomes of a write of the bytes AA BB CC DD to 40000000h, and what is shown afterwards.
use Rattle.std.specs.Prelude.{◌≡◌, ℕ, Bool, true, false, List, [], ◌∷◌, map, Option, Some}
use Rattle.std.specs.List.{range_with_len, cons_option}
use Rattle.std.specs.Option.{option_map}
use Rattle.ide_types.specs.declared.interface.BarPlan.{BarPlan}
use Rattle.tlp_layout.specs.Reading.{tlp_read}
use Rattle.trusted_memory.specs.declared.span.Span.{Span}
use Rattle.trusted_memory.specs.Writes.{Write, write_of_tlp}
use Rattle.ide_types.specs.declared.binding.Binding.{Binding}
use Rattle.guarded_memory.specs.declared.status.InterfaceState.{InterfaceState}
use Rattle.guarded_memory.specs.declared.status.InterfaceState.TheVariants.{ConfigUnlocked, ConfigLocked, Run, Error}
use Rattle.guarded_memory.specs.declared.status.InterfaceStatus.{InterfaceStatus}
use Rattle.event_verdicts.specs.declared.verdict.BlockCause.TheVariants.{Crosses, NotTrusted, NotRunning, WrongStream}
use Rattle.event_verdicts.specs.declared.verdict.BlockCause.TheVariants.{Stale}
use Rattle.event_verdicts.specs.declared.verdict.Effect.{Effect}
use Rattle.event_verdicts.specs.declared.verdict.Effect.TheVariants.{Delivered, Stored, Blocked}
use Rattle.guarded_memory.specs.Causes.{mmio_effect}
use Rattle.guarded_memory.specs.Happenings.{Happened, InterfaceReset, AllReset, InterfaceStopped, byte_shown}
use Rattle.guarded_memory.specs.Stored.{write_happened}

-- by requester 0000h
abbrev pub case_bytes : List ℕ
case_bytes = 0x40 ∷ 0x00 ∷ 0x00 ∷ 0x01 ∷ 0x00 ∷ 0x00 ∷ 0x00 ∷ 0x0f ∷ 0x40 ∷ 0x00 ∷ 0x00 ∷ 0x00 ∷ 0xaa ∷ 0xbb ∷ 0xcc
    ∷ 0xdd ∷ []

abbrev pub case_write : Option Write
case_write = write_of_tlp (tlp_read case_bytes)

-- a range from a base on, with so many pages and these attributes
abbrev pub case_range : ℕ → ℕ → ℕ → BarPlan
case_range base pages attributes = record { base = base; pages = pages; attributes = attributes }

-- two BARs, of which the second begins in the first; the attributes are those of both
abbrev pub case_bars : ℕ → List BarPlan
case_bars attributes = case_range 0x40000000 16 attributes ∷ case_range 0x4000f000 2 attributes ∷ []

-- bound to stream 5, with floor 1, and to stream 9 between two devices, with floor 2
abbrev pub case_bound : List Binding
case_bound = record { stream = 5; floor = 1 } ∷ record { stream = 9; floor = 2 } ∷ []

abbrev pub case_status : InterfaceState → List BarPlan → InterfaceStatus
case_status state bars = record { state = state; memory_space = true; bars = bars; reads = false; bound = case_bound }

-- ---- effects

abbrev pub HasEffect : List InterfaceStatus → Bool → ℕ → ℕ → Effect → Type 0
HasEffect xs t stream draw effect = mmio_effect xs t stream draw (option_map (λ w. w.span) case_write) ≡ effect

-- of a range that is not open: trusted on a bound stream in each state; on another stream; under an older key; not
-- trusted in each state; on a bound stream between two devices, under its own floor
abbrev pub ClosedCases : Type 0
ClosedCases =
    HasEffect (case_status Run (case_bars 0) ∷ []) true 5 1 Stored
    × HasEffect (case_status ConfigLocked (case_bars 0) ∷ []) true 5 1 (Blocked NotRunning)
    × HasEffect (case_status ConfigUnlocked (case_bars 0) ∷ []) true 5 1 (Blocked NotRunning)
    × HasEffect (case_status Error (case_bars 0) ∷ []) true 5 1 (Blocked NotRunning)
    × HasEffect (case_status Run (case_bars 0) ∷ []) true 6 1 (Blocked WrongStream)
    × HasEffect (case_status Run (case_bars 0) ∷ []) true 5 0 (Blocked Stale)
    × HasEffect (case_status Run (case_bars 0) ∷ []) false 5 1 (Blocked NotTrusted)
    × HasEffect (case_status ConfigLocked (case_bars 0) ∷ []) false 5 1 (Blocked NotTrusted)
    × HasEffect (case_status Error (case_bars 0) ∷ []) false 5 1 (Blocked NotTrusted)
    × HasEffect (case_status ConfigUnlocked (case_bars 0) ∷ []) false 5 1 Stored
    × HasEffect (case_status Run (case_bars 0) ∷ []) true 9 2 Stored
    × HasEffect (case_status Run (case_bars 0) ∷ []) true 9 1 (Blocked Stale)
    × HasEffect (case_status ConfigLocked (case_bars 0) ∷ []) true 9 2 (Blocked NotRunning)

-- of one that is open: not trusted in RUN, and trusted in ERROR
abbrev pub OpenCases : Type 0
OpenCases =
    HasEffect (case_status Run (case_bars 4) ∷ []) false 6 0 Stored
    × HasEffect (case_status Error (case_bars 4) ∷ []) true 5 1 (Blocked NotRunning)

-- of no interface; while memory space is off; of a range that begins behind the write's first byte; of ranges that end
-- before its first byte, and with it; of one that ends with its last byte, which claims it
abbrev pub UnclaimedCases : Type 0
UnclaimedCases =
    HasEffect [] true 5 1 Delivered
    × HasEffect (record (case_status Run (case_bars 0)) { memory_space = false } ∷ []) true 5 1 Delivered
    × HasEffect (case_status Run (case_range 0x40000001 1 0 ∷ []) ∷ []) true 5 1 Delivered
    × HasEffect (case_status Run (case_range 0x3ffff000 1 0 ∷ []) ∷ []) true 5 1 Delivered
    × HasEffect (case_status Run (case_range 0x3ffff001 1 0 ∷ []) ∷ []) true 5 1 Delivered
    × HasEffect (case_status Run (case_range 0x3ffff004 1 0 ∷ []) ∷ []) true 5 1 Stored

-- two double words across a 4 KiB boundary, whether trusted or not
abbrev pub across : Span
across = record { address = 0x40000ffc; first_be = 15; last_be = 15; length = 2 }

abbrev pub CrossingCases : Type 0
CrossingCases =
    (mmio_effect (case_status Run (case_bars 0) ∷ []) true 5 1 (Some across) ≡ Blocked Crosses)
    × (mmio_effect (case_status Run (case_bars 0) ∷ []) false 6 0 (Some across) ≡ Blocked Crosses)

-- ---- contents

-- four bytes from an offset on, by interface and BAR
abbrev pub four_shown : List Happened → ℕ → ℕ → ℕ → List ℕ
four_shown happened i b offset = map (byte_shown happened i b) (range_with_len offset 4)

-- what the write leaves if it is trusted
abbrev pub after_write_to : List InterfaceStatus → List Happened
after_write_to xs = cons_option (write_happened xs true 5 1 case_write) []

-- at the offset of its address, also of a base inside a page; in the interface that claims it, if a lesser one does
-- not, and in no other; in the least BAR that holds it, and in no other
abbrev pub StoredCases : Type 0
StoredCases =
    (four_shown (after_write_to (case_status Run (case_bars 0) ∷ [])) 0 0 0 ≡ 0xaa ∷ 0xbb ∷ 0xcc ∷ 0xdd ∷ [])
    × (four_shown (after_write_to (case_status Run (case_range 0x3ffff002 2 0 ∷ []) ∷ [])) 0 0 0xffd
    ≡ 0 ∷ 0xaa ∷ 0xbb ∷ 0xcc ∷ [])
    × (four_shown (after_write_to (case_status Run [] ∷ case_status Run (case_bars 0) ∷ [])) 1 0 0
    ≡ 0xaa ∷ 0xbb ∷ 0xcc ∷ 0xdd ∷ [])
    × (four_shown (after_write_to (case_status Run (case_bars 0) ∷ case_status Run (case_bars 0) ∷ [])) 1 0 0
    ≡ 0 ∷ 0 ∷ 0 ∷ 0 ∷ [])
    × (four_shown (after_write_to (case_status Run (case_range 0x40000000 0 0 ∷ case_bars 0) ∷ [])) 0 1 0
    ≡ 0xaa ∷ 0xbb ∷ 0xcc ∷ 0xdd ∷ [])
    × (four_shown (after_write_to (case_status Run (case_range 0x3fffe000 4 0 ∷ case_bars 0) ∷ [])) 0 0 0x2000
    ≡ 0xaa ∷ 0xbb ∷ 0xcc ∷ 0xdd ∷ [])
    × (four_shown (after_write_to (case_status Run (case_range 0x3fffe000 4 0 ∷ case_bars 0) ∷ [])) 0 1 0
    ≡ 0 ∷ 0 ∷ 0 ∷ 0 ∷ [])

-- after a stop; after that of another interface; of an open range after a stop, after a reset of the interface, and of
-- all
abbrev pub ClearedCases : Type 0
ClearedCases =
    (four_shown (InterfaceStopped 0 (case_bars 0) ∷ after_write_to (case_status Run (case_bars 0) ∷ [])) 0 0 0
    ≡ 0 ∷ 0 ∷ 0 ∷ 0 ∷ [])
    × (four_shown (InterfaceStopped 1 (case_bars 0) ∷ after_write_to (case_status Run (case_bars 0) ∷ [])) 0 0 0
    ≡ 0xaa ∷ 0xbb ∷ 0xcc ∷ 0xdd ∷ [])
    × (four_shown (InterfaceStopped 0 (case_bars 4) ∷ after_write_to (case_status Run (case_bars 4) ∷ [])) 0 0 0
    ≡ 0xaa ∷ 0xbb ∷ 0xcc ∷ 0xdd ∷ [])
    × (four_shown (InterfaceReset 0 ∷ after_write_to (case_status Run (case_bars 4) ∷ [])) 0 0 0
    ≡ 0 ∷ 0 ∷ 0 ∷ 0 ∷ [])
    × (four_shown (AllReset ∷ after_write_to (case_status Run (case_bars 4) ∷ [])) 0 0 0 ≡ 0 ∷ 0 ∷ 0 ∷ 0 ∷ [])
