-- What happened to the memory of a device's interfaces, and the byte that it leaves at each place: an offset in the
-- range of a BAR of an interface (this profile).
use Rattle.std.specs.Prelude.{ℕ, ◌==◌, ◌&&◌, not, Bool, true, false, if◌then◌else◌, List, [], ◌∷◌, Option, Some, None}
use Rattle.std.specs.List.{cons_option}
use Rattle.ide_types.specs.declared.interface.BarPlan.{BarPlan}
use Rattle.trusted_memory.specs.Writes.{Write, byte_written, byte_last_written}
use Rattle.guarded_memory.specs.Statuses.{has_open_range}

-- A write was stored in the range of a BAR of an interface, with its offset there for its address; an interface was
-- reset; all were; an interface with these BARs accepted a STOP_INTERFACE.
pub data Happened : Type 0 where
  WriteStored : ℕ → ℕ → Write → Happened
  InterfaceReset : ℕ → Happened
  AllReset : Happened
  InterfaceStopped : ℕ → List BarPlan → Happened

-- it set a range to 0
abbrev pub clears : Happened → ℕ → ℕ → Bool
clears (WriteStored i b w) j c = false
clears (InterfaceReset i) j c = i == j
clears AllReset j c = true
clears (InterfaceStopped i bars) j c = (i == j) && not (has_open_range bars c)

-- the write that it stored in a range
abbrev pub stored_write : Happened → ℕ → ℕ → Option Write
stored_write (WriteStored i b w) j c = if (i == j) && (b == c) then Some w else None
stored_write (InterfaceReset i) j c = None
stored_write AllReset j c = None
stored_write (InterfaceStopped i bars) j c = None

-- ---- all that happened, the newest first

-- the writes that were stored in a range since it was last set to 0
abbrev pub writes_since : List Happened → ℕ → ℕ → List Write
writes_since [] i b = []
writes_since (h ∷ older) i b = if clears h i b then [] else cons_option (stored_write h i b) (writes_since older i b)

-- the byte at an offset: that of the last of these writes that enables it, else 0
abbrev pub byte_shown : List Happened → ℕ → ℕ → ℕ → ℕ
byte_shown happened i b offset = byte_last_written (writes_since happened i b) offset

-- ---- one after another

-- the byte at each place once it happened, by the bytes before
abbrev pub contents_after : Happened → (ℕ → ℕ → ℕ → ℕ) → ℕ → ℕ → ℕ → ℕ
contents_after (WriteStored i b w) old j c offset =
    if (i == j) && (b == c) then byte_written w (old j c) offset else old j c offset
contents_after (InterfaceReset i) old j c offset = if i == j then 0 else old j c offset
contents_after AllReset old j c offset = 0
contents_after (InterfaceStopped i bars) old j c offset =
    if (i == j) && not (has_open_range bars c) then 0 else old j c offset

-- if anything did
abbrev pub contents_if_happened : Option Happened → (ℕ → ℕ → ℕ → ℕ) → ℕ → ℕ → ℕ → ℕ
contents_if_happened None old i b offset = old i b offset
contents_if_happened (Some h) old i b offset = contents_after h old i b offset

-- what happened one after another, before older ones in the list, the newest first
abbrev pub newest_happened : List (Option Happened) → List Happened → List Happened
newest_happened [] older = older
newest_happened (h ∷ hs) older = newest_happened hs (cons_option h older)
