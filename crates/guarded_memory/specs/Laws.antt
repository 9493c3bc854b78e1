-- What a lock guards (PCI Express Base 6.0 chapter 11, in this profile).
use Rattle.std.specs.Prelude.{ℕ, ◌≡◌, ◌&&◌, nat_le, not, Bool, true, false, List, slice_get, Option, Some, None}
use Rattle.interface_state.specs.Bindings.{floor_on}
use Rattle.trusted_memory.specs.Writes.{Write}
use Rattle.guarded_memory.specs.declared.status.InterfaceStatus.{InterfaceStatus}
use Rattle.guarded_memory.specs.Statuses.{has_open_range, is_in_run, is_locked_or_run}
use Rattle.guarded_memory.specs.Happenings.{contents_if_happened}
use Rattle.guarded_memory.specs.Stored.{write_happened}

-- a range that is not open, of an interface in CONFIG_LOCKED or RUN
abbrev pub is_guarded : InterfaceStatus → ℕ → Bool
is_guarded x b = is_locked_or_run x.state && not (has_open_range x.bars b)

-- the draw is from the floor on
abbrev pub is_from_floor : Option ℕ → ℕ → Bool
is_from_floor None draw = false
is_from_floor (Some floor) draw = nat_le floor draw

-- a trusted write, to an interface in RUN, on a stream that it is bound to, under a draw from its floor there on
abbrev pub is_admitted : InterfaceStatus → Bool → ℕ → ℕ → Bool
is_admitted x t stream draw = t && (is_in_run x.state && is_from_floor (floor_on stream x.bound) draw)

-- a byte of a guarded range changes only by an admitted write: by any other TLP it stays
abbrev pub GuardedBytesStay : Type 0
GuardedBytesStay = (xs : List InterfaceStatus) (t : Bool) (stream draw : ℕ) (o : Option Write) (old : ℕ → ℕ → ℕ → ℕ)
    (i b offset : ℕ) (x : InterfaceStatus)
    → slice_get xs i ≡ Some x → is_guarded x b ≡ true → is_admitted x t stream draw ≡ false
    → contents_if_happened (write_happened xs t stream draw o) old i b offset ≡ old i b offset
