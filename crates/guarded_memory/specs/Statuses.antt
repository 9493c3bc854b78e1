-- How an interface stands, and which of its ranges are open (PCI Express Base 6.0 chapter 11, in this profile).
use Rattle.std.specs.Prelude.{ℕ, ◌/◌, ◌%◌, ◌==◌, Bool, true, false, List, slice_get}
use Rattle.std.specs.Option.{option_map_or}
use Rattle.ide_types.specs.declared.interface.BarPlan.{BarPlan}
use Rattle.guarded_memory.specs.declared.status.InterfaceState.{InterfaceState}
use Rattle.guarded_memory.specs.declared.status.InterfaceState.TheVariants.{ConfigUnlocked, ConfigLocked, Run, Error}
use Rattle.guarded_memory.specs.declared.status.InterfaceStatus.{InterfaceStatus}
use Rattle.interface_state.specs.declared.states.TdiState.{TdiState}
use Rattle.interface_state.specs.declared.states.TdiState.TheVariants as tdi
use Rattle.interface_state.specs.RegisterValues.{has_bit}
use Rattle.interface_state.specs.Bars.{bars_of}
use Rattle.interface_state.specs.Machine.{DeviceTdi, all_bindings}

-- bit 2 of the attributes: open to writes that are not trusted
abbrev pub is_open_range : BarPlan → Bool
is_open_range range = range.attributes / 4 % 2 == 1

-- the range of this BAR is open; one that is not there is not
abbrev pub has_open_range : List BarPlan → ℕ → Bool
has_open_range bars b = option_map_or is_open_range (slice_get bars b) false

-- ---- states

abbrev pub is_config_unlocked : InterfaceState → Bool
is_config_unlocked ConfigUnlocked = true
is_config_unlocked state = false

abbrev pub is_in_run : InterfaceState → Bool
is_in_run Run = true
is_in_run state = false

abbrev pub is_locked_or_run : InterfaceState → Bool
is_locked_or_run ConfigLocked = true
is_locked_or_run Run = true
is_locked_or_run state = false

-- ---- of a device interface

abbrev pub state_of_interface : TdiState → InterfaceState
state_of_interface tdi.ConfigUnlocked = ConfigUnlocked
state_of_interface (tdi.ConfigLocked lock nonce) = ConfigLocked
state_of_interface (tdi.Run lock) = Run
state_of_interface tdi.Error = Error

-- memory space is bit 1 of its command register; it is bound to the stream that its lock keeps, with this floor, and to
-- streams between two devices
abbrev pub interface_status : DeviceTdi → ℕ → InterfaceStatus
interface_status t floor = record {
  state = state_of_interface t.state;
  memory_space = has_bit 1 t.registers.command;
  bars = bars_of t.plan t.registers;
  reads = t.plan.reads;
  bound = all_bindings floor t;
}
