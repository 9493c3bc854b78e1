-- The registers of a device interface, and which of them a lock keeps (PCI Express Base 6.0 section 7.5.1 and chapter
-- 11, in this profile).
use Rattle.std.specs.Prelude.{ℕ, ◌/◌, ◌%◌, ◌^◌, ◌==◌, ◌&&◌, Bool, not, List, [], ◌∷◌, slice_get, slice_index, slice_set}
use Rattle.std.specs.Prelude.{Option, Some, None, if◌then◌else◌}
use Rattle.std.specs.Option.{option_map_or}
use Rattle.ide_types.specs.declared.interface.InterfacePlan.{InterfacePlan}
use Rattle.ide_types.specs.declared.interface.BarPlan.{BarPlan}
use Rattle.ide_types.specs.declared.register.Register.{Register}
use Rattle.ide_types.specs.declared.register.Register.TheVariants.{Command, CacheLine, Msix, Lnr, Tph, Pasid, Ats, Bar}
pub use Rattle.ide_types.specs.RegisterNames.{IsAmongSix}
use Rattle.interface_state.specs.declared.register_set.Registers.{Registers}

-- ---- what a register holds

abbrev pub value_in : Registers → Register → ℕ
value_in registers Command = registers.command
value_in registers CacheLine = registers.cache_line
value_in registers Msix = registers.msix
value_in registers Lnr = registers.lnr
value_in registers Tph = registers.tph
value_in registers Pasid = registers.pasid
value_in registers Ats = registers.ats
value_in registers (Bar n) = slice_index registers.bars n

abbrev pub with_value : Registers → Register → ℕ → Registers
with_value registers Command value = record registers { command = value }
with_value registers CacheLine value = record registers { cache_line = value }
with_value registers Msix value = record registers { msix = value }
with_value registers Lnr value = record registers { lnr = value }
with_value registers Tph value = record registers { tph = value }
with_value registers Pasid value = record registers { pasid = value }
with_value registers Ats value = record registers { ats = value }
with_value registers (Bar n) value = record registers { bars = slice_set registers.bars n value }

-- what the topology gives BAR n, 0 if the interface has no such BAR
abbrev pub planned_base : List BarPlan → ℕ → ℕ
planned_base bars n = option_map_or (λ bar. bar.base) (slice_get bars n) 0

-- the values that the topology gives
abbrev pub planned_registers : InterfacePlan → Registers
planned_registers plan = record {
  command = plan.command;
  cache_line = plan.cache_line;
  msix = plan.msix;
  lnr = plan.lnr;
  tph = plan.tph;
  pasid = plan.pasid;
  ats = plan.ats;
  bars = planned_base plan.bars 0 ∷ planned_base plan.bars 1 ∷ planned_base plan.bars 2
      ∷ planned_base plan.bars 3 ∷ planned_base plan.bars 4 ∷ planned_base plan.bars 5 ∷ [];
}

-- ---- what a lock keeps of them

-- bit n
abbrev pub bit_at : ℕ → ℕ → ℕ
bit_at n value = value / 2 ^ n % 2

-- bit n is set
abbrev pub has_bit : ℕ → ℕ → Bool
has_bit n value = bit_at n value == 1

-- The listed part of the registers under the flags of a lock: memory space and bus master of the command register, the
-- BARs, TPH, LNR, PASID and ATS control; MSI-X control if lock flag 2 is set, the cache line size if flag 1 is.
pub record Listed : Type 0 where
  pub memory_space : ℕ
  pub bus_master : ℕ
  pub bars : List ℕ
  pub tph : ℕ
  pub lnr : ℕ
  pub pasid : ℕ
  pub ats : ℕ
  pub msix : Option ℕ
  pub cache_line : Option ℕ

abbrev pub listed_registers : ℕ → Registers → Listed
listed_registers flags registers = record {
  memory_space = bit_at 1 registers.command;
  bus_master = bit_at 2 registers.command;
  bars = registers.bars;
  tph = registers.tph;
  lnr = registers.lnr;
  pasid = registers.pasid;
  ats = registers.ats;
  msix = if has_bit 2 flags then Some registers.msix else None;
  cache_line = if has_bit 1 flags then Some registers.cache_line else None;
}

-- the value, written into the register, changes what is listed
abbrev pub changes_listed : ℕ → Registers → Register → ℕ → Bool
changes_listed flags registers Command value =
    not ((bit_at 1 value == bit_at 1 registers.command) && (bit_at 2 value == bit_at 2 registers.command))
changes_listed flags registers Msix value = has_bit 2 flags && not (value == registers.msix)
changes_listed flags registers CacheLine value = has_bit 1 flags && not (value == registers.cache_line)
changes_listed flags registers register value = not (value == value_in registers register)
