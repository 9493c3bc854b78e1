-- The registers of a device interface (PCI Express Base 6.0 section 7.5.1 and chapter 11, in this profile).
use Rattle.std.specs.Prelude.{ℕ, ◌<◌, nat_lt, Bool, true, length}
use Rattle.ide_types.specs.declared.interface.InterfacePlan.{InterfacePlan}
use Rattle.ide_types.specs.declared.register.Register.{Register}
use Rattle.ide_types.specs.declared.register.Register.TheVariants.{Command, CacheLine, Msix, Lnr, Tph, Pasid, Ats, Bar}

-- how many bits it has
abbrev pub width_of : Register → ℕ
width_of Command = 16
width_of CacheLine = 8
width_of Msix = 16
width_of Lnr = 16
width_of Tph = 32
width_of Pasid = 16
width_of Ats = 16
width_of (Bar n) = 64

-- there are at most six BARs
abbrev pub IsAmongSix : Register → Type 0
IsAmongSix (Bar n) = n < 6
IsAmongSix register = Unit {0}

-- the interface has it: the BARs are numbered from 0
abbrev pub has_register : InterfacePlan → Register → Bool
has_register plan (Bar n) = nat_lt n (length plan.bars)
has_register plan register = true
