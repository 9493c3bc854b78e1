-- The initialization vector of a unit (this profile, after PCI Express Base 6.0 section 6.33).
use Rattle.std.specs.Prelude.{ℕ, ◌*◌, List, ◌∷◌}
use Rattle.byteorder.specs.Endian.{big_bytes}
use Rattle.ide_types.specs.Sub.{sub_bits}
use Rattle.ide_types.specs.declared.sub.SubKind.{SubKind}

-- 12 bytes: the sub-stream's number in the highest 4 bits, 28 zero bits, and the unit's number in 64 bits
abbrev pub iv_of : SubKind → ℕ → List ℕ
iv_of sub unit = (0x10 * sub_bits sub) ∷ 0 ∷ 0 ∷ 0 ∷ big_bytes 8 unit
