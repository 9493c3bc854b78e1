-- The requester ID that a device names.
use Rattle.std.specs.Prelude.{ℕ, List, [], ◌∷◌}
use Rattle.ide_types.specs.declared.interface.InterfacePlan.{InterfacePlan}

-- that of its first interface, 0 if it has none
abbrev pub requester_of : List InterfacePlan → ℕ
requester_of [] = 0
requester_of (i ∷ is) = i.requester
