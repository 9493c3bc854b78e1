-- The way of TLPs that come to the switch of a hop.
use Rattle.std.specs.Prelude.{ℕ, ◌-◌, ◌&&◌, nat_le, nat_lt, if◌then◌else◌, Option, Some, None}
use Rattle.ide_types.specs.declared.direction.Direction.{Direction}
use Rattle.ide_types.specs.declared.direction.Direction.TheVariants.{Downstream, Upstream}
use Rattle.ide_types.specs.declared.port.PortName.{PortName}
use Rattle.ide_types.specs.declared.port.Side.{Side}
use Rattle.ide_types.specs.declared.port.Side.TheVariants.{Host, Device}

-- of the link, and in the direction, that TLPs are on which come to this end, if it is at a switch
abbrev pub way_of : PortName → Option (ℕ × Direction)
way_of end = by end.side
  where
    by : Side → Option (ℕ × Direction)
    by Device = if nat_le 8 end.line && nat_lt end.line 16 then Some (end.line - 8, Downstream) else None
    by Host = if nat_le 16 end.line && nat_lt end.line 24 then Some (end.line - 16, Upstream) else None
