-- The line of each fault of a topology, without its line feed.
use Rattle.std.specs.Prelude.{ℕ, List, ◌++◌, codes}
use Rattle.std.specs.Fmt.{decimal, signed_decimal}
use Rattle.toml_walk.specs.declared.fault.PlanFault.{PlanFault}
use Rattle.toml_walk.specs.declared.fault.PlanFault.TheVariants.{NotToml, At}
use Rattle.toml_walk.specs.declared.fault.KeyFault.TheVariants.{Missing, Kind, Range, Repeated, Unknown, Limit}

abbrev pub fault_line : PlanFault → List ℕ
fault_line NotToml = codes "topology nottoml"
fault_line (At key Missing) = codes "topology missing " ++ key
fault_line (At key Kind) = codes "topology kind " ++ key
fault_line (At key (Range value)) = codes "topology range " ++ key ++ codes " " ++ signed_decimal value
fault_line (At key (Repeated i j)) = codes "topology repeated " ++ key ++ codes " " ++ decimal i ++ codes " "
    ++ decimal j
fault_line (At key Unknown) = codes "topology unknown " ++ key
fault_line (At key Limit) = codes "topology limit " ++ key
