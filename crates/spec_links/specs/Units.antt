-- Packets joined to units.
use Rattle.std.specs.Prelude.{if◌then◌else◌, ◌++◌, ◌∷◌, List, []}
use Rattle.spec_links.specs.Terms.{Packet}

-- the units that packets finish, after those of an unfinished one
abbrev pub units_finished : List Packet → List Packet → List (List Packet)
units_finished unfinished [] = []
units_finished unfinished (p ∷ ps) =
    if p.prefix.m then (unfinished ++ p ∷ []) ∷ units_finished [] ps else units_finished (unfinished ++ p ∷ []) ps

-- what is left unfinished
abbrev pub rest_after : List Packet → List Packet → List Packet
rest_after unfinished [] = unfinished
rest_after unfinished (p ∷ ps) = if p.prefix.m then rest_after [] ps else rest_after (unfinished ++ p ∷ []) ps

-- the list cut after each packet with M
unfoldable pub units : List Packet → List (List Packet)
units ps = units_finished [] ps

-- the packets after the last one with M
unfoldable pub open_unit : List Packet → List Packet
open_unit ps = rest_after [] ps
