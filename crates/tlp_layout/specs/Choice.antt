-- Which stream of its link a TLP takes at a port: its order is this profile's, ranges are those of PCI Express Base 6.0
-- section 6.33.
use Rattle.std.specs.Prelude.{ℕ, Bool, false, ◌&&◌, ◌||◌, ◌==◌, nat_le, if◌then◌else◌, List, [], ◌∷◌, Option, Some}
use Rattle.std.specs.Prelude.{None, min, position}
use Rattle.std.specs.List.{list_any}
use Rattle.ide_types.specs.declared.port.Side.{Side}
use Rattle.ide_types.specs.declared.port.Side.TheVariants.{Host, Device}
use Rattle.tlp_layout.specs.declared.head.HeadView.{HeadView}
use Rattle.tlp_layout.specs.declared.head.Fields.{Fields}
use Rattle.tlp_layout.specs.declared.head.Fields.TheVariants.{Memory, Config, Message, Completion}
use Rattle.tlp_layout.specs.declared.head.Routing.{Routing}
use Rattle.tlp_layout.specs.declared.head.Routing.TheVariants.{ById}
use Rattle.ide_types.specs.declared.stream.StreamPlan.{StreamPlan}
use Rattle.ide_types.specs.declared.stream.Selector.{Selector}
use Rattle.ide_types.specs.declared.stream.Selector.TheVariants.{Selective, Link}
use Rattle.ide_types.specs.declared.stream.IdRange.{IdRange}
use Rattle.ide_types.specs.declared.stream.AddressRange.{AddressRange}
use Rattle.tlp_layout.specs.declared.choice.ChosenStream.{ChosenStream}
use Rattle.tlp_layout.specs.declared.choice.Way.{Way}
use Rattle.tlp_layout.specs.declared.choice.Way.TheVariants.{ByRange, ByDefault, ByClass}

-- ---- what is looked at of a TLP

-- the address of a memory request
abbrev pub address_of : Fields → Option ℕ
address_of (Memory f) = Some f.address
address_of _ = None

abbrev pub if_by_id : Routing → ℕ → Option ℕ
if_by_id ById destination = Some destination
if_by_id _ destination = None

-- at a host's port the destination of a configuration request or of a message routed by ID, and the requester of a
-- completion; at a device's port the requester of a request, and the completer of a completion
abbrev pub id_of : Side → Fields → Option ℕ
id_of Host (Memory f) = None
id_of Host (Config f) = Some f.destination
id_of Host (Message f) = if_by_id f.routing f.destination
id_of Host (Completion f) = Some f.requester
id_of Device (Memory f) = Some f.requester
id_of Device (Config f) = Some f.requester
id_of Device (Message f) = Some f.requester
id_of Device (Completion f) = Some f.completer

-- ---- what a stream takes

abbrev pub holds : ℕ → ℕ → Option ℕ → Bool
holds base limit None = false
holds base limit (Some n) = nat_le base n && nat_le n limit

abbrev pub holds_id : Option IdRange → Option ℕ → Bool
holds_id None id = false
holds_id (Some range) id = holds range.base range.limit id

abbrev pub holds_address : List AddressRange → Option ℕ → Bool
holds_address ranges address = list_any (λ (r : AddressRange). holds r.base r.limit address) ranges

-- whether a selective stream has a range that holds the TLP's address or its ID
abbrev pub takes_by_range : Side → HeadView → Selector → Bool
takes_by_range side head (Selective ids addresses default) =
    holds_address addresses (address_of head.fields) || holds_id ids (id_of side head.fields)
takes_by_range side head (Link classes) = false

-- whether it is the default stream
abbrev pub takes_the_rest : Selector → Bool
takes_the_rest (Selective ids addresses default) = default
takes_the_rest (Link classes) = false

-- whether a link stream lists the TLP's traffic class
abbrev pub takes_class : HeadView → Selector → Bool
takes_class head (Selective ids addresses default) = false
takes_class head (Link classes) = list_any (λ tc. tc == head.lead.tc) classes

-- ---- the choice

abbrev pub lesser_id : ℕ → Option ℕ → Option ℕ
lesser_id id None = Some id
lesser_id id (Some other) = Some (min id other)

-- the least ID of the streams whose selector passes the test
abbrev pub least_of : (Selector → Bool) → List StreamPlan → Option ℕ
least_of test [] = None
least_of test (s ∷ ss) = if test s.selector then lesser_id s.id (least_of test ss) else least_of test ss

-- how a stream takes a TLP, and its ID; or none, and the TLP goes plain
abbrev pub Choice : Type 0
Choice = Option (Way × ℕ)

-- the stream of this ID, if there is one, else the other choice
abbrev pub by_way : Way → Option ℕ → Choice → Choice
by_way way None other = other
by_way way (Some id) other = Some (way, id)

-- First the least-numbered selective stream with a range that holds the TLP's address or its ID; then the default
-- stream; then the link stream that lists the TLP's traffic class; else none.
unfoldable pub choice_of : List StreamPlan → Side → HeadView → Choice
choice_of streams side head =
    by_way ByRange (least_of (takes_by_range side head) streams)
    (by_way ByDefault (least_of takes_the_rest streams)
    (by_way ByClass (least_of (takes_class head) streams) None))

-- the stream that was chosen
abbrev pub chosen_stream : Choice → Option ℕ
chosen_stream None = None
chosen_stream (Some choice) = Some choice.1

-- ---- as a call gives it

abbrev pub choice_of_stream : Option ChosenStream → Choice
choice_of_stream None = None
choice_of_stream (Some stream) = Some (stream.way, stream.id)

-- the place of the first stream of an ID
abbrev pub plan_place : List StreamPlan → ℕ → Option ℕ
plan_place plans id = position (λ (s : StreamPlan). s.id == id) plans
