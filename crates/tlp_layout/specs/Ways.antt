-- The three ways in which a stream takes a TLP.
use Rattle.std.specs.Prelude.{ℕ, Bool, ◌&&◌, ◌||◌, ◌==◌, nat_lt, Option, Some, None, if◌then◌else◌}
use Rattle.ide_types.specs.declared.port.Side.{Side}
use Rattle.ide_types.specs.declared.stream.Selector.{Selector}
use Rattle.tlp_layout.specs.declared.head.HeadView.{HeadView}
use Rattle.tlp_layout.specs.declared.choice.ChosenStream.{ChosenStream}
use Rattle.tlp_layout.specs.declared.choice.Way.{Way}
use Rattle.tlp_layout.specs.declared.choice.Way.TheVariants.{ByRange, ByDefault, ByClass}
use Rattle.tlp_layout.specs.Choice.{takes_by_range, takes_the_rest, takes_class}

-- the test of a stream's selector
abbrev pub test_of : Way → Side → HeadView → Selector → Bool
test_of ByRange side head = takes_by_range side head
test_of ByDefault side head = takes_the_rest
test_of ByClass side head = takes_class head

-- the stream of the least ID that passes the test, at the first place of its ID: with one more stream, which passes the
-- test or not, at a place before those that were looked at
abbrev pub one_before : Bool → Way → ℕ → ℕ → Option ChosenStream → Option ChosenStream
one_before passes way id place None = if passes then Some (record { way = way; id = id; place = place }) else None
one_before passes way id place (Some least) =
    if id == least.id || (passes && nat_lt id least.id) then Some (record { way = way; id = id; place = place })
    else Some least
