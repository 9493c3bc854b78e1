-- Which bytes go through a switch.
use Rattle.std.specs.Prelude.{◌≡◌, ◌-◌, ◌==◌, ◌&&◌, ◌∷◌, Bool, true, false, not, List, Option, Some, slice_get, ℕ}
use Rattle.ide_types.specs.declared.port.Side.{Side}
use Rattle.ide_types.specs.declared.port.Side.TheVariants.{Host, Device}
use Rattle.ide_types.specs.declared.plan.HopPlan.{HopPlan}
use Rattle.ide_types.specs.Lines.{is_switch_port}
use Rattle.ide_types.specs.Ends.{link_hop}
use Rattle.ide_types.specs.Plans.{hop_has_id}
use Rattle.spec_links.specs.Terms.{PortName, Plan, Event, Verdict, History}
use Rattle.spec_links.specs.History.{ArrivedBytes, arrival_of_event}
use Rattle.law_locks.specs.Fronts.{AtPairs}
use Rattle.event_verdicts.specs.declared.verdict.Verdict.TheVariants as v

-- the link of a switch's port, by its line: that of a segment towards a host, or towards a device
abbrev pub link_of_switch : PortName → ℕ
link_of_switch port = by port.side
  where
    by : Side → ℕ
    by Host = port.line - 16
    by Device = port.line - 8

abbrev pub hop_of_switch : Plan → PortName → Option HopPlan
hop_of_switch plan port = link_hop (slice_get plan.links (link_of_switch port))

-- at least three bytes, the first of which is 92h, and the third is not the hop's stream ID
abbrev pub are_of_other_stream : Option HopPlan → List ℕ → Bool
are_of_other_stream hop (first ∷ (flags ∷ (id ∷ bytes))) = (first == 0x92) && not (hop_has_id hop id)
are_of_other_stream hop bytes = false

-- they come to a port of a switch, and are of another stream than its hop's
abbrev pub go_through_switch : Plan → ArrivedBytes → Bool
go_through_switch plan a = is_switch_port a.port && are_of_other_stream (hop_of_switch plan a.port) a.bytes

-- The event brings bytes to this port which go through it.
pub record BringsThrough (plan : Plan) (h : History) (e : Event) (port : PortName) : Type 0 where
  pub came : ArrivedBytes
  pub arrival : arrival_of_event plan h e ≡ Some came
  pub at_port : came.port ≡ port
  pub goes : go_through_switch plan came ≡ true

-- The verdict is `through` exactly of such bytes, and names the port that they came to.
pub record IsThroughExactly (plan : Plan) (h : History) (e : Event) (w : Verdict) : Type 0 where
  pub if_goes : (port : PortName) → BringsThrough plan h e port → w ≡ v.Through port
  pub only_if : (port : PortName) → w ≡ v.Through port → BringsThrough plan h e port

-- at each pair
abbrev pub ExactThroughLaw : Plan → History → Type 0
ExactThroughLaw plan h = AtPairs (IsThroughExactly plan) h
