-- What a forward comes to: the first TLP that waits is sent on the hop's stream, in its own sub-stream, with its T and
-- a unit of its own; so it is refused as a send is, or sealed, and is never no TLP.
use Rattle.std.specs.Prelude.{◌+◌, ◌∷◌, ◌≡◌, List, Some, false, length, slice_get, true, ℕ}
use Rattle.ide_types.specs.declared.direction.Direction.{Direction}
use Rattle.ide_types.specs.Ends.{link_hop}
use Rattle.ide_types.specs.Fits.{FitsPlan}
use Rattle.ide_types.specs.declared.plan.HopPlan.{HopPlan}
use Rattle.ide_types.specs.declared.plan.Plan.{Plan}
use Rattle.spec_keys.specs.History.{History}
use Rattle.script_events.specs.declared.event.Event.TheVariants.{Forward}
use Rattle.spec_links.specs.Cause.{CauseLaw}
use Rattle.spec_links.specs.Due.{due, lanes_at, verdict_of_send}
use Rattle.spec_links.specs.History.{sealed_packets}
use Rattle.spec_links.specs.Hops.{HopTlp, has_hop, leaving_end}
use Rattle.spec_links.specs.Memory.{hop_waiting}

abbrev pub ForwardSends : Type 0
ForwardSends = (plan : Plan) → FitsPlan plan → (h : History) → CauseLaw plan h → (link : ℕ) (d : Direction)
    (hop : HopPlan) → has_hop plan link ≡ true → link_hop (slice_get plan.links link) ≡ Some hop
    → (x : HopTlp) (xs : List HopTlp) → hop_waiting plan h link d ≡ x ∷ xs → due plan h (Forward link d)
    ≡ verdict_of_send (lanes_at plan h (leaving_end link d) hop.id)
    (record { port = leaving_end link d; stream = hop.id; class = x.sub; more = false; trusted = x.t })
    (length (sealed_packets plan h) + 1)
