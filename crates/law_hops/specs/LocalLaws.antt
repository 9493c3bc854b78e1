-- What crosses a hop, supposing that no tag was forged of just the sub-streams of its two segments.
use Rattle.std.specs.Prelude.{◌≡◌, Some, slice_get, true, ℕ}
use Rattle.std.specs.List.{AllByRecursion}
use Rattle.ide_types.specs.Ends.{link_hop}
use Rattle.ide_types.specs.Fits.{FitsPlan}
use Rattle.ide_types.specs.declared.direction.Direction.{Direction}
use Rattle.ide_types.specs.declared.plan.HopPlan.{HopPlan}
use Rattle.spec_links.specs.Terms.{PortName, Plan, SubKind, History}
use Rattle.spec_links.specs.Plan.{lane_in}
use Rattle.spec_links.specs.Cause.{CauseLaw}
use Rattle.spec_links.specs.Hops.{has_hop, first_end, entering_end, last_end}
use Rattle.spec_links.specs.HopLaws.{ForwardsInOrder, ForwardsEach, OneDraw, draws_since, in_sub, tlps_since_reset}
use Rattle.spec_links.specs.Laws.{IsPrefixOf}
use Rattle.spec_links.specs.Memory.{accepted_tlps}
use Rattle.law_delivery.specs.NoForgeryUnder.{NoForgeryUnder}

-- No tag of a sub-stream that an end of a segment receives was forged, under the draws that the segment was given since
-- the last reset of the link's hop.
abbrev pub NoForgerySince : Plan → History → ℕ → PortName → ℕ → SubKind → Type 0
NoForgerySince plan h link end stream u =
    AllByRecursion (λ (j : ℕ). NoForgeryUnder plan h (lane_in end stream u) j) (draws_since h link end.line)

-- If each segment had one draw since then, and none was forged so where a sub-stream enters the switch and behind it,
-- what is accepted behind the hop in this sub-stream is a prefix of what was sealed before it.
abbrev pub LocalCrossesInOrder : Plan → History → Type 0
LocalCrossesInOrder plan h =
    (link : ℕ) (hop : HopPlan) (d : Direction) (u : SubKind) → has_hop plan link ≡ true
    → link_hop (slice_get plan.links link) ≡ Some hop → OneDraw h link
    → NoForgerySince plan h link (entering_end link d) hop.id u → NoForgerySince plan h link (last_end link d) hop.id u
    → IsPrefixOf (in_sub u (accepted_tlps plan h link (last_end link d)))
    (in_sub u (tlps_since_reset plan h link (first_end link d)))

pub record LocalHopLaw (plan : Plan) (h : History) : Type 0 where
  pub whole : ForwardsInOrder plan h
  pub each : ForwardsEach plan h
  pub crosses : LocalCrossesInOrder plan h

abbrev pub LocalHopLawHolds : Type 0
LocalHopLawHolds = (plan : Plan) → FitsPlan plan → (h : History) → CauseLaw plan h → LocalHopLaw plan h
