-- The streams of the two segments of a link's hop: its stream alone.
use Rattle.spec_links.proofs.Terms.{◌≡◌, ℕ, zero, suc, ◌+◌, ◌-◌, ◌<◌, List, [], ◌∷◌, Some, arith, ap, ◌∙◌, Plan}
use Rattle.spec_links.proofs.Terms.{streams_of, slice_get}
use Rattle.std.specs.Prelude.{map}
use Rattle.std.specs.List.{slice_index_or}
use Rattle.ide_types.specs.Ends.{link_hop}
use Rattle.ide_types.specs.declared.plan.HopPlan.{HopPlan}
use Rattle.ide_types.specs.declared.plan.LinkPlan.{LinkPlan}
use Rattle.ide_types.specs.declared.stream.StreamPlan.{StreamPlan}
use Rattle.spec_links.specs.Plan.{behind_links, behind_near, hop_by_link, hop_streams, lone_stream, peer_streams}
use Rattle.spec_links.specs.Plan.{streams_by_link}
unfoldable use Rattle.spec_links.specs.Plan.{streams_by_line}
use Rattle.spec_links.proofs.Ends.{among_eight, behind_eight}

abbrev hop_rows : List LinkPlan → List (List StreamPlan)
hop_rows links = map (λ (l : LinkPlan). hop_streams l.hop) links

row_of_hop : (links : List LinkPlan) (link : ℕ) (o : HopPlan) → link_hop (slice_get links link) ≡ Some o
    → slice_index_or (hop_rows links) link [] ≡ lone_stream o.id 1 ∷ []
row_of_hop [] link o is = absurd cc
row_of_hop (l ∷ links) zero o is = ap hop_streams is
row_of_hop (l ∷ links) (suc n) o is = row_of_hop links n o is

pub near_row : (plan : Plan) (link : ℕ) (o : HopPlan) → link < 8 → link_hop (slice_get plan.links link) ≡ Some o
    → streams_of plan (8 + link) ≡ lone_stream o.id 1 ∷ []
unfolding streams_by_line
near_row plan link o less is =
    let place : 8 + link - 8 ≡ link = omega arith in
    behind_eight (streams_by_link plan) (behind_links plan) (8 + link) (omega arith)
    ∙ (ap (λ (n : ℕ). slice_index_or (behind_links plan) n []) place
    ∙ (among_eight (hop_by_link plan) (behind_near plan) link less ∙ row_of_hop plan.links link o is))

pub far_row : (plan : Plan) (link : ℕ) (o : HopPlan) → link < 8 → link_hop (slice_get plan.links link) ≡ Some o
    → streams_of plan (16 + link) ≡ lone_stream o.id 1 ∷ []
unfolding streams_by_line
far_row plan link o less is =
    let place : 16 + link - 8 ≡ 8 + link = omega arith in
    let more : 8 + link - 8 ≡ link = omega arith in
    behind_eight (streams_by_link plan) (behind_links plan) (16 + link) (omega arith)
    ∙ (ap (λ (n : ℕ). slice_index_or (behind_links plan) n []) place
    ∙ (behind_eight (hop_by_link plan) (behind_near plan) (8 + link) (omega arith)
    ∙ (ap (λ (n : ℕ). slice_index_or (behind_near plan) n []) more
    ∙ (among_eight (hop_by_link plan) (peer_streams plan) link less ∙ row_of_hop plan.links link o is))))
