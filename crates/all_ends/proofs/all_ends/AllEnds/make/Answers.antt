use Rattle.all_ends.proofs.Terms.{◌≡◌, ◌∙◌, ◌++◌, ap, sym, subst, All, List, map, FitsStream, LinkPlan, Plan}
use Rattle.all_ends.proofs.Terms.{StreamPlan}
use Rattle.arrival_verdicts.specs.{in_eight}
use Rattle.ide_types.specs.Fits.{FitsPlan}
use Rattle.all_ends.specs.Ends.{hop_row, peer_row, ends_from, near_from, pairs_from, new_all_ends}
use Rattle.all_ends.proofs.Rows.{near_fit, pairs_fit}
use Rattle.all_ends.proofs.all_ends.AllEnds.make.Goals as goal

fits_as : {lent plan : Plan} → lent ≡ plan → FitsPlan plan → FitsPlan lent
fits_as same fits = subst (λ (p : Plan). FitsPlan p) (sym same) fits

pub near_ends-requires-clause-fit : goal.near_ends-requires-clause-fit
near_ends-requires-clause-fit c =
    let rows : c.deref.result.now ≡ in_eight (map hop_row c.plan-plan.result.now.links) =
    c.deref.ensures.value
    ∙ (c.in_ok-rows.ensures ∙ ap (λ (ls : List LinkPlan). in_eight (map hop_row ls)) c.as_slice-2.ensures) in
    subst (λ (rs : List (List StreamPlan)). All (All FitsStream) rs) (sym rows) (near_fit c.plan-plan.result.now
    (fits_as c.plan-plan.ensures.value c.plan-plan.ensures.fits))

pub pair_ends-requires-clause-fit : goal.pair_ends-requires-clause-fit
pair_ends-requires-clause-fit c =
    let first : c.in_ok-rows.rows.items ≡ in_eight (map hop_row c.plan-plan.result.now.links) =
    c.in_ok-rows.ensures ∙ ap (λ (ls : List LinkPlan). in_eight (map hop_row ls)) c.as_slice-2.ensures in
    let rows : c.deref-2.result.now
    ≡ in_eight (map hop_row c.plan-plan.result.now.links) ++ map peer_row c.plan-plan.result.now.peers =
    c.deref-2.ensures.value
    ∙ (c.in_ok-add_peer_rows.ensures ∙ (λ j. first j ++ map peer_row (c.as_slice-3.ensures j))) in
    subst (λ (rs : List (List StreamPlan)). All (All FitsStream) rs) (sym rows) (pairs_fit c.plan-plan.result.now
    (fits_as c.plan-plan.ensures.value c.plan-plan.ensures.fits))

pub returns : goal.returns
returns c =
    let plan = c.plan-plan.result.now in
    let limit = plan.units_per_key in
    let first : c.in_ok-rows.rows.items ≡ in_eight (map hop_row plan.links) =
    c.in_ok-rows.ensures ∙ ap (λ (ls : List LinkPlan). in_eight (map hop_row ls)) c.as_slice-2.ensures in
    let links : c.in_ok-links.links.items ≡ ends_from limit 0 plan.links =
    c.in_ok-links.ensures ∙ ap (λ (ls : List LinkPlan). ends_from limit 0 ls) c.as_slice.ensures in
    let near : c.in_ok-near.near.items ≡ near_from limit 8 (in_eight (map hop_row plan.links)) =
    c.in_ok-near.ensures
    ∙ ap (λ (rs : List (List StreamPlan)). near_from limit 8 rs) (c.deref.ensures.value ∙ first) in
    let pairs : c.in_ok-pairs.pairs.items
    ≡ pairs_from limit 16 (in_eight (map hop_row plan.links) ++ map peer_row plan.peers) =
    c.in_ok-pairs.ensures
    ∙ ap (λ (rs : List (List StreamPlan)). pairs_from limit 16 rs)
    (c.deref-2.ensures.value
    ∙ (c.in_ok-add_peer_rows.ensures ∙ (λ j. first j ++ map peer_row (c.as_slice-3.ensures j)))) in
    let peers : c.extend_from_slice.new.self.items ≡ plan.peers =
    c.in_ok-extend_from_slice.ensures.items
    ∙ (λ j. c.new-peers.ensures.items j ++ c.as_slice-4.ensures j) in
    (λ j. record { links = links j; near = near j; pairs = pairs j; peers = peers j })
    ∙ ap (λ (p : Plan). new_all_ends p) c.plan-plan.ensures.value
