-- The streams of a plan that meets its bounds are as the laws take them.
use Rattle.law_sealing.proofs.Terms.{◌≡◌, ℕ, zero, suc, ◌==◌, List, [], ◌∷◌, map, slice_index_or, All, Some, subst}
use Rattle.law_sealing.proofs.Terms.{arith, inl, inr, cases_Bool, eqb-true, nat_tests, All-nil}
use Rattle.law_sealing.proofs.Terms.{Plan, streams_of, stream_plan, with_id, StreamsFit}
use Rattle.ide_types.specs.declared.plan.LinkPlan.{LinkPlan}
use Rattle.ide_types.specs.declared.stream.StreamPlan.{StreamPlan}
use Rattle.std.specs.Prelude.{◌≤◌, ◌++◌, Option, None, replicate, take, true}
use Rattle.std.proofs.Common.{refl}
use Rattle.ide_types.specs.declared.plan.HopPlan.{HopPlan}
use Rattle.ide_types.specs.declared.plan.PeerPlan.{PeerPlan}
use Rattle.ide_types.specs.Fits.{FitsPlan, FitsLink, FitsStream, FitsAddresses, FitsHopIfAny, FitsPeer, is_aggregation}
unfoldable use Rattle.spec_links.specs.Plan.{streams_by_line}
use Rattle.spec_links.specs.Plan.{behind_links, behind_near, hop_by_link, hop_streams, in_eight, lone_stream}
use Rattle.spec_links.specs.Plan.{peer_streams, streams_by_link}

of_streams : (ss : List StreamPlan) → All FitsStream ss → (id : ℕ) (s : StreamPlan) → with_id ss id ≡ Some s
    → (s.id ≡ id) × FitsStream s
of_streams [] each id s is = absurd cc
of_streams (t ∷ ss) each id s is = elim (cases_Bool (t.id == id)) [
  | inl here ↦
      let same : t ≡ s = cc (rw here at is) in
      subst (λ (r : StreamPlan). (r.id ≡ id) × FitsStream r) same (eqb-true t.id id here, each 0 t (omega arith))
  | inr other ↦ of_streams ss (λ i d lt. each (suc i) d (omega arith)) id s (rw other at is)
]

-- each row of a list of rows
abbrev RowsFit : List (List StreamPlan) → Type 0
RowsFit rows = (i : ℕ) → All FitsStream (slice_index_or rows i [])

no_rows : RowsFit []
no_rows i = All-nil FitsStream

row_more : (row : List StreamPlan) (rows : List (List StreamPlan)) → All FitsStream row → RowsFit rows
    → RowsFit (row ∷ rows)
row_more row rows first rest zero = first
row_more row rows first rest (suc i) = rest i

both_fit : (xs ys : List (List StreamPlan)) → RowsFit xs → RowsFit ys → RowsFit (xs ++ ys)
both_fit [] ys some more i = more i
both_fit (x ∷ xs) ys some more zero = some zero
both_fit (x ∷ xs) ys some more (suc i) = both_fit xs ys (λ k. some (suc k)) more i

abbrev empty_rows : ℕ → List (List StreamPlan)
empty_rows k = replicate k []

empties_fit : (k : ℕ) → RowsFit (empty_rows k)
empties_fit zero i = All-nil FitsStream
empties_fit (suc k) zero = All-nil FitsStream
empties_fit (suc k) (suc i) = empties_fit k i

taken_fit : (n : ℕ) (rows : List (List StreamPlan)) → RowsFit rows → RowsFit (take n rows)
taken_fit zero rows fit i = All-nil FitsStream
taken_fit (suc n) [] fit i = All-nil FitsStream
taken_fit (suc n) (row ∷ rows) fit zero = fit zero
taken_fit (suc n) (row ∷ rows) fit (suc i) = taken_fit n rows (λ k. fit (suc k)) i

eight_fit : (rows : List (List StreamPlan)) → RowsFit rows → RowsFit (in_eight rows)
eight_fit rows fit = taken_fit 8 (rows ++ empty_rows 8) (both_fit rows (empty_rows 8) fit (empties_fit 8))

links_fit : (links : List LinkPlan) → All FitsLink links → RowsFit (map (λ (l : LinkPlan). l.streams) links)
links_fit [] each = no_rows
links_fit (l ∷ links) each = row_more l.streams _ (each 0 l (omega arith)).each_stream
    (links_fit links (λ k d lt. each (suc k) d (omega arith)))

one_fits : (s : StreamPlan) → FitsStream s → All FitsStream (s ∷ [])
one_fits s fits zero d lt = fits
one_fits s fits (suc i) d lt = absurd (omega (arith, lt))

lone_fits : (id aggregation : ℕ) → id ≤ 255 → is_aggregation aggregation ≡ true
    → FitsStream (lone_stream id aggregation)
lone_fits id aggregation most is = record {
  id = most;
  aggregation = is;
  selector = (tt, omega arith, All-nil FitsAddresses);
}

hop_fits : (streams : List StreamPlan) (o : Option HopPlan) → FitsHopIfAny streams o → All FitsStream (hop_streams o)
hop_fits streams None fits = All-nil FitsStream
hop_fits streams (Some o) fits = one_fits (lone_stream o.id 1) (lone_fits o.id 1 fits.id refl)

hops_fit : (links : List LinkPlan) → All FitsLink links → RowsFit (map (λ (l : LinkPlan). hop_streams l.hop) links)
hops_fit [] each = no_rows
hops_fit (l ∷ links) each = row_more (hop_streams l.hop) _ (hop_fits l.streams l.hop (each 0 l (omega arith)).hop)
    (hops_fit links (λ k d lt. each (suc k) d (omega arith)))

peers_fit : (links : List LinkPlan) (ps : List PeerPlan) → All (FitsPeer links) ps
    → RowsFit (map (λ (p : PeerPlan). lone_stream p.id p.aggregation ∷ []) ps)
peers_fit links [] each = no_rows
peers_fit links (p ∷ ps) each =
    let fits = each 0 p (omega arith) in
    row_more (lone_stream p.id p.aggregation ∷ []) _
    (one_fits (lone_stream p.id p.aggregation) (lone_fits p.id p.aggregation fits.id fits.aggregation))
    (peers_fit links ps (λ k d lt. each (suc k) d (omega arith)))

lines_fit : (plan : Plan) → FitsPlan plan → RowsFit (streams_by_line plan)
unfolding streams_by_line
lines_fit plan fits =
    let hops = eight_fit (hop_by_link plan) (hops_fit plan.links fits.each_link) in
    both_fit (in_eight (streams_by_link plan)) (behind_links plan)
    (eight_fit (streams_by_link plan) (links_fit plan.links fits.each_link))
    (both_fit (in_eight (hop_by_link plan)) (behind_near plan) hops
    (both_fit (in_eight (hop_by_link plan)) (peer_streams plan) hops (peers_fit plan.links plan.peers fits.each_peer)))

pub streams_fit : (plan : Plan) → FitsPlan plan → StreamsFit plan
unfolding stream_plan
streams_fit plan fits = record {
  id = λ line stream s is. let own = of_plan line stream s is in omega (arith, own.0, own.1.id);
  one = λ line stream s is. grind (arith, nat_tests, (of_plan line stream s is).1.aggregation);
  eight = λ line stream s is. grind (arith, nat_tests, (of_plan line stream s is).1.aggregation);
}
  where
    of_plan : (line stream : ℕ) (s : StreamPlan) → stream_plan plan line stream ≡ Some s → (s.id ≡ stream)
        × FitsStream s
    of_plan line stream s is = of_streams (streams_of plan line) (lines_fit plan fits line) stream s is
