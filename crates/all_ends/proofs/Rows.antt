-- The streams of lines that are no links, row by row: each fits, and there are as many rows as lines.
use Rattle.all_ends.proofs.Terms.{◌≡◌, ℕ, suc, zero, ◌+◌, ◌≤◌, List, [], ◌∷◌, ◌++◌, length, refl, ap, sym, ◌∙◌, arith}
use Rattle.all_ends.proofs.Terms.{Option, Some, None, map, take, replicate, All, All-append, All-cons, All-head}
use Rattle.all_ends.proofs.Terms.{All-nil, All-tail, FitsLink, FitsStream, LinkPlan, Plan, StreamPlan, take-append_seam}
use Rattle.std.specs.Prelude.{true}
use Rattle.ide_types.specs.declared.plan.HopPlan.{HopPlan}
use Rattle.ide_types.specs.declared.plan.PeerPlan.{PeerPlan}
use Rattle.ide_types.specs.Fits.{FitsPlan, FitsAddresses, FitsHopIfAny, FitsPeer, is_aggregation}
use Rattle.arrival_verdicts.specs.{hop_streams, lone_stream, in_eight}
use Rattle.all_ends.specs.Ends.{hop_row, peer_row}

abbrev Row : Type 0
Row = List StreamPlan

abbrev RowsFit : List Row → Type 0
RowsFit rows = All (All FitsStream) rows

-- ---- rows fit

no_rows : RowsFit []
no_rows = All-nil (All FitsStream)

row_more : (r : Row) (rows : List Row) → All FitsStream r → RowsFit rows → RowsFit (r ∷ rows)
row_more r rows first rest = All-cons (All FitsStream) r rows first rest

lone_fits : (id aggregation : ℕ) → id ≤ 255 → is_aggregation aggregation ≡ true
    → All FitsStream (lone_stream id aggregation ∷ [])
lone_fits id aggregation most is = All-cons FitsStream (lone_stream id aggregation) []
    (record { id = most; aggregation = is; selector = (tt, omega arith, All-nil FitsAddresses) }) (All-nil FitsStream)

hop_fits : (streams : List StreamPlan) (o : Option HopPlan) → FitsHopIfAny streams o → All FitsStream (hop_streams o)
hop_fits streams None fits = All-nil FitsStream
hop_fits streams (Some o) fits = lone_fits o.id 1 fits.id refl

hops_fit : (links : List LinkPlan) → All FitsLink links → RowsFit (map hop_row links)
hops_fit [] each = no_rows
hops_fit (l ∷ links) each = row_more (hop_row l) (map hop_row links)
    (hop_fits l.streams l.hop (All-head FitsLink l links each).hop) (hops_fit links (All-tail FitsLink l links each))

peers_fit : (links : List LinkPlan) (ps : List PeerPlan) → All (FitsPeer links) ps → RowsFit (map peer_row ps)
peers_fit links [] each = no_rows
peers_fit links (p ∷ ps) each =
    let fits = All-head (FitsPeer links) p ps each in
    row_more (peer_row p) (map peer_row ps) (lone_fits p.id p.aggregation fits.id fits.aggregation)
    (peers_fit links ps (All-tail (FitsPeer links) p ps each))

empties_fit : (k : ℕ) → RowsFit (replicate k [])
empties_fit zero = no_rows
empties_fit (suc k) = row_more [] (replicate k []) (All-nil FitsStream) (empties_fit k)

taken_fit : (n : ℕ) (rows : List Row) → RowsFit rows → RowsFit (take n rows)
taken_fit zero rows fit = no_rows
taken_fit (suc n) [] fit = no_rows
taken_fit (suc n) (r ∷ rows) fit = row_more r (take n rows) (All-head (All FitsStream) r rows fit)
    (taken_fit n rows (All-tail (All FitsStream) r rows fit))

pub near_fit : (plan : Plan) → FitsPlan plan → RowsFit (in_eight (map hop_row plan.links))
near_fit plan fits = taken_fit 8 (map hop_row plan.links ++ replicate 8 [])
    (All-append (All FitsStream) (map hop_row plan.links) (replicate 8 []) (hops_fit plan.links fits.each_link)
    (empties_fit 8))

pub pairs_fit : (plan : Plan) → FitsPlan plan → RowsFit (in_eight (map hop_row plan.links) ++ map peer_row plan.peers)
pairs_fit plan fits = All-append (All FitsStream) (in_eight (map hop_row plan.links)) (map peer_row plan.peers)
    (near_fit plan fits) (peers_fit plan.links plan.peers fits.each_peer)

-- ---- how many there are

abbrev no_streams : Row
no_streams = []

-- ---- rows that are filled up

one_longer : (k m : ℕ) → k ≤ m → take k (replicate (suc m) no_streams) ≡ take k (replicate m no_streams)
one_longer zero m le = refl
one_longer (suc k) zero le = absurd (omega (arith, le))
one_longer (suc k) (suc m) le = ap (λ (rows : List Row). [] ∷ rows) (one_longer k m (omega (arith, le)))

fill_more : (k m : ℕ) (rows : List Row) → k ≤ length rows + m
    → take k ((rows ++ [] ∷ []) ++ replicate m no_streams) ≡ take k (rows ++ replicate m no_streams)
fill_more zero m rows le = refl
fill_more (suc k) zero [] le = absurd (omega (arith, le))
fill_more (suc k) (suc m) [] le = ap (λ (rows : List Row). [] ∷ rows) (one_longer k m (omega (arith, le)))
fill_more (suc k) m (r ∷ rows) le = ap (λ (rest : List Row). r ∷ rest) (fill_more k m rows (omega (arith, le)))

pub fill_one : (rows : List Row) → in_eight (rows ++ [] ∷ []) ≡ in_eight rows
fill_one rows = fill_more 8 8 rows (omega arith)

pub fill_done : (rows : List Row) → length rows ≡ 8 → in_eight rows ≡ rows
fill_done rows is =
    ap (λ (n : ℕ). take n (rows ++ replicate 8 no_streams)) (sym is) ∙ take-append_seam rows (replicate 8 no_streams)
