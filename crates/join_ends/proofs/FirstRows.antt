-- The manager's streams before the first event are those of all lines, line by line: of the links, of the two segments
-- of their hops, each padded to eight, and of the streams between devices.
use Rattle.std.proofs.Common.{◌≡◌, ℕ, suc, zero, ◌+◌, ◌-◌, ◌≤◌, List, [], ◌∷◌, ◌++◌, length, map, refl, ap, sym, ◌∙◌}
use Rattle.std.proofs.Common.{arith, Option, Some, None}
use Rattle.std.specs.Prelude.{replicate, take}
use Rattle.std.proofs.lemmas.List.{append-nil, append_assoc, length-append, length-map, length-replicate}
use Rattle.std.proofs.lemmas.List.{take-replicate}
use Rattle.ide_types.specs.declared.plan.Plan.{Plan}
use Rattle.ide_types.specs.declared.plan.HopPlan.{HopPlan}
use Rattle.ide_types.specs.declared.plan.LinkPlan.{LinkPlan}
use Rattle.ide_types.specs.declared.plan.PeerPlan.{PeerPlan}
use Rattle.ide_types.specs.declared.stream.StreamPlan.{StreamPlan}
use Rattle.spec_links.specs.Plan.{streams_by_link, hop_streams, hop_by_link, peer_streams, lone_stream, in_eight}
use Rattle.spec_links.specs.Plan.{behind_near, behind_links}
unfoldable use Rattle.spec_links.specs.Plan.{streams_by_line}
use Rattle.key_host.specs.Streams.{StreamView, new_stream}
use Rattle.key_host.specs.Managers.{new_streams, streams_from, hops_from, new_hop, peers_from}

-- ---- rows of streams

abbrev pub Rows : Type 0
Rows = List (List StreamPlan)

-- of a line without streams
abbrev no_row : List StreamPlan
no_row = []

abbrev pub empty_rows : ℕ → Rows
empty_rows n = replicate n []

taken_rows : (n k : ℕ) (rows : Rows) → length rows ≤ n → n ≤ k → take n (rows ++ empty_rows k)
    ≡ rows ++ empty_rows (n - length rows)
taken_rows n k [] few most = let all : n ≡ n - 0 = omega arith in take-replicate n k no_row most ∙ ap empty_rows all
taken_rows zero k (r ∷ rows) few most = absurd (omega arith)
taken_rows (suc n) k (r ∷ rows) few most =
    let left : n - length rows ≡ suc n - suc (length rows) = omega arith in
    ap (λ (t : Rows). r ∷ t) (taken_rows n k rows (omega arith) (omega arith))
    ∙ ap (λ (m : ℕ). r ∷ (rows ++ empty_rows m)) left

-- up to eight rows, and empty ones behind them
pub eight_rows : (rows : Rows) → length rows ≤ 8 → in_eight rows ≡ rows ++ empty_rows (8 - length rows)
eight_rows rows few = taken_rows 8 8 rows few (omega arith)

pub length_eight : (rows : Rows) → length rows ≤ 8 → length (in_eight rows) ≡ 8
length_eight rows few =
    let all = length-append rows (empty_rows (8 - length rows)) in
    let none = length-replicate (8 - length rows) no_row in
    let sum : length (rows ++ empty_rows (8 - length rows)) ≡ 8 = omega (arith, all, none, few) in
    ap (λ (t : Rows). length t) (eight_rows rows few) ∙ sum

-- ---- the manager's streams

-- of lines from this number on
abbrev pub rows_from : ℕ → Rows → List StreamView
rows_from line [] = []
rows_from line (ss ∷ rows) = new_streams line ss ++ rows_from (line + 1) rows

links_rows : (line : ℕ) (ls : List LinkPlan) → streams_from line ls
    ≡ rows_from line (map (λ (l : LinkPlan). l.streams) ls)
links_rows line [] = refl
links_rows line (l ∷ ls) = ap (λ (vs : List StreamView). new_streams line l.streams ++ vs) (links_rows (line + 1) ls)

hop_row : (line : ℕ) (o : Option HopPlan) → new_hop line o ≡ new_streams line (hop_streams o)
hop_row line None = refl
hop_row line (Some o) = refl

hops_rows : (line : ℕ) (ls : List LinkPlan) → hops_from line ls
    ≡ rows_from line (map (λ (l : LinkPlan). hop_streams l.hop) ls)
hops_rows line [] = refl
hops_rows line (l ∷ ls) =
    let one = hop_row line l.hop in
    let more = hops_rows (line + 1) ls in
    λ i. one i ++ more i

peers_rows : (line : ℕ) (ps : List PeerPlan) → peers_from line ps
    ≡ rows_from line (map (λ (p : PeerPlan). lone_stream p.id p.aggregation ∷ []) ps)
peers_rows line [] = refl
peers_rows line (p ∷ ps) = ap (λ (vs : List StreamView). new_stream line p.id ∷ vs) (peers_rows (line + 1) ps)

rows_both : (line : ℕ) (xs ys : Rows) → rows_from line (xs ++ ys) ≡ rows_from line xs ++ rows_from (line + length xs) ys
rows_both line [] ys = let same : line ≡ line + 0 = omega arith in ap (λ (n : ℕ). rows_from n ys) same
rows_both line (x ∷ xs) ys =
    let next : line + 1 + length xs ≡ line + suc (length xs) = omega arith in
    ap (λ (vs : List StreamView). new_streams line x ++ vs)
    (rows_both (line + 1) xs ys ∙ ap (λ (n : ℕ). rows_from (line + 1) xs ++ rows_from n ys) next)
    ∙ sym (append_assoc (new_streams line x) (rows_from (line + 1) xs) (rows_from (line + suc (length xs)) ys))

none_from : (line n : ℕ) → rows_from line (empty_rows n) ≡ []
none_from line zero = refl
none_from line (suc n) = none_from (line + 1) n

eight_from : (line : ℕ) (rows : Rows) → length rows ≤ 8 → rows_from line (in_eight rows) ≡ rows_from line rows
eight_from line rows few =
    ap (rows_from line) (eight_rows rows few)
    ∙ (rows_both line rows (empty_rows (8 - length rows))
    ∙ (ap (λ (vs : List StreamView). rows_from line rows ++ vs) (none_from (line + length rows) (8 - length rows))
    ∙ append-nil (rows_from line rows)))

-- eight rows, and others behind them
behind_from : (line next : ℕ) (rows ys : Rows) → length rows ≤ 8 → line + 8 ≡ next
    → rows_from line (in_eight rows ++ ys) ≡ rows_from line rows ++ rows_from next ys
behind_from line next rows ys few is =
    let place : line + length (in_eight rows) ≡ next = omega (arith, length_eight rows few, is) in
    rows_both line (in_eight rows) ys
    ∙ (λ i. eight_from line rows few i ++ rows_from (place i) ys)

pub manager_rows : (plan : Plan) → length plan.links ≤ 8
    → ((streams_from 0 plan.links ++ hops_from 8 plan.links) ++ hops_from 16 plan.links) ++ peers_from 24 plan.peers
    ≡ rows_from 0 (streams_by_line plan)
unfolding streams_by_line
manager_rows plan few =
    let links : length (streams_by_link plan) ≤ 8
    = omega (arith, length-map plan.links (λ (l : LinkPlan). l.streams), few) in
    let hops : length (hop_by_link plan) ≤ 8
    = omega (arith, length-map plan.links (λ (l : LinkPlan). hop_streams l.hop), few) in
    (λ i. ((links_rows 0 plan.links i ++ hops_rows 8 plan.links i) ++ hops_rows 16 plan.links i)
    ++ peers_rows 24 plan.peers i)
    ∙ (append_assoc (rows_from 0 (streams_by_link plan) ++ rows_from 8 (hop_by_link plan))
    (rows_from 16 (hop_by_link plan)) (rows_from 24 (peer_streams plan))
    ∙ (append_assoc (rows_from 0 (streams_by_link plan)) (rows_from 8 (hop_by_link plan))
    (rows_from 16 (hop_by_link plan) ++ rows_from 24 (peer_streams plan))
    ∙ sym (behind_from 0 8 (streams_by_link plan) (behind_links plan) links refl
    ∙ ap (λ (vs : List StreamView). rows_from 0 (streams_by_link plan) ++ vs)
    (behind_from 8 16 (hop_by_link plan) (behind_near plan) hops refl
    ∙ ap (λ (vs : List StreamView). rows_from 8 (hop_by_link plan) ++ vs)
    (behind_from 16 24 (hop_by_link plan) (peer_streams plan) hops refl)))))
