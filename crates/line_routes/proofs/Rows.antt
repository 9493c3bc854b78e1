-- The streams of a line, as they are looked up of a plan.
use Rattle.spec_links.proofs.Terms.{◌≡◌, ◌∙◌, ◌-◌, ◌<◌, ◌≤◌, ◌&&◌, ℕ, zero, suc, List, [], ◌∷◌, Bool, true, false}
use Rattle.spec_links.proofs.Terms.{Option, Some, None, nat_lt, is_some, slice_get, length, map, arith, refl, sym, ap}
use Rattle.spec_links.proofs.Terms.{nat_tests, not, slice_get_within, Plan, PortName, streams_of}
use Rattle.std.specs.List.{slice_index_or}
use Rattle.ide_types.specs.declared.plan.LinkPlan.{LinkPlan}
use Rattle.ide_types.specs.declared.plan.HopPlan.{HopPlan}
use Rattle.ide_types.specs.declared.plan.PeerPlan.{PeerPlan}
use Rattle.ide_types.specs.declared.stream.StreamPlan.{StreamPlan}
use Rattle.ide_types.specs.Ends.{link_hop, line_has}
use Rattle.ide_types.specs.Fits.{FitsPlan}
use Rattle.tlp_layout.specs.Reading.{read_of}
use Rattle.tlp_layout.specs.Outgoing.{outgoing_of}
use Rattle.spec_links.specs.Plan.{has_link, has_line, hop_by_link, hop_streams, lone_stream, peer_streams}
use Rattle.spec_links.specs.Plan.{streams_by_link, behind_links, behind_near}
unfoldable use Rattle.spec_links.specs.Plan.{streams_by_line}
use Rattle.spec_links.specs.Ports.{at_switch, goes_to_hop, hop_lists, lacks_stream, takes_none}
use Rattle.spec_links.proofs.Ends.{among_eight, behind_eight, link_row, stream_is_there}
use Rattle.line_routes.specs.Rows.{goes_to_hop_by, has_line_by, hop_line_has, is_left_to_hop, lacks_hop_stream}

-- ---- rows

pub row_link : (plan : Plan) (line : ℕ) → nat_lt line 8 ≡ true
    → streams_of plan line ≡ slice_index_or (streams_by_link plan) line []
row_link plan line a = link_row plan line (grind (arith, nat_tests))

row_behind : (plan : Plan) (line : ℕ) → nat_lt line 8 ≡ false
    → streams_of plan line ≡ slice_index_or (behind_links plan) (line - 8) []
unfolding streams_by_line
row_behind plan line a = behind_eight (streams_by_link plan) (behind_links plan) line (grind (arith, nat_tests))

pub row_near : (plan : Plan) (line : ℕ) → nat_lt line 8 ≡ false → nat_lt line 16 ≡ true
    → streams_of plan line ≡ slice_index_or (hop_by_link plan) (line - 8) []
row_near plan line a b = row_behind plan line a
    ∙ among_eight (hop_by_link plan) (behind_near plan) (line - 8) (grind (arith, nat_tests))

row_later : (plan : Plan) (line : ℕ) → nat_lt line 8 ≡ false → nat_lt line 16 ≡ false
    → streams_of plan line ≡ slice_index_or (behind_near plan) (line - 16) []
row_later plan line a b =
    let place : line - 8 - 8 ≡ line - 16 = omega arith in
    row_behind plan line a
    ∙ (behind_eight (hop_by_link plan) (behind_near plan) (line - 8) (grind (arith, nat_tests))
    ∙ ap (λ (n : ℕ). slice_index_or (behind_near plan) n []) place)

pub row_far : (plan : Plan) (line : ℕ) → nat_lt line 8 ≡ false → nat_lt line 16 ≡ false → nat_lt line 24 ≡ true
    → streams_of plan line ≡ slice_index_or (hop_by_link plan) (line - 16) []
row_far plan line a b c = row_later plan line a b
    ∙ among_eight (hop_by_link plan) (peer_streams plan) (line - 16) (grind (arith, nat_tests))

pub row_peer : (plan : Plan) (line : ℕ) → nat_lt line 8 ≡ false → nat_lt line 16 ≡ false → nat_lt line 24 ≡ false
    → streams_of plan line ≡ slice_index_or (peer_streams plan) (line - 24) []
row_peer plan line a b c =
    let place : line - 16 - 8 ≡ line - 24 = omega arith in
    row_later plan line a b
    ∙ (behind_eight (hop_by_link plan) (peer_streams plan) (line - 16) (grind (arith, nat_tests))
    ∙ ap (λ (n : ℕ). slice_index_or (peer_streams plan) n []) place)

-- ---- whether there is a stream

abbrev has_one : List StreamPlan → Bool
has_one ss = nat_lt 0 (length ss)

none_there : (links : List LinkPlan) (i : ℕ) → nat_lt i (length links) ≡ false
    → has_one (slice_index_or (map (λ (l : LinkPlan). l.streams) links) i []) ≡ false
none_there [] i off = refl
none_there (l ∷ links) zero off = absurd
    (let no : nat_lt zero (length (l ∷ links)) ≡ true = grind (arith, nat_tests) in cc)
none_there (l ∷ links) (suc i) off = none_there links i (grind (arith, nat_tests))

of_hop : (o : Option HopPlan) → has_one (hop_streams o) ≡ is_some o
of_hop None = refl
of_hop (Some o) = refl

hop_there : (links : List LinkPlan) (i : ℕ)
    → has_one (slice_index_or (map (λ (l : LinkPlan). hop_streams l.hop) links) i [])
    ≡ is_some (link_hop (slice_get links i))
hop_there [] i = refl
hop_there (l ∷ links) zero = of_hop l.hop
hop_there (l ∷ links) (suc i) = hop_there links i

below_suc : (i n : ℕ) → nat_lt (suc i) (suc n) ≡ nat_lt i n
below_suc i n = grind (arith, nat_tests)

peer_there : (peers : List PeerPlan) (i : ℕ)
    → has_one (slice_index_or (map (λ (p : PeerPlan). lone_stream p.id p.aggregation ∷ []) peers) i [])
    ≡ nat_lt i (length peers)
peer_there [] i = grind (arith, nat_tests)
peer_there (p ∷ peers) zero = grind (arith, nat_tests)
peer_there (p ∷ peers) (suc i) = peer_there peers i ∙ sym (below_suc i (length peers))

-- the topology has a line exactly if it has one by what is looked up
pub line_is : (plan : Plan) → FitsPlan plan → (line : ℕ) → has_line plan line ≡ has_line_by plan line
line_is plan fits line = by (nat_lt line 8) (nat_lt line 16) (nat_lt line 24) refl refl refl
  where
    none : nat_lt line 8 ≡ false → has_link plan line ≡ false
    none a = let most = fits.links_most in grind (arith, nat_tests)

    link : (b : Bool) → has_link plan line ≡ b → nat_lt line 8 ≡ true → has_line plan line ≡ has_link plan line
    link true is a = rw is refl
    link false is a = rw (is, row_link plan line a) (none_there plan.links line is)

    by : (a b c : Bool) → nat_lt line 8 ≡ a → nat_lt line 16 ≡ b → nat_lt line 24 ≡ c
        → has_line plan line ≡ has_line_by plan line
    by true b c a_is b_is c_is = rw a_is (link (has_link plan line) refl a_is)
    by false true c a_is b_is c_is =
        rw (none a_is, a_is, b_is, row_near plan line a_is b_is) (hop_there plan.links (line - 8))
    by false false true a_is b_is c_is =
        rw (none a_is, a_is, b_is, c_is, row_far plan line a_is b_is c_is) (hop_there plan.links (line - 16))
    by false false false a_is b_is c_is =
        rw (none a_is, a_is, b_is, c_is, row_peer plan line a_is b_is c_is) (peer_there plan.peers (line - 24))

-- ---- what goes to a hop

none_else : (a : Bool) → (a && false) ≡ false
none_else a = grind arith

own_row : (links : List LinkPlan) (i : ℕ) (l : LinkPlan) → slice_get links i ≡ Some l
    → slice_index_or (map (λ (k : LinkPlan). k.streams) links) i [] ≡ l.streams
own_row [] i l is = absurd cc
own_row (k ∷ links) zero l is = let same : k ≡ l = cc (is) in ap (λ (j : LinkPlan). j.streams) same
own_row (k ∷ links) (suc i) l is = own_row links i l is

pub link_streams : (plan : Plan) → FitsPlan plan → (link : ℕ) (l : LinkPlan) → slice_get plan.links link ≡ Some l
    → streams_of plan link ≡ l.streams
link_streams plan fits link l is =
    let within = slice_get_within plan.links link l is in
    let most = fits.links_most in
    link_row plan link (omega (arith, within, most)) ∙ own_row plan.links link l is

pub to_hop_is : (plan : Plan) → FitsPlan plan → (end : PortName) (bytes : List ℕ)
    → goes_to_hop plan end bytes ≡ goes_to_hop_by plan end bytes
to_hop_is plan fits end bytes = by (slice_get plan.links end.line) refl
  where
    by : (o : Option LinkPlan) → slice_get plan.links end.line ≡ o
        → (takes_none (outgoing_of (streams_of plan end.line) end.side bytes) && hop_lists (link_hop o) (read_of bytes))
        ≡ is_left_to_hop o end.side bytes
    by None is = none_else _
    by (Some l) is = ap (λ (ss : List StreamPlan). takes_none (outgoing_of ss end.side bytes)
        && hop_lists l.hop (read_of bytes)) (link_streams plan fits end.line l is)

pub to_hop_low : (plan : Plan) → FitsPlan plan → (end : PortName) (bytes : List ℕ)
    → goes_to_hop_by plan end bytes ≡ true → end.line < 8
to_hop_low plan fits end bytes goes = by (slice_get plan.links end.line) refl goes
  where
    by : (o : Option LinkPlan) → slice_get plan.links end.line ≡ o → is_left_to_hop o end.side bytes ≡ true
        → end.line < 8
    by None is goes = absurd cc
    by (Some l) is goes =
        let within = slice_get_within plan.links end.line l is in
        let most = fits.links_most in
        omega (arith, within, most)

pub ruleset to_hop = (to_hop_is, to_hop_low)

-- ---- what goes through a switch

-- the end at a switch is on a line of a hop
pub switch_line : (plan : Plan) (end : PortName) → at_switch plan end ≡ true → (8 ≤ end.line) × (end.line < 24)
switch_line plan end is = (grind (arith, nat_tests), grind (arith, nat_tests))

lacks_id : (plan : Plan) (line id : ℕ) → 8 ≤ line → line < 24 → line_has plan line id ≡ hop_line_has plan line id
lacks_id plan line id least most = by (nat_lt line 16) refl
  where
    a : nat_lt line 8 ≡ false
    a = grind (arith, nat_tests)

    c : nat_lt line 24 ≡ true
    c = grind (arith, nat_tests)

    by : (b : Bool) → nat_lt line 16 ≡ b → line_has plan line id ≡ hop_line_has plan line id
    by true b_is = rw (a, b_is) refl
    by false b_is = rw (a, b_is, c) refl

pub lacks_is : (plan : Plan) (end : PortName) (id : Option ℕ) → at_switch plan end ≡ true
    → lacks_stream plan end id ≡ lacks_hop_stream plan end id
lacks_is plan end None is = refl
lacks_is plan end (Some id) is =
    let line = switch_line plan end is in
    ap not (stream_is_there plan end.line id ∙ lacks_id plan end.line id line.0 line.1)

pub ruleset through = (lacks_is, switch_line)
