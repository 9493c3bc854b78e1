-- Whose a stream ID is: the end of a line that has the stream is met by its ID at its own port, and so a packet that
-- was not altered arrives at the other end of the line on which it was sealed.
use Rattle.spec_links.specs.Plan.{has_link, streams_by_link, hop_streams, hop_by_link, peer_streams, lone_stream}
use Rattle.spec_links.specs.Plan.{in_eight, behind_near, behind_links}
use Rattle.spec_links.proofs.Terms.{Bool, List, None, Option, Some, [], ap, arith, false, length, map, refl, subst, sym}
use Rattle.spec_links.proofs.Terms.{true, ℕ, ◌++◌, ◌+◌, ◌-◌, ◌==◌, ◌∙◌, ◌∷◌, ◌≡◌, nat_tests, slice_get, suc, zero}
use Rattle.spec_links.proofs.Terms.{PortName, Plan, Packet, has_stream, is_some, streams_of, with_id}
use Rattle.spec_links.proofs.Terms.{if◌then◌else◌, ◌&&◌}
unfoldable use Rattle.spec_links.specs.Plan.{stream_plan, streams_by_line}
unfoldable use Rattle.spec_links.specs.Ports.{goes_through, id_in, port_of}
use Rattle.spec_links.specs.Ports.{at_switch}
use Rattle.std.specs.Prelude.{◌<◌, ◌≤◌, ◌≢◌, ◌||◌, All, AllPairs, nat_lt, replicate}
use Rattle.std.specs.List.{slice_index_or}
use Rattle.std.proofs.Common.{inl, inr, ◌⊎◌}
use Rattle.std.proofs.lemmas.Bool.{cases_lt, eqb-true}
use Rattle.std.proofs.lemmas.List.{get_or_append_left, get_or-append_right, length-append}
use Rattle.std.proofs.lemmas.List.{get_or-take, length-replicate, length-take-le}
use Rattle.std.proofs.lemmas.Option.{get_or_from_slice_get, slice_get_within}
use Rattle.ide_types.specs.declared.port.Side.{Side}
use Rattle.ide_types.specs.declared.port.Side.TheVariants.{Host, Device}
use Rattle.ide_types.specs.Ports.{host_port, device_port}
use Rattle.ide_types.specs.Lines.{peer_line}
use Rattle.ide_types.specs.declared.plan.HopPlan.{HopPlan}
use Rattle.ide_types.specs.declared.plan.LinkPlan.{LinkPlan}
use Rattle.ide_types.specs.declared.plan.PeerPlan.{PeerPlan}
use Rattle.ide_types.specs.declared.stream.StreamPlan.{StreamPlan}
use Rattle.ide_types.specs.Plans.{has_stream_id, hop_has_id, link_has_id, links_have_id}
use Rattle.ide_types.specs.Fits.{FitsPlan, FitsLink, FitsHopIfAny, FitsPeer}
use Rattle.ide_types.specs.Ends.{end_at, end_at_port, far_hop_port, hop_end, line_has, link_hop, near_hop_port}
use Rattle.ide_types.specs.Ends.{own_has_id, peer_has_id, peer_link, port_beside_end}
unfoldable use Rattle.ide_types.specs.Ends.{peer_end}
use Rattle.ide_prefix.specs.Packet.{packet_bytes}

-- ---- the rows of lines

abbrev empty_rows : ℕ → List (List StreamPlan)
empty_rows k = replicate k []

none_there : (k i : ℕ) → slice_index_or (empty_rows k) i [] ≡ []
none_there zero i = refl
none_there (suc k) zero = refl
none_there (suc k) (suc i) = none_there k i

padded : (rows : List (List StreamPlan)) (k i : ℕ) → slice_index_or (rows ++ replicate k []) i []
    ≡ slice_index_or rows i []
padded [] k i = none_there k i
padded (r ∷ rows) k zero = refl
padded (r ∷ rows) k (suc i) = padded rows k i

abbrev none_row : List (List StreamPlan) → List StreamPlan
none_row rows = []

eight : (rows : List (List StreamPlan)) → length (in_eight rows) ≡ 8
eight rows =
    let filled = length-replicate 8 (none_row rows) in
    let all = length-append rows (replicate 8 []) in
    length-take-le 8 (rows ++ replicate 8 []) (omega (arith, filled, all))

pub among_eight : (rows ys : List (List StreamPlan)) (i : ℕ) → i < 8
    → slice_index_or (in_eight rows ++ ys) i [] ≡ slice_index_or rows i []
among_eight rows ys i less =
    get_or_append_left (in_eight rows) ys [] i (let e = eight rows in omega (arith, e, less))
    ∙ (get_or-take 8 (rows ++ replicate 8 []) i [] less ∙ padded rows 8 i)

pub behind_eight : (rows ys : List (List StreamPlan)) (i : ℕ) → 8 ≤ i
    → slice_index_or (in_eight rows ++ ys) i [] ≡ slice_index_or ys (i - 8) []
behind_eight rows ys i least = get_or-append_right (in_eight rows) ys 8 i [] (eight rows) least

-- ---- which line has a stream

ids_are : (ss : List StreamPlan) (id : ℕ) → is_some (with_id ss id) ≡ has_stream_id ss id
ids_are [] id = refl
ids_are (s ∷ ss) id = let more = ids_are ss id in grind (arith, more)

own_is : (links : List LinkPlan) (i id : ℕ)
    → is_some (with_id (slice_index_or (map (λ (l : LinkPlan). l.streams) links) i []) id)
    ≡ own_has_id (slice_get links i) id
own_is [] i id = refl
own_is (l ∷ links) zero id = ids_are l.streams id
own_is (l ∷ links) (suc i) id = own_is links i id

lone_is : (o : Option HopPlan) (id : ℕ) → is_some (with_id (hop_streams o) id) ≡ hop_has_id o id
lone_is o id = grind arith

hop_is : (links : List LinkPlan) (i id : ℕ)
    → is_some (with_id (slice_index_or (map (λ (l : LinkPlan). hop_streams l.hop) links) i []) id)
    ≡ hop_has_id (link_hop (slice_get links i)) id
hop_is [] i id = refl
hop_is (l ∷ links) zero id = lone_is l.hop id
hop_is (l ∷ links) (suc i) id = hop_is links i id

peer_is : (peers : List PeerPlan) (i id : ℕ)
    → is_some (with_id (slice_index_or (map (λ (p : PeerPlan). lone_stream p.id p.aggregation ∷ []) peers) i []) id)
    ≡ peer_has_id (slice_get peers i) id
peer_is [] i id = refl
peer_is (p ∷ peers) zero id = grind arith
peer_is (p ∷ peers) (suc i) id = peer_is peers i id

-- the streams of a line are those that the topology has there
pub stream_is_there : (plan : Plan) (line id : ℕ) → is_some (stream_plan plan line id) ≡ line_has plan line id
unfolding stream_plan streams_by_line
stream_is_there plan line id = elim (cases_lt line 8) [
  | inl lt ↦
      let first : nat_lt line 8 ≡ true = grind (arith, nat_tests) in
      rw (among_eight (streams_by_link plan) (behind_links plan) line lt, first)
      (own_is plan.links line id)
  | inr le ↦ elim (cases_lt line 16) [
    | inl lt ↦
        let tests : (nat_lt line 8 ≡ false) × (nat_lt line 16 ≡ true) = (
          grind (arith, nat_tests),
          grind
              (arith, nat_tests),
        ) in
        rw (
          behind_eight (streams_by_link plan) (behind_links plan) line le,
          among_eight (hop_by_link plan) (behind_near plan) (line - 8) (omega (arith, le, lt)),
          tests.0,
          tests.1,
        )
        (hop_is plan.links (line - 8) id)
    | inr le16 ↦ late le le16 (cases_lt line 24)
  ]
]
  where
    late : 8 ≤ line → 16 ≤ line → (line < 24) ⊎ (24 ≤ line)
        → is_some (with_id (slice_index_or (in_eight (streams_by_link plan) ++ behind_links plan) line []) id)
        ≡ line_has plan line id
    late le le16 (inl lt) =
        let a : nat_lt line 8 ≡ false = grind (arith, nat_tests) in
        let b : nat_lt line 16 ≡ false = grind (arith, nat_tests) in
        let c : nat_lt line 24 ≡ true = grind (arith, nat_tests) in
        let place : line - 8 - 8 ≡ line - 16 = omega arith in
        rw (
          behind_eight (streams_by_link plan) (behind_links plan) line le,
          behind_eight (hop_by_link plan) (behind_near plan) (line - 8) (omega (arith, le16)),
          place,
          among_eight (hop_by_link plan) (peer_streams plan) (line - 16) (omega (arith, le16, lt)),
          a,
          b,
          c,
        )
        (hop_is plan.links (line - 16) id)
    late le le16 (inr le24) =
        let a : nat_lt line 8 ≡ false = grind (arith, nat_tests) in
        let b : nat_lt line 16 ≡ false = grind (arith, nat_tests) in
        let c : nat_lt line 24 ≡ false = grind (arith, nat_tests) in
        let place : line - 8 - 8 ≡ line - 16 = omega arith in
        let more : line - 16 - 8 ≡ line - 24 = omega arith in
        rw (
          behind_eight (streams_by_link plan) (behind_links plan) line le,
          behind_eight (hop_by_link plan) (behind_near plan) (line - 8) (omega (arith, le16)),
          place,
          behind_eight (hop_by_link plan) (peer_streams plan) (line - 16) (omega (arith, le24)),
          more,
          a,
          b,
          c,
        )
        (peer_is plan.peers (line - 24) id)

-- ---- IDs belong to one line at each port

hop_apart : (links : List LinkPlan) → All FitsLink links → (i id : ℕ)
    → hop_has_id (link_hop (slice_get links i)) id ≡ true → own_has_id (slice_get links i) id ≡ false
hop_apart [] each i id is = absurd cc
hop_apart (l ∷ links) each zero id is = by l.hop (each 0 l (omega arith)).hop is
  where
    by : (o : Option HopPlan) → FitsHopIfAny l.streams o → hop_has_id o id ≡ true → has_stream_id l.streams id ≡ false
    by None fits is = absurd cc
    by (Some o) fits is = subst (λ (n : ℕ). has_stream_id l.streams n ≡ false) (eqb-true o.id id is) fits.id_is_new
hop_apart (l ∷ links) each (suc i) id is = hop_apart links (λ k d lt. each (suc k) d (omega arith)) i id is

peer_fits : (links : List LinkPlan) (ps : List PeerPlan) → All (FitsPeer links) ps → (i : ℕ) (p : PeerPlan)
    → slice_get ps i ≡ Some p → FitsPeer links p
peer_fits links [] each i p is = absurd cc
peer_fits links (q ∷ ps) each zero p is = let same : q ≡ p = cc (is) in subst (FitsPeer links) same
    (each 0 q (omega arith))
peer_fits links (q ∷ ps) each (suc i) p is = peer_fits links ps (λ k d lt. each (suc k) d (omega arith)) i p is

both_false : (a b : Bool) → (a || b) ≡ false → (a ≡ false) × (b ≡ false)
both_false a b is = (grind arith, grind arith)

-- no stream and no hop of a link has the ID
free_there : (links : List LinkPlan) (i id : ℕ) → links_have_id links i id ≡ false
    → (own_has_id (slice_get links i) id ≡ false) × (hop_has_id (link_hop (slice_get links i)) id ≡ false)
free_there links i id is = by (slice_get links i) is
  where
    by : (o : Option LinkPlan) → link_has_id o id ≡ false
        → (own_has_id o id ≡ false) × (hop_has_id (link_hop o) id ≡ false)
    by None is = (refl, refl)
    by (Some l) is = both_false (has_stream_id l.streams id) (hop_has_id l.hop id) is

same-true : (n : ℕ) → (n == n) ≡ true
same-true n = grind (arith, nat_tests)

-- a stream between devices is found by its ID at the device of its first link, and at that of its second
peer_met : (ps : List PeerPlan) → AllPairs (λ a b. a.id ≢ b.id) ps → (n i : ℕ) (p : PeerPlan) → slice_get ps i ≡ Some p
    → p.near ≢ p.far → (peer_end ps n p.near p.id ≡ Some (host_port (peer_line (n + i))))
    × (peer_end ps n p.far p.id ≡ Some (device_port (peer_line (n + i))))
unfolding peer_end
peer_met [] apart n i p is two = absurd cc
peer_met (q ∷ ps) apart n zero p is two =
    let same : q ≡ p = cc (is) in
    let place : n + zero ≡ n = omega arith in
    let other : (p.near == p.far) ≡ false = grind (arith, nat_tests) in
    subst (λ (r : PeerPlan).
    ((if r.id == p.id && r.near == p.near then Some (host_port (peer_line n))
    else if r.id == p.id && r.far == p.near then Some (device_port (peer_line n)) else peer_end ps (n + 1) p.near p.id)
    ≡ Some (host_port (peer_line (n + zero))))
    × ((if r.id == p.id && r.near == p.far then Some (host_port (peer_line n))
    else if r.id == p.id && r.far == p.far then Some (device_port (peer_line n)) else peer_end ps (n + 1) p.far p.id)
    ≡ Some (device_port (peer_line (n + zero))))) (sym same)
    (rw (place, same-true p.id, same-true p.near, same-true p.far, other) (refl, refl))
peer_met (q ∷ ps) apart n (suc i) p is two =
    let less = slice_get_within ps i p is in
    let there : slice_index_or ps i q ≡ p = get_or_from_slice_get ps i p q is in
    let differ : q.id ≢ p.id = subst (λ (r : PeerPlan). q.id ≢ r.id) there
    (apart 0 (suc i) q (omega arith) (omega (arith, less))) in
    let off : (q.id == p.id) ≡ false = grind (arith, nat_tests) in
    let place : n + suc i ≡ n + 1 + i = omega arith in
    rw (off, place) (peer_met ps (λ a b d lt more. apart (suc a) (suc b) d (omega arith) (omega arith)) (n + 1) i p is
    two)

-- ---- an end is met by the IDs of its line

abbrev on_side : Side → ℕ → PortName
on_side side line = record { side = side; line = line }

hosts : (side : Side) (a b : ℕ) → a ≡ b → on_side side a ≡ on_side side b
hosts side a b same = ap (on_side side) same

-- what a port gives to an ID
on_link : (plan : Plan) (side : Side) (link id : ℕ) → nat_lt link 8 ≡ true → own_has_id (slice_get plan.links link) id
    ≡ true → end_at_port plan (on_side side link) id ≡ on_side side link
on_link plan side link id low own = rw (low, own) refl

on_hop : (plan : Plan) (side : Side) (link id : ℕ) → nat_lt link 8 ≡ true
    → own_has_id (slice_get plan.links link) id ≡ false → hop_has_id (link_hop (slice_get plan.links link)) id ≡ true
    → end_at_port plan (on_side side link) id ≡ hop_end side link
on_hop plan side link id low own hop = rw (low, own, hop) refl

on_peer : (plan : Plan) (link id : ℕ) (e : PortName) → nat_lt link 8 ≡ true
    → (own_has_id (slice_get plan.links link) id ≡ false) ×
    (hop_has_id (link_hop (slice_get plan.links link)) id ≡ false)
    → peer_end plan.peers 0 link id ≡ Some e → end_at_port plan (on_side Device link) id ≡ e
on_peer plan link id e low free met = rw (low, free.0, free.1, met) refl

on_switch : (plan : Plan) (side : Side) (line id : ℕ) → nat_lt line 8 ≡ false → end_at_port plan (on_side side line) id
    ≡ on_side side line
on_switch plan side line id late = rw late refl

-- the port of an end
of_link : (peers : List PeerPlan) (e : PortName) → nat_lt e.line 8 ≡ true → port_beside_end peers e ≡ e
of_link peers e a = rw a refl

of_near : (peers : List PeerPlan) (e : PortName) → nat_lt e.line 8 ≡ false → nat_lt e.line 16 ≡ true
    → port_beside_end peers e ≡ near_hop_port e.side (e.line - 8)
of_near peers e a b = rw (a, b) refl

of_far : (peers : List PeerPlan) (e : PortName) → nat_lt e.line 8 ≡ false → nat_lt e.line 16 ≡ false
    → nat_lt e.line 24 ≡ true → port_beside_end peers e ≡ far_hop_port e.side (e.line - 16)
of_far peers e a b c = rw (a, b, c) refl

of_late : (peers : List PeerPlan) (e : PortName) (p : PeerPlan) → nat_lt e.line 8 ≡ false → nat_lt e.line 16 ≡ false
    → nat_lt e.line 24 ≡ false → slice_get peers (e.line - 24) ≡ Some p
    → port_beside_end peers e ≡ on_side Device (peer_link e.side p)
of_late peers e p a b c at = rw (a, b, c, at) refl

-- by the line's number
module _ (plan : Plan) (fits : FitsPlan plan) (line id : ℕ) (has : line_has plan line id ≡ true) where
  link_met : nat_lt line 8 ≡ true → (side : Side) → end_at plan (on_side side line) id ≡ on_side side line
  link_met a side = ap (λ (q : PortName). end_at_port plan q id) (of_link plan.peers (on_side side line) a)
      ∙ on_link plan side line id a (rw a at has)

  near_met : nat_lt line 8 ≡ false → nat_lt line 16 ≡ true → (side : Side)
      → end_at plan (on_side side line) id ≡ on_side side line
  near_met a b side = ap (λ (q : PortName). end_at_port plan q id) (of_near plan.peers (on_side side line) a b) ∙ by
      side
    where
      hop : hop_has_id (link_hop (slice_get plan.links (line - 8))) id ≡ true
      hop = rw (a, b) at has

      back : 8 + (line - 8) ≡ line
      back = grind (arith, nat_tests)

      by : (side : Side) → end_at_port plan (near_hop_port side (line - 8)) id ≡ on_side side line
      by Host = on_hop plan Host (line - 8) id (grind (arith, nat_tests))
          (hop_apart plan.links fits.each_link (line - 8) id hop) hop ∙ hosts Host (8 + (line - 8)) line back
      by Device = on_switch plan Device (8 + (line - 8)) id (grind (arith, nat_tests))
          ∙ hosts Device (8 + (line - 8)) line back

  far_met : nat_lt line 8 ≡ false → nat_lt line 16 ≡ false → nat_lt line 24 ≡ true → (side : Side)
      → end_at plan (on_side side line) id ≡ on_side side line
  far_met a b c side = ap (λ (q : PortName). end_at_port plan q id) (of_far plan.peers (on_side side line) a b c) ∙ by
      side
    where
      hop : hop_has_id (link_hop (slice_get plan.links (line - 16))) id ≡ true
      hop = rw (a, b, c) at has

      back : 16 + (line - 16) ≡ line
      back = grind (arith, nat_tests)

      by : (side : Side) → end_at_port plan (far_hop_port side (line - 16)) id ≡ on_side side line
      by Host = on_switch plan Host (16 + (line - 16)) id (grind (arith, nat_tests))
          ∙ hosts Host (16 + (line - 16)) line back
      by Device = on_hop plan Device (line - 16) id (grind (arith, nat_tests))
          (hop_apart plan.links fits.each_link (line - 16) id hop) hop ∙ hosts Device (16 + (line - 16)) line back

  late_met : nat_lt line 8 ≡ false → nat_lt line 16 ≡ false → nat_lt line 24 ≡ false → (o : Option PeerPlan)
      → slice_get plan.peers (line - 24) ≡ o → (side : Side) → end_at plan (on_side side line) id ≡ on_side side line
  late_met a b c None at side = absurd (let none = rw (a, b, c, at) at has in cc)
  late_met a b c (Some p) at side =
      ap (λ (q : PortName). end_at_port plan q id) (of_late plan.peers (on_side side line) p a b c at)
      ∙ subst (λ (n : ℕ). end_at_port plan (on_side Device (peer_link side p)) n ≡ on_side side line)
      (eqb-true p.id id (rw (a, b, c, at) at has)) (by side)
    where
      peer : FitsPeer plan.links p
      peer = peer_fits plan.links plan.peers fits.each_peer (line - 24) p at

      met : (peer_end plan.peers 0 p.near p.id ≡ Some (on_side Host (24 + (0 + (line - 24)))))
          × (peer_end plan.peers 0 p.far p.id ≡ Some (on_side Device (24 + (0 + (line - 24)))))
      met = peer_met plan.peers fits.peer_ids_differ 0 (line - 24) p at peer.apart

      back : 24 + (0 + (line - 24)) ≡ line
      back = grind (arith, nat_tests)

      low : (n : ℕ) → n < length plan.links → nat_lt n 8 ≡ true
      low n less = let most = fits.links_most in grind (arith, nat_tests)

      by : (side : Side) → end_at_port plan (on_side Device (peer_link side p)) p.id ≡ on_side side line
      by Host = on_peer plan p.near p.id _ (low p.near peer.near)
          (free_there plan.links p.near p.id peer.near_id_is_new) met.0 ∙ hosts Host (24 + (0 + (line - 24))) line back
      by Device = on_peer plan p.far p.id _ (low p.far peer.far)
          (free_there plan.links p.far p.id peer.far_id_is_new) met.1 ∙ hosts Device (24 + (0 + (line - 24))) line back

  line_met : (side : Side) → end_at plan (on_side side line) id ≡ on_side side line
  line_met side = by (nat_lt line 8) (nat_lt line 16) (nat_lt line 24) refl refl refl
    where
      by : (a b c : Bool) → nat_lt line 8 ≡ a → nat_lt line 16 ≡ b → nat_lt line 24 ≡ c
          → end_at plan (on_side side line) id ≡ on_side side line
      by true b c a_is b_is c_is = link_met a_is side
      by false true c a_is b_is c_is = near_met a_is b_is side
      by false false true a_is b_is c_is = far_met a_is b_is c_is side
      by false false false a_is b_is c_is = late_met a_is b_is c_is (slice_get plan.peers (line - 24)) refl side

pub own_end : (plan : Plan) → FitsPlan plan → (e : PortName) (id : ℕ) → line_has plan e.line id ≡ true
    → end_at plan e id ≡ e
own_end plan fits e id has = line_met plan fits e.line id has e.side

-- ---- packets that were not altered

-- bytes of a packet name its stream
pub id_is : (p : Packet) → id_in (packet_bytes p) ≡ Some p.prefix.stream
unfolding id_in
id_is p = refl

-- ---- the streams of links themselves

known_below : (links : List LinkPlan) (i id : ℕ) → own_has_id (slice_get links i) id ≡ true → i < length links
known_below [] i id is = absurd cc
known_below (l ∷ links) zero id is = omega arith
known_below (l ∷ links) (suc i) id is = let less = known_below links i id is in omega (arith, less)

-- an end whose stream is one of its port's link is that port
pub own_port : (plan : Plan) → FitsPlan plan → (e : PortName) (id : ℕ) → has_stream plan e id ≡ true
    → own_has_id (slice_get plan.links (port_of plan e).line) id ≡ true → port_of plan e ≡ e
unfolding port_of
own_port plan fits e id known own = by (has_link plan e.line) refl own
  where
    by : (b : Bool) → has_link plan e.line ≡ b
        → own_has_id (slice_get plan.links (if b then e else port_beside_end plan.peers e).line) id ≡ true
        → (if b then e else port_beside_end plan.peers e) ≡ e
    by true link own = refl
    by false link own =
        let q = port_beside_end plan.peers e in
        let less = known_below plan.links q.line id own in
        let most = fits.links_most in
        sym (on_link plan q.side q.line id (grind (arith, nat_tests)) own)
        ∙ own_end plan fits e id (sym (stream_is_there plan e.line id) ∙ known)

none_else : (a : Bool) → (a && false) ≡ false
none_else a = grind arith

-- a switch reads what is of a stream of its end
pub not_through : (plan : Plan) (e : PortName) (p : Packet) → has_stream plan e p.prefix.stream ≡ true
    → goes_through plan e (packet_bytes p) ≡ false
unfolding goes_through
not_through plan e p known = rw (id_is p, known) (none_else (at_switch plan e))

-- the streams of a link are those of its plan
pub link_row : (plan : Plan) (link : ℕ) → link < 8
    → streams_of plan link ≡ slice_index_or (streams_by_link plan) link []
unfolding streams_by_line
link_row plan link less = among_eight (streams_by_link plan) (behind_links plan) link less
