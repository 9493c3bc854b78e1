-- An end is found again at its port by a stream of its line: a stream ID belongs to one line at each port.
use Rattle.std.proofs.Common.{zero, suc, true, false, nat_le, nat_lt, ◌^◌, ◌&&◌, ◌||◌, ◌==◌, ◌≡◌, ◌≢◌, ◌<◌, ◌+◌, ◌-◌, ℕ}
use Rattle.std.proofs.Common.{List}
use Rattle.std.proofs.Common.{[], ◌∷◌, Bool, Option, Some, None, get_or, refl, sym, ◌∙◌, ap, subst, arith, inl, inr}
use Rattle.std.specs.Prelude.{if◌then◌else◌, slice_get}
use Rattle.std.specs.List.{All, AllPairs}
use Rattle.std.proofs.lemmas.Bool.{cases_Bool, ltb-true, ltb-false, lt-ltb, le-leb, eqb-true, eq-eqb, and_parts}
use Rattle.std.proofs.lemmas.List.Elements.{All-get_or}
use Rattle.std.proofs.lemmas.Option.{get_or_from_slice_get, slice_get_within}
use Rattle.ide_types.specs.declared.port.Side.{Side}
use Rattle.ide_types.specs.declared.port.Side.TheVariants.{Host, Device}
use Rattle.ide_types.specs.declared.port.PortName.{PortName}
use Rattle.ide_types.specs.Ports.{host_port, device_port}
use Rattle.ide_types.specs.Lines.{peer_line, is_port, is_switch_side}
use Rattle.ide_types.specs.declared.stream.StreamPlan.{StreamPlan}
use Rattle.ide_types.specs.declared.plan.HopPlan.{HopPlan}
use Rattle.ide_types.specs.declared.plan.LinkPlan.{LinkPlan}
use Rattle.ide_types.specs.declared.plan.PeerPlan.{PeerPlan}
use Rattle.ide_types.specs.declared.plan.Plan.{Plan}
use Rattle.ide_types.specs.Plans.{has_stream_id, hop_has_id, link_has_id, links_have_id}
use Rattle.ide_types.specs.Fits.{FitsPlan, FitsLink, FitsHopIfAny, FitsPeer}
use Rattle.ide_types.specs.Ends.{own_has_id, link_hop, peer_has_id, line_has, peer_link}
use Rattle.ide_types.specs.Ends.{port_beside_end, peer_end, end_at}

-- ---- lists

pub all_at : {A : Type 0} (P : A → Type 0) (xs : List A) (i : ℕ) (x : A) → All P xs → slice_get xs i ≡ Some x → P x
all_at P xs i x all is = subst P (get_or_from_slice_get xs i x x is)
    (All-get_or P xs i x (slice_get_within xs i x is) all)

same_some : {A : Type 0} (a b : A) → Some a ≡ Some b → a ≡ b
same_some a b e = cc

none_some : {A : Type 0} (a : A) → None ≡ Some a → ⊥
none_some a e = cc

false_true : false ≡ true → ⊥
false_true e = cc

-- numbers that differ are told apart
apart_test : (a b : ℕ) → a ≢ b → (a == b) ≡ false
apart_test a b differ = elim (cases_Bool (a == b)) [
  | inl same ↦ absurd (differ (eqb-true a b same))
  | inr other ↦ other
]

-- ---- links and hops

link_fits : (plan : Plan) → FitsPlan plan → (i : ℕ) (l : LinkPlan) → slice_get plan.links i ≡ Some l → FitsLink l
link_fits plan fits i l is = all_at FitsLink plan.links i l fits.each_link is

-- the streams of a link do not have the ID of its hop
hop_apart : (streams : List StreamPlan) (o : Option HopPlan) (id : ℕ) → FitsHopIfAny streams o → hop_has_id o id ≡ true
    → has_stream_id streams id ≡ false
hop_apart streams None id fits has = absurd (false_true has)
hop_apart streams (Some o) id fits has = subst (λ n. has_stream_id streams n ≡ false) (eqb-true o.id id has)
    fits.id_is_new

hop_new : (plan : Plan) → FitsPlan plan → (i : ℕ) (x : Option LinkPlan) (id : ℕ) → slice_get plan.links i ≡ x
    → hop_has_id (link_hop x) id ≡ true → own_has_id x id ≡ false
hop_new plan fits i None id is has = refl
hop_new plan fits i (Some l) id is has = hop_apart l.streams l.hop id (link_fits plan fits i l is).hop has

-- ---- streams between devices

-- one stream, and what else is looked at
abbrev here : PeerPlan → ℕ → ℕ → ℕ → Option PortName → Option PortName
here p n link id rest =
    if p.id == id && p.near == link then Some (host_port (peer_line n))
    else if p.id == id && p.far == link then Some (device_port (peer_line n))
    else rest

not_here : (q : PeerPlan) (n link id : ℕ) (rest : Option PortName) → (q.id == id) ≡ false → here q n link id rest ≡ rest
not_here q n link id rest other = rw other refl

-- where one has the ID and none before it has, it is the one that is found
found : (ps : List PeerPlan) (n link id k m : ℕ) (p : PeerPlan) (e : PortName) → slice_get ps k ≡ Some p → m ≡ n + k
    → ((j : ℕ) (q : PeerPlan) → j < k → slice_get ps j ≡ Some q → (q.id == id) ≡ false)
    → ((rest : Option PortName) → here p m link id rest ≡ Some e) → peer_end ps n link id ≡ Some e
unfolding peer_end
found [] n link id zero m p e is at others tells = absurd (none_some p is)
found [] n link id (suc k) m p e is at others tells = absurd (none_some p is)
found (q ∷ ps) n link id zero m p e is at others tells =
    let first : q ≡ p = same_some q p is in
    let number : m ≡ n = omega (arith, at) in
    subst (λ x. here x n link id (peer_end ps (n + 1) link id) ≡ Some e) (sym first)
    (subst (λ i. here p i link id (peer_end ps (n + 1) link id) ≡ Some e) number
    (tells (peer_end ps (n + 1) link id)))
found (q ∷ ps) n link id (suc k) m p e is at others tells =
    not_here q n link id (peer_end ps (n + 1) link id) (others 0 q (omega arith) refl)
    ∙ found ps (n + 1) link id k m p e is (omega (arith, at))
    (λ j x below there. others (suc j) x (omega (arith, below))
    there) tells

-- of streams that differ in their IDs
others_differ : (ps : List PeerPlan) (k : ℕ) (p : PeerPlan) (id : ℕ) → AllPairs (λ a b. a.id ≢ b.id) ps
    → slice_get ps k ≡ Some p → (p.id == id) ≡ true → (j : ℕ) (q : PeerPlan) → j < k → slice_get ps j ≡ Some q
    → (q.id == id) ≡ false
others_differ ps k p id apart is has j q below there =
    apart_test q.id id (λ same. differ (same ∙ sym (eqb-true p.id id has)))
  where
    differ : q.id ≢ p.id
    differ = subst (λ x. x.id ≢ p.id) (get_or_from_slice_get ps j q q there)
        (subst (λ x. (get_or ps j q).id ≢ x.id) (get_or_from_slice_get ps k p q is)
        (apart j k q below (slice_get_within ps k p is)))

or_parts : (a b : Bool) → (a || b) ≡ false → (a ≡ false) × (b ≡ false)
or_parts true b e = absurd (false_true (sym e))
or_parts false b e = (refl, e)

-- no stream and no hop of the link has the ID
none_has : (x : Option LinkPlan) (id : ℕ) → link_has_id x id ≡ false → (own_has_id x id ≡ false)
    × (hop_has_id (link_hop x) id ≡ false)
none_has None id none = (refl, refl)
none_has (Some l) id none = or_parts (has_stream_id l.streams id) (hop_has_id l.hop id) none

peer_fits : (plan : Plan) → FitsPlan plan → (k : ℕ) (p : PeerPlan) → slice_get plan.peers k ≡ Some p
    → FitsPeer plan.links p
peer_fits plan fits k p is = all_at (FitsPeer plan.links) plan.peers k p fits.each_peer is

-- at the device of either link it is found
near_tells : (p : PeerPlan) (m id : ℕ) → (p.id == id) ≡ true → (rest : Option PortName) → here p m p.near id rest
    ≡ Some (host_port (peer_line m))
near_tells p m id has rest = rw (has, eq-eqb p.near p.near refl) refl

far_tells : (p : PeerPlan) (m id : ℕ) → (p.id == id) ≡ true → p.near ≢ p.far → (rest : Option PortName)
    → here p m p.far id rest ≡ Some (device_port (peer_line m))
far_tells p m id has apart rest = rw (has, apart_test p.near p.far apart, eq-eqb p.far p.far refl) refl

-- ---- an end is found again

abbrev the_end : Side → ℕ → PortName
the_end side line = record { side = side; line = line }

on_link : (plan : Plan) (side : Side) (line id : ℕ) → nat_lt line 8 ≡ true
    → own_has_id (slice_get plan.links line) id ≡ true → end_at plan (the_end side line) id ≡ the_end side line
on_link plan side line id low own = rw low (rw (low, own) refl)

on_near_hop : (plan : Plan) → FitsPlan plan → (side : Side) (line id : ℕ) → nat_lt line 8 ≡ false
    → nat_lt line 16 ≡ true → hop_has_id (link_hop (slice_get plan.links (line - 8))) id ≡ true
    → end_at plan (the_end side line) id ≡ the_end side line
on_near_hop plan fits Host line id low mid hop =
    let own = hop_new plan fits (line - 8) (slice_get plan.links (line - 8)) id refl hop in
    let few = lt-ltb (line - 8) 8 (omega (arith, ltb-false line 8 low, ltb-true line 16 mid)) in
    rw (low, mid, few, own, hop) (ap host_port (omega (arith, ltb-false line 8 low)))
on_near_hop plan fits Device line id low mid hop =
    let back : 8 + (line - 8) ≡ line = omega (arith, ltb-false line 8 low) in
    rw (low, mid, back, low) refl

on_far_hop : (plan : Plan) → FitsPlan plan → (side : Side) (line id : ℕ) → nat_lt line 8 ≡ false
    → nat_lt line 16 ≡ false → nat_lt line 24 ≡ true
    → hop_has_id (link_hop (slice_get plan.links (line - 16))) id ≡ true
    → end_at plan (the_end side line) id ≡ the_end side line
on_far_hop plan fits Host line id low mid high hop =
    let back : 16 + (line - 16) ≡ line = omega (arith, ltb-false line 16 mid) in
    rw (low, mid, high, back, low) refl
on_far_hop plan fits Device line id low mid high hop =
    let own = hop_new plan fits (line - 16) (slice_get plan.links (line - 16)) id refl hop in
    let few = lt-ltb (line - 16) 8 (omega (arith, ltb-false line 16 mid, ltb-true line 24 high)) in
    rw (low, mid, high, few, own, hop) (ap device_port (omega (arith, ltb-false line 16 mid)))

on_peer : (plan : Plan) → FitsPlan plan → (side : Side) (line id : ℕ) (p : PeerPlan) → nat_lt line 8 ≡ false
    → nat_lt line 16 ≡ false → nat_lt line 24 ≡ false → slice_get plan.peers (line - 24) ≡ Some p
    → (p.id == id) ≡ true → end_at plan (the_end side line) id ≡ the_end side line
on_peer plan fits Host line id p low mid high is has =
    let fit = peer_fits plan fits (line - 24) p is in
    let few = lt-ltb p.near 8 (omega (arith, fit.near, fits.links_most)) in
    let same = eqb-true p.id id has in
    let none = none_has (slice_get plan.links p.near) id
    (subst (λ n. links_have_id plan.links p.near n ≡ false) same fit.near_id_is_new) in
    let first = found plan.peers 0 p.near id (line - 24) (line - 24) p (host_port (peer_line (line - 24))) is
    (omega arith)
    (others_differ plan.peers (line - 24) p id fits.peer_ids_differ is has) (near_tells p (line - 24) id has) in
    rw (low, mid, high, is, few, none.0, none.1, first) (ap host_port (omega (arith, ltb-false line 24 high)))
on_peer plan fits Device line id p low mid high is has =
    let fit = peer_fits plan fits (line - 24) p is in
    let few = lt-ltb p.far 8 (omega (arith, fit.far, fits.links_most)) in
    let same = eqb-true p.id id has in
    let none = none_has (slice_get plan.links p.far) id
    (subst (λ n. links_have_id plan.links p.far n ≡ false) same fit.far_id_is_new) in
    let first = found plan.peers 0 p.far id (line - 24) (line - 24) p (device_port (peer_line (line - 24))) is
    (omega arith)
    (others_differ plan.peers (line - 24) p id fits.peer_ids_differ is has)
    (far_tells p (line - 24) id has fit.apart) in
    rw (low, mid, high, is, few, none.0, none.1, first) (ap device_port (omega (arith, ltb-false line 24 high)))

some_peer : (plan : Plan) → FitsPlan plan → (side : Side) (line id : ℕ) (x : Option PeerPlan) → nat_lt line 8 ≡ false
    → nat_lt line 16 ≡ false → nat_lt line 24 ≡ false → slice_get plan.peers (line - 24) ≡ x
    → peer_has_id x id ≡ true → end_at plan (the_end side line) id ≡ the_end side line
some_peer plan fits side line id None low mid high is has = absurd (false_true has)
some_peer plan fits side line id (Some p) low mid high is has = on_peer plan fits side line id p low mid high is has

by_line : (plan : Plan) → FitsPlan plan → (side : Side) (line id : ℕ) (a b c : Bool) → nat_lt line 8 ≡ a
    → nat_lt line 16 ≡ b → nat_lt line 24 ≡ c → (if a then own_has_id (slice_get plan.links line) id
    else if b then hop_has_id (link_hop (slice_get plan.links (line - 8))) id
    else if c then hop_has_id (link_hop (slice_get plan.links (line - 16))) id
    else peer_has_id (slice_get plan.peers (line - 24)) id) ≡ true
    → end_at plan (the_end side line) id ≡ the_end side line
by_line plan fits side line id true b c low mid high has = on_link plan side line id low has
by_line plan fits side line id false true c low mid high has = on_near_hop plan fits side line id low mid has
by_line plan fits side line id false false true low mid high has = on_far_hop plan fits side line id low mid high has
by_line plan fits side line id false false false low mid high has =
    some_peer plan fits side line id (slice_get plan.peers (line - 24)) low mid high refl has

pub end_found : (plan : Plan) → FitsPlan plan → (e : PortName) (id : ℕ) → line_has plan e.line id ≡ true
    → end_at plan e id ≡ e
end_found plan fits e id has = by_line plan fits e.side e.line id _ _ _ refl refl refl has

-- ---- the port of an end is one

port_by_line : (plan : Plan) → FitsPlan plan → (side : Side) (line id : ℕ) (a b c : Bool) → nat_lt line 8 ≡ a
    → nat_lt line 16 ≡ b → nat_lt line 24 ≡ c → (if a then own_has_id (slice_get plan.links line) id
    else if b then hop_has_id (link_hop (slice_get plan.links (line - 8))) id
    else if c then hop_has_id (link_hop (slice_get plan.links (line - 16))) id
    else peer_has_id (slice_get plan.peers (line - 24)) id) ≡ true
    → is_port (port_beside_end plan.peers (the_end side line)) ≡ true
port_by_line plan fits side line id true b c low mid high has = rw (low, low) refl
port_by_line plan fits Host line id false true c low mid high has =
    rw (low, mid, lt-ltb (line - 8) 8 (omega (arith, ltb-false line 8 low, ltb-true line 16 mid))) refl
port_by_line plan fits Device line id false true c low mid high has =
    let back : 8 + (line - 8) ≡ line = omega (arith, ltb-false line 8 low) in
    rw (low, mid, back, low, mid, le-leb 8 line (ltb-false line 8 low)) refl
port_by_line plan fits Host line id false false true low mid high has =
    let back : 16 + (line - 16) ≡ line = omega (arith, ltb-false line 16 mid) in
    rw (low, mid, high, back, low, high, le-leb 16 line (ltb-false line 16 mid)) refl
port_by_line plan fits Device line id false false true low mid high has =
    rw (low, mid, high, lt-ltb (line - 16) 8 (omega (arith, ltb-false line 16 mid, ltb-true line 24 high))) refl
port_by_line plan fits side line id false false false low mid high has =
    at_device (slice_get plan.peers (line - 24)) refl has
  where
    at_device : (x : Option PeerPlan) → slice_get plan.peers (line - 24) ≡ x → peer_has_id x id ≡ true
        → is_port (port_beside_end plan.peers (the_end side line)) ≡ true
    at_device None is has = absurd (false_true has)
    at_device (Some p) is has =
        rw (low, mid, high, is) (device_is_port (peer_link side p)
        (few_links side (peer_fits plan fits (line - 24) p is)))
      where
        few_links : (side : Side) → FitsPeer plan.links p → peer_link side p < 8
        few_links Host fit = omega (arith, fit.near, fits.links_most)
        few_links Device fit = omega (arith, fit.far, fits.links_most)

        device_is_port : (l : ℕ) → l < 8 → is_port (device_port l) ≡ true
        device_is_port l few = rw (lt-ltb l 8 few) refl

pub port_is_one : (plan : Plan) → FitsPlan plan → (e : PortName) (id : ℕ) → line_has plan e.line id ≡ true
    → is_port (port_beside_end plan.peers e) ≡ true
port_is_one plan fits e id has = port_by_line plan fits e.side e.line id _ _ _ refl refl refl has

-- ---- few lines have streams

few_peers : (plan : Plan) → FitsPlan plan → (line id : ℕ) → nat_lt line 24 ≡ false → (x : Option PeerPlan)
    → slice_get plan.peers (line - 24) ≡ x → peer_has_id x id ≡ true → line < 32
few_peers plan fits line id high None is has = absurd (false_true has)
few_peers plan fits line id high (Some p) is has = omega
    (arith, slice_get_within plan.peers (line - 24) p is, fits.peers_most, ltb-false line 24 high)

few_by_line : (plan : Plan) → FitsPlan plan → (line id : ℕ) (a b c : Bool) → nat_lt line 8 ≡ a → nat_lt line 16 ≡ b
    → nat_lt line 24 ≡ c → (if a then own_has_id (slice_get plan.links line) id
    else if b then hop_has_id (link_hop (slice_get plan.links (line - 8))) id
    else if c then hop_has_id (link_hop (slice_get plan.links (line - 16))) id
    else peer_has_id (slice_get plan.peers (line - 24)) id) ≡ true
    → line < 32
few_by_line plan fits line id true b c low mid high has = omega (arith, ltb-true line 8 low)
few_by_line plan fits line id false true c low mid high has = omega (arith, ltb-true line 16 mid)
few_by_line plan fits line id false false true low mid high has = omega (arith, ltb-true line 24 high)
few_by_line plan fits line id false false false low mid high has = few_peers plan fits line id high
    (slice_get plan.peers (line - 24)) refl has

pub fewer_lines : (plan : Plan) → FitsPlan plan → (line id : ℕ) → line_has plan line id ≡ true → line < 32
fewer_lines plan fits line id has = few_by_line plan fits line id _ _ _ refl refl refl has

pub few_lines : (plan : Plan) → FitsPlan plan → (line id : ℕ) → line_has plan line id ≡ true → line < 2 ^ 64
few_lines plan fits line id has = omega (arith, fewer_lines plan fits line id has)

few_by_side : (s : Side) (l : ℕ) (low : Bool) → nat_lt l 8 ≡ low → (low || is_switch_side s l) ≡ true → l < 2 ^ 64
few_by_side s l true is h = omega (arith, ltb-true l 8 is)
few_by_side Host l false is h = omega (arith, ltb-true l 24 (and_parts (nat_le 16 l) (nat_lt l 24) h).1)
few_by_side Device l false is h = omega (arith, ltb-true l 16 (and_parts (nat_le 8 l) (nat_lt l 16) h).1)

pub few_ports : (p : PortName) → is_port p ≡ true → p.line < 2 ^ 64
few_ports p h = few_by_side p.side p.line (nat_lt p.line 8) refl h
