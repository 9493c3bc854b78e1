-- The ports that verdicts name are ports.
use Rattle.std.proofs.Common.{◌≡◌, ◌∙◌, sym, refl, subst, ap, ℕ, suc, ◌+◌, ◌-◌, ◌<◌, ◌≤◌, ◌==◌, ◌&&◌, ◌||◌, Bool, true}
use Rattle.std.proofs.Common.{false, List, [], ◌∷◌, Option, Some, None, length, arith}
use Rattle.std.specs.Prelude.{if◌then◌else◌, nat_le, nat_lt, slice_get, is_some}
use Rattle.std.specs.Option.{unwrap_or}
use Rattle.std.proofs.lemmas.Bool.{ltb-true, leb-true, lt-ltb, eq-eqb, and_parts}
use Rattle.std.proofs.lemmas.Option.{slice_get_within}
use Rattle.ide_types.specs.declared.port.Side.{Side}
use Rattle.ide_types.specs.declared.port.Side.TheVariants.{Host, Device}
use Rattle.ide_types.specs.declared.port.PortName.{PortName}
use Rattle.ide_types.specs.Ports.{host_port, device_port}
use Rattle.ide_types.specs.Lines.{is_port, is_switch_side, peer_line}
use Rattle.ide_types.specs.declared.stream.StreamPlan.{StreamPlan}
use Rattle.ide_types.specs.declared.plan.LinkPlan.{LinkPlan}
use Rattle.ide_types.specs.declared.plan.PeerPlan.{PeerPlan}
use Rattle.ide_types.specs.declared.plan.Plan.{Plan}
use Rattle.ide_types.specs.Fits.{FitsPlan}
use Rattle.ide_types.specs.Plans.{hop_has_id}
use Rattle.ide_types.specs.Ends.{own_has_id, link_hop, peer_has_id, line_has, port_beside_end, hop_end, peer_end}
use Rattle.ide_types.specs.Ends.{peer_end_at_port, end_at_port, end_at}
use Rattle.ide_types.proofs.EndsFound.{port_is_one}
use Rattle.spec_links.specs.Plan.{streams_of, with_id, stream_plan, has_link, has_port}
use Rattle.spec_links.specs.Ports.{port_of, goes_to_hop, takes_none, outgoing_at, hop_lists, sealing_end, end_reached}
use Rattle.spec_links.specs.Ports.{id_in, end_if}
use Rattle.spec_links.proofs.Ends.{stream_is_there}
use Rattle.tlp_layout.specs.Reading.{read_of}

abbrev IsOne : PortName → Type 0
IsOne p = is_port p ≡ true

-- a link's port
low_port : (p : PortName) → p.line < 8 → is_port p ≡ true
low_port p low = rw (lt-ltb p.line 8 low) refl

-- ---- at the port of an end

beyond : (a b : ℕ) → b ≤ a → nat_lt a b ≡ false
beyond a b le = by (nat_lt a b) refl
  where
    by : (c : Bool) → nat_lt a b ≡ c → c ≡ false
    by true is = absurd (omega (arith, ltb-true a b is, le))
    by false is = refl

-- a port stays
switch_stays : (peers : List PeerPlan) (s : Side) (l : ℕ) → nat_lt l 8 ≡ false → is_switch_side s l ≡ true
    → port_beside_end peers (record { side = s; line = l }) ≡ record { side = s; line = l }
switch_stays peers Host l high h =
    let parts = and_parts (nat_le 16 l) (nat_lt l 24) h in
    let least = leb-true 16 l parts.0 in
    let back : 16 + (l - 16) ≡ l = omega (arith, least) in
    rw (high, beyond l 16 least, parts.1) (ap host_port back)
switch_stays peers Device l high h =
    let parts = and_parts (nat_le 8 l) (nat_lt l 16) h in
    let back : 8 + (l - 8) ≡ l = omega (arith, leb-true 8 l parts.0) in
    rw (high, parts.1) (ap device_port back)

port_stays : (peers : List PeerPlan) (p : PortName) → is_port p ≡ true → port_beside_end peers p ≡ p
port_stays peers p is = by (nat_lt p.line 8) refl is
  where
    by : (low : Bool) → nat_lt p.line 8 ≡ low → (low || is_switch_side p.side p.line) ≡ true → port_beside_end peers p
        ≡ p
    by true low is = rw low refl
    by false high is = switch_stays peers p.side p.line high is

few_links : (plan : Plan) → FitsPlan plan → (link : ℕ) → has_link plan link ≡ true → link < 8
few_links plan fits link is = omega (arith, ltb-true link (length plan.links) is, fits.links_most)

-- it is one by the port of the end
pub of_port_at : (plan : Plan) → FitsPlan plan → (e : PortName) → is_port (port_beside_end plan.peers e) ≡ true
    → is_port (port_of plan e) ≡ true
unfolding port_of
of_port_at plan fits e is = by (has_link plan e.line) refl
  where
    by : (b : Bool) → has_link plan e.line ≡ b → is_port (if b then e else port_beside_end plan.peers e) ≡ true
    by true here = low_port e (few_links plan fits e.line here)
    by false other = is

-- ---- the port of an end that is there

some_stream : (ss : List StreamPlan) → nat_lt 0 (length ss) ≡ true → (id : ℕ) × (is_some (with_id ss id) ≡ true)
some_stream [] is = absurd (let never : ⊥ = cc in never)
some_stream (s ∷ ss) is = (s.id, rw (eq-eqb s.id s.id refl) refl)

pub with_stream : (plan : Plan) → FitsPlan plan → (e : PortName) (id : ℕ) → is_some (stream_plan plan e.line id) ≡ true
    → is_port (port_beside_end plan.peers e) ≡ true
with_stream plan fits e id is = port_is_one plan fits e id (sym (stream_is_there plan e.line id) ∙ is)

pub there_is : (plan : Plan) → FitsPlan plan → (e : PortName) → has_port plan e ≡ true
    → is_port (port_beside_end plan.peers e) ≡ true
unfolding stream_plan
there_is plan fits e is = by (has_link plan e.line) refl is
  where
    by : (b : Bool) → has_link plan e.line ≡ b → (b || nat_lt 0 (length (streams_of plan e.line))) ≡ true
        → is_port (port_beside_end plan.peers e) ≡ true
    by true here is =
        let low = few_links plan fits e.line here in
        rw (lt-ltb e.line 8 low) (low_port e low)
    by false other is = let one = some_stream (streams_of plan e.line) is in with_stream plan fits e one.0 one.1

pub port_is : (plan : Plan) → FitsPlan plan → (e : PortName) → has_port plan e ≡ true → is_port (port_of plan e) ≡ true
port_is plan fits e is = of_port_at plan fits e (there_is plan fits e is)

-- ---- the end of a hop, and of a stream between devices

pub hop_is : (plan : Plan) (side : Side) (link : ℕ) → link < 8
    → is_port (port_beside_end plan.peers (hop_end side link)) ≡ true
hop_is plan Host link low =
    let back : 8 + link - 8 ≡ link = omega arith in
    rw (beyond (8 + link) 8 (omega arith), lt-ltb (8 + link) 16 (omega (arith, low)), back, lt-ltb link 8 low) refl
hop_is plan Device link low =
    let back : 16 + link - 16 ≡ link = omega arith in
    rw (
      beyond (16 + link) 8 (omega arith),
      beyond (16 + link) 16 (omega arith),
      lt-ltb (16 + link) 24 (omega (arith, low)),
      back,
      lt-ltb link 8 low,
    ) refl

-- the end that is found is one of a stream there
record IsFound (ps : List PeerPlan) (n id : ℕ) (e : PortName) : Type 0 where
  k : ℕ
  line : e.line ≡ 24 + (n + k)
  has : peer_has_id (slice_get ps k) id ≡ true

found_is : (ps : List PeerPlan) (n link id : ℕ) (e : PortName) → peer_end ps n link id ≡ Some e → IsFound ps n id e
unfolding peer_end
found_is [] n link id e is = absurd (let never : ⊥ = cc in never)
found_is (p ∷ ps) n link id e is =
    by (p.id == id) (p.near == link) (p.far == link) refl (found_is ps (n + 1) link id e) is
  where
    here : (x : PortName) → x.line ≡ 24 + n → (p.id == id) ≡ true → Some x ≡ Some e → IsFound (p ∷ ps) n id e
    here x line has same = record {
      k = 0;
      line = omega (arith, line, ap (λ (q : PortName). q.line) (let one : x ≡ e = cc in one));
      has = has;
    }

    by : (a b c : Bool) → (p.id == id) ≡ a → (peer_end ps (n + 1) link id ≡ Some e → IsFound ps (n + 1) id e)
        → (if a && b then Some (host_port (peer_line n)) else if a && c then Some (device_port (peer_line n))
        else peer_end ps (n + 1) link id) ≡ Some e → IsFound (p ∷ ps) n id e
    by true true c has later is = here (host_port (peer_line n)) refl has is
    by true false true has later is = here (device_port (peer_line n)) refl has is
    by true false false has later is =
        let f = later is in record { k = suc f.k; line = omega (arith, f.line); has = f.has }
    by false b c has later is = let f = later is in record { k = suc f.k; line = omega (arith, f.line); has = f.has }

peer_is : (plan : Plan) → FitsPlan plan → (link id : ℕ) (e : PortName) → peer_end plan.peers 0 link id ≡ Some e
    → is_port (port_beside_end plan.peers e) ≡ true
peer_is plan fits link id e is =
    let f = found_is plan.peers 0 link id e is in
    let back : e.line - 24 ≡ f.k = omega (arith, f.line) in
    let has : line_has plan e.line id
    ≡ true = rw (
      beyond e.line 8 (omega (arith, f.line)),
      beyond e.line 16 (omega (arith, f.line)),
      beyond e.line 24
          (omega (arith, f.line)),
      back,
    ) f.has in
    port_is_one plan fits e id has

if_peer : (plan : Plan) → FitsPlan plan → (q : PortName) (id : ℕ) → is_port (port_beside_end plan.peers q) ≡ true
    → (o : Option PortName) → peer_end plan.peers 0 q.line id ≡ o → is_port (port_beside_end plan.peers (unwrap_or o q))
    ≡ true
if_peer plan fits q id itself None none = itself
if_peer plan fits q id itself (Some e) found = peer_is plan fits q.line id e found

by_side : (plan : Plan) → FitsPlan plan → (s : Side) (l id : ℕ)
    → is_port (port_beside_end plan.peers (record { side = s; line = l })) ≡ true
    → is_port (port_beside_end plan.peers (peer_end_at_port plan.peers (record { side = s; line = l }) id)) ≡ true
by_side plan fits Host l id itself = itself
by_side plan fits Device l id itself = if_peer plan fits (device_port l) id itself (peer_end plan.peers 0 l id) refl

-- the end that a stream's ID finds at a port
pub found_at : (plan : Plan) → FitsPlan plan → (q : PortName) (id : ℕ) → is_port q ≡ true
    → is_port (port_beside_end plan.peers (end_at_port plan q id)) ≡ true
found_at plan fits q id is = by (nat_lt q.line 8) refl
  where
    itself : is_port (port_beside_end plan.peers q) ≡ true
    itself = subst IsOne (sym (port_stays plan.peers q is)) is

    by_hop : (b : Bool) → nat_lt q.line 8 ≡ true
        → is_port (port_beside_end plan.peers (if b then hop_end q.side q.line else peer_end_at_port plan.peers q id))
        ≡ true
    by_hop true low = hop_is plan q.side q.line (ltb-true q.line 8 low)
    by_hop false low = by_side plan fits q.side q.line id itself

    by_own : (b : Bool) → nat_lt q.line 8 ≡ true → is_port (port_beside_end plan.peers (if b then q
        else if hop_has_id (link_hop (slice_get plan.links q.line)) id then hop_end q.side q.line
        else peer_end_at_port plan.peers q id)) ≡ true
    by_own true low = itself
    by_own false low = by_hop (hop_has_id (link_hop (slice_get plan.links q.line)) id) low

    by : (b : Bool) → nat_lt q.line 8 ≡ b → is_port (port_beside_end plan.peers (if b then
        (if own_has_id (slice_get plan.links q.line) id then q
        else if hop_has_id (link_hop (slice_get plan.links q.line)) id then hop_end q.side q.line
        else peer_end_at_port plan.peers q id) else q)) ≡ true
    by true low = by_own (own_has_id (slice_get plan.links q.line) id) low
    by false high = itself

-- ---- what bytes meet, and where they are sealed

pub reached_is : (plan : Plan) → FitsPlan plan → (e : PortName) (bytes : List ℕ)
    → is_port (port_beside_end plan.peers e) ≡ true → is_port (port_of plan (end_reached plan e bytes)) ≡ true
unfolding end_reached
reached_is plan fits e bytes is = by (id_in bytes)
  where
    by : (o : Option ℕ) → is_port (port_of plan (end_if plan e o)) ≡ true
    by None =
        let q = port_of plan e in
        let one = of_port_at plan fits e is in
        of_port_at plan fits q (subst IsOne (sym (port_stays plan.peers q one)) one)
    by (Some id) = of_port_at plan fits (end_at plan e id) (found_at plan fits (port_beside_end plan.peers e) id is)

has_hop : (plan : Plan) → FitsPlan plan → (link : ℕ) (x : Option LinkPlan) (bytes : List ℕ)
    → slice_get plan.links link ≡ x → hop_lists (link_hop x) (read_of bytes) ≡ true → link < 8
has_hop plan fits link None bytes is lists = absurd (let never : ⊥ = cc in never)
has_hop plan fits link (Some l) bytes is lists = omega (arith, slice_get_within plan.links link l is, fits.links_most)

pub sealing_is : (plan : Plan) → FitsPlan plan → (e : PortName) (bytes : List ℕ) → has_port plan e ≡ true
    → is_port (port_of plan (sealing_end plan e bytes)) ≡ true
unfolding sealing_end
sealing_is plan fits e bytes is = by (goes_to_hop plan e bytes) refl
  where
    by : (b : Bool) → goes_to_hop plan e bytes ≡ b
        → is_port (port_of plan (if b then hop_end e.side e.line else e)) ≡ true
    by true to =
        let lists = and_parts (takes_none (outgoing_at plan e bytes))
        (hop_lists (link_hop (slice_get plan.links e.line)) (read_of bytes)) to in
        of_port_at plan fits (hop_end e.side e.line)
        (hop_is plan e.side e.line (has_hop plan fits e.line (slice_get plan.links e.line) bytes refl lists.1))
    by false to = port_is plan fits e is
