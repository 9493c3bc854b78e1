-- What an operation at both ends of a line makes of all ends, as the machine has it: the near end changes, then the far
-- end, and the operation in the manager's list, in which each line has a stretch of its own. The pool draws as the
-- machine says, since an operation that is not refused reached one of its exchanges.
use Rattle.all_ends.specs.declared.places.LinePlace.{LinePlace}
use Rattle.all_ends.specs.declared.places.LinePlace.TheVariants.{Link, Near, Pair}
use Rattle.all_ends.proofs.Terms.{◌≡◌, ℕ, suc, zero, ◌==◌, true, false, List, [], ◌∷◌, ◌++◌, refl, ap, sym, ◌∙◌, subst}
use Rattle.all_ends.proofs.Terms.{arith, Option, Some, None, option_map, slice_get, slice_set, map, slice_index_or}
use Rattle.all_ends.proofs.Terms.{same_Some, nat_tests, set-get_or, Side, Host, Device, PortName, Plan, StreamPlan}
use Rattle.all_ends.proofs.Terms.{StreamStage, StreamState, streams_of, LinkState, LinkPacket, find_op}
use Rattle.all_ends.proofs.Terms.{with_stream_state, port_at, StreamView, Named, PortEnd, Found}
use Rattle.all_ends.proofs.Terms.{found_stream, changed_states, LinkEnds, PairEnds, EndsView, with_port, with_pair_port}
use Rattle.all_ends.proofs.Terms.{KeeperView, ops_by_line, line_ops, views_after, name_of, names_of, state_of, rows_of}
use Rattle.all_ends.proofs.Terms.{ports_in, pair_ports, in_sixteen, AreLinks, port_in, pair_port, port_on, with_port_on}
use Rattle.all_ends.proofs.Terms.{port_at_place, with_port_at_place, line_place, changed_at, changed_same}
unfoldable use Rattle.spec_links.specs.Plan.{streams_by_line}
use Rattle.key_slots.specs.{Pool}
use Rattle.spec_keys.specs.Operations.{Work, Reach}
unfoldable use Rattle.machine_ports.specs.Machine.{put_op}
use Rattle.machine_ports.specs.Machine.{place_at_end, ports_of, touches_at, touched_found, touched_at, touched_state}
use Rattle.machine_ports.specs.Machine.{work_done}
use Rattle.all_ends.specs.{touched_by, draws_by, pool_by, HasStream}
use Rattle.all_ends.proofs.{IsNamed, set_named}
use Rattle.ide_types.specs.declared.sub.SubKind.{SubKind}
use Rattle.ide_types.specs.Lines.{is_hosted}
use Rattle.machine_ports.specs.Touches.{touched_stream}
use Rattle.spec_keys.specs.Keys.{Touch}
use Rattle.key_host.specs.Walk.{op_if_reached}
use Rattle.join_ends.proofs.Managers.{Apart, ops_changed}
use Rattle.all_ends.proofs.ByPlace.{seen_same}
use Rattle.all_ends.proofs.Finds.{wired, port_is, find_at, put_at, state_kept}
use Rattle.all_ends.proofs.Kept.{Keeps, end_kept}
use Rattle.machine_ports.specs.Machine as machine

-- ---- the operations of all lines, with another stream in a place

apart_set : (line id : ℕ) (w : StreamView) (vs : List StreamView) → Apart line (map name_of vs) → set_named line id w vs
    ≡ vs
apart_set line id w [] apart = refl
apart_set line id w (x ∷ vs) apart = rw (apart.0, apart_set line id w vs apart.1)

set_here : (line id : ℕ) (w : StreamView) (ss : List StreamPlan) (vs : List StreamView) (rest : List (ℕ × ℕ))
    → map name_of vs ≡ names_of line ss ++ rest → Apart line rest
    → (line_ops ss (set_named line id w vs) ≡ machine.changed_by_id ss (line_ops ss vs) id w.op)
    × (views_after ss (set_named line id w vs) ≡ views_after ss vs)
set_here line id w [] vs rest names apart =
    (refl, apart_set line id w vs (subst (λ (ns : List (ℕ × ℕ)). Apart line ns) (sym names) apart))
set_here line id w (s ∷ ss) [] rest names apart = absurd cc
set_here line id w (s ∷ ss) (x ∷ vs) rest names apart =
    let name : name_of x ≡ (line, s.id) = cc in
    let more = set_here line id w ss vs rest (cc) apart in
    (grind (arith, nat_tests, name, more.0), grind (arith, more.1))

set_other : (line id : ℕ) (w : StreamView) (from : ℕ) (ss : List StreamPlan) (vs : List StreamView)
    (rest : List (ℕ × ℕ)) → (from == line) ≡ false
    → map name_of vs ≡ names_of from ss ++ rest → (line_ops ss (set_named line id w vs) ≡ line_ops ss vs) ×
    (views_after ss (set_named line id w vs) ≡ set_named line id w (views_after ss vs))
set_other line id w from [] vs rest differs names = (refl, refl)
set_other line id w from (s ∷ ss) [] rest differs names = absurd cc
set_other line id w from (s ∷ ss) (x ∷ vs) rest differs names =
    let name : name_of x ≡ (from, s.id) = cc in
    let more = set_other line id w from ss vs rest differs (cc) in
    (grind (arith, nat_tests, name, more.0), grind (arith, nat_tests, name, more.1))

-- an operation put back
put_back : (ss : List StreamPlan) (os : List StreamStage) (id : ℕ) (q : StreamStage)
    → machine.found_by_id ss os id ≡ Some q → machine.changed_by_id ss os id q ≡ os
put_back [] os id q is = refl
put_back (s ∷ ss) [] id q is = refl
put_back (s ∷ ss) (o ∷ os) id q is = grind (arith, nat_tests, put_back ss os id q)

put_op_back : (plan : Plan) (st : LinkState) (line id : ℕ) (q : StreamStage) → find_op plan st line id ≡ Some q
    → put_op plan st line id q ≡ st
unfolding find_op put_op
put_op_back plan st line id q is =
    ap (λ (os : List (List StreamStage)). record st { ops = os })
    (ap (λ (xs : List StreamStage). slice_set st.ops line xs)
    (put_back (streams_of plan line) (slice_index_or st.ops line []) id q is) ∙ set-get_or st.ops line [])

-- the state with another stream of the manager
state_ops : (plan : Plan) (v : EndsView) (k k' : KeeperView) (packets : List LinkPacket) (n : Named)
    (line id : ℕ) (w : StreamView) → AreLinks plan v k → IsNamed k.manager line id n
    → k'.manager.streams ≡ slice_set k.manager.streams n.place w → (es : EndsView)
    → state_of plan es k' packets ≡ record (put_op plan (state_of plan es k packets) line id w.op)
    { draws = k'.pool.draws }
unfolding put_op
state_ops plan v k k' packets n line id w links named streams es =
    let all = ops_changed line (set_named line id w) (λ ss os. machine.changed_by_id ss os id w.op)
    (record { here = set_here line id w; other = set_other line id w })
    (streams_by_line plan) 0 line k.manager.streams (omega arith) links.names in
    ap (λ (vs : List StreamView). record (state_of plan es k' packets) { ops = ops_by_line (streams_by_line plan) vs })
    (streams ∙ named.sets w)
    ∙ ap (λ (os : List (List StreamStage)). record (state_of plan es k' packets) { ops = os }) all

-- ---- both ends of a line

-- with another state of a stream there
pub port_operated : (e e' : PortEnd) (id : ℕ) (x : StreamState) → HasStream e id x e' → Keeps e e'
port_operated e e' id x has = record {
  name = ap (λ (p : PortEnd). p.name) has;
  plans = ap (λ (p : PortEnd). p.plans) has;
  limit = ap (λ (p : PortEnd). p.limit) has;
}

-- the far end, after a change of the near one
pub other_at : (v : EndsView) (place : LinePlace) (e : PortEnd)
    → port_at_place (with_port_at_place v Host place e) Device place ≡ port_at_place v Device place
other_at v (Link i) e = seen_same (λ (l : LinkEnds). port_in Device l) v.links i i (with_port Host e) (λ l. refl)
other_at v (Near i) e = seen_same (λ (l : LinkEnds). port_in Device l) v.near i i (with_port Host e) (λ l. refl)
other_at v (Pair i) e = seen_same (λ (l : PairEnds). pair_port Device l) v.pairs i i (with_pair_port Host e)
    (λ l. refl)

-- with other states of one stream at both ends
pub record BothHave (v : EndsView) (line id : ℕ) (near far : PortEnd) (f g : Found) (x y : StreamState)
    (near' far' : PortEnd) : Type 0 where
  pub near_there : port_on v (port_at Host line) ≡ Some near
  pub far_there : port_on v (port_at Device line) ≡ Some far
  pub near_found : found_stream near.plans near.states id ≡ Some f
  pub far_found : found_stream far.plans far.states id ≡ Some g
  pub near_has : HasStream near id x near'
  pub far_has : HasStream far id y far'

abbrev pub with_both : EndsView → ℕ → PortEnd → PortEnd → EndsView
with_both v line near far = with_port_on (with_port_on v (port_at Host line) near) (port_at Device line) far

module _ (plan : Plan) (k : KeeperView) (packets : List LinkPacket) (line id : ℕ) where
  -- at one side
  touched_side : (v : EndsView) (side : Side) (e e' : PortEnd) (f : Found) (x : StreamState)
      (out into : Side → SubKind → List Touch) → AreLinks plan v k → port_on v (port_at side line) ≡ Some e
      → found_stream e.plans e.states id ≡ Some f → HasStream e id x e'
      → x ≡ touched_stream plan (port_at side line) id (out side) (into side) f.state
      → touched_at plan (state_of plan v k packets) line id out into side
      ≡ state_of plan (with_port_on v (port_at side line) e') k packets
  touched_side v side e e' f x out into links is at has x_is =
      let end : PortName = port_at side line in
      let w = wired plan v k links in
      let at_end = port_is plan v k links end e is in
      let seen = find_at plan v k packets w end e is id at_end
      ∙ ap (λ (o : Option Found). option_map (λ (g : Found). g.state) o) at in
      ap (λ (o : Option StreamState). touched_found plan (state_of plan v k packets) end id (out side) (into side) o)
      seen
      ∙ (ap (λ (z : StreamState). with_stream_state plan (state_of plan v k packets) end id z) (sym x_is)
      ∙ put_at plan v k packets w end e is id x e' at_end (ap (λ (p : PortEnd). p.states) has))

  kept_side : (v : EndsView) (side : Side) (e e' : PortEnd) (f : Found) (x : StreamState) → AreLinks plan v k
      → port_on v (port_at side line) ≡ Some e → found_stream e.plans e.states id ≡ Some f → HasStream e id x e' → x
      ≡ f.state → state_of plan v k packets ≡ state_of plan (with_port_on v (port_at side line) e') k packets
  kept_side v side e e' f x links is at has x_is =
      state_kept plan v k packets (wired plan v k links) (port_at side line) e is e' (ap (λ (p : PortEnd). p.states) has
      ∙ (ap (λ (z : StreamState). changed_states e.plans e.states id z) x_is ∙ changed_same _ _ id f at))

  module _ (v : EndsView) (links : AreLinks plan v k) (near far near' far' : PortEnd) (f g : Found) (x y : StreamState)
      (both : BothHave v line id near far f g x y near' far') where
    abbrev v1 : EndsView
    v1 = with_port_on v (port_at Host line) near'

    links1 : AreLinks plan v1 k
    links1 = end_kept plan v k links (port_at Host line) near near' both.near_there
        (port_operated near near' id x both.near_has)

    far_still : port_on v1 (port_at Device line) ≡ Some far
    far_still = other_at v (line_place line) near' ∙ both.far_there

    pub both_touched : (out into : Side → SubKind → List Touch)
        → x ≡ touched_stream plan (port_at Host line) id (out Host) (into Host) f.state
        → y ≡ touched_stream plan (port_at Device line) id (out Device) (into Device) g.state
        → touched_state plan (state_of plan v k packets) line id out into
        ≡ state_of plan (with_both v line near' far') k packets
    both_touched out into x_is y_is =
        ap (λ (s : LinkState). touched_at plan s line id out into Device)
        (touched_side v Host near near' f x out into links both.near_there both.near_found both.near_has x_is)
        ∙ touched_side v1 Device far far' g y out into links1 far_still both.far_found both.far_has y_is

    pub both_kept : x ≡ f.state → y ≡ g.state
        → state_of plan v k packets ≡ state_of plan (with_both v line near' far') k packets
    both_kept x_is y_is = kept_side v Host near near' f x links both.near_there both.near_found both.near_has x_is
        ∙ kept_side v1 Device far far' g y links1 far_still both.far_found both.far_has y_is

-- ---- the state after it

pub record IsDone (plan : Plan) (st : LinkState) (line id : ℕ) (q : StreamStage) (f g : Found) (w : Work)
    (r : Option Reach)
    (x y : StreamState) (op : StreamStage) (draws : ℕ) : Type 0 where
  pub near_is : x ≡ touched_by plan st line id w Host r f.state
  pub far_is : y ≡ touched_by plan st line id w Device r g.state
  pub op_is : op ≡ op_if_reached (is_hosted line) q w r
  pub draws_is : draws ≡ draws_by st.draws w r

module _ (plan : Plan) (v v' : EndsView) (k k' : KeeperView) (packets : List LinkPacket) (line id : ℕ)
    (links : AreLinks plan v k) (near far near' far' : PortEnd) (f g : Found) (x y : StreamState)
    (both : BothHave v line id near far f g x y near' far')
    (rows : rows_of v' ≡ rows_of (with_both v line near' far'))
    (n : Named) (s : StreamView) (named_stream : IsNamed k.manager line id n)
    (streams : k'.manager.streams ≡ slice_set k.manager.streams n.place s) where
  abbrev st : LinkState
  st = state_of plan v k packets

  seen : state_of plan (with_both v line near' far') k packets ≡ state_of plan v' k packets
  seen = ap (λ (ps : List (List StreamState)). record st { ports = ps }) (sym rows)

  pub state_by : (w : Work) (r : Option Reach) → find_op plan st line id ≡ Some n.stream.op
      → IsDone plan st line id n.stream.op f g w r x y s.op k'.pool.draws
      → state_of plan v' k' packets ≡ work_done plan st line id w r
  state_by w None here d =
      let kept = both_kept plan k packets line id v links near far near' far' f g x y both d.near_is d.far_is ∙ seen in
      state_ops plan v k k' packets n line id s links named_stream streams v'
      ∙ ((λ i. record (put_op plan (sym kept i) line id (d.op_is i)) { draws = d.draws_is i })
      ∙ ap (λ (new : LinkState). record new { draws = st.draws }) (put_op_back plan st line id n.stream.op here))
  state_by w (Some r) here d =
      let after = both_touched plan k packets line id v links near far near' far' f g x y both
      (λ side u. touches_at (ports_of plan st) w r (place_at_end line id true side u))
      (λ side u. touches_at (ports_of plan st) w r (place_at_end line id false side u)) d.near_is d.far_is ∙ seen in
      state_ops plan v k k' packets n line id s links named_stream streams v'
      ∙ (λ i. record (put_op plan (sym after i) line id (d.op_is i)) { draws = d.draws_is i })

-- ---- rows, by where the ends are kept

hosted_rows : (ls : List LinkEnds) (i : ℕ) (l l' : LinkEnds) → slice_get ls i ≡ Some l → ports_in (slice_set ls i l')
    ≡ ports_in (changed_at (changed_at ls i (with_port Host l'.host)) i (with_port Device l'.device.port))
hosted_rows [] i l l' is = refl
hosted_rows (z ∷ ls) zero l l' is = refl
hosted_rows (z ∷ ls) (suc i) l l' is =
    ap (λ (rows : List (List StreamState)). z.host.states ∷ z.device.port.states ∷ rows) (hosted_rows ls i l l' is)

paired_rows : (ls : List PairEnds) (i : ℕ) (l l' : PairEnds) → slice_get ls i ≡ Some l → pair_ports (slice_set ls i l')
    ≡ pair_ports (changed_at (changed_at ls i (with_pair_port Host l'.near.port)) i (with_pair_port Device l'.far.port))
paired_rows [] i l l' is = refl
paired_rows (z ∷ ls) zero l l' is = refl
paired_rows (z ∷ ls) (suc i) l l' is =
    ap (λ (rows : List (List StreamState)). z.near.port.states ∷ z.far.port.states ∷ rows) (paired_rows ls i l l' is)

abbrev pub both_at : EndsView → LinePlace → PortEnd → PortEnd → EndsView
both_at v place near far = with_port_at_place (with_port_at_place v Host place near) Device place far

pub rows_link : (v : EndsView) (i : ℕ) (l l' : LinkEnds) → slice_get v.links i ≡ Some l
    → rows_of (record v { links = slice_set v.links i l' }) ≡ rows_of (both_at v (Link i) l'.host l'.device.port)
rows_link v i l l' is =
    ap (λ (rows : List (List StreamState)). in_sixteen rows ++ ports_in v.near ++ pair_ports v.pairs)
    (hosted_rows v.links i l l' is)

pub rows_near : (v : EndsView) (i : ℕ) (l l' : LinkEnds) → slice_get v.near i ≡ Some l
    → rows_of (record v { near = slice_set v.near i l' }) ≡ rows_of (both_at v (Near i) l'.host l'.device.port)
rows_near v i l l' is =
    ap (λ (rows : List (List StreamState)). in_sixteen (ports_in v.links) ++ rows ++ pair_ports v.pairs)
    (hosted_rows v.near i l l' is)

pub rows_pair : (v : EndsView) (i : ℕ) (l l' : PairEnds) → slice_get v.pairs i ≡ Some l
    → rows_of (record v { pairs = slice_set v.pairs i l' }) ≡ rows_of (both_at v (Pair i) l'.near.port l'.far.port)
rows_pair v i l l' is =
    ap (λ (rows : List (List StreamState)). in_sixteen (ports_in v.links) ++ ports_in v.near ++ rows)
    (paired_rows v.pairs i l l' is)

-- ---- the manager's streams

pub names_set : (vs : List StreamView) (p : ℕ) (x w : StreamView) → slice_get vs p ≡ Some x → name_of w ≡ name_of x
    → map name_of (slice_set vs p w) ≡ map name_of vs
names_set [] p x w is same = refl
names_set (y ∷ vs) zero x w is same = ap (λ (m : ℕ × ℕ). m ∷ map name_of vs)
    (same ∙ ap (λ (z : StreamView). name_of z) (sym (same_Some y x is)))
names_set (y ∷ vs) (suc p) x w is same = ap (λ (ms : List (ℕ × ℕ)). name_of y ∷ ms) (names_set vs p x w is same)

pub pool_keys : (w : Work) (r : Option Reach) (pool : Pool) → (pool_by w r pool).keys ≡ pool.keys
pool_keys w r pool = grind arith
