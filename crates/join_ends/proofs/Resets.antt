-- What a reset makes of all ends, as the machine has it: end by end the streams of a line begin again, and so do the
-- operations on them. A line that is not there has no stream.
use Rattle.all_ends.specs.declared.places.LinePlace.{LinePlace}
use Rattle.all_ends.specs.declared.places.LinePlace.TheVariants.{Link, Near, Pair}
use Rattle.all_ends.proofs.Terms.{◌≡◌, ℕ, suc, zero, ◌==◌, Bool, true, false, not, List, [], ◌∷◌, ◌++◌}
use Rattle.all_ends.proofs.Terms.{length, refl, ap, sym, ◌∙◌, subst, arith, Option, Some, None, option_map, slice_get}
use Rattle.all_ends.proofs.Terms.{slice_set, map, if◌then◌else◌, nat_tests, none-some, set-get_or, same_Some, nat_lt}
use Rattle.all_ends.proofs.Terms.{StreamStage, Idle, Side, Host, Device, PortName, Plan, StreamPlan, StreamState}
use Rattle.all_ends.proofs.Terms.{LinkPacket, port_at, port_place, reset_state, StreamView, reset_stream, reset_manager}
use Rattle.all_ends.proofs.Terms.{PortEnd, reset_port, EndsView, LinkEnds, PairEnds, KeeperView, ports_in, pair_ports}
use Rattle.all_ends.proofs.Terms.{in_sixteen, rows_of, ops_by_line, line_ops, views_after, name_of, names_of, state_of}
use Rattle.all_ends.proofs.Terms.{AreLinks, StreamKept, KeptBy, port_on, port_at_place, with_port_at_place, line_place}
use Rattle.all_ends.proofs.Terms.{changed_at, port_in, pair_port, with_pair_port, cleared_on, cleared_ends}
use Rattle.all_ends.proofs.Terms.{cleared_pair, unlocked_link, unlocked_ends, reset_all, reset_pair}
use Rattle.all_ends.specs.Ends.{cleared_place, all_cleared}
use Rattle.ide_types.specs.Lines.{is_hosted}
use Rattle.spec_keys.specs.Operations.{Stopping}
use Rattle.spec_keys.specs.Places.{is_between_devices, is_line_reset}
use Rattle.sub_stream.specs.Calls.{no_stream}
unfoldable use Rattle.spec_links.specs.Plan.{streams_by_line}
use Rattle.machine_ports.specs.Machine as machine
use Rattle.all_ends.proofs.ByPlace.{by_place, changed_is, changed_none}
use Rattle.join_ends.proofs.Managers.{Apart, ops_changed}
use Rattle.all_ends.proofs.Finds.{wired, port_is, rows_set}
use Rattle.all_ends.proofs.Kept.{Keeps, KeepsEnds, KeepsPair, as_before, links_kept, near_kept, pairs_kept, keeper_kept}
use Rattle.all_ends.proofs.Kept.{end_kept, below_kept, below_rows, ports_seen, Grows, grows_then, links_grow, near_grow}
use Rattle.all_ends.proofs.Kept.{pairs_grow, stays_all, below_grows}
use Rattle.join_ends.proofs.Operated.{both_at, other_at, rows_link, rows_near, rows_pair}
use Rattle.join_ends.proofs.Streams.{IsAbsent, absent}
use Rattle.ide_port.specs.{UnitsGrow}
use Rattle.ide_port.proofs.Units.{stays, reset-units}

-- ---- the ends that are cleared keep their names, plans and limits

port_cleared : (e : PortEnd) → Keeps e (reset_port e)
port_cleared e = record { name = refl; plans = refl; limit = refl }

ends_cleared : (l : LinkEnds) → KeepsEnds l (cleared_ends l)
ends_cleared l = record { host = port_cleared l.host; device = port_cleared l.device.port; requester = refl }

side_cleared : (side : Side) (l : PairEnds) → KeepsPair l (reset_pair side l)
side_cleared Host l =
    record { near_side = refl; far_side = refl; near = port_cleared l.near.port; far = as_before l.far.port }
side_cleared Device l =
    record { near_side = refl; far_side = refl; near = as_before l.near.port; far = port_cleared l.far.port }

pair_cleared : (side : Side) (b : Bool) (l : PairEnds)
    → KeepsPair l (if b then reset_pair Device (reset_pair Host l) else reset_pair side l)
pair_cleared side true l =
    record { near_side = refl; far_side = refl; near = port_cleared l.near.port; far = port_cleared l.far.port }
pair_cleared side false l = side_cleared side l

place_cleared_kept : (plan : Plan) (v : EndsView) (k : KeeperView) (side : Side) (place : LinePlace) → AreLinks plan v k
    → AreLinks plan (cleared_place side place v) k
place_cleared_kept plan v k side (Link i) links = links_kept plan v k links i cleared_ends (λ l at. ends_cleared l)
place_cleared_kept plan v k side (Near i) links = near_kept plan v k links i cleared_ends (λ l at. ends_cleared l)
place_cleared_kept plan v k side (Pair i) links = pairs_kept plan v k links i (cleared_pair side i)
    (λ l at. pair_cleared side (nat_lt i 8) l)

all_kept : (plan : Plan) (es : List PortName) (v : EndsView) (k : KeeperView) → AreLinks plan v k
    → AreLinks plan (all_cleared v es) k
all_kept plan [] v k links = links
all_kept plan (e ∷ es) v k links =
    all_kept plan es (cleared_on v e) k (place_cleared_kept plan v k e.side (line_place e.line) links)

ends_unlocked : (l : LinkEnds) → KeepsEnds l (unlocked_ends l)
ends_unlocked l = record { host = as_before l.host; device = as_before l.device.port; requester = refl }

pub reset_keeps : (plan : Plan) (link : ℕ) (es : List PortName) (v : EndsView) (k : KeeperView) → AreLinks plan v k
    → AreLinks plan (reset_all link es v) k
reset_keeps plan link es v k links =
    let some : AreLinks plan (unlocked_link (all_cleared v es) link) k =
    links_kept plan (all_cleared v es) k (all_kept plan es v k links) link unlocked_ends (λ l at. ends_unlocked l) in
    below_kept plan (length (unlocked_link (all_cleared v es) link).links) (unlocked_link (all_cleared v es) link) k
    some

-- ---- and no unit is there that was not

cleared_units : (s : Side) (l : LinkEnds) → UnitsGrow 0 (port_in s l) (port_in s (cleared_ends l))
cleared_units Host l = reset-units 0 l.host
cleared_units Device l = reset-units 0 l.device.port

unlocked_units : (s : Side) (l : LinkEnds) → UnitsGrow 0 (port_in s l) (port_in s (unlocked_ends l))
unlocked_units Host l = stays 0 l.host
unlocked_units Device l = stays 0 l.device.port

pair_units : (s side : Side) (b : Bool) (l : PairEnds)
    → UnitsGrow 0 (pair_port s l) (pair_port s (if b then reset_pair Device (reset_pair Host l) else reset_pair side l))
pair_units Host side true l = reset-units 0 l.near.port
pair_units Device side true l = reset-units 0 l.far.port
pair_units Host Host false l = reset-units 0 l.near.port
pair_units Device Host false l = stays 0 l.far.port
pair_units Host Device false l = stays 0 l.near.port
pair_units Device Device false l = reset-units 0 l.far.port

place_cleared_grows : (v : EndsView) (side : Side) (place : LinePlace) → Grows 0 v (cleared_place side place v)
place_cleared_grows v side (Link i) = links_grow 0 v i cleared_ends (λ s l at. cleared_units s l)
place_cleared_grows v side (Near i) = near_grow 0 v i cleared_ends (λ s l at. cleared_units s l)
place_cleared_grows v side (Pair i) = pairs_grow 0 v i (cleared_pair side i)
    (λ s l at. pair_units s side (nat_lt i 8) l)

all_grows : (es : List PortName) (v : EndsView) → Grows 0 v (all_cleared v es)
all_grows [] v = stays_all v
all_grows (e ∷ es) v = grows_then 0 0 v (cleared_on v e) (all_cleared v (e ∷ es))
    (place_cleared_grows v e.side (line_place e.line)) (all_grows es (cleared_on v e))

pub reset_grows : (link : ℕ) (es : List PortName) (v : EndsView) → Grows 0 v (reset_all link es v)
reset_grows link es v =
    let u : EndsView = unlocked_link (all_cleared v es) link in
    grows_then 0 0 v u (reset_all link es v)
    (grows_then 0 0 v (all_cleared v es) u (all_grows es v)
    (links_grow 0 (all_cleared v es) link unlocked_ends (λ s l at. unlocked_units s l)))
    (below_grows (length u.links) u)

-- ---- the rows of a line that is cleared

-- which lines are streams between devices
abbrev joins_devices : LinePlace → Bool
joins_devices (Link i) = false
joins_devices (Near i) = false
joins_devices (Pair i) = not (nat_lt i 8)

peer_there : (line : ℕ) → is_between_devices line ≡ joins_devices (line_place line)
peer_there line = by_place (λ n place. is_between_devices n ≡ joins_devices place)
    (λ i lt. grind (arith, nat_tests)) (λ i lt. grind (arith, nat_tests)) (λ i. grind (arith, nat_tests)) line

module _ (plan : Plan) (k : KeeperView) (side : Side) (line : ℕ) where
  abbrev end_of : Side → PortName
  end_of s = port_at s line

  abbrev both_rows : List (List StreamState) → List (List StreamState)
  both_rows rows = machine.row_cleared plan (end_of Device) (machine.row_cleared plan (end_of Host) rows)

  -- of an end that is not there, and of one that is
  gone_row : (v : EndsView) (s : Side) → IsAbsent plan v s line
      → machine.row_cleared plan (end_of s) (rows_of v) ≡ rows_of v
  gone_row v s gone =
      ap (λ (ss : List StreamPlan). slice_set (rows_of v) (port_place (end_of s))
      (map (λ (p : StreamPlan). no_stream) ss))
      gone.no_streams
      ∙ (ap (λ (row : List StreamState). slice_set (rows_of v) (port_place (end_of s)) row) (sym gone.no_states)
      ∙ set-get_or (rows_of v) (port_place (end_of s)) [])

  put_row : (v : EndsView) (s : Side) (e : PortEnd) → AreLinks plan v k → port_on v (end_of s) ≡ Some e
      → rows_of (with_port_at_place v s (line_place line) (reset_port e))
      ≡ machine.row_cleared plan (end_of s) (rows_of v)
  put_row v s e links is =
      rows_set v (wired plan v k links) (end_of s) e (reset_port e) is
      ∙ ap (λ (ss : List StreamPlan). slice_set (rows_of v) (port_place (end_of s))
      (map (λ (p : StreamPlan). no_stream) ss)) (port_is plan v k links (end_of s) e is).plans

  both_put : (v : EndsView) (near far : PortEnd) → AreLinks plan v k → port_on v (end_of Host) ≡ Some near
      → port_on v (end_of Device) ≡ Some far
      → rows_of (both_at v (line_place line) (reset_port near) (reset_port far)) ≡ both_rows (rows_of v)
  both_put v near far links near_is far_is =
      let v1 : EndsView = with_port_at_place v Host (line_place line) (reset_port near) in
      let links1 : AreLinks plan v1 k =
      end_kept plan v k links (end_of Host) near (reset_port near) near_is (port_cleared near) in
      put_row v1 Device far links1 (other_at v (line_place line) (reset_port near) ∙ far_is)
      ∙ ap (λ (rows : List (List StreamState)). machine.row_cleared plan (end_of Device) rows)
      (put_row v Host near links near_is)

  both_gone : (v : EndsView) → AreLinks plan v k → port_on v (end_of Host) ≡ None → port_on v (end_of Device) ≡ None
      → rows_of v ≡ both_rows (rows_of v)
  both_gone v links near_is far_is =
      sym (ap (λ (rows : List (List StreamState)). machine.row_cleared plan (end_of Device) rows)
      (gone_row v Host (absent plan v k links Host line near_is))
      ∙ gone_row v Device (absent plan v k links Device line far_is))

  -- by where its ends are kept
  by_row : (v : EndsView) (place : LinePlace) → AreLinks plan v k → line_place line ≡ place
      → rows_of (cleared_place side place v)
      ≡ (if joins_devices place then machine.row_cleared plan (end_of side) (rows_of v) else both_rows (rows_of v))
  by_row v (Link i) links at = by_item (slice_get v.links i) refl
    where
      there : (s : Side) → port_on v (end_of s) ≡ port_at_place v s (Link i)
      there s = ap (λ (p : LinePlace). port_at_place v s p) at

      by_item : (o : Option LinkEnds) → slice_get v.links i ≡ o
          → rows_of (cleared_place side (Link i) v) ≡ both_rows (rows_of v)
      by_item None is =
          ap (λ (ls : List LinkEnds). rows_of (record v { links = ls })) (changed_none v.links i cleared_ends is)
          ∙ both_gone v links
          (there Host ∙ ap (λ (o : Option LinkEnds). option_map (λ (l : LinkEnds). port_in Host l) o) is)
          (there Device ∙ ap (λ (o : Option LinkEnds). option_map (λ (l : LinkEnds). port_in Device l) o) is)
      by_item (Some l) is =
          ap (λ (ls : List LinkEnds). rows_of (record v { links = ls })) (changed_is v.links i cleared_ends l is)
          ∙ (rows_link v i l (cleared_ends l) is
          ∙ (ap (λ (p : LinePlace). rows_of (both_at v p (reset_port l.host) (reset_port l.device.port))) (sym at)
          ∙ both_put v l.host l.device.port links
          (there Host ∙ ap (λ (o : Option LinkEnds). option_map (λ (l : LinkEnds). port_in Host l) o) is)
          (there Device ∙ ap (λ (o : Option LinkEnds). option_map (λ (l : LinkEnds). port_in Device l) o) is)))
  by_row v (Near i) links at = by_item (slice_get v.near i) refl
    where
      there : (s : Side) → port_on v (end_of s) ≡ port_at_place v s (Near i)
      there s = ap (λ (p : LinePlace). port_at_place v s p) at

      by_item : (o : Option LinkEnds) → slice_get v.near i ≡ o
          → rows_of (cleared_place side (Near i) v) ≡ both_rows (rows_of v)
      by_item None is =
          ap (λ (ls : List LinkEnds). rows_of (record v { near = ls })) (changed_none v.near i cleared_ends is)
          ∙ both_gone v links
          (there Host ∙ ap (λ (o : Option LinkEnds). option_map (λ (l : LinkEnds). port_in Host l) o) is)
          (there Device ∙ ap (λ (o : Option LinkEnds). option_map (λ (l : LinkEnds). port_in Device l) o) is)
      by_item (Some l) is =
          ap (λ (ls : List LinkEnds). rows_of (record v { near = ls })) (changed_is v.near i cleared_ends l is)
          ∙ (rows_near v i l (cleared_ends l) is
          ∙ (ap (λ (p : LinePlace). rows_of (both_at v p (reset_port l.host) (reset_port l.device.port))) (sym at)
          ∙ both_put v l.host l.device.port links
          (there Host ∙ ap (λ (o : Option LinkEnds). option_map (λ (l : LinkEnds). port_in Host l) o) is)
          (there Device ∙ ap (λ (o : Option LinkEnds). option_map (λ (l : LinkEnds). port_in Device l) o) is)))
  by_row v (Pair i) links at = by_item (slice_get v.pairs i) (nat_lt i 8) refl refl
    where
      there : (s : Side) → port_on v (end_of s) ≡ port_at_place v s (Pair i)
      there s = ap (λ (p : LinePlace). port_at_place v s p) at

      cleared_if : Bool → PairEnds → PairEnds
      cleared_if b l = if b then reset_pair Device (reset_pair Host l) else reset_pair side l

      rows_if : Bool → List (List StreamState)
      rows_if b = if not b then machine.row_cleared plan (end_of side) (rows_of v) else both_rows (rows_of v)

      seen : (s : Side) (l : PairEnds) → slice_get v.pairs i ≡ Some l → port_on v (end_of s) ≡ Some (pair_port s l)
      seen s l is = there s ∙ ap (λ (o : Option PairEnds). option_map (λ (l : PairEnds). pair_port s l) o) is

      unseen : (s : Side) → slice_get v.pairs i ≡ None → port_on v (end_of s) ≡ None
      unseen s is = there s ∙ ap (λ (o : Option PairEnds). option_map (λ (l : PairEnds). pair_port s l) o) is

      -- one end alone
      one_put : (s : Side) (l : PairEnds) → slice_get v.pairs i ≡ Some l
          → changed_at v.pairs i (reset_pair s) ≡ changed_at v.pairs i (with_pair_port s (reset_port (pair_port s l)))
      one_put Host l is = changed_is v.pairs i (reset_pair Host) l is
          ∙ sym (changed_is v.pairs i (with_pair_port Host (reset_port l.near.port)) l is)
      one_put Device l is = changed_is v.pairs i (reset_pair Device) l is
          ∙ sym (changed_is v.pairs i (with_pair_port Device (reset_port l.far.port)) l is)

      by_item : (o : Option PairEnds) (b : Bool) → slice_get v.pairs i ≡ o → nat_lt i 8 ≡ b
          → rows_of (record v { pairs = changed_at v.pairs i (cleared_if (nat_lt i 8)) }) ≡ rows_if (nat_lt i 8)
      by_item None true is hop =
          ap (λ (ls : List PairEnds). rows_of (record v { pairs = ls }))
          (changed_none v.pairs i (cleared_if (nat_lt i 8)) is)
          ∙ (both_gone v links (unseen Host is) (unseen Device is) ∙ ap rows_if (sym hop))
      by_item None false is hop =
          ap (λ (ls : List PairEnds). rows_of (record v { pairs = ls }))
          (changed_none v.pairs i (cleared_if (nat_lt i 8)) is)
          ∙ (sym (gone_row v side (absent plan v k links side line (unseen side is))) ∙ ap rows_if (sym hop))
      by_item (Some l) true is hop =
          ap (λ (c : Bool). rows_of (record v { pairs = changed_at v.pairs i (cleared_if c) })) hop
          ∙ (ap (λ (ls : List PairEnds). rows_of (record v { pairs = ls }))
          (changed_is v.pairs i (cleared_if true) l is)
          ∙ (rows_pair v i l (cleared_if true l) is
          ∙ (ap (λ (p : LinePlace). rows_of (both_at v p (reset_port l.near.port) (reset_port l.far.port))) (sym at)
          ∙ (both_put v l.near.port l.far.port links (seen Host l is) (seen Device l is) ∙ ap rows_if (sym hop)))))
      by_item (Some l) false is hop =
          ap (λ (c : Bool). rows_of (record v { pairs = changed_at v.pairs i (cleared_if c) })) hop
          ∙ (ap (λ (ls : List PairEnds). rows_of (record v { pairs = ls })) (one_put side l is)
          ∙ (ap (λ (p : LinePlace). rows_of (with_port_at_place v side p (reset_port (pair_port side l)))) (sym at)
          ∙ (put_row v side (pair_port side l) links (seen side l is) ∙ ap rows_if (sym hop))))

cleared_rows : (plan : Plan) (v : EndsView) (k : KeeperView) (end : PortName) → AreLinks plan v k
    → rows_of (cleared_on v end) ≡ machine.rows_cleared plan end (rows_of v)
cleared_rows plan v k end links =
    by_row plan k end.side end.line v (line_place end.line) links refl
    ∙ ap (λ (b : Bool). if b then machine.row_cleared plan end (rows_of v)
    else machine.row_cleared plan (port_at Device end.line)
    (machine.row_cleared plan (port_at Host end.line) (rows_of v)))
    (sym (peer_there end.line))

all_rows : (plan : Plan) (es : List PortName) (v : EndsView) (k : KeeperView) → AreLinks plan v k
    → rows_of (all_cleared v es) ≡ machine.all_rows_cleared plan es (rows_of v)
all_rows plan [] v k links = refl
all_rows plan (e ∷ es) v k links =
    all_rows plan es (cleared_on v e) k (place_cleared_kept plan v k e.side (line_place e.line) links)
    ∙ ap (λ (rows : List (List StreamState)). machine.all_rows_cleared plan es rows) (cleared_rows plan v k e links)

unlocked_rows : (v : EndsView) (link : ℕ) → rows_of (unlocked_link v link) ≡ rows_of v
unlocked_rows v link = ap (λ (rows : List (List StreamState)). in_sixteen rows ++ ports_in v.near ++ pair_ports v.pairs)
    (ports_seen v.links link unlocked_ends (λ l. refl) (λ l. refl))

-- ---- the operations after a reset

apart_kept : (e : PortName) (vs : List StreamView) → Apart e.line (map name_of vs) → map (reset_stream (e ∷ [])) vs ≡ vs
apart_kept e [] is = refl
apart_kept e (v ∷ vs) is = (λ i. one i ∷ apart_kept e vs is.1 i)
  where
    differs : (v.line == e.line) ≡ false
    differs = is.0

    one : reset_stream (e ∷ []) v ≡ v
    one = grind (arith, nat_tests, differs)

reset_here : (e : PortName) (ss : List StreamPlan) (vs : List StreamView) (rest : List (ℕ × ℕ)) → map name_of vs
    ≡ names_of e.line ss ++ rest → Apart e.line rest
    → (line_ops ss (map (reset_stream (e ∷ [])) vs) ≡ map (λ (s : StreamPlan). machine.reset_op e.line) ss)
    × (views_after ss (map (reset_stream (e ∷ [])) vs) ≡ views_after ss vs)
reset_here e [] vs rest names apart =
    (refl, apart_kept e vs (subst (λ (ns : List (ℕ × ℕ)). Apart e.line ns) (sym names) apart))
reset_here e (s ∷ ss) [] rest names apart = absurd cc
reset_here e (s ∷ ss) (v ∷ vs) rest names apart =
    let name : name_of v ≡ (e.line, s.id) = cc in
    let more = reset_here e ss vs rest (cc) apart in
    (grind (arith, nat_tests, name, more.0), more.1)

reset_other : (e : PortName) (from : ℕ) (ss : List StreamPlan) (vs : List StreamView) (rest : List (ℕ × ℕ))
    → (from == e.line) ≡ false → map name_of vs ≡ names_of from ss ++ rest
    → (line_ops ss (map (reset_stream (e ∷ [])) vs) ≡ line_ops ss vs)
    × (views_after ss (map (reset_stream (e ∷ [])) vs) ≡ map (reset_stream (e ∷ [])) (views_after ss vs))
reset_other e from [] vs rest differs names = (refl, refl)
reset_other e from (s ∷ ss) [] rest differs names = absurd cc
reset_other e from (s ∷ ss) (v ∷ vs) rest differs names =
    let name : name_of v ≡ (from, s.id) = cc in
    let more = reset_other e from ss vs rest differs (cc) in
    (grind (arith, nat_tests, name, more.0), grind (arith, nat_tests, name, more.1))

reset_names : (ends : List PortName) (vs : List StreamView) → map name_of (map (reset_stream ends) vs) ≡ map name_of vs
reset_names ends [] = refl
reset_names ends (v ∷ vs) = (λ i. name_of v ∷ reset_names ends vs i)

-- one end after the other
one_more : (e : PortName) (es : List PortName) (vs : List StreamView)
    → map (reset_stream (e ∷ es)) vs ≡ map (reset_stream es) (map (reset_stream (e ∷ [])) vs)
one_more e es [] = refl
one_more e es (v ∷ vs) = (λ i. one (e.line == v.line) (is_line_reset es v.line) refl refl i ∷ one_more e es vs i)
  where
    one : (a b : Bool) → (e.line == v.line) ≡ a → is_line_reset es v.line ≡ b
        → reset_stream (e ∷ es) v ≡ reset_stream es (reset_stream (e ∷ []) v)
    one a b first later = grind (arith, first, later)

reset_nothing : (vs : List StreamView) → map (reset_stream []) vs ≡ vs
reset_nothing [] = refl
reset_nothing (v ∷ vs) = (λ i. v ∷ reset_nothing vs i)

ops_cut : (plan : Plan) (es : List PortName) (vs : List StreamView) (v : EndsView) (k : KeeperView) → AreLinks plan v k
    → map name_of vs ≡ map name_of k.manager.streams → ops_by_line (streams_by_line plan) (map (reset_stream es) vs)
    ≡ machine.all_ops_reset plan es (ops_by_line (streams_by_line plan) vs)
ops_cut plan [] vs v k links names = ap (λ (us : List StreamView). ops_by_line (streams_by_line plan) us)
    (reset_nothing vs)
ops_cut plan (e ∷ es) vs v k links names =
    let first = ops_changed e.line (map (reset_stream (e ∷ [])))
    (λ ss os. map (λ (s : StreamPlan). machine.reset_op e.line) ss)
    (record { here = reset_here e; other = reset_other e })
    (streams_by_line plan) 0 e.line vs (omega arith) (names ∙ links.names) in
    ap (λ (us : List StreamView). ops_by_line (streams_by_line plan) us) (one_more e es vs)
    ∙ (ops_cut plan es (map (reset_stream (e ∷ [])) vs) v k links (reset_names (e ∷ []) vs ∙ names)
    ∙ ap (λ (os : List (List StreamStage)). machine.all_ops_reset plan es os) first)

-- ---- all lines after a reset

reset_keys : (plan : Plan) (ends : List PortName) (s : StreamView) → StreamKept plan s
    → StreamKept plan (reset_stream ends s)
reset_keys plan ends s kept = by_tests (is_hosted s.line) (is_line_reset ends s.line) (is_between_devices s.line) kept
  where
    by_tests : (hosted cut peer : Bool) → KeptBy hosted plan s
        → KeptBy hosted plan (record s {
          op = if cut then (if peer then Stopping 1 else Idle) else s.op;
          keys = if cut then [] else s.keys;
        })
    by_tests true true true kept = (omega arith, omega arith)
    by_tests true true false kept = tt
    by_tests true false peer kept = kept
    by_tests false true true kept = (omega arith, omega arith)
    by_tests false true false kept = tt
    by_tests false false peer kept = kept

reset_kept : (plan : Plan) (ends : List PortName) (vs : List StreamView) →
    ((i : ℕ) (s : StreamView) → slice_get vs i ≡ Some s → StreamKept plan s)
    → (i : ℕ) (s : StreamView) → slice_get (map (reset_stream ends) vs) i ≡ Some s → StreamKept plan s
reset_kept plan ends [] kept i s is = absurd (none-some s is)
reset_kept plan ends (w ∷ vs) kept zero s is = subst (λ (x : StreamView). StreamKept plan x)
    (same_Some (reset_stream ends w) s is) (reset_keys plan ends w (kept 0 w refl))
reset_kept plan ends (w ∷ vs) kept (suc i) s is = reset_kept plan ends vs (λ j x at. kept (suc j) x at) i s is

abbrev pub keeper_reset : List PortName → KeeperView → KeeperView
keeper_reset ends k = record k { manager = reset_manager ends k.manager }

pub links_reset : (plan : Plan) (link : ℕ) (ends : List PortName) (v : EndsView) (k : KeeperView) → AreLinks plan v k
    → AreLinks plan (reset_all link ends v) (keeper_reset ends k)
links_reset plan link ends v k links = keeper_kept plan (reset_all link ends v) k (reset_keeps plan link ends v k links)
    (keeper_reset ends k) (reset_names ends k.manager.streams) (reset_kept plan ends k.manager.streams links.kept) refl

pub state_reset : (plan : Plan) (v : EndsView) (k : KeeperView) (packets : List LinkPacket) (link : ℕ)
    (ends : List PortName) → AreLinks plan v k → state_of plan (reset_all link ends v) (keeper_reset ends k) packets
    ≡ reset_state plan (state_of plan v k packets) ends
state_reset plan v k packets link ends links =
    let u : EndsView = unlocked_link (all_cleared v ends) link in
    let ports = below_rows (length u.links) u ∙ (unlocked_rows (all_cleared v ends) link ∙ all_rows plan ends v k links)
    in
    let ops = ops_cut plan ends k.manager.streams v k links refl in
    (λ j. record (state_of plan v k packets) { ports = ports j; ops = ops j })
