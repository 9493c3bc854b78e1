-- Every draw was made from a pool that had keys for it, and each stream's ID has one byte.
use Rattle.join_keys.proofs.Terms.{◌≡◌, Bool, arith, true, ℕ, List, Plan, if◌then◌else◌, nat_tests, ◌≤◌, Reach}
use Rattle.join_keys.proofs.Terms.{lane_key, Host, ◌+◌, [], ◌<◌, ◌∷◌, ◌/◌, Option, length, ◌*◌, is_some, All, reach_of}
use Rattle.join_keys.proofs.Terms.{StreamOperations, manager_after_operation, manager_after, IsKey, FitsPlan}
use Rattle.join_keys.proofs.Terms.{FitsStream, Verdict, KeyPlan, History, draws, history_status, PortView, ports_at}
use Rattle.join_keys.proofs.Terms.{operation_verdict, work_of, op_of}
use Rattle.spec_keys.specs.Due.{has_refresh, may_establish, may_refresh, unless_open, key_due}
use Rattle.spec_links.specs.Plan.{streams_by_link, streams_of, with_id, hop_by_link, hop_streams, peer_streams}
use Rattle.spec_links.specs.Plan.{lone_stream, in_eight, streams_by_line, stream_plan}
use Rattle.ide_types.specs.declared.plan.HopPlan.{HopPlan}
use Rattle.ide_types.specs.declared.plan.PeerPlan.{PeerPlan}
use Rattle.ide_types.specs.Fits.{FitsLink, FitsHopIfAny, FitsPeer}
use Rattle.ide_types.specs.declared.port.PortName.{PortName}
use Rattle.std.specs.Prelude.{map, replicate, slice_index_or, suc, take, zero, ◌++◌, Some, None}
use Rattle.spec_keys.specs.History.{manager}
use Rattle.std.proofs.lemmas.List.Elements.{All-tail}
use Rattle.ide_types.specs.declared.status.StreamStatus.{StreamStatus}
use Rattle.ide_types.specs.declared.plan.LinkPlan.{LinkPlan}
use Rattle.ide_types.specs.declared.stream.StreamPlan.{StreamPlan}
use Rattle.spec_keys.specs.Laws.{KeyCauseLaw}
use Rattle.script_events.specs.declared.event.Event.TheVariants as event
use Rattle.event_verdicts.specs.declared.verdict.Operation.TheVariants as op
use Rattle.event_verdicts.specs.declared.verdict.Verdict.TheVariants as v

-- ---- an event draws only if the pool has keys

establish_fits : (plan : KeyPlan) (known : Bool) (m : StreamOperations) (l s : ℕ) (done x : Verdict)
    → length m.begun ≤ plan.pool
    → x ≡ (if known then may_establish plan l (length m.begun) (m.ops l s) done else v.Nothing)
    → length (manager_after_operation m op.Establish l s (reach_of op.Establish x)).begun ≤ plan.pool
establish_fits plan known m l s done x le is = grind (arith, nat_tests)

refresh_fits : (plan : KeyPlan) (known : Bool) (m : StreamOperations) (ports : PortView) (host : StreamStatus) (l s : ℕ)
    (set : Bool) (done x : Verdict)
    → length m.begun ≤ plan.pool
    → x ≡ (if known then may_refresh plan l (length m.begun) (m.ops l s) host (unless_open ports l s set)
    done
    else v.Nothing)
    → length (manager_after_operation m op.Refresh l s (reach_of op.Refresh x)).begun ≤ plan.pool
refresh_fits plan known m ports host l s set done x le is = grind (arith, nat_tests)

stop_fits : (m : StreamOperations) (l s top : ℕ) (r : Option Reach) → length m.begun ≤ top
    → length (manager_after_operation m op.Stop l s r).begun ≤ top
stop_fits m l s top r le = grind arith

reset_fits : (m : StreamOperations) (link : ℕ) (ends : List PortName) (top : ℕ) (x : Verdict) → length m.begun ≤ top
    → length (manager_after m (event.Reset link ends) x).begun ≤ top
reset_fits m link ends top x le = grind arith

pub draws_fit : (plan : KeyPlan) (h : History) → KeyCauseLaw plan h → draws h ≤ plan.pool
unfolding manager key_due
draws_fit plan [] cause = omega arith
draws_fit plan ((event.Establish l s loss, x) ∷ h) cause =
    establish_fits plan (plan.has_stream l s) (manager h) l s
    (operation_verdict (ports_at h) l s loss (work_of op.Establish (op_of h l s) (draws h))) x
    (draws_fit plan h cause.2)
    cause.0
draws_fit plan ((event.Refresh l s loss, x) ∷ h) cause =
    let w = work_of op.Refresh (op_of h l s) (draws h) in
    refresh_fits plan (has_refresh plan l s) (manager h) (ports_at h) (history_status h Host l s) l s w.set
    (operation_verdict (ports_at h) l s loss w) x (draws_fit plan h cause.2) cause.0
draws_fit plan ((event.Stop l s loss, x) ∷ h) cause = stop_fits (manager h) l s plan.pool (reach_of op.Stop x)
    (draws_fit plan h cause.2)
draws_fit plan ((event.Reset link ends, x) ∷ h) cause =
    reset_fits (manager h) link ends plan.pool x (draws_fit plan h cause.2)
draws_fit plan ((e, x) ∷ h) cause = draws_fit plan h cause.2

-- ---- keys of the plan

pub lane_keys : (plan : Plan) → FitsPlan plan → (draw : ℕ) → draw < length plan.pool / 6 → (lane : ℕ) → lane < 6
    → IsKey (lane_key plan draw lane)
lane_keys plan fits draw lt lane low = fits.each_key (6 * draw + lane) [] (omega (arith, lt, low))

-- ---- streams of the plan

-- each has an ID of one byte
abbrev SmallIds : List StreamPlan → Type 0
SmallIds [] = Unit {0}
SmallIds (s ∷ ss) = (s.id ≤ 255) × SmallIds ss

abbrev SmallRows : List (List StreamPlan) → Type 0
SmallRows [] = Unit {0}
SmallRows (ss ∷ rows) = SmallIds ss × SmallRows rows

rows_append : (xs ys : List (List StreamPlan)) → SmallRows xs → SmallRows ys → SmallRows (xs ++ ys)
rows_append [] ys one two = two
rows_append (ss ∷ xs) ys one two = (one.0, rows_append xs ys one.1 two)

rows_none : (n : ℕ) → SmallRows (replicate n [])
rows_none zero = tt
rows_none (suc n) = (tt, rows_none n)

rows_take : (n : ℕ) (rows : List (List StreamPlan)) → SmallRows rows → SmallRows (take n rows)
rows_take zero rows small = tt
rows_take (suc n) [] small = tt
rows_take (suc n) (ss ∷ rows) small = (small.0, rows_take n rows small.1)

rows_at : (rows : List (List StreamPlan)) (line : ℕ) → SmallRows rows → SmallIds (slice_index_or rows line [])
rows_at [] line small = tt
rows_at (ss ∷ rows) zero small = small.0
rows_at (ss ∷ rows) (suc line) small = rows_at rows line small.1

rows_eight : (rows : List (List StreamPlan)) → SmallRows rows → SmallRows (in_eight rows)
rows_eight rows small = rows_take 8 (rows ++ replicate 8 []) (rows_append rows (replicate 8 []) small (rows_none 8))

small_streams : (ss : List StreamPlan) → All FitsStream ss → SmallIds ss
small_streams [] all = tt
small_streams (s ∷ ss) all = ((all 0 s (omega arith)).id, small_streams ss (All-tail FitsStream s ss all))

small_links : (ls : List LinkPlan) → All FitsLink ls → SmallRows (map (λ (l : LinkPlan). l.streams) ls)
small_links [] all = tt
small_links (l ∷ ls) all = (
  small_streams l.streams (all 0 l (omega arith)).each_stream,
  small_links ls (All-tail FitsLink l ls all),
)

small_hop : (streams : List StreamPlan) (o : Option HopPlan) → FitsHopIfAny streams o → SmallIds (hop_streams o)
small_hop streams None fits = tt
small_hop streams (Some o) fits = (fits.id, tt)

small_hops : (ls : List LinkPlan) → All FitsLink ls → SmallRows (map (λ (l : LinkPlan). hop_streams l.hop) ls)
small_hops [] all = tt
small_hops (l ∷ ls) all = (
  small_hop l.streams l.hop (all 0 l (omega arith)).hop,
  small_hops ls (All-tail FitsLink l ls all),
)

small_peers : (links : List LinkPlan) (ps : List PeerPlan) → All (FitsPeer links) ps
    → SmallRows (map (λ (p : PeerPlan). lone_stream p.id p.aggregation ∷ []) ps)
small_peers links [] all = tt
small_peers links (p ∷ ps) all = (
  ((all 0 p (omega arith)).id, tt),
  small_peers links ps (All-tail (FitsPeer links) p ps all),
)

small_rows : (plan : Plan) → FitsPlan plan → SmallRows (streams_by_line plan)
unfolding streams_by_line
small_rows plan fits =
    let links = rows_eight (streams_by_link plan) (small_links plan.links fits.each_link) in
    let hops = rows_eight (hop_by_link plan) (small_hops plan.links fits.each_link) in
    rows_append (in_eight (streams_by_link plan)) _ links
    (rows_append (in_eight (hop_by_link plan)) _ hops
    (rows_append (in_eight (hop_by_link plan)) (peer_streams plan) hops
    (small_peers plan.links plan.peers fits.each_peer)))

id_below : (ss : List StreamPlan) (id : ℕ) → SmallIds ss → is_some (with_id ss id) ≡ true → id ≤ 255
id_below [] id small known = absurd cc
id_below (s ∷ ss) id small known = grind (arith, nat_tests, id_below ss id small.1)

pub id_fits : (plan : Plan) → FitsPlan plan → (line id : ℕ) → is_some (stream_plan plan line id) ≡ true → id ≤ 255
unfolding stream_plan
id_fits plan fits line id known = id_below (streams_of plan line) id
    (rows_at (streams_by_line plan) line (small_rows plan fits)) known
