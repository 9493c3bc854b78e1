-- Streams by the names that events say, what is read of them at ends, and what a reset makes of them, as the machine
-- has it. The manager's streams are one list in the plan's order, line by line, so a name is found in it as by the
-- machine. A line that is not there has no stream.
use Rattle.all_ends.specs.declared.places.LinePlace.{LinePlace}
use Rattle.all_ends.specs.declared.places.LinePlace.TheVariants.{Link, Near, Pair}
use Rattle.all_ends.proofs.Terms.{◌≡◌, ℕ, suc, zero, ◌+◌, ◌-◌, ◌*◌, ◌<◌, ◌≤◌, Bool, true, false, List, [], ◌∷◌, ◌++◌}
use Rattle.all_ends.proofs.Terms.{length, refl, ap, sym, ◌∙◌, arith, Option, Some, None, option_map, is_some, slice_get}
use Rattle.all_ends.proofs.Terms.{if◌then◌else◌, slice_index_or, take, nat_tests, none-some, get_or_past, length-map}
use Rattle.all_ends.proofs.Terms.{StreamStage, replicate, History, Side, Host, Device, PortName, Plan, LinkPlan}
use Rattle.all_ends.proofs.Terms.{StreamPlan, StreamState, streams_of, stream_plan, LinkPacket, find, find_op, port_at}
use Rattle.all_ends.proofs.Terms.{port_place, machine_status, PortsStandFor, stream_state_due, op_at, ManagerView}
use Rattle.all_ends.proofs.Terms.{Named, named_stream, op_named, PortEnd, Found, found_stream, port_stream_status}
use Rattle.all_ends.proofs.Terms.{EndsView, KeeperView, ports_in, pair_ports, rows_of, ops_by_line, state_of, AreLinks}
use Rattle.all_ends.proofs.Terms.{op_named_first, stream_named, port_on, port_at_place, sent_direction, PairEnds}
use Rattle.all_ends.proofs.Terms.{LinkEnds, nat_lt, nat_le, ◌&&◌, with_id}
use Rattle.ide_types.specs.Fits.{FitsPlan}
use Rattle.law_sealing.proofs.OfPlans.{streams_fit}
use Rattle.std.proofs.lemmas.Option.{slice_get_past}
unfoldable use Rattle.spec_links.specs.Plan.{streams_by_line}
use Rattle.spec_links.specs.Plan.{streams_by_link, hop_by_link, peer_streams, behind_links, behind_near, lone_stream}
use Rattle.ide_types.specs.declared.plan.PeerPlan.{PeerPlan}
use Rattle.ide_types.specs.Ports.{host_port}
use Rattle.sub_stream.specs.Calls.{stream_status}
use Rattle.spec_links.proofs.Ends.{among_eight, behind_eight}
use Rattle.machine_ports.specs.Machine as machine
use Rattle.all_ends.proofs.ByPlace.{by_place}
use Rattle.join_ends.proofs.Managers.{op_found}
use Rattle.all_ends.proofs.Finds.{IsWired, wired, port_is, find_at, first_at, pair_at, ports_length, pairs_length}

-- ---- the operation on a stream

pub op_is : (plan : Plan) (v : EndsView) (k : KeeperView) (packets : List LinkPacket) (line stream : ℕ)
    → AreLinks plan v k → find_op plan (state_of plan v k packets) line stream
    ≡ op_named (named_stream k.manager line stream)
unfolding find_op
op_is plan v k packets line stream links =
    sym (op_found (streams_by_line plan) 0 line line k.manager.streams stream (omega arith) links.names) ∙
    op_named_first k.manager line stream

-- ---- lines that are not there

past_end : {A : Type 0} (xs : List A) (i : ℕ) → slice_get xs i ≡ None → length xs ≤ i
past_end [] i is = omega arith
past_end (x ∷ xs) zero is = absurd (none-some x (sym is))
past_end (x ∷ xs) (suc i) is = (let more = past_end xs i is in omega (arith, more))

unmapped : {A B : Type 0} (g : A → B) (o : Option A) → option_map g o ≡ None → o ≡ None
unmapped g None is = refl
unmapped g (Some x) is = absurd (none-some (g x) (sym is))

filled_past : {A : Type 0} (k m n : ℕ) (xs : List A) (z : A) → length xs ≤ n
    → slice_index_or (take k (xs ++ replicate m z)) n z ≡ z
filled_past zero m n xs z le = refl
filled_past (suc k) zero n [] z le = refl
filled_past (suc k) (suc m) zero [] z le = refl
filled_past (suc k) (suc m) (suc n) [] z le = filled_past k m n [] z (omega arith)
filled_past (suc k) m zero (x ∷ xs) z le = absurd (omega (arith, le))
filled_past (suc k) m (suc n) (x ∷ xs) z le = filled_past k m n xs z (omega (arith, le))

-- neither streams nor states
pub record IsAbsent (plan : Plan) (v : EndsView) (side : Side) (line : ℕ) : Type 0 where
  pub no_streams : streams_of plan line ≡ []
  pub no_states : slice_index_or (rows_of v) (2 * line + sent_direction side) [] ≡ []

module _ (plan : Plan) (v : EndsView) (k : KeeperView) (links : AreLinks plan v k) (side : Side) where
  w : IsWired v
  w = wired plan v k links

  abbrev AbsentAt : ℕ → LinePlace → Type 0
  AbsentAt line place = port_at_place v side place ≡ None → IsAbsent plan v side line

  one_most : (s : Side) → sent_direction s ≤ 1
  one_most Host = omega arith
  one_most Device = omega arith

  no_link : (i : ℕ) → i < 8 → AbsentAt i (Link i)
  unfolding streams_by_line
  no_link i lt is =
      let past = past_end v.links i (unmapped (λ (l : LinkEnds). _) (slice_get v.links i) is) in
      let most = one_most side in
      let all = ports_length v.links in
      record {
        no_streams = among_eight (streams_by_link plan) (behind_links plan) i lt
            ∙ get_or_past (streams_by_link plan) i [] (let many = links.many in
            let same = length-map plan.links (λ (l : LinkPlan). l.streams) in omega (arith, past, many, same));
        no_states = first_at v w (2 * i + sent_direction side) (omega (arith, lt, most))
            ∙ filled_past 16 16 (2 * i + sent_direction side) (ports_in v.links) [] (omega (arith, past, all));
      }

  no_near : (i : ℕ) → i < 8 → AbsentAt (8 + i) (Near i)
  no_near i lt is =
      let past = past_end v.near i (unmapped (λ (l : LinkEnds). _) (slice_get v.near i) is) in
      let many = links.near_many in
      absurd (omega (arith, past, many, lt))

  no_pair : (i : ℕ) → AbsentAt (16 + i) (Pair i)
  unfolding streams_by_line
  no_pair i is =
      let past = past_end v.pairs i (unmapped (λ (l : PairEnds). _) (slice_get v.pairs i) is) in
      let many = links.pairs_many in
      let all = pairs_length v.pairs in
      let row : 2 * (16 + i) + sent_direction side ≡ 32 + (2 * i + sent_direction side) = omega arith in
      let first : (16 + i) - 8 ≡ 8 + i = omega arith in
      let second : (8 + i) - 8 ≡ i = omega arith in
      let peers = length-map plan.peers (λ (p : PeerPlan). lone_stream p.id p.aggregation ∷ []) in
      record {
        no_streams = behind_eight (streams_by_link plan) (behind_links plan) (16 + i) (omega arith)
            ∙ (ap (λ (n : ℕ). slice_index_or (behind_links plan) n []) first
            ∙ (behind_eight (hop_by_link plan) (behind_near plan) (8 + i) (omega arith)
            ∙ (ap (λ (n : ℕ). slice_index_or (behind_near plan) n []) second
            ∙ (behind_eight (hop_by_link plan) (peer_streams plan) i (omega (arith, past, many))
            ∙ get_or_past (peer_streams plan) (i - 8) [] (omega (arith, past, many, peers))))));
        no_states = ap (λ (n : ℕ). slice_index_or (rows_of v) n []) row ∙ (pair_at v w (2 * i + sent_direction side)
            ∙ get_or_past (pair_ports v.pairs) (2 * i + sent_direction side) [] (omega (arith, past, all)));
      }

  pub absent : (line : ℕ) → port_on v (port_at side line) ≡ None → IsAbsent plan v side line
  absent line is = by_place AbsentAt no_link no_near no_pair line is

-- ---- what is found at an end

pub end_found : (plan : Plan) (v : EndsView) (k : KeeperView) (packets : List LinkPacket) (end : PortName) (e : PortEnd)
    (stream : ℕ) → AreLinks plan v k → port_on v end ≡ Some e → find plan (state_of plan v k packets) end stream
    ≡ option_map (λ (f : Found). f.state) (found_stream e.plans e.states stream)
end_found plan v k packets end e stream links is =
    find_at plan v k packets (wired plan v k links) end e is stream (port_is plan v k links end e is)

pub none_found : (plan : Plan) (v : EndsView) (k : KeeperView) (packets : List LinkPacket) (end : PortName) (stream : ℕ)
    → AreLinks plan v k → port_on v end ≡ None → find plan (state_of plan v k packets) end stream ≡ None
unfolding find
none_found plan v k packets end stream links is =
    ap (λ (ss : List StreamPlan). machine.found_by_id ss (slice_index_or (rows_of v) (port_place end) []) stream)
    (absent plan v k links end.side end.line is).no_streams

-- ---- names

abbrev name_if : Bool → ℕ → ℕ → Option (ℕ × ℕ)
name_if b line stream = if b then Some (line, stream) else None

-- what a name gives
pub record IsName (m : ManagerView) (v : EndsView) (line stream a b : ℕ) : Type 0 where
  pub within : line < 32
  pub end_there : is_some (port_on v (host_port line)) ≡ true
  pub line_is : a ≡ line
  pub stream_is : b ≡ stream
  pub there : is_some (named_stream m line stream) ≡ true

pub name_is : (m : ManagerView) (v : EndsView) (line stream a b : ℕ) → Some (a, b) ≡ stream_named m v line stream
    → IsName m v line stream a b
name_is m v line stream a b is = tested (is_some (port_on v (host_port line))) (is_some (named_stream m line stream))
    refl refl
    is
  where
    tested : (p q : Bool) → is_some (port_on v (host_port line)) ≡ p → is_some (named_stream m line stream) ≡ q
        → Some (a, b) ≡ name_if (nat_lt line 32 && nat_le stream 255 && p && q) line stream → IsName m v line stream a b
    tested p q there names is = grind (arith, nat_tests)

no_op : (o : Option Named) → is_some o ≡ false → op_named o ≡ None
no_op o is = grind arith

none_with : (ss : List StreamPlan) (os : List StreamStage) (id : ℕ) → with_id ss id ≡ None
    → machine.found_by_id ss os id ≡ None
none_with [] os id is = refl
none_with (s ∷ ss) [] id is = refl
none_with (s ∷ ss) (o ∷ os) id is = grind (arith, nat_tests, none_with ss os id)

-- IDs are numbers of a byte
unplanned : (plan : Plan) (line id : ℕ) → FitsPlan plan → 255 < id → with_id (streams_of plan line) id ≡ None
unfolding stream_plan
unplanned plan line id fits lt = by_plan (with_id (streams_of plan line) id) refl
  where
    by_plan : (o : Option StreamPlan) → with_id (streams_of plan line) id ≡ o → o ≡ None
    by_plan None is = refl
    by_plan (Some s) is = (let most = (streams_fit plan fits).id line id s is in absurd (omega (arith, most, lt)))

no_port : (o : Option PortEnd) → is_some o ≡ false → o ≡ None
no_port o is = grind arith

-- lines from 32 on are not there
past_lines : (plan : Plan) (v : EndsView) (k : KeeperView) (line : ℕ) → AreLinks plan v k → nat_lt line 32 ≡ false
    → port_on v (host_port line) ≡ None
past_lines plan v k line links late = by_place P at_link at_near at_pair line late
  where
    P : ℕ → LinePlace → Type 0
    P n place = nat_lt n 32 ≡ false → port_at_place v Host place ≡ None

    at_link : (i : ℕ) → i < 8 → P i (Link i)
    at_link i lt late = absurd (grind (arith, nat_tests, lt, late))

    at_near : (i : ℕ) → i < 8 → P (8 + i) (Near i)
    at_near i lt late = absurd (grind (arith, nat_tests, lt, late))

    at_pair : (i : ℕ) → P (16 + i) (Pair i)
    at_pair i late =
        let least : 16 ≤ i = grind (arith, nat_tests, late) in
        let many = links.pairs_many in
        let most = links.fits.peers_most in
        ap (λ (o : Option PairEnds). option_map (λ (l : PairEnds). l.near.port) o)
        (slice_get_past v.pairs i (omega (arith, least, many, most)))

-- a name that no stream has
pub unnamed : (plan : Plan) (v : EndsView) (k : KeeperView) (packets : List LinkPacket) (line stream : ℕ)
    → AreLinks plan v k → None ≡ stream_named k.manager v line stream
    → find_op plan (state_of plan v k packets) line stream ≡ None
unfolding find_op
unnamed plan v k packets line stream links is =
    by_tests (nat_lt line 32) (nat_le stream 255) (is_some (port_on v (host_port line)))
    (is_some (named_stream k.manager line stream)) refl refl refl refl is
  where
    os : List StreamStage
    os = slice_index_or (ops_by_line (streams_by_line plan) k.manager.streams) line []

    gone : port_on v (host_port line) ≡ None → machine.found_by_id (streams_of plan line) os stream ≡ None
    gone none = ap (λ (ss : List StreamPlan). machine.found_by_id ss os stream)
        (absent plan v k links Host line none).no_streams

    by_tests : (a b c d : Bool) → nat_lt line 32 ≡ a → nat_le stream 255 ≡ b → is_some (port_on v (host_port line)) ≡ c
        → is_some (named_stream k.manager line stream) ≡ d → None ≡ name_if (a && b && c && d) line stream
        → machine.found_by_id (streams_of plan line) os stream ≡ None
    by_tests false b c d late less there names none = gone (past_lines plan v k line links late)
    by_tests true false c d late less there names none = none_with (streams_of plan line) os stream
        (unplanned plan line stream links.fits (grind (arith, nat_tests, less)))
    by_tests true true false d late less there names none = gone (no_port (port_on v (host_port line)) there)
    by_tests true true true false late less there names none =
        op_is plan v k packets line stream links ∙ no_op (named_stream k.manager line stream) names
    by_tests true true true true late less there names none = absurd (none-some (line, stream) none)

-- ---- the states of a stream

pub some_op : (o : Option Named) → is_some o ≡ true → (q : StreamStage) × (op_named o ≡ Some q)
some_op None is = absurd cc
some_op (Some n) is = (n.stream.op, refl)

pub planned : (plan : Plan) (h : History) (line stream : ℕ) (q : StreamStage) → op_at plan h line stream ≡ Some q
    → is_some (stream_plan plan line stream) ≡ true
planned plan h line stream q is = grind arith

pub found_some : (o : Option Found) (x : StreamState) → option_map (λ (f : Found). f.state) o ≡ Some x → (f : Found)
    × (o ≡ Some f)
found_some None x is = absurd (none-some x is)
found_some (Some f) x is = (f, refl)

-- a stream of the plan at an end
pub port_found : (plan : Plan) (v : EndsView) (k : KeeperView) (packets : List LinkPacket) (h : History)
    (end : PortName) (stream : ℕ) (e : PortEnd) → AreLinks plan v k → PortsStandFor plan (state_of plan v k packets) h
    → is_some (stream_plan plan end.line stream) ≡ true → port_on v end ≡ Some e
    → (f : Found) × (found_stream e.plans e.states stream ≡ Some f)
    × (find plan (state_of plan v k packets) end stream ≡ Some f.state)
port_found plan v k packets h end stream e links stands known is =
    let seen = end_found plan v k packets end e stream links is in
    let one : find plan (state_of plan v k packets) end stream
    ≡ Some (stream_state_due plan h end stream) = stands.ports_stand.streams end stream ∙ ap
    (λ (b : Bool). if b then Some (stream_state_due plan h end stream) else None) known in
    let f = found_some (found_stream e.plans e.states stream) (stream_state_due plan h end stream) (sym seen ∙ one) in
    (f.0, f.1, seen ∙ ap (λ (o : Option Found). option_map (λ (f : Found). f.state) o) f.1)

pub at_side : (plan : Plan) (v : EndsView) (k : KeeperView) (packets : List LinkPacket) (h : History) (line stream : ℕ)
    (side : Side) (e : PortEnd) → AreLinks plan v k → PortsStandFor plan (state_of plan v k packets) h
    → is_some (stream_plan plan line stream) ≡ true → port_on v (port_at side line) ≡ Some e
    → port_stream_status e stream ≡ Some (machine_status plan (state_of plan v k packets) side line stream)
at_side plan v k packets h line stream side e links stands known is =
    let f = port_found plan v k packets h (port_at side line) stream e links stands known is in
    ap (λ (o : Option Found). option_map (λ (g : Found). stream_status g.state) o) f.1
    ∙ sym (ap (λ (o : Option StreamState). Some (machine.status_if_planned o)) f.2)
