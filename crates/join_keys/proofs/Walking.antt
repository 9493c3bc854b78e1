-- One exchange after another: how the manager judges each, and what is left at both ends.
use Rattle.join_keys.specs.Calls.{lane_sends}
use Rattle.join_keys.proofs.Terms.{◌≡◌, Bool, arith, true, ℕ, List, Work, Plan, false, nat_tests, Operation, ◌≤◌, ◌∙◌}
use Rattle.join_keys.proofs.Terms.{makes_draw, lane_key, is_only_live, StreamState, ◌+◌, ap, exchange_call, all_called}
use Rattle.join_keys.proofs.Terms.{◌<◌, Some, last_exchange_of, slots_refuse, DrawsApart, Option, op_at_exchange}
use Rattle.join_keys.proofs.Terms.{new_reach, op_after_reach, call_of_exchange, get_or-set_other, IsKey, PortView}
use Rattle.join_keys.proofs.Terms.{refusal_at, refusal_if, exchange_judged, is_some, None, sym, slot_in_set, is_empty}
use Rattle.join_keys.proofs.Terms.{pair_slot, different-false, request_asked, wire_keys_after, stream_acknowledged}
use Rattle.join_keys.proofs.Terms.{WorkFits, StreamEnds, came_to, ends_after_exchange, HasKeys, exchange_of, WireKeys}
use Rattle.join_keys.proofs.Terms.{kept_key, request_of, Expected, KeySet, key_set, one_of_set, work_asked, Device}
use Rattle.key_host.specs.declared.stage.NextExchange.{NextExchange}
use Rattle.join_keys.proofs.Slots.{only_live_is, is_refusal}
use Rattle.join_keys.proofs.Lanes.{lane_place, lane_slots, slot_seen, IsFull, first_program, Turn, asks, puts, goes}
use Rattle.join_keys.proofs.Lanes.{stops_lane_keys, turn, put_refused, go_refused, query_refused}
use Rattle.ide_types.specs.Lines.{is_hosted}
use Rattle.key_host.specs.Exchanges.{exchange_lane}
use Rattle.join_keys.proofs.Replies.{lane_pair, query_comes, program_comes, go_comes, stop_comes_there}

abbrev pub asked_of : Work → ℕ → NextExchange
asked_of w n = record { operation = w.operation; set = key_set w.set; draw = w.draw; exchange = n }

-- the status with which the device refuses exchange n
abbrev pub denial : PortView → Work → ℕ → ℕ → ℕ → Option ℕ
denial ports w line id n = refusal_at ports w.operation w.set line id n

-- what an event of an operation finds: the stream at the device, the keys of its draw, what the ports refuse
pub record Knows (plan : Plan) (ports : PortView) (w : Work) (line id requester : ℕ) (before : StreamState) : Type 0
  where
    pub hosted : is_hosted line ≡ true
    pub fits : WorkFits w.operation w.set w.draw
    pub small : id ≤ 255
    pub requester_most : requester ≤ 65535
    pub keys : makes_draw w.operation ≡ true → (lane : ℕ) → lane < 6 → IsKey (lane_key plan w.draw lane)
    pub reads : (lane : ℕ) → lane < 6 → ports.refusal (lane_place line id lane) w.set
        ≡ refusal_if (slots_refuse (lane_slots lane before) w.set)
    pub apart : (lane : ℕ) → lane < 6 → DrawsApart (lane_slots lane before)

-- exchange n is next: lanes whose KEY_PROG is to come are as before the event, and those whose GO is to come have a key
pub record IsNext (plan : Plan) (w : Work) (id : ℕ) (before : StreamState) (n : ℕ) (e : StreamEnds) : Type 0 where
  pub op_is : e.keeper.op ≡ op_at_exchange w n
  pub id_is : e.keeper.id ≡ id
  pub keys : makes_draw w.operation ≡ true → HasKeys plan w.draw (first_program w.operation) n e.keeper.keys
  pub fresh : makes_draw w.operation ≡ true → (lane : ℕ) → lane < 6 → n ≤ first_program w.operation + lane
      → lane_slots lane e.device ≡ lane_slots lane before
  pub ready : makes_draw w.operation ≡ true → (lane : ℕ) → lane < 6 → first_program w.operation + lane < n
      → n ≤ first_program w.operation + (6 + lane) → IsFull (slot_in_set (lane_slots lane e.device) w.set)

-- the operation after an exchange that is not its last
standing_behind : (w : Work) (n : ℕ) → n < last_exchange_of true w.operation
    → op_after_reach true (work_asked (asked_of w n)) (new_reach (n + 1) (n + 1)) ≡ op_at_exchange w (n + 1)
standing_behind w n less = grind (arith, nat_tests, one_of_set)

-- a KEY_PROG takes its own lane's key
kept_after : (o : Operation) (set : KeySet) (n lane : ℕ) (keys : WireKeys) (key : List ℕ) → makes_draw o ≡ true → 1 ≤ n
    → n + 1 ≤ first_program o + lane → kept_key keys lane ≡ Some key → kept_key
    (wire_keys_after (exchange_of true o set n) (exchange_lane (exchange_of true o set n)) keys) lane ≡ Some key
kept_after o set n lane keys key makes least le kept = grind (arith, nat_tests, get_or-set_other {A = Option (List ℕ)})

-- lanes whose KEY_PROG comes later stay as they are
fresh_after : (plan : Plan) (o : Operation) (set : KeySet) (draw n lane : ℕ) (x : StreamState) → makes_draw o ≡ true
    → 1 ≤ n → lane < 6 → n + 1 ≤ first_program o + lane
    → lane_slots lane (all_called (call_of_exchange plan draw Device (exchange_of true o set n)) x) ≡ lane_slots lane x
fresh_after plan o set draw n lane x makes least lt le = grind (arith, nat_tests)

-- a lane has its key from its KEY_PROG on, until its GO
ready_after : (plan : Plan) (o : Operation) (set : Bool) (draw n lane : ℕ) (x : StreamState) → makes_draw o ≡ true
    → 1 ≤ n → lane < 6 → first_program o + lane < n + 1 → n + 1 ≤ first_program o + (6 + lane)
    → (n ≡ first_program o + lane → is_only_live (lane_pair lane x) set ≡ false)
    → (first_program o + lane < n → IsFull (slot_in_set (lane_slots lane x) set)) → IsFull (slot_in_set
    (lane_slots lane (all_called (call_of_exchange plan draw Device (exchange_of true o (key_set set) n)) x))
    set)
ready_after plan o set draw n lane x makes least lt past le free before = grind (arith, nat_tests, one_of_set)

module _ (plan : Plan) (ports : PortView) (w : Work) (line id requester : ℕ) (before : StreamState)
    (knows : Knows plan ports w line id requester before) where
  -- the KEY_PROG of a lane is refused as before the event
  pair_refused : (n : ℕ) (e : StreamEnds) → IsNext plan w id before n e → makes_draw w.operation ≡ true → (lane : ℕ)
      → lane < 6 → n ≡ first_program w.operation + lane
      → refusal_if (is_only_live (lane_pair lane e.device) w.set) ≡ denial ports w line id n
  pair_refused n e at makes lane lt is_n =
      rw (
        at.fresh makes lane lt (omega (arith, is_n)),
        is_n,
        put_refused ports w.operation w.set line id knows.hosted makes lane lt,
        knows.reads lane lt,
      )
      (ap refusal_if (only_live_is (lane_sends lane) (lane_slots lane before) w.set
      (knows.apart lane lt)))

  -- each request is answered as expected, but for a KEY_PROG that is refused
  pub came_is : (n : ℕ) (e : StreamEnds) → IsNext plan w id before n e → 1 ≤ n → n ≤ last_exchange_of true w.operation
      → came_to requester (request_asked true (asked_of w n) e.keeper) e.keeper.id w.draw e.device
      ≡ record {
        judged = exchange_judged None (denial ports w line id n);
        device = all_called
            (exchange_call plan w n) e.device;
      }
  came_is n e at least most = by_turn (turn w.operation (key_set w.set) n least most)
    where
      small : e.keeper.id ≤ 255
      small = omega (arith, knows.small, at.id_is)

      by_turn : Turn w.operation (key_set w.set) n → let x = exchange_of true w.operation (key_set w.set) n in
          came_to requester (request_of e.keeper.id e.keeper.keys (exchange_lane x) x) e.keeper.id w.draw e.device
          ≡ record {
            judged = exchange_judged None (denial ports w line id n);
            device = all_called
                (call_of_exchange plan w.draw Device x) e.device;
          }
      by_turn (asks is_o is_n is) =
          let free : denial ports w line id n ≡ None = (λ i. refusal_at ports (is_o i) w.set line id (is_n i))
          ∙ query_refused ports w.set line id knows.hosted in
          rw (is, free) (query_comes requester w.draw e.keeper.id e.device knows.requester_most)
      by_turn (puts lane lt makes is_n is) =
          let key : kept_key e.keeper.keys lane ≡ Some (lane_key plan w.draw lane) = at.keys makes lane lt
          (omega (arith, is_n)) in
          rw (is, key, ← (pair_refused n e at makes lane lt is_n), one_of_set w.set)
          (rw (one_of_set w.set) at (program_comes requester w.draw e.keeper.id (key_set w.set) lane
          (lane_key plan w.draw lane) e.device small lt (knows.keys makes lane lt)))
      by_turn (goes lane lt makes is_n is) =
          let free : denial ports w line id n ≡ None = rw is_n
          (go_refused ports w.operation w.set line id knows.hosted makes lane lt) in
          let full : is_empty (pair_slot (lane_pair lane e.device) w.set) ≡ false =
          ap is_empty (slot_seen (lane_sends lane) (lane_slots lane e.device) w.set)
          ∙ at.ready makes lane lt (omega (arith, is_n, lt)) (omega (arith, is_n)) in
          rw (is, free)
          (go_comes requester w.draw e.keeper.id (key_set w.set) lane e.device small lt (rw (one_of_set w.set) full))
      by_turn (stops_lane_keys k lane lt is_o is) =
          let free : denial ports w line id n ≡ None = λ i. refusal_at ports (is_o i) w.set line id n in
          rw (is, free) (stop_comes_there requester w.draw e.keeper.id k lane e.device small lt)

  -- ---- the exchange was acknowledged

  next_keys : (n : ℕ) (e : StreamEnds) → IsNext plan w id before n e → 1 ≤ n → n < last_exchange_of true w.operation
      → makes_draw w.operation ≡ true → (lane : ℕ) → lane < 6 → n + 1 ≤ first_program w.operation + lane
      → kept_key (stream_acknowledged true (asked_of w n) e.keeper).keys lane ≡ Some (lane_key plan w.draw lane)
  next_keys n e at least less makes lane lt le =
      rw (different-false n (last_exchange_of true w.operation) less)
      (kept_after w.operation (key_set w.set) n lane e.keeper.keys _ makes least le
      (at.keys makes lane lt (omega (arith, le))))

  next_fresh : (n : ℕ) (e : StreamEnds) → IsNext plan w id before n e → 1 ≤ n → makes_draw w.operation ≡ true
      → (lane : ℕ) → lane < 6 → n + 1 ≤ first_program w.operation + lane
      → lane_slots lane (all_called (exchange_call plan w n) e.device) ≡ lane_slots lane before
  next_fresh n e at least makes lane lt le = fresh_after plan w.operation (key_set w.set) w.draw n lane e.device makes
      least lt le ∙ at.fresh makes lane lt (omega (arith, le))

  next_ready : (n : ℕ) (e : StreamEnds) → IsNext plan w id before n e → 1 ≤ n → denial ports w line id n ≡ None
      → makes_draw w.operation ≡ true → (lane : ℕ) → lane < 6 → first_program w.operation + lane < n + 1
      → n + 1 ≤ first_program w.operation + (6 + lane)
      → IsFull (slot_in_set (lane_slots lane (all_called (exchange_call plan w n) e.device)) w.set)
  next_ready n e at least free makes lane lt past le =
      ready_after plan w.operation w.set w.draw n lane e.device makes least lt past le
      (λ same. sym (is_refusal (is_only_live (lane_pair lane e.device) w.set))
      ∙ ap is_some (pair_refused n e at makes lane lt same ∙ free))
      (λ before. at.ready makes lane lt before (omega (arith, le)))

  pub next_is : (n : ℕ) (e : StreamEnds) → IsNext plan w id before n e → 1 ≤ n → n < last_exchange_of true w.operation
      → denial ports w line id n ≡ None
      → IsNext plan w id before (n + 1)
      (ends_after_exchange (asked_of w n)
      (record { judged = Expected; device = all_called (exchange_call plan w n) e.device }) e)
  next_is n e at least less free =
      record {
        op_is = standing_behind w n less;
        id_is = at.id_is;
        keys = next_keys n e at least less;
        fresh = next_fresh n e at least;
        ready = next_ready n e at least free;
      }
