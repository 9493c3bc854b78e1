-- One exchange after another on a line that is keyed by messages at both ends: how the manager judges each, and what is
-- left at both ends.
use Rattle.ide_types.specs.Lines.{is_hosted}
use Rattle.spec_keys.specs.Places.{is_same_side}
use Rattle.join_keys.specs.Calls.{lane_sends, lane_call, lane_key, key_number, told_call}
use Rattle.join_keys.specs.Paired.{PairStreams, PairExchanged, came_to_end, pair_after, HasPairKeys}
use Rattle.join_keys.proofs.Terms.{◌≡◌, ◌≢◌, Bool, arith, true, ℕ, List, Work, Plan, false, nat_tests, Operation, ◌≤◌}
use Rattle.join_keys.proofs.Terms.{◌∙◌, makes_draw, is_only_live, StreamState, ◌+◌, ap, refl, Host, Device, Side, []}
use Rattle.join_keys.proofs.Terms.{◌∷◌, if◌then◌else◌, all_called, ◌<◌, last_exchange_of, slots_refuse, DrawsApart}
use Rattle.join_keys.proofs.Terms.{Option, op_at_exchange, new_reach, op_after_reach, get_or-set_other, IsKey, PortView}
use Rattle.join_keys.proofs.Terms.{refusal_at, refusal_if, exchange_judged, is_some, None, sym, slot_in_set, is_empty}
use Rattle.join_keys.proofs.Terms.{subst, cases_lt, inl, inr, pair_slot, different-false, request_asked}
use Rattle.join_keys.proofs.Terms.{wire_keys_after, stream_acknowledged, WorkFits, exchange_of, WireKeys, kept_key}
use Rattle.join_keys.proofs.Terms.{one_of_set, work_asked, request_of, KeySet, key_set}
use Rattle.key_host.specs.Exchanges.{end_of, exchange_lane, wire_number}
use Rattle.key_host.specs.Streams.{end_asked}
use Rattle.key_slots.specs.{KeyCall, Program}
use Rattle.join_keys.proofs.Slots.{only_live_is, is_refusal}
use Rattle.join_keys.proofs.Lanes.{lane_slots, slot_seen, IsFull}
use Rattle.join_keys.proofs.PairTurns.{pair_place, put_at, goes_at, PairTurn, pair_puts, pair_goes, pair_stops}
use Rattle.join_keys.proofs.PairTurns.{pair_turn, pair_put_refused, pair_go_refused}
use Rattle.join_keys.proofs.Replies.{lane_pair, lane_called, program_comes, go_comes, stop_comes_there}
use Rattle.join_keys.proofs.Walking.{asked_of, denial}

-- the stream at an end
abbrev pub state_at : Side → PairStreams → StreamState
state_at Host e = e.near
state_at Device e = e.far

-- what an event of an operation finds: the stream at both ends, the keys of its draw, what the ports refuse
pub record PairKnows (plan : Plan) (ports : PortView) (w : Work) (link id requester : ℕ) (before : PairStreams) : Type 0
  where
    pub line : is_hosted link ≡ false
    pub fits : WorkFits w.operation w.set w.draw
    pub small : id ≤ 255
    pub requester_most : requester ≤ 65535
    pub keys : makes_draw w.operation ≡ true → (side : Side) (lane : ℕ) → lane < 6
        → IsKey (lane_key plan w.draw (key_number side lane))
    pub reads : (side : Side) (lane : ℕ) → lane < 6 → ports.refusal (pair_place link id side lane) w.set
        ≡ refusal_if (slots_refuse (lane_slots lane (state_at side before)) w.set)
    pub apart : (side : Side) (lane : ℕ) → lane < 6 → DrawsApart (lane_slots lane (state_at side before))

-- before exchange n: lanes whose KEY_PROG comes later are as they were, and those behind it that had no GO have a key
pub record IsPairNext (plan : Plan) (w : Work) (id : ℕ) (before : PairStreams) (n : ℕ) (e : PairStreams) : Type 0 where
  pub op_is : e.keeper.op ≡ op_at_exchange w n
  pub id_is : e.keeper.id ≡ id
  pub keys : makes_draw w.operation ≡ true → HasPairKeys plan w.draw n e.keeper.keys
  pub fresh : makes_draw w.operation ≡ true → (side : Side) (lane : ℕ) → lane < 6 → n ≤ put_at side lane
      → lane_slots lane (state_at side e) ≡ lane_slots lane (state_at side before)
  pub ready : makes_draw w.operation ≡ true → (side : Side) (lane : ℕ) → lane < 6 → put_at side lane < n
      → n ≤ goes_at side lane → IsFull (slot_in_set (lane_slots lane (state_at side e)) w.set)

-- ---- one call at a lane

-- no other lane changes
other_lane : (lane l : ℕ) (call : KeyCall) (x : StreamState) → lane < 6 → l < 6 → l ≢ lane
    → lane_slots lane (lane_called l call x) ≡ lane_slots lane x
other_lane lane l call x lt low other = grind (arith, nat_tests)

-- a call of an exchange that is carried to end s changes nothing at another end, and no other lane
abbrev told_there : Side → Side → ℕ → KeyCall → StreamState → StreamState
told_there s side l call x = all_called (if is_same_side s side then lane_call l call ∷ [] else []) x

told_other : (s side : Side) (lane l : ℕ) (call : KeyCall) (x : StreamState) → lane < 6 → l < 6
    → (s ≡ side → l ≢ lane) → lane_slots lane (told_there s side l call x) ≡ lane_slots lane x
told_other Host Host lane l call x lt low other = other_lane lane l call x lt low (other refl)
told_other Device Device lane l call x lt low other = other_lane lane l call x lt low (other refl)
told_other Host Device lane l call x lt low other = refl
told_other Device Host lane l call x lt low other = refl

-- ---- lanes by the exchanges that program them

lane_apart : (at : Side → ℕ → ℕ) (s side : Side) (l lane n : ℕ) → n ≡ at s l → n ≢ at side lane → s ≡ side → l ≢ lane
lane_apart at Host Host l lane n is other same e = other (is ∙ ap (at Host) e)
lane_apart at Device Device l lane n is other same e = other (is ∙ ap (at Device) e)
lane_apart at Host Device l lane n is other same e = absurd cc
lane_apart at Device Host l lane n is other same e = absurd cc

put_below : (s side : Side) (l lane : ℕ) → lane < 6 → put_at side lane < goes_at s l
put_below s side l lane lt = grind (arith, nat_tests)

-- ---- what an exchange that was carried leaves

module _ (plan : Plan) (w : Work) (n : ℕ) (least : 1 ≤ n) (most : n ≤ last_exchange_of false w.operation)
    (makes : makes_draw w.operation ≡ true) (side : Side) (lane : ℕ) (lt : lane < 6) (x : StreamState) where
  abbrev told_slots : Type 0
  told_slots = lane_slots lane (all_called (told_call plan false side w n) x) ≡ lane_slots lane x

  -- lanes whose KEY_PROG comes later stay as they are
  fresh_turn : n + 1 ≤ put_at side lane → PairTurn w.operation (key_set w.set) n → told_slots
  fresh_turn le (pair_puts s l low draws is_n ends is) =
      rw (ends, is) (told_other s side lane l _ x lt low
      (lane_apart put_at s side l lane n is_n (λ same. absurd (omega (arith, same, le)))))
  fresh_turn le (pair_goes s l low draws is_n ends is) =
      absurd (let below = put_below s side l lane lt in omega (arith, below, is_n, le))
  fresh_turn le (pair_stops s k l low is_o ends is) = absurd (let draws = makes in cc)

  pub fresh_after : n + 1 ≤ put_at side lane → told_slots
  fresh_after le = fresh_turn le (pair_turn w.operation (key_set w.set) n least most)

-- ---- the keys that are left

wire_apart : (s side : Side) (l lane n : ℕ) → l < 6 → lane < 6 → n ≡ put_at s l → n + 1 ≤ put_at side lane
    → wire_number false side lane ≢ wire_number false s l
wire_apart Host Host l lane n low lt is le e = absurd (omega (arith, is, le, e))
wire_apart Host Device l lane n low lt is le e = absurd (omega (arith, is, le, e, low))
wire_apart Device Host l lane n low lt is le e = absurd (omega (arith, is, le, e, lt))
wire_apart Device Device l lane n low lt is le e = absurd (omega (arith, is, le, e))

kept_turn : (o : Operation) (set : KeySet) (n : ℕ) (side : Side) (lane : ℕ) (keys : WireKeys) → lane < 6
    → n + 1 ≤ put_at side lane → PairTurn o set n → kept_key (wire_keys_after (exchange_of false o set n)
    (wire_number false (end_of false o n) (exchange_lane (exchange_of false o set n))) keys)
    (wire_number false side lane)
    ≡ kept_key keys (wire_number false side lane)
kept_turn o set n side lane keys lt le (pair_puts s l low draws is_n ends is) =
    rw (ends, is) (get_or-set_other {A = Option (List ℕ)} keys (wire_number false s l) (wire_number false side lane)
    None
    None (wire_apart s side l lane n low lt is_n le))
kept_turn o set n side lane keys lt le (pair_goes s l low draws is_n ends is) = rw is refl
kept_turn o set n side lane keys lt le (pair_stops s k l low is_o ends is) = rw is refl

-- ---- the key that is put

full_put : (lane : ℕ) (set : Bool) (key : List ℕ) (draw : ℕ) (x : StreamState) → lane < 6
    → is_only_live (lane_pair lane x) set ≡ false
    → IsFull (slot_in_set (lane_slots lane (lane_called lane (Program set key draw) x)) set)
full_put lane set key draw x lt free = grind (arith, nat_tests)

full_told : (s side : Side) (l lane : ℕ) (set : Bool) (key : List ℕ) (draw : ℕ) (x : StreamState) → lane < 6 → l < 6
    → put_at s l ≡ put_at side lane → is_only_live (lane_pair lane x) set ≡ false
    → IsFull (slot_in_set (lane_slots lane (told_there s side l (Program set key draw) x)) set)
full_told Host Host l lane set key draw x lt low same free =
    let e : lane ≡ l = omega (arith, same) in
    subst (λ (z : ℕ). IsFull (slot_in_set (lane_slots lane (lane_called z (Program set key draw) x)) set)) e
    (full_put lane set key draw x lt free)
full_told Device Device l lane set key draw x lt low same free =
    let e : lane ≡ l = omega (arith, same) in
    subst (λ (z : ℕ). IsFull (slot_in_set (lane_slots lane (lane_called z (Program set key draw) x)) set)) e
    (full_put lane set key draw x lt free)
full_told Host Device l lane set key draw x lt low same free = absurd (omega (arith, same, low))
full_told Device Host l lane set key draw x lt low same free = absurd (omega (arith, same, lt))

-- a lane has its key from its KEY_PROG on, until its GO
module _ (plan : Plan) (w : Work) (n : ℕ) (least : 1 ≤ n) (most : n ≤ last_exchange_of false w.operation)
    (makes : makes_draw w.operation ≡ true) (side : Side) (lane : ℕ) (lt : lane < 6) (x : StreamState)
    (past : put_at side lane < n + 1) (le : n + 1 ≤ goes_at side lane)
    (free : n ≡ put_at side lane → is_only_live (lane_pair lane x) w.set ≡ false)
    (full : put_at side lane < n → IsFull (slot_in_set (lane_slots lane x) w.set)) where
  abbrev told_full : Type 0
  told_full = IsFull (slot_in_set (lane_slots lane (all_called (told_call plan false side w n) x)) w.set)

  ready_turn : PairTurn w.operation (key_set w.set) n → told_full
  ready_turn (pair_puts s l low draws is_n ends is) = elim (cases_lt (put_at side lane) n) [
    | inl behind ↦ rw (
      ends,
      is,
      told_other s side lane l _ x lt low
          (lane_apart put_at s side l lane n is_n (λ same. absurd (omega (arith, same, behind)))),
    ) (full behind)
    | inr here ↦
        let same : n ≡ put_at side lane = omega (arith, past, here) in
        rw (ends, is, one_of_set w.set) (full_told s side l lane w.set _ w.draw x lt low
        (omega (arith, is_n, same)) (free same))
  ]
  ready_turn (pair_goes s l low draws is_n ends is) =
      let below = put_below s side l lane lt in
      rw (
        ends,
        is,
        told_other s side lane l _ x lt low
            (lane_apart goes_at s side l lane n is_n (λ same. absurd (omega (arith, same, le)))),
      )
      (full (omega (arith, below, is_n)))
  ready_turn (pair_stops s k l low is_o ends is) = absurd (let draws = makes in cc)

  pub ready_after : told_full
  ready_after = ready_turn (pair_turn w.operation (key_set w.set) n least most)

-- the operation after an exchange that is not its last
pair_standing : (w : Work) (n : ℕ) → n < last_exchange_of false w.operation
    → op_after_reach false (work_asked (asked_of w n)) (new_reach (n + 1) (n + 1)) ≡ op_at_exchange w (n + 1)
pair_standing w n less = grind (arith, nat_tests, one_of_set)

-- ---- exchange by exchange

module _ (plan : Plan) (ports : PortView) (w : Work) (line id requester : ℕ) (before : PairStreams)
    (knows : PairKnows plan ports w line id requester before) where
  -- the KEY_PROG of a lane is refused as before the event
  lane_refused : (n : ℕ) (e : PairStreams) → IsPairNext plan w id before n e → makes_draw w.operation ≡ true
      → (side : Side) (lane : ℕ) → lane < 6 → n ≡ put_at side lane
      → refusal_if (is_only_live (lane_pair lane (state_at side e)) w.set) ≡ denial ports w line id n
  lane_refused n e at makes side lane lt is_n =
      rw (
        at.fresh makes side lane lt (omega (arith, is_n)),
        is_n,
        pair_put_refused ports w.operation w.set line id knows.line makes side lane lt,
        knows.reads side lane lt,
      )
      (ap refusal_if (only_live_is (lane_sends lane) (lane_slots lane (state_at side before)) w.set
      (knows.apart side lane lt)))

  -- what is left at both ends by an exchange that was carried
  abbrev pub carried_both : ℕ → Option ℕ → PairStreams → PairExchanged
  carried_both n r e = record {
    judged = exchange_judged None r;
    near = all_called (told_call plan false Host w n) e.near;
    far = all_called (told_call plan false Device w n) e.far;
  }

  -- each request is answered as expected, but for a KEY_PROG that is refused
  pub pair_came : (n : ℕ) (e : PairStreams) → IsPairNext plan w id before n e → 1 ≤ n
      → n ≤ last_exchange_of false w.operation
      → came_to_end (end_asked false (asked_of w n)) requester (request_asked false (asked_of w n) e.keeper) w.draw e
      ≡ carried_both n (denial ports w line id n) e
  pair_came n e at least most = by_turn (pair_turn w.operation (key_set w.set) n least most)
    where
      small : e.keeper.id ≤ 255
      small = omega (arith, knows.small, at.id_is)

      by_turn : PairTurn w.operation (key_set w.set) n → came_to_end (end_of false w.operation n) requester
          (request_of e.keeper.id e.keeper.keys
          (wire_number false (end_of false w.operation n)
          (exchange_lane (exchange_of false w.operation (key_set w.set) n)))
          (exchange_of false w.operation (key_set w.set) n)) w.draw e
          ≡ carried_both n (denial ports w line id n) e
      by_turn (pair_puts Host lane lt makes is_n ends is) =
          let key = at.keys makes Host lane lt (omega (arith, is_n)) in
          rw (ends, is, key, ← (lane_refused n e at makes Host lane lt is_n), one_of_set w.set)
          (ap (λ x. record { judged = x.judged; near = x.device; far = e.far })
          (rw (one_of_set w.set) at (program_comes requester w.draw e.keeper.id (key_set w.set) lane
          (lane_key plan w.draw (key_number Host lane)) e.near small lt (knows.keys makes Host lane lt))))
      by_turn (pair_puts Device lane lt makes is_n ends is) =
          let key = at.keys makes Device lane lt (omega (arith, is_n)) in
          rw (ends, is, key, ← (lane_refused n e at makes Device lane lt is_n), one_of_set w.set)
          (ap (λ x. record { judged = x.judged; near = e.near; far = x.device })
          (rw (one_of_set w.set) at (program_comes requester w.draw e.keeper.id (key_set w.set) lane
          (lane_key plan w.draw (key_number Device lane)) e.far small lt (knows.keys makes Device lane lt))))
      by_turn (pair_goes Host lane lt makes is_n ends is) =
          let free : denial ports w line id n ≡ None = rw is_n
          (pair_go_refused ports w.operation w.set line id knows.line makes Host lane lt) in
          let low = put_below Host Host lane lane lt in
          let full : is_empty (pair_slot (lane_pair lane e.near) w.set) ≡ false =
          ap is_empty (slot_seen (lane_sends lane) (lane_slots lane e.near) w.set)
          ∙ at.ready makes Host lane lt (omega (arith, is_n, low)) (omega (arith, is_n)) in
          rw (ends, is, free) (ap (λ x. record { judged = x.judged; near = x.device; far = e.far })
          (go_comes requester w.draw e.keeper.id (key_set w.set) lane e.near small lt (rw (one_of_set w.set) full)))
      by_turn (pair_goes Device lane lt makes is_n ends is) =
          let free : denial ports w line id n ≡ None = rw is_n
          (pair_go_refused ports w.operation w.set line id knows.line makes Device lane lt) in
          let low = put_below Device Device lane lane lt in
          let full : is_empty (pair_slot (lane_pair lane e.far) w.set) ≡ false =
          ap is_empty (slot_seen (lane_sends lane) (lane_slots lane e.far) w.set)
          ∙ at.ready makes Device lane lt (omega (arith, is_n, low)) (omega (arith, is_n)) in
          rw (ends, is, free) (ap (λ x. record { judged = x.judged; near = e.near; far = x.device })
          (go_comes requester w.draw e.keeper.id (key_set w.set) lane e.far small lt (rw (one_of_set w.set) full)))
      by_turn (pair_stops Host k lane lt is_o ends is) =
          let free : denial ports w line id n ≡ None = λ i. refusal_at ports (is_o i) w.set line id n in
          rw (ends, is, free) (ap (λ x. record { judged = x.judged; near = x.device; far = e.far })
          (stop_comes_there requester w.draw e.keeper.id k lane e.near small lt))
      by_turn (pair_stops Device k lane lt is_o ends is) =
          let free : denial ports w line id n ≡ None = λ i. refusal_at ports (is_o i) w.set line id n in
          rw (ends, is, free) (ap (λ x. record { judged = x.judged; near = e.near; far = x.device })
          (stop_comes_there requester w.draw e.keeper.id k lane e.far small lt))

  -- ---- the exchange was acknowledged

  next_fresh : (n : ℕ) (e : PairStreams) → IsPairNext plan w id before n e → 1 ≤ n
      → n ≤ last_exchange_of false w.operation → makes_draw w.operation ≡ true
      → (side : Side) (lane : ℕ) → lane < 6 → n + 1 ≤ put_at side lane
      → lane_slots lane (all_called (told_call plan false side w n) (state_at side e))
      ≡ lane_slots lane (state_at side before)
  next_fresh n e at least most makes side lane lt le = fresh_after plan w n least most makes side lane lt
      (state_at side e) le ∙ at.fresh makes side lane lt (omega (arith, le))

  next_ready : (n : ℕ) (e : PairStreams) → IsPairNext plan w id before n e → 1 ≤ n
      → n ≤ last_exchange_of false w.operation → denial ports w line id n ≡ None → makes_draw w.operation ≡ true
      → (side : Side) (lane : ℕ) → lane < 6 → put_at side lane < n + 1 → n + 1 ≤ goes_at side lane
      → IsFull (slot_in_set (lane_slots lane (all_called (told_call plan false side w n) (state_at side e))) w.set)
  next_ready n e at least most free makes side lane lt past le =
      ready_after plan w n least most makes side lane lt (state_at side e) past le
      (λ same. sym (is_refusal (is_only_live (lane_pair lane (state_at side e)) w.set))
      ∙ ap is_some (lane_refused n e at makes side lane lt same ∙ free))
      (λ behind. at.ready makes side lane lt behind (omega (arith, le)))

  next_keys : (n : ℕ) (e : PairStreams) → IsPairNext plan w id before n e → 1 ≤ n
      → n < last_exchange_of false w.operation → makes_draw w.operation ≡ true
      → HasPairKeys plan w.draw (n + 1) (stream_acknowledged false (asked_of w n) e.keeper).keys
  next_keys n e at least less makes side lane lt le =
      rw (different-false n (last_exchange_of false w.operation) less)
      (kept_turn w.operation (key_set w.set) n side lane e.keeper.keys lt le
      (pair_turn w.operation (key_set w.set) n least (omega (arith, less)))
      ∙ at.keys makes side lane lt (omega (arith, le)))

  -- an end after it
  end_after : (n : ℕ) (e : PairStreams) (side : Side) → all_called (told_call plan false side w n) (state_at side e)
      ≡ state_at side (pair_after (asked_of w n) (carried_both n None e) e)
  end_after n e Host = refl
  end_after n e Device = refl

  pub pair_next_is : (n : ℕ) (e : PairStreams) → IsPairNext plan w id before n e → 1 ≤ n
      → n < last_exchange_of false w.operation → denial ports w line id n ≡ None
      → IsPairNext plan w id before (n + 1) (pair_after (asked_of w n) (carried_both n None e) e)
  pair_next_is n e at least less free =
      let most : n ≤ last_exchange_of false w.operation = omega (arith, less) in
      record {
        op_is = pair_standing w n less;
        id_is = at.id_is;
        keys = next_keys n e at least less;
        fresh = λ makes side lane lt le. rw (← end_after n e side) (next_fresh n e at least most makes side lane lt le);
        ready = λ makes side lane lt past le. rw (← end_after n e side)
            (next_ready n e at least most free makes side lane lt past le);
      }
