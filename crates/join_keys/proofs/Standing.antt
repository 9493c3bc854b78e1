-- What is known of a stream that stands for a history.
use Rattle.join_keys.proofs.Terms.{◌≡◌, Bool, arith, true, SubKind, ℕ, List, Plan, false, nat_tests, place_at_end}
use Rattle.join_keys.proofs.Terms.{LaneSlots, ◌∙◌, sym, Host, slot_pair, StreamState, refl, ap, SubStream}
use Rattle.join_keys.proofs.Terms.{WaitsBesideLive, Pr, Npr, Cpl, Some, subst, ◌≢◌, port_at, slots_at, at_sub, LaneSlot}
use Rattle.join_keys.proofs.Terms.{Live, lane_out, lane_in, IsSound, ReadsStream, DrawsApart, ◌||◌, History, moments}
use Rattle.join_keys.proofs.Terms.{key_plan, slot_in_set, Armed, LinkState, find, ports_of, machine_status, refuses_at}
use Rattle.join_keys.proofs.Terms.{refusal_if, Option, is_live_at, status_there, Side, live_set, is_set, HostSeesPorts}
use Rattle.join_keys.proofs.Terms.{tx_slots, rx_slots, StreamsAndPacketsStand, kept_is, host_of, Keys, Shape, keys_of}
use Rattle.join_keys.proofs.Terms.{key_cause}
use Rattle.machine_operations.specs.{stream_state_due}
use Rattle.ide_types.specs.declared.port.PortName.{PortName}
use Rattle.spec_keys.proofs.Whole.{fits}
use Rattle.spec_links.specs.History.{SealedList, sealed_packets, port_keys, has_live_out, has_live_in}
use Rattle.spec_links.specs.Cause.{CauseLaw}
use Rattle.machine_operations.proofs.{facts, keys_out, InOrder, in_order, failed_live}
use Rattle.spec_stream.specs.Slots.{is_live_slot}
use Rattle.machine_operations.proofs.SlotTouches.{live_in_is, live_out_is}
use Rattle.join_keys.proofs.Settling.{outs, ins, any_of, settle}

-- ---- the slots of a sender

-- at most one is Live, and a key waits only beside a Live one
abbrev may_stand : LaneSlot → LaneSlot → Bool
may_stand (Live x) (Live y) = false
may_stand (Armed j key) b = is_live_slot b
may_stand a (Armed j key) = is_live_slot a
may_stand a b = true

tx_may : (plan : Plan) (xs : SealedList) (s : SubStream) (sh : Shape) → InOrder sh
    → may_stand (tx_slots plan xs s (keys_of sh)).first (tx_slots plan xs s (keys_of sh)).second ≡ true
tx_may plan xs s sh lt = grind (arith, nat_tests)

apart_of : (s : LaneSlots) → may_stand s.first s.second ≡ true → DrawsApart s
apart_of s may x y e f = grind arith

waits_of : (s : LaneSlots) → may_stand s.first s.second ≡ true → WaitsBesideLive s
waits_of s may k draw key e = grind arith

-- ---- the slots of a receiver

rx_never : (plan : Plan) (h : History) (port : PortName) (s : SubStream) (keys : Keys) (k : Bool) (draw : ℕ)
    (key : List ℕ)
    → slot_in_set (rx_slots plan h port s keys) k ≢ Armed draw key
rx_never plan h port s keys k draw key e = grind arith

rx_apart : (plan : Plan) (h : History) → CauseLaw plan h → (port : PortName) (s : SubStream)
    → DrawsApart (rx_slots plan h port s (port_keys h port s))
rx_apart plan h law port s x y e f same =
    let differ = (facts plan).apart h law port s x.draw y.draw in grind (arith, nat_tests)

-- ---- a stream

module _ (plan : Plan) (h : History) (law : CauseLaw plan h) (side : Side) (line stream : ℕ) where
  tx_slots_are : (u : SubKind) → let port = port_at side line in
      (at_sub (stream_state_due plan h port stream).tx u).slots
      ≡ tx_slots plan (sealed_packets plan h) (lane_out port stream u) (port_keys h port (lane_out port stream u))
  unfolding stream_state_due
  tx_slots_are u = grind arith

  rx_slots_are : (u : SubKind) → let port = port_at side line in
      (at_sub (stream_state_due plan h port stream).rx u).slots
      ≡ rx_slots plan h port (lane_in port stream u) (port_keys h port (lane_in port stream u))
  unfolding stream_state_due
  rx_slots_are u = grind arith

  sender_may : (u : SubKind) → let s = (at_sub (stream_state_due plan h (port_at side line) stream).tx u).slots in
      may_stand
      s.first s.second ≡ true
  sender_may u =
      let port = port_at side line in
      let s = lane_out port stream u in
      let place = place_at_end line stream true side u in
      let at = fits (key_plan plan) h (key_cause plan h law) place in
      let are : port_keys h port s ≡ keys_of at.shape = keys_out h port stream u ∙ at.is.are in
      subst (λ (x : LaneSlots). may_stand x.first x.second ≡ true)
      (sym (tx_slots_are u ∙ ap (tx_slots plan (sealed_packets plan h) s) are))
      (tx_may plan (sealed_packets plan h) s at.shape (in_order true (moments h place) at.shape at.is.sound))

  draws_apart : (sends : Bool) (u : SubKind) → DrawsApart
      (slots_at sends u (stream_state_due plan h (port_at side line) stream))
  draws_apart true u = apart_of (at_sub (stream_state_due plan h (port_at side line) stream).tx u).slots (sender_may u)
  draws_apart false u = subst DrawsApart (sym (rx_slots_are u))
      (rx_apart plan h law (port_at side line) (lane_in (port_at side line) stream u))

  never_armed : (u : SubKind) (k : Bool) (draw : ℕ) (key : List ℕ)
      → slot_in_set (at_sub (stream_state_due plan h (port_at side line) stream).rx u).slots k ≢ Armed draw key
  never_armed u k draw key = rw (rx_slots_are u)
      (rx_never plan h (port_at side line) (lane_in (port_at side line) stream u) _ k draw key)

-- counts are those of directions with a Live key
out_is : (plan : Plan) (h : History) (port : PortName) (stream : ℕ)
    → any_of (outs (stream_state_due plan h port stream)) ≡ has_live_out h port stream
unfolding stream_state_due has_live_out
out_is plan h port stream =
    let live = λ (u : SubKind). live_out_is plan (sealed_packets plan h) (lane_out port stream u)
    (port_keys h port (lane_out port stream u)) in
    λ i. live Pr i || live Npr i || live Cpl i

into_is : (plan : Plan) (h : History) (port : PortName) (stream : ℕ)
    → any_of (ins (stream_state_due plan h port stream)) ≡ has_live_in h port stream
unfolding stream_state_due has_live_in
into_is plan h port stream =
    let live = λ (u : SubKind). live_in_is plan h port (lane_in port stream u)
    (port_keys h port (lane_in port stream u))
    in
    λ i. live Pr i || live Npr i || live Cpl i

settled_standing : (plan : Plan) (h : History) (port : PortName) (stream : ℕ)
    → settle (stream_state_due plan h port stream) ≡ stream_state_due plan h port stream
unfolding stream_state_due
settled_standing plan h port stream = rw (out_is plan h port stream, into_is plan h port stream)
    (let live = failed_live plan h port stream in grind arith)

pub is_sound : (plan : Plan) (st : LinkState) (h : History) → StreamsAndPacketsStand plan st h
    → (side : Side) (line stream : ℕ) (x : StreamState) → find plan st (port_at side line) stream ≡ Some x → IsSound x
is_sound plan st h stands side line stream x found =
    let port = port_at side line in
    let is = kept_is plan st h port stream x stands found in
    subst IsSound (sym is.same) (record {
      settled = settled_standing plan h port stream;
      apart = draws_apart plan h stands.cause side line stream;
      waits = λ u. waits_of (at_sub (stream_state_due plan h port stream).tx u).slots
          (sender_may plan h stands.cause side line stream u);
      none_waits = never_armed plan h stands.cause side line stream;
    })

-- ---- what operations read of it

pub reads_stream : (plan : Plan) (st : LinkState) (side : Side) (line stream : ℕ) (x : StreamState)
    → find plan st (port_at side line) stream ≡ Some x → ReadsStream (ports_of plan st) side line stream x
reads_stream plan st side line stream x found sends u k = ap
    (λ (y : Option StreamState). refusal_if (refuses_at sends u k y))
    found

-- the set that is shown is the Live one
by_first : (set : Bool) (s : LaneSlots) → may_stand s.first s.second ≡ true → is_set set (live_set (slot_pair true s))
    ≡ is_live_slot (slot_in_set s set)
by_first set s may = grind arith

pub host_read : (plan : Plan) (st : LinkState) (h : History) → StreamsAndPacketsStand plan st h
    → (line stream : ℕ) (x : StreamState) → find plan st (port_at Host line) stream ≡ Some x → (draws : ℕ)
    → HostSeesPorts (key_plan plan) (ports_of plan st) line stream (machine_status plan st Host line stream)
    (host_of x)
    (record { keys = plan.pool; draws = draws })
host_read plan st h stands line stream x found draws =
    let is = kept_is plan st h (port_at Host line) stream x stands found in
    record {
      pool_is = refl;
      status_is = ap Some (sym (ap status_there found));
      live_is = λ set u.
          let may = subst (λ (y : StreamState). may_stand (at_sub y.tx u).slots.first (at_sub y.tx u).slots.second
          ≡ true) (sym is.same) (sender_may plan h stands.cause Host line stream u) in
          by_first set (at_sub x.tx u).slots may ∙ sym (ap (is_live_at true u set) found);
    }
