-- A stream at a port stands for a history with an operation, after the touches of its slots.
use Rattle.machine_operations.proofs.Terms.{◌≡◌, ℕ, Bool, true, false, List, ◌∷◌, length, ap, sym, ◌∙◌, arith}
use Rattle.machine_operations.proofs.Terms.{if◌then◌else◌, ◌&&◌, ◌||◌, accepts_in, any_live, any_on, base, Cpl}
use Rattle.machine_operations.proofs.Terms.{each_sub, Event, has_failed, failed_next, fails_at, got_in, got_same}
use Rattle.machine_operations.proofs.Terms.{got_since, has_live_key, has_live_in, has_live_out, held_same, History}
use Rattle.machine_operations.proofs.Terms.{holds_in, is_keyed, is_quiet, key_in, keyed_in, port_keys, lane_in}
use Rattle.machine_operations.proofs.Terms.{lane_out, Npr, on_in, HasOperated, OperationStands, Plan, PortName}
use Rattle.machine_operations.proofs.Terms.{posted_count, posted_since_last, posted_sum, Pr, quiet_seals_none, rx_slot}
use Rattle.machine_operations.proofs.Terms.{rx_slot_same, rx_slots, rx_state_due, RxSub, sealed_packets, sealed_same}
use Rattle.machine_operations.proofs.Terms.{rested_stream, since_same, LaneSlots, slots_is, slots_touched}
use Rattle.machine_operations.proofs.Terms.{stream_state_due, SubKind, SubStream, total_in, Touch, touched_stream}
use Rattle.machine_operations.proofs.Terms.{tx_slots, tx_state_due, TxSub, units_same, units_since, Verdict}
use Rattle.machine_operations.proofs.Terms.{AllowsIncoming, AllowsOutgoing, busy_in, key_touched_in, key_touched_out}
use Rattle.machine_operations.proofs.SlotTouches.{all_touched, touched_in, touched_out, live_in_is, live_out_is}

-- ---- quiet verdicts

fails_nothing : (w : Verdict) → is_quiet w ≡ true → (port : PortName) (stream : ℕ) → fails_at port stream w ≡ false
fails_nothing w none port stream = grind arith

pub takes_nothing : (w : Verdict) → is_quiet w ≡ true → (s : SubStream) → (accepts_in s w ≡ false)
    × (holds_in s w ≡ false)
takes_nothing w none s = grind arith

pub failed_quiet : (plan : Plan) (h : History) (e : Event) (w : Verdict) → is_quiet w ≡ true
    → (port : PortName) (stream : ℕ) → has_failed ((e, w) ∷ h) port stream
    ≡ (has_failed h port stream && has_live_key ((e, w) ∷ h) port stream)
failed_quiet plan h e w none port stream = failed_next h e w port stream ∙ ap
    (λ (b : Bool). (b || has_failed h port stream) && has_live_key ((e, w) ∷ h) port stream)
    (fails_nothing w none port stream)

-- ---- counts

-- a count that goes on while a direction is Live, and begins at 0
counts_on : (before now : Bool) (m n : ℕ) → (before ≡ true → now ≡ true → m ≡ n) → (before ≡ false → now ≡ true → n ≡ 0)
    → (if now then (if before then m else 0) else 0) ≡ (if now then n else 0)
counts_on before now m n goes begins = grind (arith, goes, begins)

-- ---- slots

and_live : (a b : Bool) → (a && (b || true)) ≡ a
and_live a b = grind arith

-- if a draw is On, what failed before still does
failed_on : (plan : Plan) (h : History) (e : Event) (w : Verdict) → is_quiet w ≡ true
    → (port : PortName) (stream : ℕ) (u : SubKind) → is_keyed ((e, w) ∷ h) port (lane_in port stream u) ≡ true
    → has_failed ((e, w) ∷ h) port stream ≡ has_failed h port stream
failed_on plan h e w none port stream u keyed = failed_quiet plan h e w none port stream ∙ rw
    (keyed_in plan ((e, w) ∷ h) port stream u keyed)
    (and_live (has_failed h port stream) (has_live_out ((e, w) ∷ h) port stream))

-- ---- the stream

abbrev live_of : (SubKind → LaneSlots) → Bool
live_of slots = any_live (slots Pr) || any_live (slots Npr) || any_live (slots Cpl)

outs_live : (plan : Plan) (h g : History) (port : PortName) (stream : ℕ)
    → live_of (λ u. tx_slots plan (sealed_packets plan g) (lane_out port stream u)
    (port_keys g port (lane_out port stream u))) ≡ has_live_out g port stream
unfolding has_live_out
outs_live plan h g port stream = let one = λ (u : SubKind). live_out_is plan (sealed_packets plan g)
    (lane_out port stream u) (port_keys g port (lane_out port stream u)) in λ i. one Pr i || one Npr i || one Cpl i

ins_live : (plan : Plan) (h g : History) (port : PortName) (stream : ℕ)
    → live_of (λ u. rx_slots plan g port (lane_in port stream u) (port_keys g port (lane_in port stream u)))
    ≡ has_live_in g port stream
unfolding has_live_in
ins_live plan h g port stream = let one = λ (u : SubKind). live_in_is plan g port (lane_in port stream u)
    (port_keys g port (lane_in port stream u)) in λ i. one Pr i || one Npr i || one Cpl i

tx_touched : (plan : Plan) (h : History) (e : Event) (w : Verdict) (port : PortName) (stream : ℕ)
    (out into : SubKind → List Touch) → HasOperated plan h e w port stream out into → (u : SubKind)
    → let s = lane_out port stream u in
    slots_touched true plan s (out u) (tx_slots plan (sealed_packets plan h) s (port_keys h port s))
    ≡ tx_slots plan (sealed_packets plan ((e, w) ∷ h)) s (port_keys ((e, w) ∷ h) port s)
tx_touched plan h e w port stream out into is u =
    let s = lane_out port stream u in
    let xs = sealed_packets plan h in
    let now = port_keys ((e, w) ∷ h) port s in
    all_touched true plan s (AllowsOutgoing plan xs s) (key_touched_out (busy_in xs s)) (tx_slots plan xs s)
    (touched_out plan xs s) (out u) (port_keys h port s) now (is.lead_out u)
    ∙ (λ i. tx_slots plan (sym (sealed_same plan h e w (quiet_seals_none w is.quiet)) i) s now)

rx_touched : (plan : Plan) (h : History) (e : Event) (w : Verdict) (port : PortName) (stream : ℕ)
    (out into : SubKind → List Touch) → HasOperated plan h e w port stream out into → (u : SubKind)
    → let s = lane_in port stream u in
    slots_touched false plan s (into u) (rx_slots plan h port s (port_keys h port s))
    ≡ rx_slots plan ((e, w) ∷ h) port s (port_keys ((e, w) ∷ h) port s)
rx_touched plan h e w port stream out into is u =
    let g = (e, w) ∷ h in
    let s = lane_in port stream u in
    let keys = port_keys g port s in
    let none = takes_nothing w is.quiet s in
    let still : (k : Bool) → rx_slot plan g port s (key_in keys k) ≡ rx_slot plan h port s (key_in keys k) =
    λ k. rx_slot_same plan g h port s (key_in keys k) (λ j on. (
      failed_on plan h e w is.quiet port stream u
          (any_on k keys j (ap on_in on)),
      units_same h e w s j none.0,
      λ n. held_same plan h e w s j n none.1,
    )) in
    all_touched false plan s (AllowsIncoming plan h port s) key_touched_in (rx_slots plan h port s)
    (touched_in plan h port s) (into u) (port_keys h port s) keys (is.lead_into u)
    ∙ sym (slots_is _ _ (still false) (still true))

-- the senders and receivers with their new slots, and the counts as they were
abbrev tx_new : Plan → History → History → PortName → ℕ → SubKind → TxSub
tx_new plan h g port stream u = record {
  slots = tx_slots plan (sealed_packets plan g) (lane_out port stream u) (port_keys g port (lane_out port stream u));
  posted = if has_live_out h port stream then posted_count plan h (lane_out port stream u) else 0;
  total = if has_live_out h port stream then total_in (sealed_packets plan h) (lane_out port stream u)
      (base h port.line stream) else 0;
}

abbrev rx_new : Plan → History → History → PortName → ℕ → SubKind → RxSub
rx_new plan h g port stream u = record {
  slots = rx_slots plan g port (lane_in port stream u) (port_keys g port (lane_in port stream u));
  sum = if has_live_in h port stream then posted_sum (got_in plan h (lane_in port stream u)) else 0;
  got = if has_live_in h port stream then length (got_in plan h (lane_in port stream u)) else 0;
  total = if has_live_in h port stream then units_since h (lane_in port stream u) (base h port.line stream) else 0;
}

slots_new : (plan : Plan) (h : History) (e : Event) (w : Verdict) (port : PortName) (stream : ℕ)
    (out into : SubKind → List Touch) → HasOperated plan h e w port stream out into
    → touched_stream plan port stream out into (stream_state_due plan h port stream)
    ≡ rested_stream (each_sub (tx_new plan h ((e, w) ∷ h) port stream))
    (each_sub (rx_new plan h ((e, w) ∷ h) port stream)) (has_failed h port stream)
unfolding stream_state_due
slots_new plan h e w port stream out into is =
    let g = (e, w) ∷ h in
    λ i. rested_stream (each_sub
    (λ u. record (tx_new plan h g port stream u) { slots = tx_touched plan h e w port stream out into is u i }))
    (each_sub (λ u. record (rx_new plan h g port stream u)
    { slots = rx_touched plan h e w port stream out into is u i }))
    (has_failed h port stream)

settled_is : (plan : Plan) (h : History) (e : Event) (w : Verdict) (port : PortName) (stream : ℕ)
    (out into : SubKind → List Touch) → HasOperated plan h e w port stream out into
    → rested_stream (each_sub (tx_new plan h ((e, w) ∷ h) port stream))
    (each_sub (rx_new plan h ((e, w) ∷ h) port stream)) (has_failed h port stream)
    ≡ stream_state_due plan ((e, w) ∷ h) port stream
unfolding stream_state_due
settled_is plan h e w port stream out into is =
    let g = (e, w) ∷ h in
    let outs = outs_live plan h g port stream in
    let ins = ins_live plan h g port stream in
    let xs = sealed_same plan h e w (quiet_seals_none w is.quiet) in
    let sends = counts_on (has_live_out h port stream) (has_live_out g port stream) in
    let receives = counts_on (has_live_in h port stream) (has_live_in g port stream) in
    let got : (u : SubKind) → has_live_in h port stream ≡ true → has_live_in g port stream ≡ true → let s
    = lane_in port stream u in got_in plan h s ≡ got_in plan g s =
    λ u before now. let s = lane_in port stream u in
    sym (ap (got_since plan g s) (is.base_into before now) ∙ got_same plan h e w s (base h port.line stream)
    (takes_nothing w is.quiet s).0) in
    let units : (u : SubKind) → has_live_in h port stream ≡ true → has_live_in g port stream ≡ true
    → let s = lane_in port stream u in
    units_since h s (base h port.line stream) ≡ units_since g s (base g port.line stream) =
    λ u before now. let s = lane_in port stream u in
    sym (ap (units_since g s) (is.base_into before now) ∙ since_same h e w s (base h port.line stream)
    (takes_nothing w is.quiet s).0) in
    let posted = λ (u : SubKind). let s = lane_out port stream u in
    (λ i. if outs i then (tx_new plan h g port stream u).posted else 0)
    ∙ sends (posted_count plan h s) (posted_count plan g s)
    (λ before now i. posted_since_last (sym xs i) s (sym (is.base_out before now) i))
    (λ before now. is.none_out before now u) in
    let total = λ (u : SubKind). let s = lane_out port stream u in
    (λ i. if outs i then (tx_new plan h g port stream u).total else 0)
    ∙ sends (total_in (sealed_packets plan h) s (base h port.line stream))
    (total_in (sealed_packets plan g) s (base g port.line stream))
    (λ before now i. total_in (sym xs i) s (sym (is.base_out before now) i))
    (λ before now. is.no_units_out before now u) in
    let sum = λ (u : SubKind). let s = lane_in port stream u in
    (λ i. if ins i then (rx_new plan h g port stream u).sum else 0)
    ∙ receives (posted_sum (got_in plan h s)) (posted_sum (got_in plan g s))
    (λ before now. ap posted_sum (got u before now))
    (λ before now. ap posted_sum (is.none_into before now u)) in
    let lengths = λ (u : SubKind). let s = lane_in port stream u in
    (λ i. if ins i then (rx_new plan h g port stream u).got else 0)
    ∙ receives (length (got_in plan h s)) (length (got_in plan g s)) (λ before now. ap length (got u before now))
    (λ before now. ap length (is.none_into before now u)) in
    let since = λ (u : SubKind). let s = lane_in port stream u in
    (λ i. if ins i then (rx_new plan h g port stream u).total else 0)
    ∙ receives (units_since h s (base h port.line stream)) (units_since g s (base g port.line stream)) (units u)
    (λ before now. is.no_units_into before now u) in
    let fails = (λ i. has_failed h port stream && (outs i || ins i))
    ∙ sym (failed_quiet plan h e w is.quiet port stream) in
    λ i. record {
      tx = each_sub (λ u. record (tx_state_due plan g port (lane_out port stream u))
          { posted = posted u i; total = total u i });
      rx = each_sub (λ u. record (rx_state_due plan g port (lane_in port stream u))
          { sum = sum u i; got = lengths u i; total = since u i });
      failed = fails i;
    }

-- The touches of an operation leave what stands for the history with it.
pub manager_after_operation : OperationStands
manager_after_operation plan h e w port stream out into is = slots_new plan h e w port stream out into is ∙ settled_is
    plan h e w port
    stream out into is
