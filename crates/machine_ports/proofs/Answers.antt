-- The answer of the machine to a packet is the one that is due. On a stream that has not failed, the receivers that
-- stand for the history have a Live slot exactly if the set's draw is On, with the units got and the packets held under
-- it, so that each check in turn sees what the history says. Their counts are the history's only while the stream has a
-- Live key, which a draw that is On provides.
use Rattle.machine_ports.specs.Stands.{beside_at}
use Rattle.machine_ports.proofs.Terms.{◌≡◌, ℕ, ◌+◌, Bool, true, false, List, [], ◌∷◌, ◌++◌, Option, Some, None, Ok, Err}
use Rattle.machine_ports.proofs.Terms.{option_map, refl, ap, sym, ◌∙◌, subst, arith, if◌then◌else◌, not, ◌||◌, Accepted}
use Rattle.machine_ports.proofs.Terms.{at_sub, base, outcome_of_checks, Cpl, each_sub, effects_of, Failed, has_failed}
use Rattle.machine_ports.proofs.Terms.{ahead_of_unit, got_in, has_live_in, Held, History, holds_any, Insecure}
use Rattle.machine_ports.proofs.Terms.{is_allowed, is_closed, is_keyed, is_mixed, is_on, is_overfull, is_tagged}
use Rattle.machine_ports.proofs.Terms.{is_verified, key_in, key_of, Keys, port_keys, lane_in, live_in, LiveKey}
use Rattle.machine_ports.proofs.Terms.{meets_counts, aggregation_of, NotKeyed, Npr, on_draw, on_in, Packet}
use Rattle.machine_ports.proofs.Terms.{pending_packets, Plan, PortName, Pr, receiving_sub_stream, rx_slots}
use Rattle.machine_ports.proofs.Terms.{rx_state_due, RxSub, ending_due, slot_in_set, LaneSlots, stream_state_due}
use Rattle.machine_ports.proofs.Terms.{SubKind, SubStream, sum_by-append, PacketOutcome, stream_outcome}
use Rattle.machine_ports.proofs.Terms.{stream_outcome_by_keys, Three, under_keys, next_unit_name, units_got}
use Rattle.machine_ports.proofs.Terms.{units_since, Verdict, verdict_of_taken}
use Rattle.ide_types.specs.declared.sub.FailCause.TheVariants as fail
use Rattle.event_verdicts.specs.declared.verdict.Verdict.TheVariants as v

pub at_each : {A : Type 0} → (f : SubKind → A) (u : SubKind) → at_sub (each_sub f) u ≡ f u
at_each f Pr = refl
at_each f Npr = refl
at_each f Cpl = refl

pub any_of : (f : SubKind → Bool) (u : SubKind) → f u ≡ true → (f Pr || f Npr || f Cpl) ≡ true
any_of f u is = grind arith

pub any_on : (k : Bool) (ks : Keys) (j : ℕ) → on_in (key_in ks k) ≡ Some j → (is_on ks.first || is_on ks.second) ≡ true
any_on k ks j on = grind arith

-- a port with a key of a sub-stream that it receives has a Live key on the stream
pub keyed_in : (plan : Plan) (h : History) (port : PortName) (stream : ℕ) (u : SubKind)
    → is_keyed h port (lane_in port stream u) ≡ true → has_live_in h port stream ≡ true
unfolding has_live_in
keyed_in plan h port stream u keyed = any_of (λ w. is_keyed h port (lane_in port stream w)) u keyed

-- one that is On in a set is enough
pub on_live : (plan : Plan) (h : History) (port : PortName) (stream : ℕ) (u : SubKind) (k : Bool) (j : ℕ)
    → on_draw h port (lane_in port stream u) k ≡ Some j → has_live_in h port stream ≡ true
on_live plan h port stream u k j on = keyed_in plan h port stream u
    (any_on k (port_keys h port (lane_in port stream u)) j on)

-- ---- the keys of a receiver

-- the key of a draw, with what is held under it
abbrev pub key_for : Plan → History → SubStream → ℕ → LiveKey
key_for plan h s j = record
    { draw = j; key = key_of plan j s; units = units_got h s j; packets = pending_packets plan h s j }

live_of : (plan : Plan) (h : History) (port : PortName) (s : SubStream) (ks : Keys) (k : Bool)
    → has_failed h port s.stream ≡ false
    → live_in (slot_in_set (rx_slots plan h port s ks) k) ≡ option_map (key_for plan h s) (on_in (key_in ks k))
live_of plan h port s ks k secure = grind arith

pub live_is : (plan : Plan) (h : History) (port : PortName) (s : SubStream) (k : Bool) → has_failed h port s.stream
    ≡ false
    → live_in (slot_in_set (rx_slots plan h port s (port_keys h port s)) k)
    ≡ option_map (key_for plan h s) (on_draw h port s k)
live_is plan h port s k secure = live_of plan h port s (port_keys h port s) k secure

-- ---- the checks

-- the receivers that stand for a history
abbrev receivers : Plan → History → PortName → ℕ → Three RxSub
receivers plan h port stream = each_sub (λ u. rx_state_due plan h port (lane_in port stream u))

-- what the machine makes of a packet there, under the draws of its set and of the other one
abbrev taken_from : Plan → History → PortName → Packet → Option ℕ → Option ℕ → PacketOutcome
taken_from plan h port p o other =
    stream_outcome_by_keys (aggregation_of plan port.line p.prefix.stream) (is_closed plan port.line p.prefix.stream)
    (receivers plan h port p.prefix.stream) p
    (option_map (key_for plan h (receiving_sub_stream port p)) o)
    (option_map (key_for plan h (receiving_sub_stream port p)) other)

allowed_is : (plan : Plan) (h : History) (port : PortName) (stream : ℕ) (u : SubKind) (unit : List Packet)
    → has_live_in h port stream ≡ true
    → is_allowed (receivers plan h port stream) u unit ≡ meets_counts plan h (lane_in port stream u) unit
unfolding meets_counts
allowed_is plan h port stream u unit live =
    rw (
      at_each (λ (u : SubKind). rx_state_due plan h port (lane_in port stream u)) u,
      live,
      sum_by-append (λ (p : Packet). p.prefix.posted) (got_in plan h (lane_in port stream u)) unit,
    ) refl

total_is : (plan : Plan) (h : History) (port : PortName) (stream : ℕ) (u : SubKind) → has_live_in h port stream ≡ true
    → (at_sub (receivers plan h port stream) u).total ≡ units_since h (lane_in port stream u) (base h port.line stream)
total_is plan h port stream u live = rw
    (at_each (λ (u : SubKind). rx_state_due plan h port (lane_in port stream u)) u, live) refl

taken_is : (plan : Plan) (h : History) (port : PortName) (p : Packet) (o other : Option ℕ)
    → ((j : ℕ) → o ≡ Some j → has_live_in h port p.prefix.stream ≡ true)
    → verdict_of_taken (beside_at plan h) port p (taken_from plan h port p o other)
    ≡ ending_due plan h port (under_keys plan h port p o other)
unfolding is_verified ahead_of_unit
taken_is plan h port p None None live = refl
taken_is plan h port p None (Some i) live = refl
taken_is plan h port p (Some j) other live =
    let unit = pending_packets plan h s j ++ p ∷ [] in
    rw (
      holds other,
      allowed_is plan h port p.prefix.stream p.prefix.sub unit (live j refl),
      total_is plan h port
          p.prefix.stream p.prefix.sub (live j refl),
    )
    (by_room (is_mixed plan h s other || is_overfull plan h s j p.prefix.m) p.prefix.m)
  where
    s : SubStream
    s = receiving_sub_stream port p

    holds : (o : Option ℕ) → holds_any (option_map (key_for plan h s) o) ≡ is_mixed plan h s o
    holds None = refl
    holds (Some i) = refl

    by_checks : (verified counts : Bool) → verdict_of_taken (beside_at plan h) port p
        (outcome_of_checks verified counts (key_for plan h s j) p)
        ≡ (if not verified then v.Fail port p.prefix.stream p.prefix.sub fail.Tag else if not counts then v.Fail port
        p.prefix.stream p.prefix.sub fail.Order
        else v.Accepted port (next_unit_name h s j)
        (effects_of plan h port (next_unit_name h s j) (pending_packets plan h s j ++ p ∷ [])))
    by_checks verified counts = grind arith

    by_room : (full m : Bool) → verdict_of_taken (beside_at plan h) port p (if full then Failed fail.Unit
        else if m then outcome_of_checks
        (is_tagged (is_closed plan port.line p.prefix.stream) (units_since h s (base h port.line p.prefix.stream))
        (key_for plan h s j) p)
        (meets_counts plan h s (pending_packets plan h s j ++ p ∷ [])) (key_for plan h s j) p else Held j
        (units_got h s j + 1))
        ≡ ending_due plan h port (if full then Err (v.Fail port p.prefix.stream p.prefix.sub fail.Unit)
        else if m then Ok (record { packet = p; unit = next_unit_name h s j })
        else Err (v.Held port (next_unit_name h s j)))
    by_room true m = refl
    by_room false false = refl
    by_room false true = by_checks
        (is_tagged (is_closed plan port.line p.prefix.stream) (units_since h s (base h port.line p.prefix.stream))
        (key_for plan h s j) p)
        (meets_counts plan h s (pending_packets plan h s j ++ p ∷ []))

-- what is due of a packet of a stream that the port has
abbrev pub packet_due : Plan → History → PortName → Packet → Verdict
packet_due plan h port p =
    ending_due plan h port (if has_failed h port p.prefix.stream then Err (v.Insecure port p.prefix.stream)
    else under_keys plan h port p (on_draw h port (receiving_sub_stream port p) p.prefix.k)
    (on_draw h port (receiving_sub_stream port p) (not p.prefix.k)))

-- what the machine finds in the receivers that stand for the history
abbrev found_keys : Plan → History → PortName → Packet → PacketOutcome
found_keys plan h port p = taken_from plan h port p (on_draw h port (receiving_sub_stream port p) p.prefix.k)
    (on_draw h port (receiving_sub_stream port p) (not p.prefix.k))

-- the answer of the machine
abbrev pub taken_at : Plan → History → PortName → Packet → PacketOutcome
taken_at plan h port p = stream_outcome (aggregation_of plan port.line p.prefix.stream)
    (is_closed plan port.line p.prefix.stream)
    (stream_state_due plan h port p.prefix.stream) p

taken_by_is : (plan : Plan) (h : History) (port : PortName) (p : Packet)
    → taken_at plan h port p ≡ (if has_failed h port p.prefix.stream then Insecure else found_keys plan h port p)
unfolding stream_state_due
taken_by_is plan h port p = by_failure (has_failed h port p.prefix.stream) refl
  where
    rx : SubKind → RxSub
    rx = λ w. rx_state_due plan h port (lane_in port p.prefix.stream w)

    under : LaneSlots → PacketOutcome
    under slots =
        stream_outcome_by_keys (aggregation_of plan port.line p.prefix.stream)
        (is_closed plan port.line p.prefix.stream)
        (each_sub rx) p
        (live_in (slot_in_set slots p.prefix.k)) (live_in (slot_in_set slots (not p.prefix.k)))

    by_failure : (b : Bool) → has_failed h port p.prefix.stream ≡ b
        → (if b then Insecure else under (at_sub (each_sub rx) p.prefix.sub).slots)
        ≡ (if b then Insecure else found_keys plan h port p)
    by_failure true bad = refl
    by_failure false secure =
        ap (λ (r : RxSub). under r.slots) (at_each rx p.prefix.sub)
        ∙ (λ i. stream_outcome_by_keys (aggregation_of plan port.line p.prefix.stream)
        (is_closed plan port.line p.prefix.stream)
        (each_sub rx) p
        (live_is plan h port (receiving_sub_stream port p) p.prefix.k secure i)
        (live_is plan h port (receiving_sub_stream port p) (not p.prefix.k) secure i))

pub answer_is : (plan : Plan) (h : History) (port : PortName) (p : Packet)
    → verdict_of_taken (beside_at plan h) port p (taken_at plan h port p) ≡ packet_due plan h port p
answer_is plan h port p = ap (verdict_of_taken (beside_at plan h) port p) (taken_by_is plan h port p) ∙ by_failure
    (has_failed h port p.prefix.stream)
  where
    draw : Bool → Option ℕ
    draw k = on_draw h port (receiving_sub_stream port p) k

    by_failure : (b : Bool) → verdict_of_taken (beside_at plan h) port p
        (if b then Insecure else found_keys plan h port p)
        ≡ ending_due plan h port
        (if b then Err (v.Insecure port p.prefix.stream) else under_keys plan h port p (draw p.prefix.k)
        (draw (not p.prefix.k)))
    by_failure true = refl
    by_failure false = taken_is plan h port p (draw p.prefix.k) (draw (not p.prefix.k))
        (on_live plan h port p.prefix.stream p.prefix.sub p.prefix.k)

-- ---- what an answer says

abbrev pub Says : Plan → History → PortName → Packet → PacketOutcome → Type 0
Says plan h port p Insecure = Unit {0}
Says plan h port p NotKeyed = Unit {0}
Says plan h port p (Failed cause) = has_live_in h port p.prefix.stream ≡ true
Says plan h port p (Held j n) =
    let s = receiving_sub_stream port p in
    (has_failed h port p.prefix.stream ≡ false) × (on_draw h port s p.prefix.k ≡ Some j) × (n ≡ units_got h s j + 1)
Says plan h port p (Accepted j n unit) =
    let s = receiving_sub_stream port p in
    (has_failed h port p.prefix.stream ≡ false) × (on_draw h port s p.prefix.k ≡ Some j) × (n ≡ units_got h s j + 1)
    × (unit ≡ pending_packets plan h s j ++ p ∷ [])

says_under : (plan : Plan) (h : History) (port : PortName) (p : Packet) → has_failed h port p.prefix.stream ≡ false
    → (o other : Option ℕ) → on_draw h port (receiving_sub_stream port p) p.prefix.k ≡ o
    → on_draw h port (receiving_sub_stream port p) (not p.prefix.k) ≡ other
    → Says plan h port p (taken_from plan h port p o other)
says_under plan h port p secure None None on rest = tt
says_under plan h port p secure None (Some i) on rest = on_live plan h port p.prefix.stream p.prefix.sub
    (not p.prefix.k) i rest
says_under plan h port p secure (Some j) other on rest =
    by_room _ p.prefix.m (is_tagged (is_closed plan port.line p.prefix.stream)
    (at_sub (receivers plan h port p.prefix.stream) p.prefix.sub).total
    (key_for plan h s j) p)
    (is_allowed (receivers plan h port p.prefix.stream) p.prefix.sub (pending_packets plan h s j ++ p ∷ []))
  where
    s : SubStream
    s = receiving_sub_stream port p

    live : has_live_in h port p.prefix.stream ≡ true
    live = on_live plan h port p.prefix.stream p.prefix.sub p.prefix.k j on

    by_room : (full m tagged allowed : Bool)
        → Says plan h port p (if full then Failed fail.Unit else if m then outcome_of_checks tagged allowed
        (key_for plan h s j) p
        else Held j (units_got h s j + 1))
    by_room true m tagged allowed = live
    by_room false false tagged allowed = (secure, on, refl)
    by_room false true false allowed = live
    by_room false true true false = live
    by_room false true true true = (secure, on, refl, refl)

pub says : (plan : Plan) (h : History) (port : PortName) (p : Packet) → Says plan h port p (taken_at plan h port p)
says plan h port p = subst (Says plan h port p) (sym (taken_by_is plan h port p))
    (by_failure (has_failed h port p.prefix.stream) refl)
  where
    by_failure : (b : Bool) → has_failed h port p.prefix.stream ≡ b
        → Says plan h port p (if b then Insecure else found_keys plan h port p)
    by_failure true bad = tt
    by_failure false secure = says_under plan h port p secure (on_draw h port (receiving_sub_stream port p) p.prefix.k)
        (on_draw h port (receiving_sub_stream port p) (not p.prefix.k)) refl refl
