-- The state after an answer stands for the history with it. A failure drops what is held in each sub-stream; a packet
-- that is held changes the slot of its key set alone, as the other set has another draw. The hard case is an accepted
-- unit: it is counted from Base on, a smaller draw in the other set ends, and nothing stays held, since nothing is ever
-- held for a unit beyond the next.
use Rattle.machine_ports.proofs.Terms.{◌≡◌, ℕ, ◌+◌, ◌==◌, Bool, true, false, List, [], ◌∷◌, ◌++◌, length, Some, refl}
use Rattle.machine_ports.proofs.Terms.{ap, sym, ◌∙◌, arith, length-append, not, ◌||◌, nat_lt, nat_le, Accepted}
use Rattle.machine_ports.proofs.Terms.{accepted_keys, accepted_slots, accepted_sub, arrived_packet, at_sub, base}
use Rattle.machine_ports.proofs.Terms.{CauseLaw, counted_unit, Cpl, slot_without_packets, dropped_held, each_sub}
use Rattle.machine_ports.proofs.Terms.{eqb-refl, eqb-sym, Event, Failed, has_failed, fails_at, gone_on, got_in}
use Rattle.machine_ports.proofs.Terms.{got_since, has_live_in, has_live_out, Held, packets_in_hold, held_in, held_sub}
use Rattle.machine_ports.proofs.Terms.{History, is_received_under, is_same, is_same-refl, is_same_port-refl, key_in}
use Rattle.machine_ports.proofs.Terms.{Keyed, KeyFacts, Keys, port_keys, lane_in, Loaded, nat_tests, Npr, Off, On}
use Rattle.machine_ports.proofs.Terms.{on_draw, on_in, operates, Packet, pending_packets, Plan, PortName, posted_sum}
use Rattle.machine_ports.proofs.Terms.{Pr, receiving_sub_stream, slot_unless_older, rx_slot, rx_slots, rx_state_due}
use Rattle.machine_ports.proofs.Terms.{RxSub, set_sub, slot_in_set, stream_state_due, state_after, sub_bits, SubKind}
use Rattle.machine_ports.proofs.Terms.{SubStream, sum_by-append, unit_name, UnitName, units_got, units_since}
use Rattle.machine_ports.proofs.Terms.{unless_below, Verdict, with_slot}
use Rattle.event_verdicts.specs.declared.verdict.Verdict.TheVariants as v
use Rattle.ide_types.specs.declared.sub.FailCause.{FailCause}
use Rattle.event_verdicts.specs.declared.verdict.Effect.{Effect}
use Rattle.machine_ports.proofs.Frames.{seals_at, accepts_in, holds_in, each_same, rx_is, slots_is, stream_is, tx_frame}
use Rattle.machine_ports.proofs.Frames.{rx_frame, rx_with, rx_slot_same, units_same, held_same, live_in, failed_more}
use Rattle.machine_ports.proofs.Frames.{failed_same}
use Rattle.machine_ports.proofs.Answers.{at_each, on_live}
use Rattle.law_key_facts.proofs.Beyond.{none_beyond}

-- one sub-stream of three is new
pub one_new : {A : Type 0} → (f g : SubKind → A) (u : SubKind) (x : A) → f u ≡ x
    → ((w : SubKind) → (sub_bits u == sub_bits w) ≡ false → f w ≡ g w) → each_sub f ≡ set_sub (each_sub g) u x
one_new f g Pr x here others = λ i. record { pr = here i; npr = others Npr refl i; cpl = others Cpl refl i }
one_new f g Npr x here others = λ i. record { pr = others Pr refl i; npr = here i; cpl = others Cpl refl i }
one_new f g Cpl x here others = λ i. record { pr = others Pr refl i; npr = others Npr refl i; cpl = here i }

other_lane : (port : PortName) (stream : ℕ) (u w : SubKind) → (sub_bits u == sub_bits w) ≡ false
    → is_same (lane_in port stream u) (lane_in port stream w) ≡ false
other_lane port stream u w other = grind (arith, nat_tests)

-- the receivers after a packet that one sub-stream of the stream took
taken_one : (plan : Plan) → KeyFacts plan → (h : History) (e : Event) (w : Verdict) → CauseLaw plan ((e, w) ∷ h)
    → (port : PortName) (stream : ℕ)
    → operates e port.line stream ≡ false → (u : SubKind) (made : RxSub → RxSub) → seals_at port stream w ≡ false
    → fails_at port stream w ≡ false
    → ((s : SubStream) → is_same (lane_in port stream u) s ≡ false → (accepts_in s w ≡ false) × (holds_in s w ≡ false))
    → rx_state_due plan ((e, w) ∷ h) port (lane_in port stream u)
    ≡ made (rx_state_due plan h port (lane_in port stream u))
    → let old = stream_state_due plan h port stream in record old { rx = set_sub old.rx u (made (at_sub old.rx u)) }
    ≡ stream_state_due plan ((e, w) ∷ h) port stream
unfolding stream_state_due
taken_one plan facts h e w law port stream still u made unsealed secure none own =
    let rx : SubKind → RxSub = λ x. rx_state_due plan h port (lane_in port stream x) in
    sym (stream_is _ _ (each_same _ _ (λ x. tx_frame plan facts h e w law port stream still x unsealed))
    (one_new _ rx u _ (own ∙ ap made (sym (at_each rx u)))
    (λ x other. let off = none (lane_in port stream x) (other_lane port stream u x other) in
    rx_frame plan facts h e w law port stream still x off.0 off.1 secure))
    (failed_same plan facts h e w law port stream still secure))

-- ---- a failure

drops : (plan : Plan) (g h : History) (port : PortName) (s : SubStream) (a : Keyed) → has_failed g port s.stream ≡ true
    → ((j : ℕ) → units_got g s j ≡ units_got h s j) → rx_slot plan g port s a
    ≡ slot_without_packets (rx_slot plan h port s a)
drops plan g h port s Off bad units = refl
drops plan g h port s (Loaded j) bad units = refl
drops plan g h port s (On j) bad units = rw (bad, units j) refl

or_true : (b : Bool) → (b || true) ≡ true
or_true b = grind arith

pub after_failure : (plan : Plan) → KeyFacts plan → (h : History) (e : Event) (port : PortName) (p : Packet)
    (cause : FailCause)
    → let stream = p.prefix.stream in let g = (e, v.Fail port stream p.prefix.sub cause) ∷ h in
    CauseLaw plan g → operates e port.line stream ≡ false → has_live_in h port stream ≡ true
    → state_after (stream_state_due plan h port stream) p (Failed cause) ≡ stream_state_due plan g port stream
unfolding stream_state_due
after_failure plan facts h e port p cause law still live =
    let stream = p.prefix.stream in
    let w = v.Fail port stream p.prefix.sub cause in
    let g = (e, w) ∷ h in
    let bad : has_failed g port stream ≡ true =
    failed_more plan facts h e w law port stream still ∙ rw (is_same_port-refl port, eqb-refl stream, live)
    (or_true (has_live_out h port stream)) in
    let each : (u : SubKind) → rx_state_due plan g port (lane_in port stream u)
    ≡ dropped_held (rx_state_due plan h port (lane_in port stream u)) =
    λ u. let s = lane_in port stream u in
    let drop : (a : Keyed) → rx_slot plan g port s a ≡ slot_without_packets (rx_slot plan h port s a) = λ a. drops plan
    g h port s a
    bad (λ j. units_same h e w s j refl) in
    rx_with plan facts h e w law port stream still u refl _
    (ap (rx_slots plan g port s) (facts.steady h e w law refl port s still) ∙ slots_is _ _
    (drop (port_keys h port s).first) (drop (port_keys h port s).second)) in
    sym (stream_is _ _ (each_same _ _ (λ u. tx_frame plan facts h e w law port stream still u refl))
    (λ i. record { pr = each Pr i; npr = each Npr i; cpl = each Cpl i }) bad)

-- ---- the set of a draw, and the other

on_is : (a : Keyed) (j : ℕ) → on_in a ≡ Some j → a ≡ On j
on_is a j on = grind arith

-- the set with the draw holds it, and the other holds another
abbrev AreApart : Keys → Bool → ℕ → Type 0
AreApart keys k j = (key_in keys k ≡ On j) × ((i : ℕ) → key_in keys (not k) ≡ On i → (j == i) ≡ false)

are_apart : (plan : Plan) → KeyFacts plan → (h : History) → CauseLaw plan h
    → (port : PortName) (s : SubStream) (k : Bool) (j : ℕ) → on_draw h port s k ≡ Some j
    → AreApart (port_keys h port s) k j
are_apart plan facts h law port s true j on =
    (on_is _ j on, λ i other. eqb-sym j i ∙ facts.apart h law port s i j other (on_is _ j on))
are_apart plan facts h law port s false j on =
    (on_is _ j on, λ i other. facts.apart h law port s j i (on_is _ j on) other)

abbrev unit_of : ℕ → SubKind → ℕ → ℕ → UnitName
unit_of stream u j n = record { stream = stream; sub = u; draw = j; unit = n }

of_it : (port : PortName) (stream : ℕ) (u : SubKind) (j n : ℕ)
    → is_received_under (lane_in port stream u) j port (unit_of stream u j n) ≡ true
of_it port stream u j n = rw (is_same-refl (lane_in port stream u), eqb-refl j) refl

not_of_it : (port : PortName) (stream : ℕ) (u : SubKind) (i j n : ℕ) → (j == i) ≡ false
    → is_received_under (lane_in port stream u) i port (unit_of stream u j n) ≡ false
not_of_it port stream u i j n other = rw (is_same-refl (lane_in port stream u), other) refl

-- ---- a held packet

held_more : (plan : Plan) (h : History) (e : Event) (port : PortName) (stream : ℕ) (u : SubKind) (j n : ℕ)
    → packets_in_hold plan ((e, v.Held port (unit_of stream u j n)) ∷ h) (lane_in port stream u) j n
    ≡ packets_in_hold plan h (lane_in port stream u) j n ++ arrived_packet plan h e ∷ []
unfolding packets_in_hold
held_more plan h e port stream u j n = rw (of_it port stream u j n, eqb-refl n) refl

held_other : (plan : Plan) (h : History) (e : Event) (port : PortName) (stream : ℕ) (u : SubKind) (j n i m : ℕ)
    → (j == i) ≡ false → packets_in_hold plan ((e, v.Held port (unit_of stream u j n)) ∷ h) (lane_in port stream u) i m
    ≡ packets_in_hold plan h (lane_in port stream u) i m
unfolding packets_in_hold
held_other plan h e port stream u j n i m other = rw (not_of_it port stream u i j n other) refl

-- what is known of a packet that was held, or that ended a unit
pub record Next (plan : Plan) (h : History) (e : Event) (w : Verdict) (port : PortName) (p : Packet) (j n : ℕ) : Type 0
  where
    pub law : CauseLaw plan ((e, w) ∷ h)
    pub still : operates e port.line p.prefix.stream ≡ false
    pub secure : has_failed h port p.prefix.stream ≡ false
    pub on : on_draw h port (receiving_sub_stream port p) p.prefix.k ≡ Some j
    pub next : n ≡ units_got h (receiving_sub_stream port p) j + 1
    pub came : arrived_packet plan h e ≡ p

module _ (plan : Plan) (facts : KeyFacts plan) (h : History) (e : Event) (port : PortName) (p : Packet) (j n : ℕ)
    (is : Next plan h e (v.Held port (unit_name p j n)) port p j n) where
  fails_as_held : let w = v.Held port (unit_name p j n) in has_failed ((e, w) ∷ h) port p.prefix.stream
      ≡ has_failed h port p.prefix.stream
  fails_as_held = failed_same plan facts h e (v.Held port (unit_name p j n)) is.law port p.prefix.stream is.still refl

  held_slot : (a : Keyed) → a ≡ On j → let s = receiving_sub_stream port p in
      rx_slot plan ((e, v.Held port (unit_name p j n)) ∷ h) port s a ≡ gone_on p (rx_slot plan h port s a)
  held_slot a on =
      let w = v.Held port (unit_name p j n) in
      let g = (e, w) ∷ h in
      let s = receiving_sub_stream port p in
      let secure : has_failed g port p.prefix.stream ≡ false = fails_as_held ∙ is.secure in
      let more : pending_packets plan g s j ≡ pending_packets plan h s j ++ p ∷ [] =
      ap (held_in plan g s j) (ap (λ (m : ℕ). m + 1) (units_same h e w s j refl) ∙ sym is.next)
      ∙ (held_more plan h e port p.prefix.stream p.prefix.sub j n ∙
      (λ i. held_in plan h s j (is.next i) ++ is.came i ∷ [])) in
      rw (on, secure, is.secure, more, units_same h e w s j refl) refl

  held_other_slot : (a : Keyed) → ((i : ℕ) → a ≡ On i → (j == i) ≡ false) → let s = receiving_sub_stream port p in
      rx_slot plan ((e, v.Held port (unit_name p j n)) ∷ h) port s a ≡ rx_slot plan h port s a
  held_other_slot a apart =
      let w = v.Held port (unit_name p j n) in
      let s = receiving_sub_stream port p in
      rx_slot_same plan ((e, w) ∷ h) h port s a
      (λ i on. (
        fails_as_held,
        units_same h e w s i refl,
        λ m. held_other plan h e port p.prefix.stream p.prefix.sub j n
            i m (apart i on),
      ))

  held_slots : (k : Bool) → let s = receiving_sub_stream port p in AreApart (port_keys h port s) k j
      → let old = rx_slots plan h port s (port_keys h port s) in
      rx_slots plan ((e, v.Held port (unit_name p j n)) ∷ h) port s (port_keys h port s)
      ≡ with_slot old k (gone_on p (slot_in_set old k))
  held_slots true are = slots_is _ _ (held_other_slot _ are.1) (held_slot _ are.0)
  held_slots false are = slots_is _ _ (held_slot _ are.0) (held_other_slot _ are.1)

  pub after_held : let stream = p.prefix.stream in
      state_after (stream_state_due plan h port stream) p (Held j n)
      ≡ stream_state_due plan ((e, v.Held port (unit_name p j n)) ∷ h)
      port stream
  after_held =
      let stream = p.prefix.stream in
      let w = v.Held port (unit_name p j n) in
      let s = receiving_sub_stream port p in
      taken_one plan facts h e w is.law port stream is.still p.prefix.sub (held_sub p.prefix.k p) refl refl
      (λ s other. (refl, other))
      (rx_with plan facts h e w is.law port stream is.still p.prefix.sub refl _
      (ap (rx_slots plan ((e, w) ∷ h) port s) (facts.steady h e w is.law refl port s is.still)
      ∙ held_slots p.prefix.k (are_apart plan facts h is.law.1 port s p.prefix.k j is.on)))

-- ---- an accepted unit

units_accepted : (h : History) (e : Event) (port : PortName) (stream : ℕ) (u : SubKind) (j n : ℕ)
    (effects : List Effect)
    → units_got ((e, v.Accepted port (unit_of stream u j n) effects) ∷ h) (lane_in port stream u) j
    ≡ units_got h (lane_in port stream u) j + 1
unfolding units_got
units_accepted h e port stream u j n effects = rw (of_it port stream u j n) refl

units_other : (h : History) (e : Event) (port : PortName) (stream : ℕ) (u : SubKind) (j n : ℕ) (effects : List Effect)
    (i : ℕ) → (j == i) ≡ false
    → units_got ((e, v.Accepted port (unit_of stream u j n) effects) ∷ h) (lane_in port stream u) i
    ≡ units_got h (lane_in port stream u) i
unfolding units_got
units_other h e port stream u j n effects i other = rw (not_of_it port stream u i j n other) refl

got_more : (plan : Plan) (h : History) (e : Event) (port : PortName) (stream : ℕ) (u : SubKind) (j n : ℕ)
    (effects : List Effect) (from : ℕ) → nat_le from j ≡ true
    → let s = lane_in port stream u in
    got_since plan ((e, v.Accepted port (unit_of stream u j n) effects) ∷ h) s from ≡ got_since plan h s from ++
    (packets_in_hold plan h s j n ++ arrived_packet plan h e ∷ [])
unfolding got_since
got_more plan h e port stream u j n effects from least = rw (is_same-refl (lane_in port stream u), least) refl

since_more : (h : History) (e : Event) (port : PortName) (stream : ℕ) (u : SubKind) (j n : ℕ) (effects : List Effect)
    (from : ℕ) → nat_le from j ≡ true
    → let s = lane_in port stream u in units_since ((e, v.Accepted port (unit_of stream u j n) effects) ∷ h) s from
    ≡ units_since h s from + 1
unfolding units_since
since_more h e port stream u j n effects from least = rw (is_same-refl (lane_in port stream u), least) refl

retired_is : (plan : Plan) (g : History) (port : PortName) (s : SubStream) (j : ℕ) (a : Keyed)
    → rx_slot plan g port s (unless_below j a) ≡ slot_unless_older j (rx_slot plan g port s a)
retired_is plan g port s j a = grind arith

module _ (plan : Plan) (facts : KeyFacts plan) (h : History) (e : Event) (port : PortName) (p : Packet) (j n : ℕ)
    (effects : List Effect)
    (is : Next plan h e (v.Accepted port (unit_name p j n) effects) port p j n) where
  fails_as_got : let w = v.Accepted port (unit_name p j n) effects in has_failed ((e, w) ∷ h) port p.prefix.stream
      ≡ has_failed h port p.prefix.stream
  fails_as_got = failed_same plan facts h e (v.Accepted port (unit_name p j n) effects) is.law port p.prefix.stream
      is.still refl

  got_slot : (a : Keyed) → a ≡ On j → let s = receiving_sub_stream port p in
      rx_slot plan ((e, v.Accepted port (unit_name p j n) effects) ∷ h) port s (unless_below j a)
      ≡ counted_unit (rx_slot plan h port s a)
  got_slot a on =
      let w = v.Accepted port (unit_name p j n) effects in
      let g = (e, w) ∷ h in
      let s = receiving_sub_stream port p in
      let secure : has_failed g port p.prefix.stream ≡ false = fails_as_got ∙ is.secure in
      let units : units_got g s j ≡ units_got h s j + 1 = units_accepted h e port p.prefix.stream p.prefix.sub j n
      effects in
      let none : pending_packets plan g s j ≡ [] =
      held_same plan h e w s j (units_got g s j + 1) refl ∙ none_beyond plan h is.law.1 s j (units_got g s j + 1)
      (omega (arith, units)) in
      let not_less : nat_lt j j ≡ false = grind (arith, nat_tests) in
      rw (on, not_less, secure, none, units) refl

  got_other_slot : (a : Keyed) → ((i : ℕ) → a ≡ On i → (j == i) ≡ false) → let s = receiving_sub_stream port p in
      rx_slot plan ((e, v.Accepted port (unit_name p j n) effects) ∷ h) port s (unless_below j a)
      ≡ slot_unless_older j (rx_slot plan h port s a)
  got_other_slot a apart =
      let w = v.Accepted port (unit_name p j n) effects in
      let s = receiving_sub_stream port p in
      retired_is plan ((e, w) ∷ h) port s j a ∙ ap (slot_unless_older j) (rx_slot_same plan ((e, w) ∷ h) h port s a
      (λ i on. (
        fails_as_got,
        units_other h e port p.prefix.stream p.prefix.sub j n effects i (apart i on),
        λ m.
            held_same plan h e w s i m refl,
      )))

  got_slots : (k : Bool) → let s = receiving_sub_stream port p in AreApart (port_keys h port s) k j
      → rx_slots plan ((e, v.Accepted port (unit_name p j n) effects) ∷ h) port s (accepted_keys j (port_keys h port s))
      ≡ accepted_slots j k (rx_slots plan h port s (port_keys h port s))
  got_slots true are = slots_is _ _ (got_other_slot _ are.1) (got_slot _ are.0)
  got_slots false are = slots_is _ _ (got_slot _ are.0) (got_other_slot _ are.1)

  got_lane : let s = receiving_sub_stream port p in rx_state_due plan
      ((e, v.Accepted port (unit_name p j n) effects) ∷ h) port s
      ≡ accepted_sub j p.prefix.k (pending_packets plan h s j ++ p ∷ []) (rx_state_due plan h port s)
  got_lane =
      let w = v.Accepted port (unit_name p j n) effects in
      let g = (e, w) ∷ h in
      let s = receiving_sub_stream port p in
      let stream = p.prefix.stream in
      let unit = pending_packets plan h s j ++ p ∷ [] in
      let are = are_apart plan facts h is.law.1 port s p.prefix.k j is.on in
      let from = base h port.line stream in
      let least = facts.from_base h is.law.1 port s p.prefix.k j are.0 in
      let based = facts.base_same h e w is.law port.line stream is.still in
      let keys : port_keys g port s ≡ accepted_keys j (port_keys h port s) =
      facts.accepted h e port (unit_name p j n) effects is.law port s ∙ rw (is_same_port-refl port, is_same-refl s) refl
      in
      let got : got_in plan g s ≡ got_in plan h s ++ unit =
      ap (got_since plan g s) based ∙ (got_more plan h e port stream p.prefix.sub j n effects from least
      ∙ (λ i. got_in plan h s ++ (held_in plan h s j (is.next i) ++ is.came i ∷ []))) in
      let since : units_since g s (base g port.line stream) ≡ units_since h s from + 1 =
      ap (units_since g s) based ∙ since_more h e port stream p.prefix.sub j n effects from least in
      let live = on_live plan h port stream p.prefix.sub p.prefix.k j is.on in
      let now = live_in plan facts h e w is.law port stream is.still ∙ live in
      rx_is _ _ (ap (rx_slots plan g port s) keys ∙ got_slots p.prefix.k are)
      (rw (now, live) (ap posted_sum got ∙ sum_by-append (λ (q : Packet). q.prefix.posted) (got_in plan h s) unit))
      (rw (now, live) (ap length got ∙ length-append (got_in plan h s) unit)) (rw (now, live) since)

  pub after_accepted : let stream = p.prefix.stream in
      state_after (stream_state_due plan h port stream) p
      (Accepted j n (pending_packets plan h (receiving_sub_stream port p) j ++ p ∷ []))
      ≡ stream_state_due plan ((e, v.Accepted port (unit_name p j n) effects) ∷ h) port stream
  after_accepted =
      taken_one plan facts h e (v.Accepted port (unit_name p j n) effects) is.law port p.prefix.stream is.still
      p.prefix.sub
      (accepted_sub j p.prefix.k (pending_packets plan h (receiving_sub_stream port p) j ++ p ∷ [])) refl refl
      (λ s other. (other, refl))
      got_lane
