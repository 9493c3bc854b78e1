-- What a pair leaves as it was at a port and stream: all of it, if the event is no operation on the stream and the
-- verdict tells of no packet that the port sealed, held, accepted or failed there. It goes part by part: keys and Base
-- stay by `KeyFacts`; what was sealed, got and held stays by the verdict; a failure stays since the stream still has a
-- Live key. Senders and receivers are put together from these parts.
use Rattle.machine_ports.proofs.Terms.{◌≡◌, ℕ, ◌==◌, Bool, true, false, List, [], ◌∷◌, length, refl, ap, sym, ◌∙◌}
use Rattle.machine_ports.proofs.Terms.{subst, arith, if◌then◌else◌, ◌&&◌, ◌||◌, after_ends, ahead_of_packet, any_out}
use Rattle.machine_ports.proofs.Terms.{base, CauseLaw, Cpl, each_sub, ends_port_unit, Event, has_failed, failed_there}
use Rattle.machine_ports.proofs.Terms.{fails_at, got_in, got_since, has_live_key, has_live_in, has_live_out}
use Rattle.machine_ports.proofs.Terms.{packets_in_hold, History, is_out, is_same, is_same_port, Keyed, KeyFacts, Keys}
use Rattle.machine_ports.proofs.Terms.{port_keys, lane_in, lane_out, Loaded, nat_tests, not_here, Npr, Off, On}
use Rattle.machine_ports.proofs.Terms.{operates, Plan, PortName, posted_elsewhere, posted_since_last, posted_sum, Pr}
use Rattle.machine_ports.proofs.Terms.{received_in, rx_slot, rx_slots, rx_state_due, RxSub, same_in, sealed_packets}
use Rattle.machine_ports.proofs.Terms.{SealedList, SealedPacket, sent_elsewhere, sub_stream_packets, LaneSlots}
use Rattle.machine_ports.proofs.Terms.{stream_state_due, StreamState, sub_stream_of, SubKind, SubStream}
use Rattle.machine_ports.proofs.Terms.{total_elsewhere, total_in, tx_slot, tx_slots, tx_state_due, TxSub, UnitName}
use Rattle.machine_ports.proofs.Terms.{units, units_got, units_since, Verdict, with_sealed}
use Rattle.event_verdicts.specs.declared.verdict.Verdict.TheVariants as v
use Rattle.spec_links.specs.History.{sent_bytes}
use Rattle.law_key_facts.proofs.Failures.{failed_next}

-- the verdict tells of packets that the port sealed on the stream
abbrev pub seals_at : PortName → ℕ → Verdict → Bool
seals_at port stream (v.Sealed ds) = any_out port stream ds
seals_at port stream _ = false

-- it tells of a packet that the port held, accepted or failed on the stream
abbrev pub takes_at : PortName → ℕ → Verdict → Bool
takes_at port stream (v.Fail p s sub cause) = is_same_port p port && (s == stream)
takes_at port stream (v.Held p unit) = is_same_port p port && (unit.stream == stream)
takes_at port stream (v.Accepted p unit effects) = is_same_port p port && (unit.stream == stream)
takes_at port stream _ = false

-- it tells of a unit that was accepted in the sub-stream, or of a packet that was held there
abbrev pub accepts_in : SubStream → Verdict → Bool
accepts_in s (v.Accepted p unit effects) = is_same (received_in p unit) s
accepts_in s _ = false

abbrev pub holds_in : SubStream → Verdict → Bool
holds_in s (v.Held p unit) = is_same (received_in p unit) s
holds_in s _ = false

-- ---- records whose parts are all the same

pub each_same : {A : Type 0} → (f g : SubKind → A) → ((u : SubKind) → f u ≡ g u) → each_sub f ≡ each_sub g
each_same f g same = λ i. record { pr = same Pr i; npr = same Npr i; cpl = same Cpl i }

pub tx_is : (a b : TxSub) → a.slots ≡ b.slots → a.posted ≡ b.posted → a.total ≡ b.total → a ≡ b
tx_is a b slots posted total = λ i. record { slots = slots i; posted = posted i; total = total i }

pub rx_is : (a b : RxSub) → a.slots ≡ b.slots → a.sum ≡ b.sum → a.got ≡ b.got → a.total ≡ b.total → a ≡ b
rx_is a b slots sum got total = λ i. record { slots = slots i; sum = sum i; got = got i; total = total i }

pub slots_is : (a b : LaneSlots) → a.first ≡ b.first → a.second ≡ b.second → a ≡ b
slots_is a b first second = λ i. record { first = first i; second = second i }

pub stream_is : (a b : StreamState) → a.tx ≡ b.tx → a.rx ≡ b.rx → a.failed ≡ b.failed → a ≡ b
stream_is a b tx rx failed = λ i. record { tx = tx i; rx = rx i; failed = failed i }

pub if_same : (b c : Bool) (m n : ℕ) → b ≡ c → m ≡ n → (if b then m else 0) ≡ (if c then n else 0)
if_same b c m n p q = λ i. if p i then q i else 0

-- ---- keys

no_ends : (port : PortName) (s : SubStream) (ds : List SealedPacket) (keys : Keys)
    → ((d : SealedPacket) → (is_same_port d.port port && is_same (sub_stream_of d) s) ≡ false)
    → after_ends port s ds keys ≡ keys
no_ends port s [] keys none = refl
no_ends port s (d ∷ ds) keys none = let here : ends_port_unit port s d
    ≡ false = grind (arith, none d) in rw here (no_ends port s ds keys none)

no_ends_out : (port : PortName) (stream : ℕ) (u : SubKind) (ds : List SealedPacket) (keys : Keys)
    → any_out port stream ds ≡ false → after_ends port (lane_out port stream u) ds keys ≡ keys
no_ends_out port stream u [] keys none = refl
no_ends_out port stream u (d ∷ ds) keys none =
    let here : is_out port stream d ≡ false = grind arith in
    let other : ends_port_unit port (lane_out port stream u) d ≡ false = grind (arith, not_here port stream u d here) in
    rw other (no_ends_out port stream u ds keys (grind arith))

if_none : (b c : Bool) (x y : Keys) → c ≡ false → (if b && c then x else y) ≡ y
if_none b c x y none = grind arith

-- what a port seals, it does not receive
never_in : (port : PortName) (stream : ℕ) (u : SubKind) (d : SealedPacket)
    → (is_same_port d.port port && is_same (sub_stream_of d) (lane_in port stream u)) ≡ false
never_in port stream u d = grind (arith, nat_tests)

never_out : (p port : PortName) (stream : ℕ) (u : SubKind) (unit : UnitName)
    → (is_same_port p port && is_same (received_in p unit) (lane_out port stream u)) ≡ false
never_out p port stream u unit = grind (arith, nat_tests)

received_elsewhere : (p port : PortName) (stream : ℕ) (u : SubKind) (unit : UnitName)
    → (is_same_port p port && (unit.stream == stream)) ≡ false
    → is_same (received_in p unit) (lane_in port stream u) ≡ false
received_elsewhere p port stream u unit other = let same = same_in p.side port.side in grind (arith, nat_tests, same)

keys_out : (plan : Plan) → KeyFacts plan → (h : History) (e : Event) (w : Verdict) → CauseLaw plan ((e, w) ∷ h)
    → (port : PortName) (stream : ℕ)
    → operates e port.line stream ≡ false → (u : SubKind) → seals_at port stream w ≡ false
    → port_keys ((e, w) ∷ h) port (lane_out port stream u) ≡ port_keys h port (lane_out port stream u)
keys_out plan facts h e (v.Sealed ds) cause port stream still u none = facts.sealed h e ds cause port
    (lane_out port stream u) ∙ no_ends_out port stream u ds _ none
keys_out plan facts h e (v.Accepted p unit effects) cause port stream still u none = facts.accepted h e p unit effects
    cause port (lane_out port stream u) ∙ rw (never_out p port stream u unit) refl
keys_out plan facts h e w cause port stream still u none = facts.steady h e w cause refl port (lane_out port stream u)
    still

keys_in : (plan : Plan) → KeyFacts plan → (h : History) (e : Event) (w : Verdict) → CauseLaw plan ((e, w) ∷ h)
    → (port : PortName) (stream : ℕ)
    → operates e port.line stream ≡ false → (u : SubKind) → accepts_in (lane_in port stream u) w ≡ false
    → port_keys ((e, w) ∷ h) port (lane_in port stream u) ≡ port_keys h port (lane_in port stream u)
keys_in plan facts h e (v.Sealed ds) cause port stream still u none = facts.sealed h e ds cause port
    (lane_in port stream u) ∙ no_ends port (lane_in port stream u) ds _ (never_in port stream u)
keys_in plan facts h e (v.Accepted p unit effects) cause port stream still u none = facts.accepted h e p unit effects
    cause port (lane_in port stream u)
    ∙ if_none (is_same_port p port) _ _ _ none
keys_in plan facts h e w cause port stream still u none = facts.steady h e w cause refl port (lane_in port stream u)
    still

-- ---- what was sealed

-- what is read of the list of sealed packets is the same, if packets that the port did not seal on the stream leave it
sealed_elsewhere : {A : Type 0} (plan : Plan) (h : History) (e : Event) (w : Verdict) (port : PortName) (stream : ℕ)
    (f : SealedList → A)
    → seals_at port stream w ≡ false → ((bytes : List ℕ) (ds : List SealedPacket) → any_out port stream ds ≡ false
    → f (with_sealed plan (ahead_of_packet plan (sealed_packets plan h) (base h)) bytes ds (sealed_packets plan h))
    ≡ f (sealed_packets plan h))
    → f (sealed_packets plan ((e, w) ∷ h)) ≡ f (sealed_packets plan h)
unfolding sealed_packets
sealed_elsewhere plan h e (v.Sealed ds) port stream f none same = same (sent_bytes plan h e) ds none
sealed_elsewhere plan h _ _ port stream f none same = refl

tx_slot_same : (plan : Plan) (xs ys : SealedList) (s : SubStream) (k : Bool) (a b : Keyed)
    → ((j : ℕ) → sub_stream_packets xs s j ≡ sub_stream_packets ys s j) → tx_slot plan xs s k a b
    ≡ tx_slot plan ys s k a b
tx_slot_same plan xs ys s k Off b same = refl
tx_slot_same plan xs ys s k (Loaded j) b same = refl
tx_slot_same plan xs ys s k (On j) b same = rw (same j) refl

pub tx_slots_same : (plan : Plan) (xs ys : SealedList) (s : SubStream) (keys : Keys)
    → ((j : ℕ) → sub_stream_packets xs s j ≡ sub_stream_packets ys s j) → tx_slots plan xs s keys
    ≡ tx_slots plan ys s keys
tx_slots_same plan xs ys s keys same = slots_is _ _ (tx_slot_same plan xs ys s false keys.first keys.second same)
    (tx_slot_same plan xs ys s true keys.second keys.first same)

-- ---- what was received

pub units_same : (h : History) (e : Event) (w : Verdict) (s : SubStream) (j : ℕ) → accepts_in s w ≡ false
    → units_got ((e, w) ∷ h) s j ≡ units_got h s j
unfolding units_got
units_same h e w s j none = grind arith

pub held_same : (plan : Plan) (h : History) (e : Event) (w : Verdict) (s : SubStream) (j n : ℕ) → holds_in s w ≡ false
    → packets_in_hold plan ((e, w) ∷ h) s j n ≡ packets_in_hold plan h s j n
unfolding packets_in_hold
held_same plan h e w s j n none = grind arith

pub got_same : (plan : Plan) (h : History) (e : Event) (w : Verdict) (s : SubStream) (from : ℕ) → accepts_in s w ≡ false
    → got_since plan ((e, w) ∷ h) s from ≡ got_since plan h s from
unfolding got_since
got_same plan h e w s from none = grind arith

pub since_same : (h : History) (e : Event) (w : Verdict) (s : SubStream) (from : ℕ) → accepts_in s w ≡ false
    → units_since ((e, w) ∷ h) s from ≡ units_since h s from
unfolding units_since
since_same h e w s from none = grind arith

-- a slot stays as it is if what is read of its draw does
pub rx_slot_same : (plan : Plan) (g h : History) (port : PortName) (s : SubStream) (a : Keyed)
    → ((j : ℕ) → a ≡ On j → (has_failed g port s.stream ≡ has_failed h port s.stream)
    × (units_got g s j ≡ units_got h s j)
    × ((n : ℕ) → packets_in_hold plan g s j n ≡ packets_in_hold plan h s j n))
    → rx_slot plan g port s a ≡ rx_slot plan h port s a
rx_slot_same plan g h port s Off same = refl
rx_slot_same plan g h port s (Loaded j) same = refl
rx_slot_same plan g h port s (On j) same = let of = same j refl in rw (of.0, of.1, of.2 _) refl

pub rx_slots_same : (plan : Plan) (g h : History) (port : PortName) (s : SubStream) (keys : Keys)
    → has_failed g port s.stream ≡ has_failed h port s.stream → ((j : ℕ) → units_got g s j ≡ units_got h s j)
    → ((j n : ℕ) → packets_in_hold plan g s j n ≡ packets_in_hold plan h s j n) → rx_slots plan g port s keys
    ≡ rx_slots plan h port s keys
rx_slots_same plan g h port s keys bad units same_hold =
    let one : (a : Keyed) → rx_slot plan g port s a ≡ rx_slot plan h port s a = λ a. rx_slot_same plan g h port s a
    (λ j on. (bad, units j, same_hold j)) in
    slots_is _ _ (one keys.first) (one keys.second)

-- ---- what failed

and_again : (a b : Bool) → (a && b && b) ≡ (a && b)
and_again a b = grind arith

-- if a stream failed, it has a Live key
pub failed_live : (plan : Plan) (h : History) (port : PortName) (stream : ℕ)
    → (has_failed h port stream && has_live_key h port stream) ≡ has_failed h port stream
unfolding failed_there
failed_live plan [] port stream = refl
failed_live plan ((e, w) ∷ h) port stream =
    subst (λ (b : Bool). (b && has_live_key ((e, w) ∷ h) port stream) ≡ b) (sym (failed_next h e w port stream))
    (and_again (fails_at port stream w || has_failed h port stream) (has_live_key ((e, w) ∷ h) port stream))

-- ---- what a pair leaves at a port and stream on which it is no operation

module _ (plan : Plan) (facts : KeyFacts plan) (h : History) (e : Event) (w : Verdict)
    (cause : CauseLaw plan ((e, w) ∷ h)) (port : PortName) (stream : ℕ)
    (still : operates e port.line stream ≡ false) where
  pub live_out : has_live_out ((e, w) ∷ h) port stream ≡ has_live_out h port stream
  unfolding has_live_out
  live_out = let one = λ (u : SubKind). facts.keyed h e w cause port (lane_out port stream u) still in λ i. one Pr i
      || one Npr i || one Cpl i

  pub live_in : has_live_in ((e, w) ∷ h) port stream ≡ has_live_in h port stream
  unfolding has_live_in
  live_in = let one = λ (u : SubKind). facts.keyed h e w cause port (lane_in port stream u) still in λ i. one Pr i
      || one Npr i || one Cpl i

  based : base ((e, w) ∷ h) port.line stream ≡ base h port.line stream
  based = facts.base_same h e w cause port.line stream still

  pub failed_more : has_failed ((e, w) ∷ h) port stream ≡
      ((fails_at port stream w || has_failed h port stream) && has_live_key h port stream)
  failed_more = failed_next h e w port stream ∙
      (λ i. (fails_at port stream w || has_failed h port stream) && (live_out i || live_in i))

  pub failed_same : fails_at port stream w ≡ false → has_failed ((e, w) ∷ h) port stream ≡ has_failed h port stream
  failed_same none = failed_more ∙ (rw none refl ∙ failed_live plan h port stream)

  -- a sender stays as it is but for what its port seals on the stream
  pub tx_frame : (u : SubKind) → seals_at port stream w ≡ false
      → tx_state_due plan ((e, w) ∷ h) port (lane_out port stream u) ≡ tx_state_due plan h port (lane_out port stream u)
  tx_frame u none =
      let g = (e, w) ∷ h in
      let s = lane_out port stream u in
      let unfinished = ahead_of_packet plan (sealed_packets plan h) (base h) in
      let xs = sealed_packets plan h in
      let from = base h port.line stream in
      tx_is _ _
      (tx_slots_same plan (sealed_packets plan g) xs s (port_keys g port s)
      (λ j. sealed_elsewhere plan h e w port stream (λ ys. sub_stream_packets ys s j) none
      (λ bytes ds. sent_elsewhere plan unfinished bytes ds xs port stream u j))
      ∙ ap (tx_slots plan xs s) (keys_out plan facts h e w cause port stream still u none))
      (if_same _ _ _ _ live_out (ap (posted_since_last (sealed_packets plan g) s) based
      ∙ sealed_elsewhere plan h e w port stream (λ ys. posted_since_last ys s from) none
      (λ bytes ds. posted_elsewhere plan unfinished bytes ds xs port stream u from)))
      (if_same _ _ _ _ live_out (ap (total_in (sealed_packets plan g) s) based
      ∙ sealed_elsewhere plan h e w port stream (λ ys. total_in ys s from) none
      (λ bytes ds. total_elsewhere plan unfinished bytes ds xs port stream u from)))

  -- the counts of a receiver stay as they are but for what it accepts
  pub rx_with : (u : SubKind) → let s = lane_in port stream u in
      accepts_in s w ≡ false → (slots : LaneSlots) → rx_slots plan ((e, w) ∷ h) port s (port_keys ((e, w) ∷ h) port s)
      ≡ slots
      → rx_state_due plan ((e, w) ∷ h) port s ≡ record (rx_state_due plan h port s) { slots = slots }
  rx_with u none slots same =
      let g = (e, w) ∷ h in
      let s = lane_in port stream u in
      let got : got_in plan g s ≡ got_in plan h s = ap (got_since plan g s) based ∙ got_same plan h e w s _ none in
      rx_is _ _ same (if_same _ _ _ _ live_in (ap posted_sum got)) (if_same _ _ _ _ live_in (ap length got))
      (if_same _ _ _ _ live_in (ap (units_since g s) based ∙ since_same h e w s _ none))

  -- a receiver stays as it is but for what it takes, and what fails on the stream
  pub rx_frame : (u : SubKind) → accepts_in (lane_in port stream u) w ≡ false → holds_in (lane_in port stream u) w
      ≡ false → fails_at port stream w ≡ false
      → rx_state_due plan ((e, w) ∷ h) port (lane_in port stream u) ≡ rx_state_due plan h port (lane_in port stream u)
  rx_frame u accepts holds fails =
      let g = (e, w) ∷ h in
      let s = lane_in port stream u in
      rx_with u accepts _
      (rx_slots_same plan g h port s (port_keys g port s) (failed_same fails) (λ j. units_same h e w s j accepts)
      (λ j n. held_same plan h e w s j n holds)
      ∙ ap (rx_slots plan h port s) (keys_in plan facts h e w cause port stream still u accepts))

-- ---- the frame

elsewhere : (port : PortName) (stream : ℕ) (u : SubKind) (w : Verdict) → takes_at port stream w ≡ false
    → (accepts_in (lane_in port stream u) w ≡ false) × (holds_in (lane_in port stream u) w ≡ false)
    × (fails_at port stream w ≡ false)
elsewhere port stream u (v.Fail p s sub cause) none = (refl, refl, none)
elsewhere port stream u (v.Held p unit) none = (refl, received_elsewhere p port stream u unit none, refl)
elsewhere port stream u (v.Accepted p unit effects) none = (received_elsewhere p port stream u unit none, refl, refl)
elsewhere port stream u _ none = (refl, refl, refl)

-- what a pair neither seals nor takes at a port and stream leaves all of it as it was
pub frame : (plan : Plan) → KeyFacts plan → (h : History) (e : Event) (w : Verdict) → CauseLaw plan ((e, w) ∷ h)
    → (port : PortName) (stream : ℕ)
    → operates e port.line stream ≡ false → seals_at port stream w ≡ false → takes_at port stream w ≡ false
    → stream_state_due plan ((e, w) ∷ h) port stream ≡ stream_state_due plan h port stream
unfolding stream_state_due
frame plan facts h e w cause port stream still seals takes =
    let none = λ (u : SubKind). elsewhere port stream u w takes in
    stream_is _ _ (each_same _ _ (λ u. tx_frame plan facts h e w cause port stream still u seals))
    (each_same _ _ (λ u. rx_frame plan facts h e w cause port stream still u (none u).0 (none u).1 (none u).2))
    (failed_same plan facts h e w cause port stream still (none Pr).2)
