-- An up stream seals a request or a completion only while no posted unit is open, under any draw.
use Rattle.law_sealing.proofs.Terms.{◌≡◌, ◌≢◌, ℕ, ◌==◌, ◌&&◌, ◌∷◌, ◌++◌, Bool, true, false, Some}
use Rattle.law_sealing.proofs.Terms.{List, [], take, slice_get, refl, ap, sym, ◌∙◌, subst, arith, inl, inr}
use Rattle.law_sealing.proofs.Terms.{AllByRecursion, cases_Bool, and_parts, nat_tests, ne_eqb, nil_from_length}
use Rattle.law_sealing.proofs.Terms.{Plan, History, base, Event, Verdict, Sealed, PortName, SubKind, Pr}
use Rattle.law_sealing.proofs.Terms.{Npr, Cpl, SealedPacket, Packet, lane_out, is_same_port, open_unit}
use Rattle.law_sealing.proofs.Terms.{SealedList, sub_stream_packets, sub_stream_of, with_sealed, packet_of}
use Rattle.law_sealing.proofs.Terms.{sealed_packets, Sending, Lanes, lanes_at, needs_sync, packets_under_key}
use Rattle.law_sealing.proofs.Terms.{described_seal, begins_unit, sub_bits}
use Rattle.law_sealing.proofs.Terms.{CauseLaw, IsSealing, sealing_is, sealed_by_is, listed_seals}
use Rattle.law_sealing.proofs.Terms.{ahead_of_packet, sent_bytes, sending_port, sent-same, in_lane, same_port}
use Rattle.law_sealing.proofs.Terms.{needs_posted, AllLive, all_live, eqb-true, is_same_sub}
use Rattle.law_sealing.proofs.Places.{last_place}
use Rattle.spec_keys.specs.Operations.{Up}
use Rattle.spec_keys.specs.History.{op_of}
use Rattle.law_honest.specs.Honest.{is_sealed_at}
use Rattle.law_honest.proofs.Kept.{live_where_sealed}
use Rattle.law_key_facts.proofs.Ended.{open_is_live, stops}
use Rattle.law_key_facts.proofs.Seats.{live_of}
use Rattle.law_sealing.proofs.Terms.{port_keys, ◌≤◌, nil_from_length, lanes_at, packets_under_key, begins_unit}

-- the packet came out at the port on the stream
abbrev pub is_out : PortName → ℕ → SealedPacket → Bool
is_out port stream d = is_same_port d.port port && (d.stream == stream)

-- a packet that is sealed after these
abbrev pub FitsBehind : PortName → ℕ → ℕ → SealedList → SealedPacket → Type 0
FitsBehind port stream j ys d =
    sub_bits d.sub ≢ 0 → (i : ℕ) → j ≤ i → open_unit (sub_stream_packets ys (lane_out port stream Pr) i) ≡ []

-- each packet of the port and stream, of draws from this one on
abbrev pub AreClean : PortName → ℕ → ℕ → SealedList → Type 0
AreClean port stream j xs =
    (i : ℕ) (x : SealedPacket × Packet) → slice_get xs i ≡ Some x → is_sealed_at port stream j x ≡ true
    → FitsBehind port stream j (take i xs) x.0

-- each packet of a send
abbrev AllFit : PortName → ℕ → ℕ → SealedList → List SealedPacket → Type 0
AllFit port stream j ys [] = Unit {0}
AllFit port stream j ys (d ∷ ds) =
    (is_out port stream d ≡ true → FitsBehind port stream j ys d)
    × ((p : Packet) → AllFit port stream j (ys ++ (d, p) ∷ []) ds)

clean-snoc : (port : PortName) (stream j : ℕ) (xs : SealedList) (x : SealedPacket × Packet)
    → AreClean port stream j xs → (is_out port stream x.0 ≡ true → FitsBehind port stream j xs x.0)
    → AreClean port stream j (xs ++ x ∷ [])
clean-snoc port stream j xs x before fits i y is out = elim (last_place xs x y i is) [
  | inl p ↦ subst (λ (ys : SealedList). FitsBehind port stream j ys y.0) (sym p.1) (before i y p.0 out)
  | inr p ↦
      let there : is_out port stream y.0 ≡ true = grind (arith, nat_tests) in
      rw (p.0, p.1) (fits (rw p.0 at there))
]

more_clean : (plan : Plan) (ahead : SealedPacket → List ℕ) (bytes : List ℕ) (port : PortName) (stream j : ℕ)
    (ds : List SealedPacket) (ys : SealedList) → AllFit port stream j ys ds → AreClean port stream j ys
    → AreClean port stream j (with_sealed plan ahead bytes ds ys)
more_clean plan ahead bytes port stream j [] ys all before = before
more_clean plan ahead bytes port stream j (d ∷ ds) ys all before =
    let p = packet_of plan (ahead d) bytes d (open_unit (sub_stream_packets ys (sub_stream_of d) d.draw)) in
    more_clean plan ahead bytes port stream j ds (ys ++ (d, p) ∷ []) (all.1 p)
    (clean-snoc port stream j ys (d, p) before all.0)

-- packets of other ports and streams
none_out : (port : PortName) (stream j : ℕ) (ds : List SealedPacket) (ys : SealedList)
    → AllByRecursion (λ (d : SealedPacket). is_out port stream d ≡ false) ds → AllFit port stream j ys ds
none_out port stream j [] ys none = tt
none_out port stream j (d ∷ ds) ys none =
    (λ here. absurd (cc (here, none.0)), λ p. none_out port stream j ds (ys ++ (d, p) ∷ []) none.1)

-- ---- one send

module _ (plan : Plan) (h : History) (s : Sending) (j : ℕ) where
  abbrev x : Lanes
  x = lanes_at plan h s.port s.stream

  abbrev posted_open : SealedList → ℕ → List Packet
  posted_open ys i = open_unit (sub_stream_packets ys (lane_out s.port s.stream Pr) i)

  abbrev NoneOpen : SealedList → Type 0
  NoneOpen ys = (i : ℕ) → j ≤ i → posted_open ys i ≡ []

  -- a sync packet leaves the posted packets
  sync_leaves : (ys : SealedList) (u : SubKind) (number : ℕ) (p : Packet) → is_same_sub u Pr ≡ false → NoneOpen ys
      → NoneOpen (ys ++ (described_seal x s u number true false true, p) ∷ [])
  sync_leaves ys u number p other none i le =
      let d = described_seal x s u number true false true in
      ap open_unit (sent-same ys (d, p) (lane_out s.port s.stream Pr) i
      (in_lane s.port s.stream d Pr refl refl ∙ other)) ∙ none i le

  listed_fit : (number : ℕ) (n c : Bool)
      → (n ≡ true → (s.class ≡ Pr) × NoneOpen (sealed_packets plan h))
      → (c ≡ true → (s.class ≡ Pr) × NoneOpen (sealed_packets plan h))
      → (sub_bits s.class ≢ 0 → NoneOpen (sealed_packets plan h))
      → AllFit s.port s.stream j (sealed_packets plan h) (listed_seals x s number n c)
  unfolding listed_seals
  listed_fit number false false requests completions alone = (λ out. alone, λ p. tt)
  listed_fit number true false requests completions alone = (
    λ out other. (requests refl).1,
    λ p. (λ out other. absurd (other (ap sub_bits (requests refl).0)), λ q. tt),
  )
  listed_fit number false true requests completions alone = (
    λ out other. (completions refl).1,
    λ p. (λ out other. absurd (other (ap sub_bits (completions refl).0)), λ q. tt),
  )
  listed_fit number true true requests completions alone = (
    λ out other. (requests refl).1,
    λ p. (
      λ out other. sync_leaves (sealed_packets plan h) Npr number p refl (completions refl).1,
      λ q. (λ out other. absurd (other (ap sub_bits (completions refl).0)), λ r. tt),
    ),
  )

-- no posted unit is open if one may begin
none_open : (plan : Plan) (h : History) → CauseLaw plan h → (port : PortName) (stream : ℕ) (set : Bool) (draw : ℕ)
    → op_of h port.line stream ≡ Up set draw → begins_unit ((lanes_at plan h port stream).lane Pr) ≡ true → (i : ℕ)
    → base h port.line stream ≤ i
    → open_unit (sub_stream_packets (sealed_packets plan h) (lane_out port stream Pr) i) ≡ []
none_open plan h cause port stream set draw up begins i le = elim
    (open_is_live plan h cause port stream Pr i le (ap stops up)) [
      | inl none ↦ none
      | inr live ↦
          let s = lane_out port stream Pr in
          let ks = port_keys h port s in
          let key = live_where_sealed plan h cause port stream set draw up Pr in
          let same = one_draw key.0.draw i (sym (live_of ks.first ks.second key.0 key.1) ∙ live) in
          let under = ap (packets_under_key plan h s) key.1 in
          ap (λ (k : ℕ). open_unit (sub_stream_packets (sealed_packets plan h) s k)) (sym same)
          ∙ (ap open_unit (sym under)
          ∙ nil_from_length ((lanes_at plan h port stream).lane Pr).unfinished (eqb-true _ 0 begins))
    ]
  where
    one_draw : (a b : ℕ) → Some a ≡ Some b → a ≡ b
    one_draw a b is = cc

-- whether a send is on the stream at the port
off_here : (plan : Plan) (h : History) (p port : PortName) (t stream : ℕ) (ds : List SealedPacket)
    → AllLive plan h p t ds → (is_same_port p port && (t == stream)) ≡ false
    → AllByRecursion (λ (d : SealedPacket). is_out port stream d ≡ false) ds
off_here plan h p port t stream [] live off = tt
off_here plan h p port t stream (d ∷ ds) live off = (
  (λ i. is_same_port (live.0.port_is i) port && (live.0.stream_is i == stream)) ∙ off,
  off_here plan h p port t stream ds live.1 off,
)

module _
    (plan : Plan) (h : History) (e : Event) (ds : List SealedPacket)
    (cause : CauseLaw plan ((e, Sealed ds) ∷ h)) (port : PortName) (stream : ℕ) (set : Bool) (draw : ℕ)
    (up : op_of h port.line stream ≡ Up set draw) where
  abbrev is : IsSealing plan h (sending_port plan h e) (sent_bytes plan h e) ds
  is = sealing_is plan h e ds cause.0

  abbrev j : ℕ
  j = base h port.line stream

  fit_here : is.sending.port ≡ port → is.sending.stream ≡ stream → AllFit port stream j (sealed_packets plan h) ds
  fit_here port_is stream_is =
      let s = is.sending in
      let x = lanes_at plan h s.port s.stream in
      let up_there : op_of h s.port.line s.stream ≡ Up set draw =
      (λ i. op_of h (port_is i).line (stream_is i)) ∙ up in
      let base_there : base h s.port.line s.stream ≡ j = λ i. base h (port_is i).line (stream_is i) in
      let none : begins_unit (x.lane Pr) ≡ true → NoneOpen plan h s j (sealed_packets plan h) =
      λ begins i le.
      none_open plan h cause.1 s.port s.stream set draw up_there begins i (omega (arith, base_there, le)) in
      let syncs : (u : SubKind) → needs_sync x s.class u ≡ true → NoneOpen plan h s j (sealed_packets plan h) =
      λ u needs. none
      (ap (λ (c : SubKind). begins_unit (x.lane c)) (sym (needs_posted x s.class u needs))
      ∙ grind (arith, nat_tests, needs)) in
      let alone = λ (other : sub_bits s.class ≢ 0).
      none (grind (arith, nat_tests, ne_eqb (sub_bits s.class) 0 other, is.free.1.1.0)) in
      let fit = listed_fit plan h s j is.number (needs_sync x s.class Npr) (needs_sync x s.class Cpl)
      (λ needs. (needs_posted x s.class Npr needs, syncs Npr needs))
      (λ needs. (needs_posted x s.class Cpl needs, syncs Cpl needs)) alone in
      let all = subst (AllFit s.port s.stream j (sealed_packets plan h))
      (sym (is.list ∙ sealed_by_is x s is.number)) fit in
      subst (λ (q : PortName). AllFit q stream j (sealed_packets plan h) ds) port_is
      (subst (λ (t : ℕ). AllFit s.port t j (sealed_packets plan h) ds) stream_is all)

  pub fit : AllFit port stream j (sealed_packets plan h) ds
  fit = elim (cases_Bool (is_same_port is.sending.port port && (is.sending.stream == stream))) [
    | inl here ↦
        let parts = and_parts (is_same_port is.sending.port port) (is.sending.stream == stream) here in
        fit_here (same_port is.sending.port port parts.0) (eqb-true is.sending.stream stream parts.1)
    | inr off ↦
        none_out port stream j ds (sealed_packets plan h)
        (off_here plan h is.sending.port port is.sending.stream stream ds
        (all_live plan h (sending_port plan h e) (sent_bytes plan h e) ds is) off)
  ]

-- one more pair
pub next_clean : (plan : Plan) (h : History) (e : Event) (w : Verdict) → CauseLaw plan ((e, w) ∷ h)
    → (port : PortName) (stream : ℕ) (set : Bool) (draw : ℕ) → op_of h port.line stream ≡ Up set draw
    → AreClean port stream (base h port.line stream) (sealed_packets plan h)
    → AreClean port stream (base h port.line stream) (sealed_packets plan ((e, w) ∷ h))
unfolding sealed_packets
next_clean plan h e (Sealed ds) cause port stream set draw up before =
    more_clean plan (ahead_of_packet plan (sealed_packets plan h) (base h)) (sent_bytes plan h e) port stream
    (base h port.line stream) ds (sealed_packets plan h) (fit plan h e ds cause port stream set draw up) before
next_clean plan h e w cause port stream set draw up before = before
