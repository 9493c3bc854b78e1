-- One stream at a port changes with a pair, or nothing does.
use Rattle.machine_ports.proofs.Terms.{◌≡◌, ℕ, ◌==◌, Bool, true, false, List, ◌∷◌, map, Some, None, refl, ap, sym, ◌∙◌}
use Rattle.machine_ports.proofs.Terms.{subst, arith, if◌then◌else◌, ◌&&◌, due, Event, find, has_stream, History}
use Rattle.machine_ports.proofs.Terms.{is_of_packets, is_quiet, is_same_port, IsNoOperation, kept_packet, KeyFacts}
use Rattle.machine_ports.proofs.Terms.{LinkPacket, LinkState, nat_tests, operates, Packet, Plan, PortName}
use Rattle.machine_ports.proofs.Terms.{StreamsAndPacketsStand, with_stream_state, quiet_seals_none, same_port}
use Rattle.machine_ports.proofs.Terms.{sealed_packets, sealed_same, SealedList, SealedPacket, stream_state_due}
use Rattle.machine_ports.proofs.Terms.{state_due_if_planned, Stepped, StreamState, Verdict}
use Rattle.machine_ports.proofs.Frames.{seals_at, takes_at, frame}

-- the verdict is the one that is due, and the state after it stands for the history with it
abbrev pub Steps : Plan → History → Event → Stepped → Type 0
Steps plan h e r = (r.0 ≡ due plan h e) × StreamsAndPacketsStand plan r.1 ((e, r.0) ∷ h)

abbrev pub kept_all : SealedList → List LinkPacket
kept_all xs = map (λ (x : SealedPacket × Packet). kept_packet x.0.port x.1) xs

-- it tells of packets of no other port or stream
abbrev pub IsOnlyAt : PortName → ℕ → Verdict → Type 0
IsOnlyAt port stream w = (q : PortName) (t : ℕ) → (is_same_port port q && (stream == t)) ≡ false
    → (seals_at q t w ≡ false) × (takes_at q t w ≡ false)

pub none_of_packets : (e : Event) → is_of_packets e ≡ true → IsNoOperation e
unfolding operates
none_of_packets e is line stream = grind arith

-- what is known of a stream that is kept
pub record IsKept (plan : Plan) (h : History) (port : PortName) (stream : ℕ) (x : StreamState) : Type 0 where
  pub known : has_stream plan port stream ≡ true
  pub same : x ≡ stream_state_due plan h port stream

pub kept_is : (plan : Plan) (st : LinkState) (h : History) (port : PortName) (stream : ℕ) (x : StreamState)
    → StreamsAndPacketsStand plan st h → find plan st port stream ≡ Some x → IsKept plan h port stream x
kept_is plan st h port stream x stands found =
    let is : Some x ≡ (if has_stream plan port stream then Some (stream_state_due plan h port stream) else None) =
    sym found ∙
    stands.streams port stream in
    record { known = grind arith; same = grind arith }

pub not_kept : (plan : Plan) (st : LinkState) (h : History) (port : PortName) (stream : ℕ)
    → StreamsAndPacketsStand plan st h → find plan st port stream ≡ None → has_stream plan port stream ≡ false
not_kept plan st h port stream stands found =
    let is : None ≡ (if has_stream plan port stream then Some (stream_state_due plan h port stream) else None) =
    sym found ∙
    stands.streams port stream in
    grind arith

-- a stream of which a pair tells nothing stands for the history with the pair
pub stays : (plan : Plan) → KeyFacts plan → (st : LinkState) (h : History) (e : Event) (w : Verdict)
    → StreamsAndPacketsStand plan st h → w ≡ due plan h e → (q : PortName) (t : ℕ) → operates e q.line t ≡ false
    → seals_at q t w ≡ false → takes_at q t w ≡ false → find plan st q t ≡ state_due_if_planned plan ((e, w) ∷ h) q t
stays plan facts st h e w stands is q t still seals takes =
    stands.streams q t ∙ ap (λ (y : StreamState). if has_stream plan q t then Some y else None)
    (sym (frame plan facts h e w (is, stands.cause) q t still seals takes))

-- what holds at a place holds at the same place
pub at_place : (port q : PortName) (stream t : ℕ) (P : PortName → ℕ → Type 0) → (is_same_port port q && (stream == t))
    ≡ true → P port stream → P q t
at_place port q stream t P same here =
    let one : port ≡ q = same_port port q (grind arith) in
    let two : stream ≡ t = grind (arith, nat_tests) in
    subst (λ (r : PortName). P r t) one (subst (λ (n : ℕ). P port n) two here)

-- a state in which one stream at a port is new stands for the history with the pair
pub changes : (plan : Plan) → KeyFacts plan → (st new : LinkState) (h : History) (e : Event) (w : Verdict)
    (port : PortName) (stream : ℕ) (x : StreamState) → StreamsAndPacketsStand plan st h → w ≡ due plan h e
    → IsNoOperation e
    → has_stream plan port stream ≡ true → IsOnlyAt port stream w → find plan new port stream ≡ Some x →
    ((q : PortName) (t : ℕ) → (is_same_port port q && (stream == t)) ≡ false → find plan new q t ≡ find plan st q t)
    → x ≡ stream_state_due plan ((e, w) ∷ h) port stream → new.packets ≡ kept_all (sealed_packets plan ((e, w) ∷ h))
    → Steps plan h e (w, new)
changes plan facts st new h e w port stream x stands is still known only here others same packets = (
  is,
  record {
    cause = (is, stands.cause);
    streams = λ q t. by_place q t (is_same_port port q && (stream == t)) refl;
    packets = packets;
  },
)
  where
    at : find plan new port stream ≡ state_due_if_planned plan ((e, w) ∷ h) port stream
    at = here ∙ rw known (ap (λ (y : StreamState). Some y) same)

    by_place : (q : PortName) (t : ℕ) (b : Bool) → (is_same_port port q && (stream == t)) ≡ b → find plan new q t
        ≡ state_due_if_planned plan ((e, w) ∷ h) q t
    by_place q t true place = at_place port q stream t
        (λ r n. find plan new r n ≡ state_due_if_planned plan ((e, w) ∷ h) r n)
        place at
    by_place q t false place = let none = only q t place in others q t place ∙ stays plan facts st h e w stands is q t
        (still q.line t) none.0 none.1

pub put_packets : (plan : Plan) (st : LinkState) (port : PortName) (stream : ℕ) (x : StreamState)
    → (with_stream_state plan st port stream x).packets ≡ st.packets
unfolding with_stream_state
put_packets plan st port stream x = refl

-- ---- verdicts that change nothing

pub quiet_everywhere : (w : Verdict) → is_quiet w ≡ true → (q : PortName) (t : ℕ) → (seals_at q t w ≡ false)
    × (takes_at q t w ≡ false)
quiet_everywhere w none q t = grind arith

pub quiet : (plan : Plan) → KeyFacts plan → (st : LinkState) (h : History) (e : Event) (w : Verdict)
    → StreamsAndPacketsStand plan st h → is_quiet w ≡ true → w ≡ due plan h e → IsNoOperation e → Steps plan h e (w, st)
quiet plan facts st h e w stands none is still = (
  is,
  record {
    cause = (is, stands.cause);
    streams = λ q t. let each = quiet_everywhere w none q t in stays plan facts st h e w stands is q t (still q.line t)
        each.0 each.1;
    packets = stands.packets ∙ ap kept_all (sym (sealed_same plan h e w (quiet_seals_none w none)));
  },
)
