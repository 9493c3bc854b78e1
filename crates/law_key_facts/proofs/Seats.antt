-- A port's place in a sub-stream, and the keys there.
use Rattle.spec_links.proofs.Terms.{Bool, Some, ap, arith, false, refl, sym, true, ℕ, ◌∙◌, ◌≡◌, nat_tests, is_sender}
use Rattle.spec_links.proofs.Terms.{sender_draw, is_on_stream, is_same_side, is_same_sub, KeyName, port_keys, lesser}
use Rattle.spec_links.proofs.Terms.{live_key, place_in_sub_stream, received_in, sub_stream_of, SubStream, is_same}
use Rattle.spec_links.proofs.Terms.{lane_in, lane_out, History, Keyed, On, KeyPlace, Plan, PortName, SealedPacket}
use Rattle.spec_links.proofs.Terms.{SubKind, UnitName, key_in, place_keys, not, on_in, received_direction}
use Rattle.spec_links.proofs.Terms.{sent_direction, ◌&&◌}
use Rattle.spec_keys.proofs.Shapes.{pair_of}
use Rattle.spec_links.proofs.SealingIs.{IsLive}
use Rattle.spec_links.proofs.Senders.{lane_is}
use Rattle.spec_links.proofs.Tests.{same_stream, same_sender, same_sub, same_side, eqb-refl, in_not_out}

pub keys_out : (h : History) (port : PortName) (stream : ℕ) (u : SubKind) → port_keys h port (lane_out port stream u)
    ≡ place_keys h (place_in_sub_stream port (lane_out port stream u) true)
unfolding port_keys
keys_out h port stream u = rw (eqb-refl port.line, eqb-refl (sent_direction port.side)) refl

pub keys_into : (h : History) (port : PortName) (stream : ℕ) (u : SubKind) → port_keys h port (lane_in port stream u)
    ≡ place_keys h (place_in_sub_stream port (lane_in port stream u) false)
unfolding port_keys
keys_into h port stream u = rw (eqb-refl port.line, in_not_out port.side, eqb-refl (received_direction port.side)) refl

-- two places that pass the tests of an end, a stream and a sub-stream are one
same_place : (p q : KeyPlace) (b : Bool) →
    (b && is_same_side p.side q.side && is_on_stream p q.line q.stream && is_same_sub p.sub q.sub) ≡ true
    → (b ≡ true → q.sends ≡ p.sends) → q ≡ p
same_place p q b is ends =
    let side : p.side ≡ q.side = same_side p.side q.side (grind arith) in
    let link : p.line ≡ q.line = grind (arith, nat_tests) in
    let stream : p.stream ≡ q.stream = grind (arith, nat_tests) in
    let sub : p.sub ≡ q.sub = same_sub p.sub q.sub (grind arith) in
    let sends : q.sends ≡ p.sends = ends (grind arith) in
    λ i. record { side = sym side i; line = sym link i; stream = sym stream i; sends = sends i; sub = sym sub i }

-- the place that sealed a packet
pub sender_is : (p : KeyPlace) (d : SealedPacket) → is_sender p d ≡ true
    → place_in_sub_stream d.port (sub_stream_of d) true ≡ p
sender_is p d is = same_place p (place_in_sub_stream d.port (sub_stream_of d) true) p.sends is sym

-- the place that got a unit
pub receiver_is : (p : KeyPlace) (port : PortName) (unit : UnitName)
    → (not p.sends && is_same_side p.side port.side && is_on_stream p port.line unit.stream
    && is_same_sub p.sub unit.sub) ≡ true
    → place_in_sub_stream port (received_in port unit) false ≡ p
receiver_is p port unit is = same_place p (place_in_sub_stream port (received_in port unit) false) (not p.sends) is
    (λ sends. grind arith)

-- ---- one key

-- the lesser of two that are On is the Live one
pub live_of : (a b : Keyed) (key : KeyName) → lesser a b ≡ Some key → sender_draw (record { first = a; second = b })
    ≡ Some key.draw
live_of a b key is = grind (arith, nat_tests)

pub own_key : (k : Bool) (a b : Keyed) → key_in (pair_of k a b) k ≡ a
own_key k a b = grind arith

pub on_key : (a : Keyed) (j : ℕ) → on_in a ≡ Some j → a ≡ On j
on_key a j on = grind arith

-- the key of a packet that is sealed is Live at the port of each lane that it is of
pub live_here : (plan : Plan) (h : History) (p : PortName) (t : ℕ) (d : SealedPacket) (live : IsLive plan h p t d)
    (port : PortName) (stream : ℕ) (u : SubKind)
    → is_same (sub_stream_of d) (lane_out port stream u) ≡ true → live_key h port (lane_out port stream u)
    ≡ Some live.key
live_here plan h p t d live port stream u here =
    let same : lane_out port stream u ≡ sub_stream_of d = sym
    (same_stream (sub_stream_of d) (lane_out port stream u) here) in
    let port_is : port ≡ p = same_sender port d.port (ap (λ (s : SubStream). s.line) same)
    (ap (λ (s : SubStream). s.direction) same) ∙ live.port_is in
    let lane : lane_out port stream u ≡ lane_out p t d.sub = same ∙ lane_is p t d live.port_is live.stream_is in
    (λ i. live_key h (port_is i) (lane i)) ∙ live.live
