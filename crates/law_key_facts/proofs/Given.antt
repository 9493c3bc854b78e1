-- What is sealed and what is accepted is under keys that are Live or On: the rules of keys may suppose it.
use Rattle.spec_links.proofs.Terms.{Bool, List, Some, [], ap, arith, false, refl, subst, sym, true, ℕ, ◌++◌, ◌==◌, ◌∙◌}
use Rattle.spec_links.proofs.Terms.{◌∷◌, ◌≡◌, key_due, came, is_sender, moments, seal_touches, touches_if, Accept, Seal}
use Rattle.spec_links.proofs.Terms.{keys, sender_draw, GivenFits, KeyCauseLaw, UsesFit, is_on_stream, is_same_side}
use Rattle.spec_links.proofs.Terms.{is_same_sub, CauseLaw, due, port_keys, lesser, live_key, on_draw}
use Rattle.spec_links.proofs.Terms.{place_in_sub_stream, received_in, SubStream, key_plan, lane_out, Accepted, Effect}
use Rattle.spec_links.proofs.Terms.{Establish, Event, Held, History, Keys, Packet, KeyPlace, Plan, PortName, Refresh}
use Rattle.spec_links.proofs.Terms.{Reset, Sealed, SealedPacket, Stop, UnitName, Verdict, key_in, place_keys, not}
use Rattle.spec_links.proofs.Terms.{on_in, sub_bits, ◌&&◌, sent_bytes}
use Rattle.spec_links.proofs.Causes.{Passed, held_by, accepted_by, received_there}
use Rattle.spec_links.proofs.Senders.{AreOther}
use Rattle.spec_links.proofs.SealingIs.{sending_port, IsLive, AllLive, sealing_is, all_live, AllApart, all_apart}
use Rattle.law_key_facts.proofs.Seats.{keys_out, keys_into, sender_is, receiver_is, live_of}

-- ---- what is sealed

-- a place that sealed the packet has its key Live
live_there : (plan : Plan) (h : History) (port : PortName) (stream : ℕ) (d : SealedPacket) (p : KeyPlace)
    → IsLive plan h port stream d → is_sender p d ≡ true → sender_draw (keys p.sends (moments h p)) ≡ Some d.draw
live_there plan h port stream d p live here =
    let key_there : live_key h d.port (lane_out d.port d.stream d.sub)
    ≡ Some live.key = (λ i. live_key h (live.port_is i) (lane_out (live.port_is i) (live.stream_is i) d.sub)) ∙
    live.live in
    let ks : Keys = place_keys h (place_in_sub_stream d.port (lane_out d.port d.stream d.sub) true) in
    let least : lesser ks.first ks.second ≡ Some live.key = sym
    (ap (λ (x : Keys). lesser x.first x.second) (keys_out h d.port d.stream d.sub)) ∙ key_there in
    let at : sender_draw ks ≡ Some d.draw = live_of ks.first ks.second live.key least ∙ ap (λ (n : ℕ). Some n)
    (sym live.draw) in
    subst (λ (q : KeyPlace). sender_draw (keys q.sends (moments h q)) ≡ Some d.draw) (sender_is p d here) at

other_sub : (p : KeyPlace) (d e : SealedPacket) → (sub_bits d.sub == sub_bits e.sub) ≡ false → is_sender p d ≡ true
    → is_sender p e ≡ false
other_sub p d e differ here = let sub : d.sub ≡ p.sub = ap (λ (q : KeyPlace). q.sub) (sender_is p d here) in grind arith

abbrev Uses : History → KeyPlace → List SealedPacket → Type 0
Uses h p ds = UsesFit p.sends (moments h p) (seal_touches p ds)

-- a packet, and none after it from the same place
one_use : (h : History) (p : KeyPlace) (d : SealedPacket) (ds : List SealedPacket)
    → (is_sender p d ≡ true → sender_draw (keys p.sends (moments h p)) ≡ Some d.draw)
    → (is_sender p d ≡ true → seal_touches p ds ≡ []) → Uses h p ds → Uses h p (d ∷ ds)
one_use h p d ds live none more = by_test (is_sender p d) refl
  where
    by_test : (b : Bool) → is_sender p d ≡ b → UsesFit p.sends (moments h p)
        (touches_if b (Seal d.draw d.m) ++ seal_touches p ds)
    by_test true here = rw (none here) (live here, tt)
    by_test false other = more

none_behind : (p : KeyPlace) (d : SealedPacket) (ds : List SealedPacket) → is_sender p d ≡ true → AreOther d.sub ds
    → seal_touches p ds ≡ []
none_behind p d [] here none = refl
none_behind p d (e ∷ es) here none = rw (other_sub p d e none.0 here) (none_behind p d es here none.1)

all_uses : (plan : Plan) (h : History) (p : KeyPlace) (port : PortName) (stream : ℕ) (ds : List SealedPacket)
    → AllLive plan h port stream ds → AllApart ds → Uses h p ds
all_uses plan h p port stream [] live differ = tt
all_uses plan h p port stream (d ∷ ds) live differ = one_use h p d ds (live_there plan h port stream d p live.0)
    (λ here. none_behind p d ds here differ.0) (all_uses plan h p port stream ds live.1 differ.1)

pub sealed_given : (plan : Plan) (h : History) (e : Event) (ds : List SealedPacket) (p : KeyPlace) → Sealed ds
    ≡ due plan h e → Uses h p ds
sealed_given plan h e ds p due_is =
    let is = sealing_is plan h e ds due_is in
    all_uses plan h p is.sending.port is.sending.stream ds
    (all_live plan h (sending_port plan h e) (sent_bytes plan h e) ds is)
    (all_apart plan h (sending_port plan h e) (sent_bytes plan h e) ds is)

-- ---- what is accepted

passed_on : (plan : Plan) (h : History) (port : PortName) (p : Packet) (unit : UnitName) → Passed plan h port p unit
    → (k : Bool) × (on_in (key_in (port_keys h port (received_in port unit)) k) ≡ Some unit.draw)
passed_on plan h port p unit passed = (
  p.prefix.k,
  ap (λ (s : SubStream). on_draw h port s p.prefix.k) (received_there plan h port p unit passed) ∙
      passed.live,
)

pub accepted_on : (plan : Plan) (h : History) (e : Event) (port : PortName) (unit : UnitName) (effects : List Effect)
    → Accepted port unit effects ≡ due plan h e
    → (k : Bool) × (on_in (key_in (port_keys h port (received_in port unit)) k) ≡ Some unit.draw)
accepted_on plan h e port unit effects is = let by = accepted_by plan h e port unit effects is in passed_on plan h port
    by.packet unit by.passed

pub held_on : (plan : Plan) (h : History) (e : Event) (port : PortName) (unit : UnitName) → Held port unit
    ≡ due plan h e
    → (k : Bool) × (on_in (key_in (port_keys h port (received_in port unit)) k) ≡ Some unit.draw)
held_on plan h e port unit is = let by = held_by plan h e port unit is in passed_on plan h port by.packet unit by.passed

accepted_given : (plan : Plan) (h : History) (e : Event) (port : PortName) (unit : UnitName) (effects : List Effect)
    (p : KeyPlace) → Accepted port unit effects ≡ due plan h e
    → UsesFit p.sends (moments h p) (came p (Accepted port unit effects))
accepted_given plan h e port unit effects p is = by_test
    (not p.sends && is_same_side p.side port.side && is_on_stream p port.line unit.stream && is_same_sub p.sub unit.sub)
    refl
  where
    by_test : (b : Bool) →
        (not p.sends && is_same_side p.side port.side && is_on_stream p port.line unit.stream
        && is_same_sub p.sub unit.sub) ≡ b → UsesFit p.sends (moments h p) (touches_if b (Accept unit.draw))
    by_test false other = tt
    by_test true here =
        let on = accepted_on plan h e port unit effects is in
        let there = sym (ap (λ (x : Keys). on_in (key_in x on.0)) (keys_into h port unit.stream unit.sub)) ∙ on.1 in (
          (
            on.0,
            subst (λ (q : KeyPlace). on_in (key_in (keys q.sends (moments h q)) on.0) ≡ Some unit.draw)
                (receiver_is p port unit here) there,
          ),
          tt,
        )

-- ---- all verdicts

came_given : (plan : Plan) (h : History) (e : Event) (w : Verdict) → w ≡ due plan h e → (p : KeyPlace)
    → UsesFit p.sends (moments h p) (came p w)
came_given plan h e (Sealed ds) is p = sealed_given plan h e ds p is
came_given plan h e (Accepted port unit effects) is p = accepted_given plan h e port unit effects p is
came_given plan h e _ is p = tt

pub given_fits : (plan : Plan) (h : History) (e : Event) (w : Verdict) → w ≡ due plan h e → GivenFits h e w
given_fits plan h (Establish line stream lose) w is = tt
given_fits plan h (Refresh line stream lose) w is = tt
given_fits plan h (Stop line stream lose) w is = tt
given_fits plan h (Reset link ends) w is = tt
given_fits plan h e w is = came_given plan h e w is

due_is_key_due : (plan : Plan) (h : History) (e : Event) (w : Verdict) → w ≡ due plan h e → w
    ≡ key_due (key_plan plan) h e w
unfolding due key_due
due_is_key_due plan h (Establish line stream lose) w is = is
due_is_key_due plan h (Refresh line stream lose) w is = is
due_is_key_due plan h (Stop line stream lose) w is = is
due_is_key_due plan h (Reset link ends) w is = is
due_is_key_due plan h _ w is = refl

-- Each verdict that is due is due by the rules of keys.
pub key_cause : (plan : Plan) (h : History) → CauseLaw plan h → KeyCauseLaw (key_plan plan) h
key_cause plan [] law = tt
key_cause plan ((e, w) ∷ h) law = (due_is_key_due plan h e w law.0, given_fits plan h e w law.0, key_cause plan h law.1)
