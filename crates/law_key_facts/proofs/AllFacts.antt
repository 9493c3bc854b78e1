-- All that is used of keys holds.
use Rattle.spec_links.proofs.Terms.{Bool, [], ap, arith, false, refl, sym, true, ℕ, ◌<◌, ◌==◌, ◌∙◌, ◌≡◌, ◌≤◌, nat_tests}
use Rattle.spec_links.proofs.Terms.{base, CauseLaw, port_keys, place_in_sub_stream, sent_packets, waits, KeyFacts}
use Rattle.spec_links.proofs.Terms.{SubStream, key_plan, lane_out, History, Keyed, Keys, On, Plan, PortName, SubKind}
use Rattle.spec_links.proofs.Terms.{key_in, nat_le, not, on_in}
use Rattle.spec_keys.proofs.Tests.{le-true}
use Rattle.law_keys.proofs.Bases.{on_from}
use Rattle.law_key_facts.proofs.Seats.{keys_out}
use Rattle.law_key_facts.proofs.Given.{key_cause}
use Rattle.law_key_facts.proofs.Unplanned.{on_at}
use Rattle.law_key_facts.proofs.RealFacts.{steady, sealed, accepted, keyed, operates_no_base, apart, used_most}
use Rattle.law_key_facts.proofs.Moments.{none_sent, sends_lane}

-- the other draw, for which one waits
pub record Other (k : Bool) (j : ℕ) (x : Keyed) : Type 0 where
  pub draw : ℕ
  pub on : x ≡ On draw
  pub least : draw ≤ j

pub other_of : (k : Bool) (j : ℕ) (x : Keyed) → waits k j x ≡ true → Other k j x
other_of k j (On i) waiting = record { draw = i; on = refl; least = least k waiting }
  where
    least : (k : Bool) → waits k j (On i) ≡ true → i ≤ j
    least k waiting = grind (arith, nat_tests)
other_of true j _ waiting = absurd cc
other_of false j _ waiting = absurd cc

-- of two that are On, the other that is no greater is smaller
pub differ : (ks : Keys) (k : Bool) (i j : ℕ) → ((i j : ℕ) → ks.first ≡ On i → ks.second ≡ On j → (i == j) ≡ false)
    → key_in ks k ≡ On j → key_in ks (not k) ≡ On i → i ≤ j → i < j
differ ks true i j apart_is on other le = let differ = apart_is i j other on in grind (arith, nat_tests)
differ ks false i j apart_is on other le = let differ = apart_is j i on other in grind (arith, nat_tests)

pub unused : (plan : Plan) (h : History) → CauseLaw plan h → (port : PortName) (stream : ℕ) (u : SubKind) (k : Bool)
    (j : ℕ) → let s = lane_out port stream u in
    key_in (port_keys h port s) k ≡ On j → waits k j (key_in (port_keys h port s) (not k)) ≡ true
    → sent_packets plan h s j ≡ []
unused plan h law port stream u k j on waiting =
    let s = lane_out port stream u in
    let other = other_of k j (key_in (port_keys h port s) (not k)) waiting in
    let there = ap (λ (x : Keys). key_in x (not k)) (sym (keys_out h port stream u)) ∙ other.on in
    let most = used_most plan h law (place_in_sub_stream port s true) (not k) other.draw there in
    let less = differ (port_keys h port s) k other.draw j (apart plan h law port s) on other.on other.least in
    none_sent plan h law port s j (sends_lane port stream u) (omega (arith, most, less))

pub from_base : (plan : Plan) (h : History) → CauseLaw plan h → (port : PortName) (s : SubStream) (k : Bool) (j : ℕ)
    → key_in (port_keys h port s) k ≡ On j → nat_le (base h s.line s.stream) j ≡ true
from_base plan h law port s k j on =
    let at = on_at h port s k j on in
    le-true (base h s.line s.stream) j
    (on_from (key_plan plan) h (key_cause plan h law) (place_in_sub_stream port s at.sends) k j (ap on_in at.on))

pub facts : (plan : Plan) → KeyFacts plan
facts plan = record {
  steady = λ h e w law none port s still. steady plan h e w none port s still;
  sealed = λ h e ds law port s. sealed plan h e ds law port s;
  accepted = λ h e port unit effects law q s. accepted plan h e port unit effects law q s;
  keyed = λ h e w law port s still. keyed plan h e w law port s still;
  base_same = λ h e w law line stream still. operates_no_base plan h e w line stream still;
  from_base = λ h law port s k j on. from_base plan h law port s k j on;
  apart = λ h law port s i j first second. apart plan h law port s i j first second;
  unused = λ h law port stream u k j on waiting. unused plan h law port stream u k j on waiting;
}
