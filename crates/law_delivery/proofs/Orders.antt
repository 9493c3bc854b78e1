-- The draws of accepted units never fall.
use Rattle.law_sealing.proofs.Terms.{◌≡◌, ℕ, suc, ◌<◌, ◌≤◌, List, [], ◌∷◌, Some, sym, subst, arith, inl, inr}
use Rattle.law_sealing.proofs.Terms.{cases_Bool, leb-true, AllByRecursion, PortName, Event, Accepted, UnitName, Effect}
use Rattle.law_sealing.proofs.Terms.{Plan, SubStream, is_same, History, base, Keyed, On, key_in, on_in, port_keys}
use Rattle.law_sealing.proofs.Terms.{draws_got, received_in, receiving_sub_stream, CauseLaw, DrawFacts, same_stream}
use Rattle.law_sealing.proofs.Terms.{AcceptedBy, accepted_by, received_there, NeverFalls}

-- each draw so far is at most j
abbrev pub NoneAbove : ℕ → List ℕ → Type 0
NoneAbove j js = AllByRecursion (λ (i : ℕ). i ≤ j) js

pub below_next : (j : ℕ) (js : List ℕ) → NoneAbove j js → AllByRecursion (λ (i : ℕ). i < suc j) js
below_next j [] none = tt
below_next j (i ∷ js) none = (omega (arith, none.0), below_next j js none.1)

NeverFalls-one : (j : ℕ) (js : List ℕ) → NoneAbove j js → NeverFalls js → NeverFalls (j ∷ js)
NeverFalls-one j [] none falls = tt
NeverFalls-one j (i ∷ js) none falls = (none.0, falls)

pub is_drawn : (a : Keyed) (j : ℕ) → on_in a ≡ Some j → a ≡ On j
is_drawn a j is = grind arith

-- the draw of an accepted unit is On there, and it is at least each of those before it
pub on_there : (plan : Plan) (h : History) (e : Event) (port : PortName) (unit : UnitName) (effects : List Effect)
    (by : AcceptedBy plan h e port unit effects)
    → key_in (port_keys h port (receiving_sub_stream port by.packet)) by.packet.prefix.k ≡ On unit.draw
on_there plan h e port unit effects by = is_drawn
    (key_in (port_keys h port (receiving_sub_stream port by.packet)) by.packet.prefix.k) unit.draw by.passed.live

pub none_above : (plan : Plan) → DrawFacts plan → (h : History) (e : Event) (port : PortName) (unit : UnitName)
    (effects : List Effect)
    → CauseLaw plan ((e, Accepted port unit effects) ∷ h) → NoneAbove unit.draw (draws_got h (received_in port unit))
none_above plan facts h e port unit effects cause =
    let by = accepted_by plan h e port unit effects cause.0 in
    let p = by.packet in
    subst (λ (t : SubStream). NoneAbove unit.draw (draws_got h t)) (sym (received_there plan h port p unit by.passed))
    (facts.above_got h cause.1 port p.prefix.stream p.prefix.sub p.prefix.k unit.draw
    (on_there plan h e port unit effects by))

-- it is from Base on
pub from_base : (plan : Plan) → DrawFacts plan → (h : History) (e : Event) (port : PortName) (unit : UnitName)
    (effects : List Effect)
    → CauseLaw plan ((e, Accepted port unit effects) ∷ h) → base h port.line unit.stream ≤ unit.draw
from_base plan facts h e port unit effects cause =
    let by = accepted_by plan h e port unit effects cause.0 in
    let p = by.packet in
    let least = leb-true _ _
    (facts.from_base h cause.1 port (receiving_sub_stream port p) p.prefix.k unit.draw
    (on_there plan h e port unit effects by)) in
    subst (λ (t : SubStream). base h t.line t.stream ≤ unit.draw) (sym (received_there plan h port p unit by.passed))
    least

pub draws_never_fall : (plan : Plan) → DrawFacts plan → (h : History) → CauseLaw plan h → (s : SubStream)
    → NeverFalls (draws_got h s)
unfolding draws_got
draws_never_fall plan facts [] cause s = tt
draws_never_fall plan facts ((e, Accepted port unit effects) ∷ h) cause s =
    let falls = draws_never_fall plan facts h cause.1 s in
    elim (cases_Bool (is_same (received_in port unit) s)) [
      | inl here ↦
          let same = same_stream (received_in port unit) s here in
          let none = subst (λ (t : SubStream). NoneAbove unit.draw (draws_got h t)) same
          (none_above plan facts h e port unit effects cause) in
          rw here (NeverFalls-one unit.draw (draws_got h s) none falls)
      | inr other ↦ rw other falls
    ]
draws_never_fall plan facts (_ ∷ h) cause s = draws_never_fall plan facts h cause.1 s
