-- The posted counts of what was got sum to no more than the posted packets that were got.
use Rattle.std.proofs.Common.{◌≡◌, ◌≢◌, ℕ, ◌<◌, ◌≤◌, true, List, [], ◌∷◌, ◌++◌, length, sum_by, Some, refl, ap, sym}
use Rattle.std.proofs.Common.{◌∙◌, subst, inl, inr, ◌⊎◌, arith, length-append}
use Rattle.std.proofs.lemmas.Bool.Decides.{nat_tests}
use Rattle.ide_types.specs.Sub.{sub_bits}
use Rattle.ide_types.specs.declared.port.PortName.{PortName}
use Rattle.script_events.specs.declared.event.Event.{Event}
use Rattle.script_events.specs.declared.event.Event.TheVariants.{Establish}
use Rattle.event_verdicts.specs.declared.verdict.Verdict.{Verdict}
use Rattle.event_verdicts.specs.declared.verdict.Verdict.TheVariants.{Accepted}
use Rattle.event_verdicts.specs.declared.verdict.UnitName.{UnitName}
use Rattle.event_verdicts.specs.declared.verdict.Effect.{Effect}
use Rattle.ide_prefix.specs.Packet.{Packet}
use Rattle.ide_types.specs.declared.plan.Plan.{Plan}
use Rattle.spec_keys.specs.Keys.{Keyed, On, key_in, on_in}
use Rattle.spec_keys.specs.Operations.{Begun}
use Rattle.spec_keys.specs.History.{History, manager, draws, base, begun_of_draw}
use Rattle.spec_keys.proofs.Owners.{begun_below, after_longer}
use Rattle.spec_links.specs.Plan.{SubStream, is_same}
use Rattle.spec_links.specs.History.{port_keys, arrived_packet, received_in, packets_in_hold, pending_packets}
use Rattle.spec_links.specs.History.{got_since, posted_lane, meets_counts}
use Rattle.spec_links.specs.Due.{due, unit_packets_ended}
use Rattle.spec_links.specs.Cause.{CauseLaw}
use Rattle.spec_links.proofs.Tests.{same_stream}
use Rattle.spec_links.proofs.Causes.{AcceptedBy, accepted_by, unit_ending, packet_that_came, numbered}
use Rattle.law_sealing.proofs.{accepted_on, on_is_owned}
use Rattle.law_delivery.specs.PostedCounts.{CountsMet, CountLaw, CountLawHolds}

abbrev posted_sum : List Packet → ℕ
posted_sum ps = sum_by (λ (p : Packet). p.prefix.posted) ps

-- the counts of a sub-stream, of draws from this one on, sum to no more than the posted packets of such draws
abbrev IsMet : Plan → History → SubStream → ℕ → Type 0
IsMet plan h s from = posted_sum (got_since plan h s from) ≤ length (got_since plan h (posted_lane s) from)

-- the packets that an accepted unit adds to its sub-stream
abbrev packets_added : Plan → History → Event → SubStream → UnitName → List Packet
packets_added plan h e s unit = packets_in_hold plan h s unit.draw unit.unit ++ arrived_packet plan h e ∷ []

-- ---- of draws that were not made nothing was got

-- all draws that were made are below this one
abbrev MadeBelow : History → ℕ → Type 0
MadeBelow h from = (j : ℕ) (x : Begun) → begun_of_draw (manager h).begun j ≡ Some x → j < from

made_before : (h : History) (e : Event) (w : Verdict) (from : ℕ) → MadeBelow ((e, w) ∷ h) from → MadeBelow h from
unfolding manager
made_before h e w from below j x is = below j x (after_longer (manager h) e w j x is)

on_of : (a : Keyed) (j : ℕ) → on_in a ≡ Some j → a ≡ On j
on_of a j is = grind arith

got_below : (plan : Plan) (h : History) (e : Event) (port : PortName) (unit : UnitName) (effects : List Effect)
    (from : ℕ) → Accepted port unit effects ≡ due plan h e → MadeBelow h from → unit.draw < from
got_below plan h e port unit effects from is below =
    let on = accepted_on plan h e port unit effects is in
    let s = received_in port unit in
    below unit.draw _ (on_is_owned h port s on.0 unit.draw (on_of (key_in (port_keys h port s) on.0) unit.draw on.1))

none_more : (plan : Plan) (h : History) (e : Event) (w : Verdict) (s : SubStream) (from : ℕ)
    → w ≡ due plan h e → MadeBelow h from → got_since plan h s from ≡ [] → got_since plan ((e, w) ∷ h) s from ≡ []
unfolding got_since
none_more plan h e (Accepted port unit effects) s from is below none =
    grind (arith, nat_tests, got_below plan h e port unit effects from is below, none)
none_more plan h e w s from is below none = none

none_from : (plan : Plan) (h : History) → CauseLaw plan h → (s : SubStream) (from : ℕ) → MadeBelow h from
    → got_since plan h s from ≡ []
unfolding got_since
none_from plan [] cause s from below = refl
none_from plan ((e, w) ∷ h) cause s from below =
    let before = made_before h e w from below in
    none_more plan h e w s from cause.0 before (none_from plan h cause.1 s from before)

-- ---- one more pair

-- Base stays, or is the next draw
base_moves : (h : History) (e : Event) (w : Verdict) (line stream : ℕ)
    → (base ((e, w) ∷ h) line stream ≡ base h line stream) ⊎ (base ((e, w) ∷ h) line stream ≡ draws h)
unfolding base
base_moves h (Establish l t loss) w line stream = grind arith
base_moves h e w line stream = inl refl

-- what the verdict that accepts a unit has tested
abbrev IsMetWith : Plan → History → SubStream → List Packet → Type 0
IsMetWith plan h s unit = posted_sum (got_since plan h s (base h s.line s.stream) ++ unit) ≤ length
    (got_since plan h (posted_lane s) (base h s.line s.stream))

tested : (plan : Plan) (h : History) (s : SubStream) (unit : List Packet) → sub_bits s.sub ≢ 0
    → meets_counts plan h s unit ≡ true → IsMetWith plan h s unit
unfolding meets_counts
tested plan h s unit other met = grind (arith, nat_tests, met, other)

added_is : (plan : Plan) (h : History) (e : Event) (port : PortName) (unit : UnitName) (effects : List Effect)
    → (by : AcceptedBy plan h e port unit effects)
    → packets_added plan h e (received_in port unit) unit ≡ unit_packets_ended plan h port (unit_ending by.packet unit)
added_is plan h e port unit effects by =
    let s = received_in port unit in
    ap (λ (n : ℕ). packets_in_hold plan h s unit.draw n ++ arrived_packet plan h e ∷ [])
    (numbered plan h port by.packet unit by.passed)
    ∙ ap (λ (q : Packet). pending_packets plan h s unit.draw ++ q ∷ [])
    (packet_that_came plan h e port by.packet by.came)

with_unit : (plan : Plan) (h : History) (e : Event) (port : PortName) (unit : UnitName) (effects : List Effect)
    → Accepted port unit effects ≡ due plan h e → (s : SubStream) → sub_bits s.sub ≢ 0 → received_in port unit ≡ s
    → IsMetWith plan h s (packets_added plan h e s unit)
with_unit plan h e port unit effects is s other same =
    let by = accepted_by plan h e port unit effects is in
    subst (λ (t : SubStream). sub_bits t.sub ≢ 0 → IsMetWith plan h t (packets_added plan h e t unit)) same
    (λ other. rw (added_is plan h e port unit effects by) (tested plan h (received_in port unit) _ other by.counts))
    other

-- at the base before the pair
kept : (plan : Plan) (h : History) (e : Event) (w : Verdict) → w ≡ due plan h e → (s : SubStream) → sub_bits s.sub ≢ 0
    → IsMet plan h s (base h s.line s.stream) → IsMet plan ((e, w) ∷ h) s (base h s.line s.stream)
unfolding got_since
kept plan h e (Accepted port unit effects) is s other before =
    let from = base h s.line s.stream in
    let sum = λ (same : is_same (received_in port unit) s ≡ true).
    with_unit plan h e port unit effects is s other (same_stream (received_in port unit) s same) in
    grind (
      arith,
      nat_tests,
      sum,
      before,
      length-append (got_since plan h (posted_lane s) from)
          (packets_added plan h e (posted_lane s) unit),
    )
kept plan h e w is s other before = before

next_met : (plan : Plan) (h : History) (e : Event) (w : Verdict) → CauseLaw plan ((e, w) ∷ h) → CountsMet plan h
    → CountsMet plan ((e, w) ∷ h)
next_met plan h e w cause before s other = elim (base_moves h e w s.line s.stream) [
  | inl same ↦ subst (IsMet plan ((e, w) ∷ h) s) (sym same) (kept plan h e w cause.0 s other (before s other))
  | inr new ↦ subst (IsMet plan ((e, w) ∷ h) s) (sym new) (rw none (omega arith))
]
  where
    below : MadeBelow h (draws h)
    below j x is = begun_below (manager h).begun j x is

    none : got_since plan ((e, w) ∷ h) s (draws h) ≡ []
    none = none_more plan h e w s (draws h) cause.0 below (none_from plan h cause.1 s (draws h) below)

-- ---- after each event

met : (plan : Plan) (h : History) → CauseLaw plan h → CountsMet plan h
unfolding got_since
met plan [] cause s other = omega arith
met plan ((e, w) ∷ h) cause s other = next_met plan h e w cause (met plan h cause.1) s other

each_met : (plan : Plan) (h : History) → CauseLaw plan h → CountLaw plan h
each_met plan [] cause = met plan [] cause
each_met plan (pair ∷ h) cause = (met plan (pair ∷ h) cause, each_met plan h cause.1)

pub count_law : CountLawHolds
count_law plan fits h cause = each_met plan h cause
