-- Events that change nothing, events that have a verdict or none, room that is taken first, and what is said of events
-- on interfaces.
use Rattle.all_links.proofs.Terms.{◌≡◌, ◌+◌, List, refl, ap, sym, ◌∙◌, subst, arith, Plan, LinkState, LinkPacket, Some}
use Rattle.all_links.proofs.Terms.{Stepped, Verdict, History, PortsStandFor, Links, state_of, IsBounded, AreLinks}
use Rattle.all_links.proofs.Terms.{links_state, StepEndsBy, EndsIfSo, EndsIfAnswered, beside_in, Ends, BesidePorts}
use Rattle.all_links.proofs.Terms.{Interface, true, false, Option, None, IfSome, IsSome, is_some, EndsOrHasNone}
use Rattle.all_links.proofs.Terms.{HasNoVerdict, same_Some, step_of, HasAnswerOfLinks, answer_of_links, ℕ, ◌<◌}
use Rattle.all_links.proofs.Terms.{EndsView, port_on}
use Rattle.std.proofs.Common.{◌^◌}
use Rattle.ide_types.specs.declared.port.PortName.{PortName}
use Rattle.ide_port.specs.{PortEnd, PortUnitsAtMost}
use Rattle.ide_port.proofs.Units.{port-more}
use Rattle.script_events.specs.declared.event.Event.{Event}
use Rattle.script_events.specs.declared.event.InterfaceEvent.{InterfaceEvent}

-- ---- how many units

-- no event finished or accepted more than one at an end
pub few_units : (v : EndsView) (packets : List LinkPacket) (steps : ℕ) → steps < 2 ^ 28 → IsBounded v packets steps
    → (end : PortName) (e : PortEnd) → port_on v end ≡ Some e → PortUnitsAtMost (2 ^ 40) e
few_units v packets steps less bounded end e at = port-more steps (2 ^ 40) e (omega (arith, less))
    (bounded.units end e at)

-- ---- events that change nothing
pub nothing_steps : {IsSo : BesidePorts → Type 0} {step : BesidePorts → LinkState → Stepped} {verdict w : Verdict}
    {old new : Links} (plan : Plan)
    → verdict ≡ w → new ≡ record old { steps = old.steps + 1 } → IsBounded old.ends old.packets.packets old.steps
    → ((b : BesidePorts) → IsSo b → (h : History) → AreLinks plan old.ends old.keeper.keys
    → PortsStandFor plan (links_state plan old) h
    → step (beside_in old b) (links_state plan old) ≡ (w, links_state plan old))
    → StepEndsBy IsSo step plan verdict old new
nothing_steps {IsSo} {step} {verdict} {w} {old} {new} plan says is bounded same =
    subst (λ (s : Links). StepEndsBy IsSo step plan verdict old s) (sym is) (record {
      counted = refl;
      many = refl;
      regions = refl;
      bounded = record {
        few = bounded.few;
        units = λ end e at. port-more old.steps (old.steps + 1) e (omega arith) (bounded.units end e at);
        sealed_here = bounded.sealed_here;
      };
      ends = λ b so h links stands.
          let made = same b so h links stands in record {
            verdict_is = says ∙ ap (λ (x : Stepped). x.0) (sym made);
            state_is = ap (λ (x : Stepped). x.1) (sym made);
            links = links;
          };
    })

pub nothing_changes : {IsSo : BesidePorts → Type 0} {verdict w : Verdict} {old new : Links} (plan : Plan) (e : Event)
    → verdict ≡ w → new ≡ record old { steps = old.steps + 1 } → IsBounded old.ends old.packets.packets old.steps
    → ((b : BesidePorts) → IsSo b → (h : History) → AreLinks plan old.ends old.keeper.keys
    → PortsStandFor plan (links_state plan old) h
    → step_of plan (beside_in old b) (links_state plan old) e ≡ (w, links_state plan old))
    → EndsIfSo IsSo plan verdict old new e
nothing_changes {IsSo} {verdict} {w} {old} {new} plan e says is bounded same =
    nothing_steps {IsSo = IsSo} {step = λ b st. step_of plan b st e} plan says is bounded same

-- ---- a verdict, or none

pub ends_as : (plan : Plan) (o : Option Verdict) (old new : Links) (e : Event) → ((verdict : Verdict) → o ≡ Some verdict
    → EndsIfAnswered plan verdict old new e) → (o ≡ None → HasNoVerdict plan old e) → EndsOrHasNone plan o old new e
ends_as plan (Some verdict) old new e ends none = ends verdict refl
ends_as plan None old new e ends none = none refl

pub if_some : (o : Option Verdict) (P : Verdict → Type 0) → ((verdict : Verdict) → o ≡ Some verdict → P verdict)
    → IfSome o P
if_some (Some verdict) P each = each verdict refl
if_some None P each = tt

pub some_none : {o : Option Verdict} → IsSome o → o ≡ None → ⊥
some_none some none = let same : false ≡ true = subst (λ (o : Option Verdict). is_some o ≡ true) none some in absurd cc

-- ---- room that is taken first

pub reserved : {IsSo : BesidePorts → Type 0} {step : BesidePorts → LinkState → Stepped} {verdict : Verdict}
    {new : Links}
    (plan : Plan) (old mid : Links) → mid ≡ record old { packets = mid.packets }
    → mid.packets.packets ≡ old.packets.packets → StepEndsBy IsSo step plan verdict mid new
    → StepEndsBy IsSo step plan verdict old new
reserved {IsSo} {step} {verdict} {new} plan old mid is same x =
    from (subst (λ (m : Links). StepEndsBy IsSo step plan verdict m new) is x)
  where
    from : StepEndsBy IsSo step plan verdict (record old { packets = mid.packets }) new
        → StepEndsBy IsSo step plan verdict old new
    from y = record {
      counted = y.counted;
      bounded = y.bounded;
      many = y.many;
      regions = y.regions;
      ends = λ b by h links stands.
          subst (λ (ps : List LinkPacket). Ends plan new verdict
          (step (beside_in old b) (state_of plan old.ends old.keeper.keys ps)))
          same (y.ends b by h links
          (subst (λ (ps : List LinkPacket). PortsStandFor plan (state_of plan old.ends old.keeper.keys ps) h) (sym same)
          stands));
    }

-- ---- events on interfaces

-- the step of an event that has a verdict
pub answers : {verdict : Verdict} {e : InterfaceEvent} (old : Links) → Some verdict ≡ answer_of_links old e
    → (b : BesidePorts) (plan : Plan) → HasAnswerOfLinks old (Interface e) b → (st : LinkState)
    → step_of plan (beside_in old b) st (Interface e) ≡ (verdict, st)
unfolding step_of
answers {verdict} {e} old says b plan by st =
    ap (λ (w : Verdict). (w, st)) (sym (same_Some verdict (b.answer e) (says ∙ by e refl)))

-- a verdict that changes nothing
pub only_says : {verdict w : Verdict} {old new : Links} (plan : Plan) (e : InterfaceEvent)
    → Some w ≡ answer_of_links old e → verdict ≡ w → new ≡ record old { steps = old.steps + 1 }
    → IsBounded old.ends old.packets.packets old.steps → EndsIfAnswered plan verdict old new (Interface e)
only_says {verdict} {w} {old} {new} plan e due says is bounded =
    nothing_changes plan (Interface e) says is bounded (λ b by h links stands. answers old due b plan by _)
