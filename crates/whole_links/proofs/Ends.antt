-- Events that the links have a verdict of, with all that is said beside their ports.
use Rattle.std.proofs.Common.{◌≡◌, length, refl, ap, sym, subst, ◌∙◌, List, [], ◌+◌, true}
use Rattle.std.proofs.lemmas.Bool.{true≢false}
use Rattle.std.specs.Prelude.{Option, Some, None, Result, Ok, Err, IsErr}
use Rattle.ide_types.specs.declared.memory.OutOfMemory.{OutOfMemory}
use Rattle.ide_types.specs.declared.plan.Plan.{Plan}
use Rattle.script_events.specs.declared.event.Event.{Event}
use Rattle.script_events.specs.declared.event.InterfaceEvent.{InterfaceEvent}
use Rattle.event_verdicts.specs.declared.verdict.Verdict.{Verdict}
use Rattle.script_events.specs.declared.event.Event.TheVariants.{Absent, Interface}
use Rattle.event_verdicts.specs.declared.verdict.Verdict.TheVariants as v
use Rattle.machine_ports.specs.Machine.{BesidePorts, LinkState}
unfoldable use Rattle.machine_ports.specs.Machine.{step_of}
use Rattle.all_links.specs.Besides.{beside_in}
use Rattle.all_links.proofs.Finds.{nothing_changes}
use Rattle.all_links.specs.{IsBounded}
use Rattle.all_links.specs.declared.links.Links.{Links}
use Rattle.all_links.specs.States.{links_state}
use Rattle.all_links.specs.Links.{Ends, EndsIfSo, EndsIfAnswered, EndsOrHasNone, EndsOrHasNoneOrStays, Stays}
use Rattle.all_links.specs.Accesses.{AccessesStay}
use Rattle.link_stores.specs.declared.link.LinkAccesses.{LinkAccesses}
use Rattle.join_ends.proofs.Turns.{stays_all}
use Rattle.whole_links.specs.declared.whole.WholeLinks.{WholeLinks}
use Rattle.whole_links.specs.Besides.{beside_whole}
use Rattle.whole_links.specs.Whole.{HasAllAccesses, IsBoundedWhole, IsSaid, WholeEnds, WholeStays, WholeEndsOrHasNone}
use Rattle.whole_links.specs.Whole.{WholeEndsOrHasNoneOrStays}

-- what is said of every plan may be taken of this one
pub any_plan : Plan
any_plan = record { version = 0; portion = 0; units_per_key = 0; pool = []; links = []; memory = []; peers = [] }

-- an event that the links bound leaves all of it bounded
pub bounded_with : {verdict : Verdict} {event : Event} (old : WholeLinks) (mid : Links)
    → EndsIfAnswered any_plan verdict old.links mid event → HasAllAccesses old
    → IsBoundedWhole (record { links = mid; accesses = old.accesses })
bounded_with old mid x whole = record { bounded = x.bounded; whole = whole ∙ sym x.many }

-- what is said beside the ports is so
pub ends_if : {IsSo : BesidePorts → Type 0} {verdict : Verdict} {old new : WholeLinks} {event : Event} (plan : Plan)
    → EndsIfSo IsSo plan verdict old.links new.links event → HasAllAccesses old → length new.accesses
    ≡ length old.accesses
    → ((answer : InterfaceEvent → Verdict) → IsSaid answer old event → old.links.trusted.contents.regions ≡ plan.memory
    → IsSo (beside_whole plan old answer)) → WholeEnds plan verdict old new event
ends_if {IsSo} {verdict} {old} {new} {event} plan x whole many so = record {
  counted = x.counted;
  bounded = record { bounded = x.bounded; whole = many ∙ whole ∙ sym x.many };
  regions = x.regions;
  ends = λ answer by regions h links stands.
      x.ends (beside_whole plan old answer) (so answer by regions) h links stands;
}

pub ends_with : {verdict : Verdict} {old new : WholeLinks} {event : Event} (plan : Plan)
    → EndsIfAnswered plan verdict old.links new.links event → HasAllAccesses old → new.accesses ≡ old.accesses
    → WholeEnds plan verdict old new event
ends_with plan x whole same = ends_if plan x whole (ap length same) (λ answer by regions. by)

-- an event, and how it is spelled
pub ends_of : {verdict : Verdict} {event : Event} (plan : Plan) (old new : WholeLinks) (e : Event) (mid : Links)
    → event ≡ e → EndsIfAnswered plan verdict old.links mid e → HasAllAccesses old → new.links ≡ mid
    → new.accesses ≡ old.accesses → WholeEnds plan verdict old new event
ends_of {verdict} {event} plan old new e mid is x whole links same =
    subst (λ (v : Event). WholeEnds plan verdict old new v) (sym is)
    (ends_with plan (subst (λ (s : Links). EndsIfAnswered plan verdict old.links s e) (sym links) x) whole same)

-- what is noted of accesses once the links have a verdict
pub ends_noted : {verdict : Verdict} {event : Event} (plan : Plan) (old new : WholeLinks) (mid : Links)
    → EndsIfAnswered plan verdict old.links mid event → IsBoundedWhole old → new.links ≡ mid
    → length new.accesses ≡ length old.accesses → WholeEnds plan verdict old new event
ends_noted {verdict} {event} plan old new mid x bounded same many =
    ends_if plan (subst (λ (s : Links). EndsIfAnswered plan verdict old.links s event) (sym same) x) bounded.whole many
    (λ answer by regions. by)

pub whole_noted : {verdict : Verdict} {event : Event} (plan : Plan) (old mid new : WholeLinks)
    → WholeEnds plan verdict old mid event → new.links ≡ mid.links → length new.accesses ≡ length mid.accesses
    → WholeEnds plan verdict old new event
whole_noted {verdict} {event} plan old mid new x same many = record {
  counted = ap (λ (s : Links). s.steps) same ∙ x.counted;
  bounded = record {
    bounded = subst (λ (s : Links). IsBounded s.ends s.packets.packets s.steps) (sym same) x.bounded.bounded;
    whole = many ∙ x.bounded.whole ∙ ap (λ (s : Links). length s.ends.links) (sym same);
  };
  regions = ap (λ (s : Links). s.trusted.contents.regions) same ∙ x.regions;
  ends = λ answer by regions h links stands.
      subst (λ (s : Links). Ends plan s verdict
      (step_of plan (beside_whole plan old answer) (links_state plan old.links) event)) (sym same)
      (x.ends answer by regions h links stands);
}

-- ---- a verdict, or none

pub ends_as : (plan : Plan) (o : Option Verdict) (old new : WholeLinks) (event : Event)
    → EndsOrHasNone plan o old.links new.links event → HasAllAccesses old → length new.accesses ≡ length old.accesses
    → WholeEndsOrHasNone plan o old new event
ends_as plan (Some verdict) old new event x whole many = ends_if plan x whole many (λ answer by regions. by)
ends_as plan None old new event x whole many = x

pub stays_with : {old new : WholeLinks} → Stays old.links new.links → new.accesses ≡ old.accesses → WholeStays old new
stays_with {old} {new} x same = record {
  links = x;
  accesses = subst (λ (ys : List LinkAccesses). AccessesStay old.accesses ys) (sym same) (stays_all old.accesses);
}

-- of an event on an interface, and how it is spelled
pub ends_as_or : (plan : Plan) (r : Result (Option Verdict) OutOfMemory) (old new : WholeLinks)
    (event e : InterfaceEvent) → event ≡ e → EndsOrHasNoneOrStays plan r old.links new.links (Interface e)
    → HasAllAccesses old
    → new.accesses ≡ old.accesses → WholeEndsOrHasNoneOrStays plan r old new (Interface event)
ends_as_or plan (Ok o) old new event e is x whole same =
    subst (λ (y : InterfaceEvent). WholeEndsOrHasNone plan o old new (Interface y)) (sym is)
    (ends_as plan o old new (Interface e) x whole (ap length same))
ends_as_or plan (Err memory) old new event e is x whole same = stays_with x same

-- for want of memory
pub err_stays : (plan : Plan) (r : Result (Option Verdict) OutOfMemory) (old new : WholeLinks) (event : Event) → IsErr r
    → Stays old.links new.links → new.accesses ≡ old.accesses → WholeEndsOrHasNoneOrStays plan r old new event
err_stays plan (Ok o) old new event is x same = absurd (true≢false (sym is))
err_stays plan (Err e) old new event is x same = stays_with x same

-- ---- nothing

pub absent_step : (plan : Plan) (b : BesidePorts) (st : LinkState) → step_of plan b st Absent ≡ (v.Nothing, st)
unfolding step_of
absent_step plan b st = refl

-- whatever is said beside the ports
pub nothing_ends : {verdict : Verdict} {old new : WholeLinks} (plan : Plan) (e : Event)
    → ((b : BesidePorts) → step_of plan b (links_state plan old.links) e ≡ (v.Nothing, links_state plan old.links))
    → verdict ≡ v.Nothing → new.links ≡ record old.links { steps = old.links.steps + 1 }
    → new.accesses ≡ old.accesses → IsBoundedWhole old → WholeEnds plan verdict old new e
nothing_ends {verdict} {old} {new} plan e step says is same bounded =
    ends_if plan
    (nothing_changes {IsSo = λ b. true ≡ true} plan e says is bounded.bounded
    (λ b so h links stands. step (beside_in old.links b)))
    bounded.whole (ap length same) (λ answer by regions. refl)
