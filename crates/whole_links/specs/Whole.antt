-- What an event makes of all links.
use Rattle.std.specs.Prelude.{◌≡◌, ◌+◌, length, Option, Some, None, Result, Ok, Err}
use Rattle.ide_types.specs.declared.memory.OutOfMemory.{OutOfMemory}
use Rattle.ide_types.specs.declared.plan.Plan.{Plan}
use Rattle.script_events.specs.declared.event.Event.{Event}
use Rattle.script_events.specs.declared.event.Event.TheVariants.{Interface}
use Rattle.script_events.specs.declared.event.InterfaceEvent.{InterfaceEvent}
use Rattle.event_verdicts.specs.declared.verdict.Verdict.{Verdict}
use Rattle.spec_keys.specs.History.{History}
use Rattle.machine_ports.specs.Machine.{step_of}
use Rattle.machine_ports.specs.Stands.{PortsStandFor}
use Rattle.link_stores.specs.{new_accesses}
use Rattle.all_links.specs.{AreLinks, IsBounded}
use Rattle.all_links.specs.States.{links_state}
use Rattle.all_links.specs.Links.{IsFirst, Ends, Stays, HasNoVerdict}
use Rattle.all_links.specs.Accesses.{AccessesStay}
use Rattle.all_links.specs.Besides.{answer_of_links}
use Rattle.whole_links.specs.declared.whole.WholeLinks.{WholeLinks}
use Rattle.whole_links.specs.Besides.{beside_whole}

-- each link has its accesses
abbrev pub HasAllAccesses : WholeLinks → Type 0
HasAllAccesses s = length s.accesses ≡ length s.links.ends.links

-- what always holds
pub record IsBoundedWhole (s : WholeLinks) : Type 0 where
  pub bounded : IsBounded s.links.ends s.links.packets.packets s.links.steps
  pub whole : HasAllAccesses s

-- before the first event
pub record IsFirstWhole (plan : Plan) (s : WholeLinks) : Type 0 where
  pub links : IsFirst plan s.links
  pub accesses : s.accesses ≡ new_accesses plan.links

-- events on interfaces have these answers
abbrev pub IsSaid : (InterfaceEvent → Verdict) → WholeLinks → Event → Type 0
IsSaid answer old event = (e : InterfaceEvent) → event ≡ Interface e → answer_of_links old.links e ≡ Some (answer e)

-- An event with this verdict: if the links are those of the plan, and stand for some history, they are then in the
-- state after it, whatever is said of other events on interfaces.
pub record WholeEnds (plan : Plan) (verdict : Verdict) (old new : WholeLinks) (event : Event) : Type 0 where
  pub counted : new.links.steps ≡ old.links.steps + 1
  pub bounded : IsBoundedWhole new
  pub regions : new.links.trusted.contents.regions ≡ old.links.trusted.contents.regions
  pub ends : (answer : InterfaceEvent → Verdict) → IsSaid answer old event
      → old.links.trusted.contents.regions ≡ plan.memory → (h : History)
      → AreLinks plan old.links.ends old.links.keeper.keys → PortsStandFor plan (links_state plan old.links) h
      → Ends plan new.links verdict (step_of plan (beside_whole plan old answer) (links_state plan old.links) event)

-- for want of memory all that is kept is as before
pub record WholeStays (old new : WholeLinks) : Type 0 where
  pub links : Stays old.links new.links
  pub accesses : AccessesStay old.accesses new.accesses

-- an event with a verdict, or one that has none
abbrev pub WholeEndsOrHasNone : Plan → Option Verdict → WholeLinks → WholeLinks → Event → Type 0
WholeEndsOrHasNone plan (Some verdict) old new event = WholeEnds plan verdict old new event
WholeEndsOrHasNone plan None old new event = HasNoVerdict plan old.links event

abbrev pub WholeEndsOrStays : Plan → Result Verdict OutOfMemory → WholeLinks → WholeLinks → Event → Type 0
WholeEndsOrStays plan (Ok verdict) old new event = WholeEnds plan verdict old new event
WholeEndsOrStays plan (Err e) old new event = WholeStays old new

abbrev pub WholeEndsOrHasNoneOrStays : Plan → Result (Option Verdict) OutOfMemory → WholeLinks → WholeLinks → Event
    → Type 0
WholeEndsOrHasNoneOrStays plan (Ok verdict) old new event = WholeEndsOrHasNone plan verdict old new event
WholeEndsOrHasNoneOrStays plan (Err e) old new event = WholeStays old new
