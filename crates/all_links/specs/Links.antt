-- What an event makes of all links.
use Rattle.std.specs.Prelude.{◌≡◌, ◌+◌, ℕ, ⊤, Bool, true, List, [], length, replicate, Option, Some, None, Result, Ok, Err}
use Rattle.ide_types.specs.declared.memory.OutOfMemory.{OutOfMemory}
use Rattle.ide_types.specs.declared.port.PortName.{PortName}
use Rattle.ide_types.specs.declared.plan.Plan.{Plan}
use Rattle.script_events.specs.declared.event.Event.{Event}
use Rattle.event_verdicts.specs.declared.verdict.Verdict.{Verdict}
use Rattle.spec_keys.specs.History.{History}
use Rattle.spec_links.specs.Plan.{has_port}
use Rattle.machine_ports.specs.Machine.{BesidePorts, LinkState, Stepped, step_of, stepped_bytes, stepped_tlp}
use Rattle.machine_ports.specs.Replies.{ReadCompletion}
use Rattle.tlp_layout.specs.Reading.{read_of}
use Rattle.machine_ports.specs.Stands.{PortsStandFor}
use Rattle.key_slots.specs.{new_pool}
use Rattle.key_host.specs.Managers.{new_manager}
use Rattle.interface_host.specs.Managers.{new_interface_manager as new_interfaces}
use Rattle.trusted_memory.specs.{new_memory}
use Rattle.line_arrivals.specs.{new_all_ends, AreLinks, IsBounded}
use Rattle.all_links.specs.declared.links.Links.{Links}
use Rattle.all_links.specs.Besides.{IsAnswered, HasAnswerOfLinks, beside_in}
use Rattle.all_links.specs.States.{links_state}

-- The links before the first event: the ends of all lines without keys, the managers with no operation under way and no
-- interface locked, no packets, and memory that is 0.
pub record IsFirst (plan : Plan) (s : Links) : Type 0 where
  pub ends : s.ends ≡ new_all_ends plan
  pub keys : s.keeper.keys ≡ record { manager = new_manager plan.links plan.peers; pool = new_pool plan.pool }
  pub interfaces : s.keeper.interfaces ≡ new_interfaces plan.links plan.portion
  pub peer_draws : s.keeper.peer_draws ≡ replicate 8 0
  pub packets : s.packets.packets ≡ []
  pub trusted : s.trusted ≡ new_memory plan.memory
  pub steps : s.steps ≡ 0

-- the links are those of the plan, and stand for some history
pub record StandsForSome (plan : Plan) (s : Links) : Type 0 where
  pub history : History
  pub links : AreLinks plan s.ends s.keeper.keys
  pub stands : PortsStandFor plan (links_state plan s) history

-- this verdict and the state after it
pub record Ends (plan : Plan) (new : Links) (verdict : Verdict) (step : Stepped) : Type 0 where
  pub verdict_is : verdict ≡ step.0
  pub state_is : links_state plan new ≡ step.1
  pub links : AreLinks plan new.ends new.keeper.keys

-- An event with this verdict: if the links are those of the plan, and stand for some history, they are then in the
-- state that this step gives, whatever else is said beside the ports that is so.
pub record StepEndsBy (IsSo : BesidePorts → Type 0) (step : BesidePorts → LinkState → Stepped) (plan : Plan)
    (verdict : Verdict)
    (old new : Links) : Type 0 where
  pub counted : new.steps ≡ old.steps + 1
  pub bounded : IsBounded new.ends new.packets.packets new.steps
  pub many : length new.ends.links ≡ length old.ends.links
  pub regions : new.trusted.contents.regions ≡ old.trusted.contents.regions
  pub ends : (b : BesidePorts) → IsSo b → (h : History) → AreLinks plan old.ends old.keeper.keys
      → PortsStandFor plan (links_state plan old) h
      → Ends plan new verdict (step (beside_in old b) (links_state plan old))

-- that of the event
abbrev pub EndsIfSo : (BesidePorts → Type 0) → Plan → Verdict → Links → Links → Event → Type 0
EndsIfSo IsSo plan verdict old new event = StepEndsBy IsSo (λ b st. step_of plan b st event) plan verdict old new

-- If the event is one on an interface, it has this verdict.
abbrev pub EndsIfAnswered : Plan → Verdict → Links → Links → Event → Type 0
EndsIfAnswered plan verdict old new event = EndsIfSo (HasAnswerOfLinks old event) plan verdict old new event

-- Bytes are sent at an end that the topology has.
abbrev pub EndsSending : Plan → Verdict → Links → Links → PortName → List ℕ → Bool → Bool → Type 0
EndsSending plan verdict old new end bytes more trusted =
    StepEndsBy (λ b. has_port plan end ≡ true) (λ b st. stepped_bytes plan b st end bytes more trusted) plan verdict old
    new

-- A completion is sealed, or refused.
abbrev pub EndsSealing : Plan → Verdict → Links → Links → ReadCompletion → Type 0
EndsSealing plan verdict old new c =
    StepEndsBy (λ b. ⊤) (λ b st. stepped_tlp plan st c (read_of c.bytes)) plan verdict old new

-- for want of memory all that is kept is as before
pub record Stays (old new : Links) : Type 0 where
  pub ends : new.ends ≡ old.ends
  pub keeper : new.keeper ≡ old.keeper
  pub trusted : new.trusted.contents ≡ old.trusted.contents
  pub packets : new.packets.packets ≡ old.packets.packets
  pub steps : new.steps ≡ old.steps

abbrev pub EndsOrStays : Plan → Result Verdict OutOfMemory → Links → Links → Event → Type 0
EndsOrStays plan (Ok verdict) old new event = EndsIfAnswered plan verdict old new event
EndsOrStays plan (Err e) old new event = Stays old new

abbrev pub EndsSendingOrStays : Plan → Result Verdict OutOfMemory → Links → Links → PortName → List ℕ → Bool → Bool
    → Type 0
EndsSendingOrStays plan (Ok verdict) old new end bytes more trusted = EndsSending plan verdict old new end bytes more
    trusted
EndsSendingOrStays plan (Err e) old new end bytes more trusted = Stays old new

abbrev pub EndsSealingOrStays : Plan → Result Verdict OutOfMemory → Links → Links → ReadCompletion → Type 0
EndsSealingOrStays plan (Ok verdict) old new c = EndsSealing plan verdict old new c
EndsSealingOrStays plan (Err e) old new c = Stays old new

-- The event has no verdict. That does not come while the links stand for some history and the event is answered.
abbrev pub HasNoVerdict : Plan → Links → Event → Type 0
HasNoVerdict plan old event = StandsForSome plan old → IsAnswered old event → ⊥

-- an event with a verdict, or one that has none
abbrev pub EndsOrHasNone : Plan → Option Verdict → Links → Links → Event → Type 0
EndsOrHasNone plan (Some verdict) old new event = EndsIfAnswered plan verdict old new event
EndsOrHasNone plan None old new event = HasNoVerdict plan old event

abbrev pub EndsOrHasNoneOrStays : Plan → Result (Option Verdict) OutOfMemory → Links → Links → Event → Type 0
EndsOrHasNoneOrStays plan (Ok verdict) old new event = EndsOrHasNone plan verdict old new event
EndsOrHasNoneOrStays plan (Err e) old new event = Stays old new
