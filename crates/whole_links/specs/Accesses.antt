-- What an event makes of the accesses of all links.
use Rattle.std.specs.Prelude.{ℕ, ◌≡◌, ◌==◌, ◌&&◌, not, Bool, true, false, if◌then◌else◌, List, [], ◌∷◌, length}
use Rattle.std.specs.Prelude.{slice_set, Option, Some, None}
use Rattle.std.specs.Option.{option_map_or}
use Rattle.ide_types.specs.declared.direction.Direction.{Direction}
use Rattle.ide_types.specs.declared.interface.BarPlan.{BarPlan}
use Rattle.ide_types.specs.declared.plan.Plan.{Plan}
use Rattle.ide_types.specs.declared.port.PortName.{PortName}
use Rattle.trusted_memory.specs.declared.queue.WaitingRead.{WaitingRead}
use Rattle.script_events.specs.declared.event.Event.{Event}
use Rattle.script_events.specs.declared.event.Event.TheVariants as event
use Rattle.script_events.specs.declared.event.AccessEvent.TheVariants as ae
use Rattle.script_events.specs.declared.event.InterfaceEvent.{InterfaceEvent}
use Rattle.script_events.specs.declared.event.InterfaceEvent.TheVariants as ie
use Rattle.event_verdicts.specs.declared.verdict.Verdict.{Verdict}
use Rattle.event_verdicts.specs.declared.verdict.Verdict.TheVariants as v
use Rattle.event_verdicts.specs.declared.access.AccessVerdict.TheVariants as av
use Rattle.spec_interfaces.specs.Exchanges.{carries, changes_device}
use Rattle.guarded_memory.specs.Happenings.{Happened, InterfaceReset, AllReset, InterfaceStopped}
use Rattle.spec_keys.specs.History.{History}
use Rattle.spec_links.specs.Guarded.{happens_by_packets}
use Rattle.spec_links.specs.History.{ArrivedBytes}
use Rattle.spec_links.specs.Hops.{HopTlp}
use Rattle.machine_ports.specs.Machine.{LinkState}
use Rattle.machine_ports.specs.Stands.{PortsStandFor}
use Rattle.link_stores.specs.declared.link.LinkAccesses.{LinkAccesses}
use Rattle.join_ends.specs.{waiting_next}
use Rattle.all_links.specs.{AreLinks, carried_next, unit_in, unit_tlps, waiting_reads_after}
use Rattle.interface_state.specs.Machine.{DeviceTdi}
use Rattle.all_links.specs.Accesses.{runs_in, device_draw, same_reads, same_floors, nothing_happens, same_carried}
use Rattle.all_links.specs.Accesses.{AccessesTurn, policy_in}
use Rattle.all_links.specs.Interfaces.{interface_named, named_device_interface}
use Rattle.all_links.specs.BesideAfter.{arrival_in_state}
use Rattle.all_links.specs.States.{links_state}
use Rattle.all_links.specs.declared.links.Links.{Links}
use Rattle.whole_links.specs.declared.whole.WholeLinks.{WholeLinks}

-- ---- answers to reads

-- an answer with this verdict takes the read that it answers: its completion was sealed, or it was dropped
abbrev pub takes_read : Verdict → Bool
takes_read (v.Sealed ds) = true
takes_read (v.Access (av.Dropped interface cause)) = true
takes_read verdict = false

-- ---- floors

abbrev pub floors_set : Links → ℕ → Option (ℕ × ℕ) → ℕ → List ℕ → List ℕ
floors_set s i None link floors = floors
floors_set s i (Some at) link floors = if at.0 == link then slice_set floors at.1 (device_draw s i at.0) else floors

-- of an interface that came into RUN
abbrev pub floors_if : Bool → Links → ℕ → ℕ → List ℕ → List ℕ
floors_if came s i link floors =
    if came then floors_set s i (interface_named s.keeper.interfaces s.ends.links i) link floors else floors

abbrev pub floors_started : Links → Links → ℕ → ℕ → List ℕ → List ℕ
floors_started old new i = floors_if (not (runs_in old i) && runs_in new i) new i

-- ---- the memory of devices

-- at the link of an interface at this place
abbrev pub happens_at : Bool → Option (ℕ × ℕ) → (ℕ → Happened) → ℕ → List (Option Happened)
happens_at happens None which link = []
happens_at happens (Some at) which link = if happens && (at.0 == link) then Some (which at.1) ∷ [] else []

abbrev pub bars_named : Links → ℕ → List BarPlan
bars_named s i = option_map_or (λ (t : DeviceTdi). t.plan.bars)
    (named_device_interface s.keeper.interfaces s.ends.links i) []

abbrev pub halted_in : Links → ℕ → Verdict → ℕ → List (Option Happened)
halted_in s i verdict link =
    happens_at (carries verdict 1) (interface_named s.keeper.interfaces s.ends.links i)
    (λ place. InterfaceStopped place (bars_named s i)) link

abbrev pub flr_at : Links → ℕ → Verdict → ℕ → List (Option Happened)
flr_at s i verdict link =
    happens_at (changes_device verdict) (interface_named s.keeper.interfaces s.ends.links i) InterfaceReset link

abbrev pub reset_happens : Verdict → ℕ → List (Option Happened)
reset_happens (v.Reset reset) link = if reset == link then Some AllReset ∷ [] else []
reset_happens verdict link = []

-- ---- TLPs at switches

-- a TLP was sealed
abbrev pub is_sealed : Verdict → Bool
is_sealed (v.Sealed ds) = true
is_sealed verdict = false

-- those that wait after an event that ends no unit had this verdict
abbrev pub carried_after_event : Event → Verdict → ℕ → Direction → List HopTlp → List HopTlp
carried_after_event e verdict link d = waiting_next [] link d e verdict

-- ---- by events

abbrev pub AccessesInterface : InterfaceEvent → Verdict → WholeLinks → WholeLinks → Type 0
AccessesInterface (ie.Start i loss) verdict old new =
    AccessesTurn same_reads (floors_started old.links new.links i) nothing_happens same_carried old.accesses
    new.accesses
AccessesInterface (ie.Halt i loss) verdict old new =
    AccessesTurn same_reads same_floors (halted_in new.links i verdict) same_carried old.accesses new.accesses
AccessesInterface (ie.Flr i) verdict old new =
    AccessesTurn same_reads same_floors (flr_at new.links i verdict) same_carried old.accesses new.accesses
AccessesInterface e verdict old new = new.accesses ≡ old.accesses

-- bytes arrive
pub record AccessesArrive (plan : Plan) (arrival : LinkState → Option ArrivedBytes) (e : Event) (verdict : Verdict)
    (old : Links) (xs ys : List LinkAccesses) : Type 0 where
  pub many : length ys ≡ length xs
  pub turn : (h : History) → AreLinks plan old.ends old.keeper.keys → PortsStandFor plan (links_state plan old) h
      → let ps = unit_in plan (links_state plan old) (arrival (links_state plan old)) in
      let statuses = (policy_in old.keeper.interfaces old.ends xs).statuses in
      AccessesTurn (waiting_reads_after plan statuses ps e verdict) same_floors
      (λ link. happens_by_packets plan statuses ps e verdict link)
      (carried_next (unit_tlps plan ps verdict) e verdict) xs ys

abbrev pub AccessesArriveInState : Plan → Event → Verdict → WholeLinks → WholeLinks → Type 0
AccessesArriveInState plan e verdict old new =
    AccessesArrive plan (arrival_in_state plan e) e verdict old.links old.accesses new.accesses

-- the reads that wait at a port after an event that ends no unit had this verdict
abbrev pub reads_after_event : Plan → Event → Verdict → PortName → List WaitingRead → List WaitingRead
reads_after_event plan e verdict port rs = waiting_reads_after plan (λ link. []) [] e verdict port rs

-- an answer to a read
abbrev pub AccessesAnswer : Plan → Event → Verdict → WholeLinks → WholeLinks → Type 0
AccessesAnswer plan e verdict old new =
    AccessesTurn (reads_after_event plan e verdict) same_floors nothing_happens same_carried old.accesses
    new.accesses

abbrev pub AccessesReset : Plan → Event → Verdict → WholeLinks → WholeLinks → Type 0
AccessesReset plan e verdict old new =
    AccessesTurn (reads_after_event plan e verdict) same_floors (reset_happens verdict)
    (carried_after_event e verdict)
    old.accesses new.accesses

abbrev pub AccessesForward : Event → Verdict → WholeLinks → WholeLinks → Type 0
AccessesForward e verdict old new =
    AccessesTurn same_reads same_floors nothing_happens (carried_after_event e verdict) old.accesses new.accesses

abbrev pub AccessesAfter : Plan → Event → Verdict → WholeLinks → WholeLinks → Type 0
AccessesAfter plan (event.Pass n) verdict old new = AccessesArriveInState plan (event.Pass n) verdict old new
AccessesAfter plan (event.Alter n at mask) verdict old new = AccessesArriveInState plan (event.Alter n at mask) verdict
    old
    new
AccessesAfter plan (event.Cut n len) verdict old new = AccessesArriveInState plan (event.Cut n len) verdict old new
AccessesAfter plan (event.Arrive port bytes) verdict old new =
    AccessesArriveInState plan (event.Arrive port bytes) verdict old new
AccessesAfter plan (event.Reset link ends) verdict old new = AccessesReset plan (event.Reset link ends) verdict old new
AccessesAfter plan (event.Interface e) verdict old new = AccessesInterface e verdict old new
AccessesAfter plan (event.Access (ae.Answer link)) verdict old new =
    AccessesAnswer plan (event.Access (ae.Answer link)) verdict old new
AccessesAfter plan (event.Access (ae.Respond link)) verdict old new =
    AccessesAnswer plan (event.Access (ae.Respond link)) verdict old new
AccessesAfter plan (event.Forward link d) verdict old new = AccessesForward (event.Forward link d) verdict old new
AccessesAfter plan e verdict old new = new.accesses ≡ old.accesses
