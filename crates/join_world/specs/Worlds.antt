-- The world of a run, and one step of it.
use Rattle.std.specs.Prelude.{ℕ, List, ◌≡◌, ◌+◌, ◌∷◌, []}
use Rattle.ide_types.specs.declared.plan.Plan.{Plan}
use Rattle.script_events.specs.declared.event.Event.{Event}
use Rattle.event_verdicts.specs.declared.verdict.Verdict.{Verdict}
use Rattle.spec_keys.specs.History.{History}
use Rattle.spec_links.specs.Due.{due}
use Rattle.machine_ports.specs.Machine.{LinkState}
use Rattle.machine_whole.specs.{StreamPoints}
use Rattle.machine_whole.specs.Machine.{Whole}
use Rattle.machine_whole.specs.Stands.{WholeStandsFor}
use Rattle.whole_links.specs.{AreLinks, EndsView, InterfacesView, links_state}
use Rattle.trusted_memory.specs.{MemoryContents}
use Rattle.whole_links.specs.declared.whole.WholeLinks.{WholeLinks}
use Rattle.whole_links.specs.Whole.{IsBoundedWhole}
use Rattle.join_world.specs.Whole.{AreDrawn, IsBeside}
use Rattle.link_stores.specs.declared.link.LinkAccesses.{LinkAccesses}
use Rattle.join_world.specs.Accesses.{AreAccesses, link_seen}

-- the topology, what is kept of its ports and of the manager's streams, the ends of each line with the interfaces of
-- devices, the manager of interfaces, the draw of each stream between devices, by its number, trusted memory, what
-- stands at each link for reads, for the memory of its device and at its switch, and how many events came
pub record WorldView : Type 0 where
  pub plan : Plan
  pub state : LinkState
  pub ends : EndsView
  pub interfaces : InterfacesView
  pub peer_draws : List ℕ
  pub memory : MemoryContents
  pub accesses : List LinkAccesses
  pub steps : ℕ

-- The world is a state of the whole machine: of its ports that state itself; of interfaces, memory and accesses what
-- the machine keeps of them.
pub record IsWholeState (s : WorldView) (w : Whole) : Type 0 where
  pub links : w.links ≡ s.state
  pub beside : IsBeside s.plan s.ends.links s.interfaces s.memory w
  pub drawn : AreDrawn s.plan s.peer_draws w.draw
  pub accesses : AreAccesses s.plan (link_seen s.accesses) w.accesses

-- It stands for a history: it is a state of the whole machine that does.
pub record WorldStandsFor (s : WorldView) (h : History) : Type 0 where
  pub whole : Whole
  pub is : IsWholeState s whole
  pub stands : WholeStandsFor s.plan whole h

-- before the first event
pub record IsNewWorld (plan : Plan) (s : WorldView) : Type 0 where
  pub plan_is : s.plan ≡ plan
  pub steps_are : s.steps ≡ 0
  pub stands : WorldStandsFor s []

-- The verdict is the one that is due after the events before it, the world stands for the history with it, and a slot
-- holds the key of a draw exactly if the draw is kept then.
pub record HasStood (h : History) (event : Event) (verdict : Verdict) (old new : WorldView) : Type 0 where
  pub due_is : verdict ≡ due old.plan h event
  pub stands : WorldStandsFor new ((event, verdict) ∷ h)
  pub points : StreamPoints old.plan new.state ((event, verdict) ∷ h)

-- after whatever history it stands for
pub record IsStep (old : WorldView) (event : Event) (verdict : Verdict) (new : WorldView) : Type 0 where
  pub plan_is : new.plan ≡ old.plan
  pub steps_are : new.steps ≡ old.steps + 1
  pub stood : (h : History) → WorldStandsFor old h → HasStood h event verdict old new

-- All is as before, but for how many pages are spare, and for how many TLPs there is room at switches.
pub record IsAsBefore (old new : WorldView) : Type 0 where
  pub world : record new { accesses = old.accesses } ≡ old
  pub accesses : link_seen new.accesses ≡ link_seen old.accesses

-- ---- as it is kept

abbrev pub world_of : Plan → WholeLinks → WorldView
world_of plan s = record {
  plan = plan;
  state = links_state plan s.links;
  ends = s.links.ends;
  interfaces = s.links.keeper.interfaces;
  peer_draws = s.links.keeper.peer_draws;
  memory = s.links.trusted.contents;
  accesses = s.accesses;
  steps = s.links.steps;
}

-- the links are those of the plan, and the world stands for some history
pub record IsWorld (plan : Plan) (s : WholeLinks) : Type 0 where
  pub links : AreLinks plan s.links.ends s.links.keeper.keys
  pub bounded : IsBoundedWhole s
  pub history : History
  pub stands : WorldStandsFor (world_of plan s) history
