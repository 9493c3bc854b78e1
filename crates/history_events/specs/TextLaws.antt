-- What the texts of generated events read as.
use Rattle.std.specs.Prelude.{ℕ, ◌≡◌, ◌≤◌, List, [], ◌∷◌, ◌++◌, length, map, Some, Ok, ◌==◌}
use Rattle.std.specs.List.{slice_split}
use Rattle.history_events.specs.GeneratedEvents.{generated_events}
use Rattle.history_events.specs.GeneratedTopology.{the_plan}
use Rattle.ide_types.specs.Names.{Text}
use Rattle.script_events.specs.declared.event.Event.{Event}
use Rattle.script_events.specs.declared.script.ScriptEvent.{ScriptEvent}
use Rattle.script_events.specs.Parse.{line_meaning}
use Rattle.history_events.specs.Events.{event_of}
use Rattle.topology.specs.Meaning.{plan_of}
use Rattle.history_events.specs.ScriptText.{generated_script}
use Rattle.history_events.specs.TopologyText.{generated_topology}

-- The text is whole lines, and each spells an event: in the topology of generated events they are these events, in
-- their order.
pub record Spells (text : Text) (events : List Event) : Type 0 where
  pub lines : List Text
  pub cut : slice_split (λ b. b == 10) text ≡ lines ++ [] ∷ []
  pub asks : List ScriptEvent
  pub meanings : map line_meaning lines ≡ map (λ e. Ok (Some e)) asks
  pub are_events : map (event_of the_plan) asks ≡ events

-- the script of so many rounds at the most spells the generated events, and those alone
abbrev pub ScriptSpells : Type 0
ScriptSpells = (seed count : ℕ) → count ≤ 100000 → Spells (generated_script seed count) (generated_events seed count)

-- it has no more bytes than count of a script
abbrev pub ScriptIsShort : Type 0
ScriptIsShort = (seed count : ℕ) → count ≤ 100000 → length (generated_script seed count) ≤ 16777216

-- the topology's text means the topology of generated events
abbrev pub TopologyIsRead : Type 0
TopologyIsRead = plan_of generated_topology ≡ Ok the_plan

-- it has no more bytes than count of a topology
abbrev pub TopologyIsShort : Type 0
TopologyIsShort = length generated_topology ≤ 1048576
