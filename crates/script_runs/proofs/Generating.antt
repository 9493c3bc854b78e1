-- Generated events that are given to the world one after another: what is left of them is run on, until none is.
use Rattle.std.proofs.Common.{◌≡◌, ◌∙◌, ◌≤◌, ◌+◌, ℕ, List, [], ◌∷◌, length, Option, Some, Ok, sym, ap, subst, arith}
use Rattle.std.specs.List.{AllByRecursion}
use Rattle.history_events.specs.Left.{Takes}
use Rattle.history_events.specs.GeneratedTopology.{the_plan}
use Rattle.spec_keys.specs.History.{History}
use Rattle.script_events.specs.declared.event.Event.{Event}
use Rattle.script_events.specs.Spells.{IsAllowed}
use Rattle.law_text.specs.Runs.{history_on, history_with_event}
use Rattle.ide_types.specs.declared.plan.Plan.{Plan}
use Rattle.world.specs.{WorldView, IsNewWorld}
use Rattle.script_runs.specs.Works.{Follows, RunningView, ScriptPast}
use Rattle.script_runs.proofs.Scripts.{follows_nothing}

abbrev pub past_of : History → ScriptPast
past_of h = record { plan = the_plan; history = h }

-- What runs follows a history; the events that are left lead from it to the history of all.
pub record RunsOn (all : List Event) (r : RunningView) (left : List Event) : Type 0 where
  pub history : History
  pub follows : Follows r (past_of history)
  pub goes_on : history_on the_plan history left ≡ history_on the_plan [] all

-- before the first event
pub follows_first : (plan : Plan) (world : WorldView) (r : RunningView) → plan ≡ the_plan → IsNewWorld plan world
    → r ≡ record { world = world; totals = record { sealed = 0; accepted = 0; failed = 0; blocked = 0 } }
    → Follows r (record { plan = the_plan; history = [] })
follows_first plan world r plan_is new is =
    subst (λ (p : Plan). Follows r (record { plan = p; history = [] })) plan_is
    (subst (λ (x : RunningView). Follows x (record { plan = plan; history = [] })) (sym is)
    (follows_nothing plan world new))

-- one event more
pub runs_next : (all : List Event) (r now : RunningView) (before left : List Event) (e : Event) → RunsOn all r before
    → before ≡ e ∷ left → ((past : ScriptPast) → Follows r past → Follows now
    (record past { history = history_with_event past.plan past.history e }))
    → RunsOn all now left
runs_next all r now before left e runs taken step = record {
  history = history_with_event the_plan runs.history e;
  follows = step (past_of runs.history) runs.follows;
  goes_on = ap (history_on the_plan runs.history) (sym taken) ∙ runs.goes_on;
}

-- ---- one event that is taken

pub next_taken : (before : List Event) (found : Option Event) (e : Event) (left : List Event)
    → Takes before (Ok found) left → found ≡ Some e → before ≡ e ∷ left
next_taken before found e left takes is = subst (λ (o : Option Event). Takes before (Ok o) left) is takes

pub next_few : (number : ℕ) (before left : List Event) (e : Event) → before ≡ e ∷ left
    → number + length before ≤ 1000001 → (number + 1) + length left ≤ 1000001
next_few number before left e taken few = omega (arith, ap length taken, few)

pub next_allowed : (before left : List Event) (e : Event) → before ≡ e ∷ left → AllByRecursion IsAllowed before
    → AllByRecursion IsAllowed left
next_allowed before left e taken each = (subst (AllByRecursion IsAllowed) taken each).1
