-- If a fault ends a run, what the sink gained is the lines of a history, and then a prefix of the line that comes next.
use Rattle.std.proofs.Common.{◌≡◌, ◌∙◌, ℕ, ◌+◌, ◌⊎◌, List, [], ◌∷◌, ◌++◌, length, length-append, Option, Some, Result}
use Rattle.std.proofs.Common.{Ok, Err, option_map, refl, sym, ap, ap₂, subst, inl, inr, append_assoc, arith}
use Rattle.std.specs.Prelude.{IfErr}
use Rattle.std.specs.List.{AllByRecursion}
use Rattle.ide_types.specs.declared.plan.Plan.{Plan}
use Rattle.script_events.specs.declared.event.Event.{Event}
use Rattle.script_events.specs.Spells.{IsAllowed}
use Rattle.spec_keys.specs.History.{History}
use Rattle.spec_links.specs.Due.{due}
use Rattle.law_text.specs.Runs.{history_on, history_with_event}
use Rattle.law_text.specs.Statements.{AreTold}
use Rattle.law_text.specs.Telling.{AreAllowed}
use Rattle.file_runs.specs.declared.ends.End.{End}
use Rattle.file_runs.specs.declared.ends.Fault.{Fault}
use Rattle.file_runs.specs.declared.ends.Fault.TheVariants as fault
use Rattle.file_runs.specs.Gain.{Text, HasGained, IsFront}
use Rattle.file_runs.specs.Outcome.{Due, EndsBy}
use Rattle.script_runs.specs.Script.{ScriptEnd, events_on, last_line}
use Rattle.script_runs.specs.Texts.{texts_after, texts_on}
use Rattle.script_runs.specs.Works.{EventText}
use Rattle.ide_cli.specs.Headline.{WrittenSoFar, next_text, run_text}
use Rattle.ide_cli.specs.Meaning.{CallRan}
use Rattle.ide_cli.specs.Seen.{CallSeen}
use Rattle.ide_cli.proofs.PacketLines.{due_texts}
use Rattle.ide_cli.proofs.Written.{plan_fits, ran_script, script_allowed}

-- ---- a prefix of two texts

abbrev OfTwo : (a b front : Text) → Type 0
OfTwo a b front = IsFront front a ⊎ ((more : Text) × (a ++ more ≡ front) × IsFront more b)

one_more : (x y : ℕ) (a b front : Text) → y ≡ x → OfTwo a b front → OfTwo (x ∷ a) b (y ∷ front)
one_more x y a b front same (inl (rest, is)) = inl (rest, ap₂ (λ (z : ℕ) (t : Text). z ∷ t) same is)
one_more x y a b front same (inr (more, is, goes_on)) =
    inr (more, ap₂ (λ (z : ℕ) (t : Text). z ∷ t) (sym same) is, goes_on)

same_first : (x y : ℕ) (a b : Text) → y ∷ a ≡ x ∷ b → y ≡ x
same_first x y a b is = cc

same_rest : (x y : ℕ) (a b : Text) → y ∷ a ≡ x ∷ b → a ≡ b
same_rest x y a b is = cc

-- it ends in the first, or goes on into the second
of_two : (a b front : Text) → IsFront front (a ++ b) → OfTwo a b front
of_two [] b front is = inr (front, refl, is)
of_two (x ∷ a) b [] is = inl (x ∷ a, refl)
of_two (x ∷ a) b (y ∷ front) (rest, is) =
    one_more x y a b front (same_first x y (front ++ rest) (a ++ b) is)
    (of_two a b front (rest, same_rest x y (front ++ rest) (a ++ b) is))

-- ---- a prefix of the text of events

-- it has the texts of the first of them, and of what comes next a prefix
pub record SplitsAt (text : EventText) (plan : Plan) (h : History) (events : List Event) (ending : ScriptEnd)
    (gained : Text) : Type 0
  where
    pub first : List Event
    pub later : List Event
    pub events_are : first ++ later ≡ events
    pub rest : Text
    pub gained_is : texts_on text plan h first ++ rest ≡ gained
    pub next : IsFront rest (next_text text plan (history_on plan h first) later ending)

abbrev text_at : EventText → Plan → History → Event → Text
text_at text plan h e = text plan h (e, due plan h e)

abbrev text_behind : EventText → Plan → History → List Event → ScriptEnd → Text
text_behind text plan h events ending = texts_on text plan h events ++ last_line ending (history_on plan h events)

splits_on : (text : EventText) (plan : Plan) (h : History) (e : Event) (events : List Event) (ending : ScriptEnd)
    (gained : Text)
    → OfTwo (text_at text plan h e) (text_behind text plan (history_with_event plan h e) events ending) gained
    → ((more : Text) → IsFront more (text_behind text plan (history_with_event plan h e) events ending)
    → SplitsAt text plan (history_with_event plan h e) events ending more)
    → SplitsAt text plan h (e ∷ events) ending gained
splits_on text plan h e events ending gained (inl front) goes_on = record {
  first = [];
  later = e ∷ events;
  events_are = refl;
  rest = gained;
  gained_is = refl;
  next = front;
}
splits_on text plan h e events ending gained (inr (more, is, front)) goes_on =
    let s = goes_on more front in
    let one = text_at text plan h e in
    record {
      first = e ∷ s.first;
      later = s.later;
      events_are = ap (λ (es : List Event). e ∷ es) s.events_are;
      rest = s.rest;
      gained_is = append_assoc one (texts_on text plan (history_with_event plan h e) s.first) s.rest
          ∙ (ap (λ (t : Text). one ++ t) s.gained_is ∙ is);
      next = s.next;
    }

splits : (text : EventText) (plan : Plan) (h : History) (events : List Event) (ending : ScriptEnd) (gained : Text)
    → IsFront gained (text_behind text plan h events ending) → SplitsAt text plan h events ending gained
splits text plan h [] ending gained front = record {
  first = [];
  later = [];
  events_are = refl;
  rest = gained;
  gained_is = refl;
  next = front;
}
splits text plan h (e ∷ events) ending gained front =
    let g = history_with_event plan h e in
    let one = text_at text plan h e in
    splits_on text plan h e events ending gained
    (of_two one (text_behind text plan g events ending) gained
    (subst (λ (t : Text). IsFront gained t)
    (append_assoc one (texts_on text plan g events) (last_line ending (history_on plan g events))) front))
    (λ more is. splits text plan g events ending more is)

-- ---- the first of some events

each_first : (first later : List Event) → AllByRecursion IsAllowed (first ++ later) → AllByRecursion IsAllowed first
each_first [] later each = tt
each_first (e ∷ first) later each = (each.0, each_first first later each.1)

first_allowed : (first later events : List Event) → first ++ later ≡ events → AreAllowed events → AreAllowed first
first_allowed first later events same allowed = record {
  few = omega (arith, length-append first later, ap length same, allowed.few);
  each = each_first first later (subst (λ (es : List Event). AllByRecursion IsAllowed es) (sym same) allowed.each);
}

-- ---- what a fault leaves

at_fault : {P : Type 0} (r : Result End Fault) → ((e : Fault) → r ≡ Err e → P) → IfErr r (λ e. P)
at_fault (Ok e) holds = tt
at_fault (Err f) holds = holds f refl

pub record FrontGained (due : Due) (held : Text) (now : Option Text) : Type 0 where
  pub gained : Text
  pub holds_now : now ≡ Some (held ++ gained)
  pub front : IsFront gained due.1

front_of : (due : Due) (held front : Text) (before now : Option Text) → before ≡ Some held → IsFront front due.1
    → HasGained before now front → FrontGained due held now
front_of due held front before now was is gained = record {
  gained = front;
  holds_now = gained ∙ ap (option_map (λ (t : Text). t ++ front)) was;
  front = is;
}

by_fault : (due : Due) (read write quiet : Type 0) (held : Text) (before now : Option Text) (e : Fault)
    → before ≡ Some held → EndsBy due read write quiet (HasGained before now) (Err e) → FrontGained due held now
by_fault due read write quiet held before now fault.Read was (cause, (front, is, whole, gained)) =
    front_of due held front before now was is gained
by_fault due read write quiet held before now fault.Write was (cause, (front, is, gained)) =
    front_of due held front before now was is gained
by_fault due read write quiet held before now fault.Memory was (front, is, gained) =
    front_of due held front before now was is gained

cut_front : (due : Due) (read write quiet : Type 0) (held : Text) (before now : Option Text) (r : Result End Fault)
    (e : Fault) → r ≡ Err e → before ≡ Some held → EndsBy due read write quiet (HasGained before now) r
    → FrontGained due held now
cut_front due read write quiet held before now r e cut was ended = by_fault due read write quiet held before now e was
    (subst (λ (x : Result End Fault). EndsBy due read write quiet (HasGained before now) x) cut ended)

pub written_so_far : AreTold → (call : CallSeen) → CallRan call → WrittenSoFar call
written_so_far are_told call ran = at_fault call.outcome (λ e cut packets plan script held asks held_before.
    let text = run_text packets in
    let g = cut_front (texts_after text plan [] script) _ _ _ held call.sink_before.held call.sink_after.held
    call.outcome e cut
    held_before (ran_script call ran packets plan script asks) in
    let s = splits text plan [] (events_on plan script) script.ending g.gained g.front in
    let allowed = first_allowed s.first s.later (events_on plan script) s.events_are
    (script_allowed call packets plan script asks) in
    let told = are_told plan (plan_fits call packets plan script asks) s.first allowed in
    let lines = ap (λ (t : Text). t ++ s.rest) (due_texts text plan [] s.first) ∙ s.gained_is in
    record {
      history = history_on plan [] s.first;
      written = record {
        script = script;
        packets = packets;
        asks_for = asks;
        later = s.later;
        events_are = ap (λ (es : List Event). es ++ s.later) told.events_are ∙ s.events_are;
        verdicts_fit = told.verdicts_fit;
        held = held;
        held_before = held_before;
        gained = g.gained;
        holds_now = g.holds_now;
        lines = (s.rest, lines);
      };
      rest = s.rest;
      lines_are = lines;
      next = s.next;
    })
