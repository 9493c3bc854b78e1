-- An event of an operation touches the keys of its stream at both ports, and each touch is allowed, by what the earlier
-- touches of its place say of the packets there. The hard part is a direction that gets its first Live key. A refresh
-- finds one and a stop brings none, so it is an establish, whose draw is then Base, and under draws from it on nothing
-- was sealed or got.
use Rattle.machine_operations.proofs.Terms.{◌≡◌, ℕ, ◌≤◌, Bool, true, false, Option, Some, List, [], ◌∷◌, refl, ap, sym}
use Rattle.machine_operations.proofs.Terms.{◌∙◌, subst, arith, ◌||◌, ◌&&◌, ◌==◌, if◌then◌else◌, AllCome, AllowsIncoming}
use Rattle.machine_operations.proofs.Terms.{AllowsOutgoing, base, touches_after, busy_in, CauseLaw, ClearTouch, Cpl}
use Rattle.machine_operations.proofs.Terms.{draws_made, due, place_at_end, eqb-refl, Establish, Event, has_failed}
use Rattle.machine_operations.proofs.Terms.{got_same, got_since, has_live_in, has_live_out, History, in_keyed, is_quiet}
use Rattle.machine_operations.proofs.Terms.{IsOperation, key_cause, key_of, key_plan, keyed_there, Keys, keys}
use Rattle.machine_operations.proofs.Terms.{port_keys, keys_into, key_touched_in, key_touched_out, keys_out, place_keys}
use Rattle.machine_operations.proofs.Terms.{lane_in, lane_out, LeadTo, Loss, manager, moments, touches_at, Npr, Off}
use Rattle.machine_operations.proofs.Terms.{StreamStage, op_of, HasOperated, operates, Operation, out_keyed}
use Rattle.machine_operations.proofs.Terms.{pending_packets, KeyPlace, place_in_sub_stream, Plan, port_at, PortName}
use Rattle.machine_operations.proofs.Terms.{ports_at, posted_since_last, Pr, quiet_seals_none, Reach, reach_of, Refresh}
use Rattle.machine_operations.proofs.Terms.{sealed_packets, sealed_same, Side, since_same, draws_started, Stop}
use Rattle.machine_operations.proofs.Terms.{StopTouch, SubKind, SubStream, total_in, Touch, touches, units_since}
use Rattle.machine_operations.proofs.Terms.{draws_used, Verdict, with_key, Work, work_of, work_touches, is_some}
use Rattle.machine_operations.proofs.Terms.{refuses}
use Rattle.event_verdicts.specs.declared.verdict.Operation.TheVariants as op
use Rattle.ide_prefix.specs.Packet.{Packet}
use Rattle.spec_keys.specs.Keys.{refusal_if}
use Rattle.spec_keys.proofs.Whole.{fits, next_fits}
use Rattle.law_keys.proofs.Firsts.{first_keys, refresh_keyed, base_kept}
use Rattle.machine_ports.proofs.{establish_due_quiet, refresh_due_quiet, stop_due_quiet, none_sent, none_posted}
use Rattle.machine_ports.proofs.{none_finished, none_since, no_units, none_held, none_got, busy_is, sends_lane}
use Rattle.machine_operations.proofs.Operations.{takes_nothing}
use Rattle.machine_operations.proofs.Runs.{are_first, NewIn, out_run, in_run, stopped_is, cleared_are}

-- ---- what an operation touches

worked_first : (w : Work) (r : Reach) (p : KeyPlace) → are_first (work_touches w (Some r) p) ≡ true
worked_first w r p = grind arith

-- an event that brought an operation this far
pub record Works (plan : Plan) (h : History) (e : Event) (x : Verdict) (line stream : ℕ) (w : Work) (r : Reach) : Type 0
  where
    pub law : CauseLaw plan ((e, x) ∷ h)
    pub quiet : is_quiet x ≡ true
    pub touched : (side : Side) (sends : Bool) (u : SubKind) → touches (manager h).ops (draws_made h) e x
        (place_at_end line stream sends side u) ≡ work_touches w (Some r) (place_at_end line stream sends side u)

-- its touches at the ends of the line, read off the history
abbrev pub outs : History → ℕ → ℕ → Work → Reach → Side → SubKind → List Touch
outs h line stream w r side u = touches_at (ports_at h) w r (place_at_end line stream true side u)

abbrev pub ins : History → ℕ → ℕ → Work → Reach → Side → SubKind → List Touch
ins h line stream w r side u = touches_at (ports_at h) w r (place_at_end line stream false side u)

if_none : (b : Bool) (ps : List Packet) → ps ≡ [] → (if b then [] else ps) ≡ []
if_none b ps none = grind arith

new_in : (plan : Plan) (h : History) → CauseLaw plan h → (port : PortName) (stream : ℕ) (u : SubKind)
    → NewIn plan h port (lane_in port stream u) (moments h (place_in_sub_stream port (lane_in port stream u) false))
new_in plan h law port stream u j le =
    let s = lane_in port stream u in
    let units = none_got plan h law port stream u j le in
    let none : pending_packets plan h s j ≡ [] = none_held plan h law port stream u j _ le in
    let packets = if_none (has_failed h port s.stream) (pending_packets plan h s j) none in
    λ i. record { draw = j; key = key_of plan j s; units = units i; packets = packets i }

is_refused : (b : Bool) → b ≡ is_some (refusal_if b)
is_refused true = refl
is_refused false = refl

module _ (plan : Plan) (h : History) (e : Event) (x : Verdict) (line stream : ℕ) (w : Work) (r : Reach)
    (is : Works plan h e x line stream w r)
    (side : Side) where
  come_there : (sends : Bool) (u : SubKind) → let p = place_at_end line stream sends side u in AllCome sends
      (moments h p)
      (work_touches w (Some r) p)
  come_there sends u =
      let p = place_at_end line stream sends side u in
      let cause = key_cause plan ((e, x) ∷ h) is.law in
      subst (AllCome sends (moments h p)) (is.touched side sends u)
      (next_fits (key_plan plan) h e x cause p (fits (key_plan plan) h cause.2 p)).come

  moments_after : (sends : Bool) (u : SubKind) → let p = place_at_end line stream sends side u in moments ((e, x) ∷ h) p
      ≡ touches_after (moments h p) (work_touches w (Some r) p)
  unfolding moments
  moments_after sends u = ap (touches_after (moments h (place_at_end line stream sends side u)))
      (is.touched side sends u)

  -- what its touches lead to at a sender, and at a receiver
  lead_out : (u : SubKind) → let port = port_at side line in
      let s = lane_out port stream u in
      let xs = sealed_packets plan h in
      LeadTo (AllowsOutgoing plan xs s) (key_touched_out (busy_in xs s)) (outs h line stream w r side u)
      (port_keys h port s)
      (port_keys ((e, x) ∷ h) port s)
  lead_out u =
      let p = place_at_end line stream true side u in
      let port = port_at side line in
      let s = lane_out port stream u in
      let xs = sealed_packets plan h in
      let here = sends_lane port stream u in
      rw (keys_out h port stream u, keys_out ((e, x) ∷ h) port stream u ∙ ap (keys true) (moments_after true u))
      (out_run plan xs s (λ k. is_some ((ports_at h).refusal p k)) (moments h p) (work_touches w (Some r) p)
      (λ k. is_refused (refuses true (keys true (moments h p)) k))
      (record {
        busy = λ i j. busy_is plan h is.law.1 port s j here i;
        unsent = λ j le. none_sent plan h is.law.1 port s j here le;
      })
      (come_there true u) (worked_first w r p))

  lead_in : (u : SubKind) → let port = port_at side line in
      let s = lane_in port stream u in
      LeadTo (AllowsIncoming plan h port s) key_touched_in (ins h line stream w r side u) (port_keys h port s)
      (port_keys ((e, x) ∷ h) port s)
  lead_in u =
      let p = place_at_end line stream false side u in
      let port = port_at side line in
      let s = lane_in port stream u in
      rw (keys_into h port stream u, keys_into ((e, x) ∷ h) port stream u ∙ ap (keys false) (moments_after false u))
      (in_run plan h port s (λ k. is_some ((ports_at h).refusal p k)) (moments h p) (work_touches w (Some r) p)
      (λ k. is_refused (refuses false (keys false (moments h p)) k))
      (new_in plan h is.law.1 port stream u) (come_there false u) (worked_first w r p))

-- ---- whether a direction has a Live key

abbrev any_sub : (SubKind → Bool) → Bool
any_sub f = f Pr || f Npr || f Cpl

one_of : (f : SubKind → Bool) → any_sub f ≡ true → (u : SubKind) × (f u ≡ true)
one_of f is = grind arith

none_of : (f : SubKind → Bool) → any_sub f ≡ false → (u : SubKind) → f u ≡ false
none_of f is u = grind arith

abbrev keyed_at : History → Side → ℕ → ℕ → Bool → SubKind → Bool
keyed_at h side line stream sends u = keyed_there (place_keys h (place_at_end line stream sends side u))

lives_out : (h : History) (side : Side) (line stream : ℕ) → any_sub (keyed_at h side line stream true)
    ≡ has_live_out h (port_at side line) stream
unfolding has_live_out
lives_out h side line stream = let one = out_keyed h (port_at side line) stream in sym
    (λ i. one Pr i || one Npr i || one Cpl i)

lives_in : (h : History) (side : Side) (line stream : ℕ) → any_sub (keyed_at h side line stream false)
    ≡ has_live_in h (port_at side line) stream
unfolding has_live_in
lives_in h side line stream = let one = in_keyed h (port_at side line) stream in sym
    (λ i. one Pr i || one Npr i || one Cpl i)

-- ---- a stop leaves no key On that was not

abbrev are_stops : List Touch → Bool
are_stops [] = true
are_stops (StopTouch k ∷ ts) = are_stops ts
are_stops (ClearTouch ∷ ts) = are_stops ts
are_stops (_ ∷ ts) = false

stop_only_stops : (q : StreamStage) (next : ℕ) (r : Reach) (p : KeyPlace)
    → are_stops (work_touches (work_of op.Stop q next) (Some r) p) ≡ true
stop_only_stops q next r p = grind arith

stopped_keyed : (k : Bool) (ks : Keys) → keyed_there (with_key ks k Off) ≡ true → keyed_there ks ≡ true
stopped_keyed k ks is = grind arith

keyed_if_stopped : (s : Bool) (ts more : List Touch) → are_stops more ≡ true
    → keyed_there (keys s (touches_after ts more)) ≡ true → keyed_there (keys s ts) ≡ true
keyed_if_stopped s ts [] are is = is
keyed_if_stopped s ts (StopTouch k ∷ more) are is = stopped_keyed k (keys s ts)
    (ap keyed_there (sym (stopped_is s k ts)) ∙ keyed_if_stopped s (StopTouch k ∷ ts) more are is)
keyed_if_stopped s ts (ClearTouch ∷ more) are is = absurd
    (let none = ap keyed_there (sym (cleared_are s ts)) ∙ keyed_if_stopped s (ClearTouch ∷ ts) more are is in cc)
keyed_if_stopped s ts (_ ∷ more) are is = absurd cc

-- ---- each operation

-- the event that asks for it
abbrev pub event_of_operation : Operation → ℕ → ℕ → Option Loss → Event
event_of_operation op.Establish line stream lose = Establish line stream lose
event_of_operation op.Refresh line stream lose = Refresh line stream lose
event_of_operation op.Stop line stream lose = Stop line stream lose

pub asked_quiet : (plan : Plan) (h : History) (o : Operation) (line stream : ℕ) (lose : Option Loss)
    → is_quiet (due plan h (event_of_operation o line stream lose)) ≡ true
asked_quiet plan h op.Establish line stream lose = establish_due_quiet plan h line stream lose
asked_quiet plan h op.Refresh line stream lose = refresh_due_quiet plan h line stream lose
asked_quiet plan h op.Stop line stream lose = stop_due_quiet plan h line stream lose

asked_alone : (o : Operation) (line stream : ℕ) (lose : Option Loss) (l s : ℕ) → ((line == l) && (stream == s)) ≡ false
    → operates (event_of_operation o line stream lose) l s ≡ false
unfolding operates
asked_alone o line stream lose l s other = grind arith

-- the operation of an event, as it stands at the history before it
abbrev pub asked_work : History → Operation → ℕ → ℕ → Work
asked_work h o line stream = work_of o (op_of h line stream) (draws_made h)

works : (plan : Plan) (h : History) (o : Operation) (line stream : ℕ) (lose : Option Loss) (x : Verdict) (r : Reach)
    → CauseLaw plan ((event_of_operation o line stream lose, x) ∷ h) → reach_of o x ≡ Some r
    → Works plan h (event_of_operation o line stream lose) x line stream (asked_work h o line stream) r
works plan h o line stream lose x r law reached =
    record { law = law; quiet = ap is_quiet law.0 ∙ asked_quiet plan h o line stream lose; touched = touched o reached }
  where
    touched : (o : Operation) → reach_of o x ≡ Some r → (side : Side) (sends : Bool) (u : SubKind)
        → let p = place_at_end line stream sends side u in
        touches (manager h).ops (draws_made h) (event_of_operation o line stream lose) x p
        ≡ work_touches (asked_work h o line stream) (Some r) p
    touched op.Establish reached side sends u = rw (eqb-refl line, eqb-refl stream, reached) refl
    touched op.Refresh reached side sends u = rw (eqb-refl line, eqb-refl stream, reached) refl
    touched op.Stop reached side sends u = rw (eqb-refl line, eqb-refl stream, reached) refl

-- the first key of a direction that is On: Base is its draw, and nothing of a draw from it on was used or started
record First (h g : History) (p : KeyPlace) (j : ℕ) : Type 0 where
  base_of : base g p.line p.stream ≡ j
  used_below : draws_used (moments h p) ≤ j
  started_below : draws_started (moments h p) ≤ j

module _ (plan : Plan) (h : History) (line stream : ℕ) (lose : Option Loss) (x : Verdict) (r : Reach) (side : Side)
    (sends : Bool) where
  -- Base stays while the direction has a key that is On
  base_stays : (o : Operation) → CauseLaw plan ((event_of_operation o line stream lose, x) ∷ h)
      → any_sub (keyed_at h side line stream sends) ≡ true
      → base ((event_of_operation o line stream lose, x) ∷ h) line stream ≡ base h line stream
  unfolding base
  base_stays op.Establish law before =
      let some = one_of (keyed_at h side line stream sends) before in
      base_kept (key_plan plan) h (place_at_end line stream sends side some.0) lose x
      (key_cause plan ((Establish line stream lose, x) ∷ h) law) some.1
  base_stays op.Refresh law before = refl
  base_stays op.Stop law before = refl

  firsts : (o : Operation) → CauseLaw plan ((event_of_operation o line stream lose, x) ∷ h) → reach_of o x ≡ Some r
      → any_sub (keyed_at h side line stream sends) ≡ false
      → any_sub (keyed_at ((event_of_operation o line stream lose, x) ∷ h) side line stream sends) ≡ true
      → (u : SubKind)
      → First h ((event_of_operation o line stream lose, x) ∷ h) (place_at_end line stream sends side u)
      (asked_work h o line stream).draw
  firsts op.Establish law reached before now u =
      let cause = key_cause plan ((Establish line stream lose, x) ∷ h) law in
      let none = none_of (keyed_at h side line stream sends) before u in
      let first = first_keys (key_plan plan) h (place_at_end line stream sends side u) lose x r cause reached none in
      record { base_of = first.base_of; used_below = first.fresh.used_below; started_below = first.fresh.started_below }
  firsts op.Refresh law reached before now u =
      let cause = key_cause plan ((Refresh line stream lose, x) ∷ h) law in
      let some = refresh_keyed (key_plan plan) h (place_at_end line stream sends side u) lose x r cause reached in
      let none = none_of (keyed_at h side line stream sends) before u in
      absurd cc
  firsts op.Stop law reached before now u =
      let e = Stop line stream lose in
      let w = asked_work h op.Stop line stream in
      let some = one_of (keyed_at ((e, x) ∷ h) side line stream sends) now in
      let p = place_at_end line stream sends side some.0 in
      let after = moments_after plan h e x line stream w r (works plan h op.Stop line stream lose x r law reached) side
      sends some.0 in
      let kept = keyed_if_stopped sends (moments h p) (work_touches w (Some r) p)
      (stop_only_stops (op_of h line stream) (draws_made h) r p)
      (ap (λ (ts : List Touch). keyed_there (keys sends ts)) (sym after) ∙ some.1) in
      let none = none_of (keyed_at h side line stream sends) before some.0 in
      absurd cc

module _ (plan : Plan) (h : History) (o : Operation) (line stream : ℕ) (lose : Option Loss) (x : Verdict) (r : Reach)
    (law : CauseLaw plan ((event_of_operation o line stream lose, x) ∷ h)) (reached : reach_of o x ≡ Some r) where
  each_operated : (side : Side) → let w = asked_work h o line stream in
      HasOperated plan h (event_of_operation o line stream lose) x (port_at side line) stream
      (outs h line stream w r side)
      (ins h line stream w r side)
  each_operated side =
      let e = event_of_operation o line stream lose in
      let g = (e, x) ∷ h in
      let port = port_at side line in
      let w = asked_work h o line stream in
      let is = works plan h o line stream lose x r law reached in
      let xs = sealed_same plan h e x (quiet_seals_none x is.quiet) in
      let none = λ (s : SubStream). (takes_nothing x is.quiet s).0 in
      let out : has_live_out h port stream ≡ false → has_live_out g port stream ≡ true → (u : SubKind)
      → First h g (place_at_end line stream true side u) w.draw =
      λ before now. firsts plan h line stream lose x r side true o law reached (lives_out h side line stream ∙ before)
      (lives_out g side line stream ∙ now) in
      let into : has_live_in h port stream ≡ false → has_live_in g port stream ≡ true → (u : SubKind)
      → First h g (place_at_end line stream false side u) w.draw =
      λ before now. firsts plan h line stream lose x r side false o law reached (lives_in h side line stream ∙ before)
      (lives_in g side line stream ∙ now) in
      record {
        quiet = is.quiet;
        lead_out = λ u. lead_out plan h e x line stream w r is side u;
        lead_into = λ u. lead_in plan h e x line stream w r is side u;
        base_out = λ before now. base_stays plan h line stream lose x r side true o law
            (lives_out h side line stream ∙ before);
        base_into = λ before now. base_stays plan h line stream lose x r side false o law
            (lives_in h side line stream ∙ before);
        none_out = λ before now u.
            let first = out before now Pr in
            (λ i. posted_since_last (xs i) (lane_out port stream u) (first.base_of i))
            ∙ none_posted plan h law.1 port stream u w.draw first.used_below;
        no_units_out = λ before now u.
            let first = out before now u in
            let s = lane_out port stream u in
            (λ i. total_in (xs i) s (first.base_of i))
            ∙ none_finished plan h law.1 port s w.draw (sends_lane port stream u) first.used_below;
        none_into = λ before now u.
            let first = into before now u in
            let s = lane_in port stream u in
            ap (got_since plan g s) first.base_of ∙
            (got_same plan h e x s w.draw (none s) ∙ none_since plan h law.1 port stream u w.draw
            first.started_below);
        no_units_into = λ before now u.
            let first = into before now u in
            let s = lane_in port stream u in
            ap (units_since g s) first.base_of ∙
            (since_same h e x s w.draw (none s) ∙ no_units plan h law.1 port stream u w.draw first.started_below);
      }

  -- it is an operation on its stream alone
  pub is_operation : let w = asked_work h o line stream in
      IsOperation plan h (event_of_operation o line stream lose) x line stream (outs h line stream w r)
      (ins h line stream w r)
  is_operation = record {
    due_is = law.0;
    quiet = ap is_quiet law.0 ∙ asked_quiet plan h o line stream lose;
    alone = asked_alone o line stream lose;
    each = each_operated;
  }
