-- What a stop and a reset take away: by the shapes that the state of a stream leaves its places.
use Rattle.std.specs.Prelude.{◌+◌}
use Rattle.law_keys.proofs.Terms.{◌≡◌, ℕ, ◌<◌, Bool, true, false, Option, Some, None, List, [], ◌∷◌, length, arith}
use Rattle.law_keys.proofs.Terms.{if◌then◌else◌, Event, Operation, Verdict, KeyPlan, KeyPlace, is_on_stream, Touch, Go}
use Rattle.law_keys.proofs.Terms.{Keys, key_in, draw_of_keyed, keys_after_touch, without_outlived, Stopping, Reach}
use Rattle.law_keys.proofs.Terms.{StreamOperations, work_of, reach_of, op_after_reach, manager_after_operation}
use Rattle.law_keys.proofs.Terms.{History, draws, work_touches, on_it, came, touches, touches_after}
use Rattle.law_keys.proofs.Terms.{KeyCauseLaw, FitsAt, is_hosted, by_stream}
unfoldable use Rattle.law_keys.proofs.Terms.{is_open, keys, manager, moments}
use Rattle.spec_keys.specs.Keys.{Program}
use Rattle.spec_keys.specs.History.{seal_touches}
use Rattle.event_verdicts.specs.declared.verdict.SealedPacket.{SealedPacket}
use Rattle.script_events.specs.declared.event.Event.TheVariants as event
use Rattle.event_verdicts.specs.declared.verdict.Operation.TheVariants as op
use Rattle.event_verdicts.specs.declared.verdict.Verdict.TheVariants as v
use Rattle.spec_keys.specs.Places.{is_local}
use Rattle.spec_keys.specs.History.{stop_exchange}
use Rattle.law_keys.proofs.States.{in_state}
use Rattle.law_key_facts.proofs.Given.{key_cause}
use Rattle.spec_links.specs.Terms.{Plan}
use Rattle.spec_links.specs.Plan.{key_plan}
use Rattle.spec_links.specs.Cause.{CauseLaw}
use Rattle.spec_links.specs.Terms.{PortName, UnitName, AllByRecursion}
use Rattle.spec_links.specs.History.{arrived_packet, sent_bytes, sending_port}
use Rattle.spec_links.proofs.SealingIs.{AllLive, all_live, sealing_is}
use Rattle.std.proofs.Common.{sym, ◌∙◌, inl, inr}
use Rattle.std.proofs.lemmas.Bool.{cases_lt, false_from_ne_true}
use Rattle.spec_keys.specs.History.{draw_on_at}
use Rattle.law_keys.proofs.States.{keys_follow_operations}
use Rattle.law_keys.proofs.Terms.{op_of, kept_draw}
use Rattle.law_key_use.specs.InUse.{sender_of, receiver_of, IsOnAtReceiver}
use Rattle.law_key_use.specs.Stops.{KeysGoInStop, StopGivesNone, MayUseKeys, UsesNoneTaken, ResetTakesKeys}
use Rattle.law_key_use.specs.Stops.{StopTakesKeys}
use Rattle.law_key_use.proofs.InUse.{live_least, uses_on}

-- ---- the state

bare_at_host : (p : KeyPlace) (ts : List Touch) (top n : ℕ) → FitsAt (Stopping n) top p ts → is_local p ≡ true
    → (set : Bool) → draw_of_keyed (key_in (keys p.sends ts) set) ≡ None
bare_at_host p ts top n at local set = grind arith

first_gone : (p : KeyPlace) (ts : List Touch) (top n : ℕ) → FitsAt (Stopping n) top p ts → is_local p ≡ false
    → stop_exchange p < n → draw_of_keyed (key_in (keys p.sends ts) false) ≡ None
first_gone p ts top n at told past = grind arith

second_gone : (p : KeyPlace) (ts : List Touch) (top n : ℕ) → FitsAt (Stopping n) top p ts → is_local p ≡ false
    → stop_exchange p + 6 < n → draw_of_keyed (key_in (keys p.sends ts) true) ≡ None
second_gone p ts top n at told past = grind arith

go_in_stop : (plan : KeyPlan) (h : History) → KeyCauseLaw plan h → KeysGoInStop h
go_in_stop plan h cause = record {
  local = λ p n is. bare_at_host p _ _ n (in_state plan h cause p (Stopping n) is);
  first = λ p n is. first_gone p _ _ n (in_state plan h cause p (Stopping n) is);
  second = λ p n is. second_gone p _ _ n (in_state plan h cause p (Stopping n) is);
}

-- ---- touches that give no key

abbrev TakesOnly : List Touch → Type 0
TakesOnly [] = Unit {0}
TakesOnly (Program set j ∷ ts) = ⊥
TakesOnly (Go set j ∷ ts) = ⊥
TakesOnly (t ∷ ts) = TakesOnly ts

one_taken : (s : Bool) (f : ℕ → Bool) (ks : Keys) (t : Touch) (more : List Touch) (set : Bool) (j : ℕ)
    → TakesOnly (t ∷ more)
    → (draw_of_keyed (key_in (without_outlived s f (keys_after_touch s ks t)) set) ≡ Some j
    → draw_of_keyed (key_in ks set) ≡ Some j) × TakesOnly more
one_taken s f ks t more set j takes = grind arith

none_gained : (s : Bool) (ts more : List Touch) (set : Bool) (j : ℕ) → TakesOnly more
    → draw_of_keyed (key_in (keys s (touches_after ts more)) set) ≡ Some j
    → draw_of_keyed (key_in (keys s ts) set) ≡ Some j
unfolding keys
none_gained s ts [] set j takes kept = kept
none_gained s ts (t ∷ more) set j takes kept =
    let one = one_taken s (is_open (t ∷ ts)) (keys s ts) t more set j takes in
    one.0 (none_gained s (t ∷ ts) more set j one.1 kept)

none_at_all : (f : Bool) → TakesOnly (on_it f [])
none_at_all f = grind arith

worked_takes : (o : Operation) (m : StreamOperations) (r : Reach) (p : KeyPlace) (n : ℕ)
    → op_after_reach (is_hosted p.line) (work_of o (m.ops p.line p.stream) (length m.begun)) r ≡ Stopping n
    → TakesOnly (work_touches (work_of o (m.ops p.line p.stream) (length m.begun)) (Some r) p)
worked_takes o m r p n stops = grind arith

operated_takes : (m : StreamOperations) (o : Operation) (l s : ℕ) (r : Option Reach) (p : KeyPlace) (n : ℕ)
    → (manager_after_operation m o l s r).ops p.line p.stream ≡ Stopping n
    → TakesOnly (on_it (is_on_stream p l s) (work_touches (work_of o (m.ops l s) (length m.begun)) r p))
operated_takes m o l s None p n stops = none_at_all (is_on_stream p l s)
operated_takes m o l s (Some r) p n stops = by_stream p.line p.stream
    (λ x y f. (if f then op_after_reach (is_hosted x) (work_of o (m.ops x y) (length m.begun)) r
    else m.ops p.line p.stream) ≡ Stopping n
    → TakesOnly (on_it f (work_touches (work_of o (m.ops x y) (length m.begun)) (Some r) p)))
    (worked_takes o m r p n) (λ x y stops. tt) l s stops

sealed_takes : (p : KeyPlace) (ds : List SealedPacket) → TakesOnly (seal_touches p ds)
sealed_takes p [] = tt
sealed_takes p (d ∷ ds) = let more = sealed_takes p ds in grind arith

came_takes : (p : KeyPlace) (w : Verdict) → TakesOnly (came p w)
came_takes p (v.Sealed ds) = sealed_takes p ds
came_takes p (v.Accepted port unit effects) = grind arith
came_takes p _ = tt

touches_take : (h : History) (e : Event) (w : Verdict) (p : KeyPlace) (n : ℕ)
    → (manager ((e, w) ∷ h)).ops p.line p.stream ≡ Stopping n → TakesOnly (touches (manager h).ops (draws h) e w p)
unfolding manager
touches_take h (event.Establish l s loss) w p n stops =
    operated_takes (manager h) op.Establish l s (reach_of op.Establish w) p n stops
touches_take h (event.Refresh l s loss) w p n stops =
    operated_takes (manager h) op.Refresh l s (reach_of op.Refresh w) p n stops
touches_take h (event.Stop l s loss) w p n stops =
    operated_takes (manager h) op.Stop l s (reach_of op.Stop w) p n stops
touches_take h (event.Reset l ends) w p n stops = grind arith
touches_take h e w p n stops = came_takes p w

gives_none : (h : History) (e : Event) (w : Verdict) → StopGivesNone h e w
unfolding moments
gives_none h e w p n stops set j kept =
    none_gained p.sends (moments h p) (touches (manager h).ops (draws h) e w p) set j (touches_take h e w p n stops)
    kept

reset_takes : (h : History) (e : Event) (w : Verdict) → ResetTakesKeys h e w
unfolding moments keys
reset_takes h (event.Reset link ends) (v.Reset l) = λ p cleared set. rw cleared (grind arith)
reset_takes h _ _ = tt

-- ---- what is used

on_kept : (h : History) (p : KeyPlace) (set : Bool) (j : ℕ) → draw_on_at h p set ≡ Some j → kept_draw h p set ≡ Some j
on_kept h p set j on = grind arith

some_kept : (h : History) (p : KeyPlace) (set : Bool) (j : ℕ) → kept_draw h p set ≡ Some j → kept_draw h p set ≡ None
    → ⊥
some_kept h p set j kept none = let same : Some j ≡ None = sym kept ∙ none in cc

may_use : (plan : KeyPlan) (h : History) → KeyCauseLaw plan h → (p : KeyPlace) (set : Bool) (j : ℕ)
    → draw_on_at h p set ≡ Some j → MayUseKeys h p
may_use plan h cause p set j on = (
  λ idle. never ((keys_follow_operations plan h cause).idle p idle set),
  λ n stops.
      let told = false_from_ne_true (is_local p) (λ local. never (goes.local p n stops local set)) in (
        told,
        elim (cases_lt (stop_exchange p + 6) n) [
          | inl past ↦ absurd (never (gone n stops told past set))
          | inr le ↦ le
        ],
      ),
)
  where
    goes : KeysGoInStop h
    goes = go_in_stop plan h cause

    never : kept_draw h p set ≡ None → ⊥
    never none = some_kept h p set j (on_kept h p set j on) none

    gone : (n : ℕ) → op_of h p.line p.stream ≡ Stopping n → is_local p ≡ false → stop_exchange p + 6 < n → (s : Bool)
        → kept_draw h p s ≡ None
    gone n stops told past false = goes.first p n stops told (omega (arith, past))
    gone n stops told past true = goes.second p n stops told past

all_may : (plan : Plan) (h : History) → CauseLaw plan h → (port : PortName) (stream : ℕ) (ds : List SealedPacket)
    → AllLive plan h port stream ds → AllByRecursion (λ (d : SealedPacket). MayUseKeys h (sender_of d)) ds
all_may plan h law port stream [] all = tt
all_may plan h law port stream (d ∷ ds) all = (
  may_use (key_plan plan) h (key_cause plan h law) (sender_of d) d.k d.draw (live_least plan h port stream d all.0).0,
  all_may plan h law port stream ds all.1,
)

unit_may : (plan : Plan) (h : History) → CauseLaw plan h → (e : Event) (port : PortName) (unit : UnitName)
    → IsOnAtReceiver plan h e port unit → MayUseKeys h (receiver_of port unit)
unit_may plan h law e port unit on =
    may_use (key_plan plan) h (key_cause plan h law) (receiver_of port unit) (arrived_packet plan h e).prefix.k
    unit.draw on

uses_none_taken : (plan : Plan) (h : History) (e : Event) (w : Verdict) → CauseLaw plan ((e, w) ∷ h)
    → UsesNoneTaken h e w
uses_none_taken plan h e (v.Sealed ds) law =
    let is = sealing_is plan h e ds law.0 in
    all_may plan h law.1 is.sending.port is.sending.stream ds
    (all_live plan h (sending_port plan h e) (sent_bytes plan h e) ds is)
uses_none_taken plan h e (v.Held port unit) law =
    unit_may plan h law.1 e port unit (uses_on plan h e (v.Held port unit) law.0)
uses_none_taken plan h e (v.Accepted port unit effects) law =
    unit_may plan h law.1 e port unit (uses_on plan h e (v.Accepted port unit effects) law.0)
uses_none_taken plan h e w law = tt

pub stop_takes : (plan : Plan) (h : History) → CauseLaw plan h → StopTakesKeys h
stop_takes plan [] law = tt
stop_takes plan ((e, w) ∷ h) law = (
  go_in_stop (key_plan plan) ((e, w) ∷ h) (key_cause plan ((e, w) ∷ h) law),
  gives_none h e w,
  uses_none_taken plan h e w law,
  reset_takes h e w,
  stop_takes plan h law.1,
)
