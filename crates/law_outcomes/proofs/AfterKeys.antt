-- What a stop and an establish leave of a stream.
use Rattle.std.proofs.Common.{◌≡◌, ℕ, ◌+◌, ◌==◌, ◌&&◌, Bool, true, false, Option, Some, None, ◌∷◌, refl, ◌∙◌, arith}
use Rattle.std.proofs.Common.{if◌then◌else◌}
use Rattle.std.proofs.lemmas.Bool.Decides.{nat_tests}
use Rattle.spec_keys.proofs.Terms.{Side, KeyPlace, key_place_at, KeyPlan, KeyCauseLaw, Keys, Idle, Loss, StreamStage}
use Rattle.spec_keys.proofs.Terms.{Event, Verdict, History, op_of, draws, work_of, place_keys, keeps_live, has_key}
use Rattle.spec_keys.proofs.Terms.{has_all, keyed_status, history_status, on_in, key_in, draw_of_keyed, whole}
use Rattle.spec_keys.proofs.Terms.{op_after_reach, last_exchange_of, is_hosted, Pr, Npr, Cpl, begins_keyed}
use Rattle.spec_keys.proofs.Tests.{same-true}
unfoldable use Rattle.spec_keys.specs.History.{manager, failed_there}
use Rattle.spec_keys.specs.Operations.{makes_draw}
use Rattle.law_keys.proofs.States.{keys_follow_operations}
use Rattle.law_keys.proofs.Ends.{settles}
unfoldable use Rattle.spec_interfaces.specs.Views.{stream_draw}
use Rattle.ide_types.specs.declared.status.StreamStatus.TheVariants as status
use Rattle.script_events.specs.declared.event.Event.TheVariants as event
use Rattle.script_events.specs.declared.event.InterfaceEvent.{InterfaceEvent}
use Rattle.spec_interfaces.proofs.Views.{not_carried}
use Rattle.law_key_facts.proofs.Ended.{none_first}
use Rattle.event_verdicts.specs.declared.verdict.Operation.TheVariants as op
use Rattle.event_verdicts.specs.declared.verdict.Verdict.TheVariants as v

-- ---- the state of the stream and the number of draws

stop_idle : (hosted : Bool) (q : StreamStage) (next : ℕ) → op_after_reach hosted (work_of op.Stop q next)
    (record { carried = last_exchange_of hosted op.Stop + 1; acknowledged = last_exchange_of hosted op.Stop + 1 })
    ≡ Idle
stop_idle hosted q next = grind (arith, nat_tests)

pub if_own : {A : Type 0} (line stream : ℕ) (x y : A) → (if (line == line) && (stream == stream) then x else y) ≡ x
if_own line stream x y = rw (same-true line, same-true stream) refl

pub idle_after_stop : (h : History) (line stream : ℕ)
    → op_of ((event.Stop line stream None, v.Stopped line stream) ∷ h) line stream ≡ Idle
unfolding manager
idle_after_stop h line stream =
    if_own line stream _ _ ∙ stop_idle (is_hosted line) (op_of h line stream) (draws h)

none_begun : (q : StreamStage) (next : ℕ) → makes_draw (work_of op.Stop q next).operation ≡ false
none_begun q next = grind arith

pub draws_after_stop : (h : History) (line stream : ℕ)
    → draws ((event.Stop line stream None, v.Stopped line stream) ∷ h) ≡ draws h
unfolding manager
draws_after_stop h line stream = grind (arith, none_begun (op_of h line stream) (draws h))

pub draws_after_interface : (h : History) (e : InterfaceEvent) (w : Verdict)
    → draws ((event.Interface e, w) ∷ h) ≡ draws h
unfolding manager
draws_after_interface h e w = refl

-- ---- statuses

off_dead : (ks : Keys) → draw_of_keyed (key_in ks false) ≡ None → draw_of_keyed (key_in ks true) ≡ None
    → keeps_live ks ≡ false
off_dead ks one two = grind arith

on_live : (ks : Keys) (j : ℕ) → on_in (key_in ks false) ≡ Some j → keeps_live ks ≡ true
on_live ks j on = grind arith

has_none : (ks : KeyPlace → Keys) (side : Side) (line stream : ℕ)
    → ((p : KeyPlace) → p.line ≡ line → p.stream ≡ stream → keeps_live (ks p) ≡ false)
    → has_key ks side line stream ≡ false
has_none ks side line stream dead =
    rw (
      dead (key_place_at side line stream false Pr) refl refl,
      dead (key_place_at side line stream false Npr) refl refl,
      dead (key_place_at side line stream false Cpl) refl refl,
      dead (key_place_at side line stream true Pr) refl refl,
      dead (key_place_at side line stream true Npr) refl refl,
      dead (key_place_at side line stream true Cpl) refl refl,
    ) refl

has_each : (ks : KeyPlace → Keys) (side : Side) (line stream : ℕ)
    → ((p : KeyPlace) → p.line ≡ line → p.stream ≡ stream → keeps_live (ks p) ≡ true)
    → (has_key ks side line stream ≡ true) × (has_all ks side line stream ≡ true)
has_each ks side line stream live =
    let a = live (key_place_at side line stream false Pr) refl refl in
    let b = live (key_place_at side line stream false Npr) refl refl in
    let c = live (key_place_at side line stream false Cpl) refl refl in
    let d = live (key_place_at side line stream true Pr) refl refl in
    let e = live (key_place_at side line stream true Npr) refl refl in
    let f = live (key_place_at side line stream true Cpl) refl refl in
    (rw a refl, rw (a, b, c, d, e, f) refl)

-- on a stream that has no keys no failure stands
pub idle_whole : (plan : KeyPlan) (e : Event) (w : Verdict) (h : History) → KeyCauseLaw plan ((e, w) ∷ h)
    → (side : Side) (line stream : ℕ) → op_of ((e, w) ∷ h) line stream ≡ Idle
    → failed_there ((e, w) ∷ h) side line stream ≡ false
unfolding failed_there
idle_whole plan e w h cause side line stream idle =
    not_carried _ _ (has_none (place_keys ((e, w) ∷ h)) side line stream (λ p l s.
    let at : op_of ((e, w) ∷ h) p.line p.stream ≡ Idle = (λ i. op_of ((e, w) ∷ h) (l i) (s i)) ∙ idle in
    let none = (keys_follow_operations plan ((e, w) ∷ h) cause).idle p at in
    off_dead (place_keys ((e, w) ∷ h) p) (none false) (none true)))

secure_is : (f some all : Bool) → f ≡ false → some ≡ true → all ≡ true → keyed_status f some all ≡ status.Secure
secure_is f some all one two three = rw (one, two, three) refl

-- with new keys a stream on which no failure stands is Secure at both ends
pub secure_after_establish : (plan : KeyPlan) (h : History) (line stream j : ℕ)
    → KeyCauseLaw plan ((event.Establish line stream None, v.Established line stream j) ∷ h) → (side : Side)
    → failed_there h side line stream ≡ false
    → history_status ((event.Establish line stream None, v.Established line stream j) ∷ h) side line stream
    ≡ status.Secure
unfolding failed_there
secure_after_establish plan h line stream j cause side whole =
    let after = (event.Establish line stream None, v.Established line stream j) ∷ h in
    let settled = (settles plan after cause).0 in
    let all = has_each (place_keys after) side line stream (λ p l s. on_live (place_keys after p) j (settled.1 p l s).0)
    in
    secure_is _ _ _ (none_first _ _ whole) all.0 all.1

begins_idle : (q : StreamStage) (next line stream j : ℕ) → q ≡ Idle
    → begins_keyed q next (v.Established line stream j) ≡ true
begins_idle q next line stream j is = rw is refl

pub draw_after_establish : (h : History) (line stream j : ℕ) (loss : Option Loss) → op_of h line stream ≡ Idle
    → stream_draw ((event.Establish line stream loss, v.Established line stream j) ∷ h) line stream ≡ draws h
unfolding stream_draw
draw_after_establish h line stream j loss idle =
    rw (same-true line, same-true stream, begins_idle (op_of h line stream) (draws h) line stream j idle) refl
