-- What bound and unbound verdicts tell: the interface took the bind or the unbind.
use Rattle.law_sealing.proofs.Terms.{◌≡◌, ℕ, ◌==◌, Bool, true, false, List, [], ◌∷◌, ◌++◌}
use Rattle.law_sealing.proofs.Terms.{Option, Some, None, Result, Ok, Err, refl, ap, sym, ◌∙◌, arith, nat_tests}
use Rattle.law_sealing.proofs.Terms.{if◌then◌else◌, eq-eqb, Plan, History, Event, Verdict, CauseLaw}
use Rattle.std.specs.Prelude.{not}
use Rattle.std.proofs.lemmas.Bool.{or_right}
use Rattle.ide_types.specs.declared.binding.Binding.{Binding}
use Rattle.ide_types.specs.declared.status.StreamStatus.{StreamStatus}
use Rattle.interface_state.specs.Bindings.{binds, without}
use Rattle.interface_state.specs.Machine.{DeviceTdi, bind_answer, interface_after_bind, unbind_answer, unbound_with}
use Rattle.spec_interfaces.specs.Terms.{View, Loss, if_secure}
use Rattle.spec_interfaces.specs.Peers.{has_peer}
use Rattle.spec_interfaces.specs.Sites.{Site, site_at}
unfoldable use Rattle.spec_interfaces.specs.Devices.{devices}
use Rattle.spec_interfaces.specs.Devices.{around_at_site, interface_at}
use Rattle.spec_interfaces.specs.Due.{asked_state, bind_due, unbind_due, if_locked_or_running, if_fresh}
use Rattle.spec_interfaces.specs.Due.{unless_lost, verdict_of_bind, unbound_as, on_site, interface_due}
unfoldable use Rattle.spec_interfaces.specs.Due.{interface_verdict_due}
use Rattle.spec_interfaces.proofs.Floors.{number_at}
use Rattle.law_memory.proofs.Causes.{interface_cause}
use Rattle.law_bindings.specs.Asked.{TellsBinding}
use Rattle.law_bindings.proofs.Calls.{answered}
use Rattle.law_locks.proofs.TrueViews.{interface_own}
use Rattle.script_events.specs.declared.event.Event.TheVariants as event
use Rattle.script_events.specs.declared.event.InterfaceEvent.TheVariants as ie
use Rattle.event_verdicts.specs.declared.verdict.Verdict.TheVariants as v
use Rattle.ide_types.specs.declared.verdict.InterfaceVerdict.TheVariants as iv

-- ---- what is due

record IsBoundDue (x : Site) (line n l : ℕ) (answer : Result ℕ ℕ) : Type 0 where
  number_is : n ≡ x.number
  line_is : l ≡ line
  draw : ℕ
  taken : answer ≡ Ok draw

bound_says : (x : Site) (line n l : ℕ) (answer : Result ℕ ℕ)
    → v.Interface (iv.Bound n l) ≡ verdict_of_bind x line answer → IsBoundDue x line n l answer
bound_says x line n l (Ok draw) is =
    record { number_is = grind (arith, is); line_is = grind (arith, is); draw = draw; taken = refl }
bound_says x line n l (Err code) is = absurd cc

bound_due : (view : View) (s : StreamStatus) (draw needs : ℕ) (loss : Option Loss) (n l : ℕ) (z : Verdict)
    → v.Interface (iv.Bound n l) ≡ if_locked_or_running view (if_secure s (if_fresh draw needs (unless_lost loss 1 z)))
    → v.Interface (iv.Bound n l) ≡ z
bound_due view s draw needs loss n l z is = grind (arith, nat_tests, is)

record IsUnboundDue (x : Site) (line n l : ℕ) (answer : Result (Unit {0}) ℕ) : Type 0 where
  number_is : n ≡ x.number
  line_is : l ≡ line
  taken : answer ≡ Ok tt

unbound_says : (x : Site) (line n l : ℕ) (answer : Result (Unit {0}) ℕ)
    → v.Interface (iv.Unbound n l) ≡ unbound_as x line answer → IsUnboundDue x line n l answer
unbound_says x line n l (Ok done) is =
    record { number_is = grind (arith, is); line_is = grind (arith, is); taken = refl }
unbound_says x line n l (Err code) is = absurd cc

unbound_due : (view : View) (loss : Option Loss) (n l : ℕ) (z : Verdict)
    → v.Interface (iv.Unbound n l) ≡ if_locked_or_running view (unless_lost loss 1 z)
    → v.Interface (iv.Unbound n l) ≡ z
unbound_due view loss n l z is = grind (arith, nat_tests, is)

-- ---- lists of bindings

added_binds : (stream : ℕ) (bs : List Binding) (b : Binding) → (b.stream == stream) ≡ true
    → binds stream (bs ++ b ∷ []) ≡ true
added_binds stream [] b is = rw is refl
added_binds stream (c ∷ bs) b is =
    or_right (c.stream == stream) (binds stream (bs ++ b ∷ [])) (added_binds stream bs b is)

without_binds : (stream : ℕ) (bs : List Binding) → binds stream (without stream bs) ≡ false
without_binds stream [] = refl
without_binds stream (b ∷ bs) = by (b.stream == stream) refl (without_binds stream bs)
  where
    by : (c : Bool) → (b.stream == stream) ≡ c → binds stream (without stream bs) ≡ false
        → binds stream (if not c then b ∷ without stream bs else without stream bs) ≡ false
    by true at later = later
    by false at later = rw at later

unbind_was : (t : DeviceTdi) (stream : ℕ) → unbind_answer t stream ≡ Ok tt → binds stream t.bindings ≡ true
unbind_was t stream is = grind (arith, is)

after_bind : (t : DeviceTdi) (stream draw : ℕ) (answer : Result ℕ ℕ) → answer ≡ Ok draw
    → binds stream (interface_after_bind t stream answer).bindings ≡ true
after_bind t stream draw answer is = rw is
    (added_binds stream t.bindings (record { stream = stream; floor = draw }) (eq-eqb stream stream refl))

after_unbind : (t : DeviceTdi) (stream : ℕ) (answer : Result (Unit {0}) ℕ) → answer ≡ Ok tt
    → binds stream (unbound_with t stream answer).bindings ≡ false
after_unbind t stream answer is = rw is (without_binds stream t.bindings)

-- ---- at a pair

is_own : (plan : Plan) (i : ℕ) (x : Site) → site_at plan i ≡ Some x → (i == x.number) ≡ true
is_own plan i x at = eq-eqb i x.number (sym (number_at plan i x at))

-- a verdict of an interface that is named
named : (plan : Plan) (h : History) (i n l line stream : ℕ) (loss : Option Loss)
    → v.Interface (iv.Bound n l) ≡ on_site (λ x. interface_due plan h x (ie.Bind i line stream loss)) (site_at plan i)
    → (x : Site) × (site_at plan i ≡ Some x)
named plan h i n l line stream loss is = by (site_at plan i) refl is
  where
    by : (o : Option Site) → site_at plan i ≡ o
        → v.Interface (iv.Bound n l) ≡ on_site (λ x. interface_due plan h x (ie.Bind i line stream loss)) o
        → (x : Site) × (site_at plan i ≡ Some x)
    by None at is = absurd cc
    by (Some x) at is = (x, at)

named_unbound : (plan : Plan) (h : History) (i n l line stream : ℕ) (loss : Option Loss)
    → v.Interface (iv.Unbound n l)
    ≡ on_site (λ x. interface_due plan h x (ie.Unbind i line stream loss)) (site_at plan i)
    → (x : Site) × (site_at plan i ≡ Some x)
named_unbound plan h i n l line stream loss is = by (site_at plan i) refl is
  where
    by : (o : Option Site) → site_at plan i ≡ o
        → v.Interface (iv.Unbound n l) ≡ on_site (λ x. interface_due plan h x (ie.Unbind i line stream loss)) o
        → (x : Site) × (site_at plan i ≡ Some x)
    by None at is = absurd cc
    by (Some x) at is = (x, at)

has_bind : (plan : Plan) (h : History) (line stream : ℕ) (loss : Option Loss) (n l : ℕ) (x : Site)
    → v.Interface (iv.Bound n l) ≡ (if has_peer plan.peers x.link line stream
    then bind_due x (asked_state plan h x) line stream loss else v.Nothing)
    → v.Interface (iv.Bound n l) ≡ bind_due x (asked_state plan h x) line stream loss
has_bind plan h line stream loss n l x is = by (has_peer plan.peers x.link line stream) is
  where
    by : (b : Bool) → v.Interface (iv.Bound n l) ≡ (if b then bind_due x (asked_state plan h x) line stream loss
        else v.Nothing) → v.Interface (iv.Bound n l) ≡ bind_due x (asked_state plan h x) line stream loss
    by true is = is
    by false is = absurd cc

has_unbind : (plan : Plan) (h : History) (line stream : ℕ) (loss : Option Loss) (n l : ℕ) (x : Site)
    → v.Interface (iv.Unbound n l) ≡ (if has_peer plan.peers x.link line stream
    then unbind_due x (asked_state plan h x) line stream loss else v.Nothing)
    → v.Interface (iv.Unbound n l) ≡ unbind_due x (asked_state plan h x) line stream loss
has_unbind plan h line stream loss n l x is = by (has_peer plan.peers x.link line stream) is
  where
    by : (b : Bool) → v.Interface (iv.Unbound n l) ≡ (if b then unbind_due x (asked_state plan h x) line stream loss
        else v.Nothing) → v.Interface (iv.Unbound n l) ≡ unbind_due x (asked_state plan h x) line stream loss
    by true is = is
    by false is = absurd cc

tells_bound : (plan : Plan) (h : History) (i line stream : ℕ) (loss : Option Loss) (n l : ℕ)
    → CauseLaw plan ((event.Interface (ie.Bind i line stream loss), v.Interface (iv.Bound n l)) ∷ h)
    → TellsBinding plan h (event.Interface (ie.Bind i line stream loss)) (v.Interface (iv.Bound n l))
unfolding interface_verdict_due
tells_bound plan h i line stream loss n l cause =
    let e = ie.Bind i line stream loss in
    let w = v.Interface (iv.Bound n l) in
    let due : w ≡ on_site (λ y. interface_due plan h y e) (site_at plan i) =
    (interface_cause plan ((event.Interface e, w) ∷ h) cause).0 in
    let found = named plan h i n l line stream loss due in
    let x = found.0 in
    let s = asked_state plan h x in
    let own = is_own plan i x found.1 in
    let here = due ∙ ap (on_site (λ y. interface_due plan h y e)) found.1 in
    let answer = bind_answer (interface_at plan h x) stream ((around_at_site plan h x).live stream) in
    let said = bound_says x line n l answer (bound_due s.managed.view _ (s.peer_draw line stream) s.managed.needs loss n
    l (verdict_of_bind x line answer) (has_bind plan h line stream loss n l x here)) in
    let given = answered (interface_at plan h x) stream said.draw _ said.taken in
    record {
      interface = x;
      known = found.1;
      number_is = said.number_is ∙ number_at plan i x found.1;
      line_is = said.line_is;
      was = given.free;
      is = ap (λ (t : DeviceTdi). binds stream t.bindings) (interface_own plan h e w x own)
          ∙ after_bind (interface_at plan h x) stream said.draw answer said.taken;
    }

tells_unbound : (plan : Plan) (h : History) (i line stream : ℕ) (loss : Option Loss) (n l : ℕ)
    → CauseLaw plan ((event.Interface (ie.Unbind i line stream loss), v.Interface (iv.Unbound n l)) ∷ h)
    → TellsBinding plan h (event.Interface (ie.Unbind i line stream loss)) (v.Interface (iv.Unbound n l))
unfolding interface_verdict_due
tells_unbound plan h i line stream loss n l cause =
    let e = ie.Unbind i line stream loss in
    let w = v.Interface (iv.Unbound n l) in
    let due : w ≡ on_site (λ y. interface_due plan h y e) (site_at plan i) =
    (interface_cause plan ((event.Interface e, w) ∷ h) cause).0 in
    let found = named_unbound plan h i n l line stream loss due in
    let x = found.0 in
    let s = asked_state plan h x in
    let own = is_own plan i x found.1 in
    let here = due ∙ ap (on_site (λ y. interface_due plan h y e)) found.1 in
    let answer = unbind_answer (interface_at plan h x) stream in
    let said = unbound_says x line n l answer (unbound_due s.managed.view loss n l (unbound_as x line answer)
    (has_unbind plan h line stream loss n l x here)) in
    record {
      interface = x;
      known = found.1;
      number_is = said.number_is ∙ number_at plan i x found.1;
      line_is = said.line_is;
      was = unbind_was (interface_at plan h x) stream said.taken;
      is = ap (λ (t : DeviceTdi). binds stream t.bindings) (interface_own plan h e w x own)
          ∙ after_unbind (interface_at plan h x) stream answer said.taken;
    }

pub tells_binding : (plan : Plan) (h : History) (e : Event) (w : Verdict) → CauseLaw plan ((e, w) ∷ h)
    → TellsBinding plan h e w
tells_binding plan h (event.Interface (ie.Bind i line stream loss)) (v.Interface (iv.Bound n l)) cause =
    tells_bound plan h i line stream loss n l cause
tells_binding plan h (event.Interface (ie.Unbind i line stream loss)) (v.Interface (iv.Unbound n l)) cause =
    tells_unbound plan h i line stream loss n l cause
tells_binding plan h e w cause = tt
