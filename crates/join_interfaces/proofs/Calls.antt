-- What an event on an interface makes of its bindings. Only a lock and a bind add one, to a stream that is Secure then;
-- what ends a lock ends all of them.
use Rattle.std.proofs.Common.{◌≡◌, ⊎_elim, ℕ, Bool, true, false, refl, ap, sym, ◌∙◌, subst}
use Rattle.std.specs.Prelude.{is_some, IfSome, Some}
use Rattle.std.proofs.lemmas.Option.{same_Some}
use Rattle.script_events.specs.declared.event.Event.TheVariants as event
use Rattle.script_events.specs.declared.event.InterfaceEvent.{InterfaceEvent}
use Rattle.event_verdicts.specs.declared.verdict.Verdict.{Verdict}
use Rattle.interface_state.specs.declared.states.TdiState.{TdiState}
use Rattle.interface_state.specs.declared.states.TdiState.TheVariants.{ConfigUnlocked, ConfigLocked, Run, Error}
use Rattle.interface_state.specs.declared.states.Lock.{Lock}
use Rattle.interface_state.specs.Bindings.{binds}
use Rattle.interface_state.specs.Machine.{DeviceTdi, Call, bound_link_stream, lock_of}
use Rattle.interface_state.specs.Held.{IsBound}
use Rattle.interface_state.proofs.Bound.{bindings_end}
use Rattle.spec_interfaces.specs.Devices.{Around, next_interface, interface_if_called}
use Rattle.spec_interfaces.specs.Sites.{Site}
use Rattle.spec_interfaces.specs.Views.{is_number, number_in}
use Rattle.spec_interfaces.proofs.Binds.{next_live, accepts_secure}
use Rattle.spec_interfaces.proofs.Locks.{next_made, next_keeps}
use Rattle.join_interfaces.specs.Says.{DeviceSays, Keeps}

-- ---- the lock

lock_meets : (P : ℕ → Type 0) (s : TdiState) → ((l : Lock) → lock_of s ≡ Some l → P l.stream)
    → IfSome (bound_link_stream s) P
lock_meets P ConfigUnlocked each = tt
lock_meets P (ConfigLocked lock nonce) each = each lock refl
lock_meets P (Run lock) each = each lock refl
lock_meets P Error each = tt

lock_met : (P : ℕ → Type 0) (s : TdiState) (l : Lock) → lock_of s ≡ Some l → IfSome (bound_link_stream s) P → P l.stream
lock_met P ConfigUnlocked l is met = absurd cc
lock_met P (ConfigLocked lock nonce) l is met = subst (λ k. P k.stream) (same_Some lock l is) met
lock_met P (Run lock) l is met = subst (λ k. P k.stream) (same_Some lock l is) met
lock_met P Error l is met = absurd cc

-- what stands after the event: the lock of before, or one that it made
next_locks : (d : DeviceSays) (a : Around) (left : Bool) (x : Site) (e : InterfaceEvent) (w : Verdict) (tdi : DeviceTdi)
    → a.secure ≡ d.secure x.plan.stream → Keeps d x.plan tdi → (l : Lock)
    → lock_of (next_interface a left x (event.Interface e) w tdi).state ≡ Some l
    → (l.stream ≡ x.plan.stream) × (d.secure l.stream ≡ true)
next_locks d a left x e w tdi says keeps l is =
    ⊎_elim
    (λ stood. (
      lock_met (λ s. s ≡ x.plan.stream) tdi.state l stood.0 keeps.own,
      lock_met (λ s. d.secure s ≡ true) tdi.state l stood.0 keeps.secure,
    ))
    (λ made.
    let stream : l.stream ≡ x.plan.stream = ap (λ (k : Lock). k.stream) made.1 in (
      stream,
      ap d.secure stream ∙ sym says ∙ accepts_secure a x (event.Interface e) w tdi made.0,
    ))
    (next_made a left x (event.Interface e) w tdi l is)

-- ---- all of it

called_held : (b : Bool) (c : Call) (tdi : DeviceTdi) → IsBound tdi.state tdi.bindings
    → IsBound (interface_if_called b c tdi).state (interface_if_called b c tdi).bindings
called_held true c tdi is = bindings_end.later tdi c is
called_held false c tdi is = is

-- All that it is bound to after an event on an interface is Secure still.
pub record StaysBound (d : DeviceSays) (tdi : DeviceTdi) : Type 0 where
  pub secure : IfSome (bound_link_stream tdi.state) (λ stream. d.secure stream ≡ true)
  pub bound : (stream : ℕ) → binds stream tdi.bindings ≡ true → is_some (d.live stream) ≡ true
  pub held : IsBound tdi.state tdi.bindings

pub asked_keeps : (d : DeviceSays) (a : Around) (left : Bool) (x : Site) (e : InterfaceEvent) (w : Verdict)
    (tdi : DeviceTdi)
    → a.secure ≡ d.secure x.plan.stream → a.live ≡ d.live → Keeps d x.plan tdi
    → StaysBound d (next_interface a left x (event.Interface e) w tdi)
asked_keeps d a left x e w tdi says live keeps = record {
  secure = lock_meets (λ s. d.secure s ≡ true) (next_interface a left x (event.Interface e) w tdi).state
      (λ l is. (next_locks d a left x e w tdi says keeps l is).1);
  bound = next_live d.live (is_number (number_in e) x.number) a x e w tdi live keeps.bound;
  held = next_keeps (λ t. IsBound t.state t.bindings) called_held a left x (event.Interface e) w tdi keeps.held;
}
