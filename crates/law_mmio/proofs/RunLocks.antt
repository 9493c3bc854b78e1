-- A lock is not taken in RUN.
use Rattle.std.proofs.Common.{◌≡◌, ◌⊎◌, ℕ, ◌==◌, ◌&&◌, ◌∷◌, Bool, true, false, List, Result, Ok, Err}
use Rattle.std.proofs.Common.{if◌then◌else◌, refl, sym, ◌∙◌, inl, inr, arith}
use Rattle.std.proofs.lemmas.Bool.{cases_Bool, true≢false}
use Rattle.std.specs.Prelude.{is_ok}
use Rattle.spec_interfaces.specs.Terms.{Plan, Event, Verdict, History, Lock, DeviceTdi, lock_answer}
use Rattle.spec_interfaces.specs.Sites.{Site}
use Rattle.spec_interfaces.specs.Exchanges.{carries}
use Rattle.spec_interfaces.specs.Devices.{Around, around_at_site, interface_if_called, lock_call, next_interface}
use Rattle.spec_interfaces.specs.Devices.{accepts_lock, is_run, runs_at, interface_at, locks_accepted, is_stream_left}
unfoldable use Rattle.spec_interfaces.specs.Devices.{devices}
use Rattle.interface_state.specs.Machine.{new_lock, interface_after_lock}
use Rattle.script_events.specs.declared.event.Event.TheVariants as event
use Rattle.script_events.specs.declared.event.InterfaceEvent.TheVariants as ie

-- an accepted lock leaves CONFIG_LOCKED
taken_rests : (b c : Bool) (t : DeviceTdi) (answer : Result (List ℕ) ℕ) (new : Lock) (call : DeviceTdi)
    → call ≡ interface_after_lock t new answer → (b && c && is_ok answer) ≡ true
    → is_run (if b then (if c then call else t) else t).state ≡ false
taken_rests true true t (Ok nonce) new call e is = rw e refl
taken_rests true true t (Err code) new call e is = absurd (true≢false (sym is))
taken_rests true false t answer new call e is = absurd (true≢false (sym is))
taken_rests false c t answer new call e is = absurd (true≢false (sym is))

pub called_if : (c : Bool) (a : Around) (x : Site) (t : DeviceTdi) → interface_if_called c (lock_call a x) t
    ≡ (if c then interface_after_lock t (new_lock t x.plan.flags x.plan.stream x.plan.offset)
    (lock_answer t x.plan.flags x.plan.offset a.secure a.drawn) else t)
called_if true a x t = refl
called_if false a x t = refl

lock_rests : (a : Around) (left : Bool) (x : Site) (e : Event) (w : Verdict) (t : DeviceTdi)
    → accepts_lock a x e w t ≡ true → is_run (next_interface a left x e w t).state ≡ false
lock_rests a left x (event.Interface (ie.Lock i loss)) w t is =
    rw (called_if (carries w 3) a x t) (taken_rests (i == x.number) (carries w 3) t
    (lock_answer t x.plan.flags x.plan.offset a.secure a.drawn)
    (new_lock t x.plan.flags x.plan.stream x.plan.offset) _ refl is)
lock_rests a left x e w t is = absurd (true≢false (sym is))

pub runs_unlocked : (plan : Plan) (h : History) (e : Event) (w : Verdict) (x : Site)
    → runs_at plan ((e, w) ∷ h) x ≡ true → accepts_lock (around_at_site plan h x) x e w (interface_at plan h x) ≡ false
unfolding devices
runs_unlocked plan h e w x runs = by (cases_Bool (accepts_lock (around_at_site plan h x) x e w (interface_at plan h x)))
  where
    by : (accepts_lock (around_at_site plan h x) x e w (interface_at plan h x) ≡ true)
        ⊎ (accepts_lock (around_at_site plan h x) x e w (interface_at plan h x) ≡ false)
        → accepts_lock (around_at_site plan h x) x e w (interface_at plan h x) ≡ false
    by (inl is) = absurd (true≢false (sym runs
        ∙ lock_rests (around_at_site plan h x) (is_stream_left plan h e w x (interface_at plan h x)) x e w
        (interface_at plan h x) is))
    by (inr is) = is

-- so it has as many locks as before
pub same_locks : (plan : Plan) (h : History) (e : Event) (w : Verdict) (x : Site)
    → accepts_lock (around_at_site plan h x) x e w (interface_at plan h x) ≡ false
    → locks_accepted plan ((e, w) ∷ h) x ≡ locks_accepted plan h x
unfolding devices
same_locks plan h e w x none = rw none (omega arith)
