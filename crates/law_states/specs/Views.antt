-- The manager's view of an interface: what changes it, and that nothing else does (this profile).
use Rattle.std.specs.Prelude.{◌≡◌, ℕ, ◌∷◌, ◌==◌, ◌&&◌, ◌||◌, Bool, true, false, not, nat_le, []}
use Rattle.std.specs.Prelude.{Some}
use Rattle.ide_types.specs.declared.plan.Plan.{Plan}
use Rattle.spec_keys.specs.History.{History, op_of}
use Rattle.spec_keys.specs.Operations.{StreamStage, Stopping}
use Rattle.spec_interfaces.specs.Terms.{Event, Verdict, View, Unlocked, Locked, Running, Doubt, Broken}
use Rattle.spec_interfaces.specs.Sites.{Site, site_at}
use Rattle.spec_interfaces.specs.Exchanges.{is_lost_at, is_asked_at, is_refused_at}
use Rattle.spec_interfaces.specs.Views.{view_at, view_broken}
use Rattle.law_locks.specs.Fronts.{AtPairs}
use Rattle.law_states.specs.States.{is_link_reset}
use Rattle.script_events.specs.declared.event.Event.TheVariants as event
use Rattle.script_events.specs.declared.event.InterfaceEvent.TheVariants as ie
use Rattle.event_verdicts.specs.declared.verdict.Verdict.TheVariants as v
use Rattle.ide_types.specs.declared.verdict.InterfaceVerdict.TheVariants as iv

-- ---- what is told of it

-- by a verdict `locked`, `started` or `halted` of the interface
abbrev pub tells_locked : Event → Verdict → Site → Bool
tells_locked (event.Interface e) (v.Interface (iv.Locked i nonce)) x = i == x.number
tells_locked e w x = false

abbrev pub tells_started : Event → Verdict → Site → Bool
tells_started (event.Interface e) (v.Interface (iv.Started i draw)) x = i == x.number
tells_started e w x = false

abbrev pub tells_halted : Event → Verdict → Site → Bool
tells_halted (event.Interface e) (v.Interface (iv.Halted i needs)) x = i == x.number
tells_halted e w x = false

-- LOCK_INTERFACE, START_INTERFACE or STOP_INTERFACE of it, or the reply, was lost
abbrev pub loses : Event → Verdict → Site → Bool
loses (event.Interface (ie.Lock i loss)) w x = (i == x.number) && is_lost_at w 3
loses (event.Interface (ie.Start i loss)) w x = (i == x.number) && is_lost_at w 1
loses (event.Interface (ie.Halt i loss)) w x = (i == x.number) && is_lost_at w 1
loses e w x = false

-- ---- what breaks it

-- the state that should be told of an interface by its view is another
abbrev pub is_other_state : View → ℕ → Bool
is_other_state Locked state = not (state == 1)
is_other_state Running state = not (state == 2)
is_other_state view state = false

-- the device refused to start it, or it told another state than the view's
abbrev pub tells_wrong : View → Event → Verdict → Site → Bool
tells_wrong view (event.Interface (ie.Start i loss)) w x = (i == x.number) && is_refused_at w 1
tells_wrong view (event.Interface e) (v.Interface (iv.State i state)) x = (i == x.number) && is_other_state view state
tells_wrong view e w x = false

-- a stop of a stream is not refused
abbrev pub is_stopping : Verdict → Bool
is_stopping (v.Stopped line stream) = true
is_stopping (v.LostRequest exchange) = true
is_stopping (v.LostReply exchange) = true
is_stopping (v.RefusedDevice exchange code) = true
is_stopping w = false

-- it goes on with one that has begun
abbrev pub has_begun : StreamStage → Bool
has_begun (Stopping exchange) = true
has_begun stage = false

-- LOCK_INTERFACE was asked: the third exchange of a lock
abbrev pub asks_lock : Verdict → Bool
asks_lock (v.Interface (iv.Locked i nonce)) = true
asks_lock w = is_lost_at w 3 || is_refused_at w 3

-- BIND_P2P of the interface to the stream between devices of a line was asked since LOCK_INTERFACE last was
unfoldable pub was_bind_asked : History → Site → ℕ → Bool
was_bind_asked [] x line = false
was_bind_asked ((event.Interface (ie.Lock i loss), w) ∷ h) x line =
    not ((i == x.number) && asks_lock w) && was_bind_asked h x line
was_bind_asked ((event.Interface (ie.Bind i l stream loss), w) ∷ h) x line =
    ((i == x.number) && (l == line) && is_asked_at w 1) || was_bind_asked h x line
was_bind_asked (_ ∷ h) x line = was_bind_asked h x line

-- a stop of its stream begins, or there is an event of a stop of a stream between devices that it was to be bound to
abbrev pub stops_stream : History → Event → Verdict → Site → Bool
stops_stream h (event.Stop line stream loss) w x =
    is_stopping w
    && (((line == x.link) && (stream == x.plan.stream) && not (has_begun (op_of h line stream)))
    || (nat_le 24 line && was_bind_asked h x line))
stops_stream h e w x = false

-- ---- the view after a pair

pub record MovesView (h : History) (e : Event) (w : Verdict) (x : Site) (view next : View) : Type 0 where
  pub locked : tells_locked e w x ≡ true → next ≡ Locked
  pub started : tells_started e w x ≡ true → next ≡ Running
  pub halted : tells_halted e w x ≡ true → next ≡ Unlocked
  pub lost : loses e w x ≡ true → next ≡ Doubt
  pub wrong : tells_wrong view e w x ≡ true → next ≡ Broken
  pub stopped : stops_stream h e w x ≡ true → next ≡ view_broken view
  pub reset : is_link_reset e w x ≡ true → next ≡ view_broken view
  pub stayed : tells_locked e w x ≡ false → tells_started e w x ≡ false → tells_halted e w x ≡ false
      → loses e w x ≡ false
      → tells_wrong view e w x ≡ false → stops_stream h e w x ≡ false → is_link_reset e w x ≡ false → next ≡ view

abbrev pub MovesViews : Plan → History → Event → Verdict → Type 0
MovesViews plan h e w = (i : ℕ) (x : Site) → site_at plan i ≡ Some x
    → MovesView h e w x (view_at h x) (view_at ((e, w) ∷ h) x)

abbrev pub ViewLaw : Plan → History → Type 0
ViewLaw plan h = AtPairs (MovesViews plan) h
