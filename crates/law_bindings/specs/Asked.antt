-- Bindings of interfaces to streams between devices (TDISP, PCI Express Base 6.0 chapter 11, in this profile): each was
-- asked for under the lock that stands, verdicts tell it, and a stop of its stream breaks the view.
use Rattle.std.specs.Prelude.{◌≡◌, ◌==◌, ◌&&◌, ◌++◌, ◌∷◌, ℕ, Bool, true, false, Option, Some, is_some, not}
use Rattle.std.specs.List.{list_any}
use Rattle.ide_types.specs.declared.plan.Plan.{Plan}
use Rattle.spec_keys.specs.History.{History}
use Rattle.spec_keys.specs.Operations.{reach_of}
use Rattle.interface_state.specs.Machine.{lock_flags}
use Rattle.interface_state.specs.RegisterValues.{has_bit}
use Rattle.spec_interfaces.specs.Terms.{Event, Verdict, Loss, Broken, PortName}
use Rattle.spec_interfaces.specs.Sites.{Site, site_at}
use Rattle.spec_interfaces.specs.Exchanges.{carries}
use Rattle.spec_interfaces.specs.Peers.{peer_end}
use Rattle.spec_interfaces.specs.Views.{managed_view, view_at, is_bind_asked}
use Rattle.spec_interfaces.specs.Devices.{interface_at, is_bound_at, locks_accepted}
use Rattle.spec_interfaces.specs.Laws.{IsLocked}
use Rattle.law_locks.specs.Fronts.{AtEach, AtPairs}
use Rattle.law_locks.specs.Locks.{IsSecurePeer}
use Rattle.script_events.specs.declared.event.Event.TheVariants as event
use Rattle.script_events.specs.declared.event.InterfaceEvent.TheVariants as ie
use Rattle.event_verdicts.specs.declared.verdict.Operation.TheVariants as op
use Rattle.event_verdicts.specs.declared.verdict.Verdict.TheVariants as v
use Rattle.ide_types.specs.declared.verdict.InterfaceVerdict.TheVariants as iv

-- ---- what an interface is bound to

-- an unbind of the stream comes to the interface
abbrev pub is_unbound_by : Site → ℕ → Event → Verdict → Bool
is_unbound_by x stream (event.Interface (ie.Unbind i line s loss)) w = (i == x.number) && (s == stream) && carries w 1
is_unbound_by x stream e w = false

abbrev pub is_unbound_in : Site → ℕ → History → Bool
is_unbound_in x stream since = list_any (λ pair. is_unbound_by x stream pair.0 pair.1) since

-- An earlier bind of the stream came to the interface, under the lock that stands. That lock has flag 3, and the stream
-- was Secure then at its end at the device. No unbind of it came to the interface since, and the manager counts it
-- among those that were asked since the lock.
pub record WasAsked (plan : Plan) (h : History) (x : Site) (stream : ℕ) : Type 0 where
  pub line : ℕ
  pub loss : Option Loss
  pub verdict : Verdict
  pub older : History
  pub since : History
  pub came : since ++ (event.Interface (ie.Bind x.number line stream loss), verdict) ∷ older ≡ h
  pub reached : carries verdict 1 ≡ true
  pub same_lock : locks_accepted plan older x ≡ locks_accepted plan h x
  pub flag : has_bit 3 (lock_flags (interface_at plan older x).state) ≡ true
  pub peer : IsSecurePeer plan older x.link stream
  pub line_is : peer.end.line ≡ line
  pub not_unbound : is_unbound_in x stream since ≡ false
  pub counted : is_bind_asked line (managed_view h x).asked ≡ true

-- so of each binding
abbrev pub WereAsked : Plan → History → Type 0
WereAsked plan h = (i : ℕ) (x : Site) (stream : ℕ) → site_at plan i ≡ Some x → is_bound_at plan h x stream ≡ true
    → WasAsked plan h x stream

abbrev pub BindingsAreAsked : Plan → History → Type 0
BindingsAreAsked plan h = AtEach (WereAsked plan) h

-- An earlier verdict said that the interface was bound to the stream. The lock of then stands, and no unbind of the
-- stream came to the interface since.
pub record WasBound (plan : Plan) (h : History) (x : Site) (stream : ℕ) : Type 0 where
  pub line : ℕ
  pub loss : Option Loss
  pub number : ℕ
  pub shown : ℕ
  pub older : History
  pub since : History
  pub came : since ++ (event.Interface (ie.Bind x.number line stream loss), v.Interface (iv.Bound number shown)) ∷ older
      ≡ h
  pub same_lock : locks_accepted plan older x ≡ locks_accepted plan h x
  pub locked : IsLocked plan h x
  pub not_unbound : is_unbound_in x stream since ≡ false

-- so it is bound to the stream
abbrev pub AreBound : Plan → History → Type 0
AreBound plan h = (i : ℕ) (x : Site) (stream : ℕ) → site_at plan i ≡ Some x → WasBound plan h x stream
    → is_bound_at plan h x stream ≡ true

abbrev pub BindingsLast : Plan → History → Type 0
BindingsLast plan h = AtEach (AreBound plan) h

-- ---- what verdicts tell

-- the verdict names the interface and the line of the event, and the pair changes whether it is bound to the stream
pub record Turns (plan : Plan) (h after : History) (i line stream number shown : ℕ) (before : Bool) : Type 0 where
  pub interface : Site
  pub known : site_at plan i ≡ Some interface
  pub number_is : number ≡ i
  pub line_is : shown ≡ line
  pub was : is_bound_at plan h interface stream ≡ before
  pub is : is_bound_at plan after interface stream ≡ not before

abbrev pub TellsBinding : Plan → History → Event → Verdict → Type 0
TellsBinding plan h (event.Interface (ie.Bind i line stream loss)) (v.Interface (iv.Bound n l)) =
    Turns plan h ((event.Interface (ie.Bind i line stream loss), v.Interface (iv.Bound n l)) ∷ h) i line stream n l
    false
TellsBinding plan h (event.Interface (ie.Unbind i line stream loss)) (v.Interface (iv.Unbound n l)) =
    Turns plan h ((event.Interface (ie.Unbind i line stream loss), v.Interface (iv.Unbound n l)) ∷ h) i line stream n l
    true
TellsBinding plan h e w = Unit {0}

-- at each bound and each unbound verdict
abbrev pub VerdictsTellBindings : Plan → History → Type 0
VerdictsTellBindings plan h = AtPairs (TellsBinding plan) h

-- ---- what a stop breaks

-- an exchange of a stop on the line of a stream that an interface is bound to leaves its view Broken
abbrev pub BreaksViews : Plan → History → Event → Verdict → Type 0
BreaksViews plan h (event.Stop line stream loss) w =
    is_some (reach_of op.Stop w) ≡ true → (i : ℕ) (x : Site) (bound : ℕ) (end : PortName) → site_at plan i ≡ Some x
    → is_bound_at plan h x bound ≡ true → peer_end plan.peers 0 x.link bound ≡ Some end → end.line ≡ line
    → view_at ((event.Stop line stream loss, w) ∷ h) x ≡ Broken
BreaksViews plan h e w = Unit {0}

abbrev pub StopsBreakViews : Plan → History → Type 0
StopsBreakViews plan h = AtPairs (BreaksViews plan) h
