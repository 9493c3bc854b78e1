-- The states of an interface: what takes it from one to another, and that nothing else does (TDISP, PCI Express Base
-- 6.0 chapter 11, in this profile).
use Rattle.std.specs.Prelude.{◌≡◌, ℕ, ◌∷◌, ◌==◌, ◌&&◌, ◌||◌, Bool, true, false, not, List, Option, Some, None, is_some}
use Rattle.std.specs.Prelude.{[], ◌⊎◌, IfSome, if◌then◌else◌}
use Rattle.ide_types.specs.Ports.{device_port}
use Rattle.ide_types.specs.declared.plan.Plan.{Plan}
use Rattle.spec_keys.specs.History.{History}
use Rattle.spec_interfaces.specs.Terms.{Event, Verdict, PortName, TdiState, ConfigUnlocked, ConfigLocked}
use Rattle.spec_interfaces.specs.Terms.{Run, Error, Lock, state_code, history_status, changes_listed, has_bit}
use Rattle.spec_interfaces.specs.Sites.{Site, site_at, nonce_behind}
use Rattle.spec_interfaces.specs.Exchanges.{carries, changes_device}
use Rattle.spec_interfaces.specs.Views.{managed_view}
use Rattle.spec_interfaces.specs.Devices.{interface_at, used_at, has_secure_stream, is_stream_left, is_bound_at}
use Rattle.spec_interfaces.specs.Laws.{IsLocked}
use Rattle.spec_interfaces.specs.Peers.{is_secure, peer_end}
use Rattle.interface_state.specs.Machine.{are_lock_flags, is_page, is_unlocked, is_locked}
use Rattle.interface_state.specs.Bars.{bars_of, any_overlap}
use Rattle.law_locks.specs.Fronts.{AtPairs}
use Rattle.script_events.specs.declared.event.Event.TheVariants as event
use Rattle.script_events.specs.declared.event.InterfaceEvent.TheVariants as ie
use Rattle.event_verdicts.specs.declared.verdict.Verdict.TheVariants as v
use Rattle.ide_types.specs.declared.verdict.InterfaceVerdict.TheVariants as iv

-- ---- what comes to an interface

abbrev pub state_at : Plan → History → Site → TdiState
state_at plan h x = (interface_at plan h x).state

-- LOCK_INTERFACE, START_INTERFACE or STOP_INTERFACE
abbrev pub is_lock_sent : Event → Verdict → Site → Bool
is_lock_sent (event.Interface (ie.Lock i loss)) w x = (i == x.number) && carries w 3
is_lock_sent e w x = false

abbrev pub is_start_sent : Event → Verdict → Site → Bool
is_start_sent (event.Interface (ie.Start i loss)) w x = (i == x.number) && carries w 1
is_start_sent e w x = false

abbrev pub is_stop_sent : Event → Verdict → Site → Bool
is_stop_sent (event.Interface (ie.Halt i loss)) w x = (i == x.number) && carries w 1
is_stop_sent e w x = false

-- its link is reset
abbrev pub is_link_reset : Event → Verdict → Site → Bool
is_link_reset (event.Reset link ends) (v.Reset l) x = link == x.link
is_link_reset e w x = false

-- what its lock forbids: a listed change, a level reset, and with lock flag 0 a firmware update
abbrev pub is_forbidden : Plan → History → Event → Verdict → Site → Bool
is_forbidden plan h (event.Interface (ie.Write i register value)) w x =
    (i == x.number) && changes_device w
    && changes_listed x.plan.flags (interface_at plan h x).registers register value
is_forbidden plan h (event.Interface (ie.Flr i)) w x = (i == x.number) && changes_device w
is_forbidden plan h (event.Interface (ie.Firmware i)) w x =
    (i == x.number) && changes_device w && has_bit 0 x.plan.flags
is_forbidden plan h e w x = false

-- ---- when it changes its state

-- it takes a lock: the flags and the offset are in order, the stream is Secure here, no two BARs overlap, and the
-- link's list has a nonce left
abbrev pub is_lockable : Plan → History → Site → Bool
is_lockable plan h x =
    is_unlocked (state_at plan h x) && (are_lock_flags x.plan.flags && is_page x.plan.offset)
    && (has_secure_stream h x && not (any_overlap (bars_of x.plan (interface_at plan h x).registers)))
    && is_some (nonce_behind plan x.link (used_at plan h x.link))

abbrev pub is_config_locked : TdiState → Bool
is_config_locked (ConfigLocked lock nonce) = true
is_config_locked state = false

abbrev pub locks : Plan → History → Event → Verdict → Site → Bool
locks plan h e w x = is_lock_sent e w x && is_lockable plan h x

abbrev pub starts : Plan → History → Event → Verdict → Site → Bool
starts plan h e w x = is_start_sent e w x && is_config_locked (state_at plan h x)

abbrev pub unlocks : Event → Verdict → Site → Bool
unlocks e w x = is_stop_sent e w x || is_link_reset e w x

-- in CONFIG_LOCKED or RUN something that its lock forbids is done to it, or a stream that it is bound to leaves Secure
-- at its device; a reset of its link goes before
abbrev pub fails : Plan → History → Event → Verdict → Site → Bool
fails plan h e w x =
    is_locked (state_at plan h x) && not (is_link_reset e w x)
    && (is_forbidden plan h e w x || is_stream_left plan h e w x (interface_at plan h x))

-- ---- how it stands then

-- the nonce of the last lock that it took
unfoldable pub nonce_locked : Plan → History → Site → Option (List ℕ)
nonce_locked plan [] x = None
nonce_locked plan ((e, w) ∷ h) x =
    if locks plan h e w x then nonce_behind plan x.link (used_at plan h x.link) else nonce_locked plan h x

-- CONFIG_LOCKED, with the next nonce of the link's list, and the registers as they stood
pub record IsLockTaken (plan : Plan) (h : History) (x : Site) (next : TdiState) : Type 0 where
  pub nonce : List ℕ
  pub is_next : nonce_behind plan x.link (used_at plan h x.link) ≡ Some nonce
  pub lock : Lock
  pub kept : lock
      ≡ record {
        flags = x.plan.flags;
        stream = x.plan.stream;
        offset = x.plan.offset;
        registers = (interface_at plan h x).registers;
      }
  pub is : next ≡ ConfigLocked lock nonce

-- RUN under the lock that stood, whose nonce the request had
pub record IsStarted (plan : Plan) (h : History) (x : Site) (next : TdiState) : Type 0 where
  pub nonce : List ℕ
  pub lock : Lock
  pub was : state_at plan h x ≡ ConfigLocked lock nonce
  pub of_lock : nonce_locked plan h x ≡ Some nonce
  pub sent : (managed_view h x).nonce ≡ nonce
  pub is : next ≡ Run lock

-- the state after a pair
pub record MovesState (plan : Plan) (h : History) (e : Event) (w : Verdict) (x : Site) (next : TdiState) : Type 0 where
  pub locked : locks plan h e w x ≡ true → IsLockTaken plan h x next
  pub started : starts plan h e w x ≡ true → IsStarted plan h x next
  pub unlocked : unlocks e w x ≡ true → next ≡ ConfigUnlocked
  pub failed : fails plan h e w x ≡ true → next ≡ Error
  pub stayed : locks plan h e w x ≡ false → starts plan h e w x ≡ false → unlocks e w x ≡ false
      → fails plan h e w x ≡ false → next ≡ state_at plan h x

abbrev pub MovesStates : Plan → History → Event → Verdict → Type 0
MovesStates plan h e w = (i : ℕ) (x : Site) → site_at plan i ≡ Some x
    → MovesState plan h e w x (state_at plan ((e, w) ∷ h) x)

abbrev pub StateLaw : Plan → History → Type 0
StateLaw plan h = AtPairs (MovesStates plan) h

-- ---- what is shown of it

-- the number and the state that a verdict shows
abbrev pub state_shown : Verdict → Option (ℕ × ℕ)
state_shown (v.Interface (iv.Written i state)) = Some (i, state)
state_shown (v.Interface (iv.Flr i state)) = Some (i, state)
state_shown (v.Interface (iv.Firmware i state)) = Some (i, state)
state_shown (v.Interface (iv.State i state)) = Some (i, state)
state_shown w = None

-- it is that of an interface, which is in this state after the pair
pub record IsStateOf (plan : Plan) (h : History) (e : Event) (w : Verdict) (i state : ℕ) : Type 0 where
  pub interface : Site
  pub known : site_at plan i ≡ Some interface
  pub is : state ≡ state_code (state_at plan ((e, w) ∷ h) interface)

abbrev pub ShowsState : Plan → History → Event → Verdict → Type 0
ShowsState plan h (event.Interface e) w = IfSome (state_shown w)
    (λ shown. IsStateOf plan h (event.Interface e) w shown.0 shown.1)
ShowsState plan h e w = Unit {0}

abbrev pub ShownStateLaw : Plan → History → Type 0
ShownStateLaw plan h = AtPairs (ShowsState plan) h

-- ---- a stream that leaves Secure

-- at an end before a pair, and not after it
pub record LeavesSecure (h : History) (e : Event) (w : Verdict) (end : PortName) (stream : ℕ) : Type 0 where
  pub before : is_secure (history_status h end.side end.line stream) ≡ true
  pub after : is_secure (history_status ((e, w) ∷ h) end.side end.line stream) ≡ false

-- the end at a device of a stream of its interface: that of its lock, or one between devices that it is bound to
abbrev pub IsEndOfBound : Plan → History → Site → PortName → ℕ → Type 0
IsEndOfBound plan h x end stream =
    ((end ≡ device_port x.link) × (stream ≡ x.plan.stream))
    ⊎ ((peer_end plan.peers 0 x.link stream ≡ Some end) × (is_bound_at plan h x stream ≡ true))

-- in CONFIG_LOCKED and RUN that ends the lock: in ERROR, by a reset of its link in CONFIG_UNLOCKED
abbrev pub EndsLocks : Plan → History → Event → Verdict → Type 0
EndsLocks plan h e w = (i : ℕ) (x : Site) (end : PortName) (stream : ℕ) → site_at plan i ≡ Some x → IsLocked plan h x
    → IsEndOfBound plan h x end stream → LeavesSecure h e w end stream
    → state_at plan ((e, w) ∷ h) x ≡ (if is_link_reset e w x then ConfigUnlocked else Error)

abbrev pub LeavingLaw : Plan → History → Type 0
LeavingLaw plan h = AtPairs (EndsLocks plan) h
