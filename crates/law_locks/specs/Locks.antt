-- What a lock of an interface says of its streams, of its report, of the manager's view and of its memory (PCI Express
-- Base 6.0 chapter 11, in this profile).
use Rattle.std.specs.Prelude.{◌≡◌, ◌⊎◌, ◌∷◌, ◌++◌, ℕ, true, false, List, Option, Some}
use Rattle.ide_types.specs.declared.plan.Plan.{Plan}
use Rattle.spec_keys.specs.History.{History}
use Rattle.spec_interfaces.specs.Terms.{View, Unlocked, Locked, Running, TdiState, Event, Verdict, Loss, state_code}
use Rattle.spec_interfaces.specs.Terms.{PortName, history_status, interface_report_bytes}
use Rattle.spec_interfaces.specs.Sites.{Site, site_at}
use Rattle.spec_interfaces.specs.Views.{view_at}
use Rattle.spec_interfaces.specs.Devices.{interface_at, locks_accepted, runs_at, registers_locked, has_secure_stream}
use Rattle.spec_interfaces.specs.Devices.{is_bound_at}
use Rattle.spec_interfaces.specs.Peers.{peer_end, is_secure}
use Rattle.spec_interfaces.specs.Laws.{IsLocked}
use Rattle.guarded_memory.specs.Statuses.{has_open_range}
use Rattle.interface_state.specs.Machine.{is_unlocked}
use Rattle.law_mmio.specs.Stored.{stored_byte}
use Rattle.law_locks.specs.Fronts.{AtEach, AtPairs}
use Rattle.script_events.specs.declared.event.Event.TheVariants as event
use Rattle.script_events.specs.declared.event.InterfaceEvent.TheVariants as ie
use Rattle.event_verdicts.specs.declared.verdict.Verdict.TheVariants as v
use Rattle.ide_types.specs.declared.verdict.InterfaceVerdict.TheVariants as iv

-- ---- the streams

-- the stream between a link's device and another that has an ID is Secure at its end at that device
pub record IsSecurePeer (plan : Plan) (h : History) (link stream : ℕ) : Type 0 where
  pub end : PortName
  pub at_device : peer_end plan.peers 0 link stream ≡ Some end
  pub secure : is_secure (history_status h end.side end.line stream) ≡ true

-- Locked and in RUN, its lock's stream is Secure at the device's port; so is, at its end at the device, each stream
-- between the device and another that it is bound to.
pub record HasSecureStreams (plan : Plan) (h : History) (x : Site) : Type 0 where
  pub own : IsLocked plan h x → has_secure_stream h x ≡ true
  pub bound : (stream : ℕ) → is_bound_at plan h x stream ≡ true → IsSecurePeer plan h x.link stream

abbrev pub AreSecure : Plan → History → Type 0
AreSecure plan h = (i : ℕ) (x : Site) → site_at plan i ≡ Some x → HasSecureStreams plan h x

abbrev pub LockLaw : Plan → History → Type 0
LockLaw plan h = AtEach (AreSecure plan) h

-- ---- the report

-- An earlier verdict showed a report, under as many locks as now, and that report is that of the registers as they
-- stood at the lock.
pub record IsReported (plan : Plan) (h : History) (x : Site) : Type 0 where
  pub loss : Option Loss
  pub report : List ℕ
  pub older : History
  pub since : History
  pub came : since ++ (event.Interface (ie.Report x.number loss), v.Interface (iv.Reported x.number report)) ∷ older ≡ h
  pub same_lock : locks_accepted plan older x ≡ locks_accepted plan h x
  pub report_is : report ≡ interface_report_bytes x.plan (registers_locked plan h x) x.plan.flags x.plan.offset

-- so of each interface in RUN
abbrev pub IsAttested : Plan → History → Type 0
IsAttested plan h = (i : ℕ) (x : Site) → site_at plan i ≡ Some x → runs_at plan h x ≡ true → IsReported plan h x

abbrev pub ReportsAreShown : Plan → History → Type 0
ReportsAreShown plan h = AtEach (IsAttested plan) h

-- ---- the view

-- what a view says of the state: nothing in doubt, and nothing once it is broken
abbrev pub IsTrueOf : View → TdiState → Type 0
IsTrueOf Unlocked state = state_code state ≡ 0
IsTrueOf Locked state = (state_code state ≡ 1) ⊎ (state_code state ≡ 3)
IsTrueOf Running state = (state_code state ≡ 2) ⊎ (state_code state ≡ 3)
IsTrueOf view state = Unit {0}

abbrev pub HasTrueViews : Plan → History → Type 0
HasTrueViews plan h = (i : ℕ) (x : Site) → site_at plan i ≡ Some x
    → IsTrueOf (view_at h x) (interface_at plan h x).state

abbrev pub ViewsAreTrue : Plan → History → Type 0
ViewsAreTrue plan h = AtEach (HasTrueViews plan) h

-- ---- the memory

-- a pair that takes an interface to CONFIG_UNLOCKED leaves each byte of a range that is not open 0
abbrev pub Scrubs : Plan → History → Event → Verdict → Type 0
Scrubs plan h e w = (i : ℕ) (x : Site) (bar offset : ℕ) → site_at plan i ≡ Some x
    → is_unlocked (interface_at plan h x).state ≡ false → is_unlocked (interface_at plan ((e, w) ∷ h) x).state ≡ true
    → has_open_range x.plan.bars bar ≡ false → stored_byte plan ((e, w) ∷ h) x bar offset ≡ 0

abbrev pub UnlockedIsScrubbed : Plan → History → Type 0
UnlockedIsScrubbed plan h = AtPairs (Scrubs plan) h
