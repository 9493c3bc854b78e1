-- What is due of events on an interface, and what these leave of it at the manager and at the device.
use Rattle.std.proofs.Common.{◌≡◌, ℕ, ◌+◌, ◌≤◌, ◌==◌, ◌&&◌, Bool, true, false, Option, Some, List, [], ◌∷◌, refl, arith}
use Rattle.std.proofs.Common.{if◌then◌else◌}
use Rattle.std.specs.List.{list_any}
use Rattle.spec_interfaces.specs.Terms.{Plan, Event, InterfaceEvent, Verdict, History, draws, op_of, DeviceTdi, Loss}
use Rattle.spec_interfaces.specs.Terms.{ConfigUnlocked, StreamLeft, StreamStage}
use Rattle.spec_interfaces.specs.Sites.{Site, site_at, sites}
use Rattle.spec_interfaces.specs.Views.{Managed, managed_view, managed_after, needs_at, number_in, is_number}
use Rattle.spec_interfaces.specs.Views.{on_operation}
use Rattle.spec_interfaces.specs.Devices.{Around, around_at_site, interface_at, interface_if_called}
use Rattle.spec_interfaces.specs.Devices.{used_at, one_if, is_lock_accepted, accepts_lock}
unfoldable use Rattle.spec_interfaces.specs.Devices.{devices}
use Rattle.spec_interfaces.specs.Due.{interface_due}
unfoldable use Rattle.spec_interfaces.specs.Due.{interface_verdict_due}
use Rattle.spec_interfaces.proofs.Trusted.{draws_grow}
unfoldable use Rattle.spec_links.specs.Due.{due}
use Rattle.spec_interfaces.proofs.Views.{not_carried}
use Rattle.script_events.specs.declared.event.Event.TheVariants as event
use Rattle.script_events.specs.declared.event.InterfaceEvent.TheVariants as ie
use Rattle.event_verdicts.specs.declared.verdict.Verdict.TheVariants as v

-- ---- what is due

pub due_at : (plan : Plan) (h : History) (x : Site) (e : InterfaceEvent) (i : ℕ) → number_in e ≡ Some i
    → site_at plan i ≡ Some x → due plan h (event.Interface e) ≡ interface_due plan h x e
unfolding due interface_verdict_due
due_at plan h x e i named at = rw (named, at) refl

-- ---- at the device

-- a device that is in CONFIG_UNLOCKED stays so at a stop and at an establish, with its registers
left_unlocked : (b : Bool) (t : DeviceTdi) → t.state ≡ ConfigUnlocked
    → (interface_if_called b StreamLeft t).state ≡ ConfigUnlocked
left_unlocked true t is = rw is refl
left_unlocked false t is = is

pub unlocked_after_stop : (plan : Plan) (h : History) (line stream : ℕ) (loss : Option Loss) (w : Verdict) (x : Site)
    → (interface_at plan h x).state ≡ ConfigUnlocked
    → (interface_at plan ((event.Stop line stream loss, w) ∷ h) x).state ≡ ConfigUnlocked
unfolding devices
unlocked_after_stop plan h line stream loss w x is = left_unlocked _ (interface_at plan h x) is

pub unlocked_after_establish : (plan : Plan) (h : History) (line stream : ℕ) (loss : Option Loss) (w : Verdict)
    (x : Site) → (interface_at plan h x).state ≡ ConfigUnlocked
    → (interface_at plan ((event.Establish line stream loss, w) ∷ h) x).state ≡ ConfigUnlocked
unfolding devices
unlocked_after_establish plan h line stream loss w x is = left_unlocked _ (interface_at plan h x) is

-- ---- nonces

-- the event is no lock
abbrev pub is_lock : Event → Bool
is_lock (event.Interface (ie.Lock i loss)) = true
is_lock e = false

locks_none : (a : Around) (x : Site) (e : Event) (w : Verdict) (t : DeviceTdi) → is_lock e ≡ false
    → accepts_lock a x e w t ≡ false
locks_none a x e w t other = grind arith

any_none : {A : Type 0} (test : A → Bool) (xs : List A) → ((x : A) → test x ≡ false) → list_any test xs ≡ false
any_none test [] none = refl
any_none test (x ∷ xs) none = rw (none x) (any_none test xs none)

one_none : (n : ℕ) (b : Bool) → b ≡ false → n + one_if b ≡ n
one_none n b is = rw is (omega arith)

pub same_used : (plan : Plan) (h : History) (e : Event) (w : Verdict) (link : ℕ) → is_lock e ≡ false
    → used_at plan ((e, w) ∷ h) link ≡ used_at plan h link
unfolding devices
same_used plan h e w link other =
    one_none (used_at plan h link) _ (any_none (λ (x : Site). (x.link == link)
    && is_lock_accepted plan h (devices plan h) e w x) (sites plan) (λ x. not_carried (x.link == link) _
    (locks_none (around_at_site plan h x) x e w (interface_at plan h x) other)))

-- ---- needs are draws that were made

on_needs : (drawn : ℕ) (e : InterfaceEvent) (w : Verdict) (m : Managed) → m.needs ≤ drawn
    → (on_operation drawn e w m).needs ≤ drawn
on_needs drawn (ie.Lock i loss) w m le = grind arith
on_needs drawn (ie.Report i loss) w m le = grind arith
on_needs drawn (ie.Start i loss) w m le = grind arith
on_needs drawn (ie.Halt i loss) w m le = grind arith
on_needs drawn (ie.State i loss) w m le = grind arith
on_needs drawn (ie.Bind i line stream loss) w m le = grind arith
on_needs drawn e w m le = le

if_needs : (b : Bool) (drawn : ℕ) (m n : Managed) → m.needs ≤ drawn → n.needs ≤ drawn
    → (if b then m else n).needs ≤ drawn
if_needs true drawn m n one two = one
if_needs false drawn m n one two = two

after_needs : (ops : ℕ → ℕ → StreamStage) (drawn : ℕ) (x : Site) (e : Event) (w : Verdict) (m : Managed)
    → m.needs ≤ drawn → (managed_after ops drawn x e w m).needs ≤ drawn
after_needs ops drawn x (event.Interface e) w m le =
    if_needs (is_number (number_in e) x.number) drawn _ m (on_needs drawn e w m le) le
after_needs ops drawn x (event.Stop line stream loss) w m le = if_needs _ drawn _ m le le
after_needs ops drawn x (event.Reset link ends) (v.Reset l) m le = if_needs (link == x.link) drawn _ m le le
after_needs ops drawn x e w m le = le

pub needs_made : (h : History) (x : Site) → needs_at h x ≤ draws h
unfolding managed_view
needs_made [] x = omega arith
needs_made ((e, w) ∷ h) x =
    let before = needs_made h x in
    let more = draws_grow h e w in
    let after = after_needs (op_of h) (draws h) x e w (managed_view h x) before in
    omega (arith, more, after)
