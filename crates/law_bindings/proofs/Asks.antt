-- Each binding was asked for: it came of a bind under the lock that stands, whose stream was Secure then.
use Rattle.law_sealing.proofs.Terms.{◌≡◌, inl, inr, ℕ, ◌==◌, ◌||◌, Bool, true, false}
use Rattle.law_sealing.proofs.Terms.{[], ◌∷◌, ◌++◌, Option, Some, None, refl, ap, sym, subst, ◌∙◌, arith}
use Rattle.law_sealing.proofs.Terms.{if◌then◌else◌, cases_Bool, eqb-true, eq-eqb, Plan, PortName, History, Event}
use Rattle.law_sealing.proofs.Terms.{Verdict, CauseLaw}
use Rattle.std.specs.Option.{option_and_then, option_map_or}
use Rattle.std.proofs.Common.{⊎_elim}
unfoldable use Rattle.spec_interfaces.specs.Peers.{peer_end}
use Rattle.spec_keys.specs.History.{place_keys, history_status}
use Rattle.interface_state.specs.Bindings.{floor_on}
use Rattle.interface_state.specs.Machine.{lock_flags}
use Rattle.interface_state.specs.RegisterValues.{has_bit}
use Rattle.spec_interfaces.specs.Terms.{Loss}
use Rattle.spec_interfaces.specs.Peers.{is_secure, live_at, live_by_id, greatest_on, receiver_at, has_peer}
use Rattle.spec_interfaces.specs.Sites.{Site, site_at}
use Rattle.spec_interfaces.specs.Exchanges.{carries}
unfoldable use Rattle.spec_interfaces.specs.Devices.{devices}
use Rattle.spec_interfaces.specs.Devices.{around_at_site, interface_at, is_stream_left, accepts_lock, locks_accepted}
use Rattle.spec_interfaces.specs.Due.{bind_due, asked_state}
use Rattle.spec_interfaces.proofs.Locks.{bound_at}
use Rattle.spec_interfaces.proofs.Rests.{locks_stay}
use Rattle.spec_interfaces.proofs.Views.{due_own}
use Rattle.law_memory.proofs.Causes.{interface_cause}
use Rattle.law_mmio.proofs.RunLocks.{same_locks}
use Rattle.law_locks.specs.Locks.{IsSecurePeer}
use Rattle.law_bindings.specs.Asked.{is_unbound_by, is_unbound_in}
use Rattle.law_bindings.proofs.Calls.{CameOf, next_came, none_has}
use Rattle.script_events.specs.declared.event.Event.TheVariants as event
use Rattle.script_events.specs.declared.event.InterfaceEvent.TheVariants as ie
use Rattle.event_verdicts.specs.declared.verdict.Verdict.TheVariants as v
use Rattle.law_bytes.proofs.BindFloors.{accepts_unlocked}

-- ---- over a pair

pub bound_came : (plan : Plan) (h : History) (e : Event) (w : Verdict) (x : Site) (stream floor : ℕ)
    → floor_on stream (interface_at plan ((e, w) ∷ h) x).bindings ≡ Some floor
    → CameOf (around_at_site plan h x) x e w (interface_at plan h x) stream floor
unfolding devices
bound_came plan h e w x stream floor has =
    next_came (around_at_site plan h x) (is_stream_left plan h e w x (interface_at plan h x)) x e w
    (interface_at plan h x) stream floor (bound_at plan h x) has

-- what is bound is locked, and takes no lock
lock_none : (plan : Plan) (h : History) (e : Event) (w : Verdict) (x : Site) (stream floor : ℕ)
    → floor_on stream (interface_at plan h x).bindings ≡ Some floor
    → accepts_lock (around_at_site plan h x) x e w (interface_at plan h x) ≡ false
lock_none plan h e w x stream floor has =
    elim (cases_Bool (accepts_lock (around_at_site plan h x) x e w (interface_at plan h x))) [
      | inl taken ↦
          absurd (none_has stream floor (interface_at plan h x).bindings ((bound_at plan h x).locked
          (accepts_unlocked (around_at_site plan h x) x e w (interface_at plan h x) taken)) has)
      | inr none ↦ none
    ]

-- ---- the stream that a bind is taken on

pub record IsLiveEnd (plan : Plan) (h : History) (link stream floor : ℕ) : Type 0 where
  pub end : PortName
  pub at_device : peer_end plan.peers 0 link stream ≡ Some end
  pub secure : is_secure (history_status h end.side end.line stream) ≡ true
  pub floor_is : floor ≡ greatest_on (place_keys h (receiver_at end stream))

pub live_means : (plan : Plan) (h : History) (link stream floor : ℕ)
    → live_by_id (live_at h) plan.peers link stream ≡ Some floor → IsLiveEnd plan h link stream floor
live_means plan h link stream floor is = by (peer_end plan.peers 0 link stream) refl is
  where
    by_secure : (end : PortName) → peer_end plan.peers 0 link stream ≡ Some end → (b : Bool)
        → is_secure (history_status h end.side end.line stream) ≡ b
        → (if b then Some (greatest_on (place_keys h (receiver_at end stream))) else None) ≡ Some floor
        → IsLiveEnd plan h link stream floor
    by_secure end at true secure is =
        record { end = end; at_device = at; secure = secure; floor_is = sym (cc (is)) }
    by_secure end at false secure is = absurd cc

    by : (o : Option PortName) → peer_end plan.peers 0 link stream ≡ o
        → option_and_then (λ end. live_at h end stream) o ≡ Some floor → IsLiveEnd plan h link stream floor
    by None at is = absurd cc
    by (Some end) at is = by_secure end at (is_secure (history_status h end.side end.line stream)) refl is

-- a bind that comes to the interface names the line of the stream
pub has_line : (plan : Plan) (link line stream : ℕ) (end : PortName) → has_peer plan.peers link line stream ≡ true
    → peer_end plan.peers 0 link stream ≡ Some end → end.line ≡ line
has_line plan link line stream end has at =
    eqb-true end.line line
    (sym (ap (λ (o : Option PortName). option_map_or (λ (e : PortName). e.line == line) o false) at) ∙ has)

pub bind_has_line : (plan : Plan) (h : History) (i line stream : ℕ) (loss : Option Loss) (w : Verdict) (x : Site)
    → site_at plan x.number ≡ Some x → CauseLaw plan ((event.Interface (ie.Bind i line stream loss), w) ∷ h)
    → (i == x.number) ≡ true → carries w 1 ≡ true → has_peer plan.peers x.link line stream ≡ true
bind_has_line plan h i line stream loss w x known cause own reached =
    by (has_peer plan.peers x.link line stream) (due_own plan h x (ie.Bind i line stream loss) i w known refl own
    (interface_cause plan ((event.Interface (ie.Bind i line stream loss), w) ∷ h) cause).0)
  where
    by : (b : Bool) → w ≡ (if b then bind_due x (asked_state plan h x) line stream loss else v.Nothing) → b ≡ true
    by true is = refl
    by false is = sym (ap (λ (u : Verdict). carries u 1) is) ∙ reached

-- ---- all pairs

-- the bind that it came of
pub record CameOfBind (plan : Plan) (h : History) (x : Site) (stream : ℕ) : Type 0 where
  pub line : ℕ
  pub loss : Option Loss
  pub verdict : Verdict
  pub older : History
  pub since : History
  pub came : since ++ (event.Interface (ie.Bind x.number line stream loss), verdict) ∷ older ≡ h
  pub reached : carries verdict 1 ≡ true
  pub same_lock : locks_accepted plan older x ≡ locks_accepted plan h x
  pub flag : has_bit 3 (lock_flags (interface_at plan older x).state) ≡ true
  pub peer : IsSecurePeer plan older x.link stream
  pub line_is : peer.end.line ≡ line
  pub not_unbound : is_unbound_in x stream since ≡ false

neither : (a b : Bool) → a ≡ false → b ≡ false → (a || b) ≡ false
neither a b one two = grind arith

later_bind : (plan : Plan) (h : History) (e : Event) (w : Verdict) (x : Site) (stream : ℕ)
    → is_unbound_by x stream e w ≡ false → locks_accepted plan ((e, w) ∷ h) x ≡ locks_accepted plan h x
    → CameOfBind plan h x stream → CameOfBind plan ((e, w) ∷ h) x stream
later_bind plan h e w x stream stays same was = record {
  line = was.line;
  loss = was.loss;
  verdict = was.verdict;
  older = was.older;
  since = (e, w) ∷ was.since;
  came = ap (λ (g : History). (e, w) ∷ g) was.came;
  reached = was.reached;
  same_lock = was.same_lock ∙ sym same;
  flag = was.flag;
  peer = was.peer;
  line_is = was.line_is;
  not_unbound = neither (is_unbound_by x stream e w) (is_unbound_in x stream was.since) stays was.not_unbound;
}

new_bind : (plan : Plan) (h : History) (line stream floor : ℕ) (loss : Option Loss) (w : Verdict) (x : Site)
    → site_at plan x.number ≡ Some x
    → CauseLaw plan ((event.Interface (ie.Bind x.number line stream loss), w) ∷ h) → carries w 1 ≡ true
    → live_by_id (live_at h) plan.peers x.link stream ≡ Some floor
    → has_bit 3 (lock_flags (interface_at plan h x).state) ≡ true
    → CameOfBind plan ((event.Interface (ie.Bind x.number line stream loss), w) ∷ h) x stream
new_bind plan h line stream floor loss w x known cause reached live flag =
    let end = live_means plan h x.link stream floor live in
    let has = bind_has_line plan h x.number line stream loss w x known cause (eq-eqb x.number x.number refl) reached in
    record {
      line = line;
      loss = loss;
      verdict = w;
      older = h;
      since = [];
      came = refl;
      reached = reached;
      same_lock = sym (locks_stay plan h (event.Interface (ie.Bind x.number line stream loss)) w x refl);
      flag = flag;
      peer = record { end = end.end; at_device = end.at_device; secure = end.secure };
      line_is = has_line plan x.link line stream end.end has end.at_device;
      not_unbound = refl;
    }

pub came_of_bind : (plan : Plan) (h : History) → CauseLaw plan h → (x : Site) → site_at plan x.number ≡ Some x
    → (stream floor : ℕ) → floor_on stream (interface_at plan h x).bindings ≡ Some floor → CameOfBind plan h x stream
unfolding devices
came_of_bind plan [] cause x known stream floor has = absurd (none_has stream floor [] refl has)
came_of_bind plan ((e, w) ∷ h) cause x known stream floor has =
    ⊎_elim (λ old.
    later_bind plan h e w x stream old.stays (same_locks plan h e w x (lock_none plan h e w x stream floor old.was))
    (came_of_bind plan h cause.1 x known stream floor old.was)) (λ new.
    subst (λ (f : Event). CameOfBind plan ((f, w) ∷ h) x stream) (sym new.event)
    (new_bind plan h new.line stream floor new.loss w x known
    (subst (λ (f : Event). CauseLaw plan ((f, w) ∷ h)) new.event cause) new.reached new.live new.flag))
    (bound_came plan h e w x stream floor has)
