-- An interface is bound only to streams between devices that are Secure at its device.
use Rattle.std.proofs.Common.{◌≡◌, ⊎_elim, ℕ, ◌==◌, ◌&&◌, ◌||◌, Bool, true, false, List, [], ◌∷◌}
use Rattle.std.proofs.Common.{refl, ap, sym, ◌∙◌, arith}
use Rattle.std.specs.Prelude.{not, if◌then◌else◌, is_some, Option, Some, None}
use Rattle.std.specs.Option.{option_and_then}
use Rattle.std.proofs.lemmas.Bool.{true≢false, eq-eqb, eqb-true, cases_Bool, or_left, or_right, or_parts}
use Rattle.spec_keys.specs.History.{place_keys}
use Rattle.spec_links.specs.Terms.{Plan, PortName, Event, InterfaceEvent, Verdict, History}
use Rattle.spec_links.specs.Cause.{CauseLaw}
unfoldable use Rattle.spec_links.specs.Due.{due}
use Rattle.spec_interfaces.specs.Terms.{history_status}
use Rattle.spec_interfaces.specs.Sites.{Site}
use Rattle.spec_interfaces.specs.Views.{is_number, number_in}
use Rattle.spec_interfaces.specs.Peers.{is_secure, live_at, live_by_id, any_leaves, greatest_on, receiver_at, peer_end}
unfoldable use Rattle.spec_interfaces.specs.Devices.{devices}
use Rattle.spec_interfaces.specs.Devices.{around_at_site, interface_at, interface_if_called, next_interface}
use Rattle.spec_interfaces.specs.Devices.{is_stream_left, leaves, reset_call, is_bound_at}
use Rattle.spec_interfaces.proofs.Binds.{AreLive, no_binding, next_live}
use Rattle.spec_interfaces.proofs.Locks.{bound_at}
use Rattle.ide_types.specs.declared.binding.Binding.{Binding}
use Rattle.interface_state.specs.declared.states.TdiState.{TdiState}
use Rattle.interface_state.specs.declared.states.TdiState.TheVariants.{ConfigUnlocked, ConfigLocked, Run, Error}
use Rattle.interface_state.specs.Bindings.{binds}
use Rattle.interface_state.specs.Held.{IsBound}
use Rattle.interface_state.specs.Machine.{DeviceTdi, is_locked, bindings_left, after_failure}
use Rattle.interface_state.specs.Machine as call
use Rattle.interface_state.proofs.Bound.{left_bound}
use Rattle.law_mmio.proofs.Secure.{interface_leaves_secure}
use Rattle.law_locks.specs.Locks.{IsSecurePeer}
use Rattle.script_events.specs.declared.event.Event.TheVariants as event
use Rattle.event_verdicts.specs.declared.verdict.Verdict.TheVariants as v

-- ---- streams that leave

still : (a b : Bool) → a ≡ true → (a && not b) ≡ false → b ≡ true
still a b one two = grind arith

-- each that does not leave is Secure still
none_leaves : (before after : ℕ → Option ℕ) (bs : List Binding) → any_leaves before after bs ≡ false
    → AreLive before bs → AreLive after bs
none_leaves before after [] none are stream is = absurd (true≢false (sym is))
none_leaves before after (b ∷ bs) none are stream is =
    ⊎_elim
    (λ here.
    let same = eqb-true b.stream stream here in
    ap (λ s. is_some (after s)) (sym same)
    ∙ still (is_some (before b.stream)) (is_some (after b.stream))
    (are b.stream (or_left (b.stream == b.stream) (binds b.stream bs) (eq-eqb b.stream b.stream refl)))
    (or_parts _ (any_leaves before after bs) none).0)
    (λ other.
    none_leaves before after bs
    (or_parts (is_some (before b.stream) && not (is_some (after b.stream))) (any_leaves before after bs) none).1
    (λ s at. are s (or_right (b.stream == s) (binds s bs) at)) stream
    (sym (ap (λ c. c || binds stream bs) other) ∙ is))
    (cases_Bool (b.stream == stream))

failed_rests : (s : TdiState) → is_locked (after_failure s) ≡ false
failed_rests ConfigUnlocked = refl
failed_rests (ConfigLocked lock nonce) = refl
failed_rests (Run lock) = refl
failed_rests Error = refl

-- in ERROR none is left, and else none of them left Secure
left_after : (before after : ℕ → Option ℕ) (own : Bool) (t : DeviceTdi) (left : Bool) → IsBound t.state t.bindings
    → (own || any_leaves before after t.bindings) ≡ left → AreLive before t.bindings
    → AreLive after (interface_if_called left call.StreamLeft t).bindings
left_after before after own t true held is are =
    no_binding after (bindings_left t.state (after_failure t.state) t.bindings)
    ((left_bound t.state (after_failure t.state) t.bindings held).locked (failed_rests t.state))
left_after before after own t false held is are =
    none_leaves before after t.bindings (or_parts own (any_leaves before after t.bindings) is).1 are

reset_after : (before after : ℕ → Option ℕ) (resets own : Bool) (t : DeviceTdi) → IsBound t.state t.bindings
    → AreLive before t.bindings → AreLive after
    (interface_if_called (resets || (own || any_leaves before after t.bindings)) (reset_call resets) t).bindings
reset_after before after true own t held are = no_binding after [] refl
reset_after before after false own t held are =
    left_after before after own t (own || any_leaves before after t.bindings) held refl are

-- ---- what is said of a stream between devices

pub is_if : (b : Bool) (j : ℕ) → is_some (if b then Some j else None) ≡ true → b ≡ true
is_if b j is = grind arith

pub some_if : (b : Bool) (j : ℕ) → b ≡ true → is_some (if b then Some j else None) ≡ true
some_if b j is = rw is refl

end_secure : (h : History) (end : PortName) (stream : ℕ) → is_some (live_at h end stream) ≡ true
    → is_secure (history_status h end.side end.line stream) ≡ true
end_secure h end stream is = is_if (is_secure (history_status h end.side end.line stream))
    (greatest_on (place_keys h (receiver_at end stream))) is

pub still_live : (plan : Plan) (h : History) (e : InterfaceEvent) (w : Verdict) (stream : ℕ) (o : Option PortName)
    → w ≡ due plan h (event.Interface e) → is_some (option_and_then (λ end. live_at h end stream) o) ≡ true
    → is_some (option_and_then (λ end. live_at ((event.Interface e, w) ∷ h) end stream) o) ≡ true
still_live plan h e w stream None due_is is = absurd (true≢false (sym is))
still_live plan h e w stream (Some end) due_is is =
    let after = (event.Interface e, w) ∷ h in
    some_if (is_secure (history_status after end.side end.line stream))
    (greatest_on (place_keys after (receiver_at end stream)))
    (interface_leaves_secure plan h e w end.side end.line stream due_is (end_secure h end stream is))

secure_peer : (plan : Plan) (h : History) (link stream : ℕ) (o : Option PortName) → peer_end plan.peers 0 link stream
    ≡ o → is_some (option_and_then (λ end. live_at h end stream) o) ≡ true → IsSecurePeer plan h link stream
secure_peer plan h link stream None at is = absurd (true≢false (sym is))
secure_peer plan h link stream (Some end) at is =
    record { end = end; at_device = at; secure = end_secure h end stream is }

-- ---- the pair

abbrev live_on : Plan → History → Site → ℕ → Option ℕ
live_on plan h x = live_by_id (live_at h) plan.peers x.link

after : (plan : Plan) (h : History) (e : Event) (w : Verdict) (x : Site) → w ≡ due plan h e
    → AreLive (live_on plan h x) (interface_at plan h x).bindings → AreLive (live_on plan ((e, w) ∷ h) x)
    (next_interface (around_at_site plan h x) (is_stream_left plan h e w x (interface_at plan h x)) x e w
    (interface_at plan h x)).bindings
after plan h (event.Interface e) w x is are = λ stream binds_it.
    still_live plan h e w stream (peer_end plan.peers 0 x.link stream) is
    (next_live (live_on plan h x) (is_number (number_in e) x.number) (around_at_site plan h x) x e w
    (interface_at plan h x)
    refl
    are stream binds_it)
after plan h (event.Reset l ends) (v.Reset k) x is are =
    reset_after (live_on plan h x) (live_on plan ((event.Reset l ends, v.Reset k) ∷ h) x) (l == x.link)
    (leaves h (event.Reset l ends) (v.Reset k) x) (interface_at plan h x) (bound_at plan h x) are
after plan h e w x is are = left_after (live_on plan h x) (live_on plan ((e, w) ∷ h) x) (leaves h e w x)
    (interface_at plan h x) (is_stream_left plan h e w x (interface_at plan h x)) (bound_at plan h x) refl are

bound_live : (plan : Plan) (h : History) → CauseLaw plan h → (x : Site)
    → AreLive (live_on plan h x) (interface_at plan h x).bindings
unfolding devices
bound_live plan [] cause x = no_binding (live_on plan [] x) [] refl
bound_live plan ((e, w) ∷ h) cause x = after plan h e w x cause.0 (bound_live plan h cause.1 x)

pub bound_secure : (plan : Plan) (h : History) → CauseLaw plan h → (x : Site) (stream : ℕ)
    → is_bound_at plan h x stream ≡ true → IsSecurePeer plan h x.link stream
bound_secure plan h cause x stream is =
    secure_peer plan h x.link stream (peer_end plan.peers 0 x.link stream) refl (bound_live plan h cause x stream is)
