-- A stream that leaves Secure ends the lock of each interface that is bound to it.
use Rattle.std.proofs.Common.{◌≡◌, ℕ, ◌==◌, ◌&&◌, ◌||◌, ◌∷◌, ◌⊎◌, inl}
use Rattle.std.proofs.Common.{inr, Bool, true, false, not, List, [], Option, Some}
use Rattle.std.proofs.Common.{None, if◌then◌else◌, refl, sym, ap, ◌∙◌, arith}
use Rattle.std.proofs.lemmas.Bool.{cases_Bool, true≢false, eqb-true, or_left, or_right}
use Rattle.std.specs.Prelude.{is_some}
use Rattle.ide_types.specs.declared.binding.Binding.{Binding}
use Rattle.spec_keys.specs.History.{place_keys}
use Rattle.spec_links.specs.Cause.{CauseLaw}
use Rattle.spec_interfaces.specs.Terms.{Plan, PortName, Event, Verdict, History, TdiState, ConfigUnlocked, ConfigLocked}
use Rattle.spec_interfaces.specs.Terms.{Run, Error, state_code, history_status, binds}
use Rattle.spec_interfaces.specs.Sites.{Site, site_at}
use Rattle.spec_interfaces.specs.Peers.{is_secure, live_at, live_by_id, any_leaves, greatest_on, receiver_at, peer_end}
use Rattle.spec_interfaces.specs.Devices.{interface_at, has_secure_stream, is_stream_left, leaves}
use Rattle.spec_interfaces.specs.Laws.{IsLocked}
use Rattle.interface_state.specs.Machine.{is_locked}
use Rattle.law_states.specs.States.{state_at, is_link_reset, is_stop_sent, is_forbidden, LeavesSecure}
use Rattle.law_states.specs.States.{IsEndOfBound}
use Rattle.law_states.proofs.Held.{moves_state}
use Rattle.law_locks.proofs.SecurePeers.{some_if}

left_by : (a b : Bool) → a ≡ true → b ≡ false → (a && not b) ≡ true
left_by a b one two = rw (one, two) refl

any_by : (before after : ℕ → Option ℕ) (bs : List Binding) (stream : ℕ) → binds stream bs ≡ true
    → is_some (before stream) ≡ true → is_some (after stream) ≡ false → any_leaves before after bs ≡ true
any_by before after [] stream there one two = absurd (true≢false (sym there))
any_by before after (b ∷ bs) stream there one two = elim (cases_Bool (b.stream == stream)) [
  | inl here ↦
      let same = eqb-true b.stream stream here in
      or_left _ (any_leaves before after bs)
      (left_by (is_some (before b.stream)) (is_some (after b.stream))
      (ap (λ s. is_some (before s)) same ∙ one) (ap (λ s. is_some (after s)) same ∙ two))
  | inr other ↦
      or_right _ (any_leaves before after bs)
      (any_by before after bs stream (sym (ap (λ c. c || binds stream bs) other) ∙ there) one two)
]

none_if : (b : Bool) (j : ℕ) → b ≡ false → is_some (if b then Some j else None) ≡ false
none_if b j is = rw is refl

live_there : (plan : Plan) (h : History) (link stream : ℕ) (end : PortName) → peer_end plan.peers 0 link stream
    ≡ Some end → is_secure (history_status h end.side end.line stream) ≡ true
    → is_some (live_by_id (live_at h) plan.peers link stream) ≡ true
live_there plan h link stream end at is = rw at (some_if (is_secure (history_status h end.side end.line stream))
    (greatest_on (place_keys h (receiver_at end stream))) is)

dead_there : (plan : Plan) (h : History) (link stream : ℕ) (end : PortName) → peer_end plan.peers 0 link stream
    ≡ Some end → is_secure (history_status h end.side end.line stream) ≡ false
    → is_some (live_by_id (live_at h) plan.peers link stream) ≡ false
dead_there plan h link stream end at is = rw at (none_if (is_secure (history_status h end.side end.line stream))
    (greatest_on (place_keys h (receiver_at end stream))) is)

left_there : (plan : Plan) (h : History) (e : Event) (w : Verdict) (x : Site) (end : PortName) (stream : ℕ)
    → IsEndOfBound plan h x end stream → LeavesSecure h e w end stream
    → is_stream_left plan h e w x (interface_at plan h x) ≡ true
left_there plan h e w x end stream (inl own) left =
    or_left (leaves h e w x) _
    (left_by (has_secure_stream h x) (has_secure_stream ((e, w) ∷ h) x)
    (sym (at_own h) ∙ left.before) (sym (at_own ((e, w) ∷ h)) ∙ left.after))
  where
    at_own : (g : History) → is_secure (history_status g end.side end.line stream) ≡ has_secure_stream g x
    at_own g = rw (own.0, own.1) refl
left_there plan h e w x end stream (inr bound) left =
    or_right (leaves h e w x) _
    (any_by (live_by_id (live_at h) plan.peers x.link) (live_by_id (live_at ((e, w) ∷ h)) plan.peers x.link)
    (interface_at plan h x).bindings stream bound.1 (live_there plan h x.link stream end bound.0 left.before)
    (dead_there plan ((e, w) ∷ h) x.link stream end bound.0 left.after))

pub locked_state : (s : TdiState) → (state_code s ≡ 1) ⊎ (state_code s ≡ 2) → is_locked s ≡ true
locked_state ConfigUnlocked (inl is) = absurd cc
locked_state ConfigUnlocked (inr is) = absurd cc
locked_state (ConfigLocked lock nonce) is = refl
locked_state (Run lock) is = refl
locked_state Error (inl is) = absurd cc
locked_state Error (inr is) = absurd cc

fails_by : (k r f l : Bool) → k ≡ true → r ≡ false → l ≡ true → (k && not r && (f || l)) ≡ true
fails_by k r f l one two three = grind (arith, one, two, three)

pub ends_lock : (plan : Plan) (h : History) (e : Event) (w : Verdict) (x : Site) (end : PortName) (stream : ℕ)
    → site_at plan x.number ≡ Some x → CauseLaw plan ((e, w) ∷ h) → IsLocked plan h x
    → IsEndOfBound plan h x end stream → LeavesSecure h e w end stream
    → state_at plan ((e, w) ∷ h) x ≡ (if is_link_reset e w x then ConfigUnlocked else Error)
ends_lock plan h e w x end stream at cause locked bound left = elim (cases_Bool (is_link_reset e w x)) [
  | inl reset ↦ rw reset ((moves_state plan h e w x at cause).unlocked
      (or_right (is_stop_sent e w x) (is_link_reset e w x) reset))
  | inr other ↦ rw other ((moves_state plan h e w x at cause).failed
      (fails_by (is_locked (state_at plan h x)) (is_link_reset e w x) (is_forbidden plan h e w x)
      (is_stream_left plan h e w x (interface_at plan h x)) (locked_state (state_at plan h x) locked) other
      (left_there plan h e w x end stream bound left)))
]
