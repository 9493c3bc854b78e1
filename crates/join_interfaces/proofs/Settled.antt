-- An interface at its device when streams are left. A lock stands only on the topology's stream, and only while that
-- was Secure, and so was each stream between devices that it is bound to: so the device settles exactly those
-- interfaces that the machine sends to ERROR, and after that all that an interface is bound to is Secure then.
use Rattle.std.proofs.Common.{◌≡◌, ℕ, ◌==◌, ◌&&◌, ◌||◌, Bool, true, false, List, [], ◌∷◌, refl, ap, sym, ◌∙◌, arith}
use Rattle.std.specs.Prelude.{not, if◌then◌else◌, is_some, IfSome, Option, Some, None, length}
use Rattle.std.proofs.Common.{⊎_elim}
use Rattle.std.proofs.lemmas.Bool.{true≢false, eq-eqb, eqb-true, cases_Bool, or_left, or_right, or_parts}
use Rattle.ide_types.specs.declared.interface.InterfacePlan.{InterfacePlan}
use Rattle.ide_types.specs.declared.binding.Binding.{Binding}
use Rattle.interface_state.specs.declared.register_set.Registers.{Registers}
use Rattle.interface_state.specs.declared.states.TdiState.{TdiState}
use Rattle.interface_state.specs.declared.states.TdiState.TheVariants.{ConfigUnlocked, ConfigLocked, Run, Error}
use Rattle.interface_state.specs.Bindings.{binds}
use Rattle.interface_state.specs.Machine.{DeviceTdi, StreamLeft, bound_link_stream, interface_after_call}
use Rattle.interface_ends.specs.Replies.{settled_interface, any_left}
use Rattle.spec_interfaces.specs.Devices.{interface_if_called}
use Rattle.spec_interfaces.specs.Peers.{any_leaves}
use Rattle.join_interfaces.specs.Says.{DeviceSays, AreApart, AreSecureStill, Keeps, is_said_secure, leaves_stream}

abbrev interface_of_parts : InterfacePlan → Registers → TdiState → List Binding → DeviceTdi
interface_of_parts plan registers state bs = record { plan = plan; registers = registers; state = state; bindings = bs }

-- ---- tests

both_or : (a b c d : Bool) → a ≡ b → c ≡ d → (a || c) ≡ (b || d)
both_or a b c d first second = rw (first, second) refl

left_one : (own some_now some_then : Bool) → own ≡ false → some_then ≡ true
    → not (own || some_now) ≡ (some_then && not some_now)
left_one own some_now some_then first second = grind arith

left_own : (before after live : Bool) → before ≡ true → live ≡ false → not (after || live) ≡ (before && not after)
left_own before after live first second = grind arith

still : (a b : Bool) → a ≡ true → (a && not b) ≡ false → b ≡ true
still a b one two = grind arith

-- ---- streams between devices

any_is : (is_peer : ℕ → Bool) (before after : DeviceSays) (bs : List Binding) → AreApart is_peer before
    → AreApart is_peer after → ((stream : ℕ) → binds stream bs ≡ true → is_some (before.live stream) ≡ true)
    → any_left (is_said_secure after) bs ≡ any_leaves before.live after.live bs
any_is is_peer before after [] first second bound = refl
any_is is_peer before after (b ∷ bs) first second bound =
    let then_live = bound b.stream (or_left (b.stream == b.stream) (binds b.stream bs) (eq-eqb b.stream b.stream refl))
    in
    both_or _ _ _ _ (left_one (after.secure b.stream) (is_some (after.live b.stream)) (is_some (before.live b.stream))
    (second.secure b.stream (first.live b.stream then_live)) then_live)
    (any_is is_peer before after bs first second
    (λ s is. bound s (or_right (b.stream == s) (binds s bs) is)))

-- each that does not leave is Secure still
none_leaves : (before after : ℕ → Option ℕ) (bs : List Binding) → any_leaves before after bs ≡ false
    → ((stream : ℕ) → binds stream bs ≡ true → is_some (before stream) ≡ true)
    → (stream : ℕ) → binds stream bs ≡ true → is_some (after stream) ≡ true
none_leaves before after [] none bound stream is = absurd (true≢false (sym is))
none_leaves before after (b ∷ bs) none bound stream is =
    ⊎_elim
    (λ here.
    let same = eqb-true b.stream stream here in
    ap (λ s. is_some (after s)) (sym same)
    ∙ still (is_some (before b.stream)) (is_some (after b.stream))
    (bound b.stream (or_left (b.stream == b.stream) (binds b.stream bs) (eq-eqb b.stream b.stream refl)))
    (or_parts _ (any_leaves before after bs) none).0)
    (λ other.
    none_leaves before after bs
    (or_parts (is_some (before b.stream) && not (is_some (after b.stream))) (any_leaves before after bs) none).1
    (λ s at. bound s (or_right (b.stream == s) (binds s bs) at)) stream
    (sym (ap (λ c. c || binds stream bs) other) ∙ is))
    (cases_Bool (b.stream == stream))

-- ---- no lock

called_free : (a b : Bool) (plan : InterfacePlan) (registers : Registers) (bs : List Binding)
    → (if a then interface_after_call (interface_of_parts plan registers ConfigUnlocked bs) StreamLeft
    else interface_of_parts plan registers ConfigUnlocked bs)
    ≡ interface_if_called b StreamLeft (interface_of_parts plan registers ConfigUnlocked bs)
called_free true true plan registers bs = refl
called_free true false plan registers bs = refl
called_free false true plan registers bs = refl
called_free false false plan registers bs = refl

called_failed : (a b : Bool) (plan : InterfacePlan) (registers : Registers) (bs : List Binding)
    → (if a then interface_after_call (interface_of_parts plan registers Error bs) StreamLeft else interface_of_parts
    plan registers Error bs)
    ≡ interface_if_called b StreamLeft (interface_of_parts plan registers Error bs)
called_failed true true plan registers bs = refl
called_failed true false plan registers bs = refl
called_failed false true plan registers bs = refl
called_failed false false plan registers bs = refl

-- ---- a lock

called_by : (a b : Bool) (tdi : DeviceTdi) → a ≡ b
    → (if a then interface_after_call tdi StreamLeft else tdi) ≡ interface_if_called b StreamLeft tdi
called_by true true tdi is = refl
called_by false false tdi is = refl
called_by true false tdi is = absurd (true≢false is)
called_by false true tdi is = absurd (true≢false (sym is))

live_not : (is_peer : ℕ → Bool) (before after : DeviceSays) (s : ℕ) → AreApart is_peer before
    → AreApart is_peer after → before.secure s ≡ true → is_some (after.live s) ≡ false
live_not is_peer before after s first second secure =
    ⊎_elim (λ live. absurd (true≢false (sym secure ∙ first.secure s (second.live s live)))) (λ none. none)
    (cases_Bool (is_some (after.live s)))

own_is : (is_peer : ℕ → Bool) (before after : DeviceSays) (s t : ℕ) → s ≡ t → AreApart is_peer before
    → AreApart is_peer after → before.secure s ≡ true
    → not (is_said_secure after s) ≡ (before.secure t && not (after.secure t))
own_is is_peer before after s t same first second secure =
    left_own (before.secure s) (after.secure s) (is_some (after.live s)) secure
    (live_not is_peer before after s first second secure)
    ∙ ap (λ n. before.secure n && not (after.secure n)) same

settles : (is_peer : ℕ → Bool) (before after : DeviceSays) (x : InterfacePlan) (plan : InterfacePlan)
    (registers : Registers) (state : TdiState) (bs : List Binding) → AreApart is_peer before
    → AreApart is_peer after → Keeps before x (interface_of_parts plan registers state bs)
    → settled_interface (is_said_secure after) (interface_of_parts plan registers state bs)
    ≡ interface_if_called (leaves_stream before after x bs) StreamLeft (interface_of_parts plan registers state bs)
settles is_peer before after x plan registers ConfigUnlocked bs first second keeps = called_free _ _ plan registers bs
settles is_peer before after x plan registers Error bs first second keeps = called_failed _ _ plan registers bs
settles is_peer before after x plan registers (ConfigLocked lock nonce) bs first second keeps =
    called_by _ _ (interface_of_parts plan registers (ConfigLocked lock nonce) bs)
    (both_or _ _ _ _ (own_is is_peer before after lock.stream x.stream keeps.own first second keeps.secure)
    (any_is is_peer before after bs first second keeps.bound))
settles is_peer before after x plan registers (Run lock) bs first second keeps =
    called_by _ _ (interface_of_parts plan registers (Run lock) bs)
    (both_or _ _ _ _ (own_is is_peer before after lock.stream x.stream keeps.own first second keeps.secure)
    (any_is is_peer before after bs first second keeps.bound))

pub settled_is : (is_peer : ℕ → Bool) (before after : DeviceSays) (x : InterfacePlan) (tdi : DeviceTdi)
    → AreApart is_peer before → AreApart is_peer after → Keeps before x tdi
    → settled_interface (is_said_secure after) tdi ≡ interface_if_called (leaves_stream before after x tdi.bindings)
    StreamLeft tdi
settled_is is_peer before after x tdi first second keeps =
    settles is_peer before after x tdi.plan tdi.registers tdi.state tdi.bindings first second
    (record {
      layout = keeps.layout;
      own = keeps.own;
      secure = keeps.secure;
      bound = keeps.bound;
      held = keeps.held;
    })

-- ---- no stream is left

stays_false : (a b : Bool) → (a ≡ true → b ≡ true) → (a && not b) ≡ false
stays_false false b stays = refl
stays_false true true stays = refl
stays_false true false stays = absurd (true≢false (sym (stays refl)))

none_left : (before after : DeviceSays) (bs : List Binding) → AreSecureStill before after
    → any_leaves before.live after.live bs ≡ false
none_left before after [] stays = refl
none_left before after (b ∷ bs) stays =
    both_or _ false _ false
    (stays_false (is_some (before.live b.stream)) (is_some (after.live b.stream)) (stays.live b.stream))
    (none_left before after bs stays)

pub leaves_none : (before after : DeviceSays) (x : InterfacePlan) (bs : List Binding) → AreSecureStill before after
    → leaves_stream before after x bs ≡ false
leaves_none before after x bs stays =
    both_or _ false _ false
    (stays_false (before.secure x.stream) (after.secure x.stream) (stays.secure x.stream))
    (none_left before after bs stays)

pub stays_is : (before after : DeviceSays) (x : InterfacePlan) (tdi : DeviceTdi) → AreSecureStill before after
    → tdi ≡ interface_if_called (leaves_stream before after x tdi.bindings) StreamLeft tdi
stays_is before after x tdi stays =
    ap (λ b. interface_if_called b StreamLeft tdi) (sym (leaves_none before after x tdi.bindings stays))

-- ---- what stands after it

own_still : (before after : DeviceSays) (s t : ℕ) → s ≡ t → before.secure s ≡ true
    → (before.secure t && not (after.secure t)) ≡ false → after.secure s ≡ true
own_still before after s t same secure is = still (before.secure s) (after.secure s) secure
    (ap (λ n. before.secure n && not (after.secure n)) same ∙ is)

still_secure : (before after : DeviceSays) (x : InterfacePlan) (state : TdiState)
    → IfSome (bound_link_stream state) (λ s. s ≡ x.stream) → IfSome (bound_link_stream state)
    (λ s. before.secure s ≡ true)
    → (before.secure x.stream && not (after.secure x.stream)) ≡ false
    → IfSome (bound_link_stream state) (λ s. after.secure s ≡ true)
still_secure before after x ConfigUnlocked own secure is = tt
still_secure before after x Error own secure is = tt
still_secure before after x (ConfigLocked lock nonce) own secure is =
    own_still before after lock.stream x.stream own secure is
still_secure before after x (Run lock) own secure is = own_still before after lock.stream x.stream own secure is

-- nothing is bound
none_bound : (live : ℕ → Option ℕ) (bs : List Binding) → bs ≡ [] → (stream : ℕ) → binds stream bs ≡ true
    → is_some (live stream) ≡ true
none_bound live bs none stream is = absurd (true≢false (sym is ∙ ap (binds stream) none))

-- one that holds no lock
pub record IsFree (x : InterfacePlan) (tdi : DeviceTdi) : Type 0 where
  pub layout : tdi.plan ≡ x
  pub none : bound_link_stream tdi.state ≡ None
  pub bindings : tdi.bindings ≡ []

none_meets : (P : ℕ → Type 0) (o : Option ℕ) → o ≡ None → IfSome o P
none_meets P None is = tt
none_meets P (Some s) is = absurd cc

pub keeps_free : (d : DeviceSays) (x : InterfacePlan) (tdi : DeviceTdi) → IsFree x tdi → Keeps d x tdi
keeps_free d x tdi free = record {
  layout = free.layout;
  own = none_meets (λ s. s ≡ x.stream) (bound_link_stream tdi.state) free.none;
  secure = none_meets (λ s. d.secure s ≡ true) (bound_link_stream tdi.state) free.none;
  bound = none_bound d.live tdi.bindings free.bindings;
  held = record { locked = λ unlocked. free.bindings; few = omega (arith, ap length free.bindings) };
}

pub failed_free : (d : DeviceSays) (x : InterfacePlan) (plan : InterfacePlan) (registers : Registers)
    (state : TdiState) (bs : List Binding) → Keeps d x (interface_of_parts plan registers state bs)
    → IsFree x (interface_after_call (interface_of_parts plan registers state bs) StreamLeft)
failed_free d x plan registers ConfigUnlocked bs keeps =
    record { layout = keeps.layout; none = refl; bindings = keeps.held.locked refl }
failed_free d x plan registers Error bs keeps =
    record { layout = keeps.layout; none = refl; bindings = keeps.held.locked refl }
failed_free d x plan registers (ConfigLocked lock nonce) bs keeps =
    record { layout = keeps.layout; none = refl; bindings = refl }
failed_free d x plan registers (Run lock) bs keeps = record { layout = keeps.layout; none = refl; bindings = refl }

after_by : (b : Bool) (before after : DeviceSays) (x : InterfacePlan) (tdi : DeviceTdi)
    → leaves_stream before after x tdi.bindings ≡ b → Keeps before x tdi
    → Keeps after x (interface_if_called b StreamLeft tdi)
after_by true before after x tdi is keeps =
    keeps_free after x (interface_after_call tdi StreamLeft)
    (failed_free before x tdi.plan tdi.registers tdi.state tdi.bindings (record {
      layout = keeps.layout;
      own = keeps.own;
      secure = keeps.secure;
      bound = keeps.bound;
      held = keeps.held;
    }))
after_by false before after x tdi is keeps =
    let parts = or_parts (before.secure x.stream && not (after.secure x.stream))
    (any_leaves before.live after.live tdi.bindings) is in
    record {
      layout = keeps.layout;
      own = keeps.own;
      secure = still_secure before after x tdi.state keeps.own keeps.secure parts.0;
      bound = none_leaves before.live after.live tdi.bindings parts.1 keeps.bound;
      held = keeps.held;
    }

pub keeps_after : (before after : DeviceSays) (x : InterfacePlan) (tdi : DeviceTdi) → Keeps before x tdi
    → Keeps after x (interface_if_called (leaves_stream before after x tdi.bindings) StreamLeft tdi)
keeps_after before after x tdi keeps =
    after_by (leaves_stream before after x tdi.bindings) before after x tdi refl keeps
