-- While a lock stands, its stream is Secure at the device's port.
use Rattle.ide_types.specs.declared.port.Side.{Side}
use Rattle.ide_types.specs.declared.port.Side.TheVariants.{Device}
use Rattle.std.specs.Prelude.{◌||◌, ◌&&◌}
use Rattle.std.proofs.Common.{◌≡◌, ℕ, ◌==◌, ◌&&◌, ◌∷◌, ◌⊎◌, Bool, true, false, not, [], Some}
use Rattle.std.proofs.Common.{refl, sym, ap, ◌∙◌, inl, inr, arith}
use Rattle.std.proofs.lemmas.Bool.{true≢false}
use Rattle.ide_types.specs.declared.sub.SubKind.TheVariants.{Pr, Npr, Cpl}
use Rattle.spec_keys.specs.Keys.{Keys}
use Rattle.spec_keys.specs.Places.{KeyPlace, key_place_at}
use Rattle.spec_keys.specs.History.{History, touches, place_keys, has_key, has_all, history_status}
use Rattle.spec_keys.specs.History.{fails_there, draws, came}
use Rattle.ide_types.specs.Ports.{keyed_status}
unfoldable use Rattle.spec_keys.specs.History.{moments, failed_there, manager}
use Rattle.spec_links.specs.Terms.{Plan, Event, InterfaceEvent, Verdict}
use Rattle.spec_links.specs.Cause.{CauseLaw}
use Rattle.spec_links.specs.KeyFacts.{is_quiet}
unfoldable use Rattle.spec_links.specs.Due.{due}
use Rattle.spec_links.proofs.KeyVerdicts.{interface_due_quiet}
use Rattle.spec_interfaces.specs.Sites.{Site}
unfoldable use Rattle.spec_interfaces.specs.Devices.{devices}
use Rattle.spec_interfaces.specs.Devices.{around_at_site, interface_at, interface_if_called, next_interface}
use Rattle.spec_interfaces.specs.Devices.{is_stream_left, is_secure, has_secure_stream, reset_call}
use Rattle.spec_interfaces.specs.Laws.{IsLocked}
use Rattle.spec_interfaces.proofs.Binds.{accepts_secure}
use Rattle.spec_interfaces.proofs.Locks.{Made, next_made}
use Rattle.interface_state.specs.declared.states.Lock.{Lock}
use Rattle.interface_state.specs.declared.states.TdiState.{TdiState}
use Rattle.interface_state.specs.declared.states.TdiState.TheVariants as tdi
use Rattle.interface_state.specs.Machine.{DeviceTdi, state_code, lock_of, after_failure, StreamLeft}
use Rattle.event_verdicts.specs.declared.verdict.Verdict.TheVariants as v
use Rattle.script_events.specs.declared.event.Event.TheVariants as event

-- ---- locked, and a lock that stands

abbrev pub Held : TdiState → Type 0
Held s = (state_code s ≡ 1) ⊎ (state_code s ≡ 2)

record HasLock (s : TdiState) : Type 0 where
  lock : Lock
  stands : lock_of s ≡ Some lock

has_lock : (s : TdiState) → Held s → HasLock s
has_lock tdi.ConfigUnlocked (inl e) = absurd cc
has_lock tdi.ConfigUnlocked (inr e) = absurd cc
has_lock (tdi.ConfigLocked lock nonce) h = record { lock = lock; stands = refl }
has_lock (tdi.Run lock) h = record { lock = lock; stands = refl }
has_lock tdi.Error (inl e) = absurd cc
has_lock tdi.Error (inr e) = absurd cc

lock_held : (s : TdiState) (l : Lock) → lock_of s ≡ Some l → Held s
lock_held tdi.ConfigUnlocked l is = absurd cc
lock_held (tdi.ConfigLocked lock nonce) l is = inl refl
lock_held (tdi.Run lock) l is = inr refl
lock_held tdi.Error l is = absurd cc

pub not_failed : (s : TdiState) → Held (after_failure s) → ⊥
not_failed tdi.ConfigUnlocked (inl e) = absurd cc
not_failed tdi.ConfigUnlocked (inr e) = absurd cc
not_failed (tdi.ConfigLocked lock nonce) (inl e) = absurd cc
not_failed (tdi.ConfigLocked lock nonce) (inr e) = absurd cc
not_failed (tdi.Run lock) (inl e) = absurd cc
not_failed (tdi.Run lock) (inr e) = absurd cc
not_failed tdi.Error (inl e) = absurd cc
not_failed tdi.Error (inr e) = absurd cc

-- ---- Secure by keys

pub secure_parts : (f some all : Bool) → is_secure (keyed_status f some all) ≡ true → (f ≡ false) × (all ≡ true)
secure_parts f some all is = grind (arith, is)

secure_by : (f some all : Bool) → f ≡ false → all ≡ true → is_secure (keyed_status f some all) ≡ true
secure_by f some all none full = rw (none, full) refl

all_same : (ks ls : KeyPlace → Keys) (side : Side) (line stream : ℕ)
    → ((p : KeyPlace) → p.line ≡ line → ks p ≡ ls p) → has_all ks side line stream ≡ has_all ls side line stream
all_same ks ls side line stream same =
    rw (
      same (key_place_at side line stream false Pr) refl,
      same (key_place_at side line stream false Npr) refl,
      same (key_place_at side line stream false Cpl) refl,
      same (key_place_at side line stream true Pr) refl,
      same (key_place_at side line stream true Npr) refl,
      same (key_place_at side line stream true Cpl) refl,
    ) refl

-- the pair touches no place of the link
abbrev TouchesNone : History → Event → Verdict → ℕ → Type 0
TouchesNone h e w line = (p : KeyPlace) → p.line ≡ line → touches (manager h).ops (draws h) e w p ≡ []

keys_same : (h : History) (e : Event) (w : Verdict) (p : KeyPlace) → touches (manager h).ops (draws h) e w p ≡ []
    → place_keys ((e, w) ∷ h) p ≡ place_keys h p
unfolding moments
keys_same h e w p none = rw none refl

stays_whole : (h : History) (e : Event) (w : Verdict) (side : Side) (line stream : ℕ) → fails_there side line stream w
    ≡ false → failed_there h side line stream ≡ false → failed_there ((e, w) ∷ h) side line stream ≡ false
unfolding failed_there
stays_whole h e w side line stream none whole = rw (none, whole) refl

stays_secure : (h : History) (e : Event) (w : Verdict) (side : Side) (line stream : ℕ) → TouchesNone h e w line
    → fails_there side line stream w ≡ false → is_secure (history_status h side line stream) ≡ true
    → is_secure (history_status ((e, w) ∷ h) side line stream) ≡ true
stays_secure h e w side line stream none fails is =
    let parts = secure_parts (failed_there h side line stream) (has_key (place_keys h) side line stream)
    (has_all (place_keys h) side line stream) is in
    secure_by (failed_there ((e, w) ∷ h) side line stream) (has_key (place_keys ((e, w) ∷ h)) side line stream)
    (has_all (place_keys ((e, w) ∷ h)) side line stream) (stays_whole h e w side line stream fails parts.0)
    (all_same (place_keys ((e, w) ∷ h)) (place_keys h) side line stream (λ p at. keys_same h e w p (none p at))
    ∙ parts.1)

-- ---- pairs that touch nothing

quiet_came : (p : KeyPlace) (w : Verdict) → is_quiet w ≡ true → came p w ≡ []
quiet_came p w quiet = grind (arith, quiet)

quiet_fails : (side : Side) (line stream : ℕ) (w : Verdict) → is_quiet w ≡ true → fails_there side line stream w ≡ false
quiet_fails side line stream w quiet = grind (arith, quiet)

-- at an event on an interface a stream that is Secure at an end stays so
pub interface_leaves_secure : (plan : Plan) (h : History) (e : InterfaceEvent) (w : Verdict) (side : Side)
    (line stream : ℕ) → w ≡ due plan h (event.Interface e) → is_secure (history_status h side line stream) ≡ true
    → is_secure (history_status ((event.Interface e, w) ∷ h) side line stream) ≡ true
interface_leaves_secure plan h e w side line stream is secure =
    let quiet : is_quiet w ≡ true = ap (λ (u : Verdict). is_quiet u) is ∙ interface_due_quiet plan h e in
    stays_secure h (event.Interface e) w side line stream (λ p at. quiet_came p w quiet)
    (quiet_fails side line stream w quiet) secure

-- ---- the pair

-- before it
before : (plan : Plan) (h : History) (e : Event) (w : Verdict) (x : Site)
    → (Held (interface_at plan h x).state → has_secure_stream h x ≡ true)
    → Held (next_interface (around_at_site plan h x) (is_stream_left plan h e w x (interface_at plan h x)) x e w
    (interface_at plan h x)).state → has_secure_stream h x ≡ true
before plan h e w x earlier held =
    let a = around_at_site plan h x in
    let t = interface_at plan h x in
    let has = has_lock (next_interface a (is_stream_left plan h e w x t) x e w t).state held in
    by has.lock (next_made a (is_stream_left plan h e w x t) x e w t has.lock has.stands)
  where
    by : (l : Lock) → Made (around_at_site plan h x) x e w (interface_at plan h x) l → has_secure_stream h x ≡ true
    by l (inl stood) = earlier (lock_held (interface_at plan h x).state l stood.0)
    by l (inr made) = accepts_secure (around_at_site plan h x) x e w (interface_at plan h x) made.0

not_left_by : (b c a : Bool) (t : DeviceTdi) → Held (interface_if_called ((b && not c) || a) StreamLeft t).state → b
    ≡ true → c ≡ true
not_left_by true true a t held is = refl
not_left_by true false a t held is = absurd (not_failed t.state held)
not_left_by false c a t held is = absurd (true≢false (sym is))

-- a reset that leaves it locked is of another link, and leaves no stream that it is bound to
other_link : (own b c a : Bool) (t : DeviceTdi)
    → Held (interface_if_called (own || ((b && not c) || a)) (reset_call own) t).state → b ≡ true → c ≡ true
other_link true b c a t (inl e) is = absurd cc
other_link true b c a t (inr e) is = absurd cc
other_link false b c a t held is = not_left_by b c a t held is

-- and after it
after : (plan : Plan) (h : History) (e : Event) (w : Verdict) (x : Site) → w ≡ due plan h e
    → Held (next_interface (around_at_site plan h x) (is_stream_left plan h e w x (interface_at plan h x)) x e w
    (interface_at plan h x)).state → has_secure_stream h x ≡ true → has_secure_stream ((e, w) ∷ h) x ≡ true
after plan h (event.Interface e) w x is held secure =
    interface_leaves_secure plan h e w Device x.link x.plan.stream is secure
after plan h (event.Reset l ends) (v.Reset k) x is held secure = other_link (l == x.link) (has_secure_stream h x)
    (has_secure_stream ((event.Reset l ends, v.Reset k) ∷ h) x) _ (interface_at plan h x) held secure
after plan h e w x is held secure =
    not_left_by (has_secure_stream h x) (has_secure_stream ((e, w) ∷ h) x) _ (interface_at plan h x) held secure

pub locked_secure : (plan : Plan) (h : History) → CauseLaw plan h → (x : Site) → IsLocked plan h x
    → has_secure_stream h x ≡ true
unfolding devices
locked_secure plan [] cause x (inl e) = absurd cc
locked_secure plan [] cause x (inr e) = absurd cc
locked_secure plan ((e, w) ∷ h) cause x held =
    after plan h e w x cause.0 held (before plan h e w x (λ earlier. locked_secure plan h cause.1 x earlier) held)
