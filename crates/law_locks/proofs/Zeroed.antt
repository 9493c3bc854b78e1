-- Whatever takes an interface back to CONFIG_UNLOCKED sets its closed ranges to 0.
use Rattle.std.proofs.Common.{◌≡◌, ℕ, ◌==◌, ◌&&◌, ◌||◌, ◌∷◌, Bool, true, false, not, List, Result, Ok, Err}
use Rattle.std.proofs.Common.{if◌then◌else◌, refl, sym, ap, ◌∙◌, arith}
use Rattle.std.proofs.lemmas.Bool.{true≢false}
use Rattle.std.proofs.lemmas.Bool.Decides.{nat_tests}
use Rattle.spec_interfaces.specs.Terms.{Plan, Event, Verdict, History, Lock, DeviceTdi, lock_answer, Call}
use Rattle.spec_interfaces.specs.Terms.{LockInterface, StartInterface, StopInterface, WriteRegister, LevelReset}
use Rattle.spec_interfaces.specs.Terms.{FirmwareUpdate, StreamLeft, LinkReset, BindStream, UnbindStream}
use Rattle.spec_interfaces.specs.Terms.{interface_after_call, bind_answer, unbind_answer}
use Rattle.spec_interfaces.specs.Sites.{Site}
use Rattle.spec_interfaces.specs.Exchanges.{carries, changes_device}
use Rattle.spec_interfaces.specs.Views.{is_number, number_in}
use Rattle.spec_interfaces.specs.Devices.{Around, around_at_site, interface_if_called, lock_call, next_interface}
use Rattle.spec_interfaces.specs.Devices.{interface_at, is_stream_left, reset_call}
unfoldable use Rattle.spec_interfaces.specs.Devices.{devices}
use Rattle.interface_state.specs.Machine.{is_unlocked, new_lock, interface_after_lock}
use Rattle.interface_state.proofs.Bound.{bound_state, unbound_state}
use Rattle.guarded_memory.specs.Statuses.{has_open_range}
unfoldable use Rattle.law_mmio.specs.Stored.{writes_since_zero}
unfoldable use Rattle.trusted_memory.specs.Writes.{byte_last_written}
use Rattle.law_mmio.specs.Stored.{sets_to_zero, stored_byte}
use Rattle.law_locks.specs.Locks.{Scrubs}
use Rattle.script_events.specs.declared.event.Event.TheVariants as event
use Rattle.script_events.specs.declared.event.InterfaceEvent.TheVariants as ie
use Rattle.event_verdicts.specs.declared.verdict.Verdict.TheVariants as v

-- ---- which calls lead to CONFIG_UNLOCKED

abbrev frees : Call → Bool
frees StopInterface = true
frees LinkReset = true
frees _ = false

locked_stays : (t : DeviceTdi) (new : Lock) (answer : Result (List ℕ) ℕ) → is_unlocked t.state ≡ false
    → is_unlocked (interface_after_lock t new answer).state ≡ false
locked_stays t new (Ok nonce) held = refl
locked_stays t new (Err code) held = held

after_stays : (t : DeviceTdi) (c : Call) → frees c ≡ false → is_unlocked t.state ≡ false
    → is_unlocked (interface_after_call t c).state ≡ false
after_stays t (LockInterface flags stream offset secure drawn) other held =
    locked_stays t (new_lock t flags stream offset) (lock_answer t flags offset secure drawn) held
after_stays t (BindStream stream live) other held =
    ap is_unlocked (bound_state t stream (bind_answer t stream live)) ∙ held
after_stays t (UnbindStream stream) other held = ap is_unlocked (unbound_state t stream (unbind_answer t stream)) ∙ held
after_stays t c other held = grind (arith, nat_tests)

called_stays : (b : Bool) (c : Call) (t : DeviceTdi) → frees c ≡ false → is_unlocked t.state ≡ false
    → is_unlocked (interface_if_called b c t).state ≡ false
called_stays true c t other held = after_stays t c other held
called_stays false c t other held = held

-- what is left to show of a pair: it is not so, or the range is set to 0
stays_not : {A : Type 0} (b c : Bool) (call : Call) (t : DeviceTdi) → frees call ≡ false → is_unlocked t.state ≡ false
    → is_unlocked (if b then interface_if_called c call t else t).state ≡ true → A
stays_not true c call t other held is = absurd (true≢false (sym is ∙ called_stays c call t other held))
stays_not false c call t other held is = absurd (true≢false (sym is ∙ held))

halts : (b c d : Bool) (t : DeviceTdi) → is_unlocked t.state ≡ false → d ≡ false
    → is_unlocked (if b then interface_if_called c StopInterface t else t).state ≡ true → (b && (c && not d)) ≡ true
halts true true d t held closed is = rw closed refl
halts true false d t held closed is = absurd (true≢false (sym is ∙ held))
halts false c d t held closed is = absurd (true≢false (sym is ∙ held))

resets : (b left : Bool) (t : DeviceTdi) → is_unlocked t.state ≡ false
    → is_unlocked (interface_if_called (b || left) (reset_call b) t).state ≡ true → b ≡ true
resets true left t held is = refl
resets false left t held is = stays_not true left StreamLeft t refl held is

-- ---- the pair

zeroed : (a : Around) (left : Bool) (x : Site) (e : Event) (w : Verdict) (t : DeviceTdi) (bar : ℕ)
    → is_unlocked t.state ≡ false → has_open_range x.plan.bars bar ≡ false
    → is_unlocked (next_interface a left x e w t).state ≡ true → sets_to_zero e w x bar ≡ true
zeroed a left x (event.Interface (ie.Halt i loss)) w t bar held closed is =
    halts (i == x.number) (carries w 1) (has_open_range x.plan.bars bar) t held closed is
zeroed a left x (event.Interface (ie.Lock i loss)) w t bar held closed is =
    stays_not (i == x.number) (carries w 3) (lock_call a x) t refl held is
zeroed a left x (event.Interface (ie.Start i loss)) w t bar held closed is =
    stays_not (i == x.number) (carries w 1) (StartInterface a.nonce) t refl held is
zeroed a left x (event.Interface (ie.Bind i line stream loss)) w t bar held closed is =
    stays_not (i == x.number) (carries w 1) (BindStream stream (a.live stream)) t refl held is
zeroed a left x (event.Interface (ie.Unbind i line stream loss)) w t bar held closed is =
    stays_not (i == x.number) (carries w 1) (UnbindStream stream) t refl held is
zeroed a left x (event.Interface (ie.Write i register value)) w t bar held closed is =
    stays_not (i == x.number) (changes_device w) (WriteRegister register value) t refl held is
zeroed a left x (event.Interface (ie.Flr i)) w t bar held closed is =
    stays_not (i == x.number) (changes_device w) LevelReset t refl held is
zeroed a left x (event.Interface (ie.Firmware i)) w t bar held closed is =
    stays_not (i == x.number) (changes_device w) FirmwareUpdate t refl held is
zeroed a left x (event.Interface e) w t bar held closed is =
    stays_not (is_number (number_in e) x.number) false StreamLeft t refl held is
zeroed a left x (event.Reset l ends) (v.Reset k) t bar held closed is = resets (l == x.link) left t held is
zeroed a left x e w t bar held closed is = stays_not true left StreamLeft t refl held is

zero_then : (plan : Plan) (h : History) (e : Event) (w : Verdict) (x : Site) (bar offset : ℕ)
    → sets_to_zero e w x bar ≡ true → stored_byte plan ((e, w) ∷ h) x bar offset ≡ 0
unfolding writes_since_zero byte_last_written
zero_then plan h e w x bar offset is = rw is refl

pub scrubs : (plan : Plan) (h : History) (e : Event) (w : Verdict) → Scrubs plan h e w
unfolding devices
scrubs plan h e w i x bar offset at held freed closed =
    zero_then plan h e w x bar offset
    (zeroed (around_at_site plan h x) (is_stream_left plan h e w x (interface_at plan h x)) x e w
    (interface_at plan h x) bar
    held closed freed)
