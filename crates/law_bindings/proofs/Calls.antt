-- What the bindings of an interface come from, over one pair: they stood before it, and it unbinds none of them; or the
-- pair is a bind that the interface takes.
use Rattle.std.proofs.Common.{◌≡◌, ◌⊎◌, ⊎_elim, inl, inr, ℕ, ◌==◌, ◌&&◌, ◌||◌, Bool, true, false, List, [], ◌∷◌, ◌++◌}
use Rattle.std.proofs.Common.{refl, ap, sym, ◌∙◌, arith}
use Rattle.std.specs.Prelude.{not, if◌then◌else◌, find, Option, Some, None, Result, Ok, Err}
use Rattle.std.proofs.lemmas.Bool.{true≢false, eqb-true, cases_Bool}
use Rattle.std.proofs.lemmas.Bool.Decides.{nat_tests}
use Rattle.ide_types.specs.declared.binding.Binding.{Binding}
use Rattle.interface_state.specs.declared.states.TdiState.{TdiState}
use Rattle.interface_state.specs.declared.states.TdiState.TheVariants.{ConfigUnlocked, ConfigLocked}
use Rattle.interface_state.specs.declared.states.Lock.{Lock}
use Rattle.interface_state.specs.Held.{IsBound}
use Rattle.interface_state.specs.Bindings.{binds, without, is_binding_on, floor_on}
use Rattle.interface_state.specs.RegisterValues.{changes_listed, has_bit}
use Rattle.interface_state.specs.Machine.{DeviceTdi, Call, interface_after_call, is_locked, bindings_after}
use Rattle.interface_state.specs.Machine.{after_failure, after_start, after_change, firmware_updated, lock_flags}
use Rattle.interface_state.specs.Machine.{bind_answer, interface_after_bind, unbind_answer, unbound_with, lock_answer}
use Rattle.interface_state.specs.Machine.{interface_after_lock, new_lock}
use Rattle.interface_state.specs.Machine as call
use Rattle.law_memory.proofs.Floors.{floor_or, floor_some}
use Rattle.spec_interfaces.specs.Terms.{Event, InterfaceEvent, Verdict, Loss}
use Rattle.spec_interfaces.specs.Sites.{Site}
use Rattle.spec_interfaces.specs.Exchanges.{carries, changes_device}
use Rattle.spec_interfaces.specs.Views.{is_number, number_in}
use Rattle.spec_interfaces.specs.Devices.{Around, interface_if_called, interface_asked, lock_call, reset_call}
use Rattle.spec_interfaces.specs.Devices.{next_interface}
use Rattle.law_bindings.specs.Asked.{is_unbound_by}
use Rattle.script_events.specs.declared.event.Event.TheVariants as event
use Rattle.script_events.specs.declared.event.InterfaceEvent.TheVariants as ie
use Rattle.event_verdicts.specs.declared.verdict.Verdict.TheVariants as v

-- ---- floors of lists of bindings

abbrev pub HasFloor : ℕ → ℕ → List Binding → Type 0
HasFloor stream floor bs = floor_on stream bs ≡ Some floor

pub none_has : (stream floor : ℕ) (bs : List Binding) → bs ≡ [] → HasFloor stream floor bs → ⊥
none_has stream floor bs none has =
    absurd (let wrong = sym (ap (λ (cs : List Binding). floor_on stream cs) none) ∙ has in cc)

ended_has : (stream floor : ℕ) (b : Bool) (bs : List Binding) → HasFloor stream floor (if b then [] else bs)
    → HasFloor stream floor bs
ended_has stream floor true bs has = absurd (none_has stream floor [] refl has)
ended_has stream floor false bs has = has

left_has : (stream floor : ℕ) (t : DeviceTdi) (next : TdiState) → HasFloor stream floor (bindings_after t next)
    → HasFloor stream floor t.bindings
left_has stream floor t next has =
    ended_has stream floor (not (is_locked next) && is_locked t.state) t.bindings has

-- one that is added stands behind the others
added_has : (stream floor : ℕ) (bs : List Binding) (b : Binding) → HasFloor stream floor (bs ++ b ∷ [])
    → HasFloor stream floor bs ⊎ ((b.stream ≡ stream) × (b.floor ≡ floor))
added_has stream floor [] b has = by (b.stream == stream) refl has
  where
    by : (c : Bool) → (b.stream == stream) ≡ c → floor_or c b None ≡ Some floor
        → HasFloor stream floor [] ⊎ ((b.stream ≡ stream) × (b.floor ≡ floor))
    by true at has = inr (eqb-true b.stream stream at, cc (has))
    by false at has = absurd cc
added_has stream floor (c ∷ bs) b has =
    by (c.stream == stream) has (added_has stream floor bs b)
  where
    by : (d : Bool) → floor_or d c (find (is_binding_on stream) (bs ++ b ∷ [])) ≡ Some floor
        → (HasFloor stream floor (bs ++ b ∷ []) → HasFloor stream floor bs ⊎ ((b.stream ≡ stream) × (b.floor ≡ floor)))
        → (floor_or d c (find (is_binding_on stream) bs) ≡ Some floor) ⊎ ((b.stream ≡ stream) × (b.floor ≡ floor))
    by true has later = inl has
    by false has later = later has

-- one that is left is not to that stream, and stood before
without_has : (stream floor s : ℕ) (bs : List Binding) → HasFloor stream floor (without s bs)
    → HasFloor stream floor bs × ((s == stream) ≡ false)
without_has stream floor s [] has = absurd (none_has stream floor [] refl has)
without_has stream floor s (b ∷ bs) has =
    by (b.stream == s) refl (b.stream == stream) refl has (without_has stream floor s bs)
  where
    apart : (b.stream == s) ≡ false → (b.stream == stream) ≡ true → (s == stream) ≡ false
    apart one two = grind (arith, nat_tests, one, two)

    same : (b.stream == s) ≡ true → (s == stream) ≡ false → (b.stream == stream) ≡ true → ⊥
    same one two three = grind (arith, nat_tests, one, two, three)

    by : (c : Bool) → (b.stream == s) ≡ c → (d : Bool) → (b.stream == stream) ≡ d
        → HasFloor stream floor (if not c then b ∷ without s bs else without s bs)
        → (HasFloor stream floor (without s bs) → HasFloor stream floor bs × ((s == stream) ≡ false))
        → (floor_or d b (find (is_binding_on stream) bs) ≡ Some floor) × ((s == stream) ≡ false)
    by true at false off has later = later has
    by true at true on has later = let there = later has in absurd (same at there.1 on)
    by false at false off has later = later (rw off at has)
    by false at true on has later = (rw on at has, apart at on)

pub binds_has : (stream : ℕ) (bs : List Binding) → binds stream bs ≡ true
    → (floor : ℕ) × (floor_on stream bs ≡ Some floor)
binds_has stream [] is = absurd (true≢false (sym is))
binds_has stream (b ∷ bs) is = by (b.stream == stream) (binds_has stream bs) is
  where
    by : (c : Bool) → (binds stream bs ≡ true → (floor : ℕ) × (floor_on stream bs ≡ Some floor))
        → (c || binds stream bs) ≡ true → (floor : ℕ) × (floor_or c b (find (is_binding_on stream) bs) ≡ Some floor)
    by true later is = (b.floor, refl)
    by false later is = later is

-- ---- over a call

-- the call unbinds the stream
abbrev pub unbinds : Call → ℕ → Bool
unbinds (call.UnbindStream s) stream = s == stream
unbinds c stream = false

-- a bind of the stream is taken under this draw
record IsTaken (t : DeviceTdi) (c : Call) (stream floor : ℕ) : Type 0 where
  is : c ≡ call.BindStream stream (Some floor)
  flag : has_bit 3 (lock_flags t.state) ≡ true
  free : binds stream t.bindings ≡ false

abbrev CameOver : DeviceTdi → Call → ℕ → ℕ → Type 0
CameOver t c stream floor = (HasFloor stream floor t.bindings × (unbinds c stream ≡ false)) ⊎ IsTaken t c stream floor

lock_has : (stream floor : ℕ) (t : DeviceTdi) (lock : Lock) (answer : Result (List ℕ) ℕ)
    → HasFloor stream floor (interface_after_lock t lock answer).bindings → HasFloor stream floor t.bindings
lock_has stream floor t lock (Err code) has = has
lock_has stream floor t lock (Ok nonce) has = left_has stream floor t (ConfigLocked lock nonce) has

pub record IsAnswered (t : DeviceTdi) (stream draw : ℕ) (said : Option ℕ) : Type 0 where
  pub said_is : said ≡ Some draw
  pub flag : has_bit 3 (lock_flags t.state) ≡ true
  pub free : binds stream t.bindings ≡ false

pub answered : (t : DeviceTdi) (stream draw : ℕ) (said : Option ℕ) → bind_answer t stream said ≡ Ok draw
    → IsAnswered t stream draw said
answered t stream draw None is = absurd (let wrong : ⊥ = grind (arith, is) in wrong)
answered t stream draw (Some floor) is =
    record { said_is = grind (arith, is); flag = grind (arith, is); free = grind (arith, is) }

bind_has : (stream floor s : ℕ) (said : Option ℕ) (t : DeviceTdi) (answer : Result ℕ ℕ) → bind_answer t s said ≡ answer
    → HasFloor stream floor (interface_after_bind t s answer).bindings
    → CameOver t (call.BindStream s said) stream floor
bind_has stream floor s said t (Err code) is has = inl (has, refl)
bind_has stream floor s said t (Ok draw) is has =
    ⊎_elim (λ there. inl (there, refl)) (λ new.
    let given = answered t s draw said is in
    inr (record {
      is = (λ i. call.BindStream (new.0 i) said) ∙ ap (call.BindStream stream) (given.said_is ∙ ap (λ (n : ℕ). Some n)
          new.1);
      flag = given.flag;
      free = ap (λ (n : ℕ). binds n t.bindings) (sym new.0) ∙ given.free;
    }))
    (added_has stream floor t.bindings (record { stream = s; floor = draw }) has)

-- what is bound is unbound when it is asked
unbind_refused : (t : DeviceTdi) (s code : ℕ) → IsBound t.state t.bindings → binds s t.bindings ≡ true
    → unbind_answer t s ≡ Err code → ⊥
unbind_refused t s code held bound is = elim (cases_Bool (is_locked t.state)) [
  | inl locked ↦ absurd (let wrong = rw (locked, bound) at is in cc)
  | inr free ↦ true≢false (sym bound ∙ ap (λ (bs : List Binding). binds s bs) (held.locked free))
]

unbind_has : (stream floor s : ℕ) (t : DeviceTdi) (answer : Result (Unit {0}) ℕ) → unbind_answer t s ≡ answer
    → IsBound t.state t.bindings → HasFloor stream floor (unbound_with t s answer).bindings
    → HasFloor stream floor t.bindings × ((s == stream) ≡ false)
unbind_has stream floor s t (Ok done) is held has = without_has stream floor s t.bindings has
unbind_has stream floor s t (Err code) is held has = elim (cases_Bool (s == stream)) [
  | inl same ↦
      absurd (unbind_refused t s code held
      (ap (λ (n : ℕ). binds n t.bindings) (eqb-true s stream same) ∙ floor_some stream floor t.bindings has) is)
  | inr other ↦ (has, other)
]

call_has : (stream floor : ℕ) (t : DeviceTdi) (c : Call) → IsBound t.state t.bindings
    → HasFloor stream floor (interface_after_call t c).bindings → CameOver t c stream floor
call_has stream floor t (call.LockInterface flags s offset secure drawn) held has =
    inl (lock_has stream floor t (new_lock t flags s offset) (lock_answer t flags offset secure drawn) has, refl)
call_has stream floor t (call.StartInterface nonce) held has =
    inl (left_has stream floor t (after_start t.state nonce) has, refl)
call_has stream floor t call.StopInterface held has = inl (left_has stream floor t ConfigUnlocked has, refl)
call_has stream floor t (call.BindStream s said) held has =
    bind_has stream floor s said t (bind_answer t s said) refl has
call_has stream floor t (call.UnbindStream s) held has = inl
    (unbind_has stream floor s t (unbind_answer t s) refl held has)
call_has stream floor t (call.WriteRegister register value) held has = inl (
  left_has stream floor t (after_change (changes_listed (lock_flags t.state) t.registers register value) t.state) has,
  refl,
)
call_has stream floor t call.LevelReset held has = inl (left_has stream floor t (after_failure t.state) has, refl)
call_has stream floor t call.FirmwareUpdate held has =
    inl (left_has stream floor t (firmware_updated t.state) has, refl)
call_has stream floor t call.StreamLeft held has = inl (left_has stream floor t (after_failure t.state) has, refl)
call_has stream floor t call.LinkReset held has = absurd (none_has stream floor [] refl has)

-- ---- over a pair

-- the pair is a bind of the stream that comes to the interface, and is taken under this draw
pub record IsNew (a : Around) (x : Site) (e : Event) (w : Verdict) (t : DeviceTdi) (stream floor : ℕ) : Type 0 where
  pub line : ℕ
  pub loss : Option Loss
  pub event : e ≡ event.Interface (ie.Bind x.number line stream loss)
  pub reached : carries w 1 ≡ true
  pub live : a.live stream ≡ Some floor
  pub flag : has_bit 3 (lock_flags t.state) ≡ true
  pub free : binds stream t.bindings ≡ false

-- it was bound to the stream with this floor before, and is not unbound
pub record IsOld (x : Site) (e : Event) (w : Verdict) (t : DeviceTdi) (stream floor : ℕ) : Type 0 where
  pub was : floor_on stream t.bindings ≡ Some floor
  pub stays : is_unbound_by x stream e w ≡ false

abbrev pub CameOf : Around → Site → Event → Verdict → DeviceTdi → ℕ → ℕ → Type 0
CameOf a x e w t stream floor = IsOld x e w t stream floor ⊎ IsNew a x e w t stream floor

-- a call that binds and unbinds nothing
abbrev is_plain : Call → Bool
is_plain (call.BindStream s said) = false
is_plain (call.UnbindStream s) = false
is_plain c = true

plain_has : (b : Bool) (c : Call) (t : DeviceTdi) (stream floor : ℕ) → is_plain c ≡ true → IsBound t.state t.bindings
    → HasFloor stream floor (interface_if_called b c t).bindings → HasFloor stream floor t.bindings
plain_has false c t stream floor plain held has = has
plain_has true c t stream floor plain held has =
    ⊎_elim (λ old. old.0)
    (λ new. absurd (true≢false (sym plain ∙ ap is_plain new.is)))
    (call_has stream floor t c held has)

plain_old : (a : Around) (x : Site) (e : Event) (w : Verdict) (b : Bool) (c : Call) (t : DeviceTdi) (stream floor : ℕ)
    → is_plain c ≡ true → is_unbound_by x stream e w ≡ false → IsBound t.state t.bindings
    → HasFloor stream floor (interface_if_called b c t).bindings → CameOf a x e w t stream floor
plain_old a x e w b c t stream floor plain stays held has =
    inl (record { was = plain_has b c t stream floor plain held has; stays = stays })

abbrev stream_in : Call → ℕ
stream_in (call.BindStream s said) = s
stream_in c = 0

abbrev said_in : Call → Option ℕ
said_in (call.BindStream s said) = said
said_in c = None

bind_came : (a : Around) (x : Site) (i line s : ℕ) (loss : Option Loss) (w : Verdict) (t : DeviceTdi)
    (stream floor : ℕ) → (i == x.number) ≡ true → IsBound t.state t.bindings
    → (b : Bool) → carries w 1 ≡ b
    → HasFloor stream floor (interface_if_called b (call.BindStream s (a.live s)) t).bindings
    → CameOf a x (event.Interface (ie.Bind i line s loss)) w t stream floor
bind_came a x i line s loss w t stream floor own held false reached has = inl (record { was = has; stays = refl })
bind_came a x i line s loss w t stream floor own held true reached has =
    ⊎_elim (λ old. inl (record { was = old.0; stays = refl })) (λ new.
    let same : s ≡ stream = ap stream_in new.is in
    inr (record {
      line = line;
      loss = loss;
      event = λ k. event.Interface (ie.Bind (eqb-true i x.number own k) line (same k) loss);
      reached = reached;
      live = ap a.live (sym same) ∙ ap said_in new.is;
      flag = new.flag;
      free = new.free;
    }))
    (call_has stream floor t (call.BindStream s (a.live s)) held has)

pub no_third : (a b c : Bool) → c ≡ false → (a && b && c) ≡ false
no_third a b c none = grind arith

no_second : (a b c : Bool) → b ≡ false → (a && b && c) ≡ false
no_second a b c none = grind arith

unbind_came : (a : Around) (x : Site) (i line s : ℕ) (loss : Option Loss) (w : Verdict) (t : DeviceTdi)
    (stream floor : ℕ) → IsBound t.state t.bindings → (b : Bool) → carries w 1 ≡ b
    → HasFloor stream floor (interface_if_called b (call.UnbindStream s) t).bindings
    → CameOf a x (event.Interface (ie.Unbind i line s loss)) w t stream floor
unbind_came a x i line s loss w t stream floor held false reached has =
    inl (record { was = has; stays = no_third (i == x.number) (s == stream) (carries w 1) reached })
unbind_came a x i line s loss w t stream floor held true reached has =
    ⊎_elim
    (λ old. inl (record { was = old.0; stays = no_second (i == x.number) (s == stream) (carries w 1) old.1 }))
    (λ new. absurd (let wrong : true ≡ false = ap is_unbind new.is in true≢false wrong))
    (call_has stream floor t (call.UnbindStream s) held has)
  where
    is_unbind : Call → Bool
    is_unbind (call.UnbindStream s) = true
    is_unbind c = false

asked_came : (a : Around) (x : Site) (e : InterfaceEvent) (w : Verdict) (t : DeviceTdi) (stream floor : ℕ)
    → is_number (number_in e) x.number ≡ true → IsBound t.state t.bindings
    → HasFloor stream floor (interface_asked a x e w t).bindings → CameOf a x (event.Interface e) w t stream floor
asked_came a x (ie.Lock i loss) w t stream floor own held has = plain_old a x (event.Interface (ie.Lock i loss)) w
    (carries w 3) (lock_call a x) t stream floor refl refl held has
asked_came a x (ie.Start i loss) w t stream floor own held has = plain_old a x (event.Interface (ie.Start i loss)) w
    (carries w 1) (call.StartInterface a.nonce) t stream floor refl refl held has
asked_came a x (ie.Halt i loss) w t stream floor own held has = plain_old a x (event.Interface (ie.Halt i loss)) w
    (carries w 1) call.StopInterface t stream floor refl refl held has
asked_came a x (ie.Bind i line s loss) w t stream floor own held has =
    bind_came a x i line s loss w t stream floor own held (carries w 1) refl has
asked_came a x (ie.Unbind i line s loss) w t stream floor own held has =
    unbind_came a x i line s loss w t stream floor held (carries w 1) refl has
asked_came a x (ie.Write i register value) w t stream floor own held has = plain_old a x
    (event.Interface (ie.Write i register value)) w (changes_device w) (call.WriteRegister register value) t stream
    floor refl refl held has
asked_came a x (ie.Flr i) w t stream floor own held has = plain_old a x (event.Interface (ie.Flr i)) w
    (changes_device w) call.LevelReset t stream floor refl refl held has
asked_came a x (ie.Firmware i) w t stream floor own held has = plain_old a x (event.Interface (ie.Firmware i)) w
    (changes_device w) call.FirmwareUpdate t stream floor refl refl held has
asked_came a x (ie.Report i loss) w t stream floor own held has = inl (record { was = has; stays = refl })
asked_came a x (ie.State i loss) w t stream floor own held has = inl (record { was = has; stays = refl })
asked_came a x (ie.View i) w t stream floor own held has = inl (record { was = has; stays = refl })
asked_came a x (ie.Memory at len) w t stream floor own held has = absurd (true≢false (sym own))

not_unbound : (x : Site) (e : InterfaceEvent) (w : Verdict) (stream : ℕ) → is_number (number_in e) x.number ≡ false
    → is_unbound_by x stream (event.Interface e) w ≡ false
not_unbound x (ie.Unbind i line s loss) w stream other = rw other refl
not_unbound x e w stream other = refl

reset_plain : (own : Bool) → is_plain (reset_call own) ≡ true
reset_plain true = refl
reset_plain false = refl

pub next_came : (a : Around) (left : Bool) (x : Site) (e : Event) (w : Verdict) (t : DeviceTdi) (stream floor : ℕ)
    → IsBound t.state t.bindings → floor_on stream (next_interface a left x e w t).bindings ≡ Some floor
    → CameOf a x e w t stream floor
next_came a left x (event.Interface e) w t stream floor held has =
    by (is_number (number_in e) x.number) refl has
  where
    by : (b : Bool) → is_number (number_in e) x.number ≡ b
        → HasFloor stream floor (if b then interface_asked a x e w t else t).bindings
        → CameOf a x (event.Interface e) w t stream floor
    by true own has = asked_came a x e w t stream floor own held has
    by false other has = inl (record { was = has; stays = not_unbound x e w stream other })
next_came a left x (event.Reset l ends) (v.Reset k) t stream floor held has =
    plain_old a x (event.Reset l ends) (v.Reset k) ((l == x.link) || left) (reset_call (l == x.link)) t stream floor
    (reset_plain (l == x.link)) refl held has
next_came a left x e w t stream floor held has = plain_old a x e w left call.StreamLeft t stream floor refl refl held
    has
