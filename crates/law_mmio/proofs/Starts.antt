-- In RUN the floor is the greatest draw that was On at the device when the interface was started.
use Rattle.std.proofs.Common.{◌≡◌, ℕ, ◌==◌, ◌&&◌, ◌||◌, ◌∷◌, Bool, true, false, not, List, [], Some}
use Rattle.std.proofs.Common.{if◌then◌else◌, refl, sym, ap, ◌∙◌, inl, inr, arith}
use Rattle.std.specs.Prelude.{max, nat_le}
use Rattle.std.proofs.lemmas.Bool.{and_parts, cases_Bool, true≢false}
use Rattle.std.proofs.lemmas.Bool.Decides.{nat_tests}
use Rattle.ide_types.specs.declared.port.Side.TheVariants.{Device}
use Rattle.spec_keys.specs.Keys.{Keyed, Off, Loaded, On, Keys, key_in, on_in, is_on}
use Rattle.spec_keys.specs.History.{History, place_keys, keeps_live, has_key, has_all, failed_there}
use Rattle.spec_links.specs.Terms.{Plan, Event, Verdict}
use Rattle.spec_links.specs.Cause.{CauseLaw}
use Rattle.interface_state.specs.Machine.{BindStream, UnbindStream, DeviceTdi, Call, StartInterface, StopInterface}
use Rattle.interface_state.specs.Machine.{WriteRegister, LevelReset, FirmwareUpdate, StreamLeft, interface_after_call}
use Rattle.spec_interfaces.specs.Sites.{Site}
use Rattle.spec_interfaces.specs.Exchanges.{carries, changes_device}
use Rattle.spec_interfaces.specs.Views.{is_number, number_in}
unfoldable use Rattle.spec_interfaces.specs.Devices.{devices}
use Rattle.spec_interfaces.specs.Devices.{Around, around_at_site, interface_at, interface_if_called, next_interface}
use Rattle.spec_interfaces.specs.Devices.{is_stream_left, is_run, runs_at, has_secure_stream, lock_call, reset_call}
use Rattle.spec_interfaces.specs.Floors.{greatest_on, posted_receiver, draw_at_device, floor_after_event}
unfoldable use Rattle.spec_interfaces.specs.Floors.{device_floor}
use Rattle.interface_state.specs.declared.states.TdiState.{TdiState}
use Rattle.interface_state.specs.declared.states.TdiState.TheVariants as tdi
use Rattle.law_mmio.specs.Mmio.{IsStartedUnder, KeepsFloors}
use Rattle.law_mmio.proofs.SameWrites.{and_none}
use Rattle.law_mmio.proofs.Secure.{Held, secure_parts, locked_secure}
use Rattle.law_mmio.proofs.RunLocks.{runs_unlocked, same_locks}
use Rattle.event_verdicts.specs.declared.verdict.Verdict.TheVariants as v
use Rattle.script_events.specs.declared.event.Event.TheVariants as event
use Rattle.spec_interfaces.proofs.Rests.{is_start, after_rests, reset_starts_none}
use Rattle.script_events.specs.declared.event.InterfaceEvent.TheVariants as ie

-- ---- a draw is On

max_left : (i j : ℕ) → nat_le j i ≡ true → max i j ≡ i
max_left i j le = grind (arith, nat_tests, le)

max_right : (i j : ℕ) → nat_le j i ≡ false → max i j ≡ j
max_right i j more = grind (arith, nat_tests, more)

max_none : (i : ℕ) → max i 0 ≡ i
max_none i = grind (arith, nat_tests)

none_max : (j : ℕ) → max 0 j ≡ j
none_max j = grind (arith, nat_tests)

-- the set that has it, if one has any
record IsOnIn (ks : Keys) : Type 0 where
  set : Bool
  on : on_in (key_in ks set) ≡ Some (greatest_on ks)

greatest_is : (ks : Keys) → keeps_live ks ≡ true → IsOnIn ks
greatest_is ks live = by ks.first ks.second live
  where
    by : (a b : Keyed) → (is_on a || is_on b) ≡ true → IsOnIn (record { first = a; second = b })
    by (On i) (On j) live = elim (cases_Bool (nat_le j i)) [
      | inl le ↦ record { set = false; on = ap Some (sym (max_left i j le)) }
      | inr more ↦ record { set = true; on = ap Some (sym (max_right i j more)) }
    ]
    by (On i) Off live = record { set = false; on = ap Some (sym (max_none i)) }
    by (On i) (Loaded j) live = record { set = false; on = ap Some (sym (max_none i)) }
    by Off (On j) live = record { set = true; on = ap Some (sym (none_max j)) }
    by (Loaded i) (On j) live = record { set = true; on = ap Some (sym (none_max j)) }
    by Off Off live = absurd (true≢false (sym live))
    by Off (Loaded j) live = absurd (true≢false (sym live))
    by (Loaded i) Off live = absurd (true≢false (sym live))
    by (Loaded i) (Loaded j) live = absurd (true≢false (sym live))

-- Secure, a stream has one at the device's posted receiver
secure_on : (h : History) (x : Site) → has_secure_stream h x ≡ true → IsOnIn (place_keys h (posted_receiver x))
secure_on h x is =
    let parts = secure_parts (failed_there h Device x.link x.plan.stream)
    (has_key (place_keys h) Device x.link x.plan.stream) (has_all (place_keys h) Device x.link x.plan.stream) is in
    greatest_is (place_keys h (posted_receiver x))
    (and_parts (keeps_live (place_keys h (posted_receiver x))) _ parts.1).0

-- ---- only a start brings an interface into RUN

start_held : (t : DeviceTdi) (nonce : List ℕ) → is_run t.state ≡ false
    → is_run (interface_after_call t (StartInterface nonce)).state ≡ true → Held t.state
start_held t nonce rests runs = by t.state rests runs
  where
    by : (s : TdiState) → is_run s ≡ false → is_run
        (interface_after_call (record t { state = s }) (StartInterface nonce)).state
        ≡ true
        → Held s
    by tdi.ConfigUnlocked rests runs = absurd (true≢false (sym runs))
    by (tdi.ConfigLocked lock held) rests runs = inl refl
    by (tdi.Run lock) rests runs = inr refl
    by tdi.Error rests runs = absurd (true≢false (sym runs))

-- a call other than a start, if it comes, and if it is this interface's, leaves it out of RUN
left_at_rest : (n b : Bool) (c : Call) (t : DeviceTdi) → is_start c ≡ false → is_run t.state ≡ false
    → is_run (if n then interface_if_called b c t else t).state ≡ true → ⊥
left_at_rest true true c t other rests runs = true≢false (sym runs ∙ after_rests t c other rests)
left_at_rest true false c t other rests runs = true≢false (sym runs ∙ rests)
left_at_rest false b c t other rests runs = true≢false (sym runs ∙ rests)

same_at_rest : (n : Bool) (t : DeviceTdi) → is_run t.state ≡ false → is_run (if n then t else t).state ≡ true → ⊥
same_at_rest true t rests runs = true≢false (sym runs ∙ rests)
same_at_rest false t rests runs = true≢false (sym runs ∙ rests)

-- it is a start of this interface, from CONFIG_LOCKED: the floor is the draw
record StartsIt (e : Event) (x : Site) (t : DeviceTdi) (draw floor : ℕ) : Type 0 where
  floor_is : floor_after_event e x false true draw floor ≡ draw
  held : Held t.state

start_starts : (n b : Bool) (nonce : List ℕ) (t : DeviceTdi) (draw floor : ℕ) → is_run t.state ≡ false
    → is_run (if n then interface_if_called b (StartInterface nonce) t else t).state ≡ true
    → ((if n && (not false && true) then draw else floor) ≡ draw) × Held t.state
start_starts true true nonce t draw floor rests runs = (refl, start_held t nonce rests runs)
start_starts true false nonce t draw floor rests runs = absurd (true≢false (sym runs ∙ rests))
start_starts false b nonce t draw floor rests runs = absurd (true≢false (sym runs ∙ rests))

starts_it : (a : Around) (left : Bool) (e : Event) (w : Verdict) (x : Site) (t : DeviceTdi) (draw floor : ℕ)
    → is_run t.state ≡ false → is_run (next_interface a left x e w t).state ≡ true → StartsIt e x t draw floor
starts_it a left (event.Interface (ie.Start i loss)) w x t draw floor rests runs =
    let r = start_starts (i == x.number) (carries w 1) a.nonce t draw floor rests runs in
    record { floor_is = r.0; held = r.1 }
starts_it a left (event.Interface (ie.Lock i loss)) w x t draw floor rests runs = absurd
    (left_at_rest (i == x.number) (carries w 3) (lock_call a x) t refl rests runs)
starts_it a left (event.Interface (ie.Halt i loss)) w x t draw floor rests runs = absurd
    (left_at_rest (i == x.number) (carries w 1) StopInterface t refl rests runs)
starts_it a left (event.Interface (ie.Bind i line stream loss)) w x t draw floor rests runs = absurd
    (left_at_rest (i == x.number) (carries w 1) (BindStream stream (a.live stream)) t refl rests runs)
starts_it a left (event.Interface (ie.Unbind i line stream loss)) w x t draw floor rests runs = absurd
    (left_at_rest (i == x.number) (carries w 1) (UnbindStream stream) t refl rests runs)
starts_it a left (event.Interface (ie.Write i register value)) w x t draw floor rests runs = absurd
    (left_at_rest (i == x.number) (changes_device w) (WriteRegister register value) t refl rests runs)
starts_it a left (event.Interface (ie.Flr i)) w x t draw floor rests runs = absurd
    (left_at_rest (i == x.number) (changes_device w) LevelReset t refl rests runs)
starts_it a left (event.Interface (ie.Firmware i)) w x t draw floor rests runs = absurd
    (left_at_rest (i == x.number) (changes_device w) FirmwareUpdate t refl rests runs)
starts_it a left (event.Interface e) w x t draw floor rests runs = absurd
    (same_at_rest (is_number (number_in e) x.number) t rests runs)
starts_it a left (event.Reset l ends) (v.Reset k) x t draw floor rests runs = absurd
    (left_at_rest true ((l == x.link) || left) (reset_call (l == x.link)) t (reset_starts_none (l == x.link)) rests
    runs)
starts_it a left e w x t draw floor rests runs = absurd (left_at_rest true left StreamLeft t refl rests runs)

-- ---- all pairs

-- in RUN it stays
floor_stays : (e : Event) (x : Site) (draw floor : ℕ) → floor_after_event e x true true draw floor ≡ floor
floor_stays (event.Interface (ie.Start i loss)) x draw floor = rw (and_none (i == x.number)) refl
floor_stays e x draw floor = refl

floor_next : (plan : Plan) (h : History) (e : Event) (w : Verdict) (x : Site) (ran : Bool) → runs_at plan h x ≡ ran
    → runs_at plan ((e, w) ∷ h) x ≡ true
    → device_floor plan ((e, w) ∷ h) x ≡ floor_after_event e x ran true (draw_at_device h x) (device_floor plan h x)
unfolding device_floor
floor_next plan h e w x ran before now = rw (before, now) refl

kept_on : (plan : Plan) (h : History) (e : Event) (w : Verdict) (x : Site) (floor : ℕ) → device_floor plan h x ≡ floor
    → runs_at plan ((e, w) ∷ h) x ≡ true
    → IsStartedUnder plan h x (device_floor plan h x) → IsStartedUnder plan ((e, w) ∷ h) x floor
kept_on plan h e w x floor same now was = record {
  event = was.event;
  verdict = was.verdict;
  older = was.older;
  since = (e, w) ∷ was.since;
  came = ap (λ (g : History). (e, w) ∷ g) was.came;
  rested = was.rested;
  runs = was.runs;
  same_lock = was.same_lock ∙ sym (same_locks plan h e w x (runs_unlocked plan h e w x now));
  greatest = was.greatest ∙ same;
  set = was.set;
  on = was.on ∙ ap Some same;
}

just_started : (plan : Plan) (h : History) (e : Event) (w : Verdict) (x : Site) → CauseLaw plan h → runs_at plan h x
    ≡ false → runs_at plan ((e, w) ∷ h) x ≡ true → IsStartedUnder plan ((e, w) ∷ h) x (device_floor plan ((e, w) ∷ h) x)
unfolding devices
just_started plan h e w x cause rests runs =
    let it = starts_it (around_at_site plan h x) (is_stream_left plan h e w x (interface_at plan h x)) e w x
    (interface_at plan h x)
    (draw_at_device h x)
    (device_floor plan h x) rests runs in
    let floor : draw_at_device h x ≡ device_floor plan ((e, w) ∷ h) x =
    sym (floor_next plan h e w x false rests runs ∙ it.floor_is) in
    let on = secure_on h x (locked_secure plan h cause x it.held) in
    record {
      event = e;
      verdict = w;
      older = h;
      since = [];
      came = refl;
      rested = rests;
      runs = runs;
      same_lock = sym (same_locks plan h e w x (runs_unlocked plan h e w x runs));
      greatest = floor;
      set = on.set;
      on = on.on ∙ ap Some floor;
    }

pub keeps_floors : (plan : Plan) (h : History) → CauseLaw plan h → KeepsFloors plan h
unfolding devices
keeps_floors plan [] cause i x at runs = absurd (true≢false (sym runs))
keeps_floors plan ((e, w) ∷ h) cause i x at runs = elim (cases_Bool (runs_at plan h x)) [
  | inl ran ↦
      kept_on plan h e w x (device_floor plan ((e, w) ∷ h) x)
      (sym (floor_next plan h e w x true ran runs ∙ floor_stays e x (draw_at_device h x) (device_floor plan h x)))
      runs (keeps_floors plan h cause.1 i x at ran)
  | inr rests ↦ just_started plan h e w x cause.1 rests runs
]
