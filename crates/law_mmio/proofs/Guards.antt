-- While a lock stands, a byte of a range that is not open changes only by a write that is stored in RUN.
use Rattle.std.proofs.Common.{subst, ◌≡◌, ◌≢◌, ℕ, ◌+◌, ◌≤◌, ◌==◌, ◌&&◌, ◌||◌, ◌∷◌, zero, suc, Bool, true, false, not}
use Rattle.std.proofs.Common.{List, [], Option, Some, None, Result, Ok, length, if◌then◌else◌, refl, sym, ap, ◌∙◌}
use Rattle.std.proofs.Common.{inl, inr, arith}
use Rattle.law_mmio.proofs.OnLinks.{no_switch}
use Rattle.spec_links.specs.Ports.{port_of}
use Rattle.std.specs.Prelude.{slice_get, slice_index, take, drop}
use Rattle.std.specs.Option.{option_map, option_map_or}
use Rattle.std.proofs.lemmas.Bool.{and_parts, cases_Bool, true≢false, eqb-true, leb-true}
use Rattle.spec_links.specs.Terms.{PortName, Plan, Event, Effect, UnitName, Verdict, Accepted, Packet, History}
use Rattle.spec_links.specs.Terms.{read_head_of, TlpFault, Write, newest_first, memory_write, write_span}
use Rattle.spec_links.specs.Terms.{byte_last_written}
use Rattle.tlp_layout.specs.declared.head.HeadView.{HeadView}
use Rattle.spec_links.specs.Plan.{is_same_port}
unfoldable use Rattle.spec_links.specs.Due.{due}
use Rattle.spec_links.specs.Memory.{unit_ended, plain_of, policy_at, effect_by}
use Rattle.spec_links.proofs.Tests.{same_port, eqb-refl}
use Rattle.interface_state.specs.Machine.{all_bindings, DeviceTdi, Call, StopInterface, LevelReset}
use Rattle.interface_state.specs.Machine.{interface_after_call}
use Rattle.interface_state.specs.Bindings.{floor_on}
use Rattle.guarded_memory.specs.Laws.{is_from_floor, is_guarded, is_admitted}
use Rattle.spec_interfaces.specs.Sites.{Site, site_at}
use Rattle.spec_interfaces.specs.Exchanges.{carries, changes_device}
unfoldable use Rattle.spec_interfaces.specs.Devices.{devices}
use Rattle.spec_interfaces.specs.Devices.{Around, around_at_site, interface_at, interface_if_called, next_interface}
use Rattle.spec_interfaces.specs.Devices.{is_stream_left, is_run, runs_at, reset_call}
use Rattle.spec_interfaces.specs.Floors.{place_of, history_statuses, device_status, device_floor}
use Rattle.spec_interfaces.specs.Laws.{IsLocked}
use Rattle.spec_interfaces.proofs.Floors.{number_at, standing_placed}
use Rattle.spec_interfaces.proofs.Locks.{layout_at}
use Rattle.interface_state.specs.declared.register_set.Registers.{Registers}
use Rattle.interface_state.specs.declared.states.TdiState.{TdiState}
use Rattle.interface_state.specs.declared.states.TdiState.TheVariants as tdi
use Rattle.interface_state.specs.Bars.{bars_of, bar_moved}
use Rattle.ide_types.specs.declared.interface.BarPlan.{BarPlan}
use Rattle.ide_types.specs.declared.interface.InterfacePlan.{InterfacePlan}
use Rattle.trusted_memory.specs.declared.span.Span.{Span}
use Rattle.trusted_memory.specs.Spans.{enables}
use Rattle.trusted_memory.specs.Writes.{payload_byte}
use Rattle.trusted_memory.proofs.Turns.{byte_last_written-next}
use Rattle.guarded_memory.specs.declared.status.InterfaceStatus.{InterfaceStatus}
use Rattle.guarded_memory.specs.declared.claims.Claim.{Claim}
use Rattle.guarded_memory.specs.Statuses.{is_open_range, has_open_range, is_in_run, is_locked_or_run}
use Rattle.guarded_memory.specs.Statuses.{state_of_interface}
use Rattle.guarded_memory.specs.Claims.{claim_of}
use Rattle.guarded_memory.specs.Causes.{mmio_cause, cause_effect, claim_effect, mmio_effect}
use Rattle.guarded_memory.specs.Happenings.{WriteStored, contents_if_happened}
use Rattle.guarded_memory.specs.Stored.{write_happened, stored_by_claim, stored_unless, write_from_base}
use Rattle.guarded_memory.proofs.Guarding.{stays}
use Rattle.law_mmio.specs.Stored.{write_read, if_claims, claimed_write, if_stored, unit_stored_writes, stores}
use Rattle.ide_types.specs.Ports.{device_port}
use Rattle.law_mmio.specs.Stored.{asked_zero, sets_to_zero}
unfoldable use Rattle.law_mmio.specs.Stored.{writes_since_zero}
use Rattle.law_mmio.specs.Mmio.{IsStoredInRun, GuardsBytes}
use Rattle.law_mmio.proofs.SameWrites.{some_is, effect_there}
use Rattle.law_mmio.proofs.Units.{is_written}
use Rattle.law_mmio.proofs.Secure.{Held, not_failed}
use Rattle.event_verdicts.specs.declared.verdict.BlockCause.{BlockCause}
use Rattle.event_verdicts.specs.declared.verdict.Effect.TheVariants as effect
use Rattle.event_verdicts.specs.declared.verdict.Verdict.TheVariants as v
use Rattle.script_events.specs.declared.event.Event.TheVariants as event
use Rattle.script_events.specs.declared.event.InterfaceEvent.TheVariants as ie

-- ---- nothing sets it to 0

unlocked : Held tdi.ConfigUnlocked → ⊥
unlocked (inl e) = absurd cc
unlocked (inr e) = absurd cc

-- a call that ends a lock did not come
not_called : (b c d : Bool) (call : Call) (t : DeviceTdi) → (Held (interface_after_call t call).state → ⊥)
    → Held (if b then interface_if_called c call t else t).state → (b && (c && d)) ≡ false
not_called true true d call t ends held = absurd (ends held)
not_called true false d call t ends held = refl
not_called false c d call t ends held = refl

and_true : (b : Bool) → (b && true) ≡ b
and_true true = refl
and_true false = refl

asked_not : (a : Around) (left : Bool) (e : Event) (w : Verdict) (x : Site) (bar : ℕ) (t : DeviceTdi)
    → Held (next_interface a left x e w t).state → asked_zero e w x bar ≡ false
asked_not a left (event.Interface (ie.Halt i loss)) w x bar t held =
    not_called (i == x.number) (carries w 1) (not (has_open_range x.plan.bars bar)) StopInterface t unlocked held
asked_not a left (event.Interface (ie.Flr i)) w x bar t held =
    ap (λ (b : Bool). (i == x.number) && b) (sym (and_true (changes_device w)))
    ∙ not_called (i == x.number) (changes_device w) true LevelReset t (not_failed t.state) held
asked_not a left e w x bar t held = refl

not_reset : (own left : Bool) (t : DeviceTdi) → Held (interface_if_called (own || left) (reset_call own) t).state → own
    ≡ false
not_reset true left t held = absurd (unlocked held)
not_reset false left t held = refl

next_not : (a : Around) (left : Bool) (e : Event) (w : Verdict) (x : Site) (bar : ℕ) (t : DeviceTdi)
    → Held (next_interface a left x e w t).state → sets_to_zero e w x bar ≡ false
next_not a left (event.Reset l ends) (v.Reset k) x bar t held = not_reset (l == x.link) left t held
next_not a left e w x bar t held = asked_not a left e w x bar t held

not_zeroed : (plan : Plan) (h : History) (e : Event) (w : Verdict) (x : Site) (bar : ℕ)
    → IsLocked plan ((e, w) ∷ h) x → sets_to_zero e w x bar ≡ false
unfolding devices
not_zeroed plan h e w x bar held = next_not (around_at_site plan h x)
    (is_stream_left plan h e w x (interface_at plan h x)) e
    w x bar
    (interface_at plan h x) held

-- ---- a write that changed it

record IsEnabled (os : List (Option Write)) (offset : ℕ) : Type 0 where
  number : ℕ
  write : Write
  stands : slice_get os number ≡ Some (Some write)
  enabled : enables write.span offset ≡ true

one_later : (o : Option Write) (os : List (Option Write)) (offset : ℕ) → IsEnabled os offset → IsEnabled (o ∷ os) offset
one_later o os offset at = record { number = suc at.number; write = at.write; stands = at.stands; enabled = at.enabled }

changed_by : (os : List (Option Write)) (ws : List Write) (offset : ℕ)
    → byte_last_written (newest_first os ws) offset ≢ byte_last_written ws offset → IsEnabled os offset
changed_by [] ws offset differs = absurd (differs refl)
changed_by (None ∷ os) ws offset differs = one_later None os offset (changed_by os ws offset differs)
changed_by (Some w ∷ os) ws offset differs = elim (cases_Bool (enables w.span offset)) [
  | inl is ↦ record { number = 0; write = w; stands = refl; enabled = is }
  | inr not ↦
      let same : byte_last_written (w ∷ ws) offset ≡ byte_last_written ws offset = byte_last_written-next w ws offset ∙
      rw not refl in
      one_later (Some w) os offset (changed_by os (w ∷ ws) offset (λ e. differs (e ∙ same)))
]

-- ---- the packet that it is of

-- by its effect in the verdict
record IsStored (xs : List InterfaceStatus) (place bar : ℕ) (es : List Effect) (ps : List Packet) (n : ℕ)
    (w : Write) :
    Type 0
  where
    packet : Packet
    is_packet : slice_get ps n ≡ Some packet
    effect_is : slice_get es n ≡ Some effect.Stored
    payload : List ℕ
    claimed : claimed_write xs place bar (write_read payload (read_head_of packet.head)) ≡ Some w

pub of_effect : (e : Effect) (o : Option Write) (w : Write) → if_stored e o ≡ Some w → (e ≡ effect.Stored)
    × (o ≡ Some w)
of_effect e o w is = grind arith

none_is_not : {A : Type 0} (x : A) → None ≡ Some x → ⊥
none_is_not x is = absurd cc

stored_at : (xs : List InterfaceStatus) (place bar : ℕ) (plain : List ℕ) (es : List Effect) (ps : List Packet)
    (n : ℕ) (w : Write) → slice_get (unit_stored_writes xs place bar plain es ps) n ≡ Some (Some w)
    → IsStored xs place bar es ps n w
stored_at xs place bar plain [] ps n w is = absurd (none_is_not (Some w) is)
stored_at xs place bar plain (e ∷ es) [] n w is = absurd (none_is_not (Some w) is)
stored_at xs place bar plain (e ∷ es) (p ∷ ps) zero w is =
    let payload = take (length p.body) plain in
    let o = claimed_write xs place bar (write_read payload (read_head_of p.head)) in
    let both = of_effect e o w (some_is (if_stored e o) (Some w) is) in
    record { packet = p; is_packet = refl; effect_is = ap Some both.0; payload = payload; claimed = both.1 }
stored_at xs place bar plain (e ∷ es) (p ∷ ps) (suc n) w is =
    let later = stored_at xs place bar (drop (length p.body) plain) es ps n w is in
    record {
      packet = later.packet;
      is_packet = later.is_packet;
      effect_is = later.effect_is;
      payload = later.payload;
      claimed = later.claimed;
    }

-- why it is stored
pub record IsWrite (xs : List InterfaceStatus) (place bar : ℕ) (unit : UnitName) (es : List Effect) (ps : List Packet)
    (n : ℕ) (w : Write) :
    Type 0
  where
    pub packet : Packet
    pub is_packet : slice_get ps n ≡ Some packet
    pub effect_is : slice_get es n ≡ Some effect.Stored
    pub payload : List ℕ
    pub head : HeadView
    pub reads : read_head_of packet.head ≡ Ok head
    pub stored : mmio_effect xs packet.prefix.t unit.stream unit.draw (write_span head) ≡ effect.Stored
    pub claimed : claimed_write xs place bar (memory_write head payload) ≡ Some w

pub write_at : (plan : Plan) (h : History) (e : Event) (port : PortName) (unit : UnitName) (effects : List Effect)
    (x : Site) (bar n : ℕ) (w : Write) → Accepted port unit effects ≡ due plan h e → site_at plan x.number ≡ Some x
    → port_of plan port ≡ device_port x.link
    → slice_get (stores plan h e (Accepted port unit effects) x bar) n ≡ Some (Some w)
    → is_same_port (port_of plan port) (device_port x.link) ≡ true
    → IsWrite (history_statuses plan h x.link) (place_of plan x) bar unit effects (unit_ended plan h e port unit) n w
write_at plan h e port unit effects x bar n w is known at stands same =
    let ps = unit_ended plan h e port unit in
    let xs = history_statuses plan h x.link in
    let policy = policy_at plan h in
    let here : slice_get (unit_stored_writes xs (place_of plan x) bar (plain_of plan port unit ps) effects ps) n
    ≡ Some (Some w) =
    rw same at stands in
    let stored = stored_at xs (place_of plan x) bar (plain_of plan port unit ps) effects ps n w here in
    let there = effect_there plan h e port unit effects is n stored.packet effect.Stored stored.is_packet
    stored.effect_is in
    let written = is_written plan policy there.0 x.link unit stored.packet (no_switch plan x known)
    (subst (λ (q : PortName). effect_by plan policy there.0 q unit stored.packet ≡ effect.Stored) at there.1) in
    record {
      packet = stored.packet;
      is_packet = stored.is_packet;
      effect_is = stored.effect_is;
      payload = stored.payload;
      head = written.head;
      reads = written.reads;
      stored = written.stored;
      claimed = ap (λ (r : Result HeadView TlpFault). claimed_write xs (place_of plan x) bar (write_read stored.payload
          r)) (sym written.reads) ∙ stored.claimed;
    }

-- ---- what happens

-- the happening is the write's
record IsHappening (xs : List InterfaceStatus) (t : Bool) (stream draw place bar : ℕ) (w : Write) : Type 0 where
  of : Option Write
  is : write_happened xs t stream draw of ≡ Some (WriteStored place bar w)

abbrev CauseStores : Option BlockCause → Claim → Write → ℕ → ℕ → Write → Type 0
CauseStores o c w place bar to = stored_unless o c w ≡ Some (WriteStored place bar to)

cause_stores : (o : Option BlockCause) (c : Claim) (w : Write) (place bar : ℕ) (to : Write)
    → cause_effect o ≡ effect.Stored → if_claims place bar w (Some c) ≡ Some to → CauseStores o c w place bar to
cause_stores (Some cause) c w place bar to stored is = absurd cc
cause_stores None c w place bar to stored is = elim (cases_Bool ((c.interface == place) && (c.bar == bar))) [
  | inl there ↦
      let at = and_parts (c.interface == place) (c.bar == bar) there in
      let same = some_is (write_from_base c.range.base w) to (rw there at is) in
      (λ k. Some (WriteStored (eqb-true c.interface place at.0 k) (eqb-true c.bar bar at.1 k) (same k)))
  | inr other ↦ absurd (none_is_not to (rw other at is))
]

claim_stores : (o : Option Claim) (w : Write) (t : Bool) (stream draw place bar : ℕ) (to : Write)
    → claim_effect o w.span t stream draw ≡ effect.Stored → if_claims place bar w o ≡ Some to
    → stored_by_claim o w t stream draw ≡ Some (WriteStored place bar to)
claim_stores None w t stream draw place bar to stored is = absurd (none_is_not to is)
claim_stores (Some c) w t stream draw place bar to stored is =
    cause_stores (mmio_cause c.status c.range w.span t stream draw) c w place bar to stored is

span_stores : (xs : List InterfaceStatus) (t : Bool) (stream draw place bar : ℕ) (payload : List ℕ) (o : Option Span)
    (to : Write) → mmio_effect xs t stream draw o ≡ effect.Stored
    → claimed_write xs place bar (option_map (λ s. record { span = s; payload = payload }) o) ≡ Some to
    → IsHappening xs t stream draw place bar to
span_stores xs t stream draw place bar payload None to stored is = absurd (none_is_not to is)
span_stores xs t stream draw place bar payload (Some s) to stored is =
    let w : Write = record { span = s; payload = payload } in
    record { of = Some w; is = claim_stores (claim_of xs s) w t stream draw place bar to stored is }

-- a write to a guarded range is admitted: other TLPs change no byte of it
by_stays : (xs : List InterfaceStatus) (t : Bool) (stream draw place bar offset : ℕ) (w : Write) (x : InterfaceStatus)
    → IsHappening xs t stream draw place bar w → enables w.span offset ≡ true
    → slice_get xs place ≡ Some x → is_guarded x bar ≡ true → is_admitted x t stream draw ≡ true
by_stays xs t stream draw place bar offset w x happening enabled there guarded =
    elim (cases_Bool (is_admitted x t stream draw)) [
      | inl is ↦ is
      | inr not ↦
          let old : ℕ → ℕ → ℕ → ℕ = λ i b a. payload_byte w offset + 1 in
          let same = stays xs t stream draw happening.of old place bar offset x there guarded not in
          let changed : contents_if_happened (Some (WriteStored place bar w)) old place bar offset
          ≡ payload_byte w offset + 1 =
          ap (λ h. contents_if_happened h old place bar offset) (sym happening.is) ∙ same in
          let wrong : payload_byte w offset ≡ payload_byte w offset + 1 =
          rw (eqb-refl place, eqb-refl bar, enabled) at changed in
          absurd (omega (arith, wrong))
    ]

-- ---- how the interface stands

held_state : (s : TdiState) → Held s → is_locked_or_run (state_of_interface s) ≡ true
held_state tdi.ConfigUnlocked (inl e) = absurd cc
held_state tdi.ConfigUnlocked (inr e) = absurd cc
held_state (tdi.ConfigLocked lock nonce) h = refl
held_state (tdi.Run lock) h = refl
held_state tdi.Error (inl e) = absurd cc
held_state tdi.Error (inr e) = absurd cc

pub run_state : (s : TdiState) → is_in_run (state_of_interface s) ≡ true → is_run s ≡ true
run_state tdi.ConfigUnlocked e = absurd (true≢false (sym e))
run_state (tdi.ConfigLocked lock nonce) e = absurd (true≢false (sym e))
run_state (tdi.Run lock) e = refl
run_state tdi.Error e = absurd (true≢false (sym e))

moved_shut : (base : ℕ) (o : Option BarPlan) → option_map_or is_open_range o false ≡ false
    → is_open_range (bar_moved base o) ≡ false
moved_shut base None shut = refl
moved_shut base (Some bar) shut = shut

-- a range that is not open by the topology is not at any base
pub shut_at : (p : InterfacePlan) (r : Registers) (bar : ℕ) → has_open_range p.bars bar ≡ false
    → has_open_range (bars_of p r) bar ≡ false
shut_at p r zero shut = moved_shut (slice_index r.bars 0) (slice_get p.bars 0) shut
shut_at p r (suc zero) shut = moved_shut (slice_index r.bars 1) (slice_get p.bars 1) shut
shut_at p r (suc (suc zero)) shut = moved_shut (slice_index r.bars 2) (slice_get p.bars 2) shut
shut_at p r (suc (suc (suc zero))) shut = moved_shut (slice_index r.bars 3) (slice_get p.bars 3) shut
shut_at p r (suc (suc (suc (suc zero)))) shut = moved_shut (slice_index r.bars 4) (slice_get p.bars 4) shut
shut_at p r (suc (suc (suc (suc (suc zero))))) shut = moved_shut (slice_index r.bars 5) (slice_get p.bars 5) shut
shut_at p r (suc (suc (suc (suc (suc (suc n)))))) shut = refl

guarded_at : (plan : Plan) (h : History) (x : Site) (bar : ℕ) → IsLocked plan h x
    → has_open_range x.plan.bars bar ≡ false → is_guarded (device_status plan h x) bar ≡ true
guarded_at plan h x bar held shut =
    let t = interface_at plan h x in
    let layout = layout_at plan h x in
    let there : has_open_range t.plan.bars bar ≡ false =
    ap (λ (p : InterfacePlan). has_open_range p.bars bar) layout ∙ shut in
    rw (held_state t.state held, shut_at t.plan t.registers bar there) refl

-- what an admitted write tells
record IsInRun (plan : Plan) (h : History) (x : Site) (t : Bool) (stream draw : ℕ) : Type 0 where
  trusted : t ≡ true
  runs : runs_at plan h x ≡ true
  floor : ℕ
  bound : floor_on stream (all_bindings (device_floor plan h x) (interface_at plan h x)) ≡ Some floor
  from_floor : floor ≤ draw

record IsFloor (o : Option ℕ) (draw : ℕ) : Type 0 where
  floor : ℕ
  is : o ≡ Some floor
  from : floor ≤ draw

floor_by : (o : Option ℕ) (draw : ℕ) → is_from_floor o draw ≡ true → IsFloor o draw
floor_by None draw is = absurd (true≢false (sym is))
floor_by (Some floor) draw is = record { floor = floor; is = refl; from = leb-true floor draw is }

in_run : (plan : Plan) (h : History) (x : Site) (t : Bool) (stream draw : ℕ)
    → is_admitted (device_status plan h x) t stream draw ≡ true → IsInRun plan h x t stream draw
in_run plan h x t stream draw is =
    let state = (interface_at plan h x).state in
    let o = floor_on stream (all_bindings (device_floor plan h x) (interface_at plan h x)) in
    let parts = and_parts t (is_in_run (state_of_interface state) && is_from_floor o draw) is in
    let run = and_parts (is_in_run (state_of_interface state)) (is_from_floor o draw) parts.1 in
    let on = floor_by o draw run.1 in
    record {
      trusted = parts.0;
      runs = run_state state run.0;
      floor = on.floor;
      bound = on.is;
      from_floor = on.from;
    }

-- ---- the pair

stored_in_run : (plan : Plan) (h : History) (e : Event) (port : PortName) (unit : UnitName) (effects : List Effect)
    (x : Site) (bar offset : ℕ) → Accepted port unit effects ≡ due plan h e → site_at plan x.number ≡ Some x
    → IsLocked plan h x → has_open_range x.plan.bars bar ≡ false → port_of plan port ≡ device_port x.link
    → IsEnabled (stores plan h e (Accepted port unit effects) x bar) offset
    → is_same_port (port_of plan port) (device_port x.link) ≡ true
    → IsStoredInRun plan h e (Accepted port unit effects) x bar offset
stored_in_run plan h e port unit effects x bar offset is known held shut at enabled same =
    let xs = history_statuses plan h x.link in
    let stored = write_at plan h e port unit effects x bar enabled.number enabled.write is known at enabled.stands same
    in
    let happening = span_stores xs stored.packet.prefix.t unit.stream unit.draw (place_of plan x) bar stored.payload
    (write_span stored.head) enabled.write stored.stored stored.claimed in
    let admitted = by_stays xs stored.packet.prefix.t unit.stream unit.draw (place_of plan x) bar offset enabled.write
    (device_status plan h x) happening enabled.enabled (standing_placed plan h x.number x known)
    (guarded_at plan h x bar held shut) in
    let run = in_run plan h x stored.packet.prefix.t unit.stream unit.draw admitted in
    record {
      unit = unit;
      effects = effects;
      end = port;
      at_device = at;
      accepted = refl;
      number = enabled.number;
      packet = stored.packet;
      is_packet = stored.is_packet;
      effect_is = stored.effect_is;
      write = enabled.write;
      is_write = enabled.stands;
      enabled = enabled.enabled;
      trusted = run.trusted;
      runs = run.runs;
      floor = run.floor;
      bound = run.bound;
      from_floor = run.from_floor;
    }

none_enabled : (offset : ℕ) → IsEnabled [] offset → ⊥
none_enabled offset at = none_is_not (Some at.write) at.stands

by_pair : (plan : Plan) (h : History) (e : Event) (w : Verdict) (x : Site) (bar offset : ℕ) → w ≡ due plan h e
    → site_at plan x.number ≡ Some x → IsLocked plan h x → has_open_range x.plan.bars bar ≡ false
    → IsEnabled (stores plan h e w x bar) offset → IsStoredInRun plan h e w x bar offset
by_pair plan h e (Accepted port unit effects) x bar offset is known held shut enabled =
    elim (cases_Bool (is_same_port (port_of plan port) (device_port x.link))) [
      | inl same ↦
          stored_in_run plan h e port unit effects x bar offset is known held shut
          (same_port (port_of plan port) (device_port x.link) same) enabled same
      | inr other ↦ absurd (none_enabled offset (rw other at enabled))
    ]
by_pair plan h e w x bar offset is known held shut enabled = absurd (none_enabled offset enabled)

pub guards_bytes : (plan : Plan) (h : History) (e : Event) (w : Verdict) → w ≡ due plan h e → GuardsBytes plan h e w
unfolding writes_since_zero
guards_bytes plan h e w is i x bar offset at held after shut differs =
    let known : site_at plan x.number ≡ Some x = ap (site_at plan) (number_at plan i x at) ∙ at in
    let kept = not_zeroed plan h e w x bar after in
    by_pair plan h e w x bar offset is known held shut
    (changed_by (stores plan h e w x bar) (writes_since_zero plan h x bar) offset (λ same. differs (rw kept same)))
