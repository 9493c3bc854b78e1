-- What happened, by all pairs, left the writes that the effects in verdicts say.
use Rattle.law_mmio.proofs.OnLinks.{no_switch}
use Rattle.spec_links.specs.Ports.{at_switch, is_device_port, port_of}
use Rattle.spec_links.specs.Admission.{effects_under_policy}
use Rattle.std.specs.Prelude.{not, Option, slice_get}
use Rattle.std.proofs.Common.{◌≡◌, ℕ, ◌==◌, ◌&&◌, ◌∷◌, Bool, true, false, not, List, [], Option, Some, None}
use Rattle.std.proofs.Common.{if◌then◌else◌, refl, sym, ap, ◌∙◌, subst, inl, inr}
use Rattle.std.proofs.lemmas.Bool.{cases_Bool, true≢false, eqb-true}
use Rattle.spec_links.specs.Terms.{PortName, Plan, Event, Effect, UnitName, Verdict, Accepted, Packet, History}
use Rattle.spec_links.specs.Terms.{Device, newest_first, sent_direction}
use Rattle.ide_types.specs.declared.port.Side.{Side}
use Rattle.ide_types.specs.declared.port.Side.TheVariants as side
use Rattle.spec_links.specs.Plan.{is_same_port}
use Rattle.spec_links.specs.Cause.{CauseLaw}
unfoldable use Rattle.spec_links.specs.Due.{due}
use Rattle.spec_links.specs.Memory.{unit_ended, plain_of, policy_at, effect_by, effects_of, accepts_unit}
use Rattle.spec_links.specs.Guarded.{stored_each, unit_happenings, happens_if, halted_at, reset_at, asked_happens}
use Rattle.spec_links.specs.Guarded.{happens}
unfoldable use Rattle.spec_links.specs.Guarded.{link_happenings}
use Rattle.spec_links.proofs.Causes.{accepted_by, unit_that_ends}
use Rattle.spec_links.proofs.Tests.{same_port, eqb-refl}
use Rattle.spec_interfaces.specs.Sites.{Site, site_at}
use Rattle.spec_interfaces.specs.Exchanges.{carries, changes_device}
use Rattle.spec_interfaces.specs.Floors.{place_of, history_statuses}
use Rattle.spec_interfaces.proofs.Floors.{places_apart}
use Rattle.guarded_memory.specs.declared.status.InterfaceStatus.{InterfaceStatus}
use Rattle.guarded_memory.specs.Statuses.{has_open_range}
use Rattle.guarded_memory.specs.Happenings.{Happened, InterfaceReset, AllReset, InterfaceStopped, clears, stored_write}
use Rattle.guarded_memory.specs.Happenings.{writes_since, newest_happened}
use Rattle.law_mmio.specs.Stored.{unit_stored_writes, stores, asked_zero, sets_to_zero}
use Rattle.ide_types.specs.Ports.{device_port}
unfoldable use Rattle.law_mmio.specs.Stored.{writes_since_zero}
use Rattle.law_mmio.proofs.Units.{effect_at, unit_stores}
use Rattle.script_events.specs.declared.event.Event.TheVariants as event
use Rattle.script_events.specs.declared.event.InterfaceEvent.TheVariants as ie
use Rattle.event_verdicts.specs.declared.verdict.Verdict.TheVariants as v

pub some_is : {A : Type 0} (x y : A) → Some x ≡ Some y → x ≡ y
some_is x y is = cc

-- ---- an interface that is asked

pub and_none : (b : Bool) → (b && false) ≡ false
and_none true = refl
and_none false = refl

-- what it sets to 0, as happenings and as writes
abbrev Clears : List (Option Happened) → Bool → List Happened → ℕ → ℕ → Type 0
Clears hs zero older place bar = writes_since (newest_happened hs older) place bar
    ≡ (if zero then [] else writes_since older place bar)

own : (plan : Plan) (x : Site) (i : ℕ) → site_at plan x.number ≡ Some x → (i == x.number) ≡ true
    → site_at plan i ≡ Some x
own plan x i known is = ap (site_at plan) (eqb-true i x.number is) ∙ known

not_own : (plan : Plan) (x : Site) (i : ℕ) (y : Site) → site_at plan x.number ≡ Some x → site_at plan i ≡ Some y
    → (i == x.number) ≡ false → y.link ≡ x.link → (place_of plan y == place_of plan x) ≡ false
not_own plan x i y known other apart link =
    elim (cases_Bool (place_of plan y == place_of plan x)) [
      | inl same ↦
          let e = places_apart plan i x.number y x other known link (eqb-true (place_of plan y) (place_of plan x) same)
          in absurd (true≢false (sym (rw e (eqb-refl x.number)) ∙ apart))
      | inr differs ↦ differs
    ]

-- a happening at the interface that is asked, and at another of the same link
here : (h : ℕ → Happened) (zero b : Bool) (place bar : ℕ) (older : List Happened) → clears (h place) place bar ≡ zero
    → stored_write (h place) place bar ≡ None → Clears (happens_if (true && b) (h place)) (b && zero) older place bar
here h zero true place bar older is none = rw (is, none) refl
here h zero false place bar older is none = refl

elsewhere : (h : Happened) (b c : Bool) (place bar : ℕ) (older : List Happened)
    → (b ≡ true → clears h place bar ≡ false) → stored_write h place bar ≡ None
    → Clears (happens_if (b && c) h) false older place bar
elsewhere h true true place bar older kept none = rw (kept refl, none) refl
elsewhere h true false place bar older kept none = refl
elsewhere h false c place bar older kept none = refl

halted_clears : (plan : Plan) (w : Verdict) (x : Site) (bar i : ℕ) (older : List Happened)
    → site_at plan x.number ≡ Some x → Clears (halted_at plan w x.link (site_at plan i))
    ((i == x.number) && (carries w 1 && not (has_open_range x.plan.bars bar))) older (place_of plan x) bar
halted_clears plan w x bar i older known = elim (cases_Bool (i == x.number)) [
  | inl same ↦
      rw (own plan x i known same, same, eqb-refl x.link)
      (here (λ place. InterfaceStopped place x.plan.bars) (not (has_open_range x.plan.bars bar)) (carries w 1)
      (place_of plan x) bar older (rw (eqb-refl (place_of plan x)) refl) refl)
  | inr apart ↦ rw apart (by (site_at plan i) refl apart)
]
  where
    by : (o : Option Site) → site_at plan i ≡ o → (i == x.number) ≡ false
        → Clears (halted_at plan w x.link o) false older (place_of plan x) bar
    by None is apart = refl
    by (Some y) is apart =
        elsewhere (InterfaceStopped (place_of plan y) y.plan.bars) (y.link == x.link) (carries w 1) (place_of plan x)
        bar older
        (λ link. rw (not_own plan x i y known is apart (eqb-true y.link x.link link)) refl) refl

reset_clears : (plan : Plan) (w : Verdict) (x : Site) (bar i : ℕ) (older : List Happened)
    → site_at plan x.number ≡ Some x
    → Clears (reset_at plan w x.link (site_at plan i)) ((i == x.number) && changes_device w) older (place_of plan x) bar
reset_clears plan w x bar i older known = elim (cases_Bool (i == x.number)) [
  | inl same ↦
      rw (own plan x i known same, same, eqb-refl x.link)
      (whole (changes_device w) (here (λ place. InterfaceReset place) true (changes_device w) (place_of plan x) bar
      older (eqb-refl (place_of plan x)) refl))
  | inr apart ↦ rw apart (by (site_at plan i) refl apart)
]
  where
    whole : (b : Bool) → Clears (happens_if (true && b) (InterfaceReset (place_of plan x))) (b && true) older
        (place_of plan x) bar
        → Clears (happens_if (true && b) (InterfaceReset (place_of plan x))) b older (place_of plan x) bar
    whole true is = is
    whole false is = is

    by : (o : Option Site) → site_at plan i ≡ o → (i == x.number) ≡ false
        → Clears (reset_at plan w x.link o) false older (place_of plan x) bar
    by None is apart = refl
    by (Some y) is apart = elsewhere (InterfaceReset (place_of plan y)) (y.link == x.link) (changes_device w)
        (place_of plan x) bar older (λ link. not_own plan x i y known is apart (eqb-true y.link x.link link)) refl

asked_clears : (plan : Plan) (e : Event) (w : Verdict) (x : Site) (bar : ℕ) (older : List Happened)
    → site_at plan x.number ≡ Some x
    → Clears (asked_happens plan e w x.link) (asked_zero e w x bar) older (place_of plan x) bar
asked_clears plan (event.Interface (ie.Halt i loss)) w x bar older known = halted_clears plan w x bar i older known
asked_clears plan (event.Interface (ie.Flr i)) w x bar older known = reset_clears plan w x bar i older known
asked_clears plan e w x bar older known = refl

-- ---- an accepted unit

none_zero : (e : Event) (port : PortName) (unit : UnitName) (effects : List Effect) (x : Site) (bar : ℕ)
    → sets_to_zero e (Accepted port unit effects) x bar ≡ false
none_zero (event.Interface (ie.Halt i loss)) port unit effects x bar = and_none (i == x.number)
none_zero (event.Interface (ie.Flr i)) port unit effects x bar = and_none (i == x.number)
none_zero e port unit effects x bar = refl

-- at another port than the device's of the link
elsewhere_none : (xs : ℕ → List InterfaceStatus) (plan : Plan) (port : PortName) (unit : UnitName) (ps : List Packet)
    (link : ℕ) → is_same_port (port_of plan port) (device_port link) ≡ false
    → (if (port_of plan port).line == link then unit_happenings (xs (port_of plan port).line) plan port unit ps else [])
    ≡ []
elsewhere_none xs plan port unit ps link is =
    by (port_of plan port).side (at_switch plan (port_of plan port)) ((port_of plan port).line == link) is
  where
    each : List (Option Happened)
    each = stored_each (xs (port_of plan port).line) unit (plain_of plan port unit ps) ps

    by : (s : Side) (c b : Bool) → ((sent_direction s == 1) && b) ≡ false
        → (if b then (if not c && (sent_direction s == 1) then each else []) else []) ≡ []
    by side.Host true true is = refl
    by side.Host false true is = refl
    by side.Host c false is = refl
    by side.Device c true is = absurd (true≢false is)
    by side.Device c false is = refl

pub effects_there : (plan : Plan) (h : History) (e : Event) (port : PortName) (unit : UnitName) (effects : List Effect)
    → Accepted port unit effects ≡ due plan h e → effects ≡ effects_of plan h port unit (unit_ended plan h e port unit)
effects_there plan h e port unit effects is =
    let by = accepted_by plan h e port unit effects is in
    by.effects_are
    ∙ ap (λ (ps : List Packet). effects_of plan h port unit ps)
    (sym (unit_that_ends plan h e port unit by.packet by.came by.passed))

-- packet n of the unit has its effect while some number of reads wait
pub effect_there : (plan : Plan) (h : History) (e : Event) (port : PortName) (unit : UnitName) (effects : List Effect)
    → Accepted port unit effects ≡ due plan h e → (n : ℕ) (p : Packet) (effect : Effect)
    → slice_get (unit_ended plan h e port unit) n ≡ Some p → slice_get effects n ≡ Some effect
    → (k : ℕ) × (effect_by plan (policy_at plan h) k (port_of plan port) unit p ≡ effect)
effect_there plan h e port unit effects is n p effect stands has =
    let policy = policy_at plan h in
    effect_at plan policy (policy.waiting (port_of plan port)) (port_of plan port) unit (unit_ended plan h e port unit)
    n p effect (ap (λ (es : List Effect). slice_get es n) (sym (effects_there plan h e port unit effects is)) ∙ has)
    stands

unit_there : (plan : Plan) (h : History) (e : Event) (port : PortName) (unit : UnitName) (effects : List Effect)
    (x : Site) (bar : ℕ) → site_at plan x.number ≡ Some x → Accepted port unit effects ≡ due plan h e
    → is_same_port (port_of plan port) (device_port x.link) ≡ true
    → writes_since (newest_happened (happens plan h e (Accepted port unit effects) x.link)
    (link_happenings plan h x.link)) (place_of plan x) bar ≡ newest_first
    (stores plan h e (Accepted port unit effects) x bar)
    (writes_since (link_happenings plan h x.link) (place_of plan x) bar)
unit_there plan h e port unit effects x bar known is same =
    by (port_of plan port) (same_port (port_of plan port) (device_port x.link) same) effects
    (effects_there plan h e port unit effects is)
  where
    ps : List Packet
    ps = unit_ended plan h e port unit

    plain : List ℕ
    plain = plain_of plan port unit ps

    by : (q : PortName) → q ≡ device_port x.link → (es : List Effect) → es
        ≡ effects_under_policy plan (policy_at plan h) q unit ps
        → writes_since (newest_happened
        (if q.line == x.link then
        (if is_device_port plan q then stored_each (history_statuses plan h q.line) unit plain ps else []) else [])
        (link_happenings plan h x.link)) (place_of plan x) bar
        ≡ newest_first (if is_same_port q (device_port x.link) then unit_stored_writes (history_statuses plan h x.link)
        (place_of plan x) bar plain es ps else []) (writes_since (link_happenings plan h x.link) (place_of plan x) bar)
    by q at es are =
        rw (at, eqb-refl x.link, no_switch plan x known) (subst (λ (fs : List Effect).
        writes_since (newest_happened (stored_each (history_statuses plan h x.link) unit plain ps)
        (link_happenings plan h x.link)) (place_of plan x) bar
        ≡ newest_first (unit_stored_writes (history_statuses plan h x.link) (place_of plan x) bar plain fs ps)
        (writes_since (link_happenings plan h x.link) (place_of plan x) bar))
        (sym (rw at at are))
        (unit_stores plan (policy_at plan h) ((policy_at plan h).waiting (device_port x.link)) x.link unit
        (place_of plan x) bar
        plain ps (link_happenings plan h x.link) (no_switch plan x known)))

unit_same : (plan : Plan) (h : History) (e : Event) (port : PortName) (unit : UnitName) (effects : List Effect)
    (x : Site) (bar : ℕ) → site_at plan x.number ≡ Some x → Accepted port unit effects ≡ due plan h e
    → writes_since (newest_happened (happens plan h e (Accepted port unit effects) x.link)
    (link_happenings plan h x.link)) (place_of plan x) bar ≡ newest_first
    (stores plan h e (Accepted port unit effects) x bar)
    (writes_since (link_happenings plan h x.link) (place_of plan x) bar)
unit_same plan h e port unit effects x bar known is =
    elim (cases_Bool (is_same_port (port_of plan port) (device_port x.link))) [
      | inl same ↦ unit_there plan h e port unit effects x bar known is same
      | inr other ↦
          rw (
            other,
            elsewhere_none (history_statuses plan h) plan port unit (unit_ended plan h e port unit) x.link
                other,
          )
          refl
    ]

-- ---- all pairs

abbrev PairSame : Plan → History → Event → Verdict → Site → ℕ → Type 0
PairSame plan h e w x bar =
    writes_since (newest_happened (happens plan h e w x.link) (link_happenings plan h x.link)) (place_of plan x) bar
    ≡ (if sets_to_zero e w x bar then []
    else newest_first (stores plan h e w x bar) (writes_since (link_happenings plan h x.link) (place_of plan x) bar))

-- which ends no unit
other_same : (plan : Plan) (h : History) (e : Event) (w : Verdict) (x : Site) (bar : ℕ)
    → site_at plan x.number ≡ Some x → accepts_unit w ≡ false → PairSame plan h e w x bar
other_same plan h (event.Reset l ends) (v.Reset k) x bar known none = by (l == x.link)
  where
    by : (b : Bool) → Clears (happens_if b AllReset) b (link_happenings plan h x.link) (place_of plan x) bar
    by true = refl
    by false = refl
other_same plan h e (Accepted port unit effects) x bar known none = absurd (true≢false none)
other_same plan h e w x bar known none = asked_clears plan e w x bar (link_happenings plan h x.link) known

pair_same : (plan : Plan) (h : History) (e : Event) (w : Verdict) (x : Site) (bar : ℕ) → site_at plan x.number ≡ Some x
    → w ≡ due plan h e → PairSame plan h e w x bar
pair_same plan h e (Accepted port unit effects) x bar known is =
    rw (none_zero e port unit effects x bar) (unit_same plan h e port unit effects x bar known is)
pair_same plan h e w x bar known is = other_same plan h e w x bar known refl

-- the writes that stand in a range
pub same_writes : (plan : Plan) (h : History) → CauseLaw plan h → (x : Site) (bar : ℕ) → site_at plan x.number ≡ Some x
    → writes_since (link_happenings plan h x.link) (place_of plan x) bar ≡ writes_since_zero plan h x bar
unfolding link_happenings writes_since_zero
same_writes plan [] cause x bar known = refl
same_writes plan ((e, w) ∷ h) cause x bar known =
    pair_same plan h e w x bar known cause.0
    ∙ ap (λ (ws : _). if sets_to_zero e w x bar then [] else newest_first (stores plan h e w x bar) ws)
    (same_writes plan h cause.1 x bar known)
