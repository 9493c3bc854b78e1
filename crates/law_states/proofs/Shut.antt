-- An interface in ERROR stores no write in a BAR that is not open.
use Rattle.std.proofs.Common.{◌≡◌, ℕ, ◌==◌, ◌&&◌, Bool, true, false, List, Option, Some}
use Rattle.std.proofs.Common.{None, if◌then◌else◌, refl, sym, ap, ◌∙◌, inl, inr}
use Rattle.std.specs.Prelude.{slice_get}
use Rattle.std.specs.Option.{option_map, option_map_or}
use Rattle.std.proofs.lemmas.Bool.{and_parts, cases_Bool, true≢false, eqb-true}
use Rattle.spec_links.specs.Ports.{port_of}
use Rattle.spec_links.specs.Terms.{PortName, Plan, Event, Effect, UnitName, Verdict, Accepted, Packet, History}
use Rattle.spec_links.specs.Terms.{Write, write_span}
use Rattle.spec_links.specs.Plan.{is_same_port}
unfoldable use Rattle.spec_links.specs.Due.{due}
use Rattle.spec_links.specs.Memory.{unit_ended}
use Rattle.spec_links.proofs.Tests.{same_port}
use Rattle.spec_interfaces.specs.Sites.{Site, site_at}
use Rattle.spec_interfaces.specs.Devices.{interface_at}
use Rattle.spec_interfaces.specs.Floors.{place_of, history_statuses, device_status}
use Rattle.spec_interfaces.proofs.Floors.{standing_placed}
use Rattle.spec_interfaces.proofs.Locks.{layout_at}
use Rattle.interface_state.specs.declared.states.TdiState.TheVariants as tdi
use Rattle.ide_types.specs.Ports.{device_port}
use Rattle.ide_types.specs.declared.interface.BarPlan.{BarPlan}
use Rattle.ide_types.specs.declared.interface.InterfacePlan.{InterfacePlan}
use Rattle.trusted_memory.specs.declared.span.Span.{Span}
use Rattle.trusted_memory.specs.Spans.{crosses}
use Rattle.guarded_memory.specs.declared.status.InterfaceState.TheVariants as state
use Rattle.guarded_memory.specs.declared.status.InterfaceStatus.{InterfaceStatus}
use Rattle.guarded_memory.specs.declared.claims.Claim.{Claim}
use Rattle.guarded_memory.specs.Statuses.{is_open_range, has_open_range, state_of_interface}
use Rattle.guarded_memory.specs.Claims.{claim_of}
use Rattle.guarded_memory.specs.Causes.{access_cause, mmio_cause, cause_effect, claim_effect, mmio_effect}
use Rattle.guarded_memory.proofs.Claimed.{claimed}
use Rattle.law_mmio.specs.Stored.{if_claims, claimed_write, stores}
use Rattle.law_mmio.proofs.Guards.{shut_at, write_at}
use Rattle.law_mmio.proofs.SameWrites.{some_is}
use Rattle.event_verdicts.specs.declared.verdict.BlockCause.{BlockCause}
use Rattle.event_verdicts.specs.declared.verdict.Effect.TheVariants as effect
use Rattle.law_states.specs.States.{state_at}

none_is_not : {A : Type 0} (x : A) → None ≡ Some x → ⊥
none_is_not x is = absurd cc

-- ---- what blocks it

-- an interface in ERROR at a place, and to what has no T a BAR that is not open
record IsShut (xs : List InterfaceStatus) (place bar : ℕ) (t : Bool) : Type 0 where
  status : InterfaceStatus
  there : slice_get xs place ≡ Some status
  error : status.state ≡ state.Error
  shut : t ≡ false → has_open_range status.bars bar ≡ false

blocked : (x : InterfaceStatus) (range : BarPlan) (t : Bool) (stream draw : ℕ) → x.state ≡ state.Error
    → (t ≡ false → is_open_range range ≡ false) → access_cause x range t stream draw ≡ None → ⊥
blocked x range true stream draw error shut is = absurd (some_not _ (rw error at is))
  where
    some_not : (c : BlockCause) → Some c ≡ None → ⊥
    some_not c is = absurd cc
blocked x range false stream draw error shut is = absurd (some_not _ (rw (shut refl, error) at is))
  where
    some_not : (c : BlockCause) → Some c ≡ None → ⊥
    some_not c is = absurd cc

no_cause : (o : Option BlockCause) → cause_effect o ≡ effect.Stored → o ≡ None
no_cause None is = refl
no_cause (Some c) is = absurd cc

not_crossing : (b : Bool) (c : BlockCause) (o : Option BlockCause) → (if b then Some c else o) ≡ None → o ≡ None
not_crossing true c o is = absurd cc
not_crossing false c o is = is

opened : (o : Option BarPlan) (range : BarPlan) → o ≡ Some range → option_map_or is_open_range o false
    ≡ is_open_range range
opened o range is = ap (λ (p : Option BarPlan). option_map_or is_open_range p false) is

if_there : (b : Bool) (w to : Write) → (if b then Some w else None) ≡ Some to → b ≡ true
if_there true w to is = refl
if_there false w to is = absurd cc

claim_not : (xs : List InterfaceStatus) (place bar stream draw : ℕ) (t : Bool) (s : Span) (w to : Write)
    → IsShut xs place bar t → (o : Option Claim) → claim_of xs s ≡ o → claim_effect o s t stream draw ≡ effect.Stored
    → if_claims place bar w o ≡ Some to → ⊥
claim_not xs place bar stream draw t s w to shut None claim stored is = absurd (none_is_not to is)
claim_not xs place bar stream draw t s w to shut (Some c) claim stored is =
    let at = and_parts (c.interface == place) (c.bar == bar)
    (if_there ((c.interface == place) && (c.bar == bar)) _ to is) in
    let of = claimed xs s c claim in
    let same : c.status ≡ shut.status =
    some_is c.status shut.status
    (sym of.interface ∙ ap (λ (k : ℕ). slice_get xs k) (eqb-true c.interface place at.0) ∙ shut.there) in
    let error : c.status.state ≡ state.Error = ap (λ (y : InterfaceStatus). y.state) same ∙ shut.error in
    let closed : t ≡ false → is_open_range c.range ≡ false = λ plain.
    sym (opened (slice_get c.status.bars c.bar) c.range of.bar)
    ∙ ap (λ (y : InterfaceStatus). has_open_range y.bars c.bar) same
    ∙ ap (λ (b : ℕ). has_open_range shut.status.bars b) (eqb-true c.bar bar at.1) ∙ shut.shut plain in
    blocked c.status c.range t stream draw error closed
    (not_crossing (crosses s) _ (access_cause c.status c.range t stream draw)
    (no_cause (mmio_cause c.status c.range s t stream draw) stored))

span_not : (xs : List InterfaceStatus) (place bar stream draw : ℕ) (t : Bool) (payload : List ℕ) (to : Write)
    → IsShut xs place bar t → (o : Option Span) → mmio_effect xs t stream draw o ≡ effect.Stored
    → claimed_write xs place bar (option_map (λ s. record { span = s; payload = payload }) o) ≡ Some to → ⊥
span_not xs place bar stream draw t payload to shut None stored is = absurd (none_is_not to is)
span_not xs place bar stream draw t payload to shut (Some s) stored is =
    claim_not xs place bar stream draw t s (record { span = s; payload = payload }) to shut
    (claim_of xs s) refl stored is

-- ---- how it stands

is_shut : (plan : Plan) (h : History) (x : Site) (bar : ℕ) (t : Bool) → site_at plan x.number ≡ Some x
    → state_at plan h x ≡ tdi.Error → (t ≡ false → has_open_range x.plan.bars bar ≡ false)
    → IsShut (history_statuses plan h x.link) (place_of plan x) bar t
is_shut plan h x bar t known error shut =
    let tdi = interface_at plan h x in
    record {
      status = device_status plan h x;
      there = standing_placed plan h x.number x known;
      error = ap state_of_interface error;
      shut = λ plain. shut_at tdi.plan tdi.registers bar
          (ap (λ (p : InterfacePlan). has_open_range p.bars bar) (layout_at plan h x) ∙ shut plain);
    }

-- ---- the pair

-- if the packet has no T, the range is closed
abbrev IsPlainToShut : Plan → History → Event → PortName → UnitName → Site → ℕ → ℕ → Type 0
IsPlainToShut plan h e port unit x bar number = (p : Packet) → slice_get (unit_ended plan h e port unit) number ≡ Some p
    → p.prefix.t ≡ false → has_open_range x.plan.bars bar ≡ false

stores_not : (plan : Plan) (h : History) (e : Event) (port : PortName) (unit : UnitName) (effects : List Effect)
    (x : Site) (bar number : ℕ) (write : Write) → Accepted port unit effects ≡ due plan h e
    → site_at plan x.number ≡ Some x
    → state_at plan h x ≡ tdi.Error → IsPlainToShut plan h e port unit x bar number
    → port_of plan port ≡ device_port x.link
    → slice_get (stores plan h e (Accepted port unit effects) x bar) number ≡ Some (Some write)
    → is_same_port (port_of plan port) (device_port x.link) ≡ true → ⊥
stores_not plan h e port unit effects x bar number write is known error shut at stands same =
    let stored = write_at plan h e port unit effects x bar number write is known at stands same in
    span_not (history_statuses plan h x.link) (place_of plan x) bar unit.stream unit.draw stored.packet.prefix.t
    stored.payload write
    (is_shut plan h x bar stored.packet.prefix.t known error (shut stored.packet stored.is_packet))
    (write_span stored.head) stored.stored stored.claimed

by_pair : (plan : Plan) (h : History) (e : Event) (port : PortName) (unit : UnitName) (effects : List Effect) (x : Site)
    (bar number : ℕ) (write : Write) → Accepted port unit effects ≡ due plan h e → site_at plan x.number ≡ Some x
    → state_at plan h x ≡ tdi.Error → IsPlainToShut plan h e port unit x bar number
    → slice_get (stores plan h e (Accepted port unit effects) x bar) number ≡ Some (Some write) → ⊥
by_pair plan h e port unit effects x bar number write is known error shut stands =
    elim (cases_Bool (is_same_port (port_of plan port) (device_port x.link))) [
      | inl same ↦
          stores_not plan h e port unit effects x bar number write is known error shut
          (same_port (port_of plan port) (device_port x.link) same) stands same
      | inr other ↦ absurd (none_is_not (Some write) (rw other at stands))
    ]

-- in a BAR that is not open
pub none_stored : (plan : Plan) (h : History) (e : Event) (w : Verdict) (x : Site) (bar number : ℕ) (write : Write)
    → w ≡ due plan h e → site_at plan x.number ≡ Some x → state_at plan h x ≡ tdi.Error
    → has_open_range x.plan.bars bar ≡ false → slice_get (stores plan h e w x bar) number ≡ Some (Some write) → ⊥
none_stored plan h e (Accepted port unit effects) x bar number write is known error shut stands =
    by_pair plan h e port unit effects x bar number write is known error (λ p at plain. shut) stands
none_stored plan h e w x bar number write is known error shut stands = absurd (none_is_not (Some write) stands)

-- of a packet with T
pub none_trusted : (plan : Plan) (h : History) (e : Event) (port : PortName) (unit : UnitName) (effects : List Effect)
    (x : Site) (bar number : ℕ) (write : Write) (packet : Packet) → Accepted port unit effects ≡ due plan h e
    → site_at plan x.number ≡ Some x → state_at plan h x ≡ tdi.Error
    → slice_get (unit_ended plan h e port unit) number ≡ Some packet → packet.prefix.t ≡ true
    → slice_get (stores plan h e (Accepted port unit effects) x bar) number ≡ Some (Some write) → ⊥
none_trusted plan h e port unit effects x bar number write packet is known error at trusted stands =
    by_pair plan h e port unit effects x bar number write is known error
    (λ p there plain. absurd (true≢false (sym trusted
    ∙ ap (λ (q : Packet). q.prefix.t) (some_is packet p (sym at ∙ there)) ∙ plain))) stands
