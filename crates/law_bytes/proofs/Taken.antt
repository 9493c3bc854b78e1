-- What is known of a packet with T whose write is stored in the memory of an interface: it is a memory write, and the
-- interface is in RUN and bound to the stream that it came on, with a floor up to its draw.
use Rattle.law_sealing.proofs.Terms.{◌≡◌, ℕ, ◌≤◌, ◌==◌, ◌&&◌, zero, suc, Bool, true, false, List, [], ◌∷◌, length}
use Rattle.law_sealing.proofs.Terms.{slice_get, take, drop, Option, Some, None, Result, Ok, Err, refl, ap, sym, subst}
use Rattle.law_sealing.proofs.Terms.{◌∙◌, arith, nat_tests, if◌then◌else◌, cases_Bool, eqb-true, inl, inr, Plan}
use Rattle.law_sealing.proofs.Terms.{History, Event, Accepted, UnitName, Effect, Packet, PortName, is_sync_packet}
use Rattle.law_sealing.proofs.Terms.{same_port, is_same_port, nat_lt}
unfoldable use Rattle.law_sealing.proofs.Terms.{due}
use Rattle.std.proofs.lemmas.Bool.{and_parts}
use Rattle.std.specs.Option.{option_map}
use Rattle.ide_types.specs.Ports.{device_port}
use Rattle.tlp_layout.specs.declared.head.HeadView.{HeadView}
use Rattle.tlp_layout.specs.declared.fault.TlpFault.{TlpFault}
use Rattle.tlp_layout.specs.Reading.{read_head_of}
use Rattle.interface_state.specs.Machine.{all_bindings}
use Rattle.interface_state.specs.Bindings.{floor_on}
use Rattle.trusted_memory.specs.declared.span.Span.{Span}
use Rattle.trusted_memory.specs.Spans.{write_span, crosses}
use Rattle.trusted_memory.specs.Writes.{Write}
use Rattle.guarded_memory.specs.declared.status.InterfaceStatus.{InterfaceStatus}
use Rattle.guarded_memory.specs.declared.claims.Claim.{Claim}
use Rattle.guarded_memory.specs.Statuses.{is_in_run}
use Rattle.guarded_memory.specs.Claims.{claim_of}
use Rattle.guarded_memory.specs.Causes.{floor_cause, mmio_cause, cause_effect, claim_effect, mmio_effect, is_stored}
use Rattle.guarded_memory.proofs.Claimed.{claimed}
use Rattle.spec_interfaces.specs.Sites.{Site, site_at}
use Rattle.spec_interfaces.specs.Devices.{runs_at, interface_at}
use Rattle.spec_interfaces.specs.Floors.{place_of, history_statuses, device_status, device_floor}
use Rattle.spec_interfaces.proofs.Floors.{standing_placed}
use Rattle.spec_links.specs.Ports.{at_switch, port_of}
use Rattle.spec_links.specs.Admission.{switch_effect, effects_under_policy}
use Rattle.spec_links.specs.Memory.{Policy, policy_at, device_effect, effect_by, unit_ended, plain_of}
use Rattle.law_mmio.proofs.OnLinks.{no_switch}
use Rattle.law_mmio.proofs.Units.{stored_as_write}
use Rattle.law_verdicts.specs.{claimed_write, if_claims, if_stored, unit_stored_writes, stores, write_read}
use Rattle.law_verdicts.proofs.{effect_at, effects_there, of_effect, run_state, some_is}
use Rattle.event_verdicts.specs.declared.verdict.BlockCause.{BlockCause}
use Rattle.event_verdicts.specs.declared.verdict.BlockCause.TheVariants as cause
use Rattle.event_verdicts.specs.declared.verdict.Effect.TheVariants as effect

-- ---- packet n of a unit

record IsListed (xs : List InterfaceStatus) (place bar : ℕ) (es : List Effect) (n : ℕ) (p : Packet) (w : Write) : Type 0
  where
    effect_is : slice_get es n ≡ Some effect.Stored
    payload : List ℕ
    claims : claimed_write xs place bar (write_read payload (read_head_of p.head)) ≡ Some w

listed_at : (xs : List InterfaceStatus) (place bar : ℕ) (plain : List ℕ) (es : List Effect) (ps : List Packet) (n : ℕ)
    (p : Packet) (w : Write) → slice_get (unit_stored_writes xs place bar plain es ps) n ≡ Some (Some w)
    → slice_get ps n ≡ Some p → IsListed xs place bar es n p w
listed_at xs place bar plain [] ps n p w is at = absurd cc
listed_at xs place bar plain (e ∷ es) [] n p w is at = absurd cc
listed_at xs place bar plain (e ∷ es) (q ∷ ps) zero p w is at =
    let payload = take (length q.body) plain in
    let o = claimed_write xs place bar (write_read payload (read_head_of q.head)) in
    let both = of_effect e o w (some_is (if_stored e o) (Some w) is) in
    record {
      effect_is = ap (λ (z : Effect). Some z) both.0;
      payload = payload;
      claims = subst (λ (z : Packet). claimed_write xs place bar (write_read payload (read_head_of z.head)) ≡ Some w)
          (some_is q p at) both.1;
    }
listed_at xs place bar plain (e ∷ es) (q ∷ ps) (suc n) p w is at =
    let later = listed_at xs place bar (drop (length q.body) plain) es ps n p w is at in
    record { effect_is = later.effect_is; payload = later.payload; claims = later.claims }

-- ---- why it is stored

record IsFloor (o : Option ℕ) (draw : ℕ) : Type 0 where
  floor : ℕ
  is : o ≡ Some floor
  from : floor ≤ draw

from_floor : (o : Option ℕ) (draw : ℕ) → floor_cause o draw ≡ None → IsFloor o draw
from_floor None draw is = absurd cc
from_floor (Some floor) draw is = record { floor = floor; is = refl; from = by (nat_lt draw floor) refl is }
  where
    by : (b : Bool) → nat_lt draw floor ≡ b → (if b then Some cause.Stale else None) ≡ None → floor ≤ draw
    by true less none = absurd cc
    by false less none = grind (arith, nat_tests, less)

record InRunOn (x : InterfaceStatus) (stream draw : ℕ) : Type 0 where
  runs : is_in_run x.state ≡ true
  on : IsFloor (floor_on stream x.bound) draw

no_cause : (x : InterfaceStatus) (c : Claim) (s : Span) (stream draw : ℕ) → c.status ≡ x
    → mmio_cause c.status c.range s true stream draw ≡ None → InRunOn x stream draw
no_cause x c s stream draw same is =
    subst (λ (y : InterfaceStatus). InRunOn y stream draw) same (by (crosses s) (is_in_run c.status.state) refl is)
  where
    by : (a b : Bool) → is_in_run c.status.state ≡ b
        → (if a then Some cause.Crosses else if b then floor_cause (floor_on stream c.status.bound) draw
        else Some cause.NotRunning) ≡ None → InRunOn c.status stream draw
    by true b runs none = absurd cc
    by false false runs none = absurd cc
    by false true runs none = record { runs = runs; on = from_floor (floor_on stream c.status.bound) draw none }

no_effect : (o : Option BlockCause) → cause_effect o ≡ effect.Stored → o ≡ None
no_effect None is = refl
no_effect (Some c) is = absurd cc

at_place : (place bar : ℕ) (w to : Write) (c : Claim) → if_claims place bar w (Some c) ≡ Some to → c.interface ≡ place
at_place place bar w to c is = elim (cases_Bool ((c.interface == place) && (c.bar == bar))) [
  | inl there ↦ eqb-true c.interface place (and_parts (c.interface == place) (c.bar == bar) there).0
  | inr other ↦ absurd (let none = rw other at is in cc)
]

one_standing : (xs : List InterfaceStatus) (place : ℕ) (x : InterfaceStatus) (c : Claim) → c.interface ≡ place
    → slice_get xs c.interface ≡ Some c.status → slice_get xs place ≡ Some x → c.status ≡ x
one_standing xs place x c same at there = some_is c.status x (sym at ∙ (ap (λ (k : ℕ). slice_get xs k) same ∙ there))

-- a packet with T that is stored as a write of the interface at a place, which stands so
record StoredBy (x : InterfaceStatus) (stream draw : ℕ) (p : Packet) : Type 0 where
  head : HeadView
  reads : read_head_of p.head ≡ Ok head
  span : Span
  writes : write_span head ≡ Some span
  in_run : InRunOn x stream draw

claim_stored : (xs : List InterfaceStatus) (place bar stream draw : ℕ) (s : Span) (w to : Write) (x : InterfaceStatus)
    → slice_get xs place ≡ Some x → (o : Option Claim) → claim_of xs s ≡ o
    → claim_effect o s true stream draw ≡ effect.Stored → if_claims place bar w o ≡ Some to → InRunOn x stream draw
claim_stored xs place bar stream draw s w to x at None claim stored is = absurd cc
claim_stored xs place bar stream draw s w to x at (Some c) claim stored is =
    no_cause x c s stream draw
    (one_standing xs place x c (at_place place bar w to c is) (claimed xs s c claim).interface at)
    (no_effect (mmio_cause c.status c.range s true stream draw) stored)

head_stored : (xs : List InterfaceStatus) (place bar stream draw : ℕ) (payload : List ℕ) (to : Write)
    (x : InterfaceStatus)
    (p : Packet) (head : HeadView) → read_head_of p.head ≡ Ok head → slice_get xs place ≡ Some x
    → (o : Option Span) → write_span head ≡ o → mmio_effect xs true stream draw o ≡ effect.Stored
    → claimed_write xs place bar (option_map (λ s. record { span = s; payload = payload }) o) ≡ Some to
    → StoredBy x stream draw p
head_stored xs place bar stream draw payload to x p head reads at None writes stored is = absurd cc
head_stored xs place bar stream draw payload to x p head reads at (Some s) writes stored is = record {
  head = head;
  reads = reads;
  span = s;
  writes = writes;
  in_run = claim_stored xs place bar stream draw s (record { span = s; payload = payload }) to x at (claim_of xs s) refl
      stored is;
}

stored_only : (e : Effect) → is_stored e ≡ true → e ≡ effect.Stored
stored_only e is = grind arith

read_stored : (xs : List InterfaceStatus) (place bar k : ℕ) (unit : UnitName) (payload : List ℕ) (to : Write)
    (x : InterfaceStatus) (p : Packet) → p.prefix.t ≡ true → slice_get xs place ≡ Some x
    → (r : Result HeadView TlpFault) → read_head_of p.head ≡ r → device_effect xs k unit p r ≡ effect.Stored
    → claimed_write xs place bar (write_read payload r) ≡ Some to → StoredBy x unit.stream unit.draw p
read_stored xs place bar k unit payload to x p trusted at (Err f) reads stored is = absurd cc
read_stored xs place bar k unit payload to x p trusted at (Ok head) reads stored is =
    let as_write = stored_only (mmio_effect xs p.prefix.t unit.stream unit.draw (write_span head))
    (sym (stored_as_write xs p.prefix.t unit.stream unit.draw k head) ∙ ap is_stored stored) in
    head_stored xs place bar unit.stream unit.draw payload to x p head reads at (write_span head) refl
    (subst (λ (t : Bool). mmio_effect xs t unit.stream unit.draw (write_span head) ≡ effect.Stored) trusted as_write) is

-- ---- at the device's port

at_device : (plan : Plan) (policy : Policy) (k link : ℕ) (unit : UnitName) (p : Packet)
    → at_switch plan (device_port link) ≡ false → effect_by plan policy k (device_port link) unit p ≡ effect.Stored
    → device_effect (policy.statuses link) k unit p (read_head_of p.head) ≡ effect.Stored
at_device plan policy k link unit p off is = by (is_sync_packet p) (at_switch plan (device_port link)) off is
  where
    by : (a c : Bool) → c ≡ false → (if a then effect.Sync else if c then switch_effect
        else device_effect (policy.statuses link) k unit p (read_head_of p.head)) ≡ effect.Stored
        → device_effect (policy.statuses link) k unit p (read_head_of p.head) ≡ effect.Stored
    by true c off is = absurd cc
    by false true off is = absurd cc
    by false false off is = is

pub record IsTaken (plan : Plan) (h : History) (x : Site) (end : PortName) (unit : UnitName) (p : Packet) : Type 0
  where
    pub at_port : port_of plan end ≡ device_port x.link
    pub head : HeadView
    pub reads : read_head_of p.head ≡ Ok head
    pub span : Span
    pub writes : write_span head ≡ Some span
    pub runs : runs_at plan h x ≡ true
    pub floor : ℕ
    pub bound : floor_on unit.stream (all_bindings (device_floor plan h x) (interface_at plan h x)) ≡ Some floor
    pub from_floor : floor ≤ unit.draw

taken_there : (plan : Plan) (h : History) (e : Event) (end : PortName) (unit : UnitName) (effects : List Effect)
    (x : Site) (bar n : ℕ) (w : Write) (p : Packet) → Accepted end unit effects ≡ due plan h e
    → site_at plan x.number ≡ Some x → port_of plan end ≡ device_port x.link
    → slice_get (unit_stored_writes (history_statuses plan h x.link) (place_of plan x) bar
    (plain_of plan end unit (unit_ended plan h e end unit)) effects (unit_ended plan h e end unit)) n ≡ Some (Some w)
    → slice_get (unit_ended plan h e end unit) n ≡ Some p → p.prefix.t ≡ true → IsTaken plan h x end unit p
taken_there plan h e end unit effects x bar n w p is known at stored stands trusted =
    let ps = unit_ended plan h e end unit in
    let xs = history_statuses plan h x.link in
    let listed = listed_at xs (place_of plan x) bar (plain_of plan end unit ps) effects ps n p w stored stands in
    let are = subst (λ (q : PortName). effects ≡ effects_under_policy plan (policy_at plan h) q unit ps) at
    (effects_there plan h e end unit effects is) in
    let policy = policy_at plan h in
    let one = effect_at plan policy (policy.waiting (device_port x.link)) (device_port x.link) unit ps n p effect.Stored
    (ap (λ (es : List Effect). slice_get es n) (sym are) ∙ listed.effect_is) stands in
    let by = read_stored xs (place_of plan x) bar one.0 unit listed.payload w (device_status plan h x) p trusted
    (standing_placed plan h x.number x known) (read_head_of p.head) refl
    (at_device plan policy one.0 x.link unit p (no_switch plan x known) one.1) listed.claims in
    record {
      at_port = at;
      head = by.head;
      reads = by.reads;
      span = by.span;
      writes = by.writes;
      runs = run_state (interface_at plan h x).state by.in_run.runs;
      floor = by.in_run.on.floor;
      bound = by.in_run.on.is;
      from_floor = by.in_run.on.from;
    }

pub is_taken : (plan : Plan) (h : History) (e : Event) (end : PortName) (unit : UnitName) (effects : List Effect)
    (x : Site) (bar n : ℕ) (w : Write) (p : Packet) → Accepted end unit effects ≡ due plan h e
    → site_at plan x.number ≡ Some x → slice_get (stores plan h e (Accepted end unit effects) x bar) n ≡ Some (Some w)
    → slice_get (unit_ended plan h e end unit) n ≡ Some p → p.prefix.t ≡ true → IsTaken plan h x end unit p
is_taken plan h e end unit effects x bar n w p is known stored stands trusted =
    elim (cases_Bool (is_same_port (port_of plan end) (device_port x.link))) [
      | inl same ↦
          taken_there plan h e end unit effects x bar n w p is known
          (same_port (port_of plan end) (device_port x.link) same) (rw same at stored) stands trusted
      | inr other ↦ absurd (let none = rw other at stored in cc)
    ]
