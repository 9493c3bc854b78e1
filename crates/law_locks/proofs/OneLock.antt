-- What is admitted under one draw is admitted under one lock.
use Rattle.std.proofs.Common.{◌≡◌, ◌⊎◌, ℕ, ◌≤◌, ◌==◌, ◌&&◌, not, Bool, true, false, List, [], ◌∷◌, ◌++◌}
use Rattle.std.proofs.Common.{slice_get, Option, Some, None, Result, Ok, Err, refl, ap, sym, subst, ◌∙◌, inl, inr}
use Rattle.std.proofs.Common.{arith, append_assoc}
use Rattle.std.proofs.lemmas.Bool.Decides.{nat_tests}
use Rattle.std.specs.Prelude.{if◌then◌else◌, is_some}
use Rattle.spec_links.proofs.Terms.{Plan, History, Event, Accepted, UnitName, Effect, Packet, PortName, CauseLaw}
use Rattle.spec_links.proofs.Terms.{received_in}
use Rattle.spec_links.specs.Terms.{is_sync_packet}
use Rattle.std.proofs.lemmas.Bool.{true≢false}
use Rattle.std.specs.Option.{option_and_then, option_or}
use Rattle.ide_types.specs.Sub.{sent_direction}
use Rattle.ide_types.specs.declared.binding.Binding.{Binding}
use Rattle.ide_types.specs.declared.plan.Region.{Region}
use Rattle.tlp_layout.specs.declared.head.HeadView.{HeadView}
use Rattle.tlp_layout.specs.declared.fault.TlpFault.{TlpFault}
use Rattle.tlp_layout.specs.Reading.{read_head_of}
use Rattle.trusted_memory.specs.declared.grant.Grant.{Grant}
use Rattle.trusted_memory.specs.declared.span.Span.{Span}
use Rattle.trusted_memory.specs.Spans.{write_span}
use Rattle.trusted_memory.specs.Causes.{grant_cause, place_cause, block_effect, write_effect}
use Rattle.trusted_memory.specs.Admitted.{is_on_bound}
use Rattle.trusted_memory.specs.declared.read.MemReadView.{MemReadView}
use Rattle.trusted_memory.specs.Requests.{memory_read}
use Rattle.trusted_memory.specs.Waiting.{full_cause, read_effect, effect_by_read, request_effect}
use Rattle.spec_keys.specs.Keys.{Keyed, On, on_in}
use Rattle.spec_keys.specs.Operations.{Begun}
use Rattle.spec_keys.specs.History.{begun_of_draw, manager}
use Rattle.spec_keys.proofs.Owners.{owner}
use Rattle.event_verdicts.specs.declared.verdict.BlockCause.{BlockCause}
use Rattle.event_verdicts.specs.declared.verdict.Effect.TheVariants as effect
use Rattle.spec_interfaces.specs.Terms.{View, Running}
use Rattle.spec_interfaces.specs.Sites.{Site, site_at, site_of_requester}
use Rattle.spec_interfaces.specs.Devices.{locks_accepted}
use Rattle.spec_interfaces.specs.Views.{view_at, floor_at, grant_at, granted_to, bound_if}
use Rattle.spec_interfaces.specs.Cause.{owner_id}
use Rattle.spec_interfaces.proofs.Views.{views_hold}
use Rattle.spec_links.specs.Plan.{key_plan}
use Rattle.spec_links.specs.Ports.{at_switch, is_host_port, port_of}
use Rattle.spec_links.specs.Admission.{switch_effect}
use Rattle.spec_links.specs.Memory.{policy_at, unit_grant, requester_bound, host_effect, device_effect}
use Rattle.spec_links.specs.Memory.{effect_by, unit_ended}
use Rattle.law_key_facts.proofs.Given.{key_cause, accepted_on}
use Rattle.law_key_facts.proofs.SealedKeys.{on_is_owned}
use Rattle.law_memory.proofs.Causes.{interface_cause}
use Rattle.law_memory.proofs.Found.{cause_at, found_by_number}
use Rattle.law_mmio.proofs.SameWrites.{effect_there}
use Rattle.law_locks.specs.Runs.{is_admitted_effect, AdmittedAt, OneLockPerKey}
use Rattle.law_locks.proofs.Runs.{one_lock}

-- ---- what is admitted is granted

cause_not : (o : Option BlockCause) (more : Option BlockCause) → (o ≡ None → ⊥)
    → is_admitted_effect (block_effect (option_or o more)) ≡ false
cause_not None more some = absurd (some refl)
cause_not (Some c) more some = refl

read_not : (o : Option BlockCause) (place full : Option BlockCause) → (o ≡ None → ⊥)
    → is_admitted_effect (read_effect (option_or (option_or o place) full)) ≡ false
read_not None place full some = absurd (some refl)
read_not (Some c) place full some = refl

grant_some : (o : Option Binding) (stream draw : ℕ) → is_on_bound stream draw o ≡ false
    → grant_cause o stream draw ≡ None → ⊥
grant_some None stream draw off is = absurd cc
grant_some (Some b) stream draw off is = true≢false (sym (grind (arith, nat_tests, is)) ∙ off)

write_not : (regions : List Region) (t : Bool) (g : Grant) (o : Option Span)
    → is_on_bound g.stream g.draw g.bound ≡ false → is_admitted_effect (write_effect regions t g o) ≡ false
write_not regions t g None off = refl
write_not regions false g (Some s) off = refl
write_not regions true g (Some s) off =
    cause_not (grant_cause g.bound g.stream g.draw) (place_cause regions s) (grant_some g.bound g.stream g.draw off)

request_not : (regions : List Region) (t : Bool) (g : Grant) (n : ℕ) (head : HeadView)
    → is_on_bound g.stream g.draw g.bound ≡ false → is_admitted_effect (request_effect regions t g n head) ≡ false
request_not regions t g n head off = by (memory_read head) t
  where
    by : (o : Option MemReadView) (b : Bool)
        → is_admitted_effect (effect_by_read regions b g n o (write_effect regions t g (write_span head))) ≡ false
    by None b = write_not regions t g (write_span head) off
    by (Some r) false = refl
    by (Some r) true = read_not (grant_cause g.bound g.stream g.draw) (place_cause regions r.span) (full_cause n)
        (grant_some g.bound g.stream g.draw off)

-- the packet's requester is granted its stream and draw
granted : (plan : Plan) (h : History) (n : ℕ) (port : PortName) (unit : UnitName) (p : Packet) (head : HeadView)
    → is_host_port plan port ≡ true → read_head_of p.head ≡ Ok head
    → is_admitted_effect (effect_by plan (policy_at plan h) n port unit p) ≡ true
    → is_on_bound unit.stream unit.draw (requester_bound (grant_at plan h) port head) ≡ true
granted plan h n port unit p head at_host reads is =
    by (is_sync_packet p) (at_switch plan port) (sent_direction port.side == 0) at_host
    (is_on_bound unit.stream unit.draw (requester_bound (grant_at plan h) port head)) refl (read_head_of p.head) reads
    is
  where
    by : (a c b : Bool) → (not c && b) ≡ true → (bound : Bool)
        → is_on_bound unit.stream unit.draw (requester_bound (grant_at plan h) port head) ≡ bound
        → (r : Result HeadView TlpFault) → r ≡ Ok head → is_admitted_effect
        (if a then effect.Sync else if c then switch_effect else if b then host_effect plan (grant_at plan h) n port
        unit p r else device_effect ((policy_at plan h).statuses port.line) n unit p r) ≡ true → bound ≡ true
    by a c b host true at r reads is = refl
    by true c b host false at r reads is = absurd (true≢false (sym is))
    by false true b host false at r reads is = absurd (true≢false (sym is))
    by false false false host false at r reads is = absurd (true≢false (sym host))
    by false false true host false at (Err f) reads is = absurd cc
    by false false true host false at (Ok k) reads is =
        let same : k ≡ head = cc (reads) in
        absurd (true≢false (sym is ∙ request_not plan.memory p.prefix.t (unit_grant (grant_at plan h) port unit k) n k
        (subst (λ (z : HeadView). is_on_bound unit.stream unit.draw (requester_bound (grant_at plan h) port z) ≡ false)
        (sym same) at)))

-- so the view of the interface that owns it is Running, with a floor up to the draw
pub record Runs (h : History) (x : Site) (draw : ℕ) : Type 0 where
  pub view : view_at h x ≡ Running
  pub floor : floor_at h x ≤ draw

pub on_bound : (stream draw : ℕ) (view : View) (own floor : ℕ)
    → is_on_bound stream draw (bound_if view own floor) ≡ true → (view ≡ Running) × (floor ≤ draw)
on_bound stream draw Running own floor is = (refl, grind (arith, nat_tests, is))
on_bound stream draw view own floor is = absurd cc

pub owner_runs : (plan : Plan) (h : History) (link stream draw : ℕ) (x : Site) (o : Option ℕ)
    → option_and_then (site_of_requester plan link) o ≡ Some x
    → is_on_bound stream draw (option_and_then (grant_at plan h link) o) ≡ true → Runs h x draw
owner_runs plan h link stream draw x None owns is = absurd cc
owner_runs plan h link stream draw x (Some rid) owns is =
    let there : is_on_bound stream draw (granted_to h (Some x)) ≡ true =
    subst (λ (o : Option Site). is_on_bound stream draw (granted_to h o) ≡ true) owns is in
    let both = on_bound stream draw (view_at h x) x.plan.stream (floor_at h x) there in
    record { view = both.0; floor = both.1 }

pub number_owned : (plan : Plan) (link : ℕ) (o : Option ℕ) (x : Site)
    → option_and_then (site_of_requester plan link) o ≡ Some x → site_at plan x.number ≡ Some x
number_owned plan link None x owns = absurd cc
number_owned plan link (Some rid) x owns =
    found_by_number plan (λ y. (y.link == link) && (y.plan.requester == rid)) x owns

-- ---- packet n of a unit

-- what is admitted at a pair is granted its stream and draw
bound_there : (plan : Plan) (h : History) → CauseLaw plan h → (since older : History) (e : Event) (port : PortName)
    (unit : UnitName) (effects : List Effect) → since ++ (e, Accepted port unit effects) ∷ older ≡ h
    → is_host_port plan (port_of plan port) ≡ true → (n : ℕ) (p : Packet) (effect : Effect)
    → slice_get (unit_ended plan older e port unit) n ≡ Some p
    → slice_get effects n ≡ Some effect → is_admitted_effect effect ≡ true → (head : HeadView)
    → read_head_of p.head ≡ Ok head
    → is_on_bound unit.stream unit.draw (requester_bound (grant_at plan older) (port_of plan port) head) ≡ true
bound_there plan h cause since older e port unit effects came at_host n p effect stands has_effect admitted head reads =
    let here = cause_at plan since ((e, Accepted port unit effects) ∷ older) h came cause in
    let there = effect_there plan older e port unit effects here.0 n p effect stands has_effect in
    granted plan older there.0 (port_of plan port) unit p head at_host reads
    (ap is_admitted_effect there.1 ∙ admitted)

-- at its pair
pub runs_there : (plan : Plan) (h : History) (x : Site) (a : AdmittedAt plan h x) → CauseLaw plan h
    → Runs a.older x a.unit.draw
runs_there plan h x a cause =
    owner_runs plan a.older (port_of plan a.port).line a.unit.stream a.unit.draw x (owner_id a.head) a.owns
    (bound_there plan h cause a.since a.older a.event a.port a.unit a.effects a.came a.at_host a.number a.packet
    a.effect a.stands
    a.has_effect a.admitted a.head a.reads)

-- an interface that is granted something is there
site_there : (plan : Plan) (h : History) (link rid stream draw : ℕ) (o : Option Site) → site_of_requester plan link rid
    ≡ o → is_on_bound stream draw (granted_to h o) ≡ true → is_some (site_of_requester plan link rid) ≡ true
site_there plan h link rid stream draw None at is = absurd cc
site_there plan h link rid stream draw (Some x) at is = ap is_some at

pub owner_there : (plan : Plan) (h : History) → CauseLaw plan h → (since older : History) (e : Event) (port : PortName)
    (unit : UnitName) (effects : List Effect) → since ++ (e, Accepted port unit effects) ∷ older ≡ h
    → is_host_port plan (port_of plan port) ≡ true → (n : ℕ) (p : Packet) (effect : Effect)
    → slice_get (unit_ended plan older e port unit) n ≡ Some p
    → slice_get effects n ≡ Some effect → is_admitted_effect effect ≡ true → (head : HeadView)
    → read_head_of p.head ≡ Ok head → (rid : ℕ) → owner_id head ≡ Some rid
    → is_some (site_of_requester plan (port_of plan port).line rid) ≡ true
owner_there plan h cause since older e port unit effects came at_host n p effect stands has_effect admitted head reads
    rid owns =
    let there = bound_there plan h cause since older e port unit effects came at_host n p effect stands has_effect
    admitted head reads in
    let link = (port_of plan port).line in
    site_there plan older link rid unit.stream unit.draw (site_of_requester plan link rid) refl
    (subst (λ (o : Option ℕ). is_on_bound unit.stream unit.draw (option_and_then (grant_at plan older link) o) ≡ true)
    owns there)

on_means : (k : Keyed) (j : ℕ) → on_in k ≡ Some j → k ≡ On j
on_means k j is = grind arith

pub made_there : (plan : Plan) (h : History) (x : Site) (a : AdmittedAt plan h x) → CauseLaw plan h
    → (b : Begun) × (begun_of_draw (manager a.older).begun a.unit.draw ≡ Some b)
made_there plan h x a cause =
    let here = cause_at plan a.since ((a.event, Accepted a.port a.unit a.effects) ∷ a.older) h a.came cause in
    let on = accepted_on plan a.older a.event a.port a.unit a.effects here.0 in
    let s = received_in a.port a.unit in (
      owner s.line s.stream on.0,
      on_is_owned a.older a.port s on.0 a.unit.draw (on_means _ a.unit.draw on.1),
    )

-- ---- the one before the other

module _ (plan : Plan) (h : History) (cause : CauseLaw plan h) (x : Site) where
  -- from an earlier pair to a later one
  earlier : (a b : AdmittedAt plan h x) → a.unit.draw ≡ b.unit.draw → (since : History) → since ++ a.older ≡ b.older
      → locks_accepted plan b.older x ≡ locks_accepted plan a.older x
  earlier a b same since is =
      let first = runs_there plan h x a cause in
      let second = runs_there plan h x b cause in
      let made = made_there plan h x a cause in
      let at = number_owned plan (port_of plan a.port).line (owner_id a.head) x a.owns in
      let before = (cause_at plan a.since ((a.event, Accepted a.port a.unit a.effects) ∷ a.older) h a.came cause).1 in
      let here = (cause_at plan b.since ((b.event, Accepted b.port b.unit b.effects) ∷ b.older) h b.came cause).1 in
      let causes = interface_cause plan (since ++ a.older) (subst (CauseLaw plan) (sym is) here) in
      let known = interface_cause plan a.older before in
      let runs = (views_hold plan (key_plan plan) a.older (key_cause plan a.older before) known x at).running
      first.view in
      let view : view_at (since ++ a.older) x ≡ Running = ap (λ (g : History). view_at g x) is ∙ second.view in
      let floor : floor_at (since ++ a.older) x ≤ a.unit.draw =
      subst (λ (g : History). floor_at g x ≤ a.unit.draw) (sym is)
      (subst (λ (n : ℕ). floor_at b.older x ≤ n) (sym same) second.floor) in
      ap (λ (g : History). locks_accepted plan g x) (sym is)
      ∙ one_lock plan a.unit.draw made.0 since a.older x at causes made.1 runs.was_started first.view view floor

-- of two fronts of one list the one is a front of the other
pub fronts : {A : Type 0} (xs ys g k : List A) → xs ++ g ≡ ys ++ k
    → ((s : List A) × (s ++ k ≡ g)) ⊎ ((s : List A) × (s ++ g ≡ k))
fronts [] ys g k is = inl (ys, sym is)
fronts (x ∷ xs) [] g k is = inr (x ∷ xs, is)
fronts (x ∷ xs) (y ∷ ys) g k is = fronts xs ys g k (cc (is))

pub one_lock_per_key : (plan : Plan) (h : History) → CauseLaw plan h → OneLockPerKey plan h
one_lock_per_key plan h cause x a b same =
    elim (fronts (a.since ++ (a.event, Accepted a.port a.unit a.effects) ∷ [])
    (b.since ++ (b.event, Accepted b.port b.unit b.effects) ∷ []) a.older b.older
    (append_assoc a.since _ a.older ∙ (a.came ∙ (sym b.came ∙ sym (append_assoc b.since _ b.older))))) [
      | inl s ↦ earlier plan h cause x b a (sym same) s.0 s.1
      | inr s ↦ sym (earlier plan h cause x a b same s.0 s.1)
    ]
