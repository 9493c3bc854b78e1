-- The effect of each packet that comes to a device's port, by the reads that wait ahead of it.
use Rattle.spec_links.proofs.Terms.{◌≡◌, ℕ, ◌+◌, zero, suc, Bool, true, false, List, [], ◌∷◌, length, filter}
use Rattle.spec_links.proofs.Terms.{slice_get, take, Option, Some, None, Result, Ok, Err, refl, ap, sym, subst, ◌∙◌}
use Rattle.spec_links.proofs.Terms.{arith, if◌then◌else◌, Plan, History, Event, Verdict, Accepted, UnitName, Effect}
use Rattle.spec_links.proofs.Terms.{Packet, PortName, CauseLaw, effects_of, waiting_reads, has_link}
unfoldable use Rattle.spec_links.proofs.Terms.{due}
use Rattle.spec_links.proofs.Causes.{accepted_by, unit_that_ends}
use Rattle.ide_types.specs.Ports.{device_port}
use Rattle.tlp_layout.specs.declared.head.HeadView.{HeadView}
use Rattle.trusted_memory.specs.Waiting.{read_effect}
use Rattle.guarded_memory.specs.Causes.{mmio_effect, cause_effect, claim_effect, mmio_cause}
use Rattle.guarded_memory.specs.DeviceReads.{claimed_read_effect, effect_by_device_read, device_read_cause}
use Rattle.spec_links.specs.Ports.{port_of, at_switch}
use Rattle.spec_links.specs.Terms.{Claim, claim_of, InterfaceStatus, Span, write_span, MemReadView, memory_read}
use Rattle.spec_links.specs.Terms.{read_head_of, TlpFault, is_sync_packet, history_statuses}
use Rattle.spec_links.specs.Memory.{Policy, policy_at, effect_by, effects_each, waiting_then, device_effect}
use Rattle.spec_links.specs.Memory.{unit_ended}
use Rattle.event_verdicts.specs.declared.verdict.BlockCause.{BlockCause}
use Rattle.event_verdicts.specs.declared.verdict.Effect.TheVariants as effect
use Rattle.law_device_reads.specs.Exact.{read_effect_there, queued_unless, is_queued}
use Rattle.law_device_reads.specs.Exact.{ahead_of_packet, HasReadEffects, QueuesReads, DeviceEffectLaw}
use Rattle.law_device_reads.proofs.Tables.{arrivals_are}

-- ---- packet n of a unit

one_waits : (e : Effect) (n k : ℕ) → waiting_then e n + k ≡ n + (if is_queued e then 1 + k else k)
one_waits effect.Queued n k = omega arith
one_waits effect.Sync n k = refl
one_waits effect.Delivered n k = refl
one_waits effect.Applied n k = refl
one_waits effect.Stored n k = refl
one_waits effect.Waiting n k = refl
one_waits (effect.Blocked c) n k = refl

length_if : (b : Bool) (e : Effect) (es : List Effect) → (if b then 1 + length es else length es)
    ≡ length (if b then e ∷ es else es)
length_if true e es = omega arith
length_if false e es = refl

-- as many wait ahead of it as waited ahead of the unit, and were queued of it
pub effect_at : (plan : Plan) (policy : Policy) (w : ℕ) (port : PortName) (unit : UnitName) (ps : List Packet) (n : ℕ)
    (p : Packet) → slice_get ps n ≡ Some p → slice_get (effects_each plan policy w port unit ps) n
    ≡ Some (effect_by plan policy
    (w + length (filter is_queued (take n (effects_each plan policy w port unit ps)))) port unit p)
effect_at plan policy w port unit [] n p at = absurd cc
effect_at plan policy w port unit (q ∷ ps) zero p at =
    let same : q ≡ p = cc (at) in
    let none : w ≡ w + 0 = omega arith in
    (λ i. Some (effect_by plan policy (none i) port unit (same i)))
effect_at plan policy w port unit (q ∷ ps) (suc n) p at =
    let e = effect_by plan policy w port unit q in
    let later = effects_each plan policy (waiting_then e w) port unit ps in
    let k = length (filter is_queued (take n later)) in
    let more : waiting_then e w + k ≡ w + length (filter is_queued (take (suc n) (e ∷ later))) =
    one_waits e w k ∙ ap (λ (m : ℕ). w + m) (length_if (is_queued e) e (filter is_queued (take n later))) in
    effect_at plan policy (waiting_then e w) port unit ps n p at
    ∙ ap (λ (m : ℕ). Some (effect_by plan policy m port unit p)) more

effects_are : (plan : Plan) (h : History) (e : Event) (end : PortName) (unit : UnitName) (effects : List Effect)
    → Accepted end unit effects ≡ due plan h e → effects ≡ effects_of plan h end unit (unit_ended plan h e end unit)
effects_are plan h e end unit effects is =
    let by = accepted_by plan h e end unit effects is in
    by.effects_are
    ∙ ap (λ (ps : List Packet). effects_of plan h end unit ps)
    (sym (unit_that_ends plan h e end unit by.packet by.came by.passed))

-- so of a unit that a verdict ends at a port
pub effect_there : (plan : Plan) (h : History) (e : Event) (end : PortName) (unit : UnitName) (effects : List Effect)
    → Accepted end unit effects ≡ due plan h e → (port : PortName) → port_of plan end ≡ port → (n : ℕ) (p : Packet)
    → slice_get (unit_ended plan h e end unit) n ≡ Some p → slice_get effects n
    ≡ Some (effect_by plan (policy_at plan h)
    (length (waiting_reads plan h port) + length (filter is_queued (take n effects))) port unit p)
effect_there plan h e end unit effects is port at n p stands =
    let ps = unit_ended plan h e end unit in
    let same : effects
    ≡ effects_each plan (policy_at plan h) (length (waiting_reads plan h port)) port unit ps =
    effects_are plan h e end unit effects is
    ∙ ap (λ (q : PortName). effects_each plan (policy_at plan h) (length (waiting_reads plan h q)) q unit ps) at in
    subst (λ (es : List Effect). slice_get es n ≡ Some (effect_by plan (policy_at plan h)
    (length (waiting_reads plan h port) + length (filter is_queued (take n es))) port unit p)) (sym same)
    (effect_at plan (policy_at plan h) (length (waiting_reads plan h port)) port unit ps n p stands)

-- ---- at a device's port

off_switch : (plan : Plan) (link : ℕ) → has_link plan link ≡ true → at_switch plan (device_port link) ≡ false
off_switch plan link has = rw has refl

at_device : (plan : Plan) (policy : Policy) (k link : ℕ) (unit : UnitName) (p : Packet) → has_link plan link ≡ true
    → effect_by plan policy k (device_port link) unit p
    ≡ (if is_sync_packet p then effect.Sync else device_effect (policy.statuses link) k unit p (read_head_of p.head))
at_device plan policy k link unit p has = rw (off_switch plan link has) refl

queued_is : (o : Option BlockCause) → read_effect o ≡ queued_unless o
queued_is None = refl
queued_is (Some c) = refl

claimed_is : (o : Option Claim) (s : Span) (t : Bool) (stream draw k : ℕ)
    → claimed_read_effect o s t stream draw k ≡ read_effect_there o s t stream draw k
claimed_is None s t stream draw k = refl
claimed_is (Some c) s t stream draw k =
    let same = queued_is (device_read_cause c s t stream draw k)
    ∙ ap queued_unless (sym (arrivals_are c s t stream draw k)) in
    (λ i. if c.status.reads then same i else effect.Delivered)

of_read : (plan : Plan) (policy : Policy) (k link : ℕ) (unit : UnitName) (p : Packet) (head : HeadView)
    (read : MemReadView) → has_link plan link ≡ true → is_sync_packet p ≡ false → read_head_of p.head ≡ Ok head
    → memory_read head ≡ Some read → effect_by plan policy k (device_port link) unit p
    ≡ read_effect_there (claim_of (policy.statuses link) read.span) read.span p.prefix.t unit.stream unit.draw k
of_read plan policy k link unit p head read has carries reads is =
    at_device plan policy k link unit p has
    ∙ (rw (carries, reads, is) (claimed_is (claim_of (policy.statuses link) read.span) read.span p.prefix.t unit.stream
    unit.draw k))

accepted_effects : (plan : Plan) (h : History) (e : Event) (end : PortName) (unit : UnitName) (effects : List Effect)
    → Accepted end unit effects ≡ due plan h e → HasReadEffects plan h e (Accepted end unit effects)
accepted_effects plan h e end unit effects due_is link n p head read at has stands carries reads is =
    effect_there plan h e end unit effects due_is (device_port link) at n p stands
    ∙ ap Some (of_read plan (policy_at plan h) (ahead_of_packet plan h link effects n) link unit p head read has carries
    reads is)

has_effects : (plan : Plan) (h : History) (e : Event) (w : Verdict) → w ≡ due plan h e → HasReadEffects plan h e w
has_effects plan h e (Accepted end unit effects) is = accepted_effects plan h e end unit effects is
has_effects plan h e w is = tt

-- ---- what is queued there

cause_waits : (o : Option BlockCause) → cause_effect o ≡ effect.Queued → ⊥
cause_waits None is = absurd cc
cause_waits (Some c) is = absurd cc

claim_waits : (o : Option Claim) (s : Span) (t : Bool) (stream draw : ℕ)
    → claim_effect o s t stream draw ≡ effect.Queued → ⊥
claim_waits None s t stream draw is = absurd cc
claim_waits (Some c) s t stream draw is = cause_waits (mmio_cause c.status c.range s t stream draw) is

write_waits : (xs : List InterfaceStatus) (t : Bool) (stream draw : ℕ) (o : Option Span)
    → mmio_effect xs t stream draw o ≡ effect.Queued → ⊥
write_waits xs t stream draw None is = absurd cc
write_waits xs t stream draw (Some s) is = claim_waits (claim_of xs s) s t stream draw is

-- a memory read that is queued is claimed by an interface that the device answers reads of, and nothing blocks it
pub record QueuedThere (xs : List InterfaceStatus) (unit : UnitName) (p : Packet) (k : ℕ) : Type 0 where
  pub carries : is_sync_packet p ≡ false
  pub head : HeadView
  pub reads : read_head_of p.head ≡ Ok head
  pub read : MemReadView
  pub is_read : memory_read head ≡ Some read
  pub claim : Claim
  pub claimed : claim_of xs read.span ≡ Some claim
  pub unblocked : device_read_cause claim read.span p.prefix.t unit.stream unit.draw k ≡ None

unblocked_is : (o : Option BlockCause) → read_effect o ≡ effect.Queued → o ≡ None
unblocked_is None is = refl
unblocked_is (Some c) is = absurd cc

claim_queues : (xs : List InterfaceStatus) (unit : UnitName) (p : Packet) (k : ℕ) (head : HeadView) (r : MemReadView)
    → is_sync_packet p ≡ false → read_head_of p.head ≡ Ok head → memory_read head ≡ Some r → (o : Option Claim)
    → claim_of xs r.span ≡ o → claimed_read_effect o r.span p.prefix.t unit.stream unit.draw k ≡ effect.Queued
    → QueuedThere xs unit p k
claim_queues xs unit p k head r carries reads is None claimed queued = absurd cc
claim_queues xs unit p k head r carries reads is (Some c) claimed queued = by c.status.reads queued
  where
    cause : Option BlockCause
    cause = device_read_cause c r.span p.prefix.t unit.stream unit.draw k

    by : (b : Bool) → (if b then read_effect cause else effect.Delivered) ≡ effect.Queued → QueuedThere xs unit p k
    by false is = absurd cc
    by true queues = record {
      carries = carries;
      head = head;
      reads = reads;
      read = r;
      is_read = is;
      claim = c;
      claimed = claimed;
      unblocked = unblocked_is cause queues;
    }

queues_at : (xs : List InterfaceStatus) (unit : UnitName) (p : Packet) (k : ℕ)
    → (if is_sync_packet p then effect.Sync else device_effect xs k unit p (read_head_of p.head)) ≡ effect.Queued
    → QueuedThere xs unit p k
queues_at xs unit p k is = by (is_sync_packet p) refl (read_head_of p.head) refl is
  where
    by_read : is_sync_packet p ≡ false → (head : HeadView) → read_head_of p.head ≡ Ok head → (o : Option MemReadView)
        → memory_read head ≡ o
        → effect_by_device_read xs p.prefix.t unit.stream unit.draw k o
        (mmio_effect xs p.prefix.t unit.stream unit.draw (write_span head)) ≡ effect.Queued → QueuedThere xs unit p k
    by_read carries head reads None is queued =
        absurd (write_waits xs p.prefix.t unit.stream unit.draw (write_span head) queued)
    by_read carries head reads (Some r) is queued =
        claim_queues xs unit p k head r carries reads is (claim_of xs r.span) refl queued

    by : (b : Bool) → is_sync_packet p ≡ b → (r : Result HeadView TlpFault) → read_head_of p.head ≡ r
        → (if b then effect.Sync else device_effect xs k unit p r) ≡ effect.Queued → QueuedThere xs unit p k
    by true carries r reads is = absurd cc
    by false carries (Err f) reads is = absurd cc
    by false carries (Ok head) reads is = by_read carries head reads (memory_read head) refl is

pub queued_there : (plan : Plan) (h : History) (e : Event) (end : PortName) (unit : UnitName) (effects : List Effect)
    → Accepted end unit effects ≡ due plan h e → (link : ℕ) → port_of plan end ≡ device_port link
    → has_link plan link ≡ true → (n : ℕ) (p : Packet) → slice_get (unit_ended plan h e end unit) n ≡ Some p
    → slice_get effects n ≡ Some effect.Queued
    → QueuedThere (history_statuses plan h link) unit p (ahead_of_packet plan h link effects n)
queued_there plan h e end unit effects due_is link at has n p stands is =
    let k = ahead_of_packet plan h link effects n in
    let there = sym (effect_there plan h e end unit effects due_is (device_port link) at n p stands) ∙ is in
    queues_at (history_statuses plan h link) unit p k
    (sym (at_device plan (policy_at plan h) k link unit p has) ∙ some_is _ effect.Queued there)
  where
    some_is : (x y : Effect) → Some x ≡ Some y → x ≡ y
    some_is x y is = cc (is)

accepted_queues : (plan : Plan) (h : History) (e : Event) (end : PortName) (unit : UnitName) (effects : List Effect)
    → Accepted end unit effects ≡ due plan h e → QueuesReads plan h e (Accepted end unit effects)
accepted_queues plan h e end unit effects due_is link n p at has stands is =
    let q = queued_there plan h e end unit effects due_is link at has n p stands is in
    record { carries = q.carries; head = q.head; reads = q.reads; read = q.read; is_read = q.is_read }

queues_reads : (plan : Plan) (h : History) (e : Event) (w : Verdict) → w ≡ due plan h e → QueuesReads plan h e w
queues_reads plan h e (Accepted end unit effects) is = accepted_queues plan h e end unit effects is
queues_reads plan h e w is = tt

-- ---- the law

pub device_effect_law : (plan : Plan) (h : History) → CauseLaw plan h → DeviceEffectLaw plan h
device_effect_law plan [] cause = tt
device_effect_law plan ((e, w) ∷ h) cause =
    (has_effects plan h e w cause.0, queues_reads plan h e w cause.0, device_effect_law plan h cause.1)
