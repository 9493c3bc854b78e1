-- Exactly the admitted writes are applied, and memory shows what they left.
use Rattle.spec_links.specs.Ports.{at_switch, port_of}
use Rattle.spec_links.specs.Admission.{switch_effect}
use Rattle.law_sealing.proofs.Terms.{◌≡◌, ℕ, ◌+◌, ◌==◌, ◌&&◌, Bool, true, false, not, List, [], ◌∷◌}
use Rattle.law_sealing.proofs.Terms.{length, map, take, drop, slice_get, is_some, Option, Some, None, Result, Ok, Err}
use Rattle.law_sealing.proofs.Terms.{refl, ap, sym, ◌∙◌, arith, if◌then◌else◌, Plan, History, Event, Verdict, Accepted}
use Rattle.law_sealing.proofs.Terms.{UnitName, Effect, Packet, PortName, is_sync_packet, CauseLaw, accepted_by}
use Rattle.law_sealing.proofs.Terms.{unit_that_ends}
unfoldable use Rattle.law_sealing.proofs.Terms.{due}
use Rattle.std.specs.Option.{option_map}
use Rattle.tlp_layout.specs.declared.head.HeadView.{HeadView}
use Rattle.event_verdicts.specs.declared.verdict.Effect.TheVariants as effect
use Rattle.tlp_layout.specs.declared.fault.TlpFault.{TlpFault}
use Rattle.tlp_layout.specs.Reading.{read_head_of}
use Rattle.ide_types.specs.Sub.{sent_direction}
use Rattle.ide_types.specs.declared.plan.Region.{Region}
use Rattle.trusted_memory.specs.declared.grant.Grant.{Grant}
use Rattle.trusted_memory.specs.declared.span.Span.{Span}
use Rattle.trusted_memory.specs.Spans.{span_of, write_span}
use Rattle.trusted_memory.specs.Writes.{memory_write}
use Rattle.trusted_memory.specs.declared.read.MemReadView.{MemReadView}
use Rattle.trusted_memory.specs.Requests.{memory_read, read_with}
use Rattle.trusted_memory.specs.Waiting.{read_cause, read_effect, effect_by_read, request_effect}
use Rattle.guarded_memory.specs.declared.status.InterfaceStatus.{InterfaceStatus}
use Rattle.guarded_memory.specs.declared.claims.Claim.{Claim}
use Rattle.guarded_memory.specs.Claims.{claim_of}
use Rattle.guarded_memory.specs.Causes.{mmio_cause, cause_effect, claim_effect, mmio_effect}
use Rattle.guarded_memory.specs.DeviceReads.{device_read_cause, claimed_read_effect, effect_by_device_read}
use Rattle.tlp_layout.specs.declared.head.Lead.{Lead}
use Rattle.tlp_layout.specs.declared.head.Fields.{Fields}
use Rattle.event_verdicts.specs.declared.verdict.BlockCause.{BlockCause}
use Rattle.event_verdicts.specs.declared.verdict.Effect.TheVariants.{Delivered}
unfoldable use Rattle.trusted_memory.specs.Writes.{byte_last_written}
use Rattle.trusted_memory.specs.Regions.{in_one_region}
use Rattle.trusted_memory.specs.Causes.{is_applied, write_effect}
use Rattle.trusted_memory.specs.Admitted.{admitted_write}
use Rattle.trusted_memory.specs.Memory.{bytes_from}
use Rattle.trusted_memory.proofs.Admitted.{admitted_says}
use Rattle.spec_links.specs.Memory.{unit_grant, host_effect, device_effect, payload_write, write_if_admitted}
use Rattle.spec_links.specs.Memory.{admitted_each, unit_ended, plain_of, Policy, policy_at, waiting_then, effects_each}
use Rattle.spec_links.specs.Memory.{writes, shown_if, effect_by, effects_of}
unfoldable use Rattle.spec_interfaces.specs.Due.{interface_verdict_due as interface_due}
use Rattle.law_memory.specs.Origin.{ShowsWrites, AppliesAdmitted, MemoryLaw}
use Rattle.law_mmio.proofs.Numbers.{last_byte}
use Rattle.law_mmio.proofs.Shown.{bytes_at, length-bytes}
use Rattle.script_events.specs.declared.event.Event.TheVariants as event
use Rattle.script_events.specs.declared.event.InterfaceEvent.TheVariants as ie
use Rattle.event_verdicts.specs.declared.verdict.Verdict.TheVariants as v
use Rattle.ide_types.specs.declared.verdict.InterfaceVerdict.TheVariants as iv

-- ---- effects

span_says : (regions : List Region) (t : Bool) (g : Grant) (o : Option Span) (payload : List ℕ)
    → is_applied (write_effect regions t g o) ≡ is_some
    (admitted_write regions t g (option_map (λ s. record { span = s; payload = payload }) o))
span_says regions t g None payload = refl
span_says regions t g (Some s) payload = admitted_says regions t g (record { span = s; payload = payload })

-- a read's effect is another
read_says : (o : Option BlockCause) → is_applied (read_effect o) ≡ false
read_says None = refl
read_says (Some c) = refl

-- a TLP that is a read is no write
request_says : (regions : List Region) (t : Bool) (g : Grant) (n : ℕ) (head : HeadView) (payload : List ℕ)
    → is_applied (request_effect regions t g n head) ≡ is_some (admitted_write regions t g (memory_write head payload))
request_says regions t g n head payload =
    by head.has_payload head.lead head.fields (span_of head) t
  where
    as_read : (o : Option MemReadView) (t : Bool) → is_applied (effect_by_read regions t g n o Delivered) ≡ false
    as_read None t = refl
    as_read (Some r) false = refl
    as_read (Some r) true = read_says (read_cause regions r.span g n)

    by : (has : Bool) (lead : Lead) (fields : Fields) (o : Option Span) (t : Bool)
        → is_applied (effect_by_read regions t g n (if has then None else read_with lead fields o)
        (write_effect regions t g (if has then o else None)))
        ≡ is_some (admitted_write regions t g
        (option_map (λ s. record { span = s; payload = payload }) (if has then o else None)))
    by true lead fields o t = span_says regions t g o payload
    by false lead fields o t = as_read (read_with lead fields o) t

head_says : (plan : Plan) (policy : Policy) (n : ℕ) (port : PortName) (unit : UnitName) (p : Packet) (payload : List ℕ)
    (r : Result HeadView TlpFault) → is_applied (host_effect plan policy.grants n port unit p r)
    ≡ is_some (payload_write plan policy.grants port unit p.prefix.t payload r)
head_says plan policy n port unit p payload (Err f) = refl
head_says plan policy n port unit p payload (Ok head) = request_says plan.memory p.prefix.t
    (unit_grant policy.grants port unit head) n head payload

-- at a device's port none is applied
cause_says : (o : Option BlockCause) → is_applied (cause_effect o) ≡ false
cause_says None = refl
cause_says (Some c) = refl

claim_says : (o : Option Claim) (s : Span) (t : Bool) (stream draw : ℕ) → is_applied (claim_effect o s t stream draw)
    ≡ false
claim_says None s t stream draw = refl
claim_says (Some c) s t stream draw = cause_says (mmio_cause c.status c.range s t stream draw)

mmio_says : (xs : List InterfaceStatus) (t : Bool) (stream draw : ℕ) (o : Option Span)
    → is_applied (mmio_effect xs t stream draw o) ≡ false
mmio_says xs t stream draw None = refl
mmio_says xs t stream draw (Some s) = claim_says (claim_of xs s) s t stream draw

claimed_read_says : (o : Option Claim) (s : Span) (t : Bool) (stream draw n : ℕ)
    → is_applied (claimed_read_effect o s t stream draw n) ≡ false
claimed_read_says None s t stream draw n = refl
claimed_read_says (Some c) s t stream draw n = by c.status.reads
  where
    by : (b : Bool) → is_applied (if b then read_effect (device_read_cause c s t stream draw n) else Delivered) ≡ false
    by true = read_says (device_read_cause c s t stream draw n)
    by false = refl

device_says : (xs : List InterfaceStatus) (n : ℕ) (unit : UnitName) (p : Packet) (r : Result HeadView TlpFault)
    → is_applied (device_effect xs n unit p r) ≡ false
device_says xs n unit p (Err f) = refl
device_says xs n unit p (Ok head) = by (memory_read head)
  where
    by : (o : Option MemReadView) → is_applied (effect_by_device_read xs p.prefix.t unit.stream unit.draw n o
        (mmio_effect xs p.prefix.t unit.stream unit.draw (write_span head))) ≡ false
    by None = mmio_says xs p.prefix.t unit.stream unit.draw (write_span head)
    by (Some r) = claimed_read_says (claim_of xs r.span) r.span p.prefix.t unit.stream unit.draw n

-- a packet's effect is applied exactly if its write is admitted
effect_says : (plan : Plan) (policy : Policy) (n : ℕ) (port : PortName) (unit : UnitName) (p : Packet)
    (payload : List ℕ) → is_applied (effect_by plan policy n port unit p)
    ≡ is_some (write_if_admitted plan policy.grants port unit p payload)
effect_says plan policy n port unit p payload = by (is_sync_packet p) (at_switch plan port)
    (sent_direction port.side == 0)
  where
    by : (s c b : Bool) → is_applied
        (if s then effect.Sync else if c then switch_effect else if b then host_effect plan policy.grants n port unit p
        (read_head_of p.head) else device_effect (policy.statuses port.line) n unit p (read_head_of p.head))
        ≡ is_some (if not s && (not c && b) then payload_write plan policy.grants port unit p.prefix.t payload
        (read_head_of p.head) else None)
    by true c b = refl
    by false true b = refl
    by false false false = device_says (policy.statuses port.line) n unit p (read_head_of p.head)
    by false false true = head_says plan policy n port unit p payload (read_head_of p.head)

each_says : (plan : Plan) (policy : Policy) (n : ℕ) (port : PortName) (unit : UnitName) (plain : List ℕ)
    (ps : List Packet) → map is_applied (effects_each plan policy n port unit ps)
    ≡ map is_some (admitted_each plan policy.grants port unit plain ps)
each_says plan policy n port unit plain [] = refl
each_says plan policy n port unit plain (p ∷ ps) =
    let first = effect_says plan policy n port unit p (take (length p.body) plain) in
    let rest = each_says plan policy (waiting_then (effect_by plan policy n port unit p) n) port unit
    (drop (length p.body) plain) ps in
    (λ i. first i ∷ rest i)

applies : (plan : Plan) (h : History) (e : Event) (port : PortName) (unit : UnitName) (effects : List Effect)
    → Accepted port unit effects ≡ due plan h e → AppliesAdmitted plan h e (Accepted port unit effects)
applies plan h e port unit effects is =
    let by = accepted_by plan h e port unit effects is in
    let same = unit_that_ends plan h e port unit by.packet by.came by.passed in
    let effects_are = by.effects_are ∙ ap (λ (ps : List Packet). effects_of plan h port unit ps) (sym same) in
    ap (λ (es : List Effect). map is_applied es) effects_are
    ∙ each_says plan (policy_at plan h) ((policy_at plan h).waiting (port_of plan port)) (port_of plan port) unit
    (plain_of plan port unit (unit_ended plan h e port unit)) (unit_ended plan h e port unit)

-- ---- what is shown

shown_is : (b : Bool) (bytes shown : List ℕ) → v.Interface (iv.Memory bytes) ≡ shown_if b shown → bytes ≡ shown
shown_is b bytes shown is = grind arith

shows : (plan : Plan) (h : History) (at len : ℕ) (bytes : List ℕ) → v.Interface (iv.Memory bytes)
    ≡ due plan h (event.Interface (ie.Memory at len))
    → ShowsWrites plan h (event.Interface (ie.Memory at len)) (v.Interface (iv.Memory bytes))
unfolding due interface_due
shows plan h at len bytes is =
    let same = shown_is (in_one_region plan.memory at len) bytes (bytes_from (byte_last_written (writes plan h)) at len)
    is
    in (
      ap length same ∙ length-bytes (byte_last_written (writes plan h)) at len,
      λ k less. record {
        byte = byte_last_written (writes plan h) (at + k);
        is = ap (λ (bs : List ℕ). slice_get bs k) same ∙ bytes_at (byte_last_written (writes plan h)) at len k less;
        left = last_byte (writes plan h) (at + k);
      },
    )

-- ---- the law

shows_all : (plan : Plan) (h : History) (e : Event) (w : Verdict) → w ≡ due plan h e → ShowsWrites plan h e w
shows_all plan h (event.Interface (ie.Memory at len)) (v.Interface (iv.Memory bytes)) is = shows plan h at len bytes is
shows_all plan h (event.Interface (ie.Memory at len)) (v.Interface w) is = tt
shows_all plan h (event.Interface (ie.Memory at len)) w is = tt
shows_all plan h (event.Interface e) w is = tt
shows_all plan h e w is = tt

applies_all : (plan : Plan) (h : History) (e : Event) (w : Verdict) → w ≡ due plan h e → AppliesAdmitted plan h e w
applies_all plan h e (Accepted port unit effects) is = applies plan h e port unit effects is
applies_all plan h e w is = tt

pub memory_law : (plan : Plan) (h : History) → CauseLaw plan h → MemoryLaw plan h
memory_law plan [] cause = tt
memory_law plan ((e, w) ∷ h) cause =
    (applies_all plan h e w cause.0, shows_all plan h e w cause.0, memory_law plan h cause.1)
