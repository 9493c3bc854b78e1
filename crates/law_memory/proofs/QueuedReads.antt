-- A read that is queued at a host's port was sealed by its interface in the very RUN, under the very lock, that it is
-- queued for: it meets what an admitted write does but for where its bytes lie, and no more than that tells of origin.
use Rattle.law_sealing.proofs.Terms.{◌≡◌, ℕ, ◌==◌, ◌&&◌, ◌∷◌, not, is_some, Bool, true, false, List, Option}
use Rattle.law_sealing.proofs.Terms.{Some, None, Result, Ok, Err, refl, arith, nat_tests}
use Rattle.law_sealing.proofs.Terms.{if◌then◌else◌, Plan, History, Event, Verdict, Accepted, UnitName, Effect, Packet}
use Rattle.law_sealing.proofs.Terms.{PortName, CauseLaw, DrawFacts, is_sync_packet}
use Rattle.law_sealing.proofs.Fits.{StreamsFit}
use Rattle.std.specs.Option.{option_or}
use Rattle.ide_types.specs.Sub.{sent_direction}
use Rattle.ide_types.specs.declared.binding.Binding.{Binding}
use Rattle.ide_types.specs.declared.plan.Region.{Region}
use Rattle.tlp_layout.specs.declared.head.HeadView.{HeadView}
use Rattle.tlp_layout.specs.declared.fault.TlpFault.{TlpFault}
use Rattle.tlp_layout.specs.Reading.{read_head_of}
use Rattle.trusted_memory.specs.declared.grant.Grant.{Grant}
use Rattle.trusted_memory.specs.Causes.{grant_cause, place_cause, block_cause}
use Rattle.trusted_memory.specs.Admitted.{is_on_bound}
use Rattle.trusted_memory.specs.Spans.{span_of, span_of_fields}
use Rattle.trusted_memory.specs.declared.read.MemReadView.{MemReadView}
use Rattle.trusted_memory.specs.Requests.{memory_read, read_with}
use Rattle.trusted_memory.specs.Waiting.{request_effect}
use Rattle.tlp_layout.specs.declared.head.Fields.{Fields}
use Rattle.tlp_layout.specs.declared.head.Fields.TheVariants.{Memory, Config, Message, Completion}
use Rattle.event_verdicts.specs.declared.verdict.BlockCause.{BlockCause}
use Rattle.event_verdicts.specs.declared.verdict.Effect.TheVariants as effect
use Rattle.spec_interfaces.specs.Views.{grant_at}
use Rattle.spec_links.specs.Memory.{policy_at, unit_grant, host_effect, device_effect, effect_by}
use Rattle.law_reads.proofs.Order.{request_waits}
use Rattle.law_mmio.proofs.SameWrites.{effect_there}
use Rattle.law_delivery.specs.NoForgeryUnder.{UnitIsUnforged}
use Rattle.law_delivery.proofs.EachForgery.{of_pairs}
use Rattle.law_memory.specs.LocalLaws.{LocalReadOriginLaw}
use Rattle.law_memory.specs.ReadLaws.{QueuedFrom}
use Rattle.law_memory.proofs.Origins.{Admitted, accepted_known, at_port, origin_of}
use Rattle.ide_types.specs.Fits.{FitsPlan}
use Rattle.spec_links.specs.Ports.{at_switch, is_host_port, port_of}
use Rattle.spec_links.specs.Admission.{switch_effect}

-- ---- what it means that a read is queued

first_none : (a b : Option BlockCause) → option_or a b ≡ None → a ≡ None
first_none None b is = refl
first_none (Some c) b is = absurd cc

granted_on : (o : Option Binding) (stream draw : ℕ) → grant_cause o stream draw ≡ None
    → is_on_bound stream draw o ≡ true
granted_on None stream draw is = absurd cc
granted_on (Some b) stream draw is = grind (arith, nat_tests)

-- its header is of a memory request
read_spans : (head : HeadView) (r : MemReadView) → memory_read head ≡ Some r → is_some (span_of head) ≡ true
read_spans head r is = by head.has_payload head.fields is
  where
    by : (b : Bool) (fields : Fields) → (if b then None else read_with head.lead fields (span_of_fields
        head.lead.length fields)) ≡ Some r → is_some (span_of_fields head.lead.length fields) ≡ true
    by true fields is = absurd cc
    by false (Memory f) is = refl
    by false (Config f) is = absurd cc
    by false (Message f) is = absurd cc
    by false (Completion f) is = absurd cc

record QueuedFor (t : Bool) (g : Grant) (head : HeadView) : Type 0 where
  trusted : t ≡ true
  request : is_some (span_of head) ≡ true
  bound : is_on_bound g.stream g.draw g.bound ≡ true

request_means : (regions : List Region) (t : Bool) (g : Grant) (n : ℕ) (head : HeadView)
    → request_effect regions t g n head ≡ effect.Queued → QueuedFor t g head
request_means regions t g n head is =
    let waits = request_waits regions t g n head is in
    let cause = first_none (block_cause regions waits.read.span true g) _ waits.unblocked in
    record {
      trusted = waits.trusted;
      request = read_spans head waits.read waits.is_read;
      bound = granted_on g.bound g.stream g.draw (first_none (grant_cause g.bound g.stream g.draw)
          (place_cause regions waits.read.span) cause);
    }

queued_means : (plan : Plan) (h : History) (k : ℕ) (port : PortName) (unit : UnitName) (p : Packet)
    → is_host_port plan port ≡ true → effect_by plan (policy_at plan h) k port unit p ≡ effect.Queued
    → Admitted plan h port unit p
queued_means plan h k port unit p at_host is =
    by (is_sync_packet p) (at_switch plan port) (sent_direction port.side == 0) refl at_host (read_head_of p.head) refl
    is
  where
    by : (a c b : Bool) → (sent_direction port.side == 0) ≡ b → (not c && b) ≡ true → (r : Result HeadView TlpFault)
        → read_head_of p.head ≡ r
        → (if a then effect.Sync else if c then switch_effect else if b then host_effect plan (grant_at plan h) k port
        unit p r else device_effect ((policy_at plan h).statuses port.line) k unit p r) ≡ effect.Queued
        → Admitted plan h port unit p
    by true c b host at r reads is = absurd cc
    by false true b host at r reads is = absurd cc
    by false false false host at r reads is = absurd cc
    by false false true host at (Err f) reads is = absurd cc
    by false false true host at (Ok head) reads is =
        let tests = request_means plan.memory p.prefix.t (unit_grant (grant_at plan h) port unit head) k head is in
        record {
          head = head;
          reads = reads;
          host = host;
          trusted = tests.trusted;
          request = tests.request;
          bound = tests.bound;
        }

-- ---- the law

accepted_from : (plan : Plan) → FitsPlan plan → StreamsFit plan → DrawFacts plan
    → (h : History) (e : Event) (port : PortName) (unit : UnitName) (effects : List Effect)
    → CauseLaw plan ((e, Accepted port unit effects) ∷ h) → UnitIsUnforged plan h e (Accepted port unit effects)
    → QueuedFrom plan h e (Accepted port unit effects)
accepted_from plan whole fits facts h e port unit effects cause forged at_host n p is stands =
    let there = effect_there plan h e port unit effects cause.0 n p effect.Queued stands is in
    origin_of plan whole fits facts h e port unit effects cause forged n p
    (at_port plan whole h port unit p (accepted_known plan h e port unit effects cause.0)
    (queued_means plan h there.0 (port_of plan port) unit p at_host there.1))
    stands

queued_from : (plan : Plan) → FitsPlan plan → StreamsFit plan → DrawFacts plan → (h : History) (e : Event) (w : Verdict)
    → CauseLaw plan ((e, w) ∷ h) → UnitIsUnforged plan h e w → QueuedFrom plan h e w
queued_from plan whole fits facts h e (Accepted port unit effects) cause forged = accepted_from plan whole fits facts h
    e port unit
    effects cause forged
queued_from plan whole fits facts h e w cause forged = tt

pub read_origins : (plan : Plan) → FitsPlan plan → StreamsFit plan → DrawFacts plan → (h : History)
    → CauseLaw plan h → LocalReadOriginLaw plan h
read_origins plan whole fits facts h cause =
    of_pairs UnitIsUnforged QueuedFrom plan (queued_from plan whole fits facts) h cause
