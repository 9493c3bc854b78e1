-- Each read with T that a device queues was sent to its interface, which was in no other RUN since before that, until
-- it is answered.
use Rattle.law_sealing.proofs.Terms.{◌≡◌, ◌⊎◌, ◌∷◌, [], inl, inr, ℕ, Bool, true, false, List, slice_get, Some, None, Ok}
use Rattle.law_sealing.proofs.Terms.{Result, refl, ap, sym, ◌∙◌, if◌then◌else◌, Plan, History, Event, Verdict}
use Rattle.law_sealing.proofs.Terms.{Accepted, Sealed, SealedPacket, UnitName, Effect, Packet, PortName, CauseLaw}
use Rattle.law_sealing.proofs.Terms.{Npr, Cpl, class_of, FitsPacket}
unfoldable use Rattle.law_sealing.proofs.Terms.{due}
use Rattle.std.proofs.lemmas.Bool.{true≢false}
use Rattle.std.specs.Option.{option_map}
use Rattle.ide_types.specs.Ends.{own_has_id}
use Rattle.ide_types.specs.Fits.{FitsPlan}
use Rattle.ide_types.specs.Ports.{device_port}
use Rattle.tlp_layout.specs.declared.head.HeadView.{HeadView}
use Rattle.tlp_layout.specs.declared.head.Lead.{Lead}
use Rattle.tlp_layout.specs.declared.head.Fields.{Fields}
use Rattle.tlp_layout.specs.declared.head.Fields.TheVariants.{Memory, Config, Message, Completion}
use Rattle.tlp_layout.specs.declared.fault.TlpFault.{TlpFault}
use Rattle.tlp_layout.specs.Class.{layout_of, kind_of_layout, kind_class}
use Rattle.tlp_layout.proofs.Readings.{read_head_spells}
use Rattle.trusted_memory.specs.Requests.{read_with}
use Rattle.trusted_memory.specs.Spans.{span_of_fields}
use Rattle.guarded_memory.specs.DeviceReads.{claimed_target}
use Rattle.spec_interfaces.specs.Sites.{Site, site_at}
use Rattle.spec_links.proofs.Terms.{Access}
use Rattle.spec_links.proofs.Ends.{own_port}
use Rattle.spec_links.specs.Terms.{MemReadView, ReadArrival, memory_read, read_head_of}
use Rattle.spec_links.specs.Plan.{has_link}
use Rattle.spec_links.specs.Ports.{port_of}
use Rattle.spec_links.specs.Memory.{unit_ended}
use Rattle.law_reads.proofs.Responses.{responded_by}
use Rattle.script_events.specs.declared.event.AccessEvent.TheVariants as ae
use Rattle.law_delivery.specs.NoForgeryUnder.{UnitIsUnforged}
use Rattle.law_verdicts.proofs.{accepted_known}
use Rattle.law_memory.proofs.Responses.{TrustedFor}
use Rattle.law_bytes.proofs.MmioOrigins.{bound_on, own_there, was_asked, on_binding}
use Rattle.law_device_reads.specs.Oldest.{IsOldestAtDevice}
use Rattle.law_device_reads.specs.Exact.{ahead_of_packet}
use Rattle.law_device_reads.specs.Origins.{CameFromHost, CameFromPeer, QueuesAsked, WasSentInRun}
use Rattle.law_device_reads.specs.Origins.{IsAnsweredInRun, AnswersInRun, DeviceReadOriginLaw}
use Rattle.law_device_reads.proofs.Effects.{queued_there}
use Rattle.law_device_reads.proofs.Oldest.{claimed_by, site_there}
use Rattle.law_device_reads.proofs.Responses.{kept_for}
use Rattle.law_device_reads.proofs.InRun.{IsOfRun, of_run, was_queued, there_runs, joined_run}

-- ---- a read is no completion

read_class : (head : HeadView) (r : MemReadView) → memory_read head ≡ Some r → class_of head ≡ Npr
read_class head r is = by head.has_payload head.lead head.fields is
  where
    by : (has : Bool) (lead : Lead) (fields : Fields)
        → (if has then None else read_with lead fields (span_of_fields head.lead.length fields)) ≡ Some r
        → kind_class (kind_of_layout (layout_of fields) has) ≡ Npr
    by true lead fields is = absurd cc
    by false lead (Memory f) is = refl
    by false lead (Config f) is = absurd cc
    by false lead (Message f) is = absurd cc
    by false lead (Completion f) is = absurd cc

one_head : (r : Result HeadView TlpFault) (a b : HeadView) → r ≡ Ok a → r ≡ Ok b → a ≡ b
one_head r a b one two = cc (one, two)

apart : Npr ≡ Cpl → ⊥
apart is = absurd cc

completes_none : (p : Packet) → p.prefix.t ≡ true → (head : HeadView) (r : MemReadView) → read_head_of p.head ≡ Ok head
    → memory_read head ≡ Some r → FitsPacket p → p.prefix.sub ≡ Cpl → ⊥
completes_none p trusted head r reads is fits sub = elim fits.carries [
  | inl carried ↦
      let again = (read_head_spells carried.head p.head).0 carried.spells in
      let same : carried.head ≡ head = one_head (read_head_of p.head) carried.head head again reads in
      apart (sym (read_class head r is) ∙ (sym (ap class_of same) ∙ (carried.class ∙ sub)))
  | inr sync ↦ true≢false (sym trusted ∙ sync.t)
]

-- ---- one that is queued

-- it came for the interface that claims it
module _ (plan : Plan) (whole : FitsPlan plan) (h : History) (e : Event) (end : PortName) (unit : UnitName)
    (effects : List Effect) (cause : CauseLaw plan ((e, Accepted end unit effects) ∷ h))
    (forged : UnitIsUnforged plan h e (Accepted end unit effects)) (x : Site) (known : site_at plan x.number ≡ Some x)
    (at : port_of plan end ≡ device_port x.link) (n : ℕ) (p : Packet)
    (stands : slice_get (unit_ended plan h e end unit) n ≡ Some p) (trusted : p.prefix.t ≡ true) where
  came_for : TrustedFor plan h x unit.stream unit.draw → (FitsPacket p → p.prefix.sub ≡ Cpl → ⊥)
      → CameFromHost plan h x end unit n p ⊎ CameFromPeer plan h x end unit n p
  came_for on request =
      let there = accepted_known plan h e end unit effects cause.0 in
      elim (bound_on plan h x unit.stream unit.draw on.floor on.runs on.bound on.from_floor) [
        | inl own ↦
            let has : own_has_id (slice_get plan.links (port_of plan end).line) unit.stream ≡ true =
            (λ i. own_has_id (slice_get plan.links (at i).line) (own.stream_is i))
            ∙ own_there plan whole h cause.1 x known on.runs in
            let end_is : end ≡ device_port x.link = sym (own_port plan whole end unit.stream there has) ∙ at in
            inl (record {
              runs = on.runs;
              end_is = end_is;
              stream_is = own.stream_is;
              was_asked = was_asked plan whole h e end unit effects x n p cause forged known stands trusted on.runs
                  request end_is own.least;
            })
        | inr bound ↦
            inr (on_binding plan whole h e end unit effects x n p on.floor cause forged known stands trusted on.runs at
            request bound on.from_floor)
      ]

asked_for : (plan : Plan) → FitsPlan plan → (h : History) (e : Event) (end : PortName) (unit : UnitName)
    (effects : List Effect) → CauseLaw plan ((e, Accepted end unit effects) ∷ h)
    → QueuesAsked plan h e (Accepted end unit effects)
asked_for plan whole h e end unit effects cause link n p at has stands queues trusted forged =
    let k = ahead_of_packet plan h link effects n in
    let q = queued_there plan h e end unit effects cause.0 link at has n p stands queues in
    let claims = claimed_by plan h link q.read.span q.claim q.claimed in
    let x = claims.interface in
    let site = site_there plan link q.claim.interface x claims.known in
    record {
      head = q.head;
      reads = q.reads;
      read = q.read;
      is_read = q.is_read;
      target = claimed_target q.claim;
      claimed = ap (option_map claimed_target) q.claimed;
      interface = x;
      known = claims.known;
      numbered = site.numbered;
      link_is = site.link_is;
      asked = came_for plan whole h e end unit effects cause forged x site.numbered
          (at ∙ ap device_port (sym site.link_is)) n p stands trusted
          (there_runs plan h link unit p k q x claims.stands trusted)
          (completes_none p trusted q.head q.read q.reads q.is_read);
    }

queues_asked : (plan : Plan) → FitsPlan plan → (h : History) (e : Event) (w : Verdict) → CauseLaw plan ((e, w) ∷ h)
    → QueuesAsked plan h e w
queues_asked plan whole h e (Accepted end unit effects) cause = asked_for plan whole h e end unit effects cause
queues_asked plan whole h e w cause = tt

-- ---- one that is answered

sent_in_run : (plan : Plan) → FitsPlan plan → (h : History) (link : ℕ) (of : IsOldestAtDevice plan h link)
    (run : IsOfRun plan h link of) → has_link plan link ≡ true → of.read.came.trusted ≡ true
    → UnitIsUnforged plan run.queued.by.older run.queued.by.event
    (Accepted run.queued.by.end run.queued.by.unit run.queued.by.effects)
    → WasSentInRun plan h link of (was_queued plan h link of.read run.queued.by)
sent_in_run plan whole h link of run has trusted forged =
    let by = run.queued.by in
    let x = of.interface in
    let p = by.at.packet in
    let t : p.prefix.t ≡ true = sym (ap (λ (a : ReadArrival). a.trusted) by.at.arrived) ∙ trusted in
    let at : port_of plan by.end ≡ device_port x.link = by.at_port ∙ ap device_port (sym of.link_is) in
    elim (came_for plan whole by.older by.event by.end by.unit by.effects run.queued.law forged x of.numbered at
    by.at.number p by.at.stands t run.ran
    (completes_none p t by.at.head of.read.read by.at.reads by.at.is_read)) [
      | inl from ↦ inl (
        from,
        joined_run plan from.was_asked.older by.older h x run.came from.runs from.was_asked.no_other_run run.no_other,
      )
      | inr from ↦ inr (
        from,
        joined_run plan from.from.was.older by.older h x run.came from.runs from.no_other_run run.no_other,
      )
    ]

pub answered_in_run : (plan : Plan) → FitsPlan plan → (h : History) (link : ℕ) (ds : List SealedPacket)
    → CauseLaw plan ((Access (ae.Respond link), Sealed ds) ∷ h) → (of : IsOldestAtDevice plan h link)
    → of.read.came.trusted ≡ true → IsAnsweredInRun plan h link of
answered_in_run plan whole h link ds cause of trusted =
    let kept = kept_for plan h link ds (responded_by plan h link ds cause.0) of in
    let run = of_run plan whole h cause.1 link ds of kept trusted in
    record {
      runs = run.now.runs;
      queued = was_queued plan h link of.read run.queued.by;
      no_other_run = run.no_other;
      sent = sent_in_run plan whole h link of run kept.has trusted;
    }

answers_in_run : (plan : Plan) → FitsPlan plan → (h : History) (e : Event) (w : Verdict) → CauseLaw plan ((e, w) ∷ h)
    → AnswersInRun plan h e w
answers_in_run plan whole h (Access (ae.Respond link)) (Sealed ds) cause =
    λ is trusted. answered_in_run plan whole h link ds cause is.of trusted
answers_in_run plan whole h e w cause = tt

-- ---- the law

pub device_read_origin_law : (plan : Plan) → FitsPlan plan → (h : History) → CauseLaw plan h
    → DeviceReadOriginLaw plan h
device_read_origin_law plan whole [] cause = tt
device_read_origin_law plan whole ((e, w) ∷ h) cause = (
  queues_asked plan whole h e w cause,
  answers_in_run plan whole h e w cause,
  device_read_origin_law plan whole h cause.1,
)
