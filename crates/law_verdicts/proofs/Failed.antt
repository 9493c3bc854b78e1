-- A failed stream is dead at its port; and what a fail verdict tells, if it was due: a packet of the stream came there.
use Rattle.spec_links.proofs.Terms.{◌≡◌, ℕ, ◌∷◌, Bool, true, false, List, [], Option, Some, None, Result, Ok, Err}
use Rattle.spec_links.proofs.Terms.{refl, ap, ◌∙◌, arith, if◌then◌else◌, AllByRecursion, Plan, PortName, Event, Verdict}
use Rattle.spec_links.proofs.Terms.{SealedPacket, Packet, History, UnitName, has_failed, ArrivedBytes}
use Rattle.spec_links.proofs.Terms.{before_tag_of_cut, sending_port, arrival_of_event}
use Rattle.std.proofs.lemmas.Bool.{true≢false}
use Rattle.ide_types.specs.declared.sub.SubKind.{SubKind}
use Rattle.ide_types.specs.declared.sub.FailCause.{FailCause}
use Rattle.spec_links.specs.Terms.{CutValue, PacketFault}
unfoldable use Rattle.spec_links.proofs.Terms.{due, before_tag}
use Rattle.spec_links.specs.Due.{through_due, ending_due}
use Rattle.spec_links.specs.Ports.{goes_through}
use Rattle.spec_links.proofs.Causes.{held_by, accepted_by, Came, Passed}
use Rattle.spec_links.proofs.SealingIs.{sealing_is, AllLive, all_live}
use Rattle.spec_links.specs.History.{sent_bytes}
use Rattle.ide_prefix.specs.Reading.{PlainTlp, IdePacket, cut_of}
use Rattle.law_delivery.proofs.Wholes.{due_arrives}
use Rattle.law_verdicts.specs.Verdicts.{IsOfWhole}
use Rattle.law_verdicts.proofs.Named.{is_of_arrival, others}
use Rattle.event_verdicts.specs.declared.verdict.Verdict.TheVariants as v

-- ---- what is sealed

all_whole : (plan : Plan) (h : History) (port : PortName) (stream : ℕ) (ds : List SealedPacket)
    → has_failed h port stream ≡ false → AllLive plan h port stream ds
    → AllByRecursion (λ (d : SealedPacket). has_failed h d.port d.stream ≡ false) ds
all_whole plan h port stream [] whole live = tt
all_whole plan h port stream (d ∷ ds) whole live =
    ((λ i. has_failed h (live.0.port_is i) (live.0.stream_is i)) ∙ whole, all_whole plan h port stream ds whole live.1)

sealed_whole : (plan : Plan) (h : History) (e : Event) (ds : List SealedPacket) → v.Sealed ds ≡ due plan h e
    → AllByRecursion (λ (d : SealedPacket). has_failed h d.port d.stream ≡ false) ds
sealed_whole plan h e ds is =
    let sealing = sealing_is plan h e ds is in
    all_whole plan h sealing.sending.port sealing.sending.stream ds sealing.free.0
    (all_live plan h (sending_port plan h e) (sent_bytes plan h e) ds sealing)

-- ---- what arrives

passed_whole : (plan : Plan) (h : History) (port : PortName) (p : Packet) (unit : UnitName)
    → Passed plan h port p unit → has_failed h port unit.stream ≡ false
passed_whole plan h port p unit passed = ap (λ (u : UnitName). has_failed h port u.stream) passed.named ∙ passed.secure

-- ---- what fails

-- a packet of the stream, which had not failed, came to the port
pub record FailedBy (plan : Plan) (h : History) (e : Event) (port : PortName) (stream : ℕ) : Type 0 where
  pub packet : Packet
  pub came : Came plan h e port packet
  pub of_stream : packet.prefix.stream ≡ stream
  pub whole : has_failed h port stream ≡ false

fail_is : (plan : Plan) (h : History) (q port : PortName) (p : Packet) (stream : ℕ) (sub : SubKind) (cause : FailCause)
    → v.Fail port stream sub cause ≡ ending_due plan h q (before_tag_of_cut plan h q (Ok (IdePacket p)))
    → (q ≡ port) × (p.prefix.stream ≡ stream) × (has_failed h port stream ≡ false)
fail_is plan h q port p stream sub cause is = (grind arith, grind arith, grind arith)

fails_of : (plan : Plan) (h : History) (e : Event) (a : ArrivedBytes) (port : PortName) (stream : ℕ) (sub : SubKind)
    (cause : FailCause) → arrival_of_event plan h e ≡ Some a
    → v.Fail port stream sub cause ≡ ending_due plan h a.port (before_tag plan h a) → FailedBy plan h e port stream
unfolding before_tag
fails_of plan h e a port stream sub cause came is = by (goes_through plan a.port a.bytes) is
  where
    cut : (r : Result CutValue PacketFault) → cut_of a.bytes ≡ r
        → v.Fail port stream sub cause ≡ ending_due plan h a.port (before_tag_of_cut plan h a.port r)
        → FailedBy plan h e port stream
    cut (Err f) of is = absurd cc
    cut (Ok PlainTlp) of is = absurd cc
    cut (Ok (IdePacket p)) of is =
        let told = fail_is plan h a.port port p stream sub cause is in
        record {
          packet = p;
          came = record {
            bytes = a.bytes;
            arrival = came ∙ ap (λ (q : PortName). Some (record { port = q; bytes = a.bytes })) told.0;
            cut = of;
          };
          of_stream = told.1;
          whole = told.2;
        }

    by : (b : Bool) → v.Fail port stream sub cause ≡ ending_due plan h a.port
        (if b then Err (through_due plan a.port) else before_tag_of_cut plan h a.port (cut_of a.bytes))
        → FailedBy plan h e port stream
    by true is = absurd cc
    by false is = cut (cut_of a.bytes) refl is

pub failed_by : (plan : Plan) (h : History) (e : Event) (port : PortName) (stream : ℕ) (sub : SubKind)
    (cause : FailCause) → v.Fail port stream sub cause ≡ due plan h e → FailedBy plan h e port stream
failed_by plan h e port stream sub cause is = by (arrival_of_event plan h e) refl
  where
    by : (o : Option ArrivedBytes) → arrival_of_event plan h e ≡ o → FailedBy plan h e port stream
    by None none = absurd (true≢false (ap is_of_arrival is ∙ others plan h e none))
    by (Some a) came = fails_of plan h e a port stream sub cause came (is ∙ due_arrives plan h e a came)

-- ---- the pair

pub of_whole : (plan : Plan) (h : History) (e : Event) (w : Verdict) → w ≡ due plan h e → IsOfWhole h e w
of_whole plan h e (v.Sealed ds) is = sealed_whole plan h e ds is
of_whole plan h e (v.Held port unit) is =
    let by = held_by plan h e port unit is in passed_whole plan h port by.packet unit by.passed
of_whole plan h e (v.Accepted port unit effects) is =
    let by = accepted_by plan h e port unit effects is in passed_whole plan h port by.packet unit by.passed
of_whole plan h e (v.Fail port stream sub cause) is = (failed_by plan h e port stream sub cause is).whole
of_whole plan h e w is = tt
