-- What becomes of a send at a port.
use Rattle.std.specs.Prelude.{ℕ, ◌≡◌, Bool, false, List, [], map, Option, Some, None, Result, Ok, Err, IfSome}
use Rattle.ide_types.specs.declared.port.PortName.{PortName}
use Rattle.event_verdicts.specs.declared.verdict.Verdict.{Verdict}
use Rattle.event_verdicts.specs.declared.verdict.Verdict.TheVariants as v
use Rattle.event_verdicts.specs.declared.verdict.SealedPacket.{SealedPacket as Described}
use Rattle.tlp_layout.specs.declared.head.HeadView.{HeadView}
use Rattle.tlp_layout.specs.declared.tlp.Tlp.{Tlp}
use Rattle.tlp_layout.specs.declared.choice.ChosenStream.{ChosenStream}
use Rattle.tlp_layout.specs.Choice.{choice_of_stream, chosen_stream, plan_place}
use Rattle.tlp_layout.specs.Class.{class_of}
use Rattle.tlp_layout.specs.Faults.{place_in}
use Rattle.tlp_layout.specs.Head.{head_bytes}
use Rattle.tlp_layout.specs.Tlp.{header, body}
use Rattle.tlp_layout.specs.Reading.{read_of}
use Rattle.tlp_layout.specs.declared.fault.TlpFault.{TlpFault}
use Rattle.ide_prefix.specs.Packet.{Packet}
use Rattle.ide_prefix.specs.FaultWords.{tlp_word}
use Rattle.tlp_layout.specs.Outgoing.{Outgoing, NoTlp, OnNone, OnStream, outgoing_of, stream_taken}
use Rattle.sub_stream.specs.declared.answer.MeasuredPacket.{MeasuredPacket}
use Rattle.stream_lanes.specs.{refusal_verdict, numbered_from, joined_packets, packet_lengths}
use Rattle.ide_port.specs.StreamSends.{new_sending, sent_descriptions, packets_sent, end_sent}
use Rattle.ide_port.specs.declared.answer.Sent.{Sent}
use Rattle.ide_port.specs.declared.answer.Sent.TheVariants.{Malformed, Plain, Refused, Sealed}
use Rattle.ide_port.specs.Ends.{PortEnd, Found, found_stream, changed_states, stream_end_at}

-- T of a TLP with this header on a stream
abbrev pub Trusting : Type 0
Trusting = HeadView → ℕ → Bool

-- the verdict of a send, the packets that were sealed, and the port after it
pub record SendStep : Type 0 where
  pub verdict : Verdict
  pub packets : List Packet
  pub port : PortEnd

-- nothing is sealed
abbrev pub unsealed_step : PortEnd → Verdict → SendStep
unsealed_step e verdict = record { verdict = verdict; packets = []; port = e }

abbrev pub as_verdict : Result (List Described) Verdict → Verdict
as_verdict (Ok packets) = v.Sealed packets
as_verdict (Err verdict) = verdict

-- a TLP on a stream; it goes plain if the port has no such stream
abbrev pub stream_step : PortEnd → Tlp → Bool → Bool → ℕ → Option Found → SendStep
stream_step e t more trusted number None = unsealed_step e (v.Plain e.name)
stream_step e t more trusted number (Some f) =
    let x = stream_end_at e f in
    let s = new_sending e.name f.plan.id (class_of (header t)) more trusted in
    record {
      verdict = as_verdict (sent_descriptions x s number);
      packets = packets_sent x (head_bytes (header t)) (body t) s number;
      port =
          record e {
            states = changed_states e.plans e.states f.plan.id
                (end_sent x (head_bytes (header t)) (body t) s number).state;
          };
    }

-- a send whose bytes come to this, and whose first sealed packet has this number over the run
abbrev pub send_step : PortEnd → Outgoing → Bool → Trusting → ℕ → SendStep
send_step e (NoTlp fault) more sets number = unsealed_step e (v.Malformed e.name (tlp_word fault) (place_in fault))
send_step e OnNone more sets number = unsealed_step e (v.Plain e.name)
send_step e (OnStream t id) more sets number = stream_step e t more (sets (header t) id) number
    (found_stream e.plans e.states id)

-- a TLP that is the last of its unit on the stream of this ID, with this T, whatever stream association gives it
abbrev pub seal_step : PortEnd → Result Tlp TlpFault → ℕ → Bool → ℕ → SendStep
seal_step e (Err fault) id trusted number = unsealed_step e (v.Malformed e.name (tlp_word fault) (place_in fault))
seal_step e (Ok t) id trusted number = stream_step e t false trusted number (found_stream e.plans e.states id)

-- the stream that bytes take at a port, if they take one, with its place
pub record IsStreamTaken (e : PortEnd) (bytes : List ℕ) (stream : Option ChosenStream) : Type 0 where
  pub id : chosen_stream (choice_of_stream stream) ≡ stream_taken (outgoing_of e.plans e.name.side bytes)
  pub place : IfSome stream (λ s. plan_place e.plans s.id ≡ Some s.place)

-- ---- the answer

-- as the port says it
abbrev pub sent_verdict : PortName → ℕ → Sent → Verdict
sent_verdict port number (Malformed fault) = v.Malformed port (tlp_word fault) (place_in fault)
sent_verdict port number Plain = v.Plain port
sent_verdict port number (Refused refusal) = refusal_verdict refusal
sent_verdict port number (Sealed packets) = v.Sealed (numbered_from port number packets)

-- the lengths of the packets, in bytes
abbrev pub lengths_sent : Sent → List ℕ
lengths_sent (Sealed packets) = map (λ (p : MeasuredPacket). p.length) packets
lengths_sent answer = []

-- an answer, the port after it and the bytes that were sealed, as a step says
pub record IsSendStep (name : PortName) (number : ℕ) (answer : Sent) (new : PortEnd) (sealed : List ℕ) (step : SendStep)
    : Type 0 where
  pub answered : sent_verdict name number answer ≡ step.verdict
  pub lengths : lengths_sent answer ≡ packet_lengths step.packets
  pub bytes : sealed ≡ joined_packets step.packets
  pub port : new ≡ step.port

abbrev pub IsSealedAtPort : PortEnd → List ℕ → ℕ → Bool → ℕ → Sent → PortEnd → List ℕ → Type 0
IsSealedAtPort old bytes id trusted number answer new sealed =
    IsSendStep old.name number answer new sealed (seal_step old (read_of bytes) id trusted number)

abbrev pub IsSentAtPort : PortEnd → List ℕ → Bool → Trusting → ℕ → Sent → PortEnd → List ℕ → Type 0
IsSentAtPort old bytes more sets number answer new sealed =
    IsSendStep old.name number answer new sealed
    (send_step old (outgoing_of old.plans old.name.side bytes) more sets number)
