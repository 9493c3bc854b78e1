-- What becomes of a send of a stream: its answer, the packets' bytes, and the stream after it.
use Rattle.std.specs.Prelude.{ℕ, ◌≡◌, Bool, List, [], ◌++◌, map, Option, Some, None, Result, Ok, Err}
use Rattle.std.specs.Result.{result_map_both}
use Rattle.ide_types.specs.declared.sub.SubKind.{SubKind}
use Rattle.ide_types.specs.declared.port.PortName.{PortName}
use Rattle.event_verdicts.specs.declared.verdict.Verdict.{Verdict}
use Rattle.event_verdicts.specs.declared.verdict.SealedPacket.{SealedPacket as Described}
use Rattle.ide_prefix.specs.Packet.{Packet}
use Rattle.spec_stream.specs.Sending.{Sending, refusals, first_that_holds, sealed_with_syncs}
use Rattle.spec_stream.specs.Stream.{sealed_all, Three, TxSub}
use Rattle.sub_stream.specs.declared.answer.MeasuredPacket.{MeasuredPacket}
use Rattle.stream_lanes.specs.declared.refusal.SendRefusal.{SendRefusal}
use Rattle.stream_lanes.specs.{refusal_verdict, numbered_from, joined_packets, packet_lengths}
use Rattle.ide_port.specs.StreamEnds.{StreamEnd, lanes_in}

-- ---- the answer

-- an answer as a port says it, whose next sealed packet has this number
abbrev pub numbered_answer : PortName → ℕ → Result (List MeasuredPacket) SendRefusal → Result (List Described) Verdict
numbered_answer port number answer = result_map_both (numbered_from port number) refusal_verdict answer

-- a TLP on its way out at this port, on this stream
abbrev pub new_sending : PortName → ℕ → SubKind → Bool → Bool → Sending
new_sending port stream u more trusted =
    record { port = port; stream = stream; class = u; more = more; trusted = trusted }

-- the refusal that comes first, or what is sealed
abbrev pub ok_unless_verdict : {A : Type 0} → Option Verdict → A → Result A Verdict
ok_unless_verdict None a = Ok a
ok_unless_verdict (Some verdict) a = Err verdict

abbrev pub sending_refusal : StreamEnd → Sending → Option Verdict
sending_refusal e s = first_that_holds (refusals (lanes_in e) s.class)

abbrev pub sent_descriptions : StreamEnd → Sending → ℕ → Result (List Described) Verdict
sent_descriptions e s number = ok_unless_verdict (sending_refusal e s) (sealed_with_syncs (lanes_in e) s number)

-- ---- packets, and the stream after them

-- what is sealed of a TLP with this header and payload
abbrev pub packets_and_senders : StreamEnd → List ℕ → List ℕ → Sending → ℕ → List Packet × Three TxSub
packets_and_senders e head payload s number =
    sealed_all e.closed head payload (sealed_with_syncs (lanes_in e) s number) e.state.tx

abbrev pub unless_verdict : {A : Type 0} → Option Verdict → A → A → A
unless_verdict None none a = a
unless_verdict (Some verdict) none a = none

abbrev pub packets_sent : StreamEnd → List ℕ → List ℕ → Sending → ℕ → List Packet
packets_sent e head payload s number = unless_verdict (sending_refusal e s) []
    (packets_and_senders e head payload s number).0

abbrev pub end_sent : StreamEnd → List ℕ → List ℕ → Sending → ℕ → StreamEnd
end_sent e head payload s number =
    record e {
      state = unless_verdict (sending_refusal e s) e.state
          (record e.state { tx = (packets_and_senders e head payload s number).1 });
    }

-- the lengths that an answer says
abbrev pub lengths_said : Result (List MeasuredPacket) SendRefusal → List ℕ
lengths_said (Ok ps) = map (λ (p : MeasuredPacket). p.length) ps
lengths_said (Err refusal) = []

-- A send of a TLP with this header and payload, whose first packet has this number: the answer, the bytes that were
-- appended, and the stream after it.
pub record IsSent (old : StreamEnd) (head payload : List ℕ) (s : Sending) (number : ℕ)
    (answer : Result (List MeasuredPacket) SendRefusal) (before after : List ℕ) (new : StreamEnd) : Type 0 where
  pub answered : numbered_answer s.port number answer ≡ sent_descriptions old s number
  pub lengths : lengths_said answer ≡ packet_lengths (packets_sent old head payload s number)
  pub bytes : after ≡ before ++ joined_packets (packets_sent old head payload s number)
  pub stream : new ≡ end_sent old head payload s number
