-- What senders and receivers answer, beside the verdicts of a port.
use Rattle.std.specs.Prelude.{ℕ, length, Option, Some, None}
use Rattle.ide_types.specs.declared.port.PortName.{PortName}
use Rattle.event_verdicts.specs.declared.verdict.SealedPacket.{SealedPacket as Described}
use Rattle.spec_stream.specs.Stream.{PacketOutcome as Answer, Insecure, NotKeyed as Keyless, Failed, Held as HeldBack}
use Rattle.spec_stream.specs.Stream.{Accepted as Whole}
use Rattle.sub_stream.specs.declared.answer.MeasuredPacket.{MeasuredPacket}
use Rattle.sub_stream.specs.declared.answer.Taken.{Taken}
use Rattle.sub_stream.specs.declared.answer.Taken.TheVariants.{NotKeyed, Held, Accepted, Fail}

-- a sealed packet as a port describes it, with its number over the run
abbrev pub numbered_packet : PortName → ℕ → MeasuredPacket → Described
numbered_packet port number p = record {
  number = number;
  port = port;
  stream = p.stream;
  sub = p.sub;
  draw = p.draw;
  unit = p.unit;
  m = p.m;
  k = p.k;
  t = p.t;
  posted = p.posted;
  sync = p.sync;
}

-- what is answered to a packet; none if the stream is insecure
abbrev pub answer_taken : Answer → Option Taken
answer_taken Insecure = None
answer_taken Keyless = Some NotKeyed
answer_taken (Failed cause) = Some (Fail cause)
answer_taken (HeldBack draw unit) = Some (Held draw unit)
answer_taken (Whole draw unit packets) = Some (Accepted draw unit (length packets))
