-- Worked cases of trusted reads: events with the verdicts that were worked out by hand, in order.
use Rattle.std.specs.Prelude.{◌≡◌, ℕ, false, true, Some, None, List, [], ◌∷◌}
use Rattle.ide_types.specs.Ports.{host_port, device_port}
use Rattle.ide_types.specs.declared.sub.SubKind.{SubKind}
use Rattle.ide_types.specs.declared.sub.SubKind.TheVariants.{Npr, Cpl}
use Rattle.ide_types.specs.declared.port.PortName.{PortName}
use Rattle.ide_types.specs.declared.verdict.InterfaceVerdict.TheVariants as iv
use Rattle.script_events.specs.declared.event.Event.{Event}
use Rattle.script_events.specs.declared.event.Event.TheVariants.{Access, Send, Pass, Interface}
use Rattle.script_events.specs.declared.event.AccessEvent.TheVariants as ae
use Rattle.script_events.specs.declared.event.InterfaceEvent.TheVariants as ie
use Rattle.event_verdicts.specs.declared.access.AccessVerdict.TheVariants as av
use Rattle.event_verdicts.specs.declared.verdict.Effect.TheVariants.{Applied, Queued, Blocked}
use Rattle.event_verdicts.specs.declared.verdict.BlockCause.TheVariants.{NotRunning, Full}
use Rattle.event_verdicts.specs.declared.verdict.SealedPacket.{SealedPacket}
use Rattle.event_verdicts.specs.declared.verdict.UnitName.{UnitName}
use Rattle.event_verdicts.specs.declared.verdict.Verdict.{Verdict}
use Rattle.event_verdicts.specs.declared.verdict.Verdict.TheVariants as v
use Rattle.spec_keys.specs.History.{History}
use Rattle.ide_prefix.specs.Packet.{Packet}
use Rattle.trusted_memory.specs.Writes.{Write}
use Rattle.trusted_memory.specs.declared.queue.WaitingRead.{WaitingRead}
use Rattle.spec_links.specs.History.{sent_bytes}
use Rattle.spec_links.specs.Memory.{effects_each}
use Rattle.case_runs.specs.InterfaceCases.{interface_plan}
use Rattle.case_runs.specs.MemoryCases.{IsInterfaceDue, reported_history, started_event, sealed_write, accepted_write}

-- a read of 4 bytes at 10000000h by the requester 0100h, with tag 1
abbrev pub read_request : List ℕ
read_request = 0x00 ∷ 0x00 ∷ 0x00 ∷ 0x01 ∷ 0x01 ∷ 0x00 ∷ 0x01 ∷ 0x0f ∷ 0x10 ∷ 0x00 ∷ 0x00 ∷ 0x00 ∷ []

-- its completion, if 11 22 33 44 stands there
abbrev pub read_completion : List ℕ
read_completion =
    0x4a ∷ 0x00 ∷ 0x00 ∷ 0x01 ∷ 0x00 ∷ 0x00 ∷ 0x00 ∷ 0x04 ∷ 0x01 ∷ 0x00 ∷ 0x01 ∷ 0x00 ∷ 0x11 ∷ 0x22 ∷ 0x33 ∷ 0x44 ∷ []

-- the only packet of a verdict, the first of its sub-stream, with T
abbrev pub trusted_packet : ℕ → PortName → SubKind → ℕ → List SealedPacket
trusted_packet number port sub posted =
    record {
      number = number;
      port = port;
      stream = 5;
      sub = sub;
      draw = 0;
      unit = 1;
      m = true;
      k = false;
      t = true;
      posted = posted;
      sync = false;
    } ∷ []

-- the device sends the read, and it arrives
abbrev pub sealed_request : ℕ → ℕ → Event × Verdict
sealed_request number posted =
    (Send (device_port 0) read_request false false, v.Sealed (trusted_packet number (device_port 0) Npr posted))

abbrev pub read_unit : UnitName
read_unit = record { stream = 5; sub = Npr; draw = 0; unit = 1 }

abbrev pub queued_read : ℕ → Event × Verdict
queued_read number = (Pass number, v.Accepted (host_port 0) read_unit (Queued ∷ []))

abbrev pub answer : Event
answer = Access (ae.Answer 0)

-- ---- memory has what was written

abbrev pub written_history : History
written_history = accepted_write Applied ∷ sealed_write ∷ started_event ∷ reported_history

abbrev pub waiting_history : History
waiting_history = queued_read 2 ∷ sealed_request 2 1 ∷ written_history

-- the write that was applied, and the read that waits
abbrev pub applied_write : Write
applied_write = record {
  span = record { address = 0x10000000; first_be = 15; last_be = 0; length = 1 };
  payload = 0x11 ∷ 0x22 ∷ 0x33 ∷ 0x44 ∷ [];
}

abbrev pub waiting_read : WaitingRead
waiting_read = record {
  read = record {
    span = record { address = 0x10000000; first_be = 15; last_be = 0; length = 1 };
    requester = 0x0100;
    tag = 1;
    tc = 0;
    attr = 0;
  };
  came = record { end = host_port 0; stream = 5; draw = 0; trusted = true };
  target = None;
}

abbrev pub answered_read : Event × Verdict
answered_read = (answer, v.Sealed (trusted_packet 3 (host_port 0) Cpl 0))

-- ---- the interface is halted before the answer

abbrev pub halted_waiting : History
halted_waiting = (Interface (ie.Halt 0 None), v.Interface (iv.Halted 0 1)) ∷ queued_read 1 ∷ sealed_request 1 0
    ∷ started_event
    ∷ reported_history

-- ---- two reads of one unit, while one more may wait

abbrev pub read_packet : Packet
read_packet =
    record {
      prefix = record { m = false; k = false; t = true; sub = Npr; stream = 5; posted = 0 };
      head = read_request;
      body = [];
      tag = [];
    }

abbrev pub OneMore : Type 0
OneMore =
    effects_each interface_plan
    (record {
      grants = λ link requester. Some (record { stream = 5; floor = 0 });
      waiting = λ port. 63;
      statuses = λ link. [];
    })
    63 (host_port 0) read_unit (read_packet ∷ read_packet ∷ [])
    ≡ Queued ∷ Blocked Full ∷ []

-- A read waits until it is answered from memory, once. If its interface has been halted it is dropped. The second read
-- of a unit counts the first.
abbrev pub ReadCases : Type 0
ReadCases =
    IsInterfaceDue written_history (sealed_request 2 1)
    × IsInterfaceDue (sealed_request 2 1 ∷ written_history) (queued_read 2)
    × IsInterfaceDue waiting_history answered_read
    × (sent_bytes interface_plan waiting_history answer ≡ read_completion)
    × IsInterfaceDue (answered_read ∷ waiting_history) (answer, v.Access (av.Empty 0))
    × IsInterfaceDue halted_waiting (answer, v.Access (av.Dropped 0 NotRunning))
    × OneMore
