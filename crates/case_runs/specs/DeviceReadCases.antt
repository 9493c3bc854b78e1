-- Worked cases of reads of a device's memory: events with the verdicts that were worked out by hand, in order.
use Rattle.std.specs.Prelude.{◌≡◌, ℕ, Bool, false, true, Some, None, List, [], ◌∷◌, replicate}
use Rattle.ide_types.specs.Ports.{host_port, device_port}
use Rattle.ide_types.specs.declared.sub.SubKind.TheVariants.{Npr, Cpl}
use Rattle.ide_types.specs.declared.verdict.InterfaceVerdict.TheVariants as iv
use Rattle.script_events.specs.declared.event.Event.{Event}
use Rattle.script_events.specs.declared.event.Event.TheVariants.{Access, Send, Pass, Interface}
use Rattle.script_events.specs.declared.event.AccessEvent.TheVariants as ae
use Rattle.script_events.specs.declared.event.InterfaceEvent.TheVariants as ie
use Rattle.event_verdicts.specs.declared.access.AccessVerdict.TheVariants as av
use Rattle.event_verdicts.specs.declared.verdict.Effect.TheVariants.{Queued}
use Rattle.event_verdicts.specs.declared.verdict.BlockCause.TheVariants.{NotTrusted, NotRunning}
use Rattle.event_verdicts.specs.declared.verdict.SealedPacket.{SealedPacket}
use Rattle.event_verdicts.specs.declared.verdict.Verdict.{Verdict}
use Rattle.event_verdicts.specs.declared.verdict.Verdict.TheVariants as v
use Rattle.spec_keys.specs.History.{History}
use Rattle.trusted_memory.specs.declared.queue.WaitingRead.{WaitingRead}
use Rattle.spec_links.specs.History.{sent_bytes}
use Rattle.case_runs.specs.InterfaceCases.{interface_plan}
use Rattle.case_runs.specs.MemoryCases.{IsInterfaceDue}
use Rattle.case_runs.specs.MmioCases.{stored_history, keyed_history}
use Rattle.case_runs.specs.ReadCases.{trusted_packet, read_unit}

-- a read of 4 bytes at 40000000h, the first of BAR 0, by the requester 0000h, with tag 1
abbrev pub bar_read : List ℕ
bar_read = 0x00 ∷ 0x00 ∷ 0x00 ∷ 0x01 ∷ 0x00 ∷ 0x00 ∷ 0x01 ∷ 0x0f ∷ 0x40 ∷ 0x00 ∷ 0x00 ∷ 0x00 ∷ []

-- its completion by the interface 0100h, if AA BB CC DD stands there
abbrev pub bar_completion : List ℕ
bar_completion =
    0x4a ∷ 0x00 ∷ 0x00 ∷ 0x01 ∷ 0x01 ∷ 0x00 ∷ 0x00 ∷ 0x04 ∷ 0x00 ∷ 0x00 ∷ 0x01 ∷ 0x00 ∷ 0xaa ∷ 0xbb ∷ 0xcc ∷ 0xdd ∷ []

abbrev pub respond : Event
respond = Access (ae.Respond 0)

-- the read as it waits
abbrev pub waiting_bar_read : Bool → WaitingRead
waiting_bar_read t = record {
  read = record {
    span = record { address = 0x40000000; first_be = 15; last_be = 0; length = 1 };
    requester = 0;
    tag = 1;
    tc = 0;
    attr = 0;
  };
  came = record { end = device_port 0; stream = 5; draw = 0; trusted = t };
  target = Some (record { interface = 0; bar = 0 });
}

-- it is queued as packet n, the first of its sub-stream
abbrev pub queued_bar_read : ℕ → Event × Verdict
queued_bar_read n = (Pass n, v.Accepted (device_port 0) read_unit (Queued ∷ []))

-- ---- in RUN, with T

abbrev pub asked_with_t : Event × Verdict
asked_with_t = (Send (host_port 0) bar_read false true, v.Sealed (trusted_packet 2 (host_port 0) Npr 1))

abbrev pub asked_history : History
asked_history = queued_bar_read 2 ∷ asked_with_t ∷ stored_history

abbrev pub responded : Event × Verdict
responded = (respond, v.Sealed (trusted_packet 3 (device_port 0) Cpl 0))

abbrev pub halted_asked : History
halted_asked = (Interface (ie.Halt 0 None), v.Interface (iv.Halted 0 1)) ∷ asked_history

-- ---- before a lock, without T

abbrev pub untrusted_packet : List SealedPacket
untrusted_packet =
    record {
      number = 1;
      port = host_port 0;
      stream = 5;
      sub = Npr;
      draw = 0;
      unit = 1;
      m = true;
      k = false;
      t = false;
      posted = 0;
      sync = false;
    } ∷ []

abbrev pub asked_without_t : Event × Verdict
asked_without_t = (Send (host_port 0) bar_read false false, v.Sealed untrusted_packet)

abbrev pub unlocked_asked : History
unlocked_asked = queued_bar_read 1 ∷ asked_without_t ∷ keyed_history

abbrev pub lock_now : Event × Verdict
lock_now = (Interface (ie.Lock 0 None), v.Interface (iv.Locked 0 (replicate 32 1)))

-- In RUN a trusted read waits until it is answered from the memory behind its BAR, with T, once; if the interface has
-- been halted it is dropped. A read without T that was queued before a lock is not answered out of what is locked.
abbrev pub DeviceReadCases : Type 0
DeviceReadCases =
    IsInterfaceDue stored_history asked_with_t
    × IsInterfaceDue (asked_with_t ∷ stored_history) (queued_bar_read 2)
    × IsInterfaceDue asked_history responded
    × (sent_bytes interface_plan asked_history respond ≡ bar_completion)
    × IsInterfaceDue (responded ∷ asked_history) (respond, v.Access (av.Empty 0))
    × IsInterfaceDue halted_asked (respond, v.Access (av.Dropped 0 NotRunning))
    × IsInterfaceDue keyed_history asked_without_t
    × IsInterfaceDue (asked_without_t ∷ keyed_history) (queued_bar_read 1)
    × IsInterfaceDue unlocked_asked lock_now
    × IsInterfaceDue (lock_now ∷ unlocked_asked) (respond, v.Access (av.Dropped 0 NotTrusted))
