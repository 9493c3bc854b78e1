-- Worked cases of guarded memory: events with the verdicts that were worked out by hand, in order.
use Rattle.std.specs.Prelude.{ℕ, Bool, false, true, None, List, [], ◌∷◌}
use Rattle.ide_types.specs.Ports.{host_port, device_port}
use Rattle.ide_types.specs.declared.sub.SubKind.TheVariants.{Pr}
use Rattle.ide_types.specs.declared.verdict.InterfaceVerdict.TheVariants as iv
use Rattle.script_events.specs.declared.event.Event.{Event}
use Rattle.script_events.specs.declared.event.Event.TheVariants.{Access, Send, Pass, Establish, Interface}
use Rattle.script_events.specs.declared.event.AccessEvent.TheVariants as ae
use Rattle.script_events.specs.declared.event.InterfaceEvent.TheVariants as ie
use Rattle.event_verdicts.specs.declared.access.AccessVerdict.TheVariants as av
use Rattle.event_verdicts.specs.declared.verdict.Effect.{Effect}
use Rattle.event_verdicts.specs.declared.verdict.Effect.TheVariants.{Stored, Blocked}
use Rattle.event_verdicts.specs.declared.verdict.BlockCause.TheVariants.{NotTrusted, NotRunning}
use Rattle.event_verdicts.specs.declared.verdict.SealedPacket.{SealedPacket}
use Rattle.event_verdicts.specs.declared.verdict.Verdict.{Verdict}
use Rattle.event_verdicts.specs.declared.verdict.Verdict.TheVariants as v
use Rattle.spec_keys.specs.History.{History}
use Rattle.case_runs.specs.MemoryCases.{IsInterfaceDue, reported_history, started_event}

-- a write of AA BB CC DD at 40000000h, the first bytes of BAR 0, by the requester 0000h
abbrev pub bar_write : List ℕ
bar_write =
    0x40 ∷ 0x00 ∷ 0x00 ∷ 0x01 ∷ 0x00 ∷ 0x00 ∷ 0x00 ∷ 0x0f ∷ 0x40 ∷ 0x00 ∷ 0x00 ∷ 0x00 ∷ 0xaa ∷ 0xbb ∷ 0xcc ∷ 0xdd ∷ []

-- the host sends it as packet n, the n-th unit of its sub-stream
abbrev pub host_packet : ℕ → Bool → List SealedPacket
host_packet n t =
    record {
      number = n;
      port = host_port 0;
      stream = 5;
      sub = Pr;
      draw = 0;
      unit = n;
      m = true;
      k = false;
      t = t;
      posted = 0;
      sync = false;
    } ∷ []

abbrev pub sent_write : ℕ → Bool → Event × Verdict
sent_write n t = (Send (host_port 0) bar_write false t, v.Sealed (host_packet n t))

-- it is accepted, with this effect
abbrev pub taken_write : ℕ → Effect → Event × Verdict
taken_write n effect =
    (Pass n, v.Accepted (device_port 0) (record { stream = 5; sub = Pr; draw = 0; unit = n }) (effect ∷ []))

-- what stands in the first four bytes of BAR 0
abbrev pub shows : List ℕ → Event × Verdict
shows bytes = (Access (ae.Mmio 0 0 0 4), v.Access (av.Mmio bytes))

-- ---- in RUN

abbrev pub running_history : History
running_history = started_event ∷ reported_history

abbrev pub stored_history : History
stored_history = taken_write 1 Stored ∷ sent_write 1 true ∷ running_history

abbrev pub blocked_history : History
blocked_history = taken_write 2 (Blocked NotTrusted) ∷ sent_write 2 false ∷ stored_history

abbrev pub halted_mmio_history : History
halted_mmio_history = (Interface (ie.Halt 0 None), v.Interface (iv.Halted 0 1)) ∷ blocked_history

-- ---- before a lock

abbrev pub keyed_history : History
keyed_history = (Establish 0 5 None, v.Established 0 5 0) ∷ []

abbrev pub refused_history : History
refused_history = taken_write 1 (Blocked NotRunning) ∷ sent_write 1 true ∷ keyed_history

-- In RUN a trusted write is stored and stands in its range; one that is not trusted is blocked; a halt sets the range
-- to 0. Before a lock it is the other way round: a trusted write is blocked, and one that is not trusted is stored.
abbrev pub MmioCases : Type 0
MmioCases =
    IsInterfaceDue running_history (sent_write 1 true)
    × IsInterfaceDue (sent_write 1 true ∷ running_history) (taken_write 1 Stored)
    × IsInterfaceDue stored_history (shows (0xaa ∷ 0xbb ∷ 0xcc ∷ 0xdd ∷ []))
    × IsInterfaceDue stored_history (sent_write 2 false)
    × IsInterfaceDue (sent_write 2 false ∷ stored_history) (taken_write 2 (Blocked NotTrusted))
    × IsInterfaceDue blocked_history (Interface (ie.Halt 0 None), v.Interface (iv.Halted 0 1))
    × IsInterfaceDue halted_mmio_history (shows (0 ∷ 0 ∷ 0 ∷ 0 ∷ []))
    × IsInterfaceDue (sent_write 1 true ∷ keyed_history) (taken_write 1 (Blocked NotRunning))
    × IsInterfaceDue (sent_write 2 false ∷ refused_history) (taken_write 2 Stored)
