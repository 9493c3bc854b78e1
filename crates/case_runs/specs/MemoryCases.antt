-- Worked cases: events with the verdicts that were worked out by hand, in order.
use Rattle.std.specs.Prelude.{◌≡◌, false, true, Some, None, [], ◌∷◌, replicate}
use Rattle.ide_types.specs.Ports.{host_port, device_port}
use Rattle.ide_types.specs.declared.sub.SubKind.TheVariants.{Pr}
use Rattle.ide_types.specs.declared.verdict.InterfaceVerdict.TheVariants as iv
use Rattle.script_events.specs.declared.event.Lost.TheVariants.{Reply}
use Rattle.script_events.specs.declared.event.Event.{Event}
use Rattle.script_events.specs.declared.event.Event.TheVariants.{Send, Pass, Establish, Refresh, Interface}
use Rattle.script_events.specs.declared.event.InterfaceEvent.TheVariants as ie
use Rattle.event_verdicts.specs.declared.verdict.Effect.{Effect}
use Rattle.event_verdicts.specs.declared.verdict.Effect.TheVariants.{Applied, Blocked}
use Rattle.event_verdicts.specs.declared.verdict.BlockCause.TheVariants.{NotRunning, Stale}
use Rattle.event_verdicts.specs.declared.verdict.Verdict.{Verdict}
use Rattle.event_verdicts.specs.declared.verdict.Verdict.TheVariants as v
use Rattle.spec_keys.specs.History.{History}
use Rattle.spec_links.specs.Due.{due}
use Rattle.case_runs.specs.InterfaceCases.{interface_plan, device_report, write_tlp, device_packet}

-- the stream is keyed, the interface locked and reported; the newest first
abbrev pub reported_history : History
reported_history =
    (Interface (ie.Report 0 None), v.Interface (iv.Reported 0 device_report))
    ∷ (Interface (ie.Lock 0 None), v.Interface (iv.Locked 0 (replicate 32 1)))
    ∷ (Establish 0 5 None, v.Established 0 5 0) ∷ []

abbrev pub started_event : Event × Verdict
started_event = (Interface (ie.Start 0 None), v.Interface (iv.Started 0 0))

-- the reply to the start is lost
abbrev pub unheard_start : Event × Verdict
unheard_start = (Interface (ie.Start 0 (Some (record { exchange = 1; lost = Reply }))), v.LostReply 1)

-- the device sends the write
abbrev pub sealed_write : Event × Verdict
sealed_write = (Send (device_port 0) write_tlp false false, v.Sealed (device_packet true))

-- it is accepted, with this effect
abbrev pub accepted_write : Effect → Event × Verdict
accepted_write effect =
    (Pass 1, v.Accepted (host_port 0) (record { stream = 5; sub = Pr; draw = 0; unit = 1 }) (effect ∷ []))

-- what stands there then
abbrev pub memory_read_back : Event × Verdict
memory_read_back = (
  Interface (ie.Memory 0x10000000 6),
  v.Interface
      (iv.Memory (0x11 ∷ 0x22 ∷ 0x33 ∷ 0x44 ∷ 0 ∷ 0 ∷ [])),
)

abbrev pub IsInterfaceDue : History → Event × Verdict → Type 0
IsInterfaceDue h x = due interface_plan h x.0 ≡ x.1

-- the run ends, with the write still on the way
abbrev pub halted_history : History
halted_history = (Interface (ie.Halt 0 None), v.Interface (iv.Halted 0 1)) ∷ sealed_write ∷ started_event
    ∷ reported_history

-- the interface runs again, under the next draw
abbrev pub run_again : History
run_again =
    (Interface (ie.Start 0 None), v.Interface (iv.Started 0 1))
    ∷ (Refresh 0 5 None, v.Refreshed 0 5 1)
    ∷ (Interface (ie.Report 0 None), v.Interface (iv.Reported 0 device_report))
    ∷ (Interface (ie.Lock 0 None), v.Interface (iv.Locked 0 (replicate 32 2)))
    ∷ halted_history

-- A trusted write of an interface in RUN is applied, and its bytes stand in memory. While the manager does not know
-- that the interface runs, it is blocked; and so it is after a halt, and in a later run.
abbrev pub MemoryCases : Type 0
MemoryCases =
    IsInterfaceDue (started_event ∷ reported_history) sealed_write
    × IsInterfaceDue (sealed_write ∷ started_event ∷ reported_history) (accepted_write Applied)
    × IsInterfaceDue (accepted_write Applied ∷ sealed_write ∷ started_event ∷ reported_history) memory_read_back
    × IsInterfaceDue (unheard_start ∷ reported_history) sealed_write
    × IsInterfaceDue (sealed_write ∷ unheard_start ∷ reported_history) (accepted_write (Blocked NotRunning))
    × IsInterfaceDue halted_history (accepted_write (Blocked NotRunning))
    × IsInterfaceDue run_again (accepted_write (Blocked Stale))
