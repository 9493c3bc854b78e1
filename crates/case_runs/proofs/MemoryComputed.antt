-- The worked cases, from the packets that were computed once.
use Rattle.std.proofs.Common.{◌≡◌, ℕ, List, [], ◌∷◌, Option, true, refl, ap, ◌∙◌}
use Rattle.std.specs.Prelude.{bytes_eq}
use Rattle.ide_types.specs.Ports.{host_port, device_port}
use Rattle.ide_types.specs.declared.sub.SubKind.TheVariants.{Pr}
use Rattle.script_events.specs.declared.event.InterfaceEvent.TheVariants as ie
use Rattle.event_verdicts.specs.declared.verdict.UnitName.{UnitName}
use Rattle.trusted_memory.specs.Regions.{in_one_region}
use Rattle.trusted_memory.specs.Memory.{bytes_from}
use Rattle.case_runs.specs.InterfaceCases.{interface_plan, write_tlp}
use Rattle.case_runs.specs.ReadCases.{applied_write}
use Rattle.case_runs.proofs.Ends.{comes_at, ends_at}
use Rattle.case_runs.proofs.MemoryPackets.{packet_description, device_write, device_write_is, device_tag, device_tag_is}
use Rattle.case_runs.proofs.MemoryPackets.{device_opened}
use Rattle.spec_interfaces.specs.Views.{grant_at}
use Rattle.spec_interfaces.specs.Due.{interface_verdict_due as interface_due}
use Rattle.trusted_memory.specs.Writes.{Write, byte_last_written, newest_first}
use Rattle.spec_links.specs.History.{packet_of}
use Rattle.spec_links.specs.Memory.{admitted_writes, admitted_each, shown_if}
use Rattle.spec_links.specs.Packets.{ArrivedBytes, arrival_packet}
use Rattle.event_verdicts.specs.declared.verdict.Effect.TheVariants.{Applied, Blocked}
use Rattle.event_verdicts.specs.declared.verdict.BlockCause.TheVariants.{NotRunning, Stale}
use Rattle.case_runs.specs.MemoryCases.{IsInterfaceDue, MemoryCases, reported_history, started_event, unheard_start}
use Rattle.case_runs.specs.MemoryCases.{sealed_write, accepted_write, memory_read_back, halted_history, run_again}
use Rattle.case_runs.proofs.Literals.{due_on_literals}

abbrev pub write_unit : UnitName
write_unit = record { stream = 5; sub = Pr; draw = 0; unit = 1 }

-- what the accepted write leaves in memory
pub write_admitted : newest_first
    (admitted_writes interface_plan (grant_at interface_plan (sealed_write ∷ started_event ∷ reported_history))
    (host_port 0) write_unit
    (arrival_packet (comes_at (host_port 0)
    (packet_of interface_plan [] write_tlp (packet_description 1 (device_port 0) Pr 1 true 0) [])) ∷ [])) []
    ≡ applied_write ∷ []
unfolding due_on_literals
write_admitted =
    ap (λ (o : Option ArrivedBytes). newest_first
    (admitted_writes interface_plan (grant_at interface_plan (sealed_write ∷ started_event ∷ reported_history))
    (host_port 0) write_unit (arrival_packet o ∷ [])) [])
    (ap (comes_at (host_port 0)) device_write_is)
    ∙ ap (λ (plain : List ℕ). newest_first
    (admitted_each interface_plan (grant_at interface_plan (sealed_write ∷ started_event ∷ reported_history))
    (host_port 0) write_unit plain (device_write ∷ [])) [])
    device_opened

-- each is a declaration of its own, since the checker counts its steps by declarations
sealed_due : IsInterfaceDue (started_event ∷ reported_history) sealed_write
unfolding due_on_literals
sealed_due = refl

applied_due : IsInterfaceDue (sealed_write ∷ started_event ∷ reported_history) (accepted_write Applied)
unfolding due_on_literals
applied_due =
    ends_at interface_plan (sealed_write ∷ started_event ∷ reported_history) _ (host_port 0) device_write write_unit
    true
    (ap (comes_at (host_port 0)) device_write_is) refl (ap (bytes_eq device_tag) device_tag_is)

shown_due : IsInterfaceDue (accepted_write Applied ∷ sealed_write ∷ started_event ∷ reported_history) memory_read_back
unfolding due_on_literals
shown_due =
    ap (λ (ws : List Write). interface_due interface_plan
    (accepted_write Applied ∷ sealed_write ∷ started_event ∷ reported_history) (ie.Memory 0x10000000 6)
    (shown_if (in_one_region interface_plan.memory 0x10000000 6) (bytes_from (byte_last_written ws) 0x10000000 6)))
    write_admitted

unheard_due : IsInterfaceDue (unheard_start ∷ reported_history) sealed_write
unfolding due_on_literals
unheard_due = refl

blocked_due : IsInterfaceDue (sealed_write ∷ unheard_start ∷ reported_history) (accepted_write (Blocked NotRunning))
unfolding due_on_literals
blocked_due =
    ends_at interface_plan (sealed_write ∷ unheard_start ∷ reported_history) _ (host_port 0) device_write write_unit
    true
    (ap (comes_at (host_port 0)) device_write_is) refl (ap (bytes_eq device_tag) device_tag_is)

halted_due : IsInterfaceDue halted_history (accepted_write (Blocked NotRunning))
unfolding due_on_literals
halted_due = ends_at interface_plan (halted_history) _ (host_port 0) device_write write_unit true
    (ap (comes_at (host_port 0)) device_write_is) refl (ap (bytes_eq device_tag) device_tag_is)

stale_due : IsInterfaceDue run_again (accepted_write (Blocked Stale))
unfolding due_on_literals
stale_due = ends_at interface_plan (run_again) _ (host_port 0) device_write write_unit true
    (ap (comes_at (host_port 0)) device_write_is) refl (ap (bytes_eq device_tag) device_tag_is)

pub computed : MemoryCases
computed = (sealed_due, applied_due, shown_due, unheard_due, blocked_due, halted_due, stale_due)
