-- What an arrival comes to depends on the interfaces of the port's device, and on nothing else of its link.
use Rattle.all_ends.proofs.Terms.{◌≡◌, ◌∙◌, ap, subst, List, ◌++◌, length, map, Option, PortName, PortEnd, LinkEnds}
use Rattle.all_ends.proofs.Terms.{Verdict}
use Rattle.ide_types.specs.declared.plan.Region.{Region}
use Rattle.ide_port.specs.declared.answer.Arrival.{Arrival}
use Rattle.arrival_verdicts.specs.{Grants, reads_by, targets_at}
use Rattle.trusted_memory.specs.{MemoryContents}
use Rattle.guarded_memory.specs.{Happened, MmioLeads}
use Rattle.link_stores.specs.{device_statuses, reads_on}
use Rattle.link_stores.specs.declared.link.LinkAccesses.{LinkAccesses}
use Rattle.interface_ends.specs.Replies.{DeviceTdis}
use Rattle.arrival_verdicts.specs.Verdicts.{arrival_verdict, effects_from, packet_stored, of_unit}
use Rattle.all_ends.specs.AllEnds.{Comes, link_statuses}

pub comes_as : (regions : List Region) (grants : Grants) (end port : PortName) (answer : Arrival) (verdict : Verdict)
    (m n : MemoryContents) (a a' : LinkAccesses) (e : PortEnd) (l l' : LinkEnds)
    → l.device.interfaces ≡ l'.device.interfaces → Comes regions grants end port answer verdict m n a a' e l
    → Comes regions grants end port answer verdict m n a a' e l'
comes_as regions grants end port answer verdict m n a a' e l l' same came =
    let stand : link_statuses l a ≡ link_statuses l' a =
    ap (λ (d : DeviceTdis). device_statuses a.floors d) same in
    record {
      verdict_is = came.verdict_is ∙ (λ j. arrival_verdict end port answer
          (λ unit. effects_from regions grants (stand j) (length (reads_on port.side a)) port unit e.delivered));
      written = came.written;
      reads_are = came.reads_are ∙ (λ j. reads_on port.side a ++ of_unit answer
          (λ unit. reads_by (targets_at port.side (stand j)) end unit
          (effects_from regions grants (stand j) (length (reads_on port.side a)) port unit e.delivered) e.delivered));
      stored = subst (λ (hs : List (Option Happened)). MmioLeads a.guarded hs a'.guarded)
          (λ j. of_unit answer (λ unit. map (packet_stored (stand j) port unit) e.delivered)) came.stored;
      others_stay = came.others_stay;
      floors_stay = came.floors_stay;
      sizes_stay = came.sizes_stay;
      carried_stay = came.carried_stay;
    }
