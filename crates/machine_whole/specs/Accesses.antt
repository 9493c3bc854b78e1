-- What is kept of reads that wait, of TLPs that wait at switches and of the memory of devices' interfaces, and what an
-- event makes of it.
use Rattle.std.specs.Prelude.{ℕ, ◌==◌, ◌++◌, List, [], ◌∷◌, drop, map, unwrap_or, if◌then◌else◌}
use Rattle.ide_types.specs.declared.direction.Direction.{Direction}
use Rattle.ide_types.specs.declared.port.PortName.{PortName}
use Rattle.ide_types.specs.declared.port.Side.TheVariants.{Device}
use Rattle.ide_types.specs.declared.sub.SubKind.TheVariants.{Pr}
use Rattle.ide_types.specs.declared.plan.Plan.{Plan}
use Rattle.ide_prefix.specs.Packet.{Packet}
use Rattle.script_events.specs.declared.event.Event.{Event}
use Rattle.script_events.specs.declared.event.Event.TheVariants as event
use Rattle.event_verdicts.specs.declared.verdict.Verdict.{Verdict}
use Rattle.event_verdicts.specs.declared.verdict.Verdict.TheVariants as v
use Rattle.event_verdicts.specs.declared.access.AccessVerdict.TheVariants as av
use Rattle.spec_interfaces.specs.Sites.{Site, sites}
use Rattle.spec_interfaces.specs.Devices.{is_run}
use Rattle.spec_interfaces.specs.Floors.{floor_after_event}
use Rattle.machine_whole.specs.Interfaces.{Face, Faces}
use Rattle.spec_links.specs.{WaitingRead}
use Rattle.spec_interfaces.specs.{InterfaceStatus, interface_status, Happened, newest_happened}
use Rattle.spec_links.specs.Sent.{answers_at, reads_by, targets_at}
use Rattle.spec_links.specs.Plan.{is_same_port}
use Rattle.spec_links.specs.Hops.{HopTlp, tlps_with}
use Rattle.spec_links.specs.Memory.{plain_of}
use Rattle.spec_links.specs.Ports.{port_of}
use Rattle.spec_links.specs.Guarded.{happens_by_packets}
use Rattle.machine_operations.specs.{LinkState, find, port_at, receiving_draw_at}
use Rattle.law_reads.specs.Waiting.{waiting_next}

-- of each port the reads that wait, the oldest first; of each link what happened to its device's memory, the newest
-- first; of each interface, in the topology's order, the least draw that its device takes trusted requests under; and
-- of
-- each link's hop the TLPs that wait in a direction, the first first
pub record AccessState : Type 0 where
  pub waiting : PortName → List WaitingRead
  pub floors : List ℕ
  pub happened : ℕ → List Happened
  pub carried : ℕ → Direction → List HopTlp

abbrev pub first_accesses : Plan → AccessState
first_accesses plan =
    record {
      waiting = λ port. [];
      floors = map (λ x. 0) (sites plan);
      happened = λ link. [];
      carried = λ link d. [];
    }

-- ---- how a device's interfaces stand

abbrev pub face_statuses : ℕ → List Site → List Face → List ℕ → List InterfaceStatus
face_statuses link (x ∷ xs) (f ∷ fs) (n ∷ ns) =
    if x.link == link then interface_status f.tdi n ∷ face_statuses link xs fs ns else face_statuses link xs fs ns
face_statuses link _ _ _ = []

-- ---- one step

-- those that wait at a port, by how the interfaces of each link's device stood before the event, if it had this
-- verdict,
-- and ended a unit of these packets, or none
abbrev pub waiting_reads_after : Plan → (ℕ → List InterfaceStatus) → List Packet → Event → Verdict → PortName
    → List WaitingRead → List WaitingRead
waiting_reads_after plan statuses ps e (v.Accepted end unit effects) port rs =
    if is_same_port (port_of plan end) port
    then rs ++ reads_by (targets_at port.side (statuses port.line)) end unit effects ps else rs
waiting_reads_after plan statuses ps e (v.Sealed ds) port rs = if answers_at port e then drop 1 rs else rs
waiting_reads_after plan statuses ps e (v.Access (av.Dropped interface cause)) port rs =
    if answers_at port e then drop 1 rs else rs
waiting_reads_after plan statuses ps (event.Reset k ends) (v.Reset l) port rs = if l == port.line then [] else rs
waiting_reads_after plan statuses ps e w port rs = rs

-- the TLPs of the unit that a verdict ends, if it ends one of these packets
abbrev pub unit_tlps : Plan → List Packet → Verdict → List HopTlp
unit_tlps plan ps (v.Accepted port unit effects) = tlps_with (plain_of plan port unit ps) ps
unit_tlps plan ps w = []

-- the greatest draw that an end receives posted requests under on a stream, 0 if none
abbrev pub posted_draw_at : Plan → LinkState → PortName → ℕ → ℕ
posted_draw_at plan st port stream = unwrap_or (receiving_draw_at Pr (find plan st port stream)) 0

-- that of the device on an interface's stream
abbrev pub device_draw_at : Plan → LinkState → Site → ℕ
device_draw_at plan st x = posted_draw_at plan st (port_at Device x.link) x.plan.stream

-- by what is kept of the interfaces before the event, and after it
abbrev pub floors_after : Event → (Site → ℕ) → List Site → List Face → List Face → List ℕ → List ℕ
floors_after e draw (x ∷ xs) (f ∷ fs) (g ∷ gs) (n ∷ ns) =
    floor_after_event e x (is_run f.tdi.state) (is_run g.tdi.state) (draw x) n ∷ floors_after e draw xs fs gs ns
floors_after e draw _ _ _ _ = []

-- by the ports, and how the interfaces of each link's device stood, before the event
abbrev pub accesses_after : Plan → LinkState → Faces → Faces → List Packet → Event → Verdict → AccessState → AccessState
accesses_after plan st before after ps e w a =
    let statuses : ℕ → List InterfaceStatus = λ link. face_statuses link (sites plan) before.list a.floors in
    record {
      waiting = λ port. waiting_reads_after plan statuses ps e w port (a.waiting port);
      floors = floors_after e (device_draw_at plan st) (sites plan) before.list after.list a.floors;
      happened = λ link. newest_happened (happens_by_packets plan statuses ps e w link) (a.happened link);
      carried = λ link d. waiting_next (unit_tlps plan ps w) link d e w (a.carried link d);
    }
