-- What accepted units do to trusted memory, which reads wait, and what stands in memory.
use Rattle.std.specs.Prelude.{◌++◌, ◌∷◌, ◌≡◌, Bool, List, None, Ok, Option, [], drop, false, length, true, ℕ}
use Rattle.spec_links.specs.Terms.{PortName, Plan, Event, InterfaceEvent, Effect, UnitName, Verdict, Accepted, Packet}
use Rattle.spec_links.specs.Terms.{History, Device, is_sync_packet, read_head_of, Write, newest_first}
use Rattle.spec_links.specs.Terms.{byte_last_written, bytes_from, in_one_region, grant_at, MemoryContents, IsLeftBy}
use Rattle.spec_links.specs.Terms.{Leads, admitted_write, memory_write, WaitingRead, history_statuses}
use Rattle.spec_links.specs.Ports.{port_of, is_host_port}
use Rattle.tlp_layout.specs.declared.head.HeadView.{HeadView}
use Rattle.spec_links.specs.History.{arrived_packet, received_in, packets_in_hold, sealed_packets}
pub use Rattle.spec_links.specs.Admission.{Grants, Policy, requester_bound, unit_grant, host_effect, device_effect}
pub use Rattle.spec_links.specs.Admission.{effect_by, waiting_then, effects_each, effects_under_policy, payload_write}
pub use Rattle.spec_links.specs.Admission.{write_if_admitted, admitted_each, plain_of, admitted_writes}
use Rattle.spec_links.specs.Sent.{queued_in, reads_taken}
use Rattle.spec_links.specs.Hops.{HopTlp, entering_end, accepted_tlps_in_list, forwarded_count}
use Rattle.ide_types.specs.declared.direction.Direction.{Direction}
use Rattle.event_verdicts.specs.declared.verdict.Verdict.TheVariants as v
use Rattle.script_events.specs.declared.event.InterfaceEvent.TheVariants as ie
use Rattle.ide_types.specs.declared.verdict.InterfaceVerdict.TheVariants as iv

-- ---- reads

-- those that were queued at a port since its link's last reset, in order
abbrev pub queued_reads : Plan → History → PortName → List WaitingRead
queued_reads plan h port = queued_in plan (sealed_packets plan h) h port

-- those that wait there for their answer
abbrev pub waiting_reads : Plan → History → PortName → List WaitingRead
waiting_reads plan h port = drop (reads_taken h port) (queued_reads plan h port)

-- ---- TLPs at switches

-- those that were accepted at an end since the last reset of the link's hop, in order
abbrev pub accepted_tlps : Plan → History → ℕ → PortName → List HopTlp
accepted_tlps plan h link end = accepted_tlps_in_list plan (sealed_packets plan h) h link end

-- those that wait at its switch in a direction
abbrev pub hop_waiting : Plan → History → ℕ → Direction → List HopTlp
hop_waiting plan h link d = drop (forwarded_count h link d) (accepted_tlps plan h link (entering_end link d))

-- ---- effects

-- by what the history says of requesters, of the reads that wait, and of devices' interfaces
abbrev pub policy_at : Plan → History → Policy
policy_at plan h = record {
  grants = grant_at plan h;
  waiting = λ port. length (waiting_reads plan h port);
  statuses = history_statuses plan h;
}

abbrev pub effects_of : Plan → History → PortName → UnitName → List Packet → List Effect
effects_of plan h port unit ps = effects_under_policy plan (policy_at plan h) (port_of plan port) unit ps

-- ---- the writes that are admitted

-- the unit that an accepted verdict ends
abbrev pub unit_ended : Plan → History → Event → PortName → UnitName → List Packet
unit_ended plan h e port unit =
    packets_in_hold plan h (received_in port unit) unit.draw unit.unit ++ arrived_packet plan h e ∷ []

-- of the unit that an accepted verdict ends, by what the history says of requesters
abbrev pub accepted_unit_writes : Plan → History → Event → PortName → UnitName → List (Option Write)
accepted_unit_writes plan h e port unit = admitted_writes plan (grant_at plan h) port unit
    (unit_ended plan h e port unit)

-- the writes of accepted units that are admitted, the newest first
unfoldable pub writes : Plan → History → List Write
writes plan [] = []
writes plan ((e, Accepted port unit effects) ∷ h) =
    newest_first (accepted_unit_writes plan h e port unit) (writes plan h)
writes plan (_ ∷ h) = writes plan h

-- ---- what stands there

abbrev pub shown_if : Bool → List ℕ → Verdict
shown_if true bytes = v.Interface (iv.Memory bytes)
shown_if false bytes = v.Nothing

-- the bytes from an address on, if one region has them all
abbrev pub memory_due : Plan → History → InterfaceEvent → Verdict
memory_due plan h (ie.Memory at len) =
    shown_if (in_one_region plan.memory at len) (bytes_from (byte_last_written (writes plan h)) at len)
memory_due plan h e = v.Nothing

-- ---- contents that stand for the history

abbrev pub accepts_unit : Verdict → Bool
accepts_unit (Accepted port unit effects) = true
accepts_unit w = false

-- If contents are what the writes of a history left: the contents that an accepted unit's packets lead to are so once
-- its verdict is there, and at any other verdict the same contents are. At a device's port no packet leads elsewhere,
-- nor does a sync packet; at a host's port a packet leads to where the write of its header and payload does, if it is
-- admitted.
pub record ContentsFollow : Type 0 where
  pub accepted : (plan : Plan) (h : History) (e : Event) (port : PortName) (unit : UnitName) (effects : List Effect)
      (m n : MemoryContents) → IsLeftBy m (writes plan h) → Leads m (accepted_unit_writes plan h e port unit) n
      → IsLeftBy n (writes plan ((e, Accepted port unit effects) ∷ h))
  pub others : (plan : Plan) (h : History) (e : Event) (w : Verdict) (m : MemoryContents) → accepts_unit w ≡ false
      → IsLeftBy m (writes plan h) → IsLeftBy m (writes plan ((e, w) ∷ h))
  pub at_device : (plan : Plan) (h : History) (e : Event) (port : PortName) (unit : UnitName) (m : MemoryContents)
      → port.side ≡ Device → Leads m (accepted_unit_writes plan h e port unit) m
  pub sync : (plan : Plan) (grants : Grants) (port : PortName) (unit : UnitName) (p : Packet) (payload : List ℕ)
      → is_sync_packet p ≡ true → write_if_admitted plan grants port unit p payload ≡ None
  pub packet : (plan : Plan) (grants : Grants) (port : PortName) (unit : UnitName) (p : Packet) (payload : List ℕ)
      (head : HeadView) → is_sync_packet p ≡ false → is_host_port plan port ≡ true → read_head_of p.head ≡ Ok head
      → write_if_admitted plan grants port unit p payload
      ≡ admitted_write plan.memory p.prefix.t (unit_grant grants port unit head) (memory_write head payload)
