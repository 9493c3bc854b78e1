-- The oldest read that waits at a device, the pair that queued it, and what is shown of its bytes.
use Rattle.std.specs.Prelude.{ℕ, ◌≡◌, ◌≤◌, ◌<◌, ◌++◌, ◌∷◌, ◌-◌, false, List, length, slice_get, Some, Ok}
use Rattle.ide_types.specs.Ports.{device_port}
use Rattle.ide_types.specs.declared.interface.BarPlan.{BarPlan}
use Rattle.interface_state.specs.Bars.{bars_of}
use Rattle.spec_links.specs.Terms.{AllByRecursion, PortName, Plan, Event, Access, Effect, UnitName, Verdict, Accepted}
use Rattle.spec_links.specs.Terms.{Packet, History, WaitingRead, ReadTarget, memory_read, read_head_of, Site}
use Rattle.spec_links.specs.Terms.{site_on, history_statuses, target_of, bytes_from}
use Rattle.spec_links.specs.Ports.{port_of}
use Rattle.spec_links.specs.Memory.{queued_reads, unit_ended}
use Rattle.spec_links.specs.Sent.{reads_taken, arrival_of}
use Rattle.spec_links.specs.Due.{due}
use Rattle.spec_interfaces.specs.Sites.{site_at}
use Rattle.spec_interfaces.specs.Devices.{interface_at}
use Rattle.trusted_memory.specs.Spans.{span_byte_count}
use Rattle.tlp_layout.specs.declared.head.HeadView.{HeadView}
use Rattle.script_events.specs.declared.event.AccessEvent.TheVariants as ae
use Rattle.event_verdicts.specs.declared.access.AccessVerdict.TheVariants as av
use Rattle.event_verdicts.specs.declared.verdict.Effect.TheVariants.{Queued}
use Rattle.event_verdicts.specs.declared.verdict.Verdict.TheVariants as v
use Rattle.law_memory.specs.ReadLaws.{resets}

-- Of the reads that were queued at the device since its link's last reset it is the one behind those that responses
-- took; it is of a BAR of an interface of the link.
pub record IsOldestAtDevice (plan : Plan) (h : History) (link : ℕ) : Type 0 where
  pub read : WaitingRead
  pub oldest : slice_get (queued_reads plan h (device_port link)) (reads_taken h (device_port link)) ≡ Some read
  pub target : ReadTarget
  pub of_target : read.target ≡ Some target
  pub interface : Site
  pub known : site_on plan link target.interface ≡ Some interface
  pub numbered : site_at plan interface.number ≡ Some interface
  pub link_is : interface.link ≡ link

-- The range of its BAR as it stands now, and the bytes that `mmio` would show now of all its double words: each is that
-- at its address.
pub record Shows (plan : Plan) (h : History) (link : ℕ) (of : IsOldestAtDevice plan h link) : Type 0 where
  pub range : BarPlan
  pub stands : slice_get (bars_of of.interface.plan (interface_at plan h of.interface).registers) of.target.bar
      ≡ Some range
  pub from : range.base ≤ of.read.read.span.address
  pub byte : ℕ → ℕ
  pub shown : due plan h (Access (ae.Mmio of.interface.number of.target.bar (of.read.read.span.address - range.base)
      (span_byte_count of.read.read.span)))
      ≡ v.Access (av.Mmio (bytes_from byte of.read.read.span.address (span_byte_count of.read.read.span)))

-- A pair ended a unit at the device's port, and queued the read: packet n of the unit, on this stream, under this draw.
pub record WasQueued (plan : Plan) (h : History) (link : ℕ) (read : WaitingRead) : Type 0 where
  pub event : Event
  pub end : PortName
  pub unit : UnitName
  pub effects : List Effect
  pub older : History
  pub since : History
  pub came : since ++ (event, Accepted end unit effects) ∷ older ≡ h
  pub at_device : port_of plan end ≡ device_port link
  pub number : ℕ
  pub packet : Packet
  pub stands : slice_get (unit_ended plan older event end unit) number ≡ Some packet
  pub queued : slice_get effects number ≡ Some Queued
  pub arrived : read.came ≡ arrival_of end unit packet
  pub head : HeadView
  pub reads : read_head_of packet.head ≡ Ok head
  pub is_read : memory_read head ≡ Some read.read
  pub claimed : target_of (history_statuses plan older link) read.read.span ≡ read.target
  -- it is the one that is taken next
  pub from : length (queued_reads plan older (device_port link)) ≤ reads_taken h (device_port link)
  pub until : reads_taken h (device_port link)
      < length (queued_reads plan ((event, Accepted end unit effects) ∷ older) (device_port link))
  pub no_reset : AllByRecursion (λ (pair : Event × Verdict). resets link pair.0 pair.1 ≡ false) since
