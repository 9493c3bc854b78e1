-- What stands at each link beside its ports and its device's interfaces, and how these stand by it (this profile).
use Rattle.std.specs.Prelude.{ℕ, ◌+◌, Bool, false, if◌then◌else◌, List, [], ◌∷◌, length, map, replicate, slice_index}
use Rattle.std.specs.Prelude.{Option, Some, None}
use Rattle.ide_types.specs.declared.port.Side.{Side}
use Rattle.ide_types.specs.declared.port.Side.TheVariants.{Host, Device}
use Rattle.ide_types.specs.declared.interface.InterfacePlan.{InterfacePlan}
use Rattle.ide_types.specs.declared.plan.LinkPlan.{LinkPlan}
use Rattle.event_verdicts.specs.declared.verdict.Effect.{Effect}
use Rattle.tlp_layout.specs.declared.head.HeadView.{HeadView}
use Rattle.interface_state.specs.Machine.{DeviceTdi}
use Rattle.interface_ends.specs.Replies.{DeviceTdis}
use Rattle.trusted_memory.specs.declared.read.MemReadView.{MemReadView}
use Rattle.trusted_memory.specs.declared.queue.WaitingRead.{WaitingRead}
use Rattle.trusted_memory.specs.declared.queue.ReadArrival.{ReadArrival}
use Rattle.trusted_memory.specs.declared.queue.ReadTarget.{ReadTarget}
use Rattle.trusted_memory.specs.declared.span.Span.{Span}
use Rattle.trusted_memory.specs.{memory_read, waiting_after}
use Rattle.guarded_memory.specs.declared.status.InterfaceStatus.{InterfaceStatus}
use Rattle.guarded_memory.specs.{interface_status, new_guarded}
use Rattle.hop_queues.specs.declared.queues.HopQueues.{HopQueues}
use Rattle.hop_queues.specs.{WaitingTlps}
use Rattle.link_stores.specs.declared.link.LinkAccesses.{LinkAccesses}

-- ---- at first

-- nothing waits at a switch, and there is no room yet
abbrev pub new_queue : WaitingTlps
new_queue = record { tlps = []; has_room = false }

abbrev pub new_queues : HopQueues
new_queues = record { downstream = new_queue; upstream = new_queue }

-- nothing waits, and all memory and all floors are 0
abbrev pub new_link_accesses : List InterfacePlan → LinkAccesses
new_link_accesses interfaces = record {
  host_reads = [];
  device_reads = [];
  guarded = new_guarded interfaces;
  floors = replicate (length interfaces) 0;
  carried = new_queues;
}

abbrev pub new_at_link : LinkPlan → LinkAccesses
new_at_link l = new_link_accesses l.interfaces

abbrev pub new_accesses : List LinkPlan → List LinkAccesses
new_accesses links = map new_at_link links

-- ---- how interfaces stand

-- those from this place on, with floors by place
abbrev pub numbered_statuses : List ℕ → ℕ → List DeviceTdi → List InterfaceStatus
numbered_statuses floors n [] = []
numbered_statuses floors n (t ∷ ts) = interface_status t (slice_index floors n) ∷ numbered_statuses floors (n + 1) ts

-- those of a device
abbrev pub device_statuses : List ℕ → DeviceTdis → List InterfaceStatus
device_statuses floors d = numbered_statuses floors 0 d.interfaces

-- ---- TLPs at a switch

-- without those that wait
abbrev pub without_tlps : HopQueues → HopQueues
without_tlps q = record {
  downstream = record q.downstream { tlps = [] };
  upstream = record q.upstream { tlps = [] };
}

-- ---- reads

-- those that wait at the port of a side
abbrev pub reads_on : Side → LinkAccesses → List WaitingRead
reads_on Host a = a.host_reads
reads_on Device a = a.device_reads

-- those that wait at the port of the other side
abbrev pub other_reads : Side → LinkAccesses → List WaitingRead
other_reads Host a = a.device_reads
other_reads Device a = a.host_reads

abbrev pub with_reads : Side → List WaitingRead → LinkAccesses → LinkAccesses
with_reads Host ws a = record a { host_reads = ws }
with_reads Device ws a = record a { device_reads = ws }

-- the memory read that a TLP of this header is, if it has T
abbrev pub trusted_read : Bool → HeadView → Option MemReadView
trusted_read t head = if t then memory_read head else None

abbrev pub waiting_with : (Span → Option ReadTarget) → Effect → ReadArrival → Option MemReadView → List WaitingRead
    → List WaitingRead
waiting_with target effect came None ws = ws
waiting_with target effect came (Some read) ws =
    waiting_after effect (record { read = read; came = came; target = target read.span }) ws

-- those that wait after a TLP of this header, which came so, got its effect; by what reads are of
abbrev pub reads_after : (Span → Option ReadTarget) → Effect → ReadArrival → HeadView → List WaitingRead
    → List WaitingRead
reads_after target effect came head ws = waiting_with target effect came (memory_read head) ws
