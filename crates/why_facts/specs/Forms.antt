-- Facts of values, wherever these come from.
use Rattle.std.specs.Prelude.{ℕ, ◌+◌, ◌/◌, ◌==◌, ◌&&◌, ◌||◌, nat_le, Bool, true, false, not, is_some, List, [], ◌∷◌}
use Rattle.std.specs.Prelude.{◌++◌, find, length, slice_get, Option, Some, None, Result, Ok, Err, if◌then◌else◌}
use Rattle.std.specs.Option.{option_and_then, option_map}
use Rattle.ide_types.specs.{is_hosted, sub_bits}
use Rattle.ide_types.specs.declared.port.PortName.{PortName}
use Rattle.ide_types.specs.declared.port.Side.{Side}
use Rattle.ide_types.specs.declared.port.Side.TheVariants.{Host, Device}
use Rattle.ide_types.specs.declared.status.StreamStatus.{StreamStatus}
use Rattle.ide_types.specs.declared.sub.SubKind.{SubKind}
use Rattle.ide_types.specs.declared.sub.SubKind.TheVariants.{Pr, Npr, Cpl}
use Rattle.ide_types.specs.declared.plan.Plan.{Plan}
use Rattle.ide_types.specs.declared.plan.LinkPlan.{LinkPlan}
use Rattle.ide_types.specs.declared.plan.Region.{Region}
use Rattle.ide_types.specs.Ports.{host_port, device_port}
use Rattle.ide_types.specs.declared.interface.BarPlan.{BarPlan}
use Rattle.ide_types.specs.declared.interface.InterfacePlan.{InterfacePlan}
use Rattle.tlp_layout.specs.declared.head.HeadView.{HeadView}
use Rattle.tlp_layout.specs.declared.fault.TlpFault.{TlpFault}
use Rattle.tlp_layout.specs.Reading.{read_head_of}
use Rattle.ide_prefix.specs.Packet.{Packet, is_sync_packet}
use Rattle.script_events.specs.declared.event.InterfaceEvent.{InterfaceEvent}
use Rattle.script_events.specs.declared.event.InterfaceEvent.TheVariants as ie
use Rattle.event_verdicts.specs.declared.verdict.Operation.{Operation}
use Rattle.event_verdicts.specs.declared.verdict.Operation.TheVariants as op
use Rattle.spec_keys.specs.Places.{KeyPlace, told_places}
use Rattle.spec_keys.specs.Operations.{StreamStage, Idle, Establishing, Up, Refreshing, Stopping, Work, work_of}
use Rattle.spec_keys.specs.Operations.{last_exchange_of}
use Rattle.spec_keys.specs.History.{program_exchange}
use Rattle.spec_keys.specs.Due.{PortView, is_live_sender}
use Rattle.spec_stream.specs.Stream.{posted_sum}
use Rattle.interface_state.specs.{DeviceTdi, state_code}
use Rattle.interface_state.specs.Bars.{bars_of}
use Rattle.ide_types.specs.declared.binding.Binding.{Binding}
use Rattle.trusted_memory.specs.{write_span}
use Rattle.trusted_memory.specs.Regions.{holds_all}
use Rattle.trusted_memory.specs.Spans.{span_byte_count, span_of}
use Rattle.trusted_memory.specs.declared.span.Span.{Span}
use Rattle.trusted_memory.specs.Requests.{memory_read}
use Rattle.trusted_memory.specs.declared.read.MemReadView.{MemReadView}
use Rattle.trusted_memory.specs.declared.queue.ReadTarget.{ReadTarget}
use Rattle.trusted_memory.specs.declared.queue.WaitingRead.{WaitingRead}
use Rattle.guarded_memory.specs.{claim_of, is_open_range}
use Rattle.guarded_memory.specs.declared.claims.Claim.{Claim}
use Rattle.guarded_memory.specs.declared.status.InterfaceStatus.{InterfaceStatus}
use Rattle.spec_interfaces.specs.Cause.{owner_id}
use Rattle.spec_interfaces.specs.Peers.{has_peer}
use Rattle.spec_interfaces.specs.Sites.{Site}
use Rattle.spec_interfaces.specs.Terms.{View, Locked}
use Rattle.spec_interfaces.specs.Views.{Managed, bound_if}
use Rattle.spec_interfaces.specs.Due.{AskedState}
use Rattle.spec_links.specs.Ports.{port_of, at_switch}
use Rattle.told_facts.specs.Exchanges.{interface_exchanges, key_exchanges}
use Rattle.told_facts.specs.declared.fact.Fact.{Fact}
use Rattle.told_facts.specs.declared.fact.SetState.{SetState}
use Rattle.told_facts.specs.declared.fact.ManagerState.{ManagerState}
use Rattle.told_facts.specs.declared.fact.ManagerState.TheVariants as manager
use Rattle.told_facts.specs.declared.fact.StreamFact.TheVariants as sf
use Rattle.told_facts.specs.declared.fact.OperationFact.TheVariants as of
use Rattle.told_facts.specs.declared.fact.InterfaceFact.TheVariants as face
use Rattle.told_facts.specs.declared.fact.Fact.TheVariants as fact

-- ---- packets and streams

abbrev pub at_port : Plan → PortName → Fact
at_port plan end = fact.Stream (sf.At (port_of plan end))

-- so many packets were sealed
abbrev pub packets_fact : ℕ → List Fact
packets_fact n = fact.Stream (sf.Packets n) ∷ []

abbrev pub arrives_fact : Plan → PortName → Packet → Fact
arrives_fact plan end p = fact.Stream (sf.Arrives (port_of plan end) p.prefix.stream p.prefix.sub p.prefix.k)

abbrev pub sends_fact : Plan → PortName → ℕ → SubKind → Fact
sends_fact plan end stream class = fact.Stream (sf.Sends (port_of plan end) stream class)

abbrev pub state_fact : StreamStatus → Fact
state_fact status = fact.Stream (sf.State status)

abbrev pub posted_fact : SubKind → ℕ → Fact
posted_fact u posted = fact.Stream (sf.Posted u posted)

-- what both key sets hold
abbrev pub facts_of_sets : SetState → SetState → List Fact
facts_of_sets first second = fact.Stream (sf.Set false first) ∷ fact.Stream (sf.Set true second) ∷ []

-- no rule of order speaks of posted packets
abbrev pub counts_facts : SubKind → ℕ → ℕ → List Fact
counts_facts u sum posted = if sub_bits u == 0 then [] else fact.Stream (sf.Counts sum posted) ∷ []

-- only on a closed stream
abbrev pub total_facts : Bool → ℕ → List Fact
total_facts closed units = if closed then fact.Stream (sf.Total units) ∷ [] else []

-- of the sub-streams that the rules of sealing a TLP of this one look at: its own; PR, or both that may need a sync
-- packet
abbrev pub each_looked_at : (SubKind → List Fact) → SubKind → List Fact
each_looked_at facts Pr = facts Pr ++ facts Npr ++ facts Cpl
each_looked_at facts u = facts u ++ facts Pr

-- ---- operations on streams

abbrev pub manager_state : StreamStage → ManagerState
manager_state Idle = manager.Idle
manager_state (Establishing draw next) = manager.Establishing draw next
manager_state (Up set draw) = manager.Up set draw
manager_state (Refreshing set draw next) = manager.Refreshing set draw next
manager_state (Stopping next) = manager.Stopping next

abbrev pub manager_fact : StreamStage → Fact
manager_fact q = fact.Operation (of.Manager (manager_state q))

-- how many draws the pool has
abbrev pub pool_of : Plan → ℕ
pool_of plan = length plan.pool / 6

abbrev pub draws_fact : ℕ → ℕ → Fact
draws_fact made pool = fact.Operation (of.Draws made pool)

-- the manager's state lets the operation begin or go on
abbrev pub may_go : Operation → StreamStage → Bool
may_go op.Establish Idle = true
may_go op.Establish (Establishing draw next) = true
may_go op.Refresh (Up set draw) = true
may_go op.Refresh (Refreshing set draw next) = true
may_go op.Stop q = true
may_go o q = false

abbrev pub refuses_fact : Plan → ℕ → KeyPlace → Fact
refuses_fact plan exchange p =
    fact.Operation (of.Refuses exchange (port_of plan (record { side = p.side; line = p.line })) p.sends p.sub)

-- the first of these places that refuses the KEY_PROG of a set, from this exchange on
abbrev pub refusing_facts : Plan → PortView → Operation → Bool → ℕ → List KeyPlace → List Fact
refusing_facts plan ports o set first [] = []
refusing_facts plan ports o set first (p ∷ ps) =
    if nat_le first (program_exchange o p) && is_some (ports.refusal p set)
    then refuses_fact plan (program_exchange o p) p ∷ []
    else refusing_facts plan ports o set first ps

abbrev pub programming_facts : Plan → PortView → ℕ → ℕ → Work → List Fact
programming_facts plan ports line stream w = by_operation w.operation
  where
    by_operation : Operation → List Fact
    by_operation op.Stop = []
    by_operation o = refusing_facts plan ports o w.set w.first (told_places (is_hosted line) line stream)

-- the exchanges that are left, the first that is refused, and each with its messages
abbrev pub work_facts : Plan → PortView → ℕ → ℕ → Work → List Fact
work_facts plan ports line stream w =
    fact.Operation (of.Exchanges w.first (last_exchange_of (is_hosted line) w.operation))
    ∷ (programming_facts plan ports line stream w
    ++ key_exchanges plan line stream w.operation w.set w.draw w.first)

abbrev pub exchange_facts : Plan → PortView → Operation → ℕ → ℕ → StreamStage → ℕ → List Fact
exchange_facts plan ports o line stream q next =
    if may_go o q then work_facts plan ports line stream (work_of o q next) else []

-- the draws made are `next`
abbrev pub establish_facts : Plan → PortView → ℕ → ℕ → StreamStage → ℕ → List Fact
establish_facts plan ports line stream q next =
    manager_fact q ∷ draws_fact next (pool_of plan) ∷ exchange_facts plan ports op.Establish line stream q next

-- the host's sender of a sub-stream, if it is in use in a key set
abbrev pub open_facts : PortView → ℕ → ℕ → Bool → SubKind → List Fact
open_facts ports line stream set u =
    if is_live_sender ports line stream set u then fact.Operation (of.Open u) ∷ [] else []

-- only where a refresh begins: those in the set that it would program
abbrev pub opens_facts : PortView → ℕ → ℕ → StreamStage → List Fact
opens_facts ports line stream (Up set draw) =
    open_facts ports line stream (not set) Pr ++ open_facts ports line stream (not set) Npr
    ++ open_facts ports line stream (not set) Cpl
opens_facts ports line stream q = []

abbrev pub refresh_facts : Plan → PortView → ℕ → ℕ → StreamStage → ℕ → StreamStatus → List Fact
refresh_facts plan ports line stream q next host =
    manager_fact q ∷ state_fact host ∷ draws_fact next (pool_of plan)
    ∷ (opens_facts ports line stream q ++ exchange_facts plan ports op.Refresh line stream q next)

abbrev pub stop_facts : Plan → PortView → ℕ → ℕ → StreamStage → ℕ → List Fact
stop_facts plan ports line stream q next = manager_fact q ∷ exchange_facts plan ports op.Stop line stream q next

-- a reset clears a stream at an end
abbrev pub clears_fact : Plan → PortName → ℕ → StreamStatus → Fact
clears_fact plan end stream status = fact.Operation (of.Clears (port_of plan end) stream status)

-- ---- interfaces

abbrev pub interface_fact : ℕ → ℕ → Fact
interface_fact number state = fact.Interface (face.Interface number state)

abbrev pub draw_fact : ℕ → Fact
draw_fact draw = fact.Interface (face.Draw draw)

abbrev pub waiting_fact : ℕ → Fact
waiting_fact n = fact.Interface (face.Waiting n)

-- the draw under which the oldest read came that waits
abbrev pub read_fact : ℕ → Fact
read_fact draw = fact.Interface (face.Read draw)

-- while its view is Running
abbrev pub bound_facts : Option Binding → List Fact
bound_facts None = []
bound_facts (Some bound) = fact.Interface (face.Bound bound.stream bound.floor) ∷ []

-- at its device and at the manager
abbrev pub face_facts : Site → DeviceTdi → Managed → List Fact
face_facts x tdi m =
    interface_fact x.number (state_code tdi.state)
    ∷ fact.Interface (face.View m.view)
    ∷ fact.Interface (face.Needs m.needs)
    ∷ bound_facts (bound_if m.view x.plan.stream m.floor)

-- while its view is Locked
abbrev pub reported_facts : View → Bool → List Fact
reported_facts Locked reported = fact.Interface (face.Reported reported) ∷ []
reported_facts view reported = []

-- the streams that a device takes trusted requests to an interface on
abbrev pub takes_facts : List Binding → List Fact
takes_facts [] = []
takes_facts (b ∷ bs) = fact.Interface (face.Takes b.stream b.floor) ∷ takes_facts bs

abbrev pub live_facts : Option ℕ → List Fact
live_facts None = []
live_facts (Some draw) = fact.Interface (face.Live draw) ∷ []

-- of a stream between devices
abbrev pub peer_facts : StreamStage → ℕ → Option ℕ → List Fact
peer_facts q draw live = manager_fact q ∷ draw_fact draw ∷ live_facts live

abbrev pub bind_facts : AskedState → ℕ → ℕ → List Fact
bind_facts s line stream =
    peer_facts (s.peer_op line stream) (s.peer_draw line stream) (s.around.live stream) ++ takes_facts s.tdi.bindings

-- what an event on it looks at besides
abbrev pub asked_besides : Plan → Site → AskedState → InterfaceEvent → List Fact
asked_besides plan x s (ie.Lock i loss) = state_fact s.host ∷ []
asked_besides plan x s (ie.Start i loss) = state_fact s.host ∷ draw_fact s.draw ∷ []
asked_besides plan x s (ie.Halt i loss) =
    fact.Interface (face.Started s.managed.started) ∷ draws_fact s.drawn (pool_of plan) ∷ []
asked_besides plan x s (ie.Bind i line stream loss) =
    if has_peer plan.peers x.link line stream then bind_facts s line stream else []
asked_besides plan x s (ie.Unbind i line stream loss) =
    if has_peer plan.peers x.link line stream then takes_facts s.tdi.bindings else []
asked_besides plan x s e = []

abbrev pub asked_facts : Plan → Site → AskedState → InterfaceEvent → List Fact
asked_facts plan x s e =
    face_facts x s.tdi s.managed ++ reported_facts s.managed.view s.managed.reported ++ asked_besides plan x s e
    ++ interface_exchanges plan x.link x.plan s.tdi e

-- ---- ranges of memory

abbrev pub bytes_fact : ℕ → ℕ → Fact
bytes_fact at n = fact.Interface (face.Bytes at n)

abbrev pub region_found : Option Region → List Fact
region_found None = []
region_found (Some r) = fact.Interface (face.Region r.base r.size) ∷ []

-- the region that has all n bytes from an address on
abbrev pub region_facts : List Region → ℕ → ℕ → List Fact
region_facts regions at n = region_found (find (λ r. holds_all r at n) regions)

abbrev pub bar_fact : ℕ → BarPlan → Fact
bar_fact bar range = fact.Interface (face.Bar bar range.base range.pages (is_open_range range))

-- of a BAR that the interface has
abbrev pub bar_facts : ℕ → Option BarPlan → List Fact
bar_facts bar None = []
bar_facts bar (Some range) = if range.pages == 0 then [] else bar_fact bar range ∷ []

-- of a BAR of an interface as it stands
abbrev pub shown_facts : ℕ → DeviceTdi → ℕ → List Fact
shown_facts number tdi bar =
    interface_fact number (state_code tdi.state) ∷ bar_facts bar (slice_get (bars_of tdi.plan tdi.registers) bar)

-- of what an event asks of memory
abbrev pub memory_facts : Plan → InterfaceEvent → List Fact
memory_facts plan (ie.Memory at len) = region_facts plan.memory at len
memory_facts plan e = []

-- ---- reads that wait

-- of the oldest of these reads, if there is one
abbrev pub oldest_facts : (WaitingRead → List Fact) → List WaitingRead → List Fact
oldest_facts told [] = []
oldest_facts told (r ∷ rs) = told r

-- of those that wait at a port of a link, if there is such a link
abbrev pub queue_facts : Bool → (WaitingRead → List Fact) → List WaitingRead → List Fact
queue_facts known told rs = if known then waiting_fact (length rs) ∷ oldest_facts told rs else []

-- ---- what a packet asks of memory

-- what is read of what stands beside the ports: what is known of the interface of a link with a requester ID, and its
-- number; how many reads wait at a port, and how the interfaces of a link's device stand
pub record Readings : Type 0 where
  pub known : ℕ → ℕ → List Fact
  pub numbered : ℕ → ℕ → Option ℕ
  pub waiting : PortName → ℕ
  pub statuses : ℕ → List InterfaceStatus

abbrev pub known_to : Readings → ℕ → Option ℕ → List Fact
known_to r link None = []
known_to r link (Some requester) = r.known link requester

abbrev pub packet_fact : ℕ → Bool → Fact
packet_fact place t = fact.Interface (face.Packet place t)

-- a write, or a read with T
abbrev pub is_request_head : Bool → HeadView → Bool
is_request_head t head = is_some (write_span head) || (t && is_some (memory_read head))

abbrev pub span_facts : Plan → Option Span → List Fact
span_facts plan None = []
span_facts plan (Some s) =
    bytes_fact s.address (span_byte_count s) ∷ region_facts plan.memory s.address (span_byte_count s)

-- a read looks at how many wait
abbrev pub waiting_facts : Bool → ℕ → List Fact
waiting_facts true n = waiting_fact n ∷ []
waiting_facts false n = []

abbrev pub host_facts : Plan → Readings → ℕ → ℕ → Bool → Result HeadView TlpFault → List Fact
host_facts plan r link place t (Err f) = []
host_facts plan r link place t (Ok head) =
    if is_request_head t head
    then packet_fact place t ∷ (span_facts plan (span_of head) ++ known_to r link (owner_id head)
    ++ waiting_facts (is_some (memory_read head)) (r.waiting (host_port link)))
    else []

-- the requester ID of the interface at a place of a link
abbrev pub requester_at : Plan → ℕ → ℕ → Option ℕ
requester_at plan link place = option_map (λ (x : InterfacePlan). x.requester)
    (option_and_then (λ (l : LinkPlan). slice_get l.interfaces place) (slice_get plan.links link))

abbrev pub claim_facts : Plan → Readings → ℕ → Option Claim → List Fact
claim_facts plan r link None = []
claim_facts plan r link (Some c) =
    known_to r link (requester_at plan link c.interface) ++ bar_fact c.bar c.range ∷ takes_facts c.status.bound

-- of these bytes, and of what claims them
abbrev pub claimed_facts : Plan → Readings → ℕ → Span → Option Claim → List Fact
claimed_facts plan r link s claim = bytes_fact s.address (span_byte_count s) ∷ claim_facts plan r link claim

-- of a write over these bytes
abbrev pub write_facts : Plan → Readings → ℕ → ℕ → Bool → Option Span → List Fact
write_facts plan r link place t None = []
write_facts plan r link place t (Some s) =
    packet_fact place t ∷ claimed_facts plan r link s (claim_of (r.statuses link) s)

-- of a read of these bytes that is claimed by this, if the device answers reads of it
abbrev pub claimed_read_facts : Plan → Readings → ℕ → ℕ → Bool → Span → Option Claim → List Fact
claimed_read_facts plan r link place t s None = []
claimed_read_facts plan r link place t s (Some c) =
    if c.status.reads
    then packet_fact place t
    ∷ (claimed_facts plan r link s (Some c) ++ waiting_fact (r.waiting (device_port link)) ∷ [])
    else []

-- of a TLP that is this memory read, or of one that is none
abbrev pub device_read_facts : Plan → Readings → ℕ → ℕ → Bool → Option MemReadView → List Fact → List Fact
device_read_facts plan r link place t None other = other
device_read_facts plan r link place t (Some read) other =
    claimed_read_facts plan r link place t read.span (claim_of (r.statuses link) read.span)

abbrev pub device_facts : Plan → Readings → ℕ → ℕ → Bool → Result HeadView TlpFault → List Fact
device_facts plan r link place t (Err f) = []
device_facts plan r link place t (Ok head) =
    device_read_facts plan r link place t (memory_read head) (write_facts plan r link place t (write_span head))

abbrev pub side_facts : Plan → Readings → Side → ℕ → ℕ → Bool → Result HeadView TlpFault → List Fact
side_facts plan r Host link place t head = host_facts plan r link place t head
side_facts plan r Device link place t head = device_facts plan r link place t head

-- of a packet with this header at a place of its unit, from 1, that arrives at a port
abbrev pub asks_facts : Plan → Readings → PortName → ℕ → Bool → Bool → List ℕ → List Fact
asks_facts plan r port place sync t head =
    if sync || at_switch plan port then [] else side_facts plan r port.side port.line place t (read_head_of head)

abbrev pub request_facts : Plan → Readings → PortName → ℕ → Packet → List Fact
request_facts plan r port place p = asks_facts plan r port place (is_sync_packet p) p.prefix.t p.head

-- of packets in order, the first at this place
abbrev pub requests_facts : Plan → Readings → PortName → ℕ → List Packet → List Fact
requests_facts plan r port place [] = []
requests_facts plan r port place (p ∷ ps) =
    request_facts plan r port place p ++ requests_facts plan r port (place + 1) ps

-- what claimed a read when it was queued: a BAR of an interface of this number
abbrev pub interface_asked : Bool → ℕ → Option ℕ → List Fact
interface_asked t bar None = []
interface_asked t bar (Some number) = fact.Interface (face.Asks number bar t) ∷ []

-- at the device of a link
abbrev pub target_facts : Plan → Readings → ℕ → Bool → Option ReadTarget → List Fact
target_facts plan r link t None = []
target_facts plan r link t (Some target) =
    interface_asked t target.bar (option_and_then (r.numbered link) (requester_at plan link target.interface))

-- of a read that waits at the device of a link, with what claims it now; `completion` are the facts of the sender of
-- its completion
abbrev pub response_facts : Plan → Readings → ℕ → WaitingRead → List Fact → List Fact
response_facts plan r link w completion =
    read_fact w.came.draw
    ∷ (target_facts plan r link w.came.trusted w.target
    ++ claimed_facts plan r link w.read.span (claim_of (r.statuses link) w.read.span)
    ++ sends_fact plan w.came.end w.came.stream Cpl ∷ completion)

-- no rule of order speaks of posted packets
abbrev pub adds_facts : SubKind → ℕ → List Fact
adds_facts u posted = if sub_bits u == 0 then [] else fact.Stream (sf.Adds posted) ∷ []

-- of a unit's packets that are held, and of the one that arrives
abbrev pub unit_facts : Plan → Readings → PortName → SubKind → List Packet → Packet → List Fact
unit_facts plan r port u held p =
    adds_facts u (posted_sum held + p.prefix.posted)
    ++ requests_facts plan r port 1 held ++ request_facts plan r port (length held + 1) p
