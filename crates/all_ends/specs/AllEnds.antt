-- What each call makes of the ends of all lines.
use Rattle.std.specs.Prelude.{ℕ, ◌≡◌, ◌++◌, ◌<◌, Bool, Option, Some, None, List, length, map, slice_get, slice_set}
use Rattle.std.specs.Prelude.{is_some}
use Rattle.std.specs.Option.{option_and_then}
use Rattle.ide_types.specs.declared.sub.SubKind.{SubKind}
use Rattle.ide_types.specs.declared.port.Side.TheVariants.{Host, Device}
use Rattle.ide_types.specs.declared.port.Side.{Side}
use Rattle.ide_types.specs.declared.port.PortName.{PortName}
use Rattle.ide_types.specs.Ports.{host_port, device_port}
use Rattle.ide_types.specs.declared.status.StreamStatus.{StreamStatus}
use Rattle.script_events.specs.declared.event.Loss.{Loss}
use Rattle.event_verdicts.specs.declared.verdict.Verdict.{Verdict}
use Rattle.event_verdicts.specs.declared.verdict.Verdict.TheVariants.{Nothing}
use Rattle.ide_types.specs.declared.plan.Region.{Region}
use Rattle.arrival_verdicts.specs.{Grants, reads_by, targets_at}
use Rattle.trusted_memory.specs.{MemoryContents, Leads}
use Rattle.link_ends.specs.Hosts.{InterfacesView, operated_on, manager_told, pair_told, peer_drawn}
use Rattle.key_host.specs.declared.operation.NamedOperation.{NamedOperation}
use Rattle.key_host.specs.declared.operation.StreamOutcome.{StreamOutcome}
use Rattle.ide_port.specs.declared.answer.Arrival.{Arrival}
use Rattle.ide_port.specs.declared.answer.Sent.{Sent}
use Rattle.ide_prefix.specs.Reading.{cut_of}
use Rattle.tlp_layout.specs.Outgoing.{outgoing_of}
use Rattle.tlp_layout.specs.Reading.{read_of}
use Rattle.ide_port.specs.Sends.{IsSendStep}
use Rattle.ide_port.specs.{PortEnd, SendStep, seal_step, sealing_draw_in, send_step, take_step}
use Rattle.link_ends.specs.declared.ends.LinkEnds.{LinkEnds}
use Rattle.link_ends.specs.declared.pair.PairEnds.{PairEnds}
use Rattle.guarded_memory.specs.declared.status.InterfaceStatus.{InterfaceStatus}
use Rattle.guarded_memory.specs.{MmioLeads}
use Rattle.link_stores.specs.declared.link.LinkAccesses.{LinkAccesses}
use Rattle.link_stores.specs.{device_statuses, other_reads, reads_on}
use Rattle.arrival_verdicts.specs.Verdicts.{effects_from, packet_write, packet_stored, unit_writes, of_unit}
use Rattle.arrival_verdicts.specs.Verdicts.{arrival_verdict}
use Rattle.arrival_verdicts.specs.Switches.{switched_each, unit_waits, all_offered}
use Rattle.hop_queues.specs.declared.queues.HopQueues.{HopQueues}
use Rattle.ide_types.specs.declared.direction.Direction.{Direction}
use Rattle.link_ends.specs.Keepers.{KeeperView, Operates, NoMoreUnits, KeysAlone}
use Rattle.link_ends.specs.PairKeepers.{PairOperates, NoMorePairUnits}
use Rattle.all_ends.specs.Ends.{EndsView, port_on, port_at_place, with_port_on, with_port_at_place, trust_at_place}
use Rattle.all_ends.specs.Ends.{end_stream_status, peer_live, line_place, settled_link, settled_place, reset_all}
use Rattle.all_ends.specs.declared.places.LinePlace.{LinePlace}
use Rattle.all_ends.specs.declared.places.LinePlace.TheVariants.{Link, Near, Pair}
use Rattle.all_ends.specs.Places.{code_behind}
use Rattle.link_ends.specs.declared.host.HostKeeper.{HostKeeper}
use Rattle.interface_state.specs.Machine.{DeviceTdi, Call}
use Rattle.interface_ends.specs.Replies.{DeviceTdis, called_at, settled_interfaces}
use Rattle.link_ends.specs.DeviceEnds.{secure_or_live}
use Rattle.interface_host.specs.declared.operation.InterfaceOperation.{InterfaceOperation}
use Rattle.interface_host.specs.declared.operation.InterfaceOutcome.{InterfaceOutcome}
use Rattle.interface_host.specs.Views.{HostTdi}
use Rattle.interface_ends.specs.Keepers.{Ended}

-- the ends of this link change, and nothing else
abbrev pub Changes : EndsView → ℕ → EndsView → (LinkEnds → LinkEnds → Type 0) → Type 0
Changes old link new P = (l : LinkEnds) → slice_get old.links link ≡ Some l → (l' : LinkEnds)
    × (new ≡ record old { links = slice_set old.links link l' }) × P l l'

-- ---- sends

-- what stands at an end takes this step, whatever the number of the next sealed packet is over the run
abbrev pub PortStep : Type 0
PortStep = PortEnd → ℕ → SendStep

-- at the end of a side of a line that is kept there, which seals these bytes
pub record Sends (old : EndsView) (side : Side) (place : LinePlace) (step : PortStep) (answer : Sent)
    (new : EndsView) (sealed : List ℕ) (e : PortEnd) : Type 0 where
  pub port : PortEnd
  pub new_is : new ≡ with_port_at_place old side place port
  pub sent : (number : ℕ) → IsSendStep e.name number answer port sealed (step e number)

abbrev pub SendsByPlace : EndsView → Side → LinePlace → PortStep → Sent → EndsView → List ℕ → Type 0
SendsByPlace old side place step answer new sealed =
    (e : PortEnd) → port_at_place old side place ≡ Some e → Sends old side place step answer new sealed e

-- of these bytes, by association
abbrev pub step_by_place : EndsView → Side → LinePlace → List ℕ → Bool → Bool → PortStep
step_by_place v side place tlp more trusted e number =
    send_step e (outgoing_of e.plans e.name.side tlp) more (trust_at_place v side place trusted) number

abbrev pub SendsAtEnd : EndsView → PortName → List ℕ → Bool → Bool → Sent → EndsView → List ℕ → Type 0
SendsAtEnd old end tlp more trusted answer new sealed =
    let place = line_place end.line in
    SendsByPlace old end.side place (step_by_place old end.side place tlp more trusted) answer new sealed

-- on a stream of this ID, with this T, whatever stream association gives them
abbrev pub step_on_stream : List ℕ → ℕ → Bool → PortStep
step_on_stream tlp stream trusted e number = seal_step e (read_of tlp) stream trusted number

abbrev pub SealsAtEnd : EndsView → PortName → List ℕ → ℕ → Bool → Sent → EndsView → List ℕ → Type 0
SealsAtEnd old end tlp stream trusted answer new sealed =
    SendsByPlace old end.side (line_place end.line) (step_on_stream tlp stream trusted) answer new sealed

-- an end has a stream
abbrev pub has_stream_at : EndsView → PortName → ℕ → Bool
has_stream_at v end stream = is_some (end_stream_status v end stream)

-- the draw that it seals a sub-stream under
abbrev pub sealing_draw_on : EndsView → PortName → ℕ → SubKind → Option ℕ
sealing_draw_on v end stream u = option_and_then (λ e. sealing_draw_in e stream u) (port_on v end)

-- ---- arrivals

-- bytes that an end takes
pub record EndTakes (old : EndsView) (end : PortName) (bytes : List ℕ) (answer : Arrival) (new : EndsView) (e : PortEnd)
    :
    Type 0 where
  pub answer_is : answer ≡ (take_step e (cut_of bytes)).answer
  pub new_is : new ≡ with_port_on old end (take_step e (cut_of bytes)).port

abbrev pub TakesAt : EndsView → PortName → List ℕ → Arrival → EndsView → Type 0
TakesAt old end bytes answer new = (e : PortEnd) → port_on old end ≡ Some e → EndTakes old end bytes answer new e

-- how the interfaces of a link's device stand
abbrev pub link_statuses : LinkEnds → LinkAccesses → List InterfaceStatus
link_statuses l a = device_statuses a.floors l.device.interfaces

-- at a device's port its interfaces settle
abbrev pub settled_by_side : PortName → EndsView → EndsView
settled_by_side port v = by_side port.side
  where
    by_side : Side → EndsView
    by_side Host = v
    by_side Device = settled_link v port.line

-- What such an arrival at an end came to, at a host's or a device's port. Effects depend on what stands at that port's
-- link; the reads that wait at the link's other port stay.
pub record Comes (regions : List Region) (grants : Grants) (end port : PortName) (answer : Arrival)
    (verdict : Verdict) (m n : MemoryContents) (a a' : LinkAccesses) (e : PortEnd) (l : LinkEnds) : Type 0 where
  pub verdict_is : verdict ≡ arrival_verdict end port answer
      (λ unit. effects_from regions grants (link_statuses l a) (length (reads_on port.side a)) port unit e.delivered)
  pub written : Leads m (unit_writes answer (λ unit. map (packet_write regions grants port unit) e.delivered)) n
  pub reads_are : reads_on port.side a' ≡ reads_on port.side a
      ++ of_unit answer (λ unit. reads_by (targets_at port.side (link_statuses l a)) end unit
      (effects_from regions grants (link_statuses l a) (length (reads_on port.side a)) port unit e.delivered)
      e.delivered)
  pub others_stay : other_reads port.side a' ≡ other_reads port.side a
  pub stored : MmioLeads a.guarded
      (of_unit answer (λ unit. map (packet_stored (link_statuses l a) port unit) e.delivered)) a'.guarded
  pub floors_stay : a'.floors ≡ a.floors
  pub sizes_stay : a'.guarded.sizes ≡ a.guarded.sizes
  pub carried_stay : a'.carried ≡ a.carried

abbrev pub ComesAtEnd : EndsView → List Region → Grants → PortName → PortName → Arrival → Verdict → MemoryContents
    → MemoryContents → LinkAccesses → LinkAccesses → Type 0
ComesAtEnd v regions grants end port answer verdict m n a a' =
    (e : PortEnd) (l : LinkEnds) → port_on v end ≡ Some e → slice_get v.links port.line ≡ Some l
    → Comes regions grants end port answer verdict m n a a' e l

-- what is taken at an end at a host's or a device's port; effects depend on what stands at that port's link before it
pub record Arrives (old : EndsView) (xs : List LinkAccesses) (regions : List Region) (grants : Grants)
    (end port : PortName) (bytes : List ℕ) (verdict : Verdict) (m n : MemoryContents) (new : EndsView)
    (ys : List LinkAccesses) (e : PortEnd) (l : LinkEnds) (a : LinkAccesses) : Type 0 where
  pub access : LinkAccesses
  pub new_is : new ≡ settled_by_side port (with_port_on old end (take_step e (cut_of bytes)).port)
  pub accesses_are : ys ≡ slice_set xs port.line access
  pub came : let step = take_step e (cut_of bytes) in
      Comes regions grants end port step.answer verdict m n a access step.port l

abbrev pub ArrivesAtEnd : EndsView → List LinkAccesses → List Region → Grants → PortName → PortName → List ℕ → Verdict
    → MemoryContents → MemoryContents → EndsView → List LinkAccesses → Type 0
ArrivesAtEnd old xs regions grants end port bytes verdict m n new ys =
    (e : PortEnd) (l : LinkEnds) (a : LinkAccesses) → port_on old end ≡ Some e
    → slice_get old.links port.line ≡ Some l → slice_get xs port.line ≡ Some a
    → Arrives old xs regions grants end port bytes verdict m n new ys e l a

-- nothing is taken
pub record Leaves (verdict : Verdict) (old : EndsView) (m : MemoryContents) (xs : List LinkAccesses) (new : EndsView)
    (n : MemoryContents) (ys : List LinkAccesses) : Type 0 where
  pub verdict_is : verdict ≡ Nothing
  pub ends_stay : new ≡ old
  pub memory_stays : n ≡ m
  pub accesses_stay : ys ≡ xs

-- what is taken at an end at a switch, whose TLPs wait there in a direction
pub record Waits (old : EndsView) (end : PortName) (bytes : List ℕ) (direction : Direction) (verdict : Verdict)
    (q : HopQueues) (new : EndsView) (q' : HopQueues) (e : PortEnd) : Type 0 where
  pub new_is : new ≡ with_port_on old end (take_step e (cut_of bytes)).port
  pub verdict_is : let step = take_step e (cut_of bytes) in
      verdict ≡ arrival_verdict end end step.answer (λ unit. switched_each step.port.delivered)
  pub queues_are : let step = take_step e (cut_of bytes) in
      q' ≡ all_offered direction (of_unit step.answer (unit_waits step.port.delivered)) q

abbrev pub WaitsAtEnd : EndsView → PortName → List ℕ → Direction → Verdict → HopQueues → EndsView → HopQueues → Type 0
WaitsAtEnd old end bytes direction verdict q new q' =
    (e : PortEnd) → port_on old end ≡ Some e → Waits old end bytes direction verdict q new q' e

-- ---- operations on streams

-- the device's interfaces leave their lock if a stream that they are bound to is not Secure there; `live` says what is
-- Live of those between it and others
abbrev pub Settles : (ℕ → Option ℕ) → LinkEnds → LinkEnds → Type 0
Settles live l l' = l'.device.interfaces ≡ settled_interfaces (secure_or_live l'.device.port live) l.device.interfaces

-- on a stream of a link: the interfaces of its device settle
pub record OperatesOnLink (old : EndsView) (i : ℕ) (k : KeeperView) (op : NamedOperation) (loss : Option Loss)
    (outcome : StreamOutcome)
    (new : EndsView) (k' : KeeperView) (l : LinkEnds) : Type 0 where
  pub ends : LinkEnds
  pub new_is : new ≡ record old { links = slice_set old.links i ends }
  pub operates : Operates k l op loss outcome k' ends
  pub units : NoMoreUnits l ends
  pub settles : Settles (peer_live old i) l ends

-- of the segment of a hop towards the host
pub record OperatesOnNear (old : EndsView) (i : ℕ) (k : KeeperView) (op : NamedOperation) (loss : Option Loss)
    (outcome : StreamOutcome)
    (new : EndsView) (k' : KeeperView) (l : LinkEnds) : Type 0 where
  pub ends : LinkEnds
  pub new_is : new ≡ record old { near = slice_set old.near i ends }
  pub operates : Operates k l op loss outcome k' ends
  pub units : KeysAlone l ends

-- of a line that is keyed by messages at both ends: the interfaces of both devices settle, if it joins two
pub record OperatesOnPair (old : EndsView) (i : ℕ) (k : KeeperView) (op : NamedOperation) (loss : Option Loss)
    (outcome : StreamOutcome)
    (new : EndsView) (k' : KeeperView) (l : PairEnds) : Type 0 where
  pub ends : PairEnds
  pub new_is : new ≡ settled_place (Pair i) (record old { pairs = slice_set old.pairs i ends })
  pub operates : PairOperates k l op loss outcome k' ends
  pub units : NoMorePairUnits l ends

abbrev pub OperatesByPlace : EndsView → LinePlace → KeeperView → NamedOperation → Option Loss → StreamOutcome → EndsView
    → KeeperView → Type 0
OperatesByPlace old (Link i) k op loss outcome new k' =
    (l : LinkEnds) → slice_get old.links i ≡ Some l → OperatesOnLink old i k op loss outcome new k' l
OperatesByPlace old (Near i) k op loss outcome new k' =
    (l : LinkEnds) → slice_get old.near i ≡ Some l → OperatesOnNear old i k op loss outcome new k' l
OperatesByPlace old (Pair i) k op loss outcome new k' =
    (l : PairEnds) → slice_get old.pairs i ≡ Some l → OperatesOnPair old i k op loss outcome new k' l

abbrev pub OperatesAt : EndsView → ℕ → KeeperView → NamedOperation → Option Loss → StreamOutcome → EndsView → KeeperView
    → Type 0
OperatesAt old line k op loss outcome new k' = OperatesByPlace old (line_place line) k op loss outcome new k'

-- what it tells the manager of interfaces, by the line
abbrev pub told_by_place : LinePlace → NamedOperation → Bool → Bool → ℕ → StreamOutcome → InterfacesView
    → InterfacesView
told_by_place (Link i) op begins drew draw outcome m = manager_told op begins drew draw outcome m
told_by_place (Near i) op begins drew draw outcome m = m
told_by_place (Pair i) op begins drew draw outcome m = pair_told op m

abbrev pub told_by_line : ℕ → NamedOperation → Bool → Bool → ℕ → StreamOutcome → InterfacesView → InterfacesView
told_by_line line op begins drew draw outcome m = told_by_place (line_place line) op begins drew draw outcome m

-- the draws of the streams between devices after it
abbrev pub drawn_at_place : LinePlace → NamedOperation → Bool → ℕ → List ℕ → List ℕ
drawn_at_place (Link i) op drew draw draws = draws
drawn_at_place (Near i) op drew draw draws = draws
drawn_at_place (Pair i) op drew draw draws = peer_drawn op drew draw draws

abbrev pub drawn_on_line : ℕ → NamedOperation → Bool → ℕ → List ℕ → List ℕ
drawn_on_line line op drew draw draws = drawn_at_place (line_place line) op drew draw draws

-- ---- operations on interfaces

-- an operation on an interface of the manager's, at this number, while the device says this of its streams to others:
-- only the interface and the device's change
pub record Asks (k : HostKeeper) (interface : ℕ) (o : InterfaceOperation) (loss : Option Loss) (live : ℕ → Option ℕ)
    (result : Ended → Type 0) (k' : HostKeeper) (l l' : LinkEnds) : Type 0 where
  pub ends : l' ≡ record l { device = record l.device { interfaces = l'.device.interfaces } }
  pub keys : k'.keys ≡ k.keys
  pub peer_draws : k'.peer_draws ≡ k.peer_draws
  pub ended : (x : HostTdi) → slice_get k.interfaces.interfaces interface ≡ Some x
      → result (operated_on interface o loss k.keys live k.interfaces l x)

-- its outcome
pub record IsEnded (outcome : InterfaceOutcome) (m : InterfacesView) (d : DeviceTdis) (e : Ended) : Type 0 where
  pub outcome_is : outcome ≡ e.outcome
  pub manager_is : m ≡ e.manager
  pub device_is : d ≡ e.device

abbrev pub AsksAtLink : EndsView → ℕ → HostKeeper → ℕ → InterfaceOperation → Option Loss → InterfaceOutcome → EndsView
    → HostKeeper → Type 0
AsksAtLink old link k interface o loss outcome new k' =
    Changes old link new
    (λ l l'. Asks k interface o loss (peer_live old link) (IsEnded outcome k'.interfaces l'.device.interfaces) k' l l')

-- there is such a link, and its device has such an interface
pub record IsThere (v : EndsView) (link place : ℕ) : Type 0 where
  pub link_there : link < length v.links
  pub place_there : (l : LinkEnds) → slice_get v.links link ≡ Some l → place < length l.device.interfaces.interfaces

-- a call of the interface at this place of a device, after which its state has this code
pub record Calls (place : ℕ) (call : Call) (code : ℕ) (l l' : LinkEnds) : Type 0 where
  pub ends : (tdi : DeviceTdi) → slice_get l.device.interfaces.interfaces place ≡ Some tdi
      → l' ≡ record l { device = record l.device { interfaces = called_at l.device.interfaces place tdi call } }
  pub code_is : (tdi : DeviceTdi) → slice_get l.device.interfaces.interfaces place ≡ Some tdi → code
      ≡ code_behind tdi call

abbrev pub CallsAtLink : EndsView → ℕ → ℕ → Call → ℕ → EndsView → Type 0
CallsAtLink old link place call code new = Changes old link new (λ l l'. Calls place call code l l')

-- ---- resets

abbrev pub ResetsAt : EndsView → ℕ → List PortName → EndsView → Type 0
ResetsAt old link ends new = new ≡ reset_all link ends old

-- ---- statuses

abbrev pub both_of : Option StreamStatus → Option StreamStatus → Option (StreamStatus × StreamStatus)
both_of (Some near) (Some far) = Some (near, far)
both_of near far = None

-- of a stream at both ends of a line
abbrev pub statuses_of : EndsView → ℕ → ℕ → Option (StreamStatus × StreamStatus)
statuses_of v line stream = both_of (end_stream_status v (host_port line) stream)
    (end_stream_status v (device_port line) stream)
