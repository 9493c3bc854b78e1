-- The rule that answers an event, by the names of docs/RULES.md.
use Rattle.std.specs.Prelude.{ℕ, nat_lt, Bool, false, List, [], ◌∷◌, Option, Some, None, if◌then◌else◌, codes}
use Rattle.ide_types.specs.{Text, is_hosted, is_link_line, is_same_sub}
use Rattle.ide_types.specs.declared.port.PortName.{PortName}
use Rattle.ide_types.specs.declared.port.Side.{Side}
use Rattle.ide_types.specs.declared.port.Side.TheVariants.{Host, Device}
use Rattle.ide_types.specs.declared.sub.SubKind.{SubKind}
use Rattle.ide_types.specs.declared.sub.SubKind.TheVariants.{Pr, Npr, Cpl}
use Rattle.ide_types.specs.declared.sub.FailCause.{FailCause}
use Rattle.ide_types.specs.declared.sub.FailCause.TheVariants as fail
use Rattle.ide_types.specs.declared.verdict.InterfaceVerdict.{InterfaceVerdict}
use Rattle.ide_types.specs.declared.verdict.InterfaceVerdict.TheVariants as iv
use Rattle.script_events.specs.declared.event.Event.{Event}
use Rattle.script_events.specs.declared.event.Event.TheVariants as event
use Rattle.script_events.specs.declared.event.InterfaceEvent.{InterfaceEvent}
use Rattle.script_events.specs.declared.event.InterfaceEvent.TheVariants as ie
use Rattle.script_events.specs.declared.event.AccessEvent.{AccessEvent}
use Rattle.script_events.specs.declared.event.AccessEvent.TheVariants as ae
use Rattle.event_verdicts.specs.declared.verdict.Verdict.{Verdict}
use Rattle.event_verdicts.specs.declared.verdict.BlockCause.{BlockCause}
use Rattle.event_verdicts.specs.declared.verdict.Effect.{Effect}
use Rattle.event_verdicts.specs.declared.access.AccessVerdict.{AccessVerdict}
use Rattle.event_verdicts.specs.declared.access.AccessVerdict.TheVariants as av
use Rattle.event_verdicts.specs.declared.verdict.Verdict.TheVariants as v
use Rattle.event_verdicts.specs.declared.verdict.BlockCause.TheVariants as cause
use Rattle.event_verdicts.specs.declared.verdict.Effect.TheVariants as effect
use Rattle.told_facts.specs.declared.fact.Fact.{Fact}
use Rattle.told_facts.specs.declared.fact.StreamFact.TheVariants as sf
use Rattle.told_facts.specs.declared.fact.Fact.TheVariants as fact

-- the line names what does not exist
abbrev pub rule_of_none : Text
rule_of_none = codes "lines.none"

-- ---- sends

-- a key is missing: that of the TLP's own sub-stream, or of one that needs a sync packet
abbrev pub key_rule : Option SubKind → SubKind → Text
key_rule None u = codes "sending.key"
key_rule (Some class) u = if is_same_sub class u then codes "sending.key" else codes "sending.sync"

-- `class` is the sub-stream of the TLP; `other` is the rule of any other verdict
abbrev pub sending_rule : Option SubKind → Verdict → Text → Text
sending_rule class (v.Malformed port word place) other = codes "sending.malformed"
sending_rule class (v.Plain port) other = codes "sending.plain"
sending_rule class v.RefusedInsecure other = codes "sending.insecure"
sending_rule class (v.RefusedNoKey u) other = key_rule class u
sending_rule class v.RefusedUnfinished other = codes "sending.unfinished"
sending_rule class (v.RefusedWorn u units) other = codes "sending.worn"
sending_rule class (v.Sealed ds) other = codes "sending.sealed"
sending_rule class w other = other

-- ---- arrivals

abbrev pub fail_rule : FailCause → Text
fail_rule fail.Key = codes "arriving.key"
fail_rule fail.Unit = codes "arriving.unit"
fail_rule fail.Tag = codes "arriving.tag"
fail_rule fail.Order = codes "arriving.order"

abbrev pub arriving_rule : Verdict → Text
arriving_rule (v.Malformed port word place) = codes "arriving.malformed"
arriving_rule (v.Plain port) = codes "arriving.plain"
arriving_rule (v.Through port) = codes "hops.through"
arriving_rule (v.Unknown port stream) = codes "arriving.stream"
arriving_rule (v.Insecure port stream) = codes "arriving.insecure"
arriving_rule (v.NotKeyed port stream sub) = codes "arriving.keyed"
arriving_rule (v.Held port unit) = codes "arriving.held"
arriving_rule (v.Accepted port unit effects) = codes "arriving.accepted"
arriving_rule (v.Fail port stream sub c) = fail_rule c
arriving_rule w = rule_of_none

-- ---- operations on streams

-- of another line than a link's
abbrev pub line_rule : ℕ → Text → Text
line_rule line rule =
    if is_link_line line then rule else if nat_lt line 24 then codes "hops.operations" else codes "peers.operations"

-- `refusal` is the rule of what refuses the operation on a link
abbrev pub operation_rule : ℕ → Text → Verdict → Text
operation_rule line refusal v.Nothing = rule_of_none
operation_rule line refusal (v.LostRequest n) = codes "operations.lost"
operation_rule line refusal (v.LostReply n) = codes "operations.lost"
operation_rule line refusal (v.RefusedDevice n code) = codes "operations.device"
operation_rule line refusal (v.RefusedBusy kind o) = line_rule line (codes "operations.busy")
operation_rule line refusal (v.Established l s j) = line_rule line (codes "operations.begin")
operation_rule line refusal (v.Refreshed l s j) = line_rule line (codes "operations.begin")
operation_rule line refusal (v.Stopped l s) = line_rule line (codes "operations.begin")
operation_rule line refusal w = line_rule line refusal

-- ---- interfaces

abbrev pub asked_rule : InterfaceEvent → Text
asked_rule (ie.Lock i loss) = codes "views.lock"
asked_rule (ie.Report i loss) = codes "views.report"
asked_rule (ie.Start i loss) = codes "views.start"
asked_rule (ie.Halt i loss) = codes "views.halt"
asked_rule (ie.State i loss) = codes "views.state"
asked_rule (ie.Bind i line stream loss) = codes "views.bind"
asked_rule (ie.Unbind i line stream loss) = codes "views.unbind"
asked_rule (ie.View i) = codes "views.shown"
asked_rule (ie.Write i register value) = codes "interfaces.write"
asked_rule (ie.Flr i) = codes "interfaces.flr"
asked_rule (ie.Firmware i) = codes "interfaces.firmware"
asked_rule (ie.Memory at len) = codes "memory.shown"

abbrev pub unnamed_rule : InterfaceEvent → Text
unnamed_rule (ie.Bind i line stream loss) = rule_of_none
unnamed_rule (ie.Unbind i line stream loss) = rule_of_none
unnamed_rule (ie.Memory at len) = codes "memory.shown"
unnamed_rule (ie.Lock i loss) = rule_of_none
unnamed_rule (ie.Report i loss) = rule_of_none
unnamed_rule (ie.Start i loss) = rule_of_none
unnamed_rule (ie.Halt i loss) = rule_of_none
unnamed_rule (ie.State i loss) = rule_of_none
unnamed_rule (ie.View i) = rule_of_none
unnamed_rule (ie.Write i register value) = rule_of_none
unnamed_rule (ie.Flr i) = rule_of_none
unnamed_rule (ie.Firmware i) = rule_of_none

abbrev pub interface_rule : InterfaceEvent → Verdict → Text
interface_rule e v.Nothing = unnamed_rule e
interface_rule e (v.LostRequest n) = codes "views.lost"
interface_rule e (v.LostReply n) = codes "views.lost"
interface_rule e (v.RefusedDevice n code) = codes "views.device"
interface_rule e w = asked_rule e

-- ---- answers to reads that wait, at a host's port or at a device's

abbrev pub by_side : Side → (host device : Text) → Text
by_side Host host device = host
by_side Device host device = device

abbrev pub host_dropped_rule : BlockCause → Text
host_dropped_rule cause.NotRunning = codes "answers.running"
host_dropped_rule cause.WrongStream = codes "answers.stream"
host_dropped_rule cause.Stale = codes "answers.floor"
host_dropped_rule cause.NotTrusted = codes "answers.floor"
host_dropped_rule cause.Outside = codes "answers.floor"
host_dropped_rule cause.Crosses = codes "answers.floor"
host_dropped_rule cause.Full = codes "answers.floor"
host_dropped_rule cause.Moved = codes "answers.floor"

abbrev pub device_dropped_rule : BlockCause → Text
device_dropped_rule cause.NotTrusted = codes "responses.trusted"
device_dropped_rule cause.NotRunning = codes "responses.running"
device_dropped_rule cause.WrongStream = codes "responses.stream"
device_dropped_rule cause.Stale = codes "responses.floor"
device_dropped_rule cause.Moved = codes "responses.moved"
device_dropped_rule cause.Outside = codes "responses.floor"
device_dropped_rule cause.Crosses = codes "responses.floor"
device_dropped_rule cause.Full = codes "responses.floor"

abbrev pub refused_rule : Side → Text
refused_rule side = by_side side (codes "answers.refused") (codes "responses.refused")

abbrev pub unanswered_rule : Side → AccessVerdict → Text
unanswered_rule side (av.Empty link) = by_side side (codes "answers.empty") (codes "responses.empty")
unanswered_rule side (av.Dropped interface c) = by_side side (host_dropped_rule c) (device_dropped_rule c)
unanswered_rule side (av.Mmio bytes) = refused_rule side

abbrev pub refreshed_rule : Side → InterfaceVerdict → Text
refreshed_rule side (iv.RefusedRefreshFirst draw needed) =
    by_side side (codes "answers.refresh") (codes "responses.refresh")
refreshed_rule side w = refused_rule side

abbrev pub answer_rule : Side → Verdict → Text
answer_rule side v.Nothing = by_side side (codes "answers.link") (codes "responses.link")
answer_rule side (v.Access w) = unanswered_rule side w
answer_rule side (v.Interface w) = refreshed_rule side w
answer_rule side (v.Sealed ds) = by_side side (codes "answers.sealed") (codes "responses.sealed")
answer_rule side w = refused_rule side

abbrev pub access_rule : AccessEvent → Verdict → Text
access_rule (ae.Answer link) w = answer_rule Host w
access_rule (ae.Respond link) w = answer_rule Device w
access_rule (ae.Mmio interface bar offset len) w = codes "mmio.shown"

-- ---- all events

abbrev pub unless_none : Text → Verdict → Text
unless_none rule v.Nothing = rule_of_none
unless_none rule w = rule

-- the sub-stream of a fact that a TLP goes out
abbrev pub class_of_fact : Fact → Option SubKind
class_of_fact (fact.Stream (sf.Sends port stream sub)) = Some sub
class_of_fact x = None

-- of the first of these facts
abbrev pub class_of_first : List Fact → Option SubKind
class_of_first [] = None
class_of_first (x ∷ xs) = class_of_fact x

-- of the first fact behind that of how many TLPs wait
abbrev pub class_of_second : List Fact → Option SubKind
class_of_second [] = None
class_of_second (x ∷ xs) = class_of_first xs

-- of a send by the first of its facts, which says the TLP's sub-stream; of a forward by the second
abbrev pub rule_of : Event → Verdict → List Fact → Text
rule_of (event.Establish line stream loss) w xs = operation_rule line (codes "operations.establish") w
rule_of (event.Refresh line stream loss) w xs = operation_rule line (codes "operations.refresh") w
rule_of (event.Stop line stream loss) w xs = operation_rule line (codes "operations.begin") w
rule_of (event.Send port bytes more trusted) w xs = sending_rule (class_of_first xs) w rule_of_none
rule_of (event.Forward link d) w xs = sending_rule (class_of_second xs) w (codes "hops.forward")
rule_of (event.Pass n) w xs = arriving_rule w
rule_of (event.Alter n at mask) w xs = arriving_rule w
rule_of (event.Cut n len) w xs = arriving_rule w
rule_of (event.Arrive port bytes) w xs = arriving_rule w
rule_of (event.Dump n) w xs = unless_none (codes "packets.shown") w
rule_of (event.Reset link ends) w xs = unless_none (codes "reset") w
rule_of (event.Status line stream) w xs = unless_none (codes "slots.status") w
rule_of (event.Interface e) w xs = interface_rule e w
rule_of (event.Access e) w xs = access_rule e w
rule_of event.Absent w xs = rule_of_none

-- ---- effects

abbrev pub write_cause_rule : BlockCause → Text
write_cause_rule cause.NotTrusted = codes "memory.trusted"
write_cause_rule cause.NotRunning = codes "memory.running"
write_cause_rule cause.WrongStream = codes "memory.stream"
write_cause_rule cause.Stale = codes "memory.floor"
write_cause_rule cause.Outside = codes "memory.region"
write_cause_rule cause.Crosses = codes "memory.page"
write_cause_rule cause.Full = codes "reads.full"
write_cause_rule cause.Moved = codes "memory.page"

abbrev pub read_cause_rule : BlockCause → Text
read_cause_rule cause.Outside = codes "reads.placed"
read_cause_rule cause.Crosses = codes "reads.placed"
read_cause_rule cause.Full = codes "reads.full"
read_cause_rule cause.NotTrusted = codes "reads.granted"
read_cause_rule cause.NotRunning = codes "reads.granted"
read_cause_rule cause.WrongStream = codes "reads.granted"
read_cause_rule cause.Stale = codes "reads.granted"
read_cause_rule cause.Moved = codes "reads.granted"

abbrev pub mmio_cause_rule : BlockCause → Text
mmio_cause_rule cause.NotTrusted = codes "mmio.trusted"
mmio_cause_rule cause.NotRunning = codes "mmio.running"
mmio_cause_rule cause.WrongStream = codes "mmio.stream"
mmio_cause_rule cause.Stale = codes "mmio.floor"
mmio_cause_rule cause.Crosses = codes "mmio.page"
mmio_cause_rule cause.Outside = codes "mmio.page"
mmio_cause_rule cause.Full = codes "reads.full"
mmio_cause_rule cause.Moved = codes "mmio.page"

-- a host's port: the near end of a link, or of a segment towards the host
abbrev pub is_host_end : PortName → Bool
is_host_end port = by port.side
  where
    by : Side → Bool
    by Host = is_hosted port.line
    by Device = false

-- a write is posted, a read is not
abbrev pub host_cause_rule : SubKind → BlockCause → Text
host_cause_rule Npr c = read_cause_rule c
host_cause_rule Pr c = write_cause_rule c
host_cause_rule Cpl c = write_cause_rule c

abbrev pub cause_rule : PortName → SubKind → BlockCause → Text
cause_rule port sub c = if is_host_end port then host_cause_rule sub c else mmio_cause_rule c

-- of a packet of a unit that an end accepted in a sub-stream
abbrev pub effect_rule_of : PortName → SubKind → Effect → Text
effect_rule_of port sub effect.Applied = codes "memory.bytes"
effect_rule_of port sub effect.Queued = codes "reads.queued"
effect_rule_of port sub effect.Stored = codes "mmio.bytes"
effect_rule_of port sub effect.Waiting = codes "hops.waiting"
effect_rule_of port sub (effect.Blocked c) = cause_rule port sub c
effect_rule_of port sub effect.Sync = codes "arriving.effects"
effect_rule_of port sub effect.Delivered = codes "arriving.effects"
