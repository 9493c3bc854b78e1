-- Facts as they are shown: words with a space between each two.
use Rattle.std.specs.Prelude.{◌+◌, Bool, true, false, ◌++◌, codes}
use Rattle.std.specs.Fmt.{decimal}
use Rattle.ide_types.specs.{Text, port_word, substream_word, status_word}
use Rattle.ide_types.specs.ViewNames.{view_word}
use Rattle.event_verdicts.specs.Words.{bit_of}
use Rattle.told_facts.specs.Terms.{SetState, ManagerState, StreamFact, OperationFact, InterfaceFact, Fact}
use Rattle.told_facts.specs.Terms.set
use Rattle.told_facts.specs.Terms.manager
use Rattle.told_facts.specs.Terms.sf
use Rattle.told_facts.specs.Terms.of
use Rattle.told_facts.specs.Terms.face
use Rattle.told_facts.specs.Terms.fact

-- a bit, 0 or 1
abbrev pub bit_word : Bool → Text
bit_word b = decimal (bit_of b)

abbrev pub set_word : SetState → Text
set_word set.Empty = codes "none"
set_word (set.Kept draw) = codes "kept draw " ++ decimal draw
set_word (set.Waits draw) = codes "waits draw " ++ decimal draw
set_word (set.On draw units packets) =
    codes "on draw " ++ decimal draw ++ codes " unit " ++ decimal (units + 1) ++ codes " packets " ++ decimal packets

abbrev pub manager_word : ManagerState → Text
manager_word manager.Idle = codes "idle"
manager_word (manager.Establishing draw next) =
    codes "establishing draw " ++ decimal draw ++ codes " next " ++ decimal next
manager_word (manager.Up set draw) = codes "up set " ++ bit_word set ++ codes " draw " ++ decimal draw
manager_word (manager.Refreshing set draw next) =
    codes "refreshing set " ++ bit_word set ++ codes " draw " ++ decimal draw ++ codes " next " ++ decimal next
manager_word (manager.Stopping next) = codes "stopping next " ++ decimal next

abbrev pub stream_fact_word : StreamFact → Text
stream_fact_word (sf.At port) = codes "at " ++ port_word port
stream_fact_word (sf.Packets packets) = codes "packets " ++ decimal packets
stream_fact_word (sf.Arrives port stream sub k) =
    codes "arrives " ++ port_word port ++ codes " " ++ decimal stream ++ codes " " ++ substream_word sub
    ++ codes " k" ++ bit_word k
stream_fact_word (sf.Sends port stream sub) =
    codes "sends " ++ port_word port ++ codes " " ++ decimal stream ++ codes " " ++ substream_word sub
stream_fact_word (sf.State status) = codes "stream " ++ status_word status
stream_fact_word (sf.Posted sub posted) = codes "posted " ++ substream_word sub ++ codes " " ++ decimal posted
stream_fact_word (sf.Set set state) = codes "set " ++ bit_word set ++ codes " " ++ set_word state
stream_fact_word (sf.Counts sum posted) = codes "counts " ++ decimal sum ++ codes " of " ++ decimal posted
stream_fact_word (sf.Adds posted) = codes "adds " ++ decimal posted
stream_fact_word (sf.Total units) = codes "total " ++ decimal units

-- which way a place goes
abbrev pub way_word : Bool → Text
way_word true = codes "sends"
way_word false = codes "receives"

abbrev pub operation_fact_word : OperationFact → Text
operation_fact_word (of.Manager state) = codes "manager " ++ manager_word state
operation_fact_word (of.Draws made pool) = codes "draws " ++ decimal made ++ codes " of " ++ decimal pool
operation_fact_word (of.Exchanges first last) = codes "exchanges " ++ decimal first ++ codes " to " ++ decimal last
operation_fact_word (of.Refuses exchange port sends sub) =
    codes "refuses " ++ decimal exchange ++ codes " " ++ port_word port ++ codes " " ++ way_word sends ++ codes " "
    ++ substream_word sub
operation_fact_word (of.Open sub) = codes "open " ++ substream_word sub
operation_fact_word (of.Clears port stream status) =
    codes "clears " ++ port_word port ++ codes " " ++ decimal stream ++ codes " " ++ status_word status

abbrev pub interface_fact_word : InterfaceFact → Text
interface_fact_word (face.Interface interface state) =
    codes "interface " ++ decimal interface ++ codes " state " ++ decimal state
interface_fact_word (face.View view) = codes "view " ++ view_word view
interface_fact_word (face.Reported reported) = codes "reported " ++ bit_word reported
interface_fact_word (face.Started started) = codes "started " ++ bit_word started
interface_fact_word (face.Bound stream floor) = codes "bound " ++ decimal stream ++ codes " floor " ++ decimal floor
interface_fact_word (face.Needs needs) = codes "needs " ++ decimal needs
interface_fact_word (face.Draw draw) = codes "draw " ++ decimal draw
interface_fact_word (face.Packet place t) = codes "packet " ++ decimal place ++ codes " t" ++ bit_word t
interface_fact_word (face.Bytes address count) = codes "bytes " ++ decimal address ++ codes " " ++ decimal count
interface_fact_word (face.Region base size) = codes "region " ++ decimal base ++ codes " " ++ decimal size
interface_fact_word (face.Bar bar base pages is_open) =
    codes "bar " ++ decimal bar ++ codes " base " ++ decimal base ++ codes " pages " ++ decimal pages
    ++ codes " open " ++ bit_word is_open
interface_fact_word (face.Takes stream floor) = codes "takes " ++ decimal stream ++ codes " floor " ++ decimal floor
interface_fact_word (face.Live draw) = codes "live " ++ decimal draw
interface_fact_word (face.Waiting waiting) = codes "waiting " ++ decimal waiting
interface_fact_word (face.Read draw) = codes "read draw " ++ decimal draw
interface_fact_word (face.Asks interface bar t) =
    codes "asks " ++ decimal interface ++ codes " bar " ++ decimal bar ++ codes " t" ++ bit_word t

abbrev pub fact_word : Fact → Text
fact_word (fact.Stream x) = stream_fact_word x
fact_word (fact.Operation x) = operation_fact_word x
fact_word (fact.Interface x) = interface_fact_word x
-- its messages are told by the verdict
fact_word (fact.Exchange n request a) = codes "exchange " ++ decimal n
