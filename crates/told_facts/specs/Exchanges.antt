-- The exchanges that are left to an operation: their requests, and what the end that is asked answers.
use Rattle.std.specs.Prelude.{ℕ, zero, suc, ◌+◌, ◌-◌, nat_le, nat_lt, ◌==◌, Bool, true, false, if◌then◌else◌, length}
use Rattle.std.specs.Prelude.{List, [], ◌∷◌, slice_get, Option, Some, None, Result, Ok, Err}
use Rattle.std.specs.Option.{option_map_or}
use Rattle.ide_types.specs.{is_hosted, key_set}
use Rattle.ide_types.specs.declared.plan.Plan.{Plan}
use Rattle.ide_types.specs.declared.plan.LinkPlan.{LinkPlan}
use Rattle.ide_types.specs.declared.interface.InterfacePlan.{InterfacePlan}
use Rattle.key_slots.specs.{six_keys}
use Rattle.key_messages.specs.declared.object.KmView.{KmView}
use Rattle.key_messages.specs.{object_bytes, object_reply, object_spelling}
use Rattle.event_verdicts.specs.declared.verdict.Operation.{Operation}
use Rattle.spec_keys.specs.Operations.{last_exchange_of}
use Rattle.key_host.specs.declared.exchange.Exchange.{Exchange}
use Rattle.key_host.specs.Exchanges.{end_of, exchange_lane, exchange_of, request_of, wire_keys, wire_number}
use Rattle.tdisp_codec.specs.declared.request.RequestView.{RequestView}
use Rattle.tdisp_codec.specs.declared.request.RequestView.TheVariants as request
use Rattle.tdisp_codec.specs.Requests.{request_spelling}
use Rattle.tdisp_codec.specs.Replies.{Reply, reply_spelling, DeviceInterfaceReport}
use Rattle.interface_state.specs.{DeviceTdi}
use Rattle.interface_state.specs.declared.states.TdiState.{TdiState}
use Rattle.interface_state.specs.declared.states.TdiState.TheVariants.{ConfigLocked}
use Rattle.interface_state.specs.Machine.{portion_answer}
use Rattle.interface_ends.specs.Replies.{capabilities_reply, version_reply}
use Rattle.script_events.specs.declared.event.InterfaceEvent.{InterfaceEvent}
use Rattle.script_events.specs.declared.event.InterfaceEvent.TheVariants as ie
use Rattle.spec_interfaces.specs.Peers.{has_peer}
use Rattle.told_facts.specs.declared.fact.Fact.{Fact}
use Rattle.told_facts.specs.declared.fact.Fact.TheVariants as fact
use Rattle.told_facts.specs.declared.fact.Answer.TheVariants as answer

-- so many exchanges, from a number on
unfoldable pub exchanges_from : (ℕ → Fact) → ℕ → ℕ → List Fact
exchanges_from told n zero = []
exchanges_from told n (suc more) = told n ∷ exchanges_from told (n + 1) more

-- ---- key management

-- The request of an exchange of keys, as `key_host` asks it: with the keys of the operation's draw, none of them
-- acknowledged, since a key is kept until its own KEY_PROG is.
abbrev pub key_request_by : List (List ℕ) → (hosted : Bool) → ℕ → Operation → ℕ → ℕ → Exchange → KmView
key_request_by pool hosted stream o draw n e =
    request_of stream (wire_keys hosted (six_keys pool draw)) (wire_number hosted (end_of hosted o n) (exchange_lane e))
    e

abbrev pub key_request : List (List ℕ) → (hosted : Bool) → ℕ → Operation → Bool → ℕ → ℕ → KmView
key_request pool hosted stream o set draw n =
    key_request_by pool hosted stream o draw n (exchange_of hosted o (key_set set) n)

-- the requester ID that the end of a line gives: that of the first interface of the link's device, 0 if there is none
abbrev pub first_requester : List InterfacePlan → ℕ
first_requester [] = 0
first_requester (i ∷ is) = i.requester

abbrev pub named_requester : Plan → ℕ → ℕ
named_requester plan line = option_map_or (λ (l : LinkPlan). first_requester l.interfaces) (slice_get plan.links line) 0

-- the reply is the one that `Responder.answer` of `key_messages` gives, as the port takes the call or not
abbrev pub key_exchange_of : ℕ → ℕ → KmView → Fact
key_exchange_of requester n object = fact.Exchange n (object_spelling object)
    (answer.Known (object_bytes (object_reply requester object true))
    (object_bytes (object_reply requester object false)))

abbrev pub key_exchange : Plan → ℕ → ℕ → Operation → Bool → ℕ → ℕ → Fact
key_exchange plan line stream o set draw n =
    key_exchange_of (named_requester plan line) n (key_request plan.pool (is_hosted line) stream o set draw n)

-- of an operation that gives keys of a draw in a set, from one on: those before it came already
abbrev pub key_exchanges : Plan → ℕ → ℕ → Operation → Bool → ℕ → ℕ → List Fact
key_exchanges plan line stream o set draw first =
    exchanges_from (key_exchange plan line stream o set draw) (first - 1 + 1)
    (last_exchange_of (is_hosted line) o - (first - 1))

-- ---- interfaces

-- as the verdict shows it, to a request of this function ID
abbrev pub shown_exchange : ℕ → RequestView → ℕ → List Fact
shown_exchange n r function = fact.Exchange n (request_spelling r) (answer.Shown function) ∷ []

abbrev pub known_exchange : ℕ → RequestView → Reply → Fact
known_exchange n r reply = fact.Exchange n (request_spelling r) (answer.Known (reply_spelling reply) [])

-- exchanges 1 and 2 are never refused
abbrev pub lock_exchanges : InterfacePlan → List Fact
lock_exchanges p =
    known_exchange 1 (request.GetVersion p.requester) (version_reply p.requester)
    ∷ known_exchange 2 (request.GetCapabilities p.requester) (capabilities_reply p.requester)
    ∷ shown_exchange 3 (request.LockInterface p.requester p.flags p.stream p.offset 0) p.requester

-- A portion of a report from an offset on, and what follows a portion of this length. What a device refuses the verdict
-- shows.
abbrev pub portion_exchanges : ℕ → ℕ → ℕ → ℕ → Result (List ℕ × ℕ) ℕ → (ℕ → List Fact) → List Fact
portion_exchanges function size n offset (Err code) next =
    shown_exchange n (request.GetDeviceInterfaceReport function offset size) function
portion_exchanges function size n offset (Ok portion) next =
    known_exchange n (request.GetDeviceInterfaceReport function offset size)
    (DeviceInterfaceReport function portion.1 portion.0)
    ∷ (if portion.1 == 0 then [] else next (length portion.0))

-- up to so many portions of this size, from an offset on, which has 16 bits
unfoldable pub report_from : ℕ → ℕ → DeviceTdi → ℕ → ℕ → ℕ → List Fact
report_from function size tdi n offset zero = []
report_from function size tdi n offset (suc more) =
    if nat_le offset 65535 then portion_exchanges function size n offset (portion_answer tdi offset size)
    (λ read. report_from function size tdi (n + 1) (offset + read) more)
    else []

-- of a start the nonce of the lock that stands at the device
abbrev pub start_exchange : ℕ → TdiState → List Fact
start_exchange function (ConfigLocked lock nonce) = shown_exchange 1 (request.StartInterface function nonce) function
start_exchange function state = fact.Exchange 1 [] (answer.Shown function) ∷ []

-- a report has at most 1,140 bytes
abbrev pub most_portions : ℕ
most_portions = 1140

-- of an exchange on a stream between devices, if the device has it
abbrev pub peer_exchange : (ℕ → RequestView) → ℕ → Option ℕ → List Fact
peer_exchange asks function None = []
peer_exchange asks function (Some stream) = shown_exchange 1 (asks stream) function

-- of an event on an interface, which is laid out so and stands so at its device; `size` is that of a portion, and
-- `peer`
-- the stream between devices that the event names
abbrev pub exchanges_by_peer : ℕ → Option ℕ → InterfacePlan → DeviceTdi → InterfaceEvent → List Fact
exchanges_by_peer size peer p tdi (ie.Lock i loss) = lock_exchanges p
exchanges_by_peer size peer p tdi (ie.Report i loss) = report_from p.requester size tdi 1 0 most_portions
exchanges_by_peer size peer p tdi (ie.Start i loss) = start_exchange p.requester tdi.state
exchanges_by_peer size peer p tdi (ie.Halt i loss) =
    shown_exchange 1 (request.StopInterface p.requester) p.requester
exchanges_by_peer size peer p tdi (ie.State i loss) =
    shown_exchange 1 (request.GetDeviceInterfaceState p.requester) p.requester
exchanges_by_peer size peer p tdi (ie.Bind i line stream loss) =
    peer_exchange (request.BindP2p p.requester) p.requester peer
exchanges_by_peer size peer p tdi (ie.Unbind i line stream loss) =
    peer_exchange (request.UnbindP2p p.requester) p.requester peer
exchanges_by_peer size peer p tdi e = []

-- the stream between the device of a link and another that an event names
abbrev pub peer_asked : Plan → ℕ → InterfaceEvent → Option ℕ
peer_asked plan link (ie.Bind i line stream loss) =
    if has_peer plan.peers link line stream then Some stream else None
peer_asked plan link (ie.Unbind i line stream loss) =
    if has_peer plan.peers link line stream then Some stream else None
peer_asked plan link e = None

-- of an interface of a link
abbrev pub interface_exchanges : Plan → ℕ → InterfacePlan → DeviceTdi → InterfaceEvent → List Fact
interface_exchanges plan link p tdi e = exchanges_by_peer plan.portion (peer_asked plan link e) p tdi e

-- ---- as a topology lays it out

-- the interface of a number over all these links
abbrev pub interface_planned : List LinkPlan → ℕ → Option InterfacePlan
interface_planned [] i = None
interface_planned (l ∷ ls) i =
    if nat_lt i (length l.interfaces) then slice_get l.interfaces i
    else interface_planned ls (i - length l.interfaces)
