-- A send, an answer to a read or an arrival leaves the manager's operations and the draws.
use Rattle.machine_ports.specs.Machine.{BesidePorts, sealing_draw_at, stepped_seal, stepped_tlp, stepped_completion}
use Rattle.machine_ports.specs.Machine.{stepped_reply, stepped_forward}
use Rattle.script_events.specs.declared.event.Event.TheVariants.{Forward, Access}
use Rattle.machine_ports.specs.{HopTlp, leaving_end, may_send, outgoing_at, arrival_at}
use Rattle.machine_ports.specs.Replies.{ReadCompletion}
use Rattle.script_events.specs.declared.event.AccessEvent.TheVariants as ae
use Rattle.ide_types.specs.declared.verdict.InterfaceVerdict.TheVariants as iv
use Rattle.ide_types.specs.Ports.{host_port, device_port}
use Rattle.ide_types.specs.declared.sub.SubKind.TheVariants.{Cpl}
use Rattle.machine_operations.proofs.Terms.{◌≡◌, ℕ, Bool, true, false, List, Option, Some, None, Result, Ok, Err, refl}
use Rattle.machine_operations.proofs.Terms.{arith, if◌then◌else◌, Alter, stepped_answer, ArrivedBytes, Arrive}
use Rattle.machine_operations.proofs.Terms.{stepped_arrival, Cut, Dump, Event, find, has_port, is_of_packets, LinkState}
use Rattle.machine_operations.proofs.Terms.{Pass, Plan, PortName, with_stream_state, Send, stepped_on_stream}
use Rattle.machine_operations.proofs.Terms.{stepped_send, Sending, step_of, Stepped, StreamState, Verdict}
use Rattle.std.specs.Prelude.{unwrap_or}
use Rattle.spec_keys.specs.Keys.{is_some_below}
unfoldable use Rattle.machine_ports.specs.{sealing_end}
use Rattle.event_verdicts.specs.declared.verdict.Verdict.TheVariants as v
use Rattle.event_verdicts.specs.declared.verdict.SealedPacket.{SealedPacket}
use Rattle.tlp_layout.specs.Class.{class_of}
use Rattle.tlp_layout.specs.Tlp.{header}
use Rattle.tlp_layout.specs.declared.tlp.Tlp.{Tlp}
use Rattle.tlp_layout.specs.Outgoing.{Outgoing, NoTlp, OnNone, OnStream}
use Rattle.tlp_layout.specs.Reading.{read_of}
use Rattle.tlp_layout.specs.declared.fault.TlpFault.{TlpFault}

abbrev pub Kept : LinkState → Stepped → Type 0
Kept st r = (r.1.ops ≡ st.ops) × (r.1.draws ≡ st.draws)

arrive_kept : (plan : Plan) (beside : BesidePorts) (st : LinkState) (a : Option ArrivedBytes)
    → Kept st (stepped_arrival plan beside st a)
unfolding with_stream_state
arrive_kept plan beside st a = grind arith

answered_kept : (plan : Plan) (st : LinkState) (s : Sending) (t : Tlp) (x : StreamState) (o : Option Verdict)
    (ds : List SealedPacket) → Kept st (stepped_answer plan st s t x o ds)
unfolding with_stream_state
answered_kept plan st s t x o ds = grind arith

found_kept : (plan : Plan) (st : LinkState) (s : Sending) (t : Tlp) (o : Option StreamState)
    → Kept st (stepped_on_stream plan st s t o)
found_kept plan st s t None = (refl, refl)
found_kept plan st s t (Some x) = answered_kept plan st s t x _ _

seal_kept : (plan : Plan) (st : LinkState) (port : PortName) (t : Tlp) (stream : ℕ) (more trusted : Bool)
    → Kept st (stepped_seal plan st port t stream more trusted)
seal_kept plan st port t stream more trusted =
    found_kept plan st (record {
      port = port;
      stream = stream;
      class = class_of (header t);
      more = more;
      trusted = trusted;
    }) t (find plan st port stream)

send_kept : (plan : Plan) (beside : BesidePorts) (st : LinkState) (port : PortName) (o : Outgoing)
    (more trusted b : Bool)
    → Kept st (if b then stepped_send plan beside st port o more trusted else (v.Nothing, st))
send_kept plan beside st port (NoTlp f) more trusted true = (refl, refl)
send_kept plan beside st port OnNone more trusted true = (refl, refl)
send_kept plan beside st port (OnStream t stream) more trusted true =
    seal_kept plan st port t stream more (beside.t port (header t) stream trusted)
send_kept plan beside st port o more trusted false = (refl, refl)

read_kept : (plan : Plan) (st : LinkState) (c : ReadCompletion) (r : Result Tlp TlpFault)
    → Kept st (stepped_tlp plan st c r)
read_kept plan st c (Err f) = (refl, refl)
read_kept plan st c (Ok tlp) = seal_kept plan st c.end tlp c.stream false c.trusted

completed_kept : (plan : Plan) (st : LinkState) (c : ReadCompletion) (draw : Option ℕ)
    → Kept st (stepped_completion plan st c draw)
completed_kept plan st c draw = by (is_some_below draw c.floor)
  where
    by : (b : Bool) → Kept st (if b then (v.Interface (iv.RefusedRefreshFirst (unwrap_or draw 0) c.floor), st)
        else stepped_tlp plan st c (read_of c.bytes))
    by true = (refl, refl)
    by false = read_kept plan st c (read_of c.bytes)

reply_kept : (plan : Plan) (st : LinkState) (r : Result ReadCompletion Verdict) → Kept st (stepped_reply plan st r)
reply_kept plan st (Err w) = (refl, refl)
reply_kept plan st (Ok c) = completed_kept plan st c (sealing_draw_at Cpl (find plan st c.end c.stream))

forward_kept : (plan : Plan) (beside : BesidePorts) (st : LinkState) (port : PortName) (r : Result HopTlp Verdict)
    → Kept st (stepped_forward plan beside st port r)
forward_kept plan beside st port (Err w) = (refl, refl)
forward_kept plan beside st port (Ok x) = send_kept plan beside st port (outgoing_at plan port x.bytes) false x.t true

pub step_kept : (plan : Plan) (beside : BesidePorts) (st : LinkState) (e : Event) → is_of_packets e ≡ true
    → Kept st (step_of plan beside st e)
unfolding step_of
step_kept plan beside st (Send port bytes more trusted) is = send_kept plan beside st (sealing_end plan port bytes)
    (outgoing_at plan (sealing_end plan port bytes) bytes) more trusted (may_send plan port)
step_kept plan beside st (Access (ae.Answer link)) is = reply_kept plan st (beside.reply (host_port link))
step_kept plan beside st (Access (ae.Respond link)) is = reply_kept plan st (beside.reply (device_port link))
step_kept plan beside st (Forward link d) is = forward_kept plan beside st (leaving_end link d) (beside.forward link d)
step_kept plan beside st (Arrive port bytes) is = by_port (has_port plan port)
  where
    by_port : (b : Bool) → Kept st
        (if b then stepped_arrival plan beside st (Some (arrival_at plan port bytes)) else (v.Nothing, st))
    by_port true = arrive_kept plan beside st (Some (arrival_at plan port bytes))
    by_port false = (refl, refl)
step_kept plan beside st (Pass n) is = arrive_kept plan beside st _
step_kept plan beside st (Alter n at mask) is = arrive_kept plan beside st _
step_kept plan beside st (Cut n len) is = arrive_kept plan beside st _
step_kept plan beside st (Dump n) is = (refl, refl)
step_kept plan beside st _ is = absurd cc
