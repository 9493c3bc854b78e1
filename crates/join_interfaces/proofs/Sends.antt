-- A send lets no stream leave Secure at an end. A sealed packet leaves a sender's Live key there, or, if it
-- ends a unit, the waiting one is Live in its place. Receivers and what failed are as they were, and so are other
-- streams and ports.
use Rattle.std.proofs.Common.{◌≡◌, ℕ, ◌+◌, ◌==◌, ◌&&◌, Bool, true, false, List, [], ◌∷◌, length, Option, Some, None}
use Rattle.std.proofs.Common.{refl, ap, sym, ◌∙◌, arith}
use Rattle.std.specs.Prelude.{not, if◌then◌else◌, is_some, Result, Ok, Err}
use Rattle.spec_keys.specs.Keys.{is_some_below}
use Rattle.ide_types.specs.declared.port.PortName.{PortName}
use Rattle.ide_types.specs.declared.port.Side.TheVariants.{Device}
use Rattle.ide_types.specs.declared.sub.SubKind.{SubKind}
use Rattle.ide_types.specs.declared.sub.SubKind.TheVariants.{Pr, Npr, Cpl}
use Rattle.ide_types.specs.Sub.{is_same_sub}
use Rattle.ide_types.specs.declared.plan.Plan.{Plan}
use Rattle.tlp_layout.specs.declared.tlp.Tlp.{Tlp}
use Rattle.tlp_layout.specs.Class.{class_of}
use Rattle.tlp_layout.specs.Head.{head_bytes}
use Rattle.tlp_layout.specs.Tlp.{header, body}
use Rattle.tlp_layout.specs.Outgoing.{Outgoing, NoTlp, OnNone, OnStream}
use Rattle.ide_prefix.specs.Packet.{Packet}
use Rattle.script_events.specs.declared.event.Event.TheVariants.{Access, Forward, Send}
use Rattle.script_events.specs.declared.event.AccessEvent.TheVariants as ae
use Rattle.event_verdicts.specs.declared.verdict.SealedPacket.{SealedPacket}
use Rattle.event_verdicts.specs.declared.verdict.Verdict.{Verdict}
use Rattle.event_verdicts.specs.declared.verdict.Verdict.TheVariants as v
use Rattle.spec_links.specs.Plan.{aggregation_of, is_closed, is_same_port}
use Rattle.spec_links.specs.Ports.{may_send, outgoing_at, sealing_end}
use Rattle.spec_links.specs.Hops.{HopTlp, leaving_end}
use Rattle.ide_types.specs.declared.direction.Direction.{Direction}
use Rattle.spec_links.specs.Due.{Sending, refusals, sealed_with_syncs, first_that_holds}
use Rattle.spec_stream.specs.Stream.{LaneSlot, LaneSlots, TxSub, Three, StreamState, Empty, Programmed, Armed, Live}
use Rattle.spec_stream.specs.Stream.{gone_on, counted_unit, ended_slots, sealed_slots, sealed_sub, sealed_one}
use Rattle.spec_stream.specs.Stream.{sealed_all, lanes_of}
use Rattle.spec_stream.specs.Slots.{is_live_slot, any_live, has_all_live, has_some_live}
use Rattle.ide_types.specs.Ports.{device_port, host_port, keyed_status}
use Rattle.tlp_layout.specs.Reading.{read_of}
use Rattle.tlp_layout.specs.declared.fault.TlpFault.{TlpFault}
use Rattle.spec_interfaces.specs.Devices.{is_secure}
use Rattle.std.specs.Option.{option_and_then}
use Rattle.machine_whole.specs.Accesses.{posted_draw_at}
use Rattle.machine_whole.specs.Machine.{live_if, live_draw_at_end}
unfoldable use Rattle.spec_interfaces.specs.Peers.{peer_end}
use Rattle.join_interfaces.specs.Says.{AreSecureStill, says_by_ports}
use Rattle.machine_ports.specs.Machine.{BesidePorts, LinkState, LinkPacket, Stepped, port_at, status_if_planned}
use Rattle.machine_ports.specs.Machine.{sealing_draw_at, stepped_answer, stepped_completion, stepped_on_stream}
use Rattle.machine_ports.specs.Machine.{stepped_bytes, stepped_forward, stepped_reply, stepped_seal, stepped_send}
use Rattle.machine_ports.specs.Machine.{stepped_tlp}
use Rattle.machine_ports.specs.Replies.{ReadCompletion}
unfoldable use Rattle.machine_ports.specs.Machine.{find, with_stream_state, step_of}
use Rattle.machine_ports.proofs.Puts.{find-put, find-put_other}
use Rattle.machine_ports.proofs.Changes.{at_place}

-- ---- senders

gone_live : (p : Packet) (s : LaneSlot) → is_live_slot (gone_on p s) ≡ is_live_slot s
gone_live p (Live x) = refl
gone_live p s = refl

counted_live : (s : LaneSlot) → is_live_slot (counted_unit s) ≡ is_live_slot s
counted_live (Live x) = refl
counted_live s = refl

ended_live : (a b : LaneSlot) → any_live (record { first = a; second = b }) ≡ true
    → any_live (ended_slots (record { first = a; second = b })) ≡ true
ended_live Empty b is = rw (counted_live b) is
ended_live (Programmed j key) b is = rw (counted_live b) is
ended_live (Armed j key) (Live x) is = refl
ended_live (Armed j key) b is = is
ended_live (Live x) b is = grind arith

sealed_live : (m : Bool) (p : Packet) (s : LaneSlots) → any_live s ≡ true → any_live (sealed_slots m p s) ≡ true
sealed_live true p s is = ended_live s.first s.second is
sealed_live false p s is = rw (gone_live p s.first, gone_live p s.second) is

sub_by : (own posted : Bool) (d : SealedPacket) (p : Packet) (x y z : TxSub) → any_live x.slots ≡ true
    → any_live y.slots ≡ true → any_live z.slots ≡ true
    → any_live (if own then x else if posted then y else z).slots ≡ true
sub_by true posted d p x y z one two three = one
sub_by false true d p x y z one two three = two
sub_by false false d p x y z one two three = three

sub_live : (d : SealedPacket) (p : Packet) (u : SubKind) (x : TxSub) → any_live x.slots ≡ true
    → any_live (sealed_sub d p u x).slots ≡ true
sub_live d p u x is = sub_by (is_same_sub d.sub u) (is_same_sub d.sub Pr) d p _ _ x (sealed_live d.m p x.slots is) is is

-- each sub-stream has a Live key
record AllSend (tx : Three TxSub) : Type 0 where
  pr : any_live tx.pr.slots ≡ true
  npr : any_live tx.npr.slots ≡ true
  cpl : any_live tx.cpl.slots ≡ true

all_sealed : (closed : Bool) (head payload : List ℕ) (ds : List SealedPacket) (tx : Three TxSub) → AllSend tx
    → AllSend (sealed_all closed head payload ds tx).1
all_sealed closed head payload [] tx is = is
all_sealed closed head payload (d ∷ ds) tx is =
    let one = sealed_one closed head payload d tx in
    all_sealed closed head payload ds one.1 (record {
      pr = sub_live d one.0 Pr tx.pr is.pr;
      npr = sub_live d one.0 Npr tx.npr is.npr;
      cpl = sub_live d one.0 Cpl tx.cpl is.cpl;
    })

-- ---- a stream

secure_by : (failed some all : Bool) → is_secure (keyed_status failed some all) ≡ (not failed && all)
secure_by failed some all = grind arith

each_of : (failed a b c d e f : Bool) → (not failed && (a && b && c && d && e && f)) ≡ true
    → (a ≡ true) × (b ≡ true) × (c ≡ true)
each_of failed a b c d e f is = (grind arith, grind arith, grind arith)

all_with : (failed a b c d e f x y z : Bool) → (not failed && (a && b && c && d && e && f)) ≡ true → x ≡ true
    → y ≡ true → z ≡ true → (not failed && (x && y && z && d && e && f)) ≡ true
all_with failed a b c d e f x y z is one two three = grind arith

secure_sealed : (x : StreamState) (closed : Bool) (head payload : List ℕ) (ds : List SealedPacket)
    → is_secure (status_if_planned (Some x)) ≡ true
    → is_secure (status_if_planned (Some (record x { tx = (sealed_all closed head payload ds x.tx).1 }))) ≡ true
secure_sealed x closed head payload ds is =
    let tx = (sealed_all closed head payload ds x.tx).1 in
    let y = record x { tx = tx } in
    let all : (not x.failed && has_all_live x) ≡ true = sym (secure_by x.failed (has_some_live x) (has_all_live x)) ∙ is
    in
    let old = each_of x.failed (any_live x.tx.pr.slots) (any_live x.tx.npr.slots) (any_live x.tx.cpl.slots)
    (any_live x.rx.pr.slots) (any_live x.rx.npr.slots) (any_live x.rx.cpl.slots) all in
    let new = all_sealed closed head payload ds x.tx (record { pr = old.0; npr = old.1; cpl = old.2 }) in
    secure_by x.failed (has_some_live y) (has_all_live y)
    ∙ all_with x.failed (any_live x.tx.pr.slots) (any_live x.tx.npr.slots) (any_live x.tx.cpl.slots)
    (any_live x.rx.pr.slots) (any_live x.rx.npr.slots) (any_live x.rx.cpl.slots) (any_live tx.pr.slots)
    (any_live tx.npr.slots) (any_live tx.cpl.slots) all new.pr new.npr new.cpl

-- ---- a send

-- no stream leaves Secure at a port
abbrev pub StaySecure : Plan → LinkState → LinkState → Type 0
StaySecure plan old new = (q : PortName) (t : ℕ) → is_secure (status_if_planned (find plan old q t)) ≡ true
    → is_secure (status_if_planned (find plan new q t)) ≡ true

find_packets : (plan : Plan) (st : LinkState) (ps : List LinkPacket) (q : PortName) (t : ℕ)
    → find plan (record st { packets = ps }) q t ≡ find plan st q t
unfolding find
find_packets plan st ps q t = refl

put_kept : (plan : Plan) (st : LinkState) (port : PortName) (stream : ℕ) (x y : StreamState)
    → find plan st port stream ≡ Some x
    → (is_secure (status_if_planned (Some x)) ≡ true → is_secure (status_if_planned (Some y)) ≡ true)
    → (q : PortName) (t : ℕ) (b : Bool) → (is_same_port port q && (stream == t)) ≡ b
    → is_secure (status_if_planned (find plan st q t)) ≡ true
    → is_secure (status_if_planned (find plan (with_stream_state plan st port stream y) q t)) ≡ true
put_kept plan st port stream x y found keeps q t true same is =
    at_place port q stream t (λ r n. is_secure (status_if_planned (find plan st r n)) ≡ true
    → is_secure (status_if_planned (find plan (with_stream_state plan st port stream y) r n)) ≡ true) same
    (λ old. ap (λ o. is_secure (status_if_planned o)) (find-put plan st port stream y (ap is_some found))
    ∙ keeps (ap (λ o. is_secure (status_if_planned o)) (sym found) ∙ old)) is
put_kept plan st port stream x y found keeps q t false other is =
    ap (λ o. is_secure (status_if_planned o)) (find-put_other plan st port stream y q t other) ∙ is

sealed_kept : (plan : Plan) (st : LinkState) (s : Sending) (t : Tlp) (x : StreamState) (o : Option Verdict)
    (ds : List SealedPacket) → find plan st s.port s.stream ≡ Some x
    → StaySecure plan st (stepped_answer plan st s t x o ds).1
sealed_kept plan st s t x (Some w) ds found q n is = is
sealed_kept plan st s t x None ds found q n is =
    let sealed = sealed_all (is_closed plan s.port.line s.stream) (head_bytes (header t)) (body t) ds x.tx in
    let y = record x { tx = sealed.1 } in
    ap (λ o. is_secure (status_if_planned o)) (find_packets plan (with_stream_state plan st s.port s.stream y) _ q n)
    ∙ put_kept plan st s.port s.stream x y found
    (secure_sealed x (is_closed plan s.port.line s.stream) (head_bytes (header t)) (body t) ds) q n
    (is_same_port s.port q && (s.stream == n)) refl is

found_kept : (plan : Plan) (st : LinkState) (s : Sending) (t : Tlp) (o : Option StreamState)
    → find plan st s.port s.stream ≡ o → StaySecure plan st (stepped_on_stream plan st s t o).1
found_kept plan st s t None found q n is = is
found_kept plan st s t (Some x) found q n is =
    let lanes = lanes_of (aggregation_of plan s.port.line s.stream) plan.units_per_key x in
    sealed_kept plan st s t x (first_that_holds (refusals lanes s.class))
    (sealed_with_syncs lanes s (length st.packets + 1))
    found q n is

seal_kept : (plan : Plan) (st : LinkState) (port : PortName) (t : Tlp) (stream : ℕ) (more trusted : Bool)
    → StaySecure plan st (stepped_seal plan st port t stream more trusted).1
seal_kept plan st port t stream more trusted q n is =
    let s : Sending = record {
      port = port;
      stream = stream;
      class = class_of (header t);
      more = more;
      trusted = trusted;
    } in
    found_kept plan st s t (find plan st port stream) refl q n is

send_kept : (plan : Plan) (beside : BesidePorts) (st : LinkState) (port : PortName) (o : Outgoing) (more trusted : Bool)
    → StaySecure plan st (stepped_send plan beside st port o more trusted).1
send_kept plan beside st port (NoTlp f) more trusted = λ q n is. is
send_kept plan beside st port OnNone more trusted = λ q n is. is
send_kept plan beside st port (OnStream t stream) more trusted =
    seal_kept plan st port t stream more (beside.t port (header t) stream trusted)

bytes_kept : (plan : Plan) (beside : BesidePorts) (st : LinkState) (end : PortName) (bytes : List ℕ)
    (more trusted : Bool) → StaySecure plan st (stepped_bytes plan beside st end bytes more trusted).1
bytes_kept plan beside st end bytes more trusted =
    send_kept plan beside st end (outgoing_at plan end bytes) more trusted

if_kept : (plan : Plan) (st : LinkState) (b : Bool) (r : Stepped) (w : Verdict) → StaySecure plan st r.1
    → StaySecure plan st (if b then r else (w, st)).1
if_kept plan st true r w kept q n is = kept q n is
if_kept plan st false r w kept q n is = is

pub sends_kept : (plan : Plan) (beside : BesidePorts) (st : LinkState) (port : PortName) (bytes : List ℕ)
    (more trusted : Bool) → StaySecure plan st (step_of plan beside st (Send port bytes more trusted)).1
unfolding step_of
sends_kept plan beside st port bytes more trusted = if_kept plan st (may_send plan port) _ v.Nothing
    (bytes_kept plan beside st (sealing_end plan port bytes) bytes more trusted)

-- an answer to a read is a send, or leaves the ports as they are
read_kept : (plan : Plan) (st : LinkState) (c : ReadCompletion) (o : Result Tlp TlpFault)
    → StaySecure plan st (stepped_tlp plan st c o).1
read_kept plan st c (Err f) q n is = is
read_kept plan st c (Ok t) q n is = seal_kept plan st c.end t c.stream false c.trusted q n is

completion_kept : (plan : Plan) (st : LinkState) (c : ReadCompletion) (draw : Option ℕ)
    → StaySecure plan st (stepped_completion plan st c draw).1
completion_kept plan st c draw =
    not_if plan st (is_some_below draw c.floor) _ _ (read_kept plan st c (read_of c.bytes))
  where
    not_if : (p : Plan) (s : LinkState) (b : Bool) (w : Verdict) (x : Stepped) → StaySecure p s x.1
        → StaySecure p s (if b then (w, s) else x).1
    not_if p s true w x kept q n is = is
    not_if p s false w x kept q n is = kept q n is

reply_kept : (plan : Plan) (st : LinkState) (o : Result ReadCompletion Verdict)
    → StaySecure plan st (stepped_reply plan st o).1
reply_kept plan st (Err w) q n is = is
reply_kept plan st (Ok c) q n is =
    completion_kept plan st c (sealing_draw_at Cpl (find plan st c.end c.stream)) q n is

pub answer_kept : (plan : Plan) (beside : BesidePorts) (st : LinkState) (link : ℕ)
    → StaySecure plan st (step_of plan beside st (Access (ae.Answer link))).1
unfolding step_of
answer_kept plan beside st link = reply_kept plan st (beside.reply (host_port link))

pub response_kept : (plan : Plan) (beside : BesidePorts) (st : LinkState) (link : ℕ)
    → StaySecure plan st (step_of plan beside st (Access (ae.Respond link))).1
unfolding step_of
response_kept plan beside st link = reply_kept plan st (beside.reply (device_port link))

-- so is what a switch sends on
first_kept : (plan : Plan) (beside : BesidePorts) (st : LinkState) (end : PortName) (o : Result HopTlp Verdict)
    → StaySecure plan st (stepped_forward plan beside st end o).1
first_kept plan beside st end (Err w) q n is = is
first_kept plan beside st end (Ok x) q n is = bytes_kept plan beside st end x.bytes false x.t q n is

pub forward_kept : (plan : Plan) (beside : BesidePorts) (st : LinkState) (link : ℕ) (d : Direction)
    → StaySecure plan st (step_of plan beside st (Forward link d)).1
unfolding step_of
forward_kept plan beside st link d = first_kept plan beside st (leaving_end link d) (beside.forward link d)

-- ---- what a device says

secure_live : (b : Bool) (draw : ℕ) → is_some (live_if b draw) ≡ b
secure_live true draw = refl
secure_live false draw = refl

live_kept : (plan : Plan) (old new : LinkState) (o : Option PortName) (stream : ℕ) → StaySecure plan old new
    → is_some (option_and_then (λ e. live_draw_at_end plan old e stream) o) ≡ true
    → is_some (option_and_then (λ e. live_draw_at_end plan new e stream) o) ≡ true
live_kept plan old new None stream kept is = is
live_kept plan old new (Some e) stream kept is = secure_live _ (posted_draw_at plan new e stream)
    ∙ kept e stream (sym (secure_live _ (posted_draw_at plan old e stream)) ∙ is)

-- no stream that it says is Secure leaves that
pub says_kept : (plan : Plan) (old new : LinkState) → StaySecure plan old new → (link : ℕ)
    → AreSecureStill (says_by_ports plan old link) (says_by_ports plan new link)
says_kept plan old new kept link = record {
  secure = λ stream is. kept (port_at Device link) stream is;
  live = λ stream is. live_kept plan old new (peer_end plan.peers 0 link stream) stream kept is;
}
