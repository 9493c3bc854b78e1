-- What an accepted, a held and a sealed verdict tell, if they were due. `tells` goes down the rule for each kind of
-- event to the send, or to the packet that the event brought; no other way leads to one of the three. From there each
-- test that gives another verdict must have gone the other way, and these tests are what the records list.
use Rattle.spec_links.proofs.Terms.{Bool, Err, List, None, Ok, Option, Result, Some, [], ap, arith, false, length, refl}
use Rattle.spec_links.specs.Terms.{option_map_or}
use Rattle.spec_links.proofs.Terms.{subst, sym, true, ℕ, ◌+◌, ◌∙◌, ◌∷◌, ◌≡◌, unwrap_or, key_due, Ending, Sending}
use Rattle.spec_links.proofs.Terms.{arrival_due, before_tag, before_tag_of_cut, due, dump_due, effects_of}
use Rattle.spec_links.proofs.Terms.{unit_packets_ended, first_that_holds, send_due, is_mixed, is_overfull, is_verified}
use Rattle.spec_links.proofs.Terms.{lanes_at, receiving_sub_stream, refusals, sealed_with_syncs, streams_of}
use Rattle.spec_links.proofs.Terms.{next_unit_name, ArrivedBytes, arrival_of_event, arrived_packet, cut_packet}
use Rattle.spec_links.proofs.Terms.{has_failed, meets_counts, on_draw, packet_by_number, arrival_packet, received_in}
use Rattle.spec_links.proofs.Terms.{sealed_packets, units_got, is_quiet, SubStream, has_link, has_stream, stream_plan}
use Rattle.spec_links.proofs.Terms.{AllByRecursion, Alter, Arrive, Cut, Dump, Effect, Establish, Interface, Event}
use Rattle.spec_links.proofs.Terms.{sent_bytes, Pass, History, Packet, Plan, PortName, Refresh, Reset, SealedPacket}
use Rattle.spec_links.proofs.Terms.{Send, Status, Stop, UnitName, Verdict, if◌then◌else◌, is_some, not, packets_in_hold}
use Rattle.spec_links.proofs.Terms.{◌++◌, Access, sending_port, answer_due, site_answer}
use Rattle.spec_links.proofs.Terms.{completion_verdict, outgoing_completion, is_before, judged_by, answer_judged}
use Rattle.spec_links.proofs.Terms.{binding_cause, WaitingRead, waiting_reads, Site, site_of_requester, granted_to}
use Rattle.spec_links.proofs.Terms.{live_key, lane_out, Cpl}
use Rattle.spec_links.specs.Due.{seal_due, first_answered, read_due, response_sent, response_judged}
use Rattle.spec_links.specs.Due.{site_response, target_response, respond_due}
use Rattle.spec_links.specs.Terms.{ReadArrival, ReadTarget, TlpFault, Claim, least_draw, site_on}
use Rattle.spec_links.proofs.HopFirst.{drop_first}
use Rattle.spec_links.specs.Sent.{reads_taken}
use Rattle.spec_links.specs.Memory.{queued_reads}
use Rattle.ide_types.specs.Ports.{host_port, device_port}
use Rattle.spec_links.specs.Due.{bytes_due, through_due, forward_out, forward_first, ending_due}
use Rattle.spec_links.specs.Hops.{HopTlp, has_hop}
use Rattle.spec_links.specs.Memory.{hop_waiting, unit_ended}
use Rattle.ide_types.specs.declared.direction.Direction.{Direction}
use Rattle.script_events.specs.declared.event.Event.TheVariants.{Forward, Absent}
unfoldable use Rattle.spec_links.specs.Due.{t_sealed}
use Rattle.spec_links.specs.Ports.{may_send, outgoing_at}
unfoldable use Rattle.spec_links.specs.Ports.{goes_through, sealing_end}
use Rattle.spec_links.specs.History.{pending_packets}
use Rattle.spec_links.proofs.Senders.{AreFalse}
use Rattle.spec_links.proofs.KeyVerdicts.{establish_due_quiet, refresh_due_quiet, stop_due_quiet, interface_due_quiet}
use Rattle.spec_links.proofs.KeyVerdicts.{if_quiet, mmio_quiet}
unfoldable use Rattle.spec_links.proofs.Terms.{bytes_by}
use Rattle.ide_types.specs.declared.binding.Binding.{Binding}
use Rattle.event_verdicts.specs.declared.verdict.BlockCause.{BlockCause}
use Rattle.script_events.specs.declared.event.AccessEvent.TheVariants as ae
use Rattle.tlp_layout.specs.declared.tlp.Tlp.{Tlp}
use Rattle.tlp_layout.specs.Class.{class_of}
use Rattle.tlp_layout.specs.Tlp.{header}
use Rattle.tlp_layout.specs.Reading.{read_of}
use Rattle.tlp_layout.specs.Outgoing.{Outgoing, NoTlp, OnNone, OnStream, outgoing_of, stream_taken}
use Rattle.tlp_layout.proofs.Outgoing.{on_stream_reads}
use Rattle.ide_prefix.specs.declared.fault.PacketFault.{PacketFault}
use Rattle.ide_prefix.specs.Reading.{CutValue, PlainTlp, IdePacket, cut_of}
use Rattle.event_verdicts.specs.declared.verdict.Verdict.TheVariants as v

-- ---- what the verdicts tell

-- the event brought the packet to the port
pub record Came (plan : Plan) (h : History) (e : Event) (port : PortName) (p : Packet) : Type 0 where
  pub bytes : List ℕ
  pub arrival : arrival_of_event plan h e ≡ Some (record { port = port; bytes = bytes })
  pub cut : cut_of bytes ≡ Ok (IdePacket p)

-- the packet passed the checks before the tag, as one of this unit
pub record Passed (plan : Plan) (h : History) (port : PortName) (p : Packet) (unit : UnitName) : Type 0 where
  pub known : has_stream plan port p.prefix.stream ≡ true
  pub secure : has_failed h port p.prefix.stream ≡ false
  pub live : on_draw h port (receiving_sub_stream port p) p.prefix.k ≡ Some unit.draw
  pub alone : is_mixed plan h (receiving_sub_stream port p)
      (on_draw h port (receiving_sub_stream port p) (not p.prefix.k)) ≡ false
  pub room : is_overfull plan h (receiving_sub_stream port p) unit.draw p.prefix.m ≡ false
  pub named : unit ≡ next_unit_name h (receiving_sub_stream port p) unit.draw

pub record HeldBy (plan : Plan) (h : History) (e : Event) (port : PortName) (unit : UnitName) : Type 0 where
  pub packet : Packet
  pub came : Came plan h e port packet
  pub passed : Passed plan h port packet unit
  pub goes_on : packet.prefix.m ≡ false

abbrev pub unit_ending : Packet → UnitName → Ending
unit_ending p unit = record { packet = p; unit = unit }

pub record AcceptedBy (plan : Plan) (h : History) (e : Event) (port : PortName) (unit : UnitName)
    (effects : List Effect) : Type 0 where
  pub packet : Packet
  pub came : Came plan h e port packet
  pub before : before_tag plan h (record { port = port; bytes = came.bytes }) ≡ Ok (unit_ending packet unit)
  pub passed : Passed plan h port packet unit
  pub ends : packet.prefix.m ≡ true
  pub verified : is_verified plan h port (unit_ending packet unit) ≡ true
  pub counts : meets_counts plan h (received_in port unit) (unit_packets_ended plan h port (unit_ending packet unit))
      ≡ true
  pub effects_are : effects ≡ effects_of plan h port unit (unit_packets_ended plan h port (unit_ending packet unit))

-- what a sealed verdict tells of the port that sealed and the bytes
pub record IsSealing (plan : Plan) (h : History) (port : PortName) (bytes : List ℕ) (ds : List SealedPacket) : Type 0
  where
    pub sending : Sending
    pub tlp : Tlp
    pub reads : read_of bytes ≡ Ok tlp
    pub class : sending.class ≡ class_of (header tlp)
    pub at_port : sending.port ≡ port
    pub free : AreFalse (refusals (lanes_at plan h sending.port sending.stream) sending.class)
    pub number : ℕ
    pub next : number ≡ length (sealed_packets plan h) + 1
    pub list : ds ≡ sealed_with_syncs (lanes_at plan h sending.port sending.stream) sending number

-- ---- what a verdict tells of its event

-- the events that may seal
abbrev pub is_sealing : Event → Bool
is_sealing (Send port bytes more trusted) = true
is_sealing (Access (ae.Answer link)) = true
is_sealing (Access (ae.Respond link)) = true
is_sealing (Forward link d) = true
is_sealing _ = false

-- the verdict is that of a packet which the event brought
record Brought (plan : Plan) (h : History) (e : Event) (w : Verdict) : Type 0 where
  at : ArrivedBytes
  packet : Packet
  arrival : arrival_of_event plan h e ≡ Some at
  cut : cut_of at.bytes ≡ Ok (IdePacket packet)
  stays : goes_through plan at.port at.bytes ≡ false
  is : w ≡ ending_due plan h at.port (before_tag_of_cut plan h at.port (Ok (IdePacket packet)))

-- the stream is chosen by the TLP: a response's is that of its read
abbrev pub is_routed : Event → Bool
is_routed (Access (ae.Respond link)) = false
is_routed e = true

-- the bytes that it seals come to this TLP on this stream
abbrev pub ComesOn : Plan → History → Event → Tlp → ℕ → Type 0
ComesOn plan h e tlp stream =
    is_routed e ≡ true
    → outgoing_of (streams_of plan (sending_port plan h e).line) (sending_port plan h e).side (sent_bytes plan h e)
    ≡ OnStream tlp stream

abbrev Sent : Plan → History → Event → List SealedPacket → Type 0
Sent plan h e ds =
    (is_sealing e ≡ true)
    × ((s : IsSealing plan h (sending_port plan h e) (sent_bytes plan h e) ds) × ComesOn plan h e s.tlp
    s.sending.stream)

abbrev Tells : Plan → History → Event → Verdict → Type 0
Tells plan h e (v.Held port unit) = Brought plan h e (v.Held port unit)
Tells plan h e (v.Accepted port unit effects) = Brought plan h e (v.Accepted port unit effects)
Tells plan h e (v.Sealed ds) = Sent plan h e ds
Tells plan h e _ = Unit {0}

-- ---- sends

first_tells : (plan : Plan) (h : History) (e : Event) (xs : List (Bool × Verdict)) (last : Verdict)
    → AllByRecursion (λ (x : Bool × Verdict). Tells plan h e x.1) xs → (AreFalse xs → Tells plan h e last)
    → Tells plan h e (unwrap_or (first_that_holds xs) last)
first_tells plan h e [] last all ends = ends tt
first_tells plan h e ((true, w) ∷ xs) last all ends = all.0
first_tells plan h e ((false, w) ∷ xs) last all ends = first_tells plan h e xs last all.1 (λ free. ends (refl, free))

seal_tells : (plan : Plan) (h : History) (e : Event) → is_sealing e ≡ true → (more t : Bool) (tlp : Tlp) (stream : ℕ)
    → read_of (sent_bytes plan h e) ≡ Ok tlp → ComesOn plan h e tlp stream
    → Tells plan h e (seal_due plan h (sending_port plan h e) tlp stream more t)
seal_tells plan h e seals more t tlp stream reads comes =
    let port = sending_port plan h e in
    let s : Sending = record {
      port = port;
      stream = stream;
      class = class_of (header tlp);
      more = more;
      trusted = t;
    } in
    first_tells plan h e (refusals (lanes_at plan h port stream) s.class) _
    (tt, (tt, (tt, (tt, (tt, (tt, (tt, (tt, tt))))))))
    (λ free. (
      seals,
      (
        record {
          sending = s;
          tlp = tlp;
          reads = reads;
          class = refl;
          at_port = refl;
          free = free;
          number = _;
          next = refl;
          list = refl;
        },
        comes,
      ),
    ))

outgoing_tells : (plan : Plan) (h : History) (e : Event) → is_sealing e ≡ true → (more trusted : Bool) (o : Outgoing)
    → outgoing_of (streams_of plan (sending_port plan h e).line) (sending_port plan h e).side (sent_bytes plan h e) ≡ o
    → Tells plan h e (send_due plan h (sending_port plan h e) o more trusted)
outgoing_tells plan h e seals more trusted (NoTlp f) comes = tt
outgoing_tells plan h e seals more trusted OnNone comes = tt
outgoing_tells plan h e seals more trusted (OnStream t stream) comes =
    let port = sending_port plan h e in
    seal_tells plan h e seals more (t_sealed plan h port (header t) stream trusted) t stream
    (on_stream_reads (streams_of plan port.line) port.side (sent_bytes plan h e) t stream comes).0 (λ routed. comes)

if_tells : (plan : Plan) (h : History) (e : Event) (here : Bool) (x y : Verdict) → Tells plan h e x → Tells plan h e y
    → Tells plan h e (if here then x else y)
if_tells plan h e true x y one two = one
if_tells plan h e false x y one two = two

send_tells : (plan : Plan) (h : History) (port : PortName) (bytes : List ℕ) (more trusted here : Bool)
    → Tells plan h (Send port bytes more trusted)
    (if here then bytes_due plan h (sealing_end plan port bytes) bytes more trusted else v.Nothing)
unfolding bytes_by
send_tells plan h port bytes more trusted here =
    let e = Send port bytes more trusted in
    if_tells plan h e here _ v.Nothing
    (outgoing_tells plan h e refl more trusted (outgoing_at plan (sealing_end plan port bytes) bytes) refl) tt

-- ---- answers

read_tells : (plan : Plan) (h : History) (e : Event) (port : PortName) (answer : WaitingRead → Verdict)
    → ((r : WaitingRead) (rs : List WaitingRead) → waiting_reads plan h port ≡ r ∷ rs → Tells plan h e (answer r))
    → Tells plan h e (read_due plan h port answer)
read_tells plan h e port answer each =
    if_tells plan h e (has_link plan port.line) _ v.Nothing (by (waiting_reads plan h port) refl) tt
  where
    by : (rs : List WaitingRead) → waiting_reads plan h port ≡ rs
        → Tells plan h e (first_answered answer port.line rs)
    by [] is = tt
    by (r ∷ rs) is = each r rs is

judged_tells : (plan : Plan) (h : History) (link interface : ℕ) (bound : Binding) (o : Option BlockCause)
    → let e = Access (ae.Answer link) in
    Tells plan h e (answer_judged plan h (host_port link) (outgoing_completion plan h link)
    (judged_by interface bound o))
judged_tells plan h link interface bound (Some c) = tt
judged_tells plan h link interface bound None =
    let e = Access (ae.Answer link) in
    let out = outgoing_completion plan h link in
    let key = live_key h (host_port link) (lane_out (host_port link) bound.stream Cpl) in
    if_tells plan h e (is_before key bound.floor) _ _ tt (outgoing_tells plan h e refl false true out refl)

answer_by_tells : (plan : Plan) (h : History) (link interface draw : ℕ) (o : Option Binding)
    → let e = Access (ae.Answer link) in
    Tells plan h e (completion_verdict plan h (host_port link) interface draw o (outgoing_completion plan h link))
answer_by_tells plan h link interface draw None = tt
answer_by_tells plan h link interface draw (Some bound) = judged_tells plan h link interface bound
    (binding_cause bound (stream_taken (outgoing_completion plan h link)) draw)

answer_of_tells : (plan : Plan) (h : History) (link draw : ℕ) (o : Option Site) → let e = Access (ae.Answer link) in
    Tells plan h e (site_answer plan h (host_port link) draw o (outgoing_completion plan h link))
answer_of_tells plan h link draw None = tt
answer_of_tells plan h link draw (Some x) = answer_by_tells plan h link x.number draw (granted_to h (Some x))

answer_tells : (plan : Plan) (h : History) (link : ℕ) → Tells plan h (Access (ae.Answer link)) (answer_due plan h link)
answer_tells plan h link = read_tells plan h (Access (ae.Answer link)) (host_port link) _
    (λ r rs waits. answer_of_tells plan h link r.came.draw (site_of_requester plan link r.read.requester))

-- ---- responses

response_sent_tells : (plan : Plan) (h : History) (link : ℕ) (came : ReadArrival) (r : Result Tlp TlpFault)
    → let e = Access (ae.Respond link) in
    sending_port plan h e ≡ came.end → read_of (sent_bytes plan h e) ≡ r
    → Tells plan h e (response_sent plan h came r)
response_sent_tells plan h link came (Err f) at reads = tt
response_sent_tells plan h link came (Ok tlp) at reads =
    let e = Access (ae.Respond link) in
    subst (λ (end : PortName). Tells plan h e (seal_due plan h end tlp came.stream false came.trusted)) at
    (seal_tells plan h e refl false came.trusted tlp came.stream reads (λ routed. absurd cc))

response_judged_tells : (plan : Plan) (h : History) (link interface : ℕ) (came : ReadArrival)
    (o : Result Claim BlockCause) → let e = Access (ae.Respond link) in
    sending_port plan h e ≡ came.end
    → Tells plan h e (response_judged plan h came interface (read_of (sent_bytes plan h e)) o)
response_judged_tells plan h link interface came (Err c) at = tt
response_judged_tells plan h link interface came (Ok claim) at =
    let e = Access (ae.Respond link) in
    if_tells plan h e (is_before (live_key h came.end (lane_out came.end came.stream Cpl)) (least_draw claim came)) _
    _ tt
    (response_sent_tells plan h link came (read_of (sent_bytes plan h e)) at refl)

site_response_tells : (plan : Plan) (h : History) (link : ℕ) (r : WaitingRead) (target : ReadTarget) (o : Option Site)
    → let e = Access (ae.Respond link) in
    sending_port plan h e ≡ r.came.end → Tells plan h e (site_response plan h link r target o)
site_response_tells plan h link r target None at = tt
site_response_tells plan h link r target (Some x) at = response_judged_tells plan h link x.number r.came _ at

target_response_tells : (plan : Plan) (h : History) (link : ℕ) (r : WaitingRead) (o : Option ReadTarget)
    → let e = Access (ae.Respond link) in
    sending_port plan h e ≡ r.came.end → Tells plan h e (target_response plan h link r o)
target_response_tells plan h link r None at = tt
target_response_tells plan h link r (Some target) at =
    site_response_tells plan h link r target (site_on plan link target.interface) at

respond_tells : (plan : Plan) (h : History) (link : ℕ)
    → Tells plan h (Access (ae.Respond link)) (respond_due plan h link)
respond_tells plan h link =
    let port = device_port link in
    read_tells plan h (Access (ae.Respond link)) port _ (λ r rs waits. target_response_tells plan h link r r.target
    (ap (λ (o : Option WaitingRead). option_map_or (λ (x : WaitingRead). x.came.end) o port)
    (drop_first (reads_taken h port) (queued_reads plan h port) r rs waits)))

-- ---- what waits at switches

forward_first_tells : (plan : Plan) (h : History) (link : ℕ) (d : Direction) (xs : List HopTlp)
    → Tells plan h (Forward link d) (forward_first plan h link d xs)
forward_first_tells plan h link d [] = tt
forward_first_tells plan h link d (x ∷ xs) =
    outgoing_tells plan h (Forward link d) refl false x.t (forward_out plan h link d) refl

-- ---- arrivals

not_sealed : (plan : Plan) (h : History) (port : PortName) (p : Packet) (ds : List SealedPacket)
    → v.Sealed ds ≡ ending_due plan h port (before_tag_of_cut plan h port (Ok (IdePacket p))) → ⊥
not_sealed plan h port p ds is = grind arith

packet_tells : (plan : Plan) (h : History) (e : Event) (a : ArrivedBytes) (p : Packet)
    → arrival_of_event plan h e ≡ Some a → cut_of a.bytes ≡ Ok (IdePacket p) → goes_through plan a.port a.bytes ≡ false
    → (w : Verdict) → w ≡ ending_due plan h a.port (before_tag_of_cut plan h a.port (Ok (IdePacket p)))
    → Tells plan h e w
packet_tells plan h e a p arrival cut stays (v.Held port unit) is = record
    { at = a; packet = p; arrival = arrival; cut = cut; stays = stays; is = is }
packet_tells plan h e a p arrival cut stays (v.Accepted port unit effects) is = record
    { at = a; packet = p; arrival = arrival; cut = cut; stays = stays; is = is }
packet_tells plan h e a p arrival cut stays (v.Sealed ds) is = absurd (not_sealed plan h a.port p ds is)
packet_tells plan h e a p arrival cut stays _ is = tt

cut_tells : (plan : Plan) (h : History) (e : Event) (a : ArrivedBytes) → arrival_of_event plan h e ≡ Some a
    → goes_through plan a.port a.bytes ≡ false → (r : Result CutValue PacketFault) → cut_of a.bytes ≡ r
    → Tells plan h e (ending_due plan h a.port (before_tag_of_cut plan h a.port r))
cut_tells plan h e a arrival stays (Err f) cut = tt
cut_tells plan h e a arrival stays (Ok PlainTlp) cut = tt
cut_tells plan h e a arrival stays (Ok (IdePacket p)) cut = packet_tells plan h e a p arrival cut stays _ refl

arrival_tells : (plan : Plan) (h : History) (e : Event) (o : Option ArrivedBytes) → arrival_of_event plan h e ≡ o
    → Tells plan h e (arrival_due plan h o)
unfolding before_tag
arrival_tells plan h e None arrival = tt
arrival_tells plan h e (Some a) arrival = by (goes_through plan a.port a.bytes) refl
  where
    by : (b : Bool) → goes_through plan a.port a.bytes ≡ b → Tells plan h e (ending_due plan h a.port
        (if b then Err (through_due plan a.port) else before_tag_of_cut plan h a.port (cut_of a.bytes)))
    by true through = tt
    by false stays = cut_tells plan h e a arrival stays (cut_of a.bytes) refl

-- ---- every event

dump_quiet : (n : ℕ) (o : Option (SealedPacket × Packet)) → is_quiet (dump_due n o) ≡ true
dump_quiet n o = grind arith

quiet_tells : (plan : Plan) (h : History) (e : Event) (w : Verdict) → is_quiet w ≡ true → Tells plan h e w
quiet_tells plan h e (v.Held port unit) is = absurd cc
quiet_tells plan h e (v.Accepted port unit effects) is = absurd cc
quiet_tells plan h e (v.Sealed ds) is = absurd cc
quiet_tells plan h e _ is = tt

tells : (plan : Plan) (h : History) (e : Event) → Tells plan h e (due plan h e)
unfolding due key_due
tells plan h (Send port bytes more trusted) = send_tells plan h port bytes more trusted (may_send plan port)
tells plan h (Access (ae.Answer link)) = answer_tells plan h link
tells plan h (Access (ae.Respond link)) = respond_tells plan h link
tells plan h (Access (ae.Mmio interface bar offset len)) =
    quiet_tells plan h (Access (ae.Mmio interface bar offset len)) _ (mmio_quiet plan h interface bar offset len)
tells plan h (Dump n) = quiet_tells plan h (Dump n) _ (dump_quiet n (packet_by_number (sealed_packets plan h) n))
tells plan h (Establish line stream lose) = quiet_tells plan h (Establish line stream lose) _
    (establish_due_quiet plan h line stream lose)
tells plan h (Refresh line stream lose) = quiet_tells plan h (Refresh line stream lose) _
    (refresh_due_quiet plan h line stream lose)
tells plan h (Stop line stream lose) = quiet_tells plan h (Stop line stream lose) _
    (stop_due_quiet plan h line stream lose)
tells plan h (Reset link ends) = quiet_tells plan h (Reset link ends) _
    (if_quiet (has_link plan link) (v.Reset link) v.Nothing refl refl)
tells plan h (Status line stream) = quiet_tells plan h (Status line stream) _
    (if_quiet (is_some (stream_plan plan line stream)) _ v.Nothing refl refl)
tells plan h (Interface e) = quiet_tells plan h (Interface e) _ (interface_due_quiet plan h e)
tells plan h (Pass n) = arrival_tells plan h (Pass n) (arrival_of_event plan h (Pass n)) refl
tells plan h (Alter n at mask) = arrival_tells plan h (Alter n at mask) (arrival_of_event plan h (Alter n at mask)) refl
tells plan h (Cut n len) = arrival_tells plan h (Cut n len) (arrival_of_event plan h (Cut n len)) refl
tells plan h (Forward link d) = if_tells plan h (Forward link d) (has_hop plan link) _ v.Nothing
    (forward_first_tells plan h link d (hop_waiting plan h link d)) tt
tells plan h Absent = tt
tells plan h (Arrive port bytes) = arrival_tells plan h (Arrive port bytes)
    (arrival_of_event plan h (Arrive port bytes)) refl

-- ---- one lemma a verdict

came_to : (plan : Plan) (h : History) (e : Event) (w : Verdict) (port : PortName) (by : Brought plan h e w)
    → by.at.port ≡ port → Came plan h e port by.packet
came_to plan h e w port by same = record {
  bytes = by.at.bytes;
  arrival = by.arrival ∙ ap (λ (q : PortName). Some (record { port = q; bytes = by.at.bytes })) same;
  cut = by.cut;
}

held_is : (plan : Plan) (h : History) (q port : PortName) (p : Packet) (unit : UnitName)
    → v.Held port unit ≡ ending_due plan h q (before_tag_of_cut plan h q (Ok (IdePacket p)))
    → (q ≡ port) × Passed plan h port p unit × (p.prefix.m ≡ false)
held_is plan h q port p unit is =
    let passed : Passed plan h port p unit =
    record {
      known = grind arith;
      secure = grind arith;
      live = grind arith;
      alone = grind arith;
      room = grind arith;
      named = grind arith;
    } in
    (grind arith, passed, grind arith)

pub held_by : (plan : Plan) (h : History) (e : Event) (port : PortName) (unit : UnitName) → v.Held port unit
    ≡ due plan h e → HeldBy plan h e port unit
held_by plan h e port unit is =
    let by : Brought plan h e (v.Held port unit) = subst (Tells plan h e) (sym is) (tells plan h e) in
    let told = held_is plan h by.at.port port by.packet unit by.is in
    record {
      packet = by.packet;
      came = came_to plan h e (v.Held port unit) port by told.0;
      passed = told.1;
      goes_on = told.2;
    }

ending_is : (plan : Plan) (h : History) (port : PortName) (p : Packet) (unit : UnitName) → Passed plan h port p unit
    → p.prefix.m ≡ true → before_tag_of_cut plan h port (Ok (IdePacket p)) ≡ Ok (unit_ending p unit)
ending_is plan h port p unit passed m = grind arith

accepted_of : (plan : Plan) (h : History) (e : Event) (q port : PortName) (p : Packet) (unit : UnitName)
    (effects : List Effect)
    → (q ≡ port → (came : Came plan h e port p) × (goes_through plan port came.bytes ≡ false))
    → v.Accepted port unit effects ≡ ending_due plan h q (before_tag_of_cut plan h q (Ok (IdePacket p)))
    → AcceptedBy plan h e port unit effects
unfolding before_tag
accepted_of plan h e q port p unit effects came is =
    let there = came (grind arith) in
    let ends : p.prefix.m ≡ true = grind arith in
    let passed : Passed plan h port p unit =
    record {
      known = grind arith;
      secure = grind arith;
      live = grind arith;
      alone = grind arith;
      room = grind arith;
      named = grind arith;
    } in
    record {
      packet = p;
      came = there.0;
      before = rw there.1 (ap (before_tag_of_cut plan h port) there.0.cut ∙ ending_is plan h port p unit passed ends);
      passed = passed;
      ends = ends;
      verified = grind arith;
      counts = grind arith;
      effects_are = grind arith;
    }

pub accepted_by : (plan : Plan) (h : History) (e : Event) (port : PortName) (unit : UnitName) (effects : List Effect)
    → v.Accepted port unit effects ≡ due plan h e → AcceptedBy plan h e port unit effects
unfolding came_to
accepted_by plan h e port unit effects is =
    let by : Brought plan h e (v.Accepted port unit effects) = subst (Tells plan h e) (sym is) (tells plan h e) in
    accepted_of plan h e by.at.port port by.packet unit effects
    (λ same. (
      came_to plan h e (v.Accepted port unit effects) port by same,
      subst (λ (q : PortName). goes_through plan q by.at.bytes ≡ false) same by.stays,
    )) by.is

-- no other event seals
pub sealed_by_sealing : (plan : Plan) (h : History) (e : Event) (ds : List SealedPacket) → v.Sealed ds ≡ due plan h e
    → is_sealing e ≡ true
sealed_by_sealing plan h e ds is = (subst (Tells plan h e) (sym is) (tells plan h e)).0

pub sealing_is : (plan : Plan) (h : History) (e : Event) (ds : List SealedPacket) → v.Sealed ds ≡ due plan h e
    → IsSealing plan h (sending_port plan h e) (sent_bytes plan h e) ds
sealing_is plan h e ds is = (subst (Tells plan h e) (sym is) (tells plan h e)).1.0

-- on the stream that its TLP takes, but for a response
pub sealing_comes : (plan : Plan) (h : History) (e : Event) (ds : List SealedPacket) (is : v.Sealed ds ≡ due plan h e)
    → ComesOn plan h e (sealing_is plan h e ds is).tlp (sealing_is plan h e ds is).sending.stream
unfolding sealing_is
sealing_comes plan h e ds is = (subst (Tells plan h e) (sym is) (tells plan h e)).1.1

-- ---- what follows

pub packet_that_came : (plan : Plan) (h : History) (e : Event) (port : PortName) (p : Packet) → Came plan h e port p
    → arrived_packet plan h e ≡ p
packet_that_came plan h e port p came = ap arrival_packet came.arrival ∙ ap cut_packet came.cut

pub received_there : (plan : Plan) (h : History) (port : PortName) (p : Packet) (unit : UnitName)
    → Passed plan h port p unit → received_in port unit ≡ receiving_sub_stream port p
received_there plan h port p unit passed = ap (received_in port) passed.named

pub numbered : (plan : Plan) (h : History) (port : PortName) (p : Packet) (unit : UnitName) → Passed plan h port p unit
    → unit.unit ≡ units_got h (received_in port unit) unit.draw + 1
numbered plan h port p unit passed = ap (λ (u : UnitName). u.unit) passed.named
    ∙ ap (λ (s : SubStream). units_got h s unit.draw + 1) (sym (received_there plan h port p unit passed))

-- the unit that an accepted verdict ends
pub unit_that_ends : (plan : Plan) (h : History) (e : Event) (port : PortName) (unit : UnitName) (p : Packet)
    → Came plan h e port p → Passed plan h port p unit → unit_ended plan h e port unit
    ≡ unit_packets_ended plan h port (unit_ending p unit)
unit_that_ends plan h e port unit p came passed =
    ap (λ (n : ℕ). packets_in_hold plan h (received_in port unit) unit.draw n ++ arrived_packet plan h e ∷ [])
    (numbered plan h port p unit passed)
    ∙ ap (λ (q : Packet). pending_packets plan h (received_in port unit) unit.draw ++ q ∷ [])
    (packet_that_came plan h e port p came)
