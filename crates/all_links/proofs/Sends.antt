-- Sends at an end of a line, as the machine has them.
use Rattle.std.specs.Prelude.{not, IsOk, Result, Ok, Err}
use Rattle.std.specs.Option.{option_and_then, option_map}
use Rattle.all_links.proofs.Terms.{◌≡◌, ℕ, ◌+◌, Bool, true, false, List, [], ◌++◌, length, refl, ap, sym, ◌∙◌, subst}
use Rattle.all_links.proofs.Terms.{arith, Option, Some, None, IsSome, slice_get, map, sum_by, if◌then◌else◌, is_some}
use Rattle.all_links.proofs.Terms.{PortName, Plan, Verdict, MeasuredPacket, LinkPacket, Stepped, kept_packet, step_of}
use Rattle.all_links.proofs.Terms.{Sent, PortEnd, SendStep, sent_verdict, lengths_sent, StepEndsBy, StreamState}
use Rattle.all_links.proofs.Terms.{LinkEnds, Links, SendsAtEnd, state_of, IsBounded, AreLinks, links_state}
use Rattle.all_links.proofs.Terms.{EndsIfAnswered, EndsSending, Send, EndsView, port_on, trusting_on, with_port_on}
use Rattle.all_links.proofs.Terms.{beside_in, BesidePorts, LinkState, has_port, stepped_bytes, KeeperView, History}
use Rattle.all_links.proofs.Terms.{PortsStandFor}
use Rattle.line_arrivals.specs.{cut_packets, end_sent_verdict, line_place, has_stream_at, PortStep, SealsAtEnd}
use Rattle.line_arrivals.specs.{SendsByPlace, step_by_place, step_on_stream}
use Rattle.std.proofs.lemmas.Bool.{and_parts}
use Rattle.tlp_layout.specs.Outgoing.{outgoing_of}
use Rattle.tlp_layout.specs.Reading.{read_of}
use Rattle.tlp_layout.specs.Class.{class_of}
use Rattle.tlp_layout.specs.Tlp.{header}
use Rattle.tlp_layout.specs.declared.tlp.Tlp.{Tlp}
use Rattle.tlp_layout.specs.declared.fault.TlpFault.{TlpFault}
use Rattle.machine_ports.specs.Machine.{stepped_on_stream, stepped_tlp}
unfoldable use Rattle.machine_ports.specs.Machine.{find}
use Rattle.machine_ports.specs.Replies.{ReadCompletion}
use Rattle.sub_stream.specs.Calls.{stream_status}
use Rattle.ide_port.specs.{Found, UnitsGrow, found_stream, port_stream_status}
use Rattle.ide_port.specs.Sends.{IsSendStep}
use Rattle.spec_links.specs.Ports.{at_switch, may_send, port_of, sealing_end}
use Rattle.event_verdicts.specs.declared.verdict.Verdict.TheVariants as v
use Rattle.ide_port.specs.declared.answer.Sent.TheVariants.{Sealed}
use Rattle.all_links.specs.Links.{Ends, EndsOrStays, EndsSealing, EndsSendingOrStays}
use Rattle.ide_types.specs.declared.memory.OutOfMemory.{OutOfMemory}
use Rattle.all_links.specs.BesideAfter.{BesideStays}
use Rattle.ide_port.proofs.Units.{sent-units}
use Rattle.trusted_memory.specs.{TrustedMemory}
use Rattle.line_arrivals.proofs.{sealing_there, at_port, cut_joined, lengths_join, sealed_on, send_keeps}
use Rattle.line_arrivals.proofs.{sends_as, sent_at_port, state_after_send as sent_at}
use Rattle.line_arrivals.proofs.{port_is, wired, Grows, Keeps, bounded_then, end_grows, end_kept, none_found}
use Rattle.line_arrivals.proofs.{end_found, on_id, seal_is_send, seals_as}
use Rattle.line_arrivals.proofs.Follows.{interfaces_put, put_seen}
use Rattle.line_arrivals.proofs.Landing.{ends_there}

-- ---- a send at an end that exists, whose packets were cut from what it sealed

some_end : (o : Option PortEnd) → is_some o ≡ true → (e : PortEnd) × (o ≡ Some e)
some_end (Some e) is = (e, refl)
some_end None is = absurd cc

-- at an end that takes this step
abbrev pub SendsBy : EndsView → PortName → PortStep → Sent → EndsView → List ℕ → Type 0
SendsBy old end step answer new sealed = SendsByPlace old end.side (line_place end.line) step answer new sealed

pub record IsPut (old new : EndsView) (end : PortName) (step : PortStep) (answer : Sent) (sealed : List ℕ) : Type 0
  where
    pub port : PortEnd
    pub at : port_on old end ≡ Some port
    pub put : (n : ℕ) → (new ≡ with_port_on old end (step port n).port)
        × IsSendStep port.name n answer (step port n).port sealed (step port n)

pub is_put : (old new : EndsView) (end : PortName) (step : PortStep) (answer : Sent) (sealed : List ℕ)
    → IsSome (port_on old end) → SendsBy old end step answer new sealed → IsPut old new end step answer sealed
is_put old new end step answer sealed here sends =
    let found = some_end (port_on old end) here in
    let e : PortEnd = found.0 in
    let a = sends e found.1 in
    record {
      port = e;
      at = found.1;
      put = λ n. (
        a.new_is ∙ ap (λ (p : PortEnd). with_port_on old end p) (a.sent n).port,
        subst (λ (p : PortEnd). IsSendStep e.name n answer p sealed (step e n)) (a.sent n).port (a.sent n),
      );
    }

-- what a step makes of the end
pub record IsMild (step : PortStep) : Type 0 where
  pub units : (e : PortEnd) (n : ℕ) → UnitsGrow 1 e (step e n).port
  pub keeps : (e : PortEnd) (n : ℕ) → Keeps e (step e n).port

-- the machine makes that of all ends
abbrev pub MakesAs : (BesidePorts → Type 0) → (BesidePorts → LinkState → Stepped) → Plan → Links → PortName → PortStep
    → Type 0
MakesAs IsSo by plan old end step = (b : BesidePorts) → IsSo b → (h : History) → AreLinks plan old.ends old.keeper.keys
    → PortsStandFor plan (links_state plan old) h → (e : PortEnd) → port_on old.ends end ≡ Some e
    → by (beside_in old b) (links_state plan old)
    ≡ sent_at plan old.ends old.keeper.keys old.packets.packets end (step e (length old.packets.packets + 1))

pub seals_by : (IsSo : BesidePorts → Type 0) (by : BesidePorts → LinkState → Stepped) (plan : Plan) (old new : Links)
    (end : PortName) (port_step : PortStep) (answer : Sent) (sealed : List ℕ) (verdict : Verdict) → IsMild port_step
    → MakesAs IsSo by plan old end port_step → IsBounded old.ends old.packets.packets old.steps
    → IsSome (port_on old.ends end) → SendsBy old.ends end port_step answer new.ends sealed
    → verdict ≡ end_sent_verdict end (port_of plan end) (length old.packets.packets + 1) answer
    → new.keeper.keys ≡ old.keeper.keys → new.steps ≡ old.steps + 1
    → new.packets.packets ≡ old.packets.packets ++ cut_packets end (lengths_sent answer) sealed
    → new.trusted ≡ old.trusted → StepEndsBy IsSo by plan verdict old new
seals_by IsSo by plan old new end port_step answer sealed verdict mild made bounded here sends says keeper steps kept
    memory =
    let put = is_put old.ends new.ends end port_step answer sealed here sends in
    let e : PortEnd = put.port in
    let n : ℕ = length old.packets.packets + 1 in
    let step : SendStep = port_step e n in
    let now : EndsView = with_port_on old.ends end step.port in
    let stepped = put.put n in
    let ends_is : new.ends ≡ now = stepped.0 in
    let sent_is : IsSendStep e.name n answer step.port sealed step = stepped.1 in
    let all : List LinkPacket = old.packets.packets ++ map (kept_packet end) step.packets in
    let packets_is : new.packets.packets ≡ all =
    kept ∙ (λ i. old.packets.packets ++ cut_packets end (sent_is.lengths i) (sent_is.bytes i))
    ∙ ap (λ (ps : List LinkPacket). old.packets.packets ++ ps) (cut_joined end step.packets) in
    let grows : Grows 1 old.ends now = end_grows old.ends end e step.port put.at (mild.units e n) in
    let after : IsBounded now all (old.steps + 1) =
    bounded_then 1 old.ends now old.packets.packets all old.steps (omega arith) bounded grows
    (sealed_on (λ (x : PortName). IsSome (port_on old.ends x)) end old.packets.packets step.packets here
    bounded.sealed_here) in
    record {
      counted = steps;
      many = ap (λ (w : EndsView). length w.links) ends_is ∙ grows.many;
      regions = ap (λ (t : TrustedMemory). t.contents.regions) memory;
      bounded = subst (λ (w : EndsView). IsBounded w new.packets.packets new.steps) (sym ends_is)
          (subst (λ (ps : List LinkPacket). IsBounded now ps new.steps) (sym packets_is)
          (subst (λ (m : ℕ). IsBounded now all m) (sym steps) after));
      ends = λ said so h links stands.
          let at_end = port_is plan old.ends old.keeper.keys links end e put.at in
          let as_machine = made said so h links stands e put.at in
          record {
            verdict_is = says ∙ sent_at_port end (port_of plan end) n answer
                ∙ ap (λ (p : PortName). at_port (port_of plan end) (sent_verdict p n answer)) (sym at_end.name)
                ∙ ap (λ (w : Verdict). at_port (port_of plan end) w) sent_is.answered
                ∙ ap (λ (x : Stepped). x.0) (sym as_machine);
            state_is = (λ i. state_of plan (ends_is i) (keeper i) (packets_is i))
                ∙ ap (λ (x : Stepped). x.1) (sym as_machine);
            links = subst (λ (w : EndsView). AreLinks plan w new.keeper.keys) (sym ends_is)
                (subst (λ (k : KeeperView). AreLinks plan now k) (sym keeper)
                (end_kept plan old.ends old.keeper.keys links end e step.port put.at (mild.keeps e n)));
          };
    }

pub sent_keeps : (old new : Links) (end : PortName) (step : PortStep) (answer : Sent) (sealed : List ℕ)
    → IsSome (port_on old.ends end) → SendsBy old.ends end step answer new.ends sealed
    → new.keeper ≡ old.keeper → new.trusted ≡ old.trusted → BesideStays old new
sent_keeps old new end step answer sealed here sends keeper memory =
    let put = is_put old.ends new.ends end step answer sealed here sends in
    let stepped = put.put 0 in
    record {
      keeper = ap (λ k. k.interfaces) keeper;
      peer_draws = ap (λ k. k.peer_draws) keeper;
      devices = λ i l l' is at.
          put_seen (λ (x : LinkEnds). x.device.interfaces) old.ends end.side (line_place end.line) _ i l l'
          (λ j place x. interfaces_put end.side _ x) is
          (ap (λ (w : EndsView). slice_get w.links i) (sym stepped.0) ∙ at);
      contents = ap (λ (t : TrustedMemory). t.contents) memory;
    }

-- ---- by association

abbrev pub by_line : EndsView → PortName → List ℕ → Bool → Bool → PortStep
by_line v end bytes more trusted = step_by_place v end.side (line_place end.line) bytes more trusted

line_mild : (v : EndsView) (end : PortName) (bytes : List ℕ) (more trusted : Bool)
    → IsMild (by_line v end bytes more trusted)
line_mild v end bytes more trusted = record {
  units = λ e n. sent-units e (outgoing_of e.plans e.name.side bytes) more (trusting_on v end trusted) n;
  keeps = λ e n. send_keeps e (outgoing_of e.plans e.name.side bytes) more (trusting_on v end trusted) n;
}

pub seals : (plan : Plan) (old new : Links) (end : PortName) (bytes : List ℕ) (more trusted : Bool) (answer : Sent)
    (sealed : List ℕ) (verdict : Verdict) → IsBounded old.ends old.packets.packets old.steps
    → IsSome (port_on old.ends end) → SendsAtEnd old.ends end bytes more trusted answer new.ends sealed
    → verdict ≡ end_sent_verdict end (port_of plan end) (length old.packets.packets + 1) answer
    → new.keeper.keys ≡ old.keeper.keys → new.steps ≡ old.steps + 1
    → new.packets.packets ≡ old.packets.packets ++ cut_packets end (lengths_sent answer) sealed
    → new.trusted ≡ old.trusted → EndsSending plan verdict old new end bytes more trusted
seals plan old new end bytes more trusted answer sealed verdict bounded here sends says keeper steps kept memory =
    seals_by _ _ plan old new end (by_line old.ends end bytes more trusted) answer sealed verdict
    (line_mild old.ends end bytes more trusted)
    (λ b has h links stands e at.
    sends_as plan old.ends old.keeper.keys old.packets.packets (wired plan old.ends old.keeper.keys links) end e at
    (port_is plan old.ends old.keeper.keys links end e at) (beside_in old b) h bytes more trusted stands)
    bounded here sends says keeper steps kept memory

-- ---- a completion

stream_mild : (bytes : List ℕ) (stream : ℕ) (trusted : Bool) → IsMild (step_on_stream bytes stream trusted)
stream_mild bytes stream trusted = record {
  units = λ e n. subst (λ (t : SendStep). UnitsGrow 1 e t.port)
      (sym (seal_is_send e (read_of bytes) stream trusted n))
      (sent-units e (on_id (read_of bytes) stream) false (λ head id. trusted) n);
  keeps = λ e n. subst (λ (t : SendStep). Keeps e t.port) (sym (seal_is_send e (read_of bytes) stream trusted n))
      (send_keeps e (on_id (read_of bytes) stream) false (λ head id. trusted) n);
}

found_there : (o : Option Found) → is_some (option_map (λ (f : Found). stream_status f.state) o) ≡ true
    → (f : Found) × (o ≡ Some f)
found_there (Some f) is = (f, refl)
found_there None is = absurd cc

none_there : (o : Option Found) → is_some (option_map (λ (f : Found). stream_status f.state) o) ≡ false
    → option_map (λ (f : Found). f.state) o ≡ None
none_there (Some f) is = absurd cc
none_there None is = refl

stream_at : (v : EndsView) (end : PortName) (stream : ℕ) (e : PortEnd) (b : Bool) → port_on v end ≡ Some e
    → has_stream_at v end stream ≡ b
    → is_some (option_map (λ (f : Found). stream_status f.state) (found_stream e.plans e.states stream)) ≡ b
stream_at v end stream e b at has =
    ap (λ (o : Option PortEnd). is_some (option_and_then (λ (x : PortEnd). port_stream_status x stream) o)) (sym at)
    ∙ has

pub end_has : (v : EndsView) (end : PortName) (stream : ℕ) → has_stream_at v end stream ≡ true → IsSome (port_on v end)
end_has v end stream has = by (port_on v end) refl
  where
    by : (o : Option PortEnd) → port_on v end ≡ o → IsSome o
    by (Some e) is = refl
    by None is =
        let no : false ≡ true =
        ap (λ (o : Option PortEnd). is_some (option_and_then (λ (x : PortEnd). port_stream_status x stream) o)) (sym is)
        ∙ has in
        absurd cc

pub completes : (plan : Plan) (old new : Links) (c : ReadCompletion) (answer : Sent) (sealed : List ℕ)
    (verdict : Verdict) → IsBounded old.ends old.packets.packets old.steps
    → has_stream_at old.ends c.end c.stream ≡ true
    → SealsAtEnd old.ends c.end c.bytes c.stream c.trusted answer new.ends sealed
    → verdict ≡ end_sent_verdict c.end (port_of plan c.end) (length old.packets.packets + 1) answer
    → new.keeper.keys ≡ old.keeper.keys → new.steps ≡ old.steps + 1
    → new.packets.packets ≡ old.packets.packets ++ cut_packets c.end (lengths_sent answer) sealed
    → new.trusted ≡ old.trusted → EndsSealing plan verdict old new c
completes plan old new c answer sealed verdict bounded has sends says keeper steps kept memory =
    seals_by _ _ plan old new c.end (step_on_stream c.bytes c.stream c.trusted) answer sealed verdict
    (stream_mild c.bytes c.stream c.trusted)
    (λ b so h links stands e at.
    let f = found_there (found_stream e.plans e.states c.stream) (stream_at old.ends c.end c.stream e true at has) in
    seals_as plan old.ends old.keeper.keys old.packets.packets (wired plan old.ends old.keeper.keys links) c.end e at
    (port_is plan old.ends old.keeper.keys links c.end e at) c.stream c.floor c.trusted c.bytes (read_of c.bytes) f.0
    f.1)
    bounded (end_has old.ends c.end c.stream has) sends says keeper steps kept memory

-- on a stream that the end has not
pub none_completed : (plan : Plan) (old : Links) (c : ReadCompletion) → IsOk (read_of c.bytes)
    → has_stream_at old.ends c.end c.stream ≡ false → AreLinks plan old.ends old.keeper.keys
    → stepped_tlp plan (links_state plan old) c (read_of c.bytes) ≡ (v.Nothing, links_state plan old)
none_completed plan old c ok none links = by (read_of c.bytes) ok
  where
    stream_none : find plan (links_state plan old) c.end c.stream ≡ None
    stream_none = at_end (port_on old.ends c.end) refl
      where
        at_end : (o : Option PortEnd) → port_on old.ends c.end ≡ o
            → find plan (links_state plan old) c.end c.stream ≡ None
        at_end None at = none_found plan old.ends old.keeper.keys old.packets.packets c.end c.stream links at
        at_end (Some e) at =
            end_found plan old.ends old.keeper.keys old.packets.packets c.end e c.stream links at
            ∙ none_there (found_stream e.plans e.states c.stream)
            (stream_at old.ends c.end c.stream e false at none)

    by : (r : Result Tlp TlpFault) → IsOk r
        → stepped_tlp plan (links_state plan old) c r ≡ (v.Nothing, links_state plan old)
    by (Ok t) ok = ap (λ (o : Option StreamState). stepped_on_stream plan (links_state plan old)
        (record { port = c.end; stream = c.stream; class = class_of (header t); more = false; trusted = c.trusted }) t o)
        stream_none
    by (Err f) ok = absurd cc

-- ---- the answer

pub not_sealed : (answer : Sent) → ((ps : List MeasuredPacket) → answer ≡ Sealed ps → ⊥) → lengths_sent answer ≡ []
not_sealed answer none = grind (arith, none)

-- the lengths of the packets add up to that of what was sealed
pub sealed_length : (old new : EndsView) (end : PortName) (step : PortStep) (answer : Sent) (sealed : List ℕ)
    (ps : List MeasuredPacket) → IsSome (port_on old end) → SendsBy old end step answer new sealed
    → map (λ (p : MeasuredPacket). p.length) ps ≡ lengths_sent answer
    → sum_by (λ (p : MeasuredPacket). p.length) ps ≡ length sealed
sealed_length old new end step answer sealed ps here sends said =
    let put = is_put old new end step answer sealed here sends in
    let stepped = put.put 0 in
    lengths_join ps (step put.port 0).packets (said ∙ stepped.1.lengths)
    ∙ ap (λ (bs : List ℕ). length bs) (sym stepped.1.bytes)

-- ---- a send at a port

pub nothing_sent : (plan : Plan) (b : BesidePorts) (st : LinkState) (port : PortName) (bytes : List ℕ)
    (more trusted : Bool)
    → may_send plan port ≡ false → step_of plan b st (Send port bytes more trusted) ≡ (v.Nothing, st)
unfolding step_of
nothing_sent plan b st port bytes more trusted is =
    ap (λ (t : Bool). if t then stepped_bytes plan b st (sealing_end plan port bytes) bytes more trusted
    else (v.Nothing, st)) is

bytes_sent : (plan : Plan) (b : BesidePorts) (st : LinkState) (port : PortName) (bytes : List ℕ) (more trusted : Bool)
    → may_send plan port ≡ true → step_of plan b st (Send port bytes more trusted)
    ≡ stepped_bytes plan b st (sealing_end plan port bytes) bytes more trusted
unfolding step_of
bytes_sent plan b st port bytes more trusted is =
    ap (λ (t : Bool). if t then stepped_bytes plan b st (sealing_end plan port bytes) bytes more trusted
    else (v.Nothing, st)) is

-- at the end of the line that association gives
pub sends_there : (plan : Plan) (verdict : Verdict) (old new : Links) (port : PortName) (bytes : List ℕ)
    (more trusted : Bool) → may_send plan port ≡ true → EndsSending plan verdict old new (sealing_end plan port bytes)
    bytes more trusted → EndsIfAnswered plan verdict old new (Send port bytes more trusted)
sends_there plan verdict old new port bytes more trusted may x = record {
  counted = x.counted;
  bounded = x.bounded;
  many = x.many;
  regions = x.regions;
  ends = λ b by h links stands.
      subst (λ (s : Stepped). Ends plan new verdict s)
      (sym (bytes_sent plan (beside_in old b) (links_state plan old) port bytes more trusted may))
      (x.ends b
      (sealing_there plan links.fits port bytes
      (and_parts (has_port plan port) (not (at_switch plan port)) may).0) h links stands);
}

-- at an end that is not kept nothing of the topology is sent
pub nowhere_sent : {s : Stepped} (plan : Plan) (old : Links) (end : PortName) → false ≡ is_some (port_on old.ends end)
    → AreLinks plan old.ends old.keeper.keys → has_port plan end ≡ true → s ≡ (v.Nothing, links_state plan old)
nowhere_sent plan old end none links has =
    absurd (never (is_some (port_on old.ends end)) none
    (ends_there plan old.ends old.keeper.keys links end has))
  where
    never : (b : Bool) → false ≡ b → b ≡ true → ⊥
    never true is some = absurd cc
    never false is some = absurd cc

pub sends_or : (plan : Plan) (result : Result Verdict OutOfMemory) (old new : Links) (port : PortName) (bytes : List ℕ)
    (more trusted : Bool) → may_send plan port ≡ true → EndsSendingOrStays plan result old new
    (sealing_end plan port bytes)
    bytes more trusted → EndsOrStays plan result old new (Send port bytes more trusted)
sends_or plan (Ok verdict) old new port bytes more trusted may x =
    sends_there plan verdict old new port bytes more trusted may x
sends_or plan (Err e) old new port bytes more trusted may stays = stays
