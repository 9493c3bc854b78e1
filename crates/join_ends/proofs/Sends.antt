-- Sends at an end, as the machine has them. It goes by what the bytes come to: a fault, a TLP that takes no stream, one
-- that is refused on its stream, and one that is sealed; aggregation, limit and closing are the port's as the plan's,
-- and a chosen stream is at the port since the links stand for a history. The packets that are kept are cut from the
-- port's joined bytes by their lengths, which by induction undoes the joining.
use Rattle.all_ends.proofs.Terms.{◌≡◌, ℕ, suc, zero, ◌+◌, Bool, true, List, [], ◌∷◌, ◌++◌, length, refl, ap, sym, ◌∙◌}
use Rattle.all_ends.proofs.Terms.{subst, arith, length-append, Option, Some, None, option_map, slice_get, map, sum_by}
use Rattle.all_ends.proofs.Terms.{if◌then◌else◌, none-some, same_Some, append-nil, take-append_seam, drop-append_seam}
use Rattle.all_ends.proofs.Terms.{sum_by-cons, PortName, Plan, Packet, packet_bytes, Verdict, MeasuredPacket}
use Rattle.all_ends.proofs.Terms.{StreamState, TxSub, Three, lanes_of, sealed_all, aggregation_of, is_closed}
use Rattle.all_ends.proofs.Terms.{has_stream, History, LinkPacket, LinkState, with_stream_state, Stepped, kept_packet}
use Rattle.all_ends.proofs.Terms.{stepped_answer, find, streams_of, PortsStandFor, stream_state_due, new_sending}
use Rattle.all_ends.proofs.Terms.{packet_lengths, joined_packets, PortEnd, Found, found_stream, changed_states}
use Rattle.all_ends.proofs.Terms.{SendStep, KeeperView, EndsView, IsPort, state_of, found_id, changed_same, port_on}
use Rattle.all_ends.proofs.Terms.{with_port_on, BesidePorts}
use Rattle.std.specs.Prelude.{false, Result, Ok, Err}
use Rattle.tlp_layout.specs.declared.fault.TlpFault.{TlpFault}
use Rattle.tlp_layout.specs.declared.tlp.Tlp.{Tlp}
use Rattle.tlp_layout.specs.Class.{class_of}
use Rattle.tlp_layout.specs.Faults.{place_in}
use Rattle.tlp_layout.specs.Head.{head_bytes}
use Rattle.tlp_layout.specs.Tlp.{header, body}
use Rattle.ide_prefix.specs.FaultWords.{tlp_word}
use Rattle.tlp_layout.specs.Outgoing.{Outgoing, NoTlp, OnNone, OnStream, outgoing_of}
use Rattle.event_verdicts.specs.declared.verdict.Verdict.TheVariants as v
use Rattle.event_verdicts.specs.declared.verdict.SealedPacket.{SealedPacket as Described}
use Rattle.spec_stream.specs.Sending.{Sending, Lanes, refusals, first_that_holds, sealed_with_syncs}
use Rattle.spec_links.proofs.Choices.{stream_known}
use Rattle.machine_ports.specs.Machine.{stepped_on_stream, stepped_send, stepped_tlp}
use Rattle.ide_port.specs.StreamSends.{ok_unless_verdict, unless_verdict}
use Rattle.ide_port.specs.Sends.{unsealed_step, as_verdict, seal_step, stream_step, send_step}
use Rattle.ide_port.specs.{Trusting, sent_verdict}
use Rattle.all_ends.proofs.Finds.{IsWired, find_at, put_at, state_kept, aggregation_at, closed_at}
use Rattle.all_ends.proofs.Kept.{Keeps}
use Rattle.ide_port.specs.declared.answer.Sent.{Sent}
use Rattle.all_ends.specs.{end_sent_verdict, cut_packets}
unfoldable use Rattle.spec_links.specs.Ports.{port_of}
use Rattle.ide_types.specs.declared.sub.SubKind.{SubKind}

-- ---- packets, cut from their bytes

pub cut_joined : (port : PortName) (ps : List Packet) → cut_packets port (packet_lengths ps) (joined_packets ps)
    ≡ map (kept_packet port) ps
cut_joined port [] = refl
cut_joined port (p ∷ ps) =
    (λ i. record { port = port; bytes = take-append_seam (packet_bytes p) (joined_packets ps) i }
    ∷ (ap (λ (bs : List ℕ). cut_packets port (packet_lengths ps) bs)
    (drop-append_seam (packet_bytes p) (joined_packets ps)) ∙ cut_joined port ps) i)

pub lengths_join : (ps : List MeasuredPacket) (qs : List Packet) → map (λ (p : MeasuredPacket). p.length) ps
    ≡ packet_lengths qs → sum_by (λ (p : MeasuredPacket). p.length) ps ≡ length (joined_packets qs)
lengths_join [] [] is = refl
lengths_join [] (q ∷ qs) is = absurd cc
lengths_join (p ∷ ps) [] is = absurd cc
lengths_join (p ∷ ps) (q ∷ qs) is =
    let first : p.length ≡ length (packet_bytes q) = cc in
    let rest : sum_by (λ (p : MeasuredPacket). p.length) ps ≡ length (joined_packets qs) = lengths_join ps qs cc in
    omega (
      arith,
      sum_by-cons (λ (p : MeasuredPacket). p.length) p ps,
      length-append (packet_bytes q) (joined_packets qs),
    )

-- ---- one step

-- on a stream of an ID it is a send that takes it
abbrev pub on_id : Result Tlp TlpFault → ℕ → Outgoing
on_id (Err fault) id = NoTlp fault
on_id (Ok t) id = OnStream t id

pub seal_is_send : (e : PortEnd) (r : Result Tlp TlpFault) (id : ℕ) (trusted : Bool) (n : ℕ)
    → seal_step e r id trusted n ≡ send_step e (on_id r id) false (λ head stream. trusted) n
seal_is_send e (Err fault) id trusted n = refl
seal_is_send e (Ok t) id trusted n = refl

pub send_keeps : (e : PortEnd) (o : Outgoing) (more : Bool) (sets : Trusting) (n : ℕ)
    → Keeps e (send_step e o more sets n).port
send_keeps e o more sets n = grind arith

-- a verdict that names the port of an end where it names no stream
abbrev pub at_port : PortName → Verdict → Verdict
at_port port (v.Malformed end fault place) = v.Malformed port fault place
at_port port (v.Plain end) = v.Plain port
at_port port verdict = verdict

pub sent_at_port : (end port : PortName) (number : ℕ) (answer : Sent)
    → end_sent_verdict end port number answer ≡ at_port port (sent_verdict end number answer)
sent_at_port end port number answer = grind arith

-- what a step of the port at an end makes of all ends
abbrev pub state_after_send : Plan → EndsView → KeeperView → List LinkPacket → PortName → SendStep → Stepped
state_after_send plan ends k packets end t = (
  at_port (port_of plan end) t.verdict,
  state_of plan (with_port_on ends end t.port) k (packets ++ map (kept_packet end) t.packets),
)

-- a TLP on a stream, which is refused with this verdict, if there is one
abbrev on_stream : PortEnd → Tlp → Found → Sending → ℕ → Option Verdict → SendStep
on_stream e t f s n r =
    let ds = sealed_with_syncs (lanes_of f.plan.aggregation e.limit f.state) s n in
    let sealed = sealed_all f.plan.closed (head_bytes (header t)) (body t) ds f.state.tx in
    record {
      verdict = as_verdict (ok_unless_verdict r ds);
      packets = unless_verdict r [] sealed.0;
      port =
          record e {
            states = changed_states e.plans e.states f.plan.id
                (unless_verdict r f.state (record f.state { tx = sealed.1 }));
          };
    }

abbrev send_of : PortName → ℕ → Tlp → Bool → Bool → Sending
send_of port id t more trusted = record
    { port = port; stream = id; class = class_of (header t); more = more; trusted = trusted }

refused_as : (lanes : Lanes) (class : SubKind) (w : Verdict) (port : PortName)
    → first_that_holds (refusals lanes class) ≡ Some w → w ≡ at_port port w
refused_as lanes class w port is = grind arith

module _ (plan : Plan) (ends : EndsView) (k : KeeperView) (packets : List LinkPacket) (wired_is : IsWired ends)
    (end : PortName) (e : PortEnd) (is : port_on ends end ≡ Some e) (at_end : IsPort plan end e) where
  abbrev st : LinkState
  st = state_of plan ends k packets

  state_same : (e' : PortEnd) → e'.states ≡ e.states → st ≡ state_of plan (with_port_on ends end e') k (packets ++ [])
  state_same e' same = state_kept plan ends k packets wired_is end e is e' same
      ∙ ap (λ (ps : List LinkPacket). state_of plan (with_port_on ends end e') k ps) (sym (append-nil packets))

  answered_as : (t : Tlp) (more trusted : Bool) (id : ℕ) (f : Found) (r : Option Verdict)
      → found_stream e.plans e.states id ≡ Some f
      → let s = send_of end id t more trusted in let n = length packets + 1 in
      let lanes = lanes_of f.plan.aggregation e.limit f.state in
      first_that_holds (refusals lanes s.class) ≡ r
      → stepped_answer plan st s t f.state r (sealed_with_syncs lanes s n)
      ≡ state_after_send plan ends k packets end (on_stream e t f s n r)
  answered_as t more trusted id f (Some w) at refuses =
      let s : Sending = send_of end id t more trusted in
      let name : f.plan.id ≡ id = found_id e.plans e.states id f at in
      let same = refused_as (lanes_of f.plan.aggregation e.limit f.state) s.class w (port_of plan end) refuses in
      (λ i. (same i, st))
      ∙ ap (λ (new : LinkState). (at_port (port_of plan end) w, new))
      (state_same _ (ap (λ (j : ℕ). changed_states e.plans e.states j f.state) name
      ∙ changed_same e.plans e.states id f at))
  answered_as t more trusted id f None at refuses =
      let s : Sending = send_of end id t more trusted in
      let name : f.plan.id ≡ id = found_id e.plans e.states id f at in
      let ds : List Described = sealed_with_syncs (lanes_of f.plan.aggregation e.limit f.state) s (length packets + 1)
      in
      let sealed : List Packet × Three TxSub = sealed_all f.plan.closed (head_bytes (header t)) (body t) ds f.state.tx
      in
      let closed : is_closed plan end.line id ≡ f.plan.closed = closed_at plan end e id f at_end at in
      (λ i.
      let out : List Packet × Three TxSub = sealed_all (closed i) (head_bytes (header t)) (body t) ds f.state.tx in
      let new : LinkState = with_stream_state plan st end id (record f.state { tx = out.1 }) in
      (v.Sealed ds, record new { packets = packets ++ map (kept_packet end) out.0 }))
      ∙ ap (λ (new : LinkState). (v.Sealed ds, record new { packets = packets ++ map (kept_packet end) sealed.0 }))
      (put_at plan ends k packets wired_is end e is id (record f.state { tx = sealed.1 }) _ at_end
      (ap (λ (j : ℕ). changed_states e.plans e.states j (record f.state { tx = sealed.1 })) name))

  -- on a stream that it has
  found_as : (t : Tlp) (more trusted : Bool) (id : ℕ) (f : Found) → found_stream e.plans e.states id ≡ Some f
      → stepped_on_stream plan st (send_of end id t more trusted) t (Some f.state)
      ≡ state_after_send plan ends k packets end (stream_step e t more trusted (length packets + 1) (Some f))
  found_as t more trusted id f at =
      let s : Sending = send_of end id t more trusted in
      let aggregation : aggregation_of plan end.line id ≡ f.plan.aggregation = aggregation_at plan end e id f at_end at
      in
      let lanes : lanes_of (aggregation_of plan end.line id) plan.units_per_key f.state
      ≡ lanes_of f.plan.aggregation e.limit f.state = (λ i. lanes_of (aggregation i) (sym at_end.limit i) f.state) in
      let refusal = λ (y : Sending). first_that_holds
      (refusals (lanes_of f.plan.aggregation e.limit f.state) y.class) in
      let name : f.plan.id ≡ id = found_id e.plans e.states id f at in
      let same : s ≡ new_sending e.name f.plan.id (class_of (header t)) more trusted =
      (λ i. send_of (sym at_end.name i) (sym name i) t more trusted) in
      ap (λ (ls : Lanes). stepped_answer plan st s t f.state (first_that_holds (refusals ls s.class))
      (sealed_with_syncs ls s (length packets + 1))) lanes
      ∙ (answered_as t more trusted id f (refusal s) at refl
      ∙ ap (λ (y : Sending). state_after_send plan ends k packets end
      (on_stream e t f y (length packets + 1) (refusal y)))
      same)

  outgoing_same : (bytes : List ℕ)
      → outgoing_of (streams_of plan end.line) end.side bytes ≡ outgoing_of e.plans e.name.side bytes
  outgoing_same bytes = (λ i. outgoing_of (sym at_end.plans i) (sym at_end.name i).side bytes)

  unsealed_as : (w : PortName → Verdict) → w (port_of plan end) ≡ at_port (port_of plan end) (w e.name)
      → (w (port_of plan end), st) ≡ state_after_send plan ends k packets end (unsealed_step e (w e.name))
  unsealed_as w named =
      (λ i. (named i, st)) ∙ ap (λ (new : LinkState). (at_port (port_of plan end) (w e.name), new)) (state_same _ refl)

  -- of a completion on a stream that it has
  pub seals_as : (stream floor : ℕ) (trusted : Bool) (bytes : List ℕ) (r : Result Tlp TlpFault) (f : Found)
      → found_stream e.plans e.states stream ≡ Some f
      → stepped_tlp plan st
      (record { end = end; stream = stream; trusted = trusted; floor = floor; bytes = bytes }) r
      ≡ state_after_send plan ends k packets end (seal_step e r stream trusted (length packets + 1))
  seals_as stream floor trusted bytes (Err fault) f at =
      unsealed_as (λ n. v.Malformed n (tlp_word fault) (place_in fault)) refl
  seals_as stream floor trusted bytes (Ok t) f at =
      ap (λ (o : Option StreamState). stepped_on_stream plan st (send_of end stream t false trusted) t o)
      (find_at plan ends k packets wired_is end e is stream at_end
      ∙ ap (λ (o : Option Found). option_map (λ (x : Found). x.state) o) at)
      ∙ (found_as t false trusted stream f at
      ∙ ap (λ (o : Option Found). state_after_send plan ends k packets end
      (stream_step e t false trusted (length packets + 1) o)) (sym at))

  -- of bytes that are sent there on its line, if the ends stand for some history
  pub sends_as : (b : BesidePorts) (h : History) (bytes : List ℕ) (more asked : Bool) → PortsStandFor plan st h
      → stepped_send plan b st end (outgoing_of (streams_of plan end.line) end.side bytes) more asked
      ≡ state_after_send plan ends k packets end (send_step e (outgoing_of e.plans e.name.side bytes) more
      (λ head stream. b.t end head stream asked) (length packets + 1))
  sends_as b h bytes more asked stands =
      by_outgoing (outgoing_of (streams_of plan end.line) end.side bytes) refl
      ∙ ap (λ (o : Outgoing). state_after_send plan ends k packets end
      (send_step e o more (λ head stream. b.t end head stream asked) (length packets + 1))) (outgoing_same bytes)
    where
      by_found : (t : Tlp) (id : ℕ) (o : Option Found) → let trusted = b.t end (header t) id asked in
          has_stream plan end id ≡ true → found_stream e.plans e.states id ≡ o
          → stepped_on_stream plan st (send_of end id t more trusted) t (option_map (λ (f : Found). f.state) o)
          ≡ state_after_send plan ends k packets end (stream_step e t more trusted (length packets + 1) o)
      by_found t id None known at =
          let one : find plan st end id ≡ Some (stream_state_due plan h end id) =
          stands.ports_stand.streams end id
          ∙ ap (λ (y : Bool). if y then Some (stream_state_due plan h end id) else None) known in
          let none : None ≡ Some (stream_state_due plan h end id) =
          ap (λ (o : Option Found). option_map (λ (f : Found). f.state) o) (sym at)
          ∙ (sym (find_at plan ends k packets wired_is end e is id at_end) ∙ one) in
          absurd (none-some (stream_state_due plan h end id) none)
      by_found t id (Some f) known at = found_as t more (b.t end (header t) id asked) id f at

      by_outgoing : (o : Outgoing) → outgoing_of (streams_of plan end.line) end.side bytes ≡ o
          → stepped_send plan b st end o more asked ≡ state_after_send plan ends k packets end
          (send_step e o more (λ head stream. b.t end head stream asked) (length packets + 1))
      by_outgoing (NoTlp fault) comes = unsealed_as (λ n. v.Malformed n (tlp_word fault) (place_in fault)) refl
      by_outgoing OnNone comes = unsealed_as (λ n. v.Plain n) refl
      by_outgoing (OnStream t id) comes =
          ap (λ (o : Option StreamState). stepped_on_stream plan st
          (send_of end id t more (b.t end (header t) id asked)) t o)
          (find_at plan ends k packets wired_is end e is id at_end)
          ∙ by_found t id (found_stream e.plans e.states id) (stream_known plan end bytes t id comes) refl

-- ---- what is kept

-- each packet is sealed at an end that is there, those of this send as well
pub sealed_on : (P : PortName → Type 0) (end : PortName) (xs : List LinkPacket) (ps : List Packet) → P end
    → ((i : ℕ) (p : LinkPacket) → slice_get xs i ≡ Some p → P p.port)
    → (i : ℕ) (p : LinkPacket) → slice_get (xs ++ map (kept_packet end) ps) i ≡ Some p → P p.port
sealed_on P end [] [] here before i p is = before i p is
sealed_on P end [] (q ∷ qs) here before zero p is = subst (λ (x : LinkPacket). P x.port)
    (same_Some (kept_packet end q) p is) here
sealed_on P end [] (q ∷ qs) here before (suc i) p is = sealed_on P end [] qs here before i p is
sealed_on P end (x ∷ xs) ps here before zero p is = before zero p is
sealed_on P end (x ∷ xs) ps here before (suc i) p is = sealed_on P end xs ps here
    (λ j q at. before (suc j) q at) i p is
