-- A TLP goes out on the stream that takes it, and in clear if none does.
use Rattle.std.proofs.Common.{◌≡◌, ℕ, ◌+◌, ◌∷◌, Bool, true, false, List, [], Option, Some, None, Ok, slice_get, refl}
use Rattle.std.proofs.Common.{ap, sym}
use Rattle.std.proofs.Common.{subst, ◌∙◌, inl, inr, ◌⊎◌, length}
use Rattle.std.specs.Prelude.{if◌then◌else◌, is_some}
use Rattle.std.proofs.lemmas.Bool.{true≢false, and_parts}
use Rattle.ide_types.specs.Ends.{link_hop}
use Rattle.ide_types.specs.Fits.{FitsPlan}
use Rattle.ide_types.specs.Lines.{is_link_line}
use Rattle.ide_types.specs.Ports.{host_port}
use Rattle.ide_types.specs.declared.binding.Binding.{Binding}
use Rattle.ide_types.specs.declared.direction.Direction.{Direction}
use Rattle.ide_types.specs.declared.plan.HopPlan.{HopPlan}
use Rattle.ide_types.specs.declared.sub.SubKind.TheVariants.{Cpl}
use Rattle.ide_types.specs.declared.verdict.InterfaceVerdict.TheVariants as iv
use Rattle.tlp_layout.specs.Class.{class_of}
use Rattle.tlp_layout.specs.Outgoing.{Outgoing, NoTlp, OnNone, OnStream, stream_taken}
use Rattle.spec_stream.specs.Sending.{Sending, Lanes, verdict_of_send, refusals}
use Rattle.spec_links.specs.Terms.{Plan, PortName, Event, Send, Access, SealedPacket, Verdict, History, Tlp, header}
use Rattle.spec_links.specs.Terms.{read_of, Site, WaitingRead, site_of_requester, granted_to}
use Rattle.spec_links.specs.Cause.{CauseLaw}
use Rattle.spec_links.specs.Plan.{streams_of, has_link, lane_out}
use Rattle.spec_links.specs.Ports.{may_send}
use Rattle.spec_links.specs.History.{sealed_packets, live_key}
use Rattle.spec_links.specs.Hops.{HopTlp, has_hop, leaving_end}
use Rattle.spec_links.specs.Memory.{waiting_reads, hop_waiting}
use Rattle.spec_links.specs.Due.{send_due, lanes_at, answer_due, first_answered, site_answer, completion_verdict}
use Rattle.spec_links.specs.Due.{answer_judged, judged_by, outgoing_completion, is_before, draw_of}
unfoldable use Rattle.spec_links.specs.Due.{due, t_sealed}
use Rattle.law_hops.proofs.Sends.{forward_sends}
use Rattle.event_verdicts.specs.Causes.{binding_cause, is_stream}
use Rattle.event_verdicts.specs.declared.verdict.BlockCause.{BlockCause}
use Rattle.event_verdicts.proofs.Admits.{binding_admits}
use Rattle.event_verdicts.specs.declared.verdict.Verdict.TheVariants as v
use Rattle.script_events.specs.declared.event.Event.TheVariants.{Forward}
use Rattle.script_events.specs.declared.event.AccessEvent.TheVariants as ae
use Rattle.law_sending.specs.Choice.{GoesOnStream, GoesInClear, IsSentAsChosen, IsChosen, is_plain_verdict}
use Rattle.law_sending.proofs.Responses.{response_hidden}
use Rattle.law_sending.proofs.Taking.{not_left}
use Rattle.law_memory.proofs.Packets.{first_is, sealed_of, map_all, IsOf}
use Rattle.law_sending.proofs.WaysOut.{ComesProtected, ComesPlain, sends, way_out}

-- ---- sends

-- the send of a TLP on a stream at an end
abbrev pub sending_of : Plan → History → PortName → Tlp → ℕ → Bool → Bool → Sending
sending_of plan h at t stream more trusted = record {
  port = at;
  stream = stream;
  class = class_of (header t);
  more = more;
  trusted = t_sealed plan h at (header t) stream trusted;
}

sent_hidden : (x : Lanes) (s : Sending) (number : ℕ) → is_plain_verdict (verdict_of_send x s number) ≡ false
sent_hidden x s number = first_is (λ (w : Verdict). is_plain_verdict w ≡ false) (refusals x s.class) _
    (refl, (refl, (refl, (refl, (refl, (refl, (refl, (refl, tt)))))))) refl

hidden : (plan : Plan) (h : History) (at : PortName) (t : Tlp) (stream : ℕ) (more trusted : Bool)
    → is_plain_verdict (send_due plan h at (OnStream t stream) more trusted) ≡ false
hidden plan h at t stream more trusted = sent_hidden (lanes_at plan h at stream)
    (sending_of plan h at t stream more trusted) (length (sealed_packets plan h) + 1)

protected : (plan : Plan) (h : History) (end : PortName) (t : Tlp) (more trusted : Bool) (w : Verdict)
    → ComesProtected plan h end t more trusted w → IsSentAsChosen plan end (header t) w
protected plan h end t more trusted w goes = record {
  either = inl (record { at = goes.at; stream = goes.stream; goes = goes.goes });
  plain = λ is. absurd (true≢false (sym is ∙ (ap is_plain_verdict goes.is
      ∙ hidden plan h goes.at t goes.stream more trusted)));
  clear = λ clear. absurd (never goes.goes clear);
  sealed = λ ds is. map_all {P = IsOf s} {Q = λ (d : SealedPacket). GoesOnStream plan end (header t) d.port d.stream}
      (λ d of. subst (λ (p : PortName). GoesOnStream plan end (header t) p d.stream) (sym of.port_is)
      (subst (λ (n : ℕ). GoesOnStream plan end (header t) goes.at n) (sym of.stream_is) goes.goes)) ds
      (sealed_of (lanes_at plan h goes.at goes.stream) s (length (sealed_packets plan h) + 1) w goes.is ds is);
}
  where
    s : Sending
    s = sending_of plan h goes.at t goes.stream more trusted

    never : GoesOnStream plan end (header t) goes.at goes.stream → GoesInClear plan end (header t) → ⊥
    never (inl own) clear = not_left (streams_of plan end.line) end.side (header t) goes.stream own.1 clear.none
    never (inr hop) clear = clear.unlisted goes.stream hop.lists

in_clear : (plan : Plan) (end : PortName) (t : Tlp) (w : Verdict) → ComesPlain plan end t w
    → IsSentAsChosen plan end (header t) w
in_clear plan end t w goes = record {
  either = inr goes.goes;
  plain = λ is. goes.goes;
  clear = λ clear. goes.is;
  sealed = λ ds is. absurd (apart ds (sym goes.is ∙ is));
}
  where
    apart : {p : PortName} (ds : List SealedPacket) → v.Plain p ≡ v.Sealed ds → ⊥
    apart ds is = absurd cc

sent : (plan : Plan) → FitsPlan plan → (h : History) (end : PortName) (bytes : List ℕ) (more trusted : Bool)
    (w : Verdict) → w ≡ due plan h (Send end bytes more trusted) → may_send plan end ≡ true → (t : Tlp)
    → read_of bytes ≡ Ok t → IsSentAsChosen plan end (header t) w
sent plan fits h end bytes more trusted w is can t reads =
    by (way_out plan fits h end bytes more trusted w (sends plan h end bytes more trusted w can is) t reads)
  where
    by : ComesProtected plan h end t more trusted w ⊎ ComesPlain plan end t w → IsSentAsChosen plan end (header t) w
    by (inl goes) = protected plan h end t more trusted w goes
    by (inr goes) = in_clear plan end t w goes

-- ---- answers

on_stream : (plan : Plan) (h : History) (at : PortName) (out : Outgoing) (stream : ℕ) (more trusted : Bool)
    → is_stream stream (stream_taken out) ≡ true → is_plain_verdict (send_due plan h at out more trusted) ≡ false
on_stream plan h at (NoTlp f) stream more trusted is = refl
on_stream plan h at OnNone stream more trusted is = absurd cc
on_stream plan h at (OnStream t other) stream more trusted is = hidden plan h at t other more trusted

judged_hidden : (plan : Plan) (h : History) (at : PortName) (i draw : ℕ) (out : Outgoing) (b : Binding)
    (o : Option BlockCause) → binding_cause b (stream_taken out) draw ≡ o
    → is_plain_verdict (answer_judged plan h at out (judged_by i b o)) ≡ false
judged_hidden plan h at i draw out b (Some c) is = refl
judged_hidden plan h at i draw out b None is =
    by (is_before (live_key h at (lane_out at b.stream Cpl)) b.floor)
  where
    by : (early : Bool) → is_plain_verdict (if early then v.Interface (iv.RefusedRefreshFirst
        (draw_of (live_key h at (lane_out at b.stream Cpl))) b.floor)
        else send_due plan h at out false true) ≡ false
    by true = refl
    by false = on_stream plan h at out b.stream false true (binding_admits b (stream_taken out) draw is).stream

bound_hidden : (plan : Plan) (h : History) (at : PortName) (i draw : ℕ) (out : Outgoing) (o : Option Binding)
    → is_plain_verdict (completion_verdict plan h at i draw o out) ≡ false
bound_hidden plan h at i draw out None = refl
bound_hidden plan h at i draw out (Some b) =
    judged_hidden plan h at i draw out b (binding_cause b (stream_taken out) draw) refl

site_hidden : (plan : Plan) (h : History) (at : PortName) (draw : ℕ) (out : Outgoing) (o : Option Site)
    → is_plain_verdict (site_answer plan h at draw o out) ≡ false
site_hidden plan h at draw out None = refl
site_hidden plan h at draw out (Some x) = bound_hidden plan h at x.number draw out (granted_to h (Some x))

answer_hidden : (plan : Plan) (h : History) (link : ℕ) → is_plain_verdict (answer_due plan h link) ≡ false
answer_hidden plan h link = by (has_link plan link) (waiting_reads plan h (host_port link))
  where
    by : (b : Bool) (rs : List WaitingRead) → is_plain_verdict (if b then first_answered
        (λ (r : WaitingRead). site_answer plan h (host_port link) r.came.draw
        (site_of_requester plan link r.read.requester) (outgoing_completion plan h link)) link rs else v.Nothing)
        ≡ false
    by false rs = refl
    by true [] = refl
    by true (r ∷ rs) = site_hidden plan h (host_port link) r.came.draw (outgoing_completion plan h link)
        (site_of_requester plan link r.read.requester)

-- ---- forwards

pub hop_of : (o : Option HopPlan) → is_some o ≡ true → (P : Type 0) → ((hop : HopPlan) → o ≡ Some hop → P) → P
hop_of None is P with_hop = absurd cc
hop_of (Some hop) is P with_hop = with_hop hop refl

forward_hidden : (plan : Plan) → FitsPlan plan → (h : History) → CauseLaw plan h → (link : ℕ) (d : Direction)
    → is_plain_verdict (due plan h (Forward link d)) ≡ false
unfolding due
forward_hidden plan fits h cause link d = by (has_hop plan link) refl (hop_waiting plan h link d) refl
  where
    one : has_hop plan link ≡ true → (x : HopTlp) (xs : List HopTlp) → hop_waiting plan h link d ≡ x ∷ xs
        → is_plain_verdict (due plan h (Forward link d)) ≡ false
    one known x xs waits = hop_of (link_hop (slice_get plan.links link))
        (and_parts (is_link_line link) (is_some (link_hop (slice_get plan.links link))) known).1
        (is_plain_verdict (due plan h (Forward link d)) ≡ false)
        (λ hop is.
        ap is_plain_verdict (forward_sends plan fits h cause link d hop known is x xs waits)
        ∙ sent_hidden (lanes_at plan h (leaving_end link d) hop.id)
        (record { port = leaving_end link d; stream = hop.id; class = x.sub; more = false; trusted = x.t })
        (length (sealed_packets plan h) + 1))

    by : (b : Bool) → has_hop plan link ≡ b → (xs : List HopTlp) → hop_waiting plan h link d ≡ xs
        → is_plain_verdict (due plan h (Forward link d)) ≡ false
    by false known xs waits = rw known refl
    by true known [] waits = rw (known, waits) refl
    by true known (x ∷ xs) waits = one known x xs waits

-- ---- the pair

pub chosen : (plan : Plan) → FitsPlan plan → (h : History) (e : Event) (w : Verdict) → CauseLaw plan ((e, w) ∷ h)
    → IsChosen plan h e w
unfolding due
chosen plan fits h (Send end bytes more trusted) w cause = sent plan fits h end bytes more trusted w cause.0
chosen plan fits h (Access (ae.Answer link)) w cause = ap is_plain_verdict cause.0 ∙ answer_hidden plan h link
chosen plan fits h (Access (ae.Respond link)) w cause = response_hidden plan h link w cause.0
chosen plan fits h (Forward link d) w cause = ap is_plain_verdict cause.0 ∙ forward_hidden plan fits h cause.1 link d
chosen plan fits h e w cause = tt
