-- Each send, forward, answer and response is answered as a send is.
use Rattle.std.proofs.Common.{◌≡◌, ℕ, suc, ◌+◌, ◌<◌, ◌≤◌, ◌∷◌, Bool, true, false, List, []}
use Rattle.std.proofs.Common.{Option, Some, None, Result, Ok, Err, slice_get, length, drop, refl, ap, sym, subst}
use Rattle.std.proofs.Common.{◌∙◌, inl, inr, ◌⊎◌, arith}
use Rattle.std.specs.Prelude.{if◌then◌else◌, is_some, not, nat_lt}
use Rattle.std.proofs.lemmas.Bool.{true≢false, and_parts, eq-eqb, eqb-true}
use Rattle.std.proofs.lemmas.Bool.Decides.{nat_tests}
use Rattle.std.proofs.lemmas.List.{take_all, drop_all}
use Rattle.ide_types.specs.Ends.{link_hop}
use Rattle.ide_types.specs.Fits.{FitsPlan}
use Rattle.ide_types.specs.Lines.{is_link_line}
use Rattle.ide_types.specs.Ports.{host_port}
use Rattle.ide_types.specs.declared.binding.Binding.{Binding}
use Rattle.ide_types.specs.declared.direction.Direction.{Direction}
use Rattle.ide_types.specs.declared.plan.HopPlan.{HopPlan}
use Rattle.ide_types.specs.declared.port.Side.TheVariants.{Host}
use Rattle.ide_types.specs.declared.sub.SubKind.{SubKind}
use Rattle.ide_types.specs.declared.sub.SubKind.TheVariants.{Cpl}
use Rattle.tlp_layout.specs.declared.fault.TlpFault.{TlpFault}
use Rattle.tlp_layout.specs.Class.{class_of}
use Rattle.tlp_layout.proofs.Outgoing.{on_stream_reads}
use Rattle.trusted_memory.specs.Writes.{byte_last_written}
use Rattle.tlp_layout.specs.Choice.{chosen_stream}
unfoldable use Rattle.tlp_layout.specs.Choice.{choice_of}
use Rattle.tlp_layout.specs.Outgoing.{Outgoing, NoTlp, OnNone, OnStream, stream_taken, outgoing_as_read}
use Rattle.tlp_layout.specs.Outgoing.{outgoing_if_chosen}
unfoldable use Rattle.tlp_layout.specs.Outgoing.{outgoing_of}
use Rattle.spec_stream.specs.Sending.{Sending, Lanes, verdict_of_send, refusals}
use Rattle.spec_links.specs.Terms.{Plan, PortName, Event, Send, Access, Verdict, History, Tlp, header}
use Rattle.spec_links.specs.Terms.{read_of, Site, WaitingRead, site_of_requester, granted_to, host_completer}
use Rattle.spec_links.specs.Cause.{CauseLaw}
use Rattle.spec_links.specs.Plan.{streams_of, has_link, lane_out}
unfoldable use Rattle.spec_links.specs.Ports.{sealing_end}
use Rattle.spec_links.specs.History.{KeyName, sealed_packets, sent_bytes, live_key}
use Rattle.spec_links.specs.Hops.{HopTlp, has_hop, entering_end, leaving_end, forwarded_count}
use Rattle.spec_links.specs.HopLaws.{tlps_since_reset}
use Rattle.spec_links.specs.Memory.{accepted_tlps, hop_waiting, writes}
use Rattle.spec_links.specs.Sent.{reads_taken}
use Rattle.spec_links.specs.Due.{send_due, bytes_due, lanes_at, answer_due, site_answer, sent_from}
use Rattle.spec_links.specs.Due.{completion_verdict, answer_judged, judged_by, outgoing_completion}
use Rattle.spec_links.specs.Due.{is_before, draw_of}
unfoldable use Rattle.spec_links.specs.Due.{due}
use Rattle.spec_interfaces.specs.Terms.{View, Running}
use Rattle.spec_interfaces.specs.Views.{view_at, floor_at, bound_if}
use Rattle.law_hops.proofs.Sends.{forward_sends}
use Rattle.law_hops.proofs.Forwards.{Forwards, forwards}
use Rattle.law_reads.proofs.Oldest.{bytes_are}
use Rattle.law_locks.proofs.Answered.{reader_there}
use Rattle.event_verdicts.specs.Causes.{binding_cause, stale_cause, is_stream}
use Rattle.event_verdicts.specs.declared.verdict.BlockCause.{BlockCause}
use Rattle.event_verdicts.specs.declared.verdict.BlockCause.TheVariants.{WrongStream, Stale}
use Rattle.law_memory.proofs.Origins.{if_bound}
use Rattle.law_memory.proofs.Completions.{completion_class}
use Rattle.event_verdicts.proofs.Admits.{Admits, binding_admits}
use Rattle.event_verdicts.specs.declared.access.AccessVerdict.TheVariants as av
use Rattle.ide_types.specs.declared.verdict.InterfaceVerdict.TheVariants as iv
use Rattle.event_verdicts.specs.declared.verdict.Verdict.TheVariants as v
use Rattle.script_events.specs.declared.event.Event.TheVariants.{Forward}
use Rattle.script_events.specs.declared.event.AccessEvent.TheVariants as ae
use Rattle.law_sending.specs.Choice.{TakesTlp, GoesOnStream, GoesInClear}
use Rattle.law_sending.specs.Trust.{IsFirstWaiting}
use Rattle.law_sending.specs.Sends.{IsAnsweredAsSend, is_malformed, is_fault, IsSentOn, IsForwardedOn, MayHave}
use Rattle.law_sending.specs.Sends.{is_dropped, IsCompletionKey, IsAnsweredFor, IsAnsweredForOwner, IsAnsweredOn}
use Rattle.law_sending.specs.Sends.{AnswersSend, IsOldestAt}
use Rattle.law_sending.specs.Sends.{completion_now, CompletionGoesOn}
use Rattle.law_sending.proofs.Taking.{not_left, one_takes, taken, TakesIf}
use Rattle.law_memory.proofs.Packets.{first_is}
use Rattle.law_sending.proofs.WaysOut.{ComesProtected, ComesPlain, sends, way_out}
use Rattle.law_sending.proofs.Choice.{sending_of, hop_of}
use Rattle.law_sending.proofs.Waiting.{count_is}
use Rattle.law_sending.proofs.Refusals.{answers_send}
use Rattle.law_sending.proofs.Oldest.{answers_oldest, drop_here, dropped_all, empty_exactly, is_empty}
use Rattle.law_sending.proofs.Responses.{responded_on}

-- ---- sends

one_hop : (a b : HopPlan) → Some a ≡ Some b → a ≡ b
one_hop a b is = cc (is)

-- where a TLP goes is one end and one stream
same_way : (plan : Plan) (end : PortName) (t : Tlp) (p q : PortName) (m n : ℕ) → GoesOnStream plan end (header t) p m
    → GoesOnStream plan end (header t) q n → (p ≡ q) × (m ≡ n)
same_way plan end t p q m n (inl a) (inl b) =
    (a.0 ∙ sym b.0, one_takes (streams_of plan end.line) end.side (header t) m n a.1 b.1)
same_way plan end t p q m n (inl a) (inr b) =
    absurd (not_left (streams_of plan end.line) end.side (header t) m a.1 b.none)
same_way plan end t p q m n (inr a) (inl b) =
    absurd (not_left (streams_of plan end.line) end.side (header t) n b.1 a.none)
same_way plan end t p q m n (inr a) (inr b) =
    let hop = one_hop a.lists.hop b.lists.hop (sym a.lists.is ∙ b.lists.is) in
    (a.at_hop ∙ sym b.at_hop, sym a.lists.id ∙ (ap (λ (o : HopPlan). o.id) hop ∙ b.lists.id))

pub never_clear : (plan : Plan) (end : PortName) (t : Tlp) (p : PortName) (m : ℕ) → GoesOnStream plan end (header t) p m
    → GoesInClear plan end (header t) → ⊥
never_clear plan end t p m (inl own) clear =
    not_left (streams_of plan end.line) end.side (header t) m own.1 clear.none
never_clear plan end t p m (inr hop) clear = clear.unlisted m hop.lists

answered_there : (plan : Plan) (h : History) (at : PortName) (t : Tlp) (stream : ℕ) (more trusted : Bool) (w : Verdict)
    → w ≡ send_due plan h at (OnStream t stream) more trusted
    → IsAnsweredAsSend (lanes_at plan h at stream) (class_of (header t)) more w
answered_there plan h at t stream more trusted w is = answers_send (lanes_at plan h at stream)
    (sending_of plan h at t stream more trusted) (length (sealed_packets plan h) + 1) w is

spelled : (plan : Plan) (h : History) (at : PortName) (t : Tlp) (stream : ℕ) (more trusted : Bool)
    → is_malformed (send_due plan h at (OnStream t stream) more trusted) ≡ false
spelled plan h at t stream more trusted = first_is (λ (w : Verdict). is_malformed w ≡ false)
    (refusals (lanes_at plan h at stream) (class_of (header t))) _
    (refl, (refl, (refl, (refl, (refl, (refl, (refl, (refl, tt)))))))) refl

module _ (plan : Plan) (fits : FitsPlan plan) (h : History) (end : PortName) (bytes : List ℕ) (more trusted : Bool)
    (w : Verdict) (due_is : w ≡ bytes_due plan h (sealing_end plan end bytes) bytes more trusted) where
  no_fault : (t : Tlp) → ComesProtected plan h end t more trusted w ⊎ ComesPlain plan end t w → is_malformed w ≡ false
  no_fault t (inl goes) = ap is_malformed goes.is ∙ spelled plan h goes.at t goes.stream more trusted
  no_fault t (inr goes) = ap is_malformed goes.is

  faulty : (f : TlpFault) → read_of bytes ≡ Err f → is_malformed w ≡ true
  unfolding outgoing_of
  faulty f reads =
      let at = sealing_end plan end bytes in
      ap is_malformed (due_is ∙ ap (λ (r : Result Tlp TlpFault).
      send_due plan h at (outgoing_as_read (streams_of plan at.line) at.side r) more trusted) reads)

  malformed_is : (r : Result Tlp TlpFault) → read_of bytes ≡ r → is_malformed w ≡ is_fault r
  malformed_is (Ok t) reads = no_fault t (way_out plan fits h end bytes more trusted w due_is t reads)
  malformed_is (Err f) reads = faulty f reads

  sent_there : (t : Tlp) (at : PortName) (stream : ℕ) → GoesOnStream plan end (header t) at stream
      → ComesProtected plan h end t more trusted w ⊎ ComesPlain plan end t w
      → IsAnsweredAsSend (lanes_at plan h at stream) (class_of (header t)) more w
  sent_there t at stream goes (inl own) =
      let same = same_way plan end t own.at at own.stream stream own.goes goes in
      subst (λ (p : PortName). IsAnsweredAsSend (lanes_at plan h p stream) (class_of (header t)) more w) same.0
      (subst (λ (n : ℕ). IsAnsweredAsSend (lanes_at plan h own.at n) (class_of (header t)) more w) same.1
      (answered_there plan h own.at t own.stream more trusted w own.is))
  sent_there t at stream goes (inr plain) = absurd (never_clear plan end t at stream goes plain.goes)

  sent_on : IsSentOn plan h end bytes more w
  sent_on = record {
    malformed = malformed_is (read_of bytes) refl;
    sent = λ t reads at stream goes.
        sent_there t at stream goes (way_out plan fits h end bytes more trusted w due_is t reads);
  }

-- ---- forwards

sent_full : (x : Lanes) (s : Sending) (number : ℕ) → is_empty (verdict_of_send x s number) ≡ false
sent_full x s number = first_is (λ (w : Verdict). is_empty w ≡ false) (refusals x s.class) _
    (refl, (refl, (refl, (refl, (refl, (refl, (refl, (refl, tt)))))))) refl

module _ (plan : Plan) (fits : FitsPlan plan) (h : History) (cause : CauseLaw plan h) (link : ℕ) (d : Direction)
    (w : Verdict) (is : w ≡ due plan h (Forward link d)) (known : has_hop plan link ≡ true) where
  abbrev all : List HopTlp
  all = accepted_tlps plan h link (entering_end link d)

  abbrev end : PortName
  end = leaving_end link d

  both : Forwards plan h link d
  both = forwards plan fits h cause link d known

  forward_of : (hop : HopPlan) → link_hop (slice_get plan.links link) ≡ Some hop → (x : HopTlp) (xs : List HopTlp)
      → hop_waiting plan h link d ≡ x ∷ xs → w ≡ verdict_of_send (lanes_at plan h end hop.id)
      (record { port = end; stream = hop.id; class = x.sub; more = false; trusted = x.t })
      (length (sealed_packets plan h) + 1)
  forward_of hop hop_is x xs waits = is ∙ forward_sends plan fits h cause link d hop known hop_is x xs waits

  none_waits : hop_waiting plan h link d ≡ [] → w ≡ v.Access (av.Empty link)
  unfolding due
  none_waits waits = is ∙ rw (known, waits) refl

  some_waits : (x : HopTlp) (xs : List HopTlp) → hop_waiting plan h link d ≡ x ∷ xs → is_empty w ≡ false
  some_waits x xs waits = hop_of (link_hop (slice_get plan.links link))
      (and_parts (is_link_line link) (is_some (link_hop (slice_get plan.links link))) known).1 (is_empty w ≡ false)
      (λ hop hop_is.
      ap is_empty (forward_of hop hop_is x xs waits)
      ∙ sent_full (lanes_at plan h end hop.id)
      (record { port = end; stream = hop.id; class = x.sub; more = false; trusted = x.t })
      (length (sealed_packets plan h) + 1))

  all_sealed : w ≡ v.Access (av.Empty link) → tlps_since_reset plan h link end ≡ all
  all_sealed empty = by (hop_waiting plan h link d) refl
    where
      by : (xs : List HopTlp) → hop_waiting plan h link d ≡ xs → tlps_since_reset plan h link end ≡ all
      by [] waits = both.list ∙ take_all (forwarded_count h link d) all (dropped_all all (forwarded_count h link d)
          waits)
      by (x ∷ xs) waits = absurd (true≢false (sym (ap is_empty empty) ∙ some_waits x xs waits))

  sealed_all : tlps_since_reset plan h link end ≡ all → w ≡ v.Access (av.Empty link)
  sealed_all same =
      let count = count_is plan h link d both in
      let length_is = ap length same in
      none_waits (drop_all (forwarded_count h link d) all (omega (arith, count, length_is)))

  first_sent : (x : HopTlp) → IsFirstWaiting plan h link d x → (hop : HopPlan)
      → link_hop (slice_get plan.links link) ≡ Some hop → IsAnsweredAsSend (lanes_at plan h end hop.id) x.sub false w
  first_sent x waits hop hop_is =
      let place = subst (λ (n : ℕ). slice_get all n ≡ Some x) (count_is plan h link d both) waits in
      answers_send (lanes_at plan h end hop.id)
      (record { port = end; stream = hop.id; class = x.sub; more = false; trusted = x.t })
      (length (sealed_packets plan h) + 1) w
      (forward_of hop hop_is x (drop (suc (forwarded_count h link d)) all)
      (drop_here all (forwarded_count h link d) x place))

  forwarded_on : IsForwardedOn plan h link d w
  forwarded_on = record { empty = (all_sealed, sealed_all); sent = first_sent }

-- ---- answers

send_full : (plan : Plan) (h : History) (at : PortName) (out : Outgoing) (more trusted : Bool)
    → is_empty (send_due plan h at out more trusted) ≡ false
send_full plan h at (NoTlp f) more trusted = refl
send_full plan h at OnNone more trusted = refl
send_full plan h at (OnStream t stream) more trusted = sent_full (lanes_at plan h at stream)
    (sending_of plan h at t stream more trusted) (length (sealed_packets plan h) + 1)

judged_full : (plan : Plan) (h : History) (at : PortName) (i : ℕ) (out : Outgoing) (b : Binding) (o : Option BlockCause)
    → is_empty (answer_judged plan h at out (judged_by i b o)) ≡ false
judged_full plan h at i out b (Some c) = refl
judged_full plan h at i out b None = by (is_before (live_key h at (lane_out at b.stream Cpl)) b.floor)
  where
    by : (early : Bool) → is_empty (if early then v.Interface (iv.RefusedRefreshFirst
        (draw_of (live_key h at (lane_out at b.stream Cpl))) b.floor)
        else send_due plan h at out false true) ≡ false
    by true = refl
    by false = send_full plan h at out false true

bound_full : (plan : Plan) (h : History) (at : PortName) (i draw : ℕ) (out : Outgoing) (o : Option Binding)
    → is_empty (completion_verdict plan h at i draw o out) ≡ false
bound_full plan h at i draw out None = refl
bound_full plan h at i draw out (Some b) = judged_full plan h at i out b (binding_cause b (stream_taken out) draw)

site_full : (plan : Plan) (h : History) (at : PortName) (draw : ℕ) (out : Outgoing) (o : Option Site)
    → is_empty (site_answer plan h at draw o out) ≡ false
site_full plan h at draw out None = refl
site_full plan h at draw out (Some x) = bound_full plan h at x.number draw out (granted_to h (Some x))

send_keeps : (plan : Plan) (h : History) (at : PortName) (out : Outgoing) (more trusted : Bool)
    → is_dropped (send_due plan h at out more trusted) ≡ false
send_keeps plan h at (NoTlp f) more trusted = refl
send_keeps plan h at OnNone more trusted = refl
send_keeps plan h at (OnStream t stream) more trusted = first_is (λ (w : Verdict). is_dropped w ≡ false)
    (refusals (lanes_at plan h at stream) (class_of (header t))) _
    (refl, (refl, (refl, (refl, (refl, (refl, (refl, (refl, tt)))))))) refl

key_keeps : (plan : Plan) (h : History) (at : PortName) (floor : ℕ) (key : Option KeyName) (out : Outgoing)
    → is_dropped (sent_from floor key (send_due plan h at out false true)) ≡ false
key_keeps plan h at floor key out = by (is_before key floor)
  where
    by : (early : Bool) → is_dropped (if early then v.Interface (iv.RefusedRefreshFirst (draw_of key) floor)
        else send_due plan h at out false true) ≡ false
    by true = refl
    by false = send_keeps plan h at out false true

-- ---- the oldest that waits

module _ (plan : Plan) (h : History) (link : ℕ) (r : WaitingRead) (x : Site) (w : Verdict)
    (is : w ≡ completion_verdict plan h (host_port link) x.number r.came.draw (granted_to h (Some x))
    (outgoing_completion plan h link))
    (bytes : sent_bytes plan h (Access (ae.Answer link)) ≡ completion_now plan h r) where
  abbrev out : Outgoing
  out = outgoing_completion plan h link

  abbrev at : PortName
  at = host_port link

  abbrev bound : Binding
  bound = record { stream = x.plan.stream; floor = floor_at h x }

  abbrev key : Option KeyName
  key = live_key h at (lane_out at x.plan.stream Cpl)

  -- the completion comes to the stream that takes it
  out_is : (t : Tlp) → read_of (completion_now plan h r) ≡ Ok t → (o : Option ℕ)
      → chosen_stream (choice_of (streams_of plan link) Host (header t)) ≡ o → out ≡ outgoing_if_chosen t o
  unfolding outgoing_of
  out_is t reads o chosen = ap (outgoing_as_read (streams_of plan link) Host) (ap read_of bytes ∙ reads)
      ∙ ap (outgoing_if_chosen t) chosen

  chosen_as : (goes : CompletionGoesOn plan h link r x.plan.stream) → out ≡ OnStream goes.tlp x.plan.stream
  chosen_as goes =
      by (chosen_stream (choice_of (streams_of plan link) Host (header goes.tlp))) refl
      (taken (streams_of plan link) Host (header goes.tlp))
    where
      by : (o : Option ℕ) → chosen_stream (choice_of (streams_of plan link) Host (header goes.tlp)) ≡ o
          → TakesIf (streams_of plan link) Host (header goes.tlp) o → out ≡ OnStream goes.tlp x.plan.stream
      by None chosen none =
          absurd (not_left (streams_of plan link) Host (header goes.tlp) x.plan.stream goes.takes none)
      by (Some id) chosen other =
          out_is goes.tlp goes.reads (Some id) chosen
          ∙ ap (λ (n : ℕ). OnStream goes.tlp n)
          (one_takes (streams_of plan link) Host (header goes.tlp) id x.plan.stream other goes.takes)

  goes_as : is_stream x.plan.stream (stream_taken out) ≡ true → CompletionGoesOn plan h link r x.plan.stream
  goes_as on = by out refl
    where
      on_is : (o : Outgoing) → out ≡ o → is_stream x.plan.stream (stream_taken o) ≡ true
      on_is o comes = ap (λ (p : Outgoing). is_stream x.plan.stream (stream_taken p)) (sym comes) ∙ on

      by : (o : Outgoing) → out ≡ o → CompletionGoesOn plan h link r x.plan.stream
      by (NoTlp f) comes = absurd (true≢false (sym (on_is (NoTlp f) comes)))
      by OnNone comes = absurd (true≢false (sym (on_is OnNone comes)))
      by (OnStream t id) comes =
          let reads = on_stream_reads (streams_of plan link) Host (sent_bytes plan h (Access (ae.Answer link))) t id
          comes in
          let same : x.plan.stream ≡ id = eqb-true x.plan.stream id (on_is (OnStream t id) comes) in
          record {
            tlp = t;
            reads = sym (ap read_of bytes) ∙ reads.0;
            takes = subst (TakesTlp (streams_of plan link) Host (header t)) (sym same)
                (subst (TakesIf (streams_of plan link) Host (header t)) reads.1
                (taken (streams_of plan link) Host (header t)));
          }

  granted : view_at h x ≡ Running → granted_to h (Some x) ≡ Some bound
  granted runs = ap (λ (view : View). bound_if view x.plan.stream (floor_at h x)) runs

  admits : is_stream x.plan.stream (stream_taken out) ≡ true → floor_at h x ≤ r.came.draw
      → binding_cause bound (stream_taken out) r.came.draw ≡ None
  admits on floor =
      ap (λ (b : Bool). if not b then Some WrongStream else stale_cause (floor_at h x) r.came.draw) on
      ∙ ap (λ (b : Bool). if b then Some Stale else None) (less_not (floor_at h x) r.came.draw floor)
    where
      less_not : (floor draw : ℕ) → floor ≤ draw → nat_lt draw floor ≡ false
      less_not floor draw le = grind (arith, nat_tests)

  on_stream : MayHave plan h link r x → is_stream x.plan.stream (stream_taken out) ≡ true
  on_stream may = ap (λ (p : Outgoing). is_stream x.plan.stream (stream_taken p)) (chosen_as may.goes)
      ∙ eq-eqb x.plan.stream x.plan.stream refl

  -- it may have the completion, and so it is sent
  may_send_it : MayHave plan h link r x
      → w ≡ sent_from (floor_at h x) key (send_due plan h at out false true)
  may_send_it may = is
      ∙ (ap (λ (o : Option Binding). completion_verdict plan h at x.number r.came.draw o out) (granted may.runs)
      ∙ ap (λ (o : Option BlockCause). answer_judged plan h at out (judged_by x.number bound o))
      (admits (on_stream may) may.floor))

  kept : MayHave plan h link r x → is_dropped w ≡ false
  kept may = ap is_dropped (may_send_it may) ∙ key_keeps plan h at (floor_at h x) key out

  may_by : view_at h x ≡ Running → Admits bound (stream_taken out) r.came.draw → MayHave plan h link r x
  may_by runs adm = record { runs = runs; goes = goes_as adm.stream; floor = not_less r.came.draw _ adm.fresh }
    where
      not_less : (draw floor : ℕ) → nat_lt draw floor ≡ false → floor ≤ draw
      not_less draw floor off = grind (arith, nat_tests)

  refused : (MayHave plan h link r x → ⊥) → is_dropped w ≡ true
  refused never = by_view (granted_to h (Some x)) refl
    where
      by_cause : (b : Binding) → granted_to h (Some x) ≡ Some b → (o : Option BlockCause)
          → binding_cause b (stream_taken out) r.came.draw ≡ o
          → is_dropped (answer_judged plan h at out (judged_by x.number b o)) ≡ true
      by_cause b granted (Some c) cause = refl
      by_cause b granted None cause =
          let means = if_bound (view_at h x) x.plan.stream (floor_at h x) b granted in
          let admitted = binding_admits b (stream_taken out) r.came.draw cause in
          absurd (never (may_by means.0
          (subst (λ (c : Binding). Admits c (stream_taken out) r.came.draw) means.1 admitted)))

      by_view : (o : Option Binding) → granted_to h (Some x) ≡ o → is_dropped w ≡ true
      by_view None granted = ap is_dropped (is
          ∙ ap (λ (o : Option Binding). completion_verdict plan h at x.number r.came.draw o out) granted)
      by_view (Some b) granted = ap is_dropped (is
          ∙ ap (λ (o : Option Binding). completion_verdict plan h at x.number r.came.draw o out) granted)
          ∙ by_cause b granted (binding_cause b (stream_taken out) r.came.draw) refl

  too_early : MayHave plan h link r x → (k : KeyName) → IsCompletionKey h link x k → k.draw < floor_at h x
      → w ≡ v.Interface (iv.RefusedRefreshFirst k.draw (floor_at h x))
  too_early may k live less = may_send_it may
      ∙ (ap (λ (o : Option KeyName). sent_from (floor_at h x) o (send_due plan h at out false true)) live
      ∙ ap (λ (b : Bool). if b then v.Interface (iv.RefusedRefreshFirst k.draw (floor_at h x))
      else send_due plan h at out false true) (less_is k.draw (floor_at h x) less))
    where
      less_is : (a b : ℕ) → a < b → nat_lt a b ≡ true
      less_is a b less = grind (arith, nat_tests)

  in_time : MayHave plan h link r x → ((k : KeyName) → IsCompletionKey h link x k → floor_at h x ≤ k.draw)
      → is_before key (floor_at h x) ≡ false
  in_time may fresh = by key refl
    where
      not_less : (a b : ℕ) → b ≤ a → nat_lt a b ≡ false
      not_less a b le = grind (arith, nat_tests)

      by : (o : Option KeyName) → key ≡ o → is_before o (floor_at h x) ≡ false
      by None live = refl
      by (Some k) live = not_less k.draw (floor_at h x) (fresh k live)

  sent_then : MayHave plan h link r x → ((k : KeyName) → IsCompletionKey h link x k → floor_at h x ≤ k.draw)
      → IsAnsweredAsSend (lanes_at plan h at x.plan.stream) Cpl false w
  sent_then may fresh =
      let t = may.goes.tlp in
      subst (λ (u : SubKind). IsAnsweredAsSend (lanes_at plan h at x.plan.stream) u false w)
      (completion_class host_completer (byte_last_written (writes plan h)) r.read t may.goes.reads)
      (answered_there plan h at t x.plan.stream false true w
      (may_send_it may
      ∙ (ap (λ (b : Bool). if b then v.Interface (iv.RefusedRefreshFirst (draw_of key) (floor_at h x))
      else send_due plan h at out false true) (in_time may fresh)
      ∙ ap (λ (o : Outgoing). send_due plan h at o false true) (chosen_as may.goes))))

  answered_for : IsAnsweredFor plan h link r x w
  answered_for = record {
    dropped = (λ dropped may. true≢false (sym dropped ∙ kept may), refused);
    early = too_early;
    sent = sent_then;
  }

module _ (plan : Plan) (h : History) (cause : CauseLaw plan h) (link : ℕ) (w : Verdict)
    (is : w ≡ answer_due plan h link) (known : has_link plan link ≡ true) where
  abbrev answer : WaitingRead → Verdict
  answer r = site_answer plan h (host_port link) r.came.draw (site_of_requester plan link r.read.requester)
      (outgoing_completion plan h link)

  answered_oldest : (r : WaitingRead) → IsOldestAt plan h (host_port link) r → IsAnsweredForOwner plan h link r w
  answered_oldest r place =
      by (site_of_requester plan link r.read.requester) refl
      (reader_there plan h cause link (reads_taken h (host_port link)) r place)
    where
      by : (o : Option Site) → site_of_requester plan link r.read.requester ≡ o → is_some o ≡ true
          → IsAnsweredForOwner plan h link r w
      by None owns there = absurd cc
      by (Some x) owns there = record {
        interface = x;
        owns = owns;
        answered = answered_for plan h link r x w
            (answers_oldest plan h (host_port link) answer w is known r place
            ∙ ap (λ (o : Option Site). site_answer plan h (host_port link) r.came.draw o (outgoing_completion plan h
            link)) owns)
            (bytes_are plan h link r cause place);
      }

  answered_on : IsAnsweredOn plan h link w
  answered_on = record {
    empty = empty_exactly plan h (host_port link) answer w is known cause
        (λ r place. site_full plan h (host_port link) r.came.draw (outgoing_completion plan h link)
        (site_of_requester plan link r.read.requester));
    oldest = answered_oldest;
  }

-- ---- the pair

pub answers_sends : (plan : Plan) → FitsPlan plan → (h : History) (e : Event) (w : Verdict)
    → CauseLaw plan ((e, w) ∷ h) → AnswersSend plan h e w
unfolding due
answers_sends plan fits h (Send end bytes more trusted) w cause = λ can.
    sent_on plan fits h end bytes more trusted w (sends plan h end bytes more trusted w can cause.0)
answers_sends plan fits h (Forward link d) w cause = forwarded_on plan fits h cause.1 link d w cause.0
answers_sends plan fits h (Access (ae.Answer link)) w cause = answered_on plan h cause.1 link w cause.0
answers_sends plan fits h (Access (ae.Respond link)) w cause = responded_on plan fits h cause.1 link w cause.0
answers_sends plan fits h e w cause = tt
