-- An answer to a read that waits at a port gets the verdict that is due, and the state after it stands for the history
-- with it: the end's key of completions is the history's, and a completion is sealed as any TLP is.
use Rattle.spec_keys.specs.Keys.{is_some_below}
use Rattle.machine_ports.proofs.Terms.{
  ◌≡◌,
  ℕ,
  Bool,
  true,
  false,
  List,
  [],
  ◌∷◌,
  Option,
  Some,
  None,
  option_map,
  Ok,
  Err,
}
use Rattle.machine_ports.proofs.Terms.{
  Result,
  refl,
  ap,
  sym,
  ◌∙◌,
  subst,
  arith,
  nat_tests,
  if◌then◌else◌,
  unwrap_or,
  Cpl,
}
use Rattle.machine_ports.proofs.Terms.{Event, find, has_stream, History, is_of_packets, is_quiet, KeyFacts, KeyName}
use Rattle.machine_ports.proofs.Terms.{port_keys, lane_out, LinkState, live_key, LiveKey, Plan, PortName, read_of}
use Rattle.machine_ports.proofs.Terms.{StreamsAndPacketsStand, sealed_packets, send_due, stream_state_due, streams_of}
use Rattle.machine_ports.proofs.Terms.{StreamState, Tlp, tlp_word, Verdict, header}
unfoldable use Rattle.machine_ports.proofs.Terms.{due}
use Rattle.std.specs.Option.{option_map_or}
use Rattle.ide_types.specs.Ports.{host_port, device_port}
use Rattle.ide_types.specs.declared.binding.Binding.{Binding}
use Rattle.ide_types.specs.declared.port.Side.TheVariants.{Host, Device}
use Rattle.tlp_layout.specs.Faults.{place_in}
use Rattle.tlp_layout.specs.declared.head.HeadView.{HeadView}
use Rattle.tlp_layout.specs.declared.fault.TlpFault.{TlpFault}
use Rattle.tlp_layout.specs.Outgoing.{Outgoing, NoTlp, OnNone, OnStream, stream_taken}
use Rattle.tlp_layout.proofs.Outgoing.{on_stream_reads}
use Rattle.spec_links.specs.Terms.{Site, site_of_requester, site_on, granted_to, WaitingRead, ReadTarget}
use Rattle.spec_links.specs.Terms.{Claim, claim_of, judged_claim, least_draw, history_statuses, MemReadView}
use Rattle.script_events.specs.declared.event.AccessEvent.TheVariants as ae
use Rattle.script_events.specs.declared.event.Event.TheVariants.{Access}
use Rattle.ide_types.specs.declared.verdict.InterfaceVerdict.TheVariants as iv
use Rattle.event_verdicts.specs.declared.access.AccessVerdict.TheVariants as av
use Rattle.event_verdicts.specs.declared.verdict.BlockCause.{BlockCause}
use Rattle.event_verdicts.specs.declared.verdict.BlockCause.TheVariants as cause
use Rattle.event_verdicts.specs.Causes.{is_stream, binding_cause}
use Rattle.event_verdicts.proofs.Admits.{binding_admits}
use Rattle.event_verdicts.specs.declared.verdict.Verdict.TheVariants as v
use Rattle.spec_links.specs.Plan.{has_link}
use Rattle.spec_links.specs.Ports.{port_of}
use Rattle.spec_links.specs.History.{sent_bytes}
use Rattle.spec_links.specs.Memory.{policy_at, queued_reads, waiting_reads}
use Rattle.spec_links.specs.Sent.{completion_at, oldest_completion, reads_taken}
unfoldable use Rattle.spec_links.specs.Sent.{bytes_by}
use Rattle.spec_links.specs.Due.{is_before, draw_of, sent_from, completion_verdict, site_answer, answer_judged}
use Rattle.spec_links.specs.Due.{judged_by, outgoing_completion, first_answered, read_due, seal_due, response_sent}
use Rattle.spec_links.specs.Due.{response_judged, site_response, target_response}
unfoldable use Rattle.spec_links.specs.Due.{t_sealed}
use Rattle.spec_links.proofs.Choices.{stream_known}
use Rattle.spec_links.proofs.HopFirst.{drop_first}
use Rattle.machine_ports.specs.Replies.{ReadCompletion, bound_completion, completion_by, site_completion}
use Rattle.machine_ports.specs.Replies.{claimed_completion, response_by, target_completion, completion_at_side}
use Rattle.machine_ports.specs.Replies.{completion_first, port_completion}
use Rattle.machine_ports.specs.Machine.{sealing_draw_at, stepped_tlp, stepped_completion, stepped_reply}
use Rattle.machine_ports.proofs.Changes.{Steps, kept_is, none_of_packets, not_kept, quiet}
use Rattle.machine_ports.proofs.Lanes.{sealer, live_sender_is}
use Rattle.machine_ports.proofs.Sends.{if_steps, by_stream}
use Rattle.machine_ports.proofs.WaitingKnown.{waiting_known}

-- ---- the key of completions

abbrev draw_named : Option KeyName → Option ℕ
draw_named key = option_map (λ (k : KeyName). k.draw) key

draw_stands : (plan : Plan) (h : History) (port : PortName) (stream : ℕ)
    → sealing_draw_at Cpl (Some (stream_state_due plan h port stream))
    ≡ draw_named (live_key h port (lane_out port stream Cpl))
unfolding stream_state_due
draw_stands plan h port stream =
    ap (λ (o : Option (Bool × LiveKey)). option_map (λ (x : Bool × LiveKey). x.1.draw) o)
    (live_sender_is plan (sealed_packets plan h) (lane_out port stream Cpl)
    (port_keys h port (lane_out port stream Cpl)))
    ∙ by (live_key h port (lane_out port stream Cpl))
  where
    by : (o : Option KeyName) → option_map (λ (x : Bool × LiveKey). x.1.draw)
        (sealer plan (sealed_packets plan h) (lane_out port stream Cpl) o) ≡ draw_named o
    by None = refl
    by (Some key) = refl

draw_is : (plan : Plan) (st : LinkState) (h : History) (port : PortName) (stream : ℕ) → StreamsAndPacketsStand plan st h
    → (o : Option StreamState) → find plan st port stream ≡ o → has_stream plan port stream ≡ true
    → sealing_draw_at Cpl o ≡ draw_named (live_key h port (lane_out port stream Cpl))
draw_is plan st h port stream stands None found known =
    let other = not_kept plan st h port stream stands found in absurd cc
draw_is plan st h port stream stands (Some y) found known =
    let kept = kept_is plan st h port stream y stands found in
    ap (λ (z : StreamState). sealing_draw_at Cpl (Some z)) kept.same ∙ draw_stands plan h port stream

below_is : (key : Option KeyName) (floor : ℕ) → is_some_below (draw_named key) floor ≡ is_before key floor
below_is None floor = refl
below_is (Some key) floor = refl

named_is : (key : Option KeyName) → unwrap_or (draw_named key) 0 ≡ draw_of key
named_is None = refl
named_is (Some key) = refl

-- ---- a completion

-- what is due of it, once its bytes are read
abbrev completion_due : Plan → History → ReadCompletion → Result Tlp TlpFault → Verdict
completion_due plan h c (Err f) = v.Malformed (port_of plan c.end) (tlp_word f) (place_in f)
completion_due plan h c (Ok tlp) = seal_due plan h c.end tlp c.stream false c.trusted

abbrev key_of_end : History → PortName → ℕ → Option KeyName
key_of_end h end stream = live_key h end (lane_out end stream Cpl)

module _ (plan : Plan) (facts : KeyFacts plan) (st : LinkState) (h : History)
    (stands : StreamsAndPacketsStand plan st h) (e : Event) (on : is_of_packets e ≡ true) where
  quiet_reply : (w : Verdict) → is_quiet w ≡ true → w ≡ due plan h e → Steps plan h e (w, st)
  quiet_reply w none is = quiet plan facts st h e w stands none is (none_of_packets e on)

  read_steps : (c : ReadCompletion) → c.bytes ≡ sent_bytes plan h e → has_stream plan c.end c.stream ≡ true
      → (r : Result Tlp TlpFault) → read_of c.bytes ≡ r → completion_due plan h c r ≡ due plan h e
      → Steps plan h e (stepped_tlp plan st c r)
  read_steps c same known (Err f) reads is =
      quiet_reply (v.Malformed (port_of plan c.end) (tlp_word f) (place_in f)) refl is
  read_steps c same known (Ok tlp) reads is =
      by_stream plan facts st h stands e on false true c.end tlp c.stream c.trusted
      (ap read_of (sym same) ∙ reads) known is

  completes : (c : ReadCompletion) → c.bytes ≡ sent_bytes plan h e → has_stream plan c.end c.stream ≡ true
      → sent_from c.floor (key_of_end h c.end c.stream) (completion_due plan h c (read_of c.bytes)) ≡ due plan h e
      → Steps plan h e (stepped_reply plan st (Ok c))
  completes c same known is =
      let key = key_of_end h c.end c.stream in
      subst (λ (draw : Option ℕ). Steps plan h e (stepped_completion plan st c draw))
      (sym (draw_is plan st h c.end c.stream stands (find plan st c.end c.stream) refl known))
      (if_steps plan h e (is_some_below (draw_named key) c.floor) _ _
      (λ below. quiet_reply (v.Interface (iv.RefusedRefreshFirst (unwrap_or (draw_named key) 0) c.floor)) refl
      (ap (λ (n : ℕ). v.Interface (iv.RefusedRefreshFirst n c.floor)) (named_is key)
      ∙ (ap (λ (older : Bool). under older) (sym (sym (below_is key c.floor) ∙ below)) ∙ is)))
      (λ fresh. read_steps c same known (read_of c.bytes) refl
      (ap (λ (older : Bool). under older) (sym (sym (below_is key c.floor) ∙ fresh)) ∙ is)))
    where
      under : Bool → Verdict
      under older = if older then v.Interface (iv.RefusedRefreshFirst (draw_of (key_of_end h c.end c.stream)) c.floor)
          else completion_due plan h c (read_of c.bytes)

  -- the first of the reads that wait at a port
  first_steps : (port : PortName) (answer : WaitingRead → Verdict) (bytes : MemReadView → List ℕ)
      (rs : List WaitingRead)
      → ((r : WaitingRead) (more : List WaitingRead) → rs ≡ r ∷ more → answer r ≡ due plan h e
      → Steps plan h e (stepped_reply plan st
      (completion_at_side plan (policy_at plan h) port.side port.line (bytes r.read) r)))
      → first_answered answer port.line rs ≡ due plan h e
      → Steps plan h e (stepped_reply plan st (completion_first plan (policy_at plan h) bytes port rs))
  first_steps port answer bytes [] each is = quiet_reply (v.Access (av.Empty port.line)) refl is
  first_steps port answer bytes (r ∷ rs) each is = each r rs refl is

  port_steps : (port : PortName) (answer : WaitingRead → Verdict) (bytes : MemReadView → List ℕ)
      → (has_link plan port.line ≡ true → (r : WaitingRead) (rs : List WaitingRead)
      → waiting_reads plan h port ≡ r ∷ rs → answer r ≡ due plan h e
      → Steps plan h e (stepped_reply plan st
      (completion_at_side plan (policy_at plan h) port.side port.line (bytes r.read) r)))
      → read_due plan h port answer ≡ due plan h e
      → Steps plan h e (stepped_reply plan st
      (port_completion plan (policy_at plan h) bytes port (waiting_reads plan h port)))
  port_steps port answer bytes each is = by (has_link plan port.line) refl is
    where
      by : (b : Bool) → has_link plan port.line ≡ b
          → (if b then first_answered answer port.line (waiting_reads plan h port) else v.Nothing) ≡ due plan h e
          → Steps plan h e (stepped_reply plan st (if b
          then completion_first plan (policy_at plan h) bytes port (waiting_reads plan h port) else Err v.Nothing))
      by true here is = first_steps port answer bytes (waiting_reads plan h port) (each here) is
      by false none is = quiet_reply v.Nothing refl is

-- its completion is what is sealed
oldest_is : (plan : Plan) (h : History) (port : PortName) (r : WaitingRead) (rs : List WaitingRead)
    → waiting_reads plan h port ≡ r ∷ rs
    → oldest_completion plan (sealed_packets plan h) h port ≡ completion_at plan (sealed_packets plan h) h port r.read
oldest_is plan h port r rs waits =
    ap (λ (o : Option WaitingRead). option_map_or
    (λ (x : WaitingRead). completion_at plan (sealed_packets plan h) h port x.read) o [])
    (drop_first (reads_taken h port) (queued_reads plan h port) r rs waits)

-- ---- at a host's port

-- a host's port sets T as it is asked
host_trusts : (plan : Plan) (h : History) (link : ℕ) → has_link plan link ≡ true → (head : HeadView) (stream : ℕ)
    → t_sealed plan h (host_port link) head stream true ≡ true
unfolding t_sealed
host_trusts plan h link here head stream = grind arith

abbrev answer_event : ℕ → Event
answer_event link = Access (ae.Answer link)

module _ (plan : Plan) (facts : KeyFacts plan) (st : LinkState) (h : History)
    (stands : StreamsAndPacketsStand plan st h)
    (link : ℕ) (here : has_link plan link ≡ true) where
  abbrev bytes_at : List ℕ
  bytes_at = sent_bytes plan h (answer_event link)

  host_reply : (w : Verdict) → is_quiet w ≡ true → w ≡ due plan h (answer_event link)
      → Steps plan h (answer_event link) (w, st)
  host_reply w none is = quiet_reply plan facts st h stands (answer_event link) refl w none is

  bound_steps : (b : Binding) (o : Outgoing) → outgoing_completion plan h link ≡ o
      → is_stream b.stream (stream_taken o) ≡ true
      → sent_from b.floor (key_of_end h (host_port link) b.stream) (send_due plan h (host_port link) o false true)
      ≡ due plan h (answer_event link)
      → Steps plan h (answer_event link) (stepped_reply plan st (bound_completion (host_port link) bytes_at (Ok b)))
  bound_steps b (NoTlp f) comes takes is = absurd cc
  bound_steps b OnNone comes takes is = absurd cc
  bound_steps b (OnStream t s) comes takes is =
      let port = host_port link in
      let same : s ≡ b.stream = grind (arith, nat_tests) in
      let reads = (on_stream_reads (streams_of plan link) Host bytes_at t s comes).0 in
      let known = subst (λ (n : ℕ). has_stream plan port n ≡ true) same (stream_known plan port bytes_at t s comes) in
      let c : ReadCompletion = record
      { end = port; stream = b.stream; trusted = true; floor = b.floor; bytes = bytes_at } in
      completes plan facts st h stands (answer_event link) refl c refl known
      (ap (sent_from b.floor (key_of_end h port b.stream))
      (ap (completion_due plan h c) reads
      ∙ (λ i. seal_due plan h port t (sym same i) false (sym (host_trusts plan h link here (header t) s) i)))
      ∙ is)

  by_bound : (number draw : ℕ) (o : Option Binding)
      → completion_verdict plan h (host_port link) number draw o (outgoing_completion plan h link)
      ≡ due plan h (answer_event link)
      → Steps plan h (answer_event link)
      (stepped_reply plan st (completion_by plan (host_port link) number draw bytes_at o))
  by_bound number draw None is = host_reply (v.Access (av.Dropped number cause.NotRunning)) refl is
  by_bound number draw (Some b) is =
      by (binding_cause b (stream_taken (outgoing_completion plan h link)) draw) refl is
    where
      by : (o : Option BlockCause) → binding_cause b (stream_taken (outgoing_completion plan h link)) draw ≡ o
          → answer_judged plan h (host_port link) (outgoing_completion plan h link) (judged_by number b o)
          ≡ due plan h (answer_event link)
          → Steps plan h (answer_event link) (stepped_reply plan st
          (bound_completion (host_port link) bytes_at (judged_by number b o)))
      by (Some c) blocks is = host_reply (v.Access (av.Dropped number c)) refl is
      by None none is = bound_steps b (outgoing_completion plan h link) refl
          (binding_admits b (stream_taken (outgoing_completion plan h link)) draw none).stream is

  by_site : (draw : ℕ) (o : Option Site)
      → site_answer plan h (host_port link) draw o (outgoing_completion plan h link) ≡ due plan h (answer_event link)
      → Steps plan h (answer_event link)
      (stepped_reply plan st (site_completion plan (host_port link) draw bytes_at (granted_to h o) o))
  by_site draw None is = host_reply v.Nothing refl is
  by_site draw (Some x) is = by_bound x.number draw (granted_to h (Some x)) is

pub answers : (plan : Plan) → KeyFacts plan → (st : LinkState) (h : History) → StreamsAndPacketsStand plan st h
    → (link : ℕ) → let port = host_port link in
    Steps plan h (answer_event link) (stepped_reply plan st (port_completion plan (policy_at plan h)
    (completion_at plan (sealed_packets plan h) h port) port (waiting_reads plan h port)))
unfolding due bytes_by
answers plan facts st h stands link =
    let port = host_port link in
    port_steps plan facts st h stands (answer_event link) refl port _
    (completion_at plan (sealed_packets plan h) h port)
    (λ here r rs waits is. subst (λ (bytes : List ℕ). Steps plan h (answer_event link) (stepped_reply plan st
    (completion_at_side plan (policy_at plan h) Host link bytes r)))
    (oldest_is plan h port r rs waits)
    (by_site plan facts st h stands link here r.came.draw (site_of_requester plan link r.read.requester) is)) refl

-- ---- at a device's port

abbrev response_event : ℕ → Event
response_event link = Access (ae.Respond link)

module _ (plan : Plan) (facts : KeyFacts plan) (st : LinkState) (h : History)
    (stands : StreamsAndPacketsStand plan st h)
    (link : ℕ) (r : WaitingRead) (known : has_stream plan r.came.end r.came.stream ≡ true) where
  abbrev sent_at : List ℕ
  sent_at = sent_bytes plan h (response_event link)

  device_reply : (w : Verdict) → is_quiet w ≡ true → w ≡ due plan h (response_event link)
      → Steps plan h (response_event link) (w, st)
  device_reply w none is = quiet_reply plan facts st h stands (response_event link) refl w none is

  by_claim : (interface : ℕ) (o : Result Claim BlockCause)
      → response_judged plan h r.came interface (read_of sent_at) o ≡ due plan h (response_event link)
      → Steps plan h (response_event link) (stepped_reply plan st (claimed_completion r.came interface sent_at o))
  by_claim interface (Err c) is = device_reply (v.Access (av.Dropped interface c)) refl is
  by_claim interface (Ok claim) is =
      let c : ReadCompletion = record {
        end = r.came.end;
        stream = r.came.stream;
        trusted = r.came.trusted;
        floor = least_draw claim r.came;
        bytes = sent_at;
      } in
      completes plan facts st h stands (response_event link) refl c refl known
      (ap (sent_from c.floor (key_of_end h c.end c.stream)) (same c refl refl refl (read_of sent_at)) ∙ is)
    where
      same : (c : ReadCompletion) → c.end ≡ r.came.end → c.stream ≡ r.came.stream → c.trusted ≡ r.came.trusted
          → (x : Result Tlp TlpFault) → completion_due plan h c x ≡ response_sent plan h r.came x
      same c end stream trusted (Err f) = λ i. v.Malformed (port_of plan (end i)) (tlp_word f) (place_in f)
      same c end stream trusted (Ok tlp) = λ i. seal_due plan h (end i) tlp (stream i) false (trusted i)

  by_interface : (target : ReadTarget) (o : Option Site)
      → site_response plan h link r target o ≡ due plan h (response_event link)
      → Steps plan h (response_event link)
      (stepped_reply plan st (response_by (history_statuses plan h link) sent_at r target o))
  by_interface target None is = device_reply v.Nothing refl is
  by_interface target (Some x) is =
      by_claim x.number (judged_claim (claim_of (history_statuses plan h link) r.read.span) target r.came) is

  by_target : (o : Option ReadTarget) → target_response plan h link r o ≡ due plan h (response_event link)
      → Steps plan h (response_event link)
      (stepped_reply plan st (target_completion plan (history_statuses plan h link) link sent_at r o))
  by_target None is = device_reply v.Nothing refl is
  by_target (Some target) is = by_interface target (site_on plan link target.interface) is

pub responds : (plan : Plan) → KeyFacts plan → (st : LinkState) (h : History) → StreamsAndPacketsStand plan st h
    → (link : ℕ) → let port = device_port link in
    Steps plan h (response_event link) (stepped_reply plan st (port_completion plan (policy_at plan h)
    (completion_at plan (sealed_packets plan h) h port) port (waiting_reads plan h port)))
unfolding due bytes_by
responds plan facts st h stands link =
    let port = device_port link in
    port_steps plan facts st h stands (response_event link) refl port _
    (completion_at plan (sealed_packets plan h) h port)
    (λ here r rs waits is. subst (λ (bytes : List ℕ). Steps plan h (response_event link) (stepped_reply plan st
    (completion_at_side plan (policy_at plan h) Device link bytes r)))
    (oldest_is plan h port r rs waits)
    (by_target plan facts st h stands link r (waiting_known plan h stands.cause port r rs waits) r.target is)) refl
