-- What a response is: the oldest read that waits at the device is dropped or refused until a refresh, or its completion
-- is sent where it came.
use Rattle.std.proofs.Common.{◌≡◌, ℕ, ◌+◌, ◌-◌, ◌∷◌, Bool, true, false, List, []}
use Rattle.std.proofs.Common.{Option, Some, None, Result, Ok, Err, slice_get, length, refl, ap, sym, subst, ◌∙◌, arith}
use Rattle.std.specs.Prelude.{◌&&◌, if◌then◌else◌, nat_lt}
use Rattle.std.specs.List.{AllByRecursion}
use Rattle.std.proofs.lemmas.Bool.{true≢false}
use Rattle.ide_types.specs.Ends.{far_hop_port, near_hop_port, peer_port}
use Rattle.ide_types.specs.Fits.{FitsPlan}
use Rattle.ide_types.specs.Lines.{is_hosted}
use Rattle.ide_types.specs.Ports.{device_port}
use Rattle.ide_types.specs.declared.port.Side.{Side}
use Rattle.ide_types.specs.declared.port.Side.TheVariants.{Host, Device}
use Rattle.ide_types.specs.declared.sub.SubKind.TheVariants.{Cpl}
use Rattle.ide_types.specs.declared.fault_word.FaultWord.{FaultWord}
use Rattle.tlp_layout.specs.Class.{class_of}
use Rattle.tlp_layout.specs.declared.fault.TlpFault.{TlpFault}
use Rattle.trusted_memory.specs.Completions.{completion}
use Rattle.guarded_memory.specs.Claims.{claim_of}
use Rattle.spec_keys.specs.Places.{is_host}
use Rattle.spec_interfaces.specs.{byte_shown}
use Rattle.spec_stream.specs.Sending.{Lanes, Sending, refusals}
use Rattle.spec_links.specs.Terms.{Plan, PortName, Access, SealedPacket, Verdict, History, Tlp, header, read_of}
use Rattle.spec_links.specs.Terms.{Claim, ReadArrival, ReadTarget, Site, WaitingRead, claimed_byte, history_statuses}
use Rattle.spec_links.specs.Terms.{judged_claim, least_draw, site_on}
use Rattle.spec_links.specs.Cause.{CauseLaw}
use Rattle.spec_links.specs.Plan.{has_link, lane_out}
unfoldable use Rattle.spec_links.specs.Ports.{port_of}
use Rattle.spec_links.specs.Ports.{at_switch}
use Rattle.spec_links.specs.Guarded.{link_happenings}
use Rattle.spec_links.specs.History.{live_key, sealed_packets, sent_bytes}
use Rattle.spec_links.specs.Memory.{waiting_reads}
use Rattle.spec_links.specs.Sent.{completer_on, reads_taken}
use Rattle.spec_links.specs.Due.{draw_of, first_answered, is_before, lanes_at, respond_due, response_judged, response_sent}
use Rattle.spec_links.specs.Due.{site_response, target_response, verdict_of_send}
use Rattle.law_hops.proofs.Claimed.{was_claimed}
use Rattle.law_hops.proofs.Queued.{CameAt, came_at, queued_at}
use Rattle.law_memory.proofs.Packets.{IsOf, first_is, map_all}
use Rattle.law_memory.proofs.Responses.{judged_means, responded, response_packets, response_sending}
use Rattle.law_text.proofs.ResponsesFit.{response_reads}
use Rattle.script_events.specs.declared.event.AccessEvent.TheVariants as ae
use Rattle.event_verdicts.specs.declared.access.AccessVerdict.TheVariants as av
use Rattle.event_verdicts.specs.declared.verdict.BlockCause.{BlockCause}
use Rattle.ide_types.specs.declared.verdict.InterfaceVerdict.TheVariants as iv
use Rattle.event_verdicts.specs.declared.verdict.Verdict.TheVariants as v
use Rattle.law_verdicts.specs.Verdicts.{is_at_host}
use Rattle.law_sending.specs.Choice.{is_plain_verdict}
use Rattle.law_sending.specs.Sends.{IsAnsweredAsSend, IsOldestAt, IsRespondedOn, is_dropped, is_refresh_first}
use Rattle.law_sending.specs.Trust.{HasItsT, HasReadsT}
use Rattle.law_sending.proofs.Oldest.{answers_oldest, empty_exactly, is_empty}
use Rattle.law_sending.proofs.Refusals.{answers_send}

-- ---- what a test says of each

-- it is false of each verdict that a response comes to with a read
record IsOff (test : Verdict → Bool) : Type 0 where
  none : test v.Nothing ≡ false
  dropped : (i : ℕ) (c : BlockCause) → test (v.Access (av.Dropped i c)) ≡ false
  early : (draw floor : ℕ) → test (v.Interface (iv.RefusedRefreshFirst draw floor)) ≡ false
  malformed : (port : PortName) (word : FaultWord) (place : ℕ) → test (v.Malformed port word place) ≡ false
  sent : (x : Lanes) (s : Sending) (number : ℕ) → test (verdict_of_send x s number) ≡ false

module _ (test : Verdict → Bool) (off : IsOff test) (plan : Plan) (h : History) where
  sent_off : (came : ReadArrival) (r : Result Tlp TlpFault) → test (response_sent plan h came r) ≡ false
  sent_off came (Err f) = off.malformed _ _ _
  sent_off came (Ok t) = off.sent (lanes_at plan h came.end came.stream) (response_sending came t)
      (length (sealed_packets plan h) + 1)

  judged_off : (came : ReadArrival) (i : ℕ) (r : Result Tlp TlpFault) (o : Result Claim BlockCause)
      → test (response_judged plan h came i r o) ≡ false
  judged_off came i r (Err c) = off.dropped i c
  judged_off came i r (Ok c) =
      by (is_before (live_key h came.end (lane_out came.end came.stream Cpl)) (least_draw c came))
    where
      by : (early : Bool) → test (if early then v.Interface (iv.RefusedRefreshFirst
          (draw_of (live_key h came.end (lane_out came.end came.stream Cpl))) (least_draw c came))
          else response_sent plan h came r) ≡ false
      by true = off.early _ _
      by false = sent_off came r

  site_off : (link : ℕ) (r : WaitingRead) (target : ReadTarget) (o : Option Site)
      → test (site_response plan h link r target o) ≡ false
  site_off link r target None = off.none
  site_off link r target (Some x) = judged_off r.came x.number _ _

  target_off : (link : ℕ) (r : WaitingRead) (o : Option ReadTarget) → test (target_response plan h link r o) ≡ false
  target_off link r None = off.none
  target_off link r (Some target) = site_off link r target (site_on plan link target.interface)

full : IsOff is_empty
full = record {
  none = refl;
  dropped = λ i c. refl;
  early = λ draw floor. refl;
  malformed = λ port word place. refl;
  sent = λ x s number. first_is (λ (w : Verdict). is_empty w ≡ false) (refusals x s.class) _
      (refl, (refl, (refl, (refl, (refl, (refl, (refl, (refl, tt)))))))) refl;
}

hidden : IsOff is_plain_verdict
hidden = record {
  none = refl;
  dropped = λ i c. refl;
  early = λ draw floor. refl;
  malformed = λ port word place. refl;
  sent = λ x s number. first_is (λ (w : Verdict). is_plain_verdict w ≡ false) (refusals x s.class) _
      (refl, (refl, (refl, (refl, (refl, (refl, (refl, (refl, tt)))))))) refl;
}

-- it never goes out in clear
pub response_hidden : (plan : Plan) (h : History) (link : ℕ) (w : Verdict) → w ≡ respond_due plan h link
    → is_plain_verdict w ≡ false
response_hidden plan h link w is = ap is_plain_verdict is ∙ by (has_link plan link)
    (waiting_reads plan h (device_port link))
  where
    by : (b : Bool) (rs : List WaitingRead) → is_plain_verdict (if b then first_answered
        (λ (r : WaitingRead). target_response plan h link r r.target) link rs else v.Nothing) ≡ false
    by false rs = refl
    by true [] = refl
    by true (r ∷ rs) = target_off is_plain_verdict hidden plan h link r r.target

-- ---- when it is sealed

module _ (plan : Plan) (fits : FitsPlan plan) (h : History) (cause : CauseLaw plan h) (link : ℕ) (w : Verdict)
    (kept : is_dropped w ≡ false) (late : is_refresh_first w ≡ false) (r : WaitingRead)
    (place : IsOldestAt plan h (device_port link) r) where
  abbrev bytes : List ℕ
  bytes = sent_bytes plan h (Access (ae.Respond link))

  class_is : (completer : ℕ) (byte : ℕ → ℕ) → class_of (header (completion completer byte r.read)) ≡ Cpl
  class_is completer byte = refl

  sent_then : (c : Claim) → claim_of (history_statuses plan h link) r.read.span ≡ Some c
      → w ≡ response_sent plan h r.came (read_of bytes)
      → IsAnsweredAsSend (lanes_at plan h r.came.end r.came.stream) Cpl false w
  sent_then c claimed is =
      let t = completion (completer_on plan link c.interface)
      (claimed_byte (byte_shown (link_happenings plan h link)) c) r.read in
      answers_send (lanes_at plan h r.came.end r.came.stream) (response_sending r.came t)
      (length (sealed_packets plan h) + 1) w
      (is ∙ ap (response_sent plan h r.came) (response_reads plan fits h cause link r place c claimed))

  by_claim : (i : ℕ) (target : ReadTarget) (o : Result Claim BlockCause)
      → judged_claim (claim_of (history_statuses plan h link) r.read.span) target r.came ≡ o
      → w ≡ response_judged plan h r.came i (read_of bytes) o
      → IsAnsweredAsSend (lanes_at plan h r.came.end r.came.stream) Cpl false w
  by_claim i target (Err c) judges is = absurd (true≢false (sym (ap is_dropped is) ∙ kept))
  by_claim i target (Ok c) judges is =
      let judged = judged_means (claim_of (history_statuses plan h link) r.read.span) target r.came c judges in
      in_time (is_before (live_key h r.came.end (lane_out r.came.end r.came.stream Cpl)) (least_draw c r.came)) is
      (sent_then c judged.claimed)
    where
      in_time : {P : Type 0} (early : Bool) → w ≡ (if early then v.Interface (iv.RefusedRefreshFirst
          (draw_of (live_key h r.came.end (lane_out r.came.end r.came.stream Cpl))) (least_draw c r.came))
          else response_sent plan h r.came (read_of bytes))
          → (w ≡ response_sent plan h r.came (read_of bytes) → P) → P
      in_time true is next = absurd (true≢false (sym (ap is_refresh_first is) ∙ late))
      in_time false is next = next is

  answered : w ≡ target_response plan h link r r.target
      → IsAnsweredAsSend (lanes_at plan h r.came.end r.came.stream) Cpl false w
  answered is =
      let q = queued_at plan h cause (device_port link) (reads_taken h (device_port link)) r place in
      let was = was_claimed plan h link r q in
      by_claim was.interface.number _ _ refl
      (is ∙ (ap (target_response plan h link r) was.target ∙ ap (site_response plan h link r _) was.there))

pub responded_on : (plan : Plan) → FitsPlan plan → (h : History) → CauseLaw plan h → (link : ℕ) (w : Verdict)
    → w ≡ respond_due plan h link → has_link plan link ≡ true → IsRespondedOn plan h link w
responded_on plan fits h cause link w is known = record {
  empty = empty_exactly plan h (device_port link) (λ (r : WaitingRead). target_response plan h link r r.target) w is
      known cause (λ r place. target_off is_empty full plan h link r r.target);
  oldest = λ r place kept late. answered plan fits h cause link w kept late r place
      (answers_oldest plan h (device_port link) (λ (q : WaitingRead). target_response plan h link q q.target) w is
      known r place);
}

-- ---- where it is sealed, and with which T

-- an end of a device's port is none of a host
device_end : (plan : Plan) → FitsPlan plan → (side : Side) (line link : ℕ)
    → port_of plan (record { side = side; line = line }) ≡ device_port link → (is_host side && is_hosted line) ≡ false
unfolding port_of
device_end plan fits Device line link at = refl
device_end plan fits Host line link at = by (nat_lt line 16) refl
  where
    clash : (p : PortName) → p.side ≡ Host → p ≡ device_port link → ⊥
    clash p host device = let never : Host ≡ Device = sym host ∙ ap (λ (q : PortName). q.side) device in absurd cc

    by : (b : Bool) → nat_lt line 16 ≡ b → b ≡ false
    by false low = refl
    by true low = absurd (clash (port_of plan (record { side = Host; line = line })) host at)
      where
        host : (port_of plan (record { side = Host; line = line })).side ≡ Host
        host = beside (nat_lt line (length plan.links)) (nat_lt line 8)
          where
            beside : (has near : Bool) → (if has then record { side = Host; line = line }
                else if near then record { side = Host; line = line }
                else if nat_lt line 16 then near_hop_port Host (line - 8)
                else if nat_lt line 24 then far_hop_port Host (line - 16)
                else peer_port (slice_get plan.peers (line - 24)) (record { side = Host; line = line })).side ≡ Host
            beside true near = refl
            beside false true = refl
            beside false false = rw low refl

response_t : (plan : Plan) → FitsPlan plan → (h : History) (link : ℕ) (r : WaitingRead) (t : Tlp)
    → CameAt plan (device_port link) r → IsOldestAt plan h (device_port link) r → (d : SealedPacket)
    → IsOf (response_sending r.came t) d → HasItsT plan h (Access (ae.Respond link)) d
response_t plan fits h link r t came place d of = record {
  sync = λ is. unset d.sync d.t r.came.trusted is of.t_is;
  host = λ carries at. absurd (true≢false (sym at ∙ (ap is_at_host of.port_is
      ∙ device_end plan fits r.came.end.side r.came.end.line link came.at_port)));
  device = λ sent. absurd (true≢false sent);
  peer = λ sent. absurd (true≢false sent);
  hop = λ sent. absurd (true≢false sent);
  switch = λ carries at. absurd (true≢false (sym at ∙ (ap (at_switch plan) of.port_is ∙ came.apart)));
  response = λ other same carries.
      let link_is : link ≡ other = same_link link other same in
      subst (λ (l : ℕ). HasReadsT plan h l d) link_is
      (record { read = r; oldest = place; t_is = carried d.sync d.t r.came.trusted carries of.t_is });
}
  where
    carried : (sync t u : Bool) → sync ≡ false → t ≡ (if sync then false else u) → t ≡ u
    carried sync t u carries is = grind arith

    unset : (sync t u : Bool) → sync ≡ true → t ≡ (if sync then false else u) → t ≡ false
    unset sync t u is_sync is = grind arith

    same_link : (a b : ℕ) → Access (ae.Respond a) ≡ Access (ae.Respond b) → a ≡ b
    same_link a b is = cc (is)

pub responses_have : (plan : Plan) → FitsPlan plan → (h : History) (link : ℕ) (ds : List SealedPacket)
    → CauseLaw plan ((Access (ae.Respond link), v.Sealed ds) ∷ h)
    → AllByRecursion (HasItsT plan h (Access (ae.Respond link))) ds
responses_have plan fits h link ds cause =
    let is = responded plan h link ds cause.0 in
    let r = is.read in
    let q = queued_at plan h cause.1 (device_port link) (reads_taken h (device_port link)) r is.oldest in
    map_all {P = IsOf (response_sending r.came is.tlp)} {Q = HasItsT plan h (Access (ae.Respond link))}
    (response_t plan fits h link r is.tlp (came_at plan h (device_port link) r q) is.oldest) ds
    (response_packets plan h link ds is)
