-- The verdicts of responses fit: a read that waits at a device came on a stream of its line, under a draw of the past,
-- and its completion reads as a TLP.
use Rattle.std.proofs.Common.{◌≡◌, ℕ, ◌+◌, ◌<◌, ◌≤◌, ◌^◌, Bool, true, false, ◌∷◌, length, Option, Some}
use Rattle.std.proofs.Common.{None, Result, Ok, Err, refl, sym, ap, subst, ◌∙◌, arith, if◌then◌else◌, slice_get}
use Rattle.std.proofs.Common.{length-append}
use Rattle.std.specs.Prelude.{nat_lt, unwrap_or}
use Rattle.std.specs.Option.{option_map_or}
use Rattle.std.proofs.lemmas.Bool.Decides.{nat_tests}
use Rattle.ide_types.specs.Ports.{device_port}
use Rattle.ide_types.specs.declared.port.PortName.{PortName}
use Rattle.ide_types.specs.declared.sub.SubKind.TheVariants.{Cpl}
use Rattle.ide_types.specs.declared.plan.Plan.{Plan}
use Rattle.ide_types.specs.Fits.{FitsPlan}
use Rattle.tlp_layout.specs.Class.{class_of}
use Rattle.tlp_layout.specs.Head.{FitsFields, FitsHead, FitsLead}
use Rattle.tlp_layout.specs.Reading.{read_of}
use Rattle.tlp_layout.specs.Tlp.{header}
use Rattle.tlp_layout.specs.declared.fault.TlpFault.{TlpFault}
use Rattle.tlp_layout.specs.declared.head.Fields.{Fields}
use Rattle.tlp_layout.specs.declared.head.Fields.TheVariants.{Memory, Config, Message, Completion}
use Rattle.tlp_layout.specs.declared.head.HeadView.{HeadView}
use Rattle.tlp_layout.specs.declared.head.Lead.{Lead}
use Rattle.tlp_layout.specs.declared.tlp.Tlp.{Tlp}
use Rattle.tlp_layout.proofs.Readings.{read_head_spells}
use Rattle.trusted_memory.specs.Completions.{completion}
use Rattle.trusted_memory.specs.Requests.{FitsRead, memory_read, read_with}
use Rattle.trusted_memory.specs.Spans.{double_words, span_of_fields}
use Rattle.trusted_memory.specs.declared.queue.ReadArrival.{ReadArrival}
use Rattle.trusted_memory.specs.declared.queue.ReadTarget.{ReadTarget}
use Rattle.trusted_memory.specs.declared.queue.WaitingRead.{WaitingRead}
use Rattle.trusted_memory.specs.declared.read.MemReadView.{MemReadView}
use Rattle.trusted_memory.proofs.Spelled.{read_bytes_small, reads_if_small}
use Rattle.guarded_memory.specs.declared.claims.Claim.{Claim}
use Rattle.guarded_memory.specs.Causes.{access_cause, floor_cause}
use Rattle.guarded_memory.specs.Claims.{claim_of}
use Rattle.guarded_memory.specs.DeviceReads.{claim_unless, claimed_byte, claimed_target, is_same_target, judged_claim}
use Rattle.guarded_memory.specs.DeviceReads.{least_draw}
use Rattle.guarded_memory.specs.Statuses.{is_in_run}
use Rattle.interface_state.specs.Bindings.{floor_on}
use Rattle.spec_keys.specs.History.{History}
use Rattle.spec_interfaces.specs.Floors.{history_statuses, site_on}
use Rattle.spec_interfaces.specs.Sites.{Site}
use Rattle.spec_interfaces.specs.{byte_shown}
use Rattle.spec_stream.specs.Sending.{Sending}
use Rattle.spec_links.specs.Cause.{CauseLaw}
use Rattle.spec_links.specs.Due.{draw_of, is_before, respond_due, response_judged, response_sent, site_response}
use Rattle.spec_links.specs.Due.{target_response}
use Rattle.spec_links.specs.Guarded.{link_happenings}
use Rattle.spec_links.specs.History.{live_key, sealed_packets, sent_bytes}
use Rattle.spec_links.specs.Memory.{queued_reads}
use Rattle.spec_links.specs.Plan.{lane_out}
use Rattle.spec_links.specs.Sent.{claim_completion, completer_on, reads_taken}
use Rattle.spec_links.proofs.Causes.{accepted_by}
use Rattle.law_sealing.proofs.Few.{sealed_few}
use Rattle.law_reads.proofs.Oldest.{response_bytes_are}
use Rattle.law_hops.proofs.Queued.{QueuedAt, came_at, queued_at}
use Rattle.law_text.proofs.AnswersFit.{draw_is, if_fits, read_fits}
use Rattle.law_text.proofs.Draws.{on_below, on_is}
use Rattle.law_text.proofs.MmioFits.{shown_small}
use Rattle.law_text.proofs.OperationsFit.{stream_fits}
use Rattle.law_text.proofs.SendsFit.{live_few, sent_fits}
use Rattle.law_text.proofs.SitesFit.{SiteFits, site_on_fits}
use Rattle.event_verdicts.specs.Apart.{Fits}
use Rattle.event_verdicts.specs.declared.verdict.BlockCause.{BlockCause}
use Rattle.event_verdicts.specs.declared.verdict.BlockCause.TheVariants as cause
use Rattle.event_verdicts.specs.declared.verdict.Verdict.TheVariants as v
use Rattle.ide_types.specs.declared.verdict.InterfaceVerdict.TheVariants as iv
use Rattle.script_events.specs.declared.event.Event.TheVariants.{Access}
use Rattle.script_events.specs.declared.event.AccessEvent.TheVariants as ae

-- ---- the completion reads as a TLP

words_fit : (n : ℕ) → n < 1024 → (1 ≤ double_words n) × (double_words n ≤ 1024)
words_fit n less = (grind (arith, nat_tests, less), grind (arith, nat_tests, less))

pub read_in_range : (head : HeadView) (r : MemReadView) → FitsHead head → memory_read head ≡ Some r → FitsRead r
read_in_range head r fits is = by head.has_payload head.lead head.fields fits.lead fits.fields is
  where
    by : (has : Bool) (lead : Lead) (fields : Fields) → FitsLead lead → FitsFields lead fields
        → (if has then None else read_with lead fields (span_of_fields lead.length fields)) ≡ Some r → FitsRead r
    by true lead fields one two is = absurd cc
    by false lead (Memory f) one two is =
        let words = words_fit lead.length one.length in
        let same : record {
          span = record {
            address = f.address;
            first_be = f.first_be;
            last_be = f.last_be;
            length = double_words lead.length;
          };
          requester = f.requester;
          tag = f.tag;
          tc = lead.tc;
          attr = lead.attr;
        } ≡ r = cc (is) in
        subst FitsRead same (record {
          least = words.0;
          most = words.1;
          requester = two.0;
          tag = two.1;
          tc = one.tc;
          attr = one.attr;
        })
    by false lead (Config f) one two is = absurd cc
    by false lead (Message f) one two is = absurd cc
    by false lead (Completion f) one two is = absurd cc

pub queued_in_range : (plan : Plan) (h : History) (port : PortName) (r : WaitingRead) → QueuedAt plan h port r
    → FitsRead r.read
queued_in_range plan h port r q =
    read_in_range q.at.head r.read ((read_head_spells q.at.head q.at.packet.head).1 q.at.reads).fits q.at.is_read

completer_fits : (o : Option Site) → ((x : Site) → o ≡ Some x → SiteFits x)
    → option_map_or (λ (x : Site). x.plan.requester) o 0 < 2 ^ 16
completer_fits None each = omega arith
completer_fits (Some x) each = (each x refl).requester

-- of a read that is claimed so
pub response_reads : (plan : Plan) → FitsPlan plan → (h : History) → CauseLaw plan h → (link : ℕ) (r : WaitingRead)
    → slice_get (queued_reads plan h (device_port link)) (reads_taken h (device_port link)) ≡ Some r → (c : Claim)
    → claim_of (history_statuses plan h link) r.read.span ≡ Some c
    → read_of (sent_bytes plan h (Access (ae.Respond link)))
    ≡ Ok (completion (completer_on plan link c.interface)
    (claimed_byte (byte_shown (link_happenings plan h link)) c) r.read)
response_reads plan fits h cause link r oldest c claimed =
    let port = device_port link in
    let happened = link_happenings plan h link in
    let byte = claimed_byte (byte_shown happened) c in
    let q = queued_at plan h cause port (reads_taken h port) r oldest in
    ap read_of (response_bytes_are plan h link r cause oldest
    ∙ ap (claim_completion plan link happened r.read) claimed)
    ∙ reads_if_small (completer_on plan link c.interface) byte r.read
    (completer_fits (site_on plan link c.interface) (site_on_fits plan fits link c.interface))
    (queued_in_range plan h port r q)
    (read_bytes_small byte r.read (λ a. shown_small plan h cause link c.interface c.bar _))

-- ---- a read that is not dropped

record IsJudged (o : Option Claim) (came : ReadArrival) (c : Claim) : Type 0 where
  claimed : o ≡ Some c
  free : access_cause c.status c.range came.trusted came.stream came.draw ≡ None

judged_means : (o : Option Claim) (target : ReadTarget) (came : ReadArrival) (c : Claim)
    → judged_claim o target came ≡ Ok c → IsJudged o came c
judged_means None target came c is = absurd cc
judged_means (Some d) target came c is =
    by (is_same_target (claimed_target d) target)
    (access_cause d.status d.range came.trusted came.stream came.draw) refl is
  where
    by : (b : Bool) (e : Option BlockCause)
        → access_cause d.status d.range came.trusted came.stream came.draw ≡ e
        → (if b then claim_unless e d else Err cause.Moved) ≡ Ok c → IsJudged (Some d) came c
    by false e free is = absurd cc
    by true (Some e) free is = absurd cc
    by true None free is =
        let same : d ≡ c = cc (is) in
        subst (IsJudged (Some d) came) same (record { claimed = refl; free = free })

-- ---- draws

-- that under which a read came
came_few : (plan : Plan) (h : History) (port : PortName) (r : WaitingRead) → QueuedAt plan h port r
    → r.came.draw ≤ length h
came_few plan h port r q =
    let by = accepted_by plan q.older q.event q.end q.unit q.effects q.cause.0 in
    let below = on_below q.older q.end _ by.packet.prefix.k q.unit.draw (on_is _ q.unit.draw by.passed.live) in
    let longer = length-append q.since ((q.event, v.Accepted q.end q.unit q.effects) ∷ q.older) in
    omega (arith, below, longer, ap length q.came, ap (λ (c : ReadArrival). c.draw) q.at.came)

-- a floor that admits a draw is no more
stale_below : (floor draw : ℕ) (b : Bool) → nat_lt draw floor ≡ b → (if b then Some cause.Stale else None) ≡ None
    → floor ≤ draw
stale_below floor draw true less free = absurd cc
stale_below floor draw false less free = grind (arith, nat_tests, less)

floor_below : (run : Bool) (o : Option ℕ) (draw : ℕ)
    → (if run then floor_cause o draw else Some cause.NotRunning) ≡ None → unwrap_or o 0 ≤ draw
floor_below true None draw free = omega arith
floor_below true (Some floor) draw free = stale_below floor draw (nat_lt draw floor) refl free
floor_below false o draw free = absurd cc

bound_below : (c : Claim) (came : ReadArrival)
    → access_cause c.status c.range came.trusted came.stream came.draw ≡ None → least_draw c came ≤ came.draw
bound_below c came free = by came.trusted free
  where
    by : (t : Bool) → access_cause c.status c.range t came.stream came.draw ≡ None
        → (if t then unwrap_or (floor_on came.stream c.status.bound) 0 else 0) ≤ came.draw
    by false free = omega arith
    by true free = floor_below (is_in_run c.status.state) (floor_on came.stream c.status.bound) came.draw free

-- ---- the verdict

module _ (plan : Plan) (fits : FitsPlan plan) (h : History) (law : CauseLaw plan h) (few : length h < 2 ^ 28)
    (link : ℕ) (r : WaitingRead)
    (oldest : slice_get (queued_reads plan h (device_port link)) (reads_taken h (device_port link)) ≡ Some r) where
  q : QueuedAt plan h (device_port link) r
  q = queued_at plan h law (device_port link) (reads_taken h (device_port link)) r oldest

  abbrev tlp : Result Tlp TlpFault
  tlp = read_of (sent_bytes plan h (Access (ae.Respond link)))

  sealed_fits : (t : Tlp) → Fits plan (response_sent plan h r.came (Ok t))
  sealed_fits t =
      let s : Sending = record {
        port = r.came.end;
        stream = r.came.stream;
        class = class_of (header t);
        more = false;
        trusted = r.came.trusted;
      } in
      sent_fits plan fits h law few s
      (stream_fits plan fits r.came.end.line r.came.stream (came_at plan h (device_port link) r q).known)
      (length (sealed_packets plan h) + 1) (omega (arith, few, sealed_few plan h law))

  judged_fits : (x : Site) → SiteFits x → (target : ReadTarget) (o : Result Claim BlockCause)
      → judged_claim (claim_of (history_statuses plan h link) r.read.span) target r.came ≡ o
      → Fits plan (response_judged plan h r.came x.number tlp o)
  judged_fits x site target (Err c) judges = site.number
  judged_fits x site target (Ok c) judges =
      let judged = judged_means (claim_of (history_statuses plan h link) r.read.span) target r.came c judges in
      let lane = lane_out r.came.end r.came.stream Cpl in
      let key = live_key h r.came.end lane in
      let floor = least_draw c r.came in
      let drawn = live_few h r.came.end lane key refl in
      let below = bound_below c r.came judged.free in
      let came = came_few plan h (device_port link) r q in
      let t = completion (completer_on plan link c.interface)
      (claimed_byte (byte_shown (link_happenings plan h link)) c) r.read in
      if_fits plan (is_before key floor) (v.Interface (iv.RefusedRefreshFirst (draw_of key) floor)) _
      (omega (arith, few, drawn, draw_is key), omega (arith, few, below, came))
      (λ late. subst (λ (o : Result Tlp TlpFault). Fits plan (response_sent plan h r.came o))
      (sym (response_reads plan fits h law link r oldest c judged.claimed)) (sealed_fits t))

  site_fits : (target : ReadTarget) (o : Option Site) → site_on plan link target.interface ≡ o
      → Fits plan (site_response plan h link r target o)
  site_fits target None there = tt
  site_fits target (Some x) there =
      judged_fits x (site_on_fits plan fits link target.interface x there) target _ refl

  target_fits : (o : Option ReadTarget) → Fits plan (target_response plan h link r o)
  target_fits None = tt
  target_fits (Some target) = site_fits target (site_on plan link target.interface) refl

pub respond_due_fits : (plan : Plan) → FitsPlan plan → (h : History) → CauseLaw plan h → length h < 2 ^ 28 → (link : ℕ)
    → Fits plan (respond_due plan h link)
respond_due_fits plan fits h law few link = read_fits plan fits h (device_port link) _
    (λ r oldest. target_fits plan fits h law few link r oldest r.target)
