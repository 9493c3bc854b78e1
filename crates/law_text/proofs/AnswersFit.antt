-- The verdicts of answers fit: an interface has one of few numbers, and draws are no more than events.
use Rattle.std.proofs.Common.{◌≡◌, ℕ, ◌<◌, ◌^◌, Bool, true, false, List, [], ◌∷◌, length, Option, Some, None, refl}
use Rattle.std.proofs.Common.{arith, if◌then◌else◌, ap, sym}
use Rattle.std.proofs.lemmas.Option.{same_Some}
use Rattle.std.specs.Prelude.{◌==◌, ◌&&◌, slice_get, unwrap_or}
use Rattle.ide_types.specs.declared.binding.Binding.{Binding}
use Rattle.ide_types.specs.Ports.{host_port}
use Rattle.ide_types.specs.declared.port.PortName.{PortName}
use Rattle.ide_types.specs.declared.sub.SubKind.TheVariants.{Cpl}
use Rattle.ide_types.specs.declared.plan.Plan.{Plan}
use Rattle.ide_types.specs.Fits.{FitsPlan}
use Rattle.tlp_layout.specs.Outgoing.{Outgoing, NoTlp, OnNone, OnStream, outgoing_of, stream_taken}
use Rattle.spec_keys.specs.History.{History}
use Rattle.spec_interfaces.specs.Sites.{Site, site_of_requester}
use Rattle.spec_interfaces.specs.Views.{bound_if, granted_to, view_at, floor_at}
use Rattle.ide_types.specs.declared.view.View.{View}
use Rattle.ide_types.specs.declared.view.View.TheVariants as view
use Rattle.ide_types.specs.declared.verdict.InterfaceVerdict.TheVariants as iv
use Rattle.script_events.specs.declared.event.AccessEvent.TheVariants as ae
use Rattle.script_events.specs.declared.event.Event.TheVariants.{Access}
use Rattle.event_verdicts.specs.declared.verdict.Verdict.{Verdict}
use Rattle.event_verdicts.specs.declared.verdict.Verdict.TheVariants as v
use Rattle.event_verdicts.specs.declared.verdict.BlockCause.{BlockCause}
use Rattle.event_verdicts.specs.Causes.{is_stream, binding_cause}
use Rattle.event_verdicts.proofs.Admits.{binding_admits}
use Rattle.event_verdicts.specs.Apart.{Fits}
use Rattle.trusted_memory.specs.declared.queue.WaitingRead.{WaitingRead}
use Rattle.spec_links.specs.Plan.{has_link, lane_out, streams_of}
use Rattle.spec_links.specs.History.{KeyName, live_key, sent_bytes}
use Rattle.spec_links.specs.Memory.{waiting_reads, queued_reads}
use Rattle.spec_links.specs.Sent.{reads_taken}
use Rattle.spec_links.proofs.HopFirst.{drop_first}
use Rattle.spec_links.specs.Cause.{CauseLaw}
use Rattle.spec_links.specs.Due.{send_due, is_before, draw_of, answer_judged, judged_by, sent_from, first_answered}
use Rattle.spec_links.specs.Due.{read_due, site_answer, completion_verdict, outgoing_completion, answer_due, no_key}
use Rattle.law_text.proofs.SendsFit.{on_stream_fits, live_few, link_fits}
use Rattle.law_text.proofs.SitesFit.{SiteFits, found_site_fits}
use Rattle.law_text.proofs.InterfacesFit.{floor_fits}
use Rattle.law_text.proofs.MemoryFits.{memory_fits}

pub draw_is : (o : Option KeyName) → draw_of o ≡ (unwrap_or o no_key).draw
draw_is None = refl
draw_is (Some key) = refl

pub if_fits : (plan : Plan) (b : Bool) (x y : Verdict) → Fits plan x → (b ≡ false → Fits plan y)
    → Fits plan (if b then x else y)
if_fits plan true x y one two = one
if_fits plan false x y one two = two refl

-- a completion that takes a stream is sent on it
sent_fits : (plan : Plan) → FitsPlan plan → (h : History) → CauseLaw plan h → length h < 2 ^ 28
    → (port : PortName) (bytes : List ℕ) (stream : ℕ) (out : Outgoing)
    → outgoing_of (streams_of plan port.line) port.side bytes ≡ out → is_stream stream (stream_taken out) ≡ true
    → Fits plan (send_due plan h port out false true)
sent_fits plan fits h cause few port bytes stream (NoTlp f) comes is = absurd cc
sent_fits plan fits h cause few port bytes stream OnNone comes is = absurd cc
sent_fits plan fits h cause few port bytes stream (OnStream t s) comes is =
    on_stream_fits plan fits h cause few port bytes false true t s comes

bound_floor : (o : View) (stream floor : ℕ) (b : Binding) → bound_if o stream floor ≡ Some b → b.floor ≡ floor
bound_floor view.Running stream floor b is = ap (λ (c : Binding). c.floor) (sym (same_Some _ b is))
bound_floor o stream floor b is = grind arith

-- a read is dropped by a cause, or answered
judged_fits : (plan : Plan) (h : History) (port : PortName) (x : Site) → SiteFits x → (b : Binding) (out : Outgoing)
    (c : Option BlockCause)
    → (c ≡ None → Fits plan (sent_from b.floor (live_key h port (lane_out port b.stream Cpl))
    (send_due plan h port out false true)))
    → Fits plan (answer_judged plan h port out (judged_by x.number b c))
judged_fits plan h port x site b out None fits = fits refl
judged_fits plan h port x site b out (Some c) fits = site.number

by_fits : (plan : Plan) → FitsPlan plan → (h : History) → CauseLaw plan h → length h < 2 ^ 28
    → (port : PortName) (bytes : List ℕ) (x : Site) → SiteFits x → (draw : ℕ) (o : Option Binding)
    → granted_to h (Some x) ≡ o → (out : Outgoing) → outgoing_of (streams_of plan port.line) port.side bytes ≡ out
    → Fits plan (completion_verdict plan h port x.number draw o out)
by_fits plan fits h cause few port bytes x site draw None is out comes = site.number
by_fits plan fits h cause few port bytes x site draw (Some b) is out comes =
    let floor = bound_floor (view_at h x) x.plan.stream (floor_at h x) b is in
    let least = floor_fits plan fits (memory_fits plan) h cause few x in
    let key = live_key h port (lane_out port b.stream Cpl) in
    let drawn = live_few h port (lane_out port b.stream Cpl) key refl in
    judged_fits plan h port x site b out (binding_cause b (stream_taken out) draw) (λ none.
    if_fits plan (is_before key b.floor) (v.Interface (iv.RefusedRefreshFirst (draw_of key) b.floor)) _
    (omega (arith, few, drawn, draw_is key), omega (arith, floor, least))
    (λ after. sent_fits plan fits h cause few port bytes b.stream out comes
    (binding_admits b (stream_taken out) draw none).stream))

of_fits : (plan : Plan) → FitsPlan plan → (h : History) → CauseLaw plan h → length h < 2 ^ 28
    → (port : PortName) (bytes : List ℕ) (draw : ℕ) (o : Option Site) → ((x : Site) → o ≡ Some x → SiteFits x)
    → (out : Outgoing) → outgoing_of (streams_of plan port.line) port.side bytes ≡ out
    → Fits plan (site_answer plan h port draw o out)
of_fits plan fits h cause few port bytes draw None site out comes = tt
of_fits plan fits h cause few port bytes draw (Some x) site out comes =
    by_fits plan fits h cause few port bytes x (site x refl) draw (granted_to h (Some x)) refl out comes

-- the answer to the oldest read that waits at a port, or that none does
pub read_fits : (plan : Plan) → FitsPlan plan → (h : History) (port : PortName) (answer : WaitingRead → Verdict)
    → ((r : WaitingRead) → slice_get (queued_reads plan h port) (reads_taken h port) ≡ Some r → Fits plan (answer r))
    → Fits plan (read_due plan h port answer)
read_fits plan fits h port answer each = by (has_link plan port.line) refl (waiting_reads plan h port) refl
  where
    by : (b : Bool) → has_link plan port.line ≡ b → (rs : List WaitingRead) → waiting_reads plan h port ≡ rs
        → Fits plan (if b then first_answered answer port.line rs else v.Nothing)
    by false here rs waits = tt
    by true here [] waits = link_fits plan fits port.line here
    by true here (r ∷ rs) waits = each r (drop_first (reads_taken h port) (queued_reads plan h port) r rs waits)

pub answer_due_fits : (plan : Plan) → FitsPlan plan → (h : History) → CauseLaw plan h → length h < 2 ^ 28 → (link : ℕ)
    → Fits plan (answer_due plan h link)
answer_due_fits plan fits h cause few link = read_fits plan fits h (host_port link) _
    (λ r oldest. of_fits plan fits h cause few (host_port link) (sent_bytes plan h (Access (ae.Answer link)))
    r.came.draw (site_of_requester plan link r.read.requester)
    (found_site_fits plan fits (λ x. (x.link == link) && (x.plan.requester == r.read.requester)))
    (outgoing_completion plan h link) refl)
