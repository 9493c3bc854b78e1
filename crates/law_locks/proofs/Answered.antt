-- An answer takes a read that was queued under the lock that stands.
use Rattle.std.proofs.Common.{◌≡◌, ℕ, ◌≤◌, ◌==◌, Bool, true, false, List, [], ◌∷◌, ◌++◌}
use Rattle.std.proofs.Common.{slice_get, Option, Some, None, refl, ap, sym, subst, ◌∙◌, arith}
use Rattle.std.proofs.Common.{append_assoc}
use Rattle.std.specs.Prelude.{◌&&◌, if◌then◌else◌, is_some, not}
use Rattle.spec_links.proofs.Terms.{Plan, History, Event, Verdict, Accepted, Sealed, SealedPacket}
use Rattle.spec_links.proofs.Terms.{UnitName, Packet, PortName, CauseLaw, Access}
use Rattle.spec_links.proofs.Terms.{WaitingRead, granted_to, answer_due}
unfoldable use Rattle.spec_links.proofs.Terms.{due}
use Rattle.std.specs.Option.{option_and_then, option_map}
use Rattle.ide_types.specs.declared.binding.Binding.{Binding}
use Rattle.tlp_layout.specs.declared.head.HeadView.{HeadView}
use Rattle.tlp_layout.specs.declared.head.Lead.{Lead}
use Rattle.tlp_layout.specs.declared.head.Fields.{Fields}
use Rattle.tlp_layout.specs.declared.head.Fields.TheVariants.{Memory, Config, Message, Completion}
use Rattle.tlp_layout.specs.Reading.{read_head_of}
use Rattle.trusted_memory.specs.declared.span.Span.{Span}
use Rattle.trusted_memory.specs.Spans.{span_of}
use Rattle.trusted_memory.specs.declared.read.MemReadView.{MemReadView}
use Rattle.trusted_memory.specs.Requests.{memory_read, read_with}
use Rattle.spec_interfaces.specs.Terms.{Running}
use Rattle.spec_interfaces.specs.Sites.{Site, site_of_requester}
use Rattle.spec_interfaces.specs.Views.{view_at, floor_at}
use Rattle.spec_interfaces.specs.Devices.{locks_accepted}
use Rattle.spec_interfaces.specs.Cause.{owner_id}
use Rattle.spec_interfaces.proofs.Views.{views_hold}
use Rattle.spec_links.specs.Plan.{key_plan}
use Rattle.ide_types.specs.Ports.{host_port}
use Rattle.ide_types.specs.Sub.{sent_direction}
use Rattle.spec_links.specs.Terms.{is_sync_packet}
use Rattle.spec_links.specs.Ports.{at_switch, is_host_port, port_of}
use Rattle.spec_links.specs.Admission.{switch_effect}
use Rattle.spec_links.specs.Memory.{Policy, policy_at, device_effect, effect_by, host_effect, queued_reads}
use Rattle.spec_links.specs.Sent.{reads_taken}
use Rattle.spec_links.specs.Terms.{ReadArrival}
use Rattle.law_key_facts.proofs.Given.{key_cause}
use Rattle.law_reads.proofs.Oldest.{first_means}
use Rattle.law_memory.proofs.Found.{cause_at}
use Rattle.law_memory.proofs.OfReads.{host_answer, owned_means, under_means, not_less}
use Rattle.law_memory.proofs.Queued.{QueuedBy, queued_by}
use Rattle.law_mmio.proofs.SameWrites.{effect_there}
use Rattle.law_memory.proofs.Origins.{if_bound}
use Rattle.tlp_layout.specs.Choice.{id_of}
use Rattle.ide_types.specs.declared.port.Side.TheVariants.{Device}
use Rattle.law_memory.proofs.Causes.{interface_cause}
use Rattle.law_locks.specs.Runs.{AdmittedAt, IsReadInLock, AnswersInLock}
use Rattle.law_locks.proofs.Runs.{one_lock}
use Rattle.law_locks.proofs.OneLock.{number_owned, owner_there, runs_there, made_there}
use Rattle.event_verdicts.specs.declared.verdict.Effect.TheVariants as effect
use Rattle.script_events.specs.declared.event.AccessEvent.TheVariants as ae

-- ---- a read that waits was queued

-- at no switch
off_switch : (plan : Plan) (policy : Policy) (k : ℕ) (port : PortName) (unit : UnitName) (p : Packet)
    → effect_by plan policy k port unit p ≡ effect.Queued → at_switch plan port ≡ false
off_switch plan policy k port unit p is = by (is_sync_packet p) (at_switch plan port) is
  where
    by : (a c : Bool) → (if a then effect.Sync else if c then switch_effect
        else if sent_direction port.side == 0 then host_effect plan policy.grants k port unit p (read_head_of p.head)
        else device_effect (policy.statuses port.line) k unit p (read_head_of p.head)) ≡ effect.Queued → c ≡ false
    by true c is = absurd cc
    by false true is = absurd cc
    by false false is = refl

-- so at a host's port
queued_at_host : (plan : Plan) (h : History) → CauseLaw plan h → (link k : ℕ) (r : WaitingRead)
    (q : QueuedBy plan h (host_port link) k r) → is_host_port plan (port_of plan q.end) ≡ true
queued_at_host plan h cause link k r q =
    let here = cause_at plan q.since ((q.event, Accepted q.end q.unit q.effects) ∷ q.older) h q.came cause in
    let there = effect_there plan q.older q.event q.end q.unit q.effects here.0 q.at.number q.at.packet effect.Queued
    q.at.stands q.at.queues in
    let off = off_switch plan (policy_at plan q.older) there.0 (port_of plan q.end) q.unit q.at.packet there.1 in
    let side = ap (λ (p : PortName). sent_direction p.side == 0) q.at_port in
    (λ i. not (off i) && side i)

-- ---- who is answered

-- the requester of a read is its owner
owner_is : (head : HeadView) (r : MemReadView) → memory_read head ≡ Some r → owner_id head ≡ Some r.requester
owner_is head r is = by head.has_payload head.lead head.fields (span_of head) is
  where
    by : (has : Bool) (lead : Lead) (fields : Fields) (o : Option Span)
        → (if has then None else read_with lead fields o) ≡ Some r → id_of Device fields ≡ Some r.requester
    by true lead fields o is = absurd cc
    by false lead (Memory f) None is = absurd cc
    by false lead (Memory f) (Some s) is = ap (option_map (λ (z : MemReadView). z.requester)) is
    by false lead (Config f) o is = absurd cc
    by false lead (Message f) o is = absurd cc
    by false lead (Completion f) o is = absurd cc

-- the pair that queued it, as one at which the interface was admitted
abbrev admitted_of : (plan : Plan) (h : History) (cause : CauseLaw plan h) (link k : ℕ) (r : WaitingRead) (x : Site)
    → QueuedBy plan h (host_port link) k r → site_of_requester plan link r.read.requester ≡ Some x → AdmittedAt plan h x
admitted_of plan h cause link k r x q owns = record {
  event = q.event;
  port = q.end;
  unit = q.unit;
  effects = q.effects;
  older = q.older;
  since = q.since;
  came = q.came;
  at_host = queued_at_host plan h cause link k r q;
  number = q.at.number;
  packet = q.at.packet;
  stands = q.at.stands;
  effect = effect.Queued;
  has_effect = q.at.queues;
  admitted = refl;
  head = q.at.head;
  reads = q.at.reads;
  owns = ap (option_and_then (site_of_requester plan (port_of plan q.end).line))
      (owner_is q.at.head r.read q.at.is_read)
      ∙ (ap (λ (p : PortName). site_of_requester plan p.line r.read.requester) q.at_port ∙ owns);
}

-- the requester of a read that was queued at a host's port is an interface of the link
pub reader_there : (plan : Plan) (h : History) → CauseLaw plan h → (link k : ℕ) (r : WaitingRead)
    → slice_get (queued_reads plan h (host_port link)) k ≡ Some r
    → is_some (site_of_requester plan link r.read.requester) ≡ true
reader_there plan h cause link k r is =
    let q = queued_by plan h cause (host_port link) k r is in
    subst (λ (p : PortName). is_some (site_of_requester plan p.line r.read.requester) ≡ true) q.at_port
    (owner_there plan h cause q.since q.older q.event q.end q.unit q.effects q.came
    (queued_at_host plan h cause link k r q) q.at.number q.at.packet effect.Queued q.at.stands q.at.queues refl
    q.at.head q.at.reads r.read.requester (owner_is q.at.head r.read q.at.is_read))

in_lock : (plan : Plan) (h : History) (link : ℕ) (ds : List SealedPacket) → CauseLaw plan h
    → Sealed ds ≡ answer_due plan h link → IsReadInLock plan h link
in_lock plan h link ds cause is =
    let first = first_means plan h (host_port link) (host_answer plan h link) (Sealed ds) refl is in
    let r = first.read in
    let owned = owned_means plan h link (Sealed ds) r (site_of_requester plan link r.read.requester) refl refl first.is
    in
    let x = owned.site in
    let under = under_means plan h link ds x r.came.draw (granted_to h (Some x)) refl owned.is in
    let bound = if_bound (view_at h x) x.plan.stream (floor_at h x) under.bound under.is in
    let floor : under.bound.floor ≡ floor_at h x = ap (λ (c : Binding). c.floor) bound.1 in
    let up = not_less r.came.draw under.bound.floor under.fresh in
    let k = reads_taken h (host_port link) in
    let q = queued_by plan h cause (host_port link) k r first.oldest in
    let draw : q.unit.draw ≡ r.came.draw = sym (ap (λ (c : ReadArrival). c.draw) q.at.arrived) in
    let a = admitted_of plan h cause link k r x q owned.owns in
    let runs = runs_there plan h x a cause in
    let made = made_there plan h x a cause in
    let at = number_owned plan link (Some r.read.requester) x owned.owns in
    let before = (cause_at plan a.since ((a.event, Accepted a.port a.unit a.effects) ∷ a.older) h a.came cause).1 in
    let started = (views_hold plan (key_plan plan) a.older (key_cause plan a.older before)
    (interface_cause plan a.older before) x at).running runs.view in
    let pairs = a.since ++ (a.event, Accepted a.port a.unit a.effects) ∷ [] in
    let whole : pairs ++ a.older ≡ h = append_assoc a.since _ a.older ∙ a.came in
    let causes = interface_cause plan (pairs ++ a.older) (subst (CauseLaw plan) (sym whole) cause) in
    let view : view_at (pairs ++ a.older) x ≡ Running = ap (λ (g : History). view_at g x) whole ∙ bound.0 in
    let least : floor_at h x ≤ a.unit.draw = omega (arith, floor, up, draw) in
    record {
      read = r;
      oldest = first.oldest;
      interface = x;
      owns = owned.owns;
      from = a;
      draw = draw;
      is_read = q.at.is_read;
      same_lock = sym (one_lock plan a.unit.draw made.0 pairs a.older x at causes made.1 started.was_started runs.view
          view (subst (λ (g : History). floor_at g x ≤ a.unit.draw) (sym whole) least))
          ∙ ap (λ (g : History). locks_accepted plan g x) whole;
    }

pub answers_in_lock : (plan : Plan) (h : History) (e : Event) (w : Verdict) → CauseLaw plan ((e, w) ∷ h)
    → AnswersInLock plan h e w
unfolding due
answers_in_lock plan h (Access (ae.Answer link)) (Sealed ds) cause = in_lock plan h link ds cause.1 cause.0
answers_in_lock plan h e w cause = tt
