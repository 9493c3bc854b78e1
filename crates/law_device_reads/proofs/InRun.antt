-- A read with T is queued, and answered, in RUN alone, and both in the same.
use Rattle.law_sealing.proofs.Terms.{◌≡◌, inl, inr, ℕ, Bool, true, false, List, [], ◌∷◌, ◌++◌}
use Rattle.law_sealing.proofs.Terms.{append_assoc, Option, Some, None, refl, ap, sym, subst, ◌∙◌, arith}
use Rattle.law_sealing.proofs.Terms.{if◌then◌else◌, Plan, History, Event, Accepted, UnitName}
use Rattle.law_sealing.proofs.Terms.{Effect, Packet, PortName, CauseLaw}
unfoldable use Rattle.law_sealing.proofs.Terms.{due}
use Rattle.std.specs.Option.{option_or}
use Rattle.ide_types.specs.Fits.{FitsPlan}
use Rattle.ide_types.specs.Ports.{device_port}
use Rattle.spec_keys.specs.Keys.{Keyed, On, on_in}
use Rattle.spec_keys.specs.Operations.{Begun}
use Rattle.spec_keys.specs.History.{begun_of_draw}
unfoldable use Rattle.spec_keys.specs.History.{manager}
use Rattle.spec_keys.proofs.Owners.{owner}
use Rattle.guarded_memory.specs.Causes.{access_cause, mmio_cause}
use Rattle.guarded_memory.specs.DeviceReads.{claimed_target}
use Rattle.spec_interfaces.specs.Sites.{Site}
use Rattle.spec_interfaces.specs.Devices.{interface_at, runs_at}
use Rattle.spec_interfaces.specs.Floors.{device_status}
use Rattle.spec_links.specs.Terms.{InterfaceStatus, Claim, ReadArrival, ReadTarget, WaitingRead, site_on, SealedPacket}
use Rattle.spec_links.specs.Terms.{history_statuses}
use Rattle.spec_links.specs.Sent.{reads_taken}
use Rattle.spec_links.specs.Due.{receiving_sub_stream}
use Rattle.spec_interfaces.specs.Sites.{site_at}
use Rattle.spec_links.proofs.Causes.{accepted_by}
use Rattle.law_key_facts.proofs.SealedKeys.{on_is_owned}
use Rattle.event_verdicts.specs.declared.verdict.BlockCause.{BlockCause}
use Rattle.event_verdicts.specs.declared.verdict.BlockCause.TheVariants as cause
use Rattle.law_memory.proofs.Queued.{QueuedBy}
use Rattle.law_memory.proofs.Responses.{InRunOn, TrustedFor, trusted_means}
use Rattle.law_verdicts.specs.{CameFrom}
use Rattle.law_verdicts.proofs.{fronts, run_state}
use Rattle.law_bytes.specs.NoOtherRun.{IsInNoOtherRun}
use Rattle.law_bytes.proofs.NoOtherRun.{no_other_run, no_other_since}
use Rattle.law_bytes.proofs.BindFloors.{bound_floor}
use Rattle.law_bytes.proofs.MmioOrigins.{bound_on}
use Rattle.law_device_reads.specs.Oldest.{IsOldestAtDevice, WasQueued}
use Rattle.law_device_reads.proofs.Effects.{QueuedThere}
use Rattle.law_device_reads.proofs.Oldest.{IsQueued, is_queued_read, one_of}
use Rattle.law_device_reads.proofs.Responses.{IsKept}

-- ---- what an access with T that nothing blocks tells

pub runs_on : (plan : Plan) (h : History) (x : Site) (c : Claim) (stream draw : ℕ) → c.status ≡ device_status plan h x
    → access_cause c.status c.range true stream draw ≡ None → TrustedFor plan h x stream draw
runs_on plan h x c stream draw stands is =
    let run = subst (λ (s : InterfaceStatus). InRunOn s stream draw) stands
    (trusted_means c.status c.range stream draw is) in
    record {
      runs = run_state (interface_at plan h x).state run.runs;
      floor = run.floor;
      bound = run.bound;
      from_floor = run.from_floor;
    }

-- ---- of a read that was queued

first_none : (a b : Option BlockCause) → option_or a b ≡ None → a ≡ None
first_none None b is = refl
first_none (Some c) b is = absurd cc

uncrossed : (b : Bool) (o : Option BlockCause) → (if b then Some cause.Crosses else o) ≡ None → o ≡ None
uncrossed true o is = absurd cc
uncrossed false o is = is

-- with T, by an interface that stands so
pub there_runs : (plan : Plan) (h : History) (link : ℕ) (unit : UnitName) (p : Packet) (k : ℕ)
    (q : QueuedThere (history_statuses plan h link) unit p k) (x : Site) → q.claim.status ≡ device_status plan h x
    → p.prefix.t ≡ true → TrustedFor plan h x unit.stream unit.draw
there_runs plan h link unit p k q x stands trusted =
    let c = q.claim in
    let none = uncrossed _ _ (first_none (mmio_cause c.status c.range q.read.span p.prefix.t unit.stream unit.draw) _
    q.unblocked) in
    runs_on plan h x c unit.stream unit.draw stands
    (subst (λ (b : Bool). access_cause c.status c.range b unit.stream unit.draw ≡ None) trusted none)

-- ---- the draw that a unit came under was made by then

is_on : (k : Keyed) (j : ℕ) → on_in k ≡ Some j → k ≡ On j
is_on (On i) j is = cc (is)
is_on k j is = absurd cc

pub made_then : (plan : Plan) (h : History) (e : Event) (end : PortName) (unit : UnitName) (effects : List Effect)
    → Accepted end unit effects ≡ due plan h e
    → (b : Begun) × (begun_of_draw (manager h).begun unit.draw ≡ Some b)
made_then plan h e end unit effects is =
    let by = accepted_by plan h e end unit effects is in
    let s = receiving_sub_stream end by.packet in (
      owner s.line s.stream by.packet.prefix.k,
      on_is_owned h end s by.packet.prefix.k unit.draw (is_on _ unit.draw by.passed.live),
    )

-- ---- the same RUN

-- since a draw was made that is from its floor on the stream on
pub no_other_on : (plan : Plan) → FitsPlan plan → (h : History) → CauseLaw plan h → (x : Site)
    → site_at plan x.number ≡ Some x → (stream j : ℕ) → TrustedFor plan h x stream j → (g : History) (b : Begun)
    → begun_of_draw (manager g).begun j ≡ Some b → IsInNoOtherRun plan g h x
no_other_on plan fits h cause x known stream j on g b made =
    elim (bound_on plan h x stream j on.floor on.runs on.bound on.from_floor) [
      | inl own ↦ no_other_run plan fits h cause x known on.runs g j b made own.least
      | inr bound ↦
          let first = bound_floor plan h cause x known stream on.floor bound in
          let up = on.from_floor in
          let needs = first.needs in
          no_other_since plan h cause x known first.older first.came first.same_lock g j b made
          (omega (arith, needs, up))
    ]

-- from the one history to the second, and on to the third
pub joined_run : (plan : Plan) (a g h : History) (x : Site) → CameFrom g h → runs_at plan g x ≡ true
    → IsInNoOtherRun plan a g x → IsInNoOtherRun plan g h x → IsInNoOtherRun plan a h x
joined_run plan a g h x came runs first second k from to running =
    elim (fronts came.since to.since g k (came.is ∙ sym to.is)) [
      | inl behind ↦
          first k from (record { since = behind.0; is = behind.1 }) running
          ∙ second g (record { since = []; is = refl }) came runs
      | inr ahead ↦ second k (record { since = ahead.0; is = ahead.1 }) to running
    ]

-- ---- the oldest read with T, whose completion is sealed

abbrev pub was_queued : (plan : Plan) (h : History) (link : ℕ) (r : WaitingRead)
    → QueuedBy plan h (device_port link) (reads_taken h (device_port link)) r → WasQueued plan h link r
was_queued plan h link r by = record {
  event = by.event;
  end = by.end;
  unit = by.unit;
  effects = by.effects;
  older = by.older;
  since = by.since;
  came = by.came;
  at_device = by.at_port;
  number = by.at.number;
  packet = by.at.packet;
  stands = by.at.stands;
  queued = by.at.queues;
  arrived = by.at.arrived;
  head = by.at.head;
  reads = by.at.reads;
  is_read = by.at.is_read;
  claimed = sym by.at.target_is;
  from = by.from;
  until = by.until;
  no_reset = by.no_reset;
}

-- its interface is in RUN, and has been in no other since before the read was queued, when it was in RUN too
pub record IsOfRun (plan : Plan) (h : History) (link : ℕ) (of : IsOldestAtDevice plan h link) : Type 0 where
  pub queued : IsQueued plan h link (reads_taken h (device_port link)) of.read
  pub same : queued.interface ≡ of.interface
  pub now : TrustedFor plan h of.interface of.read.came.stream of.read.came.draw
  pub came : CameFrom queued.by.older h
  pub ran : TrustedFor plan queued.by.older of.interface queued.by.unit.stream queued.by.unit.draw
  pub no_other : IsInNoOtherRun plan queued.by.older h of.interface

pub of_run : (plan : Plan) → FitsPlan plan → (h : History) → CauseLaw plan h → (link : ℕ) (ds : List SealedPacket)
    (of : IsOldestAtDevice plan h link) → IsKept plan h link of ds → of.read.came.trusted ≡ true
    → IsOfRun plan h link of
of_run plan fits h cause link ds of kept trusted =
    let r = of.read in
    let c = kept.claim in
    let q = is_queued_read plan h cause link kept.has (reads_taken h (device_port link)) r of.oldest in
    let target = one_of r.target (claimed_target q.there.claim) of.target q.of_target of.of_target in
    let same : q.interface ≡ of.interface =
    one_of (site_on plan link of.target.interface) q.interface of.interface
    (ap (λ (t : ReadTarget). site_on plan link t.interface) (sym target) ∙ q.known) of.known in
    let now = runs_on plan h of.interface c r.came.stream r.came.draw kept.now.status_is
    (subst (λ (b : Bool). access_cause c.status c.range b r.came.stream r.came.draw ≡ None) trusted kept.allowed) in
    let made = made_then plan q.by.older q.by.event q.by.end q.by.unit q.by.effects q.law.0 in
    let draw : r.came.draw ≡ q.by.unit.draw = ap (λ (a : ReadArrival). a.draw) q.by.at.arrived in
    record {
      queued = q;
      same = same;
      now = now;
      came = record {
        since = q.by.since ++ (q.by.event, Accepted q.by.end q.by.unit q.by.effects) ∷ [];
        is = append_assoc q.by.since _ q.by.older ∙ q.by.came;
      };
      ran = there_runs plan q.by.older link q.by.unit q.by.at.packet _ q.there of.interface
          (q.stands ∙ ap (device_status plan q.by.older) same)
          (sym (ap (λ (a : ReadArrival). a.trusted) q.by.at.arrived) ∙ trusted);
      no_other = no_other_on plan fits h cause of.interface of.numbered r.came.stream r.came.draw now q.by.older made.0
          (ap (begun_of_draw (manager q.by.older).begun) draw ∙ made.1);
    }
