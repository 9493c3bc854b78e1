-- A read that a device queued was claimed when it came, by an interface of the link that answers reads, and nothing
-- blocked it.
use Rattle.law_sealing.proofs.Terms.{◌≡◌, ℕ, Bool, true, false, slice_get, Option, Some, None, Ok}
use Rattle.law_sealing.proofs.Terms.{refl, ap, sym, subst, ◌∙◌, if◌then◌else◌, Plan, History}
use Rattle.law_sealing.proofs.Terms.{UnitName, Packet, is_sync_packet}
use Rattle.std.specs.Prelude.{option_map}
use Rattle.std.specs.Option.{option_or}
use Rattle.std.proofs.lemmas.Option.{slice_get-map}
use Rattle.ide_types.specs.Ports.{device_port}
use Rattle.tlp_layout.specs.declared.head.HeadView.{HeadView}
use Rattle.tlp_layout.specs.Reading.{read_head_of}
use Rattle.trusted_memory.specs.Spans.{write_span}
use Rattle.trusted_memory.specs.Waiting.{full_cause, read_effect}
use Rattle.guarded_memory.specs.declared.status.InterfaceStatus.{InterfaceStatus}
use Rattle.guarded_memory.specs.Causes.{mmio_cause, mmio_effect}
use Rattle.guarded_memory.specs.DeviceReads.{claimed_read_effect, claimed_target, device_read_cause}
use Rattle.guarded_memory.specs.DeviceReads.{effect_by_device_read}
use Rattle.guarded_memory.proofs.Claimed.{claimed}
use Rattle.spec_interfaces.specs.Floors.{device_status, link_sites}
use Rattle.spec_links.specs.Terms.{Claim, MemReadView, ReadArrival, Site, Span, WaitingRead, claim_of}
use Rattle.spec_links.specs.Terms.{history_statuses, memory_read, site_on}
use Rattle.spec_links.specs.Ports.{at_switch}
use Rattle.spec_links.specs.Memory.{Policy, policy_at, device_effect, effect_by}
use Rattle.event_verdicts.specs.declared.verdict.BlockCause.{BlockCause}
use Rattle.event_verdicts.specs.declared.verdict.Effect.TheVariants as effect
use Rattle.law_hops.proofs.Queued.{QueuedAt, was_queued}

-- ---- by its effect

-- nothing blocks what is claimed so
record IsFree (o : Option Claim) (s : Span) (t : Bool) (stream draw : ℕ) : Type 0 where
  claim : Claim
  is : o ≡ Some claim
  answers : claim.status.reads ≡ true
  free : mmio_cause claim.status claim.range s t stream draw ≡ None

first_none : (a b : Option BlockCause) → read_effect (option_or a b) ≡ effect.Queued → a ≡ None
first_none None b is = refl
first_none (Some c) b is = absurd cc

claim_free : (o : Option Claim) (s : Span) (t : Bool) (stream draw n : ℕ)
    → claimed_read_effect o s t stream draw n ≡ effect.Queued → IsFree o s t stream draw
claim_free None s t stream draw n is = absurd cc
claim_free (Some c) s t stream draw n is = by c.status.reads refl is
  where
    by : (b : Bool) → c.status.reads ≡ b
        → (if b then read_effect (device_read_cause c s t stream draw n) else effect.Delivered) ≡ effect.Queued
        → IsFree (Some c) s t stream draw
    by false reads is = absurd cc
    by true reads is = record {
      claim = c;
      is = refl;
      answers = reads;
      free = first_none (mmio_cause c.status c.range s t stream draw) (full_cause n) is;
    }

device_free : (plan : Plan) (policy : Policy) (n link : ℕ) (unit : UnitName) (p : Packet) (head : HeadView)
    (r : MemReadView) → effect_by plan policy n (device_port link) unit p ≡ effect.Queued
    → read_head_of p.head ≡ Ok head → memory_read head ≡ Some r
    → IsFree (claim_of (policy.statuses link) r.span) r.span p.prefix.t unit.stream unit.draw
device_free plan policy n link unit p head r is reads of =
    by (is_sync_packet p) (at_switch plan (device_port link)) is
  where
    read : device_effect (policy.statuses link) n unit p (read_head_of p.head) ≡ effect.Queued
        → IsFree (claim_of (policy.statuses link) r.span) r.span p.prefix.t unit.stream unit.draw
    read queued =
        let xs = policy.statuses link in
        claim_free (claim_of xs r.span) r.span p.prefix.t unit.stream unit.draw n
        (sym (ap (device_effect xs n unit p) reads
        ∙ ap (λ (o : Option MemReadView). effect_by_device_read xs p.prefix.t unit.stream unit.draw n o
        (mmio_effect xs p.prefix.t unit.stream unit.draw (write_span head))) of)
        ∙ queued)

    by : (a c : Bool) → (if a then effect.Sync else if c then effect.Waiting
        else device_effect (policy.statuses link) n unit p (read_head_of p.head)) ≡ effect.Queued
        → IsFree (claim_of (policy.statuses link) r.span) r.span p.prefix.t unit.stream unit.draw
    by true c is = absurd cc
    by false true is = absurd cc
    by false false is = read is

-- ---- the interface

record IsSiteOn (plan : Plan) (h : History) (link i : ℕ) (st : InterfaceStatus) : Type 0 where
  site : Site
  there : site_on plan link i ≡ Some site
  stands : device_status plan h site ≡ st

site_of : (plan : Plan) (h : History) (link i : ℕ) (st : InterfaceStatus)
    → slice_get (history_statuses plan h link) i ≡ Some st → IsSiteOn plan h link i st
site_of plan h link i st is = by (slice_get (link_sites plan link) i) refl
    (sym (slice_get-map (device_status plan h) (link_sites plan link) i) ∙ is)
  where
    by : (o : Option Site) → slice_get (link_sites plan link) i ≡ o
        → option_map (device_status plan h) o ≡ Some st → IsSiteOn plan h link i st
    by None at same = absurd cc
    by (Some x) at same = record { site = x; there = at; stands = cc (same) }

-- ---- the read

pub record WasClaimed (plan : Plan) (h : History) (link : ℕ) (r : WaitingRead)
    (q : QueuedAt plan h (device_port link) r)
    : Type 0 where
  pub claim : Claim
  pub claimed : claim_of (history_statuses plan q.older link) r.read.span ≡ Some claim
  pub answers : claim.status.reads ≡ true
  pub free : mmio_cause claim.status claim.range r.read.span r.came.trusted r.came.stream r.came.draw ≡ None
  pub target : r.target ≡ Some (claimed_target claim)
  pub interface : Site
  pub there : site_on plan link claim.interface ≡ Some interface
  pub stands : device_status plan q.older interface ≡ claim.status

pub was_claimed : (plan : Plan) (h : History) (link : ℕ) (r : WaitingRead) (q : QueuedAt plan h (device_port link) r)
    → WasClaimed plan h link r q
was_claimed plan h link r q =
    let is = was_queued plan h (device_port link) r q in
    let xs = history_statuses plan q.older link in
    let f = device_free plan (policy_at plan q.older) is.0 link q.unit q.at.packet q.at.head r.read is.1 q.at.reads
    q.at.is_read in
    let s = site_of plan q.older link f.claim.interface f.claim.status (claimed xs r.read.span f.claim f.is).interface
    in
    record {
      claim = f.claim;
      claimed = f.is;
      answers = f.answers;
      free = subst (λ (c : ReadArrival). mmio_cause f.claim.status f.claim.range r.read.span c.trusted c.stream c.draw
          ≡ None) q.at.came f.free;
      target = sym q.at.of_target ∙ ap (option_map claimed_target) f.is;
      interface = s.site;
      there = s.there;
      stands = s.stands;
    }
