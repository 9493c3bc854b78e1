-- The oldest read that waits at a device is of a BAR of an interface of the link; and what a response comes to, by it.
use Rattle.spec_links.proofs.Terms.{◌≡◌, ℕ, ◌-◌, ◌==◌, ◌&&◌, zero, suc, Bool, true, false, List, [], ◌∷◌, slice_get}
use Rattle.spec_links.proofs.Terms.{filter, Option, Some, None, refl, ap, sym, subst, ◌∙◌, arith, nat_tests}
use Rattle.spec_links.proofs.Terms.{if◌then◌else◌, Plan, History, Verdict, Accepted, CauseLaw, Access, has_link}
use Rattle.spec_links.proofs.Terms.{WaitingRead, sent_bytes}
use Rattle.std.specs.Prelude.{find}
use Rattle.std.specs.Option.{option_map}
use Rattle.std.proofs.lemmas.Option.{slice_get-map}
use Rattle.ide_types.specs.Ports.{device_port}
use Rattle.spec_interfaces.specs.Sites.{Site, site_at}
unfoldable use Rattle.spec_interfaces.specs.Sites.{sites}
use Rattle.spec_interfaces.specs.Floors.{link_sites, place_of, interfaces_before, device_status}
use Rattle.spec_interfaces.proofs.Floors.{found, placed_on, site_placed}
use Rattle.guarded_memory.proofs.Claimed.{claimed}
use Rattle.guarded_memory.specs.DeviceReads.{claimed_target}
use Rattle.spec_links.specs.Terms.{Claim, claim_of, site_on, history_statuses, target_of, read_of}
use Rattle.spec_links.specs.Terms.{Span, MemReadView, memory_read, read_head_of, judged_claim}
use Rattle.spec_links.specs.Memory.{queued_reads}
use Rattle.spec_links.specs.Sent.{reads_taken}
use Rattle.spec_links.specs.Terms.{TlpFault}
use Rattle.tlp_layout.specs.declared.head.HeadView.{HeadView}
use Rattle.std.proofs.Common.{Result, Ok}
use Rattle.law_device_reads.specs.Exact.{ahead_of_packet}
use Rattle.spec_links.specs.Due.{response_judged, site_response, target_response}
use Rattle.script_events.specs.declared.event.AccessEvent.TheVariants as ae
use Rattle.law_memory.proofs.Found.{cause_at, found_by_number}
use Rattle.law_memory.proofs.Queued.{QueuedBy, queued_by}
use Rattle.law_device_reads.specs.Oldest.{IsOldestAtDevice}
use Rattle.law_device_reads.proofs.Effects.{QueuedThere, queued_there}

-- ---- interfaces by their places

was_kept : {A : Type 0} (test : A → Bool) (xs : List A) (k : ℕ) (x : A) → slice_get (filter test xs) k ≡ Some x
    → (n : ℕ) × (slice_get xs n ≡ Some x) × (test x ≡ true)
was_kept test [] k x is = absurd cc
was_kept test (y ∷ xs) k x is = by (was_kept test xs) (test y) refl k is
  where
    by : ((k : ℕ) (x : _) → slice_get (filter test xs) k ≡ Some x → (n : ℕ) × (slice_get xs n ≡ Some x)
        × (test x ≡ true)) → (b : Bool) → test y ≡ b → (k : ℕ)
        → slice_get (if b then y ∷ filter test xs else filter test xs) k ≡ Some x
        → (n : ℕ) × (slice_get (y ∷ xs) n ≡ Some x) × (test x ≡ true)
    by more true at zero is = let same : y ≡ x = cc (is) in (0, is, sym (ap test same) ∙ at)
    by more true at (suc k) is = let later = more k x is in (suc later.0, later.1, later.2)
    by more false at k is = let later = more k x is in (suc later.0, later.1, later.2)

finds : {A : Type 0} (test : A → Bool) (xs : List A) (n : ℕ) (x : A) → slice_get xs n ≡ Some x → test x ≡ true
    → (z : A) × (find test xs ≡ Some z)
finds test [] n x is passes = absurd cc
finds test (y ∷ xs) n x is passes = by (λ k at. finds test xs k x at passes) (test y) refl n is
  where
    by : ((k : ℕ) → slice_get xs k ≡ Some x → (z : _) × (find test xs ≡ Some z)) → (b : Bool) → test y ≡ b → (n : ℕ)
        → slice_get (y ∷ xs) n ≡ Some x → (z : _) × ((if b then Some y else find test xs) ≡ Some z)
    by more true at n is = (y, refl)
    by more false at zero is = let same : y ≡ x = cc (is) in absurd (let on = ap test same ∙ passes in cc (at, on))
    by more false at (suc n) is = more n is

pub same_parts : (m n k l : ℕ) → ((m == n) && (k == l)) ≡ true → (m ≡ n) × (k ≡ l)
same_parts m n k l is = (grind (arith, nat_tests, is), grind (arith, nat_tests, is))

equal_number : (m : ℕ) → (m == m) ≡ true
equal_number m = grind (arith, nat_tests)

pub one_of : {A : Type 0} (o : Option A) (x y : A) → o ≡ Some x → o ≡ Some y → x ≡ y
one_of o x y a b = cc (a, b)

pub record IsSiteOn (plan : Plan) (link place : ℕ) (x : Site) : Type 0 where
  pub numbered : site_at plan x.number ≡ Some x
  pub link_is : x.link ≡ link
  pub place_is : place_of plan x ≡ place

-- the interface at a place of a link is that of its number
pub site_there : (plan : Plan) (link place : ℕ) (x : Site) → site_on plan link place ≡ Some x
    → IsSiteOn plan link place x
site_there plan link place x is =
    let on = was_kept (λ (y : Site). y.link == link) (sites plan) place x is in
    let placed = placed_on plan link place x is in
    let test : Site → Bool = λ y. (y.number == x.number) && (y.link == link) in
    let there = finds test (sites plan) on.0 x on.1 (rw (equal_number x.number, on.2) refl) in
    let z = there.0 in
    let same = same_parts z.number x.number z.link link (found test (sites plan) z there.1).passes in
    let known = found_by_number plan test z there.1 in
    let stands = site_placed plan z.number z known in
    let place_of_z : place_of plan z ≡ place =
    (λ i. same.0 i - interfaces_before plan.links ((same.1 ∙ sym placed.link_is) i)) ∙ placed.place_is in
    let at : slice_get (link_sites plan link) place ≡ Some z =
    (λ i. slice_get (link_sites plan (sym same.1 i)) (sym place_of_z i)) ∙ stands in
    let z_is : z ≡ x = one_of (slice_get (link_sites plan link) place) z x at is in
    record {
      numbered = subst (λ (y : Site). site_at plan y.number ≡ Some y) z_is known;
      link_is = placed.link_is;
      place_is = placed.place_is;
    }

-- ---- claims

-- the interface of a claim, and how it stands
pub record IsClaimedBy (plan : Plan) (h : History) (link : ℕ) (c : Claim) : Type 0 where
  pub interface : Site
  pub known : site_on plan link c.interface ≡ Some interface
  pub stands : c.status ≡ device_status plan h interface

standing : (plan : Plan) (h : History) (link : ℕ) (c : Claim) (o : Option Site) → site_on plan link c.interface ≡ o
    → option_map (device_status plan h) o ≡ Some c.status → IsClaimedBy plan h link c
standing plan h link c None known is = absurd cc
standing plan h link c (Some x) known is = record { interface = x; known = known; stands = cc (is) }

pub claimed_by : (plan : Plan) (h : History) (link : ℕ) (s : Span) (c : Claim)
    → claim_of (history_statuses plan h link) s ≡ Some c → IsClaimedBy plan h link c
claimed_by plan h link s c is =
    standing plan h link c (site_on plan link c.interface) refl
    (sym (slice_get-map (device_status plan h) (link_sites plan link) c.interface)
    ∙ (claimed (history_statuses plan h link) s c is).interface)

-- ---- the oldest read

-- number k of the reads that were queued at a device: the pair that queued it, its claim then, and its interface
pub record IsQueued (plan : Plan) (h : History) (link k : ℕ) (r : WaitingRead) : Type 0 where
  pub by : QueuedBy plan h (device_port link) k r
  pub law : CauseLaw plan ((by.event, Accepted by.end by.unit by.effects) ∷ by.older)
  pub there : QueuedThere (history_statuses plan by.older link) by.unit by.at.packet
      (ahead_of_packet plan by.older link by.effects by.at.number)
  pub same : there.read ≡ r.read
  pub of_target : r.target ≡ Some (claimed_target there.claim)
  pub interface : Site
  pub known : site_on plan link there.claim.interface ≡ Some interface
  pub stands : there.claim.status ≡ device_status plan by.older interface

pub is_queued_read : (plan : Plan) (h : History) → CauseLaw plan h → (link : ℕ) → has_link plan link ≡ true → (k : ℕ)
    (r : WaitingRead) → slice_get (queued_reads plan h (device_port link)) k ≡ Some r → IsQueued plan h link k r
is_queued_read plan h cause link has k r is =
    let by = queued_by plan h cause (device_port link) k r is in
    let law = cause_at plan by.since ((by.event, Accepted by.end by.unit by.effects) ∷ by.older) h by.came cause in
    let there = queued_there plan by.older by.event by.end by.unit by.effects law.0 link by.at_port has by.at.number
    by.at.packet by.at.stands by.at.queues in
    let head : there.head ≡ by.at.head = one_read_head (read_head_of by.at.packet.head) there.head by.at.head
    there.reads by.at.reads in
    let same : there.read ≡ r.read =
    one_of (memory_read by.at.head) there.read r.read (sym (ap memory_read head) ∙ there.is_read) by.at.is_read in
    let claims = claimed_by plan by.older link there.read.span there.claim there.claimed in
    record {
      by = by;
      law = law;
      there = there;
      same = same;
      of_target = by.at.target_is
          ∙ (ap (λ (m : MemReadView). target_of (history_statuses plan by.older link) m.span) (sym same)
          ∙ ap (option_map claimed_target) there.claimed);
      interface = claims.interface;
      known = claims.known;
      stands = claims.stands;
    }
  where
    one_read_head : (res : Result HeadView TlpFault) (a b : HeadView) → res ≡ Ok a → res ≡ Ok b → a ≡ b
    one_read_head res a b one two = cc (one, two)

-- ---- a response

-- what it comes to, by the oldest read that waits
pub record IsJudged (plan : Plan) (h : History) (link : ℕ) (r : WaitingRead) (w : Verdict) : Type 0 where
  pub of : IsOldestAtDevice plan h link
  pub same : of.read ≡ r
  pub is : w ≡ response_judged plan h of.read.came of.interface.number
      (read_of (sent_bytes plan h (Access (ae.Respond link))))
      (judged_claim (claim_of (history_statuses plan h link) of.read.read.span) of.target of.read.came)

pub is_judged : (plan : Plan) (h : History) → CauseLaw plan h → (link : ℕ) → has_link plan link ≡ true
    → (r : WaitingRead) → slice_get (queued_reads plan h (device_port link)) (reads_taken h (device_port link)) ≡ Some r
    → (w : Verdict) → w ≡ target_response plan h link r r.target → IsJudged plan h link r w
is_judged plan h cause link has r oldest w is =
    let q = is_queued_read plan h cause link has (reads_taken h (device_port link)) r oldest in
    let target = claimed_target q.there.claim in
    let site = site_there plan link q.there.claim.interface q.interface q.known in
    record {
      of = record {
        read = r;
        oldest = oldest;
        target = target;
        of_target = q.of_target;
        interface = q.interface;
        known = q.known;
        numbered = site.numbered;
        link_is = site.link_is;
      };
      same = refl;
      is = is ∙ (ap (target_response plan h link r) q.of_target
          ∙ ap (site_response plan h link r target) q.known);
    }
