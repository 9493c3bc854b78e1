-- What a sealed verdict of a response tells, if it was due.
use Rattle.spec_links.proofs.Terms.{◌≡◌, ℕ, ◌+◌, ◌∷◌, Bool, true, false, List, Option, Some, None, Result, Ok, Err}
use Rattle.spec_links.proofs.Terms.{[], refl, subst, unwrap_or, length, slice_get, if◌then◌else◌, arith, Access}
use Rattle.spec_links.proofs.Terms.{AllByRecursion}
use Rattle.spec_links.proofs.Terms.{Plan, History, Verdict, SealedPacket, WaitingRead, Site, Sending, Cpl}
use Rattle.spec_links.proofs.Terms.{sent_bytes, sealed_packets, waiting_reads, first_that_holds, refusals, lanes_at}
use Rattle.spec_links.proofs.Terms.{is_before, live_key, lane_out, has_link, KeyName}
unfoldable use Rattle.spec_links.proofs.Terms.{due}
use Rattle.spec_links.proofs.Senders.{AreFalse}
use Rattle.spec_links.proofs.Causes.{IsSealing}
use Rattle.spec_links.proofs.HopFirst.{drop_first}
use Rattle.law_reads.proofs.Oldest.{takes, clash}
use Rattle.spec_links.specs.Memory.{queued_reads}
use Rattle.spec_links.specs.Sent.{reads_taken}
use Rattle.spec_links.specs.Due.{seal_due, first_answered, response_sent, response_judged, site_response}
use Rattle.spec_links.specs.Due.{target_response, sent_from}
use Rattle.spec_links.specs.Terms.{ReadArrival, ReadTarget, TlpFault, Claim, claim_of, judged_claim, least_draw}
use Rattle.spec_links.specs.Terms.{site_on, history_statuses}
use Rattle.ide_types.specs.Ports.{device_port}
use Rattle.guarded_memory.specs.DeviceReads.{is_same_target, claimed_target, claim_unless}
use Rattle.guarded_memory.specs.Causes.{access_cause}
use Rattle.event_verdicts.specs.declared.verdict.BlockCause.{BlockCause}
use Rattle.event_verdicts.specs.declared.verdict.BlockCause.TheVariants.{Moved}
use Rattle.script_events.specs.declared.event.AccessEvent.TheVariants as ae
use Rattle.event_verdicts.specs.declared.verdict.Verdict.TheVariants as v
use Rattle.tlp_layout.specs.declared.tlp.Tlp.{Tlp}
use Rattle.tlp_layout.specs.Class.{class_of}
use Rattle.tlp_layout.specs.Tlp.{header}
use Rattle.tlp_layout.specs.Reading.{read_of}

-- The TLP of these bytes is sealed at the end and on the stream on which a read came, with T as the read had it, and
-- ends its unit.
pub record SealedAsCame (plan : Plan) (h : History) (came : ReadArrival) (bytes : List ℕ) (ds : List SealedPacket)
    : Type 0 where
  pub tlp : Tlp
  pub reads : read_of bytes ≡ Ok tlp
  pub sent : v.Sealed ds ≡ seal_due plan h came.end tlp came.stream false came.trusted
  pub sealing : IsSealing plan h came.end bytes ds
  pub on_stream : sealing.sending.stream ≡ came.stream
  pub with_t : sealing.sending.trusted ≡ came.trusted
  pub alone : sealing.sending.more ≡ false

-- It is the completion of the oldest read that waits at the device. The interface and BAR that claimed the read when it
-- was queued claim it now, and nothing blocks it there; the key is of a draw from the least one on.
pub record RespondedBy (plan : Plan) (h : History) (link : ℕ) (ds : List SealedPacket) : Type 0 where
  pub known_link : has_link plan link ≡ true
  pub read : WaitingRead
  pub rest : List WaitingRead
  pub waits : waiting_reads plan h (device_port link) ≡ read ∷ rest
  pub oldest : slice_get (queued_reads plan h (device_port link)) (reads_taken h (device_port link)) ≡ Some read
  pub target : ReadTarget
  pub of_target : read.target ≡ Some target
  pub interface : Site
  pub known : site_on plan link target.interface ≡ Some interface
  pub claim : Claim
  pub claims : claim_of (history_statuses plan h link) read.read.span ≡ Some claim
  pub same : is_same_target (claimed_target claim) target ≡ true
  pub allowed : access_cause claim.status claim.range read.came.trusted read.came.stream read.came.draw ≡ None
  pub in_time : is_before (live_key h read.came.end (lane_out read.came.end read.came.stream Cpl))
      (least_draw claim read.came) ≡ false
  pub sealed : SealedAsCame plan h read.came (sent_bytes plan h (Access (ae.Respond link))) ds

-- ---- a seal

first_seals : (xs : List (Bool × Verdict)) (last : Verdict) (ds : List SealedPacket)
    → AllByRecursion (λ (x : Bool × Verdict). takes x.1 ≡ false) xs
    → v.Sealed ds ≡ unwrap_or (first_that_holds xs) last → AreFalse xs × (v.Sealed ds ≡ last)
first_seals [] last ds all is = (tt, is)
first_seals ((true, w) ∷ xs) last ds all is = absurd (clash (v.Sealed ds) w refl all.0 is)
first_seals ((false, w) ∷ xs) last ds all is = let more = first_seals xs last ds all.1 is in ((refl, more.0), more.1)

same_list : (ds es : List SealedPacket) → v.Sealed ds ≡ v.Sealed es → ds ≡ es
same_list ds es is = cc

sealed_as_came : (plan : Plan) (h : History) (came : ReadArrival) (bytes : List ℕ) (tlp : Tlp) (ds : List SealedPacket)
    → read_of bytes ≡ Ok tlp
    → v.Sealed ds ≡ seal_due plan h came.end tlp came.stream false came.trusted → SealedAsCame plan h came bytes ds
sealed_as_came plan h came bytes tlp ds reads is =
    let s : Sending = record {
      port = came.end;
      stream = came.stream;
      class = class_of (header tlp);
      more = false;
      trusted = came.trusted;
    } in
    let parts = first_seals (refusals (lanes_at plan h came.end came.stream) s.class) _ ds
    (refl, (refl, (refl, (refl, (refl, (refl, (refl, (refl, tt)))))))) is in
    record {
      tlp = tlp;
      reads = reads;
      sent = is;
      sealing = record {
        sending = s;
        tlp = tlp;
        reads = reads;
        class = refl;
        at_port = refl;
        free = parts.0;
        number = length (sealed_packets plan h) + 1;
        next = refl;
        list = same_list ds _ parts.1;
      };
      on_stream = refl;
      with_t = refl;
      alone = refl;
    }

-- ---- the claim

-- what is judged so, is claimed
pub record Judged (o : Option Claim) (target : ReadTarget) (came : ReadArrival) (claim : Claim) : Type 0 where
  pub claimed : o ≡ Some claim
  pub same : is_same_target (claimed_target claim) target ≡ true
  pub free : access_cause claim.status claim.range came.trusted came.stream came.draw ≡ None

pub judged_means : (o : Option Claim) (target : ReadTarget) (came : ReadArrival) (claim : Claim)
    → judged_claim o target came ≡ Ok claim → Judged o target came claim
judged_means None target came claim is = absurd cc
judged_means (Some c) target came claim is =
    by (is_same_target (claimed_target c) target) (access_cause c.status c.range came.trusted came.stream came.draw)
    refl refl is
  where
    by : (b : Bool) (o : Option BlockCause) → is_same_target (claimed_target c) target ≡ b
        → access_cause c.status c.range came.trusted came.stream came.draw ≡ o
        → (if b then claim_unless o c else Err Moved) ≡ Ok claim → Judged (Some c) target came claim
    by false o same free is = absurd cc
    by true (Some cause) same free is = absurd cc
    by true None same free is =
        let this : c ≡ claim = cc (is) in
        subst (Judged (Some c) target came) this (record { claimed = refl; same = same; free = free })

-- ---- what is sealed

response_seals : (plan : Plan) (h : History) (came : ReadArrival) (bytes : List ℕ) (r : Result Tlp TlpFault)
    (ds : List SealedPacket) → read_of bytes ≡ r → v.Sealed ds ≡ response_sent plan h came r
    → SealedAsCame plan h came bytes ds
response_seals plan h came bytes (Err f) ds reads is = absurd cc
response_seals plan h came bytes (Ok tlp) ds reads is = sealed_as_came plan h came bytes tlp ds reads is

-- what is judged and sealed
record JudgedSo (plan : Plan) (h : History) (came : ReadArrival) (bytes : List ℕ) (o : Result Claim BlockCause)
    (ds : List SealedPacket) : Type 0 where
  claim : Claim
  judged : o ≡ Ok claim
  in_time : is_before (live_key h came.end (lane_out came.end came.stream Cpl)) (least_draw claim came) ≡ false
  sealed : SealedAsCame plan h came bytes ds

sent_seals : (floor : ℕ) (key : Option KeyName) (sent : Verdict) (ds : List SealedPacket)
    → v.Sealed ds ≡ sent_from floor key sent → (is_before key floor ≡ false) × (v.Sealed ds ≡ sent)
sent_seals floor key sent ds is = (grind arith, grind arith)

judged_seals : (plan : Plan) (h : History) (came : ReadArrival) (interface : ℕ) (bytes : List ℕ)
    (o : Result Claim BlockCause) (ds : List SealedPacket)
    → v.Sealed ds ≡ response_judged plan h came interface (read_of bytes) o → JudgedSo plan h came bytes o ds
judged_seals plan h came interface bytes (Err c) ds is = absurd cc
judged_seals plan h came interface bytes (Ok claim) ds is =
    let parts = sent_seals (least_draw claim came) (live_key h came.end (lane_out came.end came.stream Cpl))
    (response_sent plan h came (read_of bytes)) ds is in
    record {
      claim = claim;
      judged = refl;
      in_time = parts.0;
      sealed = response_seals plan h came bytes (read_of bytes) ds refl parts.1;
    }

-- ---- what it is of

-- the interface that claimed the read
record OfSite (plan : Plan) (h : History) (link : ℕ) (r : WaitingRead) (target : ReadTarget) (o : Option Site)
    (ds : List SealedPacket) : Type 0 where
  interface : Site
  known : o ≡ Some interface
  is : JudgedSo plan h r.came (sent_bytes plan h (Access (ae.Respond link)))
      (judged_claim (claim_of (history_statuses plan h link) r.read.span) target r.came) ds

site_seals : (plan : Plan) (h : History) (link : ℕ) (r : WaitingRead) (target : ReadTarget) (o : Option Site)
    (ds : List SealedPacket) → v.Sealed ds ≡ site_response plan h link r target o → OfSite plan h link r target o ds
site_seals plan h link r target None ds is = absurd cc
site_seals plan h link r target (Some x) ds is = record {
  interface = x;
  known = refl;
  is = judged_seals plan h r.came x.number (sent_bytes plan h (Access (ae.Respond link))) _ ds is;
}

record OfTarget (plan : Plan) (h : History) (link : ℕ) (r : WaitingRead) (o : Option ReadTarget)
    (ds : List SealedPacket) : Type 0 where
  target : ReadTarget
  of_target : o ≡ Some target
  is : OfSite plan h link r target (site_on plan link target.interface) ds

target_seals : (plan : Plan) (h : History) (link : ℕ) (r : WaitingRead) (o : Option ReadTarget)
    (ds : List SealedPacket) → v.Sealed ds ≡ target_response plan h link r o → OfTarget plan h link r o ds
target_seals plan h link r None ds is = absurd cc
target_seals plan h link r (Some target) ds is = record {
  target = target;
  of_target = refl;
  is = site_seals plan h link r target (site_on plan link target.interface) ds is;
}

-- ---- the event

pub responded_by : (plan : Plan) (h : History) (link : ℕ) (ds : List SealedPacket)
    → v.Sealed ds ≡ due plan h (Access (ae.Respond link)) → RespondedBy plan h link ds
unfolding due
responded_by plan h link ds is = by_link (has_link plan link) refl is
  where
    answer : WaitingRead → Verdict
    answer r = target_response plan h link r r.target

    by_reads : (known : has_link plan link ≡ true) (rs : List WaitingRead) → waiting_reads plan h (device_port link)
        ≡ rs
        → v.Sealed ds ≡ first_answered answer link rs → RespondedBy plan h link ds
    by_reads known [] waits is = absurd cc
    by_reads known (r ∷ rs) waits is =
        let told = target_seals plan h link r r.target ds is in
        let judged = judged_means (claim_of (history_statuses plan h link) r.read.span) told.target r.came
        told.is.is.claim told.is.is.judged in
        record {
          known_link = known;
          read = r;
          rest = rs;
          waits = waits;
          oldest = drop_first (reads_taken h (device_port link)) (queued_reads plan h (device_port link)) r rs waits;
          target = told.target;
          of_target = told.of_target;
          interface = told.is.interface;
          known = told.is.known;
          claim = told.is.is.claim;
          claims = judged.claimed;
          same = judged.same;
          allowed = judged.free;
          in_time = told.is.is.in_time;
          sealed = told.is.is.sealed;
        }

    by_link : (b : Bool) → has_link plan link ≡ b
        → v.Sealed ds ≡ (if b then first_answered answer link (waiting_reads plan h (device_port link)) else v.Nothing)
        → RespondedBy plan h link ds
    by_link true known is = by_reads known (waiting_reads plan h (device_port link)) refl is
    by_link false known is = absurd cc
