-- Exactly what a response comes to.
use Rattle.spec_links.proofs.Terms.{◌≡◌, ℕ, ◌-◌, ◌&&◌, suc, Bool, true, false, List, []}
use Rattle.spec_links.proofs.Terms.{◌∷◌, length, Option, Some, None, Result, Ok, Err, refl, ap, sym}
use Rattle.spec_links.proofs.Terms.{subst, ◌∙◌, arith, nat_tests, if◌then◌else◌, unwrap_or, Plan, History, Event}
use Rattle.spec_links.proofs.Terms.{Verdict, Sealed, CauseLaw, Access, has_link, WaitingRead, waiting_reads, sent_bytes}
use Rattle.spec_links.proofs.Terms.{AllByRecursion, lanes_at, live_key, lane_out, is_before, refusals, first_that_holds}
use Rattle.spec_links.proofs.Terms.{KeyName, Cpl, PortName, SealedPacket}
unfoldable use Rattle.spec_links.proofs.Terms.{due}
use Rattle.spec_links.proofs.HopFirst.{drop_first}
use Rattle.std.proofs.lemmas.Bool.{true≢false}
use Rattle.std.proofs.lemmas.List.{length-drop}
use Rattle.ide_types.specs.Ports.{device_port}
use Rattle.interface_state.specs.Bindings.{floor_on}
use Rattle.tlp_layout.specs.Class.{class_of}
use Rattle.guarded_memory.specs.Causes.{access_cause}
use Rattle.guarded_memory.specs.DeviceReads.{claimed_target, is_same_target, claim_unless}
use Rattle.spec_links.specs.Memory.{queued_reads}
use Rattle.spec_links.specs.Sent.{reads_taken}
use Rattle.spec_links.specs.Due.{sent_from, response_sent, response_judged, target_response, first_answered, draw_of}
use Rattle.spec_links.specs.Terms.{Claim, claim_of, judged_claim, least_draw, ReadArrival, ReadTarget, history_statuses}
use Rattle.spec_links.specs.Terms.{read_of, Tlp, TlpFault, header, SubKind}
use Rattle.event_verdicts.specs.declared.verdict.BlockCause.{BlockCause}
use Rattle.event_verdicts.specs.declared.verdict.BlockCause.TheVariants as cause
use Rattle.ide_types.specs.declared.verdict.InterfaceVerdict.TheVariants as iv
use Rattle.script_events.specs.declared.event.AccessEvent.TheVariants as ae
use Rattle.event_verdicts.specs.declared.access.AccessVerdict.TheVariants as av
use Rattle.event_verdicts.specs.declared.verdict.Verdict.TheVariants as v
use Rattle.law_reads.proofs.Order.{takes_first}
use Rattle.law_memory.proofs.Packets.{first_is}
use Rattle.law_memory.proofs.Completions.{completion_class}
use Rattle.law_device_reads.specs.Oldest.{IsOldestAtDevice}
use Rattle.law_device_reads.specs.Exact.{first_holding, drop_causes, drop_cause_in, refresh_first_in, refusal_in}
use Rattle.law_device_reads.specs.Exact.{older_key, IsExactResponse, RespondsAsDue, RespondsExactly, RespondLaw}
use Rattle.law_device_reads.proofs.Tables.{dropped_for, drops_are}
use Rattle.law_device_reads.proofs.Oldest.{is_judged}
use Rattle.law_device_reads.proofs.Responses.{bytes_are, byte_behind, claimed_now}
use Rattle.law_device_reads.proofs.Readable.{readable}
use Rattle.ide_types.specs.Fits.{FitsPlan}
use Rattle.trusted_memory.specs.Completions.{completion}

-- ---- what a send comes to

abbrev is_empty : Verdict → Bool
is_empty (v.Access (av.Empty link)) = true
is_empty w = false

-- it drops nothing, asks for no refresh, and is no answer that no read waits
abbrev IsOfSend : Verdict → Type 0
IsOfSend w = (drop_cause_in w ≡ None) × (refresh_first_in w ≡ None) × (is_empty w ≡ false)

of_send : (plan : Plan) (h : History) (came : ReadArrival) (r : Result Tlp TlpFault)
    → IsOfSend (response_sent plan h came r)
of_send plan h came (Err f) = (refl, refl, refl)
of_send plan h came (Ok tlp) =
    first_is IsOfSend (refusals (lanes_at plan h came.end came.stream) (class_of (header tlp))) _ (
      (refl, refl, refl),
      (
        (refl, refl, refl),
        (
          (refl, refl, refl),
          (
            (refl, refl, refl),
            ((refl, refl, refl), ((refl, refl, refl), ((refl, refl, refl), ((refl, refl, refl), tt)))),
          ),
        ),
      ),
    ) (refl, refl, refl)

first_refusal : (xs : List (Bool × Verdict)) (ds : List SealedPacket)
    → AllByRecursion (λ (x : Bool × Verdict). refusal_in x.1 ≡ Some x.1) xs
    → refusal_in (unwrap_or (first_that_holds xs) (Sealed ds)) ≡ first_that_holds xs
first_refusal [] ds all = refl
first_refusal ((true, w) ∷ xs) ds all = all.0
first_refusal ((false, w) ∷ xs) ds all = first_refusal xs ds all.1

-- a completion is refused as one that is sent
refusal_is : (plan : Plan) (h : History) (came : ReadArrival) (tlp : Tlp) → class_of (header tlp) ≡ Cpl
    → refusal_in (response_sent plan h came (Ok tlp))
    ≡ first_that_holds (refusals (lanes_at plan h came.end came.stream) Cpl)
refusal_is plan h came tlp class =
    first_refusal (refusals (lanes_at plan h came.end came.stream) (class_of (header tlp))) _
    (refl, (refl, (refl, (refl, (refl, (refl, (refl, (refl, tt))))))))
    ∙ ap (λ (u : SubKind). first_that_holds (refusals (lanes_at plan h came.end came.stream) u)) class

-- ---- what is judged

-- the claim is of that interface and BAR
record IsClaim (o : Option Claim) (target : ReadTarget) (c : Claim) : Type 0 where
  is : o ≡ Some c
  same : is_same_target (claimed_target c) target ≡ true

claim_is : (o : Option Claim) (target : ReadTarget) (came : ReadArrival) (c : Claim) → judged_claim o target came ≡ Ok c
    → IsClaim o target c
claim_is None target came c is = absurd cc
claim_is (Some d) target came c is = by (is_same_target (claimed_target d) target) refl is
  where
    by_cause : is_same_target (claimed_target d) target ≡ true → (o : Option BlockCause) → claim_unless o d ≡ Ok c
        → IsClaim (Some d) target c
    by_cause same (Some x) is = absurd cc
    by_cause same None is =
        let one : d ≡ c = cc (is) in
        subst (IsClaim (Some d) target) one (record { is = refl; same = same })

    by : (b : Bool) → is_same_target (claimed_target d) target ≡ b
        → (if b then claim_unless (access_cause d.status d.range came.trusted came.stream came.draw) d
        else Err cause.Moved) ≡ Ok c → IsClaim (Some d) target c
    by false same is = absurd cc
    by true same is = by_cause same (access_cause d.status d.range came.trusted came.stream came.draw) is

none_below : (key : Option KeyName) → is_before key 0 ≡ false
none_below None = refl
none_below (Some k) = grind (arith, nat_tests)

abbrev pair_if : Bool → ℕ → ℕ → Option (ℕ × ℕ)
pair_if b draw floor = if b then Some (draw, floor) else None

older_by : (key : Option KeyName) (t : Bool) (floor : ℕ) → pair_if (t && is_before key floor) (draw_of key) floor
    ≡ pair_if (is_before key (if t then floor else 0)) (draw_of key) (if t then floor else 0)
older_by key true floor = refl
older_by key false floor = rw (none_below key) refl

older_is : (h : History) (c : Claim) (came : ReadArrival) → older_key h (Some c) came
    ≡ pair_if (is_before (live_key h came.end (lane_out came.end came.stream Cpl)) (least_draw c came))
    (draw_of (live_key h came.end (lane_out came.end came.stream Cpl))) (least_draw c came)
older_is h c came = older_by (live_key h came.end (lane_out came.end came.stream Cpl)) came.trusted
    (unwrap_or (floor_on came.stream c.status.bound) 0)

-- ---- the oldest read

module _ (plan : Plan) (fits : FitsPlan plan) (h : History) (cause : CauseLaw plan h) (link : ℕ)
    (has : has_link plan link ≡ true) (w : Verdict) (of : IsOldestAtDevice plan h link) where
  abbrev came : ReadArrival
  came = of.read.came

  abbrev claims : Option Claim
  claims = claim_of (history_statuses plan h link) of.read.read.span

  abbrev tlp_read : Result Tlp TlpFault
  tlp_read = read_of (sent_bytes plan h (Access (ae.Respond link)))

  abbrev key : Option KeyName
  key = live_key h came.end (lane_out came.end came.stream Cpl)

  holding : first_holding (drop_causes claims of.target came) ≡ dropped_for (judged_claim claims of.target came)
  holding = sym (drops_are claims of.target came)

  class_is : (c : Claim) → IsClaim claims of.target c → (t : Tlp)
      → read_of (sent_bytes plan h (Access (ae.Respond link))) ≡ Ok t → class_of (header t) ≡ Cpl
  class_is c one t reads =
      completion_class of.interface.plan.requester _ of.read.read t
      (sym (ap read_of (bytes_are plan h cause link of c (claimed_now plan h link of c one.is one.same))) ∙ reads)

  exact_dropped : (c : BlockCause) → judged_claim claims of.target came ≡ Err c
      → w ≡ v.Access (av.Dropped of.interface.number c) → IsExactResponse plan h link w
  exact_dropped c judged is =
      let held : first_holding (drop_causes claims of.target came) ≡ Some c = holding ∙ ap dropped_for judged in
      record {
        of = of;
        claim = claims;
        claims = refl;
        dropped = ap drop_cause_in is ∙ sym held;
        refused = λ none. absurd (let clash = sym held ∙ none in cc);
        sent = λ none older. absurd (let clash = sym held ∙ none in cc);
      }

  exact_kept : (c : Claim) → judged_claim claims of.target came ≡ Ok c
      → w ≡ sent_from (least_draw c came) key (response_sent plan h came tlp_read) → IsExactResponse plan h link w
  exact_kept c judged is = by (is_before key (least_draw c came)) refl is
    where
      one : IsClaim (claim_of (history_statuses plan h link) of.read.read.span) of.target c
      one = claim_is (claim_of (history_statuses plan h link) of.read.read.span) of.target of.read.came c judged

      held : first_holding (drop_causes (claim_of (history_statuses plan h link) of.read.read.span) of.target
          of.read.came) ≡ None
      held = holding ∙ ap dropped_for judged

      older : (b : Bool) → is_before key (least_draw c came) ≡ b
          → older_key h (claim_of (history_statuses plan h link) of.read.read.span) of.read.came
          ≡ pair_if b (draw_of key) (least_draw c came)
      older b at = ap (λ (o : Option Claim). older_key h o of.read.came) one.is ∙ (older_is h c of.read.came
          ∙ ap (λ (x : Bool). pair_if x (draw_of key) (least_draw c came)) at)

      by_read : w ≡ response_sent plan h of.read.came (read_of (sent_bytes plan h (Access (ae.Respond link))))
          → refusal_in w ≡ first_that_holds (refusals (lanes_at plan h of.read.came.end of.read.came.stream) Cpl)
      by_read is =
          let reads = readable plan fits h cause link has of c (claimed_now plan h link of c one.is one.same) in
          let t = completion of.interface.plan.requester (byte_behind plan h link c) of.read.read in
          ap refusal_in (is ∙ ap (response_sent plan h of.read.came) reads)
          ∙ refusal_is plan h of.read.came t (class_is c one t reads)

      by : (b : Bool) → is_before key (least_draw c came) ≡ b
          → w ≡ (if b then v.Interface (iv.RefusedRefreshFirst (draw_of key) (least_draw c came))
          else response_sent plan h of.read.came (read_of (sent_bytes plan h (Access (ae.Respond link)))))
          → IsExactResponse plan h link w
      by true at is = record {
        of = of;
        claim = claims;
        claims = refl;
        dropped = ap drop_cause_in is ∙ sym held;
        refused = λ none. ap refresh_first_in is ∙ sym (older true at);
        sent = λ none not_older. absurd (let clash = sym (older true at) ∙ not_older in cc);
      }
      by false at is =
          let sends = of_send plan h of.read.came (read_of (sent_bytes plan h (Access (ae.Respond link)))) in
          record {
            of = of;
            claim = claims;
            claims = refl;
            dropped = ap drop_cause_in is ∙ (sends.0 ∙ sym held);
            refused = λ none. ap refresh_first_in is ∙ (sends.1 ∙ sym (older false at));
            sent = λ none not_older. by_read is;
          }

  exact_of : (r : Result Claim BlockCause) → judged_claim claims of.target came ≡ r
      → w ≡ response_judged plan h came of.interface.number tlp_read r → IsExactResponse plan h link w
  exact_of (Err c) judged is = exact_dropped c judged is
  exact_of (Ok c) judged is = exact_kept c judged is

-- it is no answer that none waits
never_empty : (plan : Plan) (h : History) (a : ReadArrival) (number : ℕ) (r : Result Tlp TlpFault)
    (o : Result Claim BlockCause) → is_empty (response_judged plan h a number r o) ≡ false
never_empty plan h a number r (Err c) = refl
never_empty plan h a number r (Ok c) =
    by (is_before (live_key h a.end (lane_out a.end a.stream Cpl)) (least_draw c a))
  where
    by : (b : Bool) → is_empty (if b then v.Interface (iv.RefusedRefreshFirst
        (draw_of (live_key h a.end (lane_out a.end a.stream Cpl))) (least_draw c a))
        else response_sent plan h a r) ≡ false
    by true = refl
    by false = (of_send plan h a r).2

-- ---- the law

module _ (plan : Plan) (fits : FitsPlan plan) (h : History) (cause : CauseLaw plan h) (link : ℕ) (w : Verdict) where
  abbrev port : PortName
  port = device_port link

  abbrev answer : WaitingRead → Verdict
  answer r = target_response plan h link r r.target

  as_many : (rs : List WaitingRead) → waiting_reads plan h port ≡ rs
      → length rs ≡ length (queued_reads plan h port) - reads_taken h port
  as_many rs waits = sym (ap length waits) ∙ length-drop (reads_taken h port) (queued_reads plan h port)

  unknown_link : has_link plan link ≡ false → w ≡ v.Nothing → RespondsAsDue plan h link w
  unknown_link has is = record {
    unknown = λ none. is;
    empty = λ known. absurd (true≢false (sym known ∙ has));
    oldest = λ known less. absurd (true≢false (sym known ∙ has));
  }

  by_reads : has_link plan link ≡ true → (rs : List WaitingRead) → waiting_reads plan h port ≡ rs
      → w ≡ first_answered answer link rs → RespondsAsDue plan h link w
  by_reads has [] waits is =
      let left = as_many [] waits in
      let le = takes_first plan h cause port in
      record {
        unknown = λ none. absurd (true≢false (sym has ∙ none));
        empty = λ known. (λ same. omega (arith, left, le), λ all. is);
        oldest = λ known less. absurd (omega (arith, left, less));
      }
  by_reads has (r ∷ rs) waits is =
      let left = as_many (r ∷ rs) waits in
      let first = drop_first (reads_taken h port) (queued_reads plan h port) r rs waits in
      let judged = is_judged plan h cause link has r first w is in
      let came = judged.of.read.came in
      record {
        unknown = λ none. absurd (true≢false (sym has ∙ none));
        empty = λ known. (
          λ same. absurd (true≢false (ap is_empty (sym same ∙ judged.is)
              ∙ never_empty plan h came judged.of.interface.number _ _)),
          λ all. absurd (let size : suc (length rs) ≡ length (r ∷ rs) = refl in omega (arith, left, size, all)),
        );
        oldest = λ known less. exact_of plan fits h cause link has w judged.of _ refl judged.is;
      }

  responds_as_due : w ≡ due plan h (Access (ae.Respond link)) → RespondsAsDue plan h link w
  unfolding due
  responds_as_due is = by (has_link plan link) refl is
    where
      by : (b : Bool) → has_link plan link ≡ b
          → w ≡ (if b then first_answered answer link (waiting_reads plan h port) else v.Nothing)
          → RespondsAsDue plan h link w
      by false has is = unknown_link has is
      by true has is = by_reads has (waiting_reads plan h port) refl is

responds_exactly : (plan : Plan) → FitsPlan plan → (h : History) (e : Event) (w : Verdict) → CauseLaw plan h
    → w ≡ due plan h e → RespondsExactly plan h e w
responds_exactly plan fits h (Access (ae.Respond link)) w cause is = responds_as_due plan fits h cause link w is
responds_exactly plan fits h e w cause is = tt

pub respond_law : (plan : Plan) → FitsPlan plan → (h : History) → CauseLaw plan h → RespondLaw plan h
respond_law plan fits [] cause = tt
respond_law plan fits ((e, w) ∷ h) cause =
    (responds_exactly plan fits h e w cause.1 cause.0, respond_law plan fits h cause.1)
