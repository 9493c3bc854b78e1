-- Answers take the oldest read that waits, from memory as it is then: an answer that sealed passed each test of the
-- rule, so its interface's view is Running, read and key are of draws from the floor on, and the completion's stream is
-- the bound one. Its packets are those of a send of the completion.
use Rattle.law_sealing.proofs.Terms.{◌≡◌, ℕ, ◌≤◌, ◌==◌, ◌&&◌, Ok, Bool, true, false, not, nat_lt, List, []}
use Rattle.law_sealing.proofs.Terms.{◌∷◌, ◌++◌, Option, Some, None, refl, ap, sym, subst, ◌∙◌, arith, nat_tests}
use Rattle.law_sealing.proofs.Terms.{if◌then◌else◌, unwrap_or, Plan, History, Event, Verdict, Sealed, PortName}
use Rattle.law_sealing.proofs.Terms.{SealedPacket, SealedList, CauseLaw, AllByRecursion, DrawFacts, sent_bytes}
use Rattle.law_sealing.proofs.Terms.{sealing_is, IsLive, AllLive, all_live, sealed_packets, lane_out}
use Rattle.law_sealing.proofs.Terms.{live_key, KeyName, SubKind, Cpl, lanes_at, Tlp, header, class_of, read_of}
unfoldable use Rattle.law_sealing.proofs.Terms.{due}
use Rattle.law_sealing.proofs.Sealings.{AllOf, all_of_sealing, live_at, from_at}
use Rattle.tlp_layout.specs.Outgoing.{Outgoing, NoTlp, OnNone, OnStream, stream_taken}
use Rattle.spec_links.proofs.Terms.{Access, WaitingRead, Site, site_of_requester, granted_to, answer_due, site_answer}
use Rattle.spec_links.proofs.Terms.{completion_verdict, outgoing_completion, is_stream, is_before}
use Rattle.spec_links.proofs.Terms.{binding_cause, judged_by, answer_judged}
use Rattle.spec_links.specs.Due.{send_due, draw_of, first_that_holds, refusals}
use Rattle.spec_links.specs.Memory.{writes}
use Rattle.spec_links.specs.History.{no_packet}
use Rattle.trusted_memory.specs.Writes.{byte_last_written}
use Rattle.spec_interfaces.specs.Views.{view_at, floor_at}
use Rattle.spec_interfaces.specs.Cause.{SealFits, t_at, owner_read, owners_link}
use Rattle.spec_interfaces.specs.Devices.{peer_t}
use Rattle.spec_links.specs.Plan.{has_link}
use Rattle.std.specs.Prelude.{length, nat_le}
use Rattle.ide_types.specs.declared.binding.Binding.{Binding}
use Rattle.ide_types.specs.declared.port.Side.TheVariants.{Host}
use Rattle.ide_types.specs.Ports.{host_port}
use Rattle.spec_links.specs.Terms.{host_completer}
use Rattle.spec_links.proofs.Causes.{sealing_comes}
use Rattle.event_verdicts.proofs.Admits.{Admits, binding_admits}
use Rattle.event_verdicts.specs.declared.verdict.BlockCause.{BlockCause}
use Rattle.event_verdicts.specs.declared.verdict.BlockCause.TheVariants as blocks
use Rattle.script_events.specs.declared.event.AccessEvent.TheVariants as ae
use Rattle.event_verdicts.specs.declared.access.AccessVerdict.TheVariants as av
use Rattle.ide_types.specs.declared.verdict.InterfaceVerdict.TheVariants as iv
use Rattle.event_verdicts.specs.declared.verdict.Verdict.TheVariants as v
use Rattle.law_reads.proofs.Oldest.{takes, clash, First, first_means, bytes_are}
use Rattle.law_reads.proofs.Order.{reads_in_order}
use Rattle.law_reads.proofs.Requesters.{requester_meets, same_number}
use Rattle.law_memory.specs.ReadLaws.{IsOldest, Carries, IsReadAnswered, IsDropped, AnswersOldest, ReadLaw}
use Rattle.law_memory.proofs.Causes.{sent_fits}
use Rattle.law_memory.proofs.Completions.{completion_class}
use Rattle.law_memory.proofs.Found.{found_by_number}
use Rattle.law_memory.proofs.Origins.{if_bound}
use Rattle.std.proofs.lemmas.Bool.{true≢false}

-- ---- the oldest that waits

-- what it comes to
abbrev pub host_answer : Plan → History → ℕ → WaitingRead → Verdict
host_answer plan h link r = site_answer plan h (host_port link) r.came.draw
    (site_of_requester plan link r.read.requester) (outgoing_completion plan h link)

abbrev pub FirstAnswered : Plan → History → ℕ → Verdict → Type 0
FirstAnswered plan h link w = First plan h (host_port link) (host_answer plan h link) w

pub record Owned (plan : Plan) (h : History) (link : ℕ) (w : Verdict) (read : WaitingRead) : Type 0 where
  pub site : Site
  pub owns : site_of_requester plan link read.read.requester ≡ Some site
  pub is : w ≡ completion_verdict plan h (host_port link) site.number read.came.draw
      (granted_to h (Some site)) (outgoing_completion plan h link)

pub owned_means : (plan : Plan) (h : History) (link : ℕ) (w : Verdict) (read : WaitingRead) (o : Option Site)
    → takes w ≡ true → site_of_requester plan link read.read.requester ≡ o
    → w ≡ site_answer plan h (host_port link) read.came.draw o (outgoing_completion plan h
    link)
    → Owned plan h link w read
owned_means plan h link w read None take owns is = absurd (clash w v.Nothing take refl is)
owned_means plan h link w read (Some x) take owns is = record { site = x; owns = owns; is = is }

abbrev oldest_of : (plan : Plan) (h : History) (link : ℕ) (w : Verdict) (first : FirstAnswered plan h link w)
    (owned : Owned plan h link w first.read) → IsOldest plan h link
oldest_of plan h link w first owned =
    let meets = requester_meets plan link first.read.read.requester owned.site owned.owns in
    record {
      read = first.read;
      oldest = first.oldest;
      interface = owned.site;
      known = found_by_number plan
          (λ x. (x.link == link) && (x.plan.requester == first.read.read.requester)) owned.site owned.owns;
      link_is = meets.0;
      requester = sym meets.1;
    }

-- ---- dropped

dropped_number : (i n : ℕ) (c d : BlockCause) → v.Access (av.Dropped i c) ≡ v.Access (av.Dropped n d) → n ≡ i
dropped_number i n c d is = cc (is)

abbrev is_sent : Verdict → Bool
is_sent (v.Access (av.Dropped interface cause)) = false
is_sent _ = true

-- nothing that a send comes to
not_sent : (i : ℕ) (c : BlockCause) (w : Verdict) → is_sent w ≡ true → v.Access (av.Dropped i c) ≡ w → ⊥
not_sent i c w sent is = true≢false (sym sent ∙ sym (ap is_sent is))

first_sent : (xs : List (Bool × Verdict)) (last : Verdict) → AllByRecursion (λ (x : Bool × Verdict). is_sent x.1 ≡ true)
    xs → is_sent last ≡ true → is_sent (unwrap_or (first_that_holds xs) last) ≡ true
first_sent [] last all ends = ends
first_sent ((true, w) ∷ xs) last all ends = all.0
first_sent ((false, w) ∷ xs) last all ends = first_sent xs last all.1 ends

send_sent : (plan : Plan) (h : History) (port : PortName) (out : Outgoing)
    → is_sent (send_due plan h port out false true) ≡ true
send_sent plan h port (NoTlp f) = refl
send_sent plan h port OnNone = refl
send_sent plan h port (OnStream t stream) = first_sent (refusals (lanes_at plan h port stream) (class_of (header t))) _
    (refl, (refl, (refl, (refl, (refl, (refl, (refl, (refl, tt)))))))) refl

dropped_by : (plan : Plan) (h : History) (port : PortName) (i n draw : ℕ) (cause : BlockCause) (o : Option Binding)
    (out : Outgoing) → v.Access (av.Dropped i cause) ≡ completion_verdict plan h port n draw o out → n ≡ i
dropped_by plan h port i n draw cause None out is = dropped_number i n cause blocks.NotRunning is
dropped_by plan h port i n draw cause (Some b) out is =
    by (binding_cause b (stream_taken out) draw) is
  where
    admitted : (r : Bool) → v.Access (av.Dropped i cause) ≡ (if r
        then v.Interface (iv.RefusedRefreshFirst (draw_of (live_key h port (lane_out port b.stream Cpl))) b.floor)
        else send_due plan h port out false true) → n ≡ i
    admitted true is = absurd cc
    admitted false is = absurd (not_sent i cause _ (send_sent plan h port out) is)

    by : (c : Option BlockCause) → v.Access (av.Dropped i cause) ≡ answer_judged plan h port out (judged_by n b c)
        → n ≡ i
    by (Some c) is = dropped_number i n cause c is
    by None is = admitted (is_before (live_key h port (lane_out port b.stream Cpl)) b.floor) is

dropped_with : (plan : Plan) (h : History) (link i : ℕ) (cause : BlockCause)
    (first : FirstAnswered plan h link (v.Access (av.Dropped i cause)))
    (owned : Owned plan h link (v.Access (av.Dropped i cause)) first.read) → IsDropped plan h link i
dropped_with plan h link i cause first owned = record {
  of = oldest_of plan h link (v.Access (av.Dropped i cause)) first owned;
  number = dropped_by plan h (host_port link) i owned.site.number first.read.came.draw cause
      (granted_to h (Some owned.site)) (outgoing_completion plan h link) owned.is;
}

dropped : (plan : Plan) (h : History) (link i : ℕ) (cause : BlockCause)
    → v.Access (av.Dropped i cause) ≡ answer_due plan h link → IsDropped plan h link i
dropped plan h link i cause is =
    let w = v.Access (av.Dropped i cause) in
    let first = first_means plan h (host_port link) (host_answer plan h link) w refl is in
    dropped_with plan h link i cause first
    (owned_means plan h link w first.read (site_of_requester plan link first.read.read.requester) refl refl first.is)

-- ---- sealed

pub record Under (plan : Plan) (h : History) (link : ℕ) (ds : List SealedPacket) (x : Site) (draw : ℕ) : Type 0 where
  pub bound : Binding
  pub is : granted_to h (Some x) ≡ Some bound
  pub stream : is_stream bound.stream (stream_taken (outgoing_completion plan h link)) ≡ true
  pub fresh : nat_lt draw bound.floor ≡ false
  pub key : is_before (live_key h (host_port link)
      (lane_out (host_port link) bound.stream Cpl)) bound.floor ≡ false
  pub sent : Sealed ds ≡ send_due plan h (host_port link) (outgoing_completion plan h
      link)
      false true

pub under_means : (plan : Plan) (h : History) (link : ℕ) (ds : List SealedPacket) (x : Site) (draw : ℕ)
    (o : Option Binding) → granted_to h (Some x) ≡ o → Sealed ds
    ≡ completion_verdict plan h (host_port link) x.number draw o
    (outgoing_completion plan h link) → Under plan h link ds x draw
under_means plan h link ds x draw None bound is = absurd cc
under_means plan h link ds x draw (Some b) bound is =
    by (binding_cause b (stream_taken (outgoing_completion plan h link)) draw) refl is
  where
    admitted : Admits b (stream_taken (outgoing_completion plan h link)) draw → (r : Bool)
        → is_before (live_key h (host_port link)
        (lane_out (host_port link) b.stream Cpl)) b.floor ≡ r
        → Sealed ds ≡ (if r then v.Interface
        (iv.RefusedRefreshFirst (draw_of (live_key h (host_port link)
        (lane_out (host_port link) b.stream Cpl))) b.floor)
        else send_due plan h (host_port link) (outgoing_completion plan h link) false
        true)
        → Under plan h link ds x draw
    admitted a true k is = absurd cc
    admitted a false k is = record
        { bound = b; is = bound; stream = a.stream; fresh = a.fresh; key = k; sent = is }

    by : (c : Option BlockCause) → binding_cause b (stream_taken (outgoing_completion plan h link)) draw ≡ c → Sealed ds
        ≡ answer_judged plan h (host_port link) (outgoing_completion plan h link)
        (judged_by x.number b c) → Under plan h link ds x draw
    by (Some c) blocked is = absurd cc
    by None none is =
        admitted (binding_admits b (stream_taken (outgoing_completion plan h link)) draw none)
        (is_before (live_key h (host_port link)
        (lane_out (host_port link) b.stream Cpl)) b.floor) refl is

none_before : (o : Option KeyName) (key : KeyName) (floor : ℕ) → o ≡ Some key → is_before o floor ≡ false
    → floor ≤ key.draw
none_before None key floor is none = absurd cc
none_before (Some k) key floor is none =
    let same : k ≡ key = cc (is) in subst (λ (z : KeyName). floor ≤ z.draw) same (grind (arith, nat_tests))

-- the stream that the completion took is the bound one
took : (out : Outgoing) (t : Tlp) (bound stream : ℕ) → out ≡ OnStream t stream
    → is_stream bound (stream_taken out) ≡ true → stream ≡ bound
took out t bound stream comes is =
    sym (same_number bound stream (subst (λ (o : Outgoing). is_stream bound (stream_taken o) ≡ true) comes is))

abbrev answering_event : ℕ → Event
answering_event link = Access (ae.Answer link)

abbrev host_owner : Plan → History → ℕ → Option Site
host_owner plan h link = owner_read plan (owners_link plan (record { side = Host; line = link }))
    (read_of (sent_bytes plan h (Access (ae.Answer link))))

-- the end of a link's host is of no stream between devices
host_t : (plan : Plan) (h : History) (link : ℕ) (owner : Option Site) (stream : ℕ) → has_link plan link ≡ true
    → t_at plan h (record { side = Host; line = link }) owner stream true ≡ true
host_t plan h link owner stream has = by (nat_le 24 link) (nat_lt link (length plan.links)) has
  where
    by : (late there : Bool) → there ≡ true → (if late && not there then peer_t plan h owner stream else true) ≡ true
    by late there is = grind arith

carried : (plan : Plan) (h : History) (link : ℕ) (x : Site) (bound : Binding) (port : PortName) (stream : ℕ)
    (d : SealedPacket) → bound ≡ record { stream = x.plan.stream; floor = floor_at h x }
    → port ≡ host_port link → stream ≡ bound.stream
    → is_before (live_key h (host_port link)
    (lane_out (host_port link) bound.stream Cpl)) bound.floor ≡ false
    → IsLive plan h port stream d → (d.sync ≡ false → d.sub ≡ Cpl)
    → has_link plan link ≡ true → SealFits plan h (sent_bytes plan h (Access (ae.Answer link))) true d
    → Carries h link x d
carried plan h link x bound port stream d bound_is port_is stream_is key live class has fits = record {
  port_is = live.port_is ∙ port_is;
  stream_is = live.stream_is ∙ (stream_is ∙ ap (λ (c : Binding). c.stream) bound_is);
  t_is = λ plain. fits.t_is ∙ ((λ i. if plain i then false
      else t_at plan h ((live.port_is ∙ port_is) i)
      (owner_read plan (owners_link plan ((live.port_is ∙ port_is) i))
      (read_of (sent_bytes plan h (answering_event link))))
      d.stream true) ∙ host_t plan h link (host_owner plan h link) d.stream has);
  sub_is = class;
  draw_is = λ plain.
      let is_cpl = class plain in
      let there : live_key h (host_port link)
      (lane_out (host_port link) bound.stream Cpl) ≡ Some live.key =
      sym (λ i. live_key h (port_is i) (lane_out (port_is i) (stream_is i) (is_cpl i))) ∙ live.live in
      let up = none_before _ live.key bound.floor there key in
      let floor : bound.floor ≡ floor_at h x = ap (λ (c : Binding). c.floor) bound_is in
      omega (arith, up, floor, live.draw);
}

all_carried : (plan : Plan) (h : History) (link : ℕ) (x : Site) (bound : Binding) (port : PortName) (stream : ℕ)
    (ds : List SealedPacket) → bound ≡ record { stream = x.plan.stream; floor = floor_at h x }
    → port ≡ host_port link → stream ≡ bound.stream
    → is_before (live_key h (host_port link)
    (lane_out (host_port link) bound.stream Cpl)) bound.floor ≡ false
    → AllLive plan h port stream ds → AllByRecursion (λ (d : SealedPacket). d.sync ≡ false → d.sub ≡ Cpl) ds
    → has_link plan link ≡ true → AllByRecursion (SealFits plan h (sent_bytes plan h (Access (ae.Answer link))) true) ds
    → AllByRecursion (Carries h link x) ds
all_carried plan h link x bound port stream [] a b c key live class has fits = tt
all_carried plan h link x bound port stream (d ∷ ds) a b c key live class has fits = (
  carried plan h link x bound port stream d a b c key live.0 class.0 has fits.0,
  all_carried plan h link x bound port stream ds a b c key live.1 class.1 has fits.1,
)

-- each packet but a sync packet is of the sub-stream of its TLP
all_class : (plan : Plan) (port : PortName) (stream : ℕ) (live : SubKind → Option KeyName) (from : ℕ) (class : SubKind)
    (xs : SealedList) (ds : List SealedPacket) → class ≡ Cpl → AllOf plan port stream live from class xs ds
    → AllByRecursion (λ (d : SealedPacket). d.sync ≡ false → d.sub ≡ Cpl) ds
all_class plan port stream live from class xs [] is all = tt
all_class plan port stream live from class xs (d ∷ ds) is all = (
  λ plain. sym (all.0.class_is plain) ∙ is,
  all_class plan port stream live from class (xs ++ (d, no_packet) ∷ []) ds is (all.1 no_packet),
)

pub not_less : (m n : ℕ) → nat_lt m n ≡ false → n ≤ m
not_less m n e = grind (arith, nat_tests)

-- ---- the completion

answered_with : (plan : Plan) → DrawFacts plan → (h : History) (link : ℕ) (ds : List SealedPacket) → CauseLaw plan h
    → Sealed ds ≡ due plan h (Access (ae.Answer link)) → (first : FirstAnswered plan h link (Sealed ds))
    (owned : Owned plan h link (Sealed ds) first.read) → Under plan h link ds owned.site first.read.came.draw
    → IsReadAnswered plan h link ds
answered_with plan facts h link ds cause due_is first owned under =
    let e = Access (ae.Answer link) in
    let bytes = bytes_are plan h link first.read cause first.oldest in
    let view = if_bound (view_at h owned.site) owned.site.plan.stream (floor_at h owned.site) under.bound under.is in
    let sealing = sealing_is plan h e ds due_is in
    let reads = subst (λ (bs : List ℕ). read_of bs ≡ Ok sealing.tlp) bytes sealing.reads in
    let class = sealing.class ∙ completion_class host_completer (byte_last_written (writes plan h)) first.read.read
    sealing.tlp reads
    in
    let t = sealing.sending in
    let stream =
    took (outgoing_completion plan h link) sealing.tlp under.bound.stream t.stream
    (sealing_comes plan h e ds due_is refl) under.stream in
    record {
      of = oldest_of plan h link (Sealed ds) first owned;
      view = view.0;
      floor =
          let f : under.bound.floor ≡ floor_at h owned.site = ap (λ (c : Binding). c.floor) view.1 in
          let up = not_less first.read.came.draw under.bound.floor under.fresh in
          omega (arith, f, up);
      bytes = bytes;
      tlp = sealing.tlp;
      reads = sealing.reads;
      packets = all_carried plan h link owned.site under.bound t.port t.stream ds view.1 sealing.at_port stream
          under.key (all_live plan h (host_port link) (sent_bytes plan h e) ds sealing)
          (all_class plan t.port t.stream (live_at plan h t.port t.stream) (from_at plan h t.port t.stream) t.class
          (sealed_packets plan h) ds class
          (all_of_sealing plan facts h cause (host_port link) (sent_bytes plan h e) ds sealing))
          first.known
          (sent_fits plan h (host_port link) (sent_bytes plan h e) false true ds (λ host. absurd cc) under.sent);
    }

answered : (plan : Plan) → DrawFacts plan → (h : History) (link : ℕ) (ds : List SealedPacket) → CauseLaw plan h
    → Sealed ds ≡ due plan h (Access (ae.Answer link)) → Sealed ds ≡ answer_due plan h link
    → IsReadAnswered plan h link ds
answered plan facts h link ds cause due_is is =
    let first = first_means plan h (host_port link) (host_answer plan h link) (Sealed ds) refl is in
    let owned = owned_means plan h link (Sealed ds) first.read (site_of_requester plan link first.read.read.requester)
    refl refl
    first.is in
    answered_with plan facts h link ds cause due_is first owned
    (under_means plan h link ds owned.site first.read.came.draw (granted_to h (Some owned.site)) refl owned.is)

answers_oldest : (plan : Plan) → DrawFacts plan → (h : History) (e : Event) (w : Verdict) → CauseLaw plan h
    → w ≡ due plan h e → AnswersOldest plan h e w
unfolding due
answers_oldest plan facts h (Access (ae.Answer link)) (Sealed ds) cause is = answered plan facts h link ds cause is is
answers_oldest plan facts h (Access (ae.Answer link)) (v.Access (av.Dropped i c)) cause is = dropped plan h link i c is
answers_oldest plan facts h e w cause is = tt

-- ---- the law

pub read_law : (plan : Plan) → DrawFacts plan → (h : History) → CauseLaw plan h → ReadLaw plan h
read_law plan facts [] cause = tt
read_law plan facts ((e, w) ∷ h) cause =
    let order = reads_in_order plan ((e, w) ∷ h) cause in
    (answers_oldest plan facts h e w cause.1 cause.0, order.0, order.1, read_law plan facts h cause.1)
