-- What each sealed packet carries, and where it comes from.
use Rattle.std.proofs.Common.{◌≡◌, ℕ, ◌+◌, ◌-◌, ◌≤◌, ◌==◌, ◌∷◌, ◌++◌, Bool, true, false, List, [], Some, None}
use Rattle.std.proofs.Common.{Ok, slice_get, length, refl, ap, sym, subst, ◌∙◌, arith, length-append}
use Rattle.std.specs.Prelude.{if◌then◌else◌, is_some}
use Rattle.std.specs.List.{AllByRecursion}
use Rattle.std.proofs.lemmas.Bool.{true≢false}
use Rattle.std.proofs.lemmas.Bool.Decides.{nat_tests}
use Rattle.std.proofs.lemmas.List.{nil_from_length}
use Rattle.ide_types.specs.Fits.{FitsPlan}
use Rattle.ide_types.specs.declared.direction.Direction.{Direction}
use Rattle.ide_types.specs.declared.sub.SubKind.TheVariants.{Npr, Cpl}
use Rattle.gcm_seal.proofs.Strings.{length-masked_bytes}
use Rattle.ide_prefix.specs.Units.{encrypted_bytes}
use Rattle.tlp_layout.proofs.Readings.{read_spells_tlp}
use Rattle.spec_stream.specs.Sending.{Sending, Lanes, needs_sync}
use Rattle.spec_links.specs.Terms.{Plan, PortName, Event, Send, Access, SealedPacket, Verdict, History, Packet, Tlp}
use Rattle.spec_links.specs.Terms.{header, body, read_of, masked_bytes, iv_of, sync_head}
use Rattle.spec_links.specs.Cause.{CauseLaw}
use Rattle.spec_links.specs.Plan.{key_of, stream_plan}
use Rattle.spec_links.specs.History.{SealedList, packet_by_number, sub_stream_of, sent_bytes, sending_port, with_sealed}
use Rattle.spec_links.specs.History.{ahead_of_packet, port_keys}
use Rattle.spec_keys.specs.History.{base}
unfoldable use Rattle.spec_links.specs.History.{sealed_packets, packet_of, sub_stream_packets}
unfoldable use Rattle.spec_links.specs.Units.{open_unit}
unfoldable use Rattle.spec_links.specs.Sent.{bytes_by}
use Rattle.spec_links.specs.Hops.{HopTlp, has_hop, leaving_end}
use Rattle.spec_links.specs.Memory.{hop_waiting, writes}
use Rattle.spec_links.specs.Due.{lanes_at, forward_first}
unfoldable use Rattle.spec_links.specs.Due.{due}
use Rattle.spec_links.proofs.Growth.{with_grows, at_front}
use Rattle.spec_links.proofs.HopFirst.{forwarded_bytes}
use Rattle.spec_links.proofs.Senders.{sealed_by_is}
unfoldable use Rattle.spec_links.proofs.Senders.{listed_seals}
use Rattle.spec_links.proofs.SealingIs.{sealing_is, IsSealing, IsLive, AllLive, all_live, sealed_by_sealing}
unfoldable use Rattle.trusted_memory.specs.Completions.{completion_bytes}
use Rattle.law_memory.specs.ReadLaws.{IsReadAnswered, Carries}
use Rattle.law_memory.proofs.Found.{get_behind}
use Rattle.law_locks.proofs.{draws, read_law}
use Rattle.law_mmio.proofs.Numbers.{last_byte}
use Rattle.event_verdicts.specs.declared.access.AccessVerdict.TheVariants as av
use Rattle.event_verdicts.specs.declared.verdict.Verdict.TheVariants as v
use Rattle.script_events.specs.declared.event.Event.TheVariants.{Forward}
use Rattle.script_events.specs.declared.event.AccessEvent.TheVariants as ae
use Rattle.std.proofs.Common.{subst₂}
use Rattle.std.proofs.lemmas.Bool.{and_parts, eqb-true}
use Rattle.std.specs.Option.{option_map_or}
use Rattle.std.proofs.Common.{Option}
use Rattle.interface_state.specs.Bars.{bars_of}
use Rattle.interface_state.specs.Bindings.{floor_on}
use Rattle.guarded_memory.specs.declared.status.InterfaceStatus.{InterfaceStatus}
use Rattle.guarded_memory.proofs.Claimed.{claimed}
use Rattle.trusted_memory.specs.Completions.{completion_head, read_bytes}
use Rattle.tlp_layout.specs.Head.{head_bytes}
use Rattle.ide_types.specs.declared.sub.SubKind.{SubKind}
use Rattle.spec_interfaces.specs.{byte_shown}
use Rattle.spec_interfaces.specs.Devices.{interface_at}
use Rattle.spec_interfaces.proofs.Locks.{layout_at}
use Rattle.ide_types.specs.declared.interface.InterfacePlan.{InterfacePlan}
use Rattle.spec_links.specs.Terms.{Claim, ReadArrival, Site, WaitingRead, claimed_byte, history_statuses, least_draw}
use Rattle.spec_links.specs.Terms.{site_on}
use Rattle.spec_links.specs.Guarded.{link_happenings}
use Rattle.spec_links.specs.History.{KeyName, live_key}
use Rattle.spec_links.specs.Plan.{lane_out}
use Rattle.spec_links.specs.Due.{is_before}
use Rattle.spec_links.specs.Sent.{claim_completion}
use Rattle.law_reads.proofs.Oldest.{response_bytes_are}
use Rattle.law_memory.proofs.Packets.{IsOf}
use Rattle.law_memory.proofs.Responses.{Responded, claim_stands, responded, response_class, response_packets}
use Rattle.law_memory.proofs.Responses.{response_sending, trusted_response}
use Rattle.law_sending.specs.Choice.{GoesOnStream}
use Rattle.law_sending.specs.Trust.{IsFirstWaiting}
use Rattle.law_sending.specs.Origins.{CarriesTlp, CarriesNothing, ComesFrom, IsBoundFor, IsSealedAt}
use Rattle.law_sending.specs.Origins.{HasSource, HaveSources}
use Rattle.law_sending.proofs.Choice.{chosen}
use Rattle.law_sending.proofs.Trust.{send_may}
use Rattle.law_sending.proofs.Waiting.{first_waits}
use Rattle.law_verdicts.proofs.Answers.{head_is, body_is}
use Rattle.spec_keys.specs.Keys.{On, key_in}
use Rattle.ide_types.specs.Ends.{link_hop}
use Rattle.ide_types.specs.declared.plan.HopPlan.{HopPlan}
use Rattle.ide_types.specs.declared.direction.Direction.TheVariants.{Downstream, Upstream}
use Rattle.law_key_facts.proofs.SealedKeys.{live_on}
use Rattle.law_hops.proofs.Crossing.{IsLone}
use Rattle.law_hops.proofs.Crosses.{HasHop, few_links, near_lone, far_lone}

-- ---- lists

both_all : {A : Type 0} {P Q R : A → Type 0} → ((a : A) → P a → Q a → R a) → (xs : List A) → AllByRecursion P xs
    → AllByRecursion Q xs → AllByRecursion R xs
both_all f [] one two = tt
both_all f (x ∷ xs) one two = (f x one.0 two.0, both_all f xs one.1 two.1)

-- ---- numbers

abbrev AreNumbered : ℕ → List SealedPacket → Type 0
AreNumbered n [] = Unit {0}
AreNumbered n (d ∷ ds) = (d.number ≡ n) × AreNumbered (n + 1) ds

listed_numbers : (x : Lanes) (s : Sending) (number : ℕ) (n c : Bool) → AreNumbered number (listed_seals x s number n c)
unfolding listed_seals
listed_numbers x s number false false = (omega arith, tt)
listed_numbers x s number true false = (refl, (omega arith, tt))
listed_numbers x s number false true = (omega arith, (omega arith, tt))
listed_numbers x s number true true = (refl, (omega arith, (omega arith, tt)))

numbers : (plan : Plan) (h : History) (port : PortName) (bytes : List ℕ) (ds : List SealedPacket)
    → IsSealing plan h port bytes ds → AreNumbered (length (sealed_packets plan h) + 1) ds
numbers plan h port bytes ds is =
    let s = is.sending in
    let x = lanes_at plan h s.port s.stream in
    subst (λ (n : ℕ). AreNumbered n ds) is.next
    (subst (AreNumbered is.number) (sym (is.list ∙ sealed_by_is x s is.number))
    (listed_numbers x s is.number (needs_sync x s.class Npr) (needs_sync x s.class Cpl)))

-- ---- each packet at its number

record Stands (plan : Plan) (ahead : SealedPacket → List ℕ) (bytes : List ℕ) (zs : SealedList) (d : SealedPacket)
    : Type 0 where
  unfinished : List Packet
  shown : packet_by_number zs d.number ≡ Some (d, packet_of plan (ahead d) bytes d unfinished)

by_number : (zs : SealedList) (n k : ℕ) (x : SealedPacket × Packet) → n ≡ k + 1 → slice_get zs k ≡ Some x
    → packet_by_number zs n ≡ Some x
by_number zs n k x is at =
    let less : n - 1 ≡ k = omega (arith, is) in
    let some : (n == 0) ≡ false = grind (arith, nat_tests) in
    ap (λ (b : Bool). if b then None else slice_get zs (n - 1)) some ∙ (ap (slice_get zs) less ∙ at)

all_stand : (plan : Plan) (ahead : SealedPacket → List ℕ) (bytes : List ℕ) (ds : List SealedPacket) (xs : SealedList)
    → AreNumbered (length xs + 1) ds
    → AllByRecursion (Stands plan ahead bytes (with_sealed plan ahead bytes ds xs)) ds
all_stand plan ahead bytes [] xs numbered = tt
all_stand plan ahead bytes (d ∷ ds) xs numbered =
    let unfinished = open_unit (sub_stream_packets xs (sub_stream_of d) d.draw) in
    let x : SealedPacket × Packet = (d, packet_of plan (ahead d) bytes d unfinished) in
    let grown = with_grows plan ahead bytes ds (xs ++ x ∷ []) in
    let place : length xs + 0 ≡ length xs = omega arith in
    let last : slice_get (xs ++ x ∷ []) (length xs) ≡ Some x =
    ap (slice_get (xs ++ x ∷ [])) (sym place) ∙ get_behind xs (x ∷ []) 0 in
    let at = (at_front (xs ++ x ∷ []) grown.0 (length xs) x last).0 in
    let size : length (xs ++ x ∷ []) + 1 ≡ length xs + 1 + 1 = ap (λ (n : ℕ). n + 1) (length-append xs (x ∷ [])) in (
      record {
        unfinished = unfinished;
        shown = by_number (with_sealed plan ahead bytes ds (xs ++ x ∷ [])) d.number (length xs) x numbered.0
            (ap (λ (zs : SealedList). slice_get zs (length xs)) (sym grown.1) ∙ at);
      },
      all_stand plan ahead bytes ds (xs ++ x ∷ []) (subst (λ (n : ℕ). AreNumbered n ds) (sym size) numbered.1),
    )

-- ---- what it carries

sync_head_is : (plan : Plan) (ahead bytes : List ℕ) (d : SealedPacket) (unfinished : List Packet)
    → d.sync ≡ true → (packet_of plan ahead bytes d unfinished).head ≡ sync_head
unfolding packet_of
sync_head_is plan ahead bytes d unfinished sync = rw sync refl

sync_body_is : (plan : Plan) (ahead bytes : List ℕ) (d : SealedPacket) (unfinished : List Packet)
    → d.sync ≡ true → (packet_of plan ahead bytes d unfinished).body
    ≡ masked_bytes (key_of plan d.draw (sub_stream_of d)) (iv_of d.sub d.unit) (length (encrypted_bytes unfinished)) []
unfolding packet_of
sync_body_is plan ahead bytes d unfinished sync = rw sync refl

carries_nothing : (plan : Plan) (ahead bytes : List ℕ) (d : SealedPacket) (unfinished : List Packet)
    → d.sync ≡ true → CarriesNothing (packet_of plan ahead bytes d unfinished)
carries_nothing plan ahead bytes d unfinished sync = record {
  head = sync_head_is plan ahead bytes d unfinished sync;
  body = sync_body_is plan ahead bytes d unfinished sync ∙ nil_from_length _
      (length-masked_bytes (key_of plan d.draw (sub_stream_of d)) (iv_of d.sub d.unit)
      (length (encrypted_bytes unfinished)) []);
}

carries_tlp : (plan : Plan) (ahead bytes : List ℕ) (d : SealedPacket) (unfinished : List Packet) (t : Tlp)
    → d.sync ≡ false → read_of bytes ≡ Ok t → CarriesTlp plan d (packet_of plan ahead bytes d unfinished) bytes
carries_tlp plan ahead bytes d unfinished t sync reads = record {
  payload = body t;
  tlp_is = ap (λ (bs : List ℕ). bs ++ body t) (head_is plan ahead bytes d unfinished t sync reads)
      ∙ sym ((read_spells_tlp t bytes).1 reads).spelled;
  offset = length (encrypted_bytes unfinished);
  body_is = body_is plan ahead bytes d unfinished t sync reads;
}

-- ---- where it comes from

-- what of one packet of an event has to be known
abbrev Comes : Plan → History → Event → SealedPacket → Type 0
Comes plan h e d = IsSealedAt plan h e d × (d.sync ≡ false → ComesFrom plan h e d (sent_bytes plan h e))

sealed_now : (plan : Plan) (h : History) (e : Event) (ds : List SealedPacket)
    → sealed_packets plan ((e, v.Sealed ds) ∷ h)
    ≡ with_sealed plan (ahead_of_packet plan (sealed_packets plan h) (base h)) (sent_bytes plan h e) ds
    (sealed_packets plan h)
unfolding sealed_packets
sealed_now plan h e ds = refl

sources : (plan : Plan) (h : History) (e : Event) (ds : List SealedPacket) → v.Sealed ds ≡ due plan h e
    → AllByRecursion (Comes plan h e) ds → AllByRecursion (HasSource plan h e ds) ds
sources plan h e ds is all =
    let bytes = sent_bytes plan h e in
    let xs = sealed_packets plan h in
    let ahead = ahead_of_packet plan xs (base h) in
    let s = sealing_is plan h e ds is in
    both_all {P = Stands plan ahead bytes (with_sealed plan ahead bytes ds xs)} {Q = Comes plan h e}
    {R = HasSource plan h e ds}
    (λ d stands comes.
    record {
      packet = packet_of plan (ahead d) bytes d stands.unfinished;
      shown = ap (λ (zs : SealedList). packet_by_number zs d.number) (sealed_now plan h e ds) ∙ stands.shown;
      at = comes.0;
      sync = λ sync. carries_nothing plan (ahead d) bytes d stands.unfinished sync;
      carries = λ carries. record {
        tlp = bytes;
        carries = carries_tlp plan (ahead d) bytes d stands.unfinished s.tlp carries s.reads;
        comes = comes.1 carries;
      };
    })
    ds (all_stand plan ahead bytes ds xs (numbers plan h (sending_port plan h e) bytes ds s)) all

given_all : (plan : Plan) (h : History) (end : PortName) (bytes : List ℕ) (more trusted : Bool) (t : Tlp)
    (ds : List SealedPacket) → read_of bytes ≡ Ok t
    → AllByRecursion (λ (d : SealedPacket). GoesOnStream plan end (header t) d.port d.stream) ds
    → AllByRecursion (Comes plan h (Send end bytes more trusted)) ds
unfolding bytes_by
given_all plan h end bytes more trusted t [] reads all = tt
given_all plan h end bytes more trusted t (d ∷ ds) reads all = (
  (tt, λ carries. record { given = refl; read = t; reads = reads; goes = all.0 }),
  given_all plan h end bytes more trusted t ds reads all.1,
)

given : (plan : Plan) → FitsPlan plan → (h : History) (end : PortName) (bytes : List ℕ) (more trusted : Bool)
    (ds : List SealedPacket) → CauseLaw plan ((Send end bytes more trusted, v.Sealed ds) ∷ h)
    → AllByRecursion (Comes plan h (Send end bytes more trusted)) ds
unfolding bytes_by
given plan fits h end bytes more trusted ds cause =
    let e = Send end bytes more trusted in
    let s = sealing_is plan h e ds cause.0 in
    let can = send_may plan h end bytes more trusted ds cause.0 in
    given_all plan h end bytes more trusted s.tlp ds s.reads
    ((chosen plan fits h e (v.Sealed ds) cause can s.tlp s.reads).sealed ds refl)

-- a packet that is sealed behind a switch is of its hop's stream
forwarded_stream : (plan : Plan) → FitsPlan plan → (h : History) → CauseLaw plan h → (link : ℕ) (way : Direction)
    → has_hop plan link ≡ true → (stream : ℕ) (d : SealedPacket) → IsLive plan h (leaving_end link way) stream d
    → (hop : HopPlan) → link_hop (slice_get plan.links link) ≡ Some hop → d.stream ≡ hop.id
forwarded_stream plan fits h cause link way known stream d live hop is =
    let q = leaving_end link way in
    let on = subst (λ (p : PortName). key_in (port_keys h p (sub_stream_of d)) d.k ≡ On d.draw) (sym live.port_is)
    (live_on plan h q stream d live) in
    lone way d.stream (subst (λ (p : PortName). is_some (stream_plan plan p.line d.stream) ≡ true) live.port_is
    ((draws plan).known h cause d.port (sub_stream_of d) d.k d.draw on))
  where
    x : HasHop plan link
    x = record { below = few_links plan link known; hop = hop; is = is }

    lone : (way : Direction) → IsLone plan (leaving_end link way).line hop.id
    lone Downstream = far_lone plan fits link x
    lone Upstream = near_lone plan fits link x

accepted_all : (plan : Plan) → FitsPlan plan → (h : History) → CauseLaw plan h → (link : ℕ) (way : Direction)
    → has_hop plan link ≡ true → (x : HopTlp) (stream : ℕ) (ds : List SealedPacket) → IsFirstWaiting plan h link way x
    → sent_bytes plan h (Forward link way) ≡ x.bytes → AllLive plan h (leaving_end link way) stream ds
    → AllByRecursion (Comes plan h (Forward link way)) ds
accepted_all plan fits h cause link way known x stream [] waits bytes all = tt
accepted_all plan fits h cause link way known x stream (d ∷ ds) waits bytes all = (
  (
    (all.0.port_is, forwarded_stream plan fits h cause link way known stream d all.0),
    λ carries. record { first = x; waits = waits; came = bytes; at = all.0.port_is },
  ),
  accepted_all plan fits h cause link way known x stream ds waits bytes all.1,
)

accepted : (plan : Plan) → FitsPlan plan → (h : History) (link : ℕ) (way : Direction) (ds : List SealedPacket)
    → CauseLaw plan ((Forward link way, v.Sealed ds) ∷ h) → AllByRecursion (Comes plan h (Forward link way)) ds
unfolding due
accepted plan fits h link way ds cause = by (has_hop plan link) refl (hop_waiting plan h link way) refl cause.0
  where
    by : (b : Bool) → has_hop plan link ≡ b → (xs : List HopTlp) → hop_waiting plan h link way ≡ xs
        → v.Sealed ds ≡ (if b then forward_first plan h link way xs else v.Nothing)
        → AllByRecursion (Comes plan h (Forward link way)) ds
    by false known xs waits is = absurd cc
    by true known [] waits is = absurd (none is)
      where
        none : v.Sealed ds ≡ v.Access (av.Empty link) → ⊥
        none is = absurd cc
    by true known (x ∷ xs) waits is =
        let s = sealing_is plan h (Forward link way) ds cause.0 in
        accepted_all plan fits h cause.1 link way known x s.sending.stream ds
        (first_waits plan fits h cause.1 link way known x xs waits)
        (forwarded_bytes plan h link way x xs waits)
        (subst (λ (p : PortName). AllLive plan h p s.sending.stream ds) s.at_port
        (all_live plan h (leaving_end link way) (sent_bytes plan h (Forward link way)) ds s))

completed_all : (plan : Plan) (h : History) (link : ℕ) (whole ds : List SealedPacket)
    (a : IsReadAnswered plan h link whole) → AllByRecursion (Carries h link a.of.interface) ds
    → AllByRecursion (Comes plan h (Access (ae.Answer link))) ds
unfolding completion_bytes
completed_all plan h link whole [] a all = tt
completed_all plan h link whole (d ∷ ds) a all = (
  (
    all.0.port_is,
    λ carries. record {
      of = a.of;
      completion = a.bytes;
      stands = last_byte (writes plan h);
      runs = a.view;
      at = all.0.port_is;
      stream = all.0.stream_is;
      trusted = all.0.t_is carries;
      read_floor = a.floor;
      floor = all.0.draw_is carries;
    },
  ),
  completed_all plan h link whole ds a all.1,
)

-- ---- responses

-- the claim of the oldest read, by its interface and BAR
record IsClaimedNow (plan : Plan) (h : History) (link : ℕ) (ds : List SealedPacket) (a : Responded plan h link ds)
    : Type 0 where
  interface : a.claim.interface ≡ a.target.interface
  bar : a.claim.bar ≡ a.target.bar
  range : slice_get (bars_of a.interface.plan (interface_at plan h a.interface).registers) a.target.bar
      ≡ Some a.claim.range
  known : site_on plan link a.claim.interface ≡ Some a.interface

claimed_now : (plan : Plan) (h : History) (link : ℕ) (ds : List SealedPacket) (a : Responded plan h link ds)
    → IsClaimedNow plan h link ds a
claimed_now plan h link ds a =
    let parts = and_parts (a.claim.interface == a.target.interface) (a.claim.bar == a.target.bar) a.judged.same in
    let interface = eqb-true a.claim.interface a.target.interface parts.0 in
    let bar = eqb-true a.claim.bar a.target.bar parts.1 in
    let there = (claimed (history_statuses plan h link) a.read.read.span a.claim a.judged.claimed).bar in
    let stands = sym (claim_stands plan h link ds a) in
    record {
      interface = interface;
      bar = bar;
      range = ap (λ (p : InterfacePlan). slice_get (bars_of p (interface_at plan h a.interface).registers)
          a.target.bar) (sym (layout_at plan h a.interface)) ∙ ((λ i. slice_get (stands i).bars (sym bar i)) ∙ there);
      known = ap (site_on plan link) interface ∙ a.placed;
    }

shown_bytes : (plan : Plan) (h : History) (link : ℕ) (ds : List SealedPacket) → CauseLaw plan h
    → (a : Responded plan h link ds) → sent_bytes plan h (Access (ae.Respond link))
    ≡ head_bytes (completion_head a.interface.plan.requester a.read.read)
    ++ read_bytes (λ o. byte_shown (link_happenings plan h link) a.target.interface a.target.bar
    (o - a.claim.range.base)) a.read.read.span
unfolding completion_bytes
shown_bytes plan h link ds cause a =
    let now = claimed_now plan h link ds a in
    let happened = link_happenings plan h link in
    response_bytes_are plan h link a.read cause a.oldest
    ∙ (ap (claim_completion plan link happened a.read.read) a.judged.claimed
    ∙ (ap (λ (o : Option Site). completion_bytes (option_map_or (λ (x : Site). x.plan.requester) o 0)
    (claimed_byte (byte_shown happened) a.claim) a.read.read) now.known
    ∙ (λ i. completion_bytes a.interface.plan.requester
    (λ o. byte_shown happened (now.interface i) (now.bar i) (o - a.claim.range.base)) a.read.read)))

-- under no key from before the floor
key_fresh : (o : Option KeyName) (key : KeyName) (floor : ℕ) → o ≡ Some key → is_before o floor ≡ false
    → floor ≤ key.draw
key_fresh None key floor live late = absurd cc
key_fresh (Some k) key floor live late =
    let same : k ≡ key = cc (live) in
    subst (λ (z : KeyName). floor ≤ z.draw) same (grind (arith, nat_tests, late))

floor_least : (c : Claim) (came : ReadArrival) (floor : ℕ) → came.trusted ≡ true
    → floor_on came.stream c.status.bound ≡ Some floor → least_draw c came ≡ floor
floor_least c came floor trusted bound = rw (trusted, bound) refl

packet_fresh : (plan : Plan) (h : History) (link : ℕ) (ds : List SealedPacket) → CauseLaw plan h
    → (a : Responded plan h link ds) (d : SealedPacket) → IsOf (response_sending a.read.came a.tlp) d
    → IsLive plan h a.read.came.end a.read.came.stream d → d.sync ≡ false → a.read.came.trusted ≡ true
    → IsBoundFor plan h a.interface a.read.came d
packet_fresh plan h link ds cause a d of live carries trusted =
    let for = trusted_response plan h link ds a trusted in
    let came = a.read.came in
    let class : d.sub ≡ Cpl = of.sub_is carries ∙ response_class plan h link ds cause a in
    let lane : live_key h came.end (lane_out came.end came.stream Cpl) ≡ Some live.key =
    ap (λ (u : SubKind). live_key h came.end (lane_out came.end came.stream u)) (sym class) ∙ live.live in
    let bound : floor_on came.stream a.claim.status.bound ≡ Some for.floor =
    ap (λ (x : InterfaceStatus). floor_on came.stream x.bound) (claim_stands plan h link ds a) ∙ for.bound in
    let least = floor_least a.claim came for.floor trusted bound in
    let fresh = key_fresh _ live.key (least_draw a.claim came) lane a.key in
    record {
      runs = for.runs;
      floor = for.floor;
      bound = for.bound;
      read_floor = for.from_floor;
      packet_floor = omega (arith, least, fresh, live.draw);
    }

-- one place has one read
one_oldest : (o : Option WaitingRead) (r q : WaitingRead) → o ≡ Some r → o ≡ Some q → r ≡ q
one_oldest o r q is also = let same : Some r ≡ Some q = sym is ∙ also in cc (same)

completed_there : (plan : Plan) (h : History) (link : ℕ) (ds : List SealedPacket) → CauseLaw plan h
    → (a : Responded plan h link ds) (d : SealedPacket) → IsOf (response_sending a.read.came a.tlp) d
    → IsLive plan h a.read.came.end a.read.came.stream d → Comes plan h (Access (ae.Respond link)) d
completed_there plan h link ds cause a d of live =
    let now = claimed_now plan h link ds a in (
      λ r oldest.
          let same = one_oldest _ a.read r a.oldest oldest in (
            of.port_is ∙ ap (λ (x : WaitingRead). x.came.end) same,
            of.stream_is ∙ ap (λ (x : WaitingRead). x.came.stream) same,
          ),
      λ carries. record {
        read = a.read;
        oldest = a.oldest;
        target = a.target;
        of_target = a.target_is;
        interface = a.interface;
        known = a.placed;
        range = a.claim.range;
        stands = now.range;
        completion = shown_bytes plan h link ds cause a;
        at = of.port_is;
        stream = of.stream_is;
        t_is = carried d.sync d.t a.read.came.trusted carries of.t_is;
        bound = packet_fresh plan h link ds cause a d of live carries;
      },
    )
  where
    carried : (sync t u : Bool) → sync ≡ false → t ≡ (if sync then false else u) → t ≡ u
    carried sync t u carries is = grind arith

-- what is live where it was sealed
all_there : (plan : Plan) (h : History) (port : PortName) (stream : ℕ) (came : ReadArrival) (t : Tlp)
    (ds : List SealedPacket) → AllByRecursion (IsOf (response_sending came t)) ds → AllLive plan h port stream ds
    → AllLive plan h came.end came.stream ds
all_there plan h port stream came t [] all live = tt
all_there plan h port stream came t (d ∷ ds) all live =
    let at : port ≡ came.end = sym live.0.port_is ∙ all.0.port_is in
    let on : stream ≡ came.stream = sym live.0.stream_is ∙ all.0.stream_is in (
      subst₂ (λ (p : PortName) (n : ℕ). IsLive plan h p n d) at on live.0,
      all_there plan h port stream came t ds all.1
          live.1,
    )

completed_reads : (plan : Plan) (h : History) (link : ℕ) (whole ds : List SealedPacket) → CauseLaw plan h
    → (a : Responded plan h link whole) → AllByRecursion (IsOf (response_sending a.read.came a.tlp)) ds
    → AllLive plan h a.read.came.end a.read.came.stream ds
    → AllByRecursion (Comes plan h (Access (ae.Respond link))) ds
completed_reads plan h link whole [] cause a all live = tt
completed_reads plan h link whole (d ∷ ds) cause a all live = (
  completed_there plan h link whole cause a d all.0 live.0,
  completed_reads plan h link whole ds cause a all.1
      live.1,
)

responded_all : (plan : Plan) (h : History) (link : ℕ) (ds : List SealedPacket)
    → CauseLaw plan ((Access (ae.Respond link), v.Sealed ds) ∷ h)
    → AllByRecursion (Comes plan h (Access (ae.Respond link))) ds
responded_all plan h link ds cause =
    let e = Access (ae.Respond link) in
    let a = responded plan h link ds cause.0 in
    let all = response_packets plan h link ds a in
    let s = sealing_is plan h e ds cause.0 in
    let live = all_live plan h (sending_port plan h e) (sent_bytes plan h e) ds s in
    completed_reads plan h link ds ds cause.1 a all (all_there plan h _ _ a.read.came a.tlp ds all live)

-- ---- the pair

pub have_sources : (plan : Plan) → FitsPlan plan → (h : History) (e : Event) (w : Verdict)
    → CauseLaw plan ((e, w) ∷ h) → HaveSources plan h e w
have_sources plan fits h (Send end bytes more trusted) (v.Sealed ds) cause =
    sources plan h (Send end bytes more trusted) ds cause.0 (given plan fits h end bytes more trusted ds cause)
have_sources plan fits h (Forward link way) (v.Sealed ds) cause =
    sources plan h (Forward link way) ds cause.0 (accepted plan fits h link way ds cause)
have_sources plan fits h (Access (ae.Answer link)) (v.Sealed ds) cause =
    let e = Access (ae.Answer link) in
    let a = (read_law plan (draws plan) ((e, v.Sealed ds) ∷ h) cause).0 in
    sources plan h e ds cause.0 (completed_all plan h link ds ds a a.packets)
have_sources plan fits h (Access (ae.Respond link)) (v.Sealed ds) cause =
    sources plan h (Access (ae.Respond link)) ds cause.0 (responded_all plan h link ds cause)
have_sources plan fits h e (v.Sealed ds) cause = absurd (true≢false (sym (sealed_by_sealing plan h e ds cause.0)))
have_sources plan fits h e w cause = tt
