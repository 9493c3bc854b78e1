-- What an end of a segment sealed since its link's last reset is what it sealed under each draw, one after another.
use Rattle.law_sealing.proofs.Terms.{◌≡◌, ℕ, ◌<◌, ◌+◌, ◌==◌, ◌&&◌, Bool, true, false, List, [], ◌∷◌, ◌++◌}
use Rattle.law_sealing.proofs.Terms.{refl, ap, sym, subst, ◌∙◌, arith, nat_tests, inl, inr, if◌then◌else◌, cases_Bool}
use Rattle.law_sealing.proofs.Terms.{AllByRecursion, map, filter, not, append-nil, Plan, History, Event}
use Rattle.law_sealing.proofs.Terms.{Sealed, PortName, SealedPacket, SubKind, SubStream, CauseLaw, DrawFacts}
use Rattle.law_sealing.proofs.Terms.{lane_out, is_same_port, same_port, sub_stream_of, sent_bytes, sealing_is}
use Rattle.law_sealing.proofs.Terms.{sending_port, key_in, port_keys, On, IsLive, AllLive, all_live, is_same_sub}
use Rattle.law_sealing.proofs.Terms.{Option, Some, None, KeyName, live_key, sent_packets, IsSealing}
use Rattle.std.specs.Prelude.{◌-◌}
use Rattle.std.proofs.lemmas.Bool.{ne_eqb, false_from_ne_true}
use Rattle.std.specs.Prelude.{option_map}
use Rattle.spec_links.proofs.Terms.{Reset, draws, place_in_sub_stream}
use Rattle.spec_links.proofs.Tests.{same_sub}
use Rattle.spec_links.proofs.Senders.{in_lane, on_live}
use Rattle.spec_keys.specs.Keys.{Keys}
use Rattle.law_key_facts.proofs.Seats.{keys_out}
use Rattle.law_key_facts.proofs.SealedKeys.{live_on}
use Rattle.law_key_facts.proofs.RealFacts.{used_most}
use Rattle.law_key_facts.proofs.Moments.{none_sent, sends_lane}
use Rattle.spec_links.specs.Delivered.{is_tlp_under_draw}
use Rattle.spec_links.specs.Hops.{HopTlp, clears_hop}
use Rattle.spec_links.specs.HopLaws.{is_tlp_of_sender, sealed_tlp, in_sub}
unfoldable use Rattle.spec_links.specs.HopLaws.{tlps_since_reset}
use Rattle.law_hops.proofs.Since.{IsSegment, on_begun, mark}
use Rattle.law_hops.proofs.Carried.{flags, flags_in, flags_sent}
unfoldable use Rattle.law_hops.proofs.Carried.{hop_sent}
use Rattle.law_hops.proofs.Crossing.{IsLone, none_sealed, none_sent_more, in_sub-append}
use Rattle.law_crossings.proofs.Joined.{by_draws, one_more, same_each}
use Rattle.law_crossings.proofs.HopTaken.{on_marked, mark_low, mark_same, mark_stays, grown, at_start, at_reset}
use Rattle.event_verdicts.specs.declared.verdict.Verdict.TheVariants as v

-- ---- the draws of what was sealed

no_tlps : (xs : List HopTlp) → flags_in xs ≡ [] → xs ≡ []
no_tlps [] is = refl
no_tlps (x ∷ xs) is = absurd cc

-- nothing of a draw above one that is On at the sender
none_above : (plan : Plan) → DrawFacts plan → (h : History) → CauseLaw plan h → (port : PortName) (stream : ℕ)
    (u : SubKind) (k : Bool) (j i : ℕ) → key_in (port_keys h port (lane_out port stream u)) k ≡ On j → j < i
    → hop_sent plan h (lane_out port stream u) i ≡ []
none_above plan facts h cause port stream u k j i on less =
    let s = lane_out port stream u in
    let there = ap (λ (x : Keys). key_in x k) (sym (keys_out h port stream u)) ∙ on in
    let most = used_most plan h cause (place_in_sub_stream port s true) k j there in
    let none : sent_packets plan h s i ≡ [] = none_sent plan h cause port s i (sends_lane port stream u)
    (omega (arith, most, less)) in
    no_tlps (hop_sent plan h s i) (flags_sent plan facts h cause s i ∙ ap flags none)

-- ---- what one event seals

-- a packet that the end sealed in the sub-stream is of the stream, and under this draw
abbrev OfDraw : PortName → ℕ → SubKind → Option ℕ → SealedPacket → Type 0
OfDraw p stream u o d = is_same_port d.port p ≡ true → is_same_sub d.sub u ≡ true → (d.stream ≡ stream)
    × (o ≡ Some d.draw)

carries_there : (p : PortName) (stream : ℕ) (u : SubKind) (o : Option ℕ) (d : SealedPacket) → OfDraw p stream u o d
    → (j : ℕ) → is_tlp_under_draw (lane_out p stream u) j d
    ≡ (is_tlp_of_sender p d && is_same_sub d.sub u && (d.draw == j))
carries_there p stream u o d of j = by (is_same_port d.port p) (is_same_sub d.sub u) refl refl
  where
    by : (b c : Bool) → is_same_port d.port p ≡ b → is_same_sub d.sub u ≡ c
        → is_tlp_under_draw (lane_out p stream u) j d ≡ ((not d.sync && b) && c && (d.draw == j))
    by true true here same =
        let lane = in_lane p stream d u (same_port d.port p here) (of here same).0 in
        rw (lane, same) (grind arith)
    by true false here other = grind (arith, other)
    by false c other same = grind (arith, other)

not_both : (a b c : Bool) → (a && b) ≡ false → (a && b && c) ≡ false
not_both a b c none = grind arith

not_last : (a b c : Bool) → c ≡ false → (a && b && c) ≡ false
not_last a b c none = grind arith

all_three : (a b c : Bool) → (a && b) ≡ true → c ≡ true → (a && b && c) ≡ true
all_three a b c both last = grind arith

same_draw : (a j : ℕ) → Some j ≡ Some a → (a == j) ≡ true
same_draw a j is = let same : j ≡ a = cc (is) in grind (arith, nat_tests, same)

other_draw : (a j i : ℕ) → Some j ≡ Some a → (j ≡ i → ⊥) → (a == i) ≡ false
other_draw a j i is apart = let same : j ≡ a = cc (is) in ne_eqb a i (λ here. apart (same ∙ here))

own_parts : (p : PortName) (u : SubKind) (d : SealedPacket) → (is_tlp_of_sender p d && is_same_sub d.sub u) ≡ true
    → (is_same_port d.port p ≡ true) × (is_same_sub d.sub u ≡ true)
own_parts p u d is = (grind arith, grind arith)

-- the TLPs of the sub-stream among those of a sender, one by one
in_sub-cons : (p : PortName) (u : SubKind) (bytes : List ℕ) (d : SealedPacket) (ds : List SealedPacket) (b : Bool)
    → (is_tlp_of_sender p d && is_same_sub d.sub u) ≡ b
    → in_sub u (map (sealed_tlp bytes) (filter (is_tlp_of_sender p) (d ∷ ds)))
    ≡ (if b then sealed_tlp bytes d ∷ in_sub u (map (sealed_tlp bytes) (filter (is_tlp_of_sender p) ds))
    else in_sub u (map (sealed_tlp bytes) (filter (is_tlp_of_sender p) ds)))
in_sub-cons p u bytes d ds b is = by (is_tlp_of_sender p d) (is_same_sub d.sub u) refl refl is
  where
    by : (a c : Bool) → is_tlp_of_sender p d ≡ a → is_same_sub d.sub u ≡ c → (a && c) ≡ b
        → in_sub u (map (sealed_tlp bytes) (if a then d ∷ filter (is_tlp_of_sender p) ds
        else filter (is_tlp_of_sender p) ds))
        ≡ (if b then sealed_tlp bytes d ∷ in_sub u (map (sealed_tlp bytes) (filter (is_tlp_of_sender p) ds))
        else in_sub u (map (sealed_tlp bytes) (filter (is_tlp_of_sender p) ds)))
    by true true sends same is = rw (same, sym is) refl
    by true false sends other is = rw (other, sym is) refl
    by false c other same is = rw (sym is) refl

new_none : (p : PortName) (stream : ℕ) (u : SubKind) (bytes : List ℕ) (ds : List SealedPacket)
    → AllByRecursion (OfDraw p stream u None) ds
    → (in_sub u (map (sealed_tlp bytes) (filter (is_tlp_of_sender p) ds)) ≡ [])
    × ((j : ℕ) → filter (is_tlp_under_draw (lane_out p stream u) j) ds ≡ [])
new_none p stream u bytes [] all = (refl, λ j. refl)
new_none p stream u bytes (d ∷ ds) all = by (new_none p stream u bytes ds all.1)
  where
    none : (is_tlp_of_sender p d && is_same_sub d.sub u) ≡ false
    none = false_from_ne_true (is_tlp_of_sender p d && is_same_sub d.sub u) (λ is.
        let parts = own_parts p u d is in absurd (let never = (all.0 parts.0 parts.1).1 in cc))

    by : (in_sub u (map (sealed_tlp bytes) (filter (is_tlp_of_sender p) ds)) ≡ [])
        × ((j : ℕ) → filter (is_tlp_under_draw (lane_out p stream u) j) ds ≡ [])
        → (in_sub u (map (sealed_tlp bytes) (filter (is_tlp_of_sender p) (d ∷ ds))) ≡ [])
        × ((j : ℕ) → filter (is_tlp_under_draw (lane_out p stream u) j) (d ∷ ds) ≡ [])
    by later = (
      in_sub-cons p u bytes d ds false none ∙ later.0,
      λ j. rw (carries_there p stream u None d all.0 j
          ∙ not_both (is_tlp_of_sender p d) (is_same_sub d.sub u) (d.draw == j) none) (later.1 j),
    )

new_one : (p : PortName) (stream : ℕ) (u : SubKind) (j : ℕ) (bytes : List ℕ) (ds : List SealedPacket)
    → AllByRecursion (OfDraw p stream u (Some j)) ds
    → in_sub u (map (sealed_tlp bytes) (filter (is_tlp_of_sender p) ds))
    ≡ map (sealed_tlp bytes) (filter (is_tlp_under_draw (lane_out p stream u) j) ds)
new_one p stream u j bytes [] all = refl
new_one p stream u j bytes (d ∷ ds) all =
    by (is_tlp_of_sender p d && is_same_sub d.sub u) refl (new_one p stream u j bytes ds all.1)
  where
    by : (b : Bool) → (is_tlp_of_sender p d && is_same_sub d.sub u) ≡ b
        → in_sub u (map (sealed_tlp bytes) (filter (is_tlp_of_sender p) ds))
        ≡ map (sealed_tlp bytes) (filter (is_tlp_under_draw (lane_out p stream u) j) ds)
        → in_sub u (map (sealed_tlp bytes) (filter (is_tlp_of_sender p) (d ∷ ds)))
        ≡ map (sealed_tlp bytes) (filter (is_tlp_under_draw (lane_out p stream u) j) (d ∷ ds))
    by true is later =
        let parts = own_parts p u d is in
        let under : (d.draw == j) ≡ true = let same = (all.0 parts.0 parts.1).1 in
        same_draw d.draw j same in
        in_sub-cons p u bytes d ds true is ∙ (rw (carries_there p stream u (Some j) d all.0 j
        ∙ all_three (is_tlp_of_sender p d) (is_same_sub d.sub u) (d.draw == j) is under)
        (ap (λ (xs : List HopTlp). sealed_tlp bytes d ∷ xs) later))
    by false none later = in_sub-cons p u bytes d ds false none
        ∙ (rw (carries_there p stream u (Some j) d all.0 j
        ∙ not_both (is_tlp_of_sender p d) (is_same_sub d.sub u) (d.draw == j) none) later)

new_other : (p : PortName) (stream : ℕ) (u : SubKind) (j i : ℕ) (ds : List SealedPacket) → (j ≡ i → ⊥)
    → AllByRecursion (OfDraw p stream u (Some j)) ds → filter (is_tlp_under_draw (lane_out p stream u) i) ds ≡ []
new_other p stream u j i [] apart all = refl
new_other p stream u j i (d ∷ ds) apart all =
    by (is_tlp_of_sender p d && is_same_sub d.sub u) refl (new_other p stream u j i ds apart all.1)
  where
    by : (b : Bool) → (is_tlp_of_sender p d && is_same_sub d.sub u) ≡ b
        → filter (is_tlp_under_draw (lane_out p stream u) i) ds ≡ []
        → filter (is_tlp_under_draw (lane_out p stream u) i) (d ∷ ds) ≡ []
    by true is later =
        let parts = own_parts p u d is in
        let other : (d.draw == i) ≡ false = let same = (all.0 parts.0 parts.1).1 in
        other_draw d.draw j i same apart in
        rw (carries_there p stream u (Some j) d all.0 i
        ∙ not_last (is_tlp_of_sender p d) (is_same_sub d.sub u) (d.draw == i) other) later
    by false none later = rw (carries_there p stream u (Some j) d all.0 i
        ∙ not_both (is_tlp_of_sender p d) (is_same_sub d.sub u) (d.draw == i) none) later

-- ---- whose they are

of_live : (plan : Plan) → DrawFacts plan → (h : History) → CauseLaw plan h → (p port : PortName) (t stream : ℕ)
    (u : SubKind) (d : SealedPacket) → IsLone plan p.line stream → IsLive plan h port t d
    → OfDraw p stream u (option_map (λ (k : KeyName). k.draw) (live_key h p (lane_out p stream u))) d
of_live plan facts h cause p port t stream u d lone live here sub =
    let on = subst (λ (q : PortName). key_in (port_keys h q (sub_stream_of d)) d.k ≡ On d.draw) (sym live.port_is)
    (live_on plan h port t d live) in
    let known = facts.known h cause d.port (sub_stream_of d) d.k d.draw on in
    let port_is = same_port d.port p here in
    let same : d.stream ≡ stream = subst (λ (q : PortName). IsLone plan q.line stream) (sym port_is) lone d.stream known
    in
    let sub_is = same_sub d.sub u sub in
    let key : live_key h p (lane_out p stream u) ≡ Some live.key =
    (λ i. live_key h ((sym port_is ∙ live.port_is) i) (lane_out ((sym port_is ∙ live.port_is) i)
    ((sym same ∙ live.stream_is) i) (sym sub_is i))) ∙ live.live in
    (same, rw key (ap (λ (n : ℕ). Some n) (sym live.draw)))

all_of : (plan : Plan) → DrawFacts plan → (h : History) → CauseLaw plan h → (p port : PortName) (t stream : ℕ)
    (u : SubKind) (ds : List SealedPacket) → IsLone plan p.line stream → AllLive plan h port t ds
    → AllByRecursion (OfDraw p stream u (option_map (λ (k : KeyName). k.draw) (live_key h p (lane_out p stream u)))) ds
all_of plan facts h cause p port t stream u [] lone all = tt
all_of plan facts h cause p port t stream u (d ∷ ds) lone all = (
  of_live plan facts h cause p port t stream u d lone all.0,
  all_of plan facts h cause p port t stream u ds lone all.1,
)

-- ---- the list

sealed_more : (plan : Plan) → DrawFacts plan → (h : History) (e : Event) (ds : List SealedPacket)
    → CauseLaw plan ((e, Sealed ds) ∷ h) → (link : ℕ) (p : PortName) (stream : ℕ) (u : SubKind) → IsSegment link p.line
    → IsLone plan p.line stream
    → by_draws (hop_sent plan ((e, Sealed ds) ∷ h) (lane_out p stream u)) (mark h link) (draws h - mark h link)
    ≡ by_draws (hop_sent plan h (lane_out p stream u)) (mark h link) (draws h - mark h link)
    ++ in_sub u (map (sealed_tlp (sent_bytes plan h e)) (filter (is_tlp_of_sender p) ds))
unfolding hop_sent
sealed_more plan facts h e ds cause link p stream u segment lone =
    by (live_key h p s) refl (all_of plan facts h cause.1 p is.sending.port is.sending.stream stream u ds lone
    (all_live plan h (sending_port plan h e) (sent_bytes plan h e) ds is))
  where
    is : IsSealing plan h (sending_port plan h e) (sent_bytes plan h e) ds
    is = sealing_is plan h e ds cause.0

    s : SubStream
    s = lane_out p stream u

    bytes : List ℕ
    bytes = sent_bytes plan h e

    n : ℕ
    n = draws h - mark h link

    f : ℕ → List HopTlp
    f j = hop_sent plan h s j

    g : ℕ → List HopTlp
    g j = hop_sent plan ((e, Sealed ds) ∷ h) s j

    new : List HopTlp
    new = in_sub u (map (sealed_tlp bytes) (filter (is_tlp_of_sender p) ds))

    by : (o : Option KeyName) → live_key h p s ≡ o
        → AllByRecursion (OfDraw p stream u (option_map (λ (k : KeyName). k.draw) (live_key h p s))) ds
        → by_draws g (mark h link) n ≡ by_draws f (mark h link) n ++ new
    by None key all =
        let none = new_none p stream u bytes ds
        (subst (λ (o : Option KeyName). AllByRecursion (OfDraw p stream u (option_map (λ (k : KeyName). k.draw) o)) ds)
        key all) in
        same_each f g (mark h link) n (λ k less.
        (λ i. f (mark h link + k) ++ map (sealed_tlp bytes) (none.1 (mark h link + k) i))
        ∙ append-nil (f (mark h link + k)))
        ∙ (sym (append-nil (by_draws f (mark h link) n)) ∙ (λ i. by_draws f (mark h link) n ++ sym none.0 i))
    by (Some key) is_key all =
        let on = on_live (port_keys h p s).first (port_keys h p s).second key is_key in
        let of = subst (λ (o : Option KeyName).
        AllByRecursion (OfDraw p stream u (option_map (λ (k : KeyName). k.draw) o)) ds) is_key all in
        let least = on_marked h link p s key.k key.draw segment on in
        let most = on_begun h p s key.k key.draw on in
        let place : mark h link + (key.draw - mark h link) ≡ key.draw = omega (arith, least) in
        one_more f g new (mark h link) (key.draw - mark h link) n (omega (arith, least, most))
        (subst (λ (j : ℕ). g j ≡ f j ++ new) (sym place)
        (λ i. f key.draw ++ sym (new_one p stream u key.draw bytes ds of) i))
        (λ i apart. (λ k. f i ++ map (sealed_tlp bytes) (new_other p stream u key.draw i ds
        (λ same. apart (sym same ∙ sym place)) of k)) ∙ append-nil (f i))
        (λ i less. none_above plan facts h cause.1 p stream u key.k key.draw i on (omega (arith, less, place)))

pub sealed_each : (plan : Plan) → DrawFacts plan → (h : History) → CauseLaw plan h → (link : ℕ) (p : PortName)
    (stream : ℕ) (u : SubKind) → IsSegment link p.line → IsLone plan p.line stream
    → in_sub u (tlps_since_reset plan h link p)
    ≡ by_draws (hop_sent plan h (lane_out p stream u)) (mark h link) (draws h - mark h link)
unfolding tlps_since_reset hop_sent
sealed_each plan facts [] cause link p stream u segment lone =
    sym (at_start (hop_sent plan [] (lane_out p stream u)) link)
sealed_each plan facts ((e, Sealed ds) ∷ h) cause link p stream u segment lone =
    let before = sealed_each plan facts h cause.1 link p stream u segment lone in
    in_sub-append u (tlps_since_reset plan h link p) _
    ∙ ((λ i. before i ++ in_sub u (map (sealed_tlp (sent_bytes plan h e)) (filter (is_tlp_of_sender p) ds)))
    ∙ (sym (sealed_more plan facts h e ds cause link p stream u segment lone)
    ∙ sym (grown (hop_sent plan ((e, Sealed ds) ∷ h) (lane_out p stream u)) h e (Sealed ds) link
    (mark_low h link p stream u segment) (mark_same h e (Sealed ds) link refl)
    (λ j up. none_sent_more plan h e ds cause (lane_out p stream u) j up
    (none_sealed plan h cause.1 (lane_out p stream u) j up)))))
sealed_each plan facts ((Reset k ends, v.Reset l) ∷ h) cause link p stream u segment lone =
    elim (cases_Bool (clears_hop ends link)) [
      | inl is ↦ rw is (sym (at_reset (hop_sent plan h (lane_out p stream u)) h k l ends link is))
      | inr stays ↦ rw stays (sealed_each plan facts h cause.1 link p stream u segment lone
          ∙ sym (grown (hop_sent plan h (lane_out p stream u)) h (Reset k ends) (v.Reset l) link
          (mark_low h link p stream u segment) (mark_stays h k l ends link stays)
          (none_sealed plan h cause.1 (lane_out p stream u))))
    ]
sealed_each plan facts ((e, w) ∷ h) cause link p stream u segment lone =
    sealed_each plan facts h cause.1 link p stream u segment lone
    ∙ sym (grown (hop_sent plan h (lane_out p stream u)) h e w link (mark_low h link p stream u segment)
    (mark_same h e w link refl) (none_sealed plan h cause.1 (lane_out p stream u)))
