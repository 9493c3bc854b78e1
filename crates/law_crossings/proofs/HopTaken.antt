-- What an end of a segment accepted since its link's last reset, and what it sealed since then, is what it did under
-- each draw, one after another: a draw from before the reset is On no more, and draws never fall.
use Rattle.law_sealing.proofs.Terms.{◌≡◌, ℕ, ◌<◌, ◌≤◌, ◌+◌, ◌==◌, ◌&&◌, Bool, true, false, List, [], ◌∷◌, ◌++◌}
use Rattle.law_sealing.proofs.Terms.{refl, ap, sym, subst, ◌∙◌, arith, nat_tests, inl, inr, if◌then◌else◌, cases_Bool}
use Rattle.law_sealing.proofs.Terms.{AllByRecursion, append-nil, and_parts}
use Rattle.law_sealing.proofs.Terms.{Plan, History, Event, Verdict, Accepted, PortName, UnitName}
use Rattle.law_sealing.proofs.Terms.{Effect, SubKind, SubStream, CauseLaw, DrawFacts}
use Rattle.law_sealing.proofs.Terms.{is_received_under, is_same, lane_in, is_same_port, same_stream}
use Rattle.law_sealing.proofs.Terms.{same_port, received_in, receiving_sub_stream}
use Rattle.law_sealing.proofs.Terms.{accepted_by, received_there}
use Rattle.law_sealing.proofs.Terms.{key_in, port_keys, On, on_in, is_same_sub}
unfoldable use Rattle.law_sealing.proofs.Terms.{draws_got}
use Rattle.std.specs.Prelude.{◌-◌}
use Rattle.std.proofs.lemmas.Bool.{ne_eqb}
use Rattle.spec_links.proofs.Terms.{Reset, draws, place_in_sub_stream}
use Rattle.spec_links.proofs.Tests.{eqb-refl}
use Rattle.spec_interfaces.proofs.Trusted.{draws_grow}
use Rattle.spec_keys.specs.Keys.{keys}
use Rattle.spec_keys.specs.History.{moments}
unfoldable use Rattle.spec_keys.specs.History.{manager}
use Rattle.spec_keys.proofs.Owners.{owned_on}
use Rattle.law_keys.proofs.Bases.{From}
use Rattle.law_key_facts.proofs.Unplanned.{on_at}
use Rattle.spec_links.specs.Hops.{HopTlp, clears_hop}
unfoldable use Rattle.spec_links.specs.Hops.{accepted_tlps_in_list}
use Rattle.spec_links.specs.HopLaws.{in_sub}
use Rattle.spec_links.specs.Memory.{accepted_tlps, unit_ended}
use Rattle.law_delivery.proofs.Orders.{on_there}
use Rattle.law_reads.proofs.Taken.{tlps_of, here_after, taken_accepted}
use Rattle.law_hops.proofs.Since.{IsSegment, marked, on_begun}
unfoldable use Rattle.law_hops.proofs.Since.{mark}
unfoldable use Rattle.law_hops.proofs.Carried.{hop_got}
use Rattle.law_hops.proofs.Crossing.{IsLone, unit_sub, with_sub, none_got, none_more, in_own, in_sub-append, of_lane}
use Rattle.law_crossings.proofs.Joined.{by_draws, none_later, one_more, same_each}
use Rattle.event_verdicts.specs.declared.verdict.Verdict.TheVariants as v

-- ---- draws that are On

-- a draw that is On at an end of a segment is from the mark of the last reset on
pub on_marked : (h : History) (link : ℕ) (port : PortName) (s : SubStream) (k : Bool) (j : ℕ) → IsSegment link s.line
    → key_in (port_keys h port s) k ≡ On j → mark h link ≤ j
on_marked h link port s k j segment on =
    let at = on_at h port s k j on in
    let p = place_in_sub_stream port s at.sends in
    owned_on (From (mark h link)) (keys p.sends (moments h p)) k j (marked h link p segment).keys_from (ap on_in at.on)

pub mark_low : (h : History) (link : ℕ) (port : PortName) (stream : ℕ) (u : SubKind) → IsSegment link port.line
    → mark h link ≤ draws h
mark_low h link port stream u segment =
    (marked h link (place_in_sub_stream port (lane_in port stream u) false) segment).low

-- ---- what was accepted

-- nothing of a draw above all that were got
none_above : (plan : Plan) (h : History) (s : SubStream) (j i : ℕ) → j < i
    → AllByRecursion (λ (n : ℕ). n ≤ j) (draws_got h s) → hop_got plan h s i ≡ []
unfolding draws_got hop_got
none_above plan [] s j i less all = refl
none_above plan ((e, Accepted port unit effects) ∷ h) s j i less all =
    by (none_above plan h s j i less) (is_same (received_in port unit) s) all
  where
    by : (AllByRecursion (λ (n : ℕ). n ≤ j) (draws_got h s) → hop_got plan h s i ≡ []) → (b : Bool)
        → AllByRecursion (λ (n : ℕ). n ≤ j) (if b then unit.draw ∷ draws_got h s else draws_got h s)
        → (if b && (unit.draw == i) then hop_got plan h s i ++ tlps_of plan port unit (unit_ended plan h e port unit)
        else hop_got plan h s i) ≡ []
    by before true all =
        let other : (unit.draw == i) ≡ false = let most = all.0 in grind (arith, nat_tests, most, less) in
        rw other (before all.1)
    by before false all = before all
none_above plan ((e, w) ∷ h) s j i less all = none_above plan h s j i less all

-- ---- the mark

-- a reset of a link
abbrev pub resets : Verdict → Event → Bool
resets (v.Reset l) (Reset k ends) = true
resets w e = false

pub mark_same : (h : History) (e : Event) (w : Verdict) (link : ℕ) → resets w e ≡ false
    → mark ((e, w) ∷ h) link ≡ mark h link
unfolding mark
mark_same h (Reset k ends) (v.Reset l) link none = absurd cc
mark_same h _ _ link none = refl

-- more draws, of which there is nothing, change nothing
pub grown : {A : Type 0} (f : ℕ → List A) (h : History) (e : Event) (w : Verdict) (link : ℕ) → mark h link ≤ draws h
    → mark ((e, w) ∷ h) link ≡ mark h link → ((j : ℕ) → draws h ≤ j → f j ≡ [])
    → by_draws f (mark ((e, w) ∷ h) link) (draws ((e, w) ∷ h) - mark ((e, w) ∷ h) link)
    ≡ by_draws f (mark h link) (draws h - mark h link)
grown f h e w link low same none =
    let more = draws_grow h e w in
    let all : draws ((e, w) ∷ h) - mark h link ≡ (draws h - mark h link) + (draws ((e, w) ∷ h) - draws h)
    = omega (arith, low, more) in
    (λ i. by_draws f (same i) (draws ((e, w) ∷ h) - same i))
    ∙ (ap (by_draws f (mark h link)) all
    ∙ none_later f (mark h link) (draws h - mark h link) (draws ((e, w) ∷ h) - draws h)
    (λ j up. none j (omega (arith, up, low))))

pub mark_stays : (h : History) (k l : ℕ) (ends : List PortName) (link : ℕ) → clears_hop ends link ≡ false
    → mark ((Reset k ends, v.Reset l) ∷ h) link ≡ mark h link
unfolding mark
mark_stays h k l ends link stays = rw stays refl

-- before the first pair, and once the hop was reset, there are no draws from the mark on
pub at_start : {A : Type 0} (f : ℕ → List A) (link : ℕ) → by_draws f (mark [] link) (draws [] - mark [] link) ≡ []
unfolding mark manager
at_start f link = refl

pub at_reset : {A : Type 0} (f : ℕ → List A) (h : History) (k l : ℕ) (ends : List PortName) (link : ℕ)
    → clears_hop ends link ≡ true → by_draws f (mark ((Reset k ends, v.Reset l) ∷ h) link)
    (draws ((Reset k ends, v.Reset l) ∷ h) - mark ((Reset k ends, v.Reset l) ∷ h) link) ≡ []
unfolding mark manager
at_reset f h k l ends link is =
    let none : draws h - draws h ≡ 0 = omega arith in
    rw is (ap (by_draws f (draws h)) none)

-- ---- an accepted unit

-- a unit that comes to the end is of its stream, and under a draw from the mark on
record Here (h : History) (link stream : ℕ) (port : PortName) (unit : UnitName) : Type 0 where
  stream_is : unit.stream ≡ stream
  least : mark h link ≤ unit.draw
  most : unit.draw < draws h

here_at : (plan : Plan) (h : History) (e : Event) (port : PortName) (unit : UnitName) (effects : List Effect)
    (link stream : ℕ) → CauseLaw plan ((e, Accepted port unit effects) ∷ h) → IsSegment link port.line
    → IsLone plan port.line stream → Here h link stream port unit
here_at plan h e port unit effects link stream cause segment lone =
    let by = accepted_by plan h e port unit effects cause.0 in
    let on = on_there plan h e port unit effects by in
    record {
      stream_is = ap (λ (x : UnitName). x.stream) by.passed.named ∙ lone by.packet.prefix.stream by.passed.known;
      least = on_marked h link port (receiving_sub_stream port by.packet) by.packet.prefix.k unit.draw segment on;
      most = on_begun h port (receiving_sub_stream port by.packet) by.packet.prefix.k unit.draw on;
    }

only_draw : (a b c d : Bool) → a ≡ true → b ≡ true → c ≡ true → (a && b && c && d) ≡ d
only_draw a b c d one two three = grind arith

not_sub : (a b c d : Bool) → c ≡ false → (a && b && c && d) ≡ false
not_sub a b c d three = grind arith

accepted_each : (plan : Plan) → DrawFacts plan → (h : History) (e : Event) (port : PortName) (unit : UnitName)
    (effects : List Effect) → CauseLaw plan ((e, Accepted port unit effects) ∷ h) → (link : ℕ) (q : PortName)
    (stream : ℕ) (u : SubKind) → IsSegment link q.line → IsLone plan q.line stream
    → in_sub u (accepted_tlps plan h link q)
    ≡ by_draws (hop_got plan h (lane_in q stream u)) (mark h link) (draws h - mark h link)
    → in_sub u (accepted_tlps plan ((e, Accepted port unit effects) ∷ h) link q)
    ≡ by_draws (hop_got plan ((e, Accepted port unit effects) ∷ h) (lane_in q stream u)) (mark h link)
    (draws h - mark h link)
unfolding hop_got
accepted_each plan facts h e port unit effects cause link q stream u segment lone before =
    ap (in_sub u) (taken_accepted plan h e port unit effects cause link q) ∙ by (is_same_port port q) refl
  where
    old : List HopTlp
    old = accepted_tlps plan h link q

    new : List HopTlp
    new = tlps_of plan port unit (unit_ended plan h e port unit)

    n : ℕ
    n = draws h - mark h link

    f : ℕ → List HopTlp
    f j = hop_got plan h (lane_in q stream u) j

    g : ℕ → List HopTlp
    g j = hop_got plan ((e, Accepted port unit effects) ∷ h) (lane_in q stream u) j

    subs : in_sub u new ≡ (if is_same_sub unit.sub u then new else [])
    subs = in_own unit.sub u new (with_sub unit.sub _ (unit_ended plan h e port unit)
        (unit_sub plan h e port unit effects cause))

    -- in another sub-stream, or at another end, nothing is new
    still : ((j : ℕ) → is_received_under (lane_in q stream u) j port unit ≡ false)
        → by_draws g (mark h link) n ≡ by_draws f (mark h link) n
    still none = same_each f g (mark h link) n (λ k less. rw (none (mark h link + k)) refl)

    by_sub : is_same_port port q ≡ true → (b : Bool) → is_same_sub unit.sub u ≡ b
        → in_sub u (old ++ new) ≡ by_draws g (mark h link) n
    by_sub here true is = in_sub-append u old new ∙ ((λ i. before i ++ (subs ∙ whole is) i)
        ∙ sym (one_more f g new (mark h link) (unit.draw - mark h link) n (omega (arith, own.least, own.most))
        (own_draw (mark h link + (unit.draw - mark h link)) (omega (arith, own.least)))
        (λ i apart. other_draw i (λ under. apart (omega (arith, under, own.least))))
        (λ i less. none_above plan h (lane_in q stream u) unit.draw i (omega (arith, less, own.least)) above)))
      where
        same : port ≡ q
        same = same_port port q here

        own : Here h link stream port unit
        own = here_at plan h e port unit effects link stream cause
            (subst (IsSegment link) (ap (λ (p : PortName). p.line) (sym same)) segment)
            (subst (λ (l : ℕ). IsLone plan l stream) (ap (λ (p : PortName). p.line) (sym same)) lone)

        whole : is_same_sub unit.sub u ≡ true → (if is_same_sub unit.sub u then new else []) ≡ new
        whole is = rw is refl

        received : (j : ℕ) → is_received_under (lane_in q stream u) j port unit ≡ (unit.draw == j)
        received j = of_lane port q unit stream u j ∙ only_draw (is_same_port port q) (unit.stream == stream)
            (is_same_sub unit.sub u) (unit.draw == j) here (grind (arith, nat_tests, own.stream_is)) is

        own_draw : (j : ℕ) → unit.draw ≡ j → g j ≡ f j ++ new
        own_draw j is =
            let under : (unit.draw == j) ≡ true = grind (arith, nat_tests, is) in
            rw (received j ∙ under) refl

        other_draw : (j : ℕ) → (unit.draw ≡ j → ⊥) → g j ≡ f j
        other_draw j apart = rw (received j ∙ ne_eqb unit.draw j apart) refl

        above : AllByRecursion (λ (i : ℕ). i ≤ unit.draw) (draws_got h (lane_in q stream u))
        above =
            let by = accepted_by plan h e port unit effects cause.0 in
            let lane : receiving_sub_stream port by.packet ≡ lane_in q stream u
            = sym (received_there plan h port by.packet unit by.passed)
            ∙ same_stream (received_in port unit) (lane_in q stream u)
            (and_parts (is_same (received_in port unit) (lane_in q stream u)) (unit.draw == unit.draw)
            (received unit.draw ∙ eqb-refl unit.draw)).0 in
            subst (λ (s : SubStream). AllByRecursion (λ (i : ℕ). i ≤ unit.draw) (draws_got h s)) lane
            (facts.above_got h cause.1 port by.packet.prefix.stream by.packet.prefix.sub by.packet.prefix.k unit.draw
            (on_there plan h e port unit effects by))
    by_sub here false other = in_sub-append u old new ∙ ((λ i. before i ++ (subs ∙ none other) i)
        ∙ (append-nil (by_draws f (mark h link) n) ∙ sym (still (λ j. of_lane port q unit stream u j
        ∙ not_sub (is_same_port port q) (unit.stream == stream) (is_same_sub unit.sub u) (unit.draw == j) other))))
      where
        none : is_same_sub unit.sub u ≡ false → (if is_same_sub unit.sub u then new else []) ≡ []
        none is = rw is refl

    by : (b : Bool) → is_same_port port q ≡ b → in_sub u (if b then old ++ new else old)
        ≡ by_draws g (mark h link) n
    by true here = by_sub here (is_same_sub unit.sub u) refl
    by false other = before ∙ sym (still (λ j. of_lane port q unit stream u j
        ∙ ap (λ (b : Bool). b && (unit.stream == stream) && is_same_sub unit.sub u && (unit.draw == j)) other))

pub taken_each : (plan : Plan) → DrawFacts plan → (h : History) → CauseLaw plan h → (link : ℕ) (q : PortName)
    (stream : ℕ) (u : SubKind) → IsSegment link q.line → IsLone plan q.line stream
    → in_sub u (accepted_tlps plan h link q)
    ≡ by_draws (hop_got plan h (lane_in q stream u)) (mark h link) (draws h - mark h link)
unfolding accepted_tlps_in_list hop_got
taken_each plan facts [] cause link q stream u segment lone = sym (at_start (hop_got plan [] (lane_in q stream u)) link)
taken_each plan facts ((e, Accepted port unit effects) ∷ h) cause link q stream u segment lone =
    accepted_each plan facts h e port unit effects cause link q stream u segment lone
    (taken_each plan facts h cause.1 link q stream u segment lone)
    ∙ sym (grown (hop_got plan ((e, Accepted port unit effects) ∷ h) (lane_in q stream u)) h e
    (Accepted port unit effects) link (mark_low h link q stream u segment)
    (mark_same h e (Accepted port unit effects) link refl)
    (λ j up. none_more plan h e port unit effects cause (lane_in q stream u) j up
    (none_got plan h cause.1 (lane_in q stream u) j up)))
taken_each plan facts ((Reset k ends, v.Reset l) ∷ h) cause link q stream u segment lone =
    elim (cases_Bool (clears_hop ends link)) [
      | inl is ↦ rw is (sym (at_reset (hop_got plan h (lane_in q stream u)) h k l ends link is))
      | inr stays ↦ rw stays (ap (in_sub u) (here_after plan h (Reset k ends) (v.Reset l) cause link q)
          ∙ (taken_each plan facts h cause.1 link q stream u segment lone
          ∙ sym (grown (hop_got plan h (lane_in q stream u)) h (Reset k ends) (v.Reset l) link
          (mark_low h link q stream u segment) (mark_stays h k l ends link stays)
          (none_got plan h cause.1 (lane_in q stream u)))))
    ]
taken_each plan facts ((e, w) ∷ h) cause link q stream u segment lone =
    ap (in_sub u) (here_after plan h e w cause link q)
    ∙ (taken_each plan facts h cause.1 link q stream u segment lone
    ∙ sym (grown (hop_got plan h (lane_in q stream u)) h e w link (mark_low h link q stream u segment)
    (mark_same h e w link refl) (none_got plan h cause.1 (lane_in q stream u))))
