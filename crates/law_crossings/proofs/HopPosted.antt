-- Across a segment with one draw, and across a hop, a TLP that is not posted comes after each posted one before it.
use Rattle.law_sealing.proofs.Terms.{◌≡◌, ◌≢◌, ℕ, suc, ◌<◌, ◌≤◌, ◌==◌, ◌&&◌, Bool, true, false, List, [], ◌∷◌}
use Rattle.law_sealing.proofs.Terms.{◌++◌, length, refl, ap, sym, subst, ◌∙◌, arith, nat_tests, inl, inr}
use Rattle.law_sealing.proofs.Terms.{if◌then◌else◌, AllByRecursion, length-append, is_some, and_parts}
use Rattle.law_sealing.proofs.Terms.{eqb-true, map, filter}
use Rattle.law_sealing.proofs.Terms.{Plan, History, Event, Verdict, Accepted, Sealed, PortName, UnitName, Effect}
use Rattle.law_sealing.proofs.Terms.{SubKind, SubStream, CauseLaw, same_port, same_stream}
use Rattle.law_sealing.proofs.Terms.{TotalsFit, lane_in, is_same, is_same_port, sub_bits, Pr, received_in}
use Rattle.law_sealing.proofs.Terms.{accepted_by, receiving_sub_stream, stream_plan, sent_bytes}
use Rattle.law_sealing.proofs.Terms.{sealed_packets}
unfoldable use Rattle.law_sealing.proofs.Terms.{draws_got}
use Rattle.spec_links.proofs.Terms.{partner, Establish, Reset, draws, op_of, begins_keyed, reach_of}
unfoldable use Rattle.spec_links.proofs.Terms.{key_due}
unfoldable use Rattle.spec_keys.specs.History.{base}
use Rattle.event_verdicts.specs.declared.verdict.Operation.TheVariants as op
use Rattle.event_verdicts.specs.declared.verdict.Verdict.TheVariants as v
use Rattle.law_delivery.proofs.Orders.{on_there}
use Rattle.law_key_facts.proofs.Given.{key_cause}
use Rattle.law_key_facts.proofs.Ended.{reached_none}
use Rattle.ide_types.specs.Sub.{is_same_sub}
use Rattle.ide_types.specs.Fits.{FitsPlan}
use Rattle.spec_interfaces.proofs.Trusted.{draws_grow}
use Rattle.spec_links.specs.Ordered.{NoneMissing}
use Rattle.spec_links.specs.Hops.{HopTlp, clears_hop}
unfoldable use Rattle.spec_links.specs.Hops.{accepted_tlps_in_list}
use Rattle.spec_links.specs.HopLaws.{in_sub, is_tlp_of_sender, sealed_tlp}
unfoldable use Rattle.spec_links.specs.HopLaws.{tlps_since_reset, draws_since}
use Rattle.spec_links.specs.Memory.{accepted_tlps, unit_ended}
use Rattle.law_reads.proofs.Taken.{tlps_of, here_after, taken_accepted}
use Rattle.law_hops.proofs.Since.{IsSegment, on_since}
use Rattle.law_hops.proofs.Carried.{InSub}
use Rattle.law_hops.proofs.Crossing.{IsLone, OnlyDraw, unit_sub, with_sub, only_older, in_sub-append}
use Rattle.law_crossings.specs.HopOrder.{PostedFirst, IsLeftOf}
use Rattle.law_crossings.proofs.Split.{cut_parts}
use Rattle.law_crossings.proofs.HopOrder.{segment_left}
use Rattle.law_crossings.proofs.HopBehind.{middle_all}
use Rattle.law_crossings.proofs.HopAfter.{behind_at}
use Rattle.law_hops.proofs.Crossing.{clears}
use Rattle.law_crossings.proofs.HopTaken.{on_marked}
use Rattle.law_crossings.proofs.Unforged.{IsUnforged, older_unforged}
use Rattle.law_hops.proofs.Since.{mark}

-- ---- Base of a stream of a hop is its newest draw

raise : (xs : List ℕ) (m n : ℕ) → m ≤ n → AllByRecursion (λ (i : ℕ). i ≤ m) xs → AllByRecursion (λ (i : ℕ). i ≤ n) xs
raise [] m n le all = tt
raise (x ∷ xs) m n le all = (let most = all.0 in omega (arith, le, most), raise xs m n le all.1)

base_low : (h : History) (line stream : ℕ) → base h line stream ≤ draws h
unfolding base
base_low [] line stream = omega arith
base_low ((Establish l s loss, w) ∷ h) line stream =
    by ((l == line) && (s == stream) && begins_keyed (op_of h l s) (draws h) w) (base_low h line stream)
  where
    by : (b : Bool) → base h line stream ≤ draws h
        → (if b then draws h else base h line stream) ≤ draws ((Establish l s loss, w) ∷ h)
    by true low = draws_grow h (Establish l s loss) w
    by false low = let grown = draws_grow h (Establish l s loss) w in omega (arith, low, grown)
base_low ((e, w) ∷ h) line stream =
    let low = base_low h line stream in
    let grown = draws_grow h e w in
    omega (arith, low, grown)

base_more : (h : History) (e : Event) (w : Verdict) (line stream : ℕ)
    → base h line stream ≤ base ((e, w) ∷ h) line stream
unfolding base
base_more h (Establish l s loss) w line stream =
    by ((l == line) && (s == stream) && begins_keyed (op_of h l s) (draws h) w)
  where
    by : (b : Bool) → base h line stream ≤ (if b then draws h else base h line stream)
    by true = base_low h line stream
    by false = omega arith
base_more h e w line stream = omega arith

none_if : (x : Bool) (m n : ℕ) → (if x && false then m else n) ≡ n
none_if x m n = grind arith

established : (plan : Plan) (h : History) (l s : ℕ) (loss : _) (w : Verdict)
    → CauseLaw plan ((Establish l s loss, w) ∷ h) → begins_keyed (op_of h l s) (draws h) w ≡ true
    → is_some (stream_plan plan l s) ≡ true
unfolding key_due
established plan h l s loss w cause begins = by (is_some (stream_plan plan l s)) refl
  where
    by : (b : Bool) → is_some (stream_plan plan l s) ≡ b → is_some (stream_plan plan l s) ≡ true
    by true has = has
    by false lacks =
        let none = reached_none (is_some (stream_plan plan l s)) op.Establish w _ lacks
        (key_cause plan ((Establish l s loss, w) ∷ h) cause).0 in
        let reached = (and_parts _ (is_some (reach_of op.Establish w)) begins).1 in
        absurd (let no : true ≡ false = sym reached ∙ ap is_some none in cc)

low_since : (plan : Plan) (h : History) → CauseLaw plan h → (link line stream : ℕ) → IsLone plan line stream
    → AllByRecursion (λ (i : ℕ). i ≤ base h line stream) (draws_since h link line)
unfolding base draws_since
low_since plan [] cause link line stream lone = tt
low_since plan ((Establish l s loss, w) ∷ h) cause link line stream lone =
    by (l == line) (begins_keyed (op_of h l s) (draws h) w) refl refl
    (low_since plan h cause.1 link line stream lone)
  where
    by : (a c : Bool) → (l == line) ≡ a → begins_keyed (op_of h l s) (draws h) w ≡ c
        → AllByRecursion (λ (i : ℕ). i ≤ base h line stream) (draws_since h link line)
        → AllByRecursion (λ (i : ℕ). i ≤ (if (l == line) && (s == stream) && begins_keyed (op_of h l s) (draws h) w
        then draws h else base h line stream))
        (if (l == line) && begins_keyed (op_of h l s) (draws h) w then draws h ∷ draws_since h link line
        else draws_since h link line)
    by true true here begins before =
        let line_is = eqb-true l line here in
        let has = established plan h l s loss w cause begins in
        let own : s ≡ stream = lone s (subst (λ (k : ℕ). is_some (stream_plan plan k s) ≡ true) line_is has) in
        let same : (s == stream) ≡ true = grind (arith, nat_tests, own) in
        rw (here, same, begins) (
          omega arith,
          raise (draws_since h link line) (base h line stream) (draws h)
              (base_low h line stream) before,
        )
    by true false here begins before =
        rw (here, begins, none_if (s == stream) (draws h) (base h line stream)) before
    by false c other begins before = rw other before
low_since plan ((Reset k ends, v.Reset l) ∷ h) cause link line stream lone =
    by (clears_hop ends link) (low_since plan h cause.1 link line stream lone)
  where
    by : (b : Bool) → AllByRecursion (λ (i : ℕ). i ≤ base h line stream) (draws_since h link line)
        → AllByRecursion (λ (i : ℕ). i ≤ base h line stream) (if b then [] else draws_since h link line)
    by true before = tt
    by false before = before
low_since plan ((e, w) ∷ h) cause link line stream lone = low_since plan h cause.1 link line stream lone

draw_low : (plan : Plan) (h : History) (e : Event) (port : PortName) (unit : UnitName) (effects : List Effect)
    → CauseLaw plan ((e, Accepted port unit effects) ∷ h) → (link stream : ℕ) → IsSegment link port.line
    → IsLone plan port.line stream → unit.draw ≤ base h port.line stream
draw_low plan h e port unit effects cause link stream segment lone =
    let by = accepted_by plan h e port unit effects cause.0 in
    on_since (λ (i : ℕ). i ≤ base h port.line stream) plan h cause.1 link port (receiving_sub_stream port by.packet)
    by.packet.prefix.k unit.draw refl segment (low_since plan h cause.1 link port.line stream lone)
    (on_there plan h e port unit effects by)

got_low : (plan : Plan) (h : History) → CauseLaw plan h → (link : ℕ) (q : PortName) (stream : ℕ) (u : SubKind)
    → IsSegment link q.line → IsLone plan q.line stream
    → AllByRecursion (λ (i : ℕ). i ≤ base h q.line stream) (draws_got h (lane_in q stream u))
unfolding draws_got
got_low plan [] cause link q stream u segment lone = tt
got_low plan ((e, Accepted port unit effects) ∷ h) cause link q stream u segment lone =
    raise (draws_got ((e, Accepted port unit effects) ∷ h) (lane_in q stream u)) (base h q.line stream)
    (base ((e, Accepted port unit effects) ∷ h) q.line stream)
    (base_more h e (Accepted port unit effects) q.line stream)
    (by (is_same (received_in port unit) (lane_in q stream u)) refl
    (got_low plan h cause.1 link q stream u segment lone))
  where
    by : (b : Bool) → is_same (received_in port unit) (lane_in q stream u) ≡ b
        → AllByRecursion (λ (i : ℕ). i ≤ base h q.line stream) (draws_got h (lane_in q stream u))
        → AllByRecursion (λ (i : ℕ). i ≤ base h q.line stream)
        (if b then unit.draw ∷ draws_got h (lane_in q stream u) else draws_got h (lane_in q stream u))
    by true is before =
        let same = same_stream (received_in port unit) (lane_in q stream u) is in
        let line_is : port.line ≡ q.line = ap (λ (t : SubStream). t.line) same in (
          subst (λ (l : ℕ). unit.draw ≤ base h l stream) line_is
              (draw_low plan h e port unit effects cause link stream (subst (IsSegment link) (sym line_is) segment)
              (subst (λ (l : ℕ). IsLone plan l stream) (sym line_is) lone)),
          before,
        )
    by false other before = before
got_low plan ((e, w) ∷ h) cause link q stream u segment lone =
    raise (draws_got h (lane_in q stream u)) (base h q.line stream) (base ((e, w) ∷ h) q.line stream)
    (base_more h e w q.line stream) (got_low plan h cause.1 link q stream u segment lone)

no_more : (from : ℕ) (ks : List ℕ) → AllByRecursion (λ (i : ℕ). i ≤ from) ks → (P : ℕ → Type 0)
    → AllByRecursion (λ (k : ℕ). (i : ℕ) → from ≤ i → i < k → P i) ks
no_more from [] low P = tt
no_more from (k ∷ ks) low P =
    ((λ i up less. absurd (let most = low.0 in omega (arith, most, up, less))), no_more from ks low.1 P)

none_missing : (plan : Plan) (h : History) (e : Event) (port : PortName) (unit : UnitName) (effects : List Effect)
    → CauseLaw plan ((e, Accepted port unit effects) ∷ h) → (link stream : ℕ) → IsSegment link port.line
    → IsLone plan port.line stream → NoneMissing plan h (received_in port unit) unit.draw
none_missing plan h e port unit effects cause link stream segment lone =
    let by = accepted_by plan h e port unit effects cause.0 in
    let stream_is : unit.stream ≡ stream = ap (λ (x : UnitName). x.stream) by.passed.named
    ∙ lone by.packet.prefix.stream by.passed.known in
    let own_lone = subst (IsLone plan port.line) (sym stream_is) lone in
    let low = draw_low plan h e port unit effects cause link unit.stream segment own_lone in
    record {
      own = λ i up less. absurd (omega (arith, low, up, less));
      posted = no_more (base h port.line unit.stream) _
          (got_low plan h cause.1 link port unit.stream Pr segment own_lone) _;
    }

-- ---- a segment with one draw

no_cut : (before : List HopTlp) (x : HopTlp) (after : List HopTlp) → [] ≡ before ++ x ∷ after → ⊥
no_cut [] x after is = cc
no_cut (b ∷ before) x after is = cc

pub left_length : (xs ys : List HopTlp) → IsLeftOf xs ys → length xs ≤ length ys
left_length [] ys left = omega arith
left_length (x ∷ xs) [] left = absurd left
left_length (x ∷ xs) (y ∷ ys) (inl both) = let rest = left_length xs ys both.1 in omega (arith, rest)
left_length (x ∷ xs) (y ∷ ys) (inr later) = let rest = left_length (x ∷ xs) ys later in omega (arith, rest)

-- the element at a cut is one more of its sub-stream
pub own_more : (u : SubKind) (before : List HopTlp) (x : HopTlp) (after : List HopTlp) → x.sub ≡ u
    → length (in_sub u before) < length (in_sub u (before ++ x ∷ after))
own_more u before x after same =
    let own : is_same_sub x.sub u ≡ true = rw same (grind (arith, nat_tests)) in
    let all = ap length (in_sub-append u before (x ∷ after)) in
    let parts = length-append (in_sub u before) (in_sub u (x ∷ after)) in
    let last : length (in_sub u (x ∷ after)) ≡ suc (length (in_sub u after)) = rw own refl in
    omega (arith, all, parts, last)

joined_length : (u : SubKind) (xs ys : List HopTlp) → length (in_sub u xs) ≤ length (in_sub u (xs ++ ys))
joined_length u xs ys =
    let all = ap length (in_sub-append u xs ys) in
    let parts = length-append (in_sub u xs) (in_sub u ys) in
    omega (arith, all, parts)

-- neither of the sub-stream nor of the posted one a tag was forged at the end since the last reset
abbrev pub AreUnforged : Plan → History → ℕ → PortName → ℕ → SubKind → Type 0
AreUnforged plan h link q stream u = IsUnforged plan h link q stream u × IsUnforged plan h link q stream Pr

older_both : (plan : Plan) (h : History) (e : Event) (w : Verdict) (link : ℕ) (q : PortName) (stream : ℕ)
    (u : SubKind) → clears w e link ≡ false → AreUnforged plan ((e, w) ∷ h) link q stream u
    → AreUnforged plan h link q stream u
older_both plan h e w link q stream u stays none = (
  older_unforged plan h e w link q stream u stays none.0,
  older_unforged plan h e w link q stream Pr stays none.1,
)

-- what a segment got of a sub-stream is as much as it was sent at most
pub got_most : (plan : Plan) → FitsPlan plan → (h : History) → CauseLaw plan h → (link : ℕ) (q : PortName)
    (stream : ℕ) (u : SubKind) → IsSegment link q.line → IsLone plan q.line stream
    → IsUnforged plan h link q stream u
    → length (in_sub u (accepted_tlps plan h link q)) ≤ length (in_sub u (tlps_since_reset plan h link (partner q)))
got_most plan fits h cause link q stream u segment lone none =
    left_length _ _ (segment_left plan fits h cause link q stream u segment lone none)

-- the mark of the last reset is no higher than Base where a unit is accepted
mark_most : (plan : Plan) (h : History) (e : Event) (port : PortName) (unit : UnitName) (effects : List Effect)
    → CauseLaw plan ((e, Accepted port unit effects) ∷ h) → (link stream : ℕ) → IsSegment link port.line
    → IsLone plan port.line stream → mark h link ≤ base h port.line unit.stream
mark_most plan h e port unit effects cause link stream segment lone =
    let by = accepted_by plan h e port unit effects cause.0 in
    let stream_is : unit.stream ≡ stream = ap (λ (x : UnitName). x.stream) by.passed.named
    ∙ lone by.packet.prefix.stream by.passed.known in
    let low = draw_low plan h e port unit effects cause link unit.stream segment
    (subst (IsLone plan port.line) (sym stream_is) lone) in
    let up = on_marked h link port (receiving_sub_stream port by.packet) by.packet.prefix.k unit.draw segment
    (on_there plan h e port unit effects by) in
    omega (arith, low, up)

-- at an end of the segment, of its own sub-stream
behind_here : (plan : Plan) → FitsPlan plan → (h : History) (e : Event) (port : PortName) (unit : UnitName)
    (effects : List Effect) → CauseLaw plan ((e, Accepted port unit effects) ∷ h)
    → TotalsFit plan ((e, Accepted port unit effects) ∷ h) → (link stream j : ℕ) → IsSegment link port.line
    → IsLone plan port.line stream → OnlyDraw ((e, Accepted port unit effects) ∷ h) link port.line j → (u : SubKind)
    → AreUnforged plan ((e, Accepted port unit effects) ∷ h) link port stream u → unit.sub ≡ u → sub_bits u ≢ 0
    → (ahead later : List HopTlp) (y : HopTlp) → tlps_since_reset plan h link (partner port) ≡ ahead ++ y ∷ later
    → y.sub ≡ u
    → length (in_sub u ahead) < length (in_sub u (accepted_tlps plan ((e, Accepted port unit effects) ∷ h) link port))
    → length (in_sub Pr ahead) ≤ length (in_sub Pr (accepted_tlps plan h link port))
behind_here plan fits h e port unit effects cause totals link stream j segment lone only u none sub other ahead later
    y was same less =
    behind_at plan fits h e port unit effects cause totals link stream j segment lone only
    (subst (IsUnforged plan ((e, Accepted port unit effects) ∷ h) link port stream) (sym sub) none.0) none.1
    (mark_most plan h e port unit effects cause link stream segment lone) ahead later y
    (none_missing plan h e port unit effects cause link stream segment lone) was (same ∙ sym sub)
    (subst (λ (w : SubKind). sub_bits w ≢ 0) (sym sub) other)
    (subst (λ (w : SubKind). length (in_sub w ahead)
    < length (in_sub w (accepted_tlps plan ((e, Accepted port unit effects) ∷ h) link port))) (sym sub) less)

module _
    (plan : Plan) (fits : FitsPlan plan) (link : ℕ) (q : PortName) (stream j : ℕ) (u : SubKind)
    (segment : IsSegment link q.line) (lone : IsLone plan q.line stream) (other : sub_bits u ≢ 0) where
  abbrev First : History → History → Type 0
  First g h = PostedFirst u (accepted_tlps plan g link q) (tlps_since_reset plan h link (partner q))

  accepted_first : (h : History) (e : Event) (port : PortName) (unit : UnitName) (effects : List Effect)
      → CauseLaw plan ((e, Accepted port unit effects) ∷ h) → TotalsFit plan ((e, Accepted port unit effects) ∷ h)
      → OnlyDraw ((e, Accepted port unit effects) ∷ h) link q.line j
      → AreUnforged plan ((e, Accepted port unit effects) ∷ h) link q stream u → First h h
      → First ((e, Accepted port unit effects) ∷ h) h
  accepted_first h e port unit effects cause totals only none first = by (is_same_port port q) refl
    where
      old : List HopTlp
      old = accepted_tlps plan h link q

      new : List HopTlp
      new = tlps_of plan port unit (unit_ended plan h e port unit)

      now : List HopTlp
      now = accepted_tlps plan ((e, Accepted port unit effects) ∷ h) link q

      taken : now ≡ (if is_same_port port q then old ++ new else old)
      taken = taken_accepted plan h e port unit effects cause link q

      subs : InSub unit.sub new
      subs = with_sub unit.sub _ (unit_ended plan h e port unit) (unit_sub plan h e port unit effects cause)

      here : port ≡ q → unit.sub ≡ u → (ahead later : List HopTlp) (y : HopTlp)
          → tlps_since_reset plan h link (partner q) ≡ ahead ++ y ∷ later → y.sub ≡ u
          → length (in_sub u ahead) < length (in_sub u now) → length (in_sub Pr ahead) ≤ length (in_sub Pr old)
      here same sub = subst (λ (p : PortName). (ahead later : List HopTlp) (y : HopTlp)
          → tlps_since_reset plan h link (partner p) ≡ ahead ++ y ∷ later → y.sub ≡ u
          → length (in_sub u ahead) < length
          (in_sub u (accepted_tlps plan ((e, Accepted port unit effects) ∷ h) link p))
          → length (in_sub Pr ahead) ≤ length (in_sub Pr (accepted_tlps plan h link p))) same
          (behind_here plan fits h e port unit effects cause totals link stream j
          (subst (λ (p : PortName). IsSegment link p.line) (sym same) segment)
          (subst (λ (p : PortName). IsLone plan p.line stream) (sym same) lone)
          (subst (λ (p : PortName). OnlyDraw ((e, Accepted port unit effects) ∷ h) link p.line j) (sym same) only) u
          (subst (λ (p : PortName). AreUnforged plan ((e, Accepted port unit effects) ∷ h) link p stream u) (sym same)
          none) sub other)

      by : (b : Bool) → is_same_port port q ≡ b → First ((e, Accepted port unit effects) ∷ h) h
      by false there before after ahead later x y got was is same number =
          first before after ahead later x y (sym (taken ∙ rw there refl) ∙ got) was is same number
      by true at before after ahead later x y got was is same number =
          elim (cut_parts old new before x after (sym (taken ∙ rw at refl) ∙ got)) [
            | inl one ↦ first before one.rest ahead later x y one.is was is same number
            | inr two ↦
                let sub : x.sub ≡ unit.sub = middle_all (λ (x : HopTlp). x.sub ≡ unit.sub) two.front x after
                (subst (InSub unit.sub) two.is subs) in
                let more = own_more u before x after is in
                let all = ap (λ (xs : List HopTlp). length (in_sub u xs)) got in
                let most = here (same_port port q at) (sym sub ∙ is) ahead later y was same
                (omega (arith, more, number, all)) in
                let grows = joined_length Pr old two.front in
                let whole = ap (λ (xs : List HopTlp). length (in_sub Pr xs)) two.whole in
                omega (arith, most, grows, whole)
          ]

  sealed_first : (h : History) → CauseLaw plan h → IsUnforged plan h link q stream u → (new : List HopTlp) → First h h
      → PostedFirst u (accepted_tlps plan h link q) (tlps_since_reset plan h link (partner q) ++ new)
  sealed_first h cause none new first before after ahead later x y got was is same number =
      elim (cut_parts (tlps_since_reset plan h link (partner q)) new ahead y later was) [
        | inl one ↦ first before after ahead one.rest x y got one.is is same number
        | inr two ↦ absurd
            (let left = got_most plan fits h cause link q stream u segment lone none in
            let more = own_more u before x after is in
            let all = ap (λ (xs : List HopTlp). length (in_sub u xs)) got in
            let grows = joined_length u (tlps_since_reset plan h link (partner q)) two.front in
            let whole = ap (λ (xs : List HopTlp). length (in_sub u xs)) two.whole in
            omega (arith, left, more, all, grows, whole, number))
      ]

  reset_first : (h : History) (k : ℕ) (ends : List PortName) (l : ℕ) → CauseLaw plan ((Reset k ends, v.Reset l) ∷ h)
      → (clears_hop ends link ≡ false → First h h)
      → First ((Reset k ends, v.Reset l) ∷ h) ((Reset k ends, v.Reset l) ∷ h)
  unfolding tlps_since_reset accepted_tlps_in_list
  reset_first h k ends l cause first = by (clears_hop ends link) refl
    where
      got : List HopTlp
      got = accepted_tlps_in_list plan (sealed_packets plan ((Reset k ends, v.Reset l) ∷ h)) h link q

      was : List HopTlp
      was = tlps_since_reset plan h link (partner q)

      by : (b : Bool) → clears_hop ends link ≡ b → PostedFirst u (if clears_hop ends link then [] else got)
          (if clears_hop ends link then [] else was)
      by true is = rw is (λ before after ahead later x y is_got is_was own same number.
          absurd (no_cut before x after is_got))
      by false stays = rw stays (subst (λ (xs : List HopTlp). PostedFirst u xs was)
          (sym (here_after plan h (Reset k ends) (v.Reset l) cause link q)) (first stays))

  pub segment_first : (h : History) → CauseLaw plan h → TotalsFit plan h → OnlyDraw h link q.line j
      → AreUnforged plan h link q stream u → First h h
  unfolding tlps_since_reset accepted_tlps_in_list
  segment_first [] cause totals only none =
      λ before after ahead later x y got was is same number. absurd (no_cut before x after got)
  segment_first ((e, Accepted port unit effects) ∷ h) cause totals only none =
      accepted_first h e port unit effects cause totals only none
      (segment_first h cause.1 totals.1 (only_older h e (Accepted port unit effects) link q.line j refl only)
      (older_both plan h e (Accepted port unit effects) link q stream u refl none))
  segment_first ((e, Sealed ds) ∷ h) cause totals only none =
      let before = older_both plan h e (Sealed ds) link q stream u refl none in
      subst (λ (xs : List HopTlp). PostedFirst u xs (tlps_since_reset plan h link (partner q)
      ++ map (sealed_tlp (sent_bytes plan h e)) (filter (is_tlp_of_sender (partner q)) ds)))
      (sym (here_after plan h e (Sealed ds) cause link q))
      (sealed_first h cause.1 before.0
      (map (sealed_tlp (sent_bytes plan h e)) (filter (is_tlp_of_sender (partner q)) ds))
      (segment_first h cause.1 totals.1 (only_older h e (Sealed ds) link q.line j refl only) before))
  segment_first ((Reset k ends, v.Reset l) ∷ h) cause totals only none =
      reset_first h k ends l cause
      (λ stays. segment_first h cause.1 totals.1
      (only_older h (Reset k ends) (v.Reset l) link q.line j stays only)
      (older_both plan h (Reset k ends) (v.Reset l) link q stream u stays none))
  segment_first ((e, w) ∷ h) cause totals only none =
      subst (λ (xs : List HopTlp). PostedFirst u xs (tlps_since_reset plan h link (partner q)))
      (sym (here_after plan h e w cause link q))
      (segment_first h cause.1 totals.1 (only_older h e w link q.line j refl only)
      (older_both plan h e w link q stream u refl none))
