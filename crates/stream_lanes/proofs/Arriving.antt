-- What the receivers of a stream make of a packet: the answer, all three after it, what is lent, and the order that
-- always holds. It goes by the packet's sub-stream and the answer: its own receiver takes the packet, and if that
-- failed all three drop what they hold, its own one for the second time, which changes nothing. The order stays since
-- an accepted unit has passed its test, and the number of accepted posted packets never falls.
use Rattle.std.proofs.Common.{◌≡◌, ℕ, ◌+◌, ◌≤◌, Bool, true, false, not, ◌&&◌, ◌||◌, ◌==◌, nat_le, if◌then◌else◌, []}
use Rattle.std.proofs.Common.{◌∷◌, ◌++◌, length, Option, Some, None, refl, sym, ap, ◌∙◌, subst, arith}
use Rattle.std.proofs.lemmas.Grind.{common_steps}
use Rattle.ide_types.specs.Sub.{sub_bits, is_same_sub}
use Rattle.ide_types.specs.declared.sub.SubKind.{SubKind}
use Rattle.ide_types.specs.declared.sub.SubKind.TheVariants.{Pr, Npr, Cpl}
use Rattle.ide_types.specs.declared.sub.FailCause.TheVariants as fail
use Rattle.ide_prefix.specs.Packet.{Packet}
use Rattle.spec_stream.specs.Stream.{LaneSlot, Empty, Programmed, Armed, Live, LiveKey, RxSub, Three, StreamState}
use Rattle.spec_stream.specs.Stream.{at_sub, slot_in_set, live_in, PacketOutcome, Insecure, NotKeyed, Failed, Held}
use Rattle.spec_stream.specs.Stream.{Accepted, holds_any, posted_sum, is_tagged, outcome_of_checks}
use Rattle.spec_stream.specs.Stream.{slot_without_packets, dropped_held, stream_outcome_by_keys, state_after}
use Rattle.sub_stream.specs.{answer_taken, opened_unit}
use Rattle.sub_stream.specs.declared.answer.Taken.{Taken as Answer}
use Rattle.sub_stream.specs.declared.answer.Taken.TheVariants as answers
use Rattle.stream_lanes.specs.Arrivals.{opened_if_accepted, ReceiveEnd, ReceiveEnds, allows, lane_outcome_by_keys}
use Rattle.stream_lanes.specs.Arrivals.{lane_outcome, kept_sub_after, end_after, is_fail, lent_lane, value_of_kind}
use Rattle.stream_lanes.specs.Arrivals.{lent_lane_packets, IsReceiveLanes, receiving_state, lanes_outcome}
use Rattle.stream_lanes.specs.Arrivals.{receive_ends_after}

abbrev pub view : ReceiveEnd → ReceiveEnd → ReceiveEnd → Option SubKind → ReceiveEnds
view pr npr cpl lent = record {
  aggregation = pr.aggregation;
  closed = pr.closed;
  rx = record { pr = pr.kept; npr = npr.kept; cpl = cpl.kept };
  delivered = lent_lane_packets lent pr npr cpl;
}

-- ---- the answer

pub record IsPicked (aggregation : ℕ) (closed : Bool) (rx : Three RxSub) (u : SubKind) (e : ReceiveEnd) : Type 0 where
  pub aggregation_is : e.aggregation ≡ aggregation
  pub closed_is : e.closed ≡ closed
  pub sub_is : e.sub ≡ u
  pub kept_is : e.kept ≡ at_sub rx u

pub value_of_kind-right : (pr npr cpl : ReceiveEnd) (u : SubKind) → IsReceiveLanes pr npr cpl
    → IsPicked pr.aggregation pr.closed (record { pr = pr.kept; npr = npr.kept; cpl = cpl.kept }) u
    (value_of_kind u pr npr cpl)
value_of_kind-right pr npr cpl Pr inv = record
    { aggregation_is = refl; closed_is = refl; sub_is = inv.is_pr; kept_is = refl }
value_of_kind-right pr npr cpl Npr inv = record
    { aggregation_is = inv.npr_aggregation; closed_is = inv.npr_closed; sub_is = inv.is_npr; kept_is = refl }
value_of_kind-right pr npr cpl Cpl inv = record
    { aggregation_is = inv.cpl_aggregation; closed_is = inv.cpl_closed; sub_is = inv.is_cpl; kept_is = refl }

-- the one of a sub-stream answers as the stream does
under_here : (e : ReceiveEnd) (aggregation : ℕ) (closed : Bool) (rx : Three RxSub) (p : Packet) (x y : Option LiveKey)
    → IsPicked aggregation closed rx p.prefix.sub e
    → lane_outcome_by_keys e rx.pr.got p x y ≡ stream_outcome_by_keys aggregation closed rx p x y
under_here e aggregation closed rx p None None is = refl
under_here e aggregation closed rx p None (Some y) is = refl
under_here e aggregation closed rx p (Some x) y is =
    λ i. if holds_any y || (not p.prefix.m && nat_le (is.aggregation_is i) (length x.packets + 1)) then Failed fail.Unit
    else if p.prefix.m then outcome_of_checks (is_tagged (is.closed_is i) (is.kept_is i).total x p)
    ((sub_bits (is.sub_is i) == 0) || nat_le ((is.kept_is i).sum + posted_sum (x.packets ++ p ∷ [])) rx.pr.got) x p
    else Held x.draw (x.units + 1)

pub among-here : (pr npr cpl : ReceiveEnd) (lent : Option SubKind) (p : Packet) → IsReceiveLanes pr npr cpl
    → lane_outcome (value_of_kind p.prefix.sub pr npr cpl) pr.kept.got p ≡ lanes_outcome (view pr npr cpl lent) p
among-here pr npr cpl lent p inv =
    let rx : Three RxSub = record { pr = pr.kept; npr = npr.kept; cpl = cpl.kept } in
    let is = value_of_kind-right pr npr cpl p.prefix.sub inv in
    (λ i. lane_outcome_by_keys (value_of_kind p.prefix.sub pr npr cpl) pr.kept.got p
    (live_in (slot_in_set (is.kept_is i).slots p.prefix.k))
    (live_in (slot_in_set (is.kept_is i).slots (not p.prefix.k))))
    ∙ under_here (value_of_kind p.prefix.sub pr npr cpl) pr.aggregation pr.closed rx p
    (live_in (slot_in_set (at_sub rx p.prefix.sub).slots p.prefix.k))
    (live_in (slot_in_set (at_sub rx p.prefix.sub).slots (not p.prefix.k))) is

-- ---- the receivers after it

dropped_again : (slot : LaneSlot) → slot_without_packets (slot_without_packets slot) ≡ slot_without_packets slot
dropped_again Empty = refl
dropped_again (Programmed j key) = refl
dropped_again (Armed j key) = refl
dropped_again (Live x) = refl

dropped_twice : (rx : RxSub) → dropped_held (dropped_held rx) ≡ dropped_held rx
dropped_twice rx = λ i. record rx
    { slots = record { first = dropped_again rx.slots.first i; second = dropped_again rx.slots.second i } }

-- a packet of a sub-stream
abbrev pub of_sub : Packet → SubKind → Packet
of_sub p u = record p { prefix = record p.prefix { sub = u } }

abbrev pub kept_in : SubKind → SubKind → RxSub → Packet → PacketOutcome → RxSub
kept_in u w rx p t = if is_same_sub u w then kept_sub_after rx p t else rx

abbrev pub kept_last : Answer → RxSub → RxSub
kept_last a rx = if is_fail a then dropped_held rx else rx

abbrev pub three_after : SubKind → RxSub → RxSub → RxSub → Packet → PacketOutcome → Answer → Three RxSub
three_after u pr npr cpl p t a = record {
  pr = kept_last a (kept_in u Pr pr p t);
  npr = kept_last a (kept_in u Npr npr p t);
  cpl = kept_last a (kept_in u Cpl cpl p t);
}

three_right : (st : StreamState) (u : SubKind) (p : Packet) (t : PacketOutcome) (a : Answer) → Some a ≡ answer_taken t
    → three_after u st.rx.pr st.rx.npr st.rx.cpl (of_sub p u) t a ≡ (state_after st (of_sub p u) t).rx
three_right st u p Insecure a e = absurd (cc)
three_right st Pr p NotKeyed a e = let same : a ≡ answers.NotKeyed = cc in rw same refl
three_right st Npr p NotKeyed a e = let same : a ≡ answers.NotKeyed = cc in rw same refl
three_right st Cpl p NotKeyed a e = let same : a ≡ answers.NotKeyed = cc in rw same refl
three_right st Pr p (Failed cause) a e =
    let same : a ≡ answers.Fail cause = cc in
    rw same (λ i. record { pr = dropped_twice st.rx.pr i; npr = dropped_held st.rx.npr; cpl = dropped_held st.rx.cpl })
three_right st Npr p (Failed cause) a e =
    let same : a ≡ answers.Fail cause = cc in
    rw same (λ i. record { pr = dropped_held st.rx.pr; npr = dropped_twice st.rx.npr i; cpl = dropped_held st.rx.cpl })
three_right st Cpl p (Failed cause) a e =
    let same : a ≡ answers.Fail cause = cc in
    rw same (λ i. record { pr = dropped_held st.rx.pr; npr = dropped_held st.rx.npr; cpl = dropped_twice st.rx.cpl i })
three_right st Pr p (Held j n) a e = let same : a ≡ answers.Held j n = cc in rw same refl
three_right st Npr p (Held j n) a e = let same : a ≡ answers.Held j n = cc in rw same refl
three_right st Cpl p (Held j n) a e = let same : a ≡ answers.Held j n = cc in rw same refl
three_right st Pr p (Accepted j n unit) a e = let same : a ≡ answers.Accepted j n (length unit) = cc in rw same refl
three_right st Npr p (Accepted j n unit) a e = let same : a ≡ answers.Accepted j n (length unit) = cc in rw same refl
three_right st Cpl p (Accepted j n unit) a e = let same : a ≡ answers.Accepted j n (length unit) = cc in rw same refl

pub three-right : (st : StreamState) (p : Packet) (t : PacketOutcome) (a : Answer) → Some a ≡ answer_taken t
    → three_after p.prefix.sub st.rx.pr st.rx.npr st.rx.cpl p t a ≡ (state_after st p t).rx
three-right st p t a e = three_right st p.prefix.sub p t a e

-- ---- what is lent

-- the receiver after both steps
pub record IsAfter (u w : SubKind) (p : Packet) (t : PacketOutcome) (a : Answer) (old new : ReceiveEnd) : Type 0 where
  pub sub_is : new.sub ≡ old.sub
  pub aggregation_is : new.aggregation ≡ old.aggregation
  pub closed_is : new.closed ≡ old.closed
  pub kept_is : new.kept ≡ kept_last a (kept_in u w old.kept p t)
  pub delivered_is : is_fail a ≡ false → new.delivered ≡ (if is_same_sub u w then end_after old p t else old).delivered

kept_of : (b : Bool) (old : ReceiveEnd) (p : Packet) (t : PacketOutcome) → (if b then end_after old p t else old).kept
    ≡ (if b then kept_sub_after old.kept p t else old.kept)
kept_of true old p t = refl
kept_of false old p t = refl

sub_of : (b : Bool) (old : ReceiveEnd) (p : Packet) (t : PacketOutcome) → (if b then end_after old p t else old).sub
    ≡ old.sub
sub_of true old p t = refl
sub_of false old p t = refl

aggregation_of : (b : Bool) (old : ReceiveEnd) (p : Packet) (t : PacketOutcome)
    → (if b then end_after old p t else old).aggregation ≡ old.aggregation
aggregation_of true old p t = refl
aggregation_of false old p t = refl

closed_of : (b : Bool) (old : ReceiveEnd) (p : Packet) (t : PacketOutcome)
    → (if b then end_after old p t else old).closed ≡ old.closed
closed_of true old p t = refl
closed_of false old p t = refl

pub is-after : (u w : SubKind) (p : Packet) (t : PacketOutcome) (a : Answer) (old mid new : ReceiveEnd)
    → mid ≡ (if is_same_sub u w then end_after old p t else old)
    → new.kept ≡ (if is_fail a then dropped_held mid.kept else mid.kept)
    → (is_fail a ≡ false → new.delivered ≡ mid.delivered)
    → new ≡ record mid { kept = new.kept; delivered = new.delivered } → IsAfter u w p t a old new
is-after u w p t a old mid new mid_is kept delivered rest =
    let b = is_same_sub u w in
    record {
      sub_is = ap (λ (e : ReceiveEnd). e.sub) rest ∙ ap (λ (e : ReceiveEnd). e.sub) mid_is ∙ sub_of b old p t;
      aggregation_is = ap (λ (e : ReceiveEnd). e.aggregation) rest ∙ ap (λ (e : ReceiveEnd). e.aggregation) mid_is ∙
          aggregation_of b
          old p t;
      closed_is = ap (λ (e : ReceiveEnd). e.closed) rest ∙ ap (λ (e : ReceiveEnd). e.closed) mid_is ∙ closed_of b old p
          t;
      kept_is = kept ∙ ap (kept_last a) (ap (λ (e : ReceiveEnd). e.kept) mid_is ∙ kept_of b old p t);
      delivered_is = λ no_fail. delivered no_fail ∙ ap (λ (e : ReceiveEnd). e.delivered) mid_is;
    }

lent_right : (u : SubKind) (p : Packet) (t : PacketOutcome) (a : Answer) (pr npr cpl pr' npr' cpl' : ReceiveEnd)
    (st : StreamState) → Some a ≡ answer_taken t
    → st.rx ≡ record { pr = pr.kept; npr = npr.kept; cpl = cpl.kept }
    → (is_fail a ≡ false → pr'.delivered ≡ (if is_same_sub u Pr then end_after pr (of_sub p u) t else pr).delivered)
    → (is_fail a ≡ false → npr'.delivered ≡ (if is_same_sub u Npr then end_after npr (of_sub p u) t else npr).delivered)
    → (is_fail a ≡ false → cpl'.delivered ≡ (if is_same_sub u Cpl then end_after cpl (of_sub p u) t else cpl).delivered)
    → lent_lane_packets (lent_lane u a) pr' npr' cpl' ≡ opened_if_accepted st (of_sub p u) t
lent_right u p Insecure a pr npr cpl pr' npr' cpl' st e is d1 d2 d3 = absurd (cc)
lent_right u p NotKeyed a pr npr cpl pr' npr' cpl' st e is d1 d2 d3 = let same : a
    ≡ answers.NotKeyed = cc in rw same refl
lent_right u p (Failed cause) a pr npr cpl pr' npr' cpl' st e is d1 d2 d3 = let same : a
    ≡ answers.Fail cause = cc in rw same refl
lent_right u p (Held j n) a pr npr cpl pr' npr' cpl' st e is d1 d2 d3 = let same : a
    ≡ answers.Held j n = cc in rw same refl
lent_right Pr p (Accepted j n unit) a pr npr cpl pr' npr' cpl' st e is d1 d2 d3 =
    let same : a ≡ answers.Accepted j n (length unit) = cc in
    ap (λ (b : Answer). lent_lane_packets (lent_lane Pr b) pr' npr' cpl') same ∙ d1 (ap is_fail same)
    ∙ ap (λ (rx : Three RxSub). opened_unit (live_in (slot_in_set rx.pr.slots p.prefix.k)) Pr unit) (sym is)
lent_right Npr p (Accepted j n unit) a pr npr cpl pr' npr' cpl' st e is d1 d2 d3 =
    let same : a ≡ answers.Accepted j n (length unit) = cc in
    ap (λ (b : Answer). lent_lane_packets (lent_lane Npr b) pr' npr' cpl') same ∙ d2 (ap is_fail same)
    ∙ ap (λ (rx : Three RxSub). opened_unit (live_in (slot_in_set rx.npr.slots p.prefix.k)) Npr unit) (sym is)
lent_right Cpl p (Accepted j n unit) a pr npr cpl pr' npr' cpl' st e is d1 d2 d3 =
    let same : a ≡ answers.Accepted j n (length unit) = cc in
    ap (λ (b : Answer). lent_lane_packets (lent_lane Cpl b) pr' npr' cpl') same ∙ d3 (ap is_fail same)
    ∙ ap (λ (rx : Three RxSub). opened_unit (live_in (slot_in_set rx.cpl.slots p.prefix.k)) Cpl unit) (sym is)

-- the packet's own receiver takes it
own_take : (u w : SubKind) (pr npr cpl : ReceiveEnd) (got : ℕ) (p : Packet)
    → (if is_same_sub u w then end_after (value_of_kind w pr npr cpl) p
    (lane_outcome (value_of_kind w pr npr cpl) got p) else value_of_kind w
    pr npr cpl)
    ≡ (if is_same_sub u w then end_after (value_of_kind w pr npr cpl) p
    (lane_outcome (value_of_kind u pr npr cpl) got p) else value_of_kind w
    pr npr cpl)
own_take Pr Pr pr npr cpl got p = refl
own_take Pr Npr pr npr cpl got p = refl
own_take Pr Cpl pr npr cpl got p = refl
own_take Npr Pr pr npr cpl got p = refl
own_take Npr Npr pr npr cpl got p = refl
own_take Npr Cpl pr npr cpl got p = refl
own_take Cpl Pr pr npr cpl got p = refl
own_take Cpl Npr pr npr cpl got p = refl
own_take Cpl Cpl pr npr cpl got p = refl

pub own-after : (u w : SubKind) (p : Packet) (a : Answer) (pr npr cpl mid new : ReceiveEnd) (got : ℕ)
    → mid ≡ (if is_same_sub u w then end_after (value_of_kind w pr npr cpl) p
    (lane_outcome (value_of_kind w pr npr cpl) got p) else
    value_of_kind w pr npr cpl)
    → new.kept ≡ (if is_fail a then dropped_held mid.kept else mid.kept)
    → (is_fail a ≡ false → new.delivered ≡ mid.delivered)
    → new ≡ record mid { kept = new.kept; delivered = new.delivered }
    → IsAfter u w p (lane_outcome (value_of_kind u pr npr cpl) got p) a (value_of_kind w pr npr cpl) new
own-after u w p a pr npr cpl mid new got mid_is kept delivered rest =
    is-after u w p (lane_outcome (value_of_kind u pr npr cpl) got p) a (value_of_kind w pr npr cpl) mid new
    (mid_is ∙ own_take u w pr npr cpl got p) kept delivered rest

pub record AreAfter (p : Packet) (t : PacketOutcome) (a : Answer) (pr npr cpl pr' npr' cpl' : ReceiveEnd) : Type 0 where
  pub pr_is : IsAfter p.prefix.sub Pr p t a pr pr'
  pub npr_is : IsAfter p.prefix.sub Npr p t a npr npr'
  pub cpl_is : IsAfter p.prefix.sub Cpl p t a cpl cpl'

pub ends-after : (p : Packet) (t : PacketOutcome) (a : Answer) (pr npr cpl pr' npr' cpl' : ReceiveEnd)
    (lent : Option SubKind)
    → Some a ≡ answer_taken t → AreAfter p t a pr npr cpl pr' npr' cpl'
    → view pr' npr' cpl' (lent_lane p.prefix.sub a) ≡ receive_ends_after (view pr npr cpl lent) p t
ends-after p t a pr npr cpl pr' npr' cpl' lent e after =
    let old : ReceiveEnds = view pr npr cpl lent in
    let delivered : lent_lane_packets (lent_lane p.prefix.sub a) pr' npr' cpl'
    ≡ opened_if_accepted (receiving_state old) p t =
    lent_right p.prefix.sub p t a pr npr cpl pr' npr' cpl' (receiving_state old) e refl after.pr_is.delivered_is
    after.npr_is.delivered_is after.cpl_is.delivered_is in
    (λ i. record {
      aggregation = after.pr_is.aggregation_is i;
      closed = after.pr_is.closed_is i;
      rx = record { pr = after.pr_is.kept_is i; npr = after.npr_is.kept_is i; cpl = after.cpl_is.kept_is i };
      delivered = delivered i;
    })
    ∙ ap (λ (rx : Three RxSub). record {
      aggregation = pr.aggregation;
      closed = pr.closed;
      rx = rx;
      delivered = opened_if_accepted (receiving_state old) p t;
    }) (three-right (receiving_state old) p t a e)

-- ---- what always holds

-- an accepted unit keeps the order
abbrev pub Orderly : ReceiveEnd → ℕ → PacketOutcome → Type 0
Orderly e got (Accepted j n unit) = allows e got unit ≡ true
Orderly e got t = Unit {0}

pub orderly : (e : ReceiveEnd) (got : ℕ) (p : Packet) (x y : Option LiveKey)
    → Orderly e got (lane_outcome_by_keys e got p x y)
orderly e got p None None = tt
orderly e got p None (Some y) = tt
orderly e got p (Some x) y =
    by_tests (holds_any y || (not p.prefix.m && nat_le e.aggregation (length x.packets + 1))) p.prefix.m
    (is_tagged e.closed e.kept.total x p) (allows e got (x.packets ++ p ∷ [])) refl
  where
    by_tests : (b m tagged allowed : Bool) → allows e got (x.packets ++ p ∷ []) ≡ allowed
        → Orderly e got (if b then Failed fail.Unit else if m then outcome_of_checks tagged allowed x p else Held x.draw
        (x.units + 1))
    by_tests true m tagged allowed is = tt
    by_tests false false tagged allowed is = tt
    by_tests false true false allowed is = tt
    by_tests false true true false is = tt
    by_tests false true true true is = is

within : (a b : ℕ) → nat_le a b ≡ true → a ≤ b
within a b e = grind (arith, common_steps)

sum_last : (b : Bool) (rx : RxSub) → (if b then dropped_held rx else rx).sum ≡ rx.sum
sum_last true rx = refl
sum_last false rx = refl

got_last : (b : Bool) (rx : RxSub) → (if b then dropped_held rx else rx).got ≡ rx.got
got_last true rx = refl
got_last false rx = refl

got_more : (rx : RxSub) (p : Packet) (t : PacketOutcome) → rx.got ≤ (kept_sub_after rx p t).got
got_more rx p Insecure = omega arith
got_more rx p NotKeyed = omega arith
got_more rx p (Failed cause) = omega arith
got_more rx p (Held j n) = omega arith
got_more rx p (Accepted j n unit) = omega arith

sum_within : (e : ReceiveEnd) (got : ℕ) (p : Packet) (t : PacketOutcome) → (sub_bits e.sub == 0) ≡ false
    → e.kept.sum ≤ got → Orderly e got t → (kept_sub_after e.kept p t).sum ≤ got
sum_within e got p Insecure other le o = le
sum_within e got p NotKeyed other le o = le
sum_within e got p (Failed cause) other le o = le
sum_within e got p (Held j n) other le o = le
sum_within e got p (Accepted j n unit) other le o =
    within (e.kept.sum + posted_sum unit) got
    (ap (λ (b : Bool). b || nat_le (e.kept.sum + posted_sum unit) got) (sym other) ∙ o)

-- the order of a sub-stream, whatever the packet's
order_kept : (u w : SubKind) (p : Packet) (t : PacketOutcome) (pr e : ReceiveEnd) → (u ≡ w → Orderly e pr.kept.got t)
    → e.sub ≡ w → (sub_bits w == 0) ≡ false → e.kept.sum ≤ pr.kept.got
    → (kept_in u w e.kept p t).sum ≤ (kept_in u Pr pr.kept p t).got
order_kept Pr Pr p t pr e o is other le = absurd (cc)
order_kept Npr Pr p t pr e o is other le = absurd (cc)
order_kept Cpl Pr p t pr e o is other le = absurd (cc)
order_kept Pr Npr p t pr e o is other le = let more = got_more pr.kept p t in omega (arith, more, le)
order_kept Pr Cpl p t pr e o is other le = let more = got_more pr.kept p t in omega (arith, more, le)
order_kept Npr Npr p t pr e o is other le = sum_within e pr.kept.got p t (ap (λ (w : SubKind). sub_bits w == 0) is) le
    (o refl)
order_kept Cpl Cpl p t pr e o is other le = sum_within e pr.kept.got p t (ap (λ (w : SubKind). sub_bits w == 0) is) le
    (o refl)
order_kept Npr Cpl p t pr e o is other le = le
order_kept Cpl Npr p t pr e o is other le = le

order_last : (a : Answer) (x y : RxSub) → x.sum ≤ y.got → (kept_last a x).sum ≤ (kept_last a y).got
order_last a x y le = omega (arith, le, sum_last (is_fail a) x, got_last (is_fail a) y)

pub lanes-kept : (p : Packet) (t : PacketOutcome) (a : Answer) (pr npr cpl pr' npr' cpl' : ReceiveEnd)
    → IsReceiveLanes pr npr cpl → lane_outcome (value_of_kind p.prefix.sub pr npr cpl) pr.kept.got p ≡ t
    → AreAfter p t a pr npr cpl pr' npr' cpl' → IsReceiveLanes pr' npr' cpl'
lanes-kept p t a pr npr cpl pr' npr' cpl' inv is after =
    let npr_order : (kept_in p.prefix.sub Npr npr.kept p t).sum ≤ (kept_in p.prefix.sub Pr pr.kept p t).got =
    order_kept p.prefix.sub Npr p t pr npr (λ e. picked_order Npr e) inv.is_npr refl inv.npr_order in
    let cpl_order : (kept_in p.prefix.sub Cpl cpl.kept p t).sum ≤ (kept_in p.prefix.sub Pr pr.kept p t).got =
    order_kept p.prefix.sub Cpl p t pr cpl (λ e. picked_order Cpl e) inv.is_cpl refl inv.cpl_order in
    record {
      is_pr = after.pr_is.sub_is ∙ inv.is_pr;
      is_npr = after.npr_is.sub_is ∙ inv.is_npr;
      is_cpl = after.cpl_is.sub_is ∙ inv.is_cpl;
      npr_aggregation = after.npr_is.aggregation_is ∙ inv.npr_aggregation ∙ sym after.pr_is.aggregation_is;
      cpl_aggregation = after.cpl_is.aggregation_is ∙ inv.cpl_aggregation ∙ sym after.pr_is.aggregation_is;
      npr_closed = after.npr_is.closed_is ∙ inv.npr_closed ∙ sym after.pr_is.closed_is;
      cpl_closed = after.cpl_is.closed_is ∙ inv.cpl_closed ∙ sym after.pr_is.closed_is;
      npr_order =
          subst (λ (y : RxSub × RxSub). y.0.sum ≤ y.1.got)
          (λ i. (sym after.npr_is.kept_is i, sym after.pr_is.kept_is i))
          (order_last a (kept_in p.prefix.sub Npr npr.kept p t) (kept_in p.prefix.sub Pr pr.kept p t) npr_order);
      cpl_order =
          subst (λ (y : RxSub × RxSub). y.0.sum ≤ y.1.got)
          (λ i. (sym after.cpl_is.kept_is i, sym after.pr_is.kept_is i))
          (order_last a (kept_in p.prefix.sub Cpl cpl.kept p t) (kept_in p.prefix.sub Pr pr.kept p t) cpl_order);
    }
  where
    picked_order : (w : SubKind) → p.prefix.sub ≡ w → Orderly (value_of_kind w pr npr cpl) pr.kept.got t
    picked_order w e =
        subst (λ (u : SubKind). Orderly (value_of_kind u pr npr cpl) pr.kept.got t) e
        (subst (λ (t : PacketOutcome). Orderly (value_of_kind p.prefix.sub pr npr cpl) pr.kept.got t) is
        (orderly (value_of_kind p.prefix.sub pr npr cpl) pr.kept.got p
        (live_in (slot_in_set (value_of_kind p.prefix.sub pr npr cpl).kept.slots p.prefix.k))
        (live_in (slot_in_set (value_of_kind p.prefix.sub pr npr cpl).kept.slots (not p.prefix.k)))))
