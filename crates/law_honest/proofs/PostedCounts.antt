-- The posted counts of what was sealed up to a packet of a sub-stream sum to the posted packets that were sealed before
-- it. So if these came, and nothing came of the sub-stream that was not sealed, the counts are met.
use Rattle.std.proofs.Common.{get_or}
use Rattle.std.proofs.lemmas.List.{length-take-le}
use Rattle.std.proofs.lemmas.Option.{slice_get_within, slice_get-get_or}
use Rattle.law_sealing.proofs.Terms.{◌≡◌, ◌≢◌, ℕ, suc, ◌+◌, ◌<◌, ◌≤◌, ◌==◌, true, List, [], ◌∷◌, ◌++◌}
use Rattle.law_sealing.proofs.Terms.{length, take, sum_by, slice_get, Some, refl, ap, sym, ◌∙◌, arith}
use Rattle.law_sealing.proofs.Terms.{AllByRecursion, take-take, is_same}
use Rattle.law_sealing.proofs.Terms.{sum_by-append, sum_by-cons, leb-true, le-leb, or_right, sub_bits, Plan, SubStream}
use Rattle.law_sealing.proofs.Terms.{History, base, SealedList, sealed_packets, sent_packets}
use Rattle.law_sealing.proofs.Terms.{sub_stream_packets, sub_stream_of, accepted_packets, got_since, draws_got}
use Rattle.law_sealing.proofs.Terms.{posted_lane, pending_packets, meets_counts, CauseLaw, IsPrefixOf, DrawFacts}
use Rattle.law_sealing.proofs.Terms.{SealedPacket, Packet, PortName, lane_in, IsOn, received_direction}
use Rattle.spec_links.specs.Ordered.{IsPacketAtPlace}
use Rattle.law_sealing.proofs.Sums.{at_taken, smaller_before, in_parts}
use Rattle.law_sealing.proofs.Places.{PlaceAmong, place_among}
use Rattle.law_sealing.proofs.Counted.{counted}
use Rattle.law_sealing.proofs.Totals.{total, total-le, sealed_total, got_total}
use Rattle.law_delivery.proofs.Orders.{is_drawn, below_next}
use Rattle.law_delivery.proofs.Ordering.{sum_begins, counted_one, weight, number, sums, below_until}
use Rattle.law_honest.specs.ByOrder.{PostedCame}

-- ---- bounds of draws

more_below : (n m : ℕ) → n ≤ m → (js : List ℕ) → AllByRecursion (λ (j : ℕ). j < n) js
    → AllByRecursion (λ (j : ℕ). j < m) js
more_below n m le [] all = tt
more_below n m le (j ∷ js) all = (omega (arith, le, all.0), more_below n m le js all.1)

bounded : (js : List ℕ) → (n : ℕ) × AllByRecursion (λ (j : ℕ). j < n) js
bounded [] = (0, tt)
bounded (j ∷ js) =
    let rest = bounded js in
    (suc j + rest.0, (omega arith, more_below rest.0 (suc j + rest.0) (omega arith) js rest.1))

-- the packets of the sub-stream are of draws below this one
abbrev SealedBelow : SubStream → ℕ → SealedList → Type 0
SealedBelow s n xs = AllByRecursion
    (λ (x : SealedPacket × Packet). is_same (sub_stream_of x.0) s ≡ true → x.0.draw < n) xs

more_sealed_below : (s : SubStream) (n m : ℕ) → n ≤ m → (xs : SealedList) → SealedBelow s n xs → SealedBelow s m xs
more_sealed_below s n m le [] all = tt
more_sealed_below s n m le (x ∷ xs) all =
    (λ here. let less = all.0 here in omega (arith, le, less), more_sealed_below s n m le xs all.1)

sealed_bounded : (s : SubStream) (xs : SealedList) → (n : ℕ) × SealedBelow s n xs
sealed_bounded s [] = (0, tt)
sealed_bounded s (x ∷ xs) =
    let rest = sealed_bounded s xs in
    let n : ℕ = suc x.0.draw + rest.0 in
    (n, (λ here. omega arith, more_sealed_below s rest.0 n (omega arith) xs rest.1))

-- ---- the posted packets came

abbrev one : Packet → ℕ
one p = 1

abbrev posted : Packet → ℕ
posted p = p.prefix.posted

-- under each draw
came_under : (plan : Plan) (h : History) (s : SubStream) (place k : ℕ) → PostedCame plan h s place
    → base h s.line s.stream ≤ k
    → length (sub_stream_packets (take place (sealed_packets plan h)) (posted_lane s) k)
    ≤ length (accepted_packets plan h (posted_lane s) k)
came_under plan h s place k came up = by ys refl
  where
    xs : SealedList
    xs = sealed_packets plan h

    ys : List Packet
    ys = sub_stream_packets (take place xs) (posted_lane s) k

    by : (ps : List Packet) → ys ≡ ps → length ys ≤ length (accepted_packets plan h (posted_lane s) k)
    by [] is = let none = ap length is in omega (arith, none)
    by (p ∷ ps) is =
        let size : length ys ≡ suc (length ps) = ap length is in
        let last = slice_get-get_or ys (length ps) p (omega (arith, size)) in
        let among = place_among (take place xs) (posted_lane s) k (length ps) (get_or ys (length ps) p) last in
        let there = at_taken xs place among.place among.sealed among.stands in
        let first = ap (λ (zs : SealedList). length (sub_stream_packets zs (posted_lane s) k))
        (take-take among.place place xs (omega (arith, there.0))) in
        let before = ap length among.before in
        let taken = length-take-le (length ps) ys (omega (arith, size)) in
        let less = came k (length ps) among.place up there.0 (record {
          sealed = among.sealed;
          stands = there.1;
          under = among.under;
          number = omega (arith, first, before, taken);
        }) in
        omega (arith, less, size)

-- under all draws
all_came : (plan : Plan) (h : History) (s : SubStream) (place : ℕ) → PostedCame plan h s place
    → number (base h s.line s.stream) (posted_lane s) (take place (sealed_packets plan h))
    ≤ length (got_since plan h (posted_lane s) (base h s.line s.stream))
all_came plan h s place came =
    let from = base h s.line s.stream in
    let t = posted_lane s in
    let ys = take place (sealed_packets plan h) in
    let got = bounded (draws_got h t) in
    let sealed = sealed_bounded t ys in
    let n : ℕ = got.0 + sealed.0 in
    let got_sum = got_total one plan h t from n (more_below got.0 n (omega arith) (draws_got h t) got.1) in
    let sealed_sum = sealed_total one t from n ys (more_sealed_below t sealed.0 n (omega arith) ys sealed.1) in
    let each = total-le from n (λ k. sum_by one (sub_stream_packets ys t k))
    (λ k. sum_by one (accepted_packets plan h t k))
    (λ k up less. omega (
      arith,
      counted_one (sub_stream_packets ys t k),
      counted_one (accepted_packets plan h t k),
      came_under plan h s place k came up,
    )) in
    omega (arith, got_sum, sealed_sum, each, counted_one (got_since plan h t from))

-- ---- the counts

last_total : (from j : ℕ) (f : ℕ → ℕ) → from ≤ j → total from (suc j) f ≡ total from j f + f j
last_total from j f le = rw (le-leb from j le) refl

module _
    (plan : Plan) (facts : DrawFacts plan) (h : History) (cause : CauseLaw plan h) (s : SubStream) (j m : ℕ)
    (p : Packet) (sealed : slice_get (sent_packets plan h s j) m ≡ Some p) (port : PortName)
    (receiver : (port.line ≡ s.line) × (received_direction port.side ≡ s.direction)) (live : IsOn plan h port s j)
    (in_order : accepted_packets plan h s j ++ pending_packets plan h s j ≡ take m (sent_packets plan h s j)) where
  abbrev xs : SealedList
  xs = sealed_packets plan h

  abbrev from : ℕ
  from = base h s.line s.stream

  abbrev among : PlaceAmong xs s j m p
  among = place_among xs s j m p sealed

  pub at : IsPacketAtPlace xs s j m among.place
  at =
      let size = length-take-le m (sent_packets plan h s j)
      (let less = slice_get_within (sent_packets plan h s j) m p sealed in omega (arith, less)) in
      let before = ap length among.before in
      record {
        sealed = among.sealed;
        stands = among.stands;
        under = among.under;
        number = omega (arith, before, size);
      }

  least : from ≤ j
  least = leb-true _ _ (facts.from_base h cause port s live.0 j (is_drawn _ j live.1))

  lane : lane_in port s.stream s.sub ≡ s
  lane = λ i. record { line = receiver.0 i; stream = s.stream; direction = receiver.1 i; sub = s.sub }

  got_below : AllByRecursion (λ (k : ℕ). k < suc j) (draws_got h s)
  got_below =
      let above : AllByRecursion (λ (k : ℕ). k ≤ j) (draws_got h s) = rw lane at
      (facts.above_got h cause port s.stream s.sub live.0 j (rw lane (is_drawn _ j live.1))) in
      below_next j (draws_got h s) above

  module _
      (other : sub_bits s.sub ≢ 0) (came : PostedCame plan h s among.place)
      (smaller : (i : ℕ) → from ≤ i → i < j → IsPrefixOf (accepted_packets plan h s i) (sent_packets plan h s i)) where
    abbrev before : SealedList
    before = take among.place xs

    -- what came of the sub-stream carries no more than what was sealed of it before the packet
    own : sum_by posted (got_since plan h s from) + sum_by posted (pending_packets plan h s j) ≤ weight from s before
    own =
        let got = got_total posted plan h s from (suc j) got_below
        ∙ last_total from j (λ k. sum_by posted (accepted_packets plan h s k)) least in
        let below = below_until xs s among.place j among.place m (facts.rises h cause) at (omega arith) in
        let total = sealed_total posted s from (suc j) before below
        ∙ last_total from j (λ k. sum_by posted (sub_stream_packets before s k)) least in
        let each = total-le from j (λ k. sum_by posted (accepted_packets plan h s k))
        (λ k. sum_by posted (sub_stream_packets before s k))
        (λ k up less.
        rw (smaller_before xs s among.place j k among.sealed (facts.rises h cause) among.stands among.under less)
        (sum_begins posted _ _ (smaller k up less))) in
        let last = ap (sum_by posted) (in_order ∙ sym among.before) in
        let parts = sum_by-append posted (accepted_packets plan h s j) (pending_packets plan h s j) in
        omega (arith, got, total, each, last, parts)

    pub met : meets_counts plan h s (pending_packets plan h s j ++ p ∷ []) ≡ true
    unfolding meets_counts
    met =
        let each = counted plan facts h cause s from other (facts.since_base h cause s) in
        let here = in_parts s j among.sealed among.under in
        let carries = ap (λ (q : Packet). q.prefix.posted) (sym among.packet)
        ∙ each among.place among.sealed among.stands here.0 (omega (arith, least, here.1)) in
        let all = sums from s xs other each among.place in
        let posts = all_came plan h s among.place came in
        let parts = sum_by-append posted (got_since plan h s from) (pending_packets plan h s j ++ p ∷ []) in
        let unit = sum_by-append posted (pending_packets plan h s j) (p ∷ []) in
        let single = sum_by-cons posted p [] in
        let few : sum_by posted (got_since plan h s from ++ (pending_packets plan h s j ++ p ∷ []))
        ≤ length (got_since plan h (posted_lane s) from) = omega (arith, own, carries, all, posts, parts, unit, single)
        in
        or_right (sub_bits s.sub == 0) _ (le-leb _ _ few)
