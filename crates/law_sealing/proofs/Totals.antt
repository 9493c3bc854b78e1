-- Sums over the draws of a sub-stream.
use Rattle.law_sealing.proofs.Terms.{◌≡◌, ℕ, zero, suc, ◌+◌, ◌<◌, ◌≤◌, ◌==◌, ◌&&◌, Bool, true, false, nat_le, nat_lt}
use Rattle.law_sealing.proofs.Terms.{List, [], ◌∷◌, ◌++◌, filter, sum_by, refl, sym, arith, if◌then◌else◌}
use Rattle.law_sealing.proofs.Terms.{AllByRecursion, nat_tests, sum_by-append, sum_by-cons, Plan, SubStream, is_same}
use Rattle.law_sealing.proofs.Terms.{History, SealedList, sub_stream_packets, is_sealed_under, sub_stream_of}
use Rattle.law_sealing.proofs.Terms.{arrived_packet, received_in, packets_in_hold, accepted_packets, got_since}
use Rattle.law_sealing.proofs.Terms.{draws_got, Accepted, SealedPacket, Packet}

-- ---- sums from one draw on, below another

abbrev pub total : ℕ → ℕ → (ℕ → ℕ) → ℕ
total from zero f = 0
total from (suc n) f = total from n f + (if nat_le from n then f n else 0)

pub total-le : (from n : ℕ) (f g : ℕ → ℕ) → ((k : ℕ) → from ≤ k → k < n → f k ≤ g k) → total from n f ≤ total from n g
total-le from zero f g le = omega arith
total-le from (suc n) f g le = grind
    (arith, nat_tests, total-le from n f g (λ k above below. le k above (omega (arith, below))), le n)

pub total-same : (from n : ℕ) (f g : ℕ → ℕ) → ((k : ℕ) → from ≤ k → k < n → f k ≡ g k) → total from n f ≡ total from n g
total-same from zero f g same = refl
total-same from (suc n) f g same = grind
    (arith, nat_tests, total-same from n f g (λ k above below. same k above (omega (arith, below))), same n)

pub total-none : (from n : ℕ) → total from n (λ k. 0) ≡ 0
total-none from zero = refl
total-none from (suc n) = grind (arith, total-none from n)

-- a value is added at one draw, if a test holds
joined_below : (t : Bool) (from n d v : ℕ) (f g : ℕ → ℕ) → ((k : ℕ) → g k ≡ f k + (if t && (d == k) then v else 0))
    → total from n g ≡ total from n f + (if t && nat_le from d && nat_lt d n then v else 0)
joined_below t from zero d v f g more = grind (arith, nat_tests)
joined_below t from (suc n) d v f g more = grind (arith, nat_tests, joined_below t from n d v f g more, more n)

pub joined : (t : Bool) (from n d v : ℕ) (f g : ℕ → ℕ) → (t ≡ true → d < n)
    → ((k : ℕ) → g k ≡ f k + (if t && (d == k) then v else 0))
    → total from n g ≡ total from n f + (if t && nat_le from d then v else 0)
joined t from n d v f g below more = grind (arith, nat_tests, joined_below t from n d v f g more, below)

-- ---- of what was sealed

abbrev pub of_since : ℕ → SubStream → SealedPacket × Packet → Bool
of_since from s x = is_same (sub_stream_of x.0) s && nat_le from x.0.draw

sent_more : (w : Packet → ℕ) (s : SubStream) (k : ℕ) (x : SealedPacket × Packet) (xs : SealedList)
    → sum_by w (sub_stream_packets (x ∷ xs) s k) ≡ sum_by w (sub_stream_packets xs s k) +
    (if is_sealed_under s k x then w x.1 else 0)
unfolding sub_stream_packets
sent_more w s k x xs = grind (arith, sum_by-cons w x.1 (sub_stream_packets xs s k))

pub sealed_total : (w : Packet → ℕ) (s : SubStream) (from n : ℕ) (xs : SealedList)
    → AllByRecursion (λ (x : SealedPacket × Packet). is_same (sub_stream_of x.0) s ≡ true → x.0.draw < n) xs
    → sum_by (λ (x : SealedPacket × Packet). w x.1) (filter (of_since from s) xs)
    ≡ total from n (λ k. sum_by w (sub_stream_packets xs s k))
unfolding sub_stream_packets
sealed_total w s from n [] below = sym (total-none from n)
sealed_total w s from n (x ∷ xs) below =
    let before = sealed_total w s from n xs below.1 in
    let here = joined (is_same (sub_stream_of x.0) s) from n x.0.draw (w x.1)
    (λ k. sum_by w (sub_stream_packets xs s k))
    (λ k. sum_by w (sub_stream_packets (x ∷ xs) s k)) below.0
    (λ k. sent_more w s k x xs) in
    grind (arith, before, here, sum_by-cons (λ (y : SealedPacket × Packet). w y.1) x (filter (of_since from s) xs))

pub sealed_least : (w : Packet → ℕ) (s : SubStream) (from n : ℕ) (xs : SealedList)
    → total from n (λ k. sum_by w (sub_stream_packets xs s k)) ≤ sum_by (λ (x : SealedPacket × Packet). w x.1)
    (filter (of_since from s) xs)
unfolding sub_stream_packets
sealed_least w s from n [] = omega (arith, total-none from n)
sealed_least w s from n (x ∷ xs) =
    let here = joined_below (is_same (sub_stream_of x.0) s) from n x.0.draw (w x.1)
    (λ k. sum_by w (sub_stream_packets xs s k))
    (λ k. sum_by w (sub_stream_packets (x ∷ xs) s k))
    (λ k. sent_more w s k x xs) in
    grind (
      arith,
      sealed_least w s from n xs,
      here,
      sum_by-cons (λ (y : SealedPacket × Packet). w y.1) x
          (filter (of_since from s) xs),
    )

-- ---- of what was got

pub first_and_rest : (P : ℕ → Type 0) (t : Bool) (x : ℕ) (xs : List ℕ) → AllByRecursion P (if t then x ∷ xs else xs)
    → (t ≡ true → P x) × AllByRecursion P xs
first_and_rest P true x xs all = (λ e. all.0, all.1)
first_and_rest P false x xs all = (λ e. absurd cc, all)

pub got_total : (w : Packet → ℕ) (plan : Plan) (h : History) (s : SubStream) (from n : ℕ)
    → AllByRecursion (λ (j : ℕ). j < n) (draws_got h s)
    → sum_by w (got_since plan h s from) ≡ total from n (λ k. sum_by w (accepted_packets plan h s k))
unfolding accepted_packets got_since draws_got
got_total w plan [] s from n below = sym (total-none from n)
got_total w plan ((e, Accepted port unit effects) ∷ h) s from n below =
    let parts = first_and_rest (λ (j : ℕ). j < n) t unit.draw (draws_got h s) below in
    let rest = got_total w plan h s from n parts.1 in
    let more = λ (k : ℕ). sum_by w
    (if t && (unit.draw == k) then accepted_packets plan h s k ++ u k else accepted_packets plan h s k) in
    let here = joined t from n unit.draw (sum_by w (u unit.draw)) (λ k. sum_by w (accepted_packets plan h s k)) more
    parts.0
    (λ k. grind (arith, nat_tests, sum_by-append w (accepted_packets plan h s k) (u k))) in
    grind (arith, rest, here, sum_by-append w (got_since plan h s from) (u unit.draw))
  where
    t : Bool
    t = is_same (received_in port unit) s

    u : ℕ → List Packet
    u k = packets_in_hold plan h s k unit.unit ++ arrived_packet plan h e ∷ []
got_total w plan (_ ∷ h) s from n below = got_total w plan h s from n below
