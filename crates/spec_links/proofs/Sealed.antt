-- What one more sealed packet does to what was sent and to the posted counts.
use Rattle.spec_links.proofs.Terms.{Bool, List, [], ap, arith, drop, false, filter, length, length-append, refl, true}
use Rattle.spec_links.proofs.Terms.{ℕ, ◌++◌, ◌+◌, ◌-◌, ◌==◌, ◌∙◌, ◌∷◌, ◌≡◌, nat_tests, append-nil, drop-append-le}
use Rattle.spec_links.proofs.Terms.{drop_all, map-append, reverse-append, filter-append, suffix_len, Pr, SealedList}
use Rattle.spec_links.proofs.Terms.{ends_unit_since, is_sealed_from_draw, is_sealed_under, posted_since_last}
use Rattle.spec_links.proofs.Terms.{posted_lane, sub_stream_packets, sub_stream_of, total_in, with_sealed, SubStream}
use Rattle.spec_links.proofs.Terms.{is_same, is_same_port, lane_out, AllByRecursion, Packet, Plan, PortName}
use Rattle.spec_links.proofs.Terms.{SealedPacket, SubKind, after_last, if◌then◌else◌, not, ◌&&◌, ◌||◌}
use Rattle.spec_keys.proofs.Tests.{neither-true}

-- ---- the last place that passes a test

after_last-miss : {X : Type 0} (p : X → Bool) (xs : List X) (x : X) → p x ≡ false → after_last p (xs ++ x ∷ [])
    ≡ after_last p xs ++ x ∷ []
after_last-miss {X} p xs x other =
    let kept : X → Bool = λ y. not (p y) in
    let one : suffix_len kept (xs ++ x ∷ []) ≡ 1 + suffix_len kept xs = rw (reverse-append xs (x ∷ []), other) refl in
    let place : length (xs ++ x ∷ []) - suffix_len kept (xs ++ x ∷ [])
    ≡ length xs - suffix_len kept xs = omega (arith, one, length-append xs (x ∷ [])) in
    ap (λ (n : ℕ). drop n (xs ++ x ∷ [])) place ∙ drop-append-le (length xs - suffix_len kept xs) xs (x ∷ [])
    (omega arith)

after_last-hit : {X : Type 0} (p : X → Bool) (xs : List X) (x : X) → p x ≡ true → after_last p (xs ++ x ∷ []) ≡ []
after_last-hit {X} p xs x here =
    let kept : X → Bool = λ y. not (p y) in
    let none : suffix_len kept (xs ++ x ∷ []) ≡ 0 = rw (reverse-append xs (x ∷ []), here) refl in
    drop_all (length (xs ++ x ∷ []) - suffix_len kept (xs ++ x ∷ [])) (xs ++ x ∷ []) (omega (arith, none))

count_after : {X : Type 0} (p q : X → Bool) (xs : List X) (x : X) → p x ≡ false
    → length (filter q (after_last p (xs ++ x ∷ []))) ≡ length (filter q (after_last p xs)) + (if q x then 1 else 0)
count_after p q xs x other = rw (after_last-miss p xs x other, filter-append, length-append) (grind arith)

-- ---- posted counts

-- a packet of the sub-stream begins its count again
pub posted-own : (xs : SealedList) (x : SealedPacket × Packet) (s : SubStream) (from : ℕ)
    → is_sealed_from_draw s from x ≡ true → posted_since_last (xs ++ x ∷ []) s from ≡ 0
unfolding posted_since_last
posted-own xs x s from here = rw (after_last-hit (is_sealed_from_draw s from) xs x here) refl

-- one of another counts if it is a posted one
pub posted-more : (xs : SealedList) (x : SealedPacket × Packet) (s : SubStream) (from : ℕ)
    → is_sealed_from_draw s from x ≡ false
    → posted_since_last (xs ++ x ∷ []) s from
    ≡ posted_since_last xs s from + (if is_sealed_from_draw (posted_lane s) from x then 1 else 0)
unfolding posted_since_last
posted-more xs x s from other = count_after (is_sealed_from_draw s from) (is_sealed_from_draw (posted_lane s) from) xs x
    other

pub posted-same : (xs : SealedList) (x : SealedPacket × Packet) (s : SubStream) (from : ℕ)
    → is_sealed_from_draw s from x ≡ false → is_sealed_from_draw (posted_lane s) from x ≡ false
    → posted_since_last (xs ++ x ∷ []) s from ≡ posted_since_last xs s from
posted-same xs x s from other none = posted-more xs x s from other ∙ rw none (omega arith)

-- ---- totals

pub total-snoc : (xs : SealedList) (x : SealedPacket × Packet) (s : SubStream) (from : ℕ)
    → total_in (xs ++ x ∷ []) s from ≡ (if ends_unit_since s from x then total_in xs s from + 1 else total_in xs s from)
unfolding total_in
total-snoc xs x s from = rw (filter-append, length-append) (grind arith)

-- a packet of another sub-stream adds to no total
pub total-same : (xs : SealedList) (x : SealedPacket × Packet) (s : SubStream) (from : ℕ)
    → is_same (sub_stream_of x.0) s ≡ false → total_in (xs ++ x ∷ []) s from ≡ total_in xs s from
total-same xs x s from other = total-snoc xs x s from ∙ rw other refl

-- ---- what was sent

pub sub_stream_packets-snoc : (xs : SealedList) (x : SealedPacket × Packet) (s : SubStream) (j : ℕ)
    → sub_stream_packets (xs ++ x ∷ []) s j
    ≡ (if is_sealed_under s j x then sub_stream_packets xs s j ++ x.1 ∷ [] else sub_stream_packets xs s j)
unfolding sub_stream_packets
sub_stream_packets-snoc xs x s j = rw (filter-append, map-append) (grind (arith, append-nil))

pub sent-same : (xs : SealedList) (x : SealedPacket × Packet) (s : SubStream) (j : ℕ) → is_same (sub_stream_of x.0) s
    ≡ false → sub_stream_packets (xs ++ x ∷ []) s j ≡ sub_stream_packets xs s j
sent-same xs x s j other = sub_stream_packets-snoc xs x s j ∙ rw other refl

-- ---- packets elsewhere

-- a sealed packet is of the port and stream
abbrev pub is_out : PortName → ℕ → SealedPacket → Bool
is_out port stream d = is_same_port d.port port && (d.stream == stream)

abbrev pub any_out : PortName → ℕ → List SealedPacket → Bool
any_out port stream [] = false
any_out port stream (d ∷ ds) = is_out port stream d || any_out port stream ds

pub not_here : (port : PortName) (stream : ℕ) (u : SubKind) (d : SealedPacket) → is_out port stream d ≡ false
    → is_same (sub_stream_of d) (lane_out port stream u) ≡ false
not_here port stream u d out = grind (arith, nat_tests)

not_in : (port : PortName) (stream : ℕ) (u : SubKind) (from : ℕ) (d : SealedPacket) (p : Packet) → is_out port stream d
    ≡ false → is_sealed_from_draw (lane_out port stream u) from (d, p) ≡ false
not_in port stream u from d p out = rw (not_here port stream u d out) refl

-- what none of its packets changes, a send leaves
pub left_alone : {A : Type 0} (f : SealedList → A) (Q : SealedPacket → Type 0)
    → ((xs : SealedList) (d : SealedPacket) (p : Packet) → Q d → f (xs ++ (d, p) ∷ []) ≡ f xs)
    → (plan : Plan) (ahead : SealedPacket → List ℕ) (bytes : List ℕ) (ds : List SealedPacket) (xs : SealedList)
    → AllByRecursion Q ds → f (with_sealed plan ahead bytes ds xs) ≡ f xs
left_alone f Q same plan ahead bytes [] xs all = refl
left_alone f Q same plan ahead bytes (d ∷ ds) xs all = left_alone f Q same plan ahead bytes ds _ all.1 ∙ same xs d _
    all.0

pub none_out : (port : PortName) (stream : ℕ) (ds : List SealedPacket) → any_out port stream ds ≡ false
    → AllByRecursion (λ (d : SealedPacket). is_out port stream d ≡ false) ds
none_out port stream [] none = tt
none_out port stream (d ∷ ds) none = let each = neither-true (is_out port stream d) (any_out port stream ds) none in
    (each.0, none_out port stream ds each.1)

pub sent_elsewhere : (plan : Plan) (ahead : SealedPacket → List ℕ) (bytes : List ℕ) (ds : List SealedPacket)
    (xs : SealedList) (port : PortName) (stream : ℕ) (u : SubKind) (j : ℕ) → any_out port stream ds ≡ false
    → sub_stream_packets (with_sealed plan ahead bytes ds xs) (lane_out port stream u) j
    ≡ sub_stream_packets xs (lane_out port stream u) j
sent_elsewhere plan ahead bytes ds xs port stream u j none =
    left_alone (λ xs. sub_stream_packets xs (lane_out port stream u) j) (λ d. is_out port stream d ≡ false)
    (λ xs d p out. sent-same xs (d, p) (lane_out port stream u) j (not_here port stream u d out)) plan ahead bytes ds xs
    (none_out port stream ds none)

pub posted_elsewhere : (plan : Plan) (ahead : SealedPacket → List ℕ) (bytes : List ℕ) (ds : List SealedPacket)
    (xs : SealedList) (port : PortName) (stream : ℕ) (u : SubKind) (from : ℕ) → any_out port stream ds ≡ false
    → posted_since_last (with_sealed plan ahead bytes ds xs) (lane_out port stream u) from
    ≡ posted_since_last xs (lane_out port stream u) from
posted_elsewhere plan ahead bytes ds xs port stream u from none =
    left_alone (λ xs. posted_since_last xs (lane_out port stream u) from) (λ d. is_out port stream d ≡ false)
    (λ xs d p out. posted-same xs (d, p) (lane_out port stream u) from (not_in port stream u from d p out)
    (not_in port stream Pr from d p out))
    plan ahead bytes ds xs (none_out port stream ds none)

pub total_elsewhere : (plan : Plan) (ahead : SealedPacket → List ℕ) (bytes : List ℕ) (ds : List SealedPacket)
    (xs : SealedList) (port : PortName) (stream : ℕ) (u : SubKind) (from : ℕ) → any_out port stream ds ≡ false
    → total_in (with_sealed plan ahead bytes ds xs) (lane_out port stream u) from
    ≡ total_in xs (lane_out port stream u) from
total_elsewhere plan ahead bytes ds xs port stream u from none =
    left_alone (λ xs. total_in xs (lane_out port stream u) from) (λ d. is_out port stream d ≡ false)
    (λ xs d p out. total-same xs (d, p) (lane_out port stream u) from (not_here port stream u d out)) plan ahead bytes
    ds xs
    (none_out port stream ds none)
