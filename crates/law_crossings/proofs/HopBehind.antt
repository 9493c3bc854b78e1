-- Across a segment with one draw, and across a hop: a TLP that is not posted comes after each posted one before it.
use Rattle.law_sealing.proofs.Terms.{◌≡◌, ℕ, suc, ◌<◌, ◌==◌, ◌&&◌, Bool, true, false, List, [], ◌∷◌}
use Rattle.law_sealing.proofs.Terms.{◌++◌, length, refl, ap, sym, subst, ◌∙◌, arith, inl, inr}
use Rattle.law_sealing.proofs.Terms.{if◌then◌else◌, cases_Bool, AllByRecursion, map, filter, take}
use Rattle.law_sealing.proofs.Terms.{slice_get}
use Rattle.law_sealing.proofs.Terms.{Plan, History, PortName}
use Rattle.law_sealing.proofs.Terms.{SealedPacket, SubKind, SubStream, Packet, is_sync_packet, CauseLaw}
use Rattle.law_sealing.proofs.Terms.{IsPrefixOf, lane_in, lane_out, is_same_port}
use Rattle.law_sealing.proofs.Terms.{same_port, is_sealed_under, SealedList}
unfoldable use Rattle.law_sealing.proofs.Terms.{sub_stream_packets, accepted_packets}
use Rattle.law_sealing.proofs.Sums.{element_behind, sub_stream_packets-append}
use Rattle.ide_types.specs.Sub.{is_same_sub}
use Rattle.spec_links.specs.Ordered.{IsPacketAtPlace}
use Rattle.spec_links.proofs.Senders.{in_lane}
use Rattle.spec_links.specs.Hops.{HopTlp}
use Rattle.spec_links.specs.HopLaws.{in_sub}
use Rattle.spec_links.specs.Memory.{accepted_tlps}
use Rattle.law_hops.proofs.Since.{IsSegment}
use Rattle.law_hops.proofs.Carried.{hop_got, flags, flags_got, flags_in}
use Rattle.law_hops.proofs.Crossing.{IsLone, OnlyDraw, taken_is}
use Rattle.law_crossings.proofs.Split.{map_cut, filter_cut}
use Rattle.law_crossings.proofs.HopPlaces.{IsKnown, is_here, sub_at, subs, subs_here}

-- ---- packets that carry TLPs

pub more_flags : (xs ys : List Packet) (x : Packet) (zs : List Packet) → IsPrefixOf xs (ys ++ x ∷ zs)
    → length ys < length xs → is_sync_packet x ≡ false → length (flags ys) < length (flags xs)
more_flags [] ys x zs begins less carries = absurd (omega (arith, less))
more_flags (a ∷ xs) [] x zs begins less carries =
    let is = begins.1 in
    let same : a ≡ x = cc (is) in
    let here : is_sync_packet a ≡ false = ap is_sync_packet same ∙ carries in
    rw here (omega arith)
more_flags (a ∷ xs) (b ∷ ys) x zs begins less carries =
    let is = begins.1 in
    let same : a ≡ b = cc (is) in
    let rest : xs ++ begins.0 ≡ ys ++ x ∷ zs = cc (is) in
    let later = more_flags xs ys x zs (begins.0, rest) (omega (arith, less)) carries in
    subst (λ (c : Packet). length (flags (c ∷ ys)) < length (flags (a ∷ xs))) same
    (elim (cases_Bool (is_sync_packet a)) [
      | inl sync ↦ rw sync later
      | inr no_sync ↦ rw no_sync (omega (arith, later))
    ])

pub fewer_flags : (xs ys zs : List Packet) → IsPrefixOf xs (ys ++ zs) → length (flags ys) < length (flags xs)
    → length ys < length xs
fewer_flags [] ys zs begins less = absurd (omega (arith, less))
fewer_flags (a ∷ xs) [] zs begins less = omega arith
fewer_flags (a ∷ xs) (b ∷ ys) zs begins less =
    let is = begins.1 in
    let same : a ≡ b = cc (is) in
    let rest : xs ++ begins.0 ≡ ys ++ zs = cc (is) in
    let less_a = subst (λ (c : Packet). length (flags (c ∷ ys)) < length (flags (a ∷ xs))) (sym same) less in
    elim (cases_Bool (is_sync_packet a)) [
      | inl sync ↦
          let small : length (flags ys) < length (flags xs) = rw sync at less_a in
          let later = fewer_flags xs ys zs (begins.0, rest) small in
          omega (arith, later)
      | inr no_sync ↦
          let small : suc (length (flags ys)) < suc (length (flags xs)) = rw no_sync at less_a in
          let later = fewer_flags xs ys zs (begins.0, rest) (omega (arith, small)) in
          omega (arith, later)
    ]

-- ---- their number in a sub-stream

abbrev of_kind : SubKind → List SubKind → List SubKind
of_kind u us = filter (λ (w : SubKind). is_same_sub w u) us

kind_count : (u : SubKind) (xs : List HopTlp) → length (of_kind u (subs xs)) ≡ length (in_sub u xs)
kind_count u [] = refl
kind_count u (x ∷ xs) = let later = kind_count u xs in elim (cases_Bool (is_same_sub x.sub u)) [
  | inl is ↦ rw is (ap suc later)
  | inr other ↦ rw other later
]

under_is : (p : PortName) (stream : ℕ) (u : SubKind) (j : ℕ) (x : SealedPacket × Packet) → IsKnown p stream x
    → is_sealed_under (lane_out p stream u) j x ≡ (is_same_port x.0.port p && is_same_sub x.0.sub u && (x.0.draw == j))
under_is p stream u j x known = by (is_same_port x.0.port p) refl
  where
    by : (b : Bool) → is_same_port x.0.port p ≡ b → is_sealed_under (lane_out p stream u) j x
        ≡ (b && is_same_sub x.0.sub u && (x.0.draw == j))
    by true here = let lane = in_lane p stream x.0 u (same_port x.0.port p here) (known.stream_is here) in rw lane refl
    by false other = grind (arith, other)

step : (p : PortName) (u : SubKind) (j : ℕ) (x : SealedPacket × Packet) (zs ys : SealedList)
    → length (flags (map (λ (x : SealedPacket × Packet). x.1) zs)) ≡ length (of_kind u (map sub_at ys))
    → (under a b c e : Bool) → x.0.sync ≡ a → is_same_port x.0.port p ≡ b → is_same_sub x.0.sub u ≡ c
    → (x.0.draw == j) ≡ e → under ≡ (b && c && e) → is_sync_packet x.1 ≡ a
    → length (flags (map (λ (x : SealedPacket × Packet). x.1) (if under then x ∷ zs else zs)))
    ≡ length (of_kind u (map sub_at (if is_here p j x then x ∷ ys else ys)))
step p u j x zs ys before true true b c e s1 s2 s3 s4 un sy = rw (sy, s1) before
step p u j x zs ys before false true b c e s1 s2 s3 s4 un sy = rw s1 before
step p u j x zs ys before true false false c e s1 s2 s3 s4 un sy = absurd cc
step p u j x zs ys before false false false c e s1 s2 s3 s4 un sy = rw (s1, s2) before
step p u j x zs ys before true false true false e s1 s2 s3 s4 un sy = absurd cc
step p u j x zs ys before false false true false true s1 s2 s3 s4 un sy = rw (s1, s2, s4, s3) before
step p u j x zs ys before false false true false false s1 s2 s3 s4 un sy = rw (s1, s2, s4) before
step p u j x zs ys before true false true true true s1 s2 s3 s4 un sy = rw (sy, s1, s2, s4, s3) (ap suc before)
step p u j x zs ys before false false true true true s1 s2 s3 s4 un sy = absurd cc
step p u j x zs ys before true false true true false s1 s2 s3 s4 un sy = absurd cc
step p u j x zs ys before false false true true false s1 s2 s3 s4 un sy = rw (s1, s2, s4) before

count_here : (p : PortName) (stream : ℕ) (u : SubKind) (j : ℕ) (xs : SealedList)
    → AllByRecursion (IsKnown p stream) xs
    → length (flags (sub_stream_packets xs (lane_out p stream u) j)) ≡ length (of_kind u (subs_here p j xs))
unfolding sub_stream_packets
count_here p stream u j [] all = refl
count_here p stream u j (x ∷ xs) all =
    step p u j x (filter (is_sealed_under (lane_out p stream u) j) xs) (filter (is_here p j) xs)
    (count_here p stream u j xs all.1) (is_sealed_under (lane_out p stream u) j x) x.0.sync (is_same_port x.0.port p)
    (is_same_sub x.0.sub u) (x.0.draw == j) refl refl refl refl (under_is p stream u j x all.0) all.0.sync

-- ---- the place of a TLP

pub take_ahead : {A : Type 0} (xs ys : List A) → take (length xs) (xs ++ ys) ≡ xs
take_ahead [] ys = refl
take_ahead (x ∷ xs) ys = ap (λ zs. x ∷ zs) (take_ahead xs ys)

-- an element that stands behind these, and the TLPs among them
pub record StandsBehind (p : PortName) (j : ℕ) (xs : SealedList) (ahead : List SubKind) (u : SubKind) : Type 0 where
  pub before : SealedList
  pub element : SealedPacket × Packet
  pub later : SealedList
  pub is : xs ≡ before ++ element ∷ later
  pub ahead_is : subs_here p j before ≡ ahead
  pub sub_is : element.0.sub ≡ u
  pub here : is_here p j element ≡ true

pub stands_behind : (p : PortName) (j : ℕ) (xs : SealedList) (ahead later : List SubKind) (u : SubKind)
    → subs_here p j xs ≡ ahead ++ u ∷ later → StandsBehind p j xs ahead u
stands_behind p j xs ahead later u is =
    let one = map_cut sub_at (filter (is_here p j) xs) ahead u later is in
    let two = filter_cut (is_here p j) xs one.ahead one.element one.later one.is in
    record {
      before = two.ahead;
      element = one.element;
      later = two.later;
      is = two.is;
      ahead_is = ap (map sub_at) two.front ∙ one.front;
      sub_is = one.at;
      here = two.passes;
    }

pub middle_all : {A : Type 0} (P : A → Type 0) (xs : List A) (x : A) (ys : List A)
    → AllByRecursion P (xs ++ x ∷ ys) → P x
middle_all P [] x ys all = all.0
middle_all P (z ∷ xs) x ys all = middle_all P xs x ys all.1

pub here_parts : (p : PortName) (j : ℕ) (x : SealedPacket × Packet) → is_here p j x ≡ true
    → (x.0.sync ≡ false) × (is_same_port x.0.port p ≡ true) × ((x.0.draw == j) ≡ true)
here_parts p j x is = (grind arith, grind arith, grind arith)

pub under_here : (p : PortName) (stream : ℕ) (u : SubKind) (j : ℕ) (x : SealedPacket × Packet) → IsKnown p stream x
    → is_here p j x ≡ true → is_same_sub x.0.sub u ≡ true → is_sealed_under (lane_out p stream u) j x ≡ true
under_here p stream u j x known here sub =
    let parts = here_parts p j x here in
    under_is p stream u j x known ∙ rw (parts.1, sub, parts.2) refl

pub at_place : (p : PortName) (stream : ℕ) (u : SubKind) (j : ℕ) (xs before : SealedList) (x : SealedPacket × Packet)
    (later : SealedList) → xs ≡ before ++ x ∷ later → is_sealed_under (lane_out p stream u) j x ≡ true
    → IsPacketAtPlace xs (lane_out p stream u) j (length (sub_stream_packets before (lane_out p stream u) j))
    (length before)
at_place p stream u j xs before x later is under = record {
  sealed = x;
  stands = ap (λ (ys : SealedList). slice_get ys (length before)) is ∙ element_behind before x later;
  under = under;
  number = ap (λ (ys : SealedList). length (sub_stream_packets ys (lane_out p stream u) j))
      (sym (ap (take (length before)) is ∙ take_ahead before (x ∷ later)));
}

-- the packets of the sub-stream: those before it, and it
pub split_packets : (s : SubStream) (j : ℕ) (xs before : SealedList) (x : SealedPacket × Packet) (later : SealedList)
    → xs ≡ before ++ x ∷ later → is_sealed_under s j x ≡ true
    → sub_stream_packets xs s j ≡ sub_stream_packets before s j ++ x.1 ∷ sub_stream_packets later s j
unfolding sub_stream_packets
split_packets s j xs before x later is under =
    ap (λ (ys : SealedList). sub_stream_packets ys s j) is
    ∙ (sub_stream_packets-append before (x ∷ later) s j ∙ rw under refl)

-- ---- what was accepted, by number

lengths : (xs : List HopTlp) → length xs ≡ length (flags_in xs)
lengths [] = refl
lengths (x ∷ xs) = ap suc (lengths xs)

pub got_count : (plan : Plan) (h : History) → CauseLaw plan h → (link : ℕ) (q : PortName) (stream : ℕ) (u : SubKind)
    (j : ℕ) → IsSegment link q.line → IsLone plan q.line stream → OnlyDraw h link q.line j
    → length (in_sub u (accepted_tlps plan h link q)) ≡ length (flags (accepted_packets plan h (lane_in q stream u) j))
got_count plan h cause link q stream u j segment lone only =
    ap length (taken_is plan h cause link q stream u j segment lone only)
    ∙ (lengths (hop_got plan h (lane_in q stream u) j) ∙ ap length (flags_got plan h (lane_in q stream u) j))

pub ahead_count : (p : PortName) (stream : ℕ) (u : SubKind) (j : ℕ) (before : SealedList) (ahead : List HopTlp)
    → AllByRecursion (IsKnown p stream) before → subs_here p j before ≡ subs ahead
    → length (flags (sub_stream_packets before (lane_out p stream u) j)) ≡ length (in_sub u ahead)
ahead_count p stream u j before ahead all same =
    count_here p stream u j before all ∙ (ap (λ (us : List SubKind). length (of_kind u us)) same ∙ kind_count u ahead)

pub subs-append : (xs ys : List HopTlp) → subs (xs ++ ys) ≡ subs xs ++ subs ys
subs-append [] ys = refl
subs-append (x ∷ xs) ys = ap (λ (us : List SubKind). x.sub ∷ us) (subs-append xs ys)
