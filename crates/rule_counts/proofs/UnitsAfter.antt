-- A unit is found among packets as they are described and kept exactly if it is the unit of its number among those that
-- were sealed: both walks end at the same packet, and packets in their spelling have the same bytes only if they are
-- the same.
use Rattle.std.proofs.Common.{◌≡◌, ℕ, zero, suc, ◌-◌, ◌&&◌, Bool, true, false, List, [], ◌∷◌, ◌++◌, map}
use Rattle.std.proofs.Common.{refl, sym, ap, ◌∙◌, subst, arith, append_assoc, Option, Some, None, filter, drop}
use Rattle.std.proofs.lemmas.Bool.{and_parts, lt-ltb}
use Rattle.std.specs.Bool.{Decides}
use Rattle.std.specs.List.{AllByRecursion}
use Rattle.std.specs.Option.{option_map}
use Rattle.std.specs.Prelude.{if◌then◌else◌, nat_eq, nat_lt, not, slice_get}
use Rattle.std.specs.Cmp.Lexicographic.{bytes_decides, pointwise}
use Rattle.event_verdicts.specs.declared.verdict.SealedPacket.{SealedPacket}
use Rattle.ide_prefix.specs.Packet.{FitsPacket, Packet, packet_bytes}
use Rattle.ide_prefix.specs.Reading.{cut_of}
use Rattle.law_sealing.proofs.Below.{is_cut}
use Rattle.machine_ports.specs.Machine.{LinkPacket, kept_packet}
use Rattle.spec_links.specs.Plan.{SubStream}
use Rattle.spec_links.specs.History.{SealedList, is_sealed_under}
unfoldable use Rattle.spec_links.specs.History.{sub_stream_packets}
use Rattle.spec_links.specs.Units.{units_finished}
unfoldable use Rattle.spec_links.specs.Units.{units}
use Rattle.spec_links.proofs.UnitLemmas.{unit_at, units_all}
use Rattle.rule_counts.specs.Units.{is_first, is_last, is_unit_after}

-- ---- packets of one sub-stream and draw alone

next_is : ℕ → List Packet → List Packet → Bool
next_is n ps [] = false
next_is n ps (q ∷ qs) =
    if nat_lt 0 n then next_is (if q.prefix.m then n - 1 else n) ps qs
    else if not (is_first ps (packet_bytes q)) then false
    else if q.prefix.m then is_last ps
    else next_is 0 (drop 1 ps) qs

abbrev described : SealedList → List SealedPacket
described xs = map (λ (x : SealedPacket × Packet). x.0) xs

abbrev kept : SealedList → List LinkPacket
kept xs = map (λ (x : SealedPacket × Packet). kept_packet x.0.port x.1) xs

-- they are described as they are
abbrev pub AreDescribed : SealedList → Type 0
AreDescribed xs = AllByRecursion (λ (x : SealedPacket × Packet). x.0.m ≡ x.1.prefix.m) xs

module _ (s : SubStream) (j : ℕ) where
  abbrev packets : SealedList → List Packet
  packets xs = sub_stream_packets xs s j

  after_is : (xs : SealedList) → AreDescribed xs → (n : ℕ) (ps : List Packet)
      → is_unit_after s j n ps (described xs) (kept xs) ≡ next_is n ps (packets xs)
  unfolding sub_stream_packets next_is
  after_is [] each n ps = refl
  after_is (x ∷ xs) each n ps = by (is_sealed_under s j x) (λ m qs. after_is xs each.1 m qs)
    where
      by : (b : Bool)
          → ((m : ℕ) (qs : List Packet) → is_unit_after s j m qs (described xs) (kept xs) ≡ next_is m qs (packets xs))
          → (if not b then is_unit_after s j n ps (described xs) (kept xs)
          else if nat_lt 0 n then is_unit_after s j (if x.0.m then n - 1 else n) ps (described xs) (kept xs)
          else if not (is_first ps (packet_bytes x.1)) then false
          else if x.0.m then is_last ps
          else is_unit_after s j 0 (drop 1 ps) (described xs) (kept xs))
          ≡ next_is n ps (map (λ (y : SealedPacket × Packet). y.1)
          (if b then x ∷ filter (is_sealed_under s j) xs else filter (is_sealed_under s j) xs))
      by false later = later n ps
      by true later =
          (λ i. if nat_lt 0 n then later (if each.0 i then n - 1 else n) ps i
          else if not (is_first ps (packet_bytes x.1)) then false
          else if each.0 i then is_last ps
          else later 0 (drop 1 ps) i)

-- ---- the unit of a number

nth_unit : ℕ → List Packet → Option (List Packet)
nth_unit n [] = None
nth_unit zero (q ∷ qs) = if q.prefix.m then Some (q ∷ []) else option_map (λ (u : List Packet). q ∷ u) (nth_unit 0 qs)
nth_unit (suc n) (q ∷ qs) = nth_unit (if q.prefix.m then n else suc n) qs

-- the packets before come first in the next unit alone
behind : ℕ → List Packet → Option (List Packet) → Option (List Packet)
behind zero got o = option_map (λ (u : List Packet). got ++ u) o
behind (suc n) got o = o

none_behind : (n : ℕ) (o : Option (List Packet)) → behind n [] o ≡ o
unfolding behind
none_behind zero None = refl
none_behind zero (Some u) = refl
none_behind (suc n) o = refl

one_behind : (got : List Packet) (q : Packet) (o : Option (List Packet))
    → behind 0 (got ++ q ∷ []) o ≡ behind 0 got (option_map (λ (u : List Packet). q ∷ u) o)
unfolding behind
one_behind got q None = refl
one_behind got q (Some u) = ap Some (append_assoc got (q ∷ []) u)

unit_is : (n : ℕ) (got qs : List Packet) → slice_get (units_finished got qs) n ≡ behind n got (nth_unit n qs)
unfolding behind nth_unit
unit_is zero got [] = refl
unit_is (suc n) got [] = refl
unit_is zero got (q ∷ qs) = by q.prefix.m (unit_is 0 (got ++ q ∷ []) qs)
  where
    by : (m : Bool) → slice_get (units_finished (got ++ q ∷ []) qs) 0 ≡ behind 0 (got ++ q ∷ []) (nth_unit 0 qs)
        → slice_get (if m then (got ++ q ∷ []) ∷ units_finished [] qs else units_finished (got ++ q ∷ []) qs) 0
        ≡ behind 0 got (if m then Some (q ∷ []) else option_map (λ (u : List Packet). q ∷ u) (nth_unit 0 qs))
    by true later = refl
    by false later = later ∙ one_behind got q (nth_unit 0 qs)
unit_is (suc n) got (q ∷ qs) =
    by q.prefix.m (unit_is n [] qs ∙ none_behind n (nth_unit n qs)) (unit_is (suc n) (got ++ q ∷ []) qs)
  where
    by : (m : Bool) → slice_get (units_finished [] qs) n ≡ nth_unit n qs
        → slice_get (units_finished (got ++ q ∷ []) qs) (suc n) ≡ nth_unit (suc n) qs
        → slice_get (if m then (got ++ q ∷ []) ∷ units_finished [] qs else units_finished (got ++ q ∷ []) qs) (suc n)
        ≡ nth_unit (if m then n else suc n) qs
    by true next later = next
    by false next later = later

nth_is : (n : ℕ) (qs : List Packet) → slice_get (units qs) n ≡ nth_unit n qs
unfolding units
nth_is n qs = unit_is n [] qs ∙ none_behind n (nth_unit n qs)

-- ---- compared by bytes

same_bytes : List Packet → List Packet → Bool
same_bytes [] [] = true
same_bytes (p ∷ ps) (q ∷ qs) = pointwise nat_eq (packet_bytes p) (packet_bytes q) && same_bytes ps qs
same_bytes ps qs = false

same_if : List Packet → Option (List Packet) → Bool
same_if ps None = false
same_if ps (Some u) = same_bytes ps u

last_one : (ps : List Packet) (q : Packet)
    → (if not (is_first ps (packet_bytes q)) then false else is_last ps) ≡ same_bytes ps (q ∷ [])
unfolding same_bytes
last_one [] q = refl
last_one (p ∷ []) q = by (pointwise nat_eq (packet_bytes p) (packet_bytes q))
  where
    by : (b : Bool) → (if not b then false else true) ≡ (b && true)
    by true = refl
    by false = refl
last_one (p ∷ r ∷ ps) q = by (pointwise nat_eq (packet_bytes p) (packet_bytes q))
  where
    by : (b : Bool) → (if not b then false else false) ≡ (b && false)
    by true = refl
    by false = refl

either : (b c : Bool) → (if not b then false else c) ≡ (b && c)
either true c = refl
either false c = refl

neither : (b : Bool) → (if not b then false else false) ≡ false
neither true = refl
neither false = refl

first_one : (ps : List Packet) (q : Packet) (o : Option (List Packet))
    → (if not (is_first ps (packet_bytes q)) then false else same_if (drop 1 ps) o)
    ≡ same_if ps (option_map (λ (u : List Packet). q ∷ u) o)
unfolding same_bytes same_if
first_one [] q None = refl
first_one [] q (Some u) = refl
first_one (p ∷ ps) q None = neither (pointwise nat_eq (packet_bytes p) (packet_bytes q))
first_one (p ∷ ps) q (Some u) = either (pointwise nat_eq (packet_bytes p) (packet_bytes q)) (same_bytes ps u)

walk_is : (n : ℕ) (ps qs : List Packet) → next_is n ps qs ≡ same_if ps (nth_unit n qs)
unfolding next_is nth_unit same_if
walk_is zero ps [] = refl
walk_is (suc n) ps [] = refl
walk_is zero ps (q ∷ qs) = by q.prefix.m (walk_is 0 (drop 1 ps) qs)
  where
    by : (m : Bool) → next_is 0 (drop 1 ps) qs ≡ same_if (drop 1 ps) (nth_unit 0 qs)
        → (if not (is_first ps (packet_bytes q)) then false else if m then is_last ps else next_is 0 (drop 1 ps) qs)
        ≡ same_if ps (if m then Some (q ∷ []) else option_map (λ (u : List Packet). q ∷ u) (nth_unit 0 qs))
    by true later = last_one ps q
    by false later =
        (λ i. if not (is_first ps (packet_bytes q)) then false else later i) ∙ first_one ps q (nth_unit 0 qs)
walk_is (suc n) ps (q ∷ qs) = by q.prefix.m (walk_is n ps qs) (walk_is (suc n) ps qs)
  where
    some : nat_lt 0 (suc n) ≡ true
    some = lt-ltb 0 (suc n) (omega arith)

    less : suc n - 1 ≡ n
    less = omega arith

    by : (m : Bool) → next_is n ps qs ≡ same_if ps (nth_unit n qs)
        → next_is (suc n) ps qs ≡ same_if ps (nth_unit (suc n) qs)
        → (if nat_lt 0 (suc n) then next_is (if m then suc n - 1 else suc n) ps qs
        else if not (is_first ps (packet_bytes q)) then false
        else if m then is_last ps
        else next_is 0 (drop 1 ps) qs)
        ≡ same_if ps (nth_unit (if m then n else suc n) qs)
    by true next later = rw (some, less) next
    by false next later = rw some later

-- ---- packets in their spelling

one_packet : (p q : Packet) → FitsPacket p → FitsPacket q → packet_bytes p ≡ packet_bytes q → p ≡ q
one_packet p q p_fits q_fits same =
    let is = sym (is_cut p p_fits) ∙ (ap cut_of same ∙ is_cut q q_fits) in
    let packet : p ≡ q = cc in
    packet

same_self : (ps : List Packet) → same_bytes ps ps ≡ true
unfolding same_bytes
same_self [] = refl
same_self (p ∷ ps) = rw ((bytes_decides (packet_bytes p) (packet_bytes p)).1 refl, same_self ps) refl

same_packets : (ps qs : List Packet) → AllByRecursion FitsPacket ps → AllByRecursion FitsPacket qs
    → same_bytes ps qs ≡ true → ps ≡ qs
unfolding same_bytes
same_packets [] [] ps_fit qs_fit same = refl
same_packets (p ∷ ps) (q ∷ qs) ps_fit qs_fit same =
    let parts = and_parts (pointwise nat_eq (packet_bytes p) (packet_bytes q)) (same_bytes ps qs) same in
    let head = one_packet p q ps_fit.0 qs_fit.0 ((bytes_decides (packet_bytes p) (packet_bytes q)).0 parts.0) in
    let rest = same_packets ps qs ps_fit.1 qs_fit.1 parts.1 in
    λ i. head i ∷ rest i
same_packets [] (q ∷ qs) ps_fit qs_fit same = absurd cc
same_packets (p ∷ ps) [] ps_fit qs_fit same = absurd cc

one_unit : (ps u : List Packet) → Some u ≡ Some ps → u ≡ ps
one_unit ps u is = cc

unit_decides : (ps : List Packet) → AllByRecursion FitsPacket ps → (o : Option (List Packet))
    → ((u : List Packet) → o ≡ Some u → AllByRecursion FitsPacket u) → Decides (same_if ps o) (o ≡ Some ps)
unfolding same_if
unit_decides ps fits None each = (λ is. absurd cc, λ is. absurd cc)
unit_decides ps fits (Some u) each = (
  λ is. ap Some (sym (same_packets ps u fits (each u refl) is)),
  λ is. subst (λ (r : List Packet). same_bytes ps r ≡ true) (sym (one_unit ps u is)) (same_self ps),
)

-- the unit of this number, from 0, is this one
pub found_decides : (s : SubStream) (j : ℕ) (xs : SealedList) → AreDescribed xs
    → AllByRecursion FitsPacket (sub_stream_packets xs s j) → (n : ℕ) (ps : List Packet) → AllByRecursion FitsPacket ps
    → Decides (is_unit_after s j n ps (map (λ (x : SealedPacket × Packet). x.0) xs)
    (map (λ (x : SealedPacket × Packet). kept_packet x.0.port x.1) xs))
    (slice_get (units (sub_stream_packets xs s j)) n ≡ Some ps)
found_decides s j xs each all n ps fits =
    let us = units (sub_stream_packets xs s j) in
    let is = after_is s j xs each n ps ∙ (walk_is n ps (sub_stream_packets xs s j)
    ∙ ap (same_if ps) (sym (nth_is n (sub_stream_packets xs s j)))) in
    subst (λ (b : Bool). Decides b (slice_get us n ≡ Some ps)) (sym is)
    (unit_decides ps fits (slice_get us n) (λ u at. unit_at (AllByRecursion FitsPacket) us n u
    (units_all FitsPacket (sub_stream_packets xs s j) all) at))
