-- No key is used twice with one IV. Equal keys of the pool stand at one place in it, so they are of one draw, direction
-- and sub-stream, and a draw is on one stream. Equal IVs are of one number, since a key seals fewer than 2 to the 64
-- units. That number counts the units that were finished before.
use Rattle.law_sealing.proofs.Terms.{◌≡◌, ℕ, suc, ◌+◌, ◌*◌, ◌<◌, ◌≤◌, Bool, true, false, List, [], ◌∷◌, ◌++◌, length}
use Rattle.law_sealing.proofs.Terms.{filter, take, drop, slice_get, slice_index_or, Some, inl, inr, refl, ap, sym, ◌∙◌}
use Rattle.law_sealing.proofs.Terms.{subst, arith, nat_tests, cases_lt, length-append, sub_bits, SealedPacket, Packet}
use Rattle.law_sealing.proofs.Terms.{Plan, SubStream, is_same, units, open_unit, History, SealedList, sealed_packets}
use Rattle.law_sealing.proofs.Terms.{sent_packets, sub_stream_packets, is_sealed_under, sub_stream_of, CauseLaw}
use Rattle.law_sealing.proofs.Terms.{same_stream, same_sub, sub_stream_packets-snoc, units-end}
use Rattle.law_sealing.proofs.Sums.{in_parts, next_taken, units_within}
use Rattle.law_sealing.proofs.Places.{Placed, placed, place_among, unit_is}
use Rattle.law_sealing.proofs.OfPlans.{streams_fit}
use Rattle.law_sealing.proofs.Drawn.{draws_within}
use Rattle.law_sealing.proofs.Worn.{unworn}
use Rattle.spec_links.specs.Numbers.{AreOfOneUnit, NumbersFresh, iv_used, key_used, sealed_of_draw}
use Rattle.std.specs.Prelude.{◌≢◌, ◌^◌, ◌/◌, AllPairs}
use Rattle.std.proofs.lemmas.Option.{slice_get-map}
use Rattle.byteorder.specs.Endian.{big_bytes, big_number}
use Rattle.byteorder.specs.Numbers.{big_number-reads_back}
use Rattle.ide_types.specs.declared.port.Side.{Side}
use Rattle.ide_types.specs.Fits.{FitsPlan}
use Rattle.spec_keys.specs.Places.{sent_direction}
use Rattle.spec_keys.specs.History.{manager}
use Rattle.spec_keys.proofs.Owners.{Owner, owner}
use Rattle.spec_keys.specs.Operations.{Begun}
use Rattle.spec_links.specs.Plan.{key_plan}
unfoldable use Rattle.spec_links.specs.Plan.{key_of}
use Rattle.law_key_facts.proofs.Given.{key_cause}
use Rattle.law_key_facts.proofs.SealedKeys.{all_owned, below_draws}
use Rattle.law_key_facts.proofs.Draws.{draws as draws_hold}
use Rattle.ide_prefix.proofs.Units.{sub_small}

-- ---- keys

-- if no two elements are equal, equal ones stand at one place
pub one_place : (keys : List (List ℕ)) (m n : ℕ) → AllPairs (λ key other. key ≢ other) keys → m < length keys
    → n < length keys → slice_index_or keys m [] ≡ slice_index_or keys n [] → m ≡ n
one_place keys m n differ m_less n_less same = elim (cases_lt m n) [
  | inl less ↦ absurd (differ m n [] less n_less same)
  | inr not_less ↦ elim (cases_lt n m) [
    | inl more ↦ absurd (differ n m [] more m_less (sym same))
    | inr not_more ↦ omega (arith, not_less, not_more)
  ]
]

pub direction_small : (side : Side) → sent_direction side < 2
direction_small side = grind arith

-- two draws with their sub-streams have one key of the pool
pub record SameKey (i j : ℕ) (s t : SubStream) : Type 0 where
  pub draw : i ≡ j
  pub direction : s.direction ≡ t.direction
  pub sub : s.sub ≡ t.sub

pub same_key : (plan : Plan) → FitsPlan plan → (i j : ℕ) (s t : SubStream) → i < length plan.pool / 6
    → j < length plan.pool / 6 → s.direction < 2 → t.direction < 2 → key_of plan i s ≡ key_of plan j t → SameKey i j s t
unfolding key_of
same_key plan fits i j s t i_less j_less s_less t_less keys =
    let s_sub = sub_small s.sub in
    let t_sub = sub_small t.sub in
    let place = one_place plan.pool (6 * i + 3 * s.direction + sub_bits s.sub)
    (6 * j + 3 * t.direction + sub_bits t.sub) fits.keys_differ (omega (arith, i_less, s_less, s_sub))
    (omega (arith, j_less, t_less, t_sub)) keys in
    let bits : sub_bits s.sub ≡ sub_bits t.sub = omega (arith, place, s_less, t_less, s_sub, t_sub) in
    record {
      draw = omega (arith, place, s_less, t_less, s_sub, t_sub);
      direction = omega (arith, place, s_less, t_less, s_sub, t_sub);
      sub = same_sub s.sub t.sub (grind (arith, nat_tests));
    }

-- ---- IVs

pub number_again : (n : ℕ) → n < 2 ^ 64 → big_number 8 (big_bytes 8 n) ≡ n
number_again n less = big_number-reads_back 8 n [] less

same_number : (d e : SealedPacket) → d.unit < 2 ^ 64 → e.unit < 2 ^ 64 → iv_used d ≡ iv_used e → d.unit ≡ e.unit
same_number d e d_less e_less ivs = sym (number_again d.unit d_less)
    ∙ (ap (λ (iv : List ℕ). big_number 8 (drop 4 iv)) ivs ∙ number_again e.unit e_less)

-- ---- packets of one sub-stream and draw

pub one_begun : (a b : Begun) → Some a ≡ Some b → a ≡ b
one_begun a b is = cc

pub same_sealed : (x y : SealedPacket × Packet) → Some x ≡ Some y → x ≡ y
same_sealed x y is = cc

-- none between two packets of one number ends a unit
none_ends : (plan : Plan) (xs : SealedList) → Placed plan xs → (i k : ℕ) (x y : SealedPacket × Packet)
    → slice_get xs i ≡ Some x → slice_get xs k ≡ Some y → sub_stream_of y.0 ≡ sub_stream_of x.0 → y.0.draw ≡ x.0.draw
    → x.0.unit ≡ y.0.unit → (n : ℕ) (z : SealedPacket × Packet) → i ≤ n → n < k → slice_get xs n ≡ Some z
    → is_sealed_under (sub_stream_of x.0) x.0.draw z ≡ true → z.1.prefix.m ≡ false
none_ends plan xs placed i k x y at also stream draw unit n z le less stands under = by_end z.1.prefix.m refl
  where
    s : SubStream
    s = sub_stream_of x.0

    done : ℕ → List Packet
    done place = sub_stream_packets (take place xs) s x.0.draw

    next : done (suc n) ≡ done n ++ z.1 ∷ []
    next = ap (λ (ys : SealedList). sub_stream_packets ys s x.0.draw) (next_taken xs n z stands)
        ∙ (sub_stream_packets-snoc (take n xs) z s x.0.draw ∙ rw under refl)

    by_end : (b : Bool) → z.1.prefix.m ≡ b → b ≡ false
    by_end false m = refl
    by_end true m =
        let first = unit_is plan xs placed i x at s x.0.draw refl refl in
        let last = unit_is plan xs placed k y also s x.0.draw stream draw in
        let before = units_within xs s x.0.draw i n le in
        let after = units_within xs s x.0.draw (suc n) k less in
        let ended = ap (λ (ps : List Packet). length (units ps)) next
        ∙ ap (λ (us : List (List Packet)). length us) (units-end (done n) z.1 m) in
        let grown = length-append (units (done n)) ((open_unit (done n) ++ z.1 ∷ []) ∷ []) in
        absurd (omega (arith, first, last, before, after, ended, grown, unit))

-- ---- the law

module _ (plan : Plan) (fits : FitsPlan plan) (h : History) (law : CauseLaw plan h) where
  abbrev xs : SealedList
  xs = sealed_packets plan h

  all_placed : Placed plan xs
  all_placed = placed plan (streams_fit plan fits) (draws_hold plan) h law

  counted : (s : SubStream) (j place : ℕ) (x : SealedPacket × Packet)
      → slice_get (sealed_of_draw plan h s j) place ≡ Some x
      → x.0.unit ≡ length (units (take place (sent_packets plan h s j))) + 1
  unfolding sub_stream_packets
  counted s j place x at =
      let among = place_among xs s j place x.1
      (slice_get-map (λ (y : SealedPacket × Packet). y.1) (filter (is_sealed_under s j) xs) place ∙ rw at refl) in
      let same = same_sealed among.sealed x (sym among.listed ∙ at) in
      let names = in_parts s j among.sealed among.under in
      let unit = unit_is plan xs all_placed among.place among.sealed among.stands s j names.2 names.1 in
      ap (λ (y : SealedPacket × Packet). y.0.unit) (sym same)
      ∙ (unit ∙ ap (λ (ps : List Packet). length (units ps) + 1) among.before)

  in_pool : (i : ℕ) (x : SealedPacket × Packet) → slice_get xs i ≡ Some x → x.0.draw < length plan.pool / 6
  in_pool i x at = omega (arith, below_draws plan h law i x at, draws_within (key_plan plan) h (key_cause plan h law))

  number_small : (i : ℕ) (x : SealedPacket × Packet) → slice_get xs i ≡ Some x → x.0.unit < 2 ^ 64
  number_small i x at = omega (arith, (unworn plan (draws_hold plan) h law).numbers i x at, fits.units_most)

  fresh : (i k : ℕ) (x y : SealedPacket × Packet) → i < k → slice_get xs i ≡ Some x → slice_get xs k ≡ Some y
      → key_used plan x.0 ≡ key_used plan y.0 → iv_used x.0 ≡ iv_used y.0 → AreOfOneUnit xs i k x.0 y.0
  fresh i k x y less at also keys ivs =
      let key = same_key plan fits x.0.draw y.0.draw (sub_stream_of x.0) (sub_stream_of y.0) (in_pool i x at)
      (in_pool k y also) (direction_small x.0.port.side) (direction_small y.0.port.side) keys in
      let unit = same_number x.0 y.0 (number_small i x at) (number_small k y also) ivs in
      let mine = subst (Owner (manager h).begun x.0.port.line x.0.stream x.0.k) key.draw
      (all_owned plan h law i x at) in
      let begun = one_begun (owner x.0.port.line x.0.stream x.0.k) (owner y.0.port.line y.0.stream y.0.k)
      (sym mine ∙ all_owned plan h law k y also) in
      let link = ap (λ (b : Begun). b.line) begun in
      let stream = ap (λ (b : Begun). b.stream) begun in
      let same : is_same (sub_stream_of x.0) (sub_stream_of y.0) ≡ true = grind
      (arith, nat_tests, link, stream, key.direction, ap sub_bits key.sub) in
      record {
        sub_stream = same;
        draw = key.draw;
        unit = unit;
        no_end = none_ends plan xs all_placed i k x y at also
            (sym (same_stream (sub_stream_of x.0) (sub_stream_of y.0) same)) (sym key.draw) unit;
      }

pub numbers_fresh : (plan : Plan) → FitsPlan plan → (h : History) → CauseLaw plan h → NumbersFresh plan h
numbers_fresh plan fits h law = record { counted = counted plan fits h law; fresh = fresh plan fits h law }
