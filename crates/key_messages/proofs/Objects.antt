-- Bytes spell an object exactly if they are read as it, and what is written spells it. It goes object by object and
-- place by place: the places that are not reserved are those that the reader looks at, and bytes without a fault have
-- the number and the length of one of the seven objects. The hard one is KEY_PROG: its key and its counter are all that
-- stands after the first eight bytes.
use Rattle.std.proofs.Common.{◌≡◌, ◌≢◌, ℕ, zero, suc, ◌+◌, ◌-◌, ◌%◌, ◌<◌, ◌≤◌, ◌^◌, Bool, true, false, cond, eqb, ◌||◌}
use Rattle.std.proofs.Common.{List, [], ◌∷◌, ◌++◌, length, get_or, drop, slice_range, Option, Some, None, Ok, refl, sym}
use Rattle.std.proofs.Common.{ap, subst, ◌∙◌, inl, inr, arith, length-append, length-take, length-drop, get_or-take}
use Rattle.std.proofs.Common.{get_or-drop, take_all}
use Rattle.std.specs.Prelude.{All}
use Rattle.std.specs.Int.{w64, to_le_bytes, from_le_bytes}
use Rattle.std.proofs.lemmas.Bool.{cases_lt, cases_eq, ltb-false, not-false, eqb-true, ne_eqb, true≢false}
use Rattle.std.proofs.lemmas.List.{get_or_past, get_or-append_right, ext_get_or}
use Rattle.std.proofs.lemmas.List.Elements.{All-append, All-cons, All-from_get_or, All-from_recursion}
use Rattle.std.proofs.lemmas.List.Folds.{drop_split}
use Rattle.std.proofs.lemmas.Nat.{le_bytes_8, from_le_bytes-to_le_bytes_8}
use Rattle.std.proofs.Math.Seq.{take-append_seam}
use Rattle.key_messages.specs.declared.object.KmView.{KmView}
use Rattle.key_messages.specs.declared.object.KmView.TheVariants.{Query, QueryResp, KeyProg, KpAck, SetGo, SetStop}
use Rattle.key_messages.specs.declared.object.KmView.TheVariants.{GoStopAck}
use Rattle.key_messages.specs.declared.object.KmFault.{KmFault}
use Rattle.key_messages.specs.Objects.{object_spelling, FitsObject, SpellsObject, size_of, fault_of, object_of}
use Rattle.key_messages.specs.Objects.{object_or_fault, object_reading}

abbrev IsByte : ℕ → Type 0
IsByte b = b < 256

byte_at : (s : List ℕ) → All IsByte s → (i : ℕ) → get_or s i 0 < 256
byte_at s h i = elim (cases_lt i (length s)) [
  | inl less ↦ h i 0 less
  | inr past ↦ rw (get_or_past s i 0 past) (omega arith)
]

-- ---- a key and its counter after the first eight bytes

module _ (s key : List ℕ) (counter : ℕ) (long : length s ≡ 48) (size : length key ≡ 32)
    (same : (i : ℕ) → get_or s (8 + i) 0 ≡ get_or (key ++ to_le_bytes w64 counter) i 0) where
  behind : drop 8 s ≡ key ++ to_le_bytes w64 counter
  behind =
      ext_get_or 0 (drop 8 s) (key ++ to_le_bytes w64 counter)
      (omega (arith, length-drop 8 s, length-append key (to_le_bytes w64 counter)))
      (λ i lt. get_or-drop 8 s i 0 ∙ same i)

  key_is : slice_range s 8 40 ≡ key
  key_is = let e : 32 ≡ length key = sym size in rw behind (rw e (take-append_seam key (to_le_bytes w64 counter)))

  counter_at : (i : ℕ) → get_or (drop 40 s) i 0 ≡ get_or (to_le_bytes w64 counter) i 0
  counter_at i =
      let place : 40 + i ≡ 8 + (32 + i) = omega arith in
      let past : 32 + i - 32 ≡ i = omega arith in
      get_or-drop 40 s i 0 ∙ ap (λ (j : ℕ). get_or s j 0) place ∙ same (32 + i) ∙ get_or-append_right key
      (to_le_bytes w64 counter) 32 (32 + i) 0 size (omega arith) ∙ ap
      (λ (j : ℕ). get_or (to_le_bytes w64 counter) j 0) past

  counter_is : slice_range s 40 48 ≡ to_le_bytes w64 counter
  counter_is =
      let eight : length (drop 40 s) ≡ 8 = omega (arith, length-drop 40 s) in
      take_all 8 (drop 40 s) (omega arith) ∙ ext_get_or 0 (drop 40 s) (to_le_bytes w64 counter) eight
      (λ i lt. counter_at i)

-- ---- what spells an object is read as it

not_reserved : (i : ℕ) → ((eqb (8 + i) 2 || eqb (8 + i) 3) || eqb (8 + i) 5) ≡ false
not_reserved i =
    let a : 8 + i ≢ 2 = λ e. omega arith in
    let b : 8 + i ≢ 3 = λ e. omega arith in
    let c : 8 + i ≢ 5 = λ e. omega arith in
    rw (ne_eqb _ _ a, ne_eqb _ _ b, ne_eqb _ _ c) refl

behind_head : (a b c d e f g h : ℕ) (rest : List ℕ) (i : ℕ) → get_or (a ∷ b ∷ c ∷ d ∷ e ∷ f ∷ g ∷ h ∷ rest) (8 + i) 0
    ≡ get_or rest i 0
behind_head a b c d e f g h rest i =
    let back : 8 + i - 8 ≡ i = omega arith in
    get_or-append_right (a ∷ b ∷ c ∷ d ∷ e ∷ f ∷ g ∷ h ∷ []) rest 8 (8 + i) 0 refl (omega arith) ∙ ap
    (λ (j : ℕ). get_or rest j 0) back

-- key and counter are what stands after the first eight bytes, none of which is reserved
key_read : (stream selector port counter : ℕ) (key s : List ℕ)
    → SpellsObject (KeyProg stream selector port key counter) s
    → object_reading s ≡ Ok (KeyProg stream selector port key counter)
key_read stream selector port counter key s p =
    let size : length key ≡ 32 = p.fits.3 in
    let long : length s ≡ 48 = omega (arith, p.long, length-append key (to_le_bytes w64 counter), size) in
    let same : (i : ℕ) → get_or s (8 + i) 0 ≡ get_or (key ++ to_le_bytes w64 counter) i 0 = λ i. p.same (8 + i)
    (not_reserved i) ∙ behind_head _ _ _ _ _ _ _ _ (key ++ to_le_bytes w64 counter) i in
    let k = key_is s key counter long size same in
    let n = counter_is s key counter long size same in
    let back : from_le_bytes w64 (to_le_bytes w64 counter) ≡ counter = from_le_bytes-to_le_bytes_8 counter p.fits.5 in
    let e0 : get_or s 0 0 ≡ 0 = p.same 0 refl in
    let e1 : get_or s 1 0 ≡ 2 = p.same 1 refl in
    let e4 : get_or s 4 0 ≡ stream = p.same 4 refl in
    let e6 : get_or s 6 0 ≡ selector = p.same 6 refl in
    let e7 : get_or s 7 0 ≡ port = p.same 7 refl in
    rw (long, e0, e1, e4, e6, e7, k, n, back) refl

-- object by object: the places that are not reserved are those that the reader looks at
pub spells_read : (object : KmView) (s : List ℕ) → SpellsObject object s → object_reading s ≡ Ok object
spells_read (Query port) s p =
    let long : length s ≡ 4 = p.long in
    let e0 : get_or s 0 0 ≡ 0 = p.same 0 refl in
    let e1 : get_or s 1 0 ≡ 0 = p.same 1 refl in
    let e3 : get_or s 3 0 ≡ port = p.same 3 refl in
    rw (long, e0, e1, e3) refl
spells_read (QueryResp port device_function bus segment highest) s p =
    let long : length s ≡ 8 = p.long in
    let e0 : get_or s 0 0 ≡ 0 = p.same 0 refl in
    let e1 : get_or s 1 0 ≡ 1 = p.same 1 refl in
    let e3 : get_or s 3 0 ≡ port = p.same 3 refl in
    let e4 : get_or s 4 0 ≡ device_function = p.same 4 refl in
    let e5 : get_or s 5 0 ≡ bus = p.same 5 refl in
    let e6 : get_or s 6 0 ≡ segment = p.same 6 refl in
    let e7 : get_or s 7 0 ≡ highest = p.same 7 refl in
    rw (long, e0, e1, e3, e4, e5, e6, e7) refl
spells_read (KeyProg stream selector port key counter) s p = key_read stream selector port counter key s p
spells_read (KpAck stream status selector port) s p =
    let long : length s ≡ 8 = p.long in
    let e0 : get_or s 0 0 ≡ 0 = p.same 0 refl in
    let e1 : get_or s 1 0 ≡ 3 = p.same 1 refl in
    let e4 : get_or s 4 0 ≡ stream = p.same 4 refl in
    let e5 : get_or s 5 0 ≡ status = p.same 5 refl in
    let e6 : get_or s 6 0 ≡ selector = p.same 6 refl in
    let e7 : get_or s 7 0 ≡ port = p.same 7 refl in
    rw (long, e0, e1, e4, e5, e6, e7) refl
spells_read (SetGo stream selector port) s p =
    let long : length s ≡ 8 = p.long in
    let e0 : get_or s 0 0 ≡ 0 = p.same 0 refl in
    let e1 : get_or s 1 0 ≡ 4 = p.same 1 refl in
    let e4 : get_or s 4 0 ≡ stream = p.same 4 refl in
    let e6 : get_or s 6 0 ≡ selector = p.same 6 refl in
    let e7 : get_or s 7 0 ≡ port = p.same 7 refl in
    rw (long, e0, e1, e4, e6, e7) refl
spells_read (SetStop stream selector port) s p =
    let long : length s ≡ 8 = p.long in
    let e0 : get_or s 0 0 ≡ 0 = p.same 0 refl in
    let e1 : get_or s 1 0 ≡ 5 = p.same 1 refl in
    let e4 : get_or s 4 0 ≡ stream = p.same 4 refl in
    let e6 : get_or s 6 0 ≡ selector = p.same 6 refl in
    let e7 : get_or s 7 0 ≡ port = p.same 7 refl in
    rw (long, e0, e1, e4, e6, e7) refl
spells_read (GoStopAck stream selector port) s p =
    let long : length s ≡ 8 = p.long in
    let e0 : get_or s 0 0 ≡ 0 = p.same 0 refl in
    let e1 : get_or s 1 0 ≡ 6 = p.same 1 refl in
    let e4 : get_or s 4 0 ≡ stream = p.same 4 refl in
    let e6 : get_or s 6 0 ≡ selector = p.same 6 refl in
    let e7 : get_or s 7 0 ≡ port = p.same 7 refl in
    rw (long, e0, e1, e4, e6, e7) refl

-- ---- what is read as an object spells it

-- places from 0 to 7 that are the same, but for some, and the rest past the end
module _ (s : List ℕ) (n : ℕ) (first : get_or s 0 0 ≡ 0) (number : get_or s 1 0 ≡ n) where
  four_same : length s ≡ 4 → (i : ℕ) → eqb i 2 ≡ false → get_or s i 0 ≡ get_or (0 ∷ n ∷ 0 ∷ get_or s 3 0 ∷ []) i 0
  four_same long zero r = first
  four_same long (suc zero) r = number
  four_same long (suc (suc zero)) r = absurd (true≢false r)
  four_same long (suc (suc (suc zero))) r = refl
  four_same long (suc (suc (suc (suc i)))) r = get_or_past s (suc (suc (suc (suc i)))) 0 (omega arith)

  eight_same : length s ≡ 8 → (i : ℕ) → eqb i 2 ≡ false → get_or s i 0
      ≡ get_or (0 ∷ n ∷ 0 ∷ get_or s 3 0 ∷ get_or s 4 0 ∷ get_or s 5 0 ∷ get_or s 6 0 ∷ get_or s 7 0 ∷ []) i 0
  eight_same long zero r = first
  eight_same long (suc zero) r = number
  eight_same long (suc (suc zero)) r = absurd (true≢false r)
  eight_same long (suc (suc (suc zero))) r = refl
  eight_same long (suc (suc (suc (suc zero)))) r = refl
  eight_same long (suc (suc (suc (suc (suc zero))))) r = refl
  eight_same long (suc (suc (suc (suc (suc (suc zero)))))) r = refl
  eight_same long (suc (suc (suc (suc (suc (suc (suc zero))))))) r = refl
  eight_same long (suc (suc (suc (suc (suc (suc (suc (suc i)))))))) r = get_or_past s
      (suc (suc (suc (suc (suc (suc (suc (suc i)))))))) 0 (omega arith)

  ack_same : length s ≡ 8 → (i : ℕ) → (eqb i 2 || eqb i 3) ≡ false → get_or s i 0
      ≡ get_or (0 ∷ n ∷ 0 ∷ 0 ∷ get_or s 4 0 ∷ get_or s 5 0 ∷ get_or s 6 0 ∷ get_or s 7 0 ∷ []) i 0
  ack_same long zero r = first
  ack_same long (suc zero) r = number
  ack_same long (suc (suc zero)) r = absurd (true≢false r)
  ack_same long (suc (suc (suc zero))) r = absurd (true≢false r)
  ack_same long (suc (suc (suc (suc zero)))) r = refl
  ack_same long (suc (suc (suc (suc (suc zero))))) r = refl
  ack_same long (suc (suc (suc (suc (suc (suc zero)))))) r = refl
  ack_same long (suc (suc (suc (suc (suc (suc (suc zero))))))) r = refl
  ack_same long (suc (suc (suc (suc (suc (suc (suc (suc i)))))))) r = get_or_past s
      (suc (suc (suc (suc (suc (suc (suc (suc i)))))))) 0 (omega arith)

  rest_same : (i : ℕ) → ((eqb i 2 || eqb i 3) || eqb i 5) ≡ false → get_or s i 0
      ≡ get_or (0 ∷ n ∷ 0 ∷ 0 ∷ get_or s 4 0 ∷ 0 ∷ get_or s 6 0 ∷ get_or s 7 0 ∷ drop 8 s) i 0
  rest_same zero r = first
  rest_same (suc zero) r = number
  rest_same (suc (suc zero)) r = absurd (true≢false r)
  rest_same (suc (suc (suc zero))) r = absurd (true≢false r)
  rest_same (suc (suc (suc (suc zero)))) r = refl
  rest_same (suc (suc (suc (suc (suc zero))))) r = absurd (true≢false r)
  rest_same (suc (suc (suc (suc (suc (suc zero)))))) r = refl
  rest_same (suc (suc (suc (suc (suc (suc (suc zero))))))) r = refl
  rest_same (suc (suc (suc (suc (suc (suc (suc (suc i)))))))) r =
      let place : suc (suc (suc (suc (suc (suc (suc (suc i))))))) ≡ 8 + i = omega arith in
      ap (λ (j : ℕ). get_or s j 0) place ∙ sym (get_or-drop 8 s i 0)

  plain_same : length s ≡ 8 → (i : ℕ) → ((eqb i 2 || eqb i 3) || eqb i 5) ≡ false → get_or s i 0
      ≡ get_or (0 ∷ n ∷ 0 ∷ 0 ∷ get_or s 4 0 ∷ 0 ∷ get_or s 6 0 ∷ get_or s 7 0 ∷ []) i 0
  plain_same long i r =
      let none : drop 8 s ≡ [] = ext_get_or 0 (drop 8 s) [] (omega (arith, length-drop 8 s))
      (λ j lt. absurd (omega (arith, lt, length-drop 8 s))) in
      subst (λ (t : List ℕ). get_or s i 0 ≡ get_or (0 ∷ n ∷ 0 ∷ 0 ∷ get_or s 4 0 ∷ 0 ∷ get_or s 6 0 ∷ get_or s 7 0 ∷ t)
      i 0) none (rest_same i r)

-- the key and the counter are what stands after the first eight bytes
module _ (s : List ℕ) (octets : All IsByte s) (long : length s ≡ 48) where
  number_long : length (slice_range s 40 48) ≡ 8
  number_long = omega (arith, length-take 8 (drop 40 s), length-drop 40 s)

  number_bytes : (i : ℕ) → get_or (slice_range s 40 48) i 0 < 256
  number_bytes i = elim (cases_lt i 8) [
    | inl less ↦ rw (get_or-take 8 (drop 40 s) i 0 less, get_or-drop 40 s i 0) (byte_at s octets (40 + i))
    | inr past ↦ rw (get_or_past (slice_range s 40 48) i 0 (omega (arith, number_long))) (omega arith)
  ]

  tail_is : slice_range s 8 40 ++ to_le_bytes w64 (from_le_bytes w64 (slice_range s 40 48)) ≡ drop 8 s
  tail_is =
      let back = le_bytes_8 (slice_range s 40 48) _ number_long number_bytes refl in
      let all : slice_range s 40 48 ≡ drop 40 s = take_all 8 (drop 40 s) (omega (arith, length-drop 40 s)) in
      rw (back, all) (sym (drop_split s 8 40 (omega arith)))

  key_long : length (slice_range s 8 40) ≡ 32
  key_long = omega (arith, length-take 32 (drop 8 s), length-drop 8 s)

  key_bytes : All IsByte (slice_range s 8 40)
  key_bytes = All-from_get_or IsByte (slice_range s 8 40) 0
      (λ i lt. let less : i < 32 = omega (arith, lt, key_long) in rw
      (get_or-take 32 (drop 8 s) i 0 less, get_or-drop 8 s i 0) (byte_at s octets (8 + i)))

  number_fits : from_le_bytes w64 (slice_range s 40 48) < 2 ^ 64
  number_fits = let b = number_bytes in omega (arith, b 0, b 1, b 2, b 3, b 4, b 5, b 6, b 7)

  key_spells : get_or s 0 0 ≡ 0 → get_or s 1 0 ≡ 2 → SpellsObject
      (KeyProg (get_or s 4 0) (get_or s 6 0) (get_or s 7 0) (slice_range s 8 40)
      (from_le_bytes w64 (slice_range s 40 48))) s
  key_spells first number = record {
    fits = (byte_at s octets 4, byte_at s octets 6, byte_at s octets 7, key_long, key_bytes, number_fits);
    octets = octets;
    long = rw tail_is (omega (arith, length-drop 8 s));
    same = λ i r. subst (λ (t : List ℕ). get_or s i 0 ≡ get_or
        (0 ∷ 2 ∷ 0 ∷ 0 ∷ get_or s 4 0 ∷ 0 ∷ get_or s 6 0 ∷ get_or s 7 0 ∷ t) i 0) (sym tail_is)
        (rest_same s 2 first number i r);
  }

record IsSized (s : List ℕ) : Type 0 where
  first : get_or s 0 0 ≡ 0
  known : get_or s 1 0 ≤ 6
  long : length s ≡ size_of (get_or s 1 0)

none_of : (b : Bool) (f : KmFault) (r : Option KmFault) → cond b (Some f) r ≡ None → (b ≡ false) × (r ≡ None)
none_of true f r e = absurd cc
none_of false f r e = (refl, e)

sized : (s : List ℕ) → fault_of s ≡ None → IsSized s
sized s e =
    let a = none_of _ _ _ e in
    let b = none_of _ _ _ a.1 in
    let c = none_of _ _ _ b.1 in
    let d = none_of _ _ _ c.1 in
    let f = none_of _ _ _ d.1 in
    record { first = eqb-true _ _ (not-false _ b.0); known = ltb-false _ _ d.0; long = eqb-true _ _ (not-false _ f.0) }

-- the number is one of seven, and for each the bytes beside the reserved ones are those of the object read
object_spells : (s : List ℕ) → All IsByte s → IsSized s → SpellsObject (object_of s) s
object_spells s o w =
    let b = byte_at s o in
    elim (cases_eq (get_or s 1 0) 0) [
      | inl e ↦ rw e (record
          { fits = b 3; octets = o; long = w.long ∙ rw e refl; same = four_same s 0 w.first e (w.long ∙ rw e refl) })
      | inr n0 ↦ elim (cases_eq (get_or s 1 0) 1) [
        | inl e ↦ rw e (record {
          fits = (b 3, b 4, b 5, b 6, b 7);
          octets = o;
          long = w.long ∙ rw e refl;
          same = eight_same s 1 w.first e
              (w.long ∙ rw e refl);
        })
        | inr n1 ↦ elim (cases_eq (get_or s 1 0) 2) [
          | inl e ↦ rw e (key_spells s o (w.long ∙ rw e refl) w.first e)
          | inr n2 ↦ elim (cases_eq (get_or s 1 0) 3) [
            | inl e ↦ rw e (record {
              fits = (b 4, b 5, b 6, b 7);
              octets = o;
              long = w.long ∙ rw e refl;
              same = ack_same s 3 w.first e
                  (w.long ∙ rw e refl);
            })
            | inr n3 ↦ elim (cases_eq (get_or s 1 0) 4) [
              | inl e ↦ rw e (record {
                fits = (b 4, b 6, b 7);
                octets = o;
                long = w.long ∙ rw e refl;
                same = plain_same s 4 w.first e
                    (w.long ∙ rw e refl);
              })
              | inr n4 ↦ elim (cases_eq (get_or s 1 0) 5) [
                | inl e ↦ rw e (record {
                  fits = (b 4, b 6, b 7);
                  octets = o;
                  long = w.long ∙ rw e refl;
                  same = plain_same s 5 w.first e
                      (w.long ∙ rw e refl);
                })
                | inr n5 ↦
                    let e : get_or s 1 0 ≡ 6 = let k = w.known in omega arith in
                    rw e (record {
                      fits = (b 4, b 6, b 7);
                      octets = o;
                      long = w.long ∙ rw e refl;
                      same = plain_same s 6
                          w.first e (w.long ∙ rw e refl);
                    })
              ]
            ]
          ]
        ]
      ]
    ]

read_ok : (object value : KmView) (fault : Option KmFault) → object_or_fault object fault ≡ Ok value → (fault ≡ None)
    × (object ≡ value)
read_ok object value None e = (refl, cc)
read_ok object value (Some f) e = absurd cc

pub read_spells : (object : KmView) (s : List ℕ) → All IsByte s → object_reading s ≡ Ok object → SpellsObject object s
read_spells object s o e =
    let r = read_ok _ _ _ e in
    subst (λ (v : KmView). SpellsObject v s) r.1 (object_spells s o (sized s r.0))

-- ---- what is written

four_bytes : (a b c d : ℕ) → a < 256 → b < 256 → c < 256 → d < 256 → (rest : List ℕ) → All IsByte rest
    → All IsByte (a ∷ b ∷ c ∷ d ∷ rest)
four_bytes a b c d fa fb fc fd rest h =
    All-cons IsByte a (b ∷ c ∷ d ∷ rest) fa
    (All-cons IsByte b (c ∷ d ∷ rest) fb (All-cons IsByte c (d ∷ rest) fc (All-cons IsByte d rest fd h)))

low_byte : (n : ℕ) → n % 256 < 256
low_byte n = omega arith

counter_bytes : (n : ℕ) → All IsByte (to_le_bytes w64 n)
counter_bytes n = All-from_recursion IsByte (to_le_bytes w64 n)
    (low_byte _, (low_byte _, (low_byte _, (low_byte _, (low_byte _, (low_byte _, (low_byte _, (low_byte _, tt))))))))

none : All IsByte []
none = All-from_recursion IsByte [] tt

spelling_bytes : (object : KmView) → FitsObject object → All IsByte (object_spelling object)
spelling_bytes (Query port) f = four_bytes 0 0 0 port (omega arith) (omega arith) (omega arith) f [] none
spelling_bytes (QueryResp port device_function bus segment highest) f = four_bytes 0 1 0 port (omega arith)
    (omega arith) (omega arith) f.0 (device_function ∷ bus ∷ segment ∷ highest ∷ [])
    (four_bytes device_function bus segment highest f.1
    f.2 f.3 f.4 [] none)
spelling_bytes (KeyProg stream selector port key counter) f =
    four_bytes 0 2 0 0 (omega arith) (omega arith) (omega arith) (omega arith)
    (stream ∷ 0 ∷ selector ∷ port ∷ (key ++ to_le_bytes w64 counter))
    (four_bytes stream 0 selector port f.0 (omega arith) f.1 f.2 (key ++ to_le_bytes w64 counter)
    (All-append IsByte key (to_le_bytes w64 counter) f.4 (counter_bytes counter)))
spelling_bytes (KpAck stream status selector port) f = four_bytes 0 3 0 0 (omega arith) (omega arith) (omega arith)
    (omega arith) (stream ∷ status ∷ selector ∷ port ∷ [])
    (four_bytes stream status selector port f.0 f.1 f.2 f.3 [] none)
spelling_bytes (SetGo stream selector port) f = four_bytes 0 4 0 0 (omega arith) (omega arith) (omega arith)
    (omega arith) (stream ∷ 0 ∷ selector ∷ port ∷ [])
    (four_bytes stream 0 selector port f.0 (omega arith) f.1 f.2 [] none)
spelling_bytes (SetStop stream selector port) f = four_bytes 0 5 0 0 (omega arith) (omega arith) (omega arith)
    (omega arith) (stream ∷ 0 ∷ selector ∷ port ∷ [])
    (four_bytes stream 0 selector port f.0 (omega arith) f.1 f.2 [] none)
spelling_bytes (GoStopAck stream selector port) f = four_bytes 0 6 0 0 (omega arith) (omega arith) (omega arith)
    (omega arith) (stream ∷ 0 ∷ selector ∷ port ∷ [])
    (four_bytes stream 0 selector port f.0 (omega arith) f.1 f.2 [] none)

pub written_spells : (object : KmView) → FitsObject object → SpellsObject object (object_spelling object)
written_spells object f = record { fits = f; octets = spelling_bytes object f; long = refl; same = λ i r. refl }
