-- A grammar whose spellings are found byte by byte: what a prefix says decides which byte may follow it, and the first
-- few bytes of a spelling how long it is. Where bytes first go off such a grammar.
use Rattle.std.proofs.Common.{◌≡◌, ℕ, zero, suc, ◌+◌, ◌<◌, ◌≤◌, Bool, IsTrue, List, [], ◌∷◌, ◌++◌, length, get_or, take}
use Rattle.std.proofs.Common.{refl, sym, ap, ◌∙◌, subst, arith, inl, inr, append_assoc, append-nil, length-append}
use Rattle.std.proofs.Common.{length-take, get_or-take, take-take, take_at}
use Rattle.std.specs.Prelude.{◌⊎◌}
use Rattle.std.proofs.lemmas.Bool.{cases_lt}
use Rattle.std.proofs.lemmas.List.{take-append-le, take_more, get_or_push}
use Rattle.ide_types.specs.Fronts.{Begins, IsFaultPlace}

-- each of the first n bytes may follow those before it
abbrev pub Fitting : (List ℕ → ℕ → Bool) → List ℕ → ℕ → Type 0
Fitting fits s n = (i : ℕ) → i < n → IsTrue (fits (take i s) (get_or s i 0))

pub record IsGrammar (Spelled : List ℕ → Type 0) (size : List ℕ → ℕ) (fits : List ℕ → ℕ → Bool) (few : ℕ) : Type 0 where
  pub least : (s : List ℕ) → few ≤ size s
  pub front : (n : ℕ) (s : List ℕ) → few ≤ n → size (take n s) ≡ size s
  pub walks : (s : List ℕ) → Spelled s → Fitting fits s (length s) × (length s ≡ size s)
  pub whole : (s : List ℕ) → Fitting fits s (length s) → length s ≡ size s → Spelled s
  pub next : (s : List ℕ) → Fitting fits s (length s) → length s < size s → (b : ℕ) × IsTrue (fits s b)

-- the bytes go on so up to this place, and no further
pub record EndsAt (size : List ℕ → ℕ) (fits : List ℕ → ℕ → Bool) (s : List ℕ) (place : ℕ) : Type 0 where
  pub within : place ≤ length s
  pub sized : place ≤ size s
  pub fitting : Fitting fits s place
  pub off : place < length s → place < size s → IsTrue (fits (take place s) (get_or s place 0)) → ⊥

-- they are a prefix of a spelling
pub record Walks (size : List ℕ → ℕ) (fits : List ℕ → ℕ → Bool) (s : List ℕ) : Type 0 where
  pub fitting : Fitting fits s (length s)
  pub sized : length s ≤ size s

-- ---- what bytes with one prefix share

pub fitting_like : (fits : List ℕ → ℕ → Bool) (n : ℕ) (a b : List ℕ) → take n a ≡ take n b → Fitting fits a n
    → Fitting fits b n
fitting_like fits n a b e w i lt =
    let le : i ≤ n = omega arith in
    let front : take i a ≡ take i b = sym (take-take i n a le) ∙ ap (take i) e ∙ take-take i n b le in
    let byte : get_or a i 0 ≡ get_or b i 0 = sym (get_or-take n a i 0 lt) ∙ ap (λ (x : List ℕ). get_or x i 0) e ∙
    get_or-take n b i 0 lt in
    rw (front, byte) at (w i lt)

front_again : (n : ℕ) (s rest : List ℕ) → n ≤ length s → take n (take n s ++ rest) ≡ take n s
front_again n s rest le =
    let here : n ≤ length (take n s) = omega (arith, length-take n s) in
    let one : n ≤ n = omega arith in
    take-append-le n (take n s) rest here ∙ take-take n n s one

module _ {Spelled : List ℕ → Type 0} {size : List ℕ → ℕ} {fits : List ℕ → ℕ → Bool} {few : ℕ}
    (g : IsGrammar Spelled size fits few) where
  pub size_like : (n : ℕ) (a b : List ℕ) → take n a ≡ take n b → (n < few) ⊎ (size a ≡ size b)
  size_like n a b e = elim (cases_lt n few) [
    | inl less ↦ inl less
    | inr le ↦ inr (sym (g.front n a le) ∙ ap size e ∙ g.front n b le)
  ]

  front_walks : (s : List ℕ) (n : ℕ) → n ≤ length s → n ≤ size s → Fitting fits s n → Walks size fits (take n s)
  front_walks s n le small w =
      let long : length (take n s) ≡ n = omega (arith, length-take n s) in
      let one : n ≤ n = omega arith in
      let same : take n s ≡ take n (take n s) = sym (take-take n n s one) in
      record {
        fitting = λ i lt. fitting_like fits n s (take n s) same w i (omega arith);
        sized = omega (arith, long, size_like n s (take n s) same, g.least (take n s));
      }

  pub walks_push : (s : List ℕ) (b : ℕ) → Walks size fits s → length s < size s → IsTrue (fits s b)
      → Walks size fits (s ++ b ∷ [])
  walks_push s b w lt f =
      let whole : take (length s) (s ++ b ∷ []) ≡ s = take_at s (b ∷ []) (length s) refl in
      let one : length s ≤ length s = omega arith in
      let same : take (length s) s ≡ take (length s) (s ++ b ∷ []) = sym (take-append-le (length s) s (b ∷ []) one) in
      record {
        fitting = λ i less. elim (cases_lt i (length s)) [
          | inl below ↦ fitting_like fits (length s) s (s ++ b ∷ []) same w.fitting i below
          | inr past ↦ let e : i ≡ length s = omega (arith, length-append s (b ∷ [])) in rw
              (e, whole, get_or_push s b 0 (length s) refl) f
        ];
        sized = omega (
          arith,
          length-append s (b ∷ []),
          size_like (length s) s (s ++ b ∷ []) same,
          g.least
              (s ++ b ∷ []),
        );
      }

  -- ---- what walks begins a spelling

  goes_on : (s : List ℕ) → Walks size fits s
      → ((b : ℕ) → Walks size fits (s ++ b ∷ []) → length s < size s → Begins Spelled (s ++ b ∷ [])) → Begins Spelled s
  goes_on s w more = elim (cases_lt (length s) (size s)) [
    | inl lt ↦
        let b = g.next s w.fitting lt in
        let r = more b.0 (walks_push s b.0 w lt b.1) lt in
        record { rest = b.0 ∷ r.rest; spelled = subst Spelled (append_assoc s (b.0 ∷ []) r.rest) r.spelled }
    | inr le ↦ record {
      rest = [];
      spelled = subst Spelled (sym (append-nil s))
          (g.whole s w.fitting (omega (arith, w.sized)));
    }
  ]

  -- first the bytes that say how long it is, and then as many as that
  begins : (m n : ℕ) (s : List ℕ) → Walks size fits s → few ≤ length s + m → size s ≤ length s + n → Begins Spelled s
  begins zero zero s w lm ln = goes_on s w (λ b v lt. absurd (omega arith))
  begins zero (suc n) s w lm ln = goes_on s w (λ b v lt.
      let front : size (s ++ b ∷ []) ≡ size s = sym (g.front (length s) (s ++ b ∷ []) (omega arith)) ∙ ap size
      (take_at s (b ∷ []) (length s) refl) in
      begins zero n (s ++ b ∷ []) v (omega (arith, length-append s (b ∷ [])))
      (omega (arith, length-append s (b ∷ []), front)))
  begins (suc m) n s w lm ln = goes_on s w (λ b v lt.
      begins m (size (s ++ b ∷ [])) (s ++ b ∷ []) v (omega (arith, length-append s (b ∷ []))) (omega arith))

  pub walk_begins : (s : List ℕ) → Walks size fits s → Begins Spelled s
  walk_begins s w = begins few (size s) s w (omega arith) (omega arith)

  -- ---- where bytes first go off

  pub place_of : (s : List ℕ) (place : ℕ) → EndsAt size fits s place → (place ≡ length s → place < size s)
      → IsFaultPlace Spelled s place
  place_of s place h short = record {
    within = h.within;
    begins = walk_begins (take place s) (front_walks s place h.within h.sized h.fitting);
    longest = λ n le b. elim (cases_lt place n) [
      | inr done ↦ done
      | inl more ↦
          let x = take n s ++ b.rest in
          let w = g.walks x b.spelled in
          let same : take n x ≡ take n s = front_again n s b.rest le in
          let long : n ≤ length x = omega (arith, length-append (take n s) b.rest, length-take n s) in
          let f = fitting_like fits n x s same (λ i lt. w.0 i (omega arith)) in
          absurd (h.off (omega arith) (omega (arith, size_like n x s same, g.least s, w.1)) (f place more))
    ];
    not_spelled = λ sp.
        let w = g.walks s sp in
        elim (cases_lt place (length s)) [
          | inl less ↦ h.off less (omega (arith, w.1)) (w.0 place less)
          | inr all ↦ let more = short (omega (arith, h.within)) in omega (arith, more, w.1)
        ];
  }

  -- and the place of the first fault is where they end
  pub ends_of : (s : List ℕ) (place : ℕ) → IsFaultPlace Spelled s place → EndsAt size fits s place
      × (place ≡ length s → place < size s)
  ends_of s place f =
      let x = take place s ++ f.begins.rest in
      let w = g.walks x f.begins.spelled in
      let same : take place x ≡ take place s = front_again place s f.begins.rest f.within in
      let le = f.within in
      let long : place ≤ length x = omega (arith, length-append (take place s) f.begins.rest, length-take place s) in
      let fitting : Fitting fits s place = fitting_like fits place x s same (λ i lt. w.0 i (omega arith)) in
      let sized : place ≤ size s = omega (arith, size_like place x s same, g.least s, w.1) in
      let front = front_walks s place le sized fitting in (
        record {
          within = le;
          sized = sized;
          fitting = fitting;
          off = λ less more t.
              let one : take (place + 1) s ≡ take place s ++ get_or s place 0 ∷ [] = take_more s place 0 less in
              let again : take place s ≡ take place (take place s) = sym (take-take place place s (omega arith)) in
              let like = size_like place s (take place s) again in
              let room : length (take place s) < size (take place s) = omega
              (arith, length-take place s, like, g.least (take place s)) in
              let b = walk_begins (take place s ++ get_or s place 0 ∷ [])
              (walks_push (take place s) (get_or s place 0) front room t) in
              let past = f.longest (place + 1) (omega arith) (rw one b) in
              omega arith;
        },
        λ all. elim (cases_lt place (size s)) [
          | inl less ↦ less
          | inr le' ↦ absurd (f.not_spelled (g.whole s (rw all at fitting) (omega arith)))
        ],
      )

-- two places are one
pub same_place : (Spelled : List ℕ → Type 0) (s : List ℕ) (p q : ℕ) → IsFaultPlace Spelled s p
    → IsFaultPlace Spelled s q → p ≡ q
same_place Spelled s p q a b =
    let one : p ≤ q = b.longest p a.within a.begins in
    let two : q ≤ p = a.longest q b.within b.begins in
    omega arith
