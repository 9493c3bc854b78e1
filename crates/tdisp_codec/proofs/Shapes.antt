-- A grammar of bytes that is known by its first bytes, a test at each place, and by its length, which the bytes
-- themselves say: what its readers answer, and where bytes first go off it.
use Rattle.std.proofs.Common.{cond, eqb, not, suc, ◌≡◌, ℕ, ◌+◌, ◌-◌, ◌<◌, ◌≤◌, Bool, true, false, List, ◌++◌, length}
use Rattle.std.proofs.Common.{get_or, take, drop, replicate, Option, Some, None, Ok, Err, refl, sym, ap, subst, ◌∙◌}
use Rattle.std.proofs.Common.{◌⊎◌, inl, inr, arith, append_assoc, append-nil, length-append, length-take, length-drop}
use Rattle.std.proofs.Common.{get_or-take, get_or-drop}
use Rattle.std.proofs.lemmas.Bool.{cases_lt, cases_eq, cases_Bool, eq-eqb, ne_eqb, lt-ltb, le-ltb, true≢false}
use Rattle.std.specs.Prelude.{All, ◌↔◌}
use Rattle.std.proofs.lemmas.List.{get_or_past, drop_all, get_or_append_left, get_or-append_right, length-replicate}
use Rattle.std.proofs.lemmas.List.{get_or-replicate}
use Rattle.ide_types.specs.Fronts.{Begins, IsFaultPlace}
use Rattle.ide_types.proofs.Fronts.{same_place}
use Rattle.ide_types.proofs.Cells.{IsBytes, all_bytes}
use Rattle.tdisp_codec.specs.declared.fault.TdispFault.{TdispFault}
use Rattle.tdisp_codec.specs.declared.fault.TdispFault.TheVariants.{Short, Trailing}
use Rattle.tdisp_codec.proofs.Octets.{IsByte}
use Rattle.tdisp_codec.specs.Messages.{IsSpelled, length_fault, read_or, IsFirstFault}

-- the first bytes pass the test, and 0 passes after them; the length is said by bytes within it
pub record IsSized (fits : ℕ → ℕ → Bool) (head : List ℕ) (size : List ℕ → ℕ) : Type 0 where
  pub octets : IsBytes head
  pub early : (i : ℕ) → fits i (get_or head i 0) ≡ true
  pub more : (s : List ℕ) → length head ≤ size s
  pub same : (s t : List ℕ) → ((i : ℕ) → i < size s → get_or s i 0 ≡ get_or t i 0) → size s ≡ size t

abbrev pub FitsTo : (ℕ → ℕ → Bool) → List ℕ → ℕ → Type 0
FitsTo fits s n = (i : ℕ) → i < n → fits i (get_or s i 0) ≡ true

pub record IsShaped (fits : ℕ → ℕ → Bool) (size : List ℕ → ℕ) (s : List ℕ) : Type 0 where
  pub octets : IsBytes s
  pub fitting : FitsTo fits s (length s)
  pub long : length s ≡ size s

-- the bytes go off at this place
pub record Stops (fits : ℕ → ℕ → Bool) (size : List ℕ → ℕ) (s : List ℕ) (place : ℕ) : Type 0 where
  pub within : place ≤ length s
  pub reaches : place ≤ size s
  pub before : FitsTo fits s place
  pub off : place < length s → (fits place (get_or s place 0) ≡ false) ⊎ (place ≡ size s)
  pub short : length s ≤ place → place < size s

-- zeros after bytes change none of them
zeros_behind : (s : List ℕ) (n i : ℕ) → get_or (s ++ replicate n 0) i 0 ≡ get_or s i 0
zeros_behind s n i = grind (
  arith,
  cases_lt i (length s),
  get_or_append_left,
  get_or-append_right s (replicate n 0) (length s) i 0 refl,
  get_or_past,
  cases_lt (i - length s) n,
  get_or-replicate,
  length-replicate {A = ℕ} n 0,
)

module _ {Spelled : List ℕ → Type 0} {fits : ℕ → ℕ → Bool} {head : List ℕ} {size : List ℕ → ℕ}
    (g : IsSized fits head size)
    (there : (s : List ℕ) → IsShaped fits size s → Spelled s) (back : (s : List ℕ) → Spelled s → IsShaped fits size s)
  where
    -- a prefix, with what is missing of the first bytes
    abbrev begun : List ℕ → List ℕ
    begun f = f ++ drop (length f) head

    begun_long : (f : List ℕ) → length f ≤ size f → length (begun f) ≤ size (begun f)
    begun_long f le = elim (cases_lt (length f) (length head)) [
      | inl few ↦ omega (arith, g.more (begun f), length-append f (drop (length f) head), length-drop (length f) head)
      | inr all ↦ let none : begun f ≡ f = ap (λ (r : List ℕ). f ++ r) (drop_all (length f) head all) ∙ append-nil f in
          rw
          none le
    ]

    -- each byte is one of the prefix or of the first bytes
    begun_each : (P : ℕ → ℕ → Type 0) (f : List ℕ) → ((i : ℕ) → i < length f → P i (get_or f i 0))
        → ((i : ℕ) → P i (get_or head i 0)) → (i : ℕ) → P i (get_or (begun f) i 0)
    begun_each P f mine its i = elim (cases_lt i (length f)) [
      | inl less ↦ rw (get_or_append_left f (drop (length f) head) 0 i less) (mine i less)
      | inr past ↦
          let same : length f + (i - length f) ≡ i = omega arith in
          rw (
            get_or-append_right f (drop (length f) head) (length f) i 0 refl past,
            get_or-drop (length f) head
                (i - length f) 0,
            same,
          ) (its i)
    ]

    -- it goes on to a whole spelling with zeros
    goes_on : (f : List ℕ) → IsBytes f → FitsTo fits f (length f) → length f ≤ size f → Begins Spelled f
    goes_on f octets fitting le =
        let n = size (begun f) - length (begun f) in
        let whole = begun f ++ replicate n 0 in
        let at = zeros_behind (begun f) n in
        let sized : size (begun f) ≡ size whole = g.same (begun f) whole (λ i lt. sym (at i)) in
        let shape : IsShaped fits size whole = record {
          octets = λ i. rw (at i) (begun_each (λ _ b. b < 256) f (λ j _. octets j) g.octets i);
          fitting = λ i lt. rw (at i) (begun_each (λ j b. fits j b ≡ true) f fitting g.early i);
          long = omega (
            arith,
            begun_long f le,
            sized,
            length-append (begun f) (replicate n 0),
            length-replicate {A = ℕ} n
                0,
          );
        } in
        record {
          rest = drop (length f) head ++ replicate n 0;
          spelled = there _
              (subst (IsShaped fits size) (append_assoc f (drop (length f) head) (replicate n 0)) shape);
        }

    taken_bytes : (s : List ℕ) (n : ℕ) → IsBytes s → IsBytes (take n s)
    taken_bytes s n octets i = elim (cases_lt i n) [
      | inl less ↦ rw (get_or-take n s i 0 less) (octets i)
      | inr past ↦ rw (get_or_past (take n s) i 0 (omega (arith, length-take n s))) (omega arith)
    ]

    -- a prefix is no longer than its spellings
    front_size : (s : List ℕ) (place : ℕ) → place ≤ size s → place ≤ size (take place s)
    front_size s place le = elim (cases_lt (size (take place s)) place) [
      | inr done ↦ done
      | inl less ↦
          let e : size (take place s) ≡ size s = g.same (take place s) s
          (λ i lt. let here : i < place = omega arith in get_or-take place s i 0 here) in
          omega arith
    ]

    -- the prefix up to the place goes on to a spelling, filled with zeros to its length; one byte more and a test or
    -- the length fails
    pub stops_place : (s : List ℕ) (place : ℕ) → IsBytes s → Stops fits size s place → IsFaultPlace Spelled s place
    stops_place s place octets p = record {
      within = p.within;
      begins =
          let within = p.within in
          let long : length (take place s) ≡ place = omega (arith, length-take place s) in
          goes_on (take place s) (taken_bytes s place octets)
          (λ i lt. let here : i < place = omega arith in rw (get_or-take place s i 0 here) (p.before i here))
          (rw long (front_size s place p.reaches));
      longest = λ n le b. elim (cases_lt place n) [
        | inr done ↦ done
        | inl more ↦
            let t = take n s ++ b.rest in
            let long : length (take n s) ≡ n = omega (arith, length-take n s) in
            let at : (i : ℕ) → i < n → get_or t i 0 ≡ get_or s i 0 = λ i lt. get_or_append_left (take n s) b.rest 0 i
            (omega (arith, long)) ∙ get_or-take n s i 0 lt in
            let shape = back t b.spelled in
            let total : n ≤ length t = omega (arith, long, length-append (take n s) b.rest) in
            elim (p.off (omega arith)) [
              | inl off ↦
                  let e = at place more in
                  let f : fits place (get_or s place 0) ≡ true = rw e at (shape.fitting place (omega arith)) in
                  absurd (true≢false (sym f ∙ off))
              | inr end ↦
                  let e : size s ≡ size t = g.same s t (λ i lt. sym (at i (omega arith))) in
                  absurd (let l = shape.long in omega arith)
            ]
      ];
      not_spelled = λ spelled.
          let shape = back s spelled in
          let l = shape.long in
          let within = p.within in
          elim (cases_lt place (length s)) [
            | inl less ↦ elim (p.off less) [
              | inl off ↦ true≢false (sym (shape.fitting place less) ∙ off)
              | inr end ↦ omega arith
            ]
            | inr past ↦ let lt = p.short past in omega arith
          ];
    }

-- ---- what a reader finds, test by test

-- the shape, or the cause at the place where the bytes go off
abbrev pub Judged : (ℕ → ℕ → Bool) → (List ℕ → ℕ) → (List ℕ → ℕ → TdispFault) → List ℕ → Option TdispFault → Type 0
Judged fits size cause s found =
    ((found ≡ None) × IsShaped fits size s) ⊎ ((place : ℕ) × (found ≡ Some (cause s place)) × Stops fits size s place)

module _ (fits : ℕ → ℕ → Bool) (size : List ℕ → ℕ) (cause : List ℕ → ℕ → TdispFault) (s : List ℕ) where
  -- the bytes end at this place, the byte there fails its test, or the rest is judged
  pub judged_at : (place : ℕ) (fault : TdispFault) (rest : Option TdispFault) → place ≤ length s → place < size s
      → FitsTo fits s place
      → cause s place ≡ cond (eqb place (length s)) (Short place) fault
      → (place < length s → FitsTo fits s (suc place) → Judged fits size cause s rest)
      → Judged fits size cause s
      (cond (eqb (length s) place) (Some (Short place))
      (cond (not (fits place (get_or s place 0))) (Some fault) rest))
  judged_at place fault rest le lt before is next = elim (cases_eq (length s) place) [
    | inl end ↦ rw (eq-eqb _ _ end) (inr (
      place,
      ap (λ (x : TdispFault). Some x) (sym (is ∙ rw (eq-eqb place (length s) (sym end)) refl)),
      record {
        within = le;
        reaches = omega arith;
        before = before;
        off = λ less. absurd (omega arith);
        short = λ _. lt;
      },
    ))
    | inr on ↦ elim (cases_Bool (fits place (get_or s place 0))) [
      | inl ok ↦ rw (ne_eqb _ _ on, ok) (next (omega arith) (λ i less. elim (cases_lt i place) [
        | inl below ↦ before i below
        | inr past ↦ let e : i ≡ place = omega arith in rw e ok
      ]))
      | inr off ↦ rw (ne_eqb _ _ on, off) (inr (
        place,
        ap (λ (x : TdispFault). Some x) (sym (is ∙ rw (ne_eqb place (length s) (λ e. on (sym e))) refl)),
        record { within = le; reaches = omega arith; before = before; off = λ less. inl off; short = λ _. lt },
      ))
    ]
  ]

  -- all bytes pass, so only the length can be wrong
  pub judged_length : IsBytes s → FitsTo fits s (length s) → cause s (length s) ≡ Short (length s)
      → (size s < length s → cause s (size s) ≡ Trailing (size s)) → Judged fits size cause s (length_fault (size s) s)
  judged_length octets all short trailing = elim (cases_lt (length s) (size s)) [
    | inl less ↦ rw (lt-ltb _ _ less) (inr (
      length s,
      ap (λ (x : TdispFault). Some x) (sym short),
      record {
        within = omega arith;
        reaches = omega arith;
        before = all;
        off = λ lt. absurd (omega arith);
        short = λ _.
            less;
      },
    ))
    | inr enough ↦ elim (cases_lt (size s) (length s)) [
      | inl more ↦ rw (le-ltb _ _ enough, lt-ltb _ _ more) (inr (
        size s,
        ap (λ (x : TdispFault). Some x) (sym (trailing more)),
        record {
          within = enough;
          reaches = omega arith;
          before = λ i lt. all i (omega arith);
          off = λ _. inr refl;
          short = λ le. absurd (omega arith);
        },
      ))
      | inr exact ↦ rw (le-ltb _ _ enough, le-ltb _ _ exact)
          (inl (refl, record { octets = octets; fitting = all; long = omega arith }))
    ]
  ]

-- ---- what a reader answers

pub record IsReader {V : Type 0} (Spells : V → List ℕ → Type 0) (value : List ℕ → V) (fits : ℕ → ℕ → Bool)
    (size : List ℕ → ℕ) (cause : List ℕ → ℕ → TdispFault)
    (found : List ℕ → Option TdispFault) : Type 0 where
  pub head : List ℕ
  pub sized : IsSized fits head size
  pub shape_of : (v : V) (s : List ℕ) → Spells v s → IsShaped fits size s × (value s ≡ v)
  pub spells_of : (s : List ℕ) → IsShaped fits size s → Spells (value s) s
  pub judged : (s : List ℕ) → IsBytes s → Judged fits size cause s (found s)

module _ {V : Type 0} {Spells : V → List ℕ → Type 0} {value : List ℕ → V} {fits : ℕ → ℕ → Bool} {size : List ℕ → ℕ}
    {cause : List ℕ → ℕ → TdispFault}
    {found : List ℕ → Option TdispFault} (r : IsReader Spells value fits size cause found) where
  answer : (s : List ℕ) → IsBytes s → ((found s ≡ None) × Spells (value s) s) ⊎
      ((place : ℕ) × (found s ≡ Some (cause s place)) × IsFaultPlace (IsSpelled Spells) s place)
  answer s octets = elim (r.judged s octets) [
    | inl ok ↦ inl (ok.0, r.spells_of s ok.1)
    | inr err ↦ inr (
      err.0,
      err.1,
      stops_place r.sized (λ t shape. record { value = value t; spells = r.spells_of t shape })
          (λ t is. (r.shape_of is.value t is.spells).0) s err.0 octets err.2,
    )
  ]

  reads_bytes : (v : V) (s : List ℕ) → IsBytes s → (Spells v s) ↔ (read_or (value s) (found s) ≡ Ok v)
  reads_bytes v s octets = elim (answer s octets) [
    | inl ok ↦
        let none = ok.0 in
        rw none (
          λ p. ap (λ (x : V). Ok x) (r.shape_of v s p).1,
          λ e. let same : value s ≡ v = cc in subst (λ (x : V). Spells x s) same ok.1,
        )
    | inr err ↦ let some = err.1 in rw some
        (λ p. absurd (err.2.not_spelled (record { value = v; spells = p })), λ e. absurd cc)
  ]

  pub reads : (v : V) (s : List ℕ) → All IsByte s → (Spells v s) ↔ (read_or (value s) (found s) ≡ Ok v)
  reads v s octets = reads_bytes v s (all_bytes s octets)

  pub reads_again : (v : V) (s : List ℕ) → Spells v s → read_or (value s) (found s) ≡ Ok v
  reads_again v s p = (reads_bytes v s (r.shape_of v s p).0.octets).0 p

  pub refuses : (s : List ℕ) (f : TdispFault) → All IsByte s → (IsFirstFault Spells cause s f) ↔
      (read_or (value s) (found s) ≡ Err f)
  refuses s f octets = elim (answer s (all_bytes s octets)) [
    | inl ok ↦ let none = ok.0 in rw none
        (λ p. absurd (p.1.not_spelled (record { value = value s; spells = ok.1 })), λ e. absurd cc)
    | inr err ↦
        let some = err.1 in
        rw some (
          λ p. ap (λ (i : ℕ). Err (cause s i)) (same_place (IsSpelled Spells) s err.0 p.0 err.2 p.1) ∙ ap
              (λ (x : TdispFault). Err x) (sym p.2),
          λ e. (err.0, err.2, cc),
        )
  ]
