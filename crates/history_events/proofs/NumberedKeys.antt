-- Numbered keys are keys, and pairwise different.
use Rattle.std.proofs.Common.{◌≡◌, ◌≢◌, refl, sym, ◌∙◌, ap, subst, ℕ, zero, suc, ◌+◌, ◌/◌, ◌%◌, ◌<◌, ◌≤◌, List, [], ◌∷◌}
use Rattle.std.proofs.Common.{◌++◌, length, length-append, get_or, arith, add-one, lit≤, inl, inr}
use Rattle.std.specs.List.{All, AllPairs}
use Rattle.std.proofs.lemmas.Bool.Decides.{eqb_tells}
use Rattle.std.proofs.lemmas.List.{get_or_append_left, get_or-append-add}
use Rattle.std.proofs.lemmas.List.Elements.{All-from_recursion}
use Rattle.ide_types.specs.Fits.{IsKey}
use Rattle.history_events.specs.GeneratedTopology.{key_numbered, keys_below}

pub next_key : (n : ℕ) → keys_below (n + 1) ≡ keys_below n ++ key_numbered n ∷ []
unfolding keys_below
next_key n = rw add-one refl

pub no_keys : keys_below 0 ≡ []
unfolding keys_below
no_keys = refl

pub length_keys : (n : ℕ) → length (keys_below n) ≡ n
unfolding keys_below
length_keys zero = refl
length_keys (suc n) = let e = length_keys n in rw (length-append (keys_below n) (key_numbered n ∷ []), e) (omega arith)

last_at : (xs : List (List ℕ)) (y d : List ℕ) → get_or (xs ++ y ∷ []) (length xs) d ≡ y
last_at xs y d =
    let start : length xs + 0 ≡ length xs = omega arith in
    subst (λ (k : ℕ). get_or (xs ++ y ∷ []) k d ≡ y) start (get_or-append-add xs (y ∷ []) 0 d)

pub key_at : (n i : ℕ) (d : List ℕ) → i < n → get_or (keys_below n) i d ≡ key_numbered i
unfolding keys_below
key_at zero i d lt = absurd (omega arith)
key_at (suc n) i d lt = elim (eqb_tells i n) [
  | inl at ↦
      let long : length (keys_below n) ≡ i = length_keys n ∙ sym at.1 in
      subst (λ (k : ℕ). get_or (keys_below n ++ key_numbered n ∷ []) k d ≡ key_numbered i) long
      (last_at (keys_below n) (key_numbered n) d ∙ ap key_numbered (sym at.1))
  | inr other ↦
      let less : i < n = omega (arith, lt, other.1) in
      get_or_append_left (keys_below n) (key_numbered n ∷ []) d i (rw (length_keys n) less) ∙ key_at n i d less
]

small : (m : ℕ) → m % 256 < 256
small m = omega arith

key_fits : (n : ℕ) → IsKey (key_numbered n)
key_fits n =
    let z : 0 < 256 = lit≤ tt in (
      refl,
      All-from_recursion (λ b. b < 256) (key_numbered n) (
        z,
        (
          z,
          (
            z,
            (
              z,
              (
                z,
                (
                  z,
                  (
                    z,
                    (
                      z,
                      (
                        z,
                        (
                          z,
                          (
                            z,
                            (
                              z,
                              (
                                z,
                                (
                                  z,
                                  (
                                    z,
                                    (
                                      z,
                                      (
                                        z,
                                        (
                                          z,
                                          (
                                            z,
                                            (
                                              z,
                                              (
                                                z,
                                                (
                                                  z,
                                                  (
                                                    z,
                                                    (
                                                      z,
                                                      (
                                                        small _,
                                                        (
                                                          small _,
                                                          (
                                                            small _,
                                                            (small _, (small _, (small _, (small _, (small _, tt))))),
                                                          ),
                                                        ),
                                                      ),
                                                    ),
                                                  ),
                                                ),
                                              ),
                                            ),
                                          ),
                                        ),
                                      ),
                                    ),
                                  ),
                                ),
                              ),
                            ),
                          ),
                        ),
                      ),
                    ),
                  ),
                ),
              ),
            ),
          ),
        ),
      ),
    )

pub keys_fit : (n : ℕ) → All IsKey (keys_below n)
keys_fit n k d lt = subst IsKey (sym (key_at n k d (rw (length_keys n) at lt))) (key_fits k)

apart : (i j : ℕ) → i < j → j < 65536 → key_numbered i ≢ key_numbered j
apart i j lt few e =
    let low : i / 1 % 256 ≡ j / 1 % 256 = ap (λ (k : List ℕ). get_or k 31 0) e in
    let high : i / 256 % 256 ≡ j / 256 % 256 = ap (λ (k : List ℕ). get_or k 30 0) e in
    omega (arith, low, high, lt, few)

pub keys_differ : (n : ℕ) → n ≤ 65536 → AllPairs (λ key other. key ≢ other) (keys_below n)
keys_differ n few i j d lt below same =
    let within : j < n = rw (length_keys n) at below in
    let one = key_at n i d (omega arith) in
    let two = key_at n j d within in
    apart i j lt (omega arith) (sym one ∙ same ∙ two)
