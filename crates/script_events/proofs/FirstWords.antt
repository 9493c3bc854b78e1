-- The first words of a line, one after another.
use Rattle.std.proofs.Common.{◌≡◌, ◌==◌, ◌+◌, ℕ, zero, suc, List, [], ◌∷◌, ◌++◌, Bool, not, length, take, refl, ap, sym}
use Rattle.std.proofs.Common.{◌∙◌, ◌≤◌, arith}
use Rattle.std.proofs.Math.Seq.{take-append_seam}
use Rattle.std.specs.Prelude.{filter}
use Rattle.std.specs.List.{slice_split}
use Rattle.std.proofs.lemmas.List.{append_assoc}
use Rattle.std.proofs.lemmas.List.Elements.{filter-append}
use Rattle.ide_types.specs.Names.{Text}
use Rattle.script_events.specs.Words.{words_in}

take_again : {X : Type 0} (n : ℕ) (xs ys : List X) → take n (take n xs ++ ys) ≡ take n (xs ++ ys)
take_again zero xs ys = refl
take_again (suc n) [] ys = refl
take_again (suc n) (x ∷ xs) ys = ap (λ zs. x ∷ zs) (take_again n xs ys)

abbrev is_word : Text → Bool
is_word w = not (length w == 0)

pub more_words : (ws : List Text) (word rest after : Text)
    → slice_split (λ b. b == 32) rest ≡ word ∷ slice_split (λ b. b == 32) after
    → take 7 (take 7 (ws ++ filter is_word (word ∷ [])) ++ words_in after) ≡ take 7 (ws ++ words_in rest)
more_words ws word rest after is =
    take_again 7 (ws ++ filter is_word (word ∷ [])) (words_in after)
    ∙ ap (take 7) (append_assoc ws (filter is_word (word ∷ [])) (words_in after)
    ∙ ap (λ zs. ws ++ zs) (sym (filter-append is_word (word ∷ []) (slice_split (λ b. b == 32) after))
    ∙ ap (filter is_word) (sym is)))

pub last_word : (ws : List Text) (rest : Text) → slice_split (λ b. b == 32) rest ≡ rest ∷ []
    → take 7 (ws ++ filter is_word (rest ∷ [])) ≡ take 7 (ws ++ words_in rest)
last_word ws rest is = ap (λ ps. take 7 (ws ++ filter is_word ps)) (sym is)

pub all_stand : {X : Type 0} (n : ℕ) (xs ys : List X) → length xs ≡ n → take n (xs ++ ys) ≡ xs
all_stand n xs ys is = rw (← is) (take-append_seam xs ys)

pub none_more : {X : Type 0} (n : ℕ) (xs : List X) → length xs ≤ n → take n (xs ++ []) ≡ xs
none_more zero [] le = refl
none_more zero (x ∷ xs) le = absurd (omega arith)
none_more (suc n) [] le = refl
none_more (suc n) (x ∷ xs) le = ap (λ zs. x ∷ zs) (none_more n xs (omega arith))
