-- Lists that a loop makes element by element from another list.
use Rattle.all_ends.proofs.Terms.{◌≡◌, ℕ, ◌+◌, ◌<◌, List, [], ◌∷◌, ◌++◌, length, drop, ap, sym, ◌∙◌}
use Rattle.std.proofs.Common.{get_or, append_assoc}
use Rattle.std.proofs.lemmas.List.{drop_more}

-- The whole is what was made and what comes of the rest; so it is after the next element, of which one is made.
pub pushed_on : {A B : Type 0} (F G : List A → List B) (xs : List A) (i : ℕ) (x : A) (y : B) (whole made now : List B)
    → i < length xs → x ≡ get_or xs i x → whole ≡ made ++ F (drop i xs)
    → F (x ∷ drop (i + 1) xs) ≡ y ∷ G (drop (i + 1) xs) → now ≡ made ++ y ∷ []
    → whole ≡ now ++ G (drop (i + 1) xs)
pushed_on F G xs i x y whole made now lt is was made_of push =
    let rest = drop (i + 1) xs in
    was ∙ ap (λ zs. made ++ F zs) (drop_more xs i x lt ∙ ap (λ z. z ∷ rest) (sym is)) ∙ ap (λ zs. made ++ zs) made_of
    ∙ sym (append_assoc made (y ∷ []) (G rest)) ∙ ap (λ zs. zs ++ G rest) (sym push)
