-- A line at the beginning of a text has one list of words, and one text after it.
use Rattle.std.proofs.Common.{◌≡◌, ◌<◌, ◌≤◌, ℕ, List, [], ◌∷◌, ◌++◌, refl, ap, ap₂, sym, ◌∙◌, arith, append_assoc}
use Rattle.ide_types.specs.Names.{Text, joined_words}

-- each byte is above a space
abbrev pub IsWord : Text → Type 0
IsWord [] = Unit {0}
IsWord (b ∷ bs) = (32 < b) × IsWord bs

abbrev pub AreWords : List Text → Type 0
AreWords [] = Unit {0}
AreWords (w ∷ ws) = IsWord w × AreWords ws

-- what follows a word begins with a space or a line feed
abbrev head_of : Text → ℕ
head_of [] = 0
head_of (b ∷ bs) = b

abbrev tail_of : Text → Text
tail_of [] = []
tail_of (b ∷ bs) = bs

head_low : (ws : List Text) (xs : Text) → head_of (joined_words ws ++ xs) ≤ 32
head_low [] xs = omega arith
head_low (w ∷ ws) xs = omega arith

word_apart : (v w xs ys : Text) → IsWord v → IsWord w → head_of xs ≤ 32 → head_of ys ≤ 32 → v ++ xs ≡ w ++ ys → (v ≡ w)
    × (xs ≡ ys)
word_apart [] [] xs ys hv hw hx hy e = (refl, e)
word_apart [] (b ∷ w) xs ys hv hw hx hy e = absurd (omega (arith, hx, ap head_of e))
word_apart (b ∷ v) [] xs ys hv hw hx hy e = absurd (omega (arith, hy, ap head_of e))
word_apart (b ∷ v) (c ∷ w) xs ys hv hw hx hy e =
    let rest = word_apart v w xs ys hv.1 hw.1 hx hy (ap tail_of e) in
    (ap₂ (λ (x : ℕ) (xs : Text). x ∷ xs) (ap head_of e) rest.0, rest.1)

-- a word and those after it, before two texts
first_apart : (v w : Text) (vs ws : List Text) (xs ys : Text) → IsWord v → IsWord w → (v ++ joined_words vs) ++ xs
    ≡ (w ++ joined_words ws) ++ ys → (v ≡ w) × (joined_words vs ++ xs ≡ joined_words ws ++ ys)
first_apart v w vs ws xs ys hv hw e =
    word_apart v w (joined_words vs ++ xs) (joined_words ws ++ ys) hv hw (head_low vs xs) (head_low ws ys)
    (sym (append_assoc v (joined_words vs) xs) ∙ (e ∙ append_assoc w (joined_words ws) ys))

words_apart : (vs ws : List Text) (xs ys : Text) → AreWords vs → AreWords ws
    → joined_words vs ++ xs ≡ joined_words ws ++ ys → (vs ≡ ws) × (xs ≡ ys)
words_apart [] [] xs ys hv hw e = (refl, ap tail_of e)
words_apart [] (w ∷ ws) xs ys hv hw e = absurd (omega (arith, ap head_of e))
words_apart (v ∷ vs) [] xs ys hv hw e = absurd (omega (arith, ap head_of e))
words_apart (v ∷ vs) (w ∷ ws) xs ys hv hw e =
    let first = first_apart v w vs ws xs ys hv.0 hw.0 (ap tail_of e) in
    let rest = words_apart vs ws xs ys hv.1 hw.1 first.1 in
    (ap₂ (λ (x : Text) (xs : List Text). x ∷ xs) first.0 rest.0, rest.1)

pub line_apart : (v w : Text) (vs ws : List Text) (xs ys : Text) → IsWord v → IsWord w → AreWords vs → AreWords ws
    → (v ++ joined_words vs) ++ xs ≡ (w ++ joined_words ws) ++ ys → (v ≡ w) × (vs ≡ ws) × (xs ≡ ys)
line_apart v w vs ws xs ys hv hw hvs hws e =
    let first = first_apart v w vs ws xs ys hv hw e in
    let rest = words_apart vs ws xs ys hvs hws first.1 in
    (first.0, rest.0, rest.1)
