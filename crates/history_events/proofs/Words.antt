-- Words with a space between each two, and that a line of them is cut into these words.
use Rattle.std.proofs.Common.{◌≡◌, refl, sym, ap, ◌∙◌, ℕ, ◌+◌, ◌<◌, ◌==◌, ◌&&◌, nat_le, Bool, true, false}
use Rattle.std.proofs.Common.{not, List, [], ◌∷◌, ◌++◌, length, filter, get_or, append_assoc, length-append, arith}
use Rattle.std.specs.List.{All, list_all, slice_split}
use Rattle.std.proofs.lemmas.Bool.{and_parts, leb-true, le-leb}
use Rattle.std.proofs.lemmas.Bool.Decides.{nat_tests}
use Rattle.std.proofs.lemmas.List.Folds.{list_all-append}
use Rattle.std.proofs.lemmas.List.Splits.{slice_split_at, slice_split_none}
use Rattle.std.proofs.lemmas.List.Sums.{AllPass-from_list_all}
use Rattle.ide_types.specs.Names.{Text, joined_words, is_printable}
use Rattle.script_events.specs.Words.{words_in}

-- ---- words

-- a printed character that is no space
abbrev pub is_glyph : ℕ → Bool
is_glyph b = nat_le 33 b && nat_le b 126

pub record IsWord (w : Text) : Type 0 where
  pub some : 0 < length w
  pub glyphs : list_all is_glyph w ≡ true

abbrev pub AreWords : List Text → Type 0
AreWords [] = Unit {0}
AreWords (w ∷ ws) = IsWord w × AreWords ws

-- a word, and the others, each after a space
abbrev pub spaced_words : Text → List Text → Text
spaced_words w [] = w
spaced_words w (v ∷ ws) = w ++ 32 ∷ spaced_words v ws

-- how many bytes the words take, each with one byte more
abbrev pub length_of : List Text → ℕ
length_of [] = 0
length_of (w ∷ ws) = length w + (1 + length_of ws)

pub ended : (w : Text) (ws : List Text) → w ++ joined_words ws ≡ spaced_words w ws ++ 10 ∷ []
ended w [] = refl
ended w (v ∷ ws) = rw (ended v ws) (sym (append_assoc w (32 ∷ spaced_words v ws) (10 ∷ [])))

pub length_spaced : (w : Text) (ws : List Text) → length (spaced_words w ws) ≡ length w + length_of ws
length_spaced w [] = omega arith
length_spaced w (v ∷ ws) =
    let e = length_spaced v ws in
    let both = length-append w (32 ∷ spaced_words v ws) in
    omega (arith, e, both)

-- ---- their bytes

glyph_printed : (b : ℕ) → is_glyph b ≡ true → is_printable b ≡ true
glyph_printed b h =
    let parts = and_parts (nat_le 33 b) (nat_le b 126) h in
    let low = leb-true 33 b parts.0 in
    rw (le-leb 32 b (omega (arith, low)), parts.1) refl

no_space : (b : ℕ) → is_glyph b ≡ true → (b == 32) ≡ false
no_space b h =
    let parts = and_parts (nat_le 33 b) (nat_le b 126) h in
    let low = leb-true 33 b parts.0 in
    grind (arith, nat_tests)

no_end : (b : ℕ) → is_printable b ≡ true → (b == 10) ≡ false
no_end b h =
    let parts = and_parts (nat_le 32 b) (nat_le b 126) h in
    let low = leb-true 32 b parts.0 in
    grind (arith, nat_tests)

word_printed : (w : Text) → list_all is_glyph w ≡ true → list_all is_printable w ≡ true
word_printed [] h = refl
word_printed (b ∷ bs) h =
    let parts = and_parts (is_glyph b) (list_all is_glyph bs) h in
    rw (glyph_printed b parts.0, word_printed bs parts.1) refl

no_spaces : (w : Text) → list_all is_glyph w ≡ true → All (λ b. (b == 32) ≡ false) w
no_spaces w h k d lt = no_space (get_or w k d) (AllPass-from_list_all is_glyph w h k d lt)

pub printed : (w : Text) (ws : List Text) → IsWord w → AreWords ws → list_all is_printable (spaced_words w ws) ≡ true
printed w [] word words = word_printed w word.glyphs
printed w (v ∷ ws) word words =
    rw (
      list_all-append is_printable w (32 ∷ spaced_words v ws),
      word_printed w word.glyphs,
      printed v ws words.0 words.1,
    ) refl

-- a line of printed characters does not end within
pub no_ends : (line : Text) → list_all is_printable line ≡ true → All (λ b. (b == 10) ≡ false) line
no_ends line h k d lt = no_end (get_or line k d) (AllPass-from_list_all is_printable line h k d lt)

-- ---- its words

cut_words : (w : Text) (ws : List Text) → IsWord w → AreWords ws → slice_split (λ b. b == 32) (spaced_words w ws) ≡ w
    ∷ ws
cut_words w [] word words = slice_split_none (λ b. b == 32) w (no_spaces w word.glyphs)
cut_words w (v ∷ ws) word words = slice_split_at (λ b. b == 32) w 32 (spaced_words v ws) (no_spaces w word.glyphs) refl
    ∙ ap (λ (ps : List Text). w ∷ ps) (cut_words v ws words.0 words.1)

positive : (n : ℕ) → 0 < n → (n == 0) ≡ false
positive n some = grind (arith, nat_tests)

some_length : (w : Text) → IsWord w → not (length w == 0) ≡ true
some_length w word = rw (positive (length w) word.some) refl

kept : (ws : List Text) → AreWords ws → filter (λ w. not (length w == 0)) ws ≡ ws
kept [] words = refl
kept (w ∷ ws) words = rw (some_length w words.0, kept ws words.1) refl

pub words_are : (w : Text) (ws : List Text) → IsWord w → AreWords ws → words_in (spaced_words w ws) ≡ w ∷ ws
words_are w ws word words = rw (cut_words w ws word words) (kept (w ∷ ws) (word, words))
