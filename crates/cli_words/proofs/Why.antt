-- The form of `why`, by the walk over the words of its own level: two names and the number of an event.
use Rattle.std.proofs.Common.{◌≡◌, ◌∙◌, ◌==◌, ◌≤◌, ◌<◌, ◌^◌, ◌∷◌, ℕ, List, [], Bool, true, false, Some, None, refl}
use Rattle.std.proofs.Common.{codes, arith, ap}
use Rattle.std.specs.Fmt.{decimal}
use Rattle.clap.specs.Faults.{level_fault, turn_fault, walk_fault}
use Rattle.clap.specs.Kinds.{or_else}
use Rattle.clap.specs.Simple.{built_leaf, inherited, marked_built, on_top, with_leaf_noted}
use Rattle.clap.specs.Words.{Shape, Text, fault_of, subcommand_of}
use Rattle.clap.specs.Walk.{Row, Walk, finished, idle, nothing_held, rows_after, walk, walk_from, walked}
use Rattle.clap.specs.ValueTests.{is_unsigned_in}
use Rattle.clap.proofs.OnLiterals.{clap_on_literals}
use Rattle.cli_words.specs.Ide.{ide_app, why_app}
use Rattle.cli_words.specs.Words.{CommandRequest, IsName, command_asked, subcommand_asked, asks_both, number_of, why}
use Rattle.cli_words.proofs.Forms.{words_reading, taken}
use Rattle.cli_words.proofs.Generate.{given_row, level_rests, no_more, one_step, one_word, rest_fault, walk_on}
use Rattle.cli_words.proofs.Numbers.{decimal_is_name, decimal_passes, decimal_is_read}

-- ---- the level of `why`

abbrev why_level : Shape
why_level = built_leaf (inherited (on_top with_leaf_noted (on_top marked_built ide_app)).top why_app.top)

-- after each of the three words
abbrev after_topology : Text → Walk
after_topology a = record {
  held = record { rows = []; pending = Some (codes "TOPOLOGY", a ∷ []); skip = 0 };
  waiting = idle;
  position = 2;
  is_trailing = false;
  stopped = None;
}

abbrev after_script : (a b : Text) → Walk
after_script a b = record {
  held = record {
    rows = given_row (codes "TOPOLOGY") a ∷ [];
    pending = Some (codes "SCRIPT", b ∷ []);
    skip = 0;
  };
  waiting = idle;
  position = 3;
  is_trailing = false;
  stopped = None;
}

abbrev after_number : (a b c : Text) → Walk
after_number a b c = record {
  held = record {
    rows = given_row (codes "TOPOLOGY") a ∷ given_row (codes "SCRIPT") b ∷ [];
    pending = Some (codes "N", c ∷ []);
    skip = 0;
  };
  waiting = idle;
  position = 4;
  is_trailing = false;
  stopped = None;
}

topology_moves : (x : ℕ) (xs : Text) → (x == 45) ≡ false
    → walked why_level.rules [] (walk_from nothing_held) (x ∷ xs) ≡ after_topology (x ∷ xs)
unfolding clap_on_literals
topology_moves x xs e = simp e

topology_taken : (x : ℕ) (xs : Text) → (x == 45) ≡ false
    → turn_fault why_level [] (walk_from nothing_held) (x ∷ xs) ≡ []
unfolding clap_on_literals
topology_taken x xs e = simp e

script_moves : (a : Text) (y : ℕ) (ys : Text) → (y == 45) ≡ false
    → walked why_level.rules [] (after_topology a) (y ∷ ys) ≡ after_script a (y ∷ ys)
unfolding clap_on_literals
script_moves a y ys f = simp f

script_taken : (a : Text) (y : ℕ) (ys : Text) → (y == 45) ≡ false
    → turn_fault why_level [] (after_topology a) (y ∷ ys) ≡ []
unfolding clap_on_literals
script_taken a y ys f = simp f

number_moves : (a b : Text) (z : ℕ) (zs : Text) → (z == 45) ≡ false
    → walked why_level.rules [] (after_script a b) (z ∷ zs) ≡ after_number a b (z ∷ zs)
unfolding clap_on_literals
number_moves a b z zs g = simp g

number_taken : (a b : Text) (z : ℕ) (zs : Text) → (z == 45) ≡ false
    → turn_fault why_level [] (after_script a b) (z ∷ zs) ≡ []
unfolding clap_on_literals
number_taken a b z zs g = simp g

words_moved : (x y z : ℕ) (xs ys zs : Text) → (x == 45) ≡ false → (y == 45) ≡ false → (z == 45) ≡ false
    → walk why_level.rules [] nothing_held ((x ∷ xs) ∷ (y ∷ ys) ∷ (z ∷ zs) ∷ [])
    ≡ walk_on why_level.rules [] (after_number (x ∷ xs) (y ∷ ys) (z ∷ zs)) []
words_moved x y z xs ys zs e f g =
    one_step why_level [] (walk_from nothing_held) (after_topology (x ∷ xs)) (x ∷ xs) ((y ∷ ys) ∷ (z ∷ zs) ∷ [])
    (topology_moves x xs e)
    ∙ one_step why_level [] (after_topology (x ∷ xs)) (after_script (x ∷ xs) (y ∷ ys)) (y ∷ ys) ((z ∷ zs) ∷ [])
    (script_moves (x ∷ xs) y ys f)
    ∙ one_step why_level [] (after_script (x ∷ xs) (y ∷ ys)) (after_number (x ∷ xs) (y ∷ ys) (z ∷ zs)) (z ∷ zs) []
    (number_moves (x ∷ xs) (y ∷ ys) z zs g)

words_taken : (x y z : ℕ) (xs ys zs : Text) → (x == 45) ≡ false → (y == 45) ≡ false → (z == 45) ≡ false
    → walk_fault why_level [] (walk_from nothing_held) ((x ∷ xs) ∷ (y ∷ ys) ∷ (z ∷ zs) ∷ [])
    ≡ walk_fault why_level [] (after_number (x ∷ xs) (y ∷ ys) (z ∷ zs)) []
words_taken x y z xs ys zs e f g =
    one_word why_level [] (walk_from nothing_held) (after_topology (x ∷ xs)) (x ∷ xs) ((y ∷ ys) ∷ (z ∷ zs) ∷ [])
    (topology_taken x xs e) (topology_moves x xs e)
    ∙ one_word why_level [] (after_topology (x ∷ xs)) (after_script (x ∷ xs) (y ∷ ys)) (y ∷ ys) ((z ∷ zs) ∷ [])
    (script_taken (x ∷ xs) y ys f) (script_moves (x ∷ xs) y ys f)
    ∙ one_word why_level [] (after_script (x ∷ xs) (y ∷ ys)) (after_number (x ∷ xs) (y ∷ ys) (z ∷ zs)) (z ∷ zs) []
    (number_taken (x ∷ xs) (y ∷ ys) z zs g) (number_moves (x ∷ xs) (y ∷ ys) z zs g)

number_passes : (a b c : Text) → is_unsigned_in 1 67108864 c ≡ true
    → rest_fault why_level [] (after_number a b c) [] ≡ []
unfolding clap_on_literals
number_passes a b c number = simp number

-- the rows of the level
abbrev rows_read : (a b c : Text) → List Row
rows_read a b c = finished why_level.rules (walk_on why_level.rules [] (after_number a b c) []).held

-- what rows of `why` ask for, and whether they ask for two texts
abbrev read_of : List Row → CommandRequest × Bool
read_of rows = (subcommand_asked (Some (codes "why", rows)), asks_both (Some (codes "why", rows)))

why_read : (a b c : Text) → read_of (rows_read a b c) ≡ (why a b (number_of 1 67108864 c), false)
unfolding clap_on_literals
why_read a b c = refl

-- ---- the whole command

enters : (p a b c : Text) → fault_of ide_app (p ∷ codes "why" ∷ a ∷ b ∷ c ∷ [])
    ≡ or_else (level_fault why_level [] nothing_held (a ∷ b ∷ c ∷ []) false []) []
unfolding clap_on_literals
enters p a b c = refl

meets : (p a b c : Text) → subcommand_of ide_app (p ∷ codes "why" ∷ a ∷ b ∷ c ∷ [])
    ≡ Some (codes "why", rows_after why_level.rules [] (a ∷ b ∷ c ∷ []))
unfolding clap_on_literals
meets p a b c = refl

-- the words are read by the rows of the level
read_at_level : (words : List Text) (rows known : List Row) (a : CommandRequest × Bool)
    → subcommand_of ide_app words ≡ Some (codes "why", rows) → rows ≡ known → read_of known ≡ a → words_reading words
    ≡ a
read_at_level words rows known a met same reads = rw (met, same) reads

why_text : (p a b c : Text) → IsName a → IsName b → IsName c → is_unsigned_in 1 67108864 c ≡ true
    → command_asked (p ∷ codes "why" ∷ a ∷ b ∷ c ∷ []) ≡ Some (why a b (number_of 1 67108864 c))
why_text p [] b c h i j number = absurd h
why_text p (x ∷ xs) [] c h i j number = absurd i
why_text p (x ∷ xs) (y ∷ ys) [] h i j number = absurd j
why_text p (x ∷ xs) (y ∷ ys) (z ∷ zs) e f g number =
    let a : Text = x ∷ xs in
    let b : Text = y ∷ ys in
    let c : Text = z ∷ zs in
    taken (p ∷ codes "why" ∷ a ∷ b ∷ c ∷ []) (why a b (number_of 1 67108864 c))
    (enters p a b c ∙ no_more _
    ∙ level_rests why_level (a ∷ b ∷ c ∷ []) [] (after_number a b c) (words_taken x y z xs ys zs e f g)
    (words_moved x y z xs ys zs e f g) ∙ number_passes a b c number)
    (read_at_level (p ∷ codes "why" ∷ a ∷ b ∷ c ∷ []) (rows_after why_level.rules [] (a ∷ b ∷ c ∷ []))
    (rows_read a b c) (why a b (number_of 1 67108864 c), false) (meets p a b c)
    (ap (λ w. finished why_level.rules w.held) (words_moved x y z xs ys zs e f g)) (why_read a b c))

pub why_form : (p a b : Text) (n : ℕ) → IsName a → IsName b → 1 ≤ n → n ≤ 67108864
    → command_asked (p ∷ codes "why" ∷ a ∷ b ∷ decimal n ∷ []) ≡ Some (why a b n)
why_form p a b n h i least most =
    let wide : n < 2 ^ 64 = omega arith in
    why_text p a b (decimal n) h i (decimal_is_name n wide) (decimal_passes 1 67108864 n wide least most)
    ∙ ap (λ (k : ℕ). Some (why a b k)) (decimal_is_read 1 67108864 n wide least most)
