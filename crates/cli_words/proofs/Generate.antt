-- The forms of `generate`, by the walk over the words of its own level: the two numbers, and what comes after them.
use Rattle.std.proofs.Common.{◌≡◌, ◌∙◌, ◌==◌, ◌<◌, ◌≤◌, ◌^◌, ◌∷◌, ℕ, List, [], Bool, true, false, Some, None, refl}
use Rattle.std.proofs.Common.{codes, arith, ap, fold, if◌then◌else◌}
use Rattle.std.specs.Fmt.{decimal}
use Rattle.clap.specs.Faults.{check_fault, defaults_fault, level_fault, settle_fault, turn_fault, walk_fault}
use Rattle.clap.specs.Kinds.{Kinds, or_else}
use Rattle.clap.specs.Simple.{built_leaf, inherited, marked_built, on_top, with_leaf_noted}
use Rattle.clap.specs.Words.{Shape, Text, fault_of, subcommand_of}
use Rattle.clap.specs.Walk.{Names, Row, Rule, Walk, finished, idle, is_empty, nothing_held, rows_after, settled, walk}
use Rattle.clap.specs.Walk.{walk_from, walked}
use Rattle.clap.proofs.OnLiterals.{clap_on_literals}
use Rattle.cli_words.specs.Ide.{generate_app, ide_app}
use Rattle.clap.specs.ValueTests.{is_unsigned_in}
use Rattle.cli_words.specs.Words.{CommandRequest, IsName, command_asked, subcommand_asked, asks_both, number_of}
use Rattle.cli_words.specs.Words.{generate, generate_script, generate_topology}
use Rattle.cli_words.proofs.Numbers.{decimal_is_name, decimal_passes, decimal_is_read}
use Rattle.cli_words.proofs.Forms.{words_reading, refused_anyway, taken}
use Rattle.clap.specs.declared.builder.value_parser.Reading.TheVariants as how
use Rattle.clap.specs.declared.parser.matches.ValueSource.TheVariants.{CommandLine}

-- ---- any walk, one word on

-- a word that is taken leads the walk on
pub one_word : (s : Shape) (names : Names) (w next : Walk) (word : Text) (rest : List Text)
    → turn_fault s names w word ≡ [] → walked s.rules names w word ≡ next
    → walk_fault s names w (word ∷ rest) ≡ walk_fault s names next rest
unfolding walk_fault
one_word s names w next word rest taken moved = rw (taken, moved) refl

-- the walk as it goes on from here
abbrev pub walk_on : List Rule → Names → Walk → List Text → Walk
walk_on rules names w words = fold (walked rules names) w words

pub one_step : (s : Shape) (names : Names) (w next : Walk) (word : Text) (rest : List Text)
    → walked s.rules names w word ≡ next → walk_on s.rules names w (word ∷ rest) ≡ walk_on s.rules names next rest
one_step s names w next word rest moved = ap (λ n. walk_on s.rules names n rest) moved

-- what is refused from here on, of a level with no subcommand
abbrev pub rest_fault : Shape → Names → Walk → List Text → Kinds
rest_fault s names w words =
    let end = (walk_on s.rules names w words).held in
    or_else (walk_fault s names w words) (or_else (settle_fault s.rules s.args_override_self end)
    (or_else (defaults_fault (settled s.rules end).rows s.rules) (check_fault s (finished s.rules end) false)))

pub level_rests : (s : Shape) (words rest : List Text) (w : Walk)
    → walk_fault s [] (walk_from nothing_held) words ≡ walk_fault s [] w rest
    → walk s.rules [] nothing_held words ≡ walk_on s.rules [] w rest
    → level_fault s [] nothing_held words false [] ≡ rest_fault s [] w rest
level_rests s words rest w faults moved = rw (faults, moved) refl

pub no_more : (faults : Kinds) → or_else faults [] ≡ faults
no_more [] = refl
no_more (k ∷ ks) = refl

-- ---- the level of `generate`

abbrev generate_level : Shape
generate_level = built_leaf (inherited (on_top with_leaf_noted (on_top marked_built ide_app)).top generate_app.top)

-- an argument that was given
abbrev pub given_row : (id text : Text) → Row
given_row id text =
    record { id = id; values = text ∷ []; count = None; source = Some CommandLine; reading = how.AsWritten }

-- after the seed, and after both numbers
abbrev after_seed : Text → Walk
after_seed a = record {
  held = record { rows = []; pending = Some (codes "SEED", a ∷ []); skip = 0 };
  waiting = idle;
  position = 2;
  is_trailing = false;
  stopped = None;
}

abbrev after_numbers : (a b : Text) → Walk
after_numbers a b = record {
  held = record {
    rows = given_row (codes "SEED") a ∷ [];
    pending = Some (codes "COUNT", b ∷ []);
    skip = 0;
  };
  waiting = idle;
  position = 3;
  is_trailing = false;
  stopped = None;
}

seed_moves : (x : ℕ) (xs : Text) → (x == 45) ≡ false
    → walked generate_level.rules [] (walk_from nothing_held) (x ∷ xs) ≡ after_seed (x ∷ xs)
unfolding clap_on_literals
seed_moves x xs e = simp e

seed_taken : (x : ℕ) (xs : Text) → (x == 45) ≡ false
    → turn_fault generate_level [] (walk_from nothing_held) (x ∷ xs) ≡ []
unfolding clap_on_literals
seed_taken x xs e = simp e

count_moves : (a : Text) (y : ℕ) (ys : Text) → (y == 45) ≡ false
    → walked generate_level.rules [] (after_seed a) (y ∷ ys) ≡ after_numbers a (y ∷ ys)
unfolding clap_on_literals
count_moves a y ys f = simp f

count_taken : (a : Text) (y : ℕ) (ys : Text) → (y == 45) ≡ false → is_unsigned_in 0 4294967295 a ≡ true
    → turn_fault generate_level [] (after_seed a) (y ∷ ys) ≡ []
unfolding clap_on_literals
count_taken a y ys f seed = simp (f, seed)

-- both numbers are names that pass
abbrev ArePassed : (a b : Text) → Type 0
ArePassed a b = (is_unsigned_in 0 4294967295 a ≡ true) × (is_unsigned_in 1 100000 b ≡ true)

numbers_moved : (a b : Text) (rest : List Text) → IsName a → IsName b
    → walk generate_level.rules [] nothing_held (a ∷ b ∷ rest)
    ≡ walk_on generate_level.rules [] (after_numbers a b) rest
numbers_moved [] b rest h i = absurd h
numbers_moved (x ∷ xs) [] rest h i = absurd i
numbers_moved (x ∷ xs) (y ∷ ys) rest e f =
    one_step generate_level [] (walk_from nothing_held) (after_seed (x ∷ xs)) (x ∷ xs) ((y ∷ ys) ∷ rest)
    (seed_moves x xs e)
    ∙ one_step generate_level [] (after_seed (x ∷ xs)) (after_numbers (x ∷ xs) (y ∷ ys)) (y ∷ ys) rest
    (count_moves (x ∷ xs) y ys f)

numbers_taken : (a b : Text) (rest : List Text) → IsName a → IsName b → is_unsigned_in 0 4294967295 a ≡ true
    → walk_fault generate_level [] (walk_from nothing_held) (a ∷ b ∷ rest)
    ≡ walk_fault generate_level [] (after_numbers a b) rest
numbers_taken [] b rest h i seed = absurd h
numbers_taken (x ∷ xs) [] rest h i seed = absurd i
numbers_taken (x ∷ xs) (y ∷ ys) rest e f seed =
    one_word generate_level [] (walk_from nothing_held) (after_seed (x ∷ xs)) (x ∷ xs) ((y ∷ ys) ∷ rest)
    (seed_taken x xs e) (seed_moves x xs e)
    ∙ one_word generate_level [] (after_seed (x ∷ xs)) (after_numbers (x ∷ xs) (y ∷ ys)) (y ∷ ys) rest
    (count_taken (x ∷ xs) y ys f seed) (count_moves (x ∷ xs) y ys f)

level_passes : (a b : Text) (rest : List Text) → IsName a → IsName b → is_unsigned_in 0 4294967295 a ≡ true
    → rest_fault generate_level [] (after_numbers a b) rest ≡ []
    → level_fault generate_level [] nothing_held (a ∷ b ∷ rest) false [] ≡ []
level_passes a b rest h i seed passes =
    level_rests generate_level (a ∷ b ∷ rest) rest (after_numbers a b) (numbers_taken a b rest h i seed)
    (numbers_moved a b rest h i)
    ∙ passes

-- the rows of the level
abbrev rows_read : (a b : Text) → List Text → List Row
rows_read a b rest = finished generate_level.rules (walk_on generate_level.rules [] (after_numbers a b) rest).held

level_reads : (a b : Text) (rest : List Text) → IsName a → IsName b
    → rows_after generate_level.rules [] (a ∷ b ∷ rest) ≡ rows_read a b rest
level_reads a b rest h i = ap (λ w. finished generate_level.rules w.held) (numbers_moved a b rest h i)

-- ---- what comes after the numbers

totals_pass : (a b : Text) → is_unsigned_in 1 100000 b ≡ true → rest_fault generate_level [] (after_numbers a b) [] ≡ []
unfolding clap_on_literals
totals_pass a b count = simp count

script_passes : (a b : Text) → is_unsigned_in 1 100000 b ≡ true
    → rest_fault generate_level [] (after_numbers a b) (codes "--script" ∷ []) ≡ []
unfolding clap_on_literals
script_passes a b count = simp count

topology_passes : (a b : Text) → is_unsigned_in 1 100000 b ≡ true
    → rest_fault generate_level [] (after_numbers a b) (codes "--topology" ∷ []) ≡ []
unfolding clap_on_literals
topology_passes a b count = simp count

-- the numbers as they are read
abbrev numbers_read : {T : Type 0} → (ℕ → ℕ → T) → (a b : Text) → T
numbers_read f a b = f (number_of 0 4294967295 a) (number_of 1 100000 b)

-- what rows of `generate` ask for, and whether they ask for two texts
abbrev read_of : List Row → CommandRequest × Bool
read_of rows = (subcommand_asked (Some (codes "generate", rows)), asks_both (Some (codes "generate", rows)))

totals_read : (a b : Text) → read_of (rows_read a b []) ≡ (numbers_read generate a b, false)
unfolding clap_on_literals
totals_read a b = refl

script_reads : (a b : Text) → read_of (rows_read a b (codes "--script" ∷ []))
    ≡ (numbers_read generate_script a b, false)
unfolding clap_on_literals
script_reads a b = refl

topology_reads : (a b : Text)
    → read_of (rows_read a b (codes "--topology" ∷ [])) ≡ (numbers_read generate_topology a b, false)
unfolding clap_on_literals
topology_reads a b = refl

both_read : (a b : Text) → (read_of (rows_read a b (codes "--script" ∷ codes "--topology" ∷ []))).1 ≡ true
unfolding clap_on_literals
both_read a b = refl

-- ---- the whole command

enters_two : (p a b : Text) → fault_of ide_app (p ∷ codes "generate" ∷ a ∷ b ∷ [])
    ≡ or_else (level_fault generate_level [] nothing_held (a ∷ b ∷ []) false []) []
unfolding clap_on_literals
enters_two p a b = refl

enters_three : (p a b c : Text) → fault_of ide_app (p ∷ codes "generate" ∷ a ∷ b ∷ c ∷ [])
    ≡ or_else (level_fault generate_level [] nothing_held (a ∷ b ∷ c ∷ []) false []) []
unfolding clap_on_literals
enters_three p a b c = refl

meets_two : (p a b : Text) → subcommand_of ide_app (p ∷ codes "generate" ∷ a ∷ b ∷ [])
    ≡ Some (codes "generate", rows_after generate_level.rules [] (a ∷ b ∷ []))
unfolding clap_on_literals
meets_two p a b = refl

meets_three : (p a b c : Text) → subcommand_of ide_app (p ∷ codes "generate" ∷ a ∷ b ∷ c ∷ [])
    ≡ Some (codes "generate", rows_after generate_level.rules [] (a ∷ b ∷ c ∷ []))
unfolding clap_on_literals
meets_three p a b c = refl

meets_four : (p a b c d : Text) → subcommand_of ide_app (p ∷ codes "generate" ∷ a ∷ b ∷ c ∷ d ∷ [])
    ≡ Some (codes "generate", rows_after generate_level.rules [] (a ∷ b ∷ c ∷ d ∷ []))
unfolding clap_on_literals
meets_four p a b c d = refl

three_pass : (p a b c : Text) → IsName a → IsName b → is_unsigned_in 0 4294967295 a ≡ true
    → rest_fault generate_level [] (after_numbers a b) (c ∷ []) ≡ []
    → fault_of ide_app (p ∷ codes "generate" ∷ a ∷ b ∷ c ∷ []) ≡ []
three_pass p a b c h i seed passes = enters_three p a b c ∙ no_more _ ∙ level_passes a b (c ∷ []) h i seed passes

-- the words are read by the rows of the level
read_at_level : (words : List Text) (rows known : List Row) (a : CommandRequest × Bool)
    → subcommand_of ide_app words ≡ Some (codes "generate", rows) → rows ≡ known → read_of known ≡ a
    → words_reading words ≡ a
read_at_level words rows known a meets same reads = rw (meets, same) reads

three_read : (p a b c : Text) (r : CommandRequest × Bool) → IsName a → IsName b → read_of (rows_read a b (c ∷ [])) ≡ r
    → words_reading (p ∷ codes "generate" ∷ a ∷ b ∷ c ∷ []) ≡ r
three_read p a b c r h i reads =
    read_at_level (p ∷ codes "generate" ∷ a ∷ b ∷ c ∷ []) (rows_after generate_level.rules [] (a ∷ b ∷ c ∷ []))
    (rows_read a b (c ∷ [])) r (meets_three p a b c) (level_reads a b (c ∷ []) h i) reads

-- the words of a seed and a count, and what comes after them
abbrev generate_words : Text → (a b : Text) → List Text → List Text
generate_words p a b rest = p ∷ codes "generate" ∷ a ∷ b ∷ rest

totals_text : (p a b : Text) → IsName a → IsName b → ArePassed a b
    → command_asked (generate_words p a b []) ≡ Some (numbers_read generate a b)
totals_text p a b h i passed =
    taken (generate_words p a b []) (numbers_read generate a b)
    (enters_two p a b ∙ no_more _ ∙ level_passes a b [] h i passed.0 (totals_pass a b passed.1))
    (read_at_level (generate_words p a b []) (rows_after generate_level.rules [] (a ∷ b ∷ [])) (rows_read a b [])
    (numbers_read generate a b, false) (meets_two p a b) (level_reads a b [] h i) (totals_read a b))

script_text : (p a b : Text) → IsName a → IsName b → ArePassed a b
    → command_asked (generate_words p a b (codes "--script" ∷ [])) ≡ Some (numbers_read generate_script a b)
script_text p a b h i passed =
    taken (generate_words p a b (codes "--script" ∷ [])) (numbers_read generate_script a b)
    (three_pass p a b (codes "--script") h i passed.0 (script_passes a b passed.1))
    (three_read p a b (codes "--script") (numbers_read generate_script a b, false) h i (script_reads a b))

topology_text : (p a b : Text) → IsName a → IsName b → ArePassed a b
    → command_asked (generate_words p a b (codes "--topology" ∷ [])) ≡ Some (numbers_read generate_topology a b)
topology_text p a b h i passed =
    taken (generate_words p a b (codes "--topology" ∷ [])) (numbers_read generate_topology a b)
    (three_pass p a b (codes "--topology") h i passed.0 (topology_passes a b passed.1))
    (three_read p a b (codes "--topology") (numbers_read generate_topology a b, false) h i (topology_reads a b))

-- ---- the numbers in decimal digits

-- they are names that pass, and are read as they are
record AreDecimal (seed count : ℕ) : Type 0 where
  seed_name : IsName (decimal seed)
  count_name : IsName (decimal count)
  passed : ArePassed (decimal seed) (decimal count)
  seed_read : number_of 0 4294967295 (decimal seed) ≡ seed
  count_read : number_of 1 100000 (decimal count) ≡ count

are_decimal : (seed count : ℕ) → seed < 2 ^ 32 → 1 ≤ count → count ≤ 100000 → AreDecimal seed count
are_decimal seed count narrow least most =
    let wide_seed : seed < 2 ^ 64 = omega arith in
    let wide_count : count < 2 ^ 64 = omega arith in
    record {
      seed_name = decimal_is_name seed wide_seed;
      count_name = decimal_is_name count wide_count;
      passed = (
        decimal_passes 0 4294967295 seed wide_seed (omega arith) (omega arith),
        decimal_passes 1 100000 count wide_count least most,
      );
      seed_read = decimal_is_read 0 4294967295 seed wide_seed (omega arith) (omega arith);
      count_read = decimal_is_read 1 100000 count wide_count least most;
    }

same_numbers : (f : ℕ → ℕ → CommandRequest) (a b c d : ℕ) → a ≡ c → b ≡ d → Some (f a b) ≡ Some (f c d)
same_numbers f a b c d e g = rw (e, g) refl

-- a form that reads its texts as numbers
read_as : (f : ℕ → ℕ → CommandRequest) (p : Text) (rest : List Text)
    → ((a b : Text) → IsName a → IsName b → ArePassed a b
    → command_asked (generate_words p a b rest) ≡ Some (numbers_read f a b))
    → (seed count : ℕ) → seed < 2 ^ 32 → 1 ≤ count → count ≤ 100000
    → command_asked (generate_words p (decimal seed) (decimal count) rest) ≡ Some (f seed count)
read_as f p rest texts seed count narrow least most =
    let d = are_decimal seed count narrow least most in
    texts (decimal seed) (decimal count) d.seed_name d.count_name d.passed
    ∙ same_numbers f _ _ _ _ d.seed_read d.count_read

pub generate_form : (p : Text) (seed count : ℕ) → seed < 2 ^ 32 → 1 ≤ count → count ≤ 100000
    → command_asked (p ∷ codes "generate" ∷ decimal seed ∷ decimal count ∷ []) ≡ Some (generate seed count)
generate_form p = read_as generate p [] (totals_text p)

pub script_form : (p : Text) (seed count : ℕ) → seed < 2 ^ 32 → 1 ≤ count → count ≤ 100000
    → command_asked (p ∷ codes "generate" ∷ decimal seed ∷ decimal count ∷ codes "--script" ∷ [])
    ≡ Some (generate_script seed count)
script_form p = read_as generate_script p (codes "--script" ∷ []) (script_text p)

pub topology_form : (p : Text) (seed count : ℕ) → seed < 2 ^ 32 → 1 ≤ count → count ≤ 100000
    → command_asked (p ∷ codes "generate" ∷ decimal seed ∷ decimal count ∷ codes "--topology" ∷ [])
    ≡ Some (generate_topology seed count)
topology_form p = read_as generate_topology p (codes "--topology" ∷ []) (topology_text p)

-- ---- both flags

pub both_flags : (p a b : Text) → IsName a → IsName b
    → command_asked (p ∷ codes "generate" ∷ a ∷ b ∷ codes "--script" ∷ codes "--topology" ∷ []) ≡ None
both_flags p a b h i =
    let words : List Text = generate_words p a b (codes "--script" ∷ codes "--topology" ∷ []) in
    let both : asks_both (subcommand_of ide_app words) ≡ true =
    rw (
      meets_four p a b (codes "--script") (codes "--topology"),
      level_reads a b (codes "--script" ∷ codes "--topology" ∷ []) h i,
    ) (both_read a b) in
    refused_anyway words (is_empty (fault_of ide_app words)) (asks_both (subcommand_of ide_app words)) both
