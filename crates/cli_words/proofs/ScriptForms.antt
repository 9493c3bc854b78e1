-- The forms of the commands that run a script, by the walk over the words of their own level: two or three names, and a
-- flag behind them or none.
use Rattle.std.proofs.Common.{◌≡◌, ◌∙◌, ◌==◌, ◌∷◌, ℕ, List, [], Bool, true, false, Some, None, refl, codes, ap}
use Rattle.clap.specs.Faults.{level_fault, turn_fault, walk_fault}
use Rattle.clap.specs.Kinds.{or_else}
use Rattle.clap.specs.Simple.{built_leaf, inherited, marked_built, on_top, with_leaf_noted}
use Rattle.clap.specs.Words.{App, Shape, Text, fault_of, subcommand_of}
use Rattle.clap.specs.Walk.{Row, Walk, finished, idle, nothing_held, rows_after, walk, walk_from, walked}
use Rattle.clap.proofs.OnLiterals.{clap_on_literals}
use Rattle.cli_words.specs.Ide.{cover_app, ide_app, judge_app, run_app}
use Rattle.cli_words.specs.Words.{
  CommandRequest,
  IsName,
  command_asked,
  subcommand_asked,
  asks_both,
  cover,
  cover_events,
}
use Rattle.cli_words.specs.Words.{judge, judge_all, run, run_packets}
use Rattle.cli_words.proofs.Forms.{words_reading, taken}
use Rattle.cli_words.proofs.Generate.{given_row, level_rests, no_more, one_step, one_word, rest_fault, walk_on}

-- ---- any level that begins with a topology and a script

abbrev level_of : App → Shape
level_of app = built_leaf (inherited (on_top with_leaf_noted (on_top marked_built ide_app)).top app.top)

abbrev after_topology : Text → Walk
after_topology a = record {
  held = record { rows = []; pending = Some (codes "TOPOLOGY", a ∷ []); skip = 0 };
  waiting = idle;
  position = 2;
  is_trailing = false;
  stopped = None;
}

abbrev after_script : (a b : Text) → Walk
after_script a b = record {
  held = record {
    rows = given_row (codes "TOPOLOGY") a ∷ [];
    pending = Some (codes "SCRIPT", b ∷ []);
    skip = 0;
  };
  waiting = idle;
  position = 3;
  is_trailing = false;
  stopped = None;
}

-- it takes a topology and a script first
record TakesTwo (level : Shape) : Type 0 where
  topology_moves : (x : ℕ) (xs : Text) → (x == 45) ≡ false
      → walked level.rules [] (walk_from nothing_held) (x ∷ xs) ≡ after_topology (x ∷ xs)
  topology_taken : (x : ℕ) (xs : Text) → (x == 45) ≡ false
      → turn_fault level [] (walk_from nothing_held) (x ∷ xs) ≡ []
  script_moves : (a : Text) (y : ℕ) (ys : Text) → (y == 45) ≡ false
      → walked level.rules [] (after_topology a) (y ∷ ys) ≡ after_script a (y ∷ ys)
  script_taken : (a : Text) (y : ℕ) (ys : Text) → (y == 45) ≡ false
      → turn_fault level [] (after_topology a) (y ∷ ys) ≡ []

two_moved : (level : Shape) → TakesTwo level → (a b : Text) (rest : List Text) → IsName a → IsName b
    → walk level.rules [] nothing_held (a ∷ b ∷ rest) ≡ walk_on level.rules [] (after_script a b) rest
two_moved level takes [] b rest h i = absurd h
two_moved level takes (x ∷ xs) [] rest h i = absurd i
two_moved level takes (x ∷ xs) (y ∷ ys) rest e f =
    one_step level [] (walk_from nothing_held) (after_topology (x ∷ xs)) (x ∷ xs) ((y ∷ ys) ∷ rest)
    (takes.topology_moves x xs e)
    ∙ one_step level [] (after_topology (x ∷ xs)) (after_script (x ∷ xs) (y ∷ ys)) (y ∷ ys) rest
    (takes.script_moves (x ∷ xs) y ys f)

two_taken : (level : Shape) → TakesTwo level → (a b : Text) (rest : List Text) → IsName a → IsName b
    → walk_fault level [] (walk_from nothing_held) (a ∷ b ∷ rest) ≡ walk_fault level [] (after_script a b) rest
two_taken level takes [] b rest h i = absurd h
two_taken level takes (x ∷ xs) [] rest h i = absurd i
two_taken level takes (x ∷ xs) (y ∷ ys) rest e f =
    one_word level [] (walk_from nothing_held) (after_topology (x ∷ xs)) (x ∷ xs) ((y ∷ ys) ∷ rest)
    (takes.topology_taken x xs e) (takes.topology_moves x xs e)
    ∙ one_word level [] (after_topology (x ∷ xs)) (after_script (x ∷ xs) (y ∷ ys)) (y ∷ ys) rest
    (takes.script_taken (x ∷ xs) y ys f) (takes.script_moves (x ∷ xs) y ys f)

-- the rows of a level, after a topology and a script
abbrev rows_of_two : Shape → (a b : Text) → List Text → List Row
rows_of_two level a b rest = finished level.rules (walk_on level.rules [] (after_script a b) rest).held

-- what rows ask for, and whether they ask for two texts
abbrev read_of : Text → List Row → CommandRequest × Bool
read_of name rows = (subcommand_asked (Some (name, rows)), asks_both (Some (name, rows)))

-- the words are read by the rows of the level
read_at_level : (name : Text) (words : List Text) (rows known : List Row) (a : CommandRequest × Bool)
    → subcommand_of ide_app words ≡ Some (name, rows) → rows ≡ known → read_of name known ≡ a
    → words_reading words ≡ a
read_at_level name words rows known a met same reads = rw (met, same) reads

form_of_two : (level : Shape) (name p a b : Text) (rest : List Text) (asked : CommandRequest) → TakesTwo level
    → IsName a → IsName b → fault_of ide_app (p ∷ name ∷ a ∷ b ∷ rest)
    ≡ or_else (level_fault level [] nothing_held (a ∷ b ∷ rest) false []) []
    → subcommand_of ide_app (p ∷ name ∷ a ∷ b ∷ rest) ≡ Some (name, rows_after level.rules [] (a ∷ b ∷ rest))
    → rest_fault level [] (after_script a b) rest ≡ [] → read_of name (rows_of_two level a b rest) ≡ (asked, false)
    → command_asked (p ∷ name ∷ a ∷ b ∷ rest) ≡ Some asked
form_of_two level name p a b rest asked takes h i enters meets passes reads =
    taken (p ∷ name ∷ a ∷ b ∷ rest) asked
    (enters ∙ no_more _
    ∙ level_rests level (a ∷ b ∷ rest) rest (after_script a b) (two_taken level takes a b rest h i)
    (two_moved level takes a b rest h i) ∙ passes)
    (read_at_level name (p ∷ name ∷ a ∷ b ∷ rest) (rows_after level.rules [] (a ∷ b ∷ rest))
    (rows_of_two level a b rest) (asked, false) meets
    (ap (λ w. finished level.rules w.held) (two_moved level takes a b rest h i)) reads)

-- ---- `run`

abbrev run_level : Shape
run_level = level_of run_app

run_takes : TakesTwo run_level
unfolding clap_on_literals
run_takes = record {
  topology_moves = λ x xs e. simp e;
  topology_taken = λ x xs e. simp e;
  script_moves = λ a y ys f. simp f;
  script_taken = λ a y ys f. simp f;
}

run_passes : (a b : Text) → rest_fault run_level [] (after_script a b) [] ≡ []
unfolding clap_on_literals
run_passes a b = refl

run_packets_passes : (a b : Text) → rest_fault run_level [] (after_script a b) (codes "--packets" ∷ []) ≡ []
unfolding clap_on_literals
run_packets_passes a b = refl

run_reads : (a b : Text) → read_of (codes "run") (rows_of_two run_level a b []) ≡ (run a b, false)
unfolding clap_on_literals
run_reads a b = refl

run_packets_reads : (a b : Text) → read_of (codes "run") (rows_of_two run_level a b (codes "--packets" ∷ []))
    ≡ (run_packets a b, false)
unfolding clap_on_literals
run_packets_reads a b = refl

run_enters : (p a b : Text) → fault_of ide_app (p ∷ codes "run" ∷ a ∷ b ∷ [])
    ≡ or_else (level_fault run_level [] nothing_held (a ∷ b ∷ []) false []) []
unfolding clap_on_literals
run_enters p a b = refl

run_packets_enters : (p a b c : Text) → fault_of ide_app (p ∷ codes "run" ∷ a ∷ b ∷ c ∷ [])
    ≡ or_else (level_fault run_level [] nothing_held (a ∷ b ∷ c ∷ []) false []) []
unfolding clap_on_literals
run_packets_enters p a b c = refl

run_meets : (p a b : Text) → subcommand_of ide_app (p ∷ codes "run" ∷ a ∷ b ∷ [])
    ≡ Some (codes "run", rows_after run_level.rules [] (a ∷ b ∷ []))
unfolding clap_on_literals
run_meets p a b = refl

run_packets_meets : (p a b c : Text) → subcommand_of ide_app (p ∷ codes "run" ∷ a ∷ b ∷ c ∷ [])
    ≡ Some (codes "run", rows_after run_level.rules [] (a ∷ b ∷ c ∷ []))
unfolding clap_on_literals
run_packets_meets p a b c = refl

pub run_form : (p a b : Text) → IsName a → IsName b
    → command_asked (p ∷ codes "run" ∷ a ∷ b ∷ []) ≡ Some (run a b)
run_form p a b h i =
    form_of_two run_level (codes "run") p a b [] (run a b) run_takes h i (run_enters p a b)
    (run_meets p a b) (run_passes a b) (run_reads a b)

pub run_packets_form : (p a b : Text) → IsName a → IsName b
    → command_asked (p ∷ codes "run" ∷ a ∷ b ∷ codes "--packets" ∷ []) ≡ Some (run_packets a b)
run_packets_form p a b h i =
    form_of_two run_level (codes "run") p a b (codes "--packets" ∷ []) (run_packets a b) run_takes h i
    (run_packets_enters p a b (codes "--packets")) (run_packets_meets p a b (codes "--packets"))
    (run_packets_passes a b)
    (run_packets_reads a b)

-- ---- `cover`

abbrev cover_level : Shape
cover_level = level_of cover_app

cover_takes : TakesTwo cover_level
unfolding clap_on_literals
cover_takes = record {
  topology_moves = λ x xs e. simp e;
  topology_taken = λ x xs e. simp e;
  script_moves = λ a y ys f. simp f;
  script_taken = λ a y ys f. simp f;
}

cover_passes : (a b : Text) → rest_fault cover_level [] (after_script a b) [] ≡ []
unfolding clap_on_literals
cover_passes a b = refl

cover_events_passes : (a b : Text) → rest_fault cover_level [] (after_script a b) (codes "--events" ∷ []) ≡ []
unfolding clap_on_literals
cover_events_passes a b = refl

cover_reads : (a b : Text) → read_of (codes "cover") (rows_of_two cover_level a b []) ≡ (cover a b, false)
unfolding clap_on_literals
cover_reads a b = refl

cover_events_reads : (a b : Text) → read_of (codes "cover") (rows_of_two cover_level a b (codes "--events" ∷ []))
    ≡ (cover_events a b, false)
unfolding clap_on_literals
cover_events_reads a b = refl

cover_enters : (p a b : Text) → fault_of ide_app (p ∷ codes "cover" ∷ a ∷ b ∷ [])
    ≡ or_else (level_fault cover_level [] nothing_held (a ∷ b ∷ []) false []) []
unfolding clap_on_literals
cover_enters p a b = refl

cover_events_enters : (p a b c : Text) → fault_of ide_app (p ∷ codes "cover" ∷ a ∷ b ∷ c ∷ [])
    ≡ or_else (level_fault cover_level [] nothing_held (a ∷ b ∷ c ∷ []) false []) []
unfolding clap_on_literals
cover_events_enters p a b c = refl

cover_meets : (p a b : Text) → subcommand_of ide_app (p ∷ codes "cover" ∷ a ∷ b ∷ [])
    ≡ Some (codes "cover", rows_after cover_level.rules [] (a ∷ b ∷ []))
unfolding clap_on_literals
cover_meets p a b = refl

cover_events_meets : (p a b c : Text) → subcommand_of ide_app (p ∷ codes "cover" ∷ a ∷ b ∷ c ∷ [])
    ≡ Some (codes "cover", rows_after cover_level.rules [] (a ∷ b ∷ c ∷ []))
unfolding clap_on_literals
cover_events_meets p a b c = refl

pub cover_form : (p a b : Text) → IsName a → IsName b
    → command_asked (p ∷ codes "cover" ∷ a ∷ b ∷ []) ≡ Some (cover a b)
cover_form p a b h i =
    form_of_two cover_level (codes "cover") p a b [] (cover a b) cover_takes h i (cover_enters p a b)
    (cover_meets p a b) (cover_passes a b) (cover_reads a b)

pub cover_events_form : (p a b : Text) → IsName a → IsName b
    → command_asked (p ∷ codes "cover" ∷ a ∷ b ∷ codes "--events" ∷ []) ≡ Some (cover_events a b)
cover_events_form p a b h i =
    form_of_two cover_level (codes "cover") p a b (codes "--events" ∷ []) (cover_events a b) cover_takes h i
    (cover_events_enters p a b (codes "--events")) (cover_events_meets p a b (codes "--events"))
    (cover_events_passes a b)
    (cover_events_reads a b)

-- ---- `judge`

abbrev judge_level : Shape
judge_level = level_of judge_app

abbrev after_verdicts : (a b c : Text) → Walk
after_verdicts a b c = record {
  held = record {
    rows = given_row (codes "TOPOLOGY") a ∷ given_row (codes "SCRIPT") b ∷ [];
    pending = Some (codes "VERDICTS", c ∷ []);
    skip = 0;
  };
  waiting = idle;
  position = 4;
  is_trailing = false;
  stopped = None;
}

judge_takes : TakesTwo judge_level
unfolding clap_on_literals
judge_takes = record {
  topology_moves = λ x xs e. simp e;
  topology_taken = λ x xs e. simp e;
  script_moves = λ a y ys f. simp f;
  script_taken = λ a y ys f. simp f;
}

verdicts_move : (a b : Text) (z : ℕ) (zs : Text) → (z == 45) ≡ false
    → walked judge_level.rules [] (after_script a b) (z ∷ zs) ≡ after_verdicts a b (z ∷ zs)
unfolding clap_on_literals
verdicts_move a b z zs g = simp g

verdicts_taken : (a b : Text) (z : ℕ) (zs : Text) → (z == 45) ≡ false
    → turn_fault judge_level [] (after_script a b) (z ∷ zs) ≡ []
unfolding clap_on_literals
verdicts_taken a b z zs g = simp g

three_moved : (a b c : Text) (rest : List Text) → IsName a → IsName b → IsName c
    → walk judge_level.rules [] nothing_held (a ∷ b ∷ c ∷ rest)
    ≡ walk_on judge_level.rules [] (after_verdicts a b c) rest
three_moved a b [] rest h i j = absurd j
three_moved a b (z ∷ zs) rest h i g =
    two_moved judge_level judge_takes a b ((z ∷ zs) ∷ rest) h i
    ∙ one_step judge_level [] (after_script a b) (after_verdicts a b (z ∷ zs)) (z ∷ zs) rest (verdicts_move a b z zs g)

three_taken : (a b c : Text) (rest : List Text) → IsName a → IsName b → IsName c
    → walk_fault judge_level [] (walk_from nothing_held) (a ∷ b ∷ c ∷ rest)
    ≡ walk_fault judge_level [] (after_verdicts a b c) rest
three_taken a b [] rest h i j = absurd j
three_taken a b (z ∷ zs) rest h i g =
    two_taken judge_level judge_takes a b ((z ∷ zs) ∷ rest) h i
    ∙ one_word judge_level [] (after_script a b) (after_verdicts a b (z ∷ zs)) (z ∷ zs) rest
    (verdicts_taken a b z zs g) (verdicts_move a b z zs g)

abbrev rows_of_three : (a b c : Text) → List Text → List Row
rows_of_three a b c rest =
    finished judge_level.rules (walk_on judge_level.rules [] (after_verdicts a b c) rest).held

form_of_three : (p a b c : Text) (rest : List Text) (asked : CommandRequest) → IsName a → IsName b → IsName c
    → fault_of ide_app (p ∷ codes "judge" ∷ a ∷ b ∷ c ∷ rest)
    ≡ or_else (level_fault judge_level [] nothing_held (a ∷ b ∷ c ∷ rest) false []) []
    → subcommand_of ide_app (p ∷ codes "judge" ∷ a ∷ b ∷ c ∷ rest)
    ≡ Some (codes "judge", rows_after judge_level.rules [] (a ∷ b ∷ c ∷ rest))
    → rest_fault judge_level [] (after_verdicts a b c) rest ≡ []
    → read_of (codes "judge") (rows_of_three a b c rest) ≡ (asked, false)
    → command_asked (p ∷ codes "judge" ∷ a ∷ b ∷ c ∷ rest) ≡ Some asked
form_of_three p a b c rest asked h i j enters meets passes reads =
    taken (p ∷ codes "judge" ∷ a ∷ b ∷ c ∷ rest) asked
    (enters ∙ no_more _
    ∙ level_rests judge_level (a ∷ b ∷ c ∷ rest) rest (after_verdicts a b c) (three_taken a b c rest h i j)
    (three_moved a b c rest h i j) ∙ passes)
    (read_at_level (codes "judge") (p ∷ codes "judge" ∷ a ∷ b ∷ c ∷ rest)
    (rows_after judge_level.rules [] (a ∷ b ∷ c ∷ rest)) (rows_of_three a b c rest) (asked, false) meets
    (ap (λ w. finished judge_level.rules w.held) (three_moved a b c rest h i j)) reads)

judge_passes : (a b c : Text) → rest_fault judge_level [] (after_verdicts a b c) [] ≡ []
unfolding clap_on_literals
judge_passes a b c = refl

judge_all_passes : (a b c : Text) → rest_fault judge_level [] (after_verdicts a b c) (codes "--all" ∷ []) ≡ []
unfolding clap_on_literals
judge_all_passes a b c = refl

judge_reads : (a b c : Text) → read_of (codes "judge") (rows_of_three a b c []) ≡ (judge a b c, false)
unfolding clap_on_literals
judge_reads a b c = refl

judge_all_reads : (a b c : Text) → read_of (codes "judge") (rows_of_three a b c (codes "--all" ∷ []))
    ≡ (judge_all a b c, false)
unfolding clap_on_literals
judge_all_reads a b c = refl

judge_enters : (p a b c : Text) → fault_of ide_app (p ∷ codes "judge" ∷ a ∷ b ∷ c ∷ [])
    ≡ or_else (level_fault judge_level [] nothing_held (a ∷ b ∷ c ∷ []) false []) []
unfolding clap_on_literals
judge_enters p a b c = refl

judge_all_enters : (p a b c d : Text) → fault_of ide_app (p ∷ codes "judge" ∷ a ∷ b ∷ c ∷ d ∷ [])
    ≡ or_else (level_fault judge_level [] nothing_held (a ∷ b ∷ c ∷ d ∷ []) false []) []
unfolding clap_on_literals
judge_all_enters p a b c d = refl

judge_meets : (p a b c : Text) → subcommand_of ide_app (p ∷ codes "judge" ∷ a ∷ b ∷ c ∷ [])
    ≡ Some (codes "judge", rows_after judge_level.rules [] (a ∷ b ∷ c ∷ []))
unfolding clap_on_literals
judge_meets p a b c = refl

judge_all_meets : (p a b c d : Text) → subcommand_of ide_app (p ∷ codes "judge" ∷ a ∷ b ∷ c ∷ d ∷ [])
    ≡ Some (codes "judge", rows_after judge_level.rules [] (a ∷ b ∷ c ∷ d ∷ []))
unfolding clap_on_literals
judge_all_meets p a b c d = refl

pub judge_form : (p a b c : Text) → IsName a → IsName b → IsName c
    → command_asked (p ∷ codes "judge" ∷ a ∷ b ∷ c ∷ []) ≡ Some (judge a b c)
judge_form p a b c h i j =
    form_of_three p a b c [] (judge a b c) h i j (judge_enters p a b c) (judge_meets p a b c) (judge_passes a b c)
    (judge_reads a b c)

pub judge_all_form : (p a b c : Text) → IsName a → IsName b → IsName c
    → command_asked (p ∷ codes "judge" ∷ a ∷ b ∷ c ∷ codes "--all" ∷ []) ≡ Some (judge_all a b c)
judge_all_form p a b c h i j =
    form_of_three p a b c (codes "--all" ∷ []) (judge_all a b c) h i j (judge_all_enters p a b c (codes "--all"))
    (judge_all_meets p a b c (codes "--all")) (judge_all_passes a b c) (judge_all_reads a b c)
