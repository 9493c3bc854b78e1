-- The program's forms.
use Rattle.std.proofs.Common.{◌≡◌, ◌==◌, ℕ, List, [], ◌∷◌, Bool, true, false, Some, None, refl, codes, ap}
use Rattle.std.proofs.Common.{if◌then◌else◌}
use Rattle.clap.specs.Words.{Text, fault_of, subcommand_of}
use Rattle.clap.proofs.OnLiterals.{clap_on_literals}
use Rattle.cli_words.specs.Ide.{ide_app}
use Rattle.cli_words.specs.Words.{CommandRequest, IsName, command_asked, subcommand_asked, asks_both, check, migrate}
use Rattle.cli_words.specs.Words.{show}

-- what the words ask for if `clap` takes them, and whether they ask for two texts
abbrev pub words_reading : List Text → CommandRequest × Bool
words_reading words = (subcommand_asked (subcommand_of ide_app words), asks_both (subcommand_of ide_app words))

pub taken : (words : List Text) (a : CommandRequest) → fault_of ide_app words ≡ [] → words_reading words ≡ (a, false)
    → command_asked words ≡ Some a
taken words a passes reads =
    let one : asks_both (subcommand_of ide_app words) ≡ false = ap (λ r. r.1) reads in
    let asks : subcommand_asked (subcommand_of ide_app words) ≡ a = ap (λ r. r.0) reads in
    rw (passes, one, asks) refl

-- words that ask for two texts ask for nothing
pub refused_anyway : (words : List Text) (taken both : Bool) → both ≡ true
    → (if if taken then both else true then None else Some (subcommand_asked (subcommand_of ide_app words))) ≡ None
refused_anyway words true both two = rw two refl
refused_anyway words false both two = refl

check_passes : (p : Text) (x : ℕ) (xs : Text) → (x == 45) ≡ false → fault_of ide_app (p ∷ codes "check" ∷ (x ∷ xs) ∷ [])
    ≡ []
unfolding clap_on_literals
check_passes p x xs e = simp e

check_reads : (p : Text) (x : ℕ) (xs : Text) → (x == 45) ≡ false
    → words_reading (p ∷ codes "check" ∷ (x ∷ xs) ∷ []) ≡ (check (x ∷ xs), false)
unfolding clap_on_literals
check_reads p x xs e = simp e

pub check_form : (p a : Text) → IsName a → command_asked (p ∷ codes "check" ∷ a ∷ []) ≡ Some (check a)
check_form p [] h = absurd h
check_form p (x ∷ xs) e = taken (p ∷ codes "check" ∷ (x ∷ xs) ∷ []) _ (check_passes p x xs e) (check_reads p x xs e)

migrate_passes : (p : Text) (x : ℕ) (xs : Text) → (x == 45) ≡ false
    → fault_of ide_app (p ∷ codes "check" ∷ (x ∷ xs) ∷ codes "--migrate" ∷ []) ≡ []
unfolding clap_on_literals
migrate_passes p x xs e = simp e

migrate_reads : (p : Text) (x : ℕ) (xs : Text) → (x == 45) ≡ false
    → words_reading (p ∷ codes "check" ∷ (x ∷ xs) ∷ codes "--migrate" ∷ []) ≡ (migrate (x ∷ xs), false)
unfolding clap_on_literals
migrate_reads p x xs e = simp e

pub migrate_form : (p a : Text) → IsName a → command_asked (p ∷ codes "check" ∷ a ∷ codes "--migrate" ∷ [])
    ≡ Some (migrate a)
migrate_form p [] h = absurd h
migrate_form p (x ∷ xs) e = taken (p ∷ codes "check" ∷ (x ∷ xs) ∷ codes "--migrate" ∷ []) _ (migrate_passes p x xs e)
    (migrate_reads p x xs e)

show_passes : (p : Text) (x : ℕ) (xs : Text) → (x == 45) ≡ false → fault_of ide_app (p ∷ codes "show" ∷ (x ∷ xs) ∷ [])
    ≡ []
unfolding clap_on_literals
show_passes p x xs e = simp e

show_reads : (p : Text) (x : ℕ) (xs : Text) → (x == 45) ≡ false
    → words_reading (p ∷ codes "show" ∷ (x ∷ xs) ∷ []) ≡ (show (x ∷ xs), false)
unfolding clap_on_literals
show_reads p x xs e = simp e

pub show_form : (p a : Text) → IsName a → command_asked (p ∷ codes "show" ∷ a ∷ []) ≡ Some (show a)
show_form p [] h = absurd h
show_form p (x ∷ xs) e = taken (p ∷ codes "show" ∷ (x ∷ xs) ∷ []) _ (show_passes p x xs e) (show_reads p x xs e)

pub no_words : command_asked [] ≡ None
unfolding clap_on_literals
no_words = refl
