-- A line means no event exactly if it is a comment, or of spaces only.
use Rattle.std.proofs.Common.{true, false, nat_lt, not, ◌==◌, ◌≡◌, ℕ, suc, List, [], ◌∷◌, Bool, Some, None, Result, Ok}
use Rattle.std.proofs.Common.{Err, length, refl, sym, arith, inl, inr}
use Rattle.std.specs.Prelude.{filter, if◌then◌else◌}
use Rattle.std.specs.List.{list_all, slice_split, onto_first}
use Rattle.std.proofs.lemmas.Bool.{and_parts, cases_Bool, ltb-false, eqb-true}
use Rattle.script_events.specs.Terms.{ScriptEvent, LineFault}
use Rattle.script_events.specs.Terms.fault
use Rattle.ide_types.specs.Names.{Text, is_printable}
use Rattle.script_events.specs.Words.{words_in}
use Rattle.script_events.specs.Parse.{◌>>=◌, event_by_first_word, event_in, is_comment, line_meaning}
use Rattle.script_events.specs.Spells.{IsSkipped, NothingIsSkipped}
use Rattle.script_events.proofs.Steps.{err_ok, ok_ok, none_some}
use Rattle.script_events.proofs.Meanings.{short_line}

cons_nil : {A : Type 0} {x : A} {xs : List A} → x ∷ xs ≡ [] → ⊥
cons_nil e = cc

blank_words : (line : Text) → list_all (λ b. b == 32) line ≡ true → words_in line ≡ []
blank_words [] h = refl
blank_words (x ∷ xs) h = let parts = and_parts (x == 32) (list_all (λ b. b == 32) xs) h in rw parts.0
    (blank_words xs parts.1)

long_part : (n : ℕ) → (suc n == 0) ≡ false
long_part n = elim (cases_Bool (suc n == 0)) [
  | inl none ↦ absurd (omega (arith, eqb-true (suc n) 0 none))
  | inr some ↦ some
]

letter_words : (x : ℕ) (parts : List Text) → filter (λ w. not (length w == 0)) (onto_first x parts) ≡ [] → ⊥
letter_words x [] h = cons_nil h
letter_words x (part ∷ parts) h = cons_nil (rw (long_part (length part)) at h)

blank_step : (x : ℕ) (xs : Text) (b : Bool) → (x == 32) ≡ b → words_in (x ∷ xs) ≡ []
    → (words_in xs ≡ [] → list_all (λ b. b == 32) xs ≡ true) → list_all (λ b. b == 32) (x ∷ xs) ≡ true
blank_step x xs true e h later = rw e (later (rw e at h))
blank_step x xs false e h later = absurd (letter_words x (slice_split (λ b. b == 32) xs) (rw e at h))

no_words : (line : Text) → words_in line ≡ [] → list_all (λ b. b == 32) line ≡ true
no_words [] h = refl
no_words (x ∷ xs) h = blank_step x xs (x == 32) refl h (no_words xs)

space_printable : (x : ℕ) → (x == 32) ≡ true → is_printable x ≡ true
space_printable x e = rw (eqb-true x 32 e) refl

blank_printable : (line : Text) → list_all (λ b. b == 32) line ≡ true → list_all is_printable line ≡ true
blank_printable [] h = refl
blank_printable (x ∷ xs) h = let parts = and_parts (x == 32) (list_all (λ b. b == 32) xs) h in rw
    (space_printable x parts.0, blank_printable xs parts.1) refl

event_none : (x : Result ScriptEvent LineFault) → (x >>= λ y. Ok (Some y)) ≡ Ok None → ⊥
event_none (Ok y) h = none_some y (sym (ok_ok (Some y) None h))
event_none (Err f) h = err_ok f None h

none_words : (ws : List Text) → event_in ws ≡ Ok None → ws ≡ []
none_words [] h = refl
none_words (first ∷ rest) h = absurd (event_none (event_by_first_word first rest) h)

none_step : (line : Text) (long comment printed : Bool) → nat_lt 20000 (length line) ≡ long → is_comment line ≡ comment
    → (if long then Err fault.TooLong else if comment then Ok None else if not printed then Err fault.NotAscii else
    event_in (words_in line)) ≡ Ok None
    → IsSkipped line
none_step line true c p x y h = absurd (err_ok fault.TooLong None h)
none_step line false true p x y h = (ltb-false 20000 (length line) x, inl y)
none_step line false false false x y h = absurd (err_ok fault.NotAscii None h)
none_step line false false true x y h =
    (ltb-false 20000 (length line) x, inr (no_words line (none_words (words_in line) h)))

comment_step : (line : Text) (comment : Bool) → is_comment line ≡ comment → list_all (λ b. b == 32) line ≡ true
    → (if comment then Ok None else if not (list_all is_printable line) then Err fault.NotAscii else event_in
    (words_in line)) ≡ Ok None
comment_step line true c h = refl
comment_step line false c h = rw (blank_printable line h, blank_words line h) refl

skipped_none : (line : Text) → IsSkipped line → line_meaning line ≡ Ok None
skipped_none line h = elim h.1 [
  | inl comment ↦ rw (short_line (length line) h.0, comment) refl
  | inr blank ↦ rw (short_line (length line) h.0) (comment_step line (is_comment line) refl blank)
]

pub nothing_is_skipped : NothingIsSkipped
nothing_is_skipped line = (none_step line _ _ _ refl refl, skipped_none line)
