-- All lines in which two texts differ: which they are, and that two texts without such a line are one.
use Rattle.std.proofs.Common.{◌≡◌, ◌≢◌, ◌+◌, ◌==◌, ◌++◌, ◌∙◌, ℕ, suc, zero, List, [], ◌∷◌, Bool, true, false}
use Rattle.std.proofs.Common.{Option, Some, None, length, refl, sym, ap, ap₂, inl, inr, arith}
use Rattle.std.proofs.Common.{append_assoc, subst}
use Rattle.std.specs.Prelude.{if◌then◌else◌, ◌&&◌, slice_get}
use Rattle.std.specs.Bool.{beq}
use Rattle.std.specs.Cmp.{booleans_Decides}
use Rattle.std.specs.Str.{bytes_eq}
use Rattle.std.specs.List.{join_with_byte}
use Rattle.std.proofs.lemmas.Bool.Decides.{nat_tests}
use Rattle.std.proofs.lemmas.List.{append-nil}
use Rattle.std.proofs.lemmas.Slice.Eq.{bytes_eq-Decides}
use Rattle.std.proofs.lemmas.List.Splits.{join_with_byte-slice_split}
use Rattle.file_runs.specs.Pieces.{pieces}
use Rattle.file_runs.specs.Gain.{Text}
use Rattle.file_runs.specs.Differing.{
  AreRising,
  DiffersAs,
  IsAmong,
  Line,
  Place,
  TellsAll,
  all_text,
  are_same,
  bytes_due,
}
use Rattle.file_runs.specs.Differing.{differing, places_apart, is_same_line, line, lines_between, lines_of}
use Rattle.file_runs.proofs.Cuts.{some}

-- ---- lines tell their text

feed_of : Bool → Text
feed_of ended = if ended then 10 ∷ [] else []

unlined : List Line → Text
unlined [] = []
unlined (l ∷ lines) = (l.bytes ++ feed_of l.ended) ++ unlined lines

none_or_last : (last : Text) (b : Bool) → (length last == 0) ≡ b
    → unlined (if b then [] else line last false ∷ []) ≡ last
unfolding unlined feed_of
none_or_last [] true is = refl
none_or_last (x ∷ xs) true is =
    let none : length (x ∷ xs) ≡ 0 = grind (arith, nat_tests) in
    absurd (omega (arith, none))
none_or_last last false is = append-nil (last ++ []) ∙ append-nil last

unlined_is : (parts : List Text) → unlined (lines_between parts) ≡ join_with_byte 10 parts
unfolding unlined feed_of
unlined_is [] = refl
unlined_is (last ∷ []) = none_or_last last (length last == 0) refl
unlined_is (first ∷ next ∷ rest) =
    append_assoc first (10 ∷ []) (unlined (lines_between (next ∷ rest)))
    ∙ ap (λ (t : Text). first ++ (10 ∷ t)) (unlined_is (next ∷ rest))

text_of_lines : (text : Text) → unlined (lines_of text) ≡ text
text_of_lines text = unlined_is (pieces text) ∙ join_with_byte-slice_split 10 text

same_texts : (a b : Text) → lines_of a ≡ lines_of b → a ≡ b
same_texts a b same = sym (text_of_lines a) ∙ ap unlined same ∙ text_of_lines b

-- ---- the same line

both_true : (a b : Bool) → (a && b) ≡ true → (a ≡ true) × (b ≡ true)
both_true true b is = (refl, is)
both_true false b is = absurd cc

line_is : (a b : Line) → is_same_line a b ≡ true → a ≡ b
line_is a b same =
    let both = both_true (bytes_eq a.bytes b.bytes) (beq a.ended b.ended) same in
    ap₂ line ((bytes_eq-Decides a.bytes b.bytes).0 both.0) ((booleans_Decides a.ended b.ended).0 both.1)

line_same : (a : Line) → is_same_line a a ≡ true
line_same a =
    let bytes : bytes_eq a.bytes a.bytes ≡ true = (bytes_eq-Decides a.bytes a.bytes).1 refl in
    let ended : beq a.ended a.ended ≡ true = (booleans_Decides a.ended a.ended).1 refl in
    rw (bytes, ended) refl

same_is : (d c : Option Line) → are_same d c ≡ true → d ≡ c
same_is None None same = refl
same_is None (Some c) same = absurd cc
same_is (Some d) None same = absurd cc
same_is (Some d) (Some c) same = ap (λ (l : Line). Some l) (line_is d c same)

always_same : (d : Option Line) → are_same d d ≡ true
always_same None = refl
always_same (Some d) = line_same d

is_same : (d c : Option Line) → d ≡ c → are_same d c ≡ true
is_same d c is = subst (λ (x : Option Line). are_same d x ≡ true) is (always_same d)

-- ---- one line on

-- the first line of a list, and the others
record Begins (whole : List Line) (first : Option Line) (rest : List Line) : Type 0 where
  here : slice_get whole 0 ≡ first
  behind : (k : ℕ) → slice_get whole (suc k) ≡ slice_get rest k

begins_none : Begins [] None []
begins_none = record { here = refl; behind = λ k. refl }

begins_some : (d : Line) (due : List Line) → Begins (d ∷ due) (Some d) due
begins_some d due = record { here = refl; behind = λ k. refl }

place : ℕ → Option Line → Place
place n d = record { number = n; due = bytes_due d }

step : (n : ℕ) (d : Option Line) (b : Bool) → List Place → List Place
step n d b places = (if b then [] else record { number = n; due = bytes_due d } ∷ []) ++ places

one_behind : (n : ℕ) (due claimed due_left claimed_left : List Line) (d c : Option Line) (p : Place)
    → Begins due d due_left → Begins claimed c claimed_left → DiffersAs (n + 1) due_left claimed_left p
    → DiffersAs n due claimed p
one_behind n due claimed due_left claimed_left d c p at_due at_claimed m = record {
  behind = suc m.behind;
  number_is = omega (arith, m.number_is);
  due_is = m.due_is ∙ ap bytes_due (sym (at_due.behind m.behind));
  other = λ same. m.other (sym (at_due.behind m.behind) ∙ same ∙ at_claimed.behind m.behind);
}

step_means : (n : ℕ) (due claimed due_left claimed_left : List Line) (d c : Option Line) (p : Place)
    (places : List Place) (b : Bool) → are_same d c ≡ b → Begins due d due_left → Begins claimed c claimed_left
    → (IsAmong p places → DiffersAs (n + 1) due_left claimed_left p) → IsAmong p (step n d b places)
    → DiffersAs n due claimed p
unfolding step
step_means n due claimed due_left claimed_left d c p places true is at_due at_claimed later among =
    one_behind n due claimed due_left claimed_left d c p at_due at_claimed (later among)
step_means n due claimed due_left claimed_left d c p places false is at_due at_claimed later (inl here) = record {
  behind = 0;
  number_is = ap (λ (q : Place). q.number) here ∙ (omega arith);
  due_is = ap (λ (q : Place). q.due) here ∙ ap bytes_due (sym at_due.here);
  other = λ same.
      let there : are_same d c ≡ true = is_same d c (sym at_due.here ∙ same ∙ at_claimed.here) in
      absurd cc;
}
step_means n due claimed due_left claimed_left d c p places false is at_due at_claimed later (inr among) =
    one_behind n due claimed due_left claimed_left d c p at_due at_claimed (later among)

among_means : (n : ℕ) (due claimed : List Line) (p : Place) → IsAmong p (places_apart n due claimed)
    → DiffersAs n due claimed p
unfolding step
among_means n [] [] p among = absurd among
among_means n [] (c ∷ claimed) p among =
    step_means n [] (c ∷ claimed) [] claimed None (Some c) p (places_apart (n + 1) [] claimed)
    (are_same None (Some c)) refl begins_none (begins_some c claimed) (among_means (n + 1) [] claimed p) among
among_means n (d ∷ due) [] p among =
    step_means n (d ∷ due) [] due [] (Some d) None p (places_apart (n + 1) due []) (are_same (Some d) None) refl
    (begins_some d due) begins_none (among_means (n + 1) due [] p) among
among_means n (d ∷ due) (c ∷ claimed) p among =
    step_means n (d ∷ due) (c ∷ claimed) due claimed (Some d) (Some c) p (places_apart (n + 1) due claimed)
    (are_same (Some d) (Some c)) refl (begins_some d due) (begins_some c claimed) (among_means (n + 1) due claimed p)
    among

-- ---- and the other way round

put_behind : (n : ℕ) (d : Option Line) (p : Place) (places : List Place) (b : Bool) → IsAmong p places
    → IsAmong p (step n d b places)
unfolding step
put_behind n d p places true among = among
put_behind n d p places false among = inr among

put_here : (n : ℕ) (d c : Option Line) (p : Place) (places : List Place) (b : Bool) → are_same d c ≡ b → d ≢ c
    → p ≡ place n d → IsAmong p (step n d b places)
unfolding step place
put_here n d c p places true is other here = absurd (other (same_is d c is))
put_here n d c p places false is other here = inl here

step_among : (n : ℕ) (due claimed due_left claimed_left : List Line) (d c : Option Line) (p : Place)
    (places : List Place) (b : Bool) → are_same d c ≡ b → Begins due d due_left → Begins claimed c claimed_left
    → (DiffersAs (n + 1) due_left claimed_left p → IsAmong p places) → DiffersAs n due claimed p
    → IsAmong p (step n d b places)
unfolding place
step_among n due claimed due_left claimed_left d c p places b is at_due at_claimed later m =
    by_place m.behind m.number_is m.due_is m.other
  where
    by_place : (k : ℕ) → p.number ≡ n + k → p.due ≡ bytes_due (slice_get due k)
        → slice_get due k ≢ slice_get claimed k → IsAmong p (step n d b places)
    by_place zero number due_is other =
        put_here n d c p places b is (λ same. other (at_due.here ∙ same ∙ sym at_claimed.here))
        (ap₂ (λ (m : ℕ) (t : Option Text). record { number = m; due = t }) (omega (arith, number))
        (due_is ∙ ap bytes_due at_due.here))
    by_place (suc k) number due_is other =
        put_behind n d p places b (later (record {
          behind = k;
          number_is = omega (arith, number);
          due_is = due_is ∙ ap bytes_due (at_due.behind k);
          other = λ same. other (at_due.behind k ∙ same ∙ sym (at_claimed.behind k));
        }))

means_among : (n : ℕ) (due claimed : List Line) (p : Place) → DiffersAs n due claimed p
    → IsAmong p (places_apart n due claimed)
unfolding step
means_among n [] [] p m = absurd (m.other refl)
means_among n [] (c ∷ claimed) p m =
    step_among n [] (c ∷ claimed) [] claimed None (Some c) p (places_apart (n + 1) [] claimed)
    (are_same None (Some c)) refl begins_none (begins_some c claimed) (means_among (n + 1) [] claimed p) m
means_among n (d ∷ due) [] p m =
    step_among n (d ∷ due) [] due [] (Some d) None p (places_apart (n + 1) due []) (are_same (Some d) None) refl
    (begins_some d due) begins_none (means_among (n + 1) due [] p) m
means_among n (d ∷ due) (c ∷ claimed) p m =
    step_among n (d ∷ due) (c ∷ claimed) due claimed (Some d) (Some c) p (places_apart (n + 1) due claimed)
    (are_same (Some d) (Some c)) refl (begins_some d due) (begins_some c claimed) (means_among (n + 1) due claimed p) m

-- ---- in order, and not none

weaker : (n : ℕ) (places : List Place) → AreRising (n + 1) places → AreRising n places
weaker n [] rising = tt
weaker n (p ∷ places) rising = (omega (arith, rising.0), rising.1)

step_rises : (n : ℕ) (d : Option Line) (places : List Place) (b : Bool) → AreRising (n + 1) places
    → AreRising n (step n d b places)
unfolding step
step_rises n d places true rising = weaker n places rising
step_rises n d places false rising = (omega arith, rising)

all_rise : (n : ℕ) (due claimed : List Line) → AreRising n (places_apart n due claimed)
unfolding step
all_rise n [] [] = tt
all_rise n [] (c ∷ claimed) =
    step_rises n None (places_apart (n + 1) [] claimed) (are_same None (Some c)) (all_rise (n + 1) [] claimed)
all_rise n (d ∷ due) [] =
    step_rises n (Some d) (places_apart (n + 1) due []) (are_same (Some d) None) (all_rise (n + 1) due [])
all_rise n (d ∷ due) (c ∷ claimed) =
    step_rises n (Some d) (places_apart (n + 1) due claimed) (are_same (Some d) (Some c))
    (all_rise (n + 1) due claimed)

step_none : (n : ℕ) (d c : Line) (places : List Place) (b : Bool) → is_same_line d c ≡ b
    → step n (Some d) b places ≡ [] → (d ≡ c) × (places ≡ [])
unfolding step
step_none n d c places true is none = (line_is d c is, none)
step_none n d c places false is none = absurd cc

none_differ : (n : ℕ) (due claimed : List Line) → places_apart n due claimed ≡ [] → due ≡ claimed
unfolding step
none_differ n [] [] none = refl
none_differ n [] (c ∷ claimed) none = absurd cc
none_differ n (d ∷ due) [] none = absurd cc
none_differ n (d ∷ due) (c ∷ claimed) none =
    let one = step_none n d c (places_apart (n + 1) due claimed) (is_same_line d c) refl none in
    ap₂ (λ (l : Line) (ls : List Line). l ∷ ls) one.0 (none_differ (n + 1) due claimed one.1)

pub all_are_told : (due claimed : Text) → claimed ≢ due → TellsAll due claimed (all_text (differing due claimed))
all_are_told due claimed apart = record {
  places = differing due claimed;
  exactly = λ p. (
    among_means 1 (lines_of due) (lines_of claimed) p,
    means_among 1 (lines_of due) (lines_of claimed) p,
  );
  in_order = all_rise 1 (lines_of due) (lines_of claimed);
  some = λ none. apart (sym (same_texts due claimed (none_differ 1 (lines_of due) (lines_of claimed) none)));
  other = apart;
  told_is = refl;
}

-- ---- the first line of a text

pub ends_first : (text line rest : Text) → pieces text ≡ line ∷ pieces rest
    → lines_of text ≡ record { bytes = line; ended = true } ∷ lines_of rest
ends_first text line rest is =
    let next = some rest in
    rw (is, next.is) refl
