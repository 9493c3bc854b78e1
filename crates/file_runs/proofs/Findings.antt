-- A comparison line by line finds the first line that differs, or that both texts are the same.
use Rattle.std.proofs.Common.{◌≡◌, ◌≢◌, ◌+◌, ◌==◌, ◌++◌, ◌∙◌, ℕ, List, [], ◌∷◌, Bool, true, false, Option, Some, None}
use Rattle.std.proofs.Common.{length, refl, sym, ap, subst, arith, append_assoc, length-append}
use Rattle.std.specs.Prelude.{if◌then◌else◌, nat_lt, IfOk, Result, Ok, Err}
use Rattle.std.specs.Str.{bytes_eq}
use Rattle.std.specs.List.{join_with_byte}
use Rattle.std.proofs.lemmas.Bool.Decides.{nat_tests}
use Rattle.std.proofs.lemmas.Slice.Eq.{bytes_eq-Decides}
use Rattle.std.proofs.lemmas.List.{append_cancel_left}
use Rattle.std.proofs.lemmas.List.Splits.{join_with_byte-slice_split}
use Rattle.file_runs.specs.Pieces.{pieces}
use Rattle.file_runs.specs.declared.ends.End.{End}
use Rattle.file_runs.specs.declared.ends.End.TheVariants as end
use Rattle.file_runs.specs.Gain.{Text}
use Rattle.file_runs.proofs.Cuts.{HasFirst, some}
use Rattle.file_runs.proofs.Differences.{all_are_told}
use Rattle.file_runs.specs.Outcome.{Due}
use Rattle.file_runs.specs.Judging.{ClaimsOther, DiffersAt, DueThere, Finding, Same, Differs, LacksLine, Tells}
use Rattle.file_runs.specs.Judging.{TellsDiffering, finding_at_end, first_finding, finding_due, found_after}
use Rattle.file_runs.specs.Judging.{begins_with_line, judgement_due, last_line_of, last_text_piece, other_text}
use Rattle.file_runs.specs.Judging.{verdicts_limit}

-- ---- pieces and texts

same_text : (a b : Text) → bytes_eq a b ≡ true → a ≡ b
same_text a b e = (bytes_eq-Decides a b).0 e

text_is : (a : Text) → bytes_eq a a ≡ true
text_is a = (bytes_eq-Decides a a).1 refl

-- pieces tell the text
joined : (a : Text) → join_with_byte 10 (pieces a) ≡ a
joined a = join_with_byte-slice_split 10 a

same_pieces : (a b : Text) → pieces a ≡ pieces b → a ≡ b
same_pieces a b is = sym (joined a) ∙ ap (join_with_byte 10) is ∙ joined b

only_piece : (a last : Text) → pieces a ≡ last ∷ [] → a ≡ last
only_piece a last is = sym (joined a) ∙ ap (join_with_byte 10) is

-- ---- the last line

ends_there : (line later : Text) → later ≡ [] → last_text_piece (line ∷ pieces later)
    ≡ join_with_byte 10 (line ∷ pieces later)
ends_there line later none = rw none refl

empty_is : (a : Text) → true ≡ (length a == 0) → a ≡ []
empty_is [] e = refl
empty_is (x ∷ xs) e =
    let none : length (x ∷ xs) ≡ 0 = grind (arith, nat_tests) in
    absurd (omega (arith, none))

-- it is the only one
pub last_is : (text line later : Text) → pieces text ≡ line ∷ pieces later → true ≡ (length later == 0)
    → text ≡ last_line_of text
last_is text line later is none = sym (joined text) ∙ ap (join_with_byte 10) is
    ∙ sym (ends_there line later (empty_is later none)) ∙ sym (ap last_text_piece is)

behind_line : (line : Text) (parts : List Text) → HasFirst parts → (length (join_with_byte 10 parts) == 0) ≡ false
    → last_text_piece (line ∷ parts) ≡ last_text_piece parts
behind_line line parts first long = by_parts first.first first.rest first.is
  where
    by_parts : (one : Text) (rest : List Text) → parts ≡ one ∷ rest → last_text_piece (line ∷ parts)
        ≡ last_text_piece parts
    by_parts one [] is =
        let there : (length one == 0)
        ≡ false = subst (λ (p : List Text). (length (join_with_byte 10 p) == 0) ≡ false) is long in
        rw (is, there) refl
    by_parts one (next ∷ rest) is = rw is refl

-- it is behind the first line
pub last_behind : (text line later : Text) → pieces text ≡ line ∷ pieces later → false ≡ (length later == 0)
    → last_line_of later ≡ last_line_of text
last_behind text line later is long =
    let all : (length (join_with_byte 10 (pieces later)) == 0)
    ≡ false = subst (λ (t : Text). (length t == 0) ≡ false) (sym (joined later)) (sym long) in
    sym (behind_line line (pieces later) (some later) all) ∙ sym (ap last_text_piece is)

-- ---- line by line

-- a line that is not there
pub found_other : (lines : ℕ) (due claimed : List Text) (line later : Text) → due ≡ line ∷ pieces later
    → LacksLine line claimed → found_after lines due claimed ≡ Differs (lines + 1) (Some line)
found_other lines due claimed line later is lacks =
    let first = some later in
    rw (is, first.is, lacks) refl

-- a line that is
pub found_same : (lines : ℕ) (due claimed : List Text) (line later rest : Text) → due ≡ line ∷ pieces later → claimed
    ≡ line ∷ pieces rest → found_after (lines + 1) (pieces later) (pieces rest) ≡ found_after lines due claimed
found_same lines due claimed line later rest is claims =
    let first = some later in
    let next = some rest in
    rw (is, claims, first.is, next.is, text_is line) refl

-- no line is due any more
ends_otherwise : (lines : ℕ) (rest : Text) (parts : List Text)
    → ((last : Text) → parts ≡ last ∷ [] → bytes_eq rest last ≡ false)
    → finding_at_end lines rest parts ≡ Differs (lines + 1) None
ends_otherwise lines rest [] other = refl
ends_otherwise lines rest (last ∷ []) other = rw (other last refl) refl
ends_otherwise lines rest (one ∷ next ∷ parts) other = refl

not_same : (a b : Text) (t : Bool) → bytes_eq a b ≡ t → a ≢ b → bytes_eq a b ≡ false
not_same a b true is other = absurd (other (same_text a b is))
not_same a b false is other = is

pub found_end : (lines : ℕ) (rest claimed : Text) → claimed ≢ rest
    → found_after lines (rest ∷ []) (pieces claimed) ≡ Differs (lines + 1) None
found_end lines rest claimed other = ends_otherwise lines rest (pieces claimed) (λ last is.
    not_same rest last (bytes_eq rest last) refl (λ same. other (only_piece claimed last is ∙ sym same)))

pub not_equal : (a b : Text) → false ≡ bytes_eq a b → a ≢ b
not_equal a b apart same =
    let there : bytes_eq a b ≡ true = (bytes_eq-Decides a b).1 same in
    cc

-- what is told of a finding
pub told_by : {V E : Type 0} (items : V → Text) (r : Result (End × V) E) (e : End) (text : Text) (last : Due)
    → IfOk r (λ told. told.0 ≡ e) → IfOk r (λ told. items told.1 ≡ text) → (e, text) ≡ last
    → IfOk r (λ told. (told.0, items told.1) ≡ last)
told_by items (Ok told) e text last end_is text_is due =
    ap (λ (x : End). (x, items told.1)) end_is ∙ ap (λ (t : Text). (e, t)) text_is ∙ due
told_by items (Err f) e text last end_is text_is due = tt

-- ---- what is found

-- both are the same text, of so many lines; or this is the first line that differs
abbrev pub Means : (due claimed : Text) → Finding → Type 0
Means due claimed (Same lines) = (claimed ≡ due) × (length (pieces due) ≡ lines + 1)
Means due claimed (Differs number line) = DiffersAt due claimed number line

-- Pieces that are left after some that are the same.
record Left (due claimed : Text) (lines : ℕ) (due_left claimed_left : List Text) : Type 0 where
  alike : List Text
  lines_are : lines ≡ length alike
  due_is : pieces due ≡ alike ++ due_left
  claimed_is : pieces claimed ≡ alike ++ claimed_left

left_other : (due claimed : Text) (lines : ℕ) (due_left claimed_left : List Text) (line : Option Text)
    → Left due claimed lines due_left claimed_left → claimed_left ≢ [] → DueThere line due_left
    → ClaimsOther line due_left claimed_left → DiffersAt due claimed (lines + 1) line
left_other due claimed lines due_left claimed_left line left goes_on there other = record {
  alike = left.alike;
  number_is = ap (λ (n : ℕ). n + 1) left.lines_are;
  due_left = due_left;
  due_is = left.due_is;
  claimed_left = claimed_left;
  claimed_is = left.claimed_is;
  goes_on = goes_on;
  line_is = there;
  other = other;
}

left_same : (due claimed : Text) (lines : ℕ) (rest last : Text) → Left due claimed lines (rest ∷ []) (last ∷ [])
    → rest ≡ last → (claimed ≡ due) × (length (pieces due) ≡ lines + 1)
left_same due claimed lines rest last left is = (
  same_pieces claimed due
      (left.claimed_is ∙ ap (λ (t : Text). left.alike ++ t ∷ []) (sym is) ∙ sym left.due_is),
  omega (arith, ap length left.due_is, length-append left.alike (rest ∷ []), left.lines_are),
)

left_more : (due claimed : Text) (lines : ℕ) (line first : Text) (due_left claimed_left : List Text)
    → Left due claimed lines (line ∷ due_left) (first ∷ claimed_left) → line ≡ first
    → Left due claimed (lines + 1) due_left claimed_left
left_more due claimed lines line first due_left claimed_left left is = record {
  alike = left.alike ++ line ∷ [];
  lines_are = omega (arith, length-append left.alike (line ∷ []), left.lines_are);
  due_is = left.due_is ∙ sym (append_assoc left.alike (line ∷ []) due_left);
  claimed_is = left.claimed_is ∙ ap (λ (t : Text). left.alike ++ t ∷ claimed_left) (sym is)
      ∙ sym (append_assoc left.alike (line ∷ []) claimed_left);
}

last_means : (due claimed : Text) (lines : ℕ) (rest last : Text) (b : Bool) → bytes_eq rest last ≡ b
    → Left due claimed lines (rest ∷ []) (last ∷ [])
    → Means due claimed (if b then Same lines else Differs (lines + 1) None)
last_means due claimed lines rest last true is left = left_same due claimed lines rest last left
    (same_text rest last is)
last_means due claimed lines rest last false is left = left_other due claimed lines (rest ∷ []) (last ∷ []) None left
    (λ e. cc) (rest, refl) (λ e. absurd (apart e))
  where
    apart : rest ∷ [] ≡ last ∷ [] → ⊥
    apart e =
        let one : rest ≡ last = cc in
        let yes : bytes_eq rest last ≡ true = rw one (text_is last) in
        cc

end_means : (due claimed : Text) (lines : ℕ) (rest : Text) (parts : List Text)
    → Left due claimed lines (rest ∷ []) parts → parts ≢ [] → Means due claimed (finding_at_end lines rest parts)
end_means due claimed lines rest [] left goes_on = absurd (goes_on refl)
end_means due claimed lines rest (last ∷ []) left goes_on = last_means due claimed lines rest last (bytes_eq rest last)
    refl left
end_means due claimed lines rest (one ∷ next ∷ parts) left goes_on = left_other due claimed lines (rest ∷ [])
    (one ∷ next ∷ parts) None left (λ e. cc) (rest, refl) (λ e. cc)

by_line : (due claimed : Text) (lines : ℕ) (line next first second : Text) (more parts : List Text) (b : Bool)
    → bytes_eq line first ≡ b → Left due claimed lines (line ∷ next ∷ more) (first ∷ second ∷ parts)
    → (Left due claimed (lines + 1) (next ∷ more) (second ∷ parts)
    → Means due claimed (found_after (lines + 1) (next ∷ more) (second ∷ parts)))
    → Means due claimed (if b then found_after (lines + 1) (next ∷ more) (second ∷ parts)
    else Differs (lines + 1) (Some line))
by_line due claimed lines line next first second more parts true is left later = later
    (left_more due claimed lines line first (next ∷ more) (second ∷ parts) left (same_text line first is))
by_line due claimed lines line next first second more parts false is left later = left_other due claimed lines
    (line ∷ next ∷ more) (first ∷ second ∷ parts) (Some line) left (λ e. cc) (next, more, refl) is

found_means : (due claimed : Text) (lines : ℕ) (due_left claimed_left : List Text)
    → Left due claimed lines due_left claimed_left → due_left ≢ [] → claimed_left ≢ []
    → Means due claimed (found_after lines due_left claimed_left)
found_means due claimed lines [] parts left there goes_on = absurd (there refl)
found_means due claimed lines (rest ∷ []) parts left there goes_on = end_means due claimed lines rest parts left goes_on
found_means due claimed lines (line ∷ next ∷ more) [] left there goes_on = absurd (goes_on refl)
found_means due claimed lines (line ∷ next ∷ more) (last ∷ []) left there goes_on = left_other due claimed lines
    (line ∷ next ∷ more) (last ∷ []) (Some line) left (λ e. cc) (next, more, refl) refl
found_means due claimed lines (line ∷ next ∷ more) (first ∷ second ∷ parts) left there goes_on =
    by_line due claimed lines line next first second more parts (bytes_eq line first) refl left
    (λ later. found_means due claimed (lines + 1) (next ∷ more) (second ∷ parts) later (λ e. cc) (λ e. cc))

some_pieces : (a : Text) → pieces a ≢ []
some_pieces a e =
    let first = some a in
    let there : first.first ∷ first.rest ≡ [] = sym first.is ∙ e in
    cc

pub finding_means : (due claimed : Text) → Means due claimed (first_finding due claimed)
finding_means due claimed = found_means due claimed 0 (pieces due) (pieces claimed)
    (record { alike = []; lines_are = refl; due_is = refl; claimed_is = refl }) (some_pieces due) (some_pieces claimed)

-- ---- the same text has no such line

apart_there : (line : Option Text) (due claimed : List Text) → DueThere line due → ClaimsOther line due claimed
    → due ≡ claimed → ⊥
apart_there None due claimed there other same = other same
apart_there (Some line) due claimed there other same =
    let is : claimed ≡ line ∷ there.0 ∷ there.1 = sym same ∙ there.2 in
    let has : begins_with_line line claimed ≡ true = rw is (text_is line) in
    cc

pub differs_apart : (due claimed : Text) (number : ℕ) (line : Option Text) → DiffersAt due claimed number line
    → claimed ≢ due
differs_apart due claimed number line d same =
    let both : d.alike ++ d.due_left ≡ d.alike ++ d.claimed_left =
    sym d.due_is ∙ ap pieces (sym same) ∙ d.claimed_is in
    apart_there line d.due_left d.claimed_left d.line_is d.other
    (append_cancel_left d.alike d.due_left d.claimed_left both)

-- ---- what is told

differing_tells : (all : Bool) (due claimed : Text) (number : ℕ) (line : Option Text)
    → DiffersAt due claimed number line → TellsDiffering all due claimed (other_text all due claimed number line)
differing_tells false due claimed number line means = record {
  number = number;
  line = line;
  differs = means;
  other = differs_apart due claimed number line means;
  told_is = refl;
}
differing_tells true due claimed number line means =
    all_are_told due claimed (differs_apart due claimed number line means)

found_tells : (all : Bool) (due claimed : Text) (found : Finding) → Means due claimed found
    → Tells all due claimed (finding_due all due claimed found).0 (finding_due all due claimed found).1
found_tells all due claimed (Same lines) means = record
    { lines = lines; lines_are = means.1; same = means.0; told_is = refl }
found_tells all due claimed (Differs number line) means = differing_tells all due claimed number line means

by_length : (all : Bool) (due claimed : Text) (b : Bool) → nat_lt verdicts_limit (length claimed) ≡ b
    → Tells all due claimed
    (if b then (end.TooLong, []) else finding_due all due claimed (first_finding due claimed)).0
    (if b then (end.TooLong, []) else finding_due all due claimed (first_finding due claimed)).1
by_length all due claimed true is = (grind (arith, nat_tests), refl)
by_length all due claimed false is =
    found_tells all due claimed (first_finding due claimed) (finding_means due claimed)

pub judged_tells : (all : Bool) (due claimed : Text)
    → Tells all due claimed (judgement_due all due claimed).0 (judgement_due all due claimed).1
judged_tells all due claimed = by_length all due claimed (nat_lt verdicts_limit (length claimed)) refl
