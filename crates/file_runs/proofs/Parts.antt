-- A file that is run in pieces gives what is due of the whole. By induction on the bytes of a prefix, its lines are
-- those of the whole, but for the last, which goes on in what comes later. So each line that ends in a piece, and each
-- rest that is kept, takes what is due one step on, whatever is left; and `SoFar` joins such steps, with the text that
-- they wrote or gathered. A rest that is too long ends the run, as its line can only be longer.
use Rattle.std.proofs.Common.{◌≡◌, ◌==◌, ◌∙◌, ℕ, ◌+◌, List, [], ◌∷◌, ◌++◌, length, Bool, true, false, cond, Option}
use Rattle.std.proofs.Common.{Some, None, Result, Ok, Err, refl, sym, ap, inl, inr, arith, append_assoc, length-append}
use Rattle.std.proofs.Common.{nat_lt}
use Rattle.std.specs.Prelude.{IfOk}
use Rattle.std.specs.List.{onto_first}
use Rattle.std.proofs.lemmas.List.{append-nil}
use Rattle.std.proofs.lemmas.Bool.Decides.{nat_tests}
use Rattle.cli_files.specs.Outside.{SinkSeen}
use Rattle.file_runs.specs.Pieces.{pieces}
use Rattle.file_runs.proofs.Cuts.{HasFirst, ends_line, some}
use Rattle.script_events.specs.declared.fault.LineFault.{LineFault}
use Rattle.script_events.specs.declared.fault.LineFault.TheVariants.{TooLong}
use Rattle.file_runs.specs.declared.ends.End.{End}
use Rattle.file_runs.specs.declared.ends.Fault.{Fault}
use Rattle.file_runs.specs.Gain.{Text, HasGained}
use Rattle.file_runs.specs.Outcome.{Due, IsWholeLines, Ran}
use Rattle.file_runs.specs.Lines.{after, process, refusal}
use Rattle.file_runs.specs.Gathering.{IsCutOffAtSink, PieceEnds, IsPartGathered, PieceRan, SoFar, pieces_after}
use Rattle.file_runs.specs.Gathering.{due_behind}
use Rattle.file_runs.proofs.Gains.{gained_more}
use Rattle.file_runs.proofs.Runs.{cut_later, process_line, ran_later}

-- ---- the pieces of two texts, one after the other

joined : List Text → List Text → List Text
joined [] later = later
joined (piece ∷ []) later = pieces_after piece later
joined (piece ∷ next ∷ rest) later = piece ∷ joined (next ∷ rest) later

joined_cons : (piece : Text) (rest later : List Text) → HasFirst rest → joined (piece ∷ rest) later ≡ piece
    ∷ joined rest later
unfolding joined
joined_cons piece rest later h = rw h.is refl

onto_behind : (x : ℕ) (piece : Text) (later : List Text) → onto_first x (pieces_after piece later)
    ≡ pieces_after (x ∷ piece) later
onto_behind x piece [] = refl
onto_behind x piece (next ∷ rest) = refl

onto_joined : (x : ℕ) (first : Text) (rest later : List Text) → onto_first x (joined (first ∷ rest) later)
    ≡ joined ((x ∷ first) ∷ rest) later
unfolding joined
onto_joined x first [] later = onto_behind x first later
onto_joined x first (next ∷ rest) later = refl

joined_step : (x : ℕ) (ends : Bool) (front later all : List Text) → HasFirst front → all ≡ joined front later
    → cond ends ([] ∷ all) (onto_first x all) ≡ joined (cond ends ([] ∷ front) (onto_first x front)) later
joined_step x true front later all h e = ap (λ (ps : List Text). [] ∷ ps) e ∙ sym (joined_cons [] front later h)
joined_step x false front later all h e = ap (onto_first x) e ∙ rw h.is (onto_joined x h.first h.rest later)

pub behind_none : (text : Text) → pieces_after [] (pieces text) ≡ pieces text
behind_none text = let h = some text in rw h.is refl

pieces_joined : (front later : Text) → pieces (front ++ later) ≡ joined (pieces front) (pieces later)
unfolding joined
pieces_joined [] later = sym (behind_none later)
pieces_joined (x ∷ front) later = joined_step x (ends_line x) (pieces front) (pieces later) (pieces (front ++ later))
    (some front) (pieces_joined front later)

-- the first line that ends in a piece
line_behind : (before rest line later left : Text) → pieces rest ≡ line ∷ pieces later
    → pieces_after before (pieces (rest ++ left)) ≡ (before ++ line) ∷ pieces (later ++ left)
line_behind before rest line later left e =
    let cut : pieces (rest ++ left) ≡ line ∷ pieces (later ++ left) =
    pieces_joined rest left ∙ ap (λ (ps : List Text). joined ps (pieces left)) e ∙ joined_cons line (pieces later)
    (pieces left) (some later)
    ∙ ap (λ (ps : List Text). line ∷ ps) (sym (pieces_joined later left)) in
    ap (pieces_after before) cut

-- no line ends in the rest of a piece
rest_behind : (before rest left : Text) → pieces rest ≡ rest ∷ [] → pieces_after before (pieces (rest ++ left))
    ≡ pieces_after (before ++ rest) (pieces left)
unfolding joined
rest_behind before rest left e =
    let cut : pieces (rest ++ left) ≡ pieces_after rest (pieces left) = pieces_joined rest left ∙ ap
    (λ (ps : List Text). joined ps (pieces left)) e in
    ap (pieces_after before) cut ∙ two (pieces left)
  where
    two : (parts : List Text) → pieces_after before (pieces_after rest parts) ≡ pieces_after (before ++ rest) parts
    two [] = refl
    two (part ∷ parts) = ap (λ (t : Text). t ∷ parts) (sym (append_assoc before rest part))

-- ---- what is due

-- a line gave a text
pub line_came : {S : Type 0} (advance : S → ℕ → Text → Result (S × Text) LineFault) (closing : S → Due) (over : Bool)
    (n : ℕ) (s t : S) (before rest line later left w : Text) → pieces rest ≡ line ∷ pieces later
    → advance s n (before ++ line) ≡ Ok (t, w) → due_behind advance closing over n s before (rest ++ left)
    ≡ after w (due_behind advance closing over (n + 1) t [] (later ++ left))
line_came advance closing over n s t before rest line later left w e came =
    let go : List Text → Due = λ ps. process advance closing over n s ps in
    let next : List Text → Due = λ ps. after w (process advance closing over (n + 1) t ps) in
    ap go (line_behind before rest line later left e) ∙ process_line advance closing over n s (before ++ line)
    (later ++ left) ∙ rw came refl ∙ ap next (sym (behind_none (later ++ left)))

-- the same, of what is kept now
pub line_came_to : {S : Type 0} (advance : S → ℕ → Text → Result (S × Text) LineFault) (closing : S → Due)
    (over : Bool) (n m : ℕ) (s t : S) (before now rest line later left w : Text) → pieces rest ≡ line ∷ pieces later
    → advance s n (before ++ line) ≡ Ok (t, w) → m ≡ n + 1 → now ≡ []
    → due_behind advance closing over n s before (rest ++ left)
    ≡ after w (due_behind advance closing over m t now (later ++ left))
line_came_to advance closing over n m s t before now rest line later left w e came next none = rw (next, none)
    (line_came advance closing over n s t before rest line later left w e came)

-- a line is not spelled
pub line_refused : {S : Type 0} (advance : S → ℕ → Text → Result (S × Text) LineFault) (closing : S → Due) (over : Bool)
    (n : ℕ) (s : S) (before rest line later left : Text) (f : LineFault) → pieces rest ≡ line ∷ pieces later
    → advance s n (before ++ line) ≡ Err f → due_behind advance closing over n s before (rest ++ left) ≡ refusal n f
line_refused advance closing over n s before rest line later left f e came =
    let go : List Text → Due = λ ps. process advance closing over n s ps in
    ap go (line_behind before rest line later left e) ∙ process_line advance closing over n s (before ++ line)
    (later ++ left) ∙ rw came refl

-- the rest of a piece is kept
pub rest_kept : {S : Type 0} (advance : S → ℕ → Text → Result (S × Text) LineFault) (closing : S → Due) (over : Bool)
    (n : ℕ) (s : S) (before rest left : Text) → pieces rest ≡ rest ∷ []
    → due_behind advance closing over n s before (rest ++ left)
    ≡ due_behind advance closing over n s (before ++ rest) left
rest_kept advance closing over n s before rest left e = ap (λ (ps : List Text). process advance closing over n s ps)
    (rest_behind before rest left e)

pub rest_kept_in : {S : Type 0} (advance : S → ℕ → Text → Result (S × Text) LineFault) (closing : S → Due)
    (over : Bool) (n m : ℕ) (s : S) (before now rest left : Text) → pieces rest ≡ rest ∷ []
    → m ≡ n → now ≡ before ++ rest → due_behind advance closing over n s before (rest ++ left)
    ≡ after [] (due_behind advance closing over m s now left)
rest_kept_in advance closing over n m s before now rest left e same kept = rw (same, kept)
    (rest_kept advance closing over n s before rest left e)

some_length : (n : ℕ) → nat_lt 20000 n ≡ true → (n == 0) ≡ false
some_length n long = grind (arith, nat_tests)

-- a piece that is too long ends the run, whatever is left
long_first : {S : Type 0} (advance : S → ℕ → Text → Result (S × Text) LineFault) (closing : S → Due) (over : Bool)
    (n : ℕ) (s : S) (piece : Text) (rest : List Text) → nat_lt 20000 (length piece) ≡ true
    → advance s n piece ≡ Err TooLong → process advance closing over n s (piece ∷ rest) ≡ refusal n TooLong
long_first advance closing true n s piece [] long is = rw long refl
long_first advance closing false n s piece [] long is = rw (some_length (length piece) long, is) refl
long_first advance closing over n s piece (next ∷ rest) long is = rw is refl

pub long_rest : {S : Type 0} (advance : S → ℕ → Text → Result (S × Text) LineFault) (closing : S → Due) (over : Bool)
    (n : ℕ) (s : S) (before rest left : Text)
    → ((s : S) (n : ℕ) (line : Text) → nat_lt 20000 (length line) ≡ true → advance s n line ≡ Err TooLong)
    → nat_lt 20000 (length before + length rest) ≡ true → pieces rest ≡ rest ∷ []
    → due_behind advance closing over n s before (rest ++ left) ≡ refusal n TooLong
long_rest advance closing over n s before rest left law long e =
    let h = some left in
    let piece = (before ++ rest) ++ h.first in
    let longer : nat_lt 20000 (length piece) ≡ true = simp length-append (grind (arith, nat_tests)) in
    let go : List Text → Due = λ ps. process advance closing over n s ps in
    rest_kept advance closing over n s before rest left e ∙ ap
    (λ (ps : List Text). go (pieces_after (before ++ rest) ps))
    h.is ∙ long_first advance closing over n s piece h.rest longer (law s n piece longer)

-- ---- what was written and gathered

whole_more : (one two : Text) → IsWholeLines one → IsWholeLines two → IsWholeLines (one ++ two)
whole_more one two h (inl none) = rw (none, append-nil) h
whole_more one two h (inr (lines, e)) = inr
    (one ++ lines, ap (λ (t : Text). one ++ t) e ∙ sym (append_assoc one lines (10 ∷ [])))

nothing_gained : (h : Option Text) → HasGained h h []
nothing_gained None = refl
nothing_gained (Some held) = ap (λ (t : Text). Some t) (sym (append-nil held))

-- nothing came yet
pub begins : (due later : Bool → Text → Due) (sink : SinkSeen)
    → ((over : Bool) (left : Text) → due over left ≡ later over left) → SoFar due later [] sink sink
begins due later sink is = record {
  text = [];
  goes_on = λ over left. is over left;
  whole = inl refl;
  gained = ([], refl, nothing_gained sink.held, refl);
}

-- one more text came, and was gathered
pub comes : (due mid later : Bool → Text → Due) (gathered now w : Text) (o0 o1 o2 : SinkSeen)
    → SoFar due mid gathered o0 o1 → ((over : Bool) (left : Text) → mid over left ≡ after w (later over left))
    → IsWholeLines w → IsPartGathered (gathered ++ w) now o1 o2 → SoFar due later now o0 o2
comes due mid later gathered now w o0 o1 o2 so_far goes whole more =
    let was = so_far.gained in
    let spelled : (was.0 ++ more.0) ++ now ≡ so_far.text ++ w =
    append_assoc was.0 more.0 now ∙ ap (λ (t : Text). was.0 ++ t) more.1 ∙ sym (append_assoc was.0 gathered w) ∙ ap
    (λ (t : Text). t ++ w) was.1 in
    record {
      text = so_far.text ++ w;
      goes_on = λ over left. so_far.goes_on over left ∙ ap (after so_far.text) (goes over left) ∙ ap
          (λ (t : Text). ((later over left).0, t)) (sym (append_assoc so_far.text w (later over left).1));
      whole = whole_more so_far.text w so_far.whole whole;
      gained = (
        was.0 ++ more.0,
        spelled,
        gained_more o0.held o1.held o2.held was.0 more.0 was.2 more.2,
        more.3 ∙
            was.3,
      );
    }

-- what is due later reaches its end
pub ends : (due mid : Bool → Text → Due) (gathered : Text) (last : Due) (o0 o1 o2 : SinkSeen) (r : Result End Fault)
    (over : Bool) (left : Text) → SoFar due mid gathered o0 o1 → mid over left ≡ last
    → Ran (after gathered last) o1 o2 r → Ran (due over left) o0 o2 r
ends due mid gathered last o0 o1 o2 r over left so_far is ran =
    let was = so_far.gained in
    let e : due over left ≡ after was.0 (after gathered last) =
    so_far.goes_on over left ∙ ap (after so_far.text) is ∙ ap (λ (t : Text). after t last) (sym was.1) ∙ ap
    (λ (t : Text). (last.0, t)) (append_assoc was.0 gathered last.1) in
    ran_later r (due over left) (after gathered last) o0.held o1.held o2.held o0.faults o1.faults o2.faults was.0 e
    was.2 was.3 ran

-- the writing of what came last is cut off
pub cut_off : (due mid : Bool → Text → Due) (gathered w : Text) (last : Due) (o0 o1 o2 : SinkSeen) (e : Fault)
    (over : Bool) (left : Text) → SoFar due mid gathered o0 o1 → mid over left ≡ after w last
    → IsCutOffAtSink (gathered ++ w) o1 o2 e → IsCutOffAtSink (due over left).1 o0 o2 e
cut_off due mid gathered w last o0 o1 o2 e over left so_far is cut =
    let was = so_far.gained in
    let whole : (due over left).1 ≡ was.0 ++ ((gathered ++ w) ++ last.1) =
    ap (λ (d : Due). d.1) (so_far.goes_on over left ∙ ap (after so_far.text) is) ∙ ap (λ (t : Text). t ++ (w ++ last.1))
    (sym was.1) ∙ simp append_assoc in
    cut_later e (due over left).1 o0.held o1.held o2.held o0.faults o1.faults o2.faults was.0 (gathered ++ w) last.1
    whole was.2 was.3 cut

pub cut_gathered : (due mid : Bool → Text → Due) (gathered : Text) (o0 o1 o2 : SinkSeen) (e : Fault) (over : Bool)
    (left : Text) → SoFar due mid gathered o0 o1 → IsCutOffAtSink gathered o1 o2 e
    → IsCutOffAtSink (due over left).1 o0 o2 e
cut_gathered due mid gathered o0 o1 o2 e over left so_far cut = cut_off due mid gathered [] (mid over left) o0 o1 o2 e
    over left so_far refl (rw append-nil cut)

-- all that was gathered is written
pub put : (gathered : Text) (o1 o2 : SinkSeen) → HasGained o1.held o2.held gathered → o2.faults ≡ o1.faults
    → IsPartGathered (gathered ++ []) [] o1 o2
put gathered o1 o2 gained same = (gathered, refl, gained, same)

-- the run ends at a piece
pub ends_in : {S : Type 0} (follows : S → Type 0) (due mid : Bool → Text → Due) (later : S → Bool → Text → Due)
    (gathered : Text) (last : Due) (o0 o1 o2 : SinkSeen) (r : Result (Option End) Fault) → SoFar due mid gathered o0 o1
    → ((over : Bool) (left : Text) → mid over left ≡ last)
    → PieceEnds (after gathered last) o1 o2 r → PieceRan follows due later o0 o2 r
ends_in follows due mid later gathered last o0 o1 o2 (Ok None) so_far is h = absurd h
ends_in follows due mid later gathered last o0 o1 o2 (Ok (Some e)) so_far is h = λ over left. ends due mid gathered last
    o0 o1 o2 (Ok e) over left so_far (is over left) h
ends_in follows due mid later gathered last o0 o1 o2 (Err e) so_far is h = λ over left. ends due mid gathered last o0 o1
    o2 (Err e) over left so_far (is over left) h

pub whole_text : {S : Type 0} (came : Result (S × Text) LineFault) (t : S) (w : Text)
    → IfOk came (λ p. IsWholeLines p.1) → came ≡ Ok (t, w) → IsWholeLines w
whole_text came t w law is = rw is at law
