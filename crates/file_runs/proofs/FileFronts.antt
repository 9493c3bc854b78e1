-- A file of which a prefix was run: the run ends as is due of the whole file. By `FileSoFar` what is due of it,
-- whatever is left, is the text of the lines that ended and then what is due from the open line on. Each end puts its
-- own rest in: any at a line that ends the run, none at the end of the file, one byte at the limit (hard: a line feed
-- there ends nothing). At a fault nothing is due of the open line, which has at most 20,000 bytes.
use Rattle.std.proofs.Common.{◌≡◌, ◌==◌, ◌∙◌, ℕ, zero, suc, ◌+◌, ◌-◌, ◌<◌, ◌≤◌, List, [], ◌∷◌, ◌++◌, length, Bool, true}
use Rattle.std.proofs.Common.{false, Option, Some, None, Result, Ok, Err, refl, sym, ap, ap₂, inl, inr, ◌⊎◌, subst}
use Rattle.std.proofs.Common.{arith, append_assoc, length-append, nat_lt, take, option_map}
use Rattle.std.specs.Prelude.{if◌then◌else◌, nat_lt, IfErr, IfOk}
use Rattle.std.specs.List.{slice_index_or}
use Rattle.std.proofs.Math.Seq.{take-append_seam, take-append-add, get_or-append_seam}
use Rattle.std.proofs.lemmas.List.{append-nil}
use Rattle.std.proofs.lemmas.Bool.{lt-ltb, le-ltb, ltb-false}
use Rattle.cli_files.specs.Outside.{Contents, Rose, ShelfCause, ShelfSeen, SinkSeen}
use Rattle.cli_files.specs.declared.shelf.ShelfFault.{ShelfFault}
use Rattle.file_runs.specs.Pieces.{pieces}
use Rattle.script_events.specs.declared.fault.LineFault.{LineFault}
use Rattle.script_events.specs.declared.fault.LineFault.TheVariants as line
use Rattle.file_runs.specs.declared.ends.End.{End}
use Rattle.file_runs.specs.declared.ends.End.TheVariants as end
use Rattle.file_runs.specs.declared.ends.Fault.{Fault}
use Rattle.file_runs.specs.declared.ends.Fault.TheVariants as fault
use Rattle.file_runs.specs.Front.{Gave, bytes_of, IsReadIn, IsReadIfTold, IsWholeIn, IsWholeIfTold, ReadsOn}
use Rattle.file_runs.specs.Gain.{Text, HasGained, GainedMore, IsFront}
use Rattle.file_runs.specs.Outcome.{Due, EndsDue, EndsToldOrBlind, Quiet, IsWholeLines, Ran, RanOnShelf, SomeFront}
use Rattle.file_runs.specs.Lines.{after, bytes_for_lines, cut_text, file_due, file_limit, go_on, is_over, process}
use Rattle.file_runs.specs.Lines.{refusal, unended_due}
use Rattle.file_runs.specs.Gathering.{HasGainedAtFault, IsPartGathered, GoesOn, NoFurther, ReadAsFar}
use Rattle.file_runs.specs.Gathering.{ReadAsFarOfContents, SoFar, WroteByLines, WroteEnded, WroteEndedIfTold}
use Rattle.file_runs.specs.Gathering.{pieces_after, due_behind, ended_text, last_piece, limit_due, open_line}
use Rattle.file_runs.specs.Gathering.{waiting_at}
use Rattle.file_runs.proofs.Cuttings.{cut_short}
use Rattle.file_runs.proofs.Fronts.{start}
use Rattle.file_runs.proofs.Gains.{gained_more}
use Rattle.file_runs.proofs.Parts.{begins, behind_none, comes, ends}
use Rattle.file_runs.proofs.WholeFiles.{ran_blind, ran_told}

-- The first bytes of the file were read and run: from line n on, of which some bytes came, the rest of it is due.
pub record FileSoFar {S : Type 0} (advance : S → ℕ → Text → Result (S × Text) LineFault) (closing : S → Due)
    (first : S) (told : Option Contents) (name : Text) (at n : ℕ) (s : S) (before : Text) (o0 o1 : SinkSeen) : Type 0
  where
    pub front : Text
    pub is_read : IsReadIfTold told name front
    pub size : length front ≡ at
    pub so_far : SoFar (λ over left. process advance closing over 1 first (pieces (front ++ left)))
        (λ over left. due_behind advance closing over n s before left) [] o0 o1

-- from a past on, now by one that what is kept now follows
pub record FileSoFarBy {S : Type 0} (follows : S → Type 0) (advance : S → ℕ → Text → Result (S × Text) LineFault)
    (closing : S → Due) (first : S) (told : Option Contents) (name : Text) (at n : ℕ) (before : Text)
    (o0 o1 : SinkSeen) : Type 0 where
  pub past : S
  pub followed : follows past
  pub so_far : FileSoFar advance closing first told name at n past before o0 o1

-- before the first byte
pub file_begins : {S : Type 0} (advance : S → ℕ → Text → Result (S × Text) LineFault) (closing : S → Due) (first : S)
    (told : Option Contents) (name : Text) (n : ℕ) (before : Text) (sink : SinkSeen) → n ≡ 1 → before ≡ []
    → FileSoFar advance closing first told name 0 n first before sink sink
file_begins advance closing first told name n before sink one none =
    let due : Bool → Text → Due = λ over left. process advance closing over 1 first (pieces left) in
    let later : Bool → Text → Due = λ over left. due_behind advance closing over n first before left in
    record {
      front = [];
      is_read = start told name;
      size = refl;
      so_far = begins due later sink
          (λ over left. rw (one, none)
          (ap (λ (ps : List Text). process advance closing over 1 first ps) (sym (behind_none left))));
    }

-- of a piece that comes next
pub piece_ahead : {S : Type 0} (advance : S → ℕ → Text → Result (S × Text) LineFault) (closing : S → Due) (first : S)
    (told : Option Contents) (name : Text) (at n : ℕ) (s : S) (before piece : Text) (o0 o1 : SinkSeen)
    → (f : FileSoFar advance closing first told name at n s before o0 o1)
    → SoFar (λ over left. process advance closing over 1 first (pieces ((f.front ++ piece) ++ left)))
    (λ over left. due_behind advance closing over n s before (piece ++ left)) [] o0 o1
piece_ahead advance closing first told name at n s before piece o0 o1 f = record {
  text = f.so_far.text;
  goes_on = λ over left. ap (λ (t : Text). process advance closing over 1 first (pieces t))
      (append_assoc f.front piece left) ∙ f.so_far.goes_on over (piece ++ left);
  whole = f.so_far.whole;
  gained = f.so_far.gained;
}

-- one more piece
pub file_goes_on : {S : Type 0} (advance : S → ℕ → Text → Result (S × Text) LineFault) (closing : S → Due) (first : S)
    (told : Option Contents) (name : Text) (at n m k : ℕ) (s t : S) (before now piece : Text) (o0 o1 o2 : SinkSeen)
    → (f : FileSoFar advance closing first told name at n s before o0 o1) → IsReadIfTold told name (f.front ++ piece)
    → length piece ≡ k → SoFar (λ over left. due_behind advance closing over n s before (piece ++ left))
    (λ over left. due_behind advance closing over m t now left) [] o1 o2
    → FileSoFar advance closing first told name (at + k) m t now o0 o2
file_goes_on advance closing first told name at n m k s t before now piece o0 o1 o2 f read size more =
    let due : Bool → Text → Due = λ over left. process advance closing over 1 first
    (pieces ((f.front ++ piece) ++ left)) in
    let mid : Bool → Text → Due = λ over left. due_behind advance closing over n s before (piece ++ left) in
    let later : Bool → Text → Due = λ over left. due_behind advance closing over m t now left in
    record {
      front = f.front ++ piece;
      is_read = read;
      size = omega (arith, length-append f.front piece, f.size, size);
      so_far = comes due mid later [] [] more.text o0 o1 o2
          (piece_ahead advance closing first told name at n s before piece o0 o1 f) more.goes_on more.whole more.gained;
    }

-- ---- what is due of a file, by a prefix of it

take_front : (limit : ℕ) (front rest : Text) → length front ≤ limit → take limit (front ++ rest) ≡ front
    ++ take (limit - length front) rest
take_front limit front rest le =
    let sum : limit ≡ length front + (limit - length front) = omega arith in
    ap (λ (k : ℕ). take k (front ++ rest)) sum ∙ take-append-add front rest (limit - length front)

-- the bytes that lines are cut from begin with each prefix that counts
front_of_cut : (limit : ℕ) (front file : Text) → IsFront front file → length front ≤ limit
    → IsFront front (bytes_for_lines limit file)
front_of_cut limit front file (rest, e) le = by_feed (slice_index_or file limit 10 == 10)
  where
    by_feed : (b : Bool) → IsFront front (if b then take limit file else take (limit + 1) file)
    by_feed true = (take (limit - length front) rest, sym (take_front limit front rest le) ∙ ap (take limit) e)
    by_feed false = (
      take ((limit + 1) - length front) rest,
      sym (take_front (limit + 1) front rest (omega arith)) ∙ ap
          (take (limit + 1)) e,
    )

-- the run of a file ends at some end of the run after a prefix of it
in_file : {S : Type 0} (advance : S → ℕ → Text → Result (S × Text) LineFault) (closing : S → Due) (first : S)
    (file : Option Text) (front : Text) (s0 s1 : ℕ) (o0 o1 : SinkSeen) (r : Result End Fault) → IsReadIn file front
    → 0 < length front → length front ≤ file_limit → s1 ≡ s0
    → ((over : Bool) (left : Text) → Ran (process advance closing over 1 first (pieces (front ++ left))) o0 o1 r)
    → EndsDue (option_map (file_due advance closing first) file) (Rose s0 s1) (Rose o0.faults o1.faults)
    (Quiet s0 s1 o0.faults o1.faults) (HasGained o0.held o1.held) r
in_file advance closing first None front s0 s1 o0 o1 r read some le same ran = absurd (omega (arith, ap length read))
in_file advance closing first (Some file) front s0 s1 o0 o1 r read some le same ran =
    let cut = front_of_cut file_limit front file read le in
    let P : Text → Type 0 = λ t. Ran (process advance closing (is_over file) 1 first (pieces t)) o0 o1 r in
    ran_told (Some (file_due advance closing first file)) (file_due advance closing first file) s0 s1 o0.faults
    o1.faults (HasGained o0.held o1.held) r refl same (subst P cut.1 (ran (is_over file) cut.0))

pub in_told : {S : Type 0} (advance : S → ℕ → Text → Result (S × Text) LineFault) (closing : S → Due) (first : S)
    (name front : Text) (s0 s1 : ShelfSeen) (o0 o1 : SinkSeen) (r : Result End Fault)
    → IsReadIfTold s0.contents name front → 0 < length front → length front ≤ file_limit → s1.faults ≡ s0.faults
    → ((over : Bool) (left : Text) → Ran (process advance closing over 1 first (pieces (front ++ left))) o0 o1 r)
    → RanOnShelf (λ contents. option_map (file_due advance closing first) (contents name)) s0 s1 o0 o1 r
in_told advance closing first name front s0 s1 o0 o1 r read some le same ran = by_told s0.contents read
  where
    by_told : (told : Option Contents) → IsReadIfTold told name front
        → EndsToldOrBlind told (λ contents. option_map (file_due advance closing first) (contents name))
        (Rose s0.faults s1.faults) (Rose o0.faults o1.faults) (Quiet s0.faults s1.faults o0.faults o1.faults)
        (HasGained o0.held o1.held) r
    by_told None read = ran_blind (process advance closing true 1 first (pieces (front ++ []))) s0.faults s1.faults
        o0.faults o1.faults (HasGained o0.held o1.held) r same (ran true [])
    by_told (Some contents) read = in_file advance closing first (contents name) front s0.faults s1.faults o0 o1 r read
        some le same ran

-- ---- an end at a piece

pub end_in_piece : {S : Type 0} (advance : S → ℕ → Text → Result (S × Text) LineFault) (closing : S → Due) (first : S)
    (name : Text) (at n : ℕ) (s : S) (before piece : Text) (s0 s1 : ShelfSeen) (o0 o1 o2 : SinkSeen)
    (r : Result End Fault) → (f : FileSoFar advance closing first s0.contents name at n s before o0 o1)
    → IsReadIfTold s0.contents name (f.front ++ piece) → 0 < length piece → at + length piece ≤ file_limit → s1.faults
    ≡ s0.faults → ((over : Bool) (left : Text) → Ran (due_behind advance closing over n s before (piece ++ left)) o1 o2
    r) → RanOnShelf (λ contents. option_map (file_due advance closing first) (contents name)) s0 s1 o0 o2 r
end_in_piece advance closing first name at n s before piece s0 s1 o0 o1 o2 r f read some le same ran =
    in_told advance closing first name (f.front ++ piece) s0 s1 o0 o2 r read
    (omega (arith, length-append f.front piece)) (omega (arith, length-append f.front piece, f.size)) same
    (λ over left. ends (λ over left. process advance closing over 1 first (pieces ((f.front ++ piece) ++ left)))
    (λ over left. due_behind advance closing over n s before (piece ++ left)) []
    (due_behind advance closing over n s before (piece ++ left)) o0 o1
    o2 r over left (piece_ahead advance closing first s0.contents name at n s before piece o0 o1 f) refl
    (ran over left))

-- ---- the end of the file

whole_in : {S : Type 0} (advance : S → ℕ → Text → Result (S × Text) LineFault) (closing : S → Due) (first : S)
    (file : Option Text) (front : Text) (s0 s1 : ℕ) (o0 o1 : SinkSeen) (r : Result End Fault) → IsWholeIn file front
    → length front ≤ file_limit → s1 ≡ s0 → Ran (process advance closing false 1 first (pieces (front ++ []))) o0 o1 r
    → EndsDue (option_map (file_due advance closing first) file) (Rose s0 s1) (Rose o0.faults o1.faults)
    (Quiet s0 s1 o0.faults o1.faults) (HasGained o0.held o1.held) r
whole_in advance closing first None front s0 s1 o0 o1 r whole le same ran = absurd whole
whole_in advance closing first (Some file) front s0 s1 o0 o1 r whole le same ran =
    let f : Bool → Text → Due = λ over text. process advance closing over 1 first (pieces text) in
    let text : front ++ [] ≡ cut_text front = append-nil front ∙ cut_short file_limit front le in
    let due : f false (front ++ []) ≡ file_due advance closing first file = ap₂ f
    (sym (le-ltb file_limit (length front) le)) text ∙ ap (file_due advance closing first) whole in
    ran_told (Some (file_due advance closing first file)) (file_due advance closing first file) s0 s1 o0.faults
    o1.faults (HasGained o0.held o1.held) r refl same (subst (λ (d : Due). Ran d o0 o1 r) due ran)

pub end_of_file : {S : Type 0} (advance : S → ℕ → Text → Result (S × Text) LineFault) (closing : S → Due) (first : S)
    (name : Text) (at n : ℕ) (s : S) (before : Text) (s0 s1 : ShelfSeen) (o0 o1 o2 : SinkSeen) (r : Result End Fault)
    → (f : FileSoFar advance closing first s0.contents name at n s before o0 o1)
    → IsWholeIfTold s0.contents name (f.front ++ []) → at ≤ file_limit → s1.faults ≡ s0.faults
    → Ran (process advance closing false n s (before ∷ [])) o1 o2 r
    → RanOnShelf (λ contents. option_map (file_due advance closing first) (contents name)) s0 s1 o0 o2 r
end_of_file advance closing first name at n s before s0 s1 o0 o1 o2 r f whole le same ran = by_told s0.contents
    (subst (λ (t : Text). IsWholeIfTold s0.contents name t) (append-nil f.front) whole)
  where
    all : Ran (process advance closing false 1 first (pieces (f.front ++ []))) o0 o2 r
    all = ends (λ over left. process advance closing over 1 first (pieces (f.front ++ left)))
        (λ over left. due_behind advance closing over n s before left) []
        (process advance closing false n s (before ∷ [])) o0 o1 o2 r false [] f.so_far
        (ap (λ (t : Text). process advance closing false n s (t ∷ [])) (append-nil before)) ran

    by_told : (told : Option Contents) → IsWholeIfTold told name f.front
        → EndsToldOrBlind told (λ contents. option_map (file_due advance closing first) (contents name))
        (Rose s0.faults s1.faults) (Rose o0.faults o2.faults) (Quiet s0.faults s1.faults o0.faults o2.faults)
        (HasGained o0.held o2.held) r
    by_told None whole = ran_blind (process advance closing false 1 first (pieces (f.front ++ []))) s0.faults s1.faults
        o0.faults o2.faults (HasGained o0.held o2.held) r same all
    by_told (Some contents) whole = whole_in advance closing first (contents name) f.front s0.faults s1.faults o0 o2 r
        whole (omega (arith, f.size)) same all

-- ---- the first byte that counts no more

cut_seam : (limit : ℕ) (front rest : Text) (byte : ℕ) → length front ≡ limit
    → bytes_for_lines limit ((front ++ byte ∷ []) ++ rest) ≡ (if byte == 10 then front else front ++ byte ∷ [])
cut_seam limit front rest byte size =
    let file = front ++ byte ∷ rest in
    let joined : (front ++ byte ∷ []) ++ rest ≡ file = append_assoc front (byte ∷ []) rest in
    let there : slice_index_or file limit 10 ≡ byte = ap (λ (k : ℕ). slice_index_or file k 10) (sym size) ∙
    get_or-append_seam front byte rest 10 in
    let short : take limit file ≡ front = ap (λ (k : ℕ). take k file) (sym size) ∙ take-append_seam front (byte ∷ rest)
    in
    let long : take (limit + 1) file ≡ front ++ byte ∷ [] = ap (λ (k : ℕ). take (k + 1) file) (sym size) ∙
    take-append-add front (byte ∷ rest) 1 in
    ap (bytes_for_lines limit) joined ∙ by_feed file there short long
  where
    by_feed : (file : Text) → slice_index_or file limit 10 ≡ byte → take limit file ≡ front → take (limit + 1) file
        ≡ front ++ byte ∷ [] → bytes_for_lines limit file ≡ (if byte == 10 then front else front ++ byte ∷ [])
    by_feed file there short long = rw (there, short, long) refl

unended_at : {S : Type 0} (advance : S → ℕ → Text → Result (S × Text) LineFault) (closing : S → Due) (n : ℕ) (s : S)
    (before : Text) → due_behind advance closing true n s before [] ≡ unended_due n before
unended_at advance closing n s before = ap (unended_due n) (append-nil before)

unended_by : {S : Type 0} (advance : S → ℕ → Text → Result (S × Text) LineFault) (closing : S → Due) (n : ℕ) (s : S)
    (before : Text) (byte : ℕ) → (byte == 10) ≡ false
    → due_behind advance closing true n s before (byte ∷ []) ≡ unended_due n (before ++ byte ∷ [])
unended_by advance closing n s before byte is =
    let one : pieces (byte ∷ []) ≡ (byte ∷ []) ∷ [] = rw is refl in
    ap (λ (ps : List Text). process advance closing true n s (pieces_after before ps)) one

limit_ran : {S : Type 0} (advance : S → ℕ → Text → Result (S × Text) LineFault) (closing : S → Due) (first : S)
    (told : Option Contents) (name : Text) (at n : ℕ) (s : S) (before : Text) (byte : ℕ) (o0 o1 o2 : SinkSeen)
    (r : Result End Fault) → (f : FileSoFar advance closing first told name at n s before o0 o1) → (b : Bool)
    → (byte == 10) ≡ b → Ran (unended_due n (if b then before else before ++ byte ∷ [])) o1 o2 r
    → Ran (process advance closing true 1 first (pieces (if b then f.front else f.front ++ byte ∷ []))) o0 o2 r
limit_ran advance closing first told name at n s before byte o0 o1 o2 r f true is ran =
    let P : Text → Type 0 = λ t. Ran (process advance closing true 1 first (pieces t)) o0 o2 r in
    subst P (append-nil f.front)
    (ends (λ over left. process advance closing over 1 first (pieces (f.front ++ left)))
    (λ over left. due_behind advance closing over n s before left) [] (unended_due n before) o0 o1 o2 r true [] f.so_far
    (unended_at advance closing n s before) ran)
limit_ran advance closing first told name at n s before byte o0 o1 o2 r f false is ran =
    ends (λ over left. process advance closing over 1 first (pieces (f.front ++ left)))
    (λ over left. due_behind advance closing over n s before left) [] (unended_due n (before ++ byte ∷ [])) o0 o1 o2 r
    true (byte ∷ []) f.so_far
    (unended_by advance closing n s before byte is) ran

limit_in : {S : Type 0} (advance : S → ℕ → Text → Result (S × Text) LineFault) (closing : S → Due) (first : S)
    (file : Option Text) (front : Text) (byte s0 s1 : ℕ) (o0 o1 : SinkSeen) (r : Result End Fault)
    → IsReadIn file (front ++ byte ∷ []) → length front ≡ file_limit → s1 ≡ s0
    → Ran (process advance closing true 1 first (pieces (if byte == 10 then front else front ++ byte ∷ []))) o0 o1 r
    → EndsDue (option_map (file_due advance closing first) file) (Rose s0 s1) (Rose o0.faults o1.faults)
    (Quiet s0 s1 o0.faults o1.faults) (HasGained o0.held o1.held) r
limit_in advance closing first None front byte s0 s1 o0 o1 r read size same ran = absurd
    (omega (arith, length-append front (byte ∷ []), ap length read))
limit_in advance closing first (Some file) front byte s0 s1 o0 o1 r (rest, e) size same ran =
    let f : Bool → Text → Due = λ over text. process advance closing over 1 first (pieces text) in
    let text : (if byte == 10 then front else front ++ byte ∷ [])
    ≡ cut_text file = sym (cut_seam file_limit front rest byte size) ∙ ap cut_text e in
    let over : true ≡ is_over file = sym
    (lt-ltb file_limit (length file)
    (omega (arith, length-append front (byte ∷ []), length-append (front ++ byte ∷ []) rest, ap length e))) in
    ran_told (Some (file_due advance closing first file)) (file_due advance closing first file) s0 s1 o0.faults
    o1.faults (HasGained o0.held o1.held) r refl same (subst (λ (d : Due). Ran d o0 o1 r) (ap₂ f over text) ran)

pub end_at_limit : {S : Type 0} (advance : S → ℕ → Text → Result (S × Text) LineFault) (closing : S → Due) (first : S)
    (name : Text) (at n : ℕ) (s : S) (before : Text) (byte : ℕ) (s0 s1 : ShelfSeen) (o0 o1 o2 : SinkSeen)
    (r : Result End Fault) → (f : FileSoFar advance closing first s0.contents name at n s before o0 o1) → at
    ≡ file_limit → IsReadIfTold s0.contents name (f.front ++ byte ∷ []) → s1.faults ≡ s0.faults
    → Ran (limit_due n before byte) o1 o2 r → RanOnShelf
    (λ contents. option_map (file_due advance closing first) (contents name)) s0 s1 o0 o2 r
end_at_limit advance closing first name at n s before byte s0 s1 o0 o1 o2 r f is read same ran = by_told s0.contents
    read
  where
    all : Ran (process advance closing true 1 first (pieces (if byte == 10 then f.front else f.front ++ byte ∷ []))) o0
        o2 r
    all = limit_ran advance closing first s0.contents name at n s before byte o0 o1 o2 r f (byte == 10) refl ran

    by_told : (told : Option Contents) → IsReadIfTold told name (f.front ++ byte ∷ [])
        → EndsToldOrBlind told (λ contents. option_map (file_due advance closing first) (contents name))
        (Rose s0.faults s1.faults) (Rose o0.faults o2.faults) (Quiet s0.faults s1.faults o0.faults o2.faults)
        (HasGained o0.held o2.held) r
    by_told None read = ran_blind
        (process advance closing true 1 first (pieces (if byte == 10 then f.front else f.front ++ byte ∷ []))) s0.faults
        s1.faults o0.faults o2.faults (HasGained o0.held o2.held) r same all
    by_told (Some contents) read = limit_in advance closing first (contents name) f.front byte s0.faults s1.faults o0 o2
        r read (f.size ∙ is) same all

-- ---- a fault

-- nothing is due of a line that has begun and may go on
abbrev unended_short : Due
unended_short = (end.TooLong, [])

-- the lines that ended in the prefix have their text, and the one that has begun is not too long
ended_there : {S : Type 0} (advance : S → ℕ → Text → Result (S × Text) LineFault) (closing : S → Due) (first : S)
    (told : Option Contents) (name : Text) (at n : ℕ) (s : S) (before : Text) (o0 o1 : SinkSeen)
    → (f : FileSoFar advance closing first told name at n s before o0 o1) → length before ≤ 20000
    → process advance closing true 1 first (pieces f.front) ≡ after f.so_far.text unended_short
ended_there advance closing first told name at n s before o0 o1 f short =
    let none : unended_due n before ≡ unended_short = rw (le-ltb 20000 (length before) short) refl in
    ap (λ (t : Text). process advance closing true 1 first (pieces t)) (sym (append-nil f.front)) ∙ f.so_far.goes_on
    true [] ∙ ap (after f.so_far.text) (unended_at advance closing n s before ∙ none)

-- what was written is the text of the lines that ended
text_is : {S : Type 0} (advance : S → ℕ → Text → Result (S × Text) LineFault) (closing : S → Due) (first : S)
    (told : Option Contents) (name : Text) (at n : ℕ) (s : S) (before : Text) (o0 o1 : SinkSeen)
    → (f : FileSoFar advance closing first told name at n s before o0 o1) → length before ≤ 20000 → f.so_far.text
    ≡ ended_text advance closing first f.front
text_is advance closing first told name at n s before o0 o1 f short =
    sym (ap (λ (d : Due). d.1) (ended_there advance closing first told name at n s before o0 o1 f short) ∙ append-nil
    f.so_far.text)

-- pieces whose last one is refused for no length end in one of 20,000 bytes at most
last_short : {S : Type 0} (advance : S → ℕ → Text → Result (S × Text) LineFault) (closing : S → Due) (n : ℕ) (s : S)
    (ps : List Text) → (process advance closing true n s ps).0 ≡ end.TooLong → length (last_piece ps) ≤ 20000
last_short advance closing n s [] ends = omega arith
last_short advance closing n s (piece ∷ []) ends = by_test (nat_lt 20000 (length piece)) refl ends
  where
    by_test : (b : Bool) → nat_lt 20000 (length piece) ≡ b → (if b then refusal n line.TooLong else unended_short).0
        ≡ end.TooLong → length piece ≤ 20000
    by_test true is ends = absurd cc
    by_test false is ends = ltb-false 20000 (length piece) is
last_short {S} advance closing n s (piece ∷ next ∷ rest) ends = by_line (advance s n piece)
    (λ t. last_short advance closing (n + 1) t (next ∷ rest)) ends
  where
    by_line : (r : Result (S × Text) LineFault) →
        ((t : S) → (process advance closing true (n + 1) t (next ∷ rest)).0 ≡ end.TooLong
        → length (last_piece (next ∷ rest)) ≤ 20000)
        → (go_on n r (λ t. process advance closing true (n + 1) t (next ∷ rest))).0 ≡ end.TooLong
        → length (last_piece (next ∷ rest)) ≤ 20000
    by_line (Ok came) later ends = later came.0 ends
    by_line (Err fault) later ends = absurd cc

open_line_short : {S : Type 0} (advance : S → ℕ → Text → Result (S × Text) LineFault) (closing : S → Due) (first : S)
    (told : Option Contents) (name : Text) (at n : ℕ) (s : S) (before : Text) (o0 o1 : SinkSeen)
    → (f : FileSoFar advance closing first told name at n s before o0 o1) → length before ≤ 20000
    → length (open_line f.front) ≤ 20000
open_line_short advance closing first told name at n s before o0 o1 f short = last_short advance closing 1 first
    (pieces f.front) (ap (λ (d : Due). d.0) (ended_there advance closing first told name at n s before o0 o1 f short))

all_gained : (o0 o1 : SinkSeen) (text : Text) → IsPartGathered text [] o0 o1 → HasGained o0.held o1.held text
all_gained o0 o1 text g = let P : Text → Type 0 = λ t. HasGained o0.held o1.held t in subst P
    (sym (append-nil g.0) ∙ g.1)
    g.2

pub gained_ended : {S : Type 0} (advance : S → ℕ → Text → Result (S × Text) LineFault) (closing : S → Due) (first : S)
    (told : Option Contents) (name : Text) (at n : ℕ) (s : S) (before : Text) (o0 o1 : SinkSeen)
    → (f : FileSoFar advance closing first told name at n s before o0 o1) → length before ≤ 20000
    → HasGained o0.held o1.held (ended_text advance closing first f.front)
gained_ended advance closing first told name at n s before o0 o1 f short =
    let P : Text → Type 0 = λ t. HasGained o0.held o1.held t in
    subst P (text_is advance closing first told name at n s before o0 o1 f short)
    (all_gained o0 o1 f.so_far.text f.so_far.gained)

abbrev WroteIn : Fault → (Text → Text) → Text → ShelfSeen → ShelfSeen → SinkSeen → SinkSeen → Type 0
WroteIn e text file s0 s1 o0 o1 = WroteByLines e (length file) (λ n. text (take n file)) (λ n. take n file) s0 s1 o0 o1

wrote_all : (e : Fault) (text : Text → Text) (file front piece : Text) (s0 s1 : ShelfSeen) (o0 o1 : SinkSeen)
    → IsFront (front ++ piece) file → Gave s0.given (length front + length piece) s1.given
    → length piece ≤ waiting_at e s1 → length piece ≤ 4096 → length (open_line front) ≤ 20000
    → HasGainedAtFault e o0.held o1.held (text front) → WroteIn e text file s0 s1 o0 o1
wrote_all e text file front piece s0 s1 o0 o1 (rest, is) gave few ahead short gained =
    let same : front ≡ take (length front) file = sym (take-append_seam front (piece ++ rest)) ∙ ap
    (take (length front)) (sym (append_assoc front piece rest) ∙ is) in
    record {
      given = length front + length piece;
      ran = length front;
      within = omega (arith, length-append (front ++ piece) rest, length-append front piece, ap length is);
      gave = gave;
      most = omega arith;
      all_but = omega (arith, few);
      ahead = omega (arith, ahead);
      short = subst (λ (t : Text). length (open_line t) ≤ 20000) same short;
      gained = subst (λ (t : Text). HasGainedAtFault e o0.held o1.held (text t)) same gained;
    }

wrote_in : (e : Fault) (text : Text → Text) (file : Option Text) (front piece : Text) (s0 s1 : ShelfSeen)
    (o0 o1 : SinkSeen) → IsReadIn file (front ++ piece) → Gave s0.given (length front + length piece) s1.given
    → length piece ≤ waiting_at e s1 → length piece ≤ 4096 → length (open_line front) ≤ 20000
    → HasGainedAtFault e o0.held o1.held (text front) → WroteIn e text (bytes_of file) s0 s1 o0 o1
wrote_in e text None front piece s0 s1 o0 o1 read gave few ahead short gained =
    wrote_all e text [] front piece s0 s1 o0 o1 ([], append-nil (front ++ piece) ∙ read) gave few ahead short gained
wrote_in e text (Some file) front piece s0 s1 o0 o1 read gave few ahead short gained =
    wrote_all e text file front piece s0 s1 o0 o1 read gave few ahead short gained

-- ---- an end

all_read_in : {S : Type 0} (advance : S → ℕ → Text → Result (S × Text) LineFault) (closing : S → Due) (first : S)
    (file front piece : Text) (given latest : ℕ) → IsFront (front ++ piece) file → given ≡ length front + length piece
    → length piece ≡ latest
    → GoesOn advance closing first front → NoFurther (GoesOn advance closing first) file given (given - latest)
all_read_in advance closing first file front piece given latest (rest, is) all last goes_on =
    let ahead : given - latest ≡ length front = omega arith in
    let same : front ≡ take (given - latest) file = sym (take-append_seam front (piece ++ rest)) ∙ ap₂ take (sym ahead)
    (sym (append_assoc front piece rest) ∙ is) in (
      omega (arith, length-append (front ++ piece) rest, length-append front piece, ap length is),
      subst
          (λ (t : Text). GoesOn advance closing first t) same goes_on,
    )

all_read : {S : Type 0} (advance : S → ℕ → Text → Result (S × Text) LineFault) (closing : S → Due) (first : S)
    (file : Option Text) (front piece : Text) (given latest : ℕ) → IsReadIn file (front ++ piece) → given
    ≡ length front + length piece → length piece ≡ latest → GoesOn advance closing first front
    → NoFurther (GoesOn advance closing first) (bytes_of file) given (given - latest)
all_read advance closing first None front piece given latest read all last goes_on = all_read_in advance closing first
    [] front piece given latest ([], append-nil (front ++ piece) ∙ read) all last goes_on
all_read advance closing first (Some file) front piece given latest read all last goes_on = all_read_in advance closing
    first file front piece given latest read all last goes_on

-- the last piece that was read is the one in which the run ended
pub no_further : {S : Type 0} (advance : S → ℕ → Text → Result (S × Text) LineFault) (closing : S → Due) (first : S)
    (name : Text) (at n : ℕ) (s : S) (before piece : Text) (s0 s1 : ShelfSeen) (o0 o1 : SinkSeen) (r : Result End Fault)
    → (f : FileSoFar advance closing first s0.contents name at n s before o0 o1)
    → IsReadIfTold s0.contents name (f.front ++ piece) → length before ≤ 20000 → length piece ≡ s1.latest
    → Gave s0.given (at + length piece) s1.given
    → IfOk r (λ e. ReadAsFar (λ contents. NoFurther (GoesOn advance closing first) (bytes_of (contents name))) s0 s1)
no_further advance closing first name at n s before piece s0 s1 o0 o1 (Err e) f read short last gave = tt
no_further advance closing first name at n s before piece s0 s1 o0 o1 (Ok e) f read short last gave = by_told
    s0.contents read
  where
    by_told : (told : Option Contents) → IsReadIfTold told name (f.front ++ piece)
        → ReadAsFarOfContents (λ contents. NoFurther (GoesOn advance closing first) (bytes_of (contents name))) told s0
        s1
    by_told None read = tt
    by_told (Some contents) read = (
      at + length piece,
      gave,
      all_read advance closing first (contents name) f.front piece (at + length piece) s1.latest read
          (omega (arith, f.size)) last
          (ap (λ (d : Due). d.0) (ended_there advance closing first s0.contents name at n s before o0 o1 f short)),
    )

-- ---- a fault, by what was written

-- what a fault leaves that comes once a piece was read: what was gained by then, and what more
pub fault_wrote : {S : Type 0} (advance : S → ℕ → Text → Result (S × Text) LineFault) (closing : S → Due) (first : S)
    (e : Fault) (name : Text) (at n : ℕ) (s : S) (before piece : Text) (s0 s1 : ShelfSeen) (o0 o1 o2 : SinkSeen)
    → (f : FileSoFar advance closing first s0.contents name at n s before o0 o1)
    → IsReadIfTold s0.contents name (f.front ++ piece) → length before ≤ 20000 → length piece ≤ waiting_at e s1
    → length piece ≤ 4096 → Gave s0.given (at + length piece) s1.given
    → ((text : Text) → HasGained o0.held o1.held text → HasGainedAtFault e o0.held o2.held text)
    → WroteEnded e (ended_text advance closing first) name s0 s1 o0 o2
fault_wrote advance closing first e name at n s before piece s0 s1 o0 o1 o2 f read short few ahead gave more = by_told
    s0.contents read
  where
    given : Gave s0.given (length f.front + length piece) s1.given
    given = let P : ℕ → Type 0 = λ k. Gave s0.given (k + length piece) s1.given in subst P (sym f.size) gave

    by_told : (told : Option Contents) → IsReadIfTold told name (f.front ++ piece)
        → WroteEndedIfTold e (ended_text advance closing first) told name s0 s1 o0 o2
    by_told None read = tt
    by_told (Some contents) read =
        wrote_in e (ended_text advance closing first) (contents name) f.front piece s0 s1 o0 o2 read given few ahead
        (open_line_short advance closing first s0.contents name at n s before o0 o1 f short)
        (more (ended_text advance closing first f.front)
        (gained_ended advance closing first s0.contents name at n s before o0 o1 f short))

pub nothing_more : (told : Option Contents) (name front : Text) → IsReadIfTold told name front
    → IsReadIfTold told name (front ++ [])
nothing_more told name front read = subst (λ (t : Text). IsReadIfTold told name t) (sym (append-nil front)) read

more_gained : (h0 h1 h2 : Option Text) (text later : Text) → HasGained h0 h1 text → SomeFront (HasGained h1 h2) later
    → GainedMore h0 h2 text
more_gained h0 h1 h2 text later was (front, is, gained) = (front, gained_more h0 h1 h2 text front was gained)

-- what runs after the lines that ended is cut off
pub cut_wrote : {S : Type 0} (advance : S → ℕ → Text → Result (S × Text) LineFault) (closing : S → Due) (first : S)
    (name : Text) (at n : ℕ) (s : S) (before piece : Text) (s0 s1 : ShelfSeen) (o0 o1 o2 : SinkSeen) (last : Due)
    (r : Result End Fault) → (f : FileSoFar advance closing first s0.contents name at n s before o0 o1)
    → IsReadIfTold s0.contents name (f.front ++ piece) → length before ≤ 20000 → length piece ≤ s1.latest
    → length piece ≤ 4096 → Gave s0.given (at + length piece) s1.given → Ran last o1 o2 r
    → IfErr r (λ e. WroteEnded e (ended_text advance closing first) name s0 s1 o0 o2)
cut_wrote advance closing first name at n s before piece s0 s1 o0 o1 o2 last (Ok e) f read short few ahead gave ran = tt
cut_wrote advance closing first name at n s before piece s0 s1 o0 o1 o2 last (Err fault.Read) f read short few ahead
    gave ran = absurd ran.0
cut_wrote advance closing first name at n s before piece s0 s1 o0 o1 o2 last (Err fault.Write) f read short few ahead
    gave ran =
    fault_wrote advance closing first fault.Write name at n s before piece s0 s1 o0 o1 o2 f read short few ahead gave
    (λ text was. more_gained o0.held o1.held o2.held text last.1 was ran.1)
cut_wrote advance closing first name at n s before piece s0 s1 o0 o1 o2 last (Err fault.Memory) f read short few ahead
    gave ran =
    fault_wrote advance closing first fault.Memory name at n s before piece s0 s1 o0 o1 o2 f read short few ahead gave
    (λ text was. more_gained o0.held o1.held o2.held text last.1 was ran)

-- memory is wanting before the first read
pub nothing_wrote : {S : Type 0} (advance : S → ℕ → Text → Result (S × Text) LineFault) (closing : S → Due) (first : S)
    (name : Text) (shelf : ShelfSeen) (sink : SinkSeen)
    → WroteEnded fault.Memory (ended_text advance closing first) name shelf shelf sink sink
unfolding file_begins
nothing_wrote advance closing first name shelf sink =
    fault_wrote advance closing first fault.Memory name 0 1 first [] [] shelf shelf sink sink sink
    (file_begins advance closing first shelf.contents name 1 [] sink refl refl) (start shelf.contents name)
    (omega arith) (omega arith) (omega arith)
    (omega arith, omega arith) (λ text was. ([], rw append-nil was))

-- the cause of a fault, and the whole lines that were written
fault_in : {S : Type 0} (advance : S → ℕ → Text → Result (S × Text) LineFault) (closing : S → Due) (first : S)
    (contents : Contents) (file : Option Text) (name front text : Text) (later : Bool → Text → Due) (s0 s1 : ℕ)
    (o0 o1 : SinkSeen) → contents name ≡ file → IsReadIn file front → length front ≤ file_limit → text
    ≡ ended_text advance closing first front → IsWholeLines text → HasGained o0.held o1.held text
    → ((over : Bool) (left : Text) → process advance closing over 1 first (pieces (front ++ left))
    ≡ after text (later over left)) → (Rose s0 s1 ⊎ (contents name ≡ None))
    → EndsDue (option_map (file_due advance closing first) file) (Rose s0 s1) (Rose o0.faults o1.faults)
    (Quiet s0 s1 o0.faults o1.faults) (HasGained o0.held o1.held) (Err fault.Read)
fault_in advance closing first contents None name front text later s0 s1 o0 o1 there read le is whole gained goes cause
    =
    let P : Text → Type 0 = λ t. HasGained o0.held o1.held t in subst P
    (is ∙ ap (ended_text advance closing first) read)
    gained
fault_in advance closing first contents (Some file) name front text later s0 s1 o0 o1 there read le is whole gained goes
    cause =
    let cut = front_of_cut file_limit front file read le in
    let due : file_due advance closing first file ≡ after text (later (is_over file) cut.0) = ap
    (λ (t : Text). process advance closing (is_over file) 1 first (pieces t)) (sym cut.1) ∙ goes (is_over file)
    cut.0 in
    let rose : Rose s0 s1 = elim cause [ inl rose ↦ rose | inr none ↦ absurd cc ] in
    (rose, (text, ((later (is_over file) cut.0).1, ap (λ (d : Due). d.1) (sym due)), whole, gained))

pub fault_answers : {S : Type 0} (advance : S → ℕ → Text → Result (S × Text) LineFault) (closing : S → Due) (first : S)
    (name : Text) (at n : ℕ) (s : S) (before : Text) (s0 s1 : ShelfSeen) (o0 o1 : SinkSeen) (e : ShelfFault)
    → FileSoFar advance closing first s0.contents name at n s before o0 o1 → at ≤ file_limit → length before ≤ 20000
    → ShelfCause s0.faults s1.faults s0.contents name (Err e)
    → RanOnShelf (λ contents. option_map (file_due advance closing first) (contents name)) s0 s1 o0 o1 (Err fault.Read)
fault_answers advance closing first name at n s before s0 s1 o0 o1 e f le short cause = by_told s0.contents f.is_read
    cause
  where
    by_told : (told : Option Contents) → IsReadIfTold told name f.front
        → ShelfCause s0.faults s1.faults told name (Err e)
        → EndsToldOrBlind told (λ contents. option_map (file_due advance closing first) (contents name))
        (Rose s0.faults s1.faults) (Rose o0.faults o1.faults) (Quiet s0.faults s1.faults o0.faults o1.faults)
        (HasGained o0.held o1.held) (Err fault.Read)
    by_told None read cause = elim cause.1 [ inl rose ↦ rose | inr none ↦ absurd none ]
    by_told (Some contents) read cause =
        fault_in advance closing first contents (contents name) name f.front f.so_far.text
        (λ over left. due_behind advance closing over n s before left) s0.faults s1.faults o0 o1 refl read
        (omega (arith, f.size))
        (text_is advance closing first s0.contents name at n s before o0 o1 f short) f.so_far.whole
        (all_gained o0 o1 f.so_far.text f.so_far.gained) f.so_far.goes_on cause.1

-- ---- what a read gave

pub whole_at : (told : Option Contents) (name front buf : Text) (n : ℕ) → n ≡ 0
    → ReadsOn {E = ShelfFault} told name (front ++ take n buf) (Ok n) → IsWholeIfTold told name (front ++ [])
whole_at told name front buf n none reads = let P : ℕ → Type 0 = λ k. IsWholeIfTold told name (front ++ take k buf) in
    subst
    P none (reads.1 none)

at_one : (n : ℕ) → (n ≡ 0 → ⊥) → n ≤ 1 → n ≡ 1
at_one zero some few = absurd (some refl)
at_one (suc n) some few = omega arith

pub one_byte : (told : Option Contents) (name front buf : Text) (n : ℕ) → (n ≡ 0 → ⊥) → n ≤ 1 → n ≤ length buf
    → ReadsOn {E = ShelfFault} told name (front ++ take n buf) (Ok n)
    → IsReadIfTold told name (front ++ slice_index_or buf 0 0 ∷ [])
one_byte told name front [] n some few within reads = absurd (some (omega arith))
one_byte told name front (byte ∷ buf) n some few within reads =
    let one : n ≡ 1 = at_one n some few in
    let P : ℕ → Type 0 = λ k. IsReadIfTold told name (front ++ take k (byte ∷ buf)) in
    subst P one reads.0
