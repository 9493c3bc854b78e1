-- What was written so far, and what a part that comes later promises.
use Rattle.std.proofs.Common.{◌≡◌, ◌==◌, ℕ, ◌+◌, [], ◌∷◌, ◌++◌, length, Bool, false, Option, Result, Ok, Err}
use Rattle.std.proofs.Common.{refl, ap, ◌∙◌, append_assoc}
use Rattle.std.proofs.lemmas.List.{append-nil}
use Rattle.cli_files.specs.Outside.{Rose}
use Rattle.file_runs.specs.Pieces.{pieces}
use Rattle.file_runs.proofs.Cuts.{some}
use Rattle.script_events.specs.declared.fault.LineFault.{LineFault}
use Rattle.file_runs.specs.declared.ends.End.{End}
use Rattle.file_runs.specs.declared.ends.Fault.{Fault}
use Rattle.file_runs.specs.declared.ends.Fault.TheVariants as fault
use Rattle.file_runs.specs.Gain.{Text, HasGained}
use Rattle.file_runs.specs.Outcome.{Due, IsCutOff, EndsBy, SomeFront}
use Rattle.file_runs.specs.Lines.{after, go_on, process}
use Rattle.file_runs.proofs.Gains.{gained_more}

-- a line, and the pieces after it
pub process_line : {S : Type 0} (advance : S → ℕ → Text → Result (S × Text) LineFault) (closing : S → Due) (over : Bool)
    (n : ℕ) (s : S) (line rest : Text) → process advance closing over n s (line ∷ pieces rest)
    ≡ go_on n (advance s n line) (λ t. process advance closing over (n + 1) t (pieces rest))
process_line advance closing over n s line rest = let p = some rest in rw p.is refl

front_later : (h0 h1 h2 : Option Text) (w part rest whole : Text) → whole ≡ w ++ (part ++ rest) → HasGained h0 h1 w
    → SomeFront (HasGained h1 h2) part → SomeFront (HasGained h0 h2) whole
front_later h0 h1 h2 w part rest whole e gain (front, (more, is), gained) =
    let spelled : (w ++ front) ++ (more ++ rest) ≡ whole = rw e (rw (← is) (simp append_assoc)) in
    (w ++ front, (more ++ rest, spelled), gained_more h0 h1 h2 w front gain gained)

front_on : (due last : Due) (text : Text) (h0 h1 : Option Text) → due ≡ after text last
    → SomeFront (HasGained h0 h1) text → SomeFront (HasGained h0 h1) due.1
front_on due last text h0 h1 e (front, (rest, is), gained) =
    (front, (rest ++ last.1, rw e (rw (← is) (simp append_assoc))), gained)

-- a later part was cut off
pub cut_later : (e : Fault) (whole : Text) (h0 h1 h2 : Option Text) (f0 f1 f2 : ℕ) (w part rest : Text) → whole ≡ w
    ++ (part ++ rest) → HasGained h0 h1 w → f1 ≡ f0
    → IsCutOff part ⊥ (Rose f1 f2) (HasGained h1 h2) e → IsCutOff whole ⊥ (Rose f0 f2) (HasGained h0 h2) e
cut_later fault.Read whole h0 h1 h2 f0 f1 f2 w part rest e gain same h = absurd h.0
cut_later fault.Write whole h0 h1 h2 f0 f1 f2 w part rest e gain same h =
    (rw same at h.0, front_later h0 h1 h2 w part rest whole e gain h.1)
cut_later fault.Memory whole h0 h1 h2 f0 f1 f2 w part rest e gain same h = front_later h0 h1 h2 w part rest whole e gain
    h

-- a later part reached its end, or was cut off
pub ran_later : (r : Result End Fault) (due last : Due) (h0 h1 h2 : Option Text) (f0 f1 f2 : ℕ) (w : Text) → due
    ≡ after w last → HasGained h0 h1 w → f1 ≡ f0
    → EndsBy last ⊥ (Rose f1 f2) (f2 ≡ f1) (HasGained h1 h2) r → EndsBy due ⊥ (Rose f0 f2) (f2 ≡ f0) (HasGained h0 h2) r
ran_later (Ok s) due last h0 h1 h2 f0 f1 f2 w e gain same h = rw e
    (h.0, gained_more h0 h1 h2 w last.1 gain h.1, h.2 ∙ same)
ran_later (Err f) due last h0 h1 h2 f0 f1 f2 w e gain same h =
    cut_later f due.1 h0 h1 h2 f0 f1 f2 w last.1 [] (ap (λ (d : Due). d.1) e ∙ simp append-nil) gain same h

-- a last line without a line feed
pub one_line : {S : Type 0} (advance : S → ℕ → Text → Result (S × Text) LineFault) (closing : S → Due) (over : Bool)
    (n : ℕ) (s t : S) (piece text : Text) → over ≡ false → (length piece == 0) ≡ false → advance s n piece
    ≡ Ok (t, text) → process advance closing over n s (piece ∷ []) ≡ after text (closing t)
one_line advance closing over n s t piece text o some a = rw (o, some, a) refl

-- the text of a line was cut off
pub cut_line : (e : Fault) (due last : Due) (text : Text) (h0 h1 : Option Text) (f0 f1 : ℕ) → due ≡ after text last
    → IsCutOff text ⊥ (Rose f0 f1) (HasGained h0 h1) e → IsCutOff due.1 ⊥ (Rose f0 f1) (HasGained h0 h1) e
cut_line fault.Read due last text h0 h1 f0 f1 e h = absurd h.0
cut_line fault.Write due last text h0 h1 f0 f1 e h = (h.0, front_on due last text h0 h1 e h.1)
cut_line fault.Memory due last text h0 h1 f0 f1 e h = front_on due last text h0 h1 e h
