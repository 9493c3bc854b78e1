-- A file that is read from its beginning.
use Rattle.std.proofs.Common.{◌≡◌, ◌<◌, ◌≤◌, ◌+◌, ℕ, [], ◌∷◌, ◌++◌, Option, Some, None, Result, Ok, Err, subst, refl}
use Rattle.std.proofs.Common.{sym, ap, ◌∙◌, append_assoc, take, drop, length, arith, length-append}
use Rattle.std.proofs.Math.Seq.{drop-append_seam}
use Rattle.std.specs.Prelude.{IfOk}
use Rattle.std.proofs.lemmas.List.{take-append-drop, take-append-le, append-nil, take_all}
use Rattle.cli_files.specs.declared.shelf.ShelfFault.{ShelfFault}
use Rattle.cli_files.specs.Outside.{Contents, ReadAt, ReadOrRefused, ReadIfTold}
use Rattle.file_runs.specs.Gain.{Text, IsFront}
use Rattle.file_runs.specs.Front.{FrontIn, FrontIfTold, Gave, GaveRestIfTold, GaveIfTold, bytes_of, IsReadIn}
use Rattle.file_runs.specs.Front.{IsReadIfTold, IsWholeIn, IsWholeIfTold, ReadsOn}

pub empty : (xs : Text) → length xs ≡ 0 → xs ≡ []
empty [] e = refl
empty (x ∷ xs) e = absurd (omega arith)

-- ---- one more piece

more_of_file : (file read buf : Text) (n : ℕ) → 0 < length buf → ReadAt file (length read) n buf → IsFront read file
    → IsFront (read ++ take n buf) file × (n ≡ 0 → (read ++ take n buf) ≡ file)
more_of_file file read buf n room r (rest, e) =
    let left : drop (length read) file ≡ rest = ap (drop (length read)) (sym e) ∙ drop-append_seam read rest in
    let piece : take n buf ≡ take n rest = r.front ∙ ap (take n) left in
    let goes : (read ++ take n buf) ++ drop n rest ≡ file = rw (piece, append_assoc, take-append-drop n rest) e in
    ((drop n rest, goes), λ z. done rest e left piece z (r.end z room))
  where
    done : (rest : Text) → read ++ rest ≡ file → drop (length read) file ≡ rest → take n buf ≡ take n rest → n ≡ 0
        → length file ≤ length read → (read ++ take n buf) ≡ file
    done rest e left piece z short =
        let none : rest ≡ [] = empty rest (omega (arith, length-append read rest, ap length e)) in
        rw (z, append-nil read) (sym (append-nil read) ∙ ap (λ (t : Text). read ++ t) (sym none) ∙ e)

more_in : (file : Option Text) (read buf : Text) (n : ℕ) → 0 < length buf → ReadOrRefused file (length read) (Ok n) buf
    → IsReadIn file read → IsReadIn file (read ++ take n buf) × (n ≡ 0 → IsWholeIn file (read ++ take n buf))
more_in None read buf n room h front = absurd h
more_in (Some file) read buf n room h front = more_of_file file read buf n room h front

pub reads_on : (told : Option Contents) (name read buf : Text) (n : ℕ) → 0 < length buf
    → ReadIfTold told name (length read) (Ok n) buf → IsReadIfTold told name read
    → IsReadIfTold told name (read ++ take n buf) × (n ≡ 0 → IsWholeIfTold told name (read ++ take n buf))
reads_on None name read buf n room h front = (tt, λ z. tt)
reads_on (Some contents) name read buf n room h front = more_in (contents name) read buf n room h front

-- a piece at the beginning of a buffer
pub piece_read : (told : Option Contents) (name : Text) (r : Result ℕ ShelfFault) (at : ℕ) (part rest : Text)
    → 0 < length part → IfOk r (λ n. n ≤ length part) → ReadIfTold told name at r part
    → IfOk r (λ n. (front : Text) → length front ≡ at → IsReadIfTold told name front
    → ReadsOn told name (front ++ take n (part ++ rest)) r)
piece_read told name (Err e) at part rest some le read = tt
piece_read told name (Ok n) at part rest some le read = λ front size is.
    rw (take-append-le n part rest le)
    (reads_on told name front part n some (subst (λ (k : ℕ). ReadIfTold told name k (Ok n) part) (sym size) read) is)

-- ---- the first and the last piece

start_in : (file : Option Text) → IsReadIn file []
start_in None = refl
start_in (Some file) = (file, refl)

pub start : (told : Option Contents) (name : Text) → IsReadIfTold told name []
start None name = tt
start (Some contents) name = start_in (contents name)

whole_in : (file : Option Text) (read : Text) (most : ℕ) → IsWholeIn file read → length read ≤ most
    → FrontIn most file read
whole_in None read most h le = absurd h
whole_in (Some file) read most e le = e ∙ sym (take_all most file (rw e at le))

pub whole : (told : Option Contents) (name read : Text) (most : ℕ) → IsWholeIfTold told name read → length read ≤ most
    → FrontIfTold told name most read
whole None name read most h le = tt
whole (Some contents) name read most h le = whole_in (contents name) read most h le

-- ---- counts

gave_in : (file : Option Text) (read : Text) (before now : ℕ) → IsReadIn file read → Gave before (length read) now
    → (n : ℕ) × (n ≤ length (bytes_of file)) × Gave before n now
gave_in None read before now none gave = (length read, omega (arith, ap length none), gave)
gave_in (Some file) read before now (rest, e) gave =
    (length read, omega (arith, length-append read rest, ap length e), gave)

pub gave_of : (told : Option Contents) (name read : Text) (before now : ℕ) → IsReadIfTold told name read
    → Gave before (length read) now → GaveIfTold told name before now
gave_of None name read before now is gave = tt
gave_of (Some contents) name read before now is gave = gave_in (contents name) read before now is gave

-- at a place, and then after it
pub gave_on : (told : Option Contents) (name : Text) (at a b c : ℕ) → Gave a at b → GaveRestIfTold told name at b c
    → GaveIfTold told name a c
gave_on None name at a b c gave more = tt
gave_on (Some contents) name at a b c gave (n, le, more) =
    (at + n, le, (omega (arith, gave.0, more.0), omega (arith, gave.1, more.1)))
