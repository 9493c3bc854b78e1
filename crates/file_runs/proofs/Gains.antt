-- One gain after another.
use Rattle.std.proofs.Common.{◌≡◌, ℕ, ◌++◌, Option, Some, None, ap, ◌∙◌, append_assoc, take, drop, length, ◌≤◌, ◌-◌}
use Rattle.std.proofs.Common.{arith, length-drop}
use Rattle.std.proofs.lemmas.List.{take_all, take-append-drop}
use Rattle.file_runs.specs.Gain.{Text, HasGained}

pub gained_more : (before mid now : Option Text) (front more : Text) → HasGained before mid front
    → HasGained mid now more → HasGained before now (front ++ more)
gained_more None mid now front more e f = rw e at f
gained_more (Some held) mid now front more e f =
    let g = rw e at f in
    g ∙ ap (λ (t : Text). Some t) (append_assoc held front more)

pub rest_after : (front rest text : Text) (n : ℕ) → n ≤ length rest → front ++ rest ≡ text → (front ++ take n rest)
    ++ take (length rest - n) (drop n rest) ≡ text
rest_after front rest text n le e =
    let whole : take (length rest - n) (drop n rest) ≡ drop n rest = take_all (length rest - n) (drop n rest)
    (omega (arith, length-drop n rest)) in
    rw (whole, append_assoc, take-append-drop n rest) e
