-- What bytes written over bodies keep.
use Rattle.std.proofs.Common.{◌≡◌, ℕ, List, [], ◌∷◌, ◌++◌, length, take, drop, refl, ap, ◌∙◌, arith, length-append}
use Rattle.std.proofs.Common.{length-take, length-drop}
use Rattle.std.proofs.lemmas.List.{drop_all, take-append-drop, take_all}
use Rattle.ide_prefix.specs.CollectedUnits.{Collected, heads_of, bodies_of, body_of, overwritten_bytes}
use Rattle.ide_prefix.specs.CollectedUnits.{packets_with_bodies, lengths_of, KeepsLengths}

heads_of-packets_with_bodies : (ps : List (List ℕ × List ℕ)) (s : List ℕ) → heads_of (packets_with_bodies ps s)
    ≡ heads_of ps
heads_of-packets_with_bodies [] s = refl
heads_of-packets_with_bodies (p ∷ ps) s = ap (λ (t : List ℕ). p.0 ++ t)
    (heads_of-packets_with_bodies ps (drop (length p.1) s))

-- what is left for the packets after the first
rest_long : (p : List ℕ × List ℕ) (ps : List (List ℕ × List ℕ)) (s : List ℕ) → length s ≡ length (bodies_of (p ∷ ps))
    → length (drop (length p.1) s) ≡ length (bodies_of ps)
rest_long p ps s e = omega (arith, e, length-append p.1 (bodies_of ps), length-drop (length p.1) s)

bodies_of-packets_with_bodies : (ps : List (List ℕ × List ℕ)) (s : List ℕ) → length s ≡ length (bodies_of ps)
    → bodies_of (packets_with_bodies ps s) ≡ s
bodies_of-packets_with_bodies [] s e = take_all 0 s (omega (arith, e))
bodies_of-packets_with_bodies (p ∷ ps) s e =
    ap (λ (t : List ℕ). take (length p.1) s ++ t)
    (bodies_of-packets_with_bodies ps (drop (length p.1) s) (rest_long p ps s e)) ∙
    take-append-drop (length p.1) s

lengths_of-packets_with_bodies : (ps : List (List ℕ × List ℕ)) (s : List ℕ) → length s ≡ length (bodies_of ps)
    → lengths_of (packets_with_bodies ps s) ≡ lengths_of ps
lengths_of-packets_with_bodies [] s e = refl
lengths_of-packets_with_bodies (p ∷ ps) s e =
    let long : length (take (length p.1) s) ≡ length p.1 = omega
    (arith, e, length-append p.1 (bodies_of ps), length-take (length p.1) s) in
    λ i. (length p.0, long i) ∷ lengths_of-packets_with_bodies ps (drop (length p.1) s) (rest_long p ps s e) i

append_none : (s : List ℕ) → s ++ [] ≡ s
append_none [] = refl
append_none (x ∷ xs) = ap (λ (t : List ℕ). x ∷ t) (append_none xs)

overwritten_all : (old new : List ℕ) → length new ≡ length old → overwritten_bytes old new ≡ new
overwritten_all old new e =
    let none : drop (length new) old ≡ [] = drop_all (length new) old (omega (arith, e)) in
    rw (none, append_none new) (take_all (length old) new (omega (arith, e)))

pub keeps : (unit : Collected) (bytes : List ℕ) → length bytes ≡ length (body_of unit) → KeepsLengths unit bytes
keeps unit bytes e =
    let is = overwritten_all (body_of unit) bytes e in
    record {
      body = rw is (bodies_of-packets_with_bodies unit.packets bytes e);
      aad = ap (λ (t : List ℕ). unit.ahead ++ t) (heads_of-packets_with_bodies unit.packets _);
      lengths = rw is (lengths_of-packets_with_bodies unit.packets bytes e);
    }
