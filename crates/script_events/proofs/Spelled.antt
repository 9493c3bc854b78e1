-- Parts of lines that several families of events have: what was read of words is what they spell, and the other way
-- round.
use Rattle.std.proofs.Common.{true, false, nat_le, not, ◌&&◌, ◌≤◌, arith, ◌≡◌, ℕ, List, [], ◌∷◌, Bool, Option, Some}
use Rattle.std.proofs.Common.{None, Result, Ok, Err, refl, ◌∙◌, ap, subst, codes}
use Rattle.std.specs.Prelude.{if◌then◌else◌}
use Rattle.std.specs.Option.{ok_or, option_and_then}
use Rattle.std.specs.Str.{bytes_eq}
use Rattle.std.proofs.lemmas.Bool.{leb-true, le-leb}
use Rattle.ide_types.specs.Names.{Text}
use Rattle.script_events.specs.Terms.{Loss, LineFault}
use Rattle.script_events.specs.Terms.fault
use Rattle.script_events.specs.Words.{number_of_word, lost_of_word}
use Rattle.script_events.specs.Parts.{◌>>=◌, lost_exchange_in, loss_in, is_loss_long, one_number_in, two_numbers_in}
use Rattle.script_events.specs.Parts.{
  number_and_loss,
  operation_in,
  length_in,
  LossSpelledBy,
  OneSpelledBy,
  TwoSpelledBy,
}
use Rattle.script_events.specs.Parts.{AskedSpelledBy, OperationSpelledBy}
use Rattle.script_events.proofs.Steps.{err_ok, ok_ok, some_some, none_some, same_text, next_of, next_result}

-- ---- what is lost

pub lost_spelled : (l n w : Text) (lose : Option Loss) (b : Bool) → bytes_eq l (codes "lose") ≡ b
    → (if b then lost_exchange_in n w else Err fault.Word) ≡ Ok lose → LossSpelledBy lose (l ∷ n ∷ w ∷ [])
lost_spelled l n w lose false t h = absurd (err_ok fault.Word lose h)
lost_spelled l n w lose true t h =
    let a = next_of (number_of_word n) fault.Number
    (λ x. ok_or (lost_of_word w) fault.Word >>= λ y. Ok (Some (record { exchange = x; lost = y }))) lose h in
    let b = next_of (lost_of_word w) fault.Word (λ y. Ok (Some (record { exchange = a.0; lost = y }))) lose a.2 in
    subst (λ (x : Option Loss). LossSpelledBy x (l ∷ n ∷ w ∷ []))
    (ok_ok (Some (record { exchange = a.0; lost = b.0 })) lose b.2)
    ((n, a.1), (w, b.1), ap (λ (x : Text). x ∷ n ∷ w ∷ []) (same_text l (codes "lose") t))

pub loss_spelled : (ws : List Text) (lose : Option Loss) → loss_in ws ≡ Ok lose → LossSpelledBy lose ws
loss_spelled [] lose h = subst (λ (x : Option Loss). LossSpelledBy x []) (ok_ok None lose h) refl
loss_spelled (l ∷ []) lose h = absurd (err_ok fault.Count lose h)
loss_spelled (l ∷ n ∷ []) lose h = absurd (err_ok fault.Count lose h)
loss_spelled (l ∷ n ∷ w ∷ []) lose h = lost_spelled l n w lose (bytes_eq l (codes "lose")) refl h
loss_spelled (l ∷ n ∷ w ∷ x ∷ ws) lose h = absurd (err_ok fault.Count lose h)

pub loss_meant : (ws : List Text) (lose : Option Loss) → LossSpelledBy lose ws → (is_loss_long ws ≡ true)
    × (loss_in ws ≡ Ok lose)
loss_meant ws None h = (rw h refl, rw h refl)
loss_meant ws (Some loss) h = (rw h.2 refl, rw h.2 (rw h.0.1 (rw h.1.1 refl)))

-- ---- numbers

pub one_spelled : (first : Text) (ws : List Text) (n : ℕ) → one_number_in ws ≡ Ok n → OneSpelledBy first n (first ∷ ws)
one_spelled first [] n h = absurd (err_ok fault.Count n h)
one_spelled first (w ∷ []) n h = let a = next_of (number_of_word w) fault.Number (λ x. Ok x) n
    (by_reading (number_of_word w) h)
    in ((w, a.1 ∙ ap Some (ok_ok a.0 n a.2)), refl)
  where
    by_reading : (x : Option ℕ) → ok_or x fault.Number ≡ Ok n → (ok_or x fault.Number >>= λ x. Ok x) ≡ Ok n
    by_reading None h = h
    by_reading (Some x) h = h
one_spelled first (w ∷ x ∷ ws) n h = absurd (err_ok fault.Count n h)

pub two_spelled : (first : Text) (ws : List Text) (n : ℕ × ℕ) → two_numbers_in ws ≡ Ok n
    → TwoSpelledBy first n.0 n.1 (first ∷ ws)
two_spelled first [] n h = absurd (err_ok fault.Count n h)
two_spelled first (v ∷ []) n h = absurd (err_ok fault.Count n h)
two_spelled first (v ∷ w ∷ []) n h =
    let a = next_of (number_of_word v) fault.Number (λ x. ok_or (number_of_word w) fault.Number >>= λ y. Ok (x, y)) n
    h in
    let b = next_of (number_of_word w) fault.Number (λ y. Ok (a.0, y)) n a.2 in
    subst (λ (x : ℕ × ℕ). TwoSpelledBy first x.0 x.1 (first ∷ v ∷ w ∷ [])) (ok_ok (a.0, b.0) n b.2)
    ((v, a.1), (w, b.1), refl)
two_spelled first (v ∷ w ∷ x ∷ ws) n h = absurd (err_ok fault.Count n h)

-- ---- numbers, and what is lost

operation_step : (first l s : Text) (rest : List Text) (o : ℕ × ℕ × Option Loss) (b : Bool)
    → (if not b then Err fault.Count else ok_or (number_of_word l) fault.Number >>= λ x. ok_or (number_of_word s)
    fault.Number >>=
    λ y. loss_in rest >>= λ z. Ok (x, y, z)) ≡ Ok o
    → OperationSpelledBy first o.0 o.1 o.2 (first ∷ l ∷ s ∷ rest)
operation_step first l s rest o false h = absurd (err_ok fault.Count o h)
operation_step first l s rest o true h =
    let a = next_of (number_of_word l) fault.Number
    (λ x. ok_or (number_of_word s) fault.Number >>= λ y. loss_in rest >>= λ z. Ok (x, y, z)) o h in
    let b = next_of (number_of_word s) fault.Number (λ y. loss_in rest >>= λ z. Ok (a.0, y, z)) o a.2 in
    let c = next_result (loss_in rest) (λ z. Ok (a.0, b.0, z)) o b.2 in
    subst (λ (x : ℕ × ℕ × Option Loss). OperationSpelledBy first x.0 x.1 x.2 (first ∷ l ∷ s ∷ rest))
    (ok_ok (a.0, b.0, c.0) o c.2)
    ((l, a.1), (s, b.1), rest, loss_spelled rest c.0 c.1, refl)

pub operation_spelled : (first : Text) (ws : List Text) (o : ℕ × ℕ × Option Loss) → operation_in ws ≡ Ok o
    → OperationSpelledBy first o.0 o.1 o.2 (first ∷ ws)
operation_spelled first [] o h = absurd (err_ok fault.Count o h)
operation_spelled first (l ∷ []) o h = absurd (err_ok fault.Count o h)
operation_spelled first (l ∷ s ∷ rest) o h = operation_step first l s rest o (is_loss_long rest) h

asked_step : (first i : Text) (rest : List Text) (a : ℕ × Option Loss) (b : Bool)
    → (if not b then Err fault.Count else ok_or (number_of_word i) fault.Number >>= λ x. loss_in rest >>= λ z. Ok
    (x, z))
    ≡ Ok a
    → AskedSpelledBy first a.0 a.1 (first ∷ i ∷ rest)
asked_step first i rest a false h = absurd (err_ok fault.Count a h)
asked_step first i rest a true h =
    let x = next_of (number_of_word i) fault.Number (λ x. loss_in rest >>= λ z. Ok (x, z)) a h in
    let y = next_result (loss_in rest) (λ z. Ok (x.0, z)) a x.2 in
    subst (λ (q : ℕ × Option Loss). AskedSpelledBy first q.0 q.1 (first ∷ i ∷ rest)) (ok_ok (x.0, y.0) a y.2)
    ((i, x.1), rest, loss_spelled rest y.0 y.1, refl)

pub asked_spelled : (first : Text) (ws : List Text) (a : ℕ × Option Loss) → number_and_loss ws ≡ Ok a
    → AskedSpelledBy first a.0 a.1 (first ∷ ws)
asked_spelled first [] a h = absurd (err_ok fault.Count a h)
asked_spelled first (i ∷ rest) a h = asked_step first i rest a (is_loss_long rest) h

-- ---- how many bytes are shown

between : (n v : ℕ) (low high : Bool) → nat_le 1 n ≡ low → nat_le n 256 ≡ high → (if low && high then Some n else None)
    ≡ Some v → (n ≡ v) × (1 ≤ v) × (v ≤ 256)
between n v true true x y e = let same = some_some n v e in
    (same, omega (arith, leb-true 1 n x, same), omega (arith, leb-true n 256 y, same))
between n v true false x y e = absurd (none_some v e)
between n v false high x y e = absurd (none_some v e)

pub length_bounded : (w : Text) (v : ℕ) → length_in w ≡ Some v → (number_of_word w ≡ Some v) × (1 ≤ v) × (v ≤ 256)
length_bounded w v is = by_number (number_of_word w) is
  where
    by_number : (o : Option ℕ) → option_and_then (λ n. if nat_le 1 n && nat_le n 256 then Some n else None) o ≡ Some v
        → (o ≡ Some v) × (1 ≤ v) × (v ≤ 256)
    by_number None e = absurd (none_some v e)
    by_number (Some n) e = let few = between n v (nat_le 1 n) (nat_le n 256) refl refl e in
        (ap Some few.0, few.1, few.2)

pub length_back : (w : Text) (v : ℕ) → number_of_word w ≡ Some v → 1 ≤ v → v ≤ 256 → length_in w ≡ Some v
length_back w v is least most = rw is (rw (le-leb 1 v least, le-leb v 256 most) refl)

-- ---- answers

-- an answer that is an event is spelled by the words
abbrev pub SpelledAs : {E : Type 0} → (E → List Text → Type 0) → List Text → Text → Result E LineFault → Type 0
SpelledAs spelled rest first answer = (e : _) → answer ≡ Ok e → spelled e (first ∷ rest)

-- what an event is made of
pub made : {A E : Type 0} (spelled : E → List Text → Type 0) (rest : List Text) (first : Text) (x : Result A LineFault)
    (event : A → E)
    → ((a : A) → x ≡ Ok a → spelled (event a) (first ∷ rest)) → SpelledAs spelled rest first (x >>= λ a. Ok (event a))
made spelled rest first x event each e h =
    let a = next_result x (λ a. Ok (event a)) e h in
    subst (λ (y : _). spelled y (first ∷ rest)) (ok_ok (event a.0) e a.2) (each a.0 a.1)
