-- The bytes that a read shows: those that are enabled as they stand, and 0 for the others.
use Rattle.std.proofs.Common.{◌≡◌, ℕ, zero, suc, ◌+◌, ◌-◌, ◌<◌, ◌≤◌, true, cond, List, ◌∷◌, length, map, get_or}
use Rattle.std.proofs.Common.{refl, ap, ◌∙◌, inl, inr, arith, le-leb, lt-ltb}
use Rattle.std.specs.List.{range_with_len}
use Rattle.std.proofs.lemmas.Bool.{cases_Bool}
use Rattle.std.proofs.lemmas.List.FromFn.{fill_by_all}
use Rattle.trusted_memory.specs.declared.span.Span.{Span}
use Rattle.trusted_memory.specs.Spans.{span_byte_count, is_enabled, enables}
use Rattle.trusted_memory.specs.Memory.{bytes_from}
use Rattle.trusted_memory.proofs.Seen.{get_or-bytes_from}
use Rattle.trusted_memory.specs.Completions.{read_bytes}

pub read_bytes-shown : (byte : ℕ → ℕ) (s : Span) (copied shown : List ℕ)
    → copied ≡ bytes_from byte s.address (span_byte_count s) → length shown ≡ span_byte_count s
    → ((k : ℕ) → k < span_byte_count s → get_or shown k 0 ≡ cond (is_enabled s k) (get_or copied k 0) 0) → shown
    ≡ read_bytes byte s
read_bytes-shown byte s copied shown copies long shows =
    fill_by_all (λ i. cond (is_enabled s i) (byte (s.address + i)) 0) shown (span_byte_count s) 0 long
    (λ k less. shows k less ∙ ap (λ (b : ℕ). cond (is_enabled s k) b 0)
    (ap (λ (t : List ℕ). get_or t k 0) copies ∙ get_or-bytes_from byte s.address (span_byte_count s) k less))

-- ---- the bytes that are enabled decide all

map-range_with_len_same : (f g : ℕ → ℕ) (a n : ℕ) → ((i : ℕ) → a ≤ i → i < a + n → f i ≡ g i)
    → map f (range_with_len a n) ≡ map g (range_with_len a n)
map-range_with_len_same f g a zero same = refl
map-range_with_len_same f g a (suc n) same =
    let rest = map-range_with_len_same f g (a + 1) n (λ i low high. same i (omega arith) (omega arith)) in
    λ t. same a (omega arith) (omega arith) t ∷ rest t

enables-place : (s : Span) (i : ℕ) → i < span_byte_count s → is_enabled s i ≡ true → enables s (s.address + i) ≡ true
enables-place s i less e =
    let back : (s.address + i) - s.address ≡ i = omega arith in
    rw (le-leb s.address (s.address + i) (omega arith))
    (rw (lt-ltb (s.address + i) (s.address + span_byte_count s) (omega arith)) (rw (back, e) refl))

pub read_bytes-same : (byte other : ℕ → ℕ) (s : Span) → ((a : ℕ) → enables s a ≡ true → byte a ≡ other a)
    → read_bytes byte s ≡ read_bytes other s
read_bytes-same byte other s same =
    map-range_with_len_same (λ i. cond (is_enabled s i) (byte (s.address + i)) 0)
    (λ i. cond (is_enabled s i) (other (s.address + i)) 0) 0 (span_byte_count s)
    (λ i low high. elim (cases_Bool (is_enabled s i)) [
      | inl e ↦ rw e (same (s.address + i) (enables-place s i (omega arith) e))
      | inr e ↦ rw e refl
    ])
