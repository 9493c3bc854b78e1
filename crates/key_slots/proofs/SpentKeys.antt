-- Keys of a draw on their way: what one that is spent leaves.
use Rattle.std.proofs.Common.{◌≡◌, ℕ, ◌-◌, ◌<◌, ◌≤◌, Option, Some, None, length, arith, ap, sym, ◌∙◌}
use Rattle.std.specs.Prelude.{slice_set}
use Rattle.std.proofs.lemmas.List.{set-append_left, set-append_right}
use Rattle.key_slots.specs.Wires.{WireKeys, both_keys, SixEach}

-- ---- a key of the near end, and a key of the far end behind it

pub spent_near : (near far new now : WireKeys) (n : Option WireKeys) (i : ℕ) → n ≡ Some near → both_keys n far ≡ now
    → SixEach n far → i < 6 → new ≡ slice_set near i None → both_keys (Some new) far ≡ slice_set now i None
spent_near near far new now None i is view six lt spent = absurd cc
spent_near near far new now (Some keys) i is view six lt spent =
    let same : keys ≡ near = (let e = is in cc) in
    let count : length near ≡ 6 = ap length (sym same) ∙ six.near_six in
    rw (spent, ← view, same) (sym (set-append_left near far i None (omega (arith, count, lt))))

pub spent_far : (near far new now : WireKeys) (n : Option WireKeys) (i : ℕ) → n ≡ Some near → both_keys n far ≡ now
    → SixEach n far → 6 ≤ i → new ≡ slice_set far (i - 6) None → both_keys (Some near) new ≡ slice_set now i None
spent_far near far new now None i is view six le spent = absurd cc
spent_far near far new now (Some keys) i is view six le spent =
    let same : keys ≡ near = (let e = is in cc) in
    rw (spent, ← view, ← same) (sym (set-append_right keys far 6 i None six.near_six le))
