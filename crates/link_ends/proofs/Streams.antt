-- Streams of a port by ID, found and changed.
use Rattle.link_ends.proofs.Terms.{◌≡◌, ℕ, List, [], ◌∷◌, refl, arith, Some, option_map, nat_tests, StreamState, Found}
use Rattle.link_ends.proofs.Terms.{found_stream, changed_states, found_stream-id}
use Rattle.ide_types.specs.declared.stream.StreamPlan.{StreamPlan}
use Rattle.join_keys.specs.{with_id, changed_by_id as id_changed, found_by_id as id_found}

-- ---- one stream

-- what was found, put back
pub changed_same : (ss : List StreamPlan) (xs : List StreamState) (id : ℕ) (f : Found) → found_stream ss xs id ≡ Some f
    → changed_states ss xs id f.state ≡ xs
changed_same [] xs id f is = refl
changed_same (s ∷ ss) [] id f is = refl
changed_same (s ∷ ss) (x ∷ xs) id f is = grind (arith, nat_tests, changed_same ss xs id f)

pub changed_again : (ss : List StreamPlan) (xs : List StreamState) (id : ℕ) (y z : StreamState)
    → changed_states ss (changed_states ss xs id y) id z ≡ changed_states ss xs id z
changed_again [] xs id y z = refl
changed_again (s ∷ ss) [] id y z = refl
changed_again (s ∷ ss) (x ∷ xs) id y z = grind (arith, nat_tests, changed_again ss xs id y z)

pub found_id : (ss : List StreamPlan) (xs : List StreamState) (id : ℕ) (f : Found) → found_stream ss xs id ≡ Some f
    → f.plan.id ≡ id
found_id ss xs id f is = found_stream-id ss xs id f is

pub found_plan : (ss : List StreamPlan) (xs : List StreamState) (id : ℕ) (f : Found) → found_stream ss xs id ≡ Some f
    → with_id ss id ≡ Some f.plan
found_plan [] xs id f is = absurd cc
found_plan (s ∷ ss) [] id f is = absurd cc
found_plan (s ∷ ss) (x ∷ xs) id f is = grind (arith, nat_tests, found_plan ss xs id f)

-- ---- as the machine has them

pub machine_found : (ss : List StreamPlan) (xs : List StreamState) (id : ℕ) → id_found ss xs id
    ≡ option_map (λ (f : Found). f.state) (found_stream ss xs id)
machine_found [] xs id = refl
machine_found (s ∷ ss) [] id = refl
machine_found (s ∷ ss) (x ∷ xs) id = grind (arith, nat_tests, machine_found ss xs id)

pub machine_changed : (ss : List StreamPlan) (xs : List StreamState) (id : ℕ) (y : StreamState)
    → id_changed ss xs id y ≡ changed_states ss xs id y
machine_changed [] xs id y = refl
machine_changed (s ∷ ss) [] id y = refl
machine_changed (s ∷ ss) (x ∷ xs) id y = grind (arith, nat_tests, machine_changed ss xs id y)
