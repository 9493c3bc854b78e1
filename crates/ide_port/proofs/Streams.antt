-- The streams of a port and their plans: the stream of an ID at its place.
use Rattle.ide_port.proofs.Terms.{◌≡◌, ◌≢◌, ℕ, suc, zero, ◌<◌, ◌≤◌, true, false, ◌==◌, List, [], ◌∷◌, length, map}
use Rattle.ide_port.proofs.Terms.{get_or, Some, None, refl, sym, ap, subst, arith, slice_set, nat_tests, Side}
use Rattle.ide_port.proofs.Terms.{StreamPlan, StreamState, no_stream, StreamEnd, reset_end, Found, found_stream}
use Rattle.ide_port.proofs.Terms.{changed_states, IsStreamOfPlan, AreStreamsOfPlans, new_stream_ends}
use Rattle.std.specs.List.{position_or_len}
use Rattle.std.proofs.lemmas.List.Quantifiers.{position-Some}
use Rattle.tlp_layout.specs.Choice.{plan_place}
use Rattle.ide_port.proofs.Waiting.{none-new}

abbrev pub state_of : StreamEnd → StreamState
state_of x = x.state

-- ---- found among states

pub found_stream-id : (ss : List StreamPlan) (xs : List StreamState) (id : ℕ) (f : Found)
    → found_stream ss xs id ≡ Some f → f.plan.id ≡ id
found_stream-id [] xs id f e = absurd cc
found_stream-id (s ∷ ss) [] id f e = absurd cc
found_stream-id (s ∷ ss) (x ∷ xs) id f e = grind (arith, nat_tests, found_stream-id ss xs id f)

pub found_stream-changed_states : (ss : List StreamPlan) (xs : List StreamState) (id : ℕ) (f : Found) (y : StreamState)
    → found_stream ss xs id ≡ Some f
    → found_stream ss (changed_states ss xs id y) id ≡ Some (record { plan = f.plan; state = y })
found_stream-changed_states [] xs id f y e = absurd cc
found_stream-changed_states (s ∷ ss) [] id f y e = absurd cc
found_stream-changed_states (s ∷ ss) (x ∷ xs) id f y e = grind
    (arith, nat_tests, found_stream-changed_states ss xs id f y)

pub found_stream-other : (ss : List StreamPlan) (xs : List StreamState) (id w : ℕ) (y : StreamState) → id ≢ w
    → found_stream ss (changed_states ss xs id y) w ≡ found_stream ss xs w
found_stream-other [] xs id w y ne = refl
found_stream-other (s ∷ ss) [] id w y ne = refl
found_stream-other (s ∷ ss) (x ∷ xs) id w y ne = grind (arith, nat_tests, found_stream-other ss xs id w y ne)

-- ---- no place

absent_from : (ss : List StreamPlan) (xs : List StreamState) (id : ℕ)
    → length ss ≤ position_or_len (λ (s : StreamPlan). s.id == id) ss → found_stream ss xs id ≡ None
absent_from [] xs id le = refl
absent_from (s ∷ ss) [] id le = refl
absent_from (s ∷ ss) (x ∷ xs) id le = grind (arith, nat_tests, absent_from ss xs id)

none_within : (ss : List StreamPlan) (id : ℕ) → plan_place ss id ≡ None
    → length ss ≤ position_or_len (λ (s : StreamPlan). s.id == id) ss
none_within ss id e = grind arith

pub absent : (ss : List StreamPlan) (xs : List StreamState) (id : ℕ) → plan_place ss id ≡ None → found_stream ss xs id
    ≡ None
absent ss xs id e = absent_from ss xs id (none_within ss id e)

-- ---- all streams

pub streams-new : (side : Side) (limit : ℕ) (ss : List StreamPlan)
    → AreStreamsOfPlans side limit ss (new_stream_ends side limit ss)
streams-new side limit [] = tt
streams-new side limit (s ∷ ss) = (record { plan = refl; receivers = none-new }, streams-new side limit ss)

pub states-new : (side : Side) (limit : ℕ) (ss : List StreamPlan) → map state_of (new_stream_ends side limit ss)
    ≡ map (λ (s : StreamPlan). no_stream) ss
states-new side limit [] = refl
states-new side limit (s ∷ ss) = ap (λ xs. no_stream ∷ xs) (states-new side limit ss)

-- there are as many as plans, and a reset leaves streams of these plans, without keys
pub record Resets (side : Side) (limit : ℕ) (ss : List StreamPlan) (xs : List StreamEnd) : Type 0 where
  pub same : length ss ≡ length xs
  pub each : AreStreamsOfPlans side limit ss (map reset_end xs)
  pub states : map state_of (map reset_end xs) ≡ map (λ (s : StreamPlan). no_stream) ss

pub resets : (side : Side) (limit : ℕ) (ss : List StreamPlan) (xs : List StreamEnd)
    → AreStreamsOfPlans side limit ss xs → Resets side limit ss xs
resets side limit [] [] h = record { same = refl; each = tt; states = refl }
resets side limit [] (x ∷ xs) h = absurd h
resets side limit (s ∷ ss) [] h = absurd h
resets side limit (s ∷ ss) (x ∷ xs) h =
    let r = resets side limit ss xs h.1 in record {
      same = ap suc r.same;
      each = (record { plan = ap reset_end h.0.plan; receivers = none-new }, r.each);
      states = ap (λ xs. no_stream ∷ xs) r.states;
    }

-- ---- the stream at a place

-- its plan, that it is the one of the ID, and what another in its place makes of all
pub record IsPlaced (side : Side) (limit : ℕ) (ss : List StreamPlan) (xs : List StreamEnd) (id place : ℕ)
    (x : StreamEnd) : Type 0 where
  pub plan : StreamPlan
  pub of_plan : IsStreamOfPlan side limit plan x
  pub is_found : found_stream ss (map state_of xs) id ≡ Some (record { plan = plan; state = x.state })
  pub change : (y : StreamEnd) → map state_of (slice_set xs place y)
      ≡ changed_states ss (map state_of xs) plan.id y.state
  pub keeps : (y : StreamEnd) → IsStreamOfPlan side limit plan y
      → AreStreamsOfPlans side limit ss (slice_set xs place y)

placed_at : (side : Side) (limit : ℕ) (ss : List StreamPlan) (xs : List StreamEnd) (id place : ℕ) (x : StreamEnd)
    (d : StreamPlan)
    → AreStreamsOfPlans side limit ss xs → place < length ss → ((get_or ss place d).id == id) ≡ true
    → ((k : ℕ) → k < place → ((get_or ss k d).id == id) ≡ false) → x ≡ get_or xs place x
    → IsPlaced side limit ss xs id place x
placed_at side limit [] xs id place x d h lt at before is = absurd (omega (arith, lt))
placed_at side limit (s ∷ ss) [] id place x d h lt at before is = absurd h
placed_at side limit (s ∷ ss) (z ∷ xs) id zero x d h lt at before is =
    record {
      plan = s;
      of_plan = subst (λ (w : StreamEnd). IsStreamOfPlan side limit s w) (sym is) h.0;
      is_found = rw at (ap (λ (w : StreamEnd). Some (let f : Found = record { plan = s; state = w.state } in f))
          (sym is));
      change = λ y. grind (arith, nat_tests);
      keeps = λ y g. (g, h.1);
    }
placed_at side limit (s ∷ ss) (z ∷ xs) id (suc place) x d h lt at before is =
    let no : (s.id == id) ≡ false = before 0 (omega arith) in
    let r = placed_at side limit ss xs id place x d h.1 (omega (arith, lt)) at
    (λ k l. before (suc k) (omega (arith, l))) is in
    let named : r.plan.id ≡ id = found_stream-id ss (map state_of xs) id _ r.is_found in
    record {
      plan = r.plan;
      of_plan = r.of_plan;
      is_found = rw no r.is_found;
      change = λ y. rw (named, no) (ap (λ ys. z.state ∷ ys) (rw named at (r.change y)));
      keeps = λ y g. (h.0, r.keeps y g);
    }

pub within : (side : Side) (limit : ℕ) (ss : List StreamPlan) (xs : List StreamEnd) (id place : ℕ)
    → AreStreamsOfPlans side limit ss xs → plan_place ss id ≡ Some place → place < length xs
within side limit [] xs id place h e = absurd cc
within side limit (s ∷ ss) xs id place h e =
    let lt = (position-Some (λ (s : StreamPlan). s.id == id) (s ∷ ss) place s e).0 in
    omega (arith, lt, (resets side limit (s ∷ ss) xs h).same)

pub placed : (side : Side) (limit : ℕ) (ss : List StreamPlan) (xs : List StreamEnd) (id place : ℕ) (x : StreamEnd)
    → AreStreamsOfPlans side limit ss xs
    → plan_place ss id ≡ Some place → x ≡ get_or xs place x → IsPlaced side limit ss xs id place x
placed side limit [] xs id place x h e is = absurd cc
placed side limit (s ∷ ss) xs id place x h e is =
    let p = position-Some (λ (s : StreamPlan). s.id == id) (s ∷ ss) place s e in
    placed_at side limit (s ∷ ss) xs id place x s h p.0 p.1 p.2 is
