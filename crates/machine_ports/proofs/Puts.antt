-- One stream at a port is changed, and no other.
use Rattle.machine_ports.proofs.Terms.{◌≡◌, ◌≢◌, ℕ, ◌<◌, ◌≤◌, ◌==◌, true, false, List, [], ◌∷◌, length, Some, None}
use Rattle.machine_ports.proofs.Terms.{refl, ap, sym, ◌∙◌, subst, arith, ⊎_elim, ◌&&◌, is_some, slice_set}
use Rattle.machine_ports.proofs.Terms.{changed_by_id, find, found_by_id, get_or-set_other, get_or-set_same, get_or_past}
use Rattle.machine_ports.proofs.Terms.{is_same_port, LinkState, nat_tests, Plan, port_place, PortName}
use Rattle.machine_ports.proofs.Terms.{with_stream_state, same_port, set_past, streams_of, StreamState}
use Rattle.std.specs.List.{slice_index_or}
use Rattle.std.proofs.lemmas.Bool.{cases_lt, cases_eq}
use Rattle.ide_types.specs.declared.stream.StreamPlan.{StreamPlan}

-- ---- one row of a list of rows

found_same : {A : Type 0} (ss : List StreamPlan) (xs : List A) (id : ℕ) (y : A) → is_some (found_by_id ss xs id) ≡ true
    → found_by_id ss (changed_by_id ss xs id y) id ≡ Some y
found_same (s ∷ ss) (x ∷ xs) id y is = let more = found_same ss xs id y in grind (arith, more)
found_same [] xs id y is = absurd cc
found_same (s ∷ ss) [] id y is = absurd cc

found_other : {A : Type 0} (ss : List StreamPlan) (xs : List A) (id t : ℕ) (y : A) → (id == t) ≡ false
    → found_by_id ss (changed_by_id ss xs id y) t ≡ found_by_id ss xs t
found_other (s ∷ ss) (x ∷ xs) id t y other = let more = found_other ss xs id t y other in grind (arith, nat_tests, more)
found_other [] xs id t y other = refl
found_other (s ∷ ss) [] id t y other = refl

none_found : {A : Type 0} (ss : List StreamPlan) (id : ℕ) → found_by_id {A = A} ss [] id ≡ None
none_found [] id = refl
none_found (s ∷ ss) id = refl

pub within : {A : Type 0} (ss : List StreamPlan) (rows : List (List A)) (i id : ℕ)
    → is_some (found_by_id ss (slice_index_or rows i []) id) ≡ true → i < length rows
within {A} ss rows i id is = ⊎_elim (λ lt. lt) (λ le. absurd (past le)) (cases_lt i (length rows))
  where
    past : length rows ≤ i → ⊥
    past le = let none : false ≡ true = ap is_some (sym (none_found {A = A} ss id)) ∙ rw (get_or_past rows i [] le) at
        is in cc

pub put_same : {A : Type 0} (ss : List StreamPlan) (rows : List (List A)) (i id : ℕ) (y : A)
    → is_some (found_by_id ss (slice_index_or rows i []) id) ≡ true
    → found_by_id ss (slice_index_or (slice_set rows i (changed_by_id ss (slice_index_or rows i []) id y)) i []) id
    ≡ Some y
put_same ss rows i id y is = rw
    (get_or-set_same rows i (changed_by_id ss (slice_index_or rows i []) id y) [] (within ss rows i id is))
    (found_same ss _ id y is)

-- another one of the row
pub put_beside : {A : Type 0} (ss : List StreamPlan) (rows : List (List A)) (i id t : ℕ) (y : A) → (id == t) ≡ false
    → found_by_id ss (slice_index_or (slice_set rows i (changed_by_id ss (slice_index_or rows i []) id y)) i []) t
    ≡ found_by_id ss (slice_index_or rows i []) t
put_beside ss rows i id t y other = ⊎_elim inside (λ le. rw (set_past rows i _ le) refl) (cases_lt i (length rows))
  where
    inside : i < length rows → found_by_id ss
        (slice_index_or (slice_set rows i (changed_by_id ss (slice_index_or rows i []) id y)) i []) t
        ≡ found_by_id ss (slice_index_or rows i []) t
    inside lt = rw (get_or-set_same rows i (changed_by_id ss (slice_index_or rows i []) id y) [] lt)
        (found_other ss _ id t y other)

-- ---- a stream at a port

pub find-put : (plan : Plan) (st : LinkState) (port : PortName) (stream : ℕ) (x : StreamState)
    → is_some (find plan st port stream) ≡ true → find plan (with_stream_state plan st port stream x) port stream
    ≡ Some x
unfolding find with_stream_state
find-put plan st port stream x is = put_same (streams_of plan port.line) st.ports (port_place port) stream x is

pub place_is : (p q : PortName) → port_place p ≡ port_place q → is_same_port p q ≡ true
place_is p q same = grind (arith, nat_tests)

pub find-put_other : (plan : Plan) (st : LinkState) (port : PortName) (stream : ℕ) (x : StreamState) (q : PortName)
    (t : ℕ) → (is_same_port port q && (stream == t)) ≡ false
    → find plan (with_stream_state plan st port stream x) q t ≡ find plan st q t
unfolding find with_stream_state
find-put_other plan st port stream x q t other = ⊎_elim here elsewhere (cases_eq (port_place port) (port_place q))
  where
    new : List (List StreamState)
    new = slice_set st.ports (port_place port)
        (changed_by_id (streams_of plan port.line) (slice_index_or st.ports (port_place port) []) stream x)

    elsewhere : port_place port ≢ port_place q → found_by_id (streams_of plan q.line)
        (slice_index_or new (port_place q) []) t
        ≡ found_by_id (streams_of plan q.line) (slice_index_or st.ports (port_place q) []) t
    elsewhere apart = ap (λ (zs : List StreamState). found_by_id (streams_of plan q.line) zs t)
        (get_or-set_other st.ports (port_place port) (port_place q) _ [] (λ e. apart (sym e)))

    here : port_place port ≡ port_place q → found_by_id (streams_of plan q.line) (slice_index_or new (port_place q) [])
        t
        ≡ found_by_id (streams_of plan q.line) (slice_index_or st.ports (port_place q) []) t
    here same =
        let is = place_is port q same in
        subst (λ (r : PortName). found_by_id (streams_of plan r.line) (slice_index_or new (port_place r) []) t
        ≡ found_by_id (streams_of plan r.line)
        (slice_index_or st.ports (port_place r) []) t) (same_port port q is)
        (put_beside (streams_of plan port.line) st.ports (port_place port) stream t x (grind arith))
