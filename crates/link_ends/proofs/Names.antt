-- A stream of the manager by its name: the first of the list that has it, and its place.
use Rattle.link_ends.proofs.Terms.{◌≡◌, ℕ, suc, zero, ◌+◌, ◌<◌, ◌==◌, length, get_or, true, false, List, [], ◌∷◌, refl}
use Rattle.link_ends.proofs.Terms.{sym, ◌∙◌, arith, Option, Some, None, option_map, if◌then◌else◌, position, slice_get}
use Rattle.link_ends.proofs.Terms.{slice_set, same_Some, nat_tests, true-same, both-true, StreamView, is_named}
use Rattle.link_ends.proofs.Terms.{ManagerView, Named, named_stream, named_in, op_named, ap, subst}
use Rattle.std.specs.List.{position_from}
use Rattle.std.proofs.lemmas.Iterator.Adapters.{position_from-zero}
use Rattle.std.proofs.lemmas.List.Quantifiers.{position-Some}
use Rattle.key_host.specs.Managers.{stream_place}

-- the first stream of this name, and the list with another in its place
abbrev pub first_named : ℕ → ℕ → List StreamView → Option StreamView
first_named line id [] = None
first_named line id (v ∷ vs) = if is_named line id v then Some v else first_named line id vs

abbrev pub set_named : ℕ → ℕ → StreamView → List StreamView → List StreamView
set_named line id w [] = []
set_named line id w (v ∷ vs) = if is_named line id v then w ∷ vs else v ∷ set_named line id w vs

-- what a place says
pub record IsPlaced (line id : ℕ) (vs : List StreamView) (place : ℕ) : Type 0 where
  pub stream : StreamView
  pub read : slice_get vs place ≡ Some stream
  pub first : first_named line id vs ≡ Some stream
  pub is_it : is_named line id stream ≡ true
  pub sets : (w : StreamView) → slice_set vs place w ≡ set_named line id w vs

placed_at : (line id : ℕ) (vs : List StreamView) (place : ℕ) (d : StreamView) → place < length vs
    → is_named line id (get_or vs place d) ≡ true
    → ((k : ℕ) → k < place → is_named line id (get_or vs k d) ≡ false) → IsPlaced line id vs place
placed_at line id [] place d lt at before = absurd (omega arith)
placed_at line id (v ∷ vs) zero d lt at before = record
    { stream = v; read = refl; first = rw at refl; is_it = at; sets = λ w. rw at refl }
placed_at line id (v ∷ vs) (suc place) d lt at before =
    let no : is_named line id v ≡ false = before 0 (omega arith) in
    let r = placed_at line id vs place d (omega arith) at (λ k l. before (suc k) (omega arith)) in
    record {
      stream = r.stream;
      read = r.read;
      first = rw no r.first;
      is_it = r.is_it;
      sets = λ w. rw no (ap (λ (us : List StreamView). v ∷ us) (r.sets w));
    }

unplaced : (line id : ℕ) (vs : List StreamView) (from : ℕ) → position_from (is_named line id) from vs ≡ None
    → first_named line id vs ≡ None
unplaced line id [] from is = refl
unplaced line id (v ∷ vs) from is = grind (arith, nat_tests, unplaced line id vs (from + 1))

pub placed : (line id : ℕ) (vs : List StreamView) (place : ℕ) → position (is_named line id) vs ≡ Some place
    → IsPlaced line id vs place
placed line id [] place is = absurd cc
placed line id (v ∷ vs) place is =
    let p = position-Some (is_named line id) (v ∷ vs) place v is in placed_at line id (v ∷ vs) place v p.0 p.1 p.2

-- a stream that was named stands at its place
pub record IsNamed (m : ManagerView) (line id : ℕ) (n : Named) : Type 0 where
  pub read : slice_get m.streams n.place ≡ Some n.stream
  pub first : first_named line id m.streams ≡ Some n.stream
  pub line_is : n.stream.line ≡ line
  pub id_is : n.stream.id ≡ id
  pub sets : (w : StreamView) → slice_set m.streams n.place w ≡ set_named line id w m.streams

by_place : (m : ManagerView) (line id : ℕ) (n : Named) (o : Option ℕ) → stream_place m line id ≡ o
    → named_in m.streams o ≡ Some n → IsNamed m line id n
by_place m line id n None at is = absurd cc
by_place m line id n (Some place) at is =
    let p : IsPlaced line id m.streams place = placed line id m.streams place at in
    let one : Some (record { place = place; stream = p.stream }) ≡ Some n = rw p.read at is in
    let same : record { place = place; stream = p.stream } ≡ n = same_Some _ n one in
    let tests = both-true (p.stream.line == line) (p.stream.id == id) p.is_it in
    subst (λ (k : Named). IsNamed m line id k) same (record {
      read = p.read;
      first = p.first;
      line_is = true-same p.stream.line line tests.0;
      id_is = true-same p.stream.id id tests.1;
      sets = p.sets;
    })

pub named_stands : (m : ManagerView) (line id : ℕ) (n : Named) → named_stream m line id ≡ Some n → IsNamed m line id n
named_stands m line id n is = by_place m line id n (stream_place m line id) refl is

op_by_place : (m : ManagerView) (line id : ℕ) (o : Option ℕ) → stream_place m line id ≡ o
    → option_map (λ (v : StreamView). v.op) (first_named line id m.streams) ≡ op_named (named_in m.streams o)
op_by_place m line id None at = rw
    (unplaced line id m.streams 0 (sym (position_from-zero (is_named line id) m.streams) ∙ at)) refl
op_by_place m line id (Some place) at =
    let p : IsPlaced line id m.streams place = placed line id m.streams place at in
    rw (p.first, p.read) refl

pub op_named_first : (m : ManagerView) (line id : ℕ) → option_map (λ (v : StreamView). v.op)
    (first_named line id m.streams) ≡ op_named (named_stream m line id)
op_named_first m line id = op_by_place m line id (stream_place m line id) refl
