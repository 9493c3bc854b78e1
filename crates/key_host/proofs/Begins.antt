-- What the manager's `begin` makes of the stream that it finds.
use Rattle.std.proofs.Common.{◌≡◌, ℕ, suc, zero, ◌<◌, true, length, [], ◌∷◌, List, get_or, Option, Some, None, Result}
use Rattle.std.proofs.Common.{refl, ap, ◌∙◌, arith}
use Rattle.std.specs.Prelude.{slice_set, slice_get, is_some}
use Rattle.std.proofs.lemmas.List.{set-get_or}
use Rattle.std.proofs.lemmas.List.Quantifiers.{position-Some}
use Rattle.event_verdicts.specs.declared.verdict.Operation.{Operation}
use Rattle.key_slots.specs.{Pool}
use Rattle.spec_keys.specs.Operations.{work_of}
use Rattle.key_host.specs.declared.operation.StreamRefusal.{StreamRefusal}
use Rattle.key_host.specs.Streams.{StreamView, new_stream, HostView, is_named, unless, ok_unless, refusal_of}
use Rattle.key_host.specs.Streams.{begun_stream, has_host}
use Rattle.key_host.specs.Managers.{ManagerView, Named, named_stream, named_if_there, named_in, stream_place}
use Rattle.key_host.specs.Managers.{asking_begun, begun_manager}
use Rattle.ide_types.proofs.Places.{get_at}

abbrev pub named_as : ℕ → StreamView → Named
named_as place s = record { place = place; stream = s }

-- the stream at the place that was found
pub found : (m : ManagerView) (line id place : ℕ) (s : StreamView) → stream_place m line id ≡ Some place
    → s ≡ get_or m.streams place s → named_stream m line id ≡ Some (named_as place s)
found m line id place s at is =
    let lt = (position-Some (is_named line id) m.streams place s at).0 in
    ap (named_in m.streams) at ∙ ap (named_if_there place) (get_at m.streams place s lt is)

-- a refusal leaves the streams and what is asked
pub begun_as : (streams : List StreamView) (asking : Option ℕ) (m : ManagerView) (place : ℕ)
    (s new next_one : StreamView) (refusal : Option StreamRefusal) (answer : Result (Unit {0}) StreamRefusal)
    (asked : Option ℕ)
    → (let inside : ManagerView = record { streams = streams; asking = asking } in inside) ≡ m → s
    ≡ get_or streams place s → new ≡ unless refusal s next_one → answer ≡ ok_unless refusal
    → asked ≡ asking_begun asking place answer
    → (let kept : ManagerView = record { streams = slice_set streams place new; asking = asked } in kept)
    ≡ unless refusal m (record { streams = slice_set m.streams place next_one; asking = Some place })
begun_as streams asking m place s new next_one None answer asked view is stream result next = rw
    (next, result, stream, ← view) refl
begun_as streams asking m place s new next_one (Some refusal) answer asked view is stream result next =
    let same : slice_set streams place s ≡ streams = ap (λ x. slice_set streams place x) is ∙ set-get_or streams place s
    in
    rw (next, result, stream, same) view

-- with the operation by its name
pub begun_by : (streams : List StreamView) (asking : Option ℕ) (m : ManagerView) (place : ℕ) (s new : StreamView)
    (host : HostView) (pool : Pool) (o operation : Operation) (answer : Result (Unit {0}) StreamRefusal)
    (asked : Option ℕ)
    → (let inside : ManagerView = record { streams = streams; asking = asking } in inside) ≡ m → s
    ≡ get_or streams place s → o ≡ operation
    → new ≡ unless (refusal_of o s.op host pool) s (begun_stream (has_host s) (work_of o s.op pool.draws) pool s)
    → answer
    ≡ ok_unless (refusal_of o s.op host pool)
    → asked ≡ asking_begun asking place answer
    → (let kept : ManagerView = record { streams = slice_set streams place new; asking = asked } in kept)
    ≡ begun_manager m operation host pool (named_as place s)
begun_by streams asking m place s new host pool o operation answer asked view is same stream result next =
    rw (← same) (begun_as streams asking m place s new (begun_stream (has_host s) (work_of o s.op pool.draws) pool s)
    (refusal_of o s.op host pool) answer asked view is stream result next)

-- a place that was found has a stream
within : (xs : List StreamView) (i : ℕ) → i < length xs → is_some (slice_get xs i) ≡ true
within [] i lt = absurd (omega arith)
within (x ∷ xs) zero lt = refl
within (x ∷ xs) (suc i) lt = within xs i (omega arith)

some_at : (place : ℕ) (s : Option StreamView) → is_some (named_if_there place s) ≡ is_some s
some_at place None = refl
some_at place (Some s) = refl

pub has_place : (m : ManagerView) (line id : ℕ) (place : Option ℕ) → stream_place m line id ≡ place
    → is_some (named_stream m line id) ≡ is_some place
has_place m line id None at = ap (λ x. is_some (named_in m.streams x)) at
has_place m line id (Some place) at =
    let lt = (position-Some (is_named line id) m.streams place (new_stream 0 0) at).0 in
    ap (λ x. is_some (named_in m.streams x)) at ∙ some_at place (slice_get m.streams place) ∙ within m.streams place lt
