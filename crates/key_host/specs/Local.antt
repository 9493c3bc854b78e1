-- Local calls of the host's port, one after another.
use Rattle.std.specs.Prelude.{ℕ, ◌≡◌, Bool, false, true, List, [], ◌∷◌, ◌++◌, slice_index_or}
use Rattle.ide_types.specs.declared.direction.Direction.TheVariants.{Downstream, Upstream}
use Rattle.key_slots.specs.{Program, Go, Stop}
use Rattle.key_messages.specs.declared.place.Place.{Place}
use Rattle.key_messages.specs.{place_at, PlaceCall, place_call, SlotsShown, SlotsAfter}

-- one call: the port moves by its own relation, and its slots by the call
pub record CallMoves {Port : Type 0} (slots : Port → SlotsShown) (unfinished : Port → Place → Bool)
    (moves : Port → PlaceCall
    → Port → Type 0) (before : Port) (c : PlaceCall) (after : Port) : Type 0 where
  pub moved : moves before c after
  pub kept : SlotsAfter (slots before) (unfinished before) c (slots after)

-- the calls of a list, in order; with none the port is as before
abbrev pub CallsMove : {Port : Type 0} → (Port → SlotsShown) → (Port → Place → Bool)
    → (Port → PlaceCall → Port → Type 0) → Port → List PlaceCall → Port → Type 0
CallsMove slots unfinished moves before [] after = after ≡ before
CallsMove {Port} slots unfinished moves before (c ∷ cs) after =
    (next : Port) × (CallMoves slots unfinished moves before c next) × (CallsMove slots unfinished moves next cs after)

-- ---- what the operations call

-- a key of six by lane
abbrev pub six_key : List (List ℕ) → ℕ → List ℕ
six_key keys lane = slice_index_or keys lane []

-- the six slots of a set, by lane: what the device receives, and then what it sends
abbrev pub programs : ℕ → Bool → List (List ℕ) → ℕ → List PlaceCall
programs stream set keys draw =
    place_call (place_at stream Downstream 0) (Program set (six_key keys 0) draw)
    ∷ place_call (place_at stream Downstream 1) (Program set (six_key keys 1) draw)
    ∷ place_call (place_at stream Downstream 2) (Program set (six_key keys 2) draw)
    ∷ place_call (place_at stream Upstream 0) (Program set (six_key keys 3) draw)
    ∷ place_call (place_at stream Upstream 1) (Program set (six_key keys 4) draw)
    ∷ place_call (place_at stream Upstream 2) (Program set (six_key keys 5) draw) ∷ []

-- the host's receivers, which take what comes upstream, and then its senders
abbrev pub goes : ℕ → Bool → List PlaceCall
goes stream set =
    place_call (place_at stream Upstream 0) (Go set) ∷ place_call (place_at stream Upstream 1) (Go set)
    ∷ place_call (place_at stream Upstream 2) (Go set) ∷ place_call (place_at stream Downstream 0) (Go set)
    ∷ place_call (place_at stream Downstream 1) (Go set) ∷ place_call (place_at stream Downstream 2) (Go set) ∷ []

abbrev pub stops_in : ℕ → Bool → List PlaceCall
stops_in stream set =
    place_call (place_at stream Downstream 0) (Stop set) ∷ place_call (place_at stream Downstream 1) (Stop set)
    ∷ place_call (place_at stream Downstream 2) (Stop set) ∷ place_call (place_at stream Upstream 0) (Stop set)
    ∷ place_call (place_at stream Upstream 1) (Stop set) ∷ place_call (place_at stream Upstream 2) (Stop set) ∷ []

-- all slots of a stream
abbrev pub stream_stop_calls : ℕ → List PlaceCall
stream_stop_calls stream = stops_in stream false ++ stops_in stream true
