-- Calls of key management at a port, on one of its streams.
use Rattle.link_ends.proofs.Terms.{◌≡◌, ℕ, Bool, true, List, [], ◌∷◌, refl, sym, ◌∙◌, rules, Option, Some, nat_lt, Side}
use Rattle.link_ends.proofs.Terms.{Place, PlaceCall, place_at, CallsMove, programs, goes, stream_stop_calls}
use Rattle.link_ends.proofs.Terms.{StreamState, sends_in, stream_after_call, all_called_at_side, PortEnd, Found}
use Rattle.link_ends.proofs.Terms.{found_stream, changed_states, slot_pair_at, unfinished_at, called_port, HasStream}
use Rattle.link_ends.proofs.Terms.{found_stream-id, found_stream-changed_states, ap, subst}
use Rattle.ide_types.specs.declared.direction.Direction.{Direction}
use Rattle.ide_prefix.specs.{sub_from}
use Rattle.ide_port.specs.Calls.{is_place, stream_at_place, called_states}
use Rattle.link_ends.proofs.Streams.{changed_same, changed_again}

pub stream_stands : (e : PortEnd) (id : ℕ) (f : Found) → found_stream e.plans e.states id ≡ Some f
    → HasStream e id f.state e
stream_stands e id f is = λ i. record e { states = sym (changed_same e.plans e.states id f is) i }

-- the stream is found there
pub found_there : (e e' : PortEnd) (id : ℕ) (f : Found) (x : StreamState) → found_stream e.plans e.states id ≡ Some f
    → HasStream e id x e' → found_stream e'.plans e'.states id ≡ Some (record f { state = x })
found_there e e' id f x is has =
    ap (λ (p : PortEnd). found_stream p.plans p.states id) has ∙ found_stream-changed_states e.plans e.states id f x is

-- the call is at a place of the stream
pub record IsAt (id : ℕ) (place : Place) : Type 0 where
  pub stream_is : place.stream ≡ id
  pub is_there : is_place place ≡ true

abbrev pub state_moved : PlaceCall → Side → StreamState → StreamState
state_moved c side x = stream_after_call (sends_in side c.place.direction) (sub_from c.place.sub) c.call x

pub called_there : (e e' : PortEnd) (id : ℕ) (f : Found) (x : StreamState) (c : PlaceCall)
    → found_stream e.plans e.states id ≡ Some f → HasStream e id x e' → IsAt id c.place
    → HasStream e id (state_moved c e.name.side x) (called_port c e')
called_there e e' id f x c is has at =
    let there : stream_at_place e' c.place ≡ Some (record f { state = x }) = rw (at.is_there, at.stream_is)
    (found_there e e' id f x is has) in
    let all : called_states e' c (stream_at_place e' c.place)
    ≡ changed_states e.plans e.states id (state_moved c e.name.side x) =
    ap (λ (o : Option Found). called_states e' c o) there
    ∙ (λ i. changed_states (has i).plans (has i).states (found_stream-id e.plans e.states id f is i)
    (state_moved c (has i).name.side x))
    ∙ changed_again e.plans e.states id x (state_moved c e.name.side x) in
    (λ i. record (has i) { states = all i; delivered = [] })

-- ---- local calls

abbrev pub AllAt : ℕ → List PlaceCall → Type 0
AllAt id [] = Unit {0}
AllAt id (c ∷ cs) = IsAt id c.place × AllAt id cs

abbrev pub PortMoves : PortEnd → List PlaceCall → PortEnd → Type 0
PortMoves before cs after = CallsMove (λ port place. slot_pair_at port place) (λ port place. unfinished_at port place)
    (λ before call after. after ≡ called_port call before) before cs after

-- one after another, they are calls of the stream
pub all_there : (e e' e2 : PortEnd) (id : ℕ) (f : Found) (x : StreamState) (cs : List PlaceCall)
    → found_stream e.plans e.states id ≡ Some f → HasStream e id x e' → AllAt id cs
    → PortMoves e' cs e2 → HasStream e id (all_called_at_side e.name.side cs x) e2
all_there e e' e2 id f x [] is has at moves = subst (λ (p : PortEnd). HasStream e id x p) (sym moves) has
all_there e e' e2 id f x (c ∷ cs) is has at moves =
    let step : HasStream e id (state_moved c e.name.side x) moves.0 =
    rw moves.1.moved (called_there e e' id f x c is has at.0) in
    all_there e moves.0 e2 id f _ cs is step at.1 moves.2

at_lane : (id u : ℕ) (direction : Direction) → nat_lt u 3 ≡ true → IsAt id (place_at id direction u)
at_lane id u direction u_is = record { stream_is = refl; is_there = u_is }

pub programs_at : (id : ℕ) (set : Bool) (keys : List (List ℕ)) (draw : ℕ) → AllAt id (programs id set keys draw)
programs_at id set keys draw = search (rules, at_lane) depth 12

pub goes_at : (id : ℕ) (set : Bool) → AllAt id (goes id set)
goes_at id set = search (rules, at_lane) depth 12

pub stream_stop_calls_at : (id : ℕ) → AllAt id (stream_stop_calls id)
stream_stop_calls_at id = search (rules, at_lane) depth 18
