-- A call moves the slots of a port at its place, and nowhere else.
use Rattle.ide_port.proofs.Terms.{◌≡◌, ℕ, ◌<◌, true, false, ◌&&◌, [], Option, Some, None, refl, ap, ◌∙◌, arith, nat_lt}
use Rattle.ide_port.proofs.Terms.{if◌then◌else◌, option_map, nat_tests, Side, SlotPair, Place, KeyCall, PlaceCall}
use Rattle.ide_port.proofs.Terms.{slots_by, SlotsAfter, StreamState, sends_in, stream_after_call, PortEnd, Found}
use Rattle.ide_port.proofs.Terms.{found_stream, changed_states, sub_from, is_place, stream_at_place, slot_pair_at}
use Rattle.ide_port.proofs.Terms.{unfinished_at, called_states, called_port, NoneWaits}
use Rattle.ide_types.specs.declared.direction.Direction.{Direction}
use Rattle.key_messages.specs.Calls as km
use Rattle.ide_port.proofs.Streams.{found_stream-id, found_stream-changed_states, found_stream-other}
use Rattle.ide_port.proofs.Moves.{moved-pair, other-pair}

-- ---- directions, and numbers of sub-streams

same_sends : (side : Side) (d e : Direction) → sends_in side d ≡ sends_in side e → d ≡ e
same_sends side d e s = grind (arith, nat_tests)

same_sub : (m n : ℕ) → m < 3 → n < 3 → sub_from m ≡ sub_from n → m ≡ n
same_sub m n a b s = grind (arith, nat_tests)

-- ---- places

same_place : (p q : Place) → km.is_same_place p q ≡ true → p ≡ q
same_place p q e = grind (arith, nat_tests)

apart : (side : Side) (p q : Place) → is_place p ≡ true → is_place q ≡ true → p.stream ≡ q.stream → km.is_same_place p q
    ≡ false
    → sends_in side p.direction ≡ sends_in side q.direction → sub_from p.sub ≡ sub_from q.sub → ⊥
apart side p q hp hq s differ d u = grind
    (arith, nat_tests, same_sends side p.direction q.direction, same_sub p.sub q.sub)

-- ---- what is shown after a call

pub record Waitless (e : PortEnd) : Type 0 where
  pub none : (id : ℕ) (f : Found) → found_stream e.plans e.states id ≡ Some f → NoneWaits f.state

-- the place has a stream
there : (e : PortEnd) (q : Place) (f : Found) → stream_at_place e q ≡ Some f → (is_place q ≡ true)
    × (found_stream e.plans e.states q.stream ≡ Some f)
there e q f at = grind (arith, nat_tests)

-- the stream of the place that is called
abbrev after : PortEnd → KeyCall → Place → Found → StreamState
after e k q f = stream_after_call (sends_in e.name.side q.direction) (sub_from q.sub) k f.state

abbrev with_stream : PortEnd → ℕ → StreamState → PortEnd
with_stream e id y = record e { states = changed_states e.plans e.states id y; delivered = [] }

shown_same : (e : PortEnd) (k : KeyCall) (q : Place) (f : Found) → Waitless e → is_place q ≡ true
    → found_stream e.plans e.states q.stream ≡ Some f → slot_pair_at (with_stream e q.stream (after e k q f)) q
    ≡ option_map (slots_by k (unfinished_at e q)) (slot_pair_at e q)
shown_same e k q f h here is = rw (here, found_stream-changed_states e.plans e.states q.stream f (after e k q f) is, is)
    (ap Some (moved-pair (sends_in e.name.side q.direction) (sub_from q.sub) k f.state (h.none q.stream f is)))

shown_other : (e : PortEnd) (k : KeyCall) (p q : Place) (f : Found) → is_place q ≡ true
    → found_stream e.plans e.states q.stream ≡ Some f → km.is_same_place p q ≡ false
    → slot_pair_at (with_stream e q.stream (after e k q f)) p ≡ slot_pair_at e p
shown_other e k p q f here is differ =
    grind (
      arith,
      nat_tests,
      found_stream-changed_states e.plans e.states q.stream f (after e k q f) is,
      found_stream-other e.plans e.states q.stream p.stream (after e k q f),
      other-pair (sends_in e.name.side p.direction) (sends_in e.name.side q.direction) (sub_from p.sub) (sub_from q.sub)
          k f.state,
      apart e.name.side p q,
    )

-- what is shown of one place, if another is called
abbrev shown_if : PortEnd → KeyCall → Place → Place → Option SlotPair
shown_if e k p q = if km.is_same_place p q && nat_lt p.sub 3 then option_map (slots_by k (unfinished_at e p))
    (slot_pair_at e p) else slot_pair_at e p

shown_called : (e : PortEnd) (k : KeyCall) (f : Found) (p q : Place) → Waitless e → is_place q ≡ true
    → found_stream e.plans e.states q.stream ≡ Some f
    → slot_pair_at (with_stream e q.stream (after e k q f)) p ≡ shown_if e k p q
shown_called e k f p q h here is =
    grind (arith, nat_tests, shown_same e k q f h here is, shown_other e k p q f here is, same_place p q, here)

shown_there : (e : PortEnd) (c : PlaceCall) (f : Found) (p : Place) → Waitless e → stream_at_place e c.place ≡ Some f
    → slot_pair_at (called_port c e) p ≡ shown_if e c.call p c.place
shown_there e c f p h at =
    let t = there e c.place f at in
    let y = after e c.call c.place f in
    let moves : called_port c e ≡ with_stream e c.place.stream y =
    ap (λ o. record e { states = called_states e c o; delivered = [] }) at
    ∙ ap (λ id. with_stream e id y) (found_stream-id e.plans e.states c.place.stream f t.1) in
    ap (λ x. slot_pair_at x p) moves ∙ shown_called e c.call f p c.place h t.0 t.1

shown_nowhere : (e : PortEnd) (k : KeyCall) (p q : Place) → stream_at_place e q ≡ None → slot_pair_at e p
    ≡ shown_if e k p q
shown_nowhere e k p q at = grind (arith, nat_tests, same_place p q, at)

pub slots-after : (e : PortEnd) (c : PlaceCall) → Waitless e → SlotsAfter (slot_pair_at e) (unfinished_at e) c
    (slot_pair_at (called_port c e))
slots-after e c h p = by (stream_at_place e c.place) refl
  where
    by : (o : Option Found) → stream_at_place e c.place ≡ o → slot_pair_at (called_port c e) p
        ≡ shown_if e c.call p c.place
    by None at = ap (λ o. slot_pair_at (record e { states = called_states e c o; delivered = [] }) p) at ∙ shown_nowhere
        e
        c.call p c.place at
    by (Some f) at = shown_there e c f p h at
