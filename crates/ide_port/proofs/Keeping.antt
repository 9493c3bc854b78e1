-- A port keeps what always holds of it.
use Rattle.ide_types.specs.declared.direction.Direction.{Direction}
use Rattle.ide_port.proofs.Terms.{◌≡◌, ℕ, suc, zero, ◌<◌, List, [], ◌∷◌, length, map, get_or, Option, Some, None}
use Rattle.ide_port.proofs.Terms.{Result, refl, ap, ◌∙◌, arith, slice_set, slice_get, nat_tests, Side}
use Rattle.ide_port.proofs.Terms.{SubKind, StreamPlan, Packet, StreamState, Sending, KeyCall, StreamEnd}
use Rattle.ide_port.proofs.Terms.{end_outcome, end_taken, called_end, SendRefusal, Inside, PortEnd, Found}
use Rattle.ide_port.proofs.Terms.{found_stream, NoneWaits, AreStreamsOfPlans, IsKept, packets_lent, delivered_at}
use Rattle.std.proofs.lemmas.List.{length-set}
use Rattle.sub_stream.specs.declared.answer.MeasuredPacket.{MeasuredPacket}
use Rattle.ide_port.specs.StreamSends.{IsSent}
use Rattle.tlp_layout.specs.Choice.{plan_place}
use Rattle.ide_port.proofs.Waiting.{none-unless, none-taken, none-stream_after_call}
use Rattle.ide_port.proofs.Streams.{state_of, IsPlaced, placed, within}

-- a port with these streams, of which this one lends
abbrev pub port_within : Inside → List StreamEnd → Option ℕ → PortEnd
port_within p xs lent =
    record {
      name = p.name;
      plans = p.plans;
      limit = p.limit;
      states = map state_of xs;
      delivered = delivered_at xs lent;
    }

-- as it is
abbrev pub now : Inside → PortEnd
now p = port_within p p.streams.items p.lent

abbrev pub Keeps : Inside → Type 0
Keeps p = IsKept p.name.side p.limit p.plans p.streams.items p.lent

pub inside : (p : Inside) (id place : ℕ) → Keeps p → plan_place p.plans id ≡ Some place → place < length p.streams.items
inside p id place kept at = within _ _ _ _ id _ kept.each at

pub lends-none : (n p : ℕ) → (let o : Option ℕ = None in o) ≡ Some p → p < n
lends-none n p e = absurd cc

-- ---- calls of a stream

module _ (p : Inside) (kept : Keeps p) (id place : ℕ) (x : StreamEnd) (at : plan_place p.plans id ≡ Some place)
    (is : x ≡ get_or p.streams.items place x) where
  pub there : IsPlaced p.name.side p.limit p.plans p.streams.items id place x
  there = placed _ _ _ _ id place x kept.each at is

  kept-with : (y : StreamEnd) (st : StreamState) (packets : List Packet) (lent : Option ℕ)
      → y ≡ record x { state = st; delivered = packets } → NoneWaits st
      → ((q : ℕ) → lent ≡ Some q → q < length p.streams.items)
      → IsKept p.name.side p.limit p.plans (slice_set p.streams.items place y) lent
  kept-with y st packets lent after none lends = record {
    each = there.keeps y
        (rw after (record {
          plan = (λ i. record (there.of_plan.plan i) { state = st; delivered = packets });
          receivers = none;
        }));
    lends = λ q e. (let lt = lends q e in omega (arith, lt, length-set p.streams.items place y));
  }

  pub kept-sent : (y : StreamEnd) (head payload : List ℕ) (s : Sending) (number : ℕ)
      (answer : Result (List MeasuredPacket) SendRefusal) (before out : List ℕ)
      → IsSent x head payload s number answer before out y
      → IsKept p.name.side p.limit p.plans (slice_set p.streams.items place y) p.lent
  kept-sent y head payload s number answer before out sent =
      kept-with y _ x.delivered p.lent sent.stream (none-unless _ x.state _ there.of_plan.receivers) kept.lends

  pub kept-taken : (y : StreamEnd) (packet : Packet) → y ≡ end_taken x packet
      → IsKept p.name.side p.limit p.plans (slice_set p.streams.items place y) (Some place)
  kept-taken y packet after =
      let lends : (q : ℕ) → Some place ≡ Some q → q < length p.streams.items =
      λ q e. (let same : place ≡ q = cc in rw (← same) (inside p id place kept at)) in
      kept-with y _ _ (Some place) after (none-taken x.state packet (end_outcome x packet) there.of_plan.receivers)
      lends

  pub kept-stream_after_call : (y : StreamEnd) (d : Direction) (u : SubKind) (c : KeyCall) → y ≡ called_end x d u c
      → IsKept p.name.side p.limit p.plans (slice_set p.streams.items place y) None
  kept-stream_after_call y d u c after =
      kept-with y _ [] None after (none-stream_after_call _ u c x.state there.of_plan.receivers) (lends-none _)

-- ---- what is lent

pub lends-there : (xs : List StreamEnd) (i : ℕ) (y : StreamEnd) → i < length xs
    → delivered_at (slice_set xs i y) (Some i) ≡ y.delivered
lends-there [] i y lt = absurd (omega arith)
lends-there (x ∷ xs) zero y lt = refl
lends-there (x ∷ xs) (suc i) y lt = lends-there xs i y (omega arith)

same-lent : (xs : List StreamEnd) (i k : ℕ) (x y : StreamEnd) → i < length xs → x ≡ get_or xs i x
    → y.delivered ≡ x.delivered → packets_lent (slice_get (slice_set xs i y) k) ≡ packets_lent (slice_get xs k)
same-lent [] i k x y lt is same = absurd (omega arith)
same-lent (z ∷ xs) zero zero x y lt is same = same ∙ ap (λ (w : StreamEnd). w.delivered) is
same-lent (z ∷ xs) zero (suc k) x y lt is same = refl
same-lent (z ∷ xs) (suc i) zero x y lt is same = refl
same-lent (z ∷ xs) (suc i) (suc k) x y lt is same = same-lent xs i k x y (omega arith) is same

pub lends-still : (xs : List StreamEnd) (i : ℕ) (lent : Option ℕ) (x y : StreamEnd) → i < length xs → x ≡ get_or xs i x
    → y.delivered ≡ x.delivered → delivered_at (slice_set xs i y) lent ≡ delivered_at xs lent
lends-still xs i None x y lt is same = refl
lends-still xs i (Some k) x y lt is same = same-lent xs i k x y lt is same

-- ---- no receiver waits

pub none-found_stream : (side : Side) (limit : ℕ) (ss : List StreamPlan) (xs : List StreamEnd)
    → AreStreamsOfPlans side limit ss xs
    → (id : ℕ) (f : Found) → found_stream ss (map state_of xs) id ≡ Some f → NoneWaits f.state
none-found_stream side limit [] [] h id f e u = absurd cc
none-found_stream side limit [] (x ∷ xs) h id f e u = absurd h
none-found_stream side limit (s ∷ ss) [] h id f e u = absurd h
none-found_stream side limit (s ∷ ss) (x ∷ xs) h id f e u = grind
    (arith, nat_tests, none-found_stream side limit ss xs h.1 id f, h.0.receivers u)
