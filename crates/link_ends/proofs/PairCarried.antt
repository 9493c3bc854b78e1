-- What an exchange makes of the manager and of both ends of a line that is keyed by messages at both, whether its
-- request reaches its end or is lost.
use Rattle.link_ends.proofs.Terms.{◌≡◌, ℕ, false, List, [], sym, refl, ◌∙◌, arith, Option, Some, None, slice_get}
use Rattle.link_ends.proofs.Terms.{slice_set, slice_range, Side, PlaceCall, Place, call_of, is_done, reply_bytes}
use Rattle.link_ends.proofs.Terms.{object_spelling, Loss, Judged, StreamOutcome, NextExchange, Operation, StreamView}
use Rattle.link_ends.proofs.Terms.{asked_of_unfinished, request_asked, outcome_of, taken_stream, taken_calls}
use Rattle.link_ends.proofs.Terms.{ManagerView, asking_after, IsAsked, StreamState, shown_stream, port_called}
use Rattle.link_ends.proofs.Terms.{judged_bytes, Found, found_stream, PortEnd, lost_message, HasStream, WireKeys}
use Rattle.link_ends.proofs.Terms.{exchange_of, selector_of, request_of, same-true, sends_in, called_port, ap, subst}
use Rattle.link_ends.proofs.Terms.{Pool, KeeperView, current, current_asked}
use Rattle.std.specs.Int.{w64, from_le_bytes}
use Rattle.key_slots.specs.{KeySet}
use Rattle.ide_types.specs.Lines.{is_hosted}
use Rattle.ide_types.specs.declared.direction.Direction.{Direction}
use Rattle.ide_types.specs.declared.direction.Direction.TheVariants.{Downstream, Upstream}
use Rattle.ide_types.specs.declared.port.Side.TheVariants.{Host, Device}
use Rattle.key_messages.specs.Objects as objects
use Rattle.script_events.specs.declared.event.Lost.{Lost}
use Rattle.key_host.specs.Streams.{wire_asked, end_asked, has_host}
use Rattle.key_host.specs.declared.exchange.Exchange.TheVariants as exchange
use Rattle.join_keys.specs.Paired.{PairStreams, PairExchanged, pair_exchanged, pair_after, came_to_end}
use Rattle.join_keys.specs.Paired.{pair_unless_lost}
use Rattle.join_keys.proofs.PairTurns.{PairTurn, pair_puts, pair_goes, pair_stops, pair_turn}
use Rattle.link_ends.specs.LineEnds.{own_direction, at_end, shown_end, line_end_after, answered_end, end_reply}
use Rattle.link_ends.specs.LineEnds.{line_end_in, with_end}
use Rattle.link_ends.specs.declared.end.LineEnd.{LineEnd}
use Rattle.link_ends.specs.declared.pair.PairEnds.{PairEnds}
use Rattle.link_ends.specs.PairKeepers.{IsAtBoth, DiffersInPair, IsPairExchanged}
use Rattle.link_ends.proofs.Carried.{current_is}
use Rattle.ide_types.proofs.Places.{read_set, set_again}
use Rattle.link_ends.proofs.Ports.{IsAt, PortMoves, called_there, found_there, state_moved}
use Rattle.link_ends.proofs.Exchanges.{CallAt, SameShown, same_done, program_at, lane_at}

pub pair_keeper_read : (m0 m : ManagerView) (l0 l : PairEnds) (place id : ℕ) (near far : Found) (e : PairStreams)
    → IsAtBoth m0 l0 place id near far → DiffersInPair m0 l0 place id e m l → slice_get m.streams place ≡ Some e.keeper
pair_keeper_read m0 m l0 l place id near far e on st = ap (λ (vs : List StreamView). slice_get vs place) st.streams ∙
    read_set m0.streams place e.keeper on.within

-- ---- the call of a request is at the stream

pair_turn_at : (id draw : ℕ) (keys : WireKeys) (i : ℕ) (o : Operation) (set : KeySet) (n : ℕ) → PairTurn o set n
    → CallAt id (call_of (object_spelling (request_of id keys i (exchange_of false o set n))) draw)
pair_turn_at id draw keys i o set n (pair_puts side lane lt makes is at e) =
    let request : List ℕ = object_spelling (request_of id keys i (exchange.Program set lane)) in
    rw e (program_at id (selector_of set lane) draw (slice_range request 8 40)
    (from_le_bytes w64 (slice_range request 40 48)) (lane_at id set lane lt) (objects.fault_of request))
pair_turn_at id draw keys i o set n (pair_goes side lane lt makes is at e) = rw e (lane_at id set lane lt)
pair_turn_at id draw keys i o set n (pair_stops side k lane lt is at e) = rw e (lane_at id k lane lt)

-- ---- an end shows the stream as a device does

sends_turned : (side : Side) (d : Direction) → sends_in side (own_direction side d) ≡ sends_in Device d
sends_turned Device d = refl
sends_turned Host Downstream = refl
sends_turned Host Upstream = refl

turned_at : (id : ℕ) (side : Side) (place : Place) → IsAt id place → IsAt id (at_end side place)
turned_at id side place at = record { stream_is = at.stream_is; is_there = at.is_there }

end_there : (e : LineEnd) (id : ℕ) (f : Found) → e.port.name.side ≡ e.side → found_stream e.port.plans e.port.states id
    ≡ Some f → SameShown id (λ place. shown_end e place) (shown_stream id f.state)
end_there e id f named is place at =
    rw (at.is_there, at.stream_is, named, is, same-true id, sends_turned e.side place.direction) refl

pub record EndGoes (e : LineEnd) (id : ℕ) (x : StreamState) (request : List ℕ) (draw : ℕ) (e' : LineEnd) : Type 0 where
  pub done : is_done (λ place. shown_end e' place) (call_of request draw)
      ≡ is_done (shown_stream id x) (call_of request draw)
  pub port : HasStream e.port id (port_called (call_of request draw) x) (answered_end e' request draw).port
  pub stays : (answered_end e' request draw).side ≡ e'.side

moved_end : (e e' : LineEnd) (id : ℕ) (f : Found) (x : StreamState) (call : Option PlaceCall)
    → e.port.name.side ≡ e'.side → found_stream e.port.plans e.port.states id ≡ Some f → HasStream e.port id x e'.port
    → CallAt id call → HasStream e.port id (port_called call x) (line_end_after e' call).port
moved_end e e' id f x None named is has at = has
moved_end e e' id f x (Some call) named is has at =
    let c = called_there e.port e'.port id f x (record call { place = at_end e'.side call.place }) is has
    (turned_at id e'.side call.place at) in
    subst (λ (y : StreamState). HasStream e.port id y
    (called_port (record call { place = at_end e'.side call.place }) e'.port))
    (sent_same named)
    c
  where
    sent_same : e.port.name.side ≡ e'.side
        → state_moved (record call { place = at_end e'.side call.place }) e.port.name.side x ≡ port_called (Some call) x
    sent_same named = rw (named, sends_turned e'.side call.place.direction) refl

same_side : (e : LineEnd) (call : Option PlaceCall) → (line_end_after e call).side ≡ e.side
same_side e None = refl
same_side e (Some call) = refl

end_goes : (e e' : LineEnd) (id : ℕ) (f : Found) (x : StreamState) (a : NextExchange) (keeper : StreamView)
    → e.port.name.side ≡ e'.side → found_stream e.port.plans e.port.states id ≡ Some f → HasStream e.port id x e'.port
    → keeper.id ≡ id → IsAsked false (Some a)
    → EndGoes e id x (object_spelling (request_asked false a keeper)) a.draw e'
end_goes e e' id f x a keeper named is has name asked =
    let named' : e'.port.name.side ≡ e'.side = ap (λ (p : PortEnd). p.name.side) has ∙ named in
    let shows : SameShown id (λ place. shown_end e' place) (shown_stream id x) = end_there e' id _ named'
    (found_there e.port e'.port id f x is has) in
    let at : CallAt id (call_of (object_spelling (request_asked false a keeper)) a.draw) =
    rw name (pair_turn_at id a.draw keeper.keys (wire_asked false a) a.operation a.set a.exchange
    (pair_turn a.operation a.set a.exchange asked.0 asked.1)) in
    record {
      done = same_done id _ _ _ shows at;
      port = moved_end e e' id f x _ named is has at;
      stays = same_side e' (call_of (object_spelling (request_asked false a keeper)) a.draw);
    }

-- ---- the request reached its end

pub record IsPairDelivered (l0 : PairEnds) (id : ℕ) (a : NextExchange) (e : PairStreams) (l : PairEnds) (reply : List ℕ)
    :
    Type 0 where
  pub near : StreamState
  pub far : StreamState
  pub came : came_to_end (end_asked false a) 0 (request_asked false a e.keeper) a.draw e
      ≡ record { judged = judged_bytes (request_asked false a e.keeper) reply; near = near; far = far }
  pub near_is : HasStream l0.near.port id near l.near.port
  pub far_is : HasStream l0.far.port id far l.far.port
  pub near_stays : l.near.side ≡ l0.near.side
  pub far_stays : l.far.side ≡ l0.far.side

module _ (m0 m : ManagerView) (l0 l : PairEnds) (place id : ℕ) (near far : Found) (e : PairStreams) (a : NextExchange)
    (after : PairEnds) (reply : List ℕ) (on : IsAtBoth m0 l0 place id near far)
    (st : DiffersInPair m0 l0 place id e m l)
    (asked : IsAsked false (Some a)) where
  pub is_pair_delivered : (side : Side) → end_asked false a ≡ side → after ≡ with_end side
      (answered_end (line_end_in side l) (object_spelling (request_asked false a e.keeper)) a.draw) l
      → reply ≡ end_reply (line_end_in side l) (object_spelling (request_asked false a e.keeper)) a.draw
      → IsPairDelivered l0 id a e after reply
  is_pair_delivered Host at after_is reply_is =
      let request : List ℕ = object_spelling (request_asked false a e.keeper) in
      let went : EndGoes l0.near id e.near request a.draw l.near =
      end_goes l0.near l.near id near e.near a e.keeper (on.near_named ∙ sym (st.near_stays ∙ on.near_side))
      on.near_found st.near st.id_is asked in
      let call : Option PlaceCall = call_of request a.draw in
      let said : reply_bytes 0 request (is_done (shown_stream e.keeper.id e.near) call) ≡ reply =
      (λ i. reply_bytes 0 request (is_done (shown_stream (st.id_is i) e.near) call))
      ∙ (ap (λ o. reply_bytes 0 request o) (sym went.done) ∙ sym reply_is) in
      record {
        near = port_called call e.near;
        far = e.far;
        came = ap (λ (q : Side). came_to_end q 0 (request_asked false a e.keeper) a.draw e) at ∙ (λ i. record {
          judged = judged_bytes (request_asked false a e.keeper) (said i);
          near = port_called call e.near;
          far = e.far;
        });
        near_is = rw after_is went.port;
        far_is = rw after_is st.far;
        near_stays = rw after_is (went.stays ∙ st.near_stays);
        far_stays = rw after_is st.far_stays;
      }
  is_pair_delivered Device at after_is reply_is =
      let request : List ℕ = object_spelling (request_asked false a e.keeper) in
      let went : EndGoes l0.far id e.far request a.draw l.far =
      end_goes l0.far l.far id far e.far a e.keeper (on.far_named ∙ sym (st.far_stays ∙ on.far_side))
      on.far_found st.far st.id_is asked in
      let call : Option PlaceCall = call_of request a.draw in
      let said : reply_bytes 0 request (is_done (shown_stream e.keeper.id e.far) call) ≡ reply =
      (λ i. reply_bytes 0 request (is_done (shown_stream (st.id_is i) e.far) call))
      ∙ (ap (λ o. reply_bytes 0 request o) (sym went.done) ∙ sym reply_is) in
      record {
        near = e.near;
        far = port_called call e.far;
        came = ap (λ (q : Side). came_to_end q 0 (request_asked false a e.keeper) a.draw e) at ∙ (λ i. record {
          judged = judged_bytes (request_asked false a e.keeper) (said i);
          near = e.near;
          far = port_called call e.far;
        });
        near_is = rw after_is st.near;
        far_is = rw after_is went.port;
        near_stays = rw after_is st.near_stays;
        far_stays = rw after_is (went.stays ∙ st.far_stays);
      }

-- ---- the manager takes it: nothing is called

taken_pair_id : (a : NextExchange) (j : Judged) (s : StreamView) → (taken_stream false a j s).id ≡ s.id
taken_pair_id a j s = grind arith

taken_pair_link : (a : NextExchange) (j : Judged) (s : StreamView) → (taken_stream false a j s).line ≡ s.line
taken_pair_link a j s = grind arith

pub no_calls : (a : NextExchange) (j : Judged) (id : ℕ) → taken_calls false a j id ≡ []
no_calls a j id = grind arith

pub pair_exchange_ends : (m0 m m' : ManagerView) (l0 l' : PairEnds) (place id : ℕ) (near far : Found) (e : PairStreams)
    (a : NextExchange) (loss : Option Loss) (result : StreamOutcome) (j : Judged) (x y : StreamState)
    → (streams : m.streams ≡ slice_set m0.streams place e.keeper) → e.keeper.id ≡ id → has_host e.keeper ≡ false
    → pair_exchanged loss 0 a e ≡ record { judged = j; near = x; far = y } → result ≡ outcome_of false a j
    → m' ≡ record {
      streams = slice_set m.streams place (taken_stream false a j e.keeper);
      asking = asking_after place (outcome_of false a j);
    }
    → HasStream l0.near.port id x l'.near.port → HasStream l0.far.port id y l'.far.port
    → l'.near.side ≡ l0.near.side → l'.far.side ≡ l0.far.side → IsPairExchanged m0 l0 place id loss a e result m' l'
pair_exchange_ends m0 m m' l0 l' place id near far e a loss result j x y streams id_is paired is result_is after
    near_is far_is near_stays far_stays =
    let stands : DiffersInPair m0 l0 place id (pair_after a (record { judged = j; near = x; far = y }) e) m' l' =
    record {
      id_is = taken_pair_id a j e.keeper ∙ id_is;
      paired = ap is_hosted (taken_pair_link a j e.keeper) ∙ paired;
      streams = ap (λ (k : ManagerView). k.streams) after ∙ ap
          (λ (vs : List StreamView). slice_set vs place (taken_stream false a j e.keeper)) streams
          ∙ set_again m0.streams place e.keeper (taken_stream false a j e.keeper);
      near = near_is;
      far = far_is;
      near_stays = near_stays;
      far_stays = far_stays;
    } in
    record {
      outcome = result_is ∙ sym (ap (λ (z : PairExchanged). outcome_of false a z.judged) is);
      stands = subst (λ (z : PairExchanged). DiffersInPair m0 l0 place id (pair_after a z e) m' l') (sym is) stands;
      asking = ap (λ (k : ManagerView). k.asking) after ∙ ap (λ (o : StreamOutcome). asking_after place o)
          (sym result_is);
    }

-- ---- what a manager asks, seen as the keeper shows it

pub record IsPairAsking (m0 m : ManagerView) (l0 l : PairEnds) (place id : ℕ) (e : PairStreams) (a : NextExchange) :
    Type 0
  where
    pub stands : DiffersInPair m0 l0 place id e m l
    pub current_is : current m ≡ Some (record { place = place; stream = e.keeper; asked = a })

pub pair_is_asking : (m0 m : ManagerView) (pool : Pool) (k : KeeperView) (l0 l : PairEnds) (place id : ℕ)
    (near far : Found) (e : PairStreams) (a : NextExchange)
    → (let v : KeeperView = record { manager = m; pool = pool } in v) ≡ k → IsAtBoth m0 l0 place id near far
    → DiffersInPair m0 l0 place id e k.manager l
    → k.manager.asking ≡ Some place → asked_of_unfinished e.keeper.op ≡ Some a → IsPairAsking m0 m l0 l place id e a
pair_is_asking m0 m pool k l0 l place id near far e a view on st asking asked =
    let st' : DiffersInPair m0 l0 place id e m l = subst
    (λ (k : KeeperView). DiffersInPair m0 l0 place id e k.manager l) (sym view) st in
    let read = pair_keeper_read m0 m l0 l place id near far e on st' in
    record {
      stands = st';
      current_is = current_is m place e.keeper (ap (λ (k : KeeperView). k.manager.asking) view ∙ asking) read
          ∙ ap (λ (o : Option NextExchange). current_asked place e.keeper o) asked;
    }

-- the near port after a take: no call
pub near_same : (e e' : PortEnd) (a : NextExchange) (j : Judged) (id : ℕ) → PortMoves e (taken_calls false a j id) e'
    → e' ≡ e
near_same e e' a j id moves = subst (λ (cs : List PlaceCall). PortMoves e cs e') (no_calls a j id) moves

pub pair_lost : (loss : Option Loss) (n : ℕ) (came : PairExchanged) (e : PairStreams) (o : Option Lost)
    → lost_message loss n ≡ o → pair_unless_lost (lost_message loss n) came e ≡ pair_unless_lost o came e
pair_lost loss n came e o is = ap (λ (q : Option Lost). pair_unless_lost q came e) is
