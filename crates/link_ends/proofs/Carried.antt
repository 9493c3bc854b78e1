-- What an exchange makes of the manager and of both ends, whether its request reaches the device or is lost.
use Rattle.link_ends.proofs.Terms.{◌≡◌, ℕ, Bool, true, false, List, [], sym, ◌∙◌, arith, Option, Some, None}
use Rattle.link_ends.proofs.Terms.{if◌then◌else◌, slice_get, slice_set, Side, nat_tests, PlaceCall, call_of, is_done}
use Rattle.link_ends.proofs.Terms.{reply_bytes, object_spelling, Loss, Judged, Expected, Refused, Bad, StreamOutcome}
use Rattle.link_ends.proofs.Terms.{NextExchange, is_last_receiver_go, StreamView, asked_of_unfinished, exchange_asked}
use Rattle.link_ends.proofs.Terms.{request_asked, outcome_of, taken_stream, taken_calls, ManagerView, current}
use Rattle.link_ends.proofs.Terms.{current_in_list, current_if_there, current_asked, asking_after, IsAsked, StreamState}
use Rattle.link_ends.proofs.Terms.{all_called_at_side, StreamEnds, Exchanged, exchange_outcome, exchanged_unless_lost}
use Rattle.link_ends.proofs.Terms.{exchange_if_lost, came_to, ends_after_exchange, shown_stream, port_called, goes}
use Rattle.link_ends.proofs.Terms.{judged_bytes, Found, DeviceEnd, asked_device, reply_given, LinkEnds, lost_message}
use Rattle.link_ends.proofs.Terms.{Pool, KeeperView, HasStream, IsAtBothEnds, DiffersInStream, IsExchanged, ap, subst}
use Rattle.key_slots.specs.{is_one}
use Rattle.ide_types.specs.Lines.{is_hosted}
use Rattle.script_events.specs.declared.event.Lost.{Lost}
use Rattle.key_host.specs.declared.judge.Judged.TheVariants.{Lost as NotCarried}
use Rattle.ide_types.proofs.Places.{read_set, set_again}
use Rattle.link_ends.proofs.Ports.{AllAt, PortMoves, all_there, goes_at}
use Rattle.link_ends.proofs.Exchanges.{DeviceGoes, device_goes}

-- ---- the stream that is asked

pub keeper_read : (m0 m : ManagerView) (l0 l : LinkEnds) (place id : ℕ) (host device : Found) (e : StreamEnds)
    → IsAtBothEnds m0 l0 place id host device → DiffersInStream m0 l0 place id e m l
    → slice_get m.streams place ≡ Some e.keeper
keeper_read m0 m l0 l place id host device e on st = ap (λ (vs : List StreamView). slice_get vs place) st.streams ∙
    read_set m0.streams place e.keeper on.within

pub current_is : (m : ManagerView) (place : ℕ) (keeper : StreamView) → m.asking ≡ Some place
    → slice_get m.streams place ≡ Some keeper → current m ≡ current_asked place keeper (asked_of_unfinished keeper.op)
current_is m place keeper asking read = ap (λ (o : Option ℕ). current_in_list m.streams o) asking ∙ ap
    (λ (o : Option StreamView). current_if_there place o) read

-- what a manager asks, seen as the keeper shows it
pub record IsAsking (m0 m : ManagerView) (l0 l : LinkEnds) (place id : ℕ) (e : StreamEnds) (a : NextExchange) : Type 0
  where
    pub stands : DiffersInStream m0 l0 place id e m l
    pub current_is : current m ≡ Some (record { place = place; stream = e.keeper; asked = a })

pub is_asking : (m0 m : ManagerView) (pool : Pool) (k : KeeperView) (l0 l : LinkEnds) (place id : ℕ)
    (host device : Found) (e : StreamEnds) (a : NextExchange)
    → (let v : KeeperView = record { manager = m; pool = pool } in v) ≡ k → IsAtBothEnds m0 l0 place id host device
    → DiffersInStream m0 l0 place id e k.manager l
    → k.manager.asking ≡ Some place → asked_of_unfinished e.keeper.op ≡ Some a → IsAsking m0 m l0 l place id e a
is_asking m0 m pool k l0 l place id host device e a view on st asking asked =
    let st' : DiffersInStream m0 l0 place id e m l = subst
    (λ (k : KeeperView). DiffersInStream m0 l0 place id e k.manager l) (sym view)
    st in
    let read = keeper_read m0 m l0 l place id host device e on st' in
    record {
      stands = st';
      current_is = current_is m place e.keeper (ap (λ (k : KeeperView). k.manager.asking) view ∙ asking) read
          ∙ ap (λ (o : Option NextExchange). current_asked place e.keeper o) asked;
    }

-- ---- what is lost

pub not_lost : (loss : Option Loss) (n : ℕ) (came : Exchanged) (x : StreamState) → lost_message loss n ≡ None
    → exchanged_unless_lost loss n came x ≡ came
not_lost loss n came x is = grind (arith, nat_tests)

pub is_lost : (loss : Option Loss) (n : ℕ) (came : Exchanged) (x : StreamState) (k : Lost)
    → lost_message loss n ≡ Some k → exchanged_unless_lost loss n came x ≡ exchange_if_lost k came x
is_lost loss n came x k is = grind (arith, nat_tests)

-- ---- the request reached the device

pub record IsDelivered (l0 : LinkEnds) (id : ℕ) (a : NextExchange) (e : StreamEnds) (device : DeviceEnd)
    (reply : List ℕ) :
    Type 0 where
  pub after : StreamState
  pub came : came_to l0.device.requester (request_asked true a e.keeper) e.keeper.id a.draw e.device
      ≡ record { judged = judged_bytes (request_asked true a e.keeper) reply; device = after }
  pub port : HasStream l0.device.port id after device.port
  pub requester : device.requester ≡ l0.device.requester

pub is_delivered : (m0 m : ManagerView) (l0 l : LinkEnds) (place id : ℕ) (host device : Found) (e : StreamEnds)
    (a : NextExchange) (after : DeviceEnd) (reply : List ℕ) → IsAtBothEnds m0 l0 place id host device
    → DiffersInStream m0 l0 place id e m l → IsAsked true (Some a) → after
    ≡ asked_device l.device (object_spelling (request_asked true a e.keeper)) a.draw → reply
    ≡ reply_given l.device (object_spelling (request_asked true a e.keeper)) a.draw → IsDelivered l0 id a e after reply
is_delivered m0 m l0 l place id host device e a after reply on st asked after_is reply_is =
    let request : List ℕ = object_spelling (request_asked true a e.keeper) in
    let went : DeviceGoes l0.device.port id e.device request a.draw l.device.port =
    device_goes l0.device.port l.device.port id device e.device a e.keeper on.device_side on.device_found st.device
    st.id_is asked in
    let call : Option PlaceCall = call_of request a.draw in
    let said : reply_bytes l0.device.requester request (is_done (shown_stream e.keeper.id e.device) call) ≡ reply =
    (λ i. reply_bytes (sym st.requester i) request (is_done (shown_stream (st.id_is i) e.device) call))
    ∙ (ap (λ o. reply_bytes l.device.requester request o) (sym went.done) ∙ sym reply_is) in
    record {
      after = port_called call e.device;
      came = λ i. record {
        judged = judged_bytes (request_asked true a e.keeper) (said i);
        device = port_called call e.device;
      };
      port = rw after_is went.port;
      requester = ap (λ (d : DeviceEnd). d.requester) after_is ∙ st.requester;
    }

-- ---- the manager takes it

taken_link : (a : NextExchange) (j : Judged) (s : StreamView) → (taken_stream true a j s).line ≡ s.line
taken_link a j s = grind arith

taken_id : (a : NextExchange) (j : Judged) (s : StreamView) → (taken_stream true a j s).id ≡ s.id
taken_id a j s = grind arith

go_at_all : (id : ℕ) (set b : Bool) → AllAt id (if b then goes id set else [])
go_at_all id set true = goes_at id set
go_at_all id set false = tt

taken_at : (id : ℕ) (a : NextExchange) (j : Judged) → AllAt id (taken_calls true a j id)
taken_at id a Expected = go_at_all id (is_one a.set) (is_last_receiver_go (exchange_asked true a))
taken_at id a NotCarried = tt
taken_at id a (Refused code) = tt
taken_at id a Bad = tt

pub exchange_ends : (m0 m m' : ManagerView) (l0 l l' : LinkEnds) (place id : ℕ) (host device : Found) (e : StreamEnds)
    (a : NextExchange) (loss : Option Loss)
    (result : StreamOutcome) (j : Judged) (y : StreamState)
    → IsAtBothEnds m0 l0 place id host device → DiffersInStream m0 l0 place id e m l
    → exchange_outcome loss l0.device.requester a e ≡ record { judged = j; device = y } → result ≡ outcome_of true a j
    → m' ≡ record {
      streams = slice_set m.streams place (taken_stream true a j e.keeper);
      asking = asking_after place
          (outcome_of true a j);
    }
    → PortMoves l.host (taken_calls true a j e.keeper.id) l'.host
    → HasStream l0.device.port id y l'.device.port → l'.device.requester ≡ l0.device.requester
    → IsExchanged m0 l0 place id loss a e result m' l'
exchange_ends m0 m m' l0 l l' place id host device e a loss result j y on st is result_is after moves port requester =
    let called : HasStream l0.host id
    (all_called_at_side l0.host.name.side (taken_calls true a j e.keeper.id) e.host)
    l'.host =
    all_there l0.host l.host l'.host id host e.host (taken_calls true a j e.keeper.id) on.host_found st.host
    (rw st.id_is (taken_at id a j)) moves in
    let stands : DiffersInStream m0 l0 place id (ends_after_exchange a (record { judged = j; device = y }) e) m' l'
    = record {
      id_is = taken_id a j e.keeper ∙ st.id_is;
      hosted = ap is_hosted (taken_link a j e.keeper) ∙ st.hosted;
      streams = ap (λ (k : ManagerView). k.streams) after ∙ ap
          (λ (vs : List StreamView). slice_set vs place (taken_stream true a j e.keeper)) st.streams
          ∙ set_again m0.streams place e.keeper (taken_stream true a j e.keeper);
      host = subst (λ (s : Side). HasStream l0.host id (all_called_at_side s (taken_calls true a j e.keeper.id) e.host)
          l'.host)
          on.host_side called;
      device = port;
      requester = requester;
    } in
    record {
      outcome = result_is ∙ sym (ap (λ (x : Exchanged). outcome_of true a x.judged) is);
      stands = subst (λ (x : Exchanged). DiffersInStream m0 l0 place id (ends_after_exchange a x e) m' l') (sym is)
          stands;
      asking = ap (λ (k : ManagerView). k.asking) after ∙ ap (λ (o : StreamOutcome). asking_after place o)
          (sym result_is);
    }
