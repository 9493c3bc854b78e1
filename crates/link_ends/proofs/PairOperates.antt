-- An operation on one stream of a line that is keyed by messages at both ends, from where the manager begins it or goes
-- on with it.
use Rattle.link_ends.proofs.Terms.{◌≡◌, ℕ, Bool, false, List, [], refl, sym, ◌∙◌, arith, Option, Some, None, Ok, Err}
use Rattle.link_ends.proofs.Terms.{slice_set, Pool, Loss, Operation, Work, new_work, work_of, op_at_exchange}
use Rattle.link_ends.proofs.Terms.{StreamOutcome, op_name, StreamView, HostView, asked_of_unfinished, refusal_of}
use Rattle.link_ends.proofs.Terms.{ok_unless, begun_stream, begun_calls, ManagerView, Named, named_stream}
use Rattle.link_ends.proofs.Terms.{begin_refusal, begun_manager, pool_begun, calls_begun, IsAsked, PortEnd, Found}
use Rattle.link_ends.proofs.Terms.{found_stream, KeeperView, HasStream, PlaceCall, ap, subst}
use Rattle.key_host.specs.declared.operation.NamedOperation.{NamedOperation}
use Rattle.key_host.specs.declared.operation.StreamOutcome.TheVariants as outcome
use Rattle.key_host.specs.declared.operation.StreamRefusal.{StreamRefusal}
use Rattle.key_host.specs.Streams.{has_host}
use Rattle.ide_types.specs.Lines.{is_hosted}
use Rattle.link_ends.specs.declared.pair.PairEnds.{PairEnds}
use Rattle.join_keys.specs.Joined.{host_of}
use Rattle.join_keys.specs.Paired.{PairWalked, pair_walk, pair_walked_unless, begun_pair, pair_event}
use Rattle.join_keys.proofs.Works.{begun_id, begun_line}
use Rattle.link_ends.specs.PairKeepers.{IsAtBoth, DiffersInPair, IsPairWalked, PairWalks, IsPairOperated, pair_found}
use Rattle.ide_types.proofs.Places.{set_read}
use Rattle.link_ends.proofs.Ports.{PortMoves, stream_stands}
use Rattle.link_ends.proofs.Names.{IsNamed, named_stands}
use Rattle.link_ends.proofs.Operates.{host_port_view, host_seen, refused_by, not_refused}

-- ---- what it asks when it begins, or goes on

standing_first : (o : Operation) (set : Bool) (draw f : ℕ) (b : Bool)
    → IsAsked false (asked_of_unfinished (op_at_exchange (new_work o set draw f b) 1))
standing_first o set draw f b = grind arith

begun_asked : (w : Work) (pool : Pool) (s : StreamView) → IsAsked false (asked_of_unfinished s.op)
    → IsAsked false (asked_of_unfinished (begun_stream false w pool s).op)
begun_asked w pool s asked = grind (arith, standing_first w.operation w.set w.draw w.first w.begins)

pair_begun_calls : (w : Work) (pool : Pool) (id : ℕ) → begun_calls false w pool id ≡ []
pair_begun_calls w pool id = grind arith

-- ---- an operation of the name

module _ (k : KeeperView) (m1 : ManagerView) (pool1 : Pool) (l : PairEnds) (near1 : PortEnd) (op : NamedOperation)
    (loss : Option Loss) (n : Named) (near far : Found)
    (is : named_stream k.manager (op_name op).line (op_name op).stream ≡ Some n)
    (paired : has_host n.stream ≡ false) (on : IsAtBoth k.manager l n.place (op_name op).stream near far)
    (manager_is : m1 ≡ begun_manager k.manager (op_name op).operation (host_port_view l.near.port n.stream.id) k.pool n)
    (pool_is : pool1 ≡ pool_begun (op_name op).operation (host_port_view l.near.port n.stream.id) k.pool n)
    (moves : PortMoves l.near.port (calls_begun (op_name op).operation (host_port_view l.near.port n.stream.id) k.pool
    n) near1)
  where
    at_name : IsNamed k.manager (op_name op).line (op_name op).stream n
    at_name = named_stands k.manager (op_name op).line (op_name op).stream n is

    view : host_port_view l.near.port n.stream.id ≡ host_of near.state
    view = host_seen l.near.port n.stream.id near
        (ap (λ (i : ℕ). found_stream l.near.port.plans l.near.port.states i) at_name.id_is ∙ on.near_found)

    pool_after : pool1 ≡ pool_begun (op_name op).operation (host_of near.state) k.pool n
    pool_after = pool_is ∙ ap (λ (v : HostView). pool_begun (op_name op).operation v k.pool n) view

    abbrev begun_work : Work
    begun_work = work_of (op_name op).operation n.stream.op k.pool.draws

    walk_by : (o : Option StreamRefusal) → begin_refusal (op_name op).operation (host_port_view l.near.port n.stream.id)
        k.pool n ≡ o → pair_event (op_name op).operation (host_of near.state) k.pool loss 0 (pair_found n near far)
        ≡ pair_walked_unless o (pair_found n near far)
        (pair_walk 24 loss 0 (begun_pair begun_work k.pool (pair_found n near far)))
    walk_by o refusal =
        ap (λ (q : Option StreamRefusal). pair_walked_unless q (pair_found n near far)
        (pair_walk 24 loss 0 (begun_pair begun_work k.pool (pair_found n near far))))
        (ap (λ (v : HostView). refusal_of (op_name op).operation n.stream.op v k.pool) (sym view) ∙ refusal)

    pub pair_refused : (r : StreamRefusal) → Err r ≡ ok_unless
        (begin_refusal (op_name op).operation (host_port_view l.near.port n.stream.id) k.pool n)
        → IsPairOperated k l op loss n near far (outcome.Refused r) (record { manager = m1; pool = pool1 })
        (record l { near = record l.near { port = near1 } })
    pair_refused r answer =
        let refusal : begin_refusal (op_name op).operation (host_port_view l.near.port n.stream.id) k.pool n ≡ Some r =
        refused_by (begin_refusal (op_name op).operation (host_port_view l.near.port n.stream.id) k.pool n) r answer in
        let same_manager : m1 ≡ k.manager = rw refusal at manager_is in
        let same_host : near1 ≡ l.near.port = rw refusal at moves in
        let st : DiffersInPair k.manager l n.place (op_name op).stream (pair_found n near far) m1
        (record l { near = record l.near { port = near1 } }) =
        rw (same_manager, same_host) (record {
          id_is = at_name.id_is;
          paired = paired;
          streams = sym (set_read k.manager.streams n.place n.stream at_name.read);
          near = stream_stands l.near.port (op_name op).stream near on.near_found;
          far = stream_stands l.far.port (op_name op).stream far on.far_found;
          near_stays = refl;
          far_stays = refl;
        }) in
        record {
          walked = subst (λ (v : PairWalked). IsPairWalked k.manager l n.place (op_name op).stream v (outcome.Refused r)
              m1
              (record l { near = record l.near { port = near1 } }))
              (sym (walk_by (Some r) refusal)) (record { outcome = refl; stands = st });
          pool = pool_after;
        }

    pub pair_goes_on_with : (m2 : ManagerView) (pool2 : Pool) (l2 : PairEnds) (result : StreamOutcome)
        → IsAsked false (asked_of_unfinished n.stream.op)
        → Ok tt ≡ ok_unless (begin_refusal (op_name op).operation (host_port_view l.near.port n.stream.id) k.pool n)
        → PairWalks 24 loss m1 (record l { near = record l.near { port = near1 } }) result m2 l2 → pool2 ≡ pool1
        → IsPairOperated k l op loss n near far result (record { manager = m2; pool = pool2 }) l2
    pair_goes_on_with m2 pool2 l2 result asked answer walks pool_same =
        let id : ℕ = (op_name op).stream in
        let refusal : begin_refusal (op_name op).operation (host_port_view l.near.port n.stream.id) k.pool n ≡ None =
        not_refused (begin_refusal (op_name op).operation (host_port_view l.near.port n.stream.id) k.pool n) answer in
        let after : m1 ≡ record {
          streams = slice_set k.manager.streams n.place (begun_stream false begun_work k.pool n.stream);
          asking = Some
              n.place;
        } =
        rw (refusal, paired) at manager_is in
        let moved : PortMoves l.near.port (begun_calls false begun_work k.pool n.stream.id) near1 =
        rw (refusal, paired) at moves in
        let same : near1 ≡ l.near.port =
        subst (λ (cs : List PlaceCall). PortMoves l.near.port cs near1) (pair_begun_calls begun_work k.pool n.stream.id)
        moved in
        let st : DiffersInPair k.manager l n.place id (begun_pair begun_work k.pool (pair_found n near far)) m1
        (record l { near = record l.near { port = near1 } }) =
        record {
          id_is = begun_id false begun_work k.pool n.stream ∙ at_name.id_is;
          paired = ap is_hosted (begun_line false begun_work k.pool n.stream) ∙ paired;
          streams = ap (λ (m : ManagerView). m.streams) after;
          near = subst (λ (p : PortEnd). HasStream l.near.port id near.state p) (sym same)
              (stream_stands l.near.port id near on.near_found);
          far = stream_stands l.far.port id far on.far_found;
          near_stays = refl;
          far_stays = refl;
        } in
        record {
          walked = subst (λ (v : PairWalked). IsPairWalked k.manager l n.place id v result m2 l2)
              (sym (walk_by None refusal))
              (walks k.manager l n.place id near far _ on st (ap (λ (m : ManagerView). m.asking) after)
              (begun_asked begun_work k.pool n.stream asked));
          pool = pool_same ∙ pool_after;
        }
