-- An operation on one stream, from where the manager begins it or goes on with it.
use Rattle.link_ends.proofs.Terms.{◌≡◌, ℕ, Bool, true, false, [], refl, sym, ◌∙◌, arith, Option, Some, None, Ok, Err}
use Rattle.link_ends.proofs.Terms.{option_map, option_and_then, if◌then◌else◌, slice_set, Side, Pool, live_set}
use Rattle.link_ends.proofs.Terms.{six_keys, Loss, Operation, Work, new_work, work_of, op_at_exchange, makes_draw}
use Rattle.link_ends.proofs.Terms.{StreamOutcome, op_name, programs, StreamView, HostView, host_view}
use Rattle.link_ends.proofs.Terms.{asked_of_unfinished, refusal_of, ok_unless, begun_stream, begun_calls, ManagerView}
use Rattle.link_ends.proofs.Terms.{Named, named_stream, begin_refusal, begun_manager, pool_begun, calls_begun, IsAsked}
use Rattle.link_ends.proofs.Terms.{pair_at, stream_status, all_called_at_side, stream_stop_calls, WalkedEnds, walk_on}
use Rattle.link_ends.proofs.Terms.{walked_ends_unless, begun_ends, event_walk, PortEnd, Found, found_stream}
use Rattle.link_ends.proofs.Terms.{port_stream_status, live_in_port, LinkEnds, KeeperView, HasStream, IsAtBothEnds}
use Rattle.link_ends.proofs.Terms.{DiffersInStream, IsWalked, Walks, IsOperated, ends_found, ap, subst}
use Rattle.ide_types.specs.declared.sub.SubKind.{SubKind}
use Rattle.key_host.specs.declared.operation.NamedOperation.{NamedOperation}
use Rattle.key_host.specs.declared.operation.StreamOutcome.TheVariants as outcome
use Rattle.key_host.specs.declared.operation.StreamRefusal.{StreamRefusal}
use Rattle.join_keys.specs.Joined.{host_of}
use Rattle.join_keys.proofs.Works.{begun_id, begun_line}
use Rattle.ide_types.specs.Lines.{is_hosted}
use Rattle.key_host.specs.Streams.{has_host}
use Rattle.ide_types.proofs.Places.{set_read}
use Rattle.link_ends.proofs.Ports.{AllAt, PortMoves, all_there, programs_at, stream_stop_calls_at, stream_stands}
use Rattle.link_ends.proofs.Names.{IsNamed, named_stands}

-- what the manager reads of the host's port
abbrev pub host_port_view : PortEnd → ℕ → HostView
host_port_view e id = host_view (λ port stream. port_stream_status port stream)
    (λ port stream sub. live_in_port port stream sub)
    e id

pub host_seen : (e : PortEnd) (id : ℕ) (f : Found) → found_stream e.plans e.states id ≡ Some f → host_port_view e id
    ≡ host_of f.state
host_seen e id f is =
    ap (λ (o : Option Found). let v : HostView = record {
      status = option_map (λ (g : Found). stream_status g.state) o;
      live = λ (u : SubKind). option_and_then
          (λ (g : Found). live_set (pair_at true u g.state)) o;
    } in v)
    is

pub refused_by : (o : Option StreamRefusal) (r : StreamRefusal) → Err r ≡ ok_unless o → o ≡ Some r
refused_by o r is = grind arith

pub not_refused : (o : Option StreamRefusal) → Ok tt ≡ ok_unless o → o ≡ None
not_refused o is = grind arith

-- ---- what it asks when it begins, or goes on

standing_first : (o : Operation) (set : Bool) (draw f : ℕ) (b : Bool)
    → IsAsked true (asked_of_unfinished (op_at_exchange (new_work o set draw f b) 1))
standing_first o set draw f b = grind arith

begun_asked : (w : Work) (pool : Pool) (s : StreamView) → IsAsked true (asked_of_unfinished s.op)
    → IsAsked true (asked_of_unfinished (begun_stream true w pool s).op)
begun_asked w pool s asked = grind (arith, standing_first w.operation w.set w.draw w.first w.begins)

begun_at : (id : ℕ) (w : Work) (pool : Pool) → AllAt id (begun_calls true w pool id)
begun_at id w pool = by_tests w.begins (makes_draw w.operation)
  where
    by_tests : (b makes : Bool) → AllAt id
        (if b then (if makes then programs id w.set (six_keys pool.keys w.draw) w.draw else stream_stop_calls id)
        else [])
    by_tests true true = programs_at id w.set (six_keys pool.keys w.draw) w.draw
    by_tests true false = stream_stop_calls_at id
    by_tests false makes = tt

-- ---- an operation of the name

module _ (k : KeeperView) (m1 : ManagerView) (pool1 : Pool) (l : LinkEnds) (host1 : PortEnd) (op : NamedOperation)
    (loss : Option Loss) (n : Named) (host device : Found)
    (is : named_stream k.manager (op_name op).line (op_name op).stream ≡ Some n)
    (hosted : has_host n.stream ≡ true) (on : IsAtBothEnds k.manager l n.place (op_name op).stream host device)
    (manager_is : m1 ≡ begun_manager k.manager (op_name op).operation (host_port_view l.host n.stream.id) k.pool n)
    (pool_is : pool1 ≡ pool_begun (op_name op).operation (host_port_view l.host n.stream.id) k.pool n)
    (moves : PortMoves l.host (calls_begun (op_name op).operation (host_port_view l.host n.stream.id) k.pool n)
    host1) where
  at_name : IsNamed k.manager (op_name op).line (op_name op).stream n
  at_name = named_stands k.manager (op_name op).line (op_name op).stream n is

  view : host_port_view l.host n.stream.id ≡ host_of host.state
  view = host_seen l.host n.stream.id host
      (ap (λ (i : ℕ). found_stream l.host.plans l.host.states i) at_name.id_is ∙ on.host_found)

  pool_after : pool1 ≡ pool_begun (op_name op).operation (host_of host.state) k.pool n
  pool_after = pool_is ∙ ap (λ (v : HostView). pool_begun (op_name op).operation v k.pool n) view

  abbrev begun_work : Work
  begun_work = work_of (op_name op).operation n.stream.op k.pool.draws

  walk_by : (o : Option StreamRefusal) → begin_refusal (op_name op).operation (host_port_view l.host n.stream.id) k.pool
      n ≡ o → event_walk (op_name op).operation (host_of host.state) k.pool loss l.device.requester
      (ends_found n host device) ≡ walked_ends_unless o (ends_found n host device)
      (walk_on 13 loss l.device.requester (begun_ends begun_work k.pool (ends_found n host device)))
  walk_by o refusal =
      ap (λ (q : Option StreamRefusal). walked_ends_unless q (ends_found n host device)
      (walk_on 13 loss l.device.requester (begun_ends begun_work k.pool (ends_found n host device))))
      (ap (λ (v : HostView). refusal_of (op_name op).operation n.stream.op v k.pool) (sym view) ∙ refusal)

  pub operate_refused : (r : StreamRefusal) → Err r ≡ ok_unless
      (begin_refusal (op_name op).operation (host_port_view l.host n.stream.id) k.pool n)
      → IsOperated k l op loss n host device (outcome.Refused r) (record { manager = m1; pool = pool1 })
      (record { host = host1; device = l.device })
  operate_refused r answer =
      let refusal : begin_refusal (op_name op).operation (host_port_view l.host n.stream.id) k.pool n ≡ Some r =
      refused_by (begin_refusal (op_name op).operation (host_port_view l.host n.stream.id) k.pool n) r answer in
      let same_manager : m1 ≡ k.manager = rw refusal at manager_is in
      let same_host : host1 ≡ l.host = rw refusal at moves in
      let st : DiffersInStream k.manager l n.place (op_name op).stream (ends_found n host device) m1
      (record { host = host1; device = l.device }) =
      rw (same_manager, same_host) (record {
        id_is = at_name.id_is;
        hosted = hosted;
        streams = sym (set_read k.manager.streams n.place n.stream at_name.read);
        host = stream_stands l.host (op_name op).stream host on.host_found;
        device = stream_stands l.device.port (op_name op).stream device on.device_found;
        requester = refl;
      }) in
      record {
        walked = subst (λ (v : WalkedEnds). IsWalked k.manager l n.place (op_name op).stream v (outcome.Refused r) m1
            (record { host = host1; device = l.device }))
            (sym (walk_by (Some r) refusal)) (record { outcome = refl; stands = st });
        pool = pool_after;
      }

  pub operate_goes : (m2 : ManagerView) (pool2 : Pool) (l2 : LinkEnds) (result : StreamOutcome)
      → IsAsked true (asked_of_unfinished n.stream.op)
      → Ok tt ≡ ok_unless (begin_refusal (op_name op).operation (host_port_view l.host n.stream.id) k.pool n)
      → Walks 13 loss m1 (record { host = host1; device = l.device }) result m2 l2 → pool2 ≡ pool1
      → IsOperated k l op loss n host device result (record { manager = m2; pool = pool2 }) l2
  operate_goes m2 pool2 l2 result asked answer walks pool_same =
      let id : ℕ = (op_name op).stream in
      let refusal : begin_refusal (op_name op).operation (host_port_view l.host n.stream.id) k.pool n ≡ None =
      not_refused (begin_refusal (op_name op).operation (host_port_view l.host n.stream.id) k.pool n) answer in
      let after : m1 ≡ record {
        streams = slice_set k.manager.streams n.place (begun_stream true begun_work k.pool n.stream);
        asking = Some
            n.place;
      } =
      rw (refusal, hosted) at manager_is in
      let moved : PortMoves l.host (begun_calls true begun_work k.pool n.stream.id) host1 = rw
      (refusal, hosted) at
      moves in
      let moved : HasStream l.host id
      (all_called_at_side l.host.name.side (begun_calls true begun_work k.pool n.stream.id) host.state) host1 =
      all_there l.host l.host host1 id host host.state (begun_calls true begun_work k.pool n.stream.id) on.host_found
      (stream_stands l.host id host on.host_found)
      (rw at_name.id_is (begun_at id begun_work k.pool)) moved in
      let st : DiffersInStream k.manager l n.place id (begun_ends begun_work k.pool (ends_found n host device)) m1
      (record { host = host1; device = l.device }) =
      record {
        id_is = begun_id true begun_work k.pool n.stream ∙ at_name.id_is;
        hosted = ap is_hosted (begun_line true begun_work k.pool n.stream) ∙ hosted;
        streams = ap (λ (m : ManagerView). m.streams) after;
        host = subst (λ (d : Side). HasStream l.host id
            (all_called_at_side d (begun_calls true begun_work k.pool n.stream.id) host.state) host1) on.host_side
            moved;
        device = stream_stands l.device.port id device on.device_found;
        requester = refl;
      } in
      record {
        walked = subst (λ (v : WalkedEnds). IsWalked k.manager l n.place id v result m2 l2) (sym (walk_by None refusal))
            (walks k.manager l n.place id host device _ on st (ap (λ (m : ManagerView). m.asking) after)
            (begun_asked begun_work k.pool n.stream asked));
        pool = pool_same ∙ pool_after;
      }
