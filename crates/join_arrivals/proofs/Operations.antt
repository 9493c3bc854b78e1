-- An operation at both ends of a line, as the machine has it. `OperationsJoin` says that the walk at the ends of one
-- stream gives the machine's verdict and touches, `PairOperationsJoin` on a line that is keyed by messages at both;
-- here it is set among all lines.
use Rattle.join_ends.specs.{AreLinks, IsLink, IsPair, StreamKept, KeptBy, name_of, rows_of, state_of, IsAtBothEnds}
use Rattle.join_ends.specs.{IsOperated, IsWalked, KeeperView, Operates, ends_found, IsJoined, KeysKept, OperationsJoin}
use Rattle.join_ends.specs.{host_of, pool_by, verdict_due, LinkEnds, PairEnds, StreamEnds, WalkedEnds, begun_ends}
use Rattle.join_ends.specs.{event_walk, walk_on, EndsView, port_on, line_place, pair_port, port_at_place, settled_place}
use Rattle.join_ends.specs.{OperatesAt, OperatesByPlace, LinePlace, Link}
use Rattle.join_ends.specs.{Near, Pair, port_in, IsAtBoth, IsPairOperated, IsPairWalked, PairOperates, pair_found}
use Rattle.join_ends.proofs.{IsNamed, named_stands, is_asked, changed_is, each_set, Grows, KeepsEnds}
use Rattle.join_ends.proofs.{KeepsPair, grows_then, keeper_kept, links_grow, links_kept, near_grow, near_kept}
use Rattle.join_ends.proofs.{pairs_grow, pairs_kept, place_grows, place_kept, place_rows}
use Rattle.join_ends.proofs.Operated.{BothHave, IsDone, both_at, names_set, pool_keys, port_operated, rows_link}
use Rattle.join_ends.proofs.Operated.{rows_near, rows_pair, state_by, with_both}
use Rattle.join_ends.proofs.Streams.{op_is, planned, port_found}
use Rattle.join_keys.specs.Paired.{IsPairJoined, PairKeysKeptIn, PairOperationsJoin, PairWalked, begun_pair, pair_event}
use Rattle.join_keys.specs.Paired.{PairStreams, pair_walk}
use Rattle.key_host.specs.Walk.{IsAsked, verdict_of}
use Rattle.machine_ports.specs.Machine.{BesidePorts, LinkPacket, LinkState, Stepped, port_at, stepped_operation}
use Rattle.std.proofs.Common.{Bool, List, ap, arith, refl, subst, sym, true, false, ℕ, ◌+◌, ◌-◌, ◌∙◌, ◌≡◌}
use Rattle.std.proofs.lemmas.Bool.Decides.{nat_tests}
use Rattle.std.specs.Prelude.{IsSome, None, Option, Some, ◌≢◌, is_some, if◌then◌else◌, map, nat_lt, option_map}
use Rattle.std.specs.Prelude.{slice_get, slice_set}
use Rattle.std.proofs.lemmas.Option.{same_Some, slice_get_within}
use Rattle.ide_types.specs.declared.port.Side.{Side}
use Rattle.ide_types.specs.declared.port.Side.TheVariants.{Device, Host}
use Rattle.ide_types.specs.declared.port.PortName.{PortName}
use Rattle.ide_types.specs.Lines.{is_hosted, is_link_line}
use Rattle.ide_types.specs.declared.plan.Plan.{Plan}
use Rattle.event_verdicts.specs.declared.verdict.Verdict.{Verdict}
use Rattle.event_verdicts.specs.declared.verdict.Verdict.TheVariants as v
use Rattle.event_verdicts.specs.declared.verdict.Operation.{Operation}
use Rattle.event_verdicts.specs.declared.verdict.Operation.TheVariants as op
use Rattle.script_events.specs.declared.event.Loss.{Loss}
use Rattle.key_slots.specs.{Pool}
use Rattle.spec_keys.specs.Operations.{StreamStage, Reach, Work, reach_of, work_of}
use Rattle.spec_keys.specs.History.{History}
use Rattle.spec_stream.specs.Stream.{StreamState}
unfoldable use Rattle.spec_links.specs.Plan.{stream_plan}
unfoldable use Rattle.machine_ports.specs.Machine.{find_op, step_of}
use Rattle.machine_ports.specs.Stands.{PortsStandFor}
use Rattle.machine_ports.specs.Machine as machine
use Rattle.key_host.specs.Streams.{StreamView, asked_of_unfinished, refusal_of}
use Rattle.key_host.specs.Managers.{ManagerView, Named, named_stream, op_named, pool_begun}
use Rattle.key_host.specs.declared.operation.NamedOperation.{NamedOperation as OpCall}
use Rattle.key_host.specs.declared.operation.StreamOutcome.{StreamOutcome}
use Rattle.key_host.specs.Operations.{OpName, op_name}
use Rattle.key_slots.specs.Wires.{WireKeys}
use Rattle.ide_port.specs.{Found, PortEnd, UnitsGrow}
use Rattle.join_arrivals.specs.Events.{operation_event}
use Rattle.join_arrivals.proofs.Told.{pair_told, pair_unless, pool_same, walk_told, walk_unless}

-- ---- the machine's step

-- a refresh is of a link's stream alone
abbrev pub WorksOn : Operation → ℕ → Type 0
WorksOn operation line = operation ≡ op.Refresh → is_link_line line ≡ true

step_is : (plan : Plan) (b : BesidePorts) (st : LinkState) (operation : Operation) (line id : ℕ) (loss : Option Loss)
    (q : StreamStage) → WorksOn operation line → find_op plan st line id ≡ Some q
    → step_of plan b st (operation_event operation line id loss)
    ≡ stepped_operation plan st operation line id q (verdict_due plan st operation q line id loss)
unfolding step_of
step_is plan b st op.Establish line id loss q works is = ap
    (λ (o : Option StreamStage). machine.establish_found plan st line id loss o) is
step_is plan b st op.Refresh line id loss q works is =
    ap (λ (t : Bool). if t then machine.refresh_found plan st line id loss (find_op plan st line id)
    else (v.Nothing, st)) (works refl)
    ∙ ap (λ (o : Option StreamStage). machine.refresh_found plan st line id loss o) is
step_is plan b st op.Stop line id loss q works is = ap
    (λ (o : Option StreamStage). machine.stop_found plan st line id loss o) is

pub step_none : (plan : Plan) (b : BesidePorts) (st : LinkState) (operation : Operation) (line id : ℕ)
    (loss : Option Loss)
    → find_op plan st line id ≡ None → step_of plan b st (operation_event operation line id loss) ≡ (v.Nothing, st)
unfolding step_of
step_none plan b st operation line id loss is = grind (arith, is)

-- a refresh of another line's stream is none
pub step_not : (plan : Plan) (b : BesidePorts) (st : LinkState) (line id : ℕ) (loss : Option Loss)
    → is_link_line line ≡ false → step_of plan b st (operation_event op.Refresh line id loss) ≡ (v.Nothing, st)
unfolding step_of
step_not plan b st line id loss none =
    ap (λ (t : Bool). if t then machine.refresh_found plan st line id loss (find_op plan st line id)
    else (v.Nothing, st)) none

-- ---- an operation on a stream

-- a stream of this name at a place
abbrev at_place : ℕ → ℕ → ℕ → StreamStage → WireKeys → Named
at_place line id place q keys = record { place = place; stream = record { line = line; id = id; op = q; keys = keys } }

named_as : (m : ManagerView) (line id : ℕ) (n : Named) → named_stream m line id ≡ Some n → named_stream m line id
    ≡ Some (at_place line id n.place n.stream.op n.stream.keys)
named_as m line id n is =
    let s : IsNamed m line id n = named_stands m line id n is in
    let same : n ≡ at_place line id n.place n.stream.op n.stream.keys =
    (λ i. record n { stream = record n.stream { line = s.line_is i; id = s.id_is i } }) in
    is ∙ ap (λ (y : Named). Some y) same

-- an unfinished operation of such a line is at one of its exchanges
is_pair_asked : (plan : Plan) (q : StreamStage) (keys : WireKeys) → PairKeysKeptIn plan q keys
    → IsAsked false (asked_of_unfinished q)
is_pair_asked plan q keys kept = grind arith

pub some_named : (o : Option Named) → IsSome o → (n : Named) × (o ≡ Some n)
some_named None is = absurd cc
some_named (Some n) is = (n, refl)

-- the state of the machine of ports after a step, with its verdict, is that of these ends
pub record StepsTo (plan : Plan) (ends : EndsView) (k : KeeperView) (packets : List LinkPacket) (verdict : Verdict)
    (step : Stepped) : Type 0 where
  pub verdict_is : verdict ≡ step.0
  pub state_is : state_of plan ends k packets ≡ step.1
  pub links : AreLinks plan ends k

module _ (plan : Plan) (ends : EndsView) (k : KeeperView) (packets : List LinkPacket) where
  abbrev st : LinkState
  st = state_of plan ends k packets

  -- what an operation on a stream gives at the two ends of its line
  record Gives (operation : Operation) (line id : ℕ) (n : Named) (loss : Option Loss) (near far near' far' : PortEnd)
      (k' : KeeperView) (result : StreamOutcome) : Type 0 where
    named_is : IsNamed k.manager line id n
    here : find_op plan st line id ≡ Some n.stream.op
    f : Found
    g : Found
    x : StreamState
    y : StreamState
    s : StreamView
    both : BothHave ends line id near far f g x y near' far'
    streams : k'.manager.streams ≡ slice_set k.manager.streams n.place s
    verdict_is : verdict_of operation line id loss result
        ≡ Some (verdict_due plan st operation n.stream.op line id loss)
    done : IsDone plan st line id n.stream.op f g (work_of operation n.stream.op k.pool.draws)
        (reach_of operation (verdict_due plan st operation n.stream.op line id loss)) x y s.op k'.pool.draws
    pool : k'.pool ≡ pool_by (work_of operation n.stream.op k.pool.draws)
        (reach_of operation (verdict_due plan st operation n.stream.op line id loss)) k.pool
    line_is : s.line ≡ n.stream.line
    id_is : s.id ≡ n.stream.id
    kept : StreamKept plan s

  steps_by : (b : BesidePorts) (operation : Operation) (line id : ℕ) (n : Named) (loss : Option Loss)
      (near far near' far' : PortEnd) (v' : EndsView) (k' : KeeperView) (result : StreamOutcome) (verdict : Verdict)
      → AreLinks plan ends k → WorksOn operation line → Gives operation line id n loss near far near' far' k' result
      → rows_of v' ≡ rows_of (with_both ends line near' far') → AreLinks plan v' k
      → verdict_of operation line id loss result ≡ Some verdict
      → StepsTo plan v' k' packets verdict (step_of plan b st (operation_event operation line id loss))
  steps_by b operation line id n loss near far near' far' v' k' result verdict links works gives rows after says =
      let q : StreamStage = n.stream.op in
      let w : Work = work_of operation q k.pool.draws in
      let due : Verdict = verdict_due plan st operation q line id loss in
      let r : Option Reach = reach_of operation due in
      subst (λ (z : Stepped). StepsTo plan v' k' packets verdict z)
      (sym (step_is plan b st operation line id loss q works gives.here))
      (record {
        verdict_is = same_Some verdict due (sym says ∙ gives.verdict_is);
        state_is = state_by plan ends v' k k' packets line id links near far near' far' gives.f gives.g gives.x gives.y
            gives.both rows n gives.s gives.named_is gives.streams w r gives.here gives.done;
        links = keeper_kept plan v' k after k'
            (ap (λ (vs : List StreamView). map name_of vs) gives.streams
            ∙ names_set k.manager.streams n.place n.stream gives.s gives.named_is.read
            (λ i. (gives.line_is i, gives.id_is i)))
            (subst (λ (vs : List StreamView). (i : ℕ) (z : StreamView) → slice_get vs i ≡ Some z → StreamKept plan z)
            (sym gives.streams)
            (each_set (λ i z. StreamKept plan z) k.manager.streams n.place gives.s gives.kept after.kept))
            (ap (λ (p : Pool). p.keys) gives.pool ∙ pool_keys w r k.pool);
      })

  -- ---- on a line with a host's port at its near end

  module _ (h : History) (k' : KeeperView) (call : OpCall) (operation : Operation) (line id : ℕ) (loss : Option Loss)
      (result : StreamOutcome) (n0 : Named) (links : AreLinks plan ends k) (stands : PortsStandFor plan st h)
      (named_is : named_stream k.manager line id ≡ Some n0)
      (name : op_name call ≡ record { operation = operation; line = line; stream = id }) where
    abbrev q : StreamStage
    q = n0.stream.op

    abbrev keys : WireKeys
    keys = n0.stream.keys

    abbrev n : Named
    n = at_place line id n0.place q keys

    abbrev w : Work
    w = work_of operation q k.pool.draws

    abbrev due : Verdict
    due = verdict_due plan st operation q line id loss

    is_named : named_stream k.manager line id ≡ Some n
    is_named = named_as k.manager line id n0 named_is

    placed : IsNamed k.manager line id n
    placed = named_stands k.manager line id n is_named

    here : find_op plan st line id ≡ Some q
    here = op_is plan ends k packets line id links ∙ ap (λ (o : Option Named). op_named o) is_named

    known : is_some (stream_plan plan line id) ≡ true
    known = planned plan h line id q (sym (stands.ops_is line id) ∙ here)

    pool_is : k.pool ≡ record { keys = plan.pool; draws = st.draws }
    pool_is = (λ i. record k.pool { keys = links.keys i })

    by_name : (P : OpName → Type 0) → P (op_name call) → P (record { operation = operation; line = line; stream = id })
    by_name P x = subst P name x

    to_name : (P : OpName → Type 0) → P (record { operation = operation; line = line; stream = id }) → P (op_name call)
    to_name P x = subst P (sym name) x

    -- with what it leaves of the ends
    record GivesEnds (l l' : LinkEnds) : Type 0 where
      gives : Gives operation line id n loss l.host l.device.port l'.host l'.device.port k' result
      keeps : KeepsEnds l l'

    gives_hosted : OperationsJoin → (l l' : LinkEnds) → port_on ends (port_at Host line) ≡ Some l.host
        → port_on ends (port_at Device line) ≡ Some l.device.port → IsLink plan line l → is_hosted line ≡ true
        → Operates k l call loss result k' l' → GivesEnds l l'
    gives_hosted joins l l' near_there far_there is hosted operates =
        let hf = port_found plan ends k packets h (port_at Host line) id l.host links stands known near_there in
        let df = port_found plan ends k packets h (port_at Device line) id l.device.port links stands known far_there in
        let host : Found = hf.0 in
        let device : Found = df.0 in
        let e : StreamEnds = ends_found n host device in
        let on : IsAtBothEnds k.manager l n.place id host device = record {
          within = slice_get_within k.manager.streams n.place n.stream placed.read;
          host_side = ap (λ (p : PortName). p.side) is.host.name;
          device_side = ap (λ (p : PortName). p.side) is.device.name;
          host_found = hf.1;
          device_found = df.1;
        } in
        let kept : KeysKept plan n.stream = subst (λ (b : Bool). KeptBy b plan n.stream) hosted
        (links.kept n.place n.stream placed.read) in
        let o : IsOperated k l call loss n host device result k' l' =
        operates n host device (to_name (λ a. named_stream k.manager a.line a.stream ≡ Some n) is_named) hosted
        (to_name (λ a. IsAtBothEnds k.manager l n.place a.stream host device) on) (is_asked plan q keys kept) in
        let walk : WalkedEnds = event_walk operation (host_of host.state) k.pool loss l.device.requester e in
        let walked : IsWalked k.manager l n.place id walk result k'.manager l' =
        by_name (λ a. IsWalked k.manager l n.place a.stream
        (event_walk a.operation (host_of host.state) k.pool loss l.device.requester e) result k'.manager l') o.walked in
        let begun : k'.pool ≡ pool_begun operation (host_of host.state) k.pool n =
        by_name (λ a. k'.pool ≡ pool_begun a.operation (host_of host.state) k.pool n) o.pool in
        let j : IsJoined plan st operation loss k.pool e walk =
        joins plan st h operation loss l.device.requester k.pool e links.fits stands is.requester hosted hf.2 df.2 here
        pool_is kept in
        let rest : WalkedEnds = walk_on 13 loss l.device.requester (begun_ends w k.pool e) in
        let same : k'.pool ≡ pool_by w (reach_of operation due) k.pool =
        begun ∙ pool_same operation line id q (host_of host.state) k.pool loss rest.outcome due w
        (refusal_of operation q (host_of host.state) k.pool) refl
        (walk_told operation line id loss 13 l.device.requester (begun_ends w k.pool e))
        (ap (λ (t : StreamOutcome). verdict_of operation line id loss t)
        (sym (walk_unless (refusal_of operation q (host_of host.state) k.pool) e rest)) ∙ j.verdict_is) in
        record {
          gives = record {
            named_is = placed;
            here = here;
            f = host;
            g = device;
            x = walk.ends.host;
            y = walk.ends.device;
            s = walk.ends.keeper;
            both = record {
              near_there = near_there;
              far_there = far_there;
              near_found = hf.1;
              far_found = df.1;
              near_has = walked.stands.host;
              far_has = walked.stands.device;
            };
            streams = walked.stands.streams;
            verdict_is = ap (λ (t : StreamOutcome). verdict_of operation line id loss t) walked.outcome ∙ j.verdict_is;
            done = record {
              near_is = j.host_is;
              far_is = j.device_is;
              op_is = j.op_is;
              draws_is = ap (λ (p : Pool). p.draws) same ∙ j.draws_is;
            };
            pool = same;
            line_is = j.line_is;
            id_is = j.id_is;
            kept = subst (λ (b : Bool). KeptBy b plan walk.ends.keeper)
                (sym (ap (λ (m : ℕ). is_hosted m) j.line_is ∙ hosted)) j.keys_are;
          };
          keeps = record {
            host = port_operated l.host l'.host id walk.ends.host walked.stands.host;
            device = port_operated l.device.port l'.device.port id walk.ends.device walked.stands.device;
            requester = walked.stands.requester;
          };
        }

    -- ---- on one that is keyed by messages at both ends

    record GivesPair (l l' : PairEnds) : Type 0 where
      gives : Gives operation line id n loss l.near.port l.far.port l'.near.port l'.far.port k' result
      keeps : KeepsPair l l'

    gives_paired : PairOperationsJoin → (l l' : PairEnds) → port_on ends (port_at Host line) ≡ Some l.near.port
        → port_on ends (port_at Device line) ≡ Some l.far.port → IsPair plan line l → is_hosted line ≡ false
        → operation ≢ op.Refresh → PairOperates k l call loss result k' l' → GivesPair l l'
    gives_paired joins l l' near_there far_there is paired none operates =
        let hf = port_found plan ends k packets h (port_at Host line) id l.near.port links stands known near_there in
        let df = port_found plan ends k packets h (port_at Device line) id l.far.port links stands known far_there in
        let near : Found = hf.0 in
        let far : Found = df.0 in
        let e : PairStreams = pair_found n near far in
        let on : IsAtBoth k.manager l n.place id near far = record {
          within = slice_get_within k.manager.streams n.place n.stream placed.read;
          near_side = is.near_side;
          far_side = is.far_side;
          near_named = ap (λ (p : PortName). p.side) is.near.name;
          far_named = ap (λ (p : PortName). p.side) is.far.name;
          near_found = hf.1;
          far_found = df.1;
        } in
        let kept : PairKeysKeptIn plan q keys = subst (λ (b : Bool). KeptBy b plan n.stream) paired
        (links.kept n.place n.stream placed.read) in
        let o : IsPairOperated k l call loss n near far result k' l' =
        operates n near far (to_name (λ a. named_stream k.manager a.line a.stream ≡ Some n) is_named) paired
        (to_name (λ a. IsAtBoth k.manager l n.place a.stream near far) on) (is_pair_asked plan q keys kept) in
        let walk : PairWalked = pair_event operation (host_of near.state) k.pool loss 0 e in
        let walked : IsPairWalked k.manager l n.place id walk result k'.manager l' =
        by_name (λ a. IsPairWalked k.manager l n.place a.stream
        (pair_event a.operation (host_of near.state) k.pool loss 0 e) result k'.manager l') o.walked in
        let begun : k'.pool ≡ pool_begun operation (host_of near.state) k.pool n =
        by_name (λ a. k'.pool ≡ pool_begun a.operation (host_of near.state) k.pool n) o.pool in
        let j : IsPairJoined plan st operation loss k.pool e walk =
        joins plan st h operation loss 0 (host_of near.state) k.pool e none links.fits stands (omega arith) paired hf.2
        df.2 here pool_is kept in
        let rest : PairWalked = pair_walk 24 loss 0 (begun_pair w k.pool e) in
        let same : k'.pool ≡ pool_by w (reach_of operation due) k.pool =
        begun ∙ pool_same operation line id q (host_of near.state) k.pool loss rest.outcome due w
        (refusal_of operation q (host_of near.state) k.pool) refl
        (pair_told operation line id loss 24 0 (begun_pair w k.pool e))
        (ap (λ (t : StreamOutcome). verdict_of operation line id loss t)
        (sym (pair_unless (refusal_of operation q (host_of near.state) k.pool) e rest)) ∙ j.verdict_is) in
        record {
          gives = record {
            named_is = placed;
            here = here;
            f = near;
            g = far;
            x = walk.ends.near;
            y = walk.ends.far;
            s = walk.ends.keeper;
            both = record {
              near_there = near_there;
              far_there = far_there;
              near_found = hf.1;
              far_found = df.1;
              near_has = walked.stands.near;
              far_has = walked.stands.far;
            };
            streams = walked.stands.streams;
            verdict_is = ap (λ (t : StreamOutcome). verdict_of operation line id loss t) walked.outcome ∙ j.verdict_is;
            done = record {
              near_is = j.near_is;
              far_is = j.far_is;
              op_is = j.op_is;
              draws_is = ap (λ (p : Pool). p.draws) same ∙ j.draws_is;
            };
            pool = same;
            line_is = j.line_is;
            id_is = j.id_is;
            kept = subst (λ (b : Bool). KeptBy b plan walk.ends.keeper)
                (sym (ap (λ (m : ℕ). is_hosted m) j.line_is ∙ paired)) j.keys_are;
          };
          keeps = record {
            near_side = walked.stands.near_stays;
            far_side = walked.stands.far_stays;
            near = port_operated l.near.port l'.near.port id walk.ends.near walked.stands.near;
            far = port_operated l.far.port l'.far.port id walk.ends.far walked.stands.far;
          };
        }

    -- ---- on any line

    -- it has a verdict, and with that the state is the machine's
    pub record Operated (ends' : EndsView) : Type 0 where
      pub verdict_is : verdict_of operation line id loss result ≡ Some due
      pub steps : (b : BesidePorts) (verdict : Verdict) → verdict_of operation line id loss result ≡ Some verdict
          → StepsTo plan ends' k' packets verdict (step_of plan b st (operation_event operation line id loss))

-- ---- where the ends of a line are kept

data PlaceIs (line : ℕ) : Type 0 where
  AtLink : line_place line ≡ Link line → is_hosted line ≡ true → PlaceIs line
  AtNear : (i : ℕ) → line ≡ 8 + i → line_place line ≡ Near i → is_hosted line ≡ true → PlaceIs line
  AtPair : (i : ℕ) → line ≡ 16 + i → line_place line ≡ Pair i → is_hosted line ≡ false → is_link_line line ≡ false
      → PlaceIs line

place_is : (line : ℕ) → PlaceIs line
place_is line = by (nat_lt line 8) (nat_lt line 16) refl refl
  where
    by : (a b : Bool) → nat_lt line 8 ≡ a → nat_lt line 16 ≡ b → PlaceIs line
    by true b a_is b_is = AtLink (rw a_is refl) (grind (arith, nat_tests, a_is))
    by false true a_is b_is = AtNear (line - 8) (grind (arith, nat_tests, a_is)) (rw (a_is, b_is) refl) b_is
    by false false a_is b_is = AtPair (line - 16) (grind (arith, nat_tests, b_is)) (rw (a_is, b_is) refl) b_is a_is

-- an item that is there
mapped_from : {A : Type 0} (g : A → PortEnd) (o : Option A) → IsSome (option_map g o) → (x : A) × (o ≡ Some x)
mapped_from g None is = absurd cc
mapped_from g (Some x) is = (x, refl)

-- ---- how many units there were

module _ (ends : EndsView) (i : ℕ) where
  link_units : (l l' : LinkEnds) (s : Side) → UnitsGrow 0 l.host l'.host → UnitsGrow 0 l.device.port l'.device.port
      → UnitsGrow 0 (port_in s l) (port_in s l')
  link_units l l' Host host device = host
  link_units l l' Device host device = device

  pair_units : (l l' : PairEnds) (s : Side) → UnitsGrow 0 l.near.port l'.near.port
      → UnitsGrow 0 l.far.port l'.far.port → UnitsGrow 0 (pair_port s l) (pair_port s l')
  pair_units l l' Host near far = near
  pair_units l l' Device near far = far

  grows_link : (l l' : LinkEnds) → slice_get ends.links i ≡ Some l → UnitsGrow 0 l.host l'.host
      → UnitsGrow 0 l.device.port l'.device.port → Grows 0 ends (record ends { links = slice_set ends.links i l' })
  grows_link l l' is host device =
      subst (λ (ls : List LinkEnds). Grows 0 ends (record ends { links = ls }))
      (changed_is ends.links i (λ (z : LinkEnds). l') l is)
      (links_grow 0 ends i (λ (z : LinkEnds). l')
      (λ s z at. subst (λ (y : LinkEnds). UnitsGrow 0 (port_in s y) (port_in s l'))
      (same_Some l z (sym is ∙ at)) (link_units l l' s host device)))

  grows_near : (l l' : LinkEnds) → slice_get ends.near i ≡ Some l → UnitsGrow 0 l.host l'.host
      → UnitsGrow 0 l.device.port l'.device.port → Grows 0 ends (record ends { near = slice_set ends.near i l' })
  grows_near l l' is host device =
      subst (λ (ls : List LinkEnds). Grows 0 ends (record ends { near = ls }))
      (changed_is ends.near i (λ (z : LinkEnds). l') l is)
      (near_grow 0 ends i (λ (z : LinkEnds). l')
      (λ s z at. subst (λ (y : LinkEnds). UnitsGrow 0 (port_in s y) (port_in s l'))
      (same_Some l z (sym is ∙ at)) (link_units l l' s host device)))

  grows_pair : (l l' : PairEnds) → slice_get ends.pairs i ≡ Some l → UnitsGrow 0 l.near.port l'.near.port
      → UnitsGrow 0 l.far.port l'.far.port → Grows 0 ends (record ends { pairs = slice_set ends.pairs i l' })
  grows_pair l l' is near far =
      subst (λ (ls : List PairEnds). Grows 0 ends (record ends { pairs = ls }))
      (changed_is ends.pairs i (λ (z : PairEnds). l') l is)
      (pairs_grow 0 ends i (λ (z : PairEnds). l')
      (λ s z at. subst (λ (y : PairEnds). UnitsGrow 0 (pair_port s y) (pair_port s l'))
      (same_Some l z (sym is ∙ at)) (pair_units l l' s near far)))

-- an operation finishes and accepts no unit
pub operates_grow : (ends ends' : EndsView) (line : ℕ) (k k' : KeeperView) (call : OpCall) (loss : Option Loss)
    (result : StreamOutcome) → IsSome (port_on ends (port_at Host line))
    → OperatesAt ends line k call loss result ends' k' → Grows 0 ends ends'
operates_grow ends ends' line k k' call loss result some operates = by (line_place line) some operates
  where
    by : (place : LinePlace) → IsSome (port_at_place ends Host place)
        → OperatesByPlace ends place k call loss result ends' k' → Grows 0 ends ends'
    by (Link i) some operates =
        let f = mapped_from (λ (l : LinkEnds). port_in Host l) (slice_get ends.links i) some in
        let x = operates f.0 f.1 in
        subst (λ (v : EndsView). Grows 0 ends v) (sym x.new_is)
        (grows_link ends i f.0 x.ends f.1 x.units.host x.units.device)
    by (Near i) some operates =
        let f = mapped_from (λ (l : LinkEnds). port_in Host l) (slice_get ends.near i) some in
        let x = operates f.0 f.1 in
        subst (λ (v : EndsView). Grows 0 ends v) (sym x.new_is)
        (grows_near ends i f.0 x.ends f.1 x.units.host x.units.device)
    by (Pair i) some operates =
        let f = mapped_from (λ (l : PairEnds). pair_port Host l) (slice_get ends.pairs i) some in
        let x = operates f.0 f.1 in
        let v1 : EndsView = record ends { pairs = slice_set ends.pairs i x.ends } in
        subst (λ (v : EndsView). Grows 0 ends v) (sym x.new_is)
        (grows_then 0 0 ends v1 (settled_place (Pair i) v1) (grows_pair ends i f.0 x.ends f.1 x.units.near x.units.far)
        (place_grows i v1))

-- ---- an operation on a stream of any line

module _ (plan : Plan) (ends : EndsView) (k : KeeperView) (packets : List LinkPacket) (h : History) (k' : KeeperView)
    (call : OpCall) (operation : Operation) (line id : ℕ) (loss : Option Loss) (result : StreamOutcome) (n0 : Named)
    (links : AreLinks plan ends k) (stands : PortsStandFor plan (state_of plan ends k packets) h)
    (named_is : named_stream k.manager line id ≡ Some n0)
    (name : op_name call ≡ record { operation = operation; line = line; stream = id })
    (works : WorksOn operation line) (ends' : EndsView) where
  abbrev Comes : EndsView → Type 0
  Comes v = Operated plan ends k packets h k' call operation line id loss result n0 links stands named_is name v

  abbrev this : Named
  this = at_place line id n0.place n0.stream.op n0.stream.keys

  on_link : OperationsJoin → line_place line ≡ Link line → is_hosted line ≡ true
      → IsSome (port_at_place ends Host (Link line)) → OperatesByPlace ends (Link line) k call loss result ends' k'
      → Comes ends'
  on_link joins place hosted some operates =
      let at = mapped_from (λ (l : LinkEnds). port_in Host l) (slice_get ends.links line) some in
      let l : LinkEnds = at.0 in
      let x = operates l at.1 in
      let l' : LinkEnds = x.ends in
      let v1 : EndsView = record ends { links = slice_set ends.links line l' } in
      let near_there = ap (λ (p : LinePlace). port_at_place ends Host p) place
      ∙ ap (λ (o : Option LinkEnds). option_map (λ (z : LinkEnds). port_in Host z) o) at.1 in
      let far_there = ap (λ (p : LinePlace). port_at_place ends Device p) place
      ∙ ap (λ (o : Option LinkEnds). option_map (λ (z : LinkEnds). port_in Device z) o) at.1 in
      let g = gives_hosted plan ends k packets h k' call operation line id loss result n0 links stands named_is name
      joins
      l l' near_there far_there (links.each_link line l at.1) hosted x.operates in
      let rows = rows_link ends line l l' at.1
      ∙ sym (ap (λ (p : LinePlace). rows_of (both_at ends p l'.host l'.device.port)) place) in
      let after : AreLinks plan v1 k = subst (λ (ls : List LinkEnds). AreLinks plan (record ends { links = ls }) k)
      (changed_is ends.links line (λ (z : LinkEnds). l') l at.1)
      (links_kept plan ends k links line (λ (z : LinkEnds). l')
      (λ z there. subst (λ (y : LinkEnds). KeepsEnds y l') (same_Some l z (sym at.1 ∙ there)) g.keeps)) in
      subst (λ (v : EndsView). Comes v) (sym x.new_is) (record {
        verdict_is = g.gives.verdict_is;
        steps = λ b verdict says. steps_by plan ends k packets b operation line id this loss l.host l.device.port
            l'.host
            l'.device.port v1 k' result verdict links works g.gives rows after says;
      })

  on_near : OperationsJoin → (i : ℕ) → line ≡ 8 + i → line_place line ≡ Near i → is_hosted line ≡ true
      → IsSome (port_at_place ends Host (Near i)) → OperatesByPlace ends (Near i) k call loss result ends' k'
      → Comes ends'
  on_near joins i line_is place hosted some operates =
      let at = mapped_from (λ (l : LinkEnds). port_in Host l) (slice_get ends.near i) some in
      let l : LinkEnds = at.0 in
      let x = operates l at.1 in
      let l' : LinkEnds = x.ends in
      let v1 : EndsView = record ends { near = slice_set ends.near i l' } in
      let near_there = ap (λ (p : LinePlace). port_at_place ends Host p) place
      ∙ ap (λ (o : Option LinkEnds). option_map (λ (z : LinkEnds). port_in Host z) o) at.1 in
      let far_there = ap (λ (p : LinePlace). port_at_place ends Device p) place
      ∙ ap (λ (o : Option LinkEnds). option_map (λ (z : LinkEnds). port_in Device z) o) at.1 in
      let g = gives_hosted plan ends k packets h k' call operation line id loss result n0 links stands named_is name
      joins
      l l' near_there far_there (subst (λ (m : ℕ). IsLink plan m l) (sym line_is) (links.each_near i l at.1)) hosted
      x.operates in
      let rows = rows_near ends i l l' at.1
      ∙ sym (ap (λ (p : LinePlace). rows_of (both_at ends p l'.host l'.device.port)) place) in
      let after : AreLinks plan v1 k = subst (λ (ls : List LinkEnds). AreLinks plan (record ends { near = ls }) k)
      (changed_is ends.near i (λ (z : LinkEnds). l') l at.1)
      (near_kept plan ends k links i (λ (z : LinkEnds). l')
      (λ z there. subst (λ (y : LinkEnds). KeepsEnds y l') (same_Some l z (sym at.1 ∙ there)) g.keeps)) in
      subst (λ (v : EndsView). Comes v) (sym x.new_is) (record {
        verdict_is = g.gives.verdict_is;
        steps = λ b verdict says. steps_by plan ends k packets b operation line id this loss l.host l.device.port
            l'.host
            l'.device.port v1 k' result verdict links works g.gives rows after says;
      })

  on_pair : PairOperationsJoin → (i : ℕ) → line ≡ 16 + i → line_place line ≡ Pair i → is_hosted line ≡ false
      → is_link_line line ≡ false → IsSome (port_at_place ends Host (Pair i))
      → OperatesByPlace ends (Pair i) k call loss result ends' k' → Comes ends'
  on_pair joins i line_is place paired late some operates =
      let at = mapped_from (λ (l : PairEnds). pair_port Host l) (slice_get ends.pairs i) some in
      let l : PairEnds = at.0 in
      let x = operates l at.1 in
      let l' : PairEnds = x.ends in
      let v1 : EndsView = record ends { pairs = slice_set ends.pairs i l' } in
      let v2 : EndsView = settled_place (Pair i) v1 in
      let near_there = ap (λ (p : LinePlace). port_at_place ends Host p) place
      ∙ ap (λ (o : Option PairEnds). option_map (λ (z : PairEnds). pair_port Host z) o) at.1 in
      let far_there = ap (λ (p : LinePlace). port_at_place ends Device p) place
      ∙ ap (λ (o : Option PairEnds). option_map (λ (z : PairEnds). pair_port Device z) o) at.1 in
      let g = gives_paired plan ends k packets h k' call operation line id loss result n0 links stands named_is name
      joins
      l l' near_there far_there (subst (λ (m : ℕ). IsPair plan m l) (sym line_is) (links.each_pair i l at.1)) paired
      (λ same. no_refresh (works same) late) x.operates in
      let rows = place_rows i v1 ∙ (rows_pair ends i l l' at.1
      ∙ sym (ap (λ (p : LinePlace). rows_of (both_at ends p l'.near.port l'.far.port)) place)) in
      let after : AreLinks plan v1 k = subst (λ (ls : List PairEnds). AreLinks plan (record ends { pairs = ls }) k)
      (changed_is ends.pairs i (λ (z : PairEnds). l') l at.1)
      (pairs_kept plan ends k links i (λ (z : PairEnds). l')
      (λ z there. subst (λ (y : PairEnds). KeepsPair y l') (same_Some l z (sym at.1 ∙ there)) g.keeps)) in
      subst (λ (v : EndsView). Comes v) (sym x.new_is) (record {
        verdict_is = g.gives.verdict_is;
        steps = λ b verdict says. steps_by plan ends k packets b operation line id this loss l.near.port l.far.port
            l'.near.port l'.far.port v2 k' result verdict links works g.gives rows (place_kept plan i v1 k after) says;
      })
    where
      no_refresh : is_link_line line ≡ true → is_link_line line ≡ false → ⊥
      no_refresh low late = let no : true ≡ false = sym low ∙ late in absurd cc

  pub operated : OperationsJoin → PairOperationsJoin → IsSome (port_on ends (port_at Host line))
      → OperatesAt ends line k call loss result ends' k' → Comes ends'
  operated joins pairs some operates = by (place_is line)
    where
      moved : (place : LinePlace) → line_place line ≡ place
          → IsSome (port_at_place ends Host place) × OperatesByPlace ends place k call loss result ends' k'
      moved place is = (
        subst (λ (p : LinePlace). IsSome (port_at_place ends Host p)) is some,
        subst (λ (p : LinePlace). OperatesByPlace ends p k call loss result ends' k') is operates,
      )

      by : PlaceIs line → Comes ends'
      by (AtLink place hosted) = let m = moved (Link line) place in on_link joins place hosted m.0 m.1
      by (AtNear i line_is place hosted) = let m = moved (Near i) place in on_near joins i line_is place hosted m.0 m.1
      by (AtPair i line_is place paired late) =
          let m = moved (Pair i) place in on_pair pairs i line_is place paired late m.0 m.1
