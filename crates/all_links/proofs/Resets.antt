-- The states of streams that are read, and resets, as the machine has them.
use Rattle.all_links.proofs.Terms.{◌≡◌, ℕ, ◌+◌, Bool, true, List, length, refl, ap, sym, ◌∙◌, subst, arith, Option}
use Rattle.all_links.proofs.Terms.{Some, None, is_some, nat_lt, if◌then◌else◌, StreamStage, History, Host, Device}
use Rattle.all_links.proofs.Terms.{StreamStatus, Plan, Reset, Status, Stepped, machine_status, status_found, step_of}
use Rattle.all_links.proofs.Terms.{reset_state, PortsStandFor, named_stream, EndsView, port_on, Links, stream_named}
use Rattle.all_links.proofs.Terms.{KeeperView, ResetsAt, statuses_of, both_of, IsBounded, AreLinks, links_state}
use Rattle.all_links.proofs.Terms.{EndsIfAnswered, BesidePorts, beside_in, option_and_then, PortEnd, PortName, LinkEnds}
use Rattle.all_links.proofs.Terms.{none-some, option_map, port_in, slice_get}
use Rattle.event_verdicts.specs.declared.verdict.Verdict.TheVariants as v
use Rattle.ide_types.specs.Ports.{host_port, device_port}
use Rattle.ide_port.specs.{port_stream_status}
use Rattle.line_arrivals.specs.{HostKeeper, reset_all, port_at_place, pair_port, line_place, LinePlace, Link, Near}
use Rattle.line_arrivals.specs.{Pair, PairEnds, state_of}
use Rattle.line_arrivals.proofs.{bounded_then, reset_grows, links_reset, state_reset, keeper_reset, IsName, at_side}
use Rattle.line_arrivals.proofs.{op_is, planned, some_op, unnamed}

some_end : (o : Option PortEnd) → is_some o ≡ true → (e : PortEnd) × (o ≡ Some e)
some_end (Some e) is = (e, refl)
some_end None is = absurd cc

-- a line that has a near end has a far one
far_there : (v : EndsView) (line : ℕ) (e : PortEnd) → port_on v (host_port line) ≡ Some e
    → (far : PortEnd) × (port_on v (device_port line) ≡ Some far)
far_there v line e is = by (line_place line) is
  where
    link : (o : Option LinkEnds) → option_map (λ (l : LinkEnds). port_in Host l) o ≡ Some e
        → (far : PortEnd) × (option_map (λ (l : LinkEnds). port_in Device l) o ≡ Some far)
    link None none = absurd (none-some e none)
    link (Some l) there = (l.device.port, refl)

    pair : (o : Option PairEnds) → option_map (λ (l : PairEnds). pair_port Host l) o ≡ Some e
        → (far : PortEnd) × (option_map (λ (l : PairEnds). pair_port Device l) o ≡ Some far)
    pair None none = absurd (none-some e none)
    pair (Some l) there = (l.far.port, refl)

    by : (place : LinePlace) → port_at_place v Host place ≡ Some e
        → (far : PortEnd) × (port_at_place v Device place ≡ Some far)
    by (Link i) there = link (slice_get v.links i) there
    by (Near i) there = link (slice_get v.near i) there
    by (Pair i) there = pair (slice_get v.pairs i) there

-- the states that were read, under the numbers that a name gives
pub status_read : (old : Links) (plan : Plan) (h : History) (line stream a b : ℕ)
    (read : Option (StreamStatus × StreamStatus)) → AreLinks plan old.ends old.keeper.keys
    → PortsStandFor plan (links_state plan old) h → IsName old.keeper.keys.manager old.ends line stream a b → read
    ≡ statuses_of old.ends a b → read ≡ Some (
      machine_status plan (links_state plan old) Host line stream,
      machine_status plan (links_state plan old) Device
          line stream,
    )
status_read old plan h line stream a b read links stands n reads =
    let q = some_op (named_stream old.keeper.keys.manager line stream) n.there in
    let known = planned plan h line stream q.0
    (sym (stands.ops_is line stream) ∙ op_is plan old.ends old.keeper.keys old.packets.packets line stream links ∙
    q.1) in
    let near = some_end (port_on old.ends (host_port line)) n.end_there in
    let far = far_there old.ends line near.0 near.1 in
    reads ∙ (λ i. statuses_of old.ends (n.line_is i) (n.stream_is i))
    ∙ (λ i. both_of (option_and_then (λ (e : PortEnd). port_stream_status e stream) (near.1 i))
    (option_and_then (λ (e : PortEnd). port_stream_status e stream) (far.1 i)))
    ∙ (λ i. both_of
    (at_side plan old.ends old.keeper.keys old.packets.packets h line stream Host near.0 links stands known near.1 i)
    (at_side plan old.ends old.keeper.keys old.packets.packets h line stream Device far.0 links stands known far.1 i))

pub status_nowhere : (b : BesidePorts) (old : Links) (plan : Plan) (line stream : ℕ)
    → AreLinks plan old.ends old.keeper.keys → None ≡ stream_named old.keeper.keys.manager old.ends line stream
    → step_of plan b (links_state plan old) (Status line stream) ≡ (v.Nothing, links_state plan old)
unfolding step_of
status_nowhere b old plan line stream links is = ap
    (λ (o : Option StreamStage). status_found plan (links_state plan old) line stream o)
    (unnamed plan old.ends old.keeper.keys old.packets.packets line stream links is)

pub status_here : (b : BesidePorts) (old : Links) (plan : Plan) (line stream : ℕ)
    → AreLinks plan old.ends old.keeper.keys → is_some (named_stream old.keeper.keys.manager line stream) ≡ true
    → step_of plan b (links_state plan old) (Status line stream)
    ≡ (
      v.Status line stream (machine_status plan (links_state plan old) Host line stream)
          (machine_status plan (links_state plan old) Device line stream),
      links_state plan old,
    )
unfolding step_of
status_here b old plan line stream links there_is =
    let q = some_op (named_stream old.keeper.keys.manager line stream) there_is in
    ap (λ (o : Option StreamStage). status_found plan (links_state plan old) line stream o)
    (op_is plan old.ends old.keeper.keys old.packets.packets line stream links ∙ q.1)

-- ---- resets

pub reset_step : (b : BesidePorts) (old : Links) (plan : Plan) (link : ℕ) (es : List PortName) (here : Bool)
    → AreLinks plan old.ends old.keeper.keys → here ≡ nat_lt link (length old.ends.links)
    → step_of plan b (links_state plan old) (Reset link es)
    ≡ (if here then (v.Reset link, reset_state plan (links_state plan old) es) else (v.Nothing, links_state plan old))
unfolding step_of
reset_step b old plan link es here links is =
    ap (λ (t : Bool). if t then (v.Reset link, reset_state plan (links_state plan old) es) else
    (v.Nothing, links_state plan old))
    (ap (λ (n : ℕ). nat_lt link n) (sym links.many) ∙ sym is)

pub resets : (plan : Plan) (old : Links) (link : ℕ) (es : List PortName) (ends : EndsView) (k : HostKeeper)
    → IsBounded old.ends old.packets.packets old.steps → nat_lt link (length old.ends.links) ≡ true
    → ResetsAt old.ends link es ends → k.keys ≡ keeper_reset es old.keeper.keys
    → EndsIfAnswered plan (v.Reset link) old (record old { ends = ends; keeper = k; steps = old.steps + 1 })
    (Reset link es)
resets plan old link es ends k bounded here ends_are keys =
    let grows = reset_grows link es old.ends in
    subst (λ (w : EndsView). EndsIfAnswered plan (v.Reset link) old
    (record old { ends = w; keeper = k; steps = old.steps + 1 }) (Reset link es)) (sym ends_are) (record {
      counted = refl;
      many = grows.many;
      regions = refl;
      bounded = bounded_then 0 old.ends (reset_all link es old.ends) old.packets.packets old.packets.packets old.steps
          (omega arith) bounded grows bounded.sealed_here;
      ends = λ b by h links stands.
          let step = reset_step (beside_in old b) old plan link es true links (sym here) in
          record {
            verdict_is = ap (λ (x : Stepped). x.0) (sym step);
            state_is = (λ i. state_of plan (reset_all link es old.ends) (keys i) old.packets.packets)
                ∙ (state_reset plan old.ends old.keeper.keys old.packets.packets link es links
                ∙ ap (λ (x : Stepped). x.1) (sym step));
            links = subst (λ (x : KeeperView). AreLinks plan (reset_all link es old.ends) x) (sym keys)
                (links_reset plan link es old.ends old.keeper.keys links);
          };
    })
