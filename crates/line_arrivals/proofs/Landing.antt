-- Where bytes land, as the machine has it: they go through a switch, they wait there, or a host's or a device's port
-- takes them.
use Rattle.join_arrivals.proofs.{◌≡◌, ℕ, ◌+◌, ◌<◌, ◌==◌, Bool, true, false, List, [], ◌∷◌, ◌++◌, length, refl, ap, sym}
use Rattle.join_arrivals.proofs.{◌∙◌, subst, arith, nat_tests, Option, Some, None, slice_get, slice_set, if◌then◌else◌}
use Rattle.join_arrivals.proofs.{none-some, same_Some, append-nil, length-set, map, Side, Host, Device, PortName, Plan}
use Rattle.join_arrivals.proofs.{PortEnd, LinkEnds, EndsView, BesidePorts, LinkPacket, LinkState, Packet, port_on}
use Rattle.join_arrivals.proofs.{with_port_on, settled_link, AreLinks, rows_of, state_of, UnitName, take_step, port_in}
use Rattle.join_arrivals.proofs.{pair_port, port_at_place, line_place, PairEnds, ◌≤◌, unit_agrees, writes_agree}
use Rattle.join_arrivals.proofs.{reads_same}
use Rattle.join_arrivals.proofs.{switch_admits_none, own_tlps, waits_open, turn_at, rests_all, StandsAt, Apart, OnWay}
use Rattle.join_arrivals.proofs.{IsApart, IsOnWay, stands_at, reached_there, hop_aggregation, LineIs, OfLink, NearHop}
use Rattle.join_arrivals.proofs.{FarHop, Between, line_of, switched_few, few_queued, queued_behind, switched_opens}
use Rattle.join_arrivals.proofs.{switched_reads, there, wired, port_is, Keeps, Grows, end_kept, end_grows, settled_kept}
use Rattle.join_arrivals.proofs.{settled_grows, settled_rows, grows_then, bounded_then, stays_all}
use Rattle.std.specs.Prelude.{option_map, IsSome, Result, Ok, Err, IfOk, is_some}
use Rattle.std.proofs.Common.{inr, ⊎_elim}
use Rattle.std.proofs.lemmas.Bool.{cases_Bool}
use Rattle.ide_types.specs.Lines.{is_link_line}
use Rattle.ide_types.specs.declared.direction.Direction.{Direction}
use Rattle.ide_types.specs.declared.direction.Direction.TheVariants.{Downstream, Upstream}
use Rattle.ide_types.specs.declared.plan.Region.{Region}
use Rattle.ide_types.specs.Fits.{FitsPlan}
use Rattle.std.specs.Option.{option_map_or}
use Rattle.spec_stream.specs.Stream.{StreamState}
use Rattle.sub_stream.specs.{opened_from_byte}
use Rattle.join_arrivals.specs.{effects_from, packet_write, unit_writes, KeeperView, grants_in, writes_by, of_unit}
use Rattle.join_arrivals.specs.{arrival_verdict, switched_each, unit_waits, InterfacesView, AreLeftBy, AccessesTurn}
use Rattle.join_arrivals.specs.{IsBounded, carried_next, same_floors, way_of, settled_by_side, LinePlace, Link, Near}
use Rattle.join_arrivals.specs.{Pair}
use Rattle.join_arrivals.specs.Accesses.{statuses_of_ends, Brings, policy_in}
use Rattle.ide_prefix.specs.Reading.{cut_of}
use Rattle.script_events.specs.declared.event.Event.{Event}
use Rattle.event_verdicts.specs.declared.verdict.Verdict.{Verdict}
use Rattle.event_verdicts.specs.declared.verdict.Verdict.TheVariants as v
use Rattle.hop_queues.specs.declared.queue.HopTlp.{HopTlp}
use Rattle.hop_queues.specs.declared.queues.HopQueues.{HopQueues}
use Rattle.hop_queues.specs.{all_roomy, queue_of}
use Rattle.guarded_memory.specs.declared.status.InterfaceStatus.{InterfaceStatus}
use Rattle.guarded_memory.specs.Happenings.{Happened, newest_happened}
use Rattle.trusted_memory.specs.declared.queue.WaitingRead.{WaitingRead}
use Rattle.trusted_memory.specs.{MemoryContents, Leads, Write, newest_first, IsLeftBy}
use Rattle.guarded_memory.specs.Contents.{mmio_byte}
use Rattle.spec_keys.proofs.Tests.{same-true}
use Rattle.spec_links.specs.Plan.{has_port, is_same_port}
use Rattle.spec_links.specs.Ports.{port_of, at_switch, goes_through, end_reached}
use Rattle.spec_links.specs.History.{ArrivedBytes}
use Rattle.spec_links.specs.Hops.{entering_end, tlps_with}
use Rattle.spec_links.specs.Guarded.{happens_by_packets, unit_happenings}
use Rattle.spec_links.specs.Memory.{Policy, Grants, effects_under_policy, plain_of}
use Rattle.join_interfaces.specs.{stepped_arrival, stepped_cut, unit_tlps, waiting_reads_after, unit_in}
use Rattle.ide_port.specs.Arrivals.{TakeStep}
use Rattle.ide_port.specs.declared.answer.Arrival.{Arrival as Came}
use Rattle.ide_port.specs.declared.answer.Arrival.TheVariants as came
use Rattle.link_stores.specs.declared.link.LinkAccesses.{LinkAccesses}
use Rattle.link_stores.specs.{reads_on}
use Rattle.spec_links.specs.Sent.{targets_at}
use Rattle.ide_port.proofs.Units.{taken-units}
use Rattle.join_arrivals.proofs.Arrivals.{take_keeps, end_of, Opens, opens_each, effects_at, arrives_as}
use Rattle.join_arrivals.proofs.Accesses.{arrival_turns}
use Rattle.ide_types.specs.declared.memory.OutOfMemory.{OutOfMemory}
use Rattle.std.proofs.lemmas.Option.{slice_get_within}
use Rattle.line_arrivals.specs.Follows.{AllFollow}
use Rattle.line_arrivals.specs.Landing.{ComesTo, IsQuiet, arrival_on, HasEffects, Lands}
use Rattle.line_arrivals.proofs.Follows.{apart_follows, way_follows, place_low, place_near, place_pair}

-- ---- verdicts of arrivals that take nothing

-- none, or through a switch's port
abbrev pub left_unread : Option PortName → Verdict
left_unread None = v.Nothing
left_unread (Some port) = v.Through port

either_way : (b : Bool) (xs : List HopTlp) → (if b then xs else xs) ≡ xs
either_way true xs = refl
either_way false xs = refl

pub unread_turn : (plan : Plan) (o : Option PortName) (ps : List Packet) (statuses : ℕ → List InterfaceStatus)
    (e : Event) (xs : List LinkAccesses) → IsQuiet plan e → AccessesTurn
    (waiting_reads_after plan statuses ps e (left_unread o)) same_floors (λ link. happens_by_packets plan statuses ps e (left_unread o) link)
    (carried_next (unit_tlps plan ps (left_unread o)) e (left_unread o)) xs xs
unread_turn plan None ps statuses e xs quiet = rests_all _ _ _ _ xs (λ k. record {
  reads_rest = λ side ws. refl;
  floors_rest = λ ns. refl;
  nothing = λ older. ap (λ (hs : List (Option Happened)). newest_happened hs older) (quiet v.Nothing k);
  carried_rest = λ d ts. either_way (is_link_line k) ts;
})
unread_turn plan (Some port) ps statuses e xs quiet = rests_all _ _ _ _ xs (λ k. record {
  reads_rest = λ side ws. refl;
  floors_rest = λ ns. refl;
  nothing = λ older. ap (λ (hs : List (Option Happened)). newest_happened hs older) (quiet (v.Through port) k);
  carried_rest = λ d ts. either_way (is_link_line k) ts;
})

unread_writes : (plan : Plan) (grants : Grants) (st : LinkState) (a : Option ArrivedBytes) (o : Option PortName)
    → writes_by plan grants st a (left_unread o) ≡ []
unread_writes plan grants st a None = refl
unread_writes plan grants st a (Some port) = refl

pub unread_lands : (plan : Plan) (m : InterfacesView) (end : PortName) (bytes : List ℕ) (o : Option PortName)
    (old : EndsView) (c : MemoryContents) (xs : List LinkAccesses)
    → ((k : KeeperView) (packets : List LinkPacket) → AreLinks plan old k → has_port plan end ≡ true → (b : BesidePorts)
    → (left_unread o, state_of plan old k packets) ≡ stepped_arrival plan b (state_of plan old k packets)
    (arrival_on plan end bytes)) → Lands plan m end bytes (left_unread o) old c xs old c xs
unread_lands plan m end bytes o old c xs same = record {
  bounded = λ packets steps bounded.
      bounded_then 0 old old packets packets steps (omega arith) bounded (stays_all old) bounded.sealed_here;
  many = refl;
  accesses_many = refl;
  regions = refl;
  stands = λ k packets h links stands has. record {
    links = links;
    follows = λ i l l' at at'. inr (
      ap (λ (x : LinkEnds). x.device) (same_Some l' l (sym at' ∙ at)),
      λ id. refl,
    );
    steps = λ b regions effects. same k packets links has b;
    leads = λ regions.
        subst (λ (os : List (Option Write)). Leads c os c)
        (sym (unread_writes plan (grants_in m) (state_of plan old k packets) (arrival_on plan end bytes) o))
        (λ older left. left);
    turn = λ e quiet. unread_turn plan o (unit_in plan (state_of plan old k packets) (arrival_on plan end bytes))
        (policy_in m old xs).statuses e xs quiet;
  };
}

pub lands_nowhere : (plan : Plan) (m : InterfacesView) (end : PortName) (bytes : List ℕ) (old : EndsView)
    (c : MemoryContents) (xs : List LinkAccesses)
    → ((k : KeeperView) → AreLinks plan old k → has_port plan end ≡ true → ⊥)
    → Lands plan m end bytes v.Nothing old c xs old c xs
lands_nowhere plan m end bytes old c xs never =
    unread_lands plan m end bytes None old c xs (λ k packets links has b. absurd (never k links has))

-- nothing is taken, and there is other room
pub lands_left : (plan : Plan) (m : InterfacesView) (end : PortName) (bytes : List ℕ) (verdict : Verdict)
    (old : EndsView) (c : MemoryContents) (xs : List LinkAccesses) (new : EndsView) (d : MemoryContents)
    (ys : List LinkAccesses) → new ≡ old → d ≡ c → length ys ≡ length xs
    → ((k : KeeperView) → AreLinks plan old k → has_port plan end ≡ true → ⊥)
    → Lands plan m end bytes verdict old c xs new d ys
lands_left plan m end bytes verdict old c xs new d ys same memory_same many never = record {
  bounded = λ packets steps bounded.
      subst (λ (v : EndsView). IsBounded v packets (steps + 1)) (sym same)
      (bounded_then 0 old old packets packets steps (omega arith) bounded (stays_all old) bounded.sealed_here);
  many = ap (λ (v : EndsView). length v.links) same;
  accesses_many = many;
  regions = ap (λ (z : MemoryContents). z.regions) memory_same;
  stands = λ k packets h links stands has. absurd (never k links has);
}

-- ---- an end takes them

some_is : {A : Type 0} (o : Option A) → IsSome o → (x : A) × (o ≡ Some x)
some_is None some = absurd cc
some_is (Some x) some = (x, refl)

-- devices that settle at a port
settled_more : (s : Side) (line : ℕ) (old w : EndsView) → Grows 1 old w
    → Grows 1 old (settled_by_side (record { side = s; line = line }) w)
settled_more Host line old w grows = grows
settled_more Device line old w grows = grows_then 1 0 old w (settled_link w line) grows (settled_grows w line)

settled_links : (s : Side) (line : ℕ) (plan : Plan) (w : EndsView) (k : KeeperView) → AreLinks plan w k
    → AreLinks plan (settled_by_side (record { side = s; line = line }) w) k
settled_links Host line plan w k links = links
settled_links Device line plan w k links = settled_kept plan w k links line

settled_same : (s : Side) (line : ℕ) (w : EndsView) → rows_of (settled_by_side (record { side = s; line = line }) w)
    ≡ rows_of w
settled_same Host line w = refl
settled_same Device line w = settled_rows w line

opens_at : (plan : Plan) (m : InterfacesView) (old : EndsView) (xs : List LinkAccesses) (regions : List Region)
    (end port : PortName) (b : BesidePorts) (l : LinkEnds) (a : LinkAccesses) → slice_get old.links port.line ≡ Some l
    → slice_get xs port.line ≡ Some a → port_of plan end ≡ port → at_switch plan port ≡ false → regions ≡ plan.memory
    → HasEffects plan m old xs b → Opens b end (effects_at regions m port l a)
opens_at plan m old xs regions end port b l a l_is a_is at apart same effects unit key iv n ps =
    let policy : Policy = policy_in m old xs in
    (λ i. effects_from (same i) policy.grants (statuses_of_ends (sym l_is i) (sym a_is i))
    (length (option_map_or (reads_on port.side) (sym a_is i) [])) port unit (opened_from_byte key iv n ps))
    ∙ (opens_each plan policy port unit apart (policy.waiting port) key iv n ps
    ∙ ((λ i. effects_under_policy plan policy (sym at i) unit ps) ∙ (λ i. sym effects i end unit ps)))

apart_at : (plan : Plan) (fits : FitsPlan plan) (end : PortName) → way_of end ≡ None → StandsAt plan fits end
    → IsApart plan fits end
apart_at plan fits end none (Apart at) = at
apart_at plan fits end none (OnWay link d at) = absurd (none-some (link, d) (sym none ∙ at.way))

not_through : (plan : Plan) (end : PortName) (bytes : List ℕ) (b : BesidePorts) (st : LinkState)
    → goes_through plan end bytes ≡ false
    → stepped_arrival plan b st (Some (record { port = end; bytes = bytes })) ≡ stepped_cut plan b st end (cut_of bytes)
not_through plan end bytes b st stays = rw stays refl

all_through : (plan : Plan) (end : PortName) (bytes : List ℕ) (b : BesidePorts) (st : LinkState)
    → goes_through plan end bytes ≡ true
    → stepped_arrival plan b st (Some (record { port = end; bytes = bytes })) ≡ (v.Through (port_of plan end), st)
all_through plan end bytes b st through = rw through refl

pub lands_taken : (plan : Plan) (m : InterfacesView) (end0 : PortName) (bytes : List ℕ) (verdict : Verdict)
    (old : EndsView) (c : MemoryContents) (xs : List LinkAccesses) (new : EndsView) (d : MemoryContents)
    (ys : List LinkAccesses) → let end = end_reached plan end0 bytes in let port = port_of plan end in
    goes_through plan end bytes ≡ false → way_of end ≡ None → IsSome (port_on old end) → port.line < length old.links
    → length xs ≡ length old.links → Brings m end port bytes verdict old c xs new d ys
    → Lands plan m end0 bytes verdict old c xs new d ys
lands_taken plan m end0 bytes verdict old c xs new d ys stays none here less many brought =
    let end : PortName = end_reached plan end0 bytes in
    let port : PortName = port_of plan end in
    let f = some_is (port_on old end) here in
    let e : PortEnd = f.0 in
    let l = there old.links port.line less in
    let a = there xs port.line (subst (λ (n : ℕ). port.line < n) (sym many) less) in
    let x = brought.arrives e l.0 a.0 f.1 l.1 a.1 in
    let t : TakeStep = take_step e (cut_of bytes) in
    let keeps : Keeps e t.port = take_keeps e (cut_of bytes) in
    let w : EndsView = with_port_on old end t.port in
    let grows : Grows 1 old new = subst (λ (z : EndsView). Grows 1 old z) (sym x.new_is)
    (settled_more port.side port.line old w (end_grows old end e t.port f.1 (taken-units e (cut_of bytes)))) in
    record {
      bounded = λ packets steps bounded.
          bounded_then 1 old new packets packets steps (omega arith) bounded grows bounded.sealed_here;
      many = grows.many;
      accesses_many = ap (λ (zs : List LinkAccesses). length zs) x.accesses_are ∙ length-set xs port.line x.access;
      regions = brought.regions;
      stands = λ k packets h links stands has.
          let has_end = reached_there plan links.fits end0 bytes has in
          let at = apart_at plan links.fits end none (stands_at plan links.fits end has_end) in
          let st : LinkState = state_of plan old k packets in
          let at_port = port_is plan old k links end e f.1 in
          let seen : state_of plan new k packets ≡ state_of plan w k packets =
          ap (λ (z : EndsView). state_of plan z k packets) x.new_is
          ∙ ap (λ (rows : List (List StreamState)). record st { ports = rows }) (settled_same port.side port.line w) in
          record {
            links = subst (λ (z : EndsView). AreLinks plan z k) (sym x.new_is)
                (settled_links port.side port.line plan w k (end_kept plan old k links end e t.port f.1 keeps));
            follows = subst (λ (z : EndsView). AllFollow old z) (sym x.new_is)
                (apart_follows plan old k links end t.port has_end none);
            steps = λ b regions effects.
                let as_machine = arrives_as b plan end port refl (effects_at c.regions m port l.0 a.0)
                (opens_at plan m old xs c.regions end port b l.0 a.0 l.1 a.1 refl at.no_switch regions effects)
                old k packets (wired plan old k links) e f.1 at_port (cut_of bytes) in
                (λ i. (x.came.verdict_is i, seen i))
                ∙ (sym as_machine ∙ sym (not_through plan end bytes b st stays));
            leads = λ regions.
                let grants : Grants = grants_in m in
                let same = ap (λ (u : Verdict). writes_by plan grants st (arrival_on plan end0 bytes) u)
                x.came.verdict_is
                ∙ (writes_agree plan grants st h end port e stands (end_of plan old k packets end e links f.1) refl
                at.no_switch bytes _
                ∙ (λ i. unit_writes t.answer
                (λ (unit : UnitName). map (packet_write (sym regions i) grants port unit) t.port.delivered))) in
                subst (λ (os : List (Option Write)). Leads c os d) (sym same) x.came.written;
            turn = λ ev quiet. arrival_turns plan old new k packets m c d xs ys h end port e l.0 a.0 bytes verdict f.1
                l.1
                a.1 refl at.no_switch none brought ev quiet links stands;
          };
    }

-- ---- they wait at a switch

on_way : (plan : Plan) (fits : FitsPlan plan) (end : PortName) (w : ℕ × Direction) → way_of end ≡ Some w
    → StandsAt plan fits end → IsOnWay plan fits end w.0 w.1
on_way plan fits end w is (Apart at) = absurd (none-some w (sym at.no_way ∙ is))
on_way plan fits end w is (OnWay link d at) =
    subst (λ (x : ℕ × Direction). IsOnWay plan fits end x.0 x.1) (same_Some (link, d) w (sym at.way ∙ is)) at

roomy : (q : HopQueues) (d : Direction) → (queue_of (all_roomy q) d).has_room ≡ true
roomy q Downstream = refl
roomy q Upstream = refl

same_behind : (d way : Direction) (xs : List HopTlp) (q : HopQueues) → queued_behind d xs (all_roomy q) way
    ≡ queued_behind d xs q way
same_behind Downstream Downstream xs q = refl
same_behind Downstream Upstream xs q = refl
same_behind Upstream Downstream xs q = refl
same_behind Upstream Upstream xs q = refl

none_behind : (d way : Direction) (q : HopQueues) → queued_behind d [] q way ≡ (queue_of q way).tlps
none_behind Downstream Downstream q = append-nil (queue_of q Downstream).tlps
none_behind Downstream Upstream q = refl
none_behind Upstream Downstream q = refl
none_behind Upstream Upstream q = append-nil (queue_of q Upstream).tlps

-- the end that TLPs enter by
one_way : (link : ℕ) (d way : Direction) (xs : List HopTlp) (q : HopQueues) → queued_behind d xs q way
    ≡ (if is_same_port (entering_end link d) (entering_end link way) then (queue_of q way).tlps ++ xs
    else (queue_of q way).tlps)
one_way link Downstream Downstream xs q =
    ap (λ (b : Bool). if b then (queue_of q Downstream).tlps ++ xs else (queue_of q Downstream).tlps)
    (sym (same-true (8 + link)))
one_way link Downstream Upstream xs q = refl
one_way link Upstream Downstream xs q = refl
one_way link Upstream Upstream xs q =
    ap (λ (b : Bool). if b then (queue_of q Upstream).tlps ++ xs else (queue_of q Upstream).tlps)
    (sym (same-true (16 + link)))

apart_ways : (link k : ℕ) (d way : Direction) → (link == k) ≡ false
    → is_same_port (entering_end link d) (entering_end k way) ≡ false
apart_ways link k Downstream Downstream other =
    let differs : (8 + link == 8 + k) ≡ false = grind (arith, nat_tests) in differs
apart_ways link k Downstream Upstream other = refl
apart_ways link k Upstream Downstream other = refl
apart_ways link k Upstream Upstream other =
    let differs : (16 + link == 16 + k) ≡ false = grind (arith, nat_tests) in differs

none_lead : (ps : List Packet) (older : List Write) → newest_first (map (λ p. None) ps) older ≡ older
none_lead [] older = refl
none_lead (p ∷ ps) older = none_lead ps older

module _ (plan : Plan) (end : PortName) (link : ℕ) (d : Direction) (end_is : end ≡ entering_end link d)
    (switch : at_switch plan (port_of plan end) ≡ true) (ended delivered : List Packet) where
  abbrev says : Came → Verdict
  says answer = arrival_verdict end end answer (λ unit. switched_each delivered)

  -- what the machine has wait
  abbrev waits : Came → List HopTlp
  waits answer = of_unit answer (λ unit. tlps_with (plain_of plan end unit ended) ended)

  no_writes : (grants : Grants) (st : LinkState) (a : Option ArrivedBytes) (c : MemoryContents) (answer : Came)
      → unit_in plan st a ≡ ended → Leads c (writes_by plan grants st a (says answer)) c
  no_writes grants st a c (came.Malformed fault) is older left = left
  no_writes grants st a c came.Plain is older left = left
  no_writes grants st a c (came.Unknown stream) is older left = left
  no_writes grants st a c (came.Insecure stream) is older left = left
  no_writes grants st a c (came.NotKeyed stream sub) is older left = left
  no_writes grants st a c (came.Fail stream sub cause) is older left = left
  no_writes grants st a c (came.Held unit) is older left = left
  no_writes grants st a c (came.Accepted unit count) is older left =
      subst (λ (ws : List Write). IsLeftBy c ws)
      (sym (ap (λ (os : List (Option Write)). newest_first os older)
      (switch_admits_none plan grants unit end (unit_in plan st a) switch) ∙ none_lead (unit_in plan st a) older)) left

  no_more_reads : (statuses : ℕ → List InterfaceStatus) (e : Event) (answer : Came) (p : PortName)
      (ws : List WaitingRead) → waiting_reads_after plan statuses ended e (says answer) p ws ≡ ws
  no_more_reads statuses e (came.Malformed fault) p ws = refl
  no_more_reads statuses e came.Plain p ws = refl
  no_more_reads statuses e (came.Unknown stream) p ws = refl
  no_more_reads statuses e (came.Insecure stream) p ws = refl
  no_more_reads statuses e (came.NotKeyed stream sub) p ws = refl
  no_more_reads statuses e (came.Fail stream sub cause) p ws = refl
  no_more_reads statuses e (came.Held unit) p ws = refl
  no_more_reads statuses e (came.Accepted unit count) p ws =
      ap (λ (rs : List WaitingRead). if is_same_port (port_of plan end) p then ws ++ rs else ws)
      (switched_reads (targets_at p.side (statuses p.line)) end unit delivered ended)
      ∙ by (is_same_port (port_of plan end) p)
    where
      by : (b : Bool) → (if b then ws ++ [] else ws) ≡ ws
      by true = append-nil ws
      by false = refl

  none_happens : (statuses : ℕ → List InterfaceStatus) (e : Event) → IsQuiet plan e → (answer : Came) (k : ℕ)
      (older : List Happened) → newest_happened (happens_by_packets plan statuses ended e (says answer) k) older ≡ older
  none_happens statuses e quiet (came.Malformed fault) k older =
      ap (λ (hs : List (Option Happened)). newest_happened hs older) (quiet _ k)
  none_happens statuses e quiet came.Plain k older =
      ap (λ (hs : List (Option Happened)). newest_happened hs older) (quiet _ k)
  none_happens statuses e quiet (came.Unknown stream) k older =
      ap (λ (hs : List (Option Happened)). newest_happened hs older) (quiet _ k)
  none_happens statuses e quiet (came.Insecure stream) k older =
      ap (λ (hs : List (Option Happened)). newest_happened hs older) (quiet _ k)
  none_happens statuses e quiet (came.NotKeyed stream sub) k older =
      ap (λ (hs : List (Option Happened)). newest_happened hs older) (quiet _ k)
  none_happens statuses e quiet (came.Fail stream sub cause) k older =
      ap (λ (hs : List (Option Happened)). newest_happened hs older) (quiet _ k)
  none_happens statuses e quiet (came.Held unit) k older =
      ap (λ (hs : List (Option Happened)). newest_happened hs older) (quiet _ k)
  none_happens statuses e quiet (came.Accepted unit count) k older = by ((port_of plan end).line == k)
    where
      none : unit_happenings (statuses (port_of plan end).line) plan end unit ended ≡ []
      none = rw switch refl

      by : (b : Bool) → newest_happened
          (if b then unit_happenings (statuses (port_of plan end).line) plan end unit ended else []) older ≡ older
      by true = ap (λ (hs : List (Option Happened)). newest_happened hs older) none
      by false = refl

  at_other : (e : Event) (answer : Came) (k : ℕ) (way : Direction) (ts : List HopTlp) → (link == k) ≡ false
      → carried_next (unit_tlps plan ended (says answer)) e (says answer) k way ts ≡ ts
  at_other e (came.Malformed fault) k way ts other = either_way (is_link_line k) ts
  at_other e came.Plain k way ts other = either_way (is_link_line k) ts
  at_other e (came.Unknown stream) k way ts other = either_way (is_link_line k) ts
  at_other e (came.Insecure stream) k way ts other = either_way (is_link_line k) ts
  at_other e (came.NotKeyed stream sub) k way ts other = either_way (is_link_line k) ts
  at_other e (came.Fail stream sub cause) k way ts other = either_way (is_link_line k) ts
  at_other e (came.Held unit) k way ts other = either_way (is_link_line k) ts
  at_other e (came.Accepted unit count) k way ts other =
      let differs : is_same_port end (entering_end k way) ≡ false =
      ap (λ (p : PortName). is_same_port p (entering_end k way)) end_is ∙ apart_ways link k d way other in
      ap (λ (b : Bool). if is_link_line k then (if b then ts ++ tlps_with (plain_of plan end unit ended) ended else ts)
      else ts) differs
      ∙ either_way (is_link_line k) ts

  at_this : (e : Event) (answer : Came) (way : Direction) (q : HopQueues) → is_link_line link ≡ true
      → queued_behind d (waits answer) q way
      ≡ carried_next (unit_tlps plan ended (says answer)) e (says answer) link way (queue_of q way).tlps
  at_this e (came.Malformed fault) way q low = none_behind d way q ∙ sym (either_way (is_link_line link) _)
  at_this e came.Plain way q low = none_behind d way q ∙ sym (either_way (is_link_line link) _)
  at_this e (came.Unknown stream) way q low = none_behind d way q ∙ sym (either_way (is_link_line link) _)
  at_this e (came.Insecure stream) way q low = none_behind d way q ∙ sym (either_way (is_link_line link) _)
  at_this e (came.NotKeyed stream sub) way q low = none_behind d way q ∙ sym (either_way (is_link_line link) _)
  at_this e (came.Fail stream sub cause) way q low = none_behind d way q ∙ sym (either_way (is_link_line link) _)
  at_this e (came.Held unit) way q low = none_behind d way q ∙ sym (either_way (is_link_line link) _)
  at_this e (came.Accepted unit count) way q low =
      let xs : List HopTlp = tlps_with (plain_of plan end unit ended) ended in
      let ts : List HopTlp = (queue_of q way).tlps in
      one_way link d way xs q
      ∙ (ap (λ (p : PortName). if is_same_port p (entering_end link way) then ts ++ xs else ts) (sym end_is)
      ∙ ap (λ (b : Bool). if b then (if is_same_port end (entering_end link way) then ts ++ xs else ts) else ts)
      (sym low))

pub lands_waiting : (plan : Plan) (m : InterfacesView) (end0 : PortName) (bytes : List ℕ) (verdict : Verdict)
    (old : EndsView) (c : MemoryContents) (xs : List LinkAccesses) (new : EndsView) (ys : List LinkAccesses)
    (w : ℕ × Direction) → let end = end_reached plan end0 bytes in
    goes_through plan end bytes ≡ false → way_of end ≡ Some w → IsSome (port_on old end) → w.0 < length xs
    → ComesTo old end bytes w.0 w.1 verdict xs new ys → Lands plan m end0 bytes verdict old c xs new c ys
lands_waiting plan m end0 bytes verdict old c xs new ys w stays way here less comes =
    let end : PortName = end_reached plan end0 bytes in
    let f = some_is (port_on old end) here in
    let e : PortEnd = f.0 in
    let a = there xs w.0 less in
    let y = comes a.0 a.1 in
    let x = y.waits e f.1 in
    let t : TakeStep = take_step e (cut_of bytes) in
    let keeps : Keeps e t.port = take_keeps e (cut_of bytes) in
    let grows : Grows 1 old new = subst (λ (z : EndsView). Grows 1 old z) (sym x.new_is)
    (end_grows old end e t.port f.1 (taken-units e (cut_of bytes))) in
    record {
      bounded = λ packets steps bounded.
          bounded_then 1 old new packets packets steps (omega arith) bounded grows bounded.sealed_here;
      many = grows.many;
      accesses_many = ap (λ (zs : List LinkAccesses). length zs) y.accesses_are ∙ length-set xs w.0 _;
      regions = refl;
      stands = λ k packets h links stands has.
          let has_end = reached_there plan links.fits end0 bytes has in
          let at = on_way plan links.fits end w way (stands_at plan links.fits end has_end) in
          let st : LinkState = state_of plan old k packets in
          let at_port = port_is plan old k links end e f.1 in
          let is_end = end_of plan old k packets end e links f.1 in
          let switch : at_switch plan (port_of plan end) ≡ true = ap (at_switch plan) at.port_is ∙ at.switch in
          let ended : List Packet = unit_in plan st (arrival_on plan end0 bytes) in
          let few = switched_few plan st h end e stands is_end
          (λ id. hop_aggregation plan links.fits end.line id at.line.0 at.line.1) bytes in
          let agree = unit_agrees plan st h end e stands is_end (λ unit ps. tlps_with (plain_of plan end unit ps) ps)
          (λ unit ps. own_tlps ps) (waits_open plan end) bytes in
          record {
            links = subst (λ (z : EndsView). AreLinks plan z k) (sym x.new_is)
                (end_kept plan old k links end e t.port f.1 keeps);
            follows = subst (λ (z : EndsView). AllFollow old z) (sym x.new_is)
                (way_follows plan old k links end t.port w.0 w.1 at);
            steps = λ b regions effects.
                let policy : Policy = policy_in m old xs in
                let opens : Opens b end (λ unit ps. switched_each ps) = λ unit key iv n ps.
                switched_opens plan policy end unit at.switch (policy.waiting end) key iv n ps
                ∙ ((λ i. effects_under_policy plan policy (sym at.port_is i) unit ps)
                ∙ (λ i. sym effects i end unit ps)) in
                let as_machine = arrives_as b plan end end at.port_is (λ unit ps. switched_each ps) opens old k packets
                (wired plan old k links) e f.1 at_port (cut_of bytes) in
                (λ i. (x.verdict_is i, state_of plan (x.new_is i) k packets))
                ∙ (sym as_machine ∙ sym (not_through plan end bytes b st stays));
            leads = λ regions.
                subst (λ (u : Verdict). Leads c (writes_by plan (grants_in m) st (arrival_on plan end0 bytes) u) c)
                (sym x.verdict_is)
                (no_writes plan end w.0 w.1 at.end_is switch ended t.port.delivered (grants_in m) st
                (arrival_on plan end0 bytes) c t.answer refl);
            turn = λ ev quiet.
                let statuses : ℕ → List InterfaceStatus = (policy_in m old xs).statuses in
                let low : is_link_line w.0 ≡ true =
                (let least = at.less in let most = links.fits.links_most in grind (arith, nat_tests)) in
                subst (λ (zs : List LinkAccesses). AccessesTurn (waiting_reads_after plan statuses ended ev verdict) same_floors
                (λ link. happens_by_packets plan statuses ended ev verdict link)
                (carried_next (unit_tlps plan ended verdict) ev verdict) xs zs) (sym y.accesses_are)
                (subst (λ (u : Verdict). AccessesTurn (waiting_reads_after plan statuses ended ev u) same_floors
                (λ link. happens_by_packets plan statuses ended ev u link) (carried_next (unit_tlps plan ended u) ev u)
                xs
                (slice_set xs w.0 (record a.0 { carried = y.queues }))) (sym x.verdict_is)
                (turn_at _ _ _ _ xs w.0 a.0 (record a.0 { carried = y.queues }) a.1 (record {
                  reads_are = λ side.
                      reads_same side a.0 (record a.0 { carried = y.queues }) refl refl
                      ∙ sym (no_more_reads plan end w.0 w.1 at.end_is switch ended t.port.delivered statuses ev t.answer
                      (record { side = side; line = w.0 }) (reads_on side a.0));
                  floors_are = refl;
                  sizes_are = refl;
                  leads = λ older left. subst (λ (hs : List Happened). AreLeftBy (mmio_byte a.0.guarded) hs)
                      (sym (none_happens plan end w.0 w.1 at.end_is switch ended t.port.delivered statuses ev quiet
                      t.answer
                      w.0 older)) left;
                  carried_are = λ q.
                      ap (λ (z : HopQueues). (queue_of z q).tlps) x.queues_are
                      ∙ (few_queued w.1 q (of_unit t.answer (unit_waits t.port.delivered)) (all_roomy a.0.carried)
                      (roomy a.0.carried w.1) few.1
                      ∙ (same_behind w.1 q _ a.0.carried
                      ∙ (ap (λ (ts : List HopTlp). queued_behind w.1 ts a.0.carried q) (few.0 ∙ sym agree)
                      ∙ at_this plan end w.0 w.1 at.end_is switch ended t.port.delivered ev t.answer q a.0.carried
                      low)));
                })
                (λ i other. record {
                  reads_rest = λ side ws. no_more_reads plan end w.0 w.1 at.end_is switch ended t.port.delivered statuses
                      ev t.answer (record { side = side; line = i }) ws;
                  floors_rest = λ ns. refl;
                  nothing = λ older. none_happens plan end w.0 w.1 at.end_is switch ended t.port.delivered statuses ev
                      quiet t.answer i older;
                  carried_rest = λ q ts. at_other plan end w.0 w.1 at.end_is switch ended t.port.delivered ev t.answer i
                      q
                      ts other;
                })));
          };
    }

-- ---- as the calls say

within_get : {A : Type 0} (xs : List A) (i : ℕ) → i < length xs → IsSome (slice_get xs i)
within_get xs i less = let f = there xs i less in subst (λ (o : Option _). IsSome o) (sym f.1) refl

mapped_some : {A B : Type 0} (g : A → B) (o : Option A) → IsSome o → IsSome (option_map g o)
mapped_some g None some = absurd cc
mapped_some g (Some x) some = refl

-- an end of the topology is kept
pub ends_there : (plan : Plan) (v : EndsView) (k : KeeperView) → AreLinks plan v k → (end : PortName)
    → has_port plan end ≡ true → IsSome (port_on v end)
ends_there plan v k links end has = by (line_of plan links.fits end has)
  where
    at_place : (q : LinePlace) → line_place end.line ≡ q → IsSome (port_at_place v end.side q) → IsSome (port_on v end)
    at_place q is some = subst (λ (p : LinePlace). IsSome (port_at_place v end.side p)) (sym is) some

    on_line : (line : ℕ) (q : LinePlace) → end.line ≡ line → line_place line ≡ q → line_place end.line ≡ q
    on_line line q at is = ap line_place at ∙ is

    by : LineIs plan end.line → IsSome (port_on v end)
    by (OfLink less low) = at_place (Link end.line) (place_low end.line low)
        (mapped_some (λ (l : LinkEnds). port_in end.side l) (slice_get v.links end.line)
        (within_get v.links end.line (omega (arith, less, links.many))))
    by (NearHop i at low less) = at_place (Near i) (on_line (8 + i) (Near i) at (place_near i low))
        (mapped_some (λ (l : LinkEnds). port_in end.side l) (slice_get v.near i)
        (within_get v.near i (omega (arith, low, links.near_many))))
    by (FarHop i at low less) = at_place (Pair i) (on_line (16 + i) (Pair i) at (place_pair i))
        (mapped_some (λ (l : PairEnds). pair_port end.side l) (slice_get v.pairs i)
        (within_get v.pairs i (omega (arith, low, links.pairs_many))))
    by (Between n at) =
        let same : 16 + (8 + n) ≡ 24 + n = omega arith in
        at_place (Pair (8 + n)) (on_line (16 + (8 + n)) (Pair (8 + n)) (at.at ∙ sym same) (place_pair (8 + n)))
        (mapped_some (λ (l : PairEnds). pair_port end.side l) (slice_get v.pairs (8 + n))
        (within_get v.pairs (8 + n)
        (let less = slice_get_within plan.peers n at.plan_of at.there in omega (arith, less, links.pairs_many))))

module _ (plan : Plan) (m : InterfacesView) (end0 : PortName) (bytes : List ℕ) (old : EndsView) (c : MemoryContents)
    (xs : List LinkAccesses) (end : PortName) (end_is : end ≡ end_reached plan end0 bytes) where
  pub land_through : (port : PortName) → true ≡ goes_through plan end bytes → port ≡ port_of plan end
      → Lands plan m end0 bytes (v.Through port) old c xs old c xs
  land_through port through port_is = unread_lands plan m end0 bytes (Some port) old c xs (λ k packets links has b.
      let st : LinkState = state_of plan old k packets in
      let at : goes_through plan (end_reached plan end0 bytes) bytes ≡ true =
      ap (λ (p : PortName). goes_through plan p bytes) (sym end_is) ∙ sym through in
      ap (λ (p : PortName). (v.Through p, st)) (port_is ∙ ap (port_of plan) end_is)
      ∙ sym (all_through plan (end_reached plan end0 bytes) bytes b st at))

  -- no such end: these are not the ends of the plan
  not_there : false ≡ is_some (port_on old end) → (k : KeeperView) → AreLinks plan old k → has_port plan end0 ≡ true → ⊥
  not_there gone k links has =
      let some = ends_there plan old k links (end_reached plan end0 bytes)
      (reached_there plan links.fits end0 bytes has) in
      let here : is_some (port_on old end) ≡ true = subst (λ (p : PortName). IsSome (port_on old p)) (sym end_is) some
      in
      let never : false ≡ true = gone ∙ here in absurd cc

  pub land_gone : false ≡ is_some (port_on old end) → Lands plan m end0 bytes v.Nothing old c xs old c xs
  land_gone gone = lands_nowhere plan m end0 bytes old c xs (not_there gone)

  -- no such link
  pub land_off_way : (w : ℕ × Direction) → Some w ≡ way_of end → length old.links ≤ w.0
      → Lands plan m end0 bytes v.Nothing old c xs old c xs
  land_off_way w way most = lands_nowhere plan m end0 bytes old c xs (λ k links has.
      let at = on_way plan links.fits (end_reached plan end0 bytes) w (ap way_of (sym end_is) ∙ sym way)
      (stands_at plan links.fits (end_reached plan end0 bytes) (reached_there plan links.fits end0 bytes has)) in
      let less = at.less in let many = links.many in let never : ⊥ = omega (arith, less, many, most) in never)

  pub land_off_port : (port : PortName) → None ≡ way_of end → port ≡ port_of plan end → length old.links ≤ port.line
      → Lands plan m end0 bytes v.Nothing old c xs old c xs
  land_off_port port none port_is most = lands_nowhere plan m end0 bytes old c xs (λ k links has.
      let at = apart_at plan links.fits (end_reached plan end0 bytes) (ap way_of (sym end_is) ∙ sym none)
      (stands_at plan links.fits (end_reached plan end0 bytes) (reached_there plan links.fits end0 bytes has)) in
      let less = at.port.less in let many = links.many in
      let link = ap (λ (p : PortName). p.line) (port_is ∙ ap (port_of plan) end_is) in
      let never : ⊥ = omega (arith, less, many, most, link) in never)

  pub land_wait : (r : Result Verdict OutOfMemory) (new : EndsView) (ys : List LinkAccesses) (w : ℕ × Direction)
      → false ≡ goes_through plan end bytes → Some w ≡ way_of end → true ≡ is_some (port_on old end)
      → w.0 < length xs → IfOk r (λ u. ComesTo old end bytes w.0 w.1 u xs new ys)
      → IfOk r (λ u. Lands plan m end0 bytes u old c xs new c ys)
  land_wait (Ok u) new ys w stays way here less comes =
      lands_waiting plan m end0 bytes u old c xs new ys w
      (ap (λ (p : PortName). goes_through plan p bytes) (sym end_is) ∙ sym stays) (ap way_of (sym end_is) ∙ sym way)
      (ap (λ (p : PortName). is_some (port_on old p)) (sym end_is) ∙ sym here) less
      (subst (λ (p : PortName). ComesTo old p bytes w.0 w.1 u xs new ys) end_is comes)
  land_wait (Err e) new ys w stays way here less comes = tt

  pub land_take : (r : Result Verdict OutOfMemory) (new : EndsView) (d : MemoryContents) (ys : List LinkAccesses)
      (port : PortName) → false ≡ goes_through plan end bytes → None ≡ way_of end → port ≡ port_of plan end
      → port.line < length old.links → length xs ≡ length old.links
      → IfOk r (λ u. Brings m end port bytes u old c xs new d ys)
      → IfOk r (λ u. Lands plan m end0 bytes u old c xs new d ys)
  land_take (Ok u) new d ys port stays none port_is less many brings = ⊎_elim
      (λ here.
      let at : port ≡ port_of plan (end_reached plan end0 bytes) = port_is ∙ ap (port_of plan) end_is in
      lands_taken plan m end0 bytes u old c xs new d ys
      (ap (λ (p : PortName). goes_through plan p bytes) (sym end_is) ∙ sym stays) (ap way_of (sym end_is) ∙ sym none)
      (ap (λ (p : PortName). is_some (port_on old p)) (sym end_is) ∙ here)
      (subst (λ (p : PortName). p.line < length old.links) at less) many
      (subst (λ (p : PortName). Brings m (end_reached plan end0 bytes) p bytes u old c xs new d ys) at
      (subst (λ (p : PortName). Brings m p port bytes u old c xs new d ys) end_is brings)))
      (λ gone.
      let left = brings.absent gone in
      lands_left plan m end0 bytes u old c xs new d ys left.1 left.2 left.3.many (not_there (sym gone)))
      (cases_Bool (is_some (port_on old end)))
  land_take (Err e) new d ys port stays none port_is less many brings = tt
