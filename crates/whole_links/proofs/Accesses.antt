-- What events make of the accesses of all links: of one link, or of none.
use Rattle.std.proofs.Common.{◌≡◌, ℕ, ◌==◌, Bool, true, false, List, [], ◌∷◌, length, refl, ap, sym, subst}
use Rattle.std.proofs.Common.{◌∙◌, ◌<◌, drop, arith, zero, suc}
use Rattle.std.proofs.lemmas.Bool.Decides.{nat_tests}
use Rattle.std.specs.Prelude.{Option, Some, None, slice_get, slice_set, if◌then◌else◌, ◌&&◌, nat_lt, IfSome, IfOk}
use Rattle.std.specs.Prelude.{Result, Ok, Err}
use Rattle.ide_types.specs.declared.direction.Direction.{Direction}
use Rattle.ide_types.specs.declared.direction.Direction.TheVariants.{Downstream, Upstream}
use Rattle.ide_types.specs.declared.port.PortName.{PortName}
use Rattle.ide_types.specs.Sub.{direction_number}
use Rattle.ide_types.specs.declared.interface.BarPlan.{BarPlan}
use Rattle.ide_types.specs.declared.plan.Plan.{Plan}
use Rattle.script_events.specs.declared.event.Event.TheVariants.{Reset, Forward}
use Rattle.event_verdicts.specs.declared.verdict.Verdict.{Verdict}
use Rattle.event_verdicts.specs.declared.verdict.Verdict.TheVariants as v
use Rattle.spec_keys.proofs.Tests.{same-true}
use Rattle.hop_queues.specs.declared.queue.HopTlp.{HopTlp}
use Rattle.hop_queues.specs.declared.queues.HopQueues.{HopQueues}
use Rattle.hop_queues.specs.{queue_of, with_queue}
use Rattle.trusted_memory.specs.declared.queue.WaitingRead.{WaitingRead}
use Rattle.guarded_memory.specs.Happenings.{Happened, AllReset, newest_happened}
use Rattle.guarded_memory.specs.Contents.{GuardedMemory, MmioLeads}
use Rattle.spec_links.specs.Hops.{clears_hop, is_forward_on}
use Rattle.link_stores.specs.declared.link.LinkAccesses.{LinkAccesses}
use Rattle.join_ends.specs.Turns.{hops_cleared}
use Rattle.join_ends.proofs.Turns.{reads_same, turn_at, rests_all, turn_then}
use Rattle.link_stores.specs.{reads_on, with_reads}
use Rattle.machine_ports.specs.Machine.{port_at}
use Rattle.spec_links.specs.Plan.{is_same_port}
use Rattle.ide_types.specs.Sub.{sent_direction}
use Rattle.ide_types.specs.declared.port.Side.{Side}
use Rattle.ide_types.specs.declared.port.Side.TheVariants.{Host, Device}
use Rattle.all_links.specs.{LinkEnds, IsThere}
use Rattle.all_links.specs.declared.links.Links.{Links}
use Rattle.all_links.specs.Interfaces.{interface_named}
use Rattle.all_links.specs.Accesses.{is_sending, AccessesTurn, carried_on_link, same_reads, same_floors, same_carried}
use Rattle.all_links.specs.Accesses.{device_draw, nothing_happens}
use Rattle.ide_types.specs.declared.memory.OutOfMemory.{OutOfMemory}
use Rattle.script_events.specs.declared.event.InterfaceEvent.{InterfaceEvent}
use Rattle.whole_links.specs.declared.whole.WholeLinks.{WholeLinks}
use Rattle.whole_links.specs.Whole.{HasAllAccesses}
use Rattle.std.specs.Option.{option_map_or}
use Rattle.interface_state.specs.Machine.{DeviceTdi}
use Rattle.all_links.proofs.Asked.{if_some, is_found}
use Rattle.whole_links.specs.Accesses.{takes_read, is_sealed, happens_at, bars_named, floors_if, floors_set}
use Rattle.whole_links.specs.Accesses.{reset_happens, carried_after_event, reads_after_event, AccessesInterface}
use Rattle.whole_links.specs.Besides.{answer_event}

-- ---- answers to reads

keeps_reads : (plan : Plan) (side : Side) (link : ℕ) (w : Verdict) (port : PortName) (ws : List WaitingRead)
    → takes_read w ≡ false → is_sending w ≡ true → reads_after_event plan (answer_event side link) w port ws ≡ ws
keeps_reads plan Host link w port ws keeps sends = grind arith
keeps_reads plan Device link w port ws keeps sends = grind arith

takes_reads : (plan : Plan) (side : Side) (link : ℕ) (w : Verdict) (port : PortName) (ws : List WaitingRead)
    → takes_read w ≡ true
    → reads_after_event plan (answer_event side link) w port ws
    ≡ (if is_same_port (port_at side link) port then drop 1 ws else ws)
takes_reads plan Host link w port ws takes = grind arith
takes_reads plan Device link w port ws takes = grind arith

pub answer_keeps : (plan : Plan) (xs : List LinkAccesses) (side : Side) (link : ℕ) (w : Verdict)
    → takes_read w ≡ false → is_sending w ≡ true
    → AccessesTurn (reads_after_event plan (answer_event side link) w) same_floors nothing_happens same_carried xs xs
answer_keeps plan xs side link w keeps sends =
    rests_all _ same_floors nothing_happens same_carried xs (λ k. record {
      reads_rest = λ q ws. keeps_reads plan side link w (port_at q k) ws keeps sends;
      floors_rest = λ ns. refl;
      nothing = λ older. refl;
      carried_rest = λ d ts. refl;
    })

-- the first of those that wait at the port alone
abbrev first_taken : Side → LinkAccesses → LinkAccesses
first_taken side a = with_reads side (drop 1 (reads_on side a)) a

taken_on : (side q : Side) (link : ℕ) (a : LinkAccesses)
    → reads_on q (first_taken side a)
    ≡ (if is_same_port (port_at side link) (port_at q link) then drop 1 (reads_on q a) else reads_on q a)
taken_on Host Host link a = sym (ap (λ (b : Bool). if b then drop 1 a.host_reads else a.host_reads) (same-true link))
taken_on Host Device link a = refl
taken_on Device Host link a = refl
taken_on Device Device link a =
    sym (ap (λ (b : Bool). if b then drop 1 a.device_reads else a.device_reads) (same-true link))

not_there : (b c : Bool) (ws : List WaitingRead) → c ≡ false → (if b && c then drop 1 ws else ws) ≡ ws
not_there true c ws other = ap (λ (b : Bool). if b then drop 1 ws else ws) other
not_there false c ws other = refl

floors_stay : (side : Side) (a : LinkAccesses) → (first_taken side a).floors ≡ a.floors
floors_stay Host a = refl
floors_stay Device a = refl

memory_stays : (side : Side) (a : LinkAccesses) → (first_taken side a).guarded ≡ a.guarded
memory_stays Host a = refl
memory_stays Device a = refl

queues_stay : (side : Side) (a : LinkAccesses) → (first_taken side a).carried ≡ a.carried
queues_stay Host a = refl
queues_stay Device a = refl

pub answer_takes : (plan : Plan) (xs : List LinkAccesses) (side : Side) (link : ℕ) (a a' : LinkAccesses) (w : Verdict)
    → slice_get xs link ≡ Some a → a' ≡ with_reads side (drop 1 (reads_on side a)) a → takes_read w ≡ true
    → AccessesTurn (reads_after_event plan (answer_event side link) w) same_floors nothing_happens same_carried xs
    (slice_set xs link a')
answer_takes plan xs side link a a' w is after takes =
    let memory = ap (λ (x : LinkAccesses). x.guarded) after ∙ memory_stays side a in
    turn_at _ same_floors nothing_happens same_carried xs link a a' is
    (record {
      reads_are = λ q. ap (reads_on q) after ∙ taken_on side q link a
          ∙ sym (takes_reads plan side link w (port_at q link) (reads_on q a) takes);
      floors_are = ap (λ (x : LinkAccesses). x.floors) after ∙ floors_stay side a;
      sizes_are = ap (λ (g : GuardedMemory). g.sizes) memory;
      leads = subst (λ (g : GuardedMemory). MmioLeads a.guarded [] g) (sym memory) (λ older left. left);
      carried_are = λ d. ap (λ (x : LinkAccesses). (queue_of x.carried d).tlps) after
          ∙ ap (λ (q : HopQueues). (queue_of q d).tlps) (queues_stay side a);
    })
    (λ k other. record {
      reads_rest = λ q ws. takes_reads plan side link w (port_at q k) ws takes
          ∙ not_there (sent_direction side == sent_direction q) (link == k) ws other;
      floors_rest = λ ns. refl;
      nothing = λ older. refl;
      carried_rest = λ d ts. refl;
    })

-- ---- what happens to the memory of devices

pub accesses_there : (s : WholeLinks) (o : Option (ℕ × ℕ)) → HasAllAccesses s
    → IfSome o (λ (at : ℕ × ℕ). IsThere s.links.ends at.0 at.1) → IfSome o (λ (at : ℕ × ℕ). at.0 < length s.accesses)
accesses_there s None whole here = tt
accesses_there s (Some at) whole here = subst (λ (n : ℕ). at.0 < n) (sym whole) here.link_there

-- the base address registers that the topology lays out
pub bars_at : (s : Links) (n : ℕ) (at : ℕ × ℕ) (bars : List BarPlan)
    → Some at ≡ interface_named s.keeper.interfaces s.ends.links n
    → IfSome (slice_get s.ends.links at.0) (λ (l : LinkEnds). IfSome (slice_get l.device.interfaces.interfaces at.1)
    (λ (t : DeviceTdi). bars ≡ t.plan.bars)) → bars ≡ bars_named s n
bars_at s n at bars named says =
    let x = is_found s.keeper.interfaces s.ends n at named in
    if_some (λ (t : DeviceTdi). bars ≡ t.plan.bars) (slice_get x.ends_at.device.interfaces.interfaces at.1) x.tdi
    x.tdi_there
    (if_some (λ (l : LinkEnds). IfSome (slice_get l.device.interfaces.interfaces at.1)
    (λ (t : DeviceTdi). bars ≡ t.plan.bars)) (slice_get s.ends.links at.0) x.ends_at x.link_there says)
    ∙ sym (ap (λ (o : Option DeviceTdi). option_map_or (λ (t : DeviceTdi). t.plan.bars) o []) x.named_is)

pub happens_here : (happens : Bool) (o : Option (ℕ × ℕ)) (which : ℕ → Happened) (at : ℕ × ℕ) (xs : List LinkAccesses)
    (a a' : LinkAccesses) → happens ≡ true → Some at ≡ o → slice_get xs at.0 ≡ Some a
    → a' ≡ record a { guarded = a'.guarded } → a'.guarded.sizes ≡ a.guarded.sizes
    → MmioLeads a.guarded (Some (which at.1) ∷ []) a'.guarded
    → AccessesTurn same_reads same_floors (happens_at happens o which) same_carried xs (slice_set xs at.0 a')
happens_here happens o which at xs a a' happens_is named is after sizes leads =
    turn_at same_reads same_floors (happens_at happens o which) same_carried xs at.0 a a' is
    (record {
      reads_are = λ side. reads_same side a a' (ap (λ (x : LinkAccesses). x.host_reads) after)
          (ap (λ (x : LinkAccesses). x.device_reads) after);
      floors_are = ap (λ (x : LinkAccesses). x.floors) after;
      sizes_are = sizes;
      leads = subst (λ (hs : List (Option Happened)). MmioLeads a.guarded hs a'.guarded)
          (sym (happens_are at.0 ∙ ap (λ (b : Bool). if b then Some (which at.1) ∷ [] else []) (same-true at.0))) leads;
      carried_are = λ d. ap (λ (x : LinkAccesses). (queue_of x.carried d).tlps) after;
    })
    (λ k other. record {
      reads_rest = λ side ws. refl;
      floors_rest = λ ns. refl;
      nothing = λ older.
          ap (λ (hs : List (Option Happened)). newest_happened hs older)
          (happens_are k ∙ ap (λ (b : Bool). if b then Some (which at.1) ∷ [] else []) other);
      carried_rest = λ d ts. refl;
    })
  where
    happens_are : (k : ℕ) → happens_at happens o which k ≡ (if at.0 == k then Some (which at.1) ∷ [] else [])
    happens_are k = (λ j. happens_at (happens_is j) (sym named j) which k)

-- ---- the floor of an interface that came into RUN

pub floors_here : (s : Links) (i : ℕ) (came : Bool) (at : ℕ × ℕ) (draw : ℕ) (xs : List LinkAccesses)
    (a a' : LinkAccesses) → came ≡ true → Some at ≡ interface_named s.keeper.interfaces s.ends.links i
    → slice_get xs at.0 ≡ Some a → draw ≡ device_draw s i at.0 → a' ≡ record a { floors = slice_set a.floors at.1 draw }
    → AccessesTurn same_reads (floors_if came s i) nothing_happens same_carried xs (slice_set xs at.0 a')
floors_here s i came at draw xs a a' came_is named is draw_is after =
    turn_at same_reads _ nothing_happens same_carried xs at.0 a a' is
    (record {
      reads_are = λ side. reads_same side a a' (ap (λ (x : LinkAccesses). x.host_reads) after)
          (ap (λ (x : LinkAccesses). x.device_reads) after);
      floors_are = ap (λ (x : LinkAccesses). x.floors) after ∙ (ap (λ (n : ℕ). slice_set a.floors at.1 n) draw_is
          ∙ sym (floors_are at.0 a.floors
          ∙ ap (λ (b : Bool). if b then slice_set a.floors at.1 (device_draw s i at.0) else a.floors)
          (same-true at.0)));
      sizes_are = ap (λ (x : LinkAccesses). x.guarded.sizes) after;
      leads = subst (λ (g : GuardedMemory). MmioLeads a.guarded [] g)
          (sym (ap (λ (x : LinkAccesses). x.guarded) after)) (λ older left. left);
      carried_are = λ d. ap (λ (x : LinkAccesses). (queue_of x.carried d).tlps) after;
    })
    (λ k other. record {
      reads_rest = λ side ws. refl;
      floors_rest = λ ns. floors_are k ns
          ∙ ap (λ (b : Bool). if b then slice_set ns at.1 (device_draw s i at.0) else ns) other;
      nothing = λ older. refl;
      carried_rest = λ d ts. refl;
    })
  where
    floors_are : (k : ℕ) (ns : List ℕ)
        → floors_if came s i k ns ≡ (if at.0 == k then slice_set ns at.1 (device_draw s i at.0) else ns)
    floors_are k ns = λ j. if came_is j then floors_set s i (sym named j) k ns else ns

-- ---- a reset

none_on : (side : Side) (a : LinkAccesses) → a.host_reads ≡ [] → a.device_reads ≡ [] → reads_on side a ≡ []
none_on Host a host device = host
none_on Device a host device = device

-- of the link alone
resets_at : (plan : Plan) (ends : List PortName) (xs : List LinkAccesses) (link : ℕ) (a a' : LinkAccesses)
    → slice_get xs link ≡ Some a → a' ≡ record a { host_reads = []; device_reads = []; guarded = a'.guarded }
    → a'.guarded.sizes ≡ a.guarded.sizes → MmioLeads a.guarded (Some AllReset ∷ []) a'.guarded
    → AccessesTurn (reads_after_event plan (Reset link ends) (v.Reset link)) same_floors
    (reset_happens (v.Reset link)) same_carried xs (slice_set xs link a')
resets_at plan ends xs link a a' is after sizes leads =
    turn_at _ same_floors _ same_carried xs link a a' is
    (record {
      reads_are = λ side. none_on side a' (ap (λ (x : LinkAccesses). x.host_reads) after)
          (ap (λ (x : LinkAccesses). x.device_reads) after)
          ∙ sym (ap (λ (b : Bool). if b then [] else reads_on side a) (same-true link));
      floors_are = ap (λ (x : LinkAccesses). x.floors) after;
      sizes_are = sizes;
      leads = subst (λ (hs : List (Option Happened)). MmioLeads a.guarded hs a'.guarded)
          (sym (ap (λ (b : Bool). if b then Some AllReset ∷ [] else []) (same-true link))) leads;
      carried_are = λ d. ap (λ (x : LinkAccesses). (queue_of x.carried d).tlps) after;
    })
    (λ k other. record {
      reads_rest = λ side ws. ap (λ (b : Bool). if b then [] else ws) other;
      floors_rest = λ ns. refl;
      nothing = λ older.
          ap (λ (b : Bool). newest_happened (if b then Some AllReset ∷ [] else []) older) other;
      carried_rest = λ d ts. refl;
    })

-- nothing waits where there is no link
none_past : (xs : List LinkAccesses) (k : ℕ) (d : Direction) → nat_lt k (length xs) ≡ false → carried_on_link xs k d
    ≡ []
none_past [] k d past = refl
none_past (x ∷ xs) zero d past = absurd (grind (arith, nat_tests, past))
none_past (x ∷ xs) (suc k) d past = none_past xs k d (grind (arith, nat_tests, past))

-- what waits where the hops of all links were cleared that these ends cut
all_cleared : (ends : List PortName) (xs : List LinkAccesses) (k : ℕ) (d : Direction)
    → hops_cleared ends (length xs) k d (carried_on_link xs k d)
    ≡ (if clears_hop ends k then [] else carried_on_link xs k d)
all_cleared ends xs k d = by (nat_lt k (length xs)) refl
  where
    either : (b : Bool) (ts : List HopTlp) → ts ≡ [] → ts ≡ (if b then [] else ts)
    either true ts none = none
    either false ts none = refl

    by : (b : Bool) → nat_lt k (length xs) ≡ b → (if b && clears_hop ends k then [] else carried_on_link xs k d)
        ≡ (if clears_hop ends k then [] else carried_on_link xs k d)
    by true is = refl
    by false is = either (clears_hop ends k) (carried_on_link xs k d) (none_past xs k d is)

pub reset_turns : (plan : Plan) (ends : List PortName) (xs zs : List LinkAccesses) (link count : ℕ)
    (a a' : LinkAccesses) (w : Verdict) → w ≡ v.Reset link → count ≡ length xs
    → slice_get xs link ≡ Some a → a' ≡ record a { host_reads = []; device_reads = []; guarded = a'.guarded }
    → a'.guarded.sizes ≡ a.guarded.sizes → MmioLeads a.guarded (Some AllReset ∷ []) a'.guarded
    → AccessesTurn same_reads same_floors nothing_happens (hops_cleared ends count) (slice_set xs link a') zs
    → AccessesTurn (reads_after_event plan (Reset link ends) w) same_floors (reset_happens w)
    (carried_after_event (Reset link ends) w) xs zs
reset_turns plan ends xs zs link count a a' w says many is after sizes leads cleared =
    subst (λ (x : Verdict). AccessesTurn (reads_after_event plan (Reset link ends) x) same_floors (reset_happens x)
    (carried_after_event (Reset link ends) x) xs zs) (sym says)
    (let turn = turn_then (resets_at plan ends xs link a a' is after sizes leads) (hops_cleared ends count) zs cleared
    in
    record {
      many = turn.many;
      reads = turn.reads;
      floors = turn.floors;
      sizes = turn.sizes;
      bytes = turn.bytes;
      carried = λ k d. turn.carried k d
          ∙ (ap (λ (n : ℕ). hops_cleared ends n k d (carried_on_link xs k d)) many ∙ all_cleared ends xs k d);
    })

-- of no link
pub reset_keeps : (plan : Plan) (ends : List PortName) (xs : List LinkAccesses) (link : ℕ) (w : Verdict) → w ≡ v.Nothing
    → AccessesTurn (reads_after_event plan (Reset link ends) w) same_floors (reset_happens w)
    (carried_after_event (Reset link ends) w) xs xs
reset_keeps plan ends xs link w says =
    subst (λ (x : Verdict). AccessesTurn (reads_after_event plan (Reset link ends) x) same_floors (reset_happens x)
    (carried_after_event (Reset link ends) x) xs xs) (sym says)
    (rests_all _ same_floors _ _ xs (λ k. record {
      reads_rest = λ side ws. refl;
      floors_rest = λ ns. refl;
      nothing = λ older. refl;
      carried_rest = λ d ts. refl;
    }))

-- ---- what is forwarded

keeps_tlps : (link : ℕ) (way : Direction) (w : Verdict) (k : ℕ) (d : Direction) (ts : List HopTlp)
    → is_sealed w ≡ false → is_sending w ≡ true → carried_after_event (Forward link way) w k d ts ≡ ts
keeps_tlps link way w k d ts stays sends = grind arith

takes_tlps : (link : ℕ) (way : Direction) (w : Verdict) (k : ℕ) (d : Direction) (ts : List HopTlp) → is_sealed w ≡ true
    → carried_after_event (Forward link way) w k d ts ≡ (if is_forward_on k d (Forward link way) then drop 1 ts else ts)
takes_tlps link way w k d ts sealed = grind arith

pub forward_keeps : (xs : List LinkAccesses) (link : ℕ) (way : Direction) (w : Verdict) → is_sealed w ≡ false
    → is_sending w ≡ true
    → AccessesTurn same_reads same_floors nothing_happens (carried_after_event (Forward link way) w) xs xs
forward_keeps xs link way w stays sends =
    rests_all same_reads same_floors nothing_happens _ xs (λ k. record {
      reads_rest = λ side ws. refl;
      floors_rest = λ ns. refl;
      nothing = λ older. refl;
      carried_rest = λ d ts. keeps_tlps link way w k d ts stays sends;
    })

-- one way loses its first
first_left : (q : HopQueues) (way d : Direction)
    → (queue_of (with_queue q way (record (queue_of q way) { tlps = drop 1 (queue_of q way).tlps })) d).tlps
    ≡ (if direction_number way == direction_number d then drop 1 (queue_of q d).tlps else (queue_of q d).tlps)
first_left q Downstream Downstream = refl
first_left q Downstream Upstream = refl
first_left q Upstream Downstream = refl
first_left q Upstream Upstream = refl

pub forward_takes : (xs : List LinkAccesses) (link : ℕ) (way : Direction) (a a' : LinkAccesses) (w : Verdict)
    → slice_get xs link ≡ Some a → a' ≡ record a {
      carried = with_queue a.carried way
          (record (queue_of a.carried way) { tlps = drop 1 (queue_of a.carried way).tlps });
    }
    → is_sealed w ≡ true
    → AccessesTurn same_reads same_floors nothing_happens (carried_after_event (Forward link way) w) xs
    (slice_set xs link a')
forward_takes xs link way a a' w is after sealed =
    turn_at same_reads same_floors nothing_happens _ xs link a a' is
    (record {
      reads_are = λ side. reads_same side a a' (ap (λ (x : LinkAccesses). x.host_reads) after)
          (ap (λ (x : LinkAccesses). x.device_reads) after);
      floors_are = ap (λ (x : LinkAccesses). x.floors) after;
      sizes_are = ap (λ (x : LinkAccesses). x.guarded.sizes) after;
      leads = subst (λ (g : GuardedMemory). MmioLeads a.guarded [] g)
          (sym (ap (λ (x : LinkAccesses). x.guarded) after)) (λ older left. left);
      carried_are = λ d. ap (λ (x : LinkAccesses). (queue_of x.carried d).tlps) after ∙ (first_left a.carried way d
          ∙ sym (takes_tlps link way w link d (queue_of a.carried d).tlps sealed
          ∙ ap (λ (b : Bool). if b && (direction_number way == direction_number d) then drop 1
          (queue_of a.carried d).tlps
          else (queue_of a.carried d).tlps) (same-true link)));
    })
    (λ k other. record {
      reads_rest = λ side ws. refl;
      floors_rest = λ ns. refl;
      nothing = λ older. refl;
      carried_rest = λ d ts. takes_tlps link way w k d ts sealed
          ∙ ap (λ (b : Bool). if b && (direction_number way == direction_number d) then drop 1 ts else ts) other;
    })

-- ---- events on interfaces that leave accesses

pub quiet_or : (r : Result (Option Verdict) OutOfMemory) (event e : InterfaceEvent) (old new : WholeLinks) → event ≡ e
    → ((verdict : Verdict) → AccessesInterface e verdict old new)
    → IfOk r (λ o. IfSome o (λ verdict. AccessesInterface event verdict old new))
quiet_or (Ok (Some verdict)) event e old new is quiet =
    subst (λ (y : InterfaceEvent). AccessesInterface y verdict old new) (sym is) (quiet verdict)
quiet_or (Ok None) event e old new is quiet = tt
quiet_or (Err memory) event e old new is quiet = tt
