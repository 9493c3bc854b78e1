-- Events on interfaces. One is found by its number among the devices of all links; after an event on it the ports and
-- the manager's streams are as before, since only the interfaces of its device change, and what the manager knows of
-- it.
use Rattle.all_links.proofs.Terms.{length-set, ◌≡◌, ℕ, suc, zero, ◌+◌, ◌<◌, List, [], ◌∷◌, length, refl, ap, sym, ◌∙◌}
use Rattle.all_links.proofs.Terms.{subst, arith, nat_tests, Option, Some, None, IsSome, slice_get, slice_set, ◌-◌}
use Rattle.all_links.proofs.Terms.{option_and_then, none-some, same_Some, slice_get_within, Verdict, StreamState}
use Rattle.all_links.proofs.Terms.{LinkEnds, Links, InterfacesView, KeeperView, ports_in, IsBounded, links_state}
use Rattle.all_links.proofs.Terms.{EndsIfAnswered, Stepped, Interface, answer_of_links, EndsView, peer_live, Plan}
use Rattle.all_links.proofs.Terms.{AreLinks, Side, Host, Device, port_in, state_of, nat_lt, true, ◌++◌, if◌then◌else◌}
use Rattle.all_links.proofs.Terms.{◌==◌, Bool, false, true-lt, nat_le}
use Rattle.line_arrivals.specs.{changed_at, in_sixteen, pair_ports, operated_on, HostKeeper, IsThere, CallsAtLink}
use Rattle.line_arrivals.specs.{AsksAtLink, place_on_links, code_behind, outcome_verdict, report_of}
use Rattle.all_links.specs.BesideAfter.{with_device}
use Rattle.interface_host.specs.declared.operation.PeerStream.{PeerStream}
use Rattle.std.specs.Prelude.{IfSome}
use Rattle.std.specs.Option.{option_map_or}
use Rattle.ide_types.specs.declared.sub.SubKind.TheVariants.{Pr}
use Rattle.ide_port.specs.{receiving_draw_in, UnitsGrow}
use Rattle.spec_interfaces.specs.Devices.{is_run}
use Rattle.interface_state.specs.declared.states.TdiState.{TdiState}
use Rattle.interface_state.specs.declared.states.TdiState.TheVariants.{ConfigUnlocked, ConfigLocked, Run, Error}
use Rattle.all_links.specs.Accesses.{planned_stream, device_draw, place_runs}
use Rattle.event_verdicts.specs.declared.verdict.Verdict.TheVariants as v
use Rattle.interface_state.specs.Machine.{DeviceTdi, Call, state_code}
use Rattle.interface_ends.specs.Replies.{DeviceTdis, called_at}
use Rattle.interface_host.specs.declared.operation.InterfaceOperation.{InterfaceOperation}
use Rattle.interface_host.specs.declared.operation.InterfaceOutcome.{InterfaceOutcome}
use Rattle.interface_host.specs.declared.operation.InterfaceOutcome.TheVariants.{Next, Done, Refused}
use Rattle.interface_host.specs.Views.{HostTdi}
use Rattle.interface_ends.specs.Keepers.{Ended}
use Rattle.script_events.specs.declared.event.InterfaceEvent.{InterfaceEvent}
use Rattle.script_events.specs.declared.event.Loss.{Loss}
use Rattle.all_links.specs.Interfaces.{interface_named, named_device_interface, interface_of_ends, ended_in}
use Rattle.all_links.specs.Interfaces.{ended_if_there, ended_on_link, verdict_in, has_peer_in, managed_peer_stream}
use Rattle.all_links.specs.Interfaces.{peer_verdict_in, has_peer_if_there}
use Rattle.all_links.specs.Besides.{op_verdict}
use Rattle.all_links.proofs.Finds.{answers, nothing_changes, only_says}
use Rattle.std.proofs.Common.{◌&&◌}
use Rattle.std.proofs.lemmas.Bool.{and_parts}
use Rattle.line_arrivals.proofs.{peer_line_is, is_located, changed_is, there, Grows, KeepsEnds, as_before, bounded_then}
use Rattle.line_arrivals.proofs.{links_grow, links_kept}
use Rattle.ide_types.specs.declared.plan.PeerPlan.{PeerPlan}
use Rattle.spec_interfaces.specs.Peers.{has_peer}
use Rattle.ide_port.proofs.Units.{stays}

pub if_some : {A : Type 0} (P : A → Type 0) (o : Option A) (x : A) → o ≡ Some x → IfSome o P → P x
if_some P o x is p = subst (λ y. IfSome y P) is p

-- ---- where an interface is

named_parts : (m : InterfacesView) (ends : List LinkEnds) (n : ℕ) (at : ℕ × ℕ) → interface_named m ends n ≡ Some at
    → (place_on_links 0 n ends ≡ Some at) × (n < length m.interfaces)
named_parts m ends n at is = grind (arith, nat_tests)

interface_there : (ends : List LinkEnds) (at : ℕ × ℕ) {l : LinkEnds} {tdi : DeviceTdi} → slice_get ends at.0 ≡ Some l
    → slice_get l.device.interfaces.interfaces at.1 ≡ Some tdi → interface_of_ends ends at ≡ Some tdi
interface_there ends at link_there tdi_there = rw link_there tdi_there

-- the interface of this number, at its device and at the manager
pub record IsFound (m : InterfacesView) (v : EndsView) (n : ℕ) (at : ℕ × ℕ) : Type 0 where
  pub ends_at : LinkEnds
  pub tdi : DeviceTdi
  pub kept : HostTdi
  pub link_there : slice_get v.links at.0 ≡ Some ends_at
  pub tdi_there : slice_get ends_at.device.interfaces.interfaces at.1 ≡ Some tdi
  pub kept_there : slice_get m.interfaces n ≡ Some kept
  pub named_is : named_device_interface m v.links n ≡ Some tdi

pub is_found : (m : InterfacesView) (v : EndsView) (n : ℕ) (at : ℕ × ℕ) → Some at ≡ interface_named m v.links n
    → IsFound m v n at
is_found m v n at named =
    let parts = named_parts m v.links n at (sym named) in
    let x = is_located 0 n v.links at parts.0 in
    let place : x.place ≡ at.0 = (let zeroes : x.place ≡ 0 + x.place = omega arith in zeroes) ∙ x.link_is in
    let link_there : slice_get v.links at.0 ≡ Some x.ends_at =
    ap (λ (i : ℕ). slice_get v.links i) (sym place) ∙ x.there_is in
    let t = there x.ends_at.device.interfaces.interfaces at.1 x.within in
    let k = there m.interfaces n parts.1 in
    record {
      ends_at = x.ends_at;
      tdi = t.0;
      kept = k.0;
      link_there = link_there;
      tdi_there = t.1;
      kept_there = k.1;
      named_is = ap (λ (o : Option (ℕ × ℕ)). option_and_then (interface_of_ends v.links) o) (sym named)
          ∙ interface_there v.links at link_there t.1;
    }

pub is_placed : (v : EndsView) (n : ℕ) (o : Option (ℕ × ℕ)) → o ≡ place_on_links 0 n v.links
    → IfSome o (λ (at : ℕ × ℕ). IsThere v at.0 at.1)
is_placed v n None is = tt
is_placed v n (Some at) is =
    let x = is_located 0 n v.links at (sym is) in
    let place : at.0 ≡ x.place = omega (arith, x.link_is) in
    let link_there = ap (slice_get v.links) place ∙ x.there_is in
    record {
      link_there = slice_get_within v.links at.0 x.ends_at link_there;
      place_there = λ l there.
          subst (λ (y : LinkEnds). at.1 < length y.device.interfaces.interfaces)
          (same_Some x.ends_at l (sym link_there ∙ there)) x.within;
    }

pub is_there : (m : InterfacesView) (v : EndsView) (n : ℕ) (o : Option (ℕ × ℕ)) → o ≡ interface_named m v.links n
    → IfSome o (λ (at : ℕ × ℕ). IsThere v at.0 at.1)
is_there m v n None named = tt
is_there m v n (Some at) named = is_placed v n (Some at) (sym (named_parts m v.links n at (sym named)).0)

-- ends that have as many interfaces at a link locate alike
pub located_set : (link n : ℕ) (ends : List LinkEnds) (i : ℕ) (l l' : LinkEnds) → slice_get ends i ≡ Some l
    → length l'.device.interfaces.interfaces ≡ length l.device.interfaces.interfaces
    → place_on_links link n (slice_set ends i l') ≡ place_on_links link n ends
located_set link n [] i l l' is many = refl
located_set link n (x ∷ ls) zero l l' is many =
    let same = many ∙ ap (λ (y : LinkEnds). length y.device.interfaces.interfaces) (sym (same_Some x l is)) in
    (λ j. if nat_lt n (same j) then Some (link, n) else place_on_links (link + 1) (n - same j) ls)
located_set link n (x ∷ ls) (suc i) l l' is many =
    let held = length x.device.interfaces.interfaces in
    ap (λ (o : Option (ℕ × ℕ)). if nat_lt n held then Some (link, n) else o)
    (located_set (link + 1) (n - held) ls i l l' is many)

pub place_kept : (m : InterfacesView) (v v' : EndsView) (n link : ℕ) (l l' : LinkEnds) → slice_get v.links link ≡ Some l
    → v' ≡ record v { links = slice_set v.links link l' }
    → length l'.device.interfaces.interfaces ≡ length l.device.interfaces.interfaces
    → interface_named m v'.links n ≡ interface_named m v.links n
place_kept m v v' n link l l' is after many =
    ap (λ (w : EndsView). interface_named m w.links n) after
    ∙ ap (λ (o : Option (ℕ × ℕ)). if nat_lt n (length m.interfaces) then (if nat_le n 255 then o else None) else None)
    (located_set 0 n v.links link l l' is many)

-- ---- only interfaces change

abbrev pub with_interfaces : DeviceTdis → LinkEnds → LinkEnds
with_interfaces d l = record l { device = record l.device { interfaces = d } }

pub set_back : {A : Type 0} (xs : List A) (i : ℕ) (x : A) → slice_get xs i ≡ Some x → slice_set xs i x ≡ xs
set_back [] i x is = refl
set_back (y ∷ xs) zero x is = ap (λ (z : _). z ∷ xs) (sym (same_Some y x is))
set_back (y ∷ xs) (suc i) x is = ap (λ (zs : List _). y ∷ zs) (set_back xs i x is)

keeps_interfaces : (d : DeviceTdis) (l : LinkEnds) → KeepsEnds l (with_interfaces d l)
keeps_interfaces d l = record { host = as_before l.host; device = as_before l.device.port; requester = refl }

units_same : (d : DeviceTdis) (s : Side) (l : LinkEnds) → UnitsGrow 0 (port_in s l) (port_in s (with_interfaces d l))
units_same d Host l = stays 0 l.host
units_same d Device l = stays 0 l.device.port

-- the ports are seen, and not the interfaces
ports_same : (ls : List LinkEnds) (i : ℕ) (l : LinkEnds) (d : DeviceTdis) → slice_get ls i ≡ Some l
    → ports_in (slice_set ls i (with_interfaces d l)) ≡ ports_in ls
ports_same [] i l d is = refl
ports_same (x ∷ ls) zero l d is =
    ap (λ (y : LinkEnds). y.host.states ∷ y.device.port.states ∷ ports_in ls) (sym (same_Some x l is))
ports_same (x ∷ ls) (suc i) l d is =
    ap (λ (rows : List (List StreamState)). x.host.states ∷ x.device.port.states ∷ rows) (ports_same ls i l d is)

pub interfaces_change : (plan : Plan) (old new : Links) (link : ℕ) (l : LinkEnds) (d : DeviceTdis) (ends : EndsView)
    (k : HostKeeper) (verdict : Verdict) (e : InterfaceEvent)
    → Some verdict ≡ answer_of_links old e → slice_get old.ends.links link ≡ Some l
    → ends ≡ with_device old.ends link l d → k.keys ≡ old.keeper.keys
    → new ≡ record old { ends = ends; keeper = k; steps = old.steps + 1 }
    → IsBounded old.ends old.packets.packets old.steps → EndsIfAnswered plan verdict old new (Interface e)
interfaces_change plan old new link l d ends k verdict e due is ends_is keys new_is bounded =
    subst (λ (q : Links). EndsIfAnswered plan verdict old q (Interface e)) (sym new_is)
    (subst (λ (v : EndsView). EndsIfAnswered plan verdict old
    (record old { ends = v; keeper = k; steps = old.steps + 1 })
    (Interface e)) (sym ends_is)
    (record {
      counted = refl;
      many = length-set old.ends.links link (with_interfaces d l);
      regions = refl;
      bounded = bounded_then 0 old.ends after old.packets.packets old.packets.packets old.steps (omega arith) bounded
          (subst (λ (ls : List LinkEnds). Grows 0 old.ends (record old.ends { links = ls })) same
          (links_grow 0 old.ends link (with_interfaces d) (λ s y at. units_same d s y)))
          bounded.sealed_here;
      ends = λ b by h links stands.
          let step = sym (answers old due b plan by (links_state plan old)) in
          let ports : ports_in after.links ≡ ports_in old.ends.links = ports_same old.ends.links link l d is in
          record {
            verdict_is = ap (λ (x : Stepped). x.0) step;
            state_is = (λ i. state_of plan after (keys i) old.packets.packets)
                ∙ (ap (λ (ps : List (List StreamState)). record (links_state plan old) {
                  ports = in_sixteen ps ++ ports_in old.ends.near ++ pair_ports old.ends.pairs;
                }) ports
                ∙ ap (λ (x : Stepped). x.1) step);
            links = subst (λ (j : KeeperView). AreLinks plan after j) (sym keys)
                (subst (λ (ls : List LinkEnds). AreLinks plan (record old.ends { links = ls }) old.keeper.keys) same
                (links_kept plan old.ends old.keeper.keys links link (with_interfaces d)
                (λ y at. keeps_interfaces d y)));
          };
    }))
  where
    after : EndsView
    after = with_device old.ends link l d

    same : changed_at old.ends.links link (with_interfaces d) ≡ after.links
    same = changed_is old.ends.links link (with_interfaces d) l is

-- a call of the interface
pub called : (plan : Plan) (old : Links) (n : ℕ) (at : ℕ × ℕ) (call : Call) (code : ℕ) (ends : EndsView) (new : Links)
    (verdict : Verdict) (e : InterfaceEvent) (w : ℕ → Verdict)
    → Some at ≡ interface_named old.keeper.interfaces old.ends.links n → CallsAtLink old.ends at.0 at.1 call code ends
    → ((tdi : DeviceTdi) → named_device_interface old.keeper.interfaces old.ends.links n ≡ Some tdi
    → Some (w (code_behind tdi call)) ≡ answer_of_links old e)
    → verdict ≡ w code → new ≡ record old { ends = ends; steps = old.steps + 1 }
    → IsBounded old.ends old.packets.packets old.steps → EndsIfAnswered plan verdict old new (Interface e)
called plan old n at call code ends new verdict e w named calls due says new_is bounded =
    let x = is_found old.keeper.interfaces old.ends n at named in
    let a = calls x.ends_at x.link_there in
    interfaces_change plan old new at.0 x.ends_at (called_at x.ends_at.device.interfaces at.1 x.tdi call) ends
    old.keeper verdict e
    (ap (λ (y : Verdict). Some y) (says ∙ ap w (a.2.code_is x.tdi x.tdi_there)) ∙ due x.tdi x.named_is) x.link_there
    (a.1 ∙ ap (λ (y : LinkEnds). record old.ends { links = slice_set old.ends.links at.0 y })
    (a.2.ends x.tdi x.tdi_there)) refl new_is bounded

-- ---- operations

-- on no interface
pub asked_nowhere : {verdict : Verdict} {old new : Links} (plan : Plan) (n : ℕ) (o : InterfaceOperation)
    (loss : Option Loss)
    (e : InterfaceEvent) → answer_of_links old e ≡ op_verdict old n o loss
    → None ≡ interface_named old.keeper.interfaces old.ends.links n
    → verdict ≡ v.Nothing → new ≡ record old { steps = old.steps + 1 }
    → IsBounded old.ends old.packets.packets old.steps → EndsIfAnswered plan verdict old new (Interface e)
asked_nowhere {verdict} {old} {new} plan n o loss e same nowhere says is bounded =
    only_says plan e
    (ap (λ (p : Option (ℕ × ℕ)). verdict_in n o loss (ended_if_there old.keeper old.ends n o loss p)) nowhere ∙ sym
    same) says
    is bounded

-- a stream between devices that the plan has has a byte for its ID
peer_small : (plan : Plan) (v : EndsView) (k : KeeperView) (line stream : ℕ) (o : Option (ℕ × ℕ)) → AreLinks plan v k
    → has_peer_if_there v line stream o ≡ true → stream < 256
peer_small plan v k line stream None links has = absurd cc
peer_small plan v k line stream (Some at) links has =
    (peer_line_is plan at.0 line stream links.fits
    (sym (ap (λ (ps : List PeerPlan). has_peer ps at.0 line stream) links.peers_are) ∙ has)).id_most

no_such : (plan : Plan) (v : EndsView) (k : KeeperView) (line stream : ℕ) (o : Option (ℕ × ℕ)) → AreLinks plan v k
    → (nat_lt stream 256 && has_peer_if_there v line stream o) ≡ false → has_peer_if_there v line stream o ≡ false
no_such plan v k line stream o links none = by (has_peer_if_there v line stream o) refl
  where
    by : (b : Bool) → has_peer_if_there v line stream o ≡ b → b ≡ false
    by false is = refl
    by true is =
        let small = peer_small plan v k line stream o links is in
        let low : nat_lt stream 256 ≡ true = grind (arith, nat_tests, small) in
        (λ i. sym low i && sym is i) ∙ none

-- of a stream between devices that is not there
pub no_peer : {verdict : Verdict} {old new : Links} (plan : Plan) (n line stream : ℕ) (o : InterfaceOperation)
    (loss : Option Loss) (e : InterfaceEvent)
    → peer_verdict_in old.keeper old.ends n line stream o loss ≡ answer_of_links old e
    → (nat_lt stream 256 && has_peer_in old.keeper old.ends n line stream) ≡ false → verdict ≡ v.Nothing
    → new ≡ record old { steps = old.steps + 1 } → IsBounded old.ends old.packets.packets old.steps
    → EndsIfAnswered plan verdict old new (Interface e)
no_peer {verdict} {old} {new} plan n line stream o loss e same none says is bounded =
    nothing_changes plan (Interface e) says is bounded
    (λ b by h links stands. answers old
    (sym (ap (λ (b : Bool). if b then verdict_in n o loss (ended_in old.keeper old.ends n o loss) else Some v.Nothing)
    (no_such plan old.ends old.keeper.keys line stream (interface_named old.keeper.interfaces old.ends.links n) links
    none)) ∙ same) b plan by _)

-- what it came to at both ends has the verdict that it is due
record CameTo (old : Links) (n : ℕ) (o : InterfaceOperation) (loss : Option Loss) (outcome : InterfaceOutcome)
    (k : HostKeeper) :
    Type 0 where
  ended : Ended
  manager_is : k.interfaces ≡ ended.manager
  due_is : outcome_verdict n loss (report_of o ended) outcome ≡ op_verdict old n o loss

came_to : (old : Links) (n : ℕ) (at : ℕ × ℕ) (o : InterfaceOperation) (loss : Option Loss) (outcome : InterfaceOutcome)
    (ends : EndsView) (k : HostKeeper) → Some at ≡ interface_named old.keeper.interfaces old.ends.links n
    → AsksAtLink old.ends at.0 old.keeper n o loss outcome ends k → CameTo old n o loss outcome k
came_to old n at o loss outcome ends k named asks =
    let x = is_found old.keeper.interfaces old.ends n at named in
    let e : Ended = operated_on n o loss old.keeper.keys (peer_live old.ends at.0) old.keeper.interfaces x.ends_at
    x.kept
    in
    let a = asks x.ends_at x.link_there in
    let is = a.2.ended x.kept x.kept_there in
    record {
      ended = e;
      manager_is = is.manager_is;
      due_is = ap (λ (z : InterfaceOutcome). outcome_verdict n loss (report_of o e) z) is.outcome_is
          ∙ sym (λ i. verdict_in n o loss (ended_on_link old.keeper old.ends n o loss at.0 (x.link_there i)
          (x.kept_there i)))
          ∙ ap (λ (p : Option (ℕ × ℕ)). verdict_in n o loss (ended_if_there old.keeper old.ends n o loss p)) named;
    }

-- a report does not say whether an operation has a verdict
any_report : (n : ℕ) (loss : Option Loss) (report other : List ℕ) (outcome : InterfaceOutcome)
    → IsSome (outcome_verdict n loss report outcome) → IsSome (outcome_verdict n loss other outcome)
any_report n loss report other Next some = some
any_report n loss report other (Done shown) some = refl
any_report n loss report other (Refused r) some = some

pub answered : (old : Links) (n : ℕ) (at : ℕ × ℕ) (o : InterfaceOperation) (loss : Option Loss)
    (outcome : InterfaceOutcome) (ends : EndsView) (k : HostKeeper) → Some at
    ≡ interface_named old.keeper.interfaces old.ends.links n → AsksAtLink old.ends at.0 old.keeper n o loss outcome ends
    k
    → IsSome (op_verdict old n o loss) → (report : List ℕ) → IsSome (outcome_verdict n loss report outcome)
answered old n at o loss outcome ends k named asks some report =
    let x = came_to old n at o loss outcome ends k named asks in
    any_report n loss (report_of o x.ended) report outcome
    (subst (λ (y : Option Verdict). IsSome y) (sym x.due_is) some)

pub operated_as : (plan : Plan) (old : Links) (n : ℕ) (at : ℕ × ℕ) (o : InterfaceOperation) (loss : Option Loss)
    (outcome : InterfaceOutcome) (ends : EndsView) (k : HostKeeper) (new : Links) (verdict : Verdict) (report : List ℕ)
    (event : InterfaceEvent) → answer_of_links old event ≡ op_verdict old n o loss
    → Some at ≡ interface_named old.keeper.interfaces old.ends.links n
    → AsksAtLink old.ends at.0 old.keeper n o loss outcome ends k → outcome_verdict n loss report outcome ≡ Some verdict
    →
    ((e : Ended) → k.interfaces ≡ e.manager → report ≡ report_of o e)
    → new ≡ record old { ends = ends; keeper = k; steps = old.steps + 1 }
    → IsBounded old.ends old.packets.packets old.steps → EndsIfAnswered plan verdict old new (Interface event)
operated_as plan old n at o loss outcome ends k new verdict report event same named asks says reads new_is bounded =
    let x = is_found old.keeper.interfaces old.ends n at named in
    let a = asks x.ends_at x.link_there in
    let came = came_to old n at o loss outcome ends k named asks in
    let due : Some verdict ≡ answer_of_links old event =
    sym says ∙ ap (λ (r : List ℕ). outcome_verdict n loss r outcome) (reads came.ended came.manager_is) ∙ came.due_is
    ∙ sym same in
    interfaces_change plan old new at.0 x.ends_at a.0.device.interfaces ends k verdict event due x.link_there
    (a.1 ∙ ap (λ (y : LinkEnds). record old.ends { links = slice_set old.ends.links at.0 y }) a.2.ends) a.2.keys new_is
    bounded

-- ---- whether it runs, and the draw at its device

pub run_code : (state : TdiState) → (state_code state == 2) ≡ is_run state
run_code ConfigUnlocked = refl
run_code (ConfigLocked lock nonce) = refl
run_code (Run lock) = refl
run_code Error = refl

pub runs_is : (s : Links) (at : ℕ × ℕ) (b : Bool) → IsThere s.ends at.0 at.1
    → IfSome (slice_get s.ends.links at.0) (λ (l : LinkEnds). IfSome (slice_get l.device.interfaces.interfaces at.1)
    (λ (t : DeviceTdi). b ≡ (state_code t.state == 2))) → b ≡ place_runs s (Some at)
runs_is s at b here says =
    let l = there s.ends.links at.0 here.link_there in
    let t = there l.0.device.interfaces.interfaces at.1 (here.place_there l.0 l.1) in
    if_some (λ (t : DeviceTdi). b ≡ (state_code t.state == 2)) (slice_get l.0.device.interfaces.interfaces at.1) t.0 t.1
    (if_some (λ (l : LinkEnds). IfSome (slice_get l.device.interfaces.interfaces at.1)
    (λ (t : DeviceTdi). b ≡ (state_code t.state == 2))) (slice_get s.ends.links at.0) l.0 l.1 says)
    ∙ run_code t.0.state
    ∙ sym (ap (λ (o : Option DeviceTdi). option_map_or (λ (t : DeviceTdi). is_run t.state) o false)
    (interface_there s.ends.links at l.1 t.1))

pub draw_is : (s : Links) (i link stream : ℕ) (l : LinkEnds) (x : HostTdi) (o : Option ℕ)
    → slice_get s.ends.links link ≡ Some l → slice_get s.keeper.interfaces.interfaces i ≡ Some x → stream ≡ x.stream
    → o ≡ receiving_draw_in l.device.port stream Pr → option_map_or (λ (d : ℕ). d) o 0 ≡ device_draw s i link
draw_is s i link stream l x o l_is x_is stream_is says =
    let named : stream ≡ planned_stream s i =
    stream_is ∙ sym (ap (λ (p : Option HostTdi). option_map_or (λ (y : HostTdi). y.stream) p 0) x_is) in
    ap (λ (p : Option ℕ). option_map_or (λ (d : ℕ). d) p 0)
    (says ∙ (λ j. receiving_draw_in l.device.port (named j) Pr)
    ∙ sym (ap (λ (p : Option LinkEnds). option_and_then (λ (y : LinkEnds).
    receiving_draw_in y.device.port (planned_stream s i) Pr) p) l_is))

-- ---- streams between devices

none_if : {A : Type 0} (b : Bool) (x : A) → None ≡ (if b then Some x else None) → b ≡ false
none_if true x is = absurd (none-some x is)
none_if false x is = refl

pub some_if : {A : Type 0} (b : Bool) (x y : A) → Some y ≡ (if b then Some x else None) → (b ≡ true) × (y ≡ x)
some_if true x y is = (refl, same_Some y x is)
some_if false x y is = absurd (none-some y (sym is))

pub none_peer : (k : HostKeeper) (v : EndsView) (n line stream : ℕ) (o : Option (ℕ × ℕ)) → o
    ≡ interface_named k.interfaces v.links n → None
    ≡ (if nat_lt stream 256 && has_peer_if_there v line stream o then Some (managed_peer_stream k line stream) else
    None) → (nat_lt stream 256 && has_peer_in k v n line stream) ≡ false
none_peer k v n line stream o named none =
    ap (λ (p : Option (ℕ × ℕ)). nat_lt stream 256 && has_peer_if_there v line stream p) (sym named)
    ∙ none_if (nat_lt stream 256 && has_peer_if_there v line stream o) (managed_peer_stream k line stream) none

-- the stream between devices of a line and an ID, where the interface's device has it
pub record IsPeer (k : HostKeeper) (v : EndsView) (n line stream : ℕ) (peer : PeerStream) : Type 0 where
  pub small : stream < 256
  pub has : has_peer_in k v n line stream ≡ true
  pub peer_is : peer ≡ managed_peer_stream k line stream

pub is_peer : (k : HostKeeper) (v : EndsView) (n line stream : ℕ) (peer : PeerStream) (o : Option (ℕ × ℕ)) → o
    ≡ interface_named k.interfaces v.links n → Some peer
    ≡ (if nat_lt stream 256 && has_peer_if_there v line stream o then Some (managed_peer_stream k line stream) else
    None) → IsPeer k v n line stream peer
is_peer k v n line stream peer o named is =
    let parts = some_if (nat_lt stream 256 && has_peer_if_there v line stream o) (managed_peer_stream k line stream)
    peer is
    in
    let both = and_parts (nat_lt stream 256) (has_peer_if_there v line stream o) parts.0 in
    record {
      small = true-lt stream 256 both.0;
      has = ap (has_peer_if_there v line stream) (sym named) ∙ both.1;
      peer_is = parts.1;
    }

-- an event on it has the verdict of its operation
pub peer_verdict : (k : HostKeeper) (ends : EndsView) (n line stream : ℕ) (peer : PeerStream) (o : PeerStream
    → InterfaceOperation) (loss : Option Loss) → IsPeer k ends n line stream peer
    → peer_verdict_in k ends n line stream (o (managed_peer_stream k line stream)) loss
    ≡ verdict_in n (o peer) loss (ended_in k ends n (o peer) loss)
peer_verdict k ends n line stream peer o loss p =
    let kept : PeerStream = managed_peer_stream k line stream in
    ap (λ (b : Bool). if b then verdict_in n (o kept) loss (ended_in k ends n (o kept) loss) else Some v.Nothing) p.has
    ∙ sym (ap (λ (q : PeerStream). verdict_in n (o q) loss (ended_in k ends n (o q) loss)) p.peer_is)
