-- What stands at each link after an event is what the machine keeps after it. An event of ports that brings no bytes,
-- and answers nothing, leaves all of it. An arrival queues reads and stores writes by the verdict's effects. A start
-- sets the floor of its interface, and a halt, a level reset and a reset of the link set ranges to 0.
use Rattle.std.proofs.Common.{◌≡◌, ℕ, ◌+◌, ◌<◌, ◌≤◌, ◌==◌, ◌&&◌, ◌∷◌, zero, suc, Bool, true, false, List, [], length}
use Rattle.std.proofs.Common.{refl, sym, ap, subst, ◌∙◌, arith, Option, Some, None, ⊎_elim, ◌⊎◌, inl, inr}
use Rattle.std.proofs.lemmas.Bool.{cases_lt, eqb-true, eq-eqb, lt-ltb, ne_eqb}
use Rattle.std.proofs.lemmas.Option.{slice_get_within}
use Rattle.std.specs.Option.{option_map_or, option_and_then}
use Rattle.std.specs.Prelude.{nat_lt, not, slice_get, slice_set, unwrap_or, if◌then◌else◌}
use Rattle.ide_types.specs.declared.direction.Direction.{Direction}
use Rattle.ide_types.specs.declared.port.PortName.{PortName}
use Rattle.ide_types.specs.declared.sub.SubKind.TheVariants.{Pr}
use Rattle.ide_types.specs.declared.interface.BarPlan.{BarPlan}
use Rattle.ide_types.specs.declared.plan.LinkPlan.{LinkPlan}
use Rattle.ide_types.specs.declared.plan.Plan.{Plan}
use Rattle.script_events.specs.declared.event.Event.{Event}
use Rattle.script_events.specs.declared.event.Event.TheVariants as event
use Rattle.script_events.specs.declared.event.AccessEvent.TheVariants as ae
use Rattle.script_events.specs.declared.event.InterfaceEvent.{InterfaceEvent}
use Rattle.script_events.specs.declared.event.InterfaceEvent.TheVariants as ie
use Rattle.script_events.specs.declared.event.Loss.{Loss}
use Rattle.event_verdicts.specs.declared.verdict.Verdict.{Verdict}
use Rattle.event_verdicts.specs.declared.verdict.Verdict.TheVariants as v
use Rattle.spec_keys.specs.History.{History}
use Rattle.interface_state.specs.Machine.{DeviceTdi}
use Rattle.ide_prefix.specs.Packet.{Packet}
use Rattle.trusted_memory.specs.declared.queue.WaitingRead.{WaitingRead}
use Rattle.guarded_memory.specs.declared.status.InterfaceStatus.{InterfaceStatus}
use Rattle.guarded_memory.specs.Happenings.{Happened, InterfaceReset, AllReset, InterfaceStopped, newest_happened}
use Rattle.spec_interfaces.specs.Devices.{is_run}
use Rattle.spec_interfaces.specs.Exchanges.{carries, changes_device}
use Rattle.spec_interfaces.specs.Floors.{interfaces_before, place_of}
use Rattle.spec_interfaces.proofs.Floors.{planned_on}
use Rattle.spec_interfaces.specs.Sites.{Site, site_at, sites}
use Rattle.machine_whole.specs.Interfaces.{Face}
use Rattle.spec_links.specs.Guarded.{happens_by_packets, happens_if, halted_at, reset_at}
use Rattle.ide_port.specs.{receiving_draw_in}
use Rattle.link_stores.specs.declared.link.LinkAccesses.{LinkAccesses}
use Rattle.machine_ports.specs.Machine.{BesidePorts, LinkState, Stepped, reset_state}
unfoldable use Rattle.machine_ports.specs.Machine.{step_of}
use Rattle.machine_ports.specs.Stands.{PortsStandFor}
use Rattle.join_world.specs.{AccessesAnswer, AccessesForward, AccessesReset, AccessesAfter, AccessesArrive}
use Rattle.join_world.specs.{AccessesInterface, AccessesTurn, AreLeftBy, arrival_in_state, bars_named, carried_on_link}
use Rattle.join_world.specs.{carried_after_event, device_draw, floors_at, floors_set, floors_started, flr_at, halted_in}
use Rattle.join_world.specs.{happens_at, interface_named, LinkEnds, links_state, mmio_at, nothing_happens, reads_at}
use Rattle.join_world.specs.{policy_in, reads_after_event}
use Rattle.join_world.specs.{reset_happens, runs_in, same_carried, same_floors, same_reads, sizes_at}
use Rattle.join_world.specs.{named_device_interface, interface_of_ends, WholeLinks}
use Rattle.spec_links.specs.Hops.{HopTlp}
use Rattle.law_reads.specs.Waiting.{waiting_next}
use Rattle.machine_whole.specs.Accesses.{device_draw_at, floors_after, face_statuses, unit_tlps, waiting_reads_after}
use Rattle.machine_whole.specs.Machine.{Whole, beside_of, ended_unit, arrival_of, unit_in, whole_after}
use Rattle.machine_whole.specs.Machine.{whole_faces_after}
use Rattle.join_world.specs.Accesses.{AreAccesses, link_seen, on_link}
use Rattle.join_world.specs.Whole.{IsPlaced, IsBeside}
use Rattle.join_accesses.proofs.Accessed.{before_is, laid_many, place_is, site_found, site_lacking, statuses_are}
use Rattle.join_world.proofs.Besides.{tdi_there}
use Rattle.join_world.proofs.Kept.{AreBoth, interface_step}
use Rattle.join_accesses.proofs.OnLinks.{on_link_set, on_link_other}
use Rattle.join_world.proofs.Places.{get_there, site_numbered}
use Rattle.join_world.proofs.Sites.{held_before, interface_there, interface_absent, located_read}
use Rattle.join_world.proofs.Statuses.{device_draw_is}
use Rattle.join_accesses.proofs.Rested.{AreMany, touches_hops, touches_reads, touches_memory, hops_rest, no_unit}
use Rattle.join_accesses.proofs.Rested.{starts, reads_by_any, reads_rest, memory_rests, none_stored, floors_rest}
use Rattle.join_accesses.proofs.Rested.{floors_many}
use Rattle.join_accesses.proofs.Rested.{floors_started as started, floors_unnamed}

-- nothing changes
stays : (xs ys : List LinkAccesses) → ys ≡ xs → AccessesTurn same_reads same_floors nothing_happens same_carried xs ys
stays xs ys same = record {
  many = ap length same;
  reads = λ port. ap (λ zs. reads_at zs port) same;
  floors = λ link. ap (λ zs. floors_at zs link) same;
  sizes = λ link. ap (λ zs. sizes_at zs link) same;
  bytes = λ link older left i b offset. ap (λ zs. mmio_at zs link i b offset) same ∙ left i b offset;
  carried = λ link d. ap (λ zs. carried_on_link zs link d) same;
}

value_or : (o : Option ℕ) → option_map_or (λ (n : ℕ). n) o 0 ≡ unwrap_or o 0
value_or None = refl
value_or (Some n) = refl

-- interfaces of an earlier link come before those of a later one
before_grows : (ls : List LinkPlan) (link other : ℕ) → link < other
    → interfaces_before ls link + length (planned_on ls link) ≤ interfaces_before ls other
before_grows [] link other lt = omega arith
before_grows (l ∷ ls) zero zero lt = absurd (omega (arith, lt))
before_grows (l ∷ ls) zero (suc other) lt = omega arith
before_grows (l ∷ ls) (suc link) zero lt = absurd (omega (arith, lt))
before_grows (l ∷ ls) (suc link) (suc other) lt = omega (arith, before_grows ls link other (omega (arith, lt)))

cases_apart : (a b : ℕ) → (a == b) ≡ false → (a < b) ⊎ (b < a)
cases_apart a b other = ⊎_elim (λ lt. inl lt)
    (λ le. inr (⊎_elim (λ less. less)
    (λ most. let same : a ≡ b = omega (arith, le, most) in
    let no : true ≡ false = sym (eq-eqb a b same) ∙ other in absurd cc) (cases_lt b a))) (cases_lt a b)

happens_same : (b c : Bool) (h : Happened) → (if b && c then Some h ∷ [] else []) ≡ happens_if (c && b) h
happens_same true true h = refl
happens_same true false h = refl
happens_same false true h = refl
happens_same false false h = refl

happens_not : (b : Bool) (h : Happened) → happens_if (b && false) h ≡ []
happens_not true h = refl
happens_not false h = refl

reset_says : (plan : Plan) (beside : BesidePorts) (st : LinkState) (link : ℕ) (ends : List PortName)
    → (step_of plan beside st (event.Reset link ends)).0 ≡ (if nat_lt link (length plan.links) then v.Reset link
    else v.Nothing)
unfolding step_of
reset_says plan beside st link ends = by (nat_lt link (length plan.links))
  where
    by : (b : Bool) → (if◌then◌else◌ {A = Stepped} b (v.Reset link, reset_state plan st ends) (v.Nothing, st)).0
        ≡ (if b then v.Reset link else v.Nothing)
    by true = refl
    by false = refl

module _ (plan : Plan) (old new : WholeLinks) (w : Whole) (verdict : Verdict)
    (both : AreBoth plan old.links new.links w)
    (many : length old.accesses ≡ length old.links.ends.links)
    (before : AreAccesses plan (link_seen old.accesses) w.accesses) where
  abbrev links_now : LinkState
  links_now = links_state plan new.links

  abbrev IsAfter : Event → Type 0
  IsAfter e = IsBeside plan new.links.ends.links new.links.keeper.interfaces new.links.trusted.contents
      (whole_after plan w e verdict links_now)

  abbrev AreAfter : Event → Type 0
  AreAfter e = AreAccesses plan (link_seen new.accesses) (whole_after plan w e verdict links_now).accesses

  abbrev statuses : ℕ → List InterfaceStatus
  statuses = λ link. face_statuses link (sites plan) w.faces.list w.accesses.floors

  abbrev faces_now : Event → List Face
  faces_now e = (whole_faces_after plan w e verdict links_now).list

  are_many : (e : Event) → IsAfter e → AreMany (sites plan) w.faces.list (faces_now e) w.accesses.floors
  are_many e after = record { before = both.whole.beside.faced; after = after.faced; floors = before.floored }

  turned : (e : Event) (reads_then : PortName → List WaitingRead → List WaitingRead) (floors_then : ℕ → List ℕ → List ℕ)
      (happens : ℕ → List (Option Happened)) (carried_then : ℕ → Direction → List HopTlp → List HopTlp) → IsAfter e
      → AccessesTurn reads_then floors_then happens carried_then old.accesses new.accesses
      → ((port : PortName) (rs : List WaitingRead) → reads_then port rs
      ≡ waiting_reads_after plan statuses (ended_unit plan w e) e verdict port rs)
      → ((link : ℕ) → floors_then link (on_link link (sites plan) w.accesses.floors)
      ≡ on_link link (sites plan)
      (floors_after e (device_draw_at plan w.links) (sites plan) w.faces.list (faces_now e) w.accesses.floors))
      → ((link : ℕ) → happens link ≡ happens_by_packets plan statuses (ended_unit plan w e) e verdict link)
      → ((link : ℕ) (d : Direction) (xs : List HopTlp) → link < 8 → carried_then link d xs
      ≡ waiting_next (unit_tlps plan (ended_unit plan w e) verdict) link d e verdict xs) → AreAfter e
  turned e reads_then floors_then happens carried_then after turn reads floors same carried = record {
    floored = floors_many e (device_draw_at plan w.links) (sites plan) w.faces.list (faces_now e) w.accesses.floors
        (are_many e after);
    reads = λ port. turn.reads port ∙ (ap (reads_then port) (before.reads port) ∙ reads port (w.accesses.waiting port));
    bytes = λ link. subst (λ (hs : List (Option Happened)). AreLeftBy (mmio_at new.accesses link)
        (newest_happened hs (w.accesses.happened link))) (same link)
        (turn.bytes link (w.accesses.happened link) (before.bytes link));
    sizes = λ link p is. turn.sizes link ∙ before.sizes link p is;
    floors = λ link. turn.floors link ∙ (ap (floors_then link) (before.floors link) ∙ floors link);
    carried = λ link d lt. turn.carried link d
        ∙ (ap (carried_then link d) (before.carried link d lt) ∙ carried link d (w.accesses.carried link d) lt);
  }

  -- floors stay at an event that starts no interface
  floors_kept : (e : Event) → IsAfter e → starts e ≡ false → (link : ℕ)
      → on_link link (sites plan) w.accesses.floors ≡ on_link link (sites plan)
      (floors_after e (device_draw_at plan w.links) (sites plan) w.faces.list (faces_now e) w.accesses.floors)
  floors_kept e after is link =
      ap (λ (ns : List ℕ). on_link link (sites plan) ns)
      (sym (floors_rest e (device_draw_at plan w.links) (sites plan) w.faces.list (faces_now e) w.accesses.floors is
      (are_many e after)))

  -- TLPs stay at switches at an event that brings no bytes, sends none on and cuts no hop
  hops_kept : (e : Event) → ended_unit plan w e ≡ [] → touches_hops e ≡ false → (link : ℕ) (d : Direction)
      (xs : List HopTlp) → link < 8
      → xs ≡ waiting_next (unit_tlps plan (ended_unit plan w e) verdict) link d e verdict xs
  hops_kept e none hops link d xs lt =
      hops_rest e verdict link d xs hops
      ∙ ap (λ (new : List HopTlp). waiting_next new link d e verdict xs)
      (sym (no_unit plan verdict) ∙ ap (λ (ps : List Packet). unit_tlps plan ps verdict) (sym none))

  -- what becomes of reads by the verdict of an event that brings no bytes
  reads_turn : (e : Event) → ended_unit plan w e ≡ [] → (port : PortName) (rs : List WaitingRead)
      → reads_after_event plan e verdict port rs
      ≡ waiting_reads_after plan statuses (ended_unit plan w e) e verdict port rs
  reads_turn e none port rs =
      reads_by_any plan (λ link. []) statuses e verdict port rs
      ∙ ap (λ (ps : List Packet). waiting_reads_after plan statuses ps e verdict port rs) (sym none)

  -- and of TLPs at switches
  hops_turn : (e : Event) → ended_unit plan w e ≡ [] → (link : ℕ) (d : Direction) (xs : List HopTlp) → link < 8
      → carried_after_event e verdict link d xs
      ≡ waiting_next (unit_tlps plan (ended_unit plan w e) verdict) link d e verdict xs
  hops_turn e none link d xs lt = ap (λ (new : List HopTlp). waiting_next new link d e verdict xs)
      (sym (no_unit plan verdict) ∙ ap (λ (ps : List Packet). unit_tlps plan ps verdict) (sym none))

  -- ---- what leaves all of it

  kept : (e : Event) → IsAfter e → ended_unit plan w e ≡ [] → touches_reads e ≡ false → touches_memory e ≡ false
      → starts e ≡ false → touches_hops e ≡ false → new.accesses ≡ old.accesses → AreAfter e
  kept e after none reads memory floors hops same =
      turned e same_reads same_floors nothing_happens same_carried after (stays old.accesses new.accesses same)
      (λ port rs. reads_rest plan statuses e verdict port rs reads
      ∙ ap (λ (ps : List Packet). waiting_reads_after plan statuses ps e verdict port rs) (sym none))
      (floors_kept e after floors)
      (λ link. memory_rests plan statuses e verdict link memory
      ∙ ap (λ (ps : List Packet). happens_by_packets plan statuses ps e verdict link) (sym none))
      (hops_kept e none hops)

  -- ---- arrivals

  statuses_read : (policy_in old.links.keeper.interfaces old.links.ends old.accesses).statuses ≡ statuses
  statuses_read = λ i link. statuses_are plan old.links.ends.links old.links.keeper.interfaces
      old.links.trusted.contents w both.whole.beside both.links.fits both.links.many old.accesses many before link i

  arrived : (e : Event) (h : History) → IsAfter e → starts e ≡ false → PortsStandFor plan (links_state plan old.links) h
      → AccessesArrive plan (arrival_in_state plan e) e verdict old.links old.accesses new.accesses → AreAfter e
  arrived e h after floors stands sides =
      let units : unit_in plan (links_state plan old.links) (arrival_of plan (links_state plan old.links) e)
      ≡ ended_unit plan w e =
      ap (λ (st : LinkState). unit_in plan st (arrival_of plan st e)) (sym both.whole.links) in
      turned e _ same_floors _ _ after (sides.turn h both.links stands)
      (λ port rs. (λ i. waiting_reads_after plan (statuses_read i) (units i) e verdict port rs))
      (floors_kept e after floors)
      (λ link. (λ i. happens_by_packets plan (statuses_read i) (units i) e verdict link))
      (λ link d xs lt.
      ap (λ (b : Bool). if b then waiting_next (unit_tlps plan (unit_in plan (links_state plan old.links)
      (arrival_of plan (links_state plan old.links) e)) verdict) link d e verdict xs else xs) (lt-ltb link 8 lt)
      ∙ ap (λ (ps : List Packet). waiting_next (unit_tlps plan ps verdict) link d e verdict xs) units)

  -- ---- answers

  answered : (e : Event) → IsAfter e → ended_unit plan w e ≡ [] → touches_memory e ≡ false → starts e ≡ false
      → touches_hops e ≡ false → AccessesAnswer plan e verdict old new → AreAfter e
  answered e after none memory floors hops turn =
      turned e (reads_after_event plan e verdict) same_floors nothing_happens same_carried after turn
      (reads_turn e none) (floors_kept e after floors)
      (λ link. memory_rests plan statuses e verdict link memory
      ∙ ap (λ (ps : List Packet). happens_by_packets plan statuses ps e verdict link) (sym none))
      (hops_kept e none hops)

  -- ---- a forward

  forwarded : (link : ℕ) (d : Direction) → IsAfter (event.Forward link d)
      → AccessesForward (event.Forward link d) verdict old new → AreAfter (event.Forward link d)
  forwarded link d after turn =
      let e = event.Forward link d in
      turned e same_reads same_floors nothing_happens (carried_after_event e verdict) after turn
      (λ port rs. reads_rest plan statuses e verdict port rs refl) (floors_kept e after refl)
      (λ l. memory_rests plan statuses e verdict l refl) (hops_turn e refl)

  -- ---- a reset

  reset_there : (link : ℕ) (ends : List PortName) → IsAfter (event.Reset link ends) → verdict ≡ v.Reset link
      → AccessesReset plan (event.Reset link ends) verdict old new → AreAfter (event.Reset link ends)
  reset_there link ends after says turn =
      let e = event.Reset link ends in
      turned e (reads_after_event plan e verdict) same_floors (reset_happens verdict)
      (carried_after_event e verdict) after
      turn (reads_turn e refl) (floors_kept e after refl)
      (λ l. ap (λ (u : Verdict). reset_happens u l) says ∙ (by (link == l)
      ∙ sym (ap (λ (u : Verdict). happens_by_packets plan statuses [] e u l) says)))
      (hops_turn e refl)
    where
      by : (b : Bool) → (if b then Some AllReset ∷ [] else []) ≡ happens_if b AllReset
      by true = refl
      by false = refl

  reset_nowhere : (link : ℕ) (ends : List PortName) → IsAfter (event.Reset link ends) → verdict ≡ v.Nothing
      → AccessesReset plan (event.Reset link ends) verdict old new → AreAfter (event.Reset link ends)
  reset_nowhere link ends after says turn =
      let e = event.Reset link ends in
      turned e (reads_after_event plan e verdict) same_floors (reset_happens verdict)
      (carried_after_event e verdict) after
      turn (reads_turn e refl) (floors_kept e after refl)
      (λ l. ap (λ (u : Verdict). reset_happens u l) says
      ∙ sym (ap (λ (u : Verdict). happens_by_packets plan statuses [] e u l) says))
      (hops_turn e refl)

  -- ---- one interface

  named_before : (i : ℕ) (x : Site) → slice_get (sites plan) i ≡ Some x
      → (p : IsPlaced plan old.links.ends.links old.links.keeper.interfaces w i x)
      → named_device_interface old.links.keeper.interfaces old.links.ends.links i ≡ Some p.tdi
  named_before i x at p =
      ap (option_and_then (interface_of_ends old.links.ends.links))
      (interface_there plan old.links.ends.links old.links.keeper.interfaces old.links.trusted.contents w i x p
      both.whole.beside both.links.fits at)
      ∙ tdi_there plan old.links.ends.links old.links.keeper.interfaces old.links.trusted.contents w both.whole.beside
      both.links.fits both.links.many i x p

  module _ (e : Event) (after : IsAfter e) where
    abbrev whole_now : Whole
    whole_now = whole_after plan w e verdict links_now

    interface_now : (i : ℕ) (x : Site) → slice_get (sites plan) i ≡ Some x
        → (p : IsPlaced plan new.links.ends.links new.links.keeper.interfaces whole_now i x)
        → interface_named new.links.keeper.interfaces new.links.ends.links i ≡ Some (x.link, p.place)
    interface_now i x at p =
        interface_there plan new.links.ends.links new.links.keeper.interfaces new.links.trusted.contents whole_now i x p
        after
        both.links_after.fits at

    named_now : (i : ℕ) (x : Site) → slice_get (sites plan) i ≡ Some x
        → (p : IsPlaced plan new.links.ends.links new.links.keeper.interfaces whole_now i x)
        → named_device_interface new.links.keeper.interfaces new.links.ends.links i ≡ Some p.tdi
    named_now i x at p =
        ap (option_and_then (interface_of_ends new.links.ends.links)) (interface_now i x at p)
        ∙ tdi_there plan new.links.ends.links new.links.keeper.interfaces new.links.trusted.contents whole_now after
        both.links_after.fits both.links_after.many i x p

    place_now : (i : ℕ) (x : Site) → slice_get (sites plan) i ≡ Some x
        → (p : IsPlaced plan new.links.ends.links new.links.keeper.interfaces whole_now i x) → p.place ≡ place_of plan x
    place_now i x at p = place_is plan new.links.ends.links new.links.keeper.interfaces new.links.trusted.contents
        whole_now after both.links_after.fits both.links_after.many i x p at

    bars_now : (i : ℕ) (x : Site) → slice_get (sites plan) i ≡ Some x
        → (p : IsPlaced plan new.links.ends.links new.links.keeper.interfaces whole_now i x)
        → bars_named new.links i ≡ x.plan.bars
    bars_now i x at p = ap (λ (o : Option DeviceTdi). option_map_or (λ (t : DeviceTdi). t.plan.bars) o [])
        (named_now i x at p) ∙ ap (λ y. y.bars) p.keeps.layout

    nowhere_now : (i : ℕ) → length (sites plan) ≤ i
        → interface_named new.links.keeper.interfaces new.links.ends.links i ≡ None
    nowhere_now i le = interface_absent plan new.links.ends.links new.links.keeper.interfaces new.links.trusted.contents
        whole_now i after le

  -- ---- the memory of one interface

  -- what happens at the place of the interface is what happens to it by number
  happens_there : (e : Event) (after : IsAfter e) (i link : ℕ) (b : Bool) (which : ℕ → List BarPlan → Happened)
      (by_site : Option Site → List (Option Happened)) → by_site None ≡ []
      → ((x : Site) → by_site (Some x) ≡ happens_if ((x.link == link) && b) (which (place_of plan x) x.plan.bars))
      → happens_at b (interface_named new.links.keeper.interfaces new.links.ends.links i)
      (λ place. which place (bars_named new.links i)) link ≡ by_site (site_at plan i)
  happens_there e after i link b which by_site absent there = ⊎_elim
      (λ lt. let x = get_there (sites plan) i lt in at x.0 x.1 (after.placed i x.0 x.1))
      (λ le. ap (λ (o : Option (ℕ × ℕ)). happens_at b o (λ place. which place (bars_named new.links i)) link)
      (nowhere_now e after i le)
      ∙ (sym absent ∙ sym (ap by_site (site_lacking plan i le))))
      (cases_lt i (length (sites plan)))
    where
      at : (x : Site) → slice_get (sites plan) i ≡ Some x
          → (p : IsPlaced plan new.links.ends.links new.links.keeper.interfaces (whole_after plan w e verdict links_now)
          i x) → happens_at b (interface_named new.links.keeper.interfaces new.links.ends.links i)
          (λ place. which place (bars_named new.links i)) link ≡ by_site (site_at plan i)
      at x is p =
          ap (λ (o : Option (ℕ × ℕ)). happens_at b o (λ place. which place (bars_named new.links i)) link)
          (interface_now e after i x is p)
          ∙ ((λ j. if b && (x.link == link)
          then Some (which (place_now e after i x is p j) (bars_now e after i x is p j)) ∷ [] else [])
          ∙ (happens_same b (x.link == link) (which (place_of plan x) x.plan.bars)
          ∙ (sym (there x) ∙ sym (ap by_site (site_found plan i x is)))))

  halt_happens : (i : ℕ) (loss : Option Loss) (w' : Verdict) (link : ℕ) → halted_at plan w' link (site_at plan i)
      ≡ happens_by_packets plan statuses [] (event.Interface (ie.Halt i loss)) w' link
  halt_happens i loss (v.Accepted port unit effects) link =
      by (site_at plan i) ∙ none_stored plan statuses (event.Interface (ie.Halt i loss)) port unit effects link
    where
      by : (o : Option Site) → halted_at plan (v.Accepted port unit effects) link o ≡ []
      by None = refl
      by (Some x) = happens_not (x.link == link) _
  halt_happens i loss w' link = refl

  flr_happens : (i : ℕ) (w' : Verdict) (link : ℕ)
      → reset_at plan w' link (site_at plan i) ≡ happens_by_packets plan statuses [] (event.Interface (ie.Flr i)) w'
      link
  flr_happens i (v.Accepted port unit effects) link =
      by (site_at plan i) ∙ none_stored plan statuses (event.Interface (ie.Flr i)) port unit effects link
    where
      by : (o : Option Site) → reset_at plan (v.Accepted port unit effects) link o ≡ []
      by None = refl
      by (Some x) = happens_not (x.link == link) _
  flr_happens i w' link = refl

  halted : (i : ℕ) (loss : Option Loss) → IsAfter (event.Interface (ie.Halt i loss))
      → AccessesTurn same_reads same_floors (halted_in new.links i verdict) same_carried old.accesses new.accesses
      → AreAfter (event.Interface (ie.Halt i loss))
  halted i loss after turn =
      let e = event.Interface (ie.Halt i loss) in
      turned e same_reads same_floors (halted_in new.links i verdict) same_carried after turn
      (λ port rs. reads_rest plan statuses e verdict port rs refl) (floors_kept e after refl)
      (λ l. happens_there e after i l (carries verdict 1) InterfaceStopped (halted_at plan verdict l) refl (λ x. refl)
      ∙ halt_happens i loss verdict l) (hops_kept e refl refl)

  reset_interface : (i : ℕ) → IsAfter (event.Interface (ie.Flr i))
      → AccessesTurn same_reads same_floors (flr_at new.links i verdict) same_carried old.accesses new.accesses
      → AreAfter (event.Interface (ie.Flr i))
  reset_interface i after turn =
      let e = event.Interface (ie.Flr i) in
      turned e same_reads same_floors (flr_at new.links i verdict) same_carried after turn
      (λ port rs. reads_rest plan statuses e verdict port rs refl) (floors_kept e after refl)
      (λ l. happens_there e after i l (changes_device verdict) (λ place bars. InterfaceReset place)
      (reset_at plan verdict l) refl (λ x. refl)
      ∙ flr_happens i verdict l) (hops_kept e refl refl)

  -- ---- a start

  module _ (i : ℕ) (loss : Option Loss) (after : IsAfter (event.Interface (ie.Start i loss)))
      (ports : links_now ≡ w.links) where
    abbrev e_start : Event
    e_start = event.Interface (ie.Start i loss)

    abbrev floors_machine : List ℕ
    floors_machine = floors_after e_start (device_draw_at plan w.links) (sites plan) w.faces.list (faces_now e_start)
        w.accesses.floors

    module _ (x : Site) (at : slice_get (sites plan) i ≡ Some x)
        (p : IsPlaced plan old.links.ends.links old.links.keeper.interfaces w i x)
        (q : IsPlaced plan new.links.ends.links new.links.keeper.interfaces
        (whole_after plan w e_start verdict links_now) i
        x)
      where
        abbrev came_in : Bool
        came_in = not (is_run p.face.tdi.state) && is_run q.face.tdi.state

        machine_floors : floors_machine
            ≡ (if came_in then slice_set w.accesses.floors i (device_draw_at plan w.links x) else w.accesses.floors)
        machine_floors =
            let same : i ≡ 0 + i = omega arith in
            ap (λ (k : ℕ). floors_after (event.Interface (ie.Start k loss)) (device_draw_at plan w.links) (sites plan)
            w.faces.list (faces_now e_start) w.accesses.floors) same
            ∙ started 0 i loss (device_draw_at plan w.links) (sites plan) w.faces.list (faces_now e_start)
            w.accesses.floors x p.face q.face (λ j y there. omega (arith, site_numbered plan j y there)) at p.face_is
            q.face_is (are_many e_start after)

        came_is : (not (runs_in old.links i) && runs_in new.links i) ≡ came_in
        came_is =
            (λ j. not (option_map_or (λ (t : DeviceTdi). is_run t.state) (named_before i x at p j) false)
            && option_map_or (λ (t : DeviceTdi). is_run t.state) (named_now e_start after i x at q j) false)
            ∙ (λ j. not (is_run (p.keeps.tdi_is j).state) && is_run (q.keeps.tdi_is j).state)

        draw_is : device_draw new.links i x.link ≡ device_draw_at plan w.links x
        draw_is =
            let stream : option_map_or (λ y. y.stream) (slice_get new.links.keeper.interfaces.interfaces i) 0
            ≡ x.plan.stream =
            ap (λ o. option_map_or (λ y. y.stream) o 0) q.interface_is ∙ q.keeps.managed.laid_out.stream in
            (λ j. option_map_or (λ (n : ℕ). n) (option_and_then
            (λ (l : LinkEnds). receiving_draw_in l.device.port (stream j) Pr) (q.ends_are j)) 0)
            ∙ (value_or (receiving_draw_in q.link_ends.device.port x.plan.stream Pr)
            ∙ (device_draw_is plan new.links.ends new.links.keeper.keys new.links.packets.packets both.links_after
            x.link
            x.plan.stream q.link_ends Pr q.ends_are
            ∙ ap (λ (st : LinkState). device_draw_at plan st x) ports))

        within : place_of plan x < length (planned_on plan.links x.link)
        within = omega (
          arith,
          place_now e_start after i x at q,
          slice_get_within q.link_ends.device.interfaces.interfaces q.place q.tdi q.tdi_is,
          laid_many plan new.links.ends.links new.links.keeper.interfaces new.links.trusted.contents
              (whole_after plan w e_start verdict links_now) after both.links_after.fits both.links_after.many x.link
              q.link_ends q.ends_are,
        )

        number_is : i ≡ interfaces_before plan.links x.link + q.place
        number_is =
            let l = located_read 0 i new.links.ends.links (x.link, q.place) q.located_is in
            l.number_is ∙ ap (λ (n : ℕ). n + q.place)
            (ap (λ (k : ℕ). held_before new.links.ends.links k) (omega (arith, l.link_is))
            ∙ before_is plan new.links.ends.links new.links.keeper.interfaces new.links.trusted.contents
            (whole_after plan w e_start verdict links_now) after both.links_after.fits both.links_after.many x.link)

        in_place : q.place < length (planned_on plan.links x.link)
        in_place = omega (arith, within, place_now e_start after i x at q)

        -- a floor that is set at the place of the interface is set by its number
        set_there : (link draw : ℕ) → (x.link == link) ≡ true
            → slice_set (on_link link (sites plan) w.accesses.floors) q.place draw
            ≡ on_link link (sites plan) (slice_set w.accesses.floors i draw)
        set_there link draw here =
            let same : x.link ≡ link = eqb-true x.link link here in
            subst (λ (k : ℕ). slice_set (on_link k (sites plan) w.accesses.floors) q.place draw
            ≡ on_link k (sites plan) (slice_set w.accesses.floors i draw)) same
            (sym (on_link_set plan x.link q.place w.accesses.floors draw before.floored in_place)
            ∙ ap (λ (n : ℕ). on_link x.link (sites plan) (slice_set w.accesses.floors n draw)) (sym number_is))

        set_elsewhere : (link draw : ℕ) → (x.link == link) ≡ false → on_link link (sites plan) w.accesses.floors
            ≡ on_link link (sites plan) (slice_set w.accesses.floors i draw)
        set_elsewhere link draw far =
            sym (on_link_other plan link i w.accesses.floors draw before.floored (⊎_elim
            (λ less. inl (omega (arith, before_grows plan.links x.link link less, number_is, in_place)))
            (λ more. inr (omega (arith, before_grows plan.links link x.link more, number_is)))
            (cases_apart x.link link far)))

        floors_by : (b c : Bool) (link : ℕ) → came_in ≡ b → (x.link == link) ≡ c
            → (if b then (if c then slice_set (on_link link (sites plan) w.accesses.floors) q.place
            (device_draw_at plan w.links x) else on_link link (sites plan) w.accesses.floors) else on_link link
            (sites plan) w.accesses.floors) ≡ on_link link (sites plan)
            (if b then slice_set w.accesses.floors i (device_draw_at plan w.links x) else w.accesses.floors)
        floors_by true true link came_now here = set_there link (device_draw_at plan w.links x) here
        floors_by true false link came_now far = set_elsewhere link (device_draw_at plan w.links x) far
        floors_by false c link came_now is = refl

        -- the draw is read at the interface's link
        draw_at : (c : Bool) (link : ℕ) → (x.link == link) ≡ c → (floors : List ℕ)
            → (if c then slice_set floors q.place (device_draw new.links i x.link) else floors)
            ≡ (if c then slice_set floors q.place (device_draw_at plan w.links x) else floors)
        draw_at c link is floors = ap (λ (d : ℕ). if c then slice_set floors q.place d else floors) draw_is

        floors_there : (link : ℕ) → floors_started old.links new.links i link
            (on_link link (sites plan) w.accesses.floors) ≡ on_link link (sites plan) floors_machine
        floors_there link =
            (λ j. if came_is j then floors_set new.links i (interface_now e_start after i x at q j) link
            (on_link link (sites plan) w.accesses.floors) else on_link link (sites plan) w.accesses.floors)
            ∙ (ap (λ (ns : List ℕ). if came_in then ns else on_link link (sites plan) w.accesses.floors)
            (draw_at (x.link == link) link refl (on_link link (sites plan) w.accesses.floors))
            ∙ (floors_by came_in (x.link == link) link refl refl
            ∙ ap (λ (ns : List ℕ). on_link link (sites plan) ns) (sym machine_floors)))

    floors_nowhere : length (sites plan) ≤ i → (link : ℕ) → floors_started old.links new.links i link
        (on_link link (sites plan) w.accesses.floors) ≡ on_link link (sites plan) floors_machine
    floors_nowhere le link =
        (λ j. if not (runs_in old.links i) && runs_in new.links i
        then floors_set new.links i (nowhere_now e_start after i le j) link
        (on_link link (sites plan) w.accesses.floors) else on_link link (sites plan) w.accesses.floors)
        ∙ (same (not (runs_in old.links i) && runs_in new.links i)
        ∙ ap (λ (ns : List ℕ). on_link link (sites plan) ns)
        (sym (floors_unnamed i loss (device_draw_at plan w.links) (sites plan) w.faces.list (faces_now e_start)
        w.accesses.floors
        (λ j y there. ne_eqb i y.number (λ is. absurd (omega (
          arith,
          le,
          is,
          site_numbered plan j y there,
          slice_get_within (sites plan) j y there,
        )))) (are_many e_start after))))
      where
        same : (b : Bool) → (if b then on_link link (sites plan) w.accesses.floors
            else on_link link (sites plan) w.accesses.floors) ≡ on_link link (sites plan) w.accesses.floors
        same true = refl
        same false = refl

    started_all : AccessesTurn same_reads (floors_started old.links new.links i) nothing_happens same_carried
        old.accesses new.accesses → AreAfter e_start
    started_all turn =
        turned e_start same_reads (floors_started old.links new.links i) nothing_happens same_carried after turn
        (λ port rs. reads_rest plan statuses e_start verdict port rs refl)
        (λ link. ⊎_elim
        (λ lt.
        let x = get_there (sites plan) i lt in
        floors_there x.0 x.1 (both.whole.beside.placed i x.0 x.1) (after.placed i x.0 x.1) link)
        (λ le. floors_nowhere le link) (cases_lt i (length (sites plan))))
        (λ l. memory_rests plan statuses e_start verdict l refl) (hops_kept e_start refl refl)

  -- ---- all events

  interface_accesses : (e : InterfaceEvent) → IsAfter (event.Interface e)
      → ◌≡◌ {A = Stepped} (verdict, links_now) (step_of plan (beside_of plan w) w.links (event.Interface e))
      → AccessesInterface e verdict old new → AreAfter (event.Interface e)
  interface_accesses (ie.Start i loss) after step sides =
      started_all i loss after (interface_step plan w links_now (ie.Start i loss) verdict step).1 sides
  interface_accesses (ie.Halt i loss) after step sides = halted i loss after sides
  interface_accesses (ie.Flr i) after step sides = reset_interface i after sides
  interface_accesses (ie.Lock i loss) after step sides =
      kept (event.Interface (ie.Lock i loss)) after refl refl refl refl refl sides
  interface_accesses (ie.Report i loss) after step sides =
      kept (event.Interface (ie.Report i loss)) after refl refl refl refl refl sides
  interface_accesses (ie.State i loss) after step sides =
      kept (event.Interface (ie.State i loss)) after refl refl refl refl refl sides
  interface_accesses (ie.Bind i line stream loss) after step sides =
      kept (event.Interface (ie.Bind i line stream loss)) after refl refl refl refl refl sides
  interface_accesses (ie.Unbind i line stream loss) after step sides =
      kept (event.Interface (ie.Unbind i line stream loss)) after refl refl refl refl refl sides
  interface_accesses (ie.View i) after step sides =
      kept (event.Interface (ie.View i)) after refl refl refl refl refl sides
  interface_accesses (ie.Write i register value) after step sides =
      kept (event.Interface (ie.Write i register value)) after refl refl refl refl refl sides
  interface_accesses (ie.Firmware i) after step sides =
      kept (event.Interface (ie.Firmware i)) after refl refl refl refl refl sides
  interface_accesses (ie.Memory at len) after step sides =
      kept (event.Interface (ie.Memory at len)) after refl refl refl refl refl sides

  reset_accesses : (link : ℕ) (ends : List PortName) (b : Bool) → IsAfter (event.Reset link ends)
      → verdict ≡ (if b then v.Reset link else v.Nothing)
      → AccessesReset plan (event.Reset link ends) verdict old new → AreAfter (event.Reset link ends)
  reset_accesses link ends true after says sides = reset_there link ends after says sides
  reset_accesses link ends false after says sides = reset_nowhere link ends after says sides

  pub accesses_are : (e : Event) (h : History) → PortsStandFor plan (links_state plan old.links) h → IsAfter e
      → ◌≡◌ {A = Stepped} (verdict, links_now) (step_of plan (beside_of plan w) w.links e)
      → AccessesAfter plan e verdict old new → AreAfter e
  accesses_are (event.Send port bytes more trusted) h stands after step sides =
      kept (event.Send port bytes more trusted) after refl refl refl refl refl sides
  accesses_are (event.Pass n) h stands after step sides = arrived (event.Pass n) h after refl stands sides
  accesses_are (event.Alter n at mask) h stands after step sides =
      arrived (event.Alter n at mask) h after refl stands sides
  accesses_are (event.Cut n len) h stands after step sides = arrived (event.Cut n len) h after refl stands sides
  accesses_are (event.Arrive port bytes) h stands after step sides =
      arrived (event.Arrive port bytes) h after refl stands sides
  accesses_are (event.Dump n) h stands after step sides = kept (event.Dump n) after refl refl refl refl refl sides
  accesses_are (event.Establish link stream loss) h stands after step sides =
      kept (event.Establish link stream loss) after refl refl refl refl refl sides
  accesses_are (event.Refresh link stream loss) h stands after step sides =
      kept (event.Refresh link stream loss) after refl refl refl refl refl sides
  accesses_are (event.Stop link stream loss) h stands after step sides =
      kept (event.Stop link stream loss) after refl refl refl refl refl sides
  accesses_are (event.Status link stream) h stands after step sides =
      kept (event.Status link stream) after refl refl refl refl refl sides
  accesses_are (event.Reset link ends) h stands after step sides =
      reset_accesses link ends (nat_lt link (length plan.links)) after
      (ap (λ (s : Stepped). s.0) step ∙ reset_says plan (beside_of plan w) w.links link ends) sides
  accesses_are (event.Interface e) h stands after step sides = interface_accesses e after step sides
  accesses_are (event.Access (ae.Answer link)) h stands after step sides =
      answered (event.Access (ae.Answer link)) after refl refl refl refl sides
  accesses_are (event.Access (ae.Respond link)) h stands after step sides =
      answered (event.Access (ae.Respond link)) after refl refl refl refl sides
  accesses_are (event.Access (ae.Mmio i bar offset len)) h stands after step sides =
      kept (event.Access (ae.Mmio i bar offset len)) after refl refl refl refl refl sides
  accesses_are (event.Forward link d) h stands after step sides = forwarded link d after sides
  accesses_are event.Absent h stands after step sides = kept event.Absent after refl refl refl refl refl sides
