-- What stands beside the ports after bytes came to one of them. Each device followed the ends of its streams, and the
-- manager is as it was. Memory is what the writes of the unit left, by what the manager says of requesters, which is
-- what the machine says of them.
use Rattle.std.proofs.Common.{◌≡◌, ℕ, true, Some, ap, sym, ◌∙◌, subst}
use Rattle.std.specs.Prelude.{length, slice_get}
use Rattle.ide_types.specs.declared.plan.Plan.{Plan}
use Rattle.script_events.specs.declared.event.Event.{Event}
use Rattle.event_verdicts.specs.declared.verdict.Verdict.{Verdict}
use Rattle.spec_keys.specs.History.{History}
use Rattle.trusted_memory.specs.{IsLeftBy, newest_first}
use Rattle.spec_interfaces.specs.Sites.{Site}
use Rattle.machine_whole.specs.Interfaces.{Face, around_of, grant_of}
use Rattle.machine_ports.specs.Machine.{LinkState}
use Rattle.machine_ports.specs.Stands.{PortsStandFor}
use Rattle.machine_whole.specs.Machine.{Whole, whole_streams, arrival_of, written_after, whole_after}
use Rattle.join_accesses.specs.{AllFollow, arrival_in_state, grants_in, InterfacesView, LinkEnds, Links, links_state}
use Rattle.join_accesses.specs.{BesideArrival, writes_by, IsBeside}
use Rattle.join_accesses.proofs.{is_of_ports, is_of_packets, of_ports, next_of_ports, none_of_ports, managed_of_packets}
use Rattle.join_accesses.proofs.{draw_of_packets, IsLed, OnlyLeaves, all_led, beside_led, AreBoth, managed_kept}
use Rattle.join_accesses.proofs.{written_is}

-- an event on ports alone makes no more of an interface than that a stream that it is bound to leaves Secure
pub only_leaves : (plan : Plan) (w : Whole) (e : Event) (verdict : Verdict) (new : LinkState) (x : Site) (f : Face)
    → is_of_ports e verdict ≡ true → OnlyLeaves plan w e verdict new x f
only_leaves plan w e verdict new x f is =
    let a = around_of plan (whole_streams plan w) w.faces.used x f in
    record {
      next = next_of_ports a _ x e verdict f.tdi is;
      none = none_of_ports a x e verdict f.tdi is;
    }

-- if all devices follow the ends of their streams, each is led by what the machine says of them
pub each_led : (plan : Plan) (old new : Links) (w : Whole) → AreBoth plan old new w → AllFollow old.ends new.ends
    → (link : ℕ) (l l' : LinkEnds) → slice_get old.ends.links link ≡ Some l → slice_get new.ends.links link ≡ Some l'
    → IsLed plan w.links (links_state plan new) link l l'
each_led plan old new w both follows link l l' at at' =
    subst (λ (st : LinkState). IsLed plan st (links_state plan new) link l l') (sym both.whole.links)
    (all_led plan old.ends new.ends old.keeper.keys new.keeper.keys old.packets.packets new.packets.packets both.links
    both.links_after follows link l l' at at')

left_by : (plan : Plan) (old new : Links) (w : Whole) (h : History) (e : Event) (verdict : Verdict)
    → AreBoth plan old new w → PortsStandFor plan (links_state plan old) h → grants_in old.keeper.interfaces
    ≡ grant_of plan w.faces → BesideArrival plan (arrival_in_state plan e) verdict old new
    → IsLeftBy new.trusted.contents (written_after plan w e verdict)
left_by plan old new w h e verdict both stands grants sides =
    let led = sides.contents h both.links stands both.whole.beside.regions w.written both.whole.beside.written in
    let same : newest_first
    (writes_by plan (grants_in old.keeper.interfaces) (links_state plan old)
    (arrival_of plan (links_state plan old) e) verdict) w.written
    ≡ newest_first (writes_by plan (grant_of plan w.faces) w.links (arrival_of plan w.links e) verdict) w.written =
    λ i. newest_first
    (writes_by plan (grants i) (sym both.whole.links i) (arrival_of plan (sym both.whole.links i) e) verdict)
    w.written in
    subst (IsLeftBy new.trusted.contents) (same ∙ sym (written_is plan w e verdict)) led

pub arrives_beside : (plan : Plan) (old new : Links) (w : Whole) (h : History) (e : Event) (verdict : Verdict)
    → is_of_packets e verdict ≡ true → AreBoth plan old new w → PortsStandFor plan (links_state plan old) h
    → grants_in old.keeper.interfaces ≡ grant_of plan w.faces → new.trusted.contents.regions
    ≡ old.trusted.contents.regions → BesideArrival plan (arrival_in_state plan e) verdict old new
    → IsBeside plan new.ends.links new.keeper.interfaces new.trusted.contents
    (whole_after plan w e verdict (links_state plan new))
arrives_beside plan old new w h e verdict is both stands grants regions sides =
    beside_led plan w e verdict (links_state plan new) old.ends.links new.ends.links old.keeper.interfaces
    new.keeper.interfaces old.trusted.contents new.trusted.contents both.links.fits both.whole.beside (record {
      many = both.links_after.many ∙ sym both.links.many;
      led = each_led plan old new w both (sides.devices h both.links stands);
      only = λ i x f at there. only_leaves plan w e verdict (links_state plan new) x f (of_ports e verdict is);
      portion = ap (λ (m : InterfacesView). m.portion) sides.keeper;
      interfaces = ap (λ (m : InterfacesView). length m.interfaces) sides.keeper;
      managed = λ i x interface f at there kept managed.
          managed_kept plan w e verdict old.keeper.interfaces new.keeper.interfaces i x interface f sides.keeper there
          (draw_of_packets (whole_streams plan w).op w.links.draws e verdict w.draw is)
          (managed_of_packets (whole_streams plan w).op w.links.draws x e verdict f.managed is) managed;
      regions = regions ∙ both.whole.beside.regions;
      written = left_by plan old new w h e verdict both stands grants sides;
    })
