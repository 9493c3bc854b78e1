use Rattle.std.proofs.Common.{List, [], ◌∷◌, ◌∙◌, ap, sym, subst, refl}
use Rattle.std.specs.Prelude.{Some}
use Rattle.ide_types.specs.declared.interface.BarPlan.{BarPlan}
use Rattle.guarded_memory.specs.Contents.{GuardedMemory, MmioLeads}
use Rattle.guarded_memory.specs.Happenings.{InterfaceStopped}
use Rattle.spec_interfaces.specs.Exchanges.{carries}
use Rattle.all_links.specs.Interfaces.{interface_named}
use Rattle.all_links.proofs.Asked.{is_there}
use Rattle.whole_links.specs.Accesses.{bars_named}
use Rattle.whole_links.proofs.Accesses.{accesses_there, bars_at, happens_here}
use Rattle.whole_links.proofs.whole.WholeLinks.note_halt.Goals as goal

pub bars-bars-requires : goal.bars-bars-requires
bars-bars-requires c =
    let s = c.args.self.now.links in
    record {
      here = is_there s.keeper.interfaces s.ends c.args.interface (Some (c.in-Some.link, c.in-Some.place))
          (sym c.in-Some.is ∙ c.requires.here);
    }

pub at_mut-requires : goal.at_mut-requires
at_mut-requires c =
    let s = c.args.self.now.links in
    accesses_there c.args.self.now (Some (c.in-Some.link, c.in-Some.place)) c.requires.bounded.whole
    (is_there s.keeper.interfaces s.ends c.args.interface (Some (c.in-Some.link, c.in-Some.place))
    (sym c.in-Some.is ∙ c.requires.here))

pub returns-in-Some-clause-accesses : goal.returns-in-Some-clause-accesses
returns-in-Some-clause-accesses c =
    let s = c.args.self.now.links in
    let a = c.at_mut.result.now in
    let named = sym c.in-Some.is ∙ c.requires.here in
    happens_here (carries c.args.verdict.now 1) (interface_named s.keeper.interfaces s.ends.links c.args.interface)
    (λ place. InterfaceStopped place (bars_named s c.args.interface)) (c.in-Some.link, c.in-Some.place)
    c.args.self.now.accesses a (record a { guarded = c.stop_interface.new.self }) (sym c.if-not-reaches.ensures)
    named c.at_mut.ensures.value refl (ap (λ (g : GuardedMemory). g.sizes) c.stop_interface.ensures.kept)
    (subst (λ (bars : List BarPlan). MmioLeads a.guarded (Some (InterfaceStopped c.in-Some.place bars) ∷ [])
    c.stop_interface.new.self)
    (bars_at s c.args.interface (c.in-Some.link, c.in-Some.place) c.bars-bars.result.now named c.bars-bars.ensures)
    c.stop_interface.ensures.leads)
