use Rattle.all_links.proofs.Terms.{ℕ, true, Option, Some, refl, ap, sym, ◌∙◌, option_and_then, length, length-set}
use Rattle.all_links.proofs.Terms.{LinkEnds, Links}
use Rattle.interface_state.specs.Machine.{DeviceTdi, LevelReset}
use Rattle.script_events.specs.declared.event.InterfaceEvent.TheVariants as ie
use Rattle.event_verdicts.specs.declared.verdict.Verdict.TheVariants as v
use Rattle.ide_types.specs.declared.verdict.InterfaceVerdict.TheVariants as iv
use Rattle.all_links.specs.Interfaces.{flr_as, interface_named, interface_of_ends}
use Rattle.all_links.proofs.Finds.{only_says}
use Rattle.all_links.proofs.Asked.{is_found, is_there, called, place_kept}
use Rattle.all_links.proofs.BesideAfter.{nothing_called, called_beside}
use Rattle.all_links.proofs.links.Links.flr.Goals as goal

pub flr-state-requires : goal.flr-state-requires
flr-state-requires c =
    record {
      here = is_there c.args.self.now.keeper.interfaces c.args.self.now.ends c.args.number
          (Some (c.in-Some.link, c.in-Some.place)) (sym c.in-Some.is ∙ c.requires.here);
    }

pub returns-in-None-clause-ends : goal.returns-in-None-clause-ends
returns-in-None-clause-ends c plan =
    only_says plan (ie.Flr c.args.number)
    (ap (λ (o : Option (ℕ × ℕ)). Some
    (flr_as c.args.number (option_and_then (interface_of_ends c.args.self.now.ends.links) o)))
    (sym c.in-None.is ∙ c.requires.here)) c.only.ensures.value c.only.ensures.links c.requires.bounded

pub returns-in-Some-clause-ends : goal.returns-in-Some-clause-ends
returns-in-Some-clause-ends c plan =
    called plan c.args.self.now c.args.number (c.in-Some.link, c.in-Some.place) LevelReset c.flr-state.result
    c.flr-state.new.self c.shows.new.self c.shows.result (ie.Flr c.args.number)
    (λ code. v.Interface (iv.Flr c.args.number code)) (sym c.in-Some.is ∙ c.requires.here) c.flr-state.ensures
    (λ tdi is. ap (λ (o : Option DeviceTdi). Some (flr_as c.args.number o)) (sym is)) c.shows.ensures.value
    c.shows.ensures.links c.requires.bounded

pub returns-in-None-clause-sides : goal.returns-in-None-clause-sides
returns-in-None-clause-sides c =
    nothing_called c.args.number (λ tdi. true) LevelReset (sym c.in-None.is ∙ c.requires.here) c.only.ensures.links

pub returns-in-Some-clause-sides : goal.returns-in-Some-clause-sides
returns-in-Some-clause-sides c =
    called_beside c.args.self.now c.shows.new.self c.args.number (c.in-Some.link, c.in-Some.place) (λ tdi. true)
    LevelReset c.flr-state.result c.flr-state.new.self (sym c.in-Some.is ∙ c.requires.here)
    (λ l tdi link_there tdi_there. refl) c.flr-state.ensures c.shows.ensures.links

pub returns-in-None-clause-place : goal.returns-in-None-clause-place
returns-in-None-clause-place c = ap (λ (s : Links). interface_named s.keeper.interfaces s.ends.links c.args.number)
    c.only.ensures.links ∙ sym c.requires.here

pub returns-in-Some-clause-place : goal.returns-in-Some-clause-place
returns-in-Some-clause-place c =
    let s = c.args.self.now in
    let x = is_found s.keeper.interfaces s.ends c.args.number (c.in-Some.link, c.in-Some.place)
    (sym c.in-Some.is ∙ c.requires.here) in
    let a = c.flr-state.ensures x.ends_at x.link_there in
    ap (λ (s : Links). interface_named s.keeper.interfaces s.ends.links c.args.number) c.shows.ensures.links
    ∙ place_kept s.keeper.interfaces s.ends c.flr-state.new.self c.args.number c.in-Some.link x.ends_at a.0 x.link_there
    a.1 (ap (λ (l : LinkEnds). length l.device.interfaces.interfaces) (a.2.ends x.tdi x.tdi_there)
    ∙ length-set x.ends_at.device.interfaces.interfaces c.in-Some.place _)
    ∙ sym c.requires.here
