use Rattle.all_links.proofs.Terms.{ℕ, true, Option, Some, refl, ap, sym, option_and_then}
use Rattle.interface_state.specs.Machine.{DeviceTdi, FirmwareUpdate}
use Rattle.script_events.specs.declared.event.InterfaceEvent.TheVariants as ie
use Rattle.event_verdicts.specs.declared.verdict.Verdict.TheVariants as v
use Rattle.ide_types.specs.declared.verdict.InterfaceVerdict.TheVariants as iv
use Rattle.all_links.specs.Interfaces.{firmware_as, interface_of_ends}
use Rattle.all_links.proofs.Finds.{only_says}
use Rattle.all_links.proofs.Asked.{called}
use Rattle.all_links.proofs.BesideAfter.{nothing_called, called_beside}
use Rattle.all_links.proofs.links.Links.firmware.Goals as goal

pub returns-in-None-clause-ends : goal.returns-in-None-clause-ends
returns-in-None-clause-ends c plan =
    only_says plan (ie.Firmware c.args.number)
    (ap (λ (o : Option (ℕ × ℕ)). Some
    (firmware_as c.args.number (option_and_then (interface_of_ends c.args.self.now.ends.links) o)))
    c.in-None.ensures.place) c.only.ensures.value c.only.ensures.links c.requires.bounded

pub returns-in-Some-clause-ends : goal.returns-in-Some-clause-ends
returns-in-Some-clause-ends c plan =
    called plan c.args.self.now c.args.number (c.in-Some.link, c.in-Some.place) FirmwareUpdate c.firmware-state.result
    c.firmware-state.new.self c.shows.new.self c.shows.result (ie.Firmware c.args.number)
    (λ code. v.Interface (iv.Firmware c.args.number code)) c.in-Some.ensures.place c.firmware-state.ensures
    (λ tdi is. ap (λ (o : Option DeviceTdi). Some (firmware_as c.args.number o)) (sym is)) c.shows.ensures.value
    c.shows.ensures.links c.requires.bounded

pub returns-in-None-clause-sides : goal.returns-in-None-clause-sides
returns-in-None-clause-sides c =
    nothing_called c.args.number (λ tdi. true) FirmwareUpdate c.in-None.ensures.place c.only.ensures.links

pub returns-in-Some-clause-sides : goal.returns-in-Some-clause-sides
returns-in-Some-clause-sides c =
    called_beside c.args.self.now c.shows.new.self c.args.number (c.in-Some.link, c.in-Some.place) (λ tdi. true)
    FirmwareUpdate c.firmware-state.result c.firmware-state.new.self c.in-Some.ensures.place
    (λ l tdi link_there tdi_there. refl) c.firmware-state.ensures c.shows.ensures.links
