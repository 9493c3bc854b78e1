use Rattle.std.proofs.Common.{ℕ, ◌&&◌, List, ap, sym, ◌∙◌}
use Rattle.std.proofs.lemmas.Option.{slice_get_within}
use Rattle.std.specs.Prelude.{not, Some}
use Rattle.all_links.specs.Accesses.{place_runs}
use Rattle.all_links.proofs.Asked.{is_found, is_there}
use Rattle.whole_links.proofs.Accesses.{accesses_there, floors_here}
use Rattle.whole_links.proofs.whole.WholeLinks.note_start.Goals as goal

pub runs-requires : goal.runs-requires
runs-requires c =
    let s = c.args.self.now.links in
    is_there s.keeper.interfaces s.ends c.args.interface c.args.at c.requires.here

pub device_draw-draw-requires : goal.device_draw-draw-requires
device_draw-draw-requires c =
    let s = c.args.self.now.links in
    let named = sym c.in-Some.is ∙ c.requires.here in
    let x = is_found s.keeper.interfaces s.ends c.args.interface (c.in-Some.link, c.in-Some.place) named in
    record {
      here = slice_get_within s.ends.links c.in-Some.link x.ends_at x.link_there;
      interface = slice_get_within s.keeper.interfaces.interfaces c.args.interface x.kept x.kept_there;
    }

pub at_mut-requires : goal.at_mut-requires
at_mut-requires c =
    let s = c.args.self.now.links in
    accesses_there c.args.self.now (Some (c.in-Some.link, c.in-Some.place)) c.requires.bounded.whole
    (is_there s.keeper.interfaces s.ends c.args.interface (Some (c.in-Some.link, c.in-Some.place))
    (sym c.in-Some.is ∙ c.requires.here))

pub returns-in-Some-clause-accesses : goal.returns-in-Some-clause-accesses
returns-in-Some-clause-accesses c =
    let a = c.at_mut.result.now in
    let named = sym c.in-Some.is ∙ c.requires.here in
    let runs = ap (place_runs c.args.self.now.links) (sym c.requires.here) ∙ sym c.runs.ensures
    ∙ c.if-not-runs.false in
    floors_here c.args.self.now.links c.args.interface _ (c.in-Some.link, c.in-Some.place) c.device_draw-draw.result
    c.args.self.now.accesses a (record a { floors = c.start.new.self })
    (λ j. not (c.if-ran.false j) && runs j) named c.at_mut.ensures.value c.device_draw-draw.ensures
    (ap (λ (ns : List ℕ). record a { floors = ns }) c.start.ensures)
