use Rattle.all_ends.proofs.Terms.{◌≡◌, ◌∙◌, ◌<◌, ap, sym, subst, refl, length, Option, Some, slice_get, same_Some}
use Rattle.all_ends.proofs.Terms.{slice_get_within, EndsView, PortEnd, port_on, with_port_on, take_step}
use Rattle.std.specs.Prelude.{IsSome, is_some, true, false}
use Rattle.ide_prefix.specs.Reading.{cut_of}
use Rattle.ide_port.specs.declared.answer.Arrival.{Arrival}
use Rattle.link_stores.specs.declared.link.LinkAccesses.{LinkAccesses}
use Rattle.arrival_verdicts.specs.Verdicts.{grants_in}
use Rattle.all_ends.specs.AllEnds.{Comes, settled_by_side}
use Rattle.all_ends.proofs.ByPlace.{there}
use Rattle.all_ends.proofs.Lent.{some_port, port_put, link_after}
use Rattle.all_ends.proofs.Comes.{comes_as}
use Rattle.all_ends.proofs.all_ends.AllEnds.arrive.Goals as goal

pub arrived-verdict-requires-clause-here : goal.arrived-verdict-requires-clause-here
arrived-verdict-requires-clause-here c =
    let e = some_port (port_on c.args.self.now c.args.end) (sym c.if-not-has_end.ensures) in
    let t = c.take-arrival.ensures e.0 e.1 in
    subst (λ (o : Option PortEnd). IsSome o)
    (sym (ap (λ (v : EndsView). port_on v c.args.end) t.new_is
    ∙ port_put c.args.self.now c.args.end e.0 (take_step e.0 (cut_of c.args.bytes.now)).port e.1)) refl

pub arrived-verdict-requires-clause-link : goal.arrived-verdict-requires-clause-link
arrived-verdict-requires-clause-link c =
    let e = some_port (port_on c.args.self.now c.args.end) (sym c.if-not-has_end.ensures) in
    let t = c.take-arrival.ensures e.0 e.1 in
    let p : PortEnd = (take_step e.0 (cut_of c.args.bytes.now)).port in
    let l = there c.args.self.now.links c.args.port.line c.requires.link in
    let l' = link_after c.args.self.now c.args.end p c.args.port.line l.0 l.1 in
    subst (λ (v : EndsView). c.args.port.line < length v.links) (sym t.new_is)
    (slice_get_within (with_port_on c.args.self.now c.args.end p).links c.args.port.line l'.0 l'.1)

pub returns-then-not-has_end-clause-arrives : goal.returns-then-not-has_end-clause-arrives
returns-then-not-has_end-clause-arrives c = λ e l a is at access.
    let here : true ≡ false = ap (λ (o : Option PortEnd). is_some o) (sym is) ∙ sym c.if-not-has_end.ensures in absurd
    cc

pub returns-then-not-has_end-clause-absent : goal.returns-then-not-has_end-clause-absent
returns-then-not-has_end-clause-absent c none =
    record { verdict_is = refl; ends_stay = refl; memory_stays = refl; accesses_stay = refl }

pub returns-clause-absent : goal.returns-clause-absent
returns-clause-absent c none = let never : true ≡ false = c.if-not-has_end.ensures ∙ none in absurd cc

pub returns-clause-arrives : goal.returns-clause-arrives
returns-clause-arrives c = λ e l a is at access.
    let t = c.take-arrival.ensures e is in
    let p : PortEnd = (take_step e (cut_of c.args.bytes.now)).port in
    let after : port_on c.take-arrival.new.self c.args.end ≡ Some p =
    ap (λ (v : EndsView). port_on v c.args.end) t.new_is ∙ port_put c.args.self.now c.args.end e p is in
    let l' = link_after c.args.self.now c.args.end p c.args.port.line l at in
    let here : slice_get c.take-arrival.new.self.links c.args.port.line ≡ Some l'.0 =
    ap (λ (v : EndsView). slice_get v.links c.args.port.line) t.new_is ∙ l'.1 in
    let regions = c.args.memory.now.contents.regions in
    let grants = grants_in c.args.manager.now in
    let alike : c.at_mut-access.result.now ≡ a =
    same_Some c.at_mut-access.result.now a (sym c.at_mut-access.ensures.value ∙ access) in
    record {
      access = c.arrived-verdict.new.access;
      new_is = c.settle_port.ensures ∙ ap (λ (v : EndsView). settled_by_side c.args.port v) t.new_is;
      accesses_are = refl;
      came = subst (λ (b : LinkAccesses). Comes regions grants c.args.end c.args.port
          (take_step e (cut_of c.args.bytes.now)).answer c.arrived-verdict.result c.args.memory.now.contents
          c.arrived-verdict.new.memory.contents b c.arrived-verdict.new.access p l) alike
          (subst (λ (answer : Arrival). Comes regions grants c.args.end c.args.port answer c.arrived-verdict.result
          c.args.memory.now.contents c.arrived-verdict.new.memory.contents c.at_mut-access.result.now
          c.arrived-verdict.new.access p l) t.answer_is
          (comes_as regions grants c.args.end c.args.port c.take-arrival.result c.arrived-verdict.result
          c.args.memory.now.contents c.arrived-verdict.new.memory.contents c.at_mut-access.result.now
          c.arrived-verdict.new.access p l'.0 l l'.2
          (c.arrived-verdict.ensures.comes p l'.0 after here)));
    }
