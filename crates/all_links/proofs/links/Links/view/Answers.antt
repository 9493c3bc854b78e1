use Rattle.all_links.proofs.Terms.{ℕ, Option, Some, subst, slice_get, InterfacesView, ap, sym, ◌∙◌, ◌≡◌}
use Rattle.std.specs.Prelude.{IfSome}
use Rattle.ide_types.specs.declared.view.View.{View}
use Rattle.interface_host.specs.Views.{HostTdi, view_of}
use Rattle.script_events.specs.declared.event.InterfaceEvent.TheVariants as ie
use Rattle.event_verdicts.specs.declared.verdict.Verdict.TheVariants as v
use Rattle.ide_types.specs.declared.verdict.InterfaceVerdict.TheVariants as iv
use Rattle.all_links.specs.Interfaces.{viewed_as, interface_seen_at, interface_named}
use Rattle.all_links.proofs.Finds.{only_says}
use Rattle.all_links.proofs.Asked.{if_some, is_found}
use Rattle.all_links.proofs.BesideAfter.{keeps_all}
use Rattle.all_links.proofs.links.Links.view.Goals as goal

pub returns-in-None-clause-ends : goal.returns-in-None-clause-ends
returns-in-None-clause-ends c plan =
    only_says plan (ie.View c.args.number)
    (ap (λ (o : Option (ℕ × ℕ)). Some (viewed_as c.args.number
    (interface_seen_at c.args.self.now.keeper.interfaces c.args.number o))) c.in-None.ensures.place)
    c.only.ensures.value c.only.ensures.links c.requires.bounded

pub returns-in-Some-clause-ends : goal.returns-in-Some-clause-ends
returns-in-Some-clause-ends c plan =
    let m = c.args.self.now.keeper.interfaces in
    let n : ℕ = c.args.number in
    let x = is_found m c.args.self.now.ends n c.in-Some.field-0 c.in-Some.ensures.place in
    let seen : c.view-view.result ≡ view_of x.kept.seen =
    if_some (λ (k : HostTdi). c.view-view.result ≡ view_of k.seen) (slice_get m.interfaces n) x.kept x.kept_there
    (subst
    (λ (y : InterfacesView). IfSome (slice_get y.interfaces n) (λ (k : HostTdi). c.view-view.result ≡ view_of k.seen))
    c.manager.ensures c.view-view.ensures) in
    let due : v.Interface (iv.View n c.view-view.result)
    ≡ viewed_as n (interface_seen_at m n (interface_named m c.args.self.now.ends.links n)) =
    ap (λ (y : View). v.Interface (iv.View n y)) seen
    ∙ sym (ap (λ (o : Option HostTdi). viewed_as n o)
    (ap (λ (o : Option (ℕ × ℕ)). interface_seen_at m n o) (sym c.in-Some.ensures.place) ∙ x.kept_there)) in
    only_says plan (ie.View n) (ap Some due) c.shows.ensures.value c.shows.ensures.links c.requires.bounded

pub returns-in-None-clause-sides : goal.returns-in-None-clause-sides
returns-in-None-clause-sides c = keeps_all c.only.ensures.links

pub returns-in-Some-clause-sides : goal.returns-in-Some-clause-sides
returns-in-Some-clause-sides c = keeps_all c.shows.ensures.links
