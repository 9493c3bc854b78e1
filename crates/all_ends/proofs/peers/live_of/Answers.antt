use Rattle.all_ends.proofs.Terms.{◌≡◌, ◌+◌, ◌-◌, ◌∙◌, ap, sym, Some, None, slice_get, option_and_then}
use Rattle.std.proofs.lemmas.Bool.{ltb-true, ltb-false}
use Rattle.std.proofs.lemmas.Option.{slice_get_past}
use Rattle.ide_types.proofs.Places.{get_at}
use Rattle.all_ends.specs.Ends.{live_at_port, pair_port}
use Rattle.all_ends.proofs.peers.live_of.Goals as goal

pub returns-in-None : goal.returns-in-None
returns-in-None c =
    let none : slice_get c.args.pairs.now (24 + c.args.number - 16) ≡ None =
    slice_get_past c.args.pairs.now _ (ltb-false _ _ (sym c.in-None.ensures.lookup.0)) in
    sym (ap (option_and_then (λ l. live_at_port (pair_port c.args.side l) c.args.stream)) none)

pub returns-in-Some : goal.returns-in-Some
returns-in-Some c =
    let lookup = c.in-Some.ensures.lookup in
    let there : slice_get c.args.pairs.now (24 + c.args.number - 16) ≡ Some c.in-Some.ends.now =
    get_at c.args.pairs.now _ c.in-Some.ends.now (ltb-true _ _ (sym lookup.0)) lookup.1 in
    c.live_at_port.ensures ∙ ap (λ l. live_at_port l.port c.args.stream) c.end.ensures
    ∙ sym (ap (option_and_then (λ l. live_at_port (pair_port c.args.side l) c.args.stream)) there)
