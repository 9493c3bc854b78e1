use Rattle.std.proofs.Common.{◌≡◌, ◌∙◌, ap, false, map, sym, true}
use Rattle.std.specs.Prelude.{Some, string_bytes}
use Rattle.clap.specs.declared.error.kind.ErrorKind.TheVariants as kind
use Rattle.cli_words.proofs.Asking.{asks_met, asks_nothing, asks_two, met_is, none_found, some_found}
use Rattle.cli_words.proofs.read_words.Goals as goal

pub returns-then-asks_both-clause-err : goal.returns-then-asks_both-clause-err
returns-then-asks_both-clause-err c =
    asks_two (map string_bytes c.args.words.now) _
    (met_is _ _ _ c.in-Ok.ensures c.in-Ok-try_get_matches_from.ensures.matches)
    (sym c.asks_both.ensures ∙ c.if-asks_both.true)

pub returns-in-Ok-try_get_matches_from-clause-ok : goal.returns-in-Ok-try_get_matches_from-clause-ok
returns-in-Ok-try_get_matches_from-clause-ok c =
    asks_met (map string_bytes c.args.words.now) _ (none_found _ _ c.in-Ok.ensures
    c.in-Ok-try_get_matches_from.ensures.kinds)
    (met_is _ _ _ c.in-Ok.ensures c.in-Ok-try_get_matches_from.ensures.matches)
    (sym c.asks_both.ensures ∙ c.if-asks_both.false)
    ∙ ap (λ a. Some a) (sym c.request_in.ensures.asks)

pub returns-clause-err : goal.returns-clause-err
returns-clause-err c =
    asks_nothing (map string_bytes c.args.words.now)
    (some_found _ _ c.in-Err-try_get_matches_from.error c.in-Ok.ensures
    c.in-Err-try_get_matches_from.ensures.kinds (λ is.
    let same : c.kind.result ≡ kind.OutOfMemory = c.kind.ensures ∙ is in
    let clash : false ≡ true = rw same at c.if-eq.ensures in
    absurd cc))
