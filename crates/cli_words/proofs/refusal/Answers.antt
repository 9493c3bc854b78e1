use Rattle.std.proofs.Common.{◌≡◌, ◌∙◌, ap, false, map, sym, true}
use Rattle.std.specs.Prelude.{is_none, string_bytes}
use Rattle.clap.specs.declared.error.kind.ErrorKind.TheVariants as kind
use Rattle.cli_words.proofs.Asking.{asks_met, asks_nothing, asks_two, met_is, none_found, some_found}
use Rattle.cli_words.proofs.refusal.Goals as goal

pub returns-then-not-asks_both : goal.returns-then-not-asks_both
returns-then-not-asks_both c =
    sym (ap is_none (asks_met (map string_bytes c.args.words.now) _ (none_found _ _ c.in_ok-command.ensures
    c.in-Ok.ensures.kinds)
    (met_is _ _ _ c.in_ok-command.ensures c.in-Ok.ensures.matches) (sym c.asks_both.ensures ∙ c.if-not-asks_both.true)))

pub returns-in_ok-from_str-in-Ok : goal.returns-in_ok-from_str-in-Ok
returns-in_ok-from_str-in-Ok c =
    sym (ap is_none (asks_two (map string_bytes c.args.words.now) _
    (met_is _ _ _ c.in_ok-command.ensures c.in-Ok.ensures.matches)
    (sym c.asks_both.ensures ∙ c.if-not-asks_both.false)))

pub returns-in_ok-shown-in-Err : goal.returns-in_ok-shown-in-Err
returns-in_ok-shown-in-Err c =
    sym (ap is_none (asks_nothing (map string_bytes c.args.words.now)
    (some_found _ _ c.in-Err.error c.in_ok-command.ensures c.in-Err.ensures.kinds (λ is.
    let same : c.kind.result ≡ kind.OutOfMemory = c.kind.ensures ∙ is in
    let clash : false ≡ true = rw same at c.if-eq.ensures in
    absurd cc))))
