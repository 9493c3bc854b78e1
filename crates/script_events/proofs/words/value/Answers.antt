use Rattle.std.proofs.Common.{◌∙◌, subst}
use Rattle.std.specs.Str.Parse.{ParsesUnsigned}
use Rattle.ide_types.specs.Names.{Text}
use Rattle.script_events.proofs.Numbers.{value_read, no_text}
use Rattle.script_events.proofs.words.value.Goals as goal

pub returns-in-Ok : goal.returns-in-Ok
returns-in-Ok c =
    let same = c.in-Ok.ensures.cases.0 in
    let reads = subst (λ (ds : Text). ParsesUnsigned 64 c.args.radix ds c.from_str_radix.result) same
    c.from_str_radix.ensures.value in
    c.ok.ensures.value ∙ value_read c.args.radix c.args.digits.now c.from_str_radix.result c.requires.unsigned reads

pub returns-in-Err : goal.returns-in-Err
returns-in-Err c = no_text c.args.radix c.args.digits.now c.requires.upper_bound c.in-Err.ensures.cases.0
