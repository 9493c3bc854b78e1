use Rattle.std.proofs.Common.{◌≡◌, ◌+◌, ◌-◌, ◌<◌, ◌≤◌, List, [], ◌∷◌, ◌++◌, length, Ok, Err, arith, ap, subst, sym, ◌∙◌}
use Rattle.std.proofs.lemmas.List.{append_assoc, append-nil}
use Rattle.std.specs.Prelude.{IfOk}
use Rattle.interface_state.specs.Machine.{portion_answer}
use Rattle.tdisp_codec.specs.declared.request.RequestView.TheVariants as request
use Rattle.tdisp_codec.specs.Replies.{DeviceInterfaceReport}
use Rattle.told_facts.specs.declared.fact.Fact.{Fact}
use Rattle.told_facts.specs.Exchanges.{known_exchange, report_from}
use Rattle.told_facts.proofs.Portions.{last_portion, no_portion, none_left, portion_more, portion_refused}
use Rattle.told_facts.proofs.interfaces.push_report.Goals as goal

pub returns-then-read-gt65535 : goal.returns-then-read-gt65535
returns-then-read-gt65535 c =
    let items : List Fact = c.loop-n.facts.items in
    let lt : c.loop-n.n < 1141 = omega (arith, c.loop-n-test.true) in
    let over : 65535 < c.loop-n.read = omega (arith, c.if-read-gt65535.true) in
    sym (append-nil items)
    ∙ ap (λ (fs : List Fact). items ++ fs)
    (sym (none_left c.args.function c.args.size c.args.interface.now c.loop-n.n c.loop-n.read 1141 lt over))
    ∙ c.loop-n.invariant

pub returns-in_default : goal.returns-in_default
returns-in_default c =
    let items : List Fact = c.loop-n.facts.items in
    let lt : c.loop-n.n < 1141 = omega (arith, c.loop-n-test.true) in
    let le : c.loop-n.read ≤ 65535 = omega (arith, c.if-read-gt65535.false) in
    let is : portion_answer c.args.interface.now c.loop-n.read c.args.size ≡ Err c.in_default.field-0 =
    sym c.in_default.ensures.answer in
    subst (λ (fs : List Fact). IfOk c.push_shown.result (λ _. c.push_shown.new.facts.items ≡ fs))
    (ap (λ (fs : List Fact). items ++ fs)
    (sym (portion_refused c.args.function c.args.size c.args.interface.now c.loop-n.n c.loop-n.read 1141 lt
    c.in_default.field-0 le is))
    ∙ c.loop-n.invariant)
    c.push_shown.ensures

pub returns-then-remainder-eq0 : goal.returns-then-remainder-eq0
returns-then-remainder-eq0 c =
    let items : List Fact = c.loop-n.facts.items in
    let lt : c.loop-n.n < 1141 = omega (arith, c.loop-n-test.true) in
    let le : c.loop-n.read ≤ 65535 = omega (arith, c.if-read-gt65535.false) in
    let none : c.in-Ok.remainder ≡ 0 = omega (arith, c.if-remainder-eq0.true) in
    let is : portion_answer c.args.interface.now c.loop-n.read c.args.size
    ≡ Ok (c.in-Ok.portion.now, c.in-Ok.remainder) = sym c.in-Ok.ensures.answer in
    c.in_ok-push_known.ensures
    ∙ ap (λ (fs : List Fact). items ++ fs)
    (sym (last_portion c.args.function c.args.size c.args.interface.now c.loop-n.n c.loop-n.read 1141 lt
    c.in-Ok.portion.now c.in-Ok.remainder le is none))
    ∙ c.loop-n.invariant

pub loop-n-preserved : goal.loop-n-preserved
loop-n-preserved c =
    let items : List Fact = c.loop-n.facts.items in
    let n = c.loop-n.n in
    let read = c.loop-n.read in
    let lt : c.loop-n.n < 1141 = omega (arith, c.loop-n-test.true) in
    let le : c.loop-n.read ≤ 65535 = omega (arith, c.if-read-gt65535.false) in
    let is : portion_answer c.args.interface.now c.loop-n.read c.args.size
    ≡ Ok (c.in-Ok.portion.now, c.in-Ok.remainder) = sym c.in-Ok.ensures.answer in
    let rest : List Fact = report_from c.args.function c.args.size c.args.interface.now (n + 1)
    (read + length c.in-Ok.portion.now) (1141 - (n + 1)) in
    let told : Fact = known_exchange n (request.GetDeviceInterfaceReport c.args.function read c.args.size)
    (DeviceInterfaceReport c.args.function c.in-Ok.remainder c.in-Ok.portion.now) in
    ap (λ (fs : List Fact). fs ++ rest) c.in_ok-push_known.ensures
    ∙ append_assoc items (told ∷ []) rest
    ∙ ap (λ (fs : List Fact). items ++ fs)
    (sym (portion_more c.args.function c.args.size c.args.interface.now n read 1141 lt
    c.in-Ok.portion.now c.in-Ok.remainder le is c.if-remainder-eq0.false))
    ∙ c.loop-n.invariant

pub returns : goal.returns
returns c =
    let items : List Fact = c.loop-n.facts.items in
    let none : 1141 - c.loop-n.n ≡ 0 = omega (arith, c.loop-n-test.false) in
    sym (append-nil items)
    ∙ ap (λ (fs : List Fact). items ++ fs)
    (sym (no_portion c.args.function c.args.size c.args.interface.now c.loop-n.n c.loop-n.read (1141 - c.loop-n.n)
    none))
    ∙ c.loop-n.invariant
