use Rattle.std.proofs.Common.{◌≡◌, Some, get_or, ap}
use Rattle.interface_host.specs.Judging.{answer_shown, interface_judged}
use Rattle.interface_host.proofs.Takes.{asked_now, outcome_now, manager_now}
use Rattle.interface_host.proofs.interfaces.Interfaces.take.Goals as goal

pub returns-clause-outcome : goal.returns-clause-outcome
returns-clause-outcome c =
    let asked : c.args.self.now.asking ≡ Some c.in-Some.asking = rw (← c.self.view_is) c.in-Some.is in
    let is : c.index_mut-interface.result.now ≡ get_or c.args.self.now.interfaces c.in-Some.asking.place
    c.index_mut-interface.result.now = rw (← c.self.view_is) c.index_mut-interface.ensures.value in
    let reply : answer_shown c.judge-answer.result ≡ interface_judged c.in-Some.asking.step
    c.index_mut-interface.result.now.requester c.args.self.now.portion c.len-read.result c.args.carried
    = rw (← c.self.view_is, ← c.requester.ensures, ← c.from-function.ensures) c.judge-answer.ensures.answer in
    outcome_now c.args.self.now c.in-Some.asking c.index_mut-interface.result.now c.take.new.self c.args.carried
    c.exchange-exchange.result c.len-read.result (answer_shown c.judge-answer.result)
    c.outcome-outcome.result (asked_now c.args.self.now _ _ asked is c.requires)
    (rw (← c.self.view_is) c.exchange-exchange.ensures) (rw (← c.self.view_is) c.len-read.ensures.value)
    reply c.take.ensures c.outcome-outcome.ensures

pub returns-clause-manager : goal.returns-clause-manager
returns-clause-manager c =
    let asked : c.args.self.now.asking ≡ Some c.in-Some.asking = rw (← c.self.view_is) c.in-Some.is in
    let is : c.index_mut-interface.result.now ≡ get_or c.args.self.now.interfaces c.in-Some.asking.place
    c.index_mut-interface.result.now = rw (← c.self.view_is) c.index_mut-interface.ensures.value in
    let reply : answer_shown c.judge-answer.result ≡ interface_judged c.in-Some.asking.step
    c.index_mut-interface.result.now.requester c.args.self.now.portion c.len-read.result c.args.carried
    = rw (← c.self.view_is, ← c.requester.ensures, ← c.from-function.ensures) c.judge-answer.ensures.answer in
    manager_now c.args.self.now c.in-Some.asking c.index_mut-interface.result.now c.take.new.self c.args.carried
    c.exchange-exchange.result c.len-read.result (answer_shown c.judge-answer.result)
    c.outcome-outcome.result c.still_asking-self-inside.result c.take-2.new.self _ _
    (asked_now c.args.self.now _ _ asked is c.requires) (rw (← c.self.view_is) c.exchange-exchange.ensures)
    (rw (← c.self.view_is) c.len-read.ensures.value) reply c.take.ensures c.outcome-outcome.ensures
    c.still_asking-self-inside.ensures (rw (← c.self.view_is) c.take-2.ensures)
    (ap (λ m. m.interfaces) c.self.view_is) (ap (λ m. m.portion) c.self.view_is)
