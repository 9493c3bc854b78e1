use Rattle.std.proofs.Common.{◌≡◌, ◌+◌, ◌-◌, ◌++◌}
use Rattle.ide_types.specs.{is_hosted}
use Rattle.spec_keys.specs.Operations.{last_exchange_of}
use Rattle.told_facts.specs.Exchanges.{exchanges_from, key_exchange, key_exchanges}
use Rattle.told_facts.proofs.keys.push_key_exchanges.Given as goal

-- the facts so far and the exchanges that are left
abbrev pub invariant-loop-past : goal.invariant-loop-past
invariant-loop-past l =
    l.facts.items
    ++ exchanges_from (key_exchange l.plan l.left.line l.left.stream l.left.operation l.left.set l.left.draw)
    (l.past + 1) (last_exchange_of (is_hosted l.left.line) l.left.operation - l.past)
    ≡ l.fn.facts.items ++ key_exchanges l.plan l.left.line l.left.stream l.left.operation l.left.set l.left.draw
    l.left.first
