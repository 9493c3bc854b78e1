use Rattle.topology.proofs.EqualKeys.{looked_more}
use Rattle.topology.proofs.pairs.equal_keys.Goals as goal

pub loop-i-preserved-in-Some : goal.loop-i-preserved-in-Some
loop-i-preserved-in-Some c =
    let updates = rw c.in_ok-j.was at c.insert.ensures.updates in
    let more = looked_more c.args.keys.now c.loop-i.places c.insert.new.self c.loop-i.pair c.in_ok-j.field-0 c.loop-i.i
    c.loop-i-test.true c.loop-i.invariant c.in_ok-j.ensures.old updates in
    rw c.in-Some.is at more

pub loop-i-preserved : goal.loop-i-preserved
loop-i-preserved c =
    let updates = rw c.in_ok-j.was at c.insert.ensures.updates in
    let more = looked_more c.args.keys.now c.loop-i.places c.insert.new.self c.loop-i.pair c.in_ok-j.field-0 c.loop-i.i
    c.loop-i-test.true c.loop-i.invariant c.in_ok-j.ensures.old updates in
    rw c.in_default.is at more
