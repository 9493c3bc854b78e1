use Rattle.std.proofs.Common.{arith}
use Rattle.line_arrivals.proofs.Landing.{land_through, land_gone, land_off_way, land_off_port, land_wait, land_take}
use Rattle.line_arrivals.proofs.arriving.land.Goals as goal

pub returns-then-goes_through-clause-lands : goal.returns-then-goes_through-clause-lands
returns-then-goes_through-clause-lands c =
    land_through c.args.arriving.now.plan.now c.args.arriving.now.manager.now c.args.arriving.now.end
    c.args.arriving.now.bytes.now c.args.ends.now c.args.trusted.now.contents c.args.accesses.now c.reached-end.result
    c.reached-end.ensures c.port_of-port.result c.if-goes_through.ensures c.port_of-port.ensures

pub returns-then-not-has_end-clause-lands : goal.returns-then-not-has_end-clause-lands
returns-then-not-has_end-clause-lands c =
    land_gone c.args.arriving.now.plan.now c.args.arriving.now.manager.now c.args.arriving.now.end
    c.args.arriving.now.bytes.now c.args.ends.now c.args.trusted.now.contents c.args.accesses.now c.reached-end.result
    c.reached-end.ensures c.if-not-has_end.ensures

pub returns-then-way-count-clause-lands : goal.returns-then-way-count-clause-lands
returns-then-way-count-clause-lands c =
    land_off_way c.args.arriving.now.plan.now c.args.arriving.now.manager.now c.args.arriving.now.end
    c.args.arriving.now.bytes.now c.args.ends.now c.args.trusted.now.contents c.args.accesses.now c.reached-end.result
    c.reached-end.ensures c.in-Some.way c.in-Some.ensures
    (omega (arith, c.if-way-count.true, c.count.ensures.value))

pub returns-then-port-count-clause-lands : goal.returns-then-port-count-clause-lands
returns-then-port-count-clause-lands c =
    land_off_port c.args.arriving.now.plan.now c.args.arriving.now.manager.now c.args.arriving.now.end
    c.args.arriving.now.bytes.now c.args.ends.now c.args.trusted.now.contents c.args.accesses.now c.reached-end.result
    c.reached-end.ensures c.port_of-port.result c.in-None.ensures c.port_of-port.ensures
    (omega (arith, c.if-port-count.true, c.count-in-None.ensures.value))

pub returns-else-way-count-clause-lands : goal.returns-else-way-count-clause-lands
returns-else-way-count-clause-lands c =
    land_wait c.args.arriving.now.plan.now c.args.arriving.now.manager.now c.args.arriving.now.end
    c.args.arriving.now.bytes.now c.args.ends.now c.args.trusted.now.contents c.args.accesses.now c.reached-end.result
    c.reached-end.ensures c.wait_at.result c.wait_at.new.ends c.wait_at.new.accesses c.in-Some.way
    c.if-goes_through.ensures c.in-Some.ensures c.if-not-has_end.ensures
    (omega (arith, c.if-way-count.false, c.count.ensures.value, c.requires.many)) c.wait_at.ensures.comes

pub returns-else-port-count-clause-lands : goal.returns-else-port-count-clause-lands
returns-else-port-count-clause-lands c =
    land_take c.args.arriving.now.plan.now c.args.arriving.now.manager.now c.args.arriving.now.end
    c.args.arriving.now.bytes.now c.args.ends.now c.args.trusted.now.contents c.args.accesses.now c.reached-end.result
    c.reached-end.ensures c.bytes_arrive.result c.bytes_arrive.new.ends c.bytes_arrive.new.trusted.contents
    c.bytes_arrive.new.accesses
    c.port_of-port.result c.if-goes_through.ensures c.in-None.ensures c.port_of-port.ensures
    (omega (arith, c.if-port-count.false, c.count-in-None.ensures.value)) c.requires.many c.bytes_arrive.ensures.brings
