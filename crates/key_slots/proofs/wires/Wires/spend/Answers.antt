use Rattle.key_slots.proofs.SpentKeys.{spent_near, spent_far}
use Rattle.key_slots.proofs.wires.Wires.spend.Goals as goal

pub returns-then-i-lt6 : goal.returns-then-i-lt6
returns-then-i-lt6 c = spent_near c.in-Some.near c.self.inside.far c.spend_of_six-then-i-lt6.new.six c.args.self.now
    c.self.inside.near c.args.i c.in-Some.is c.self.view_is c.self.invariant c.if-i-lt6.true
    c.spend_of_six-then-i-lt6.ensures

pub returns-else-i-lt6 : goal.returns-else-i-lt6
returns-else-i-lt6 c = spent_far c.in-Some.near c.self.inside.far c.spend_of_six-else-i-lt6.new.six c.args.self.now
    c.self.inside.near c.args.i c.in-Some.is c.self.view_is c.self.invariant c.if-i-lt6.false
    c.spend_of_six-else-i-lt6.ensures
