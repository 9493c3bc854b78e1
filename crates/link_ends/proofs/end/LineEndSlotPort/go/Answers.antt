use Rattle.key_slots.specs.{Go, is_one}
use Rattle.link_ends.proofs.Turned.{slots_turned}
use Rattle.link_ends.proofs.end.LineEndSlotPort.go.Goals as goal

pub returns-clause-slots : goal.returns-clause-slots
returns-clause-slots c = slots_turned c.args.self.now c.go.new.self c.args.place c.at_end.result
    (Go (is_one c.args.set)) c.at_end.ensures c.go.ensures.slots
