use Rattle.key_slots.specs.{Program, is_one}
use Rattle.link_ends.proofs.Turned.{slots_turned}
use Rattle.link_ends.proofs.end.LineEndSlotPort.program.Goals as goal

pub returns-clause-slots : goal.returns-clause-slots
returns-clause-slots c =
    slots_turned c.args.self.now c.program.new.self c.args.place c.at_end.result
    (Program (is_one c.args.set) c.args.key c.args.draw)
    c.at_end.ensures c.program.ensures.slots
