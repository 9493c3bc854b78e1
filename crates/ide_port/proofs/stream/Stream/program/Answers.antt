use Rattle.std.proofs.Common.{sym, ap, ◌∙◌, subst}
use Rattle.key_slots.specs.{is_one, Program}
use Rattle.ide_port.specs.Both.{rested_directions, IsStream}
use Rattle.ide_port.proofs.Settling.{call-kept}
use Rattle.ide_port.proofs.stream.Stream.program.Goals as goal

pub invariant_of-self : goal.invariant_of-self
invariant_of-self c =
    subst IsStream
    (sym (c.settle.ensures ∙ ap rested_directions c.program-answer.ensures.directions))
    (call-kept c.sends.result c.args.sub (Program (is_one c.args.set) c.args.key c.args.draw) c.self.inside.directions
    c.self.invariant)
