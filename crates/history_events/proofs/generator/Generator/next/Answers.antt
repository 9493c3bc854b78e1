use Rattle.std.proofs.Common.{◌∙◌, sym}
use Rattle.history_events.proofs.Rounds.{step_of, round_is}
use Rattle.history_events.proofs.generator.Generator.next.Goals as goal

pub returns-in-Some : goal.returns-in-Some
returns-in-Some c = sym c.self.view_is ∙ step_of _ _ c.in-Some.step _ c.self.inside.rounds c.self.inside.numbers
    c.in-Some.is c.after-self-inside.ensures c.event.ensures

pub returns : goal.returns
returns c = sym c.self.view_is ∙ round_is _ c.self.inside.rounds c.self.inside.numbers c.in_ok-round.round
    c.in_default.is c.if-self-eq0.false c.in_ok-round.ensures.gives
