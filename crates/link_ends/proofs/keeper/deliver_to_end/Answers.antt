use Rattle.std.proofs.Common.{◌∙◌, ap, List, ℕ, ◌++◌}
use Rattle.link_ends.proofs.Terms.{current, Side}
use Rattle.link_ends.specs.LineEnds.{answered_end, line_end_in, end_reply, with_end}
use Rattle.link_ends.proofs.Calls.{asked_of_end}
use Rattle.link_ends.proofs.keeper.deliver_to_end.Goals as goal

pub returns-clause-ends : goal.returns-clause-ends
returns-clause-ends c =
    asked_of_end (current c.args.manager.now)
    (λ (side : Side) (request : List ℕ) (draw : ℕ). with_end side
    (answered_end (line_end_in side c.args.ends.now) request draw) c.args.ends.now)
    _ c.end.result c.deref.result.now c.ask-draw.new.out.items c.clear.new.self.items c.ask-draw.result
    c.deref.ensures.value c.clear.ensures.items c.end.ensures c.ask-draw.ensures.items c.ask-draw.ensures.draw
    c.answer.ensures.ends

pub returns-clause-reply : goal.returns-clause-reply
returns-clause-reply c =
    asked_of_end (current c.args.manager.now)
    (λ (side : Side) (request : List ℕ) (draw : ℕ). end_reply (line_end_in side c.args.ends.now) request draw)
    _ c.end.result c.deref.result.now c.ask-draw.new.out.items c.clear.new.self.items c.ask-draw.result
    c.deref.ensures.value c.clear.ensures.items c.end.ensures c.ask-draw.ensures.items c.ask-draw.ensures.draw
    (c.answer.ensures.reply
    ∙ ap (λ (before : List ℕ). before
    ++ end_reply (line_end_in c.end.result c.args.ends.now) c.deref.result.now c.ask-draw.result)
    c.clear-2.ensures.items)
