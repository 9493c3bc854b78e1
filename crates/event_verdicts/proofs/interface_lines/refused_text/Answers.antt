use Rattle.event_verdicts.proofs.interface_lines.refused_text.Goals as goal

pub returns-in-RefusedRefreshFirst : goal.returns-in-RefusedRefreshFirst
returns-in-RefusedRefreshFirst c = rw c.in-RefusedRefreshFirst.is c.format-in-RefusedRefreshFirst.ensures.ok
