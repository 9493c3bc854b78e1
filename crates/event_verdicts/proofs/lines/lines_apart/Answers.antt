use Rattle.event_verdicts.proofs.Spellings.{lines_apart}
use Rattle.event_verdicts.proofs.lines.lines_apart.Goals as goal

pub returns : goal.returns
returns c = lines_apart
