use Rattle.law_text.proofs.Reading.{lines_tell as tell, are_told}
use Rattle.law_text.proofs.laws.lines_tell.Goals as goal

pub returns-clause-tell : goal.returns-clause-tell
returns-clause-tell c = tell

pub returns-clause-told : goal.returns-clause-told
returns-clause-told c = are_told
