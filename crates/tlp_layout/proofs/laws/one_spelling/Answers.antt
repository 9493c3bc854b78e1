use Rattle.tlp_layout.proofs.Readings.{same_tlp, same_head}
use Rattle.tlp_layout.proofs.laws.one_spelling.Goals as goal

pub returns-clause-one_tlp : goal.returns-clause-one_tlp
returns-clause-one_tlp c = same_tlp

pub returns-clause-one_head : goal.returns-clause-one_head
returns-clause-one_head c = same_head
