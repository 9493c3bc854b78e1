use Rattle.ide_prefix.proofs.Cuts.{plain_iff, cuts_iff, refuses_iff}
use Rattle.ide_prefix.proofs.laws.cutting_is_grammar.Goals as goal

pub returns-clause-plain : goal.returns-clause-plain
returns-clause-plain c = plain_iff

pub returns-clause-cuts : goal.returns-clause-cuts
returns-clause-cuts c = cuts_iff

pub returns-clause-refuses : goal.returns-clause-refuses
returns-clause-refuses c = refuses_iff
