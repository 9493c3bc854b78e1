use Rattle.tlp_layout.proofs.Readings.{head_sized, front_is, rest_is, small_body, spells_whole}
use Rattle.std.proofs.Common.{ap, length, ◌∙◌}
use Rattle.tlp_layout.proofs.laws.parts_of_spelling.Goals as goal

pub returns-clause-head_size : goal.returns-clause-head_size
returns-clause-head_size c h s p = ap length p.spelled ∙ head_sized h p.fits

pub returns-clause-front : goal.returns-clause-front
returns-clause-front c = front_is

pub returns-clause-rest : goal.returns-clause-rest
returns-clause-rest c = rest_is

pub returns-clause-sizes : goal.returns-clause-sizes
returns-clause-sizes c = small_body

pub returns-clause-whole : goal.returns-clause-whole
returns-clause-whole c = spells_whole
