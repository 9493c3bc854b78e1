use Rattle.std.proofs.Common.{ap, ◌∙◌}
use Rattle.std.specs.Prelude.{bytes_eq}
use Rattle.gcm_seal.specs.Gcm.{verifies}
use Rattle.gcm_seal.proofs.Gcm.verify.Goals as goal

pub returns : goal.returns
unfolding verifies
returns c = c.eq.ensures ∙ ap (bytes_eq c.args.tag.now) c.tag.ensures
