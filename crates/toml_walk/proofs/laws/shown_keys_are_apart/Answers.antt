use Rattle.std.proofs.Common.{refl}
use Rattle.toml_walk.specs.Shown.{is_bare}
use Rattle.toml_walk.proofs.KeysBack.{keys_apart, shown_printable}
use Rattle.toml_walk.proofs.laws.shown_keys_are_apart.Goals as goal

pub returns-clause-apart : goal.returns-clause-apart
returns-clause-apart c k l one two e = keys_apart (is_bare k) (is_bare l) k l refl refl one two e

pub returns-clause-printable : goal.returns-clause-printable
returns-clause-printable c k = shown_printable k
