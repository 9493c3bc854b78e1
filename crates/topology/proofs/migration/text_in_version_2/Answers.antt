use Rattle.toml.specs.View.{table_view}
use Rattle.topology.proofs.Inserted.{migrated_deep}
use Rattle.topology.proofs.migration.text_in_version_2.Goals as goal

pub text_of-requires : goal.text_of-requires
text_of-requires c = rw c.in-Ok.ensures.set (λ sorted. migrated_deep (table_view c.args.table) sorted c.requires)
