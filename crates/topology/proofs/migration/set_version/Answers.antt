use Rattle.topology.proofs.Inserted.{set_is}
use Rattle.topology.proofs.migration.set_version.Goals as goal

pub returns-clause-set : goal.returns-clause-set
returns-clause-set c = set_is c.in_ok-key.key c.args.table.now.entries c.insert.new.self.entries
    c.in_ok-insert.ensures.entries c.in_ok-key.ensures.ok
