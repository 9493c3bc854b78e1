use Rattle.std.proofs.Common.{rules, refl}
use Rattle.toml.specs.View.{table_view}
use Rattle.topology.proofs.Document.{document_read, document_refused}
use Rattle.topology.proofs.Inserted.{migrated_of}
use Rattle.topology.proofs.migration.migrate.Goals as goal

pub returns-in-Ok-plan_of_table-clause-text : goal.returns-in-Ok-plan_of_table-clause-text
returns-in-Ok-plan_of_table-clause-text c =
    migrated_of c.args.bytes.now (table_view c.in-Ok.table) c.in-Ok-plan_of_table.field-0 c.text_in_version_2.result
    (document_read c.args.bytes.now (table_view c.in-Ok.table) c.in-Ok.ensures.ok.0 c.in-Ok.ensures.ok.1)
    c.in-Ok-plan_of_table.ensures c.text_in_version_2.ensures.text

pub returns-in-Err-plan_of_table-clause-fault : goal.returns-in-Err-plan_of_table-clause-fault
returns-in-Err-plan_of_table-clause-fault c = rw
    (document_read c.args.bytes.now (table_view c.in-Ok.table) c.in-Ok.ensures.ok.0 c.in-Ok.ensures.ok.1)
    c.in-Err-plan_of_table.ensures

pub returns-else-is_memory-clause-fault : goal.returns-else-is_memory-clause-fault
returns-else-is_memory-clause-fault c = rw (document_refused c.args.bytes.now (c.in-Err.ensures.refused (search rules)))
    refl
