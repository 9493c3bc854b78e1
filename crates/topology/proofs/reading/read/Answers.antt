use Rattle.std.proofs.Common.{rules, refl}
use Rattle.toml.specs.View.{table_view}
use Rattle.topology.proofs.Document.{document_read, document_refused}
use Rattle.topology.proofs.PlanFits.{given_fits}
use Rattle.topology.proofs.reading.read.Goals as goal

pub returns-in-Ok-clause-gives : goal.returns-in-Ok-clause-gives
returns-in-Ok-clause-gives c = rw
    (document_read c.args.bytes.now (table_view c.in-Ok.table) c.in-Ok.ensures.ok.0 c.in-Ok.ensures.ok.1)
    c.plan_of_table.ensures

pub returns-in-Ok-clause-fits : goal.returns-in-Ok-clause-fits
returns-in-Ok-clause-fits c = given_fits (table_view c.in-Ok.table) c.plan_of_table.result c.plan_of_table.ensures

pub returns-else-is_memory-clause-gives : goal.returns-else-is_memory-clause-gives
returns-else-is_memory-clause-gives c = rw (document_refused c.args.bytes.now (c.in-Err.ensures.refused (search rules)))
    refl
