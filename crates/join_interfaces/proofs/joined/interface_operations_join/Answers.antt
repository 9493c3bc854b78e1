use Rattle.join_interfaces.proofs.Joins.{operations_join}
use Rattle.join_interfaces.proofs.joined.interface_operations_join.Goals as goal

pub returns : goal.returns
returns c = operations_join (record {
  keepers = c.keepers_walk.ensures;
  stated_is = c.operations_are_stated.ensures;
  read_is = c.reports_are_read.ensures.read;
  refused_is = c.reports_are_read.ensures.refused;
  fit = c.reports_fit.ensures;
})
