-- What operations of the manager name.
use Rattle.std.specs.Prelude.{ℕ}
use Rattle.event_verdicts.specs.declared.verdict.Operation.{Operation}
use Rattle.event_verdicts.specs.declared.verdict.Operation.TheVariants as op
use Rattle.key_host.specs.declared.operation.NamedOperation.{NamedOperation}
use Rattle.key_host.specs.declared.operation.NamedOperation.TheVariants.{Establish, Refresh, Stop}

-- an operation on a stream of a line
pub record OpName : Type 0 where
  pub operation : Operation
  pub line : ℕ
  pub stream : ℕ

abbrev pub op_name : NamedOperation → OpName
op_name (Establish line stream) = record { operation = op.Establish; line = line; stream = stream }
op_name (Refresh line stream) = record { operation = op.Refresh; line = line; stream = stream }
op_name (Stop line stream) = record { operation = op.Stop; line = line; stream = stream }
