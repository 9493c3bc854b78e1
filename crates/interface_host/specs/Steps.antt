-- The exchanges of each operation on an interface, in order, and their requests (TDISP section 11.3, in this profile).
use Rattle.std.specs.Prelude.{ℕ, ◌+◌, List}
use Rattle.interface_host.specs.declared.operation.InterfaceOperation.{InterfaceOperation}
use Rattle.interface_host.specs.declared.operation.InterfaceOperation.TheVariants as op
use Rattle.interface_host.specs.declared.step.Step.{Step}
use Rattle.interface_host.specs.declared.step.Step.TheVariants as step

abbrev pub first_step : InterfaceOperation → Step
first_step op.Lock = step.Version
first_step op.Report = step.Report
first_step op.Start = step.Start
first_step op.Halt = step.Halt
first_step op.State = step.State
first_step (op.Bind peer) = step.Bind peer
first_step (op.Unbind peer) = step.Unbind peer

-- GET_VERSION, GET_CAPABILITIES and LOCK_INTERFACE in turn; portion after portion
abbrev pub next_step : Step → Step
next_step step.Version = step.Capabilities
next_step step.Capabilities = step.Lock
next_step s = s

-- what was read of a report so far, and in how many portions
pub record Read : Type 0 where
  pub bytes : List ℕ
  pub portions : ℕ

-- the exchange's number, from 1
abbrev pub exchange_number : Step → Read → ℕ
exchange_number step.Version read = 1
exchange_number step.Capabilities read = 2
exchange_number step.Lock read = 3
exchange_number step.Report read = read.portions + 1
exchange_number s read = 1
