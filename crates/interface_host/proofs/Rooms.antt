-- A portion that is taken has room.
use Rattle.std.proofs.Common.{◌≡◌, ℕ, Bool, true, false, ◌==◌, List, length, Result, Ok, Err, refl, arith}
use Rattle.std.specs.Prelude.{if◌then◌else◌}
use Rattle.tdisp_codec.specs.declared.fault.TdispFault.{TdispFault}
use Rattle.tdisp_codec.specs.Replies.{Reply, Version, Capabilities, LockInterface, DeviceInterfaceReport}
use Rattle.tdisp_codec.specs.Replies.{DeviceInterfaceState, StartInterface, StopInterface, BindP2p, UnbindP2p, Error}
use Rattle.interface_host.specs.declared.step.Step.{Step}
use Rattle.interface_host.specs.declared.step.Step.TheVariants as step
use Rattle.interface_host.specs.Judging.{JudgedAnswer, Passed, Nonce, State, Bad, HasRoom, is_portion, if_portion}
use Rattle.interface_host.specs.Judging.{version_in, capabilities_in, judged_nonce, portion_in_reply, start_in, halt_in}
use Rattle.interface_host.specs.Judging.{state_in, bind_in, unbind_in, step_judged, interface_reply_judged}

fitting : (asked read : ℕ) (bytes : List ℕ) (remainder : ℕ) (fits : Bool)
    → is_portion asked read (length bytes) remainder ≡ fits → HasRoom read (if_portion fits bytes remainder)
fitting asked read bytes remainder true e = grind arith
fitting asked read bytes remainder false e = tt

-- a test that is true or false
chosen : (read : ℕ) (b : Bool) (x : JudgedAnswer) → HasRoom read x → HasRoom read (if b then x else Bad)
chosen read true x h = h
chosen read false x h = tt

version_room : (read function : ℕ) (r : Reply) → HasRoom read (version_in function r)
version_room read function (Version back versions) = chosen read (back == function) Passed tt
version_room read function (Capabilities back d q l w t a) = tt
version_room read function (LockInterface back nonce) = tt
version_room read function (DeviceInterfaceReport back m b) = tt
version_room read function (DeviceInterfaceState back s) = tt
version_room read function (StartInterface back) = tt
version_room read function (StopInterface back) = tt
version_room read function (BindP2p back) = tt
version_room read function (UnbindP2p back) = tt
version_room read function (Error back code value) = tt

capabilities_room : (read function : ℕ) (r : Reply) → HasRoom read (capabilities_in function r)
capabilities_room read function (Version back versions) = tt
capabilities_room read function (Capabilities back d q l w t a) = chosen read (back == function) Passed tt
capabilities_room read function (LockInterface back nonce) = tt
capabilities_room read function (DeviceInterfaceReport back m b) = tt
capabilities_room read function (DeviceInterfaceState back s) = tt
capabilities_room read function (StartInterface back) = tt
capabilities_room read function (StopInterface back) = tt
capabilities_room read function (BindP2p back) = tt
capabilities_room read function (UnbindP2p back) = tt
capabilities_room read function (Error back code value) = tt

nonce_room : (read function : ℕ) (r : Reply) → HasRoom read (judged_nonce function r)
nonce_room read function (Version back versions) = tt
nonce_room read function (Capabilities back d q l w t a) = tt
nonce_room read function (LockInterface back nonce) = chosen read (back == function) (Nonce nonce) tt
nonce_room read function (DeviceInterfaceReport back m b) = tt
nonce_room read function (DeviceInterfaceState back s) = tt
nonce_room read function (StartInterface back) = tt
nonce_room read function (StopInterface back) = tt
nonce_room read function (BindP2p back) = tt
nonce_room read function (UnbindP2p back) = tt
nonce_room read function (Error back code value) = tt

start_room : (read function : ℕ) (r : Reply) → HasRoom read (start_in function r)
start_room read function (Version back versions) = tt
start_room read function (Capabilities back d q l w t a) = tt
start_room read function (LockInterface back nonce) = tt
start_room read function (DeviceInterfaceReport back m b) = tt
start_room read function (DeviceInterfaceState back s) = tt
start_room read function (StartInterface back) = chosen read (back == function) Passed tt
start_room read function (StopInterface back) = tt
start_room read function (BindP2p back) = tt
start_room read function (UnbindP2p back) = tt
start_room read function (Error back code value) = tt

halt_room : (read function : ℕ) (r : Reply) → HasRoom read (halt_in function r)
halt_room read function (Version back versions) = tt
halt_room read function (Capabilities back d q l w t a) = tt
halt_room read function (LockInterface back nonce) = tt
halt_room read function (DeviceInterfaceReport back m b) = tt
halt_room read function (DeviceInterfaceState back s) = tt
halt_room read function (StartInterface back) = tt
halt_room read function (StopInterface back) = chosen read (back == function) Passed tt
halt_room read function (BindP2p back) = tt
halt_room read function (UnbindP2p back) = tt
halt_room read function (Error back code value) = tt

state_room : (read function : ℕ) (r : Reply) → HasRoom read (state_in function r)
state_room read function (Version back versions) = tt
state_room read function (Capabilities back d q l w t a) = tt
state_room read function (LockInterface back nonce) = tt
state_room read function (DeviceInterfaceReport back m b) = tt
state_room read function (DeviceInterfaceState back s) = chosen read (back == function) (State s) tt
state_room read function (StartInterface back) = tt
state_room read function (StopInterface back) = tt
state_room read function (BindP2p back) = tt
state_room read function (UnbindP2p back) = tt
state_room read function (Error back code value) = tt

bind_room : (read function : ℕ) (r : Reply) → HasRoom read (bind_in function r)
bind_room read function (Version back versions) = tt
bind_room read function (Capabilities back d q l w t a) = tt
bind_room read function (LockInterface back nonce) = tt
bind_room read function (DeviceInterfaceReport back m b) = tt
bind_room read function (DeviceInterfaceState back s) = tt
bind_room read function (StartInterface back) = tt
bind_room read function (StopInterface back) = tt
bind_room read function (BindP2p back) = chosen read (back == function) Passed tt
bind_room read function (UnbindP2p back) = tt
bind_room read function (Error back code value) = tt

unbind_room : (read function : ℕ) (r : Reply) → HasRoom read (unbind_in function r)
unbind_room read function (Version back versions) = tt
unbind_room read function (Capabilities back d q l w t a) = tt
unbind_room read function (LockInterface back nonce) = tt
unbind_room read function (DeviceInterfaceReport back m b) = tt
unbind_room read function (DeviceInterfaceState back s) = tt
unbind_room read function (StartInterface back) = tt
unbind_room read function (StopInterface back) = tt
unbind_room read function (BindP2p back) = tt
unbind_room read function (UnbindP2p back) = chosen read (back == function) Passed tt
unbind_room read function (Error back code value) = tt

portion_room : (asked read function : ℕ) (r : Reply) → HasRoom read (portion_in_reply asked read function r)
portion_room asked read function (Version back versions) = tt
portion_room asked read function (Capabilities back d q l w t a) = tt
portion_room asked read function (LockInterface back nonce) = tt
portion_room asked read function (DeviceInterfaceReport back m b) = chosen read (back == function) _
    (fitting asked read b m (is_portion asked read (length b) m) refl)
portion_room asked read function (DeviceInterfaceState back s) = tt
portion_room asked read function (StartInterface back) = tt
portion_room asked read function (StopInterface back) = tt
portion_room asked read function (BindP2p back) = tt
portion_room asked read function (UnbindP2p back) = tt
portion_room asked read function (Error back code value) = tt

step_room : (s : Step) (function asked read : ℕ) (r : Reply) → HasRoom read (step_judged s function asked read r)
step_room step.Version function asked read r = version_room read function r
step_room step.Capabilities function asked read r = capabilities_room read function r
step_room step.Lock function asked read r = nonce_room read function r
step_room step.Report function asked read r = portion_room asked read function r
step_room step.Start function asked read r = start_room read function r
step_room step.Halt function asked read r = halt_room read function r
step_room step.State function asked read r = state_room read function r
step_room (step.Bind peer) function asked read r = bind_room read function r
step_room (step.Unbind peer) function asked read r = unbind_room read function r

-- of any bytes
pub reply_room : (s : Step) (function asked read : ℕ) (r : Result Reply TdispFault)
    → HasRoom read (interface_reply_judged s function asked read r)
reply_room s function asked read (Err fault) = tt
reply_room s function asked read (Ok r) = step_room s function asked read r
