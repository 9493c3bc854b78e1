-- What always holds of a device interface.
use Rattle.std.specs.Prelude.{ℕ, ◌≡◌, ◌<◌, ◌≤◌, ◌^◌, false, List, [], length, All, IfSome}
use Rattle.ide_types.specs.declared.interface.InterfacePlan.{InterfacePlan}
use Rattle.ide_types.specs.Fits.{FitsBar}
use Rattle.interface_state.specs.declared.register_set.Registers.{Registers}
use Rattle.ide_types.specs.declared.binding.Binding.{Binding}
use Rattle.interface_state.specs.declared.states.TdiState.{TdiState}
use Rattle.interface_state.specs.Kept.{kept_report}
use Rattle.interface_state.specs.Machine.{lock_of, is_locked, KeepsListed}

-- up to six BARs within their bounds, and up to 1,024 bytes of device information
pub record FitsTdi (plan : InterfacePlan) : Type 0 where
  pub bars : length plan.bars ≤ 6
  pub each_bar : All FitsBar plan.bars
  pub info : length plan.info ≤ 1024

-- what a report shows of registers has its width
pub record FitsShown (registers : Registers) : Type 0 where
  pub msix : registers.msix < 2 ^ 16
  pub lnr : registers.lnr < 2 ^ 16
  pub tph : registers.tph < 2 ^ 32

-- the buffer holds the report of the lock that stands
abbrev pub HoldsReport : InterfacePlan → TdiState → List ℕ → Type 0
HoldsReport plan state bytes = IfSome (lock_of state) (λ lock. bytes ≡ kept_report plan lock)

-- without a lock it is bound to no stream between two devices, and there are at most eight of them
pub record IsBound (state : TdiState) (bindings : List Binding) : Type 0 where
  pub locked : is_locked state ≡ false → bindings ≡ []
  pub few : length bindings ≤ 8

pub record IsHeld (plan : InterfacePlan) (registers : Registers) (state : TdiState) (bindings : List Binding)
    (bytes : List ℕ) : Type 0 where
  pub fits : FitsTdi plan
  pub listed : KeepsListed registers state
  pub report : HoldsReport plan state bytes
  pub bound : IsBound state bindings
