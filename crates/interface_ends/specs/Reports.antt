-- A report, read portion by portion at one event.
use Rattle.std.specs.Prelude.{ℕ, zero, suc, ◌+◌, ◌-◌, ◌≡◌, ◌≤◌, ◌&&◌, nat_le, nat_lt, List, length, Option, Some}
use Rattle.std.specs.Prelude.{None, if◌then◌else◌}
use Rattle.script_events.specs.declared.event.Loss.{Loss}
use Rattle.interface_state.specs.declared.states.Lock.{Lock}
use Rattle.interface_state.specs.Kept.{kept_report}
use Rattle.interface_state.specs.Machine.{lock_of}
use Rattle.interface_host.specs.declared.operation.InterfaceOperation.TheVariants as op
use Rattle.interface_host.specs.declared.operation.InterfaceOutcome.{InterfaceOutcome}
use Rattle.interface_host.specs.declared.operation.InterfaceOutcome.TheVariants as outcome
use Rattle.interface_host.specs.declared.operation.InterfaceRefusal.TheVariants.{SessionLost}
use Rattle.interface_host.specs.declared.operation.InterfaceResult.TheVariants as shown
use Rattle.interface_host.specs.declared.step.Step.TheVariants as step
use Rattle.interface_host.specs.Views.{HostTdi, reported_view}
use Rattle.interface_ends.specs.declared.said.StreamSaid.{StreamSaid}
use Rattle.interface_ends.specs.Replies.{DeviceTdis, NamedTdi}
use Rattle.interface_ends.specs.Exchanges.{Meets}
use Rattle.interface_ends.specs.Operations.{WalkedInterface, interface_walk, begun_walking, stated_alone}

-- how many portions of up to so many bytes `left` bytes make, if `more` portions are enough
abbrev pub portion_count : (more : ℕ) → ℕ → ℕ → ℕ
portion_count zero portion left = 0
portion_count (suc more) portion left =
    if nat_le left portion then 1 else suc (portion_count more portion (left - portion))

-- the exchange that is lost, if it is one of `count` from this number on
abbrev pub lost_exchange_within : Option Loss → ℕ → ℕ → Option ℕ
lost_exchange_within None from count = None
lost_exchange_within (Some loss) from count =
    if nat_le from loss.exchange && nat_lt loss.exchange (from + count) then Some loss.exchange else None

abbrev pub read_outcome : Option ℕ → InterfaceOutcome
read_outcome None = outcome.Done shown.Report
read_outcome (Some exchange) = outcome.Refused (SessionLost exchange)

abbrev pub read_interface : Option ℕ → HostTdi → HostTdi
read_interface None i = record i { seen = reported_view i.seen }
read_interface (Some exchange) i = i

-- If one of its exchanges is lost, the view is as before; else the report is read, and it is the one that the lock
-- kept. The device is as before.
pub record ReportIsRead (lost : Option ℕ) (report : List ℕ) (i : HostTdi) (d : DeviceTdis) (w : WalkedInterface) : Type
    0 where
  pub outcome_is : w.outcome ≡ read_outcome lost
  pub interface_is : w.interface ≡ read_interface lost i
  pub device_is : w.device ≡ d
  pub report_is : lost ≡ None → w.read.bytes ≡ report

-- the device's interface is in CONFIG_LOCKED or RUN
abbrev pub ReportsAreRead : Type 0
ReportsAreRead =
    (more portion draws : ℕ) (said : StreamSaid) (loss : Option Loss) (i : HostTdi) (d : DeviceTdis) (n : NamedTdi)
    (lock : Lock)
    → Meets portion i d n → lock_of n.tdi.state ≡ Some lock → length (kept_report n.tdi.plan lock) ≤ more
    → ReportIsRead (lost_exchange_within loss 1 (portion_count more portion (length (kept_report n.tdi.plan lock))))
    (kept_report n.tdi.plan lock) i d (interface_walk more portion draws said loss (begun_walking op.Report i d))

-- the device's interface is in no lock: its first exchange is refused, or lost
abbrev pub ReportsAreRefused : Type 0
ReportsAreRefused =
    (more portion draws : ℕ) (said : StreamSaid) (loss : Option Loss) (i : HostTdi) (d : DeviceTdis) (n : NamedTdi)
    → Meets portion i d n → lock_of n.tdi.state ≡ None
    → interface_walk (suc more) portion draws said loss (begun_walking op.Report i d)
    ≡ stated_alone step.Report portion draws said loss i d n
