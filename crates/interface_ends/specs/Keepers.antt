-- The manager with all its interfaces, and the device, after the exchanges of an operation.
use Rattle.std.specs.Prelude.{ℕ, zero, suc, ◌≡◌, length, Option, Some, None, slice_set}
use Rattle.ide_types.specs.declared.status.StreamStatus.{StreamStatus}
use Rattle.script_events.specs.declared.event.Loss.{Loss}
use Rattle.script_events.specs.declared.event.Lost.{Lost}
use Rattle.interface_host.specs.declared.operation.InterfaceOperation.{InterfaceOperation}
use Rattle.interface_host.specs.declared.operation.InterfaceOutcome.{InterfaceOutcome}
use Rattle.interface_host.specs.declared.operation.InterfaceOutcome.TheVariants as outcome
use Rattle.interface_host.specs.declared.operation.InterfaceRefusal.{InterfaceRefusal}
use Rattle.interface_host.specs.Judging.{JudgedAnswer}
use Rattle.interface_host.specs.Views.{HostTdi, interface_refusal_of}
use Rattle.interface_host.specs.Managers.{InterfaceManagerView, CurrentInterface, current_interface, current_exchange}
use Rattle.interface_host.specs.Managers.{begun_interface_manager, outcome_by, taken_interface_manager}
use Rattle.interface_ends.specs.declared.said.StreamSaid.{StreamSaid}
use Rattle.interface_ends.specs.Replies.{DeviceTdis}
use Rattle.interface_ends.specs.Exchanges.{judged_by_manager, device_after_step}
use Rattle.spec_keys.specs.Due.{lost_message}
use Rattle.interface_ends.specs.Operations.{judgment_if_carried, interfaces_after_request, Walking, WalkedInterface}
use Rattle.interface_ends.specs.Operations.{interface_walk}

-- both ends, and the outcome of an operation
pub record Ended : Type 0 where
  pub outcome : InterfaceOutcome
  pub manager : InterfaceManagerView
  pub device : DeviceTdis

-- ---- one exchange

abbrev pub current_lost : Option Loss → InterfaceManagerView → CurrentInterface → Option Lost
current_lost loss m c = lost_message loss (current_exchange m c)

-- the judgement of what is carried
abbrev pub current_judged : StreamSaid → Option Loss → InterfaceManagerView → DeviceTdis → CurrentInterface
    → JudgedAnswer
current_judged said loss m d c =
    judgment_if_carried (current_lost loss m c)
    (judged_by_manager c.asking.step m.portion (length m.read.bytes) c.interface d said)

abbrev pub device_of : StreamSaid → Option Loss → InterfaceManagerView → DeviceTdis → CurrentInterface → DeviceTdis
device_of said loss m d c =
    interfaces_after_request (current_lost loss m c) d
    (device_after_step c.asking.step m.portion (length m.read.bytes) c.interface d said)

abbrev pub interface_exchanged : StreamSaid → Option Loss → InterfaceManagerView → DeviceTdis → CurrentInterface → Ended
interface_exchanged said loss m d c = record {
  outcome = outcome_by m c (current_judged said loss m d c);
  manager = taken_interface_manager m c (current_judged said loss m d c);
  device = device_of said loss m d c;
}

pub record IsInterfaceExchanged (said : StreamSaid) (loss : Option Loss) (m : InterfaceManagerView) (d : DeviceTdis)
    (c : CurrentInterface)
    (e : Ended) : Type 0 where
  pub ends : e ≡ interface_exchanged said loss m d c

-- ---- exchange after exchange

abbrev pub ended_if_over : InterfaceOutcome → Ended → Ended → Ended
ended_if_over outcome.Next now rest = rest
ended_if_over o now rest = now

abbrev pub by_current : Option CurrentInterface → (CurrentInterface → Ended) → Ended → Ended
by_current None asked rest = rest
by_current (Some c) asked rest = asked c

unfoldable pub manager_walk : (more : ℕ) → StreamSaid → Option Loss → InterfaceManagerView → DeviceTdis → Ended
manager_walk zero said loss m d = record { outcome = outcome.Next; manager = m; device = d }
manager_walk (suc more) said loss m d =
    by_current (current_interface m)
    (λ c. ended_if_over (interface_exchanged said loss m d c).outcome (interface_exchanged said loss m d c)
    (manager_walk more said loss (interface_exchanged said loss m d c).manager
    (interface_exchanged said loss m d c).device))
    (record { outcome = outcome.Next; manager = m; device = d })

-- ---- an operation

abbrev pub unless_refused : Option InterfaceRefusal → InterfaceManagerView → DeviceTdis → Ended → Ended
unless_refused (Some refusal) m d e = record { outcome = outcome.Refused refusal; manager = m; device = d }
unless_refused None m d e = e

-- the interface at this place is this one
abbrev pub interface_operated : ℕ → InterfaceOperation → StreamStatus → ℕ → StreamSaid → Option Loss
    → InterfaceManagerView → DeviceTdis → HostTdi → Ended
interface_operated place op status draws said loss m d i =
    unless_refused (interface_refusal_of op status i) m d
    (manager_walk 1140 said loss (begun_interface_manager m place op status draws i) d)

-- ---- the law

abbrev pub walking_at : InterfaceManagerView → CurrentInterface → DeviceTdis → Walking
walking_at m c d = record { interface = c.interface; step = c.asking.step; read = m.read; device = d }

-- what a walk of all leaves, when it is over
pub record IsInterfaceWalked (m : InterfaceManagerView) (c : CurrentInterface) (w : WalkedInterface) (e : Ended) : Type
    0 where
  pub outcome_is : e.outcome ≡ w.outcome
  pub interfaces_are : e.manager.interfaces ≡ slice_set m.interfaces c.asking.place w.interface
  pub read_is : e.manager.read ≡ w.read
  pub device_is : e.device ≡ w.device

abbrev pub KeepersWalk : Type 0
KeepersWalk = (more : ℕ) (said : StreamSaid) (loss : Option Loss) (m : InterfaceManagerView) (d : DeviceTdis)
    (c : CurrentInterface)
    → current_interface m ≡ Some c
    → IsInterfaceWalked m c (interface_walk more m.portion c.asking.draws said loss (walking_at m c d))
    (manager_walk more said loss m d)
