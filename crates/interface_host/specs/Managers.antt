-- What the manager keeps of all interfaces, and what each call makes of it (this profile).
use Rattle.std.specs.Prelude.{ℕ, ◌+◌, Option, Some, None, List, [], ◌∷◌, ◌++◌, length, map, position, slice_get}
use Rattle.std.specs.Prelude.{slice_set}
use Rattle.std.specs.Option.{option_map_or}
use Rattle.ide_types.specs.declared.binding.Binding.{Binding}
use Rattle.ide_types.specs.declared.status.StreamStatus.{StreamStatus}
use Rattle.ide_types.specs.declared.interface.InterfacePlan.{InterfacePlan}
use Rattle.ide_types.specs.declared.plan.LinkPlan.{LinkPlan}
use Rattle.tdisp_codec.specs.declared.request.RequestView.{RequestView}
use Rattle.key_host.specs.declared.operation.ExchangeReply.{ExchangeReply}
use Rattle.interface_host.specs.declared.interfaces.Asking.{Asking}
use Rattle.interface_host.specs.declared.operation.InterfaceOperation.{InterfaceOperation}
use Rattle.interface_host.specs.declared.operation.InterfaceOutcome.{InterfaceOutcome}
use Rattle.interface_host.specs.declared.operation.InterfaceOutcome.TheVariants.{Next}
use Rattle.interface_host.specs.Steps.{Read, first_step, next_step, exchange_number}
use Rattle.interface_host.specs.Judging.{JudgedAnswer, Portion, interface_judged}
use Rattle.interface_host.specs.Views.{HostTdi, new_interface, interface_refusal_of, interface_unless, step_request}
use Rattle.interface_host.specs.Views.{taken_interface, interface_outcome, left_by_stop, left_by_peer_stop}
use Rattle.interface_host.specs.Views.{left_by_reset, keyed_by, is_requester, is_granted, interface_grant}

-- The interfaces of all links, in the order of the links and of each link's interfaces; how many bytes of a report one
-- portion asks for; the exchange that is to be asked and taken; what was read of a report.
pub record InterfaceManagerView : Type 0 where
  pub interfaces : List HostTdi
  pub portion : ℕ
  pub asking : Option Asking
  pub read : Read

abbrev pub nothing_read : Read
nothing_read = record { bytes = []; portions = 0 }

-- ---- make

abbrev pub new_interfaces : ℕ → List InterfacePlan → List HostTdi
new_interfaces link plans = map (new_interface link) plans

-- of the links from this number on
abbrev pub interfaces_from : ℕ → List LinkPlan → List HostTdi
interfaces_from link [] = []
interfaces_from link (l ∷ ls) = new_interfaces link l.interfaces ++ interfaces_from (link + 1) ls

abbrev pub new_interface_manager : List LinkPlan → ℕ → InterfaceManagerView
new_interface_manager links portion =
    record { interfaces = interfaces_from 0 links; portion = portion; asking = None; read = nothing_read }

-- ---- the exchange that is to be asked and taken

pub record CurrentInterface : Type 0 where
  pub interface : HostTdi
  pub asking : Asking

abbrev pub current_by : Asking → Option HostTdi → Option CurrentInterface
current_by asking None = None
current_by asking (Some i) = Some (record { interface = i; asking = asking })

abbrev pub current_interface_in_list : List HostTdi → Option Asking → Option CurrentInterface
current_interface_in_list interfaces None = None
current_interface_in_list interfaces (Some asking) = current_by asking (slice_get interfaces asking.place)

abbrev pub current_interface : InterfaceManagerView → Option CurrentInterface
current_interface m = current_interface_in_list m.interfaces m.asking

abbrev pub current_exchange : InterfaceManagerView → CurrentInterface → ℕ
current_exchange m c = exchange_number c.asking.step m.read

-- ---- begin

-- the interface at this place is asked; a refusal changes nothing
abbrev pub begun_interface_manager : InterfaceManagerView → ℕ → InterfaceOperation → StreamStatus → ℕ → HostTdi
    → InterfaceManagerView
begun_interface_manager m place op s draws i =
    interface_unless (interface_refusal_of op s i) m
    (record m {
      asking = Some (record { place = place; step = first_step op; draws = draws });
      read = nothing_read;
    })

-- ---- ask

abbrev pub interface_request : InterfaceManagerView → CurrentInterface → RequestView
interface_request m c = step_request c.asking.step m.portion (length m.read.bytes) c.interface

-- ---- take

abbrev pub report_after_reply : JudgedAnswer → Read → Read
report_after_reply (Portion bytes remainder) read = record { bytes = read.bytes ++ bytes; portions = read.portions + 1 }
report_after_reply judged read = read

abbrev pub judged_now : InterfaceManagerView → CurrentInterface → ExchangeReply → JudgedAnswer
judged_now m c carried = interface_judged c.asking.step c.interface.requester m.portion (length m.read.bytes) carried

abbrev pub interface_by : CurrentInterface → JudgedAnswer → HostTdi
interface_by c judged = taken_interface c.asking.step c.asking.draws judged c.interface

abbrev pub outcome_by : InterfaceManagerView → CurrentInterface → JudgedAnswer → InterfaceOutcome
outcome_by m c judged = interface_outcome c.asking.step (current_exchange m c) judged (interface_by c judged)

-- an operation that goes on is asked again
abbrev pub interface_asking_after : Asking → InterfaceOutcome → Option Asking
interface_asking_after asking Next = Some (record asking { step = next_step asking.step })
interface_asking_after asking outcome = None

abbrev pub taken_interface_manager : InterfaceManagerView → CurrentInterface → JudgedAnswer → InterfaceManagerView
taken_interface_manager m c judged = record {
  interfaces = slice_set m.interfaces c.asking.place (interface_by c judged);
  portion = m.portion;
  asking = interface_asking_after c.asking (outcome_by m c judged);
  read = report_after_reply judged m.read;
}

-- ---- what breaks views, and the draws of streams; no exchange is under way after it

abbrev pub all_interfaces : (HostTdi → HostTdi) → InterfaceManagerView → InterfaceManagerView
all_interfaces f m = record m { interfaces = map f m.interfaces; asking = None }

abbrev pub stop_begun : ℕ → ℕ → InterfaceManagerView → InterfaceManagerView
stop_begun link stream m = all_interfaces (left_by_stop link stream) m

abbrev pub peer_stop : ℕ → InterfaceManagerView → InterfaceManagerView
peer_stop number m = all_interfaces (left_by_peer_stop number) m

abbrev pub stream_keyed : ℕ → ℕ → ℕ → InterfaceManagerView → InterfaceManagerView
stream_keyed link stream draw m = all_interfaces (keyed_by link stream draw) m

abbrev pub reset_interface_manager : ℕ → InterfaceManagerView → InterfaceManagerView
reset_interface_manager link m = all_interfaces (left_by_reset link) m

-- ---- grants

abbrev pub granted_at : List HostTdi → Option ℕ → Option Binding
granted_at interfaces None = None
granted_at interfaces (Some place) = option_map_or interface_grant (slice_get interfaces place) None

-- of the interface of the link with this requester ID that is running
abbrev pub running_grant : InterfaceManagerView → ℕ → ℕ → Option Binding
running_grant m link requester = granted_at m.interfaces (position (is_granted link requester) m.interfaces)

-- ---- names

-- the number of the interface of the link with this requester ID
abbrev pub interface_of_requester : InterfaceManagerView → ℕ → ℕ → Option ℕ
interface_of_requester m link requester = position (is_requester link requester) m.interfaces
