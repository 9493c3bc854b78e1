-- An operation that is refused at its beginning.
use Rattle.std.proofs.Common.{◌≡◌, ℕ, Option, Some, None, Err, refl}
use Rattle.std.specs.Prelude.{IfSome}
use Rattle.ide_types.specs.declared.status.StreamStatus.{StreamStatus}
use Rattle.script_events.specs.declared.event.Loss.{Loss}
use Rattle.interface_host.specs.declared.operation.InterfaceOperation.{InterfaceOperation}
use Rattle.interface_host.specs.declared.operation.InterfaceOutcome.TheVariants as outcome
use Rattle.interface_host.specs.declared.operation.InterfaceRefusal.{InterfaceRefusal}
use Rattle.interface_host.specs.Views.{HostTdi, interface_refusal_of, interface_ok_unless, interface_unless}
use Rattle.interface_host.specs.Managers.{InterfaceManagerView, begun_interface_manager}
use Rattle.interface_ends.specs.Replies.{DeviceTdis}
use Rattle.interface_ends.specs.Keepers.{Ended, unless_refused, interface_operated}
use Rattle.ide_port.specs.{PortEnd}
use Rattle.link_ends.specs.DeviceEnds.{secure_at}
use Rattle.link_ends.specs.Hosts.{live_for_operation}
use Rattle.link_ends.specs.InterfaceKeepers.{ended_with}

refused_by : (x : Option InterfaceRefusal) (r : InterfaceRefusal) (m begun new : InterfaceManagerView) (d : DeviceTdis)
    (rest : Ended)
    → Err r ≡ interface_ok_unless x → new ≡ interface_unless x m begun
    → (let e : Ended = record { outcome = outcome.Refused r; manager = new; device = d } in e)
    ≡ unless_refused x m d rest
refused_by None r m begun new d rest answer is = absurd cc
refused_by (Some y) r m begun new d rest answer is =
    let same : r ≡ y = cc in
    rw (same, is) refl

pub begin_refused : (o : Option HostTdi) (place draws : ℕ) (op : InterfaceOperation) (status : StreamStatus)
    (live : ℕ → Option ℕ) (port : PortEnd) (loss : Option Loss) (m new : InterfaceManagerView) (d : DeviceTdis)
    (r : InterfaceRefusal) → IfSome o (λ i. Err r ≡ interface_ok_unless (interface_refusal_of op status i))
    → IfSome o (λ i. new ≡ begun_interface_manager m place op status draws i)
    → IfSome o (λ i. ended_with (outcome.Refused r) new d
    ≡ interface_operated place op status draws
    (record { secure = secure_at port i.stream; live = live_for_operation live op }) loss m d i)
begin_refused None place draws op status live port loss m new d r answer is = tt
begin_refused (Some i) place draws op status live port loss m new d r answer is =
    refused_by (interface_refusal_of op status i) r m _ new d _ answer is
