-- The walk of the manager of interfaces, as the code goes it: an exchange after another while the operation goes on.
use Rattle.std.proofs.Common.{◌≡◌, ◌≢◌, ℕ, suc, zero, true, false, Option, Some, None, refl, ap, sym, ◌∙◌, subst}
use Rattle.std.specs.Prelude.{slice_get, is_some, IfSome, Ok}
use Rattle.ide_types.specs.declared.status.StreamStatus.{StreamStatus}
use Rattle.script_events.specs.declared.event.Loss.{Loss}
use Rattle.interface_host.specs.declared.operation.InterfaceOperation.{InterfaceOperation}
use Rattle.interface_host.specs.declared.operation.InterfaceOperation.TheVariants as op
use Rattle.interface_host.specs.declared.operation.InterfaceOutcome.{InterfaceOutcome}
use Rattle.interface_host.specs.declared.operation.InterfaceOutcome.TheVariants as outcome
use Rattle.interface_host.specs.declared.operation.InterfaceRefusal.{InterfaceRefusal}
use Rattle.interface_host.specs.declared.step.Step.{Step}
use Rattle.interface_host.specs.declared.step.Step.TheVariants as step
use Rattle.interface_host.specs.Steps.{first_step, next_step}
use Rattle.interface_host.specs.Views.{HostTdi, interface_refusal_of, interface_ok_unless, interface_unless}
use Rattle.interface_host.specs.Managers.{InterfaceManagerView, CurrentInterface, current_interface, current_by}
use Rattle.interface_host.specs.Managers.{begun_interface_manager, nothing_read}
use Rattle.interface_ends.specs.declared.said.StreamSaid.{StreamSaid}
use Rattle.interface_ends.specs.Replies.{DeviceTdis}
use Rattle.interface_ends.specs.Keepers.{Ended, IsInterfaceExchanged, interface_exchanged, ended_if_over, by_current}
unfoldable use Rattle.interface_ends.specs.Keepers.{manager_walk}
use Rattle.interface_ends.specs.Keepers.{interface_operated, unless_refused}
use Rattle.interface_ends.proofs.Walks.{next_current, stands, moved, walk_step}
use Rattle.ide_port.specs.{PortEnd}
use Rattle.link_ends.specs.DeviceEnds.{secure_at}
use Rattle.link_ends.specs.Hosts.{live_for_operation}
use Rattle.link_ends.specs.InterfaceKeepers.{live_at_step, said_at, SaysNow, ended_with, InterfaceWalks}

-- an exchange after which the operation goes on
pub walks_on : (more : ℕ) (said : StreamSaid) (loss : Option Loss) (m : InterfaceManagerView) (d : DeviceTdis)
    (e rest : Ended)
    (x : Option CurrentInterface) → current_interface m ≡ x → is_some x ≡ true
    → IfSome x (λ c. IsInterfaceExchanged said loss m d c e) → e.outcome ≡ outcome.Next → rest
    ≡ manager_walk more said loss e.manager e.device → rest ≡ manager_walk (suc more) said loss m d
walks_on more said loss m d e rest None is some came next goes = absurd cc
walks_on more said loss m d e rest (Some c) is some came next goes =
    goes ∙ sym (ap (λ o. ended_if_over o e (manager_walk more said loss e.manager e.device)) next)
    ∙ ap (λ (k : Ended). ended_if_over k.outcome k (manager_walk more said loss k.manager k.device)) came.ends ∙ sym
    (walk_step more said loss m d c is)

stops_at : (o : InterfaceOutcome) (now rest : Ended) → o ≢ outcome.Next → ended_if_over o now rest ≡ now
stops_at outcome.Next now rest other = absurd (other refl)
stops_at (outcome.Done shown) now rest other = refl
stops_at (outcome.Refused refusal) now rest other = refl

-- one after which it is over
pub walks_out : (more : ℕ) (said : StreamSaid) (loss : Option Loss) (m : InterfaceManagerView) (d : DeviceTdis)
    (e : Ended)
    (x : Option CurrentInterface) → current_interface m ≡ x → is_some x ≡ true
    → IfSome x (λ c. IsInterfaceExchanged said loss m d c e) → e.outcome ≢ outcome.Next → e
    ≡ manager_walk (suc more) said loss m d
walks_out more said loss m d e None is some came other = absurd cc
walks_out more said loss m d e (Some c) is some came other =
    sym (stops_at e.outcome e (manager_walk more said loss e.manager e.device) other)
    ∙ ap (λ (k : Ended). ended_if_over k.outcome k (manager_walk more said loss k.manager k.device)) came.ends ∙ sym
    (walk_step more said loss m d c is)

-- ---- no exchange is asked

idle_by : (x : Option CurrentInterface) (asked : CurrentInterface → Ended) (rest : Ended) → is_some x ≡ false
    → rest ≡ by_current x asked rest
idle_by None asked rest is = refl
idle_by (Some c) asked rest is = absurd cc

pub idle_walk : (more : ℕ) (said : StreamSaid) (loss : Option Loss) (m : InterfaceManagerView) (d : DeviceTdis)
    → is_some (current_interface m) ≡ false → ended_with outcome.Next m d ≡ manager_walk more said loss m d
unfolding manager_walk
idle_walk zero said loss m d is = refl
idle_walk (suc more) said loss m d is = idle_by (current_interface m) _ (ended_with outcome.Next m d) is

pub no_walk : (said : StreamSaid) (loss : Option Loss) (m : InterfaceManagerView) (d : DeviceTdis) (more : ℕ)
    → more ≡ 0 → ended_with outcome.Next m d ≡ manager_walk more said loss m d
unfolding manager_walk
no_walk said loss m d zero is = refl
no_walk said loss m d (suc more) is = absurd cc

-- ---- what the device says of the stream stays the same from exchange to exchange

live_next : (live : ℕ → Option ℕ) (s : Step) → live_at_step live (next_step s) ≡ live_at_step live s
live_next live step.Version = refl
live_next live step.Capabilities = refl
live_next live step.Lock = refl
live_next live step.Report = refl
live_next live step.Start = refl
live_next live step.Halt = refl
live_next live step.State = refl
live_next live (step.Bind peer) = refl
live_next live (step.Unbind peer) = refl

-- for the exchange that is asked
pub said_now : (x : Option CurrentInterface) (live : ℕ → Option ℕ) (port : PortEnd) (said : StreamSaid)
    (loss : Option Loss) (m : InterfaceManagerView) (d : DeviceTdis) (e : Ended)
    → IfSome x (λ c. said ≡ said_at live port c)
    → IfSome x (λ c. IsInterfaceExchanged (said_at live port c) loss m d c e)
    → IfSome x (λ c. IsInterfaceExchanged said loss m d c e)
said_now None live port said loss m d e says came = tt
said_now (Some c) live port said loss m d e says came =
    subst (λ (a : StreamSaid). IsInterfaceExchanged a loss m d c e) (sym says) came

pub says_next : (x : Option CurrentInterface) (live : ℕ → Option ℕ) (port port' : PortEnd) (said : StreamSaid)
    (loss : Option Loss) (m : InterfaceManagerView) (d : DeviceTdis) (e : Ended) → current_interface m ≡ x
    → is_some x ≡ true → port' ≡ port → IfSome x (λ c. said ≡ said_at live port c)
    → IfSome x (λ c. IsInterfaceExchanged said loss m d c e) → e.outcome ≡ outcome.Next
    → SaysNow live port' e.manager said
says_next None live port port' said loss m d e is some same says came next = absurd cc
says_next (Some c) live port port' said loss m d e is some same says came next =
    let on : (interface_exchanged said loss m d c).outcome ≡ outcome.Next =
    ap (λ (k : Ended). k.outcome) (sym came.ends) ∙ next in
    let now : current_interface e.manager ≡ Some (next_current said loss m d c) =
    ap (λ (k : Ended). current_interface k.manager) came.ends
    ∙ moved said loss m d c (stands m.interfaces m.asking c is) on in
    let stays : said ≡ said_at live port (next_current said loss m d c) =
    says ∙ ap (λ (l : Option ℕ). let a : StreamSaid = record { secure = (said_at live port c).secure; live = l } in a)
    (sym (live_next live c.asking.step)) in
    rw (now, same) stays

-- ---- an operation begins

abbrev asked_at : InterfaceManagerView → ℕ → InterfaceOperation → ℕ → InterfaceManagerView
asked_at m place op draws = record m {
  asking = Some (record { place = place; step = first_step op; draws = draws });
  read = nothing_read;
}

abbrev asking_first : ℕ → InterfaceOperation → ℕ → HostTdi → CurrentInterface
asking_first place op draws i = record {
  interface = i;
  asking = record { place = place; step = first_step op; draws = draws };
}

abbrev said_first : (ℕ → Option ℕ) → PortEnd → InterfaceOperation → HostTdi → StreamSaid
said_first live port op i = record { secure = secure_at port i.stream; live = live_for_operation live op }

live_first : (live : ℕ → Option ℕ) (o : InterfaceOperation)
    → live_for_operation live o ≡ live_at_step live (first_step o)
live_first live op.Lock = refl
live_first live op.Report = refl
live_first live op.Start = refl
live_first live op.Halt = refl
live_first live op.State = refl
live_first live (op.Bind peer) = refl
live_first live (op.Unbind peer) = refl

-- an operation that is not refused
begun_by : (x : Option InterfaceRefusal) (v : Unit {0}) (o : Option HostTdi) (i : HostTdi) (place draws : ℕ)
    (op : InterfaceOperation) (loss : Option Loss) (live : ℕ → Option ℕ) (port : PortEnd)
    (m new : InterfaceManagerView) (d : DeviceTdis) (e : Ended) → slice_get m.interfaces place ≡ Some i
    → Ok v ≡ interface_ok_unless x → new ≡ interface_unless x m (asked_at m place op draws)
    → InterfaceWalks 1140 loss live port new d e
    → e ≡ unless_refused x m d
    (manager_walk 1140 (said_first live port op i) loss (interface_unless x m (asked_at m place op draws)) d)
begun_by (Some y) v o i place draws op loss live port m new d e there answer is walks = absurd cc
begun_by None v o i place draws op loss live port m new d e there answer is walks =
    let now : current_interface (asked_at m place op draws) ≡ Some (asking_first place op draws i) =
    ap (current_by (asking_first place op draws i).asking) there in
    let stays : said_first live port op i ≡ said_at live port (asking_first place op draws i) =
    ap (λ (l : Option ℕ). let a : StreamSaid = record { secure = (said_first live port op i).secure; live = l } in a)
    (live_first live op) in
    let says : SaysNow live port new (said_first live port op i) = rw (is, now) stays in
    walks (said_first live port op i) says
    ∙ ap (λ (k : InterfaceManagerView). manager_walk 1140 (said_first live port op i) loss k d) is

pub begun_walks : (o : Option HostTdi) (v : Unit {0}) (place draws : ℕ) (op : InterfaceOperation) (s : StreamStatus)
    (loss : Option Loss) (live : ℕ → Option ℕ) (port : PortEnd) (m new : InterfaceManagerView) (d : DeviceTdis)
    (e : Ended) → slice_get m.interfaces place ≡ o
    → IfSome o (λ i. Ok v ≡ interface_ok_unless (interface_refusal_of op s i))
    → IfSome o (λ i. new ≡ begun_interface_manager m place op s draws i)
    → InterfaceWalks 1140 loss live port new d e
    → IfSome o (λ i. e ≡ interface_operated place op s draws (said_first live port op i) loss m d i)
begun_walks None v place draws op s loss live port m new d e there answer is walks = tt
begun_walks (Some i) v place draws op s loss live port m new d e there answer is walks =
    begun_by (interface_refusal_of op s i) v (Some i) i place draws op loss live port m new d e there answer is walks
