-- What a walk of an operation has to give so that it is a step of the machine: the verdict that is due, the device
-- after it and the manager's interface. If nothing changes, both ends stay.
use Rattle.std.proofs.Common.{◌≡◌, ℕ, ◌+◌, ◌<◌, Bool, false, List, [], Option, Some}
use Rattle.std.proofs.Common.{None, refl, ap, sym, subst, ◌∙◌, arith, replicate}
use Rattle.std.proofs.lemmas.List.Elements.{All-replicate}
use Rattle.std.specs.Prelude.{slice_set}
use Rattle.spec_keys.proofs.Tests.{same-true}
use Rattle.ide_types.specs.declared.status.StreamStatus.{StreamStatus}
use Rattle.ide_types.specs.Fits.{IsKey}
use Rattle.ide_types.specs.declared.view.View.TheVariants.{Unlocked, Locked, Running, Doubt, Broken}
use Rattle.script_events.specs.declared.event.Loss.{Loss}
use Rattle.script_events.specs.declared.event.Event.TheVariants as event
use Rattle.script_events.specs.declared.event.InterfaceEvent.TheVariants as ie
use Rattle.event_verdicts.specs.declared.verdict.Verdict.{Verdict}
use Rattle.spec_interfaces.specs.Sites.{Site}
use Rattle.spec_interfaces.specs.Views.{Managed, on_operation}
use Rattle.spec_interfaces.specs.Devices.{interface_asked, accepts_lock, one_if}
use Rattle.spec_interfaces.specs.Exchanges.{carries}
use Rattle.spec_interfaces.specs.Due.{AskedState}
use Rattle.spec_interfaces.specs.Terms.{StreamStage}
use Rattle.interface_ends.specs.declared.said.StreamSaid.{StreamSaid}
use Rattle.interface_state.specs.Machine.{DeviceTdi}
use Rattle.interface_host.specs.declared.operation.InterfaceOperation.{InterfaceOperation}
use Rattle.interface_host.specs.declared.operation.InterfaceOperation.TheVariants as op
use Rattle.interface_host.specs.declared.operation.InterfaceOutcome.{InterfaceOutcome}
use Rattle.interface_host.specs.declared.operation.InterfaceOutcome.TheVariants as outcome
use Rattle.interface_host.specs.declared.operation.InterfaceRefusal.{InterfaceRefusal}
use Rattle.interface_host.specs.Steps.{Read}
use Rattle.interface_host.specs.Views.{HostTdi, Seen, IsUnlocked, IsLocked, IsRunning, IsDoubt, IsBroken, nonce_of}
use Rattle.interface_ends.specs.Replies.{DeviceTdis}
use Rattle.interface_ends.specs.Operations.{WalkedInterface}
use Rattle.join_interfaces.specs.Verdicts.{outcome_verdict, op_event}
use Rattle.join_interfaces.specs.Faces.{SeenAs, IsManaged}

-- ---- what the manager keeps

-- an interface that is laid out as the topology says
abbrev pub laid : Site → ℕ → ℕ → Bool → Seen → List Bool → HostTdi
laid x draw needs started seen asked = record {
  link = x.link;
  requester = x.plan.requester;
  stream = x.plan.stream;
  flags = x.plan.flags;
  offset = x.plan.offset;
  draw = draw;
  needs = needs;
  was_started = started;
  seen = seen;
  asked = asked;
}

-- with what the manager's view keeps
abbrev pub managed_as_seen : Seen → Managed → Managed
managed_as_seen IsUnlocked m = record m { view = Unlocked }
managed_as_seen (IsLocked nonce reported) m = record m { view = Locked; nonce = nonce; reported = reported }
managed_as_seen (IsRunning floor) m = record m { view = Running; floor = floor }
managed_as_seen IsDoubt m = record m { view = Doubt }
managed_as_seen IsBroken m = record m { view = Broken }

-- the manager's interface of this view, if the machine keeps the rest so
abbrev pub host_of : Site → ℕ → Seen → Managed → HostTdi
host_of x draw seen m = laid x draw (managed_as_seen seen m).needs (managed_as_seen seen m).started seen
    (managed_as_seen seen m).asked

pub told_seen : (seen : Seen) (m : Managed) → SeenAs seen (managed_as_seen seen m)
told_seen IsUnlocked m = refl
told_seen (IsLocked nonce reported) m = (refl, refl, refl)
told_seen (IsRunning floor) m = (refl, refl)
told_seen IsDoubt m = refl
told_seen IsBroken m = refl

-- the machine keeps what the view says
pub told_is : (seen : Seen) (m : Managed) → SeenAs seen m → managed_as_seen seen m ≡ m
told_is IsUnlocked m e = λ k. record m { view = sym e k }
told_is (IsLocked nonce reported) m e = λ k. record m { view = sym e.0 k; nonce = sym e.1 k; reported = sym e.2 k }
told_is (IsRunning floor) m e = λ k. record m { view = sym e.0 k; floor = sym e.1 k }
told_is IsDoubt m e = λ k. record m { view = sym e k }
told_is IsBroken m e = λ k. record m { view = sym e k }

pub managed_of : (x : Site) (draw : ℕ) (seen : Seen) (m : Managed) → SeenAs seen m → IsKey (nonce_of seen)
    → IsManaged draw x (laid x draw m.needs m.started seen m.asked) m
managed_of x draw seen m view key = record {
  laid_out = record { link = refl; requester = refl; stream = refl; flags = refl; offset = refl };
  draw_is = refl;
  needs = refl;
  started = refl;
  seen = view;
  nonce = key;
  asked = refl;
}

pub no_key : IsKey (replicate 32 0)
no_key = (refl, All-replicate (λ b. b < 256) 32 0 (omega arith))

-- ---- what the machine reads

-- of streams between devices: the draw that is Live at the device by the ID, and how the manager of keys has them, by
-- line and ID
pub record PeersRead : Type 0 where
  pub live : ℕ → Option ℕ
  pub op : ℕ → ℕ → StreamStage
  pub draw : ℕ → ℕ → ℕ

abbrev pub stands : Site → StreamSaid → PeersRead → Option (List ℕ) → DeviceTdi → Managed → StreamStatus → ℕ → ℕ
    → AskedState
stands x said ps next tdi m host draw drawn = record {
  around = record { secure = said.secure; drawn = next; nonce = m.nonce; live = ps.live };
  tdi = tdi;
  managed = m;
  host = host;
  draw = draw;
  drawn = drawn;
  peer_op = ps.op;
  peer_draw = ps.draw;
}

-- ---- the step

abbrev pub read_in : InterfaceOperation → Read → List ℕ
read_in op.Report r = r.bytes
read_in o r = []

abbrev pub interface_behind : Site → AskedState → InterfaceOperation → Option Loss → Verdict → DeviceTdi
interface_behind x st o loss due = interface_asked st.around x (op_event o x.number loss) due st.tdi

abbrev pub device_with : DeviceTdis → ℕ → DeviceTdi → ℕ → DeviceTdis
device_with d place tdi used = record { interfaces = slice_set d.interfaces place tdi; nonces = d.nonces; used = used }

abbrev pub device_behind : Site → AskedState → ℕ → InterfaceOperation → Option Loss → DeviceTdis → Verdict → DeviceTdis
device_behind x st place o loss d due = device_with d place (interface_behind x st o loss due)
    (d.used + one_if (accepts_lock st.around x (event.Interface (op_event o x.number loss)) due st.tdi))

pub record Comes (x : Site) (st : AskedState) (place : ℕ) (o : InterfaceOperation) (loss : Option Loss) (d : DeviceTdis)
    (due : Verdict) (w : WalkedInterface) : Type 0 where
  pub verdict : outcome_verdict x.number loss (read_in o w.read) w.outcome ≡ Some due
  pub device : w.device ≡ device_behind x st place o loss d due
  pub managed : IsManaged st.draw x w.interface (on_operation st.drawn (op_event o x.number loss) due st.managed)

-- what an operation gives that is refused before its first exchange
abbrev pub refused_walk : InterfaceRefusal → HostTdi → Read → DeviceTdis → WalkedInterface
refused_walk r i read d = record { outcome = outcome.Refused r; interface = i; read = read; device = d }

abbrev pub begun_walk : Option InterfaceRefusal → HostTdi → Read → DeviceTdis → WalkedInterface → WalkedInterface
begun_walk None i read d w = w
begun_walk (Some r) i read d w = refused_walk r i read d

-- ---- devices

pub same_device : (d : DeviceTdis) (place : ℕ) (s t : DeviceTdi) (u v : ℕ) → s ≡ t → u ≡ v
    → device_with d place s u ≡ device_with d place t v
same_device d place s t u v tdi used = λ k. device_with d place (tdi k) (used k)

pub no_more : (u : ℕ) → u ≡ u + 0
no_more u = omega arith

pub left_device : (d : DeviceTdis) (place : ℕ) (tdi t : DeviceTdi) (given : Bool)
    → slice_set d.interfaces place tdi ≡ d.interfaces → t ≡ tdi → given ≡ false
    → d ≡ device_with d place t (d.used + one_if given)
left_device d place tdi t given same is none =
    (λ k. record { interfaces = sym same k; nonces = d.nonces; used = no_more d.used k })
    ∙ same_device d place tdi t (d.used + 0) (d.used + one_if given) (sym is) (ap (λ b. d.used + one_if b) (sym none))

-- ---- nothing changes

pub quiet : (x : Site) (st : AskedState) (place : ℕ) (o : InterfaceOperation) (loss : Option Loss) (d : DeviceTdis)
    (due : Verdict) (out : InterfaceOutcome) (i : HostTdi) (read : Read)
    → slice_set d.interfaces place st.tdi ≡ d.interfaces → interface_behind x st o loss due ≡ st.tdi
    → accepts_lock st.around x (event.Interface (op_event o x.number loss)) due st.tdi ≡ false
    → on_operation st.drawn (op_event o x.number loss) due st.managed ≡ st.managed → IsManaged st.draw x i st.managed
    → outcome_verdict x.number loss (read_in o read) out ≡ Some due
    → Comes x st place o loss d due (record { outcome = out; interface = i; read = read; device = d })
quiet x st place o loss d due out i read same still none kept managed is = record {
  verdict = is;
  device = left_device d place st.tdi _ _ same still none;
  managed = subst (λ m. IsManaged st.draw x i m) (sym kept) managed;
}

-- a lock that does not reach its third exchange
pub no_lock : (x : Site) (st : AskedState) (loss : Option Loss) (due : Verdict) → carries due 3 ≡ false
    → accepts_lock st.around x (event.Interface (ie.Lock x.number loss)) due st.tdi ≡ false
no_lock x st loss due none = rw (same-true x.number, none) refl
