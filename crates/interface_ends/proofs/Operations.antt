-- Operations of up to three exchanges.
use Rattle.std.proofs.Common.{◌≡◌, ℕ, suc, ◌≤◌, length, Option, Some, None, refl, ap, sym, subst, ◌∙◌, arith}
use Rattle.std.specs.Prelude.{slice_set}
use Rattle.ide_types.proofs.Places.{set_read}
use Rattle.script_events.specs.declared.event.Loss.{Loss}
use Rattle.script_events.specs.declared.event.Lost.{Lost}
use Rattle.script_events.specs.declared.event.Lost.TheVariants.{Request, Reply}
use Rattle.interface_host.specs.declared.operation.InterfaceOperation.TheVariants as op
use Rattle.interface_host.specs.declared.operation.InterfaceOutcome.{InterfaceOutcome}
use Rattle.interface_host.specs.declared.operation.InterfaceOutcome.TheVariants as outcome
use Rattle.interface_host.specs.declared.step.Step.{Step}
use Rattle.interface_host.specs.declared.step.Step.TheVariants as step
use Rattle.interface_host.specs.Judging.{JudgedAnswer, Passed, Nonce, Portion, State, Refused, Lost as NotCarried, Bad}
use Rattle.interface_host.specs.Views.{HostTdi, start_outcome, halt_outcome, state_outcome, lock_outcome, bind_outcome}
use Rattle.interface_host.specs.Views.{unbind_outcome}
use Rattle.interface_ends.specs.declared.said.StreamSaid.{StreamSaid}
use Rattle.interface_ends.specs.Replies.{DeviceTdis, NamedTdi, named_interface, interface_place, next_nonce}
use Rattle.interface_ends.specs.Exchanges.{device_after_step, judged_due, FitsStep, Meets, ExchangesAreDue}
use Rattle.spec_keys.specs.Due.{lost_message}
use Rattle.interface_ends.specs.Operations.{judgment_if_carried, interfaces_after_request, Walking, WalkedInterface}
use Rattle.interface_ends.specs.Operations.{walked_by, walked_once, walking_next, continued_walk, interface_walk}
use Rattle.interface_ends.specs.Operations.{begun_walking, walking_exchange, stated_once, at_step, lost_early}
use Rattle.interface_ends.specs.Operations.{walked_unless_lost, stated_lock, OperationsAreStated}
use Rattle.interface_ends.proofs.Errors.{in_list}

-- ---- a device that is asked what changes nothing

pub same_set : (d : DeviceTdis) (f : ℕ) (n : NamedTdi) → named_interface d f ≡ Some n
    → slice_set d.interfaces n.place n.tdi ≡ d.interfaces
same_set d f n is = set_read d.interfaces n.place n.tdi (in_list d.interfaces (interface_place d f) n is)

-- ---- an exchange

pub once_stated : ExchangesAreDue → (portion draws : ℕ) (said : StreamSaid) (loss : Option Loss) (n : NamedTdi)
    (w : Walking)
    → length w.read.bytes ≤ 1140 → FitsStep w.step → Meets portion w.interface w.device n
    → walked_once portion draws said loss w ≡ stated_once portion draws said (lost_message loss (walking_exchange w)) n
    w
once_stated due portion draws said loss n w short id m =
    let e = due w.step portion (length w.read.bytes) w.interface w.device n said short id m in
    ap (λ j. walked_by draws w (judgment_if_carried (lost_message loss (walking_exchange w)) j)
    (interfaces_after_request (lost_message loss (walking_exchange w)) w.device
    (device_after_step w.step portion (length w.read.bytes) w.interface w.device said))) e.judged
    ∙ ap (λ x. walked_by draws w
    (judgment_if_carried (lost_message loss (walking_exchange w))
    (judged_due w.step portion (length w.read.bytes) w.interface n.tdi said (next_nonce w.device)))
    (interfaces_after_request (lost_message loss (walking_exchange w)) w.device x)) e.device

-- an exchange and the rest
pub goes : (more portion draws : ℕ) (said : StreamSaid) (loss : Option Loss) (w : Walking) (now : WalkedInterface)
    → walked_once portion draws said loss w ≡ now
    → interface_walk (suc more) portion draws said loss w ≡ continued_walk now.outcome now
    (interface_walk more portion draws said loss (walking_next w.step now))
goes more portion draws said loss w now is = ap
    (λ x. continued_walk x.outcome x (interface_walk more portion draws said loss (walking_next w.step x))) is

-- ---- what is over with its one exchange

abbrev pub IsOver : InterfaceOutcome → Type 0
IsOver outcome.Next = ⊥
IsOver o = Unit {0}

pub stops : (o : InterfaceOutcome) (now rest : WalkedInterface) → IsOver o → continued_walk o now rest ≡ now
stops outcome.Next now rest over = absurd over
stops (outcome.Done shown) now rest over = refl
stops (outcome.Refused refusal) now rest over = refl

lock_over : (e : ℕ) (j : JudgedAnswer) → IsOver (lock_outcome e j)
lock_over e Passed = tt
lock_over e (Nonce nonce) = tt
lock_over e (Portion bytes remainder) = tt
lock_over e (State code) = tt
lock_over e (Refused code) = tt
lock_over e NotCarried = tt
lock_over e Bad = tt

start_over : (e draw : ℕ) (j : JudgedAnswer) → IsOver (start_outcome e draw j)
start_over e draw Passed = tt
start_over e draw (Nonce nonce) = tt
start_over e draw (Portion bytes remainder) = tt
start_over e draw (State code) = tt
start_over e draw (Refused code) = tt
start_over e draw NotCarried = tt
start_over e draw Bad = tt

halt_over : (e needs : ℕ) (j : JudgedAnswer) → IsOver (halt_outcome e needs j)
halt_over e needs Passed = tt
halt_over e needs (Nonce nonce) = tt
halt_over e needs (Portion bytes remainder) = tt
halt_over e needs (State code) = tt
halt_over e needs (Refused code) = tt
halt_over e needs NotCarried = tt
halt_over e needs Bad = tt

state_over : (e : ℕ) (j : JudgedAnswer) → IsOver (state_outcome e j)
state_over e Passed = tt
state_over e (Nonce nonce) = tt
state_over e (Portion bytes remainder) = tt
state_over e (State code) = tt
state_over e (Refused code) = tt
state_over e NotCarried = tt
state_over e Bad = tt

bind_over : (e number : ℕ) (j : JudgedAnswer) → IsOver (bind_outcome e number j)
bind_over e number Passed = tt
bind_over e number (Nonce nonce) = tt
bind_over e number (Portion bytes remainder) = tt
bind_over e number (State code) = tt
bind_over e number (Refused code) = tt
bind_over e number NotCarried = tt
bind_over e number Bad = tt

unbind_over : (e number : ℕ) (j : JudgedAnswer) → IsOver (unbind_outcome e number j)
unbind_over e number Passed = tt
unbind_over e number (Nonce nonce) = tt
unbind_over e number (Portion bytes remainder) = tt
unbind_over e number (State code) = tt
unbind_over e number (Refused code) = tt
unbind_over e number NotCarried = tt
unbind_over e number Bad = tt

alone : ExchangesAreDue → (s : Step) (more portion draws : ℕ) (said : StreamSaid) (loss : Option Loss) (i : HostTdi)
    (d : DeviceTdis) (n : NamedTdi) → FitsStep s → Meets portion i d n
    → ((now : WalkedInterface) → now ≡ stated_once portion draws said
    (lost_message loss (walking_exchange (at_step s i d))) n
    (at_step s i d) → IsOver now.outcome)
    → interface_walk (suc more) portion draws said loss (at_step s i d)
    ≡ stated_once portion draws said (lost_message loss (walking_exchange (at_step s i d))) n (at_step s i d)
alone due s more portion draws said loss i d n id m over =
    let now = stated_once portion draws said (lost_message loss (walking_exchange (at_step s i d))) n (at_step s i d) in
    goes more portion draws said loss (at_step s i d) now
    (once_stated due portion draws said loss n (at_step s i d) (omega arith) id m)
    ∙ stops now.outcome now _ (over now refl)

-- ---- lock

-- GET_VERSION, and GET_CAPABILITIES, leave both ends
quiet_version : (portion draws : ℕ) (said : StreamSaid) (loss : Option Loss) (i : HostTdi) (d : DeviceTdis)
    (n : NamedTdi)
    → named_interface d i.requester ≡ Some n
    → (l : Option Lost) (more : ℕ) (rest : WalkedInterface) → interface_walk more portion draws said loss
    (at_step step.Capabilities i d)
    ≡ rest
    → continued_walk (stated_once portion draws said l n (at_step step.Version i d)).outcome
    (stated_once portion draws said l n (at_step step.Version i d))
    (interface_walk more portion draws said loss
    (walking_next step.Version (stated_once portion draws said l n (at_step step.Version i d))))
    ≡ walked_unless_lost l (lost_early 1 i d) rest
quiet_version portion draws said loss i d n is None more rest e =
    ap (λ xs. interface_walk more portion draws said loss
    (at_step step.Capabilities i (record d { interfaces = xs })))
    (same_set d i.requester n is) ∙ e
quiet_version portion draws said loss i d n is (Some Request) more rest e = refl
quiet_version portion draws said loss i d n is (Some Reply) more rest e = ap
    (λ xs. lost_early 1 i (record d { interfaces = xs })) (same_set d i.requester n is)

quiet_capabilities : (portion draws : ℕ) (said : StreamSaid) (loss : Option Loss) (i : HostTdi) (d : DeviceTdis)
    (n : NamedTdi)
    → named_interface d i.requester ≡ Some n
    → (l : Option Lost) (more : ℕ) (rest : WalkedInterface) → interface_walk more portion draws said loss
    (at_step step.Lock i d) ≡ rest
    → continued_walk (stated_once portion draws said l n (at_step step.Capabilities i d)).outcome
    (stated_once portion draws said l n (at_step step.Capabilities i d))
    (interface_walk more portion draws said loss
    (walking_next step.Capabilities (stated_once portion draws said l n (at_step step.Capabilities i d))))
    ≡ walked_unless_lost l (lost_early 2 i d) rest
quiet_capabilities portion draws said loss i d n is None more rest e =
    ap (λ xs. interface_walk more portion draws said loss (at_step step.Lock i (record d { interfaces = xs })))
    (same_set d i.requester n is) ∙ e
quiet_capabilities portion draws said loss i d n is (Some Request) more rest e = refl
quiet_capabilities portion draws said loss i d n is (Some Reply) more rest e = ap
    (λ xs. lost_early 2 i (record d { interfaces = xs })) (same_set d i.requester n is)

lock_stated : ExchangesAreDue → (more portion draws : ℕ) (said : StreamSaid) (loss : Option Loss) (i : HostTdi)
    (d : DeviceTdis) (n : NamedTdi) → Meets portion i d n
    → interface_walk (suc (suc (suc more))) portion draws said loss (begun_walking op.Lock i d)
    ≡ stated_lock portion draws said loss i d n
lock_stated due more portion draws said loss i d n m =
    let third = alone due step.Lock more portion draws said loss i d n tt m
    (λ now e. subst (λ x. IsOver x.outcome) (sym e) (lock_over 3 _)) in
    let second = goes (suc more) portion draws said loss (at_step step.Capabilities i d) _
    (once_stated due portion draws said loss n (at_step step.Capabilities i d) (omega arith) tt m)
    ∙ quiet_capabilities portion draws said loss i d n m.named_is (lost_message loss 2) (suc more) _ third in
    goes (suc (suc more)) portion draws said loss (at_step step.Version i d) _
    (once_stated due portion draws said loss n (at_step step.Version i d) (omega arith) tt m)
    ∙ quiet_version portion draws said loss i d n m.named_is (lost_message loss 1) (suc (suc more)) _ second

pub operations_stated : ExchangesAreDue → OperationsAreStated
operations_stated due op.Lock more portion draws said loss i d n short m = lock_stated due more portion draws said
    loss i d n m
operations_stated due op.Report more portion draws said loss i d n short m = absurd short
operations_stated due op.Start more portion draws said loss i d n short m = alone due step.Start (suc (suc more))
    portion draws said loss i d n tt m (λ now e. subst (λ x. IsOver x.outcome) (sym e) (start_over 1 _ _))
operations_stated due op.Halt more portion draws said loss i d n short m = alone due step.Halt (suc (suc more)) portion
    draws said loss i d n tt m (λ now e. subst (λ x. IsOver x.outcome) (sym e) (halt_over 1 _ _))
operations_stated due op.State more portion draws said loss i d n short m = alone due step.State (suc (suc more))
    portion draws said loss i d n tt m (λ now e. subst (λ x. IsOver x.outcome) (sym e) (state_over 1 _))
operations_stated due (op.Bind peer) more portion draws said loss i d n short m =
    alone due (step.Bind peer) (suc (suc more)) portion draws said loss i d n short m
    (λ now e. subst (λ x. IsOver x.outcome) (sym e) (bind_over 1 _ _))
operations_stated due (op.Unbind peer) more portion draws said loss i d n short m =
    alone due (step.Unbind peer) (suc (suc more)) portion draws said loss i d n short m
    (λ now e. subst (λ x. IsOver x.outcome) (sym e) (unbind_over 1 _ _))
