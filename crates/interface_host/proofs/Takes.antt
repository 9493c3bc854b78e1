-- What the manager's `take` makes of the exchange that is asked.
use Rattle.std.proofs.Common.{◌≡◌, ℕ, suc, zero, List, [], ◌∷◌, length, get_or, Option, Some, refl, ap, sym, subst}
use Rattle.std.specs.Prelude.{slice_set, slice_get, IsSome, IfSome}
use Rattle.key_host.specs.declared.operation.ExchangeReply.{ExchangeReply}
use Rattle.interface_host.specs.declared.interfaces.Asking.{Asking}
use Rattle.interface_host.specs.declared.operation.InterfaceOutcome.{InterfaceOutcome}
use Rattle.interface_host.specs.Steps.{Read, exchange_number}
use Rattle.interface_host.specs.Judging.{JudgedAnswer, interface_judged}
use Rattle.interface_host.specs.Views.{HostTdi, taken_interface, interface_outcome}
use Rattle.interface_host.specs.Managers.{InterfaceManagerView, CurrentInterface, current_interface}
use Rattle.interface_host.specs.Managers.{current_interface_in_list, current_by, judged_now, outcome_by}
use Rattle.interface_host.specs.Managers.{interface_asking_after, report_after_reply, taken_interface_manager}

abbrev pub asked_as : Asking → HostTdi → CurrentInterface
asked_as a i = record { interface = i; asking = a }

at_place : (a : Asking) (xs : List HostTdi) (p : ℕ) (i : HostTdi) → i ≡ get_or xs p i
    → IsSome (current_by a (slice_get xs p)) → current_by a (slice_get xs p) ≡ Some (asked_as a i)
at_place a [] p i is some = absurd cc
at_place a (x ∷ xs) zero i is some = ap (λ y. Some (asked_as a y)) (sym is)
at_place a (x ∷ xs) (suc p) i is some = at_place a xs p i is some

asked_in : (xs : List HostTdi) (asking : Option Asking) (a : Asking) (i : HostTdi) → asking ≡ Some a → i
    ≡ get_or xs a.place i → IsSome (current_interface_in_list xs asking)
    → current_interface_in_list xs asking ≡ Some (asked_as a i)
asked_in xs asking a i asked is some = rw asked
    (at_place a xs a.place i is (subst (λ x. IsSome (current_interface_in_list xs x)) asked some))

-- the exchange that is asked, by what is read of the fields
pub asked_now : (m : InterfaceManagerView) (a : Asking) (i : HostTdi) → m.asking ≡ Some a
    → i ≡ get_or m.interfaces a.place i → IsSome (current_interface m) → current_interface m ≡ Some (asked_as a i)
asked_now m a i asked is some = asked_in m.interfaces m.asking a i asked is some

pub outcome_now : (m : InterfaceManagerView) (a : Asking) (i new : HostTdi) (carried : ExchangeReply)
    (exchange read : ℕ)
    (j : JudgedAnswer)
    (o : InterfaceOutcome)
    → current_interface m ≡ Some (asked_as a i) → exchange ≡ exchange_number a.step m.read → read ≡ length m.read.bytes
    → j ≡ interface_judged a.step i.requester m.portion read carried → new ≡ taken_interface a.step a.draws j i
    → o ≡ interface_outcome a.step exchange j new → IfSome (current_interface m)
    (λ c. o ≡ outcome_by m c (judged_now m c carried))
outcome_now m a i new carried exchange read j o is number size reply taken comes = rw
    (is, comes, taken, reply, number, size) refl

pub manager_now : (m : InterfaceManagerView) (a : Asking) (i new : HostTdi) (carried : ExchangeReply)
    (exchange read : ℕ)
    (j : JudgedAnswer)
    (o : InterfaceOutcome) (next : Option Asking) (after : Read) (interfaces : List HostTdi) (portion : ℕ)
    → current_interface m ≡ Some (asked_as a i) → exchange ≡ exchange_number a.step m.read → read ≡ length m.read.bytes
    → j ≡ interface_judged a.step i.requester m.portion read carried → new ≡ taken_interface a.step a.draws j i
    → o ≡ interface_outcome a.step exchange j new → next ≡ interface_asking_after a o → after
    ≡ report_after_reply j m.read
    → interfaces
    ≡ m.interfaces → portion ≡ m.portion
    → IfSome (current_interface m) (λ c.
    (let kept : InterfaceManagerView = record
    { interfaces = slice_set interfaces a.place new; portion = portion; asking = next; read = after } in kept)
    ≡ taken_interface_manager m c (judged_now m c carried))
manager_now m a i new carried exchange read j o next after interfaces portion is number size reply taken comes goes
    reads same asks =
    rw (is, goes, reads, comes, taken, reply, number, size, same, asks) refl
