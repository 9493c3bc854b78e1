-- The exchanges that the manager carries are those of one interface.
use Rattle.std.proofs.Common.{◌≡◌, ◌≢◌, ℕ, suc, zero, true, List, Option, Some, None, refl, ap, sym, subst, ◌∙◌}
use Rattle.std.specs.Prelude.{slice_get, is_some, IfSome}
use Rattle.ide_types.proofs.Places.{set_there, set_again, set_read}
use Rattle.script_events.specs.declared.event.Loss.{Loss}
use Rattle.interface_host.specs.declared.interfaces.Asking.{Asking}
use Rattle.interface_host.specs.declared.operation.InterfaceOutcome.{InterfaceOutcome}
use Rattle.interface_host.specs.declared.operation.InterfaceOutcome.TheVariants as outcome
use Rattle.interface_host.specs.Steps.{next_step}
use Rattle.interface_host.specs.Views.{HostTdi}
use Rattle.interface_host.specs.Managers.{InterfaceManagerView, CurrentInterface, current_interface}
use Rattle.interface_host.specs.Managers.{current_interface_in_list, current_by, interface_asking_after}
use Rattle.interface_ends.specs.declared.said.StreamSaid.{StreamSaid}
use Rattle.interface_ends.specs.Replies.{DeviceTdis}
use Rattle.interface_ends.specs.Operations.{walked_once, walking_next, continued_walk, interface_walk}
use Rattle.interface_ends.specs.Keepers.{Ended, IsInterfaceExchanged, interface_exchanged, ended_if_over, by_current}
use Rattle.interface_ends.specs.Keepers.{manager_walk, walking_at, IsInterfaceWalked, KeepersWalk}

-- ---- the exchange that is asked

pub record IsAskedNow (xs : List HostTdi) (asking : Option Asking) (c : CurrentInterface) : Type 0 where
  pub asked : asking ≡ Some c.asking
  pub there : slice_get xs c.asking.place ≡ Some c.interface

stands_at : (xs : List HostTdi) (a : Asking) (i : Option HostTdi) (c : CurrentInterface) → slice_get xs a.place ≡ i
    → current_by a i ≡ Some c → IsAskedNow xs (Some a) c
stands_at xs a None c g e = absurd cc
stands_at xs a (Some i) c g e =
    let same : (let k : CurrentInterface = record { interface = i; asking = a } in k) ≡ c = cc in
    subst (λ (k : CurrentInterface). IsAskedNow xs (Some a) k) same (record { asked = refl; there = g })

pub stands : (xs : List HostTdi) (asking : Option Asking) (c : CurrentInterface)
    → current_interface_in_list xs asking ≡ Some c → IsAskedNow xs asking c
stands xs None c e = absurd cc
stands xs (Some a) c e = stands_at xs a (slice_get xs a.place) c refl e

-- ---- the walk

abbrev pub next_current : StreamSaid → Option Loss → InterfaceManagerView → DeviceTdis → CurrentInterface
    → CurrentInterface
next_current said loss m d c = record {
  interface = (walked_once m.portion c.asking.draws said loss (walking_at m c d)).interface;
  asking = record c.asking { step = next_step c.asking.step };
}

pub moved : (said : StreamSaid) (loss : Option Loss) (m : InterfaceManagerView) (d : DeviceTdis) (c : CurrentInterface)
    → IsAskedNow m.interfaces m.asking c → (interface_exchanged said loss m d c).outcome ≡ outcome.Next
    → current_interface (interface_exchanged said loss m d c).manager ≡ Some (next_current said loss m d c)
moved said loss m d c s next =
    ap (λ o. current_interface_in_list (interface_exchanged said loss m d c).manager.interfaces
    (interface_asking_after c.asking o)) next
    ∙ ap (current_by (next_current said loss m d c).asking)
    (set_there m.interfaces c.asking.place c.interface _ s.there)

goes_by : (more : ℕ) (said : StreamSaid) (loss : Option Loss) (m : InterfaceManagerView) (d : DeviceTdis)
    (c : CurrentInterface) (o : InterfaceOutcome)
    → IsAskedNow m.interfaces m.asking c → (interface_exchanged said loss m d c).outcome ≡ o
    → ((k : CurrentInterface) → current_interface (interface_exchanged said loss m d c).manager ≡ Some k
    → IsInterfaceWalked (interface_exchanged said loss m d c).manager k
    (interface_walk more m.portion k.asking.draws said loss
    (walking_at (interface_exchanged said loss m d c).manager k (interface_exchanged said loss m d c).device))
    (manager_walk more said loss (interface_exchanged said loss m d c).manager
    (interface_exchanged said loss m d c).device))
    → IsInterfaceWalked m c (continued_walk o (walked_once m.portion c.asking.draws said loss (walking_at m c d))
    (interface_walk more m.portion c.asking.draws said loss
    (walking_next c.asking.step (walked_once m.portion c.asking.draws said loss (walking_at m c d)))))
    (ended_if_over o (interface_exchanged said loss m d c)
    (manager_walk more said loss (interface_exchanged said loss m d c).manager
    (interface_exchanged said loss m d c).device))
goes_by more said loss m d c outcome.Next s is rest =
    let w = rest (next_current said loss m d c) (moved said loss m d c s is) in
    record {
      outcome_is = w.outcome_is;
      interfaces_are = w.interfaces_are ∙ set_again m.interfaces c.asking.place _ _;
      read_is = w.read_is;
      device_is = w.device_is;
    }
goes_by more said loss m d c (outcome.Done shown) s is rest = record
    { outcome_is = refl; interfaces_are = refl; read_is = refl; device_is = refl }
goes_by more said loss m d c (outcome.Refused refusal) s is rest = record
    { outcome_is = refl; interfaces_are = refl; read_is = refl; device_is = refl }

-- a step of the manager's walk
pub walk_step : (more : ℕ) (said : StreamSaid) (loss : Option Loss) (m : InterfaceManagerView) (d : DeviceTdis)
    (c : CurrentInterface) → current_interface m
    ≡ Some c
    → manager_walk (suc more) said loss m d ≡ ended_if_over (interface_exchanged said loss m d c).outcome
    (interface_exchanged said loss m d c)
    (manager_walk more said loss (interface_exchanged said loss m d c).manager
    (interface_exchanged said loss m d c).device)
unfolding manager_walk
walk_step more said loss m d c is = ap
    (λ k. by_current k (λ c. ended_if_over (interface_exchanged said loss m d c).outcome
    (interface_exchanged said loss m d c)
    (manager_walk more said loss (interface_exchanged said loss m d c).manager
    (interface_exchanged said loss m d c).device))
    (record { outcome = outcome.Next; manager = m; device = d })) is

pub walk_none : (said : StreamSaid) (loss : Option Loss) (m : InterfaceManagerView) (d : DeviceTdis)
    → (let e : Ended = record { outcome = outcome.Next; manager = m; device = d } in e)
    ≡ manager_walk zero said loss m d
unfolding manager_walk
walk_none said loss m d = refl

pub keeper_walks : KeepersWalk
keeper_walks zero said loss m d c is =
    let s = stands m.interfaces m.asking c is in
    subst (λ e. IsInterfaceWalked m c (interface_walk zero m.portion c.asking.draws said loss (walking_at m c d)) e)
    (walk_none said loss m d)
    (record {
      outcome_is = refl;
      interfaces_are = sym (set_read m.interfaces c.asking.place c.interface s.there);
      read_is = refl;
      device_is = refl;
    })
keeper_walks (suc more) said loss m d c is =
    let s = stands m.interfaces m.asking c is in
    subst (λ e. IsInterfaceWalked m c
    (interface_walk (suc more) m.portion c.asking.draws said loss (walking_at m c d)) e)
    (sym (walk_step more said loss m d c is))
    (goes_by more said loss m d c (interface_exchanged said loss m d c).outcome s refl
    (λ k now. keeper_walks more said loss (interface_exchanged said loss m d c).manager
    (interface_exchanged said loss m d c).device k now))
