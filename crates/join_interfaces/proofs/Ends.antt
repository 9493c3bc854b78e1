-- An operation that the manager begins is the walk of one interface, or its refusal; how many bytes a portion is asked
-- of stays as it is.
use Rattle.std.proofs.Common.{◌≡◌, ℕ, zero, suc, Option, Some, None, refl, ap, sym}
use Rattle.std.specs.Prelude.{slice_get, slice_set}
use Rattle.ide_types.proofs.Places.{set_read}
use Rattle.script_events.specs.declared.event.Loss.{Loss}
use Rattle.interface_host.specs.declared.interfaces.Asking.{Asking}
use Rattle.interface_host.specs.declared.operation.InterfaceOperation.{InterfaceOperation}
use Rattle.interface_host.specs.declared.operation.InterfaceOutcome.{InterfaceOutcome}
use Rattle.interface_host.specs.declared.operation.InterfaceOutcome.TheVariants as outcome
use Rattle.interface_host.specs.declared.operation.InterfaceRefusal.{InterfaceRefusal}
use Rattle.interface_host.specs.Steps.{first_step}
use Rattle.interface_host.specs.Views.{HostTdi, interface_unless}
use Rattle.interface_host.specs.Managers.{InterfaceManagerView, CurrentInterface, current_interface, current_by}
use Rattle.interface_host.specs.Managers.{nothing_read}
use Rattle.interface_ends.specs.declared.said.StreamSaid.{StreamSaid}
use Rattle.interface_ends.specs.Replies.{DeviceTdis}
use Rattle.interface_ends.specs.Operations.{WalkedInterface, interface_walk, begun_walking}
use Rattle.interface_ends.specs.Keepers.{Ended, interface_exchanged, ended_if_over, by_current, unless_refused}
use Rattle.interface_ends.specs.Keepers.{KeepersWalk}
unfoldable use Rattle.interface_ends.specs.Keepers.{manager_walk}
use Rattle.join_interfaces.proofs.Comes.{begun_walk}

-- ---- portions

goes_portion : (o : InterfaceOutcome) (now rest : Ended) (p : ℕ) → now.manager.portion ≡ p → rest.manager.portion ≡ p
    → (ended_if_over o now rest).manager.portion ≡ p
goes_portion outcome.Next now rest p here later = later
goes_portion (outcome.Done shown) now rest p here later = here
goes_portion (outcome.Refused refusal) now rest p here later = here

by_portion : (c : Option CurrentInterface) (asked : CurrentInterface → Ended) (rest : Ended) (p : ℕ)
    → ((k : CurrentInterface) → (asked k).manager.portion ≡ p) → rest.manager.portion ≡ p
    → (by_current c asked rest).manager.portion ≡ p
by_portion None asked rest p here later = later
by_portion (Some c) asked rest p here later = here c

pub portion_kept : (more : ℕ) (said : StreamSaid) (loss : Option Loss) (m : InterfaceManagerView) (d : DeviceTdis)
    → (manager_walk more said loss m d).manager.portion ≡ m.portion
unfolding manager_walk
portion_kept zero said loss m d = refl
portion_kept (suc more) said loss m d =
    by_portion (current_interface m)
    (λ c. ended_if_over (interface_exchanged said loss m d c).outcome (interface_exchanged said loss m d c)
    (manager_walk more said loss (interface_exchanged said loss m d c).manager
    (interface_exchanged said loss m d c).device))
    (record { outcome = outcome.Next; manager = m; device = d }) m.portion
    (λ c. goes_portion (interface_exchanged said loss m d c).outcome (interface_exchanged said loss m d c) _
    m.portion refl
    (portion_kept more said loss (interface_exchanged said loss m d c).manager
    (interface_exchanged said loss m d c).device))
    refl

-- ---- the walk of one interface

pub record IsOver (m : InterfaceManagerView) (number : ℕ) (o : InterfaceOperation) (w : WalkedInterface) (e : Ended) :
    Type 0
  where
    pub outcome_is : e.outcome ≡ w.outcome
    pub interfaces_are : e.manager.interfaces ≡ slice_set m.interfaces number w.interface
    pub portion_is : e.manager.portion ≡ m.portion
    pub read_is : e.manager.read ≡ w.read
    pub device_is : e.device ≡ w.device

-- the manager when an operation begins that is not refused
abbrev pub asking_at : InterfaceManagerView → ℕ → InterfaceOperation → ℕ → InterfaceManagerView
asking_at m number o draws =
    record m { asking = Some (record { place = number; step = first_step o; draws = draws }); read = nothing_read }

begun_is_over : KeepersWalk → (more : ℕ) (number : ℕ) (o : InterfaceOperation) (draws : ℕ) (said : StreamSaid)
    (loss : Option Loss) (m : InterfaceManagerView) (d : DeviceTdis) (i : HostTdi) → slice_get m.interfaces number
    ≡ Some i
    → IsOver m number o (interface_walk more m.portion draws said loss (begun_walking o i d))
    (manager_walk more said loss (asking_at m number o draws) d)
begun_is_over keepers more number o draws said loss m d i there =
    let asking : Asking = record { place = number; step = first_step o; draws = draws } in
    let w = keepers more said loss (asking_at m number o draws) d (record { interface = i; asking = asking })
    (ap (current_by asking) there) in
    record {
      outcome_is = w.outcome_is;
      interfaces_are = w.interfaces_are;
      portion_is = portion_kept more said loss (asking_at m number o draws) d;
      read_is = w.read_is;
      device_is = w.device_is;
    }

pub is_over : KeepersWalk → (more : ℕ) (number : ℕ) (o : InterfaceOperation) (draws : ℕ) (said : StreamSaid)
    (loss : Option Loss) (m : InterfaceManagerView) (d : DeviceTdis) (i : HostTdi) (r : Option InterfaceRefusal)
    → slice_get m.interfaces number ≡ Some i
    → IsOver m number o (begun_walk r i m.read d (interface_walk more m.portion draws said loss (begun_walking o i d)))
    (unless_refused r m d (manager_walk more said loss (interface_unless r m (asking_at m number o draws)) d))
is_over keepers more number o draws said loss m d i None there =
    begun_is_over keepers more number o draws said loss m d i there
is_over keepers more number o draws said loss m d i (Some r) there = record {
  outcome_is = refl;
  interfaces_are = sym (set_read m.interfaces number i there);
  portion_is = refl;
  read_is = refl;
  device_is = refl;
}
