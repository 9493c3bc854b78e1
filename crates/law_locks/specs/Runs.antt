-- Each key serves one lock of an interface: what is admitted of it under a draw is admitted under one lock.
use Rattle.std.specs.Prelude.{◌≡◌, ℕ, ◌++◌, ◌∷◌, Bool, true, false, List, Some, Ok, slice_get}
use Rattle.spec_links.specs.Terms.{PortName, Plan, Event, Effect, UnitName, Accepted, Packet, History, read_head_of}
use Rattle.spec_links.specs.Terms.{owner_site, site_of_requester, Access, Verdict, Sealed, WaitingRead, memory_read}
use Rattle.spec_links.specs.Sent.{reads_taken}
use Rattle.law_locks.specs.Fronts.{AtPairs}
use Rattle.script_events.specs.declared.event.AccessEvent.TheVariants as ae
use Rattle.spec_links.specs.Ports.{port_of, is_host_port}
use Rattle.ide_types.specs.Ports.{host_port}
use Rattle.spec_links.specs.Memory.{unit_ended, queued_reads}
use Rattle.spec_interfaces.specs.Sites.{Site}
use Rattle.spec_interfaces.specs.Devices.{locks_accepted}
use Rattle.tlp_layout.specs.declared.head.HeadView.{HeadView}
use Rattle.event_verdicts.specs.declared.verdict.Effect.TheVariants.{Applied, Queued}

-- its write is applied, or its read is queued
abbrev pub is_admitted_effect : Effect → Bool
is_admitted_effect Applied = true
is_admitted_effect Queued = true
is_admitted_effect effect = false

-- a pair of the history ended a unit at a host's port in which a packet of the interface, by its requester ID, was
-- admitted
pub record AdmittedAt (plan : Plan) (h : History) (x : Site) : Type 0 where
  pub event : Event
  pub port : PortName
  pub unit : UnitName
  pub effects : List Effect
  pub older : History
  pub since : History
  pub came : since ++ (event, Accepted port unit effects) ∷ older ≡ h
  pub at_host : is_host_port plan (port_of plan port) ≡ true
  pub number : ℕ
  pub packet : Packet
  pub stands : slice_get (unit_ended plan older event port unit) number ≡ Some packet
  pub effect : Effect
  pub has_effect : slice_get effects number ≡ Some effect
  pub admitted : is_admitted_effect effect ≡ true
  pub head : HeadView
  pub reads : read_head_of packet.head ≡ Ok head
  pub owns : owner_site plan (port_of plan port).line head ≡ Some x

-- two packets of an interface that are admitted under one draw are admitted under one lock
abbrev pub OneLockPerKey : Plan → History → Type 0
OneLockPerKey plan h = (x : Site) (a b : AdmittedAt plan h x) → a.unit.draw ≡ b.unit.draw
    → locks_accepted plan a.older x ≡ locks_accepted plan b.older x

-- ---- answers

-- the oldest read of a link that waits, which an answer takes, was queued under the lock that stands
pub record IsReadInLock (plan : Plan) (h : History) (link : ℕ) : Type 0 where
  pub read : WaitingRead
  pub oldest : slice_get (queued_reads plan h (host_port link)) (reads_taken h (host_port link)) ≡ Some read
  pub interface : Site
  pub owns : site_of_requester plan link read.read.requester ≡ Some interface
  pub from : AdmittedAt plan h interface
  pub draw : from.unit.draw ≡ read.came.draw
  pub is_read : memory_read from.head ≡ Some read.read
  pub same_lock : locks_accepted plan from.older interface ≡ locks_accepted plan h interface

abbrev pub AnswersInLock : Plan → History → Event → Verdict → Type 0
AnswersInLock plan h (Access (ae.Answer link)) (Sealed ds) = IsReadInLock plan h link
AnswersInLock plan h e w = Unit {0}

-- at each answer
abbrev pub AnswersLaw : Plan → History → Type 0
AnswersLaw plan h = AtPairs (AnswersInLock plan) h
