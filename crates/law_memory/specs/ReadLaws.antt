-- Trusted reads: they are answered in order, each from memory as it is then, and each was sealed by its interface.
use Rattle.std.specs.Prelude.{ℕ, ◌+◌, ◌≤◌, ◌≡◌, ◌==◌, ◌∷◌, Bool, true, false, [], length, List, Some, Ok, slice_get}
use Rattle.spec_links.specs.Terms.{AllByRecursion, Host, Plan, Event, Access, Verdict, Accepted, Sealed, SealedPacket}
use Rattle.spec_links.specs.Terms.{Reset}
use Rattle.spec_links.specs.Terms.{Packet, History, Tlp, read_of, byte_last_written, completion_bytes, WaitingRead}
use Rattle.spec_links.specs.Terms.{host_completer}
use Rattle.spec_links.specs.Ports.{port_of, is_host_port}
use Rattle.ide_types.specs.Ports.{host_port}
use Rattle.spec_links.specs.History.{sent_bytes, accepted_packets, received_in}
use Rattle.spec_links.specs.Memory.{queued_reads, writes, unit_ended}
use Rattle.spec_links.specs.Sent.{reads_taken}
use Rattle.spec_interfaces.specs.Sites.{Site, site_at}
use Rattle.spec_interfaces.specs.Terms.{Running}
use Rattle.spec_interfaces.specs.Views.{view_at, floor_at}
use Rattle.ide_types.specs.declared.sub.SubKind.TheVariants.{Cpl}
use Rattle.script_events.specs.declared.event.AccessEvent.TheVariants as ae
use Rattle.event_verdicts.specs.declared.access.AccessVerdict.TheVariants as av
use Rattle.event_verdicts.specs.declared.verdict.Effect.TheVariants.{Queued}
use Rattle.event_verdicts.specs.declared.verdict.Verdict.TheVariants as v
use Rattle.law_reads.specs.Order.{TakesFirst, FewWait}
use Rattle.law_memory.specs.Origin.{IsFrom}

-- ---- answers

-- The oldest read of the link that waits, and the interface with its requester ID: of the reads that were queued since
-- the link's last reset it is the one behind those that answers took.
pub record IsOldest (plan : Plan) (h : History) (link : ℕ) : Type 0 where
  pub read : WaitingRead
  pub oldest : slice_get (queued_reads plan h (host_port link)) (reads_taken h (host_port link)) ≡ Some read
  pub interface : Site
  pub known : site_at plan interface.number ≡ Some interface
  pub link_is : interface.link ≡ link
  pub requester : read.read.requester ≡ interface.plan.requester

-- A packet of an interface's completion goes out at the host's port of the link, on the interface's bound stream. But
-- for sync packets it has T, is a completion, and comes under a draw from the interface's floor on.
pub record Carries (h : History) (link : ℕ) (interface : Site) (d : SealedPacket) : Type 0 where
  pub port_is : d.port ≡ record { side = Host; line = link }
  pub stream_is : d.stream ≡ interface.plan.stream
  pub t_is : d.sync ≡ false → d.t ≡ true
  pub sub_is : d.sync ≡ false → d.sub ≡ Cpl
  pub draw_is : d.sync ≡ false → floor_at h interface ≤ d.draw

-- The completion of that read was sealed: its bytes, from what the writes before left in memory, went to its
-- interface's bound stream while the manager's view was Running, and the read itself came under a draw from the floor
-- on.
pub record IsReadAnswered (plan : Plan) (h : History) (link : ℕ) (ds : List SealedPacket) : Type 0 where
  pub of : IsOldest plan h link
  pub view : view_at h of.interface ≡ Running
  pub floor : floor_at h of.interface ≤ of.read.came.draw
  pub bytes : sent_bytes plan h (Access (ae.Answer link))
      ≡ completion_bytes host_completer (byte_last_written (writes plan h)) of.read.read
  pub tlp : Tlp
  pub reads : read_of (sent_bytes plan h (Access (ae.Answer link))) ≡ Ok tlp
  pub packets : AllByRecursion (Carries h link of.interface) ds

-- it was dropped
pub record IsDropped (plan : Plan) (h : History) (link interface : ℕ) : Type 0 where
  pub of : IsOldest plan h link
  pub number : of.interface.number ≡ interface

abbrev pub AnswersOldest : Plan → History → Event → Verdict → Type 0
AnswersOldest plan h (Access (ae.Answer link)) (Sealed ds) = IsReadAnswered plan h link ds
AnswersOldest plan h (Access (ae.Answer link)) (v.Access (av.Dropped interface cause)) = IsDropped plan h link interface
AnswersOldest plan h e w = Unit {0}

-- After each pair: an answer took the oldest read of its host's port; what was taken at each port is a prefix, in
-- order,
-- of what was queued there; no more than 64 wait at one.
abbrev pub ReadLaw : Plan → History → Type 0
ReadLaw plan [] = Unit {0}
ReadLaw plan ((e, w) ∷ h) =
    AnswersOldest plan h e w × TakesFirst plan ((e, w) ∷ h) × FewWait plan ((e, w) ∷ h) × ReadLaw plan h

-- ---- where queued reads come from

-- the pair resets the link, and with it the queues at its ports
abbrev pub resets : ℕ → Event → Verdict → Bool
resets link (Reset k ends) (v.Reset l) = l == link
resets link e w = false

-- A read that is queued at a host's port is packet n of its unit, and was sealed by the interface of its requester ID
-- in the very RUN, under the very lock, that it is queued for.
abbrev pub QueuedFrom : Plan → History → Event → Verdict → Type 0
QueuedFrom plan h e (Accepted port unit effects) =
    is_host_port plan (port_of plan port) ≡ true
    → (n : ℕ) (p : Packet) → slice_get effects n ≡ Some Queued → slice_get (unit_ended plan h e port unit) n ≡ Some p
    → IsFrom plan h port unit p (length (accepted_packets plan h (received_in port unit) unit.draw) + n)
QueuedFrom plan h e w = Unit {0}
