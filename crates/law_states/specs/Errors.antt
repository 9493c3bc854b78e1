-- What an interface in ERROR can still do (TDISP, PCI Express Base 6.0 chapter 11, in this profile).
use Rattle.std.specs.Prelude.{◌≡◌, ◌≢◌, ℕ, ◌∷◌, true, false, Some, None, slice_get}
use Rattle.std.specs.List.{AllByRecursion}
use Rattle.ide_types.specs.declared.plan.Plan.{Plan}
use Rattle.ide_types.specs.Ports.{device_port}
use Rattle.spec_keys.specs.History.{History}
use Rattle.spec_links.specs.Ports.{port_of}
use Rattle.spec_links.specs.Memory.{queued_reads, unit_ended}
use Rattle.spec_links.specs.Sent.{reads_taken}
use Rattle.spec_links.specs.Terms.{Accepted, Packet, ReadTarget, WaitingRead, Write, site_on}
use Rattle.spec_interfaces.specs.Terms.{Event, Verdict, SealedPacket, Error}
use Rattle.spec_interfaces.specs.Sites.{Site, site_at}
use Rattle.spec_interfaces.specs.Devices.{is_bound_at}
use Rattle.spec_interfaces.specs.Cause.{owner_read}
use Rattle.interface_state.specs.Machine.{bound_link_stream}
use Rattle.guarded_memory.specs.Statuses.{has_open_range}
use Rattle.tlp_layout.specs.Reading.{read_of}
use Rattle.law_locks.specs.Fronts.{AtPairs}
use Rattle.law_mmio.specs.Stored.{stores}
use Rattle.law_states.specs.States.{state_at, unlocks}
use Rattle.script_events.specs.declared.event.Event.TheVariants as event
use Rattle.script_events.specs.declared.event.AccessEvent.TheVariants as ae
use Rattle.event_verdicts.specs.declared.verdict.Verdict.TheVariants as v

-- no packet of a TLP of the interface that was sealed at an end at its device has T, and none of the completion of a
-- read of its memory
abbrev pub SealsNoT : Plan → History → Event → Verdict → Site → Type 0
SealsNoT plan h (event.Send port bytes more trusted) (v.Sealed ds) x =
    AllByRecursion
    (λ (d : SealedPacket). port_of plan d.port ≡ device_port x.link
    → owner_read plan x.link (read_of bytes) ≡ Some x → d.t ≡ false) ds
SealsNoT plan h (event.Access (ae.Respond link)) (v.Sealed ds) x =
    (read : WaitingRead) (target : ReadTarget)
    → slice_get (queued_reads plan h (device_port link)) (reads_taken h (device_port link)) ≡ Some read
    → read.target ≡ Some target → site_on plan link target.interface ≡ Some x
    → AllByRecursion (λ (d : SealedPacket). d.t ≡ false) ds
SealsNoT plan h e w x = Unit {0}

-- no write of a packet with T is stored in a range of it
abbrev pub StoresNoT : Plan → History → Event → Verdict → Site → Type 0
StoresNoT plan h e (Accepted port unit effects) x = (bar number : ℕ) (packet : Packet) (write : Write)
    → slice_get (unit_ended plan h e port unit) number ≡ Some packet → packet.prefix.t ≡ true
    → slice_get (stores plan h e (Accepted port unit effects) x bar) number ≢ Some (Some write)
StoresNoT plan h e w x = Unit {0}

pub record IsInError (plan : Plan) (h : History) (e : Event) (w : Verdict) (x : Site) : Type 0 where
  pub seals_no_t : SealsNoT plan h e w x
  pub stores_none : (bar number : ℕ) (write : Write) → has_open_range x.plan.bars bar ≡ false
      → slice_get (stores plan h e w x bar) number ≢ Some (Some write)
  pub stores_no_t : StoresNoT plan h e w x
  pub unbound : (stream : ℕ) → is_bound_at plan h x stream ≡ false
  pub no_lock : bound_link_stream (state_at plan h x) ≡ None
  pub left : state_at plan ((e, w) ∷ h) x ≢ Error → unlocks e w x ≡ true

abbrev pub AreInError : Plan → History → Event → Verdict → Type 0
AreInError plan h e w = (i : ℕ) (x : Site) → site_at plan i ≡ Some x → state_at plan h x ≡ Error
    → IsInError plan h e w x

abbrev pub ErrorLaw : Plan → History → Type 0
ErrorLaw plan h = AtPairs (AreInError plan) h
