-- Each verdict on an interface is the one that is due, and packets have T as their device sets it.
use Rattle.std.specs.Prelude.{◌≡◌, ℕ, ◌∷◌, Bool, false, if◌then◌else◌, List, [], Option, None, Result, Ok, Err, nat_le}
use Rattle.std.specs.Prelude.{nat_lt, length, not, ◌&&◌}
use Rattle.spec_interfaces.specs.Terms.{AllByRecursion, option_and_then, Side, Host, Device, PortName, Plan, Event}
use Rattle.spec_interfaces.specs.Terms.{Verdict, SealedPacket, History}
use Rattle.spec_interfaces.specs.Sites.{Site, site_of_requester}
use Rattle.spec_interfaces.specs.Devices.{peer_t, sets_t}
use Rattle.spec_interfaces.specs.Due.{interface_verdict_due}
use Rattle.ide_types.specs.Ends.{port_beside_end}
use Rattle.tlp_layout.specs.Choice.{id_of}
use Rattle.tlp_layout.specs.declared.head.HeadView.{HeadView}
use Rattle.tlp_layout.specs.declared.tlp.Tlp.{Tlp}
use Rattle.tlp_layout.specs.declared.fault.TlpFault.{TlpFault}
use Rattle.tlp_layout.specs.Reading.{read_of}
use Rattle.tlp_layout.specs.Tlp.{header}
use Rattle.script_events.specs.declared.event.Event.TheVariants as event
use Rattle.event_verdicts.specs.declared.verdict.Verdict.TheVariants as v

-- ---- the owner of a TLP

-- the requester of a request, the completer of a completion
abbrev pub owner_id : HeadView → Option ℕ
owner_id head = id_of Device head.fields

-- the interface of a link that owns a TLP
abbrev pub owner_site : Plan → ℕ → HeadView → Option Site
owner_site plan link head = option_and_then (site_of_requester plan link) (owner_id head)

abbrev pub owner_read : Plan → ℕ → Result Tlp TlpFault → Option Site
owner_read plan link (Ok t) = owner_site plan link (header t)
owner_read plan link (Err f) = None

-- ---- T

-- T of a TLP on a stream: at a host's port as it is asked, at a device's if its owner is in RUN
abbrev pub t_due : Plan → History → PortName → Side → Option Site → ℕ → Bool → Bool
t_due plan h port Host owner stream trusted = trusted
t_due plan h port Device owner stream trusted = sets_t plan h port.line stream owner

-- the end of a stream between devices
abbrev pub is_peer : Plan → PortName → Bool
is_peer plan end = nat_le 24 end.line && not (nat_lt end.line (length plan.links))

-- the link at whose device the owners of the TLPs are that an end sends
abbrev pub owners_link : Plan → PortName → ℕ
owners_link plan end = if is_peer plan end then (port_beside_end plan.peers end).line else end.line

-- T that an end sets, on a line that is no stream between devices, or on one
abbrev pub t_at : Plan → History → PortName → Option Site → ℕ → Bool → Bool
t_at plan h end owner stream trusted =
    if is_peer plan end then peer_t plan h owner stream else t_due plan h end end.side owner stream trusted

-- of a packet, by the end that sealed it; a sync packet has none
pub record SealFits (plan : Plan) (h : History) (bytes : List ℕ) (trusted : Bool) (d : SealedPacket) : Type 0 where
  pub t_is : d.t ≡ (if d.sync then false
      else t_at plan h d.port (owner_read plan (owners_link plan d.port) (read_of bytes)) d.stream trusted)

-- ---- the cause of each verdict

-- of an event on memory, a send and an arrival the verdict itself is supposed
abbrev pub PairFits : Plan → History → Event → Verdict → Type 0
PairFits plan h (event.Interface e) w = w ≡ interface_verdict_due plan h e w
PairFits plan h (event.Send port bytes more trusted) (v.Sealed ds) = AllByRecursion (SealFits plan h bytes trusted) ds
PairFits plan h e w = Unit {0}

abbrev pub InterfaceCause : Plan → History → Type 0
InterfaceCause plan [] = Unit {0}
InterfaceCause plan ((e, w) ∷ h) = PairFits plan h e w × InterfaceCause plan h
