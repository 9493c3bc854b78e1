-- TLPs at the switch of a link's hop: those that were accepted there since the link's last reset, and of them those
-- that no forward has sealed since then. The segment towards the host is one line, that towards the device another.
use Rattle.std.specs.Prelude.{if◌then◌else◌, ◌&&◌, ◌++◌, ◌+◌, ◌==◌, ◌∷◌, Bool, List, [], Option, drop, false, length}
use Rattle.std.specs.Prelude.{is_some, slice_get, take, ℕ}
use Rattle.spec_links.specs.Terms.{PortName, Plan, Event, Reset, Accepted, Sealed, Packet, is_sync_packet, History}
pub use Rattle.hop_queues.specs.declared.queue.HopTlp.{HopTlp}
use Rattle.ide_types.specs.Ports.{host_port, device_port}
use Rattle.ide_types.specs.Lines.{is_link_line, near_hop_line, far_hop_line}
use Rattle.ide_types.specs.Sub.{direction_number}
use Rattle.ide_types.specs.declared.direction.Direction.{Direction}
use Rattle.ide_types.specs.declared.direction.Direction.TheVariants.{Downstream, Upstream}
use Rattle.ide_types.specs.Ends.{link_hop}
use Rattle.spec_keys.specs.Places.{is_line_reset}
use Rattle.spec_links.specs.Plan.{is_same_port}
use Rattle.spec_links.specs.Packets.{SealedList}
use Rattle.spec_links.specs.Ended.{unit_accepted}
use Rattle.spec_links.specs.Admission.{plain_of}
use Rattle.script_events.specs.declared.event.Event.TheVariants.{Forward}
use Rattle.event_verdicts.specs.declared.verdict.Verdict.TheVariants as v

-- ---- the ends of a hop

abbrev pub has_hop : Plan → ℕ → Bool
has_hop plan link = is_link_line link && is_some (link_hop (slice_get plan.links link))

-- the way of a TLP: it is sealed at a host or a device, taken and sealed again at the switch, and taken behind it
abbrev pub first_end : ℕ → Direction → PortName
first_end link Downstream = host_port (near_hop_line link)
first_end link Upstream = device_port (far_hop_line link)

abbrev pub entering_end : ℕ → Direction → PortName
entering_end link Downstream = device_port (near_hop_line link)
entering_end link Upstream = host_port (far_hop_line link)

abbrev pub leaving_end : ℕ → Direction → PortName
leaving_end link Downstream = host_port (far_hop_line link)
leaving_end link Upstream = device_port (near_hop_line link)

abbrev pub last_end : ℕ → Direction → PortName
last_end link Downstream = device_port (far_hop_line link)
last_end link Upstream = host_port (near_hop_line link)

-- these ends that a reset clears are of both segments
abbrev pub clears_hop : List PortName → ℕ → Bool
clears_hop ends link = is_line_reset ends (near_hop_line link) && is_line_reset ends (far_hop_line link)

-- ---- TLPs

-- those of packets with this plaintext; a sync packet carries none
abbrev pub tlps_with : List ℕ → List Packet → List HopTlp
tlps_with plain [] = []
tlps_with plain (p ∷ ps) =
    let later = tlps_with (drop (length p.body) plain) ps in
    if is_sync_packet p then later
    else record { sub = p.prefix.sub; bytes = p.head ++ take (length p.body) plain; t = p.prefix.t } ∷ later

-- those of units that were accepted at an end since the last reset of the link's hop, in order
unfoldable pub accepted_tlps_in_list : Plan → SealedList → History → ℕ → PortName → List HopTlp
accepted_tlps_in_list plan xs [] link end = []
accepted_tlps_in_list plan xs ((e, Accepted port unit effects) ∷ h) link end =
    if is_same_port port end
    then accepted_tlps_in_list plan xs h link end
    ++ tlps_with (plain_of plan port unit (unit_accepted plan xs h e port unit)) (unit_accepted plan xs h e port unit)
    else accepted_tlps_in_list plan xs h link end
accepted_tlps_in_list plan xs ((Reset k ends, v.Reset l) ∷ h) link end =
    if clears_hop ends link then [] else accepted_tlps_in_list plan xs h link end
accepted_tlps_in_list plan xs (_ ∷ h) link end = accepted_tlps_in_list plan xs h link end

-- ---- what is forwarded

abbrev pub is_forward_on : ℕ → Direction → Event → Bool
is_forward_on link d (Forward l way) = (l == link) && (direction_number way == direction_number d)
is_forward_on link d e = false

-- how many were forwarded since then
unfoldable pub forwarded_count : History → ℕ → Direction → ℕ
forwarded_count [] link d = 0
forwarded_count ((e, Sealed ds) ∷ h) link d =
    if is_forward_on link d e then forwarded_count h link d + 1 else forwarded_count h link d
forwarded_count ((Reset k ends, v.Reset l) ∷ h) link d = if clears_hop ends link then 0 else forwarded_count h link d
forwarded_count (_ ∷ h) link d = forwarded_count h link d

-- the first that waits
abbrev pub first_in : Plan → SealedList → History → ℕ → Direction → Option HopTlp
first_in plan xs h link d = slice_get (accepted_tlps_in_list plan xs h link (entering_end link d))
    (forwarded_count h link d)
