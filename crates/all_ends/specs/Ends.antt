-- The two ends of each line, as they are kept: where they stand, what is read of them, and what each change leaves
-- (this profile). Line L, 0 to 7, is a link; 8 + L and 16 + L are the two segments of its hop, towards the host and
-- towards the device; from 24 on come the streams between two devices.
use Rattle.std.specs.Prelude.{ℕ, suc, zero, ◌-◌, ◌+◌, nat_lt, Bool, false, if◌then◌else◌, List, [], ◌∷◌, length}
use Rattle.std.specs.Prelude.{Option, Some, None, slice_get, unwrap_or}
use Rattle.std.specs.Option.{option_map, option_and_then}
use Rattle.ide_types.specs.declared.port.Side.{Side}
use Rattle.ide_types.specs.declared.port.Side.TheVariants.{Host, Device}
use Rattle.ide_types.specs.declared.port.PortName.{PortName}
use Rattle.ide_types.specs.declared.status.StreamStatus.{StreamStatus}
use Rattle.ide_types.specs.declared.sub.SubKind.TheVariants.{Pr}
use Rattle.ide_types.specs.Lines.{peer_line}
use Rattle.ide_types.specs.Ends.{peer_link}
use Rattle.ide_types.specs.declared.plan.LinkPlan.{LinkPlan}
use Rattle.ide_types.specs.declared.plan.PeerPlan.{PeerPlan}
use Rattle.ide_types.specs.declared.plan.Plan.{Plan}
use Rattle.ide_types.specs.declared.stream.StreamPlan.{StreamPlan}
use Rattle.spec_interfaces.specs.Peers.{live_by_id}
use Rattle.arrival_verdicts.specs.{lone_stream, hop_streams, in_eight, hop_by_link, behind_near}
use Rattle.ide_port.specs.{PortEnd, Trusting, port_stream_status, receiving_draw_in, reset_port}
use Rattle.link_ends.specs.DeviceEnds.{says_secure, settled_device, peer_trusting}
use Rattle.interface_ends.specs.Replies.{DeviceTdis, reset_device_interfaces}
use Rattle.link_ends.specs.declared.pair.PairEnds.{PairEnds}
use Rattle.link_ends.specs.LineEnds.{new_pair, line_end_in, with_end, reset_pair}
use Rattle.link_ends.specs.declared.ends.LinkEnds.{LinkEnds}
use Rattle.link_ends.specs.Ends.{new_ends, port_in, with_port, trusting_at}
use Rattle.all_ends.specs.Requester.{requester_of}
use Rattle.all_ends.specs.declared.places.LinePlace.{LinePlace}
use Rattle.all_ends.specs.declared.places.LinePlace.TheVariants.{Link, Near, Pair}

-- of the links, of their hops' segments towards the hosts, of those towards the devices and then of the streams between
-- devices, and which devices these join
pub record EndsView : Type 0 where
  pub links : List LinkEnds
  pub near : List LinkEnds
  pub pairs : List PairEnds
  pub peers : List PeerPlan

-- ---- at first

-- the ends of the links from this number on
abbrev pub ends_from : ℕ → ℕ → List LinkPlan → List LinkEnds
ends_from limit link [] = []
ends_from limit link (l ∷ ls) = new_ends link l.streams limit (requester_of l.interfaces) l.interfaces l.nonces
    ∷ ends_from limit (link + 1) ls

-- of the lines from this one on, with these streams, that end at a host and a switch
abbrev pub near_from : ℕ → ℕ → List (List StreamPlan) → List LinkEnds
near_from limit line [] = []
near_from limit line (ss ∷ rows) = new_ends line ss limit 0 [] [] ∷ near_from limit (line + 1) rows

-- that are keyed by messages at both
abbrev pub pairs_from : ℕ → ℕ → List (List StreamPlan) → List PairEnds
pairs_from limit line [] = []
pairs_from limit line (ss ∷ rows) = new_pair line ss limit ∷ pairs_from limit (line + 1) rows

-- the streams of a segment of a link's hop, and that of a stream between devices
abbrev pub hop_row : LinkPlan → List StreamPlan
hop_row l = hop_streams l.hop

abbrev pub peer_row : PeerPlan → List StreamPlan
peer_row p = lone_stream p.id p.aggregation ∷ []

-- no stream has keys
abbrev pub new_all_ends : Plan → EndsView
new_all_ends plan = record {
  links = ends_from plan.units_per_key 0 plan.links;
  near = near_from plan.units_per_key 8 (in_eight (hop_by_link plan));
  pairs = pairs_from plan.units_per_key 16 (behind_near plan);
  peers = plan.peers;
}

-- ---- one end

-- which list has the ends of a line, and at which place
abbrev pub line_place : ℕ → LinePlace
line_place line = if nat_lt line 8 then Link line else if nat_lt line 16 then Near (line - 8) else Pair (line - 16)

abbrev pub pair_port : Side → PairEnds → PortEnd
pair_port side l = (line_end_in side l).port

abbrev pub port_at_place : EndsView → Side → LinePlace → Option PortEnd
port_at_place v side (Link i) = option_map (λ l. port_in side l) (slice_get v.links i)
port_at_place v side (Near i) = option_map (λ l. port_in side l) (slice_get v.near i)
port_at_place v side (Pair i) = option_map (λ l. pair_port side l) (slice_get v.pairs i)

-- what stands at an end
abbrev pub port_on : EndsView → PortName → Option PortEnd
port_on v end = port_at_place v end.side (line_place end.line)

-- one item changed, if it is there
abbrev pub changed_at : {A : Type 0} → List A → ℕ → (A → A) → List A
changed_at [] i f = []
changed_at (x ∷ xs) zero f = f x ∷ xs
changed_at (x ∷ xs) (suc i) f = x ∷ changed_at xs i f

abbrev pub with_pair_port : Side → PortEnd → PairEnds → PairEnds
with_pair_port side e l = with_end side (record (line_end_in side l) { port = e }) l

abbrev pub with_port_at_place : EndsView → Side → LinePlace → PortEnd → EndsView
with_port_at_place v side (Link i) e = record v { links = changed_at v.links i (with_port side e) }
with_port_at_place v side (Near i) e = record v { near = changed_at v.near i (with_port side e) }
with_port_at_place v side (Pair i) e = record v { pairs = changed_at v.pairs i (with_pair_port side e) }

-- with something else at an end
abbrev pub with_port_on : EndsView → PortName → PortEnd → EndsView
with_port_on v end e = with_port_at_place v end.side (line_place end.line) e

-- ---- what is read at an end

abbrev pub end_stream_status : EndsView → PortName → ℕ → Option StreamStatus
end_stream_status v end stream = option_and_then (λ e. port_stream_status e stream) (port_on v end)

-- the draw that is Live where a port receives posted requests on a stream, if the stream is Secure there
abbrev pub live_at_port : PortEnd → ℕ → Option ℕ
live_at_port e stream =
    if says_secure (port_stream_status e stream) then Some (unwrap_or (receiving_draw_in e stream Pr) 0) else None

-- of the end of a line that is keyed by messages at both
abbrev pub live_of : List PairEnds → PortName → ℕ → Option ℕ
live_of pairs end stream =
    option_and_then (λ l. live_at_port (pair_port end.side l) stream) (slice_get pairs (end.line - 16))

-- the end of a side of the stream between devices of this number
abbrev pub end_named : Side × ℕ → PortName
end_named x = record { side = x.0; line = peer_line x.1 }

-- what a link's device says of the streams between it and others
abbrev pub peer_live : EndsView → ℕ → ℕ → Option ℕ
peer_live v link stream = live_by_id (live_of v.pairs) v.peers link stream

-- ---- T

-- as it is asked, or never
abbrev pub asked_trust : Bool → Trusting
asked_trust trusted = λ head stream. trusted

abbrev pub link_trust : Side → Bool → Option LinkEnds → Trusting
link_trust Host trusted o = asked_trust trusted
link_trust Device trusted None = asked_trust false
link_trust Device trusted (Some l) = trusting_at Device l trusted

abbrev pub far_hop_trust : Side → Bool → Trusting
far_hop_trust Host trusted = asked_trust trusted
far_hop_trust Device trusted = asked_trust false

-- the interfaces of the device at the end of a side of the stream between devices of this number
abbrev pub bound_on : List LinkEnds → List PeerPlan → Side → ℕ → Option DeviceTdis
bound_on links peers side n =
    option_and_then (λ p. option_map (λ l. l.device.interfaces) (slice_get links (peer_link side p)))
    (slice_get peers n)

abbrev pub bound_trust : Option DeviceTdis → Trusting
bound_trust None = asked_trust false
bound_trust (Some d) = peer_trusting d

abbrev pub pair_trust : EndsView → Side → ℕ → Bool → Trusting
pair_trust v side i trusted =
    if nat_lt i 8 then far_hop_trust side trusted else bound_trust (bound_on v.links v.peers side (i - 8))

abbrev pub trust_at_place : EndsView → Side → LinePlace → Bool → Trusting
trust_at_place v side (Link i) trusted = link_trust side trusted (slice_get v.links i)
trust_at_place v side (Near i) trusted = asked_trust trusted
trust_at_place v side (Pair i) trusted = pair_trust v side i trusted

-- T of what is sent at an end: at a host's port and at a switch as it is asked; at a device's port by the interfaces'
-- own stream, at its ends of streams to others by what they are bound to; of a hop's segment no device sets T
abbrev pub trusting_on : EndsView → PortName → Bool → Trusting
trusting_on v end trusted = trust_at_place v end.side (line_place end.line) trusted

-- ---- devices' interfaces settle

abbrev pub settled_ends : (ℕ → Option ℕ) → LinkEnds → LinkEnds
settled_ends live l = record l { device = settled_device live l.device }

-- the interfaces of a link's device that are bound to a stream that is not Secure there leave their lock
abbrev pub settled_link : EndsView → ℕ → EndsView
settled_link v link = record v { links = changed_at v.links link (settled_ends (peer_live v link)) }

-- those of the links below this number
abbrev pub settled_first_links : ℕ → EndsView → EndsView
settled_first_links zero v = v
settled_first_links (suc n) v = settled_link (settled_first_links n v) n

abbrev pub settled_all : EndsView → EndsView
settled_all v = settled_first_links (length v.links) v

-- those of both devices of a stream between them
abbrev pub settled_peer : Option PeerPlan → EndsView → EndsView
settled_peer None v = v
settled_peer (Some p) v = settled_link (settled_link v p.near) p.far

-- those of the devices whose streams a line has
abbrev pub settled_place : LinePlace → EndsView → EndsView
settled_place (Link i) v = settled_link v i
settled_place (Near i) v = v
settled_place (Pair i) v = if nat_lt i 8 then v else settled_peer (slice_get v.peers (i - 8)) v

-- ---- resets

-- both ports drop their keys and counts, and nothing else changes
abbrev pub cleared_ends : LinkEnds → LinkEnds
cleared_ends l = record {
  host = reset_port l.host;
  device = record l.device { port = reset_port l.device.port };
}

abbrev pub cleared_pair : Side → ℕ → PairEnds → PairEnds
cleared_pair side i l = if nat_lt i 8 then reset_pair Device (reset_pair Host l) else reset_pair side l

abbrev pub cleared_place : Side → LinePlace → EndsView → EndsView
cleared_place side (Link i) v = record v { links = changed_at v.links i cleared_ends }
cleared_place side (Near i) v = record v { near = changed_at v.near i cleared_ends }
cleared_place side (Pair i) v = record v { pairs = changed_at v.pairs i (cleared_pair side i) }

-- of a stream between devices one end, of any other line both
abbrev pub cleared_on : EndsView → PortName → EndsView
cleared_on v end = cleared_place end.side (line_place end.line) v

abbrev pub all_cleared : EndsView → List PortName → EndsView
all_cleared v [] = v
all_cleared v (e ∷ es) = all_cleared (cleared_on v e) es

abbrev pub unlocked_ends : LinkEnds → LinkEnds
unlocked_ends l = record l { device = record l.device { interfaces = reset_device_interfaces l.device.interfaces } }

-- the interfaces of a link's device are as they were made, but for the nonces that were given
abbrev pub unlocked_link : EndsView → ℕ → EndsView
unlocked_link v link = record v { links = changed_at v.links link unlocked_ends }

-- after the reset of a link, which clears these ends
abbrev pub reset_all : ℕ → List PortName → EndsView → EndsView
reset_all link ends v = settled_all (unlocked_link (all_cleared v ends) link)
