-- What an end shows of a stream is what the machine has of it, as it keeps the states of each end (`end_found`). So a
-- device says of its streams what the machine reads of them: of its link's at its port (`secure_is`), of those between
-- devices at its ends of these (`shows_state`).
use Rattle.std.proofs.Common.{◌≡◌, ℕ, ◌-◌, ◌<◌, ◌≤◌, false, List, refl, ap, sym}
use Rattle.std.proofs.Common.{◌∙◌, arith, Option, Some, None}
use Rattle.std.proofs.lemmas.Bool.{lt-ltb, le-ltb}
use Rattle.std.proofs.lemmas.Option.{slice_get_within}
use Rattle.std.specs.Option.{option_and_then}
use Rattle.std.specs.Prelude.{slice_get, option_map, unwrap_or, nat_lt}
use Rattle.ide_types.specs.declared.port.PortName.{PortName}
use Rattle.ide_types.specs.declared.port.Side.{Side}
use Rattle.ide_types.specs.declared.port.Side.TheVariants.{Host, Device}
use Rattle.ide_types.specs.declared.status.StreamStatus.{StreamStatus}
use Rattle.ide_types.specs.declared.sub.SubKind.{SubKind}
use Rattle.ide_types.specs.declared.sub.SubKind.TheVariants.{Pr}
use Rattle.ide_types.specs.declared.status.StreamStatus.TheVariants as status
use Rattle.ide_types.specs.declared.plan.PeerPlan.{PeerPlan}
use Rattle.ide_types.specs.declared.plan.Plan.{Plan}
use Rattle.spec_stream.specs.Stream.{StreamState, at_sub}
use Rattle.spec_stream.specs.Slots.{receiving_draw}
use Rattle.sub_stream.specs.Calls.{stream_status}
use Rattle.key_host.specs.Streams.{status_or_idle}
use Rattle.ide_port.specs.{Found, PortEnd, found_stream, receiving_draw_in, port_stream_status}
use Rattle.link_ends.specs.DeviceEnds.{says_secure, secure_at}
use Rattle.machine_ports.specs.Machine.{LinkPacket, port_at, receiving_draw_at, machine_status}
unfoldable use Rattle.machine_ports.specs.Machine.{find}
use Rattle.machine_ports.specs.Machine as machine
use Rattle.spec_interfaces.specs.Devices.{is_secure}
unfoldable use Rattle.spec_interfaces.specs.Peers.{peer_end}
use Rattle.spec_interfaces.specs.Peers.{live_by_id}
use Rattle.machine_whole.specs.Machine.{live_if, live_draw_at_end, machine_secure}
use Rattle.join_interfaces.proofs.PeerEnds.{peer_end_is}
use Rattle.whole_links.specs.{EndsView, PairEnds, live_at_port, live_of, peer_live, pair_port, port_on}
use Rattle.whole_links.proofs.{end_found}
use Rattle.whole_links.specs.{AreLinks, KeeperView, LinkEnds, port_in, state_of}
use Rattle.join_world.proofs.Places.{get_there}

-- ---- what stands at an end

pub link_port : (plan : Plan) (v : EndsView) (k : KeeperView) (s : Side) (link : ℕ) (l : LinkEnds) → AreLinks plan v k
    → slice_get v.links link ≡ Some l → port_on v (port_at s link) ≡ Some (port_in s l)
link_port plan v k s link l links is =
    let lt : link < 8 = omega (arith, slice_get_within v.links link l is, links.many, links.fits.links_most) in
    rw (lt-ltb link 8 lt) (ap (option_map (port_in s)) is)

pair_there : (v : EndsView) (s : Side) (line : ℕ) (l : PairEnds) → 16 ≤ line → slice_get v.pairs (line - 16) ≡ Some l
    → port_on v (port_at s line) ≡ Some (pair_port s l)
pair_there v s line l le is =
    let past : nat_lt line 8 ≡ false = le-ltb line 8 (omega (arith, le)) in
    let late : nat_lt line 16 ≡ false = le-ltb line 16 le in
    rw (past, late) (ap (option_map (pair_port s)) is)

-- ---- its status

status_shown : (o : Option Found) → status_or_idle (option_map (λ (f : Found). stream_status f.state) o)
    ≡ machine.status_if_planned (option_map (λ (f : Found). f.state) o)
status_shown None = refl
status_shown (Some f) = refl

module _ (plan : Plan) (v : EndsView) (k : KeeperView) (packets : List LinkPacket) (links : AreLinks plan v k) where
  status_is : (end : PortName) (e : PortEnd) (stream : ℕ) → port_on v end ≡ Some e
      → status_or_idle (port_stream_status e stream) ≡ machine_status plan (state_of plan v k packets) end.side end.line
      stream
  status_is end e stream is = status_shown (found_stream e.plans e.states stream)
      ∙ ap machine.status_if_planned (sym (end_found plan v k packets end e stream links is))

  pub host_status_is : (link stream : ℕ) (l : LinkEnds) → slice_get v.links link ≡ Some l
      → status_or_idle (port_stream_status l.host stream) ≡ machine_status plan (state_of plan v k packets) Host link
      stream
  host_status_is link stream l is = status_is (port_at Host link) l.host stream
      (link_port plan v k Host link l links is)

  secure_says : (o : Option StreamStatus) → says_secure o ≡ is_secure (status_or_idle o)
  secure_says None = refl
  secure_says (Some status.Idle) = refl
  secure_says (Some status.Partial) = refl
  secure_says (Some status.Secure) = refl
  secure_says (Some status.Insecure) = refl

  pub secure_is : (link stream : ℕ) (l : LinkEnds) → slice_get v.links link ≡ Some l
      → secure_at l.device.port stream ≡ machine_secure plan (state_of plan v k packets) link stream
  secure_is link stream l is = secure_says (port_stream_status l.device.port stream)
      ∙ ap is_secure (status_is (port_at Device link) l.device.port stream (link_port plan v k Device link l links is))

  -- ---- what its receivers open under

  draw_shown : (o : Option Found) (u : SubKind)
      → unwrap_or (option_and_then (λ (f : Found). receiving_draw (at_sub f.state.rx u).slots) o) 0
      ≡ unwrap_or (receiving_draw_at u (option_map (λ (f : Found). f.state) o)) 0
  draw_shown None u = refl
  draw_shown (Some f) u = refl

  end_draw_is : (end : PortName) (e : PortEnd) (stream : ℕ) (u : SubKind) → port_on v end ≡ Some e
      → unwrap_or (receiving_draw_in e stream u) 0
      ≡ unwrap_or (receiving_draw_at u (find plan (state_of plan v k packets) end stream)) 0
  end_draw_is end e stream u is =
      draw_shown (found_stream e.plans e.states stream) u
      ∙ ap (λ (o : Option StreamState). unwrap_or (receiving_draw_at u o) 0)
      (sym (end_found plan v k packets end e stream links is))

  pub device_draw_is : (link stream : ℕ) (l : LinkEnds) (u : SubKind) → slice_get v.links link ≡ Some l
      → unwrap_or (receiving_draw_in l.device.port stream u) 0
      ≡ unwrap_or (receiving_draw_at u (find plan (state_of plan v k packets) (port_at Device link) stream)) 0
  device_draw_is link stream l u is =
      end_draw_is (port_at Device link) l.device.port stream u (link_port plan v k Device link l links is)

  -- ---- what is Live

  live_there : (end : PortName) (e : PortEnd) (stream : ℕ) → port_on v end ≡ Some e
      → live_draw_at_end plan (state_of plan v k packets) end stream ≡ live_at_port e stream
  live_there end e stream is =
      let secure = secure_says (port_stream_status e stream) ∙ ap is_secure (status_is end e stream is) in
      let draw = end_draw_is end e stream Pr is in
      λ i. live_if (sym secure i) (sym draw i)

  pair_live : (end : PortName) (l : PairEnds) (stream : ℕ) → 16 ≤ end.line → slice_get v.pairs (end.line - 16) ≡ Some l
      → live_draw_at_end plan (state_of plan v k packets) end stream ≡ live_of v.pairs end stream
  pair_live end l stream le is = live_there end (pair_port end.side l) stream (pair_there v end.side end.line l le is)
      ∙ sym (ap (option_and_then (λ (x : PairEnds). live_at_port (pair_port end.side x) stream)) is)

  live_found : (link stream : ℕ) (o : Option PortName) → peer_end plan.peers 0 link stream ≡ o
      → option_and_then (λ e. live_draw_at_end plan (state_of plan v k packets) e stream) o
      ≡ option_and_then (λ e. live_of v.pairs e stream) o
  live_found link stream None is = refl
  live_found link stream (Some e) is =
      let r = peer_end_is plan.peers 0 link stream e is in
      let within = slice_get_within plan.peers r.number r.peer r.peer_is in
      let le : 16 ≤ e.line = omega (arith, r.line_is) in
      let there = get_there v.pairs (e.line - 16) (omega (arith, r.line_is, within, links.pairs_many)) in
      pair_live e there.0 stream le there.1

  -- the device says of streams to others what the machine reads of them
  pub live_is : (link stream : ℕ)
      → live_by_id (live_draw_at_end plan (state_of plan v k packets)) plan.peers link stream ≡ peer_live v link stream
  live_is link stream = live_found link stream (peer_end plan.peers 0 link stream) refl
      ∙ ap (λ (ps : List PeerPlan). live_by_id (live_of v.pairs) ps link stream) (sym links.peers_are)
