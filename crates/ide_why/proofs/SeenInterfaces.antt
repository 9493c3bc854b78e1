-- What is read of events on interfaces, of answers and of forwards is what the machine keeps.
use Rattle.std.proofs.Common.{◌≡◌, ℕ, ◌==◌, ◌<◌, Bool, true, false, List, [], ◌∷◌, ◌++◌, length, refl, ap, ◌∙◌}
use Rattle.std.proofs.Common.{Option, Some, None, arith, sym}
use Rattle.std.specs.Prelude.{if◌then◌else◌}
use Rattle.std.specs.List.{slice_index_or}
use Rattle.std.specs.Option.{option_map, option_map_or}
use Rattle.ide_types.specs.declared.direction.Direction.{Direction}
use Rattle.ide_types.specs.declared.port.PortName.{PortName}
use Rattle.ide_types.specs.declared.port.Side.{Side}
use Rattle.ide_types.specs.declared.port.Side.TheVariants.{Host, Device}
use Rattle.ide_types.specs.declared.sub.SubKind.TheVariants.{Cpl}
use Rattle.ide_types.specs.Ports.{host_port}
use Rattle.ide_types.specs.declared.plan.Plan.{Plan}
use Rattle.machine_whole.specs.Interfaces.{Face, asked_state_of_face, find_face, with_requester}
use Rattle.spec_interfaces.specs.Sites.{Site, sites}
use Rattle.spec_interfaces.specs.Peers.{has_peer, live_by_id}
use Rattle.spec_interfaces.specs.Views.{number_in, peer_of}
use Rattle.interface_state.specs.{DeviceTdi}
use Rattle.script_events.specs.declared.event.InterfaceEvent.{InterfaceEvent}
use Rattle.script_events.specs.declared.event.InterfaceEvent.TheVariants as ie
use Rattle.spec_links.specs.{HopTlp, has_hop, leaving_end}
use Rattle.spec_links.specs.Plan.{has_link, is_closed}
use Rattle.spec_links.specs.Ports.{outgoing_at}
use Rattle.machine_operations.specs.{LinkState, find, find_op, machine_status}
use Rattle.spec_stream.specs.Slots.{stream_status}
use Rattle.spec_stream.specs.Stream.{StreamState}
use Rattle.sub_stream.specs.Facts.{stream_facts}
use Rattle.trusted_memory.specs.declared.queue.WaitingRead.{WaitingRead}
use Rattle.machine_whole.specs.Machine.{live_draw_at_end, op_or_idle, whole_streams}
use Rattle.told_facts.specs.declared.fact.Fact.{Fact}
use Rattle.told_facts.specs.declared.fact.InterfaceFact.TheVariants as face
use Rattle.told_facts.specs.declared.fact.Fact.TheVariants as fact
use Rattle.why_facts.specs.Forms.{asked_besides, bind_facts, draw_fact, draws_fact, face_facts, peer_facts, pool_of}
use Rattle.why_facts.specs.Forms.{queue_facts, read_fact, response_facts, state_fact, takes_facts, waiting_fact}
use Rattle.why_facts.specs.Kept.{asked_face, asked_facts_in_state, completion_facts, first_tlp_facts, forward_facts_in}
use Rattle.why_facts.specs.Kept.{queue_in, reader_in, waiting_in}
use Rattle.world.specs.{AreLinks, WorldStandsFor, WholeLinks, carried_on_link, peer_live, world_of}
use Rattle.world.proofs.{live_is, peer_line_is}
use Rattle.spec_keys.specs.History.{History}
use Rattle.why_facts.specs.declared.appends.faces.FaceSeen.{FaceSeen}
use Rattle.ide_why.specs.Facts.{asked_by_face, asked_by_number, besides_read, bind_read, completion_read, exchanges_of}
use Rattle.ide_why.specs.Facts.{first_read, forward_read, queue_read, reader_read, state_of_whole, waiting_read}
use Rattle.ide_why.specs.Faces.{AreFacesSeen, IsFaceSeen}
use Rattle.ide_why.specs.Reading.{bindings_read, face_read, requester_read, stream_read, device_interface_read}
use Rattle.told_facts.specs.Exchanges.{interface_planned}
use Rattle.ide_why.proofs.SeenFaces.{face_is, face_read_is, known, numbered, requester_read_is}
use Rattle.ide_why.proofs.SeenStatuses.{stand}
use Rattle.ide_why.proofs.Packets.{readings_are, sending_is, state_is}
use Rattle.ide_why.proofs.SeenStreams.{sender_is}

module _ (plan : Plan) (s : WholeLinks) (links : AreLinks plan s.links.ends s.links.keeper.keys)
    (whole : length s.accesses ≡ length s.links.ends.links) (h : History) (stood : WorldStandsFor (world_of plan s) h)
  where
    st_is : state_of_whole plan s ≡ stood.whole.links
    st_is = state_is plan s h stood (known plan s links h stood) (numbered plan s links h stood)
        (stand plan s links whole h stood)

    -- ---- events on interfaces

    bindings_are : (y : Site × Face) (f : FaceSeen) → IsFaceSeen stood.whole.draw (device_interface_read s)
        (interface_planned plan.links) y f
        → bindings_read s f.number ≡ y.1.tdi.bindings
    bindings_are y f seen = ap (λ (o : Option DeviceTdi). option_map_or (λ (t : DeviceTdi). t.bindings) o []) seen.tdi

    -- of a stream between devices that the device has
    peer_draw_is : (link line stream : ℕ) → has_peer plan.peers link line stream ≡ true
        → slice_index_or s.links.keeper.peer_draws (peer_of line) 0 ≡ stood.whole.draw line stream
    peer_draw_is link line stream has =
        let r = peer_line_is plan link line stream links.fits has in
        ap (λ (n : ℕ). slice_index_or s.links.keeper.peer_draws n 0) r.number_is
        ∙ (stood.is.drawn.each r.number r.peer r.peer_is
        ∙ (λ j. stood.whole.draw (r.line_is j) (r.id_is j)))

    peer_live_is : (link stream : ℕ) → peer_live s.links.ends link stream
        ≡ live_by_id (live_draw_at_end plan stood.whole.links) plan.peers link stream
    peer_live_is link stream =
        sym (live_is plan s.links.ends s.links.keeper.keys s.links.packets.packets links link stream)
        ∙ ap (λ (st : LinkState). live_by_id (live_draw_at_end plan st) plan.peers link stream) st_is

    bind_is : (y : Site × Face) (f : FaceSeen) (line stream : ℕ)
        → IsFaceSeen stood.whole.draw (device_interface_read s) (interface_planned plan.links) y f
        → has_peer plan.peers y.0.link line stream ≡ true
        → bind_read plan s f line stream ≡ bind_facts
        (asked_state_of_face plan (whole_streams plan stood.whole) stood.whole.faces.used y.0 y.1) line stream
    bind_is y f line stream seen has =
        let live = ap (λ (n : ℕ). peer_live s.links.ends n stream) seen.link ∙ peer_live_is y.0.link stream in
        (λ j. peer_facts (op_or_idle (find_op plan (st_is j) line stream))
        (peer_draw_is y.0.link line stream has j) (live j) ++ takes_facts (bindings_are y f seen j))

    -- if the device has the stream
    if_peer : (y : Site × Face) (f : FaceSeen) (line stream : ℕ) (mine due : List Fact)
        → IsFaceSeen stood.whole.draw (device_interface_read s) (interface_planned plan.links) y f
        → (has_peer plan.peers y.0.link line stream ≡ true → mine ≡ due)
        → (if has_peer plan.peers f.manager.link line stream then mine else [])
        ≡ (if has_peer plan.peers y.0.link line stream then due else [])
    if_peer y f line stream mine due seen same =
        ap (λ (n : ℕ). if has_peer plan.peers n line stream then mine else []) seen.link
        ∙ by (has_peer plan.peers y.0.link line stream) same
      where
        by : (b : Bool) → (b ≡ true → mine ≡ due) → (if b then mine else []) ≡ (if b then due else [])
        by true same = same refl
        by false same = refl

    besides_are : (e : InterfaceEvent) (y : Site × Face) (f : FaceSeen)
        → IsFaceSeen stood.whole.draw (device_interface_read s) (interface_planned plan.links) y f
        → besides_read plan s f e
        ≡ asked_besides plan y.0
        (asked_state_of_face plan (whole_streams plan stood.whole) stood.whole.faces.used y.0 y.1) e
    besides_are (ie.Lock i loss) y f seen =
        (λ j. state_fact (machine_status plan (st_is j) Host (seen.link j) (seen.stream j)) ∷ [])
    besides_are (ie.Start i loss) y f seen =
        (λ j. state_fact (machine_status plan (st_is j) Host (seen.link j) (seen.stream j)) ∷ draw_fact (seen.draw_is j)
        ∷ [])
    besides_are (ie.Halt i loss) y f seen =
        (λ j. fact.Interface (face.Started (seen.started j)) ∷ draws_fact (st_is j).draws (pool_of plan) ∷ [])
    besides_are (ie.Report i loss) y f seen = refl
    besides_are (ie.State i loss) y f seen = refl
    besides_are (ie.Bind i line stream loss) y f seen = if_peer y f line stream _ _ seen (bind_is y f line stream seen)
    besides_are (ie.Unbind i line stream loss) y f seen =
        if_peer y f line stream _ _ seen (λ has. ap takes_facts (bindings_are y f seen))
    besides_are (ie.View i) y f seen = refl
    besides_are (ie.Write i register value) y f seen = refl
    besides_are (ie.Flr i) y f seen = refl
    besides_are (ie.Firmware i) y f seen = refl
    besides_are (ie.Memory at len) y f seen = refl

    face_asked : (e : InterfaceEvent) (o : Option (Site × Face)) (f : Option FaceSeen)
        → AreFacesSeen stood.whole.draw (device_interface_read s) (interface_planned plan.links) o f
        → asked_by_face plan s e f ≡ asked_face plan stood.whole e o
    face_asked e None None are = refl
    face_asked e None (Some f) are = absurd are
    face_asked e (Some y) None are = absurd are
    face_asked e (Some y) (Some f) are =
        (λ j. face_is stood.whole.draw (device_interface_read s) (interface_planned plan.links) y f are j
        ++ are.reported j ++ besides_are e y f are j
        ++ exchanges_of plan (are.link j) e (are.laid_out j) (are.tdi j))

    number_asked : (e : InterfaceEvent) (n : Option ℕ) → asked_by_number plan s e n
        ≡ asked_facts_in_state plan stood.whole e n
    number_asked e None = refl
    number_asked e (Some i) = face_asked e (find_face (λ x. x.number == i) (sites plan) stood.whole.faces.list)
        (face_read s i) (face_read_is plan s links h stood i)

    pub asked_is : (e : InterfaceEvent) → asked_by_number plan s e (number_in e)
        ≡ asked_facts_in_state plan stood.whole e (number_in e)
    asked_is e = number_asked e (number_in e)

    -- ---- answers to reads

    completion_is : (end : PortName) (stream : ℕ) (o : Option StreamState)
        → completion_read (option_map (stream_facts (is_closed plan end.line stream)) o)
        ≡ completion_facts plan end stream o
    completion_is end stream None = refl
    completion_is end stream (Some x) =
        ap (λ (fs : List Fact). state_fact (stream_status x) ∷ fs) (sender_is (is_closed plan end.line stream) x Cpl)

    completion_there : (end : PortName) (stream : ℕ) → completion_read (stream_read plan s end stream)
        ≡ completion_facts plan end stream (find plan stood.whole.links end stream)
    completion_there end stream =
        completion_is end stream (find plan (state_of_whole plan s) end stream)
        ∙ ap (λ (st : LinkState). completion_facts plan end stream (find plan st end stream)) st_is

    reader_is : (o : Option (Site × Face)) (f : Option FaceSeen)
        → AreFacesSeen stood.whole.draw (device_interface_read s) (interface_planned plan.links) o f
        → reader_read plan s f ≡ reader_in plan stood.whole o
    reader_is None None are = refl
    reader_is None (Some f) are = absurd are
    reader_is (Some y) None are = absurd are
    reader_is (Some y) (Some f) are =
        (λ j. face_is stood.whole.draw (device_interface_read s) (interface_planned plan.links) y f are j
        ++ completion_read (stream_read plan s (host_port (are.link j)) (are.stream j)))
        ∙ ap (λ (fs : List Fact). face_facts y.0 y.1.tdi y.1.managed ++ fs)
        (completion_there (host_port y.0.link) y.0.plan.stream)

    waiting_is : (side : Side) (link : ℕ) (r : WaitingRead) → waiting_read plan s side link r
        ≡ waiting_in plan stood.whole side link r
    waiting_is Host link r =
        ap (λ (fs : List Fact). read_fact r.came.draw ∷ fs)
        (reader_is (with_requester plan stood.whole.faces link r.read.requester)
        (requester_read s link r.read.requester)
        (requester_read_is plan s links h stood link r.read.requester))
    waiting_is Device link r = λ j.
        response_facts plan (readings_are plan s h stood (known plan s links h stood) (numbered plan s links h stood)
        (stand plan s links whole h stood) j)
        link r (completion_there r.came.end r.came.stream j)

    pub queue_is : (side : Side) (link : ℕ) → queue_read plan s side link ≡ queue_in plan stood.whole side link
    queue_is side link = λ j.
        queue_facts (has_link plan link) (λ r. waiting_is side link r j)
        (stood.is.accesses.reads (record { side = side; line = link }) j)

    -- ---- forwards

    first_is : (end : PortName) (xs : List HopTlp) → first_read plan s end xs ≡ first_tlp_facts plan stood.whole end xs
    first_is end [] = refl
    first_is end (x ∷ xs) = sending_is plan s h stood (known plan s links h stood) (numbered plan s links h stood)
        (stand plan s links whole h stood)
        end (outgoing_at plan end x.bytes)

    abbrev waits : ℕ → Direction → List HopTlp → List Fact
    waits link d xs = waiting_fact (length xs) ∷ first_tlp_facts plan stood.whole (leaving_end link d) xs

    forward_by : (link : ℕ) (d : Direction) (b : Bool) → has_hop plan link ≡ b
        → forward_read plan s link d ≡ forward_facts_in plan stood.whole link d
    forward_by link d false lacks = rw lacks refl
    forward_by link d true has = rw has
        (ap (λ (fs : List Fact). waiting_fact (length (carried_on_link s.accesses link d)) ∷ fs)
        (first_is (leaving_end link d) (carried_on_link s.accesses link d))
        ∙ ap (waits link d) (stood.is.accesses.carried link d (hop_low plan link has)))
      where
        hop_low : (plan : Plan) (link : ℕ) → has_hop plan link ≡ true → link < 8
        hop_low plan link has = grind arith

    pub forward_is : (link : ℕ) (d : Direction) → forward_read plan s link d ≡ forward_facts_in plan stood.whole link d
    forward_is link d = forward_by link d (has_hop plan link) refl
