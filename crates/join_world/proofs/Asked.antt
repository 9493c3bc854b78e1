-- An operation on an interface is carried out by the manager and the device as it is by the machine: exchange by
-- exchange it is the machine's step (`joined_is`), with what the ends show of the streams that it names. So every event
-- on an interface has the machine's answer (`answer_is`).
use Rattle.std.proofs.Common.{◌≡◌, ℕ, Bool, true, false, List, refl, sym, ap, ◌∙◌, subst}
use Rattle.std.proofs.Common.{arith, Option, Some, None, ⊎_elim}
use Rattle.std.proofs.lemmas.Bool.{cases_Bool}
use Rattle.std.specs.List.{slice_index_or}
use Rattle.std.specs.Option.{option_and_then}
use Rattle.std.specs.Prelude.{slice_get, if◌then◌else◌}
use Rattle.ide_types.specs.declared.port.Side.TheVariants.{Host}
use Rattle.ide_types.specs.declared.plan.PeerPlan.{PeerPlan}
use Rattle.ide_types.specs.declared.plan.Plan.{Plan}
use Rattle.script_events.specs.declared.event.InterfaceEvent.{InterfaceEvent}
use Rattle.script_events.specs.declared.event.InterfaceEvent.TheVariants as ie
use Rattle.script_events.specs.declared.event.Loss.{Loss}
use Rattle.event_verdicts.specs.declared.verdict.Verdict.{Verdict}
use Rattle.event_verdicts.specs.declared.verdict.Verdict.TheVariants as said
use Rattle.spec_keys.specs.Operations.{StreamStage}
use Rattle.key_host.specs.Managers.{Named, named_stream, op_named, status_named}
use Rattle.key_host.specs.Streams.{key_status, status_or_idle}
use Rattle.interface_host.specs.declared.operation.InterfaceOperation.{InterfaceOperation}
use Rattle.interface_host.specs.declared.operation.InterfaceOperation.TheVariants as op
use Rattle.interface_ends.specs.Keepers.{Ended, interface_operated}
use Rattle.trusted_memory.specs.{MemoryContents}
use Rattle.spec_interfaces.specs.Due.{asked_due, op_status}
use Rattle.spec_interfaces.specs.Peers.{has_peer, live_by_id}
use Rattle.spec_interfaces.specs.Sites.{Site, sites}
use Rattle.spec_interfaces.specs.Views.{peer_of}
use Rattle.machine_whole.specs.Interfaces.{asked_state_of_face, interface_answer}
use Rattle.join_interfaces.specs.Joined.{FitsNamedPeer, InterfaceOperationsJoin, IsInterfaceJoined, op_host, said_of}
use Rattle.join_interfaces.specs.Verdicts.{op_event}
use Rattle.link_ends.specs.DeviceEnds.{secure_at}
use Rattle.ide_port.specs.{port_stream_status}
use Rattle.machine_ports.specs.Machine.{LinkPacket, LinkState, find_op, machine_status}
use Rattle.whole_links.specs.{EndsView, peer_live, live_for_operation, operated_on, status_for_operation, AreLinks}
use Rattle.whole_links.specs.{ended_if_there, ended_in, ended_on_link, flr_as, firmware_as, has_peer_if_there}
use Rattle.whole_links.specs.{HostKeeper, managed_peer_stream, peer_verdict_in, state_of, interface_of_ends}
use Rattle.whole_links.specs.{interface_seen_at, verdict_at_ends, verdict_in, viewed_as, written_as}
use Rattle.whole_links.proofs.{op_is}
use Rattle.machine_whole.specs.Machine.{Whole, live_draw_at_end, memory_shown, op_or_idle, machine_secure}
use Rattle.machine_whole.specs.Machine.{whole_streams}
use Rattle.join_interfaces.proofs.PeerEnds.{peer_line_is}
use Rattle.join_world.specs.Whole.{AreDrawn, IsPlaced, IsBeside}
use Rattle.join_world.proofs.Besides.{answered, due_at, view_is, write_is, flr_is, firmware_is, memory_is}
use Rattle.join_world.proofs.Sites.{is_at}
use Rattle.join_world.proofs.Statuses.{host_status_is, live_is, secure_is}

-- ---- what the manager of keys says of a stream

key_is : (q : StreamStage) → key_status q ≡ op_status q
key_is q = grind arith

named_is : (o : Option Named) → status_named o ≡ op_status (op_or_idle (op_named o))
named_is None = refl
named_is (Some n) = key_is n.stream.op

module _ (plan : Plan) (v : EndsView) (k : HostKeeper) (packets : List LinkPacket) (memory : MemoryContents) (w : Whole)
    (joins : InterfaceOperationsJoin) (links : AreLinks plan v k.keys)
    (beside : IsBeside plan v.links k.interfaces memory w) (drawn : AreDrawn plan k.peer_draws w.draw)
    (state_is : w.links ≡ state_of plan v k.keys packets) where
  -- ---- what the ends show

  -- of a stream between devices that the operation names, the device has it, and manager and ends have of it what the
  -- machine has
  abbrev pub PeerFits : Site → InterfaceOperation → Type 0
  PeerFits x o = FitsNamedPeer (has_peer plan.peers x.link) w.draw
      (live_by_id (live_draw_at_end plan w.links) plan.peers x.link) (live_for_operation (peer_live v x.link) o) o

  peer_status : (line stream : ℕ)
      → status_named (named_stream k.keys.manager line stream) ≡ op_status ((whole_streams plan w).op line stream)
  peer_status line stream =
      named_is (named_stream k.keys.manager line stream)
      ∙ ap (λ (o : Option StreamStage). op_status (op_or_idle o))
      (sym (op_is plan v k.keys packets line stream links)
      ∙ ap (λ (st : LinkState). find_op plan st line stream) (sym state_is))

  host_is : (i : ℕ) (x : Site) (p : IsPlaced plan v.links k.interfaces w i x)
      → status_or_idle (port_stream_status p.link_ends.host p.interface.stream)
      ≡ machine_status plan w.links Host x.link x.plan.stream
  host_is i x p =
      ap (λ (n : ℕ). status_or_idle (port_stream_status p.link_ends.host n)) p.keeps.managed.laid_out.stream
      ∙ host_status_is plan v k.keys packets links x.link x.plan.stream p.link_ends p.ends_are
      ∙ ap (λ (st : LinkState). machine_status plan st Host x.link x.plan.stream) (sym state_is)

  status_is : (i : ℕ) (o : InterfaceOperation) (x : Site) (p : IsPlaced plan v.links k.interfaces w i x)
      → status_for_operation k.keys.manager (port_stream_status p.link_ends.host p.interface.stream) o
      ≡ op_host (whole_streams plan w).op ((whole_streams plan w).host x.link x.plan.stream) o
  status_is i op.Lock x p = host_is i x p
  status_is i op.Report x p = host_is i x p
  status_is i op.Start x p = host_is i x p
  status_is i op.Halt x p = host_is i x p
  status_is i op.State x p = host_is i x p
  status_is i (op.Bind peer) x p = peer_status peer.line peer.id
  status_is i (op.Unbind peer) x p = peer_status peer.line peer.id

  -- the operation reads of the ends and of the draws what the machine has
  operated_is : (i : ℕ) (o : InterfaceOperation) (loss : Option Loss) (x : Site)
      (p : IsPlaced plan v.links k.interfaces w i x) → interface_operated i o
      (op_host (whole_streams plan w).op ((whole_streams plan w).host x.link x.plan.stream) o)
      (whole_streams plan w).drawn (said_of (whole_streams plan w) x (live_for_operation (peer_live v x.link) o)) loss
      k.interfaces p.link_ends.device.interfaces p.interface ≡ operated_on i o loss k.keys (peer_live v x.link)
      k.interfaces p.link_ends p.interface
  operated_is i o loss x p =
      let secure : machine_secure plan w.links x.link x.plan.stream
      ≡ secure_at p.link_ends.device.port p.interface.stream =
      ap (λ (st : LinkState). machine_secure plan st x.link x.plan.stream) state_is
      ∙ sym (secure_is plan v k.keys packets links x.link x.plan.stream p.link_ends p.ends_are)
      ∙ ap (secure_at p.link_ends.device.port) (sym p.keeps.managed.laid_out.stream) in
      let draws : w.links.draws ≡ k.keys.pool.draws = ap (λ (st : LinkState). st.draws) state_is in
      λ n. interface_operated i o (sym (status_is i o x p) n) (draws n)
      (record { secure = secure n; live = live_for_operation (peer_live v x.link) o }) loss k.interfaces
      p.link_ends.device.interfaces p.interface

  -- what the operation on the interface of this number gave
  pub joined_is : (i : ℕ) (o : InterfaceOperation) (loss : Option Loss) (x : Site)
      (p : IsPlaced plan v.links k.interfaces w i x) → slice_get (sites plan) i ≡ Some x → PeerFits x o
      → IsInterfaceJoined plan (whole_streams plan w) w.faces.used x p.face i p.place o loss k.interfaces
      p.link_ends.device.interfaces
      (operated_on i o loss k.keys (peer_live v x.link) k.interfaces p.link_ends p.interface)
  joined_is i o loss x p is peer =
      subst (λ (e : Ended). IsInterfaceJoined plan (whole_streams plan w) w.faces.used x p.face i p.place o loss
      k.interfaces p.link_ends.device.interfaces e) (operated_is i o loss x p)
      (joins plan (whole_streams plan w) w.faces.used x p.face i p.place o loss k.interfaces
      p.link_ends.device.interfaces p.interface p.tdi (live_for_operation (peer_live v x.link) o)
      (is_at plan v.links k.interfaces memory w i x p beside links.fits is) peer)

  pub peer_fits : (x : Site) (line stream : ℕ) → has_peer plan.peers x.link line stream ≡ true
      → PeerFits x (op.Bind (managed_peer_stream k line stream))
      × PeerFits x (op.Unbind (managed_peer_stream k line stream))
  peer_fits x line stream has =
      let r = peer_line_is plan x.link line stream links.fits has in
      let draw : slice_index_or k.peer_draws (peer_of line) 0 ≡ w.draw line stream =
      ap (λ (n : ℕ). slice_index_or k.peer_draws n 0) r.number_is ∙ drawn.each r.number r.peer r.peer_is
      ∙ (λ n. w.draw (r.line_is n) (r.id_is n)) in
      let live : peer_live v x.link stream ≡ live_by_id (live_draw_at_end plan w.links) plan.peers x.link stream =
      sym (live_is plan v k.keys packets links x.link stream)
      ∙ ap (λ (st : LinkState). live_by_id (live_draw_at_end plan st) plan.peers x.link stream) (sym state_is) in
      ((has, r.id_most, draw, live), (has, r.id_most))

  -- ---- answers

  -- it has a verdict, the one that is due
  verdict_is : (i : ℕ) (o : InterfaceOperation) (loss : Option Loss) (x : Site)
      (p : IsPlaced plan v.links k.interfaces w i x) → slice_get (sites plan) i ≡ Some x → PeerFits x o
      → verdict_in i o loss (ended_if_there k v i o loss (Some (x.link, p.place)))
      ≡ Some (asked_due plan x (asked_state_of_face plan (whole_streams plan w) w.faces.used x p.face)
      (op_event o i loss))
  verdict_is i o loss x p is peer =
      let j = joined_is i o loss x p is peer in
      (λ n. verdict_in i o loss (ended_on_link k v i o loss x.link (p.ends_are n) (p.interface_is n)))
      ∙ j.ended_is ∙ ap Some j.verdict_is

  operation_is : (i : ℕ) (o : InterfaceOperation) (loss : Option Loss)
      → ((x : Site) (p : IsPlaced plan v.links k.interfaces w i x) → PeerFits x o)
      → verdict_in i o loss (ended_in k v i o loss)
      ≡ due_at plan v.links k.interfaces memory w beside links.fits links.many i (op_event o i loss)
  operation_is i o loss peer =
      answered plan v.links k.interfaces memory w beside links.fits links.many i (op_event o i loss)
      (λ at. verdict_in i o loss (ended_if_there k v i o loss at)) refl
      (λ x p is. verdict_is i o loss x p is (peer x p))

  -- of an operation on a stream between devices
  peer_if : (i : ℕ) (o : InterfaceOperation) (loss : Option Loss) (line stream : ℕ) (x : Site)
      (p : IsPlaced plan v.links k.interfaces w i x) → slice_get (sites plan) i ≡ Some x
      → (has_peer plan.peers x.link line stream ≡ true → PeerFits x o)
      → (has_peer plan.peers x.link line stream ≡ false → said.Nothing
      ≡ asked_due plan x (asked_state_of_face plan (whole_streams plan w) w.faces.used x p.face) (op_event o i loss))
      → (if has_peer v.peers x.link line stream then verdict_in i o loss
      (ended_if_there k v i o loss (Some (x.link, p.place))) else Some said.Nothing)
      ≡ Some (asked_due plan x (asked_state_of_face plan (whole_streams plan w) w.faces.used x p.face)
      (op_event o i loss))
  peer_if i o loss line stream x p is there absent =
      let with_peer = λ (b : Bool). if b then verdict_in i o loss (ended_if_there k v i o loss (Some (x.link, p.place)))
      else Some said.Nothing in
      ap (λ (ps : List PeerPlan). with_peer (has_peer ps x.link line stream)) links.peers_are
      ∙ ⊎_elim
      (λ has. ap with_peer has ∙ verdict_is i o loss x p is (there has))
      (λ none. ap with_peer none ∙ ap Some (absent none))
      (cases_Bool (has_peer plan.peers x.link line stream))

  no_peer : (b : Bool) (due : Verdict) → b ≡ false → said.Nothing ≡ (if b then due else said.Nothing)
  no_peer b due none = rw none refl

  bind_is : (i line stream : ℕ) (loss : Option Loss)
      → peer_verdict_in k v i line stream (op.Bind (managed_peer_stream k line stream)) loss
      ≡ due_at plan v.links k.interfaces memory w beside links.fits links.many i (ie.Bind i line stream loss)
  bind_is i line stream loss =
      let o = op.Bind (managed_peer_stream k line stream) in
      answered plan v.links k.interfaces memory w beside links.fits links.many i (ie.Bind i line stream loss)
      (λ at. if has_peer_if_there v line stream at then verdict_in i o loss (ended_if_there k v i o loss at) else Some
      said.Nothing)
      refl
      (λ x p is. peer_if i o loss line stream x p is
      (λ has. (peer_fits x line stream has).0)
      (λ none. no_peer (has_peer plan.peers x.link line stream) _ none))

  unbind_is : (i line stream : ℕ) (loss : Option Loss)
      → peer_verdict_in k v i line stream (op.Unbind (managed_peer_stream k line stream)) loss
      ≡ due_at plan v.links k.interfaces memory w beside links.fits links.many i (ie.Unbind i line stream loss)
  unbind_is i line stream loss =
      let o = op.Unbind (managed_peer_stream k line stream) in
      answered plan v.links k.interfaces memory w beside links.fits links.many i (ie.Unbind i line stream loss)
      (λ at. if has_peer_if_there v line stream at then verdict_in i o loss (ended_if_there k v i o loss at) else Some
      said.Nothing)
      refl
      (λ x p is. peer_if i o loss line stream x p is
      (λ has. (peer_fits x line stream has).1)
      (λ none. no_peer (has_peer plan.peers x.link line stream) _ none))

  -- every event has the verdict that the machine answers it with
  pub answer_is : (e : InterfaceEvent) → verdict_at_ends v k memory e
      ≡ Some (interface_answer plan (whole_streams plan w) w.faces e (memory_shown plan w.written e))
  answer_is (ie.Lock i loss) = operation_is i op.Lock loss (λ x p. tt)
  answer_is (ie.Report i loss) = operation_is i op.Report loss (λ x p. tt)
  answer_is (ie.Start i loss) = operation_is i op.Start loss (λ x p. tt)
  answer_is (ie.Halt i loss) = operation_is i op.Halt loss (λ x p. tt)
  answer_is (ie.State i loss) = operation_is i op.State loss (λ x p. tt)
  answer_is (ie.Bind i line stream loss) = bind_is i line stream loss
  answer_is (ie.Unbind i line stream loss) = unbind_is i line stream loss
  answer_is (ie.View i) =
      answered plan v.links k.interfaces memory w beside links.fits links.many i (ie.View i)
      (λ at. Some (viewed_as i (interface_seen_at k.interfaces i at))) refl
      (λ x p is. ap Some (view_is plan v.links k.interfaces memory w beside links.fits links.many i x p is))
  answer_is (ie.Write i register value) =
      answered plan v.links k.interfaces memory w beside links.fits links.many i (ie.Write i register value)
      (λ at. Some (written_as i register value (option_and_then (interface_of_ends v.links) at))) refl
      (λ x p is. ap Some
      (write_is plan v.links k.interfaces memory w beside links.fits links.many i register value x p is))
  answer_is (ie.Flr i) =
      answered plan v.links k.interfaces memory w beside links.fits links.many i (ie.Flr i)
      (λ at. Some (flr_as i (option_and_then (interface_of_ends v.links) at))) refl
      (λ x p is. ap Some (flr_is plan v.links k.interfaces memory w beside links.fits links.many i x p is))
  answer_is (ie.Firmware i) =
      answered plan v.links k.interfaces memory w beside links.fits links.many i (ie.Firmware i)
      (λ at. Some (firmware_as i (option_and_then (interface_of_ends v.links) at))) refl
      (λ x p is. ap Some (firmware_is plan v.links k.interfaces memory w beside links.fits links.many i x p is))
  answer_is (ie.Memory at len) = ap Some (memory_is plan memory w.written at len beside.regions beside.written)
