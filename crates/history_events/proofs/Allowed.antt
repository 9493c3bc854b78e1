-- What a spelled event comes to is one that a history may have.
use Rattle.std.proofs.Common.{◌≡◌, ◌<◌, ◌+◌, ◌||◌, ◌^◌, ℕ, Bool, true, false, Option, Some, None, List}
use Rattle.std.proofs.Common.{nat_lt, length, refl, arith}
use Rattle.std.specs.Prelude.{if◌then◌else◌, slice_get}
use Rattle.std.proofs.lemmas.Bool.{lt-ltb, le-leb}
use Rattle.std.proofs.lemmas.Option.{slice_get_within}
use Rattle.ide_types.specs.declared.port.Side.{Side}
use Rattle.ide_types.specs.declared.port.PortName.{PortName}
use Rattle.ide_types.specs.Lines.{is_peer_line}
use Rattle.ide_types.specs.declared.plan.PeerPlan.{PeerPlan}
use Rattle.ide_types.specs.declared.plan.Plan.{Plan}
use Rattle.ide_types.specs.Fits.{FitsPlan}
use Rattle.ide_types.specs.Ends.{is_planned_port, interface_link}
use Rattle.history_events.specs.Terms.{Establish, Refresh, Stop, Send, PeerSend, Pass, Alter, Cut, Arrive}
use Rattle.history_events.specs.Terms.{Dump, Reset, Status, Interface, Access, Peer, Hop, Loss}
use Rattle.history_events.specs.Terms.event
use Rattle.history_events.specs.Terms.pe
use Rattle.history_events.specs.Terms.he
use Rattle.script_events.specs.Spells.{IsAllowed, IsAllowedInScript}
use Rattle.history_events.specs.Events.{event_of, peer_stream, peer_stream_of_plan, bound_stream, ends_at, own_stream}
use Rattle.history_events.specs.Events.{
  hop_stream,
  establish_event,
  refresh_event,
  stop_event,
  status_event,
  send_event,
}
use Rattle.history_events.specs.Events.{bind_event, unbind_event, forward_event, arrive_event, reset}
use Rattle.history_events.specs.Laws.{EventsAreAllowed}

-- operations on streams are allowed
establish_is : (lose : Option Loss) (o : Option (ℕ × ℕ)) → IsAllowed (establish_event lose o)
establish_is lose None = tt
establish_is lose (Some s) = tt

refresh_is : (lose : Option Loss) (o : Option (ℕ × ℕ)) → IsAllowed (refresh_event lose o)
refresh_is lose None = tt
refresh_is lose (Some s) = tt

stop_is : (lose : Option Loss) (o : Option (ℕ × ℕ)) → IsAllowed (stop_event lose o)
stop_is lose None = tt
stop_is lose (Some s) = tt

status_is : (o : Option (ℕ × ℕ)) → IsAllowed (status_event o)
status_is None = tt
status_is (Some s) = tt

-- a stream between devices has a line of its own
abbrev OfPeers : Option (ℕ × ℕ) → Type 0
OfPeers None = Unit {0}
OfPeers (Some s) = is_peer_line s.0 ≡ true

peer_is : (plan : Plan) → FitsPlan plan → (peer : ℕ) (x : Option PeerPlan) → slice_get plan.peers peer ≡ x
    → OfPeers (peer_stream_of_plan x peer)
peer_is plan fits peer None is = tt
peer_is plan fits peer (Some p) is =
    let few : peer < 8 = omega (arith, slice_get_within plan.peers peer p is, fits.peers_most) in
    rw (le-leb 24 (24 + peer) (omega arith), lt-ltb (24 + peer) 32 (omega (arith, few))) refl

or_right : (a b : Bool) → b ≡ true → (a || b) ≡ true
or_right true b h = refl
or_right false b h = h

sent_is : (side : Side) (bytes : List ℕ) (more : Bool) (o : Option (ℕ × ℕ)) → OfPeers o → length bytes < 2 ^ 64
    → IsAllowed (send_event side bytes more o)
sent_is side bytes more None of few = tt
sent_is side bytes more (Some s) of few = (or_right _ _ of, λ t. absurd (let never : ⊥ = cc in never), few)

bound_is : (interface : ℕ) (lose : Option Loss) (o : Option (ℕ × ℕ)) → OfPeers o
    → IsAllowed (bind_event interface lose o)
bound_is interface lose None of = tt
bound_is interface lose (Some s) of = of

unbound_is : (interface : ℕ) (lose : Option Loss) (o : Option (ℕ × ℕ)) → OfPeers o
    → IsAllowed (unbind_event interface lose o)
unbound_is interface lose None of = tt
unbound_is interface lose (Some s) of = of

if_of : (b : Bool) (o : Option (ℕ × ℕ)) → OfPeers o → OfPeers (if b then o else None)
if_of true o of = of
if_of false o of = tt

bound_of : (plan : Plan) → FitsPlan plan → (interface peer : ℕ) → OfPeers (bound_stream plan interface peer)
bound_of plan fits interface peer = if_of (ends_at (slice_get plan.peers peer) (interface_link plan.links 0 interface))
    (peer_stream plan peer) (peer_is plan fits peer (slice_get plan.peers peer) refl)

arrived_is : (plan : Plan) (port : PortName) (bytes : List ℕ) (b : Bool) → is_planned_port plan port ≡ b
    → IsAllowedInScript (Arrive port bytes) → IsAllowed (arrive_event plan port bytes)
arrived_is plan port bytes true is h = rw is h
arrived_is plan port bytes false is h = rw is tt

reset_is : (plan : Plan) (link : ℕ) (b : Bool) → nat_lt link (length plan.links) ≡ b → IsAllowed (reset plan link)
reset_is plan link true is = rw is tt
reset_is plan link false is = rw is tt

forward_is : (plan : Plan) (link direction : ℕ) → IsAllowed (forward_event plan link direction)
forward_is plan link direction = grind arith

send_is : (port : PortName) (bytes : List ℕ) (more trusted : Bool) → IsAllowedInScript (Send port bytes more trusted)
    → IsAllowed (event.Send port bytes more trusted)
send_is port bytes more trusted h =
    let low = lt-ltb port.line 8 h.0 in
    (rw low refl, λ t. (h.1 t, low), h.2)

pub events_are_allowed : EventsAreAllowed
unfolding event_of
events_are_allowed plan fits (Establish link stream lose) h = establish_is lose (own_stream plan link stream)
events_are_allowed plan fits (Refresh link stream lose) h = refresh_is lose (own_stream plan link stream)
events_are_allowed plan fits (Stop link stream lose) h = stop_is lose (own_stream plan link stream)
events_are_allowed plan fits (Send port bytes more trusted) h = send_is port bytes more trusted h
events_are_allowed plan fits (PeerSend peer side bytes more) h = sent_is side bytes more (peer_stream plan peer)
    (peer_is plan fits peer (slice_get plan.peers peer) refl) h
events_are_allowed plan fits (Pass packet) h = tt
events_are_allowed plan fits (Alter packet at mask) h = tt
events_are_allowed plan fits (Cut packet len) h = tt
events_are_allowed plan fits (Arrive port bytes) h = arrived_is plan port bytes (is_planned_port plan port) refl h
events_are_allowed plan fits (Dump packet) h = tt
events_are_allowed plan fits (Reset link) h = reset_is plan link (nat_lt link (length plan.links)) refl
events_are_allowed plan fits (Status link stream) h = status_is (own_stream plan link stream)
events_are_allowed plan fits (Interface e) h = h
events_are_allowed plan fits (Access e) h = h
events_are_allowed plan fits (Peer (pe.Establish peer lose)) h = establish_is lose (peer_stream plan peer)
events_are_allowed plan fits (Peer (pe.Stop peer lose)) h = stop_is lose (peer_stream plan peer)
events_are_allowed plan fits (Peer (pe.Bind i peer lose)) h = bound_is i lose (bound_stream plan i peer)
    (bound_of plan fits i peer)
events_are_allowed plan fits (Peer (pe.Unbind i peer lose)) h = unbound_is i lose (bound_stream plan i peer)
    (bound_of plan fits i peer)
events_are_allowed plan fits (Hop (he.Establish link segment lose)) h = establish_is lose (hop_stream plan link segment)
events_are_allowed plan fits (Hop (he.Stop link segment lose)) h = stop_is lose (hop_stream plan link segment)
events_are_allowed plan fits (Hop (he.Forward link direction)) h = forward_is plan link direction
