-- All that is used of the keys of places: how a pair changes them, and what is known of those that are On.
use Rattle.std.specs.Prelude.{if◌then◌else◌, ◌&&◌, ◌<◌, ◌==◌, ◌∷◌, ◌≡◌, ◌≤◌, ◌⊎◌, Bool, List, Some, [], false, is_some}
use Rattle.std.specs.Prelude.{nat_le, not, slice_get, true, ℕ}
use Rattle.spec_links.specs.Terms.{AllByRecursion, PortName, SubKind, Plan, Event, Effect, SealedPacket}
use Rattle.spec_links.specs.Terms.{UnitName, Verdict, Accepted, Fail, Held, Sealed, Packet, History, base, On, key_in}
use Rattle.spec_keys.specs.Places.{is_line_reset}
use Rattle.script_events.specs.declared.event.Event.TheVariants as event
use Rattle.spec_links.specs.Plan.{SubStream, is_same, is_same_port, lane_out, lane_in, stream_plan}
use Rattle.spec_links.specs.History.{is_sealed_under, KeyName, live_key, sealed_packets, sub_stream_of, draws_got}
use Rattle.spec_links.specs.History.{port_keys, sent_packets, received_in, is_keyed, after_ends, accepted_keys, waits}
use Rattle.spec_links.specs.Units.{open_unit}
use Rattle.spec_links.specs.Cause.{CauseLaw}

-- it seals nothing and accepts nothing
abbrev pub is_steady : Verdict → Bool
is_steady (Sealed ds) = false
is_steady (Accepted port unit effects) = false
is_steady _ = true

-- it tells of no packet
abbrev pub is_quiet : Verdict → Bool
is_quiet (Sealed ds) = false
is_quiet (Fail p s sub cause) = false
is_quiet (Held p unit) = false
is_quiet (Accepted p unit effects) = false
is_quiet _ = true

-- the event is an operation on a stream of a line: establish, refresh, stop, or a reset that clears an end of the line
unfoldable pub operates : Event → ℕ → ℕ → Bool
operates (event.Establish l s lose) line stream = (l == line) && (s == stream)
operates (event.Refresh l s lose) line stream = (l == line) && (s == stream)
operates (event.Stop l s lose) line stream = (l == line) && (s == stream)
operates (event.Reset l ends) line stream = is_line_reset ends line
operates _ line stream = false

-- it is on no stream at all
abbrev pub IsNoOperation : Event → Type 0
IsNoOperation e = (line stream : ℕ) → operates e line stream ≡ false

-- what the machine uses
pub record KeyFacts (plan : Plan) : Type 0 where
  -- but for operations on the stream, keys change by the ends of units alone, and the place stays keyed
  pub steady : (h : History) (e : Event) (v : Verdict) → CauseLaw plan ((e, v) ∷ h) → is_steady v ≡ true
      → (port : PortName) (s : SubStream) → operates e s.line s.stream ≡ false
      → port_keys ((e, v) ∷ h) port s ≡ port_keys h port s
  pub sealed : (h : History) (e : Event) (ds : List SealedPacket) → CauseLaw plan ((e, Sealed ds) ∷ h)
      → (port : PortName) (s : SubStream)
      → port_keys ((e, Sealed ds) ∷ h) port s ≡ after_ends port s ds (port_keys h port s)
  pub accepted : (h : History) (e : Event) (port : PortName) (unit : UnitName) (effects : List Effect)
      → CauseLaw plan ((e, Accepted port unit effects) ∷ h)
      → (q : PortName) (s : SubStream) → port_keys ((e, Accepted port unit effects) ∷ h) q s
      ≡ (if is_same_port port q && is_same (received_in port unit) s then accepted_keys unit.draw (port_keys h q s)
      else port_keys h q s)
  pub keyed : (h : History) (e : Event) (v : Verdict) → CauseLaw plan ((e, v) ∷ h) → (port : PortName) (s : SubStream)
      → operates e s.line s.stream ≡ false → is_keyed ((e, v) ∷ h) port s ≡ is_keyed h port s
  pub base_same : (h : History) (e : Event) (v : Verdict) → CauseLaw plan ((e, v) ∷ h) → (line stream : ℕ)
      → operates e line stream ≡ false → base ((e, v) ∷ h) line stream ≡ base h line stream
  -- draws that are On are from Base on, and those of the two sets differ
  pub from_base : (h : History) → CauseLaw plan h → (port : PortName) (s : SubStream) (k : Bool) (j : ℕ)
      → key_in (port_keys h port s) k ≡ On j → nat_le (base h s.line s.stream) j ≡ true
  pub apart : (h : History) → CauseLaw plan h → (port : PortName) (s : SubStream) (i j : ℕ)
      → (port_keys h port s).first ≡ On i → (port_keys h port s).second ≡ On j → (i == j) ≡ false
  -- a draw that waits has sealed nothing
  pub unused : (h : History) → CauseLaw plan h → (port : PortName) (stream : ℕ) (u : SubKind) (k : Bool) (j : ℕ)
      → let s = lane_out port stream u in
      key_in (port_keys h port s) k ≡ On j → waits k j (key_in (port_keys h port s) (not k)) ≡ true
      → sent_packets plan h s j
      ≡ []

-- a packet of the sub-stream of a draw from this one on was sealed when this was Base
abbrev pub BaseStays : Plan → SubStream → ℕ → History → Type 0
BaseStays plan s from [] = Unit {0}
BaseStays plan s from ((event, Sealed ds) ∷ h) =
    AllByRecursion (λ (d : SealedPacket). is_same (sub_stream_of d) s ≡ true → from ≤ d.draw
    → base h s.line s.stream ≡ from) ds × BaseStays plan s from h
BaseStays plan s from (_ ∷ h) = BaseStays plan s from h

-- each packet of the stream that was sealed is of a draw below this one
abbrev pub NoneFrom : Plan → History → ℕ → ℕ → ℕ → Type 0
NoneFrom plan h line stream from =
    (i : ℕ) (x : SealedPacket × Packet) → slice_get (sealed_packets plan h) i ≡ Some x
    → (sub_stream_of x.0).line ≡ line → x.0.stream ≡ stream → x.0.draw < from

-- what the laws use
pub record DrawFacts (plan : Plan) : Type 0 where
  -- draws that are On are from Base on, and those of the two sets differ
  pub from_base : (h : History) → CauseLaw plan h → (port : PortName) (s : SubStream) (k : Bool) (j : ℕ)
      → key_in (port_keys h port s) k ≡ On j → nat_le (base h s.line s.stream) j ≡ true
  pub apart : (h : History) → CauseLaw plan h → (port : PortName) (s : SubStream) (i j : ℕ)
      → (port_keys h port s).first ≡ On i → (port_keys h port s).second ≡ On j → (i == j) ≡ false
  -- a key that becomes Live at a sender has sealed nothing
  pub fresh : (h : History) (e : Event) (v : Verdict) → CauseLaw plan ((e, v) ∷ h)
      → (port : PortName) (stream : ℕ) (u : SubKind) (key : KeyName) → let s = lane_out port stream u in
      live_key ((e, v) ∷ h) port s ≡ Some key
      → (live_key h port s ≡ Some key) ⊎ (sent_packets plan ((e, v) ∷ h) s key.draw ≡ [])
  -- Base stays, or nothing from it on has been sealed
  pub base_fresh : (h : History) (e : Event) (v : Verdict) → CauseLaw plan ((e, v) ∷ h) → (line stream : ℕ)
      → (base ((e, v) ∷ h) line stream ≡ base h line stream) ⊎ NoneFrom plan ((e, v) ∷ h) line stream
      (base ((e, v) ∷ h) line stream)
  -- a draw is On only if the plan has the stream
  pub known : (h : History) → CauseLaw plan h → (port : PortName) (s : SubStream) (k : Bool) (j : ℕ)
      → key_in (port_keys h port s) k ≡ On j → is_some (stream_plan plan s.line s.stream) ≡ true
  -- a draw belongs to one key set: wherever it is On in a sub-stream, it is in the set that its packets name
  pub own_set : (h : History) → CauseLaw plan h → (i : ℕ) (x : SealedPacket × Packet)
      → slice_get (sealed_packets plan h) i ≡ Some x
      → (port : PortName) (k : Bool) → key_in (port_keys h port (sub_stream_of x.0)) k ≡ On x.0.draw → k ≡ x.0.k
  -- a draw that is On at a receiver is at least every draw that had a unit accepted there
  pub above_got : (h : History) → CauseLaw plan h → (port : PortName) (stream : ℕ) (u : SubKind) (k : Bool) (j : ℕ)
      → let s = lane_in port stream u in
      key_in (port_keys h port s) k ≡ On j → AllByRecursion (λ (i : ℕ). i ≤ j) (draws_got h s)
  -- the draws of the packets that are sealed in a sub-stream never fall
  pub rises : (h : History) → CauseLaw plan h → (s : SubStream) (i k : ℕ) (x y : SealedPacket × Packet) → i ≤ k
      → slice_get (sealed_packets plan h) i ≡ Some x → slice_get (sealed_packets plan h) k ≡ Some y
      → is_same (sub_stream_of x.0) s ≡ true → is_same (sub_stream_of y.0) s ≡ true → x.0.draw ≤ y.0.draw
  -- the packets of draws from Base on were sealed since it is Base
  pub since_base : (h : History) → CauseLaw plan h → (s : SubStream) → BaseStays plan s (base h s.line s.stream) h
  -- If a draw is On at a receiver, and a packet of it was sealed, no unit of a smaller draw from Base on is open.
  -- (Without the first this is false: a stop that is left in the middle drops a sender's open unit and makes its other
  -- key Live, when the receiver's keys are gone.)
  pub ended : (h : History) → CauseLaw plan h
      → (port : PortName) (stream : ℕ) (u : SubKind) (k : Bool) (j i place : ℕ) (x : SealedPacket × Packet)
      → let s = lane_in port stream u in
      key_in (port_keys h port s) k ≡ On j → slice_get (sealed_packets plan h) place ≡ Some x → is_sealed_under s j x
      ≡ true
      → base h s.line s.stream ≤ i → i < j → open_unit (sent_packets plan h s i) ≡ []
