-- The laws of a history.
use Rattle.std.specs.Prelude.{◌++◌, ◌+◌, ◌<◌, ◌∷◌, ◌≡◌, ◌≢◌, ◌≤◌, Bool, List, Ok, Some, [], false, slice_get, take}
use Rattle.std.specs.Prelude.{true, ℕ}
pub use Rattle.spec_keys.specs.Laws.{NeverFalls}
use Rattle.spec_links.specs.Terms.{PortName, Plan, Event, Verdict, Accepted, Held, Packet, packet_bytes}
use Rattle.spec_links.specs.Terms.{authenticated_bytes, encrypted_bytes, History, base, received_direction}
use Rattle.spec_links.specs.Plan.{SubStream, is_closed}
use Rattle.spec_links.specs.Units.{units}
use Rattle.spec_links.specs.History.{units_got, sealed_packets, total_in, ahead_sent, ahead_due, ArrivedBytes}
use Rattle.spec_links.specs.History.{arrival_of_event, sent_packets, accepted_packets, pending_packets, draws_got}
use Rattle.spec_links.specs.History.{on_draw, has_failed, meets_counts, received_in}
use Rattle.spec_links.specs.Due.{Ending, before_tag, is_verified, unit_packets_ended, effects_of, next_unit_name}

-- the tag of the last packet
abbrev pub last_tag : List Packet → List ℕ
last_tag [] = []
last_tag (p ∷ []) = p.tag
last_tag (p ∷ q ∷ ps) = last_tag (q ∷ ps)

-- The unit of this number was sealed, and finished, with these bytes ahead, these authenticated bytes, this ciphertext
-- and this tag.
pub record WasSealed (plan : Plan) (h : History) (port : PortName) (x : Ending) : Type 0 where
  pub unit : List Packet
  pub place : ℕ
  pub numbered : place + 1 ≡ x.unit.unit
  pub finished : slice_get (units (sent_packets plan h (received_in port x.unit) x.unit.draw)) place ≡ Some unit
  pub same_authenticated : authenticated_bytes unit ≡ authenticated_bytes (unit_packets_ended plan h port x)
  pub same_encrypted : encrypted_bytes unit ≡ encrypted_bytes (unit_packets_ended plan h port x)
  pub same_ahead : ahead_sent plan h (received_in port x.unit) x.unit.draw x.unit.unit
      ≡ ahead_due plan h (received_in port x.unit) x.unit.unit
  pub same_tag : last_tag unit ≡ x.packet.tag

-- A tag that verifies at this event was made by the partner.
abbrev pub NotForged : Plan → History → Event → Type 0
NotForged plan h e =
    (a : ArrivedBytes) (x : Ending) → arrival_of_event plan h e ≡ Some a → before_tag plan h a ≡ Ok x
    → is_verified plan h a.port x ≡ true → WasSealed plan h a.port x

-- No tag verified on a unit that its partner had not sealed.
abbrev pub NoForgery : Plan → History → Type 0
NoForgery plan [] = Unit {0}
NoForgery plan ((event, verdict) ∷ h) = NotForged plan h event × NoForgery plan h

abbrev pub IsPrefixOf : {A : Type 0} → List A → List A → Type 0
IsPrefixOf {A} xs ys = (rest : List A) × (xs ++ rest ≡ ys)

-- The draws of successive accepted units of a sub-stream never fall.
abbrev pub DrawsNeverFall : History → Type 0
DrawsNeverFall h = (s : SubStream) → NeverFalls (draws_got h s)

-- On a closed stream, when a unit is accepted, all was got that was sealed under each smaller draw from Base on.
abbrev pub OlderFirst : Plan → History → Verdict → Type 0
OlderFirst plan h (Accepted port unit effects) =
    is_closed plan port.line unit.stream ≡ true → (i : ℕ) → base h port.line unit.stream ≤ i → i < unit.draw
    → accepted_packets plan h (received_in port unit) i ≡ sent_packets plan h (received_in port unit) i
OlderFirst plan h _ = Unit {0}

-- no total passes 8 bytes
abbrev pub TotalsFit : Plan → History → Type 0
TotalsFit plan [] = Unit {0}
TotalsFit plan ((event, verdict) ∷ h) =
    ((s : SubStream) (from : ℕ) → total_in (sealed_packets plan h) s from < 18446744073709551616) × TotalsFit plan h

-- the draw is On at the port, in one of the two key sets
abbrev pub IsOn : Plan → History → PortName → SubStream → ℕ → Type 0
IsOn plan h port s j = (k : Bool) × (on_draw h port s k ≡ Some j)

-- Packet m of what was sealed in a sub-stream under a draw arrives unchanged and in order; its key is Live, nothing of
-- another draw is held, the stream has not failed and the posted counts are met.
pub record ArrivesInOrder (plan : Plan) (h : History) (e : Event) (s : SubStream) (j m : ℕ) (port : PortName)
    (p : Packet) : Type 0 where
  pub receiver : (port.line ≡ s.line) × (received_direction port.side ≡ s.direction)
  pub sealed : slice_get (sent_packets plan h s j) m ≡ Some p
  pub unchanged : arrival_of_event plan h e ≡ Some (record { port = port; bytes = packet_bytes p })
  pub in_order : accepted_packets plan h s j ++ pending_packets plan h s j ≡ take m (sent_packets plan h s j)
  pub live : IsOn plan h port s j
  pub alone : (i : ℕ) → IsOn plan h port s i → i ≢ j → pending_packets plan h s i ≡ []
  pub secure : has_failed h port s.stream ≡ false
  pub counts : p.prefix.m ≡ true → meets_counts plan h s (pending_packets plan h s j ++ p ∷ []) ≡ true
  -- on a closed stream, if it ends unit 1, all was got of the smaller draws from Base on
  pub older : p.prefix.m ≡ true → units_got h s j ≡ 0 → is_closed plan s.line s.stream ≡ true → (i : ℕ)
      → base h s.line s.stream ≤ i → i < j → accepted_packets plan h s i ≡ sent_packets plan h s i

-- What arrives so is no forgery.
abbrev pub OrderIsNoForgery : Plan → History → Type 0
OrderIsNoForgery plan [] = Unit {0}
OrderIsNoForgery plan ((event, verdict) ∷ h) =
    ((s : SubStream) (j m : ℕ) (port : PortName) (p : Packet) → ArrivesInOrder plan h event s j m port p
    → NotForged plan h event)
    × OrderIsNoForgery plan h

-- it is held, or ends its unit and is accepted
abbrev pub IsTaken : Plan → History → SubStream → ℕ → PortName → Packet → Verdict → Type 0
IsTaken plan h s j port p verdict =
    (p.prefix.m ≡ false → verdict ≡ Held port (next_unit_name h s j))
    × (p.prefix.m ≡ true → verdict ≡ Accepted port (next_unit_name h s j)
    (effects_of plan h port (next_unit_name h s j) (pending_packets plan h s j ++ p ∷ [])))

abbrev pub TakesWhole : Plan → History → Event → Verdict → Type 0
TakesWhole plan h e verdict =
    (s : SubStream) (j m : ℕ) (port : PortName) (p : Packet) → ArrivesInOrder plan h e s j m port p
    → IsTaken plan h s j port p verdict

-- Everything that arrived unchanged in order was taken.
abbrev pub WholeLaw : Plan → History → Type 0
WholeLaw plan [] = Unit {0}
WholeLaw plan ((event, verdict) ∷ h) = TakesWhole plan h event verdict × WholeLaw plan h
