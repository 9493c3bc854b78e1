-- Everything that arrives unchanged, and after all posted packets that were sealed before it, is taken: what the
-- sender's posted counts say is not supposed.
use Rattle.std.specs.Prelude.{◌++◌, ◌<◌, ◌∷◌, ◌≡◌, ◌≢◌, ◌≤◌, Some, [], false, length, slice_get, take, true, ℕ}
use Rattle.spec_links.specs.Terms.{PortName, Plan, Event, Verdict, Packet, packet_bytes, History, base, sub_bits}
use Rattle.spec_links.specs.Terms.{received_direction}
use Rattle.spec_links.specs.Plan.{SubStream, is_closed}
use Rattle.spec_links.specs.History.{sealed_packets, arrival_of_event, sent_packets, accepted_packets, units_got}
use Rattle.spec_links.specs.History.{pending_packets, has_failed, posted_lane}
use Rattle.spec_links.specs.Laws.{IsOn, IsPrefixOf, IsTaken, NotForged}
use Rattle.spec_links.specs.Ordered.{IsPacketAtPlace}

-- Each posted packet that was sealed before this place in the direction of the sub-stream, under a draw since the
-- stream was last established, has been accepted.
abbrev pub PostedCame : Plan → History → SubStream → ℕ → Type 0
PostedCame plan h s place =
    (i n earlier : ℕ) → base h s.line s.stream ≤ i → earlier < place
    → IsPacketAtPlace (sealed_packets plan h) (posted_lane s) i n earlier
    → n < length (accepted_packets plan h (posted_lane s) i)

-- Packet m of what was sealed in a sub-stream under a draw arrives unchanged and in order; its key is Live, nothing of
-- another draw is held and the stream has not failed.
pub record ArrivesBehindPosted (plan : Plan) (h : History) (e : Event) (s : SubStream) (j m : ℕ) (port : PortName)
    (p : Packet) : Type 0 where
  pub receiver : (port.line ≡ s.line) × (received_direction port.side ≡ s.direction)
  pub sealed : slice_get (sent_packets plan h s j) m ≡ Some p
  pub unchanged : arrival_of_event plan h e ≡ Some (record { port = port; bytes = packet_bytes p })
  pub in_order : accepted_packets plan h s j ++ pending_packets plan h s j ≡ take m (sent_packets plan h s j)
  pub live : IsOn plan h port s j
  pub alone : (i : ℕ) → IsOn plan h port s i → i ≢ j → pending_packets plan h s i ≡ []
  pub secure : has_failed h port s.stream ≡ false
  -- if it ends a unit of non-posted requests or completions, all came that was posted before it
  pub posted : p.prefix.m ≡ true → sub_bits s.sub ≢ 0 → (place : ℕ)
      → IsPacketAtPlace (sealed_packets plan h) s j m place → PostedCame plan h s place
  -- and what was accepted under smaller draws, since the stream was last established, was sealed
  pub smaller : p.prefix.m ≡ true → sub_bits s.sub ≢ 0 → (i : ℕ) → base h s.line s.stream ≤ i → i < j
      → IsPrefixOf (accepted_packets plan h s i) (sent_packets plan h s i)
  -- on a closed stream, if it ends unit 1, all was got of the smaller draws from Base on
  pub older : p.prefix.m ≡ true → units_got h s j ≡ 0 → is_closed plan s.line s.stream ≡ true → (i : ℕ)
      → base h s.line s.stream ≤ i → i < j → accepted_packets plan h s i ≡ sent_packets plan h s i

abbrev pub TakesBehindPosted : Plan → History → Event → Verdict → Type 0
TakesBehindPosted plan h e verdict =
    (s : SubStream) (j m : ℕ) (port : PortName) (p : Packet) → ArrivesBehindPosted plan h e s j m port p
    → IsTaken plan h s j port p verdict × NotForged plan h e

-- Everything that arrived so was taken, and is no forgery.
abbrev pub WholeLawByOrder : Plan → History → Type 0
WholeLawByOrder plan [] = Unit {0}
WholeLawByOrder plan ((event, verdict) ∷ h) = TakesBehindPosted plan h event verdict × WholeLawByOrder plan h
