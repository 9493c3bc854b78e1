-- What a refresh leaves at the places of its stream, and how its key takes over.
use Rattle.std.specs.Prelude.{◌≡◌, ◌≢◌, ◌≤◌, ◌<◌, ◌∷◌, ◌++◌, ℕ, Bool, true, false, Option, Some, List, []}
use Rattle.spec_keys.specs.Places.{KeyPlace, is_on_stream, is_cleared, sent_direction}
use Rattle.spec_keys.specs.History.{kept_draw, draw_on_at}
use Rattle.spec_links.specs.Terms.{Plan, Event, SealedPacket, Verdict, Sealed, History}
use Rattle.script_events.specs.declared.event.Loss.{Loss}
use Rattle.script_events.specs.declared.event.Event.TheVariants as event
use Rattle.event_verdicts.specs.declared.verdict.Verdict.TheVariants as v
use Rattle.spec_links.specs.Plan.{SubStream}
use Rattle.spec_links.specs.Units.{open_unit}
use Rattle.spec_links.specs.History.{sent_packets, sub_stream_of}
use Rattle.law_key_use.specs.InUse.{sender_of}

-- the sub-stream of a place, if it is a sender
abbrev pub sub_stream_sent : KeyPlace → SubStream
sub_stream_sent p = record { line = p.line; stream = p.stream; direction = sent_direction p.side; sub = p.sub }

-- a unit of the sub-stream under the draw is unfinished
abbrev pub HasOpenUnit : Plan → History → SubStream → ℕ → Type 0
HasOpenUnit plan h s j = open_unit (sent_packets plan h s j) ≢ []

-- Of two draws that are On at a sender, the lesser one is On for a unit that is unfinished.
abbrev pub KeepsOlderForUnit : Plan → History → Type 0
KeepsOlderForUnit plan h =
    (p : KeyPlace) → p.sends ≡ true → (set other : Bool) (i j : ℕ) → draw_on_at h p set ≡ Some i
    → draw_on_at h p other ≡ Some j → i < j → HasOpenUnit plan h (sub_stream_sent p) i

-- ---- at the end of a refresh

-- what a place keeps once the refresh of draw j has ended
pub record IsRefreshed (plan : Plan) (h : History) (p : KeyPlace) (j : ℕ) : Type 0 where
  -- the draw is On
  pub on : (set : Bool) × (draw_on_at h p set ≡ Some j)
  -- each draw that is kept is On: none waits for its GO
  pub none_waits : (set : Bool) (i : ℕ) → kept_draw h p set ≡ Some i → draw_on_at h p set ≡ Some i
  -- at a sender another one is less, and On for a unit that is unfinished
  pub older : p.sends ≡ true → (set : Bool) (i : ℕ) → draw_on_at h p set ≡ Some i → i ≢ j
      → (i < j) × HasOpenUnit plan h (sub_stream_sent p) i

-- at a refreshed verdict each of the twelve places is so
abbrev pub RefreshLeaves : Plan → History → Event → Verdict → Type 0
RefreshLeaves plan h (event.Refresh line stream loss) (v.Refreshed l t j) =
    (p : KeyPlace) → p.line ≡ line → p.stream ≡ stream
    → IsRefreshed plan ((event.Refresh line stream loss, v.Refreshed l t j) ∷ h) p j
RefreshLeaves plan h e w = Unit {0}

-- ---- what is sealed then

-- a packet that begins a unit is sealed under the greatest draw that is On at its sender just before it
abbrev pub BeginsUnderNewest : Plan → History → Event → Verdict → Type 0
BeginsUnderNewest plan h e (Sealed ds) =
    (ahead more : List SealedPacket) (d : SealedPacket) → ds ≡ ahead ++ d ∷ more
    → open_unit (sent_packets plan ((e, Sealed ahead) ∷ h) (sub_stream_of d) d.draw) ≡ []
    → (set : Bool) (i : ℕ) → draw_on_at ((e, Sealed ahead) ∷ h) (sender_of d) set ≡ Some i → i ≤ d.draw
BeginsUnderNewest plan h e w = Unit {0}

-- the event stops the stream of a place, or resets its end
abbrev pub takes_keys : Event → KeyPlace → Bool
takes_keys (event.Stop line stream loss) p = is_on_stream p line stream
takes_keys (event.Reset link ends) p = is_cleared ends p.side p.line
takes_keys e p = false

-- a draw is On that is not less
abbrev pub IsOnFrom : History → KeyPlace → ℕ → Type 0
IsOnFrom h p j = (set : Bool) × (i : ℕ) × (j ≤ i) × (draw_on_at h p set ≡ Some i)

-- Of a draw that is On, it or a greater one stays so but for a stop and a reset. (A stop that is left in the middle can
-- have taken the newer key and not the older, under which units then begin again.)
abbrev pub NewestStays : History → Event → Verdict → Type 0
NewestStays h e w = (p : KeyPlace) (set : Bool) (j : ℕ) → takes_keys e p ≡ false → draw_on_at h p set ≡ Some j
    → IsOnFrom ((e, w) ∷ h) p j

-- no event of these takes keys from the place
abbrev pub NoneTakes : History → KeyPlace → Type 0
NoneTakes [] p = Unit {0}
NoneTakes ((e, w) ∷ since) p = (takes_keys e p ≡ false) × NoneTakes since p

-- so once a refresh of draw j has ended, a packet under a lesser draw goes on with a unit that is unfinished
abbrev pub TakesOver : Plan → History → Event → Verdict → Type 0
TakesOver plan h e (Sealed ds) =
    (since older : History) (line stream l t j : ℕ) (loss : Option Loss)
    → h ≡ since ++ (event.Refresh line stream loss, v.Refreshed l t j) ∷ older
    → (ahead more : List SealedPacket) (d : SealedPacket) → ds ≡ ahead ++ d ∷ more → d.port.line ≡ line
    → d.stream ≡ stream → NoneTakes since (sender_of d) → d.draw < j
    → HasOpenUnit plan ((e, Sealed ahead) ∷ h) (sub_stream_of d) d.draw
TakesOver plan h e w = Unit {0}

-- ---- the law

abbrev pub RefreshTakes : Plan → History → Type 0
RefreshTakes plan [] = Unit {0}
RefreshTakes plan ((e, w) ∷ h) =
    KeepsOlderForUnit plan ((e, w) ∷ h) × RefreshLeaves plan h e w × BeginsUnderNewest plan h e w × NewestStays h e w
    × TakesOver plan h e w × RefreshTakes plan h
