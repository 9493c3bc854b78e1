-- Slots that stand for keys still do after a touch.
use Rattle.machine_operations.proofs.Terms.{◌≡◌, ℕ, Bool, true, false, List, [], ◌∷◌, refl, ap, sym, ◌∙◌, arith, not}
use Rattle.machine_operations.proofs.Terms.{◌||◌, key_in, nat_tests, AllowsIncoming, AllowsOutgoing, any_live, busy_in}
use Rattle.machine_operations.proofs.Terms.{ClearTouch, GoTouch, History, is_on, key_touched_in, key_touched_out, Keys}
use Rattle.machine_operations.proofs.Terms.{LeadTo, Live, Loaded, new_key, On, open_unit, Plan, PortName, ProgramTouch}
use Rattle.machine_operations.proofs.Terms.{rx_slots, SealedList, sealing_key, sub_stream_packets, slot_touched}
use Rattle.machine_operations.proofs.Terms.{LaneSlots, slots_touched, StopTouch, SubStream, Touch, tx_slots, units}
use Rattle.machine_operations.proofs.Terms.{waits}

-- ---- receivers

pub touched_in : (plan : Plan) (h : History) (port : PortName) (s : SubStream) (t : Touch) (keys : Keys)
    → AllowsIncoming plan h port s t keys
    → slot_touched false plan s t (rx_slots plan h port s keys) ≡ rx_slots plan h port s (key_touched_in t keys)
touched_in plan h port s (ProgramTouch k j) keys allowed = grind arith
touched_in plan h port s (GoTouch k i) keys allowed = grind (arith, allowed)
touched_in plan h port s (StopTouch k) keys allowed = grind arith
touched_in plan h port s ClearTouch keys allowed = refl
touched_in plan h port s _ keys allowed = refl

-- ---- senders

new_is : (plan : Plan) (xs : SealedList) (s : SubStream) (j : ℕ) → sub_stream_packets xs s j ≡ []
    → Live (sealing_key plan xs s j) ≡ Live (new_key plan s j)
unfolding units open_unit
new_is plan xs s j none = rw none refl

module _ (plan : Plan) (xs : SealedList) (s : SubStream) where
  -- set by set, since the sets are told apart in what waits
  loaded : (k : Bool) (j : ℕ) (keys : Keys) → AllowsOutgoing plan xs s (ProgramTouch k j) keys
      → slot_touched true plan s (ProgramTouch k j) (tx_slots plan xs s keys)
      ≡ tx_slots plan xs s (key_touched_out (busy_in xs s) (ProgramTouch k j) keys)
  loaded true j keys allowed = grind (arith, nat_tests, allowed)
  loaded false j keys allowed = grind (arith, nat_tests, allowed)

  goes : (k : Bool) (l : ℕ) (keys : Keys) →
      ((j : ℕ) → key_in keys k ≡ Loaded j → Live (sealing_key plan xs s j) ≡ Live (new_key plan s j))
      → ((i j : ℕ) → key_in keys k ≡ Loaded j → key_in keys (not k) ≡ On i → (waits k j (On i) ≡ true)
      × (waits (not k) i (On j) ≡ false))
      → slot_touched true plan s (GoTouch k l) (tx_slots plan xs s keys)
      ≡ tx_slots plan xs s (key_touched_out (busy_in xs s) (GoTouch k l) keys)
  goes true l keys new later = grind (arith, nat_tests, new, later)
  goes false l keys new later = grind (arith, nat_tests, new, later)

  stopped : (k : Bool) (keys : Keys) →
      ((j : ℕ) → sub_stream_packets xs s j ≡ [] → Live (sealing_key plan xs s j) ≡ Live (new_key plan s j))
      → AllowsOutgoing plan xs s (StopTouch k) keys
      → slot_touched true plan s (StopTouch k) (tx_slots plan xs s keys)
      ≡ tx_slots plan xs s (key_touched_out (busy_in xs s) (StopTouch k) keys)
  stopped k keys new allowed = grind (arith, nat_tests, allowed, new)

  pub touched_out : (t : Touch) (keys : Keys) → AllowsOutgoing plan xs s t keys
      → slot_touched true plan s t (tx_slots plan xs s keys)
      ≡ tx_slots plan xs s (key_touched_out (busy_in xs s) t keys)
  touched_out (ProgramTouch k j) keys allowed = loaded k j keys allowed
  touched_out (GoTouch k l) keys allowed = goes k l keys (λ j is. new_is plan xs s j (allowed j is).0)
      (λ i j is. (allowed j is).1 i)
  touched_out (StopTouch k) keys allowed = stopped k keys (new_is plan xs s) allowed
  touched_out ClearTouch keys allowed = refl
  touched_out _ keys allowed = refl

-- ---- touch after touch

-- slots stand for the keys to which touches lead, if they do after each touch that is allowed
pub all_touched : (sends : Bool) (plan : Plan) (s : SubStream) (Allowed : Touch → Keys → Type 0)
    (one : Touch → Keys → Keys) (slots : Keys → LaneSlots)
    → ((t : Touch) (keys : Keys) → Allowed t keys → slot_touched sends plan s t (slots keys) ≡ slots (one t keys))
    → (ts : List Touch) (before after : Keys) → LeadTo Allowed one ts before after
    → slots_touched sends plan s ts (slots before) ≡ slots after
all_touched sends plan s Allowed one slots each [] before after lead = ap slots (sym lead)
all_touched sends plan s Allowed one slots each (t ∷ ts) before after lead = ap (slots_touched sends plan s ts)
    (each t before lead.0) ∙ all_touched sends plan s Allowed one slots each ts (one t before) after lead.1

-- ---- Live slots are those of draws that are On

pub live_in_is : (plan : Plan) (h : History) (port : PortName) (s : SubStream) (keys : Keys)
    → any_live (rx_slots plan h port s keys) ≡ (is_on keys.first || is_on keys.second)
live_in_is plan h port s keys = grind arith

pub live_out_is : (plan : Plan) (xs : SealedList) (s : SubStream) (keys : Keys) → any_live (tx_slots plan xs s keys)
    ≡ (is_on keys.first || is_on keys.second)
live_out_is plan xs s keys = grind arith
