-- The keys of one place, said by all that ever touched it: which draw is kept in each key set, and which is On.
use Rattle.std.specs.Prelude.{◌==◌, ◌&&◌, if◌then◌else◌, ◌∷◌, ℕ, nat_lt, nat_le, Bool, true, false, not, Option, Some}
use Rattle.std.specs.Prelude.{None, [], List}
use Rattle.std.specs.Option.{option_or}

-- What touches a place: a KEY_PROG that reached it, a K_SET_GO, a K_SET_STOP (each also as the host's local call), the
-- loss of all keys, a packet that it sealed under a draw, with M or not, a unit that it accepted under a draw.
pub data Touch : Type 0 where
  Program : (set : Bool) (draw : ℕ) → Touch
  Go : (set : Bool) (draw : ℕ) → Touch
  Stop : (set : Bool) → Touch
  Clear : Touch
  Seal : (draw : ℕ) (m : Bool) → Touch
  Accept : (draw : ℕ) → Touch

-- what a key set of a place holds: nothing, a draw whose GO was not yet given, or a draw that is On
pub data Keyed : Type 0 where
  Off : Keyed
  Loaded : (draw : ℕ) → Keyed
  On : (draw : ℕ) → Keyed

-- both key sets, 0 and 1
pub record Keys : Type 0 where
  pub first : Keyed
  pub second : Keyed

abbrev pub no_keys : Keys
no_keys = record { first = Off; second = Off }

abbrev pub key_in : Keys → Bool → Keyed
key_in ks false = ks.first
key_in ks true = ks.second

abbrev pub with_key : Keys → Bool → Keyed → Keys
with_key ks false a = record { first = a; second = ks.second }
with_key ks true a = record { first = ks.first; second = a }

-- the draw that is kept, and the draw that is On
abbrev pub draw_of_keyed : Keyed → Option ℕ
draw_of_keyed Off = None
draw_of_keyed (Loaded j) = Some j
draw_of_keyed (On j) = Some j

abbrev pub on_in : Keyed → Option ℕ
on_in Off = None
on_in (Loaded j) = None
on_in (On j) = Some j

abbrev pub is_on : Keyed → Bool
is_on (On j) = true
is_on a = false

-- ---- a KEY_PROG is refused

-- at a receiver if the set's draw is On and no greater one is, at a sender if it is the least that is On
abbrev pub refuses_on_draws : Bool → Option ℕ → Option ℕ → Bool
refuses_on_draws sends None other = false
refuses_on_draws sends (Some i) None = true
refuses_on_draws false (Some i) (Some j) = nat_le j i
refuses_on_draws true (Some i) (Some j) = nat_le i j

abbrev pub refuses : Bool → Keys → Bool → Bool
refuses sends ks set = refuses_on_draws sends (on_in (key_in ks set)) (on_in (key_in ks (not set)))

-- the status of a KP_ACK whose key was not taken
abbrev pub refused_status : ℕ
refused_status = 3

abbrev pub refusal_if : Bool → Option ℕ
refusal_if true = Some refused_status
refusal_if false = None

-- ---- one touch

-- an accepted unit ends each smaller draw that is On
abbrev pub unless_below : ℕ → Keyed → Keyed
unless_below j (On i) = if nat_lt i j then Off else On i
unless_below j a = a

abbrev pub keys_after_touch : Bool → Keys → Touch → Keys
keys_after_touch sends ks (Program set j) = if refuses sends ks set then ks else with_key ks set (Loaded j)
keys_after_touch sends ks (Go set j) = with_key ks set (On j)
keys_after_touch sends ks (Stop set) = with_key ks set Off
keys_after_touch sends ks Clear = no_keys
keys_after_touch sends ks (Seal j m) = ks
keys_after_touch sends ks (Accept j) = record { first = unless_below j ks.first; second = unless_below j ks.second }

-- ---- a sender's older key ends with its last unit

-- whether a unit of the draw is unfinished: its last packet has no M
unfoldable pub is_open : List Touch → ℕ → Bool
is_open [] j = false
is_open (Seal i m ∷ ts) j = if i == j then not m else is_open ts j
is_open (_ ∷ ts) j = is_open ts j

-- a greater draw is On and no unit of this one is unfinished
abbrev pub is_outlived : (ℕ → Bool) → Option ℕ → Option ℕ → Bool
is_outlived open_is None other = false
is_outlived open_is (Some i) None = false
is_outlived open_is (Some i) (Some j) = nat_lt i j && not (open_is i)

abbrev pub unless_outlived : (ℕ → Bool) → Keyed → Keyed → Keyed
unless_outlived open_is mine other = if is_outlived open_is (on_in mine) (on_in other) then Off else mine

abbrev pub without_outlived : Bool → (ℕ → Bool) → Keys → Keys
without_outlived false open_is ks = ks
without_outlived true open_is ks = record {
  first = unless_outlived open_is ks.first ks.second;
  second = unless_outlived open_is ks.second ks.first;
}

-- ---- all touches, the newest first

unfoldable pub keys : Bool → List Touch → Keys
keys sends [] = no_keys
keys sends (t ∷ ts) = without_outlived sends (is_open (t ∷ ts)) (keys_after_touch sends (keys sends ts) t)

-- ---- slots

-- what a slot holds: no key, a key that waits for its GO, one that waits for the end of the older one's unit, or
-- the key that is sealed under or that opens what arrives
pub data DrawSlot : Type 0 where
  Empty : DrawSlot
  Programmed : (draw : ℕ) → DrawSlot
  Armed : (draw : ℕ) → DrawSlot
  Live : (draw : ℕ) → DrawSlot

abbrev pub is_some_below : Option ℕ → ℕ → Bool
is_some_below None j = false
is_some_below (Some i) j = nat_lt i j

-- of a sender the least draw that is On is Live, of a receiver each
abbrev pub slot_if_on : Bool → ℕ → Option ℕ → DrawSlot
slot_if_on false j other = Live j
slot_if_on true j other = if is_some_below other j then Armed j else Live j

abbrev pub slot_beside_other : Bool → Keyed → Keyed → DrawSlot
slot_beside_other sends Off other = Empty
slot_beside_other sends (Loaded j) other = Programmed j
slot_beside_other sends (On j) other = slot_if_on sends j (on_in other)

abbrev pub slot_of : Bool → Keys → Bool → DrawSlot
slot_of sends ks set = slot_beside_other sends (key_in ks set) (key_in ks (not set))

abbrev pub live_draw_in : DrawSlot → Option ℕ
live_draw_in (Live j) = Some j
live_draw_in _ = None

abbrev pub is_live_draw : DrawSlot → Bool
is_live_draw (Live j) = true
is_live_draw _ = false

-- the draw that a sender seals under
abbrev pub sender_draw : Keys → Option ℕ
sender_draw ks = option_or (live_draw_in (slot_of true ks false)) (live_draw_in (slot_of true ks true))
