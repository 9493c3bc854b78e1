-- The exchanges of each operation, in order, and their requests (this profile).
use Rattle.std.specs.Prelude.{ℕ, ◌+◌, ◌-◌, ◌*◌, ◌/◌, ◌%◌, ◌==◌, ◌++◌, nat_lt, Bool, true, false, if◌then◌else◌, Option}
use Rattle.std.specs.Prelude.{Some, None, List, [], slice_index_or}
use Rattle.key_slots.specs.{KeySet, set_number, unspent_keys, near_six}
use Rattle.key_slots.specs.Wires.{WireKeys}
use Rattle.ide_types.specs.declared.port.Side.{Side}
use Rattle.ide_types.specs.declared.port.Side.TheVariants.{Host, Device}
use Rattle.ide_types.specs.declared.key_set.KeySet.TheVariants.{Zero, One}
use Rattle.key_messages.specs.declared.object.KmView.{KmView}
use Rattle.key_messages.specs.declared.object.KmView.TheVariants as km
use Rattle.event_verdicts.specs.declared.verdict.Operation.{Operation}
use Rattle.event_verdicts.specs.declared.verdict.Operation.TheVariants as op
use Rattle.key_host.specs.declared.exchange.Exchange.{Exchange}
use Rattle.key_host.specs.declared.exchange.Exchange.TheVariants.{Query, Program, Go, Stop}

-- Exchange n of an operation, from 1. Lanes 0 to 2 are the receivers of posted requests, non-posted requests and
-- completions at the end that it is carried to, lanes 3 to 5 that end's senders of the same. With a host's port at the
-- near end all are carried to the far end; so 2 to 7 of establish are KEY_PROG of its receivers and then of its
-- senders.
-- Else both ends get their keys, the near one first, then all receivers their GOs, and then all senders.
abbrev pub exchange_of : (hosted : Bool) → Operation → KeySet → ℕ → Exchange
exchange_of true op.Establish set n =
    if n == 1 then Query else if nat_lt n 8 then Program set (n - 2) else Go set (n - 8)
exchange_of true op.Refresh set n = if nat_lt n 7 then Program set (n - 1) else Go set (n - 7)
exchange_of true op.Stop set n = if nat_lt n 7 then Stop Zero (n - 1) else Stop One (n - 7)
exchange_of false op.Stop set n =
    if nat_lt n 7 then Stop Zero (n - 1) else if nat_lt n 13 then Stop One (n - 7)
    else if nat_lt n 19 then Stop Zero (n - 13) else Stop One (n - 19)
exchange_of false _ set n =
    if nat_lt n 7 then Program set (n - 1) else if nat_lt n 13 then Program set (n - 7)
    else if nat_lt n 16 then Go set (n - 13) else if nat_lt n 22 then Go set (n - 16) else Go set (n - 19)

-- the end of the line that it is carried to
abbrev pub end_of : (hosted : Bool) → Operation → ℕ → Side
end_of true o n = Device
end_of false op.Stop n = if nat_lt n 13 then Host else Device
end_of false _ n =
    if nat_lt n 7 then Host else if nat_lt n 13 then Device else if nat_lt n 16 then Host
    else if nat_lt n 19 then Device else if nat_lt n 22 then Host else Device

-- 0 if the exchange speaks of no slot
abbrev pub exchange_lane : Exchange → ℕ
exchange_lane Query = 0
exchange_lane (Program set lane) = lane
exchange_lane (Go set lane) = lane
exchange_lane (Stop set lane) = lane

-- whether it is the GO of the last of its end's three receivers
abbrev pub is_last_receiver_go : Exchange → Bool
is_last_receiver_go (Go set lane) = lane == 2
is_last_receiver_go exchange = false

-- ---- requests

-- bit 0 is the key set, bit 1 is 0 for what the end receives and 1 for what it sends, bits 7 to 4 are the sub-stream
abbrev pub selector_of : KeySet → ℕ → ℕ
selector_of set lane = set_number set + 2 * (lane / 3) + 16 * (lane % 3)

abbrev pub key_or_none : Option (List ℕ) → List ℕ
key_or_none None = []
key_or_none (Some key) = key

abbrev pub kept_key : WireKeys → ℕ → Option (List ℕ)
kept_key keys i = slice_index_or keys i None

-- the number of a lane's key
abbrev pub wire_number : (hosted : Bool) → Side → ℕ → ℕ
wire_number false Device lane = 6 + lane
wire_number hosted end lane = lane

-- the keys of a draw, of which none was acknowledged
abbrev pub wire_keys : (hosted : Bool) → List (List ℕ) → WireKeys
wire_keys true six = unspent_keys six
wire_keys false six = unspent_keys (near_six six) ++ unspent_keys six

-- the request of an exchange: port index 0, and initial counter 1; i is the number of its lane's key
abbrev pub request_of : ℕ → WireKeys → ℕ → Exchange → KmView
request_of stream keys i Query = km.Query 0
request_of stream keys i (Program set lane) = km.KeyProg stream (selector_of set lane) 0
    (key_or_none (kept_key keys i)) 1
request_of stream keys i (Go set lane) = km.SetGo stream (selector_of set lane) 0
request_of stream keys i (Stop set lane) = km.SetStop stream (selector_of set lane) 0
