-- What an exchange of keys asks, and its messages.
use Rattle.std.specs.Prelude.{ℕ, ◌+◌, ◌-◌, nat_lt, Bool, false, if◌then◌else◌, List, []}
use Rattle.ide_types.specs.declared.port.Side.{Side}
use Rattle.ide_types.specs.declared.port.Side.TheVariants.{Host}
use Rattle.key_messages.specs.declared.object.KmView.TheVariants as km
use Rattle.key_messages.specs.{object_bytes, object_reply, object_spelling}
use Rattle.key_host.specs.declared.exchange.Exchange.{Exchange}
use Rattle.key_host.specs.declared.exchange.Exchange.TheVariants as exchange
use Rattle.key_host.specs.Exchanges.{selector_of}
use Rattle.told_facts.specs.declared.keys.Asked.{Asked}
use Rattle.told_facts.specs.declared.keys.Asked.TheVariants as asked

abbrev pub exchange_of_asked : Asked → Exchange
exchange_of_asked asked.Query = exchange.Query
exchange_of_asked (asked.Program set lane) = exchange.Program set lane
exchange_of_asked (asked.Go set lane) = exchange.Go set lane
exchange_of_asked (asked.Stop set lane) = exchange.Stop set lane

abbrev pub asked_lane : Asked → ℕ
asked_lane asked.Query = 0
asked_lane (asked.Program set lane) = lane
asked_lane (asked.Go set lane) = lane
asked_lane (asked.Stop set lane) = lane

-- the place of a lane's key among those of a draw: a near end that is keyed by messages receives direction 1 and sends
-- direction 0
abbrev pub pool_place : (hosted : Bool) → Side → ℕ → ℕ
pool_place false Host lane = if nat_lt lane 3 then lane + 3 else lane - 3
pool_place hosted end lane = lane

abbrev pub program_bytes : ℕ → ℕ → List ℕ → List ℕ
program_bytes stream selector key = object_spelling (km.KeyProg stream selector 0 key 1)

-- with this key
abbrev pub asked_request : ℕ → List ℕ → Asked → List ℕ
asked_request stream key asked.Query = object_spelling (km.Query 0)
asked_request stream key (asked.Program set lane) = program_bytes stream (selector_of set lane) key
asked_request stream key (asked.Go set lane) = object_spelling (km.SetGo stream (selector_of set lane) 0)
asked_request stream key (asked.Stop set lane) = object_spelling (km.SetStop stream (selector_of set lane) 0)

-- the reply, whatever the key
abbrev pub asked_reply : ℕ → ℕ → Asked → Bool → List ℕ
asked_reply requester stream asked.Query done = object_bytes (object_reply requester (km.Query 0) done)
asked_reply requester stream (asked.Program set lane) done =
    object_bytes (object_reply requester (km.KeyProg stream (selector_of set lane) 0 [] 1) done)
asked_reply requester stream (asked.Go set lane) done =
    object_bytes (object_reply requester (km.SetGo stream (selector_of set lane) 0) done)
asked_reply requester stream (asked.Stop set lane) done =
    object_bytes (object_reply requester (km.SetStop stream (selector_of set lane) 0) done)
