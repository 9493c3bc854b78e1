-- Exchanges of keys, by what they ask.
use Rattle.std.proofs.Common.{◌≡◌, ℕ, ◌+◌, ◌-◌, ◌<◌, Bool, true, false, List, [], ◌∷◌, zero, suc, refl, ap, arith, ◌∙◌}
use Rattle.ide_types.specs.declared.port.Side.{Side}
use Rattle.ide_types.specs.declared.port.Side.TheVariants.{Host, Device}
use Rattle.event_verdicts.specs.declared.verdict.Operation.{Operation}
use Rattle.key_slots.specs.{pool_key, six_keys}
use Rattle.key_messages.specs.{object_bytes, object_reply, object_spelling}
use Rattle.key_host.specs.declared.exchange.Exchange.{Exchange}
use Rattle.key_host.specs.Exchanges.{end_of, key_or_none, kept_key, wire_keys, wire_number}
use Rattle.told_facts.specs.declared.keys.Asked.{Asked}
use Rattle.told_facts.specs.declared.keys.Asked.TheVariants as asked
use Rattle.told_facts.specs.declared.fact.Fact.{Fact}
use Rattle.told_facts.specs.declared.fact.Fact.TheVariants as fact
use Rattle.told_facts.specs.declared.fact.Answer.TheVariants as answer
use Rattle.told_facts.specs.Asked.{asked_request, exchange_of_asked, asked_lane, asked_reply, pool_place, program_bytes}
use Rattle.key_host.specs.Exchanges.{selector_of}
use Rattle.told_facts.specs.Exchanges.{key_exchange_of, key_request_by}
unfoldable use Rattle.told_facts.specs.Exchanges.{exchanges_from}

-- six lanes
by_lane : (P : ℕ → Type 0) → P 0 → P 1 → P 2 → P 3 → P 4 → P 5 → (lane : ℕ) → lane < 6 → P lane
by_lane P a b c d e f zero lt = a
by_lane P a b c d e f (suc zero) lt = b
by_lane P a b c d e f (suc (suc zero)) lt = c
by_lane P a b c d e f (suc (suc (suc zero))) lt = d
by_lane P a b c d e f (suc (suc (suc (suc zero)))) lt = e
by_lane P a b c d e f (suc (suc (suc (suc (suc zero))))) lt = f
by_lane P a b c d e f (suc (suc (suc (suc (suc (suc n)))))) lt = absurd (omega arith)

-- the key that stands for a lane
key_is : (pool : List (List ℕ)) (draw : ℕ) (hosted : Bool) (end : Side) (lane : ℕ) → lane < 6
    → pool_key pool draw (pool_place hosted end lane)
    ≡ key_or_none (kept_key (wire_keys hosted (six_keys pool draw)) (wire_number hosted end lane))
key_is pool draw true end lane lt = by_lane
    (λ l. pool_key pool draw (pool_place true end l)
    ≡ key_or_none (kept_key (wire_keys true (six_keys pool draw)) (wire_number true end l)))
    refl refl refl refl refl refl lane lt
key_is pool draw false Host lane lt = by_lane
    (λ l. pool_key pool draw (pool_place false Host l)
    ≡ key_or_none (kept_key (wire_keys false (six_keys pool draw)) (wire_number false Host l)))
    refl refl refl refl refl refl lane lt
key_is pool draw false Device lane lt = by_lane
    (λ l. pool_key pool draw (pool_place false Device l)
    ≡ key_or_none (kept_key (wire_keys false (six_keys pool draw)) (wire_number false Device l)))
    refl refl refl refl refl refl lane lt

request_is : (pool : List (List ℕ)) (hosted : Bool) (stream : ℕ) (o : Operation) (draw n : ℕ) (a : Asked)
    → asked_lane a < 6
    → asked_request stream (pool_key pool draw (pool_place hosted (end_of hosted o n) (asked_lane a))) a
    ≡ object_spelling (key_request_by pool hosted stream o draw n (exchange_of_asked a))
request_is pool hosted stream o draw n asked.Query lt = refl
request_is pool hosted stream o draw n (asked.Program set lane) lt =
    ap (program_bytes stream (selector_of set lane)) (key_is pool draw hosted (end_of hosted o n) lane lt)
request_is pool hosted stream o draw n (asked.Go set lane) lt = refl
request_is pool hosted stream o draw n (asked.Stop set lane) lt = refl

reply_is : (pool : List (List ℕ)) (hosted : Bool) (requester stream : ℕ) (o : Operation) (draw n : ℕ) (a : Asked)
    (done : Bool) → asked_reply requester stream a done
    ≡ object_bytes (object_reply requester (key_request_by pool hosted stream o draw n (exchange_of_asked a)) done)
reply_is pool hosted requester stream o draw n asked.Query done = refl
reply_is pool hosted requester stream o draw n (asked.Program set lane) done = refl
reply_is pool hosted requester stream o draw n (asked.Go set lane) done = refl
reply_is pool hosted requester stream o draw n (asked.Stop set lane) done = refl

-- by the exchange that is asked
pub exchange_is : (pool : List (List ℕ)) (hosted : Bool) (requester stream : ℕ) (o : Operation) (draw n : ℕ) (a : Asked)
    (e : Exchange) (key request done refused : List ℕ) → asked_lane a < 6 → exchange_of_asked a ≡ e
    → key ≡ pool_key pool draw (pool_place hosted (end_of hosted o n) (asked_lane a))
    → request ≡ asked_request stream key a → done ≡ asked_reply requester stream a true
    → refused ≡ asked_reply requester stream a false
    → fact.Exchange n request (answer.Known done refused)
    ≡ key_exchange_of requester n (key_request_by pool hosted stream o draw n e)
exchange_is pool hosted requester stream o draw n a e key request done refused lt asks key_same request_same done_same
    refused_same =
    (λ i. fact.Exchange n
    ((request_same ∙ ap (λ (k : List ℕ). asked_request stream k a) key_same
    ∙ request_is pool hosted stream o draw n a lt) i)
    (answer.Known
    ((done_same ∙ reply_is pool hosted requester stream o draw n a true) i)
    ((refused_same ∙ reply_is pool hosted requester stream o draw n a false) i)))
    ∙ ap (λ (x : Exchange). key_exchange_of requester n (key_request_by pool hosted stream o draw n x)) asks

-- ---- one after another

-- the first behind so many of all of them
pub next_exchange : (told : ℕ → Fact) (past all : ℕ) → past < all
    → exchanges_from told (past + 1) (all - past)
    ≡ told (past + 1) ∷ exchanges_from told (past + 1 + 1) (all - (past + 1))
unfolding exchanges_from
next_exchange told past all lt =
    let more : all - past ≡ suc (all - (past + 1)) = omega (arith, lt) in
    ap (exchanges_from told (past + 1)) more

pub no_exchange : (told : ℕ → Fact) (n left : ℕ) → left ≡ 0 → exchanges_from told n left ≡ []
unfolding exchanges_from
no_exchange told n left none = ap (exchanges_from told n) none
