-- Whether a stream failed at a port, after one more pair.
use Rattle.spec_links.proofs.Terms.{Bool, ap, arith, false, sym, true, ℕ, ◌∙◌, ◌∷◌, ◌≡◌, Side, Cpl, Npr, Pr}
use Rattle.spec_links.proofs.Terms.{failed_there, has_key, places_of, has_failed, fails_at, has_live_key, has_live_in}
use Rattle.spec_links.proofs.Terms.{has_live_out, is_keyed, lane_in, lane_out, Event, History, KeyPlace, PortName}
use Rattle.spec_links.proofs.Terms.{SubKind, Verdict, keeps_live, place_keys, list_any, ◌&&◌, ◌||◌}
use Rattle.law_key_facts.proofs.Seats.{keys_out, keys_into}

-- ---- keys

-- a port's place of a stream
abbrev pub end_of : PortName → ℕ → Bool → SubKind → KeyPlace
end_of port stream sends u = record { side = port.side; line = port.line; stream = stream; sends = sends; sub = u }

pub out_keyed : (h : History) (port : PortName) (stream : ℕ) (u : SubKind) → is_keyed h port (lane_out port stream u)
    ≡ keeps_live (place_keys h (end_of port stream true u))
out_keyed h port stream u = ap keeps_live (keys_out h port stream u)

pub in_keyed : (h : History) (port : PortName) (stream : ℕ) (u : SubKind) → is_keyed h port (lane_in port stream u)
    ≡ keeps_live (place_keys h (end_of port stream false u))
in_keyed h port stream u = ap keeps_live (keys_into h port stream u)

by_side : (side : Side) (line stream : ℕ) (keyed : KeyPlace → Bool) → let at = λ (sends : Bool) (u : SubKind). keyed
    (record { side = side; line = line; stream = stream; sends = sends; sub = u }) in
    (at true Pr || at true Npr || at true Cpl || (at false Pr || at false Npr || at false Cpl))
    ≡ list_any keyed (places_of side line stream)
by_side side line stream keyed = grind arith

pub live_is_key : (h : History) (port : PortName) (stream : ℕ) → has_live_key h port stream
    ≡ has_key (place_keys h) port.side port.line stream
unfolding has_live_out has_live_in
live_is_key h port stream =
    let out = out_keyed h port stream in
    let into = in_keyed h port stream in
    (λ i. out Pr i || out Npr i || out Cpl i || (into Pr i || into Npr i || into Cpl i))
    ∙ by_side port.side port.line stream (λ (p : KeyPlace). keeps_live (place_keys h p))

-- ---- failures

pub failed_next : (h : History) (e : Event) (w : Verdict) (port : PortName) (stream : ℕ)
    → has_failed ((e, w) ∷ h) port stream ≡
    ((fails_at port stream w || has_failed h port stream) && has_live_key ((e, w) ∷ h) port stream)
unfolding failed_there
failed_next h e w port stream = ap (λ (b : Bool). (fails_at port stream w || has_failed h port stream) && b)
    (sym (live_is_key ((e, w) ∷ h) port stream))
