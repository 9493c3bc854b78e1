-- The state of a stream at a port, as the slots have it and as the keys say.
use Rattle.machine_operations.proofs.Terms.{◌≡◌, ℕ, Bool, true, false, Some, refl, ap, ◌∙◌, arith, ◌&&◌, ◌||◌, any_live}
use Rattle.machine_operations.proofs.Terms.{Cpl, Device, place_at_end, failed_there, has_all, has_all_live, has_key}
use Rattle.machine_operations.proofs.Terms.{has_stream, History, Host, in_keyed, keyed_there, port_keys, place_keys}
use Rattle.machine_operations.proofs.Terms.{lane_in, lane_out, LinkState, Npr, out_keyed, Plan, port_at}
use Rattle.machine_operations.proofs.Terms.{StreamsAndPacketsStand, Pr, rx_slots, sealed_packets, Side, has_some_live}
use Rattle.machine_operations.proofs.Terms.{stream_state_due, state_due_if_planned, machine_status, keyed_status}
use Rattle.machine_operations.proofs.Terms.{history_status, status_if_planned, SubKind, tx_slots}
use Rattle.machine_operations.proofs.SlotTouches.{live_in_is, live_out_is}

-- ---- six tests

abbrev any_six : (SubKind → Bool) → (SubKind → Bool) → Bool
any_six f g = f Pr || f Npr || f Cpl || g Pr || g Npr || g Cpl

abbrev all_six : (SubKind → Bool) → (SubKind → Bool) → Bool
all_six f g = f Pr && f Npr && f Cpl && g Pr && g Npr && g Cpl

six_or : (f g : SubKind → Bool) → any_six f g ≡ (f Pr || (f Npr || (f Cpl || (g Pr || (g Npr || (g Cpl || false))))))
six_or f g = grind arith

six_or_back : (f g : SubKind → Bool) → any_six f g ≡
    (g Pr || (g Npr || (g Cpl || (f Pr || (f Npr || (f Cpl || false))))))
six_or_back f g = grind arith

six_and : (f g : SubKind → Bool) → all_six f g ≡ (f Pr && (f Npr && (f Cpl && (g Pr && (g Npr && (g Cpl && true))))))
six_and f g = grind arith

six_and_back : (f g : SubKind → Bool) → all_six f g ≡
    (g Pr && (g Npr && (g Cpl && (f Pr && (f Npr && (f Cpl && true))))))
six_and_back f g = grind arith

-- ---- keys

abbrev outward : History → Side → ℕ → ℕ → SubKind → Bool
outward h side line stream u = keyed_there (place_keys h (place_at_end line stream true side u))

abbrev inward : History → Side → ℕ → ℕ → SubKind → Bool
inward h side line stream u = keyed_there (place_keys h (place_at_end line stream false side u))

-- ---- slots

tx_live : (plan : Plan) (h : History) (side : Side) (line stream : ℕ) (u : SubKind)
    → let s = lane_out (port_at side line) stream u in any_live
    (tx_slots plan (sealed_packets plan h) s (port_keys h (port_at side line) s))
    ≡ outward h side line stream u
tx_live plan h side line stream u = let s = lane_out (port_at side line) stream u in live_out_is plan
    (sealed_packets plan h) s (port_keys h (port_at side line) s) ∙ out_keyed h (port_at side line) stream u

rx_live : (plan : Plan) (h : History) (side : Side) (line stream : ℕ) (u : SubKind)
    → let s = lane_in (port_at side line) stream u in any_live
    (rx_slots plan h (port_at side line) s (port_keys h (port_at side line) s))
    ≡ inward h side line stream u
rx_live plan h side line stream u = let s = lane_in (port_at side line) stream u in live_in_is plan h
    (port_at side line) s (port_keys h (port_at side line) s) ∙ in_keyed h (port_at side line) stream u

some_is : (plan : Plan) (h : History) (side : Side) (line stream : ℕ)
    → has_some_live (stream_state_due plan h (port_at side line) stream) ≡ has_key (place_keys h) side line stream
unfolding stream_state_due
some_is plan h side line stream =
    let out = tx_live plan h side line stream in
    let into = rx_live plan h side line stream in
    (λ i. out Pr i || out Npr i || out Cpl i || into Pr i || into Npr i || into Cpl i) ∙ by_side side
  where
    by_side : (side : Side) → any_six (outward h side line stream) (inward h side line stream)
        ≡ has_key (place_keys h) side line stream
    by_side Host = six_or (outward h Host line stream) (inward h Host line stream)
    by_side Device = six_or_back (outward h Device line stream) (inward h Device line stream)

all_is : (plan : Plan) (h : History) (side : Side) (line stream : ℕ)
    → has_all_live (stream_state_due plan h (port_at side line) stream) ≡ has_all (place_keys h) side line stream
unfolding stream_state_due
all_is plan h side line stream =
    let out = tx_live plan h side line stream in
    let into = rx_live plan h side line stream in
    (λ i. out Pr i && out Npr i && out Cpl i && into Pr i && into Npr i && into Cpl i) ∙ by_side side
  where
    by_side : (side : Side) → all_six (outward h side line stream) (inward h side line stream)
        ≡ has_all (place_keys h) side line stream
    by_side Host = six_and (outward h Host line stream) (inward h Host line stream)
    by_side Device = six_and_back (outward h Device line stream) (inward h Device line stream)

standing_failed : (plan : Plan) (h : History) (side : Side) (line stream : ℕ)
    → (stream_state_due plan h (port_at side line) stream).failed ≡ failed_there h side line stream
unfolding stream_state_due
standing_failed plan h side line stream = refl

pub status_is : (plan : Plan) (st : LinkState) (h : History) → StreamsAndPacketsStand plan st h
    → (side : Side) (line stream : ℕ) → has_stream plan (port_at side line) stream ≡ true
    → machine_status plan st side line stream ≡ history_status h side line stream
status_is plan st h stands side line stream known =
    let here : state_due_if_planned plan h (port_at side line) stream
    ≡ Some (stream_state_due plan h (port_at side line) stream) = rw known refl in
    ap status_if_planned (stands.streams (port_at side line) stream ∙ here)
    ∙ (λ i. keyed_status (standing_failed plan h side line stream i) (some_is plan h side line stream i)
    (all_is plan h side line stream i))
