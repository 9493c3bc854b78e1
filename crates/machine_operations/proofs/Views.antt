-- What operations read of the slots is what the keys say.
use Rattle.machine_operations.proofs.Terms.{◌≡◌, ℕ, ◌==◌, Bool, true, false, Option, Some, None, refl, ap, sym, ◌∙◌}
use Rattle.machine_operations.proofs.Terms.{arith, if◌then◌else◌, at_each, CauseLaw, place_at_end, facts, find}
use Rattle.machine_operations.proofs.Terms.{has_stream, History, is_live_slot, is_live_there, Keys, port_keys}
use Rattle.machine_operations.proofs.Terms.{keys_into, keys_out, place_keys, lane_in, lane_out, LinkState, is_live_at}
use Rattle.machine_operations.proofs.Terms.{nat_tests, no_keys, On, KeyPlace, Plan, port_at, PortName, ports_at}
use Rattle.machine_operations.proofs.Terms.{ports_of, StreamsAndPacketsStand, refuses, refuses_at, slots_refuse}
use Rattle.machine_operations.proofs.Terms.{rx_slots, rx_state_due, RxSub, sealed_packets, SealedList, slot_in_set}
use Rattle.machine_operations.proofs.Terms.{slot_of, LaneSlots, slots_at, stream_state_due, StreamState, SubStream}
use Rattle.machine_operations.proofs.Terms.{tx_slots, tx_state_due, TxSub}
use Rattle.spec_keys.specs.Keys.{refusal_if}
use Rattle.machine_ports.proofs.{unplanned_keys}

-- ---- slots

-- two draws that are On differ
abbrev Apart : Keys → Type 0
Apart ks = (i j : ℕ) → ks.first ≡ On i → ks.second ≡ On j → (i == j) ≡ false

refuses_out : (plan : Plan) (k : Bool) (xs : SealedList) (s : SubStream) (ks : Keys) → Apart ks
    → slots_refuse (tx_slots plan xs s ks) k ≡ refuses true ks k
refuses_out plan k xs s ks apart = grind (arith, nat_tests, apart)

live_out : (plan : Plan) (k : Bool) (xs : SealedList) (s : SubStream) (ks : Keys) → Apart ks
    → is_live_slot (slot_in_set (tx_slots plan xs s ks) k) ≡ is_live_there (slot_of true ks k)
live_out plan k xs s ks apart = grind (arith, nat_tests, apart)

refuses_into : (plan : Plan) (h : History) (k : Bool) (port : PortName) (s : SubStream) (ks : Keys) → Apart ks
    → slots_refuse (rx_slots plan h port s ks) k ≡ refuses false ks k
refuses_into plan h k port s ks apart = grind (arith, nat_tests, apart)

live_into : (plan : Plan) (h : History) (k : Bool) (port : PortName) (s : SubStream) (ks : Keys) → Apart ks
    → is_live_slot (slot_in_set (rx_slots plan h port s ks) k) ≡ is_live_there (slot_of false ks k)
live_into plan h k port s ks apart = grind arith

-- ---- a stream that the plan has, and one that it does not have

known : (plan : Plan) (h : History) → CauseLaw plan h → (p : KeyPlace) (sends : Bool) (seen : LaneSlots → Bool)
    (there : Bool → Keys → Bool)
    → ((xs : SealedList) (s : SubStream) (ks : Keys) → Apart ks → seen (tx_slots plan xs s ks) ≡ there true ks)
    → ((port : PortName) (s : SubStream) (ks : Keys) → Apart ks → seen (rx_slots plan h port s ks) ≡ there false ks)
    → seen (slots_at sends p.sub (stream_state_due plan h (port_at p.side p.line) p.stream))
    ≡ there sends (place_keys h (place_at_end p.line p.stream sends p.side p.sub))
unfolding stream_state_due
known plan h law p true seen there out into =
    let port = port_at p.side p.line in
    let s = lane_out port p.stream p.sub in
    ap (λ (x : TxSub). seen x.slots) (at_each (λ u. tx_state_due plan h port (lane_out port p.stream u)) p.sub)
    ∙ (out (sealed_packets plan h) s (port_keys h port s) ((facts plan).apart h law port s) ∙ ap (there true)
    (keys_out h port p.stream p.sub))
known plan h law p false seen there out into =
    let port = port_at p.side p.line in
    let s = lane_in port p.stream p.sub in
    ap (λ (x : RxSub). seen x.slots) (at_each (λ u. rx_state_due plan h port (lane_in port p.stream u)) p.sub)
    ∙ (into port s (port_keys h port s) ((facts plan).apart h law port s) ∙ ap (there false)
    (keys_into h port p.stream p.sub))

reads : (plan : Plan) (st : LinkState) (h : History) → StreamsAndPacketsStand plan st h
    → (p : KeyPlace) (at : Option StreamState → Bool) (there : Keys → Bool) → at None ≡ there no_keys
    → at (Some (stream_state_due plan h (port_at p.side p.line) p.stream)) ≡ there (place_keys h p)
    → at (find plan st (port_at p.side p.line) p.stream) ≡ there (place_keys h p)
reads plan st h stands p at there bare here =
    ap at (stands.streams (port_at p.side p.line) p.stream) ∙ by_known
    (has_stream plan (port_at p.side p.line) p.stream) refl
  where
    by_known : (b : Bool) → has_stream plan (port_at p.side p.line) p.stream ≡ b
        → at (if b then Some (stream_state_due plan h (port_at p.side p.line) p.stream) else None)
        ≡ there (place_keys h p)
    by_known true has = here
    by_known false none = bare ∙ sym (ap there (unplanned_keys plan h stands.cause p none))

bare_refuses : (s k : Bool) → false ≡ refuses s no_keys k
bare_refuses s k = grind arith

bare_live : (s k : Bool) → false ≡ is_live_there (slot_of s no_keys k)
bare_live s k = grind arith

refuses_is : (plan : Plan) (st : LinkState) (h : History) → StreamsAndPacketsStand plan st h → (p : KeyPlace) (k : Bool)
    → refuses_at p.sends p.sub k (find plan st (port_at p.side p.line) p.stream) ≡ refuses p.sends (place_keys h p) k
refuses_is plan st h stands p k =
    reads plan st h stands p (refuses_at p.sends p.sub k) (λ ks. refuses p.sends ks k) (bare_refuses p.sends k)
    (known plan h stands.cause p p.sends (λ slots. slots_refuse slots k) (λ s ks. refuses s ks k) (refuses_out plan k)
    (refuses_into plan h k))

live_is : (plan : Plan) (st : LinkState) (h : History) → StreamsAndPacketsStand plan st h → (p : KeyPlace) (k : Bool)
    → (ports_of plan st).is_live p k ≡ (ports_at h).is_live p k
live_is plan st h stands p k =
    reads plan st h stands p (is_live_at p.sends p.sub k) (λ ks. is_live_there (slot_of p.sends ks k))
    (bare_live p.sends k)
    (known plan h stands.cause p p.sends (λ slots. is_live_slot (slot_in_set slots k))
    (λ s ks. is_live_there (slot_of s ks k))
    (live_out plan k) (live_into plan h k))

-- Operations read of the slots what the history says of the keys.
pub ports_is : (plan : Plan) (st : LinkState) (h : History) → StreamsAndPacketsStand plan st h → ports_of plan st
    ≡ ports_at h
ports_is plan st h stands = λ i. record
    { refusal = λ p k. refusal_if (refuses_is plan st h stands p k i); is_live = λ p k. live_is plan st h stands p k i }
