-- The state after an operation stands for the history with its pair.
use Rattle.machine_operations.proofs.Terms.{◌≡◌, ℕ, ◌==◌, Bool, true, false, List, ◌∷◌, Option, Some, None, refl, ap}
use Rattle.machine_operations.proofs.Terms.{sym, ◌∙◌, arith, if◌then◌else◌, ◌&&◌, at_place, Device, Event, find}
use Rattle.machine_operations.proofs.Terms.{find-put, find-put_other, has_stream, History, Host, is_same_port}
use Rattle.machine_operations.proofs.Terms.{IsOperation, kept_all, KeyFacts, LinkState, Touch, touched_at}
use Rattle.machine_operations.proofs.Terms.{touched_found, touched_state, nat_tests, OperationSteps, Plan, port_at}
use Rattle.machine_operations.proofs.Terms.{PortName, StreamsAndPacketsStand, put_packets, quiet_everywhere}
use Rattle.machine_operations.proofs.Terms.{quiet_seals_none, sealed_same, Side, stream_state_due, state_due_if_planned}
use Rattle.machine_operations.proofs.Terms.{touched_stream, stays, StreamState, SubKind, Verdict}
use Rattle.machine_operations.proofs.Operations.{manager_after_operation}

-- a stream at a port as it was or as it stands for the history with the pair
abbrev Found : Plan → LinkState → History → PortName → ℕ → Type 0
Found plan st h port stream = find plan st port stream ≡ state_due_if_planned plan h port stream

touched_there : (plan : Plan) (st : LinkState) (h g : History) (port : PortName) (stream : ℕ)
    (out into : SubKind → List Touch) → Found plan st h port stream
    → touched_stream plan port stream out into (stream_state_due plan h port stream)
    ≡ stream_state_due plan g port stream
    → Found plan (touched_found plan st port stream out into (find plan st port stream)) g port stream
touched_there plan st h g port stream out into found after = by_known (has_stream plan port stream) refl
    (find plan st port stream) refl found
  where
    by_known : (b : Bool) → has_stream plan port stream ≡ b → (o : Option StreamState) → find plan st port stream ≡ o
        → o ≡ (if b then Some (stream_state_due plan h port stream) else None)
        → find plan (touched_found plan st port stream out into o) port stream
        ≡ (if b then Some (stream_state_due plan g port stream) else None)
    by_known true known (Some x) is same =
        let one : x ≡ stream_state_due plan h port stream = cc in
        find-put plan st port stream (touched_stream plan port stream out into x) (rw is refl) ∙ ap
        (λ (y : StreamState). Some y) (ap (touched_stream plan port stream out into) one ∙ after)
    by_known true known None is same = absurd cc
    by_known false known None is same = is
    by_known false known (Some x) is same = absurd cc

touched_elsewhere : (plan : Plan) (st : LinkState) (port : PortName) (stream : ℕ) (out into : SubKind → List Touch)
    (o : Option StreamState) (q : PortName) (t : ℕ) → (is_same_port port q && (stream == t)) ≡ false
    → find plan (touched_found plan st port stream out into o) q t ≡ find plan st q t
touched_elsewhere plan st port stream out into None q t other = refl
touched_elsewhere plan st port stream out into (Some x) q t other = find-put_other plan st port stream _ q t other

touched_packets : (plan : Plan) (st : LinkState) (port : PortName) (stream : ℕ) (out into : SubKind → List Touch)
    (o : Option StreamState) → (touched_found plan st port stream out into o).packets ≡ st.packets
touched_packets plan st port stream out into None = refl
touched_packets plan st port stream out into (Some x) = put_packets plan st port stream _

-- at neither end of the line it is another stream or line
another : (line stream : ℕ) (q : PortName) (t : ℕ) → (is_same_port (port_at Host line) q && (stream == t)) ≡ false
    → (is_same_port (port_at Device line) q && (stream == t)) ≡ false → ((line == q.line) && (stream == t)) ≡ false
another line stream q t host device = grind (arith, nat_tests)

module _ (plan : Plan) (facts : KeyFacts plan) (st : LinkState) (h : History) (e : Event) (w : Verdict)
    (line stream : ℕ)
    (out into : Side → SubKind → List Touch)
    (stands : StreamsAndPacketsStand plan st h) (is : IsOperation plan h e w line stream out into) where
  -- an end of the line, when the slots of the other one are touched too
  touched_end : (side : Side) (ports : LinkState) → Found plan ports h (port_at side line) stream
      → Found plan (touched_at plan ports line stream out into side) ((e, w) ∷ h) (port_at side line) stream
  touched_end side ports found =
      let port = port_at side line in
      touched_there plan ports h ((e, w) ∷ h) port stream (out side) (into side) found
      (manager_after_operation plan h e w port stream (out side) (into side) (is.each side))

  beside_end : (side : Side) (ports : LinkState) (q : PortName) (t : ℕ)
      → (is_same_port (port_at side line) q && (stream == t)) ≡ false
      → find plan (touched_at plan ports line stream out into side) q t ≡ find plan ports q t
  beside_end side ports = touched_elsewhere plan ports (port_at side line) stream (out side) (into side)
      (find plan ports (port_at side line) stream)

  at_other : (q : PortName) (t : ℕ) → (is_same_port (port_at Host line) q && (stream == t)) ≡ false
      → (is_same_port (port_at Device line) q && (stream == t)) ≡ false
      → Found plan (touched_state plan st line stream out into) ((e, w) ∷ h) q t
  at_other q t host device =
      let none = quiet_everywhere w is.quiet q t in
      beside_end Device (touched_at plan st line stream out into Host) q t device ∙ (beside_end Host st q t host
      ∙ stays plan facts st h e w stands is.due_is q t (is.alone q.line t (another line stream q t host device)) none.0
      none.1)

  by_place : (q : PortName) (t : ℕ) (a b : Bool) → (is_same_port (port_at Host line) q && (stream == t)) ≡ a
      → (is_same_port (port_at Device line) q && (stream == t)) ≡ b
      → Found plan (touched_state plan st line stream out into) ((e, w) ∷ h) q t
  by_place q t true b host device =
      let port = port_at Host line in
      at_place port q stream t (Found plan (touched_state plan st line stream out into) ((e, w) ∷ h)) host
      (beside_end Device (touched_at plan st line stream out into Host) port stream refl ∙ touched_end Host st
      (stands.streams port stream))
  by_place q t false true host device =
      let port = port_at Device line in
      at_place port q stream t (Found plan (touched_state plan st line stream out into) ((e, w) ∷ h)) device
      (touched_end Device (touched_at plan st line stream out into Host)
      (beside_end Host st port stream refl ∙ stands.streams port stream))
  by_place q t false false host device = at_other q t host device

pub operation_steps : OperationSteps
operation_steps plan facts st h e w line stream out into stands is = record {
  cause = (is.due_is, stands.cause);
  streams = λ q t. by_place plan facts st h e w line stream out into stands is q t _ _ refl refl;
  packets =
      let first = touched_at plan st line stream out into Host in
      touched_packets plan first (port_at Device line) stream (out Device) (into Device)
      (find plan first (port_at Device line) stream)
      ∙ (touched_packets plan st (port_at Host line) stream (out Host) (into Host)
      (find plan st (port_at Host line) stream)
      ∙ (stands.packets ∙ ap kept_all (sym (sealed_same plan h e w (quiet_seals_none w is.quiet)))));
}
