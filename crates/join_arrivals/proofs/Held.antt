-- On a line whose units have one packet none is ever held: a packet that does not end its unit fails.
use Rattle.law_sealing.proofs.Terms.{◌≡◌, ◌∙◌, ℕ, ◌+◌, ◌==◌, ◌&&◌, Bool, true, false, [], ◌∷◌, length, refl, ap, sym}
use Rattle.law_sealing.proofs.Terms.{arith, nat_tests, inl, inr, cases_Bool, and_parts, not, Plan, History, CauseLaw}
use Rattle.law_sealing.proofs.Terms.{SubStream, Held, is_received_under, is_same, same_stream, received_in}
use Rattle.law_sealing.proofs.Terms.{receiving_sub_stream, received_there, held_by}
unfoldable use Rattle.law_sealing.proofs.Terms.{packets_in_hold}
use Rattle.std.specs.Prelude.{nat_le}
use Rattle.spec_links.specs.History.{pending_packets}
use Rattle.spec_links.specs.Plan.{aggregation_of}

one_holds : (m : Bool) (aggregation n : ℕ) → m ≡ false → aggregation ≡ 1 → (not m && nat_le aggregation (n + 1)) ≡ true
one_holds m aggregation n goes_on one = grind (arith, nat_tests)

pub held_none : (plan : Plan) (h : History) → CauseLaw plan h → (s : SubStream)
    → aggregation_of plan s.line s.stream ≡ 1 → (j n : ℕ) → packets_in_hold plan h s j n ≡ []
unfolding packets_in_hold
held_none plan [] cause s one j n = refl
held_none plan ((e, Held port unit) ∷ h) cause s one j n =
    let before = held_none plan h cause.1 s one j n in
    elim (cases_Bool (is_received_under s j port unit && (unit.unit == n))) [
      | inl is ↦ absurd
          (let by = held_by plan h e port unit cause.0 in
          let tests = and_parts (is_same (received_in port unit) s) (unit.draw == j)
          (and_parts (is_received_under s j port unit) (unit.unit == n) is).0 in
          let there : receiving_sub_stream port by.packet ≡ s = sym
          (received_there plan h port by.packet unit by.passed)
          ∙ same_stream (received_in port unit) s tests.0 in
          let r : SubStream = receiving_sub_stream port by.packet in
          let aggregation = ap (λ (t : SubStream). aggregation_of plan t.line t.stream) there ∙ one in
          let full = one_holds by.packet.prefix.m (aggregation_of plan r.line r.stream)
          (length (pending_packets plan h r unit.draw))
          by.goes_on aggregation in
          cc (full, by.passed.room))
      | inr other ↦ rw other before
    ]
held_none plan (_ ∷ h) cause s one j n = held_none plan h cause.1 s one j n
