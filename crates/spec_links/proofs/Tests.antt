-- Tests of names: ports, sub-streams, draws.
use Rattle.spec_links.proofs.Terms.{arith, false, refl, true, ℕ, ◌==◌, ◌≡◌, nat_tests, Side, SubStream, is_same}
use Rattle.spec_links.proofs.Terms.{is_same_port, PortName, SubKind, received_direction, sent_direction, sub_bits}

pub same_sub : (u v : SubKind) → (sub_bits u == sub_bits v) ≡ true → u ≡ v
same_sub u v e = grind arith

pub same_side : (p q : Side) → (sent_direction p == sent_direction q) ≡ true → p ≡ q
same_side p q e = grind arith

pub same_stream : (s t : SubStream) → is_same s t ≡ true → s ≡ t
same_stream s t is =
    let link : s.line ≡ t.line = grind (arith, nat_tests) in
    let stream : s.stream ≡ t.stream = grind (arith, nat_tests) in
    let direction : s.direction ≡ t.direction = grind (arith, nat_tests) in
    let sub : s.sub ≡ t.sub = same_sub s.sub t.sub (grind (arith, nat_tests)) in
    λ i. record { line = link i; stream = stream i; direction = direction i; sub = sub i }

pub same_port : (p q : PortName) → is_same_port p q ≡ true → p ≡ q
same_port p q is =
    let link : p.line ≡ q.line = grind (arith, nat_tests) in
    let side : p.side ≡ q.side = same_side p.side q.side (grind (arith, nat_tests)) in
    λ i. record { side = side i; line = link i }

pub eqb-refl : (n : ℕ) → (n == n) ≡ true
eqb-refl n = grind (arith, nat_tests)

pub is_same-refl : (s : SubStream) → is_same s s ≡ true
is_same-refl s = rw (eqb-refl s.line, eqb-refl s.stream, eqb-refl s.direction, eqb-refl (sub_bits s.sub)) refl

pub is_same_port-refl : (p : PortName) → is_same_port p p ≡ true
is_same_port-refl p = rw (eqb-refl (sent_direction p.side), eqb-refl p.line) refl

pub eqb-sym : (m n : ℕ) → (m == n) ≡ (n == m)
eqb-sym m n = grind (arith, nat_tests)

-- what a port seals it does not receive
pub out_not_in : (side : Side) → (received_direction side == sent_direction side) ≡ false
out_not_in side = grind arith

pub in_not_out : (side : Side) → (sent_direction side == received_direction side) ≡ false
in_not_out side = grind arith

pub same_in : (p q : Side) → (received_direction p == received_direction q) ≡ (sent_direction p == sent_direction q)
same_in p q = grind arith

-- two ends with one line and one direction are one
pub same_sender : (p q : PortName) → p.line ≡ q.line → sent_direction p.side ≡ sent_direction q.side → p ≡ q
same_sender p q link direction = same_port p q (grind (arith, nat_tests))

pub same_receiver : (p q : PortName) → p.line ≡ q.line → received_direction p.side ≡ received_direction q.side → p ≡ q
same_receiver p q link direction = let sides = same_in p.side q.side in same_port p q (grind (arith, nat_tests))
