-- What was got are finished units, and what is pending finishes none.
use Rattle.law_sealing.proofs.Terms.{◌≡◌, ℕ, ◌+◌, true, List, [], ◌∷◌, ◌++◌, length, refl, ap, sym, ◌∙◌, length-append}
use Rattle.law_sealing.proofs.Terms.{append_assoc, inl, inr, cases_Bool, append-nil, Plan, SubStream, units, open_unit}
use Rattle.law_sealing.proofs.Terms.{History, arrived_packet, is_received_under, packets_in_hold, accepted_packets}
use Rattle.law_sealing.proofs.Terms.{pending_packets, units_got, CauseLaw, IsFront, units-end, units-more}
use Rattle.law_sealing.proofs.Terms.{open_unit-end, open_unit-unfinished, accepted_by, packet_that_came, Accepted}
use Rattle.law_sealing.proofs.Terms.{Packet, Some, slice_get, zero, suc, ◌⊎◌}
use Rattle.law_delivery.proofs.Received.{held_front}

-- ---- what was got are finished units, and what is pending finishes none

pub units-front_append : (ps qs : List Packet) → IsFront qs → units (ps ++ qs) ≡ units ps
units-front_append ps [] unfinished = ap units (append-nil ps)
units-front_append ps (q ∷ qs) unfinished = ap units (sym (append_assoc ps (q ∷ []) qs)) ∙
    (units-front_append (ps ++ q ∷ []) qs unfinished.1 ∙ units-more ps q unfinished.0)

-- so many units, and nothing after them
pub record AreUnits (ps : List Packet) (n : ℕ) : Type 0 where
  pub count : length (units ps) ≡ n
  pub none : open_unit ps ≡ []

-- a unit after finished ones
pub one_unit : (ps unfinished : List Packet) (p : Packet) → open_unit ps ≡ [] → IsFront unfinished → p.prefix.m ≡ true
    → units (ps ++ (unfinished ++ p ∷ [])) ≡ units ps ++ (unfinished ++ p ∷ []) ∷ []
one_unit ps unfinished p none is m =
    let open_is : open_unit (ps ++ unfinished) ≡ unfinished = open_unit-unfinished ps unfinished is ∙ ap
    (λ qs. qs ++ unfinished) none in
    ap units (sym (append_assoc ps unfinished (p ∷ [])))
    ∙ (units-end (ps ++ unfinished) p m ∙
    (ap (λ us. us ++ (open_unit (ps ++ unfinished) ++ p ∷ []) ∷ []) (units-front_append ps unfinished is) ∙ ap
    (λ qs. units ps ++ (qs ++ p ∷ []) ∷ []) open_is))

one_unit_more : (ps unfinished : List Packet) (p : Packet) (n : ℕ) → AreUnits ps n → IsFront unfinished
    → p.prefix.m ≡ true → AreUnits (ps ++ (unfinished ++ p ∷ [])) (n + 1)
one_unit_more ps unfinished p n are is m = record {
  count = rw (one_unit ps unfinished p are.none is m, ← are.count)
      (length-append (units ps) ((unfinished ++ p ∷ []) ∷ []));
  none = rw (← append_assoc) (open_unit-end (ps ++ unfinished) p m);
}

pub got_units : (plan : Plan) (h : History) → CauseLaw plan h → (s : SubStream) (j : ℕ)
    → AreUnits (accepted_packets plan h s j) (units_got h s j)
unfolding accepted_packets units_got units open_unit
got_units plan [] cause s j = record { count = refl; none = refl }
got_units plan ((e, Accepted port unit effects) ∷ h) cause s j =
    let by = accepted_by plan h e port unit effects cause.0 in
    let are = got_units plan h cause.1 s j in
    elim (cases_Bool (is_received_under s j port unit)) [
      | inl here ↦
          let m = ap (λ (p : Packet). p.prefix.m) (packet_that_came plan h e port by.packet by.came) ∙ by.ends in
          rw here (one_unit_more (accepted_packets plan h s j) (packets_in_hold plan h s j unit.unit)
          (arrived_packet plan h e) _ are
          (held_front plan h cause.1 s j unit.unit) m)
      | inr other ↦ rw other are
    ]
got_units plan (_ ∷ h) cause s j = got_units plan h cause.1 s j

-- the packets so far are the units that were got and what is pending
pub record AreGotSoFar (plan : Plan) (h : History) (s : SubStream) (j : ℕ) (ps : List Packet) : Type 0 where
  pub count : length (units ps) ≡ units_got h s j
  pub unfinished : open_unit ps ≡ pending_packets plan h s j

pub stands_after : (plan : Plan) (h : History) → CauseLaw plan h → (s : SubStream) (j : ℕ)
    → AreGotSoFar plan h s j (accepted_packets plan h s j ++ pending_packets plan h s j)
stands_after plan h cause s j =
    let are = got_units plan h cause s j in
    let unfinished = held_front plan h cause s j (units_got h s j + 1) in
    record {
      count = ap length (units-front_append (accepted_packets plan h s j) (pending_packets plan h s j) unfinished) ∙
          are.count;
      unfinished = open_unit-unfinished (accepted_packets plan h s j) (pending_packets plan h s j) unfinished ∙ ap
          (λ ps. ps ++ pending_packets plan h s j)
          are.none;
    }

-- ---- the last of a list

pub last_at : {A : Type 0} (xs : List A) (x y : A) (i : ℕ) → slice_get (xs ++ x ∷ []) i ≡ Some y
    → (slice_get xs i ≡ Some y) ⊎ ((y ≡ x) × (i ≡ length xs))
last_at [] x y zero is = inr (cc, refl)
last_at [] x y (suc i) is = absurd cc
last_at (z ∷ xs) x y zero is = inl is
last_at (z ∷ xs) x y (suc i) is = elim (last_at xs x y i is)
    [ inl p ↦ inl p | inr p ↦ inr (p.0, ap (λ (n : ℕ). suc n) p.1) ]
