-- What arrives unchanged and in order is no forgery.
use Rattle.law_sealing.proofs.Terms.{◌+◌, ◌≡◌, ℕ, suc, true, List, [], ◌∷◌, ◌++◌, length, Some, slice_get, take, refl}
use Rattle.law_sealing.proofs.Terms.{ap, sym, ◌∙◌, subst, inl, inr, cases_Bool, drop, append_assoc, take-append-drop}
use Rattle.law_sealing.proofs.Terms.{Plan, SubStream, units, units_finished, open_unit, History, ahead_sent, ahead_due}
use Rattle.law_sealing.proofs.Terms.{ArrivedBytes, sent_packets, pending_packets, units_got, received_in, before_tag}
use Rattle.law_sealing.proofs.Terms.{next_unit_name, CauseLaw, ArrivesInOrder, NotForged, WasSealed, OrderIsNoForgery}
use Rattle.law_sealing.proofs.Terms.{units-append, units-end, unit_ending, DrawFacts, StreamsFit, PortName, Event}
use Rattle.law_sealing.proofs.Terms.{Packet, packet_bytes}
use Rattle.law_sealing.proofs.Sums.{element_behind, next_taken}
use Rattle.law_delivery.proofs.Prefixes.{last_tag-snoc}
use Rattle.law_delivery.proofs.Wholes.{after, there, before, fronts_agree}
use Rattle.law_delivery.proofs.GotUnits.{AreGotSoFar}

-- a packet with M ends the unit after those that the packets before it finish
ends_next : (ps : List Packet) (m : ℕ) (p : Packet) → slice_get ps m ≡ Some p → p.prefix.m ≡ true
    → slice_get (units ps) (length (units (take m ps))) ≡ Some (open_unit (take m ps) ++ p ∷ [])
ends_next ps m p is ends =
    let x = open_unit (take m ps) ++ p ∷ [] in
    let rest = units_finished (open_unit (take (suc m) ps)) (drop (suc m) ps) in
    let all : units ps ≡ (units (take m ps) ++ x ∷ []) ++ rest =
    ap units (sym (take-append-drop (suc m) ps))
    ∙ (units-append (take (suc m) ps) (drop (suc m) ps) ∙ ap (λ us. us ++ rest)
    (ap units (next_taken ps m p is) ∙ units-end (take m ps) p ends)) in
    rw (all, append_assoc) (element_behind (units (take m ps)) x rest)

in_order_was_sealed : (plan : Plan) (h : History) → CauseLaw plan h
    → (s : SubStream) (j m : ℕ) (port : PortName) (p : Packet) → slice_get (sent_packets plan h s j) m ≡ Some p
    → p.prefix.m ≡ true → AreGotSoFar plan h s j (take m (sent_packets plan h s j))
    → received_in port (next_unit_name h s j) ≡ s → ahead_sent plan h s j (units_got h s j + 1)
    ≡ ahead_due plan h s (units_got h s j + 1) → WasSealed plan h port (unit_ending p (next_unit_name h s j))
in_order_was_sealed plan h cause s j m port p is ends after there fronts = record {
  unit = pending_packets plan h s j ++ p ∷ [];
  place = units_got h s j;
  numbered = refl;
  finished = rw there (rw (after.count, after.unfinished) at (ends_next (sent_packets plan h s j) m p is ends));
  same_authenticated = rw there refl;
  same_encrypted = rw there refl;
  same_ahead = subst (λ (t : SubStream). ahead_sent plan h t j (units_got h s j + 1)
      ≡ ahead_due plan h t (units_got h s j + 1)) (sym there) fronts;
  same_tag = last_tag-snoc (pending_packets plan h s j) p;
}

pub in_order_not_forged : (plan : Plan) → StreamsFit plan → DrawFacts plan → (h : History) → CauseLaw plan h
    → (e : Event) (s : SubStream) (j m : ℕ) (port : PortName) (p : Packet) → ArrivesInOrder plan h e s j m port p
    → NotForged plan h e
in_order_not_forged plan fits facts h cause e s j m port p arrives a x is tested verified =
    let same : record { port = port; bytes = packet_bytes p } ≡ a = cc (arrives.unchanged, is) in
    let passed = sym (before plan fits facts h cause e s j m port p arrives) ∙ (ap (before_tag plan h) same ∙ tested) in
    subst (λ (b : ArrivedBytes). WasSealed plan h b.port x) same (elim (cases_Bool p.prefix.m) [
      | inl ends ↦
          let same_ending : unit_ending p (next_unit_name h s j) ≡ x = cc (rw ends at passed) in
          let fronts = fronts_agree plan fits facts h cause e s j m port p arrives ends in
          let stands = after plan fits facts h cause e s j m port p arrives in
          let received = there plan fits facts h cause e s j m port p arrives in
          subst (WasSealed plan h port) same_ending
          (in_order_was_sealed plan h cause s j m port p arrives.sealed ends stands received fronts)
      | inr more ↦ absurd (cc (rw more at passed))
    ])

pub order_is_no_forgery : (plan : Plan) → StreamsFit plan → DrawFacts plan → (h : History) → CauseLaw plan h
    → OrderIsNoForgery plan h
order_is_no_forgery plan fits facts [] cause = tt
order_is_no_forgery plan fits facts ((e, v) ∷ h) cause = (
  λ s j m port p arrives. in_order_not_forged plan fits facts h cause.1 e s j m port p arrives,
  order_is_no_forgery
      plan fits facts h cause.1,
)
