-- What was held and what was accepted are packets in their spelling, the last of a unit alone with M.
use Rattle.law_sealing.proofs.Terms.{◌≡◌, ℕ, false, [], ◌∷◌, inl, inr, ◌&&◌, ◌==◌, AllByRecursion, cases_Bool, Plan}
use Rattle.law_sealing.proofs.Terms.{SubStream, History, is_received_under, packets_in_hold, CauseLaw, IsFront}
use Rattle.law_sealing.proofs.Terms.{All-snoc, Came, HeldBy, held_by, packet_that_came, PortName, Event, Held, UnitName}
use Rattle.law_sealing.proofs.Terms.{Packet, FitsPacket}
use Rattle.law_sealing.proofs.Below.{cut_fits}

-- what arrived as a packet fits
pub came_fits : (plan : Plan) (h : History) (e : Event) (port : PortName) (p : Packet) → Came plan h e port p
    → FitsPacket p
came_fits plan h e port p came = cut_fits came.bytes p came.cut

-- what is known of each packet that is held is known of all that were
held_each : (P : Packet → Type 0) (plan : Plan)
    → ((h : History) (e : Event) (port : PortName) (unit : UnitName) (by : HeldBy plan h e port unit) → P by.packet)
    → (h : History) → CauseLaw plan h → (s : SubStream) (j n : ℕ) → AllByRecursion P (packets_in_hold plan h s j n)
unfolding packets_in_hold
held_each P plan known [] cause s j n = tt
held_each P plan known ((e, Held port unit) ∷ h) cause s j n =
    let by = held_by plan h e port unit cause.0 in
    let all = held_each P plan known h cause.1 s j n in
    elim (cases_Bool (is_received_under s j port unit && (unit.unit == n))) [
      | inl here ↦ rw (here, packet_that_came plan h e port by.packet by.came)
          (All-snoc P (packets_in_hold plan h s j n) by.packet all (known h e port unit by))
      | inr other ↦ rw other all
    ]
held_each P plan known (_ ∷ h) cause s j n = held_each P plan known h cause.1 s j n

pub held_front : (plan : Plan) (h : History) → CauseLaw plan h → (s : SubStream) (j n : ℕ)
    → IsFront (packets_in_hold plan h s j n)
held_front plan h cause s j n = held_each (λ (p : Packet). p.prefix.m ≡ false) plan (λ h e port unit by. by.goes_on) h
    cause s j n

pub held_fits : (plan : Plan) (h : History) → CauseLaw plan h → (s : SubStream) (j n : ℕ)
    → AllByRecursion FitsPacket (packets_in_hold plan h s j n)
held_fits plan h cause s j n = held_each FitsPacket plan (λ h e port unit by. came_fits plan h e port by.packet by.came)
    h cause s j n
