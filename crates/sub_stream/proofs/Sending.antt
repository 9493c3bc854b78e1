-- What a GO makes of a sender's slots that are seen.
use Rattle.std.proofs.Common.{◌≡◌, ℕ, Bool, true, false, not, ◌&&◌, ◌||◌, ◌==◌, nat_lt, if◌then◌else◌, List, [], ◌∷◌}
use Rattle.std.proofs.Common.{length, refl, sym, ap, ◌∙◌, subst, arith}
use Rattle.std.proofs.lemmas.Grind.{common_steps}
use Rattle.ide_prefix.specs.Packet.{Packet}
use Rattle.spec_stream.specs.Slots.{is_busy}
use Rattle.key_slots.specs.declared.slot.Slot.{Slot as KeySlot}
use Rattle.key_slots.specs.declared.slot.Slot.TheVariants.{Empty, Programmed, Armed, Live}
use Rattle.key_slots.specs.{DrawnKey, SlotPair, slot_in, with_both, after_go, armed_pair, is_live}
use Rattle.sub_stream.specs.Seen.{slot_as_seen, sender_slots_seen, has_live, is_programmed}
use Rattle.sub_stream.specs.Senders.{gone_slots}

pub some_or_none : (ps : List Packet) → nat_lt 0 (length ps) ≡ not (length ps == 0)
some_or_none [] = refl
some_or_none (p ∷ ps) = grind (arith, common_steps)

-- a slot is busy if it is Live, and it is Live if packets are open
busy-seen : (units : ℕ) (ps : List Packet) (slot : KeySlot) (b : Bool) → (length ps == 0) ≡ b
    → (is_live slot ≡ false → b ≡ true) → is_busy (slot_as_seen units ps slot) ≡ not b
busy-seen units ps Empty b e h = rw (h refl) refl
busy-seen units ps (Programmed held) b e h = rw (h refl) refl
busy-seen units ps (Armed held) b e h = rw (h refl) refl
busy-seen units ps (Live held) b e h = some_or_none ps ∙ ap not e

abbrev pub Goes : Bool → SlotPair → ℕ → List Packet → Type 0
Goes k pair units ps =
    sender_slots_seen (armed_pair pair k (not (length ps == 0)))
    (if is_programmed (slot_in pair k) && not (not (length ps == 0)) then 0 else units) ps
    ≡ gone_slots (sender_slots_seen pair units ps) k

none_open : (ps : List Packet) → ps ≡ [] → (length ps == 0) ≡ true
none_open ps e = rw e refl

goes_programmed : (k : Bool) (held : DrawnKey) (other : KeySlot) (units : ℕ) (ps : List Packet)
    → (is_live other ≡ false → (length ps == 0) ≡ true) → Goes k (with_both true k (Programmed held, other)) units ps
goes_programmed true held other units [] h = rw (busy-seen units [] other true refl (λ _. refl)) refl
goes_programmed false held other units [] h = rw (busy-seen units [] other true refl (λ _. refl)) refl
goes_programmed true held other units (q ∷ qs) h =
    let e : (length (q ∷ qs) == 0) ≡ false = grind (arith, common_steps) in
    rw (busy-seen units (q ∷ qs) other false e (λ no. sym e ∙ h no), e) refl
goes_programmed false held other units (q ∷ qs) h =
    let e : (length (q ∷ qs) == 0) ≡ false = grind (arith, common_steps) in
    rw (busy-seen units (q ∷ qs) other false e (λ no. sym e ∙ h no), e) refl

go_still : (b : Bool) (mine other : KeySlot) → is_programmed mine ≡ false → after_go true b mine other ≡ (mine, other)
go_still b (Programmed held) other e = absurd (cc)
go_still true Empty other e = refl
go_still true (Armed held) other e = refl
go_still true (Live held) other e = refl
go_still false Empty other e = refl
go_still false (Armed held) other e = refl
go_still false (Live held) other e = refl

goes_both : (k : Bool) (mine other : KeySlot) (units : ℕ) (ps : List Packet)
    → ((is_live mine || is_live other) ≡ false → (length ps == 0) ≡ true)
    → Goes k (with_both true k (mine, other)) units ps
goes_both k (Programmed held) other units ps h = goes_programmed k held other units ps h
goes_both true Empty other units ps h = rw (go_still (not (length ps == 0)) Empty other refl) refl
goes_both true (Armed held) other units ps h = rw (go_still (not (length ps == 0)) (Armed held) other refl) refl
goes_both true (Live held) other units ps h = rw (go_still (not (length ps == 0)) (Live held) other refl) refl
goes_both false Empty other units ps h = rw (go_still (not (length ps == 0)) Empty other refl) refl
goes_both false (Armed held) other units ps h = rw (go_still (not (length ps == 0)) (Armed held) other refl) refl
goes_both false (Live held) other units ps h = rw (go_still (not (length ps == 0)) (Live held) other refl) refl

or_comm : (a b : Bool) → (a || b) ≡ (b || a)
or_comm true true = refl
or_comm true false = refl
or_comm false true = refl
or_comm false false = refl

pub as_sender : (pair : SlotPair) → pair.sender ≡ true
    → pair ≡ record { sender = true; zero = pair.zero; one = pair.one }
as_sender pair s = λ i. record { sender = s i; zero = pair.zero; one = pair.one }

pub goes : (k : Bool) (pair : SlotPair) (units : ℕ) (ps : List Packet) → pair.sender ≡ true
    → (has_live pair ≡ false → ps ≡ []) → Goes k pair units ps
goes true pair units ps s h =
    subst (λ (p : SlotPair). Goes true p units ps) (sym (as_sender pair s))
    (goes_both true pair.one pair.zero units ps
    (λ no. none_open ps (h (or_comm (is_live pair.zero) (is_live pair.one) ∙ no))))
goes false pair units ps s h = subst (λ (p : SlotPair). Goes false p units ps) (sym (as_sender pair s))
    (goes_both false pair.zero pair.one units ps (λ no. none_open ps (h no)))
