use Rattle.std.proofs.Common.{◌≡◌, ℕ, Bool, true, false, not, if◌then◌else◌, List, Result, Ok, Err, refl, sym, ap, ◌∙◌}
use Rattle.ide_types.specs.declared.sub.SubKind.{SubKind}
use Rattle.ide_prefix.specs.Packet.{Packet}
use Rattle.spec_stream.specs.Stream.{with_slot, Programmed as ProgrammedSlot}
use Rattle.key_slots.specs.declared.slot.Slot.{Slot as KeySlot}
use Rattle.key_slots.specs.declared.slot.Slot.TheVariants.{Empty, Programmed, Armed, Live}
use Rattle.key_slots.specs.declared.slots.OnlyLive.{OnlyLive}
use Rattle.key_slots.specs.{DrawnKey, is_one, SlotPair, slot_in, with_both, is_only_live, program_answer}
use Rattle.key_slots.specs.{programmed_pair}
use Rattle.sub_stream.specs.declared.receiver.Holds.{Holds}
use Rattle.sub_stream.specs.declared.receiver.Holds.TheVariants.{Nothing, HeldZero, HeldOne, Delivered}
use Rattle.sub_stream.specs.Gathered.{Gathered}
use Rattle.sub_stream.specs.Seen.{slot_as_seen, key_slot, slot_pair}
use Rattle.sub_stream.specs.Receivers.{Receiver, held_zero, held_one, receiver_slots_seen, holds_without, HoldsFew}
use Rattle.sub_stream.specs.Receivers.{with_slots, programmed_receiver}
use Rattle.sub_stream.proofs.Receiving.{other_holds}
use Rattle.sub_stream.proofs.Answering.{view}
use Rattle.sub_stream.proofs.receiver.Rx.program.Goals as goal

allowed : (pair : SlotPair) (k : Bool) (key : List ℕ) (u : Unit {0}) → Ok u ≡ program_answer pair k key
    → is_only_live pair k ≡ false
allowed pair k key u = by_test (is_only_live pair k)
  where
    by_test : (b : Bool)
        → ◌≡◌ {A = Result (Unit {0}) OnlyLive} (Ok u) (if b then Err (record { key = key }) else Ok tt) → b ≡ false
    by_test true e = absurd (cc)
    by_test false e = refl

key_as_seen : (slot : KeySlot) (units : ℕ) (ps : List Packet) → key_slot (slot_as_seen units ps slot) ≡ slot
key_as_seen Empty units ps = refl
key_as_seen (Programmed held) units ps = refl
key_as_seen (Armed held) units ps = refl
key_as_seen (Live held) units ps = refl

pair_as_seen : (pair : SlotPair) (u0 u1 : ℕ) (h : Holds) (ps : List Packet) → pair.sender ≡ false
    → slot_pair false (receiver_slots_seen pair u0 u1 h ps) ≡ pair
pair_as_seen pair u0 u1 h ps s = λ i. record {
  sender = sym s i;
  zero = key_as_seen pair.zero u0 (held_zero h ps) i;
  one = key_as_seen pair.one u1 (held_one h ps) i;
}

placed : (k : Bool) (stream : ℕ) (sub : SubKind) (aggregation u0 u1 : ℕ) (pair : SlotPair) (h : Holds) (unit : Gathered)
    (key : List ℕ) (draw : ℕ) → HoldsFew pair aggregation h unit.packets
    → view stream sub aggregation u0 u1
    (with_both pair.sender k (Programmed (record { key = key; draw = draw }), slot_in pair (not k)))
    (holds_without k h) unit
    ≡ with_slots (view stream sub aggregation u0 u1 pair h unit)
    (with_slot (receiver_slots_seen pair u0 u1 h unit.packets) k (ProgrammedSlot draw key))
placed true stream sub aggregation u0 u1 pair HeldZero unit key draw few =
    rw (other_holds true pair u0 u1 HeldZero aggregation unit.packets few) refl
placed true stream sub aggregation u0 u1 pair HeldOne unit key draw few =
    rw (other_holds true pair u0 u1 HeldOne aggregation unit.packets few) refl
placed true stream sub aggregation u0 u1 pair Nothing unit key draw few =
    rw (other_holds true pair u0 u1 Nothing aggregation unit.packets few) refl
placed true stream sub aggregation u0 u1 pair Delivered unit key draw few =
    rw (other_holds true pair u0 u1 Delivered aggregation unit.packets few) refl
placed false stream sub aggregation u0 u1 pair HeldZero unit key draw few =
    rw (other_holds false pair u0 u1 HeldZero aggregation unit.packets few) refl
placed false stream sub aggregation u0 u1 pair HeldOne unit key draw few =
    rw (other_holds false pair u0 u1 HeldOne aggregation unit.packets few) refl
placed false stream sub aggregation u0 u1 pair Nothing unit key draw few =
    rw (other_holds false pair u0 u1 Nothing aggregation unit.packets few) refl
placed false stream sub aggregation u0 u1 pair Delivered unit key draw few =
    rw (other_holds false pair u0 u1 Delivered aggregation unit.packets few) refl

view-programmed : (k : Bool) (stream : ℕ) (sub : SubKind) (aggregation u0 u1 : ℕ) (pair : SlotPair) (h : Holds)
    (unit : Gathered) (key : List ℕ) (draw : ℕ) → pair.sender ≡ false
    → HoldsFew pair aggregation h unit.packets → is_only_live pair k ≡ false
    → view stream sub aggregation u0 u1 (programmed_pair pair k (record { key = key; draw = draw })) (holds_without k h)
    unit
    ≡ programmed_receiver (view stream sub aggregation u0 u1 pair h unit) k key draw
view-programmed k stream sub aggregation u0 u1 pair h unit key draw s few only =
    let rx : Receiver = view stream sub aggregation u0 u1 pair h unit in
    let held : DrawnKey = record { key = key; draw = draw } in
    let new : SlotPair = with_both pair.sender k (Programmed held, slot_in pair (not k)) in
    let seen : is_only_live (slot_pair false rx.slots) k ≡ false =
    ap (λ p. is_only_live p k) (pair_as_seen pair u0 u1 h unit.packets s) ∙ only in
    ap (λ b. view stream sub aggregation u0 u1 (if b then pair else new) (holds_without k h) unit) only
    ∙ placed k stream sub aggregation u0 u1 pair h unit key draw few
    ∙ sym (ap (λ b. if b then rx else with_slots rx (with_slot rx.slots k (ProgrammedSlot draw key))) seen)

pub returns-in-Ok-clause-receiver : goal.returns-in-Ok-clause-receiver
returns-in-Ok-clause-receiver c =
    let k : Bool = is_one c.args.set in
    let left = c.without-self-inside.ensures ∙ ap (λ b. holds_without b c.self.inside.holds) c.is_one.ensures in
    (λ i. view c.self.inside.stream c.self.inside.sub c.self.inside.aggregation c.self.inside.zero c.self.inside.one
    (c.program.ensures.slots i) (left i) c.self.inside.unit)
    ∙ view-programmed k c.self.inside.stream c.self.inside.sub c.self.inside.aggregation c.self.inside.zero
    c.self.inside.one
    c.self.inside.slots c.self.inside.holds c.self.inside.unit c.args.key c.args.draw
    c.self.invariant.sender c.self.invariant.few
    (allowed c.self.inside.slots k c.args.key c.in-Ok.field-0 c.in-Ok.ensures.answer)
    ∙ ap (λ (rx : Receiver). programmed_receiver rx k c.args.key c.args.draw) c.self.view_is
