use Rattle.std.proofs.Common.{◌≡◌, ℕ, ◌+◌, Bool, true, false, not, List, [], ◌∷◌, length, arith, Some, refl, sym, ap}
use Rattle.std.proofs.Common.{◌∙◌, subst, if◌then◌else◌}
use Rattle.ide_prefix.specs.Cut.{packet_of_view}
use Rattle.ide_prefix.specs.Packet.{Packet}
use Rattle.spec_stream.specs.Stream.{PacketOutcome}
use Rattle.key_slots.specs.{DrawnKey, SlotPair, slot_in, live_held}
use Rattle.sub_stream.specs.declared.receiver.Holds.{Holds}
use Rattle.sub_stream.specs.Answers.{answer_taken}
use Rattle.sub_stream.specs.Gathered.{Gathered, lent_totals}
use Rattle.sub_stream.specs.Seen.{live_key_seen}
use Rattle.sub_stream.specs.Senders.{begun_where_empty}
use Rattle.sub_stream.specs.Receivers.{
  Receiver,
  fits_held,
  judged_packet,
  receiver_outcome,
  after_answer,
  key_or_answer,
}
use Rattle.sub_stream.specs.Receivers.{BufferAfter, IsReceiver, shown_keyed}
use Rattle.sub_stream.proofs.Receiving.{units_of, early_of, early_is, key_and_fit}
use Rattle.sub_stream.proofs.Answering.{unit_kept, view, judged-is, not_apart, taken-keyed, view-answered}
use Rattle.sub_stream.proofs.Answering.{receiver-answered, aggregation_kept, IsJudged, early-taken, early-after}
use Rattle.sub_stream.proofs.Answering.{view-early, after_early}
use Rattle.sub_stream.proofs.receiver.Rx.take.Goals as goal

early : (c : goal.After-self-1) → early_of c.args.self.now (packet_of_view c.args.packet.now) ≡ Some c.in-Err.taken
early c =
    let p = packet_of_view c.args.packet.now in
    ap (λ (rx : Receiver). early_of rx p) (sym c.self.view_is)
    ∙ early_is p.prefix.k c.self.inside.slots c.self.inside.zero c.self.inside.one c.self.inside.holds
    c.self.inside.aggregation c.self.inside.unit.packets p c.in-Err.taken c.self.invariant.few
    (ap (key_or_answer (live_held (slot_in c.self.inside.slots p.prefix.k))
    (live_held (slot_in c.self.inside.slots (not p.prefix.k)))) (sym c.fits-fits.ensures)
    ∙ sym c.key_if_fits.ensures ∙ ap shown_keyed c.in-Err.is)

pub returns-in-Err-clause-answer : goal.returns-in-Err-clause-answer
returns-in-Err-clause-answer c = early-taken c.args.self.now c.args.allowed (lent_totals c.args.total)
    (packet_of_view c.args.packet.now) c.in-Err.taken (early c)

pub returns-in-Err-clause-receiver : goal.returns-in-Err-clause-receiver
returns-in-Err-clause-receiver c =
    ap (λ (h : Holds). view c.self.inside.stream c.self.inside.sub c.self.inside.aggregation c.self.inside.zero
    c.self.inside.one c.self.inside.slots h c.self.inside.unit)
    c.unless_failed-self-inside.ensures
    ∙ view-early c.self.inside.stream c.self.inside.sub c.self.inside.aggregation c.self.inside.zero
    c.self.inside.one
    c.self.inside.slots c.self.inside.holds c.self.inside.unit c.in-Err.taken
    ∙ ap (λ (rx : Receiver). after_early rx c.in-Err.taken) c.self.view_is
    ∙ sym (early-after c.args.self.now c.args.allowed (lent_totals c.args.total) (packet_of_view c.args.packet.now)
    c.in-Err.taken (early c))

packet : goal.After-self-in-Ok-1 → Packet
packet c = packet_of_view c.args.packet.now

held : goal.After-self-in-Ok-1 → DrawnKey
held c = record { key = c.in-Ok.cipher.now; draw = c.in-Ok.draw }

given : (c : goal.After-self-in-Ok-1) → (live_held (slot_in c.self.inside.slots (packet c).prefix.k) ≡ Some (held c))
    × (c.fits-fits.result ≡ true)
unfolding packet held
given c = key_and_fit _ _ _ _ (sym c.key_if_fits.ensures ∙ ap shown_keyed c.in-Ok.is)

fits : (c : goal.After-self-in-Ok-1) → fits_held c.self.inside.holds (length c.self.inside.unit.packets)
    c.self.inside.aggregation
    (packet c).prefix.k (packet c).prefix.m ≡ true
unfolding packet
fits c = sym c.fits-fits.ensures ∙ (given c).1

answer : goal.After-self-in-Ok-1 → PacketOutcome
answer c =
    judged_packet (begun_where_empty (unit_kept c.self.inside.holds c.self.inside.unit) (lent_totals c.args.total)
    (units_of (packet c).prefix.k c.self.inside.zero c.self.inside.one + 1)).ahead
    c.args.allowed (live_key_seen (units_of (packet c).prefix.k c.self.inside.zero c.self.inside.one)
    (unit_kept c.self.inside.holds c.self.inside.unit).packets (held c)) (packet c)

taken_is : (c : goal.After-self-in-Ok-1)
    → receiver_outcome c.args.self.now c.args.allowed (lent_totals c.args.total) (packet c) ≡ answer c
unfolding packet answer
taken_is c =
    ap (λ (rx : Receiver). receiver_outcome rx c.args.allowed (lent_totals c.args.total) (packet c))
    (sym c.self.view_is)
    ∙ taken-keyed c.self.inside.stream c.self.inside.sub c.self.inside.aggregation c.self.inside.zero c.self.inside.one
    c.self.inside.slots c.self.inside.holds c.self.inside.unit c.args.allowed (lent_totals c.args.total) (packet c)
    (held c) c.self.invariant.few (given c).0 (fits c)

answered : (c : goal.After-self-in-Ok-1) → Some c.take_under_key-taken.result ≡ answer_taken (answer c)
unfolding packet held answer
answered c =
    c.take_under_key-taken.ensures.answer
    ∙ (λ i. answer_taken (judged_packet
    (begun_where_empty (c.keep_held.ensures i) (lent_totals c.args.total) (c.units_in-units.ensures i + 1)).ahead
    c.args.allowed (live_key_seen (c.units_in-units.ensures i) (c.keep_held.ensures i).packets
    (held c)) (packet c)))

buffer : (c : goal.After-self-in-Ok-1) → BufferAfter
    (begun_where_empty (unit_kept c.self.inside.holds c.self.inside.unit) (lent_totals c.args.total)
    (units_of (packet c).prefix.k c.self.inside.zero c.self.inside.one + 1))
    (live_key_seen (units_of (packet c).prefix.k c.self.inside.zero c.self.inside.one)
    (unit_kept c.self.inside.holds c.self.inside.unit).packets (held c)) (packet c) (answer c)
    c.take_under_key-taken.new.unit
unfolding packet held answer
buffer c =
    let Left : ℕ × Gathered → Type 0 = λ y. BufferAfter (begun_where_empty y.1 (lent_totals c.args.total) (y.0 + 1))
    (live_key_seen y.0 y.1.packets (held c)) (packet c)
    (judged_packet (begun_where_empty y.1 (lent_totals c.args.total) (y.0 + 1)).ahead
    c.args.allowed (live_key_seen y.0 y.1.packets (held c)) (packet c)) c.take_under_key-taken.new.unit in
    subst Left (λ i. (c.units_in-units.ensures i, c.keep_held.ensures i)) c.take_under_key-taken.ensures.buffer

tagless : (c : goal.After-self-in-Ok-1) → (packet c).prefix.m ≡ false → (packet c).tag ≡ []
unfolding packet
tagless c m =
    let fits = c.requires.view.0 in
    let long : length (packet c).tag ≡ 0 = fits.tag_size ∙ ap (λ (b : Bool). if b then 12 else 0) m in
    no_bytes (packet c).tag long
  where
    no_bytes : (s : List ℕ) → length s ≡ 0 → s ≡ []
    no_bytes [] e = refl
    no_bytes (b ∷ s) e = absurd (omega (arith, e))

judged_so : (c : goal.After-self-in-Ok-1) → IsJudged (packet c) (answer c)
unfolding answer
judged_so c = judged-is _ c.args.allowed _ (packet c)

pub returns-in-Ok-clause-answer : goal.returns-in-Ok-clause-answer
unfolding packet
returns-in-Ok-clause-answer c = answered c ∙ ap answer_taken (sym (taken_is c))

pub returns-in-Ok-clause-receiver : goal.returns-in-Ok-clause-receiver
unfolding packet
returns-in-Ok-clause-receiver c =
    (λ i. view c.self.inside.stream c.self.inside.sub c.self.inside.aggregation (c.count_accepted.ensures.zero i)
    (c.count_accepted.ensures.one i) (c.count_accepted.ensures.slots i) (c.after-self-inside.ensures i)
    c.take_under_key-taken.new.unit)
    ∙ view-answered c.self.inside.stream c.self.inside.sub c.self.inside.aggregation c.self.inside.zero
    c.self.inside.one
    c.self.inside.slots c.self.inside.holds c.self.inside.unit c.take_under_key-taken.new.unit
    (lent_totals c.args.total)
    (packet c) (held c) c.take_under_key-taken.result (answer c) (given c).0
    (not_apart c.self.inside.holds (length c.self.inside.unit.packets) c.self.inside.aggregation (packet c).prefix.k
    (packet c).prefix.m (fits c)) (tagless c) (judged_so c) (answered c) (buffer c)
    ∙ ap (λ (rx : Receiver). after_answer rx (lent_totals c.args.total) (packet c) (answer c)) c.self.view_is
    ∙ ap (λ (t : PacketOutcome). after_answer c.args.self.now (lent_totals c.args.total) (packet c) t)
    (sym (taken_is c))

pub invariant_of-self-in-Ok : goal.invariant_of-self-in-Ok
unfolding packet
invariant_of-self-in-Ok c =
    let Kept : SlotPair × Holds → Type 0 = λ y. IsReceiver c.self.inside.aggregation y.0 y.1
    c.take_under_key-taken.new.unit
    in
    subst Kept (λ i. (sym c.count_accepted.ensures.slots i, sym c.after-self-inside.ensures i))
    (receiver-answered c.self.inside.aggregation c.self.inside.zero c.self.inside.one
    c.self.inside.slots
    c.self.inside.holds c.self.inside.unit c.take_under_key-taken.new.unit
    (lent_totals c.args.total) (packet c) (held c) c.take_under_key-taken.result (answer c) c.self.invariant (given c).0
    (fits c)
    (judged_so c) (answered c) (buffer c)
    (c.take_under_key-taken.ensures.aggregation ∙ ap (λ (u : Gathered). u.aggregation) c.keep_held.ensures ∙
    aggregation_kept
    c.self.inside.holds
    c.self.inside.unit ∙ c.self.invariant.same_aggregation))
