use Rattle.std.proofs.Common.{◌≡◌, ◌+◌, ◌≤◌, ℕ, Bool, true, false, List, [], Some, sym, ap, ◌∙◌, subst, refl}
use Rattle.std.proofs.Common.{arith, if◌then◌else◌}
use Rattle.std.specs.Int.{w64, to_be_bytes}
use Rattle.ide_prefix.specs.Packet.{Packet}
use Rattle.ide_prefix.specs.Cut.{packet_of_view}
use Rattle.spec_stream.specs.Sending.{is_posted}
use Rattle.spec_stream.specs.Stream.{PacketOutcome, posted_sum}
use Rattle.sub_stream.specs.{Receiver, answer_taken, receiver_outcome, after_answer}
use Rattle.sub_stream.specs.Gathered.{lent_totals}
use Rattle.sub_stream.specs.Receivers.{is_accepted}
use Rattle.stream_lanes.specs.Arrivals.{ReceiveEnd, IsReceiveLane, lane_outcome, end_after}
use Rattle.stream_lanes.proofs.Taking.{view, taken-right, end-after, taken-kept}
use Rattle.stream_lanes.proofs.receive_lanes.ReceiveLane.take.Goals as goal

packet : goal.After-count → Packet
packet c = packet_of_view c.args.packet.now

end : goal.After-count → ReceiveEnd
end c = view c.self.inside.rx c.self.inside.sub c.self.inside.closed c.self.inside.sum c.self.inside.got
    c.self.inside.total

lent_is : (c : goal.After-count) → lent_totals c.lent_total-lent.result
    ≡ (if c.self.inside.closed then to_be_bytes w64 c.self.inside.total else [])
lent_is c = c.lent_total-lent.ensures ∙ ap (λ (b : List ℕ). if c.self.inside.closed then b else [])
    c.to_be_bytes-total.ensures

taken_is : (c : goal.After-count) → receiver_outcome c.self.inside.rx c.allowed_sum-allowed.result
    (lent_totals c.lent_total-lent.result) (packet c) ≡ lane_outcome (end c) c.args.got (packet c)
unfolding packet end
taken_is c =
    taken-right c.self.inside.rx c.self.inside.sub c.self.inside.closed c.self.inside.sum c.self.inside.got
    c.self.inside.total c.args.got c.allowed_sum-allowed.result
    (lent_totals c.lent_total-lent.result) (packet c) c.self.invariant c.requires.view.0.prefix.posted
    c.allowed_sum-allowed.ensures
    (λ e. subst (λ (x : ReceiveEnd). x.kept.sum ≤ c.args.got) (sym c.self.view_is)
    (c.requires.order (ap (λ (x : ReceiveEnd). is_posted x.sub) (sym c.self.view_is) ∙ e)))
    (lent_is c)

answered : (c : goal.After-count) → Some c.take-taken.result ≡ answer_taken (lane_outcome (end c) c.args.got (packet c))
unfolding packet
answered c = c.take-taken.ensures.answer ∙ ap answer_taken (taken_is c)

pub returns-clause-answer : goal.returns-clause-answer
unfolding packet end
returns-clause-answer c = answered c ∙ ap (λ (e : ReceiveEnd). answer_taken (lane_outcome e c.args.got (packet c)))
    c.self.view_is

-- the receiver after it
new : goal.After-count → Receiver
new c = after_answer c.self.inside.rx (lent_totals c.lent_total-lent.result) (packet c)
    (lane_outcome (end c) c.args.got (packet c))

new_is : (c : goal.After-count) → c.take-taken.new.self ≡ new c
unfolding packet new
new_is c =
    c.take-taken.ensures.receiver
    ∙ ap (λ (t : PacketOutcome). after_answer c.self.inside.rx (lent_totals c.lent_total-lent.result) (packet c) t)
    (taken_is c)

posted_is : (c : goal.After-count) → c.posted-posted.result ≡ posted_sum (new c).delivered
posted_is c = c.posted-posted.ensures.value ∙ ap (λ (rx : Receiver). posted_sum rx.delivered) (new_is c)

pub returns-clause-lane : goal.returns-clause-lane
unfolding packet end new
returns-clause-lane c =
    (λ i. view (new_is c i) c.self.inside.sub c.self.inside.closed
    ((c.count.ensures.sum ∙ ap
    (λ (n : ℕ). if is_accepted c.take-taken.result then c.self.inside.sum + n else c.self.inside.sum) (posted_is c))
    i)
    (c.count.ensures.got i) (c.count.ensures.total i))
    ∙ end-after c.self.inside.rx c.self.inside.sub c.self.inside.closed c.self.inside.sum c.self.inside.got
    c.self.inside.total c.args.got (lent_totals c.lent_total-lent.result) (packet c) _ c.take-taken.result refl
    (answered c)
    ∙ ap (λ (e : ReceiveEnd). end_after e (packet c) (lane_outcome e c.args.got (packet c))) c.self.view_is

small_sum : (b : Bool) (old n new : ℕ) → n ≤ 2040 → new ≡ (if b then old + n else old)
    → new ≤ (if b then old + 2040 else old)
small_sum true old n new few e = omega (arith, e)
small_sum false old n new few e = omega (arith, e)

pub invariant_of-self : goal.invariant_of-self
unfolding packet end new
invariant_of-self c =
    subst (λ (rx : Receiver). IsReceiveLane rx c.self.inside.closed c.count.new.sum c.count.new.got c.count.new.total)
    (sym (new_is c))
    (taken-kept c.self.inside.rx c.self.inside.sub c.self.inside.closed c.self.inside.sum c.self.inside.got
    c.self.inside.total c.args.got (lent_totals c.lent_total-lent.result) (packet c) _ c.take-taken.result
    c.count.new.sum c.count.new.got c.count.new.total c.self.invariant c.requires.view.0.prefix.posted (lent_is c) refl
    (answered c)
    (small_sum (is_accepted c.take-taken.result) c.self.inside.sum c.posted-posted.result c.count.new.sum
    c.posted-posted.ensures.few c.count.ensures.sum)
    c.count.ensures.few c.count.ensures.total)
