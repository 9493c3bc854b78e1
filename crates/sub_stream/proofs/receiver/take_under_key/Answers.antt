use Rattle.std.proofs.Common.{◌≡◌, ℕ, ◌+◌, true, false, [], ◌∷◌, ◌++◌, length, Some, refl, sym, ap, ◌∙◌, subst}
use Rattle.ide_prefix.specs.Cut.{packet_of_view}
use Rattle.ide_prefix.specs.Units.{packet_without_tag}
use Rattle.spec_stream.specs.Stream.{LiveKey, posted_sum}
use Rattle.sub_stream.specs.declared.answer.Taken.TheVariants as answers
use Rattle.sub_stream.specs.Answers.{answer_taken}
use Rattle.sub_stream.specs.Gathered.{Gathered, with_packet, lent_totals}
use Rattle.sub_stream.specs.Receivers.{is_tagged_behind, BufferAfter}
use Rattle.sub_stream.specs.Seen.{live_key_seen}
use Rattle.sub_stream.specs.Senders.{begun_where_empty}
use Rattle.sub_stream.proofs.Judging.{tagged-in, posted-in, opened_packets-in, length-opened_packets, judged-tag}
use Rattle.sub_stream.proofs.Judging.{judged-order, judged-accepted, le-false, le-true}
use Rattle.sub_stream.proofs.receiver.take_under_key.Goals as goal

pub returns-then-not-is_tagged-clause-answer : goal.returns-then-not-is_tagged-clause-answer
returns-then-not-is_tagged-clause-answer c =
    let p = packet_of_view c.args.packet.now in
    let x : LiveKey = live_key_seen c.args.units c.args.unit.now.packets
    (record { key = c.args.cipher.now; draw = c.args.draw }) in
    let begun : Gathered = begun_where_empty c.args.unit.now (lent_totals c.args.total) (c.args.units + 1) in
    let joined : c.push.new.self ≡ with_packet begun (packet_without_tag p) = c.push.ensures ∙ ap
    (λ (u : Gathered). with_packet u (packet_without_tag p)) c.begin_where_empty.ensures in
    let tag : is_tagged_behind begun.ahead x p ≡ false = tagged-in begun _ x p _ _ refl c.unit_iv-iv.ensures joined
    c.is_tagged.ensures ∙ c.if-not-is_tagged.true in
    sym (ap answer_taken (judged-tag begun.ahead c.args.allowed x p c.if-not-packet.false tag))

pub returns-then-not-is_tagged-clause-buffer : goal.returns-then-not-is_tagged-clause-buffer
returns-then-not-is_tagged-clause-buffer c =
    let p = packet_of_view c.args.packet.now in
    let x : LiveKey = live_key_seen c.args.units c.args.unit.now.packets
    (record { key = c.args.cipher.now; draw = c.args.draw }) in
    let begun : Gathered = begun_where_empty c.args.unit.now (lent_totals c.args.total) (c.args.units + 1) in
    let joined : c.push.new.self ≡ with_packet begun (packet_without_tag p) = c.push.ensures ∙ ap
    (λ (u : Gathered). with_packet u (packet_without_tag p)) c.begin_where_empty.ensures in
    let tag : is_tagged_behind begun.ahead x p ≡ false = tagged-in begun _ x p _ _ refl c.unit_iv-iv.ensures joined
    c.is_tagged.ensures ∙ c.if-not-is_tagged.true in
    subst (λ t. BufferAfter begun x p t c.push.new.self)
    (sym (judged-tag begun.ahead c.args.allowed x p c.if-not-packet.false tag)) tt

pub returns-then-posted-allowed-clause-answer : goal.returns-then-posted-allowed-clause-answer
returns-then-posted-allowed-clause-answer c =
    let p = packet_of_view c.args.packet.now in
    let x : LiveKey = live_key_seen c.args.units c.args.unit.now.packets
    (record { key = c.args.cipher.now; draw = c.args.draw }) in
    let begun : Gathered = begun_where_empty c.args.unit.now (lent_totals c.args.total) (c.args.units + 1) in
    let joined : c.push.new.self ≡ with_packet begun (packet_without_tag p) = c.push.ensures ∙ ap
    (λ (u : Gathered). with_packet u (packet_without_tag p)) c.begin_where_empty.ensures in
    let tag : is_tagged_behind begun.ahead x p ≡ true = tagged-in begun _ x p _ _ refl c.unit_iv-iv.ensures joined
    c.is_tagged.ensures ∙ c.if-not-is_tagged.false in
    let posted : posted_sum (x.packets ++ p ∷ []) ≡ c.posted.result = posted-in begun _ x p _ refl joined
    (c.posted.ensures.value ∙ ap (λ (u : Gathered). posted_sum u.packets) c.packets.ensures) in
    let order = rw (← posted) at (le-false c.posted.result c.args.allowed c.if-posted-allowed.true) in
    sym (ap answer_taken (judged-order begun.ahead c.args.allowed x p c.if-not-packet.false tag order))

pub returns-clause-answer : goal.returns-clause-answer
returns-clause-answer c =
    let p = packet_of_view c.args.packet.now in
    let x : LiveKey = live_key_seen c.args.units c.args.unit.now.packets
    (record { key = c.args.cipher.now; draw = c.args.draw }) in
    let begun : Gathered = begun_where_empty c.args.unit.now (lent_totals c.args.total) (c.args.units + 1) in
    let joined : c.push.new.self ≡ with_packet begun (packet_without_tag p) = c.push.ensures ∙ ap
    (λ (u : Gathered). with_packet u (packet_without_tag p)) c.begin_where_empty.ensures in
    let tag : is_tagged_behind begun.ahead x p ≡ true = tagged-in begun _ x p _ _ refl c.unit_iv-iv.ensures joined
    c.is_tagged.ensures ∙ c.if-not-is_tagged.false in
    let posted : posted_sum (x.packets ++ p ∷ []) ≡ c.posted.result = posted-in begun _ x p _ refl joined
    (c.posted.ensures.value ∙ ap (λ (u : Gathered). posted_sum u.packets) c.packets.ensures) in
    let order = rw (← posted) at (le-true c.posted.result c.args.allowed c.if-posted-allowed.false) in
    let packets = opened_packets-in begun _ _ x p _ refl c.unit_iv-iv.ensures joined c.open.ensures in
    let count : c.count.result ≡ length (x.packets ++ p ∷ []) =
    c.count.ensures.count ∙ ap (λ (u : Gathered). length u.packets) (c.packets-2.ensures ∙ packets) ∙
    length-opened_packets _ _
    (x.packets ++ p ∷ []) in
    ap (λ (n : ℕ). Some (answers.Accepted c.args.draw (c.args.units + 1) n)) count
    ∙ sym (ap answer_taken (judged-accepted begun.ahead c.args.allowed x p c.if-not-packet.false tag order))

pub returns-clause-buffer : goal.returns-clause-buffer
returns-clause-buffer c =
    let p = packet_of_view c.args.packet.now in
    let x : LiveKey = live_key_seen c.args.units c.args.unit.now.packets
    (record { key = c.args.cipher.now; draw = c.args.draw }) in
    let begun : Gathered = begun_where_empty c.args.unit.now (lent_totals c.args.total) (c.args.units + 1) in
    let joined : c.push.new.self ≡ with_packet begun (packet_without_tag p) = c.push.ensures ∙ ap
    (λ (u : Gathered). with_packet u (packet_without_tag p)) c.begin_where_empty.ensures in
    let tag : is_tagged_behind begun.ahead x p ≡ true = tagged-in begun _ x p _ _ refl c.unit_iv-iv.ensures joined
    c.is_tagged.ensures ∙ c.if-not-is_tagged.false in
    let posted : posted_sum (x.packets ++ p ∷ []) ≡ c.posted.result = posted-in begun _ x p _ refl joined
    (c.posted.ensures.value ∙ ap (λ (u : Gathered). posted_sum u.packets) c.packets.ensures) in
    let order = rw (← posted) at (le-true c.posted.result c.args.allowed c.if-posted-allowed.false) in
    subst (λ t. BufferAfter begun x p t c.open.new.self)
    (sym (judged-accepted begun.ahead c.args.allowed x p c.if-not-packet.false tag order))
    (opened_packets-in begun _ _ x p _ refl c.unit_iv-iv.ensures joined c.open.ensures)
