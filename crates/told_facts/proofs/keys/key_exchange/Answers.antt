use Rattle.std.proofs.Common.{◌≡◌, ℕ, ap, ◌∙◌, true, false}
use Rattle.ide_types.specs.{is_hosted, key_set}
use Rattle.ide_types.specs.declared.key_set.KeySet.{KeySet}
use Rattle.key_slots.specs.{pool_key}
use Rattle.key_host.specs.Exchanges.{end_of, exchange_of}
use Rattle.told_facts.specs.declared.fact.Fact.TheVariants as fact
use Rattle.told_facts.specs.declared.fact.Answer.TheVariants as answer
use Rattle.told_facts.specs.Asked.{asked_request, exchange_of_asked, asked_lane, asked_reply, pool_place}
use Rattle.told_facts.specs.Exchanges.{named_requester}
use Rattle.told_facts.proofs.Exchanges.{exchange_is}
use Rattle.told_facts.proofs.keys.key_exchange.Goals as goal

pub returns : goal.returns
returns c =
    let left = c.args.left in
    let hosted = is_hosted left.line in
    let pool = c.args.plan.now.pool in
    let requester = named_requester c.args.plan.now left.line in
    let a = c.asked_at-asked.result in
    let asks : exchange_of_asked a ≡ exchange_of hosted left.operation (key_set left.set) c.args.n =
    c.asked_at-asked.ensures.exchange
    ∙ ap (λ (s : KeySet). exchange_of hosted left.operation s c.args.n) c.of_bit.ensures.set in
    let key_same : c.pool_key-key.result.now
    ≡ pool_key pool left.draw (pool_place hosted (end_of hosted left.operation c.args.n) (asked_lane a)) = cc in
    let request_same : c.new.result ≡ asked_request left.stream c.pool_key-key.result.now a =
    c.new.ensures ∙ c.in_ok-request.ensures in
    let done_same : c.new-2.result ≡ asked_reply requester left.stream a true =
    c.new-2.ensures ∙ c.in_ok-done.ensures
    ∙ ap (λ (r : ℕ). asked_reply r left.stream a true) c.named_requester-requester.ensures in
    let refused_same : c.new-3.result ≡ asked_reply requester left.stream a false =
    c.new-3.ensures ∙ c.in_ok-refused.ensures
    ∙ ap (λ (r : ℕ). asked_reply r left.stream a false) c.named_requester-requester.ensures in
    ap (λ (n : ℕ). fact.Exchange n c.new.result (answer.Known c.new-2.result c.new-3.result)) c.from.ensures
    ∙ exchange_is pool hosted requester left.stream left.operation left.draw c.args.n a
    (exchange_of hosted left.operation (key_set left.set) c.args.n) c.pool_key-key.result.now c.new.result
    c.new-2.result c.new-3.result c.asked_at-asked.ensures.lane asks key_same request_same done_same refused_same
