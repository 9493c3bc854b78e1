use Rattle.link_ends.proofs.Terms.{false, ◌≡◌, ◌∙◌, sym, refl, Some, None, slice_set, request_asked, outcome_of}
use Rattle.link_ends.proofs.Terms.{taken_stream, taken_calls, asking_after, judged_bytes, lost_message, HasStream}
use Rattle.link_ends.proofs.Terms.{PortEnd, ap, subst, IsSome, Current, current, calls_taken, object_spelling}
use Rattle.script_events.specs.declared.event.Lost.TheVariants.{Request, Reply}
use Rattle.key_host.specs.Streams.{end_asked, has_host}
use Rattle.key_host.specs.declared.judge.Judged.TheVariants.{Lost as NotCarried}
use Rattle.join_keys.specs.Paired.{PairExchanged}
use Rattle.link_ends.proofs.Ports.{PortMoves}
use Rattle.link_ends.proofs.PairCarried.{IsPairAsking, pair_is_asking, IsPairDelivered, is_pair_delivered}
use Rattle.link_ends.proofs.PairCarried.{pair_exchange_ends, near_same, pair_lost}
use Rattle.key_host.specs.declared.operation.ExchangeReply.TheVariants as carried
use Rattle.link_ends.specs.PairKeepers.{NoMorePairUnits}
use Rattle.link_ends.proofs.Calls.{host_units, pair_units}
use Rattle.ide_port.proofs.Units.{stays, grow-on}
use Rattle.link_ends.proofs.keeper.KeyKeeper.pair_exchange.Goals as goal

pub returns-in-None-clause-exchange : goal.returns-in-None-clause-exchange
returns-in-None-clause-exchange c = λ m0 l0 place id near far e a on st asking asked within.
    let k : IsPairAsking m0 c.self.inside.manager l0 c.args.ends.now place id e a = pair_is_asking _ _ _ _ _ _ _ _ near
    far _
    _ c.self.view_is on st asking asked in
    let number : c.exchange.result ≡ a.exchange = rw k.current_is at c.exchange.ensures in
    let kept : lost_message c.args.loss a.exchange ≡ None = rw (← number) (sym c.lost_at.ensures ∙ c.in-None.is) in
    let d : IsPairDelivered l0 id a e c.deliver_to_end.new.ends c.deref.result.now =
    is_pair_delivered _ _ _ _ _ _ _ _ _ _ _ _ on k.stands within (end_asked false a) refl
    (rw (k.current_is, k.stands.paired) at c.deliver_to_end.ensures.ends)
    (c.deref.ensures.value ∙ (rw (k.current_is, k.stands.paired) at c.deliver_to_end.ensures.reply)) in
    let judged = c.carried.ensures (request_asked false a e.keeper) in
    let j = judged_bytes (request_asked false a e.keeper) c.deref.result.now in
    let moves : PortMoves c.deliver_to_end.new.ends.near.port (taken_calls false a j e.keeper.id) c.take.new.port =
    subst (λ j. PortMoves c.deliver_to_end.new.ends.near.port (taken_calls false a j e.keeper.id) c.take.new.port)
    judged
    (rw (k.current_is, k.stands.paired) at c.take.ensures.calls) in
    pair_exchange_ends _ c.self.inside.manager _ _ _ _ _ near far _ _ _ _ j d.near d.far k.stands.streams k.stands.id_is
    k.stands.paired
    (pair_lost c.args.loss a.exchange _ e None kept ∙ d.came)
    ((rw (k.current_is, k.stands.paired) at c.take.ensures.outcome) ∙ ap (λ j. outcome_of false a j) judged)
    ((rw (k.current_is, k.stands.paired) at c.take.ensures.manager)
    ∙ ap (λ j. record {
      streams = slice_set c.self.inside.manager.streams place (taken_stream false a j e.keeper);
      asking = asking_after place (outcome_of false a j);
    }) judged)
    (subst (λ (p : PortEnd). HasStream l0.near.port id d.near p)
    (sym (near_same c.deliver_to_end.new.ends.near.port c.take.new.port a j e.keeper.id moves)) d.near_is)
    d.far_is d.near_stays d.far_stays

pub returns-in-Some-Request-clause-exchange : goal.returns-in-Some-Request-clause-exchange
returns-in-Some-Request-clause-exchange c = λ m0 l0 place id near far e a on st asking asked within.
    let k : IsPairAsking m0 c.self.inside.manager l0 c.args.ends.now place id e a = pair_is_asking _ _ _ _ _ _ _ _ near
    far _
    _ c.self.view_is on st asking asked in
    let number : c.exchange.result ≡ a.exchange = rw k.current_is at c.exchange.ensures in
    let kept : lost_message c.args.loss a.exchange ≡ Some Request =
    rw (← number) (sym c.lost_at.ensures ∙ c.in-Some-Request.is ∙ ap (λ k. Some k) c.in-Some-Request.field-0-is) in
    pair_exchange_ends _ c.self.inside.manager _ _ _ _ _ near far _ _ _ _ NotCarried e.near e.far k.stands.streams
    k.stands.id_is
    k.stands.paired (pair_lost c.args.loss a.exchange _ e (Some Request) kept)
    (rw k.current_is at c.take-in-Some-Request.ensures.outcome)
    (rw k.current_is at c.take-in-Some-Request.ensures.manager)
    (subst (λ (p : PortEnd). HasStream l0.near.port id e.near p)
    (sym (near_same c.args.ends.now.near.port c.take-in-Some-Request.new.port a NotCarried e.keeper.id
    (rw (k.current_is, k.stands.paired) at c.take-in-Some-Request.ensures.calls))) k.stands.near)
    k.stands.far k.stands.near_stays k.stands.far_stays

pub returns-in-Some-Reply-clause-exchange : goal.returns-in-Some-Reply-clause-exchange
returns-in-Some-Reply-clause-exchange c = λ m0 l0 place id near far e a on st asking asked within.
    let k : IsPairAsking m0 c.self.inside.manager l0 c.args.ends.now place id e a = pair_is_asking _ _ _ _ _ _ _ _ near
    far _
    _ c.self.view_is on st asking asked in
    let number : c.exchange.result ≡ a.exchange = rw k.current_is at c.exchange.ensures in
    let kept : lost_message c.args.loss a.exchange ≡ Some Reply =
    rw (← number) (sym c.lost_at.ensures ∙ c.in-Some-Reply.is ∙ ap (λ k. Some k) c.in-Some-Reply.field-0-is) in
    let d : IsPairDelivered l0 id a e c.deliver_to_end-in-Some-Reply.new.ends
    c.deliver_to_end-in-Some-Reply.new.reply.items =
    is_pair_delivered _ _ _ _ _ _ _ _ _ _ _ _ on k.stands within (end_asked false a) refl
    (rw (k.current_is, k.stands.paired) at c.deliver_to_end-in-Some-Reply.ensures.ends)
    (rw (k.current_is, k.stands.paired) at c.deliver_to_end-in-Some-Reply.ensures.reply) in
    pair_exchange_ends _ c.self.inside.manager _ _ _ _ _ near far _ _ _ _ NotCarried d.near d.far k.stands.streams
    k.stands.id_is
    k.stands.paired
    (pair_lost c.args.loss a.exchange _ e (Some Reply) kept
    ∙ ap (λ (x : PairExchanged). let y : PairExchanged = record { judged = NotCarried; near = x.near; far = x.far } in
    y)
    d.came)
    (rw k.current_is at c.take-in-Some-Reply.ensures.outcome) (rw k.current_is at c.take-in-Some-Reply.ensures.manager)
    (subst (λ (p : PortEnd). HasStream l0.near.port id d.near p)
    (sym (near_same c.deliver_to_end-in-Some-Reply.new.ends.near.port c.take-in-Some-Reply.new.port a NotCarried
    e.keeper.id (rw (k.current_is, k.stands.paired) at c.take-in-Some-Reply.ensures.calls))) d.near_is)
    d.far_is d.near_stays d.far_stays

pub returns-in-None-clause-units : goal.returns-in-None-clause-units
returns-in-None-clause-units c =
    let there : IsSome (current c.self.inside.manager) = rw (← c.self.view_is) at c.requires in
    let d : NoMorePairUnits c.args.ends.now c.deliver_to_end.new.ends =
    pair_units _ (λ (a : Current). end_asked (has_host a.stream) a.asked)
    (λ (a : Current). object_spelling (request_asked (has_host a.stream) a.asked a.stream))
    (λ (a : Current). a.asked.draw) _ _
    there c.deliver_to_end.ensures.ends in
    record {
      near = grow-on 0 0 c.args.ends.now.near.port c.deliver_to_end.new.ends.near.port c.take.new.port d.near
          (host_units _ (λ (a : Current). calls_taken a c.carried.result) _ _ there c.take.ensures.calls);
      far = d.far;
    }

pub returns-in-Some-Request-clause-units : goal.returns-in-Some-Request-clause-units
returns-in-Some-Request-clause-units c =
    let there : IsSome (current c.self.inside.manager) = rw (← c.self.view_is) at c.requires in
    record {
      near = host_units _ (λ (a : Current). calls_taken a carried.Lost) _ _ there
          c.take-in-Some-Request.ensures.calls;
      far = stays 0 c.args.ends.now.far.port;
    }

pub returns-in-Some-Reply-clause-units : goal.returns-in-Some-Reply-clause-units
returns-in-Some-Reply-clause-units c =
    let there : IsSome (current c.self.inside.manager) = rw (← c.self.view_is) at c.requires in
    let d : NoMorePairUnits c.args.ends.now c.deliver_to_end-in-Some-Reply.new.ends =
    pair_units _ (λ (a : Current). end_asked (has_host a.stream) a.asked)
    (λ (a : Current). object_spelling (request_asked (has_host a.stream) a.asked a.stream))
    (λ (a : Current). a.asked.draw) _ _
    there c.deliver_to_end-in-Some-Reply.ensures.ends in
    record {
      near = grow-on 0 0 c.args.ends.now.near.port c.deliver_to_end-in-Some-Reply.new.ends.near.port
          c.take-in-Some-Reply.new.port d.near
          (host_units _ (λ (a : Current). calls_taken a carried.Lost) _ _ there c.take-in-Some-Reply.ensures.calls);
      far = d.far;
    }
