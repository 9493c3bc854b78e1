use Rattle.link_ends.proofs.Terms.{true, ◌≡◌, ◌∙◌, sym, refl, object_spelling, Some, None, IsSome, slice_set}
use Rattle.link_ends.proofs.Terms.{request_asked, outcome_of, taken_stream, taken_calls, Current, current, asking_after}
use Rattle.link_ends.proofs.Terms.{calls_taken, Exchanged, judged_bytes, lost_message}
use Rattle.std.proofs.Common.{ap, subst}
use Rattle.key_host.specs.Streams.{has_host}
use Rattle.key_host.specs.declared.operation.ExchangeReply.TheVariants as carried
use Rattle.script_events.specs.declared.event.Lost.TheVariants.{Request, Reply}
use Rattle.key_host.specs.declared.judge.Judged.TheVariants.{Lost as NotCarried}
use Rattle.link_ends.proofs.Carried.{IsAsking, is_asking, not_lost, is_lost, IsDelivered, is_delivered, exchange_ends}
use Rattle.link_ends.proofs.Ports.{PortMoves}
use Rattle.link_ends.proofs.Calls.{host_units, device_units, device_interfaces}
use Rattle.ide_port.proofs.Units.{stays}
use Rattle.link_ends.proofs.keeper.KeyKeeper.exchange.Goals as goal

pub returns-in-None-clause-exchange : goal.returns-in-None-clause-exchange
returns-in-None-clause-exchange g c = λ m0 l0 place id host device e a on st asking asked within.
    let k : IsAsking m0 c.self.inside.manager l0 c.args.ends.now place id e a = is_asking _ _ _ _ _ _ _ _ host device _
    _ c.self.view_is on st asking asked in
    let number : c.exchange.result ≡ a.exchange = rw k.current_is at c.exchange.ensures in
    let kept : lost_message c.args.loss a.exchange ≡ None = rw (← number) (sym c.lost_at.ensures ∙ c.in-None.is) in
    let d : IsDelivered l0 id a e c.deliver.new.device c.deref.result.now =
    is_delivered _ _ _ _ _ _ _ _ _ _ _ _ on k.stands within
    (rw (k.current_is, k.stands.hosted) at c.deliver.ensures.device)
    (c.deref.ensures.value ∙ (rw (k.current_is, k.stands.hosted) at c.deliver.ensures.reply)) in
    let judged = c.carried.ensures (request_asked true a e.keeper) in
    exchange_ends _ _ _ _ _ _ _ _ _ _ _ _ _ _ (judged_bytes (request_asked true a e.keeper) c.deref.result.now) d.after
    on
    k.stands
    (not_lost c.args.loss a.exchange _ e.device kept ∙ d.came)
    ((rw (k.current_is, k.stands.hosted) at c.take.ensures.outcome) ∙ ap (λ j. outcome_of true a j) judged)
    ((rw (k.current_is, k.stands.hosted) at c.take.ensures.manager)
    ∙ ap (λ j. record {
      streams = slice_set c.self.inside.manager.streams place (taken_stream true a j e.keeper);
      asking = asking_after place (outcome_of true a j);
    })
    judged)
    (subst (λ j. PortMoves c.args.ends.now.host (taken_calls true a j e.keeper.id) c.take.new.port) judged
    (rw (k.current_is, k.stands.hosted) at c.take.ensures.calls))
    d.port d.requester

pub returns-in-Some-Request-clause-exchange : goal.returns-in-Some-Request-clause-exchange
returns-in-Some-Request-clause-exchange g c = λ m0 l0 place id host device e a on st asking asked within.
    let k : IsAsking m0 c.self.inside.manager l0 c.args.ends.now place id e a = is_asking _ _ _ _ _ _ _ _ host device _
    _ c.self.view_is on st asking asked in
    let number : c.exchange.result ≡ a.exchange = rw k.current_is at c.exchange.ensures in
    let kept : lost_message c.args.loss a.exchange ≡ Some Request =
    rw (← number) (sym c.lost_at.ensures ∙ c.in-Some-Request.is ∙ ap (λ k. Some k) c.in-Some-Request.field-0-is) in
    exchange_ends _ _ _ _ _ _ _ _ _ _ _ _ _ _ NotCarried e.device on k.stands
    (is_lost c.args.loss a.exchange _ e.device Request kept)
    (rw k.current_is at c.take-in-Some-Request.ensures.outcome)
    (rw k.current_is at c.take-in-Some-Request.ensures.manager)
    (rw (k.current_is, k.stands.hosted) at c.take-in-Some-Request.ensures.calls)
    k.stands.device k.stands.requester

pub returns-in-Some-Reply-clause-exchange : goal.returns-in-Some-Reply-clause-exchange
returns-in-Some-Reply-clause-exchange g c = λ m0 l0 place id host device e a on st asking asked within.
    let k : IsAsking m0 c.self.inside.manager l0 c.args.ends.now place id e a = is_asking _ _ _ _ _ _ _ _ host device _
    _ c.self.view_is on st asking asked in
    let number : c.exchange.result ≡ a.exchange = rw k.current_is at c.exchange.ensures in
    let kept : lost_message c.args.loss a.exchange ≡ Some Reply =
    rw (← number) (sym c.lost_at.ensures ∙ c.in-Some-Reply.is ∙ ap (λ k. Some k) c.in-Some-Reply.field-0-is) in
    let d : IsDelivered l0 id a e c.deliver-in-Some-Reply.new.device c.deliver-in-Some-Reply.new.reply.items =
    is_delivered _ _ _ _ _ _ _ _ _ _ _ _ on k.stands within
    (rw (k.current_is, k.stands.hosted) at c.deliver-in-Some-Reply.ensures.device)
    (rw (k.current_is, k.stands.hosted) at c.deliver-in-Some-Reply.ensures.reply) in
    exchange_ends _ _ _ _ _ _ _ _ _ _ _ _ _ _ NotCarried d.after on k.stands
    (is_lost c.args.loss a.exchange _ e.device Reply kept
    ∙ ap (λ (x : Exchanged). let y : Exchanged = record { judged = NotCarried; device = x.device } in y) d.came)
    (rw k.current_is at c.take-in-Some-Reply.ensures.outcome) (rw k.current_is at c.take-in-Some-Reply.ensures.manager)
    (rw (k.current_is, k.stands.hosted) at c.take-in-Some-Reply.ensures.calls)
    d.port d.requester

pub returns-in-None-clause-units : goal.returns-in-None-clause-units
returns-in-None-clause-units g c =
    let there : IsSome (current c.self.inside.manager) = rw (← c.self.view_is) at c.requires in
    record {
      host = host_units _ (λ (a : Current). calls_taken a c.carried.result) _ _ there c.take.ensures.calls;
      device = device_units _ (λ (a : Current). object_spelling (request_asked (has_host a.stream) a.asked a.stream))
          (λ (a : Current). a.asked.draw) _ _ there c.deliver.ensures.device;
      interfaces = device_interfaces _ (λ (a : Current). object_spelling
          (request_asked (has_host a.stream) a.asked a.stream))
          (λ (a : Current). a.asked.draw) _ _ there c.deliver.ensures.device;
    }

pub returns-in-Some-Request-clause-units : goal.returns-in-Some-Request-clause-units
returns-in-Some-Request-clause-units g c =
    let there : IsSome (current c.self.inside.manager) = rw (← c.self.view_is) at c.requires in
    record {
      host = host_units _ (λ (a : Current). calls_taken a carried.Lost) _ _ there
          c.take-in-Some-Request.ensures.calls;
      device = stays 0 c.args.ends.now.device.port;
      interfaces = refl;
    }

pub returns-in-Some-Reply-clause-units : goal.returns-in-Some-Reply-clause-units
returns-in-Some-Reply-clause-units g c =
    let there : IsSome (current c.self.inside.manager) = rw (← c.self.view_is) at c.requires in
    record {
      host = host_units _ (λ (a : Current). calls_taken a carried.Lost) _ _ there c.take-in-Some-Reply.ensures.calls;
      device = device_units _ (λ (a : Current). object_spelling (request_asked (has_host a.stream) a.asked a.stream))
          (λ (a : Current). a.asked.draw) _ _ there
          c.deliver-in-Some-Reply.ensures.device;
      interfaces = device_interfaces _ (λ (a : Current). object_spelling
          (request_asked (has_host a.stream) a.asked a.stream))
          (λ (a : Current). a.asked.draw) _ _ there
          c.deliver-in-Some-Reply.ensures.device;
    }
