use Rattle.all_links.proofs.Finds.{nothing_steps, reserved}
use Rattle.all_links.proofs.Sends.{none_completed}
use Rattle.all_links.proofs.Terms.{sym, ◌∙◌, subst, Links}
use Rattle.all_links.specs.BesideAfter.{BesideStays}
use Rattle.all_links.proofs.links.Links.complete.Goals as goal

pub returns-then-not-has_stream-clause-ends : goal.returns-then-not-has_stream-clause-ends
returns-then-not-has_stream-clause-ends c = λ floor.
    nothing_steps c.args.plan.now c.only.ensures.value c.only.ensures.links c.requires.bounded
    (λ b so h links stands. none_completed c.args.plan.now c.args.self.now
    (record {
      end = c.args.end;
      stream = c.args.stream;
      trusted = c.args.trusted;
      floor = floor;
      bytes = c.args.tlp.now;
    }) c.requires.tlp (sym c.if-not-has_stream.ensures) links)

pub returns-clause-ends : goal.returns-clause-ends
returns-clause-ends c = λ floor. reserved c.args.plan.now c.args.self.now c.reserve_packets.new.self
    c.reserve_packets.ensures.links c.reserve_packets.ensures.packets (c.seal_completion.ensures.ends floor)

pub returns-clause-sides : goal.returns-clause-sides
returns-clause-sides c =
    let stays = subst (λ (m : Links). BesideStays m c.seal_completion.new.self) c.reserve_packets.ensures.links
    c.seal_completion.ensures.sides in
    record {
      keeper = stays.keeper;
      peer_draws = stays.peer_draws;
      devices = stays.devices;
      contents = stays.contents;
    }
