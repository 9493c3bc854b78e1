use Rattle.ide_port.proofs.Terms.{[], ap, ◌∙◌, map}
use Rattle.ide_port.proofs.Streams.{state_of, streams-new, states-new}
use Rattle.ide_port.proofs.Keeping.{lends-none}
use Rattle.ide_port.proofs.port.Port.make.Goals as goal

pub invariant_of-result : goal.invariant_of-result
invariant_of-result c = record {
  each = rw (c.in_ok-streams.ensures, c.in_ok-plans.ensures)
      (streams-new c.args.name.side c.args.limit c.args.plans.now);
  lends = lends-none _;
}

pub returns : goal.returns
returns c =
    (λ i. record {
      name = c.args.name;
      plans = c.in_ok-plans.ensures i;
      limit = c.args.limit;
      states = (ap (map state_of) c.in_ok-streams.ensures ∙ states-new c.args.name.side c.args.limit c.args.plans.now)
          i;
      delivered = [];
    })
