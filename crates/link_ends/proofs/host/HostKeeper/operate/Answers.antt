use Rattle.link_ends.proofs.Terms.{sym, subst, DeviceEnd, LinkEnds, IsOperated}
use Rattle.link_ends.proofs.host.HostKeeper.operate.Goals as goal

-- settling leaves the ports
pub returns-clause-operates : goal.returns-clause-operates
returns-clause-operates g c = λ n host device named hosted on asked.
    let l : LinkEnds = c.operate-outcome.new.ends in
    let o = c.operate-outcome.ensures.operates n host device named hosted on asked in
    subst
    (λ (d : DeviceEnd). IsOperated c.args.self.now.keys c.args.ends.now c.args.op c.args.loss n host device
    c.operate-outcome.result c.operate-outcome.new.self (record { host = l.host; device = d }))
    (sym c.settle.ensures)
    (record {
      walked = record {
        outcome = o.walked.outcome;
        stands = record {
          id_is = o.walked.stands.id_is;
          hosted = o.walked.stands.hosted;
          streams = o.walked.stands.streams;
          host = o.walked.stands.host;
          device = o.walked.stands.device;
          requester = o.walked.stands.requester;
        };
      };
      pool = o.pool;
    })
