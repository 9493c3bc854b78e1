use Rattle.std.proofs.Common.{sym, subst, ◌≤◌}
use Rattle.std.specs.Prelude.{IfSome, Option}
use Rattle.link_stores.specs.declared.link.LinkAccesses.{LinkAccesses}
use Rattle.join_ends.proofs.{set_there}
use Rattle.join_arrivals.proofs.Accesses.{on_err, spared_stay, brings_spared}
use Rattle.join_arrivals.proofs.arriving.bytes_arrive.Goals as goal

pub returns-in_err-spare-2-clause-accesses : goal.returns-in_err-spare-2-clause-accesses
returns-in_err-spare-2-clause-accesses c =
    on_err c.from_residual-in_err-spare-2.result
    (spared_stay c.args.accesses.now c.args.port.line c.at_mut.result.now c.spare-2.new.self c.at_mut.ensures.value
    (record {
      same = c.in_err-spare-2.ensures.reads;
      sizes = c.in_err-spare-2.ensures.sizes;
      leads = c.in_err-spare-2.ensures.leads;
    }))

pub arrive-requires-clause-pages : goal.arrive-requires-clause-pages
arrive-requires-clause-pages c =
    subst (λ (o : Option LinkAccesses). IfSome o (λ (a : LinkAccesses). 16 ≤ a.guarded.spare))
    (sym (set_there c.args.accesses.now c.args.port.line c.at_mut.result.now c.spare-2.new.self
    c.at_mut.ensures.value)) c.in_ok-spare-2.ensures.ok

pub returns-clause-brings : goal.returns-clause-brings
returns-clause-brings c =
    brings_spared c.args.manager.now c.args.end c.args.port c.args.bytes.now c.arrive.result c.args.ends.now
    c.args.trusted.now.contents c.spare.new.self.contents c.args.accesses.now c.at_mut.result.now c.spare-2.new.self
    c.arrive.new.self c.arrive.new.memory.contents c.arrive.new.accesses c.in_ok-spare.ensures.contents
    c.at_mut.ensures.value
    (record {
      same = c.in_ok-spare-2.ensures.reads;
      sizes = c.in_ok-spare-2.ensures.sizes;
      leads = c.in_ok-spare-2.ensures.leads;
    }) c.arrive.ensures.arrives c.arrive.ensures.absent c.arrive.ensures.regions
