use Rattle.std.proofs.Common.{None, ◌∙◌, ap}
use Rattle.link_stores.specs.declared.link.LinkAccesses.{LinkAccesses}
use Rattle.arrival_verdicts.proofs.Effects.{reads_are}
use Rattle.arrival_verdicts.proofs.verdicts.requested.Goals as goal

pub returns-clause-reads : goal.returns-clause-reads
returns-clause-reads c = ap (λ (a : LinkAccesses). a.host_reads) c.request.ensures.reads
    ∙ reads_are (λ s. None) c.args.came c.request.result c.args.tlp.now.head c.args.access.now.host_reads
