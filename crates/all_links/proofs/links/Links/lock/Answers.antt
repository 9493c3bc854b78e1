use Rattle.all_links.proofs.Terms.{refl}
use Rattle.script_events.specs.declared.event.InterfaceEvent.TheVariants as ie
use Rattle.all_links.proofs.links.Links.lock.Goals as goal

pub returns-clause-ends : goal.returns-clause-ends
returns-clause-ends c plan = c.operate_interface.ensures.ends plan (ie.Lock c.args.number c.args.loss) refl
