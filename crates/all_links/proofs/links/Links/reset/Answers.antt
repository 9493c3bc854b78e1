use Rattle.all_links.proofs.Terms.{Reset, ap, sym, false}
use Rattle.line_arrivals.specs.{HostKeeper}
use Rattle.all_links.proofs.Finds.{nothing_changes}
use Rattle.all_links.proofs.Resets.{reset_step, resets}
use Rattle.all_links.proofs.BesideAfter.{nothing_resets, reset_beside}
use Rattle.all_links.proofs.links.Links.reset.Goals as goal

pub returns-then-not-has_link-clause-ends : goal.returns-then-not-has_link-clause-ends
returns-then-not-has_link-clause-ends c plan =
    nothing_changes plan (Reset c.args.link c.args.ends.now)
    c.only.ensures.value c.only.ensures.links c.requires.bounded
    (λ b by h links stands. reset_step _ c.args.self.now plan c.args.link c.args.ends.now false links
    c.if-not-has_link.ensures)

pub returns-clause-ends : goal.returns-clause-ends
returns-clause-ends c plan = resets plan c.args.self.now c.args.link c.args.ends.now c.reset.new.self
    c.reset-2.new.self c.requires.bounded (sym c.if-not-has_link.ensures) c.reset.ensures
    (ap (λ (k : HostKeeper). k.keys) c.reset-2.ensures)

pub returns-then-not-has_link-clause-sides : goal.returns-then-not-has_link-clause-sides
returns-then-not-has_link-clause-sides c = nothing_resets c.args.link c.if-not-has_link.ensures c.only.ensures.links

pub returns-clause-sides : goal.returns-clause-sides
returns-clause-sides c =
    reset_beside c.args.self.now c.args.link c.args.ends.now c.reset.new.self c.reset-2.new.self
    (sym c.if-not-has_link.ensures) c.reset.ensures (ap (λ (k : HostKeeper). k.interfaces) c.reset-2.ensures)
    (ap (λ (k : HostKeeper). k.peer_draws) c.reset-2.ensures)
