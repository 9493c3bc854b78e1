use Rattle.all_links.proofs.Terms.{Dump, ap, sym, ◌∙◌, List, ℕ, links_state, beside_in}
use Rattle.event_verdicts.specs.declared.verdict.Verdict.TheVariants as v
use Rattle.all_links.proofs.Finds.{nothing_changes}
use Rattle.line_arrivals.proofs.{dumps}
use Rattle.all_links.proofs.BesideAfter.{keeps_all}
use Rattle.all_links.proofs.links.Links.dump.Goals as goal

pub returns-in-None-clause-ends : goal.returns-in-None-clause-ends
returns-in-None-clause-ends c plan =
    nothing_changes plan (Dump c.args.packet)
    c.only.ensures.value c.only.ensures.links c.requires.bounded
    (λ b by h links stands. dumps (beside_in c.args.self.now b) plan (links_state plan c.args.self.now)
    c.args.packet _ c.in-None.ensures)

pub returns-in_ok-bytes-in-Some-clause-ends : goal.returns-in_ok-bytes-in-Some-clause-ends
returns-in_ok-bytes-in-Some-clause-ends c plan =
    nothing_changes plan (Dump c.args.packet)
    c.only-in-Some.ensures.value c.only-in-Some.ensures.links c.requires.bounded
    (λ b by h links stands. dumps (beside_in c.args.self.now b) plan (links_state plan c.args.self.now)
    c.args.packet _ c.in-Some.ensures
    ∙ ap (λ (bs : List ℕ). (v.Packet c.args.packet bs, links_state plan c.args.self.now))
    (sym c.in_ok-bytes-in-Some.ensures))

pub returns-in-None-clause-sides : goal.returns-in-None-clause-sides
returns-in-None-clause-sides c = keeps_all c.only.ensures.links

pub returns-in_ok-bytes-in-Some-clause-sides : goal.returns-in_ok-bytes-in-Some-clause-sides
returns-in_ok-bytes-in-Some-clause-sides c = keeps_all c.only-in-Some.ensures.links
