use Rattle.all_links.proofs.Terms.{Status, ap, sym, ◌∙◌, none-some, same_Some, StreamStatus, Links, links_state}
use Rattle.event_verdicts.specs.declared.verdict.Verdict.TheVariants as v
use Rattle.all_links.proofs.Finds.{nothing_changes}
use Rattle.all_links.proofs.Resets.{status_read, status_nowhere, status_here}
use Rattle.line_arrivals.proofs.{name_is}
use Rattle.all_links.proofs.BesideAfter.{keeps_all}
use Rattle.all_links.proofs.links.Links.status.Goals as goal

pub returns-in-None-clause-ends : goal.returns-in-None-clause-ends
returns-in-None-clause-ends c plan =
    nothing_changes plan (Status c.args.line c.args.stream)
    c.only.ensures.value c.only.ensures.links c.requires.bounded
    (λ b by h links stands. status_nowhere _ c.args.self.now plan c.args.line c.args.stream links
    c.in-None.ensures)

pub returns-in-None-status-clause-ends : goal.returns-in-None-status-clause-ends
returns-in-None-status-clause-ends c plan =
    let n = name_is _ _ c.args.line c.args.stream c.in-Some.line c.in-Some.stream c.in-Some.ensures in
    nothing_changes plan (Status c.args.line c.args.stream)
    c.only-in-None-status.ensures.value c.only-in-None-status.ensures.links c.requires.bounded
    (λ b by h links stands. absurd
    (none-some _ (status_read c.args.self.now plan h c.args.line c.args.stream _ _ _ links stands n
    c.in-None-status.ensures)))

pub returns-in-Some-status-clause-ends : goal.returns-in-Some-status-clause-ends
returns-in-Some-status-clause-ends c plan =
    let old : Links = c.args.self.now in
    let n = name_is _ _ c.args.line c.args.stream c.in-Some.line c.in-Some.stream c.in-Some.ensures in
    nothing_changes plan (Status c.args.line c.args.stream)
    c.only-in-Some-status.ensures.value c.only-in-Some-status.ensures.links c.requires.bounded
    (λ b by h links stands.
    let same = same_Some _ _
    (status_read old plan h c.args.line c.args.stream _ _ _ links stands n c.in-Some-status.ensures) in
    status_here _ old plan c.args.line c.args.stream links n.there
    ∙ ap (λ (p : StreamStatus × StreamStatus). (v.Status c.args.line c.args.stream p.0 p.1, links_state plan old))
    (sym same)
    ∙ (λ i. (
      v.Status (sym n.line_is i) (sym n.stream_is i) c.in-Some-status.host c.in-Some-status.device,
      links_state
          plan old,
    )))

pub returns-in-None-clause-sides : goal.returns-in-None-clause-sides
returns-in-None-clause-sides c = keeps_all c.only.ensures.links

pub returns-in-None-status-clause-sides : goal.returns-in-None-status-clause-sides
returns-in-None-status-clause-sides c = keeps_all c.only-in-None-status.ensures.links

pub returns-in-Some-status-clause-sides : goal.returns-in-Some-status-clause-sides
returns-in-Some-status-clause-sides c = keeps_all c.only-in-Some-status.ensures.links
